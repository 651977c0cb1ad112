-- A client goes on, among all, where its next line comes in its order.
use Rattle.std.proofs.Common.{arith, ◌≡◌, ◌≢◌, ℕ, ◌+◌, ◌≤◌, ◌<◌, zero, suc, Bool, true, false, List, [], ◌∷◌, ◌++◌, length, slice_get, slice_set, refl, sym, ap, subst, ◌∙◌, inl, inr, eqb}
use Rattle.std.specs.Prelude.{IsTrue, None, Option, Some, filter, if◌then◌else◌, ◌==◌}
use Rattle.std.proofs.lemmas.Bool.{cases_Bool, eq-eqb, eqb-true, true≢false}
use Rattle.aft_model.specs.declared.script.Line.{Line}
use Rattle.aft_model.specs.declared.script.Step.{Step}
use Rattle.aft_model.specs.History.{first_of}
use Rattle.aft_lines.specs.Asked.{Asked}
use Rattle.aft_lines.specs.Lines.{by_words, others, whole_order}
use Rattle.aft_step.proofs.Crowding.{all_sit, listed, none_runs_still}
use Rattle.aft_step.specs.Crowding.{ComesTo, OverBelow}
use Rattle.aft_step.specs.declared.client.Client.{Client}
use Rattle.aft_step.specs.declared.client.Course.{Course}
use Rattle.aft_step.specs.Sitting.{Driven, LeavesOthers, NextInTurn, RanWhole, StandsAt}
use Rattle.aft_step.specs.Worlds.{WorldView, ran_of}
use Rattle.law_accounts.specs.Account.{IsDone, Runs, Stand, Waits}
use Rattle.law_clients.proofs.Words.{by_number, comes_in_turn, its_line, words_go_on}
use Rattle.law_clients.specs.Clients.{Seat, Seated}
use Rattle.law_clients.specs.Words.{WordsLeft, is_waiting, waiting, waiting_of}

-- ---- words that are left

module _ (asked : Asked) (stand later : Line → Stand) (same : (line : Line) → later line ≡ stand line) where
  same_waiting : (xs : List Line) → waiting stand xs ≡ waiting later xs
  same_waiting [] = refl
  same_waiting (x ∷ xs) =
      ap (λ (s : Stand). if is_waiting s then x ∷ waiting stand xs else waiting stand xs) (sym (same x))
      ∙ ap (λ (l : List Line). if is_waiting (later x) then x ∷ l else l) (same_waiting xs)

  same_words : (words : List Step) → WordsLeft asked stand words → WordsLeft asked later words
  same_words words left order is =
      let found = left order is in (
        found.0,
        record {
          over = λ line it. (let was = found.1.over line it in (was.0, same line ∙ was.1));
          others = λ line listed begun. (let was = found.1.others line listed (λ w. begun (same line ∙ w)) in (same line ∙ was.0, was.1));
        },
        found.2 ∙ ap (λ (l : List Line). found.0 ++ by_words words l) (same_waiting asked.script.lines),
      )

-- ---- one client goes on

module _ (asked : Asked) (words rest : List Step) (past : ℕ) (world : WorldView) (clients : List Client) (come : ComesTo asked words past world clients) (i : ℕ) (client : Client) (there : slice_get clients i ≡ Some client)
    (runs : (line : Line) → client.running ≡ None → first_of (waiting_of client.number come.stand asked.script.lines) ≡ Some line → by_words words (waiting come.stand asked.script.lines) ≡ line ∷ by_words rest (others line (waiting come.stand asked.script.lines))) where
  pub driven_so : Driven asked come.stand come.seats world client
  driven_so = record { asks = come.sit.asks; crowd = come.sit.crowd; fit = come.sit.fit; sits = (come.sit.each i client there).sits }

  pub next_so : NextInTurn asked come.stand client
  next_so none line first =
      let it = its_line asked come.sit.asks.script come.sit.crowd.account.differ client.number come.stand line first in
      comes_in_turn asked come.sit.asks.script come.sit.crowd.account.differ come.stand line it.0 words rest come.left it.1 (runs line none first)

  module _ (skips : first_of (waiting_of client.number come.stand asked.script.lines) ≡ None → WordsLeft asked come.stand rest) (whole : Bool) (whole_so : (order : List Line) → whole_order asked ≡ Some order → IsTrue whole) where
    left_behind : (later : Line → Stand) → (IsTrue whole → client.running ≡ None → RanWhole asked client.number come.stand later) → WordsLeft asked later rest
    left_behind later ran order is =
        let idle = come.none_runs order is i client there in
        elim (ran (whole_so order is) idle) [
          | inl none ↦ same_words asked come.stand later none.1 rest (skips none.0) order is
          | inr done ↦
              let it = its_line asked come.sit.asks.script come.sit.crowd.account.differ client.number come.stand done.0 done.1 in
              same_words asked _ later done.2 rest (words_go_on asked come.sit.asks.script come.sit.crowd.account.differ come.stand done.0 it.0 words rest come.left it.1 (runs done.0 idle done.1)) order is
        ]

    pub goes_on : (behind : WorldView) (new : Client) (next : ℕ) → new.number ≡ client.number → new.at ≤ length asked.script.lines → (IsTrue whole → new.running ≡ None)
        → ((later : Line → Stand) × (now : ℕ → Seat) × Driven asked later now behind new × LeavesOthers asked client.number come.stand later come.seats now × (IsTrue whole → client.running ≡ None → RanWhole asked client.number come.stand later))
        → ((later : Line → Stand) (now : ℕ → Seat) → Driven asked later now behind new → LeavesOthers asked client.number come.stand later come.seats now → OverBelow asked later next)
        → ComesTo asked rest next behind (slice_set clients i new)
    goes_on behind new next number within idle went over = record {
      stand = went.0;
      seats = went.1;
      sit = all_sit asked come.stand went.0 come.seats went.1 world behind clients i client new come.sit there number within went.2 went.3;
      left = left_behind went.0 went.4;
      none_runs = none_runs_still asked clients i new come.none_runs (λ order is. idle (whole_so order is));
      over = over went.0 went.1 went.2 went.3;
    }

-- ---- the line at an index, where those before it are over

first_at : (test : Line → Bool) (xs : List Line) (n : ℕ) (x : Line) → slice_get xs n ≡ Some x → IsTrue (test x) → ((i : ℕ) (y : Line) → slice_get xs i ≡ Some y → i < n → test y ≡ false) → first_of (filter test xs) ≡ Some x
first_at test [] n x is passes before = absurd cc
first_at test (y ∷ ys) zero x is passes before = ap (λ (b : Bool). first_of (if b then y ∷ filter test ys else filter test ys)) (subst (λ (l : Line). IsTrue (test l)) (sym (one y x is)) passes) ∙ is
  where
    one : (a b : Line) → Some a ≡ Some b → a ≡ b
    one a b e = cc
first_at test (y ∷ ys) (suc n) x is passes before =
    ap (λ (b : Bool). first_of (if b then y ∷ filter test ys else filter test ys)) (before 0 y refl (omega arith))
    ∙ first_at test ys n x is passes (λ i z at low. before (suc i) z at (omega arith))

first_too : (test : Line → Bool) (xs : List Line) (x : Line) → first_of xs ≡ Some x → IsTrue (test x) → first_of (filter test xs) ≡ Some x
first_too test [] x is passes = absurd cc
first_too test (y ∷ ys) x is passes = ap (λ (b : Bool). first_of (if b then y ∷ filter test ys else filter test ys)) (subst (λ (l : Line). IsTrue (test l)) (sym (one y x is)) passes) ∙ is
  where
    one : (a b : Line) → Some a ≡ Some b → a ≡ b
    one a b e = cc

one_line : (o : Option Line) (a b : Line) → o ≡ Some a → o ≡ Some b → a ≡ b
one_line o a b x y = some_is a b (sym x ∙ y)
  where
    some_is : (a b : Line) → Some a ≡ Some b → a ≡ b
    some_is a b e = cc

waits_not_done : (s : Stand) → s ≡ Waits → s ≡ IsDone → ⊥
waits_not_done s a b = cc

runs_not_done : (s : Stand) → s ≡ Runs → s ≡ IsDone → ⊥
runs_not_done s a b = cc

module _ (asked : Asked) (index : ℕ) (world : WorldView) (clients : List Client) (come : ComesTo asked [] index world clients) (i : ℕ) (client : Client) (there : slice_get clients i ≡ Some client) (line : Line) (at : slice_get asked.script.lines index ≡ Some line) (its : line.client ≡ client.number) (low : client.at ≤ index) where
  -- the client's lines from where it stands aren't over
  not_over : (running : Option Course) → StandsAt asked come.stand come.seats client.number client.at client.hold running → (k : ℕ) (other : Line) → slice_get asked.script.lines k ≡ Some other → other.client ≡ client.number → client.at ≤ k → come.stand other ≡ IsDone → ⊥
  not_over None stands k other at_k own up done = waits_not_done (come.stand other) (stands.1 k other at_k own up) done
  not_over (Some course) runs k other at_k own up done = elim (cases_Bool (eqb k client.at)) [
    | inl same ↦
        let here : other ≡ runs.line = one_line (slice_get asked.script.lines client.at) other runs.line (subst (λ (n : ℕ). slice_get asked.script.lines n ≡ Some other) (eqb-true k client.at same) at_k) runs.there in
        runs_not_done (come.stand other) (ap come.stand here ∙ (subst (Seated asked (ran_of world) come.stand client.number) runs.busy (come.sit.crowd.seated client.number)).1.runs) done
    | inr differs ↦ waits_not_done (come.stand other) (runs.later k other at_k own (above k client.at up (λ e. true≢false (sym (eq-eqb k client.at e) ∙ differs)))) done
  ]
    where
      above : (k n : ℕ) → n ≤ k → k ≢ n → n + 1 ≤ k
      above k n up apart = omega arith

  pub none_between : (k : ℕ) (other : Line) → slice_get asked.script.lines k ≡ Some other → other.client ≡ client.number → client.at ≤ k → k < index → ⊥
  none_between k other at_k own up below = not_over client.running (come.sit.each i client there).sits.stands k other at_k own up (come.over k other at_k below)

  -- it is the first of all that waits
  waits_so : (running : Option Course) → running ≡ None → StandsAt asked come.stand come.seats client.number client.at client.hold running → come.stand line ≡ Waits
  waits_so None none stands = stands.1 index line at its low
  waits_so (Some course) some stands = absurd cc

  first_of_all : client.running ≡ None → first_of (waiting come.stand asked.script.lines) ≡ Some line
  first_of_all none =
      first_at (λ (l : Line). is_waiting (come.stand l)) asked.script.lines index line at (ap is_waiting (waits_so client.running none (come.sit.each i client there).sits.stands))
      (λ k other at_k below. ap is_waiting (come.over k other at_k below))

  pub runs_by_number : (one : Line) → client.running ≡ None → first_of (waiting_of client.number come.stand asked.script.lines) ≡ Some one → by_words [] (waiting come.stand asked.script.lines) ≡ one ∷ by_words [] (others one (waiting come.stand asked.script.lines))
  runs_by_number one none first =
      let same : line ≡ one = one_line (first_of (waiting_of client.number come.stand asked.script.lines)) line one (first_too (λ (l : Line). l.client == client.number) (waiting come.stand asked.script.lines) line (first_of_all none) (eq-eqb line.client client.number its)) first in
      subst (λ (l : Line). by_words [] (waiting come.stand asked.script.lines) ≡ l ∷ by_words [] (others l (waiting come.stand asked.script.lines))) same
      (by_number asked come.sit.asks.script come.sit.crowd.account.differ come.stand line (first_of_all none))

  -- behind it one line more is over
  pub one_more_over : (behind : WorldView) (new : Client) → new.number ≡ client.number → index < new.at → (later : Line → Stand) (now : ℕ → Seat) → Driven asked later now behind new → LeavesOthers asked client.number come.stand later come.seats now → OverBelow asked later (index + 1)
  one_more_over behind new number past later now driven leaves k other at_k below = elim (cases_Bool (eqb other.client client.number)) [
    | inl same ↦ driven.sits.behind k other at_k (eqb-true other.client client.number same ∙ sym number) (before k index new.at below past)
    | inr differs ↦
        let apart : other.client ≢ client.number = λ e. true≢false (sym (eq-eqb other.client client.number e) ∙ differs) in
        leaves.lines other (listed asked k other at_k) apart ∙ come.over k other at_k (earlier (eqb k index) refl apart)
  ]
    where
      before : (k n at : ℕ) → k < n + 1 → n < at → k < at
      before k n at a b = omega arith

      low_so : (k n : ℕ) → k < n + 1 → k ≢ n → k < n
      low_so k n a b = omega arith

      earlier : (same : Bool) → eqb k index ≡ same → other.client ≢ client.number → k < index
      earlier true is apart = absurd (apart (ap (λ (l : Line). l.client) (one_line (slice_get asked.script.lines index) other line (subst (λ (n : ℕ). slice_get asked.script.lines n ≡ Some other) (eqb-true k index is) at_k) at) ∙ its))
      earlier false is apart = low_so k index below (λ e. true≢false (sym (eq-eqb k index e) ∙ is))

-- where the client is past it, the line is over
module _ (asked : Asked) (index : ℕ) (world : WorldView) (clients : List Client) (come : ComesTo asked [] index world clients) (i : ℕ) (client : Client) (there : slice_get clients i ≡ Some client) (line : Line) (at : slice_get asked.script.lines index ≡ Some line) (its : line.client ≡ client.number) (past : client.at ≤ index → ⊥) where
  pub done_so : ComesTo asked [] (index + 1) world clients
  done_so = record {
    stand = come.stand;
    seats = come.seats;
    sit = come.sit;
    left = come.left;
    none_runs = come.none_runs;
    over = λ k other at_k below. by_place (eqb k index) k other at_k below refl;
  }
    where
      high : (n m : ℕ) → (m ≤ n → ⊥) → n < m
      high n m apart = omega arith

      low_so : (k n : ℕ) → k < n + 1 → k ≢ n → k < n
      low_so k n a b = omega arith

      by_place : (same : Bool) (k : ℕ) (other : Line) → slice_get asked.script.lines k ≡ Some other → k < index + 1 → eqb k index ≡ same → come.stand other ≡ IsDone
      by_place true k other at_k below is =
          let here : other ≡ line = one_line (slice_get asked.script.lines index) other line (subst (λ (n : ℕ). slice_get asked.script.lines n ≡ Some other) (eqb-true k index is) at_k) at in
          ap come.stand here ∙ (come.sit.each i client there).sits.behind index line at its (high index client.at past)
      by_place false k other at_k below is = come.over k other at_k (low_so k index below (λ e. true≢false (sym (eq-eqb k index e) ∙ is)))
