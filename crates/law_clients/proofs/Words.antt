-- Words that run lines whole run them in their order.
use Rattle.std.proofs.Common.{arith, ◌≡◌, ◌≢◌, ℕ, ◌+◌, ◌≤◌, ◌<◌, suc, Bool, true, false, not, List, [], ◌∷◌, ◌++◌, length, ltb, refl, sym, ap, subst, ◌∙◌, inl, inr, append-nil}
use Rattle.std.specs.Prelude.{IsFalse, IsTrue, None, Option, Some, filter, if◌then◌else◌, ◌==◌}
use Rattle.std.specs.List.{list_all}
use Rattle.std.proofs.lemmas.Bool.{and_parts, cases_Bool, eq-eqb, eqb-true, false_from_ne_true, ltb-true, true≢false}
use Rattle.aft_model.proofs.Histories.{In, all_at, in_back, in_front}
use Rattle.aft_model.proofs.Lists.{in_filter, in_snoc}
use Rattle.aft_model.specs.declared.caller.By.{By}
use Rattle.aft_model.specs.declared.script.Line.{Line}
use Rattle.aft_model.specs.declared.script.Order.{Order}
use Rattle.aft_model.specs.declared.script.Step.{Step}
use Rattle.aft_model.specs.History.{each_after, first_of}
use Rattle.aft_model.specs.ScanRun.{same_line}
use Rattle.aft_lines.specs.Asked.{Asked}
use Rattle.aft_lines.specs.FinishedText.{line_of}
use Rattle.aft_lines.specs.LegalTrace.{is_numbered_behind, rank, rank_from}
use Rattle.aft_lines.specs.Lines.{after_word, background_lines, by_words, lines, order_by, others}
use Rattle.law_accounts.proofs.GoesOn.{same_is}
use Rattle.law_accounts.specs.Account.{IsDone, Runs, Stand, Waits}
use Rattle.law_claims.proofs.Scenes.{by_itself, same_by}
use Rattle.law_clients.specs.Clients.{ComesInTurn}
use Rattle.law_clients.specs.Words.{AreDone, WordsLeft, is_waiting, waiting, waiting_of}
use Rattle.law_driver.specs.Kept.{with_stand}
use Rattle.law_held.specs.Desk.{LinesDiffer, is_script}

-- ---- ranks in a list that has been run to here

module _ (line : Line) (later : List Line) where
  -- who stands in front has a rank below
  low_rank : (one : Line) (from : ℕ) (front : List Line) → In one front → rank_from from (line_of one) (front ++ line ∷ later) ≤ from + length front
  low_rank one from [] none = absurd none
  low_rank one from (x ∷ xs) among = cases (λ it. low_rank one (suc from) xs it) among (same_line (line_of one) (line_of x)) refl
    where
      cases : (In one xs → rank_from (suc from) (line_of one) (xs ++ line ∷ later) ≤ suc from + length xs) → In one (x ∷ xs) → (same : Bool) → same_line (line_of one) (line_of x) ≡ same
          → (if same then from else rank_from (suc from) (line_of one) (xs ++ line ∷ later)) ≤ from + suc (length xs)
      cases more it true is = omega arith
      cases more (inl here) false is = absurd (true≢false (sym (subst (λ (l : Line). IsTrue (same_line (line_of l) (line_of x))) (sym here) (by_itself (line_of x))) ∙ is))
      cases more (inr it) false is = let low = more it in omega arith

  -- the line itself has the next one
  own_rank : (from : ℕ) (front : List Line) → ((one : Line) → In one front → IsFalse (same_line (line_of line) (line_of one))) → rank_from from (line_of line) (front ++ line ∷ later) ≡ from + length front
  own_rank from [] apart = ap (λ (b : Bool). if b then from else rank_from (suc from) (line_of line) later) (by_itself (line_of line)) ∙ zero from
    where
      zero : (n : ℕ) → n ≡ n + 0
      zero n = omega arith
  own_rank from (x ∷ xs) apart =
      ap (λ (b : Bool). if b then from else rank_from (suc from) (line_of line) (xs ++ line ∷ later)) (apart x (inl refl))
      ∙ own_rank (suc from) xs (λ one among. apart one (inr among)) ∙ more from (length xs)
    where
      more : (n m : ℕ) → suc n + m ≡ n + suc m
      more n m = omega arith

-- ---- lines that wait

first_in : (xs : List Line) (x : Line) → first_of xs ≡ Some x → In x xs
first_in [] x is = absurd cc
first_in (y ∷ ys) x is = inl (one y x is)
  where
    one : (a b : Line) → Some a ≡ Some b → b ≡ a
    one a b e = cc

waits_so : (s : Stand) → IsTrue (is_waiting s) → s ≡ Waits
waits_so Waits is = refl
waits_so Runs is = absurd cc
waits_so IsDone is = absurd cc

not_waiting : (s : Stand) → s ≡ IsDone → is_waiting s ≡ false
not_waiting s is = ap is_waiting is

filter_filter : (one other both : Line → Bool) (xs : List Line) → ((x : Line) → In x xs → both x ≡ (if other x then one x else false)) → filter one (filter other xs) ≡ filter both xs
filter_filter one other both [] same = refl
filter_filter one other both (x ∷ xs) same = cases (other x) (one x) (both x) refl refl (same x (inl refl)) (filter_filter one other both xs (λ y among. same y (inr among)))
  where
    cases : (o n b : Bool) → one x ≡ n → other x ≡ o → b ≡ (if o then n else false) → filter one (filter other xs) ≡ filter both xs → filter one (if o then x ∷ filter other xs else filter other xs) ≡ (if b then x ∷ filter both xs else filter both xs)
    cases true true b is was both_is rest = ap (λ (t : Bool). if t then x ∷ filter one (filter other xs) else filter one (filter other xs)) is ∙ ap (λ (l : List Line). x ∷ l) rest ∙ ap (λ (t : Bool). if t then x ∷ filter both xs else filter both xs) (sym both_is)
    cases true false b is was both_is rest = ap (λ (t : Bool). if t then x ∷ filter one (filter other xs) else filter one (filter other xs)) is ∙ rest ∙ ap (λ (t : Bool). if t then x ∷ filter both xs else filter both xs) (sym both_is)
    cases false n b is was both_is rest = rest ∙ ap (λ (t : Bool). if t then x ∷ filter both xs else filter both xs) (sym both_is)

filter_all : (test : Line → Bool) (xs : List Line) → ((x : Line) → In x xs → IsTrue (test x)) → filter test xs ≡ xs
filter_all test [] each = refl
filter_all test (x ∷ xs) each = ap (λ (t : Bool). if t then x ∷ filter test xs else filter test xs) (each x (inl refl)) ∙ ap (λ (l : List Line). x ∷ l) (filter_all test xs (λ y among. each y (inr among)))

-- ---- numbers of a script

numbered_above : (before xs : List Line) → IsTrue (each_after is_numbered_behind before xs) → (one other : Line) → In one before → In other xs → one.number < other.number
numbered_above before [] ascend one other listed none = absurd none
numbered_above before (x ∷ xs) ascend one other listed (inl here) =
    let parts = and_parts (is_numbered_behind before x) (each_after is_numbered_behind (before ++ x ∷ []) xs) ascend in
    subst (λ (l : Line). one.number < l.number) (sym here) (ltb-true one.number x.number (all_at (λ (l : Line). ltb l.number x.number) one before listed parts.0))
numbered_above before (x ∷ xs) ascend one other listed (inr among) =
    let parts = and_parts (is_numbered_behind before x) (each_after is_numbered_behind (before ++ x ∷ []) xs) ascend in
    numbered_above (before ++ x ∷ []) xs parts.1 one other (in_front one before (x ∷ []) listed) among

less : (a b : ℕ) → a < b → a ≡ b → ⊥
less a b lt e = omega arith

-- one number is of one line
number_is : (before xs : List Line) → IsTrue (each_after is_numbered_behind before xs) → (one other : Line) → In one xs → In other xs → one.number ≡ other.number → one ≡ other
number_is before [] ascend one other none listed same = absurd none
number_is before (x ∷ xs) ascend one other (inl here) (inl there) same = here ∙ sym there
number_is before (x ∷ xs) ascend one other (inl here) (inr there) same =
    let parts = and_parts (is_numbered_behind before x) (each_after is_numbered_behind (before ++ x ∷ []) xs) ascend in
    absurd (less one.number other.number (numbered_above (before ++ x ∷ []) xs parts.1 one other (in_back one before (x ∷ []) (inl here)) there) same)
number_is before (x ∷ xs) ascend one other (inr here) (inl there) same =
    let parts = and_parts (is_numbered_behind before x) (each_after is_numbered_behind (before ++ x ∷ []) xs) ascend in
    absurd (less other.number one.number (numbered_above (before ++ x ∷ []) xs parts.1 other one (in_back other before (x ∷ []) (inl there)) here) (sym same))
number_is before (x ∷ xs) ascend one other (inr here) (inr there) same = number_is (before ++ x ∷ []) xs (and_parts (is_numbered_behind before x) (each_after is_numbered_behind (before ++ x ∷ []) xs) ascend).1 one other here there same

-- the first that passes a test, and the others that do
first_and_others : (test : Line → Bool) (before xs : List Line) (line : Line) → IsTrue (each_after is_numbered_behind before xs) → first_of (filter test xs) ≡ Some line → filter test xs ≡ line ∷ others line (filter test xs)
first_and_others test before [] line ascend is = absurd cc
first_and_others test before (x ∷ xs) line ascend is = cases (first_and_others test (before ++ x ∷ []) xs line parts.1) (test x) is
  where
    parts : IsTrue (is_numbered_behind before x) × IsTrue (each_after is_numbered_behind (before ++ x ∷ []) xs)
    parts = and_parts (is_numbered_behind before x) (each_after is_numbered_behind (before ++ x ∷ []) xs) ascend

    some_is : (a b : Line) → Some a ≡ Some b → a ≡ b
    some_is a b e = cc

    behind : (y : Line) → In y (filter test xs) → IsTrue (not (y.number == x.number))
    behind y among = ap not (false_from_ne_true _ (λ same. less x.number y.number (numbered_above (before ++ x ∷ []) xs parts.1 x y (in_back x before (x ∷ []) (inl refl)) (in_filter test y xs among).0) (sym (eqb-true y.number x.number same))))

    alone : x ∷ filter test xs ≡ x ∷ others x (x ∷ filter test xs)
    alone =
        ap (λ (l : List Line). x ∷ l)
        (sym (ap (λ (t : Bool). if not t then x ∷ others x (filter test xs) else others x (filter test xs)) (eq-eqb x.number x.number refl) ∙ filter_all (λ (l : Line). not (l.number == x.number)) (filter test xs) behind))

    cases : (first_of (filter test xs) ≡ Some line → filter test xs ≡ line ∷ others line (filter test xs)) → (t : Bool) → first_of (if t then x ∷ filter test xs else filter test xs) ≡ Some line → (if t then x ∷ filter test xs else filter test xs) ≡ line ∷ others line (if t then x ∷ filter test xs else filter test xs)
    cases more true first = subst (λ (l : Line). (x ∷ filter test xs) ≡ l ∷ others l (x ∷ filter test xs)) (some_is x line first) alone
    cases more false first = more first

module _ (asked : Asked) (script : IsTrue (is_script asked.script.lines)) (differ : LinesDiffer asked) where
  in_lines : (one : Line) → In one asked.script.lines → In one (lines asked)
  in_lines one among = in_front one (asked.script.lines ++ asked.asks) (background_lines asked.order asked.settings) (in_front one asked.script.lines asked.asks among)

  ascend : IsTrue (each_after is_numbered_behind [] asked.script.lines)
  ascend = (and_parts (each_after is_numbered_behind [] asked.script.lines) (list_all (λ (l : Line). not (l.client == 0)) asked.script.lines) script).0

  module _ (stand : Line → Stand) (line : Line) (among : In line asked.script.lines) where
    abbrev later : Line → Stand
    later = with_stand line IsDone stand

    its_stand : (x : Line) → IsTrue (same_line (line_of x) (line_of line)) → later x ≡ IsDone
    its_stand x same = ap (λ (b : Bool). if b then IsDone else stand x) same

    other_stand : (x : Line) → IsFalse (same_line (line_of x) (line_of line)) → later x ≡ stand x
    other_stand x differs = ap (λ (b : Bool). if b then IsDone else stand x) differs

    same_is_line : (x : Line) → In x (lines asked) → IsTrue (same_line (line_of x) (line_of line)) → x ≡ line
    same_is_line x listed same = same_is asked differ x line listed (in_lines line among) same

    -- without the line, those that wait are those that wait once it is over
    others_wait : others line (waiting stand asked.script.lines) ≡ waiting later asked.script.lines
    others_wait = filter_filter (λ (l : Line). not (l.number == line.number)) (λ (l : Line). is_waiting (stand l)) (λ (l : Line). is_waiting (later l)) asked.script.lines each
      where
        both_false : (b : Bool) → false ≡ (if b then false else false)
        both_false true = refl
        both_false false = refl

        as_it_is : (b : Bool) → b ≡ (if b then true else false)
        as_it_is true = refl
        as_it_is false = refl

        apart : (x : Line) → In x asked.script.lines → IsFalse (same_line (line_of x) (line_of line)) → (x.number == line.number) ≡ false
        apart x listed differs = false_from_ne_true _ (λ same. true≢false (sym (subst (λ (l : Line). IsTrue (same_line (line_of x) (line_of l))) (number_is [] asked.script.lines ascend x line listed among (eqb-true x.number line.number same)) (by_itself (line_of x))) ∙ differs))

        each : (x : Line) → In x asked.script.lines → is_waiting (later x) ≡ (if is_waiting (stand x) then not (x.number == line.number) else false)
        each x listed = elim (cases_Bool (same_line (line_of x) (line_of line))) [
          | inl same ↦
              ap is_waiting (its_stand x same) ∙ both_false (is_waiting (stand x))
              ∙ sym (ap (λ (b : Bool). if is_waiting (stand x) then not b else false) (eq-eqb x.number line.number (ap (λ (l : Line). l.number) (same_is_line x (in_lines x listed) same))))
          | inr differs ↦
              ap is_waiting (other_stand x differs) ∙ as_it_is (is_waiting (stand x))
              ∙ sym (ap (λ (b : Bool). if is_waiting (stand x) then not b else false) (apart x listed differs))
        ]

    module _ (words rest : List Step) (left : WordsLeft asked stand words) (waits : stand line ≡ Waits) (runs : by_words words (waiting stand asked.script.lines) ≡ line ∷ by_words rest (others line (waiting stand asked.script.lines))) where
      abbrev more : List Line
      more = by_words rest (others line (waiting stand asked.script.lines))

      pub comes_in_turn : ComesInTurn asked stand line
      comes_in_turn whole is other listed begun =
          let found = left whole is in
          let its = found.1.others other listed begun in
          (its.0, behind found.0 found.1 (found.2 ∙ ap (λ (l : List Line). found.0 ++ l) runs) its.1)
        where
          behind : (done : List Line) → AreDone asked stand done → whole ≡ done ++ line ∷ more → In other done → rank whole (line_of other) ≤ rank whole (line_of line)
          behind done are order it =
              subst (λ (o : List Line). rank o (line_of other) ≤ rank o (line_of line)) (sym order)
              (subst (λ (n : ℕ). rank (done ++ line ∷ more) (line_of other) ≤ n)
              (sym (own_rank line more 1 done (λ one within. false_from_ne_true _ (λ same.
              let over = are.over one within in
              never (stand line) waits (ap stand (sym (same_is_line one over.0 (subst (λ (b : By). IsTrue (same_line b (line_of line))) (same_by (line_of line) (line_of one) same) (by_itself (line_of line))))) ∙ over.1)))))
              (low_rank line more other 1 done it))
            where
              never : (s : Stand) → s ≡ Waits → s ≡ IsDone → ⊥
              never s waits done = cc

      pub words_go_on : WordsLeft asked later rest
      words_go_on whole is =
          let found = left whole is in (
            found.0 ++ line ∷ [],
            record { over = over found.0 found.1; others = begun found.0 found.1 },
            found.2 ∙ ap (λ (l : List Line). found.0 ++ l) (runs ∙ ap (λ (l : List Line). line ∷ by_words rest l) others_wait) ∙ joined found.0 (by_words rest (waiting later asked.script.lines)),
          )
        where
          joined : (xs ys : List Line) → xs ++ line ∷ ys ≡ (xs ++ line ∷ []) ++ ys
          joined [] ys = refl
          joined (x ∷ xs) ys = ap (λ (l : List Line). x ∷ l) (joined xs ys)

          over : (done : List Line) → AreDone asked stand done → (x : Line) → In x (done ++ line ∷ []) → In x (lines asked) × (later x ≡ IsDone)
          over done are x it = elim (in_snoc x done line it) [
            | inl before ↦ (let was = are.over x before in (was.0, elim (cases_Bool (same_line (line_of x) (line_of line))) [ inl same ↦ its_stand x same | inr differs ↦ other_stand x differs ∙ was.1 ]))
            | inr own ↦ (subst (λ (l : Line). In l (lines asked)) (sym own) (in_lines line among), its_stand x (subst (λ (l : Line). IsTrue (same_line (line_of l) (line_of line))) (sym own) (by_itself (line_of line))))
          ]

          begun : (done : List Line) → AreDone asked stand done → (x : Line) → In x (lines asked) → later x ≢ Waits → (later x ≡ IsDone) × In x (done ++ line ∷ [])
          begun done are x listed not_waits = elim (cases_Bool (same_line (line_of x) (line_of line))) [
            | inl same ↦ (its_stand x same, in_back x done (line ∷ []) (inl (same_is_line x listed same)))
            | inr differs ↦
                let was = are.others x listed (λ w. not_waits (other_stand x differs ∙ w)) in
                (other_stand x differs ∙ was.0, in_front x done (line ∷ []) was.1)
          ]

  -- ---- the next word

  -- a word runs the first line of its client that waits
  pub by_word : (stand : Line → Stand) (line : Line) (word : Step) (rest : List Step) → first_of (waiting_of word.client stand asked.script.lines) ≡ Some line → by_words (word ∷ rest) (waiting stand asked.script.lines) ≡ line ∷ by_words rest (others line (waiting stand asked.script.lines))
  by_word stand line word rest is = ap (λ (o : Option Line). after_word o (by_words rest) (waiting stand asked.script.lines)) is

  pub its_line : (client : ℕ) (stand : Line → Stand) (line : Line) → first_of (waiting_of client stand asked.script.lines) ≡ Some line → In line asked.script.lines × (stand line ≡ Waits)
  its_line client stand line is =
      let of_client = in_filter (λ (l : Line). l.client == client) line (waiting stand asked.script.lines) (first_in (waiting_of client stand asked.script.lines) line is) in
      let found = in_filter (λ (l : Line). is_waiting (stand l)) line asked.script.lines of_client.0 in
      (found.0, waits_so (stand line) found.1)

  -- one of a client without a line that waits runs none
  pub words_skip : (stand : Line → Stand) (word : Step) (rest : List Step) → WordsLeft asked stand (word ∷ rest) → first_of (waiting_of word.client stand asked.script.lines) ≡ None → WordsLeft asked stand rest
  words_skip stand word rest left none whole is =
      let found = left whole is in
      (found.0, found.1, found.2 ∙ ap (λ (o : Option Line). found.0 ++ after_word o (by_words rest) (waiting stand asked.script.lines)) none)

  -- behind the last word the first that waits runs
  pub by_number : (stand : Line → Stand) (line : Line) → first_of (waiting stand asked.script.lines) ≡ Some line → by_words [] (waiting stand asked.script.lines) ≡ line ∷ by_words [] (others line (waiting stand asked.script.lines))
  by_number stand line is = first_and_others (λ (l : Line). is_waiting (stand l)) [] asked.script.lines line ascend is

  pub first_line : (stand : Line → Stand) (line : Line) → first_of (waiting stand asked.script.lines) ≡ Some line → In line asked.script.lines × (stand line ≡ Waits)
  first_line stand line is =
      let found = in_filter (λ (l : Line). is_waiting (stand l)) line asked.script.lines (first_in (waiting stand asked.script.lines) line is) in
      (found.0, waits_so (stand line) found.1)

-- at first all words are left
pub words_first : (asked : Asked) (order : Order) → asked.asks ≡ [] → asked.order ≡ Some order → WordsLeft asked (λ line. Waits) order.words
words_first asked order none ordered whole is = ([], record { over = λ line it. absurd it; others = λ line listed begun. absurd (begun refl) }, whole_is)
  where
    some_is : (xs ys : List Line) → Some xs ≡ Some ys → xs ≡ ys
    some_is xs ys e = cc

    by_whole : (all : Bool) → (if all then Some (by_words order.words asked.script.lines ++ asked.asks) else None) ≡ Some whole → by_words order.words asked.script.lines ++ asked.asks ≡ whole
    by_whole true e = some_is _ _ e
    by_whole false e = absurd cc

    whole_is : whole ≡ by_words order.words (waiting (λ line. Waits) asked.script.lines)
    whole_is =
        sym (by_whole (list_all (λ (word : Step). word.whole) order.words) (subst (λ (o : Option Order). order_by asked o ≡ Some whole) ordered is))
        ∙ ap (λ (l : List Line). by_words order.words asked.script.lines ++ l) none ∙ append-nil (by_words order.words asked.script.lines)
        ∙ ap (by_words order.words) (sym (filter_all (λ (l : Line). true) asked.script.lines (λ x among. refl)))
