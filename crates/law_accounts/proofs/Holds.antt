-- What a client holds before its first line, and before its next one.
use Rattle.std.proofs.Common.{◌≡◌, ◌≤◌, ◌<◌, ℕ, suc, Bool, true, false, ◌&&◌, ◌||◌, not, List, [], ◌∷◌, ◌++◌, refl, sym, ap, subst, ◌∙◌, inl, inr, eqb, ltb, arith, append-nil}
use Rattle.std.specs.Prelude.{IsTrue, None, Option, Some, filter, if◌then◌else◌, is_some, length}
use Rattle.std.specs.List.{last_or, list_all}
use Rattle.std.proofs.lemmas.Bool.{and_from, and_parts, eq-eqb, eqb-true, false_from_ne_true, lt-ltb, ltb-true, true≢false}
use Rattle.std.proofs.lemmas.List.Elements.{filter-append}
use Rattle.aft_model.specs.declared.script.Line.{Line}
use Rattle.aft_model.specs.declared.script.Command.{Command}
use Rattle.aft_model.specs.declared.script.Order.{Order}
use Rattle.aft_model.specs.declared.trace.Trace.{Trace}
use Rattle.aft_model.specs.History.{each_after}
use Rattle.aft_model.proofs.Histories.{In, all_at, each_after_split, in_append, in_back, in_front}
use Rattle.aft_lines.specs.Asked.{Asked}
use Rattle.aft_lines.specs.LegalTrace.{are_asks, is_numbered_behind, may_be_asked}
use Rattle.aft_lines.specs.Lines.{background, background_lines, begins, earlier_lines, hold_after, hold_before, lines, numbered}
use Rattle.aft_lines.specs.Views.{line_before}
use Rattle.law_held.proofs.Placed.{each_joined}
use Rattle.law_held.specs.Desk.{is_script}
use Rattle.law_turns.proofs.Lists.{filter_none}
use Rattle.law_accounts.specs.Next.{ComesNext, IsFirst}

-- ---- a client's first line

first_earlier : (asked : Asked) (line : Line) → IsFirst asked line → earlier_lines (lines asked) line ≡ []
first_earlier asked line first =
    filter_none (λ (other : Line). eqb other.client line.client && ltb other.number line.number) (lines asked) (λ other among. false_from_ne_true _ (λ is.
    let parts = and_parts (eqb other.client line.client) (ltb other.number line.number) is in
    let less = ltb-true other.number line.number parts.1 in
    let least = first other among (eqb-true other.client line.client parts.0) in
    omega arith))

pub first_holds : (asked : Asked) (trace : Trace) (line : Line) → IsFirst asked line → (hold_before (lines asked) trace line ≡ record { node = 1; attempt = None }) × (line_before (lines asked) line ≡ None)
first_holds asked trace line first =
    let none = first_earlier asked line first in
    (ap (λ (l : List Line). hold_after trace (last_or None (filter (λ (other : Line). begins other.order) l))) none, ap (λ (l : List Line). last_or None l) none)

-- ---- its next one

-- a list is in two parts about an element
record Parted (line : Line) (all : List Line) : Type 0 where
  front : List Line
  back : List Line
  is : all ≡ front ++ line ∷ back

parted : (line : Line) (all : List Line) → In line all → Parted line all
parted line [] among = absurd among
parted line (x ∷ all) (inl is) = record { front = []; back = all; is = ap (λ (l : Line). l ∷ all) (sym is) }
parted line (x ∷ all) (inr later) = (let rest = parted line all later in record { front = x ∷ rest.front; back = rest.back; is = ap (λ (l : List Line). x ∷ l) rest.is })

-- two tests that answer the same of each element keep the same
filter_same : (test other : Line → Bool) (xs : List Line) → ((x : Line) → In x xs → test x ≡ other x) → filter test xs ≡ filter other xs
filter_same test other [] same = refl
filter_same test other (x ∷ xs) same =
    ap (λ (t : Bool). if t then x ∷ filter test xs else filter test xs) (same x (inl refl))
    ∙ ap (λ (l : List Line). if other x then x ∷ l else l) (filter_same test other xs (λ y among. same y (inr among)))

-- lines behind an element of a list that is numbered as a script is
numbered_above : (before back : List Line) (line : Line) → In line before → IsTrue (each_after is_numbered_behind before back) → (other : Line) → In other back → line.number < other.number
numbered_above before [] line among so other none = absurd none
numbered_above before (x ∷ back) line among so other (inl is) =
    subst (λ (l : Line). line.number < l.number) (sym is)
    (ltb-true line.number x.number (all_at (λ (l : Line). ltb l.number x.number) line before among (and_parts (is_numbered_behind before x) (each_after is_numbered_behind (before ++ x ∷ []) back) so).0))
numbered_above before (x ∷ back) line among so other (inr later) =
    numbered_above (before ++ x ∷ []) back line (in_front line before (x ∷ []) among) (and_parts (is_numbered_behind before x) (each_after is_numbered_behind (before ++ x ∷ []) back) so).1 other later

-- ---- in numbered lines

-- whether a line is an earlier one of another's client
abbrev is_earlier : Line → Line → Bool
is_earlier behind other = eqb other.client behind.client && ltb other.number behind.number

late : (behind other : Line) → behind.number ≤ other.number → is_earlier behind other ≡ false
late behind other le = false_from_ne_true _ (λ is. let less = ltb-true other.number behind.number (and_parts (eqb other.client behind.client) (ltb other.number behind.number) is).1 in omega arith)

-- those of the client before the next line are those before the line, and the line
module _ (line next : Line) (same : next.client ≡ line.client) (behind : line.number < next.number) where
  front_same : (other : Line) → other.number < line.number → is_earlier next other ≡ is_earlier line other
  front_same other less =
      ap (λ c. eqb other.client c && ltb other.number next.number) same
      ∙ ap (λ (t : Bool). eqb other.client line.client && t) (lt-ltb other.number next.number (omega arith) ∙ sym (lt-ltb other.number line.number less))

  back_none : (other : Line) → line.number < other.number → (other.client ≡ line.client → line.number < other.number → next.number ≤ other.number) → is_earlier next other ≡ false
  back_none other above none = false_from_ne_true _ (λ is.
      let parts = and_parts (eqb other.client next.client) (ltb other.number next.number) is in
      let less = ltb-true other.number next.number parts.1 in
      let past = none (eqb-true other.client next.client parts.0 ∙ same) above in
      omega arith)

  itself : is_earlier next line ≡ true
  itself = and_from _ _ (eq-eqb line.client next.client (sym same)) (lt-ltb line.number next.number behind)

  parted_more : (front back : List Line) → IsTrue (each_after is_numbered_behind [] (front ++ line ∷ back)) → ((other : Line) → In other back → other.client ≡ line.client → line.number < other.number → next.number ≤ other.number)
      → filter (is_earlier next) (front ++ line ∷ back) ≡ filter (is_earlier line) (front ++ line ∷ back) ++ line ∷ []
  parted_more front back so none =
      let split = each_after_split is_numbered_behind [] front (line ∷ back) so in
      let parts = and_parts (is_numbered_behind front line) (each_after is_numbered_behind (front ++ line ∷ []) back) split.1 in
      let above : (other : Line) → In other back → line.number < other.number = numbered_above (front ++ line ∷ []) back line (in_back line front (line ∷ []) (inl refl)) parts.1 in
      filter-append (is_earlier next) front (line ∷ back)
      ∙ ap (λ (l : List Line). l ++ filter (is_earlier next) (line ∷ back))
      (filter_same (is_earlier next) (is_earlier line) front (λ other among. front_same other (ltb-true other.number line.number (all_at (λ (l : Line). ltb l.number line.number) other front among parts.0))))
      ∙ ap (λ (l : List Line). filter (is_earlier line) front ++ l)
      (ap (λ (t : Bool). if t then line ∷ filter (is_earlier next) back else filter (is_earlier next) back) itself
      ∙ ap (λ (l : List Line). line ∷ l) (filter_none (is_earlier next) back (λ other among. back_none other (above other among) (none other among))))
      ∙ sym (ap (λ (l : List Line). l ++ line ∷ [])
      (filter-append (is_earlier line) front (line ∷ back)
      ∙ ap (λ (l : List Line). filter (is_earlier line) front ++ l) (filter_none (is_earlier line) (line ∷ back) (λ other among. elim among [ inl is ↦ late line other (subst (λ (l : Line). line.number ≤ l.number) (sym is) (omega arith)) | inr later ↦ late line other (let more = above other later in omega arith) ]))
      ∙ append-nil (filter (is_earlier line) front)))

last_more : (xs : List Line) (before : Option Line) (x : Line) → last_or before (xs ++ x ∷ []) ≡ Some x
last_more [] before x = refl
last_more (y ∷ xs) before x = last_more xs (Some y) x

-- the background's lines are of client 0
numbered_apart : (test : Line → Bool) (number : ℕ) (commands : List Command) → ((other : Line) → other.client ≡ 0 → test other ≡ false) → filter test (numbered number commands) ≡ []
numbered_apart test number [] none = refl
numbered_apart test number (command ∷ commands) none =
    let line : Line = record { number = number; client = 0; order = command } in
    ap (λ (t : Bool). if t then line ∷ filter test (numbered (suc number) commands) else filter test (numbered (suc number) commands)) (none line refl) ∙ numbered_apart test (suc number) commands none

module _ (asked : Asked) (script : IsTrue (is_script asked.script.lines)) (asks : IsTrue (are_asks asked)) (line next : Line) (comes : ComesNext asked line next) where
  abbrev own : List Line
  own = asked.script.lines ++ asked.asks

  own_numbered : IsTrue (each_after is_numbered_behind [] own)
  own_numbered =
      each_joined is_numbered_behind [] asked.script.lines asked.asks (and_parts (each_after is_numbered_behind [] asked.script.lines) (list_all (λ (l : Line). not (eqb l.client 0)) asked.script.lines) script).0
      (and_parts (list_all may_be_asked asked.asks) (each_after is_numbered_behind asked.script.lines asked.asks) (and_parts (list_all may_be_asked asked.asks && each_after is_numbered_behind asked.script.lines asked.asks) (is_some asked.order || eqb (length asked.asks) 0) asks).0).1

  -- none of the background is of its client
  none_behind : (behind : Line) → behind.client ≡ line.client → (order : Option Order) → filter (is_earlier behind) (background_lines order asked.settings) ≡ []
  none_behind behind same None = numbered_apart (is_earlier behind) 1 (background asked.settings) (λ other zero. false_from_ne_true _ (λ is.
      let client = eqb-true other.client behind.client (and_parts (eqb other.client behind.client) (ltb other.number behind.number) is).0 in
      true≢false (sym (eq-eqb line.client 0 (sym same ∙ sym client ∙ zero)) ∙ comes.no_background)))
  none_behind behind same (Some order) = refl

  own_alone : (behind : Line) → behind.client ≡ line.client → earlier_lines (lines asked) behind ≡ filter (is_earlier behind) own
  own_alone behind same =
      filter-append (is_earlier behind) own (background_lines asked.order asked.settings)
      ∙ ap (λ (l : List Line). filter (is_earlier behind) own ++ l) (none_behind behind same asked.order) ∙ append-nil (filter (is_earlier behind) own)

  among_own : In line own
  among_own = elim (in_append line own (background_lines asked.order asked.settings) comes.among) [ inl it ↦ it | inr background' ↦ absurd (not_there asked.order background') ]
    where
      in_numbered : (number : ℕ) (commands : List Command) → In line (numbered number commands) → line.client ≡ 0
      in_numbered number [] none = absurd none
      in_numbered number (command ∷ commands) (inl is) = ap (λ (l : Line). l.client) is
      in_numbered number (command ∷ commands) (inr later) = in_numbered (suc number) commands later

      not_there : (order : Option Order) → In line (background_lines order asked.settings) → ⊥
      not_there None there = true≢false (sym (eq-eqb line.client 0 (in_numbered 1 (background asked.settings) there)) ∙ comes.no_background)
      not_there (Some order) none = none

  -- the lines before the next one are those before the line, and the line
  earlier_more : earlier_lines (lines asked) next ≡ earlier_lines (lines asked) line ++ line ∷ []
  earlier_more =
      let at = parted line own among_own in
      let numbered' : IsTrue (each_after is_numbered_behind [] (at.front ++ line ∷ at.back)) = subst (λ (l : List Line). IsTrue (each_after is_numbered_behind [] l)) at.is own_numbered in
      own_alone next comes.same_client
      ∙ ap (filter (is_earlier next)) at.is
      ∙ parted_more line next comes.same_client comes.behind at.front at.back numbered' (λ other there.
      comes.none_between other (in_front other own (background_lines asked.order asked.settings) (subst (λ (l : List Line). In other l) (sym at.is) (in_back other at.front (line ∷ at.back) (inr there)))))
      ∙ sym (ap (λ (l : List Line). l ++ line ∷ []) (own_alone line refl ∙ ap (filter (is_earlier line)) at.is))

  pub before_next : line_before (lines asked) next ≡ Some line
  before_next = ap (last_or None) earlier_more ∙ last_more (earlier_lines (lines asked) line) None line

  pub held_next : (trace : Trace) → hold_before (lines asked) trace next ≡ (if begins line.order then hold_after trace (Some line) else hold_before (lines asked) trace line)
  held_next trace = ap (hold_after trace) (ap (λ (l : List Line). last_or None (filter (λ (other : Line). begins other.order) l)) earlier_more ∙ ap (last_or None) (filter-append (λ (other : Line). begins other.order) (earlier_lines (lines asked) line) (line ∷ []))) ∙ cases (begins line.order)
    where
      begun : List Line
      begun = filter (λ (other : Line). begins other.order) (earlier_lines (lines asked) line)

      cases : (t : Bool) → hold_after trace (last_or None (begun ++ (if t then line ∷ [] else []))) ≡ (if t then hold_after trace (Some line) else hold_after trace (last_or None begun))
      cases true = ap (hold_after trace) (last_more begun None line)
      cases false = ap (λ (l : List Line). hold_after trace (last_or None l)) (append-nil begun)
