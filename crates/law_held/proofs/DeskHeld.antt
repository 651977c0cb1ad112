-- In a run the office holds each UUID that it has claimed by the place of the one line that holds it.
use Rattle.std.proofs.Common.{◌≡◌, ℕ, Bool, true, false, ◌&&◌, List, [], ◌∷◌, ◌++◌, refl, sym, ap, subst, ◌∙◌, inl, inr, append-nil}
use Rattle.std.specs.Prelude.{IsTrue, IsFalse, None, Option, Some, filter, if◌then◌else◌, map, nat_eq}
use Rattle.std.specs.Cmp.Lexicographic.{pointwise}
use Rattle.std.specs.List.{flat_map, list_any}
use Rattle.std.specs.Str.{bytes_eq}
use Rattle.std.proofs.lemmas.Bool.{and_from, and_parts, cases_Bool, eq-eqb, false≢true, false_from_ne_true, not-true, true≢false}
use Rattle.aft_model.specs.declared.caller.By.{By}
use Rattle.aft_model.specs.declared.door.DoorEntry.{DoorEntry}
use Rattle.aft_model.specs.declared.script.Command.{Command}
use Rattle.aft_model.specs.declared.script.Command.TheVariants as commands
use Rattle.aft_model.specs.declared.script.Line.{Line}
use Rattle.aft_model.specs.Claims.{claim_place, claimant, holds, is_held_by}
use Rattle.aft_model.specs.History.{each_after}
use Rattle.aft_model.specs.Membership.{the_office}
use Rattle.aft_model.specs.ScanRun.{same_line}
use Rattle.aft_model.proofs.Histories.{In, all_at, any_from, in_back, in_front}
use Rattle.aft_model.proofs.Lists.{all_from}
use Rattle.aft_model.proofs.Sights.{bytes_eq-refl, same_bytes}
use Rattle.aft_model.proofs.Turns.{held_up}
use Rattle.aft_lines.specs.Advance.{is_led_to_end}
use Rattle.aft_lines.specs.Asked.{Asked, Ran}
use Rattle.aft_lines.specs.CourseWords.{Ends}
use Rattle.aft_lines.specs.FinishedText.{line_of}
use Rattle.aft_lines.specs.Holding.{DeskHeld, claimed_for_office, held_at, held_at_position, held_by_lines, office_places, option_list, places_of}
use Rattle.aft_lines.specs.LegalTrace.{LegalTrace}
use Rattle.aft_lines.specs.LineCourse.{answers_last, follows_course}
use Rattle.aft_lines.specs.LineView.{ends_of}
use Rattle.aft_lines.specs.Lines.{lines, node_numbers}
use Rattle.aft_lines.specs.Progress.{AtDesk, IsOver, Progress, Stopped}
use Rattle.aft_lines.specs.RunsSoFar.{position_of}
use Rattle.aft_lines.specs.Steps.{own_steps}
use Rattle.aft_lines.specs.Turns.{Turn, turns}
use Rattle.aft_lines.specs.Views.{view_of}
use Rattle.law_claims.specs.Desk.{IsHeldBy, IsNotHeld, LiesAtDesk, has_at_desk}
use Rattle.law_claims.specs.Moments.{or_not_begun}
use Rattle.law_claims.proofs.DeskSteps.{desk_tells}
use Rattle.law_claims.proofs.Scenes.{by_itself, same_by}
use Rattle.law_runs.specs.Runs.{Goes, asking_of, command_in, ends_in, line_among, run_steps, without_office}
use Rattle.law_runs.proofs.Come.{Named, named_line}
use Rattle.law_runs.proofs.LegalRuns.{course_led}
use Rattle.law_runs.proofs.Own.{has_come, makes_all}
use Rattle.law_steps.proofs.Histories.{door_is}
use Rattle.law_held.specs.Desk.{LinesDiffer, desk_of, desk_of_turns, is_another}
use Rattle.law_held.proofs.DeskRuns.{lies_behind}
use Rattle.law_held.proofs.HeldAt.{holds_nothing, is_round}
use Rattle.law_held.proofs.OrphanLines.{round_led}

-- ---- lines that differ

differ_in : (before ls : List Line) → IsTrue (each_after is_another before ls) → (m n : Line) → In m before → In n ls → same_line (line_of m) (line_of n) ≡ false
differ_in before [] so m n there none = absurd none
differ_in before (x ∷ ls) so m n there (inl is) =
    let another = not-true (list_any (λ (o : Line). same_line (line_of o) (line_of x)) before) (and_parts (is_another before x) (each_after is_another (before ++ x ∷ []) ls) so).0 in
    subst (λ (y : Line). same_line (line_of m) (line_of y) ≡ false) (sym is)
    (false_from_ne_true (same_line (line_of m) (line_of x)) (λ same. true≢false (sym (any_from (λ (o : Line). same_line (line_of o) (line_of x)) m before there same) ∙ another)))
differ_in before (x ∷ ls) so m n there (inr later) = differ_in (before ++ x ∷ []) ls (and_parts (is_another before x) (each_after is_another (before ++ x ∷ []) ls) so).1 m n (in_front m before (x ∷ []) there) later

-- the first of some lines that differ which is this one is this one
pub among_itself : (before ls : List Line) → IsTrue (each_after is_another before ls) → (n : Line) → In n ls → line_among (line_of n) ls ≡ Some n
among_itself before [] so n none = absurd none
among_itself before (x ∷ ls) so n (inl is) = subst (λ (y : Line). line_among (line_of y) (x ∷ ls) ≡ Some y) (sym is) (ap (λ (b : Bool). if b then Some x else line_among (line_of x) ls) (by_itself (line_of x)))
among_itself before (x ∷ ls) so n (inr later) =
    let rest = (and_parts (is_another before x) (each_after is_another (before ++ x ∷ []) ls) so).1 in
    ap (λ (b : Bool). if b then Some x else line_among (line_of n) ls) (differ_in (before ++ x ∷ []) ls rest x n (in_back x before (x ∷ []) (inl refl)) later) ∙ among_itself (before ++ x ∷ []) ls rest n later

-- ---- the places by which lines hold a UUID

turned_bytes : (a b : List ℕ) → bytes_eq a b ≡ false → bytes_eq b a ≡ false
turned_bytes a b differs = false_from_ne_true (bytes_eq b a) (λ same. true≢false (sym (subst (λ (c : List ℕ). bytes_eq a c ≡ true) (sym (same_bytes b a same)) (bytes_eq-refl a)) ∙ differs))

turned_line : (a b : By) → same_line a b ≡ false → same_line b a ≡ false
turned_line a b differs = false_from_ne_true (same_line b a) (λ same. true≢false (sym (subst (λ (c : By). same_line a c ≡ true) (sym (same_by b a same)) (by_itself a)) ∙ differs))

module _ (desk : Line → Option AtDesk) (uuid : List ℕ) where
  abbrev held_of : List Line → List AtDesk
  held_of ls = flat_map (λ line. option_list (desk line)) ls

  skipped : (o : Option AtDesk) (rest : List AtDesk) → IsFalse (has_at_desk o uuid) → places_of uuid (option_list o ++ rest) ≡ places_of uuid rest
  skipped None rest none = refl
  skipped (Some held) rest none = ap (λ (b : Bool). map (λ (h : AtDesk). h.place) (if b then held ∷ filter (λ (h : AtDesk). bytes_eq uuid h.uuid) rest else filter (λ (h : AtDesk). bytes_eq uuid h.uuid) rest)) (turned_bytes held.uuid uuid none)

  taken : (o : Option AtDesk) (held : AtDesk) (rest : List AtDesk) → o ≡ Some held → held.uuid ≡ uuid → places_of uuid (option_list o ++ rest) ≡ held.place ∷ places_of uuid rest
  taken o held rest is its =
      ap (λ (x : Option AtDesk). places_of uuid (option_list x ++ rest)) is
      ∙ ap (λ (b : Bool). map (λ (h : AtDesk). h.place) (if b then held ∷ filter (λ (h : AtDesk). bytes_eq uuid h.uuid) rest else filter (λ (h : AtDesk). bytes_eq uuid h.uuid) rest)) (subst (λ (u : List ℕ). bytes_eq u held.uuid ≡ true) its (bytes_eq-refl held.uuid))

  none_placed : (ls : List Line) → ((m : Line) → In m ls → IsFalse (has_at_desk (desk m) uuid)) → places_of uuid (held_of ls) ≡ []
  none_placed [] none = refl
  none_placed (x ∷ ls) none = skipped (desk x) (held_of ls) (none x (inl refl)) ∙ none_placed ls (λ m there. none m (inr there))

  one_placed : (before ls : List Line) → IsTrue (each_after is_another before ls) → (line : Line) (held : AtDesk) → In line ls → desk line ≡ Some held → held.uuid ≡ uuid
      → ((m : Line) → In m ls → IsFalse (same_line (line_of line) (line_of m)) → IsFalse (has_at_desk (desk m) uuid)) → places_of uuid (held_of ls) ≡ held.place ∷ []
  one_placed before [] so line held none is its only = absurd none
  one_placed before (x ∷ ls) so line held (inl same) is its only =
      let rest = (and_parts (is_another before x) (each_after is_another (before ++ x ∷ []) ls) so).1 in
      taken (desk x) held (held_of ls) (ap desk (sym same) ∙ is) its
      ∙ ap (λ (l : List ℕ). held.place ∷ l) (none_placed ls (λ m there. only m (inr there) (differ_in (before ++ x ∷ []) ls rest line m (subst (λ (y : Line). In y (before ++ x ∷ [])) (sym same) (in_back x before (x ∷ []) (inl refl))) there)))
  one_placed before (x ∷ ls) so line held (inr later) is its only =
      let rest = (and_parts (is_another before x) (each_after is_another (before ++ x ∷ []) ls) so).1 in
      skipped (desk x) (held_of ls) (only x (inl refl) (turned_line (line_of x) (line_of line) (differ_in (before ++ x ∷ []) ls rest x line (in_back x before (x ∷ []) (inl refl)) later)))
      ∙ one_placed (before ++ x ∷ []) ls rest line held later is its (λ m there differs. only m (inr there) differs)

-- ---- the places by which the office holds one

same_places : (xs : List ℕ) → IsTrue (pointwise nat_eq xs xs)
same_places [] = refl
same_places (x ∷ xs) = and_from (nat_eq x x) (pointwise nat_eq xs xs) (eq-eqb x x refl) (same_places xs)

no_places : (uuid : List ℕ) (door : List DoorEntry) → IsFalse (is_held_by the_office (claimant uuid door)) → office_places uuid door ≡ []
no_places uuid door free = ap (λ (b : Bool). if b then option_list (claim_place uuid door) else []) (false_from_ne_true (holds the_office uuid door) (λ held. true≢false (sym (held_up the_office door (claimant uuid door) held).0 ∙ free)))

one_place : (uuid : List ℕ) (door : List DoorEntry) (place : ℕ) → IsTrue (holds the_office uuid door) → claim_place uuid door ≡ Some place → office_places uuid door ≡ place ∷ []
one_place uuid door place held is = ap (λ (b : Bool). if b then option_list (claim_place uuid door) else []) held ∙ ap option_list is

-- ---- a run

round_so : (command : Command) → is_round command ≡ true → (key : List ℕ) × (command ≡ commands.Orphans key)
round_so (commands.Orphans key) is = (key, refl)
round_so command is = absurd (false≢true is)

no_desk : (command : Command) (nodes : List ℕ) (ends : Ends) (line : List Turn) → is_round command ≡ false → desk_of_turns nodes ends line (Some command) ≡ None
no_desk (commands.Orphans key) nodes ends line other = absurd (true≢false other)
no_desk command nodes ends line other = refl

module _ (asked : Asked) (ran : Ran) (so : Goes asked ran) where
  abbrev nodes : List ℕ
  nodes = node_numbers asked.settings

  -- what each line holds in the end
  abbrev desk : By → Option AtDesk
  desk by = desk_of (asking_of asked ran) (run_steps ran) by

  abbrev holds_at : Line → Option AtDesk
  holds_at line = held_at_position (position_of (view_of asked ran line))

  module _ (line : Line) (listed : In line (lines asked)) (found : line_among (line_of line) (lines asked) ≡ Some line) where
    abbrev its_ends : Ends
    its_ends = ends_of (view_of asked ran line)

    desk_there : desk (line_of line) ≡ desk_of_turns nodes its_ends (own_steps (line_of line) (run_steps ran)) (Some line.order)
    desk_there = ap (λ (o : Option Line). desk_of_turns nodes (ends_in asked ran o) (own_steps (line_of line) (run_steps ran)) (command_in o)) found

    come_there : holds_at line ≡ held_at (has_come asked ran so line listed).0
    come_there = ap held_at_position (has_come asked ran so line listed).1

    pub desk_is : desk (line_of line) ≡ holds_at line
    desk_is = elim (cases_Bool (is_round line.order)) [
      | inl round ↦
          (let its = round_so line.order round in
          let led = round_led asked ran so line listed its.0 its.1 in
          desk_there
          ∙ (ap (λ (c : Command). desk_of_turns nodes its_ends (own_steps (line_of line) (run_steps ran)) (Some c)) its.1
          ∙ (ap (λ (o : Option Progress). held_at (or_not_begun o)) led.1 ∙ (led.2 ∙ sym come_there))))
      | inr other ↦
          desk_there
          ∙ (no_desk line.order nodes its_ends (own_steps (line_of line) (run_steps ran)) other
          ∙ sym (come_there ∙ holds_nothing line.order nodes its_ends (turns (line_of line) ran.trace) (has_come asked ran so line listed).0 other (makes_all asked ran so line listed) (has_come asked ran so line listed).1))
    ]

  -- how each UUID lies in the end
  pub lies : (uuid : List ℕ) → LiesAtDesk ran.trace.door desk uuid
  lies uuid = subst (λ (d : List DoorEntry). LiesAtDesk d desk uuid) (door_is (without_office ran.trace)) (lies_behind asked ran so (run_steps ran) [] (sym (append-nil (run_steps ran))) uuid)

  -- of a line that holds something, one that is asked
  asked_line : (by : By) (held : AtDesk) → desk by ≡ Some held → (line : Line) × In line (lines asked) × (line_of line ≡ by) × (line_among by (lines asked) ≡ Some line)
  asked_line by held is = cases (named_line by (lines asked))
    where
      cases : Named by (lines asked) → (line : Line) × In line (lines asked) × (line_of line ≡ by) × (line_among by (lines asked) ≡ Some line)
      cases (inl n) = n
      cases (inr n) = absurd (let e : None ≡ Some held = sym (ap (λ (o : Option Line). desk_of_turns nodes (ends_in asked ran o) (own_steps by (run_steps ran)) (command_in o)) n.0) ∙ is in cc)

  abbrev Agrees : List ℕ → Type 0
  Agrees uuid = IsTrue (pointwise nat_eq (places_of uuid (held_by_lines asked ran)) (office_places uuid ran.trace.door))

  agree : (uuid xs : List ℕ) → places_of uuid (held_by_lines asked ran) ≡ xs → office_places uuid ran.trace.door ≡ xs → Agrees uuid
  agree uuid xs lines_hold office_holds = subst (λ (l : List ℕ). IsTrue (pointwise nat_eq l (office_places uuid ran.trace.door))) (sym lines_hold) (subst (λ (l : List ℕ). IsTrue (pointwise nat_eq xs l)) (sym office_holds) (same_places xs))

  module _ (differ : LinesDiffer asked) where
    itself : (m : Line) → In m (lines asked) → line_among (line_of m) (lines asked) ≡ Some m
    itself m there = among_itself [] (lines asked) differ m there

    same_there : (m : Line) (there : In m (lines asked)) (uuid : List ℕ) → IsFalse (has_at_desk (desk (line_of m)) uuid) → IsFalse (has_at_desk (holds_at m) uuid)
    same_there m there uuid none = subst (λ (d : Option AtDesk). IsFalse (has_at_desk d uuid)) (desk_is m there (itself m there)) none

    agrees : (uuid : List ℕ) → LiesAtDesk ran.trace.door desk uuid → Agrees uuid
    agrees uuid (IsNotHeld none free) = agree uuid [] (none_placed holds_at uuid (lines asked) (λ m there. same_there m there uuid (none (line_of m)))) (no_places uuid ran.trace.door free)
    agrees uuid (IsHeldBy by held is its stands place only) =
        let line = asked_line by held is in
        let tells = desk_tells ran.trace.door desk by held so.door lies is in
        let found : line_among (line_of line.0) (lines asked) ≡ Some line.0 = itself line.0 line.1 in
        agree uuid (held.place ∷ [])
        (one_placed holds_at uuid [] (lines asked) differ line.0 held line.1 (sym (desk_is line.0 line.1 found) ∙ (ap desk line.2 ∙ is)) its
        (λ m there apart. same_there m there uuid (only (line_of m) (subst (λ (b : By). IsFalse (same_line b (line_of m))) line.2 apart))))
        (one_place uuid ran.trace.door held.place (subst (λ (u : List ℕ). IsTrue (holds the_office u ran.trace.door)) its tells.0) (subst (λ (u : List ℕ). claim_place u ran.trace.door ≡ Some held.place) its tells.1))

    pub desk_held_so_far : DeskHeld asked ran
    desk_held_so_far = all_from (λ (uuid : List ℕ). pointwise nat_eq (places_of uuid (held_by_lines asked ran)) (office_places uuid ran.trace.door)) (flat_map (λ (entry : DoorEntry). claimed_for_office entry.act) ran.trace.door) (λ uuid there. agrees uuid (lies uuid))

  -- where each line is over, none holds anything
  module _ (over : (line : Line) → In line (lines asked) → holds_at line ≡ None) where
    none_held : (uuid : List ℕ) → LiesAtDesk ran.trace.door desk uuid → Agrees uuid
    none_held uuid (IsNotHeld none free) = agree uuid [] (none_placed holds_at uuid (lines asked) (λ m there. ap (λ (d : Option AtDesk). has_at_desk d uuid) (over m there))) (no_places uuid ran.trace.door free)
    none_held uuid (IsHeldBy by held is its stands place only) =
        let line = asked_line by held is in
        let found : line_among (line_of line.0) (lines asked) ≡ Some line.0 = ap (λ (b : By). line_among b (lines asked)) line.2 ∙ line.3 in
        absurd (let e : None ≡ Some held = sym (sym (ap desk line.2) ∙ (desk_is line.0 line.1 found ∙ over line.0 line.1)) ∙ is in cc)

    pub desk_held_over : DeskHeld asked ran
    desk_held_over = all_from (λ (uuid : List ℕ). pointwise nat_eq (places_of uuid (held_by_lines asked ran)) (office_places uuid ran.trace.door)) (flat_map (λ (entry : DoorEntry). claimed_for_office entry.act) ran.trace.door) (λ uuid there. none_held uuid (lies uuid))

-- ---- a legal trace

ended_none : (o : Option Progress) → IsTrue (is_led_to_end o) → held_at_position o ≡ None
ended_none None is = absurd (false≢true is)
ended_none (Some IsOver) is = refl
ended_none (Some (Stopped a)) is = refl
ended_none (Some p) is = absurd (false≢true is)

pub legal_over : (asked : Asked) (ran : Ran) → LegalTrace asked ran → (line : Line) → In line (lines asked) → held_at_position (position_of (view_of asked ran line)) ≡ None
legal_over asked ran legal line listed =
    let keeps = all_at (λ (k : Line). answers_last (turns (line_of k) ran.trace) && follows_course k.order (node_numbers asked.settings) (ends_of (view_of asked ran k)) (turns (line_of k) ran.trace)) line (lines asked) listed legal.courses in
    let parts = and_parts (answers_last (turns (line_of line) ran.trace)) (follows_course line.order (node_numbers asked.settings) (ends_of (view_of asked ran line)) (turns (line_of line) ran.trace)) keeps in
    ended_none (position_of (view_of asked ran line)) (course_led line.order (node_numbers asked.settings) (ends_of (view_of asked ran line)) (turns (line_of line) ran.trace) refl parts.0 parts.1)
