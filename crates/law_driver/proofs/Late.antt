-- How late a line looked at the door, as it and others do more.
use Rattle.std.proofs.Common.{◌≡◌, ◌≤◌, ℕ, zero, suc, Bool, true, false, cond, List, [], ◌∷◌, ◌++◌, drop, refl, sym, subst, ◌∙◌, arith}
use Rattle.std.specs.Prelude.{IsFalse, IsTrue, None, Option, Some, length}
use Rattle.std.specs.List.{list_all}
use Rattle.std.proofs.lemmas.Bool.{and_from, and_parts}
use Rattle.std.proofs.lemmas.List.Folds.{list_all-append}
use Rattle.aft_model.specs.declared.caller.By.{By}
use Rattle.aft_model.specs.declared.door.DoorEntry.{DoorEntry}
use Rattle.aft_model.specs.declared.script.Line.{Line}
use Rattle.aft_model.specs.NodeSights.{own_entries}
use Rattle.aft_model.specs.Opening.{opening}
use Rattle.aft_model.specs.ScanRun.{same_line}
use Rattle.aft_lines.specs.Asked.{Asked, Ran}
use Rattle.aft_lines.specs.CausesNodes.{earliest}
use Rattle.aft_lines.specs.FinishedText.{line_of}
use Rattle.aft_lines.specs.LineView.{LineView, last_front}
use Rattle.aft_lines.specs.Lines.{lines}
use Rattle.aft_lines.specs.Turns.{turns}
use Rattle.aft_lines.specs.Views.{answered_front, line_before, ran_earlier}
use Rattle.law_accounts.proofs.Views.{since_same}
use Rattle.law_accounts.proofs.Within.{turns_within}
use Rattle.law_accounts.specs.Account.{Account, Stand}
use Rattle.law_accounts.specs.Adding.{AddsAtBox, AddsAtDoor, AddsAtNode, AddsAtOffice, Added, maker_of, with_added}
use Rattle.law_claims.proofs.Scenes.{by_itself}
use Rattle.law_grows.proofs.Positions.{end_within}
use Rattle.law_driver.specs.Driven.{LookedBy}
use Rattle.law_driver.proofs.Along.{lesser_differs}

-- ---- what stands behind a place

pub drop_all : {A : Type 0} (xs : List A) → drop (length xs) xs ≡ []
drop_all [] = refl
drop_all (x ∷ xs) = drop_all xs

-- what stands behind a place passes a test, also with one more that does
all_behind : {A : Type 0} (test : A → Bool) (n : ℕ) (xs : List A) (x : A) → IsTrue (list_all test (drop n xs)) → IsTrue (test x) → IsTrue (list_all test (drop n (xs ++ x ∷ [])))
all_behind test zero xs x all last = list_all-append test xs (x ∷ []) ∙ and_from _ _ all (and_from _ _ last refl)
all_behind test (suc n) [] x all last = none n
  where
    none : (n : ℕ) → IsTrue (list_all test (drop n []))
    none zero = refl
    none (suc n) = refl
all_behind test (suc n) (y ∷ xs) x all last = all_behind test n xs x all last

-- where a line did nothing at the door, and what stands there behind a place is its own, nothing does
none_behind : (by : By) (n : ℕ) (door : List DoorEntry) → IsTrue (list_all (λ entry. same_line by entry.by) (drop n door)) → own_entries by door ≡ [] → length door ≤ n
none_behind by n [] all none = omega arith
none_behind by zero (entry ∷ door) all none = absurd (by_own (same_line by entry.by) (and_parts (same_line by entry.by) (list_all (λ e. same_line by e.by) door) all).0 none)
  where
    by_own : (own : Bool) → IsTrue own → cond own (entry ∷ own_entries by door) (own_entries by door) ≡ [] → ⊥
    by_own true is none = cc
    by_own false is none = cc
none_behind by (suc n) (entry ∷ door) all none =
    let rest : length door ≤ n = none_behind by n door all (by_own (same_line by entry.by) none) in
    omega arith
  where
    by_own : (own : Bool) → cond own (entry ∷ own_entries by door) (own_entries by door) ≡ [] → own_entries by door ≡ []
    by_own true none = absurd cc
    by_own false none = none

-- ---- a look

module _ (asked : Asked) (ran : Ran) (line : Line) where
  -- one that is made now is late
  pub looked_now : (stand : Line → Stand) → Account asked ran stand → (order : Option (List Line)) → LookedBy asked ran line (length ran.trace.door) order
  looked_now stand account None = answered_within (line_before (lines asked) line)
    where
      answered_within : (before : Option Line) → answered_front ran.trace before ≤ length ran.trace.door
      answered_within None = end_within (length ran.trace.door) (turns opening ran.trace) (turns_within opening asked.settings.cache ran.trace account.nodes account.office)
      answered_within (Some before) = end_within (length ran.trace.door) (turns (line_of before) ran.trace) (turns_within (line_of before) asked.settings.cache ran.trace account.nodes account.office)
  looked_now stand account (Some order) = subst (λ (l : List DoorEntry). IsTrue (list_all (λ (e : DoorEntry). same_line (line_of line) e.by) l)) (sym (drop_all ran.trace.door)) refl

  -- so is one that was, behind what the line itself adds
  pub looked_own : (added : Added) → maker_of added ≡ line_of line → IsFalse (same_line opening (line_of line)) → (looked : ℕ) (order : Option (List Line)) → LookedBy asked ran line looked order → LookedBy asked (with_added added ran) line looked order
  looked_own added by stranger looked None late = subst (λ n. n ≤ looked) (sym same) late
    where
      same : answered_front (with_added added ran).trace (line_before (lines asked) line) ≡ answered_front ran.trace (line_before (lines asked) line)
      same = since_same asked ran added line (λ other client below. subst (λ (b : By). IsFalse (same_line (line_of other) b)) (sym by) (lesser_differs other line below)) (subst (λ (b : By). IsFalse (same_line opening b)) (sym by) stranger)
  looked_own (AddsAtDoor entry) by stranger looked (Some order) late =
      all_behind (λ (e : DoorEntry). same_line (line_of line) e.by) looked ran.trace.door entry late (subst (λ (b : By). IsTrue (same_line (line_of line) b)) (sym by) (by_itself (line_of line)))
  looked_own (AddsAtNode node entry) by stranger looked (Some order) late = late
  looked_own (AddsAtOffice entry) by stranger looked (Some order) late = late
  looked_own (AddsAtBox box entry) by stranger looked (Some order) late = late

  -- a line that did nothing at the door has looked no earlier than its answer may speak of, once its last turn has seen the whole door
  pub looks_late : (view : LineView) (looked : ℕ) (order : Option (List Line)) → view.since ≡ answered_front ran.trace (line_before (lines asked) line) → last_front view ≡ length ran.trace.door → own_entries (line_of line) ran.trace.door ≡ [] → LookedBy asked ran line looked order → earliest (ran_earlier line order) view ≤ looked
  looks_late view looked None since front none late = subst (λ n. n ≤ looked) (sym since) late
  looks_late view looked (Some order) since front none late = subst (λ n. n ≤ looked) (sym front) (none_behind (line_of line) looked ran.trace.door late none)
