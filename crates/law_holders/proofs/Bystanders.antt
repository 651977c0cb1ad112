-- What the lines of other commands leave alone.
use Rattle.std.proofs.Common.{◌≡◌, ℕ, Bool, true, false, ◌&&◌, not, eqb, List, refl, sym, ap, subst, ◌∙◌, inl, inr}
use Rattle.std.specs.Prelude.{IsTrue, if◌then◌else◌}
use Rattle.std.specs.Str.{bytes_eq}
use Rattle.std.proofs.lemmas.Bool.{and_left, and_parts, cases_Bool, eq-eqb, eqb-true, not-true}
use Rattle.aft_keeper.specs.declared.keeper.KeeperAnswer.{KeeperAnswer}
use Rattle.aft_keeper.specs.declared.keeper.KeeperAnswer.TheVariants.{Absent}
use Rattle.aft_keeper.specs.declared.keeper.KeeperCall.{KeeperCall}
use Rattle.aft_keeper.specs.declared.keeper.KeeperCall.TheVariants as calls
use Rattle.aft_model.specs.declared.door.DoorAct.{DoorAct}
use Rattle.aft_model.specs.declared.door.DoorAct.TheVariants as doors
use Rattle.aft_model.specs.declared.script.Command.{Command}
use Rattle.aft_model.specs.declared.script.Command.TheVariants as commands
use Rattle.aft_model.specs.Membership.{Incarnation, incarnation, same_incarnation, the_office}
use Rattle.aft_model.specs.Readings.{marker_name, record_name}
use Rattle.aft_model.specs.Stages.{HasClaimed, IsIdle, Stage, found_no_marker, found_no_record, stage_after, stage_after_call}
use Rattle.aft_model.proofs.Sights.{same_bytes}
use Rattle.aft_lines.specs.BackupCourse.{copier}
use Rattle.aft_lines.specs.Makes.{all_versions, collects_by_office, copies_by_copier, is_under, makes_at_door, tidies_by_office}
use Rattle.law_holders.specs.Rows.{is_of_attempt, is_of_node}
use Rattle.law_holders.proofs.Own.{other_caller}

never : false ≡ true → ⊥
never x = (cc)

module _ (who : Incarnation) (uuid : List ℕ) (before : Stage) (of_node : IsTrue (is_of_node who)) where
  -- an act of another
  another_call : (node inc : ℕ) (asked : KeeperCall) (answer : KeeperAnswer) → same_incarnation who (incarnation node inc) ≡ false → stage_after who uuid before (doors.Call node inc asked answer) ≡ before
  another_call node inc asked answer other = ap (λ (b : Bool). if b then stage_after_call uuid before asked answer else before) other

  not_office : (node inc : ℕ) → IsTrue (same_incarnation the_office (incarnation node inc)) → same_incarnation who (incarnation node inc) ≡ false
  not_office node inc own =
      other_caller who the_office (incarnation node inc) (and_left (eqb who.node 0) (eqb who.inc 1) (not-true (eqb who.node 0) (and_parts (not (eqb who.node 0)) (not (eqb who.node copier)) of_node).0)) own

  not_copier : (node inc : ℕ) → IsTrue (eqb node copier) → same_incarnation who (incarnation node inc) ≡ false
  not_copier node inc own = and_left (eqb who.node node) (eqb who.inc inc) (elim (cases_Bool (eqb who.node node)) [
    | inl same ↦ absurd (never (sym (not-true (eqb who.node copier) (and_parts (not (eqb who.node 0)) (not (eqb who.node copier)) of_node).1) ∙ eq-eqb who.node copier (eqb-true who.node node same ∙ eqb-true node copier own)))
    | inr other ↦ other
  ])

  -- a scan changes no stage
  scan_alone : (node inc : ℕ) (prefix after : List ℕ) (limit : ℕ) (answer : KeeperAnswer) → stage_after who uuid before (doors.Call node inc (calls.Scan prefix after limit) answer) ≡ before
  scan_alone node inc prefix after limit answer = cases (same_incarnation who (incarnation node inc))
    where
      cases : (own : Bool) → (if own then before else before) ≡ before
      cases true = refl
      cases false = refl

  -- nor does the get of a version
  no_version_name : (name other : List ℕ) → IsTrue (is_under all_versions name) → (is_under all_versions other ≡ false) → bytes_eq name other ≡ false
  no_version_name name other under none = elim (cases_Bool (bytes_eq name other)) [
    | inl same ↦ absurd (never (sym none ∙ subst (λ (n : List ℕ). IsTrue (is_under all_versions n)) (same_bytes name other same) under))
    | inr differs ↦ differs
  ]

  version_alone : (node inc : ℕ) (name : List ℕ) (answer : KeeperAnswer) → IsTrue (is_under all_versions name) → stage_after who uuid before (doors.Call node inc (calls.Get name) answer) ≡ before
  version_alone node inc name answer under = cases (same_incarnation who (incarnation node inc)) (looks answer)
    where
      looks : (a : KeeperAnswer) → stage_after_call uuid before (calls.Get name) a ≡ before
      looks Absent =
          ap (λ (b : Bool). if b then found_no_record before else if bytes_eq name (marker_name uuid) then found_no_marker before else before) (no_version_name name (record_name uuid) under refl)
          ∙ ap (λ (b : Bool). if b then found_no_marker before else before) (no_version_name name (marker_name uuid) under refl)
      looks a = refl

      cases : (own : Bool) → stage_after_call uuid before (calls.Get name) answer ≡ before → (if own then stage_after_call uuid before (calls.Get name) answer else before) ≡ before
      cases true e = e
      cases false e = refl

  -- claims and releases of the office
  office_claim : (claimed : List ℕ) (node inc : ℕ) → IsTrue (same_incarnation the_office (incarnation node inc)) → stage_after who uuid before (doors.Claim claimed node inc) ≡ before
  office_claim claimed node inc own = ap (λ (b : Bool). if b && bytes_eq uuid claimed then HasClaimed else before) (not_office node inc own)

  office_release : (released : List ℕ) (node inc : ℕ) → IsTrue (same_incarnation the_office (incarnation node inc)) → stage_after who uuid before (doors.Release released node inc) ≡ before
  office_release released node inc own = ap (λ (b : Bool). if b && bytes_eq uuid released then IsIdle else before) (not_office node inc own)

  pub bystander : (command : Command) (act : DoorAct) → is_of_attempt command ≡ false → IsTrue (makes_at_door command act) → stage_after who uuid before act ≡ before
  bystander (commands.Begin u node) act other made = absurd (never (sym other))
  bystander (commands.Forget u node) act other made = absurd (never (sym other))
  bystander commands.Commit act other made = absurd (never (sym other))
  bystander commands.Abort act other made = absurd (never (sym other))
  bystander (commands.Get key) (doors.Call node inc (calls.Get name) answer) other made = version_alone node inc name answer made
  bystander (commands.Get key) act other made = absurd (cc)
  bystander (commands.Crash home) (doors.Fence node inc) other made = refl
  bystander (commands.Crash home) act other made = absurd (cc)
  bystander (commands.Start home) (doors.Up node inc) other made = refl
  bystander (commands.Start home) (doors.Call node inc (calls.Scan prefix after limit) answer) other made = scan_alone node inc prefix after limit answer
  bystander (commands.Start home) act other made = absurd (cc)
  bystander commands.Manager (doors.Call node inc (calls.Scan prefix after limit) answer) other made = scan_alone node inc prefix after limit answer
  bystander commands.Manager act other made = absurd (cc)
  bystander commands.Collect (doors.Call node inc asked answer) other made = another_call node inc asked answer (not_office node inc (and_parts (same_incarnation the_office (incarnation node inc)) (collects_by_office asked) made).0)
  bystander commands.Collect (doors.GiveUp node inc id) other made = refl
  bystander commands.Collect act other made = absurd (cc)
  bystander (commands.Orphans key) (doors.Claim claimed node inc) other made = office_claim claimed node inc made
  bystander (commands.Orphans key) (doors.Release released node inc) other made = office_release released node inc made
  bystander (commands.Orphans key) (doors.Call node inc asked answer) other made = another_call node inc asked answer (not_office node inc (and_parts (same_incarnation the_office (incarnation node inc)) (tidies_by_office asked) made).0)
  bystander (commands.Orphans key) act other made = absurd (cc)
  bystander commands.Backup (doors.Up node inc) other made = refl
  bystander commands.Backup (doors.Fence node inc) other made = refl
  bystander commands.Backup (doors.Call node inc asked answer) other made = another_call node inc asked answer (not_copier node inc (and_parts (eqb node copier) (copies_by_copier asked) made).0)
  bystander commands.Backup act other made = absurd (cc)
  bystander command act other made = absurd (cc)
