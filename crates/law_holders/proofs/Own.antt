-- Whose a line's turns at the door are, and what they leave alone.
use Rattle.std.proofs.Common.{◌≡◌, ℕ, Bool, true, false, ◌&&◌, ◌||◌, eqb, List, [], ◌∷◌, refl, sym, ap, subst, ◌∙◌, inl, inr}
use Rattle.std.specs.Prelude.{IsTrue, Option, Some, None, if◌then◌else◌}
use Rattle.std.specs.Str.{bytes_eq}
use Rattle.std.proofs.lemmas.Bool.{and_from, and_parts, cases_Bool, eq-eqb, eqb-true, or_cases, or_left, or_right}
use Rattle.aft_keeper.specs.declared.keeper.KeeperAnswer.{KeeperAnswer}
use Rattle.aft_keeper.specs.declared.keeper.KeeperAnswer.TheVariants.{Absent}
use Rattle.aft_keeper.specs.declared.keeper.KeeperCall.{KeeperCall}
use Rattle.aft_keeper.specs.declared.keeper.KeeperCall.TheVariants as calls
use Rattle.aft_keeper.specs.declared.keeper.Pair.{Pair}
use Rattle.aft_model.specs.declared.caller.Attempt.{Attempt}
use Rattle.aft_model.specs.declared.door.DoorAct.{DoorAct}
use Rattle.aft_model.specs.declared.door.DoorAct.TheVariants as doors
use Rattle.aft_model.specs.declared.script.Command.{Command}
use Rattle.aft_model.specs.declared.script.Command.TheVariants as commands
use Rattle.aft_model.specs.Attempts.{Write}
use Rattle.aft_model.specs.Bytes.{is_uuid}
use Rattle.aft_model.specs.Membership.{Incarnation, incarnation, same_incarnation}
use Rattle.aft_model.specs.Readings.{marker_name, record_name}
use Rattle.aft_model.specs.Stages.{HasClaimed, IsIdle, Stage, found_no_marker, found_no_record, has_deleted_marker, has_put_pair, is_acknowledged, stage_after, stage_after_call}
use Rattle.aft_model.proofs.Sights.{bytes_eq-refl, same_bytes}
use Rattle.aft_lines.specs.Advance.{advance, advance_claim, advance_finish, behind_failure, behind_marker, behind_settling, claimed_by, doubted_by, forgotten_by, freed_by, got_by, if_nothing, left_alone, looked_by, or_at, put_by, released_by, shut_out_by, stored_by}
use Rattle.aft_lines.specs.BeginCourse.{Beginning, gets_own}
use Rattle.aft_lines.specs.CommitCourse.{Storing, doubts, gets_record, is_release_of, is_version_of, is_written_as, puts_own}
use Rattle.aft_lines.specs.CourseWords.{Ends, caller_of, tells_down, tells_no_memory}
use Rattle.aft_lines.specs.Progress.{Admitted, AnyReason, EndsAborted, EndsCommitted, EndsLeft, FoundAborted, FoundNoRecord, FoundShort, FoundUnused, HasClaim, HasFailed, HasForgotten, HasReleased, IsNodeStored, IsRecorded, IsStoring, MustDoubt, MustEnd, MustLeave, MustRelease, NoRoom, NotBegun, Outcome, Progress, Reason, Refusal, Settling}
use Rattle.aft_lines.specs.Turns.{AtDoor, Turn}
use Rattle.law_names.proofs.Differ.{markers, records}
use Rattle.law_holders.proofs.Puts.{record_leaves, version_leaves}
use Rattle.law_holders.specs.Rows.{caller_at, is_next_put, is_of_attempt, is_own_act, is_own_call, uuid_at}

-- whether an act is of the line, if it leads somewhere
abbrev is_own_step : Progress → DoorAct → Option Progress → Bool
is_own_step position act None = true
is_own_step position act (Some next) = is_own_act position act

own_if : (position next : Progress) (act : DoorAct) (passed : Bool) → (IsTrue passed → IsTrue (is_own_act position act)) → IsTrue (is_own_step position act (if passed then Some next else None))
own_if position next act true so = so refl
own_if position next act false so = refl

-- ---- begins and forgets

module _ (place : ℕ) (ends : Ends) (begun : Beginning) (position : Progress) (its : caller_at position ≡ caller_of begun.attempt) (own_uuid : uuid_at position ≡ begun.uuid) where
  -- the same test, as the position says it
  as_own : (node inc : ℕ) (test : List ℕ → Bool) → IsTrue (same_incarnation (caller_of begun.attempt) (incarnation node inc) && test begun.uuid) → IsTrue (same_incarnation (caller_at position) (incarnation node inc) && test (uuid_at position))
  as_own node inc test so = subst (λ (who : Incarnation). IsTrue (same_incarnation who (incarnation node inc) && test (uuid_at position))) (sym its) (subst (λ (u : List ℕ). IsTrue (same_incarnation (caller_of begun.attempt) (incarnation node inc) && test u)) (sym own_uuid) so)

  claimed_own : (act : DoorAct) → IsTrue (is_own_step position act (claimed_by ends begun (AtDoor place act)))
  claimed_own (doors.Claim uuid node inc) = own_if position (HasClaim begun) (doors.Claim uuid node inc) (same_incarnation (caller_of begun.attempt) (incarnation node inc) && bytes_eq begun.uuid uuid) (as_own node inc (λ u. bytes_eq u uuid))
  claimed_own act = refl

  released_own : (reason : Reason) (act : DoorAct) → IsTrue (is_own_step position act (released_by ends begun reason (AtDoor place act)))
  released_own reason (doors.Release uuid node inc) = own_if position (HasReleased begun reason) (doors.Release uuid node inc) (same_incarnation (caller_of begun.attempt) (incarnation node inc) && bytes_eq begun.uuid uuid) (as_own node inc (λ u. bytes_eq u uuid))
  released_own reason act = refl

  record_own : (then_at : KeeperAnswer → Progress) (act : DoorAct) → IsTrue (is_own_step position act (got_by ends begun (record_name begun.uuid) then_at (AtDoor place act)))
  record_own then_at (doors.Call node inc (calls.Get got) answer) =
      own_if position (then_at answer) (doors.Call node inc (calls.Get got) answer) (gets_own begun (record_name begun.uuid) node inc got)
      (λ so. as_own node inc (λ u. bytes_eq (record_name u) got || bytes_eq (marker_name u) got)
      (let parts = and_parts (same_incarnation (caller_of begun.attempt) (incarnation node inc)) (bytes_eq (record_name begun.uuid) got) so in and_from _ _ parts.0 (or_left _ _ parts.1)))
  record_own then_at act = released_own Refusal act

  marker_own : (then_at : KeeperAnswer → Progress) (act : DoorAct) → IsTrue (is_own_step position act (got_by ends begun (marker_name begun.uuid) then_at (AtDoor place act)))
  marker_own then_at (doors.Call node inc (calls.Get got) answer) =
      own_if position (then_at answer) (doors.Call node inc (calls.Get got) answer) (gets_own begun (marker_name begun.uuid) node inc got)
      (λ so. as_own node inc (λ u. bytes_eq (record_name u) got || bytes_eq (marker_name u) got)
      (let parts = and_parts (same_incarnation (caller_of begun.attempt) (incarnation node inc)) (bytes_eq (marker_name begun.uuid) got) so in and_from _ _ parts.0 (or_right (bytes_eq (record_name begun.uuid) got) _ parts.1)))
  marker_own then_at act = released_own Refusal act

  forgot_own : (act : DoorAct) → IsTrue (is_own_step position act (forgotten_by ends begun (AtDoor place act)))
  forgot_own (doors.Call node inc (calls.Delete name) answer) = own_if position (HasForgotten begun) (doors.Call node inc (calls.Delete name) answer) (gets_own begun (marker_name begun.uuid) node inc name) (as_own node inc (λ u. bytes_eq (marker_name u) name))
  forgot_own act = released_own Refusal act

claim_own : (place : ℕ) (ends : Ends) (forgets : Bool) (position : Progress) (act : DoorAct) → IsTrue (is_own_step position act (advance_claim ends forgets position (AtDoor place act)))
claim_own place ends forgets (Admitted begun) act = claimed_own place ends begun (Admitted begun) refl refl act
claim_own place ends forgets (HasClaim begun) act = record_own place ends begun (HasClaim begun) refl refl (if_nothing (FoundNoRecord begun) begun) act
claim_own place ends forgets (FoundNoRecord begun) act = marker_own place ends begun (FoundNoRecord begun) refl refl (behind_marker forgets begun) act
claim_own place ends false (FoundUnused begun) act = released_own place ends begun (FoundUnused begun) refl refl NoRoom act
claim_own place ends true (FoundUnused begun) act = released_own place ends begun (FoundUnused begun) refl refl AnyReason act
claim_own place ends forgets (FoundShort begun) act = forgot_own place ends begun (FoundShort begun) refl refl act
claim_own place ends forgets (HasForgotten begun) act = released_own place ends begun (HasForgotten begun) refl refl AnyReason act
claim_own place ends forgets (MustRelease begun) act = released_own place ends begun (MustRelease begun) refl refl AnyReason act
claim_own place ends forgets position act = refl

-- ---- commits and aborts

module _ (place : ℕ) (ends : Ends) where
  freed_own : (position : Progress) (a : Attempt) (uuid : List ℕ) (outcome : Outcome) (without : Turn → Option Progress) → caller_at position ≡ caller_of a → uuid_at position ≡ uuid → ((act : DoorAct) → without (AtDoor place act) ≡ None) → (act : DoorAct)
      → IsTrue (is_own_step position act (freed_by a uuid outcome without (AtDoor place act)))
  freed_own position a uuid outcome without its own_uuid nothing (doors.Release released node inc) =
      own_if position (MustEnd a outcome) (doors.Release released node inc) (is_release_of a uuid released node inc)
      (λ so. subst (λ (who : Incarnation). IsTrue (same_incarnation who (incarnation node inc) && bytes_eq (uuid_at position) released)) (sym its) (subst (λ (u : List ℕ). IsTrue (same_incarnation (caller_of a) (incarnation node inc) && bytes_eq u released)) (sym own_uuid) so))
  freed_own position a uuid outcome without its own_uuid nothing act = subst (λ (p : Option Progress). IsTrue (is_own_step position act p)) (sym (nothing act)) refl

  looked_own : (storing : Storing) (position : Progress) → caller_at position ≡ caller_of storing.attempt → uuid_at position ≡ storing.written.commit.id.uuid → (then_at : KeeperAnswer → Progress) (act : DoorAct) → IsTrue (is_own_step position act (looked_by ends storing then_at (AtDoor place act)))
  looked_own storing position its own_uuid then_at (doors.Call node inc (calls.Get got) answer) =
      own_if position (then_at answer) (doors.Call node inc (calls.Get got) answer) (gets_record storing node inc got)
      (λ so. let parts = and_parts (same_incarnation (caller_of storing.attempt) (incarnation node inc)) (bytes_eq (record_name storing.written.commit.id.uuid) got) so in
      and_from _ _ (subst (λ (who : Incarnation). IsTrue (same_incarnation who (incarnation node inc))) (sym its) parts.0) (or_left _ _ (subst (λ (u : List ℕ). IsTrue (bytes_eq (record_name u) got)) (sym own_uuid) parts.1)))
  looked_own storing position its own_uuid then_at act = refl

  put_own : (storing : Storing) (position : Progress) (test : Pair → Bool) (done failed : Progress) → caller_at position ≡ caller_of storing.attempt → ((pair : Pair) → IsTrue (test pair) → IsTrue (is_next_put position pair)) → (act : DoorAct)
      → IsTrue (is_own_step position act (put_by ends storing test done failed (AtDoor place act)))
  put_own storing position test done failed its so (doors.Call node inc (calls.Put name bytes) answer) =
      own_if position (if is_acknowledged answer then done else failed) (doors.Call node inc (calls.Put name bytes) answer) (puts_own storing test node inc name bytes)
      (λ is. let parts = and_parts (same_incarnation (caller_of storing.attempt) (incarnation node inc)) (test (record { name = name; bytes = bytes })) is in
      and_from _ _ (subst (λ (who : Incarnation). IsTrue (same_incarnation who (incarnation node inc))) (sym its) parts.0) (so (record { name = name; bytes = bytes }) parts.1))
  put_own storing position test done failed its so act = refl

  store_own : (storing : Storing) (left : List Write) (act : DoorAct) → IsTrue (is_own_step (IsStoring storing left) act (stored_by ends storing left (AtDoor place act)))
  store_own storing [] act = put_own storing (IsStoring storing []) (is_written_as storing.written) (IsRecorded storing) (HasFailed storing) refl (λ pair so. so) act
  store_own storing (write ∷ left) act = put_own storing (IsStoring storing (write ∷ left)) (is_version_of storing.written.commit write) (IsStoring storing left) (MustDoubt storing) refl (λ pair so. so) act

  finish_own : (position : Progress) (act : DoorAct) → IsTrue (is_own_step position act (advance_finish ends position (AtDoor place act)))
  finish_own (Settling aborts storing) act = looked_own storing (Settling aborts storing) refl refl (behind_settling aborts storing) act
  finish_own (IsStoring storing left) act = store_own storing left act
  finish_own (HasFailed storing) act = looked_own storing (HasFailed storing) refl refl (behind_failure storing) act
  finish_own (IsNodeStored storing) act = freed_own (IsNodeStored storing) storing.attempt storing.written.commit.id.uuid EndsCommitted (shut_out_by ends storing.attempt (doubts storing.attempt tells_down)) refl refl (λ a. refl) act
  finish_own (FoundAborted storing) act =
      freed_own (FoundAborted storing) storing.attempt storing.written.commit.id.uuid EndsAborted (λ last. or_at (shut_out_by ends storing.attempt (doubts storing.attempt tells_down) last) (doubted_by ends storing tells_no_memory last)) refl refl (λ a. refl) act
  finish_own (MustLeave aborts a uuid) act = freed_own (MustLeave aborts a uuid) a uuid (EndsLeft aborts) (left_alone ends a) refl refl (λ x. refl) act
  finish_own position act = refl

line_own : (command : Command) (nodes : List ℕ) (ends : Ends) (position : Progress) (place : ℕ) (act : DoorAct) → IsTrue (is_of_attempt command) → IsTrue (is_own_step position act (advance command nodes ends position (AtDoor place act)))
line_own (commands.Begin uuid node) nodes ends NotBegun place act is = refl
line_own (commands.Begin uuid node) nodes ends position place act is = claim_own place ends false position act
line_own (commands.Forget uuid node) nodes ends NotBegun place act is = refl
line_own (commands.Forget uuid node) nodes ends position place act is = claim_own place ends true position act
line_own commands.Commit nodes ends NotBegun place act is = refl
line_own commands.Commit nodes ends position place act is = finish_own place ends position act
line_own commands.Abort nodes ends NotBegun place act is = refl
line_own commands.Abort nodes ends position place act is = finish_own place ends position act
line_own command nodes ends position place act is = absurd (never command is)
  where
    never : (other : Command) → IsTrue false → ⊥
    never other x = (cc)

pub acts_own : (command : Command) (nodes : List ℕ) (ends : Ends) (position next : Progress) (place : ℕ) (act : DoorAct) → IsTrue (is_of_attempt command) → advance command nodes ends position (AtDoor place act) ≡ Some next → IsTrue (is_own_act position act)
acts_own command nodes ends position next place act is e = subst (λ (p : Option Progress). IsTrue (is_own_step position act p)) e (line_own command nodes ends position place act is)

-- ---- what such an act leaves alone

-- an incarnation that isn't the caller isn't who makes the call
pub other_caller : (who caller one : Incarnation) → same_incarnation who caller ≡ false → IsTrue (same_incarnation caller one) → same_incarnation who one ≡ false
other_caller who caller one other same = elim (cases_Bool (same_incarnation who one)) [
  | inl is ↦
      let a = and_parts (eqb who.node one.node) (eqb who.inc one.inc) is in
      let b = and_parts (eqb caller.node one.node) (eqb caller.inc one.inc) same in
      let an = eqb-true who.node one.node a.0 in
      let ai = eqb-true who.inc one.inc a.1 in
      let bn = eqb-true caller.node one.node b.0 in
      let bi = eqb-true caller.inc one.inc b.1 in
      absurd (never (sym other ∙ and_from (eqb who.node caller.node) (eqb who.inc caller.inc) (eq-eqb who.node caller.node (an ∙ sym bn)) (eq-eqb who.inc caller.inc (ai ∙ sym bi))))
  | inr not_so ↦ not_so
]
  where
    never : false ≡ true → ⊥
    never x = (cc)

pub others_keep : (position : Progress) (act : DoorAct) → IsTrue (is_own_act position act) → (who : Incarnation) (uuid : List ℕ) (before : Stage) → same_incarnation who (caller_at position) ≡ false → stage_after who uuid before act ≡ before
others_keep position (doors.Claim claimed node inc) own who uuid before other =
    let parts = and_parts (same_incarnation (caller_at position) (incarnation node inc)) (bytes_eq (uuid_at position) claimed) own in
    ap (λ (b : Bool). if b && bytes_eq uuid claimed then HasClaimed else before) (other_caller who (caller_at position) (incarnation node inc) other parts.0)
others_keep position (doors.Release released node inc) own who uuid before other =
    let parts = and_parts (same_incarnation (caller_at position) (incarnation node inc)) (bytes_eq (uuid_at position) released) own in
    ap (λ (b : Bool). if b && bytes_eq uuid released then IsIdle else before) (other_caller who (caller_at position) (incarnation node inc) other parts.0)
others_keep position (doors.Call node inc asked answer) own who uuid before other =
    let parts = and_parts (same_incarnation (caller_at position) (incarnation node inc)) (is_own_call position asked) own in
    ap (λ (b : Bool). if b then stage_after_call uuid before asked answer else before) (other_caller who (caller_at position) (incarnation node inc) other parts.0)
others_keep position act own who uuid before other = absurd (cc)

-- different texts are told apart
differ : (a b : List ℕ) → (a ≡ b → ⊥) → bytes_eq a b ≡ false
differ a b unequal = elim (cases_Bool (bytes_eq a b)) [
  | inl same ↦ absurd (unequal (same_bytes a b same))
  | inr other ↦ other
]

unlike : (a b : List ℕ) → bytes_eq a b ≡ false → a ≡ b → ⊥
unlike a b other e = never (sym other ∙ ap (λ (l : List ℕ). bytes_eq l b) e ∙ bytes_eq-refl b)
  where
    never : false ≡ true → ⊥
    never x = (cc)

module _ (position : Progress) (uuid : List ℕ) (is : IsTrue (is_uuid uuid)) (its : IsTrue (is_uuid (uuid_at position))) (other : bytes_eq uuid (uuid_at position) ≡ false) where
  named : (claimed : List ℕ) → IsTrue (bytes_eq (uuid_at position) claimed) → bytes_eq uuid claimed ≡ false
  named claimed same = ap (λ (l : List ℕ). bytes_eq uuid l) (sym (same_bytes (uuid_at position) claimed same)) ∙ other

  -- a name of the position's UUID is none of this one's
  of_record : bytes_eq (record_name (uuid_at position)) (record_name uuid) ≡ false
  of_record = differ (record_name (uuid_at position)) (record_name uuid) (λ e. unlike uuid (uuid_at position) other (sym (records (uuid_at position) uuid its is e)))

  of_marker : bytes_eq (marker_name (uuid_at position)) (marker_name uuid) ≡ false
  of_marker = differ (marker_name (uuid_at position)) (marker_name uuid) (λ e. unlike uuid (uuid_at position) other (sym (markers (uuid_at position) uuid its is e)))

  looks_away : (before : Stage) (name : List ℕ) (answer : KeeperAnswer) → bytes_eq name (record_name uuid) ≡ false → bytes_eq name (marker_name uuid) ≡ false → stage_after_call uuid before (calls.Get name) answer ≡ before
  looks_away before name Absent no_record no_marker =
      ap (λ (b : Bool). if b then found_no_record before else if bytes_eq name (marker_name uuid) then found_no_marker before else before) no_record
      ∙ ap (λ (b : Bool). if b then found_no_marker before else before) no_marker
  looks_away before name answer no_record no_marker = refl

  put_away : (before : Stage) (pair : Pair) (answer : KeeperAnswer) (at : Progress) → uuid_at at ≡ uuid_at position → IsTrue (is_next_put at pair) → has_put_pair uuid pair answer before ≡ before
  put_away before pair answer (IsStoring storing []) same so = record_leaves storing.written pair so uuid (ap (λ (u : List ℕ). bytes_eq uuid u) same ∙ other) answer before
  put_away before pair answer (IsStoring storing (write ∷ left)) same so = version_leaves storing.written.commit write pair so uuid (ap (λ (u : List ℕ). bytes_eq uuid u) same ∙ other) answer before
  put_away before pair answer at same so = absurd (cc)

  calls_away : (before : Stage) (asked : KeeperCall) (answer : KeeperAnswer) → IsTrue (is_own_call position asked) → stage_after_call uuid before asked answer ≡ before
  calls_away before (calls.Get name) answer so = elim (or_cases (bytes_eq (record_name (uuid_at position)) name) (bytes_eq (marker_name (uuid_at position)) name) so) [
    | inl one ↦
        let e = same_bytes (record_name (uuid_at position)) name one in
        looks_away before name answer (ap (λ (n : List ℕ). bytes_eq n (record_name uuid)) (sym e) ∙ of_record) (ap (λ (n : List ℕ). bytes_eq n (marker_name uuid)) (sym e))
    | inr two ↦
        let e = same_bytes (marker_name (uuid_at position)) name two in
        looks_away before name answer (ap (λ (n : List ℕ). bytes_eq n (record_name uuid)) (sym e)) (ap (λ (n : List ℕ). bytes_eq n (marker_name uuid)) (sym e) ∙ of_marker)
  ]
  calls_away before (calls.Put name bytes) answer so = put_away before (record { name = name; bytes = bytes }) answer position refl so
  calls_away before (calls.Delete name) answer so =
      ap (λ (b : Bool). if b then has_deleted_marker before else before) (ap (λ (n : List ℕ). bytes_eq n (marker_name uuid)) (sym (same_bytes (marker_name (uuid_at position)) name so)) ∙ of_marker)
  calls_away before asked answer so = refl

  pub uuids_keep : (act : DoorAct) → IsTrue (is_own_act position act) → (who : Incarnation) (before : Stage) → stage_after who uuid before act ≡ before
  uuids_keep (doors.Claim claimed node inc) own who before = passed (same_incarnation who (incarnation node inc)) (bytes_eq uuid claimed) (named claimed (and_parts (same_incarnation (caller_at position) (incarnation node inc)) (bytes_eq (uuid_at position) claimed) own).1)
    where
      passed : (by same : Bool) → same ≡ false → (if by && same then HasClaimed else before) ≡ before
      passed true same e = ap (λ (b : Bool). if b then HasClaimed else before) e
      passed false same e = refl
  uuids_keep (doors.Release released node inc) own who before = passed (same_incarnation who (incarnation node inc)) (bytes_eq uuid released) (named released (and_parts (same_incarnation (caller_at position) (incarnation node inc)) (bytes_eq (uuid_at position) released) own).1)
    where
      passed : (by same : Bool) → same ≡ false → (if by && same then IsIdle else before) ≡ before
      passed true same e = ap (λ (b : Bool). if b then IsIdle else before) e
      passed false same e = refl
  uuids_keep (doors.Call node inc asked answer) own who before = passed (same_incarnation who (incarnation node inc)) (calls_away before asked answer (and_parts (same_incarnation (caller_at position) (incarnation node inc)) (is_own_call position asked) own).1)
    where
      passed : (by : Bool) → stage_after_call uuid before asked answer ≡ before → (if by then stage_after_call uuid before asked answer else before) ≡ before
      passed true e = e
      passed false e = refl
  uuids_keep act own who before = absurd (cc)
