-- What a turn at the door makes of the stage of its line's UUID.
use Rattle.std.proofs.Common.{◌≡◌, ℕ, Bool, true, false, ◌&&◌, ◌||◌, not, List, [], ◌∷◌, refl, sym, ap, subst, ◌∙◌}
use Rattle.std.specs.Prelude.{IsTrue, Option, Some, None, filter, if◌then◌else◌}
use Rattle.std.specs.List.{list_all, list_any}
use Rattle.std.specs.Str.{bytes_eq}
use Rattle.std.proofs.lemmas.Bool.{and_from, and_parts, or_left}
use Rattle.aft_keeper.specs.declared.keeper.KeeperAnswer.{KeeperAnswer}
use Rattle.aft_keeper.specs.declared.keeper.KeeperAnswer.TheVariants.{Absent}
use Rattle.aft_keeper.specs.declared.keeper.KeeperCall.TheVariants as calls
use Rattle.aft_keeper.specs.declared.keeper.Pair.{Pair}
use Rattle.aft_model.specs.declared.caller.Attempt.{Attempt}
use Rattle.aft_model.specs.declared.door.DoorAct.{DoorAct}
use Rattle.aft_model.specs.declared.door.DoorAct.TheVariants as doors
use Rattle.aft_model.specs.declared.script.Command.{Command}
use Rattle.aft_model.specs.declared.script.Command.TheVariants as commands
use Rattle.aft_model.specs.Attempts.{Write}
use Rattle.aft_model.specs.Membership.{Incarnation, incarnation, same_incarnation}
use Rattle.aft_model.specs.Readings.{marker_name, record_name, version_name}
use Rattle.aft_model.specs.Stages.{HasClaimed, HasPut, IsClear, IsClosed, IsIdle, IsUnrecorded, Stage, found_no_marker, found_no_record, has_put_pair, is_acknowledged, stage_after, stage_after_call}
use Rattle.aft_model.proofs.Sights.{bytes_eq-refl, same_bytes}
use Rattle.aft_lines.specs.Advance.{advance, advance_claim, advance_finish, behind_failure, behind_marker, behind_settling, claimed_by, doubted_by, forgotten_by, freed_by, got_by, if_nothing, left_alone, looked_by, or_at, put_by, released_by, shut_out_by, stored_by}
use Rattle.aft_lines.specs.BeginCourse.{Beginning, gets_own}
use Rattle.aft_lines.specs.CommitCourse.{Storing, doubts, gets_record, is_release_of, is_version_of, is_written_as, puts_own}
use Rattle.aft_lines.specs.CourseWords.{Ends, caller_of, finds_nothing, finds_record, tells_down, tells_no_memory}
use Rattle.aft_lines.specs.ForgetCourse.{finds_short}
use Rattle.aft_lines.specs.Progress.{Admitted, AnyReason, EndsAborted, EndsCommitted, EndsLeft, FoundAborted, FoundNoRecord, FoundShort, FoundUnused, HasClaim, HasFailed, HasForgotten, HasReleased, IsNodeStored, IsRecorded, IsStoring, MustDoubt, MustEnd, MustLeave, MustRelease, NoRoom, NotBegun, Outcome, Progress, Reason, Refusal, Settling}
use Rattle.aft_lines.specs.Turns.{AtDoor, Turn}
use Rattle.law_holders.specs.Rows.{caller_at, has_claimed, has_put, has_writes, is_closed, is_next_row, is_of_attempt, is_row, is_unrecorded, may_have_put, uuid_at, writes_key}
use Rattle.law_holders.proofs.Puts.{record_put, still_put, version_put}

-- ---- what a get makes of a stage

record_look : (uuid : List ℕ) (before : Stage) (answer : KeeperAnswer) → stage_after_call uuid before (calls.Get (record_name uuid)) answer ≡ (if finds_nothing answer then found_no_record before else before)
record_look uuid before Absent = ap (λ (b : Bool). if b then found_no_record before else if bytes_eq (record_name uuid) (marker_name uuid) then found_no_marker before else before) (bytes_eq-refl (record_name uuid))
record_look uuid before answer = refl

marker_look : (uuid : List ℕ) (before : Stage) (answer : KeeperAnswer) → stage_after_call uuid before (calls.Get (marker_name uuid)) answer ≡ (if finds_nothing answer then found_no_marker before else before)
marker_look uuid before Absent = ap (λ (b : Bool). if b then found_no_marker before else before) (bytes_eq-refl (marker_name uuid))
marker_look uuid before answer = refl

-- a step that is taken if a test is passed, to a position whose row a stage is
abbrev row_if : Bool → Progress → Stage → Bool
row_if passed next stage = not passed || is_row next stage

-- a call of a name by the caller: the step is taken where it is the caller's and of that name, and the stage is changed where it is the caller's
own_call : (next : Progress) (before : Stage) (name got : List ℕ) (behind : List ℕ → Stage) → IsTrue (is_row next (behind name)) → (own same : Bool) → bytes_eq name got ≡ same → IsTrue (row_if (own && same) next (if own then behind got else before))
own_call next before name got behind row true true e = subst (λ (n : List ℕ). IsTrue (is_row next (behind n))) (same_bytes name got e) row
own_call next before name got behind row true false e = refl
own_call next before name got behind row false same e = refl

-- the same of a step as it is taken
taken : (position next : Progress) (before : Stage) (act : DoorAct) (passed : Bool) (behind : Stage) → stage_after (caller_at position) (uuid_at position) before act ≡ behind → IsTrue (row_if passed next behind) → IsTrue (is_next_row position before act (if passed then Some next else None))
taken position next before act true behind e row = subst (λ (s : Stage). IsTrue (is_row next s)) (sym e) row
taken position next before act false behind e row = refl

-- an own act, as a step and as it changes the stage
own_act : (next : Progress) (before behind : Stage) → IsTrue (is_row next behind) → (own : Bool) → IsTrue (row_if own next (if own then behind else before))
own_act next before behind row true = row
own_act next before behind row false = refl

-- ---- begins and forgets

module _ (place : ℕ) (ends : Ends) (begun : Beginning) (position : Progress) (its : caller_at position ≡ caller_of begun.attempt) (own_uuid : uuid_at position ≡ begun.uuid) where
  -- an act of the line's attempt
  abbrev behind_act : Stage → DoorAct → Stage
  behind_act before act = stage_after (caller_of begun.attempt) begun.uuid before act

  as_own : (before : Stage) (act : DoorAct) → stage_after (caller_at position) (uuid_at position) before act ≡ behind_act before act
  as_own before act = ap (λ (who : Incarnation). stage_after who (uuid_at position) before act) its ∙ ap (λ (u : List ℕ). stage_after (caller_of begun.attempt) u before act) own_uuid

  claimed_row : (before : Stage) (act : DoorAct) → IsTrue (is_next_row position before act (claimed_by ends begun (AtDoor place act)))
  claimed_row before (doors.Claim uuid node inc) =
      taken position (HasClaim begun) before (doors.Claim uuid node inc) (same_incarnation (caller_of begun.attempt) (incarnation node inc) && bytes_eq begun.uuid uuid) _ (as_own before (doors.Claim uuid node inc))
      (own_act (HasClaim begun) before HasClaimed refl (same_incarnation (caller_of begun.attempt) (incarnation node inc) && bytes_eq begun.uuid uuid))
  claimed_row before act = refl

  released_row : (reason : Reason) (before : Stage) (act : DoorAct) → IsTrue (is_next_row position before act (released_by ends begun reason (AtDoor place act)))
  released_row reason before (doors.Release uuid node inc) =
      taken position (HasReleased begun reason) before (doors.Release uuid node inc) (same_incarnation (caller_of begun.attempt) (incarnation node inc) && bytes_eq begun.uuid uuid) _ (as_own before (doors.Release uuid node inc))
      (own_act (HasReleased begun reason) before IsIdle refl (same_incarnation (caller_of begun.attempt) (incarnation node inc) && bytes_eq begun.uuid uuid))
  released_row reason before act = refl

  got_row : (name : List ℕ) (then_at : KeeperAnswer → Progress) (before : Stage) → ((answer : KeeperAnswer) → IsTrue (is_row (then_at answer) (stage_after_call begun.uuid before (calls.Get name) answer))) → (act : DoorAct)
      → IsTrue (is_next_row position before act (got_by ends begun name then_at (AtDoor place act)))
  got_row name then_at before rows (doors.Call node inc (calls.Get got) answer) =
      taken position (then_at answer) before (doors.Call node inc (calls.Get got) answer) (gets_own begun name node inc got) _ (as_own before (doors.Call node inc (calls.Get got) answer))
      (own_call (then_at answer) before name got (λ n. stage_after_call begun.uuid before (calls.Get n) answer) (rows answer) (same_incarnation (caller_of begun.attempt) (incarnation node inc)) (bytes_eq name got) refl)
  got_row name then_at before rows act = released_row Refusal before act

  forgot_row : (before : Stage) → IsTrue (is_unrecorded before) → (act : DoorAct) → IsTrue (is_next_row position before act (forgotten_by ends begun (AtDoor place act)))
  forgot_row before row (doors.Call node inc (calls.Delete name) answer) =
      taken position (HasForgotten begun) before (doors.Call node inc (calls.Delete name) answer) (gets_own begun (marker_name begun.uuid) node inc name) _ (as_own before (doors.Call node inc (calls.Delete name) answer))
      (own_call (HasForgotten begun) before (marker_name begun.uuid) name (λ n. stage_after_call begun.uuid before (calls.Delete n) answer) (closed before row) (same_incarnation (caller_of begun.attempt) (incarnation node inc)) (bytes_eq (marker_name begun.uuid) name) refl)
    where
      closed : (stage : Stage) → IsTrue (is_unrecorded stage) → IsTrue (is_closed (stage_after_call begun.uuid stage (calls.Delete (marker_name begun.uuid)) answer))
      closed IsUnrecorded so = ap (λ (b : Bool). is_closed (if b then IsClosed else IsUnrecorded)) (bytes_eq-refl (marker_name begun.uuid))
      closed stage so = absurd (cc)
  forgot_row before row act = released_row Refusal before act

-- behind the look at the record, and that at the marker
module _ (begun : Beginning) where
  record_rows : (before : Stage) → IsTrue (has_claimed before) → (answer : KeeperAnswer) → IsTrue (is_row (if_nothing (FoundNoRecord begun) begun answer) (stage_after_call begun.uuid before (calls.Get (record_name begun.uuid)) answer))
  record_rows HasClaimed so answer = subst (λ (s : Stage). IsTrue (is_row (if_nothing (FoundNoRecord begun) begun answer) s)) (sym (record_look begun.uuid HasClaimed answer)) (cases (finds_nothing answer))
    where
      cases : (nothing : Bool) → IsTrue (is_row (if nothing then FoundNoRecord begun else MustRelease begun) (if nothing then found_no_record HasClaimed else HasClaimed))
      cases true = refl
      cases false = refl
  record_rows before so answer = absurd (cc)

  marker_rows : (forgets : Bool) (before : Stage) → IsTrue (is_unrecorded before) → (answer : KeeperAnswer) → IsTrue (is_row (behind_marker forgets begun answer) (stage_after_call begun.uuid before (calls.Get (marker_name begun.uuid)) answer))
  marker_rows false IsUnrecorded so answer = subst (λ (s : Stage). IsTrue (is_row (behind_marker false begun answer) s)) (sym (marker_look begun.uuid IsUnrecorded answer)) (cases (finds_nothing answer))
    where
      cases : (nothing : Bool) → IsTrue (is_row (if nothing then FoundUnused begun else MustRelease begun) (if nothing then found_no_marker IsUnrecorded else IsUnrecorded))
      cases true = refl
      cases false = refl
  marker_rows true IsUnrecorded so answer = subst (λ (s : Stage). IsTrue (is_row (behind_marker true begun answer) s)) (sym (marker_look begun.uuid IsUnrecorded answer)) (by_answer answer)
    where
      found : (short : Bool) → IsTrue (is_row (if short then FoundShort begun else MustRelease begun) IsUnrecorded)
      found true = refl
      found false = refl

      by_answer : (a : KeeperAnswer) → IsTrue (is_row (behind_marker true begun a) (if finds_nothing a then found_no_marker IsUnrecorded else IsUnrecorded))
      by_answer Absent = refl
      by_answer a = found (finds_short begun.uuid a)
  marker_rows forgets before so answer = absurd (cc)

claim_row : (place : ℕ) (ends : Ends) (forgets : Bool) (position : Progress) (before : Stage) (act : DoorAct) → IsTrue (is_row position before) → IsTrue (is_next_row position before act (advance_claim ends forgets position (AtDoor place act)))
claim_row place ends forgets (Admitted begun) before act row = claimed_row place ends begun (Admitted begun) refl refl before act
claim_row place ends forgets (HasClaim begun) before act row = got_row place ends begun (HasClaim begun) refl refl (record_name begun.uuid) (if_nothing (FoundNoRecord begun) begun) before (record_rows begun before row) act
claim_row place ends forgets (FoundNoRecord begun) before act row = got_row place ends begun (FoundNoRecord begun) refl refl (marker_name begun.uuid) (behind_marker forgets begun) before (marker_rows begun forgets before row) act
claim_row place ends false (FoundUnused begun) before act row = released_row place ends begun (FoundUnused begun) refl refl NoRoom before act
claim_row place ends true (FoundUnused begun) before act row = released_row place ends begun (FoundUnused begun) refl refl AnyReason before act
claim_row place ends forgets (FoundShort begun) before act row = forgot_row place ends begun (FoundShort begun) refl refl before row act
claim_row place ends forgets (HasForgotten begun) before act row = released_row place ends begun (HasForgotten begun) refl refl AnyReason before act
claim_row place ends forgets (MustRelease begun) before act row = released_row place ends begun (MustRelease begun) refl refl AnyReason before act
claim_row place ends forgets position before act row = refl

-- ---- commits and aborts

module _ (place : ℕ) (ends : Ends) where
  freed_row : (position : Progress) (a : Attempt) (uuid : List ℕ) (outcome : Outcome) (without : Turn → Option Progress) → caller_at position ≡ caller_of a → uuid_at position ≡ uuid → ((act : DoorAct) → without (AtDoor place act) ≡ None) → (before : Stage) (act : DoorAct)
      → IsTrue (is_next_row position before act (freed_by a uuid outcome without (AtDoor place act)))
  freed_row position a uuid outcome without its own_uuid nothing before (doors.Release released node inc) =
      taken position (MustEnd a outcome) before (doors.Release released node inc) (is_release_of a uuid released node inc) _
      (ap (λ (who : Incarnation). stage_after who (uuid_at position) before (doors.Release released node inc)) its ∙ ap (λ (u : List ℕ). stage_after (caller_of a) u before (doors.Release released node inc)) own_uuid)
      (own_act (MustEnd a outcome) before IsIdle refl (is_release_of a uuid released node inc))
  freed_row position a uuid outcome without its own_uuid nothing before act = subst (λ (p : Option Progress). IsTrue (is_next_row position before act p)) (sym (nothing act)) refl

  module _ (storing : Storing) (position : Progress) (its : caller_at position ≡ caller_of storing.attempt) (own_uuid : uuid_at position ≡ storing.written.commit.id.uuid) where
    as_its : (before : Stage) (act : DoorAct) → stage_after (caller_at position) (uuid_at position) before act ≡ stage_after (caller_of storing.attempt) storing.written.commit.id.uuid before act
    as_its before act = ap (λ (who : Incarnation). stage_after who (uuid_at position) before act) its ∙ ap (λ (u : List ℕ). stage_after (caller_of storing.attempt) u before act) own_uuid

    looked_row : (then_at : KeeperAnswer → Progress) (before : Stage) → ((answer : KeeperAnswer) → IsTrue (is_row (then_at answer) (if finds_nothing answer then found_no_record before else before))) → (act : DoorAct)
        → IsTrue (is_next_row position before act (looked_by ends storing then_at (AtDoor place act)))
    looked_row then_at before rows (doors.Call node inc (calls.Get got) answer) =
        taken position (then_at answer) before (doors.Call node inc (calls.Get got) answer) (gets_record storing node inc got) _ (as_its before (doors.Call node inc (calls.Get got) answer))
        (own_call (then_at answer) before (record_name storing.written.commit.id.uuid) got (λ n. stage_after_call storing.written.commit.id.uuid before (calls.Get n) answer)
        (subst (λ (s : Stage). IsTrue (is_row (then_at answer) s)) (sym (record_look storing.written.commit.id.uuid before answer)) (rows answer)) (same_incarnation (caller_of storing.attempt) (incarnation node inc)) (bytes_eq (record_name storing.written.commit.id.uuid) got) refl)
    looked_row then_at before rows act = refl

    put_row : (test : Pair → Bool) (done failed : Progress) (before : Stage)
        → ((pair : Pair) (answer : KeeperAnswer) → IsTrue (test pair) → IsTrue (is_row (if is_acknowledged answer then done else failed) (has_put_pair storing.written.commit.id.uuid pair answer before))) → (act : DoorAct)
        → IsTrue (is_next_row position before act (put_by ends storing test done failed (AtDoor place act)))
    put_row test done failed before rows (doors.Call node inc (calls.Put name bytes) answer) =
        taken position (if is_acknowledged answer then done else failed) before (doors.Call node inc (calls.Put name bytes) answer) (puts_own storing test node inc name bytes) _ (as_its before (doors.Call node inc (calls.Put name bytes) answer))
        (cases (same_incarnation (caller_of storing.attempt) (incarnation node inc)) (test (record { name = name; bytes = bytes })) (rows (record { name = name; bytes = bytes }) answer))
      where
        cases : (own passed : Bool) → (IsTrue passed → IsTrue (is_row (if is_acknowledged answer then done else failed) (has_put_pair storing.written.commit.id.uuid (record { name = name; bytes = bytes }) answer before)))
            → IsTrue (row_if (own && passed) (if is_acknowledged answer then done else failed) (if own then has_put_pair storing.written.commit.id.uuid (record { name = name; bytes = bytes }) answer before else before))
        cases true true so = so refl
        cases true false so = refl
        cases false passed so = refl
    put_row test done failed before rows act = refl

  -- ---- the rows behind calls

  module _ (storing : Storing) where
    settled_rows : (aborts : Bool) (before : Stage) → IsTrue (may_have_put storing.written.commit before) → IsTrue (has_writes storing) → (answer : KeeperAnswer)
        → IsTrue (is_row (behind_settling aborts storing answer) (if finds_nothing answer then found_no_record before else before))
    settled_rows aborts before may whole Absent = none aborts before may
      where
        keys_left : (keys : List (List ℕ)) → IsTrue (list_all (λ key. writes_key key storing.writes) keys) → IsTrue (list_all (λ key. writes_key key storing.writes || list_any (bytes_eq (version_name key storing.written.commit.id)) []) keys)
        keys_left [] so = refl
        keys_left (key ∷ keys) so = (let parts = and_parts (writes_key key storing.writes) (list_all (λ k. writes_key k storing.writes) keys) so in and_from _ _ (or_left _ _ parts.0) (keys_left keys parts.1))

        none : (a : Bool) (stage : Stage) → IsTrue (may_have_put storing.written.commit stage) → IsTrue (is_row (if a then FoundAborted storing else IsStoring storing storing.writes) (found_no_record stage))
        none true (IsClear names) so = refl
        none true (HasPut d) so = refl
        none false (IsClear names) so = keys_left storing.written.commit.keys whole
        none false (HasPut d) so = keys_left storing.written.commit.keys whole
        none a stage so = absurd (cc)
    settled_rows aborts before may whole answer = other (finds_record storing.written.commit answer)
      where
        other : (found : Bool) → IsTrue (is_row (if found then IsRecorded storing else MustDoubt storing) before)
        other true = may
        other false = may

    failed_rows : (before : Stage) → IsTrue (has_put storing.written.commit before) → (answer : KeeperAnswer) → IsTrue (is_row (behind_failure storing answer) (if finds_nothing answer then found_no_record before else before))
    failed_rows (HasPut d) so Absent = refl
    failed_rows (HasPut d) so answer = cases (finds_record storing.written.commit answer)
      where
        cases : (found : Bool) → IsTrue (is_row (if found then IsRecorded storing else MustDoubt storing) (HasPut d))
        cases true = so
        cases false = so
    failed_rows before so answer = absurd (cc)

    write_rows : (write : Write) (left : List Write) (before : Stage) → IsTrue (is_row (IsStoring storing (write ∷ left)) before) → (pair : Pair) (answer : KeeperAnswer) → IsTrue (is_version_of storing.written.commit write pair)
        → IsTrue (is_row (if is_acknowledged answer then IsStoring storing left else MustDoubt storing) (has_put_pair storing.written.commit.id.uuid pair answer before))
    write_rows write left (IsClear names) so pair answer is =
        subst (λ (s : Stage). IsTrue (is_row (if is_acknowledged answer then IsStoring storing left else MustDoubt storing) s)) (sym (version_put storing.written.commit write pair is answer names)) (cases (is_acknowledged answer))
      where
        cases : (acknowledges : Bool) → IsTrue (is_row (if acknowledges then IsStoring storing left else MustDoubt storing) (IsClear (if acknowledges then pair.name ∷ names else filter (λ other. not (bytes_eq pair.name other)) names)))
        cases true = still_put storing.written.commit write pair is left names so
        cases false = refl
    write_rows write left before so pair answer is = absurd (cc)

    record_rows_put : (before : Stage) → IsTrue (is_row (IsStoring storing []) before) → (pair : Pair) (answer : KeeperAnswer) → IsTrue (is_written_as storing.written pair)
        → IsTrue (is_row (if is_acknowledged answer then IsRecorded storing else HasFailed storing) (has_put_pair storing.written.commit.id.uuid pair answer before))
    record_rows_put (IsClear names) so pair answer is = cases (is_acknowledged answer) (has_put_pair storing.written.commit.id.uuid pair answer (IsClear names)) (record_put storing.written pair is answer names)
      where
        cases : (acknowledges : Bool) (stage : Stage) → IsTrue (has_put storing.written.commit stage) → IsTrue (is_row (if acknowledges then IsRecorded storing else HasFailed storing) stage)
        cases true (HasPut d) put = put
        cases true stage put = absurd (cc)
        cases false stage put = put
    record_rows_put before so pair answer is = absurd (cc)

    store_row : (left : List Write) (before : Stage) (act : DoorAct) → IsTrue (is_row (IsStoring storing left) before) → IsTrue (is_next_row (IsStoring storing left) before act (stored_by ends storing left (AtDoor place act)))
    store_row [] before act row = put_row storing (IsStoring storing []) refl refl (is_written_as storing.written) (IsRecorded storing) (HasFailed storing) before (record_rows_put before row) act
    store_row (write ∷ left) before act row = put_row storing (IsStoring storing (write ∷ left)) refl refl (is_version_of storing.written.commit write) (IsStoring storing left) (MustDoubt storing) before (write_rows write left before row) act

  finish_row : (position : Progress) (before : Stage) (act : DoorAct) → IsTrue (is_row position before) → IsTrue (is_next_row position before act (advance_finish ends position (AtDoor place act)))
  finish_row (Settling aborts storing) before act row =
      let parts = and_parts (may_have_put storing.written.commit before) (has_writes storing) row in
      looked_row storing (Settling aborts storing) refl refl (behind_settling aborts storing) before (settled_rows storing aborts before parts.0 parts.1) act
  finish_row (IsStoring storing left) before act row = store_row storing left before act row
  finish_row (HasFailed storing) before act row = looked_row storing (HasFailed storing) refl refl (behind_failure storing) before (failed_rows storing before row) act
  finish_row (IsNodeStored storing) before act row = freed_row (IsNodeStored storing) storing.attempt storing.written.commit.id.uuid EndsCommitted (shut_out_by ends storing.attempt (doubts storing.attempt tells_down)) refl refl (λ a. refl) before act
  finish_row (FoundAborted storing) before act row = freed_row (FoundAborted storing) storing.attempt storing.written.commit.id.uuid EndsAborted (λ last. or_at (shut_out_by ends storing.attempt (doubts storing.attempt tells_down) last) (doubted_by ends storing tells_no_memory last)) refl refl (λ a. refl) before act
  finish_row (MustLeave aborts a uuid) before act row = freed_row (MustLeave aborts a uuid) a uuid (EndsLeft aborts) (left_alone ends a) refl refl (λ x. refl) before act
  finish_row position before act row = refl

-- ---- any of the lines

line_row : (command : Command) (nodes : List ℕ) (ends : Ends) (position : Progress) (place : ℕ) (act : DoorAct) (before : Stage) → IsTrue (is_of_attempt command) → IsTrue (is_row position before) → IsTrue (is_next_row position before act (advance command nodes ends position (AtDoor place act)))
line_row (commands.Begin uuid node) nodes ends NotBegun place act before is row = refl
line_row (commands.Begin uuid node) nodes ends position place act before is row = claim_row place ends false position before act row
line_row (commands.Forget uuid node) nodes ends NotBegun place act before is row = refl
line_row (commands.Forget uuid node) nodes ends position place act before is row = claim_row place ends true position before act row
line_row commands.Commit nodes ends NotBegun place act before is row = refl
line_row commands.Commit nodes ends position place act before is row = finish_row place ends position before act row
line_row commands.Abort nodes ends NotBegun place act before is row = refl
line_row commands.Abort nodes ends position place act before is row = finish_row place ends position before act row
line_row command nodes ends position place act before is row = absurd (never command is)
  where
    never : (other : Command) → IsTrue false → ⊥
    never other x = (cc)

pub rows_move : (command : Command) (nodes : List ℕ) (ends : Ends) (position next : Progress) (place : ℕ) (act : DoorAct) (before : Stage) → IsTrue (is_of_attempt command) → IsTrue (is_row position before) → advance command nodes ends position (AtDoor place act) ≡ Some next
    → IsTrue (is_row next (stage_after (caller_at position) (uuid_at position) before act))
rows_move command nodes ends position next place act before is row e = subst (λ (p : Option Progress). IsTrue (is_next_row position before act p)) e (line_row command nodes ends position place act before is row)
