-- A turn at the door leaves its line's attempt as it is.
use Rattle.std.proofs.Common.{◌≡◌, ℕ, Bool, true, false, ◌&&◌, List, [], ◌∷◌, refl, sym, subst, not}
use Rattle.std.specs.Prelude.{IsTrue, Option, Some, None, if◌then◌else◌}
use Rattle.std.specs.Str.{bytes_eq}
use Rattle.std.proofs.lemmas.Bool.{and_from, and_parts, false≢true}
use Rattle.aft_keeper.specs.declared.keeper.KeeperAnswer.{KeeperAnswer}
use Rattle.aft_keeper.specs.declared.keeper.KeeperCall.TheVariants as calls
use Rattle.aft_keeper.specs.declared.keeper.Pair.{Pair}
use Rattle.aft_model.specs.declared.caller.Attempt.{Attempt}
use Rattle.aft_model.specs.declared.door.DoorAct.{DoorAct}
use Rattle.aft_model.specs.declared.door.DoorAct.TheVariants as doors
use Rattle.aft_model.specs.declared.script.Command.{Command}
use Rattle.aft_model.specs.declared.script.Command.TheVariants as commands
use Rattle.aft_model.specs.Attempts.{AttemptState, IsCommitting, Write, is_committing, is_leaving, is_opening, same_attempt}
use Rattle.aft_model.specs.Membership.{incarnation, same_incarnation}
use Rattle.aft_model.specs.NodeRules.{is_storing}
use Rattle.aft_model.specs.Readings.{marker_name, record_name}
use Rattle.aft_model.specs.Stages.{is_acknowledged}
use Rattle.aft_lines.specs.Advance.{advance, advance_claim, advance_finish, behind_failure, behind_marker, behind_settling, claimed_by, doubted_by, forgotten_by, freed_by, got_by, if_nothing, left_alone, looked_by, or_at, put_by, released_by, shut_out_by, stored_by}
use Rattle.aft_lines.specs.BeginCourse.{Beginning, gets_own}
use Rattle.aft_lines.specs.CommitCourse.{Storing, doubts, gets_record, is_release_of, is_version_of, is_written_as, puts_own}
use Rattle.aft_lines.specs.CourseWords.{Ends, caller_of, finds_nothing, finds_record, tells_down, tells_no_memory}
use Rattle.aft_lines.specs.ForgetCourse.{finds_short}
use Rattle.aft_lines.specs.Progress.{Admitted, AnyReason, EndsAborted, EndsCommitted, EndsLeft, FoundAborted, FoundNoRecord, FoundShort, FoundUnused, HasClaim, HasFailed, HasForgotten, HasReleased, IsNodeStored, IsRecorded, IsStoring, MustDoubt, MustEnd, MustLeave, MustRelease, NoRoom, NotBegun, Outcome, Progress, Reason, Refusal, Settling}
use Rattle.aft_lines.specs.Turns.{AtDoor, Turn}
use Rattle.law_holders.specs.Rows.{is_of_attempt}
use Rattle.law_claims.specs.Doing.{moves}

module _ (place : ℕ) (ends : Ends) (a : Attempt) (state : AttemptState) (uuid : List ℕ) where
  -- the next position, if there is one, moves the attempt as it is
  abbrev Goes : Option Progress → Type 0
  Goes None = Unit {0}
  Goes (Some next) = IsTrue (moves next a state uuid)

  goes_if : (passed : Bool) (next : Progress) → IsTrue (moves next a state uuid) → Goes (if passed then Some next else None)
  goes_if true next so = so
  goes_if false next so = tt

  -- ---- begins and forgets

  module _ (begun : Beginning) (so : IsTrue (same_attempt a begun.attempt && is_opening state && bytes_eq begun.uuid uuid)) where
    released_goes : (reason : Reason) (act : DoorAct) → Goes (released_by ends begun reason (AtDoor place act))
    released_goes reason (doors.Release released node inc) = goes_if (same_incarnation (caller_of begun.attempt) (incarnation node inc) && bytes_eq begun.uuid released) (HasReleased begun reason) so
    released_goes reason act = tt

    claimed_goes : (act : DoorAct) → Goes (claimed_by ends begun (AtDoor place act))
    claimed_goes (doors.Claim claimed node inc) = goes_if (same_incarnation (caller_of begun.attempt) (incarnation node inc) && bytes_eq begun.uuid claimed) (HasClaim begun) so
    claimed_goes act = tt

    got_goes : (name : List ℕ) (then_at : KeeperAnswer → Progress) → ((answer : KeeperAnswer) → IsTrue (moves (then_at answer) a state uuid)) → (act : DoorAct) → Goes (got_by ends begun name then_at (AtDoor place act))
    got_goes name then_at rows (doors.Call node inc (calls.Get got) answer) = goes_if (gets_own begun name node inc got) (then_at answer) (rows answer)
    got_goes name then_at rows act = released_goes Refusal act

    forgot_goes : (act : DoorAct) → Goes (forgotten_by ends begun (AtDoor place act))
    forgot_goes (doors.Call node inc (calls.Delete name) answer) = goes_if (gets_own begun (marker_name begun.uuid) node inc name) (HasForgotten begun) so
    forgot_goes act = released_goes Refusal act

    either_release : (nothing : Bool) (next : Progress) → IsTrue (moves next a state uuid) → IsTrue (moves (if nothing then next else MustRelease begun) a state uuid)
    either_release true next is = is
    either_release false next is = so

    marker_goes : (forgets : Bool) (answer : KeeperAnswer) → IsTrue (moves (behind_marker forgets begun answer) a state uuid)
    marker_goes false answer = either_release (finds_nothing answer) (FoundUnused begun) so
    marker_goes true answer = cases (finds_short begun.uuid answer)
      where
        cases : (short : Bool) → IsTrue (moves (if short then FoundShort begun else if finds_nothing answer then FoundUnused begun else MustRelease begun) a state uuid)
        cases true = so
        cases false = either_release (finds_nothing answer) (FoundUnused begun) so

  claim_goes : (forgets : Bool) (position : Progress) (act : DoorAct) → IsTrue (moves position a state uuid) → Goes (advance_claim ends forgets position (AtDoor place act))
  claim_goes forgets (Admitted begun) act so = claimed_goes begun so act
  claim_goes forgets (HasClaim begun) act so = got_goes begun so (record_name begun.uuid) (if_nothing (FoundNoRecord begun) begun) (λ answer. either_release begun so (finds_nothing answer) (FoundNoRecord begun) so) act
  claim_goes forgets (FoundNoRecord begun) act so = got_goes begun so (marker_name begun.uuid) (behind_marker forgets begun) (marker_goes begun so forgets) act
  claim_goes false (FoundUnused begun) act so = released_goes begun so NoRoom act
  claim_goes true (FoundUnused begun) act so = released_goes begun so AnyReason act
  claim_goes forgets (FoundShort begun) act so = forgot_goes begun so act
  claim_goes forgets (HasForgotten begun) act so = released_goes begun so AnyReason act
  claim_goes forgets (MustRelease begun) act so = released_goes begun so AnyReason act
  claim_goes forgets position act so = tt

  -- ---- commits and aborts

  freed_goes : (b : Attempt) (its : List ℕ) (outcome : Outcome) (without : Turn → Option Progress) → IsTrue (moves (MustEnd b outcome) a state uuid) → ((act : DoorAct) → without (AtDoor place act) ≡ None) → (act : DoorAct) → Goes (freed_by b its outcome without (AtDoor place act))
  freed_goes b its outcome without so nothing (doors.Release released node inc) = goes_if (is_release_of b its released node inc) (MustEnd b outcome) so
  freed_goes b its outcome without so nothing act = subst Goes (sym (nothing act)) tt

  module _ (storing : Storing) (so : IsTrue (same_attempt a storing.attempt && is_storing storing.written.commit state && bytes_eq storing.written.commit.id.uuid uuid)) where
    looked_goes : (then_at : KeeperAnswer → Progress) → ((answer : KeeperAnswer) → IsTrue (moves (then_at answer) a state uuid)) → (act : DoorAct) → Goes (looked_by ends storing then_at (AtDoor place act))
    looked_goes then_at rows (doors.Call node inc (calls.Get got) answer) = goes_if (gets_record storing node inc got) (then_at answer) (rows answer)
    looked_goes then_at rows act = tt

    put_goes : (test : Pair → Bool) (done failed : Progress) → IsTrue (moves done a state uuid) → IsTrue (moves failed a state uuid) → (act : DoorAct) → Goes (put_by ends storing test done failed (AtDoor place act))
    put_goes test done failed one other (doors.Call node inc (calls.Put name bytes) answer) = goes_if (puts_own storing test node inc name bytes) (if is_acknowledged answer then done else failed) (cases (is_acknowledged answer))
      where
        cases : (acknowledges : Bool) → IsTrue (moves (if acknowledges then done else failed) a state uuid)
        cases true = one
        cases false = other
    put_goes test done failed one other act = tt

    either_position : (found : Bool) (one other : Progress) → IsTrue (moves one a state uuid) → IsTrue (moves other a state uuid) → IsTrue (moves (if found then one else other) a state uuid)
    either_position true one other first second = first
    either_position false one other first second = second

    settling_goes : (aborts : Bool) (answer : KeeperAnswer) → IsTrue (moves (behind_settling aborts storing answer) a state uuid)
    settling_goes aborts answer =
        either_position (finds_record storing.written.commit answer) (IsRecorded storing) _ so
        (either_position (not (finds_nothing answer)) (MustDoubt storing) _ so (either_position aborts (FoundAborted storing) (IsStoring storing storing.writes) so so))

    store_goes : (left : List Write) (act : DoorAct) → Goes (stored_by ends storing left (AtDoor place act))
    store_goes [] act = put_goes (is_written_as storing.written) (IsRecorded storing) (HasFailed storing) so so act
    store_goes (write ∷ left) act = put_goes (is_version_of storing.written.commit write) (IsStoring storing left) (MustDoubt storing) so so act

    -- what is stored is being committed
    commits : (now : AttemptState) → IsTrue (is_storing storing.written.commit now) → IsTrue (is_committing now)
    commits (IsCommitting c) is = refl
    commits now is = absurd (false≢true is)

    ends_so : IsTrue (same_attempt a storing.attempt && is_committing state && true)
    ends_so =
        let parts = and_parts (same_attempt a storing.attempt && is_storing storing.written.commit state) (bytes_eq storing.written.commit.id.uuid uuid) so in
        let first = and_parts (same_attempt a storing.attempt) (is_storing storing.written.commit state) parts.0 in
        and_from _ _ (and_from _ _ first.0 (commits state first.1)) refl

  left_goes : (aborts : Bool) (b : Attempt) (its : List ℕ) → IsTrue (moves (MustLeave aborts b its) a state uuid) → IsTrue (moves (MustEnd b (EndsLeft aborts)) a state uuid)
  left_goes aborts b its so = and_from _ _ (and_parts (same_attempt a b && is_leaving state) (bytes_eq its uuid) so).0 refl

  finish_goes : (position : Progress) (act : DoorAct) → IsTrue (moves position a state uuid) → Goes (advance_finish ends position (AtDoor place act))
  finish_goes (Settling aborts storing) act so = looked_goes storing so (behind_settling aborts storing) (settling_goes storing so aborts) act
  finish_goes (IsStoring storing left) act so = store_goes storing so left act
  finish_goes (HasFailed storing) act so = looked_goes storing so (behind_failure storing) (λ answer. either_position storing so (finds_record storing.written.commit answer) (IsRecorded storing) (MustDoubt storing) so so) act
  finish_goes (IsNodeStored storing) act so = freed_goes storing.attempt storing.written.commit.id.uuid EndsCommitted (shut_out_by ends storing.attempt (doubts storing.attempt tells_down)) (ends_so storing so) (λ x. refl) act
  finish_goes (FoundAborted storing) act so =
      freed_goes storing.attempt storing.written.commit.id.uuid EndsAborted (λ last. or_at (shut_out_by ends storing.attempt (doubts storing.attempt tells_down) last) (doubted_by ends storing tells_no_memory last)) (ends_so storing so) (λ x. refl) act
  finish_goes (MustLeave aborts b its) act so = freed_goes b its (EndsLeft aborts) (left_alone ends b) (left_goes aborts b its so) (λ x. refl) act
  finish_goes position act so = tt

  line_goes : (command : Command) (nodes : List ℕ) (position : Progress) (act : DoorAct) → IsTrue (is_of_attempt command) → IsTrue (moves position a state uuid) → Goes (advance command nodes ends position (AtDoor place act))
  line_goes (commands.Begin u node) nodes NotBegun act is so = tt
  line_goes (commands.Begin u node) nodes position act is so = claim_goes false position act so
  line_goes (commands.Forget u node) nodes NotBegun act is so = tt
  line_goes (commands.Forget u node) nodes position act is so = claim_goes true position act so
  line_goes commands.Commit nodes NotBegun act is so = tt
  line_goes commands.Commit nodes position act is so = finish_goes position act so
  line_goes commands.Abort nodes NotBegun act is so = tt
  line_goes commands.Abort nodes position act is so = finish_goes position act so
  line_goes command nodes position act is so = absurd (false≢true is)

pub attempts_stay : (command : Command) (nodes uuid : List ℕ) (ends : Ends) (position next : Progress) (place : ℕ) (act : DoorAct) (a : Attempt) (state : AttemptState) → IsTrue (is_of_attempt command) → IsTrue (moves position a state uuid) → advance command nodes ends position (AtDoor place act) ≡ Some next → IsTrue (moves next a state uuid)
attempts_stay command nodes uuid ends position next place act a state is so e = subst (Goes place ends a state uuid) e (line_goes place ends a state uuid command nodes position act is so)
