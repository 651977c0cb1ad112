-- A turn at the door stops no line in the middle of its course.
use Rattle.std.proofs.Common.{◌≡◌, ℕ, Bool, true, false, not, List, [], ◌∷◌, ◌++◌, refl, subst, sym}
use Rattle.std.specs.Prelude.{IsTrue, None, Option, Some, if◌then◌else◌}
use Rattle.std.proofs.lemmas.Bool.{false≢true}
use Rattle.std.proofs.lemmas.List.Sums.{fold-append}
use Rattle.aft_keeper.specs.declared.keeper.KeeperAnswer.{KeeperAnswer}
use Rattle.aft_keeper.specs.declared.keeper.KeeperCall.TheVariants as calls
use Rattle.aft_model.specs.declared.door.DoorAct.{DoorAct}
use Rattle.aft_model.specs.declared.door.DoorAct.TheVariants as doors
use Rattle.aft_model.specs.declared.door.DoorEntry.{DoorEntry}
use Rattle.aft_model.specs.Readings.{marker_name, record_name}
use Rattle.aft_model.specs.declared.script.Command.{Command}
use Rattle.aft_model.specs.declared.script.Command.TheVariants as commands
use Rattle.aft_keeper.specs.declared.keeper.Pair.{Pair}
use Rattle.aft_lines.specs.Advance.{advance, advance_claim, advance_finish, advance_get, advanced, behind_failure, behind_marker, behind_settling, got_by, if_nothing, if_so, leads_to, looked_by, put_by, released_by}
use Rattle.aft_lines.specs.BeginCourse.{Beginning, gets_own}
use Rattle.aft_lines.specs.CommitCourse.{Storing, is_version_of, is_written_as}
use Rattle.aft_lines.specs.CourseWords.{Ends, finds_nothing}
use Rattle.aft_lines.specs.Progress.{Admitted, EndsAborted, EndsCommitted, EndsLeft, Fetching, FoundAborted, FoundNoRecord, FoundShort, FoundUnused, HasClaim, HasFailed, HasFetched, HasForgotten, HasReleased, IsNodeStored, IsRecorded, IsStoring, MustDoubt, MustEnd, MustLeave, MustRelease, NotBegun, Progress, Reason, Settling, Stopped}
use Rattle.aft_lines.specs.RunsSoFar.{is_stopped_rightly}
use Rattle.aft_lines.specs.Turns.{AtDoor, Turn}
use Rattle.law_accounts.proofs.NeverStops.{GoesOrEnds, never_stops}
use Rattle.law_driver.specs.Driven.{is_at_one_node}

if_goes : (passed : Bool) (next : Progress) → GoesOrEnds (Some next) → GoesOrEnds (if_so passed next)
if_goes true next goes = goes
if_goes false next goes = tt

either_goes : (b : Bool) (one other : Progress) → GoesOrEnds (Some one) → GoesOrEnds (Some other) → GoesOrEnds (Some (if b then one else other))
either_goes true one other goes goes' = goes
either_goes false one other goes goes' = goes'

module _ (ends : Ends) (place : ℕ) where
  -- ---- begins and forgets

  released_goes : (begun : Beginning) (reason : Reason) (act : DoorAct) → GoesOrEnds (released_by ends begun reason (AtDoor place act))
  released_goes begun reason (doors.Release uuid node inc) = if_goes _ (HasReleased begun reason) tt
  released_goes begun reason act = tt

  got_goes : (begun : Beginning) (name : List ℕ) (then_at : KeeperAnswer → Progress) → ((answer : KeeperAnswer) → GoesOrEnds (Some (then_at answer))) → (act : DoorAct) → GoesOrEnds (got_by ends begun name then_at (AtDoor place act))
  got_goes begun name then_at goes (doors.Call node inc (calls.Get got) answer) = if_goes (gets_own begun name node inc got) (then_at answer) (goes answer)
  got_goes begun name then_at goes (doors.Release uuid node inc) = if_goes _ _ tt
  got_goes begun name then_at goes act = tt

  marker_goes : (forgets : Bool) (begun : Beginning) (answer : KeeperAnswer) → GoesOrEnds (Some (behind_marker forgets begun answer))
  marker_goes false begun answer = either_goes (finds_nothing answer) (FoundUnused begun) (MustRelease begun) tt tt
  marker_goes true begun answer = short_goes _ _
    where
      short_goes : (short none : Bool) → GoesOrEnds (Some (if short then FoundShort begun else if none then FoundUnused begun else MustRelease begun))
      short_goes true none = tt
      short_goes false none = either_goes none (FoundUnused begun) (MustRelease begun) tt tt

  claim_goes : (forgets : Bool) (position : Progress) (act : DoorAct) → GoesOrEnds (advance_claim ends forgets position (AtDoor place act))
  claim_goes forgets (Admitted begun) (doors.Claim uuid node inc) = if_goes _ (HasClaim begun) tt
  claim_goes forgets (Admitted begun) act = tt
  claim_goes forgets (HasClaim begun) act = got_goes begun (record_name begun.uuid) (if_nothing (FoundNoRecord begun) begun) (λ answer. either_goes (finds_nothing answer) (FoundNoRecord begun) (MustRelease begun) tt tt) act
  claim_goes forgets (FoundNoRecord begun) act = got_goes begun (marker_name begun.uuid) (behind_marker forgets begun) (marker_goes forgets begun) act
  claim_goes true (FoundUnused begun) act = released_goes begun _ act
  claim_goes false (FoundUnused begun) act = released_goes begun _ act
  claim_goes forgets (FoundShort begun) (doors.Call node inc (calls.Delete name) answer) = if_goes _ (HasForgotten begun) tt
  claim_goes forgets (FoundShort begun) (doors.Release uuid node inc) = if_goes _ _ tt
  claim_goes forgets (FoundShort begun) act = tt
  claim_goes forgets (HasForgotten begun) act = released_goes begun _ act
  claim_goes forgets (MustRelease begun) act = released_goes begun _ act
  claim_goes forgets (HasReleased begun reason) act = tt
  claim_goes forgets position act = tt

  -- ---- gets

  get_goes : (position : Progress) (act : DoorAct) → GoesOrEnds (advance_get ends position (AtDoor place act))
  get_goes (Fetching a key id) (doors.Call node inc (calls.Get name) answer) = if_goes _ (HasFetched a key id place) tt
  get_goes (Fetching a key id) act = tt
  get_goes (HasFetched a key id at) act = tt
  get_goes position act = tt

  -- ---- commits and aborts

  looked_goes : (storing : Storing) (then_at : KeeperAnswer → Progress) → ((answer : KeeperAnswer) → GoesOrEnds (Some (then_at answer))) → (act : DoorAct) → GoesOrEnds (looked_by ends storing then_at (AtDoor place act))
  looked_goes storing then_at goes (doors.Call node inc (calls.Get name) answer) = if_goes _ (then_at answer) (goes answer)
  looked_goes storing then_at goes act = tt

  put_goes : (storing : Storing) (test : Pair → Bool) (done failed : Progress) → GoesOrEnds (Some done) → GoesOrEnds (Some failed) → (act : DoorAct) → GoesOrEnds (put_by ends storing test done failed (AtDoor place act))
  put_goes storing test done failed one other (doors.Call node inc (calls.Put name bytes) answer) = if_goes _ _ (either_goes _ done failed one other)
  put_goes storing test done failed one other act = tt

  settling_goes : (aborts : Bool) (storing : Storing) (answer : KeeperAnswer) → GoesOrEnds (Some (behind_settling aborts storing answer))
  settling_goes aborts storing answer = cases _ _ aborts
    where
      cases : (found none aborts : Bool) → GoesOrEnds (Some (if found then IsRecorded storing else if not none then MustDoubt storing else if aborts then FoundAborted storing else IsStoring storing storing.writes))
      cases true none aborts = tt
      cases false false aborts = tt
      cases false true true = tt
      cases false true false = tt

  finish_goes : (position : Progress) (act : DoorAct) → GoesOrEnds (advance_finish ends position (AtDoor place act))
  finish_goes (Settling aborts storing) act = looked_goes storing (behind_settling aborts storing) (settling_goes aborts storing) act
  finish_goes (IsStoring storing []) act = put_goes storing (is_written_as storing.written) (IsRecorded storing) (HasFailed storing) tt tt act
  finish_goes (IsStoring storing (write ∷ writes)) act = put_goes storing (is_version_of storing.written.commit write) (IsStoring storing writes) (MustDoubt storing) tt tt act
  finish_goes (HasFailed storing) act = looked_goes storing (behind_failure storing) (λ answer. either_goes _ (IsRecorded storing) (MustDoubt storing) tt tt) act
  finish_goes (IsRecorded storing) act = tt
  finish_goes (IsNodeStored storing) (doors.Release released node inc) = if_goes _ (MustEnd storing.attempt EndsCommitted) tt
  finish_goes (IsNodeStored storing) act = tt
  finish_goes (FoundAborted storing) (doors.Release released node inc) = if_goes _ (MustEnd storing.attempt EndsAborted) tt
  finish_goes (FoundAborted storing) act = tt
  finish_goes (MustDoubt storing) act = tt
  finish_goes (MustLeave aborts a uuid) (doors.Release released node inc) = if_goes _ (MustEnd a (EndsLeft aborts)) tt
  finish_goes (MustLeave aborts a uuid) act = tt
  finish_goes (MustEnd a outcome) act = tt
  finish_goes position act = tt

  -- ---- any line

  pub door_goes : (command : Command) (nodes : List ℕ) → IsTrue (is_at_one_node command) → (position : Progress) (act : DoorAct) → GoesOrEnds (advance command nodes ends position (AtDoor place act))
  door_goes (commands.Begin uuid node) nodes kind NotBegun act = tt
  door_goes (commands.Begin uuid node) nodes kind position act = claim_goes false position act
  door_goes (commands.Forget uuid node) nodes kind NotBegun act = tt
  door_goes (commands.Forget uuid node) nodes kind position act = claim_goes true position act
  door_goes (commands.Get key) nodes kind NotBegun act = tt
  door_goes (commands.Get key) nodes kind position act = get_goes position act
  door_goes commands.Commit nodes kind NotBegun act = tt
  door_goes commands.Commit nodes kind position act = finish_goes position act
  door_goes commands.Abort nodes kind NotBegun act = tt
  door_goes commands.Abort nodes kind position act = finish_goes position act
  door_goes (commands.Put key value) nodes kind position act = never_stops ends (commands.Put key value) nodes position (AtDoor place act) refl
  door_goes (commands.Crash node) nodes kind position act = never_stops ends (commands.Crash node) nodes position (AtDoor place act) refl
  door_goes (commands.Start node) nodes kind position act = never_stops ends (commands.Start node) nodes position (AtDoor place act) refl
  door_goes command nodes kind position act = absurd (false≢true kind)

-- so where the last turn was at the door a line hasn't stopped
pub stops_not : (command : Command) (nodes : List ℕ) (ends : Ends) (made : List Turn) (place : ℕ) (act : DoorAct) (seen : List DoorEntry) (turns : List Turn) → IsTrue (is_at_one_node command) → turns ≡ made ++ AtDoor place act ∷ [] → IsTrue (is_stopped_rightly seen turns (leads_to command nodes ends turns))
stops_not command nodes ends made place act seen turns kind is =
    subst (λ (l : List Turn). IsTrue (is_stopped_rightly seen turns (leads_to command nodes ends l))) (sym is)
    (subst (λ (o : Option Progress). IsTrue (is_stopped_rightly seen turns o)) (sym (fold-append (advanced (advance command nodes ends)) (Some NotBegun) made (AtDoor place act ∷ []))) (by_position (leads_to command nodes ends made)))
  where
    rightly : (o : Option Progress) → GoesOrEnds o → IsTrue (is_stopped_rightly seen turns o)
    rightly None goes = refl
    rightly (Some (Stopped a)) goes = absurd goes
    rightly (Some next) goes = refl

    by_position : (o : Option Progress) → IsTrue (is_stopped_rightly seen turns (advanced (advance command nodes ends) o (AtDoor place act)))
    by_position None = refl
    by_position (Some position) = rightly (advance command nodes ends position (AtDoor place act)) (door_goes ends place command nodes kind position act)
