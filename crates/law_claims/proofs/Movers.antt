-- Which positions a turn at the door, and a later turn at all, can come from: those that move an attempt.
use Rattle.std.proofs.Common.{◌≡◌, ℕ, Bool, true, false, List, refl, subst, ◌⊎◌, inl, inr}
use Rattle.std.specs.Prelude.{IsTrue, Option, Some, None}
use Rattle.std.specs.Str.{bytes_eq}
use Rattle.std.proofs.lemmas.Bool.{and_parts, false≢true, not-true}
use Rattle.aft_keeper.specs.declared.keeper.KeeperAnswer.{KeeperAnswer}
use Rattle.aft_keeper.specs.declared.keeper.KeeperCall.{KeeperCall}
use Rattle.aft_records.specs.declared.stored.Commit.{Commit}
use Rattle.aft_model.specs.declared.caller.Attempt.{Attempt}
use Rattle.aft_model.specs.declared.door.DoorAct.{DoorAct}
use Rattle.aft_model.specs.declared.door.DoorAct.TheVariants as doors
use Rattle.aft_model.specs.declared.script.Command.{Command}
use Rattle.aft_model.specs.declared.script.Command.TheVariants as commands
use Rattle.aft_model.specs.Stages.{HasClaimed, HasPut, IsClear, IsClosed, IsUnrecorded, Stage, is_clear}
use Rattle.aft_lines.specs.Advance.{advance, advance_claim, advance_finish}
use Rattle.aft_lines.specs.CourseWords.{Ends, caller_of}
use Rattle.aft_lines.specs.Progress.{Admitted, FoundAborted, FoundNoRecord, FoundShort, FoundUnused, HasClaim, HasFailed, HasForgotten, HasReleased, IsNodeStored, IsRecorded, IsStoring, MustDoubt, MustEnd, MustLeave, MustRelease, NotBegun, Progress, Settling}
use Rattle.aft_lines.specs.Turns.{AtDoor, Turn}
use Rattle.law_holders.specs.Rows.{are_put_but, caller_at, has_claimed, has_put, has_writes, is_closed, is_idle, is_of_attempt, is_row, is_unrecorded, may_have_put, uuid_at}
use Rattle.law_claims.specs.Doing.{attempt_at, names_uuid}
use Rattle.law_claims.proofs.Idle.{Busy}

-- ---- at the door

-- a position that moves an attempt, and says its UUID
abbrev pub Mover : Progress → Type 0
Mover position = (b : Attempt) × (attempt_at position ≡ Some b) × (caller_at position ≡ caller_of b) × ((uuid : List ℕ) → IsTrue (names_uuid position uuid) → IsTrue (bytes_eq (uuid_at position) uuid))

abbrev MoverIf : Progress → Option Progress → Type 0
MoverIf position None = Unit {0}
MoverIf position (Some next) = Mover position

mover_if : (position : Progress) (next : Option Progress) → Mover position → MoverIf position next
mover_if position None mover = tt
mover_if position (Some next) mover = mover

module _ (place : ℕ) (ends : Ends) (act : DoorAct) where
  claim_mover : (forgets : Bool) (position : Progress) → MoverIf position (advance_claim ends forgets position (AtDoor place act))
  claim_mover forgets (Admitted begun) = mover_if (Admitted begun) (advance_claim ends forgets (Admitted begun) (AtDoor place act)) (begun.attempt, refl, refl, λ u so. so)
  claim_mover forgets (HasClaim begun) = mover_if (HasClaim begun) (advance_claim ends forgets (HasClaim begun) (AtDoor place act)) (begun.attempt, refl, refl, λ u so. so)
  claim_mover forgets (FoundNoRecord begun) = mover_if (FoundNoRecord begun) (advance_claim ends forgets (FoundNoRecord begun) (AtDoor place act)) (begun.attempt, refl, refl, λ u so. so)
  claim_mover forgets (FoundUnused begun) = mover_if (FoundUnused begun) (advance_claim ends forgets (FoundUnused begun) (AtDoor place act)) (begun.attempt, refl, refl, λ u so. so)
  claim_mover forgets (FoundShort begun) = mover_if (FoundShort begun) (advance_claim ends forgets (FoundShort begun) (AtDoor place act)) (begun.attempt, refl, refl, λ u so. so)
  claim_mover forgets (HasForgotten begun) = mover_if (HasForgotten begun) (advance_claim ends forgets (HasForgotten begun) (AtDoor place act)) (begun.attempt, refl, refl, λ u so. so)
  claim_mover forgets (MustRelease begun) = mover_if (MustRelease begun) (advance_claim ends forgets (MustRelease begun) (AtDoor place act)) (begun.attempt, refl, refl, λ u so. so)
  claim_mover forgets position = tt

  finish_mover : (position : Progress) → MoverIf position (advance_finish ends position (AtDoor place act))
  finish_mover (Settling aborts storing) = mover_if (Settling aborts storing) (advance_finish ends (Settling aborts storing) (AtDoor place act)) (storing.attempt, refl, refl, λ u so. so)
  finish_mover (IsStoring storing left) = mover_if (IsStoring storing left) (advance_finish ends (IsStoring storing left) (AtDoor place act)) (storing.attempt, refl, refl, λ u so. so)
  finish_mover (HasFailed storing) = mover_if (HasFailed storing) (advance_finish ends (HasFailed storing) (AtDoor place act)) (storing.attempt, refl, refl, λ u so. so)
  finish_mover (IsNodeStored storing) = mover_if (IsNodeStored storing) (advance_finish ends (IsNodeStored storing) (AtDoor place act)) (storing.attempt, refl, refl, λ u so. so)
  finish_mover (FoundAborted storing) = mover_if (FoundAborted storing) (advance_finish ends (FoundAborted storing) (AtDoor place act)) (storing.attempt, refl, refl, λ u so. so)
  finish_mover (MustLeave aborts a uuid) = mover_if (MustLeave aborts a uuid) (advance_finish ends (MustLeave aborts a uuid) (AtDoor place act)) (a, refl, refl, λ u so. so)
  finish_mover position = tt

  line_mover : (command : Command) (nodes : List ℕ) (position : Progress) → IsTrue (is_of_attempt command) → MoverIf position (advance command nodes ends position (AtDoor place act))
  line_mover (commands.Begin u node) nodes NotBegun is = tt
  line_mover (commands.Begin u node) nodes position is = claim_mover false position
  line_mover (commands.Forget u node) nodes NotBegun is = tt
  line_mover (commands.Forget u node) nodes position is = claim_mover true position
  line_mover commands.Commit nodes NotBegun is = tt
  line_mover commands.Commit nodes position is = finish_mover position
  line_mover commands.Abort nodes NotBegun is = tt
  line_mover commands.Abort nodes position is = finish_mover position
  line_mover command nodes position is = absurd (false≢true is)

pub door_mover : (command : Command) (nodes : List ℕ) (ends : Ends) (position next : Progress) (place : ℕ) (act : DoorAct) → IsTrue (is_of_attempt command) → advance command nodes ends position (AtDoor place act) ≡ Some next → Mover position
door_mover command nodes ends position next place act is e = subst (MoverIf position) e (line_mover place ends act command nodes position is)

-- ---- a call comes behind the claim

pub claimed_stage_busy : (s : Stage) → IsTrue (has_claimed s) → Busy s
claimed_stage_busy HasClaimed so = refl
claimed_stage_busy s so = absurd (false≢true so)

pub unrecorded_busy : (s : Stage) → IsTrue (is_unrecorded s) → Busy s
unrecorded_busy IsUnrecorded so = refl
unrecorded_busy s so = absurd (false≢true so)

pub clear_busy : (test : List (List ℕ) → Bool) (s : Stage) → IsTrue (is_clear test s) → Busy s
clear_busy test (IsClear names) so = refl
clear_busy test s so = absurd (false≢true so)

pub put_busy : (c : Commit) (s : Stage) → IsTrue (has_put c s) → Busy s
put_busy c (HasPut d) so = refl
put_busy c s so = absurd (false≢true so)

pub may_busy : (c : Commit) (s : Stage) → IsTrue (may_have_put c s) → Busy s
may_busy c (IsClear names) so = refl
may_busy c (HasPut d) so = refl
may_busy c s so = absurd (false≢true so)

pub closed_busy : (s : Stage) → IsTrue (is_closed s) → Busy s
closed_busy IsClosed so = refl
closed_busy s so = absurd (false≢true so)

abbrev BusyIf : Stage → Option Progress → Type 0
BusyIf s None = Unit {0}
BusyIf s (Some next) = Busy s

busy_if : (s : Stage) (next : Option Progress) → Busy s → BusyIf s next
busy_if s None busy = tt
busy_if s (Some next) busy = busy

module _ (place : ℕ) (ends : Ends) (node inc : ℕ) (asked : KeeperCall) (answer : KeeperAnswer) (s : Stage) where
  abbrev call : Turn
  call = AtDoor place (doors.Call node inc asked answer)

  claim_busy : (forgets : Bool) (position : Progress) → IsTrue (is_row position s) → BusyIf s (advance_claim ends forgets position call)
  claim_busy forgets (HasClaim begun) row = busy_if s (advance_claim ends forgets (HasClaim begun) call) (claimed_stage_busy s row)
  claim_busy forgets (FoundNoRecord begun) row = busy_if s (advance_claim ends forgets (FoundNoRecord begun) call) (unrecorded_busy s row)
  claim_busy forgets (FoundUnused begun) row = busy_if s (advance_claim ends forgets (FoundUnused begun) call) (clear_busy (λ names. true) s row)
  claim_busy forgets (FoundShort begun) row = busy_if s (advance_claim ends forgets (FoundShort begun) call) (unrecorded_busy s row)
  claim_busy forgets (HasForgotten begun) row = busy_if s (advance_claim ends forgets (HasForgotten begun) call) (closed_busy s row)
  claim_busy forgets (MustRelease begun) row = busy_if s (advance_claim ends forgets (MustRelease begun) call) (not-true (is_idle s) row)
  claim_busy forgets position row = tt

  finish_busy : (position : Progress) → IsTrue (is_row position s) → BusyIf s (advance_finish ends position call)
  finish_busy (Settling aborts storing) row = busy_if s (advance_finish ends (Settling aborts storing) call) (may_busy storing.written.commit s (and_parts (may_have_put storing.written.commit s) (has_writes storing) row).0)
  finish_busy (IsStoring storing left) row = busy_if s (advance_finish ends (IsStoring storing left) call) (clear_busy (are_put_but left storing.written.commit) s row)
  finish_busy (HasFailed storing) row = busy_if s (advance_finish ends (HasFailed storing) call) (put_busy storing.written.commit s row)
  finish_busy position row = tt

  line_busy : (command : Command) (nodes : List ℕ) (position : Progress) → IsTrue (is_of_attempt command) → IsTrue (is_row position s) → BusyIf s (advance command nodes ends position call)
  line_busy (commands.Begin u home) nodes NotBegun is row = tt
  line_busy (commands.Begin u home) nodes position is row = claim_busy false position row
  line_busy (commands.Forget u home) nodes NotBegun is row = tt
  line_busy (commands.Forget u home) nodes position is row = claim_busy true position row
  line_busy commands.Commit nodes NotBegun is row = tt
  line_busy commands.Commit nodes position is row = finish_busy position row
  line_busy commands.Abort nodes NotBegun is row = tt
  line_busy commands.Abort nodes position is row = finish_busy position row
  line_busy command nodes position is row = absurd (false≢true is)

pub call_busy : (command : Command) (nodes : List ℕ) (ends : Ends) (position next : Progress) (place node inc : ℕ) (asked : KeeperCall) (answer : KeeperAnswer) (s : Stage) → IsTrue (is_of_attempt command) → IsTrue (is_row position s)
    → advance command nodes ends position (AtDoor place (doors.Call node inc asked answer)) ≡ Some next → Busy s
call_busy command nodes ends position next place node inc asked answer s is row e = subst (BusyIf s) e (line_busy place ends node inc asked answer s command nodes position is row)

-- ---- a later turn

abbrev Begun : Progress → Type 0
Begun position = (position ≡ NotBegun) ⊎ ((b : Attempt) × (attempt_at position ≡ Some b))

abbrev BegunIf : Progress → Option Progress → Type 0
BegunIf position None = Unit {0}
BegunIf position (Some next) = Begun position

begun_if : (position : Progress) (next : Option Progress) (b : Attempt) → attempt_at position ≡ Some b → BegunIf position next
begun_if position None b is = tt
begun_if position (Some next) b is = inr (b, is)

first_if : (next : Option Progress) → BegunIf NotBegun next
first_if None = tt
first_if (Some next) = inl refl

module _ (ends : Ends) (turn : Turn) where
  claim_begun : (forgets : Bool) (position : Progress) → BegunIf position (advance_claim ends forgets position turn)
  claim_begun forgets (Admitted begun) = begun_if (Admitted begun) (advance_claim ends forgets (Admitted begun) turn) begun.attempt refl
  claim_begun forgets (HasClaim begun) = begun_if (HasClaim begun) (advance_claim ends forgets (HasClaim begun) turn) begun.attempt refl
  claim_begun forgets (FoundNoRecord begun) = begun_if (FoundNoRecord begun) (advance_claim ends forgets (FoundNoRecord begun) turn) begun.attempt refl
  claim_begun forgets (FoundUnused begun) = begun_if (FoundUnused begun) (advance_claim ends forgets (FoundUnused begun) turn) begun.attempt refl
  claim_begun forgets (FoundShort begun) = begun_if (FoundShort begun) (advance_claim ends forgets (FoundShort begun) turn) begun.attempt refl
  claim_begun forgets (HasForgotten begun) = begun_if (HasForgotten begun) (advance_claim ends forgets (HasForgotten begun) turn) begun.attempt refl
  claim_begun forgets (MustRelease begun) = begun_if (MustRelease begun) (advance_claim ends forgets (MustRelease begun) turn) begun.attempt refl
  claim_begun forgets (HasReleased begun reason) = begun_if (HasReleased begun reason) (advance_claim ends forgets (HasReleased begun reason) turn) begun.attempt refl
  claim_begun forgets position = tt

  finish_begun : (position : Progress) → BegunIf position (advance_finish ends position turn)
  finish_begun (Settling aborts storing) = begun_if (Settling aborts storing) (advance_finish ends (Settling aborts storing) turn) storing.attempt refl
  finish_begun (IsStoring storing left) = begun_if (IsStoring storing left) (advance_finish ends (IsStoring storing left) turn) storing.attempt refl
  finish_begun (HasFailed storing) = begun_if (HasFailed storing) (advance_finish ends (HasFailed storing) turn) storing.attempt refl
  finish_begun (IsRecorded storing) = begun_if (IsRecorded storing) (advance_finish ends (IsRecorded storing) turn) storing.attempt refl
  finish_begun (IsNodeStored storing) = begun_if (IsNodeStored storing) (advance_finish ends (IsNodeStored storing) turn) storing.attempt refl
  finish_begun (FoundAborted storing) = begun_if (FoundAborted storing) (advance_finish ends (FoundAborted storing) turn) storing.attempt refl
  finish_begun (MustDoubt storing) = begun_if (MustDoubt storing) (advance_finish ends (MustDoubt storing) turn) storing.attempt refl
  finish_begun (MustLeave aborts a uuid) = begun_if (MustLeave aborts a uuid) (advance_finish ends (MustLeave aborts a uuid) turn) a refl
  finish_begun (MustEnd a outcome) = begun_if (MustEnd a outcome) (advance_finish ends (MustEnd a outcome) turn) a refl
  finish_begun position = tt

  line_begun : (command : Command) (nodes : List ℕ) (position : Progress) → IsTrue (is_of_attempt command) → BegunIf position (advance command nodes ends position turn)
  line_begun (commands.Begin u home) nodes NotBegun is = first_if (advance (commands.Begin u home) nodes ends NotBegun turn)
  line_begun (commands.Begin u home) nodes position is = claim_begun false position
  line_begun (commands.Forget u home) nodes NotBegun is = first_if (advance (commands.Forget u home) nodes ends NotBegun turn)
  line_begun (commands.Forget u home) nodes position is = claim_begun true position
  line_begun commands.Commit nodes NotBegun is = first_if (advance commands.Commit nodes ends NotBegun turn)
  line_begun commands.Commit nodes position is = finish_begun position
  line_begun commands.Abort nodes NotBegun is = first_if (advance commands.Abort nodes ends NotBegun turn)
  line_begun commands.Abort nodes position is = finish_begun position
  line_begun command nodes position is = absurd (false≢true is)

pub begun_before : (command : Command) (nodes : List ℕ) (ends : Ends) (position next : Progress) (turn : Turn) → IsTrue (is_of_attempt command) → advance command nodes ends position turn ≡ Some next → Begun position
begun_before command nodes ends position next turn is e = subst (BegunIf position) e (line_begun ends turn command nodes position is)
