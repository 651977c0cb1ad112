-- How far the stage of a line's UUID has come at each position of the line: what it has done at the door under its claim.
use Rattle.std.specs.Prelude.{Bool, List, None, Option, Some, [], false, not, true, ℕ, ◌&&◌, ◌==◌, ◌||◌, ◌∷◌}
use Rattle.std.specs.List.{list_all, list_any}
use Rattle.std.specs.Str.{bytes_eq}
use Rattle.aft_keeper.specs.declared.keeper.KeeperCall.{KeeperCall}
use Rattle.aft_keeper.specs.declared.keeper.KeeperCall.TheVariants.{Delete, Get, Put}
use Rattle.aft_keeper.specs.declared.keeper.Pair.{Pair}
use Rattle.aft_records.specs.declared.stored.Commit.{Commit}
use Rattle.aft_records.specs.Commits.{same_commit}
use Rattle.aft_model.specs.Attempts.{Write}
use Rattle.aft_model.specs.declared.door.DoorAct.{DoorAct}
use Rattle.aft_model.specs.declared.script.Command.{Command}
use Rattle.aft_model.specs.Membership.{Incarnation, incarnation, same_incarnation, the_office}
use Rattle.aft_model.specs.Readings.{marker_name, record_name, version_name}
use Rattle.aft_model.specs.Stages.{HasClaimed, HasPut, IsClear, IsClosed, IsIdle, IsUnrecorded, Stage, is_clear, stage_after}
use Rattle.aft_lines.specs.BackupCourse.{copier}
use Rattle.aft_lines.specs.CommitCourse.{Storing, is_version_of, is_written_as}
use Rattle.aft_lines.specs.CourseWords.{caller_of}
use Rattle.aft_lines.specs.Progress.{Admitted, FoundAborted, FoundNoRecord, FoundShort, FoundUnused, HasClaim, HasFailed, HasForgotten, HasReleased, IsNodeStored, IsRecorded, IsStoring, MustDoubt, MustEnd, MustLeave, MustRelease, Progress, Settling}
use Rattle.aft_model.specs.declared.script.Command.TheVariants as commands
use Rattle.aft_model.specs.declared.door.DoorAct.TheVariants as doors

-- ---- whose UUID

-- the incarnation of the attempt of a line in a position of a begin, a forget, a commit or an abort, and the attempt's UUID
abbrev pub caller_at : Progress → Incarnation
caller_at (Admitted begun) = caller_of begun.attempt
caller_at (HasClaim begun) = caller_of begun.attempt
caller_at (FoundNoRecord begun) = caller_of begun.attempt
caller_at (FoundUnused begun) = caller_of begun.attempt
caller_at (FoundShort begun) = caller_of begun.attempt
caller_at (HasForgotten begun) = caller_of begun.attempt
caller_at (MustRelease begun) = caller_of begun.attempt
caller_at (HasReleased begun reason) = caller_of begun.attempt
caller_at (Settling aborts storing) = caller_of storing.attempt
caller_at (IsStoring storing left) = caller_of storing.attempt
caller_at (HasFailed storing) = caller_of storing.attempt
caller_at (IsRecorded storing) = caller_of storing.attempt
caller_at (IsNodeStored storing) = caller_of storing.attempt
caller_at (FoundAborted storing) = caller_of storing.attempt
caller_at (MustDoubt storing) = caller_of storing.attempt
caller_at (MustLeave aborts a uuid) = caller_of a
caller_at (MustEnd a outcome) = caller_of a
caller_at position = the_office

abbrev pub uuid_at : Progress → List ℕ
uuid_at (Admitted begun) = begun.uuid
uuid_at (HasClaim begun) = begun.uuid
uuid_at (FoundNoRecord begun) = begun.uuid
uuid_at (FoundUnused begun) = begun.uuid
uuid_at (FoundShort begun) = begun.uuid
uuid_at (HasForgotten begun) = begun.uuid
uuid_at (MustRelease begun) = begun.uuid
uuid_at (HasReleased begun reason) = begun.uuid
uuid_at (Settling aborts storing) = storing.written.commit.id.uuid
uuid_at (IsStoring storing left) = storing.written.commit.id.uuid
uuid_at (HasFailed storing) = storing.written.commit.id.uuid
uuid_at (IsRecorded storing) = storing.written.commit.id.uuid
uuid_at (IsNodeStored storing) = storing.written.commit.id.uuid
uuid_at (FoundAborted storing) = storing.written.commit.id.uuid
uuid_at (MustDoubt storing) = storing.written.commit.id.uuid
uuid_at (MustLeave aborts a uuid) = uuid
uuid_at position = []

-- ---- the rows

abbrev pub is_idle : Stage → Bool
is_idle IsIdle = true
is_idle other = false

abbrev pub has_claimed : Stage → Bool
has_claimed HasClaimed = true
has_claimed other = false

abbrev pub is_unrecorded : Stage → Bool
is_unrecorded IsUnrecorded = true
is_unrecorded other = false

abbrev pub is_closed : Stage → Bool
is_closed IsClosed = true
is_closed other = false

-- whether this record was put, whatever was answered
abbrev pub has_put : Commit → Stage → Bool
has_put c (HasPut d) = same_commit c d
has_put c other = false

-- the same, or neither record nor marker was there and no record was put since
abbrev pub may_have_put : Commit → Stage → Bool
may_have_put c (IsClear names) = true
may_have_put c other = has_put c other

-- whether some of these writes are of a key
abbrev pub writes_key : List ℕ → List Write → Bool
writes_key key writes = list_any (λ write. bytes_eq write.key key) writes

-- whether each key of a commit is one of those that are still to be put, or its version is among those that were put
abbrev pub are_put_but : List Write → Commit → List (List ℕ) → Bool
are_put_but left c names = list_all (λ key. writes_key key left || list_any (bytes_eq (version_name key c.id)) names) c.keys

-- whether what is stored has a write of each key of its commit
abbrev pub has_writes : Storing → Bool
has_writes storing = list_all (λ key. writes_key key storing.writes) storing.written.commit.keys

-- whether a stage is that of the UUID of a line in a position of a begin, a forget, a commit or an abort
abbrev pub is_row : Progress → Stage → Bool
is_row (Admitted begun) stage = is_idle stage
is_row (HasClaim begun) stage = has_claimed stage
is_row (FoundNoRecord begun) stage = is_unrecorded stage
is_row (FoundUnused begun) stage = is_clear (λ names. true) stage
is_row (FoundShort begun) stage = is_unrecorded stage
is_row (HasForgotten begun) stage = is_closed stage
is_row (MustRelease begun) stage = not (is_idle stage)
is_row (HasReleased begun reason) stage = is_idle stage
is_row (Settling aborts storing) stage = may_have_put storing.written.commit stage && has_writes storing
is_row (IsStoring storing left) stage = is_clear (are_put_but left storing.written.commit) stage
is_row (HasFailed storing) stage = has_put storing.written.commit stage
is_row (IsRecorded storing) stage = may_have_put storing.written.commit stage
is_row (IsNodeStored storing) stage = may_have_put storing.written.commit stage
is_row (FoundAborted storing) stage = is_clear (λ names. true) stage
is_row (MustDoubt storing) stage = may_have_put storing.written.commit stage
is_row (MustLeave aborts a uuid) stage = is_clear (λ names. true) stage
is_row (MustEnd a outcome) stage = is_idle stage
is_row position stage = true

-- the lines that claim, store and release for an attempt
abbrev pub is_of_attempt : Command → Bool
is_of_attempt (commands.Begin uuid node) = true
is_of_attempt (commands.Forget uuid node) = true
is_of_attempt commands.Commit = true
is_of_attempt commands.Abort = true
is_of_attempt command = false

-- whether the stage behind an act at the door is that of the next position, if there is one
abbrev pub is_next_row : Progress → Stage → DoorAct → Option Progress → Bool
is_next_row position stage act None = true
is_next_row position stage act (Some next) = is_row next (stage_after (caller_at position) (uuid_at position) stage act)

-- ---- whose acts

-- whether a pair is the one that a commit puts next
abbrev pub is_next_put : Progress → Pair → Bool
is_next_put (IsStoring storing []) pair = is_written_as storing.written pair
is_next_put (IsStoring storing (write ∷ left)) pair = is_version_of storing.written.commit write pair
is_next_put position pair = false

-- whether a call is of the record or of the marker of a position's UUID, or puts what comes next
abbrev pub is_own_call : Progress → KeeperCall → Bool
is_own_call position (Get name) = bytes_eq (record_name (uuid_at position)) name || bytes_eq (marker_name (uuid_at position)) name
is_own_call position (Put name bytes) = is_next_put position (record { name = name; bytes = bytes })
is_own_call position (Delete name) = bytes_eq (marker_name (uuid_at position)) name
is_own_call position asked = false

-- whether an act at the door is of the incarnation and of the UUID of a line's attempt
abbrev pub is_own_act : Progress → DoorAct → Bool
is_own_act position (doors.Claim uuid node inc) = same_incarnation (caller_at position) (incarnation node inc) && bytes_eq (uuid_at position) uuid
is_own_act position (doors.Release uuid node inc) = same_incarnation (caller_at position) (incarnation node inc) && bytes_eq (uuid_at position) uuid
is_own_act position (doors.Call node inc asked answer) = same_incarnation (caller_at position) (incarnation node inc) && is_own_call position asked
is_own_act position act = false

-- ---- what was put

-- the commit whose record a line in a position may have put under its claim
abbrev pub stored_at : Progress → List Commit
stored_at (Settling aborts storing) = storing.written.commit ∷ []
stored_at (IsStoring storing left) = storing.written.commit ∷ []
stored_at (HasFailed storing) = storing.written.commit ∷ []
stored_at (IsRecorded storing) = storing.written.commit ∷ []
stored_at (IsNodeStored storing) = storing.written.commit ∷ []
stored_at (FoundAborted storing) = storing.written.commit ∷ []
stored_at (MustDoubt storing) = storing.written.commit ∷ []
stored_at position = []

-- whether the records that were put under a claim are of that commit
abbrev pub are_row_puts : Progress → List Commit → Bool
are_row_puts position puts = list_all (λ d. list_any (λ c. same_commit c d) (stored_at position)) puts

-- whether an incarnation is of a node: neither the office's nor a copier's
abbrev pub is_of_node : Incarnation → Bool
is_of_node who = not (who.node == 0) && not (who.node == copier)
