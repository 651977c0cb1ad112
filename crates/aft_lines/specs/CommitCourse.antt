-- The course of a commit and of an abort: their turns, in order.
use Rattle.std.specs.Prelude.{Bool, List, None, Option, Some, [], false, if◌then◌else◌, true, ℕ, ◌&&◌, ◌==◌, ◌||◌, ◌∷◌}
use Rattle.std.specs.List.{list_any}
use Rattle.std.specs.Str.{bytes_eq}
use Rattle.aft_id.specs.TxnId.{same_id}
use Rattle.aft_keeper.specs.declared.keeper.KeeperAnswer.{KeeperAnswer}
use Rattle.aft_keeper.specs.declared.keeper.KeeperCall.TheVariants.{Get, Put}
use Rattle.aft_keeper.specs.declared.keeper.Pair.{Pair}
use Rattle.aft_records.specs.declared.stored.Commit.{Commit}
use Rattle.aft_records.specs.declared.stored.Record.{Record}
use Rattle.aft_records.specs.Commits.{same_commit}
use Rattle.aft_model.specs.declared.caller.Attempt.{Attempt}
use Rattle.aft_model.specs.declared.door.DoorAct.TheVariants.{Call, Release}
use Rattle.aft_model.specs.declared.node.NodeAct.{NodeAct}
use Rattle.aft_model.specs.declared.node.NodeAct.TheVariants.{Doubt, End, Leave, Nothing, Settle, Start, Stored}
use Rattle.aft_model.specs.declared.node.NodeEntry.{NodeEntry}
use Rattle.aft_model.specs.declared.reply.Reply.{Reply}
use Rattle.aft_model.specs.Attempts.{Write, attempt_state, buffer, fixed_commit, same_attempt, uuid_of}
use Rattle.aft_model.specs.Membership.{incarnation, same_incarnation}
use Rattle.aft_model.specs.NodeState.{part}
use Rattle.aft_model.specs.Origins.{record_by}
use Rattle.aft_model.specs.Readings.{record_name, same_record, versions_in, written_in}
use Rattle.aft_model.specs.Stages.{is_acknowledged}
use Rattle.aft_lines.specs.CourseWords.{Ends, answers_down, any_answer, caller_of, closes, ends_at_node, ends_shut_out, finds_nothing, finds_record, is_over, tells_down, tells_no_memory, tells_refused}
use Rattle.aft_lines.specs.Turns.{AtDoor, AtNode, Turn}
use Rattle.aft_model.specs.declared.reply.Reply.TheVariants as replies

-- ---- what is stored

-- what is stored: an attempt's record and its values
pub record Storing : Type 0 where
  pub attempt : Attempt
  pub written : Record
  pub writes : List Write

-- what an attempt stores, by its part of the node's history
abbrev pub storing_of : Attempt → List NodeEntry → Commit → Storing
storing_of a part c = record { attempt = a; written = record_by a part c; writes = buffer a part }

-- ---- the ends of an attempt

-- an attempt ends with an answer that passes a test
abbrev pub takes_away : Attempt → (Option Reply → Bool) → NodeAct → Option Reply → Bool
takes_away a test (End b) answer = same_attempt a b && test answer
takes_away a test act answer = false

-- an attempt is left in doubt with an answer that passes a test
abbrev pub doubts : Attempt → (Option Reply → Bool) → NodeAct → Option Reply → Bool
doubts a test (Doubt b) answer = same_attempt a b && test answer
doubts a test act answer = false

-- whether a line ends so, at the attempt's node
abbrev pub ends_with : Ends → Attempt → (NodeAct → Option Reply → Bool) → List Turn → Bool
ends_with ends a test line = ends_at_node a.node (closes ends a.inc test) line

abbrev pub ends_in_doubt : Ends → Storing → (Option Reply → Bool) → List Turn → Bool
ends_in_doubt ends storing test line = ends_with ends storing.attempt (doubts storing.attempt test) line

-- whether a reply tells that a transaction is committed
abbrev pub tells_committed : Option Reply → Bool
tells_committed (Some (replies.Committed id)) = true
tells_committed answer = false

-- whether a reply tells that a transaction is aborted
abbrev pub tells_aborted : Option Reply → Bool
tells_aborted (Some replies.Aborted) = true
tells_aborted answer = false

-- whether a reply tells that a transaction has ended, with nothing to store: of an abort that it is aborted
abbrev pub tells_left : Bool → Option Reply → Bool
tells_left true answer = tells_aborted answer
tells_left false (Some replies.Ended) = true
tells_left false answer = false

-- ---- the calls

-- whether a turn at the door is a release of an attempt's UUID by its incarnation
abbrev pub is_release_of : Attempt → List ℕ → List ℕ → ℕ → ℕ → Bool
is_release_of a uuid released node inc = same_incarnation (caller_of a) (incarnation node inc) && bytes_eq uuid released

-- whether a call gets the record of a commit, for an attempt
abbrev pub gets_record : Storing → ℕ → ℕ → List ℕ → Bool
gets_record storing node inc name = same_incarnation (caller_of storing.attempt) (incarnation node inc) && bytes_eq (record_name storing.written.commit.id.uuid) name

-- whether a put spells a version with this write's key and value and the commit's id
abbrev pub is_version_of : Commit → Write → Pair → Bool
is_version_of c write pair = list_any (λ v. bytes_eq write.key v.key && same_id c.id v.id && bytes_eq write.value v.value) (versions_in pair)

-- whether a put spells this record, in the second format
abbrev pub is_written_as : Record → Pair → Bool
is_written_as r pair = list_any (same_record r) (written_in pair)

-- whether a put is the attempt's, of a pair that passes a test
abbrev pub puts_own : Storing → (Pair → Bool) → ℕ → ℕ → List ℕ → List ℕ → Bool
puts_own storing test node inc name bytes = same_incarnation (caller_of storing.attempt) (incarnation node inc) && test (record { name = name; bytes = bytes })

-- ---- storing

-- behind the stored commit: the release and the end. A release makes no entry only where the incarnation was shut out, and then the attempt is left in doubt
abbrev pub release_stored : Ends → Storing → List Turn → Bool
release_stored ends storing (AtDoor place (Release uuid node inc) ∷ line) =
    is_release_of storing.attempt storing.written.commit.id.uuid uuid node inc && ends_with ends storing.attempt (takes_away storing.attempt tells_committed) line
release_stored ends storing line = ends_in_doubt ends storing tells_down line && ends_shut_out ends (caller_of storing.attempt) line

-- whether an act is the storing of this commit, and the release follows
abbrev pub stored_after : Ends → Storing → NodeAct → List Turn → Bool
stored_after ends storing (Stored b c) line = same_attempt storing.attempt b && same_commit storing.written.commit c && release_stored ends storing line
stored_after ends storing act line = false

-- behind a record that was put or shown: the node learns of it first. Where it doesn't, memory was wanting, or it has left the attempt's incarnation
abbrev pub stored_course : Ends → Storing → List Turn → Bool
stored_course ends storing (AtNode node before entry ∷ line) =
    node == storing.attempt.node && stored_after ends storing entry.act line || ends_in_doubt ends storing tells_no_memory (AtNode node before entry ∷ line)
stored_course ends storing line = false

-- behind a put of the record that failed: a get of it. It goes on where this commit is found, and else the attempt is left in doubt
abbrev pub settling_course : Ends → Storing → List Turn → Bool
settling_course ends storing (AtDoor place (Call node inc (Get name) answer) ∷ line) =
    gets_record storing node inc name
    && (if finds_record storing.written.commit answer then stored_course ends storing line else ends_in_doubt ends storing any_answer line)
settling_course ends storing line = ends_in_doubt ends storing tells_refused line

-- the put of the record; where it makes no entry it was refused
abbrev pub record_put_course : Ends → Storing → List Turn → Bool
record_put_course ends storing (AtDoor place (Call node inc (Put name bytes) answer) ∷ line) =
    puts_own storing (is_written_as storing.written) node inc name bytes
    && (if is_acknowledged answer then stored_course ends storing line else settling_course ends storing line)
record_put_course ends storing line = ends_in_doubt ends storing tells_refused line

-- the puts of the versions, in key order, and then that of the record. They stop at the first that fails, or that makes no entry since it was refused
abbrev pub puts_course : Ends → Storing → List Write → List Turn → Bool
puts_course ends storing [] line = record_put_course ends storing line
puts_course ends storing (write ∷ writes) (AtDoor place (Call node inc (Put name bytes) answer) ∷ line) =
    puts_own storing (is_version_of storing.written.commit write) node inc name bytes
    && (if is_acknowledged answer then puts_course ends storing writes line else ends_in_doubt ends storing any_answer line)
puts_course ends storing (write ∷ writes) line = ends_in_doubt ends storing tells_refused line

-- ---- settling a commit in doubt

-- an abort that found no record: the release and the end. A release makes no entry only where the incarnation was shut out
abbrev pub release_aborted : Ends → Storing → List Turn → Bool
release_aborted ends storing (AtDoor place (Release uuid node inc) ∷ line) =
    is_release_of storing.attempt storing.written.commit.id.uuid uuid node inc && ends_with ends storing.attempt (takes_away storing.attempt tells_aborted) line
release_aborted ends storing line = ends_in_doubt ends storing tells_down line && ends_shut_out ends (caller_of storing.attempt) line

-- what follows where no record was found: a commit makes all its puts again, and an abort releases its claim
abbrev pub on_absence : Bool → Ends → Storing → List Turn → Bool
on_absence true ends storing line = release_aborted ends storing line
on_absence false ends storing line = puts_course ends storing storing.writes line

-- behind the get of its record: it goes on where it finds this commit or nothing, unless memory was wanting, and else the attempt is left in doubt
abbrev pub settled : Bool → Ends → Storing → KeeperAnswer → List Turn → Bool
settled aborts ends storing answer line =
    if finds_record storing.written.commit answer then stored_course ends storing line
    else if finds_nothing answer then on_absence aborts ends storing line || ends_in_doubt ends storing tells_no_memory line
    else ends_in_doubt ends storing any_answer line

-- a commit in doubt is settled: a get of its record; where it makes no entry it was refused
abbrev pub settle_course : Bool → Ends → Storing → List Turn → Bool
settle_course aborts ends storing (AtDoor place (Call node inc (Get name) answer) ∷ line) = gets_record storing node inc name && settled aborts ends storing answer line
settle_course aborts ends storing line = ends_in_doubt ends storing tells_refused line

-- ---- leaving

-- an attempt leaves: the release and the end. A release makes no entry only where the incarnation was shut out, and then it is answered alone that the node is down
abbrev pub leave_course : Bool → Ends → Attempt → List ℕ → List Turn → Bool
leave_course aborts ends a uuid (AtDoor place (Release released node inc) ∷ line) =
    is_release_of a uuid released node inc && ends_with ends a (takes_away a (tells_left aborts)) line
leave_course aborts ends a uuid line = ends_at_node a.node (λ state entry. answers_down entry.act entry.answer) line && ends_shut_out ends (caller_of a) line

-- ---- the whole

-- the settling of what an attempt has fixed
abbrev pub settles : Bool → Ends → Attempt → List NodeEntry → Option Commit → List Turn → Bool
settles aborts ends a part None line = false
settles aborts ends a part (Some c) line = settle_course aborts ends (storing_of a part c) line

-- whether an attempt may leave: by an abort, or by a commit where it has buffered nothing
abbrev pub leaves : Bool → List Write → Bool
leaves aborts [] = true
leaves aborts (write ∷ writes) = aborts

-- after the first turn of a commit or an abort: it answered, or the attempt leaves, fixes its commit, which an abort never does, or settles one
abbrev pub finish_after : Bool → Ends → List NodeEntry → NodeAct → List Turn → Bool
finish_after aborts ends part Nothing line = is_over line
finish_after aborts ends part (Leave a) line = leaves aborts (buffer a part) && leave_course aborts ends a (uuid_of a part) line
finish_after false ends part (Start a now c) line = puts_course ends (storing_of a part c) (buffer a part) line
finish_after aborts ends part (Settle a) line = settles aborts ends a part (fixed_commit (attempt_state a part)) line
finish_after aborts ends part act line = false

-- the course of a commit, or of an abort
abbrev pub finish_course : Bool → Ends → List Turn → Bool
finish_course aborts ends (AtNode node before entry ∷ line) = finish_after aborts ends (part before) entry.act line
finish_course aborts ends line = false
