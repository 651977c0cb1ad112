-- A line has only to end its attempt where its turn was the release of the attempt's UUID.
use Rattle.std.proofs.Common.{◌≡◌, ℕ, Bool, true, false, ◌&&◌, not, List, [], ◌∷◌, refl, subst, eqb}
use Rattle.std.specs.Prelude.{IsTrue, None, Option, Some, if◌then◌else◌}
use Rattle.std.specs.Str.{bytes_eq}
use Rattle.std.proofs.lemmas.Bool.{false≢true}
use Rattle.aft_keeper.specs.declared.keeper.KeeperAnswer.{KeeperAnswer}
use Rattle.aft_keeper.specs.declared.keeper.KeeperCall.TheVariants as calls
use Rattle.aft_keeper.specs.declared.keeper.Pair.{Pair}
use Rattle.aft_records.specs.declared.stored.Commit.{Commit}
use Rattle.aft_model.specs.declared.caller.Attempt.{Attempt}
use Rattle.aft_model.specs.declared.door.DoorAct.TheVariants as doors
use Rattle.aft_model.specs.declared.node.NodeAct.{NodeAct}
use Rattle.aft_model.specs.declared.node.NodeAct.TheVariants as acts
use Rattle.aft_model.specs.declared.node.NodeEntry.{NodeEntry}
use Rattle.aft_model.specs.declared.reply.Reply.{Reply}
use Rattle.aft_model.specs.declared.script.Command.{Command}
use Rattle.aft_model.specs.declared.script.Command.TheVariants as commands
use Rattle.aft_model.specs.Attempts.{attempt_state, buffer, fixed_commit, uuid_of}
use Rattle.aft_model.specs.Course.{releases}
use Rattle.aft_model.specs.Membership.{Incarnation, incarnation, same_incarnation}
use Rattle.aft_model.specs.NodeState.{node_state, part}
use Rattle.aft_model.specs.Readings.{marker_name, record_name}
use Rattle.aft_model.specs.Stages.{is_acknowledged}
use Rattle.aft_lines.specs.Advance.{advance, advance_claim, advance_finish, allows, behind_failure, behind_marker, behind_settling, behind_unused, begun_with, claimed_by, closed_by, doubted_by, finished_with, forgotten_by, freed_by, got_by, if_nothing, if_so, is_stored_in, left_alone, looked_by, noted_at_node, or_at, put_by, released_by, settled_with, shut_out_by, tells_outcome}
use Rattle.aft_lines.specs.BeginCourse.{Beginning, begins_running, gets_own, gives_back}
use Rattle.aft_lines.specs.CommitCourse.{Storing, doubts, gets_record, is_release_of, is_version_of, is_written_as, leaves, puts_own, takes_away}
use Rattle.aft_lines.specs.CourseWords.{Ends, answers_down, any_answer, caller_of, ends_shut_out, finds_nothing, finds_record, tells_down, tells_no_memory, tells_refused, tells_unclaimed}
use Rattle.aft_lines.specs.ForgetCourse.{finds_short}
use Rattle.aft_lines.specs.Progress.{Admitted, AnyReason, EndsAborted, EndsCommitted, EndsLeft, FoundAborted, FoundNoRecord, FoundShort, FoundUnused, HasClaim, HasFailed, HasForgotten, HasReleased, IsNodeStored, IsOver, IsRecorded, IsStoring, MustDoubt, MustEnd, MustLeave, MustRelease, NoRoom, NotBegun, Outcome, Progress, Reason, Refusal, Settling, Stopped}
use Rattle.aft_lines.specs.Turns.{AtDoor, AtNode, Turn}
use Rattle.law_holders.specs.Rows.{is_of_attempt, uuid_at}

-- whether a turn is the release of a UUID by an incarnation
abbrev pub releases_in : Incarnation → List ℕ → Turn → Bool
releases_in who uuid (AtDoor place act) = releases who uuid act
releases_in who uuid turn = false

-- whether a turn may lead to a position: it is the release of this UUID, if the attempt has only to be ended there
abbrev lets_go : List ℕ → Progress → Turn → Bool
lets_go uuid (MustEnd a outcome) turn = releases_in (caller_of a) uuid turn
lets_go uuid position turn = true

abbrev LetsIf : List ℕ → Turn → Option Progress → Type 0
LetsIf uuid turn None = Unit {0}
LetsIf uuid turn (Some next) = IsTrue (lets_go uuid next turn)

module _ (ends : Ends) (uuid : List ℕ) where
  so_lets : (turn : Turn) (passed : Bool) (next : Progress) → IsTrue (lets_go uuid next turn) → LetsIf uuid turn (if_so passed next)
  so_lets turn true next is = is
  so_lets turn false next is = tt

  either_lets : (turn : Turn) (passed : Bool) (one other : Progress) → IsTrue (lets_go uuid one turn) → IsTrue (lets_go uuid other turn) → IsTrue (lets_go uuid (if passed then one else other) turn)
  either_lets turn true one other x y = x
  either_lets turn false one other x y = y

  if_lets : (turn : Turn) (passed : Bool) (next : Option Progress) → LetsIf uuid turn next → LetsIf uuid turn (if passed then next else None)
  if_lets turn true next is = is
  if_lets turn false next is = tt

  or_lets : (turn : Turn) (one other : Option Progress) → LetsIf uuid turn one → LetsIf uuid turn other → LetsIf uuid turn (or_at one other)
  or_lets turn None other x y = y
  or_lets turn (Some p) other x y = x

  closed_lets : (a : Attempt) (test : NodeAct → Option Reply → Bool) (turn : Turn) → LetsIf uuid turn (closed_by ends a test turn)
  closed_lets a test (AtNode at before entry) = cases (not (eqb a.node at)) (test entry.act entry.answer) (answers_down entry.act entry.answer && ends.is_left a.inc (node_state before))
    where
      cases : (away passed left : Bool) → LetsIf uuid (AtNode at before entry) (if away then None else if passed then Some IsOver else if left then Some (Stopped a) else None)
      cases true passed left = tt
      cases false true left = refl
      cases false false true = refl
      cases false false false = tt
  closed_lets a test turn = tt

  shut_lets : (a : Attempt) (test : NodeAct → Option Reply → Bool) (turn : Turn) → LetsIf uuid turn (shut_out_by ends a test turn)
  shut_lets a test turn = if_lets turn (ends_shut_out ends (caller_of a) (turn ∷ [])) (closed_by ends a test turn) (closed_lets a test turn)

  -- ---- begins and forgets

  released_lets : (begun : Beginning) (reason : Reason) (turn : Turn) → LetsIf uuid turn (released_by ends begun reason turn)
  released_lets begun reason (AtDoor place (doors.Release released node inc)) = so_lets (AtDoor place (doors.Release released node inc)) (same_incarnation (caller_of begun.attempt) (incarnation node inc) && bytes_eq begun.uuid released) (HasReleased begun reason) refl
  released_lets begun reason turn = shut_lets begun.attempt (gives_back begun.attempt tells_down) turn

  nothing_lets : (next : Progress) (begun : Beginning) (answer : KeeperAnswer) (turn : Turn) → IsTrue (lets_go uuid next turn) → IsTrue (lets_go uuid (if_nothing next begun answer) turn)
  nothing_lets next begun answer turn is = either_lets turn (finds_nothing answer) next (MustRelease begun) is refl

  marker_lets : (forgets : Bool) (begun : Beginning) (answer : KeeperAnswer) (turn : Turn) → IsTrue (lets_go uuid (behind_marker forgets begun answer) turn)
  marker_lets false begun answer turn = nothing_lets (FoundUnused begun) begun answer turn refl
  marker_lets true begun answer turn = either_lets turn (finds_short begun.uuid answer) (FoundShort begun) (if finds_nothing answer then FoundUnused begun else MustRelease begun) refl (either_lets turn (finds_nothing answer) (FoundUnused begun) (MustRelease begun) refl refl)

  got_lets : (begun : Beginning) (name : List ℕ) (then_at : KeeperAnswer → Progress) → ((answer : KeeperAnswer) (turn : Turn) → IsTrue (lets_go uuid (then_at answer) turn)) → (turn : Turn) → LetsIf uuid turn (got_by ends begun name then_at turn)
  got_lets begun name then_at each (AtDoor place (doors.Call node inc (calls.Get got) answer)) =
      so_lets (AtDoor place (doors.Call node inc (calls.Get got) answer)) (gets_own begun name node inc got) (then_at answer) (each answer (AtDoor place (doors.Call node inc (calls.Get got) answer)))
  got_lets begun name then_at each turn = released_lets begun Refusal turn

  forgotten_lets : (begun : Beginning) (turn : Turn) → LetsIf uuid turn (forgotten_by ends begun turn)
  forgotten_lets begun (AtDoor place (doors.Call node inc (calls.Delete name) answer)) = so_lets (AtDoor place (doors.Call node inc (calls.Delete name) answer)) (gets_own begun (marker_name begun.uuid) node inc name) (HasForgotten begun) refl
  forgotten_lets begun turn = released_lets begun Refusal turn

  claimed_lets : (begun : Beginning) (turn : Turn) → LetsIf uuid turn (claimed_by ends begun turn)
  claimed_lets begun (AtDoor place (doors.Claim claimed node inc)) = so_lets (AtDoor place (doors.Claim claimed node inc)) (same_incarnation (caller_of begun.attempt) (incarnation node inc) && bytes_eq begun.uuid claimed) (HasClaim begun) refl
  claimed_lets begun turn = closed_lets begun.attempt (gives_back begun.attempt tells_unclaimed) turn

  unused_lets : (forgets : Bool) (begun : Beginning) (turn : Turn) → LetsIf uuid turn (behind_unused ends forgets begun turn)
  unused_lets false begun turn = or_lets turn (closed_by ends begun.attempt (begins_running begun.attempt) turn) (released_by ends begun NoRoom turn) (closed_lets begun.attempt (begins_running begun.attempt) turn) (released_lets begun NoRoom turn)
  unused_lets true begun turn = released_lets begun AnyReason turn

  claim_lets : (forgets : Bool) (position : Progress) (turn : Turn) → LetsIf uuid turn (advance_claim ends forgets position turn)
  claim_lets forgets (Admitted begun) turn = claimed_lets begun turn
  claim_lets forgets (HasClaim begun) turn = got_lets begun (record_name begun.uuid) (if_nothing (FoundNoRecord begun) begun) (λ answer t. nothing_lets (FoundNoRecord begun) begun answer t refl) turn
  claim_lets forgets (FoundNoRecord begun) turn = got_lets begun (marker_name begun.uuid) (behind_marker forgets begun) (marker_lets forgets begun) turn
  claim_lets forgets (FoundUnused begun) turn = unused_lets forgets begun turn
  claim_lets forgets (FoundShort begun) turn = forgotten_lets begun turn
  claim_lets forgets (HasForgotten begun) turn = released_lets begun AnyReason turn
  claim_lets forgets (MustRelease begun) turn = released_lets begun AnyReason turn
  claim_lets forgets (HasReleased begun reason) turn = closed_lets begun.attempt (gives_back begun.attempt (allows reason)) turn
  claim_lets forgets position turn = tt

  -- ---- commits and aborts

  settling_lets : (aborts : Bool) (storing : Storing) (answer : KeeperAnswer) (turn : Turn) → IsTrue (lets_go uuid (behind_settling aborts storing answer) turn)
  settling_lets aborts storing answer turn =
      either_lets turn (finds_record storing.written.commit answer) (IsRecorded storing) (if not (finds_nothing answer) then MustDoubt storing else if aborts then FoundAborted storing else IsStoring storing storing.writes) refl
      (either_lets turn (not (finds_nothing answer)) (MustDoubt storing) (if aborts then FoundAborted storing else IsStoring storing storing.writes) refl
      (either_lets turn aborts (FoundAborted storing) (IsStoring storing storing.writes) refl refl))

  failure_lets : (storing : Storing) (answer : KeeperAnswer) (turn : Turn) → IsTrue (lets_go uuid (behind_failure storing answer) turn)
  failure_lets storing answer turn = either_lets turn (finds_record storing.written.commit answer) (IsRecorded storing) (MustDoubt storing) refl refl

  looked_lets : (storing : Storing) (then_at : KeeperAnswer → Progress) → ((answer : KeeperAnswer) (turn : Turn) → IsTrue (lets_go uuid (then_at answer) turn)) → (turn : Turn) → LetsIf uuid turn (looked_by ends storing then_at turn)
  looked_lets storing then_at each (AtDoor place (doors.Call node inc (calls.Get name) answer)) =
      so_lets (AtDoor place (doors.Call node inc (calls.Get name) answer)) (gets_record storing node inc name) (then_at answer) (each answer (AtDoor place (doors.Call node inc (calls.Get name) answer)))
  looked_lets storing then_at each turn = closed_lets storing.attempt (doubts storing.attempt tells_refused) turn

  put_lets : (storing : Storing) (test : Pair → Bool) (done failed : Progress) → ((turn : Turn) → IsTrue (lets_go uuid done turn) × IsTrue (lets_go uuid failed turn)) → (turn : Turn) → LetsIf uuid turn (put_by ends storing test done failed turn)
  put_lets storing test done failed each (AtDoor place (doors.Call node inc (calls.Put name bytes) answer)) =
      let this : Turn = AtDoor place (doors.Call node inc (calls.Put name bytes) answer) in
      so_lets this (puts_own storing test node inc name bytes) (if is_acknowledged answer then done else failed) (either_lets this (is_acknowledged answer) done failed (each this).0 (each this).1)
  put_lets storing test done failed each turn = closed_lets storing.attempt (doubts storing.attempt tells_refused) turn

  noted_lets : (storing : Storing) (turn : Turn) → LetsIf uuid turn (noted_at_node ends storing turn)
  noted_lets storing (AtNode at before entry) = cases (eqb storing.attempt.node at && is_stored_in storing entry.act)
    where
      cases : (b : Bool) → LetsIf uuid (AtNode at before entry) (if b then Some (IsNodeStored storing) else doubted_by ends storing tells_no_memory (AtNode at before entry))
      cases true = refl
      cases false = closed_lets storing.attempt (doubts storing.attempt tells_no_memory) (AtNode at before entry)
  noted_lets storing turn = tt

  alone_lets : (a : Attempt) (turn : Turn) → LetsIf uuid turn (left_alone ends a turn)
  alone_lets a (AtNode at before entry) = so_lets (AtNode at before entry) (eqb a.node at && answers_down entry.act entry.answer && ends.is_shut_out (caller_of a) entry.front) (Stopped a) refl
  alone_lets a turn = tt

  freed_lets : (a : Attempt) (outcome : Outcome) (without : Turn → Option Progress) → ((turn : Turn) → LetsIf uuid turn (without turn)) → (turn : Turn) → LetsIf uuid turn (freed_by a uuid outcome without turn)
  freed_lets a outcome without each (AtDoor place (doors.Release released node inc)) = cases (is_release_of a uuid released node inc) refl
    where
      cases : (b : Bool) → is_release_of a uuid released node inc ≡ b → LetsIf uuid (AtDoor place (doors.Release released node inc)) (if_so b (MustEnd a outcome))
      cases true is = is
      cases false is = tt
  freed_lets a outcome without each turn = each turn

  -- ---- first turns

  begun_lets : (turn : Turn) (act : NodeAct) → LetsIf uuid turn (begun_with act)
  begun_lets turn acts.Nothing = refl
  begun_lets turn (acts.Admit a admitted) = refl
  begun_lets turn act = tt

  finished_lets : (turn : Turn) (aborts : Bool) (of_part : List NodeEntry) (act : NodeAct) → LetsIf uuid turn (finished_with aborts of_part act)
  finished_lets turn aborts of_part acts.Nothing = refl
  finished_lets turn aborts of_part (acts.Leave a) = so_lets turn (leaves aborts (buffer a of_part)) (MustLeave aborts a (uuid_of a of_part)) refl
  finished_lets turn false of_part (acts.Start a now c) = refl
  finished_lets turn true of_part (acts.Start a now c) = tt
  finished_lets turn aborts of_part (acts.Settle a) = cases (fixed_commit (attempt_state a of_part))
    where
      cases : (o : Option Commit) → LetsIf uuid turn (settled_with aborts a of_part o)
      cases None = tt
      cases (Some c) = refl
  finished_lets turn aborts of_part act = tt

finish_lets : (ends : Ends) (position : Progress) (turn : Turn) → LetsIf (uuid_at position) turn (advance_finish ends position turn)
finish_lets ends (Settling aborts storing) turn = looked_lets ends storing.written.commit.id.uuid storing (behind_settling aborts storing) (settling_lets ends storing.written.commit.id.uuid aborts storing) turn
finish_lets ends (IsStoring storing []) turn = put_lets ends storing.written.commit.id.uuid storing (is_written_as storing.written) (IsRecorded storing) (HasFailed storing) (λ t. (refl, refl)) turn
finish_lets ends (IsStoring storing (write ∷ writes)) turn = put_lets ends storing.written.commit.id.uuid storing (is_version_of storing.written.commit write) (IsStoring storing writes) (MustDoubt storing) (λ t. (refl, refl)) turn
finish_lets ends (HasFailed storing) turn = looked_lets ends storing.written.commit.id.uuid storing (behind_failure storing) (failure_lets ends storing.written.commit.id.uuid storing) turn
finish_lets ends (IsRecorded storing) turn = noted_lets ends storing.written.commit.id.uuid storing turn
finish_lets ends (IsNodeStored storing) turn =
    freed_lets ends storing.written.commit.id.uuid storing.attempt EndsCommitted (shut_out_by ends storing.attempt (doubts storing.attempt tells_down)) (shut_lets ends storing.written.commit.id.uuid storing.attempt (doubts storing.attempt tells_down)) turn
finish_lets ends (FoundAborted storing) turn =
    freed_lets ends storing.written.commit.id.uuid storing.attempt EndsAborted (λ last. or_at (shut_out_by ends storing.attempt (doubts storing.attempt tells_down) last) (doubted_by ends storing tells_no_memory last))
    (λ t. or_lets ends storing.written.commit.id.uuid t (shut_out_by ends storing.attempt (doubts storing.attempt tells_down) t) (doubted_by ends storing tells_no_memory t)
    (shut_lets ends storing.written.commit.id.uuid storing.attempt (doubts storing.attempt tells_down) t) (closed_lets ends storing.written.commit.id.uuid storing.attempt (doubts storing.attempt tells_no_memory) t)) turn
finish_lets ends (MustDoubt storing) turn = closed_lets ends storing.written.commit.id.uuid storing.attempt (doubts storing.attempt any_answer) turn
finish_lets ends (MustLeave aborts a uuid) turn = freed_lets ends uuid a (EndsLeft aborts) (left_alone ends a) (alone_lets ends uuid a) turn
finish_lets ends (MustEnd a outcome) turn = closed_lets ends [] a (takes_away a (tells_outcome outcome)) turn
finish_lets ends position turn = tt

-- ---- a line

first_begun : (ends : Ends) (turn : Turn) (nodes : List ℕ) (uuid : List ℕ) (home : ℕ) → LetsIf [] turn (advance (commands.Begin uuid home) nodes ends NotBegun turn)
first_begun ends (AtNode at before entry) nodes uuid home = begun_lets ends [] (AtNode at before entry) entry.act
first_begun ends turn nodes uuid home = tt

first_forgotten : (ends : Ends) (turn : Turn) (nodes : List ℕ) (uuid : List ℕ) (home : ℕ) → LetsIf [] turn (advance (commands.Forget uuid home) nodes ends NotBegun turn)
first_forgotten ends (AtNode at before entry) nodes uuid home = begun_lets ends [] (AtNode at before entry) entry.act
first_forgotten ends turn nodes uuid home = tt

first_committed : (ends : Ends) (turn : Turn) (nodes : List ℕ) → LetsIf [] turn (advance commands.Commit nodes ends NotBegun turn)
first_committed ends (AtNode at before entry) nodes = finished_lets ends [] (AtNode at before entry) false (part before) entry.act
first_committed ends turn nodes = tt

first_aborted : (ends : Ends) (turn : Turn) (nodes : List ℕ) → LetsIf [] turn (advance commands.Abort nodes ends NotBegun turn)
first_aborted ends (AtNode at before entry) nodes = finished_lets ends [] (AtNode at before entry) true (part before) entry.act
first_aborted ends turn nodes = tt

line_lets : (command : Command) (nodes : List ℕ) (ends : Ends) (position : Progress) (turn : Turn) → IsTrue (is_of_attempt command) → LetsIf (uuid_at position) turn (advance command nodes ends position turn)
line_lets (commands.Begin uuid home) nodes ends NotBegun turn of = first_begun ends turn nodes uuid home
line_lets (commands.Begin uuid home) nodes ends position turn of = claim_lets ends (uuid_at position) false position turn
line_lets (commands.Forget uuid home) nodes ends NotBegun turn of = first_forgotten ends turn nodes uuid home
line_lets (commands.Forget uuid home) nodes ends position turn of = claim_lets ends (uuid_at position) true position turn
line_lets commands.Commit nodes ends NotBegun turn of = first_committed ends turn nodes
line_lets commands.Commit nodes ends position turn of = finish_lets ends position turn
line_lets commands.Abort nodes ends NotBegun turn of = first_aborted ends turn nodes
line_lets commands.Abort nodes ends position turn of = finish_lets ends position turn
line_lets command nodes ends position turn of = absurd (false≢true of)

-- where a line has only to end its attempt, its turn was the release
pub must_end : (command : Command) (nodes : List ℕ) (ends : Ends) (position : Progress) (turn : Turn) (a : Attempt) (outcome : Outcome) → IsTrue (is_of_attempt command) → advance command nodes ends position turn ≡ Some (MustEnd a outcome) → IsTrue (releases_in (caller_of a) (uuid_at position) turn)
must_end command nodes ends position turn a outcome of goes = subst (LetsIf (uuid_at position) turn) goes (line_lets command nodes ends position turn of)
