-- The steps of commits and aborts.
use Rattle.std.proofs.Common.{◌≡◌, ℕ, Bool, true, false, ◌&&◌, not, eqb, List, [], ◌∷◌, refl}
use Rattle.std.specs.Prelude.{IsTrue, Option, Some, None, if◌then◌else◌}
use Rattle.std.specs.List.{list_any}
use Rattle.std.specs.Str.{bytes_eq}
use Rattle.std.proofs.lemmas.Bool.{and_from, and_parts, or_left, or_right}
use Rattle.aft_id.specs.TxnId.{same_id}
use Rattle.aft_keeper.specs.declared.keeper.KeeperAnswer.{KeeperAnswer}
use Rattle.aft_keeper.specs.declared.keeper.KeeperCall.TheVariants as calls
use Rattle.aft_keeper.specs.declared.keeper.Pair.{Pair}
use Rattle.aft_records.specs.declared.stored.Commit.{Commit}
use Rattle.aft_records.specs.declared.stored.Record.{Record}
use Rattle.aft_records.specs.Reading.{record_of, version_of}
use Rattle.aft_model.specs.declared.caller.Attempt.{Attempt}
use Rattle.aft_model.specs.declared.door.DoorAct.TheVariants as doors
use Rattle.aft_model.specs.declared.node.NodeAct.{NodeAct}
use Rattle.aft_model.specs.declared.node.NodeAct.TheVariants as acts
use Rattle.aft_model.specs.declared.node.NodeEntry.{NodeEntry}
use Rattle.aft_model.specs.declared.reply.Reply.{Reply}
use Rattle.aft_model.specs.Attempts.{Write, attempt_state, buffer, fixed_commit, uuid_of}
use Rattle.aft_model.specs.Membership.{incarnation, same_incarnation}
use Rattle.aft_model.specs.NodeState.{part}
use Rattle.aft_model.specs.Readings.{record_name, same_record, version_name}
use Rattle.aft_model.specs.Sound.{records_prefix}
use Rattle.aft_model.specs.Stages.{is_acknowledged}
use Rattle.aft_lines.specs.Advance.{advance_finish, at_first_node, behind_failure, behind_settling, closed_by, doubted_by, finished_with, freed_by, is_stored_in, left_alone, looked_by, noted_at_node, or_at, put_by, settled_with, shut_out_by, stored_by, tells_outcome}
use Rattle.aft_lines.specs.CommitCourse.{Storing, doubts, gets_record, is_release_of, is_version_of, is_written_as, leaves, puts_own, takes_away}
use Rattle.aft_lines.specs.CourseWords.{Ends, answers_down, any_answer, caller_of, finds_nothing, finds_record, tells_down, tells_no_memory, tells_refused}
use Rattle.aft_lines.specs.Progress.{EndsAborted, EndsCommitted, EndsLeft, FoundAborted, HasFailed, IsNodeStored, IsOver, IsRecorded, IsStoring, MustDoubt, MustEnd, MustLeave, Outcome, Progress, Settling, Stopped}
use Rattle.aft_lines.specs.Turns.{AtDoor, AtNode, AtOffice, Turn}
use Rattle.law_finish.specs.Finishing.{finishing}
use Rattle.aft_lines.specs.Makes.{aborts_at_node, all_versions, commits_at_node, is_under, makes}
use Rattle.law_makes.proofs.Reached.{comes_to}
use Rattle.law_makes.proofs.Well.{is_well, reads_under, under_same, well_closed, well_if, well_or, well_shut}

-- ---- what is put

version_under : (c : Commit) (write : Write) (pair : Pair) → IsTrue (is_version_of c write pair) → IsTrue (is_under all_versions pair.name)
version_under c write pair is = reads_under all_versions pair.name (λ v. version_name v.key v.id) (version_of pair.bytes) (λ vs. list_any (λ v. bytes_eq write.key v.key && same_id c.id v.id && bytes_eq write.value v.value) vs) refl (λ v. refl) is

record_under : (r : Record) (pair : Pair) → IsTrue (is_written_as r pair) → IsTrue (is_under records_prefix pair.name)
record_under r pair is = reads_under records_prefix pair.name (λ q. record_name q.commit.id.uuid) (record_of pair.bytes) (λ rs. list_any (same_record r) rs) refl (λ q. refl) is

-- ---- the steps

module _ (aborts : Bool) where
  abbrev made : Turn → Bool
  made = makes (finishing aborts)

  abbrev comes : Progress → Bool
  comes = comes_to (finishing aborts)

  -- acts at nodes that both make
  both_make : (act : NodeAct) → IsTrue (aborts_at_node act) → IsTrue (commits_at_node act)
  both_make (acts.Start a now c) so = refl
  both_make act so = so

at_node : (aborts : Bool) (node : ℕ) (before : List NodeEntry) (entry : NodeEntry) → IsTrue (aborts_at_node entry.act) → IsTrue (made aborts (AtNode node before entry))
at_node true node before entry so = so
at_node false node before entry so = both_make false entry.act so

down_made : (act : NodeAct) (answer : Option Reply) → IsTrue (answers_down act answer) → IsTrue (aborts_at_node act)
down_made acts.Nothing answer so = refl
down_made act answer so = absurd (cc)

doubt_made : (a : Attempt) (test : Option Reply → Bool) (act : NodeAct) (answer : Option Reply) → IsTrue (doubts a test act answer) → IsTrue (aborts_at_node act)
doubt_made a test (acts.Doubt b) answer so = refl
doubt_made a test act answer so = absurd (cc)

end_made : (a : Attempt) (test : Option Reply → Bool) (act : NodeAct) (answer : Option Reply) → IsTrue (takes_away a test act answer) → IsTrue (aborts_at_node act)
end_made a test (acts.End b) answer so = refl
end_made a test act answer so = absurd (cc)

stored_made : (storing : Storing) (act : NodeAct) → IsTrue (is_stored_in storing act) → IsTrue (aborts_at_node act)
stored_made storing (acts.Stored b c) so = refl
stored_made storing act so = absurd (cc)

-- positions that both come to
over : (aborts : Bool) → IsTrue (comes aborts IsOver)
over true = refl
over false = refl

stopped : (aborts : Bool) (a : Attempt) → IsTrue (comes aborts (Stopped a))
stopped true a = refl
stopped false a = refl

module _ (aborts : Bool) (ends : Ends) where
  closed : (a : Attempt) (test : NodeAct → Option Reply → Bool) → ((act : NodeAct) (answer : Option Reply) → IsTrue (test act answer) → IsTrue (aborts_at_node act)) → (turn : Turn) → IsTrue (is_well (made aborts) (comes aborts) turn (closed_by ends a test turn))
  closed a test passes turn =
      well_closed (made aborts) (comes aborts) (over aborts) (stopped aborts) (λ node before entry so. at_node aborts node before entry (down_made entry.act entry.answer so)) ends a test
      (λ node before entry so. at_node aborts node before entry (passes entry.act entry.answer so)) turn

  shut : (a : Attempt) (test : NodeAct → Option Reply → Bool) → ((act : NodeAct) (answer : Option Reply) → IsTrue (test act answer) → IsTrue (aborts_at_node act)) → (turn : Turn) → IsTrue (is_well (made aborts) (comes aborts) turn (shut_out_by ends a test turn))
  shut a test passes turn =
      well_shut (made aborts) (comes aborts) (over aborts) (stopped aborts) (λ node before entry so. at_node aborts node before entry (down_made entry.act entry.answer so)) ends a test
      (λ node before entry so. at_node aborts node before entry (passes entry.act entry.answer so)) turn

  release_made : (b : Bool) (place : ℕ) (uuid : List ℕ) (node inc : ℕ) → IsTrue (made b (AtDoor place (doors.Release uuid node inc)))
  release_made true place uuid node inc = refl
  release_made false place uuid node inc = refl

  ending : (b : Bool) (a : Attempt) (outcome : Outcome) → IsTrue (comes b (MustEnd a outcome))
  ending true a outcome = refl
  ending false a outcome = refl

  -- a release, or what comes without it
  freed : (a : Attempt) (uuid : List ℕ) (outcome : Outcome) (without : Turn → Option Progress) → ((turn : Turn) → IsTrue (is_well (made aborts) (comes aborts) turn (without turn))) → (turn : Turn)
      → IsTrue (is_well (made aborts) (comes aborts) turn (freed_by a uuid outcome without turn))
  freed a uuid outcome without so (AtDoor place (doors.Release released node inc)) =
      well_if (made aborts) (comes aborts) (AtDoor place (doors.Release released node inc)) (MustEnd a outcome) (is_release_of a uuid released node inc) (λ is. release_made aborts place released node inc) (ending aborts a outcome)
  freed a uuid outcome without so turn = so turn

  module _ (storing : Storing) where
    doubted : (test : Option Reply → Bool) (turn : Turn) → IsTrue (is_well (made aborts) (comes aborts) turn (doubted_by ends storing test turn))
    doubted test turn = closed storing.attempt (doubts storing.attempt test) (doubt_made storing.attempt test) turn

    look_made : (b : Bool) (place node inc : ℕ) (name : List ℕ) (answer : KeeperAnswer) → IsTrue (is_under records_prefix name) → IsTrue (made b (AtDoor place (doors.Call node inc (calls.Get name) answer)))
    look_made true place node inc name answer so = so
    look_made false place node inc name answer so = so

    looked : (then_at : KeeperAnswer → Progress) → ((answer : KeeperAnswer) → IsTrue (comes aborts (then_at answer))) → (turn : Turn) → IsTrue (is_well (made aborts) (comes aborts) turn (looked_by ends storing then_at turn))
    looked then_at so (AtDoor place (doors.Call node inc (calls.Get name) answer)) =
        well_if (made aborts) (comes aborts) (AtDoor place (doors.Call node inc (calls.Get name) answer)) (then_at answer) (gets_record storing node inc name)
        (λ is. look_made aborts place node inc name answer (under_same records_prefix (record_name storing.written.commit.id.uuid) name (and_parts (same_incarnation (caller_of storing.attempt) (incarnation node inc)) (bytes_eq (record_name storing.written.commit.id.uuid) name) is).1 refl)) (so answer)
    looked then_at so turn = doubted tells_refused turn

    noted : (turn : Turn) → IsTrue (comes aborts (IsNodeStored storing)) → IsTrue (is_well (made aborts) (comes aborts) turn (noted_at_node ends storing turn))
    noted (AtDoor place act) so = refl
    noted (AtOffice before entry) so = refl
    noted (AtNode node before entry) so = cases (eqb storing.attempt.node node) (is_stored_in storing entry.act) (λ is. at_node aborts node before entry (stored_made storing entry.act is))
      where
        cases : (here stores : Bool) → (IsTrue stores → IsTrue (made aborts (AtNode node before entry)))
            → IsTrue (is_well (made aborts) (comes aborts) (AtNode node before entry) (if here && stores then Some (IsNodeStored storing) else doubted_by ends storing tells_no_memory (AtNode node before entry)))
        cases true true is = and_from _ _ (is refl) so
        cases true false is = doubted tells_no_memory (AtNode node before entry)
        cases false stores is = doubted tells_no_memory (AtNode node before entry)

  left_well : (a : Attempt) (turn : Turn) → IsTrue (is_well (made aborts) (comes aborts) turn (left_alone ends a turn))
  left_well a (AtDoor place act) = refl
  left_well a (AtOffice before entry) = refl
  left_well a (AtNode node before entry) =
      well_if (made aborts) (comes aborts) (AtNode node before entry) (Stopped a) (eqb a.node node && answers_down entry.act entry.answer && ends.is_shut_out (caller_of a) entry.front)
      (λ is. at_node aborts node before entry (down_made entry.act entry.answer (and_parts (eqb a.node node) (answers_down entry.act entry.answer) (and_parts (eqb a.node node && answers_down entry.act entry.answer) (ends.is_shut_out (caller_of a) entry.front) is).0).1)) (stopped aborts a)

  -- the positions that both come to, behind their puts
  stored_release : (storing : Storing) (turn : Turn)
      → IsTrue (is_well (made aborts) (comes aborts) turn (freed_by storing.attempt storing.written.commit.id.uuid EndsCommitted (shut_out_by ends storing.attempt (doubts storing.attempt tells_down)) turn))
  stored_release storing turn =
      freed storing.attempt storing.written.commit.id.uuid EndsCommitted (shut_out_by ends storing.attempt (doubts storing.attempt tells_down)) (shut storing.attempt (doubts storing.attempt tells_down) (doubt_made storing.attempt tells_down)) turn

  none_found : (storing : Storing) (turn : Turn)
      → IsTrue (is_well (made aborts) (comes aborts) turn
      (freed_by storing.attempt storing.written.commit.id.uuid EndsAborted (λ last. or_at (shut_out_by ends storing.attempt (doubts storing.attempt tells_down) last) (doubted_by ends storing tells_no_memory last)) turn))
  none_found storing turn =
      freed storing.attempt storing.written.commit.id.uuid EndsAborted (λ last. or_at (shut_out_by ends storing.attempt (doubts storing.attempt tells_down) last) (doubted_by ends storing tells_no_memory last))
      (λ last. well_or (made aborts) (comes aborts) last (shut_out_by ends storing.attempt (doubts storing.attempt tells_down) last) (doubted_by ends storing tells_no_memory last)
      (shut storing.attempt (doubts storing.attempt tells_down) (doubt_made storing.attempt tells_down) last) (doubted storing tells_no_memory last)) turn

  leaving : (how : Bool) (a : Attempt) (uuid : List ℕ) (turn : Turn) → IsTrue (is_well (made aborts) (comes aborts) turn (freed_by a uuid (EndsLeft how) (left_alone ends a) turn))
  leaving how a uuid turn = freed a uuid (EndsLeft how) (left_alone ends a) (left_well a) turn

  ends_well : (a : Attempt) (outcome : Outcome) (turn : Turn) → IsTrue (is_well (made aborts) (comes aborts) turn (closed_by ends a (takes_away a (tells_outcome outcome)) turn))
  ends_well a outcome turn = closed a (takes_away a (tells_outcome outcome)) (end_made a (tells_outcome outcome)) turn

-- ---- a commit

module _ (ends : Ends) where
  put_well : (storing : Storing) (test : Pair → Bool) (done failed : Progress) → ((name bytes : List ℕ) (place node inc : ℕ) (answer : KeeperAnswer) → IsTrue (test (record { name = name; bytes = bytes })) → IsTrue (made false (AtDoor place (doors.Call node inc (calls.Put name bytes) answer)))) → (turn : Turn)
      → IsTrue (is_well (made false) (comes false) turn (put_by ends storing test done failed turn))
  put_well storing test done failed so (AtDoor place (doors.Call node inc (calls.Put name bytes) answer)) =
      well_if (made false) (comes false) (AtDoor place (doors.Call node inc (calls.Put name bytes) answer)) (if is_acknowledged answer then done else failed) (puts_own storing test node inc name bytes)
      (λ is. so name bytes place node inc answer (and_parts (same_incarnation (caller_of storing.attempt) (incarnation node inc)) (test (record { name = name; bytes = bytes })) is).1) refl
  put_well storing test done failed so turn = doubted false ends storing tells_refused turn

  stored_well : (storing : Storing) (writes : List Write) (turn : Turn) → IsTrue (is_well (made false) (comes false) turn (stored_by ends storing writes turn))
  stored_well storing [] turn = put_well storing (is_written_as storing.written) (IsRecorded storing) (HasFailed storing) (λ name bytes place node inc answer is. or_left _ _ (record_under storing.written (record { name = name; bytes = bytes }) is)) turn
  stored_well storing (write ∷ writes) turn =
      put_well storing (is_version_of storing.written.commit write) (IsStoring storing writes) (MustDoubt storing) (λ name bytes place node inc answer is. or_right _ _ (version_under storing.written.commit write (record { name = name; bytes = bytes }) is)) turn

  pub commit_step : (position : Progress) (turn : Turn) → IsTrue (comes false position) → IsTrue (is_well (made false) (comes false) turn (advance_finish ends position turn))
  commit_step (Settling settled storing) turn so = looked false ends storing (behind_settling settled storing) (λ answer. refl) turn
  commit_step (IsStoring storing writes) turn so = stored_well storing writes turn
  commit_step (HasFailed storing) turn so = looked false ends storing (behind_failure storing) (λ answer. refl) turn
  commit_step (IsRecorded storing) turn so = noted false ends storing turn refl
  commit_step (IsNodeStored storing) turn so = stored_release false ends storing turn
  commit_step (FoundAborted storing) turn so = none_found false ends storing turn
  commit_step (MustDoubt storing) turn so = doubted false ends storing any_answer turn
  commit_step (MustLeave how a uuid) turn so = leaving false ends how a uuid turn
  commit_step (MustEnd a outcome) turn so = ends_well false ends a outcome turn
  commit_step position turn so = refl

  -- ---- an abort

  abort_settles : (storing : Storing) (answer : KeeperAnswer) → IsTrue (comes true (behind_settling true storing answer))
  abort_settles storing answer = cases (finds_record storing.written.commit answer) (finds_nothing answer)
    where
      cases : (found nothing : Bool) → IsTrue (comes true (if found then IsRecorded storing else if not nothing then MustDoubt storing else if true then FoundAborted storing else IsStoring storing storing.writes))
      cases true nothing = refl
      cases false true = refl
      cases false false = refl

  pub abort_step : (position : Progress) (turn : Turn) → IsTrue (comes true position) → IsTrue (is_well (made true) (comes true) turn (advance_finish ends position turn))
  abort_step (Settling true storing) turn so = looked true ends storing (behind_settling true storing) (abort_settles storing) turn
  abort_step (Settling false storing) turn so = absurd (cc)
  abort_step (IsStoring storing writes) turn so = absurd (cc)
  abort_step (HasFailed storing) turn so = absurd (cc)
  abort_step (IsRecorded storing) turn so = noted true ends storing turn refl
  abort_step (IsNodeStored storing) turn so = stored_release true ends storing turn
  abort_step (FoundAborted storing) turn so = none_found true ends storing turn
  abort_step (MustDoubt storing) turn so = doubted true ends storing any_answer turn
  abort_step (MustLeave how a uuid) turn so = leaving true ends how a uuid turn
  abort_step (MustEnd a outcome) turn so = ends_well true ends a outcome turn
  abort_step position turn so = refl

-- ---- the first turn

settled_first : (aborts : Bool) (turn : Turn) (a : Attempt) (its : List NodeEntry) (fixed : Option Commit) → IsTrue (made aborts turn) → IsTrue (is_well (made aborts) (comes aborts) turn (settled_with aborts a its fixed))
settled_first aborts turn a its None so = refl
settled_first true turn a its (Some c) so = and_from _ _ so refl
settled_first false turn a its (Some c) so = and_from _ _ so refl

first_act : (aborts : Bool) (node : ℕ) (before : List NodeEntry) (entry : NodeEntry) (act : NodeAct) → entry.act ≡ act → IsTrue (is_well (made aborts) (comes aborts) (AtNode node before entry) (finished_with aborts (part before) act))
first_act aborts node before entry acts.Nothing e = and_from _ _ (at_node aborts node before entry (rw e refl)) (over aborts)
first_act true node before entry (acts.Leave a) e = well_if (made true) (comes true) (AtNode node before entry) (MustLeave true a (uuid_of a (part before))) (leaves true (buffer a (part before))) (λ is. at_node true node before entry (rw e refl)) refl
first_act false node before entry (acts.Leave a) e = well_if (made false) (comes false) (AtNode node before entry) (MustLeave false a (uuid_of a (part before))) (leaves false (buffer a (part before))) (λ is. at_node false node before entry (rw e refl)) refl
first_act false node before entry (acts.Start a now c) e = rw e refl
first_act true node before entry (acts.Start a now c) e = refl
first_act aborts node before entry (acts.Settle a) e = settled_first aborts (AtNode node before entry) a (part before) (fixed_commit (attempt_state a (part before))) (at_node aborts node before entry (rw e refl))
first_act aborts node before entry act e = refl

pub finish_first : (aborts : Bool) (turn : Turn) → IsTrue (is_well (made aborts) (comes aborts) turn (at_first_node (λ at before act. finished_with aborts (part before) act) turn))
finish_first aborts (AtDoor place act) = refl
finish_first aborts (AtOffice before entry) = refl
finish_first aborts (AtNode node before entry) = first_act aborts node before entry entry.act refl
