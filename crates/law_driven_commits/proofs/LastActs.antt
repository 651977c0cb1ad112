-- What a commit or an abort did last at its node, by where its turns have led.
use Rattle.std.proofs.Common.{◌≡◌, ℕ, Bool, true, false, ◌&&◌, not, List, [], ◌∷◌, refl, subst, eqb}
use Rattle.std.specs.Prelude.{IsTrue, None, Option, Some, if◌then◌else◌}
use Rattle.std.specs.List.{fold}
use Rattle.std.proofs.lemmas.Bool.{and_parts, false≢true}
use Rattle.aft_keeper.specs.declared.keeper.KeeperAnswer.{KeeperAnswer}
use Rattle.aft_keeper.specs.declared.keeper.KeeperCall.TheVariants as calls
use Rattle.aft_keeper.specs.declared.keeper.Pair.{Pair}
use Rattle.aft_records.specs.declared.stored.Commit.{Commit}
use Rattle.aft_records.specs.Commits.{same_commit}
use Rattle.aft_model.specs.declared.caller.Attempt.{Attempt}
use Rattle.aft_model.specs.declared.door.DoorAct.{DoorAct}
use Rattle.aft_model.specs.declared.door.DoorAct.TheVariants as doors
use Rattle.aft_model.specs.declared.node.NodeAct.{NodeAct}
use Rattle.aft_model.specs.declared.node.NodeAct.TheVariants as acts
use Rattle.aft_model.specs.declared.node.NodeEntry.{NodeEntry}
use Rattle.aft_model.specs.declared.office.OfficeEntry.{OfficeEntry}
use Rattle.aft_model.specs.declared.reply.Reply.{Reply}
use Rattle.aft_model.specs.Attempts.{attempt_state, buffer, fixed_commit, same_attempt, uuid_of}
use Rattle.aft_model.specs.NodeState.{node_state, part}
use Rattle.aft_model.specs.Stages.{is_acknowledged}
use Rattle.aft_lines.specs.Advance.{advance, advance_finish, advanced, behind_failure, behind_settling, closed_by, doubted_by, finished_with, if_so, is_stored_in, leads_to, looked_by, noted_at_node, or_at, put_by, settled_with, shut_out_by, tells_outcome}
use Rattle.aft_lines.specs.CommitCourse.{Storing, doubts, gets_record, is_release_of, is_version_of, is_written_as, leaves, puts_own, storing_of, takes_away}
use Rattle.aft_lines.specs.CourseWords.{Ends, answers_down, any_answer, caller_of, ends_shut_out, finds_nothing, finds_record, tells_down, tells_no_memory, tells_refused}
use Rattle.aft_lines.specs.Progress.{EndsAborted, EndsCommitted, EndsLeft, FoundAborted, HasFailed, IsNodeStored, IsOver, IsRecorded, IsStoring, MustDoubt, MustEnd, MustLeave, NotBegun, Progress, Settling, Stopped}
use Rattle.aft_lines.specs.Turns.{AtDoor, AtNode, AtOffice, Turn}
use Rattle.aft_commit.specs.Made.{command_of}
use Rattle.aft_node.specs.Closing.{act_passes, opens_finish}
use Rattle.law_attempts.proofs.Standing.{same_itself}
use Rattle.law_claims.proofs.Parting.{either_way}
use Rattle.law_runs.proofs.Walks.{from_nowhere}
use Rattle.law_driver.specs.Driven.{act_behind, last_act}

-- an act opened the end of an attempt, or stored its commit
abbrev pub Opened : Attempt → Option NodeAct → Type 0
Opened a act = IsTrue (act_passes (opens_finish a) act)

same_some : (p q : Progress) → Some p ≡ Some q → p ≡ q
same_some p q e = cc

-- what a first turn has fixed to store is such
module _ (Fixed : Storing → Type 0) where
  -- an act stored the commit of an attempt
  pub record Stores (a : Attempt) (act : Option NodeAct) : Type 0 where
    pub one : Attempt
    pub commit : Commit
    pub fixed : Storing
    pub mine : fixed.attempt ≡ a
    pub is : act ≡ Some (acts.Stored one commit)
    pub its : Fixed fixed
    pub same : IsTrue (same_commit fixed.written.commit commit)

  abbrev Keeps : Storing → Option NodeAct → Type 0
  Keeps storing act = Opened storing.attempt act × Fixed storing

  -- the last act at the node, by a position
  abbrev pub LastAt : Option NodeAct → Progress → Type 0
  LastAt act (Settling aborts storing) = Keeps storing act
  LastAt act (IsStoring storing left) = Keeps storing act
  LastAt act (HasFailed storing) = Keeps storing act
  LastAt act (IsRecorded storing) = Keeps storing act
  LastAt act (IsNodeStored storing) = Opened storing.attempt act × Stores storing.attempt act
  LastAt act (FoundAborted storing) = Keeps storing act
  LastAt act (MustDoubt storing) = Keeps storing act
  LastAt act (MustLeave aborts a uuid) = Opened a act
  LastAt act (MustEnd a EndsCommitted) = Opened a act × Stores a act
  LastAt act (MustEnd a EndsAborted) = Opened a act
  LastAt act (MustEnd a (EndsLeft aborts)) = Opened a act
  LastAt act NotBegun = ⊥
  LastAt act position = Unit {0}

  abbrev LastIf : Option NodeAct → Option Progress → Type 0
  LastIf act None = Unit {0}
  LastIf act (Some next) = LastAt act next

  if_last : (act : Option NodeAct) (passed : Bool) (next : Progress) → LastAt act next → LastIf act (if_so passed next)
  if_last act true next so = so
  if_last act false next so = tt

  either_last : (act : Option NodeAct) (b : Bool) (one other : Progress) → LastAt act one → LastAt act other → LastAt act (if b then one else other)
  either_last act true one other so also = so
  either_last act false one other so also = also

  -- ---- a turn at the door

  module _ (ends : Ends) (place : ℕ) (last : Option NodeAct) where
    looked_last : (storing : Storing) (then_at : KeeperAnswer → Progress) → ((answer : KeeperAnswer) → LastAt last (then_at answer)) → (act : DoorAct) → LastIf last (looked_by ends storing then_at (AtDoor place act))
    looked_last storing then_at so (doors.Call node inc (calls.Get name) answer) = if_last last (gets_record storing node inc name) (then_at answer) (so answer)
    looked_last storing then_at so act = tt

    put_last : (storing : Storing) (test : Pair → Bool) (done failed : Progress) → LastAt last done → LastAt last failed → (act : DoorAct) → LastIf last (put_by ends storing test done failed (AtDoor place act))
    put_last storing test done failed one other (doors.Call node inc (calls.Put name bytes) answer) =
        if_last last (puts_own storing test node inc name bytes) (if is_acknowledged answer then done else failed) (either_last last (is_acknowledged answer) done failed one other)
    put_last storing test done failed one other act = tt

    settled_last : (aborts : Bool) (storing : Storing) (answer : KeeperAnswer) → Keeps storing last → LastAt last (behind_settling aborts storing answer)
    settled_last aborts storing answer so = cases (finds_record storing.written.commit answer) (finds_nothing answer) aborts
      where
        cases : (found none aborts : Bool) → LastAt last (if found then IsRecorded storing else if not none then MustDoubt storing else if aborts then FoundAborted storing else IsStoring storing storing.writes)
        cases true none aborts = so
        cases false false aborts = so
        cases false true true = so
        cases false true false = so

    door_last : (position : Progress) (act : DoorAct) → LastAt last position → LastIf last (advance_finish ends position (AtDoor place act))
    door_last (Settling aborts storing) act so = looked_last storing (behind_settling aborts storing) (λ answer. settled_last aborts storing answer so) act
    door_last (IsStoring storing []) act so = put_last storing (is_written_as storing.written) (IsRecorded storing) (HasFailed storing) so so act
    door_last (IsStoring storing (write ∷ writes)) act so = put_last storing (is_version_of storing.written.commit write) (IsStoring storing writes) (MustDoubt storing) so so act
    door_last (HasFailed storing) act so = looked_last storing (behind_failure storing) (λ answer. either_last last (finds_record storing.written.commit answer) (IsRecorded storing) (MustDoubt storing) so so) act
    door_last (IsRecorded storing) act so = tt
    door_last (IsNodeStored storing) (doors.Release released node inc) so = if_last last (is_release_of storing.attempt storing.written.commit.id.uuid released node inc) (MustEnd storing.attempt EndsCommitted) so
    door_last (IsNodeStored storing) act so = tt
    door_last (FoundAborted storing) (doors.Release released node inc) so = if_last last (is_release_of storing.attempt storing.written.commit.id.uuid released node inc) (MustEnd storing.attempt EndsAborted) so.0
    door_last (FoundAborted storing) act so = tt
    door_last (MustDoubt storing) act so = tt
    door_last (MustLeave aborts a uuid) (doors.Release released node inc) so = if_last last (is_release_of a uuid released node inc) (MustEnd a (EndsLeft aborts)) so
    door_last (MustLeave aborts a uuid) act so = tt
    door_last (MustEnd a outcome) act so = tt
    door_last position act so = tt

  -- ---- a turn at a node

  module _ (ends : Ends) (at : ℕ) (before : List NodeEntry) (entry : NodeEntry) where
    abbrev turn : Turn
    turn = AtNode at before entry

    abbrev Behind : Option Progress → Type 0
    Behind = LastIf (Some entry.act)

    closed_last : (a : Attempt) (test : NodeAct → Option Reply → Bool) → Behind (closed_by ends a test turn)
    closed_last a test =
        either_way Behind (not (eqb a.node at)) None _ (λ other. tt) (λ here.
        either_way Behind (test entry.act entry.answer) (Some IsOver) _ (λ is. tt) (λ unlike.
        either_way Behind (answers_down entry.act entry.answer && ends.is_left a.inc (node_state before)) (Some (Stopped a)) None (λ down. tt) (λ not_down. tt)))

    shut_last : (a : Attempt) (test : NodeAct → Option Reply → Bool) → Behind (shut_out_by ends a test turn)
    shut_last a test = either_way Behind (ends_shut_out ends (caller_of a) (turn ∷ [])) (closed_by ends a test turn) None (λ is. closed_last a test) (λ unlike. tt)

    or_last : (one other : Option Progress) → Behind one → Behind other → Behind (or_at one other)
    or_last None other first second = second
    or_last (Some next) other first second = first

    stored_last : (storing : Storing) (act : NodeAct) → Fixed storing → IsTrue (is_stored_in storing act) → LastAt (Some act) (IsNodeStored storing)
    stored_last storing (acts.Stored b c) fixed is =
        let parts = and_parts (same_attempt storing.attempt b) (same_commit storing.written.commit c) is in
        (parts.0, record { one = b; commit = c; fixed = storing; mine = refl; is = refl; its = fixed; same = parts.1 })
    stored_last storing act fixed is = absurd (false≢true is)

    store_last : (storing : Storing) → Fixed storing → Behind (noted_at_node ends storing turn)
    store_last storing fixed =
        either_way Behind (eqb storing.attempt.node at && is_stored_in storing entry.act) (Some (IsNodeStored storing)) (doubted_by ends storing tells_no_memory turn)
        (λ is. stored_last storing entry.act fixed (and_parts (eqb storing.attempt.node at) (is_stored_in storing entry.act) is).1) (λ unlike. closed_last storing.attempt (doubts storing.attempt tells_no_memory))

    node_last : (position : Progress) (last : Option NodeAct) → LastAt last position → Behind (advance_finish ends position turn)
    node_last (Settling aborts storing) last so = closed_last storing.attempt (doubts storing.attempt tells_refused)
    node_last (IsStoring storing []) last so = closed_last storing.attempt (doubts storing.attempt tells_refused)
    node_last (IsStoring storing (write ∷ writes)) last so = closed_last storing.attempt (doubts storing.attempt tells_refused)
    node_last (HasFailed storing) last so = closed_last storing.attempt (doubts storing.attempt tells_refused)
    node_last (IsRecorded storing) last so = store_last storing so.1
    node_last (IsNodeStored storing) last so = shut_last storing.attempt (doubts storing.attempt tells_down)
    node_last (FoundAborted storing) last so =
        or_last (shut_out_by ends storing.attempt (doubts storing.attempt tells_down) turn) (doubted_by ends storing tells_no_memory turn)
        (shut_last storing.attempt (doubts storing.attempt tells_down)) (closed_last storing.attempt (doubts storing.attempt tells_no_memory))
    node_last (MustDoubt storing) last so = closed_last storing.attempt (doubts storing.attempt any_answer)
    node_last (MustLeave aborts a uuid) last so = if_last (Some entry.act) (eqb a.node at && answers_down entry.act entry.answer && ends.is_shut_out (caller_of a) entry.front) (Stopped a) tt
    node_last (MustEnd a outcome) last so = closed_last a (takes_away a (tells_outcome outcome))
    node_last position last so = tt

  -- ---- a turn at the office leads nowhere

  module _ (ends : Ends) (before : List OfficeEntry) (entry : OfficeEntry) where
    abbrev office : Turn
    office = AtOffice before entry

    none_shut : (a : Attempt) (test : NodeAct → Option Reply → Bool) (last : Option NodeAct) → LastIf last (shut_out_by ends a test office)
    none_shut a test last = either_way (LastIf last) (ends_shut_out ends (caller_of a) (office ∷ [])) None None (λ is. tt) (λ unlike. tt)

    none_or : (last : Option NodeAct) (one : Option Progress) → LastIf last one → LastIf last (or_at one None)
    none_or last None so = tt
    none_or last (Some next) so = so

    office_last : (position : Progress) (last : Option NodeAct) → LastIf last (advance_finish ends position office)
    office_last (Settling aborts storing) last = tt
    office_last (IsStoring storing []) last = tt
    office_last (IsStoring storing (write ∷ writes)) last = tt
    office_last (HasFailed storing) last = tt
    office_last (IsRecorded storing) last = tt
    office_last (IsNodeStored storing) last = none_shut storing.attempt (doubts storing.attempt tells_down) last
    office_last (FoundAborted storing) last = none_or last (shut_out_by ends storing.attempt (doubts storing.attempt tells_down) office) (none_shut storing.attempt (doubts storing.attempt tells_down) last)
    office_last (MustDoubt storing) last = tt
    office_last (MustLeave aborts a uuid) last = tt
    office_last (MustEnd a outcome) last = tt
    office_last position last = tt

  -- ---- any turn

  -- what a first turn fixes is so
  abbrev pub FixesAt : List NodeEntry → NodeAct → Type 0
  FixesAt before (acts.Start a now c) = Fixed (storing_of a (part before) c)
  FixesAt before (acts.Settle a) = (c : Commit) → fixed_commit (attempt_state a (part before)) ≡ Some c → Fixed (storing_of a (part before) c)
  FixesAt before act = Unit {0}

  settles_last : (aborts : Bool) (a : Attempt) (before : List NodeEntry) (o : Option Commit) → ((c : Commit) → o ≡ Some c → Fixed (storing_of a (part before) c)) → LastIf (Some (acts.Settle a)) (settled_with aborts a (part before) o)
  settles_last aborts a before None so = tt
  settles_last aborts a before (Some c) so = (same_itself a, so c refl)

  first_last : (aborts : Bool) (before : List NodeEntry) (act : NodeAct) → FixesAt before act → LastIf (Some act) (finished_with aborts (part before) act)
  first_last true before acts.Nothing so = tt
  first_last false before acts.Nothing so = tt
  first_last true before (acts.Leave a) so = if_last (Some (acts.Leave a)) (leaves true (buffer a (part before))) (MustLeave true a (uuid_of a (part before))) (same_itself a)
  first_last false before (acts.Leave a) so = if_last (Some (acts.Leave a)) (leaves false (buffer a (part before))) (MustLeave false a (uuid_of a (part before))) (same_itself a)
  first_last false before (acts.Start a now c) so = (same_itself a, so)
  first_last true before (acts.Start a now c) so = tt
  first_last true before (acts.Settle a) so = settles_last true a before (fixed_commit (attempt_state a (part before))) so
  first_last false before (acts.Settle a) so = settles_last false a before (fixed_commit (attempt_state a (part before))) so
  first_last true before act so = tt
  first_last false before act so = tt

  module _ (aborts : Bool) (nodes : List ℕ) (ends : Ends) where
    abbrev step : Progress → Turn → Option Progress
    step = advance (command_of aborts) nodes ends

    later_last : (finishes : Bool) (position : Progress) (last : Option NodeAct) (turn : Turn) → LastAt last position → LastIf (act_behind last turn) (advance (command_of finishes) nodes ends position turn)
    later_last finishes NotBegun last _ so = absurd so
    later_last true position last (AtDoor place act) so = door_last ends place last position act so
    later_last false position last (AtDoor place act) so = door_last ends place last position act so
    later_last true position last (AtNode at before entry) so = node_last ends at before entry position last so
    later_last false position last (AtNode at before entry) so = node_last ends at before entry position last so
    later_last true position last (AtOffice before entry) so = office_last ends before entry position last
    later_last false position last (AtOffice before entry) so = office_last ends before entry position last

    -- behind all of them
    rest_last : (line : List Turn) (last : Option NodeAct) (o : Option Progress) (next : Progress) → LastIf last o → fold (advanced step) o line ≡ Some next → LastAt (fold act_behind last line) next
    rest_last line last None next so is = absurd (from_nowhere step line next is)
    rest_last [] last (Some position) next so is = subst (LastAt last) (same_some position next is) so
    rest_last (turn ∷ line) last (Some position) next so is = rest_last line (act_behind last turn) (step position turn) next (later_last aborts position last turn so) is

    begins_last : (which : Bool) (at : ℕ) (before : List NodeEntry) (entry : NodeEntry) → FixesAt before entry.act → LastIf (Some entry.act) (advance (command_of which) nodes ends NotBegun (AtNode at before entry))
    begins_last true at before entry so = first_last true before entry.act so
    begins_last false at before entry so = first_last false before entry.act so

    pub line_last : (at : ℕ) (before : List NodeEntry) (entry : NodeEntry) (line : List Turn) (next : Progress) → FixesAt before entry.act → leads_to (command_of aborts) nodes ends (AtNode at before entry ∷ line) ≡ Some next → LastAt (last_act (AtNode at before entry ∷ line)) next
    line_last at before entry line next so is = rest_last line (Some entry.act) (step NotBegun (AtNode at before entry)) next (begins_last aborts at before entry so) is
