-- Where a line comes before it is over doesn't rest on what it has seen; and which lines stop in the middle of their course, and why.
use Rattle.std.proofs.Common.{◌≡◌, ℕ, Bool, true, false, ◌&&◌, ◌||◌, not, List, [], ◌∷◌, refl, ap, subst, ◌∙◌, inl, inr, eqb}
use Rattle.std.specs.Prelude.{IsFalse, IsTrue, None, Option, Some, if◌then◌else◌}
use Rattle.std.specs.List.{fold}
use Rattle.std.specs.Str.{bytes_eq}
use Rattle.std.proofs.lemmas.Bool.{cases_Bool, false≢true, true≢false}
use Rattle.aft_id.specs.declared.txn_id.TxnId.{TxnId}
use Rattle.aft_keeper.specs.declared.keeper.KeeperAnswer.{KeeperAnswer}
use Rattle.aft_keeper.specs.declared.keeper.KeeperCall.TheVariants as calls
use Rattle.aft_keeper.specs.declared.keeper.Pair.{Pair}
use Rattle.aft_model.specs.declared.caller.Attempt.{Attempt}
use Rattle.aft_model.specs.declared.door.DoorAct.TheVariants as doors
use Rattle.aft_model.specs.declared.node.NodeAct.{NodeAct}
use Rattle.aft_model.specs.declared.reply.Reply.{Reply}
use Rattle.aft_model.specs.declared.script.Command.{Command}
use Rattle.aft_model.specs.declared.script.Command.TheVariants as commands
use Rattle.aft_model.specs.Attempts.{Write}
use Rattle.aft_model.specs.Membership.{incarnation, same_incarnation}
use Rattle.aft_model.specs.NodeState.{node_state}
use Rattle.aft_model.specs.Readings.{marker_name, record_name}
use Rattle.aft_lines.specs.Advance.{advance, advance_claim, advance_finish, advance_get, advanced, allows, behind_failure, behind_marker, behind_settling, behind_unused, closed_by, claimed_by, doubted_by, fetched_by, forgotten_by, freed_by, got_by, if_nothing, if_so, is_stored_in, left_alone, looked_by, noted_at_node, or_at, put_by, released_by, shut_out_by, stored_by, tells_outcome}
use Rattle.aft_lines.specs.BeginCourse.{Beginning, begins_running, gives_back}
use Rattle.aft_lines.specs.CommitCourse.{Storing, doubts, is_version_of, is_written_as, takes_away}
use Rattle.aft_lines.specs.CourseWords.{Ends, answers_down, any_answer, caller_of, ends_shut_out, tells_down, tells_no_memory, tells_refused, tells_unclaimed}
use Rattle.aft_lines.specs.GetCourse.{ends_get, loses}
use Rattle.aft_lines.specs.Progress.{Admitted, AnyReason, EndsAborted, EndsCommitted, EndsLeft, Fetching, FoundAborted, FoundNoRecord, FoundShort, FoundUnused, HasClaim, HasFailed, HasFetched, HasForgotten, HasReleased, IsNodeStored, IsOver, IsRecorded, IsStoring, MustDoubt, MustEnd, MustLeave, MustRelease, NoRoom, NotBegun, Outcome, Progress, Reason, Refusal, Settling, Stopped, has_ended}
use Rattle.aft_lines.specs.Turns.{AtDoor, AtNode, AtOffice, Turn}
use Rattle.law_holders.specs.Rows.{is_of_attempt}
use Rattle.law_claims.proofs.Parting.{either_way}
use Rattle.law_runs.proofs.Walks.{from_nowhere}
use Rattle.law_held.specs.Standing.{is_get}

-- whether a command moves an attempt, or reads for one
abbrev pub of_one : Command → Bool
of_one command = is_of_attempt command || is_get command

-- ---- before its end a line goes the same way over any ends

-- a position that isn't behind a line's last turn is the other's too
abbrev Stays : Option Progress → Option Progress → Type 0
Stays None other = Unit {0}
Stays (Some next) other = IsFalse (has_ended next) → other ≡ Some next

same_stays : (next : Option Progress) → Stays next next
same_stays None = tt
same_stays (Some next) = λ goes. refl

or_stays : (one more other : Option Progress) → Stays one other → Stays more other → Stays (or_at one more) other
or_stays None more other first second = second
or_stays (Some next) more other first second = first

module _ (one two : Ends) where
  closed_stays : (a : Attempt) (test : NodeAct → Option Reply → Bool) (turn : Turn) (other : Option Progress) → Stays (closed_by one a test turn) other
  closed_stays a test (AtDoor place act) other = tt
  closed_stays a test (AtOffice before entry) other = tt
  closed_stays a test (AtNode at before entry) other = cases (not (eqb a.node at)) (test entry.act entry.answer) (answers_down entry.act entry.answer && one.is_left a.inc (node_state before))
    where
      cases : (away passed left : Bool) → Stays (if away then None else if passed then Some IsOver else if left then Some (Stopped a) else None) other
      cases true passed left = tt
      cases false true left = λ goes. absurd (true≢false goes)
      cases false false true = λ goes. absurd (true≢false goes)
      cases false false false = tt

  shut_stays : (a : Attempt) (test : NodeAct → Option Reply → Bool) (turn : Turn) (other : Option Progress) → Stays (shut_out_by one a test turn) other
  shut_stays a test turn other = either_way (λ (next : Option Progress). Stays next other) (ends_shut_out one (caller_of a) (turn ∷ [])) (closed_by one a test turn) None (λ is. closed_stays a test turn other) (λ unlike. tt)

  -- ---- begins and forgets

  module _ (begun : Beginning) where
    released_stays : (reason : Reason) (turn : Turn) → Stays (released_by one begun reason turn) (released_by two begun reason turn)
    released_stays reason (AtDoor place (doors.Release uuid node inc)) = same_stays (if_so (same_incarnation (caller_of begun.attempt) (incarnation node inc) && bytes_eq begun.uuid uuid) (HasReleased begun reason))
    released_stays reason turn = shut_stays begun.attempt (gives_back begun.attempt tells_down) turn (shut_out_by two begun.attempt (gives_back begun.attempt tells_down) turn)

    got_stays : (name : List ℕ) (then_at : KeeperAnswer → Progress) (turn : Turn) → Stays (got_by one begun name then_at turn) (got_by two begun name then_at turn)
    got_stays name then_at (AtDoor place (doors.Call node inc (calls.Get got) answer)) = same_stays (got_by one begun name then_at (AtDoor place (doors.Call node inc (calls.Get got) answer)))
    got_stays name then_at turn = released_stays Refusal turn

    forgotten_stays : (turn : Turn) → Stays (forgotten_by one begun turn) (forgotten_by two begun turn)
    forgotten_stays (AtDoor place (doors.Call node inc (calls.Delete name) answer)) = same_stays (forgotten_by one begun (AtDoor place (doors.Call node inc (calls.Delete name) answer)))
    forgotten_stays turn = released_stays Refusal turn

    claimed_stays : (turn : Turn) → Stays (claimed_by one begun turn) (claimed_by two begun turn)
    claimed_stays (AtDoor place (doors.Claim uuid node inc)) = same_stays (claimed_by one begun (AtDoor place (doors.Claim uuid node inc)))
    claimed_stays turn = closed_stays begun.attempt (gives_back begun.attempt tells_unclaimed) turn (closed_by two begun.attempt (gives_back begun.attempt tells_unclaimed) turn)

    unused_stays : (forgets : Bool) (turn : Turn) → Stays (behind_unused one forgets begun turn) (behind_unused two forgets begun turn)
    unused_stays true turn = released_stays AnyReason turn
    unused_stays false (AtDoor place act) = released_stays NoRoom (AtDoor place act)
    unused_stays false (AtOffice before entry) = released_stays NoRoom (AtOffice before entry)
    unused_stays false (AtNode at before entry) =
        or_stays (closed_by one begun.attempt (begins_running begun.attempt) (AtNode at before entry)) (released_by one begun NoRoom (AtNode at before entry)) (behind_unused two false begun (AtNode at before entry))
        (closed_stays begun.attempt (begins_running begun.attempt) (AtNode at before entry) (behind_unused two false begun (AtNode at before entry)))
        (shut_stays begun.attempt (gives_back begun.attempt tells_down) (AtNode at before entry) (behind_unused two false begun (AtNode at before entry)))

  claim_stays : (forgets : Bool) (position : Progress) (turn : Turn) → Stays (advance_claim one forgets position turn) (advance_claim two forgets position turn)
  claim_stays forgets (Admitted begun) turn = claimed_stays begun turn
  claim_stays forgets (HasClaim begun) turn = got_stays begun (record_name begun.uuid) (if_nothing (FoundNoRecord begun) begun) turn
  claim_stays forgets (FoundNoRecord begun) turn = got_stays begun (marker_name begun.uuid) (behind_marker forgets begun) turn
  claim_stays forgets (FoundUnused begun) turn = unused_stays begun forgets turn
  claim_stays forgets (FoundShort begun) turn = forgotten_stays begun turn
  claim_stays forgets (HasForgotten begun) turn = released_stays begun AnyReason turn
  claim_stays forgets (MustRelease begun) turn = released_stays begun AnyReason turn
  claim_stays forgets (HasReleased begun reason) turn = closed_stays begun.attempt (gives_back begun.attempt (allows reason)) turn (advance_claim two forgets (HasReleased begun reason) turn)
  claim_stays forgets position turn = tt

  -- ---- gets

  fetched_stays : (a : Attempt) (key : List ℕ) (id : TxnId) (turn : Turn) → Stays (fetched_by one a key id turn) (fetched_by two a key id turn)
  fetched_stays a key id (AtDoor place (doors.Call node inc (calls.Get name) answer)) = same_stays (fetched_by one a key id (AtDoor place (doors.Call node inc (calls.Get name) answer)))
  fetched_stays a key id turn = closed_stays a (loses a key id) turn (closed_by two a (loses a key id) turn)

  get_stays : (position : Progress) (turn : Turn) → Stays (advance_get one position turn) (advance_get two position turn)
  get_stays (Fetching a key id) turn = fetched_stays a key id turn
  get_stays (HasFetched a key id place) turn = closed_stays a (ends_get a key id place) turn (closed_by two a (ends_get a key id place) turn)
  get_stays position turn = tt

  -- ---- commits and aborts

  module _ (storing : Storing) where
    doubted_stays : (tells : Option Reply → Bool) (turn : Turn) (other : Option Progress) → Stays (doubted_by one storing tells turn) other
    doubted_stays tells turn other = closed_stays storing.attempt (doubts storing.attempt tells) turn other

    looked_stays : (then_at : KeeperAnswer → Progress) (turn : Turn) → Stays (looked_by one storing then_at turn) (looked_by two storing then_at turn)
    looked_stays then_at (AtDoor place (doors.Call node inc (calls.Get name) answer)) = same_stays (looked_by one storing then_at (AtDoor place (doors.Call node inc (calls.Get name) answer)))
    looked_stays then_at turn = doubted_stays tells_refused turn (doubted_by two storing tells_refused turn)

    put_stays : (test : Pair → Bool) (done failed : Progress) (turn : Turn) → Stays (put_by one storing test done failed turn) (put_by two storing test done failed turn)
    put_stays test done failed (AtDoor place (doors.Call node inc (calls.Put name bytes) answer)) = same_stays (put_by one storing test done failed (AtDoor place (doors.Call node inc (calls.Put name bytes) answer)))
    put_stays test done failed turn = doubted_stays tells_refused turn (doubted_by two storing tells_refused turn)

    stored_stays : (writes : List Write) (turn : Turn) → Stays (stored_by one storing writes turn) (stored_by two storing writes turn)
    stored_stays [] turn = put_stays (is_written_as storing.written) (IsRecorded storing) (HasFailed storing) turn
    stored_stays (write ∷ writes) turn = put_stays (is_version_of storing.written.commit write) (IsStoring storing writes) (MustDoubt storing) turn

    noted_stays : (turn : Turn) → Stays (noted_at_node one storing turn) (noted_at_node two storing turn)
    noted_stays (AtDoor place act) = tt
    noted_stays (AtOffice before entry) = tt
    noted_stays (AtNode at before entry) = cases (eqb storing.attempt.node at && is_stored_in storing entry.act)
      where
        cases : (is : Bool) → Stays (if is then Some (IsNodeStored storing) else doubted_by one storing tells_no_memory (AtNode at before entry)) (if is then Some (IsNodeStored storing) else doubted_by two storing tells_no_memory (AtNode at before entry))
        cases true = λ goes. refl
        cases false = doubted_stays tells_no_memory (AtNode at before entry) (doubted_by two storing tells_no_memory (AtNode at before entry))

    aborted_stays : (turn : Turn) (other : Option Progress) → Stays (or_at (shut_out_by one storing.attempt (doubts storing.attempt tells_down) turn) (doubted_by one storing tells_no_memory turn)) other
    aborted_stays turn other =
        or_stays (shut_out_by one storing.attempt (doubts storing.attempt tells_down) turn) (doubted_by one storing tells_no_memory turn) other
        (shut_stays storing.attempt (doubts storing.attempt tells_down) turn other) (doubted_stays tells_no_memory turn other)

  alone_stays : (a : Attempt) (turn : Turn) (other : Option Progress) → Stays (left_alone one a turn) other
  alone_stays a (AtDoor place act) other = tt
  alone_stays a (AtOffice before entry) other = tt
  alone_stays a (AtNode at before entry) other = either_way (λ (next : Option Progress). Stays next other) (eqb a.node at && answers_down entry.act entry.answer && one.is_shut_out (caller_of a) entry.front) (Some (Stopped a)) None (λ is goes. absurd (true≢false goes)) (λ unlike. tt)

  freed_stays : (a : Attempt) (uuid : List ℕ) (outcome : Outcome) (without other : Turn → Option Progress) (turn : Turn) → Stays (without turn) (other turn) → Stays (freed_by a uuid outcome without turn) (freed_by a uuid outcome other turn)
  freed_stays a uuid outcome without other (AtDoor place (doors.Release released node inc)) so = same_stays (freed_by a uuid outcome without (AtDoor place (doors.Release released node inc)))
  freed_stays a uuid outcome without other turn so = so

  finish_stays : (position : Progress) (turn : Turn) → Stays (advance_finish one position turn) (advance_finish two position turn)
  finish_stays (Settling aborts storing) turn = looked_stays storing (behind_settling aborts storing) turn
  finish_stays (IsStoring storing writes) turn = stored_stays storing writes turn
  finish_stays (HasFailed storing) turn = looked_stays storing (behind_failure storing) turn
  finish_stays (IsRecorded storing) turn = noted_stays storing turn
  finish_stays (IsNodeStored storing) turn =
      freed_stays storing.attempt storing.written.commit.id.uuid EndsCommitted (shut_out_by one storing.attempt (doubts storing.attempt tells_down)) (shut_out_by two storing.attempt (doubts storing.attempt tells_down)) turn
      (shut_stays storing.attempt (doubts storing.attempt tells_down) turn (shut_out_by two storing.attempt (doubts storing.attempt tells_down) turn))
  finish_stays (FoundAborted storing) turn =
      freed_stays storing.attempt storing.written.commit.id.uuid EndsAborted (λ last. or_at (shut_out_by one storing.attempt (doubts storing.attempt tells_down) last) (doubted_by one storing tells_no_memory last))
      (λ last. or_at (shut_out_by two storing.attempt (doubts storing.attempt tells_down) last) (doubted_by two storing tells_no_memory last)) turn
      (aborted_stays storing turn (or_at (shut_out_by two storing.attempt (doubts storing.attempt tells_down) turn) (doubted_by two storing tells_no_memory turn)))
  finish_stays (MustDoubt storing) turn = doubted_stays storing any_answer turn (advance_finish two (MustDoubt storing) turn)
  finish_stays (MustLeave aborts a uuid) turn = freed_stays a uuid (EndsLeft aborts) (left_alone one a) (left_alone two a) turn (alone_stays a turn (left_alone two a turn))
  finish_stays (MustEnd a outcome) turn = closed_stays a (takes_away a (tells_outcome outcome)) turn (advance_finish two (MustEnd a outcome) turn)
  finish_stays position turn = tt

  -- ---- a turn of such a line

  step_stays : (command : Command) (nodes : List ℕ) → IsTrue (of_one command) → (position : Progress) (turn : Turn) → Stays (advance command nodes one position turn) (advance command nodes two position turn)
  step_stays (commands.Begin uuid node) nodes of NotBegun turn = same_stays (advance (commands.Begin uuid node) nodes one NotBegun turn)
  step_stays (commands.Begin uuid node) nodes of position turn = claim_stays false position turn
  step_stays (commands.Forget uuid node) nodes of NotBegun turn = same_stays (advance (commands.Forget uuid node) nodes one NotBegun turn)
  step_stays (commands.Forget uuid node) nodes of position turn = claim_stays true position turn
  step_stays (commands.Get key) nodes of NotBegun turn = same_stays (advance (commands.Get key) nodes one NotBegun turn)
  step_stays (commands.Get key) nodes of position turn = get_stays position turn
  step_stays commands.Commit nodes of NotBegun turn = same_stays (advance commands.Commit nodes one NotBegun turn)
  step_stays commands.Commit nodes of position turn = finish_stays position turn
  step_stays commands.Abort nodes of NotBegun turn = same_stays (advance commands.Abort nodes one NotBegun turn)
  step_stays commands.Abort nodes of position turn = finish_stays position turn
  step_stays command nodes of position turn = absurd (false≢true of)

-- behind its last turn a line goes nowhere
ended_nowhere : (command : Command) (nodes : List ℕ) (ends : Ends) → IsTrue (of_one command) → (position : Progress) (turn : Turn) → IsTrue (has_ended position) → advance command nodes ends position turn ≡ None
ended_nowhere (commands.Begin uuid node) nodes ends of IsOver turn is = refl
ended_nowhere (commands.Begin uuid node) nodes ends of (Stopped a) turn is = refl
ended_nowhere (commands.Begin uuid node) nodes ends of position turn is = absurd (false≢true is)
ended_nowhere (commands.Forget uuid node) nodes ends of IsOver turn is = refl
ended_nowhere (commands.Forget uuid node) nodes ends of (Stopped a) turn is = refl
ended_nowhere (commands.Forget uuid node) nodes ends of position turn is = absurd (false≢true is)
ended_nowhere (commands.Get key) nodes ends of IsOver turn is = refl
ended_nowhere (commands.Get key) nodes ends of (Stopped a) turn is = refl
ended_nowhere (commands.Get key) nodes ends of position turn is = absurd (false≢true is)
ended_nowhere commands.Commit nodes ends of IsOver turn is = refl
ended_nowhere commands.Commit nodes ends of (Stopped a) turn is = refl
ended_nowhere commands.Commit nodes ends of position turn is = absurd (false≢true is)
ended_nowhere commands.Abort nodes ends of IsOver turn is = refl
ended_nowhere commands.Abort nodes ends of (Stopped a) turn is = refl
ended_nowhere commands.Abort nodes ends of position turn is = absurd (false≢true is)
ended_nowhere command nodes ends of position turn is = absurd (false≢true of)

module _ (command : Command) (nodes : List ℕ) (one two : Ends) (of : IsTrue (of_one command)) where
  abbrev go : Ends → Option Progress → List Turn → Option Progress
  go ends position line = fold (advanced (advance command nodes ends)) position line

  -- where a line goes on, it isn't over before
  open_before : (position next : Progress) (line : List Turn) → go one (Some position) line ≡ Some next → IsFalse (has_ended next) → IsFalse (has_ended position)
  open_before position next [] is ongoing = subst (λ (p : Progress). IsFalse (has_ended p)) (let same : next ≡ position = cc in same) ongoing
  open_before position next (turn ∷ line) is ongoing = elim (cases_Bool (has_ended position)) [
    | inr so ↦ so
    | inl over ↦ absurd (from_nowhere (advance command nodes one) line next (subst (λ (o : Option Progress). go one o line ≡ Some next) (ended_nowhere command nodes one of position turn over) is))
  ]

  pub leads_same : (line : List Turn) (position next : Progress) → go one (Some position) line ≡ Some next → IsFalse (has_ended next) → go two (Some position) line ≡ Some next
  leads_same [] position next is ongoing = is
  leads_same (turn ∷ line) position next is ongoing =
      by_step (advance command nodes one position turn) (step_stays one two command nodes of position turn) (λ q goes. leads_same line q next goes ongoing) is
    where
      by_step : (o : Option Progress) → Stays o (advance command nodes two position turn) → ((q : Progress) → go one (Some q) line ≡ Some next → go two (Some q) line ≡ Some next) → go one o line ≡ Some next → go two (advance command nodes two position turn) line ≡ Some next
      by_step None stay rest goes = absurd (from_nowhere (advance command nodes one) line next goes)
      by_step (Some q) stay rest goes = ap (λ (o : Option Progress). go two o line) (stay (open_before q next line goes ongoing)) ∙ rest q goes
