-- What is left of a commit that stores: its puts, the node's noting, the release and the end.
use Rattle.std.proofs.Common.{◌≡◌, ℕ, Bool, true, false, ◌&&◌, ◌||◌, eqb, List, [], ◌∷◌, refl, sym, ap, ◌∙◌, arith}
use Rattle.std.specs.Prelude.{IsTrue, Option, Some, None, if◌then◌else◌, not}
use Rattle.std.proofs.lemmas.Bool.{and_parts}
use Rattle.aft_keeper.specs.declared.keeper.KeeperAnswer.{KeeperAnswer}
use Rattle.aft_keeper.specs.declared.keeper.KeeperCall.TheVariants as calls
use Rattle.aft_model.specs.declared.caller.Attempt.{Attempt}
use Rattle.aft_model.specs.declared.door.DoorAct.TheVariants as doors
use Rattle.aft_model.specs.declared.node.NodeAct.{NodeAct}
use Rattle.aft_model.specs.declared.node.NodeAct.TheVariants as acts
use Rattle.aft_model.specs.declared.node.NodeEntry.{NodeEntry}
use Rattle.aft_model.specs.declared.reply.Reply.{Reply}
use Rattle.aft_model.specs.Attempts.{Write, same_attempt}
use Rattle.aft_model.specs.NodeState.{node_state}
use Rattle.aft_model.specs.Stages.{is_acknowledged}
use Rattle.aft_lines.specs.Advance.{behind_failure, behind_settling, closed_by, doubted_by, freed_by, is_stored_in, left_alone, looked_by, noted_at_node, or_at, put_by, shut_out_by, stored_by, tells_outcome}
use Rattle.aft_lines.specs.CommitCourse.{Storing, doubts, ends_in_doubt, ends_with, gets_record, is_release_of, is_version_of, is_written_as, leave_course, on_absence, puts_course, puts_own, record_put_course, release_aborted, release_stored, settle_course, settled, settling_course, stored_after, stored_course, takes_away}
use Rattle.aft_lines.specs.CourseWords.{Ends, answers_down, any_answer, caller_of, ends_shut_out, finds_nothing, finds_record, tells_down, tells_no_memory, tells_refused}
use Rattle.aft_lines.specs.Progress.{EndsAborted, EndsCommitted, EndsLeft, FoundAborted, HasFailed, IsNodeStored, IsRecorded, IsStoring, MustDoubt, MustEnd, MustLeave, Outcome, Progress, IsOver, Settling, Stopped}
use Rattle.aft_lines.specs.Turns.{AtDoor, AtNode, AtOffice, Turn}
use Rattle.law_courses.proofs.Ends.{led, led-closed, led-either, led-from, led-if, led-none, led-or_last, led-or_more, led-shut_out, led-stopped}
use Rattle.law_courses.proofs.Tests.{and_false, and_true, ends_within, no_memory_refused, or_absorbed, or_false}

-- ---- tests

eqb_sym : (a b : ℕ) → eqb a b ≡ eqb b a
eqb_sym a b = grind arith

-- a doubt by a test that passes only where another does
doubts_within : (a : Attempt) (few many : Option Reply → Bool) → ((answer : Option Reply) → IsTrue (few answer) → IsTrue (many answer)) → (act : NodeAct) (answer : Option Reply) → IsTrue (doubts a few act answer) → IsTrue (doubts a many act answer)
doubts_within a few many within (acts.Doubt b) answer is = (let parts = and_parts (same_attempt a b) (few answer) is in let first : same_attempt a b ≡ true = parts.0 in let second = within answer parts.1 in cc)
doubts_within a few many within act answer is = absurd (cc)

-- an act that stores a commit is no doubt, and no answer alone
stored_only : (storing : Storing) (act : NodeAct) (answer : Option Reply) (left : Bool) → IsTrue (is_stored_in storing act) → (doubts storing.attempt tells_no_memory act answer || answers_down act answer && left) ≡ false
stored_only storing (acts.Stored b c) answer left is = refl
stored_only storing act answer left is = absurd (cc)

-- the storing in two parts: the act, and what follows
stored_parts : (ends : Ends) (storing : Storing) (act : NodeAct) (line : List Turn) → stored_after ends storing act line ≡ (is_stored_in storing act && release_stored ends storing line)
stored_parts ends storing (acts.Stored b c) line = refl
stored_parts ends storing act line = refl

-- a step that is a commit's or an abort's
pub record IsFinishStep (ends : Ends) (step : Progress → Turn → Option Progress) : Type 0 where
  pub settling : (aborts : Bool) (storing : Storing) (turn : Turn) → step (Settling aborts storing) turn ≡ looked_by ends storing (behind_settling aborts storing) turn
  pub storing : (storing : Storing) (writes : List Write) (turn : Turn) → step (IsStoring storing writes) turn ≡ stored_by ends storing writes turn
  pub failed : (storing : Storing) (turn : Turn) → step (HasFailed storing) turn ≡ looked_by ends storing (behind_failure storing) turn
  pub recorded : (storing : Storing) (turn : Turn) → step (IsRecorded storing) turn ≡ noted_at_node ends storing turn
  pub node_stored : (storing : Storing) (turn : Turn) → step (IsNodeStored storing) turn
      ≡ freed_by storing.attempt storing.written.commit.id.uuid EndsCommitted (shut_out_by ends storing.attempt (doubts storing.attempt tells_down)) turn
  pub none_found : (storing : Storing) (turn : Turn) → step (FoundAborted storing) turn
      ≡ freed_by storing.attempt storing.written.commit.id.uuid EndsAborted (λ last. or_at (shut_out_by ends storing.attempt (doubts storing.attempt tells_down) last) (doubted_by ends storing tells_no_memory last)) turn
  pub must_doubt : (storing : Storing) (turn : Turn) → step (MustDoubt storing) turn ≡ doubted_by ends storing any_answer turn
  pub must_leave : (aborts : Bool) (a : Attempt) (uuid : List ℕ) (turn : Turn) → step (MustLeave aborts a uuid) turn ≡ freed_by a uuid (EndsLeft aborts) (left_alone ends a) turn
  pub must_end : (a : Attempt) (outcome : Outcome) (turn : Turn) → step (MustEnd a outcome) turn ≡ closed_by ends a (takes_away a (tells_outcome outcome)) turn

module _ (ends : Ends) (step : Progress → Turn → Option Progress) (over : (turn : Turn) → step IsOver turn ≡ None) (stopped : (a : Attempt) (turn : Turn) → step (Stopped a) turn ≡ None) (is : IsFinishStep ends step) where
  abbrev at : Option Progress → List Turn → Bool
  at position line = led step over stopped position line

  from : (position : Progress) (next : Option Progress) (turn : Turn) (line : List Turn) → step position turn ≡ next → at (Some position) (turn ∷ line) ≡ at next line
  from = led-from step over stopped

  -- ---- the end

  pub ending : (a : Attempt) (outcome : Outcome) (line : List Turn) → at (Some (MustEnd a outcome)) line ≡ ends_with ends a (takes_away a (tells_outcome outcome)) line
  ending a outcome [] = refl
  ending a outcome (turn ∷ line) =
      from (MustEnd a outcome) (closed_by ends a (takes_away a (tells_outcome outcome)) turn) turn line (is.must_end a outcome turn)
      ∙ led-closed step over stopped ends a (takes_away a (tells_outcome outcome)) turn line

  -- the release of a claim, and the end behind it
  freed : (a : Attempt) (uuid : List ℕ) (outcome : Outcome) (released : List ℕ) (node inc : ℕ) (line : List Turn)
      → at (if is_release_of a uuid released node inc then Some (MustEnd a outcome) else None) line ≡ (is_release_of a uuid released node inc && ends_with ends a (takes_away a (tells_outcome outcome)) line)
  freed a uuid outcome released node inc line =
      led-if step over stopped (is_release_of a uuid released node inc) (MustEnd a outcome) line
      ∙ ap (λ (b : Bool). is_release_of a uuid released node inc && b) (ending a outcome line)

  -- ---- leaving

  module _ (aborts : Bool) (a : Attempt) (uuid : List ℕ) where
    left_last : (here passed shut : Bool) → at (if here && passed && shut then Some (Stopped a) else None) [] ≡ ((here && passed) && shut)
    left_last true true true = refl
    left_last true true false = refl
    left_last true false shut = refl
    left_last false passed shut = refl

    left_more : (is_so : Bool) (next : Turn) (line : List Turn) → at (if is_so then Some (Stopped a) else None) (next ∷ line) ≡ false
    left_more true next line = led-stopped step over stopped a (next ∷ line)
    left_more false next line = led-none step over stopped (next ∷ line)

    leave_on : (turn : Turn) (line : List Turn) → at (freed_by a uuid (EndsLeft aborts) (left_alone ends a) turn) line ≡ leave_course aborts ends a uuid (turn ∷ line)
    leave_on (AtDoor place (doors.Release released node inc)) line = freed a uuid (EndsLeft aborts) released node inc line
    leave_on (AtDoor place act) line = led-none step over stopped line
    leave_on (AtOffice before entry) line = led-none step over stopped line
    leave_on (AtNode node before entry) [] = left_last (eqb a.node node) (answers_down entry.act entry.answer) (ends.is_shut_out (caller_of a) entry.front)
    leave_on (AtNode node before entry) (next ∷ line) = left_more (eqb a.node node && answers_down entry.act entry.answer && ends.is_shut_out (caller_of a) entry.front) next line

    pub leaving : (line : List Turn) → at (Some (MustLeave aborts a uuid)) line ≡ leave_course aborts ends a uuid line
    leaving [] = refl
    leaving (turn ∷ line) = from (MustLeave aborts a uuid) (freed_by a uuid (EndsLeft aborts) (left_alone ends a) turn) turn line (is.must_leave aborts a uuid turn) ∙ leave_on turn line

  module _ (storing : Storing) where
    -- ---- in doubt

    doubted : (test : Option Reply → Bool) (turn : Turn) (line : List Turn) → at (doubted_by ends storing test turn) line ≡ ends_in_doubt ends storing test (turn ∷ line)
    doubted test turn line = led-closed step over stopped ends storing.attempt (doubts storing.attempt test) turn line

    pub doubting : (line : List Turn) → at (Some (MustDoubt storing)) line ≡ ends_in_doubt ends storing any_answer line
    doubting [] = refl
    doubting (turn ∷ line) = from (MustDoubt storing) (doubted_by ends storing any_answer turn) turn line (is.must_doubt storing turn) ∙ doubted any_answer turn line

    -- ---- behind the stored commit

    release_on : (turn : Turn) (line : List Turn) → at (freed_by storing.attempt storing.written.commit.id.uuid EndsCommitted (shut_out_by ends storing.attempt (doubts storing.attempt tells_down)) turn) line ≡ release_stored ends storing (turn ∷ line)
    release_on (AtDoor place (doors.Release released node inc)) line = freed storing.attempt storing.written.commit.id.uuid EndsCommitted released node inc line
    release_on turn line = led-shut_out step over stopped ends storing.attempt (doubts storing.attempt tells_down) turn line

    pub node_stored : (line : List Turn) → at (Some (IsNodeStored storing)) line ≡ release_stored ends storing line
    node_stored [] = refl
    node_stored (turn ∷ line) =
        from (IsNodeStored storing) (freed_by storing.attempt storing.written.commit.id.uuid EndsCommitted (shut_out_by ends storing.attempt (doubts storing.attempt tells_down)) turn) turn line (is.node_stored storing turn) ∙ release_on turn line

    -- ---- behind the record

    chosen : (here is_so : Bool) (one other : Option Progress) (line : List Turn) (b c : Bool) → at one line ≡ b → at other line ≡ c → (IsTrue is_so → c ≡ false) → at (if here && is_so then one else other) line ≡ (here && (is_so && b) || c)
    chosen true true one other line b c e f none = e ∙ sym (or_false b) ∙ ap (λ (d : Bool). b || d) (sym (none refl))
    chosen true false one other line b c e f none = f
    chosen false is_so one other line b c e f none = f

    no_doubt : (node : ℕ) (before : List NodeEntry) (entry : NodeEntry) (line : List Turn) → IsTrue (is_stored_in storing entry.act) → ends_in_doubt ends storing tells_no_memory (AtNode node before entry ∷ line) ≡ false
    no_doubt node before entry [] is_so =
        ap (λ (b : Bool). eqb storing.attempt.node node && b) (stored_only storing entry.act entry.answer (ends.is_left storing.attempt.inc (node_state before)) is_so) ∙ and_false (eqb storing.attempt.node node)
    no_doubt node before entry (next ∷ line) is_so = refl

    recorded_on : (turn : Turn) (line : List Turn) → at (noted_at_node ends storing turn) line ≡ stored_course ends storing (turn ∷ line)
    recorded_on (AtDoor place act) line = led-none step over stopped line
    recorded_on (AtOffice before entry) line = led-none step over stopped line
    recorded_on (AtNode node before entry) line =
        chosen (eqb storing.attempt.node node) (is_stored_in storing entry.act) (Some (IsNodeStored storing)) (doubted_by ends storing tells_no_memory (AtNode node before entry)) line
        (release_stored ends storing line) (ends_in_doubt ends storing tells_no_memory (AtNode node before entry ∷ line))
        (node_stored line) (doubted tells_no_memory (AtNode node before entry) line) (no_doubt node before entry line)
        ∙ ap (λ (b : Bool). b && (is_stored_in storing entry.act && release_stored ends storing line) || ends_in_doubt ends storing tells_no_memory (AtNode node before entry ∷ line)) (eqb_sym storing.attempt.node node)
        ∙ ap (λ (b : Bool). eqb node storing.attempt.node && b || ends_in_doubt ends storing tells_no_memory (AtNode node before entry ∷ line)) (sym (stored_parts ends storing entry.act line))

    pub recorded : (line : List Turn) → at (Some (IsRecorded storing)) line ≡ stored_course ends storing line
    recorded [] = refl
    recorded (turn ∷ line) = from (IsRecorded storing) (noted_at_node ends storing turn) turn line (is.recorded storing turn) ∙ recorded_on turn line

    -- ---- behind a put of the record that failed

    failed_on : (turn : Turn) (line : List Turn) → at (looked_by ends storing (behind_failure storing) turn) line ≡ settling_course ends storing (turn ∷ line)
    failed_on (AtDoor place (doors.Call node inc (calls.Get name) answer)) line =
        led-if step over stopped (gets_record storing node inc name) (behind_failure storing answer) line
        ∙ ap (λ (b : Bool). gets_record storing node inc name && b)
        (led-either step over stopped (finds_record storing.written.commit answer) (IsRecorded storing) (MustDoubt storing) line (stored_course ends storing line) (ends_in_doubt ends storing any_answer line) (recorded line) (doubting line))
    failed_on turn line = doubted tells_refused turn line

    pub has_failed : (line : List Turn) → at (Some (HasFailed storing)) line ≡ settling_course ends storing line
    has_failed [] = refl
    has_failed (turn ∷ line) = from (HasFailed storing) (looked_by ends storing (behind_failure storing) turn) turn line (is.failed storing turn) ∙ failed_on turn line

    -- ---- the puts

    put_record_on : (turn : Turn) (line : List Turn) → at (put_by ends storing (is_written_as storing.written) (IsRecorded storing) (HasFailed storing) turn) line ≡ record_put_course ends storing (turn ∷ line)
    put_record_on (AtDoor place (doors.Call node inc (calls.Put name bytes) answer)) line =
        led-if step over stopped (puts_own storing (is_written_as storing.written) node inc name bytes) (if is_acknowledged answer then IsRecorded storing else HasFailed storing) line
        ∙ ap (λ (b : Bool). puts_own storing (is_written_as storing.written) node inc name bytes && b)
        (led-either step over stopped (is_acknowledged answer) (IsRecorded storing) (HasFailed storing) line (stored_course ends storing line) (settling_course ends storing line) (recorded line) (has_failed line))
    put_record_on turn line = doubted tells_refused turn line

    put_on : (write : Write) (writes : List Write) → ((line : List Turn) → at (Some (IsStoring storing writes)) line ≡ puts_course ends storing writes line) → (turn : Turn) (line : List Turn)
        → at (put_by ends storing (is_version_of storing.written.commit write) (IsStoring storing writes) (MustDoubt storing) turn) line ≡ puts_course ends storing (write ∷ writes) (turn ∷ line)
    put_on write writes go_on (AtDoor place (doors.Call node inc (calls.Put name bytes) answer)) line =
        led-if step over stopped (puts_own storing (is_version_of storing.written.commit write) node inc name bytes) (if is_acknowledged answer then IsStoring storing writes else MustDoubt storing) line
        ∙ ap (λ (b : Bool). puts_own storing (is_version_of storing.written.commit write) node inc name bytes && b)
        (led-either step over stopped (is_acknowledged answer) (IsStoring storing writes) (MustDoubt storing) line (puts_course ends storing writes line) (ends_in_doubt ends storing any_answer line) (go_on line) (doubting line))
    put_on write writes go_on turn line = doubted tells_refused turn line

    pub puts : (writes : List Write) (line : List Turn) → at (Some (IsStoring storing writes)) line ≡ puts_course ends storing writes line
    puts [] [] = refl
    puts [] (turn ∷ line) = from (IsStoring storing []) (stored_by ends storing [] turn) turn line (is.storing storing [] turn) ∙ put_record_on turn line
    puts (write ∷ writes) [] = refl
    puts (write ∷ writes) (turn ∷ line) = from (IsStoring storing (write ∷ writes)) (stored_by ends storing (write ∷ writes) turn) turn line (is.storing storing (write ∷ writes) turn) ∙ put_on write writes (puts writes) turn line

    -- ---- settling

    -- where memory was wanting behind the get, nothing but the doubt follows
    refused_so : (line : List Turn) → IsTrue (ends_in_doubt ends storing tells_no_memory line) → IsTrue (ends_in_doubt ends storing tells_refused line)
    refused_so line is_so = ends_within ends storing.attempt.node storing.attempt.inc (doubts storing.attempt tells_no_memory) (doubts storing.attempt tells_refused) (doubts_within storing.attempt tells_no_memory tells_refused no_memory_refused) line is_so

    puts_or_doubt : (writes : List Write) (line : List Turn) → (puts_course ends storing writes line || ends_in_doubt ends storing tells_no_memory line) ≡ puts_course ends storing writes line
    puts_or_doubt [] (AtDoor place (doors.Call node inc (calls.Put name bytes) answer) ∷ line) = or_false _
    puts_or_doubt [] line = or_absorbed (ends_in_doubt ends storing tells_refused line) (ends_in_doubt ends storing tells_no_memory line) (refused_so line)
    puts_or_doubt (write ∷ writes) (AtDoor place (doors.Call node inc (calls.Put name bytes) answer) ∷ line) = or_false _
    puts_or_doubt (write ∷ writes) line = or_absorbed (ends_in_doubt ends storing tells_refused line) (ends_in_doubt ends storing tells_no_memory line) (refused_so line)

    shut_or_doubt : (shut : Bool) (turn : Turn) → at (or_at (if shut then closed_by ends storing.attempt (doubts storing.attempt tells_down) turn else None) (doubted_by ends storing tells_no_memory turn)) []
        ≡ (ends_in_doubt ends storing tells_down (turn ∷ []) && shut || ends_in_doubt ends storing tells_no_memory (turn ∷ []))
    shut_or_doubt true turn =
        led-or_last step over stopped ends storing.attempt (doubts storing.attempt tells_down) turn (doubted_by ends storing tells_no_memory turn)
        ∙ ap (λ (b : Bool). ends_in_doubt ends storing tells_down (turn ∷ []) || b) (doubted tells_no_memory turn [])
        ∙ ap (λ (b : Bool). b || ends_in_doubt ends storing tells_no_memory (turn ∷ [])) (sym (and_true (ends_in_doubt ends storing tells_down (turn ∷ []))))
    shut_or_doubt false turn = doubted tells_no_memory turn [] ∙ ap (λ (b : Bool). b || ends_in_doubt ends storing tells_no_memory (turn ∷ [])) (sym (and_false (ends_in_doubt ends storing tells_down (turn ∷ []))))

    no_more : (shut : Bool) (node : ℕ) (before : List NodeEntry) (entry : NodeEntry) (next : Turn) (line : List Turn)
        → at (or_at (if shut then closed_by ends storing.attempt (doubts storing.attempt tells_down) (AtNode node before entry) else None) (doubted_by ends storing tells_no_memory (AtNode node before entry))) (next ∷ line) ≡ false
    no_more true node before entry next line =
        led-or_more step over stopped ends storing.attempt (doubts storing.attempt tells_down) (AtNode node before entry) next line (doubted_by ends storing tells_no_memory (AtNode node before entry)) (doubted tells_no_memory (AtNode node before entry) (next ∷ line))
    no_more false node before entry next line = doubted tells_no_memory (AtNode node before entry) (next ∷ line)

    abbrev without : Turn → Option Progress
    without last = or_at (shut_out_by ends storing.attempt (doubts storing.attempt tells_down) last) (doubted_by ends storing tells_no_memory last)

    none_on : (turn : Turn) (line : List Turn) → at (freed_by storing.attempt storing.written.commit.id.uuid EndsAborted without turn) line ≡ (release_aborted ends storing (turn ∷ line) || ends_in_doubt ends storing tells_no_memory (turn ∷ line))
    none_on (AtDoor place (doors.Release released node inc)) line = freed storing.attempt storing.written.commit.id.uuid EndsAborted released node inc line ∙ sym (or_false _)
    none_on (AtDoor place act) line = led-none step over stopped line
    none_on (AtOffice before entry) line = led-none step over stopped line
    none_on (AtNode node before entry) [] = shut_or_doubt (ends_shut_out ends (caller_of storing.attempt) (AtNode node before entry ∷ [])) (AtNode node before entry)
    none_on (AtNode node before entry) (next ∷ line) = no_more (ends_shut_out ends (caller_of storing.attempt) (AtNode node before entry ∷ [])) node before entry next line

    pub none_found : (line : List Turn) → at (Some (FoundAborted storing)) line ≡ (release_aborted ends storing line || ends_in_doubt ends storing tells_no_memory line)
    none_found [] = refl
    none_found (turn ∷ line) = from (FoundAborted storing) (freed_by storing.attempt storing.written.commit.id.uuid EndsAborted without turn) turn line (is.none_found storing turn) ∙ none_on turn line

    -- behind the get that settles
    behind : (aborts : Bool) (answer : KeeperAnswer) (line : List Turn) → at (Some (behind_settling aborts storing answer)) line ≡ settled aborts ends storing answer line
    behind aborts answer line = cases aborts (finds_record storing.written.commit answer) (finds_nothing answer)
      where
        cases : (aborts found nothing : Bool) → at (Some (if found then IsRecorded storing else if not nothing then MustDoubt storing else if aborts then FoundAborted storing else IsStoring storing storing.writes)) line
            ≡ (if found then stored_course ends storing line else if nothing then on_absence aborts ends storing line || ends_in_doubt ends storing tells_no_memory line else ends_in_doubt ends storing any_answer line)
        cases aborts true nothing = recorded line
        cases aborts false false = doubting line
        cases true false true = none_found line
        cases false false true = puts storing.writes line ∙ sym (puts_or_doubt storing.writes line)

    settle_on : (aborts : Bool) (turn : Turn) (line : List Turn) → at (looked_by ends storing (behind_settling aborts storing) turn) line ≡ settle_course aborts ends storing (turn ∷ line)
    settle_on aborts (AtDoor place (doors.Call node inc (calls.Get name) answer)) line =
        led-if step over stopped (gets_record storing node inc name) (behind_settling aborts storing answer) line
        ∙ ap (λ (b : Bool). gets_record storing node inc name && b) (behind aborts answer line)
    settle_on aborts turn line = doubted tells_refused turn line

    pub settling : (aborts : Bool) (line : List Turn) → at (Some (Settling aborts storing)) line ≡ settle_course aborts ends storing line
    settling aborts [] = refl
    settling aborts (turn ∷ line) = from (Settling aborts storing) (looked_by ends storing (behind_settling aborts storing) turn) turn line (is.settling aborts storing turn) ∙ settle_on aborts turn line
