-- What the turns of a commit or an abort at its node make of it.
use Rattle.std.proofs.Common.{◌≡◌, ◌⊎◌, ℕ, Bool, true, false, ◌&&◌, ◌||◌, not, List, [], ◌∷◌, ◌++◌, refl, sym, ap, subst, ◌∙◌, inl, inr}
use Rattle.std.specs.Prelude.{IsFalse, IsTrue, None, Option, Some, if◌then◌else◌, is_some, max, ◌==◌}
use Rattle.std.specs.List.{list_all}
use Rattle.std.proofs.lemmas.Bool.{and_from, and_parts, eq-eqb, false≢true, or_cases, or_left, or_right, true≢false}
use Rattle.std.proofs.lemmas.List.Sums.{fold-append}
use Rattle.aft_records.specs.declared.stored.Commit.{Commit}
use Rattle.aft_records.specs.declared.stored.Record.{Record}
use Rattle.aft_records.specs.Commits.{same_commit}
use Rattle.aft_model.proofs.Ids.{same_id-refl}
use Rattle.aft_model.specs.declared.caller.Attempt.{Attempt}
use Rattle.aft_model.specs.declared.caller.By.{By}
use Rattle.aft_model.specs.declared.caller.Hold.{Hold}
use Rattle.aft_model.specs.declared.node.NodeAct.{NodeAct}
use Rattle.aft_model.specs.declared.node.NodeAct.TheVariants as acts
use Rattle.aft_model.specs.declared.node.NodeEntry.{NodeEntry}
use Rattle.aft_model.specs.declared.reply.Reply.{Reply}
use Rattle.aft_model.specs.declared.reply.Reply.TheVariants as replies
use Rattle.aft_model.specs.Attempts.{AttemptState, IsCommitting, IsLeaving, attempt_state, is_committing, same_attempt}
use Rattle.aft_model.specs.NodeRules.{is_end, is_storing}
use Rattle.aft_model.specs.NodeSights.{has_seen, is_fenced, is_stored_by, may_abort}
use Rattle.aft_model.specs.declared.door.DoorEntry.{DoorEntry}
use Rattle.aft_model.specs.NodeState.{NodeState, boots, node_state, part, serves}
use Rattle.aft_model.specs.Replies.{is_silent}
use Rattle.aft_lines.specs.Advance.{advance, advance_finish, advanced, closed_by, doubted_by, is_led_to_end, is_stored_in, left_alone, noted_at_node, or_at, shut_out_by, tells_outcome}
use Rattle.aft_lines.specs.CommitCourse.{Storing, doubts, takes_away}
use Rattle.aft_lines.specs.CourseWords.{Ends, answers_down, any_answer, caller_of, tells_down, tells_no_memory, tells_refused}
use Rattle.aft_lines.specs.LegalTrace.{is_held_attempt}
use Rattle.aft_lines.specs.LineCourse.{answers_last}
use Rattle.aft_lines.specs.LineView.{has_left}
use Rattle.aft_lines.specs.Progress.{FoundAborted, HasFailed, IsNodeStored, IsOver, IsRecorded, IsStoring, MustDoubt, MustEnd, MustLeave, NotBegun, Progress, Settling, Stopped}
use Rattle.aft_lines.specs.Turns.{AtNode, Turn, answer_in, end_front, front_in}
use Rattle.law_attempts.proofs.Standing.{same_itself}
use Rattle.aft_ledger.proofs.Acts.{keys-refl}
use Rattle.aft_ledger.specs.Turns.{is_doing}
use Rattle.aft_ledger.specs.View.{NodeView, after_entry, answered}
use Rattle.aft_node.specs.Committing.{StoresNow, doubted as doubted_view, is_end_reply}
use Rattle.aft_node.specs.Outcomes.{down_reply}
use Rattle.aft_commit.specs.Asks.{may_end_at, may_end_with}
use Rattle.aft_commit.specs.Made.{FitEnds, HasCome, HasEnded, LastSees, MayDoubt, command_of, ending_of, is_own, is_own_silent, led_at, made_at, storing_with}
use Rattle.aft_commit.specs.Told.{Closes, Closing, EndedLater, IsDoubted, IsDown, IsEnded, ToldEnd, closing_act, closing_reply}
use Rattle.aft_commit.specs.View.{told_of}
use Rattle.aft_commit.specs.declared.outcome.Outcome.{Outcome}
use Rattle.aft_commit.specs.declared.outcome.Outcome.TheVariants.{Absent, Left, Stored}
use Rattle.aft_commit.specs.declared.stage.Stage.{Stage}
use Rattle.aft_commit.specs.declared.stage.Stage.TheVariants.{Doubts, Ended, Ends as AtEnd, Recorded, Releases, ShutOut}
use Rattle.aft_commit.proofs.Coming.{come_on, node_sees}
use Rattle.aft_commit.proofs.Telling.{end_begun, end_sees, stored_still, stores_on}
use Rattle.aft_turns.specs.Steps.{StepsAtNode}
use Rattle.aft_turns.proofs.Closed.{closes_line}
use Rattle.aft_turns.specs.Trail.{Trail, behind}

-- the last of some turns alone answers
answers_behind : (clock : ℕ) (hold : Hold) (aborts : Bool) (turns : List Turn) (last : Turn) → IsTrue (list_all (is_own_silent clock hold aborts) turns) → IsTrue (is_some (answer_in last)) → IsTrue (answers_last (turns ++ last ∷ []))
answers_behind clock hold aborts [] last own answers = answers
answers_behind clock hold aborts (turn ∷ []) last own answers = and_from _ _ (silent (answer_in turn) (and_parts (is_own clock hold aborts turn) (is_silent (answer_in turn)) (and_parts (is_own_silent clock hold aborts turn) true own).0).1) answers
  where
    silent : (answer : Option Reply) → IsTrue (is_silent answer) → IsTrue (not (is_some answer))
    silent None is = refl
    silent (Some reply) is = absurd (false≢true is)
answers_behind clock hold aborts (turn ∷ next ∷ turns) last own answers = and_from _ _ (silent (answer_in turn) (and_parts (is_own clock hold aborts turn) (is_silent (answer_in turn)) (and_parts (is_own_silent clock hold aborts turn) (list_all (is_own_silent clock hold aborts) (next ∷ turns)) own).0).1)
    (answers_behind clock hold aborts (next ∷ turns) last (and_parts (is_own_silent clock hold aborts turn) (list_all (is_own_silent clock hold aborts) (next ∷ turns)) own).1 answers)
  where
    silent : (answer : Option Reply) → IsTrue (is_silent answer) → IsTrue (not (is_some answer))
    silent None is = refl
    silent (Some reply) is = absurd (false≢true is)

-- the front of the last turn
last_front : (turns : List Turn) (last : Turn) → end_front (turns ++ last ∷ []) ≡ front_in last
last_front turns last = fold-append (λ before turn. front_in turn) 0 turns (last ∷ [])

module _ (clock : ℕ) (by : By) (hold : Hold) (a : Attempt) where
  -- a line that ends with this turn
  pub end_with : (aborts : Bool) (position : Progress) (trail : Trail) (turn : Turn) → HasCome clock by hold aborts a position trail → IsTrue (is_own clock hold aborts turn) → IsTrue (is_some (answer_in turn)) → LastSees by (trail.turns ++ turn ∷ [])
      → ((nodes : List ℕ) (ends : Ends) → FitEnds trail.look (trail.turns ++ turn ∷ []) ends → IsTrue (is_led_to_end (advance (command_of aborts) nodes ends position turn)))
      → HasEnded clock by hold aborts (behind trail turn)
  end_with aborts position trail turn come own answers sees_so ends = record {
    since = trail.turns;
    last = turn;
    turns = refl;
    own = come.own;
    last_own = own;
    answers = answers_behind clock hold aborts trail.turns turn come.own answers;
    leads = λ nodes its fit.
        subst (λ (o : Option Progress). IsTrue (is_led_to_end o))
        (sym (fold-append (advanced (advance (command_of aborts) nodes its)) (Some NotBegun) trail.turns (turn ∷ []) ∙ ap (λ (o : Option Progress). advanced (advance (command_of aborts) nodes its) o turn) (come.leads nodes its)))
        (ends nodes its fit);
    sees = sees_so;
  }

  -- the line's node is that of its attempt
  its_node : {position : Progress} {aborts : Bool} (trail : Trail) → HasCome clock by hold aborts a position trail → (number : ℕ) → a.node ≡ number → IsTrue (hold.node == number)
  its_node trail come number place = eq-eqb hold.node number (sym come.place ∙ place)

  -- the attempt is the one that is held
  its_own : {position : Progress} {aborts : Bool} (trail : Trail) → HasCome clock by hold aborts a position trail → IsTrue (is_held_attempt hold.attempt a)
  its_own trail come = subst (λ (o : Option Attempt). IsTrue (is_held_attempt o a)) (sym come.held) (same_itself a)

-- ---- leaving an attempt in doubt

-- an end of a closing turn is an end
closed_some : (ends : Ends) (b : Attempt) (test : NodeAct → Option Reply → Bool) (at : ℕ) (before : List NodeEntry) (entry : NodeEntry) → IsTrue (is_some (closed_by ends b test (AtNode at before entry))) → IsTrue (is_led_to_end (closed_by ends b test (AtNode at before entry)))
closed_some ends b test at before entry = by_tests (b.node == at) (test entry.act entry.answer) (answers_down entry.act entry.answer && ends.is_left b.inc (node_state before))
  where
    by_tests : (here passed down : Bool) → IsTrue (is_some (if not here then None else if passed then Some IsOver else if down then Some (Stopped b) else None)) → IsTrue (is_led_to_end (if not here then None else if passed then Some IsOver else if down then Some (Stopped b) else None))
    by_tests false passed down is = is
    by_tests true true down is = refl
    by_tests true false true is = refl
    by_tests true false false is = is

module _ (ends : Ends) (a : Attempt) (at : ℕ) (before : List NodeEntry) (entry : NodeEntry) (here : a.node ≡ at) (look : List DoorEntry) (reply : Reply)
    (passes : (test : Option Reply → Bool) → IsTrue (test (Some reply)) → IsTrue (doubts a test entry.act entry.answer || answers_down entry.act entry.answer && ends.is_left a.inc (node_state before)))
    (shut : IsTrue (is_fenced (caller_of a) look) → IsTrue (ends.is_shut_out (caller_of a) entry.front))
    (not_stored : (s : Storing) → is_stored_in s entry.act ≡ false) where
  abbrev last : Turn
  last = AtNode at before entry

  doubted : (s : Storing) → s.attempt ≡ a → (test : Option Reply → Bool) → IsTrue (test (Some reply)) → IsTrue (is_led_to_end (doubted_by ends s test last))
  doubted s its test told = subst (λ (b : Attempt). IsTrue (is_led_to_end (closed_by ends b (doubts b test) last))) (sym its) (closes_line ends a (doubts a test) at before entry here (passes test told))

  shut_led : (s : Storing) → s.attempt ≡ a → IsTrue (is_fenced (caller_of a) look) → reply ≡ replies.NodeDown a.node a.inc → IsTrue (is_led_to_end (shut_out_by ends s.attempt (doubts s.attempt tells_down) last))
  shut_led s its fenced is =
      subst (λ (b : Attempt). IsTrue (is_led_to_end (if ends.is_shut_out (caller_of b) entry.front then closed_by ends b (doubts b tells_down) last else None))) (sym its)
      (subst (λ (t : Bool). IsTrue (is_led_to_end (if t then closed_by ends a (doubts a tells_down) last else None))) (sym (shut fenced))
      (closes_line ends a (doubts a tells_down) at before entry here (passes tells_down (subst (λ (r : Reply). IsTrue (tells_down (Some r))) (sym is) refl))))

  or_first : (x y : Option Progress) → IsTrue (is_led_to_end x) → IsTrue (is_led_to_end (or_at x y))
  or_first (Some p) y led = led
  or_first None y led = absurd (false≢true led)

  or_other : (x y : Option Progress) → (IsTrue (is_some x) → IsTrue (is_led_to_end x)) → IsTrue (is_led_to_end y) → IsTrue (is_led_to_end (or_at x y))
  or_other (Some p) y some led = some refl
  or_other None y some led = led

  shut_some : (b : Attempt) (t : Bool) → IsTrue (is_some (if t then closed_by ends b (doubts b tells_down) last else None)) → IsTrue (is_led_to_end (if t then closed_by ends b (doubts b tells_down) last else None))
  shut_some b true is = closed_some ends b (doubts b tells_down) at before entry is
  shut_some b false is = absurd (false≢true is)

  unstored : (t u : Bool) (x y : Option Progress) → u ≡ false → IsTrue (is_led_to_end y) → IsTrue (is_led_to_end (if t && u then x else y))
  unstored true true x y none led = absurd (true≢false none)
  unstored true false x y none led = led
  unstored false u x y none led = led

  pub doubt_led : (position : Progress) → MayDoubt a look reply position → IsTrue (is_led_to_end (advance_finish ends position last))
  doubt_led (Settling aborts s) (its, told) = doubted s its tells_refused told
  doubt_led (IsStoring s []) (its, told) = doubted s its tells_refused told
  doubt_led (IsStoring s (w ∷ writes)) (its, told) = doubted s its tells_refused told
  doubt_led (HasFailed s) (its, told) = doubted s its tells_refused told
  doubt_led (IsRecorded s) (its, told) = unstored (s.attempt.node == at) (is_stored_in s entry.act) (Some (IsNodeStored s)) (doubted_by ends s tells_no_memory last) (not_stored s) (doubted s its tells_no_memory told)
  doubt_led (IsNodeStored s) (its, is, fenced) = shut_led s its fenced is
  doubt_led (FoundAborted s) (its, inl (is, fenced)) = or_first (shut_out_by ends s.attempt (doubts s.attempt tells_down) last) (doubted_by ends s tells_no_memory last) (shut_led s its fenced is)
  doubt_led (FoundAborted s) (its, inr is) =
      or_other (shut_out_by ends s.attempt (doubts s.attempt tells_down) last) (doubted_by ends s tells_no_memory last) (shut_some s.attempt (ends.is_shut_out (caller_of s.attempt) entry.front))
      (doubted s its tells_no_memory (subst (λ (r : Reply). IsTrue (tells_no_memory (Some r))) (sym is) refl))
  doubt_led (MustDoubt s) its = doubted s its any_answer refl
  doubt_led position may = absurd may

  pub of_command : (aborts : Bool) (nodes : List ℕ) (position : Progress) → MayDoubt a look reply position → advance (command_of aborts) nodes ends position last ≡ advance_finish ends position last
  of_command true nodes (Settling aborts s) may = refl
  of_command false nodes (Settling aborts s) may = refl
  of_command true nodes (IsStoring s writes) may = refl
  of_command false nodes (IsStoring s writes) may = refl
  of_command true nodes (HasFailed s) may = refl
  of_command false nodes (HasFailed s) may = refl
  of_command true nodes (IsRecorded s) may = refl
  of_command false nodes (IsRecorded s) may = refl
  of_command true nodes (IsNodeStored s) may = refl
  of_command false nodes (IsNodeStored s) may = refl
  of_command true nodes (FoundAborted s) may = refl
  of_command false nodes (FoundAborted s) may = refl
  of_command true nodes (MustDoubt s) may = refl
  of_command false nodes (MustDoubt s) may = refl
  of_command aborts nodes position may = absurd may

-- ---- the closing turns

commit_itself : (c : Commit) → IsTrue (same_commit c c)
commit_itself c = and_from _ _ (same_id-refl c.id) (keys-refl c.keys)

-- the node has left an incarnation that it doesn't serve
left_not : (does : Bool) (inc : ℕ) (state : NodeState) → IsTrue (has_left inc state) → IsTrue (serves inc state && does) → ⊥
left_not does inc state left is = by_tests (serves inc state) (boots inc state) left is
  where
    by_tests : (serving booting : Bool) → IsTrue (not (serving || booting)) → IsTrue (serving && does) → ⊥
    by_tests true booting left is = false≢true left
    by_tests false booting left is = false≢true is

-- what an outcome answers is what its position tells
outcome_told : (outcome : Outcome) → IsTrue (tells_outcome (ending_of outcome) (Some (told_of outcome)))
outcome_told (Stored id) = refl
outcome_told Absent = refl
outcome_told (Left true) = refl
outcome_told (Left false) = refl

-- and what an end may answer
pub ends_answer : (outcome : Outcome) → IsTrue (is_end_reply (told_of outcome))
ends_answer (Stored id) = refl
ends_answer Absent = refl
ends_answer (Left true) = refl
ends_answer (Left false) = refl

-- an attempt that is to end so may
may_end : (uuid : List ℕ) (outcome : Outcome) (state : AttemptState) → IsTrue (may_end_with uuid outcome state) → IsTrue (is_end state (Some (told_of outcome)))
may_end uuid (Stored id) state is = is
may_end uuid Absent (IsCommitting c) is = refl
may_end uuid Absent state is = absurd (false≢true is)
may_end uuid (Left true) IsLeaving is = refl
may_end uuid (Left true) state is = absurd (false≢true is)
may_end uuid (Left false) IsLeaving is = refl
may_end uuid (Left false) state is = absurd (false≢true is)

module _ (clock handed : ℕ) (by : By) (hold : Hold) (a : Attempt) (old new : NodeView) (place : a.node ≡ old.number) where
  abbrev pub NodeStep : Bool → Stage → Stage → Type 0
  NodeStep aborts stage further = StepsAtNode by handed (made_at clock by hold aborts stage) (made_at clock by hold aborts further) old new

  abbrev entry_with : NodeAct → Option Reply → NodeEntry
  entry_with act answer = record { front = max old.front handed; by = by; act = act; answer = answer }

  abbrev turn_with : NodeAct → Option Reply → Turn
  turn_with act answer = AtNode old.number old.history (entry_with act answer)

  -- it was left
  abbrev down : Reply
  down = replies.NodeDown a.node a.inc

  left_it : new ≡ answered handed by (down_reply old a.inc) old → new ≡ after_entry handed by acts.Nothing (Some down) old
  left_it made = made ∙ ap (λ (n : ℕ). answered handed by (replies.NodeDown n a.inc) old) (sym place)

  own_nothing : (aborts : Bool) (reply : Reply) → IsTrue (hold.node == old.number) → IsTrue (is_own clock hold aborts (turn_with acts.Nothing (Some reply)))
  own_nothing true reply at = and_from _ _ (and_from _ _ at refl) refl
  own_nothing false reply at = and_from _ _ (and_from _ _ at refl) refl

  own_doubt : (aborts : Bool) (reply : Reply) → IsTrue (hold.node == old.number) → IsTrue (is_held_attempt hold.attempt a) → IsTrue (is_own clock hold aborts (turn_with (acts.Doubt a) (Some reply)))
  own_doubt true reply at held = and_from _ _ (and_from _ _ at held) refl
  own_doubt false reply at held = and_from _ _ (and_from _ _ at held) refl

  own_end : (aborts : Bool) (reply : Reply) → IsTrue (hold.node == old.number) → IsTrue (is_held_attempt hold.attempt a) → IsTrue (is_own clock hold aborts (turn_with (acts.End a) (Some reply)))
  own_end true reply at held = and_from _ _ (and_from _ _ at held) refl
  own_end false reply at held = and_from _ _ (and_from _ _ at held) refl

  own_stored : (aborts : Bool) (c : Commit) → IsTrue (hold.node == old.number) → IsTrue (is_held_attempt hold.attempt a) → IsTrue (is_own_silent clock hold aborts (turn_with (acts.Stored a c) None))
  own_stored true c at held = and_from _ _ (and_from _ _ (and_from _ _ at held) refl) refl
  own_stored false c at held = and_from _ _ (and_from _ _ (and_from _ _ at held) refl) refl

  -- the last turn has seen what its ends know to be shut out
  seen_shut : (look : List DoorEntry) (turns : List Turn) (act : NodeAct) (answer : Option Reply) (ends : Ends) → FitEnds look (turns ++ turn_with act answer ∷ []) ends → IsTrue (is_fenced (caller_of a) look) → IsTrue (ends.is_shut_out (caller_of a) (max old.front handed))
  seen_shut look turns act answer ends fit fenced = subst (λ (n : ℕ). IsTrue (ends.is_shut_out (caller_of a) n)) (last_front turns (turn_with act answer)) (fit.shut_out (caller_of a) fenced)

  -- a turn that asks nothing of the door
  asks_nothing : (made : List Turn) (act : NodeAct) (answer : Option Reply) → ((seen : List DoorEntry) → IsTrue (has_seen old.number seen by old.history act answer)) → LastSees by (made ++ turn_with act answer ∷ [])
  asks_nothing made act answer none = node_sees by made old.number old.history (entry_with act answer) (λ seen own. none seen)

  -- the last turn closes it
  closed_later : (aborts : Bool) (trail : Trail) (closing : Closing) → hold.attempt ≡ Some a → Closes by hold aborts a trail.look trail.turns old.history closing → EndedLater by hold aborts (behind trail (turn_with (closing_act a closing) (Some (closing_reply a closing))))
  closed_later aborts trail closing held closes = record {
    attempt = a;
    held = held;
    since = trail.turns;
    node = old.number;
    before = old.history;
    front = max old.front handed;
    closing = closing;
    turns = refl;
    closes = closes;
  }

  -- it is left in doubt
  doubts_so : (aborts : Bool) (reply : Reply) (trail : Trail) → led_at clock by hold aborts (Doubts a reply) trail → HasEnded clock by hold aborts (behind trail (turn_with (acts.Doubt a) (Some reply)))
  doubts_so aborts reply trail (position, may, come) =
      end_with clock by hold a aborts position trail (turn_with (acts.Doubt a) (Some reply)) come (own_doubt aborts reply (its_node clock by hold a trail come old.number place) (its_own clock by hold a trail come)) refl (asks_nothing trail.turns (acts.Doubt a) (Some reply) (λ seen. refl)) (λ nodes ends fit.
      let passes : (test : Option Reply → Bool) → IsTrue (test (Some reply)) → IsTrue (doubts a test (acts.Doubt a) (Some reply) || answers_down (acts.Doubt a) (Some reply) && ends.is_left a.inc (node_state old.history)) = λ test told. or_left _ _ (and_from _ _ (same_itself a) told) in
      let shut = seen_shut trail.look trail.turns (acts.Doubt a) (Some reply) ends fit in
      subst (λ (o : Option Progress). IsTrue (is_led_to_end o)) (sym (of_command ends a old.number old.history (entry_with (acts.Doubt a) (Some reply)) place trail.look reply passes shut (λ s. refl) aborts nodes position may))
      (doubt_led ends a old.number old.history (entry_with (acts.Doubt a) (Some reply)) place trail.look reply passes shut (λ s. refl) position may))

  -- or the node has left it
  doubts_down : (aborts : Bool) (reply : Reply) (trail : Trail) → IsTrue (has_left a.inc (node_state old.history)) → led_at clock by hold aborts (Doubts a reply) trail → HasEnded clock by hold aborts (behind trail (turn_with acts.Nothing (Some down)))
  doubts_down aborts reply trail left (position, may, come) =
      end_with clock by hold a aborts position trail (turn_with acts.Nothing (Some down)) come (own_nothing aborts down (its_node clock by hold a trail come old.number place)) refl (asks_nothing trail.turns acts.Nothing (Some down) (λ seen. refl)) (λ nodes ends fit.
      let passes : (test : Option Reply → Bool) → IsTrue (test (Some reply)) → IsTrue (doubts a test acts.Nothing (Some down) || answers_down acts.Nothing (Some down) && ends.is_left a.inc (node_state old.history)) = λ test told. or_right (doubts a test acts.Nothing (Some down)) (answers_down acts.Nothing (Some down) && ends.is_left a.inc (node_state old.history)) (and_from (answers_down acts.Nothing (Some down)) (ends.is_left a.inc (node_state old.history)) refl (fit.left a.inc old.history left)) in
      let shut = seen_shut trail.look trail.turns acts.Nothing (Some down) ends fit in
      subst (λ (o : Option Progress). IsTrue (is_led_to_end o)) (sym (of_command ends a old.number old.history (entry_with acts.Nothing (Some down)) place trail.look reply passes shut (λ s. refl) aborts nodes position may))
      (doubt_led ends a old.number old.history (entry_with acts.Nothing (Some down)) place trail.look reply passes shut (λ s. refl) position may))

  pub doubt_step : (aborts : Bool) (reply : Reply) → new ≡ (if is_doing is_committing a old.history then doubted_view handed by a reply old else answered handed by (down_reply old a.inc) old) → may_end_at (Doubts a reply) old.history → NodeStep aborts (Doubts a reply) Ended
  doubt_step aborts reply made may = by_test (is_doing is_committing a old.history) refl made (or_cases (has_left a.inc (node_state old.history)) (is_doing is_committing a old.history) may)
    where
      by_test : (does : Bool) → is_doing is_committing a old.history ≡ does → new ≡ (if does then doubted_view handed by a reply old else answered handed by (down_reply old a.inc) old) → IsTrue (has_left a.inc (node_state old.history)) ⊎ IsTrue (is_doing is_committing a old.history) → NodeStep aborts (Doubts a reply) Ended
      by_test true does made may = (acts.Doubt a, Some reply, made, λ trail stood. (doubts_so aborts reply trail stood.0, inr (closed_later aborts trail (IsDoubted reply) stood.0.2.held stood.1)))
      by_test false does made (inl left) = (acts.Nothing, Some down, left_it made, λ trail stood. (doubts_down aborts reply trail left stood.0, inr (closed_later aborts trail IsDown stood.0.2.held (stood.1.1.begun, inl left))))
      by_test false does made (inr is) = absurd (false≢true (sym does ∙ is))

  -- a turn that ends it behind the release
  ends_so : (aborts : Bool) (outcome : Outcome) (act : NodeAct) (reply : Reply) (trail : Trail) → HasCome clock by hold aborts a (MustEnd a (ending_of outcome)) trail → IsTrue (is_own clock hold aborts (turn_with act (Some reply))) → LastSees by (trail.turns ++ turn_with act (Some reply) ∷ [])
      → ((ends : Ends) → ((inc : ℕ) (before : List NodeEntry) → IsTrue (has_left inc (node_state before)) → IsTrue (ends.is_left inc (node_state before))) → IsTrue (takes_away a (tells_outcome (ending_of outcome)) act (Some reply) || answers_down act (Some reply) && ends.is_left a.inc (node_state old.history)))
      → HasEnded clock by hold aborts (behind trail (turn_with act (Some reply)))
  ends_so aborts outcome act reply trail come own sees_so closes =
      end_with clock by hold a aborts (MustEnd a (ending_of outcome)) trail (turn_with act (Some reply)) come own refl sees_so (λ nodes ends fit.
      led aborts nodes ends (closes_line ends a (takes_away a (tells_outcome (ending_of outcome))) old.number old.history (entry_with act (Some reply)) place (closes ends fit.left)))
    where
      led : (t : Bool) (nodes : List ℕ) (ends : Ends) → IsTrue (is_led_to_end (closed_by ends a (takes_away a (tells_outcome (ending_of outcome))) (turn_with act (Some reply)))) → IsTrue (is_led_to_end (advance (command_of t) nodes ends (MustEnd a (ending_of outcome)) (turn_with act (Some reply))))
      led true nodes ends is = is
      led false nodes ends is = is

  pub end_step : (aborts : Bool) (uuid : List ℕ) (outcome : Outcome) → new ≡ (if is_doing (λ state. is_end state (Some (told_of outcome))) a old.history then after_entry handed by (acts.End a) (Some (told_of outcome)) old else answered handed by (down_reply old a.inc) old) → may_end_at (AtEnd a uuid outcome) old.history → NodeStep aborts (AtEnd a uuid outcome) Ended
  end_step aborts uuid outcome made may = by_test (is_doing (λ state. is_end state (Some (told_of outcome))) a old.history) refl made (or_cases (has_left a.inc (node_state old.history)) (is_doing (may_end_with uuid outcome) a old.history) may)
    where
      ended : (trail : Trail) → HasCome clock by hold aborts a (MustEnd a (ending_of outcome)) trail → LastSees by (trail.turns ++ turn_with (acts.End a) (Some (told_of outcome)) ∷ []) → HasEnded clock by hold aborts (behind trail (turn_with (acts.End a) (Some (told_of outcome))))
      ended trail come sees_so = ends_so aborts outcome (acts.End a) (told_of outcome) trail come (own_end aborts (told_of outcome) (its_node clock by hold a trail come old.number place) (its_own clock by hold a trail come)) sees_so (λ ends left_so. or_left (same_attempt a a && tells_outcome (ending_of outcome) (Some (told_of outcome))) false (and_from (same_attempt a a) (tells_outcome (ending_of outcome) (Some (told_of outcome))) (same_itself a) (outcome_told outcome)))

      went_down : IsTrue (has_left a.inc (node_state old.history)) → (trail : Trail) → HasCome clock by hold aborts a (MustEnd a (ending_of outcome)) trail → HasEnded clock by hold aborts (behind trail (turn_with acts.Nothing (Some down)))
      went_down left trail come = ends_so aborts outcome acts.Nothing down trail come (own_nothing aborts down (its_node clock by hold a trail come old.number place)) (asks_nothing trail.turns acts.Nothing (Some down) (λ seen. refl)) (λ ends left_so. or_right (takes_away a (tells_outcome (ending_of outcome)) acts.Nothing (Some down)) (answers_down acts.Nothing (Some down) && ends.is_left a.inc (node_state old.history)) (and_from (answers_down acts.Nothing (Some down)) (ends.is_left a.inc (node_state old.history)) refl (left_so a.inc old.history left)))

      -- an end that aborts a fixed commit has seen that its record isn't there
      aborts_seen : (made : List Turn) → ToldEnd by hold aborts uuid outcome made → IsTrue (may_end_with uuid outcome (attempt_state a (part old.history))) → LastSees by (made ++ turn_with (acts.End a) (Some (told_of outcome)) ∷ [])
      aborts_seen made told does =
          node_sees by made old.number old.history (entry_with (acts.End a) (Some (told_of outcome))) (λ seen own.
          subst (λ (es : List DoorEntry). IsTrue (may_abort es (attempt_state a (part old.history)) (Some (told_of outcome)))) (sym own) (end_sees by hold aborts uuid outcome made (attempt_state a (part old.history)) told does))

      by_test : (does : Bool) → is_doing (λ state. is_end state (Some (told_of outcome))) a old.history ≡ does → new ≡ (if does then after_entry handed by (acts.End a) (Some (told_of outcome)) old else answered handed by (down_reply old a.inc) old) → IsTrue (has_left a.inc (node_state old.history)) ⊎ IsTrue (is_doing (may_end_with uuid outcome) a old.history) → NodeStep aborts (AtEnd a uuid outcome) Ended
      by_test true does made (inl left) = absurd (left_not (is_end (attempt_state a (part old.history)) (Some (told_of outcome))) a.inc (node_state old.history) left does)
      by_test true does made (inr is) =
          let parts = and_parts (serves a.inc (node_state old.history)) (may_end_with uuid outcome (attempt_state a (part old.history))) is in
          (acts.End a, Some (told_of outcome), made, λ trail stood. (ended trail stood.0 (aborts_seen trail.turns stood.1 parts.1), inr (closed_later aborts trail (IsEnded uuid outcome) stood.0.held (stood.1, parts.1))))
      by_test false does made (inl left) =
          (acts.Nothing, Some down, left_it made, λ trail stood. (went_down left trail stood.0, inr (closed_later aborts trail IsDown stood.0.held (end_begun by hold aborts uuid outcome trail.turns stood.1, inl left))))
      by_test false does made (inr is) =
          let parts = and_parts (serves a.inc (node_state old.history)) (may_end_with uuid outcome (attempt_state a (part old.history))) is in
          absurd (false≢true (sym does ∙ and_from (serves a.inc (node_state old.history)) (is_end (attempt_state a (part old.history)) (Some (told_of outcome))) parts.0 (may_end uuid outcome (attempt_state a (part old.history)) parts.1)))

  -- an attempt that leaves, whose incarnation was shut out
  pub shut_step : (aborts : Bool) → new ≡ answered handed by down old → NodeStep aborts (ShutOut a) Ended
  shut_step aborts made = (
    acts.Nothing,
    Some down,
    made,
    λ trail stood. (
      end_with clock by hold a aborts (MustLeave stood.0.0 a stood.0.1) trail (turn_with acts.Nothing (Some down)) stood.0.2 (own_nothing aborts down (its_node clock by hold a trail stood.0.2 old.number place)) refl (asks_nothing trail.turns acts.Nothing (Some down) (λ seen. refl)) (λ nodes ends fit. led aborts nodes ends stood.0.0 stood.0.1 (seen_shut trail.look trail.turns acts.Nothing (Some down) ends fit stood.0.3)),
      inr (closed_later aborts trail IsDown stood.0.2.held (stood.1, inr stood.0.3)),
    ),
  )
    where
      alone : (ends : Ends) → IsTrue (ends.is_shut_out (caller_of a) (max old.front handed)) → IsTrue (is_led_to_end (left_alone ends a (turn_with acts.Nothing (Some down))))
      alone ends shut =
          subst (λ (t : Bool). IsTrue (is_led_to_end (if t then Some (Stopped a) else None))) (sym (and_from (a.node == old.number && true) (ends.is_shut_out (caller_of a) (max old.front handed)) (and_from (a.node == old.number) true (eq-eqb a.node old.number place) refl) shut)) refl

      led : (t : Bool) (nodes : List ℕ) (ends : Ends) (leaves : Bool) (uuid : List ℕ) → IsTrue (ends.is_shut_out (caller_of a) (max old.front handed)) → IsTrue (is_led_to_end (advance (command_of t) nodes ends (MustLeave leaves a uuid) (turn_with acts.Nothing (Some down))))
      led true nodes ends leaves uuid shut = alone ends shut
      led false nodes ends leaves uuid shut = alone ends shut

  -- ---- the storing

  abbrev pub noted_stage : Record → Bool → Stage
  noted_stage r true = Releases a r.commit.id.uuid (Stored r.commit.id)
  noted_stage r false = Ended

  -- what stands behind a record that is there may be left in doubt for want of memory
  as_doubt : (aborts : Bool) (r : Record) (trail : Trail) → led_at clock by hold aborts (Recorded a r) trail → led_at clock by hold aborts (Doubts a replies.NoMemory) trail
  as_doubt aborts r trail (writes, come) = (IsRecorded (storing_with a r writes), (refl, refl), come)

  noted : (aborts : Bool) (r : Record) (trail : Trail) → made_at clock by hold aborts (Recorded a r) trail → made_at clock by hold aborts (Releases a r.commit.id.uuid (Stored r.commit.id)) (behind trail (turn_with (acts.Stored a r.commit) None))
  noted aborts r trail ((writes, come), (stores, stored)) = (
    (
      IsNodeStored (storing_with a r writes),
      (r, writes, refl, refl, refl),
      come_on clock by hold a aborts (IsRecorded (storing_with a r writes)) (IsNodeStored (storing_with a r writes)) trail (turn_with (acts.Stored a r.commit) None) come (own_stored aborts r.commit (its_node clock by hold a trail come old.number place) (its_own clock by hold a trail come)) seen_stored (λ nodes ends. (it ends, it ends)),
    ),
    (r.commit, refl, stores_on by hold aborts r.commit trail.turns (turn_with (acts.Stored a r.commit) None) stores, stored_still r.commit trail.turns old.number old.history (entry_with (acts.Stored a r.commit) None) stored),
  )
    where
      seen_stored : LastSees by (trail.turns ++ turn_with (acts.Stored a r.commit) None ∷ [])
      seen_stored = node_sees by trail.turns old.number old.history (entry_with (acts.Stored a r.commit) None) (λ seen own. subst (λ (es : List DoorEntry). IsTrue (is_stored_by r.commit es)) (sym own) (stored by))

      it : (ends : Ends) → noted_at_node ends (storing_with a r writes) (turn_with (acts.Stored a r.commit) None) ≡ Some (IsNodeStored (storing_with a r writes))
      it ends =
          ap (λ (t : Bool). if t then Some (IsNodeStored (storing_with a r writes)) else doubted_by ends (storing_with a r writes) tells_no_memory (turn_with (acts.Stored a r.commit) None))
          (and_from (a.node == old.number) (same_attempt a a && same_commit r.commit r.commit) (eq-eqb a.node old.number place) (and_from _ _ (same_itself a) (commit_itself r.commit)))

  pub note_step : (aborts : Bool) (r : Record) (result : Bool)
      → (IsTrue (is_doing is_committing a old.history) → StoresNow handed by a r.commit (is_doing (is_storing r.commit) a old.history) old new result)
      → (IsFalse (is_doing is_committing a old.history) → (new ≡ answered handed by (down_reply old a.inc) old) × (result ≡ false))
      → may_end_at (Recorded a r) old.history → NodeStep aborts (Recorded a r) (noted_stage r result)
  note_step aborts r result commits over may = by_may (or_cases (has_left a.inc (node_state old.history)) (is_doing (is_storing r.commit) a old.history) may)
    where
      went_down : IsTrue (has_left a.inc (node_state old.history)) → new ≡ answered handed by (down_reply old a.inc) old → NodeStep aborts (Recorded a r) Ended
      went_down left made = (acts.Nothing, Some down, left_it made, λ trail stood. (doubts_down aborts replies.NoMemory trail left (as_doubt aborts r trail stood.0), inr (closed_later aborts trail IsDown stood.0.1.held (stood.1.0.begun, inl left))))

      not_committing : (t : Bool) → is_doing is_committing a old.history ≡ t → IsTrue (has_left a.inc (node_state old.history)) → IsFalse (is_doing is_committing a old.history)
      not_committing false is left = is
      not_committing true is left = absurd (left_not (is_committing (attempt_state a (part old.history))) a.inc (node_state old.history) left is)

      storing : IsTrue (is_doing (is_storing r.commit) a old.history) → IsTrue (is_doing is_committing a old.history)
      storing is =
          let parts = and_parts (serves a.inc (node_state old.history)) (is_storing r.commit (attempt_state a (part old.history))) is in
          and_from _ _ parts.0 (commits_so (attempt_state a (part old.history)) parts.1)
        where
          commits_so : (state : AttemptState) → IsTrue (is_storing r.commit state) → IsTrue (is_committing state)
          commits_so (IsCommitting c) is = refl
          commits_so state is = absurd (false≢true is)

      by_stores : (t : Bool) → StoresNow handed by a r.commit true old new t → NodeStep aborts (Recorded a r) (noted_stage r t)
      by_stores t (inl (made, is)) = subst (λ (b : Bool). NodeStep aborts (Recorded a r) (noted_stage r b)) (sym is) (acts.Stored a r.commit, None, made, λ trail stood. noted aborts r trail stood)
      by_stores t (inr (made, is)) =
          subst (λ (b : Bool). NodeStep aborts (Recorded a r) (noted_stage r b)) (sym is) (acts.Doubt a, Some replies.NoMemory, made, λ trail stood. (doubts_so aborts replies.NoMemory trail (as_doubt aborts r trail stood.0), inr (closed_later aborts trail (IsDoubted replies.NoMemory) stood.0.1.held (r.commit, stood.1.0, tt))))

      by_may : IsTrue (has_left a.inc (node_state old.history)) ⊎ IsTrue (is_doing (is_storing r.commit) a old.history) → NodeStep aborts (Recorded a r) (noted_stage r result)
      by_may (inl left) =
          let over_so = over (not_committing (is_doing is_committing a old.history) refl left) in
          subst (λ (b : Bool). NodeStep aborts (Recorded a r) (noted_stage r b)) (sym over_so.1) (went_down left over_so.0)
      by_may (inr is) = by_stores result (subst (λ (t : Bool). StoresNow handed by a r.commit t old new result) is (commits (storing is)))
