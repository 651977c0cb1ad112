-- What a later turn at a node makes of its line's attempt.
use Rattle.std.proofs.Common.{◌≡◌, ℕ, Bool, true, false, ◌&&◌, ◌||◌, eqb, not, List, [], ◌∷◌, refl, sym, ap, subst}
use Rattle.std.specs.Prelude.{IsTrue, IsFalse, Option, Some, None, if◌then◌else◌}
use Rattle.std.specs.List.{list_all, list_any}
use Rattle.std.specs.Str.{bytes_eq}
use Rattle.std.proofs.lemmas.Bool.{and_from, and_parts, false≢true, or_left, or_right}
use Rattle.aft_records.specs.declared.stored.Commit.{Commit}
use Rattle.aft_records.specs.Commits.{same_commit}
use Rattle.aft_model.specs.declared.caller.Attempt.{Attempt}
use Rattle.aft_model.specs.declared.node.NodeAct.{NodeAct}
use Rattle.aft_model.specs.declared.node.NodeAct.TheVariants as acts
use Rattle.aft_model.specs.declared.node.NodeEntry.{NodeEntry}
use Rattle.aft_model.specs.declared.reply.Reply.{Reply}
use Rattle.aft_model.specs.declared.script.Command.{Command}
use Rattle.aft_model.specs.declared.script.Command.TheVariants as commands
use Rattle.aft_model.specs.Attempts.{AttemptState, IsCommitting, IsGone, IsRunning, Write, attempt_after, doubted, is_opening, same_attempt, uuid_after}
use Rattle.aft_model.specs.NodeRules.{is_storing}
use Rattle.aft_model.specs.NodeState.{node_state}
use Rattle.aft_model.specs.Stages.{HasPut, IsClear, Stage, is_clear}
use Rattle.aft_model.proofs.Ids.{same_commits}
use Rattle.aft_model.proofs.Pins.{same_attempts}
use Rattle.aft_lines.specs.Advance.{advance, advance_claim, advance_finish, allows, behind_unused, closed_by, doubted_by, is_stored_in, noted_at_node, or_at, released_by, shut_out_by, stored_by, tells_outcome}
use Rattle.aft_lines.specs.BeginCourse.{Beginning, begins_running, gives_back}
use Rattle.aft_lines.specs.CommitCourse.{Storing, doubts, takes_away}
use Rattle.aft_lines.specs.CourseWords.{Ends, answers_down, any_answer, caller_of, ends_shut_out, tells_down, tells_no_memory, tells_refused, tells_unclaimed}
use Rattle.aft_lines.specs.Progress.{Admitted, AnyReason, FoundAborted, FoundNoRecord, FoundShort, FoundUnused, HasClaim, HasFailed, HasForgotten, HasReleased, IsNodeStored, IsOver, IsRecorded, IsStoring, MustDoubt, MustEnd, MustLeave, MustRelease, NoRoom, NotBegun, Progress, Reason, Refusal, Settling, Stopped}
use Rattle.aft_lines.specs.Turns.{AtNode, Turn}
use Rattle.law_holders.specs.Rows.{are_put_but, are_row_puts, has_put, has_writes, is_idle, is_of_attempt, is_row, may_have_put}
use Rattle.law_claims.specs.Doing.{are_rest_puts, is_doing, is_left_so, keeps_row, moves, rests}

-- both ways of a choice
pub either_way : {A : Type 0} (P : A → Type 0) (b : Bool) (x y : A) → (IsTrue b → P x) → (IsFalse b → P y) → P (if b then x else y)
either_way P true x y so other = so refl
either_way P false x y so other = other refl

-- ---- what an end makes of an attempt

module _ (a b : Attempt) (same : IsTrue (same_attempt a b)) (state : AttemptState) where
  the_same : (x : Attempt) → IsTrue (same_attempt b x) → IsTrue (same_attempt a x)
  the_same x is = subst (λ (y : Attempt). IsTrue (same_attempt y x)) (sym (same_attempts a b same)) is

  given_back : (tell : Option Reply → Bool) (act : NodeAct) (answer : Option Reply) → IsTrue (gives_back b tell act answer) → attempt_after a state act ≡ IsGone
  given_back tell (acts.Unadmit x) answer is = ap (λ (t : Bool). if t then IsGone else state) (the_same x (and_parts (same_attempt b x) (tell answer) is).0)
  given_back tell act answer is = absurd (false≢true is)

  taken_away : (tell : Option Reply → Bool) (act : NodeAct) (answer : Option Reply) → IsTrue (takes_away b tell act answer) → attempt_after a state act ≡ IsGone
  taken_away tell (acts.End x) answer is = ap (λ (t : Bool). if t then IsGone else state) (the_same x (and_parts (same_attempt b x) (tell answer) is).0)
  taken_away tell act answer is = absurd (false≢true is)

  now_runs : (act : NodeAct) (answer : Option Reply) → IsTrue (begins_running b act answer) → attempt_after a state act ≡ IsRunning
  now_runs (acts.Begin x) answer is = ap (λ (t : Bool). if t then IsRunning else state) (the_same x is)
  now_runs act answer is = absurd (false≢true is)

  now_doubts : (tell : Option Reply → Bool) (act : NodeAct) (answer : Option Reply) → IsTrue (doubts b tell act answer) → attempt_after a state act ≡ doubted state
  now_doubts tell (acts.Doubt x) answer is = ap (λ (t : Bool). if t then doubted state else state) (the_same x (and_parts (same_attempt b x) (tell answer) is).0)
  now_doubts tell act answer is = absurd (false≢true is)

-- the storing of a commit changes nothing of an attempt
stored_stays : (storing : Storing) (a : Attempt) (state : AttemptState) (uuid : List ℕ) (act : NodeAct) → IsTrue (is_stored_in storing act) → (attempt_after a state act ≡ state) × (uuid_after a uuid act ≡ uuid)
stored_stays storing a state uuid (acts.Stored b c) is = (refl, refl)
stored_stays storing a state uuid act is = absurd (false≢true is)

-- ---- rows of what may have been put

put_may : (c : Commit) (stage : Stage) → IsTrue (has_put c stage) → IsTrue (may_have_put c stage)
put_may c (HasPut d) so = so
put_may c stage so = absurd (false≢true so)

clear_may : (c : Commit) (test : List (List ℕ) → Bool) (stage : Stage) → IsTrue (is_clear test stage) → IsTrue (may_have_put c stage)
clear_may c test (IsClear names) so = refl
clear_may c test stage so = absurd (false≢true so)

-- the row of an attempt that is left in doubt
doubted_rests : (c : Commit) (state : AttemptState) (stage : Stage) (puts : List Commit) → IsTrue (is_storing c state) → IsTrue (may_have_put c stage) → IsTrue (list_all (λ d. list_any (λ e. same_commit e d) (c ∷ [])) puts) → IsTrue (rests (doubted state) stage puts)
doubted_rests c (IsCommitting fixed) stage puts is may so =
    subst (λ (e : Commit). IsTrue (may_have_put e stage && list_all (λ d. list_any (λ f. same_commit f d) (e ∷ [])) puts)) (same_commits c fixed is) (and_from _ _ may so)
doubted_rests c state stage puts is may so = absurd (false≢true is)

-- ---- each position

module _ (ends : Ends) (node : ℕ) (before : List NodeEntry) (entry : NodeEntry) (a : Attempt) (state : AttemptState) (uuid : List ℕ) (stage : Stage) (puts : List Commit) where
  abbrev after : AttemptState
  after = attempt_after a state entry.act

  abbrev turn : Turn
  turn = AtNode node before entry

  -- the next position, if there is one, leaves the attempt so
  abbrev Left : Option Progress → Type 0
  Left None = Unit {0}
  Left (Some next) = IsTrue (ends.is_shut_out (caller_of a) entry.front || is_left_so next a after (uuid_after a uuid entry.act) stage puts)

  left_or : (one other : Option Progress) → Left one → Left other → Left (or_at one other)
  left_or None other first second = second
  left_or (Some next) other first second = first

  -- whoever was shut out is left anyhow
  left_shut : IsTrue (ends.is_shut_out (caller_of a) entry.front) → (next : Option Progress) → Left next
  left_shut shut None = tt
  left_shut shut (Some next) = or_left _ _ shut

  module _ (b : Attempt) (same : IsTrue (same_attempt a b)) where
    closed : (test : NodeAct → Option Reply → Bool) → (IsTrue (test entry.act entry.answer) → IsTrue (rests after stage puts)) → Left (closed_by ends b test turn)
    closed test so =
        either_way Left (not (eqb b.node node)) None _ (λ other. tt) (λ here.
        either_way Left (test entry.act entry.answer) (Some IsOver) _ (λ is. or_right _ _ (so is)) (λ unlike.
        either_way Left (answers_down entry.act entry.answer && ends.is_left b.inc (node_state before)) (Some (Stopped b)) None (λ down. or_right _ _ same) (λ not_down. tt)))

    shut : (test : NodeAct → Option Reply → Bool) → Left (shut_out_by ends b test turn)
    shut test =
        either_way Left (ends_shut_out ends (caller_of b) (turn ∷ [])) (closed_by ends b test turn) None
        (λ is. left_shut (subst (λ (x : Attempt). IsTrue (ends.is_shut_out (caller_of x) entry.front)) (sym (same_attempts a b same)) is) (closed_by ends b test turn)) (λ unlike. tt)

    gone : IsTrue (is_idle stage && are_rest_puts IsGone puts) → after ≡ IsGone → IsTrue (rests after stage puts)
    gone row is = subst (λ (s : AttemptState). IsTrue (rests s stage puts)) (sym is) row

  -- ---- begins and forgets

  module _ (begun : Beginning) (same : IsTrue (same_attempt a begun.attempt)) where
    released : (reason : Reason) → Left (released_by ends begun reason turn)
    released reason = shut begun.attempt same (gives_back begun.attempt tells_down)

    returned : (tell : Option Reply → Bool) → IsTrue (is_idle stage && are_rest_puts IsGone puts) → Left (closed_by ends begun.attempt (gives_back begun.attempt tell) turn)
    returned tell row = closed begun.attempt same (gives_back begun.attempt tell) (λ is. gone begun.attempt same row (given_back a begun.attempt same state tell entry.act entry.answer is))

    unused : (forgets : Bool) → IsTrue (is_clear (λ names. true) stage && are_rest_puts IsRunning puts) → Left (behind_unused ends forgets begun turn)
    unused false row =
        left_or (closed_by ends begun.attempt (begins_running begun.attempt) turn) (released_by ends begun NoRoom turn)
        (closed begun.attempt same (begins_running begun.attempt) (λ is. subst (λ (s : AttemptState). IsTrue (rests s stage puts)) (sym (now_runs a begun.attempt same state entry.act entry.answer is)) row)) (released NoRoom)
    unused true row = released AnyReason

  the_attempt : (begun : Beginning) → IsTrue (same_attempt a begun.attempt && is_opening state && bytes_eq begun.uuid uuid) → IsTrue (same_attempt a begun.attempt)
  the_attempt begun so = (and_parts (same_attempt a begun.attempt) (is_opening state) (and_parts (same_attempt a begun.attempt && is_opening state) (bytes_eq begun.uuid uuid) so).0).0

  claim_left : (forgets : Bool) (position : Progress) → IsTrue (moves position a state uuid) → IsTrue (keeps_row position stage puts) → Left (advance_claim ends forgets position turn)
  claim_left forgets (Admitted begun) so row = returned begun (the_attempt begun so) tells_unclaimed row
  claim_left forgets (HasClaim begun) so row = released begun (the_attempt begun so) Refusal
  claim_left forgets (FoundNoRecord begun) so row = released begun (the_attempt begun so) Refusal
  claim_left forgets (FoundUnused begun) so row = unused begun (the_attempt begun so) forgets row
  claim_left forgets (FoundShort begun) so row = released begun (the_attempt begun so) Refusal
  claim_left forgets (HasForgotten begun) so row = released begun (the_attempt begun so) AnyReason
  claim_left forgets (MustRelease begun) so row = released begun (the_attempt begun so) AnyReason
  claim_left forgets (HasReleased begun reason) so row = returned begun (the_attempt begun so) (allows reason) row
  claim_left forgets position so row = tt

  -- ---- commits and aborts

  module _ (storing : Storing) (so : IsTrue (same_attempt a storing.attempt && is_storing storing.written.commit state && bytes_eq storing.written.commit.id.uuid uuid)) where
    abbrev PutsIts : Type 0
    PutsIts = IsTrue (list_all (λ d. list_any (λ e. same_commit e d) (storing.written.commit ∷ [])) puts)

    its : IsTrue (same_attempt a storing.attempt) × IsTrue (is_storing storing.written.commit state)
    its = and_parts (same_attempt a storing.attempt) (is_storing storing.written.commit state) (and_parts (same_attempt a storing.attempt && is_storing storing.written.commit state) (bytes_eq storing.written.commit.id.uuid uuid) so).0

    doubted_left : (tell : Option Reply → Bool) → IsTrue (may_have_put storing.written.commit stage) → PutsIts → Left (doubted_by ends storing tell turn)
    doubted_left tell may put =
        closed storing.attempt its.0 (doubts storing.attempt tell)
        (λ is. subst (λ (s : AttemptState). IsTrue (rests s stage puts)) (sym (now_doubts a storing.attempt its.0 state tell entry.act entry.answer is)) (doubted_rests storing.written.commit state stage puts its.1 may put))

    store_left : (left : List Write) → IsTrue (may_have_put storing.written.commit stage) → PutsIts → Left (stored_by ends storing left turn)
    store_left [] may put = doubted_left tells_refused may put
    store_left (write ∷ left) may put = doubted_left tells_refused may put

    noted_left : IsTrue (may_have_put storing.written.commit stage) → PutsIts → Left (noted_at_node ends storing turn)
    noted_left may put =
        either_way Left (eqb storing.attempt.node node && is_stored_in storing entry.act) (Some (IsNodeStored storing)) (doubted_by ends storing tells_no_memory turn)
        (λ is. or_right _ _ (and_from _ _ (stays (and_parts (eqb storing.attempt.node node) (is_stored_in storing entry.act) is).1) (and_from _ _ may put))) (λ unlike. doubted_left tells_no_memory may put)
      where
        stays : IsTrue (is_stored_in storing entry.act) → IsTrue (moves (IsNodeStored storing) a after (uuid_after a uuid entry.act))
        stays is =
            let same = stored_stays storing a state uuid entry.act is in
            subst (λ (u : List ℕ). IsTrue (moves (IsNodeStored storing) a after u)) (sym same.1) (subst (λ (s : AttemptState). IsTrue (moves (IsNodeStored storing) a s uuid)) (sym same.0) so)

  finish_left : (position : Progress) → IsTrue (moves position a state uuid) → IsTrue (keeps_row position stage puts) → Left (advance_finish ends position turn)
  finish_left (Settling aborts storing) so row =
      let parts = and_parts (may_have_put storing.written.commit stage && has_writes storing) (are_row_puts (Settling aborts storing) puts) row in
      doubted_left storing so tells_refused (and_parts (may_have_put storing.written.commit stage) (has_writes storing) parts.0).0 parts.1
  finish_left (IsStoring storing left) so row =
      let parts = and_parts (is_row (IsStoring storing left) stage) (are_row_puts (IsStoring storing left) puts) row in
      store_left storing so left (clear_may storing.written.commit (are_put_but left storing.written.commit) stage parts.0) parts.1
  finish_left (HasFailed storing) so row =
      let parts = and_parts (has_put storing.written.commit stage) (are_row_puts (HasFailed storing) puts) row in
      doubted_left storing so tells_refused (put_may storing.written.commit stage parts.0) parts.1
  finish_left (IsRecorded storing) so row = (let parts = and_parts (may_have_put storing.written.commit stage) (are_row_puts (IsRecorded storing) puts) row in noted_left storing so parts.0 parts.1)
  finish_left (IsNodeStored storing) so row = shut storing.attempt (its storing so).0 (doubts storing.attempt tells_down)
  finish_left (FoundAborted storing) so row =
      let parts = and_parts (is_clear (λ names. true) stage) (are_row_puts (FoundAborted storing) puts) row in
      left_or (shut_out_by ends storing.attempt (doubts storing.attempt tells_down) turn) (doubted_by ends storing tells_no_memory turn)
      (shut storing.attempt (its storing so).0 (doubts storing.attempt tells_down)) (doubted_left storing so tells_no_memory (clear_may storing.written.commit (λ names. true) stage parts.0) parts.1)
  finish_left (MustDoubt storing) so row = (let parts = and_parts (may_have_put storing.written.commit stage) (are_row_puts (MustDoubt storing) puts) row in doubted_left storing so any_answer parts.0 parts.1)
  finish_left (MustLeave aborts b its) so row =
      either_way Left (eqb b.node node && answers_down entry.act entry.answer && ends.is_shut_out (caller_of b) entry.front) (Some (Stopped b)) None
      (λ is. or_right _ _ (and_parts (same_attempt a b) _ (and_parts (same_attempt a b && is_doing (MustLeave aborts b its) state) (bytes_eq its uuid) so).0).0) (λ unlike. tt)
  finish_left (MustEnd b outcome) so row =
      let same = (and_parts (same_attempt a b) (is_doing (MustEnd b outcome) state) (and_parts (same_attempt a b && is_doing (MustEnd b outcome) state) true so).0).0 in
      closed b same (takes_away b (tells_outcome outcome)) (λ is. gone b same row (taken_away a b same state (tells_outcome outcome) entry.act entry.answer is))
  finish_left position so row = tt

  line_left : (command : Command) (nodes : List ℕ) (position : Progress) → IsTrue (is_of_attempt command) → IsTrue (moves position a state uuid) → IsTrue (keeps_row position stage puts) → Left (advance command nodes ends position turn)
  line_left (commands.Begin u home) nodes NotBegun is so row = absurd (false≢true so)
  line_left (commands.Begin u home) nodes position is so row = claim_left false position so row
  line_left (commands.Forget u home) nodes NotBegun is so row = absurd (false≢true so)
  line_left (commands.Forget u home) nodes position is so row = claim_left true position so row
  line_left commands.Commit nodes NotBegun is so row = absurd (false≢true so)
  line_left commands.Commit nodes position is so row = finish_left position so row
  line_left commands.Abort nodes NotBegun is so row = absurd (false≢true so)
  line_left commands.Abort nodes position is so row = finish_left position so row
  line_left command nodes position is so row = absurd (false≢true is)

pub attempts_part : (command : Command) (nodes uuid : List ℕ) (ends : Ends) (node : ℕ) (before : List NodeEntry) (entry : NodeEntry) (position next : Progress) (a : Attempt) (state : AttemptState) (stage : Stage) (puts : List Commit)
    → IsTrue (is_of_attempt command) → IsTrue (moves position a state uuid) → IsTrue (keeps_row position stage puts) → advance command nodes ends position (AtNode node before entry) ≡ Some next
    → IsTrue (ends.is_shut_out (caller_of a) entry.front || is_left_so next a (attempt_after a state entry.act) (uuid_after a uuid entry.act) stage puts)
attempts_part command nodes uuid ends node before entry position next a state stage puts is so row e = subst (Left ends node before entry a state uuid stage puts) e (line_left ends node before entry a state uuid stage puts command nodes position is so row)
