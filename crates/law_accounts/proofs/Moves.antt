-- While a node serves its incarnation, an attempt that a line moves does what the line's position asks, and no other line moves it, though the incarnation was fenced.
use Rattle.std.proofs.Common.{◌≡◌, ◌≤◌, ℕ, suc, Bool, true, false, ◌&&◌, not, List, [], ◌∷◌, ◌++◌, refl, sym, ap, subst, ◌∙◌, ◌⊎◌, inl, inr, eqb, append-nil, append_assoc, arith}
use Rattle.std.specs.Prelude.{IsFalse, IsTrue, None, Option, Some, nat_le}
use Rattle.std.proofs.lemmas.Bool.{and_parts, cases_Bool, eq-eqb, eqb-true, false_from_ne_true, false≢true, true≢false}
use Rattle.std.proofs.lemmas.List.Concat.{flat_map-append}
use Rattle.aft_model.specs.declared.caller.Attempt.{Attempt}
use Rattle.aft_model.specs.declared.caller.By.{By}
use Rattle.aft_model.specs.declared.door.DoorAct.{DoorAct}
use Rattle.aft_model.specs.declared.node.NodeAct.{NodeAct}
use Rattle.aft_model.specs.declared.node.NodeAct.TheVariants as acts
use Rattle.aft_model.specs.declared.node.NodeEntry.{NodeEntry}
use Rattle.aft_model.specs.declared.reply.Reply.{Reply}
use Rattle.aft_model.specs.declared.script.Command.{Command}
use Rattle.aft_model.specs.declared.script.Command.TheVariants as commands
use Rattle.aft_model.specs.Attempts.{AttemptState, IsGone, IsInDoubt, IsRunning, admitted_by, attempt_after, attempt_state, attempts, is_gone, same_attempt, uuid_after, uuid_of}
use Rattle.aft_model.specs.LegalNode.{LegalNode, front, may_be_done, may_follow_at, may_serve}
use Rattle.aft_model.specs.NodeRules.{may_begin_boot}
use Rattle.aft_model.specs.NodeState.{IsBooting, IsDown, IsServing, NodeState, Service, boots, extended, newest, newest_after, node_state, part, serves, state_after}
use Rattle.aft_model.specs.ScanRun.{same_line}
use Rattle.aft_model.proofs.Histories.{In, each_after_snoc, in_back, in_front}
use Rattle.aft_model.proofs.Pins.{attempt_state-snoc, same_attempts}
use Rattle.aft_model.proofs.Services.{Begins, Boots, GoesDown, Moved, Serves, Waits, moved_by, newest-snoc, node_state-snoc}
use Rattle.aft_lines.specs.Advance.{advance, advance_claim, advance_finish, allows, behind_unused, closed_by, doubted_by, is_stored_in, or_at, released_by, shut_out_by, tells_outcome}
use Rattle.aft_lines.specs.CommitCourse.{Storing, doubts, takes_away}
use Rattle.aft_model.specs.Stages.{IsClear, IsIdle, Stage}
use Rattle.aft_model.proofs.Incarnations.{part-at}
use Rattle.law_claims.proofs.Taking.{attempts_go_along, gone_is}
use Rattle.aft_lines.specs.BeginCourse.{Beginning, begins_running, gives_back}
use Rattle.aft_lines.specs.CourseWords.{Ends, answers_down, any_answer, caller_of, ends_shut_out, tells_down, tells_no_memory, tells_refused, tells_unclaimed}
use Rattle.aft_lines.specs.Progress.{Admitted, AnyReason, FoundAborted, HasFailed, IsNodeStored, IsRecorded, IsStoring, MustDoubt, MustEnd, MustLeave, Settling, FoundNoRecord, FoundShort, FoundUnused, HasClaim, HasForgotten, HasReleased, IsOver, MustRelease, NoRoom, NotBegun, Progress, Reason, Refusal, Stopped}
use Rattle.aft_lines.specs.Steps.{Made, own_steps}
use Rattle.aft_lines.specs.Turns.{AtDoor, AtNode, AtOffice, Turn}
use Rattle.law_attempts.specs.Acts.{acts_on}
use Rattle.law_attempts.proofs.Acts.{uuid-snoc}
use Rattle.law_attempts.proofs.Lives.{lives}
use Rattle.law_attempts.proofs.Newest.{acts_of_own, serving_newest}
use Rattle.law_attempts.proofs.Standing.{not_again, same_itself}
use Rattle.law_holders.specs.Rows.{is_of_attempt}
use Rattle.law_claims.specs.Doing.{attempt_at, is_doing, moves, rests}
use Rattle.law_claims.specs.Moments.{Asking, ByCommand, ByCourse, ByNobody, Comes, IsMade, MayCome, scene_of}
use Rattle.law_claims.specs.Scenes.{AreLegal, Keeps, Scene}
use Rattle.law_claims.proofs.Doors.{attempts_stay}
use Rattle.law_claims.proofs.Moments.{at_bystander, at_first, at_nobody, door_step, goes_along, node_step, step_keeps}
use Rattle.law_claims.proofs.Movers.{begun_before, door_mover}
use Rattle.law_claims.proofs.NodeActs.{AsksOld, First, Leaves, TakesNew, TakesNone, TakesOld, bystander_leaves, first_takes, in_its_service, is_old, later_else, off_leaves}
use Rattle.law_claims.proofs.Parting.{either_way}
use Rattle.law_claims.proofs.Scenes.{by_itself, is_itself, moves_it, none_doubts, none_runs, same_by}
use Rattle.law_runs.proofs.Walks.{ThereIf, door_ahead, line_there}

same_service : (s t : Service) → IsServing s ≡ IsServing t → s ≡ t
same_service s t e = cc

same_some : {A : Type 0} (x y : A) → Some x ≡ Some y → x ≡ y
same_some x y e = cc

none_is : (x : Option Attempt) (a : Attempt) → x ≡ None → x ≡ Some a → ⊥
none_is x a none is = (let e : None ≡ Some a = sym none ∙ is in cc)

old_there : (state : AttemptState) → IsTrue (is_old state) → IsFalse (is_gone state)
old_there IsRunning old = refl
old_there (IsInDoubt c) old = refl
old_there state old = absurd (false≢true old)

moved_new : (position : Progress) (state : AttemptState) → IsTrue (is_doing position state) → IsTrue (is_old state) → ⊥
moved_new position IsRunning so old = true≢false (sym so ∙ none_runs position)
moved_new position (IsInDoubt c) so old = true≢false (sym so ∙ none_doubts position c)
moved_new position state so old = false≢true old

turned : (a b : By) → IsFalse (same_line a b) → IsFalse (same_line b a)
turned a b d = false_from_ne_true (same_line b a) (λ is. true≢false (sym (by_itself a) ∙ subst (λ (x : By). same_line a x ≡ false) (same_by b a is) d))

-- ---- an attempt that has been there

-- its incarnation has begun, and boots no more; and while it is served it lists the attempt
pub record Known (h : List NodeEntry) (a : Attempt) : Type 0 where
  pub least : a.inc ≤ newest h
  pub unbooted : IsFalse (boots a.inc (node_state h))
  pub listed : (s : Service) → node_state h ≡ IsServing s → a.inc ≡ s.inc → In a (attempts s.part)

module _ (node capacity : ℕ) (h : List NodeEntry) (entry : NodeEntry) (legal : LegalNode node capacity (h ++ entry ∷ [])) where
  abbrev h' : List NodeEntry
  h' = h ++ entry ∷ []

  split : LegalNode node capacity h × IsTrue (may_follow_at node capacity h entry)
  split = each_after_snoc (may_follow_at node capacity) [] h entry legal

  rule : IsTrue (may_be_done node capacity h entry.act entry.answer)
  rule = (and_parts (nat_le (front h) entry.front) _ (and_parts (nat_le (front h) entry.front && may_be_done node capacity h entry.act entry.answer) _ split.1).0).1

  abbrev Moves : Type 0
  Moves = Moved node capacity (newest h) (node_state h) entry entry.act entry.answer (node_state h')

  how : Moves
  how = moved_by node capacity h entry split.1

  newest_more : newest h ≤ newest h'
  newest_more = subst (λ (n : ℕ). newest h ≤ n) (sym (newest-snoc h entry)) (more (newest h) entry.act)
    where
      more : (n : ℕ) (act : NodeAct) → n ≤ newest_after n act
      more n (acts.Booting inc) = omega arith
      more n act = omega arith

  attempts_more : (part : List NodeEntry) → attempts (part ++ entry ∷ []) ≡ attempts part ++ admitted_by entry.act
  attempts_more part = flat_map-append (λ (e : NodeEntry). admitted_by e.act) part (entry ∷ []) ∙ ap (λ (l : List Attempt). attempts part ++ l) (append-nil (admitted_by entry.act))

  module _ (a : Attempt) (known : Known h a) where
    -- what serves it behind the entry served it before
    abbrev Back : Service → Type 0
    Back t = (s : Service) × (node_state h ≡ IsServing s) × (a.inc ≡ s.inc) × (t ≡ extended s entry)

    serves_back : (t : Service) → node_state h' ≡ IsServing t → a.inc ≡ t.inc → Back t
    serves_back t now inc = by_how how
      where
        by_how : Moves → Back t
        by_how (Serves s was may is) = (let e : t ≡ extended s entry = same_service t (extended s entry) (sym now ∙ is) in (s, was, inc ∙ ap (λ (x : Service). x.inc) e, e))
        by_how (GoesDown is) = absurd (let e : IsServing t ≡ IsDown = sym now ∙ is in cc)
        by_how (Begins i by may is) = absurd (let e : IsServing t ≡ IsBooting i true = sym now ∙ is in cc)
        by_how (Waits i running still was is) = absurd (let e : IsServing t ≡ IsBooting i still = sym now ∙ is in cc)
        by_how (Boots i commits boot is) =
            let e : t ≡ record { inc = i; booted = commits; part = [] } = same_service t (record { inc = i; booted = commits; part = [] }) (sym now ∙ is) in
            let its : a.inc ≡ i = inc ∙ ap (λ (x : Service). x.inc) e in
            absurd (true≢false (sym (subst (λ (n : ℕ). IsTrue (boots n (node_state h))) (sym its) boot) ∙ known.unbooted))

    begins_not : (i : ℕ) (state : NodeState) → node_state h ≡ state → IsTrue (may_begin_boot i (newest h) state) → a.inc ≡ i → ⊥
    begins_not i IsDown was may its =
        let one : i ≡ suc (newest h) = eqb-true i (suc (newest h)) may in
        let two = known.least in
        omega arith
    begins_not i (IsBooting j running) was may its =
        let one : i ≡ j = eqb-true i j (and_parts (eqb i j) (not running) may).0 in
        true≢false (sym (subst (λ (s : NodeState). IsTrue (boots a.inc s)) (sym was) (subst (λ (n : ℕ). IsTrue (eqb n j)) (sym its) (and_parts (eqb i j) (not running) may).0)) ∙ known.unbooted)
    begins_not i (IsServing s) was may its = false≢true may

    unbooted_more : IsFalse (boots a.inc (node_state h'))
    unbooted_more = by_how how
      where
        by_how : Moves → IsFalse (boots a.inc (node_state h'))
        by_how (Serves s was may is) = ap (boots a.inc) is
        by_how (GoesDown is) = ap (boots a.inc) is
        by_how (Begins i by may is) = false_from_ne_true (boots a.inc (node_state h')) (λ so. absurd (begins_not i (node_state h) refl may (eqb-true a.inc i (sym (ap (boots a.inc) is) ∙ so))))
        by_how (Waits i running still was is) = ap (boots a.inc) is ∙ (sym (ap (boots a.inc) was) ∙ known.unbooted)
        by_how (Boots i commits boot is) = ap (boots a.inc) is

    known_more : Known h' a
    known_more = record {
      least = (let one = known.least in let two = newest_more in omega arith);
      unbooted = unbooted_more;
      listed = λ t now inc. (let b = serves_back t now inc in
          subst (λ (s : Service). In a (attempts s.part)) (sym b.3) (subst (In a) (sym (attempts_more b.0.part)) (in_front a (attempts b.0.part) (admitted_by entry.act) (known.listed b.0 b.1 b.2))));
    }

  -- ---- one on which the entry acts

  module _ (a : Attempt) (on : IsTrue (acts_on a entry.act)) where
    own : (a.node ≡ node) × IsTrue (serves a.inc (node_state h))
    own = acts_of_own node capacity a h entry legal on

    there : (s : Service) × (node_state h ≡ IsServing s) × IsTrue (may_serve node capacity entry.act entry.answer s) × ((t : Service) → state_after (IsServing t) entry entry.act ≡ IsServing (extended t entry))
    there = in_its_service node capacity h entry a entry.act entry.answer on rule

    its_inc : a.inc ≡ there.0.inc
    its_inc = eqb-true a.inc there.0.inc (subst (λ (s : NodeState). IsTrue (serves a.inc s)) there.1 own.1)

    state_now : node_state h' ≡ IsServing (extended there.0 entry)
    state_now = node_state-snoc h entry ∙ (ap (λ (s : NodeState). state_after s entry entry.act) there.1 ∙ there.3 there.0)

    -- one that is known isn't admitted again
    not_new : Known h a → In a (admitted_by entry.act) → ⊥
    not_new known new = not_again node capacity there.0 entry there.2 (lives node capacity h there.0 split.0 there.1).stands a (known.listed there.0 there.1 its_inc) new

    known_taken : In a (admitted_by entry.act) ⊎ AsksOld a entry.act → Known h' a
    known_taken which = record {
      least = (let one : newest h ≡ a.inc = serving_newest node capacity a.inc h split.0 own.1 in let two = newest_more in omega arith);
      unbooted = ap (boots a.inc) state_now;
      listed = λ t now inc. subst (λ (s : Service). In a (attempts s.part)) (same_service (extended there.0 entry) t (sym state_now ∙ now)) (subst (In a) (sym (attempts_more there.0.part)) (among which));
    }
      where
        among : In a (admitted_by entry.act) ⊎ AsksOld a entry.act → In a (attempts there.0.part ++ admitted_by entry.act)
        among (inl new) = in_back a (attempts there.0.part) (admitted_by entry.act) new
        among (inr asks) =
            in_front a (attempts there.0.part) (admitted_by entry.act)
            ((lives node capacity h there.0 split.0 there.1).stands.listed a (old_there (attempt_state a there.0.part) (asks node capacity entry.answer there.0 there.2)))

-- ---- what a line's turn at a node makes of an attempt

-- it leaves it, and the line moves it not; it takes it, as a new one or one that rested; or the line had it
data Kind (from to : Progress) (act : NodeAct) (a : Attempt) : Type 0 where
  IsOff : Leaves a act → (attempt_at to ≡ Some a → ⊥) → Kind from to act a
  Takes : IsTrue (acts_on a act) → In a (admitted_by act) ⊎ AsksOld a act → Kind from to act a
  Has : attempt_at from ≡ Some a → Kind from to act a

module _ (from to : Progress) (act : NodeAct) (a : Attempt) where
  kind_first : First act to → Kind from to act a
  kind_first (TakesNone none off) = IsOff (off_leaves a act (off a)) (none_is (attempt_at to) a none)
  kind_first (TakesNew b uuid is takes) = elim (cases_Bool (same_attempt a b)) [
    | inl same ↦ (let e = same_attempts a b same in Takes (subst (λ (x : NodeAct). IsTrue (acts_on a x)) (sym is) same) (inl (subst (λ (x : NodeAct). In a (admitted_by x)) (sym is) (inl e))))
    | inr differs ↦ IsOff (off_leaves a act (subst (λ (x : NodeAct). IsFalse (acts_on a x)) (sym is) differs)) (apart b takes differs)
  ]
    where
      apart : (b : Attempt) → attempt_at to ≡ Some b → same_attempt a b ≡ false → attempt_at to ≡ Some a → ⊥
      apart b takes differs at = true≢false (sym (same_itself a) ∙ subst (λ (x : Attempt). same_attempt a x ≡ false) (same_some b a (sym takes ∙ at)) differs)
  kind_first (TakesOld b takes on off kept asks) = elim (cases_Bool (same_attempt a b)) [
    | inl same ↦ (let e = same_attempts a b same in Takes (subst (λ (x : Attempt). IsTrue (acts_on x act)) (sym e) on) (inr (subst (λ (x : Attempt). AsksOld x act) (sym e) asks)))
    | inr differs ↦ IsOff (off_leaves a act (off a differs)) (apart b takes differs)
  ]
    where
      apart : (b : Attempt) → attempt_at to ≡ Some b → same_attempt a b ≡ false → attempt_at to ≡ Some a → ⊥
      apart b takes differs at = true≢false (sym (same_itself a) ∙ subst (λ (x : Attempt). same_attempt a x ≡ false) (same_some b a (sym takes ∙ at)) differs)

-- a later turn at a node that leaves a line with its attempt left that as it was
module _ (ends : Ends) (node : ℕ) (before : List NodeEntry) (entry : NodeEntry) (a : Attempt) where
  abbrev turn : Turn
  turn = AtNode node before entry

  -- it does what it should behind the turn
  abbrev Still : Progress → Option Progress → Type 0
  Still from None = Unit {0}
  Still from (Some to) = attempt_at to ≡ Some a → (state : AttemptState) (uuid : List ℕ) → IsTrue (moves from a state uuid) → IsTrue (moves to a (attempt_after a state entry.act) (uuid_after a uuid entry.act))

  closed_over : (from : Progress) (b : Attempt) (test : NodeAct → Option Reply → Bool) → Still from (closed_by ends b test turn)
  closed_over from b test =
      either_way (Still from) (not (eqb b.node node)) None _ (λ other. tt) (λ here.
      either_way (Still from) (test entry.act entry.answer) (Some IsOver) _ (λ is at. absurd (none_is None a refl at)) (λ unlike.
      either_way (Still from) (answers_down entry.act entry.answer && ends.is_left b.inc (node_state before)) (Some (Stopped b)) None (λ down at. absurd (none_is None a refl at)) (λ not_down. tt)))

  shut_over : (from : Progress) (b : Attempt) (test : NodeAct → Option Reply → Bool) → Still from (shut_out_by ends b test turn)
  shut_over from b test = either_way (Still from) (ends_shut_out ends (caller_of b) (turn ∷ [])) (closed_by ends b test turn) None (λ is. closed_over from b test) (λ unlike. tt)

  over_or : (from : Progress) (one other : Option Progress) → Still from one → Still from other → Still from (or_at one other)
  over_or from None other first second = second
  over_or from (Some next) other first second = first

  released_over : (from : Progress) (begun : Beginning) (reason : Reason) → Still from (released_by ends begun reason turn)
  released_over from begun reason = shut_over from begun.attempt (gives_back begun.attempt tells_down)

  unused_over : (from : Progress) (forgets : Bool) (begun : Beginning) → Still from (behind_unused ends forgets begun turn)
  unused_over from false begun = over_or from (closed_by ends begun.attempt (begins_running begun.attempt) turn) (released_by ends begun NoRoom turn) (closed_over from begun.attempt (begins_running begun.attempt)) (released_over from begun NoRoom)
  unused_over from true begun = released_over from begun AnyReason

  claim_over : (forgets : Bool) (position : Progress) → Still position (advance_claim ends forgets position turn)
  claim_over forgets (Admitted begun) = closed_over (Admitted begun) begun.attempt (gives_back begun.attempt tells_unclaimed)
  claim_over forgets (HasClaim begun) = released_over (HasClaim begun) begun Refusal
  claim_over forgets (FoundNoRecord begun) = released_over (FoundNoRecord begun) begun Refusal
  claim_over forgets (FoundUnused begun) = unused_over (FoundUnused begun) forgets begun
  claim_over forgets (FoundShort begun) = released_over (FoundShort begun) begun Refusal
  claim_over forgets (HasForgotten begun) = released_over (HasForgotten begun) begun AnyReason
  claim_over forgets (MustRelease begun) = released_over (MustRelease begun) begun AnyReason
  claim_over forgets (HasReleased begun reason) = closed_over (HasReleased begun reason) begun.attempt (gives_back begun.attempt (allows reason))
  claim_over forgets position = tt

  -- the storing of its commit leaves an attempt as it is
  stored_over : (storing : Storing) (act : NodeAct) → entry.act ≡ act → IsTrue (is_stored_in storing act) → Still (IsRecorded storing) (Some (IsNodeStored storing))
  stored_over storing (acts.Stored b c) is so at state uuid does =
      subst (λ (x : NodeAct). IsTrue (moves (IsNodeStored storing) a (attempt_after a state x) (uuid_after a uuid x))) (sym is) does
  stored_over storing act is so at state uuid does = absurd (false≢true so)

  finish_over : (position : Progress) → Still position (advance_finish ends position turn)
  finish_over (Settling aborts storing) = closed_over (Settling aborts storing) storing.attempt (doubts storing.attempt tells_refused)
  finish_over (IsStoring storing []) = closed_over (IsStoring storing []) storing.attempt (doubts storing.attempt tells_refused)
  finish_over (IsStoring storing (write ∷ left)) = closed_over (IsStoring storing (write ∷ left)) storing.attempt (doubts storing.attempt tells_refused)
  finish_over (HasFailed storing) = closed_over (HasFailed storing) storing.attempt (doubts storing.attempt tells_refused)
  finish_over (IsRecorded storing) =
      either_way (Still (IsRecorded storing)) (eqb storing.attempt.node node && is_stored_in storing entry.act) (Some (IsNodeStored storing)) (doubted_by ends storing tells_no_memory turn)
      (λ is. stored_over storing entry.act refl (and_parts (eqb storing.attempt.node node) (is_stored_in storing entry.act) is).1) (λ unlike. closed_over (IsRecorded storing) storing.attempt (doubts storing.attempt tells_no_memory))
  finish_over (IsNodeStored storing) = shut_over (IsNodeStored storing) storing.attempt (doubts storing.attempt tells_down)
  finish_over (FoundAborted storing) =
      over_or (FoundAborted storing) (shut_out_by ends storing.attempt (doubts storing.attempt tells_down) turn) (doubted_by ends storing tells_no_memory turn)
      (shut_over (FoundAborted storing) storing.attempt (doubts storing.attempt tells_down)) (closed_over (FoundAborted storing) storing.attempt (doubts storing.attempt tells_no_memory))
  finish_over (MustDoubt storing) = closed_over (MustDoubt storing) storing.attempt (doubts storing.attempt any_answer)
  finish_over (MustLeave aborts b uuid) =
      either_way (Still (MustLeave aborts b uuid)) (eqb b.node node && answers_down entry.act entry.answer && ends.is_shut_out (caller_of b) entry.front) (Some (Stopped b)) None (λ so at. absurd (none_is None a refl at)) (λ unlike. tt)
  finish_over (MustEnd b outcome) = closed_over (MustEnd b outcome) b (takes_away b (tells_outcome outcome))
  finish_over position = tt

  line_over : (command : Command) (nodes : List ℕ) (position : Progress) → IsTrue (is_of_attempt command) → attempt_at position ≡ Some a → Still position (advance command nodes ends position turn)
  line_over command nodes NotBegun of at = absurd (none_is None a refl at)
  line_over (commands.Begin uuid home) nodes position of at = claim_over false position
  line_over (commands.Forget uuid home) nodes position of at = claim_over true position
  line_over commands.Commit nodes position of at = finish_over position
  line_over commands.Abort nodes position of at = finish_over position
  line_over command nodes position of at = absurd (false≢true of)

-- an attempt that is gone, or rests, may have its UUID at rest at the door
rests_new : (state : AttemptState) → state ≡ IsGone → IsTrue (rests state IsIdle [])
rests_new state is = subst (λ (s : AttemptState). IsTrue (rests s IsIdle [])) (sym is) refl

rests_old : (state : AttemptState) → IsTrue (is_old state) → IsTrue (rests state (IsClear []) [])
rests_old IsRunning old = refl
rests_old (IsInDoubt c) old = refl
rests_old state old = absurd (false≢true old)

-- ---- what each moment keeps

-- each attempt that a line moves is known; and while its node serves it, it does what the line's position asks, and no other line moves it
pub record MovesOn (asking : Asking) (scene : Scene) : Type 0 where
  pub known : (by : By) (a : Attempt) → attempt_at (scene.at by) ≡ Some a → Known (scene.node a.node) a
  pub moved : (by : By) (a : Attempt) → attempt_at (scene.at by) ≡ Some a → (s : Service) → node_state (scene.node a.node) ≡ IsServing s → a.inc ≡ s.inc → IsTrue (moves (scene.at by) a (attempt_state a s.part) (uuid_of a s.part))
  pub alone : (by : By) (a : Attempt) → attempt_at (scene.at by) ≡ Some a → (other : By) → IsFalse (same_line by other) → attempt_at (scene.at other) ≡ Some a → ⊥

pub moves_at_first : (asking : Asking) → MovesOn asking (scene_of asking [])
moves_at_first asking = record {
  known = λ by a at. absurd (none by a at);
  moved = λ by a at. absurd (none by a at);
  alone = λ by a at. absurd (none by a at);
}
  where
    none : (by : By) (a : Attempt) → attempt_at ((scene_of asking []).at by) ≡ Some a → ⊥
    none by a at = none_is (attempt_at ((scene_of asking []).at by)) a (at_first asking by (asking.command by)) at

abbrev Both : Asking → ℕ → List Made → Type 0
Both asking capacity made = Keeps (scene_of asking made) × AreLegal capacity (scene_of asking made)

module _ (asking : Asking) (capacity : ℕ) (made : List Made) (both : Both asking capacity made) (kept : MovesOn asking (scene_of asking made)) where
  abbrev was : Scene
  was = scene_of asking made

  -- ---- a turn at the door

  module _ (by : By) (place : ℕ) (act : DoorAct) (is_made : IsMade asking made by (AtDoor place act)) where
    abbrev at_door : Made
    at_door = record { by = by; turn = AtDoor place act }

    abbrev behind_door : Scene
    behind_door = scene_of asking (made ++ at_door ∷ [])

    -- it leaves the line with its attempt, which does what it should
    back : (a : Attempt) → attempt_at (behind_door.at by) ≡ Some a → (attempt_at (was.at by) ≡ Some a) × ((state : AttemptState) (uuid : List ℕ) → IsTrue (moves (was.at by) a state uuid) → IsTrue (moves (behind_door.at by) a state uuid))
    back a at = by_way is_made
      where
        by_way : IsMade asking made by (AtDoor place act) → (attempt_at (was.at by) ≡ Some a) × ((state : AttemptState) (uuid : List ℕ) → IsTrue (moves (was.at by) a state uuid) → IsTrue (moves (behind_door.at by) a state uuid))
        by_way (ByCourse command next is of leads) =
            let goes = goes_along asking capacity made at_door command next is of leads in
            let mover = door_mover command asking.nodes (asking.ends by) (was.at by) (behind_door.at by) place act of goes in
            let ahead = door_ahead command asking.nodes (asking.ends by) (was.at by) (behind_door.at by) place act mover.0 of mover.1 goes in
            (mover.1 ∙ (sym ahead ∙ at), λ state uuid so. attempts_stay command asking.nodes uuid (asking.ends by) (was.at by) (behind_door.at by) place act a state of so goes)
        by_way (ByCommand command is other makes_it) = absurd (none_is (attempt_at (behind_door.at by)) a (at_bystander asking by (own_steps by (made ++ at_door ∷ [])) command is other) at)
        by_way (ByNobody is quiet) = absurd (none_is (attempt_at (behind_door.at by)) a (at_nobody asking by (own_steps by (made ++ at_door ∷ [])) is) at)

    others_same : (o : By) → IsFalse (same_line by o) → behind_door.at o ≡ was.at o
    others_same o differs = (door_step asking capacity made both by place act).others o differs

    back_any : (o : By) (a : Attempt) → attempt_at (behind_door.at o) ≡ Some a → (attempt_at (was.at o) ≡ Some a) × ((state : AttemptState) (uuid : List ℕ) → IsTrue (moves (was.at o) a state uuid) → IsTrue (moves (behind_door.at o) a state uuid))
    back_any o a at = elim (cases_Bool (same_line by o)) [
      | inl same ↦ subst (λ (x : By). attempt_at (behind_door.at x) ≡ Some a → (attempt_at (was.at x) ≡ Some a) × ((state : AttemptState) (uuid : List ℕ) → IsTrue (moves (was.at x) a state uuid) → IsTrue (moves (behind_door.at x) a state uuid))) (same_by by o same) (back a) at
      | inr differs ↦ (ap attempt_at (sym (others_same o differs)) ∙ at, λ state uuid so. subst (λ (p : Progress). IsTrue (moves p a state uuid)) (sym (others_same o differs)) so)
    ]

    node_same : (n : ℕ) → behind_door.node n ≡ was.node n
    node_same n = (door_step asking capacity made both by place act).node n

    door_moves : MovesOn asking behind_door
    door_moves = record {
      known = λ o a at. subst (λ (h : List NodeEntry). Known h a) (sym (node_same a.node)) (kept.known o a (back_any o a at).0);
      moved = λ o a at s now inc. (let b = back_any o a at in b.1 (attempt_state a s.part) (uuid_of a s.part) (kept.moved o a b.0 s (ap node_state (sym (node_same a.node)) ∙ now) inc));
      alone = λ o a at other differs also. kept.alone o a (back_any o a at).0 other differs (back_any other a also).0;
    }

  -- ---- a turn at a node

  module _ (node : ℕ) (history : List NodeEntry) (entry : NodeEntry) (history_is : history ≡ was.node node) (is_made : IsMade asking made entry.by (AtNode node history entry)) (legal : LegalNode node capacity (was.node node ++ entry ∷ [])) where
    abbrev at_node : Made
    at_node = record { by = entry.by; turn = AtNode node history entry }

    abbrev behind_node : Scene
    behind_node = scene_of asking (made ++ at_node ∷ [])

    abbrev here : List NodeEntry
    here = was.node node

    kind : (a : Attempt) → Kind (was.at entry.by) (behind_node.at entry.by) entry.act a
    kind a = by_way is_made
      where
        by_way : IsMade asking made entry.by (AtNode node history entry) → Kind (was.at entry.by) (behind_node.at entry.by) entry.act a
        by_way (ByCourse command next is of leads) =
            let goes = goes_along asking capacity made at_node command next is of leads in
            elim (begun_before command asking.nodes (asking.ends entry.by) (was.at entry.by) (behind_node.at entry.by) (AtNode node history entry) of goes) [
              | inl first ↦
                  kind_first (was.at entry.by) (behind_node.at entry.by) entry.act a
                  (first_takes command asking.nodes (asking.ends entry.by) node history entry (behind_node.at entry.by) of (subst (λ (p : Progress). advance command asking.nodes (asking.ends entry.by) p (AtNode node history entry) ≡ Some (behind_node.at entry.by)) first goes))
              | inr (b, at) ↦ elim (cases_Bool (same_attempt a b)) [
                | inl same ↦ Has (at ∙ ap (λ (x : Attempt). Some x) (sym (same_attempts a b same)))
                | inr differs ↦
                    let off = later_else (asking.ends entry.by) node history entry b command asking.nodes (was.at entry.by) (behind_node.at entry.by) of at goes a differs in
                    IsOff (off_leaves a entry.act off.0) (λ now. true≢false (sym (is_itself a (attempt_at (behind_node.at entry.by)) now) ∙ off.1))
              ]
            ]
        by_way (ByCommand command is other makes_it) = IsOff (bystander_leaves command entry.act a other makes_it) (none_is (attempt_at (behind_node.at entry.by)) a (at_bystander asking entry.by (own_steps entry.by (made ++ at_node ∷ [])) command is other))
        by_way (ByNobody is quiet) = IsOff (quiet.0 a, quiet.1 a) (none_is (attempt_at (behind_node.at entry.by)) a (at_nobody asking entry.by (own_steps entry.by (made ++ at_node ∷ [])) is))

    here_now : behind_node.node node ≡ here ++ entry ∷ []
    here_now = (node_step asking capacity made both node history entry).here

    else_same : (o : By) → IsFalse (same_line entry.by o) → behind_node.at o ≡ was.at o
    else_same o differs = (node_step asking capacity made both node history entry).others o differs

    else_at : (o : By) (a : Attempt) → IsFalse (same_line entry.by o) → attempt_at (behind_node.at o) ≡ Some a → attempt_at (was.at o) ≡ Some a
    else_at o a differs at = ap attempt_at (sym (else_same o differs)) ∙ at

    -- an attempt that is known stays so
    persists : (a : Attempt) → Known (was.node a.node) a → Known (behind_node.node a.node) a
    persists a = elim (cases_Bool (eqb node a.node)) [
      | inl same ↦ subst (λ (n : ℕ). Known (was.node n) a → Known (behind_node.node n) a) (eqb-true node a.node same) (λ known. subst (λ (h : List NodeEntry). Known h a) (sym here_now) (known_more node capacity here entry legal a known))
      | inr differs ↦ subst (λ (h : List NodeEntry). Known h a) (sym ((node_step asking capacity made both node history entry).elsewhere a.node differs))
    ]

    -- and one that the line takes is known
    taken : (a : Attempt) → IsTrue (acts_on a entry.act) → In a (admitted_by entry.act) ⊎ AsksOld a entry.act → Known (behind_node.node a.node) a
    taken a on which = subst (λ (n : ℕ). Known (behind_node.node n) a) (sym (own node capacity here entry legal a on).0) (subst (λ (h : List NodeEntry). Known h a) (sym here_now) (known_taken node capacity here entry legal a on which))

    own_known : (a : Attempt) → attempt_at (behind_node.at entry.by) ≡ Some a → Known (behind_node.node a.node) a
    own_known a at = by_kind (kind a)
      where
        by_kind : Kind (was.at entry.by) (behind_node.at entry.by) entry.act a → Known (behind_node.node a.node) a
        by_kind (IsOff leaves lost) = absurd (lost at)
        by_kind (Takes on which) = taken a on which
        by_kind (Has had) = persists a (kept.known entry.by a had)

    known_behind : (o : By) (a : Attempt) → attempt_at (behind_node.at o) ≡ Some a → Known (behind_node.node a.node) a
    known_behind o a at = elim (cases_Bool (same_line entry.by o)) [
      | inl same ↦ own_known a (subst (λ (x : By). attempt_at (behind_node.at x) ≡ Some a) (sym (same_by entry.by o same)) at)
      | inr differs ↦ persists a (kept.known o a (else_at o a differs at))
    ]

    -- one that a line moves isn't admitted
    never_new : (o : By) (a : Attempt) → attempt_at (was.at o) ≡ Some a → IsTrue (acts_on a entry.act) → In a (admitted_by entry.act) → ⊥
    never_new o a at on new = not_new node capacity here entry legal a on (subst (λ (n : ℕ). Known (was.node n) a) (own node capacity here entry legal a on).0 (kept.known o a at)) new

    -- nor does it rest
    never_old : (o : By) (a : Attempt) → attempt_at (was.at o) ≡ Some a → IsTrue (acts_on a entry.act) → AsksOld a entry.act → ⊥
    never_old o a at on asks =
        let t = there node capacity here entry legal a on in
        let state : node_state (was.node a.node) ≡ IsServing t.0 = ap (λ (n : ℕ). node_state (was.node n)) (own node capacity here entry legal a on).0 ∙ t.1 in
        moved_new (was.at o) (attempt_state a t.0.part) (moves_it (was.at o) a (attempt_state a t.0.part) (uuid_of a t.0.part) (kept.moved o a at t.0 state (its_inc node capacity here entry legal a on))).1
        (asks node capacity entry.answer t.0 t.2)

    -- what leaves it so leaves it moved
    left_moved : (p : Progress) (a : Attempt) (s : Service) → Leaves a entry.act → IsTrue (moves p a (attempt_state a s.part) (uuid_of a s.part)) → IsTrue (moves p a (attempt_state a (s.part ++ entry ∷ [])) (uuid_of a (s.part ++ entry ∷ [])))
    left_moved p a s leaves so =
        subst (λ (t : AttemptState). IsTrue (moves p a t (uuid_of a (s.part ++ entry ∷ [])))) (sym (attempt_state-snoc a s.part entry ∙ leaves.0 (attempt_state a s.part)))
        (subst (λ (u : List ℕ). IsTrue (moves p a (attempt_state a s.part) u)) (sym (uuid-snoc a s.part entry ∙ leaves.1 (uuid_of a s.part))) so)

    -- the line's own, which it has just taken
    module _ (a : Attempt) (command : Command) (of : IsTrue (is_of_attempt command)) (at : attempt_at (behind_node.at entry.by) ≡ Some a) (s : Service) (now : node_state (behind_node.node a.node) ≡ IsServing s) (goes : advance command asking.nodes (asking.ends entry.by) (was.at entry.by) (AtNode node history entry) ≡ Some (behind_node.at entry.by)) where
      abbrev Its : Service → Type 0
      Its x = IsTrue (moves (behind_node.at entry.by) a (attempt_state a x.part) (uuid_of a x.part))

      now_at : a.node ≡ node → node_state (here ++ entry ∷ []) ≡ IsServing s
      now_at its = ap node_state (sym here_now) ∙ (ap (λ (n : ℕ). node_state (behind_node.node n)) (sym its) ∙ now)

      first_moved : was.at entry.by ≡ NotBegun → Its s
      first_moved first = by_kind (kind a)
        where
          by_kind : Kind (was.at entry.by) (behind_node.at entry.by) entry.act a → Its s
          by_kind (IsOff leaves lost) = absurd (lost at)
          by_kind (Has had) = absurd (none_is (attempt_at (was.at entry.by)) a (ap attempt_at first) had)
          by_kind (Takes on which) =
              subst (λ (p : List NodeEntry). IsTrue (moves (behind_node.at entry.by) a (attempt_state a p) (uuid_of a p))) (part-at (here ++ entry ∷ []) s (now_at (own node capacity here entry legal a on).0)) (taken_so which)
            where
              t : (x : Service) × (node_state here ≡ IsServing x) × IsTrue (may_serve node capacity entry.act entry.answer x) × ((y : Service) → state_after (IsServing y) entry entry.act ≡ IsServing (extended y entry))
              t = there node capacity here entry legal a on

              goes_here : advance command asking.nodes (asking.ends entry.by) NotBegun (AtNode node here entry) ≡ Some (behind_node.at entry.by)
              goes_here =
                  ap (λ (h : List NodeEntry). advance command asking.nodes (asking.ends entry.by) NotBegun (AtNode node h entry)) (sym history_is)
                  ∙ (ap (λ (p : Progress). advance command asking.nodes (asking.ends entry.by) p (AtNode node history entry)) (sym first) ∙ goes)

              still : IsTrue (serves a.inc (node_state (here ++ entry ∷ [])))
              still = subst (λ (x : NodeState). IsTrue (serves a.inc x)) (sym (state_now node capacity here entry legal a on)) (eq-eqb a.inc t.0.inc (its_inc node capacity here entry legal a on))

              go_along : (stage : Stage) → IsTrue (rests (attempt_state a (part here)) stage []) → IsTrue (moves (behind_node.at entry.by) a (attempt_state a (part (here ++ entry ∷ []))) (uuid_of a (part (here ++ entry ∷ []))))
              go_along stage rest = (attempts_go_along command asking.nodes (asking.ends entry.by) node capacity a.inc here entry (behind_node.at entry.by) a stage [] of legal (own node capacity here entry legal a on).1 still goes_here at rest).0

              at_rest : (stage : Stage) → IsTrue (rests (attempt_state a t.0.part) stage []) → IsTrue (rests (attempt_state a (part here)) stage [])
              at_rest stage rest = subst (λ (p : List NodeEntry). IsTrue (rests (attempt_state a p) stage [])) (sym (part-at here t.0 t.1)) rest

              taken_so : In a (admitted_by entry.act) ⊎ AsksOld a entry.act → IsTrue (moves (behind_node.at entry.by) a (attempt_state a (part (here ++ entry ∷ []))) (uuid_of a (part (here ++ entry ∷ []))))
              taken_so (inr asks) = go_along (IsClear []) (at_rest (IsClear []) (rests_old (attempt_state a t.0.part) (asks node capacity entry.answer t.0 t.2)))
              taken_so (inl new) = elim (cases_Bool (is_gone (attempt_state a t.0.part))) [
                | inl gone ↦ go_along IsIdle (at_rest IsIdle (rests_new (attempt_state a t.0.part) (gone_is (attempt_state a t.0.part) (λ present. true≢false (sym gone ∙ present)))))
                | inr present ↦
                    let stands = (lives node capacity here t.0 (split node capacity here entry legal).0 t.1).stands in
                    absurd (not_again node capacity t.0 entry t.2 stands a (stands.listed a present) new)
              ]

      later_moved : a.inc ≡ s.inc → attempt_at (was.at entry.by) ≡ Some a → Its s
      later_moved inc had =
          let there_is = subst (ThereIf (asking.ends entry.by) history entry a node) goes (line_there (asking.ends entry.by) node history entry command asking.nodes of (was.at entry.by) a had) in
          let its : a.node ≡ node = eqb-true a.node node there_is.0 in
          let b = serves_back node capacity here entry legal a (subst (λ (n : ℕ). Known (was.node n) a) its (kept.known entry.by a had)) s (now_at its) inc in
          let so = kept.moved entry.by a had b.0 (ap (λ (n : ℕ). node_state (was.node n)) its ∙ b.1) b.2 in
          let still = subst (Still (asking.ends entry.by) node history entry a (was.at entry.by)) goes (line_over (asking.ends entry.by) node history entry a command asking.nodes (was.at entry.by) of had) in
          subst Its (sym b.3)
          (subst (λ (x : AttemptState). IsTrue (moves (behind_node.at entry.by) a x (uuid_of a (b.0.part ++ entry ∷ [])))) (sym (attempt_state-snoc a b.0.part entry))
          (subst (λ (u : List ℕ). IsTrue (moves (behind_node.at entry.by) a (attempt_after a (attempt_state a b.0.part) entry.act) u)) (sym (uuid-snoc a b.0.part entry))
          (still at (attempt_state a b.0.part) (uuid_of a b.0.part) so)))

    own_moved : (a : Attempt) → attempt_at (behind_node.at entry.by) ≡ Some a → (s : Service) → node_state (behind_node.node a.node) ≡ IsServing s → a.inc ≡ s.inc → IsTrue (moves (behind_node.at entry.by) a (attempt_state a s.part) (uuid_of a s.part))
    own_moved a at s now inc = by_way is_made
      where
        by_way : IsMade asking made entry.by (AtNode node history entry) → IsTrue (moves (behind_node.at entry.by) a (attempt_state a s.part) (uuid_of a s.part))
        by_way (ByCourse command next is of leads) =
            let goes = goes_along asking capacity made at_node command next is of leads in
            elim (begun_before command asking.nodes (asking.ends entry.by) (was.at entry.by) (behind_node.at entry.by) (AtNode node history entry) of goes) [
              | inl first ↦ first_moved a command of at s now goes first
              | inr (b, at_b) ↦ elim (cases_Bool (same_attempt a b)) [
                | inl same ↦ later_moved a command of at s now goes inc (at_b ∙ ap (λ (x : Attempt). Some x) (sym (same_attempts a b same)))
                | inr differs ↦
                    let off = later_else (asking.ends entry.by) node history entry b command asking.nodes (was.at entry.by) (behind_node.at entry.by) of at_b goes a differs in
                    absurd (true≢false (sym (is_itself a (attempt_at (behind_node.at entry.by)) at) ∙ off.1))
              ]
            ]
        by_way (ByCommand command is other makes_it) = absurd (none_is (attempt_at (behind_node.at entry.by)) a (at_bystander asking entry.by (own_steps entry.by (made ++ at_node ∷ [])) command is other) at)
        by_way (ByNobody is quiet) = absurd (none_is (attempt_at (behind_node.at entry.by)) a (at_nobody asking entry.by (own_steps entry.by (made ++ at_node ∷ [])) is) at)

    -- another's
    else_moved : (o : By) (a : Attempt) → IsFalse (same_line entry.by o) → attempt_at (was.at o) ≡ Some a → (s : Service) → node_state (behind_node.node a.node) ≡ IsServing s → a.inc ≡ s.inc → IsTrue (moves (was.at o) a (attempt_state a s.part) (uuid_of a s.part))
    else_moved o a differs at s now inc = elim (cases_Bool (eqb node a.node)) [
      | inr elsewhere ↦ kept.moved o a at s (ap node_state (sym ((node_step asking capacity made both node history entry).elsewhere a.node elsewhere)) ∙ now) inc
      | inl same ↦ at_here (eqb-true node a.node same)
    ]
      where
        at_here : node ≡ a.node → IsTrue (moves (was.at o) a (attempt_state a s.part) (uuid_of a s.part))
        at_here e =
            let now_here : node_state (here ++ entry ∷ []) ≡ IsServing s = ap node_state (sym here_now) ∙ (ap (λ (n : ℕ). node_state (behind_node.node n)) e ∙ now) in
            let b = serves_back node capacity here entry legal a (subst (λ (n : ℕ). Known (was.node n) a) (sym e) (kept.known o a at)) s now_here inc in
            let so = kept.moved o a at b.0 (ap (λ (n : ℕ). node_state (was.node n)) (sym e) ∙ b.1) b.2 in
            subst (λ (x : Service). IsTrue (moves (was.at o) a (attempt_state a x.part) (uuid_of a x.part))) (sym b.3) (left_moved (was.at o) a b.0 (leaves (kind a)) so)
          where
            leaves : Kind (was.at entry.by) (behind_node.at entry.by) entry.act a → Leaves a entry.act
            leaves (IsOff left lost) = left
            leaves (Takes on (inl new)) = absurd (never_new o a at on new)
            leaves (Takes on (inr asks)) = absurd (never_old o a at on asks)
            leaves (Has had) = absurd (kept.alone o a at entry.by (turned entry.by o differs) had)

    moved_behind : (o : By) (a : Attempt) → attempt_at (behind_node.at o) ≡ Some a → (s : Service) → node_state (behind_node.node a.node) ≡ IsServing s → a.inc ≡ s.inc → IsTrue (moves (behind_node.at o) a (attempt_state a s.part) (uuid_of a s.part))
    moved_behind o a at s now inc = elim (cases_Bool (same_line entry.by o)) [
      | inl same ↦ subst (λ (x : By). attempt_at (behind_node.at x) ≡ Some a → IsTrue (moves (behind_node.at x) a (attempt_state a s.part) (uuid_of a s.part))) (same_by entry.by o same) (λ its_at. own_moved a its_at s now inc) at
      | inr differs ↦ subst (λ (p : Progress). IsTrue (moves p a (attempt_state a s.part) (uuid_of a s.part))) (sym (else_same o differs)) (else_moved o a differs (else_at o a differs at) s now inc)
    ]

    -- no other line comes to it
    own_alone : (a : Attempt) → attempt_at (behind_node.at entry.by) ≡ Some a → (other : By) → IsFalse (same_line entry.by other) → attempt_at (behind_node.at other) ≡ Some a → ⊥
    own_alone a at other differs also = by_kind (kind a)
      where
        by_kind : Kind (was.at entry.by) (behind_node.at entry.by) entry.act a → ⊥
        by_kind (IsOff left lost) = lost at
        by_kind (Takes on (inl new)) = never_new other a (else_at other a differs also) on new
        by_kind (Takes on (inr asks)) = never_old other a (else_at other a differs also) on asks
        by_kind (Has had) = kept.alone entry.by a had other differs (else_at other a differs also)

    else_alone : (o : By) (a : Attempt) → IsFalse (same_line entry.by o) → attempt_at (was.at o) ≡ Some a → attempt_at (behind_node.at entry.by) ≡ Some a → ⊥
    else_alone o a differs at also = by_kind (kind a)
      where
        by_kind : Kind (was.at entry.by) (behind_node.at entry.by) entry.act a → ⊥
        by_kind (IsOff left lost) = lost also
        by_kind (Takes on (inl new)) = never_new o a at on new
        by_kind (Takes on (inr asks)) = never_old o a at on asks
        by_kind (Has had) = kept.alone o a at entry.by (turned entry.by o differs) had

    alone_behind : (o : By) (a : Attempt) → attempt_at (behind_node.at o) ≡ Some a → (other : By) → IsFalse (same_line o other) → attempt_at (behind_node.at other) ≡ Some a → ⊥
    alone_behind o a at other apart also = elim (cases_Bool (same_line entry.by o)) [
      | inl same ↦
          subst (λ (x : By). attempt_at (behind_node.at x) ≡ Some a → IsFalse (same_line x other) → ⊥) (same_by entry.by o same) (λ its_at its_apart. own_alone a its_at other its_apart also) at apart
      | inr differs ↦ elim (cases_Bool (same_line entry.by other)) [
        | inl same ↦ else_alone o a differs (else_at o a differs at) (subst (λ (x : By). attempt_at (behind_node.at x) ≡ Some a) (sym (same_by entry.by other same)) also)
        | inr differs' ↦ kept.alone o a (else_at o a differs at) other apart (else_at other a differs' also)
      ]
    ]

    node_moves : MovesOn asking behind_node
    node_moves = record { known = known_behind; moved = moved_behind; alone = alone_behind }

  -- any step
  step_moves : (by : By) (turn : Turn) → IsMade asking made by turn → Comes asking capacity made by turn → MovesOn asking (scene_of asking (made ++ record { by = by; turn = turn } ∷ []))
  step_moves by (AtDoor place act) is_made comes = door_moves by place act is_made
  step_moves by (AtNode node history entry) is_made comes =
      subst (λ (b : By). IsMade asking made b (AtNode node history entry) → MovesOn asking (scene_of asking (made ++ record { by = b; turn = AtNode node history entry } ∷ []))) comes.0
      (λ h. node_moves node history entry comes.1 h (subst (λ (x : List NodeEntry). LegalNode node capacity (x ++ entry ∷ [])) comes.1 comes.3)) is_made
  step_moves by (AtOffice history entry) is_made comes = absurd comes

pub steps_move : (asking : Asking) (capacity : ℕ) (made more rest : List Made) → MayCome asking capacity made (more ++ rest) → Both asking capacity made → MovesOn asking (scene_of asking made) → MovesOn asking (scene_of asking (made ++ more))
steps_move asking capacity made [] rest may both kept = subst (λ (m : List Made). MovesOn asking (scene_of asking m)) (sym (append-nil made)) kept
steps_move asking capacity made (one ∷ more) rest may both kept =
    subst (λ (m : List Made). MovesOn asking (scene_of asking m)) (append_assoc made (one ∷ []) more)
    (steps_move asking capacity (made ++ one ∷ []) more rest may.2 (step_keeps asking capacity made both one.by one.turn may.0 may.1) (step_moves asking capacity made both kept one.by one.turn may.0 may.1))
