-- What the first turn of a commit or an abort makes of it.
use Rattle.std.proofs.Common.{◌≡◌, ℕ, suc, arith, Bool, true, false, ◌&&◌, not, List, [], ◌∷◌, ◌++◌, length, refl, sym, ap, subst, ◌∙◌, inl, inr}
use Rattle.std.specs.Prelude.{IsTrue, None, Option, Some, if◌then◌else◌, max, ◌==◌}
use Rattle.std.specs.Option.{ForSome}
use Rattle.std.proofs.lemmas.Bool.{and_from, eq-eqb, eqb-true, false≢true, true≢false}
use Rattle.aft_records.specs.declared.stored.Commit.{Commit}
use Rattle.aft_records.specs.Limits.{is_time}
use Rattle.aft_model.specs.declared.caller.Attempt.{Attempt}
use Rattle.aft_model.specs.declared.caller.By.{By}
use Rattle.aft_model.specs.declared.caller.Hold.{Hold}
use Rattle.aft_model.specs.declared.node.NodeAct.{NodeAct}
use Rattle.aft_model.specs.declared.node.NodeAct.TheVariants as acts
use Rattle.aft_model.specs.declared.node.NodeEntry.{NodeEntry}
use Rattle.aft_model.specs.declared.reply.Reply.{Reply}
use Rattle.aft_model.specs.declared.reply.Reply.TheVariants as replies
use Rattle.aft_model.specs.Attempts.{AttemptState, IsInDoubt, IsRunning, Write, buffer, fixed_commit, is_in_doubt, is_running, open_reads, uuid_of}
use Rattle.aft_model.specs.declared.door.DoorEntry.{DoorEntry}
use Rattle.aft_model.specs.LegalNode.{LegalNode}
use Rattle.aft_model.specs.NodeSights.{has_seen}
use Rattle.aft_model.specs.NodeState.{node_state, part, serves, service}
use Rattle.aft_ledger.specs.Turns.{commit_of}
use Rattle.aft_ledger.specs.View.{NodeView, after_entry, answered}
use Rattle.aft_lines.specs.Advance.{advance, if_so, settled_with}
use Rattle.aft_lines.specs.CausesAttempts.{is_ready, passes_end, state_in}
use Rattle.aft_lines.specs.CommitCourse.{leaves, storing_of}
use Rattle.aft_lines.specs.CourseWords.{Ends}
use Rattle.aft_lines.specs.LegalTrace.{is_held_attempt}
use Rattle.aft_lines.specs.LineView.{fixed_by, is_served}
use Rattle.aft_lines.specs.Progress.{IsStoring, MustLeave, NotBegun, Progress, Settling}
use Rattle.aft_lines.specs.Turns.{AtNode, Turn}
use Rattle.law_attempts.proofs.Attempts.{fixed_keys}
use Rattle.law_attempts.proofs.Standing.{same_itself}
use Rattle.aft_node.specs.Committing.{end_refusal, finish_refusal, fixed, fixed_go, leave_by, leave_done, leave_go, leave_go_by, left, left_go, open_refusal, record_of, settled, start_by, start_done, start_go, start_go_by, values_of, writes_nothing}
use Rattle.aft_node.specs.Held.{doing}
use Rattle.aft_node.specs.Outcomes.{Leads}
use Rattle.aft_node.specs.declared.goes.StartGo.{StartGo}
use Rattle.aft_node.specs.declared.goes.StartGo.TheVariants as starts
use Rattle.aft_commit.specs.declared.outcome.Outcome.TheVariants.{Left}
use Rattle.aft_commit.specs.declared.stage.Stage.{Stage}
use Rattle.aft_commit.specs.declared.stage.Stage.TheVariants.{Begins, Ended, Releases, Settles, Stores}
use Rattle.aft_commit.specs.Made.{HasCome, HasEnded, command_of, is_own, is_own_silent, made_at}
use Rattle.aft_commit.specs.Told.{AnswersAtOnce, EndedAtOnce, HasBegun, IsQuiet, IsToLeave, IsToStore, may_leave_with}
use Rattle.aft_commit.specs.View.{FitsAt, opened_stage}
use Rattle.aft_commit.proofs.Found.{doubted_so, fixed_settled, fixed_started, passed_so, ready_so}
use Rattle.aft_turns.specs.Steps.{StepsAtNode}
use Rattle.aft_turns.specs.Trail.{Trail, behind, no_trail}

-- where it leads fits the node
pub fits_so : (node : ℕ) (go : StartGo) (attempt : Option Attempt) (aborts : Bool) → ForSome attempt (λ a. a.node ≡ node) → FitsAt node (opened_stage go attempt aborts)
fits_so node (starts.Store who r values) (Some a) aborts here = here a refl
fits_so node (starts.Settle who r values) (Some a) aborts here = here a refl
fits_so node (starts.Release who uuid) (Some a) aborts here = here a refl
fits_so node starts.Answered (Some a) aborts here = tt
fits_so node (starts.Store who r values) None aborts here = tt
fits_so node (starts.Settle who r values) None aborts here = tt
fits_so node (starts.Release who uuid) None aborts here = tt
fits_so node starts.Answered None aborts here = tt

-- where there is no attempt, or it was answered, it is over
over_so : (attempt : Option Attempt) (aborts : Bool) → opened_stage starts.Answered attempt aborts ≡ Ended
over_so None aborts = refl
over_so (Some a) aborts = refl

module _ (now handed : ℕ) (by : By) (hold : Hold) (old new : NodeView) (legal : LegalNode old.number old.capacity old.history) (place : hold.node ≡ old.number) (here : ForSome hold.attempt (λ a. a.node ≡ old.number)) where
  abbrev pub OpenStep : Bool → Stage → Type 0
  OpenStep aborts stage = StepsAtNode by handed (made_at now by hold aborts Begins) (made_at now by hold aborts stage) old new

  abbrev entry_with : NodeAct → Option Reply → NodeEntry
  entry_with act answer = record { front = max old.front handed; by = by; act = act; answer = answer }

  abbrev turn_with : NodeAct → Option Reply → Turn
  turn_with act answer = AtNode old.number old.history (entry_with act answer)

  -- a turn of it stands at the line's node
  stands_here : IsTrue (hold.node == old.number)
  stands_here = eq-eqb hold.node old.number place

  own_nothing : (aborts : Bool) (reply : Reply) → IsTrue (is_own now hold aborts (turn_with acts.Nothing (Some reply)))
  own_nothing true reply = and_from _ _ (and_from _ _ stands_here refl) refl
  own_nothing false reply = and_from _ _ (and_from _ _ stands_here refl) refl

  once : (aborts : Bool) (reply : Reply) → HasEnded now by hold aborts (behind no_trail (turn_with acts.Nothing (Some reply)))
  once true reply = record { since = []; last = turn_with acts.Nothing (Some reply); turns = refl; own = refl; last_own = own_nothing true reply; answers = refl; leads = λ nodes ends fit. refl; sees = λ seen own. refl }
  once false reply = record { since = []; last = turn_with acts.Nothing (Some reply); turns = refl; own = refl; last_own = own_nothing false reply; answers = refl; leads = λ nodes ends fit. refl; sees = λ seen own. refl }

  -- it was answered at once, for a reason
  answered_once : (aborts : Bool) (reply : Reply) → AnswersAtOnce now hold aborts old reply → new ≡ answered handed by reply old → OpenStep aborts Ended
  answered_once aborts reply why made = (acts.Nothing, Some reply, made, λ trail stood. subst (λ (t : Trail). made_at now by hold aborts Ended (behind t (turn_with acts.Nothing (Some reply)))) (sym stood.0) (once aborts reply, inl told))
    where
      told : EndedAtOnce now by hold aborts (behind no_trail (turn_with acts.Nothing (Some reply)))
      told = record { node = old; front = max old.front handed; reply = reply; turns = refl; answers = why }

  -- it went on
  abbrev begun_first : (act : NodeAct) → HasBegun by (turn_with act None ∷ [])
  begun_first act = record { node = old.number; before = old.history; front = max old.front handed; act = act; rest = []; turns = refl }

  quiet_first : (c : Commit) (act : NodeAct) → IsQuiet c (turn_with act None ∷ [])
  quiet_first c act = record { unfailed = λ who. refl; undamaged = λ who. refl }

  module _ (a : Attempt) (held : hold.attempt ≡ Some a) where
    its_own : IsTrue (is_held_attempt hold.attempt a)
    its_own = subst (λ (o : Option Attempt). IsTrue (is_held_attempt o a)) (sym held) (same_itself a)

    first_come : (aborts : Bool) (position : Progress) (act : NodeAct) → IsTrue (is_own_silent now hold aborts (turn_with act None)) → ((seen : List DoorEntry) → IsTrue (has_seen old.number seen by old.history act None)) → ((nodes : List ℕ) (ends : Ends) → advance (command_of aborts) nodes ends NotBegun (turn_with act None) ≡ Some position) → HasCome now by hold aborts a position (behind no_trail (turn_with act None))
    first_come aborts position act own asks leads = record {
      held = held;
      place = here a held ∙ sym place;
      own = and_from _ _ own refl;
      leads = leads;
      sees = λ seen none. asks seen;
    }

    -- the first turn is made by a line that has done nothing
    first_step : (aborts : Bool) (act : NodeAct) (stage : Stage) → new ≡ after_entry handed by act None old → made_at now by hold aborts stage (behind no_trail (turn_with act None)) → OpenStep aborts stage
    first_step aborts act stage made stands = (act, None, made, λ trail stood. subst (λ (t : Trail). made_at now by hold aborts stage (behind t (turn_with act None))) (sym stood.0) stands)

    -- what holds of the attempt holds of the one that is held
    of_held : (P : Option Attempt → Type 0) → P (Some a) → P hold.attempt
    of_held P holds = subst P (sym held) holds

    own_leave : (aborts : Bool) → IsTrue (is_own_silent now hold aborts (turn_with (acts.Leave a) None))
    own_leave true = and_from _ _ (and_from _ _ (and_from _ _ stands_here its_own) refl) refl
    own_leave false = and_from _ _ (and_from _ _ (and_from _ _ stands_here its_own) refl) refl

    own_settle : (aborts : Bool) → IsTrue (is_own_silent now hold aborts (turn_with (acts.Settle a) None))
    own_settle true = and_from _ _ (and_from _ _ (and_from _ _ stands_here its_own) refl) refl
    own_settle false = and_from _ _ (and_from _ _ (and_from _ _ stands_here its_own) refl) refl

    own_start : (c : Commit) → IsTrue (is_own_silent now hold false (turn_with (acts.Start a now c) None))
    own_start c = and_from _ _ (and_from _ _ (and_from _ _ stands_here its_own) (eq-eqb now now refl)) refl

    module _ (serve : IsTrue (serves a.inc (node_state old.history))) where
      left_step : (aborts : Bool) → IsTrue (is_running (doing old a)) → IsTrue (open_reads a (part old.history) == 0) → IsTrue (leaves aborts (buffer a (part old.history))) → new ≡ left handed by a old → OpenStep aborts (Releases a (uuid_of a (part old.history)) (Left aborts))
      left_step aborts runs read may made =
          first_step aborts (acts.Leave a) (Releases a (uuid_of a (part old.history)) (Left aborts)) made (
            (MustLeave aborts a (uuid_of a (part old.history)), refl, first_come aborts (MustLeave aborts a (uuid_of a (part old.history))) (acts.Leave a) (own_leave aborts) (λ seen. refl) (led aborts may)),
            (refl, ready),
          )
        where
          led : (t : Bool) → IsTrue (leaves t (buffer a (part old.history))) → (nodes : List ℕ) (ends : Ends) → advance (command_of t) nodes ends NotBegun (turn_with (acts.Leave a) None) ≡ Some (MustLeave t a (uuid_of a (part old.history)))
          led true may nodes ends = ap (λ (p : Bool). if_so p (MustLeave true a (uuid_of a (part old.history)))) may
          led false may nodes ends = ap (λ (p : Bool). if_so p (MustLeave false a (uuid_of a (part old.history)))) may

          few : (t : Bool) (writes : List Write) → IsTrue (leaves t writes) → IsTrue (may_leave_with t (length writes))
          few true writes is = refl
          few false [] is = refl
          few false (w ∷ writes) is = absurd (false≢true is)

          ready : IsToLeave by hold aborts (turn_with (acts.Leave a) None ∷ [])
          ready = record {
            begun = begun_first (acts.Leave a);
            ready = of_held (λ o. IsTrue (is_served (is_ready (may_leave_with aborts)) o (service old.history))) (ready_so a old.history serve runs read (may_leave_with aborts) (few aborts (buffer a (part old.history)) may));
          }

      settle_step : (aborts : Bool) (c : Commit) (values : List (List ℕ)) → doing old a ≡ IsInDoubt c → (aborts ≡ false → values ≡ values_of a old) → new ≡ settled handed by a old → OpenStep aborts (Settles a (record_of a old c) values)
      settle_step aborts c values is its made =
          first_step aborts (acts.Settle a) (Settles a (record_of a old c) values) made (
            (
              buffer a (part old.history),
              fixed_keys old.number old.capacity a.inc old.history legal serve a c (ap fixed_commit is),
              its,
              first_come aborts (Settling aborts (storing_of a (part old.history) c)) (acts.Settle a) (own_settle aborts) (λ seen. refl) (led aborts),
            ),
            (stores, quiet_first c (acts.Settle a)),
          )
        where
          led : (t : Bool) (nodes : List ℕ) (ends : Ends) → advance (command_of t) nodes ends NotBegun (turn_with (acts.Settle a) None) ≡ Some (Settling t (storing_of a (part old.history) c))
          led true nodes ends = ap (λ (o : Option Commit). settled_with true a (part old.history) o) (ap fixed_commit is)
          led false nodes ends = ap (λ (o : Option Commit). settled_with false a (part old.history) o) (ap fixed_commit is)

          stores : IsToStore by hold aborts c (turn_with (acts.Settle a) None ∷ [])
          stores = record {
            begun = begun_first (acts.Settle a);
            fixed = of_held (λ o. fixed_by o (part (old.history ++ entry_with (acts.Settle a) None ∷ [])) ≡ Some c) (fixed_settled a old.history serve (entry_with (acts.Settle a) None) c refl is);
            doubted = λ abort. of_held (λ o. IsTrue (is_served (λ b s. is_in_doubt (state_in b s)) o (service old.history))) (doubted_so a old.history serve (ap is_in_doubt is));
          }

      fix_step : new ≡ after_entry handed by (acts.Start a now (commit_of now a old.history)) None old → OpenStep false (Stores a (record_of a old (commit_of now a old.history)) (values_of a old) 0)
      fix_step made =
          first_step false (acts.Start a now (commit_of now a old.history)) (Stores a (record_of a old (commit_of now a old.history)) (values_of a old) 0) made (
            (
              buffer a (part old.history),
              refl,
              refl,
              refl,
              first_come false (IsStoring (storing_of a (part old.history) (commit_of now a old.history)) (buffer a (part old.history))) (acts.Start a now (commit_of now a old.history)) (own_start (commit_of now a old.history)) (λ seen. refl) (λ nodes ends. refl),
            ),
            (stores, quiet_first (commit_of now a old.history) (acts.Start a now (commit_of now a old.history)), λ who. refl),
          )
        where
          stores : IsToStore by hold false (commit_of now a old.history) (turn_with (acts.Start a now (commit_of now a old.history)) None ∷ [])
          stores = record {
            begun = begun_first (acts.Start a now (commit_of now a old.history));
            fixed = of_held (λ o. fixed_by o (part (old.history ++ entry_with (acts.Start a now (commit_of now a old.history)) None ∷ [])) ≡ Some (commit_of now a old.history)) (fixed_started a old.history serve (entry_with (acts.Start a now (commit_of now a old.history)) None) now (commit_of now a old.history) refl);
            doubted = λ abort. absurd (false≢true abort);
          }

    -- ---- what a commit and an abort do

    none_buffered : (writes : List Write) → IsTrue (length writes == 0) → IsTrue (leaves false writes)
    none_buffered [] is = refl
    none_buffered (w ∷ writes) is = absurd (some (length writes) (eqb-true (length (w ∷ writes)) 0 is))
      where
        some : (n : ℕ) → suc n ≡ 0 → ⊥
        some n e = omega arith

    -- where it leads, by the way that was gone
    abbrev To : Bool → StartGo → Type 0
    To aborts go = OpenStep aborts (opened_stage go (Some a) aborts)

    -- of an attempt that runs each read is over
    over_reads : (none : Bool) (count : ℕ) → (if none then None else Some (replies.OpenReads count)) ≡ None → IsTrue none
    over_reads true count free = refl
    over_reads false count free = absurd (some_is free)
      where
        some_is : Some (replies.OpenReads count) ≡ None → ⊥
        some_is e = cc

    module _ (serve : IsTrue (serves a.inc (node_state old.history))) where
      module _ (runs : IsTrue (is_running (doing old a))) (read : IsTrue (open_reads a (part old.history) == 0)) where
        fixing : (timely : Bool) → is_time (commit_of now a old.history).id.time ≡ timely → writes_nothing a old ≡ false → new ≡ (if timely then after_entry handed by (acts.Start a now (commit_of now a old.history)) None old else answered handed by replies.ClockEnd old)
            → To false (if timely then starts.Store (record { node = old.number; inc = a.inc; by = by }) (record_of a old (commit_of now a old.history)) (values_of a old) else starts.Answered)
        fixing true is some made = fix_step serve made
        fixing false is some made =
            answered_once false replies.ClockEnd
            (inr (inr (refl, refl, of_held (λ o. IsTrue (is_served (λ b s. is_ready (λ count. not (count == 0)) b s && passes_end (Some now) b s) o (service old.history))) (passed_so a old.history serve runs read now (ap not some) is)))) made

        running : (nothing : Bool) → writes_nothing a old ≡ nothing → new ≡ (if nothing then left handed by a old else fixed handed by now a old (commit_of now a old.history)) → To false (if nothing then left_go by a old else fixed_go by a old (commit_of now a old.history))
        running true is made = left_step serve false runs read (none_buffered (buffer a (part old.history)) is) made
        running false is made = fixing (is_time (commit_of now a old.history).id.time) refl is made

      start_so : (state : AttemptState) → doing old a ≡ state → finish_refusal (open_refusal a old) state ≡ None → new ≡ start_by handed by now a old state → To false (start_go_by by now a old state)
      start_so IsRunning is free made = running (ap is_running is) (over_reads (open_reads a (part old.history) == 0) (open_reads a (part old.history)) free) (writes_nothing a old) refl made
      start_so (IsInDoubt c) is free made = settle_step serve false c (values_of a old) is (λ commits. refl) made
      start_so state is free made = absurd (some_is free)
        where
          some_is : {r : Reply} → Some r ≡ None → ⊥
          some_is e = cc

      leave_so : (state : AttemptState) → doing old a ≡ state → finish_refusal (open_refusal a old) state ≡ None → new ≡ leave_by handed by a old state → To true (leave_go_by by a old state)
      leave_so IsRunning is free made = left_step serve true (ap is_running is) (over_reads (open_reads a (part old.history) == 0) (open_reads a (part old.history)) free) (all_leave (buffer a (part old.history))) made
        where
          all_leave : (writes : List Write) → IsTrue (leaves true writes)
          all_leave [] = refl
          all_leave (w ∷ writes) = refl
      leave_so (IsInDoubt c) is free made = settle_step serve true c [] is (λ commits. absurd (true≢false commits)) made
      leave_so state is free made = absurd (some_is free)
        where
          some_is : {r : Reply} → Some r ≡ None → ⊥
          some_is e = cc

  -- the held attempt is served, and may end
  free_so : (a : Attempt) (serve : Bool) → serves a.inc (node_state old.history) ≡ serve → end_refusal (Some a) old ≡ None → IsTrue (serves a.inc (node_state old.history)) × (finish_refusal (open_refusal a old) (doing old a) ≡ None)
  free_so a true is free = (is, subst (λ (t : Bool). (if t then finish_refusal (open_refusal a old) (doing old a) else Some (replies.NodeDown old.number a.inc)) ≡ None) is free)
  free_so a false is free = absurd (some_is (subst (λ (t : Bool). (if t then finish_refusal (open_refusal a old) (doing old a) else Some (replies.NodeDown old.number a.inc)) ≡ None) is free))
    where
      some_is : {r : Reply} → Some r ≡ None → ⊥
      some_is e = cc

  module _ (aborts : Bool) (done : Option Attempt → NodeView) (leads_on : Option Attempt → StartGo)
      (goes : (a : Attempt) → hold.attempt ≡ Some a → IsTrue (serves a.inc (node_state old.history)) → finish_refusal (open_refusal a old) (doing old a) ≡ None → new ≡ done (Some a) → OpenStep aborts (opened_stage (leads_on (Some a)) (Some a) aborts)) where
    over : (attempt : Option Attempt) (go : StartGo) (reply : Reply) → AnswersAtOnce now hold aborts old reply → new ≡ answered handed by reply old → go ≡ starts.Answered → OpenStep aborts (opened_stage go attempt aborts)
    over attempt go reply why made is = subst (OpenStep aborts) (sym (ap (λ (g : StartGo). opened_stage g attempt aborts) is ∙ over_so attempt aborts)) (answered_once aborts reply why made)

    by_refusal : (attempt : Option Attempt) → hold.attempt ≡ attempt → (go : StartGo) (why : Option Reply) → end_refusal attempt old ≡ why → Leads handed by starts.Answered why (done attempt) (leads_on attempt) old new go → OpenStep aborts (opened_stage go attempt aborts)
    by_refusal attempt held go (Some reply) is (made, went) = over attempt go reply (inr (inl (ap (λ (o : Option Attempt). end_refusal o old) held ∙ is, here))) made went
    by_refusal attempt held go None is (inr (made, went)) = over attempt go replies.NoMemory (inl refl) made went
    by_refusal (Some a) held go None is (inl (made, went)) =
        let may = free_so a (serves a.inc (node_state old.history)) refl is in
        subst (λ (g : StartGo). OpenStep aborts (opened_stage g (Some a) aborts)) (sym went) (goes a held may.0 may.1 made)
    by_refusal None held go None is (inl (made, went)) = absurd (some_is is)
      where
        some_is : {r : Reply} → Some r ≡ None → ⊥
        some_is e = cc

  pub start_step : (go : StartGo) → Leads handed by starts.Answered (end_refusal hold.attempt old) (start_done handed by now hold.attempt old) (start_go by now hold.attempt old) old new go → OpenStep false (opened_stage go hold.attempt false)
  start_step go leads = by_refusal false (λ attempt. start_done handed by now attempt old) (λ attempt. start_go by now attempt old) (λ a held serve free made. start_so a held serve (doing old a) refl free made) hold.attempt refl go (end_refusal hold.attempt old) refl leads

  pub leave_step : (go : StartGo) → Leads handed by starts.Answered (end_refusal hold.attempt old) (leave_done handed by hold.attempt old) (leave_go by hold.attempt old) old new go → OpenStep true (opened_stage go hold.attempt true)
  leave_step go leads = by_refusal true (λ attempt. leave_done handed by attempt old) (λ attempt. leave_go by attempt old) (λ a held serve free made. leave_so a held serve (doing old a) refl free made) hold.attempt refl go (end_refusal hold.attempt old) refl leads
