-- The cause of what the first turn of a commit or an abort answers at once.
use Rattle.std.proofs.Common.{◌≡◌, ℕ, Bool, true, false, ◌&&◌, ◌||◌, not, [], ◌∷◌, refl, sym, ap, subst, inl, inr}
use Rattle.std.specs.Option.{ForSome, option_or}
use Rattle.std.specs.Prelude.{IsTrue, None, Option, Some, if◌then◌else◌, is_none, ◌==◌}
use Rattle.std.proofs.lemmas.Bool.{and_from, and_parts, eq-eqb, eqb-true, false≢true, or_left, or_right}
use Rattle.aft_model.specs.declared.caller.Attempt.{Attempt}
use Rattle.aft_model.specs.declared.caller.By.{By}
use Rattle.aft_model.specs.declared.caller.Hold.{Hold}
use Rattle.aft_model.specs.declared.node.NodeAct.TheVariants as acts
use Rattle.aft_model.specs.declared.reply.Reply.{Reply}
use Rattle.aft_model.specs.declared.reply.Reply.TheVariants as replies
use Rattle.aft_model.specs.Attempts.{AttemptState, IsCommitting, IsGone, IsInDoubt, IsLeaving, IsOpening, IsRunning, attempt_state, is_committing, is_gone, is_leaving, is_opening, is_running, open_reads}
use Rattle.aft_model.specs.Membership.{Incarnation, incarnation}
use Rattle.aft_model.specs.NodeState.{Service, node_state, part, part_in, serves, service}
use Rattle.aft_ledger.specs.View.{NodeView}
use Rattle.aft_lines.specs.Causes.{Caused}
use Rattle.aft_lines.specs.CausesAttempts.{is_ready, is_refused_by, passes_end, speaks_of_attempt, state_in}
use Rattle.aft_lines.specs.CausesNodes.{is_down_by, is_lost, is_of_held}
use Rattle.aft_lines.specs.CausesAttempts.{ends_attempt}
use Rattle.aft_lines.specs.LegalTrace.{is_clock_time}
use Rattle.aft_lines.specs.LineView.{LineView, is_commit, is_served}
use Rattle.aft_node.specs.Committing.{end_refusal, finish_refusal, open_refusal}
use Rattle.aft_turns.proofs.Found.{found_so}
use Rattle.aft_turns.proofs.Views.{with_words}
use Rattle.aft_commit.specs.Made.{command_of}
use Rattle.aft_commit.specs.Told.{AnswersAtOnce, turn_at}

-- ---- commits and aborts alike

pub speaks : (aborts : Bool) → IsTrue (speaks_of_attempt (command_of aborts))
speaks true = refl
speaks false = refl

ends_it : (aborts : Bool) → IsTrue (ends_attempt (command_of aborts))
ends_it true = refl
ends_it false = refl

refused_alike : (aborts : Bool) (state : AttemptState) → IsTrue (is_opening state || is_committing state || is_leaving state) → IsTrue (is_refused_by state (command_of aborts))
refused_alike true state is = is
refused_alike false state is = is

pub down_alike : (aborts : Bool) (who : Incarnation) (view : LineView) → IsTrue (is_of_held who view.hold.attempt) → IsTrue (is_lost who view) → IsTrue (is_down_by who (command_of aborts) view)
down_alike true who view held lost = and_from _ _ held lost
down_alike false who view held lost = and_from _ _ held lost

-- what a test of an attempt that is served implies
served_implied : (p q : Attempt → Service → Bool) → ((a : Attempt) (s : Service) → IsTrue (p a s) → IsTrue (q a s)) → (attempt : Option Attempt) (serving : Option Service) → IsTrue (is_served p attempt serving) → IsTrue (is_served q attempt serving)
served_implied p q more (Some a) (Some s) is =
    let parts = and_parts (a.inc == s.inc) (p a s) is in
    and_from _ _ parts.0 (more a s parts.1)
served_implied p q more None s is = absurd (false≢true is)
served_implied p q more (Some a) None is = absurd (false≢true is)

module _ (clock : ℕ) (by : By) (hold : Hold) (aborts : Bool) (node : NodeView) (front : ℕ) (view : LineView) where
  -- the line whose one turn answered this
  abbrev pub ran : Reply → LineView
  ran reply = with_words (command_of aborts) hold (turn_at by node.number node.history front acts.Nothing (Some reply) ∷ []) view

  abbrev IsCaused : Reply → Type 0
  IsCaused reply = Caused (ran reply) reply

  one_reply : (r q : Reply) → Some r ≡ Some q → r ≡ q
  one_reply r q e = cc

  module _ (a : Attempt) (held : hold.attempt ≡ Some a) where
    -- what holds of the attempt holds of the one that is held
    of_held : (P : Option Attempt → Type 0) → P (Some a) → P hold.attempt
    of_held P holds = subst P (sym held) holds

    down : a.node ≡ node.number → serves a.inc (node_state node.history) ≡ false → IsCaused (replies.NodeDown node.number a.inc)
    down here is =
        down_alike aborts (incarnation node.number a.inc) (ran (replies.NodeDown node.number a.inc))
        (of_held (λ o. IsTrue (is_of_held (incarnation node.number a.inc) o)) (and_from _ _ (eq-eqb node.number a.node (sym here)) (eq-eqb a.inc a.inc refl)))
        (or_left _ _ (or_left _ _ (ap not is)))

    module _ (serve : IsTrue (serves a.inc (node_state node.history))) where
      -- by what the attempt is doing
      found : (test : AttemptState → Bool) → IsTrue (test (attempt_state a (part node.history))) → IsTrue (is_served (λ b s. test (state_in b s)) hold.attempt (service node.history))
      found test is =
          of_held (λ o. IsTrue (is_served (λ b s. test (state_in b s)) o (service node.history)))
          (found_so a node.history serve (λ b s. test (state_in b s)) (λ s of. subst (λ (o : Option Service). IsTrue (test (attempt_state a (part_in o)))) of is))

      busy : IsTrue (is_opening (attempt_state a (part node.history)) || is_committing (attempt_state a (part node.history)) || is_leaving (attempt_state a (part node.history))) → IsCaused replies.Committing
      busy is = found (λ state. is_refused_by state (command_of aborts)) (refused_alike aborts (attempt_state a (part node.history)) is)

      reading : IsTrue (is_running (attempt_state a (part node.history))) → (reply : Reply) (none : Bool) → (open_reads a (part node.history) == 0) ≡ none → (if none then None else Some (replies.OpenReads (open_reads a (part node.history)))) ≡ Some reply → IsCaused reply
      reading runs reply true is told = absurd (none_is told)
        where
          none_is : None ≡ Some reply → ⊥
          none_is e = cc
      reading runs reply false is told =
          subst IsCaused (one_reply (replies.OpenReads (open_reads a (part node.history))) reply told)
          (and_from _ _ (and_from _ _ (ends_it aborts) (ap not is))
          (of_held (λ o. IsTrue (is_served (λ b s. is_running (state_in b s) && open_reads b s.part == open_reads a (part node.history)) o (service node.history)))
          (found_so a node.history serve (λ b s. is_running (state_in b s) && open_reads b s.part == open_reads a (part node.history)) (λ s of.
          subst (λ (o : Option Service). IsTrue (is_running (attempt_state a (part_in o)) && open_reads a (part_in o) == open_reads a (part node.history))) of
          (and_from _ _ runs (eq-eqb (open_reads a (part node.history)) (open_reads a (part node.history)) refl))))))

      refused_in : (reply : Reply) (state : AttemptState) → attempt_state a (part node.history) ≡ state → finish_refusal (open_refusal a node) state ≡ Some reply → IsCaused reply
      refused_in reply IsGone at is =
          subst IsCaused (one_reply replies.NoTransaction reply is) (and_from _ _ (speaks aborts) (or_right (is_none hold.attempt) _ (found is_gone (ap is_gone at))))
      refused_in reply IsRunning at is = reading (ap is_running at) reply (open_reads a (part node.history) == 0) refl is
      refused_in reply (IsInDoubt c) at is = absurd (none_is is)
        where
          none_is : None ≡ Some reply → ⊥
          none_is e = cc
      refused_in reply IsOpening at is = subst IsCaused (one_reply replies.Committing reply is) (busy (ap (λ (q : AttemptState). is_opening q || is_committing q || is_leaving q) at))
      refused_in reply (IsCommitting c) at is = subst IsCaused (one_reply replies.Committing reply is) (busy (ap (λ (q : AttemptState). is_opening q || is_committing q || is_leaving q) at))
      refused_in reply IsLeaving at is = subst IsCaused (one_reply replies.Committing reply is) (busy (ap (λ (q : AttemptState). is_opening q || is_committing q || is_leaving q) at))

  refused : (attempt : Option Attempt) (reply : Reply) → hold.attempt ≡ attempt → ForSome attempt (λ a. a.node ≡ node.number) → end_refusal attempt node ≡ Some reply → IsCaused reply
  refused None reply held here is =
      subst IsCaused (one_reply replies.NoTransaction reply is)
      (and_from _ _ (speaks aborts) (subst (λ (o : Option Attempt). IsTrue (is_none o || is_served (λ b s. is_gone (state_in b s)) o (service node.history))) (sym held) refl))
  refused (Some a) reply held here is = by_service (serves a.inc (node_state node.history)) refl is
    where
      by_service : (it : Bool) → serves a.inc (node_state node.history) ≡ it → (if it then finish_refusal (open_refusal a node) (attempt_state a (part node.history)) else Some (replies.NodeDown node.number a.inc)) ≡ Some reply → IsCaused reply
      by_service true serve is = refused_in a held serve reply (attempt_state a (part node.history)) refl is
      by_service false gone is = subst IsCaused (one_reply (replies.NodeDown node.number a.inc) reply is) (down a held (here a refl) gone)

  -- the end of the clock, where the line's clock is this one, if it is told
  abbrev passes : Option ℕ → Attempt → Service → Bool
  passes read b s = is_ready (λ count. not (count == 0)) b s && passes_end read b s

  passed : (told : Option ℕ) → IsTrue (is_clock_time told clock) → IsTrue (is_served (passes (Some clock)) hold.attempt (service node.history)) → IsTrue (is_served (passes (option_or told None)) hold.attempt (service node.history))
  passed None timely is =
      served_implied (passes (Some clock)) (passes None) (λ b s both. and_from _ _ (and_parts (is_ready (λ count. not (count == 0)) b s) (passes_end (Some clock) b s) both).0 refl) hold.attempt (service node.history) is
  passed (Some time) timely is = subst (λ (t : ℕ). IsTrue (is_served (passes (Some t)) hold.attempt (service node.history))) (sym (eqb-true time clock timely)) is

  pub caused_once : (reply : Reply) → IsTrue (is_clock_time view.clock clock) → AnswersAtOnce clock hold aborts node reply → IsCaused reply
  caused_once reply timely (inl is) = subst IsCaused (sym is) refl
  caused_once reply timely (inr (inl (is, here))) = refused hold.attempt reply refl here is
  caused_once reply timely (inr (inr (commits, is, late))) =
      subst IsCaused (sym is) (and_from _ _ (subst (λ (t : Bool). IsTrue (is_commit (command_of t))) (sym commits) refl) (passed view.clock timely late))
