-- What stands of a put by the turns that it has made.
use Rattle.std.proofs.Common.{◌≡◌, ◌≢◌, ℕ, ◌≤◌, Bool, true, false, List, [], ◌∷◌, refl, sym, ap, subst, inl, inr, arith}
use Rattle.std.specs.Prelude.{IsTrue, Option, Some, None, is_some}
use Rattle.std.proofs.lemmas.Bool.{and_from, eq-eqb}
use Rattle.aft_model.specs.declared.caller.Attempt.{Attempt}
use Rattle.aft_model.specs.declared.caller.By.{By}
use Rattle.aft_model.specs.declared.caller.Hold.{Hold}
use Rattle.aft_model.specs.declared.door.DoorEntry.{DoorEntry}
use Rattle.aft_model.specs.declared.node.NodeAct.{NodeAct}
use Rattle.aft_model.specs.declared.node.NodeAct.TheVariants as acts
use Rattle.aft_model.specs.declared.node.NodeEntry.{NodeEntry}
use Rattle.aft_model.specs.declared.reply.Reply.{Reply}
use Rattle.aft_model.specs.declared.script.Command.TheVariants as commands
use Rattle.aft_model.specs.NodeSights.{has_seen}
use Rattle.aft_model.proofs.Sights.{bytes_eq-refl}
use Rattle.aft_lines.specs.Advance.{if_so, is_led_to_end}
use Rattle.aft_lines.specs.LegalTrace.{act_of, node_words}
use Rattle.aft_lines.specs.LineCourse.{puts_or_answers}
use Rattle.aft_lines.specs.LineCourse.{answers_last}
use Rattle.aft_lines.specs.LineView.{LineView}
use Rattle.aft_lines.specs.Makes.{puts_at_node}
use Rattle.aft_lines.specs.Progress.{IsOver}
use Rattle.aft_lines.specs.RunsSoFar.{position_of}
use Rattle.aft_lines.specs.Turns.{Turn}
use Rattle.law_attempts.proofs.Standing.{same_itself}
use Rattle.aft_turns.specs.Stands.{EndsRightly, GoesRightly, IsUnanswered, RanSo, is_right, last_sees}
use Rattle.aft_turns.specs.Trail.{Trail}
use Rattle.aft_turns.specs.declared.turn.Where.TheVariants as places
use Rattle.aft_turns.proofs.Closed.{led_is_some}
use Rattle.aft_turns.proofs.Views.{by_words, with_words}
use Rattle.aft_read.specs.Made.{turn_at}
use Rattle.aft_machine.specs.PutMade.{Puts, made_at}
use Rattle.aft_machine.specs.PutView.{left_at, next_at}
use Rattle.aft_machine.specs.declared.buffering.Stage.{Stage}
use Rattle.aft_machine.specs.declared.buffering.Stage.TheVariants.{Begins, Ended}
use Rattle.aft_machine.proofs.PutCaused.{caused_so}

-- a turn of a course that is passed leads to its end
led : (passed : Bool) → IsTrue passed → IsTrue (is_led_to_end (if_so passed IsOver))
led true is = refl
led false is = absurd cc

module _ (by : By) (hold : Hold) (key value : List ℕ) where
  module _ (before : List NodeEntry) (front : ℕ) where
    some_answer : (act : NodeAct) (answer : Option Reply) → Puts hold key value before act answer → IsTrue (is_some answer)
    some_answer act answer (inl (did, told)) = subst (λ (o : Option Reply). IsTrue (is_some o)) (sym told) refl
    some_answer act answer (inr (inl (did, some, told, ours))) = some
    some_answer act answer (inr (inr (inl (a, runs, room, did, told)))) = subst (λ (o : Option Reply). IsTrue (is_some o)) (sym told) refl
    some_answer act answer (inr (inr (inr (a, runs, full, did, told)))) = subst (λ (o : Option Reply). IsTrue (is_some o)) (sym told) refl

    passes : (act : NodeAct) (answer : Option Reply) → Puts hold key value before act answer → IsTrue (puts_or_answers act answer)
    passes act answer (inl (did, told)) = subst (λ (x : NodeAct). IsTrue (puts_or_answers x answer)) (sym did) refl
    passes act answer (inr (inl (did, some, told, ours))) = subst (λ (x : NodeAct). IsTrue (puts_or_answers x answer)) (sym did) refl
    passes act answer (inr (inr (inl (a, runs, room, did, told)))) = subst (λ (x : NodeAct). IsTrue (puts_or_answers x answer)) (sym did) refl
    passes act answer (inr (inr (inr (a, runs, full, did, told)))) = subst (λ (x : NodeAct). IsTrue (puts_or_answers x answer)) (sym did) refl

    -- a turn at the put's node that a put makes, of this key and value and of the attempt that is held
    right_at : (act : NodeAct) (answer : Option Reply) → IsTrue (puts_at_node act) → IsTrue (node_words (commands.Put key value) act) → IsTrue (act_of hold.attempt act) → IsTrue (is_right (commands.Put key value) hold (turn_at by hold before front act answer))
    right_at act answer made carries speaks = and_from _ _ (and_from _ _ (and_from _ _ made carries) (eq-eqb hold.node hold.node refl)) speaks

    nothing_right : (act : NodeAct) (answer : Option Reply) → act ≡ acts.Nothing → IsTrue (is_right (commands.Put key value) hold (turn_at by hold before front act answer))
    nothing_right act answer did = subst (λ (x : NodeAct). IsTrue (is_right (commands.Put key value) hold (turn_at by hold before front x answer))) (sym did) (right_at acts.Nothing answer refl refl refl)

    right_so : (act : NodeAct) (answer : Option Reply) → Puts hold key value before act answer → IsTrue (is_right (commands.Put key value) hold (turn_at by hold before front act answer))
    right_so act answer (inl (did, told)) = nothing_right act answer did
    right_so act answer (inr (inl (did, some, told, ours))) = nothing_right act answer did
    right_so act answer (inr (inr (inl (a, runs, room, did, told)))) =
        subst (λ (x : NodeAct). IsTrue (is_right (commands.Put key value) hold (turn_at by hold before front x answer))) (sym did)
        (right_at (acts.Put a key value) answer refl (and_from _ _ (bytes_eq-refl key) (bytes_eq-refl value)) (subst (λ (o : Option Attempt). IsTrue (act_of o (acts.Put a key value))) (sym runs.held) (same_itself a)))
    right_so act answer (inr (inr (inr (a, runs, full, did, told)))) = nothing_right act answer did

    -- its one turn asks nothing of the door
    sees_turn : (seen : List DoorEntry) (act : NodeAct) (answer : Option Reply) → Puts hold key value before act answer → IsTrue (has_seen hold.node seen by before act answer)
    sees_turn seen act answer (inl (did, told)) = subst (λ (x : NodeAct). IsTrue (has_seen hold.node seen by before x answer)) (sym did) refl
    sees_turn seen act answer (inr (inl (did, some, told, ours))) = subst (λ (x : NodeAct). IsTrue (has_seen hold.node seen by before x answer)) (sym did) refl
    sees_turn seen act answer (inr (inr (inl (a, runs, room, did, told)))) = subst (λ (x : NodeAct). IsTrue (has_seen hold.node seen by before x answer)) (sym did) refl
    sees_turn seen act answer (inr (inr (inr (a, runs, full, did, told)))) = subst (λ (x : NodeAct). IsTrue (has_seen hold.node seen by before x answer)) (sym did) refl

    module _ (view : LineView) (act : NodeAct) (answer : Option Reply) (puts : Puts hold key value before act answer) where
      abbrev ran : LineView
      ran = with_words (commands.Put key value) hold (turn_at by hold before front act answer ∷ []) view

      leads_so : IsTrue (is_led_to_end (position_of ran))
      leads_so = by_answer answer (some_answer act answer puts) (passes act answer puts)
        where
          by_answer : (o : Option Reply) → IsTrue (is_some o) → IsTrue (puts_or_answers act o) → IsTrue (is_led_to_end (position_of (with_words (commands.Put key value) hold (turn_at by hold before front act o ∷ []) view)))
          by_answer (Some reply) some is = led (puts_or_answers act (Some reply)) is
          by_answer None some is = absurd cc

      goes : GoesRightly ran
      goes = record { leads = led_is_some (position_of ran) leads_so; right = and_from _ _ (right_so act answer puts) refl }

      ends : EndsRightly ran
      ends = record { leads = leads_so; answers = some_answer act answer puts; caused = λ reply is. caused_so by hold key value before front view act answer reply puts is }

  nothing_yet : (view : LineView) → GoesRightly (with_words (commands.Put key value) hold [] view)
  nothing_yet view = record { leads = refl; right = refl }

  -- ---- by the stage

  by_turns : (P : LineView → Type 0) (capacity : ℕ) (trail : Trail) (view : LineView) (turns : List Turn) → RanSo (commands.Put key value) hold capacity trail view → trail.turns ≡ turns → P (with_words (commands.Put key value) hold turns view) → P view
  by_turns P capacity trail view turns ran are holds = by_words P (commands.Put key value) hold capacity trail view turns ran are holds

  pub goes_so : (stage : Stage) (capacity : ℕ) (trail : Trail) (view : LineView) → made_at by hold key value stage trail → RanSo (commands.Put key value) hold capacity trail view → GoesRightly view
  goes_so (Begins asked given) capacity trail view (same_key, same_value, none) ran = by_turns GoesRightly capacity trail view [] ran (ap (λ (t : Trail). t.turns) none) (nothing_yet view)
  goes_so Ended capacity trail view it ran = by_turns GoesRightly capacity trail view _ ran it.turns (goes it.before it.front view it.act it.answer it.puts)

  pub unanswered_so : (stage : Stage) (capacity : ℕ) (trail : Trail) (view : LineView) → made_at by hold key value stage trail → RanSo (commands.Put key value) hold capacity trail view → 1 ≤ left_at stage → IsUnanswered view
  unanswered_so (Begins asked given) capacity trail view (same_key, same_value, none) ran left = by_turns IsUnanswered capacity trail view [] ran (ap (λ (t : Trail). t.turns) none) refl
  unanswered_so Ended capacity trail view it ran left = absurd (omega arith)

  pub ends_so : (stage : Stage) (capacity : ℕ) (trail : Trail) (view : LineView) → made_at by hold key value stage trail → RanSo (commands.Put key value) hold capacity trail view → next_at hold.node stage ≡ places.Done → EndsRightly view
  ends_so (Begins asked given) capacity trail view made ran done = absurd cc
  ends_so Ended capacity trail view it ran done = by_turns EndsRightly capacity trail view _ ran it.turns (ends it.before it.front view it.act it.answer it.puts)

  pub answers_so : (stage : Stage) (trail : Trail) → made_at by hold key value stage trail → next_at hold.node stage ≡ places.Done → IsTrue (answers_last trail.turns)
  answers_so (Begins asked given) trail made done = absurd cc
  answers_so Ended trail it done = subst (λ (ts : List Turn). IsTrue (answers_last ts)) (sym it.turns) (some_answer it.before it.front it.act it.answer it.puts)

  pub going_so : (stage : Stage) → next_at hold.node stage ≢ places.Done → 1 ≤ left_at stage
  going_so (Begins asked given) on = omega arith
  going_so Ended on = absurd (on refl)

  pub sees_so : (stage : Stage) (trail : Trail) (seen : List DoorEntry) → made_at by hold key value stage trail → IsTrue (last_sees seen trail.turns)
  sees_so (Begins asked given) trail seen (same_key, same_value, none) = subst (λ (ts : List Turn). IsTrue (last_sees seen ts)) (sym (ap (λ (t : Trail). t.turns) none)) refl
  sees_so Ended trail seen it = subst (λ (ts : List Turn). IsTrue (last_sees seen ts)) (sym it.turns) (sees_turn it.before it.front seen it.act it.answer it.puts)
