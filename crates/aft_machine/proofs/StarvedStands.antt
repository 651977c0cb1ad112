-- What stands of a line whose key or value couldn't be copied: it is a put or a get, whose one turn tells that memory was wanting.
use Rattle.std.proofs.Common.{arith, ◌≡◌, ◌≢◌, ℕ, ◌≤◌, Bool, true, false, List, [], ◌∷◌, ◌++◌, max, refl, sym, ap, subst, ◌∙◌, inl}
use Rattle.std.specs.Prelude.{IsTrue, Option, Some, if◌then◌else◌}
use Rattle.std.specs.List.{list_all}
use Rattle.aft_model.specs.declared.caller.By.{By}
use Rattle.aft_model.specs.declared.caller.Hold.{Hold}
use Rattle.aft_model.specs.declared.door.DoorEntry.{DoorEntry}
use Rattle.aft_model.specs.declared.node.NodeAct.TheVariants as acts
use Rattle.aft_model.specs.declared.reply.Reply.TheVariants as replies
use Rattle.aft_model.specs.declared.script.Command.{Command}
use Rattle.aft_model.specs.declared.script.Command.TheVariants as commands
use Rattle.aft_ledger.specs.View.{NodeView, answered}
use Rattle.aft_lines.specs.LineCourse.{answers_last}
use Rattle.aft_lines.specs.LineView.{LineView}
use Rattle.aft_lines.specs.Turns.{AtNode, Turn}
use Rattle.aft_machine.proofs.PutStands as puts
use Rattle.aft_machine.specs.PutMade as putting
use Rattle.aft_machine.specs.Starved.{HasStarved, is_copied, made_at, next_at}
use Rattle.aft_machine.specs.declared.buffering.Stage.TheVariants as put_stages
use Rattle.aft_read.proofs.Stands as gets
use Rattle.aft_read.specs.Made as reading
use Rattle.aft_read.specs.declared.stage.Stage.TheVariants as get_stages
use Rattle.aft_turns.specs.Stands.{EndsRightly, GoesRightly, HasLooked, IsUnanswered, RanSo, last_sees}
use Rattle.aft_turns.specs.Steps.{StepsAtNode, entry_of}
use Rattle.aft_turns.specs.Trail.{Trail}
use Rattle.aft_turns.specs.declared.turn.Where.TheVariants as places
use Rattle.law_driver.specs.Driven.{reads_clock}

module _ (by : By) (hold : Hold) where
  -- ---- as a put

  module _ (key value : List ℕ) where
    as_put : (trail : Trail) → HasStarved by hold trail → putting.made_at by hold key value put_stages.Ended trail
    as_put trail starved = record { before = starved.before; front = starved.front; act = acts.Nothing; answer = Some replies.NoMemory; turns = starved.turns; puts = inl (refl, refl) }

    put_goes : (over : Bool) (capacity : ℕ) (trail : Trail) (view : LineView) → made_at by hold over trail → RanSo (commands.Put key value) hold capacity trail view → GoesRightly view
    put_goes false capacity trail view none ran = puts.goes_so by hold key value (put_stages.Begins key value) capacity trail view (refl, refl, none) ran
    put_goes true capacity trail view starved ran = puts.goes_so by hold key value put_stages.Ended capacity trail view (as_put trail starved) ran

    put_unanswered : (over : Bool) (capacity : ℕ) (trail : Trail) (view : LineView) → made_at by hold over trail → RanSo (commands.Put key value) hold capacity trail view → 1 ≤ (if over then 0 else 1) → IsUnanswered view
    put_unanswered false capacity trail view none ran left = puts.unanswered_so by hold key value (put_stages.Begins key value) capacity trail view (refl, refl, none) ran left
    put_unanswered true capacity trail view starved ran left = absurd (omega arith)

    put_ends : (over : Bool) (capacity : ℕ) (trail : Trail) (view : LineView) → made_at by hold over trail → RanSo (commands.Put key value) hold capacity trail view → next_at hold.node over ≡ places.Done → EndsRightly view
    put_ends false capacity trail view none ran done = absurd cc
    put_ends true capacity trail view starved ran done = puts.ends_so by hold key value put_stages.Ended capacity trail view (as_put trail starved) ran refl

  -- ---- as a get

  module _ (key : List ℕ) (capacity : ℕ) where
    as_get : (trail : Trail) → HasStarved by hold trail → reading.made_at capacity by hold key get_stages.Ended trail
    as_get trail starved = inl (record { before = starved.before; front = starved.front; act = acts.Nothing; answer = Some replies.NoMemory; turns = starved.turns; answers = inl (refl, refl) })

    get_goes : (over : Bool) (trail : Trail) (view : LineView) → made_at by hold over trail → RanSo (commands.Get key) hold capacity trail view → GoesRightly view
    get_goes false trail view none ran = gets.goes_so capacity by hold key (get_stages.Begins key) trail view (refl, none) ran
    get_goes true trail view starved ran = gets.goes_so capacity by hold key get_stages.Ended trail view (as_get trail starved) ran

    get_unanswered : (over : Bool) (trail : Trail) (view : LineView) → made_at by hold over trail → RanSo (commands.Get key) hold capacity trail view → 1 ≤ (if over then 0 else 1) → IsUnanswered view
    get_unanswered false trail view none ran left = gets.unanswered_so capacity by hold key (get_stages.Begins key) trail view (refl, none) ran (omega arith)
    get_unanswered true trail view starved ran left = absurd (omega arith)

    get_ends : (over : Bool) (trail : Trail) (view : LineView) → made_at by hold over trail → RanSo (commands.Get key) hold capacity trail view → next_at hold.node over ≡ places.Done → HasLooked trail view → EndsRightly view
    get_ends false trail view none ran done looked = absurd cc
    get_ends true trail view starved ran done looked = gets.ends_so capacity by hold key get_stages.Ended trail view (as_get trail starved) ran refl looked

  -- ---- as either

  pub goes_so : (command : Command) → IsTrue (is_copied command) → (over : Bool) (capacity : ℕ) (trail : Trail) (view : LineView) → made_at by hold over trail → RanSo command hold capacity trail view → GoesRightly view
  goes_so (commands.Put key value) copied over capacity trail view made ran = put_goes key value over capacity trail view made ran
  goes_so (commands.Get key) copied over capacity trail view made ran = get_goes key capacity over trail view made ran
  goes_so command copied over capacity trail view made ran = absurd cc

  pub unanswered_so : (command : Command) → IsTrue (is_copied command) → (over : Bool) (capacity : ℕ) (trail : Trail) (view : LineView) → made_at by hold over trail → RanSo command hold capacity trail view → 1 ≤ (if over then 0 else 1) → IsUnanswered view
  unanswered_so (commands.Put key value) copied over capacity trail view made ran left = put_unanswered key value over capacity trail view made ran left
  unanswered_so (commands.Get key) copied over capacity trail view made ran left = get_unanswered key capacity over trail view made ran left
  unanswered_so command copied over capacity trail view made ran left = absurd cc

  pub ends_so : (command : Command) → IsTrue (is_copied command) → (over : Bool) (capacity : ℕ) (trail : Trail) (view : LineView) → made_at by hold over trail → RanSo command hold capacity trail view → next_at hold.node over ≡ places.Done → HasLooked trail view → EndsRightly view
  ends_so (commands.Put key value) copied over capacity trail view made ran done looked = put_ends key value over capacity trail view made ran done
  ends_so (commands.Get key) copied over capacity trail view made ran done looked = get_ends key capacity over trail view made ran done looked
  ends_so command copied over capacity trail view made ran done looked = absurd cc

  pub answers_so : (over : Bool) (trail : Trail) → made_at by hold over trail → next_at hold.node over ≡ places.Done → IsTrue (answers_last trail.turns)
  answers_so false trail none done = absurd cc
  answers_so true trail starved done = subst (λ (ts : List Turn). IsTrue (answers_last ts)) (sym starved.turns) refl

  pub going_so : (over : Bool) → next_at hold.node over ≢ places.Done → 1 ≤ (if over then 0 else 1)
  going_so false on = omega arith
  going_so true on = absurd (on refl)

  -- its turn asks nothing of the door, and reads no clock
  pub sees_so : (over : Bool) (trail : Trail) (seen : List DoorEntry) → made_at by hold over trail → IsTrue (last_sees seen trail.turns)
  sees_so false trail seen none = subst (λ (ts : List Turn). IsTrue (last_sees seen ts)) (sym (ap (λ (t : Trail). t.turns) none)) refl
  sees_so true trail seen starved = subst (λ (ts : List Turn). IsTrue (last_sees seen ts)) (sym starved.turns) refl

  pub reads_so : (clock : Option ℕ) (over : Bool) (trail : Trail) → made_at by hold over trail → IsTrue (list_all (reads_clock clock) trail.turns)
  reads_so clock false trail none = subst (λ (ts : List Turn). IsTrue (list_all (reads_clock clock) ts)) (sym (ap (λ (t : Trail). t.turns) none)) refl
  reads_so clock true trail starved = subst (λ (ts : List Turn). IsTrue (list_all (reads_clock clock) ts)) (sym starved.turns) refl

  -- its one turn, which it makes as long as it isn't over
  pub steps : (over : Bool) (handed : ℕ) (old new : NodeView) → next_at hold.node over ≡ places.Node old.number → new ≡ answered handed by replies.NoMemory old → StepsAtNode by handed (made_at by hold over) (made_at by hold true) old new
  steps true handed old new next grown = absurd cc
  steps false handed old new next grown = (
    acts.Nothing,
    Some replies.NoMemory,
    grown,
    λ trail none. record {
      before = old.history;
      front = max old.front handed;
      turns = ap (λ (t : Trail). t.turns ++ AtNode old.number old.history (entry_of by handed old acts.Nothing (Some replies.NoMemory)) ∷ []) none
          ∙ ap (λ (n : ℕ). AtNode n old.history (entry_of by handed old acts.Nothing (Some replies.NoMemory)) ∷ []) (sym (here hold.node old.number next));
    },
  )
    where
      here : (a b : ℕ) → places.Node a ≡ places.Node b → a ≡ b
      here a b e = cc
