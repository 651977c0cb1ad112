-- What a machine promises, put together.
use Rattle.std.proofs.Common.{◌≡◌, ◌++◌, ℕ, List, refl, ap, inl, inr}
use Rattle.std.specs.Prelude.{IsTrue, Option}
use Rattle.std.specs.List.{list_all}
use Rattle.aft_model.specs.declared.caller.By.{By}
use Rattle.aft_model.specs.declared.caller.Hold.{Hold}
use Rattle.aft_model.specs.declared.door.DoorEntry.{DoorEntry}
use Rattle.aft_model.specs.declared.script.Command.{Command}
use Rattle.aft_lines.specs.LineView.{LineView}
use Rattle.aft_machine.specs.OneNode.{is_nowhere}
use Rattle.aft_turns.specs.Stands.{EndsRightly, GoesRightly, HasLooked, LooksLate, RanSo, SeesOwn, last_sees}
use Rattle.aft_turns.specs.Steps.{FrontsWithin, StepsAtDoor}
use Rattle.aft_turns.specs.Trail.{Trail}
use Rattle.aft_turns.specs.declared.turn.Where.{Where}
use Rattle.aft_turns.specs.declared.turn.Where.TheVariants as places
use Rattle.law_driver.specs.Driven.{Promises, reads_clock}

over_done : (place : Where) → IsTrue (is_nowhere place) → place ≡ places.Done
over_done places.Done is = refl
over_done (places.Node n) is = absurd cc
over_done places.Door is = absurd cc
over_done (places.Mail n) is = absurd cc
over_done places.Office is = absurd cc

done_over : (place : Where) → place ≡ places.Done → IsTrue (is_nowhere place)
done_over place is = ap is_nowhere is

-- of a machine whose next turn is here
pub promised : (by : By) (command : Command) (hold : Hold) (capacity : ℕ) (clock : Option ℕ) (trail : Trail) (place : Where)
    → ((view : LineView) → RanSo command hold capacity trail view → (place ≡ places.Done → HasLooked trail view) → GoesRightly view)
    → ((view : LineView) → RanSo command hold capacity trail view → view.clock ≡ clock → place ≡ places.Done → HasLooked trail view → LooksLate trail view → EndsRightly view)
    → ((seen rest : List DoorEntry) → SeesOwn by trail.turns seen → seen ≡ trail.look ++ rest → IsTrue (last_sees seen trail.turns))
    → IsTrue (list_all (reads_clock clock) trail.turns) → Promises by command hold capacity clock (is_nowhere place) trail
promised by command hold capacity clock trail place goes ends sees reads = record {
  goes = λ view ran looked. goes view ran (λ done. looked (done_over place done));
  ends = λ view ran told over looked late. ends view ran told (over_done place over) looked late;
  sees = sees;
  reads = reads;
}

-- a step that asks nothing of the fronts of its turns
pub with_fronts : (by : By) (stood stands : Trail → Type 0) (old new : List DoorEntry) → StepsAtDoor by stood stands old new → StepsAtDoor by (λ trail. stood trail × FrontsWithin old trail.turns) stands old new
with_fronts by stood stands old new (inl (act, grown, leads)) = inl (act, grown, λ trail stood. leads trail stood.0)
with_fronts by stood stands old new (inr (same, looks)) = inr (same, λ trail stood. looks trail stood.0)
