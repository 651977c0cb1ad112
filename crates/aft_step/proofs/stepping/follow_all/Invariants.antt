use Rattle.std.proofs.Common.{◌≡◌, ℕ, Some, drop, slice_get}
use Rattle.aft_lines.specs.Asked.{Asked}
use Rattle.aft_model.specs.declared.script.Step.{Step}
use Rattle.aft_step.specs.Crowding.{ComesTo, IsWordOf}
use Rattle.aft_step.specs.Worlds.{shown}
use Rattle.aft_turns.specs.Steps.{SameStore}
use Rattle.aft_step.proofs.stepping.follow_all.Given as goal

abbrev pub invariant-loop-word : goal.invariant-loop-word
invariant-loop-word g l =
    ((asked : Asked) → asked.script.lines ≡ l.lines → asked.clock ≡ g.C.Clock.time l.clock → ((i : ℕ) (word : Step) → slice_get l.words i ≡ Some word → IsWordOf asked word)
    → ComesTo asked l.words 0 (shown l.initial.world.door l.initial.world.nodes l.initial.world.boxes l.initial.world.office) l.initial.clients
    → ComesTo asked (drop l.word-index l.words) 0 (shown l.world.door l.world.nodes l.world.boxes l.world.office) l.clients)
    × SameStore l.initial.world.door l.world.door
