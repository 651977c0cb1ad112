use Rattle.aft_keeper.specs.Cause.{HasCause}
use Rattle.aft_turns.specs.Steps.{SameStore}
use Rattle.aft_boot.specs.FirstBoots.{HaveServed}
use Rattle.aft_boot.proofs.Chains.{FailsNewly}
use Rattle.aft_boot.proofs.opens.boots.Given as goal

abbrev pub invariant-loop-served : goal.invariant-loop-served
invariant-loop-served g l =
    HaveServed l.conf.cache l.lines l.served l.nodes.items l.initial.door.history l.door.history
    × HasCause (FailsNewly l.initial.door.history l.door.history) l.initial.door.faults l.door.faults
    × SameStore l.initial.door l.door
