use Rattle.std.proofs.Common.{◌≡◌, ◌-◌}
use Rattle.aft_keeper.specs.Cause.{HasCause}
use Rattle.aft_turns.specs.Steps.{SameStore}
use Rattle.aft_boot.specs.BootView.{left_of}
use Rattle.aft_boot.specs.Driving.{Drives}
use Rattle.aft_boot.proofs.Chains.{FailsNewly}
use Rattle.aft_boot.proofs.driving.drive.Given as goal

abbrev pub invariant-loop-boot : goal.invariant-loop-boot
invariant-loop-boot g l =
    Drives l.initial.door.history l.initial.node.capacity (l.initial.node.room - 1) l.boot l.node l.door.history
    × (l.boot.node ≡ l.number)
    × HasCause (FailsNewly l.initial.door.history l.door.history) l.initial.door.faults l.door.faults
    × SameStore l.initial.door l.door

abbrev pub decreases-loop-boot : goal.decreases-loop-boot
decreases-loop-boot g l = left_of l.boot
