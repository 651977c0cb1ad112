use Rattle.std.proofs.Common.{◌≡◌}
use Rattle.std.specs.Prelude.{replicate}
use Rattle.aft_boot.specs.World.{empty_box, settings_of}
use Rattle.aft_boot.proofs.opens.boxes.Given as goal

abbrev pub invariant-loop : goal.invariant-loop
invariant-loop l = l.boxes.items ≡ replicate l.counter (empty_box (settings_of l.conf))
