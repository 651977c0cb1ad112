use Rattle.std.proofs.Common.{◌≡◌}
use Rattle.aft_chron.proofs.chron.steps.wait.Given as goal

-- the seat is as it was
abbrev pub invariant-loop : goal.invariant-loop
invariant-loop g l = (l.seat.table_id ≡ l.initial.seat.table_id) × (l.seat.me ≡ l.initial.seat.me)
