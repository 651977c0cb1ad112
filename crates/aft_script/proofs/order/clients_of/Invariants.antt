use Rattle.std.proofs.Common.{length, ℕ, ◌<◌, ◌≡◌}
use Rattle.aft_script.specs.Orders.{has_client, is_marked}
use Rattle.aft_script.proofs.order.clients_of.Given as goal

-- the clients so far are marked
abbrev pub invariant-loop-client : goal.invariant-loop-client
invariant-loop-client l = (length l.clients ≡ 65) × ((k : ℕ) → k < l.client → is_marked l.clients k ≡ has_client l.lines k)
