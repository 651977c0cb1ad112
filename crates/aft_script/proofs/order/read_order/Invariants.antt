use Rattle.std.proofs.Common.{length, ℕ, ◌<◌, ◌≡◌, ◌≤◌}
use Rattle.aft_script.specs.Orders.{has_client, is_marked, order_of, steps_behind}
use Rattle.aft_script.specs.Words.{words_of}
use Rattle.aft_script.proofs.order.read_order.Given as goal

-- the words that are left make the same of the steps so far as all words do of none
abbrev pub invariant-loop-word : goal.invariant-loop-word
invariant-loop-word l = record {
  few : length l.steps.items ≤ 1000000;
  marked : (k : ℕ) → k < 65 → is_marked l.clients k ≡ has_client l.script.lines k;
  same : steps_behind (has_client l.script.lines) l.steps.items (words_of l.rest) ≡ order_of l.script.lines l.bytes;
}

abbrev pub decreases-loop-word : goal.decreases-loop-word
decreases-loop-word l = length l.rest
