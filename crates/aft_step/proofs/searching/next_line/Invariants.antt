use Rattle.std.proofs.Common.{length, ◌-◌, ◌≡◌, ◌≢◌, ◌≤◌, ◌<◌, ℕ, Some, slice_get}
use Rattle.aft_model.specs.declared.script.Line.{Line}
use Rattle.aft_step.proofs.searching.next_line.Given as goal

abbrev pub invariant-loop-at : goal.invariant-loop-at
invariant-loop-at l = record {
  from : l.from ≤ l.at;
  within : l.at ≤ length l.lines;
  before : (i : ℕ) (line : Line) → slice_get l.lines i ≡ Some line → l.from ≤ i → i < l.at → line.client ≢ l.client;
}

abbrev pub decreases-loop-at : goal.decreases-loop-at
decreases-loop-at l = length l.lines - l.at
