use Rattle.std.proofs.Common.{length, ◌+◌, ◌≡◌, ◌≤◌}
use Rattle.std.specs.Str.Lines.{lines}
use Rattle.aft_script.specs.Limits.{Tallies}
use Rattle.aft_script.specs.Runnable.{AreReadTo}
use Rattle.aft_script.specs.Scripts.{lines_behind, script_of}
use Rattle.aft_script.proofs.script.read_script.Given as goal

-- the lines that are left make the same of those so far as all lines do of none
abbrev pub invariant-loop-line : goal.invariant-loop-line
invariant-loop-line l = record {
  few : l.number ≤ 20000;
  tallied : Tallies l.reader.tally l.reader.lines.items;
  runnable : AreReadTo l.conf.nodes (l.number + 1) l.reader.lines.items;
  same : lines_behind l.conf l.reader.lines.items l.number (lines l.rest) ≡ script_of l.conf l.bytes;
}

abbrev pub decreases-loop-line : goal.decreases-loop-line
decreases-loop-line l = length l.rest
