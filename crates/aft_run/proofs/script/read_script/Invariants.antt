use Rattle.aft_run.specs.Built.{AreBuilt}
use Rattle.aft_run.proofs.script.read_script.Given as goal

-- the lines so far are built
abbrev pub invariant-loop-piece : goal.invariant-loop-piece
invariant-loop-piece l = AreBuilt l.reader.lines.items
