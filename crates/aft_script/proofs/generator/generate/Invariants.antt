use Rattle.std.proofs.Common.{length, ◌*◌, ◌≡◌, ◌≤◌}
use Rattle.aft_script.specs.Generator.{made_after}
use Rattle.aft_script.specs.Making.{made_by}
use Rattle.aft_script.proofs.generator.generate.Given as goal

-- what was made after the transactions so far, of twelve lines each at most
abbrev pub invariant-loop-before : goal.invariant-loop-before
invariant-loop-before l = record {
  made : made_by l.maker ≡ made_after l.first l.before;
  few : length l.maker.lines.items ≤ 12 * l.before;
}
