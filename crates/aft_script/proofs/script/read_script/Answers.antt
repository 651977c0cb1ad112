use Rattle.std.proofs.Common.{arith, length, ◌+◌, ◌≤◌}
use Rattle.aft_script.proofs.Runnables.{read_few}
use Rattle.aft_script.proofs.script.read_script.Goals as goal

pub returns-clause-few : goal.returns-clause-few
returns-clause-few c =
    let few : length c.loop-line.reader.lines.items + 1 ≤ c.loop-line.number + 1 =
    read_few c.args.conf.now.nodes (c.loop-line.number + 1) c.loop-line.reader.lines.items (omega arith) c.loop-line.invariant.runnable in
    rw c.from_vec.ensures (omega (arith, few, c.loop-line.invariant.few))
