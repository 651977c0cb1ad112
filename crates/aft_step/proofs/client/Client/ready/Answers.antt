use Rattle.aft_step.proofs.Courses.{reaches_own, that_runs}
use Rattle.aft_step.proofs.client.Client.ready.Goals as goal

pub returns-else-is_none-clause-past : goal.returns-else-is_none-clause-past
returns-else-is_none-clause-past g c =
    let it = c.requires.stands in
    let runs = that_runs c.args.self.now.running c.if-is_none.ensures in
    reaches_own it.0 it.1 it.2 it.3 c.args.self.now it.6 runs.0 runs.1 c.args.lines.now it.4
