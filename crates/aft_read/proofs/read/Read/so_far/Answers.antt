use Rattle.aft_read.proofs.Stands.{answers_so, ends_so, goes_so, going_so, nothing_left}
use Rattle.aft_read.proofs.read.Read.so_far.Goals as goal

pub returns-clause-goes : goal.returns-clause-goes
returns-clause-goes c capacity trail view made ran = goes_so capacity c.args.self.now.by c.args.self.now.hold c.args.self.now.key c.args.self.now.stage trail view made ran

pub returns-clause-ends : goal.returns-clause-ends
returns-clause-ends c capacity trail view made ran done looked = ends_so capacity c.args.self.now.by c.args.self.now.hold c.args.self.now.key c.args.self.now.stage trail view made ran (nothing_left c.args.self.now.hold.node c.args.self.now.stage done) looked

pub returns-clause-answers : goal.returns-clause-answers
returns-clause-answers c capacity trail made done = answers_so capacity c.args.self.now.by c.args.self.now.hold c.args.self.now.key c.args.self.now.stage trail made (nothing_left c.args.self.now.hold.node c.args.self.now.stage done)

pub returns-clause-going : goal.returns-clause-going
returns-clause-going c going = going_so c.args.self.now.hold.node c.args.self.now.stage going
