use Rattle.aft_boot.proofs.CrashStands.{answers_so, ends_so, goes_so, going_so, nothing_left, sees_so, unanswered_so}
use Rattle.aft_boot.proofs.crash.Crash.so_far.Goals as goal

pub returns-clause-goes : goal.returns-clause-goes
returns-clause-goes c hold capacity trail view made ran = goes_so c.args.self.now.by c.args.self.now.node hold capacity c.args.self.now.stage trail view made ran

pub returns-clause-unanswered : goal.returns-clause-unanswered
returns-clause-unanswered c hold capacity trail view made ran left = unanswered_so c.args.self.now.by c.args.self.now.node hold capacity c.args.self.now.stage trail view made ran left

pub returns-clause-ends : goal.returns-clause-ends
returns-clause-ends c hold capacity trail view made ran done looked late = ends_so c.args.self.now.by c.args.self.now.node hold capacity c.args.self.now.stage trail view made ran (nothing_left c.args.self.now.node c.args.self.now.stage done) looked late

pub returns-clause-answers : goal.returns-clause-answers
returns-clause-answers c trail made done = answers_so c.args.self.now.by c.args.self.now.node c.args.self.now.stage trail made (nothing_left c.args.self.now.node c.args.self.now.stage done)

pub returns-clause-going : goal.returns-clause-going
returns-clause-going c going = going_so c.args.self.now.node c.args.self.now.stage going

pub returns-clause-sees : goal.returns-clause-sees
returns-clause-sees c trail seen made own = sees_so c.args.self.now.by c.args.self.now.node c.args.self.now.stage trail seen made own
