use Rattle.aft_machine.proofs.PutStands.{answers_so, ends_so, goes_so, going_so, sees_so, unanswered_so}
use Rattle.aft_machine.proofs.putting.Putting.so_far.Goals as goal

pub returns-clause-goes : goal.returns-clause-goes
returns-clause-goes c capacity trail view made ran = goes_so c.args.self.now.by c.args.self.now.hold c.args.self.now.key c.args.self.now.value c.args.self.now.stage capacity trail view made ran

pub returns-clause-unanswered : goal.returns-clause-unanswered
returns-clause-unanswered c capacity trail view made ran left = unanswered_so c.args.self.now.by c.args.self.now.hold c.args.self.now.key c.args.self.now.value c.args.self.now.stage capacity trail view made ran left

pub returns-clause-ends : goal.returns-clause-ends
returns-clause-ends c capacity trail view made ran done = ends_so c.args.self.now.by c.args.self.now.hold c.args.self.now.key c.args.self.now.value c.args.self.now.stage capacity trail view made ran done

pub returns-clause-sees : goal.returns-clause-sees
returns-clause-sees c trail seen made = sees_so c.args.self.now.by c.args.self.now.hold c.args.self.now.key c.args.self.now.value c.args.self.now.stage trail seen made

pub returns-clause-answers : goal.returns-clause-answers
returns-clause-answers c trail made done = answers_so c.args.self.now.by c.args.self.now.hold c.args.self.now.key c.args.self.now.value c.args.self.now.stage trail made done

pub returns-clause-going : goal.returns-clause-going
returns-clause-going c on = going_so c.args.self.now.by c.args.self.now.hold c.args.self.now.key c.args.self.now.value c.args.self.now.stage on
