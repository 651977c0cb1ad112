use Rattle.std.proofs.Common.{subst}
use Rattle.std.specs.Prelude.{IsTrue}
use Rattle.aft_machine.specs.Starved.{StarvedView, is_copied}
use Rattle.aft_machine.proofs.StarvedStands.{answers_so, ends_so, goes_so, going_so, sees_so, unanswered_so}
use Rattle.aft_machine.proofs.starved.Starved.so_far.Goals as goal

pub returns-clause-goes : goal.returns-clause-goes
returns-clause-goes c capacity trail view made ran = goes_so c.args.self.now.by c.args.self.now.hold c.args.self.now.command (subst (λ (v : StarvedView). IsTrue (is_copied v.command)) c.self.view_is c.self.invariant.1) c.args.self.now.over capacity trail view made ran

pub returns-clause-unanswered : goal.returns-clause-unanswered
returns-clause-unanswered c capacity trail view made ran left = unanswered_so c.args.self.now.by c.args.self.now.hold c.args.self.now.command (subst (λ (v : StarvedView). IsTrue (is_copied v.command)) c.self.view_is c.self.invariant.1) c.args.self.now.over capacity trail view made ran left

pub returns-clause-ends : goal.returns-clause-ends
returns-clause-ends c capacity trail view made ran done looked = ends_so c.args.self.now.by c.args.self.now.hold c.args.self.now.command (subst (λ (v : StarvedView). IsTrue (is_copied v.command)) c.self.view_is c.self.invariant.1) c.args.self.now.over capacity trail view made ran done looked

pub returns-clause-sees : goal.returns-clause-sees
returns-clause-sees c trail seen made own = sees_so c.args.self.now.by c.args.self.now.hold c.args.self.now.over trail seen made

pub returns-clause-answers : goal.returns-clause-answers
returns-clause-answers c trail made done = answers_so c.args.self.now.by c.args.self.now.hold c.args.self.now.over trail made done

pub returns-clause-going : goal.returns-clause-going
returns-clause-going c on = going_so c.args.self.now.by c.args.self.now.hold c.args.self.now.over on

pub returns-clause-copied : goal.returns-clause-copied
returns-clause-copied c = subst (λ (v : StarvedView). IsTrue (is_copied v.command)) c.self.view_is c.self.invariant.1
