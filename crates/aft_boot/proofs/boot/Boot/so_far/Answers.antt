use Rattle.std.proofs.Common.{◌≤◌, subst}
use Rattle.std.specs.Prelude.{◌≢◌}
use Rattle.aft_boot.specs.BootView.{BootView, left_of, next_of}
use Rattle.aft_turns.specs.declared.turn.Where.TheVariants as places
use Rattle.aft_boot.proofs.BootStands.{answers_so_far, ends_so_far, goes_so_far, going_so, nothing_left, unanswered_so_far}
use Rattle.aft_boot.proofs.BootSees.{sees_so_far}
use Rattle.aft_boot.proofs.boot.Boot.so_far.Goals as goal

pub returns-clause-goes : goal.returns-clause-goes
returns-clause-goes c hold capacity trail view made ran = goes_so_far c.args.self.now.by c.args.self.now.node hold capacity trail view ran c.args.self.now.stage made

pub returns-clause-unanswered : goal.returns-clause-unanswered
returns-clause-unanswered c hold capacity trail view made ran left = unanswered_so_far c.args.self.now.by c.args.self.now.node hold capacity trail view ran c.args.self.now.stage made left

pub returns-clause-ends : goal.returns-clause-ends
returns-clause-ends c hold capacity trail view made ran done looked = ends_so_far c.args.self.now.by c.args.self.now.node hold capacity trail view ran c.args.self.now.stage (nothing_left c.args.self.now.node c.args.self.now.stage done) made looked

pub returns-clause-answers : goal.returns-clause-answers
returns-clause-answers c trail made done = answers_so_far c.args.self.now.by c.args.self.now.node trail c.args.self.now.stage (nothing_left c.args.self.now.node c.args.self.now.stage done) made

pub returns-clause-going : goal.returns-clause-going
returns-clause-going c = subst (λ (b : BootView). next_of b ≢ places.Done → 1 ≤ left_of b) c.self.view_is (going_so c.self.inside.node c.self.inside.stage c.self.invariant.1)

pub returns-clause-sees : goal.returns-clause-sees
returns-clause-sees c trail seen made own begins = sees_so_far c.args.self.now.by c.args.self.now.node trail seen own begins c.args.self.now.stage made
