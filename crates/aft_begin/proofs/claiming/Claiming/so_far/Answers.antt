use Rattle.aft_begin.proofs.Stands.{answers_so, ends_so, gives_so, goes_so, going_so, knows_so, sees_so, unanswered_so}
use Rattle.aft_begin.proofs.claiming.Claiming.so_far.Goals as goal

pub returns-clause-goes : goal.returns-clause-goes
returns-clause-goes c hold capacity trail view made ran looked = goes_so c.args.self.now.aim c.args.self.now.by c.args.self.now.node c.args.self.now.uuid hold capacity trail view ran c.args.self.now.stage made looked

pub returns-clause-unanswered : goal.returns-clause-unanswered
returns-clause-unanswered c hold capacity trail view made ran left = unanswered_so c.args.self.now.aim c.args.self.now.by c.args.self.now.node c.args.self.now.uuid hold capacity trail view ran c.args.self.now.stage made left

pub returns-clause-ends : goal.returns-clause-ends
returns-clause-ends c hold capacity trail view made ran done looked = ends_so c.args.self.now.aim c.args.self.now.by c.args.self.now.node c.args.self.now.uuid hold capacity trail view ran c.args.self.now.stage made done looked

pub returns-clause-answers : goal.returns-clause-answers
returns-clause-answers c trail made done = answers_so c.args.self.now.aim c.args.self.now.by c.args.self.now.node c.args.self.now.uuid c.args.self.now.stage trail made done

pub returns-clause-going : goal.returns-clause-going
returns-clause-going c going = going_so c.args.self.now.aim c.args.self.now.node c.args.self.now.stage going

pub returns-clause-gives : goal.returns-clause-gives
returns-clause-gives c trail made done = gives_so c.args.self.now.aim c.args.self.now.by c.args.self.now.node c.args.self.now.uuid c.args.self.now.stage trail made done

pub returns-clause-sees : goal.returns-clause-sees
returns-clause-sees c trail seen made own = sees_so c.args.self.now.aim c.args.self.now.by c.args.self.now.node c.args.self.now.uuid c.args.self.now.stage trail seen made own

pub returns-clause-knows : goal.returns-clause-knows
returns-clause-knows c trail seen made own = knows_so c.args.self.now.aim c.args.self.now.by c.args.self.now.node c.args.self.now.uuid c.args.self.now.stage trail seen made own
