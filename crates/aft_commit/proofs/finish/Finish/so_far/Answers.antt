use Rattle.aft_commit.proofs.Knowing.{knows_so}
use Rattle.aft_commit.proofs.Stands.{answers_so, ends_so, goes_so, going_so, reads_so, sees_so, unanswered_so}
use Rattle.aft_commit.proofs.finish.Finish.so_far.Goals as goal

pub returns-clause-goes : goal.returns-clause-goes
returns-clause-goes c clock capacity trail view made ran looked = goes_so clock c.args.self.now.by c.args.self.now.hold c.args.self.now.aborts capacity trail view ran c.args.self.now.stage made looked

pub returns-clause-unanswered : goal.returns-clause-unanswered
returns-clause-unanswered c clock capacity trail view made ran left = unanswered_so clock c.args.self.now.by c.args.self.now.hold c.args.self.now.aborts capacity trail view ran c.args.self.now.stage made left

pub returns-clause-ends : goal.returns-clause-ends
returns-clause-ends c clock capacity trail view made ran timely done looked = ends_so clock c.args.self.now.by c.args.self.now.hold c.args.self.now.aborts capacity trail view ran c.args.self.now.stage made timely done looked

pub returns-clause-answers : goal.returns-clause-answers
returns-clause-answers c clock trail made done = answers_so clock c.args.self.now.by c.args.self.now.hold c.args.self.now.aborts c.args.self.now.stage trail made done

pub returns-clause-going : goal.returns-clause-going
returns-clause-going c going = going_so c.args.self.now.hold.node c.args.self.now.stage going

pub returns-clause-sees : goal.returns-clause-sees
returns-clause-sees c clock trail seen made own = sees_so clock c.args.self.now.by c.args.self.now.hold c.args.self.now.aborts c.args.self.now.stage trail seen made own

pub returns-clause-reads : goal.returns-clause-reads
returns-clause-reads c clock trail made = reads_so clock c.args.self.now.by c.args.self.now.hold c.args.self.now.aborts c.args.self.now.stage trail made

pub returns-clause-knows : goal.returns-clause-knows
returns-clause-knows c clock trail before since made unused own = knows_so clock c.args.self.now.by c.args.self.now.hold c.args.self.now.aborts c.args.self.now.stage trail before since made unused own
