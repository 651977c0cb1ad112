use Rattle.std.proofs.Common.{subst, sym}
use Rattle.std.specs.Prelude.{IsTrue, Some, if◌then◌else◌, ◌≡◌}
use Rattle.aft_model.specs.declared.node.NodeAct.TheVariants as acts
use Rattle.aft_model.specs.declared.reply.Reply.{Reply}
use Rattle.aft_model.specs.NodeRules.{is_end, is_own_end}
use Rattle.aft_ledger.specs.Turns.{is_doing}
use Rattle.aft_ledger.specs.View.{after_entry, answered}
use Rattle.aft_node.specs.Committing.{is_end_reply}
use Rattle.aft_node.specs.Outcomes.{down_reply}
use Rattle.aft_commit.proofs.NodeSteps.{end_step, ends_answer}
use Rattle.aft_commit.proofs.nodes.end.Goals as goal

pub ended-requires-clause-may : goal.ended-requires-clause-may
ended-requires-clause-may c = subst (λ (r : Reply). IsTrue (is_end_reply r)) (sym c.reply.ensures) (ends_answer c.args.outcome)

pub ended-requires-clause-stored : goal.ended-requires-clause-stored
ended-requires-clause-stored c = subst (λ (r : Reply). IsTrue (is_own_end c.args.node.now.history c.args.by (acts.End c.args.attempt) (Some r))) (sym c.reply.ensures) c.requires.stored

pub returns-clause-steps : goal.returns-clause-steps
returns-clause-steps c clock hold aborts may =
    end_step clock c.args.front c.args.by hold c.args.attempt c.args.node.now c.ended.new.self c.requires.place aborts c.args.uuid c.args.outcome
    (subst (λ (r : Reply). c.ended.new.self ≡ (if is_doing (λ state. is_end state (Some r)) c.args.attempt c.args.node.now.history then after_entry c.args.front c.args.by (acts.End c.args.attempt) (Some r) c.args.node.now else answered c.args.front c.args.by (down_reply c.args.node.now c.args.attempt.inc) c.args.node.now)) c.reply.ensures c.ended.ensures)
    may
