use Rattle.std.proofs.Common.{◌∙◌, subst, sym}
use Rattle.std.specs.Prelude.{IsTrue, Some}
use Rattle.aft_model.specs.declared.node.NodeAct.TheVariants as acts
use Rattle.aft_model.specs.NodeRules.{is_end, is_own_end}
use Rattle.aft_ledger.specs.Turns.{is_doing}
use Rattle.aft_ledger.specs.View.{NodeView}
use Rattle.aft_node.proofs.Ends.{own_doing}
use Rattle.aft_node.proofs.node.Node.ended.Goals as goal

pub add_end-requires-clause-own : goal.add_end-requires-clause-own
add_end-requires-clause-own c =
    own_doing c.self.inside.ledger.number c.self.inside.ledger.capacity c.args.attempt c.args.by c.args.reply c.self.inside.ledger.history c.law.ensures.legal
    (subst (λ (v : NodeView). IsTrue (is_doing (λ state. is_end state (Some c.args.reply)) c.args.attempt v.history)) (sym c.self.view_is) (sym c.may_end.ensures ∙ c.if-may_end.true))
    (subst (λ (v : NodeView). IsTrue (is_own_end v.history c.args.by (acts.End c.args.attempt) (Some c.args.reply))) (sym c.self.view_is) c.requires.stored)
