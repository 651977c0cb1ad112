use Rattle.std.proofs.Common.{List, vec_capacity}
use Rattle.aft_model.specs.Attempts.{AttemptState}
use Rattle.aft_model.specs.declared.node.NodeEntry.{NodeEntry}
use Rattle.std.specs.Prelude.{IsTrue, Some}
use Rattle.aft_model.specs.declared.node.NodeAct.TheVariants as acts
use Rattle.aft_model.specs.NodeRules.{is_end, is_own_end}
use Rattle.aft_model.specs.NodeState.{part}
use Rattle.aft_ledger.proofs.Acts.{ends, without-same}
use Rattle.aft_ledger.proofs.Fields.{answer_space, does, held, of_history}
use Rattle.aft_ledger.proofs.ledger.Ledger.add_end.Goals as goal

pub invariant_of-self : goal.invariant_of-self
invariant_of-self c =
    rw (c.add.ensures.entry, c.add.ensures.front, c.add.ensures.room, c.end.ensures, without-same)
    (ends (held c.self.inside) c.self.invariant c.args.front c.args.by c.args.attempt (vec_capacity c.self.inside.history) c.args.reply (does c.self.inside c.args.self.now c.self.view_is (λ (state : AttemptState). is_end state (Some c.args.reply)) c.args.attempt c.requires.ends) (of_history c.self.inside c.args.self.now c.self.view_is (λ (h : List NodeEntry). IsTrue (is_own_end (part h) c.args.by (acts.End c.args.attempt) (Some c.args.reply))) c.requires.own) (answer_space c.self.inside c.args.self.now c.self.view_is c.self.invariant c.requires.room))
