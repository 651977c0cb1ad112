use Rattle.std.proofs.Common.{List, vec_capacity}
use Rattle.aft_model.specs.declared.node.NodeEntry.{NodeEntry}
use Rattle.std.specs.Prelude.{IsTrue}
use Rattle.aft_model.specs.NodeState.{boots, node_state}
use Rattle.aft_ledger.proofs.Stages.{stops}
use Rattle.aft_ledger.proofs.Fields.{answer_space, held, of_history}
use Rattle.aft_ledger.proofs.ledger.Ledger.add_boot_stopped.Goals as goal

pub invariant_of-self : goal.invariant_of-self
invariant_of-self c =
    rw (c.add.ensures.entry, c.add.ensures.front, c.add.ensures.room) (stops (held c.self.inside) c.self.invariant c.args.front c.args.by (vec_capacity c.self.inside.history) c.args.inc c.args.reply (of_history c.self.inside c.args.self.now c.self.view_is (λ (h : List NodeEntry). IsTrue (boots c.args.inc (node_state h))) c.requires.boots) c.requires.may (answer_space c.self.inside c.args.self.now c.self.view_is c.self.invariant c.requires.room))
