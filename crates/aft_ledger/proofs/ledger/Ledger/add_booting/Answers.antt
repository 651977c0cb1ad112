use Rattle.std.proofs.Common.{List, vec_capacity}
use Rattle.aft_model.specs.declared.node.NodeEntry.{NodeEntry}
use Rattle.std.specs.Prelude.{IsTrue}
use Rattle.aft_model.specs.NodeRules.{may_begin_boot}
use Rattle.aft_model.specs.NodeState.{newest, node_state}
use Rattle.aft_ledger.proofs.Stages.{begins}
use Rattle.aft_ledger.proofs.Fields.{entry_space, held, of_history}
use Rattle.aft_ledger.proofs.ledger.Ledger.add_booting.Goals as goal

pub invariant_of-self : goal.invariant_of-self
invariant_of-self c =
    rw (c.add.ensures.entry, c.add.ensures.front, c.add.ensures.room)
    (begins (held c.self.inside) c.self.invariant c.args.front c.args.by (vec_capacity c.self.inside.history) c.args.inc (of_history c.self.inside c.args.self.now c.self.view_is (λ (h : List NodeEntry). IsTrue (may_begin_boot c.args.inc (newest h) (node_state h))) c.requires.next) (entry_space c.self.inside c.args.self.now c.self.view_is c.requires.room))
