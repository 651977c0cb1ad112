use Rattle.std.proofs.Common.{List, vec_capacity}
use Rattle.aft_model.specs.declared.node.NodeEntry.{NodeEntry}
use Rattle.std.proofs.Common.{◌≤◌, ◌||◌, subst, sym}
use Rattle.std.specs.Prelude.{IsTrue}
use Rattle.aft_model.specs.NodeState.{boots, node_state, serves}
use Rattle.aft_ledger.specs.Ledger.{LedgerView}
use Rattle.aft_ledger.proofs.Stages.{goes_down}
use Rattle.aft_ledger.proofs.Fields.{answer_space, held, of_history}
use Rattle.aft_ledger.proofs.ledger.Ledger.add_down.Goals as goal

pub invariant_of-self : goal.invariant_of-self
invariant_of-self c =
    rw (c.add.ensures.entry, c.add.ensures.front, c.add.ensures.room, c.new.ensures, c.new-2.ensures, c.clear.ensures, c.clear-2.ensures.items)
    (goes_down (held c.self.inside) c.self.invariant c.args.front c.args.by (vec_capacity c.self.inside.history) c.args.inc (of_history c.self.inside c.args.self.now c.self.view_is (λ (h : List NodeEntry). IsTrue (boots c.args.inc (node_state h) || serves c.args.inc (node_state h))) c.requires.up)
    (subst (λ (v : LedgerView). 1 ≤ v.room) (sym c.self.view_is) c.requires.room) (answer_space c.self.inside c.args.self.now c.self.view_is c.self.invariant c.requires.room))
