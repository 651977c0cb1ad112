use Rattle.std.proofs.Common.{List, vec_capacity}
use Rattle.aft_model.specs.declared.node.NodeEntry.{NodeEntry}
use Rattle.std.specs.Prelude.{IsFalse, IsTrue, is_some}
use Rattle.aft_model.specs.Known.{holds_id}
use Rattle.aft_model.specs.NodeState.{in_service, service}
use Rattle.aft_ledger.proofs.Rounds.{gives_up}
use Rattle.aft_ledger.proofs.Fields.{entry_space, held, of_history}
use Rattle.aft_ledger.proofs.ledger.Ledger.add_give_up.Goals as goal

pub invariant_of-self : goal.invariant_of-self
invariant_of-self c =
    rw (c.add.ensures.entry, c.add.ensures.front, c.add.ensures.room)
    (gives_up (held c.self.inside) c.self.invariant c.args.front c.args.by (vec_capacity c.self.inside.history) (of_history c.self.inside c.args.self.now c.self.view_is (λ (h : List NodeEntry). IsTrue (is_some (service h))) c.requires.serves) c.args.id (of_history c.self.inside c.args.self.now c.self.view_is (λ (h : List NodeEntry). IsFalse (in_service (holds_id c.args.id) (service h))) c.requires.free) (entry_space c.self.inside c.args.self.now c.self.view_is c.requires.has_room))
