use Rattle.std.proofs.Common.{◌≡◌, List, ap, ◌∙◌, vec_capacity}
use Rattle.std.specs.Prelude.{IsTrue}
use Rattle.aft_model.specs.declared.node.NodeEntry.{NodeEntry}
use Rattle.aft_model.specs.NodeState.{boots, node_state}
use Rattle.aft_records.specs.Commits.{first_known}
use Rattle.aft_ledger.proofs.Stages.{boots_up}
use Rattle.aft_ledger.proofs.Fields.{answer_space, held, of_history}
use Rattle.aft_ledger.proofs.ledger.Ledger.add_boot.Goals as goal

pub invariant_of-self : goal.invariant_of-self
invariant_of-self c =
    let known : c.in_ok-known.known ≡ first_known c.args.commits = c.in_ok-known.ensures ∙ ap first_known c.as_slice.ensures in
    rw (c.add.ensures.entry, c.add.ensures.front, c.add.ensures.room, known)
    (boots_up (held c.self.inside) c.self.invariant c.args.front c.args.by (vec_capacity c.self.inside.history) c.args.inc c.args.commits (of_history c.self.inside c.args.self.now c.self.view_is (λ (h : List NodeEntry). IsTrue (boots c.args.inc (node_state h))) c.requires.boots) (answer_space c.self.inside c.args.self.now c.self.view_is c.self.invariant c.requires.room))
