use Rattle.std.proofs.Common.{◌≡◌, List, vec_capacity}
use Rattle.aft_model.specs.declared.node.NodeEntry.{NodeEntry}
use Rattle.aft_model.specs.Attempts.{is_running, open_reads}
use Rattle.aft_model.specs.NodeState.{part}
use Rattle.aft_ledger.proofs.Acts.{changed-same, leaves}
use Rattle.aft_ledger.proofs.Fields.{at_node, does, entry_space, held, of_history}
use Rattle.aft_ledger.proofs.Starts.{no_leave_fault}
use Rattle.aft_ledger.proofs.ledger.Ledger.add_leave.Goals as goal

pub invariant_of-self-2 : goal.invariant_of-self-2
invariant_of-self-2 c =
    rw (c.add.ensures.entry, c.add.ensures.front, c.add.ensures.room, c.in-Ok.ensures.ok, changed-same)
    (leaves (held c.self.inside) c.self.invariant c.args.front c.args.by c.args.attempt (vec_capacity c.self.inside.history) (does c.self.inside c.args.self.now c.self.view_is is_running c.args.attempt c.requires.running) (of_history c.self.inside c.args.self.now c.self.view_is (λ (h : List NodeEntry). open_reads c.args.attempt (part h) ≡ 0) c.requires.closed) (entry_space c.self.inside c.args.self.now c.self.view_is c.requires.has_room))

pub returns-in-Err : goal.returns-in-Err
returns-in-Err c =
    absurd (no_leave_fault _ (held c.self.inside) c.self.invariant c.args.attempt (at_node c.self.inside c.args.self.now c.self.view_is c.args.attempt.node c.requires.node) (does c.self.inside c.args.self.now c.self.view_is is_running c.args.attempt c.requires.running) (of_history c.self.inside c.args.self.now c.self.view_is (λ (h : List NodeEntry). open_reads c.args.attempt (part h) ≡ 0) c.requires.closed) c.in-Err.field-0 c.in-Err.ensures.refused)
