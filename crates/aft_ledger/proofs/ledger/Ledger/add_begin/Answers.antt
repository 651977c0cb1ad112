use Rattle.std.proofs.Common.{◌≡◌, List, vec_capacity}
use Rattle.aft_model.specs.Attempts.{is_opening, uuid_of}
use Rattle.aft_model.specs.declared.node.NodeEntry.{NodeEntry}
use Rattle.aft_model.specs.NodeState.{part}
use Rattle.aft_model.proofs.Pins.{opening_there}
use Rattle.aft_ledger.proofs.Acts.{changed-same, row_doing, runs}
use Rattle.aft_ledger.proofs.Fields.{answer_space, at_node, does, held, of_history}
use Rattle.aft_ledger.proofs.ledger.Ledger.add_begin.Goals as goal

pub run-requires : goal.run-requires
run-requires c = row_doing (held c.self.inside) c.self.invariant c.args.attempt (at_node c.self.inside c.args.self.now c.self.view_is c.args.attempt.node c.requires.node) is_opening opening_there (does c.self.inside c.args.self.now c.self.view_is is_opening c.args.attempt c.requires.opening)

pub invariant_of-self : goal.invariant_of-self
invariant_of-self c =
    rw (c.add.ensures.entry, c.add.ensures.front, c.add.ensures.room, c.run.ensures, changed-same)
    (runs (held c.self.inside) c.self.invariant c.args.front c.args.by c.args.attempt (vec_capacity c.self.inside.history) c.args.uuid (does c.self.inside c.args.self.now c.self.view_is is_opening c.args.attempt c.requires.opening) (of_history c.self.inside c.args.self.now c.self.view_is (λ (h : List NodeEntry). c.args.uuid ≡ uuid_of c.args.attempt (part h)) c.requires.uuid) (answer_space c.self.inside c.args.self.now c.self.view_is c.self.invariant c.requires.room))
