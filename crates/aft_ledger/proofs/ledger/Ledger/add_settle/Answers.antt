use Rattle.std.proofs.Common.{vec_capacity}
use Rattle.aft_model.specs.Attempts.{is_in_doubt}
use Rattle.aft_model.proofs.Pins.{doubt_there}
use Rattle.aft_ledger.proofs.Acts.{changed-same, row_doing, settles}
use Rattle.aft_ledger.proofs.Fields.{at_node, does, entry_space, held}
use Rattle.aft_ledger.proofs.ledger.Ledger.add_settle.Goals as goal

pub settle-requires : goal.settle-requires
settle-requires c = row_doing (held c.self.inside) c.self.invariant c.args.attempt (at_node c.self.inside c.args.self.now c.self.view_is c.args.attempt.node c.requires.node) is_in_doubt doubt_there (does c.self.inside c.args.self.now c.self.view_is is_in_doubt c.args.attempt c.requires.doubt)

pub invariant_of-self : goal.invariant_of-self
invariant_of-self c =
    rw (c.add.ensures.entry, c.add.ensures.front, c.add.ensures.room, c.settle.ensures, changed-same)
    (settles (held c.self.inside) c.self.invariant c.args.front c.args.by c.args.attempt (vec_capacity c.self.inside.history) (does c.self.inside c.args.self.now c.self.view_is is_in_doubt c.args.attempt c.requires.doubt) (entry_space c.self.inside c.args.self.now c.self.view_is c.requires.has_room))
