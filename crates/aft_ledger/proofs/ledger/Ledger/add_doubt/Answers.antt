use Rattle.std.proofs.Common.{vec_capacity}
use Rattle.aft_model.specs.Attempts.{is_committing}
use Rattle.aft_model.proofs.Pins.{committing_there}
use Rattle.aft_ledger.proofs.Acts.{changed-same, doubts, row_doing}
use Rattle.aft_ledger.proofs.Fields.{answer_space, at_node, does, held}
use Rattle.aft_ledger.proofs.ledger.Ledger.add_doubt.Goals as goal

pub doubt-requires : goal.doubt-requires
doubt-requires c = row_doing (held c.self.inside) c.self.invariant c.args.attempt (at_node c.self.inside c.args.self.now c.self.view_is c.args.attempt.node c.requires.node) is_committing committing_there (does c.self.inside c.args.self.now c.self.view_is is_committing c.args.attempt c.requires.committing)

pub invariant_of-self : goal.invariant_of-self
invariant_of-self c =
    rw (c.add.ensures.entry, c.add.ensures.front, c.add.ensures.room, c.doubt.ensures, changed-same)
    (doubts (held c.self.inside) c.self.invariant c.args.front c.args.by c.args.attempt (vec_capacity c.self.inside.history) c.args.reply (does c.self.inside c.args.self.now c.self.view_is is_committing c.args.attempt c.requires.committing) c.requires.may (answer_space c.self.inside c.args.self.now c.self.view_is c.self.invariant c.requires.room))
