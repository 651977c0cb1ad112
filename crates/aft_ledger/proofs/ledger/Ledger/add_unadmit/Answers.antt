use Rattle.std.proofs.Common.{vec_capacity}
use Rattle.aft_model.specs.Attempts.{is_opening}
use Rattle.aft_ledger.proofs.Acts.{unadmits, without-same}
use Rattle.aft_ledger.proofs.Fields.{answer_space, does, held}
use Rattle.aft_ledger.proofs.ledger.Ledger.add_unadmit.Goals as goal

pub invariant_of-self : goal.invariant_of-self
invariant_of-self c =
    rw (c.add.ensures.entry, c.add.ensures.front, c.add.ensures.room, c.end.ensures, without-same)
    (unadmits (held c.self.inside) c.self.invariant c.args.front c.args.by c.args.attempt (vec_capacity c.self.inside.history) c.args.reply (does c.self.inside c.args.self.now c.self.view_is is_opening c.args.attempt c.requires.opening) c.requires.may (answer_space c.self.inside c.args.self.now c.self.view_is c.self.invariant c.requires.room))
