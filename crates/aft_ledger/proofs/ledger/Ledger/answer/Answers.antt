use Rattle.std.proofs.Common.{vec_capacity}
use Rattle.aft_ledger.proofs.Entries.{answers}
use Rattle.aft_ledger.proofs.Fields.{answer_space, held}
use Rattle.aft_ledger.proofs.ledger.Ledger.answer.Goals as goal

pub invariant_of-self : goal.invariant_of-self
invariant_of-self c = rw (c.add.ensures.entry, c.add.ensures.front, c.add.ensures.room) (answers (held c.self.inside) c.self.invariant c.args.front c.args.by c.args.reply (vec_capacity c.self.inside.history) c.requires.may (answer_space c.self.inside c.args.self.now c.self.view_is c.self.invariant c.requires.room))
