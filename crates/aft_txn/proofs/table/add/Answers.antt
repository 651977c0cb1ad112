use Rattle.std.proofs.Common.{nat_eq, ◌∙◌}
use Rattle.indexmap.proofs.CallerLemmas.{insert_entry-new}
use Rattle.aft_txn.proofs.Tables.{put_back}
use Rattle.aft_txn.proofs.table.add.Goals as goal

pub returns-in-Ok-clause-attempts : goal.returns-in-Ok-clause-attempts
returns-in-Ok-clause-attempts c = c.in-Ok.ensures.entries ∙ insert_entry-new nat_eq c.args.attempts.now c.args.number c.args.txn c.requires.new

pub returns-clause-same_numbers : goal.returns-clause-same_numbers
returns-clause-same_numbers c u =
    put_back c.args.txn.uuid u c.args.number c.args.numbers.now.entries c.insert.new.self.entries c.swap_remove.new.self.entries c.requires.unused (c.in_ok-insert.ensures.updates.0 u) (c.swap_remove.ensures.updates.0 u)
