use Rattle.aft_model.proofs.ReadSets.{id_more, key_back, key_more}
use Rattle.aft_model.proofs.read_set.note.Goals as goal

pub returns-in-Ok-clause-keys : goal.returns-in-Ok-clause-keys
returns-in-Ok-clause-keys c k =
    key_more c.args.key.now k c.args.id.now c.args.ids.now.entries c.insert.new.self.entries (rw c.in_ok-clone.ensures.cases at (c.in_ok-insert.ensures.updates.0 k))

pub returns-in-Ok-clause-ids : goal.returns-in-Ok-clause-ids
returns-in-Ok-clause-ids c v = id_more c.args.id.now v c.args.seen.now.keys c.insert-2.new.self.keys (c.in-Ok.ensures.updates.0 v)

pub returns-in-Err-clause-same_keys : goal.returns-in-Err-clause-same_keys
returns-in-Err-clause-same_keys c k =
    key_back c.args.key.now k c.args.id.now c.args.ids.now.entries c.insert.new.self.entries c.remove.new.self.entries c.requires (rw c.in_ok-clone.ensures.cases at (c.in_ok-insert.ensures.updates.0 k)) (c.remove.ensures.updates.0 k)
