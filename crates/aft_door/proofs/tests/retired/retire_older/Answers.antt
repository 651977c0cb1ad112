use Rattle.std.proofs.Common.{refl}
use Rattle.aft_door.proofs.StoredForms.{stored_forms}
use Rattle.aft_door.proofs.tests.retired.retire_older.Goals as goal

pub delete_record-requires-clause-marked : goal.delete_record-requires-clause-marked
unfolding stored_forms
delete_record-requires-clause-marked g c = rw (c.requires.history, c.requires.id) refl

pub delete_version-requires-clause-gone : goal.delete_version-requires-clause-gone
unfolding stored_forms
delete_version-requires-clause-gone g c = rw (c.delete_record.ensures.history, c.requires.history, c.requires.id) refl

pub put_done-requires-clause-gone : goal.put_done-requires-clause-gone
unfolding stored_forms
put_done-requires-clause-gone g c = rw (c.delete_version.ensures.history, c.delete_record.ensures.history, c.requires.history, c.requires.key, c.requires.id) refl

pub returns-clause-history : goal.returns-clause-history
returns-clause-history g c = rw (c.put_done.ensures.history, c.delete_version.ensures.history, c.delete_record.ensures.history, c.requires.history, c.requires.key, c.requires.id) refl
