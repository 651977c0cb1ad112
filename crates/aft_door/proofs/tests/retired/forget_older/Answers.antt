use Rattle.std.proofs.Common.{refl}
use Rattle.aft_door.proofs.StoredForms.{stored_forms}
use Rattle.aft_door.proofs.tests.retired.forget_older.Goals as goal

pub forget-requires-clause-short : goal.forget-requires-clause-short
unfolding stored_forms
forget-requires-clause-short g c = rw (c.find.ensures, c.take.ensures.history, c.requires.history, c.short_marker-bytes.ensures, c.caller-who.ensures, c.requires.id) refl
