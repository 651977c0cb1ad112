use Rattle.std.proofs.Common.{refl}
use Rattle.aft_door.proofs.StoredForms.{stored_forms}
use Rattle.aft_door.proofs.tests.retired.mark_older.Goals as goal

pub hold_out-requires-clause-superseded : goal.hold_out-requires-clause-superseded
unfolding stored_forms
hold_out-requires-clause-superseded g c = rw (c.requires.history, c.requires.commit) refl

pub hold_out-requires-2-clause-superseded : goal.hold_out-requires-2-clause-superseded
unfolding stored_forms
hold_out-requires-2-clause-superseded g c = rw (c.give_up.ensures.history, c.hold_out.ensures.history, c.requires.history, c.requires.commit) refl

pub mark-requires-clause-superseded : goal.mark-requires-clause-superseded
unfolding stored_forms
mark-requires-clause-superseded g c =
    rw (c.give_up-2.ensures.history, c.hold_out-2.ensures.history, c.give_up.ensures.history, c.hold_out.ensures.history, c.requires.history, c.requires.commit) refl

pub returns-clause-history : goal.returns-clause-history
returns-clause-history g c =
    rw (c.mark.ensures.history, c.give_up-2.ensures.history, c.hold_out-2.ensures.history, c.give_up.ensures.history, c.hold_out.ensures.history, c.requires.history, c.caller-2.ensures, c.caller.ensures, c.requires.commit) refl
