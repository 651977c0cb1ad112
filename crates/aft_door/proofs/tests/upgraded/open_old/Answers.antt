use Rattle.std.proofs.Common.{ap, refl, ◌∙◌}
use Rattle.aft_door.specs.Calls.{DoorView}
use Rattle.aft_door.proofs.StoredForms.{stored_forms}
use Rattle.aft_door.proofs.tests.upgraded.open_old.Goals as goal

pub find-requires : goal.find-requires
unfolding stored_forms
find-requires g c =
    rw (c.scan_nothing.ensures, c.scan_one.ensures, c.new-door.ensures.history, c.office.ensures, c.name_of_version-name.ensures, c.old_pair-written.ensures, c.requires.commit, c.requires.key) refl

pub opened-requires-clause-sound : goal.opened-requires-clause-sound
unfolding stored_forms
opened-requires-clause-sound g c =
    rw (c.find.ensures, c.scan_nothing.ensures, c.scan_one.ensures, c.new-door.ensures.history, c.office.ensures, c.office-2.ensures, c.name_of_version-name.ensures, c.version_stored-stored.ensures, c.old_pair-written.ensures, c.requires.commit, c.requires.key) refl

pub returns : goal.returns
returns g c =
    ap (λ (d : DoorView). d.history) (rw c.expect.ensures at c.opened.ensures.ok)
    ∙ rw (c.find.ensures, c.scan_nothing.ensures, c.scan_one.ensures, c.new-door.ensures.history, c.office.ensures, c.office-2.ensures, c.name_of_version-name.ensures, c.version_stored-stored.ensures, c.old_pair-written.ensures, c.requires.commit, c.requires.key) refl
