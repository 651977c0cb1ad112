use Rattle.std.proofs.Common.{refl}
use Rattle.aft_door.proofs.StoredForms.{stored_forms}
use Rattle.aft_door.proofs.tests.upgraded.upgrades.Goals as goal

pub upgrade-requires-clause-old : goal.upgrade-requires-clause-old
unfolding stored_forms
upgrade-requires-clause-old g c =
    let key = rw c.expect-key.ensures at c.new.ensures.ok in
    rw (c.open_old-door.ensures, c.commit_of-commit.ensures.value, c.id_of.ensures, key.0) refl
