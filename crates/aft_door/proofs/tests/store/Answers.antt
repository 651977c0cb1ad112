use Rattle.std.proofs.Common.{[], append_assoc}
use Rattle.aft_records.specs.declared.stored.Version.{Version}
use Rattle.aft_door.proofs.Seen.{looked, stored}
use Rattle.aft_door.proofs.tests.store.Goals as goal

pub put_version-requires-clause-unused : goal.put_version-requires-clause-unused
put_version-requires-clause-unused g c = rw (c.empty_version-version.ensures, c.look.ensures.history) (looked c.args.who c.args.id.now.uuid c.args.door.now.history)

pub returns-clause-stored : goal.returns-clause-stored
returns-clause-stored g c =
    let v : Version = record { id = c.args.id.now; key = c.args.key.now; value = [] } in
    rw (c.put_version.ensures.history, c.empty_version-version.ensures)
    (stored c.args.who v c.look.new.door.history (rw c.empty_version-version.ensures at c.put_version.ensures.fits)
    (rw c.look.ensures.history (looked c.args.who c.args.id.now.uuid c.args.door.now.history)))

pub returns-clause-history : goal.returns-clause-history
returns-clause-history g c = rw (c.put_version.ensures.history, c.look.ensures.history, c.empty_version-version.ensures) (simp append_assoc)
