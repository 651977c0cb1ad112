use Rattle.std.proofs.Common.{vec_capacity}
use Rattle.indexmap.specs.IndexMap.{spare}
use Rattle.aft_door.specs.Entries.{door_opened}
use Rattle.aft_door.proofs.Added.{opened_added}
use Rattle.aft_door.proofs.Rooms.{may_in, room_for}
use Rattle.aft_door.proofs.ledger.Ledger.add_opened.Goals as goal

pub invariant_of-self : goal.invariant_of-self
invariant_of-self c =
    let i = c.self.inside in
    let l = c.self.invariant in
    let e = door_opened c.args.by in
    rw c.add.ensures.items (opened_added i.history.items i.ups.entries i.fenced.entries i.claims.entries i.forgotten.keys i.puts.entries i.given.keys (vec_capacity i.history) (spare i.fenced) l (vec_capacity c.add.new.history) c.args.by (may_in i c.args.self.now c.self.view_is e c.requires.legal) (room_for i c.args.self.now c.self.view_is e (vec_capacity c.add.new.history) c.requires.room c.add.ensures.capacity))
