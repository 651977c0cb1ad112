use Rattle.std.proofs.Common.{vec_capacity}
use Rattle.indexmap.specs.IndexMap.{spare}
use Rattle.aft_door.specs.Entries.{called}
use Rattle.aft_door.proofs.Added.{call_added}
use Rattle.aft_door.proofs.Rooms.{may_in, room_for}
use Rattle.aft_door.proofs.ledger.Ledger.add_call.Goals as goal

pub invariant_of-self : goal.invariant_of-self
invariant_of-self c =
    let i = c.self.inside in
    let l = c.self.invariant in
    let e = called c.args.who c.args.call c.args.answer in
    rw c.add.ensures.items (call_added i.history.items i.ups.entries i.fenced.entries i.claims.entries i.forgotten.keys i.puts.entries i.given.keys (vec_capacity i.history) (spare i.fenced) l (vec_capacity c.add.new.history) c.args.who c.args.call c.args.answer (may_in i c.args.self.now c.self.view_is e c.requires.legal) c.requires.bytes c.requires.no_marker c.requires.no_record
    (room_for i c.args.self.now c.self.view_is e (vec_capacity c.add.new.history) c.requires.room c.add.ensures.capacity))
