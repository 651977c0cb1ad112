use Rattle.std.proofs.Common.{sym, ◌∙◌}
use Rattle.std.proofs.Common.{vec_capacity}
use Rattle.indexmap.specs.IndexMap.{spare}
use Rattle.aft_door.specs.Entries.{gave_up}
use Rattle.aft_door.proofs.Added.{give_up_added}
use Rattle.aft_door.proofs.Rooms.{may_in, on_ok, room_for}
use Rattle.aft_door.proofs.ledger.Ledger.add_give_up.Goals as goal

pub invariant_of-self : goal.invariant_of-self
invariant_of-self c =
    let i = c.self.inside in
    let l = c.self.invariant in
    let e = gave_up c.args.who c.args.id in
    rw c.add.ensures.items (give_up_added i.history.items i.ups.entries i.fenced.entries i.claims.entries i.forgotten.keys i.puts.entries i.given.keys (vec_capacity i.history) (spare i.fenced) l (vec_capacity c.add.new.history) c.args.who c.args.id c.insert-given.new.self.keys (may_in i c.args.self.now c.self.view_is e c.requires.legal) c.uuid_bytes.ensures.bytes (on_ok _ c.insert-given.result (sym c.is_ok.ensures.value ∙ c.if-prove.false) c.insert-given.ensures.updates).0 (room_for i c.args.self.now c.self.view_is e (vec_capacity c.add.new.history) c.requires.room c.add.ensures.capacity))
