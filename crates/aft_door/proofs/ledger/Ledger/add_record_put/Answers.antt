use Rattle.std.proofs.Common.{sym, ◌∙◌}
use Rattle.std.proofs.Common.{vec_capacity}
use Rattle.indexmap.specs.IndexMap.{spare}
use Rattle.aft_door.specs.Entries.{called}
use Rattle.aft_door.proofs.Added.{record_added}
use Rattle.aft_door.proofs.Rooms.{may_in, on_ok, room_for}
use Rattle.aft_keeper.specs.declared.keeper.KeeperCall.TheVariants.{Put}
use Rattle.aft_door.proofs.ledger.Ledger.add_record_put.Goals as goal

pub invariant_of-self : goal.invariant_of-self
invariant_of-self c =
    let i = c.self.inside in
    let l = c.self.invariant in
    let e = called c.args.who (Put c.args.name c.args.bytes) c.args.answer in
    rw c.add.ensures.items (record_added i.history.items i.ups.entries i.fenced.entries i.claims.entries i.forgotten.keys i.puts.entries i.given.keys (vec_capacity i.history) (spare i.fenced) l (vec_capacity c.add.new.history) c.count.result c.args.who c.args.uuid c.args.name c.args.bytes c.args.answer c.insert-put.new.self.entries (may_in i c.args.self.now c.self.view_is e c.requires.legal) c.requires.bytes c.uuid_bytes.ensures.bytes c.requires.name c.count.ensures (on_ok _ c.insert-put.result (sym c.is_ok.ensures.value ∙ c.if-prove.false) c.insert-put.ensures.updates).0 (room_for i c.args.self.now c.self.view_is e (vec_capacity c.add.new.history) c.requires.room c.add.ensures.capacity))
