use Rattle.std.proofs.Common.{◌∷◌, [], arith, length, length-append, sym, ◌∙◌}
use Rattle.std.proofs.Common.{vec_capacity}
use Rattle.indexmap.specs.IndexMap.{spare}
use Rattle.aft_door.specs.Entries.{claimed}
use Rattle.aft_door.proofs.Added.{claim_added}
use Rattle.aft_door.proofs.Rooms.{at_most_one, may_in, on_ok, room_in}
use Rattle.aft_door.proofs.ledger.Ledger.add_claim.Goals as goal

pub invariant_of-self : goal.invariant_of-self
invariant_of-self c =
    let i = c.self.inside in
    let l = c.self.invariant in
    let e = claimed c.args.who c.args.uuid in
    let r = room_in i c.args.self.now c.self.view_is c.requires.room in
    let entries = r.entries in
    let n = length-append i.history.items (e ∷ []) in
    let grown = at_most_one c.insert-claim.result (length i.claims.entries) (length c.insert-claim.new.self.entries) (sym c.is_ok.ensures.value ∙ c.if-prove.false) c.insert-claim.ensures.len in
    rw c.add.ensures.items (claim_added i.history.items i.ups.entries i.fenced.entries i.claims.entries i.forgotten.keys i.puts.entries i.given.keys (vec_capacity i.history) (spare i.fenced) l (vec_capacity c.add.new.history) c.count-place.result c.args.who c.args.uuid c.insert-claim.new.self.entries (may_in i c.args.self.now c.self.view_is e c.requires.legal) c.uuid_bytes.ensures.bytes c.count-place.ensures (on_ok _ c.insert-claim.result (sym c.is_ok.ensures.value ∙ c.if-prove.false) c.insert-claim.ensures.updates).0 (omega arith))
