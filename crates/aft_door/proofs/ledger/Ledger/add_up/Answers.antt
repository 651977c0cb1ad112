use Rattle.std.proofs.Common.{◌∷◌, [], arith, length, length-append, sym, ◌∙◌}
use Rattle.std.proofs.Common.{vec_capacity}
use Rattle.indexmap.specs.IndexMap.{spare}
use Rattle.aft_door.specs.Entries.{came_up}
use Rattle.aft_door.proofs.Opens.{up_follows}
use Rattle.aft_door.proofs.Added.{up_added}
use Rattle.aft_door.proofs.Rooms.{at_most_one, may_in, on_ok, room_in}
use Rattle.aft_door.proofs.ledger.Ledger.add_up.Goals as goal

pub invariant_of-self : goal.invariant_of-self
invariant_of-self c =
    let i = c.self.inside in
    let l = c.self.invariant in
    let e = came_up c.args.by c.args.node c.args.inc in
    let r = room_in i c.args.self.now c.self.view_is c.requires.room in
    let entries = r.entries in
    let fence = r.fence in
    let n = length-append i.history.items (e ∷ []) in
    let grown = at_most_one c.insert-up.result (length i.ups.entries) (length c.insert-up.new.self.entries) (sym c.is_ok.ensures.value ∙ c.if-prove.false) c.insert-up.ensures.len in
    rw c.add.ensures.items (up_added i.history.items i.ups.entries i.fenced.entries i.claims.entries i.forgotten.keys i.puts.entries i.given.keys (vec_capacity i.history) (spare i.fenced) l (vec_capacity c.add.new.history) c.args.by c.args.node c.args.inc c.insert-up.new.self.entries (may_in i c.args.self.now c.self.view_is e (up_follows c.args.self.now.history c.args.by c.args.node c.args.inc c.requires.open c.requires.alone c.requires.newer)) (on_ok _ c.insert-up.result (sym c.is_ok.ensures.value ∙ c.if-prove.false) c.insert-up.ensures.updates).0 (omega arith) (omega arith))
