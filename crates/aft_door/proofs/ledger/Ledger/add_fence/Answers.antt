use Rattle.std.proofs.Common.{◌≡◌, Some, subst, ◌∷◌, [], arith, length, length-append, sym, vec_capacity, ◌∙◌}
use Rattle.indexmap.specs.IndexMap.{spare}
use Rattle.aft_door.specs.Entries.{was_fenced}
use Rattle.aft_door.specs.Ledger.{LedgerView}
use Rattle.aft_model.specs.Membership.{up_now}
use Rattle.aft_door.proofs.Opens.{fence_follows}
use Rattle.aft_door.proofs.Added.{fence_added}
use Rattle.aft_door.proofs.Rooms.{one_less}
use Rattle.aft_door.proofs.ledger.Ledger.add_fence.Goals as goal

pub invariant_of-self : goal.invariant_of-self
invariant_of-self c =
    let i = c.self.inside in
    let l = c.self.invariant in
    let e = was_fenced c.args.by c.args.node c.args.inc in
    let n = length-append i.history.items (e ∷ []) in
    let gone = one_less c.swap_remove-up.result (length i.ups.entries) (length c.swap_remove-up.new.self.entries) (sym c.is_some.ensures ∙ c.if-prove.false) c.swap_remove-up.ensures.len in
    let room = l.room in
    let fences = l.fence_room in
    let more = c.add.ensures.capacity in
    let left = c.note_fenced.ensures.room in
    let noted = c.note_fenced.ensures.updates in
    rw c.add.ensures.items (fence_added i.history.items i.ups.entries i.fenced.entries i.claims.entries i.forgotten.keys i.puts.entries i.given.keys (vec_capacity i.history) (spare i.fenced) l (vec_capacity c.add.new.history) (spare c.note_fenced.new.fenced) c.args.by c.args.node c.args.inc c.swap_remove-up.new.self.entries c.note_fenced.new.fenced.entries noted.most (fence_follows i.history.items c.args.by c.args.node c.args.inc l.legal c.requires.node (subst (λ (v : LedgerView). up_now c.args.node v.history ≡ Some c.args.inc) (sym c.self.view_is) c.requires.up)) c.swap_remove-up.ensures.updates.0 noted.is noted.updates (omega arith) (omega arith))
