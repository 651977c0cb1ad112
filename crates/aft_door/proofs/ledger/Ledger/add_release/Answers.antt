use Rattle.std.proofs.Common.{subst, ◌∷◌, [], arith, length, length-append, sym, ◌∙◌}
use Rattle.std.proofs.Common.{vec_capacity}
use Rattle.indexmap.specs.IndexMap.{spare}
use Rattle.aft_door.specs.Entries.{released, who_calls}
use Rattle.aft_door.specs.Ledger.{LedgerView}
use Rattle.std.specs.Prelude.{IsTrue}
use Rattle.aft_model.specs.Claims.{holds}
use Rattle.aft_model.specs.Membership.{is_up}
use Rattle.aft_door.proofs.Opens.{release_follows}
use Rattle.aft_door.proofs.Added.{release_added}
use Rattle.aft_door.proofs.Rooms.{one_less}
use Rattle.aft_door.proofs.ledger.Ledger.add_release.Goals as goal

pub invariant_of-self : goal.invariant_of-self
invariant_of-self c =
    let i = c.self.inside in
    let l = c.self.invariant in
    let e = released c.args.who c.args.uuid in
    let n = length-append i.history.items (e ∷ []) in
    let gone = one_less c.swap_remove-claim.result (length i.claims.entries) (length c.swap_remove-claim.new.self.entries) (sym c.is_some.ensures ∙ c.if-prove.false) c.swap_remove-claim.ensures.len in
    let room = l.room in
    let more = c.add.ensures.capacity in
    rw c.add.ensures.items (release_added i.history.items i.ups.entries i.fenced.entries i.claims.entries i.forgotten.keys i.puts.entries i.given.keys (vec_capacity i.history) (spare i.fenced) l (vec_capacity c.add.new.history) c.args.who c.args.uuid c.swap_remove-claim.new.self.entries (release_follows i.history.items c.args.who c.args.uuid l.legal (subst (λ (v : LedgerView). IsTrue (is_up (who_calls c.args.who) v.history)) (sym c.self.view_is) c.requires.up) (subst (λ (v : LedgerView). IsTrue (holds (who_calls c.args.who) c.args.uuid v.history)) (sym c.self.view_is) c.requires.held)) c.uuid_bytes.ensures.bytes c.swap_remove-claim.ensures.updates.0 (omega arith))
