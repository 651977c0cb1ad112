use Rattle.std.proofs.Common.{◌≡◌, List, refl, subst, vec_capacity}
use Rattle.std.specs.Prelude.{IsTrue, None, is_some}
use Rattle.aft_model.specs.declared.node.NodeAct.TheVariants as acts
use Rattle.aft_model.specs.declared.node.NodeEntry.{NodeEntry}
use Rattle.aft_model.specs.NodeState.{service}
use Rattle.aft_ledger.specs.Ledger.{LedgerView, shown}
use Rattle.aft_ledger.specs.View.{after_entry}
use Rattle.aft_ledger.proofs.Fields.{entry_space, held, of_history, view_of}
use Rattle.aft_ledger.proofs.Views.{view, view_after}
use Rattle.aft_ledger.specs.Knowing.{kept_apart, pruned_away}
use Rattle.aft_ledger.proofs.Rounds.{announces}
use Rattle.aft_ledger.proofs.Views.{kept_is, pruned_is}
use Rattle.aft_ledger.proofs.ledger.Ledger.add_announce.Goals as goal

pub invariant_of-self : goal.invariant_of-self
invariant_of-self c =
    rw (c.add.ensures.entry, c.add.ensures.front, c.add.ensures.room, c.in_ok-told.ensures.act, c.as_slice.ensures.value, c.clear.ensures.items, kept_is (held c.self.inside) c.self.invariant, pruned_is (held c.self.inside) c.self.invariant)
    (announces (held c.self.inside) c.self.invariant c.args.front c.args.by (vec_capacity c.self.inside.history) (of_history c.self.inside c.args.self.now c.self.view_is (λ (h : List NodeEntry). IsTrue (is_some (service h))) c.requires.serves) (entry_space c.self.inside c.args.self.now c.self.view_is c.requires.has_room))

pub returns : goal.returns
returns c =
    let told : c.in_ok-told.told ≡ (kept_apart c.self.inside.history.items, pruned_away c.self.inside.history.items) = rw (c.in_ok-told.ensures.told, c.as_slice.ensures.value, kept_is (held c.self.inside) c.self.invariant, pruned_is (held c.self.inside) c.self.invariant) in
    let act : c.in_ok-told.act ≡ acts.Announce (kept_apart c.self.inside.history.items) (pruned_away c.self.inside.history.items) = rw (c.in_ok-told.ensures.act, c.as_slice.ensures.value, kept_is (held c.self.inside) c.self.invariant, pruned_is (held c.self.inside) c.self.invariant) in
    record {
      told = subst (λ (v : LedgerView). c.in_ok-told.told ≡ (kept_apart v.history, pruned_away v.history)) c.self.view_is told;
      ok = subst (λ (v : LedgerView). (view c.self.inside.number c.self.inside.cache.capacity c.add.new.history.items c.add.new.latest c.self.inside.room) ≡ after_entry c.args.front c.args.by (acts.Announce (kept_apart v.history) (pruned_away v.history)) None (shown v)) c.self.view_is
          (view_after (shown (view_of c.self.inside)) c.args.front c.args.by c.add.new.history.items c.add.new.latest c.self.inside.room c.in_ok-told.act (acts.Announce (kept_apart c.self.inside.history.items) (pruned_away c.self.inside.history.items)) None None c.add.ensures.front c.add.ensures.entry act refl refl);
      err = tt;
    }
