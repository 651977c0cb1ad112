use Rattle.std.proofs.Common.{◌≡◌, ◌-◌, List, ap, refl, sym, subst, ◌∙◌, length, vec_capacity}
use Rattle.std.specs.Prelude.{IsTrue, Some, is_some}
use Rattle.aft_id.specs.declared.txn_id.TxnId.{TxnId}
use Rattle.aft_model.specs.declared.node.NodeAct.{NodeAct}
use Rattle.aft_model.specs.declared.node.NodeAct.TheVariants as acts
use Rattle.aft_model.specs.declared.node.NodeEntry.{NodeEntry}
use Rattle.aft_model.specs.declared.reply.Reply.{Reply}
use Rattle.aft_model.specs.declared.reply.Reply.TheVariants as replies
use Rattle.aft_model.specs.NodeState.{service}
use Rattle.aft_ledger.specs.Ledger.{LedgerView, shown}
use Rattle.aft_ledger.specs.View.{after_entry}
use Rattle.aft_ledger.proofs.Fields.{answer_space, held, of_history, view_of}
use Rattle.aft_ledger.proofs.Views.{view, view_after}
use Rattle.aft_ledger.specs.Knowing.{dropped_ids}
use Rattle.aft_ledger.proofs.Droppable.{dropped_is, known_up, passed_all}
use Rattle.aft_ledger.proofs.Dropped.{AllIn}
use Rattle.aft_ledger.proofs.Rounds.{drops}
use Rattle.aft_txn.specs.Rows.{is_pinned_in}
use Rattle.aft_ledger.proofs.ledger.Ledger.add_drop.Goals as goal

pub drop_all-requires : goal.drop_all-requires
drop_all-requires c = record {
  in_order = known_up (held c.self.inside) c.self.invariant;
  all = subst (λ (ids : List TxnId). AllIn ids c.self.inside.known) (sym (c.as_slice.ensures.value ∙ c.in_ok-ids.ensures)) (passed_all c.self.inside.known (λ id. is_pinned_in id c.self.inside.table.rows));
}

pub invariant_of-self : goal.invariant_of-self
invariant_of-self c =
    let ids : c.in_ok-ids.ids.items ≡ dropped_ids c.self.inside.history.items = c.in_ok-ids.ensures ∙ dropped_is (held c.self.inside) c.self.invariant (of_history c.self.inside c.args.self.now c.self.view_is (λ (h : List NodeEntry). IsTrue (is_some (service h))) c.requires.serves) in
    rw (c.add.ensures.entry, c.add.ensures.front, c.add.ensures.room, c.drop_all.ensures, c.as_slice.ensures.value, c.dropped_act-act.ensures, ids)
    (drops (held c.self.inside) c.self.invariant c.args.front c.args.by (vec_capacity c.self.inside.history) (of_history c.self.inside c.args.self.now c.self.view_is (λ (h : List NodeEntry). IsTrue (is_some (service h))) c.requires.serves) (answer_space c.self.inside c.args.self.now c.self.view_is c.self.invariant c.requires.room))

pub returns-clause-ok : goal.returns-clause-ok
returns-clause-ok c =
    let ids : c.in_ok-ids.ids.items ≡ dropped_ids c.self.inside.history.items = c.in_ok-ids.ensures ∙ dropped_is (held c.self.inside) c.self.invariant (of_history c.self.inside c.args.self.now c.self.view_is (λ (h : List NodeEntry). IsTrue (is_some (service h))) c.requires.serves) in
    subst (λ (v : LedgerView). (view c.self.inside.number c.self.inside.cache.capacity c.add.new.history.items c.add.new.latest (c.self.inside.room - 1)) ≡ after_entry c.args.front c.args.by (acts.Drop (dropped_ids v.history)) (Some (replies.Dropped (length (dropped_ids v.history)))) (shown v)) c.self.view_is
    (view_after (shown (view_of c.self.inside)) c.args.front c.args.by c.add.new.history.items c.add.new.latest (c.self.inside.room - 1) c.dropped_act-act.result.0 (acts.Drop (dropped_ids c.self.inside.history.items)) (Some c.dropped_act-act.result.1) (Some (replies.Dropped (length (dropped_ids c.self.inside.history.items))))
    c.add.ensures.front c.add.ensures.entry (ap (λ (made : NodeAct × Reply). made.0) c.dropped_act-act.ensures ∙ ap acts.Drop ids) (ap (λ (made : NodeAct × Reply). Some made.1) c.dropped_act-act.ensures ∙ ap (λ (those : List TxnId). Some (replies.Dropped (length those))) ids) refl)
