use Rattle.std.proofs.Common.{◌≡◌, ℕ, List, ap, sym, subst, ◌∙◌}
use Rattle.std.specs.Prelude.{IfOk, IsFalse, IsTrue, None, Option, Some, option_copied, option_map}
use Rattle.aft_model.specs.declared.choice.Picked.{Picked}
use Rattle.aft_model.specs.declared.choice.Picked.TheVariants as picked
use Rattle.aft_model.specs.declared.node.NodeEntry.{NodeEntry}
use Rattle.aft_model.specs.declared.reply.Reply.{Reply}
use Rattle.aft_model.specs.Attempts.{attempt_state, buffer, buffered, is_gone, reads}
use Rattle.aft_model.specs.Cache.{cache}
use Rattle.aft_model.specs.Choice.{choice}
use Rattle.aft_model.specs.Known.{known}
use Rattle.aft_model.specs.NodeRules.{own_or, picked_by}
use Rattle.aft_model.specs.NodeState.{node_state, part, serves, service}
use Rattle.aft_ledger.specs.Ledger.{LedgerView, shown}
use Rattle.aft_ledger.specs.Turns.{picks}
use Rattle.aft_ledger.proofs.Asked.{if_ok, own_is, pick_is}
use Rattle.aft_ledger.proofs.Fields.{at_node, held, of_history}
use Rattle.aft_model.specs.NodeRules.{pick}
use Rattle.aft_ledger.proofs.ledger.Ledger.pick.Goals as goal

pub returns-in-Some-clause-picks : goal.returns-in-Some-clause-picks
returns-in-Some-clause-picks c =
    let put : buffered c.args.key.now (buffer c.args.attempt.now (part c.self.inside.history.items)) ≡ Some c.in-Some.value.now = sym (own_is (held c.self.inside) c.self.invariant c.args.attempt.now (at_node c.self.inside c.args.self.now c.self.view_is c.args.attempt.now.node c.requires.node) (of_history c.self.inside c.args.self.now c.self.view_is (λ (h : List NodeEntry). IsTrue (serves c.args.attempt.now.inc (node_state h))) c.requires.serves) (of_history c.self.inside c.args.self.now c.self.view_is (λ (h : List NodeEntry). IsFalse (is_gone (attempt_state c.args.attempt.now (part h)))) c.requires.there) c.args.key.now (option_copied c.own.result) buffered c.own.ensures) ∙ ap option_copied c.in-Some.is in
    subst (λ (v : LedgerView). IfOk c.own_picked.result (λ (made : Picked × Option Reply). picks (shown v) c.args.attempt.now c.args.key.now ≡ Some made.0)) c.self.view_is
    (if_ok c.own_picked.result (λ (made : Picked × Option Reply). made.0 ≡ picked.Own c.in-Some.value.now) (λ (made : Picked × Option Reply). option_map (λ s. pick c.self.inside.cache.capacity s c.args.attempt.now c.args.key.now) (service c.self.inside.history.items) ≡ Some made.0)
    (λ made is. pick_is (held c.self.inside) c.self.invariant c.args.attempt.now (of_history c.self.inside c.args.self.now c.self.view_is (λ (h : List NodeEntry). IsTrue (serves c.args.attempt.now.inc (node_state h))) c.requires.serves) c.args.key.now ∙ (ap (λ (o : Option (List ℕ)). Some (own_or o (picked_by c.args.key.now (cache c.self.inside.cache.capacity (part c.self.inside.history.items)) (choice c.args.key.now (reads c.args.attempt.now (part c.self.inside.history.items)) (known c.self.inside.history.items))))) put ∙ ap (λ (p : Picked). Some p) (sym is))) c.own_picked.ensures.picks)

pub returns-in-None-clause-picks : goal.returns-in-None-clause-picks
returns-in-None-clause-picks c =
    let put : buffered c.args.key.now (buffer c.args.attempt.now (part c.self.inside.history.items)) ≡ None = sym (own_is (held c.self.inside) c.self.invariant c.args.attempt.now (at_node c.self.inside c.args.self.now c.self.view_is c.args.attempt.now.node c.requires.node) (of_history c.self.inside c.args.self.now c.self.view_is (λ (h : List NodeEntry). IsTrue (serves c.args.attempt.now.inc (node_state h))) c.requires.serves) (of_history c.self.inside c.args.self.now c.self.view_is (λ (h : List NodeEntry). IsFalse (is_gone (attempt_state c.args.attempt.now (part h)))) c.requires.there) c.args.key.now (option_copied c.own.result) buffered c.own.ensures) ∙ ap option_copied c.in-None.is in
    subst (λ (v : LedgerView). IfOk c.chosen.result (λ (made : Picked × Option Reply). picks (shown v) c.args.attempt.now c.args.key.now ≡ Some made.0)) c.self.view_is
    (if_ok c.chosen.result (λ (made : Picked × Option Reply). made.0 ≡ (picked_by c.args.key.now (cache c.self.inside.cache.capacity (part c.self.inside.history.items)) (choice c.args.key.now (reads c.args.attempt.now (part c.self.inside.history.items)) (known c.self.inside.history.items)))) (λ (made : Picked × Option Reply). option_map (λ s. pick c.self.inside.cache.capacity s c.args.attempt.now c.args.key.now) (service c.self.inside.history.items) ≡ Some made.0)
    (λ made is. pick_is (held c.self.inside) c.self.invariant c.args.attempt.now (of_history c.self.inside c.args.self.now c.self.view_is (λ (h : List NodeEntry). IsTrue (serves c.args.attempt.now.inc (node_state h))) c.requires.serves) c.args.key.now ∙ (ap (λ (o : Option (List ℕ)). Some (own_or o (picked_by c.args.key.now (cache c.self.inside.cache.capacity (part c.self.inside.history.items)) (choice c.args.key.now (reads c.args.attempt.now (part c.self.inside.history.items)) (known c.self.inside.history.items))))) put ∙ ap (λ (p : Picked). Some p) (sym is)))
    (subst (λ (v : LedgerView). IfOk c.chosen.result (λ (made : Picked × Option Reply). made.0 ≡ picked_by c.args.key.now (cache v.capacity (part v.history)) (choice c.args.key.now (reads c.args.attempt.now (part v.history)) (known v.history)))) (sym c.self.view_is) c.chosen.ensures.picks))
