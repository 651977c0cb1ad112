use Rattle.std.proofs.Common.{◌≡◌, List, ap, refl, subst, ◌∙◌, vec_capacity}
use Rattle.std.specs.Prelude.{IsFalse, IsTrue, None}
use Rattle.aft_model.specs.declared.node.NodeAct.TheVariants as acts
use Rattle.aft_model.specs.declared.node.NodeEntry.{NodeEntry}
use Rattle.aft_model.specs.Known.{known}
use Rattle.aft_model.specs.NodeState.{part}
use Rattle.aft_ledger.specs.Ledger.{LedgerView, shown}
use Rattle.aft_ledger.specs.View.{after_entry}
use Rattle.aft_ledger.proofs.Fields.{at_node, does, entry_space, held, of_history, view_of}
use Rattle.aft_ledger.proofs.Views.{view, view_after}
use Rattle.aft_records.specs.Limits.{is_time}
use Rattle.aft_model.specs.Attempts.{buffer, is_running, open_reads, written_keys}
use Rattle.aft_ledger.specs.Turns.{commit_of, floor_of}
use Rattle.aft_ledger.proofs.Acts.{changed-same, commits}
use Rattle.aft_ledger.proofs.Starts.{commit_is, start_fault, started}
use Rattle.aft_txn.specs.declared.state.TxnFault.TheVariants as faults
use Rattle.aft_ledger.proofs.ledger.Ledger.add_start.Goals as goal

pub returns-in-Err-clause-fault : goal.returns-in-Err-clause-fault
returns-in-Err-clause-fault c =
    subst (λ (v : LedgerView). (c.in-Err.fault ≡ faults.ClockEnd) × IsFalse (is_time (commit_of c.args.now c.args.attempt v.history).id.time)) c.self.view_is (start_fault (held c.self.inside) c.self.invariant c.args.attempt (at_node c.self.inside c.args.self.now c.self.view_is c.args.attempt.node c.requires.node) (does c.self.inside c.args.self.now c.self.view_is is_running c.args.attempt c.requires.running) (of_history c.self.inside c.args.self.now c.self.view_is (λ (h : List NodeEntry). open_reads c.args.attempt (part h) ≡ 0) c.requires.closed) c.args.keys (of_history c.self.inside c.args.self.now c.self.view_is (λ (h : List NodeEntry). c.args.keys ≡ written_keys (buffer c.args.attempt (part h))) c.requires.keys) c.args.now c.args.floor (of_history c.self.inside c.args.self.now c.self.view_is (λ (h : List NodeEntry). c.args.floor ≡ floor_of c.args.keys (known h)) c.requires.floor) _ c.in-Err.fault c.in-Err.ensures.refused)

pub invariant_of-self-2 : goal.invariant_of-self-2
invariant_of-self-2 c =
    let st = started (held c.self.inside) c.self.invariant c.args.attempt (at_node c.self.inside c.args.self.now c.self.view_is c.args.attempt.node c.requires.node) (does c.self.inside c.args.self.now c.self.view_is is_running c.args.attempt c.requires.running) (of_history c.self.inside c.args.self.now c.self.view_is (λ (h : List NodeEntry). open_reads c.args.attempt (part h) ≡ 0) c.requires.closed) c.args.keys (of_history c.self.inside c.args.self.now c.self.view_is (λ (h : List NodeEntry). c.args.keys ≡ written_keys (buffer c.args.attempt (part h))) c.requires.keys) c.args.now c.args.floor (of_history c.self.inside c.args.self.now c.self.view_is (λ (h : List NodeEntry). c.args.floor ≡ floor_of c.args.keys (known h)) c.requires.floor) c.in-Ok.id c.in-Ok.ensures.refused c.in-Ok.ensures.id in
    rw (c.add.ensures.entry, c.add.ensures.front, c.add.ensures.room, c.in-Ok.ensures.ok, c.start_act-act.ensures, changed-same)
    (commits (held c.self.inside) c.self.invariant c.args.front c.args.by c.args.attempt (vec_capacity c.self.inside.history) c.args.now c.in-Ok.id c.args.keys (does c.self.inside c.args.self.now c.self.view_is is_running c.args.attempt c.requires.running) (of_history c.self.inside c.args.self.now c.self.view_is (λ (h : List NodeEntry). open_reads c.args.attempt (part h) ≡ 0) c.requires.closed) c.requires.some (of_history c.self.inside c.args.self.now c.self.view_is (λ (h : List NodeEntry). c.args.keys ≡ written_keys (buffer c.args.attempt (part h))) c.requires.keys) st.0 st.1 (entry_space c.self.inside c.args.self.now c.self.view_is c.requires.has_room))

pub returns-clause-in_time : goal.returns-clause-in_time
returns-clause-in_time c =
    let st = started (held c.self.inside) c.self.invariant c.args.attempt (at_node c.self.inside c.args.self.now c.self.view_is c.args.attempt.node c.requires.node) (does c.self.inside c.args.self.now c.self.view_is is_running c.args.attempt c.requires.running) (of_history c.self.inside c.args.self.now c.self.view_is (λ (h : List NodeEntry). open_reads c.args.attempt (part h) ≡ 0) c.requires.closed) c.args.keys (of_history c.self.inside c.args.self.now c.self.view_is (λ (h : List NodeEntry). c.args.keys ≡ written_keys (buffer c.args.attempt (part h))) c.requires.keys) c.args.now c.args.floor (of_history c.self.inside c.args.self.now c.self.view_is (λ (h : List NodeEntry). c.args.floor ≡ floor_of c.args.keys (known h)) c.requires.floor) c.in-Ok.id c.in-Ok.ensures.refused c.in-Ok.ensures.id in
    subst (λ (v : LedgerView). IsTrue (is_time (commit_of c.args.now c.args.attempt v.history).id.time)) c.self.view_is st.1

pub returns-clause-id : goal.returns-clause-id
returns-clause-id c =
    let st = started (held c.self.inside) c.self.invariant c.args.attempt (at_node c.self.inside c.args.self.now c.self.view_is c.args.attempt.node c.requires.node) (does c.self.inside c.args.self.now c.self.view_is is_running c.args.attempt c.requires.running) (of_history c.self.inside c.args.self.now c.self.view_is (λ (h : List NodeEntry). open_reads c.args.attempt (part h) ≡ 0) c.requires.closed) c.args.keys (of_history c.self.inside c.args.self.now c.self.view_is (λ (h : List NodeEntry). c.args.keys ≡ written_keys (buffer c.args.attempt (part h))) c.requires.keys) c.args.now c.args.floor (of_history c.self.inside c.args.self.now c.self.view_is (λ (h : List NodeEntry). c.args.floor ≡ floor_of c.args.keys (known h)) c.requires.floor) c.in-Ok.id c.in-Ok.ensures.refused c.in-Ok.ensures.id in
    subst (λ (v : LedgerView). c.in-Ok.id ≡ (commit_of c.args.now c.args.attempt v.history).id) c.self.view_is st.0

pub returns-clause-ok : goal.returns-clause-ok
returns-clause-ok c =
    let st = started (held c.self.inside) c.self.invariant c.args.attempt (at_node c.self.inside c.args.self.now c.self.view_is c.args.attempt.node c.requires.node) (does c.self.inside c.args.self.now c.self.view_is is_running c.args.attempt c.requires.running) (of_history c.self.inside c.args.self.now c.self.view_is (λ (h : List NodeEntry). open_reads c.args.attempt (part h) ≡ 0) c.requires.closed) c.args.keys (of_history c.self.inside c.args.self.now c.self.view_is (λ (h : List NodeEntry). c.args.keys ≡ written_keys (buffer c.args.attempt (part h))) c.requires.keys) c.args.now c.args.floor (of_history c.self.inside c.args.self.now c.self.view_is (λ (h : List NodeEntry). c.args.floor ≡ floor_of c.args.keys (known h)) c.requires.floor) c.in-Ok.id c.in-Ok.ensures.refused c.in-Ok.ensures.id in
    subst (λ (v : LedgerView). (view c.self.inside.number c.self.inside.cache.capacity c.add.new.history.items c.add.new.latest c.self.inside.room) ≡ after_entry c.args.front c.args.by (acts.Start c.args.attempt c.args.now (commit_of c.args.now c.args.attempt v.history)) None (shown v)) c.self.view_is
    (view_after (shown (view_of c.self.inside)) c.args.front c.args.by c.add.new.history.items c.add.new.latest c.self.inside.room c.start_act-act.result (acts.Start c.args.attempt c.args.now (commit_of c.args.now c.args.attempt c.self.inside.history.items)) None None
    c.add.ensures.front c.add.ensures.entry (c.start_act-act.ensures ∙ ap (acts.Start c.args.attempt c.args.now) (commit_is (held c.self.inside) c.self.invariant c.args.attempt (at_node c.self.inside c.args.self.now c.self.view_is c.args.attempt.node c.requires.node) (does c.self.inside c.args.self.now c.self.view_is is_running c.args.attempt c.requires.running) (of_history c.self.inside c.args.self.now c.self.view_is (λ (h : List NodeEntry). open_reads c.args.attempt (part h) ≡ 0) c.requires.closed) c.args.keys (of_history c.self.inside c.args.self.now c.self.view_is (λ (h : List NodeEntry). c.args.keys ≡ written_keys (buffer c.args.attempt (part h))) c.requires.keys) c.args.now c.args.floor (of_history c.self.inside c.args.self.now c.self.view_is (λ (h : List NodeEntry). c.args.floor ≡ floor_of c.args.keys (known h)) c.requires.floor) c.in-Ok.id st.0)) refl refl)
