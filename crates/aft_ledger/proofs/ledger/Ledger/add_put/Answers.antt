use Rattle.std.proofs.Common.{◌≡◌, ℕ, List, vec_capacity}
use Rattle.std.proofs.Common.{subst, ◌⊎◌}
use Rattle.std.specs.Prelude.{IsFalse, IsTrue}
use Rattle.aft_model.specs.Attempts.{attempt_state, is_running, row_of}
use Rattle.aft_model.specs.NodeState.{part}
use Rattle.aft_model.proofs.Pins.{running_there}
use Rattle.aft_ledger.specs.Ledger.{LedgerView}
use Rattle.aft_ledger.specs.Turns.{may_put}
use Rattle.aft_ledger.proofs.Acts.{changed-same, doing, puts, row_here}
use Rattle.aft_ledger.proofs.Puts.{fits, put_fault, put_fits}
use Rattle.aft_txn.specs.declared.state.TxnFault.TheVariants as faults
use Rattle.aft_ledger.proofs.Fields.{answer_space, at_node, does, held}
use Rattle.aft_ledger.proofs.ledger.Ledger.add_put.Goals as goal

pub returns-in-Err-clause-fault : goal.returns-in-Err-clause-fault
returns-in-Err-clause-fault c =
    let running = (does c.self.inside c.args.self.now c.self.view_is is_running c.args.attempt c.requires.running) in
    let d = doing is_running c.args.attempt c.self.inside.history.items running in
    let row = row_here (held c.self.inside) c.self.invariant c.args.attempt (at_node c.self.inside c.args.self.now c.self.view_is c.args.attempt.node c.requires.node) d.0 (running_there (attempt_state c.args.attempt (part c.self.inside.history.items)) d.1) in
    let its = put_fault _ c.in_ok-own_key.own_key (row_of (part c.self.inside.history.items) c.args.attempt) _ row d.1 c.in-Err.fault c.in-Err.ensures.refused in
    subst (λ (v : LedgerView). (c.in-Err.fault ≡ faults.Memory) ⊎ ((c.in-Err.fault ≡ faults.TooManyKeys) × IsFalse (may_put c.args.attempt c.args.key v.history))) c.self.view_is
    (subst (λ (k : List ℕ). (c.in-Err.fault ≡ faults.Memory) ⊎ ((c.in-Err.fault ≡ faults.TooManyKeys) × IsFalse (fits k (row_of (part c.self.inside.history.items) c.args.attempt)))) c.in_ok-own_key.ensures.cases its)

pub invariant_of-self-2 : goal.invariant_of-self-2
invariant_of-self-2 c =
    let running = (does c.self.inside c.args.self.now c.self.view_is is_running c.args.attempt c.requires.running) in
    let d = doing is_running c.args.attempt c.self.inside.history.items running in
    let row = row_here (held c.self.inside) c.self.invariant c.args.attempt (at_node c.self.inside c.args.self.now c.self.view_is c.args.attempt.node c.requires.node) d.0 (running_there (attempt_state c.args.attempt (part c.self.inside.history.items)) d.1) in
    let may = put_fits c.in_ok-own_key.own_key (row_of (part c.self.inside.history.items) c.args.attempt) _ row d.1 _ c.in-Ok.ensures.refused in
    rw (c.add.ensures.entry, c.add.ensures.front, c.add.ensures.room, c.in-Ok.ensures.ok, c.in_ok-own_key.ensures.cases, c.in_ok-own_value.ensures.cases, changed-same)
    (puts (held c.self.inside) c.self.invariant c.args.front c.args.by c.args.attempt (vec_capacity c.self.inside.history) c.args.key c.args.value running
    (subst (λ (k : List ℕ). IsTrue (fits k (row_of (part c.self.inside.history.items) c.args.attempt))) c.in_ok-own_key.ensures.cases may) (answer_space c.self.inside c.args.self.now c.self.view_is c.self.invariant c.requires.room))

pub returns-clause-fits : goal.returns-clause-fits
returns-clause-fits c =
    let running = (does c.self.inside c.args.self.now c.self.view_is is_running c.args.attempt c.requires.running) in
    let d = doing is_running c.args.attempt c.self.inside.history.items running in
    let row = row_here (held c.self.inside) c.self.invariant c.args.attempt (at_node c.self.inside c.args.self.now c.self.view_is c.args.attempt.node c.requires.node) d.0 (running_there (attempt_state c.args.attempt (part c.self.inside.history.items)) d.1) in
    let may = put_fits c.in_ok-own_key.own_key (row_of (part c.self.inside.history.items) c.args.attempt) _ row d.1 _ c.in-Ok.ensures.refused in
    subst (λ (v : LedgerView). IsTrue (may_put c.args.attempt c.args.key v.history)) c.self.view_is (subst (λ (k : List ℕ). IsTrue (fits k (row_of (part c.self.inside.history.items) c.args.attempt))) c.in_ok-own_key.ensures.cases may)
