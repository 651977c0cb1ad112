-- The commit that an attempt has fixed, by the id that is told of it and the keys that it has put.
use Rattle.std.proofs.Common.{◌≡◌, ℕ, List, ap, refl, sym, ◌∙◌}
use Rattle.std.specs.Prelude.{IfOk, IsTrue, Err, None, Ok, Option, Result, Some}
use Rattle.aft_id.specs.declared.txn_id.TxnId.{TxnId}
use Rattle.aft_records.specs.declared.stored.Commit.{Commit}
use Rattle.aft_model.specs.declared.caller.Attempt.{Attempt}
use Rattle.aft_model.specs.declared.node.NodeEntry.{NodeEntry}
use Rattle.aft_model.specs.Attempts.{AttemptState, IsCommitting, IsGone, IsInDoubt, IsLeaving, IsOpening, IsRunning, attempt_state, buffer, fixed_commit, written_keys}
use Rattle.aft_model.specs.NodeState.{node_state, part, serves}
use Rattle.law_attempts.proofs.Attempts.{fixed_keys}
use Rattle.aft_ledger.specs.declared.ledger.Ledger.TheInside.{Inside}
use Rattle.aft_ledger.specs.Ledger.{Held, IsLedger, LedgerView}
use Rattle.aft_ledger.proofs.Asked.{shows}
use Rattle.aft_ledger.proofs.Fields.{held, view_of}
use Rattle.aft_txn.specs.Rows.{told}
use Rattle.aft_txn.specs.declared.state.State.{State}
use Rattle.aft_txn.specs.declared.state.State.TheVariants as states

-- the id that a state of the table tells, if it does
abbrev pub told_id : Option State → Option TxnId
told_id (Some (states.Committing id)) = Some id
told_id (Some (states.Doubt id)) = Some id
told_id state = None

-- the commit of an id with what an attempt has put
abbrev pub with_keys : Attempt → List NodeEntry → TxnId → Commit
with_keys b those id = record { id = id; keys = written_keys (buffer b those) }

none_some : {A : Type 0} (a : A) → None ≡ Some a → ⊥
none_some a is = cc

some_same : {A : Type 0} (a b : A) → Some a ≡ Some b → a ≡ b
some_same a b is = cc

fixed_is : (h : Held) (l : IsLedger h) (b : Attempt) → IsTrue (serves b.inc (node_state h.history)) → (id : TxnId) → told_id (told (attempt_state b (part h.history))) ≡ Some id
    → Some (with_keys b (part h.history) id) ≡ fixed_commit (attempt_state b (part h.history))
fixed_is h l b serve id is = cases (attempt_state b (part h.history)) refl is
  where
    same : (d : Commit) → fixed_commit (attempt_state b (part h.history)) ≡ Some d → d.id ≡ id → Some (with_keys b (part h.history) id) ≡ Some d
    same d at its = ap Some (sym (ap (λ (i : TxnId). record { id = i; keys = written_keys (buffer b (part h.history)) }) its) ∙ sym (ap (λ (keys : List (List ℕ)). record { id = d.id; keys = keys }) (fixed_keys h.number h.capacity b.inc h.history l.legal serve b d at)))

    cases : (state : AttemptState) → attempt_state b (part h.history) ≡ state → told_id (told state) ≡ Some id → Some (with_keys b (part h.history) id) ≡ fixed_commit state
    cases IsGone at says = absurd (none_some id says)
    cases IsOpening at says = absurd (none_some id says)
    cases IsRunning at says = absurd (none_some id says)
    cases (IsCommitting d) at says = same d (ap fixed_commit at) (some_same d.id id says)
    cases (IsInDoubt d) at says = same d (ap fixed_commit at) (some_same d.id id says)
    cases IsLeaving at says = absurd (none_some id says)

-- so a result that has the one has the other
pub fixes : (i : Inside) (v : LedgerView) → view_of i ≡ v → IsLedger (held i) → (b : Attempt) → IsTrue (serves b.inc (node_state v.history)) → (id : TxnId) → told_id (told (attempt_state b (part v.history))) ≡ Some id
    → {E : Type 0} (r : Result (Option Commit) E) → IfOk r (λ (fixed : Option Commit). fixed ≡ Some (with_keys b (part v.history) id)) → IfOk r (λ (fixed : Option Commit). fixed ≡ fixed_commit (attempt_state b (part v.history)))
fixes i v is l b serve id says (Err e) holds = holds
fixes i v is l b serve id says (Ok fixed) holds =
    holds ∙ shows i v is (λ (h : List NodeEntry). IsTrue (serves b.inc (node_state h)) → told_id (told (attempt_state b (part h))) ≡ Some id → Some (with_keys b (part h) id) ≡ fixed_commit (attempt_state b (part h))) (λ serving told_so. fixed_is (held i) l b serving id told_so) serve says
