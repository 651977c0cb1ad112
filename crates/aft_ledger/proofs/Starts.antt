-- What the table says of a commit that starts.
use Rattle.std.proofs.Common.{◌≡◌, ℕ, ◌-◌, ◌^◌, ◌<◌, ◌≤◌, Bool, true, false, not, List, refl, sym, ap, subst, ◌∙◌, inl, inr, eq-eqb, max, min, arith}
use Rattle.std.specs.Prelude.{IfSome, IsFalse, IsTrue, Err, None, Ok, Option, Result, Some, if◌then◌else◌}
use Rattle.std.proofs.lemmas.Bool.{cases_lt, false≢true}
use Rattle.std.proofs.lemmas.Bool.Decides.{nat_tests}
use Rattle.aft_id.specs.declared.txn_id.TxnId.{TxnId}
use Rattle.aft_records.specs.Limits.{is_time}
use Rattle.aft_records.specs.declared.stored.Commit.{Commit}
use Rattle.aft_model.specs.declared.caller.Attempt.{Attempt}
use Rattle.aft_model.specs.Attempts.{Row, attempt_state, buffer, is_running, open_reads, reads, row_of, uuid_of, written_keys}
use Rattle.aft_model.specs.Known.{known}
use Rattle.aft_model.specs.NodeRules.{greatest_of, times_read, times_written}
use Rattle.aft_model.specs.NodeState.{node_state, part, serves}
use Rattle.aft_model.proofs.Pins.{running_there}
use Rattle.aft_ledger.specs.Ledger.{Held, IsLedger}
use Rattle.aft_ledger.specs.Turns.{commit_of, floor_of, is_doing}
use Rattle.aft_ledger.proofs.Acts.{doing, row_here}
use Rattle.aft_txn.specs.Refusals.{IsRefused, leave_refusal, refusal, start_refusal, start_time}
use Rattle.aft_txn.specs.Rows.{row_at}
use Rattle.aft_txn.specs.declared.state.TxnFault.{TxnFault}
use Rattle.aft_txn.specs.declared.state.TxnFault.TheVariants as faults

-- ---- times

abbrev greatest : ℕ → ℕ → ℕ → ℕ
greatest now read floor = max (max 1 now) (max read floor)

late : (t : ℕ) → 2 ^ 48 ≤ t → is_time t ≡ false
late t past = grind (arith, nat_tests)

early : (t : ℕ) → IsTrue (is_time t) → t < 2 ^ 48
early t is = grind (arith, nat_tests)

-- a floor that is cut off makes no other time a time
time-cut : (now read floor : ℕ) → is_time (greatest now read (min floor (2 ^ 64 - 1))) ≡ is_time (greatest now read floor)
time-cut now read floor = elim (cases_lt floor (2 ^ 48)) [
  | inl less ↦ ap (λ f. is_time (greatest now read f)) (omega arith)
  | inr most ↦ late (greatest now read (min floor (2 ^ 64 - 1))) (omega arith) ∙ sym (late (greatest now read floor) (omega arith))
]

uncut : (now read floor : ℕ) → IsTrue (is_time (greatest now read (min floor (2 ^ 64 - 1)))) → greatest now read (min floor (2 ^ 64 - 1)) ≡ greatest now read floor
uncut now read floor is = let below = early (greatest now read (min floor (2 ^ 64 - 1))) is in omega arith

-- ---- results

abbrev as_ok : TxnId → Result TxnId TxnFault
as_ok x = Ok x

abbrev as_err : (T : Type 0) → TxnFault → Result T TxnFault
as_err T fault = Err fault

never : (x : TxnId) (fault : TxnFault) → as_ok x ≡ as_err TxnId fault → ⊥
never x fault is = cc

same_fault : (T : Type 0) (a b : TxnFault) → as_err T a ≡ as_err T b → a ≡ b
same_fault T a b is = cc

abbrev why : Bool → Option TxnFault
why t = if t then None else Some faults.ClockEnd

in_time : (t : Bool) (x : TxnId) → IsRefused (why t) (as_ok x) → IsTrue t
in_time true x ok = refl
in_time false x ok = absurd (never x faults.ClockEnd ok)

out_of_time : (T : Type 0) (t : Bool) (fault : TxnFault) → IsRefused (why t) (as_err T fault) → (fault ≡ faults.ClockEnd) × IsFalse t
out_of_time T true fault err = absurd (false≢true err)
out_of_time T false fault err = (same_fault T fault faults.ClockEnd err, refl)

-- ---- the attempt's

module _ (h : Held) (l : IsLedger h) (b : Attempt) (at_node : b.node ≡ h.number) (does : IsTrue (is_doing is_running b h.history)) (closed : open_reads b (part h.history) ≡ 0) (keys : List (List ℕ)) (keys_are : keys ≡ written_keys (buffer b (part h.history))) (now floor : ℕ)
    (floor_is : floor ≡ floor_of keys (known h.history)) where
  abbrev its : IsTrue (serves b.inc (node_state h.history)) × IsTrue (is_running (attempt_state b (part h.history)))
  its = doing is_running b h.history does

  row : row_at b.number h.table.rows ≡ Some (row_of (part h.history) b)
  row = row_here h l b at_node its.0 (running_there (attempt_state b (part h.history)) its.1)

  abbrev cut : ℕ
  cut = start_time now floor (reads b (part h.history))

  refused_so : refusal (start_refusal now floor) (row_at b.number h.table.rows) ≡ why (is_time cut)
  refused_so =
      ap (refusal (start_refusal now floor)) row
      ∙ (ap (λ t. if t then start_refusal now floor (row_of (part h.history) b) else Some faults.Committing) its.1
      ∙ ap (λ t. if not t then Some (faults.OpenReads (open_reads b (part h.history))) else why (is_time cut)) (eq-eqb (open_reads b (part h.history)) 0 closed))

  floor_at : floor ≡ min (greatest_of (times_written (written_keys (buffer b (part h.history))) (known h.history))) (2 ^ 64 - 1)
  floor_at = floor_is ∙ ap (λ (ks : List (List ℕ)). floor_of ks (known h.history)) keys_are

  timed : is_time cut ≡ is_time (commit_of now b h.history).id.time
  timed = ap (λ f. is_time (start_time now f (reads b (part h.history)))) floor_at ∙ time-cut now (greatest_of (times_read (reads b (part h.history)))) (greatest_of (times_written (written_keys (buffer b (part h.history))) (known h.history)))

  -- the table refuses it where its time is none
  pub start_fault : (T : Type 0) (fault : TxnFault) → IsRefused (refusal (start_refusal now floor) (row_at b.number h.table.rows)) (as_err T fault) → (fault ≡ faults.ClockEnd) × IsFalse (is_time (commit_of now b h.history).id.time)
  start_fault T fault refused =
      let f = out_of_time T (is_time cut) fault (subst (λ (o : Option TxnFault). IsRefused o (as_err T fault)) refused_so refused) in
      (f.0, sym timed ∙ f.1)

  -- and else its id is that of the commit
  pub started : (id : TxnId) → IsRefused (refusal (start_refusal now floor) (row_at b.number h.table.rows)) (as_ok id) → IfSome (row_at b.number h.table.rows) (λ (r : Row). id ≡ record { time = start_time now floor r.pairs; uuid = r.uuid })
      → (id ≡ (commit_of now b h.history).id) × IsTrue (is_time (commit_of now b h.history).id.time)
  started id refused is =
      let here = in_time (is_time cut) id (subst (λ (o : Option TxnFault). IsRefused o (as_ok id)) refused_so refused) in
      let id_is : id ≡ record { time = cut; uuid = uuid_of b (part h.history) } = subst (λ (o : Option Row). IfSome o (λ (r : Row). id ≡ record { time = start_time now floor r.pairs; uuid = r.uuid })) row is in
      let cut_is : cut ≡ (commit_of now b h.history).id.time =
      ap (λ f. start_time now f (reads b (part h.history))) floor_at
      ∙ uncut now (greatest_of (times_read (reads b (part h.history)))) (greatest_of (times_written (written_keys (buffer b (part h.history))) (known h.history))) (subst (λ f. IsTrue (is_time (start_time now f (reads b (part h.history))))) floor_at here) in
      (id_is ∙ ap (λ t. let i : TxnId = record { time = t; uuid = uuid_of b (part h.history) } in i) cut_is, sym timed ∙ here)

  -- its commit
  pub commit_is : (id : TxnId) → id ≡ (commit_of now b h.history).id → (let c : Commit = record { id = id; keys = keys } in c) ≡ commit_of now b h.history
  commit_is id is = ap (λ (i : TxnId). let c : Commit = record { id = i; keys = keys } in c) is ∙ ap (λ (ks : List (List ℕ)). let c : Commit = record { id = (commit_of now b h.history).id; keys = ks } in c) keys_are

-- the table refuses no attempt that leaves as it may
pub no_leave_fault : (T : Type 0) (h : Held) (l : IsLedger h) (b : Attempt) → b.node ≡ h.number → IsTrue (is_doing is_running b h.history) → open_reads b (part h.history) ≡ 0 → (fault : TxnFault) → IsRefused (refusal leave_refusal (row_at b.number h.table.rows)) (as_err T fault) → ⊥
no_leave_fault T h l b at_node does closed fault refused =
    let d = doing is_running b h.history does in
    let here = row_here h l b at_node d.0 (running_there (attempt_state b (part h.history)) d.1) in
    let none : refusal leave_refusal (row_at b.number h.table.rows) ≡ None =
    ap (refusal leave_refusal) here
    ∙ (ap (λ t. if t then leave_refusal (row_of (part h.history) b) else Some faults.Committing) d.1
    ∙ ap (λ t. if t then None else Some (faults.OpenReads (open_reads b (part h.history)))) (eq-eqb (open_reads b (part h.history)) 0 closed)) in
    false≢true (subst (λ (o : Option TxnFault). IsRefused o (as_err T fault)) none refused)
