-- What a put of the table says of the attempt.
use Rattle.std.proofs.Common.{◌≡◌, ℕ, Bool, true, false, ◌||◌, ◌⊎◌, List, inl, inr, refl, subst, length}
use Rattle.std.specs.Prelude.{IsFalse, IsTrue, Err, None, Ok, Option, Result, Some, if◌then◌else◌, is_some, nat_lt}
use Rattle.aft_model.specs.Attempts.{Row, buffered, is_running}
use Rattle.aft_txn.specs.Refusals.{MayBeRefused, put_refusal, refusal}
use Rattle.aft_txn.specs.declared.state.TxnFault.{TxnFault}
use Rattle.aft_txn.specs.declared.state.TxnFault.TheVariants.{Committing, Memory, TooManyKeys}

abbrev pub fits : List ℕ → Row → Bool
fits key row = is_some (buffered key row.writes) || nat_lt (length row.writes) 32

abbrev as_ok : {T : Type 0} → T → Result T TxnFault
as_ok x = Ok x

abbrev as_err : (T : Type 0) → TxnFault → Result T TxnFault
as_err T fault = Err fault

never : {T : Type 0} (x : T) (fault : TxnFault) → as_ok x ≡ as_err T fault → ⊥
never x fault is = cc

same_fault : (T : Type 0) (a b : TxnFault) → as_err T a ≡ as_err T b → a ≡ b
same_fault T a b is = cc

module _ {T : Type 0} (key : List ℕ) (row : Row) (found : Option Row) (is : found ≡ Some row) (running : IsTrue (is_running row.state)) where
  pub put_fits : (x : T) → MayBeRefused (refusal (put_refusal key) found) (as_ok x) → IsTrue (fits key row)
  put_fits x may = cases (fits key row) refl (subst (λ (t : Bool). MayBeRefused (if t then (if fits key row then None else Some TooManyKeys) else Some Committing) (as_ok x)) running (subst (λ (o : Option Row). MayBeRefused (refusal (put_refusal key) o) (as_ok x)) is may))
    where
      cases : (t : Bool) → fits key row ≡ t → MayBeRefused (if t then None else Some TooManyKeys) (as_ok x) → IsTrue t
      cases true at may = refl
      cases false at may = absurd (never x TooManyKeys may)

-- why a put of an attempt that runs is refused
pub put_fault : (T : Type 0) (key : List ℕ) (row : Row) (found : Option Row) → found ≡ Some row → IsTrue (is_running row.state) → (fault : TxnFault) → MayBeRefused (refusal (put_refusal key) found) (as_err T fault) → (fault ≡ Memory) ⊎ ((fault ≡ TooManyKeys) × IsFalse (fits key row))
put_fault T key row found is running fault may =
    cases (fits key row) refl (subst (λ (t : Bool). MayBeRefused (if t then (if fits key row then None else Some TooManyKeys) else Some Committing) (as_err T fault)) running (subst (λ (o : Option Row). MayBeRefused (refusal (put_refusal key) o) (as_err T fault)) is may))
  where
    cases : (t : Bool) → fits key row ≡ t → MayBeRefused (if t then None else Some TooManyKeys) (as_err T fault) → (fault ≡ Memory) ⊎ ((fault ≡ TooManyKeys) × IsFalse (fits key row))
    cases true at may = inl (same_fault T fault Memory may)
    cases false at may = inr (same_fault T fault TooManyKeys may, at)
