-- What one call behind the other leaves of the store and of the count of its failures.
use Rattle.std.proofs.Common.{◌≡◌, ◌≤◌, ℕ, ltb, List, sym, subst, ◌∙◌, inl, inr, arith}
use Rattle.std.specs.Prelude.{Err, IfErr, IsErr, IsErrAnd, IsFalse, IsTrue, MatchResult, Ok, Result}
use Rattle.std.proofs.lemmas.Bool.{cases_Bool, false≢true, ltb-false, ltb-true}
use Rattle.aft_audit.specs.declared.fault.AuditFault.{AuditFault}
use Rattle.aft_keeper.specs.Cause.{HasCause, Rose}
use Rattle.aft_model.specs.declared.door.DoorEntry.{DoorEntry}
use Rattle.aft_model.specs.Opening.{has_failed}
use Rattle.aft_door.specs.Calls.{DoorView}
use Rattle.aft_turns.specs.Steps.{SameStore}

-- a call failed that is in one history and not in the other
abbrev pub FailsNewly : List DoorEntry → List DoorEntry → Type 0
FailsNewly old new = IsTrue (has_failed new) × IsFalse (has_failed old)

rose_later : (a b c : ℕ) → Rose a b → a ≤ b → b ≤ c → Rose a c
rose_later a b c (inl rose) up on = inl (omega arith)
rose_later a b c (inr last) up on = elim (cases_Bool (ltb b c)) [
  | inl further ↦ (let lt = ltb-true b c further in inl (omega arith))
  | inr no_further ↦ (let within = ltb-false b c no_further in let same : c ≡ b = omega arith in inr (same ∙ last))
]

rose_before : (a b c : ℕ) → Rose b c → a ≤ b → Rose a c
rose_before a b c (inl rose) up = inl (omega arith)
rose_before a b c (inr last) up = inr last

pub causes_chain : (a b c : List DoorEntry) (f g h : ℕ) → HasCause (FailsNewly a b) f g → HasCause (FailsNewly b c) g h → HasCause (FailsNewly a c) f h
causes_chain a b c f g h first second = record {
  never_falls = let one = first.never_falls in let other = second.never_falls in omega arith;
  rose = λ fails. elim (cases_Bool (has_failed b)) [
    | inl before ↦ rose_later f g h (first.rose (before, fails.1)) first.never_falls second.never_falls
    | inr not_before ↦ rose_before f g h (second.rose (fails.0, not_before)) first.never_falls
  ];
}

-- behind a history without a failure
pub cause_behind : (a b : List DoorEntry) (f g h : ℕ) → IsFalse (has_failed a) → f ≤ g → HasCause (FailsNewly a b) g h → HasCause (IsTrue (has_failed b)) f h
cause_behind a b f g h works up cause = record {
  never_falls = let on = cause.never_falls in omega arith;
  rose = λ fails. rose_before f g h (cause.rose (fails, works)) up;
}

pub stores_chain : (a b c : DoorView) → SameStore a b → SameStore b c → SameStore a c
stores_chain a b c first second = record { contents = second.contents ∙ first.contents; log = second.log ∙ first.log }

-- ---- results

-- a result that was handed on as this fault
pub as_fault : {A : Type 0} (r : Result A AuditFault) (fault : AuditFault) (P : A → Type 0) (Q : AuditFault → Type 0) → IsErr r × IsErrAnd r (λ told. told ≡ fault) → Q fault → MatchResult r P Q
as_fault (Err told) fault P Q (is, same) it = subst Q (sym same) it
as_fault (Ok x) fault P Q (is, same) it = absurd (false≢true is)

pub as_stop : {A : Type 0} (r : Result A AuditFault) (fault : AuditFault) (Q : AuditFault → Type 0) → IsErr r × IsErrAnd r (λ told. told ≡ fault) → Q fault → IfErr r Q
as_stop (Err told) fault Q (is, same) it = subst Q (sym same) it
as_stop (Ok x) fault Q (is, same) it = absurd (false≢true is)
