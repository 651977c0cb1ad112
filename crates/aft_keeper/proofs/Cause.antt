-- A rise of a count, and a failure with its cause, seen from before or after the call.
use Rattle.std.proofs.Common.{ℕ, ◌≤◌, ◌<◌, ◌≡◌, ◌-◌, ◌^◌, ◌⊎◌, inl, inr, arith}
use Rattle.aft_keeper.specs.Cause.{Rose, HasCause}

-- what rose in between rose over the whole
pub Rose-later : (a b c : ℕ) → Rose a b → a ≤ b → b ≤ c → Rose a c
Rose-later a b c (inl below) first then = inl (omega arith)
Rose-later a b c (inr full) first then = grind arith

pub Rose-earlier : (a b c : ℕ) → a ≤ b → Rose b c → Rose a c
Rose-earlier a b c first (inl below) = inl (omega arith)
Rose-earlier a b c first (inr full) = inr full

-- a failure keeps its cause where calls come after it
pub HasCause-later : {h : Type 0} (a b c : ℕ) → HasCause h a b → b ≤ c → HasCause h a c
HasCause-later a b c cause then = record {
  never_falls = omega arith;
  rose = λ happened. Rose-later a b c (cause.rose happened) cause.never_falls then;
}

-- and where calls came before it
pub HasCause-earlier : {h : Type 0} (a b c : ℕ) → a ≤ b → HasCause h b c → HasCause h a c
HasCause-earlier a b c first cause = record {
  never_falls = omega arith;
  rose = λ happened. Rose-earlier a b c first (cause.rose happened);
}

-- of two calls in a row, either failure has its cause
pub HasCause-both : {h h' : Type 0} (a b c : ℕ) → HasCause h a b → HasCause h' b c → HasCause (h ⊎ h') a c
HasCause-both a b c first then = record {
  never_falls = omega arith;
  rose = λ happened. elim happened [
    | inl happened ↦ Rose-later a b c (first.rose happened) first.never_falls then.never_falls
    | inr happened ↦ Rose-earlier a b c first.never_falls (then.rose happened)
  ];
}

-- what happens only with a failure has its cause
pub HasCause-implied : {h h' : Type 0} (a b : ℕ) → (h' → h) → HasCause h a b → HasCause h' a b
HasCause-implied a b only cause = record {
  never_falls = cause.never_falls;
  rose = λ happened. cause.rose (only happened);
}

-- nothing that needs a cause happens while the count stands still below its last value
pub HasCause-steady : {h : Type 0} (a b : ℕ) → HasCause h a b → b ≡ a → b < 2 ^ 64 - 1 → h → ⊥
HasCause-steady a b cause same low happened = elim (cause.rose happened) [
  | inl below ↦ omega arith
  | inr full ↦ omega arith
]
