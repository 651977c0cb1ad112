-- When a failure may be told: only where the count of failures rose.
use Rattle.std.specs.Prelude.{ℕ, ◌<◌, ◌≤◌, ◌≡◌, ◌-◌, ◌^◌, ◌⊎◌}

-- The count rose, or stands at the last value that a counter of 64 bits has.
abbrev pub Rose : ℕ → ℕ → Type 0
Rose before now = (before < now) ⊎ (now ≡ 2 ^ 64 - 1)

-- The count never falls, and rose if this happened.
pub record HasCause (happened : Type 0) (before now : ℕ) : Type 0 where
  pub never_falls : before ≤ now
  pub rose : happened → Rose before now
