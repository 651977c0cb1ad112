-- What a command line asks for.
use Rattle.std.specs.Prelude.{Bool, List, Option, ℕ}

-- the settings file, the store and the clock's time, where they are given
pub record Setup : Type 0 where
  pub conf : Option (List ℕ)
  pub store : Option (List ℕ)
  pub time : Option ℕ

-- a command with its names, numbers and options
pub data Asked : Type 0 where
  Run : List ℕ → Setup → Bool → Asked
  Step : List ℕ → List ℕ → Setup → Bool → Asked
  Make : ℕ → ℕ → Asked
  Upgrade : Option (List ℕ) → Option ℕ → Asked
  Session : List ℕ → List ℕ → List ℕ → Setup → Asked
  Backup : List ℕ → List ℕ → Setup → Asked
  Restore : List ℕ → Option (List ℕ) → Asked
  Check : List ℕ → Asked
