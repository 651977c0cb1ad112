-- How a call of a keeper in memory is told to go.
use Rattle.std.specs.Prelude.{ℕ, ◌≡◌, ◌≢◌, Bool, false, List, find, Option, None, Some, Result, Ok, Err, nat_eq, nat_le, ⊤, if◌then◌else◌}
use Rattle.aft_keeper.specs.declared.keeper.Pair.{Pair}
use Rattle.aft_keeper.specs.declared.keeper.KeeperFault.{KeeperFault}
use Rattle.aft_keeper.specs.declared.keeper.KeeperFault.TheVariants.{Failed, Memory}
use Rattle.aft_keeper.specs.declared.fate.Fail.{Fail}
use Rattle.aft_keeper.specs.declared.fate.Fate.{Fate}
use Rattle.aft_keeper.specs.declared.fate.Fate.TheVariants.{Works, FailsBefore, FailsAfter}

-- whether every call from this one on fails
abbrev pub is_stopped : Option ℕ → ℕ → Bool
is_stopped None call = false
is_stopped (Some from) call = nat_le from call

-- how the call of a number goes, if one is named for it
abbrev pub named_fate : Option Fail → Fate
named_fate None = Works
named_fate (Some f) = if f.after then FailsAfter else FailsBefore

-- how the call of this number goes: a stop comes before the first that is named for it
abbrev pub fate_at : List Fail → Option ℕ → ℕ → Fate
fate_at fails stop call = if is_stopped stop call then FailsBefore else named_fate (find (λ f. nat_eq f.call call) fails)

-- a call fails just where it is told so, unless memory runs out
abbrev pub AnswersAs : {T : Type 0} → Fate → Result T KeeperFault → Type 0
AnswersAs fate (Ok x) = fate ≡ Works
AnswersAs fate (Err Failed) = fate ≢ Works
AnswersAs fate (Err Memory) = ⊤

-- the contents after a call that would have this effect
abbrev pub effect_at : Fate → (List Pair → List Pair) → List Pair → List Pair
effect_at Works effect pairs = effect pairs
effect_at FailsBefore effect pairs = pairs
effect_at FailsAfter effect pairs = effect pairs

-- the same by what it answered: where memory ran out there is no effect
abbrev pub contents_after : {T : Type 0} → Fate → (List Pair → List Pair) → Result T KeeperFault → List Pair → List Pair
contents_after fate effect (Ok x) pairs = effect_at fate effect pairs
contents_after fate effect (Err Failed) pairs = effect_at fate effect pairs
contents_after fate effect (Err Memory) pairs = pairs
