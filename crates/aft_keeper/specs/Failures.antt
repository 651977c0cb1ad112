-- Which calls fail where it is told by their numbers, and what a call adds to the counts.
use Rattle.std.specs.Prelude.{ℕ, ◌≡◌, ◌+◌, ◌-◌, ◌^◌, Bool, List, [], min, nat_eq}
use Rattle.std.specs.List.{list_any}
use Rattle.aft_keeper.specs.declared.failures.Failures.{Failures}

-- the number of the next call: the first has number 1, and a counter of 64 bits stays at its last value
abbrev pub next_call : Failures → ℕ
next_call f = min (f.calls + 1) (2 ^ 64 - 1)

-- whether the next call fails
abbrev pub fails_next : Failures → Bool
fails_next f = list_any (λ n. nat_eq n (next_call f)) f.fails

-- before the first call, where the calls of these numbers fail
abbrev pub at_first : List ℕ → Failures
at_first fails = record { fails = fails; calls = 0; faults = 0 }

-- after a call that didn't fail
abbrev pub after_success : Failures → Failures
after_success f = record f { calls = next_call f }

-- after a call that failed
abbrev pub after_failure : Failures → Failures
after_failure f = record f { calls = next_call f; faults = min (f.faults + 1) (2 ^ 64 - 1) }

-- no call has failed, and none will
pub record NeverFails (f : Failures) : Type 0 where
  pub no_fails : f.fails ≡ []
  pub no_faults : f.faults ≡ 0
