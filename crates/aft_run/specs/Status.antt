-- Exit statuses, and which refusal has which.
use Rattle.std.specs.Prelude.{ℕ, ◌≡◌, Bool, ◌==◌, [], ◌∷◌, Result, Ok, Err}
use Rattle.std.specs.List.{list_any}
use Rattle.aft_run.specs.declared.refusal.Refusal.{Refusal}
use Rattle.aft_run.specs.declared.refusal.Refusal.TheVariants as refusals
use Rattle.aft_run.specs.declared.stop.Stop.{Stop}
use Rattle.aft_run.specs.declared.stop.Stop.TheVariants as stops

-- the exit status of a refusal
abbrev pub status_of : Refusal → ℕ
status_of refusals.Usage = 2
status_of (refusals.ReadFault name) = 3
status_of (refusals.NoSuchFile name) = 9
status_of (refusals.NotBuiltLine line) = 11
status_of refusals.NotBuiltOrder = 11
status_of refusals.NotBuiltStore = 11
status_of refusals.StoreFault = 5
status_of refusals.Memory = 7

-- the refusal of a run that was stopped
abbrev pub refusal_of : Stop → Refusal
refusal_of stops.StoreFault = refusals.StoreFault
refusal_of stops.NotEmpty = refusals.NotBuiltStore
refusal_of stops.Memory = refusals.Memory

-- refused with this status
abbrev pub RefusedWith : {T : Type 0} → ℕ → Result T Refusal → Type 0
RefusedWith n (Ok x) = ⊥
RefusedWith n (Err refusal) = status_of refusal ≡ n

-- done, words without a reading, read fault, write fault, store fault, no memory, no such file, not built
abbrev pub is_status : ℕ → Bool
is_status n = list_any (λ s. s == n) (0 ∷ 2 ∷ 3 ∷ 4 ∷ 5 ∷ 7 ∷ 9 ∷ 11 ∷ [])

-- what a run over the store may end with: done, write fault, store fault, no memory, not built
abbrev pub is_run_status : ℕ → Bool
is_run_status n = list_any (λ s. s == n) (0 ∷ 4 ∷ 5 ∷ 7 ∷ 11 ∷ [])

-- the refusals before the store is opened
abbrev pub is_first_status : ℕ → Bool
is_first_status n = list_any (λ s. s == n) (2 ∷ 3 ∷ 7 ∷ 9 ∷ 11 ∷ [])

-- the refusals of a file
abbrev pub is_file_status : ℕ → Bool
is_file_status n = list_any (λ s. s == n) (3 ∷ 7 ∷ 9 ∷ [])
