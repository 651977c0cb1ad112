-- For the tests: what a turn leaves of a pass, and notes of which some count.
use Rattle.std.specs.Prelude.{◌≡◌, ℕ, ◌+◌, Bool, false, List, [], ◌∷◌}
use Rattle.aft_chron.specs.Standing.{Standing, once}

-- the pass is of the same lock, in no turn, and has the same parts and as many counted entries
abbrev pub IsSamePlace : {E : Type 0} → Standing E → Standing E → Type 0
IsSamePlace pass pass' = (pass'.lock ≡ pass.lock) × (pass'.away ≡ false) × (pass'.parts ≡ pass.parts) × (pass'.counted ≡ pass.counted) × (pass'.whole ≡ pass.whole)

-- the pass is of the same lock, in no turn, and has the same parts
abbrev pub IsSameHolder : {E : Type 0} → Standing E → Standing E → Type 0
IsSameHolder pass pass' = (pass'.lock ≡ pass.lock) × (pass'.away ≡ false) × (pass'.parts ≡ pass.parts) × (pass'.whole ≡ pass.whole)

-- how many of the notes count: the others are marks
abbrev pub answers : List (Bool × ℕ) → ℕ
answers [] = 0
answers (note ∷ notes) = once note.0 + answers notes
