-- What contracts see of a seat.
use Rattle.std.specs.Prelude.{◌≡◌, ◌⊎◌, ℕ, ◌+◌, ◌<◌, ◌≤◌, ◌^◌, ◌++◌, true, false, List, [], ◌∷◌, length, Option, None}
use Rattle.atomic_table.specs.Seated.{TableId}
use Rattle.atomic_table.specs.Table.{Me}
use Rattle.aft_chron.specs.declared.view.View.{View}
use Rattle.aft_chron.specs.declared.view.Stage.TheVariants.{Out, Inside}
use Rattle.aft_chron.specs.Standing.{Standing, Entered}

module _ {E : Type 0} where
  -- the pass with this view
  abbrev pub standing : TableId → View E → Standing E
  standing lock v = record { lock = lock; whole = v.whole; opening = v.opening; parts = v.parts; counted = v.counted; seen = v.seen; made = v.made; away = false }

  -- a pass whose view is in a turn
  abbrev pub away_from : TableId → Standing E
  away_from lock = record { lock = lock; whole = 0; opening = []; parts = 0; counted = 0; seen = []; made = []; away = true }

  abbrev pub standing_of : TableId → List (View E) → Standing E
  standing_of lock [] = away_from lock
  standing_of lock (v ∷ vs) = standing lock v

  -- a view in no turn, whose history has this length
  abbrev pub IsAtRest : View E → ℕ → Type 0
  IsAtRest v seen = (v.stage ≡ Out) × (0 < v.whole) × (v.counted ≤ v.parts) × (seen ≡ length v.seen)

  -- a pass has one view, which is in no turn, or none
  abbrev pub IsPass : List (View E) → ℕ → Type 0
  IsPass [] seen = Unit {0}
  IsPass (v ∷ []) seen = IsAtRest v seen
  IsPass (v ∷ w ∷ vs) seen = ⊥

  abbrev pub entered : TableId → View E → Entered E
  entered lock v = record { pass = standing lock v; count = v.count }

-- the table of a lock has three words and one slot
abbrev pub IsLock : TableId → Type 0
IsLock lock = (lock.words ≡ 3) × (lock.slots ≡ 1)

-- the history has one entry more than the view has seen, and so many of its entries count
abbrev pub IsLonger : {E : Type 0} → View E → List E → ℕ → Type 0
IsLonger {E} v log count = (e : E) × (log ≡ v.seen ++ e ∷ []) × (length log < 2 ^ 64) × ((count ≡ v.count) ⊎ ((count ≡ v.count + 1) × (v.counted < v.parts)))

-- the seat is inside with this number, its hand is on the empty slot, and the history that it has seen has this length
abbrev pub IsInTurn : {V E : Type 0} → Me (Option V) (View E) → ℕ → ℕ → Type 0
IsInTurn m number entries = (m.1 ≡ (0, None) ∷ []) × (m.0.stage ≡ Inside number) × (0 < m.0.whole) × (m.0.counted ≤ m.0.parts) × (entries ≡ length m.0.seen) × (number < 2 ^ 63)
