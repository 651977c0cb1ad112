-- What each step at the table tells.
use Rattle.std.specs.Prelude.{◌≡◌, ◌≢◌, ℕ, ◌+◌, ◌-◌, ◌^◌, ◌<◌, ◌≤◌, List, [], ◌∷◌, ◌++◌, length, Option, Some}
use mathlib.Core.List.{IsPrefix}
use Rattle.atomic_table.specs.Table.{Me}
use Rattle.aft_chron.specs.declared.view.View.{View}
use Rattle.aft_chron.specs.declared.view.Stage.{Stage}
use Rattle.aft_chron.specs.declared.view.Stage.TheVariants.{Out, Waits, Called, Inside}
use Rattle.aft_chron.specs.Standing.{longer}

abbrev pub number_of : Stage → ℕ
number_of Out = 0
number_of (Waits n) = n
number_of (Called n) = n
number_of (Inside n) = n

module _ {E : Type 0} where
  abbrev pub at_stage : View E → Stage → View E
  at_stage v stage = record { whole = v.whole; opening = v.opening; parts = v.parts; counted = v.counted; seen = v.seen; made = v.made; stage = stage; count = v.count; met = v.met }

  -- the view of a seat that has seen this history, of which so many entries count, and is inside
  abbrev pub knowing : View E → List E → ℕ → ℕ → View E
  knowing v log count number = record { whole = v.whole; opening = v.opening; parts = v.parts; counted = v.counted; seen = log; made = v.made; stage = Inside number; count = count; met = (log, log) }

  -- the view of a seat that has made the entry by which this history is longer than what it had seen
  abbrev pub having_made : View E → List E → ℕ → View E
  having_made v log count = record { whole = v.whole; opening = v.opening; parts = v.parts; counted = v.counted + (count - v.count); seen = log; made = v.made ++ length v.seen ∷ []; stage = v.stage; count = count; met = (log, log) }

  -- the view of a seat without so many of its parts
  abbrev pub keeping : ℕ → View E → View E
  keeping parts v = record { whole = v.whole; opening = v.opening; parts = v.parts - parts; counted = v.counted; seen = v.seen; made = v.made; stage = v.stage; count = v.count; met = v.met }

  -- the view of a new seat with so many parts
  abbrev pub given : ℕ → View E → View E
  given parts v = record { whole = v.whole; opening = v.opening; parts = parts; counted = 0; seen = v.seen; made = []; stage = Out; count = 0; met = v.met }

  -- the view of a seat that has met another
  abbrev pub united : View E → View E → View E
  united v w = record { whole = v.whole; opening = v.opening; parts = v.parts + w.parts; counted = v.counted + w.counted; seen = longer v.seen w.seen; made = v.made ++ w.made; stage = v.stage; count = v.count; met = (v.seen, w.seen) }

module _ {V E : Type 0} (history : V → List E) (count : V → ℕ) where
  abbrev Sat : Type 0
  Sat = Me (Option V) (View E)

  abbrev pub drawn : Sat → ℕ → Sat → Type 0
  drawn m n m' = m' ≡ (at_stage m.0 (Waits n), m.1)

  -- the seat's number is up, or nothing changed
  abbrev pub looked : Sat → ℕ → Sat → Type 0
  looked m n m' = (n ≡ number_of m.0.stage → n < 2 ^ 63 → m' ≡ (at_stage m.0 (Called n), m.1)) × (n ≢ number_of m.0.stage → m' ≡ m) × (2 ^ 63 ≤ n → m' ≡ m)

  -- the seat has the value, whose history begins with what it had seen
  abbrev pub known : Sat → ℕ → Sat → Type 0
  known m n m' = (x : V) × (m' ≡ (knowing m.0 (history x) (count x) (number_of m.0.stage), (0, Some x) ∷ m.1)) × IsPrefix m.0.seen (history x) × (n ≡ length (history x))
      × (count x + (m.0.parts - m.0.counted) ≤ m.0.whole)

  -- the seat has made the entry by which the value in its hand is longer
  abbrev pub recorded : Sat → ℕ → Sat → Type 0
  recorded m n m' = (x : V) → m.1 ≡ (0, Some x) ∷ [] → m' ≡ (having_made m.0 (history x) (count x), m.1)

  -- the seat is as it was, and the two histories that met in it begin what it has seen
  abbrev pub told : Sat → ℕ → Sat → Type 0
  told m n m' = (m' ≡ m) × IsPrefix m.0.met.0 m.0.seen × IsPrefix m.0.met.1 m.0.seen

  abbrev pub passed_on : Sat → ℕ → Sat → Type 0
  passed_on m n m' = m' ≡ (at_stage m.0 Out, [])
