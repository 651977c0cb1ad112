-- The rule of the lock's table.
use Rattle.std.specs.Prelude.{◌≡◌, ℕ, ◌+◌, ◌^◌, ◌<◌, ◌≤◌, ◌⊎◌, ◌==◌, List, [], ◌∷◌, length, Option, Some}
use mathlib.Core.Option.{some, none}
use mathlib.Core.Option as maybe
use mathlib.Core.List.{IsPrefix}
use lib.ListN.{get_elem?}
use Rattle.atomic_table.specs.Table.{State}
use Rattle.aft_chron.specs.declared.view.View.{View}
use Rattle.aft_chron.specs.declared.view.Stage.{Stage}
use Rattle.aft_chron.specs.declared.view.Stage.TheVariants.{Out, Waits, Called, Inside}
use Rattle.aft_chron.specs.Standing.{once, within, times}

-- 1 where a seat waits or is in a turn, and else 0
abbrev pub is_busy : Stage → ℕ
is_busy Out = 0
is_busy (Waits n) = 1
is_busy (Called n) = 1
is_busy (Inside n) = 1

-- 1 where a seat waits or is in a turn with the number n, and else 0
abbrev pub has : ℕ → Stage → ℕ
has n Out = 0
has n (Waits m) = once (m == n)
has n (Called m) = once (m == n)
has n (Inside m) = once (m == n)

-- the sum of f over a list
abbrev pub total : {A : Type 0} → (A → ℕ) → List A → ℕ
total f [] = 0
total f (x ∷ xs) = f x + total f xs

abbrev pub IsOutside : Stage → Type 0
IsOutside (Inside n) = ⊥
IsOutside _ = Unit {0}

module _ {E : Type 0} where
  -- the view of the first seat
  abbrev pub first_view : List E → ℕ → View E
  first_view opening whole = record { whole = whole; opening = opening; parts = whole; counted = 0; seen = opening; made = []; stage = Out; count = 0; met = (opening, opening) }

  -- the view that a meet leaves behind
  abbrev pub spent_view : View E
  spent_view = record { whole = 0; opening = []; parts = 0; counted = 0; seen = []; made = []; stage = Out; count = 0; met = ([], []) }

  abbrev pub parts_of : View E → ℕ
  parts_of v = v.parts

  abbrev pub counted_of : View E → ℕ
  counted_of v = v.counted

  abbrev pub busy : View E → ℕ
  busy v = is_busy v.stage

  abbrev pub numbered : ℕ → View E → ℕ
  numbered n v = has n v.stage

  abbrev pub made_at : ℕ → View E → ℕ
  made_at p v = times p v.made

  -- what is known of a seat by its stage: a seat that is called has the number that is up, and one inside has seen the whole history
  abbrev pub Stands : List E → ℕ → ℕ → View E → Stage → Type 0
  Stands log turn tally v Out = Unit {0}
  Stands log turn tally v (Waits n) = Unit {0}
  Stands log turn tally v (Called n) = n ≡ turn
  Stands log turn tally v (Inside n) = (n ≡ turn) × (v.seen ≡ log) × (v.count ≡ tally)

  pub record Fits (opening : List E) (whole : ℕ) (log : List E) (turn tally : ℕ) (v : View E) : Type 0 where
    pub told : 0 < v.whole → (v.whole ≡ whole) × (v.opening ≡ opening)
    pub seen : IsPrefix v.seen log
    pub met : IsPrefix v.met.0 v.seen × IsPrefix v.met.1 v.seen
    pub begun : 0 < v.whole → IsPrefix opening v.seen
    pub below : (p : ℕ) → length v.seen ≤ p → times p v.made ≡ 0
    pub idle : v.parts ≡ 0 → (v.made ≡ []) × (v.stage ≡ Out)
    pub counted : v.counted ≤ v.parts
    pub stands : Stands log turn tally v v.stage

module _ {V E : Type 0} (history : V → List E) (count : V → ℕ) where
  -- the value is in its slot, and no seat is inside
  abbrev pub AtHome : List E → ℕ → List (maybe.Option (Option V)) → List (View E) → Type 0
  AtHome log tally homes views = (x : V) × (homes ≡ some (Some x) ∷ []) × (history x ≡ log) × (count x ≡ tally)
      × ((i : ℕ) (v : View E) → get_elem? views i ≡ some v → IsOutside v.stage)

  -- a seat inside has the slot
  abbrev pub Lent : ℕ → List (maybe.Option (Option V)) → List (View E) → Type 0
  Lent turn homes views = (homes ≡ none ∷ []) × ((i : ℕ) × (v : View E) × (get_elem? views i ≡ some v) × (v.stage ≡ Inside turn))

  pub record Kept (opening : List E) (whole : ℕ) (s : State (Option V) (View E)) : Type 0 where
    pub log : List E
    pub ticket : ℕ
    pub turn : ℕ
    pub tally : ℕ
    pub words : s.words ≡ length log ∷ ticket ∷ turn ∷ []
    pub few : whole < 2 ^ 32
    pub last : turn ≤ 2 ^ 63
    pub begun : IsPrefix opening log
    pub shared : total parts_of s.views ≡ whole
    pub line : turn + total busy s.views ≡ ticket
    pub numbers : (n : ℕ) → total (numbered n) s.views ≡ within turn ticket n
    pub places : (p : ℕ) → total (made_at p) s.views ≡ within (length opening) (length log) p
    pub tallied : total counted_of s.views ≡ tally
    pub each : (i : ℕ) (v : View E) → get_elem? s.views i ≡ some v → Fits opening whole log turn tally v
    pub home : AtHome log tally s.homes s.views ⊎ Lent turn s.homes s.views
