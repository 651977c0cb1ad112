-- What a pass has, has seen and has made.
use Rattle.std.specs.Prelude.{◌≡◌, ℕ, ◌+◌, ◌-◌, ◌<◌, ◌⊎◌, Bool, true, false, ◌&&◌, nat_lt, nat_le, List, [], ◌∷◌, ◌++◌, length, ◌==◌}
use Rattle.atomic_table.specs.Seated.{TableId}

pub record Standing (E : Type 0) : Type 0 where
  -- which lock it is of
  pub lock : TableId
  -- how many parts that lock has
  pub whole : ℕ
  -- the history that stood when the lock was made
  pub opening : List E
  -- how many of the parts this pass has
  pub parts : ℕ
  -- how many of the entries that it made count
  pub counted : ℕ
  -- the history that it has seen
  pub seen : List E
  -- the places in it of the entries that it made
  pub made : List ℕ
  -- whether it is in a turn: then the turn has all of the above in its place
  pub away : Bool

-- a pass of this lock that is in no turn
abbrev pub IsFree : {E : Type 0} → Standing E → TableId → Type 0
IsFree pass lock = (pass.lock ≡ lock) × (pass.away ≡ false)

-- 1 where it is true, and else 0
abbrev pub once : Bool → ℕ
once true = 1
once false = 0

-- 1 at a number from a on and below b, and else 0
abbrev pub within : ℕ → ℕ → ℕ → ℕ
within a b n = once (nat_le a n && nat_lt n b)

-- how often a place is in a list
abbrev pub times : ℕ → List ℕ → ℕ
times p [] = 0
times p (q ∷ qs) = once (q == p) + times p qs

-- each place from a on and below b is in the list once, and no other is in it
abbrev pub IsEach : List ℕ → ℕ → ℕ → Type 0
IsEach places a b = (p : ℕ) → times p places ≡ within a b p

module _ {E : Type 0} where
  abbrev pub pick : Bool → List E → List E → List E
  pick true xs ys = ys
  pick false xs ys = xs

  -- the longer of two histories
  abbrev pub longer : List E → List E → List E
  longer xs ys = pick (nat_lt (length xs) (length ys)) xs ys

  -- how many counted entries a pass may still make
  abbrev pub left : Standing E → ℕ
  left pass = pass.parts - pass.counted

-- A turn: the pass in it, which has seen the history that the value had as the turn began, and how many of its entries count
pub record Entered (E : Type 0) : Type 0 where
  pub pass : Standing E
  pub count : ℕ

module _ {E : Type 0} where
  -- the pass of this lock that has all its parts, and has seen this history
  abbrev pub first_pass : TableId → ℕ → List E → Standing E
  first_pass lock whole opening = record { lock = lock; whole = whole; opening = opening; parts = whole; counted = 0; seen = opening; made = []; away = false }

  -- the history is as it was when the turn began
  abbrev pub IsSame : Entered E → List E → ℕ → Type 0
  IsSame turn log count = (log ≡ turn.pass.seen) × (count ≡ turn.count)

  -- the history has one entry more. If it counts, the pass has one left for it
  abbrev pub HasOneMore : Entered E → List E → ℕ → Type 0
  HasOneMore turn log count = (e : E) × (log ≡ turn.pass.seen ++ e ∷ []) × ((count ≡ turn.count) ⊎ ((count ≡ turn.count + 1) × (0 < left turn.pass)))

  -- the pass of a turn after it, with the entry that it has made
  abbrev pub with_entry : Entered E → List E → ℕ → Standing E
  with_entry turn log count = record turn.pass { seen = log; made = turn.pass.made ++ length turn.pass.seen ∷ []; counted = turn.pass.counted + (count - turn.count) }

  -- the first of two passes after they met
  abbrev pub united_passes : Standing E → Standing E → Standing E
  united_passes pass other = record pass { parts = pass.parts + other.parts; counted = pass.counted + other.counted; seen = longer pass.seen other.seen; made = pass.made ++ other.made }
