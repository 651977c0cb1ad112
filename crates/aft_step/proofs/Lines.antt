-- Lines of a script, by where they stand in it.
use Rattle.std.proofs.Common.{arith, ◌≡◌, ◌≢◌, ℕ, zero, suc, ◌<◌, Bool, true, false, List, [], ◌∷◌, ◌++◌, eqb, ltb, refl, sym, ap, subst, ◌∙◌, ◌⊎◌, inl, inr, slice_get}
use Rattle.std.specs.Prelude.{IsFalse, IsTrue, None, Some, filter, if◌then◌else◌, ◌==◌}
use Rattle.std.proofs.lemmas.Bool.{and_parts, cases_Bool, eq-eqb, eqb-true, false_from_ne_true, ltb-true, true≢false}
use Rattle.aft_model.proofs.Histories.{In, all_at, in_back, in_front}
use Rattle.aft_model.specs.declared.script.Line.{Line}
use Rattle.aft_model.specs.History.{each_after, first_of}
use Rattle.aft_model.specs.ScanRun.{same_line}
use Rattle.aft_lines.specs.FinishedText.{line_of}
use Rattle.aft_lines.specs.LegalTrace.{is_numbered_behind}
use Rattle.law_accounts.specs.Account.{IsDone, Stand, Waits}
use Rattle.law_clients.specs.Words.{is_waiting, waiting, waiting_of}

pub get_in : (xs : List Line) (i : ℕ) (x : Line) → slice_get xs i ≡ Some x → In x xs
get_in [] i x is = absurd (let e : None ≡ Some x = is in cc)
get_in (y ∷ ys) zero x is = inl (let e : x ≡ y = cc in e)
get_in (y ∷ ys) (suc i) x is = inr (get_in ys i x is)

pub in_get : (xs : List Line) (x : Line) → In x xs → (i : ℕ) × (slice_get xs i ≡ Some x)
in_get [] x none = absurd none
in_get (y ∷ ys) x (inl here) = (zero, ap Some (sym here))
in_get (y ∷ ys) x (inr later) = (let found = in_get ys x later in (suc found.0, found.1))

-- two at one index are one
pub one_there : (xs : List Line) (i : ℕ) (x y : Line) → slice_get xs i ≡ Some x → slice_get xs i ≡ Some y → x ≡ y
one_there xs i x y one other = cc

-- ---- numbers

above : (before xs : List Line) → IsTrue (each_after is_numbered_behind before xs) → (one other : Line) → In one before → In other xs → one.number < other.number
above before [] ascend one other listed none = absurd none
above before (x ∷ xs) ascend one other listed (inl here) =
    let parts = and_parts (is_numbered_behind before x) (each_after is_numbered_behind (before ++ x ∷ []) xs) ascend in
    subst (λ (l : Line). one.number < l.number) (sym here) (ltb-true one.number x.number (all_at (λ (l : Line). ltb l.number x.number) one before listed parts.0))
above before (x ∷ xs) ascend one other listed (inr among) =
    let parts = and_parts (is_numbered_behind before x) (each_after is_numbered_behind (before ++ x ∷ []) xs) ascend in
    above (before ++ x ∷ []) xs parts.1 one other (in_front one before (x ∷ []) listed) among

less_back : (i j : ℕ) → suc i < suc j → i < j
less_back i j lt = omega arith

never_below : (i : ℕ) → i < 0 → ⊥
never_below i lt = omega arith

-- a later index is of a greater number
numbers_ascend : (before xs : List Line) → IsTrue (each_after is_numbered_behind before xs) → (i j : ℕ) (one other : Line) → slice_get xs i ≡ Some one → slice_get xs j ≡ Some other → i < j → one.number < other.number
numbers_ascend before [] ascend i j one other is there lt = absurd (let e : None ≡ Some one = is in cc)
numbers_ascend before (x ∷ xs) ascend i zero one other is there lt = absurd (never_below i lt)
numbers_ascend before (x ∷ xs) ascend zero (suc j) one other is there lt =
    let parts = and_parts (is_numbered_behind before x) (each_after is_numbered_behind (before ++ x ∷ []) xs) ascend in
    above (before ++ x ∷ []) xs parts.1 one other (in_back one before (x ∷ []) (inl (let e : one ≡ x = cc in e))) (get_in xs j other there)
numbers_ascend before (x ∷ xs) ascend (suc i) (suc j) one other is there lt =
    let parts = and_parts (is_numbered_behind before x) (each_after is_numbered_behind (before ++ x ∷ []) xs) ascend in
    numbers_ascend (before ++ x ∷ []) xs parts.1 i j one other is there (less_back i j lt)

tri : (i j : ℕ) → (i < j) ⊎ (i ≡ j) ⊎ (j < i)
tri i j = elim (cases_Bool (ltb i j)) [
  | inl below ↦ inl (ltb-true i j below)
  | inr not_below ↦ elim (cases_Bool (ltb j i)) [
    | inl past ↦ inr (inr (ltb-true j i past))
    | inr not_past ↦ inr (inl (grind (arith, not_below, not_past)))
  ]
]

less : (a b : ℕ) → a < b → a ≡ b → ⊥
less a b lt e = omega arith

both : (a b : ℕ) → a < b → b < a → ⊥
both a b lt gt = omega arith

module _ (xs : List Line) (ascend : IsTrue (each_after is_numbered_behind [] xs)) (i j : ℕ) (one other : Line) (is : slice_get xs i ≡ Some one) (there : slice_get xs j ≡ Some other) where
  -- a smaller number is of an earlier index
  pub index_below : one.number < other.number → i < j
  index_below lt = elim (tri i j) [
    | inl below ↦ below
    | inr (inl same) ↦ absurd (less one.number other.number lt (ap (λ (l : Line). l.number) (one_there xs j one other (subst (λ (n : ℕ). slice_get xs n ≡ Some one) same is) there)))
    | inr (inr past) ↦ absurd (both one.number other.number lt (numbers_ascend [] xs ascend j i other one there is past))
  ]

  -- lines at two indices are two
  pub apart_at : i ≢ j → IsFalse (same_line (line_of one) (line_of other))
  apart_at apart = false_from_ne_true _ (λ same.
      let number : one.number ≡ other.number = eqb-true one.number other.number (and_parts (eqb one.client other.client) (eqb one.number other.number) same).1 in
      elim (tri i j) [
        | inl below ↦ less one.number other.number (numbers_ascend [] xs ascend i j one other is there below) number
        | inr (inl at) ↦ apart at
        | inr (inr past) ↦ less other.number one.number (numbers_ascend [] xs ascend j i other one there is past) (sym number)
      ])

-- ---- the first that waits

module _ (number : ℕ) (stand : Line → Stand) where
  abbrev its : Line → Bool
  its line = line.client == number

  skips : (x : Line) (xs : List Line) → (x.client ≡ number → stand x ≡ IsDone) → waiting_of number stand (x ∷ xs) ≡ waiting_of number stand xs
  skips x xs over = cases (is_waiting (stand x)) (its x) refl refl
    where
      cases : (b e : Bool) → is_waiting (stand x) ≡ b → its x ≡ e → filter its (if b then x ∷ waiting stand xs else waiting stand xs) ≡ filter its (waiting stand xs)
      cases false e waits own = refl
      cases true false waits own = ap (λ (t : Bool). if t then x ∷ filter its (waiting stand xs) else filter its (waiting stand xs)) own
      cases true true waits own = absurd (true≢false (sym waits ∙ ap is_waiting (over (eqb-true x.client number own))))

  takes : (x : Line) (xs : List Line) → x.client ≡ number → stand x ≡ Waits → first_of (waiting_of number stand (x ∷ xs)) ≡ Some x
  takes x xs own waits =
      ap (λ (t : Bool). first_of (filter its (if t then x ∷ waiting stand xs else waiting stand xs))) (ap is_waiting waits)
      ∙ ap (λ (t : Bool). first_of (if t then x ∷ filter its (waiting stand xs) else filter its (waiting stand xs))) (eq-eqb x.client number own)

  -- a client's line that waits is its first, where those before it are over
  pub first_waits : (xs : List Line) (at : ℕ) (line : Line) → slice_get xs at ≡ Some line → line.client ≡ number → stand line ≡ Waits
      → ((i : ℕ) (one : Line) → slice_get xs i ≡ Some one → one.client ≡ number → i < at → stand one ≡ IsDone) → first_of (waiting_of number stand xs) ≡ Some line
  first_waits [] at line is own waits before = absurd (let e : None ≡ Some line = is in cc)
  first_waits (x ∷ xs) zero line is own waits before =
      let same : x ≡ line = cc in
      takes x xs (ap (λ (l : Line). l.client) same ∙ own) (ap stand same ∙ waits) ∙ ap Some same
  first_waits (x ∷ xs) (suc at) line is own waits before =
      ap first_of (skips x xs (λ client. before zero x refl client (omega arith)))
      ∙ first_waits xs at line is own waits (λ i one there client lt. before (suc i) one there client (omega arith))

  -- none of it waits, where all are over
  pub none_waits : (xs : List Line) → ((i : ℕ) (one : Line) → slice_get xs i ≡ Some one → one.client ≡ number → stand one ≡ IsDone) → first_of (waiting_of number stand xs) ≡ None
  none_waits [] each = refl
  none_waits (x ∷ xs) each = ap first_of (skips x xs (each zero x refl)) ∙ none_waits xs (λ i one there. each (suc i) one there)
