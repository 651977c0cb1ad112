-- Turns that are put in order stand in the order of their moments, and those of one moment as they came.
use Rattle.std.proofs.Common.{◌≡◌, ℕ, ◌≤◌, ◌<◌, Bool, true, false, ◌&&◌, ◌||◌, List, [], ◌∷◌, ◌++◌, refl, sym, ap, subst, ◌∙◌, ◌⊎◌, inl, inr, eqb, ltb, leb, arith, append_assoc, append-nil}
use Rattle.std.specs.Prelude.{IsTrue, Option, Some, None, filter, is_none, if◌then◌else◌}
use Rattle.std.specs.List.{fold}
use Rattle.std.proofs.lemmas.Bool.{and_parts, and_from, cases_Bool, eqb-true, eq-eqb, ne_eqb, leb-true, le-leb, ltb-true, lt-ltb, eqb-false, or_cases, or_parts, false≢true, true≢false}
use Rattle.std.proofs.lemmas.List.Elements.{filter-append}
use Rattle.aft_id.specs.declared.txn_id.TxnId.{TxnId}
use Rattle.aft_lines.specs.Turns.{Turn, given_in, is_lesser, moment, precedes, with_turn}
use Rattle.law_turns.specs.Order.{give_nothing_up, moments_ascend}

-- the turns of one moment
abbrev pub at_moment : ℕ → List Turn → List Turn
at_moment m line = filter (λ turn. eqb (moment turn) m) line

if_true : {A : Type 0} (t : Bool) (x y : A) → t ≡ true → (if t then x else y) ≡ x
if_true t x y is = ap (λ b. if b then x else y) is

if_false : {A : Type 0} (t : Bool) (x y : A) → t ≡ false → (if t then x else y) ≡ y
if_false t x y is = ap (λ b. if b then x else y) is

pub here : (m : ℕ) (turn : Turn) (line : List Turn) → moment turn ≡ m → at_moment m (turn ∷ line) ≡ turn ∷ at_moment m line
here m turn line is = if_true (eqb (moment turn) m) _ _ (eq-eqb (moment turn) m is)

pub elsewhere : (m : ℕ) (turn : Turn) (line : List Turn) → ((moment turn ≡ m) → ⊥) → at_moment m (turn ∷ line) ≡ at_moment m line
elsewhere m turn line other = if_false (eqb (moment turn) m) _ _ (ne_eqb (moment turn) m other)

-- ---- ascending

tail_ascends : (turn : Turn) (line : List Turn) → IsTrue (moments_ascend (turn ∷ line)) → IsTrue (moments_ascend line)
tail_ascends turn [] up = refl
tail_ascends turn (next ∷ line) up = (and_parts (leb (moment turn) (moment next)) (moments_ascend (next ∷ line)) up).1

-- a turn that none of some others is before, in front of them
front_ascends : (turn : Turn) (line : List Turn) → ((next : Turn) (rest : List Turn) → line ≡ next ∷ rest → moment turn ≤ moment next) → IsTrue (moments_ascend line) → IsTrue (moments_ascend (turn ∷ line))
front_ascends turn [] least up = refl
front_ascends turn (next ∷ line) least up = and_from _ _ (le-leb (moment turn) (moment next) (least next line refl)) up

head_least : (turn next : Turn) (line : List Turn) → IsTrue (moments_ascend (turn ∷ next ∷ line)) → moment turn ≤ moment next
head_least turn next line up = leb-true (moment turn) (moment next) (and_parts (leb (moment turn) (moment next)) (moments_ascend (next ∷ line)) up).0

-- behind a later moment there is none of an earlier one
none_below : (m : ℕ) (turn : Turn) (line : List Turn) → IsTrue (moments_ascend (turn ∷ line)) → m < moment turn → at_moment m (turn ∷ line) ≡ []
none_below m turn [] up below = elsewhere m turn [] (λ is. let now = is in omega arith)
none_below m turn (next ∷ line) up below =
    elsewhere m turn (next ∷ line) (λ is. let now = is in omega arith)
    ∙ none_below m next line (tail_ascends turn (next ∷ line) up) (let least = head_least turn next line up in omega arith)

-- ---- one turn more

-- a turn that precedes another is not later; one that doesn't is not earlier
not_later : (turn other : Turn) → precedes turn other ≡ true → moment turn ≤ moment other
not_later turn other before =
    elim (or_cases (ltb (moment turn) (moment other)) (eqb (moment turn) (moment other) && is_lesser (given_in turn) (given_in other)) before) [
      | inl earlier ↦ (let lt = ltb-true (moment turn) (moment other) earlier in omega arith)
      | inr same ↦ (let is = eqb-true (moment turn) (moment other) (and_parts (eqb (moment turn) (moment other)) _ same).0 in omega arith)
    ]

not_earlier : (turn other : Turn) → precedes turn other ≡ false → moment other ≤ moment turn
not_earlier turn other behind =
    let parts = or_parts (ltb (moment turn) (moment other)) (eqb (moment turn) (moment other) && is_lesser (given_in turn) (given_in other)) behind in
    le_of (moment turn) (moment other) parts.0
  where
    le_of : (a b : ℕ) → ltb a b ≡ false → b ≤ a
    le_of a b unless = elim (cases_Bool (leb b a)) [
      | inl le ↦ leb-true b a le
      | inr gt ↦ absurd (true≢false (sym (lt-ltb a b (not_le a b gt)) ∙ unless))
    ]
      where
        not_le : (a b : ℕ) → leb b a ≡ false → a < b
        not_le a b gt = grind arith

-- who comes first in turns with one more: that turn, or who was first
with_first : (line : List Turn) (turn next : Turn) (rest : List Turn) → with_turn line turn ≡ next ∷ rest → (next ≡ turn) ⊎ ((first : Turn) × (others : List Turn) × (line ≡ first ∷ others) × (next ≡ first))
with_first [] turn next rest is = inl (cc)
with_first (other ∷ line) turn next rest is = cases (precedes turn other) is
  where
    cases : (t : Bool) → (if t then turn ∷ other ∷ line else other ∷ with_turn line turn) ≡ next ∷ rest → (next ≡ turn) ⊎ ((first : Turn) × (others : List Turn) × ((other ∷ line) ≡ first ∷ others) × (next ≡ first))
    cases true is = inl (cc)
    cases false is = inr (other, line, refl, cc)

pub with_ascends : (line : List Turn) (turn : Turn) → IsTrue (moments_ascend line) → IsTrue (moments_ascend (with_turn line turn))
with_ascends [] turn up = refl
with_ascends (other ∷ line) turn up = cases (with_ascends line turn (tail_ascends other line up)) (precedes turn other) refl
  where
    cases : IsTrue (moments_ascend (with_turn line turn)) → (t : Bool) → precedes turn other ≡ t → IsTrue (moments_ascend (if t then turn ∷ other ∷ line else other ∷ with_turn line turn))
    cases rest true before = and_from _ _ (le-leb (moment turn) (moment other) (not_later turn other before)) up
    cases rest false behind = front_ascends other (with_turn line turn) (λ next more is.
        elim (with_first line turn next more is) [
          | inl this ↦ subst (λ (t : Turn). moment other ≤ moment t) (sym this) (not_earlier turn other behind)
          | inr old ↦ (let first = old.0 in let others = old.1 in
              subst (λ (t : Turn). moment other ≤ moment t) (sym old.3) (head_least other first others (subst (λ (l : List Turn). IsTrue (moments_ascend (other ∷ l))) old.2 up)))
        ]) rest

-- ---- stable

-- a turn that gives nothing up precedes those of a later moment alone
precedes_later : (turn other : Turn) → IsTrue (is_none (given_in turn)) → precedes turn other ≡ ltb (moment turn) (moment other)
precedes_later turn other none = by_none (given_in turn) none
  where
    or_none : (b c : Bool) → (b || (c && false)) ≡ b
    or_none true c = refl
    or_none false true = refl
    or_none false false = refl

    by_none : (o : Option TxnId) → IsTrue (is_none o) → (ltb (moment turn) (moment other) || (eqb (moment turn) (moment other) && is_lesser o (given_in other))) ≡ ltb (moment turn) (moment other)
    by_none None it = or_none (ltb (moment turn) (moment other)) (eqb (moment turn) (moment other))
    by_none (Some id) it = absurd (false≢true it)

with_stable : (m : ℕ) (line : List Turn) (turn : Turn) → IsTrue (is_none (given_in turn)) → IsTrue (moments_ascend line) → at_moment m (with_turn line turn) ≡ at_moment m (line ++ turn ∷ [])
with_stable m [] turn none up = refl
with_stable m (other ∷ line) turn none up = cases (with_stable m line turn none (tail_ascends other line up)) (precedes turn other) refl
  where
    behind_all : moment turn < moment other → at_moment m (turn ∷ other ∷ line) ≡ at_moment m ((other ∷ line) ++ turn ∷ [])
    behind_all earlier =
        elim (cases_Bool (eqb (moment turn) m)) [
          | inl this ↦
              (let is = eqb-true (moment turn) m this in
              let nothing : at_moment m (other ∷ line) ≡ [] = none_below m other line up (let now = is in omega arith) in
              here m turn (other ∷ line) is ∙ ap (λ (l : List Turn). turn ∷ l) nothing
              ∙ sym (filter-append (λ (t : Turn). eqb (moment t) m) (other ∷ line) (turn ∷ []) ∙ ap (λ (l : List Turn). l ++ at_moment m (turn ∷ [])) nothing ∙ here m turn [] is))
          | inr not_this ↦
              (let differs : (moment turn ≡ m) → ⊥ = eqb-false (moment turn) m not_this in
              elsewhere m turn (other ∷ line) differs
              ∙ sym (filter-append (λ (t : Turn). eqb (moment t) m) (other ∷ line) (turn ∷ []) ∙ ap (λ (l : List Turn). at_moment m (other ∷ line) ++ l) (elsewhere m turn [] differs) ∙ append-nil (at_moment m (other ∷ line))))
        ]

    cases : at_moment m (with_turn line turn) ≡ at_moment m (line ++ turn ∷ []) → (t : Bool) → precedes turn other ≡ t
        → at_moment m (if t then turn ∷ other ∷ line else other ∷ with_turn line turn) ≡ at_moment m ((other ∷ line) ++ turn ∷ [])
    cases rest true before = behind_all (ltb-true (moment turn) (moment other) (sym (precedes_later turn other none) ∙ before))
    cases rest false behind = ap (λ (l : List Turn). if eqb (moment other) m then other ∷ l else l) rest

-- ---- all turns

pub sorted_ascends : (acc line : List Turn) → IsTrue (moments_ascend acc) → IsTrue (moments_ascend (fold with_turn acc line))
sorted_ascends acc [] up = up
sorted_ascends acc (turn ∷ line) up = sorted_ascends (with_turn acc turn) line (with_ascends acc turn up)

pub sorted_stable : (m : ℕ) (acc line : List Turn) → IsTrue (moments_ascend acc) → IsTrue (give_nothing_up line) → at_moment m (fold with_turn acc line) ≡ at_moment m (acc ++ line)
sorted_stable m acc [] up none = ap (at_moment m) (sym (append-nil acc))
sorted_stable m acc (turn ∷ line) up none =
    let parts = and_parts (is_none (given_in turn)) (give_nothing_up line) none in
    sorted_stable m (with_turn acc turn) line (with_ascends acc turn up) parts.1
    ∙ filter-append (λ (t : Turn). eqb (moment t) m) (with_turn acc turn) line
    ∙ ap (λ (l : List Turn). l ++ at_moment m line) (with_stable m acc turn parts.0 up)
    ∙ sym (filter-append (λ (t : Turn). eqb (moment t) m) (acc ++ turn ∷ []) line)
    ∙ ap (at_moment m) (append_assoc acc (turn ∷ []) line)

-- ---- turns that are alike at each moment

head_at : (turn : Turn) (line : List Turn) → at_moment (moment turn) (turn ∷ line) ≡ turn ∷ at_moment (moment turn) line
head_at turn line = here (moment turn) turn line refl

cons_head : (a b : Turn) (x y : List Turn) → a ∷ x ≡ b ∷ y → a ≡ b
cons_head a b x y e = cc

cons_tail : (a b : Turn) (x y : List Turn) → a ∷ x ≡ b ∷ y → x ≡ y
cons_tail a b x y e = cc

no_cons : (a : Turn) (x : List Turn) → a ∷ x ≡ [] → ⊥
no_cons a x e = cc

pub alike : (xs ys : List Turn) → IsTrue (moments_ascend xs) → IsTrue (moments_ascend ys) → ((m : ℕ) → at_moment m xs ≡ at_moment m ys) → xs ≡ ys
alike [] [] up up' same = refl
alike [] (y ∷ ys) up up' same = absurd (no_cons y _ (sym (head_at y ys) ∙ sym (same (moment y))))
alike (x ∷ xs) [] up up' same = absurd (no_cons x _ (sym (head_at x xs) ∙ same (moment x)))
alike (x ∷ xs) (y ∷ ys) up up' same =
    let heads : moment x ≡ moment y = equal_moments (moment x) (moment y)
    (λ below. no_cons x _ (sym (head_at x xs) ∙ same (moment x) ∙ none_below (moment x) y ys up' below))
    (λ above. no_cons y _ (sym (head_at y ys) ∙ sym (same (moment y)) ∙ none_below (moment y) x xs up above)) in
    let firsts : x ∷ at_moment (moment x) xs ≡ y ∷ at_moment (moment x) ys = sym (head_at x xs) ∙ same (moment x) ∙ here (moment x) y ys (sym heads) in
    let is : x ≡ y = cons_head x y _ _ firsts in
    ap (λ (t : Turn). t ∷ xs) is ∙ ap (λ (l : List Turn). y ∷ l) (alike xs ys (tail_ascends x xs up) (tail_ascends y ys up') (λ m. tails m heads (cons_tail x y _ _ firsts)))
  where
    equal_moments : (a b : ℕ) → (a < b → ⊥) → (b < a → ⊥) → a ≡ b
    equal_moments a b below above = elim (cases_Bool (ltb a b)) [
      | inl lt ↦ absurd (below (ltb-true a b lt))
      | inr ge ↦ elim (cases_Bool (ltb b a)) [
        | inl gt ↦ absurd (above (ltb-true b a gt))
        | inr le ↦ grind arith
      ]
    ]

    tails : (m : ℕ) → moment x ≡ moment y → at_moment (moment x) xs ≡ at_moment (moment x) ys → at_moment m xs ≡ at_moment m ys
    tails m heads rest = elim (cases_Bool (eqb (moment x) m)) [
      | inl this ↦ subst (λ k. at_moment k xs ≡ at_moment k ys) (eqb-true (moment x) m this) rest
      | inr not_this ↦
          (let differs : (moment x ≡ m) → ⊥ = eqb-false (moment x) m not_this in
          sym (elsewhere m x xs differs) ∙ same m ∙ elsewhere m y ys (λ is. differs (heads ∙ is)))
    ]
