-- Going through versions from the newest on.
use Rattle.std.proofs.Common.{◌≡◌, ℕ, ◌<◌, ◌≤◌, suc, Bool, true, false, List, [], ◌∷◌, length, arith, refl, sym, ap, subst, ◌∙◌, inl, inr}
use Rattle.std.specs.Prelude.{IsTrue, IsFalse, Option, Some, None, filter, if◌then◌else◌}
use Rattle.std.proofs.lemmas.Bool.{true≢false}
use Rattle.aft_id.specs.TxnId.{id_lt}
use Rattle.aft_id.specs.declared.txn_id.TxnId.{TxnId}
use Rattle.aft_records.specs.Commits.{greatest}
use Rattle.aft_model.proofs.Greatest.{greatest_of_some, greatest_among}
use Rattle.aft_model.proofs.Histories.{In}
use Rattle.aft_model.proofs.Ids.{id_lt-irrefl, id_lt-trans, id_lt-or}
use Rattle.aft_model.proofs.Lists.{in_filter, filter_in}

-- there is an id, and another one isn't above it
abbrev pub IsWithin : TxnId → Option TxnId → Type 0
IsWithin id None = ⊥
IsWithin id (Some next) = IsFalse (id_lt next id)

-- the next id, if there is one, is a version
abbrev pub IsOneOf : Option TxnId → List TxnId → Type 0
IsOneOf None ids = Unit {0}
IsOneOf (Some next) ids = In next ids

-- each version that passes is at most the next one, which is a version
pub record Walked (test : TxnId → Bool) (ids : List TxnId) (next : Option TxnId) : Type 0 where
  pub within : (id : TxnId) → In id ids → IsTrue (test id) → IsWithin id next
  pub one : IsOneOf next ids

-- how many versions are left to look at
abbrev pub left : Option TxnId → List TxnId → ℕ
left None ids = 0
left (Some next) ids = suc (length (filter (λ id. id_lt id next) ids))

-- an id of a list is at most the greatest
within_greatest : (ids : List TxnId) (id : TxnId) → In id ids → IsWithin id (greatest ids)
within_greatest ids id among =
    let top = greatest_of_some ids id among in
    subst (λ (o : Option TxnId). IsWithin id o) (sym top.1) (top.3 id among)

one_of_greatest : (ids all : List TxnId) → ((id : TxnId) → In id ids → In id all) → (o : Option TxnId) → greatest ids ≡ o → IsOneOf o all
one_of_greatest ids all part None is = tt
one_of_greatest ids all part (Some g) is = part g (greatest_among ids g is)

-- at first the next one is the greatest
pub walk_from : (test : TxnId → Bool) (ids : List TxnId) → Walked test ids (greatest ids)
walk_from test ids = record { within = λ id among passed. within_greatest ids id among; one = one_of_greatest ids ids (λ id among. among) (greatest ids) refl }

-- where the next one doesn't pass, the greatest below it comes next
pub walk_on : (test : TxnId → Bool) (ids : List TxnId) (next : TxnId) → Walked test ids (Some next) → IsFalse (test next) → Walked test ids (greatest (filter (λ id. id_lt id next) ids))
walk_on test ids next walked failed = record {
  within = λ id among passed. within_greatest (filter (λ i. id_lt i next) ids) id (filter_in (λ i. id_lt i next) id ids among (below id among passed));
  one = one_of_greatest (filter (λ i. id_lt i next) ids) ids (λ id among. (in_filter (λ i. id_lt i next) id ids among).0) (greatest (filter (λ i. id_lt i next) ids)) refl;
}
  where
    below : (id : TxnId) → In id ids → IsTrue (test id) → IsTrue (id_lt id next)
    below id among passed = elim (id_lt-or id next (walked.within id among passed)) [
      | inl less ↦ less
      | inr same ↦ absurd (true≢false (sym passed ∙ ap test same ∙ failed))
    ]

-- where no version passes, there is no greatest that does
pub none_passes : (test : TxnId → Bool) (ids : List TxnId) → ((id : TxnId) → In id ids → IsTrue (test id) → ⊥) → greatest (filter test ids) ≡ None
none_passes test ids never = cases (greatest (filter test ids)) refl
  where
    cases : (o : Option TxnId) → greatest (filter test ids) ≡ o → greatest (filter test ids) ≡ None
    cases None is = is
    cases (Some g) is = let found = in_filter test g ids (greatest_among (filter test ids) g is) in absurd (never g found.0 found.1)

-- where the next one passes, it is the greatest that does
pub next_passes : (test : TxnId → Bool) (ids : List TxnId) (next : TxnId) → Walked test ids (Some next) → IsTrue (test next) → greatest (filter test ids) ≡ Some next
next_passes test ids next walked passed =
    let top = greatest_of_some (filter test ids) next (filter_in test next ids walked.one passed) in
    let found = in_filter test top.0 ids top.2 in
    elim (id_lt-or top.0 next (walked.within top.0 found.0 found.1)) [
      | inl less ↦ absurd (true≢false (sym less ∙ top.3 next (filter_in test next ids walked.one passed)))
      | inr same ↦ top.1 ∙ ap (λ (i : TxnId). Some i) same
    ]

-- ---- how many are left

filtered_le : (a b : TxnId) → IsTrue (id_lt a b) → (ids : List TxnId) → length (filter (λ i. id_lt i a) ids) ≤ length (filter (λ i. id_lt i b) ids)
filtered_le a b less [] = omega arith
filtered_le a b less (x ∷ xs) = cases (id_lt x a) (id_lt x b) (λ below. id_lt-trans x a b below less) (filtered_le a b less xs)
  where
    cases : (s t : Bool) → (IsTrue s → IsTrue t) → length (filter (λ i. id_lt i a) xs) ≤ length (filter (λ i. id_lt i b) xs)
        → length (if s then x ∷ filter (λ i. id_lt i a) xs else filter (λ i. id_lt i a) xs) ≤ length (if t then x ∷ filter (λ i. id_lt i b) xs else filter (λ i. id_lt i b) xs)
    cases true true both rest = omega arith
    cases true false both rest = absurd (true≢false (sym (both refl)))
    cases false true both rest = omega arith
    cases false false both rest = rest

filtered_lt : (a b : TxnId) → IsTrue (id_lt a b) → (ids : List TxnId) → In a ids → length (filter (λ i. id_lt i a) ids) < length (filter (λ i. id_lt i b) ids)
filtered_lt a b less [] among = absurd among
filtered_lt a b less (x ∷ xs) (inl here) =
    let low : IsFalse (id_lt x a) = subst (λ (i : TxnId). IsFalse (id_lt i a)) here (id_lt-irrefl a) in
    let high : IsTrue (id_lt x b) = subst (λ (i : TxnId). IsTrue (id_lt i b)) here less in
    rw (low, high) (omega (arith, filtered_le a b less xs))
filtered_lt a b less (x ∷ xs) (inr later) = cases (id_lt x a) (id_lt x b) (λ below. id_lt-trans x a b below less) (filtered_lt a b less xs later)
  where
    cases : (s t : Bool) → (IsTrue s → IsTrue t) → length (filter (λ i. id_lt i a) xs) < length (filter (λ i. id_lt i b) xs)
        → length (if s then x ∷ filter (λ i. id_lt i a) xs else filter (λ i. id_lt i a) xs) < length (if t then x ∷ filter (λ i. id_lt i b) xs else filter (λ i. id_lt i b) xs)
    cases true true both rest = omega arith
    cases true false both rest = absurd (true≢false (sym (both refl)))
    cases false true both rest = omega arith
    cases false false both rest = rest

-- fewer are left below than at an id
pub left_falls : (next : TxnId) (ids : List TxnId) → left (greatest (filter (λ id. id_lt id next) ids)) ids < left (Some next) ids
left_falls next ids = cases (greatest (filter (λ id. id_lt id next) ids)) refl
  where
    cases : (o : Option TxnId) → greatest (filter (λ id. id_lt id next) ids) ≡ o → left o ids < left (Some next) ids
    cases None is = omega arith
    cases (Some g) is =
        let found = in_filter (λ i. id_lt i next) g ids (greatest_among (filter (λ i. id_lt i next) ids) g is) in
        omega (arith, filtered_lt g next found.1 ids found.0)
