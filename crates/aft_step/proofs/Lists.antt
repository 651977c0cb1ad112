-- Lists by index, and counts.
use Rattle.std.proofs.Common.{arith, ◌≡◌, ℕ, ◌+◌, ◌≤◌, ◌<◌, suc, zero, Bool, true, false, List, [], ◌∷◌, ◌++◌, length, refl, sym, ap, subst, ◌∙◌, inl, inr, eqb, slice_get, slice_set}
use Rattle.std.specs.Prelude.{IsFalse, IsTrue, Some, filter, if◌then◌else◌, map}
use Rattle.std.specs.List.{list_all, range_with_len}
use Rattle.std.proofs.lemmas.Bool.{and_from, and_parts, eq-eqb, eqb-true, false_from_ne_true, true≢false}
use Rattle.aft_model.proofs.Histories.{In}
use Rattle.law_accounts.specs.Adding.{numbered_in, with_entry_in}

module _ {A : Type 0} where
  -- ---- by index

  -- where a list's elements are numbered from here on, that of a number stands so far behind
  pub numbered_from : (f : A → ℕ) (xs : List A) (from count i : ℕ) → map f xs ≡ range_with_len from count → i < count → (x : A) × (slice_get xs i ≡ Some x) × (f x ≡ from + i)
  numbered_from f xs from zero i are within = absurd (omega arith)
  numbered_from f [] from (suc count) i are within = absurd cc
  numbered_from f (x ∷ xs) from (suc count) zero are within = (x, refl, first (f x) (map f xs) from (range_with_len (from + 1) count) are ∙ sym (zero_more from))
    where
      first : (a : ℕ) (xs : List ℕ) (b : ℕ) (bs : List ℕ) → (a ∷ xs) ≡ (b ∷ bs) → a ≡ b
      first a xs b bs e = cc

      zero_more : (n : ℕ) → n + 0 ≡ n
      zero_more n = omega arith
  numbered_from f (x ∷ xs) from (suc count) (suc i) are within =
      let later = numbered_from f xs (from + 1) count i (rest (f x) (map f xs) from (range_with_len (from + 1) count) are) (omega arith) in
      (later.0, later.1, later.2 ∙ moved from i)
    where
      rest : (a : ℕ) (xs : List ℕ) (b : ℕ) (bs : List ℕ) → (a ∷ xs) ≡ (b ∷ bs) → xs ≡ bs
      rest a xs b bs e = cc

      moved : (n m : ℕ) → (n + 1) + m ≡ n + suc m
      moved n m = omega arith

  -- the history of a number among numbered ones
  pub numbered_at : {B : Type 0} (h : A → List B) (xs : List A) (from i n : ℕ) (x : A) → slice_get xs i ≡ Some x → from + i ≡ n → numbered_in n from (map h xs) ≡ h x
  numbered_at h [] from i n x there is = absurd cc
  numbered_at h (y ∷ ys) from zero n x there is = ap (λ (b : Bool). if b then h y else numbered_in n (suc from) (map h ys)) (eq-eqb from n (zero_more from ∙ is)) ∙ ap h (some_is y x there)
    where
      zero_more : (m : ℕ) → m ≡ m + 0
      zero_more m = omega arith

      some_is : (a b : A) → Some a ≡ Some b → a ≡ b
      some_is a b e = cc
  numbered_at h (y ∷ ys) from (suc i) n x there is =
      ap (λ (b : Bool). if b then h y else numbered_in n (suc from) (map h ys)) (apart from n (le from i n is)) ∙ numbered_at h ys (suc from) i n x there (moved from i ∙ is)
    where
      moved : (a b : ℕ) → suc a + b ≡ a + suc b
      moved a b = omega arith

      le : (a b c : ℕ) → a + suc b ≡ c → a < c
      le a b c e = omega arith

      apart : (a b : ℕ) → a < b → eqb a b ≡ false
      apart a b lt = false_from_ne_true _ (λ same. less a b lt (eqb-true a b same))
        where
          less : (m k : ℕ) → m < k → m ≡ k → ⊥
          less m k l e = omega arith

  -- with one more in the history of a number
  pub numbered_with : {B : Type 0} (h : A → List B) (xs : List A) (from i n : ℕ) (x y : A) (e : B) → slice_get xs i ≡ Some x → from + i ≡ n → h y ≡ h x ++ e ∷ [] → map h (slice_set xs i y) ≡ with_entry_in n e from (map h xs)
  numbered_with h [] from i n x y e there is more = absurd cc
  numbered_with {B} h (z ∷ zs) from zero n x y e there is more =
      ap (λ (l : List B). l ∷ map h zs) (more ∙ ap (λ (a : A). h a ++ e ∷ []) (sym (some_is z x there)))
      ∙ sym (ap (λ (b : Bool). if b then (h z ++ e ∷ []) ∷ map h zs else h z ∷ with_entry_in n e (suc from) (map h zs)) (eq-eqb from n (zero_more from ∙ is)))
    where
      zero_more : (m : ℕ) → m ≡ m + 0
      zero_more m = omega arith

      some_is : (a b : A) → Some a ≡ Some b → a ≡ b
      some_is a b e = cc
  numbered_with {B} h (z ∷ zs) from (suc i) n x y e there is more =
      ap (λ (l : List (List B)). h z ∷ l) (numbered_with h zs (suc from) i n x y e there (moved from i ∙ is) more)
      ∙ sym (ap (λ (b : Bool). if b then (h z ++ e ∷ []) ∷ map h zs else h z ∷ with_entry_in n e (suc from) (map h zs)) (apart from n (le from i n is)))
    where
      moved : (a b : ℕ) → suc a + b ≡ a + suc b
      moved a b = omega arith

      le : (a b c : ℕ) → a + suc b ≡ c → a < c
      le a b c e = omega arith

      apart : (a b : ℕ) → a < b → eqb a b ≡ false
      apart a b lt = false_from_ne_true _ (λ same. less a b lt (eqb-true a b same))
        where
          less : (m k : ℕ) → m < k → m ≡ k → ⊥
          less m k l e = omega arith

  -- one replaced by another of which a function says the same
  pub map_set_same : {B : Type 0} (f : A → B) (xs : List A) (i : ℕ) (x y : A) → slice_get xs i ≡ Some x → f y ≡ f x → map f (slice_set xs i y) ≡ map f xs
  map_set_same f [] i x y there same = absurd cc
  map_set_same {B} f (z ∷ zs) zero x y there same = ap (λ (b : B). b ∷ map f zs) (same ∙ ap f (sym (some_is z x there)))
    where
      some_is : (a b : A) → Some a ≡ Some b → a ≡ b
      some_is a b e = cc
  map_set_same {B} f (z ∷ zs) (suc i) x y there same = ap (λ (bs : List B). f z ∷ bs) (map_set_same f zs i x y there same)

  -- ---- tests

  pub get_passes : (test : A → Bool) (xs : List A) (i : ℕ) (x : A) → slice_get xs i ≡ Some x → IsTrue (list_all test xs) → IsTrue (test x)
  get_passes test [] i x there all = absurd cc
  get_passes test (y ∷ ys) zero x there all = subst (λ (a : A). IsTrue (test a)) (some_is y x there) (and_parts (test y) (list_all test ys) all).0
    where
      some_is : (a b : A) → Some a ≡ Some b → a ≡ b
      some_is a b e = cc
  get_passes test (y ∷ ys) (suc i) x there all = get_passes test ys i x there (and_parts (test y) (list_all test ys) all).1

  pub all_weaker : (test other : A → Bool) → ((x : A) → IsTrue (test x) → IsTrue (other x)) → (xs : List A) → IsTrue (list_all test xs) → IsTrue (list_all other xs)
  all_weaker test other so [] all = refl
  all_weaker test other so (x ∷ xs) all = let parts = and_parts (test x) (list_all test xs) all in and_from _ _ (so x parts.0) (all_weaker test other so xs parts.1)

  pub all_set : (test other : A → Bool) → ((x : A) → IsTrue (test x) → IsTrue (other x)) → (xs : List A) (i : ℕ) (y : A) → IsTrue (list_all test xs) → IsTrue (other y) → IsTrue (list_all other (slice_set xs i y))
  all_set test other so [] i y all it = refl
  all_set test other so (x ∷ xs) zero y all it = and_from _ _ it (all_weaker test other so xs (and_parts (test x) (list_all test xs) all).1)
  all_set test other so (x ∷ xs) (suc i) y all it = let parts = and_parts (test x) (list_all test xs) all in and_from _ _ (so x parts.0) (all_set test other so xs i y parts.1 it)

  -- ---- counts

  pub counts_one : (test : A → Bool) (x : A) (xs : List A) → In x xs → IsTrue (test x) → 1 ≤ length (filter test xs)
  counts_one test x [] none it = absurd none
  counts_one test x (y ∷ ys) among it = cases (λ later. counts_one test x ys later it) (test y) refl among
    where
      cases : (In x ys → 1 ≤ length (filter test ys)) → (t : Bool) → test y ≡ t → In x (y ∷ ys) → 1 ≤ length (if t then y ∷ filter test ys else filter test ys)
      cases more true is here = omega arith
      cases more false is (inl here) = absurd (true≢false (sym it ∙ ap test here ∙ is))
      cases more false is (inr later) = more later

  counts_fewer : (test other : A → Bool) → ((x : A) → IsTrue (other x) → IsTrue (test x)) → (xs : List A) → length (filter other xs) ≤ length (filter test xs)
  counts_fewer test other so [] = omega arith
  counts_fewer test other so (x ∷ xs) = cases (counts_fewer test other so xs) (test x) (other x) refl refl
    where
      cases : length (filter other xs) ≤ length (filter test xs) → (t o : Bool) → test x ≡ t → other x ≡ o → length (if o then x ∷ filter other xs else filter other xs) ≤ length (if t then x ∷ filter test xs else filter test xs)
      cases rest true true is was = omega arith
      cases rest true false is was = omega arith
      cases rest false true is was = absurd (true≢false (sym (so x was) ∙ is))
      cases rest false false is was = rest

  -- one less, where one that passed doesn't any more
  pub counts_less : (test other : A → Bool) → ((x : A) → IsTrue (other x) → IsTrue (test x)) → (x : A) (xs : List A) → In x xs → IsTrue (test x) → IsFalse (other x) → length (filter other xs) + 1 ≤ length (filter test xs)
  counts_less test other so x [] none it fails = absurd none
  counts_less test other so x (y ∷ ys) among it fails = cases (λ later. counts_less test other so x ys later it fails) among (test y) (other y) refl refl
    where
      cases : (In x ys → length (filter other ys) + 1 ≤ length (filter test ys)) → In x (y ∷ ys) → (t o : Bool) → test y ≡ t → other y ≡ o → length (if o then y ∷ filter other ys else filter other ys) + 1 ≤ length (if t then y ∷ filter test ys else filter test ys)
      cases more (inl here) true false is was = let rest = counts_fewer test other so ys in omega arith
      cases more (inl here) t true is was = absurd (true≢false (sym (subst (λ (a : A). IsTrue (other a)) (sym here) was) ∙ fails))
      cases more (inl here) false false is was = absurd (true≢false (sym it ∙ ap test here ∙ is))
      cases more (inr later) true true is was = let rest = more later in omega arith
      cases more (inr later) true false is was = let rest = more later in omega arith
      cases more (inr later) false true is was = absurd (true≢false (sym (so y was) ∙ is))
      cases more (inr later) false false is was = more later
