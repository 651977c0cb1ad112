-- What stands under each name of a list of pairs, and lists of pairs that ascend.
use Rattle.std.proofs.Common.{ℕ, zero, suc, ◌+◌, ◌++◌, ◌≡◌, ◌≢◌, refl, sym, ◌∙◌, ap, subst, List, [], ◌∷◌, Bool, true, false, cond, arith, take, inl, inr, None, Some, IsTrue}
use Rattle.std.specs.Prelude.{find, option_map, ⊤, All, filter, take_while, Contains}
use Rattle.std.specs.List.{AllByRecursion, prefix_len}
use Rattle.std.specs.Str.{bytes_eq}
use Rattle.std.specs.declared.cmp.Ordering.TheVariants.{Less}
use Rattle.std.specs.Ordering.{is_le}
use Rattle.std.proofs.lemmas.Bool.{cases_Bool, cond_both, and_left, and_right, and_from}
use Rattle.std.proofs.lemmas.List.Elements.{All-take, filter_passes, Contains-get_or, Contains-append_right, All-filter, All-cons, All-head, All-tail}
use Rattle.std.proofs.lemmas.List.{length-take}
use Rattle.std.proofs.lemmas.Slice.Eq.{bytes_eq-Decides}
use Rattle.aft_keeper.proofs.Names.{name_cmp, begins, begins-after, begins-below, not_upto, upto-Less, Less-upto, Less-from_name_lt, name_lt-from_Less, Less-trans, cases_name, bytes_eq-refl, bytes_eq-Less, bytes_eq-Greater, name_lt-Greater, Greater-from_tests}
use Rattle.aft_keeper.specs.Contents.{name_lt, is_scanned, Ascends, IsContents, IsPage, page_of, bytes_at, with_pair, without}
use Rattle.aft_keeper.specs.declared.keeper.Pair.{Pair}

-- the bytes under a name are those of the first pair of this name
pub bytes_at-find : (name : List ℕ) (pairs : List Pair) → bytes_at name pairs ≡ option_map (λ (p : Pair). p.bytes) (find (λ (p : Pair). bytes_eq name p.name) pairs)
bytes_at-find name [] = refl
bytes_at-find name (p ∷ pairs) = grind (arith, bytes_at-find name pairs)

pub ruleset finding = (bytes_at-find)

-- each name lies above this one
abbrev pub AllAbove : List ℕ → List Pair → Type 0
AllAbove name pairs = AllByRecursion (λ (p : Pair). name_cmp name p.name ≡ Less) pairs

-- each name lies above all before it
abbrev pub IsRising : List Pair → Type 0
IsRising [] = ⊤
IsRising (p ∷ pairs) = AllAbove p.name pairs × IsRising pairs

pub AllAbove-lower : (a b : List ℕ) (pairs : List Pair) → name_cmp a b ≡ Less → AllAbove b pairs → AllAbove a pairs
AllAbove-lower a b [] less above = tt
AllAbove-lower a b (p ∷ pairs) less above = (Less-trans a b p.name less above.0, AllAbove-lower a b pairs less above.1)

pub IsRising-from_Ascends : (pairs : List Pair) → Ascends pairs → IsRising pairs
IsRising-from_Ascends [] up = tt
IsRising-from_Ascends (p ∷ []) up = (tt, tt)
IsRising-from_Ascends (p ∷ q ∷ pairs) up =
    let rest : IsRising (q ∷ pairs) = IsRising-from_Ascends (q ∷ pairs) up.1 in
    let less : name_cmp p.name q.name ≡ Less = Less-from_name_lt p.name q.name up.0 in
    ((less, AllAbove-lower p.name q.name pairs less rest.0), rest)

pub Ascends-from_IsRising : (pairs : List Pair) → IsRising pairs → Ascends pairs
Ascends-from_IsRising [] up = tt
Ascends-from_IsRising (p ∷ []) up = tt
Ascends-from_IsRising (p ∷ q ∷ pairs) up = (name_lt-from_Less p.name q.name up.0.0, Ascends-from_IsRising (q ∷ pairs) up.1)

-- nothing stands under a name below all
pub bytes_at-below : (name : List ℕ) (pairs : List Pair) → AllAbove name pairs → bytes_at name pairs ≡ None
bytes_at-below name [] above = refl
bytes_at-below name (p ∷ pairs) above =
    let apart : bytes_eq name p.name ≡ false = bytes_eq-Less name p.name above.0 in
    rw apart (bytes_at-below name pairs above.1)

-- two lists in order with the same bytes under each name are the same
pub same_from_bytes_at : (xs ys : List Pair) → IsRising xs → IsRising ys → ((name : List ℕ) → bytes_at name xs ≡ bytes_at name ys) → xs ≡ ys
same_from_bytes_at [] [] up up' same = refl
same_from_bytes_at [] (y ∷ ys) up up' same = let h = same y.name in let r = bytes_eq-refl y.name in absurd (grind arith)
same_from_bytes_at (x ∷ xs) [] up up' same = let h = same x.name in let r = bytes_eq-refl x.name in absurd (grind arith)
same_from_bytes_at (x ∷ xs) (y ∷ ys) up up' same = elim (cases_name x.name y.name) [
  | inl less ↦ let h = same x.name in let r = bytes_eq-refl x.name in let none : bytes_at x.name (y ∷ ys) ≡ None = bytes_at-below x.name (y ∷ ys) (less, AllAbove-lower x.name y.name ys less up'.0) in absurd (grind arith)
  | inr rest ↦ elim rest [
    | inl equal ↦ same_all equal (same_from_bytes_at xs ys up.1 up'.1 (λ q. elim (cases_Bool (bytes_eq q x.name)) [
      | inl here ↦ below q here equal
      | inr apart ↦ let h = same q in grind arith
    ]))
    | inr greater ↦ let h = same y.name in let r = bytes_eq-refl y.name in let none : bytes_at y.name (x ∷ xs) ≡ None = bytes_at-below y.name (x ∷ xs) (greater, AllAbove-lower y.name x.name xs greater up.0) in absurd (grind arith)
  ]
]
  where
    below : (q : List ℕ) → bytes_eq q x.name ≡ true → x.name ≡ y.name → bytes_at q xs ≡ bytes_at q ys
    below q here equal =
        let e : q ≡ x.name = (bytes_eq-Decides q x.name).0 here in
        let none : bytes_at x.name xs ≡ None = bytes_at-below x.name xs up.0 in
        let none' : bytes_at y.name ys ≡ None = bytes_at-below y.name ys up'.0 in
        grind arith

    same_all : x.name ≡ y.name → xs ≡ ys → x ∷ xs ≡ y ∷ ys
    same_all equal tail =
        let head = same x.name in
        let r = bytes_eq-refl x.name in
        grind arith

pub bytes_at-with_pair : (q name bytes : List ℕ) (pairs : List Pair) → bytes_at q (with_pair name bytes pairs) ≡ cond (bytes_eq q name) (Some bytes) (bytes_at q pairs)
bytes_at-with_pair q name bytes [] = refl
bytes_at-with_pair q name bytes (p ∷ pairs) = grind (arith, bytes_at-with_pair q name bytes pairs, bytes_eq-Decides name p.name, bytes_eq-Decides q p.name, bytes_eq-Decides q name)

pub bytes_at-without : (q name : List ℕ) (pairs : List Pair) → bytes_at q (without name pairs) ≡ cond (bytes_eq name q) None (bytes_at q pairs)
bytes_at-without q name [] = grind arith
bytes_at-without q name (p ∷ pairs) = grind (arith, bytes_at-without q name pairs, bytes_eq-Decides name p.name, bytes_eq-Decides q p.name, bytes_eq-Decides name q)

-- a pair with a name that isn't empty keeps that of each
pub All-with_pair : (P : Pair → Type 0) (name bytes : List ℕ) (pairs : List Pair) → P (record { name = name; bytes = bytes }) → All P pairs → All P (with_pair name bytes pairs)
All-with_pair P name bytes [] new all = All-cons P _ [] new all
All-with_pair P name bytes (p ∷ pairs) new all =
    let tail = All-tail P p pairs all in
    cond_both (bytes_eq name p.name) _ _ (All P) (λ _. All-cons P _ pairs new tail) (λ _. cond_both (name_lt name p.name) _ _ (All P)
    (λ _. All-cons P _ (p ∷ pairs) new all) (λ _. All-cons P p _ (All-head P p pairs all) (All-with_pair P name bytes pairs new tail)))

AllAbove-with_pair : (low name bytes : List ℕ) (pairs : List Pair) → name_cmp low name ≡ Less → AllAbove low pairs → AllAbove low (with_pair name bytes pairs)
AllAbove-with_pair low name bytes [] less above = (less, tt)
AllAbove-with_pair low name bytes (p ∷ pairs) less above =
    cond_both (bytes_eq name p.name) _ _ (AllAbove low) (λ _. (less, above.1)) (λ _. cond_both (name_lt name p.name) _ _ (AllAbove low)
    (λ _. (less, above)) (λ _. (above.0, AllAbove-with_pair low name bytes pairs less above.1)))

pub IsRising-with_pair : (name bytes : List ℕ) (pairs : List Pair) → IsRising pairs → IsRising (with_pair name bytes pairs)
IsRising-with_pair name bytes [] up = (tt, tt)
IsRising-with_pair name bytes (p ∷ pairs) up =
    cond_both (bytes_eq name p.name) _ _ IsRising
    (λ here. let P : List ℕ → Type 0 = λ n. AllAbove n pairs in (subst P (sym ((bytes_eq-Decides name p.name).0 here)) up.0, up.1))
    (λ apart. cond_both (name_lt name p.name) _ _ IsRising
    (λ less. let below : name_cmp name p.name ≡ Less = Less-from_name_lt name p.name less in ((below, AllAbove-lower name p.name pairs below up.0), up))
    (λ not_less. (AllAbove-with_pair p.name name bytes pairs (Greater-from_tests name p.name apart not_less) up.0, IsRising-with_pair name bytes pairs up.1)))

pub AllAbove-filter : (low : List ℕ) (test : Pair → Bool) (pairs : List Pair) → AllAbove low pairs → AllAbove low (filter test pairs)
AllAbove-filter low test [] above = tt
AllAbove-filter low test (p ∷ pairs) above =
    cond_both (test p) _ _ (AllAbove low) (λ _. (above.0, AllAbove-filter low test pairs above.1)) (λ _. AllAbove-filter low test pairs above.1)

pub IsRising-filter : (test : Pair → Bool) (pairs : List Pair) → IsRising pairs → IsRising (filter test pairs)
IsRising-filter test [] up = tt
IsRising-filter test (p ∷ pairs) up =
    cond_both (test p) _ _ IsRising (λ _. (AllAbove-filter p.name test pairs up.0, IsRising-filter test pairs up.1)) (λ _. IsRising-filter test pairs up.1)

-- a list with the bytes under a name set, or without a name, is in order as before
pub IsContents-with_pair : (name bytes : List ℕ) (pairs : List Pair) → name ≢ [] → IsContents pairs → IsContents (with_pair name bytes pairs)
IsContents-with_pair name bytes pairs named contents =
    (Ascends-from_IsRising _ (IsRising-with_pair name bytes pairs (IsRising-from_Ascends pairs contents.0)), All-with_pair (λ (p : Pair). p.name ≢ []) name bytes pairs named contents.1)

pub IsContents-without : (name : List ℕ) (pairs : List Pair) → IsContents pairs → IsContents (without name pairs)
IsContents-without name pairs contents =
    (Ascends-from_IsRising _ (IsRising-filter _ pairs (IsRising-from_Ascends pairs contents.0)), All-filter _ (λ (p : Pair). p.name ≢ []) pairs contents.1)

-- nothing is taken away under a name with nothing
pub without-absent : (name : List ℕ) (pairs : List Pair) → bytes_at name pairs ≡ None → without name pairs ≡ pairs
without-absent name [] absent = refl
without-absent name (p ∷ pairs) absent = elim (cases_Bool (bytes_eq name p.name)) [
  | inl here ↦ absurd (grind arith)
  | inr apart ↦ let tail = without-absent name pairs in grind arith
]

-- a pair stands in the list where its bytes stand under its name
pub Contains-from_bytes_at : (name bytes : List ℕ) (pairs : List Pair) → bytes_at name pairs ≡ Some bytes → Contains pairs (record { name = name; bytes = bytes })
Contains-from_bytes_at name bytes [] is = absurd (grind arith)
Contains-from_bytes_at name bytes (p ∷ pairs) is = elim (cases_Bool (bytes_eq name p.name)) [
  | inl here ↦
      let same : record { name = name; bytes = bytes } ≡ p = let e = (bytes_eq-Decides name p.name).0 here in grind arith in
      let P : Pair → Type 0 = Contains (p ∷ pairs) in subst P (sym same) (Contains-get_or (p ∷ pairs) 0 p (omega arith))
  | inr apart ↦ Contains-append_right (p ∷ []) pairs _ (Contains-from_bytes_at name bytes pairs (grind arith))
]

pub take_while-more : (test : Pair → Bool) (p : Pair) (pairs : List Pair) → test p ≡ true → take_while test (p ∷ pairs) ≡ p ∷ take_while test pairs
take_while-more test p pairs passes =
    let n = prefix_len test pairs in
    let next : 1 + n ≡ suc n = omega arith in
    ap (λ m. take m (p ∷ pairs)) (ap (λ b. cond b (1 + n) 0) passes ∙ next)

pub take_while-end : (test : Pair → Bool) (p : Pair) (pairs : List Pair) → test p ≡ false → take_while test (p ∷ pairs) ≡ []
take_while-end test p pairs fails = rw fails refl

-- a test of the names that shows where a scan begins, over names in order
module _ (prefix after : List ℕ) (from : List ℕ → Bool)
    (before : (n : List ℕ) → from n ≡ false → is_scanned prefix after n ≡ false)
    (past : (n : List ℕ) → from n ≡ true → name_lt after n ≡ true)
    (first : (n m : List ℕ) → from n ≡ true → begins prefix n ≡ false → name_cmp n m ≡ Less → begins prefix m ≡ false) where
  none_scanned : (n : List ℕ) (pairs : List Pair) → from n ≡ true → begins prefix n ≡ false → AllAbove n pairs → filter (λ (p : Pair). is_scanned prefix after p.name) pairs ≡ []
  none_scanned n [] here not_begun above = refl
  none_scanned n (p ∷ pairs) here not_begun above =
      let e : begins prefix p.name ≡ false = first n p.name here not_begun above.0 in
      let e' : is_scanned prefix after p.name ≡ false = and_left (begins prefix p.name) (name_lt after p.name) e in
      rw e' (none_scanned n pairs here not_begun above.1)

  -- what a scan shows stands at the beginning of what it goes over
  pub take_while-from : (pairs : List Pair) → IsRising pairs
      → take_while (λ (p : Pair). begins prefix p.name) (filter (λ (p : Pair). from p.name) pairs) ≡ filter (λ (p : Pair). is_scanned prefix after p.name) pairs
  take_while-from [] up = refl
  take_while-from (p ∷ pairs) up = elim (cases_Bool (from p.name)) [
    | inr low ↦ let e = before p.name low in rw (low, e) (take_while-from pairs up.1)
    | inl here ↦ elim (cases_Bool (begins prefix p.name)) [
      | inl begun ↦
          let e : is_scanned prefix after p.name ≡ true = and_from (begins prefix p.name) (name_lt after p.name) begun (past p.name here) in
          rw (here, e) (take_while-more (λ (p : Pair). begins prefix p.name) p _ begun ∙ ap (λ xs. p ∷ xs) (take_while-from pairs up.1))
      | inr over ↦
          let e : is_scanned prefix after p.name ≡ false = and_left (begins prefix p.name) (name_lt after p.name) over in
          rw (here, e) (take_while-end (λ (p : Pair). begins prefix p.name) p _ over ∙ sym (none_scanned p.name pairs here over up.0))
    ]
  ]

-- a page, read from names past the start on
pub page-past : (prefix after : List ℕ) (limit : ℕ) (pairs : List Pair) → is_le (name_cmp prefix after) ≡ true → IsRising pairs
    → take limit (take_while (λ (p : Pair). begins prefix p.name) (filter (λ (p : Pair). name_lt after p.name) pairs)) ≡ page_of prefix after limit pairs
page-past prefix after limit pairs above up = ap (take limit) (take_while-from prefix after (name_lt after)
    (λ n low. and_right (begins prefix n) (name_lt after n) low)
    (λ n here. here)
    (λ n m here over less. begins-after prefix n m (ap is_le (upto-Less prefix after n above (Less-from_name_lt after n here))) over less)
    pairs up)

-- or from the prefix on
pub page-from : (prefix after : List ℕ) (limit : ℕ) (pairs : List Pair) → is_le (name_cmp prefix after) ≡ false → IsRising pairs
    → take limit (take_while (λ (p : Pair). begins prefix p.name) (filter (λ (p : Pair). is_le (name_cmp prefix p.name)) pairs)) ≡ page_of prefix after limit pairs
page-from prefix after limit pairs below up = ap (take limit) (take_while-from prefix after (λ n. is_le (name_cmp prefix n))
    (λ n low. and_left (begins prefix n) (name_lt after n) (begins-below prefix n low))
    (λ n here. name_lt-from_Less after n (Less-upto after prefix n (not_upto prefix after below) here))
    (λ n m here over less. begins-after prefix n m here over less)
    pairs up)

AllAbove-take : (low : List ℕ) (n : ℕ) (pairs : List Pair) → AllAbove low pairs → AllAbove low (take n pairs)
AllAbove-take low zero pairs above = tt
AllAbove-take low (suc n) [] above = tt
AllAbove-take low (suc n) (p ∷ pairs) above = (above.0, AllAbove-take low n pairs above.1)

pub IsRising-take : (n : ℕ) (pairs : List Pair) → IsRising pairs → IsRising (take n pairs)
IsRising-take zero pairs up = tt
IsRising-take (suc n) [] up = tt
IsRising-take (suc n) (p ∷ pairs) up = (AllAbove-take p.name n pairs up.0, IsRising-take n pairs up.1)

AllAbove-last : (low : List ℕ) (pairs : List Pair) (p : Pair) → AllAbove low (pairs ++ p ∷ []) → name_cmp low p.name ≡ Less
AllAbove-last low [] p above = above.0
AllAbove-last low (q ∷ pairs) p above = AllAbove-last low pairs p above.1

-- the last of pairs in order has a name of its own
pub bytes_at-last_absent : (pairs : List Pair) (p : Pair) → IsRising (pairs ++ p ∷ []) → bytes_at p.name pairs ≡ None
bytes_at-last_absent [] p up = refl
bytes_at-last_absent (q ∷ pairs) p up =
    let apart : bytes_eq p.name q.name ≡ false = bytes_eq-Greater p.name q.name (AllAbove-last q.name pairs p up.0) in
    rw apart (bytes_at-last_absent pairs p up.1)

-- and setting it adds it at the end
pub with_pair-last : (pairs : List Pair) (p : Pair) → IsRising (pairs ++ p ∷ []) → with_pair p.name p.bytes pairs ≡ pairs ++ p ∷ []
with_pair-last [] p up = refl
with_pair-last (q ∷ pairs) p up =
    let less : name_cmp q.name p.name ≡ Less = AllAbove-last q.name pairs p up.0 in
    let apart : bytes_eq p.name q.name ≡ false = bytes_eq-Greater p.name q.name less in
    let not_less : name_lt p.name q.name ≡ false = name_lt-Greater p.name q.name less in
    rw (apart, not_less) (ap (λ xs. q ∷ xs) (with_pair-last pairs p up.1))

-- a page of what is in order has the shape of a page
pub IsPage-page_of : (prefix after : List ℕ) (limit : ℕ) (pairs : List Pair) → IsContents pairs → IsPage prefix after limit (page_of prefix after limit pairs)
IsPage-page_of prefix after limit pairs contents =
    let shown : List Pair = filter (λ (p : Pair). is_scanned prefix after p.name) pairs in
    record {
      scanned = All-take (λ (p : Pair). IsTrue (is_scanned prefix after p.name)) limit shown (filter_passes (λ (p : Pair). is_scanned prefix after p.name) pairs);
      ascends = Ascends-from_IsRising _ (IsRising-take limit shown (IsRising-filter _ pairs (IsRising-from_Ascends pairs contents.0)));
      few = omega (arith, length-take limit shown);
    }
