-- The order of names, byte by byte, and names that begin with a prefix.
use Rattle.std.proofs.Common.{ℕ, ◌≡◌, List, [], ◌∷◌, Bool, true, false, refl, sym, ◌∙◌, ap, subst, ◌⊎◌, inl, inr, arith, IsTrue}
use Rattle.std.proofs.lemmas.Cmp.{nat_list_cmp_total, tied_itself}
use Rattle.std.proofs.lemmas.Map.Lookups.{exact_bytes}
use Rattle.std.proofs.lemmas.Map.Text.{is_eq-slice_cmp}
use Rattle.std.proofs.lemmas.Slice.Eq.{bytes_eq-Decides}
use Rattle.std.proofs.lemmas.Bool.{false_from_ne_true, false≢true}
use Rattle.std.specs.declared.cmp.Ordering.{Ordering}
use Rattle.std.specs.declared.cmp.Ordering.TheVariants.{Less, Equal, Greater}
use Rattle.std.specs.Ordering.{nat_cmp, is_lt, is_eq, is_le, ordering_reverse}
use Rattle.std.specs.Prelude.{nat_eq}
use Rattle.std.specs.List.{starts_with}
use Rattle.std.proofs.Common.{eqb, ltb}
use Rattle.std.proofs.lemmas.Bool.{and_parts, and_from, cases_order, eqb-true, eq-eqb, le-ltb, ne_eqb}
use Rattle.std.proofs.lemmas.Bool.Decides.{nat_tests}
use Rattle.std.specs.Cmp.Lexicographic.{slice_cmp}
use Rattle.std.specs.Str.{bytes_eq}
use Rattle.aft_keeper.specs.Contents.{name_lt}

-- how two names compare
abbrev pub name_cmp : List ℕ → List ℕ → Ordering
name_cmp a b = slice_cmp nat_cmp a b

pub Less-from_name_lt : (a b : List ℕ) → IsTrue (name_lt a b) → name_cmp a b ≡ Less
Less-from_name_lt a b lt = less (name_cmp a b) lt
  where
    less : (o : Ordering) → IsTrue (is_lt o) → o ≡ Less
    less Less lt = refl
    less Equal lt = absurd (false≢true lt)
    less Greater lt = absurd (false≢true lt)

pub name_lt-from_Less : (a b : List ℕ) → name_cmp a b ≡ Less → IsTrue (name_lt a b)
name_lt-from_Less a b less = let P : Ordering → Type 0 = λ o. IsTrue (is_lt o) in subst P (sym less) refl

pub Less-trans : (a b c : List ℕ) → name_cmp a b ≡ Less → name_cmp b c ≡ Less → name_cmp a c ≡ Less
Less-trans a b c = nat_list_cmp_total.trans a b c

-- one of the three holds
pub cases_name : (a b : List ℕ) → (name_cmp a b ≡ Less) ⊎ ((a ≡ b) ⊎ (name_cmp b a ≡ Less))
cases_name a b = cases (name_cmp a b) refl
  where
    cases : (o : Ordering) → name_cmp a b ≡ o → (name_cmp a b ≡ Less) ⊎ ((a ≡ b) ⊎ (name_cmp b a ≡ Less))
    cases Less is = inl is
    cases Equal is = inr (inl (exact_bytes a b is))
    cases Greater is = inr (inr (nat_list_cmp_total.antisymm b a ∙ grind arith))

pub bytes_eq-refl : (a : List ℕ) → bytes_eq a a ≡ true
bytes_eq-refl a = (bytes_eq-Decides a a).1 refl

pub bytes_eq-Less : (a b : List ℕ) → name_cmp a b ≡ Less → bytes_eq a b ≡ false
bytes_eq-Less a b less = sym (is_eq-slice_cmp a b) ∙ ap is_eq less

pub bytes_eq-Greater : (a b : List ℕ) → name_cmp b a ≡ Less → bytes_eq a b ≡ false
bytes_eq-Greater a b less = false_from_ne_true (bytes_eq a b) (λ same. let e : a ≡ b = (bytes_eq-Decides a b).0 same in let no : Less ≡ Equal = sym less ∙ ap (λ x. name_cmp x a) (sym e) ∙ tied_itself nat_list_cmp_total a in cc)

pub name_lt-Greater : (a b : List ℕ) → name_cmp b a ≡ Less → name_lt a b ≡ false
name_lt-Greater a b less = ap is_lt (nat_list_cmp_total.antisymm a b ∙ ap ordering_reverse less)

-- names that neither are equal nor lie in one order lie in the other
pub Greater-from_tests : (a b : List ℕ) → bytes_eq a b ≡ false → name_lt a b ≡ false → name_cmp b a ≡ Less
Greater-from_tests a b apart not_less = elim (cases_name a b) [
  | inl less ↦ let e : name_lt a b ≡ true = name_lt-from_Less a b less in absurd (grind arith)
  | inr rest ↦ elim rest [
    | inl equal ↦ let e : bytes_eq a b ≡ true = (bytes_eq-Decides a b).1 equal in absurd (grind arith)
    | inr greater ↦ greater
  ]
]

-- whether a name begins with a prefix
abbrev pub begins : List ℕ → List ℕ → Bool
begins prefix name = starts_with nat_eq name prefix

-- no name that begins with a prefix lies below it
pub is_le-from_begins : (prefix name : List ℕ) → begins prefix name ≡ true → is_le (name_cmp prefix name) ≡ true
is_le-from_begins [] [] b = refl
is_le-from_begins [] (c ∷ name) b = refl
is_le-from_begins (a ∷ prefix) [] b = absurd (false≢true b)
is_le-from_begins (a ∷ prefix) (c ∷ name) b =
    let parts = and_parts (eqb a c) (begins prefix name) b in
    let rest = is_le-from_begins prefix name parts.1 in
    grind (arith, nat_tests)

-- of the names from a prefix on, those that begin with it come first
pub begins-before : (prefix name later : List ℕ) → is_le (name_cmp prefix name) ≡ true → name_cmp name later ≡ Less → begins prefix later ≡ true → begins prefix name ≡ true
begins-before [] name later from less b = refl
begins-before (a ∷ prefix) [] later from less b = absurd (false≢true from)
begins-before (a ∷ prefix) (c ∷ name) [] from less b = absurd (false≢true b)
begins-before (a ∷ prefix) (c ∷ name) (d ∷ later) from less b =
    let parts = and_parts (eqb a d) (begins prefix later) b in
    let same : a ≡ d = eqb-true a d parts.0 in
    elim (cases_order a c) [
      | inl equal ↦
          let up : is_le (name_cmp prefix name) ≡ true = grind (arith, nat_tests) in
          let down : name_cmp name later ≡ Less = grind (arith, nat_tests) in
          and_from (eqb a c) (begins prefix name) (eq-eqb a c equal) (begins-before prefix name later up down parts.1)
      | inr apart ↦ elim apart [
        | inl below ↦ let e : ltb c d ≡ false = le-ltb c d (omega arith) in let e' : eqb c d ≡ false = ne_eqb c d (λ h. omega arith) in absurd (grind arith)
        | inr above ↦ let e : ltb a c ≡ false = le-ltb a c (omega arith) in let e' : eqb a c ≡ false = ne_eqb a c (λ h. omega arith) in absurd (grind arith)
      ]
    ]

-- orders in a row, where a name may be equal to the first
pub not_upto : (a b : List ℕ) → is_le (name_cmp a b) ≡ false → name_cmp b a ≡ Less
not_upto a b not_le = elim (cases_name a b) [
  | inl less ↦ absurd (false≢true (sym not_le ∙ ap is_le less))
  | inr rest ↦ elim rest [
    | inl equal ↦ absurd (false≢true (sym not_le ∙ ap (λ n. is_le (name_cmp a n)) (sym equal) ∙ ap is_le (tied_itself nat_list_cmp_total a)))
    | inr greater ↦ greater
  ]
]

pub upto-Less : (a b c : List ℕ) → is_le (name_cmp a b) ≡ true → name_cmp b c ≡ Less → name_cmp a c ≡ Less
upto-Less a b c le less = elim (cases_name a b) [
  | inl before ↦ Less-trans a b c before less
  | inr rest ↦ elim rest [
    | inl equal ↦ ap (λ n. name_cmp n c) equal ∙ less
    | inr greater ↦ absurd (false≢true (ap is_le (sym (nat_list_cmp_total.antisymm a b ∙ ap ordering_reverse greater)) ∙ le))
  ]
]

pub Less-upto : (a b c : List ℕ) → name_cmp a b ≡ Less → is_le (name_cmp b c) ≡ true → name_cmp a c ≡ Less
Less-upto a b c less le = elim (cases_name b c) [
  | inl after ↦ Less-trans a b c less after
  | inr rest ↦ elim rest [
    | inl equal ↦ ap (name_cmp a) (sym equal) ∙ less
    | inr greater ↦ absurd (false≢true (ap is_le (sym (nat_list_cmp_total.antisymm b c ∙ ap ordering_reverse greater)) ∙ le))
  ]
]

-- after a name from a prefix on that doesn't begin with it, none does
pub begins-after : (prefix name later : List ℕ) → is_le (name_cmp prefix name) ≡ true → begins prefix name ≡ false → name_cmp name later ≡ Less → begins prefix later ≡ false
begins-after prefix name later from over less =
    false_from_ne_true (begins prefix later) (λ begun. false≢true (sym over ∙ begins-before prefix name later from less begun))

-- nor does a name below it
pub begins-below : (prefix name : List ℕ) → is_le (name_cmp prefix name) ≡ false → begins prefix name ≡ false
begins-below prefix name low = false_from_ne_true (begins prefix name) (λ begun. false≢true (sym low ∙ is_le-from_begins prefix name begun))
