-- The place of the claim by which a UUID is held.
use Rattle.std.proofs.Common.{◌≡◌, ℕ, suc, ◌+◌, Bool, true, false, List, [], ◌∷◌, ◌++◌, refl, ap, ◌∙◌, ◌⊎◌, inl, inr, arith}
use Rattle.std.specs.Prelude.{IsTrue, IsFalse, Option, Some, None, is_some, if◌then◌else◌}
use Rattle.std.specs.List.{list_any}
use Rattle.std.proofs.lemmas.Bool.{or_parts}
use Rattle.aft_model.specs.declared.door.DoorEntry.{DoorEntry}
use Rattle.aft_model.specs.Claims.{claim_place, holder, is_claim_of}
use Rattle.aft_model.specs.History.{at_place, last_place, last_place_from}

module _ {A : Type 0} (test : A → Bool) where
  -- an element that passes the test, at a place
  abbrev pub PassesAt : ℕ → List A → Type 0
  PassesAt k xs = (x : A) × (at_place k xs ≡ Some x) × IsTrue (test x)

  -- the last place is the one that was known before, or that of an element
  found_from : (n : ℕ) (before : Option ℕ) (xs : List A) (p : ℕ) → last_place_from test n before xs ≡ Some p → (before ≡ Some p) ⊎ ((k : ℕ) × (p ≡ n + k) × PassesAt k xs)
  found_from n before [] p e = inl e
  found_from n before (x ∷ xs) p e = cases (λ other. found_from (suc n) other xs p) (test x) refl e
    where
      Found : Option ℕ → Type 0
      Found other = (other ≡ Some p) ⊎ ((k : ℕ) × (p ≡ suc n + k) × PassesAt k xs)

      cases : ((other : Option ℕ) → last_place_from test (suc n) other xs ≡ Some p → Found other) → (t : Bool) → test x ≡ t
          → last_place_from test (suc n) (if t then Some n else before) xs ≡ Some p → (before ≡ Some p) ⊎ ((k : ℕ) × (p ≡ n + k) × PassesAt k (x ∷ xs))
      cases rest true passed e =
          elim (rest (Some n) e) [
            | inl here ↦ (let is : n ≡ p = cc in inr (0, omega arith, (x, refl, passed)))
            | inr later ↦ (let k = later.0 in let is = later.1 in inr (suc k, omega arith, later.2))
          ]
      cases rest false failed e =
          elim (rest before e) [
            | inl was ↦ inl was
            | inr later ↦ (let k = later.0 in let is = later.1 in inr (suc k, omega arith, later.2))
          ]

  -- where no further element passes, the last place stays
  none_more : (n : ℕ) (before : Option ℕ) (ys : List A) → IsFalse (list_any test ys) → last_place_from test n before ys ≡ before
  none_more n before [] none = refl
  none_more n before (y ∷ ys) none =
      let parts = or_parts (test y) (list_any test ys) none in
      ap (λ t. last_place_from test (suc n) (if t then Some n else before) ys) parts.0 ∙ none_more (suc n) before ys parts.1

  stays_from : (n : ℕ) (before : Option ℕ) (xs ys : List A) → IsFalse (list_any test ys) → last_place_from test n before (xs ++ ys) ≡ last_place_from test n before xs
  stays_from n before [] ys none = none_more n before ys none
  stays_from n before (x ∷ xs) ys none = stays_from (suc n) (if test x then Some n else before) xs ys none

-- whoever is named where a test passes is named by what it passes with
if_some : (t : Bool) (o : Option ℕ) (p : ℕ) → (if t then o else None) ≡ Some p → o ≡ Some p
if_some true o p e = e
if_some false o p e = absurd (cc)

pub place_of_claim : (uuid : List ℕ) (place : ℕ) (history : List DoorEntry) → claim_place uuid history ≡ Some place → PassesAt (λ (entry : DoorEntry). is_claim_of uuid entry.act) place history
place_of_claim uuid place history e =
    elim (found_from (λ (entry : DoorEntry). is_claim_of uuid entry.act) 0 None history place (if_some (is_some (holder uuid history)) (last_place (λ (entry : DoorEntry). is_claim_of uuid entry.act) history) place e)) [
      | inl before ↦ absurd (cc)
      | inr found ↦ (found.2.0, ap (λ (k : ℕ). at_place k history) (let is = found.1 in omega arith) ∙ found.2.1, found.2.2)
    ]

pub place_stays : (uuid : List ℕ) (place : ℕ) (history more : List DoorEntry) → claim_place uuid history ≡ Some place → IsFalse (list_any (λ entry. is_claim_of uuid entry.act) more)
    → IsTrue (is_some (holder uuid (history ++ more))) → claim_place uuid (history ++ more) ≡ Some place
place_stays uuid place history more e none held =
    ap (λ t. if t then last_place (λ (entry : DoorEntry). is_claim_of uuid entry.act) (history ++ more) else None) held
    ∙ (stays_from (λ (entry : DoorEntry). is_claim_of uuid entry.act) 0 None history more none
    ∙ if_some (is_some (holder uuid history)) (last_place (λ (entry : DoorEntry). is_claim_of uuid entry.act) history) place e)
