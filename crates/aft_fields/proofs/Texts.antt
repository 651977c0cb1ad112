-- Reading texts one after the other, as a loop does.
use Rattle.std.proofs.Common.{◌≡◌, ℕ, suc, ◌-◌, ◌+◌, ◌≤◌, ◌<◌, true, false, List, [], ◌∷◌, ◌++◌, Option, Some, Result, Ok, Err, refl, sym, ap, ◌∙◌, append_assoc, arith}
use Rattle.std.proofs.lemmas.List.{append-nil}
use Rattle.aft_fields.specs.declared.fault.FieldFault.{FieldFault}
use Rattle.aft_fields.specs.declared.fault.FieldFault.TheVariants.{Unsorted}
use Rattle.aft_fields.specs.Gives.{◌>>=◌, Fails}
use Rattle.aft_fields.specs.Order.{follows}
use Rattle.aft_fields.specs.Place.{Place}
use Rattle.aft_fields.specs.Reading.{text_at, texts_after}
use Rattle.aft_fields.proofs.Steps.{fails_as}

-- what was read before, and what is still read
abbrev pub with_front : {A : Type 0} → List A → Result (List A × Place) FieldFault → Result (List A × Place) FieldFault
with_front front read = read >>= λ x. Ok (front ++ x.0, x.1)

pub regroup : {A : Type 0} (front : List A) (item : A) (read : Result (List A × Place) FieldFault) → with_front front (read >>= λ x. Ok (item ∷ x.0, x.1)) ≡ with_front (front ++ item ∷ []) read
regroup {A} front item (Ok x) = ap (λ (items : List A). Ok (items, x.1)) (simp append_assoc)
regroup front item (Err f) = refl

module _ (field : ℕ) (front : List (List ℕ)) (count i : ℕ) (before : Option (List ℕ)) (place : Place) (total : Result (List (List ℕ) × Place) FieldFault) where
  pub goes_on : (text : List ℕ) (after : Place) → i < count → text_at field place ≡ Ok (text, after) → follows before text ≡ true
      → with_front front (texts_after field (count - i) before place) ≡ total
      → with_front (front ++ text ∷ []) (texts_after field (count - (i + 1)) (Some text) after) ≡ total
  unfolding texts_after
  goes_on text after lt h greater so_far =
      let k : count - i ≡ suc (count - (i + 1)) = omega arith in
      let one : with_front front (texts_after field (count - i) before place) ≡ with_front (front ++ text ∷ []) (texts_after field (count - (i + 1)) (Some text) after) = rw (k, h, greater) (regroup front text (texts_after field (count - (i + 1)) (Some text) after)) in
      sym one ∙ so_far

  pub stops : (text : List ℕ) (after : Place) → i < count → text_at field place ≡ Ok (text, after) → follows before text ≡ false
      → with_front front (texts_after field (count - i) before place) ≡ total → total ≡ Err (Unsorted field)
  unfolding texts_after
  stops text after lt h not_greater so_far =
      let k : count - i ≡ suc (count - (i + 1)) = omega arith in
      let one : with_front front (texts_after field (count - i) before place) ≡ Err (Unsorted field) = rw (k, h, not_greater) refl in
      sym so_far ∙ one

  fails : i < count → with_front front (texts_after field (count - i) before place) ≡ total → (e : FieldFault) → text_at field place ≡ Err e → total ≡ Err e
  unfolding texts_after
  fails lt so_far e h =
      let k : count - i ≡ suc (count - (i + 1)) = omega arith in
      let one : with_front front (texts_after field (count - i) before place) ≡ Err e = rw (k, h) refl in
      sym so_far ∙ one

  pub ends : (e : FieldFault) → i < count → Fails e (text_at field place)
      → with_front front (texts_after field (count - i) before place) ≡ total → Fails e total
  ends e lt h so_far = fails_as e (text_at field place) total (fails lt so_far) h

  pub is_done : count ≤ i → with_front front (texts_after field (count - i) before place) ≡ total → total ≡ Ok (front, place)
  unfolding texts_after
  is_done le so_far =
      let k : count - i ≡ 0 = omega arith in
      let one : with_front front (texts_after field (count - i) before place) ≡ Ok (front, place) = rw k (ap (λ (texts : List (List ℕ)). Ok (texts, place)) (append-nil front)) in
      sym so_far ∙ one
