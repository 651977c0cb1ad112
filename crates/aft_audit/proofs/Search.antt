-- A binary search by name, among pairs in the order of their names.
use Rattle.std.proofs.Common.{◌≡◌, ℕ, zero, suc, ◌+◌, ◌<◌, ◌≤◌, false, List, [], ◌∷◌, length, get_or, refl, sym, ap, subst, ◌∙◌, inl, inr, arith}
use Rattle.std.specs.Prelude.{None, Some, if◌then◌else◌}
use Rattle.std.specs.declared.cmp.Ordering.{Ordering}
use Rattle.std.specs.declared.cmp.Ordering.TheVariants.{Equal, Greater, Less}
use Rattle.std.specs.Ordering.{is_eq, ordering_reverse}
use Rattle.std.specs.Cmp.Lexicographic.{nat_list_cmp_total}
use Rattle.std.proofs.lemmas.Bool.{cases_lt}
use Rattle.aft_keeper.specs.declared.keeper.Pair.{Pair}
use Rattle.aft_keeper.specs.Contents.{Ascends, bytes_at}
use Rattle.aft_keeper.proofs.Contents.{AllAbove, IsRising, IsRising-from_Ascends}
use Rattle.aft_keeper.proofs.Names.{Less-trans, name_cmp}
use Rattle.aft_model.proofs.Sights.{same_bytes}
use Rattle.aft_audit.specs.Pairs.{IsNamedAt}
use Rattle.aft_audit.proofs.Newer.{tied}

above_at : (name : List ℕ) (pairs : List Pair) (i : ℕ) (d : Pair) → AllAbove name pairs → i < length pairs → name_cmp name (get_or pairs i d).name ≡ Less
above_at name [] i d above within = absurd (omega arith)
above_at name (p ∷ pairs) zero d above within = above.0
above_at name (p ∷ pairs) (suc i) d above within = above_at name pairs i d above.1 (omega arith)

-- each name lies above all before it
far_above : (pairs : List Pair) (i j : ℕ) (d : Pair) → IsRising pairs → i < j → j < length pairs → name_cmp (get_or pairs i d).name (get_or pairs j d).name ≡ Less
far_above [] i j d up less within = absurd (omega arith)
far_above (p ∷ pairs) i zero d up less within = absurd (omega arith)
far_above (p ∷ pairs) zero (suc j) d up less within = above_at p.name pairs j d up.0 (omega arith)
far_above (p ∷ pairs) (suc i) (suc j) d up less within = far_above pairs i j d up.1 (omega arith) (omega arith)

-- the pair at a place, whatever stands for none
same_or : (pairs : List Pair) (i : ℕ) (d e : Pair) → i < length pairs → get_or pairs i d ≡ get_or pairs i e
same_or [] i d e within = absurd (omega arith)
same_or (p ∷ pairs) zero d e within = refl
same_or (p ∷ pairs) (suc i) d e within = same_or pairs i d e (omega arith)

-- how the pair at a place compares
pub compared : (name : List ℕ) (pairs : List Pair) (i : ℕ) (p : Pair) (o q : Ordering) → i < length pairs → p ≡ get_or pairs i p → o ≡ name_cmp p.name name → o ≡ q → (d : Pair) → name_cmp (get_or pairs i d).name name ≡ q
compared name pairs i p o q within is how at d = ap (λ (x : Pair). name_cmp x.name name) (same_or pairs i d p within ∙ sym is) ∙ sym how ∙ at

-- what is known of a search between two places: what lies before is less than the name, and what lies behind is greater
pub record Between (name : List ℕ) (pairs : List Pair) (low high : ℕ) : Type 0 where
  pub ordered : low ≤ high
  pub within : high ≤ length pairs
  pub below : (i : ℕ) (d : Pair) → i < low → name_cmp (get_or pairs i d).name name ≡ Less
  pub above : (i : ℕ) (d : Pair) → high ≤ i → i < length pairs → name_cmp (get_or pairs i d).name name ≡ Greater

pub at_first : (name : List ℕ) (pairs : List Pair) → Between name pairs 0 (length pairs)
at_first name pairs = record { ordered = omega arith; within = omega arith; below = λ i d less. absurd (omega arith); above = λ i d le less. absurd (omega arith) }

pub goes_up : (name : List ℕ) (pairs : List Pair) (low high middle : ℕ) → IsRising pairs → middle < high → ((d : Pair) → name_cmp (get_or pairs middle d).name name ≡ Less) → Between name pairs low high → Between name pairs (middle + 1) high
goes_up name pairs low high middle up less here b = let inside = b.within in record {
  ordered = omega arith;
  within = b.within;
  below = λ i d lt. elim (cases_lt i middle) [
    | inl before ↦ Less-trans (get_or pairs i d).name (get_or pairs middle d).name name (far_above pairs i middle d up before (omega arith)) (here d)
    | inr at ↦ (let same : middle ≡ i = omega arith in subst (λ n. name_cmp (get_or pairs n d).name name ≡ Less) same (here d))
  ];
  above = b.above;
}

pub goes_down : (name : List ℕ) (pairs : List Pair) (low high middle : ℕ) → IsRising pairs → low ≤ middle → middle < high → ((d : Pair) → name_cmp (get_or pairs middle d).name name ≡ Greater) → Between name pairs low high → Between name pairs low middle
goes_down name pairs low high middle up more less here b = let inside = b.within in record {
  ordered = more;
  within = omega arith;
  below = b.below;
  above = λ i d le within. elim (cases_lt middle i) [
    | inl behind ↦ greater (get_or pairs i d).name (Less-trans name (get_or pairs middle d).name (get_or pairs i d).name (lesser (get_or pairs middle d).name (here d)) (far_above pairs middle i d up behind within))
    | inr at ↦ (let same : middle ≡ i = omega arith in subst (λ n. name_cmp (get_or pairs n d).name name ≡ Greater) same (here d))
  ];
}
  where
    lesser : (a : List ℕ) → name_cmp a name ≡ Greater → name_cmp name a ≡ Less
    lesser a more = nat_list_cmp_total.antisymm name a ∙ ap ordering_reverse more

    greater : (a : List ℕ) → name_cmp name a ≡ Less → name_cmp a name ≡ Greater
    greater a less = nat_list_cmp_total.antisymm a name ∙ ap ordering_reverse less

-- the bytes under a name, at the place where it was found
at_equal : (name : List ℕ) (pairs : List Pair) (i : ℕ) (d : Pair) → IsRising pairs → i < length pairs → name_cmp (get_or pairs i d).name name ≡ Equal → bytes_at name pairs ≡ Some (get_or pairs i d).bytes
at_equal name [] i d up within equal = absurd (omega arith)
at_equal name (p ∷ pairs) zero d up within equal = ap (λ t. if t then Some p.bytes else bytes_at name pairs) (sym (tied p.name name) ∙ ap is_eq equal)
at_equal name (p ∷ pairs) (suc i) d up within equal =
    let found : name ≡ (get_or pairs i d).name = same_bytes name (get_or pairs i d).name (sym (tied (get_or pairs i d).name name) ∙ ap is_eq equal) in
    let below : name_cmp p.name name ≡ Less = subst (λ n. name_cmp p.name n ≡ Less) (sym found) (above_at p.name pairs i d up.0 (omega arith)) in
    ap (λ t. if t then Some p.bytes else bytes_at name pairs) (sym (tied p.name name) ∙ ap is_eq below) ∙ at_equal name pairs i d up.1 (omega arith) equal

-- nothing stands under a name that equals none
none_equal : (name : List ℕ) (pairs : List Pair) → ((i : ℕ) (d : Pair) → i < length pairs → is_eq (name_cmp (get_or pairs i d).name name) ≡ false) → bytes_at name pairs ≡ None
none_equal name [] none = refl
none_equal name (p ∷ pairs) none = ap (λ t. if t then Some p.bytes else bytes_at name pairs) (sym (tied p.name name) ∙ none 0 p (omega arith)) ∙ none_equal name pairs (λ i d within. none (suc i) d (omega arith))

pub found_at : (name : List ℕ) (pairs : List Pair) (i : ℕ) (d : Pair) → Ascends pairs → IsNamedAt name pairs i → bytes_at name pairs ≡ Some (get_or pairs i d).bytes
found_at name pairs i d up at = at_equal name pairs i d (IsRising-from_Ascends pairs up) at.within (at.named d)

pub found_nowhere : (name : List ℕ) (pairs : List Pair) (low high : ℕ) → high ≤ low → Between name pairs low high → bytes_at name pairs ≡ None
found_nowhere name pairs low high le b = none_equal name pairs (λ i d within. elim (cases_lt i low) [
  | inl before ↦ ap is_eq (b.below i d before)
  | inr behind ↦ ap is_eq (b.above i d (omega arith) within)
])
