-- A history of the door that a line has seen part by part: what passed a test when it looked.
use Rattle.std.proofs.Common.{◌≡◌, ◌≤◌, ◌<◌, ◌+◌, ◌-◌, ℕ, Bool, zero, suc, List, ◌++◌, length, refl, sym, ap, subst, ◌∙◌, inl, inr, arith, eqb, length-append}
use Rattle.std.specs.Prelude.{IsTrue, take}
use Rattle.std.specs.List.{range_with_len}
use Rattle.std.proofs.lemmas.Bool.{cases_Bool, eqb-false, eqb-true}
use Rattle.std.proofs.lemmas.List.{length-take, take-take, take_at}
use Rattle.aft_model.specs.declared.door.DoorEntry.{DoorEntry}
use Rattle.aft_model.proofs.Histories.{In, any_from}
use Rattle.aft_lines.specs.LineView.{some_prefix}

in_range : (n least count : ℕ) → least ≤ n → n < least + count → In n (range_with_len least count)
in_range n least zero low high = absurd (omega arith)
in_range n least (suc count) low high = elim (cases_Bool (eqb n least)) [
  | inl same ↦ inl (eqb-true n least same)
  | inr other ↦ inr (in_range n (least + 1) count (past n least low (eqb-false n least other)) (let h = high in omega arith))
]
  where
    past : (a b : ℕ) → b ≤ a → (a ≡ b → ⊥) → b + 1 ≤ a
    past a b le differ = grind arith

-- what a line has seen in the end begins with what it looked at, so that lies between its first front and its last
pub looked_at : (test : List DoorEntry → Bool) (look rest seen : List DoorEntry) (least most : ℕ) → least ≤ length look → take most seen ≡ look ++ rest → IsTrue (test look) → IsTrue (some_prefix test least most seen)
looked_at test look rest seen least most low begins passed =
    any_from (λ n. test (take n seen)) (length look) (range_with_len least (suc most - least))
    (in_range (length look) least (suc most - least) low (let m = most_so in omega arith))
    (subst (λ (h : List DoorEntry). IsTrue (test h)) (sym taken) passed)
  where
    most_so : length look ≤ most
    most_so =
        let cut : length (take most seen) ≡ length look + length rest = ap (λ (h : List DoorEntry). length h) begins ∙ length-append look rest in
        let at = length-take most seen in
        omega arith

    taken : take (length look) seen ≡ look
    taken = sym (take-take (length look) most seen most_so) ∙ ap (take (length look)) begins ∙ take_at look rest (length look) refl
