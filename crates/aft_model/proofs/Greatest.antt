-- The greatest of some ids.
use Rattle.std.proofs.Common.{◌≡◌, Bool, true, false, List, [], ◌∷◌, refl, sym, subst, ◌∙◌, ◌⊎◌, inl, inr}
use Rattle.std.specs.Prelude.{IsFalse, Option, Some, None, if◌then◌else◌}
use Rattle.std.specs.List.{fold}
use Rattle.std.proofs.lemmas.Bool.{true≢false, false_from_ne_true}
use Rattle.aft_id.specs.TxnId.{id_lt}
use Rattle.aft_id.specs.declared.txn_id.TxnId.{TxnId}
use Rattle.aft_records.specs.Commits.{later, greatest}
use Rattle.aft_model.proofs.Histories.{In}
use Rattle.aft_model.proofs.Ids.{id_lt-irrefl, id_lt-trans}

-- there is a greatest id, and an id isn't above it
abbrev Within : TxnId → Option TxnId → Type 0
Within id None = ⊥
Within id (Some greatest) = IsFalse (id_lt greatest id)

later_keeps : (o : Option TxnId) (x id : TxnId) → Within id o → Within id (later o x)
later_keeps None x id within = absurd within
later_keeps (Some g) x id within = cases (id_lt g x) refl
  where
    cases : (t : Bool) → id_lt g x ≡ t → Within id (if t then Some x else Some g)
    cases true less = false_from_ne_true (id_lt x id) (λ above. true≢false (sym (id_lt-trans g x id less above) ∙ within))
    cases false it = within

later_takes : (o : Option TxnId) (x : TxnId) → Within x (later o x)
later_takes None x = id_lt-irrefl x
later_takes (Some g) x = cases (id_lt g x) refl
  where
    cases : (t : Bool) → id_lt g x ≡ t → Within x (if t then Some x else Some g)
    cases true less = id_lt-irrefl x
    cases false it = it

fold_within : (o : Option TxnId) (ids : List TxnId) (id : TxnId) → Within id o ⊎ In id ids → Within id (fold later o ids)
fold_within o [] id (inl within) = within
fold_within o [] id (inr nowhere) = absurd nowhere
fold_within o (x ∷ xs) id (inl within) = fold_within (later o x) xs id (inl (later_keeps o x id within))
fold_within o (x ∷ xs) id (inr (inl here)) = fold_within (later o x) xs id (inl (subst (λ (y : TxnId). Within y (later o x)) (sym here) (later_takes o x)))
fold_within o (x ∷ xs) id (inr (inr later)) = fold_within _ xs id (inr later)

later_is : (o : Option TxnId) (x g : TxnId) → later o x ≡ Some g → (o ≡ Some g) ⊎ (g ≡ x)
later_is None x g is = inr cc
later_is (Some h) x g is = cases (id_lt h x) is
  where
    cases : (t : Bool) → (if t then Some x else Some h) ≡ Some g → (Some h ≡ Some g) ⊎ (g ≡ x)
    cases true is = inr cc
    cases false is = inl is

fold_among : (o : Option TxnId) (ids : List TxnId) (g : TxnId) → fold later o ids ≡ Some g → (o ≡ Some g) ⊎ In g ids
fold_among o [] g is = inl is
fold_among o (x ∷ xs) g is =
    elim (fold_among (later o x) xs g is) [
      | inl sooner ↦ elim (later_is o x g sooner) [ inl before ↦ inl before | inr here ↦ inr (inl here) ]
      | inr later ↦ inr (inr later)
    ]

-- where there are ids, one of them is the greatest, and none of them is above it
pub greatest_of_some : (ids : List TxnId) (id : TxnId) → In id ids → (g : TxnId) × (greatest ids ≡ Some g) × In g ids × ((other : TxnId) → In other ids → IsFalse (id_lt g other))
greatest_of_some ids id among = cases (greatest ids) refl (fold_within None ids id (inr among))
  where
    one_of : (g : TxnId) → greatest ids ≡ Some g → In g ids
    one_of g is = elim (fold_among None ids g is) [ inl none ↦ cc | inr there ↦ there ]

    cases : (o : Option TxnId) → greatest ids ≡ o → Within id o → (g : TxnId) × (greatest ids ≡ Some g) × In g ids × ((other : TxnId) → In other ids → IsFalse (id_lt g other))
    cases None is within = absurd within
    cases (Some g) is within = (g, is, one_of g is, λ other there. subst (λ o. Within other o) is (fold_within None ids other (inr there)))

-- the greatest of some ids is one of them
pub greatest_among : (ids : List TxnId) (g : TxnId) → greatest ids ≡ Some g → In g ids
greatest_among ids g is = elim (fold_among None ids g is) [ inl none ↦ cc | inr there ↦ there ]
