-- Contents that go along with a history go along with its parts, one after the other.
use Rattle.std.proofs.Common.{◌≡◌, ℕ, zero, suc, ◌<◌, List, [], ◌∷◌, ◌++◌, length, get_or, arith, refl, sym, ap, subst, ◌∙◌, inl, inr}
use Rattle.std.specs.Prelude.{Contains}
use Rattle.std.specs.List.{flat_map, fold}
use Rattle.std.proofs.lemmas.List.Concat.{flat_map-append}
use Rattle.std.proofs.lemmas.List.Sums.{fold-append}
use Rattle.aft_keeper.specs.declared.keeper.Pair.{Pair}
use Rattle.aft_model.specs.declared.door.DoorEntry.{DoorEntry}
use Rattle.aft_model.specs.Contents.{GoesAlong, held_after, may_be_held}
use Rattle.aft_model.proofs.Histories.{In, in_append, in_front, in_back}

-- ---- an element, by its place

pub in_from_Contains : {A : Type 0} (x : A) (xs : List A) → Contains xs x → In x xs
in_from_Contains {A} x xs among = go xs among.0 among.1 among.2
  where
    go : (ys : List A) (k : ℕ) → k < length ys → get_or ys k x ≡ x → In x ys
    go [] k within is = absurd (omega arith)
    go (y ∷ ys) zero within is = inl (sym is)
    go (y ∷ ys) (suc k) within is = inr (go ys k (omega arith) is)

Contains-from_in : {A : Type 0} (x : A) (xs : List A) → In x xs → Contains xs x
Contains-from_in x [] among = absurd among
Contains-from_in x (y ∷ ys) (inl here) = (0, omega arith, sym here)
Contains-from_in x (y ∷ ys) (inr later) = let found = Contains-from_in x ys later in let within = found.1 in (suc found.0, omega arith, found.2)

-- ---- what may be held

-- what may be held after an entry by a store that held one of these
abbrev after : List (List Pair) → DoorEntry → List (List Pair)
after held entry = flat_map (held_after entry.act) held

after_none : (history : List DoorEntry) → fold after [] history ≡ []
after_none [] = refl
after_none (entry ∷ history) = after_none history

after_both : (history : List DoorEntry) (some others : List (List Pair)) → fold after (some ++ others) history ≡ fold after some history ++ fold after others history
after_both [] some others = refl
after_both (entry ∷ history) some others =
    ap (λ held. fold after held history) (flat_map-append (held_after entry.act) some others) ∙ after_both history (after some entry) (after others entry)

-- where one of these was held, what may be held now is what may be held after one of them
pub from_one : (history : List DoorEntry) (now : List Pair) (held : List (List Pair)) → In now (fold after held history) → (one : List Pair) × In one held × In now (may_be_held one history)
from_one history now [] among = absurd (subst (In now) (after_none history) among)
from_one history now (one ∷ held) among =
    elim (in_append now (may_be_held one history) (fold after held history) (subst (In now) (after_both history (one ∷ []) held) among)) [
      | inl here ↦ (one, inl refl, here)
      | inr later ↦ (let found = from_one history now held later in (found.0, inr found.1, found.2))
    ]

to_all : (history : List DoorEntry) (now one : List Pair) (held : List (List Pair)) → In one held → In now (may_be_held one history) → In now (fold after held history)
to_all history now one [] among held = absurd among
to_all history now one (other ∷ rest) (inl here) held =
    subst (In now) (sym (after_both history (other ∷ []) rest)) (in_front now _ (fold after rest history) (subst (λ w. In now (may_be_held w history)) here held))
to_all history now one (other ∷ rest) (inr later) held =
    subst (In now) (sym (after_both history (other ∷ []) rest)) (in_back now (may_be_held other history) _ (to_all history now one rest later held))

pub joined : (contents between now : List Pair) (history more : List DoorEntry) → GoesAlong contents history between → GoesAlong between more now → GoesAlong contents (history ++ more) now
joined contents between now history more first second =
    Contains-from_in now _ (subst (In now) (sym (fold-append after (contents ∷ []) history more))
    (to_all more now between (may_be_held contents history) (in_from_Contains between _ first) (in_from_Contains now _ second)))

pub parted : (contents now : List Pair) (history more : List DoorEntry) → GoesAlong contents (history ++ more) now → (between : List Pair) × (GoesAlong contents history between) × (GoesAlong between more now)
parted contents now history more along =
    let found = from_one more now (may_be_held contents history) (subst (In now) (fold-append after (contents ∷ []) history more) (in_from_Contains now _ along)) in
    (found.0, Contains-from_in found.0 _ found.1, Contains-from_in now _ found.2)
