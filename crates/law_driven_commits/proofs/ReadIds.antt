-- What a record names as read: a few ids, ascending, each of which its attempt has read.
use Rattle.std.proofs.Common.{◌≡◌, ◌≤◌, ◌-◌, ℕ, zero, suc, Bool, true, false, not, List, [], ◌∷◌, drop, length, refl, sym, subst, ◌∙◌, ◌⊎◌, inl, inr, arith}
use Rattle.std.specs.Prelude.{All, IsFalse, IsTrue, Some, filter, if◌then◌else◌, map}
use Rattle.std.specs.List.{fold}
use Rattle.std.proofs.lemmas.Bool.{and_from, and_parts, not-true, true≢false}
use Rattle.std.proofs.lemmas.List.{length-drop}
use Rattle.std.proofs.lemmas.List.Elements.{All-cons, All-nil}
use Rattle.aft_id.specs.declared.txn_id.TxnId.{TxnId}
use Rattle.aft_id.specs.TxnId.{IsUuid, id_lt, same_id, zero_id}
use Rattle.aft_records.specs.Limits.{IsTime}
use Rattle.aft_records.specs.Stored.{AreReads, ids_ascend, ids_ascend_after}
use Rattle.aft_model.specs.declared.read_set.ReadPair.{ReadPair}
use Rattle.aft_model.specs.Origins.{greatest_reads, most_reads, read_ids, with_id}
use Rattle.aft_model.proofs.Histories.{In}
use Rattle.aft_model.proofs.Ids.{id_lt-or, same_id-refl}
use Rattle.aft_model.proofs.Lists.{fold_kept, in_filter, in_map}

-- ---- they ascend

-- an id that another one is neither above nor the same as is below it
is_below : (id other : TxnId) → IsFalse (id_lt id other) → IsFalse (same_id id other) → IsTrue (id_lt other id)
is_below id other least differs = elim (id_lt-or other id least) [
  | inl below ↦ below
  | inr same ↦ absurd (true≢false (sym (subst (λ (i : TxnId). IsTrue (same_id id i)) (sym same) (same_id-refl id)) ∙ differs))
]

-- above another
placed_above : (low : TxnId) (ids : List TxnId) (id : TxnId) → IsTrue (id_lt low id) → IsTrue (ids_ascend_after (Some low) ids) → IsTrue (ids_ascend_after (Some low) (with_id ids id))
placed_above low [] id less up = and_from (id_lt low id) true less refl
placed_above low (other ∷ ids) id less up =
    let parts = and_parts (id_lt low other) (ids_ascend_after (Some other) ids) up in
    cases parts.0 parts.1 (λ more. placed_above other ids id more parts.1) (id_lt id other) (same_id id other) refl refl
  where
    cases : IsTrue (id_lt low other) → IsTrue (ids_ascend_after (Some other) ids) → (IsTrue (id_lt other id) → IsTrue (ids_ascend_after (Some other) (with_id ids id)))
        → (below same : Bool) → id_lt id other ≡ below → same_id id other ≡ same
        → IsTrue (ids_ascend_after (Some low) (if below then id ∷ other ∷ ids else if same then other ∷ ids else other ∷ with_id ids id))
    cases first rest more true same is also = and_from (id_lt low id) _ less (and_from (id_lt id other) (ids_ascend_after (Some other) ids) is rest)
    cases first rest more false true is also = up
    cases first rest more false false is also = and_from (id_lt low other) (ids_ascend_after (Some other) (with_id ids id)) first (more (is_below id other is also))

placed_ascends : (ids : List TxnId) (id : TxnId) → IsTrue (ids_ascend ids) → IsTrue (ids_ascend (with_id ids id))
placed_ascends [] id up = refl
placed_ascends (other ∷ ids) id up = cases (id_lt id other) (same_id id other) refl refl
  where
    cases : (below same : Bool) → id_lt id other ≡ below → same_id id other ≡ same → IsTrue (ids_ascend (if below then id ∷ other ∷ ids else if same then other ∷ ids else other ∷ with_id ids id))
    cases true same is also = and_from (id_lt id other) (ids_ascend_after (Some other) ids) is up
    cases false true is also = up
    cases false false is also = placed_above other ids id (is_below id other is also) up

rest_ascends : (id : TxnId) (ids : List TxnId) → IsTrue (ids_ascend (id ∷ ids)) → IsTrue (ids_ascend ids)
rest_ascends id [] up = refl
rest_ascends id (other ∷ ids) up = (and_parts (id_lt id other) (ids_ascend_after (Some other) ids) up).1

dropped_ascends : (n : ℕ) (ids : List TxnId) → IsTrue (ids_ascend ids) → IsTrue (ids_ascend (drop n ids))
dropped_ascends zero ids up = up
dropped_ascends (suc n) [] up = refl
dropped_ascends (suc n) (id ∷ ids) up = dropped_ascends n ids (rest_ascends id ids up)

-- ---- each was read

placed_in : (x : TxnId) (ids : List TxnId) (id : TxnId) → In x (with_id ids id) → In x ids ⊎ (x ≡ id)
placed_in x [] id (inl is) = inr is
placed_in x [] id (inr none) = absurd none
placed_in x (other ∷ ids) id among = cases (placed_in x ids id) (id_lt id other) (same_id id other) among
  where
    cases : (In x (with_id ids id) → In x ids ⊎ (x ≡ id)) → (below same : Bool) → In x (if below then id ∷ other ∷ ids else if same then other ∷ ids else other ∷ with_id ids id) → In x (other ∷ ids) ⊎ (x ≡ id)
    cases rest true same (inl is) = inr is
    cases rest true same (inr later) = inl later
    cases rest false true among = inl among
    cases rest false false (inl is) = inl (inl is)
    cases rest false false (inr later) = elim (rest later) [ inl was ↦ inl (inr was) | inr is ↦ inr is ]

all_placed_in : (x : TxnId) (before ids : List TxnId) → In x (fold with_id before ids) → In x before ⊎ In x ids
all_placed_in x before [] among = inl among
all_placed_in x before (id ∷ ids) among = elim (all_placed_in x (with_id before id) ids among) [
  | inl first ↦ elim (placed_in x before id first) [ inl was ↦ inl was | inr is ↦ inr (inl is) ]
  | inr later ↦ inr (inr later)
]

in_dropped : (x : TxnId) (n : ℕ) (ids : List TxnId) → In x (drop n ids) → In x ids
in_dropped x zero ids among = among
in_dropped x (suc n) [] among = absurd among
in_dropped x (suc n) (id ∷ ids) among = inr (in_dropped x n ids among)

-- a pair of a version that was read at this id
record Read (pairs : List ReadPair) (id : TxnId) : Type 0 where
  pair : ReadPair
  among : In pair pairs
  at : id ≡ pair.id
  real : IsFalse (same_id pair.id zero_id)

was_read : (pairs : List ReadPair) (id : TxnId) → In id (read_ids pairs) → Read pairs id
was_read pairs id among = elim (all_placed_in id [] (filter (λ i. not (same_id i zero_id)) (map (λ (pair : ReadPair). pair.id) pairs)) among) [
  | inl none ↦ absurd none
  | inr there ↦
      let kept = in_filter (λ (i : TxnId). not (same_id i zero_id)) id (map (λ (pair : ReadPair). pair.id) pairs) there in
      let of = in_map (λ (pair : ReadPair). pair.id) id pairs kept.0 in
      record { pair = of.0; among = of.1; at = of.2; real = subst (λ (i : TxnId). IsFalse (same_id i zero_id)) of.2 (not-true (same_id id zero_id) kept.1) }
]

-- ---- they are reads

all_of : (P : TxnId → Type 0) (ids : List TxnId) → ((id : TxnId) → In id ids → P id) → All P ids
all_of P [] each = All-nil P
all_of P (id ∷ ids) each = All-cons P id ids (each id (inl refl)) (all_of P ids (λ other among. each other (inr among)))

module _ (pairs : List ReadPair) (limits : (pair : ReadPair) → In pair pairs → IsFalse (same_id pair.id zero_id) → IsTime pair.id.time × IsUuid pair.id.uuid) where
  its_limits : (id : TxnId) → In id (greatest_reads pairs) → IsTime id.time × IsUuid id.uuid
  its_limits id among =
      let read = was_read pairs id (in_dropped id (length (read_ids pairs) - most_reads) (read_ids pairs) among) in
      subst (λ (i : TxnId). IsTime i.time × IsUuid i.uuid) (sym read.at) (limits read.pair read.among read.real)

  are_few : length (greatest_reads pairs) ≤ 8
  are_few = let left = length-drop (length (read_ids pairs) - most_reads) (read_ids pairs) in omega (arith, left)

  pub are_reads : AreReads (greatest_reads pairs)
  are_reads = record {
    few = are_few;
    timely = all_of (λ id. IsTime id.time) (greatest_reads pairs) (λ id among. (its_limits id among).0);
    ascending = dropped_ascends (length (read_ids pairs) - most_reads) (read_ids pairs) (fold_kept with_id (λ ids. IsTrue (ids_ascend ids)) placed_ascends [] (filter (λ id. not (same_id id zero_id)) (map (λ (pair : ReadPair). pair.id) pairs)) refl);
  }

  pub are_uuids : All (λ id. IsUuid id.uuid) (greatest_reads pairs)
  are_uuids = all_of (λ id. IsUuid id.uuid) (greatest_reads pairs) (λ id among. (its_limits id among).1)
