-- Counts of ids.
use Rattle.std.proofs.Common.{◌≡◌, ℕ, ◌+◌, ◌-◌, ◌<◌, ◌≤◌, Bool, true, false, cond, List, [], ◌∷◌, ◌++◌, length, get_or, drop, drop-cons, Option, Some, None, refl, sym, ap, ◌∙◌, arith, suc, add-one, zero-add, eqb, ◌&&◌, ◌||◌}
use Rattle.std.specs.Prelude.{if◌then◌else◌, unwrap_or}
use Rattle.std.specs.Map.{lookup}
use Rattle.std.specs.Str.{bytes_eq}
use Rattle.std.specs.Cmp.Lexicographic.{nat_list_eq_equiv}
use Rattle.std.specs.Cmp.{nat_eq_equiv}
use Rattle.std.proofs.lemmas.List.Sums.{sum_by-append, sum_by-cons}
use Rattle.aft_id.specs.TxnId.{same_id}
use Rattle.aft_records.proofs.CommitOrder.{same_id-refl}
use Rattle.aft_model.specs.Attempts.{is_read, with_read}
use Rattle.aft_model.specs.ReadSet.{read_at}
use Rattle.aft_id.specs.declared.txn_id.TxnId.{TxnId}
use Rattle.aft_model.specs.declared.read_set.ReadPair.{ReadPair}
use Rattle.aft_txn.specs.Fields.{AreNeeded, pairs_at}

-- an id has no count of 0 after a change that leaves none
pub needed_after : (pins pins' : List (TxnId × ℕ)) (id : TxnId) (count : Option ℕ) → AreNeeded pins → (count ≡ Some 0 → ⊥) → ((q : TxnId) → lookup (same_id q) pins' ≡ cond (same_id id q) count (lookup (same_id q) pins)) → AreNeeded pins'
needed_after pins pins' id count needed positive changed = record { none = λ q zero. cases q (same_id id q) (sym (changed q) ∙ zero) }
  where
    cases : (q : TxnId) (t : Bool) → cond t count (lookup (same_id q) pins) ≡ Some 0 → ⊥
    cases q true zero = positive zero
    cases q false zero = needed.none q zero

module _ (pairs : List ReadPair) (i : ℕ) (pair : ReadPair) (within : i < length pairs) (at : pair ≡ get_or pairs i pair) where
  here : drop i pairs ≡ pair ∷ drop (i + 1) pairs
  here = drop-cons pairs i pair within ∙ ap (λ (p : ReadPair). p ∷ drop (suc i) pairs) (sym at) ∙ ap (λ n. pair ∷ drop n pairs) (sym (add-one i))

  -- what is left counts the pair there, and those behind it
  pub pairs_at-drop : (q : TxnId) → pairs_at q (drop i pairs) ≡ (if same_id q pair.id then 1 else 0) + pairs_at q (drop (i + 1) pairs)
  pairs_at-drop q = ap (pairs_at q) here ∙ sum_by-cons (λ (p : ReadPair). cond (same_id q p.id) 1 0) pair (drop (i + 1) pairs)

same_id-symm : (a b : TxnId) → same_id a b ≡ same_id b a
same_id-symm a b =
    ap (λ t. t && bytes_eq a.uuid b.uuid) (nat_eq_equiv.symm a.time b.time)
    ∙ ap (λ t. eqb b.time a.time && t) (nat_list_eq_equiv.symm a.uuid b.uuid)

-- one more read counts its id
pairs_at-push : (q : TxnId) (pairs : List ReadPair) (pair : ReadPair) → pairs_at q (pairs ++ pair ∷ []) ≡ pairs_at q pairs + (if same_id q pair.id then 1 else 0)
pairs_at-push q pairs pair =
    let each : ReadPair → ℕ = λ p. cond (same_id q p.id) 1 0 in
    sum_by-append each pairs (pair ∷ []) ∙ ap (λ n. pairs_at q pairs + n) (zero-add (each pair))

-- a count with one more, beside the reads with one more
pub counted_more : (q : TxnId) (pairs : List ReadPair) (pair : ReadPair) (before after : ℕ) → after ≡ (if same_id pair.id q then before + 1 else before) → after + pairs_at q pairs ≡ before + pairs_at q (pairs ++ pair ∷ [])
counted_more q pairs pair before after is =
    cases (same_id q pair.id) (is ∙ ap (λ t. if t then before + 1 else before) (same_id-symm pair.id q)) ∙ ap (λ n. before + n) (sym (pairs_at-push q pairs pair))
  where
    cases : (t : Bool) → after ≡ (if t then before + 1 else before) → after + pairs_at q pairs ≡ before + (pairs_at q pairs + (if t then 1 else 0))
    cases true is = omega (arith, is)
    cases false is = omega (arith, is)

-- an id that is counted once less, beside what is left
pub counted_less : (q : TxnId) (pairs : List ReadPair) (i : ℕ) (pair : ReadPair) (before after : ℕ) → i < length pairs → pair ≡ get_or pairs i pair
    → pairs_at q (drop i pairs) ≤ before → after ≡ (if same_id pair.id q then before - 1 else before)
    → (pairs_at q (drop (i + 1) pairs) ≤ after) × (after - pairs_at q (drop (i + 1) pairs) ≡ before - pairs_at q (drop i pairs))
counted_less q pairs i pair before after within at enough is =
    cases (same_id q pair.id) (pairs_at-drop pairs i pair within at q) (is ∙ ap (λ t. if t then before - 1 else before) (same_id-symm pair.id q))
  where
    cases : (t : Bool) → pairs_at q (drop i pairs) ≡ (if t then 1 else 0) + pairs_at q (drop (i + 1) pairs) → after ≡ (if t then before - 1 else before)
        → (pairs_at q (drop (i + 1) pairs) ≤ after) × (after - pairs_at q (drop (i + 1) pairs) ≡ before - pairs_at q (drop i pairs))
    cases true left is = (omega (arith, left, is, enough), omega (arith, left, is, enough))
    cases false left is = (omega (arith, left, is, enough), omega (arith, left, is, enough))

-- the id there is counted
pub counted_here : (pairs : List ReadPair) (i : ℕ) (pair : ReadPair) (count : ℕ) → i < length pairs → pair ≡ get_or pairs i pair → pairs_at pair.id (drop i pairs) ≤ count → 1 ≤ count
counted_here pairs i pair count within at enough =
    let one : pairs_at pair.id (drop i pairs) ≡ 1 + pairs_at pair.id (drop (i + 1) pairs) =
    pairs_at-drop pairs i pair within at pair.id ∙ ap (λ t. (if t then 1 else 0) + pairs_at pair.id (drop (i + 1) pairs)) (same_id-refl pair.id) in
    omega (arith, one, enough)

-- a key that isn't read, and one that is read at this id
pub with_read-new : (key : List ℕ) (id : TxnId) (pairs : List ReadPair) → read_at key pairs ≡ None → with_read (record { key = key; id = id }) pairs ≡ pairs ++ record { key = key; id = id } ∷ []
with_read-new key id pairs none = ap (λ t. if t then pairs else pairs ++ record { key = key; id = id } ∷ []) (isnt pairs none)
  where
    isnt : (pairs : List ReadPair) → read_at key pairs ≡ None → is_read (record { key = key; id = id }) pairs ≡ false
    isnt [] none = refl
    isnt (pair ∷ rest) none = cases (isnt rest) (bytes_eq key pair.key) none
      where
        cases : (read_at key rest ≡ None → is_read (record { key = key; id = id }) rest ≡ false) → (t : Bool) → (if t then Some pair.id else read_at key rest) ≡ None
            → ((t && same_id id pair.id) || is_read (record { key = key; id = id }) rest) ≡ false
        cases later true none = absurd cc
        cases later false none = later none

pub with_read-same : (key : List ℕ) (id : TxnId) (pairs : List ReadPair) → read_at key pairs ≡ Some id → with_read (record { key = key; id = id }) pairs ≡ pairs
with_read-same key id pairs some = ap (λ t. if t then pairs else pairs ++ record { key = key; id = id } ∷ []) (is pairs some)
  where
    is : (pairs : List ReadPair) → read_at key pairs ≡ Some id → is_read (record { key = key; id = id }) pairs ≡ true
    is [] some = absurd cc
    is (pair ∷ rest) some = cases (is rest) (bytes_eq key pair.key) some
      where
        cases : (read_at key rest ≡ Some id → is_read (record { key = key; id = id }) rest ≡ true) → (t : Bool) → (if t then Some pair.id else read_at key rest) ≡ Some id
            → ((t && same_id id pair.id) || is_read (record { key = key; id = id }) rest) ≡ true
        cases later true some =
            let it : pair.id ≡ id = ap (λ o. unwrap_or o id) some in
            ap (λ i. same_id id i || is_read (record { key = key; id = id }) rest) it ∙ ap (λ t. t || is_read (record { key = key; id = id }) rest) (same_id-refl id)
        cases later false some = later some

-- a count above 0 isn't 0
pub positive : (n : ℕ) → 0 < n → Some n ≡ Some 0 → ⊥
positive n above is = let none : n ≡ 0 = ap (λ o. unwrap_or o 0) is in omega (arith, none, above)
