-- The ids that were read, as a set.
use Rattle.std.proofs.Common.{◌≡◌, ℕ, ◌+◌, ◌<◌, Bool, true, false, not, List, [], ◌∷◌, ◌++◌, refl, sym, ap, ◌∙◌, get_or, length, take}
use Rattle.std.specs.Prelude.{filter, if◌then◌else◌, map}
use Rattle.std.specs.BTreeSet.{insert_key}
use Rattle.std.specs.List.{fold}
use Rattle.std.specs.Ordering.{is_eq, is_lt, match_ordering}
use Rattle.std.specs.declared.cmp.Ordering.{Ordering}
use Rattle.std.specs.declared.cmp.Ordering.TheVariants.{Less, Equal, Greater}
use Rattle.std.proofs.lemmas.List.{take_more}
use Rattle.aft_id.specs.TxnId.{id_cmp, same_id, zero_id}
use Rattle.aft_id.specs.declared.txn_id.TxnId.{TxnId}
use Rattle.aft_meta.proofs.Order.{same_id-tied}
use Rattle.aft_model.specs.declared.read_set.ReadPair.{ReadPair}
use Rattle.aft_model.specs.Origins.{read_ids, with_id}

-- an id goes into a set in its place
pub id_placed : (ids : List TxnId) (id : TxnId) → insert_key id_cmp ids id ≡ with_id ids id
id_placed [] id = refl
id_placed (other ∷ ids) id = cases (id_cmp id other) refl (id_placed ids id)
  where
    cases : (o : Ordering) → id_cmp id other ≡ o → insert_key id_cmp ids id ≡ with_id ids id
        → match_ordering o (id ∷ other ∷ ids) (other ∷ ids) (other ∷ insert_key id_cmp ids id) ≡ (if is_lt o then id ∷ other ∷ ids else if same_id id other then other ∷ ids else other ∷ with_id ids id)
    cases Less is rest = refl
    cases Equal is rest = sym (ap (λ t. if t then other ∷ ids else other ∷ with_id ids id) (sym (same_id-tied id other) ∙ ap is_eq is))
    cases Greater is rest = ap (λ (those : List TxnId). other ∷ those) rest ∙ sym (ap (λ t. if t then other ∷ ids else other ∷ with_id ids id) (sym (same_id-tied id other) ∙ ap is_eq is))

abbrev ids_from : List TxnId → List ReadPair → List TxnId
ids_from before pairs = fold with_id before (filter (λ id. not (same_id id zero_id)) (map (λ (pair : ReadPair). pair.id) pairs))

ids-more : (before : List TxnId) (pairs : List ReadPair) (pair : ReadPair) → ids_from before (pairs ++ pair ∷ []) ≡ (if same_id pair.id zero_id then ids_from before pairs else with_id (ids_from before pairs) pair.id)
ids-more before [] pair = cases (same_id pair.id zero_id)
  where
    cases : (t : Bool) → fold with_id before (if not t then pair.id ∷ [] else []) ≡ (if t then before else with_id before pair.id)
    cases true = refl
    cases false = refl
ids-more before (x ∷ pairs) pair = cases (ids-more before pairs pair) (ids-more (with_id before x.id) pairs pair) (same_id x.id zero_id)
  where
    cases : (ids_from before (pairs ++ pair ∷ []) ≡ (if same_id pair.id zero_id then ids_from before pairs else with_id (ids_from before pairs) pair.id))
        → (ids_from (with_id before x.id) (pairs ++ pair ∷ []) ≡ (if same_id pair.id zero_id then ids_from (with_id before x.id) pairs else with_id (ids_from (with_id before x.id) pairs) pair.id))
        → (t : Bool) → fold with_id before (if not t then x.id ∷ filter (λ id. not (same_id id zero_id)) (map (λ (y : ReadPair). y.id) (pairs ++ pair ∷ [])) else filter (λ id. not (same_id id zero_id)) (map (λ (y : ReadPair). y.id) (pairs ++ pair ∷ [])))
        ≡ (if same_id pair.id zero_id then fold with_id before (if not t then x.id ∷ filter (λ id. not (same_id id zero_id)) (map (λ (y : ReadPair). y.id) pairs) else filter (λ id. not (same_id id zero_id)) (map (λ (y : ReadPair). y.id) pairs))
        else with_id (fold with_id before (if not t then x.id ∷ filter (λ id. not (same_id id zero_id)) (map (λ (y : ReadPair). y.id) pairs) else filter (λ id. not (same_id id zero_id)) (map (λ (y : ReadPair). y.id) pairs))) pair.id)
    cases without with true = without
    cases without with false = with

-- one pair more
pub ids_step : (pairs : List ReadPair) (i : ℕ) (pair : ReadPair) (before : List TxnId) → i < length pairs → pair ≡ get_or pairs i pair → before ≡ read_ids (take i pairs) → (if same_id pair.id zero_id then before else with_id before pair.id) ≡ read_ids (take (i + 1) pairs)
ids_step pairs i pair before within at is =
    ap (λ (b : List TxnId). if same_id pair.id zero_id then b else with_id b pair.id) is
    ∙ (sym (ids-more [] (take i pairs) pair) ∙ sym (ap read_ids (take_more pairs i pair within ∙ ap (λ (p : ReadPair). take i pairs ++ p ∷ []) (sym at))))

pub ids_new : (pairs : List ReadPair) (i : ℕ) (pair : ReadPair) (before after : List TxnId) → i < length pairs → pair ≡ get_or pairs i pair → before ≡ read_ids (take i pairs) → same_id pair.id zero_id ≡ false → after ≡ insert_key id_cmp before pair.id → after ≡ read_ids (take (i + 1) pairs)
ids_new pairs i pair before after within at is some placed =
    placed ∙ (id_placed before pair.id ∙ (sym (ap (λ t. if t then before else with_id before pair.id) some) ∙ ids_step pairs i pair before within at is))

pub ids_absent : (pairs : List ReadPair) (i : ℕ) (pair : ReadPair) (before : List TxnId) → i < length pairs → pair ≡ get_or pairs i pair → before ≡ read_ids (take i pairs) → same_id pair.id zero_id ≡ true → before ≡ read_ids (take (i + 1) pairs)
ids_absent pairs i pair before within at is none = sym (ap (λ t. if t then before else with_id before pair.id) none) ∙ ids_step pairs i pair before within at is
