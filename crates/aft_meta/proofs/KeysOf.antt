-- The commit of an id among commits that ascend, and who wrote a key.
use Rattle.std.proofs.Common.{◌≡◌, ℕ, Bool, true, false, ◌&&◌, ◌||◌, not, List, [], ◌∷◌, refl, sym, ap, subst, ◌∙◌, inl, inr}
use Rattle.std.specs.Prelude.{IsTrue, IsFalse, Option, Some, None, filter, if◌then◌else◌}
use Rattle.std.specs.List.{list_all, list_any}
use Rattle.std.proofs.lemmas.Bool.{and_parts, true≢false, false≢true, false_from_ne_true}
use Rattle.aft_id.specs.TxnId.{id_lt, same_id}
use Rattle.aft_id.specs.declared.txn_id.TxnId.{TxnId}
use Rattle.aft_records.proofs.CommitOrder.{same_id-refl, id_lt-irrefl, id_lt-or}
use Rattle.aft_records.specs.Commits.{greatest, ids_ascend, ids_of, is_listed, latest, versions, with_id_order}
use Rattle.aft_records.specs.Superseded.{is_superseded, wrote}
use Rattle.aft_records.specs.declared.stored.Commit.{Commit}
use Rattle.aft_meta.specs.Index.{exceeds, ids_under, is_some_id, is_version, stands_under}
use Rattle.aft_meta.specs.KnownCommits.{keys_at}
use Rattle.aft_meta.proofs.Order.{above-greatest, fold_some, greatest_same, listed_within, same_ids}

pub or_no : (b : Bool) → b || false ≡ b
or_no true = refl
or_no false = refl

pub and_yes : (b : Bool) → b && true ≡ b
and_yes true = refl
and_yes false = refl

-- ---- the commit of an id

-- an id isn't that of what is above its own
pub differs : (id a b : TxnId) → IsTrue (same_id id a) → IsTrue (id_lt a b) → IsFalse (same_id id b)
differs id a b same less = false_from_ne_true (same_id id b) (λ again.
    true≢false (sym (subst (λ (i : TxnId). IsTrue (id_lt a i)) (sym (same_ids id b again) ∙ same_ids id a same) less) ∙ id_lt-irrefl a))

none_apart : (id a : TxnId) (test : Commit → Bool) (known : List Commit) → IsTrue (same_id id a) → IsTrue (list_all (id_lt a) (ids_of known)) → list_any (λ (d : Commit). same_id id d.id && test d) known ≡ false
none_apart id a test [] same below = refl
none_apart id a test (d ∷ known) same below =
    let parts = and_parts (id_lt a d.id) (list_all (id_lt a) (ids_of known)) below in
    rw (differs id a d.id same parts.0) (none_apart id a test known same parts.1)

-- a test of a commit, if it is known
abbrev pub tested : TxnId → (Commit → Bool) → Option (List (List ℕ)) → Bool
tested id test None = false
tested id test (Some keys) = test (record { id = id; keys = keys })

-- whether the commit of an id passes is told by its keys
pub any_at : (id : TxnId) (test : Commit → Bool) (known : List Commit) → IsTrue (ids_ascend known) → list_any (λ (c : Commit). same_id id c.id && test c) known ≡ tested id test (keys_at id known)
any_at id test [] up = refl
any_at id test (c ∷ known) up = cases (same_id id c.id) refl (any_at id test known parts.1)
  where
    parts : IsTrue (list_all (id_lt c.id) (ids_of known)) × IsTrue (ids_ascend known)
    parts = and_parts (list_all (id_lt c.id) (ids_of known)) (ids_ascend known) up

    cases : (t : Bool) → same_id id c.id ≡ t → list_any (λ (d : Commit). same_id id d.id && test d) known ≡ tested id test (keys_at id known)
        → (t && test c) || list_any (λ (d : Commit). same_id id d.id && test d) known ≡ tested id test (if t then Some c.keys else keys_at id known)
    cases true same rest = rw (none_apart id c.id test known same parts.0) (or_no (test c) ∙ ap (λ (i : TxnId). test (record { id = i; keys = c.keys })) (sym (same_ids id c.id same)))
    cases false other rest = rest

-- ---- who wrote a key

-- the versions of a key are the ids whose commits wrote it
pub listed_version : (key : List ℕ) (v : TxnId) (known : List Commit) → is_listed v (versions key known) ≡ is_version key v known
listed_version key v [] = refl
listed_version key v (c ∷ known) = cases (wrote key c) (listed_version key v known)
  where
    none : (b : Bool) → b && false ≡ false
    none true = refl
    none false = refl

    cases : (t : Bool) → is_listed v (versions key known) ≡ is_version key v known
        → is_listed v (ids_of (if t then c ∷ filter (wrote key) known else filter (wrote key) known)) ≡ (same_id v c.id && t) || is_version key v known
    cases true rest = ap (λ b. b || is_listed v (versions key known)) (sym (and_yes (same_id v c.id))) ∙ ap (λ b. (same_id v c.id && true) || b) rest
    cases false rest = rest ∙ ap (λ b. b || is_version key v known) (sym (none (same_id v c.id)))

-- where what stands under the keys is who wrote them, the greatest under a key is its newest
pub newest_under : (known : List Commit) (writers : List (List ℕ × List TxnId)) → ((k : List ℕ) (v : TxnId) → stands_under k v writers ≡ is_version k v known) → (key : List ℕ) → greatest (ids_under key writers) ≡ latest key known
newest_under known writers written key = greatest_same (ids_under key writers) (versions key known) (λ v. written key v ∙ sym (listed_version key v known))

over_versions : (key : List ℕ) (id : TxnId) (known : List Commit) → list_any (λ (d : Commit). wrote key d && id_lt id d.id) known ≡ list_any (id_lt id) (versions key known)
over_versions key id [] = refl
over_versions key id (c ∷ known) = cases (wrote key c) (over_versions key id known)
  where
    cases : (t : Bool) → list_any (λ (d : Commit). wrote key d && id_lt id d.id) known ≡ list_any (id_lt id) (versions key known)
        → (t && id_lt id c.id) || list_any (λ (d : Commit). wrote key d && id_lt id d.id) known ≡ list_any (id_lt id) (ids_of (if t then c ∷ filter (wrote key) known else filter (wrote key) known))
    cases true rest = ap (λ b. id_lt id c.id || b) rest
    cases false rest = rest

-- a key was written above an id where its newest is above it
pub over-latest : (key : List ℕ) (id : TxnId) (known : List Commit) → list_any (λ (d : Commit). wrote key d && id_lt id d.id) known ≡ exceeds id (latest key known)
over-latest key id known = over_versions key id known ∙ above-greatest id (versions key known)

pub all_same : {A : Type 0} (f g : A → Bool) → ((x : A) → f x ≡ g x) → (xs : List A) → list_all f xs ≡ list_all g xs
all_same f g same [] = refl
all_same f g same (x ∷ xs) = ap (λ b. b && list_all f xs) (same x) ∙ ap (λ b. g x && b) (all_same f g same xs)

-- a commit is superseded where the newest of each of its keys is above it
pub superseded-latest : (c : Commit) (known : List Commit) → is_superseded c known ≡ list_all (λ key. exceeds c.id (latest key known)) c.keys
superseded-latest c known = all_same (λ key. list_any (λ (d : Commit). wrote key d && id_lt c.id d.id) known) (λ key. exceeds c.id (latest key known)) (λ key. over-latest key c.id known) c.keys

pub some_greatest : (ids : List TxnId) (v : TxnId) → IsTrue (is_listed v ids) → greatest ids ≡ None → ⊥
some_greatest [] v among none = false≢true among
some_greatest (x ∷ ids) v among none = let some = fold_some x ids in apart (sym some.1 ∙ none)
  where
    apart : {g : TxnId} → Some g ≡ None → ⊥
    apart e = cc

-- a version isn't the newest where the newest is above it
pub standing : (key : List ℕ) (id : TxnId) (known : List Commit) → IsTrue (is_version key id known) → not (is_some_id id (latest key known)) ≡ exceeds id (latest key known)
standing key id known version = cases (latest key known) refl
  where
    among : IsTrue (is_listed id (versions key known))
    among = listed_version key id known ∙ version

    cases : (o : Option TxnId) → latest key known ≡ o → not (is_some_id id o) ≡ exceeds id o
    cases None is = absurd (some_greatest (versions key known) id among is)
    cases (Some g) is = elim (id_lt-or id g (listed_within (versions key known) id g among is)) [
      | inl less ↦ ap not (false_from_ne_true (same_id id g) (λ same. true≢false (sym (subst (λ (i : TxnId). IsTrue (id_lt id i)) (sym (same_ids id g same)) less) ∙ id_lt-irrefl id))) ∙ sym less
      | inr same ↦ ap not (subst (λ (i : TxnId). IsTrue (same_id id i)) same (same_id-refl id)) ∙ sym (subst (λ (i : TxnId). IsFalse (id_lt id i)) same (id_lt-irrefl id))
    ]

-- ---- one commit more, and one less

or_turned : (a b : Bool) → a || b ≡ b || a
or_turned true true = refl
or_turned true false = refl
or_turned false true = refl
or_turned false false = refl

or_assoc : (a b c : Bool) → a || (b || c) ≡ (a || b) || c
or_assoc true b c = refl
or_assoc false b c = refl

pub any_placed : (test : Commit → Bool) (known : List Commit) (c : Commit) → list_any test (with_id_order known c) ≡ list_any test known || test c
any_placed test [] c = or_no (test c)
any_placed test (d ∷ known) c = cases (id_lt c.id d.id) (any_placed test known c)
  where
    cases : (t : Bool) → list_any test (with_id_order known c) ≡ list_any test known || test c → list_any test (if t then c ∷ d ∷ known else d ∷ with_id_order known c) ≡ (test d || list_any test known) || test c
    cases true rest = or_turned (test c) (test d || list_any test known)
    cases false rest = ap (λ b. test d || b) rest ∙ or_assoc (test d) (list_any test known) (test c)

pub any_gone : (id : TxnId) (test : Commit → Bool) (known : List Commit) → list_any (λ (c : Commit). same_id id c.id && test c) (filter (λ (c : Commit). not (same_id c.id id)) known) ≡ false
any_gone id test [] = refl
any_gone id test (c ∷ known) = cases (same_id c.id id) refl (any_gone id test known)
  where
    cases : (t : Bool) → same_id c.id id ≡ t → list_any (λ (d : Commit). same_id id d.id && test d) (filter (λ (d : Commit). not (same_id d.id id)) known) ≡ false
        → list_any (λ (d : Commit). same_id id d.id && test d) (if not t then c ∷ filter (λ (d : Commit). not (same_id d.id id)) known else filter (λ (d : Commit). not (same_id d.id id)) known) ≡ false
    cases true same rest = rest
    cases false other rest = ap (λ b. (b && test c) || list_any (λ (d : Commit). same_id id d.id && test d) (filter (λ (d : Commit). not (same_id d.id id)) known)) (turned (same_id id c.id) refl other) ∙ rest
      where
        turned : (b : Bool) → same_id id c.id ≡ b → IsFalse (same_id c.id id) → same_id id c.id ≡ false
        turned true is apart = absurd (true≢false (sym (subst (λ (i : TxnId). IsTrue (same_id i id)) (same_ids id c.id is) (same_id-refl id)) ∙ apart))
        turned false is apart = is

pub any_stays : (id v : TxnId) (test : Commit → Bool) (known : List Commit) → IsFalse (same_id v id) → list_any (λ (c : Commit). same_id v c.id && test c) (filter (λ (c : Commit). not (same_id c.id id)) known) ≡ list_any (λ (c : Commit). same_id v c.id && test c) known
any_stays id v test [] other = refl
any_stays id v test (c ∷ known) other = cases (same_id c.id id) refl (any_stays id v test known other)
  where
    apart : IsTrue (same_id c.id id) → IsFalse (same_id v c.id)
    apart same = subst (λ (i : TxnId). IsFalse (same_id v i)) (sym (same_ids c.id id same)) other

    cases : (t : Bool) → same_id c.id id ≡ t → list_any (λ (d : Commit). same_id v d.id && test d) (filter (λ (d : Commit). not (same_id d.id id)) known) ≡ list_any (λ (d : Commit). same_id v d.id && test d) known
        → list_any (λ (d : Commit). same_id v d.id && test d) (if not t then c ∷ filter (λ (d : Commit). not (same_id d.id id)) known else filter (λ (d : Commit). not (same_id d.id id)) known) ≡ (same_id v c.id && test c) || list_any (λ (d : Commit). same_id v d.id && test d) known
    cases true same rest = rest ∙ ap (λ b. (b && test c) || list_any (λ (d : Commit). same_id v d.id && test d) known) (sym (apart same))
    cases false differs rest = ap (λ b. (same_id v c.id && test c) || b) rest

-- who wrote a key, less one id
pub version_less : (key : List ℕ) (id v : TxnId) (known : List Commit) → is_version key v (filter (λ (c : Commit). not (same_id c.id id)) known) ≡ is_version key v known && not (same_id v id)
version_less key id v known = cases (same_id v id) refl
  where
    none : (b : Bool) → b && false ≡ false
    none true = refl
    none false = refl

    cases : (t : Bool) → same_id v id ≡ t → is_version key v (filter (λ (c : Commit). not (same_id c.id id)) known) ≡ is_version key v known && not t
    cases true same = subst (λ (i : TxnId). is_version key i (filter (λ (c : Commit). not (same_id c.id id)) known) ≡ false) (sym (same_ids v id same)) (any_gone id (wrote key) known) ∙ sym (none (is_version key v known))
    cases false other = any_stays id v (wrote key) known other ∙ sym (and_yes (is_version key v known))
