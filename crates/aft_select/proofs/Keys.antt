-- The keys of a known commit, where each id is known once.
use Rattle.std.proofs.Common.{◌≡◌, ℕ, Bool, true, false, ◌&&◌, ◌||◌, not, ◌<◌, ◌+◌, suc, length, get_or, drop, drop-cons, add-one, List, [], ◌∷◌, ◌++◌, refl, sym, ap, subst, ◌∙◌, inl, inr}
use Rattle.std.specs.Prelude.{IsTrue, IsFalse, Option, Some, None, is_some, filter, if◌then◌else◌}
use Rattle.std.specs.List.{flat_map, list_all}
use Rattle.std.specs.Str.{bytes_eq}
use Rattle.std.proofs.lemmas.Bool.{and_parts, true≢false, false_from_ne_true}
use Rattle.std.proofs.lemmas.List.Folds.{flat_map-map}
use Rattle.aft_id.specs.TxnId.{id_lt, same_id}
use Rattle.aft_id.specs.declared.txn_id.TxnId.{TxnId}
use Rattle.aft_records.specs.Commits.{ids_ascend, ids_of, versions}
use Rattle.aft_records.specs.Superseded.{wrote}
use Rattle.aft_records.specs.declared.stored.Commit.{Commit}
use Rattle.aft_model.proofs.Histories.{In, all_at}
use Rattle.aft_model.proofs.Lists.{in_filter, map_in}
use Rattle.aft_model.proofs.Ids.{same_ids, same_id-refl, id_lt-irrefl}
use Rattle.aft_model.proofs.Sights.{same_bytes}
use Rattle.aft_model.specs.Attempts.{is_read}
use Rattle.aft_model.specs.Choice.{below_of, blockers, first_below, is_not_blocked, is_read_below}
use Rattle.aft_model.specs.declared.choice.Blocked.{Blocked}
use Rattle.aft_model.specs.ReadSet.{HasEachKeyOnce, read_at}
use Rattle.aft_model.specs.declared.read_set.ReadPair.{ReadPair}
use Rattle.aft_meta.specs.KnownCommits.{keys_at}
use Rattle.aft_select.specs.Choosing.{below, blocked_at, blocked_by, is_at, read_below}

-- ---- each id is known once

-- an id that is below others isn't theirs
apart : (id : TxnId) (c : Commit) (known : List Commit) → IsTrue (same_id id c.id) → IsTrue (list_all (id_lt c.id) (ids_of known)) → (d : Commit) → In d known → IsFalse (same_id id d.id)
apart id c known same below d among = false_from_ne_true (same_id id d.id) (λ again.
    let less : IsTrue (id_lt c.id d.id) = all_at (id_lt c.id) d.id (ids_of known) (map_in (λ (e : Commit). e.id) d known among) below in
    let is : c.id ≡ d.id = sym (same_ids id c.id same) ∙ same_ids id d.id again in
    true≢false (sym (subst (λ (i : TxnId). IsTrue (id_lt c.id i)) (sym is) less) ∙ id_lt-irrefl c.id))

all_apart : (id : TxnId) (test : Commit → Bool) (known : List Commit) → ((d : Commit) → In d known → IsFalse (same_id id d.id)) → list_all (λ (d : Commit). not (same_id id d.id) || test d) known ≡ true
all_apart id test [] others = refl
all_apart id test (d ∷ known) others = rw (others d (inl refl)) (all_apart id test known (λ e among. others e (inr among)))

and_yes : (b : Bool) → b && true ≡ b
and_yes true = refl
and_yes false = refl

-- whether none of the keys of a commit was read below it, if it is known
abbrev pub none_below_in : TxnId → List ReadPair → Option (List (List ℕ)) → Bool
none_below_in id reads None = true
none_below_in id reads (Some keys) = list_all (λ key. not (is_read_below key id reads)) keys

pub is_not_blocked-keys : (id : TxnId) (reads : List ReadPair) (known : List Commit) → IsTrue (ids_ascend known) → is_not_blocked id reads known ≡ none_below_in id reads (keys_at id known)
is_not_blocked-keys id reads [] up = refl
is_not_blocked-keys id reads (c ∷ known) up = cases (same_id id c.id) refl (is_not_blocked-keys id reads known parts.1)
  where
    parts : IsTrue (list_all (id_lt c.id) (ids_of known)) × IsTrue (ids_ascend known)
    parts = and_parts (list_all (id_lt c.id) (ids_of known)) (ids_ascend known) up

    cases : (t : Bool) → same_id id c.id ≡ t → is_not_blocked id reads known ≡ none_below_in id reads (keys_at id known)
        → (not t || list_all (λ key. not (is_read_below key id reads)) c.keys) && is_not_blocked id reads known ≡ none_below_in id reads (if t then Some c.keys else keys_at id known)
    cases true same rest = rw (all_apart id (λ (d : Commit). list_all (λ key. not (is_read_below key id reads)) d.keys) known (apart id c known same parts.0)) (and_yes _)
    cases false other rest = rest

pub keys_at_known : (c : Commit) (known : List Commit) → IsTrue (ids_ascend known) → In c known → keys_at c.id known ≡ Some c.keys
keys_at_known c [] up among = absurd among
keys_at_known c (d ∷ known) up (inl here) = ap (λ t. if t then Some d.keys else keys_at c.id known) (subst (λ (e : Commit). IsTrue (same_id c.id e.id)) here (same_id-refl c.id)) ∙ ap (λ (e : Commit). Some e.keys) (sym here)
keys_at_known c (d ∷ known) up (inr later) =
    let parts = and_parts (list_all (id_lt d.id) (ids_of known)) (ids_ascend known) up in
    let other : IsFalse (same_id d.id c.id) = apart d.id d known (same_id-refl d.id) parts.0 c later in
    let differs : IsFalse (same_id c.id d.id) = false_from_ne_true (same_id c.id d.id) (λ same. true≢false (sym (subst (λ (i : TxnId). IsTrue (same_id d.id i)) (sym (same_ids c.id d.id same)) (same_id-refl d.id)) ∙ other)) in
    ap (λ t. if t then Some d.keys else keys_at c.id known) differs ∙ keys_at_known c known parts.1 later

-- ---- blockers

flat_map_same : {A B : Type 0} (f g : A → List B) (xs : List A) → ((x : A) → In x xs → f x ≡ g x) → flat_map f xs ≡ flat_map g xs
flat_map_same f g [] same = refl
flat_map_same f g (x ∷ xs) same = ap (λ z. z ++ flat_map f xs) (same x (inl refl)) ∙ ap (λ z. g x ++ z) (flat_map_same f g xs (λ y among. same y (inr among)))

pub blockers-versions : (key : List ℕ) (reads : List ReadPair) (known : List Commit) → IsTrue (ids_ascend known) → flat_map (λ id. blocked_at id reads known) (versions key known) ≡ blockers key reads known
blockers-versions key reads known up =
    flat_map-map (λ id. blocked_at id reads known) (λ (c : Commit). c.id) (filter (wrote key) known)
    ∙ flat_map_same (λ (c : Commit). blocked_at c.id reads known) (λ c. first_below c.id reads c.keys) (filter (wrote key) known)
    (λ c among. ap (blocked_by c.id reads) (keys_at_known c known up (in_filter (wrote key) c known among).0))

-- ---- reads, where each key stands once

-- a key that wasn't read wasn't read below an id
unread_below : (key : List ℕ) (id : TxnId) (reads : List ReadPair) → read_at key reads ≡ None → read_below key id reads ≡ None
unread_below key id [] none = refl
unread_below key id (pair ∷ reads) none = cases (bytes_eq key pair.key) none (unread_below key id reads)
  where
    cases : (s : Bool) → (if s then Some pair.id else read_at key reads) ≡ None → (read_at key reads ≡ None → read_below key id reads ≡ None) → (if s && id_lt pair.id id then Some pair.id else read_below key id reads) ≡ None
    cases true none rest = cc
    cases false none rest = rest none

pub read_below-at : (key : List ℕ) (id : TxnId) (reads : List ReadPair) → HasEachKeyOnce reads → read_below key id reads ≡ below id (read_at key reads)
read_below-at key id [] once = refl
read_below-at key id (pair ∷ reads) once = cases (bytes_eq key pair.key) (id_lt pair.id id) refl refl (read_below-at key id reads once.1)
  where
    cases : (s t : Bool) → bytes_eq key pair.key ≡ s → id_lt pair.id id ≡ t → read_below key id reads ≡ below id (read_at key reads)
        → (if s && t then Some pair.id else read_below key id reads) ≡ below id (if s then Some pair.id else read_at key reads)
    cases true true same less rest = sym (ap (λ t. if t then Some pair.id else None) less)
    cases true false same less rest = unread_below key id reads (subst (λ (k : List ℕ). read_at k reads ≡ None) (sym (same_bytes key pair.key same)) once.0) ∙ sym (ap (λ t. if t then Some pair.id else None) less)
    cases false t other less rest = rest

-- a key that wasn't read wasn't read at an id
unread : (key : List ℕ) (id : TxnId) (reads : List ReadPair) → read_at key reads ≡ None → is_read (record { key = key; id = id }) reads ≡ false
unread key id [] none = refl
unread key id (pair ∷ reads) none = cases (bytes_eq key pair.key) none (unread key id reads)
  where
    cases : (s : Bool) → (if s then Some pair.id else read_at key reads) ≡ None → (read_at key reads ≡ None → is_read (record { key = key; id = id }) reads ≡ false) → (s && same_id id pair.id) || is_read (record { key = key; id = id }) reads ≡ false
    cases true none rest = absurd cc
    cases false none rest = rest none

pub is_read-at : (key : List ℕ) (id : TxnId) (reads : List ReadPair) → HasEachKeyOnce reads → is_read (record { key = key; id = id }) reads ≡ is_at id (read_at key reads)
is_read-at key id [] once = refl
is_read-at key id (pair ∷ reads) once = cases (bytes_eq key pair.key) (same_id id pair.id) refl refl (is_read-at key id reads once.1)
  where
    cases : (s t : Bool) → bytes_eq key pair.key ≡ s → same_id id pair.id ≡ t → is_read (record { key = key; id = id }) reads ≡ is_at id (read_at key reads)
        → (s && t) || is_read (record { key = key; id = id }) reads ≡ is_at id (if s then Some pair.id else read_at key reads)
    cases true true same here rest = sym here
    cases true false same here rest = unread key id reads (subst (λ (k : List ℕ). read_at k reads ≡ None) (sym (same_bytes key pair.key same)) once.0) ∙ sym here
    cases false t other here rest = rest

-- ---- reads below an id

pub is_read_below-read : (key : List ℕ) (id : TxnId) (reads : List ReadPair) → is_read_below key id reads ≡ is_some (read_below key id reads)
is_read_below-read key id [] = refl
is_read_below-read key id (pair ∷ reads) = cases (bytes_eq key pair.key && id_lt pair.id id) (is_read_below-read key id reads)
  where
    cases : (t : Bool) → is_read_below key id reads ≡ is_some (read_below key id reads) → t || is_read_below key id reads ≡ is_some (if t then Some pair.id else read_below key id reads)
    cases true rest = refl
    cases false rest = rest

-- a read id as a blocker, or else what comes otherwise
abbrev pub blocked_or : TxnId → List ℕ → Option TxnId → List Blocked → List Blocked
blocked_or id key None otherwise = otherwise
blocked_or id key (Some read) otherwise = record { id = id; key = key; read = read } ∷ []

below_of-read : (id : TxnId) (key : List ℕ) (reads : List ReadPair) (otherwise : List Blocked) → below_of id key reads otherwise ≡ blocked_or id key (read_below key id reads) otherwise
below_of-read id key [] otherwise = refl
below_of-read id key (pair ∷ reads) otherwise = cases (bytes_eq key pair.key && id_lt pair.id id) (below_of-read id key reads otherwise)
  where
    cases : (t : Bool) → below_of id key reads otherwise ≡ blocked_or id key (read_below key id reads) otherwise
        → (if t then record { id = id; key = key; read = pair.id } ∷ [] else below_of id key reads otherwise) ≡ blocked_or id key (if t then Some pair.id else read_below key id reads) otherwise
    cases true rest = refl
    cases false rest = rest

-- what blocks the keys from a place on is what blocks the key there, or else what blocks those behind it
pub first_below-drop : (id : TxnId) (reads : List ReadPair) (keys : List (List ℕ)) (i : ℕ) (key : List ℕ) → i < length keys → key ≡ get_or keys i key
    → first_below id reads (drop i keys) ≡ blocked_or id key (read_below key id reads) (first_below id reads (drop (i + 1) keys))
first_below-drop id reads keys i key h e = rw (drop-cons keys i key h, ← e, add-one) (below_of-read id key reads (first_below id reads (drop (suc i) keys)))
