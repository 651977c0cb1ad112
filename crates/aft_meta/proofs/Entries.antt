-- Entries of the index as commits.
use Rattle.std.proofs.Common.{◌≡◌, ℕ, Bool, true, false, cond, ◌||◌, not, List, [], ◌∷◌, refl, sym, ap, ◌∙◌}
use Rattle.std.specs.Prelude.{IsTrue, IsFalse, Some, is_some, filter, if◌then◌else◌}
use Rattle.std.specs.List.{list_all}
use Rattle.std.specs.BTreeMap.{insert_entry}
use Rattle.std.specs.Map.{keys_of, lookup, remove_entry, set_value}
use Rattle.std.specs.Option.{option_map}
use Rattle.std.specs.Ordering.{is_eq, is_lt, match_ordering}
use Rattle.std.specs.declared.cmp.Ordering.{Ordering}
use Rattle.std.specs.declared.cmp.Ordering.TheVariants.{Less, Equal, Greater}
use Rattle.std.proofs.lemmas.Bool.{and_parts, or_parts, true≢false}
use Rattle.aft_id.specs.TxnId.{id_cmp, id_lt, same_id}
use Rattle.aft_id.specs.declared.txn_id.TxnId.{TxnId}
use Rattle.aft_records.specs.Commits.{has_id, ids_ascend, ids_of, with_id_order}
use Rattle.aft_records.specs.declared.stored.Commit.{Commit}
use Rattle.aft_meta.specs.Index.{commit_of, commits_of, known_at}
use Rattle.aft_meta.specs.KnownCommits.{keys_at}
use Rattle.aft_meta.specs.declared.known.KnownCommit.{KnownCommit}
use Rattle.aft_meta.proofs.KeysOf.{differs}
use Rattle.aft_meta.proofs.Order.{same_id-sym, same_id-tied}

pub keys_at-known : (id : TxnId) (entries : List (TxnId × KnownCommit)) → keys_at id (commits_of entries) ≡ option_map (λ (k : KnownCommit). k.keys) (known_at id entries)
keys_at-known id [] = refl
keys_at-known id (e ∷ entries) = ap (λ t. if t then Some e.1.keys else keys_at id (commits_of entries)) (sym (same_id-tied id e.0)) ∙ cases (is_eq (id_cmp id e.0)) (keys_at-known id entries)
  where
    cases : (t : Bool) → keys_at id (commits_of entries) ≡ option_map (λ (k : KnownCommit). k.keys) (known_at id entries)
        → (if t then Some e.1.keys else keys_at id (commits_of entries)) ≡ option_map (λ (k : KnownCommit). k.keys) (cond t (Some e.1) (known_at id entries))
    cases true rest = refl
    cases false rest = rest

pub has_id-known : (id : TxnId) (entries : List (TxnId × KnownCommit)) → has_id id (commits_of entries) ≡ is_some (known_at id entries)
has_id-known id [] = refl
has_id-known id (e ∷ entries) = ap (λ t. t || has_id id (commits_of entries)) (sym (same_id-tied id e.0)) ∙ cases (is_eq (id_cmp id e.0)) (has_id-known id entries)
  where
    cases : (t : Bool) → has_id id (commits_of entries) ≡ is_some (known_at id entries) → t || has_id id (commits_of entries) ≡ is_some (cond t (Some e.1) (known_at id entries))
    cases true rest = refl
    cases false rest = rest

pub ids_of-keys : (entries : List (TxnId × KnownCommit)) → keys_of entries ≡ ids_of (commits_of entries)
ids_of-keys [] = refl
ids_of-keys (e ∷ entries) = ap (λ z. e.0 ∷ z) (ids_of-keys entries)

-- a new entry is a commit in its place
pub entry_placed : (entries : List (TxnId × KnownCommit)) (id : TxnId) (known : KnownCommit) → IsFalse (has_id id (commits_of entries)) → commits_of (insert_entry id_cmp entries id known) ≡ with_id_order (commits_of entries) (commit_of (id, known))
entry_placed [] id known new = refl
entry_placed (e ∷ entries) id known new = cases (id_cmp id e.0) refl (entry_placed entries id known parts.1)
  where
    parts : IsFalse (same_id id e.0) × IsFalse (has_id id (commits_of entries))
    parts = or_parts (same_id id e.0) (has_id id (commits_of entries)) new

    cases : (o : Ordering) → id_cmp id e.0 ≡ o → commits_of (insert_entry id_cmp entries id known) ≡ with_id_order (commits_of entries) (commit_of (id, known))
        → commits_of (match_ordering o ((id, known) ∷ e ∷ entries) ((e.0, known) ∷ entries) (e ∷ insert_entry id_cmp entries id known))
        ≡ (if is_lt o then commit_of (id, known) ∷ commit_of e ∷ commits_of entries else commit_of e ∷ with_id_order (commits_of entries) (commit_of (id, known)))
    cases Less is rest = refl
    cases Equal is rest = absurd (true≢false (sym (sym (same_id-tied id e.0) ∙ ap is_eq is) ∙ parts.0))
    cases Greater is rest = ap (λ z. commit_of e ∷ z) rest

all_apart : (id a : TxnId) (known : List Commit) → IsTrue (same_id id a) → IsTrue (list_all (id_lt a) (ids_of known)) → filter (λ (c : Commit). not (same_id c.id id)) known ≡ known
all_apart id a [] same below = refl
all_apart id a (c ∷ known) same below =
    let parts = and_parts (id_lt a c.id) (list_all (id_lt a) (ids_of known)) below in
    let other : IsFalse (same_id c.id id) = same_id-sym c.id id ∙ differs id a c.id same parts.0 in
    ap (λ t. if not t then c ∷ filter (λ (d : Commit). not (same_id d.id id)) known else filter (λ (d : Commit). not (same_id d.id id)) known) other ∙ ap (λ z. c ∷ z) (all_apart id a known same parts.1)

-- an entry less is a commit less
pub entry_removed : (id : TxnId) (entries : List (TxnId × KnownCommit)) → IsTrue (ids_ascend (commits_of entries)) → commits_of (remove_entry (λ k. is_eq (id_cmp id k)) entries) ≡ filter (λ (c : Commit). not (same_id c.id id)) (commits_of entries)
entry_removed id [] up = refl
entry_removed id (e ∷ entries) up = cases (is_eq (id_cmp id e.0)) refl (entry_removed id entries parts.1)
  where
    parts : IsTrue (list_all (id_lt e.0) (ids_of (commits_of entries))) × IsTrue (ids_ascend (commits_of entries))
    parts = and_parts (list_all (id_lt e.0) (ids_of (commits_of entries))) (ids_ascend (commits_of entries)) up

    same : (t : Bool) → is_eq (id_cmp id e.0) ≡ t → same_id e.0 id ≡ t
    same t is = same_id-sym e.0 id ∙ sym (same_id-tied id e.0) ∙ is

    cases : (t : Bool) → is_eq (id_cmp id e.0) ≡ t → commits_of (remove_entry (λ k. is_eq (id_cmp id k)) entries) ≡ filter (λ (c : Commit). not (same_id c.id id)) (commits_of entries)
        → commits_of (cond t entries (e ∷ remove_entry (λ k. is_eq (id_cmp id k)) entries)) ≡ filter (λ (c : Commit). not (same_id c.id id)) (commit_of e ∷ commits_of entries)
    cases true is rest = sym (ap (λ t. if not t then commit_of e ∷ filter (λ (c : Commit). not (same_id c.id id)) (commits_of entries) else filter (λ (c : Commit). not (same_id c.id id)) (commits_of entries)) (same true is) ∙ all_apart id e.0 (commits_of entries) (sym (same_id-tied id e.0) ∙ is) parts.0)
    cases false is rest = ap (λ z. commit_of e ∷ z) rest ∙ sym (ap (λ t. if not t then commit_of e ∷ filter (λ (c : Commit). not (same_id c.id id)) (commits_of entries) else filter (λ (c : Commit). not (same_id c.id id)) (commits_of entries)) (same false is))

-- an entry whose count alone changes is the same commit
pub entry_recounted : (test : TxnId → Bool) (entries : List (TxnId × KnownCommit)) (old new : KnownCommit) → lookup test entries ≡ Some old → new.keys ≡ old.keys → commits_of (set_value test entries new) ≡ commits_of entries
entry_recounted test [] old new found same = refl
entry_recounted test (e ∷ entries) old new found same = cases (test e.0) found (λ h. entry_recounted test entries old new h same)
  where
    value : {a b : KnownCommit} → Some a ≡ Some b → a ≡ b
    value e = cc

    cases : (t : Bool) → cond t (Some e.1) (lookup test entries) ≡ Some old → (lookup test entries ≡ Some old → commits_of (set_value test entries new) ≡ commits_of entries)
        → commits_of (cond t ((e.0, new) ∷ entries) (e ∷ set_value test entries new)) ≡ commits_of (e ∷ entries)
    cases true found rest = ap (λ (k : List (List ℕ)). record { id = e.0; keys = k } ∷ commits_of entries) (same ∙ ap (λ (k : KnownCommit). k.keys) (sym (value found)))
    cases false found rest = ap (λ z. commit_of e ∷ z) (rest found)
