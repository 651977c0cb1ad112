-- Commits by their ids, as entries of a map.
use Rattle.std.proofs.Common.{◌≡◌, ℕ, Bool, true, false, cond, ◌||◌, List, [], ◌∷◌, refl, sym, ap, ◌∙◌}
use Rattle.std.specs.Prelude.{IsFalse, Some, is_some, if◌then◌else◌}
use Rattle.std.specs.BTreeMap.{insert_entry}
use Rattle.std.specs.Map.{lookup}
use Rattle.std.specs.Ordering.{is_eq, is_lt, match_ordering}
use Rattle.std.specs.declared.cmp.Ordering.{Ordering}
use Rattle.std.specs.declared.cmp.Ordering.TheVariants.{Less, Equal, Greater}
use Rattle.std.proofs.lemmas.Bool.{or_parts, true≢false}
use Rattle.aft_id.specs.TxnId.{id_cmp, same_id}
use Rattle.aft_id.specs.declared.txn_id.TxnId.{TxnId}
use Rattle.aft_records.specs.Commits.{has_id, with_id_once, with_id_order}
use Rattle.aft_records.specs.declared.stored.Commit.{Commit}
use Rattle.aft_meta.proofs.Order.{same_id-tied}
use Rattle.aft_ledger.specs.Fresh.{in_map}

abbrev Entry : Type 0
Entry = TxnId × List (List ℕ)

abbrev as_commit : Entry → Commit
as_commit e = record { id = e.0; keys = e.1 }

-- an id is there where the map has it
pub has-in_map : (id : TxnId) (entries : List Entry) → has_id id (in_map entries) ≡ is_some (lookup (λ k. is_eq (id_cmp id k)) entries)
has-in_map id [] = refl
has-in_map id (e ∷ entries) = ap (λ t. t || has_id id (in_map entries)) (sym (same_id-tied id e.0)) ∙ cases (is_eq (id_cmp id e.0)) (has-in_map id entries)
  where
    cases : (t : Bool) → has_id id (in_map entries) ≡ is_some (lookup (λ k. is_eq (id_cmp id k)) entries) → (t || has_id id (in_map entries)) ≡ is_some (cond t (Some e.1) (lookup (λ k. is_eq (id_cmp id k)) entries))
    cases true rest = refl
    cases false rest = rest

-- a new entry is a commit in its place
pub entry_placed : (entries : List Entry) (id : TxnId) (keys : List (List ℕ)) → IsFalse (has_id id (in_map entries)) → in_map (insert_entry id_cmp entries id keys) ≡ with_id_order (in_map entries) (record { id = id; keys = keys })
entry_placed [] id keys new = refl
entry_placed (e ∷ entries) id keys new = cases (id_cmp id e.0) refl (entry_placed entries id keys parts.1)
  where
    parts : IsFalse (same_id id e.0) × IsFalse (has_id id (in_map entries))
    parts = or_parts (same_id id e.0) (has_id id (in_map entries)) new

    cases : (o : Ordering) → id_cmp id e.0 ≡ o → in_map (insert_entry id_cmp entries id keys) ≡ with_id_order (in_map entries) (record { id = id; keys = keys })
        → in_map (match_ordering o ((id, keys) ∷ e ∷ entries) ((e.0, keys) ∷ entries) (e ∷ insert_entry id_cmp entries id keys))
        ≡ (if is_lt o then record { id = id; keys = keys } ∷ as_commit e ∷ in_map entries else as_commit e ∷ with_id_order (in_map entries) (record { id = id; keys = keys }))
    cases Less is rest = refl
    cases Equal is rest = absurd (true≢false (sym (sym (same_id-tied id e.0) ∙ ap is_eq is) ∙ parts.0))
    cases Greater is rest = ap (λ z. as_commit e ∷ z) rest

-- one more commit of a list, where the map lacks its id, and where it has it
pub once_new : (entries after : List Entry) (c : Commit) → is_some (lookup (λ k. is_eq (id_cmp c.id k)) entries) ≡ false → after ≡ insert_entry id_cmp entries c.id c.keys → in_map after ≡ with_id_once (in_map entries) c
once_new entries after c none is =
    let new : IsFalse (has_id c.id (in_map entries)) = has-in_map c.id entries ∙ none in
    ap in_map is ∙ (entry_placed entries c.id c.keys new ∙ sym (ap (λ t. if t then in_map entries else with_id_order (in_map entries) c) new))

pub once_there : (entries : List Entry) (c : Commit) → is_some (lookup (λ k. is_eq (id_cmp c.id k)) entries) ≡ true → in_map entries ≡ with_id_once (in_map entries) c
once_there entries c some = sym (ap (λ t. if t then in_map entries else with_id_order (in_map entries) c) (has-in_map c.id entries ∙ some))
