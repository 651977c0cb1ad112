-- An index with one commit less.
use Rattle.std.proofs.Common.{◌≡◌, ℕ, Bool, true, false, cond, ◌&&◌, not, List, refl, sym, ap, subst, ◌∙◌}
use Rattle.std.specs.Prelude.{IsTrue, Option, Some, None, filter}
use Rattle.std.specs.List.{list_any}
use Rattle.std.specs.Option.{option_map}
use Rattle.std.specs.Ordering.{is_eq}
use Rattle.std.specs.Str.{bytes_eq}
use Rattle.aft_id.specs.TxnId.{id_cmp, same_id}
use Rattle.aft_id.specs.declared.txn_id.TxnId.{TxnId}
use Rattle.aft_records.proofs.CommitOrder.{filtered_ascends}
use Rattle.aft_records.specs.Commits.{ids_ascend, latest}
use Rattle.aft_records.specs.Superseded.{wrote}
use Rattle.aft_records.specs.declared.stored.Commit.{Commit}
use Rattle.aft_meta.specs.Index.{IsCounted, IsIndex, commits_of, is_some_id, is_version, known_at, stands_under}
use Rattle.aft_meta.specs.KnownCommits.{keys_at, supersedes_id}
use Rattle.aft_meta.specs.declared.known.KnownCommit.{KnownCommit}
use Rattle.aft_meta.proofs.Counts.{count_same}
use Rattle.aft_meta.proofs.Entries.{keys_at-known}
use Rattle.aft_meta.proofs.KeysOf.{and_yes, any_at, tested, version_less}
use Rattle.aft_meta.proofs.Order.{same_ids}
use Rattle.aft_meta.proofs.Superseding.{latest_stays}

module _ (entries after : List (TxnId × KnownCommit)) (writers left : List (List ℕ × List TxnId)) (id : TxnId) (gone : KnownCommit)
    (index : IsIndex entries writers) (found : known_at id entries ≡ Some gone) (superseded : IsTrue (supersedes_id id (commits_of entries)))
    (stands : (k : List ℕ) (v : TxnId) → stands_under k v left ≡ (stands_under k v writers && not (list_any (bytes_eq k) gone.keys && same_id v id))) where
  abbrev known : List Commit
  known = commits_of entries

  abbrev fewer : List Commit
  fewer = filter (λ (c : Commit). not (same_id c.id id)) known

  own_keys : keys_at id known ≡ Some gone.keys
  own_keys = keys_at-known id entries ∙ ap (option_map (λ (k : KnownCommit). k.keys)) found

  own_version : (k : List ℕ) → is_version k id known ≡ list_any (bytes_eq k) gone.keys
  own_version k = any_at id (wrote k) known index.in_order ∙ ap (tested id (wrote k)) own_keys

  none_of : (b : Bool) → b && false ≡ false
  none_of true = refl
  none_of false = refl

  clears : (b : Bool) → b && not b ≡ false
  clears true = refl
  clears false = refl

  fewer_written : (k : List ℕ) (v : TxnId) → stands_under k v left ≡ is_version k v fewer
  fewer_written k v = stands k v ∙ ap (λ b. b && not (list_any (bytes_eq k) gone.keys && same_id v id)) (index.written k v) ∙ cases (same_id v id) refl ∙ sym (version_less k id v known)
    where
      cases : (t : Bool) → same_id v id ≡ t → is_version k v known && not (list_any (bytes_eq k) gone.keys && t) ≡ is_version k v known && not t
      cases true same =
          ap (λ b. is_version k v known && not b) (and_yes (list_any (bytes_eq k) gone.keys)) ∙ ap (λ b. is_version k v known && not b) (sym (own_version k))
          ∙ subst (λ (i : TxnId). is_version k i known && not (is_version k id known) ≡ false) (sym (same_ids v id same)) (clears (is_version k id known)) ∙ sym (none_of (is_version k v known))
      cases false other = ap (λ b. is_version k v known && not b) (none_of (list_any (bytes_eq k) gone.keys))

  -- what is counted stays so
  counted_stays : (q : TxnId) (o : Option KnownCommit) → IsCounted known q o → IsCounted fewer q o
  counted_stays q None counted = tt
  counted_stays q (Some k) counted = (counted.0 ∙ count_same (λ key. is_some_id q (latest key known)) (λ key. is_some_id q (latest key fewer)) k.keys (λ key among. ap (is_some_id q) (latest_stays known id index.in_order superseded key)), counted.1)

  -- the index without the commit
  pub dropped_index : commits_of after ≡ fewer → ((q : TxnId) → known_at q after ≡ cond (is_eq (id_cmp id q)) None (known_at q entries)) → IsIndex after left
  dropped_index same taken = record {
    in_order = subst (λ (cs : List Commit). IsTrue (ids_ascend cs)) (sym same) (filtered_ascends (λ (c : Commit). not (same_id c.id id)) known index.in_order);
    written = λ k v. fewer_written k v ∙ ap (is_version k v) (sym same);
    counted = λ q. subst (λ (cs : List Commit). IsCounted cs q (known_at q after)) (sym same) (subst (λ (o : Option KnownCommit). IsCounted fewer q o) (sym (taken q)) (cases q (is_eq (id_cmp id q))));
  }
    where
      cases : (q : TxnId) (t : Bool) → IsCounted fewer q (cond t None (known_at q entries))
      cases q true = tt
      cases q false = counted_stays q (known_at q entries) (index.counted q)
