-- The greatest commit of a key isn't superseded.
use Rattle.std.proofs.Common.{◌≡◌, ℕ, true, ◌&&◌, List, sym, subst, ◌∙◌}
use Rattle.std.specs.Prelude.{IsTrue, IsFalse, Some, filter}
use Rattle.std.specs.List.{list_any}
use Rattle.std.specs.Str.{bytes_eq}
use Rattle.std.proofs.lemmas.Bool.{and_parts, true≢false, false_from_ne_true}
use Rattle.aft_id.specs.TxnId.{id_lt}
use Rattle.aft_id.specs.declared.txn_id.TxnId.{TxnId}
use Rattle.aft_records.specs.Superseded.{wrote, is_superseded}
use Rattle.aft_records.specs.declared.stored.Commit.{Commit}
use Rattle.aft_records.specs.Commits.{versions, latest}
use Rattle.aft_model.proofs.Greatest.{greatest_of_some}
use Rattle.aft_model.proofs.Histories.{any_found, all_at}
use Rattle.aft_model.proofs.Lists.{filter_in, map_in}
use Rattle.aft_model.proofs.Sights.{same_bytes}

-- no commit that wrote the key is above the greatest
pub newest_stands : (key : List ℕ) (c : Commit) (commits : List Commit) → IsTrue (wrote key c) → latest key commits ≡ Some c.id → IsFalse (is_superseded c commits)
newest_stands key c commits writes newest = false_from_ne_true (is_superseded c commits) above
  where
    above : is_superseded c commits ≡ true → ⊥
    above superseded =
        let own = any_found (bytes_eq key) c.keys writes in
        let same = same_bytes key own.0 own.2 in
        let found = any_found (λ (d : Commit). wrote own.0 d && id_lt c.id d.id) commits (all_at (λ (k : List ℕ). list_any (λ (d : Commit). wrote k d && id_lt c.id d.id) commits) own.0 c.keys own.1 superseded) in
        let both = and_parts (wrote own.0 found.0) (id_lt c.id found.0.id) found.2 in
        let there = map_in (λ (d : Commit). d.id) found.0 (filter (wrote key) commits) (filter_in (wrote key) found.0 commits found.1 (subst (λ (k : List ℕ). IsTrue (wrote k found.0)) (sym same) both.0)) in
        let top = greatest_of_some (versions key commits) found.0.id there in
        let is : top.0 ≡ c.id = cc in
        true≢false (sym both.1 ∙ subst (λ (g : TxnId). IsFalse (id_lt g found.0.id)) is (top.3 found.0.id there))
