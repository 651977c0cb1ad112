-- The greatest id of each key.
use Rattle.std.specs.Prelude.{Bool, List, Option, ℕ, ◌&&◌, ◌||◌, ◌≡◌}
use Rattle.std.specs.List.{list_any}
use Rattle.std.specs.Map.{lookup}
use Rattle.std.specs.Ordering.{is_eq, nat_cmp}
use Rattle.std.specs.Cmp.Lexicographic.{slice_cmp}
use Rattle.aft_id.specs.TxnId.{id_lt}
use Rattle.aft_id.specs.declared.txn_id.TxnId.{TxnId}
use Rattle.aft_records.specs.declared.stored.Commit.{Commit}
use Rattle.aft_records.specs.Superseded.{wrote}
use Rattle.aft_audit.specs.Pairs.{passes}

-- whether the id that a map has of a key is above another one
abbrev pub is_newer : List ℕ → TxnId → List (List ℕ × TxnId) → Bool
is_newer key id newest = passes (λ other. id_lt id other) (lookup (λ k. is_eq (slice_cmp nat_cmp key k)) newest)

-- a map has of each key the greatest id of these commits
abbrev pub IsNewestOf : List Commit → List (List ℕ × TxnId) → Type 0
IsNewestOf commits newest = (key : List ℕ) (id : TxnId) → is_newer key id newest ≡ list_any (λ d. wrote key d && id_lt id d.id) commits

-- the greater of an id and what was noted, if something was: what is below it is below one of the two
pub record Raises (noted : Option TxnId) (id greatest : TxnId) : Type 0 where
  pub raises : (v : TxnId) → id_lt v greatest ≡ (passes (id_lt v) noted || id_lt v id)
