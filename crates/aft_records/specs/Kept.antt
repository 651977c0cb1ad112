-- Kept values of versions, the last used in front.
use Rattle.std.specs.Prelude.{ℕ, ◌&&◌, Bool, not, List, [], ◌∷◌, take, filter, Option, Some, None, if◌then◌else◌}
use Rattle.std.specs.Str.{bytes_eq}
use Rattle.aft_id.specs.TxnId.{same_id}
use Rattle.aft_id.specs.declared.txn_id.TxnId.{TxnId}

-- a kept value: that of the version of a key and id
pub record Kept : Type 0 where
  pub key : List ℕ
  pub id : TxnId
  pub value : List ℕ

-- whether a kept value is that of this key and id
abbrev pub is_kept_at : List ℕ → TxnId → Kept → Bool
is_kept_at key id kept = bytes_eq key kept.key && same_id id kept.id

-- kept values with this one in front, in place of one of its key and id, cut to the capacity
abbrev pub with_front : ℕ → Kept → List Kept → List Kept
with_front capacity kept cache = take capacity (kept ∷ filter (λ other. not (is_kept_at kept.key kept.id other)) cache)

-- the value that is kept of a key and id
abbrev pub kept_value : List ℕ → TxnId → List Kept → Option (List ℕ)
kept_value key id [] = None
kept_value key id (kept ∷ cache) = if is_kept_at key id kept then Some kept.value else kept_value key id cache
