-- What a cache shows.
use Rattle.std.specs.Prelude.{List, ℕ}
use Rattle.std.specs.Option.{option_map_or}
use Rattle.aft_id.specs.declared.txn_id.TxnId.{TxnId}
use Rattle.aft_records.specs.Kept.{Kept, kept_value, with_front}
use Rattle.aft_cache.specs.declared.spot.Spot.{Spot}

-- how many values a cache keeps at most, and those that it keeps, the last used in front
pub record Values : Type 0 where
  pub capacity : ℕ
  pub kept : List Kept

-- a value with the key and id that it is kept under
abbrev pub kept_at : Spot × List ℕ → Kept
kept_at entry = record { key = entry.0.key; id = entry.0.id; value = entry.1 }

-- kept values after the value of a key and id was used: it comes to the front, if it is kept
abbrev pub with_used : ℕ → List ℕ → TxnId → List Kept → List Kept
with_used capacity key id cache = option_map_or (λ value. with_front capacity (record { key = key; id = id; value = value }) cache) (kept_value key id cache) cache
