-- Buffered writes as those of the model.
use Rattle.std.specs.Prelude.{List, ℕ, insert, length, map, slice_index_or, slice_set, ◌<◌, ◌≡◌, ◌≤◌}
use Rattle.aft_model.specs.Attempts as model
use Rattle.aft_model.specs.Attempts.{with_write}
use Rattle.aft_txn.specs.declared.buffer.Write.{Write}

-- a buffered write as the model's
abbrev pub as_write : Write → model.Write
as_write write = record { key = write.key; value = write.value }

-- a write
abbrev pub write_of : List ℕ → List ℕ → Write
write_of key value = record { key = key; value = value }

-- a value of the key takes the place of the one that stands at this place, under the same key
pub record Replaces (writes : List Write) (key : List ℕ) (at : ℕ) : Type 0 where
  pub within : at < length writes
  pub put : (value : List ℕ) → with_write (as_write (write_of key value)) (map as_write writes) ≡ map as_write (slice_set writes at (write_of key value))
  pub named : (other : Write) → (slice_index_or writes at other).key ≡ key

-- a value of the key goes in at this place
pub record Inserts (writes : List Write) (key : List ℕ) (at : ℕ) : Type 0 where
  pub within : at ≤ length writes
  pub put : (value : List ℕ) → with_write (as_write (write_of key value)) (map as_write writes) ≡ map as_write (insert writes at (write_of key value))
