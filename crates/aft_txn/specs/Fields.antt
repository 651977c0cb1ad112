-- What a table keeps of its fields.
use Rattle.std.specs.Prelude.{List, Some, count_by, map, option_map, sum_by, unwrap_or, ℕ, ◌≡◌}
use Rattle.std.specs.Map.{lookup}
use Rattle.std.specs.Str.{bytes_eq}
use Rattle.aft_id.specs.TxnId.{same_id}
use Rattle.aft_id.specs.declared.txn_id.TxnId.{TxnId}
use Rattle.aft_model.specs.declared.read_set.ReadPair.{ReadPair}
use Rattle.aft_model.specs.Attempts.{Row}
use Rattle.aft_txn.specs.declared.txn.Txn.{Txn}
use Rattle.aft_txn.specs.Buffer.{as_write}
use Rattle.aft_txn.specs.Rows.{IsLegal, row_of_uuid, state_in}

-- an attempt of a number as a row
abbrev pub as_row : ℕ → Txn → Row
as_row number txn = record {
  number = number;
  uuid = txn.uuid;
  state = state_in txn.state (map as_write txn.writes.items);
  writes = map as_write txn.writes.items;
  pairs = txn.reads;
  fetching = txn.open;
}

-- attempts as rows
abbrev pub as_rows : List (ℕ × Txn) → List Row
as_rows attempts = map (λ entry. as_row entry.0 entry.1) attempts

-- how often an id stands in reads
abbrev pub pairs_at : TxnId → List ReadPair → ℕ
pairs_at id pairs = count_by (λ pair. same_id id pair.id) pairs

-- how often an id stands in the reads of all attempts
abbrev pub reads_at : TxnId → List (ℕ × Txn) → ℕ
reads_at id attempts = sum_by (λ entry. pairs_at id entry.1.reads) attempts

-- the count of an id
abbrev pub pin_count : TxnId → List (TxnId × ℕ) → ℕ
pin_count id pins = unwrap_or (lookup (same_id id) pins) 0

-- no id has the count 0
pub record AreNeeded (pins : List (TxnId × ℕ)) : Type 0 where
  pub none : (id : TxnId) → lookup (same_id id) pins ≡ Some 0 → ⊥

-- the rows are legal, each UUID has the number of its row, each id that was read has its count, and no other UUID or id has one
pub record IsTable (begun : ℕ) (attempts : List (ℕ × Txn)) (numbers : List (List ℕ × ℕ)) (pins : List (TxnId × ℕ)) : Type 0 where
  pub legal : IsLegal (record { begun = begun; rows = as_rows attempts })
  pub numbered : (uuid : List ℕ) → lookup (bytes_eq uuid) numbers ≡ option_map (λ row. row.number) (row_of_uuid uuid (as_rows attempts))
  pub counted : (id : TxnId) → pin_count id pins ≡ reads_at id attempts
  pub needed : AreNeeded pins
