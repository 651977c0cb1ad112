-- What clients write and what the store keeps of it, in short words.
use Rattle.std.specs.Prelude.{ℕ, List, [], map, codes}
use Rattle.aft_id.specs.declared.txn_id.TxnId.{TxnId}
use Rattle.aft_keeper.specs.declared.keeper.Pair.{Pair}
use Rattle.aft_records.specs.declared.stored.Commit.{Commit}
use Rattle.aft_records.specs.Rows.{version_row}
use Rattle.aft_model.specs.Attempts.{Write}
use Rattle.aft_histories.specs.Entries.{id_of, version_of, written, pair_of_record}

-- what one transaction writes, in the order of keys, the id that it commits under, and the ids that its record says it had read
pub record Writes : Type 0 where
  pub id : TxnId
  pub each : List Write
  pub reads : List TxnId

-- the write of a value to a key
abbrev pub write : List ℕ → List ℕ → Write
write key value = record { key = key; value = value }

-- what the transaction of a UUID writes, and commits at a time, having read nothing
abbrev pub writes : ℕ → ℕ → List Write → Writes
writes time n each = record { id = id_of time n; each = each; reads = [] }

-- the same, where it had read at these ids
abbrev pub having_read : List TxnId → Writes → Writes
having_read ids wrote = record wrote { reads = ids }

-- the commit of these writes
abbrev pub commit_of : Writes → Commit
commit_of wrote = record { id = wrote.id; keys = map (λ w. w.key) wrote.each }

-- the record that an incarnation of a node stores of them
abbrev pub record_at : ℕ → ℕ → Writes → Pair
record_at node inc wrote = pair_of_record (written node inc wrote.reads (commit_of wrote))

-- the version that a write leaves, under its name
abbrev pub version_pair : TxnId → Write → Pair
version_pair id w = record { name = version_of w.key id; bytes = version_row (record { id = id; key = w.key; value = w.value }) }

-- the versions that they leave
abbrev pub version_pairs : Writes → List Pair
version_pairs wrote = map (version_pair wrote.id) wrote.each

-- values
abbrev pub hi : List ℕ
hi = codes "hi"

abbrev pub a : List ℕ
a = codes "a"

abbrev pub b : List ℕ
b = codes "b"
