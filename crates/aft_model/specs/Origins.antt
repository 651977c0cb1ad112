-- What a record says of its transaction: who wrote it, and what it had read.
use Rattle.std.specs.Prelude.{List, [], drop, filter, if◌then◌else◌, length, map, not, ℕ, ◌-◌, ◌∷◌}
use Rattle.std.specs.List.{fold}
use Rattle.aft_id.specs.declared.txn_id.TxnId.{TxnId}
use Rattle.aft_id.specs.TxnId.{id_lt, same_id, zero_id}
use Rattle.aft_records.specs.declared.stored.Commit.{Commit}
use Rattle.aft_records.specs.declared.stored.Record.{Record}
use Rattle.aft_model.specs.declared.caller.Attempt.{Attempt}
use Rattle.aft_model.specs.declared.node.NodeEntry.{NodeEntry}
use Rattle.aft_model.specs.declared.read_set.ReadPair.{ReadPair}
use Rattle.aft_model.specs.Attempts.{reads}

-- the ids in their order with one more, if it isn't there
abbrev pub with_id : List TxnId → TxnId → List TxnId
with_id [] id = id ∷ []
with_id (other ∷ ids) id = if id_lt id other then id ∷ other ∷ ids else if same_id id other then other ∷ ids else other ∷ with_id ids id

-- the ids at which something was read, each once, ascending; an absent key has none
abbrev pub read_ids : List ReadPair → List TxnId
read_ids pairs = fold with_id [] (filter (λ id. not (same_id id zero_id)) (map (λ pair. pair.id) pairs))

-- how many ids a record names at most
abbrev pub most_reads : ℕ
most_reads = 8

-- the greatest of the ids that an attempt has read, as many as a record may name
abbrev pub greatest_reads : List ReadPair → List TxnId
greatest_reads pairs = drop (length (read_ids pairs) - most_reads) (read_ids pairs)

-- the record of an attempt's commit: it names the attempt's incarnation and what it read
abbrev pub record_by : Attempt → List NodeEntry → Commit → Record
record_by a part c = record { commit = c; origin = record { node = a.node; inc = a.inc; reads = greatest_reads (reads a part) } }
