-- Attempts as rows, and what an act makes of them.
use Rattle.std.specs.Prelude.{List, None, Option, Some, [], if◌then◌else◌, suc, ℕ, ◌++◌, ◌-◌, ◌==◌, ◌∷◌}
use Rattle.aft_id.specs.declared.txn_id.TxnId.{TxnId}
use Rattle.aft_id.specs.TxnId.{zero_id}
use Rattle.aft_model.specs.declared.choice.Picked.{Picked}
use Rattle.aft_model.specs.declared.choice.Picked.TheVariants as picked
use Rattle.aft_model.specs.declared.node.NodeAct.{NodeAct}
use Rattle.aft_model.specs.declared.node.NodeAct.TheVariants.{Admit, Begin, Doubt, End, Leave, Lost, Put, Select, Settle, Start, Unadmit, Value}
use Rattle.aft_model.specs.Attempts.{IsCommitting, IsLeaving, IsOpening, IsRunning, Row, doubted, tried_again, with_read, with_write, written_keys}

-- the row of a number
abbrev pub row_at : ℕ → List Row → Option Row
row_at number [] = None
row_at number (row ∷ rows) = if number == row.number then Some row else row_at number rows

-- rows with that of a number changed
abbrev pub changed : ℕ → (Row → Row) → List Row → List Row
changed number change [] = []
changed number change (row ∷ rows) = if number == row.number then change row ∷ rows else row ∷ changed number change rows

-- rows without that of a number
abbrev pub without_row : ℕ → List Row → List Row
without_row number [] = []
without_row number (row ∷ rows) = if number == row.number then rows else row ∷ without_row number rows

-- a row after a read at an id, and after one that is fetched
abbrev pub noted : List ℕ → TxnId → Row → Row
noted key id row = record row { pairs = with_read (record { key = key; id = id }) row.pairs }

abbrev pub fetched : List ℕ → TxnId → Row → Row
fetched key id row = record row { pairs = with_read (record { key = key; id = id }) row.pairs; fetching = suc row.fetching }

-- a row whose fetch is over
abbrev pub ended_fetch : Row → Row
ended_fetch row = record row { fetching = row.fetching - 1 }

-- rows after a get of the attempt of a number: what it reads is noted
abbrev pub rows_picked : ℕ → List ℕ → Picked → List Row → List Row
rows_picked number key (picked.Own value) rows = rows
rows_picked number key (picked.Cached id value) rows = changed number (noted key id) rows
rows_picked number key (picked.Fetch id) rows = changed number (fetched key id) rows
rows_picked number key picked.Absent rows = changed number (noted key zero_id) rows
rows_picked number key (picked.NoneFits blocked) rows = rows

-- rows after an act: an attempt that is admitted joins them, one that is taken away goes, and the row of any other act's attempt is changed
abbrev pub rows_after : NodeAct → List Row → List Row
rows_after (Admit a uuid) rows = rows ++ record { number = a.number; uuid = uuid; state = IsOpening; writes = []; pairs = []; fetching = 0 } ∷ []
rows_after (Begin a) rows = changed a.number (λ row. record row { state = IsRunning }) rows
rows_after (Unadmit a) rows = without_row a.number rows
rows_after (Put a key value) rows = changed a.number (λ row. record row { writes = with_write (record { key = key; value = value }) row.writes }) rows
rows_after (Select a key pick) rows = rows_picked a.number key pick rows
rows_after (Value a key id place kept) rows = changed a.number ended_fetch rows
rows_after (Lost a key id) rows = changed a.number ended_fetch rows
rows_after (Start a now c) rows = changed a.number (λ row. record row { state = IsCommitting (record { id = c.id; keys = written_keys row.writes }) }) rows
rows_after (Settle a) rows = changed a.number (λ row. record row { state = tried_again row.state }) rows
rows_after (Leave a) rows = changed a.number (λ row. record row { state = IsLeaving }) rows
rows_after (Doubt a) rows = changed a.number (λ row. record row { state = doubted row.state }) rows
rows_after (End a) rows = without_row a.number rows
rows_after act rows = rows
