-- Attempts as rows: one of them, and what a call makes of it.
use Rattle.std.specs.Prelude.{Bool, IsTrue, List, None, Option, Some, [], false, find, if◌then◌else◌, length, nat_le, nat_lt, not, option_and_then, option_map, suc, true, ℕ, ◌&&◌, ◌-◌, ◌==◌, ◌∷◌}
use Rattle.std.specs.List.{list_all, list_any}
use Rattle.std.specs.Option.{option_map_or}
use Rattle.std.specs.Str.{bytes_eq}
use Rattle.aft_fields.specs.Order.{ascend}
use Rattle.aft_id.specs.TxnId.{same_id}
use Rattle.aft_id.specs.declared.txn_id.TxnId.{TxnId}
use Rattle.aft_records.specs.Limits.{is_time}
use Rattle.aft_model.specs.Attempts.{AttemptState, IsCommitting, IsGone, IsInDoubt, IsLeaving, IsOpening, IsRunning, Row, Write, doubted, fixed_commit, tried_again, written_keys, with_read, with_write}
use Rattle.aft_txn.specs.declared.state.State.{State}
use Rattle.aft_txn.specs.declared.state.State.TheVariants as states

-- how many attempts were begun, and those that are there, in order of number
pub record Table : Type 0 where
  pub begun : ℕ
  pub rows : List Row

-- the row of a number
abbrev pub row_at : ℕ → List Row → Option Row
row_at number [] = None
row_at number (row ∷ rows) = if number == row.number then Some row else row_at number rows

-- the row of a UUID
abbrev pub row_of_uuid : List ℕ → List Row → Option Row
row_of_uuid uuid rows = find (λ row. bytes_eq uuid row.uuid) rows

-- rows with that of a number changed
abbrev pub changed : ℕ → (Row → Row) → List Row → List Row
changed number change [] = []
changed number change (row ∷ rows) = if number == row.number then change row ∷ rows else row ∷ changed number change rows

-- rows without that of a number
abbrev pub without_row : ℕ → List Row → List Row
without_row number [] = []
without_row number (row ∷ rows) = if number == row.number then rows else row ∷ without_row number rows

-- the row of an attempt that is begun
abbrev pub opened : ℕ → List ℕ → Row
opened number uuid = record { number = number; uuid = uuid; state = IsOpening; writes = []; pairs = []; fetching = 0 }

-- ---- what a table keeps of its rows

-- whether rows ascend strictly by number
abbrev pub numbers_ascend : List Row → Bool
numbers_ascend [] = true
numbers_ascend (row ∷ rows) = list_all (λ other. nat_lt row.number other.number) rows && numbers_ascend rows

-- whether no UUID stands in two rows
abbrev pub uuids_differ : List Row → Bool
uuids_differ [] = true
uuids_differ (row ∷ rows) = not (list_any (λ other. bytes_eq row.uuid other.uuid) rows) && uuids_differ rows

-- whether an id, if one is fixed, has this UUID and a time within the limit
abbrev pub is_own : List ℕ → Option TxnId → Bool
is_own uuid None = true
is_own uuid (Some id) = bytes_eq uuid id.uuid && is_time id.time

-- the id of the commit that an attempt has fixed
abbrev pub fixed_id : AttemptState → Option TxnId
fixed_id state = option_map (λ c. c.id) (fixed_commit state)

-- whether what a row has buffered ascends strictly by key and is at most 32 writes, and the id that it has fixed is its own
abbrev pub is_sound : Row → Bool
is_sound row = ascend (written_keys row.writes) && nat_le (length row.writes) 32 && is_own row.uuid (fixed_id row.state)

-- rows in order of number, none above how many were begun, of different UUIDs, each sound
pub record IsLegal (table : Table) : Type 0 where
  pub in_order : IsTrue (numbers_ascend table.rows)
  pub begun : IsTrue (list_all (λ row. nat_le row.number table.begun) table.rows)
  pub apart : IsTrue (uuids_differ table.rows)
  pub sound : IsTrue (list_all is_sound table.rows)

-- ---- what an attempt is doing

-- what an attempt is doing, in a state of the table; a commit has the buffer's keys
abbrev pub state_in : State → List Write → AttemptState
state_in states.Opening writes = IsOpening
state_in states.Running writes = IsRunning
state_in (states.Committing id) writes = IsCommitting (record { id = id; keys = written_keys writes })
state_in (states.Doubt id) writes = IsInDoubt (record { id = id; keys = written_keys writes })
state_in states.Leaving writes = IsLeaving

-- the id that a state of the table has fixed
abbrev pub id_in : State → Option TxnId
id_in (states.Committing id) = Some id
id_in (states.Doubt id) = Some id
id_in state = None

-- the state that is told of what an attempt is doing
abbrev pub told : AttemptState → Option State
told IsGone = None
told IsOpening = Some states.Opening
told IsRunning = Some states.Running
told (IsCommitting c) = Some (states.Committing c.id)
told (IsInDoubt c) = Some (states.Doubt c.id)
told IsLeaving = Some states.Leaving

-- the state that is told of a number
abbrev pub state_at : ℕ → List Row → Option State
state_at number rows = option_and_then (λ row. told row.state) (row_at number rows)

-- whether a row that is there passes a test
abbrev pub holds_at : (Row → Bool) → ℕ → List Row → Bool
holds_at test number rows = option_map_or test (row_at number rows) false

-- a row in another state
abbrev pub with_state : State → Row → Row
with_state state row = record row { state = state_in state row.writes }

-- a row whose commit is tried again, and one whose commit is in doubt
abbrev pub settled : Row → Row
settled row = record row { state = tried_again row.state }

abbrev pub in_doubt : Row → Row
in_doubt row = record row { state = doubted row.state }

-- ---- what an attempt has buffered and read

-- a row after a put
abbrev pub with_put : List ℕ → List ℕ → Row → Row
with_put key value row = record row { writes = with_write (record { key = key; value = value }) row.writes }

-- a row after a read, which may be a fetch
abbrev pub with_noted : List ℕ → TxnId → Bool → Row → Row
with_noted key id fetch row = record row { pairs = with_read (record { key = key; id = id }) row.pairs; fetching = if fetch then suc row.fetching else row.fetching }

-- a row after a read that is over
abbrev pub ended_read : Row → Row
ended_read row = record row { fetching = row.fetching - 1 }

-- whether an attempt that is there has read at an id
abbrev pub is_pinned_in : TxnId → List Row → Bool
is_pinned_in id rows = list_any (λ row. list_any (λ pair. same_id id pair.id) row.pairs) rows
