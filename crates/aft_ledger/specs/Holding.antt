-- Whether a row holds an id, and whether a state is that of storing a commit.
use Rattle.std.specs.Prelude.{Bool, List, None, Option, Some, false, ℕ}
use Rattle.std.specs.Option.{option_map_or}
use Rattle.aft_id.specs.declared.txn_id.TxnId.{TxnId}
use Rattle.aft_id.specs.TxnId.{same_id}
use Rattle.aft_records.specs.declared.stored.Commit.{Commit}
use Rattle.aft_records.specs.Commits.{same_commit}
use Rattle.aft_model.specs.Attempts.{Row, fixed_commit}
use Rattle.aft_model.specs.Known.{is_fixed_at}
use Rattle.aft_txn.specs.declared.state.State.{State}
use Rattle.aft_txn.specs.declared.state.State.TheVariants as states

-- whether the attempt of a row, if there is one, commits under an id or is in doubt about it
abbrev pub has_fixed : TxnId → Option Row → Bool
has_fixed id row = option_map_or (λ r. is_fixed_at id (fixed_commit r.state)) row false

-- whether an attempt in a state of the table that has buffered these keys is storing a commit
abbrev pub stores_in : Option State → Commit → List (List ℕ) → Bool
stores_in None c keys = false
stores_in (Some (states.Committing id)) c keys = same_commit c (record { id = id; keys = keys })
stores_in (Some state) c keys = false

-- whether a state of the table is that of a commit under an id, or of one in doubt
abbrev pub fixed_by : TxnId → State → Bool
fixed_by id (states.Committing fixed) = same_id id fixed
fixed_by id (states.Doubt fixed) = same_id id fixed
fixed_by id state = false

-- the same, of an attempt that was found
abbrev pub fixed_in : TxnId → Option (ℕ × State) → Bool
fixed_in id None = false
fixed_in id (Some found) = fixed_by id found.1
