-- What the choice of a version looks at, one version at a time.
use Rattle.std.specs.Prelude.{ℕ, ◌&&◌, Bool, false, List, [], ◌∷◌, Option, Some, None, if◌then◌else◌}
use Rattle.std.specs.Str.{bytes_eq}
use Rattle.aft_id.specs.TxnId.{id_lt, same_id}
use Rattle.aft_id.specs.declared.txn_id.TxnId.{TxnId}
use Rattle.aft_records.specs.declared.stored.Commit.{Commit}
use Rattle.aft_meta.specs.KnownCommits.{keys_at}
use Rattle.aft_model.specs.Choice.{first_below}
use Rattle.aft_model.specs.declared.choice.Blocked.{Blocked}
use Rattle.aft_model.specs.declared.read_set.ReadPair.{ReadPair}

-- the id of the first pair of a key that is below an id
abbrev pub read_below : List ℕ → TxnId → List ReadPair → Option TxnId
read_below key id [] = None
read_below key id (pair ∷ reads) = if bytes_eq key pair.key && id_lt pair.id id then Some pair.id else read_below key id reads

-- an id at which a key was read, where it is below another one
abbrev pub below : TxnId → Option TxnId → Option TxnId
below id None = None
below id (Some read) = if id_lt read id then Some read else None

-- whether a key was read at this id, if it was
abbrev pub is_at : TxnId → Option TxnId → Bool
is_at id None = false
is_at id (Some read) = same_id id read

-- the first of a commit's keys that was read below it
abbrev pub blocked_by : TxnId → List ReadPair → Option (List (List ℕ)) → List Blocked
blocked_by id reads None = []
blocked_by id reads (Some keys) = first_below id reads keys

-- the first key of the commit of an id that was read below it
abbrev pub blocked_at : TxnId → List ReadPair → List Commit → List Blocked
blocked_at id reads known = blocked_by id reads (keys_at id known)

-- one blocker or none, as a list
abbrev pub listed : Option Blocked → List Blocked
listed None = []
listed (Some blocked) = blocked ∷ []
