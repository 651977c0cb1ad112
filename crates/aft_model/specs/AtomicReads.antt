-- Atomic read sets: what was read of a commit goes with what was read beside it.
use Rattle.std.specs.Prelude.{Bool, IsTrue, List, not, ◌||◌}
use Rattle.std.specs.List.{list_all}
use Rattle.aft_id.specs.TxnId.{same_id}
use Rattle.aft_records.specs.declared.stored.Commit.{Commit}
use Rattle.aft_model.specs.declared.read_set.ReadPair.{ReadPair}
use Rattle.aft_model.specs.Choice.{is_read_below}

-- whether no key of a commit was read below the commit
abbrev pub is_read_whole : List ReadPair → Commit → Bool
is_read_whole reads c = list_all (λ key. not (is_read_below key c.id reads)) c.keys

-- whether reads are atomic beside some commits: of each of these that was read, no key was read below it
abbrev pub is_atomic : List ReadPair → List Commit → Bool
is_atomic reads commits = list_all (λ pair. list_all (λ c. not (same_id pair.id c.id) || is_read_whole reads c) commits) reads

-- an atomic read set
abbrev pub Atomic : List ReadPair → List Commit → Type 0
Atomic reads commits = IsTrue (is_atomic reads commits)
