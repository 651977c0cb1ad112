-- The stored commits that weren't announced: in the order of storing, and by id.
use Rattle.std.specs.Prelude.{List, [], map, ℕ}
use Rattle.std.specs.List.{fold}
use Rattle.aft_id.specs.declared.txn_id.TxnId.{TxnId}
use Rattle.aft_records.specs.declared.stored.Commit.{Commit}
use Rattle.aft_records.specs.Commits.{with_id_once}

-- commits in id order, each id once
abbrev pub once_each : List Commit → List Commit
once_each commits = fold with_id_once [] commits

-- entries of a map from ids to keys as commits
abbrev pub in_map : List (TxnId × List (List ℕ)) → List Commit
in_map entries = map (λ entry. record { id = entry.0; keys = entry.1 }) entries
