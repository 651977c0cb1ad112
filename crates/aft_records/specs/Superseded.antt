-- When a commit is superseded.
use Rattle.std.specs.Prelude.{ℕ, Bool, ◌&&◌, List, IsTrue}
use Rattle.std.specs.List.{list_all, list_any}
use Rattle.std.specs.Str.{bytes_eq}
use Rattle.aft_id.specs.TxnId.{id_lt}
use Rattle.aft_records.specs.declared.stored.Commit.{Commit}

-- whether a commit wrote a key
abbrev pub wrote : List ℕ → Commit → Bool
wrote key c = list_any (bytes_eq key) c.keys

-- whether each key of a commit was written by a commit of the list with a greater id
abbrev pub is_superseded : Commit → List Commit → Bool
is_superseded c commits = list_all (λ key. list_any (λ d. wrote key d && id_lt c.id d.id) commits) c.keys

-- a commit that the list supersedes
abbrev pub Superseded : Commit → List Commit → Type 0
Superseded c commits = IsTrue (is_superseded c commits)
