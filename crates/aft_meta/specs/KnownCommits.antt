-- What is asked of known commits, and what learning one answers.
use Rattle.std.specs.Prelude.{ℕ, ◌&&◌, Bool, List, [], ◌∷◌, filter, Option, Some, None, if◌then◌else◌}
use Rattle.std.specs.List.{list_any}
use Rattle.aft_id.specs.TxnId.{id_lt, same_id}
use Rattle.aft_id.specs.declared.txn_id.TxnId.{TxnId}
use Rattle.aft_records.specs.Commits.{greatest, has_id, versions}
use Rattle.aft_records.specs.Superseded.{is_superseded}
use Rattle.aft_records.specs.declared.stored.Commit.{Commit}
use Rattle.aft_meta.specs.declared.commit_set.Learnt.{Learnt}
use Rattle.aft_meta.specs.declared.commit_set.Learnt.TheVariants.{Known, Superseded, Taken}

-- what learning a commit answers: its id is known, or else the known ones supersede it, or else it is taken
abbrev pub learnt : Commit → List Commit → Learnt
learnt c known = if has_id c.id known then Known else if is_superseded c known then Superseded else Taken

-- the keys that the commit of an id wrote
abbrev pub keys_at : TxnId → List Commit → Option (List (List ℕ))
keys_at id [] = None
keys_at id (c ∷ known) = if same_id id c.id then Some c.keys else keys_at id known

-- the greatest id of a key below another id
abbrev pub latest_below : List ℕ → TxnId → List Commit → Option TxnId
latest_below key id known = greatest (filter (λ version. id_lt version id) (versions key known))

-- whether a commit of an id is known, and the known ones supersede it
abbrev pub supersedes_id : TxnId → List Commit → Bool
supersedes_id id known = list_any (λ c. same_id id c.id && is_superseded c known) known
