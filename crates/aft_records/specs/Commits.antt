-- Words on commits: which are the same, those that are known, and the newest of a key.
use Rattle.std.specs.Prelude.{ℕ, ◌&&◌, ◌||◌, Bool, true, false, not, List, [], ◌∷◌, filter, map, Option, Some, None, if◌then◌else◌}
use Rattle.std.specs.List.{list_all, list_any, fold}
use Rattle.std.specs.Cmp.Lexicographic.{pointwise}
use Rattle.std.specs.Str.{bytes_eq}
use Rattle.aft_id.specs.TxnId.{id_lt, same_id}
use Rattle.aft_id.specs.declared.txn_id.TxnId.{TxnId}
use Rattle.aft_records.specs.declared.stored.Commit.{Commit}
use Rattle.aft_records.specs.Superseded.{wrote, is_superseded}

-- whether two commits are the same
abbrev pub same_commit : Commit → Commit → Bool
same_commit a b = same_id a.id b.id && pointwise bytes_eq a.keys b.keys

-- whether a commit is one of these
abbrev pub is_among : Commit → List Commit → Bool
is_among c commits = list_any (same_commit c) commits

-- whether a commit has a UUID
abbrev pub has_uuid : List ℕ → Commit → Bool
has_uuid uuid c = bytes_eq uuid c.id.uuid

-- whether a commit of this id is among these
abbrev pub has_id : TxnId → List Commit → Bool
has_id id commits = list_any (λ c. same_id id c.id) commits

-- whether an id is among these
abbrev pub is_listed : TxnId → List TxnId → Bool
is_listed id ids = list_any (same_id id) ids

-- the ids of commits
abbrev pub ids_of : List Commit → List TxnId
ids_of commits = map (λ c. c.id) commits

-- ---- known commits: in the order of their ids, each id once

-- commits in id order with one more
abbrev pub with_id_order : List Commit → Commit → List Commit
with_id_order [] c = c ∷ []
with_id_order (other ∷ commits) c = if id_lt c.id other.id then c ∷ other ∷ commits else other ∷ with_id_order commits c

-- the same, unless its id is there
abbrev pub with_id_once : List Commit → Commit → List Commit
with_id_once commits c = if has_id c.id commits then commits else with_id_order commits c

-- commits in the order of their ids
abbrev pub in_id_order : List Commit → List Commit
in_id_order commits = fold with_id_order [] commits

-- known commits with one more, in its place, unless its id is known or the known ones supersede it
abbrev pub with_commit : List Commit → Commit → List Commit
with_commit known c = if has_id c.id known || is_superseded c known then known else with_id_order known c

-- known commits less those of some ids
abbrev pub without_ids : List TxnId → List Commit → List Commit
without_ids ids known = filter (λ c. not (is_listed c.id ids)) known

-- what is known at first, of commits that are shown: those that the shown ones don't supersede
abbrev pub first_known : List Commit → List Commit
first_known commits = fold with_commit [] (filter (λ c. not (is_superseded c commits)) commits)

-- whether ids ascend strictly: each is below all that are behind it
abbrev pub is_ascending : List TxnId → Bool
is_ascending [] = true
is_ascending (id ∷ ids) = list_all (id_lt id) ids && is_ascending ids

-- whether commits ascend strictly by id, so that each id stands once
abbrev pub ids_ascend : List Commit → Bool
ids_ascend commits = is_ascending (ids_of commits)

-- ---- the newest of a key

-- the ids of the commits that wrote a key
abbrev pub versions : List ℕ → List Commit → List TxnId
versions key commits = ids_of (filter (wrote key) commits)

-- the greater id, if there are any
abbrev pub later : Option TxnId → TxnId → Option TxnId
later None id = Some id
later (Some other) id = if id_lt other id then Some id else Some other

-- the greatest of some ids
abbrev pub greatest : List TxnId → Option TxnId
greatest ids = fold later None ids

-- the greatest id of a key
abbrev pub latest : List ℕ → List Commit → Option TxnId
latest key commits = greatest (versions key commits)

-- whether one of two greatest ids isn't above the other; none is below all
abbrev pub latest_le : Option TxnId → Option TxnId → Bool
latest_le None b = true
latest_le (Some a) None = false
latest_le (Some a) (Some b) = not (id_lt b a)
