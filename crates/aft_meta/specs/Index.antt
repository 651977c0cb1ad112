-- The index of known commits: who wrote each key, and of how many of its keys each commit is the newest writer.
use Rattle.std.specs.Prelude.{ℕ, ◌≡◌, ◌-◌, ◌&&◌, Bool, false, List, [], ◌∷◌, filter, map, Option, Some, None, IsTrue, if◌then◌else◌, count_by}
use Rattle.std.specs.List.{list_any}
use Rattle.std.specs.Map.{lookup}
use Rattle.std.specs.Option.{option_map, unwrap_or}
use Rattle.std.specs.Ordering.{is_eq, nat_cmp}
use Rattle.std.specs.Cmp.Lexicographic.{slice_cmp}
use Rattle.aft_fields.specs.Order.{ascend}
use Rattle.aft_id.specs.TxnId.{id_cmp, id_lt, same_id}
use Rattle.aft_id.specs.declared.txn_id.TxnId.{TxnId}
use Rattle.aft_records.specs.Commits.{greatest, ids_ascend, is_listed, latest}
use Rattle.aft_records.specs.Superseded.{wrote}
use Rattle.aft_records.specs.declared.stored.Commit.{Commit}
use Rattle.aft_meta.specs.KnownCommits.{supersedes_id}
use Rattle.aft_meta.specs.declared.known.KnownCommit.{KnownCommit}

-- ---- who wrote a key

-- the ids under a key
abbrev pub ids_under : List ℕ → List (List ℕ × List TxnId) → List TxnId
ids_under key writers = unwrap_or (lookup (λ k. is_eq (slice_cmp nat_cmp key k)) writers) []

-- whether an id stands under a key
abbrev pub stands_under : List ℕ → TxnId → List (List ℕ × List TxnId) → Bool
stands_under key id writers = is_listed id (ids_under key writers)

-- whether some id is this one
abbrev pub is_some_id : TxnId → Option TxnId → Bool
is_some_id id None = false
is_some_id id (Some other) = same_id id other

-- whether there is an id above this one
abbrev pub exceeds : TxnId → Option TxnId → Bool
exceeds id None = false
exceeds id (Some other) = id_lt id other

-- the greatest id but one, where an id is the greatest
abbrev pub overtaken_by : TxnId → List TxnId → Option TxnId
overtaken_by id ids = if is_some_id id (greatest ids) then greatest (filter (λ version. id_lt version id) ids) else None

-- whether a commit of an id is known and wrote a key
abbrev pub is_version : List ℕ → TxnId → List Commit → Bool
is_version key id known = list_any (λ c. same_id id c.id && wrote key c) known

-- ---- the commits

-- an entry as a commit
abbrev pub commit_of : TxnId × KnownCommit → Commit
commit_of entry = record { id = entry.0; keys = entry.1.keys }

-- the entries as commits
abbrev pub commits_of : List (TxnId × KnownCommit) → List Commit
commits_of entries = map commit_of entries

-- what is known of an id
abbrev pub known_at : TxnId → List (TxnId × KnownCommit) → Option KnownCommit
known_at id entries = lookup (λ k. is_eq (id_cmp id k)) entries

-- a commit that is the newest writer of one key less
abbrev pub one_less : KnownCommit → KnownCommit
one_less known = record { keys = known.keys; newest = known.newest - 1 }

-- what is known of an id where it may be the newest writer of one key less
abbrev pub lowered_by : Option TxnId → TxnId → Option KnownCommit → Option KnownCommit
lowered_by None id known = known
lowered_by (Some other) id known = if is_eq (id_cmp other id) then option_map one_less known else known

-- the same after each key of a new commit
abbrev pub lowered : List (List ℕ) → TxnId → List (List ℕ × List TxnId) → TxnId → Option KnownCommit → Option KnownCommit
lowered [] new writers id known = known
lowered (key ∷ keys) new writers id known = lowered keys new writers id (lowered_by (overtaken_by new (ids_under key writers)) id known)

-- what is known of an id is right: it is the newest known writer of so many of its keys, which ascend
abbrev pub IsCounted : List Commit → TxnId → Option KnownCommit → Type 0
IsCounted commits id None = Unit {0}
IsCounted commits id (Some known) = (known.newest ≡ count_by (λ key. is_some_id id (latest key commits)) known.keys) × IsTrue (ascend known.keys)

-- the two maps and the counts agree, and the commits ascend
pub record IsIndex (entries : List (TxnId × KnownCommit)) (writers : List (List ℕ × List TxnId)) : Type 0 where
  pub in_order : IsTrue (ids_ascend (commits_of entries))
  pub written : (key : List ℕ) (id : TxnId) → stands_under key id writers ≡ is_version key id (commits_of entries)
  pub counted : (id : TxnId) → IsCounted (commits_of entries) id (known_at id entries)

-- ---- what is superseded

-- whether an id is the newest under one of these keys
abbrev pub is_newest_of : List (List ℕ) → TxnId → List (List ℕ × List TxnId) → Bool
is_newest_of keys id writers = list_any (λ key. is_some_id id (greatest (ids_under key writers))) keys

-- these are the ids of the known commits that the known ones supersede
abbrev pub IsNoted : List TxnId → List Commit → Type 0
IsNoted ids known = (id : TxnId) → is_listed id ids ≡ supersedes_id id known

-- the index is right, and so are the ids of what is superseded
pub record IsMeta (entries : List (TxnId × KnownCommit)) (writers : List (List ℕ × List TxnId)) (superseded : List TxnId) : Type 0 where
  pub index : IsIndex entries writers
  pub noted : IsNoted superseded (commits_of entries)
