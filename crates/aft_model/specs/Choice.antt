-- Which version a get of a key reads.
use Rattle.std.specs.Prelude.{Bool, List, None, Option, Some, [], filter, if◌then◌else◌, not, ℕ, ◌&&◌, ◌||◌, ◌∷◌}
use Rattle.std.specs.List.{flat_map, list_all, list_any}
use Rattle.std.specs.Str.{bytes_eq}
use Rattle.aft_id.specs.declared.txn_id.TxnId.{TxnId}
use Rattle.aft_id.specs.TxnId.{id_lt, same_id, zero_id}
use Rattle.aft_records.specs.declared.stored.Commit.{Commit}
use Rattle.aft_records.specs.Commits.{greatest, versions}
use Rattle.aft_records.specs.Superseded.{wrote}
use Rattle.aft_model.specs.declared.choice.Blocked.{Blocked}
use Rattle.aft_model.specs.declared.choice.Choice.{Choice}
use Rattle.aft_model.specs.declared.choice.Choice.TheVariants.{Absent, NoneFits, Version}
use Rattle.aft_model.specs.declared.read_set.ReadPair.{ReadPair}
use Rattle.aft_model.specs.Attempts.{is_read}

-- whether an id is at most another
abbrev pub id_le : TxnId → TxnId → Bool
id_le a b = not (id_lt b a)

-- whether the commit of an id is known and wrote a key
abbrev pub wrote_at : List ℕ → TxnId → List Commit → Bool
wrote_at key id known = list_any (λ c. same_id id c.id && wrote key c) known

-- whether a key was read below an id
abbrev pub is_read_below : List ℕ → TxnId → List ReadPair → Bool
is_read_below key id reads = list_any (λ pair. bytes_eq key pair.key && id_lt pair.id id) reads

-- whether an id is at least each read id whose commit wrote the key
abbrev pub is_late_enough : List ℕ → TxnId → List ReadPair → List Commit → Bool
is_late_enough key id reads known = list_all (λ pair. not (wrote_at key pair.id known) || id_le pair.id id) reads

-- whether no key that the commit of an id wrote was read below the id
abbrev pub is_not_blocked : TxnId → List ReadPair → List Commit → Bool
is_not_blocked id reads known = list_all (λ c. not (same_id id c.id) || list_all (λ key. not (is_read_below key id reads)) c.keys) known

-- whether a version fits: its commit is known and wrote the key, it is at least each read id whose commit wrote the key, and no key of its commit was read below it
abbrev pub fits : List ℕ → TxnId → List ReadPair → List Commit → Bool
fits key id reads known = wrote_at key id known && is_late_enough key id reads known && is_not_blocked id reads known

-- the versions of a key that fit
abbrev pub fitting : List ℕ → List ReadPair → List Commit → List TxnId
fitting key reads known = filter (λ id. fits key id reads known) (versions key known)

-- the first pair of a key below an id as a blocker, or else what comes otherwise
abbrev pub below_of : TxnId → List ℕ → List ReadPair → List Blocked → List Blocked
below_of id key [] otherwise = otherwise
below_of id key (pair ∷ reads) otherwise =
    if bytes_eq key pair.key && id_lt pair.id id then record { id = id; key = key; read = pair.id } ∷ [] else below_of id key reads otherwise

-- the first of some keys that was read below an id, and the id at which it was read
abbrev pub first_below : TxnId → List ReadPair → List (List ℕ) → List Blocked
first_below id reads [] = []
first_below id reads (key ∷ keys) = below_of id key reads (first_below id reads keys)

-- for each known version of a key, in the order of the known commits, the first key of its commit that was read below it, and that read id
abbrev pub blockers : List ℕ → List ReadPair → List Commit → List Blocked
blockers key reads known = flat_map (λ c. first_below c.id reads c.keys) (filter (wrote key) known)

-- where no version fits: the key is absent if no known commit wrote it, and else these block its versions
abbrev pub none_chosen : List (TxnId) → List Blocked → Choice
none_chosen [] blocked = Absent
none_chosen (id ∷ ids) blocked = NoneFits blocked

-- the greatest version that fits, or what comes otherwise
abbrev pub chosen : Option TxnId → Choice → Choice
chosen (Some id) otherwise = Version id
chosen None otherwise = otherwise

-- the choice: absent where the key was read absent; else the greatest version that fits; else absent where no known commit wrote the key; else what blocks its versions, each of them where the reads are atomic
abbrev pub choice : List ℕ → List ReadPair → List Commit → Choice
choice key reads known =
    if is_read (record { key = key; id = zero_id }) reads then Absent
    else chosen (greatest (fitting key reads known)) (none_chosen (versions key known) (blockers key reads known))
