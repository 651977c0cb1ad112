-- The entries of the small histories, in short words.
use Rattle.std.specs.Prelude.{ℕ, List, [], ◌∷◌, codes}
use Rattle.std.specs.Int.{w128, to_be_bytes}
use Rattle.aft_id.specs.declared.txn_id.TxnId.{TxnId}
use Rattle.aft_records.specs.declared.stored.Commit.{Commit}
use Rattle.aft_records.specs.declared.stored.Record.{Record}
use Rattle.aft_records.specs.declared.stored.Marker.TheVariants.{Full, Done}
use Rattle.aft_records.specs.declared.name.Name.TheVariants.{VersionOf, CommitOf, RetiredOf}
use Rattle.aft_records.specs.Rows.{commit_row, record_row, version_row, marker_row}
use Rattle.aft_records.specs.Names.{name_text}
use Rattle.aft_keeper.specs.declared.keeper.Pair.{Pair}
use Rattle.aft_keeper.specs.declared.keeper.KeeperCall.{KeeperCall}
use Rattle.aft_keeper.specs.declared.keeper.KeeperCall.TheVariants.{Get, Put, Delete, Scan}
use Rattle.aft_keeper.specs.declared.keeper.KeeperAnswer.{KeeperAnswer}
use Rattle.aft_keeper.specs.declared.keeper.KeeperAnswer.TheVariants as answers
use Rattle.aft_model.specs.declared.door.DoorAct.{DoorAct}
use Rattle.aft_model.specs.declared.door.DoorAct.TheVariants as acts
use Rattle.aft_model.specs.declared.door.DoorEntry.{DoorEntry}

-- the UUID of a number, and the id of a time and that UUID
abbrev pub u : ℕ → List ℕ
u n = to_be_bytes w128 n

abbrev pub id_of : ℕ → ℕ → TxnId
id_of time n = record { time = time; uuid = u n }

-- the names of a record, a marker and a version
abbrev pub record_of : ℕ → List ℕ
record_of n = name_text (CommitOf (u n))

abbrev pub marker_of : ℕ → List ℕ
marker_of n = name_text (RetiredOf (u n))

abbrev pub version_of : List ℕ → TxnId → List ℕ
version_of key id = name_text (VersionOf key id)

-- an entry of a client's line
abbrev pub of_line : DoorAct → DoorEntry
of_line act = record { by = record { client = 1; line = 1 }; act = act }

-- a call of an incarnation, with its answer
abbrev pub asks : ℕ → ℕ → KeeperCall → KeeperAnswer → DoorEntry
asks node inc asked answer = of_line (acts.Call node inc asked answer)

-- an entry of the opening
abbrev pub opening_entry : DoorAct → DoorEntry
opening_entry act = record { by = record { client = 0; line = 0 }; act = act }

-- a page of the opening, from a prefix's first name on
abbrev pub first_page : List ℕ → List Pair → DoorEntry
first_page prefix pairs = opening_entry (acts.Call 0 1 (Scan prefix [] 64) (answers.Page pairs))

-- keys and commits
abbrev pub x : List ℕ
x = codes "x"

abbrev pub y : List ℕ
y = codes "y"

-- what the transaction 1 wrote at time 1000, and what 3 wrote over it at time 1001
abbrev pub first : Commit
first = record { id = id_of 1000 1; keys = x ∷ y ∷ [] }

abbrev pub second : Commit
second = record { id = id_of 1001 3; keys = x ∷ y ∷ [] }

-- the record of a commit that an incarnation wrote and these ids were read for, in the second format
abbrev pub written : ℕ → ℕ → List TxnId → Commit → Record
written node inc reads c = record { commit = c; origin = record { node = node; inc = inc; reads = reads } }

-- a record, a version and markers, each under its name
abbrev pub pair_of_record : Record → Pair
pair_of_record r = record { name = name_text (CommitOf r.commit.id.uuid); bytes = record_row r }

-- the record that an incarnation wrote, for which nothing was read
abbrev pub record_by : ℕ → ℕ → Commit → Pair
record_by node inc c = pair_of_record (written node inc [] c)

-- that of the first incarnation of node 1, and that of the office, which puts it in place of an old one
abbrev pub record_pair : Commit → Pair
record_pair c = record_by 1 1 c

abbrev pub upgraded_pair : Commit → Pair
upgraded_pair c = record_by 0 0 c

-- an old record, in the first format
abbrev pub old_record : Commit → Pair
old_record c = record { name = name_text (CommitOf c.id.uuid); bytes = commit_row c }

abbrev pub version_pair : List ℕ → TxnId → Pair
version_pair key id = record { name = version_of key id; bytes = version_row (record { id = id; key = key; value = codes "hi" }) }

abbrev pub full_pair : Commit → Pair
full_pair c = record { name = name_text (RetiredOf c.id.uuid); bytes = marker_row (Full c) }

abbrev pub done_pair : TxnId → Pair
done_pair id = record { name = name_text (RetiredOf id.uuid); bytes = marker_row (Done id) }

-- a put of a pair, and a delete and a get of a name
abbrev pub puts : ℕ → ℕ → Pair → KeeperAnswer → DoorEntry
puts node inc pair answer = asks node inc (Put pair.name pair.bytes) answer

abbrev pub deletes_by : ℕ → ℕ → List ℕ → KeeperAnswer → DoorEntry
deletes_by node inc name answer = asks node inc (Delete name) answer

abbrev pub deletes : List ℕ → KeeperAnswer → DoorEntry
deletes name answer = deletes_by 0 1 name answer

abbrev pub gets : ℕ → ℕ → List ℕ → KeeperAnswer → DoorEntry
gets node inc name answer = asks node inc (Get name) answer

-- a get that finds a pair
abbrev pub got : ℕ → ℕ → Pair → DoorEntry
got node inc pair = gets node inc pair.name (answers.Found pair.bytes)

-- membership and claims
abbrev pub comes_up : ℕ → ℕ → DoorEntry
comes_up node inc = of_line (acts.Up node inc)

abbrev pub fences : ℕ → ℕ → DoorEntry
fences node inc = of_line (acts.Fence node inc)

abbrev pub claims : ℕ → ℕ → ℕ → DoorEntry
claims n node inc = of_line (acts.Claim (u n) node inc)

abbrev pub releases : ℕ → ℕ → ℕ → DoorEntry
releases n node inc = of_line (acts.Release (u n) node inc)

abbrev pub gives_up : ℕ → ℕ → TxnId → DoorEntry
gives_up node inc id = of_line (acts.GiveUp node inc id)

-- a get of the opening, and one that finds a pair
abbrev pub opening_get : List ℕ → KeeperAnswer → DoorEntry
opening_get name answer = opening_entry (acts.Call 0 1 (Get name) answer)

abbrev pub finds : Pair → DoorEntry
finds pair = opening_get pair.name (answers.Found pair.bytes)

-- a page of all records, that a node reads
abbrev pub scans : ℕ → ℕ → List Pair → DoorEntry
scans node inc pairs = asks node inc (Scan (codes "c/") [] 64) (answers.Page pairs)
