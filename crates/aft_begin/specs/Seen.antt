-- What a look for the record or the marker of a UUID shows.
use Rattle.std.specs.Prelude.{Bool, Err, IsTrue, List, None, Ok, Option, Result, Some, false, if◌then◌else◌, true, ℕ, ◌≡◌, ◌⊎◌}
use Rattle.std.specs.Str.{bytes_eq}
use Rattle.aft_id.specs.TxnId.{IsUuid}
use Rattle.aft_id.specs.declared.txn_id.TxnId.{TxnId}
use Rattle.aft_keeper.specs.declared.keeper.KeeperAnswer.{KeeperAnswer}
use Rattle.aft_keeper.specs.declared.keeper.KeeperAnswer.TheVariants.{Absent, Failed, Found}
use Rattle.aft_records.specs.declared.fault.RecordFault.{RecordFault}
use Rattle.aft_records.specs.declared.stored.Marker.{Marker}
use Rattle.aft_records.specs.declared.stored.Marker.TheVariants.{Done, Full}
use Rattle.aft_records.specs.Reading.{commit_of, marker_of}
use Rattle.aft_model.specs.declared.reply.Reply.{Reply}
use Rattle.aft_model.specs.declared.reply.Reply.TheVariants as replies
use Rattle.aft_model.specs.Bytes.{are_bytes}
use Rattle.aft_model.specs.NodeRules.{is_begin_refusal}
use Rattle.aft_model.specs.Readings.{id_of_marker, marker_name, record_name}
use Rattle.aft_begin.specs.declared.aim.Aim.{Aim}
use Rattle.aft_begin.specs.declared.aim.Aim.TheVariants.{Begin, Forget}
use Rattle.aft_begin.specs.declared.looked.Looked.{Looked}
use Rattle.aft_begin.specs.declared.looked.Looked.TheVariants.{Nothing, Shows, Stops}
use Rattle.aft_begin.specs.declared.sought.Sought.{Sought}
use Rattle.aft_begin.specs.declared.sought.Sought.TheVariants.{Marker as TheMarker, Record as TheRecord}

-- the name of what is sought
abbrev pub name_of : Sought → List ℕ → List ℕ
name_of TheRecord uuid = record_name uuid
name_of TheMarker uuid = marker_name uuid

-- the id of what was read, if it was
abbrev pub id_read : {A : Type 0} → (A → TxnId) → Result A RecordFault → Option TxnId
id_read id_of (Ok x) = Some (id_of x)
id_read id_of (Err fault) = None

-- the id that bytes are read as
abbrev pub read_id : Sought → List ℕ → Option TxnId
read_id TheRecord bytes = id_read (λ c. c.id) (commit_of bytes)
read_id TheMarker bytes = id_read id_of_marker (marker_of bytes)

-- whether bytes are read as a short marker
abbrev pub short_read : Result Marker RecordFault → Bool
short_read (Ok (Done id)) = true
short_read (Ok (Full c)) = false
short_read (Err fault) = false

abbrev pub is_short : Sought → List ℕ → Bool
is_short TheRecord bytes = false
is_short TheMarker bytes = short_read (marker_of bytes)

-- both together
abbrev pub with_short : Bool → Option TxnId → Option (TxnId × Bool)
with_short short None = None
with_short short (Some id) = Some (id, short)

-- what an id shows that was read under a name of this UUID, or none: itself, if it is of the UUID, and else that what stands there is damaged
abbrev pub told_of : List ℕ → List ℕ → Bool → Option TxnId → Looked
told_of name uuid short None = Stops (replies.Damaged name)
told_of name uuid short (Some id) = if bytes_eq uuid id.uuid then Shows id short else Stops (replies.Damaged name)

abbrev pub told : Sought → List ℕ → List ℕ → Looked
told sought uuid bytes = told_of (name_of sought uuid) uuid (is_short sought bytes) (read_id sought bytes)

-- what is known by the types of its words: a UUID is sixteen bytes, and what was found is made of bytes
abbrev pub AreWords : List ℕ → List ℕ → Type 0
AreWords uuid bytes = IsUuid uuid × IsTrue (are_bytes bytes)

-- what a look shows that found something or failed, by what the store answered, which want of memory may hide
abbrev pub ShownBy : Sought → List ℕ → KeeperAnswer → Looked → Type 0
ShownBy sought uuid Absent looked = ⊥
ShownBy sought uuid (Found bytes) looked = (AreWords uuid bytes × (looked ≡ told sought uuid bytes)) ⊎ (looked ≡ Stops replies.NoMemory)
ShownBy sought uuid Failed looked = looked ≡ Stops replies.StoreFault
ShownBy sought uuid answer looked = looked ≡ Stops replies.NoMemory

-- an id that is shown is of the UUID, and what stops a look may be answered by a line that takes its attempt away
abbrev pub MayShow : List ℕ → Looked → Type 0
MayShow uuid Nothing = Unit {0}
MayShow uuid (Shows id short) = id.uuid ≡ uuid
MayShow uuid (Stops reply) = IsTrue (is_begin_refusal (Some reply))

-- what is to be answered behind a look that showed this, by what the UUID was claimed for; `refused` says what, where that is a short marker whose delete was refused
abbrev pub ToldSo : Aim → Sought → Type 0 → Looked → Reply → Type 0
ToldSo aim sought refused Nothing reply = ⊥
ToldSo aim sought refused (Stops told) reply = reply ≡ told
ToldSo Begin sought refused (Shows id short) reply = reply ≡ replies.Committed id
ToldSo Forget TheRecord refused (Shows id short) reply = reply ≡ replies.Kept id
ToldSo Forget TheMarker refused (Shows id false) reply = reply ≡ replies.Kept id
ToldSo Forget TheMarker refused (Shows id true) reply = refused

-- the same by what the store answered; `absent` says what, where nothing is there
abbrev pub Tells : Aim → Sought → List ℕ → Type 0 → Type 0 → KeeperAnswer → Reply → Type 0
Tells aim sought uuid absent refused Absent reply = absent
Tells aim sought uuid absent refused (Found bytes) reply = (AreWords uuid bytes × ToldSo aim sought refused (told sought uuid bytes) reply) ⊎ (reply ≡ replies.NoMemory)
Tells aim sought uuid absent refused Failed reply = reply ≡ replies.StoreFault
Tells aim sought uuid absent refused answer reply = reply ≡ replies.NoMemory
