-- Which ids, commits, versions, markers and names can be written, and which keep the limits besides.
use Rattle.std.specs.Prelude.{ℕ, ◌<◌, ◌≤◌, ◌^◌, Bool, true, ◌&&◌, Option, Some, None, List, [], ◌∷◌, All, length, IsTrue, Result, Ok, Err, if◌then◌else◌}
use Rattle.aft_id.specs.declared.txn_id.TxnId.{TxnId}
use Rattle.aft_id.specs.TxnId.{IsUuid, id_lt}
use Rattle.aft_records.specs.declared.fault.RecordFault.{RecordFault}
use Rattle.aft_records.specs.declared.fault.RecordFault.TheVariants.{BadTime}
use Rattle.aft_records.specs.declared.stored.Commit.{Commit}
use Rattle.aft_records.specs.declared.stored.Origin.{Origin}
use Rattle.aft_records.specs.declared.stored.Record.{Record}
use Rattle.aft_records.specs.declared.stored.Version.{Version}
use Rattle.aft_records.specs.declared.stored.Marker.{Marker}
use Rattle.aft_records.specs.declared.stored.Marker.TheVariants.{Full, Done}
use Rattle.aft_records.specs.declared.name.Name.{Name}
use Rattle.aft_records.specs.declared.name.Name.TheVariants.{VersionOf, CommitOf, RetiredOf}
use Rattle.aft_records.specs.Limits.{is_time, IsTime, IsKey, AreKeys, is_origin}

-- an id of any time
pub record IsWritableId (id : TxnId) : Type 0 where
  pub time : id.time < 2 ^ 64
  pub uuid : IsUuid id.uuid

-- a commit of any time
pub record IsWritableCommit (c : Commit) : Type 0 where
  pub id : IsWritableId c.id
  pub keys : AreKeys c.keys

-- whether ids ascend strictly from the one before them, if any
abbrev pub ids_ascend_after : Option TxnId → List TxnId → Bool
ids_ascend_after before [] = true
ids_ascend_after None (id ∷ ids) = ids_ascend_after (Some id) ids
ids_ascend_after (Some before) (id ∷ ids) = id_lt before id && ids_ascend_after (Some id) ids

-- whether ids ascend strictly
abbrev pub ids_ascend : List TxnId → Bool
ids_ascend ids = ids_ascend_after None ids

-- the reads of a record: at most 8 ids within the limit of times, ascending strictly
pub record AreReads (reads : List TxnId) : Type 0 where
  pub few : length reads ≤ 8
  pub timely : All (λ id. IsTime id.time) reads
  pub ascending : IsTrue (ids_ascend reads)

-- an origin
pub record IsOrigin (o : Origin) : Type 0 where
  pub limits : IsTrue (is_origin o.node o.inc (length o.reads))
  pub reads : AreReads o.reads
  pub uuids : All (λ id. IsUuid id.uuid) o.reads

-- a record of any time
pub record IsWritableRecord (r : Record) : Type 0 where
  pub commit : IsWritableCommit r.commit
  pub origin : IsOrigin r.origin

-- a version of any time
pub record IsWritableVersion (v : Version) : Type 0 where
  pub id : IsWritableId v.id
  pub key : IsKey v.key
  pub value : length v.value ≤ 4096

-- a marker of any time
abbrev pub IsWritableMarker : Marker → Type 0
IsWritableMarker (Full c) = IsWritableCommit c
IsWritableMarker (Done id) = IsWritableId id

-- the time of a marker
abbrev pub marker_time : Marker → ℕ
marker_time (Full c) = c.id.time
marker_time (Done id) = id.time

-- a value whose time keeps the limit, and otherwise the fault
abbrev pub if_timely : {A : Type 0} → ℕ → A → Result A RecordFault
if_timely time value = if is_time time then Ok value else Err BadTime

-- a commit within the limits
abbrev pub IsCommit : Commit → Type 0
IsCommit c = IsWritableCommit c × IsTime c.id.time

-- a record within the limits
abbrev pub IsRecord : Record → Type 0
IsRecord r = IsWritableRecord r × IsTime r.commit.id.time

-- a version within the limits
abbrev pub IsVersion : Version → Type 0
IsVersion v = IsWritableVersion v × IsTime v.id.time

-- a marker within the limits
abbrev pub IsMarker : Marker → Type 0
IsMarker m = IsWritableMarker m × IsTime (marker_time m)

-- a name of any time
abbrev pub IsWritableName : Name → Type 0
IsWritableName (VersionOf key id) = IsKey key × IsWritableId id
IsWritableName (CommitOf uuid) = IsUuid uuid
IsWritableName (RetiredOf uuid) = IsUuid uuid

-- the time of a name keeps its limit, if it has one
abbrev pub IsTimely : Name → Type 0
IsTimely (VersionOf key id) = IsTime id.time
IsTimely (CommitOf uuid) = Unit {0}
IsTimely (RetiredOf uuid) = Unit {0}

-- a name within the limits
abbrev pub IsName : Name → Type 0
IsName name = IsWritableName name × IsTimely name
