-- What stays true of one UUID at the open door: the invariant behind each promise about what the store keeps.
use Rattle.std.specs.Prelude.{Bool, IsFalse, IsTrue, List, Option, Some, [], false, length, take, true, ℕ, ◌++◌, ◌∷◌, ◌==◌, ◌≡◌, ◌≤◌, ◌⊎◌}
use Rattle.std.specs.List.{list_any}
use Rattle.aft_id.specs.declared.txn_id.TxnId.{TxnId}
use Rattle.aft_records.specs.declared.stored.Commit.{Commit}
use Rattle.aft_records.specs.declared.stored.Marker.{Marker}
use Rattle.aft_records.specs.declared.stored.Marker.TheVariants.{Done, Full}
use Rattle.aft_records.specs.Commits.{has_id}
use Rattle.aft_records.specs.Superseded.{Superseded}
use Rattle.aft_keeper.specs.declared.keeper.KeeperCall.TheVariants.{Delete, Get, Put, Scan}
use Rattle.aft_model.specs.declared.door.DoorAct.{DoorAct}
use Rattle.aft_model.specs.declared.door.DoorAct.TheVariants.{Call, Claim, Fence, GiveUp, Release, Up}
use Rattle.aft_model.specs.declared.door.DoorEntry.{DoorEntry}
use Rattle.aft_model.specs.Bytes.{HasBytes, are_bytes}
use Rattle.aft_model.specs.Claims.{claimant, forgotten, is_held_by}
use Rattle.aft_model.specs.Committed.{committed}
use Rattle.aft_model.specs.Course.{DeletesNothing}
use Rattle.aft_model.specs.DoorKnowledge.{is_open, knows_marked, knows_record_gone}
use Rattle.aft_model.specs.Honest.{Honest}
use Rattle.aft_model.specs.LegalDoor.{Legal}
use Rattle.aft_model.specs.Looks.{FoundOther, IsClaimed, IsCleared, IsUnclaimed, Look, look}
use Rattle.aft_model.specs.Membership.{Incarnation, fenced, is_up, same_incarnation, the_office}
use Rattle.aft_model.specs.Readings.{marker_name, record_name, version_name}
use Rattle.aft_model.specs.Stages.{HasClaimed, HasPut, IsClear, IsClosed, IsIdle, IsUnrecorded, KeepsStages, RetiresUnheld, Stage, put_under_claim, stage}
use Rattle.aft_model.proofs.Histories.{In}
use Rattle.law_kept.specs.Outcomes.{Appears, CommittedOf, MayBe, MayMark, MayRecord, NeverAbsent, OnlyAbsent, ProvenOf, Stored, Uncommitted, markers_at, records_at}
use Rattle.law_kept.specs.Tried.{RetiredBefore, Tried, began_to_delete}

-- what a name may hold is known, and each text of it is made of bytes and has a reading
pub record Readable {A : Type 0} (name : List ℕ) (read : Option (List ℕ) → List A) (history : List DoorEntry) : Type 0 where
  pub some : (outcome : Option (List ℕ)) × MayBe name history outcome
  pub each : (bytes : List ℕ) → MayBe name history (Some bytes) → IsTrue (are_bytes bytes) × (x : A) × In x (read (Some bytes))

-- a commit of an id is acknowledged or shown
abbrev pub CommittedId : TxnId → List DoorEntry → Type 0
CommittedId id history = (c : Commit) × In c (committed history) × (c.id ≡ id)

-- a record of an id was put by an incarnation since its standing claim, wherever a commit of the UUID is committed
abbrev pub PutBefore : List ℕ → Incarnation → TxnId → List DoorEntry → Type 0
PutBefore uuid who id history =
    (place : ℕ) → place ≤ length history → (c : Commit) → CommittedOf uuid (take place history) c → IsTrue (has_id id (put_under_claim who uuid (take place history)))

-- nothing of a UUID is recorded: it isn't forgotten, and its record's name is surely absent
pub record Free (uuid : List ℕ) (history : List DoorEntry) : Type 0 where
  pub unforgotten : IsFalse (forgotten uuid history)
  pub record_gone : OnlyAbsent (record_name uuid) history

-- a UUID isn't used: neither a record nor a marker may be there, nothing of it is committed, and these names, which a node put, hold versions of it
pub record Unused (uuid : List ℕ) (who : Incarnation) (names : List (List ℕ)) (history : List DoorEntry) : Type 0 where
  pub free : Free uuid history
  pub marker_gone : OnlyAbsent (marker_name uuid) history
  pub uncommitted : Uncommitted uuid history
  pub stored : (name : List ℕ) → In name names → Stored uuid name history
  pub of_node : (name : List ℕ) → In name names → IsFalse (who.node == 0)

-- a holder put the record of this commit: it isn't forgotten, no marker may be there, and no other commit of the UUID appears
pub record Recording (uuid : List ℕ) (who : Incarnation) (d : Commit) (history : List DoorEntry) : Type 0 where
  pub unforgotten : IsFalse (forgotten uuid history)
  pub of_node : IsFalse (who.node == 0)
  pub marker_gone : OnlyAbsent (marker_name uuid) history
  pub alone : (c : Commit) → Appears uuid history c → c ≡ d
  pub put : IsTrue (has_id d.id (put_under_claim who uuid history))
  pub put_before : PutBefore uuid who d.id history

-- what holds of a UUID that an incarnation which is up has claimed, by its stage
abbrev pub Holding : List ℕ → Incarnation → List DoorEntry → Stage → Type 0
Holding uuid who history IsIdle = ⊥
Holding uuid who history HasClaimed = IsFalse (forgotten uuid history)
Holding uuid who history IsUnrecorded = Free uuid history × (Uncommitted uuid history ⊎ IsTrue (knows_marked uuid history))
Holding uuid who history (IsClear names) = Unused uuid who names history
Holding uuid who history (HasPut d) = Recording uuid who d history
Holding uuid who history IsClosed = IsFalse (who.node == 0)

-- what holds of an id whose UUID the office has claimed, by what it has found out
abbrev pub Looking : TxnId → List DoorEntry → Look → Type 0
Looking id history IsUnclaimed = Unit {0}
Looking id history IsClaimed = Unit {0}
Looking id history FoundOther = ((c : Commit) → MayRecord id.uuid history c → c.id ≡ id → ⊥) × (CommittedId id history → IsTrue (knows_marked id.uuid history))
Looking id history IsCleared = ((c : Commit) → MayRecord id.uuid history c → c.id ≡ id → ⊥) × (CommittedId id history → ⊥)

-- a history of the door that is legal and honest, is made of bytes, keeps the stages of lines that commit, and retires nothing under who is about to record it
pub record Lawful (history : List DoorEntry) : Type 0 where
  pub legal : Legal history
  pub honest : Honest history
  pub made : HasBytes history
  pub stages : KeepsStages history
  pub retires : RetiresUnheld history

-- an entry comes at the open door, of a history that is legal and honest, is made of bytes, and keeps the stages of lines that commit
pub record Comes (history : List DoorEntry) (entry : DoorEntry) : Type 0 where
  pub opened : IsTrue (is_open history)
  pub legal : Legal (history ++ entry ∷ [])
  pub honest : Honest (history ++ entry ∷ [])
  pub made : HasBytes (history ++ entry ∷ [])
  pub stages : KeepsStages (history ++ entry ∷ [])
  pub retires : RetiresUnheld (history ++ entry ∷ [])

-- what stays true of a UUID at the open door
pub record Kept (uuid : List ℕ) (history : List DoorEntry) : Type 0 where
  -- what the names of its record and of its marker may hold is known, and can be read
  pub records_known : Readable (record_name uuid) (records_at uuid) history
  pub markers_known : Readable (marker_name uuid) (markers_at uuid) history
  -- one commit of it appears
  pub one : (c d : Commit) → Appears uuid history c → Appears uuid history d → c ≡ d
  -- once it is committed its record is there, until it is marked
  pub there : (c : Commit) → CommittedOf uuid history c → IsFalse (knows_marked uuid history) → NeverAbsent (record_name uuid) history
  -- each marker that may be there, or was acknowledged or shown, was tried
  pub marked_tried : (m : Marker) → MayMark uuid history m ⊎ ProvenOf uuid history m → Tried history m
  -- a full marker was tried of a commit that is superseded, and committed, unless it was retired before the door was opened
  pub full : (c : Commit) → Tried history (Full c) → c.id.uuid ≡ uuid → Superseded c (committed history) × (In c (committed history) ⊎ RetiredBefore uuid history)
  -- a short marker was tried of an id whose record is surely gone
  pub short : (id : TxnId) → Tried history (Done id) → id.uuid ≡ uuid → OnlyAbsent (record_name uuid) history × (CommittedId id history ⊎ RetiredBefore uuid history)
  -- a marker that was acknowledged or shown is there, until the UUID is forgotten
  pub sure : (m : Marker) → ProvenOf uuid history m → IsFalse (forgotten uuid history) → NeverAbsent (marker_name uuid) history
  -- behind a mark, once the record was found gone, or a version was deleted, the record is surely gone
  pub gone : (id : TxnId) → IsTrue (knows_record_gone id history) ⊎ IsTrue (began_to_delete id history) → id.uuid ≡ uuid → OnlyAbsent (record_name uuid) history
  -- a record that may be there has its versions
  pub whole : (c : Commit) → MayRecord uuid history c → (key : List ℕ) → In key c.keys → Stored uuid (version_name key c.id) history
  -- whoever has claimed it is up or was fenced, and what holds then, by its stage
  pub claimed : (who : Incarnation) → IsTrue (is_held_by who (claimant uuid history)) → IsTrue (is_up who history) ⊎ IsTrue (list_any (same_incarnation who) (fenced history))
  pub holding : (who : Incarnation) → IsTrue (is_held_by who (claimant uuid history)) → IsTrue (is_up who history) → Holding uuid who history (stage who uuid history)
  -- once it is forgotten its record is surely gone
  pub forgotten_gone : IsTrue (forgotten uuid history) → OnlyAbsent (record_name uuid) history
  -- what the office has found out while it holds it
  pub looking : (id : TxnId) → id.uuid ≡ uuid → IsTrue (is_held_by the_office (claimant uuid history)) → Looking id history (look id history)
  -- while nothing was deleted its record is there, once it is committed
  pub undeleted : (c : Commit) → CommittedOf uuid history c → DeletesNothing history → NeverAbsent (record_name uuid) history

-- ---- kinds of entries

-- whether an act is a get or a scan
abbrev pub is_sight : DoorAct → Bool
is_sight (Call node inc (Get name) answer) = true
is_sight (Call node inc (Scan prefix after limit) answer) = true
is_sight act = false

-- whether an act is a claim or a release
abbrev pub is_claiming : DoorAct → Bool
is_claiming (Claim uuid node inc) = true
is_claiming (Release uuid node inc) = true
is_claiming act = false

-- whether an act is a coming up, a fence or a give-up
abbrev pub is_membership : DoorAct → Bool
is_membership (Up node inc) = true
is_membership (Fence node inc) = true
is_membership (GiveUp node inc id) = true
is_membership act = false

-- whether an act is a put
abbrev pub is_put : DoorAct → Bool
is_put (Call node inc (Put name bytes) answer) = true
is_put act = false

-- whether an act is a call that puts or deletes
abbrev pub is_write : DoorAct → Bool
is_write (Call node inc (Put name bytes) answer) = true
is_write (Call node inc (Delete name) answer) = true
is_write act = false
