-- What the names of one UUID may hold, and which of its commits and markers are possible or proven.
use Rattle.std.specs.Prelude.{IsTrue, List, None, Option, Some, [], filter, ℕ, ◌∷◌, ◌≡◌, ◌⊎◌}
use Rattle.std.specs.List.{flat_map}
use Rattle.std.specs.Str.{bytes_eq}
use Rattle.aft_keeper.specs.declared.keeper.Pair.{Pair}
use Rattle.aft_records.specs.declared.stored.Commit.{Commit}
use Rattle.aft_records.specs.declared.stored.Marker.{Marker}
use Rattle.aft_records.specs.declared.stored.Version.{Version}
use Rattle.aft_model.specs.declared.door.DoorEntry.{DoorEntry}
use Rattle.aft_model.specs.Bytes.{are_bytes}
use Rattle.aft_model.specs.Committed.{committed, proven_pairs}
use Rattle.aft_model.specs.MayHold.{MayHold, OneOf, Unknown, may_hold}
use Rattle.aft_model.specs.Readings.{id_of_marker, marker_name, markers_in, record_name, versions_in}
use Rattle.aft_model.specs.Stages.{commits_of}
use Rattle.aft_model.proofs.Histories.{In}

-- the outcomes that are possible of a name, where what it may hold is known
abbrev pub outcomes : MayHold → List (Option (List ℕ))
outcomes Unknown = []
outcomes (OneOf possible) = possible

-- an outcome that a name may have: bytes, or absent
abbrev pub MayBe : List ℕ → List DoorEntry → Option (List ℕ) → Type 0
MayBe name history outcome = In outcome (outcomes (may_hold name history))

-- a name is surely absent: nothing else is possible
abbrev pub OnlyAbsent : List ℕ → List DoorEntry → Type 0
OnlyAbsent name history = (outcome : Option (List ℕ)) → MayBe name history outcome → outcome ≡ None

-- a name can't be absent
abbrev pub NeverAbsent : List ℕ → List DoorEntry → Type 0
NeverAbsent name history = MayBe name history None → ⊥

-- the markers of a UUID that a pair is
abbrev pub markers_of : List ℕ → Pair → List Marker
markers_of uuid pair = filter (λ m. bytes_eq uuid (id_of_marker m).uuid) (markers_in pair)

-- the commits of a UUID whose record an outcome of the record's name is, and the markers that one of the marker's name is
abbrev pub records_at : List ℕ → Option (List ℕ) → List Commit
records_at uuid None = []
records_at uuid (Some bytes) = commits_of uuid (record { name = record_name uuid; bytes = bytes })

abbrev pub markers_at : List ℕ → Option (List ℕ) → List Marker
markers_at uuid None = []
markers_at uuid (Some bytes) = markers_of uuid (record { name = marker_name uuid; bytes = bytes })

-- what a list has, for whatever is possible
pub record Possible {A : Type 0} (name : List ℕ) (read : Option (List ℕ) → List A) (history : List DoorEntry) (x : A) : Type 0 where
  pub outcome : Option (List ℕ)
  pub may : MayBe name history outcome
  pub among : In x (read outcome)

-- a commit of a UUID whose record may stand under its name
abbrev pub MayRecord : List ℕ → List DoorEntry → Commit → Type 0
MayRecord uuid history c = Possible (record_name uuid) (records_at uuid) history c

-- a marker of a UUID that may stand under its name
abbrev pub MayMark : List ℕ → List DoorEntry → Marker → Type 0
MayMark uuid history m = Possible (marker_name uuid) (markers_at uuid) history m

-- a commit of a UUID that a history has acknowledged or shown
abbrev pub CommittedOf : List ℕ → List DoorEntry → Commit → Type 0
CommittedOf uuid history c = In c (committed history) × (c.id.uuid ≡ uuid)

-- no commit of a UUID is acknowledged or shown
abbrev pub Uncommitted : List ℕ → List DoorEntry → Type 0
Uncommitted uuid history = (c : Commit) → CommittedOf uuid history c → ⊥

-- a commit of a UUID that is acknowledged or shown, or possible
abbrev pub Appears : List ℕ → List DoorEntry → Commit → Type 0
Appears uuid history c = CommittedOf uuid history c ⊎ MayRecord uuid history c

-- the markers that a history has acknowledged or shown
abbrev pub proven_markers : List DoorEntry → List Marker
proven_markers history = flat_map (λ entry. flat_map markers_in (proven_pairs entry)) history

-- a marker of a UUID that a history has acknowledged or shown
abbrev pub ProvenOf : List ℕ → List DoorEntry → Marker → Type 0
ProvenOf uuid history m = In m (proven_markers history) × ((id_of_marker m).uuid ≡ uuid)

-- a name surely holds one text, a version of a UUID
pub record Stored (uuid name : List ℕ) (history : List DoorEntry) : Type 0 where
  pub bytes : List ℕ
  pub version : Version
  pub only : may_hold name history ≡ OneOf (Some bytes ∷ [])
  pub made : IsTrue (are_bytes bytes)
  pub reads : In version (versions_in (record { name = name; bytes = bytes }))
  pub of : version.id.uuid ≡ uuid
