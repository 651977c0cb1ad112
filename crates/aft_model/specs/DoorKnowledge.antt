-- What the caller of each rule of the door must know. Once it is true, it stays true whatever is added, but for what an upgrade
-- must know (`is_untouched`), which holds until a node comes up or something is deleted.
use Rattle.std.specs.Prelude.{Bool, List, drop, false, is_some, map, not, suc, true, ℕ, ◌&&◌, ◌++◌, ◌||◌}
use Rattle.std.specs.List.{list_all, list_any}
use Rattle.std.specs.Str.{bytes_eq}
use Rattle.aft_id.specs.declared.txn_id.TxnId.{TxnId}
use Rattle.aft_id.specs.TxnId.{same_id}
use Rattle.aft_keeper.specs.declared.keeper.KeeperAnswer.TheVariants.{Absent, Done, Found}
use Rattle.aft_keeper.specs.declared.keeper.KeeperCall.TheVariants.{Delete, Get, Put}
use Rattle.aft_keeper.specs.declared.keeper.Pair.{Pair}
use Rattle.aft_records.specs.declared.stored.Commit.{Commit}
use Rattle.aft_records.specs.Commits.{has_uuid, is_among, is_listed}
use Rattle.aft_records.specs.Superseded.{is_superseded}
use Rattle.aft_model.specs.declared.door.DoorAct.{DoorAct}
use Rattle.aft_model.specs.declared.door.DoorAct.TheVariants.{Call, Claim, Opened, Up}
use Rattle.aft_model.specs.declared.door.DoorEntry.{DoorEntry}
use Rattle.aft_model.specs.Committed.{committed, marked, marked_by, shorts_in}
use Rattle.aft_model.specs.Evidence.{shown_pairs, shows_absent}
use Rattle.aft_model.specs.History.{first_of, followed}
use Rattle.aft_model.specs.Membership.{Incarnation, incarnation, same_incarnation, the_office}
use Rattle.aft_model.specs.Readings.{first_format_in, id_of_marker, is_version_at, marker_name, markers_in, record_name, records_in, version_name}

-- whether an act is the end of the opening
abbrev pub opens : DoorAct → Bool
opens Opened = true
opens act = false

-- whether the opening has ended
abbrev pub is_open : List DoorEntry → Bool
is_open history = list_any (λ entry. opens entry.act) history

-- whether an act is this incarnation's claim of this UUID
abbrev pub claims : Incarnation → List ℕ → DoorAct → Bool
claims who uuid (Claim claimed node inc) = same_incarnation who (incarnation node inc) && bytes_eq uuid claimed
claims who uuid act = false

-- whether an act is this incarnation's get of this name, answered absent
abbrev pub finds_absent : Incarnation → List ℕ → DoorAct → Bool
finds_absent who name (Call node inc (Get got) Absent) = same_incarnation who (incarnation node inc) && bytes_eq name got
finds_absent who name act = false

-- whether an act is this incarnation's put of a version of this key and id, acknowledged
abbrev pub stores_version : Incarnation → List ℕ → TxnId → DoorAct → Bool
stores_version who key id (Call node inc (Put name bytes) Done) = same_incarnation who (incarnation node inc) && is_version_at key id (record { name = name; bytes = bytes })
stores_version who key id act = false

-- whether an act is a delete of this name, acknowledged
abbrev pub deletes : List ℕ → DoorAct → Bool
deletes name (Call node inc (Delete deleted) Done) = bytes_eq name deleted
deletes name act = false

-- ---- puts of a version, and of a record

-- whether an incarnation has claimed a UUID, then found no record of it, then no marker, and what follows passes a test
abbrev pub found_unused : Incarnation → List ℕ → (List DoorEntry → Bool) → List DoorEntry → Bool
found_unused who uuid then history =
    followed (λ entry. claims who uuid entry.act)
    (followed (λ entry. finds_absent who (record_name uuid) entry.act)
    (followed (λ entry. finds_absent who (marker_name uuid) entry.act) then)) history

-- whether an incarnation may put versions of a UUID, as far as it must know: it has claimed it, and then found neither record nor marker
abbrev pub knows_unused : Incarnation → List ℕ → List DoorEntry → Bool
knows_unused who uuid history = found_unused who uuid (λ rest. true) history

-- whether each version of a commit was put and acknowledged, by this incarnation
abbrev pub has_stored : Incarnation → Commit → List DoorEntry → Bool
has_stored who c history = list_all (λ key. list_any (λ entry. stores_version who key c.id entry.act) history) c.keys

-- whether an incarnation may put the record of a commit, as far as it must know: after that its put of each version was acknowledged
abbrev pub knows_stored : Incarnation → Commit → List DoorEntry → Bool
knows_stored who c history = found_unused who c.id.uuid (has_stored who c) history

-- ---- retiring a commit

-- whether a commit may be marked, as far as the office must know: it is committed, and committed commits supersede it
abbrev pub knows_superseded : Commit → List DoorEntry → Bool
knows_superseded c history = is_among c (committed history) && is_superseded c (committed history)

-- whether the record of a UUID may be deleted: a commit of it is marked
abbrev pub knows_marked : List ℕ → List DoorEntry → Bool
knows_marked uuid history = list_any (has_uuid uuid) (marked history)

-- whether a commit is marked, and what follows that mark passes a test
abbrev pub marked_then : (List DoorEntry → Bool) → Commit → List DoorEntry → Bool
marked_then then c history = followed (λ entry. is_among c (marked_by entry)) then history

-- whether an entry shows a commit's record gone: an acknowledged delete, or that it is absent
abbrev pub shows_gone : Commit → DoorEntry → Bool
shows_gone c entry = deletes (record_name c.id.uuid) entry.act || shows_absent (record_name c.id.uuid) entry

-- whether versions of an id may be deleted: a commit of it is marked, and then its record was deleted or shown absent
abbrev pub knows_record_gone : TxnId → List DoorEntry → Bool
knows_record_gone id history = list_any (λ c. same_id id c.id && marked_then (list_any (shows_gone c)) c history) (marked history)

-- whether each version of a commit was deleted, and that acknowledged
abbrev pub has_deleted : Commit → List DoorEntry → Bool
has_deleted c history = list_all (λ key. list_any (λ entry. deletes (version_name key c.id) entry.act) history) c.keys

-- whether the short marker of an id may be put: a commit of it is marked, and then each of its versions was deleted
abbrev pub knows_versions_gone : TxnId → List DoorEntry → Bool
knows_versions_gone id history = list_any (λ c. same_id id c.id && marked_then (has_deleted c) c history) (marked history)

-- ---- forgetting a UUID

-- whether a pair is the short marker of a UUID
abbrev pub is_short_of : List ℕ → Pair → Bool
is_short_of uuid pair = list_any (λ id. bytes_eq uuid id.uuid) (shorts_in pair)

-- whether an act is this incarnation's get of a name, which found bytes that pass a test with it
abbrev pub finds : Incarnation → List ℕ → (Pair → Bool) → DoorAct → Bool
finds who name test (Call node inc (Get got) (Found bytes)) = same_incarnation who (incarnation node inc) && bytes_eq name got && test (record { name = got; bytes = bytes })
finds who name test act = false

-- whether an incarnation may forget a UUID, as far as it must know: it has claimed it, and then found its short marker
abbrev pub knows_short : Incarnation → List ℕ → List DoorEntry → Bool
knows_short who uuid history = followed (λ entry. claims who uuid entry.act) (list_any (λ entry. finds who (marker_name uuid) (is_short_of uuid) entry.act)) history

-- the same of the short marker of this id
abbrev pub knows_short_of : Incarnation → TxnId → List DoorEntry → Bool
knows_short_of who id history =
    followed (λ entry. claims who id.uuid entry.act) (list_any (λ entry. finds who (marker_name id.uuid) (λ pair. is_listed id (shorts_in pair)) entry.act)) history

-- ---- deleting the versions of an id that nobody has

-- the ids that a pair shows: that of a record, and that of a marker
abbrev pub ids_in : Pair → List TxnId
ids_in pair = map (λ c. c.id) (records_in pair) ++ map id_of_marker (markers_in pair)

-- whether a pair shows another id, and not this one
abbrev pub is_of_other : TxnId → Pair → Bool
is_of_other id pair = is_some (first_of (ids_in pair)) && not (is_listed id (ids_in pair))

-- whether an act is the office's get of a name, which found nothing or another id than this one
abbrev pub finds_other : TxnId → List ℕ → DoorAct → Bool
finds_other id name act = finds_absent the_office name act || finds the_office name (is_of_other id) act

-- whether the office may delete versions of an id, as far as it must know: behind this place, where it claimed its UUID, it found no record of the id, and then no marker
abbrev pub knows_orphan : TxnId → ℕ → List DoorEntry → Bool
knows_orphan id place history =
    followed (λ entry. finds_other id (record_name id.uuid) entry.act) (list_any (λ entry. finds_other id (marker_name id.uuid) entry.act)) (drop (suc place) history)

-- ---- upgrading a record

-- whether a history shows the record of a commit in the first format
abbrev pub shows_first_format : Commit → List DoorEntry → Bool
shows_first_format c history = list_any (λ entry. list_any (λ pair. is_among c (first_format_in pair)) (shown_pairs entry)) history

-- whether an act deletes something, whatever was answered
abbrev pub is_delete : DoorAct → Bool
is_delete (Call node inc (Delete name) answer) = true
is_delete act = false

-- whether an act is the coming up of an incarnation
abbrev pub is_up_act : DoorAct → Bool
is_up_act (Up node inc) = true
is_up_act act = false

-- whether nobody has come up and nothing was deleted since the opening
abbrev pub is_untouched : List DoorEntry → Bool
is_untouched history = is_open history && not (list_any (λ entry. is_up_act entry.act || is_delete entry.act) history)
