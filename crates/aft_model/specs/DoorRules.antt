-- The rules of the open door, one for each kind of entry: what the caller must know, and what the door tests in its turn.
use Rattle.std.specs.Prelude.{Bool, List, None, Option, Some, false, is_some, nat_lt, not, true, ℕ, ◌&&◌, ◌==◌, ◌||◌}
use Rattle.std.specs.List.{list_all, list_any}
use Rattle.aft_id.specs.declared.txn_id.TxnId.{TxnId}
use Rattle.aft_keeper.specs.declared.keeper.KeeperCall.{KeeperCall}
use Rattle.aft_keeper.specs.declared.keeper.KeeperCall.TheVariants.{Delete, Put}
use Rattle.aft_keeper.specs.declared.keeper.Pair.{Pair}
use Rattle.aft_records.specs.declared.name.Name.{Name}
use Rattle.aft_records.specs.declared.name.Name.TheVariants.{CommitOf, RetiredOf, VersionOf}
use Rattle.aft_records.specs.declared.stored.Marker.{Marker}
use Rattle.aft_records.specs.declared.stored.Marker.TheVariants.{Done, Full}
use Rattle.aft_records.specs.declared.stored.Record.{Record}
use Rattle.aft_records.specs.declared.stored.Version.{Version}
use Rattle.aft_records.specs.NameReading.{name_of}
use Rattle.aft_model.specs.declared.door.DoorEntry.{DoorEntry}
use Rattle.aft_model.specs.Claims.{claim_place, forgotten, given_up, holder, holds}
use Rattle.aft_model.specs.DoorKnowledge.{is_untouched, knows_marked, knows_orphan, knows_record_gone, knows_short, knows_stored, knows_superseded, knows_unused, knows_versions_gone, shows_first_format}
use Rattle.aft_model.specs.Membership.{Incarnation, fenced, incarnation, is_up, same_incarnation, the_office, ups}
use Rattle.aft_model.specs.Readings.{markers_in, versions_in, written_in}

-- an incarnation comes up: none of its node is up, and it is newer than each of its node that was fenced
abbrev pub may_come_up : List DoorEntry → Incarnation → Bool
may_come_up history who = list_all (λ other. not (other.node == who.node)) (ups history) && list_all (λ other. not (other.node == who.node) || nat_lt other.inc who.inc) (fenced history)

-- an incarnation is fenced: it is up, and not the office
abbrev pub may_be_fenced : List DoorEntry → Incarnation → Bool
may_be_fenced history who = is_up who history && not (who.node == 0)

-- a claim: nobody holds the UUID, and it isn't forgotten
abbrev pub may_claim : List DoorEntry → List ℕ → Bool
may_claim history uuid = not (is_some (holder uuid history)) && not (forgotten uuid history)

-- a release: the caller holds the UUID
abbrev pub may_release : List DoorEntry → Incarnation → List ℕ → Bool
may_release history who uuid = holds who uuid history

-- a put of a version: the caller holds its UUID, and knows that it is unused
abbrev pub may_put_version : List DoorEntry → Incarnation → Version → Bool
may_put_version history who v = holds who v.id.uuid history && knows_unused who v.id.uuid history

-- a put of a record by a node: it names its own incarnation as the origin, holds the UUID, and knows that it is unused and that each version is stored
abbrev pub may_put_record : List DoorEntry → Incarnation → Record → Bool
may_put_record history who r =
    not (who.node == 0)
    && same_incarnation who (incarnation r.origin.node r.origin.inc)
    && holds who r.commit.id.uuid history
    && knows_stored who r.commit history

-- a put of a record by the office: in place of one of the first format that was shown, where nobody has come up and nothing was deleted
abbrev pub may_upgrade : List DoorEntry → Incarnation → Record → Bool
may_upgrade history who r = same_incarnation the_office who && r.origin.node == 0 && shows_first_format r.commit history && is_untouched history

-- whether each incarnation of a node that is up has given an id up
abbrev pub all_gave_up : List DoorEntry → TxnId → Bool
all_gave_up history id = list_all (λ who. who.node == 0 || given_up who id history) (ups history)

-- a put of a marker, by the office: of a full one where the commit is known to be superseded, and each node that is up has given it up, and of a short one where its versions are known to be gone
abbrev pub may_put_marker : List DoorEntry → Incarnation → Marker → Bool
may_put_marker history who (Full c) = same_incarnation the_office who && knows_superseded c history && all_gave_up history c.id
may_put_marker history who (Done id) = same_incarnation the_office who && knows_versions_gone id history

-- a put: of a version, a record of the second format or a marker, under its name
abbrev pub may_put : List DoorEntry → Incarnation → Pair → Bool
may_put history who pair =
    list_any (may_put_version history who) (versions_in pair)
    || list_any (λ r. may_put_record history who r || may_upgrade history who r) (written_in pair)
    || list_any (may_put_marker history who) (markers_in pair)

-- a delete of a version of an id that nobody has, by the office: it holds the UUID, and behind the claim by which it does it knows that nobody has the id
abbrev pub is_looked_at : TxnId → List DoorEntry → Option ℕ → Bool
is_looked_at id history None = false
is_looked_at id history (Some place) = knows_orphan id place history

abbrev pub may_delete_orphan : List DoorEntry → TxnId → Bool
may_delete_orphan history id = holds the_office id.uuid history && is_looked_at id history (claim_place id.uuid history)

-- a delete: by the office, of a record that is known to be marked, and of a version whose record is known to be gone or whose id nobody has; and by who holds a UUID, of its marker that it knows to be short
abbrev pub may_delete : List DoorEntry → Incarnation → Option Name → Bool
may_delete history who (Some (CommitOf uuid)) = same_incarnation the_office who && knows_marked uuid history
may_delete history who (Some (VersionOf key id)) = same_incarnation the_office who && (knows_record_gone id history || may_delete_orphan history id)
may_delete history who (Some (RetiredOf uuid)) = holds who uuid history && knows_short who uuid history
may_delete history who None = false

-- a call: any get and any scan, and a put or a delete by its rule
abbrev pub may_call : List DoorEntry → Incarnation → KeeperCall → Bool
may_call history who (Put name bytes) = may_put history who (record { name = name; bytes = bytes })
may_call history who (Delete name) = may_delete history who (name_of name)
may_call history who asked = true
