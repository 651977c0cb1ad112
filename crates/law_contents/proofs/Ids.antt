-- What contents hold of one UUID: the record or the marker that can't be absent, and the versions of a record.
use Rattle.std.proofs.Common.{◌≡◌, ℕ, ◌&&◌, List, refl, sym, subst, inl, inr}
use Rattle.std.specs.Prelude.{IsTrue, Option, Some, None}
use Rattle.std.specs.List.{flat_map, list_any}
use Rattle.std.specs.Str.{bytes_eq}
use Rattle.std.proofs.lemmas.Bool.{and_from}
use Rattle.aft_id.specs.TxnId.{IsUuid, same_id}
use Rattle.aft_keeper.specs.declared.keeper.Pair.{Pair}
use Rattle.aft_keeper.specs.Contents.{IsContents, bytes_at}
use Rattle.aft_records.specs.declared.stored.Commit.{Commit}
use Rattle.aft_records.specs.declared.stored.Marker.{Marker}
use Rattle.aft_records.specs.declared.stored.Version.{Version}
use Rattle.aft_records.specs.Commits.{same_commit}
use Rattle.aft_records.specs.Reading.{commit_of, marker_of}
use Rattle.aft_model.specs.declared.door.DoorEntry.{DoorEntry}
use Rattle.aft_model.specs.Contents.{GoesAlong}
use Rattle.aft_model.specs.Cut.{has_marker}
use Rattle.aft_model.specs.DoorKnowledge.{is_open}
use Rattle.aft_model.specs.Readings.{id_of_marker, is_record_of, is_version_at, marker_name, markers_in, record_name, records_in, version_name, versions_in}
use Rattle.aft_model.specs.Sound.{recorded}
use Rattle.aft_model.proofs.Histories.{In, any_from, in_flat_map}
use Rattle.aft_model.proofs.Ids.{same_id-refl}
use Rattle.aft_model.proofs.Sights.{bytes_eq-refl, read-name}
use Rattle.law_kept.specs.Kept.{Kept, Lawful}
use Rattle.law_kept.specs.Outcomes.{MayBe, MayMark, MayRecord, NeverAbsent, outcomes}
use Rattle.law_kept.proofs.Fates.{marker_of_uuid, marker_read, markers_under, record_of_uuid, record_read, records_under, under}
use Rattle.law_kept.proofs.Gone.{flat_map_in}
use Rattle.law_kept.proofs.PutMarker.{same_commit_itself}
use Rattle.law_kept.proofs.Written.{commit_limits, marker_limits, marker_uuid}
use Rattle.law_whole.proofs.Readable.{legible}
use Rattle.law_whole.proofs.There.{same_version}
use Rattle.law_whole.proofs.Throughout.{kept_open}
use Rattle.law_contents.proofs.Held.{may_stand, stands, stands_in}

module _ (at_first now : List Pair) (history : List DoorEntry) (contents : IsContents at_first) (along : GoesAlong at_first history now) (lawful : Lawful history) (opened : IsTrue (is_open history)) where
  -- ---- what stands there is possible

  pub kept_of : (uuid : List ℕ) → IsUuid uuid → Kept uuid history
  kept_of uuid its = kept_open uuid its history opened lawful

  -- a record that stands there, of a UUID of which it may stand there
  pub record RecordThere (c : Commit) : Type 0 where
    pub its : IsUuid c.id.uuid
    pub may : MayRecord c.id.uuid history c

  pub record_there : (c : Commit) → In c (recorded now) → RecordThere c
  record_there c among =
      let pair = in_flat_map records_in c now among in
      let named : pair.0.name ≡ record_name c.id.uuid = read-name pair.0.name (λ (d : Commit). record_name d.id.uuid) (commit_of pair.0.bytes) c pair.2 in
      let readable = legible (record_name c.id.uuid) refl history opened lawful in
      let at : bytes_at (record_name c.id.uuid) now ≡ Some pair.0.bytes = subst (λ n. bytes_at n now ≡ Some pair.0.bytes) named (stands at_first now history contents along pair.0 pair.1) in
      let may : MayBe (record_name c.id.uuid) history (Some pair.0.bytes) = subst (MayBe (record_name c.id.uuid) history) at (may_stand at_first now history contents along (record_name c.id.uuid) readable.0) in
      record {
        its = (commit_limits pair.0 c (readable.1 pair.0.bytes may).0 pair.2).0.id.uuid;
        may = record { outcome = Some pair.0.bytes; may = may; among = (records_under c.id.uuid pair.0 c pair.2 refl).1 };
      }

  -- a marker that stands there likewise
  pub record MarkerThere (m : Marker) : Type 0 where
    pub its : IsUuid (id_of_marker m).uuid
    pub may : MayMark (id_of_marker m).uuid history m

  pub marker_there : (pair : Pair) (m : Marker) → In pair now → In m (markers_in pair) → MarkerThere m
  marker_there pair m among reads =
      let uuid : List ℕ = (id_of_marker m).uuid in
      let named : pair.name ≡ marker_name uuid = read-name pair.name (λ (n : Marker). marker_name (id_of_marker n).uuid) (marker_of pair.bytes) m reads in
      let readable = legible (marker_name uuid) refl history opened lawful in
      let at : bytes_at (marker_name uuid) now ≡ Some pair.bytes = subst (λ n. bytes_at n now ≡ Some pair.bytes) named (stands at_first now history contents along pair among) in
      let may : MayBe (marker_name uuid) history (Some pair.bytes) = subst (MayBe (marker_name uuid) history) at (may_stand at_first now history contents along (marker_name uuid) readable.0) in
      record {
        its = marker_uuid m (marker_limits pair m (readable.1 pair.bytes may).0 reads);
        may = record { outcome = Some pair.bytes; may = may; among = (markers_under uuid pair m reads refl).1 };
      }

  -- ---- what can't be absent stands there

  module _ (uuid : List ℕ) (its_uuid : IsUuid uuid) where
    -- a record of the UUID stands there
    pub record SomeRecord : Type 0 where
      pub commit : Commit
      pub among : In commit (recorded now)
      pub reads : IsTrue (list_any (is_record_of commit) now)
      pub of : commit.id.uuid ≡ uuid
      pub may : MayRecord uuid history commit

    pub record_held : NeverAbsent (record_name uuid) history → SomeRecord
    record_held present = by_outcome (bytes_at (record_name uuid) now) refl (may_stand at_first now history contents along (record_name uuid) (kept_of uuid its_uuid).records_known.some)
      where
        by_outcome : (o : Option (List ℕ)) → bytes_at (record_name uuid) now ≡ o → MayBe (record_name uuid) history o → SomeRecord
        by_outcome None is may = absurd (present may)
        by_outcome (Some bytes) is may =
            let read = (kept_of uuid its_uuid).records_known.each bytes may in
            let there = stands_in at_first now history contents along (record_name uuid) bytes is in
            let in_it : In read.1 (records_in (under (record_name uuid) bytes)) = record_read uuid bytes read.1 read.2 in
            record {
              commit = read.1;
              among = flat_map_in records_in read.1 (under (record_name uuid) bytes) now there in_it;
              reads = any_from (is_record_of read.1) (under (record_name uuid) bytes) now there (any_from (same_commit read.1) read.1 (records_in (under (record_name uuid) bytes)) in_it (same_commit_itself read.1));
              of = record_of_uuid uuid (Some bytes) read.1 read.2;
              may = record { outcome = Some bytes; may = may; among = read.2 };
            }

    pub marker_held : NeverAbsent (marker_name uuid) history → IsTrue (has_marker uuid now)
    marker_held present = by_outcome (bytes_at (marker_name uuid) now) refl (may_stand at_first now history contents along (marker_name uuid) (kept_of uuid its_uuid).markers_known.some)
      where
        by_outcome : (o : Option (List ℕ)) → bytes_at (marker_name uuid) now ≡ o → MayBe (marker_name uuid) history o → IsTrue (has_marker uuid now)
        by_outcome None is may = absurd (present may)
        by_outcome (Some bytes) is may =
            let read = (kept_of uuid its_uuid).markers_known.each bytes may in
            let there = stands_in at_first now history contents along (marker_name uuid) bytes is in
            any_from (λ (m : Marker). bytes_eq uuid (id_of_marker m).uuid) read.1 (flat_map markers_in now)
            (flat_map_in markers_in read.1 (under (marker_name uuid) bytes) now there (marker_read uuid bytes read.1 read.2))
            (subst (λ u. IsTrue (bytes_eq uuid u)) (sym (marker_of_uuid uuid (Some bytes) read.1 read.2)) (bytes_eq-refl uuid))

  -- the versions of a record that may stand there do
  pub versions_there : (c : Commit) → IsUuid c.id.uuid → MayRecord c.id.uuid history c → (key : List ℕ) → In key c.keys → IsTrue (list_any (is_version_at key c.id) now)
  versions_there c its may key among =
      let kept = kept_of c.id.uuid its in
      let stored = kept.whole c may key among in
      let same = same_version c history kept may key among in
      let name : List ℕ = version_name key c.id in
      let known : MayBe name history (Some stored.bytes) = subst (λ m. In (Some stored.bytes) (outcomes m)) (sym stored.only) (inl refl) in
      let there = may_stand at_first now history contents along name (Some stored.bytes, known) in
      let is : bytes_at name now ≡ Some stored.bytes = elim (subst (λ m. In (bytes_at name now) (outcomes m)) stored.only there) [ inl here ↦ here | inr nowhere ↦ absurd nowhere ] in
      let passes : IsTrue (bytes_eq key stored.version.key && same_id c.id stored.version.id) =
      and_from _ _ (subst (λ k. IsTrue (bytes_eq key k)) same.0 (bytes_eq-refl key)) (subst (λ i. IsTrue (same_id c.id i)) same.1 (same_id-refl c.id)) in
      any_from (is_version_at key c.id) (under name stored.bytes) now (stands_in at_first now history contents along name stored.bytes is)
      (any_from (λ (v : Version). bytes_eq key v.key && same_id c.id v.id) stored.version (versions_in (under name stored.bytes)) stored.reads passes)
