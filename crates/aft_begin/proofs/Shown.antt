-- What bytes under the name of a record or a marker of a UUID are read as, and what a begin shows by them.
use Rattle.std.proofs.Common.{◌≡◌, ℕ, Bool, true, false, List, [], ◌∷◌, ◌++◌, refl, sym, ap, subst, ◌∙◌, append-nil}
use Rattle.std.specs.Prelude.{Err, IsTrue, None, Ok, Result, Some, if◌then◌else◌, map}
use Rattle.std.specs.List.{flat_map}
use Rattle.std.specs.Str.{bytes_eq}
use Rattle.std.proofs.lemmas.Bool.{false_from_ne_true, or_left, true≢false}
use Rattle.aft_id.specs.TxnId.{IsUuid, same_id}
use Rattle.aft_id.specs.declared.txn_id.TxnId.{TxnId}
use Rattle.aft_keeper.specs.declared.keeper.Pair.{Pair}
use Rattle.aft_records.specs.declared.fault.RecordFault.{RecordFault}
use Rattle.aft_records.specs.declared.name.Name.TheVariants.{CommitOf, RetiredOf}
use Rattle.aft_records.specs.declared.stored.Commit.{Commit}
use Rattle.aft_records.specs.declared.stored.Marker.{Marker}
use Rattle.aft_records.specs.declared.stored.Marker.TheVariants.{Done, Full}
use Rattle.aft_records.specs.declared.stored.Version.{Version}
use Rattle.aft_records.specs.Reading.{commit_of, marker_of, version_of}
use Rattle.aft_records.specs.Stored.{IsMarker}
use Rattle.aft_records.proofs.Found.{commit_found, marker_found}
use Rattle.aft_records.proofs.NameWritten.{names_apart}
use Rattle.aft_records.specs.Commits.{ids_of, is_listed}
use Rattle.aft_model.specs.declared.reply.Reply.TheVariants as replies
use Rattle.aft_model.specs.Bytes.{are_bytes}
use Rattle.aft_model.specs.Committed.{done_by, retired_by, shorts_in}
use Rattle.aft_model.proofs.Ids.{same_id-refl}
use Rattle.aft_lines.specs.CausesBegins.{kept_ids}
use Rattle.aft_model.specs.DoorKnowledge.{ids_in}
use Rattle.aft_model.specs.Readings.{has_reading, id_of_marker, marker_name, markers_in, read_under, record_name, records_in, version_name}
use Rattle.aft_model.proofs.Sights.{bytes_eq-refl, no_marker, no_version, same_bytes}
use Rattle.law_names.proofs.Tests.{bytes_are}
use Rattle.aft_begin.specs.declared.sought.Sought.{Sought}
use Rattle.aft_begin.specs.declared.sought.Sought.TheVariants.{Marker as TheMarker, Record as TheRecord}
use Rattle.aft_begin.specs.declared.looked.Looked.TheVariants.{Shows, Stops}
use Rattle.aft_begin.specs.Seen.{id_read, is_short, name_of, read_id, short_read, told, told_of}

-- under the name of a marker stands no record and no version
no_record : (uuid : List ℕ) (r : Result Commit RecordFault) → read_under (marker_name uuid) (λ (c : Commit). record_name c.id.uuid) r ≡ []
no_record uuid (Ok c) = refl
no_record uuid (Err e) = refl

no_version_there : (uuid : List ℕ) (r : Result Version RecordFault) → read_under (marker_name uuid) (λ (v : Version). version_name v.key v.id) r ≡ []
no_version_there uuid (Ok v) = refl
no_version_there uuid (Err e) = refl

some_id : (a b : TxnId) → Some a ≡ Some b → a ≡ b
some_id a b e = cc

-- ---- what was read has an id, and a name by its UUID

-- what was read of this UUID stands there
ids_read : {A : Type 0} (name : List ℕ → List ℕ) (id_of : A → TxnId) (uuid : List ℕ) (r : Result A RecordFault) (id : TxnId) → id_read id_of r ≡ Some id → IsTrue (bytes_eq uuid id.uuid) → map id_of (read_under (name uuid) (λ x. name (id_of x).uuid) r) ≡ id ∷ []
ids_read {A} name id_of uuid (Ok x) id read same =
    let its : id_of x ≡ id = some_id (id_of x) id read in
    let one : uuid ≡ (id_of x).uuid = same_bytes uuid id.uuid same ∙ ap (λ (i : TxnId). i.uuid) (sym its) in
    ap (λ (t : Bool). map id_of (if t then x ∷ [] else [])) (subst (λ (u : List ℕ). bytes_eq (name uuid) (name u) ≡ true) one (bytes_eq-refl (name uuid)))
    ∙ ap (λ (i : TxnId). i ∷ []) its
ids_read {A} name id_of uuid (Err e) id read same = absurd (none_is read)
  where
    none_is : None ≡ Some id → ⊥
    none_is e = cc

-- and nothing of another
none_read : {A : Type 0} (name : List ℕ → List ℕ) (id_of : A → TxnId) (uuid : List ℕ) (r : Result A RecordFault) → ((x : A) → r ≡ Ok x → name uuid ≡ name (id_of x).uuid → uuid ≡ (id_of x).uuid) → ((id : TxnId) → id_read id_of r ≡ Some id → bytes_eq uuid id.uuid ≡ false) → read_under (name uuid) (λ x. name (id_of x).uuid) r ≡ []
none_read {A} name id_of uuid (Ok x) apart other =
    ap (λ (t : Bool). if t then x ∷ [] else [])
    (false_from_ne_true (bytes_eq (name uuid) (name (id_of x).uuid)) (λ same.
    true≢false (sym (subst (λ (u : List ℕ). bytes_eq uuid u ≡ true) (apart x refl (same_bytes (name uuid) (name (id_of x).uuid) same)) (bytes_eq-refl uuid)) ∙ other (id_of x) refl)))
none_read {A} name id_of uuid (Err e) apart other = refl

-- ---- records and markers

commit_is : (u v : List ℕ) → CommitOf u ≡ CommitOf v → u ≡ v
commit_is u v e = cc

retired_is : (u v : List ℕ) → RetiredOf u ≡ RetiredOf v → u ≡ v
retired_is u v e = cc

records_apart : (uuid bytes : List ℕ) → IsUuid uuid → IsTrue (are_bytes bytes) → (c : Commit) → commit_of bytes ≡ Ok c → record_name uuid ≡ record_name c.id.uuid → uuid ≡ c.id.uuid
records_apart uuid bytes is made c read same =
    commit_is uuid c.id.uuid (names_apart (CommitOf uuid) (CommitOf c.id.uuid) [] [] is (commit_found bytes c (bytes_are bytes made) read).0.0.id.uuid (ap (λ (text : List ℕ). text ++ []) same)).0

marker_uuid : (m : Marker) → IsMarker m → IsUuid (id_of_marker m).uuid
marker_uuid (Full c) is = is.0.id.uuid
marker_uuid (Done id) is = is.0.uuid

markers_apart : (uuid bytes : List ℕ) → IsUuid uuid → IsTrue (are_bytes bytes) → (m : Marker) → marker_of bytes ≡ Ok m → marker_name uuid ≡ marker_name (id_of_marker m).uuid → uuid ≡ (id_of_marker m).uuid
markers_apart uuid bytes is made m read same =
    retired_is uuid (id_of_marker m).uuid (names_apart (RetiredOf uuid) (RetiredOf (id_of_marker m).uuid) [] [] is (marker_uuid m (marker_found bytes m (bytes_are bytes made) read).0) (ap (λ (text : List ℕ). text ++ []) same)).0

-- ---- what a begin shows

-- the pair that a look found
abbrev pub found : Sought → List ℕ → List ℕ → Pair
found sought uuid bytes = record { name = name_of sought uuid; bytes = bytes }

-- the id of its UUID
pub shows_it : (sought : Sought) (uuid bytes : List ℕ) (id : TxnId) → read_id sought bytes ≡ Some id → IsTrue (bytes_eq uuid id.uuid) → ids_in (found sought uuid bytes) ≡ id ∷ []
shows_it TheRecord uuid bytes id read same =
    ap (λ (ms : List Marker). map (λ (c : Commit). c.id) (records_in (found TheRecord uuid bytes)) ++ map id_of_marker ms) (no_marker uuid (marker_of bytes))
    ∙ ap (λ (ids : List TxnId). ids ++ []) (ids_read record_name (λ (c : Commit). c.id) uuid (commit_of bytes) id read same)
shows_it TheMarker uuid bytes id read same =
    ap (λ (cs : List Commit). map (λ (c : Commit). c.id) cs ++ map id_of_marker (markers_in (found TheMarker uuid bytes))) (no_record uuid (commit_of bytes))
    ∙ ids_read marker_name id_of_marker uuid (marker_of bytes) id read same

-- or nothing that has a reading
pub unread : (sought : Sought) (uuid bytes : List ℕ) → IsUuid uuid → IsTrue (are_bytes bytes) → ((id : TxnId) → read_id sought bytes ≡ Some id → bytes_eq uuid id.uuid ≡ false) → has_reading (found sought uuid bytes) ≡ false
unread TheRecord uuid bytes is made other =
    rw (none_read record_name (λ (c : Commit). c.id) uuid (commit_of bytes) (records_apart uuid bytes is made) other, no_marker uuid (marker_of bytes), no_version uuid (version_of bytes)) refl
unread TheMarker uuid bytes is made other =
    rw (no_record uuid (commit_of bytes), none_read marker_name id_of_marker uuid (marker_of bytes) (markers_apart uuid bytes is made) other, no_version_there uuid (version_of bytes)) refl

-- ---- what a forget shows

-- a record keeps its id, and so does a full marker
pub keeps_record : (uuid bytes : List ℕ) (id : TxnId) → read_id TheRecord bytes ≡ Some id → IsTrue (bytes_eq uuid id.uuid) → IsTrue (is_listed id (kept_ids (found TheRecord uuid bytes)))
keeps_record uuid bytes id read same =
    subst (λ (ids : List TxnId). IsTrue (is_listed id ids))
    (sym (ap (λ (ms : List Marker). ids_of (records_in (found TheRecord uuid bytes) ++ flat_map retired_by ms)) (no_marker uuid (marker_of bytes)) ∙ ap ids_of (append-nil (records_in (found TheRecord uuid bytes))) ∙ ids_read record_name (λ (c : Commit). c.id) uuid (commit_of bytes) id read same))
    (or_left _ _ (same_id-refl id))

pub keeps_marker : (uuid bytes : List ℕ) (id : TxnId) → read_id TheMarker bytes ≡ Some id → IsTrue (bytes_eq uuid id.uuid) → is_short TheMarker bytes ≡ false → IsTrue (is_listed id (kept_ids (found TheMarker uuid bytes)))
keeps_marker uuid bytes id read same full =
    subst (λ (cs : List Commit). IsTrue (is_listed id (ids_of (cs ++ flat_map retired_by (markers_in (found TheMarker uuid bytes)))))) (sym (no_record uuid (commit_of bytes))) (by_read (marker_of bytes) read full)
  where
    by_read : (r : Result Marker RecordFault) → id_read id_of_marker r ≡ Some id → short_read r ≡ false → IsTrue (is_listed id (ids_of (flat_map retired_by (read_under (marker_name uuid) (λ (m : Marker). marker_name (id_of_marker m).uuid) r))))
    by_read (Ok (Full c)) read full =
        let its : c.id ≡ id = some_id c.id id read in
        let one : uuid ≡ c.id.uuid = same_bytes uuid id.uuid same ∙ ap (λ (i : TxnId). i.uuid) (sym its) in
        subst (λ (t : Bool). IsTrue (is_listed id (ids_of (flat_map retired_by (if t then Full c ∷ [] else []))))) (sym (subst (λ (u : List ℕ). bytes_eq (marker_name uuid) (marker_name u) ≡ true) one (bytes_eq-refl (marker_name uuid))))
        (or_left _ _ (subst (λ (i : TxnId). IsTrue (same_id id i)) (sym its) (same_id-refl id)))
    by_read (Ok (Done d)) read full = absurd (true≢false full)
    by_read (Err e) read full = absurd (none_is read)
      where
        none_is : None ≡ Some id → ⊥
        none_is e = cc

-- a short marker that is shown is of the UUID, and there
pub short_shown : (uuid bytes : List ℕ) (id : TxnId) → told TheMarker uuid bytes ≡ Shows id true → (uuid ≡ id.uuid) × IsTrue (is_listed id (shorts_in (found TheMarker uuid bytes)))
short_shown uuid bytes id shown = by_read (marker_of bytes) shown
  where
    by_read : (r : Result Marker RecordFault) → told_of (marker_name uuid) uuid (short_read r) (id_read id_of_marker r) ≡ Shows id true → (uuid ≡ id.uuid) × IsTrue (is_listed id (flat_map done_by (read_under (marker_name uuid) (λ (m : Marker). marker_name (id_of_marker m).uuid) r)))
    by_read (Err e) shown = absurd (differ shown)
      where
        differ : Stops (replies.Damaged (marker_name uuid)) ≡ Shows id true → ⊥
        differ e = cc
    by_read (Ok (Full c)) shown = absurd (by_test (bytes_eq uuid c.id.uuid) shown)
      where
        by_test : (same : Bool) → (if same then Shows c.id false else Stops (replies.Damaged (marker_name uuid))) ≡ Shows id true → ⊥
        by_test true e = cc
        by_test false e = cc
    by_read (Ok (Done d)) shown = by_test (bytes_eq uuid d.uuid) refl shown
      where
        one : Shows d true ≡ Shows id true → d ≡ id
        one e = cc

        differ : Stops (replies.Damaged (marker_name uuid)) ≡ Shows id true → ⊥
        differ e = cc

        by_test : (same : Bool) → bytes_eq uuid d.uuid ≡ same → (if same then Shows d true else Stops (replies.Damaged (marker_name uuid))) ≡ Shows id true → (uuid ≡ id.uuid) × IsTrue (is_listed id (flat_map done_by (if bytes_eq (marker_name uuid) (marker_name d.uuid) then Done d ∷ [] else [])))
        by_test false differs e = absurd (differ e)
        by_test true same e =
            let its : d ≡ id = one e in
            let same_uuid : uuid ≡ d.uuid = same_bytes uuid d.uuid same in (
              same_uuid ∙ ap (λ (i : TxnId). i.uuid) its,
              subst (λ (t : Bool). IsTrue (is_listed id (flat_map done_by (if t then Done d ∷ [] else [])))) (sym (subst (λ (u : List ℕ). bytes_eq (marker_name uuid) (marker_name u) ≡ true) same_uuid (bytes_eq-refl (marker_name uuid))))
                  (or_left _ _ (subst (λ (i : TxnId). IsTrue (same_id id i)) (sym its) (same_id-refl id))),
            )
