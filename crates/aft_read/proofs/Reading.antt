-- What the bytes under a version's name are read as, and what a get shows by them.
use Rattle.std.proofs.Common.{◌≡◌, ℕ, Bool, true, false, true≢false, ◌&&◌, List, [], ◌∷◌, refl, sym, ap, subst, ◌∙◌}
use Rattle.std.specs.Prelude.{Err, IsTrue, Ok, Result, if◌then◌else◌}
use Rattle.std.specs.List.{list_any}
use Rattle.std.specs.Str.{bytes_eq}
use Rattle.std.proofs.lemmas.Bool.{and_from, and_parts, false_from_ne_true, or_left}
use Rattle.aft_id.specs.declared.txn_id.TxnId.{TxnId}
use Rattle.aft_id.specs.TxnId.{same_id}
use Rattle.aft_keeper.specs.declared.keeper.KeeperAnswer.{KeeperAnswer}
use Rattle.aft_keeper.specs.declared.keeper.KeeperAnswer.TheVariants as answers
use Rattle.aft_keeper.specs.declared.keeper.Pair.{Pair}
use Rattle.aft_records.specs.declared.fault.RecordFault.{RecordFault}
use Rattle.aft_records.specs.declared.stored.Commit.{Commit}
use Rattle.aft_records.specs.declared.stored.Marker.{Marker}
use Rattle.aft_records.specs.declared.stored.Version.{Version}
use Rattle.aft_records.specs.Limits.{IsKey}
use Rattle.aft_records.specs.Reading.{commit_of, marker_of, version_of}
use Rattle.aft_records.specs.Stored.{IsVersion, IsWritableId}
use Rattle.aft_records.proofs.Found.{version_found}
use Rattle.aft_model.specs.declared.caller.Attempt.{Attempt}
use Rattle.aft_model.specs.declared.reply.Reply.{Reply}
use Rattle.aft_model.specs.declared.reply.Reply.TheVariants as replies
use Rattle.aft_model.specs.Bytes.{are_bytes}
use Rattle.aft_model.specs.NodeSights.{finds_version}
use Rattle.aft_model.specs.Readings.{has_reading, id_of_marker, marker_name, markers_in, read_under, record_name, records_in, version_name, versions_in}
use Rattle.aft_model.proofs.Ids.{same_ids, same_id-refl}
use Rattle.aft_model.proofs.OneCommit.{same_itself as caller_itself}
use Rattle.aft_model.proofs.Sights.{bytes_eq-refl, same_bytes}
use Rattle.aft_lines.specs.CourseWords.{caller_of}
use Rattle.law_names.proofs.Differ.{first_differs, versions}
use Rattle.law_names.proofs.Tests.{bytes_are}
use Rattle.aft_node.specs.declared.goes.Got.{Got}
use Rattle.aft_node.specs.declared.goes.Got.TheVariants.{Refused, Version as Came}
use Rattle.aft_read.specs.Fetched.{Answers, fetch_act, read_as}

-- nothing is read under the name of another thing
nothing_under : {A : Type 0} (name : List ℕ) (its_name : A → List ℕ) (read : Result A RecordFault) → ((x : A) → read ≡ Ok x → name ≡ its_name x → ⊥) → read_under name its_name read ≡ []
nothing_under name its_name (Ok x) other = ap (λ (t : Bool). if t then x ∷ [] else []) (false_from_ne_true (bytes_eq name (its_name x)) (λ same. other x refl (same_bytes name (its_name x) same)))
nothing_under name its_name (Err e) other = refl

record_and_version : (u key : List ℕ) (id : TxnId) → version_name key id ≡ record_name u → ⊥
record_and_version u key id e = first_differs 118 99 _ _ refl e

marker_and_version : (u key : List ℕ) (id : TxnId) → version_name key id ≡ marker_name u → ⊥
marker_and_version u key id e = first_differs 118 114 _ _ refl e

abbrev read_ok : Version → Result Version RecordFault
read_ok v = Ok v

one_version : (a b : Version) → read_ok a ≡ read_ok b → a ≡ b
one_version a b e = cc

module _ (key : List ℕ) (id : TxnId) (bytes : List ℕ) where
  -- the pair that was found
  abbrev found : Pair
  found = record { name = version_name key id; bytes = bytes }

  no_record : records_in found ≡ []
  no_record = nothing_under (version_name key id) (λ (c : Commit). record_name c.id.uuid) (commit_of bytes) (λ c of same. record_and_version c.id.uuid key id same)

  no_marker : markers_in found ≡ []
  no_marker = nothing_under (version_name key id) (λ (m : Marker). marker_name (id_of_marker m).uuid) (marker_of bytes) (λ m of same. marker_and_version (id_of_marker m).uuid key id same)

  -- without a version there the pair has no reading
  pub unread : versions_in found ≡ [] → has_reading found ≡ false
  unread none = rw (no_record, no_marker, none) refl

  -- the version of this key and id
  pub read_version : (v : Version) → version_of bytes ≡ Ok v → key ≡ v.key → id ≡ v.id → versions_in found ≡ v ∷ []
  read_version v of its_key its_id =
      ap (λ (r : Result Version RecordFault). read_under (version_name key id) (λ (w : Version). version_name w.key w.id) r) of
      ∙ ap (λ (t : Bool). if t then v ∷ [] else []) (subst (λ (k : List ℕ). bytes_eq (version_name key id) (version_name k v.id) ≡ true) its_key (subst (λ (i : TxnId). bytes_eq (version_name key id) (version_name key i) ≡ true) its_id (bytes_eq-refl (version_name key id))))

  -- no version of this key and id
  pub read_no_other : (v : Version) → IsKey key → IsWritableId id → IsTrue (are_bytes bytes) → version_of bytes ≡ Ok v → (bytes_eq key v.key && same_id id v.id) ≡ false → versions_in found ≡ []
  read_no_other v is fits made of differs =
      nothing_under (version_name key id) (λ (w : Version). version_name w.key w.id) (version_of bytes) (λ w read same. other w read (versions key w.key id w.id is (its_key w read) fits (its_id w read) same))
    where
      within : (w : Version) → version_of bytes ≡ Ok w → IsVersion w
      within w read = (version_found bytes w (bytes_are bytes made) read).0

      its_key : (w : Version) → version_of bytes ≡ Ok w → IsKey w.key
      its_key w read = (within w read).0.key

      its_id : (w : Version) → version_of bytes ≡ Ok w → IsWritableId w.id
      its_id w read = (within w read).0.id

      other : (w : Version) → version_of bytes ≡ Ok w → (key ≡ w.key) × (id ≡ w.id) → ⊥
      other w read (same_key, same_its) =
          let it : w ≡ v = one_version w v (sym read ∙ of) in
          true≢false (sym (and_from (bytes_eq key v.key) (same_id id v.id) (subst (λ (k : List ℕ). bytes_eq key k ≡ true) (same_key ∙ ap (λ (x : Version). x.key) it) (bytes_eq-refl key)) (subst (λ (i : TxnId). same_id id i ≡ true) (same_its ∙ ap (λ (x : Version). x.id) it) (same_id-refl id))) ∙ differs)

  pub read_none : (fault : RecordFault) → version_of bytes ≡ Err fault → versions_in found ≡ []
  read_none fault of = ap (λ (r : Result Version RecordFault). read_under (version_name key id) (λ (w : Version). version_name w.key w.id) r) of

-- the get of the store found the version
pub finds_it : (a : Attempt) (key : List ℕ) (id : TxnId) (bytes : List ℕ) (v : Version) → version_of bytes ≡ Ok v → IsTrue (bytes_eq key v.key && same_id id v.id) → IsTrue (finds_version (caller_of a) key id v.value (fetch_act a key id (answers.Found bytes)))
finds_it a key id bytes v of same =
    let parts = and_parts (bytes_eq key v.key) (same_id id v.id) same in
    and_from _ _ (caller_itself (caller_of a))
    (subst (λ (vs : List Version). IsTrue (list_any (λ w. (bytes_eq key w.key && same_id id w.id) && bytes_eq v.value w.value) vs)) (sym (read_version key id bytes v of (same_bytes key v.key parts.0) (same_ids id v.id parts.1)))
    (or_left _ _ (and_from _ _ same (bytes_eq-refl v.value))))

-- a value that came was found
pub finds_came : (a : Attempt) (key : List ℕ) (id : TxnId) (answer : KeeperAnswer) (got : Got) (value : List ℕ) → Answers key id answer got → got ≡ Came value → IsTrue (finds_version (caller_of a) key id value (fetch_act a key id answer))
finds_came a key id (answers.Found bytes) got value is came = by_read (version_of bytes) refl (sym is ∙ came)
  where
    one_value : (x y : List ℕ) → Came x ≡ Came y → x ≡ y
    one_value x y e = cc

    no_value : (reply : Reply) → Refused reply ≡ Came value → ⊥
    no_value reply e = cc

    by_read : (read : Result Version RecordFault) → version_of bytes ≡ read → read_as key id read ≡ Came value → IsTrue (finds_version (caller_of a) key id value (fetch_act a key id (answers.Found bytes)))
    by_read (Err fault) of e = absurd (no_value (replies.Damaged (version_name key id)) e)
    by_read (Ok v) of e = by_words (bytes_eq key v.key && same_id id v.id) refl e
      where
        by_words : (same : Bool) → (bytes_eq key v.key && same_id id v.id) ≡ same → (if same then Came v.value else Refused (replies.Damaged (version_name key id))) ≡ Came value → IsTrue (finds_version (caller_of a) key id value (fetch_act a key id (answers.Found bytes)))
        by_words true same e = subst (λ (x : List ℕ). IsTrue (finds_version (caller_of a) key id x (fetch_act a key id (answers.Found bytes)))) (one_value v.value value e) (finds_it a key id bytes v of same)
        by_words false differs e = absurd (no_value (replies.Damaged (version_name key id)) e)
finds_came a key id answers.Absent got value is came = absurd (no_value (sym is ∙ came))
  where
    no_value : Refused (replies.Missing id) ≡ Came value → ⊥
    no_value e = cc
finds_came a key id answers.Failed got value is came = absurd (no_value (sym is ∙ came))
  where
    no_value : Refused replies.StoreFault ≡ Came value → ⊥
    no_value e = cc
finds_came a key id answers.Done got value is came = absurd is
finds_came a key id (answers.Page pairs) got value is came = absurd is
