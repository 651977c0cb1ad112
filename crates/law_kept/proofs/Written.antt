-- What a put and a delete write, and the limits of what is read.
use Rattle.std.proofs.Common.{◌≡◌, ℕ, Bool, true, false, List, [], ◌∷◌, ◌++◌, refl, sym, ap, subst, ◌∙◌, inl, inr}
use Rattle.std.specs.Prelude.{IsTrue, Option, Some, None, Result, Ok, Err, if◌then◌else◌}
use Rattle.std.specs.Str.{bytes_eq}
use Rattle.aft_id.specs.declared.txn_id.TxnId.{TxnId}
use Rattle.aft_id.specs.TxnId.{IsUuid}
use Rattle.aft_keeper.specs.declared.keeper.KeeperAnswer.{KeeperAnswer}
use Rattle.aft_keeper.specs.declared.keeper.KeeperCall.TheVariants.{Delete, Put}
use Rattle.aft_keeper.specs.declared.keeper.Pair.{Pair}
use Rattle.aft_records.specs.declared.fault.RecordFault.{RecordFault}
use Rattle.aft_records.specs.declared.name.Name.{Name}
use Rattle.aft_records.specs.declared.name.Name.TheVariants.{CommitOf, RetiredOf, VersionOf}
use Rattle.aft_records.specs.declared.stored.Commit.{Commit}
use Rattle.aft_records.specs.declared.stored.Marker.{Marker}
use Rattle.aft_records.specs.declared.stored.Marker.TheVariants.{Done, Full}
use Rattle.aft_records.specs.declared.stored.Version.{Version}
use Rattle.aft_records.specs.Limits.{IsKey, is_key}
use Rattle.aft_records.specs.Names.{name_text}
use Rattle.aft_records.specs.Reading.{commit_of, marker_of, version_of}
use Rattle.aft_records.specs.Stored.{IsCommit, IsMarker, IsVersion, IsWritableId, IsWritableName}
use Rattle.aft_records.proofs.Found.{commit_found, marker_found, version_found}
use Rattle.aft_records.proofs.LimitTests.{key_limits}
use Rattle.aft_records.proofs.NameWritten.{names_apart}
use Rattle.aft_model.specs.declared.door.DoorAct.{DoorAct}
use Rattle.aft_model.specs.declared.door.DoorAct.TheVariants.{Call}
use Rattle.aft_model.specs.declared.door.DoorEntry.{DoorEntry}
use Rattle.aft_model.specs.Bytes.{are_bytes}
use Rattle.aft_model.specs.Readings.{id_of_marker, marker_name, markers_in, read_under, record_name, records_in, version_name, versions_in}
use Rattle.aft_model.proofs.Histories.{In, all_at}
use Rattle.law_names.proofs.Tests.{bytes_are}
use Rattle.law_kept.specs.Kept.{Kept}
use Rattle.law_kept.specs.Outcomes.{MayBe, MayRecord, records_at}
use Rattle.law_kept.proofs.Fates.{NewAt, record_read, under}
use Rattle.law_kept.proofs.Steps.{Deletes, Puts, Writing, writing}

-- ---- lists

pub empty_if : {A : Type 0} (xs : List A) → ((x : A) → In x xs → ⊥) → xs ≡ []
empty_if [] none = refl
empty_if (x ∷ xs) none = absurd (none x (inl refl))

-- what was read, where it stands under its name, is alone
pub read_single : {A : Type 0} (name : List ℕ) (its_name : A → List ℕ) (r : Result A RecordFault) (x : A) → In x (read_under name its_name r) → read_under name its_name r ≡ x ∷ []
read_single name its_name (Err e) x among = absurd among
read_single {A} name its_name (Ok y) x among = cases (bytes_eq name (its_name y)) among
  where
    cases : (t : Bool) → In x (if t then y ∷ [] else []) → (if t then y ∷ [] else []) ≡ x ∷ []
    cases true (inl is) = ap (λ z. z ∷ []) (sym is)
    cases true (inr nowhere) = absurd nowhere
    cases false nowhere = absurd nowhere

abbrev reading : {A : Type 0} → A → Result A RecordFault
reading x = Ok x

was_read : {A : Type 0} (name : List ℕ) (its_name : A → List ℕ) (r : Result A RecordFault) (x : A) → In x (read_under name its_name r) → r ≡ reading x
was_read name its_name (Err e) x among = absurd among
was_read {A} name its_name (Ok y) x among = cases (bytes_eq name (its_name y)) among
  where
    cases : (t : Bool) → In x (if t then y ∷ [] else []) → reading y ≡ reading x
    cases true (inl is) = subst (λ (z : A). reading y ≡ reading z) (sym is) refl
    cases true (inr nowhere) = absurd nowhere
    cases false nowhere = absurd nowhere

-- ---- limits

pub commit_limits : (pair : Pair) (c : Commit) → IsTrue (are_bytes pair.bytes) → In c (records_in pair) → IsCommit c
commit_limits pair c made among = (commit_found pair.bytes c (bytes_are pair.bytes made) (was_read pair.name (λ (d : Commit). record_name d.id.uuid) (commit_of pair.bytes) c among)).0

pub version_limits : (pair : Pair) (v : Version) → IsTrue (are_bytes pair.bytes) → In v (versions_in pair) → IsVersion v
version_limits pair v made among = (version_found pair.bytes v (bytes_are pair.bytes made) (was_read pair.name (λ (w : Version). version_name w.key w.id) (version_of pair.bytes) v among)).0

pub marker_limits : (pair : Pair) (m : Marker) → IsTrue (are_bytes pair.bytes) → In m (markers_in pair) → IsMarker m
marker_limits pair m made among = (marker_found pair.bytes m (bytes_are pair.bytes made) (was_read pair.name (λ (n : Marker). marker_name (id_of_marker n).uuid) (marker_of pair.bytes) m among)).0

pub marker_uuid : (m : Marker) → IsMarker m → IsUuid (id_of_marker m).uuid
marker_uuid (Full c) limits = limits.0.id.uuid
marker_uuid (Done id) limits = limits.0.uuid

pub key_of_commit : (c : Commit) → IsCommit c → (key : List ℕ) → In key c.keys → IsKey key
key_of_commit c limits key among = key_limits key (all_at is_key key c.keys among limits.0.keys.each)

-- a commit whose record may be there is within the limits
pub possible_limits : (uuid : List ℕ) (history : List DoorEntry) → Kept uuid history → (c : Commit) → MayRecord uuid history c → IsCommit c
possible_limits uuid history kept c possible = cases possible.outcome possible.may possible.among
  where
    cases : (o : Option (List ℕ)) → MayBe (record_name uuid) history o → In c (records_at uuid o) → IsCommit c
    cases None may among = absurd among
    cases (Some bytes) may among = commit_limits (under (record_name uuid) bytes) c (kept.records_known.each bytes may).0 (record_read uuid bytes c among)

-- ---- names

same_name : (a b : Name) → IsWritableName a → IsWritableName b → name_text a ≡ name_text b → a ≡ b
same_name a b is js e = (names_apart a b [] [] is js (ap (λ (text : List ℕ). text ++ []) e)).0

commit_is : (u v : List ℕ) → CommitOf u ≡ CommitOf v → u ≡ v
commit_is u v e = cc

retired_is : (u v : List ℕ) → RetiredOf u ≡ RetiredOf v → u ≡ v
retired_is u v e = cc

id_is : (k l : List ℕ) (i j : TxnId) → VersionOf k i ≡ VersionOf l j → i ≡ j
id_is k l i j e = cc

pub same_record_name : (u v : List ℕ) → IsUuid u → IsUuid v → record_name u ≡ record_name v → u ≡ v
same_record_name u v iu iv e = commit_is u v (same_name (CommitOf u) (CommitOf v) iu iv e)

pub same_marker_name : (u v : List ℕ) → IsUuid u → IsUuid v → marker_name u ≡ marker_name v → u ≡ v
same_marker_name u v iu iv e = retired_is u v (same_name (RetiredOf u) (RetiredOf v) iu iv e)

pub same_version_id : (k l : List ℕ) (i j : TxnId) → IsKey k → IsKey l → IsWritableId i → IsWritableId j → version_name k i ≡ version_name l j → i ≡ j
same_version_id k l i j ik il wi wj e = id_is k l i j (same_name (VersionOf k i) (VersionOf l j) (ik, wi) (il, wj) e)

-- ---- acts

put_name_is : (m n k l : ℕ) (x y : List ℕ) (c d : List ℕ) (r s : KeeperAnswer) → Call m n (Put x c) r ≡ Call k l (Put y d) s → x ≡ y
put_name_is m n k l x y c d r s e = cc

put_bytes_is : (m n k l : ℕ) (x y : List ℕ) (c d : List ℕ) (r s : KeeperAnswer) → Call m n (Put x c) r ≡ Call k l (Put y d) s → c ≡ d
put_bytes_is m n k l x y c d r s e = cc

delete_name_is : (m n k l : ℕ) (x y : List ℕ) (r s : KeeperAnswer) → Call m n (Delete x) r ≡ Call k l (Delete y) s → x ≡ y
delete_name_is m n k l x y r s e = cc

put_no_delete : (m n k l : ℕ) (x y : List ℕ) (c : List ℕ) (r s : KeeperAnswer) → Call m n (Put x c) r ≡ Call k l (Delete y) s → ⊥
put_no_delete m n k l x y c r s e = cc

some_bytes : (a b : List ℕ) → a ≡ b → Some a ≡ Some b
some_bytes a b e = ap (λ c. Some c) e

-- what a put writes is its bytes, under its name
pub put_writes : (act : DoorAct) (node inc : ℕ) (name bytes : List ℕ) (answer : KeeperAnswer) → act ≡ Call node inc (Put name bytes) answer → (n : List ℕ) (o : Option (List ℕ)) → NewAt n act o → (n ≡ name) × (o ≡ Some bytes)
put_writes act node inc name bytes answer is n o new = from o (writing n act o new)
  where
    from : (o : Option (List ℕ)) → Writing n act o → (n ≡ name) × (o ≡ Some bytes)
    from o (Puts k l c s it) = (put_name_is k l node inc n name c bytes s answer (sym it ∙ is), some_bytes c bytes (put_bytes_is k l node inc n name c bytes s answer (sym it ∙ is)))
    from o (Deletes k l s it) = absurd (put_no_delete node inc k l name n bytes answer s (sym is ∙ it))

-- what a delete writes is that its name is absent
pub delete_writes : (act : DoorAct) (node inc : ℕ) (name : List ℕ) (answer : KeeperAnswer) → act ≡ Call node inc (Delete name) answer → (n : List ℕ) (o : Option (List ℕ)) → NewAt n act o → (n ≡ name) × (o ≡ None)
delete_writes act node inc name answer is n o new = from o (writing n act o new)
  where
    from : (o : Option (List ℕ)) → Writing n act o → (n ≡ name) × (o ≡ None)
    from o (Puts k l c s it) = absurd (put_no_delete k l node inc n name c s answer (sym it ∙ is))
    from o (Deletes k l s it) = (delete_name_is k l node inc n name s answer (sym it ∙ is), refl)
