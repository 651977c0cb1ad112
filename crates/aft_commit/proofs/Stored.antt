-- What is put reads as what it is to be.
use Rattle.std.proofs.Common.{◌≡◌, ℕ, zero, suc, ◌≤◌, Bool, ◌&&◌, List, [], ◌∷◌, ◌++◌, length, drop, take, refl, sym, ap, subst, ◌∙◌, arith}
use Rattle.std.specs.Prelude.{Err, IsTrue, None, Ok, Result, Some, if◌then◌else◌, map}
use Rattle.std.specs.List.{list_any, slice_get}
use Rattle.std.specs.Str.{bytes_eq}
use Rattle.std.specs.Cmp.Lexicographic.{pointwise}
use Rattle.std.proofs.lemmas.Bool.{and_from, eq-eqb, or_left}
use Rattle.aft_id.specs.declared.txn_id.TxnId.{TxnId}
use Rattle.aft_id.specs.TxnId.{same_id}
use Rattle.aft_records.specs.declared.fault.RecordFault.{RecordFault}
use Rattle.aft_records.specs.declared.fault.RecordFault.TheVariants.{BadTime}
use Rattle.aft_records.specs.declared.stored.Commit.{Commit}
use Rattle.aft_records.specs.declared.stored.Record.{Record}
use Rattle.aft_records.specs.declared.stored.Version.{Version}
use Rattle.aft_records.specs.Commits.{same_commit}
use Rattle.aft_records.specs.Reading.{record_of, version_of}
use Rattle.aft_records.specs.Rows.{record_row, version_row}
use Rattle.aft_records.specs.Stored.{IsRecord, IsVersion}
use Rattle.aft_records.proofs.Written.{record_written, version_written}
use Rattle.aft_model.specs.Attempts.{Write, written_keys}
use Rattle.aft_model.specs.Readings.{is_version_at, read_under, record_name, same_record, version_name}
use Rattle.aft_model.proofs.Ids.{same_id-refl}
use Rattle.aft_model.proofs.Sights.{bytes_eq-refl}
use Rattle.aft_ledger.proofs.Acts.{keys-refl}
use Rattle.aft_lines.specs.CommitCourse.{is_version_of, is_written_as}

-- what is read under its own name is there
read_itself : {A : Type 0} (its_name : A → List ℕ) (read : Result A RecordFault) (x : A) → read ≡ Ok x → read_under (its_name x) its_name read ≡ x ∷ []
read_itself {A} its_name read x is =
    ap (λ (r : Result A RecordFault). read_under (its_name x) its_name r) is ∙ ap (λ (t : Bool). if t then x ∷ [] else []) (bytes_eq-refl (its_name x))

pub same_itself : (c : Commit) → IsTrue (same_commit c c)
same_itself c = and_from _ _ (same_id-refl c.id) (keys-refl c.keys)

ids_themselves : (ids : List TxnId) → IsTrue (pointwise same_id ids ids)
ids_themselves [] = refl
ids_themselves (id ∷ ids) = and_from _ _ (same_id-refl id) (ids_themselves ids)

record_itself : (r : Record) → IsTrue (same_record r r)
record_itself r =
    and_from _ _ (and_from _ _ (and_from _ _ (same_itself r.commit) (eq-eqb r.origin.node r.origin.node refl)) (eq-eqb r.origin.inc r.origin.inc refl)) (ids_themselves r.origin.reads)

-- a record
pub put_record : (r : Record) → IsRecord r → IsTrue (is_written_as r (record { name = record_name r.commit.id.uuid; bytes = record_row r }))
put_record r is =
    subst (λ (rs : List Record). IsTrue (list_any (same_record r) rs))
    (sym (read_itself (λ (q : Record). record_name q.commit.id.uuid) (record_of (record_row r)) r (record_written r is.0 ∙ ap (λ (t : Bool). if t then Ok r else Err BadTime) is.1)))
    (or_left _ _ (record_itself r))

-- a version of a write
pub put_version : (c : Commit) (w : Write) (v : Version) → IsVersion v → v.id ≡ c.id → v.key ≡ w.key → v.value ≡ w.value → IsTrue (is_version_of c w (record { name = version_name v.key v.id; bytes = version_row v }))
put_version c w v is of_id of_key of_value =
    subst (λ (vs : List Version). IsTrue (list_any (λ x. bytes_eq w.key x.key && same_id c.id x.id && bytes_eq w.value x.value) vs))
    (sym (read_itself (λ (x : Version). version_name x.key x.id) (version_of (version_row v)) v (version_written v is.0 ∙ ap (λ (t : Bool). if t then Ok v else Err BadTime) is.1)))
    (or_left _ _ (and_from _ _ (and_from _ _
    (subst (λ (k : List ℕ). IsTrue (bytes_eq w.key k)) (sym of_key) (bytes_eq-refl w.key))
    (subst (λ (i : TxnId). IsTrue (same_id c.id i)) (sym of_id) (same_id-refl c.id)))
    (subst (λ (x : List ℕ). IsTrue (bytes_eq w.value x)) (sym of_value) (bytes_eq-refl w.value))))

-- the same of any version of its key and id
pub version_there : (v : Version) → IsVersion v → IsTrue (is_version_at v.key v.id (record { name = version_name v.key v.id; bytes = version_row v }))
version_there v is =
    subst (λ (vs : List Version). IsTrue (list_any (λ x. bytes_eq v.key x.key && same_id v.id x.id) vs))
    (sym (read_itself (λ (x : Version). version_name x.key x.id) (version_of (version_row v)) v (version_written v is.0 ∙ ap (λ (t : Bool). if t then Ok v else Err BadTime) is.1)))
    (or_left _ _ (and_from _ _ (bytes_eq-refl v.key) (same_id-refl v.id)))

-- ---- keys by their places

-- one key more
pub take_next : (keys : List (List ℕ)) (count : ℕ) (key : List ℕ) → slice_get keys count ≡ Some key → take (suc count) keys ≡ take count keys ++ key ∷ []
take_next [] zero key at = absurd (none_is at)
  where
    none_is : None ≡ Some key → ⊥
    none_is e = cc
take_next [] (suc count) key at = absurd (none_is at)
  where
    none_is : None ≡ Some key → ⊥
    none_is e = cc
take_next (k ∷ keys) zero key at = ap (λ (x : List ℕ). x ∷ []) (some_is k key at)
  where
    some_is : (x y : List ℕ) → Some x ≡ Some y → x ≡ y
    some_is x y e = cc
take_next (k ∷ keys) (suc count) key at = ap (λ (ks : List (List ℕ)). k ∷ ks) (take_next keys count key at)

-- all of them
pub take_all : (keys : List (List ℕ)) (count : ℕ) → length keys ≤ count → take count keys ≡ keys
take_all [] zero few = refl
take_all [] (suc count) few = refl
take_all (k ∷ keys) zero few = absurd (omega arith)
take_all (k ∷ keys) (suc count) few = ap (λ (ks : List (List ℕ)). k ∷ ks) (take_all keys count (omega arith))

-- ---- writes by their places

-- the write at a place is the first of those from there on
pub next_write : (writes : List Write) (count : ℕ) (key value : List ℕ) → slice_get (written_keys writes) count ≡ Some key → slice_get (map (λ write. write.value) writes) count ≡ Some value
    → (w : Write) × (drop count writes ≡ w ∷ drop (suc count) writes) × (key ≡ w.key) × (value ≡ w.value)
next_write [] zero key value at_key at_value = absurd (none_is at_key)
  where
    none_is : None ≡ Some key → ⊥
    none_is e = cc
next_write [] (suc count) key value at_key at_value = absurd (none_is at_key)
  where
    none_is : None ≡ Some key → ⊥
    none_is e = cc
next_write (w ∷ writes) zero key value at_key at_value = (w, refl, sym (some_is w.key key at_key), sym (some_is w.value value at_value))
  where
    some_is : (x y : List ℕ) → Some x ≡ Some y → x ≡ y
    some_is x y e = cc
next_write (w ∷ writes) (suc count) key value at_key at_value = next_write writes count key value at_key at_value

-- behind them all there is none
pub none_left : (writes : List Write) (count : ℕ) → length (written_keys writes) ≤ count → drop count writes ≡ []
none_left [] zero few = refl
none_left [] (suc count) few = refl
none_left (w ∷ writes) zero few = absurd (omega arith)
none_left (w ∷ writes) (suc count) few = none_left writes count (omega arith)
