-- What is found by its name, among pairs in the order of their names.
use Rattle.std.proofs.Common.{◌≡◌, ℕ, Bool, true, false, not, ◌||◌, ◌&&◌, List, [], ◌∷◌, ◌++◌, refl, sym, ap, subst, ◌∙◌, append-nil}
use Rattle.std.specs.Prelude.{Err, is_some, IfOk, IfSome, IsTrue, None, Ok, Option, Result, Some, if◌then◌else◌}
use Rattle.std.specs.List.{flat_map, list_all, list_any}
use Rattle.std.specs.Str.{bytes_eq}
use Rattle.std.proofs.Math.Bool.{or-false, or_assoc}
use Rattle.std.proofs.lemmas.Bool.{and_parts, false≢true, true≢false}
use Rattle.aft_id.specs.TxnId.{IsUuid, id_lt, same_id}
use Rattle.aft_id.specs.declared.txn_id.TxnId.{TxnId}
use Rattle.aft_keeper.specs.declared.keeper.Pair.{Pair}
use Rattle.aft_keeper.specs.Contents.{Ascends, bytes_at}
use Rattle.aft_keeper.proofs.Contents.{IsRising, IsRising-from_Ascends, bytes_at-below}
use Rattle.aft_records.specs.declared.fault.RecordFault.{RecordFault}
use Rattle.aft_records.specs.declared.stored.Commit.{Commit}
use Rattle.aft_records.specs.declared.name.Name.TheVariants.{CommitOf}
use Rattle.aft_records.specs.declared.stored.Version.{Version}
use Rattle.aft_records.specs.Commits.{has_uuid, same_commit}
use Rattle.aft_records.specs.Reading.{commit_of, version_of}
use Rattle.aft_records.specs.Stored.{IsCommit}
use Rattle.aft_records.specs.Superseded.{is_superseded, wrote}
use Rattle.aft_records.proofs.NameWritten.{names_apart}
use Rattle.aft_model.specs.Readings.{is_version_at, read_under, record_name, records_in, version_name}
use Rattle.aft_model.specs.Sound.{recorded}
use Rattle.aft_model.proofs.Ids.{same_ids}
use Rattle.aft_model.proofs.Sights.{bytes_eq-refl, same_bytes}
use Rattle.aft_audit.specs.Newest.{IsNewestOf, is_newer}
use Rattle.aft_audit.specs.Pairs.{Reads, as_list, pair_of, passes}

-- a test that only a pair of this name passes is asked of what stands under the name
pub any_at : (name : List ℕ) (test : Pair → Bool) → ((p : Pair) → IsTrue (test p) → IsTrue (bytes_eq name p.name)) → (pairs : List Pair) → IsRising pairs
    → list_any test pairs ≡ passes (λ b. test (pair_of name b)) (bytes_at name pairs)
any_at name test only [] up = refl
any_at name test only (p ∷ pairs) up = cases (bytes_eq name p.name) refl (any_at name test only pairs up.1)
  where
    at : Option (List ℕ) → Bool
    at o = passes (λ b. test (pair_of name b)) o

    test_of : (t : Bool) → bytes_eq name p.name ≡ false → test p ≡ t → test p ≡ false
    test_of true apart is = absurd (true≢false (sym (only p is) ∙ apart))
    test_of false apart is = is

    cases : (t : Bool) → bytes_eq name p.name ≡ t → list_any test pairs ≡ at (bytes_at name pairs) → (test p || list_any test pairs) ≡ at (if t then Some p.bytes else bytes_at name pairs)
    cases true same rest =
        let is : name ≡ p.name = same_bytes name p.name same in
        let none : bytes_at name pairs ≡ None = ap (λ n. bytes_at n pairs) is ∙ bytes_at-below p.name pairs up.0 in
        ap (λ t. test p || t) (rest ∙ ap at none) ∙ or-false (test p) ∙ ap (λ n. test (pair_of n p.bytes)) (sym is)
    cases false apart rest = ap (λ t. t || list_any test pairs) (test_of (test p) apart refl) ∙ rest

any_append : {A : Type 0} (test : A → Bool) (xs ys : List A) → list_any test (xs ++ ys) ≡ (list_any test xs || list_any test ys)
any_append test [] ys = refl
any_append test (x ∷ xs) ys = ap (λ t. test x || t) (any_append test xs ys) ∙ sym (or_assoc (test x) (list_any test xs) (list_any test ys))

-- a test of what pairs give is one of the pairs
pub any_given : {A B : Type 0} (f : A → List B) (test : B → Bool) (xs : List A) → list_any test (flat_map f xs) ≡ list_any (λ x. list_any test (f x)) xs
any_given f test [] = refl
any_given f test (x ∷ xs) = any_append test (f x) (flat_map f xs) ∙ ap (λ t. list_any test (f x) || t) (any_given f test xs)

any_passes : {A : Type 0} (test : A → Bool) (o : Option A) → list_any test (as_list o) ≡ passes test o
any_passes test None = refl
any_passes test (Some x) = or-false (test x)

-- ---- what is read under its own name

-- a test that only what is named so passes, of what is read under its own name, is passed only under that name
only_own : {A : Type 0} (its_name : A → List ℕ) (test : A → Bool) (name : List ℕ) → ((x : A) → IsTrue (test x) → its_name x ≡ name) → (under : List ℕ) (r : Result A RecordFault)
    → IsTrue (list_any test (read_under under its_name r)) → IsTrue (bytes_eq name under)
only_own {A} its_name test name named under (Ok x) passed = cases (bytes_eq under (its_name x)) refl passed
  where
    cases : (t : Bool) → bytes_eq under (its_name x) ≡ t → IsTrue (list_any test (if t then x ∷ [] else [])) → IsTrue (bytes_eq name under)
    cases true same passed =
        let is : under ≡ name = same_bytes under (its_name x) same ∙ named x (subst (λ t. IsTrue t) (or-false (test x)) passed) in
        subst (λ n. IsTrue (bytes_eq name n)) (sym is) (bytes_eq-refl name)
    cases false apart passed = absurd (false≢true passed)
only_own its_name test name named under (Err e) passed = absurd (false≢true passed)

-- what is read stands under its own name
one_read : {A : Type 0} (under : List ℕ) (its_name : A → List ℕ) (r : Result A RecordFault) (x : A) → x ∷ [] ≡ read_under under its_name r → under ≡ its_name x
one_read {A} under its_name (Ok y) x is = cases (bytes_eq under (its_name y)) refl is
  where
    cases : (t : Bool) → bytes_eq under (its_name y) ≡ t → x ∷ [] ≡ (if t then y ∷ [] else []) → under ≡ its_name x
    cases true same is = let e : y ≡ x = cc in same_bytes under (its_name y) same ∙ ap its_name e
    cases false apart is = absurd (cc)
one_read under its_name (Err e) x is = absurd (cc)

-- what was read, and stands under its own name or another
pub read_as : {A : Type 0} (under own : List ℕ) (its_name : A → List ℕ) (r : Result A RecordFault) (x : A) → r ≡ Ok x → own ≡ its_name x → (t : Bool) → t ≡ bytes_eq under own
    → as_list (if t then Some x else None) ≡ read_under under its_name r
read_as {A} under own its_name r x read named t is = cases t is ∙ sym (ap (read_under under its_name) read)
  where
    cases : (t : Bool) → t ≡ bytes_eq under own → as_list (if t then Some x else None) ≡ (if bytes_eq under (its_name x) then x ∷ [] else [])
    cases true same = ap (λ u. if u then x ∷ [] else []) (same ∙ ap (bytes_eq under) named)
    cases false apart = ap (λ u. if u then x ∷ [] else []) (apart ∙ ap (bytes_eq under) named)

-- ---- records

-- a record of a UUID stands under the UUID's name
pub record_at : (uuid : List ℕ) (test : Commit → Bool) (pairs : List Pair) → Ascends pairs
    → list_any (λ c. has_uuid uuid c && test c) (recorded pairs) ≡ passes (λ b. list_any (λ c. has_uuid uuid c && test c) (records_in (pair_of (record_name uuid) b))) (bytes_at (record_name uuid) pairs)
record_at uuid test pairs up =
    any_given records_in mine pairs
    ∙ any_at (record_name uuid) (λ p. list_any mine (records_in p))
    (λ p passed. only_own (λ (c : Commit). record_name c.id.uuid) mine (record_name uuid) (λ c passed. ap record_name (sym (same_bytes uuid c.id.uuid (and_parts (has_uuid uuid c) (test c) passed).0))) p.name (commit_of p.bytes) passed)
    pairs (IsRising-from_Ascends pairs up)
  where
    mine : Commit → Bool
    mine c = has_uuid uuid c && test c

uuids_in : (u v : List ℕ) → CommitOf u ≡ CommitOf v → u ≡ v
uuids_in u v e = cc

-- what was read under the name of a UUID has it
pub found_is : (uuid bytes : List ℕ) (test : Commit → Bool) (found : Option Commit) → IsUuid uuid → as_list found ≡ records_in (pair_of (record_name uuid) bytes) → IfSome found IsCommit
    → list_any (λ c. has_uuid uuid c && test c) (records_in (pair_of (record_name uuid) bytes)) ≡ passes test found
found_is uuid bytes test found is read within = ap (list_any (λ c. has_uuid uuid c && test c)) (sym read) ∙ cases found read within
  where
    cases : (o : Option Commit) → as_list o ≡ records_in (pair_of (record_name uuid) bytes) → IfSome o IsCommit → list_any (λ c. has_uuid uuid c && test c) (as_list o) ≡ passes test o
    cases None read within = refl
    cases (Some c) read within =
        let named : record_name uuid ≡ record_name c.id.uuid = one_read (record_name uuid) (λ (d : Commit). record_name d.id.uuid) (commit_of bytes) c read in
        let apart = names_apart (CommitOf uuid) (CommitOf c.id.uuid) [] [] is within.0.id.uuid (append-nil (record_name uuid) ∙ named ∙ sym (append-nil (record_name c.id.uuid))) in
        let same : uuid ≡ c.id.uuid = uuids_in uuid c.id.uuid apart.0 in
        or-false (has_uuid uuid c && test c) ∙ ap (λ t. t && test c) (subst (λ u. IsTrue (bytes_eq uuid u)) same (bytes_eq-refl uuid))

-- ---- versions

pub version_at : (key : List ℕ) (id : TxnId) (pairs : List Pair) → Ascends pairs
    → list_any (is_version_at key id) pairs ≡ passes (λ b. is_version_at key id (pair_of (version_name key id) b)) (bytes_at (version_name key id) pairs)
version_at key id pairs up = any_at (version_name key id) (is_version_at key id) (λ p passed.
    only_own (λ (v : Version). version_name v.key v.id) (λ v. bytes_eq key v.key && same_id id v.id) (version_name key id) (λ v passed.
    let parts = and_parts (bytes_eq key v.key) (same_id id v.id) passed in ap (λ k. version_name k v.id) (sym (same_bytes key v.key parts.0)) ∙ ap (version_name key) (sym (same_ids id v.id parts.1))) p.name (version_of p.bytes) passed)
    pairs (IsRising-from_Ascends pairs up)

-- ---- what has no reading

-- what has no reading shows nothing
pub none_read : {A : Type 0} (under : List ℕ) (its_name : A → List ℕ) (r : Result A RecordFault) → Reads r None → [] ≡ read_under under its_name r
none_read {A} under its_name r read = sym (ap (read_under under its_name) read.1)

-- what was read, if a text spells its name
pub spelled_if : {A E : Type 0} (under own : List ℕ) (its_name : A → List ℕ) (r : Result A RecordFault) (x : A) (result : Result (Option A) E) → Reads r (Some x) → own ≡ its_name x
    → IfOk result (λ found. found ≡ (if bytes_eq under own then Some x else None)) → IfOk result (λ found. as_list found ≡ read_under under its_name r)
spelled_if under own its_name r x (Ok found) read named is = ap as_list is ∙ read_as under own its_name r x read named (bytes_eq under own) refl
spelled_if under own its_name r x (Err e) read named is = tt

-- and what is true of it
pub within_if : {A E : Type 0} (t : Bool) (x : A) (P : A → Type 0) (result : Result (Option A) E) → P x → IfOk result (λ found. found ≡ (if t then Some x else None)) → IfOk result (λ found. IfSome found P)
within_if {A} t x P (Ok found) holds is = subst (λ o. IfSome o P) (sym is) (cases t)
  where
    cases : (t : Bool) → IfSome (if t then Some x else None) P
    cases true = holds
    cases false = tt
within_if t x P (Err e) holds is = tt

-- ---- what a lookup found

-- a record of a UUID, by what stands under its name
pub recorded_is : (uuid : List ℕ) (test : Commit → Bool) (pairs : List Pair) (bytes : Option (List ℕ)) (found : Option Commit) → Ascends pairs → bytes_at (record_name uuid) pairs ≡ bytes
    → passes (λ b. list_any (λ c. has_uuid uuid c && test c) (records_in (pair_of (record_name uuid) b))) bytes ≡ passes test found → list_any (λ c. has_uuid uuid c && test c) (recorded pairs) ≡ passes test found
recorded_is uuid test pairs bytes found up under is = record_at uuid test pairs up ∙ ap (passes (λ b. list_any (λ c. has_uuid uuid c && test c) (records_in (pair_of (record_name uuid) b)))) under ∙ is

pub recorded_if : {E : Type 0} (uuid bytes : List ℕ) (pairs : List Pair) (result : Result (Option Commit) E) → IsUuid uuid → Ascends pairs → bytes_at (record_name uuid) pairs ≡ Some bytes
    → IfOk result (λ found. as_list found ≡ records_in (pair_of (record_name uuid) bytes)) → IfOk result (λ found. IfSome found IsCommit)
    → IfOk result (λ found. (test : Commit → Bool) → list_any (λ c. has_uuid uuid c && test c) (recorded pairs) ≡ passes test found)
recorded_if uuid bytes pairs (Ok found) is up under read within = λ test. recorded_is uuid test pairs (Some bytes) found up under (found_is uuid bytes test found is read within)
recorded_if uuid bytes pairs (Err e) is up under read within = tt

pub unrecorded : (uuid : List ℕ) (pairs : List Pair) → Ascends pairs → bytes_at (record_name uuid) pairs ≡ None → (test : Commit → Bool) → list_any (λ c. has_uuid uuid c && test c) (recorded pairs) ≡ false
unrecorded uuid pairs up under test = recorded_is uuid test pairs None None up under refl

-- a version, by what stands under its name
pub version_is : (key : List ℕ) (id : TxnId) (pairs : List Pair) (bytes : Option (List ℕ)) → Ascends pairs → bytes_at (version_name key id) pairs ≡ bytes
    → list_any (is_version_at key id) pairs ≡ passes (λ b. is_version_at key id (pair_of (version_name key id) b)) bytes
version_is key id pairs bytes up under = version_at key id pairs up ∙ ap (passes (λ b. is_version_at key id (pair_of (version_name key id) b))) under

pub version_if : {E : Type 0} (key : List ℕ) (id : TxnId) (bytes : List ℕ) (pairs : List Pair) (result : Result Bool E) → Ascends pairs → bytes_at (version_name key id) pairs ≡ Some bytes
    → IfOk result (λ is. is ≡ is_version_at key id (pair_of (version_name key id) bytes)) → IfOk result (λ there. there ≡ list_any (is_version_at key id) pairs)
version_if key id bytes pairs (Ok is) up under same = same ∙ sym (version_is key id pairs (Some bytes) up under)
version_if key id bytes pairs (Err e) up under same = tt

-- ---- a marker beside the records

and_left_true : (t : Bool) → (t && true) ≡ t
and_left_true true = refl
and_left_true false = refl

any_same : {A : Type 0} (p q : A → Bool) → ((x : A) → p x ≡ q x) → (xs : List A) → list_any p xs ≡ list_any q xs
any_same p q same [] = refl
any_same p q same (x ∷ xs) = ap (λ t. t || list_any p xs) (same x) ∙ ap (λ t. q x || t) (any_same p q same xs)

-- whether a UUID has a record
pub has_record : (uuid : List ℕ) (records : List Commit) (found : Option Commit) → ((test : Commit → Bool) → list_any (λ c. has_uuid uuid c && test c) records ≡ passes test found) → is_some found ≡ list_any (has_uuid uuid) records
has_record uuid records found tests = there found ∙ sym (tests (λ c. true)) ∙ any_same (λ c. has_uuid uuid c && true) (has_uuid uuid) (λ c. and_left_true (has_uuid uuid c)) records
  where
    there : (o : Option Commit) → is_some o ≡ passes (λ c. true) o
    there None = refl
    there (Some c) = refl

-- whether the records supersede a commit, by the greatest ids
pub superseded_by : (c : Commit) (records : List Commit) (newest : List (List ℕ × TxnId)) → IsNewestOf records newest → list_all (λ key. is_newer key c.id newest) c.keys ≡ is_superseded c records
superseded_by c records newest agree = all_same c.keys
  where
    all_same : (keys : List (List ℕ)) → list_all (λ key. is_newer key c.id newest) keys ≡ list_all (λ key. list_any (λ d. wrote key d && id_lt c.id d.id) records) keys
    all_same [] = refl
    all_same (key ∷ keys) = ap (λ t. t && list_all (λ k. is_newer k c.id newest) keys) (agree key c.id) ∙ ap (λ t. list_any (λ d. wrote key d && id_lt c.id d.id) records && t) (all_same keys)

-- whether the record of a UUID is of another commit
pub differs_is : (own : List ℕ) (c : Commit) (records : List Commit) (found : Option Commit) → own ≡ c.id.uuid → ((test : Commit → Bool) → list_any (λ d. has_uuid own d && test d) records ≡ passes test found)
    → passes (λ d. not (same_commit c d)) found ≡ list_any (λ d. has_uuid c.id.uuid d && not (same_commit c d)) records
differs_is own c records found named tests = sym (subst (λ u. list_any (λ d. has_uuid u d && not (same_commit c d)) records ≡ passes (λ d. not (same_commit c d)) found) named (tests (λ d. not (same_commit c d))))
