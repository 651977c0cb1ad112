-- Names of different things differ, and begin with what they are names of.
use Rattle.std.proofs.Common.{◌≡◌, ℕ, true, false, List, [], ◌∷◌, ◌++◌, codes, get_or, refl, ap, subst, append_assoc, eqb, length, take}
use Rattle.std.specs.Prelude.{IsTrue, Some, Ok, nat_eq}
use Rattle.std.specs.Cmp.Lexicographic.{pointwise}
use Rattle.std.specs.List.{starts_with}
use Rattle.std.proofs.lemmas.Bool.{and_from, eqb-false, eq-eqb}
use Rattle.hex.specs.Hex.{encode_lower}
use Rattle.aft_id.specs.declared.txn_id.TxnId.{TxnId}
use Rattle.aft_records.specs.declared.name.Name.{Name}
use Rattle.aft_records.specs.declared.name.Name.TheVariants.{CommitOf, RetiredOf, VersionOf}
use Rattle.aft_records.specs.Limits.{IsKey}
use Rattle.aft_records.specs.Names.{id_digits, name_text}
use Rattle.aft_records.specs.NameReading.{name_of}
use Rattle.aft_records.specs.Stored.{IsName, IsWritableId, IsWritableName}
use Rattle.aft_records.proofs.NameFound.{is_found}
use Rattle.aft_records.proofs.NameWritten.{names_apart}
use Rattle.aft_model.specs.Bytes.{is_uuid}
use Rattle.aft_model.specs.Readings.{marker_name, record_name, version_name}
use Rattle.law_names.proofs.Tests.{uuid_is}

-- names of one text are one name
same_name : (a b : Name) → IsWritableName a → IsWritableName b → name_text a ≡ name_text b → a ≡ b
same_name a b is js e = (names_apart a b [] [] is js (ap (λ (text : List ℕ). text ++ []) e)).0

commit_is : (u v : List ℕ) → CommitOf u ≡ CommitOf v → u ≡ v
commit_is u v e = cc

retired_is : (u v : List ℕ) → RetiredOf u ≡ RetiredOf v → u ≡ v
retired_is u v e = cc

key_is : (k l : List ℕ) (i j : TxnId) → VersionOf k i ≡ VersionOf l j → k ≡ l
key_is k l i j e = cc

id_is : (k l : List ℕ) (i j : TxnId) → VersionOf k i ≡ VersionOf l j → i ≡ j
id_is k l i j e = cc

pub records : (u v : List ℕ) → IsTrue (is_uuid u) → IsTrue (is_uuid v) → record_name u ≡ record_name v → u ≡ v
records u v iu iv e = commit_is u v (same_name (CommitOf u) (CommitOf v) (uuid_is u iu) (uuid_is v iv) e)

pub markers : (u v : List ℕ) → IsTrue (is_uuid u) → IsTrue (is_uuid v) → marker_name u ≡ marker_name v → u ≡ v
markers u v iu iv e = retired_is u v (same_name (RetiredOf u) (RetiredOf v) (uuid_is u iu) (uuid_is v iv) e)

pub versions : (key other : List ℕ) (id its : TxnId) → IsKey key → IsKey other → IsWritableId id → IsWritableId its → version_name key id ≡ version_name other its → (key ≡ other) × (id ≡ its)
versions key other id its ik io wi ws e =
    let same = same_name (VersionOf key id) (VersionOf other its) (ik, wi) (io, ws) e in
    (key_is key other id its same, id_is key other id its same)

-- texts that begin with different letters
pub first_differs : (a b : ℕ) (x y : List ℕ) → eqb a b ≡ false → a ∷ x ≡ b ∷ y → ⊥
first_differs a b x y differ e = eqb-false a b differ (ap (λ (text : List ℕ). get_or text 0 0) e)

-- ---- what a text is read as

-- what is read as a name is its spelling
pub spelled : (text : List ℕ) (name : Name) → name_of text ≡ Some name → IsName name × (text ≡ name_text name)
spelled text name e = is_found text (Ok name) e

pub record_read : (u v : List ℕ) → IsTrue (is_uuid u) → name_of (record_name u) ≡ Some (CommitOf v) → u ≡ v
record_read u v iu e = let found = spelled (record_name u) (CommitOf v) e in commit_is u v (same_name (CommitOf u) (CommitOf v) (uuid_is u iu) found.0.0 found.1)

pub marker_read : (u v : List ℕ) → IsTrue (is_uuid u) → name_of (marker_name u) ≡ Some (RetiredOf v) → u ≡ v
marker_read u v iu e = let found = spelled (marker_name u) (RetiredOf v) e in retired_is u v (same_name (RetiredOf u) (RetiredOf v) (uuid_is u iu) found.0.0 found.1)

pub version_read : (key other : List ℕ) (id its : TxnId) → IsKey key → IsWritableId id → name_of (version_name key id) ≡ Some (VersionOf other its) → (key ≡ other) × (id ≡ its)
version_read key other id its ik wi e =
    let found = spelled (version_name key id) (VersionOf other its) e in
    let same = same_name (VersionOf key id) (VersionOf other its) (ik, wi) found.0.0 found.1 in
    (key_is key other id its same, id_is key other id its same)

-- ---- what names begin with

begins_from : (front text : List ℕ) → pointwise nat_eq front (take (length front) (front ++ text)) ≡ true
begins_from [] text = refl
begins_from (b ∷ front) text = and_from _ _ (eq-eqb b b refl) (begins_from front text)

pub key_prefix : (key : List ℕ) (id : TxnId) → IsTrue (starts_with nat_eq (version_name key id) (codes "v/" ++ (encode_lower key ++ codes "/")))
key_prefix key id =
    subst (λ text. IsTrue (starts_with nat_eq (codes "v/" ++ text) (codes "v/" ++ (encode_lower key ++ codes "/")))) (append_assoc (encode_lower key) (codes "/") (id_digits id))
    (begins_from (codes "v/" ++ (encode_lower key ++ codes "/")) (id_digits id))
