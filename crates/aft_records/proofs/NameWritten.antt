-- The text of a name is read as that name, and no name's text begins another's.
use Rattle.std.proofs.Common.{◌≡◌, ℕ, zero, suc, ◌/◌, ◌%◌, ◌^◌, ◌<◌, true, false, eqb, leb, List, [], ◌∷◌, ◌++◌, length, codes, get_or, take, drop, Option, Some, refl, sym, ap, ◌∙◌, append_assoc, arith, inl, inr}
use Rattle.std.specs.List.{list_any, list_all}
use Rattle.std.specs.Int.{w64, to_be_bytes, from_be_bytes}
use Rattle.std.proofs.lemmas.Bool.{and_parts, leb-true, cases_lt, or_from, eqb-false}
use Rattle.std.proofs.lemmas.List.{take_at, drop_at, get_or_past}
use Rattle.std.proofs.lemmas.List.Elements.{All-get_or}
use Rattle.std.proofs.lemmas.List.Folds.{list_any-append}
use Rattle.std.proofs.lemmas.Nat.{from_be_bytes-to_be_bytes_8}
use Rattle.hex.specs.Hex.{IsBytes, lower_digits, encode_lower, decode_of}
use Rattle.hex.proofs.HexLemmas.{length-encode_with, decode_of-encode_lower, decode_sized-encode_lower, decode_of-same}
use Rattle.aft_id.specs.declared.txn_id.TxnId.{TxnId}
use Rattle.aft_id.specs.TxnId.{IsUuid}
use Rattle.aft_records.specs.declared.name.Name.{Name}
use Rattle.aft_records.specs.declared.name.Name.TheVariants.{VersionOf, CommitOf, RetiredOf}
use Rattle.aft_records.specs.Limits.{IsTime, is_key_byte, IsKey}
use Rattle.aft_records.specs.Names.{id_digits, name_text}
use Rattle.aft_records.specs.NameReading.{is_upper, split_once, decoded, key_of, time_of, uuid_of, id_of, version_name, commit_name, retired_name, kind_name, name_of}
use Rattle.aft_records.specs.Stored.{IsWritableId, IsWritableName, IsName}
use Rattle.aft_records.proofs.LimitTests.{key_passes}
use Rattle.aft_records.proofs.Splits.{split_once-at}
use Rattle.aft_records.proofs.Digits.{digits_low, digits_lack, no_dash, no_slash}

-- ---- what is bytes

pub uuid_bytes : (uuid : List ℕ) → IsUuid uuid → IsBytes uuid
uuid_bytes uuid is i =
    elim (cases_lt i (length uuid)) [
      | inl lt ↦ All-get_or (λ b. b < 256) uuid i 0 lt is.1
      | inr le ↦ rw (get_or_past uuid i 0 le) (omega arith)
    ]

IsBytes-cons : (b : ℕ) (rest : List ℕ) → b < 256 → IsBytes rest → IsBytes (b ∷ rest)
IsBytes-cons b rest h hs zero = h
IsBytes-cons b rest h hs (suc i) = hs i

IsBytes-nil : IsBytes []
IsBytes-nil i = omega arith

key_bytes_from : (key : List ℕ) → list_all is_key_byte key ≡ true → IsBytes key
key_bytes_from [] h = IsBytes-nil
key_bytes_from (b ∷ key) h =
    let p = and_parts (is_key_byte b) (list_all is_key_byte key) h in
    let low = leb-true b 126 (and_parts (leb 33 b) (leb b 126) p.0).1 in
    IsBytes-cons b key (omega arith) (key_bytes_from key p.1)

key_bytes : (key : List ℕ) → IsKey key → IsBytes key
key_bytes key is = key_bytes_from key is.graphic

low_byte : (n : ℕ) (rest : List ℕ) → IsBytes rest → IsBytes (n % 256 ∷ rest)
low_byte n rest h = IsBytes-cons (n % 256) rest (omega arith) h

low_bytes : (a b c d e f g h : ℕ) → IsBytes (a % 256 ∷ b % 256 ∷ c % 256 ∷ d % 256 ∷ e % 256 ∷ f % 256 ∷ g % 256 ∷ h % 256 ∷ [])
low_bytes a b c d e f g h =
    low_byte a (b % 256 ∷ c % 256 ∷ d % 256 ∷ e % 256 ∷ f % 256 ∷ g % 256 ∷ h % 256 ∷ []) (low_byte b (c % 256 ∷ d % 256 ∷ e % 256 ∷ f % 256 ∷ g % 256 ∷ h % 256 ∷ [])
    (low_byte c (d % 256 ∷ e % 256 ∷ f % 256 ∷ g % 256 ∷ h % 256 ∷ []) (low_byte d (e % 256 ∷ f % 256 ∷ g % 256 ∷ h % 256 ∷ [])
    (low_byte e (f % 256 ∷ g % 256 ∷ h % 256 ∷ []) (low_byte f (g % 256 ∷ h % 256 ∷ []) (low_byte g (h % 256 ∷ []) (low_byte h [] IsBytes-nil)))))))

pub time_bytes : (time : ℕ) → IsBytes (to_be_bytes w64 time)
time_bytes time = low_bytes (time / 2 ^ 56) (time / 2 ^ 48) (time / 2 ^ 40) (time / 2 ^ 32) (time / 2 ^ 24) (time / 2 ^ 16) (time / 2 ^ 8) time

-- ---- what was written is read

uuid_again : (uuid : List ℕ) → IsUuid uuid → uuid_of (encode_lower uuid) ≡ Some uuid
uuid_again uuid is = ap decoded (decode_sized-encode_lower uuid 16 is.0 (uuid_bytes uuid is))

time_again : (time : ℕ) → time < 2 ^ 64 → IsTime time → time_of (encode_lower (to_be_bytes w64 time)) ≡ Some time
unfolding time_of
time_again time lt timely = rw (decode_sized-encode_lower (to_be_bytes w64 time) 8 refl (time_bytes time), from_be_bytes-to_be_bytes_8 time lt, timely) refl

key_again : (key : List ℕ) → IsKey key → key_of (encode_lower key) ≡ Some key
unfolding key_of
key_again key is = rw (decode_of-encode_lower key (key_bytes key is), key_passes key is) refl

pub id_again : (id : TxnId) → IsWritableId id → IsTime id.time → id_of (id_digits id) ≡ Some id
unfolding id_of
id_again id is timely =
    let parts = split_once-at 45 (encode_lower (to_be_bytes w64 id.time)) (encode_lower id.uuid) (digits_lack 45 no_dash (to_be_bytes w64 id.time) (time_bytes id.time)) in
    rw (parts, time_again id.time is.time timely, uuid_again id.uuid is.uuid) refl

-- no digit is an upper case letter, nor is a dash or a slash
abbrev IsLow : List ℕ → Type 0
IsLow text = list_any is_upper text ≡ false

low_append : (a b : List ℕ) → IsLow a → IsLow b → IsLow (a ++ b)
low_append a b la lb = list_any-append is_upper a b ∙ or_from (list_any is_upper a) (list_any is_upper b) la lb

pub id_low : (id : TxnId) → IsWritableId id → IsLow (id_digits id)
id_low id is =
    low_append (encode_lower (to_be_bytes w64 id.time)) (codes "-" ++ encode_lower id.uuid) (digits_low (to_be_bytes w64 id.time) (time_bytes id.time))
    (low_append (codes "-") (encode_lower id.uuid) refl (digits_low id.uuid (uuid_bytes id.uuid is.uuid)))

name_low : (name : Name) → IsWritableName name → IsLow (name_text name)
name_low (VersionOf key id) is =
    low_append (codes "v/") (encode_lower key ++ (codes "/" ++ id_digits id)) refl
    (low_append (encode_lower key) (codes "/" ++ id_digits id) (digits_low key (key_bytes key is.0)) (low_append (codes "/") (id_digits id) refl (id_low id is.1)))
name_low (CommitOf uuid) is = low_append (codes "c/") (encode_lower uuid) refl (digits_low uuid (uuid_bytes uuid is))
name_low (RetiredOf uuid) is = low_append (codes "r/") (encode_lower uuid) refl (digits_low uuid (uuid_bytes uuid is))

version_again : (key : List ℕ) (id : TxnId) → IsKey key → IsWritableId id → IsTime id.time → version_name (encode_lower key ++ (47 ∷ id_digits id)) ≡ Some (VersionOf key id)
unfolding version_name
version_again key id is writable timely =
    let parts = split_once-at 47 (encode_lower key) (id_digits id) (digits_lack 47 no_slash key (key_bytes key is)) in
    rw (parts, key_again key is, id_again id writable timely) refl

pub name_written : (name : Name) → IsName name → name_of (name_text name) ≡ Some name
unfolding name_of kind_name split_once commit_name retired_name
name_written (VersionOf key id) is =
    rw (name_low (VersionOf key id) is.0) (version_again key id is.0.0 is.0.1 is.1)
name_written (CommitOf uuid) is = rw (name_low (CommitOf uuid) is.0, uuid_again uuid is.0) refl
name_written (RetiredOf uuid) is = rw (name_low (RetiredOf uuid) is.0, uuid_again uuid is.0) refl

-- ---- no text begins another

same_length : (a b x y : List ℕ) (n : ℕ) → length a ≡ n → length b ≡ n → a ++ x ≡ b ++ y → (a ≡ b) × (x ≡ y)
same_length a b x y n la lb e = (
  sym (take_at a x n la) ∙ ap (λ (l : List ℕ). take n l) e ∙ take_at b y n lb,
  sym (drop_at a x n la) ∙ ap (λ (l : List ℕ). drop n l) e ∙ drop_at b y n lb,
)

same_digits : (a b : List ℕ) → IsBytes a → IsBytes b → encode_lower a ≡ encode_lower b → a ≡ b
same_digits a b fa fb e = decode_of-same (encode_lower b) a b (ap decode_of (sym e) ∙ decode_of-encode_lower a fa) (decode_of-encode_lower b fb)

uuids_apart : (u v x y : List ℕ) → IsUuid u → IsUuid v → encode_lower u ++ x ≡ encode_lower v ++ y → (u ≡ v) × (x ≡ y)
uuids_apart u v x y iu iv e =
    let lu = length-encode_with lower_digits u in
    let lv = length-encode_with lower_digits v in
    let p = same_length (encode_lower u) (encode_lower v) x y 32 (omega (arith, lu, iu.0)) (omega (arith, lv, iv.0)) e in
    (same_digits u v (uuid_bytes u iu) (uuid_bytes v iv) p.0, p.1)

times_apart : (s t : ℕ) (x y : List ℕ) → s < 2 ^ 64 → t < 2 ^ 64 → encode_lower (to_be_bytes w64 s) ++ x ≡ encode_lower (to_be_bytes w64 t) ++ y → (s ≡ t) × (x ≡ y)
times_apart s t x y ls lt e =
    let p = same_length (encode_lower (to_be_bytes w64 s)) (encode_lower (to_be_bytes w64 t)) x y 16 (length-encode_with lower_digits (to_be_bytes w64 s)) (length-encode_with lower_digits (to_be_bytes w64 t)) e in
    let same = same_digits (to_be_bytes w64 s) (to_be_bytes w64 t) (time_bytes s) (time_bytes t) p.0 in
    (sym (from_be_bytes-to_be_bytes_8 s ls) ∙ ap (from_be_bytes w64) same ∙ from_be_bytes-to_be_bytes_8 t lt, p.1)

pub ids_apart : (i j : TxnId) (x y : List ℕ) → IsWritableId i → IsWritableId j → id_digits i ++ x ≡ id_digits j ++ y → (i ≡ j) × (x ≡ y)
ids_apart i j x y wi wj e =
    let whole : encode_lower (to_be_bytes w64 i.time) ++ (45 ∷ (encode_lower i.uuid ++ x)) ≡ encode_lower (to_be_bytes w64 j.time) ++ (45 ∷ (encode_lower j.uuid ++ y)) =
    sym (append_assoc (encode_lower (to_be_bytes w64 i.time)) (45 ∷ encode_lower i.uuid) x) ∙ e ∙ append_assoc (encode_lower (to_be_bytes w64 j.time)) (45 ∷ encode_lower j.uuid) y in
    let t = times_apart i.time j.time (45 ∷ (encode_lower i.uuid ++ x)) (45 ∷ (encode_lower j.uuid ++ y)) wi.time wj.time whole in
    let u = uuids_apart i.uuid j.uuid x y wi.uuid wj.uuid (ap (λ (l : List ℕ). drop 1 l) t.1) in
    (ap (λ (time : ℕ). record { time = time; uuid = i.uuid }) t.0 ∙ ap (λ (uuid : List ℕ). record { time = j.time; uuid = uuid }) u.0, u.1)

abbrev found : List ℕ × List ℕ → Option (List ℕ × List ℕ)
found p = Some p

some_is : (p q : List ℕ × List ℕ) → found p ≡ found q → p ≡ q
some_is p q e = cc

keys_apart : (k l x y : List ℕ) → IsKey k → IsKey l → encode_lower k ++ (47 ∷ x) ≡ encode_lower l ++ (47 ∷ y) → (k ≡ l) × (x ≡ y)
keys_apart k l x y ik il e =
    let p = split_once-at 47 (encode_lower k) x (digits_lack 47 no_slash k (key_bytes k ik)) in
    let q = split_once-at 47 (encode_lower l) y (digits_lack 47 no_slash l (key_bytes l il)) in
    let same = some_is (encode_lower k, x) (encode_lower l, y) (sym p ∙ ap (split_once 47) e ∙ q) in
    (same_digits k l (key_bytes k ik) (key_bytes l il) (ap (λ (z : List ℕ × List ℕ). z.0) same), ap (λ (z : List ℕ × List ℕ). z.1) same)

versions_apart : (k l : List ℕ) (i j : TxnId) (x y : List ℕ) → IsKey k → IsKey l → IsWritableId i → IsWritableId j
    → (encode_lower k ++ (47 ∷ id_digits i)) ++ x ≡ (encode_lower l ++ (47 ∷ id_digits j)) ++ y → (VersionOf k i ≡ VersionOf l j) × (x ≡ y)
versions_apart k l i j x y ik il wi wj e =
    let whole : encode_lower k ++ (47 ∷ (id_digits i ++ x)) ≡ encode_lower l ++ (47 ∷ (id_digits j ++ y)) =
    sym (append_assoc (encode_lower k) (47 ∷ id_digits i) x) ∙ e ∙ append_assoc (encode_lower l) (47 ∷ id_digits j) y in
    let p = keys_apart k l (id_digits i ++ x) (id_digits j ++ y) ik il whole in
    let q = ids_apart i j x y wi wj p.1 in
    (ap (λ (key : List ℕ). VersionOf key i) p.0 ∙ ap (λ (id : TxnId). VersionOf l id) q.0, q.1)

-- texts of two kinds begin with different letters
kinds_apart : (a b : ℕ) (x y : List ℕ) → eqb a b ≡ false → a ∷ x ≡ b ∷ y → ⊥
kinds_apart a b x y differ e = eqb-false a b differ (ap (λ (l : List ℕ). get_or l 0 0) e)

behind : (x y : List ℕ) → x ≡ y → drop 2 x ≡ drop 2 y
behind x y e = ap (λ (l : List ℕ). drop 2 l) e

pub names_apart : (a b : Name) (x y : List ℕ) → IsWritableName a → IsWritableName b → name_text a ++ x ≡ name_text b ++ y → (a ≡ b) × (x ≡ y)
names_apart (VersionOf k i) (VersionOf l j) x y is js e = versions_apart k l i j x y is.0 js.0 is.1 js.1 (behind (name_text (VersionOf k i) ++ x) (name_text (VersionOf l j) ++ y) e)
names_apart (VersionOf k i) (CommitOf v) x y is js e = absurd (kinds_apart 118 99 _ _ refl e)
names_apart (VersionOf k i) (RetiredOf v) x y is js e = absurd (kinds_apart 118 114 _ _ refl e)
names_apart (CommitOf u) (VersionOf l j) x y is js e = absurd (kinds_apart 99 118 _ _ refl e)
names_apart (CommitOf u) (CommitOf v) x y is js e =
    let p = uuids_apart u v x y is js (behind (name_text (CommitOf u) ++ x) (name_text (CommitOf v) ++ y) e) in
    (ap CommitOf p.0, p.1)
names_apart (CommitOf u) (RetiredOf v) x y is js e = absurd (kinds_apart 99 114 _ _ refl e)
names_apart (RetiredOf u) (VersionOf l j) x y is js e = absurd (kinds_apart 114 118 _ _ refl e)
names_apart (RetiredOf u) (CommitOf v) x y is js e = absurd (kinds_apart 114 99 _ _ refl e)
names_apart (RetiredOf u) (RetiredOf v) x y is js e =
    let p = uuids_apart u v x y is js (behind (name_text (RetiredOf u) ++ x) (name_text (RetiredOf v) ++ y) e) in
    (ap RetiredOf p.0, p.1)
