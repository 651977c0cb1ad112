-- Names are written as they are: each of their bytes is one that a reply writes so.
use Rattle.std.proofs.Common.{◌≡◌, ℕ, zero, suc, ◌/◌, ◌%◌, ◌<◌, true, leb, List, [], ◌∷◌, ◌++◌, codes, slice_index, refl, ap, ◌∙◌, arith}
use Rattle.std.specs.Prelude.{IsTrue}
use Rattle.std.specs.Int.{to_be_bytes, w64}
use Rattle.std.specs.List.{list_all}
use Rattle.std.proofs.lemmas.Bool.{and_from, and_parts, leb-true}
use Rattle.std.proofs.lemmas.List.Folds.{list_all-append}
use Rattle.hex.specs.Hex.{IsBytes, encode_lower, encode_with, lower_digits}
use Rattle.aft_id.specs.TxnId.{IsUuid}
use Rattle.aft_id.specs.declared.txn_id.TxnId.{TxnId}
use Rattle.aft_records.specs.Limits.{IsKey, is_key_byte}
use Rattle.aft_records.specs.Names.{id_digits}
use Rattle.aft_records.specs.Stored.{IsWritableId}
use Rattle.aft_records.proofs.Digits.{code_of, digit_spelled}
use Rattle.aft_records.proofs.NameWritten.{time_bytes, uuid_bytes}
use Rattle.aft_model.specs.Readings.{marker_name, record_name, version_name}
use Rattle.aft_lines.specs.CausesScans.{written_name}

-- a text whose bytes are all graphic is written as it is
pub written_itself : (name : List ℕ) → IsTrue (list_all is_key_byte name) → written_name name ≡ name
written_itself [] all = refl
written_itself (b ∷ name) all =
    let parts = and_parts (is_key_byte b) (list_all is_key_byte name) all in
    rw (parts.0, written_itself name parts.1) refl

-- ---- digits

graphic_code : (v : ℕ) → v < 16 → is_key_byte (code_of v) ≡ true
graphic_code v lt = grind arith

graphic_at : (v : ℕ) → v < 16 → is_key_byte (slice_index lower_digits v) ≡ true
graphic_at v lt = ap is_key_byte (digit_spelled v lt) ∙ graphic_code v lt

pub graphic_digits : (bytes : List ℕ) → IsBytes bytes → IsTrue (list_all is_key_byte (encode_lower bytes))
unfolding encode_with
graphic_digits [] fits = refl
graphic_digits (b ∷ bytes) fits =
    let byte = fits 0 in
    let high = graphic_at (b / 16) (omega arith) in
    let low = graphic_at (b % 16) (omega arith) in
    and_from _ _ high (and_from _ _ low (graphic_digits bytes (λ i. fits (suc i))))

both_graphic : (a b : List ℕ) → IsTrue (list_all is_key_byte a) → IsTrue (list_all is_key_byte b) → IsTrue (list_all is_key_byte (a ++ b))
both_graphic a b one other = list_all-append is_key_byte a b ∙ and_from _ _ one other

-- ---- names

key_bytes : (key : List ℕ) → IsTrue (list_all is_key_byte key) → IsBytes key
key_bytes [] all i = omega arith
key_bytes (b ∷ key) all zero = leb_small b (and_parts (leb 33 b) (leb b 126) (and_parts (is_key_byte b) (list_all is_key_byte key) all).0).1
  where
    leb_small : (n : ℕ) → IsTrue (leb n 126) → n < 256
    leb_small n is = let low = leb-true n 126 is in omega arith
key_bytes (b ∷ key) all (suc i) = key_bytes key (and_parts (is_key_byte b) (list_all is_key_byte key) all).1 i

id_written : (id : TxnId) → IsWritableId id → IsTrue (list_all is_key_byte (id_digits id))
id_written id fits =
    both_graphic (encode_lower (to_be_bytes w64 id.time)) (codes "-" ++ encode_lower id.uuid) (graphic_digits (to_be_bytes w64 id.time) (time_bytes id.time))
    (both_graphic (codes "-") (encode_lower id.uuid) refl (graphic_digits id.uuid (uuid_bytes id.uuid fits.uuid)))

pub version_written : (key : List ℕ) (id : TxnId) → IsKey key → IsWritableId id → written_name (version_name key id) ≡ version_name key id
version_written key id is fits =
    written_itself (version_name key id)
    (both_graphic (codes "v/") (encode_lower key ++ (codes "/" ++ id_digits id)) refl
    (both_graphic (encode_lower key) (codes "/" ++ id_digits id) (graphic_digits key (key_bytes key is.graphic))
    (both_graphic (codes "/") (id_digits id) refl (id_written id fits))))

pub record_written : (uuid : List ℕ) → IsUuid uuid → written_name (record_name uuid) ≡ record_name uuid
record_written uuid is = written_itself (record_name uuid) (both_graphic (codes "c/") (encode_lower uuid) refl (graphic_digits uuid (uuid_bytes uuid is)))

pub marker_written : (uuid : List ℕ) → IsUuid uuid → written_name (marker_name uuid) ≡ marker_name uuid
marker_written uuid is = written_itself (marker_name uuid) (both_graphic (codes "r/") (encode_lower uuid) refl (graphic_digits uuid (uuid_bytes uuid is)))
