-- Lists that pass the tests of bytes.
use Rattle.std.proofs.Common.{ℕ, zero, suc, ◌<◌, List, [], ◌∷◌, eqb, length, arith}
use Rattle.std.specs.Prelude.{IsTrue}
use Rattle.std.proofs.lemmas.Bool.{and_parts, eqb-true, ltb-true}
use Rattle.std.proofs.lemmas.List.Elements.{All-from_get_or}
use Rattle.aft_fields.proofs.Bytes.{IsBytes}
use Rattle.aft_id.specs.TxnId.{IsUuid}
use Rattle.aft_model.specs.Bytes.{are_bytes, is_byte, is_uuid}

pub bytes_are : (bytes : List ℕ) → IsTrue (are_bytes bytes) → IsBytes bytes
bytes_are [] all i = omega arith
bytes_are (b ∷ bytes) all zero = ltb-true b 256 (and_parts (is_byte b) (are_bytes bytes) all).0
bytes_are (b ∷ bytes) all (suc i) = bytes_are bytes (and_parts (is_byte b) (are_bytes bytes) all).1 i

pub uuid_is : (uuid : List ℕ) → IsTrue (is_uuid uuid) → IsUuid uuid
uuid_is uuid is =
    let parts = and_parts (eqb (length uuid) 16) (are_bytes uuid) is in
    (eqb-true (length uuid) 16 parts.0, All-from_get_or (λ b. b < 256) uuid 0 (λ i lt. bytes_are uuid parts.1 i))
