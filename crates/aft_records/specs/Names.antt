-- The names that stored values stand under.
use Rattle.std.specs.Prelude.{ℕ, List, ◌++◌, codes}
use Rattle.std.specs.Int.{w64, to_be_bytes}
use Rattle.hex.specs.Hex.{encode_lower}
use Rattle.aft_id.specs.declared.txn_id.TxnId.{TxnId}
use Rattle.aft_records.specs.declared.name.Name.{Name}
use Rattle.aft_records.specs.declared.name.Name.TheVariants.{VersionOf, CommitOf, RetiredOf}

-- the id in a version's name: sixteen digits of time, a dash, and the digits of the UUID
abbrev pub id_digits : TxnId → List ℕ
id_digits id = encode_lower (to_be_bytes w64 id.time) ++ (codes "-" ++ encode_lower id.uuid)

-- the text of a name, all digits in lower case
abbrev pub name_text : Name → List ℕ
name_text (VersionOf key id) = codes "v/" ++ (encode_lower key ++ (codes "/" ++ id_digits id))
name_text (CommitOf uuid) = codes "c/" ++ encode_lower uuid
name_text (RetiredOf uuid) = codes "r/" ++ encode_lower uuid
