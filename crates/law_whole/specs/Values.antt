-- The version of a commit that its name surely holds.
use Rattle.std.specs.Prelude.{List, Some, [], ℕ, ◌∷◌, ◌≡◌}
use Rattle.aft_id.specs.declared.txn_id.TxnId.{TxnId}
use Rattle.aft_records.specs.declared.stored.Version.{Version}
use Rattle.aft_model.specs.declared.door.DoorEntry.{DoorEntry}
use Rattle.aft_model.specs.MayHold.{OneOf, may_hold}
use Rattle.aft_model.specs.Readings.{version_name, versions_in}
use Rattle.aft_model.proofs.Histories.{In}
use Rattle.aft_lines.specs.Headline.{value_of}

-- a version's name surely holds one text, which is the version of its key and id with the value that it has by the history
pub record VersionIs (key : List ℕ) (id : TxnId) (value : List ℕ) (history : List DoorEntry) : Type 0 where
  pub bytes : List ℕ
  pub version : Version
  pub only : may_hold (version_name key id) history ≡ OneOf (Some bytes ∷ [])
  pub reads : In version (versions_in (record { name = version_name key id; bytes = bytes }))
  pub its_key : version.key ≡ key
  pub its_id : version.id ≡ id
  pub its_value : version.value ≡ value
  pub told : value_of key id history ≡ Some value
