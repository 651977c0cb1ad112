-- A commit that is whole in the store: its record and each of its versions are there.
use Rattle.std.specs.Prelude.{Bool, IsTrue, List, None, Option, Some, false, ℕ, ◌&&◌, ◌∷◌}
use Rattle.std.specs.List.{list_all}
use Rattle.std.specs.Str.{bytes_eq}
use Rattle.aft_records.specs.declared.stored.Commit.{Commit}
use Rattle.aft_model.specs.declared.door.DoorEntry.{DoorEntry}
use Rattle.aft_model.specs.MayHold.{MayHold, OneOf, Unknown, may_hold}
use Rattle.aft_model.specs.Readings.{is_record_of, is_version_at, record_name, version_name}

-- whether an outcome is bytes, and these pass a test
abbrev pub is_there : (List ℕ → Bool) → Option (List ℕ) → Bool
is_there test None = false
is_there test (Some bytes) = test bytes

-- whether what a name may hold is known, and all of it passes a test
abbrev pub surely : (Option (List ℕ) → Bool) → MayHold → Bool
surely test Unknown = false
surely test (OneOf outcomes) = list_all test outcomes

-- whether what a name may hold is known, is one text of bytes, and this passes a test
abbrev pub surely_one : (List ℕ → Bool) → MayHold → Bool
surely_one test (OneOf (Some bytes ∷ outcomes)) = test bytes && list_all (is_there (bytes_eq bytes)) outcomes
surely_one test may = false

-- whether the record of a commit is surely there, in any spelling
abbrev pub is_recorded : Commit → List DoorEntry → Bool
is_recorded c history = surely (is_there (λ bytes. is_record_of c (record { name = record_name c.id.uuid; bytes = bytes }))) (may_hold (record_name c.id.uuid) history)

-- whether a version of a key and the commit's id is surely there, and one alone
abbrev pub has_version : Commit → List DoorEntry → List ℕ → Bool
has_version c history key = surely_one (λ bytes. is_version_at key c.id (record { name = version_name key c.id; bytes = bytes })) (may_hold (version_name key c.id) history)

-- whether a commit is whole
abbrev pub is_whole : Commit → List DoorEntry → Bool
is_whole c history = is_recorded c history && list_all (has_version c history) c.keys

abbrev pub Whole : Commit → List DoorEntry → Type 0
Whole c history = IsTrue (is_whole c history)
