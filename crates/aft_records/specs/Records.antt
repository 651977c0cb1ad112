-- Which bytes are a record of a commit. There are two formats, so speak of records by these words alone.
use Rattle.std.specs.Prelude.{◌≡◌, ◌⊎◌, ℕ, List, Ok}
use Rattle.aft_records.specs.declared.stored.Commit.{Commit}
use Rattle.aft_records.specs.declared.stored.Origin.{Origin}
use Rattle.aft_records.specs.Reading.{commit_of}
use Rattle.aft_records.specs.Rows.{commit_row, record_row}
use Rattle.aft_records.specs.Stored.{IsOrigin}

-- bytes that are read as a record of this commit, in either format
abbrev pub IsRecordOf : List ℕ → Commit → Type 0
IsRecordOf bytes c = commit_of bytes ≡ Ok c

-- the spellings of a record of this commit: the one of the first format, and one of the second for each origin
abbrev pub IsSpelledRecordOf : List ℕ → Commit → Type 0
IsSpelledRecordOf bytes c = (bytes ≡ commit_row c) ⊎ ((o : Origin) × IsOrigin o × (bytes ≡ record_row (record { commit = c; origin = o })))
