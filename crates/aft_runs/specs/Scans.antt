-- The first page of a scan, and how far a scan may go.
use Rattle.std.specs.Prelude.{ℕ, Bool, List, [], ◌∷◌, codes}
use Rattle.aft_keeper.specs.declared.keeper.Pair.{Pair}
use Rattle.aft_lines.specs.ScanCourse.{scanned}
use Rattle.aft_lines.specs.Turns.{AtDoor}
use Rattle.aft_model.specs.Membership.{the_office}
use Rattle.aft_model.specs.Sound.{records_prefix}
use Rattle.aft_histories.specs.Entries.{first, second, record_of, record_pair}
use Rattle.aft_runs.specs.Entries.{lists}
use Rattle.aft_runs.specs.Lines.{opening}

-- whether a scan of records is whole that may show so many, and judges them or doesn't, and is shown these
abbrev pub is_whole_scan : ℕ → Bool → List Pair → Bool
is_whole_scan most judges pairs =
    (scanned (record { most = most; judges = judges }) the_office records_prefix (AtDoor 0 (lists opening the_office records_prefix pairs).act ∷ [])).is_whole

-- two records, and one name whose bytes are no record
abbrev pub two_records : List Pair
two_records = record_pair first ∷ record_pair second ∷ []

abbrev pub no_record : List Pair
no_record = record { name = record_of 1; bytes = codes "?" } ∷ []
