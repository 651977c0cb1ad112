-- Which files a source in memory holds, and which of its calls fail.
use Rattle.std.specs.Prelude.{ℕ, ◌≡◌, ◌+◌, ◌-◌, ◌^◌, List, [], ◌∷◌, None, min, Result, Ok, Err}
use Rattle.aft_keeper.specs.Contents.{bytes_at}
use Rattle.aft_keeper.specs.Failures.{after_success, after_failure}
use Rattle.aft_keeper.specs.declared.keeper.Pair.{Pair}
use Rattle.aft_keeper.specs.declared.failures.Failures.{Failures}
use Rattle.aft_keeper.specs.declared.mem_source.MemSource.{MemSource}
use Rattle.aft_keeper.specs.declared.source.SourceFault.{SourceFault}
use Rattle.aft_keeper.specs.declared.source.SourceFault.TheVariants.{Absent, Failed, Memory}

-- no pair has the name of a later one
abbrev pub HasDistinctNames : List Pair → Type 0
HasDistinctNames [] = Unit {0}
HasDistinctNames (p ∷ pairs) = (bytes_at p.name pairs ≡ None) × HasDistinctNames pairs

-- the files that it holds
abbrev pub files_of : MemSource → List Pair
files_of source = source.files

-- how often it has failed
abbrev pub faults_of : MemSource → ℕ
faults_of source = source.failures.faults

-- which of its calls fail, and how many it answered
abbrev pub failures_of : MemSource → Failures
failures_of source = source.failures

-- how often a name was absent
abbrev pub absences_of : MemSource → ℕ
absences_of source = source.absences

-- the counts after a read; one that lacked memory isn't counted
abbrev pub counted_after : {T : Type 0} → Result T SourceFault → Failures → Failures
counted_after (Ok x) f = after_success f
counted_after (Err Absent) f = after_success f
counted_after (Err Failed) f = after_failure f
counted_after (Err Memory) f = f

-- the count of absent names after a read
abbrev pub absences_after : {T : Type 0} → Result T SourceFault → ℕ → ℕ
absences_after (Ok x) n = n
absences_after (Err Absent) n = min (n + 1) (2 ^ 64 - 1)
absences_after (Err Failed) n = n
absences_after (Err Memory) n = n
