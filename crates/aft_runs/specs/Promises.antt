-- The parts of the promise, by name, so that a trace that doesn't keep it shows which of them it breaks.
use Rattle.std.specs.Prelude.{◌≡◌, Bool, not, List, [], ◌∷◌, filter}
use Rattle.aft_lines.specs.Headline.{reads_atomic_sets, reads_recorded, reads_own_and_repeats, commits_once, whole_until_superseded, loses_nothing, names_blockers}
use Rattle.aft_model.specs.Honest.{Honest}
use Rattle.aft_model.specs.declared.trace.Trace.{Trace}
use Rattle.aft_runs.specs.Works.{Run}

-- the parts, named as the promise names them
pub data Promise : Type 0 where
  AtomicReadSets : Promise
  RecordedBefore : Promise
  OwnWritesAndRepeats : Promise
  OneCommitAnId : Promise
  WholeCommits : Promise
  NothingFoundDeleted : Promise
  BlockersNamed : Promise

-- whether a trace keeps a part
abbrev pub keeps : Promise → Trace → Bool
keeps AtomicReadSets trace = reads_atomic_sets trace
keeps RecordedBefore trace = reads_recorded trace
keeps OwnWritesAndRepeats trace = reads_own_and_repeats trace
keeps OneCommitAnId trace = commits_once trace
keeps WholeCommits trace = whole_until_superseded trace
keeps NothingFoundDeleted trace = loses_nothing trace
keeps BlockersNamed trace = names_blockers trace

-- all of them
abbrev pub promises : List Promise
promises = AtomicReadSets ∷ RecordedBefore ∷ OwnWritesAndRepeats ∷ OneCommitAnId ∷ WholeCommits ∷ NothingFoundDeleted ∷ BlockersNamed ∷ []

-- those that a trace breaks, in this order
abbrev pub unkept : Trace → List Promise
unkept trace = filter (λ promise. not (keeps promise trace)) promises

-- a run over a store that keeps what it acknowledged, which breaks these parts of the promise and no others
abbrev pub Breaks : List Promise → Run → Type 0
Breaks broken run = Honest run.ran.trace.door × (unkept run.ran.trace ≡ broken)
