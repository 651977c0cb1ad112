-- The runs of the other files that are legal, together.
use Rattle.std.specs.Prelude.{Bool, List, [], ◌∷◌, ◌++◌, ◌&&◌, IsTrue}
use Rattle.std.specs.List.{list_all}
use Rattle.aft_lines.specs.Asked.{Asked, Ran}
use Rattle.aft_lines.specs.RunsSoFar.{all_lead_somewhere, all_make, all_stopped_rightly, opens_so}
use Rattle.aft_model.specs.declared.trace.Trace.{Trace}
use Rattle.aft_runs.specs.Aborts.{aborted, doubt_aborted, doubt_committed}
use Rattle.aft_runs.specs.Backups.{beside_collection, copying_beside}
use Rattle.aft_runs.specs.BootFaults.{boot_fault}
use Rattle.aft_runs.specs.Clocks.{earliest, latest, untold, past_end}
use Rattle.aft_runs.specs.CollectionFaults.{two_collections, collected_twice}
use Rattle.aft_runs.specs.Crashes.{crash_between_versions, crash_behind_fetch, crash_before_fetch}
use Rattle.aft_runs.specs.Faults.{doubt_settled, started_again}
use Rattle.aft_runs.specs.Forgets.{forgets}
use Rattle.aft_runs.specs.FullBoxes.{full_box, full_again}
use Rattle.aft_runs.specs.HeldClaims.{held_claim, begun_again, begun_retired, begun_within}
use Rattle.aft_runs.specs.Incarnations.{incarnations, crashed_at_boot}
use Rattle.aft_runs.specs.LostMail.{lost_mail}
use Rattle.aft_runs.specs.OrphanRounds.{deleted_orphan, kept_once_recorded}
use Rattle.aft_runs.specs.Pinned.{pinned_version}
use Rattle.aft_runs.specs.Reads.{ordinary_use, absent_repeats, absent_blocks, older_version_fits}
use Rattle.aft_runs.specs.Retries.{doubt_stored_anew, failed_get}
use Rattle.aft_runs.specs.Sessions.{session}
use Rattle.aft_runs.specs.Shared.{shared_attempt, shared_doubt}
use Rattle.aft_runs.specs.Threads.{with_threads}
use Rattle.aft_runs.specs.Told.{announced, never_announced}
use Rattle.aft_runs.specs.TwoVersions.{deletes_second}
use Rattle.aft_runs.specs.Works.{Run}

-- those in which transactions write and read, commit late, or are aborted
abbrev pub of_transactions : List Run
of_transactions =
    ordinary_use ∷ absent_repeats ∷ absent_blocks ∷ older_version_fits ∷ doubt_settled ∷ doubt_stored_anew ∷ failed_get ∷ shared_attempt ∷ shared_doubt
    ∷ aborted ∷ doubt_aborted ∷ doubt_committed ∷ earliest ∷ latest ∷ untold ∷ past_end ∷ held_claim ∷ begun_again ∷ begun_within ∷ []

-- those of crashes, boots, boxes, rounds and collections
abbrev pub of_nodes : List Run
of_nodes =
    started_again ∷ boot_fault ∷ incarnations ∷ crashed_at_boot ∷ crash_between_versions ∷ crash_behind_fetch ∷ crash_before_fetch ∷ announced
    ∷ never_announced ∷ lost_mail ∷ full_box ∷ full_again ∷ pinned_version ∷ begun_retired ∷ two_collections ∷ collected_twice ∷ with_threads ∷ []

-- those in which the office works: what was collected is forgotten, orphans are deleted, the store is copied; and a session asks
abbrev pub of_office : List Run
of_office = forgets ∷ kept_once_recorded ∷ deleted_orphan ∷ deletes_second ∷ beside_collection ∷ copying_beside ∷ session ∷ []

-- all of them
abbrev pub all_runs : List Run
all_runs = of_transactions ++ of_nodes ++ of_office

-- some runs of which each has a trace that passes a test
abbrev pub Each : (Trace → Bool) → List Run → Type 0
Each test runs = IsTrue (list_all (λ told. test told.ran.trace) runs)

-- all of them with what they were asked
abbrev pub EachRun : (Asked → Ran → Bool) → Type 0
EachRun test = IsTrue (list_all (λ told. test told.asked told.ran) all_runs)

-- whether a run has what a run so far has besides what each legal trace has by itself
abbrev pub comes_along : Asked → Ran → Bool
comes_along asked ran = opens_so asked ran && all_lead_somewhere asked ran && all_make asked ran && all_stopped_rightly asked ran
