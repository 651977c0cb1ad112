-- Runs with a round that finds two versions of one UUID, of which a transaction holds the first when it is come to.
use Rattle.std.specs.Prelude.{ℕ, Bool, List, [], ◌∷◌, ◌++◌, codes, false}
use Rattle.aft_id.specs.declared.txn_id.TxnId.{TxnId}
use Rattle.aft_keeper.specs.declared.keeper.KeeperCall.TheVariants as calls
use Rattle.aft_lines.specs.CausesScans.{shows_too_many}
use Rattle.aft_lines.specs.OrphanCourse.{versions_prefix}
use Rattle.aft_model.specs.Membership.{the_office}
use Rattle.aft_model.specs.declared.door.DoorEntry.{DoorEntry}
use Rattle.aft_model.specs.declared.office.OfficeAct.TheVariants as desk
use Rattle.aft_model.specs.declared.office.OfficeEntry.{OfficeEntry}
use Rattle.aft_model.specs.declared.reply.Reply.{Reply}
use Rattle.aft_model.specs.declared.script.Command.TheVariants as commands
use Rattle.aft_histories.specs.Entries.{id_of, x, record_of, version_of}
use Rattle.aft_runs.specs.Entries.{closes, deletes, fails, lists}
use Rattle.aft_runs.specs.Lines.{opening, opens, boots, attempt, begins, crashes}
use Rattle.aft_runs.specs.OrphanRounds.{claim, counts, no_marker, no_record, release}
use Rattle.aft_runs.specs.Reads.{x_hi}
use Rattle.aft_runs.specs.RunLines.{line, holds_nothing}
use Rattle.aft_runs.specs.Words.{Writes, write, writes, hi, version_pairs}
use Rattle.aft_runs.specs.Works.{Run, run, ordered, step, by, nodes, nothing, asks}

-- what the same transaction had written to x at a later time
abbrev pub later : Writes
later = writes 1001 1 (write x hi ∷ [])

-- a round lists both versions while a transaction of their UUID runs, whose node then crashes; and the round does this, and ends so
abbrev pub passes_first : List DoorEntry → List OfficeEntry → Run
passes_first done ending = ordered (step 2 ∷ []) (run (nodes 1) (
    opens
    ∷ boots 3 opening 1 1 []
    ∷ begins 5 (by 1 1) (attempt 1 1 1) 1
    ∷ record (asks (by 2 2) (commands.Orphans x)) { door = lists (by 2 2) the_office (codes "v/78/") (version_pairs x_hi ++ version_pairs later) ∷ [] }
    ∷ crashes 9 (by 3 3) 1 1
    ∷ record nothing { door = done; office = ending } ∷ []))

-- it has claimed the UUID, and looked at the record
abbrev pub looks_once : Run
looks_once = passes_first (claim (by 2 2) ∷ no_record (by 2 2) ∷ []) []

-- it deletes the version of this id, and has passed one over
abbrev pub deletes_of : TxnId → Run
deletes_of id = passes_first
    (claim (by 2 2) ∷ no_record (by 2 2) ∷ no_marker (by 2 2) ∷ deletes (by 2 2) (version_of x id) ∷ release (by 2 2) ∷ [])
    (closes 15 (by 2 2) desk.Nothing (counts 1 0 1 0) ∷ [])

-- that of the second one
abbrev pub deletes_second : Run
deletes_second = deletes_of later.id

-- an id of the same transaction that no version listed has
abbrev pub unlisted : TxnId
unlisted = id_of 1002 1

-- its look at the record fails, and it answers this
abbrev pub fails_once : Reply → Run
fails_once reply = passes_first
    (claim (by 2 2) ∷ fails (by 2 2) the_office (calls.Get (record_of 1)) ∷ release (by 2 2) ∷ [])
    (closes 13 (by 2 2) desk.Nothing reply ∷ [])

-- whether the round that lists both shows too many, where so many are allowed
abbrev pub shows_more_than : ℕ → Bool
shows_more_than most = shows_too_many (record { most = most; judges = false }) (versions_prefix x) (line (by 2 2) (commands.Orphans x) (holds_nothing 1) looks_once.ran)
