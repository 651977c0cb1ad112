-- Runs in which a collection meets another one or a fault; and such runs in which what comes of that is left open.
use Rattle.std.specs.Prelude.{List, [], ◌∷◌, ◌++◌, codes, map}
use Rattle.aft_keeper.specs.declared.keeper.KeeperCall.TheVariants as calls
use Rattle.aft_model.specs.Membership.{the_office}
use Rattle.aft_model.specs.declared.office.OfficeAct.TheVariants as desk
use Rattle.aft_model.specs.declared.office.OfficeEntry.{OfficeEntry}
use Rattle.aft_model.specs.declared.reply.Judged.{Judged}
use Rattle.aft_model.specs.declared.reply.Reply.TheVariants as replies
use Rattle.aft_model.specs.declared.reply.Verdict.TheVariants as verdicts
use Rattle.aft_model.specs.declared.script.Command.TheVariants as commands
use Rattle.aft_histories.specs.Entries.{version_of, record_pair, full_pair, done_pair, x}
use Rattle.aft_runs.specs.Collections.{collects_dropped}
use Rattle.aft_runs.specs.Entries.{stores, deletes, fails, lists, says, closes}
use Rattle.aft_runs.specs.Lines.{opening, opens, boots}
use Rattle.aft_runs.specs.Pinned.{older, newer}
use Rattle.aft_runs.specs.Rounds.{gives_up, collected, retired}
use Rattle.aft_runs.specs.Words.{commit_of}
use Rattle.aft_runs.specs.Works.{Work, Run, run, ordered, whole, step, by, nodes, asks}

-- ---- another collection

-- while a collection runs, another line of a collection does this at the office
abbrev pub collects_beside : OfficeEntry → Run
collects_beside entry = ordered (step 1 ∷ whole 2 ∷ whole 1 ∷ []) (run (nodes 1) (
    opens
    ∷ boots 3 opening 1 1 []
    ∷ record (asks (by 1 1) commands.Collect) { door = lists (by 1 1) the_office (codes "c/") [] ∷ []; office = says 5 (by 1 1) desk.Collecting ∷ [] }
    ∷ record (asks (by 2 2) commands.Collect) { office = entry ∷ [] }
    ∷ record (collected 7 (by 1 1) []) { door = lists (by 1 1) the_office (codes "r/") [] ∷ [] } ∷ []))

-- it is refused
abbrev pub two_collections : Run
two_collections = collects_beside (closes 6 (by 2 2) desk.Nothing replies.Collecting)

-- ---- a fault

-- what a collection says of a commit for which a call of the store failed
abbrev pub is_faulty : List Judged
is_faulty = record { id = older.id; verdict = verdicts.Fault } ∷ []

-- a collection has marked a commit, and fails to delete its record; it says this of the commit
abbrev pub fails_to_delete : List Judged → List Work
fails_to_delete judged =
    gives_up 19 (by 2 8) 1 1 older.id
    ∷ record (collected 22 (by 2 8) judged) { door = stores (by 2 8) the_office (full_pair (commit_of older)) ∷ fails (by 2 8) the_office (calls.Delete (record_pair (commit_of older)).name) ∷ [] } ∷ []

-- the next one is shown the record and the marker, and deletes the rest
abbrev pub deletes_rest : List Work
deletes_rest =
    record (asks (by 2 9) commands.Collect) {
      door = lists (by 2 9) the_office (codes "c/") (map record_pair (commit_of older ∷ commit_of newer ∷ []))
          ∷ lists (by 2 9) the_office (codes "r/") (full_pair (commit_of older) ∷ [])
          ∷ deletes (by 2 9) (record_pair (commit_of older)).name
          ∷ deletes (by 2 9) (version_of x older.id)
          ∷ stores (by 2 9) the_office (done_pair older.id) ∷ [];
      office = says 22 (by 2 9) desk.Collecting ∷ [];
    }
    ∷ collected 27 (by 2 9) (retired older.id ∷ []) ∷ []

-- both
abbrev pub collected_twice : Run
collected_twice = collects_dropped (fails_to_delete is_faulty ++ deletes_rest)

-- the first alone, which says this
abbrev pub says_of_fault : List Judged → Run
says_of_fault judged = collects_dropped (fails_to_delete judged)
