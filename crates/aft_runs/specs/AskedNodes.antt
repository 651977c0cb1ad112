-- Runs in which a collection asks each node, and what it leaves out is left open; and one that ends with this answer.
use Rattle.std.specs.Prelude.{List, [], ◌∷◌}
use Rattle.aft_keeper.specs.declared.keeper.KeeperCall.TheVariants as calls
use Rattle.aft_model.specs.Membership.{the_office}
use Rattle.aft_model.specs.declared.office.OfficeAct.TheVariants as desk
use Rattle.aft_model.specs.declared.reply.Reply.{Reply}
use Rattle.aft_model.specs.declared.reply.Reply.TheVariants as replies
use Rattle.aft_histories.specs.Entries.{x, full_pair, record_pair}
use Rattle.aft_runs.specs.CollectionFaults.{is_faulty}
use Rattle.aft_runs.specs.Collections.{collects_dropped}
use Rattle.aft_runs.specs.Entries.{fails, closes}
use Rattle.aft_runs.specs.Lines.{opening, opens_on, boots, attempt, begins, puts, fetches, commits}
use Rattle.aft_runs.specs.Pinned.{older, newer}
use Rattle.aft_runs.specs.Rounds.{collects_on, collected, drops, gives_up, held}
use Rattle.aft_runs.specs.Words.{write, a, b, commit_of, record_at, version_pairs}
use Rattle.aft_runs.specs.Works.{Work, Run, run, by, nodes, nothing}

-- a transaction at the first node reads a commit; one at the second supersedes it, and the second node drops it. Then a collection comes to it, and does this
abbrev pub collects_read : List Work → Run
collects_read works = run (nodes 2) (
    opens_on (record_pair (commit_of older) ∷ []) [] (version_pairs older)
    ∷ boots 4 opening 1 1 (commit_of older ∷ [])
    ∷ boots 6 opening 2 1 (commit_of older ∷ [])
    ∷ begins 8 (by 1 1) (attempt 1 1 1) 2
    ∷ fetches 11 (by 1 2) (attempt 1 1 1) older.id (write x a)
    ∷ begins 12 (by 2 3) (attempt 2 1 1) 3
    ∷ puts 15 (by 2 4) (attempt 2 1 1) (write x b)
    ∷ commits 15 (by 2 5) (attempt 2 1 1) newer
    ∷ drops 18 (by 2 6) 2 (commit_of older ∷ [])
    ∷ collects_on 18 (by 3 7) (record_pair (commit_of older) ∷ record_at 2 1 newer ∷ []) []
    ∷ works)

-- the first node holds it, and the second gives it up
abbrev pub second_gives_up : List Work
second_gives_up = gives_up 20 (by 3 7) 2 1 older.id ∷ collected 21 (by 3 7) (held older.id 1 1 ∷ []) ∷ []

-- the second isn't asked
abbrev pub none_gives_up : List Work
none_gives_up = collected 20 (by 3 7) (held older.id 1 1 ∷ []) ∷ []

-- ---- a fault

-- a collection comes through its scans, and fails to mark a commit; it answers so
abbrev pub fails_to_mark : Reply → Run
fails_to_mark reply = collects_dropped (
    gives_up 19 (by 2 8) 1 1 older.id
    ∷ record nothing {
      door = fails (by 2 8) the_office (calls.Put (full_pair (commit_of older)).name (full_pair (commit_of older)).bytes) ∷ [];
      office = closes 21 (by 2 8) desk.Collected reply ∷ [];
    } ∷ [])

-- the commit is at fault
abbrev pub tells_fault : Reply
tells_fault = replies.Collected is_faulty
