-- Runs in which a call of the store fails and a later line tries again; and such runs in which one of these lines is left open.
use Rattle.std.specs.Prelude.{◌+◌, List, [], ◌∷◌, ◌++◌, length}
use Rattle.aft_keeper.specs.declared.keeper.KeeperCall.TheVariants as calls
use Rattle.aft_model.specs.declared.choice.Picked.TheVariants as picks
use Rattle.aft_model.specs.declared.door.DoorEntry.{DoorEntry}
use Rattle.aft_model.specs.declared.node.NodeAct.TheVariants as turns
use Rattle.aft_model.specs.declared.reply.Reply.{Reply}
use Rattle.aft_model.specs.declared.reply.Reply.TheVariants as replies
use Rattle.aft_model.specs.declared.script.Command.TheVariants as commands
use Rattle.aft_histories.specs.Entries.{u, x, version_of, record_of, record_pair}
use Rattle.aft_runs.specs.Entries.{stores, misses, fails, turn, answering}
use Rattle.aft_runs.specs.Lines.{opening, opens, boots, attempt, caller_of, begins, puts, fetches, commits, doubts, releases}
use Rattle.aft_runs.specs.Reads.{x_hi}
use Rattle.aft_runs.specs.Words.{write, hi, commit_of, version_pair}
use Rattle.aft_runs.specs.Works.{Work, Run, run, by, at, nodes, asks}

-- ---- a commit in doubt

-- it is tried again, its record isn't found, and these puts are made
abbrev pub settles_by : List DoorEntry → Work
settles_by made = record (asks (by 1 4) commands.Commit) {
  door = misses (by 1 4) (caller_of (attempt 1 1 1)) (record_of 1) ∷ made ++ releases (by 1 4) (attempt 1 1 1) (u 1) ∷ [];
  nodes = at 1 (turn 11 (by 1 4) (turns.Settle (attempt 1 1 1))
      ∷ turn (12 + length made) (by 1 4) (turns.Stored (attempt 1 1 1) (commit_of x_hi))
      ∷ answering (13 + length made) (by 1 4) (turns.End (attempt 1 1 1)) (replies.Committed x_hi.id) ∷ []);
}

-- that of the record, and that of the version before it
abbrev pub stores_record : List DoorEntry
stores_record = stores (by 1 4) (caller_of (attempt 1 1 1)) (record_pair (commit_of x_hi)) ∷ []

abbrev pub stores_anew : List DoorEntry
stores_anew = stores (by 1 4) (caller_of (attempt 1 1 1)) (version_pair x_hi.id (write x hi)) ∷ stores_record

-- it isn't known whether a transaction's record is stored; it commits again, finds that it isn't, and makes these puts
abbrev pub commits_anew : List DoorEntry → Run
commits_anew made = run (nodes 1) (
    opens
    ∷ boots 3 opening 1 1 []
    ∷ begins 5 (by 1 1) (attempt 1 1 1) 1
    ∷ puts 8 (by 1 2) (attempt 1 1 1) (write x hi)
    ∷ doubts 8 (by 1 3) (attempt 1 1 1) x_hi
    ∷ settles_by made
    ∷ begins (13 + length made) (by 1 5) (attempt 1 1 2) 2
    ∷ fetches (16 + length made) (by 1 6) (attempt 1 1 2) x_hi.id (write x hi) ∷ [])

-- all is stored anew
abbrev pub doubt_stored_anew : Run
doubt_stored_anew = commits_anew stores_anew

-- ---- a fetch

-- its get fails, and this is answered
abbrev pub fails_and : Reply → Work
fails_and reply = record (asks (by 1 5) (commands.Get x)) {
  door = fails (by 1 5) (caller_of (attempt 1 1 2)) (calls.Get (version_of x x_hi.id)) ∷ [];
  nodes = at 1 (turn 14 (by 1 5) (turns.Select (attempt 1 1 2) x (picks.Fetch x_hi.id)) ∷ answering 15 (by 1 5) (turns.Lost (attempt 1 1 2) x x_hi.id) reply ∷ []);
}

-- a transaction's fetch of a version fails, which is answered so, and it gets the key again
abbrev pub gets_anew : Reply → Run
gets_anew reply = run (nodes 1) (
    opens
    ∷ boots 3 opening 1 1 []
    ∷ begins 5 (by 1 1) (attempt 1 1 1) 1
    ∷ puts 8 (by 1 2) (attempt 1 1 1) (write x hi)
    ∷ commits 8 (by 1 3) (attempt 1 1 1) x_hi
    ∷ begins 11 (by 1 4) (attempt 1 1 2) 2
    ∷ fails_and reply
    ∷ fetches 15 (by 1 6) (attempt 1 1 2) x_hi.id (write x hi) ∷ [])

-- it is a fault of the store
abbrev pub failed_get : Run
failed_get = gets_anew replies.StoreFault
