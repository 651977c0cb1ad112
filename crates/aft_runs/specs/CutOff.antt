-- Runs in which a line's incarnation is shut out while the line is under way, and its last turn is left open; and commits that meet a fault, whose answer is left open.
use Rattle.std.specs.Prelude.{ℕ, List, [], ◌∷◌, ◌++◌, map, codes}
use Rattle.aft_keeper.specs.declared.keeper.KeeperAnswer.TheVariants as answers
use Rattle.aft_keeper.specs.declared.keeper.KeeperCall.TheVariants as calls
use Rattle.aft_model.specs.declared.caller.Attempt.{Attempt}
use Rattle.aft_model.specs.declared.caller.By.{By}
use Rattle.aft_model.specs.declared.door.DoorAct.TheVariants as acts
use Rattle.aft_model.specs.declared.choice.Picked.TheVariants as picks
use Rattle.aft_model.specs.declared.door.DoorEntry.{DoorEntry}
use Rattle.aft_model.specs.declared.node.NodeAct.{NodeAct}
use Rattle.aft_model.specs.declared.node.NodeAct.TheVariants as turns
use Rattle.aft_model.specs.declared.node.NodeEntry.{NodeEntry}
use Rattle.aft_model.specs.declared.reply.Reply.{Reply}
use Rattle.aft_model.specs.declared.reply.Reply.TheVariants as replies
use Rattle.aft_model.specs.declared.script.Command.TheVariants as commands
use Rattle.aft_histories.specs.Entries.{u, x, record_of}
use Rattle.aft_runs.specs.Entries.{does, calls_for, fails, stores, turn, answering}
use Rattle.aft_runs.specs.Lines.{opening, opens, boots, attempt, begins, caller_of, commits, crashes, own_record, puts}
use Rattle.aft_runs.specs.Reads.{x_hi}
use Rattle.aft_runs.specs.Words.{write, hi, commit_of, version_pairs}
use Rattle.aft_runs.specs.Works.{Work, Run, run, ordered, step, by, at, nodes, asks, nothing}

-- the only attempt
abbrev pub own : Attempt
own = attempt 1 1 1

-- a node is fenced, and later goes down
abbrev pub fences : By → Work
fences who = record (asks who (commands.Crash 1)) { door = does who (acts.Fence 1 1) ∷ [] }

abbrev pub goes_down : ℕ → By → Work
goes_down front who = record nothing { nodes = at 1 (answering front who (turns.Down 1) (replies.Crashed 1 1) ∷ []) }

-- the entries of a node
abbrev pub at_node : List NodeEntry → Work
at_node entries = record nothing { nodes = at 1 entries }

-- ---- a begin

-- a begin has claimed its UUID, its node is fenced, and this is done
abbrev pub begin_fenced_then : List Work → Run
begin_fenced_then works = ordered (step 1 ∷ []) (run (nodes 1) (
    opens
    ∷ boots 3 opening 1 1 []
    ∷ record (asks (by 1 1) (commands.Begin (u 1) 1)) { door = does (by 1 1) (acts.Claim (u 1) 1 1) ∷ []; nodes = at 1 (turn 5 (by 1 1) (turns.Admit own (u 1)) ∷ []) }
    ∷ fences (by 2 2)
    ∷ works))

-- its last turn does this, and answers that the node is down; and the node goes down
abbrev pub begin_ends : NodeAct → Work
begin_ends act = at_node (answering 7 (by 1 1) act (replies.NodeDown 1 1) ∷ [])

abbrev pub crash_ends : Work
crash_ends = goes_down 7 (by 2 2)

-- ---- a commit

-- a commit has stored its record, its node is fenced, and this is done
abbrev pub commit_fenced_then : List Work → Run
commit_fenced_then works = ordered (step 1 ∷ []) (run (nodes 1) (
    opens
    ∷ boots 3 opening 1 1 []
    ∷ begins 5 (by 1 1) own 1
    ∷ puts 8 (by 1 2) own (write x hi)
    ∷ record (asks (by 1 3) commands.Commit) {
      door = map (stores (by 1 3) (caller_of own)) (version_pairs x_hi ++ own_record own x_hi ∷ []);
      nodes = at 1 (turn 8 (by 1 3) (turns.Start own 1000 (commit_of x_hi)) ∷ []);
    }
    ∷ fences (by 2 4)
    ∷ works))

-- the node learns that it is stored
abbrev pub learns_stored : NodeEntry
learns_stored = turn 10 (by 1 3) (turns.Stored own (commit_of x_hi))

-- it is left in doubt for this reason
abbrev pub is_left : Reply → NodeEntry
is_left reply = answering 11 (by 1 3) (turns.Doubt own) reply

abbrev pub is_down : Reply
is_down = replies.NodeDown 1 1

abbrev pub stopped : Work
stopped = goes_down 11 (by 2 4)

-- it only answers that the node is down
abbrev pub only_answers : Work
only_answers = at_node (answering 11 (by 1 3) turns.Nothing is_down ∷ [])

-- ---- a get

-- a transaction that has picked the version of x
abbrev pub reader : Attempt
reader = attempt 1 1 2

-- it is to be fetched, its node is fenced, and this is done
abbrev pub get_fenced_then : List Work → Run
get_fenced_then works = ordered (step 1 ∷ []) (run (nodes 1) (
    opens
    ∷ boots 3 opening 1 1 []
    ∷ begins 5 (by 1 1) own 1
    ∷ puts 8 (by 1 2) own (write x hi)
    ∷ commits 8 (by 1 3) own x_hi
    ∷ begins 11 (by 1 4) reader 2
    ∷ record (asks (by 1 5) (commands.Get x)) { nodes = at 1 (turn 14 (by 1 5) (turns.Select reader x (picks.Fetch x_hi.id)) ∷ []) }
    ∷ fences (by 2 6)
    ∷ works))

-- its last turn does this, and answers that the node is down; and the node goes down
abbrev pub get_ends : NodeAct → Work
get_ends act = at_node (answering 15 (by 1 5) act is_down ∷ [])

abbrev pub get_stops : Work
get_stops = goes_down 15 (by 2 6)

-- ---- a start

-- a node has crashed, boots again and has come up, is fenced, and this is done
abbrev pub start_fenced_then : List Work → Run
start_fenced_then works = ordered (step 1 ∷ []) (run (nodes 1) (
    opens
    ∷ boots 3 opening 1 1 []
    ∷ crashes 5 (by 1 1) 1 1
    ∷ record (asks (by 1 2) (commands.Start 1)) { door = does (by 1 2) (acts.Up 1 2) ∷ []; nodes = at 1 (turn 6 (by 1 2) (turns.Booting 2) ∷ []) }
    ∷ record (asks (by 2 3) (commands.Crash 1)) { door = does (by 2 3) (acts.Fence 1 2) ∷ [] }
    ∷ works))

-- its last turn does this, and answers that the node is down; and the node goes down
abbrev pub start_ends : NodeAct → Work
start_ends act = at_node (answering 8 (by 1 2) act (replies.NodeDown 1 2) ∷ [])

abbrev pub start_stops : Work
start_stops = at_node (answering 8 (by 2 3) (turns.Down 2) (replies.Crashed 1 2) ∷ [])

-- ---- a commit that meets a fault

-- its put of the record fails, this comes of its get of it, and it is left in doubt with this answer
abbrev pub doubts_behind : DoorEntry → Reply → Run
doubts_behind get reply = run (nodes 1) (
    opens
    ∷ boots 3 opening 1 1 []
    ∷ begins 5 (by 1 1) own 1
    ∷ puts 8 (by 1 2) own (write x hi)
    ∷ record (asks (by 1 3) commands.Commit) {
      door = map (stores (by 1 3) (caller_of own)) (version_pairs x_hi)
          ++ fails (by 1 3) (caller_of own) (calls.Put (own_record own x_hi).name (own_record own x_hi).bytes) ∷ get ∷ [];
      nodes = at 1 (turn 8 (by 1 3) (turns.Start own 1000 (commit_of x_hi)) ∷ answering 11 (by 1 3) (turns.Doubt own) reply ∷ []);
    } ∷ [])

-- the get fails, it finds nothing, or it finds what is no record
abbrev pub get_fails : DoorEntry
get_fails = fails (by 1 3) (caller_of own) (calls.Get (record_of 1))

abbrev pub get_misses : DoorEntry
get_misses = calls_for (by 1 3) (caller_of own) (calls.Get (record_of 1)) answers.Absent

abbrev pub finds_damage : DoorEntry
finds_damage = calls_for (by 1 3) (caller_of own) (calls.Get (record_of 1)) (answers.Found (codes "?"))
