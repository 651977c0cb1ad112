-- Runs in which what is dropped or given up is left open: as the rules say they are legal, and otherwise they are refused.
use Rattle.std.specs.Prelude.{ℕ, ◌+◌, List, [], ◌∷◌, ◌++◌, length}
use Rattle.aft_records.specs.declared.stored.Commit.{Commit}
use Rattle.aft_model.specs.declared.node.NodeAct.TheVariants as turns
use Rattle.aft_model.specs.declared.node.NodeEntry.{NodeEntry}
use Rattle.aft_model.specs.declared.reply.Judged.{Judged}
use Rattle.aft_model.specs.declared.reply.Reply.TheVariants as replies
use Rattle.aft_histories.specs.Entries.{x}
use Rattle.aft_runs.specs.Entries.{turn, answering}
use Rattle.aft_runs.specs.Lines.{opening, opens, boots, attempt, begins, puts, fetches, commits, doubts, leaves}
use Rattle.aft_runs.specs.Pinned.{older, newer}
use Rattle.aft_runs.specs.Rounds.{drops, collects, gives_up, retires, collected, held, retired}
use Rattle.aft_runs.specs.Words.{Writes, write, writes, a, b, commit_of}
use Rattle.aft_runs.specs.Works.{Work, Run, run, by, at, nodes, nothing}

-- ---- local rounds

-- a transaction has read a commit, and another has superseded it; then this is done, and the node has this local round
abbrev pub round_behind : List Work → Work → Run
round_behind earlier round = run (nodes 1) (
    opens
    ∷ boots 3 opening 1 1 []
    ∷ begins 5 (by 1 1) (attempt 1 1 1) 1
    ∷ puts 8 (by 1 2) (attempt 1 1 1) (write x a)
    ∷ commits 8 (by 1 3) (attempt 1 1 1) older
    ∷ begins 11 (by 2 4) (attempt 1 1 2) 2
    ∷ fetches 14 (by 2 5) (attempt 1 1 2) older.id (write x a)
    ∷ begins 15 (by 1 6) (attempt 1 1 3) 3
    ∷ puts 18 (by 1 7) (attempt 1 1 3) (write x b)
    ∷ commits 18 (by 1 8) (attempt 1 1 3) newer
    ∷ earlier ++ round ∷ [])

-- the same where the round drops these commits
abbrev pub drops_behind : List Work → List Commit → Run
drops_behind earlier dropped = round_behind earlier (drops (21 + length earlier) (by 1 10) 1 dropped)

-- the reader leaves
abbrev pub reader_leaves : List Work
reader_leaves = leaves 21 (by 2 9) (attempt 1 1 2) 2 ∷ []

-- a round says that it dropped so many, and does nothing
abbrev pub says_dropped : ℕ → Work
says_dropped count = record (drops 22 (by 1 10) 1 []) { nodes = at 1 (answering 22 (by 1 10) turns.Nothing (replies.Dropped count) ∷ []) }

-- the superseded commit, and the one that supersedes it
abbrev pub the_older : List Commit
the_older = commit_of older ∷ []

abbrev pub the_newer : List Commit
the_newer = commit_of newer ∷ []

-- ---- give-ups

-- a commit that supersedes the older one, of a node that doesn't know the older one
abbrev pub beside : Writes
beside = writes 1000 3 (write x b ∷ [])

-- a node doesn't know whether a commit of its own is stored, and another supersedes it; then a collection comes to the older one, and does this
abbrev pub collects_in_doubt : List Work → Run
collects_in_doubt work = run (nodes 1) (
    opens
    ∷ boots 3 opening 1 1 []
    ∷ begins 5 (by 1 1) (attempt 1 1 1) 1
    ∷ puts 8 (by 1 2) (attempt 1 1 1) (write x a)
    ∷ doubts 8 (by 1 3) (attempt 1 1 1) older
    ∷ begins 11 (by 2 4) (attempt 1 1 2) 3
    ∷ puts 14 (by 2 5) (attempt 1 1 2) (write x b)
    ∷ commits 14 (by 2 6) (attempt 1 1 2) beside
    ∷ collects 17 (by 2 7) (commit_of older ∷ commit_of beside ∷ [])
    ∷ work)

-- it does nothing, and says this of the older one
abbrev pub finds : List Judged → List Work
finds judged = collected 19 (by 2 7) judged ∷ []

-- that an incarnation of a node holds it, and that it is retired
abbrev pub held_by : ℕ → ℕ → List Judged
held_by node inc = held older.id node inc ∷ []

abbrev pub is_retired : List Judged
is_retired = retired older.id ∷ []

-- the node gives it up, and it is retired
abbrev pub gives_up_doubt : List Work
gives_up_doubt = gives_up 19 (by 2 7) 1 1 older.id ∷ retires (by 2 7) (commit_of older) ∷ collected 24 (by 2 7) is_retired ∷ []

-- a node has dropped a superseded commit; then a collection comes to it, and does this
abbrev pub collects_dropped : List Work → Run
collects_dropped work = run (nodes 1) (
    opens
    ∷ boots 3 opening 1 1 []
    ∷ begins 5 (by 1 1) (attempt 1 1 1) 1
    ∷ puts 8 (by 1 2) (attempt 1 1 1) (write x a)
    ∷ commits 8 (by 1 3) (attempt 1 1 1) older
    ∷ begins 11 (by 1 4) (attempt 1 1 2) 3
    ∷ puts 14 (by 1 5) (attempt 1 1 2) (write x b)
    ∷ commits 14 (by 1 6) (attempt 1 1 2) newer
    ∷ drops 17 (by 1 7) 1 the_older
    ∷ collects 17 (by 2 8) (commit_of older ∷ commit_of newer ∷ [])
    ∷ work)

-- its give-up stands at the door, with these entries at the node, and it is retired
abbrev pub gives_up_with : List NodeEntry → List Work
gives_up_with given =
    record (gives_up 19 (by 2 8) 1 1 older.id) { nodes = at 1 given }
    ∷ retires (by 2 8) (commit_of older)
    ∷ collected 24 (by 2 8) is_retired ∷ []

-- the node's give-up
abbrev pub node_gives_up : NodeEntry
node_gives_up = turn 19 (by 2 8) (turns.GiveUp older.id)

-- the node isn't asked, and it is said to hold it
abbrev pub says_held : List Work
says_held = collected 19 (by 2 8) (held_by 1 1) ∷ []

-- the node gives it up, the door isn't told, and it is said that the node holds it
abbrev pub gives_up_unsaid : List Work
gives_up_unsaid = record nothing { nodes = at 1 (node_gives_up ∷ []) } ∷ says_held

-- nobody gives it up, and it is retired
abbrev pub retires_unasked : List Work
retires_unasked = retires (by 2 8) (commit_of older) ∷ collected 23 (by 2 8) is_retired ∷ []
