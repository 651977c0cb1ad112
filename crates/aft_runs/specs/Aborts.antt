-- Runs in which a transaction is aborted, also one whose commit is in doubt; and such runs in which the abort is left open.
use Rattle.std.specs.Prelude.{ℕ, List, [], ◌∷◌}
use Rattle.aft_model.specs.Membership.{incarnation}
use Rattle.aft_model.specs.declared.door.DoorEntry.{DoorEntry}
use Rattle.aft_model.specs.declared.node.NodeAct.TheVariants as turns
use Rattle.aft_model.specs.declared.node.NodeEntry.{NodeEntry}
use Rattle.aft_model.specs.declared.reply.Reply.{Reply}
use Rattle.aft_model.specs.declared.reply.Reply.TheVariants as replies
use Rattle.aft_model.specs.declared.script.Command.TheVariants as commands
use Rattle.aft_histories.specs.Entries.{u, x, y, record_of, record_pair}
use Rattle.aft_runs.specs.Entries.{misses, finds, turn, answering}
use Rattle.aft_runs.specs.Lines.{opening, opens, boots, attempt, begins, puts, gets_absent, fetches, doubts, releases, aborts, only_answers}
use Rattle.aft_runs.specs.Reads.{x_hi}
use Rattle.aft_runs.specs.Words.{write, hi, a, commit_of}
use Rattle.aft_runs.specs.Works.{Work, Run, run, by, at, nodes, asks}

-- ---- of a transaction that runs

-- a transaction has put a value of x, and leaves, which is answered with this; then another gets x
abbrev pub leaves_and : Reply → Run
leaves_and reply = run (nodes 1) (
    opens
    ∷ boots 3 opening 1 1 []
    ∷ begins 5 (by 1 1) (attempt 1 1 1) 1
    ∷ puts 8 (by 1 2) (attempt 1 1 1) (write x hi)
    ∷ record (aborts 8 (by 1 3) (attempt 1 1 1) 1) { nodes = at 1 (turn 8 (by 1 3) (turns.Leave (attempt 1 1 1)) ∷ answering 9 (by 1 3) (turns.End (attempt 1 1 1)) reply ∷ []) }
    ∷ begins 9 (by 1 4) (attempt 1 1 2) 2
    ∷ gets_absent 12 (by 1 5) (attempt 1 1 2) x ∷ [])

-- it is aborted
abbrev pub aborted : Run
aborted = leaves_and replies.Aborted

-- ---- of one in doubt

-- its abort makes this get of its record and lets its claim go, and its node does this
abbrev pub settles_by : DoorEntry → List NodeEntry → Work
settles_by get ending = record (asks (by 1 5) commands.Abort) {
  door = get ∷ releases (by 1 5) (attempt 1 1 1) (u 1) ∷ [];
  nodes = at 1 (turn 11 (by 1 5) (turns.Settle (attempt 1 1 1)) ∷ ending);
}

-- the record is found, or nothing
abbrev pub finds_it : DoorEntry
finds_it = finds (by 1 5) (incarnation 1 1) (record_pair (commit_of x_hi))

abbrev pub finds_nothing : DoorEntry
finds_nothing = misses (by 1 5) (incarnation 1 1) (record_of 1)

-- the transaction is aborted, or its commit is stored
abbrev pub is_aborted : List NodeEntry
is_aborted = answering 13 (by 1 5) (turns.End (attempt 1 1 1)) replies.Aborted ∷ []

abbrev pub is_stored : List NodeEntry
is_stored = turn 12 (by 1 5) (turns.Stored (attempt 1 1 1) (commit_of x_hi)) ∷ answering 13 (by 1 5) (turns.End (attempt 1 1 1)) (replies.Committed x_hi.id) ∷ []

-- it isn't known whether a transaction's record is stored; a put is refused, then the transaction is aborted by this get and with this ending, and another gets x so
abbrev pub aborts_doubt : DoorEntry → List NodeEntry → Work → Run
aborts_doubt get ending last = run (nodes 1) (
    opens
    ∷ boots 3 opening 1 1 []
    ∷ begins 5 (by 1 1) (attempt 1 1 1) 1
    ∷ puts 8 (by 1 2) (attempt 1 1 1) (write x hi)
    ∷ doubts 8 (by 1 3) (attempt 1 1 1) x_hi
    ∷ only_answers 11 (by 1 4) 1 (commands.Put y a) replies.Committing
    ∷ settles_by get ending
    ∷ begins 13 (by 1 6) (attempt 1 1 2) 2
    ∷ last ∷ [])

-- x is absent, or has the value of that transaction
abbrev pub x_is_absent : Work
x_is_absent = gets_absent 16 (by 1 7) (attempt 1 1 2) x

abbrev pub x_is_there : Work
x_is_there = fetches 16 (by 1 7) (attempt 1 1 2) x_hi.id (write x hi)

-- there is no record, and the transaction is aborted
abbrev pub doubt_aborted : Run
doubt_aborted = aborts_doubt finds_nothing is_aborted x_is_absent

-- the record is found, and the abort answers that the transaction is committed
abbrev pub doubt_committed : Run
doubt_committed = aborts_doubt finds_it is_stored x_is_there

-- ---- and where memory is wanting behind the get

-- it isn't known whether a transaction's record is stored; its abort does this at the door, and its node does that
abbrev pub aborts_so : List DoorEntry → List NodeEntry → Run
aborts_so made ending = run (nodes 1) (
    opens
    ∷ boots 3 opening 1 1 []
    ∷ begins 5 (by 1 1) (attempt 1 1 1) 1
    ∷ puts 8 (by 1 2) (attempt 1 1 1) (write x hi)
    ∷ doubts 8 (by 1 3) (attempt 1 1 1) x_hi
    ∷ record (asks (by 1 5) commands.Abort) { door = made; nodes = at 1 (turn 11 (by 1 5) (turns.Settle (attempt 1 1 1)) ∷ ending) } ∷ [])

-- the transaction is in doubt still, for want of memory
abbrev pub in_doubt_still : ℕ → NodeEntry
in_doubt_still front = answering front (by 1 5) (turns.Doubt (attempt 1 1 1)) replies.NoMemory

-- a get that found nothing, and its claim is kept
abbrev pub doubt_kept : Run
doubt_kept = aborts_so (finds_nothing ∷ []) (in_doubt_still 12 ∷ [])

-- its claim is let go
abbrev pub doubt_let_go : Run
doubt_let_go = aborts_so (finds_nothing ∷ releases (by 1 5) (attempt 1 1 1) (u 1) ∷ []) (in_doubt_still 13 ∷ [])

-- its record is found and stored, and its claim is kept
abbrev pub doubt_stored : Run
doubt_stored = aborts_so (finds_it ∷ []) (turn 12 (by 1 5) (turns.Stored (attempt 1 1 1) (commit_of x_hi)) ∷ in_doubt_still 12 ∷ [])
