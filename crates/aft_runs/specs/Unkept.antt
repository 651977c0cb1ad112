-- Runs, none of them legal, in which the promise isn't kept, though the store keeps what it acknowledged.
use Rattle.std.specs.Prelude.{[], ◌∷◌, ◌++◌, List, map}
use Rattle.aft_model.specs.Membership.{incarnation}
use Rattle.aft_model.specs.declared.choice.Picked.TheVariants as picks
use Rattle.aft_model.specs.declared.node.NodeAct.TheVariants as turns
use Rattle.aft_model.specs.declared.reply.Reply.TheVariants as replies
use Rattle.aft_model.specs.declared.script.Command.TheVariants as commands
use Rattle.aft_histories.specs.Entries.{u, x, y, version_of, record_pair}
use Rattle.aft_runs.specs.Entries.{stores, misses, turn, answering}
use Rattle.aft_runs.specs.Lines.{opening, opens, boots, attempt, begins, puts, gets_absent, gets_blocked, fetches, commits, releases}
use Rattle.aft_runs.specs.Pinned.{older, newer}
use Rattle.aft_runs.specs.Reads.{x_hi, both}
use Rattle.aft_runs.specs.Rounds.{retires}
use Rattle.aft_runs.specs.Words.{write, writes, hi, a, b, commit_of, version_pairs}
use Rattle.aft_runs.specs.Works.{Work, Run, run, by, at, nodes, nothing, asks}

-- a node is up, and a transaction has put a value of x, and then this is done
abbrev pub puts_then : List Work → Run
puts_then later = run (nodes 1) (opens ∷ boots 3 opening 1 1 [] ∷ begins 5 (by 1 1) (attempt 1 1 1) 1 ∷ puts 8 (by 1 2) (attempt 1 1 1) (write x hi) ∷ later)

-- the version is stored and not the record, and another transaction reads it
abbrev pub read_early : Run
read_early = puts_then (
    record nothing { door = map (stores (by 1 3) (incarnation 1 1)) (version_pairs x_hi) }
    ∷ begins 9 (by 2 4) (attempt 1 1 2) 2
    ∷ fetches 12 (by 2 5) (attempt 1 1 2) x_hi.id (write x hi) ∷ [])

-- a transaction has put two values of x, and gets the first
abbrev pub first_put_got : Run
first_put_got = puts_then (
    puts 8 (by 1 3) (attempt 1 1 1) (write x a)
    ∷ record (asks (by 1 4) (commands.Get x)) { nodes = at 1 (answering 8 (by 1 4) (turns.Select (attempt 1 1 1) x (picks.Own hi)) (replies.Own hi) ∷ []) } ∷ [])

-- a transaction gets another transaction's value of x, though it has put one itself
abbrev pub own_put_passed_over : Run
own_put_passed_over = puts_then (
    commits 8 (by 1 3) (attempt 1 1 1) x_hi
    ∷ begins 11 (by 2 4) (attempt 1 1 2) 2
    ∷ puts 14 (by 2 5) (attempt 1 1 2) (write x a)
    ∷ fetches 14 (by 2 6) (attempt 1 1 2) x_hi.id (write x hi) ∷ [])

-- a transaction commits twice
abbrev pub committed_twice : Run
committed_twice = puts_then (
    commits 8 (by 1 3) (attempt 1 1 1) x_hi
    ∷ commits 11 (by 1 4) (attempt 1 1 1) (writes 1001 1 (write x hi ∷ [])) ∷ [])

-- the record is stored before the version
abbrev pub record_first : Run
record_first = puts_then (
    record (commits 8 (by 1 3) (attempt 1 1 1) x_hi) {
      door = map (stores (by 1 3) (incarnation 1 1)) (record_pair (commit_of x_hi) ∷ version_pairs x_hi) ++ releases (by 1 3) (attempt 1 1 1) (u 1) ∷ [];
    } ∷ [])

-- the commit is answered, and its record isn't there
abbrev pub answered_unrecorded : Run
answered_unrecorded = puts_then (record (commits 8 (by 1 3) (attempt 1 1 1) x_hi) { door = [] } ∷ [])

-- a version is deleted that a transaction has picked, and the transaction finds that it is gone
abbrev pub picked_and_deleted : Run
picked_and_deleted = run (nodes 1) (
    opens
    ∷ boots 3 opening 1 1 []
    ∷ begins 5 (by 1 1) (attempt 1 1 1) 1
    ∷ puts 8 (by 1 2) (attempt 1 1 1) (write x a)
    ∷ commits 8 (by 1 3) (attempt 1 1 1) older
    ∷ begins 11 (by 1 4) (attempt 1 1 2) 3
    ∷ puts 14 (by 1 5) (attempt 1 1 2) (write x b)
    ∷ commits 14 (by 1 6) (attempt 1 1 2) newer
    ∷ begins 17 (by 2 7) (attempt 1 1 3) 2
    ∷ record (asks (by 2 8) (commands.Get x)) { nodes = at 1 (turn 20 (by 2 8) (turns.Select (attempt 1 1 3) x (picks.Fetch older.id)) ∷ []) }
    ∷ retires (by 3 9) (commit_of older)
    ∷ record nothing {
      door = misses (by 2 8) (incarnation 1 1) (version_of x older.id) ∷ [];
      nodes = at 1 (answering 25 (by 2 8) (turns.Lost (attempt 1 1 3) x older.id) (replies.Missing older.id) ∷ []);
    } ∷ [])

-- a transaction is told that no version of y fits, and of none why
abbrev pub nothing_named : Run
nothing_named = run (nodes 1) (
    opens
    ∷ boots 3 opening 1 1 []
    ∷ begins 5 (by 1 1) (attempt 1 1 1) 9
    ∷ gets_absent 8 (by 1 2) (attempt 1 1 1) x
    ∷ begins 8 (by 2 3) (attempt 1 1 2) 1
    ∷ puts 11 (by 2 4) (attempt 1 1 2) (write x a)
    ∷ puts 11 (by 2 5) (attempt 1 1 2) (write y b)
    ∷ commits 11 (by 2 6) (attempt 1 1 2) both
    ∷ gets_blocked 15 (by 1 7) (attempt 1 1 1) y [] ∷ [])

-- an attempt that no begin has admitted finds x absent, and then gets y, which was written together with x
abbrev pub read_unadmitted : Run
read_unadmitted = run (nodes 1) (
    opens
    ∷ boots 3 opening 1 1 []
    ∷ gets_absent 5 (by 1 1) (attempt 1 1 9) x
    ∷ begins 5 (by 2 2) (attempt 1 1 1) 1
    ∷ puts 8 (by 2 3) (attempt 1 1 1) (write x a)
    ∷ puts 8 (by 2 4) (attempt 1 1 1) (write y b)
    ∷ commits 8 (by 2 5) (attempt 1 1 1) both
    ∷ fetches 12 (by 1 6) (attempt 1 1 9) both.id (write y b) ∷ [])
