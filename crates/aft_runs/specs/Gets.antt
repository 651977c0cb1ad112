-- Runs in which one get is left open: with the one that the rules ask for they are legal, and with another they are refused.
use Rattle.std.specs.Prelude.{ℕ, ◌+◌, true, List, [], ◌∷◌, ◌++◌, length, codes}
use Rattle.aft_model.specs.declared.choice.Picked.TheVariants as picks
use Rattle.aft_model.specs.declared.door.DoorEntry.{DoorEntry}
use Rattle.aft_model.specs.declared.node.NodeAct.TheVariants as turns
use Rattle.aft_model.specs.declared.reply.Reply.TheVariants as replies
use Rattle.aft_model.specs.declared.script.Command.TheVariants as commands
use Rattle.aft_histories.specs.Entries.{x, y, record_pair}
use Rattle.aft_runs.specs.Entries.{finds, lists, turn, answering}
use Rattle.aft_runs.specs.Lines.{opening, opens, boots, attempt, begins, caller_of, puts, gets_absent, fetches, commits}
use Rattle.aft_runs.specs.Reads.{x_hi, x_a, y_old, both_later}
use Rattle.aft_runs.specs.Words.{write, hi, a, b, commit_of, version_pair}
use Rattle.aft_runs.specs.Works.{Work, Run, run, by, at, nodes, asks}

-- ---- the newest version that fits

-- y has an older value, and a newer one that was written together with x; a transaction that began before the newer one, and has got this, gets y
abbrev pub gets_y : List Work → Work → Run
gets_y earlier get = run (nodes 1) (
    opens
    ∷ boots 3 opening 1 1 []
    ∷ begins 5 (by 3 1) (attempt 1 1 1) 3
    ∷ puts 8 (by 3 2) (attempt 1 1 1) (write y (codes "old"))
    ∷ commits 8 (by 3 3) (attempt 1 1 1) y_old
    ∷ begins 11 (by 1 4) (attempt 1 1 2) 9
    ∷ earlier ++ begins 14 (by 2 6) (attempt 1 1 3) 1
    ∷ puts 17 (by 2 7) (attempt 1 1 3) (write x a)
    ∷ puts 17 (by 2 8) (attempt 1 1 3) (write y b)
    ∷ commits 17 (by 2 9) (attempt 1 1 3) both_later
    ∷ get ∷ [])

-- it has found x absent
abbrev pub found_x_absent : List Work
found_x_absent = gets_absent 14 (by 1 5) (attempt 1 1 2) x ∷ []

-- it gets the older value of y, or the newer one
abbrev pub gets_older : Work
gets_older = fetches 21 (by 1 10) (attempt 1 1 2) y_old.id (write y (codes "old"))

abbrev pub gets_newer : Work
gets_newer = fetches 21 (by 1 10) (attempt 1 1 2) both_later.id (write y b)

-- ---- an absent key is read too

-- a transaction has found x absent, and then another writes it; the first gets x again
abbrev pub gets_x_again : Work → Run
gets_x_again get = run (nodes 1) (
    opens
    ∷ boots 3 opening 1 1 []
    ∷ begins 5 (by 1 1) (attempt 1 1 1) 1
    ∷ gets_absent 8 (by 1 2) (attempt 1 1 1) x
    ∷ begins 8 (by 2 3) (attempt 1 1 2) 2
    ∷ puts 11 (by 2 4) (attempt 1 1 2) (write x a)
    ∷ commits 11 (by 2 5) (attempt 1 1 2) x_a
    ∷ get ∷ [])

-- it is absent still, or its new value is found
abbrev pub gets_absent_again : Work
gets_absent_again = gets_absent 14 (by 1 6) (attempt 1 1 1) x

abbrev pub gets_new_x : Work
gets_new_x = fetches 14 (by 1 6) (attempt 1 1 1) x_a.id (write x a)

-- ---- how a version is fetched

-- a transaction gets what another wrote, and before it gets the version it asks the store for this
abbrev pub fetches_behind : List DoorEntry → Run
fetches_behind earlier = run (nodes 1) (
    opens
    ∷ boots 3 opening 1 1 []
    ∷ begins 5 (by 1 1) (attempt 1 1 1) 1
    ∷ puts 8 (by 1 2) (attempt 1 1 1) (write x hi)
    ∷ commits 8 (by 1 3) (attempt 1 1 1) x_hi
    ∷ begins 11 (by 2 4) (attempt 1 1 2) 2
    ∷ record (fetches 14 (by 2 5) (attempt 1 1 2) x_hi.id (write x hi)) {
      door = earlier ++ finds (by 2 5) (caller_of (attempt 1 1 2)) (version_pair x_hi.id (write x hi)) ∷ [];
      nodes = at 1 (turn 14 (by 2 5) (turns.Select (attempt 1 1 2) x (picks.Fetch x_hi.id))
          ∷ answering (15 + length earlier) (by 2 5) (turns.Value (attempt 1 1 2) x x_hi.id (14 + length earlier) true) (replies.Value x_hi.id hi) ∷ []);
    } ∷ [])

-- a page of all records
abbrev pub scans_records : List DoorEntry
scans_records = lists (by 2 5) (caller_of (attempt 1 1 2)) (codes "c/") (record_pair (commit_of x_hi) ∷ []) ∷ []

-- ---- what the transaction wrote itself

-- a transaction puts a value of x, and gets x
abbrev pub gets_put : Work → Run
gets_put get = run (nodes 1) (opens ∷ boots 3 opening 1 1 [] ∷ begins 5 (by 1 1) (attempt 1 1 1) 1 ∷ puts 8 (by 1 2) (attempt 1 1 1) (write x hi) ∷ get ∷ [])

-- it gets this value as its own, or finds x absent
abbrev pub gets_own : List ℕ → Work
gets_own value = record (asks (by 1 3) (commands.Get x)) { nodes = at 1 (answering 8 (by 1 3) (turns.Select (attempt 1 1 1) x (picks.Own value)) (replies.Own value) ∷ []) }

abbrev pub gets_none : Work
gets_none = gets_absent 8 (by 1 3) (attempt 1 1 1) x
