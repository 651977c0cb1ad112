-- Runs of transactions that write and read at one node.
use Rattle.std.specs.Prelude.{[], ◌∷◌, codes}
use Rattle.aft_model.specs.declared.choice.Blocked.{Blocked}
use Rattle.aft_histories.specs.Entries.{id_of, x, y}
use Rattle.aft_runs.specs.Words.{Writes, write, writes, hi, a, b}
use Rattle.aft_runs.specs.Works.{Run, run, by, nodes}
use Rattle.aft_runs.specs.Lines.{opening, opens, boots, attempt, begins, puts, gets_absent, gets_blocked, fetches, gets_kept, commits}

-- a value of x, written by the first transaction, and another by the second
abbrev pub x_hi : Writes
x_hi = writes 1000 1 (write x hi ∷ [])

abbrev pub x_a : Writes
x_a = writes 1000 2 (write x a ∷ [])

-- a transaction writes, and another gets what it wrote twice: from the store, and from what the node kept
abbrev pub ordinary_use : Run
ordinary_use = run (nodes 1) (
    opens
    ∷ boots 3 opening 1 1 []
    ∷ begins 5 (by 1 1) (attempt 1 1 1) 1
    ∷ puts 8 (by 1 2) (attempt 1 1 1) (write x hi)
    ∷ commits 8 (by 1 3) (attempt 1 1 1) x_hi
    ∷ begins 11 (by 1 4) (attempt 1 1 2) 2
    ∷ fetches 14 (by 1 5) (attempt 1 1 2) x_hi.id (write x hi)
    ∷ gets_kept 15 (by 1 6) (attempt 1 1 2) x_hi.id (write x hi) ∷ [])

-- a transaction finds a key absent, and finds it so again when another has written it
abbrev pub absent_repeats : Run
absent_repeats = run (nodes 1) (
    opens
    ∷ boots 3 opening 1 1 []
    ∷ begins 5 (by 1 1) (attempt 1 1 1) 1
    ∷ gets_absent 8 (by 1 2) (attempt 1 1 1) x
    ∷ begins 8 (by 2 3) (attempt 1 1 2) 2
    ∷ puts 11 (by 2 4) (attempt 1 1 2) (write x a)
    ∷ commits 11 (by 2 5) (attempt 1 1 2) x_a
    ∷ gets_absent 14 (by 1 6) (attempt 1 1 1) x ∷ [])

-- two keys, written together
abbrev pub both : Writes
both = writes 1000 1 (write x a ∷ write y b ∷ [])

-- why they don't fit a transaction that has found x absent
abbrev pub x_was_absent : Writes → Blocked
x_was_absent wrote = record { id = wrote.id; key = x; read = id_of 0 0 }

-- a transaction finds x absent, and then can't get y, which another has written together with x
abbrev pub absent_blocks : Run
absent_blocks = run (nodes 1) (
    opens
    ∷ boots 3 opening 1 1 []
    ∷ begins 5 (by 1 1) (attempt 1 1 1) 9
    ∷ gets_absent 8 (by 1 2) (attempt 1 1 1) x
    ∷ begins 8 (by 2 3) (attempt 1 1 2) 1
    ∷ puts 11 (by 2 4) (attempt 1 1 2) (write x a)
    ∷ puts 11 (by 2 5) (attempt 1 1 2) (write y b)
    ∷ commits 11 (by 2 6) (attempt 1 1 2) both
    ∷ gets_blocked 15 (by 1 7) (attempt 1 1 1) y (x_was_absent both ∷ []) ∷ [])

-- an older value of y, and later both keys
abbrev pub y_old : Writes
y_old = writes 1000 3 (write y (codes "old") ∷ [])

abbrev pub both_later : Writes
both_later = writes 1001 1 (write x a ∷ write y b ∷ [])

-- a transaction finds x absent, and then gets the older value of y
abbrev pub older_version_fits : Run
older_version_fits = run (nodes 1) (
    opens
    ∷ boots 3 opening 1 1 []
    ∷ begins 5 (by 3 1) (attempt 1 1 1) 3
    ∷ puts 8 (by 3 2) (attempt 1 1 1) (write y (codes "old"))
    ∷ commits 8 (by 3 3) (attempt 1 1 1) y_old
    ∷ begins 11 (by 1 4) (attempt 1 1 2) 9
    ∷ gets_absent 14 (by 1 5) (attempt 1 1 2) x
    ∷ begins 14 (by 2 6) (attempt 1 1 3) 1
    ∷ puts 17 (by 2 7) (attempt 1 1 3) (write x a)
    ∷ puts 17 (by 2 8) (attempt 1 1 3) (write y b)
    ∷ commits 17 (by 2 9) (attempt 1 1 3) both_later
    ∷ fetches 21 (by 1 10) (attempt 1 1 2) y_old.id (write y (codes "old")) ∷ [])
