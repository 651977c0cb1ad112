-- Runs in which calls of the store fail, or a node crashes.
use Rattle.std.specs.Prelude.{[], ◌∷◌}
use Rattle.aft_histories.specs.Entries.{x}
use Rattle.aft_runs.specs.Words.{write, hi, commit_of}
use Rattle.aft_runs.specs.Works.{Run, run, by, nodes}
use Rattle.aft_runs.specs.Lines.{opening, opens, boots, attempt, begins, puts, fetches, commits, doubts, settles, crashes, starts}
use Rattle.aft_runs.specs.Reads.{x_hi}

-- it isn't known whether a transaction's record is stored; it commits again, and finds that it is; another reads what it wrote
abbrev pub doubt_settled : Run
doubt_settled = run (nodes 1) (
    opens
    ∷ boots 3 opening 1 1 []
    ∷ begins 5 (by 1 1) (attempt 1 1 1) 1
    ∷ puts 8 (by 1 2) (attempt 1 1 1) (write x hi)
    ∷ doubts 8 (by 1 3) (attempt 1 1 1) x_hi
    ∷ settles 11 (by 1 4) (attempt 1 1 1) x_hi
    ∷ begins 13 (by 1 5) (attempt 1 1 2) 2
    ∷ fetches 16 (by 1 6) (attempt 1 1 2) x_hi.id (write x hi) ∷ [])

-- a node crashes and starts, and another transaction reads there what was written before
abbrev pub started_again : Run
started_again = run (nodes 1) (
    opens
    ∷ boots 3 opening 1 1 []
    ∷ begins 5 (by 1 1) (attempt 1 1 1) 1
    ∷ puts 8 (by 1 2) (attempt 1 1 1) (write x hi)
    ∷ commits 8 (by 1 3) (attempt 1 1 1) x_hi
    ∷ crashes 11 (by 2 4) 1 1
    ∷ starts 12 (by 2 5) 1 2 (commit_of x_hi ∷ [])
    ∷ begins 14 (by 1 6) (attempt 1 2 1) 2
    ∷ fetches 17 (by 1 7) (attempt 1 2 1) x_hi.id (write x hi) ∷ [])
