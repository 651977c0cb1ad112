-- Runs of two nodes, in which one learns what was committed at the other.
use Rattle.std.specs.Prelude.{[], ◌∷◌}
use Rattle.aft_histories.specs.Entries.{x}
use Rattle.aft_runs.specs.Words.{write, hi, commit_of}
use Rattle.aft_runs.specs.Works.{Run, run, by, nodes}
use Rattle.aft_runs.specs.Lines.{opening, opens, boots, attempt, begins, puts, fetches, commits}
use Rattle.aft_runs.specs.Rounds.{announces, learns, tells}
use Rattle.aft_runs.specs.Reads.{x_hi}

-- a node announces a commit, the other learns it, and a transaction reads it there
abbrev pub announced : Run
announced = run (nodes 2) (
    opens
    ∷ boots 3 opening 1 1 []
    ∷ boots 5 opening 2 1 []
    ∷ begins 7 (by 1 1) (attempt 1 1 1) 1
    ∷ puts 10 (by 1 2) (attempt 1 1 1) (write x hi)
    ∷ commits 10 (by 1 3) (attempt 1 1 1) x_hi
    ∷ announces 13 (by 1 4) 1 (commit_of x_hi ∷ []) []
    ∷ learns 13 (by 1 5) 2 (commit_of x_hi ∷ [])
    ∷ begins 13 (by 2 6) (attempt 2 1 1) 2
    ∷ fetches 16 (by 2 7) (attempt 2 1 1) x_hi.id (write x hi) ∷ [])

-- nobody announces it, and the office tells of it
abbrev pub never_announced : Run
never_announced = run (nodes 2) (
    opens
    ∷ boots 3 opening 1 1 []
    ∷ boots 5 opening 2 1 []
    ∷ begins 7 (by 1 1) (attempt 1 1 1) 1
    ∷ puts 10 (by 1 2) (attempt 1 1 1) (write x hi)
    ∷ commits 10 (by 1 3) (attempt 1 1 1) x_hi
    ∷ tells 13 (by 2 4) (commit_of x_hi ∷ []) (commit_of x_hi ∷ [])
    ∷ learns 14 (by 2 5) 2 (commit_of x_hi ∷ [])
    ∷ begins 14 (by 2 6) (attempt 2 1 1) 2
    ∷ fetches 17 (by 2 7) (attempt 2 1 1) x_hi.id (write x hi) ∷ [])
