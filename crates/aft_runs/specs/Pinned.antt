-- A run in which a transaction reads a version, and it is kept until that transaction has ended.
use Rattle.std.specs.Prelude.{[], ◌∷◌}
use Rattle.aft_histories.specs.Entries.{x}
use Rattle.aft_runs.specs.Words.{Writes, write, writes, a, b, commit_of}
use Rattle.aft_runs.specs.Works.{Run, run, by, nodes}
use Rattle.aft_runs.specs.Lines.{opening, opens, boots, attempt, begins, puts, fetches, commits, leaves}
use Rattle.aft_runs.specs.Rounds.{announces, learns, drops, collects, gives_up, retires, collected, held, retired}

-- a value of x, and one that supersedes it
abbrev pub older : Writes
older = writes 1000 1 (write x a ∷ [])

abbrev pub newer : Writes
newer = writes 1001 3 (write x b ∷ [])

-- a node holds the older one while it is read; once it has dropped and given it up, its data is deleted
abbrev pub pinned_version : Run
pinned_version = run (nodes 2) (
    opens
    ∷ boots 3 opening 1 1 []
    ∷ boots 5 opening 2 1 []
    ∷ begins 7 (by 1 1) (attempt 1 1 1) 1
    ∷ puts 10 (by 1 2) (attempt 1 1 1) (write x a)
    ∷ commits 10 (by 1 3) (attempt 1 1 1) older
    ∷ begins 13 (by 2 4) (attempt 1 1 2) 2
    ∷ fetches 16 (by 2 5) (attempt 1 1 2) older.id (write x a)
    ∷ begins 17 (by 1 6) (attempt 1 1 3) 3
    ∷ puts 20 (by 1 7) (attempt 1 1 3) (write x b)
    ∷ commits 20 (by 1 8) (attempt 1 1 3) newer
    ∷ announces 23 (by 1 9) 1 (commit_of newer ∷ []) (commit_of older ∷ [])
    ∷ learns 23 (by 1 10) 2 (commit_of newer ∷ [])
    ∷ drops 23 (by 1 11) 1 []
    ∷ collects 23 (by 1 12) (commit_of older ∷ commit_of newer ∷ [])
    ∷ gives_up 25 (by 1 12) 2 1 older.id
    ∷ collected 26 (by 1 12) (held older.id 1 1 ∷ [])
    ∷ leaves 26 (by 2 13) (attempt 1 1 2) 2
    ∷ drops 27 (by 1 14) 1 (commit_of older ∷ [])
    ∷ collects 27 (by 1 15) (commit_of older ∷ commit_of newer ∷ [])
    ∷ gives_up 29 (by 1 15) 1 1 older.id
    ∷ gives_up 30 (by 1 15) 2 1 older.id
    ∷ retires (by 1 15) (commit_of older)
    ∷ collected 35 (by 1 15) (retired older.id ∷ [])
    ∷ begins 35 (by 2 16) (attempt 1 1 4) 4
    ∷ fetches 38 (by 2 17) (attempt 1 1 4) newer.id (write x b) ∷ [])
