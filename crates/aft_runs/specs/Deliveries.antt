-- Runs in which what comes of a mailbox or of a manager's round is left open: as the rules say they are legal, and otherwise they are refused.
use Rattle.std.specs.Prelude.{List, [], ◌∷◌}
use Rattle.aft_records.specs.declared.stored.Commit.{Commit}
use Rattle.aft_histories.specs.Entries.{x}
use Rattle.aft_runs.specs.Lines.{opening, opens, boots, attempt, begins, puts, commits}
use Rattle.aft_runs.specs.Reads.{x_hi}
use Rattle.aft_runs.specs.Rounds.{announces, learns, takes, tells}
use Rattle.aft_runs.specs.Words.{write, hi, commit_of}
use Rattle.aft_runs.specs.Works.{Work, Run, run, by, at, nodes}

-- one of two nodes has committed a value, and then this is done
abbrev pub commits_then : List Work → Run
commits_then later = run (nodes 2) (
    opens
    ∷ boots 3 opening 1 1 []
    ∷ boots 5 opening 2 1 []
    ∷ begins 7 (by 1 1) (attempt 1 1 1) 1
    ∷ puts 10 (by 1 2) (attempt 1 1 1) (write x hi)
    ∷ commits 10 (by 1 3) (attempt 1 1 1) x_hi
    ∷ later)

-- that commit
abbrev pub the_commit : List Commit
the_commit = commit_of x_hi ∷ []

-- the first node announces it
abbrev pub tells_of_it : List Work
tells_of_it = announces 13 (by 1 4) 1 the_commit [] ∷ []

-- the second takes its box with these commits, and learns those
abbrev pub takes_and_learns : List Commit → List Commit → List Work
takes_and_learns taken learned = record (learns 13 (by 1 5) 2 learned) { boxes = at 2 (takes (by 1 5) taken ∷ []) } ∷ []

-- the manager is shown it, and finds these missed
abbrev pub finds_missed : List Commit → List Work
finds_missed missed = tells 13 (by 2 4) the_commit missed ∷ []
