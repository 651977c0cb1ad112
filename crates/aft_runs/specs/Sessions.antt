-- Runs behind whose script a session asks lines of its own, and what it is told.
use Rattle.std.specs.Prelude.{ℕ, List, [], ◌∷◌, map}
use Rattle.std.specs.List.{flat_map}
use Rattle.aft_records.specs.declared.stored.Commit.{Commit}
use Rattle.aft_lines.specs.FinishedText.{answers_of, line_of}
use Rattle.aft_lines.specs.Floor.{Exchange}
use Rattle.aft_histories.specs.Entries.{x, y}
use Rattle.aft_runs.specs.Lines.{opening, opens, boots, attempt, begins, puts, fetches, gets_kept, commits, leaves}
use Rattle.aft_runs.specs.Pinned.{newer}
use Rattle.aft_runs.specs.Reads.{both_later, x_a, x_hi}
use Rattle.aft_runs.specs.Rounds.{drops}
use Rattle.aft_runs.specs.Threads.{unasked}
use Rattle.aft_runs.specs.Words.{write, hi, a, b, commit_of}
use Rattle.aft_runs.specs.Works.{Work, Run, run, asking, ordered, step, by, nodes}

-- a run of these works, behind whose script a session asks the lines of those
abbrev pub asked_for : List Work → List Work → Run
asked_for lines works = asking (flat_map (λ work. work.lines) lines) (run (nodes 1) works)

-- a transaction commits a value of x, and a session reads it in one of its own
abbrev pub reading : List Work
reading =
    begins 11 (by 65 4) (attempt 1 1 2) 2
    ∷ fetches 14 (by 65 5) (attempt 1 1 2) x_hi.id (write x hi)
    ∷ leaves 15 (by 65 6) (attempt 1 1 2) 2 ∷ []

abbrev pub session : Run
session = asked_for reading (
    opens
    ∷ boots 3 opening 1 1 []
    ∷ begins 5 (by 1 1) (attempt 1 1 1) 1
    ∷ puts 8 (by 1 2) (attempt 1 1 1) (write x hi)
    ∷ commits 8 (by 1 3) (attempt 1 1 1) x_hi
    ∷ map unasked reading)

-- ---- where its lines stand

-- the last line of a script commits, a session asks this, and these works are done
abbrev pub commits_beside : Work → List Work → Run
commits_beside asked works = ordered (step 1 ∷ []) (asked_for (asked ∷ []) (
    opens
    ∷ boots 3 opening 1 1 []
    ∷ begins 5 (by 1 1) (attempt 1 1 1) 1
    ∷ puts 8 (by 1 2) (attempt 1 1 1) (write x hi)
    ∷ works))

-- it asks a begin, which is done at this time, behind the commit and before it
abbrev pub asks_begin : ℕ → Work
asks_begin front = begins front (by 65 4) (attempt 1 1 2) 2

abbrev pub begin_behind : Run
begin_behind = commits_beside (asks_begin 11) (commits 8 (by 1 3) (attempt 1 1 1) x_hi ∷ unasked (asks_begin 11) ∷ [])

abbrev pub begin_before : Run
begin_before = commits_beside (asks_begin 8) (unasked (asks_begin 8) ∷ commits 11 (by 1 3) (attempt 1 1 1) x_hi ∷ [])

-- it asks a local round
abbrev pub round_behind : Run
round_behind = commits_beside (drops 11 (by 65 4) 1 []) (commits 8 (by 1 3) (attempt 1 1 1) x_hi ∷ unasked (drops 11 (by 65 4) 1 []) ∷ [])

-- it asks a begin alone, where there are no background rounds
abbrev pub asks_alone : Run
asks_alone = asking (begins 5 (by 65 1) (attempt 1 1 1) 1).lines (run (record (nodes 1) { rounds = 0 }) (opens ∷ boots 3 opening 1 1 [] ∷ unasked (begins 5 (by 65 1) (attempt 1 1 1) 1) ∷ []))

-- ---- what it is told

-- what a session asked in a run, and was told
abbrev pub exchanges : Run → List Exchange
exchanges told = flat_map (λ line. map (λ reply. record { asked = line.order; reply = reply }) (answers_of (line_of line) told.ran)) told.asked.asks

-- the commit that it reads, a later one of the same key, and a later one of another
abbrev pub read_commit : Commit
read_commit = commit_of x_hi

abbrev pub later_commit : Commit
later_commit = commit_of newer

abbrev pub other_commit : Commit
other_commit = record { id = newer.id; keys = y ∷ [] }

-- ---- last gets that break what was read before

-- the node has kept a value of y that was written together with one of x, and one of x
abbrev pub kept_y : Work
kept_y = gets_kept 21 (by 1 10) (attempt 1 1 2) both_later.id (write y b)

abbrev pub kept_x : Work
kept_x = gets_kept 14 (by 1 6) (attempt 1 1 1) x_a.id (write x a)
