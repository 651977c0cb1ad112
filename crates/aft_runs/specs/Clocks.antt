-- Runs in which the clock stands at an edge, or tells no time; and such runs in which the time of a commit is left open.
use Rattle.std.specs.Prelude.{ℕ, ◌-◌, ◌^◌, List, [], ◌∷◌, Option, Some, None}
use Rattle.aft_model.specs.declared.node.NodeAct.TheVariants as turns
use Rattle.aft_model.specs.declared.reply.Reply.TheVariants as replies
use Rattle.aft_model.specs.declared.script.Command.TheVariants as commands
use Rattle.aft_histories.specs.Entries.{x}
use Rattle.aft_runs.specs.Entries.{turn, answering}
use Rattle.aft_runs.specs.Lines.{opening, opens, boots, attempt, begins, puts, commits, aborts, only_answers}
use Rattle.aft_runs.specs.Words.{Writes, write, writes, hi, commit_of}
use Rattle.aft_runs.specs.Works.{Work, Run, run, by, at, nodes}

-- a run whose clock tells this
abbrev pub clocked : Option ℕ → Run → Run
clocked clock told = record told { asked = record told.asked { clock = clock } }

-- a value of x, written at a time
abbrev pub x_at : ℕ → Writes
x_at time = writes time 1 (write x hi ∷ [])

-- a commit that reads this of the clock, and commits at this time
abbrev pub commits_by : ℕ → ℕ → Work
commits_by now time = record (commits 8 (by 1 3) (attempt 1 1 1) (x_at time)) {
  nodes = at 1 (turn 8 (by 1 3) (turns.Start (attempt 1 1 1) now (commit_of (x_at time)))
      ∷ turn 10 (by 1 3) (turns.Stored (attempt 1 1 1) (commit_of (x_at time)))
      ∷ answering 11 (by 1 3) (turns.End (attempt 1 1 1)) (replies.Committed (x_at time).id) ∷ []);
}

-- a transaction has put a value of x where the clock tells this; then this is done
abbrev pub puts_by : Option ℕ → List Work → Run
puts_by clock later = clocked clock (run (nodes 1) (opens ∷ boots 3 opening 1 1 [] ∷ begins 5 (by 1 1) (attempt 1 1 1) 1 ∷ puts 8 (by 1 2) (attempt 1 1 1) (write x hi) ∷ later))

-- it commits so
abbrev pub commits_where : Option ℕ → ℕ → ℕ → Run
commits_where clock now time = puts_by clock (commits_by now time ∷ [])

-- the last time that a commit may have
abbrev pub last_time : ℕ
last_time = 2 ^ 48 - 1

-- a clock that stands at 0: a commit has the time 1
abbrev pub earliest : Run
earliest = commits_where (Some 0) 0 1

-- one that stands at the last time
abbrev pub latest : Run
latest = commits_where (Some last_time) last_time last_time

-- one that tells nothing: what a commit read of it isn't known
abbrev pub untold : Run
untold = commits_where None 1000 1000

-- one that stands past the last time: a commit is refused, and the transaction runs on until it is aborted
abbrev pub past_end : Run
past_end = puts_by (Some (2 ^ 48)) (only_answers 8 (by 1 3) 1 commands.Commit replies.ClockEnd ∷ aborts 8 (by 1 4) (attempt 1 1 1) 1 ∷ [])
