-- Runs in which two clients share an attempt, while their lines run turn by turn or its commit is in doubt; and such runs in which what the second client does is left open.
use Rattle.std.specs.Prelude.{ℕ, ◌+◌, true, List, [], ◌∷◌, ◌++◌}
use Rattle.aft_model.specs.declared.choice.Picked.TheVariants as picks
use Rattle.aft_model.specs.declared.node.NodeAct.TheVariants as turns
use Rattle.aft_model.specs.declared.reply.Reply.{Reply}
use Rattle.aft_model.specs.declared.reply.Reply.TheVariants as replies
use Rattle.aft_model.specs.declared.script.Command.TheVariants as commands
use Rattle.aft_histories.specs.Entries.{u, x, y}
use Rattle.aft_runs.specs.Entries.{finds, turn, answering}
use Rattle.aft_runs.specs.Lines.{opening, opens, boots, attempt, caller_of, begins, puts, commits, doubts, settles, only_answers}
use Rattle.aft_runs.specs.Reads.{x_hi}
use Rattle.aft_runs.specs.Words.{Writes, write, writes, having_read, hi, a, commit_of, version_pair}
use Rattle.aft_runs.specs.Works.{Work, Run, run, ordered, whole, step, by, at, nodes, nothing, asks}

-- ---- the first client's get and commit, in two parts each

-- the attempt that both hold picks the version of x
abbrev pub begins_get : Work
begins_get = record (asks (by 1 7) (commands.Get x)) { nodes = at 1 (turn 14 (by 1 7) (turns.Select (attempt 1 1 2) x (picks.Fetch x_hi.id)) ∷ []) }

-- and it comes, from this place
abbrev pub ends_get : ℕ → Work
ends_get place = record nothing {
  door = finds (by 1 7) (caller_of (attempt 1 1 2)) (version_pair x_hi.id (write x hi)) ∷ [];
  nodes = at 1 (answering (place + 1) (by 1 7) (turns.Value (attempt 1 1 2) x x_hi.id place true) (replies.Value x_hi.id hi) ∷ []);
}

-- what they write: a value of y, above what they have read, which its record names
abbrev pub y_a : Writes
y_a = having_read (x_hi.id ∷ []) (writes 1001 2 (write y a ∷ []))

-- the commit is fixed
abbrev pub begins_commit : Work
begins_commit = record (asks (by 1 9) commands.Commit) { nodes = at 1 (turn 15 (by 1 9) (turns.Start (attempt 1 1 2) 1000 (commit_of y_a)) ∷ []) }

-- and it is stored and ended
abbrev pub ends_commit : Work
ends_commit = record nothing {
  door = (commits 15 (by 1 9) (attempt 1 1 2) y_a).door;
  nodes = at 1 (turn 17 (by 1 9) (turns.Stored (attempt 1 1 2) (commit_of y_a)) ∷ answering 18 (by 1 9) (turns.End (attempt 1 1 2)) (replies.Committed y_a.id) ∷ []);
}

-- ---- what the second client does beside them

-- its commit, beside the get, does nothing and answers this
abbrev pub commit_answers : Reply → List Work
commit_answers reply = only_answers 14 (by 2 8) 1 commands.Commit reply ∷ []

-- it commits all the same
abbrev pub commits_beside : List Work
commits_beside = commits 14 (by 2 8) (attempt 1 1 2) y_a ∷ []

-- ---- the runs

-- a value of x is committed; another transaction begins, the second client joins it, and it puts a value of y; while it gets x the second client does this, and the get ends from this place; then this is done
abbrev pub shares : List Work → ℕ → List Work → Run
shares beside place later = ordered (whole 1 ∷ whole 1 ∷ whole 1 ∷ whole 1 ∷ whole 2 ∷ whole 1 ∷ step 1 ∷ whole 2 ∷ whole 1 ∷ step 1 ∷ whole 2 ∷ []) (run (nodes 1) (
    opens
    ∷ boots 3 opening 1 1 []
    ∷ begins 5 (by 1 1) (attempt 1 1 1) 1
    ∷ puts 8 (by 1 2) (attempt 1 1 1) (write x hi)
    ∷ commits 8 (by 1 3) (attempt 1 1 1) x_hi
    ∷ begins 11 (by 1 4) (attempt 1 1 2) 2
    ∷ only_answers 14 (by 2 5) 1 (commands.Begin (u 2) 1) (replies.Joined (u 2))
    ∷ puts 14 (by 1 6) (attempt 1 1 2) (write y a)
    ∷ begins_get
    ∷ beside ++ ends_get place ∷ later))

-- the second client's commit finds the get that isn't over, and its get finds the first client's commit
abbrev pub shared_attempt : Run
shared_attempt = shares (commit_answers (replies.OpenReads 1)) 14 (begins_commit ∷ only_answers 15 (by 2 10) 1 (commands.Get x) replies.Committing ∷ ends_commit ∷ [])

-- ---- a commit in doubt

-- it isn't known whether a transaction's record is stored; another client's begin answers this, and then its commit settles it
abbrev pub settled_by_other : Reply → Run
settled_by_other reply = run (nodes 1) (
    opens
    ∷ boots 3 opening 1 1 []
    ∷ begins 5 (by 1 1) (attempt 1 1 1) 1
    ∷ puts 8 (by 1 2) (attempt 1 1 1) (write x hi)
    ∷ doubts 8 (by 1 3) (attempt 1 1 1) x_hi
    ∷ only_answers 11 (by 2 4) 1 (commands.Begin (u 1) 1) reply
    ∷ settles 11 (by 2 5) (attempt 1 1 1) x_hi
    ∷ only_answers 13 (by 1 6) 1 commands.Commit replies.NoTransaction ∷ [])

-- it joins the transaction
abbrev pub shared_doubt : Run
shared_doubt = settled_by_other (replies.Joined (u 1))
