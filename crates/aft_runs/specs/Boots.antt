-- Runs in which what a boot does or takes in is left open: as the rules say they are legal, and otherwise they are refused.
use Rattle.std.specs.Prelude.{ℕ, [], ◌∷◌}
use Rattle.aft_model.specs.declared.node.NodeAct.{NodeAct}
use Rattle.aft_model.specs.declared.node.NodeAct.TheVariants as turns
use Rattle.aft_model.specs.declared.reply.Reply.{Reply}
use Rattle.aft_model.specs.declared.reply.Reply.TheVariants as replies
use Rattle.aft_histories.specs.Entries.{x}
use Rattle.aft_runs.specs.Entries.{turn, answering}
use Rattle.aft_runs.specs.Lines.{opening, opens, boots, attempt, begins, puts, commits, crashes, starts}
use Rattle.aft_runs.specs.Pinned.{older, newer}
use Rattle.aft_runs.specs.Rounds.{announces, learns}
use Rattle.aft_runs.specs.Words.{write, a, b, commit_of}
use Rattle.aft_runs.specs.Works.{Run, run, by, at, nodes}

-- a node crashes and starts again, and serves when it has seen so much of the door's history
abbrev pub serves_at : ℕ → Run
serves_at front = run (nodes 1) (
    opens
    ∷ boots 3 opening 1 1 []
    ∷ crashes 5 (by 1 1) 1 1
    ∷ record (starts 6 (by 1 2) 1 2 []) { nodes = at 1 (turn 6 (by 1 2) (turns.Booting 2) ∷ answering front (by 1 2) (turns.Boot 2 []) (replies.Started 1 2) ∷ []) } ∷ [])

-- an incarnation is fenced, and its node answers this by that
abbrev pub crashes_by : NodeAct → Reply → Run
crashes_by act reply = run (nodes 1) (opens ∷ boots 3 opening 1 1 [] ∷ record (crashes 5 (by 1 1) 1 1) { nodes = at 1 (answering 6 (by 1 1) act reply ∷ []) } ∷ [])

-- an older commit is announced, and then superseded; a node that starts behind that, and is shown both, is told of the older one and answers this
abbrev pub answers_of_older : Reply → Run
answers_of_older reply = run (nodes 2) (
    opens
    ∷ boots 3 opening 1 1 []
    ∷ boots 5 opening 2 1 []
    ∷ begins 7 (by 1 1) (attempt 1 1 1) 1
    ∷ puts 10 (by 1 2) (attempt 1 1 1) (write x a)
    ∷ commits 10 (by 1 3) (attempt 1 1 1) older
    ∷ announces 13 (by 1 4) 1 (commit_of older ∷ []) []
    ∷ begins 13 (by 1 5) (attempt 1 1 2) 3
    ∷ puts 16 (by 1 6) (attempt 1 1 2) (write x b)
    ∷ commits 16 (by 1 7) (attempt 1 1 2) newer
    ∷ crashes 19 (by 2 8) 2 1
    ∷ starts 20 (by 2 9) 2 2 (commit_of older ∷ commit_of newer ∷ [])
    ∷ record (learns 22 (by 2 10) 2 (commit_of older ∷ [])) { nodes = at 2 (answering 22 (by 2 10) (turns.Learn (commit_of older ∷ [])) reply ∷ []) } ∷ [])

-- it is superseded, or known
abbrev pub is_superseded : Reply
is_superseded = replies.Learned 0 1 0

abbrev pub is_known : Reply
is_known = replies.Learned 0 0 1
