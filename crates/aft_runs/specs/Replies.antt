-- Runs in which a line does nothing and answers this: it may where the answer has its cause, and otherwise is refused.
use Rattle.std.specs.Prelude.{[], ◌∷◌}
use Rattle.aft_model.specs.declared.node.NodeAct.TheVariants as turns
use Rattle.aft_model.specs.declared.office.OfficeAct.TheVariants as desk
use Rattle.aft_model.specs.declared.reply.Reply.{Reply}
use Rattle.aft_model.specs.declared.script.Command.{Command}
use Rattle.aft_runs.specs.Entries.{answering, closes}
use Rattle.aft_runs.specs.Lines.{opening, opens, boots, attempt, begins, crashes}
use Rattle.aft_runs.specs.Works.{Run, run, by, at, nodes, asks}

-- a transaction runs, and a line of its client answers this
abbrev pub answers : Command → Reply → Run
answers command reply = run (nodes 1) (
    opens
    ∷ boots 3 opening 1 1 []
    ∷ begins 5 (by 1 1) (attempt 1 1 1) 1
    ∷ record (asks (by 1 2) command) { nodes = at 1 (answering 8 (by 1 2) turns.Nothing reply ∷ []) } ∷ [])

-- the same where the node has crashed
abbrev pub answers_crashed : Command → Reply → Run
answers_crashed command reply = run (nodes 1) (
    opens
    ∷ boots 3 opening 1 1 []
    ∷ begins 5 (by 1 1) (attempt 1 1 1) 1
    ∷ crashes 8 (by 2 2) 1 1
    ∷ record (asks (by 1 3) command) { nodes = at 1 (answering 9 (by 1 3) turns.Nothing reply ∷ []) } ∷ [])

-- the same at the office
abbrev pub answers_office : Command → Reply → Run
answers_office command reply = run (nodes 1) (
    opens
    ∷ boots 3 opening 1 1 []
    ∷ record (asks (by 1 1) command) { office = closes 5 (by 1 1) desk.Nothing reply ∷ [] } ∷ [])
