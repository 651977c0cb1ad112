-- Runs of several incarnations of a node; and such runs in which the answer to one of their lines is left open.
use Rattle.std.specs.Prelude.{◌+◌, List, [], ◌∷◌, codes, length}
use Rattle.aft_model.specs.Membership.{incarnation}
use Rattle.aft_model.specs.declared.door.DoorAct.TheVariants as acts
use Rattle.aft_model.specs.declared.door.DoorEntry.{DoorEntry}
use Rattle.aft_model.specs.declared.node.NodeAct.{NodeAct}
use Rattle.aft_model.specs.declared.node.NodeAct.TheVariants as turns
use Rattle.aft_model.specs.declared.reply.Reply.{Reply}
use Rattle.aft_model.specs.declared.reply.Reply.TheVariants as replies
use Rattle.aft_model.specs.declared.script.Command.TheVariants as commands
use Rattle.aft_histories.specs.Entries.{x}
use Rattle.aft_runs.specs.Entries.{does, lists, turn, answering}
use Rattle.aft_runs.specs.Lines.{opening, opens, boots, attempt, begins, crashes, starts, only_answers}
use Rattle.aft_runs.specs.Words.{hi}
use Rattle.aft_runs.specs.Works.{Work, Run, run, ordered, whole, step, by, at, nodes, nothing, asks}

-- ---- an attempt of an older incarnation

-- a node crashes and starts again, and a put for the transaction that ran there is answered with this; it is begun anew, and the node crashes once more
abbrev pub puts_for_older : Reply → Run
puts_for_older reply = run (nodes 1) (
    opens
    ∷ boots 3 opening 1 1 []
    ∷ begins 5 (by 1 1) (attempt 1 1 1) 1
    ∷ crashes 8 (by 2 2) 1 1
    ∷ only_answers 9 (by 1 3) 1 (commands.Put x hi) (replies.NodeDown 1 1)
    ∷ starts 9 (by 2 4) 1 2 []
    ∷ only_answers 11 (by 1 5) 1 (commands.Put x hi) reply
    ∷ only_answers 11 (by 2 6) 1 (commands.Start 1) (replies.IsUp 1 2)
    ∷ begins 11 (by 1 7) (attempt 1 2 1) 1
    ∷ crashes 14 (by 2 8) 1 2
    ∷ only_answers 15 (by 2 9) 1 (commands.Crash 1) (replies.NotUp 1)
    ∷ only_answers 15 (by 2 10) 1 (commands.Local 1) (replies.NodeDown 1 2)
    ∷ only_answers 15 (by 3 11) 1 (commands.Get x) replies.NoTransaction ∷ [])

-- its incarnation is down
abbrev pub incarnations : Run
incarnations = puts_for_older (replies.NodeDown 1 1)

-- ---- a crash while a node boots

-- a boot begins and its incarnation comes up
abbrev pub begins_start : Work
begins_start = record (asks (by 2 2) (commands.Start 1)) {
  door = does (by 2 2) (acts.Up 1 2) ∷ [];
  nodes = at 1 (turn 6 (by 2 2) (turns.Booting 2) ∷ []);
}

-- a start finds that, and a crash shuts the incarnation out; then the first start does this at the door, and ends so; and the next start serves as the next incarnation
abbrev pub crashes_start : List DoorEntry → NodeAct → Reply → List Work → Run
crashes_start last act reply later = ordered (whole 1 ∷ step 2 ∷ step 2 ∷ whole 1 ∷ whole 1 ∷ whole 2 ∷ []) (run (nodes 1) (
    opens
    ∷ boots 3 opening 1 1 []
    ∷ crashes 5 (by 1 1) 1 1
    ∷ begins_start
    ∷ only_answers 7 (by 1 3) 1 (commands.Start 1) (replies.IsBooting 1 2)
    ∷ crashes 7 (by 1 4) 1 2
    ∷ record nothing { door = last; nodes = at 1 (answering (8 + length last) (by 2 2) act reply ∷ []) }
    ∷ later))

-- the start finds that its incarnation is down
abbrev pub crashed_at_boot : Run
crashed_at_boot = crashes_start [] turns.Nothing (replies.NodeDown 1 2) (starts 8 (by 1 5) 1 3 [] ∷ [])

-- it scans
abbrev pub scans : List DoorEntry
scans = lists (by 2 2) (incarnation 1 2) (codes "c/") [] ∷ []
