-- A run in which a node starts and its scan fails, and a later start tries it again; and that run where the end of the first start is left open.
use Rattle.std.specs.Prelude.{[], ◌∷◌, codes}
use Rattle.aft_keeper.specs.declared.keeper.KeeperCall.TheVariants as calls
use Rattle.aft_model.specs.Membership.{incarnation}
use Rattle.aft_model.specs.declared.door.DoorAct.TheVariants as acts
use Rattle.aft_model.specs.declared.node.NodeAct.{NodeAct}
use Rattle.aft_model.specs.declared.node.NodeAct.TheVariants as turns
use Rattle.aft_model.specs.declared.reply.Reply.{Reply}
use Rattle.aft_model.specs.declared.reply.Reply.TheVariants as replies
use Rattle.aft_model.specs.declared.script.Command.TheVariants as commands
use Rattle.aft_histories.specs.Entries.{u, x, record_pair}
use Rattle.aft_runs.specs.Entries.{does, fails, lists, turn, answering}
use Rattle.aft_runs.specs.Lines.{opening, opens, boots, attempt, begins, puts, fetches, commits, crashes, only_answers}
use Rattle.aft_runs.specs.Reads.{x_hi}
use Rattle.aft_runs.specs.Words.{write, hi, commit_of}
use Rattle.aft_runs.specs.Works.{Work, Run, run, by, at, nodes, asks}

-- a start comes up, its scan fails, and this ends it
abbrev pub fails_and : NodeAct → Reply → Work
fails_and act reply = record (asks (by 2 5) (commands.Start 1)) {
  door = does (by 2 5) (acts.Up 1 2) ∷ fails (by 2 5) (incarnation 1 2) (calls.Scan (codes "c/") [] 64) ∷ [];
  nodes = at 1 (turn 12 (by 2 5) (turns.Booting 2) ∷ answering 14 (by 2 5) act reply ∷ []);
}

-- the next start goes on with the incarnation that is up, and its scan is whole
abbrev pub tries_again : Work
tries_again = record (asks (by 2 7) (commands.Start 1)) {
  door = lists (by 2 7) (incarnation 1 2) (codes "c/") (record_pair (commit_of x_hi) ∷ []) ∷ [];
  nodes = at 1 (turn 14 (by 2 7) (turns.Booting 2) ∷ answering 15 (by 2 7) (turns.Boot 2 (commit_of x_hi ∷ [])) (replies.Started 1 2) ∷ []);
}

-- a node commits a value and crashes, and its start fails; it doesn't serve until the next start, and then a transaction reads the value there
abbrev pub boot_fault : Run
boot_fault = run (nodes 1) (
    opens
    ∷ boots 3 opening 1 1 []
    ∷ begins 5 (by 1 1) (attempt 1 1 1) 1
    ∷ puts 8 (by 1 2) (attempt 1 1 1) (write x hi)
    ∷ commits 8 (by 1 3) (attempt 1 1 1) x_hi
    ∷ crashes 11 (by 2 4) 1 1
    ∷ fails_and (turns.BootStopped 2) replies.StoreFault
    ∷ only_answers 14 (by 1 6) 1 (commands.Begin (u 2) 1) (replies.NodeDown 1 2)
    ∷ tries_again
    ∷ begins 15 (by 1 8) (attempt 1 2 1) 2
    ∷ fetches 18 (by 1 9) (attempt 1 2 1) x_hi.id (write x hi) ∷ [])

-- the same up to the first start, which ends so
abbrev pub start_fails_and : NodeAct → Reply → Run
start_fails_and act reply = run (nodes 1) (
    opens
    ∷ boots 3 opening 1 1 []
    ∷ begins 5 (by 1 1) (attempt 1 1 1) 1
    ∷ puts 8 (by 1 2) (attempt 1 1 1) (write x hi)
    ∷ commits 8 (by 1 3) (attempt 1 1 1) x_hi
    ∷ crashes 11 (by 2 4) 1 1
    ∷ fails_and act reply ∷ [])
