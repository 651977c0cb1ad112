-- Runs that are on their way, and others in which what is kept at each moment isn't.
use Rattle.std.specs.Prelude.{List, [], ◌∷◌, ◌++◌, true}
use Rattle.aft_model.specs.declared.choice.Picked.TheVariants as picks
use Rattle.aft_model.specs.declared.node.NodeAct.TheVariants as turns
use Rattle.aft_model.specs.declared.node.NodeEntry.{NodeEntry}
use Rattle.aft_model.specs.declared.reply.Reply.TheVariants as replies
use Rattle.aft_model.specs.declared.script.Command.TheVariants as commands
use Rattle.aft_histories.specs.Entries.{x}
use Rattle.aft_runs.specs.Entries.{finds, turn, answering}
use Rattle.aft_runs.specs.Lines.{opening, opens, boots, attempt, begins, puts, commits, leaves, caller_of}
use Rattle.aft_runs.specs.OpeningTurns.{begins_boot, boots_two_and}
use Rattle.aft_runs.specs.Reads.{x_hi}
use Rattle.aft_runs.specs.RunLines.{attempt_at, last, other, started_node, told, went}
use Rattle.aft_runs.specs.Words.{write, hi, version_pair}
use Rattle.aft_runs.specs.Works.{Run, run, by, at, nodes, nothing, asks}

-- one node has booted, and another begins to
abbrev pub boots_second : Run
boots_second = boots_two_and (begins_boot ∷ [])

-- the second one boots first
abbrev pub boots_second_first : Run
boots_second_first = run (nodes 2) (opens ∷ boots 3 opening 2 1 [] ∷ [])

-- a transaction ends while it fetches a version, which then comes
abbrev pub fetch_outlives : Run
fetch_outlives = run (nodes 1) (
    opens
    ∷ boots 3 opening 1 1 []
    ∷ begins 5 (by 1 1) (attempt 1 1 1) 1
    ∷ puts 8 (by 1 2) (attempt 1 1 1) (write x hi)
    ∷ commits 8 (by 1 3) (attempt 1 1 1) x_hi
    ∷ begins 11 (by 2 4) (attempt 1 1 2) 2
    ∷ record (asks (by 2 5) (commands.Get x)) { nodes = at 1 (turn 14 (by 2 5) (turns.Select (attempt 1 1 2) x (picks.Fetch x_hi.id)) ∷ []) }
    ∷ leaves 14 (by 3 6) (attempt 1 1 2) 2
    ∷ record nothing {
      door = finds (by 2 5) (caller_of (attempt 1 1 2)) (version_pair x_hi.id (write x hi)) ∷ [];
      nodes = at 1 (answering 16 (by 2 5) (turns.Value (attempt 1 1 2) x x_hi.id 15 true) (replies.Value x_hi.id hi) ∷ []);
    } ∷ [])

-- a put's line gets a version, which it hasn't answered for
abbrev pub put_fetches : Run
put_fetches = run (nodes 1) (
    opens
    ∷ boots 3 opening 1 1 []
    ∷ begins 5 (by 1 1) (attempt 1 1 1) 1
    ∷ record (asks (by 1 2) (commands.Put x hi)) { door = finds (by 1 2) (caller_of (attempt 1 1 1)) (version_pair x_hi.id (write x hi)) ∷ [] } ∷ [])

-- ---- who moves an attempt, and its fetches

-- a commit is left in doubt, and another line settles it
abbrev pub doubted_node : List NodeEntry
doubted_node = started_node ++ told last 12 (turns.Doubt (attempt_at 1)) replies.InDoubt ∷ []

abbrev pub settled_node : List NodeEntry
settled_node = doubted_node ++ went other 12 (turns.Settle (attempt_at 1)) ∷ []

-- a fetch ends before one is picked
abbrev pub ends_first : List NodeEntry
ends_first = went last 8 (turns.Lost (attempt_at 1) x x_hi.id) ∷ went last 8 (turns.Select (attempt_at 1) x (picks.Fetch x_hi.id)) ∷ []
