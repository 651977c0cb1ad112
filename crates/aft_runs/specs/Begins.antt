-- Runs in which one begin is left open: with one by the rules they are legal, and with another they are refused.
use Rattle.std.specs.Prelude.{ℕ, ◌+◌, List, [], ◌∷◌, length}
use Rattle.aft_model.specs.Membership.{incarnation}
use Rattle.aft_model.specs.declared.door.DoorAct.TheVariants as acts
use Rattle.aft_model.specs.declared.door.DoorEntry.{DoorEntry}
use Rattle.aft_model.specs.declared.node.NodeAct.TheVariants as turns
use Rattle.aft_model.specs.declared.reply.Reply.TheVariants as replies
use Rattle.aft_model.specs.declared.script.Command.TheVariants as commands
use Rattle.aft_histories.specs.Entries.{u, x, record_of, marker_of}
use Rattle.aft_runs.specs.Entries.{does, misses, turn, answering}
use Rattle.aft_runs.specs.Lines.{opening, opens, boots, attempt, begins, puts, commits}
use Rattle.aft_runs.specs.Reads.{x_hi}
use Rattle.aft_runs.specs.Words.{write, hi}
use Rattle.aft_runs.specs.Works.{Work, Run, run, by, at, nodes, asks}

-- ---- what is asked before an attempt runs

-- a transaction claims its UUID, makes these gets, and begins
abbrev pub begins_behind : List DoorEntry → Work
begins_behind gets = record (asks (by 1 1) (commands.Begin (u 1) 1)) {
  door = does (by 1 1) (acts.Claim (u 1) 1 1) ∷ gets;
  nodes = at 1 (turn 5 (by 1 1) (turns.Admit (attempt 1 1 1) (u 1)) ∷ answering (6 + length gets) (by 1 1) (turns.Begin (attempt 1 1 1)) (replies.Begun (u 1)) ∷ []);
}

-- a run in which it does that, and then this
abbrev pub begins_then : List DoorEntry → List Work → Run
begins_then gets later = run (nodes 1) (opens ∷ boots 3 opening 1 1 [] ∷ begins_behind gets ∷ later)

-- it finds no record, and no marker
abbrev pub finds_no_record : DoorEntry
finds_no_record = misses (by 1 1) (incarnation 1 1) (record_of 1)

abbrev pub finds_no_marker : DoorEntry
finds_no_marker = misses (by 1 1) (incarnation 1 1) (marker_of 1)

-- both, in order; the marker before the record; and the record alone
abbrev pub in_order : List DoorEntry
in_order = finds_no_record ∷ finds_no_marker ∷ []

abbrev pub backwards : List DoorEntry
backwards = finds_no_marker ∷ finds_no_record ∷ []

abbrev pub without_marker : List DoorEntry
without_marker = finds_no_record ∷ []

-- it puts a value and commits
abbrev pub commits_too : List Work
commits_too = puts 8 (by 1 2) (attempt 1 1 1) (write x hi) ∷ commits 8 (by 1 3) (attempt 1 1 1) x_hi ∷ []

-- ---- who holds a UUID

-- one node begins the transaction 1, and the other that of this number
abbrev pub begins_beside : ℕ → Run
begins_beside n = run (nodes 2) (
    opens
    ∷ boots 3 opening 1 1 []
    ∷ boots 5 opening 2 1 []
    ∷ begins 7 (by 1 1) (attempt 1 1 1) 1
    ∷ begins 10 (by 2 2) (attempt 2 1 1) n ∷ [])
