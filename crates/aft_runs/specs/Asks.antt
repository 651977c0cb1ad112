-- Runs in which how they fit what was asked is left open: as the rules say they are legal, and otherwise they are refused.
use Rattle.std.specs.Prelude.{ℕ, List, [], ◌∷◌}
use Rattle.aft_model.specs.Membership.{incarnation}
use Rattle.aft_model.specs.declared.caller.Attempt.{Attempt}
use Rattle.aft_model.specs.declared.door.DoorEntry.{DoorEntry}
use Rattle.aft_model.specs.declared.node.NodeAct.TheVariants as turns
use Rattle.aft_model.specs.declared.node.NodeEntry.{NodeEntry}
use Rattle.aft_model.specs.declared.reply.Reply.TheVariants as replies
use Rattle.aft_model.specs.declared.script.Command.TheVariants as commands
use Rattle.aft_model.specs.declared.script.Line.{Line}
use Rattle.aft_model.specs.declared.script.Step.{Step}
use Rattle.aft_histories.specs.Entries.{u, x, record_of}
use Rattle.aft_runs.specs.Entries.{misses, turn, answering}
use Rattle.aft_runs.specs.Lines.{opening, opens, boots, attempt, begins, puts, gets_absent}
use Rattle.aft_runs.specs.Rounds.{drops}
use Rattle.aft_runs.specs.Words.{write, hi}
use Rattle.aft_runs.specs.Works.{Work, Run, run, ordered, step, asked, ran, by, at, nodes, nothing, asks}

-- the same run, where lines run turn by turn
abbrev pub in_turns : Run → Run
in_turns told = ordered (step 1 ∷ []) told

-- a transaction begins, and then this is done
abbrev pub begins_then : List Work → Run
begins_then later = run (nodes 1) (opens ∷ boots 3 opening 1 1 [] ∷ begins 5 (by 1 1) (attempt 1 1 1) 1 ∷ later)

-- ---- answers

-- a put, with these entries at the node and at the door
abbrev pub puts_by : List NodeEntry → List DoorEntry → Run
puts_by at_node at_door = begins_then (record (asks (by 1 2) (commands.Put x hi)) { door = at_door; nodes = at 1 at_node } ∷ [])

-- the value is buffered, and this is answered; and then something else is answered
abbrev pub puts_it : NodeEntry
puts_it = answering 8 (by 1 2) (turns.Put (attempt 1 1 1) x hi) replies.Stored

abbrev pub answers_again : NodeEntry
answers_again = answering 8 (by 1 2) turns.Nothing replies.NoMemory

-- the store is asked for something
abbrev pub asks_store : DoorEntry
asks_store = misses (by 1 2) (incarnation 1 1) (record_of 2)

-- ---- the script

-- an entry of the line 9 of client 3, where lines run turn by turn, and the script has these lines besides
abbrev pub answers_for : List Line → Run
answers_for lines = in_turns (begins_then (record nothing { lines = lines; nodes = at 1 (answering 8 (by 3 9) turns.Nothing replies.NoMemory ∷ []) } ∷ []))

-- that line
abbrev pub line_nine : List Line
line_nine = (asks (by 3 9) (commands.Local 1)).lines

-- a line puts the value hi, and this value is put
abbrev pub puts_value : List ℕ → Run
puts_value value = puts_by (answering 8 (by 1 2) (turns.Put (attempt 1 1 1) x value) replies.Stored ∷ []) []

-- a line gets x, and this key is got
abbrev pub gets_key : List ℕ → Run
gets_key key = begins_then (record (gets_absent 8 (by 1 2) (attempt 1 1 1) key) { lines = (asks (by 1 2) (commands.Get x)).lines } ∷ [])

-- of two nodes the second begins a transaction, for a line that names this one
abbrev pub begins_for : ℕ → Run
begins_for node = run (nodes 2) (
    opens
    ∷ boots 3 opening 1 1 []
    ∷ boots 5 opening 2 1 []
    ∷ record (begins 7 (by 1 1) (attempt 2 1 1) 1) { lines = (asks (by 1 1) (commands.Begin (u 1) node)).lines } ∷ [])

-- the second has a local round, for a line that names this one
abbrev pub rounds_for : ℕ → Run
rounds_for node = run (nodes 2) (
    opens
    ∷ boots 3 opening 1 1 []
    ∷ boots 5 opening 2 1 []
    ∷ record (drops 7 (by 1 1) 2 []) { lines = (asks (by 1 1) (commands.Local node)).lines } ∷ [])

-- two clients begin, and the first puts a value for this attempt, or gets a key for it
abbrev pub puts_for : Attempt → Run
puts_for own = begins_then (begins 8 (by 2 2) (attempt 1 1 2) 2 ∷ puts 11 (by 1 3) own (write x hi) ∷ [])

abbrev pub gets_for : Attempt → Run
gets_for own = begins_then (begins 8 (by 2 2) (attempt 1 1 2) 2 ∷ gets_absent 11 (by 1 3) own x ∷ [])

-- ---- order

-- a put that has seen so much of the door's history, where lines run turn by turn
abbrev pub puts_at : ℕ → Run
puts_at front = in_turns (begins_then (puts front (by 1 2) (attempt 1 1 1) (write x hi) ∷ []))

-- within a begin of client 1 a line of this client runs, where lines run turn by turn
abbrev pub runs_within : ℕ → Run
runs_within client = in_turns (run (nodes 1) (
    opens
    ∷ boots 3 opening 1 1 []
    ∷ record (begins 5 (by 1 1) (attempt 1 1 1) 1) {
      lines = record { number = 1; client = 1; order = commands.Begin (u 1) 1 } ∷ record { number = 2; client = client; order = commands.Local 1 } ∷ [];
      nodes = at 1 (turn 5 (by 1 1) (turns.Admit (attempt 1 1 1) (u 1))
          ∷ answering 6 (by client 2) (turns.Drop []) (replies.Dropped 0)
          ∷ answering 8 (by 1 1) (turns.Begin (attempt 1 1 1)) (replies.Begun (u 1)) ∷ []);
    } ∷ []))

-- client 1 begins, and then client 2, where the words of the order are these
abbrev pub begins_by : List Step → Run
begins_by words = ordered words (begins_then (begins 8 (by 2 2) (attempt 1 1 2) 2 ∷ []))

-- ---- settings

-- a run of two nodes, with the histories of so many
abbrev pub histories_of : ℕ → Run
histories_of count =
    let works : List Work = opens ∷ boots 3 opening 1 1 [] ∷ boots 5 opening 2 1 [] ∷ [] in
    record { asked = asked (nodes 2) works; ran = ran (nodes count) works }
