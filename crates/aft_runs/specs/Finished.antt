-- A script with the entries that answer its lines.
use Rattle.std.specs.Prelude.{ℕ, List, [], ◌∷◌, codes, Option, Some, None}
use Rattle.aft_model.specs.declared.node.NodeAct.TheVariants as turns
use Rattle.aft_model.specs.declared.node.NodeEntry.{NodeEntry}
use Rattle.aft_model.specs.declared.office.OfficeAct.TheVariants as desk
use Rattle.aft_model.specs.declared.office.OfficeEntry.{OfficeEntry}
use Rattle.aft_model.specs.declared.reply.Reply.{Reply}
use Rattle.aft_model.specs.declared.reply.Reply.TheVariants.{Absent, Announced, Managed, Started, Value}
use Rattle.aft_model.specs.declared.script.Command.TheVariants.{Get, Manager}
use Rattle.aft_model.specs.declared.script.Script.{Script}
use Rattle.aft_lines.specs.Asked.{Asked, Ran}
use Rattle.aft_histories.specs.Entries.{x, first}
use Rattle.aft_runs.specs.Works.{by, nodes}

-- an entry of a node, and one of the office, that answers a line or doesn't
abbrev pub at_node : ℕ → ℕ → Option Reply → NodeEntry
at_node client line answer = record { front = 0; by = by client line; act = turns.Nothing; answer = answer }

abbrev pub at_office : ℕ → ℕ → Option Reply → OfficeEntry
at_office client line answer = record { front = 0; by = by client line; act = desk.Nothing; answer = answer }

-- a script whose second line has no command
abbrev pub two_lines : Script
two_lines = record { lines = record { number = 1; client = 1; order = Get x } ∷ record { number = 3; client = 2; order = Manager } ∷ [] }

-- that a run is asked for it, and a session asks one line more
abbrev pub asks_two : Asked
asks_two = record { script = two_lines; order = Some (record { words = [] }); asks = record { number = 4; client = 65; order = Get x } ∷ []; settings = nodes 2; clock = None }

-- what came of a run, at its two nodes and the office
abbrev pub came : List NodeEntry → List NodeEntry → List OfficeEntry → Ran
came one two office = record { trace = record { door = []; nodes = one ∷ two ∷ []; office = office }; mail = [] }

-- the node's last entry of the first line answers it, and the office the other; what no line of the script was answered is among them
abbrev pub both_answered : Ran
both_answered = came
    (at_node 0 0 (Some (Started 1 1)) ∷ at_node 1 1 None ∷ at_node 1 1 (Some (Value first.id (codes "hi"))) ∷ at_node 65 4 (Some Absent) ∷ [])
    (at_node 0 0 (Some (Started 2 1)) ∷ at_node 0 1 (Some (Announced 0 0 0)) ∷ [])
    (at_office 2 3 None ∷ at_office 2 3 (Some (Managed 0 1)) ∷ [])

-- the first line was answered at both nodes
abbrev pub answered_twice : Ran
answered_twice = came (at_node 1 1 (Some Absent) ∷ []) (at_node 1 1 (Some Absent) ∷ []) (at_office 2 3 (Some (Managed 0 1)) ∷ [])
