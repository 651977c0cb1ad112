-- The steps of a run: the turns of all histories in one order, in which each turn stands behind as many of the door's entries as its front says.
use Rattle.std.specs.Prelude.{Bool, IsTrue, List, [], filter, is_some, length, map, suc, ℕ, ◌++◌, ◌==◌, ◌||◌, ◌∷◌}
use Rattle.std.specs.List.{flat_map}
use Rattle.aft_model.specs.declared.caller.By.{By}
use Rattle.aft_model.specs.declared.door.DoorEntry.{DoorEntry}
use Rattle.aft_model.specs.declared.node.NodeEntry.{NodeEntry}
use Rattle.aft_model.specs.declared.office.OfficeEntry.{OfficeEntry}
use Rattle.aft_model.specs.declared.trace.Trace.{Trace}
use Rattle.aft_model.specs.History.{each_after, first_of}
use Rattle.aft_model.specs.ScanRun.{same_line}
use Rattle.aft_lines.specs.LineView.{door_entry_in}
use Rattle.aft_lines.specs.Turns.{AtDoor, AtNode, AtOffice, Turn, front_in}

-- a step: a turn, and whose line it is of
pub record Made : Type 0 where
  pub by : By
  pub turn : Turn

-- the steps of a node, after a history
abbrev pub made_at_node : ℕ → List NodeEntry → List NodeEntry → List Made
made_at_node node before [] = []
made_at_node node before (entry ∷ entries) = record { by = entry.by; turn = AtNode node before entry } ∷ made_at_node node (before ++ entry ∷ []) entries

-- the steps of the nodes from this number on
abbrev pub made_at_nodes : ℕ → List (List NodeEntry) → List Made
made_at_nodes node [] = []
made_at_nodes node (history ∷ histories) = made_at_node node [] history ++ made_at_nodes (suc node) histories

-- the steps of the office, after a history
abbrev pub made_at_office : List OfficeEntry → List OfficeEntry → List Made
made_at_office before [] = []
made_at_office before (entry ∷ entries) = record { by = entry.by; turn = AtOffice before entry } ∷ made_at_office (before ++ entry ∷ []) entries

-- the steps that had seen so much of the door's history
abbrev pub made_at_front : ℕ → List Made → List Made
made_at_front front made = filter (λ one. front_in one.turn == front) made

-- the door's steps from a place on, each behind the others that had seen just what stood before it
abbrev pub steps_from : List Made → ℕ → List DoorEntry → List Made
steps_from others place [] = made_at_front place others
steps_from others place (entry ∷ entries) = made_at_front place others ++ record { by = entry.by; turn = AtDoor place entry.act } ∷ steps_from others (suc place) entries

-- the steps of a run
abbrev pub steps : Trace → List Made
steps trace = steps_from (made_at_nodes 1 trace.nodes ++ made_at_office [] trace.office) 0 trace.door

-- the turns of a line among some steps, in their order
abbrev pub own_steps : By → List Made → List Turn
own_steps by made = map (λ one. one.turn) (filter (λ one. same_line by one.by) made)

-- how much of the door's history stands in some steps
abbrev pub is_door_step : Made → Bool
is_door_step one = is_some (first_of (door_entry_in one.by one.turn))

abbrev pub door_steps : List Made → List DoorEntry
door_steps made = flat_map (λ one. door_entry_in one.by one.turn) made

-- whether each step of a node or the office stands behind as many of the door's entries as its front says
abbrev pub is_at_front : List Made → Made → Bool
is_at_front before one = is_door_step one || length (door_steps before) == front_in one.turn

abbrev pub have_exact_fronts : Trace → Bool
have_exact_fronts trace = each_after is_at_front [] (steps trace)

abbrev pub HaveExactFronts : Trace → Type 0
HaveExactFronts trace = IsTrue (have_exact_fronts trace)
