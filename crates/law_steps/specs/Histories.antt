-- The history of a node among those of the nodes from a number on.
use Rattle.std.specs.Prelude.{List, [], if◌then◌else◌, suc, ℕ, ◌==◌, ◌∷◌}
use Rattle.aft_model.specs.declared.node.NodeEntry.{NodeEntry}

-- the history of a node, or none
abbrev pub history_in : ℕ → ℕ → List (List NodeEntry) → List NodeEntry
history_in number node [] = []
history_in number node (history ∷ histories) = if number == node then history else history_in number (suc node) histories
