-- How much of the door's history the entries of a list had seen.
use Rattle.std.specs.Prelude.{Bool, List, [], ◌∷◌, ◌&&◌, map, nat_le, true, ℕ}
use Rattle.aft_model.specs.declared.node.NodeEntry.{NodeEntry}
use Rattle.aft_model.specs.declared.office.OfficeEntry.{OfficeEntry}

-- whether numbers never fall
abbrev pub never_fall : List ℕ → Bool
never_fall [] = true
never_fall (n ∷ []) = true
never_fall (n ∷ m ∷ numbers) = nat_le n m && never_fall (m ∷ numbers)

-- the fronts of the entries of a node
abbrev pub node_fronts : List NodeEntry → List ℕ
node_fronts history = map (λ entry. entry.front) history

-- the fronts of the entries of the office
abbrev pub office_fronts : List OfficeEntry → List ℕ
office_fronts office = map (λ entry. entry.front) office
