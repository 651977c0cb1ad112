-- Which incarnations are up at the door, and which were fenced.
use Rattle.std.specs.Prelude.{Bool, List, Option, [], filter, if◌then◌else◌, max, nat_lt, not, suc, ℕ, ◌&&◌, ◌-◌, ◌==◌, ◌^◌, ◌∷◌}
use Rattle.std.specs.List.{flat_map, fold, list_any}
use Rattle.aft_model.specs.declared.door.DoorAct.{DoorAct}
use Rattle.aft_model.specs.declared.door.DoorAct.TheVariants.{Fence, Up}
use Rattle.aft_model.specs.declared.door.DoorEntry.{DoorEntry}
use Rattle.aft_model.specs.History.{first_of}

-- an incarnation of a node; node 0 is the office
pub record Incarnation : Type 0 where
  pub node : ℕ
  pub inc : ℕ

-- an incarnation by its numbers
abbrev pub incarnation : ℕ → ℕ → Incarnation
incarnation node inc = record { node = node; inc = inc }

-- the office, which is always up
abbrev pub the_office : Incarnation
the_office = incarnation 0 1

-- whether two incarnations are the same
abbrev pub same_incarnation : Incarnation → Incarnation → Bool
same_incarnation a b = a.node == b.node && a.inc == b.inc

-- who is up after an act: an Up adds an incarnation, and its Fence takes it away
abbrev pub up_after : List Incarnation → DoorAct → List Incarnation
up_after before (Up node inc) = incarnation node inc ∷ before
up_after before (Fence node inc) = filter (λ other. not (same_incarnation (incarnation node inc) other)) before
up_after before act = before

-- who is up after a history
abbrev pub ups : List DoorEntry → List Incarnation
ups history = fold (λ before entry. up_after before entry.act) (the_office ∷ []) history

-- whether an incarnation is up
abbrev pub is_up : Incarnation → List DoorEntry → Bool
is_up who history = list_any (same_incarnation who) (ups history)

-- the incarnation that an act fenced
abbrev pub fenced_in : DoorAct → List Incarnation
fenced_in (Fence node inc) = incarnation node inc ∷ []
fenced_in act = []

-- the incarnations that a history fenced
abbrev pub fenced : List DoorEntry → List Incarnation
fenced history = flat_map (λ entry. fenced_in entry.act) history

-- the incarnation of a node, if it is one of it
abbrev pub inc_at : ℕ → Incarnation → List ℕ
inc_at node who = if who.node == node then who.inc ∷ [] else []

-- the incarnation of a node that is up, if one is
abbrev pub up_now : ℕ → List DoorEntry → Option ℕ
up_now node history = first_of (flat_map (inc_at node) (ups history))

-- the greatest incarnation of a node that was fenced, or 0
abbrev pub greatest_fenced : ℕ → List DoorEntry → ℕ
greatest_fenced node history = fold max 0 (flat_map (inc_at node) (fenced history))

-- the last incarnation that a node can have
abbrev pub last_inc : ℕ
last_inc = 2 ^ 32 - 1

-- the incarnation that a node may come up as: one more than the greatest that was fenced, if there is one
abbrev pub next_inc : ℕ → List DoorEntry → ℕ
next_inc node history = if nat_lt (greatest_fenced node history) last_inc then suc (greatest_fenced node history) else last_inc
