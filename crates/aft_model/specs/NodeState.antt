-- What a node is doing: it is down, it boots, or it serves as one incarnation, with what it has done in that service.
use Rattle.std.specs.Prelude.{Bool, List, None, Option, Some, [], false, max, true, ℕ, ◌++◌, ◌==◌, ◌∷◌}
use Rattle.std.specs.List.{fold}
use Rattle.aft_records.specs.declared.stored.Commit.{Commit}
use Rattle.aft_model.specs.declared.node.NodeAct.{NodeAct}
use Rattle.aft_model.specs.declared.node.NodeAct.TheVariants.{Boot, BootStopped, Booting, Down}
use Rattle.aft_model.specs.declared.node.NodeEntry.{NodeEntry}

-- a service: the incarnation, the commits that its boot was shown, and its part of the history, which is what follows the boot
pub record Service : Type 0 where
  pub inc : ℕ
  pub booted : List Commit
  pub part : List NodeEntry

-- a node is down, it is booting an incarnation, with a boot that runs or after one that was stopped, or it serves
pub data NodeState : Type 0 where
  IsDown : NodeState
  IsBooting : ℕ → Bool → NodeState
  IsServing : Service → NodeState

-- a service with one entry more
abbrev pub extended : Service → NodeEntry → Service
extended service entry = record { inc = service.inc; booted = service.booted; part = service.part ++ entry ∷ [] }

-- an entry that leaves a node as it is, down, booting or serving: it joins the part of one that serves
abbrev pub goes_on : NodeState → NodeEntry → NodeState
goes_on (IsServing service) entry = IsServing (extended service entry)
goes_on before entry = before

-- a boot that is stopped leaves the node booting
abbrev pub stopped : NodeState → NodeEntry → NodeState
stopped (IsBooting inc running) entry = IsBooting inc false
stopped before entry = goes_on before entry

-- what a node is doing after an entry and its act
abbrev pub state_after : NodeState → NodeEntry → NodeAct → NodeState
state_after before entry (Booting inc) = IsBooting inc true
state_after before entry (Boot inc commits) = IsServing (record { inc = inc; booted = commits; part = [] })
state_after before entry (BootStopped inc) = stopped before entry
state_after before entry (Down inc) = IsDown
state_after before entry act = goes_on before entry

-- what a node is doing after a history: at first it is down
abbrev pub node_state : List NodeEntry → NodeState
node_state history = fold (λ before entry. state_after before entry entry.act) IsDown history

-- the newer incarnation, after an act
abbrev pub newest_after : ℕ → NodeAct → ℕ
newest_after before (Booting inc) = max before inc
newest_after before act = before

-- the newest incarnation that a node has begun to boot, or 0
abbrev pub newest : List NodeEntry → ℕ
newest history = fold (λ before entry. newest_after before entry.act) 0 history

-- the service of a node that serves
abbrev pub service_in : NodeState → Option Service
service_in (IsServing service) = Some service
service_in state = None

-- the service that a node is in after a history
abbrev pub service : List NodeEntry → Option Service
service history = service_in (node_state history)

-- whether a node that is in a service passes a test of it
abbrev pub in_service : (Service → Bool) → Option Service → Bool
in_service test None = false
in_service test (Some serving) = test serving

-- the part of a service, or nothing
abbrev pub part_in : Option Service → List NodeEntry
part_in None = []
part_in (Some serving) = serving.part

-- what the node has done in the service that it is in
abbrev pub part : List NodeEntry → List NodeEntry
part history = part_in (service history)

-- whether a node boots this incarnation
abbrev pub boots : ℕ → NodeState → Bool
boots inc (IsBooting booting running) = inc == booting
boots inc state = false

-- whether a node serves as this incarnation
abbrev pub serves : ℕ → NodeState → Bool
serves inc (IsServing serving) = inc == serving.inc
serves inc state = false
