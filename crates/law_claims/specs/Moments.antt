-- Steps of a run one after the other, each by its rule, and what stands behind them.
use Rattle.std.specs.Prelude.{IsTrue, List, None, Option, Some, [], false, if◌then◌else◌, ℕ, ◌++◌, ◌==◌, ◌≡◌, ◌∷◌}
use Rattle.std.specs.List.{flat_map}
use Rattle.aft_records.specs.declared.stored.Commit.{Commit}
use Rattle.aft_model.specs.declared.caller.Attempt.{Attempt}
use Rattle.aft_model.specs.declared.caller.By.{By}
use Rattle.aft_model.specs.declared.node.NodeEntry.{NodeEntry}
use Rattle.aft_model.specs.declared.script.Command.{Command}
use Rattle.aft_model.specs.Attempts.{AttemptState, attempt_after, uuid_after}
use Rattle.aft_model.specs.Bytes.{HasBytes}
use Rattle.aft_model.specs.LegalDoor.{Legal}
use Rattle.aft_model.specs.LegalNode.{LegalNode}
use Rattle.aft_model.specs.Membership.{Incarnation, incarnation}
use Rattle.aft_model.specs.NodeSights.{has_seen, is_fenced}
use Rattle.aft_model.specs.Stages.{Stage, put_after, stage_after}
use Rattle.aft_lines.specs.Advance.{leads_to}
use Rattle.aft_lines.specs.CourseWords.{Ends, caller_of}
use Rattle.aft_lines.specs.Makes.{makes}
use Rattle.aft_lines.specs.Progress.{NotBegun, Progress, Stopped}
use Rattle.aft_lines.specs.Steps.{Made, door_steps, own_steps}
use Rattle.aft_lines.specs.Turns.{AtDoor, AtNode, AtOffice, Turn}
use Rattle.law_holders.specs.Rows.{is_of_attempt, is_of_node}
use Rattle.law_claims.specs.Scenes.{Scene}

-- what lines ask: the command of each, if it is one; what its ends rest on; and the numbers of the nodes
pub record Asking : Type 0 where
  pub command : By → Option Command
  pub ends : By → Ends
  pub nodes : List ℕ

-- ---- what stands behind some steps

-- the entries of a node among some steps
abbrev pub node_entry_in : ℕ → Turn → List NodeEntry
node_entry_in node (AtNode number before entry) = if number == node then entry ∷ [] else []
node_entry_in node turn = []

abbrev pub node_steps : ℕ → List Made → List NodeEntry
node_steps node made = flat_map (λ one. node_entry_in node one.turn) made

-- a position, or that before the first turn
abbrev pub or_not_begun : Option Progress → Progress
or_not_begun None = NotBegun
or_not_begun (Some position) = position

-- where a line that moves attempts has come; of any other it isn't told
abbrev pub come_to : List ℕ → Ends → List Turn → Option Command → Progress
come_to nodes ends line None = NotBegun
come_to nodes ends line (Some command) = if is_of_attempt command then or_not_begun (leads_to command nodes ends line) else NotBegun

-- what stands behind some steps
abbrev pub scene_of : Asking → List Made → Scene
scene_of asking made = record {
  door = door_steps made;
  node = λ node. node_steps node made;
  at = λ by. come_to asking.nodes (asking.ends by) (own_steps by made) (asking.command by);
}

-- ---- the rule of each step

-- a turn leaves the stages of the nodes' incarnations, what was put under their claims, what attempts do, and their UUIDs
abbrev pub IsQuiet : Turn → Type 0
IsQuiet (AtDoor place act) =
    ((who : Incarnation) (uuid : List ℕ) (stage : Stage) → IsTrue (is_of_node who) → stage_after who uuid stage act ≡ stage)
    × ((who : Incarnation) (uuid : List ℕ) (puts : List Commit) → IsTrue (is_of_node who) → put_after who uuid puts act ≡ puts)
IsQuiet (AtNode node before entry) =
    ((a : Attempt) (state : AttemptState) → attempt_after a state entry.act ≡ state) × ((a : Attempt) (uuid : List ℕ) → uuid_after a uuid entry.act ≡ uuid)
IsQuiet (AtOffice before entry) = Unit {0}

-- why a line may make a turn behind some steps: it moves attempts, and the turn leads it somewhere; its command makes such turns; or it is no line, and the turn is quiet
pub data IsMade (asking : Asking) (made : List Made) (by : By) (turn : Turn) : Type 0 where
  ByCourse : (command : Command) (next : Progress) → asking.command by ≡ Some command → IsTrue (is_of_attempt command) → leads_to command asking.nodes (asking.ends by) (own_steps by made ++ turn ∷ []) ≡ Some next → IsMade asking made by turn
  ByCommand : (command : Command) → asking.command by ≡ Some command → is_of_attempt command ≡ false → IsTrue (makes command turn) → IsMade asking made by turn
  ByNobody : asking.command by ≡ None → IsQuiet turn → IsMade asking made by turn

-- a turn keeps the rules of the histories behind some steps: at the door the history is legal with it, and made of bytes; at a node, one of the nodes, it stands behind what that has done, has seen all of the door's history, and whoever is shut out or stopped was fenced there. The office's turns are left out: they change nothing of this
abbrev pub Comes : Asking → ℕ → List Made → By → Turn → Type 0
Comes asking capacity made by (AtDoor place act) =
    Legal (door_steps made ++ record { by = by; act = act } ∷ []) × HasBytes (door_steps made ++ record { by = by; act = act } ∷ [])
Comes asking capacity made by (AtNode node before entry) =
    (entry.by ≡ by) × (before ≡ node_steps node made) × ((inc : ℕ) → IsTrue (is_of_node (incarnation node inc))) × LegalNode node capacity (before ++ entry ∷ []) × IsTrue (has_seen node (door_steps made) by before entry.act entry.answer)
    × ((who : Incarnation) → IsTrue ((asking.ends by).is_shut_out who entry.front) → IsTrue (is_fenced who (door_steps made)))
    × ((a : Attempt) → (scene_of asking (made ++ record { by = by; turn = AtNode node before entry } ∷ [])).at by ≡ Stopped a → IsTrue (is_fenced (caller_of a) (door_steps made)))
Comes asking capacity made by (AtOffice before entry) = ⊥

-- each of some steps is made so, and comes so, behind those before it
abbrev pub MayCome : Asking → ℕ → List Made → List Made → Type 0
MayCome asking capacity before [] = Unit {0}
MayCome asking capacity before (one ∷ made) = IsMade asking before one.by one.turn × Comes asking capacity before one.by one.turn × MayCome asking capacity (before ++ one ∷ []) made
