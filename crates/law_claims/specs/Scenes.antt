-- What stands at a moment of a run, and what it keeps of attempts and of the claims of their UUIDs.
use Rattle.std.specs.Prelude.{IsFalse, IsTrue, List, Some, [], if◌then◌else◌, ℕ, ◌++◌, ◌==◌, ◌≡◌, ◌∷◌}
use Rattle.aft_records.specs.declared.stored.Commit.{Commit}
use Rattle.aft_model.specs.declared.caller.Attempt.{Attempt}
use Rattle.aft_model.specs.declared.caller.By.{By}
use Rattle.aft_model.specs.declared.door.DoorEntry.{DoorEntry}
use Rattle.aft_model.specs.declared.node.NodeEntry.{NodeEntry}
use Rattle.aft_model.specs.Attempts.{AttemptState, IsGone, attempt_state, is_gone, uuid_of}
use Rattle.aft_model.specs.LegalNode.{LegalNode}
use Rattle.aft_model.specs.Membership.{Incarnation}
use Rattle.aft_model.specs.NodeSights.{is_fenced}
use Rattle.aft_model.specs.NodeState.{IsServing, NodeState, node_state}
use Rattle.aft_model.specs.ScanRun.{same_line}
use Rattle.aft_model.specs.Stages.{Stage, put_under_claim, stage}
use Rattle.aft_lines.specs.CourseWords.{caller_of}
use Rattle.aft_lines.specs.Progress.{Progress}
use Rattle.law_holders.specs.Rows.{is_of_node}
use Rattle.law_claims.specs.Doing.{attempt_at, is_the, keeps_row, moves, rests}

-- what stands at a moment: the door's history, those of the nodes by their numbers, and where each line of a begin, a forget, a commit or an abort has come
pub record Scene : Type 0 where
  pub door : List DoorEntry
  pub node : ℕ → List NodeEntry
  pub at : By → Progress

-- what an attempt is doing at a node in a state, and its UUID there: it is gone unless the node serves as its incarnation
abbrev pub doing_in : Attempt → NodeState → AttemptState
doing_in a (IsServing serving) = if a.inc == serving.inc then attempt_state a serving.part else IsGone
doing_in a state = IsGone

abbrev pub named_in : Attempt → NodeState → List ℕ
named_in a (IsServing serving) = if a.inc == serving.inc then uuid_of a serving.part else []
named_in a state = []

-- the same at a moment
abbrev pub doing : Scene → Attempt → AttemptState
doing scene a = doing_in a (node_state (scene.node a.node))

abbrev pub named : Scene → Attempt → List ℕ
named scene a = named_in a (node_state (scene.node a.node))

-- how far its UUID has come at the door, and what was put under its claim
abbrev pub stage_of : Scene → Attempt → Stage
stage_of scene a = stage (caller_of a) (named scene a) scene.door

abbrev pub puts_of : Scene → Attempt → List Commit
puts_of scene a = put_under_claim (caller_of a) (named scene a) scene.door

-- how an attempt stands: its incarnation was fenced; or no line moves it, and its UUID has come so far if it is there; or just one line moves it, and its UUID has come as far as the line
pub data Stands (scene : Scene) (a : Attempt) : Type 0 where
  IsShut : IsTrue (is_fenced (caller_of a) scene.door) → Stands scene a
  IsAtRest : ((by : By) → IsFalse (is_the a (attempt_at (scene.at by)))) → (IsFalse (is_gone (doing scene a)) → IsTrue (rests (doing scene a) (stage_of scene a) (puts_of scene a))) → Stands scene a
  IsMoved : (by : By) → IsTrue (moves (scene.at by) a (doing scene a) (named scene a)) → IsTrue (keeps_row (scene.at by) (stage_of scene a) (puts_of scene a)) → ((other : By) → IsFalse (same_line by other) → IsFalse (is_the a (attempt_at (scene.at other)))) → Stands scene a

-- how a UUID stands with an incarnation: that was fenced; or an attempt of the UUID is there; or it has come to nothing at the door
pub data Lies (scene : Scene) (who : Incarnation) (uuid : List ℕ) : Type 0 where
  IsFenced : IsTrue (is_fenced who scene.door) → Lies scene who uuid
  HasOne : (a : Attempt) → caller_of a ≡ who → IsFalse (is_gone (doing scene a)) → named scene a ≡ uuid → Lies scene who uuid
  IsFree : IsTrue (rests IsGone (stage who uuid scene.door) (put_under_claim who uuid scene.door)) → Lies scene who uuid

-- what each moment keeps: lines move attempts of nodes alone; and how each attempt and each UUID of their incarnations stands
pub record Keeps (scene : Scene) : Type 0 where
  pub movers : (by : By) (a : Attempt) → attempt_at (scene.at by) ≡ Some a → IsTrue (is_of_node (caller_of a))
  pub attempts : (a : Attempt) → IsTrue (is_of_node (caller_of a)) → Stands scene a
  pub uuids : (who : Incarnation) (uuid : List ℕ) → IsTrue (is_of_node who) → Lies scene who uuid

-- the histories of the nodes are legal
abbrev pub AreLegal : ℕ → Scene → Type 0
AreLegal capacity scene = (node : ℕ) → LegalNode node capacity (scene.node node)

-- one entry more at the door, of a line: nothing else changes but where that line has come
pub record DoorStep (entry : DoorEntry) (before after : Scene) : Type 0 where
  pub door : after.door ≡ before.door ++ entry ∷ []
  pub node : (node : ℕ) → after.node node ≡ before.node node
  pub others : (other : By) → IsFalse (same_line entry.by other) → after.at other ≡ before.at other

-- one entry more at a node
pub record NodeStep (node : ℕ) (entry : NodeEntry) (before after : Scene) : Type 0 where
  pub door : after.door ≡ before.door
  pub here : after.node node ≡ before.node node ++ entry ∷ []
  pub elsewhere : (other : ℕ) → IsFalse (node == other) → after.node other ≡ before.node other
  pub others : (other : By) → IsFalse (same_line entry.by other) → after.at other ≡ before.at other
