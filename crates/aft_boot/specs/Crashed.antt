-- Which turns a crash has made, by how far it has come.
use Rattle.std.specs.Prelude.{IsTrue, List, None, Option, Some, [], length, not, ℕ, ◌++◌, ◌||◌, ◌≡◌, ◌≤◌, ◌⊎◌, ◌∷◌}
use Rattle.aft_model.specs.declared.caller.By.{By}
use Rattle.aft_model.specs.declared.door.DoorAct.TheVariants.{Fence}
use Rattle.aft_model.specs.declared.node.NodeAct.{NodeAct}
use Rattle.aft_model.specs.declared.node.NodeAct.TheVariants as acts
use Rattle.aft_model.specs.declared.node.NodeEntry.{NodeEntry}
use Rattle.aft_model.specs.declared.reply.Reply.{Reply}
use Rattle.aft_model.specs.declared.reply.Reply.TheVariants as replies
use Rattle.aft_model.specs.Membership.{up_now}
use Rattle.aft_model.specs.NodeState.{boots, node_state, serves}
use Rattle.aft_lines.specs.Turns.{AtDoor, AtNode, Turn}
use Rattle.aft_boot.specs.CrashView.{CrashView}
use Rattle.aft_boot.specs.declared.fencing.Fencing.{Fencing}
use Rattle.aft_boot.specs.declared.fencing.Fencing.TheVariants.{Begins, Ended, Tells}
use Rattle.aft_turns.specs.Trail.{Trail, no_trail}

-- a turn of the line at its node
abbrev pub turn_at : By → ℕ → List NodeEntry → ℕ → NodeAct → Option Reply → Turn
turn_at by node before front act answer = AtNode node before (record { front = front; by = by; act = act; answer = answer })

-- what a crash did at the door: it fenced this incarnation; or it fenced none, and looked at the door, which showed none of the node up
abbrev pub HasFenced : ℕ → Option ℕ → Trail → Type 0
HasFenced node (Some inc) trail = (place : ℕ) × (trail.turns ≡ AtDoor place (Fence node inc) ∷ [])
HasFenced node None trail = (trail.turns ≡ []) × (up_now node trail.look ≡ None) × (1 ≤ length trail.look)

-- what the node did: the fenced incarnation went down, or the node had left it; or none was fenced
abbrev pub GoesDown : ℕ → Option ℕ → List NodeEntry → NodeAct → Reply → Type 0
GoesDown node None before act reply = (act ≡ acts.Nothing) × (reply ≡ replies.NotUp node)
GoesDown node (Some inc) before act reply =
    ((act ≡ acts.Down inc) ⊎ ((act ≡ acts.Nothing) × IsTrue (not (boots inc (node_state before) || serves inc (node_state before))))) × (reply ≡ replies.Crashed node inc)

-- a crash that is over
pub record EndedSo (by : By) (node : ℕ) (trail : Trail) : Type 0 where
  pub incarnation : Option ℕ
  pub since : Trail
  pub before : List NodeEntry
  pub front : ℕ
  pub act : NodeAct
  pub reply : Reply
  pub fenced : HasFenced node incarnation since
  pub turns : trail.turns ≡ since.turns ++ turn_at by node before front act (Some reply) ∷ []
  pub look : trail.look ≡ since.look
  pub down : GoesDown node incarnation before act reply

-- what a crash has made by a stage
abbrev pub made_at : By → ℕ → Fencing → Trail → Type 0
made_at by node Begins trail = trail ≡ no_trail
made_at by node (Tells fenced) trail = HasFenced node fenced trail
made_at by node Ended trail = EndedSo by node trail

-- a crash has made these turns
abbrev pub Made : CrashView → Trail → Type 0
Made crash trail = made_at crash.by crash.node crash.stage trail
