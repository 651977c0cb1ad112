-- What the turns of boots and crashes do.
use Rattle.std.specs.Prelude.{Bool, List, None, Option, Some, false, if◌then◌else◌, true, ℕ, ◌||◌, ◌⊎◌, ◌≡◌, IsTrue}
use Rattle.aft_records.specs.declared.stored.Commit.{Commit}
use Rattle.aft_model.specs.declared.caller.By.{By}
use Rattle.aft_model.specs.declared.node.NodeAct.TheVariants as acts
use Rattle.aft_model.specs.declared.reply.Reply.{Reply}
use Rattle.aft_model.specs.declared.reply.Reply.TheVariants as replies
use Rattle.aft_model.specs.NodeRules.{is_boot_refusal}
use Rattle.aft_model.specs.NodeState.{boots, node_state, serves}
use Rattle.aft_ledger.specs.Turns.{ids_differ, next_boot}
use Rattle.aft_ledger.specs.View.{NodeView, after_entry, answered}
use Rattle.aft_node.specs.declared.goes.BootEnd.{BootEnd}
use Rattle.aft_node.specs.declared.goes.BootEnd.TheVariants as ends

-- the incarnation that a node boots next
abbrev pub next_of : NodeView → ℕ
next_of node = next_boot node.history (node_state node.history)

-- a boot may end so: the commits that were shown have ids that differ, and a refusal is one of those of boots
abbrev pub MayEndSo : BootEnd → Type 0
MayEndSo (ends.Shown commits) = IsTrue (ids_differ commits)
MayEndSo (ends.Refused reply) = IsTrue (is_boot_refusal (Some reply))

-- a boot is stopped with an answer
abbrev pub stopped : ℕ → By → ℕ → Reply → NodeView → NodeView
stopped handed by inc reply node = after_entry handed by (acts.BootStopped inc) (Some reply) node

-- the incarnation that boots serves, with the commits that were shown
abbrev pub started : ℕ → By → ℕ → List Commit → NodeView → NodeView
started handed by inc commits node = after_entry handed by (acts.Boot inc commits) (Some (replies.Started node.number inc)) node

-- the end of a boot that still runs: it serves, or for want of memory it is stopped; or it is stopped with the answer that it is handed
abbrev pub BootEnds : ℕ → By → ℕ → BootEnd → NodeView → NodeView → Bool → Type 0
BootEnds handed by inc (ends.Shown commits) old new result =
    ((new ≡ started handed by inc commits old) × (result ≡ true)) ⊎ ((new ≡ stopped handed by inc replies.NoMemory old) × (result ≡ false))
BootEnds handed by inc (ends.Refused reply) old new result = (new ≡ stopped handed by inc reply old) × (result ≡ false)

-- whether an incarnation boots or serves
abbrev pub is_of_node : ℕ → NodeView → Bool
is_of_node inc node = boots inc (node_state node.history) || serves inc (node_state node.history)

-- the end of a crash: none was fenced; or the incarnation that was goes down; or, where the node has left it, that is answered alone
abbrev pub down_done : ℕ → By → Option ℕ → NodeView → NodeView
down_done handed by None node = answered handed by (replies.NotUp node.number) node
down_done handed by (Some inc) node =
    if is_of_node inc node then after_entry handed by (acts.Down inc) (Some (replies.Crashed node.number inc)) node
    else answered handed by (replies.Crashed node.number inc) node
