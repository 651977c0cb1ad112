-- Why a line of a client is refused, by the attempt that the client holds.
use Rattle.std.specs.Prelude.{None, Option, Some, if◌then◌else◌}
use Rattle.aft_model.specs.declared.caller.Attempt.{Attempt}
use Rattle.aft_model.specs.declared.reply.Reply.{Reply}
use Rattle.aft_model.specs.declared.reply.Reply.TheVariants as replies
use Rattle.aft_model.specs.Attempts.{AttemptState, IsGone, IsRunning, attempt_state}
use Rattle.aft_model.specs.NodeState.{node_state, part, serves}
use Rattle.aft_ledger.specs.View.{NodeView}
use Rattle.aft_node.specs.Outcomes.{down_reply}

-- the client holds no attempt, the node doesn't serve the attempt's incarnation, or else why by what the attempt is doing
abbrev pub held_refusal : (Attempt → Option Reply) → Option Attempt → NodeView → Option Reply
held_refusal why None node = Some replies.NoTransaction
held_refusal why (Some a) node = if serves a.inc (node_state node.history) then why a else Some (down_reply node a.inc)

-- what a client's attempt is doing
abbrev pub doing : NodeView → Attempt → AttemptState
doing node a = attempt_state a (part node.history)

-- why a put or a get is refused: the attempt isn't there, or it doesn't run
abbrev pub running_refusal : AttemptState → Option Reply
running_refusal IsRunning = None
running_refusal IsGone = Some replies.NoTransaction
running_refusal state = Some replies.Committing

abbrev pub get_refusal : Option Attempt → NodeView → Option Reply
get_refusal attempt node = held_refusal (λ a. running_refusal (doing node a)) attempt node
