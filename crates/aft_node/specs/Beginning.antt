-- What the turns of begins and forgets do.
use Rattle.std.specs.Prelude.{List, None, Option, Some, if◌then◌else◌, is_some, length, ℕ, ◌+◌}
use Rattle.aft_model.specs.declared.caller.Attempt.{Attempt}
use Rattle.aft_model.specs.declared.caller.By.{By}
use Rattle.aft_model.specs.declared.node.NodeAct.TheVariants as acts
use Rattle.aft_model.specs.declared.reply.Reply.{Reply}
use Rattle.aft_model.specs.declared.reply.Reply.TheVariants as replies
use Rattle.aft_model.specs.Attempts.{Row, attempts, is_opening, rows, uuid_of}
use Rattle.aft_model.specs.NodeState.{Service, newest, part, service}
use Rattle.aft_txn.specs.Rows.{row_of_uuid}
use Rattle.aft_txn.specs.declared.state.State.{State}
use Rattle.aft_txn.specs.declared.state.State.TheVariants as states
use Rattle.aft_ledger.specs.View.{NodeView, after_entry}
use Rattle.aft_node.specs.Outcomes.{caller, down_reply}
use Rattle.aft_node.specs.declared.goes.AdmitGo.{AdmitGo}
use Rattle.aft_node.specs.declared.goes.AdmitGo.TheVariants as admits

-- the attempt of a UUID that is there, as its row
abbrev pub found_row : List ℕ → NodeView → Option Row
found_row uuid node = row_of_uuid uuid (rows (part node.history))

-- why a begin is refused in a service: an attempt of the UUID is there, and opens, or is joined
abbrev pub begin_refusal_by : ℕ → ℕ → List ℕ → Option Row → Option Reply
begin_refusal_by node inc uuid None = None
begin_refusal_by node inc uuid (Some row) = Some (if is_opening row.state then replies.Busy node inc else replies.Joined uuid)

-- why a forget is refused in a service: an attempt of the UUID is there
abbrev pub forget_refusal_by : ℕ → ℕ → List ℕ → Option Row → Option Reply
forget_refusal_by node inc uuid row = if is_some row then Some (replies.Busy node inc) else None

-- why an attempt isn't admitted: no incarnation serves, or what the service says
abbrev pub admit_refusal : (ℕ → ℕ → List ℕ → Option Row → Option Reply) → List ℕ → NodeView → Option Service → Option Reply
admit_refusal why uuid node None = Some (down_reply node (newest node.history))
admit_refusal why uuid node (Some serving) = why node.number serving.inc uuid (found_row uuid node)

-- the incarnation that serves, or else 0
abbrev pub serving_inc : Option Service → ℕ
serving_inc None = 0
serving_inc (Some serving) = serving.inc

-- the attempt of a row
abbrev pub attempt_of : NodeView → Row → Attempt
attempt_of node row = record { node = node.number; inc = serving_inc (service node.history); number = row.number }

-- the attempt that is admitted next
abbrev pub next_attempt : NodeView → Attempt
next_attempt node = record { node = node.number; inc = serving_inc (service node.history); number = length (attempts (part node.history)) + 1 }

-- where a begin that is refused leads: the client takes part in an attempt that it joined
abbrev pub joined_go : NodeView → Option Row → AdmitGo
joined_go node None = admits.Answered
joined_go node (Some row) = if is_opening row.state then admits.Answered else admits.Joined (attempt_of node row)

abbrev pub refused_go : List ℕ → NodeView → Option Service → AdmitGo
refused_go uuid node None = admits.Answered
refused_go uuid node (Some serving) = joined_go node (found_row uuid node)

-- an attempt of a UUID is admitted
abbrev pub admitted_done : ℕ → By → List ℕ → NodeView → NodeView
admitted_done handed by uuid node = after_entry handed by (acts.Admit (next_attempt node) uuid) None node

abbrev pub admitted_go : By → NodeView → AdmitGo
admitted_go by node = admits.Go (caller node.number (serving_inc (service node.history)) by) (next_attempt node)

-- an attempt that opens runs
abbrev pub begun : ℕ → By → Attempt → NodeView → NodeView
begun handed by a node = after_entry handed by (acts.Begin a) (Some (replies.Begun (uuid_of a (part node.history)))) node

-- what is answered where an attempt in a state of the table is there
abbrev pub join_reply : ℕ → ℕ → List ℕ → State → Reply
join_reply node inc uuid states.Opening = replies.Busy node inc
join_reply node inc uuid state = replies.Joined uuid

-- where that leads
abbrev pub join_go : ℕ → ℕ → ℕ → State → AdmitGo
join_go node inc number states.Opening = admits.Answered
join_go node inc number state = admits.Joined (record { node = node; inc = inc; number = number })
