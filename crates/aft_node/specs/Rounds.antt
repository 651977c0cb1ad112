-- What the turns of learning, dropping, giving up and announcing do.
use Rattle.std.specs.Prelude.{Bool, None, Option, Some, if◌then◌else◌, is_some, length, not, ℕ, ◌&&◌}
use Rattle.aft_records.specs.declared.stored.Commit.{Commit}
use Rattle.aft_records.specs.Superseded.{is_superseded}
use Rattle.aft_model.specs.declared.caller.By.{By}
use Rattle.aft_model.specs.declared.node.NodeAct.TheVariants as acts
use Rattle.aft_model.specs.declared.reply.Reply.{Reply}
use Rattle.aft_model.specs.declared.reply.Reply.TheVariants as replies
use Rattle.aft_model.specs.Known.{holds_id, known}
use Rattle.aft_model.specs.NodeState.{in_service, newest, service}
use Rattle.aft_ledger.specs.Knowing.{dropped_ids, kept_apart, pruned_away}
use Rattle.aft_ledger.specs.View.{NodeView, after_entry}
use Rattle.aft_node.specs.Outcomes.{down_reply}
use Rattle.aft_node.specs.declared.goes.AnnounceGo.{AnnounceGo}
use Rattle.aft_node.specs.declared.goes.AnnounceGo.TheVariants as announces

-- why a turn of a node that doesn't serve is refused
abbrev pub serving_refusal : NodeView → Option Reply
serving_refusal node = if is_some (service node.history) then None else Some (down_reply node (newest node.history))

-- the commits that are superseded and that no attempt has read are dropped
abbrev pub drop_done : ℕ → By → NodeView → NodeView
drop_done handed by node = after_entry handed by (acts.Drop (dropped_ids node.history)) (Some (replies.Dropped (length (dropped_ids node.history)))) node

-- whether a node gives up a commit: it serves, knows others that supersede it, and neither knows it nor has an attempt that commits it or is in doubt about it
abbrev pub gives_up : Commit → NodeView → Bool
gives_up c node = is_some (service node.history) && not (in_service (holds_id c.id) (service node.history)) && is_superseded c (known node.history)

-- a commit is given up
abbrev pub given_up : ℕ → By → Commit → NodeView → NodeView
given_up handed by c node = after_entry handed by (acts.GiveUp c.id) None node

-- the stored commits are taken to be announced
abbrev pub announce_done : ℕ → By → NodeView → NodeView
announce_done handed by node = after_entry handed by (acts.Announce (kept_apart node.history) (pruned_away node.history)) None node

abbrev pub announce_go : NodeView → AnnounceGo
announce_go node = announces.Go (kept_apart node.history) (pruned_away node.history)
