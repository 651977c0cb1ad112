-- Which histories a node may have, as far as this is said of the history alone.
use Rattle.std.specs.Prelude.{Bool, IsTrue, List, Option, [], false, length, nat_le, nat_lt, not, ℕ, ◌&&◌, ◌||◌}
use Rattle.std.specs.List.{fold}
use Rattle.aft_model.specs.declared.node.NodeAct.{NodeAct}
use Rattle.aft_model.specs.declared.node.NodeEntry.{NodeEntry}
use Rattle.aft_model.specs.declared.reply.Reply.{Reply}
use Rattle.aft_model.specs.Attempts.{attempt_state, is_committing, is_in_doubt, is_opening, is_running, open_reads}
use Rattle.aft_model.specs.History.{each_after}
use Rattle.aft_model.specs.Known.{droppable, holds_id}
use Rattle.aft_model.specs.NodeRules.{answers_pick, are_ids_of, counts, is_begin_refusal, is_begun, is_boot_refusal, is_doubt, is_end, is_fetch_refusal, is_learned, is_own_end, is_storing, is_value_of, may_admit, may_announce, may_answer_alone, may_begin_boot, may_leave, may_put_key, may_start, pick, same_picked}
use Rattle.aft_model.specs.NodeState.{Service, boots, in_service, newest, node_state, part, serves, service}
use Rattle.aft_model.specs.Replies.{is_answer, is_silent}
use Rattle.aft_model.specs.declared.node.NodeAct.TheVariants as acts
use Rattle.aft_model.specs.declared.reply.Reply.TheVariants as replies

-- whether an act and its answer may come in a service of a node that keeps so many values
abbrev pub may_serve : ℕ → ℕ → NodeAct → Option Reply → Service → Bool
may_serve node capacity (acts.Admit a uuid) answer serving = may_admit node serving a uuid && is_silent answer
may_serve node capacity (acts.Begin a) answer serving = is_opening (attempt_state a serving.part) && is_begun serving a answer
may_serve node capacity (acts.Unadmit a) answer serving = is_opening (attempt_state a serving.part) && is_begin_refusal answer
may_serve node capacity (acts.Put a key value) answer serving = is_running (attempt_state a serving.part) && may_put_key serving a key && is_answer replies.Stored answer
may_serve node capacity (acts.Select a key picked) answer serving = is_running (attempt_state a serving.part) && same_picked (pick capacity serving a key) picked && answers_pick picked answer
may_serve node capacity (acts.Value a key id place kept) answer serving = nat_lt 0 (open_reads a serving.part) && is_value_of id answer
may_serve node capacity (acts.Lost a key id) answer serving = nat_lt 0 (open_reads a serving.part) && is_fetch_refusal id answer
may_serve node capacity (acts.Start a now c) answer serving = may_start serving a now c && is_silent answer
may_serve node capacity (acts.Settle a) answer serving = is_in_doubt (attempt_state a serving.part) && is_silent answer
may_serve node capacity (acts.Leave a) answer serving = may_leave serving a && is_silent answer
may_serve node capacity (acts.Stored a c) answer serving = is_storing c (attempt_state a serving.part) && is_silent answer
may_serve node capacity (acts.Doubt a) answer serving = is_committing (attempt_state a serving.part) && is_doubt answer
may_serve node capacity (acts.End a) answer serving = is_end (attempt_state a serving.part) answer
may_serve node capacity (acts.Learn commits) answer serving = is_learned (counts serving commits) answer
may_serve node capacity (acts.Drop ids) answer serving = are_ids_of (droppable serving) ids && is_answer (replies.Dropped (length ids)) answer
may_serve node capacity (acts.GiveUp id) answer serving = not (holds_id id serving) && is_silent answer
may_serve node capacity (acts.Announce kept pruned) answer serving = may_announce serving kept pruned && is_silent answer
may_serve node capacity acts.Nothing answer serving = may_answer_alone answer
may_serve node capacity act answer serving = false

-- whether an act and its answer may come after a node's history: a boot, an end of a service, an answer alone, or else by the rules of a service
abbrev pub may_be_done : ℕ → ℕ → List NodeEntry → NodeAct → Option Reply → Bool
may_be_done node capacity history acts.Nothing answer = may_answer_alone answer
may_be_done node capacity history (acts.Booting inc) answer = may_begin_boot inc (newest history) (node_state history) && is_silent answer
may_be_done node capacity history (acts.Boot inc commits) answer = boots inc (node_state history) && is_answer (replies.Started node inc) answer
may_be_done node capacity history (acts.BootStopped inc) answer = boots inc (node_state history) && is_boot_refusal answer
may_be_done node capacity history (acts.Down inc) answer = (boots inc (node_state history) || serves inc (node_state history)) && is_answer (replies.Crashed node inc) answer
may_be_done node capacity history act answer = in_service (may_serve node capacity act answer) (service history)

-- the front that a history has seen, or 0
abbrev pub front : List NodeEntry → ℕ
front history = fold (λ before entry. entry.front) 0 history

-- whether an entry may follow a node's history: it has seen no less of the door's than the one before, comes by its rule, and where it ends a commit, its line has stored that
abbrev pub may_follow_at : ℕ → ℕ → List NodeEntry → NodeEntry → Bool
may_follow_at node capacity history entry =
    nat_le (front history) entry.front
    && may_be_done node capacity history entry.act entry.answer
    && is_own_end (part history) entry.by entry.act entry.answer

-- whether each entry of a node's history may follow those before it
abbrev pub is_legal_node : ℕ → ℕ → List NodeEntry → Bool
is_legal_node node capacity history = each_after (may_follow_at node capacity) [] history

-- a history that this node, keeping so many values, may have
abbrev pub LegalNode : ℕ → ℕ → List NodeEntry → Type 0
LegalNode node capacity history = IsTrue (is_legal_node node capacity history)
