-- What the turns of puts and gets do.
use Rattle.std.specs.Prelude.{Bool, IsTrue, List, None, Option, Some, if◌then◌else◌, ℕ, ◌≡◌}
use Rattle.aft_id.specs.declared.txn_id.TxnId.{TxnId}
use Rattle.aft_model.specs.declared.caller.Attempt.{Attempt}
use Rattle.aft_model.specs.declared.caller.By.{By}
use Rattle.aft_model.specs.declared.choice.Picked.{Picked}
use Rattle.aft_model.specs.declared.choice.Picked.TheVariants as picked
use Rattle.aft_model.specs.declared.node.NodeAct.TheVariants as acts
use Rattle.aft_model.specs.declared.reply.Reply.TheVariants as replies
use Rattle.aft_model.specs.NodeRules.{is_fetch_refusal}
use Rattle.aft_ledger.specs.Turns.{answer_of, may_put, picks}
use Rattle.aft_ledger.specs.View.{NodeView, after_entry, answered}
use Rattle.aft_node.specs.Outcomes.{caller}
use Rattle.aft_node.specs.declared.goes.Got.{Got}
use Rattle.aft_node.specs.declared.goes.Got.TheVariants as gots
use Rattle.aft_node.specs.declared.goes.SelectGo.{SelectGo}
use Rattle.aft_node.specs.declared.goes.SelectGo.TheVariants as selects

-- a put of an attempt that runs
abbrev pub put_done : ℕ → By → List ℕ → List ℕ → Option Attempt → NodeView → NodeView
put_done handed by key value None node = node
put_done handed by key value (Some a) node =
    if may_put a key node.history then after_entry handed by (acts.Put a key value) (Some replies.Stored) node
    else answered handed by replies.TooManyKeys node

-- a get of an attempt that runs, with what it picks
abbrev pub picked_done : ℕ → By → List ℕ → Attempt → Option Picked → NodeView → NodeView
picked_done handed by key a None node = node
picked_done handed by key a (Some pick) node = after_entry handed by (acts.Select a key pick) (answer_of pick) node

abbrev pub select_done : ℕ → By → List ℕ → Option Attempt → NodeView → NodeView
select_done handed by key None node = node
select_done handed by key (Some a) node = picked_done handed by key a (picks node a key) node

-- where a pick leads: a version that isn't kept is fetched
abbrev pub go_of : ℕ → By → Attempt → Option Picked → SelectGo
go_of number by a (Some (picked.Fetch id)) = selects.Fetch (caller number a.inc by) id
go_of number by a pick = selects.Answered

abbrev pub select_go : By → List ℕ → Option Attempt → NodeView → SelectGo
select_go by key None node = selects.Answered
select_go by key (Some a) node = go_of node.number by a (picks node a key)

-- a fetch may end so: a refusal is one of those of fetches
abbrev pub MayCome : TxnId → Got → Type 0
MayCome id (gots.Version value) = (value ≡ value)
MayCome id (gots.Refused reply) = IsTrue (is_fetch_refusal id (Some reply))

-- the end of a fetch that is still open: the value came, and is kept or not, or none came
abbrev pub Came : ℕ → By → Attempt → List ℕ → TxnId → ℕ → Got → NodeView → NodeView → Type 0
Came handed by a key id place (gots.Version value) old new =
    (kept : Bool) × (new ≡ after_entry handed by (acts.Value a key id place kept) (Some (replies.Value id value)) old)
Came handed by a key id place (gots.Refused reply) old new = new ≡ after_entry handed by (acts.Lost a key id) (Some reply) old
