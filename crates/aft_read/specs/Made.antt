-- Which turns a get has made, by how far it has come.
use Rattle.std.specs.Prelude.{Bool, IsTrue, List, None, Option, Some, [], false, is_some, option_map, ℕ, ◌++◌, ◌||◌, ◌≡◌, ◌⊎◌, ◌∷◌}
use Rattle.std.specs.Option.{ForSome}
use Rattle.aft_id.specs.declared.txn_id.TxnId.{TxnId}
use Rattle.aft_keeper.specs.declared.keeper.KeeperAnswer.{KeeperAnswer}
use Rattle.aft_model.specs.declared.caller.Attempt.{Attempt}
use Rattle.aft_model.specs.declared.caller.By.{By}
use Rattle.aft_model.specs.declared.caller.Hold.{Hold}
use Rattle.aft_model.specs.declared.choice.Picked.{Picked}
use Rattle.aft_model.specs.declared.choice.Picked.TheVariants.{Fetch}
use Rattle.aft_model.specs.declared.door.DoorEntry.{DoorEntry}
use Rattle.aft_model.specs.declared.node.NodeAct.{NodeAct}
use Rattle.aft_model.specs.declared.node.NodeAct.TheVariants as acts
use Rattle.aft_model.specs.declared.node.NodeEntry.{NodeEntry}
use Rattle.aft_model.specs.declared.reply.Reply.{Reply}
use Rattle.aft_model.specs.declared.reply.Reply.TheVariants as replies
use Rattle.aft_model.specs.Attempts.{is_running}
use Rattle.aft_model.specs.Membership.{incarnation, is_up}
use Rattle.aft_model.specs.NodeRules.{pick}
use Rattle.aft_model.specs.NodeSights.{is_fenced}
use Rattle.aft_model.specs.NodeState.{node_state, service}
use Rattle.aft_ledger.specs.Turns.{answer_of, is_doing, is_fetching}
use Rattle.aft_lines.specs.LineView.{has_left}
use Rattle.aft_lines.specs.Turns.{AtDoor, AtNode, Turn}
use Rattle.aft_node.specs.Closing.{MayClose, opens_fetch}
use Rattle.aft_node.specs.declared.goes.Got.{Got}
use Rattle.aft_node.specs.declared.goes.Got.TheVariants.{Refused, Version}
use Rattle.aft_node.specs.Held.{get_refusal}
use Rattle.aft_read.specs.Fetched.{Answers, AreWords, fetch_act, no_memory, tells_fault}
use Rattle.aft_read.specs.View.{ReadView}
use Rattle.aft_read.specs.declared.stage.Stage.{Stage}
use Rattle.aft_read.specs.declared.stage.Stage.TheVariants.{Begins, Comes, Ended, Fetches}
use Rattle.aft_turns.specs.Trail.{Trail, no_trail}

-- ---- what a step asks

-- at the node, the end of a fetch: the last entry of the line there picked the version
abbrev pub may_close_at : By → Stage → List NodeEntry → Type 0
may_close_at by (Comes a key id got place) history = MayClose (opens_fetch a key id) by history
may_close_at by stage history = Unit

abbrev pub may_close : ReadView → List NodeEntry → Type 0
may_close read history = may_close_at read.by read.stage history

-- the fetch is still open, or the node has left the attempt's incarnation. A get can't know this by itself; it is so in each run so far
abbrev pub may_end_at : Stage → List NodeEntry → Type 0
may_end_at (Comes a key id got place) history = IsTrue (has_left a.inc (node_state history) || is_fetching a history)
may_end_at stage history = Unit

abbrev pub MayEnd : ReadView → List NodeEntry → Type 0
MayEnd read history = may_end_at read.stage history

-- the attempt's incarnation has come up at the door, so that it is up or was fenced. This too is so in each run so far
abbrev pub has_come_up_at : Stage → List DoorEntry → Type 0
has_come_up_at (Fetches a key id) history = IsTrue (is_up (incarnation a.node a.inc) history || is_fenced (incarnation a.node a.inc) history)
has_come_up_at stage history = Unit

abbrev pub HasComeUp : ReadView → List DoorEntry → Type 0
HasComeUp read history = has_come_up_at read.stage history

-- ---- what was made

-- a turn of the line at its node
abbrev pub turn_at : By → Hold → List NodeEntry → ℕ → NodeAct → Option Reply → Turn
turn_at by hold before front act answer = AtNode hold.node before (record { front = front; by = by; act = act; answer = answer })

-- what an attempt picks for a key, where the node serves
abbrev pub picks_in : ℕ → Attempt → List ℕ → List NodeEntry → Option Picked
picks_in capacity a key history = option_map (λ s. pick capacity s a key) (service history)

-- the attempt that is held runs, and picks this
pub record Picks (capacity : ℕ) (hold : Hold) (key : List ℕ) (a : Attempt) (picked : Picked) (before : List NodeEntry) : Type 0 where
  pub held : hold.attempt ≡ Some a
  pub place : a.node ≡ hold.node
  pub running : IsTrue (is_doing is_running a before)
  pub pick : picks_in capacity a key before ≡ Some picked

-- why a get is refused at a node of this history
abbrev pub refusal_at : Hold → List NodeEntry → Option Reply
refusal_at hold before = get_refusal hold.attempt (record { number = hold.node; capacity = 0; history = before; front = 0; room = 0 })

-- a get whose first turn answered: it was refused, or picked what needs no fetch, or memory was wanting
abbrev pub AnswersAtOnce : ℕ → Hold → List ℕ → List NodeEntry → NodeAct → Option Reply → Type 0
AnswersAtOnce capacity hold key before act answer =
    ((act ≡ acts.Nothing) × (answer ≡ Some replies.NoMemory))
    ⊎ ((act ≡ acts.Nothing) × IsTrue (is_some answer) × (answer ≡ refusal_at hold before) × ForSome hold.attempt (λ a. a.node ≡ hold.node))
    ⊎ ((a : Attempt) × (picked : Picked) × Picks capacity hold key a picked before × IsTrue (is_some answer) × (act ≡ acts.Select a key picked) × (answer ≡ answer_of picked))

pub record EndedAtOnce (capacity : ℕ) (by : By) (hold : Hold) (key : List ℕ) (trail : Trail) : Type 0 where
  pub before : List NodeEntry
  pub front : ℕ
  pub act : NodeAct
  pub answer : Option Reply
  pub turns : trail.turns ≡ turn_at by hold before front act answer ∷ []
  pub answers : AnswersAtOnce capacity hold key before act answer

-- a get that has picked a version to fetch
pub record HasPicked (capacity : ℕ) (by : By) (hold : Hold) (key : List ℕ) (a : Attempt) (id : TxnId) (first : Turn) : Type 0 where
  pub before : List NodeEntry
  pub front : ℕ
  pub picks : Picks capacity hold key a (Fetch id) before
  pub turn : first ≡ turn_at by hold before front (acts.Select a key (Fetch id)) None

-- a fetch was refused: the look showed the attempt's incarnation fenced, or memory was wanting
abbrev pub IsRefused : Attempt → List DoorEntry → Got → Type 0
IsRefused a look got = ((got ≡ Refused (replies.NodeDown a.node a.inc)) × IsTrue (is_fenced (incarnation a.node a.inc) look)) ⊎ (got ≡ no_memory)

-- what came of a fetch, by the turns behind the pick: it was refused, or the store was asked
abbrev pub Fetched : Attempt → List ℕ → TxnId → Got → ℕ → List DoorEntry → List Turn → Type 0
Fetched a key id got place look turns =
    ((turns ≡ []) × IsRefused a look got)
    ⊎ ((answer : KeeperAnswer) × AreWords key id answer × (turns ≡ AtDoor place (fetch_act a key id answer) ∷ []) × (Answers key id answer got ⊎ (got ≡ no_memory)))

-- a fetch that has come back
pub record CameBack (capacity : ℕ) (by : By) (hold : Hold) (key : List ℕ) (a : Attempt) (id : TxnId) (got : Got) (place : ℕ) (trail : Trail) : Type 0 where
  pub first : Turn
  pub more : List Turn
  pub picked : HasPicked capacity by hold key a id first
  pub turns : trail.turns ≡ first ∷ more
  pub fetched : Fetched a key id got place trail.look more

-- what the last turn does and answers of what came
abbrev pub TellsOf : Attempt → List ℕ → TxnId → ℕ → Got → NodeAct → Option Reply → Type 0
TellsOf a key id place (Version value) act answer = (kept : Bool) × (act ≡ acts.Value a key id place kept) × (answer ≡ Some (replies.Value id value))
TellsOf a key id place (Refused reply) act answer = (act ≡ acts.Lost a key id) × (answer ≡ Some reply)

-- the last turn of a fetch: what came is told; or the node has left the incarnation, and that is
abbrev pub Closes : Attempt → List ℕ → TxnId → ℕ → Got → List NodeEntry → NodeAct → Option Reply → Type 0
Closes a key id place got before act answer =
    TellsOf a key id place got act answer
    ⊎ (IsTrue (has_left a.inc (node_state before)) × (act ≡ acts.Nothing) × (answer ≡ Some (replies.NodeDown a.node a.inc)))

-- a get that ended with its fetch
pub record EndedFetch (capacity : ℕ) (by : By) (hold : Hold) (key : List ℕ) (trail : Trail) : Type 0 where
  pub attempt : Attempt
  pub id : TxnId
  pub got : Got
  pub place : ℕ
  pub since : Trail
  pub before : List NodeEntry
  pub front : ℕ
  pub act : NodeAct
  pub answer : Option Reply
  pub came : CameBack capacity by hold key attempt id got place since
  pub turns : trail.turns ≡ since.turns ++ turn_at by hold before front act answer ∷ []
  pub look : trail.look ≡ since.look
  pub closes : Closes attempt key id place got before act answer

-- the one turn of a get that fetches
pub record HasBegun (capacity : ℕ) (by : By) (hold : Hold) (key : List ℕ) (a : Attempt) (id : TxnId) (trail : Trail) : Type 0 where
  pub first : Turn
  pub picked : HasPicked capacity by hold key a id first
  pub turns : trail.turns ≡ first ∷ []

-- what a get has made by a stage
abbrev pub made_at : ℕ → By → Hold → List ℕ → Stage → Trail → Type 0
made_at capacity by hold asked (Begins key) trail = (key ≡ asked) × (trail ≡ no_trail)
made_at capacity by hold asked (Fetches a key id) trail = (key ≡ asked) × HasBegun capacity by hold asked a id trail
made_at capacity by hold asked (Comes a key id got place) trail = (key ≡ asked) × CameBack capacity by hold asked a id got place trail
made_at capacity by hold asked Ended trail = EndedAtOnce capacity by hold asked trail ⊎ EndedFetch capacity by hold asked trail

-- a get over nodes that keep so many values has made these turns
abbrev pub Made : ℕ → ReadView → Trail → Type 0
Made capacity read trail = made_at capacity read.by read.hold read.key read.stage trail

-- whether it is to tell that the store failed
abbrev pub told_fault_at : Stage → Bool
told_fault_at (Comes a key id got place) = tells_fault got
told_fault_at stage = false

abbrev pub told_fault : ReadView → Bool
told_fault read = told_fault_at read.stage
