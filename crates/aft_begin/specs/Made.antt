-- Which turns a line that claims a UUID has made, by how far it has come.
use Rattle.std.specs.Prelude.{Bool, IsTrue, false, List, None, Option, Some, [], ℕ, ◌&&◌, ◌++◌, ◌||◌, ◌≡◌, ◌⊎◌, ◌∷◌, not}
use Rattle.std.specs.Str.{bytes_eq}
use Rattle.aft_keeper.specs.declared.keeper.KeeperAnswer.TheVariants.{Absent, Found}
use Rattle.aft_model.specs.declared.caller.Attempt.{Attempt}
use Rattle.aft_model.specs.declared.caller.By.{By}
use Rattle.aft_model.specs.declared.door.DoorEntry.{DoorEntry}
use Rattle.aft_model.specs.declared.node.NodeAct.{NodeAct}
use Rattle.aft_model.specs.declared.node.NodeAct.TheVariants as acts
use Rattle.aft_model.specs.declared.node.NodeEntry.{NodeEntry}
use Rattle.aft_model.specs.declared.reply.Reply.{Reply}
use Rattle.aft_model.specs.declared.reply.Reply.TheVariants as replies
use Rattle.aft_model.specs.Attempts.{is_opening, uuid_of}
use Rattle.aft_model.specs.Claims.{holds}
use Rattle.aft_model.specs.DoorKnowledge.{knows_short_of}
use Rattle.aft_model.specs.LegalNode.{LegalNode}
use Rattle.aft_model.specs.Membership.{is_up}
use Rattle.aft_model.specs.NodeRules.{is_begin_refusal}
use Rattle.aft_model.specs.NodeSights.{is_fenced}
use Rattle.aft_model.specs.NodeState.{node_state, part, serves, service}
use Rattle.aft_ledger.specs.Turns.{is_doing}
use Rattle.aft_ledger.specs.View.{NodeView}
use Rattle.aft_lines.specs.CourseWords.{caller_of}
use Rattle.aft_lines.specs.LineView.{has_left}
use Rattle.aft_lines.specs.Turns.{AtNode, Turn}
use Rattle.aft_node.specs.Beginning.{admit_refusal, begin_refusal_by, forget_refusal_by, refused_go}
use Rattle.aft_node.specs.Closing.{MayClose, opens_begin}
use Rattle.aft_node.specs.declared.goes.AdmitGo.{AdmitGo}
use Rattle.aft_node.specs.declared.goes.AdmitGo.TheVariants as goes
use Rattle.aft_begin.specs.declared.aim.Aim.{Aim}
use Rattle.aft_begin.specs.declared.aim.Aim.TheVariants as aims
use Rattle.aft_begin.specs.declared.sought.Sought.TheVariants.{Marker, Record}
use Rattle.aft_begin.specs.declared.stage.Stage.{Stage}
use Rattle.aft_begin.specs.declared.stage.Stage.TheVariants.{Begins, Claims, Ended, Forgets, GivesUp, LetsGo, Runs, Seeks}
use Rattle.aft_begin.specs.Calls.{tells_fault}
use Rattle.aft_begin.specs.Seen.{AreWords}
use Rattle.aft_begin.specs.View.{ClaimView}
use Rattle.aft_begin.specs.Way.{Claimed, FitsWay, IsUnused, LookedForMarker, LookedForRecord, MayTell, MustLetGo, ShowsShort, Unclaimed, Way, release_turns, way_turns}
use Rattle.aft_turns.specs.Steps.{FrontsWithin}
use Rattle.aft_turns.specs.Trail.{Trail, no_trail}

-- ---- what a step asks

-- at the node, the end of the line: the last entry of the line there admitted the attempt
abbrev pub may_close_at : By → Stage → List NodeEntry → Type 0
may_close_at by (Runs a) history = MayClose (opens_begin a) by history
may_close_at by (GivesUp a reply) history = MayClose (opens_begin a) by history
may_close_at by stage history = Unit {0}

abbrev pub may_close : ClaimView → List NodeEntry → Type 0
may_close line history = may_close_at line.by line.stage history

-- the attempt still opens, and is of the UUID, or the node has left its incarnation. A line can't know this by itself; it is so in each run so far
abbrev pub may_end_at : List ℕ → Stage → List NodeEntry → Type 0
may_end_at uuid (Runs a) history = IsTrue (has_left a.inc (node_state history) || is_doing is_opening a history && bytes_eq (uuid_of a (part history)) uuid)
may_end_at uuid (GivesUp a reply) history = IsTrue (has_left a.inc (node_state history) || is_doing is_opening a history)
may_end_at uuid stage history = Unit {0}

abbrev pub MayEnd : ClaimView → List NodeEntry → Type 0
MayEnd line history = may_end_at line.uuid line.stage history

-- at the door, where the attempt's incarnation wasn't fenced: it is up; it doesn't hold the UUID before its claim; and it holds it before its delete and its release. This too is so in each run so far
abbrev pub may_call_at : List ℕ → Stage → List DoorEntry → Type 0
may_call_at uuid (Claims a) history = IsTrue (is_fenced (caller_of a) history || is_up (caller_of a) history && not (holds (caller_of a) uuid history))
may_call_at uuid (Seeks a sought) history = IsTrue (is_fenced (caller_of a) history || is_up (caller_of a) history)
may_call_at uuid (Forgets a id) history = IsTrue (is_fenced (caller_of a) history || is_up (caller_of a) history && holds (caller_of a) uuid history)
may_call_at uuid (LetsGo a reply) history = IsTrue (is_fenced (caller_of a) history || is_up (caller_of a) history && holds (caller_of a) uuid history)
may_call_at uuid stage history = Unit {0}

abbrev pub MayCall : ClaimView → List DoorEntry → Type 0
MayCall line history = may_call_at line.uuid line.stage history

-- where it deletes, what the door asks: that its incarnation has found this short marker, behind its claim. Whoever has seen the line's own entries knows it, and it stays so
abbrev pub knows_at : Stage → List DoorEntry → Type 0
knows_at (Forgets a id) history = IsTrue (knows_short_of (caller_of a) id history)
knows_at stage history = Unit {0}

abbrev pub Knows : ClaimView → List DoorEntry → Type 0
Knows line history = knows_at line.stage history

-- ---- what was made

-- a turn of the line at its node
abbrev pub turn_at : By → ℕ → List NodeEntry → ℕ → NodeAct → Option Reply → Turn
turn_at by node before front act answer = AtNode node before (record { front = front; by = by; act = act; answer = answer })

-- a node of this number and history
abbrev pub node_of : ℕ → List NodeEntry → NodeView
node_of node before = record { number = node; capacity = 0; history = before; front = 0; room = 0 }

-- the attempt that a begin which answered at once gives
abbrev pub given_by : AdmitGo → Option Attempt
given_by (goes.Joined a) = Some a
given_by go = None

-- a begin was refused so, and gives this attempt; or memory was wanting. A forget gives none
abbrev pub AnswersAtOnce : Aim → ℕ → List ℕ → List NodeEntry → Reply → Option Attempt → Type 0
AnswersAtOnce aims.Begin node uuid before reply given =
    ((reply ≡ replies.NoMemory) × (given ≡ None))
    ⊎ ((admit_refusal begin_refusal_by uuid (node_of node before) (service before) ≡ Some reply) × (given ≡ given_by (refused_go uuid (node_of node before) (service before))))
AnswersAtOnce aims.Forget node uuid before reply given =
    ((reply ≡ replies.NoMemory) ⊎ (admit_refusal forget_refusal_by uuid (node_of node before) (service before) ≡ Some reply)) × (given ≡ None)

-- a line whose first turn answered, and gave this attempt
pub record EndedAtOnce (aim : Aim) (by : By) (node : ℕ) (uuid : List ℕ) (given : Option Attempt) (trail : Trail) : Type 0 where
  pub capacity : ℕ
  pub before : List NodeEntry
  pub front : ℕ
  pub reply : Reply
  pub legal : LegalNode node capacity before
  pub turns : trail.turns ≡ turn_at by node before front acts.Nothing (Some reply) ∷ []
  pub answers : AnswersAtOnce aim node uuid before reply given

-- a node admits an attempt: it is its own, of the incarnation that it serves
pub record Admits (node : ℕ) (a : Attempt) (before : List NodeEntry) : Type 0 where
  pub capacity : ℕ
  pub legal : LegalNode node capacity before
  pub place : a.node ≡ node
  pub serving : IsTrue (serves a.inc (node_state before))

-- the turns of a line whose attempt was admitted, and which came so far at the door
abbrev pub begun_turns : By → ℕ → List ℕ → Attempt → List NodeEntry → ℕ → Way → Option ℕ → List Turn
begun_turns by node uuid a before front way release = turn_at by node before front (acts.Admit a uuid) None ∷ way_turns a uuid way ++ release_turns a uuid release

-- a line that has come so far
pub record HasCome (aim : Aim) (by : By) (node : ℕ) (uuid : List ℕ) (a : Attempt) (front : ℕ) (way : Way) (release : Option ℕ) (trail : Trail) : Type 0 where
  pub before : List NodeEntry
  pub admits : Admits node a before
  pub fits : FitsWay aim uuid way
  pub turns : trail.turns ≡ begun_turns by node uuid a before front way release

-- how it may end: the attempt runs, is taken away with an answer, or is no more since the node has left its incarnation
pub data Closing : Type 0 where
  IsBegun : Closing
  IsGivenBack : Reply → Closing
  IsDown : Closing

abbrev pub closing_act : Attempt → Closing → NodeAct
closing_act a IsBegun = acts.Begin a
closing_act a (IsGivenBack reply) = acts.Unadmit a
closing_act a IsDown = acts.Nothing

abbrev pub closing_reply : Attempt → List ℕ → Closing → Reply
closing_reply a uuid IsBegun = replies.Begun uuid
closing_reply a uuid (IsGivenBack reply) = reply
closing_reply a uuid IsDown = replies.NodeDown a.node a.inc

-- the attempt that it gives
abbrev pub closing_gives : Attempt → Closing → Option Attempt
closing_gives a IsBegun = Some a
closing_gives a closing = None

-- what is to be answered, if its attempt may not run
abbrev pub IsToEnd : Aim → ℕ → Attempt → List ℕ → List DoorEntry → Way → Option ℕ → Option Reply → Type 0
IsToEnd aim front a uuid look way release None = IsUnused aim way release
IsToEnd aim front a uuid look way release (Some reply) = MayTell aim front a uuid look way release reply

-- it ends so rightly
abbrev pub Closes : Aim → ℕ → Attempt → List ℕ → List DoorEntry → Way → Option ℕ → List NodeEntry → Closing → Type 0
Closes aim front a uuid look way release before IsBegun = IsUnused aim way release × (uuid_of a (part before) ≡ uuid)
Closes aim front a uuid look way release before (IsGivenBack reply) = IsTrue (is_begin_refusal (Some reply)) × MayTell aim front a uuid look way release reply
Closes aim front a uuid look way release before IsDown = IsTrue (has_left a.inc (node_state before)) × (reply : Option Reply) × IsToEnd aim front a uuid look way release reply

-- a line that ended behind its first turn, and gave this attempt
pub record EndedLater (aim : Aim) (by : By) (node : ℕ) (uuid : List ℕ) (given : Option Attempt) (trail : Trail) : Type 0 where
  pub attempt : Attempt
  pub front : ℕ
  pub way : Way
  pub release : Option ℕ
  pub since : Trail
  pub come : HasCome aim by node uuid attempt front way release since
  pub last_before : List NodeEntry
  pub last_front : ℕ
  pub closing : Closing
  pub turns : trail.turns ≡ since.turns ++ turn_at by node last_before last_front (closing_act attempt closing) (Some (closing_reply attempt uuid closing)) ∷ []
  pub look : trail.look ≡ since.look
  pub closes : Closes aim front attempt uuid since.look way release last_before closing
  pub gives : given ≡ closing_gives attempt closing

-- what a line has made by a stage
abbrev pub made_at : Aim → By → ℕ → List ℕ → Stage → Trail → Type 0
made_at aim by node uuid Begins trail = trail ≡ no_trail
made_at aim by node uuid (Claims a) trail = (front : ℕ) × HasCome aim by node uuid a front Unclaimed None trail
made_at aim by node uuid (Seeks a Record) trail = (front : ℕ) × (p : ℕ) × HasCome aim by node uuid a front (Claimed p) None trail
made_at aim by node uuid (Seeks a Marker) trail = (front : ℕ) × (p : ℕ) × (q : ℕ) × HasCome aim by node uuid a front (LookedForRecord p q Absent) None trail
made_at aim by node uuid (Runs a) trail = (front : ℕ) × (p : ℕ) × (q : ℕ) × (r : ℕ) × HasCome aim by node uuid a front (LookedForMarker p q r Absent) None trail × (aim ≡ aims.Begin)
made_at aim by node uuid (Forgets a id) trail = (front : ℕ) × (p : ℕ) × (q : ℕ) × (r : ℕ) × (bytes : List ℕ) × HasCome aim by node uuid a front (LookedForMarker p q r (Found bytes)) None trail × AreWords uuid bytes × ShowsShort aim uuid bytes id
made_at aim by node uuid (LetsGo a reply) trail = (front : ℕ) × (way : Way) × HasCome aim by node uuid a front way None trail × MustLetGo aim a uuid trail.look way reply
made_at aim by node uuid (GivesUp a reply) trail = (front : ℕ) × (way : Way) × (release : Option ℕ) × HasCome aim by node uuid a front way release trail × MayTell aim front a uuid trail.look way release reply
made_at aim by node uuid (Ended given) trail = EndedAtOnce aim by node uuid given trail ⊎ EndedLater aim by node uuid given trail

-- whether it is to let its claim go since the store failed
abbrev pub told_fault_at : Stage → Bool
told_fault_at (LetsGo a reply) = tells_fault reply
told_fault_at stage = false

abbrev pub told_fault : ClaimView → Bool
told_fault line = told_fault_at line.stage

-- a line has made these turns
abbrev pub Made : ClaimView → Trail → Type 0
Made line trail = made_at line.aim line.by line.node line.uuid line.stage trail

-- the same at the door, which has grown to this: no turn of it has seen more
abbrev pub stood_at : Aim → By → ℕ → List ℕ → Stage → List DoorEntry → Trail → Type 0
stood_at aim by node uuid stage seen trail = made_at aim by node uuid stage trail × FrontsWithin seen trail.turns
