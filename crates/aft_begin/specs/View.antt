-- What a line that claims a UUID shows: its line, its node, its UUID, what it claims that for, and how far it has come.
use Rattle.std.specs.Prelude.{Bool, IsTrue, false, true, List, None, Option, Some, ℕ, ◌+◌, ◌≡◌}
use Rattle.std.specs.Option.{ForSome}
use Rattle.aft_id.specs.declared.txn_id.TxnId.{TxnId}
use Rattle.aft_model.specs.declared.caller.Attempt.{Attempt}
use Rattle.aft_model.specs.declared.caller.By.{By}
use Rattle.aft_model.specs.declared.caller.Hold.{Hold}
use Rattle.aft_model.specs.declared.reply.Reply.{Reply}
use Rattle.aft_model.specs.declared.reply.Reply.TheVariants as replies
use Rattle.aft_model.specs.declared.script.Command.{Command}
use Rattle.aft_model.specs.declared.script.Command.TheVariants as commands
use Rattle.aft_model.specs.NodeRules.{is_begin_refusal}
use Rattle.aft_node.specs.declared.goes.AdmitGo.{AdmitGo}
use Rattle.aft_node.specs.declared.goes.AdmitGo.TheVariants as goes
use Rattle.aft_begin.specs.declared.aim.Aim.{Aim}
use Rattle.aft_begin.specs.declared.aim.Aim.TheVariants.{Begin, Forget}
use Rattle.aft_begin.specs.declared.looked.Looked.{Looked}
use Rattle.aft_begin.specs.declared.looked.Looked.TheVariants.{Nothing, Shows, Stops}
use Rattle.aft_begin.specs.declared.sought.Sought.{Sought}
use Rattle.aft_begin.specs.declared.sought.Sought.TheVariants.{Marker, Record}
use Rattle.aft_begin.specs.declared.stage.Stage.{Stage}
use Rattle.aft_begin.specs.declared.stage.Stage.TheVariants.{Begins, Claims, Ended, Forgets, GivesUp, LetsGo, Runs, Seeks}
use Rattle.aft_turns.specs.declared.turn.Where.{Where}
use Rattle.aft_turns.specs.declared.turn.Where.TheVariants as places

pub record ClaimView : Type 0 where
  pub by : By
  pub node : ℕ
  pub uuid : List ℕ
  pub aim : Aim
  pub stage : Stage

-- what its line asks
abbrev pub asks : Aim → List ℕ → ℕ → Command
asks Begin uuid node = commands.Begin uuid node
asks Forget uuid node = commands.Forget uuid node

-- where its next turn is
abbrev pub next_at : ℕ → Stage → Where
next_at node Begins = places.Node node
next_at node (Claims a) = places.Door
next_at node (Seeks a sought) = places.Door
next_at node (Runs a) = places.Node node
next_at node (Forgets a id) = places.Door
next_at node (LetsGo a reply) = places.Door
next_at node (GivesUp a reply) = places.Node node
next_at node (Ended given) = places.Done

abbrev pub next_of : ClaimView → Where
next_of line = next_at line.node line.stage

-- how many more turns it takes than a begin: a forget may delete
abbrev pub spare : Aim → ℕ
spare Begin = 0
spare Forget = 1

-- how many turns are left at most
abbrev pub left_at : Aim → Stage → ℕ
left_at aim Begins = 6 + spare aim
left_at aim (Claims a) = 5 + spare aim
left_at aim (Seeks a Record) = 4 + spare aim
left_at aim (Seeks a Marker) = 3 + spare aim
left_at aim (Runs a) = 1
left_at aim (Forgets a id) = 3
left_at aim (LetsGo a reply) = 2
left_at aim (GivesUp a reply) = 1
left_at aim (Ended given) = 0

abbrev pub left_of : ClaimView → ℕ
left_of line = left_at line.aim line.stage

-- the attempt that it gives its client
abbrev pub given_at : Stage → Option Attempt
given_at (Ended given) = given
given_at stage = None

-- what the client of a begin holds by it
abbrev pub hold_of : ClaimView → Hold
hold_of line = record { node = line.node; attempt = given_at line.stage }

-- the attempt is of its node, and so is one that it gives; what it is to answer is what a line that takes its attempt away may; and only a forget deletes, the marker of its UUID
abbrev pub FitsAt : Aim → ℕ → List ℕ → Stage → Type 0
FitsAt aim node uuid (Claims a) = a.node ≡ node
FitsAt aim node uuid (Seeks a sought) = a.node ≡ node
FitsAt aim node uuid (Runs a) = a.node ≡ node
FitsAt aim node uuid (Forgets a id) = (a.node ≡ node) × (id.uuid ≡ uuid) × (aim ≡ Forget)
FitsAt aim node uuid (LetsGo a reply) = (a.node ≡ node) × IsTrue (is_begin_refusal (Some reply))
FitsAt aim node uuid (GivesUp a reply) = (a.node ≡ node) × IsTrue (is_begin_refusal (Some reply))
FitsAt aim node uuid (Ended given) = ForSome given (λ a. a.node ≡ node)
FitsAt aim node uuid Begins = Unit {0}

-- how far its first turn leads
abbrev pub behind_admission : AdmitGo → Stage
behind_admission (goes.Go who a) = Claims a
behind_admission (goes.Joined a) = Ended (Some a)
behind_admission goes.Answered = Ended None

-- how far a claim leads, that was refused so, or wasn't
abbrev pub behind_claim : Attempt → Option Reply → Stage
behind_claim a None = Seeks a Record
behind_claim a (Some reply) = GivesUp a reply

-- how far the record or the marker of an id leads, which was found: a begin is answered that the id is committed; a forget deletes a short marker, and is answered of any other that it is kept
abbrev pub behind_found : Aim → Attempt → Sought → TxnId → Bool → Stage
behind_found Begin a sought id short = LetsGo a (replies.Committed id)
behind_found Forget a Record id short = LetsGo a (replies.Kept id)
behind_found Forget a Marker id false = LetsGo a (replies.Kept id)
behind_found Forget a Marker id true = Forgets a id

-- how far a look leads: behind the record the marker is looked for, and behind that a begin may run, and a forget is answered that the UUID is unknown
abbrev pub behind_look : Aim → Attempt → List ℕ → Sought → Looked → Stage
behind_look aim a uuid sought (Stops reply) = LetsGo a reply
behind_look aim a uuid sought (Shows id short) = behind_found aim a sought id short
behind_look aim a uuid Record Nothing = Seeks a Marker
behind_look Begin a uuid Marker Nothing = Runs a
behind_look Forget a uuid Marker Nothing = LetsGo a (replies.Unknown uuid)

-- how far a release leads, which was made or not
abbrev pub behind_release : Attempt → Reply → Bool → Stage
behind_release a reply true = GivesUp a reply
behind_release a reply false = GivesUp a (replies.NodeDown a.node a.inc)
