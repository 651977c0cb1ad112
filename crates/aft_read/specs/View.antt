-- What a get shows: its line, what its client holds, the key, and how far it has come.
use Rattle.std.specs.Prelude.{List, Option, Some, ℕ, ◌≡◌}
use Rattle.aft_model.specs.declared.caller.Attempt.{Attempt}
use Rattle.aft_model.specs.declared.caller.By.{By}
use Rattle.aft_model.specs.declared.caller.Hold.{Hold}
use Rattle.aft_node.specs.Getting.{MayCome}
use Rattle.aft_node.specs.declared.goes.SelectGo.{SelectGo}
use Rattle.aft_node.specs.declared.goes.SelectGo.TheVariants as selects
use Rattle.aft_read.specs.declared.stage.Stage.{Stage}
use Rattle.aft_read.specs.declared.stage.Stage.TheVariants.{Begins, Comes, Ended, Fetches}
use Rattle.aft_turns.specs.declared.turn.Where.{Where}
use Rattle.aft_turns.specs.declared.turn.Where.TheVariants as places

pub record ReadView : Type 0 where
  pub by : By
  pub hold : Hold
  pub key : List ℕ
  pub stage : Stage

-- where a get's next turn is
abbrev pub next_at : ℕ → Stage → Where
next_at node (Begins key) = places.Node node
next_at node (Fetches a key id) = places.Door
next_at node (Comes a key id got place) = places.Node node
next_at node Ended = places.Done

abbrev pub next_of : ReadView → Where
next_of read = next_at read.hold.node read.stage

-- the attempt is of the node, and what came is something that may come of a fetch
abbrev pub FitsNode : ℕ → Stage → Type 0
FitsNode node (Fetches a key id) = a.node ≡ node
FitsNode node (Comes a key id got place) = (a.node ≡ node) × MayCome id got
FitsNode node stage = Unit

-- how many turns are left at most
abbrev pub left_at : Stage → ℕ
left_at (Begins key) = 3
left_at (Fetches a key id) = 2
left_at (Comes a key id got place) = 1
left_at Ended = 0

abbrev pub left_of : ReadView → ℕ
left_of read = left_at read.stage

-- where a pick leads
abbrev pub picked_stage : SelectGo → Option Attempt → List ℕ → Stage
picked_stage (selects.Fetch who id) (Some a) key = Fetches a key id
picked_stage go attempt key = Ended
