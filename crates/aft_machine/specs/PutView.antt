-- What a put shows: its line, what its client holds, the key, the value, and how far it has come.
use Rattle.std.specs.Prelude.{List, length, ℕ, ◌≤◌}
use Rattle.aft_model.specs.declared.caller.By.{By}
use Rattle.aft_model.specs.declared.caller.Hold.{Hold}
use Rattle.aft_machine.specs.declared.buffering.Stage.{Stage}
use Rattle.aft_machine.specs.declared.buffering.Stage.TheVariants.{Begins, Ended}
use Rattle.aft_turns.specs.declared.turn.Where.{Where}
use Rattle.aft_turns.specs.declared.turn.Where.TheVariants as places

pub record PutView : Type 0 where
  pub by : By
  pub hold : Hold
  pub key : List ℕ
  pub value : List ℕ
  pub stage : Stage

-- where a put's next turn is
abbrev pub next_at : ℕ → Stage → Where
next_at node (Begins key value) = places.Node node
next_at node Ended = places.Done

abbrev pub next_of : PutView → Where
next_of put = next_at put.hold.node put.stage

-- how many turns are left
abbrev pub left_at : Stage → ℕ
left_at (Begins key value) = 1
left_at Ended = 0

abbrev pub left_of : PutView → ℕ
left_of put = left_at put.stage

-- the value is short enough to be put
abbrev pub FitsAt : Stage → Type 0
FitsAt (Begins key value) = length value ≤ 4096
FitsAt Ended = Unit {0}
