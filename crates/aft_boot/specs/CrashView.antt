-- What a crash shows: its line, its node, and how far it has come.
use Rattle.std.specs.Prelude.{ℕ}
use Rattle.aft_model.specs.declared.caller.By.{By}
use Rattle.aft_boot.specs.declared.fencing.Fencing.{Fencing}
use Rattle.aft_boot.specs.declared.fencing.Fencing.TheVariants.{Begins, Ended, Tells}
use Rattle.aft_turns.specs.declared.turn.Where.{Where}
use Rattle.aft_turns.specs.declared.turn.Where.TheVariants as places

pub record CrashView : Type 0 where
  pub by : By
  pub node : ℕ
  pub stage : Fencing

-- where a crash's next turn is
abbrev pub next_at : ℕ → Fencing → Where
next_at node Begins = places.Door
next_at node (Tells fenced) = places.Node node
next_at node Ended = places.Done

abbrev pub next_of : CrashView → Where
next_of crash = next_at crash.node crash.stage

-- how many turns are left at most
abbrev pub left_at : Fencing → ℕ
left_at Begins = 2
left_at (Tells fenced) = 1
left_at Ended = 0

abbrev pub left_of : CrashView → ℕ
left_of crash = left_at crash.stage
