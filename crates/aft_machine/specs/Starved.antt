-- A line whose key or value couldn't be copied: what it shows, and what it has made.
use Rattle.std.specs.Prelude.{Bool, List, Some, [], false, if◌then◌else◌, true, ℕ, ◌≡◌, ◌∷◌}
use Rattle.aft_model.specs.declared.caller.By.{By}
use Rattle.aft_model.specs.declared.caller.Hold.{Hold}
use Rattle.aft_model.specs.declared.node.NodeAct.TheVariants as acts
use Rattle.aft_model.specs.declared.node.NodeEntry.{NodeEntry}
use Rattle.aft_model.specs.declared.reply.Reply.TheVariants as replies
use Rattle.aft_model.specs.declared.script.Command.{Command}
use Rattle.aft_model.specs.declared.script.Command.TheVariants as commands
use Rattle.aft_read.specs.Made.{turn_at}
use Rattle.aft_turns.specs.Trail.{Trail, no_trail}
use Rattle.aft_turns.specs.declared.turn.Where.{Where}
use Rattle.aft_turns.specs.declared.turn.Where.TheVariants as places

-- who asks, what the client holds, what is asked, and whether it is answered
pub record StarvedView : Type 0 where
  pub by : By
  pub hold : Hold
  pub command : Command
  pub over : Bool

-- whether a command has a key or a value, of which its machine needs a copy
abbrev pub is_copied : Command → Bool
is_copied (commands.Put key value) = true
is_copied (commands.Get key) = true
is_copied command = false

-- where its next turn is
abbrev pub next_at : ℕ → Bool → Where
next_at node false = places.Node node
next_at node true = places.Done

abbrev pub next_of : StarvedView → Where
next_of line = next_at line.hold.node line.over

-- how many turns are left
abbrev pub left_of : StarvedView → ℕ
left_of line = if line.over then 0 else 1

-- it has answered that memory was wanting
pub record HasStarved (by : By) (hold : Hold) (trail : Trail) : Type 0 where
  pub before : List NodeEntry
  pub front : ℕ
  pub turns : trail.turns ≡ turn_at by hold before front acts.Nothing (Some replies.NoMemory) ∷ []

-- what it has made, where it is answered or isn't
abbrev pub made_at : By → Hold → Bool → Trail → Type 0
made_at by hold false trail = trail ≡ no_trail
made_at by hold true trail = HasStarved by hold trail

abbrev pub Made : StarvedView → Trail → Type 0
Made line trail = made_at line.by line.hold line.over trail
