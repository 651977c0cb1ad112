-- What `step` is asked, and over which world.
use Rattle.std.specs.Prelude.{Option, Some, ℕ, ◌≡◌}
use Rattle.aft_lines.specs.Asked.{Asked}
use Rattle.aft_model.specs.declared.script.Order.{Order}
use Rattle.aft_model.specs.declared.script.Script.{Script}
use Rattle.aft_step.specs.Going.{IsAsked}
use Rattle.aft_step.specs.Worlds.{NodesFit, WorldView}
use Rattle.law_accounts.specs.Account.{Waits}

-- a run is asked this script in this order, by a clock that tells this, and nothing else; and one thread may run it
pub record IsAskedOf (asked : Asked) (lines : Script) (words : Order) (time : Option ℕ) : Type 0 where
  pub script : asked.script ≡ lines
  pub order : asked.order ≡ Some words
  pub clock : asked.clock ≡ time
  pub may : IsAsked asked

-- the world has the nodes of the settings, each with room for an answer of each line
abbrev pub HasRoom : Asked → WorldView → Type 0
HasRoom asked world = NodesFit asked (λ line. Waits) world
