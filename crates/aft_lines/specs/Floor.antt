-- A session's floor: what it reads of the keys of a named commit is no older than that.
use Rattle.std.specs.Prelude.{List, Bool, not, true, ◌||◌}
use Rattle.std.specs.List.{list_all}
use Rattle.aft_records.specs.declared.stored.Commit.{Commit}
use Rattle.aft_records.specs.Superseded.{wrote}
use Rattle.aft_model.specs.declared.reply.Reply.{Reply}
use Rattle.aft_model.specs.declared.script.Command.{Command}
use Rattle.aft_model.specs.Choice.{id_le}
use Rattle.aft_model.specs.declared.script.Command.TheVariants as commands
use Rattle.aft_model.specs.declared.reply.Reply.TheVariants as replies

-- what was asked of a run, and what it replied
pub record Exchange : Type 0 where
  pub asked : Command
  pub reply : Reply

-- whether a reply to a get of a key isn't below a floor: where the key is one of the floor's, and a value came, its id is at least the floor's
abbrev pub is_at_floor : Commit → Command → Reply → Bool
is_at_floor floor (commands.Get key) (replies.Value id value) = not (wrote key floor) || id_le floor.id id
is_at_floor floor asked reply = true

-- whether each reply to a session keeps its floor
abbrev pub keeps_floor : Commit → List Exchange → Bool
keeps_floor floor exchanges = list_all (λ exchange. is_at_floor floor exchange.asked exchange.reply) exchanges
