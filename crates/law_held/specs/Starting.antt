-- Starts: whom one is to bring up.
use Rattle.std.specs.Prelude.{Bool, IsTrue, List, None, Option, Some, false, not, true, ◌==◌, ◌||◌}
use Rattle.std.specs.List.{list_all}
use Rattle.aft_model.specs.declared.door.DoorEntry.{DoorEntry}
use Rattle.aft_model.specs.declared.script.Command.{Command}
use Rattle.aft_model.specs.declared.script.Command.TheVariants.{Start}
use Rattle.aft_model.specs.Membership.{Incarnation, same_incarnation, ups}
use Rattle.aft_model.specs.NodeSights.{is_fenced}
use Rattle.aft_lines.specs.Asked.{Asked, Ran}
use Rattle.aft_lines.specs.Progress.{MustComeUp, Progress}
use Rattle.aft_lines.specs.RunsSoFar.{position_of}
use Rattle.aft_lines.specs.Views.{each_view}

-- whether a command is a start
abbrev pub is_start : Command → Bool
is_start (Start node) = true
is_start command = false

-- the incarnation that a start is to bring up where it has come, if it is to
abbrev pub to_come_up : Option Progress → Option Incarnation
to_come_up (Some (MustComeUp who)) = Some who
to_come_up position = None

-- whether such an incarnation was fenced, or no other of its node is up
abbrev pub stands_alone : List DoorEntry → Option Incarnation → Bool
stands_alone door None = true
stands_alone door (Some who) = is_fenced who door || list_all (λ other. not (other.node == who.node) || same_incarnation who other) (ups door)

-- whether each start stands so
abbrev pub StartsStand : Asked → Ran → Type 0
StartsStand asked ran = IsTrue (each_view (λ view. not (is_start view.command) || stands_alone ran.trace.door (to_come_up (position_of view))) asked ran)
