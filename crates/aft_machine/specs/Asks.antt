-- What a step of any machine asks, of its caller and of the run.
use Rattle.std.specs.Prelude.{Bool, List, false, ℕ}
use Rattle.aft_model.specs.declared.door.DoorEntry.{DoorEntry}
use Rattle.aft_model.specs.declared.node.NodeEntry.{NodeEntry}
use Rattle.aft_begin.specs.Made as begins
use Rattle.aft_boot.specs.Booted as boots
use Rattle.aft_commit.specs.Asks as finishes
use Rattle.aft_commit.specs.View as finishing
use Rattle.aft_machine.specs.declared.machine.Machine.{Machine}
use Rattle.aft_machine.specs.declared.machine.Machine.TheVariants.{Begin, Finish, Forget, Put, Read, Starve, Crash, Start}
use Rattle.aft_read.specs.Made as reads

-- ---- what is asked of the caller

-- at the node: where the turn closes something, the line's last entry there opened it
abbrev pub may_close : Machine → List NodeEntry → Type 0
may_close (Begin line) history = begins.may_close line history
may_close (Forget line hold) history = begins.may_close line history
may_close (Read line) history = reads.may_close line history
may_close (Finish line) history = finishes.may_close line history
may_close (Put line) history = Unit {0}
may_close (Starve line) history = Unit {0}
may_close (Crash line hold) history = Unit {0}
may_close (Start line hold) history = boots.may_close line history

-- at the door: what a put stores keeps the limits
abbrev pub IsStorable : Machine → Type 0
IsStorable (Finish line) = finishing.IsStorable line
IsStorable machine = Unit {0}

-- and of a put and of a delete, what the incarnation has to know
abbrev pub Knows : Machine → List DoorEntry → Type 0
Knows (Forget line hold) history = begins.Knows line history
Knows (Finish line) history = finishes.may_put line history
Knows machine history = Unit {0}

-- ---- what only the run knows

-- at the node, whose turn is handed this time: the first turn of a commit reads the clock; and what a turn ends still goes on, or the node has left the incarnation
abbrev pub MayEnd : ℕ → ℕ → Machine → List NodeEntry → Type 0
MayEnd now clock (Begin line) history = begins.MayEnd line history
MayEnd now clock (Forget line hold) history = begins.MayEnd line history
MayEnd now clock (Read line) history = reads.MayEnd line history
MayEnd now clock (Finish line) history = finishing.ReadsClock line now clock × finishes.MayEnd line history
MayEnd now clock (Put line) history = Unit {0}
MayEnd now clock (Starve line) history = Unit {0}
MayEnd now clock (Crash line hold) history = Unit {0}
MayEnd now clock (Start line hold) history = boots.MayEnd line history

-- at the door: the attempt's incarnation has come up, and unless it was fenced is up and holds the UUID as the line's course says; and that of a start may come up, or has
abbrev pub MayCall : Machine → List DoorEntry → Type 0
MayCall (Begin line) history = begins.MayCall line history
MayCall (Forget line hold) history = begins.MayCall line history
MayCall (Read line) history = reads.HasComeUp line history
MayCall (Finish line) history = finishes.MayCall line history
MayCall (Put line) history = Unit {0}
MayCall (Starve line) history = Unit {0}
MayCall (Crash line hold) history = Unit {0}
MayCall (Start line hold) history = boots.MayCall line history

-- ---- failures

-- whether a commit or an abort goes on here from there since the store failed
abbrev pub finish_failed : Machine → finishing.FinishView → Bool
finish_failed (Finish old) new = finishing.has_failed old new
finish_failed old new = false

-- whether a machine that stood so tells now that the store failed
abbrev pub told_fault : Machine → Machine → Bool
told_fault old (Begin line) = begins.told_fault line
told_fault old (Forget line hold) = begins.told_fault line
told_fault old (Read line) = reads.told_fault line
told_fault old (Finish line) = finish_failed old line
told_fault old (Put line) = false
told_fault old (Starve line) = false
told_fault old (Crash line hold) = false
told_fault old (Start line hold) = boots.told_fault line
