-- The two commands that finish an attempt, as one.
use Rattle.std.specs.Prelude.{Bool, false, true}
use Rattle.aft_model.specs.declared.script.Command.{Command}
use Rattle.aft_model.specs.declared.script.Command.TheVariants.{Abort, Commit}

-- an abort, or a commit
abbrev pub finishing : Bool → Command
finishing true = Abort
finishing false = Commit
