-- Which lines of scripts are built.
use Rattle.std.specs.Prelude.{◌≤◌, List, length, All}
use Rattle.aft_model.specs.declared.script.Command.{Command}
use Rattle.aft_model.specs.declared.script.Command.TheVariants.{Begin, Put, Get, Commit}
use Rattle.aft_model.specs.declared.script.Line.{Line}

-- begin, put of at most 4,096 bytes, get and commit
abbrev pub IsBuilt : Command → Type 0
IsBuilt (Begin uuid node) = Unit {0}
IsBuilt (Put key value) = length value ≤ 4096
IsBuilt (Get key) = Unit {0}
IsBuilt Commit = Unit {0}
IsBuilt other = ⊥

abbrev pub AreBuilt : List Line → Type 0
AreBuilt lines = All (λ line. IsBuilt line.order) lines
