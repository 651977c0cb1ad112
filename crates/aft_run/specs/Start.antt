-- What the first turn of a commit leads to.
use Rattle.std.specs.Prelude.{◌≤◌, length}
use Rattle.aft_run.specs.declared.node.Start.{Start}
use Rattle.aft_run.specs.declared.node.Start.TheVariants.{Store, Leave, Answered}

-- a value that is to be stored has at most 4,096 bytes
abbrev pub IsShort : Start → Type 0
IsShort (Store commit version) = length version.value ≤ 4096
IsShort (Leave uuid) = Unit {0}
IsShort Answered = Unit {0}
