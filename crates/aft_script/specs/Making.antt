-- What the generator's code has made.
use Rattle.aft_script.specs.Generator.{Made}
use Rattle.aft_script.specs.declared.generator.Maker.{Maker}

-- the state of the draws and the lines
abbrev pub made_by : Maker → Made
made_by maker = record { state = maker.state; lines = maker.lines.items }
