-- Which positions of commits and aborts get the record of the commit that they store.
use Rattle.std.specs.Prelude.{None, Option, Some}
use Rattle.aft_lines.specs.CommitCourse.{Storing}
use Rattle.aft_lines.specs.Progress.{HasFailed, Progress, Settling}

-- what a line stores that is to get the record of its commit next: to settle a doubt, or since its put failed
abbrev pub settling_at : Progress → Option Storing
settling_at (Settling aborts storing) = Some storing
settling_at (HasFailed storing) = Some storing
settling_at position = None
