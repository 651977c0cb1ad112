-- How many lines of a kind a script may have.
use Rattle.std.specs.Prelude.{Bool, Err, List, Ok, Result, count_by, false, if◌then◌else◌, nat_lt, true, ℕ, ◌+◌, ◌-◌, ◌≡◌}
use Rattle.aft_model.specs.declared.script.Command.{Command}
use Rattle.aft_model.specs.declared.script.Command.TheVariants.{Backup, Collect, Manager, Orphans, Start}
use Rattle.aft_model.specs.declared.script.Line.{Line}
use Rattle.aft_script.specs.Gives.{◌>>=◌}
use Rattle.aft_script.specs.declared.fault.LineFault.{LineFault}
use Rattle.aft_script.specs.declared.fault.LineFault.TheVariants.{TooManyRounds, TooManyStarts}
use Rattle.aft_script.specs.declared.tally.Tally.{Tally}

-- whether a command is of a kind
abbrev pub is_start : Command → Bool
is_start (Start node) = true
is_start command = false

abbrev pub is_manager : Command → Bool
is_manager Manager = true
is_manager command = false

abbrev pub is_collect : Command → Bool
is_collect Collect = true
is_collect command = false

abbrev pub is_orphans : Command → Bool
is_orphans (Orphans key) = true
is_orphans command = false

abbrev pub is_backup : Command → Bool
is_backup Backup = true
is_backup command = false

-- how many of these lines have a command of a kind
abbrev pub how_many : (Command → Bool) → List Line → ℕ
how_many is_kind lines = count_by (λ line. is_kind line.order) lines

-- the count with one more, if there may be so many
abbrev pub one_more : ℕ → ℕ → LineFault → Result ℕ LineFault
one_more most count fault = if nat_lt count most then Ok (count + 1) else Err fault

-- whether a command may stand behind the lines before it: the count of its kind, where that is limited
abbrev pub room_for : ℕ → List Line → Command → Result ℕ LineFault
room_for rounds before (Start node) = one_more 16 (how_many is_start before) TooManyStarts
room_for rounds before Manager = one_more (20 - rounds) (how_many is_manager before) TooManyRounds
room_for rounds before Collect = one_more (20 - rounds) (how_many is_collect before) TooManyRounds
room_for rounds before (Orphans key) = one_more 10 (how_many is_orphans before) TooManyRounds
room_for rounds before Backup = one_more 1 (how_many is_backup before) TooManyRounds
room_for rounds before command = Ok 0

-- a tally is that of some lines
pub record Tallies (tally : Tally) (lines : List Line) : Type 0 where
  pub starts : tally.starts ≡ how_many is_start lines
  pub managers : tally.managers ≡ how_many is_manager lines
  pub collects : tally.collects ≡ how_many is_collect lines
  pub orphans : tally.orphans ≡ how_many is_orphans lines
  pub backups : tally.backups ≡ how_many is_backup lines

-- a tally with one command more
abbrev pub tally_with : ℕ → Tally → Command → Result Tally LineFault
tally_with rounds tally (Start node) = one_more 16 tally.starts TooManyStarts >>= λ n. Ok (record tally { starts = n })
tally_with rounds tally Manager = one_more (20 - rounds) tally.managers TooManyRounds >>= λ n. Ok (record tally { managers = n })
tally_with rounds tally Collect = one_more (20 - rounds) tally.collects TooManyRounds >>= λ n. Ok (record tally { collects = n })
tally_with rounds tally (Orphans key) = one_more 10 tally.orphans TooManyRounds >>= λ n. Ok (record tally { orphans = n })
tally_with rounds tally Backup = one_more 1 tally.backups TooManyRounds >>= λ n. Ok (record tally { backups = n })
tally_with rounds tally command = Ok tally
