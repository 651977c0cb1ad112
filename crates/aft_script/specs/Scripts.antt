-- What a script is read as.
use Rattle.std.specs.Prelude.{Err, List, None, Ok, Option, Result, Some, [], if◌then◌else◌, nat_le, ℕ, ◌+◌, ◌++◌, ◌∷◌}
use Rattle.std.specs.Str.Lines.{lines}
use Rattle.aft_conf.specs.declared.conf.Conf.{Conf}
use Rattle.aft_model.specs.declared.script.Line.{Line}
use Rattle.aft_script.specs.Forms.{line_of}
use Rattle.aft_script.specs.Gives.{◌>>=◌}
use Rattle.aft_script.specs.Limits.{room_for}
use Rattle.aft_script.specs.declared.fault.LineFault.{LineFault}
use Rattle.aft_script.specs.declared.fault.LineFault.TheVariants.{TooManyLines}
use Rattle.aft_script.specs.declared.fault.ScriptFault.{ScriptFault}
use Rattle.aft_script.specs.declared.fault.ScriptFault.TheVariants as fault
use Rattle.aft_script.specs.declared.fault.Refusal.{Refusal}
use Rattle.aft_script.specs.declared.fault.Refusal.TheVariants.{Fault, Memory}
use Rattle.aft_script.specs.declared.forms.Said.{Said}

-- the line of a number on which a client asks for something
abbrev pub numbered : ℕ → Said → Line
numbered number said = record { number = number; client = said.client; order = said.order }

-- the lines before with what a further line says, if there is room for it
abbrev pub with_said : ℕ → List Line → ℕ → Option Said → Result (List Line) LineFault
with_said rounds before number None = Ok before
with_said rounds before number (Some said) = room_for rounds before said.order >>= λ count. Ok (before ++ numbered number said ∷ [])

-- the lines before with a further line of a script, or the first fault of that line
abbrev pub with_line : Conf → List Line → ℕ → List ℕ → Result (List Line) LineFault
with_line conf before number line = if nat_le number 20000 then line_of conf.nodes line >>= with_said conf.rounds before number else Err TooManyLines

-- what is read next, if a line has no fault
abbrev pub or_fault : ℕ → Result (List Line) LineFault → (List Line → Result (List Line) ScriptFault) → Result (List Line) ScriptFault
or_fault number (Ok before) next = next before
or_fault number (Err e) next = Err (fault.Line number e)

-- the lines of a script, those before and how many were read given; or the first line with a fault
abbrev pub lines_behind : Conf → List Line → ℕ → List (List ℕ) → Result (List Line) ScriptFault
lines_behind conf before read [] = Ok before
lines_behind conf before read (line ∷ rest) = or_fault (read + 1) (with_line conf before (read + 1) line) (λ after. lines_behind conf after (read + 1) rest)

-- the lines with a command that bytes are read as, or the first fault
abbrev pub script_of : Conf → List ℕ → Result (List Line) ScriptFault
script_of conf bytes = lines_behind conf [] 0 (lines bytes)

-- why a script is not read, where the line of a number is not
abbrev pub at_line : ℕ → Refusal → ScriptFault
at_line number (Fault e) = fault.Line number e
at_line number Memory = fault.Memory
