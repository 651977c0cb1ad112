-- What an order is read as.
use Rattle.std.specs.Prelude.{Bool, Err, List, None, Ok, Option, Result, Some, [], codes, false, if◌then◌else◌, length, nat_eq, nat_lt, slice_index_or, take, true, ℕ, ◌+◌, ◌++◌, ◌-◌, ◌==◌, ◌∷◌}
use Rattle.std.specs.List.{ends_with, list_any}
use Rattle.aft_model.specs.declared.script.Line.{Line}
use Rattle.aft_model.specs.declared.script.Step.{Step}
use Rattle.aft_script.specs.Values.{number_to}
use Rattle.aft_script.specs.Words.{words_of}
use Rattle.aft_script.specs.declared.fault.ScriptFault.{ScriptFault}
use Rattle.aft_script.specs.declared.fault.ScriptFault.TheVariants.{Word}

-- whether there is a line of a client
abbrev pub has_client : List Line → ℕ → Bool
has_client lines client = list_any (λ line. line.client == client) lines

-- whether a client is marked in a list of marks
abbrev pub is_marked : List Bool → ℕ → Bool
is_marked marks client = slice_index_or marks client false

-- the step of a client, if it has lines
abbrev pub step_by : (ℕ → Bool) → Bool → Option ℕ → Option Step
step_by has whole (Some client) = if has client then Some (record { client = client; whole = whole }) else None
step_by has whole None = None

-- the step that a word is: the number of a client that has lines, or that number followed by `*`
abbrev pub step_of : (ℕ → Bool) → List ℕ → Option Step
step_of has word =
    if ends_with nat_eq word (codes "*") then step_by has true (number_to 64 (take (length word - 1) word)) else step_by has false (number_to 64 word)

-- what is read next, if a word is a step and isn't past the last one that may stand
abbrev pub or_bad_word : ℕ → Option Step → (Step → Result (List Step) ScriptFault) → Result (List Step) ScriptFault
or_bad_word number (Some step) next = next step
or_bad_word number None next = Err (Word number)

-- the steps of some words, those before given; or the first bad word
abbrev pub steps_behind : (ℕ → Bool) → List Step → List (List ℕ) → Result (List Step) ScriptFault
steps_behind has before [] = Ok before
steps_behind has before (word ∷ rest) =
    or_bad_word (length before + 1) (if nat_lt (length before) 1000000 then step_of has word else None) (λ step. steps_behind has (before ++ step ∷ []) rest)

-- the steps that bytes are read as, for a script's lines, or the first bad word
abbrev pub order_of : List Line → List ℕ → Result (List Step) ScriptFault
order_of lines bytes = steps_behind (has_client lines) [] (words_of bytes)
