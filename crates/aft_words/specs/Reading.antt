-- What the words of a command line ask for.
use Rattle.std.specs.Prelude.{Bool, List, None, Option, Some, [], codes, false, if◌then◌else◌, is_some, length, nat_le, nat_lt, not, option_and_then, option_map, true, ℕ, ◌&&◌, ◌++◌, ◌^◌, ◌∷◌}
use Rattle.std.specs.Str.{all_ascii_digits, bytes_eq}
use Rattle.std.specs.Str.Parse.{digits_value}
use Rattle.aft_words.specs.Asked.{Asked, Backup, Check, Make, Restore, Run, Session, Setup, Step, Upgrade}
use Rattle.aft_words.specs.Parts.{Part, flag, name, option, parts_of}

-- the names and the options of a command
pub record Gathered : Type 0 where
  pub names : List (List ℕ)
  pub conf : Option (List ℕ)
  pub store : Option (List ℕ)
  pub time : Option ℕ
  pub trace : Bool

-- no name and no option
abbrev pub nothing : Gathered
nothing = record { names = []; conf = None; store = None; time = None; trace = false }

-- a name isn't empty
abbrev pub name_of : List ℕ → Option (List ℕ)
name_of [] = None
name_of (c ∷ cs) = Some (c ∷ cs)

-- the number below 2^64 that decimal digits write; zeros may stand in front
abbrev pub number_of : List ℕ → Option ℕ
number_of word =
    if all_ascii_digits word && nat_lt 0 (length word) && nat_lt (digits_value 10 word) (2 ^ 64)
    then Some (digits_value 10 word) else None

-- a value that is given for the first time
abbrev pub once : {X : Type 0} → Option X → Option X → Option X
once None value = value
once (Some before) value = None

-- one name more; no command takes more than three
abbrev pub with_name : List ℕ → Gathered → Option Gathered
with_name word given =
    if nat_lt (length given.names) 3 then option_map (λ text. record given { names = given.names ++ text ∷ [] }) (name_of word) else None

-- one option more, with its value
abbrev pub with_option : List ℕ → List ℕ → Gathered → Option Gathered
with_option word value given =
    if bytes_eq word (codes "--conf") then option_map (λ text. record given { conf = Some text }) (once given.conf (name_of value)) else
    (if bytes_eq word (codes "--store") then option_map (λ text. record given { store = Some text }) (once given.store (name_of value)) else
    (if bytes_eq word (codes "--clock") then option_map (λ time. record given { time = Some time }) (once given.time (number_of value)) else None))

-- one option more, without a value
abbrev pub with_flag : List ℕ → Gathered → Option Gathered
with_flag word given = if bytes_eq word (codes "--trace") && not given.trace then Some (record given { trace = true }) else None

-- one part more
abbrev pub with_part : Part → Gathered → Option Gathered
with_part (name word) given = with_name word given
with_part (option word value) given = with_option word value given
with_part (flag word) given = with_flag word given

-- all that parts give, beside what is given; none where a part is refused
abbrev pub with_parts : List Part → Gathered → Option Gathered
with_parts [] given = Some given
with_parts (part ∷ parts) given = option_and_then (with_parts parts) (with_part part given)

-- what is asked, where a test holds
abbrev pub where_so : Bool → Asked → Option Asked
where_so test asked = if test then Some asked else None

-- neither settings nor a trace
abbrev pub of_store : Gathered → Bool
of_store given = not (is_some given.conf) && not given.trace

-- no option
abbrev pub is_plain : Gathered → Bool
is_plain given = of_store given && not (is_some given.store) && not (is_some given.time)

-- what a run stands on
abbrev pub setup_of : Gathered → Setup
setup_of given = record { conf = given.conf; store = given.store; time = given.time }

-- `run FILE`, with all options
abbrev pub run_of : List (List ℕ) → Gathered → Option Asked
run_of (script ∷ []) given = Some (Run script (setup_of given) given.trace)
run_of names given = None

-- `step FILE ORDER`, with all options
abbrev pub step_of : List (List ℕ) → Gathered → Option Asked
step_of (script ∷ order ∷ []) given = Some (Step script order (setup_of given) given.trace)
step_of names given = None

-- `make` of 1 to 5,000 transactions
abbrev pub make_from : Option ℕ → Option ℕ → Option Asked
make_from (Some count) (Some first) = where_so (nat_le 1 count && nat_le count 5000) (Make count first)
make_from count first = None

-- `make N FIRST`, without options
abbrev pub make_of : List (List ℕ) → Gathered → Option Asked
make_of (count ∷ first ∷ []) given = if is_plain given then make_from (number_of count) (number_of first) else None
make_of names given = None

-- `upgrade`, with `--store` and `--clock`
abbrev pub upgrade_of : List (List ℕ) → Gathered → Option Asked
upgrade_of [] given = where_so (of_store given) (Upgrade given.store given.time)
upgrade_of names given = None

-- `session FILE ORDER ASK`, with all options but `--trace`
abbrev pub session_of : List (List ℕ) → Gathered → Option Asked
session_of (script ∷ order ∷ ask ∷ []) given = where_so (not given.trace) (Session script order ask (setup_of given))
session_of names given = None

-- `backup FILE ORDER`, with all options but `--trace`
abbrev pub backup_of : List (List ℕ) → Gathered → Option Asked
backup_of (script ∷ order ∷ []) given = where_so (not given.trace) (Backup script order (setup_of given))
backup_of names given = None

-- `restore COPY`, with `--store`
abbrev pub restore_of : List (List ℕ) → Gathered → Option Asked
restore_of (copy ∷ []) given = where_so (of_store given && not (is_some given.time)) (Restore copy given.store)
restore_of names given = None

-- `check FILE`, without options
abbrev pub check_of : List (List ℕ) → Gathered → Option Asked
check_of (trace ∷ []) given = where_so (is_plain given) (Check trace)
check_of names given = None

-- what a command asks for with its names and options
abbrev pub asked_of : List ℕ → Gathered → Option Asked
asked_of command given =
    if bytes_eq command (codes "run") then run_of given.names given else
    (if bytes_eq command (codes "step") then step_of given.names given else
    (if bytes_eq command (codes "make") then make_of given.names given else
    (if bytes_eq command (codes "upgrade") then upgrade_of given.names given else
    (if bytes_eq command (codes "session") then session_of given.names given else
    (if bytes_eq command (codes "backup") then backup_of given.names given else
    (if bytes_eq command (codes "restore") then restore_of given.names given else
    (if bytes_eq command (codes "check") then check_of given.names given else None)))))))

-- the names and the options that words give
abbrev pub gathered : List (List ℕ) → Option Gathered
gathered words = with_parts (parts_of words) nothing

-- what the words of a command line, the command first, ask for; none where they have no reading
abbrev pub reading : List (List ℕ) → Option Asked
reading [] = None
reading (command ∷ words) = option_and_then (asked_of command) (gathered words)
