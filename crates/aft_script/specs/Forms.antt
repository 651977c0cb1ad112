-- The forms of a line: a client, a verb, and the words that go with it.
use Rattle.std.specs.Prelude.{Bool, Err, List, None, Ok, Option, Result, Some, [], codes, if◌then◌else◌, nat_eq, nat_le, ok_or, ℕ, ◌&&◌, ◌∷◌}
use Rattle.std.specs.List.{list_all, starts_with}
use Rattle.std.specs.Str.{bytes_eq}
use Rattle.aft_model.specs.declared.script.Command.{Command}
use Rattle.aft_model.specs.declared.script.Command.TheVariants as command
use Rattle.aft_script.specs.Gives.{◌>>=◌}
use Rattle.aft_script.specs.Values.{client_of, key_of, node_of, uuid_of, value_of}
use Rattle.aft_script.specs.Words.{words_of}
use Rattle.aft_script.specs.declared.fault.LineFault.{LineFault}
use Rattle.aft_script.specs.declared.fault.LineFault.TheVariants.{BadByte, BadCommand, BadWords}
use Rattle.aft_script.specs.declared.forms.Keyed.{Keyed}
use Rattle.aft_script.specs.declared.forms.Said.{Said}
use Rattle.aft_script.specs.declared.forms.Sited.{Sited}
use Rattle.aft_script.specs.declared.verb.Verb.{Verb}
use Rattle.aft_script.specs.declared.verb.Verb.TheVariants.{Abort, Announce, Backup, Begin, Collect, Commit, Crash, Deliver, Forget, Get, Local, Manager, Orphans, Put, Start}

-- the verb that a word is
abbrev pub verb_of : List ℕ → Option Verb
verb_of word =
    if bytes_eq word (codes "begin") then Some Begin else
    (if bytes_eq word (codes "put") then Some Put else
    (if bytes_eq word (codes "get") then Some Get else
    (if bytes_eq word (codes "commit") then Some Commit else
    (if bytes_eq word (codes "abort") then Some Abort else
    (if bytes_eq word (codes "crash") then Some Crash else
    (if bytes_eq word (codes "start") then Some Start else
    (if bytes_eq word (codes "announce") then Some Announce else
    (if bytes_eq word (codes "deliver") then Some Deliver else
    (if bytes_eq word (codes "local") then Some Local else
    (if bytes_eq word (codes "manager") then Some Manager else
    (if bytes_eq word (codes "collect") then Some Collect else
    (if bytes_eq word (codes "forget") then Some Forget else
    (if bytes_eq word (codes "orphans") then Some Orphans else
    (if bytes_eq word (codes "backup") then Some Backup else None))))))))))))))

-- the words behind a verb: none
abbrev pub nothing : Command → List (List ℕ) → Result Command LineFault
nothing command [] = Ok command
nothing command (word ∷ rest) = Err BadWords

-- one word, a node
abbrev pub a_node : ℕ → List (List ℕ) → Result ℕ LineFault
a_node nodes [] = Err BadWords
a_node nodes (node ∷ []) = node_of nodes node
a_node nodes (node ∷ word ∷ rest) = Err BadWords

-- one word, a key
abbrev pub a_key : List (List ℕ) → Result (List ℕ) LineFault
a_key [] = Err BadWords
a_key (key ∷ []) = key_of key
a_key (key ∷ word ∷ rest) = Err BadWords

-- two words, a key and a value
abbrev pub a_key_and_a_value : List (List ℕ) → Result Keyed LineFault
a_key_and_a_value [] = Err BadWords
a_key_and_a_value (key ∷ []) = Err BadWords
a_key_and_a_value (key ∷ value ∷ []) = do
  k ← key_of key
  v ← value_of value
  Ok (record { key = k; value = v })
a_key_and_a_value (key ∷ value ∷ word ∷ rest) = Err BadWords

-- three words, a UUID, `on` and a node
abbrev pub a_uuid_on_a_node : ℕ → List (List ℕ) → Result Sited LineFault
a_uuid_on_a_node nodes [] = Err BadWords
a_uuid_on_a_node nodes (uuid ∷ []) = Err BadWords
a_uuid_on_a_node nodes (uuid ∷ on ∷ []) = Err BadWords
a_uuid_on_a_node nodes (uuid ∷ on ∷ node ∷ []) = if bytes_eq on (codes "on") then (do
  u ← uuid_of uuid
  n ← node_of nodes node
  Ok (record { uuid = u; node = n })) else Err BadWords
a_uuid_on_a_node nodes (uuid ∷ on ∷ node ∷ word ∷ rest) = Err BadWords

-- what a verb asks for, with the words behind it
abbrev pub command_of : ℕ → Verb → List (List ℕ) → Result Command LineFault
command_of nodes Begin words = a_uuid_on_a_node nodes words >>= λ it. Ok (command.Begin it.uuid it.node)
command_of nodes Put words = a_key_and_a_value words >>= λ it. Ok (command.Put it.key it.value)
command_of nodes Get words = a_key words >>= λ key. Ok (command.Get key)
command_of nodes Commit words = nothing command.Commit words
command_of nodes Abort words = nothing command.Abort words
command_of nodes Crash words = a_node nodes words >>= λ node. Ok (command.Crash node)
command_of nodes Start words = a_node nodes words >>= λ node. Ok (command.Start node)
command_of nodes Announce words = a_node nodes words >>= λ node. Ok (command.Announce node)
command_of nodes Deliver words = a_node nodes words >>= λ node. Ok (command.Deliver node)
command_of nodes Local words = a_node nodes words >>= λ node. Ok (command.Local node)
command_of nodes Manager words = nothing command.Manager words
command_of nodes Collect words = nothing command.Collect words
command_of nodes Forget words = a_uuid_on_a_node nodes words >>= λ it. Ok (command.Forget it.uuid it.node)
command_of nodes Orphans words = a_key words >>= λ key. Ok (command.Orphans key)
command_of nodes Backup words = nothing command.Backup words

-- a verb and what stands behind it
abbrev pub request_of : ℕ → List (List ℕ) → Result Command LineFault
request_of nodes [] = Err BadCommand
request_of nodes (verb ∷ words) = ok_or (verb_of verb) BadCommand >>= λ v. command_of nodes v words

-- what the words of a line say: nothing where there are none, and else what a client asks for
abbrev pub said_by : ℕ → List (List ℕ) → Result (Option Said) LineFault
said_by nodes [] = Ok None
said_by nodes (client ∷ words) = do
  c ← client_of client
  order ← request_of nodes words
  Ok (Some (record { client = c; order = order }))

-- whether a byte may stand in a line: 32 to 126
abbrev pub is_line_byte : ℕ → Bool
is_line_byte b = nat_le 32 b && nat_le b 126

-- what a line says: nothing, also where it begins with `#`, or what a client asks for
abbrev pub line_of : ℕ → List ℕ → Result (Option Said) LineFault
line_of nodes line =
    if list_all is_line_byte line then (if starts_with nat_eq line (codes "#") then Ok None else said_by nodes (words_of line)) else Err BadByte
