-- What a word stands for: a number, a UUID, a key, a value.
use Rattle.std.specs.Prelude.{Bool, Err, List, None, Ok, Option, Result, Some, codes, drop, if◌then◌else◌, length, nat_eq, nat_le, ok_or, slice_index, ℕ, ◌&&◌}
use Rattle.std.specs.List.{starts_with}
use Rattle.std.specs.Str.{all_ascii_digits}
use Rattle.std.specs.Str.Parse.{digits_value}
use Rattle.hex.specs.Hex.{decode_of}
use Rattle.hex.specs.declared.error.FromHexError.{FromHexError}
use Rattle.aft_id.specs.UuidText.{uuid_of_text}
use Rattle.aft_records.specs.Limits.{is_key, is_value_length}
use Rattle.aft_script.specs.Gives.{◌>>=◌}
use Rattle.aft_script.specs.declared.fault.LineFault.{LineFault}
use Rattle.aft_script.specs.declared.fault.LineFault.TheVariants.{BadClient, BadKey, BadNode, BadUuid, BadValue, LongValue}

-- whether a word is decimal digits of which the first isn't `0`
abbrev pub is_number : List ℕ → Bool
is_number word = nat_le 49 (slice_index word 0) && all_ascii_digits word

-- the number of 1 to most that a word is the decimal digits of, without sign or leading zero
abbrev pub number_to : ℕ → List ℕ → Option ℕ
number_to most word = if is_number word && nat_le (digits_value 10 word) most then Some (digits_value 10 word) else None

-- a client: 1 to 64
abbrev pub client_of : List ℕ → Result ℕ LineFault
client_of word = ok_or (number_to 64 word) BadClient

-- a node: 1 to the number of nodes
abbrev pub node_of : ℕ → List ℕ → Result ℕ LineFault
node_of nodes word = ok_or (number_to nodes word) BadNode

-- a UUID
abbrev pub uuid_of : List ℕ → Result (List ℕ) LineFault
uuid_of word = ok_or (uuid_of_text word) BadUuid

-- a key, taken literally
abbrev pub key_of : List ℕ → Result (List ℕ) LineFault
key_of word = if is_key word then Ok word else Err BadKey

-- bytes, if they were digits of bytes
abbrev pub of_digits : Result (List ℕ) FromHexError → Result (List ℕ) LineFault
of_digits (Ok bytes) = Ok bytes
of_digits (Err e) = Err BadValue

-- a value, if it isn't too long
abbrev pub not_too_long : List ℕ → Result (List ℕ) LineFault
not_too_long value = if is_value_length (length value) then Ok value else Err LongValue

-- the bytes that a word stands for: behind a leading `#` those of its hexadecimal digits, and else its own
abbrev pub bytes_of : List ℕ → Result (List ℕ) LineFault
bytes_of word = if starts_with nat_eq word (codes "#") then of_digits (decode_of (drop 1 word)) else Ok word

-- a value
abbrev pub value_of : List ℕ → Result (List ℕ) LineFault
value_of word = bytes_of word >>= not_too_long
