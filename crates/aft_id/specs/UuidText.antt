-- The texts that name a UUID.
use Rattle.std.specs.Prelude.{ℕ, ◌^◌, ◌&&◌, nat_eq, nat_lt, nat_le, Option, Some, None, List, length, drop, codes, if◌then◌else◌}
use Rattle.std.specs.Int.{w128, to_be_bytes}
use Rattle.std.specs.List.{starts_with}
use Rattle.std.specs.Option.{option_or}
use Rattle.std.specs.Str.{all_ascii_digits}
use Rattle.std.specs.Str.Parse.{digits_value}
use Rattle.uuid.specs.Text.{parsed_simple, parsed_hyphenated, parsed_braced, urn_prefix}

-- the UUID of a number, written in 1 to 39 decimal digits and below 2^128
abbrev pub uuid_of_digits : List ℕ → Option (List ℕ)
uuid_of_digits digits =
    if nat_le 1 (length digits) && nat_le (length digits) 39 && all_ascii_digits digits && nat_lt (digits_value 10 digits) (2 ^ 128)
    then Some (to_be_bytes w128 (digits_value 10 digits)) else None

-- what stands after a prefix, read by a function, where the text begins with that prefix
abbrev pub after_prefix : List ℕ → (List ℕ → Option (List ℕ)) → List ℕ → Option (List ℕ)
after_prefix prefix read text = if starts_with nat_eq text prefix then read (drop (length prefix) text) else None

-- the UUID that a text names: by 32 digits, hyphenated, hyphenated in braces, hyphenated after `urn:uuid:`, or by its number after `@`
abbrev pub uuid_of_text : List ℕ → Option (List ℕ)
uuid_of_text text =
    option_or (parsed_simple text)
    (option_or (parsed_hyphenated text)
    (option_or (parsed_braced text)
    (option_or (after_prefix urn_prefix parsed_hyphenated text)
    (after_prefix (codes "@") uuid_of_digits text))))
