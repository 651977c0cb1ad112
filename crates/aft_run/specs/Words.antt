-- Which words have a reading.
use Rattle.std.specs.Prelude.{ℕ, ◌+◌, ◌-◌, ◌*◌, ◌^◌, Bool, true, false, not, ◌&&◌, ◌==◌, nat_lt, List, [], ◌∷◌, length, codes}
use Rattle.std.specs.Str.{bytes_eq, all_ascii_digits}

-- the number that digits stand for, behind the number n
abbrev pub number_on : ℕ → List ℕ → ℕ
number_on n [] = n
number_on n (c ∷ cs) = number_on (n * 10 + (c - 48)) cs

-- decimal digits of a number below 2^64
abbrev pub is_time : List ℕ → Bool
is_time text = all_ascii_digits text && nat_lt 0 (length text) && nat_lt (number_on 0 text) (2 ^ 64)

-- a name isn't empty, and of two or more bytes it doesn't begin with a hyphen
abbrev pub is_name : List ℕ → Bool
is_name [] = false
is_name (c ∷ []) = true
is_name (c ∷ d ∷ cs) = not (c == 45)

-- `step FILE ORDER`, and behind it maybe `--clock TIME`
abbrev pub are_words : List (List ℕ) → Bool
are_words (command ∷ script ∷ order ∷ []) = bytes_eq command (codes "step") && is_name script && is_name order
are_words (command ∷ script ∷ order ∷ option ∷ time ∷ []) =
    bytes_eq command (codes "step") && is_name script && is_name order && bytes_eq option (codes "--clock") && is_time time
are_words words = false
