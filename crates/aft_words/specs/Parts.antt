-- How the words behind a command are cut into names and options.
use Rattle.std.specs.Prelude.{Bool, List, None, Option, Some, [], codes, false, if◌then◌else◌, length, map, nat_lt, not, ℕ, ◌&&◌, ◌==◌, ◌||◌, ◌∷◌}
use Rattle.std.specs.List.{after_first, before_first, position_or_len}
use Rattle.std.specs.Str.{bytes_eq}

-- a name, an option with its value, or an option alone
pub data Part : Type 0 where
  name : List ℕ → Part
  option : List ℕ → List ℕ → Part
  flag : List ℕ → Part

-- whether a word begins with a hyphen
abbrev pub is_hyphened : List ℕ → Bool
is_hyphened [] = false
is_hyphened (c ∷ cs) = c == 45

-- whether a word is an option: a hyphen and something behind it
abbrev pub is_option : List ℕ → Bool
is_option word = is_hyphened word && nat_lt 1 (length word)

-- whether a byte is `=`
abbrev pub is_equals : ℕ → Bool
is_equals c = c == 61

-- whether a word has a `=`
abbrev pub has_equals : List ℕ → Bool
has_equals word = nat_lt (position_or_len is_equals word) (length word)

-- a word by itself: a name, or an option, whose value is the text behind the first `=`
abbrev pub alone : List ℕ → Part
alone word =
    if not (is_option word) then name word else
    (if has_equals word then option (before_first is_equals word) (after_first is_equals word) else flag word)

-- whether a word is an option that takes the next word
abbrev pub takes_next : List ℕ → Bool
takes_next word = bytes_eq word (codes "--conf") || bytes_eq word (codes "--store") || bytes_eq word (codes "--clock")

-- the value that an option takes of the words behind it: the next word, where that isn't hyphened
abbrev pub value_behind : List ℕ → List (List ℕ) → Option (List ℕ)
value_behind word [] = None
value_behind word (next ∷ words) = if takes_next word && not (is_hyphened next) then Some next else None

-- the parts of words; behind `--` each word is a name
abbrev pub parts_of : List (List ℕ) → List Part
parts_of [] = []
parts_of (word ∷ []) = if bytes_eq word (codes "--") then [] else alone word ∷ []
parts_of (word ∷ next ∷ words) =
    if bytes_eq word (codes "--") then map name (next ∷ words) else
    (if takes_next word && not (is_hyphened next) then option word next ∷ parts_of words else
    alone word ∷ parts_of (next ∷ words))
