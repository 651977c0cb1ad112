-- Which number a word is the decimal digits of.
use Rattle.std.proofs.Common.{Bool, List, None, Option, Some, [], arith, false, get_or, if◌then◌else◌, Err, Ok, length, lit<, nat_le, nat_lt, ◌≢◌, Result, refl, suc, sym, true, zero, ℕ, ◌&&◌, ◌*◌, ◌+◌, ◌<◌, ◌^◌, ◌≡◌, ◌≤◌, ◌∙◌, ◌∷◌}
use Rattle.std.specs.Str.{IsUtf8, all_ascii_digits}
use Rattle.std.specs.Char.{digit_value, is_ascii_digit}
use Rattle.std.specs.Result.{OkIff}
use Rattle.std.specs.Str.Parse.{ParsesUnsigned, digits_value, digits_value_after}
use Rattle.std.proofs.lemmas.Bool.{and_parts}
use Rattle.std.proofs.lemmas.Bool.Decides.{nat_tests}
use Rattle.std.proofs.lemmas.Str.{IsUtf8-from_ascii}
use Rattle.std.proofs.lemmas.Str.Parse.{parse_plain}
use Rattle.aft_id.proofs.UuidTexts.{decimal_digits}
use Rattle.aft_script.specs.Values.{is_number, number_to}

digit_small : (word : List ℕ) (i : ℕ) → all_ascii_digits word ≡ true → get_or word i 0 < 128
digit_small [] i digits = lit< tt
digit_small (c ∷ cs) zero digits = let first = and_parts _ (all_ascii_digits cs) digits in grind (arith, nat_tests, first.0)
digit_small (c ∷ cs) (suc i) digits = digit_small cs i ((and_parts _ (all_ascii_digits cs) digits).1)

if_none : (b : Bool) (o : Option ℕ) → (b ≡ true → ⊥) → None ≡ (if b then o else None)
if_none true o fails = absurd (fails refl)
if_none false o fails = refl

-- a word that isn't so has no number
no_number : (most : ℕ) (word : List ℕ) → (all_ascii_digits word ≡ true → digits_value 10 word ≤ most → ⊥) → None ≡ number_to most word
no_number most word other =
    if_none (is_number word && nat_le (digits_value 10 word) most) (Some (digits_value 10 word)) (λ test.
    let parts = and_parts (is_number word) (nat_le (digits_value 10 word) most) test in
    let digits = and_parts (nat_le 49 (get_or word 0 0)) (all_ascii_digits word) parts.0 in
    other digits.1 (grind (arith, nat_tests, parts.1)))

pub number_to-no_text : (most : ℕ) (word : List ℕ) → (IsUtf8 word → ⊥) → None ≡ number_to most word
number_to-no_text most word other = no_number most word (λ digits le. other (IsUtf8-from_ascii word (λ i. digit_small word i digits)))

pub number_to-refused : (most : ℕ) (word : List ℕ) → most < 2 ^ 32 → (all_ascii_digits word ≡ true → digits_value 10 word < 2 ^ 32 → ⊥) → None ≡ number_to most word
number_to-refused most word small other = no_number most word (λ digits le. other digits (omega arith))

pub number_to-far : (most n : ℕ) (word : List ℕ) → n ≡ digits_value 10 word → most < n → None ≡ number_to most word
number_to-far most n word is far = no_number most word (λ digits le. omega arith)

number_to-found : (most n : ℕ) (word : List ℕ) → 49 ≤ get_or word 0 0 → all_ascii_digits word ≡ true → n ≡ digits_value 10 word → n ≤ most → Some n ≡ number_to most word
number_to-found most n word first digits is near =
    let starts : nat_le 49 (get_or word 0 0) ≡ true = grind (arith, nat_tests) in
    let ends : nat_le (digits_value 10 word) most ≡ true = grind (arith, nat_tests) in
    rw (starts, digits, ends, is) refl

-- what `parse` makes of a word whose first byte is `1` or above
pub parsed : (E : Type 0) (word text : List ℕ) (r : Result ℕ E) → text ≡ word → 49 ≤ get_or word 0 0 → ParsesUnsigned 32 10 text r
    → OkIff r ((all_ascii_digits word ≡ true) × (0 < length word) × (digits_value 10 word < 2 ^ 32)) (digits_value 10 word)
parsed E word text r same first parses =
    let unsigned : get_or word 0 0 ≢ 43 = omega arith in
    parse_plain decimal_digits 32 word r (rw same at parses) unsigned

-- what stands for a word that `parse` read, and was near enough
pub number_to-parsed : (E : Type 0) (most n : ℕ) (word text : List ℕ) (r : Result ℕ E) → r ≡ Ok n → text ≡ word → 49 ≤ get_or word 0 0 → ParsesUnsigned 32 10 text r → n ≤ most
    → Some n ≡ number_to most word
number_to-parsed E most n word text (Ok m) is same first parses near =
    let read : ((all_ascii_digits word ≡ true) × (0 < length word) × (digits_value 10 word < 2 ^ 32)) × (m ≡ digits_value 10 word) = parsed E word text (Ok m) same first parses in
    let e : m ≡ n = cc in
    number_to-found most n word first read.0.0 (sym e ∙ read.1) near
number_to-parsed E most n word text (Err e) is same first parses near = absurd (cc)

after_grows : (n : ℕ) (word : List ℕ) → n ≤ digits_value_after 10 n word
after_grows n [] = omega arith
after_grows n (c ∷ cs) = omega (arith, after_grows (n * 10 + digit_value c) cs)

first_digit : (c : ℕ) → 49 ≤ c → is_ascii_digit c ≡ true → 1 ≤ digit_value c
first_digit c first digit =
    let above : nat_lt c 48 ≡ false = grind (arith, nat_tests) in
    let below : nat_lt c 58 ≡ true = grind (arith, nat_tests) in
    rw (above, below) (omega arith)

-- digits of which the first isn't `0` write a number above 0
pub number_some : (word : List ℕ) → 49 ≤ get_or word 0 0 → all_ascii_digits word ≡ true → 1 ≤ digits_value 10 word
number_some [] first digits = omega arith
number_some (c ∷ cs) first digits =
    let one : 1 ≤ digit_value c = first_digit c first (and_parts (is_ascii_digit c) (all_ascii_digits cs) digits).0 in
    omega (arith, one, after_grows (0 * 10 + digit_value c) cs)

-- the number that `parse` read is one from 1 on
pub parsed_some : (E : Type 0) (n : ℕ) (word text : List ℕ) (r : Result ℕ E) → r ≡ Ok n → text ≡ word → 49 ≤ get_or word 0 0 → ParsesUnsigned 32 10 text r → 1 ≤ n
parsed_some E n word text (Ok m) is same first parses =
    let read : ((all_ascii_digits word ≡ true) × (0 < length word) × (digits_value 10 word < 2 ^ 32)) × (m ≡ digits_value 10 word) = parsed E word text (Ok m) same first parses in
    let e : m ≡ n = cc in
    omega (arith, e, read.1, number_some word first read.0.0)
parsed_some E n word text (Err e) is same first parses = absurd (cc)
