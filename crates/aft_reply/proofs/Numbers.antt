-- The number that a word is read as.
use Rattle.std.proofs.Common.{Bool, Err, List, Ok, Result, arith, cond, false, length, nat_lt, not, refl, sym, true, ℕ, ◌&&◌, ◌<◌, ◌==◌, ◌^◌, ◌≡◌}
use Rattle.std.specs.Fmt.{decimal}
use Rattle.std.specs.Result.{MatchResult}
use Rattle.std.specs.Str.{all_ascii_digits}
use Rattle.std.specs.Str.Parse.{ParsesUnsigned, digits_value, without_leading_plus}
use Rattle.std.proofs.lemmas.Bool.{and_parts}
use Rattle.std.proofs.lemmas.Bool.Decides.{nat_tests}
use Rattle.std.proofs.lemmas.Fmt.{decimal_nonempty, digits_decimal, digits_value-decimal}
use Rattle.std.proofs.lemmas.Str.Parse.{without_leading_plus_none}
use Rattle.aft_id.proofs.IdTexts.{decimal_plain}
use Rattle.aft_id.proofs.UuidTexts.{decimal_digits}
use Rattle.aft_reply.specs.Reading.{count_of, node_of}
use Rattle.aft_reply.specs.declared.fault.ReplyFault.TheVariants.{BadReply}

-- by whether a test passes
pub err_unless : {A : Type 0} (b : Bool) (x : A) → (b ≡ true → ⊥) → Err BadReply ≡ (cond b (Ok x) (Err BadReply))
err_unless true x fails = absurd (fails refl)
err_unless false x fails = refl

-- a text of digits is read as their number
digits_read : (word : List ℕ) (n : ℕ) → 0 < length (without_leading_plus word) → all_ascii_digits (without_leading_plus word) ≡ true
    → digits_value 10 (without_leading_plus word) < 2 ^ 64 → n ≡ digits_value 10 (without_leading_plus word) → Ok n ≡ count_of word
digits_read word n some digits small is =
    let any : (length (without_leading_plus word) == 0) ≡ false = grind (arith, nat_tests) in
    let fits : nat_lt (digits_value 10 (without_leading_plus word)) (2 ^ 64) ≡ true = grind (arith, nat_tests) in
    rw (any, digits, fits, is) refl

-- what `parse` answers
pub count_of-parse : {E : Type 0} (word : List ℕ) (r : Result ℕ E) → ParsesUnsigned 64 10 word r → MatchResult r (λ n. Ok n ≡ count_of word) (λ e. Err BadReply ≡ count_of word)
count_of-parse word (Ok n) parses =
    digits_read word n parses.0.0.0 (decimal_digits.from (without_leading_plus word) parses.0.0.1) parses.0.1 parses.1
count_of-parse word (Err e) parses =
    err_unless _ (digits_value 10 (without_leading_plus word)) (λ test.
    let two = and_parts (not (length (without_leading_plus word) == 0) && all_ascii_digits (without_leading_plus word)) (nat_lt (digits_value 10 (without_leading_plus word)) (2 ^ 64)) test in
    let one = and_parts (not (length (without_leading_plus word) == 0)) (all_ascii_digits (without_leading_plus word)) two.0 in
    let some : 0 < length (without_leading_plus word) = grind (arith, nat_tests, one.0) in
    let fits : digits_value 10 (without_leading_plus word) < 2 ^ 64 = grind (arith, nat_tests, two.1) in
    parses ((some, decimal_digits.to (without_leading_plus word) one.1), fits))

-- the digits of a number
pub count_of-decimal : (n : ℕ) → n < 2 ^ 64 → count_of (decimal n) ≡ Ok n
count_of-decimal n fits =
    let same : without_leading_plus (decimal n) ≡ decimal n = without_leading_plus_none (decimal n) (decimal_plain n fits).0 in
    let value : digits_value 10 (decimal n) ≡ n = digits_value-decimal decimal_digits n fits in
    sym (digits_read (decimal n) n (rw same (decimal_nonempty n fits)) (rw same (digits_decimal decimal_digits n fits)) (rw (same, value) fits) (rw (same, value) refl))

pub node_of-decimal : (n : ℕ) → n < 2 ^ 32 → node_of (decimal n) ≡ Ok n
node_of-decimal n fits =
    let small : nat_lt n (2 ^ 32) ≡ true = grind (arith, nat_tests) in
    rw (count_of-decimal n (omega arith), small) refl
