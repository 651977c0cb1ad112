-- When a word is a number.
use Rattle.std.proofs.Common.{Bool, Err, List, None, Ok, Option, Result, Some, ap, false, get_or, if◌then◌else◌, refl, true, ℕ, ◌≡◌, ◌≢◌, ◌∙◌}
use Rattle.std.specs.Result.{result_ok}
use Rattle.std.specs.Str.{all_ascii_digits}
use Rattle.std.specs.Str.Parse.{ParsesUnsigned, digits_value}
use Rattle.std.proofs.lemmas.Bool.{and_from, and_parts, lt-ltb, ltb-true}
use Rattle.std.proofs.lemmas.Str.Parse.{IsNumeralModel, numerals_by_value, parse_plain, tells_all_ascii_digits}
use Rattle.aft_words.specs.Reading.{number_of}

digits : IsNumeralModel (λ ds. all_ascii_digits ds ≡ true) (digits_value 10)
digits = numerals_by_value _ tells_all_ascii_digits

chosen : (b : Bool) (o : Option ℕ) → b ≡ true → o ≡ (if b then o else None)
chosen true o holds = refl
chosen false o holds = absurd (cc)

left_out : (b : Bool) (o : Option ℕ) → (b ≡ true → ⊥) → None ≡ (if b then o else None)
left_out true o fails = absurd (fails refl)
left_out false o fails = refl

-- what `parse` makes of a word without a sign is its number
pub number_of-parsed : {E : Type 0} (word : List ℕ) (r : Result ℕ E) → ParsesUnsigned 64 10 word r → get_or word 0 0 ≢ 43 → result_ok r ≡ number_of word
number_of-parsed {E = E} word (Ok n) parses unsigned =
    let p = parse_plain digits {E = E} 64 word (Ok n) parses unsigned in
    ap Some p.1 ∙ chosen _ (Some (digits_value 10 word)) (and_from _ _ (and_from _ _ p.0.0 (lt-ltb _ _ p.0.1)) (lt-ltb _ _ p.0.2))
number_of-parsed {E = E} word (Err e) parses unsigned =
    let p = parse_plain digits {E = E} 64 word (Err e) parses unsigned in
    left_out _ (Some (digits_value 10 word)) (λ holds.
    let a = and_parts _ _ holds in
    let b = and_parts _ _ a.0 in
    p (b.0, ltb-true _ _ b.1, ltb-true _ _ a.1))
