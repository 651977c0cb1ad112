-- The text of an id, read back.
use Rattle.std.proofs.Common.{◌≡◌, ◌≢◌, ℕ, ◌<◌, ◌^◌, List, length, get_or, Option, Some, Result, Ok, Err, IsOk, IfOk, ◌↔◌, refl, Bor, inl, inr, arith, sym, ap, ◌∙◌}
use Rattle.std.proofs.lemmas.Fmt.{parse-decimal, first_decimal, decimal_digit, decimal_nonempty, decimal-digits_value, digits_decimal}
use Rattle.std.proofs.lemmas.Bool.{cases_eq}
use Rattle.std.proofs.lemmas.Str.Parse.{parse_plain, not_in_digits}
use Rattle.std.proofs.lemmas.Str.Pattern.{IsSplitOnceResult, split_after}
use Rattle.std.specs.Fmt.{decimal}
use Rattle.std.specs.Option.{MatchOption}
use Rattle.std.specs.Result.{result_ok}
use Rattle.std.specs.Str.Parse.{ParsesUnsigned}
use Rattle.uuid.specs.Text.{hyphenated_text, lower, parsed}
use Rattle.uuid.proofs.RoundTrips.{parse_gives, parses_hyphenated}
use Rattle.aft_id.specs.TxnId.{IsUuid, id_text}
use Rattle.aft_id.specs.declared.txn_id.TxnId.{TxnId}
use Rattle.aft_id.proofs.UuidTexts.{decimal_digits}

-- the digits of a number, as they are written, have no sign and no leading zero
pub decimal_plain : (n : ℕ) → n < 2 ^ 64 → (get_or (decimal n) 0 0 ≢ 43) × (get_or (decimal n) 0 0 ≡ 48 → length (decimal n) ≡ 1)
decimal_plain n fits = (
  not_in_digits decimal_digits (decimal n) 43 (digits_decimal decimal_digits n fits) (λ r. omega arith) 0 (decimal_nonempty n fits),
  λ zero_first. elim (cases_eq n 0) [
    | inl is_zero ↦ rw is_zero (ap length (decimal_digit 0 (omega arith)))
    | inr positive ↦ absurd (omega (arith, first_decimal n (omega arith) fits))
  ],
)

-- what is read of the digits of a number
pub read_decimal : {E : Type 0} (n : ℕ) (ds : List ℕ) (r : Result ℕ E) (o : Option ℕ) → n < 2 ^ 64 → ds ≡ decimal n → ParsesUnsigned 64 10 ds r
    → o ≡ result_ok r → o ≡ Some n
read_decimal n ds r o fits text parses is = is ∙ ap result_ok (parse-decimal 64 n ds r fits fits text parses)

-- a plain number that was read is the digits of its value
pub read_plain : {E : Type 0} (n : ℕ) (ds : List ℕ) (r : Result ℕ E) → ParsesUnsigned 64 10 ds r → get_or ds 0 0 ≢ 43
    → (get_or ds 0 0 ≡ 48 → length ds ≡ 1) → Some n ≡ result_ok r → ds ≡ decimal n
read_plain {E} n ds (Ok m) parses unsigned plain is =
    let digits = parse_plain decimal_digits {E = E} 64 ds (Ok m) parses unsigned in
    let value : n ≡ m = cc in
    sym (decimal-digits_value decimal_digits ds digits.0.0 digits.0.1 plain digits.0.2) ∙ ap decimal (sym (value ∙ digits.1))
read_plain {E} n ds (Err e) parses unsigned plain is = cc

-- what is read of a hyphenated text in lower case
pub read_lower : {E : Type 0} (u bs : List ℕ) (r : Result (List ℕ) E) (o : Option (List ℕ)) → IsUuid u → bs ≡ hyphenated_text lower u
    → (IsOk r ↔ ((x : List ℕ) × (parsed bs ≡ Some x))) → IfOk r (λ x. Some x ≡ parsed bs) → o ≡ result_ok r → o ≡ Some u
read_lower u bs r o is text ok bytes from =
    let parses : Some u ≡ parsed bs = rw text (parses_hyphenated lower u (inl refl) is.0 is.1) in
    from ∙ ap result_ok (parse_gives r bs u ok bytes parses)

-- the two parts of the text of an id, cut at its first hyphen
pub cut_id : (id : TxnId) (bs : List ℕ) (r : Option (Bor (List ℕ) × Bor (List ℕ))) → id.time < 2 ^ 48 → bs ≡ id_text id
    → IsSplitOnceResult 45 bs r
    → MatchOption r ⊥ (λ x. (x.0.now ≡ decimal id.time) × (x.1.now ≡ hyphenated_text lower id.uuid))
cut_id id bs r fits text cuts =
    split_after 45 bs (decimal id.time) (hyphenated_text lower id.uuid) r cuts (omega arith) text
    (not_in_digits decimal_digits (decimal id.time) 45 (digits_decimal decimal_digits id.time (omega arith)) (λ range. omega arith))
