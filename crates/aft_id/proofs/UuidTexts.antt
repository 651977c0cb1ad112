-- What a text names, by its length and its first byte.
use Rattle.std.proofs.Common.{◌≡◌, ◌≢◌, ◌↔◌, ℕ, ◌+◌, ◌*◌, ◌^◌, ◌<◌, ◌≤◌, ◌&&◌, Bool, true, false, true≢false, if◌then◌else◌, nat_eq, nat_le, nat_lt, List, [], ◌∷◌, length, get_or, take, drop, All, Option, Some, None, Result, Ok, Err, IsOk, IfOk, ok_or, inl, inr, ◌⊎◌, subst, slice_index, zero, suc, arith, refl, sym, ap, ◌∙◌}
use Rattle.std.proofs.lemmas.Bool.{cases_eq, and_parts}
use Rattle.std.proofs.lemmas.Bool.Decides.{nat_tests}
use Rattle.std.proofs.lemmas.List.{length-drop}
use Rattle.std.proofs.lemmas.List.Sums.{AllPass-from_list_all}
use Rattle.std.proofs.lemmas.Option.{none-some}
use Rattle.std.proofs.lemmas.Str.Parse.{IsNumeralModel, numerals_by_value, tells_all_ascii_digits, parse_plain}
use Rattle.std.specs.Cmp.Lexicographic.{same_text}
use Rattle.std.specs.Int.{w128, to_be_bytes, byte_at, bytes_high_first}
use Rattle.std.specs.List.{starts_with, list_all}
use Rattle.std.specs.Option.{option_or, option_map}
use Rattle.std.specs.Prelude.{codes}
use Rattle.std.specs.Result.{result_ok, OkIff}
use Rattle.std.specs.Str.{all_ascii_digits, str_eq_ignore_ascii_case}
use Rattle.std.specs.Str.Parse.{digits_value, ParsesUnsigned}
use Rattle.uuid.specs.Text.{parsed, parsed_simple, parsed_hyphenated, parsed_braced, urn_prefix, has_urn_prefix, digits_of, is_hex_digit, value_of, byte_of_digits, hyphen_place, hex_digit_value}
use Rattle.uuid.proofs.TextLemmas
use Rattle.uuid.proofs.TextLemmas.{by_index_length, by_index_at}
use Rattle.aft_id.specs.TxnId.{IsUuid}
use Rattle.aft_id.specs.UuidText.{uuid_of_digits, after_prefix, uuid_of_text}

-- the decimal digits of std and their value
pub decimal_digits : IsNumeralModel (λ ds. all_ascii_digits ds ≡ true) (digits_value 10)
decimal_digits = numerals_by_value _ tells_all_ascii_digits

-- a number in digits, as `parse` reads it
abbrev IsNumber : List ℕ → Type 0
IsNumber ds = (1 ≤ length ds) × (length ds ≤ 39) × (all_ascii_digits ds ≡ true) × (digits_value 10 ds < 2 ^ 128)

uuid_of_digits_some : (ds : List ℕ) → IsNumber ds → uuid_of_digits ds ≡ Some (to_be_bytes w128 (digits_value 10 ds))
uuid_of_digits_some ds is_number =
    let some : nat_le 1 (length ds) ≡ true = grind (arith, nat_tests) in
    let few : nat_le (length ds) 39 ≡ true = grind (arith, nat_tests) in
    let fits : nat_lt (digits_value 10 ds) (2 ^ 128) ≡ true = grind (arith, nat_tests) in
    rw (some, few, is_number.2, fits) refl

if_none : (b : Bool) (o : Option (List ℕ)) → (b ≡ true → ⊥) → (if b then o else None) ≡ None
if_none true o fails = absurd (fails refl)
if_none false o fails = refl

all_true : (a b c d : Bool) → (a && b && c && d) ≡ true → (a ≡ true) × (b ≡ true) × (c ≡ true) × (d ≡ true)
all_true a b c d test =
    let first = and_parts (a && b && c) d test in
    let second = and_parts (a && b) c first.0 in
    let third = and_parts a b second.0 in
    (third.0, third.1, second.1, first.1)

passes : (ds : List ℕ) → (nat_le 1 (length ds) && nat_le (length ds) 39 && all_ascii_digits ds && nat_lt (digits_value 10 ds) (2 ^ 128)) ≡ true → IsNumber ds
passes ds test =
    let t = all_true (nat_le 1 (length ds)) (nat_le (length ds) 39) (all_ascii_digits ds) (nat_lt (digits_value 10 ds) (2 ^ 128)) test in
    (grind (arith, nat_tests, t.0), grind (arith, nat_tests, t.1), t.2, grind (arith, nat_tests, t.3))

uuid_of_digits_none : (ds : List ℕ) → (IsNumber ds → ⊥) → uuid_of_digits ds ≡ None
uuid_of_digits_none ds other = if_none _ _ (λ test. other (passes ds test))

number_or_none : {E : Type 0} (ds : List ℕ) (r : Result ℕ E) → length ds ≤ 39
    → OkIff r ((all_ascii_digits ds ≡ true) × (0 < length ds) × (digits_value 10 ds < 2 ^ 128)) (digits_value 10 ds)
    → option_map (to_be_bytes w128) (result_ok r) ≡ uuid_of_digits ds
number_or_none ds (Ok n) few is = rw is.1 (sym (uuid_of_digits_some ds (omega arith, few, is.0.0, is.0.2)))
number_or_none ds (Err e) few is = sym (uuid_of_digits_none ds (λ n. is (n.2, omega arith, n.3)))

-- what `parse` of at most 39 digits with no sign gives
pub parsed_number : {E : Type 0} (ds : List ℕ) (r : Result ℕ E) → ParsesUnsigned 128 10 ds r → get_or ds 0 0 ≢ 43 → length ds ≤ 39
    → option_map (to_be_bytes w128) (result_ok r) ≡ uuid_of_digits ds
parsed_number ds r parses unsigned few = number_or_none ds r few (parse_plain decimal_digits 128 ds r parses unsigned)

-- what the crate's reader of all forms gives
pub parsed_ok : {E : Type 0} (r : Result (List ℕ) E) (o : Option (List ℕ)) → (IsOk r ↔ ((u : List ℕ) × (o ≡ Some u)))
    → IfOk r (λ u. Some u ≡ o) → result_ok r ≡ o
parsed_ok (Ok u) o ok bytes = bytes
parsed_ok (Err e) None ok bytes = refl
parsed_ok (Err e) (Some u) ok bytes = absurd (true≢false (sym (ok.1 (u, refl))))

-- each form has its length
simple_none : (s : List ℕ) → length s ≢ 32 → parsed_simple s ≡ None
simple_none s other = let test : nat_eq (length s) 32 ≡ false = grind (arith, nat_tests) in rw test refl

hyphenated_none : (s : List ℕ) → length s ≢ 36 → parsed_hyphenated s ≡ None
hyphenated_none s other = let test : nat_eq (length s) 36 ≡ false = grind (arith, nat_tests) in rw test refl

braced_none : (s : List ℕ) → length s ≢ 38 → parsed_braced s ≡ None
braced_none s other = let test : nat_eq (length s) 38 ≡ false = grind (arith, nat_tests) in rw test refl

none_either_way : (b : Bool) (o : Option (List ℕ)) → o ≡ None → (if b then o else None) ≡ None
none_either_way true o none = none
none_either_way false o none = refl

urn_none : (s : List ℕ) → length s ≢ 45 → after_prefix urn_prefix parsed_hyphenated s ≡ None
urn_none s other =
    none_either_way (starts_with nat_eq s urn_prefix) _ (hyphenated_none (drop 9 s) (λ long. other (omega (arith, length-drop 9 s))))

-- a text with the prefix in lower case
urn_same : (s : List ℕ) → starts_with nat_eq s urn_prefix ≡ true → length s ≡ 45 → parsed s ≡ after_prefix urn_prefix parsed_hyphenated s
urn_same s prefix long =
    let same : urn_prefix ≡ take 9 s = same_text urn_prefix (take 9 s) (sym prefix) in
    let has : has_urn_prefix s ≡ true = ap (λ l. str_eq_ignore_ascii_case l urn_prefix) (sym same) in
    rw (long, has, prefix) refl

-- the four hexadecimal forms
abbrev pub spelled : List ℕ → Option (List ℕ)
spelled s = option_or (parsed_simple s) (option_or (parsed_hyphenated s) (option_or (parsed_braced s) (after_prefix urn_prefix parsed_hyphenated s)))

or_none : (o : Option (List ℕ)) → option_or o None ≡ o
or_none None = refl
or_none (Some u) = refl

fourth : (a b c d : Option (List ℕ)) → a ≡ None → b ≡ None → c ≡ None → option_or a (option_or b (option_or c d)) ≡ d
fourth a b c d no_a no_b no_c = rw (no_a, no_b, no_c) refl

-- a text of the length of the last form, with another prefix
pub other_prefix : (s : List ℕ) → length s ≡ 45 → starts_with nat_eq s urn_prefix ≡ false → spelled s ≡ None
other_prefix s long prefix =
    rw (simple_none s (λ e. omega arith), hyphenated_none s (λ e. omega arith), braced_none s (λ e. omega arith), prefix) refl

-- the crate's reader of all forms, but for the prefix in other case
pub parsed_spelled : (s : List ℕ) → (length s ≡ 45 → starts_with nat_eq s urn_prefix ≡ true) → parsed s ≡ spelled s
parsed_spelled s prefix =
    elim (cases_eq (length s) 32) [
      | inl simple ↦
          rw (hyphenated_none s (λ e. omega arith), braced_none s (λ e. omega arith), urn_none s (λ e. omega arith), or_none (parsed_simple s), simple) refl
      | inr not_simple ↦
          elim (cases_eq (length s) 36) [
            | inl hyphenated ↦
                rw (simple_none s not_simple, braced_none s (λ e. omega arith), urn_none s (λ e. omega arith), or_none (parsed_hyphenated s), hyphenated) refl
            | inr not_hyphenated ↦
                elim (cases_eq (length s) 38) [
                  | inl braced ↦
                      rw (simple_none s not_simple, hyphenated_none s not_hyphenated, urn_none s (λ e. omega arith), or_none (parsed_braced s), braced) refl
                  | inr not_braced ↦ last not_simple not_hyphenated not_braced (cases_eq (length s) 45)
                ]
          ]
    ]
  where
    last : length s ≢ 32 → length s ≢ 36 → length s ≢ 38 → (length s ≡ 45) ⊎ (length s ≢ 45) → parsed s ≡ spelled s
    last not_simple not_hyphenated not_braced (inl urn) =
        urn_same s (prefix urn) urn
        ∙ sym (fourth _ _ _ _ (simple_none s not_simple) (hyphenated_none s not_hyphenated) (braced_none s not_braced))
    last not_simple not_hyphenated not_braced (inr not_urn) =
        let at_32 : nat_eq (length s) 32 ≡ false = grind (arith, nat_tests) in
        let at_36 : nat_eq (length s) 36 ≡ false = grind (arith, nat_tests) in
        let at_38 : nat_eq (length s) 38 ≡ false = grind (arith, nat_tests) in
        let at_45 : nat_eq (length s) 45 ≡ false = grind (arith, nat_tests) in
        rw (urn_none s not_urn, at_32, at_36, at_38, at_45) refl

-- a text with `@` in front is of no other form
digits_none_at_sign : (ds : List ℕ) → parsed_simple (64 ∷ ds) ≡ None
digits_none_at_sign ds = sym (TextLemmas.simple_none (64 ∷ ds) 0 (omega arith) refl)

hyphenated_none_at_sign : (ds : List ℕ) → parsed_hyphenated (64 ∷ ds) ≡ None
hyphenated_none_at_sign ds =
    let place : ℕ → ℕ = λ k. slice_index (64 ∷ ds) (hyphen_place k) in
    let long : length (digits_of (64 ∷ ds)) ≡ 32 = by_index_length 32 place in
    let first : get_or (digits_of (64 ∷ ds)) 0 0 ≡ 64 = by_index_at 32 place 0 0 (omega arith) in
    none_either_way _ _ (sym (TextLemmas.simple_none (digits_of (64 ∷ ds)) 0 (omega arith) (ap hex_digit_value first)))

braced_none_at_sign : (ds : List ℕ) → parsed_braced (64 ∷ ds) ≡ None
braced_none_at_sign ds =
    if_none _ _ (λ test. true≢false (sym (and_parts (nat_eq (length (64 ∷ ds)) 38) false (and_parts _ (nat_eq (slice_index (64 ∷ ds) 37) 125) test).0).1))

pub at_sign : (ds : List ℕ) → uuid_of_text (64 ∷ ds) ≡ uuid_of_digits ds
at_sign ds =
    let urn : after_prefix urn_prefix parsed_hyphenated (64 ∷ ds) ≡ None = refl in
    let number : after_prefix (codes "@") uuid_of_digits (64 ∷ ds) ≡ uuid_of_digits ds = refl in
    fourth _ _ _ _ (digits_none_at_sign ds) (hyphenated_none_at_sign ds) (braced_none_at_sign ds)
    ∙ ap (λ o. option_or o (after_prefix (codes "@") uuid_of_digits (64 ∷ ds))) urn ∙ number

-- a text with no `@` in front is of another form
number_none : (s : List ℕ) → ((rest : List ℕ) → s ≢ 64 ∷ rest) → after_prefix (codes "@") uuid_of_digits s ≡ None
number_none [] other = refl
number_none (c ∷ cs) other =
    if_none _ _ (λ prefix.
    let same : 64 ∷ [] ≡ c ∷ [] = same_text (64 ∷ []) (c ∷ []) (sym prefix) in
    let first : c ≡ 64 = cc in
    other cs (ap (λ b. b ∷ cs) first))

last_none : (a b c d e : Option (List ℕ)) → e ≡ None
    → option_or a (option_or b (option_or c (option_or d e))) ≡ option_or a (option_or b (option_or c d))
last_none a b c d e none = rw (none, or_none d) refl

pub no_at_sign : (s : List ℕ) → ((rest : List ℕ) → s ≢ 64 ∷ rest) → uuid_of_text s ≡ spelled s
no_at_sign s other =
    last_none (parsed_simple s) (parsed_hyphenated s) (parsed_braced s) (after_prefix urn_prefix parsed_hyphenated s) _ (number_none s other)

-- a result, if there is one, has the bytes of a UUID
abbrev NamesUuid : Option (List ℕ) → Type 0
NamesUuid o = (u : List ℕ) → o ≡ Some u → IsUuid u

names_either : (a b : Option (List ℕ)) → NamesUuid a → NamesUuid b → NamesUuid (option_or a b)
names_either None b first second = second
names_either (Some u) b first second = first

names_if : (b : Bool) (o : Option (List ℕ)) → (b ≡ true → NamesUuid o) → NamesUuid (if b then o else None)
names_if true o names = names refl
names_if false o names = λ u is. absurd (none-some u is)

names_some : (u : List ℕ) → IsUuid u → NamesUuid (Some u)
names_some u is v same = let alike : u ≡ v = cc in subst IsUuid alike is

digit_small : (c : ℕ) → is_hex_digit c ≡ true → value_of c < 16
digit_small c hex = grind (arith, nat_tests)

names_simple : (s : List ℕ) → NamesUuid (parsed_simple s)
names_simple s =
    names_if (nat_eq (length s) 32 && list_all is_hex_digit s) _ (λ test.
    let parts = and_parts (nat_eq (length s) 32) (list_all is_hex_digit s) test in
    let long : length s ≡ 32 = grind (arith, nat_tests, parts.0) in
    let digits = AllPass-from_list_all is_hex_digit s parts.1 in
    names_some _ (
      by_index_length 16 (byte_of_digits s),
      λ k d within.
          let place : k < 16 = omega (arith, by_index_length 16 (byte_of_digits s)) in
          let high = digit_small (slice_index s (2 * k)) (digits (2 * k) 0 (omega arith)) in
          let low = digit_small (slice_index s (2 * k + 1)) (digits (2 * k + 1) 0 (omega arith)) in
          rw (by_index_at 16 (byte_of_digits s) k d place) (omega (arith, high, low)),
    ))

names_hyphenated : (s : List ℕ) → NamesUuid (parsed_hyphenated s)
names_hyphenated s = names_if _ _ (λ test. names_simple (digits_of s))

byte_small : (k n : ℕ) → byte_at k n < 256
byte_small zero n = omega arith
byte_small (suc k) n = omega arith

bytes_small : (k n : ℕ) → All (λ b. b < 256) (bytes_high_first k n)
bytes_small zero n i d within = absurd (omega arith)
bytes_small (suc k) n zero d within = byte_small k n
bytes_small (suc k) n (suc i) d within = bytes_small k n i d (omega arith)

names_number : (ds : List ℕ) → NamesUuid (uuid_of_digits ds)
names_number ds = names_if _ _ (λ test. names_some _ (refl, bytes_small 16 (digits_value 10 ds)))

-- what a text names has the bytes of a UUID
pub uuid_of_text_IsUuid : (s u : List ℕ) → uuid_of_text s ≡ Some u → IsUuid u
uuid_of_text_IsUuid s =
    names_either (parsed_simple s) _ (names_simple s)
    (names_either (parsed_hyphenated s) _ (names_hyphenated s)
    (names_either (parsed_braced s) _ (names_if _ _ (λ test. names_hyphenated (take 36 (drop 1 s))))
    (names_either (after_prefix urn_prefix parsed_hyphenated s) _ (names_if _ _ (λ test. names_hyphenated (drop 9 s)))
    (names_if _ _ (λ test. names_number (drop 1 s))))))

-- the answer of a reader whose only error is e
pub ok_or_read : {E : Type 0} (o : Option (List ℕ)) (e : E) (r : Result (List ℕ) E) → r ≡ ok_or o e → IfOk r (λ u. o ≡ Some u)
ok_or_read None e (Ok v) is = absurd (cc)
ok_or_read (Some u) e (Ok v) is = cc
ok_or_read o e (Err d) is = tt

pub ok_or_refused : {E : Type 0} (o : Option (List ℕ)) (e : E) → (ok_or o e ≡ Err e) ↔ (o ≡ None)
ok_or_refused None e = (λ _. refl, λ _. refl)
ok_or_refused (Some u) e = (λ is. cc, λ is. cc)

pub ok_or_IsUuid : {E : Type 0} (s : List ℕ) (r : Result (List ℕ) E) → IfOk r (λ u. uuid_of_text s ≡ Some u) → IfOk r IsUuid
ok_or_IsUuid s (Ok u) read = uuid_of_text_IsUuid s u read
ok_or_IsUuid s (Err e) read = tt
