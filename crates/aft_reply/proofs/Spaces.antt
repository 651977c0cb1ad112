-- Words have no spaces, and are cut at those between them.
use Rattle.std.proofs.Common.{All, Bool, Bor, List, None, Option, Some, [], ap, arith, cond, false, get_or, length, nat_eq, nat_lt, not, refl, sym, true, ℕ, ◌%◌, ◌&&◌, ◌++◌, ◌+◌, ◌-◌, ◌/◌, ◌<◌, ◌==◌, ◌≢◌, ◌^◌, ◌≡◌, ◌∙◌, ◌∷◌}
use Rattle.std.specs.Char.{is_ascii_digit}
use Rattle.std.specs.Fmt.{decimal}
use Rattle.std.specs.List.{list_all, starts_with}
use Rattle.std.specs.Option.{MatchOption}
use Rattle.std.specs.Prelude.{codes}
use Rattle.std.specs.Str.{all_ascii_digits}
use Rattle.std.proofs.lemmas.Bool.{and_parts}
use Rattle.std.proofs.lemmas.Bool.Decides.{nat_tests}
use Rattle.std.proofs.lemmas.Fmt.{digits_decimal}
use Rattle.std.proofs.lemmas.List.Elements.{All-from_get_or, All-head, All-tail}
use Rattle.std.proofs.lemmas.List.Folds.{list_all-append}
use Rattle.std.proofs.lemmas.List.Splits.{slice_split_at, slice_split_none}
use Rattle.std.proofs.lemmas.List.Sums.{AllPass-from_list_all, list_all-from_AllPass}
use Rattle.std.proofs.lemmas.Str.Pattern.{IsSplitOnceResult, split_parts}
use Rattle.hex.specs.Hex.{encode_lower, encode_with, lower_digits}
use Rattle.uuid.specs.Text.{digit_place, hex_digit, is_hyphen_place, lower, nibble}
use Rattle.uuid.proofs.TextLemmas.{by_index_at, by_index_length, nibble_small}
use Rattle.aft_id.specs.declared.txn_id.TxnId.{TxnId}
use Rattle.aft_id.specs.TxnId.{same_id, zero_id}
use Rattle.aft_id.proofs.UuidTexts.{decimal_digits}
use Rattle.aft_records.specs.Limits.{is_key_byte}
use Rattle.aft_model.specs.ReplyText.{id_word, is_plain, spaced, uuid_word, value_word}
use Rattle.aft_reply.specs.Limits.{IsValue}
use Rattle.aft_reply.specs.Reading.{is_space, words_of}

-- whether a word has no space
abbrev pub is_word : List ℕ → Bool
is_word word = list_all (λ b. not (is_space b)) word

no_space : (b : Bool) → not b ≡ true → b ≡ false
no_space true is = sym is
no_space false is = refl

-- words with one space between each two are cut into those words
pub words_of-spaced : (word : List ℕ) (words : List (List ℕ)) → is_word word ≡ true → list_all is_word words ≡ true → words_of (spaced (word ∷ words)) ≡ word ∷ words
words_of-spaced word [] first rest = slice_split_none is_space word (λ k d within. no_space _ (AllPass-from_list_all (λ b. not (is_space b)) word first k d within))
words_of-spaced word (next ∷ words) first rest =
    let parts = and_parts (is_word next) (list_all is_word words) rest in
    slice_split_at is_space word 32 (spaced (next ∷ words)) (λ k d within. no_space _ (AllPass-from_list_all (λ b. not (is_space b)) word first k d within)) refl
    ∙ ap (λ more. word ∷ more) (words_of-spaced next words parts.0 parts.1)

all_no_space : (text : List ℕ) → ((i : ℕ) → i < length text → get_or text i 0 ≢ 32) → All (λ b. is_space b ≡ false) text
all_no_space text none = All-from_get_or (λ b. is_space b ≡ false) text 0 (λ i within. let other : get_or text i 0 ≢ 32 = none i within in grind (arith, nat_tests))

-- a text is cut at its first space
pub words_of-cut : (text : List ℕ) (r : Option (Bor (List ℕ) × Bor (List ℕ))) → IsSplitOnceResult 32 text r
    → MatchOption r (words_of text ≡ text ∷ []) (λ x. words_of text ≡ x.0.now ∷ words_of x.1.now)
words_of-cut text None cut = slice_split_none is_space text (all_no_space text (split_parts 32 text None cut (omega arith)))
words_of-cut text (Some x) cut =
    let parts = split_parts 32 text (Some x) cut (omega arith) in
    rw parts.0 (slice_split_at is_space x.0.now 32 x.1.now (all_no_space x.0.now parts.1) refl)

digit_no_space : (c : ℕ) → is_ascii_digit c ≡ true → not (is_space c) ≡ true
digit_no_space c digit = grind (arith, nat_tests)

digits_are_word : (ds : List ℕ) → all_ascii_digits ds ≡ true → is_word ds ≡ true
digits_are_word [] digits = refl
digits_are_word (c ∷ cs) digits =
    let parts = and_parts (is_ascii_digit c) (all_ascii_digits cs) digits in
    rw (digit_no_space c parts.0, digits_are_word cs parts.1) refl

-- the digits of a number
pub is_word-decimal : (n : ℕ) → n < 2 ^ 64 → is_word (decimal n) ≡ true
is_word-decimal n fits = digits_are_word (decimal n) (digits_decimal decimal_digits n fits)

hex_no_space : (d : ℕ) (low : Bool) → d < 16 → nat_lt d 10 ≡ low → not (is_space (cond low (48 + d) (97 + d - 10))) ≡ true
hex_no_space d true small is = grind (arith, nat_tests)
hex_no_space d false small is = grind (arith, nat_tests)

place_no_space : (uuid : List ℕ) (k : ℕ) (b : Bool) → not (is_space (cond b 45 (hex_digit lower (nibble uuid (digit_place k))))) ≡ true
place_no_space uuid k true = refl
place_no_space uuid k false = hex_no_space (nibble uuid (digit_place k)) _ (nibble_small uuid (digit_place k)) refl

-- a UUID
pub is_word-uuid : (uuid : List ℕ) → is_word (uuid_word uuid) ≡ true
is_word-uuid uuid =
    list_all-from_AllPass (λ b. not (is_space b)) (uuid_word uuid)
    (All-from_get_or (λ b. not (is_space b) ≡ true) (uuid_word uuid) 0 (λ i within.
    let far : i < 36 = rw (by_index_length 36 (λ k. cond (is_hyphen_place k) 45 (hex_digit lower (nibble uuid (digit_place k))))) at within in
    rw (by_index_at 36 (λ k. cond (is_hyphen_place k) 45 (hex_digit lower (nibble uuid (digit_place k)))) i 0 far) (place_no_space uuid i (is_hyphen_place i))))

id_either_way : (id : TxnId) (zero : Bool) → id.time < 2 ^ 48 → same_id id zero_id ≡ zero → is_word (id_word id) ≡ true
id_either_way id true small is = rw is refl
id_either_way id false small is =
    rw is (list_all-append (λ b. not (is_space b)) (decimal id.time) (45 ∷ uuid_word id.uuid) ∙ rw (is_word-decimal id.time (omega arith), is_word-uuid id.uuid) refl)

-- an id
pub is_word-id : (id : TxnId) → id.time < 2 ^ 48 → is_word (id_word id) ≡ true
is_word-id id small = id_either_way id (same_id id zero_id) small refl

key_no_space : (b : ℕ) → is_key_byte b ≡ true → not (is_space b) ≡ true
key_no_space b graphic = grind (arith, nat_tests)

-- bytes of 33 to 126
pub is_word-graphic : (bytes : List ℕ) → list_all is_key_byte bytes ≡ true → is_word bytes ≡ true
is_word-graphic [] all = refl
is_word-graphic (b ∷ bytes) all =
    let parts = and_parts (is_key_byte b) (list_all is_key_byte bytes) all in
    rw (key_no_space b parts.0, is_word-graphic bytes parts.1) refl

-- words in front of others
pub words_and_words : (before behind : List (List ℕ)) → list_all is_word before ≡ true → list_all is_word behind ≡ true → list_all is_word (before ++ behind) ≡ true
words_and_words before behind first rest = list_all-append is_word before behind ∙ rw (first, rest) refl

-- digits of bytes
is_word-digits : (bytes : List ℕ) → IsValue bytes → is_word (encode_lower bytes) ≡ true
unfolding encode_with
is_word-digits [] is = refl
is_word-digits (b ∷ bytes) is =
    let small : b < 256 = All-head (λ b. b < 256) b bytes is in
    let high : not (is_space (get_or lower_digits (b / 16) 0)) ≡ true = AllPass-from_list_all (λ b. not (is_space b)) lower_digits refl (b / 16) 0 (omega arith) in
    let low : not (is_space (get_or lower_digits (b % 16) 0)) ≡ true = AllPass-from_list_all (λ b. not (is_space b)) lower_digits refl (b % 16) 0 (omega arith) in
    rw (high, low, is_word-digits bytes (All-tail (λ b. b < 256) b bytes is)) refl

value_either_way : (value : List ℕ) (plain : Bool) → IsValue value → is_plain value ≡ plain → is_word (value_word value) ≡ true
value_either_way value true is test =
    let parts = and_parts (not (length value == 0) && list_all is_key_byte value) (not (starts_with nat_eq value (codes "#"))) test in
    let graphic = and_parts (not (length value == 0)) (list_all is_key_byte value) parts.0 in
    rw test (is_word-graphic value graphic.1)
value_either_way value false is test = rw (test, is_word-digits value is) refl

-- a value
pub is_word-value : (value : List ℕ) → IsValue value → is_word (value_word value) ≡ true
is_word-value value is = value_either_way value (is_plain value) is refl
