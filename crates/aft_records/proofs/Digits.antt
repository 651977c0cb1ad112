-- Lower case digits: what decodes is what encodes, and which bytes they are not.
use Rattle.std.proofs.Common.{◌≡◌, ◌≢◌, ℕ, zero, suc, ◌+◌, ◌*◌, ◌/◌, ◌%◌, ◌<◌, ◌==◌, Bool, true, false, cond, ◌&&◌, not, ltb, List, [], ◌∷◌, length, slice_index, Option, Some, None, Result, Ok, Err, refl, sym, ap, ◌∙◌, arith, inl, inr}
use Rattle.std.specs.Prelude.{◌||◌}
use Rattle.std.specs.List.{list_any}
use Rattle.std.proofs.lemmas.Bool.{and_parts, or_parts, cases_lt, eqb-true, eqb-false}
use Rattle.hex.specs.declared.error.FromHexError.{FromHexError}
use Rattle.hex.specs.Hex.{IsBytes, ◌>>=◌, lower_digits, encode_with, encode_lower, hex_digit_value, digit_or_error, value_at, pair_value, decode_pairs, decode_of, decode_sized}
use Rattle.hex.proofs.HexLemmas.{decode_of-even, decode_of-ok, decode_sized-ok, decode_sized-twice}
use Rattle.aft_records.specs.NameReading.{is_upper}
use Rattle.aft_records.proofs.Splits.{Lacks}

-- ---- the sixteen digits, by a test that computes

abbrev all_pass : (ℕ → Bool) → ℕ → Bool
all_pass p zero = true
all_pass p (suc n) = p n && all_pass p n

all_pass-at : (p : ℕ → Bool) (n k : ℕ) → all_pass p n ≡ true → k < n → p k ≡ true
all_pass-at p zero k h lt = absurd (omega arith)
all_pass-at p (suc n) k h lt =
    let parts = and_parts (p n) (all_pass p n) h in
    elim (cases_lt k n) [
      | inl below ↦ all_pass-at p n k parts.1 below
      | inr top ↦
          let e : k ≡ n = omega arith in
          rw e parts.0
    ]

abbrev pub code_of : ℕ → ℕ
code_of v = cond (ltb v 10) (v + 48) (v + 87)

pub digit_spelled : (v : ℕ) → v < 16 → slice_index lower_digits v ≡ code_of v
digit_spelled v lt = eqb-true (slice_index lower_digits v) (code_of v) (all_pass-at (λ d. slice_index lower_digits d == code_of d) 16 v refl lt)

-- a digit that is not in upper case is the one of its value
digit_is : (c v : ℕ) → hex_digit_value c ≡ Some v → is_upper c ≡ false → (v < 16) × (code_of v ≡ c)
digit_is c v h low = grind arith

-- ---- what decodes is spelled so

bind_ok : {A B : Type 0} (r : Result A FromHexError) (f : A → Result B FromHexError) (y : B) → (r >>= f) ≡ Ok y → (x : A) × (r ≡ Ok x) × (f x ≡ Ok y)
bind_ok (Ok x) f y h = (x, refl, h)
bind_ok (Err e) f y h = absurd cc

abbrev done : {A : Type 0} → A → Result A FromHexError
done x = Ok x

ok_is : {A : Type 0} (x y : A) → done x ≡ done y → x ≡ y
ok_is x y e = cc

digit_read : (c i : ℕ) (o : Option ℕ) (v : ℕ) → digit_or_error c i o ≡ Ok v → o ≡ Some v
digit_read c i (Some w) v h = ap Some (ok_is w v h)
digit_read c i None v h = absurd cc

pub encode-decode_pairs : (i : ℕ) (s bytes : List ℕ) → decode_pairs i s ≡ Ok bytes → list_any is_upper s ≡ false → encode_lower bytes ≡ s
unfolding decode_pairs encode_with
encode-decode_pairs i [] bytes h low = ap encode_lower (sym (ok_is [] bytes h))
encode-decode_pairs i (a ∷ []) bytes h low = absurd cc
encode-decode_pairs i (a ∷ b ∷ rest) bytes h low =
    let p0 = bind_ok (pair_value a b i) (λ byte. decode_pairs (i + 2) rest >>= λ bytes. Ok (byte ∷ bytes)) bytes h in
    let p1 = bind_ok (value_at a i) (λ h. value_at b (i + 1) >>= λ l. Ok (h * 16 + l)) p0.0 p0.1 in
    let p2 = bind_ok (value_at b (i + 1)) (λ l. Ok (p1.0 * 16 + l)) p0.0 p1.2 in
    let p3 = bind_ok (decode_pairs (i + 2) rest) (λ bytes. Ok (p0.0 ∷ bytes)) bytes p0.2 in
    let l0 = or_parts (is_upper a) (is_upper b || list_any is_upper rest) low in
    let l1 = or_parts (is_upper b) (list_any is_upper rest) l0.1 in
    let da = digit_is a p1.0 (digit_read a i (hex_digit_value a) p1.0 p1.1) l0.0 in
    let db = digit_is b p2.0 (digit_read b (i + 1) (hex_digit_value b) p2.0 p2.1) l1.0 in
    let byte : p1.0 * 16 + p2.0 ≡ p0.0 = ok_is (p1.0 * 16 + p2.0) p0.0 p2.2 in
    let high : p0.0 / 16 ≡ p1.0 = omega arith in
    let rest-low : p0.0 % 16 ≡ p2.0 = omega arith in
    let first : slice_index lower_digits (p0.0 / 16) ≡ a = rw high (digit_spelled p1.0 da.0 ∙ da.1) in
    let second : slice_index lower_digits (p0.0 % 16) ≡ b = rw rest-low (digit_spelled p2.0 db.0 ∙ db.1) in
    let others = encode-decode_pairs (i + 2) rest p3.0 p3.1 l1.1 in
    ap encode_lower (sym (ok_is (p0.0 ∷ p3.0) bytes p3.2)) ∙ rw (first, second, others) refl

-- bytes that were decoded, and so spelled
pub record Spells (digits bytes : List ℕ) : Type 0 where
  pub spelled : encode_lower bytes ≡ digits
  pub fits : IsBytes bytes

pub decoded_spells : (s bytes : List ℕ) → decode_of s ≡ Ok bytes → list_any is_upper s ≡ false → Spells s bytes
decoded_spells s bytes h low =
    let ok = decode_of-ok s bytes h in
    record { spelled = encode-decode_pairs 0 s bytes (sym (decode_of-even s ok.0) ∙ h) low; fits = ok.3 }

pub sized_spells : (n : ℕ) (s bytes : List ℕ) → decode_sized s n ≡ Ok bytes → list_any is_upper s ≡ false → Spells s bytes × (length bytes ≡ n)
sized_spells n s bytes h low =
    let len = decode_sized-ok s n bytes h in
    let whole = sym (decode_sized-twice s n len) ∙ h in
    let twice = (decode_of-ok s bytes whole).2 in
    (decoded_spells s bytes whole low, omega arith)

-- ---- which bytes digits are not

-- a digit is no upper case letter, no dash and no slash
abbrev pub is_plain : ℕ → Bool
is_plain c = not (is_upper c) && not (c == 45) && not (c == 47)

plain_at : (v : ℕ) → v < 16 → is_plain (slice_index lower_digits v) ≡ true
plain_at v lt = all_pass-at (λ d. is_plain (slice_index lower_digits d)) 16 v refl lt

not_true : (b : Bool) → not b ≡ true → b ≡ false
not_true true h = sym h
not_true false h = refl

plain_low : (c : ℕ) → is_plain c ≡ true → is_upper c ≡ false
plain_low c h =
    let p = and_parts (not (is_upper c) && not (c == 45)) (not (c == 47)) h in
    not_true (is_upper c) (and_parts (not (is_upper c)) (not (c == 45)) p.0).0

pub no_dash : (c : ℕ) → is_plain c ≡ true → c ≢ 45
no_dash c h =
    let p = and_parts (not (is_upper c) && not (c == 45)) (not (c == 47)) h in
    eqb-false c 45 (not_true (c == 45) (and_parts (not (is_upper c)) (not (c == 45)) p.0).1)

pub no_slash : (c : ℕ) → is_plain c ≡ true → c ≢ 47
no_slash c h =
    let p = and_parts (not (is_upper c) && not (c == 45)) (not (c == 47)) h in
    eqb-false c 47 (not_true (c == 47) p.1)

pub digits_low : (bytes : List ℕ) → IsBytes bytes → list_any is_upper (encode_lower bytes) ≡ false
unfolding encode_with
digits_low [] fits = refl
digits_low (b ∷ bytes) fits =
    let byte = fits 0 in
    let high = plain_low (slice_index lower_digits (b / 16)) (plain_at (b / 16) (omega arith)) in
    let low = plain_low (slice_index lower_digits (b % 16)) (plain_at (b % 16) (omega arith)) in
    rw (high, low) (digits_low bytes (λ i. fits (suc i)))

Lacks-cons : (x : ℕ) (xs : List ℕ) (c : ℕ) → x ≢ c → Lacks xs c → Lacks (x ∷ xs) c
Lacks-cons x xs c h hs zero lt = h
Lacks-cons x xs c h hs (suc i) lt = hs i (omega arith)

pub digits_lack : (c : ℕ) → ((d : ℕ) → is_plain d ≡ true → d ≢ c) → (bytes : List ℕ) → IsBytes bytes → Lacks (encode_lower bytes) c
unfolding encode_with
digits_lack c other [] fits = λ i lt. absurd (omega arith)
digits_lack c other (b ∷ bytes) fits =
    let byte = fits 0 in
    let high = other (slice_index lower_digits (b / 16)) (plain_at (b / 16) (omega arith)) in
    let low = other (slice_index lower_digits (b % 16)) (plain_at (b % 16) (omega arith)) in
    Lacks-cons (slice_index lower_digits (b / 16)) (slice_index lower_digits (b % 16) ∷ encode_with lower_digits bytes) c high
    (Lacks-cons (slice_index lower_digits (b % 16)) (encode_with lower_digits bytes) c low (digits_lack c other bytes (λ i. fits (suc i))))
