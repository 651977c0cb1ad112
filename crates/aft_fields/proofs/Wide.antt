-- Numbers of a width as bytes, the high byte first: each is read as it was written, and written as it was read.
use Rattle.std.proofs.Common.{◌≡◌, ℕ, zero, suc, ◌+◌, ◌*◌, ◌/◌, ◌%◌, ◌^◌, ◌<◌, ◌≤◌, List, [], ◌∷◌, length, get_or, refl, sym, ap, subst, ◌∙◌, arith, lit<}
use Rattle.std.specs.Int.{Width, w32, w64, w128, byte_len, byte_at, bytes_high_first, from_be_bytes, to_be_bytes}
use Rattle.std.proofs.Math.Nat.{pow-succ', mul-le-mul_right, mod-eq_of_lt, mod-lt, one-le-pow}
use Rattle.std.proofs.Math.Arith.{mod-mul}
use Rattle.std.proofs.lemmas.Nat.{div-mul-add, mod-mul-add, be_bytes_4, be_bytes_8, from_be_bytes-to_be_bytes_4, from_be_bytes-to_be_bytes_8}
use Rattle.aft_fields.proofs.Bytes.{IsBytes, IsBytes-rest}

-- ---- any number of bytes

-- the number of some bytes, the first of them the highest
abbrev big_endian : List ℕ → ℕ
big_endian [] = 0
big_endian (x ∷ xs) = x * 256 ^ length xs + big_endian xs

big_endian_below : (xs : List ℕ) → IsBytes xs → big_endian xs < 256 ^ length xs
big_endian_below [] small = omega arith
big_endian_below (x ∷ xs) small =
    let first : x + 1 ≤ 256 = omega (arith, small 0) in
    let rest : big_endian xs < 256 ^ length xs = big_endian_below xs (IsBytes-rest x xs small) in
    rw pow-succ' (omega (arith, mul-le-mul_right (256 ^ length xs) first))

byte_at-is : (k n : ℕ) → byte_at k n ≡ n / 256 ^ k % 256
byte_at-is zero n = omega arith
byte_at-is (suc k) n = refl

high_len : (k n : ℕ) → length (bytes_high_first k n) ≡ k
high_len zero n = refl
high_len (suc k) n = ap suc (high_len k n)

-- the two parts of a number's lowest bytes
parted : (k n : ℕ) → n % 256 ^ suc k ≡ (n / 256 ^ k % 256) * 256 ^ k + n % 256 ^ k
parted k n = ap (λ p. n % p) (pow-succ' 256 k) ∙ mod-mul n (lit< tt) (one-le-pow k 256 (lit< tt))

written : (k n : ℕ) → big_endian (bytes_high_first k n) ≡ n % 256 ^ k
written zero n = omega arith
written (suc k) n = rw (byte_at-is k n, high_len k n, written k n) (sym (parted k n))

-- a quotient and a remainder are the only ones
only : (p q r b s : ℕ) → r < p → s < p → q * p + r ≡ b * p + s → (q ≡ b) × (r ≡ s)
only p q r b s r_small s_small e =
    (sym (div-mul-add q p r r_small) ∙ ap (λ n. n / p) e ∙ div-mul-add b p s s_small, sym (mod-mul-add q p r r_small) ∙ ap (λ n. n % p) e ∙ mod-mul-add b p s s_small)

back : (bytes : List ℕ) (n : ℕ) → IsBytes bytes → n % 256 ^ length bytes ≡ big_endian bytes → bytes_high_first (length bytes) n ≡ bytes
back [] n fits e = refl
back (b ∷ bytes) n fits e =
    let k = length bytes in
    let small : n % 256 ^ length bytes < 256 ^ length bytes = mod-lt n (one-le-pow (length bytes) 256 (lit< tt)) in
    let o = only (256 ^ length bytes) (n / 256 ^ length bytes % 256) (n % 256 ^ length bytes) b (big_endian bytes) small (big_endian_below bytes (IsBytes-rest b bytes fits)) (sym (parted (length bytes) n) ∙ e) in
    rw (byte_at-is (length bytes) n, o.0, back bytes n (IsBytes-rest b bytes fits) o.1) refl

-- the bytes of a number are bytes
pub high_bytes : (k n : ℕ) → IsBytes (bytes_high_first k n)
high_bytes zero n i = omega arith
high_bytes (suc k) n zero = rw byte_at-is (mod-lt (n / 256 ^ k) (lit< tt))
high_bytes (suc k) n (suc i) = high_bytes k n i

-- ---- sixteen bytes

each : (bs : List ℕ) → length bs ≡ 16 → bs ≡ get_or bs 0 0 ∷ get_or bs 1 0 ∷ get_or bs 2 0 ∷ get_or bs 3 0 ∷ get_or bs 4 0 ∷ get_or bs 5 0 ∷ get_or bs 6 0 ∷ get_or bs 7 0 ∷ get_or bs 8 0 ∷ get_or bs 9 0 ∷ get_or bs 10 0 ∷ get_or bs 11 0 ∷ get_or bs 12 0 ∷ get_or bs 13 0 ∷ get_or bs 14 0 ∷ get_or bs 15 0 ∷ []
each [] l = absurd (omega arith)
each (a ∷ []) l = absurd (omega arith)
each (a ∷ b ∷ []) l = absurd (omega arith)
each (a ∷ b ∷ c ∷ []) l = absurd (omega arith)
each (a ∷ b ∷ c ∷ d ∷ []) l = absurd (omega arith)
each (a ∷ b ∷ c ∷ d ∷ e ∷ []) l = absurd (omega arith)
each (a ∷ b ∷ c ∷ d ∷ e ∷ f ∷ []) l = absurd (omega arith)
each (a ∷ b ∷ c ∷ d ∷ e ∷ f ∷ g ∷ []) l = absurd (omega arith)
each (a ∷ b ∷ c ∷ d ∷ e ∷ f ∷ g ∷ h ∷ []) l = absurd (omega arith)
each (a ∷ b ∷ c ∷ d ∷ e ∷ f ∷ g ∷ h ∷ i ∷ []) l = absurd (omega arith)
each (a ∷ b ∷ c ∷ d ∷ e ∷ f ∷ g ∷ h ∷ i ∷ j ∷ []) l = absurd (omega arith)
each (a ∷ b ∷ c ∷ d ∷ e ∷ f ∷ g ∷ h ∷ i ∷ j ∷ k ∷ []) l = absurd (omega arith)
each (a ∷ b ∷ c ∷ d ∷ e ∷ f ∷ g ∷ h ∷ i ∷ j ∷ k ∷ m ∷ []) l = absurd (omega arith)
each (a ∷ b ∷ c ∷ d ∷ e ∷ f ∷ g ∷ h ∷ i ∷ j ∷ k ∷ m ∷ n ∷ []) l = absurd (omega arith)
each (a ∷ b ∷ c ∷ d ∷ e ∷ f ∷ g ∷ h ∷ i ∷ j ∷ k ∷ m ∷ n ∷ o ∷ []) l = absurd (omega arith)
each (a ∷ b ∷ c ∷ d ∷ e ∷ f ∷ g ∷ h ∷ i ∷ j ∷ k ∷ m ∷ n ∷ o ∷ p ∷ []) l = absurd (omega arith)
each (a ∷ b ∷ c ∷ d ∷ e ∷ f ∷ g ∷ h ∷ i ∷ j ∷ k ∷ m ∷ n ∷ o ∷ p ∷ q ∷ []) l = refl
each (a ∷ b ∷ c ∷ d ∷ e ∷ f ∷ g ∷ h ∷ i ∷ j ∷ k ∷ m ∷ n ∷ o ∷ p ∷ q ∷ r ∷ rest) l = absurd (omega arith)

sixteen : (bytes : List ℕ) → length bytes ≡ 16 → big_endian bytes ≡ from_be_bytes w128 bytes
sixteen bytes len = ap big_endian (each bytes len) ∙ omega arith

sixteen_below : (bytes : List ℕ) → length bytes ≡ 16 → IsBytes bytes → big_endian bytes < 256 ^ 16
sixteen_below bytes len fits = subst (λ k. big_endian bytes < 256 ^ k) len (big_endian_below bytes fits)

sixteen_back : (bytes : List ℕ) → length bytes ≡ 16 → IsBytes bytes → to_be_bytes w128 (from_be_bytes w128 bytes) ≡ bytes
sixteen_back bytes len fits =
    let whole : from_be_bytes w128 bytes % 256 ^ length bytes ≡ big_endian bytes = rw (← sixteen bytes len) (mod-eq_of_lt (big_endian_below bytes fits)) in
    subst (λ k. bytes_high_first k (from_be_bytes w128 bytes) ≡ bytes) len (back bytes (from_be_bytes w128 bytes) fits whole)

sixteen_again : (n : ℕ) → n < 2 ^ 128 → from_be_bytes w128 (to_be_bytes w128 n) ≡ n
sixteen_again n lt = sym (sixteen (to_be_bytes w128 n) refl) ∙ written 16 n ∙ mod-eq_of_lt (omega arith)

-- ---- the widths

-- how the numbers below a limit and their bytes go together
pub record IsWide (w : Width) (limit : ℕ) : Type 0 where
  pub len : (n : ℕ) → length (to_be_bytes w n) ≡ byte_len w
  pub back : (bytes : List ℕ) → length bytes ≡ byte_len w → IsBytes bytes → to_be_bytes w (from_be_bytes w bytes) ≡ bytes
  pub again : (n : ℕ) → n < limit → from_be_bytes w (to_be_bytes w n) ≡ n
  pub below : (bytes : List ℕ) → length bytes ≡ byte_len w → IsBytes bytes → from_be_bytes w bytes < limit

pub wide32 : IsWide w32 (2 ^ 32)
wide32 = record {
  len = λ n. refl;
  back = λ bytes len fits. be_bytes_4 bytes _ len fits refl;
  again = λ n lt. from_be_bytes-to_be_bytes_4 n lt;
  below = λ bytes len fits. omega (arith, fits 0, fits 1, fits 2, fits 3);
}

pub wide64 : IsWide w64 (2 ^ 64)
wide64 = record {
  len = λ n. refl;
  back = λ bytes len fits. be_bytes_8 bytes _ len fits refl;
  again = λ n lt. from_be_bytes-to_be_bytes_8 n lt;
  below = λ bytes len fits. omega (arith, fits 0, fits 1, fits 2, fits 3, fits 4, fits 5, fits 6, fits 7);
}

pub wide128 : IsWide w128 (2 ^ 128)
wide128 = record {
  len = λ n. refl;
  back = λ bytes len fits. sixteen_back bytes len fits;
  again = λ n lt. sixteen_again n lt;
  below = λ bytes len fits. omega (arith, sixteen bytes len, sixteen_below bytes len fits);
}
