-- The texts of ids ascend as the ids do.
use Rattle.std.proofs.Common.{◌≡◌, ℕ, suc, ◌/◌, ◌%◌, ◌^◌, ◌<◌, List, [], ◌∷◌, ◌++◌, length, codes, slice_index, refl, sym, ap, ◌∙◌, arith, inl, inr}
use Rattle.std.specs.Cmp.{nat_cmp_is}
use Rattle.std.specs.Cmp.Lexicographic.{slice_cmp}
use Rattle.std.specs.Int.{w64, w128, to_be_bytes}
use Rattle.std.specs.Ordering.{nat_cmp, ordering_then, MatchOrdering}
use Rattle.std.specs.declared.cmp.Ordering.{Ordering}
use Rattle.std.specs.declared.cmp.Ordering.TheVariants.{Less, Equal, Greater}
use Rattle.std.proofs.lemmas.Bool.{cases_lt, lt-ltb, le-ltb}
use Rattle.std.proofs.lemmas.Cmp.{ranked}
use Rattle.std.proofs.lemmas.List.Elements.{All-from_get_or}
use Rattle.std.proofs.Math.Nat.{div-eq_of_lt}
use Rattle.uuid.proofs.OrderLemmas.{from_be_bytes-to_be_bytes_16}
use Rattle.hex.specs.Hex.{IsBytes, lower_digits, encode_with, encode_lower}
use Rattle.hex.proofs.HexLemmas.{length-encode_with}
use Rattle.aft_id.specs.declared.txn_id.TxnId.{TxnId}
use Rattle.aft_id.specs.TxnId.{IsUuid, id_cmp}
use Rattle.aft_id.proofs.IdOrder.{uuid_order}
use Rattle.aft_fields.proofs.Wide.{high_bytes}
use Rattle.aft_records.specs.Names.{id_digits}
use Rattle.aft_records.specs.Stored.{IsWritableId}
use Rattle.aft_records.proofs.Digits.{code_of, digit_spelled}
use Rattle.aft_records.proofs.NameWritten.{uuid_bytes, time_bytes}

-- ---- orderings

then_then : (o p q : Ordering) → ordering_then o (ordering_then p q) ≡ ordering_then (ordering_then o p) q
then_then Less p q = refl
then_then Equal p q = refl
then_then Greater p q = refl

-- texts of one length decide before what follows them
slice_cmp-append : (xs ys us vs : List ℕ) → length xs ≡ length ys → slice_cmp nat_cmp (xs ++ us) (ys ++ vs) ≡ ordering_then (slice_cmp nat_cmp xs ys) (slice_cmp nat_cmp us vs)
slice_cmp-append [] [] us vs same = refl
slice_cmp-append [] (y ∷ ys) us vs same = absurd (omega arith)
slice_cmp-append (x ∷ xs) [] us vs same = absurd (omega arith)
slice_cmp-append (x ∷ xs) (y ∷ ys) us vs same =
    let others = slice_cmp-append xs ys us vs (omega arith) in
    ap (ordering_then (nat_cmp x y)) others ∙ then_then (nat_cmp x y) (slice_cmp nat_cmp xs ys) (slice_cmp nat_cmp us vs)

-- ---- digits

code_below : (v w : ℕ) → v < w → code_of v < code_of w
code_below v w lt =
    elim (cases_lt v 10) [
      | inl v_low ↦ elim (cases_lt w 10) [
        | inl w_low ↦ rw (lt-ltb v 10 v_low, lt-ltb w 10 w_low) (omega arith)
        | inr w_high ↦ rw (lt-ltb v 10 v_low, le-ltb w 10 w_high) (omega arith)
      ]
      | inr v_high ↦ rw (le-ltb v 10 v_high, le-ltb w 10 (omega arith)) (omega arith)
    ]

code_ranked : (o : Ordering) (v w : ℕ) → MatchOrdering o (v < w) (v ≡ w) (w < v) → MatchOrdering o (code_of v < code_of w) (code_of v ≡ code_of w) (code_of w < code_of v)
code_ranked Less v w h = code_below v w h
code_ranked Equal v w h = ap code_of h
code_ranked Greater v w h = code_below w v h

digit_order : (v w : ℕ) → v < 16 → w < 16 → nat_cmp (slice_index lower_digits v) (slice_index lower_digits w) ≡ nat_cmp v w
digit_order v w v_small w_small =
    rw (digit_spelled v v_small, digit_spelled w w_small) (sym (nat_cmp_is (code_of v) (code_of w) (nat_cmp v w) (code_ranked (nat_cmp v w) v w (ranked v w (nat_cmp v w) refl))))

halves : (o p : Ordering) (b c : ℕ) → MatchOrdering o (b / 16 < c / 16) (b / 16 ≡ c / 16) (c / 16 < b / 16) → MatchOrdering p (b % 16 < c % 16) (b % 16 ≡ c % 16) (c % 16 < b % 16)
    → MatchOrdering (ordering_then o p) (b < c) (b ≡ c) (c < b)
halves Less p b c high low = omega arith
halves Equal Less b c high low = omega arith
halves Equal Equal b c high low = omega arith
halves Equal Greater b c high low = omega arith
halves Greater p b c high low = omega arith

byte_order : (b c : ℕ) → ordering_then (nat_cmp (b / 16) (c / 16)) (nat_cmp (b % 16) (c % 16)) ≡ nat_cmp b c
byte_order b c = nat_cmp_is b c _ (halves (nat_cmp (b / 16) (c / 16)) (nat_cmp (b % 16) (c % 16)) b c (ranked (b / 16) (c / 16) _ refl) (ranked (b % 16) (c % 16) _ refl))

digits_order : (xs ys : List ℕ) → IsBytes xs → IsBytes ys → length xs ≡ length ys → slice_cmp nat_cmp (encode_lower xs) (encode_lower ys) ≡ slice_cmp nat_cmp xs ys
unfolding encode_with
digits_order [] [] xs_fit ys_fit same = refl
digits_order [] (y ∷ ys) xs_fit ys_fit same = absurd (omega arith)
digits_order (x ∷ xs) [] xs_fit ys_fit same = absurd (omega arith)
digits_order (x ∷ xs) (y ∷ ys) xs_fit ys_fit same =
    let x_byte = xs_fit 0 in
    let y_byte = ys_fit 0 in
    let others = digits_order xs ys (λ i. xs_fit (suc i)) (λ i. ys_fit (suc i)) (omega arith) in
    rw (digit_order (x / 16) (y / 16) (omega arith) (omega arith), digit_order (x % 16) (y % 16) (omega arith) (omega arith), others)
    (then_then (nat_cmp (x / 16) (y / 16)) (nat_cmp (x % 16) (y % 16)) (slice_cmp nat_cmp xs ys) ∙ ap (λ o. ordering_then o (slice_cmp nat_cmp xs ys)) (byte_order x y))

-- ---- times

high : (p s : ℕ) → s < p → s / p % 256 ≡ 0
high p s lt = rw (div-eq_of_lt lt) refl

-- a number of eight bytes in sixteen
padded : (s : ℕ) → s < 2 ^ 64 → to_be_bytes w128 s ≡ (0 ∷ 0 ∷ 0 ∷ 0 ∷ 0 ∷ 0 ∷ 0 ∷ 0 ∷ []) ++ to_be_bytes w64 s
padded s lt =
    let a = high (256 ^ 15) s (omega arith) in
    let b = high (256 ^ 14) s (omega arith) in
    let c = high (256 ^ 13) s (omega arith) in
    let d = high (256 ^ 12) s (omega arith) in
    let e = high (256 ^ 11) s (omega arith) in
    let f = high (256 ^ 10) s (omega arith) in
    let g = high (256 ^ 9) s (omega arith) in
    let h = high (256 ^ 8) s (omega arith) in
    λ i. a i ∷ b i ∷ c i ∷ d i ∷ e i ∷ f i ∷ g i ∷ h i ∷ to_be_bytes w64 s

is_uuid : (n : ℕ) → IsUuid (to_be_bytes w128 n)
is_uuid n = (refl, All-from_get_or (λ b. b < 256) (to_be_bytes w128 n) 0 (λ i lt. high_bytes 16 n i))

time_order : (s t : ℕ) → s < 2 ^ 64 → t < 2 ^ 64 → slice_cmp nat_cmp (to_be_bytes w64 s) (to_be_bytes w64 t) ≡ nat_cmp s t
time_order s t s_fits t_fits =
    let wide : slice_cmp nat_cmp (to_be_bytes w128 s) (to_be_bytes w128 t) ≡ nat_cmp s t =
    uuid_order (to_be_bytes w128 s) (to_be_bytes w128 t) (is_uuid s) (is_uuid t)
    ∙ rw (from_be_bytes-to_be_bytes_16 s (omega arith), from_be_bytes-to_be_bytes_16 t (omega arith)) refl in
    sym (ap (λ (x : List ℕ). slice_cmp nat_cmp x (to_be_bytes w128 t)) (padded s s_fits) ∙ ap (λ (y : List ℕ). slice_cmp nat_cmp ((0 ∷ 0 ∷ 0 ∷ 0 ∷ 0 ∷ 0 ∷ 0 ∷ 0 ∷ []) ++ to_be_bytes w64 s) y) (padded t t_fits)) ∙ wide

-- ---- ids

-- the texts of two ids stand to each other as the ids do
pub id_digits_order : (a b : TxnId) → IsWritableId a → IsWritableId b → slice_cmp nat_cmp (id_digits a) (id_digits b) ≡ id_cmp a b
id_digits_order a b is_a is_b =
    let at = to_be_bytes w64 a.time in
    let bt = to_be_bytes w64 b.time in
    let lengths : length (encode_lower (to_be_bytes w64 a.time)) ≡ length (encode_lower (to_be_bytes w64 b.time)) = length-encode_with lower_digits (to_be_bytes w64 a.time) ∙ sym (length-encode_with lower_digits (to_be_bytes w64 b.time)) in
    let split = slice_cmp-append (encode_lower (to_be_bytes w64 a.time)) (encode_lower (to_be_bytes w64 b.time)) (codes "-" ++ encode_lower a.uuid) (codes "-" ++ encode_lower b.uuid) lengths in
    let times = digits_order (to_be_bytes w64 a.time) (to_be_bytes w64 b.time) (time_bytes a.time) (time_bytes b.time) refl ∙ time_order a.time b.time is_a.time is_b.time in
    let uuids = digits_order a.uuid b.uuid (uuid_bytes a.uuid is_a.uuid) (uuid_bytes b.uuid is_b.uuid) (omega (arith, is_a.uuid.0, is_b.uuid.0)) in
    split ∙ ap (λ o. ordering_then o (slice_cmp nat_cmp (encode_lower a.uuid) (encode_lower b.uuid))) times ∙ ap (ordering_then (nat_cmp a.time b.time)) uuids
