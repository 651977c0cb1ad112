-- The order of ids: the number of a UUID orders as its bytes do.
use Rattle.std.proofs.Common.{◌≡◌, ℕ, ◌+◌, ◌*◌, ◌^◌, ◌<◌, ◌≤◌, List, [], ◌∷◌, length, get_or, Some, All, arith, refl, sym, ap, ◌∙◌}
use Rattle.std.proofs.Math.Nat.{pow-succ', mul-le-mul_right}
use Rattle.std.proofs.lemmas.List.{get_or_default}
use Rattle.std.proofs.lemmas.List.Elements.{All-tail}
use Rattle.std.specs.Cmp.{nat_cmp_is, Some-then, IsTotalOrder}
use Rattle.std.specs.Cmp.Lexicographic.{slice_cmp, slice_partial_cmp, lists_agrees, same_text, texts_ties}
use Rattle.std.specs.Ordering.{nat_cmp, as_partial_cmp, ordering_then, partial_ordering_then, MatchOrdering, is_eq}
use Rattle.std.specs.declared.cmp.Ordering.{Ordering}
use Rattle.std.specs.declared.cmp.Ordering.TheVariants.{Less, Equal, Greater}
use Rattle.std.proofs.lemmas.Cmp.{ranked, nat_cmp_total, nat_list_cmp_total, on_total, then_total}
use Rattle.uuid.specs.Text.{by_index}
use Rattle.uuid.proofs.TextLemmas.{by_index_same}
use Rattle.aft_id.specs.TxnId.{IsUuid, uuid_number, id_cmp}
use Rattle.aft_id.specs.declared.txn_id.TxnId.{TxnId}

-- the number of some bytes, the first of them the highest
abbrev big_endian : List ℕ → ℕ
big_endian [] = 0
big_endian (x ∷ xs) = x * 256 ^ length xs + big_endian xs

big_endian_below : (xs : List ℕ) → All (λ b. b < 256) xs → big_endian xs < 256 ^ length xs
big_endian_below [] small = omega arith
big_endian_below (x ∷ xs) small =
    let first : x < 256 = small 0 0 (omega arith) in
    let rest : big_endian xs < 256 ^ length xs = big_endian_below xs (All-tail (λ b. b < 256) x xs small) in
    rw pow-succ' (omega (arith, mul-le-mul_right (256 ^ length xs) (lt_le x first)))
  where
    lt_le : (n : ℕ) → n < 256 → n + 1 ≤ 256
    lt_le n h = omega arith

first_below : (x y p a b : ℕ) → x < y → a < p → x * p + a < y * p + b
first_below x y p a b below small =
    let more : x + 1 ≤ y = omega arith in
    omega (arith, mul-le-mul_right p more)

-- what two numbers are to each other, from their first digits and the rest
leading_digit : (o r : Ordering) (x y p q a b : ℕ) → p ≡ q → a < p → b < q → MatchOrdering o (x < y) (x ≡ y) (y < x)
    → MatchOrdering r (a < b) (a ≡ b) (b < a)
    → MatchOrdering (ordering_then o r) (x * p + a < y * q + b) (x * p + a ≡ y * q + b) (y * q + b < x * p + a)
leading_digit Less r x y p q a b same a_small b_small first rest =
    let small : a < q = omega arith in rw same (first_below x y q a b first small)
leading_digit Equal Less x y p q a b same a_small b_small first rest = rw (same, first) (omega arith)
leading_digit Equal Equal x y p q a b same a_small b_small first rest = rw (same, first, rest) refl
leading_digit Equal Greater x y p q a b same a_small b_small first rest = rw (same, first) (omega arith)
leading_digit Greater r x y p q a b same a_small b_small first rest =
    rw same (first_below y x q b a first b_small)

bytes_order : (xs ys : List ℕ) → length xs ≡ length ys → All (λ b. b < 256) xs → All (λ b. b < 256) ys
    → slice_cmp nat_cmp xs ys ≡ nat_cmp (big_endian xs) (big_endian ys)
bytes_order [] [] same xs_small ys_small = refl
bytes_order [] (y ∷ ys) same xs_small ys_small = absurd (omega arith)
bytes_order (x ∷ xs) [] same xs_small ys_small = absurd (omega arith)
bytes_order (x ∷ xs) (y ∷ ys) same xs_small ys_small =
    let xs_rest : All (λ b. b < 256) xs = All-tail (λ b. b < 256) x xs xs_small in
    let ys_rest : All (λ b. b < 256) ys = All-tail (λ b. b < 256) y ys ys_small in
    let lengths : length xs ≡ length ys = omega arith in
    nat_cmp_is _ _ _
    (leading_digit (nat_cmp x y) (slice_cmp nat_cmp xs ys) x y (256 ^ length xs) (256 ^ length ys) (big_endian xs) (big_endian ys)
    (ap (λ n. 256 ^ n) lengths) (big_endian_below xs xs_rest) (big_endian_below ys ys_rest)
    (ranked x y _ refl) (ranked _ _ _ (bytes_order xs ys lengths xs_rest ys_rest)))

-- the number of sixteen bytes, as a sum over their places, is that number
uuid_number-big_endian : (bytes : List ℕ) → length bytes ≡ 16 → big_endian bytes ≡ uuid_number bytes
unfolding by_index
uuid_number-big_endian bytes long =
    let listed : bytes ≡ by_index 16 (λ k. get_or bytes k 0) =
    by_index_same bytes 16 (λ k. get_or bytes k 0) long (λ k d within. get_or_default bytes k d 0 (rw long within)) in
    ap big_endian listed ∙ omega arith

-- UUIDs stand to each other as their numbers do
pub uuid_order : (a b : List ℕ) → IsUuid a → IsUuid b → slice_cmp nat_cmp a b ≡ nat_cmp (uuid_number a) (uuid_number b)
uuid_order a b is_a is_b =
    let same_length : length a ≡ length b = omega arith in
    bytes_order a b same_length is_a.1 is_b.1
    ∙ ap (λ n. nat_cmp n (big_endian b)) (uuid_number-big_endian a is_a.0)
    ∙ ap (λ n. nat_cmp (uuid_number a) n) (uuid_number-big_endian b is_b.0)

-- what the derived order of ids answers
pub id_partial_cmp-derived : (a b : TxnId)
    → partial_ordering_then (Some (nat_cmp a.time b.time)) (slice_partial_cmp (as_partial_cmp nat_cmp) a.uuid b.uuid) ≡ Some (id_cmp a b)
id_partial_cmp-derived a b =
    ap (λ o. partial_ordering_then (Some (nat_cmp a.time b.time)) o) (lists_agrees (λ x y. refl) a.uuid b.uuid)
    ∙ Some-then (nat_cmp a.time b.time) (slice_cmp nat_cmp a.uuid b.uuid)

-- the order of ids is total
pub id_cmp-total : IsTotalOrder id_cmp
id_cmp-total = then_total (on_total (λ (id : TxnId). id.time) nat_cmp_total) (on_total (λ (id : TxnId). id.uuid) nat_list_cmp_total)

both_tied : (o r : Ordering) → ordering_then o r ≡ Equal → (o ≡ Equal) × (r ≡ Equal)
both_tied Less r tied = cc
both_tied Equal r tied = (refl, tied)
both_tied Greater r tied = cc

-- ids that are neither above nor below each other are the same
pub tied_ids : (a b : TxnId) → id_cmp a b ≡ Equal → a ≡ b
tied_ids a b tied =
    let parts = both_tied (nat_cmp a.time b.time) (slice_cmp nat_cmp a.uuid b.uuid) tied in
    let times : a.time ≡ b.time = ranked a.time b.time Equal (sym parts.0) in
    let uuids : a.uuid ≡ b.uuid = same_text a.uuid b.uuid (sym (texts_ties a.uuid b.uuid ∙ ap is_eq parts.1)) in
    let id : ℕ → List ℕ → TxnId = λ t u. record { time = t; uuid = u } in
    ap (λ t. id t a.uuid) times ∙ ap (λ u. id b.time u) uuids
