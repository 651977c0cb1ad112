-- The greatest time of what was read, and ids above it.
use Rattle.std.proofs.Common.{◌≡◌, ℕ, ◌+◌, ◌<◌, ◌≤◌, List, [], ◌∷◌, ◌++◌, length, get_or, take, max, suc, refl, sym, ap, ◌∙◌, arith}
use Rattle.std.specs.Prelude.{IfSome, IsTrue, None, Option, Some}
use Rattle.aft_model.specs.Attempts.{Row}
use Rattle.aft_txn.specs.Refusals.{start_time}
use Rattle.std.specs.List.{fold, list_all}
use Rattle.std.specs.Ordering.{nat_cmp, is_lt, ordering_then}
use Rattle.std.specs.Cmp.Lexicographic.{slice_cmp}
use Rattle.std.specs.declared.cmp.Ordering.TheVariants.{Less}
use Rattle.std.proofs.lemmas.Bool.{and_from}
use Rattle.std.proofs.lemmas.Bool.Decides.{nat_tests}
use Rattle.std.proofs.lemmas.List.{map-append, take_more}
use Rattle.std.proofs.lemmas.List.Sums.{fold-append}
use Rattle.aft_id.specs.TxnId.{id_lt}
use Rattle.aft_id.specs.declared.txn_id.TxnId.{TxnId}
use Rattle.aft_model.specs.declared.read_set.ReadPair.{ReadPair}
use Rattle.aft_model.specs.NodeRules.{greatest_of, times_read}

-- with one more read
pub times-more : (pairs : List ReadPair) (i : ℕ) (pair : ReadPair) → i < length pairs → pair ≡ get_or pairs i pair
    → greatest_of (times_read (take (i + 1) pairs)) ≡ max (greatest_of (times_read (take i pairs))) (suc pair.id.time)
times-more pairs i pair within at =
    ap (λ front. greatest_of (times_read front)) (take_more pairs i pair within)
    ∙ ap (λ (p : ReadPair). greatest_of (times_read (take i pairs ++ p ∷ []))) (sym at)
    ∙ ap greatest_of (map-append (λ (p : ReadPair). suc p.id.time) (take i pairs) (pair ∷ []))
    ∙ fold-append max 0 (times_read (take i pairs)) (suc pair.id.time ∷ [])

-- an id of a lesser time is below
lesser : (a b : TxnId) → a.time < b.time → IsTrue (id_lt a b)
lesser a b less = ap (λ o. is_lt (ordering_then o (slice_cmp nat_cmp a.uuid b.uuid))) (below a.time b.time less)
  where
    below : (x y : ℕ) → x < y → nat_cmp x y ≡ Less
    below x y h = grind (arith, nat_tests)

fold_least : (times : List ℕ) (n : ℕ) → n ≤ fold max n times
fold_least [] n = omega arith
fold_least (t ∷ times) n = omega (arith, fold_least times (max n t))

-- an id whose time is at least one more than each that was read is above each
pub above_reads : (pairs : List ReadPair) (n : ℕ) (id : TxnId) → fold max n (times_read pairs) ≤ id.time → IsTrue (list_all (λ pair. id_lt pair.id id) pairs)
above_reads [] n id least = refl
above_reads (pair ∷ pairs) n id least =
    and_from _ _ (lesser pair.id id (omega (arith, fold_least (times_read pairs) (max n (suc pair.id.time)), least))) (above_reads pairs (max n (suc pair.id.time)) id least)

-- so is the id of a commit above each read id
pub above-start : (row : Option Row) (id : TxnId) (now floor : ℕ) → IfSome row (λ r. id ≡ record { time = start_time now floor r.pairs; uuid = r.uuid }) → IfSome row (λ r. IsTrue (list_all (λ pair. id_lt pair.id id) r.pairs))
above-start None id now floor is = tt
above-start (Some row) id now floor is = above_reads row.pairs 0 id (omega (arith, ap (λ (i : TxnId). i.time) is))
