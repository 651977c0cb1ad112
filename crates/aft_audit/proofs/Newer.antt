-- The greatest id of each key, as it is noted.
use Rattle.std.proofs.Common.{◌≡◌, ℕ, zero, suc, ◌+◌, ◌<◌, length, get_or, arith, Bool, true, false, cond, ◌&&◌, ◌||◌, List, [], ◌∷◌, take, refl, sym, ap, ◌∙◌}
use Rattle.std.specs.Prelude.{IsTrue, IsFalse, None, Option, Some}
use Rattle.std.specs.List.{list_any}
use Rattle.std.specs.Map.{lookup}
use Rattle.std.specs.Ordering.{is_eq, nat_cmp}
use Rattle.std.specs.Cmp.Lexicographic.{nat_list_eq_equiv, same_text, slice_cmp, texts_ties}
use Rattle.std.specs.Str.{bytes_eq}
use Rattle.std.proofs.Math.Bool.{or-false, or_assoc}
use Rattle.aft_id.specs.TxnId.{id_lt}
use Rattle.aft_id.specs.declared.txn_id.TxnId.{TxnId}
use Rattle.aft_records.proofs.CommitOrder.{id_lt-le, id_lt-trans}
use Rattle.aft_audit.specs.Newest.{Raises, is_newer}
use Rattle.aft_audit.specs.Pairs.{passes}

-- keys are the same where their order says so
pub tied : (key k : List ℕ) → is_eq (slice_cmp nat_cmp key k) ≡ bytes_eq k key
tied key k = sym (texts_ties key k) ∙ nat_list_eq_equiv.symm key k

-- what the map has of a key
abbrev pub noted : List ℕ → List (List ℕ × TxnId) → Option TxnId
noted key newest = lookup (λ k. is_eq (slice_cmp nat_cmp key k)) newest

implied : (a b : Bool) → (IsTrue b → IsTrue a) → a ≡ (a || b)
implied true b more = refl
implied false true more = more refl
implied false false more = refl

pub raises_none : (id : TxnId) → Raises None id id
raises_none id = record { raises = λ v. refl }

pub raises_above : (other id : TxnId) → IsFalse (id_lt id other) → Raises (Some other) id id
raises_above other id least = record { raises = λ v. implied (id_lt v id) (id_lt v other) (λ less. id_lt-le v other id less least) ∙ swap (id_lt v id) (id_lt v other) }
  where
    swap : (a b : Bool) → (a || b) ≡ (b || a)
    swap true true = refl
    swap true false = refl
    swap false true = refl
    swap false false = refl

pub raises_below : (other id : TxnId) → IsTrue (id_lt id other) → Raises (Some other) id other
raises_below other id less = record { raises = λ v. implied (id_lt v other) (id_lt v id) (λ below. id_lt-trans v id other below less) }

-- an id is noted of a key
pub raised : (key : List ℕ) (id greatest : TxnId) (old new : List (List ℕ × TxnId)) → ((k : List ℕ) → noted k new ≡ cond (is_eq (slice_cmp nat_cmp key k)) (Some greatest) (noted k old))
    → Raises (noted key old) id greatest → (k : List ℕ) (v : TxnId) → is_newer k v new ≡ (is_newer k v old || (bytes_eq k key && id_lt v id))
raised key id greatest old new updates by k v = ap (passes (id_lt v)) (updates k ∙ ap (λ b. cond b (Some greatest) (noted k old)) (tied key k)) ∙ cases (bytes_eq k key) refl
  where
    cases : (b : Bool) → bytes_eq k key ≡ b → passes (id_lt v) (cond b (Some greatest) (noted k old)) ≡ (is_newer k v old || (b && id_lt v id))
    cases true same = by.raises v ∙ ap (λ (z : List ℕ). is_newer z v old || id_lt v id) (sym (same_text k key (sym same)))
    cases false apart = sym (or-false (is_newer k v old))

-- one more of the elements taken
pub any_taken : {A : Type 0} (test : A → Bool) (xs : List A) (i : ℕ) (d : A) → i < length xs → list_any test (take (i + 1) xs) ≡ (list_any test (take i xs) || test (get_or xs i d))
any_taken test [] i d within = absurd (omega arith)
any_taken test (x ∷ xs) zero d within = or-false (test x)
any_taken test (x ∷ xs) (suc i) d within =
    let more : suc i + 1 ≡ suc (i + 1) = omega arith in
    ap (λ n. list_any test (take n (x ∷ xs))) more ∙ ap (λ t. test x || t) (any_taken test xs i d (omega arith)) ∙ sym (or_assoc (test x) (list_any test (take i xs)) (test (get_or xs i d)))

-- one more key
pub one_more : (a b c t : Bool) → (a || (b && t) || (c && t)) ≡ (a || ((b || c) && t))
one_more true b c t = refl
one_more false true true true = refl
one_more false true true false = refl
one_more false true false t = or-false t
one_more false false c t = refl
