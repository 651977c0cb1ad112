-- The ids that stand under a key, as the map of writers changes.
use Rattle.std.proofs.Common.{◌≡◌, ℕ, Bool, true, false, cond, ◌&&◌, ◌||◌, not, List, [], ◌∷◌, take, zero, suc, refl, sym, ap, ◌∙◌}
use Rattle.std.specs.Prelude.{IsTrue, IsFalse, Option, None}
use Rattle.std.specs.List.{list_any}
use Rattle.std.specs.Map.{lookup}
use Rattle.std.specs.Option.{unwrap_or}
use Rattle.std.specs.Ordering.{is_eq, nat_cmp}
use Rattle.std.specs.Cmp.Lexicographic.{nat_list_eq_equiv, same_text, slice_cmp, texts_ties}
use Rattle.std.specs.Str.{bytes_eq}
use Rattle.std.proofs.lemmas.Bool.{true≢false}
use Rattle.aft_id.specs.TxnId.{same_id}
use Rattle.aft_id.specs.declared.txn_id.TxnId.{TxnId}
use Rattle.aft_records.specs.Commits.{is_listed}
use Rattle.aft_meta.specs.Index.{ids_under, stands_under}

-- the map of writers at a key
abbrev pub writers_at : List ℕ → List (List ℕ × List TxnId) → Option (List TxnId)
writers_at key writers = lookup (λ k. is_eq (slice_cmp nat_cmp key k)) writers

-- keys are the same where their order says so
tied_bytes : (key k : List ℕ) → is_eq (slice_cmp nat_cmp key k) ≡ bytes_eq k key
tied_bytes key k = sym (texts_ties key k) ∙ nat_list_eq_equiv.symm key k

-- what stands under a key after the map has changed at one key
under_changed : (key k : List ℕ) (w : Option (List TxnId)) (old new : List (List ℕ × List TxnId)) → writers_at k new ≡ cond (is_eq (slice_cmp nat_cmp key k)) w (writers_at k old)
    → ids_under k new ≡ cond (bytes_eq k key) (unwrap_or w []) (ids_under k old)
under_changed key k w old new is =
    ap (λ o. unwrap_or o []) (is ∙ ap (λ b. cond b w (writers_at k old)) (tied_bytes key k)) ∙ out (bytes_eq k key)
  where
    out : (b : Bool) → unwrap_or (cond b w (writers_at k old)) [] ≡ cond b (unwrap_or w []) (ids_under k old)
    out true = refl
    out false = refl

or_none : (b : Bool) → b ≡ b || false
or_none true = refl
or_none false = refl

and_all : (b : Bool) → b ≡ b && true
and_all true = refl
and_all false = refl

module _ (key : List ℕ) (id : TxnId) (w : Option (List TxnId)) (old new : List (List ℕ × List TxnId))
    (is : (k : List ℕ) → writers_at k new ≡ cond (is_eq (slice_cmp nat_cmp key k)) w (writers_at k old)) where
  -- an id more under the key
  pub one_more : ((v : TxnId) → is_listed v (unwrap_or w []) ≡ (is_listed v (ids_under key old) || same_id v id)) → (k : List ℕ) (v : TxnId) → stands_under k v new ≡ (stands_under k v old || (bytes_eq k key && same_id v id))
  one_more more k v = ap (is_listed v) (under_changed key k w old new (is k)) ∙ cases (bytes_eq k key) refl
    where
      cases : (b : Bool) → bytes_eq k key ≡ b → is_listed v (cond b (unwrap_or w []) (ids_under k old)) ≡ (stands_under k v old || (b && same_id v id))
      cases true same = more v ∙ ap (λ (z : List ℕ). stands_under z v old || same_id v id) (sym (same_text k key (sym same)))
      cases false other = or_none (stands_under k v old)

  -- an id less under the key
  pub one_less_under : ((v : TxnId) → is_listed v (unwrap_or w []) ≡ (is_listed v (ids_under key old) && not (same_id v id))) → (k : List ℕ) (v : TxnId) → stands_under k v new ≡ (stands_under k v old && not (bytes_eq k key && same_id v id))
  one_less_under less k v = ap (is_listed v) (under_changed key k w old new (is k)) ∙ cases (bytes_eq k key) refl
    where
      cases : (b : Bool) → bytes_eq k key ≡ b → is_listed v (cond b (unwrap_or w []) (ids_under k old)) ≡ (stands_under k v old && not (b && same_id v id))
      cases true same = less v ∙ ap (λ (z : List ℕ). stands_under z v old && not (same_id v id)) (sym (same_text k key (sym same)))
      cases false other = and_all (stands_under k v old)

  -- the same ids under the key
  pub same_under : unwrap_or w [] ≡ ids_under key old → (k : List ℕ) (v : TxnId) → stands_under k v new ≡ stands_under k v old
  same_under same k v = ap (is_listed v) (under_changed key k w old new (is k)) ∙ cases (bytes_eq k key) refl
    where
      cases : (b : Bool) → bytes_eq k key ≡ b → is_listed v (cond b (unwrap_or w []) (ids_under k old)) ≡ stands_under k v old
      cases true here = ap (is_listed v) same ∙ ap (λ (z : List ℕ). stands_under z v old) (sym (same_text k key (sym here)))
      cases false other = refl

-- a change that takes away what an earlier one left
pub twice : (key k : List ℕ) (w : Option (List TxnId)) (a b c : Option (List TxnId)) → c ≡ cond (is_eq (slice_cmp nat_cmp key k)) None b → b ≡ cond (is_eq (slice_cmp nat_cmp key k)) w a → c ≡ cond (is_eq (slice_cmp nat_cmp key k)) None a
twice key k w a b c second first = second ∙ ap (cond (is_eq (slice_cmp nat_cmp key k)) None) first ∙ same (is_eq (slice_cmp nat_cmp key k))
  where
    same : (t : Bool) → cond t None (cond t w a) ≡ cond t None a
    same true = refl
    same false = refl

-- what passes among the first passes among all
pub any_front : {A : Type 0} (test : A → Bool) (xs : List A) (i : ℕ) → IsTrue (list_any test (take i xs)) → IsTrue (list_any test xs)
any_front test [] zero passed = passed
any_front test [] (suc i) passed = passed
any_front test (x ∷ xs) zero passed = absurd (true≢false (sym passed))
any_front {A} test (x ∷ xs) (suc i) passed = cases (test x) (any_front test xs i) passed
  where
    cases : (b : Bool) → (IsTrue (list_any test (take i xs)) → IsTrue (list_any test xs)) → IsTrue (b || list_any test (take i xs)) → IsTrue (b || list_any test xs)
    cases true rest passed = refl
    cases false rest passed = rest passed

-- what was added so far is among all that is to be added
pub absorbed : (old now t all same : Bool) → now ≡ (old || (t && same)) → (IsTrue t → IsTrue all) → (now || (all && same)) ≡ (old || (all && same))
absorbed true now t all same is within = ap (λ b. b || (all && same)) is
absorbed false now true true true is within = ap (λ b. b || true) is
absorbed false now true true false is within = ap (λ b. b || false) is
absorbed false now true false same is within = absurd (true≢false (sym (within refl)))
absorbed false now false all same is within = ap (λ b. b || (all && same)) is

-- what was taken back is as before, where the id stood nowhere
pub restored : (old now all same : Bool) → (IsTrue same → IsFalse old) → (now || (all && same)) ≡ (old || (all && same)) → (now && not (all && same)) ≡ old
restored old now true true fresh is = none now ∙ sym (fresh refl)
  where
    none : (b : Bool) → b && false ≡ false
    none true = refl
    none false = refl
restored old now true false fresh is = sym (and_all now) ∙ or_none now ∙ is ∙ sym (or_none old)
restored old now false same fresh is = sym (and_all now) ∙ or_none now ∙ is ∙ sym (or_none old)
