-- Going over keys one after the other.
use Rattle.std.proofs.Common.{◌≡◌, ℕ, ◌+◌, ◌<◌, ◌≤◌, true, cond, List, [], ◌∷◌, length, get_or, drop, Ok, Err, refl, drop-cons, add-one}
use Rattle.std.specs.List.{list_all}
use Rattle.std.proofs.lemmas.Bool.{and_parts}
use Rattle.std.proofs.lemmas.List.{drop_all}
use Rattle.aft_records.specs.declared.fault.RecordFault.TheVariants.{BadKey}
use Rattle.aft_records.specs.Limits.{is_key}
use Rattle.aft_records.specs.Reading.{checked_keys}
use Rattle.aft_records.proofs.Steps.{test_ok}

-- the check at one key
pub checked_keys-at : (texts : List (List ℕ)) (i : ℕ) (key : List ℕ) → i < length texts → key ≡ get_or texts i key
    → checked_keys i (drop i texts) ≡ cond (is_key key) (checked_keys (i + 1) (drop (i + 1) texts)) (Err (BadKey i))
unfolding checked_keys
checked_keys-at texts i key lt here = rw (drop-cons texts i key lt, ← here, add-one) refl

-- the check at the end
pub checked_keys-end : (texts : List (List ℕ)) (i : ℕ) → length texts ≤ i → checked_keys i (drop i texts) ≡ Ok tt
unfolding checked_keys
checked_keys-end texts i le = rw (drop_all i texts le) refl

-- keys that passed the check
pub all_keys : (i : ℕ) (texts : List (List ℕ)) → checked_keys i texts ≡ Ok tt → list_all is_key texts ≡ true
unfolding checked_keys
all_keys i [] e = refl
all_keys i (text ∷ texts) e =
    let g = test_ok (is_key text) (BadKey i) (checked_keys (i + 1) texts) tt e in
    rw (g.0, all_keys (i + 1) texts g.1) refl

-- keys pass the check
pub checked_keys-all : (i : ℕ) (texts : List (List ℕ)) → list_all is_key texts ≡ true → checked_keys i texts ≡ Ok tt
unfolding checked_keys
checked_keys-all i [] all = refl
checked_keys-all i (text ∷ texts) all =
    let p = and_parts (is_key text) (list_all is_key texts) all in
    rw (p.0, checked_keys-all (i + 1) texts p.1) refl
