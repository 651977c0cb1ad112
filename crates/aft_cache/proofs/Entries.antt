-- The entries of a cache as kept values.
use Rattle.std.proofs.Common.{◌≡◌, ℕ, ◌-◌, ◌≤◌, Bool, true, false, ◌&&◌, cond, not, List, [], ◌∷◌, length, take, map, filter, Option, Some, None, refl, sym, ap, subst, ◌∙◌, arith, eqb, suc, zero}
use Rattle.std.specs.Prelude.{IsTrue, if◌then◌else◌}
use Rattle.std.specs.List.{IsDistinct, AllByRecursion}
use Rattle.std.specs.Map.{keys_of, lookup, lookup_entry, remove_entry}
use Rattle.std.specs.Option.{option_map_or}
use Rattle.std.specs.Str.{bytes_eq}
use Rattle.std.specs.Cmp.Lexicographic.{bytes_decides}
use Rattle.std.proofs.lemmas.Bool.{and_parts, eqb-true}
use Rattle.std.proofs.lemmas.List.{take_all}
use Rattle.lru.specs.LruCache.{LruCache, IsValid, promoted, put_entries}
use Rattle.aft_id.specs.TxnId.{same_id}
use Rattle.aft_records.specs.Kept.{Kept, is_kept_at, kept_value, with_front}
use Rattle.aft_cache.specs.Values.{kept_at, with_used}
use Rattle.aft_cache.specs.declared.spot.Spot.{Spot}

-- whether two spots are the same
abbrev pub same_spot : Spot → Spot → Bool
same_spot a b = bytes_eq a.key b.key && same_id a.id b.id

abbrev Entry : Type 0
Entry = Spot × List ℕ

abbrev other_than : Spot → Kept → Bool
other_than at kept = not (is_kept_at at.key at.id kept)

-- spots that are the same are equal
same_spots : (a b : Spot) → IsTrue (same_spot a b) → a ≡ b
same_spots a b same =
    let parts = and_parts (bytes_eq a.key b.key) (same_id a.id b.id) same in
    let ids = and_parts (eqb a.id.time b.id.time) (bytes_eq a.id.uuid b.id.uuid) parts.1 in
    let spot : List ℕ → ℕ → List ℕ → Spot = λ k t u. record { key = k; id = record { time = t; uuid = u } } in
    ap (λ k. spot k a.id.time a.id.uuid) ((bytes_decides a.key b.key).0 parts.0)
    ∙ ap (λ t. spot b.key t a.id.uuid) (eqb-true a.id.time b.id.time ids.0)
    ∙ ap (λ u. spot b.key b.id.time u) ((bytes_decides a.id.uuid b.id.uuid).0 ids.1)

-- a look-up in the cache finds the kept value
pub lookup-kept : (at : Spot) (entries : List Entry) → lookup (same_spot at) entries ≡ kept_value at.key at.id (map kept_at entries)
lookup-kept at [] = refl
lookup-kept at (entry ∷ entries) = ap (cond (same_spot at entry.0) (Some entry.1)) (lookup-kept at entries)

-- an entry that is found is at the spot, and its value is the kept one
pub found : (at : Spot) (entries : List Entry) (entry : Entry) → lookup_entry (same_spot at) entries ≡ Some entry → (entry.0 ≡ at) × (kept_value at.key at.id (map kept_at entries) ≡ Some entry.1)
found at [] entry is = cc
found at (first ∷ entries) entry is = cases (found at entries entry) (same_spot at first.0) refl is
  where
    cases : (lookup_entry (same_spot at) entries ≡ Some entry → (entry.0 ≡ at) × (kept_value at.key at.id (map kept_at entries) ≡ Some entry.1))
        → (t : Bool) → same_spot at first.0 ≡ t → cond t (Some first) (lookup_entry (same_spot at) entries) ≡ Some entry
        → (entry.0 ≡ at) × ((if t then Some first.1 else kept_value at.key at.id (map kept_at entries)) ≡ Some entry.1)
    cases rest true same is = let it : first ≡ entry = cc in (ap (λ (e : Entry). e.0) (sym it) ∙ sym (same_spots at first.0 same), ap (λ (e : Entry). Some e.1) it)
    cases rest false other is = rest is

pub not_found : (at : Spot) (entries : List Entry) → lookup_entry (same_spot at) entries ≡ None → kept_value at.key at.id (map kept_at entries) ≡ None
not_found at [] none = refl
not_found at (first ∷ entries) none = cases (not_found at entries) (same_spot at first.0) none
  where
    cases : (lookup_entry (same_spot at) entries ≡ None → kept_value at.key at.id (map kept_at entries) ≡ None)
        → (t : Bool) → cond t (Some first) (lookup_entry (same_spot at) entries) ≡ None → (if t then Some first.1 else kept_value at.key at.id (map kept_at entries)) ≡ None
    cases rest true none = absurd cc
    cases rest false none = rest none

-- where no entry is at the spot, all are others
none_taken : (at : Spot) (entries : List Entry) → AllByRecursion (λ (s : Spot). same_spot at s ≡ false) (keys_of entries) → filter (other_than at) (map kept_at entries) ≡ map kept_at entries
none_taken at [] others = refl
none_taken at (first ∷ entries) others =
    ap (λ t. if not t then kept_at first ∷ filter (other_than at) (map kept_at entries) else filter (other_than at) (map kept_at entries)) others.0
    ∙ ap (λ rest. kept_at first ∷ rest) (none_taken at entries others.1)

none_there : (at : Spot) (entries : List Entry) → lookup_entry (same_spot at) entries ≡ None → AllByRecursion (λ (s : Spot). same_spot at s ≡ false) (keys_of entries)
none_there at [] none = tt
none_there at (first ∷ entries) none = cases (none_there at entries) (same_spot at first.0) none
  where
    cases : (lookup_entry (same_spot at) entries ≡ None → AllByRecursion (λ (s : Spot). same_spot at s ≡ false) (keys_of entries))
        → (t : Bool) → cond t (Some first) (lookup_entry (same_spot at) entries) ≡ None → (t ≡ false) × AllByRecursion (λ (s : Spot). same_spot at s ≡ false) (keys_of entries)
    cases rest true none = absurd cc
    cases rest false none = (refl, rest none)

-- without the entry at a spot, the others are left
taken_out : (at : Spot) (entries : List Entry) → IsDistinct same_spot (keys_of entries) → filter (other_than at) (map kept_at entries) ≡ map kept_at (remove_entry (same_spot at) entries)
unfolding IsDistinct
taken_out at [] distinct = refl
taken_out at (first ∷ entries) distinct = cases (taken_out at entries distinct.1) (same_spot at first.0) refl
  where
    cases : filter (other_than at) (map kept_at entries) ≡ map kept_at (remove_entry (same_spot at) entries)
        → (t : Bool) → same_spot at first.0 ≡ t
        → (if not t then kept_at first ∷ filter (other_than at) (map kept_at entries) else filter (other_than at) (map kept_at entries)) ≡ map kept_at (cond t entries (first ∷ remove_entry (same_spot at) entries))
    cases rest true same =
        none_taken at entries (subst (λ (s : Spot). AllByRecursion (λ (other : Spot). same_spot s other ≡ false) (keys_of entries)) (sym (same_spots at first.0 same)) distinct.0)
    cases rest false other = ap (λ others. kept_at first ∷ others) rest

length-map_kept : (entries : List Entry) → length (map kept_at entries) ≡ length entries
length-map_kept [] = refl
length-map_kept (entry ∷ entries) = ap suc (length-map_kept entries)

fewer : (at : Spot) (entries : List Entry) (entry : Entry) → lookup_entry (same_spot at) entries ≡ Some entry → suc (length (remove_entry (same_spot at) entries)) ≡ length entries
fewer at [] entry is = cc
fewer at (first ∷ entries) entry is = cases (fewer at entries entry) (same_spot at first.0) is
  where
    cases : (lookup_entry (same_spot at) entries ≡ Some entry → suc (length (remove_entry (same_spot at) entries)) ≡ length entries)
        → (t : Bool) → cond t (Some first) (lookup_entry (same_spot at) entries) ≡ Some entry → suc (length (cond t entries (first ∷ remove_entry (same_spot at) entries))) ≡ suc (length entries)
    cases rest true is = refl
    cases rest false is = ap suc (rest is)

take-map_kept : (n : ℕ) (entries : List Entry) → take n (map kept_at entries) ≡ map kept_at (take n entries)
take-map_kept zero entries = refl
take-map_kept (suc n) [] = refl
take-map_kept (suc n) (entry ∷ entries) = ap (λ rest. kept_at entry ∷ rest) (take-map_kept n entries)

module _ (cache : LruCache Spot (List ℕ)) (valid : IsValid same_spot cache) where
  -- the value of an entry that is there comes to the front with any value
  to_front : (at : Spot) (entry : Entry) (value : List ℕ) → lookup_entry (same_spot at) cache.entries ≡ Some entry
      → map kept_at ((entry.0, value) ∷ remove_entry (same_spot at) cache.entries) ≡ with_front cache.cap (record { key = at.key; id = at.id; value = value }) (map kept_at cache.entries)
  to_front at entry value is =
      let front : Kept = kept_at (at, value) in
      let rest : List Kept = map kept_at (remove_entry (same_spot at) cache.entries) in
      let fits : length (front ∷ rest) ≤ cache.cap = omega (arith, length-map_kept (remove_entry (same_spot at) cache.entries), fewer at cache.entries entry is, valid.1) in
      ap (λ (s : Spot). kept_at (s, value) ∷ rest) (found at cache.entries entry is).0
      ∙ sym (take_all cache.cap (front ∷ rest) fits)
      ∙ ap (λ others. take cache.cap (front ∷ others)) (sym (taken_out at cache.entries valid.0))

  -- a used value is in front
  pub promoted-kept : (at : Spot) → map kept_at (promoted (same_spot at) cache.entries) ≡ with_used cache.cap at.key at.id (map kept_at cache.entries)
  promoted-kept at = cases (lookup_entry (same_spot at) cache.entries) refl
    where
      cases : (o : Option Entry) → lookup_entry (same_spot at) cache.entries ≡ o
          → map kept_at (option_map_or (λ e. e ∷ remove_entry (same_spot at) cache.entries) o cache.entries) ≡ with_used cache.cap at.key at.id (map kept_at cache.entries)
      cases None none =
          ap (λ o. option_map_or (λ value. with_front cache.cap (record { key = at.key; id = at.id; value = value }) (map kept_at cache.entries)) o (map kept_at cache.entries)) (sym (not_found at cache.entries none))
      cases (Some entry) is =
          to_front at entry entry.1 is
          ∙ ap (λ o. option_map_or (λ value. with_front cache.cap (record { key = at.key; id = at.id; value = value }) (map kept_at cache.entries)) o (map kept_at cache.entries)) (sym (found at cache.entries entry is).1)

  -- a value that is put is in front
  pub put-kept : (at : Spot) (value : List ℕ) → map kept_at (put_entries same_spot cache at value) ≡ with_front cache.cap (record { key = at.key; id = at.id; value = value }) (map kept_at cache.entries)
  put-kept at value = cases (lookup_entry (same_spot at) cache.entries) refl
    where
      new : (n m : ℕ) → n ≡ suc m → lookup_entry (same_spot at) cache.entries ≡ None
          → map kept_at ((at, value) ∷ take m cache.entries) ≡ with_front n (record { key = at.key; id = at.id; value = value }) (map kept_at cache.entries)
      new n m one_more none =
          rw one_more
          (ap (λ rest. kept_at (at, value) ∷ rest)
          (sym (take-map_kept m cache.entries) ∙ ap (take m) (sym (none_taken at cache.entries (none_there at cache.entries none)))))

      cases : (o : Option Entry) → lookup_entry (same_spot at) cache.entries ≡ o
          → map kept_at (option_map_or (λ e. (e.0, value) ∷ remove_entry (same_spot at) cache.entries) o ((at, value) ∷ take (cache.cap - 1) cache.entries)) ≡ with_front cache.cap (record { key = at.key; id = at.id; value = value }) (map kept_at cache.entries)
      cases None none = new cache.cap (cache.cap - 1) (omega (arith, valid.2)) none
      cases (Some entry) is = to_front at entry value is
