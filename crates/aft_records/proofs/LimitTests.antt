-- The tests of the limits, and what they tell.
use Rattle.std.proofs.Common.{◌≡◌, ℕ, ◌^◌, ◌<◌, Bool, true, ◌&&◌, leb, ltb, List, length, refl, arith}
use Rattle.std.specs.List.{list_all}
use Rattle.std.proofs.lemmas.Bool.{and_parts, leb-true, ltb-true, le-leb}
use Rattle.aft_records.specs.Limits.{is_time, is_key_byte, is_key, IsKey, is_key_count, AreKeys}
use Rattle.aft_fields.specs.Order.{ascend}

both : (a b : Bool) → a ≡ true → b ≡ true → (a && b) ≡ true
both a b p q = rw (p, q) refl

pub time_below : (time : ℕ) → is_time time ≡ true → time < 2 ^ 64
time_below time h =
    let p = ltb-true time (2 ^ 48) (and_parts (leb 1 time) (ltb time (2 ^ 48)) h).1 in
    omega arith

pub key_limits : (bytes : List ℕ) → is_key bytes ≡ true → IsKey bytes
key_limits bytes h =
    let p = and_parts (leb 1 (length bytes) && leb (length bytes) 64) (list_all is_key_byte bytes) h in
    let q = and_parts (leb 1 (length bytes)) (leb (length bytes) 64) p.0 in
    record { some = leb-true 1 (length bytes) q.0; short = leb-true (length bytes) 64 q.1; graphic = p.1 }

pub key_passes : (bytes : List ℕ) → IsKey bytes → is_key bytes ≡ true
key_passes bytes key =
    both (leb 1 (length bytes) && leb (length bytes) 64) (list_all is_key_byte bytes)
    (both (leb 1 (length bytes)) (leb (length bytes) 64) (le-leb 1 (length bytes) key.some) (le-leb (length bytes) 64 key.short)) key.graphic

pub set_limits : (keys : List (List ℕ)) → is_key_count (length keys) ≡ true → list_all is_key keys ≡ true → ascend keys ≡ true → AreKeys keys
set_limits keys h each ascending =
    let q = and_parts (leb 1 (length keys)) (leb (length keys) 32) h in
    record { some = leb-true 1 (length keys) q.0; few = leb-true (length keys) 32 q.1; each = each; ascending = ascending }

pub count_passes : (keys : List (List ℕ)) → AreKeys keys → is_key_count (length keys) ≡ true
count_passes keys set = both (leb 1 (length keys)) (leb (length keys) 32) (le-leb 1 (length keys) set.some) (le-leb (length keys) 32 set.few)
