-- What is put keeps the limits.
use Rattle.std.proofs.Common.{◌≡◌, ◌≤◌, ◌<◌, ◌^◌, ℕ, zero, suc, Bool, ◌&&◌, List, [], ◌∷◌, length, sym, ap, subst, ◌∙◌, arith}
use Rattle.std.specs.Prelude.{IsTrue, None, Some, if◌then◌else◌, nat_le, ◌==◌}
use Rattle.std.specs.List.{list_all, slice_get}
use Rattle.std.proofs.lemmas.Bool.{and_from, and_parts, le-leb, leb-true, lt-ltb, ne_eqb}
use Rattle.std.proofs.lemmas.Bool.Decides.{nat_tests}
use Rattle.aft_id.specs.declared.txn_id.TxnId.{TxnId}
use Rattle.aft_id.specs.TxnId.{IsUuid}
use Rattle.aft_records.specs.declared.stored.Record.{Record}
use Rattle.aft_records.specs.declared.stored.Version.{Version}
use Rattle.aft_records.specs.Limits.{AreKeys, IsKey, IsTime, is_origin}
use Rattle.aft_records.specs.Stored.{IsOrigin, IsRecord, IsVersion}
use Rattle.aft_model.specs.declared.caller.Attempt.{Attempt}
use Rattle.aft_model.specs.Membership.{Incarnation}
use Rattle.aft_commit.specs.Calls.{IsVersionAt}
use Rattle.aft_commit.specs.View.{Storable, StorableRecord}

-- a time within its limit is a word
small : (t : ℕ) → IsTime t → t < 2 ^ 64
small t is = let lt : t < 2 ^ 48 = grind (arith, nat_tests) in omega arith

-- the origin of a node's record, whose incarnation fits its type
pub origin_fits : (a : Attempt) (r : Record) → StorableRecord a r → r.origin.inc < 2 ^ 32 → IsTrue (is_origin r.origin.node r.origin.inc (length r.origin.reads))
origin_fits a r storable small_inc =
    and_from _ _
    (and_from _ _ (le-leb r.origin.node 8 storable.origin.most) (lt-ltb r.origin.inc (2 ^ 32) small_inc))
    (subst (λ (office : Bool). IsTrue (if office then r.origin.inc == 0 && length r.origin.reads == 0 else nat_le 1 r.origin.inc)) (sym (ne_eqb r.origin.node 0 some_node)) (le-leb 1 r.origin.inc storable.origin.least))
  where
    some_node : r.origin.node ≡ 0 → ⊥
    some_node none = storable.node (sym (ap (λ (who : Incarnation). who.node) storable.own) ∙ none)

pub record_fits : (a : Attempt) (r : Record) → StorableRecord a r → r.origin.inc < 2 ^ 32 → IsUuid r.commit.id.uuid → AreKeys r.commit.keys → IsRecord r
record_fits a r storable small_inc uuid keys =
    let origin : IsOrigin r.origin = record { limits = origin_fits a r storable small_inc; reads = storable.origin.reads; uuids = storable.origin.uuids } in
    (record { commit = record { id = record { time = small r.commit.id.time storable.timely; uuid = uuid }; keys = keys }; origin = origin }, storable.timely)

pub short_at : (values : List (List ℕ)) (count : ℕ) (value : List ℕ) → IsTrue (list_all (λ v. nat_le (length v) 4096) values) → slice_get values count ≡ Some value → length value ≤ 4096
short_at [] zero value short at = absurd (none_is at)
  where
    none_is : None ≡ Some value → ⊥
    none_is e = cc
short_at [] (suc count) value short at = absurd (none_is at)
  where
    none_is : None ≡ Some value → ⊥
    none_is e = cc
short_at (v ∷ values) zero value short at =
    subst (λ (w : List ℕ). length w ≤ 4096) (some_is v value at) (leb-true (length v) 4096 (and_parts (nat_le (length v) 4096) (list_all (λ w. nat_le (length w) 4096) values) short).0)
  where
    some_is : (x y : List ℕ) → Some x ≡ Some y → x ≡ y
    some_is x y e = cc
short_at (v ∷ values) (suc count) value short at = short_at values count value (and_parts (nat_le (length v) 4096) (list_all (λ w. nat_le (length w) 4096) values) short).1 at

pub version_fits : (a : Attempt) (r : Record) (values : List (List ℕ)) (count : ℕ) (v : Version) → Storable a r values → IsVersionAt r values count v → IsUuid v.id.uuid → IsKey v.key → IsVersion v
version_fits a r values count v storable at uuid key =
    let timely = subst (λ (i : TxnId). IsTime i.time) (sym at.0) storable.written_fits.timely in
    (record { id = record { time = small v.id.time timely; uuid = uuid }; key = key; value = short_at values count v.value storable.short at.2 }, timely)
