-- The room of a ledger, and what its callers know of it.
use Rattle.std.proofs.Common.{◌≡◌, ℕ, ◌+◌, ◌<◌, ◌≤◌, Bool, true, ◌&&◌, [], ◌∷◌, ◌++◌, length, ltb, sym, ap, subst, ◌∙◌, arith, length-append, vec_capacity}
use Rattle.std.specs.Prelude.{Err, IfOk, IsTrue, None, Ok, OnOk, Option, Result, Some, is_ok, is_some, if◌then◌else◌}
use Rattle.std.proofs.lemmas.Bool.{and_parts, false≢true, ltb-true}
use Rattle.indexmap.specs.IndexMap.{spare}
use Rattle.indexmap.specs.IndexSet.{spare as set_spare}
use Rattle.aft_model.specs.declared.door.DoorEntry.{DoorEntry}
use Rattle.aft_model.specs.LegalDoor.{may_follow}
use Rattle.aft_door.specs.contracts.ledger.Ledger.{the_view}
use Rattle.aft_door.specs.declared.ledger.Ledger.TheInside.{Inside}
use Rattle.aft_door.specs.Ledger.{LedgerView}

-- room for one more entry, and for one that it owes
pub record HasRoom (owed capacity ups fences : ℕ) : Type 0 where
  pub entries : owed + 2 ≤ capacity
  pub fence : ups < fences

parts : (owed capacity ups fences : ℕ) (a b c d e : Bool) → (ltb (owed + 1) capacity && ltb ups fences && a && b && c && d && e) ≡ true → HasRoom owed capacity ups fences
parts owed capacity ups fences a b c d e all =
    let first = (and_parts _ _ (and_parts _ _ (and_parts _ _ (and_parts _ _ (and_parts (ltb (owed + 1) capacity && ltb ups fences && a && b && c && d) e all).0).0).0).0).0 in
    let both = and_parts (ltb (owed + 1) capacity) (ltb ups fences) first in
    record {
      entries = (let lt : owed + 1 < capacity = ltb-true (owed + 1) capacity both.0 in omega arith);
      fence = ltb-true ups fences both.1;
    }

module _ (i : Inside) (page : LedgerView) (is : the_view i ≡ page) where
  pub room_in : page.has_room ≡ true → HasRoom (length i.ups.entries + length i.claims.entries + length i.history.items) (vec_capacity i.history) (length i.ups.entries) (spare i.fenced)
  room_in room = parts _ _ _ _ (ltb 0 (spare i.ups)) (ltb 0 (spare i.claims)) (ltb 0 (spare i.puts)) (ltb 0 (set_spare i.forgotten)) (ltb 0 (set_spare i.given)) (ap (λ (p : LedgerView). p.has_room) is ∙ room)

  pub may_in : (e : DoorEntry) → IsTrue (may_follow page.history e) → IsTrue (may_follow i.history.items e)
  may_in e may = subst (λ (p : LedgerView). IsTrue (may_follow p.history e)) (sym is) may

  -- one more entry, where no map grows
  pub room_for : (e : DoorEntry) (after : ℕ) → page.has_room ≡ true → vec_capacity i.history ≤ after → length i.ups.entries + length i.claims.entries + length (i.history.items ++ e ∷ []) ≤ after
  room_for e after room more = let r = (room_in room).entries in let n = length-append i.history.items (e ∷ []) in omega arith

-- ---- what a call that succeeds ensures

pub on_ok : {T E : Type 0} (P : Type 0) (r : Result T E) → is_ok r ≡ true → OnOk r P → P
on_ok P (Ok x) ok holds = holds
on_ok P (Err e) ok holds = absurd (false≢true ok)

-- a map with one more entry, or with one set anew, is at most one longer
pub at_most_one : {T E : Type 0} (r : Result (Option T) E) (before after : ℕ) → is_ok r ≡ true → IfOk r (λ (old : Option T). after ≡ before + (if is_some old then 0 else 1)) → after ≤ before + 1
at_most_one (Ok None) before after ok holds = omega arith
at_most_one (Ok (Some x)) before after ok holds = omega arith
at_most_one (Err e) before after ok holds = absurd (false≢true ok)

-- a map without what was there is shorter by one
pub one_less : {T : Type 0} (o : Option T) (before after : ℕ) → is_some o ≡ true → after + (if is_some o then 1 else 0) ≡ before → after + 1 ≡ before
one_less None before after there holds = absurd (false≢true there)
one_less (Some x) before after there holds = holds
