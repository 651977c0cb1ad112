-- What comes only at the open door, and when it may come there.
use Rattle.std.proofs.Common.{◌≡◌, ◌≢◌, ℕ, Bool, true, false, not, ◌||◌, ◌&&◌, List, [], ◌∷◌, ◌++◌, refl, sym, ap, subst, ◌∙◌, eqb, inl, inr, leb, ltb}
use Rattle.std.specs.Prelude.{IsTrue, IsFalse, Option, Some, None, ◌==◌, if◌then◌else◌}
use Rattle.std.specs.List.{list_all, list_any, flat_map}
use Rattle.std.proofs.lemmas.Bool.{and_from, and_parts, eqb-true, false_from_ne_true, false≢true, lt-ltb, or_parts, true≢false, cases_lt, le-leb}
use Rattle.aft_model.specs.declared.caller.By.{By}
use Rattle.aft_model.specs.declared.caller.Caller.{Caller}
use Rattle.aft_model.specs.declared.door.DoorAct.{DoorAct}
use Rattle.aft_model.specs.declared.door.DoorAct.TheVariants.{Call, Opened}
use Rattle.aft_model.specs.declared.door.DoorEntry.{DoorEntry}
use Rattle.aft_model.specs.Claims.{claimant, claimant_after, holds, if_up, is_held_by}
use Rattle.aft_model.specs.DoorKnowledge.{is_open, opens}
use Rattle.aft_model.specs.History.{first_of}
use Rattle.aft_model.specs.LegalDoor.{Legal, is_answered, may_come, may_follow}
use Rattle.aft_model.specs.Membership.{Incarnation, fenced, inc_at, is_up, the_office, up_after, up_now, ups}
use Rattle.aft_model.specs.Opening.{may_open, may_read, opening}
use Rattle.aft_model.specs.ScanRun.{same_line}
use Rattle.aft_model.proofs.Histories.{each_after_kept}
use Rattle.aft_model.proofs.OneCommit.{claimant-snoc}
use Rattle.aft_door.specs.Entries.{came_up, released, was_fenced, who_calls}
use Rattle.aft_door.specs.Refusals.{is_past}
use Rattle.aft_door.proofs.Found.{first_in}
use Rattle.aft_door.proofs.Snocs.{any_act, ups_more}

-- an entry that may come at the open door may follow
pub follows : (history : List DoorEntry) (e : DoorEntry) → IsTrue (is_open history) → IsTrue (is_answered e.act) → IsTrue (may_come history e.act) → IsTrue (may_follow history e)
follows history e at_open answered comes = and_from _ _ answered (subst (λ t. IsTrue (if t then may_come history e.act else may_open history e)) (sym at_open) comes)

-- ---- before the door is open nobody but the office is up, and nobody has claimed anything

pub record Closed (history : List DoorEntry) : Type 0 where
  pub office : ups history ≡ the_office ∷ []
  pub free : (uuid : List ℕ) → claimant uuid history ≡ None

abbrev ClosedBefore : List DoorEntry → Type 0
ClosedBefore history = IsFalse (is_open history) → Closed history

closed_step : (history : List DoorEntry) (e : DoorEntry) → IsFalse (opens e.act) → IsTrue (may_read history e.act) → Closed history → Closed (history ++ e ∷ [])
closed_step history e unopened reads closed = record {
  office = ups_more history e ∙ ups_same e.act unopened reads (ups history) ∙ closed.office;
  free = λ uuid. claimant-snoc uuid history e ∙ claim_same e.act unopened reads uuid (claimant uuid history) ∙ closed.free uuid;
}
  where
    ups_same : (act : DoorAct) → IsFalse (opens act) → IsTrue (may_read history act) → (xs : List Incarnation) → up_after xs act ≡ xs
    ups_same (Call node inc asked answer) un reads xs = refl
    ups_same Opened un reads xs = absurd (true≢false un)
    ups_same act un reads xs = absurd (false≢true reads)

    claim_same : (act : DoorAct) → IsFalse (opens act) → IsTrue (may_read history act) → (uuid : List ℕ) (o : Option Incarnation) → claimant_after uuid o act ≡ o
    claim_same (Call node inc asked answer) un reads uuid o = refl
    claim_same Opened un reads uuid o = absurd (true≢false un)
    claim_same act un reads uuid o = absurd (false≢true reads)

closed_after : (history : List DoorEntry) (e : DoorEntry) → IsTrue (may_follow history e) → ClosedBefore history → ClosedBefore (history ++ e ∷ [])
closed_after history e legal before shut =
    let parts = or_parts (is_open history) (opens e.act) (sym (any_act opens history e) ∙ shut) in
    let reads : IsTrue (may_open history e) = subst (λ t. IsTrue (if t then may_come history e.act else may_open history e)) parts.0 (and_parts (is_answered e.act) _ legal).1 in
    closed_step history e parts.1 (and_parts (same_line opening e.by) (may_read history e.act) reads).1 (before parts.0)

pub closed_is : (history : List DoorEntry) → Legal history → IsFalse (is_open history) → Closed history
closed_is history legal =
    each_after_kept may_follow ClosedBefore (λ h e sofar may before. closed_after h e may before) [] history legal (λ shut. record { office = refl; free = λ uuid. refl })

-- what is so only at the open door shows that it is open
open_or : (history : List DoorEntry) → Legal history → (Closed history → ⊥) → IsTrue (is_open history)
open_or history legal no_way = cases (is_open history) refl
  where
    cases : (t : Bool) → is_open history ≡ t → t ≡ true
    cases true is = refl
    cases false is = absurd (no_way (closed_is history legal is))

-- ---- a fence

pub fence_follows : (history : List DoorEntry) (by : By) (node inc : ℕ) → Legal history → node ≢ 0 → up_now node history ≡ Some inc → IsTrue (may_follow history (was_fenced by node inc))
fence_follows history by node inc legal real up =
    let not_office : eqb node 0 ≡ false = false_from_ne_true _ (λ h. real (eqb-true node 0 h)) in
    let at_open = open_or history legal (λ closed.
    let e : first_of (flat_map (inc_at node) (the_office ∷ [])) ≡ Some inc = ap (λ xs. first_of (flat_map (inc_at node) xs)) (sym closed.office) ∙ up in
    none (eqb 0 node) (false_from_ne_true _ (λ h. real (sym (eqb-true 0 node h)))) e) in
    follows history (was_fenced by node inc) at_open refl (and_from _ _ (first_in node inc (ups history) up) (ap not not_office))
  where
    none : (t : Bool) → t ≡ false → first_of ((if t then 1 ∷ [] else []) ++ []) ≡ Some inc → ⊥
    none true is e = true≢false is
    none false is e = cc

-- ---- a release

pub release_follows : (history : List DoorEntry) (who : Caller) (uuid : List ℕ) → Legal history → IsTrue (is_up (who_calls who) history) → IsTrue (holds (who_calls who) uuid history)
    → IsTrue (may_follow history (released who uuid))
release_follows history who uuid legal up held =
    let at_open = open_or history legal (λ closed. false≢true (subst (λ o. IsTrue (is_held_by (who_calls who) (if_up history o))) (closed.free uuid) held)) in
    follows history (released who uuid) at_open refl (and_from _ _ up held)

-- ---- an up

none_now : (node : ℕ) (xs : List Incarnation) → first_of (flat_map (inc_at node) xs) ≡ None → IsTrue (list_all (λ (other : Incarnation). not (other.node == node)) xs)
none_now node [] none = refl
none_now node (x ∷ xs) none = cases (eqb x.node node) none (none_now node xs)
  where
    cases : (t : Bool) → first_of ((if t then x.inc ∷ [] else []) ++ flat_map (inc_at node) xs) ≡ None → (first_of (flat_map (inc_at node) xs) ≡ None → IsTrue (list_all (λ (other : Incarnation). not (other.node == node)) xs))
        → IsTrue (not t && list_all (λ (other : Incarnation). not (other.node == node)) xs)
    cases true none rest = absurd (cc)
    cases false none rest = rest none

none_past : (node inc : ℕ) (xs : List Incarnation) → IsFalse (list_any (λ (other : Incarnation). other.node == node && leb inc other.inc) xs)
    → IsTrue (list_all (λ (other : Incarnation). not (other.node == node) || ltb other.inc inc) xs)
none_past node inc [] none = refl
none_past node inc (x ∷ xs) none =
    let parts = or_parts (x.node == node && leb inc x.inc) (list_any (λ (other : Incarnation). other.node == node && leb inc other.inc) xs) none in
    and_from _ _ (cases (x.node == node) parts.0) (none_past node inc xs parts.1)
  where
    cases : (t : Bool) → IsFalse (t && leb inc x.inc) → IsTrue (not t || ltb x.inc inc)
    cases true below = elim (cases_lt x.inc inc) [ inl lt ↦ lt-ltb x.inc inc lt | inr le ↦ absurd (true≢false (sym (le-leb inc x.inc le) ∙ below)) ]
    cases false below = refl

pub up_follows : (history : List DoorEntry) (by : By) (node inc : ℕ) → IsTrue (is_open history) → up_now node history ≡ None → IsFalse (is_past node inc history) → IsTrue (may_follow history (came_up by node inc))
up_follows history by node inc at_open alone newer = follows history (came_up by node inc) at_open refl (and_from _ _ (none_now node (ups history) alone) (none_past node inc (fenced history) newer))
