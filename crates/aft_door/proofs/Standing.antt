-- Who is up in a legal history: the office always, one incarnation of each node, and none that was fenced or is older than one that was.
use Rattle.std.proofs.Common.{◌≡◌, ℕ, Bool, true, false, ◌||◌, ◌&&◌, not, List, [], ◌∷◌, ◌++◌, refl, sym, ap, subst, ◌∙◌, ◌⊎◌, inl, inr, leb, ltb, arith, append-nil, ◌<◌, ◌≤◌}
use Rattle.std.specs.Prelude.{IsTrue, IsFalse, Some, ◌==◌, if◌then◌else◌}
use Rattle.std.specs.List.{flat_map, list_all, list_any}
use Rattle.std.proofs.lemmas.Bool.{and_parts, eqb-true, false_from_ne_true, false≢true, leb-true, ltb-true, not-true, or_cases, or_left, or_right, true≢false}
use Rattle.aft_model.specs.declared.caller.By.{By}
use Rattle.aft_model.specs.declared.door.DoorAct.{DoorAct}
use Rattle.aft_model.specs.declared.door.DoorAct.TheVariants.{Fence, Up}
use Rattle.aft_model.specs.declared.door.DoorEntry.{DoorEntry}
use Rattle.aft_model.specs.History.{first_of}
use Rattle.aft_model.specs.LegalDoor.{Legal, may_follow}
use Rattle.aft_model.specs.Membership.{Incarnation, fenced, fenced_in, inc_at, incarnation, same_incarnation, the_office, up_after, up_now, ups}
use Rattle.aft_model.specs.Opening.{opening}
use Rattle.aft_model.specs.ScanRun.{same_line}
use Rattle.aft_model.proofs.Histories.{each_after_kept}
use Rattle.aft_model.proofs.OneCommit.{same_who}
use Rattle.aft_door.specs.Entries.{came_up, was_fenced}
use Rattle.aft_door.specs.Ledger.{Standing}
use Rattle.aft_door.specs.Refusals.{is_past}
use Rattle.aft_door.proofs.Changed.{alone, and_false, left_of, less, one_with, one_without, open_rule}
use Rattle.aft_door.proofs.Found.{first_in}
use Rattle.aft_door.proofs.Kept.{OneIn}
use Rattle.aft_door.proofs.Snocs.{fenced_more, ups_more}

-- whether one of a node with this number or a greater one is in a list
abbrev past_in : Incarnation → List Incarnation → Bool
past_in who past = list_any (λ other. other.node == who.node && leb who.inc other.inc) past

-- the same of who is up and who was fenced, as lists
record Stands (xs past : List Incarnation) : Type 0 where
  pub one : OneIn xs
  pub office : IsTrue (list_any (same_incarnation the_office) xs)
  pub fresh : (who : Incarnation) → IsTrue (list_any (same_incarnation who) xs) → IsFalse (past_in who past)

-- one that is newer than each of its node isn't past
newer : (node inc : ℕ) (past : List Incarnation) → IsTrue (list_all (λ (other : Incarnation). not (other.node == node) || ltb other.inc inc) past) → IsFalse (past_in (incarnation node inc) past)
newer node inc [] all = refl
newer node inc (x ∷ past) all = cases (x.node == node) (and_parts _ _ all).0 (newer node inc past (and_parts (not (x.node == node) || ltb x.inc inc) _ all).1)
  where
    cases : (t : Bool) → IsTrue (not t || ltb x.inc inc) → IsFalse (past_in (incarnation node inc) past) → IsFalse (t && leb inc x.inc || past_in (incarnation node inc) past)
    cases true below rest =
        let lt : x.inc < inc = ltb-true x.inc inc below in
        ap (λ t. t || past_in (incarnation node inc) past) (false_from_ne_true (leb inc x.inc) (λ h. let le : inc ≤ x.inc = leb-true inc x.inc h in absurd (omega arith))) ∙ rest
    cases false below rest = rest

with_up : (node inc : ℕ) (xs past : List Incarnation) → IsTrue (list_all (λ (other : Incarnation). not (other.node == node)) xs) → IsTrue (list_all (λ (other : Incarnation). not (other.node == node) || ltb other.inc inc) past)
    → Stands xs past → Stands (incarnation node inc ∷ xs) past
with_up node inc xs past none new s = record {
  one = one_with node inc xs none s.one;
  office = or_right _ _ s.office;
  fresh = λ who among. elim (or_cases (same_incarnation who (incarnation node inc)) (list_any (same_incarnation who) xs) among) [
    | inl here ↦ subst (λ (w : Incarnation). IsFalse (past_in w past)) (sym (same_who who (incarnation node inc) here)) (newer node inc past new)
    | inr later ↦ s.fresh who later
  ];
}

-- another one that was there is left
stays : (who other : Incarnation) (xs : List Incarnation) → IsFalse (same_incarnation who other) → IsTrue (list_any (same_incarnation other) xs) → IsTrue (list_any (same_incarnation other) (less who xs))
stays who other [] apart among = absurd (false≢true among)
stays who other (x ∷ xs) apart among = cases (λ later. stays who other xs apart later) (same_incarnation who x) refl (or_cases (same_incarnation other x) (list_any (same_incarnation other) xs) among)
  where
    cases : (IsTrue (list_any (same_incarnation other) xs) → IsTrue (list_any (same_incarnation other) (less who xs))) → (t : Bool) → same_incarnation who x ≡ t → IsTrue (same_incarnation other x) ⊎ IsTrue (list_any (same_incarnation other) xs)
        → IsTrue (list_any (same_incarnation other) (if not t then x ∷ less who xs else less who xs))
    cases rest true same (inl here) = absurd (true≢false (sym (subst (λ (w : Incarnation). IsTrue (same_incarnation who w)) (sym (same_who other x here)) same) ∙ apart))
    cases rest true same (inr later) = rest later
    cases rest false other_one (inl here) = or_left _ _ here
    cases rest false other_one (inr later) = or_right _ _ (rest later)

past_more : (who x : Incarnation) (past : List Incarnation) → IsFalse (past_in who past) → IsFalse (x.node == who.node && leb who.inc x.inc) → IsFalse (past_in who (past ++ x ∷ []))
past_more who x [] none last = ap (λ t. t || false) last
past_more who x (y ∷ past) none last = cases (y.node == who.node && leb who.inc y.inc) none (past_more who x past)
  where
    cases : (t : Bool) → IsFalse (t || past_in who past) → (IsFalse (past_in who past) → IsFalse (x.node == who.node && leb who.inc x.inc) → IsFalse (past_in who (past ++ x ∷ []))) → IsFalse (t || past_in who (past ++ x ∷ []))
    cases true none rest = absurd (true≢false none)
    cases false none rest = rest none last

with_fence : (x : Incarnation) (xs past : List Incarnation) → IsTrue (list_any (same_incarnation x) xs) → IsFalse (x.node == 0) → Stands xs past → Stands (less x xs) (past ++ x ∷ [])
with_fence x xs past up real s = record {
  one = one_without x xs s.one up;
  office = stays x the_office xs (ap (λ t. t && x.inc == 1) real) s.office;
  fresh = λ who among.
      let found = left_of x who xs among in
      past_more who x past (s.fresh who found.0) (apart who found.0 found.1 (x.node == who.node) refl);
}
  where
    apart : (who : Incarnation) → IsTrue (list_any (same_incarnation who) xs) → (who ≡ x → ⊥) → (t : Bool) → (x.node == who.node) ≡ t → IsFalse (t && leb who.inc x.inc)
    apart who among other true same =
        let node : who.node ≡ x.node = sym (eqb-true x.node who.node same) in
        let inc = alone x xs s.one up who among node in
        absurd (other (ap (λ n. incarnation n who.inc) node ∙ ap (λ i. incarnation x.node i) inc))
    apart who among other false same = refl

step : (history : List DoorEntry) (by : By) (act : DoorAct) → IsTrue (may_follow history (record { by = by; act = act })) → Stands (ups history) (fenced history) → Stands (up_after (ups history) act) (fenced history ++ fenced_in act)
step history by (Up node inc) legal s =
    let comes = and_parts _ _ (open_rule history (came_up by node inc) (and_false (same_line opening by)) legal) in
    subst (Stands (incarnation node inc ∷ ups history)) (sym (append-nil (fenced history))) (with_up node inc (ups history) (fenced history) comes.0 comes.1 s)
step history by (Fence node inc) legal s =
    let comes = and_parts _ _ (open_rule history (was_fenced by node inc) (and_false (same_line opening by)) legal) in
    with_fence (incarnation node inc) (ups history) (fenced history) comes.0 (not-true (node == 0) comes.1) s
step history by act legal s = subst (Stands (ups history)) (sym (append-nil (fenced history))) s

stands : (history : List DoorEntry) → Legal history → Stands (ups history) (fenced history)
stands history legal =
    each_after_kept may_follow (λ h. Stands (ups h) (fenced h)) (λ h e sofar may before. subst (Stands (ups (h ++ e ∷ []))) (sym (fenced_more h e)) (subst (λ xs. Stands xs (fenced h ++ fenced_in e.act)) (sym (ups_more h e)) (step h e.by e.act may before)))
    [] history legal (record { one = only; office = refl; fresh = λ who among. refl })
  where
    only : OneIn (the_office ∷ [])
    only who among = elim (or_cases (same_incarnation who the_office) false among) [
      | inl here ↦ subst (λ (w : Incarnation). first_of (flat_map (inc_at w.node) (the_office ∷ [])) ≡ Some w.inc) (sym (same_who who the_office here)) refl
      | inr nothing ↦ absurd (false≢true nothing)
    ]

pub standing_is : (history : List DoorEntry) → Legal history → Standing history
standing_is history legal = let s = stands history legal in record { one = s.one; office = s.office; fresh = s.fresh }

-- who is up isn't past
pub up_is_fresh : (node inc : ℕ) (history : List DoorEntry) → Standing history → up_now node history ≡ Some inc → IsFalse (is_past node inc history)
up_is_fresh node inc history s up = s.fresh (incarnation node inc) (first_in node inc (ups history) up)
