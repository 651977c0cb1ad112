-- Who came up at the door, and who is up there.
use Rattle.std.proofs.Common.{◌≡◌, ◌≢◌, ℕ, Bool, true, false, ◌||◌, not, List, [], ◌∷◌, ◌++◌, eqb, refl, sym, ap, subst, ◌∙◌, ◌⊎◌, inl, inr}
use Rattle.std.specs.Prelude.{IsTrue, None, Some, filter, if◌then◌else◌}
use Rattle.std.specs.List.{flat_map, fold, list_all, list_any}
use Rattle.std.proofs.lemmas.Bool.{and_from, and_parts, eq-eqb, eqb-true, false≢true, or_cases, or_left, or_right}
use Rattle.aft_model.specs.declared.door.DoorAct.{DoorAct}
use Rattle.aft_model.specs.declared.door.DoorAct.TheVariants as doors
use Rattle.aft_model.specs.declared.door.DoorEntry.{DoorEntry}
use Rattle.aft_model.specs.History.{first_of}
use Rattle.aft_model.specs.Membership.{Incarnation, inc_at, incarnation, is_up, same_incarnation, the_office, up_after, up_now, ups}
use Rattle.aft_model.specs.NodeSights.{comes_up}

some_is : (n m : ℕ) → Some n ≡ Some m → n ≡ m
some_is n m e = cc

none_is : (n : ℕ) → None ≡ Some n → ⊥
none_is n e = cc

module _ (node inc : ℕ) where
  -- the first incarnation of a node among some is one of them
  first_among : (among : List Incarnation) → first_of (flat_map (inc_at node) among) ≡ Some inc → (test : Incarnation → Bool) → IsTrue (list_all (λ i. not (eqb i.node node) || test i) among) → IsTrue (test (incarnation node inc))
  first_among [] first test all = absurd (none_is inc first)
  first_among (who ∷ among) first test all =
      let parts = and_parts (not (eqb who.node node) || test who) (list_all (λ (i : Incarnation). not (eqb i.node node) || test i) among) all in
      by_node (eqb who.node node) refl first parts.0 (λ among_others. first_among among among_others test parts.1)
    where
      by_node : (here : Bool) → eqb who.node node ≡ here → first_of ((if here then who.inc ∷ [] else []) ++ flat_map (inc_at node) among) ≡ Some inc → IsTrue (not (eqb who.node node) || test who) → (first_of (flat_map (inc_at node) among) ≡ Some inc → IsTrue (test (incarnation node inc))) → IsTrue (test (incarnation node inc))
      by_node true is first one others = subst (λ (i : Incarnation). IsTrue (test i)) same (passes (eqb who.node node) is one)
        where
          passes : (t : Bool) → t ≡ true → IsTrue (not t || test who) → IsTrue (test who)
          passes true e it = it
          passes false e it = absurd (false≢true e)

          same : who ≡ incarnation node inc
          same = ap (λ (n : ℕ). incarnation n who.inc) (eqb-true who.node node is) ∙ ap (incarnation node) (some_is who.inc inc first)
      by_node false is first one others = others first

  first_is_among : (among : List Incarnation) → first_of (flat_map (inc_at node) among) ≡ Some inc → IsTrue (list_any (same_incarnation (incarnation node inc)) among)
  first_is_among [] first = absurd (none_is inc first)
  first_is_among (who ∷ among) first = by_node (eqb who.node node) refl first (first_is_among among)
    where
      by_node : (here : Bool) → eqb who.node node ≡ here → first_of ((if here then who.inc ∷ [] else []) ++ flat_map (inc_at node) among) ≡ Some inc → (first_of (flat_map (inc_at node) among) ≡ Some inc → IsTrue (list_any (same_incarnation (incarnation node inc)) among)) → IsTrue (same_incarnation (incarnation node inc) who || list_any (same_incarnation (incarnation node inc)) among)
      by_node true is first others = or_left _ _ (and_from _ _ (eq-eqb node who.node (sym (eqb-true who.node node is))) (eq-eqb inc who.inc (sym (some_is who.inc inc first))))
      by_node false is first others = or_right _ _ (others first)

  -- the incarnation of a node that is up is up
  pub now_is_up : (history : List DoorEntry) → up_now node history ≡ Some inc → IsTrue (is_up (incarnation node inc) history)
  now_is_up history is = first_is_among (ups history) is

-- another one of the node isn't up where none but this is
pub no_other_up : (node inc other : ℕ) (history : List DoorEntry) → up_now node history ≡ Some other → IsTrue (list_all (λ i. not (eqb i.node node) || same_incarnation (incarnation node inc) i) (ups history)) → inc ≡ other
no_other_up node inc other history is alone = eqb-true inc other (and_parts (eqb node node) (eqb inc other) (first_among node other (ups history) is (same_incarnation (incarnation node inc)) alone)).1

-- ---- who is up has come up

module _ (who : Incarnation) where
  abbrev comes : DoorEntry → Bool
  comes entry = comes_up who entry.act

  kept : (act : Incarnation) (among : List Incarnation) → IsTrue (list_any (same_incarnation who) (filter (λ other. not (same_incarnation act other)) among)) → IsTrue (list_any (same_incarnation who) among)
  kept act [] any = any
  kept act (x ∷ among) any = by_test (not (same_incarnation act x)) any (kept act among)
    where
      by_test : (t : Bool) → IsTrue (list_any (same_incarnation who) (if t then x ∷ filter (λ other. not (same_incarnation act other)) among else filter (λ other. not (same_incarnation act other)) among)) → (IsTrue (list_any (same_incarnation who) (filter (λ other. not (same_incarnation act other)) among)) → IsTrue (list_any (same_incarnation who) among)) → IsTrue (same_incarnation who x || list_any (same_incarnation who) among)
      by_test true any rest = elim (or_cases (same_incarnation who x) _ any) [ inl here ↦ or_left _ _ here | inr later ↦ or_right _ _ (rest later) ]
      by_test false any rest = or_right _ _ (rest any)

  behind_act : (act : DoorAct) (among : List Incarnation) → IsTrue (list_any (same_incarnation who) (up_after among act)) → IsTrue (list_any (same_incarnation who) among) ⊎ IsTrue (comes_up who act)
  behind_act (doors.Up node inc) among any = elim (or_cases (same_incarnation who (incarnation node inc)) (list_any (same_incarnation who) among) any) [ inl here ↦ inr here | inr later ↦ inl later ]
  behind_act (doors.Fence node inc) among any = inl (kept (incarnation node inc) among any)
  behind_act act among any = inl any

  came_among : (history : List DoorEntry) (among : List Incarnation) → IsTrue (list_any (same_incarnation who) (fold (λ before entry. up_after before entry.act) among history)) → IsTrue (list_any (same_incarnation who) among) ⊎ IsTrue (list_any comes history)
  came_among [] among any = inl any
  came_among (entry ∷ history) among any = elim (came_among history (up_after among entry.act) any) [
    | inl before ↦ elim (behind_act entry.act among before) [ inl was ↦ inl was | inr comes_now ↦ inr (or_left _ _ comes_now) ]
    | inr later ↦ inr (or_right _ _ later)
  ]

-- an incarnation that is up, and not the office's, has come up
pub has_come_up : (node inc : ℕ) (history : List DoorEntry) → node ≢ 0 → up_now node history ≡ Some inc → IsTrue (list_any (λ entry. comes_up (incarnation node inc) entry.act) history)
has_come_up node inc history not_office is = elim (came_among (incarnation node inc) history (the_office ∷ []) (now_is_up node inc history is)) [
  | inl office ↦ absurd (not_office (of_office (or_cases (same_incarnation (incarnation node inc) the_office) false office)))
  | inr came ↦ came
]
  where
    of_office : IsTrue (same_incarnation (incarnation node inc) the_office) ⊎ IsTrue false → node ≡ 0
    of_office (inl same) = eqb-true node 0 (and_parts (eqb node 0) (eqb inc 1) same).0
    of_office (inr never) = absurd (false≢true never)
