-- One entry more at the door leaves the copiers as the copies have them.
use Rattle.std.proofs.Common.{◌≡◌, ℕ, Bool, true, false, not, List, [], ◌∷◌, ◌++◌, sym, ap, subst, ◌∙◌, ◌⊎◌, inl, inr, eqb}
use Rattle.std.specs.Prelude.{IsTrue, IsFalse, None, Option, Some, filter}
use Rattle.std.specs.List.{list_all, list_any}
use Rattle.std.proofs.lemmas.Bool.{and_parts, cases_Bool, eq-eqb, eqb-true, false≢true, false_from_ne_true, not-true, or_cases, or_left, or_right, true≢false}
use Rattle.std.proofs.lemmas.List.Sums.{fold-append}
use Rattle.aft_model.specs.declared.caller.By.{By}
use Rattle.aft_model.specs.declared.door.DoorAct.{DoorAct}
use Rattle.aft_model.specs.declared.door.DoorAct.TheVariants as doors
use Rattle.aft_model.specs.declared.door.DoorEntry.{DoorEntry}
use Rattle.aft_model.specs.LegalDoor.{Legal, may_come, may_follow}
use Rattle.aft_model.specs.Membership.{Incarnation, incarnation, is_up, same_incarnation, the_office, up_after, ups}
use Rattle.aft_model.specs.Opening.{may_read}
use Rattle.aft_model.specs.ScanRun.{same_line}
use Rattle.aft_model.proofs.Histories.{all_at, any_found, any_from, each_after_snoc}
use Rattle.aft_model.proofs.Lists.{filter_in, in_filter}
use Rattle.aft_model.proofs.OneCommit.{same_itself, same_who}
use Rattle.aft_model.proofs.Turns.{by_rule}
use Rattle.aft_lines.specs.BackupCourse.{copier}
use Rattle.law_claims.proofs.Scenes.{same_by}
use Rattle.law_held.specs.Copies.{CopiersLie, NoneUp, OneUp, has_copier}

-- whether an act brings a copier up, or fences one
abbrev pub is_of_copiers : DoorAct → Bool
is_of_copiers (doors.Up node inc) = eqb node copier
is_of_copiers (doors.Fence node inc) = eqb node copier
is_of_copiers act = false

module _ (door : List DoorEntry) (entry : DoorEntry) where
  abbrev behind : List DoorEntry
  behind = door ++ entry ∷ []

  ups_now : ups behind ≡ up_after (ups door) entry.act
  ups_now = fold-append (λ (b : List Incarnation) (e : DoorEntry). up_after b e.act) (the_office ∷ []) door (entry ∷ [])

  abbrev Among : Incarnation → List Incarnation → Type 0
  Among who l = IsTrue (list_any (same_incarnation who) l)

  to_up : (who : Incarnation) → Among who (up_after (ups door) entry.act) → IsTrue (is_up who behind)
  to_up who is = subst (Among who) (sym ups_now) is

  from_up : (who : Incarnation) → IsTrue (is_up who behind) → Among who (up_after (ups door) entry.act)
  from_up who is = subst (Among who) ups_now is

  -- whether a copier is up is whether some incarnation of its node is
  some_up : (l : List Incarnation) → IsTrue (list_any (λ (w : Incarnation). eqb w.node copier) l) → (who : Incarnation) × (who.node ≡ copier) × Among who l
  some_up l is = (let found = any_found (λ (w : Incarnation). eqb w.node copier) l is in (found.0, eqb-true found.0.node copier found.2, any_from (same_incarnation found.0) found.0 l found.1 (same_itself found.0)))

  none_up : (l : List Incarnation) → ((who : Incarnation) → who.node ≡ copier → Among who l → ⊥) → IsFalse (list_any (λ (w : Incarnation). eqb w.node copier) l)
  none_up l none = false_from_ne_true (list_any (λ (w : Incarnation). eqb w.node copier) l) (λ is. let some = some_up l is in none some.0 some.1 some.2)

  none_there : IsFalse (has_copier door) → (who : Incarnation) → who.node ≡ copier → IsTrue (is_up who door) → ⊥
  none_there none who of up =
      let found = any_found (same_incarnation who) (ups door) up in
      true≢false (sym (any_from (λ (w : Incarnation). eqb w.node copier) found.0 (ups door) found.1 (eq-eqb found.0.node copier (sym (ap (λ (w : Incarnation). w.node) (same_who who found.0 found.2)) ∙ of))) ∙ none)

  -- ---- an act that is not of copiers

  still_up : (act : DoorAct) → is_of_copiers act ≡ false → (who : Incarnation) → who.node ≡ copier → IsTrue (is_up who door) → Among who (up_after (ups door) act)
  still_up (doors.Up node inc) other who of up = or_right (same_incarnation who (incarnation node inc)) (is_up who door) up
  still_up (doors.Fence node inc) other who of up =
      let found = any_found (same_incarnation who) (ups door) up in
      any_from (same_incarnation who) found.0 (filter (λ (i : Incarnation). not (same_incarnation (incarnation node inc) i)) (ups door))
      (filter_in (λ (i : Incarnation). not (same_incarnation (incarnation node inc) i)) found.0 (ups door) found.1
      (ap not (false_from_ne_true (same_incarnation (incarnation node inc) found.0) (λ same.
      true≢false (sym (eq-eqb node copier (ap (λ (w : Incarnation). w.node) (same_who (incarnation node inc) found.0 same ∙ sym (same_who who found.0 found.2)) ∙ of)) ∙ other))))) found.2
  still_up act other who of up = up

  was_up : (act : DoorAct) → is_of_copiers act ≡ false → (who : Incarnation) → who.node ≡ copier → Among who (up_after (ups door) act) → IsTrue (is_up who door)
  was_up (doors.Up node inc) other who of up = elim (or_cases (same_incarnation who (incarnation node inc)) (is_up who door) up) [
    | inl it ↦ absurd (true≢false (sym (eq-eqb node copier (sym (ap (λ (w : Incarnation). w.node) (same_who who (incarnation node inc) it)) ∙ of)) ∙ other))
    | inr was ↦ was
  ]
  was_up (doors.Fence node inc) other who of up =
      let found = any_found (same_incarnation who) (filter (λ (i : Incarnation). not (same_incarnation (incarnation node inc) i)) (ups door)) up in
      any_from (same_incarnation who) found.0 (ups door) (in_filter (λ (i : Incarnation). not (same_incarnation (incarnation node inc) i)) found.0 (ups door) found.1).0 found.2
  was_up act other who of up = up

  pub others_lie : (copies after : By → Option Incarnation) → is_of_copiers entry.act ≡ false → ((by : By) → after by ≡ copies by) → CopiersLie door copies → CopiersLie behind after
  others_lie copies after other same (NoneUp none free) = NoneUp (λ by. same by ∙ none by) (none_up (ups behind) (λ who of up. none_there free who of (was_up entry.act other who of (from_up who up))))
  others_lie copies after other same (OneUp by who is of up only alone) =
      OneUp by who (same by ∙ is) of (to_up who (still_up entry.act other who of up)) (λ one of' up'. only one of' (was_up entry.act other one of' (from_up one up'))) (λ one differs. same one ∙ alone one differs)

  -- ---- an act of a copy

  module _ (legal : Legal behind) (by : By) (copies after : By → Option Incarnation) (same : (other : By) → IsFalse (same_line by other) → after other ≡ copies other) where
    split : Legal door × IsTrue (may_follow door entry)
    split = each_after_snoc may_follow [] door entry legal

    -- where the copy alone may have had one, none has
    none_has : after by ≡ None → ((other : By) → IsFalse (same_line by other) → copies other ≡ None) → (other : By) → after other ≡ None
    none_has mine alone other = elim (cases_Bool (same_line by other)) [
      | inl it ↦ subst (λ (b : By). after b ≡ None) (same_by by other it) mine
      | inr differs ↦ same other differs ∙ alone other differs
    ]

    pub comes : (node inc : ℕ) → entry.act ≡ doors.Up node inc → eqb node copier ≡ true → after by ≡ Some (incarnation node inc) → copies by ≡ None → CopiersLie door copies → CopiersLie behind after
    comes node inc is of holds nothing (OneUp one who at its up only alone) = absurd (by_come (subst (λ (a : DoorAct). IsTrue (may_come door a) ⊎ IsTrue (may_read door a)) is (by_rule door entry split.1).1))
      where
        by_come : IsTrue (may_come door (doors.Up node inc)) ⊎ IsTrue (may_read door (doors.Up node inc)) → ⊥
        by_come (inr read) = false≢true read
        by_come (inl come) =
            let none = (and_parts (list_all (λ (i : Incarnation). not (eqb i.node node)) (ups door)) _ come).0 in
            let found = any_found (same_incarnation who) (ups door) up in
            let apart = not-true (eqb found.0.node node) (all_at (λ (i : Incarnation). not (eqb i.node node)) found.0 (ups door) found.1 none) in
            true≢false (sym (eq-eqb found.0.node node (sym (ap (λ (w : Incarnation). w.node) (same_who who found.0 found.2)) ∙ (its ∙ sym (eqb-true node copier of)))) ∙ apart)
    comes node inc is of holds nothing (NoneUp none free) =
        OneUp by (incarnation node inc) holds (eqb-true node copier of)
        (to_up (incarnation node inc) (subst (λ (a : DoorAct). Among (incarnation node inc) (up_after (ups door) a)) (sym is) (or_left (same_incarnation (incarnation node inc) (incarnation node inc)) (is_up (incarnation node inc) door) (same_itself (incarnation node inc)))))
        (λ other its up. by_or other its (or_cases (same_incarnation other (incarnation node inc)) (is_up other door) (subst (λ (a : DoorAct). Among other (up_after (ups door) a)) is (from_up other up))))
        (λ other differs. same other differs ∙ none other)
      where
        by_or : (other : Incarnation) → other.node ≡ copier → IsTrue (same_incarnation other (incarnation node inc)) ⊎ IsTrue (is_up other door) → other ≡ incarnation node inc
        by_or other its (inl it) = same_who other (incarnation node inc) it
        by_or other its (inr was) = absurd (none_there free other its was)

    pub fences : (node inc : ℕ) → entry.act ≡ doors.Fence node inc → (w : Incarnation) → copies by ≡ Some w → IsTrue (same_incarnation w (incarnation node inc)) → after by ≡ None → CopiersLie door copies → CopiersLie behind after
    fences node inc is w had same_w nothing (NoneUp none free) = absurd (let e : None ≡ Some w = sym (none by) ∙ had in cc)
    fences node inc is w had same_w nothing (OneUp one who at its up only alone) =
        NoneUp (none_has nothing (subst (λ (b : By). (other : By) → IsFalse (same_line b other) → copies other ≡ None) one_by alone))
        (none_up (ups behind) (λ other of up_now. gone other of (subst (λ (a : DoorAct). Among other (up_after (ups door) a)) is (from_up other up_now))))
      where
        one_by : one ≡ by
        one_by = elim (cases_Bool (same_line one by)) [
          | inl it ↦ same_by one by it
          | inr differs ↦ absurd (let e : None ≡ Some w = sym (alone by differs) ∙ had in cc)
        ]

        w_is : who ≡ incarnation node inc
        w_is = inside who w (sym at ∙ (ap copies one_by ∙ had)) ∙ same_who w (incarnation node inc) same_w
          where
            inside : (x y : Incarnation) → Some x ≡ Some y → x ≡ y
            inside x y e = cc

        gone : (other : Incarnation) → other.node ≡ copier → Among other (filter (λ (i : Incarnation). not (same_incarnation (incarnation node inc) i)) (ups door)) → ⊥
        gone other of there =
            let found = any_found (same_incarnation other) (filter (λ (i : Incarnation). not (same_incarnation (incarnation node inc) i)) (ups door)) there in
            let kept = in_filter (λ (i : Incarnation). not (same_incarnation (incarnation node inc) i)) found.0 (ups door) found.1 in
            let it : other ≡ incarnation node inc = only other of (any_from (same_incarnation other) found.0 (ups door) kept.0 found.2) ∙ w_is in
            true≢false (sym (subst (λ (x : Incarnation). IsTrue (same_incarnation x found.0)) it found.2) ∙ not-true (same_incarnation (incarnation node inc) found.0) kept.1)
