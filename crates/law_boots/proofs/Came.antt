-- Who was fenced is never up again; and who came up is up, or was fenced.
use Rattle.std.proofs.Common.{◌≡◌, false, ◌||◌, not, List, [], ◌∷◌, ◌++◌, refl, sym, subst, ◌∙◌, ◌⊎◌, inl, inr, append-nil, append_assoc, ap, eqb, ltb, arith}
use Rattle.std.specs.Prelude.{IsTrue, IsFalse, filter}
use Rattle.std.specs.List.{list_all, list_any}
use Rattle.std.proofs.lemmas.Bool.{and_parts, eq-eqb, false≢true, false_from_ne_true, le-ltb, not-true, or_cases, or_left, or_right, cases_Bool, true≢false}
use Rattle.std.proofs.lemmas.List.Concat.{flat_map-append}
use Rattle.std.proofs.lemmas.List.Sums.{fold-append}
use Rattle.aft_model.specs.declared.door.DoorAct.{DoorAct}
use Rattle.aft_model.specs.declared.door.DoorAct.TheVariants as doors
use Rattle.aft_model.specs.declared.door.DoorEntry.{DoorEntry}
use Rattle.aft_model.specs.LegalDoor.{Legal, may_come, may_follow}
use Rattle.aft_model.specs.Membership.{Incarnation, fenced, fenced_in, incarnation, is_up, same_incarnation, the_office, up_after, ups}
use Rattle.aft_model.specs.NodeSights.{comes_up, is_fenced}
use Rattle.aft_model.specs.Opening.{may_read}
use Rattle.aft_model.proofs.Growth.{given_grows}
use Rattle.aft_model.proofs.Histories.{In, all_at, any_found, any_from, each_after_kept, in_append, in_back}
use Rattle.aft_model.proofs.Lists.{filter_in, in_filter}
use Rattle.aft_model.proofs.OneCommit.{same_who}
use Rattle.aft_model.proofs.Turns.{by_rule}
use Rattle.law_kept.proofs.Gone.{flat_map_in}

pub fenced_more : (who : Incarnation) (history more : List DoorEntry) → IsTrue (is_fenced who history) → IsTrue (is_fenced who (history ++ more))
fenced_more who history more is = given_grows (λ (e : DoorEntry). fenced_in e.act) (same_incarnation who) history more is

module _ (who : Incarnation) where
  -- who was fenced isn't up
  abbrev Down : List DoorEntry → Type 0
  Down history = IsTrue (is_fenced who history) → IsFalse (is_up who history)

  -- who is up behind an act was up before it, or comes up by it, and isn't fenced by it
  up_before : (history : List DoorEntry) (act : DoorAct) → IsTrue (may_come history act) ⊎ IsTrue (may_read history act) → IsTrue (list_any (same_incarnation who) (up_after (ups history) act)) → (IsTrue (is_fenced who history) ⊎ IsTrue (list_any (same_incarnation who) (fenced_in act)))
      → IsTrue (is_up who history) × IsTrue (is_fenced who history)
  up_before history (doors.Up node inc) (inr read) up gone = absurd (false≢true read)
  up_before history (doors.Up node inc) (inl come) up (inr none) = absurd (false≢true none)
  up_before history (doors.Up node inc) (inl come) up (inl gone) =
      elim (or_cases (same_incarnation who (incarnation node inc)) (is_up who history) up) [
        | inl it ↦ absurd (again it)
        | inr was ↦ (was, gone)
      ]
    where
      again : IsTrue (same_incarnation who (incarnation node inc)) → ⊥
      again it =
          let found = any_found (same_incarnation who) (fenced history) gone in
          let other : found.0 ≡ incarnation node inc = sym (same_who who found.0 found.2) ∙ same_who who (incarnation node inc) it in
          let newer = all_at (λ (i : Incarnation). not (eqb i.node node) || ltb i.inc inc) found.0 (fenced history) found.1
          (and_parts (list_all (λ (i : Incarnation). not (eqb i.node node)) (ups history)) (list_all (λ (i : Incarnation). not (eqb i.node node) || ltb i.inc inc) (fenced history)) come).1 in
          let here : IsTrue (not (eqb node node) || ltb inc inc) = subst (λ (i : Incarnation). IsTrue (not (eqb i.node node) || ltb i.inc inc)) other newer in
          elim (or_cases (not (eqb node node)) (ltb inc inc) here) [
            | inl differs ↦ true≢false (sym (eq-eqb node node refl) ∙ not-true (eqb node node) differs)
            | inr less ↦ true≢false (sym less ∙ le-ltb inc inc (omega arith))
          ]
  up_before history (doors.Fence node inc) rule up gone =
      let found = any_found (same_incarnation who) (filter (λ (i : Incarnation). not (same_incarnation (incarnation node inc) i)) (ups history)) up in
      let kept = in_filter (λ (i : Incarnation). not (same_incarnation (incarnation node inc) i)) found.0 (ups history) found.1 in
      (was found.0 kept.0 found.2, left found.0 kept.1 found.2 gone)
    where
      was : (i : Incarnation) → In i (ups history) → IsTrue (same_incarnation who i) → IsTrue (is_up who history)
      was i among same = any_from (same_incarnation who) i (ups history) among same

      left : (i : Incarnation) → IsTrue (not (same_incarnation (incarnation node inc) i)) → IsTrue (same_incarnation who i) → IsTrue (is_fenced who history) ⊎ IsTrue (list_any (same_incarnation who) (incarnation node inc ∷ [])) → IsTrue (is_fenced who history)
      left i kept same (inl before) = before
      left i kept same (inr now) = elim (or_cases (same_incarnation who (incarnation node inc)) false now) [
        | inl it ↦ absurd (true≢false (sym (subst (λ (j : Incarnation). IsTrue (same_incarnation j i)) (same_who who (incarnation node inc) it) same) ∙ not-true (same_incarnation (incarnation node inc) i) kept))
        | inr none ↦ absurd (false≢true none)
      ]
  up_before history act rule up (inl gone) = (up, gone)
  up_before history act rule up (inr none) = absurd (false≢true none)

  down_next : (history : List DoorEntry) (entry : DoorEntry) → IsTrue (may_follow history entry) → Down history → Down (history ++ entry ∷ [])
  down_next history entry rule down gone =
      false_from_ne_true (is_up who (history ++ entry ∷ [])) (λ up.
      let before = up_before history entry.act (by_rule history entry rule).1 (subst (λ (l : List Incarnation). IsTrue (list_any (same_incarnation who) l)) (fold-append (λ (b : List Incarnation) (e : DoorEntry). up_after b e.act) (the_office ∷ []) history (entry ∷ [])) up) (parts gone) in
      true≢false (sym before.0 ∙ down before.1))
    where
      parts : IsTrue (is_fenced who (history ++ entry ∷ [])) → IsTrue (is_fenced who history) ⊎ IsTrue (list_any (same_incarnation who) (fenced_in entry.act))
      parts is =
          let found = any_found (same_incarnation who) (fenced (history ++ entry ∷ [])) is in
          elim (in_append found.0 (fenced history) (fenced (entry ∷ [])) (subst (In found.0) (flat_map-append (λ (e : DoorEntry). fenced_in e.act) history (entry ∷ [])) found.1)) [
            | inl old ↦ inl (any_from (same_incarnation who) found.0 (fenced history) old found.2)
            | inr new ↦ elim (in_append found.0 (fenced_in entry.act) [] new) [
              | inl it ↦ inr (any_from (same_incarnation who) found.0 (fenced_in entry.act) it found.2)
              | inr none ↦ absurd none
            ]
          ]

  pub fenced_down : (history : List DoorEntry) → Legal history → IsTrue (is_fenced who history) → IsFalse (is_up who history)
  fenced_down history legal = each_after_kept may_follow Down (λ h entry sofar rule down. down_next h entry rule down) [] history legal (λ none. absurd (false≢true none))

  -- ---- who came up

  abbrev pub Came : List DoorEntry → Type 0
  Came history = IsTrue (is_up who history) ⊎ IsTrue (is_fenced who history)

  ups_more : (history : List DoorEntry) (entry : DoorEntry) → ups (history ++ entry ∷ []) ≡ up_after (ups history) entry.act
  ups_more history entry = fold-append (λ (b : List Incarnation) (e : DoorEntry). up_after b e.act) (the_office ∷ []) history (entry ∷ [])

  still : (there : List Incarnation) (act : DoorAct) → IsTrue (list_any (same_incarnation who) there) → IsTrue (list_any (same_incarnation who) (up_after there act)) ⊎ IsTrue (list_any (same_incarnation who) (fenced_in act))
  still there (doors.Up node inc) up = inl (or_right (same_incarnation who (incarnation node inc)) (list_any (same_incarnation who) there) up)
  still there (doors.Fence node inc) up =
      elim (cases_Bool (same_incarnation who (incarnation node inc))) [
        | inl it ↦ inr (or_left (same_incarnation who (incarnation node inc)) false it)
        | inr other ↦ (let found = any_found (same_incarnation who) there up in
            inl (any_from (same_incarnation who) found.0 (filter (λ (i : Incarnation). not (same_incarnation (incarnation node inc) i)) there)
            (filter_in (λ (i : Incarnation). not (same_incarnation (incarnation node inc) i)) found.0 there found.1 (ap not (false_from_ne_true (same_incarnation (incarnation node inc) found.0) (λ same.
            let is : who ≡ incarnation node inc = same_who who found.0 found.2 ∙ sym (same_who (incarnation node inc) found.0 same) in
            true≢false (sym (subst (λ (i : Incarnation). IsTrue (same_incarnation who i)) is (itself found.0 found.2)) ∙ other))))) found.2))
      ]
    where
      itself : (i : Incarnation) → IsTrue (same_incarnation who i) → IsTrue (same_incarnation who who)
      itself i same = subst (λ (j : Incarnation). IsTrue (same_incarnation who j)) (sym (same_who who i same)) same
  still there act up = inl up

  came_next : (history : List DoorEntry) (entry : DoorEntry) → Came history → Came (history ++ entry ∷ [])
  came_next history entry (inr gone) = inr (fenced_more who history (entry ∷ []) gone)
  came_next history entry (inl up) =
      elim (still (ups history) entry.act up) [
        | inl there ↦ inl (subst (λ (l : List Incarnation). IsTrue (list_any (same_incarnation who) l)) (sym (ups_more history entry)) there)
        | inr gone ↦ (let found = any_found (same_incarnation who) (fenced_in entry.act) gone in
            inr (any_from (same_incarnation who) found.0 (fenced (history ++ entry ∷ [])) (flat_map_in (λ (e : DoorEntry). fenced_in e.act) found.0 entry (history ++ entry ∷ []) (in_back entry history (entry ∷ []) (inl refl)) found.1) found.2))
      ]

  came_later : (history more : List DoorEntry) → Came history → Came (history ++ more)
  came_later history [] came = subst Came (sym (append-nil history)) came
  came_later history (x ∷ more) came = subst Came (append_assoc history (x ∷ []) more) (came_later (history ++ x ∷ []) more (came_next history x came))

  -- who is up behind more was up before it, where it had come up
  pub up_between : (history more : List DoorEntry) → Legal (history ++ more) → Came history → IsTrue (is_up who (history ++ more)) → IsTrue (is_up who history)
  up_between history more legal (inl up) later = up
  up_between history more legal (inr gone) later = absurd (true≢false (sym later ∙ fenced_down (history ++ more) legal (fenced_more who history more gone)))

  pub came : (before since : List DoorEntry) (one : DoorEntry) → IsTrue (comes_up who one.act) → Came (before ++ one ∷ since)
  came before since one comes = subst Came (append_assoc before (one ∷ []) since) (came_later (before ++ one ∷ []) since (inl (subst (λ (l : List Incarnation). IsTrue (list_any (same_incarnation who) l)) (sym (ups_more before one)) (by_act one.act comes))))
    where
      by_act : (act : DoorAct) → IsTrue (comes_up who act) → IsTrue (list_any (same_incarnation who) (up_after (ups before) act))
      by_act (doors.Up node inc) is = or_left (same_incarnation who (incarnation node inc)) (list_any (same_incarnation who) (ups before)) is
      by_act act is = absurd (false≢true is)
