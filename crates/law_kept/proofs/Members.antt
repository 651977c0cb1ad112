-- Who is up, and whose claim stands, behind an entry: whoever has claimed the UUID and is up was up before.
use Rattle.std.proofs.Common.{◌≡◌, ℕ, Bool, true, false, ◌||◌, not, List, [], ◌∷◌, ◌++◌, refl, sym, ap, subst, ◌∙◌, ◌⊎◌, inl, inr, eqb, ltb, arith}
use Rattle.std.specs.Prelude.{IsTrue, Option, None, filter}
use Rattle.std.specs.List.{fold, list_all, list_any}
use Rattle.std.proofs.lemmas.Bool.{and_parts, or_cases, or_left, or_right, not-true, true≢false, eq-eqb, le-ltb}
use Rattle.std.proofs.lemmas.List.Concat.{flat_map-append}
use Rattle.std.proofs.lemmas.List.Sums.{fold-append}
use Rattle.aft_id.specs.declared.txn_id.TxnId.{TxnId}
use Rattle.aft_records.specs.declared.stored.Commit.{Commit}
use Rattle.aft_model.specs.declared.door.DoorAct.{DoorAct}
use Rattle.aft_model.specs.declared.door.DoorAct.TheVariants.{Fence, Up}
use Rattle.aft_model.specs.declared.door.DoorEntry.{DoorEntry}
use Rattle.aft_model.specs.LegalDoor.{may_come}
use Rattle.aft_model.specs.Looks.{Found, IsUnclaimed, found_after, look, look_after}
use Rattle.aft_model.specs.Membership.{Incarnation, fenced, fenced_in, is_up, same_incarnation, the_office, up_after, ups}
use Rattle.aft_model.specs.Stages.{IsIdle, Stage, put_after, put_under_claim, stage, stage_after}
use Rattle.aft_model.proofs.Growth.{given_grows}
use Rattle.aft_model.proofs.Histories.{all_at, any_found, any_from, in_back, in_front}
use Rattle.aft_model.proofs.Lists.{filter_in, in_filter}
use Rattle.aft_model.proofs.OneCommit.{same_itself, same_who}

-- ---- with one entry more

pub ups-snoc : (history : List DoorEntry) (entry : DoorEntry) → ups (history ++ entry ∷ []) ≡ up_after (ups history) entry.act
ups-snoc history entry = fold-append (λ (before : List Incarnation) (e : DoorEntry). up_after before e.act) (the_office ∷ []) history (entry ∷ [])

pub stage-snoc : (who : Incarnation) (uuid : List ℕ) (history : List DoorEntry) (entry : DoorEntry) → stage who uuid (history ++ entry ∷ []) ≡ stage_after who uuid (stage who uuid history) entry.act
stage-snoc who uuid history entry = fold-append (λ (before : Stage) (e : DoorEntry). stage_after who uuid before e.act) IsIdle history (entry ∷ [])

pub put-snoc : (who : Incarnation) (uuid : List ℕ) (history : List DoorEntry) (entry : DoorEntry) → put_under_claim who uuid (history ++ entry ∷ []) ≡ put_after who uuid (put_under_claim who uuid history) entry.act
put-snoc who uuid history entry = fold-append (λ (before : List Commit) (e : DoorEntry). put_after who uuid before e.act) [] history (entry ∷ [])

-- what the office has found, as it goes along
abbrev found : TxnId → List DoorEntry → Found
found id history = fold (λ (before : Found) (e : DoorEntry). found_after id before e.act) (record { look = IsUnclaimed; claimant = None }) history

-- what is found out behind an entry, by whose claim stood in that
pub look-snoc : (id : TxnId) (history : List DoorEntry) (entry : DoorEntry) → (held : Option Incarnation) × (look id (history ++ entry ∷ []) ≡ look_after id held (look id history) entry.act)
look-snoc id history entry =
    ((found id history).claimant, ap (λ (f : Found). f.look) (fold-append (λ (before : Found) (e : DoorEntry). found_after id before e.act) (record { look = IsUnclaimed; claimant = None }) history (entry ∷ [])))

-- ---- who is up

any_filter : {A : Type 0} (p q : A → Bool) (xs : List A) → IsTrue (list_any p (filter q xs)) → IsTrue (list_any p xs)
any_filter p q xs passed =
    let found = any_found p (filter q xs) passed in
    any_from p found.0 xs (in_filter q found.0 xs found.1).0 found.2

abbrev pub Fenced : Incarnation → List DoorEntry → Type 0
Fenced who history = IsTrue (list_any (same_incarnation who) (fenced history))

module _ (who : Incarnation) (history : List DoorEntry) (known : IsTrue (is_up who history) ⊎ Fenced who history) where
  again : (node inc : ℕ) → IsTrue (may_come history (Up node inc)) → IsTrue (same_incarnation who (record { node = node; inc = inc })) → Fenced who history → ⊥
  again node inc come it gone =
      let found = any_found (same_incarnation who) (fenced history) gone in
      let other : found.0 ≡ record { node = node; inc = inc } = sym (same_who who found.0 found.2) ∙ same_who who (record { node = node; inc = inc }) it in
      let newer = all_at (λ (i : Incarnation). not (eqb i.node node) || ltb i.inc inc) found.0 (fenced history) found.1
      (and_parts (list_all (λ (i : Incarnation). not (eqb i.node node)) (ups history)) (list_all (λ (i : Incarnation). not (eqb i.node node) || ltb i.inc inc) (fenced history)) come).1 in
      let here : IsTrue (not (eqb node node) || ltb inc inc) = subst (λ (i : Incarnation). IsTrue (not (eqb i.node node) || ltb i.inc inc)) other newer in
      elim (or_cases (not (eqb node node)) (ltb inc inc) here) [
        | inl differs ↦ true≢false (sym (eq-eqb node node refl) ∙ not-true (eqb node node) differs)
        | inr less ↦ true≢false (sym less ∙ le-ltb inc inc (omega arith))
      ]

  was_up_act : (act : DoorAct) → IsTrue (may_come history act) → IsTrue (list_any (same_incarnation who) (up_after (ups history) act)) → IsTrue (is_up who history)
  was_up_act (Up node inc) come up =
      elim (or_cases (same_incarnation who (record { node = node; inc = inc })) (is_up who history) up) [
        | inl it ↦ elim known [ inl was ↦ was | inr gone ↦ absurd (again node inc come it gone) ]
        | inr was ↦ was
      ]
  was_up_act (Fence node inc) come up = any_filter (same_incarnation who) _ (ups history) up
  was_up_act act come up = up

  still_known : (act : DoorAct) → IsTrue (is_up who history) → IsTrue (list_any (same_incarnation who) (up_after (ups history) act)) ⊎ IsTrue (list_any (same_incarnation who) (fenced_in act))
  still_known (Up node inc) was = inl (or_right _ _ was)
  still_known (Fence node inc) was = cases (same_incarnation (record { node = node; inc = inc }) who) refl
    where
      cases : (t : Bool) → same_incarnation (record { node = node; inc = inc }) who ≡ t
          → IsTrue (list_any (same_incarnation who) (up_after (ups history) (Fence node inc))) ⊎ IsTrue (list_any (same_incarnation who) (fenced_in (Fence node inc)))
      cases true it = inr (or_left _ _ (subst (λ (i : Incarnation). IsTrue (same_incarnation who i)) (sym (same_who (record { node = node; inc = inc }) who it)) (same_itself who)))
      cases false other =
          let found = any_found (same_incarnation who) (ups history) was in
          inl (any_from (same_incarnation who) found.0 _ (filter_in (λ (j : Incarnation). not (same_incarnation (record { node = node; inc = inc }) j)) found.0 (ups history) found.1
          (subst (λ (j : Incarnation). IsTrue (not (same_incarnation (record { node = node; inc = inc }) j))) (same_who who found.0 found.2) (ap not other))) found.2)
  still_known act was = inl was

  module _ (entry : DoorEntry) (come : IsTrue (may_come history entry.act)) where
    pub was_up : IsTrue (is_up who (history ++ entry ∷ [])) → IsTrue (is_up who history)
    was_up up = was_up_act entry.act come (subst (λ l. IsTrue (list_any (same_incarnation who) l)) (ups-snoc history entry) up)

    pub known_after : IsTrue (is_up who (history ++ entry ∷ [])) ⊎ Fenced who (history ++ entry ∷ [])
    known_after = elim known [
      | inl up ↦ elim (still_known entry.act up) [
        | inl still ↦ inl (subst (λ l. IsTrue (list_any (same_incarnation who) l)) (sym (ups-snoc history entry)) still)
        | inr gone ↦ (let both = flat_map-append (λ (e : DoorEntry). fenced_in e.act) history (entry ∷ []) in
            let found = any_found (same_incarnation who) (fenced_in entry.act) gone in
            inr (subst (λ l. IsTrue (list_any (same_incarnation who) l)) (sym both)
            (any_from (same_incarnation who) found.0 (fenced history ++ (fenced_in entry.act ++ [])) (in_back found.0 (fenced history) _ (in_front found.0 (fenced_in entry.act) [] found.1)) found.2)))
      ]
      | inr gone ↦ inr (given_grows (λ (e : DoorEntry). fenced_in e.act) (same_incarnation who) history (entry ∷ []) gone)
    ]
