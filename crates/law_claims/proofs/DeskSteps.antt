-- One entry more at the door leaves the desk as its lines hold it.
use Rattle.std.proofs.Common.{◌≡◌, ℕ, suc, ◌+◌, Bool, true, false, ◌&&◌, not, List, [], ◌∷◌, ◌++◌, length, refl, sym, ap, subst, ◌∙◌, ◌⊎◌, inl, inr, eqb, arith}
use Rattle.std.specs.Prelude.{IsTrue, IsFalse, None, Option, Some, filter, if◌then◌else◌, is_none, is_some}
use Rattle.std.specs.List.{list_any}
use Rattle.std.specs.Str.{bytes_eq}
use Rattle.std.proofs.lemmas.Bool.{and_from, and_parts, and_right, cases_Bool, false≢true, false_from_ne_true, not-true, or_right, true≢false}
use Rattle.std.proofs.lemmas.List.Sums.{fold-append}
use Rattle.aft_model.specs.declared.caller.By.{By}
use Rattle.aft_model.specs.declared.door.DoorAct.{DoorAct}
use Rattle.aft_model.specs.declared.door.DoorAct.TheVariants as doors
use Rattle.aft_model.specs.declared.door.DoorEntry.{DoorEntry}
use Rattle.aft_model.specs.Claims.{claim_place, claimant, claimant_after, holder, holds, if_up, is_claim_of, is_held_by}
use Rattle.aft_model.specs.History.{last_place, last_place_from}
use Rattle.aft_model.specs.LegalDoor.{Legal, may_come, may_follow}
use Rattle.aft_model.specs.Membership.{Incarnation, incarnation, is_up, same_incarnation, the_office, up_after, ups}
use Rattle.aft_model.specs.Opening.{may_read}
use Rattle.aft_model.specs.ScanRun.{same_line}
use Rattle.aft_model.proofs.Histories.{any_found, any_from, each_after_kept, each_after_snoc}
use Rattle.aft_model.proofs.Lists.{filter_in}
use Rattle.aft_model.proofs.OneCommit.{claimant-snoc, same_who}
use Rattle.aft_model.proofs.Sights.{bytes_eq-refl, same_bytes}
use Rattle.aft_model.proofs.Turns.{by_rule}
use Rattle.aft_lines.specs.Advance.{desk_behind}
use Rattle.aft_lines.specs.Progress.{AtDesk}
use Rattle.aft_lines.specs.Turns.{AtDoor}
use Rattle.law_claims.specs.Desk.{IsHeldBy, IsNotHeld, LiesAtDesk, has_at_desk, is_at_desk, is_of_desk}
use Rattle.law_claims.proofs.Scenes.{same_by}

-- ---- the last place

last_from : {A : Type 0} (test : A → Bool) (place : ℕ) (before : Option ℕ) (xs : List A) (x : A) → last_place_from test place before (xs ++ x ∷ []) ≡ (if test x then Some (place + length xs) else last_place_from test place before xs)
last_from test place before [] x = ap (λ (n : ℕ). if test x then Some n else before) (let e : place ≡ place + 0 = omega arith in e)
last_from test place before (y ∷ ys) x =
    last_from test (suc place) (if test y then Some place else before) ys x
    ∙ ap (λ (n : ℕ). if test x then Some n else last_place_from test (suc place) (if test y then Some place else before) ys) (let e : suc place + length ys ≡ place + suc (length ys) = omega arith in e)

last-snoc : (uuid : List ℕ) (history : List DoorEntry) (entry : DoorEntry) → last_place (λ (e : DoorEntry). is_claim_of uuid e.act) (history ++ entry ∷ []) ≡ (if is_claim_of uuid entry.act then Some (length history) else last_place (λ (e : DoorEntry). is_claim_of uuid e.act) history)
last-snoc uuid history entry = last_from (λ (e : DoorEntry). is_claim_of uuid e.act) 0 None history entry ∙ ap (λ (n : ℕ). if is_claim_of uuid entry.act then Some n else last_place (λ (e : DoorEntry). is_claim_of uuid e.act) history) (let e : 0 + length history ≡ length history = omega arith in e)

-- ---- the office is always up

office_next : (history : List DoorEntry) (act : DoorAct) → IsTrue (may_come history act) ⊎ IsTrue (may_read history act) → IsTrue (is_up the_office history) → IsTrue (list_any (same_incarnation the_office) (up_after (ups history) act))
office_next history (doors.Up node inc) rule up = or_right (same_incarnation the_office (incarnation node inc)) _ up
office_next history (doors.Fence node inc) (inl come) up =
    let found = any_found (same_incarnation the_office) (ups history) up in
    let at_node = not-true (eqb node 0) (and_parts (is_up (incarnation node inc) history) (not (eqb node 0)) come).1 in
    any_from (same_incarnation the_office) found.0 (filter (λ (other : Incarnation). not (same_incarnation (incarnation node inc) other)) (ups history))
    (filter_in (λ (other : Incarnation). not (same_incarnation (incarnation node inc) other)) found.0 (ups history) found.1
    (ap not (false_from_ne_true (same_incarnation (incarnation node inc) found.0) (λ same.
    let one : incarnation node inc ≡ the_office = same_who (incarnation node inc) found.0 same ∙ sym (same_who the_office found.0 found.2) in
    true≢false (sym (ap (λ (w : Incarnation). eqb w.node 0) one) ∙ at_node))))) found.2
office_next history (doors.Fence node inc) (inr read) up = absurd (false≢true read)
office_next history act rule up = up

pub office_up : (history : List DoorEntry) → Legal history → IsTrue (is_up the_office history)
office_up history legal =
    each_after_kept may_follow (λ (h : List DoorEntry). IsTrue (is_up the_office h))
    (λ h entry sofar rule up. subst (λ (l : List Incarnation). IsTrue (list_any (same_incarnation the_office) l)) (sym (fold-append (λ (b : List Incarnation) (e : DoorEntry). up_after b e.act) (the_office ∷ []) h (entry ∷ []))) (office_next h entry.act (by_rule h entry rule).1 up)) [] history legal refl

-- another's release leaves whether the office holds
either_held : (b : Bool) (h : Option Incarnation) → is_held_by the_office h ≡ false → is_held_by the_office (if b then None else h) ≡ is_held_by the_office h
either_held true h free = sym free
either_held false h free = refl

release_other : (uuid released : List ℕ) (node inc : ℕ) → same_incarnation the_office (incarnation node inc) ≡ false → (h : Option Incarnation) → is_held_by the_office (if bytes_eq uuid released && is_held_by (incarnation node inc) h then None else h) ≡ is_held_by the_office h
release_other uuid released node inc other None = either_held (bytes_eq uuid released && false) None refl
release_other uuid released node inc other (Some who) = elim (cases_Bool (same_incarnation (incarnation node inc) who)) [
  | inl same ↦ either_held (bytes_eq uuid released && same_incarnation (incarnation node inc) who) (Some who) (ap (same_incarnation the_office) (sym (same_who (incarnation node inc) who same)) ∙ other)
  | inr differs ↦ ap (λ (b : Bool). is_held_by the_office (if b then None else Some who)) (and_right (bytes_eq uuid released) (same_incarnation (incarnation node inc) who) differs)
]

-- ---- claimants

-- what the office has claimed nobody may claim
held_some : (history : List DoorEntry) (h : Option Incarnation) → IsTrue (is_up the_office history) → IsTrue (is_held_by the_office h) → IsTrue (is_some (if_up history h))
held_some history None up held = absurd (false≢true held)
held_some history (Some who) up held = subst (λ (b : Bool). IsTrue (is_some (if b then Some who else None))) (sym (subst (λ (i : Incarnation). IsTrue (is_up i history)) (same_who the_office who held) up)) refl

up_held_by : (history : List DoorEntry) (h : Option Incarnation) → IsTrue (is_up the_office history) → IsTrue (is_held_by the_office h) → IsTrue (is_held_by the_office (if_up history h))
up_held_by history None up held = held
up_held_by history (Some who) up held = subst (λ (b : Bool). IsTrue (is_held_by the_office (if b then Some who else None))) (sym (subst (λ (i : Incarnation). IsTrue (is_up i history)) (same_who the_office who held) up)) held

module _ (door : List DoorEntry) (entry : DoorEntry) (legal : Legal (door ++ entry ∷ [])) where
  split : Legal door × IsTrue (may_follow door entry)
  split = each_after_snoc may_follow [] door entry legal

  not_claimed : (uuid claimed : List ℕ) (node inc : ℕ) → entry.act ≡ doors.Claim claimed node inc → bytes_eq uuid claimed ≡ true → IsTrue (is_held_by the_office (claimant uuid door)) → ⊥
  not_claimed uuid claimed node inc is same held = by_come (subst (λ (act : DoorAct). IsTrue (may_come door act) ⊎ IsTrue (may_read door act)) is (by_rule door entry split.1).1)
    where
      by_come : IsTrue (may_come door (doors.Claim claimed node inc)) ⊎ IsTrue (may_read door (doors.Claim claimed node inc)) → ⊥
      by_come (inl come) =
          let free = not-true (is_some (holder claimed door)) (and_parts (not (is_some (holder claimed door))) _ (and_parts (is_up (incarnation node inc) door) _ come).1).0 in
          true≢false (sym (subst (λ (u : List ℕ). IsTrue (is_some (holder u door))) (same_bytes uuid claimed same) (held_some door (claimant uuid door) (office_up door split.0) held)) ∙ free)
      by_come (inr read) = false≢true read

  -- an act that the office didn't make leaves whether it holds
  other_claimant : (uuid : List ℕ) (act : DoorAct) → entry.act ≡ act → is_of_desk act ≡ false → is_held_by the_office (claimant_after uuid (claimant uuid door) act) ≡ is_held_by the_office (claimant uuid door)
  other_claimant uuid (doors.Claim claimed node inc) is other = cases (bytes_eq uuid claimed) refl
    where
      cases : (b : Bool) → bytes_eq uuid claimed ≡ b → is_held_by the_office (if b then Some (incarnation node inc) else claimant uuid door) ≡ is_held_by the_office (claimant uuid door)
      cases true same = other ∙ sym (false_from_ne_true (is_held_by the_office (claimant uuid door)) (not_claimed uuid claimed node inc is same))
      cases false differs = refl
  other_claimant uuid (doors.Release released node inc) is other = release_other uuid released node inc other (claimant uuid door)
  other_claimant uuid act is other = refl

  -- nor does it leave another last claim, where the office holds
  other_place : (uuid : List ℕ) (act : DoorAct) → entry.act ≡ act → IsTrue (is_held_by the_office (claimant uuid door)) → is_claim_of uuid act ≡ false
  other_place uuid (doors.Claim claimed node inc) is held = false_from_ne_true (bytes_eq uuid claimed) (λ same. not_claimed uuid claimed node inc is same held)
  other_place uuid act is held = refl

  abbrev behind : List DoorEntry
  behind = door ++ entry ∷ []

  -- an entry that isn't of the desk
  pub others_lie : (desk after : By → Option AtDesk) → is_of_desk entry.act ≡ false → ((by : By) → after by ≡ desk by) → (uuid : List ℕ) → LiesAtDesk door desk uuid → LiesAtDesk behind after uuid
  others_lie desk after other same uuid (IsNotHeld none free) =
      IsNotHeld (λ by. ap (λ (d : Option AtDesk). has_at_desk d uuid) (same by) ∙ none by) (ap (is_held_by the_office) (claimant-snoc uuid door entry) ∙ (other_claimant uuid entry.act refl other ∙ free))
  others_lie desk after other same uuid (IsHeldBy by held is its stands place only) =
      IsHeldBy by held (same by ∙ is) its (ap (is_held_by the_office) (claimant-snoc uuid door entry) ∙ (other_claimant uuid entry.act refl other ∙ stands))
      (last-snoc uuid door entry ∙ (ap (λ (b : Bool). if b then Some (length door) else last_place (λ (e : DoorEntry). is_claim_of uuid e.act) door) (other_place uuid entry.act refl stands) ∙ place))
      (λ another differs. ap (λ (d : Option AtDesk). has_at_desk d uuid) (same another) ∙ only another differs)

  -- an entry of a round of orphans
  module _ (by : By) (desk after : By → Option AtDesk) (turns : IsTrue (is_at_desk (desk by) (AtDoor (length door) entry.act))) (now : after by ≡ desk_behind (desk by) (AtDoor (length door) entry.act)) (same : (other : By) → IsFalse (same_line by other) → after other ≡ desk other) where
    -- who holds nothing of a UUID, if the line doesn't and none of the others did
    none_has : (uuid : List ℕ) → IsFalse (has_at_desk (after by) uuid) → (other : By) → (IsFalse (same_line by other) → IsFalse (has_at_desk (desk other) uuid)) → IsFalse (has_at_desk (after other) uuid)
    none_has uuid mine other was = elim (cases_Bool (same_line by other)) [
      | inl is ↦ subst (λ (b : By). IsFalse (has_at_desk (after b) uuid)) (same_by by other is) mine
      | inr differs ↦ ap (λ (d : Option AtDesk). has_at_desk d uuid) (same other differs) ∙ was differs
    ]

    -- another UUID lies as before
    elsewhere_lies : (uuid : List ℕ) → is_held_by the_office (claimant uuid behind) ≡ is_held_by the_office (claimant uuid door) → last_place (λ (e : DoorEntry). is_claim_of uuid e.act) behind ≡ last_place (λ (e : DoorEntry). is_claim_of uuid e.act) door
        → IsFalse (has_at_desk (desk by) uuid) → IsFalse (has_at_desk (after by) uuid) → LiesAtDesk door desk uuid → LiesAtDesk behind after uuid
    elsewhere_lies uuid claims places was mine (IsNotHeld none free) = IsNotHeld (λ other. none_has uuid mine other (λ differs. none other)) (claims ∙ free)
    elsewhere_lies uuid claims places was mine (IsHeldBy one held is its stands place only) =
        let differs : IsFalse (same_line by one) = false_from_ne_true (same_line by one) (λ it.
        let at : desk by ≡ Some held = ap desk (same_by by one it) ∙ is in
        true≢false (sym (subst (λ (d : Option AtDesk). IsTrue (has_at_desk d uuid)) (sym at) (subst (λ (u : List ℕ). IsTrue (bytes_eq held.uuid u)) its (bytes_eq-refl held.uuid))) ∙ was)) in
        IsHeldBy one held (same one differs ∙ is) its (claims ∙ stands) (places ∙ place) (λ other apart. none_has uuid mine other (λ d. only other apart))

    claim_lies : (claimed : List ℕ) (node inc : ℕ) → entry.act ≡ doors.Claim claimed node inc → desk by ≡ None → IsTrue (same_incarnation the_office (incarnation node inc)) → after by ≡ Some (record { uuid = claimed; place = length door }) → (uuid : List ℕ) → LiesAtDesk door desk uuid → LiesAtDesk behind after uuid
    claim_lies claimed node inc is nothing office holds uuid lies = elim (cases_Bool (bytes_eq uuid claimed)) [
      | inl equal ↦ taken equal lies
      | inr other ↦
          elsewhere_lies uuid (ap (is_held_by the_office) (claimant-snoc uuid door entry ∙ (ap (claimant_after uuid (claimant uuid door)) is ∙ ap (λ (b : Bool). if b then Some (incarnation node inc) else claimant uuid door) other)))
          (last-snoc uuid door entry ∙ ap (λ (b : Bool). if b then Some (length door) else last_place (λ (e : DoorEntry). is_claim_of uuid e.act) door) (ap (is_claim_of uuid) is ∙ other))
          (ap (λ (d : Option AtDesk). has_at_desk d uuid) nothing)
          (ap (λ (d : Option AtDesk). has_at_desk d uuid) holds ∙ false_from_ne_true (bytes_eq claimed uuid) (λ back. true≢false (sym (subst (λ (u : List ℕ). IsTrue (bytes_eq uuid u)) (sym (same_bytes claimed uuid back)) (bytes_eq-refl uuid)) ∙ other))) lies
    ]
      where
        taken : bytes_eq uuid claimed ≡ true → LiesAtDesk door desk uuid → LiesAtDesk behind after uuid
        taken equal (IsHeldBy one held at its stands place only) = absurd (not_claimed uuid claimed node inc is equal stands)
        taken equal (IsNotHeld none free) =
            IsHeldBy by (record { uuid = claimed; place = length door }) holds (sym (same_bytes uuid claimed equal))
            (subst (λ (h : Option Incarnation). IsTrue (is_held_by the_office h)) (sym (claimant-snoc uuid door entry ∙ (ap (claimant_after uuid (claimant uuid door)) is ∙ ap (λ (b : Bool). if b then Some (incarnation node inc) else claimant uuid door) equal))) office)
            (last-snoc uuid door entry ∙ ap (λ (b : Bool). if b then Some (length door) else last_place (λ (e : DoorEntry). is_claim_of uuid e.act) door) (ap (is_claim_of uuid) is ∙ equal))
            (λ other differs. ap (λ (d : Option AtDesk). has_at_desk d uuid) (same other differs) ∙ none other)

    release_lies : (released : List ℕ) (node inc : ℕ) → entry.act ≡ doors.Release released node inc → IsTrue (has_at_desk (desk by) released) → IsTrue (same_incarnation the_office (incarnation node inc)) → after by ≡ None → (uuid : List ℕ) → LiesAtDesk door desk uuid → LiesAtDesk behind after uuid
    release_lies released node inc is had office nothing uuid lies = elim (cases_Bool (bytes_eq uuid released)) [
      | inl equal ↦ freed (same_bytes uuid released equal) equal lies
      | inr other ↦
          elsewhere_lies uuid (ap (is_held_by the_office) (claimant-snoc uuid door entry ∙ (ap (claimant_after uuid (claimant uuid door)) is ∙ ap (λ (b : Bool). if b && is_held_by (incarnation node inc) (claimant uuid door) then None else claimant uuid door) other)))
          (last-snoc uuid door entry ∙ ap (λ (b : Bool). if b then Some (length door) else last_place (λ (e : DoorEntry). is_claim_of uuid e.act) door) (ap (is_claim_of uuid) is))
          (false_from_ne_true (has_at_desk (desk by) uuid) (λ has. true≢false (sym (two (desk by) has had) ∙ other))) (ap (λ (d : Option AtDesk). has_at_desk d uuid) nothing) lies
    ]
      where
        two : (d : Option AtDesk) → IsTrue (has_at_desk d uuid) → IsTrue (has_at_desk d released) → IsTrue (bytes_eq uuid released)
        two None one other = absurd (false≢true one)
        two (Some held) one other = subst (λ (u : List ℕ). IsTrue (bytes_eq u released)) (same_bytes held.uuid uuid one) other

        freed : uuid ≡ released → bytes_eq uuid released ≡ true → LiesAtDesk door desk uuid → LiesAtDesk behind after uuid
        freed one equal (IsNotHeld none free) = absurd (true≢false (sym (subst (λ (u : List ℕ). IsTrue (has_at_desk (desk by) u)) (sym one) had) ∙ none by))
        freed one equal (IsHeldBy holder_line held at its stands place only) =
            let same_holder = same_who the_office (incarnation node inc) office in
            let mine : IsTrue (is_held_by (incarnation node inc) (claimant uuid door)) = subst (λ (w : Incarnation). IsTrue (is_held_by w (claimant uuid door))) same_holder stands in
            let gone : claimant uuid behind ≡ None = claimant-snoc uuid door entry ∙ (ap (claimant_after uuid (claimant uuid door)) is ∙ ap (λ (b : Bool). if b then None else claimant uuid door) (and_from (bytes_eq uuid released) (is_held_by (incarnation node inc) (claimant uuid door)) equal mine)) in
            let line_is : IsTrue (same_line holder_line by) = elim (cases_Bool (same_line holder_line by)) [
              | inl it ↦ it
              | inr differs ↦ absurd (true≢false (sym (subst (λ (u : List ℕ). IsTrue (has_at_desk (desk by) u)) (sym one) had) ∙ only by differs))
            ] in
            let e = same_by holder_line by line_is in
            IsNotHeld (λ other. none_has uuid (ap (λ (d : Option AtDesk). has_at_desk d uuid) nothing) other (λ differs. only other (subst (λ (b : By). IsFalse (same_line b other)) (sym e) differs))) (ap (is_held_by the_office) gone)

    none_is : (d : Option AtDesk) → IsTrue (is_none d) → d ≡ None
    none_is None so = refl
    none_is (Some held) so = absurd (false≢true so)

    -- every act is one of these, or not of the desk
    by_act : (act : DoorAct) → entry.act ≡ act → (uuid : List ℕ) → LiesAtDesk door desk uuid → LiesAtDesk behind after uuid
    by_act (doors.Claim claimed node inc) is uuid lies =
        let parts = and_parts (is_none (desk by)) (same_incarnation the_office (incarnation node inc)) (subst (λ (act : DoorAct). IsTrue (is_at_desk (desk by) (AtDoor (length door) act))) is turns) in
        claim_lies claimed node inc is (none_is (desk by) parts.0) parts.1 (now ∙ ap (λ (act : DoorAct). desk_behind (desk by) (AtDoor (length door) act)) is) uuid lies
    by_act (doors.Release released node inc) is uuid lies =
        let parts = and_parts (has_at_desk (desk by) released) (same_incarnation the_office (incarnation node inc)) (subst (λ (act : DoorAct). IsTrue (is_at_desk (desk by) (AtDoor (length door) act))) is turns) in
        release_lies released node inc is parts.0 parts.1 (now ∙ ap (λ (act : DoorAct). desk_behind (desk by) (AtDoor (length door) act)) is) uuid lies
    by_act act is uuid lies = others_lie desk after (ap is_of_desk is) (λ other. unchanged other (now ∙ ap (λ (x : DoorAct). desk_behind (desk by) (AtDoor (length door) x)) is)) uuid lies
      where
        unchanged : (other : By) → after by ≡ desk by → after other ≡ desk other
        unchanged other mine = elim (cases_Bool (same_line by other)) [
          | inl it ↦ subst (λ (b : By). after b ≡ desk b) (same_by by other it) mine
          | inr differs ↦ same other differs
        ]

    pub round_lies : (uuid : List ℕ) → LiesAtDesk door desk uuid → LiesAtDesk behind after uuid
    round_lies uuid lies = by_act entry.act refl uuid lies

-- what the desk tells: who holds a UUID for the office
pub desk_tells : (door : List DoorEntry) (desk : By → Option AtDesk) (by : By) (held : AtDesk) → Legal door → ((uuid : List ℕ) → LiesAtDesk door desk uuid) → desk by ≡ Some held → IsTrue (holds the_office held.uuid door) × (claim_place held.uuid door ≡ Some held.place)
desk_tells door desk by held legal lies is = cases (lies held.uuid)
  where
    had : IsTrue (has_at_desk (desk by) held.uuid)
    had = subst (λ (d : Option AtDesk). IsTrue (has_at_desk d held.uuid)) (sym is) (bytes_eq-refl held.uuid)

    told : (uuid : List ℕ) (place : ℕ) → IsTrue (is_held_by the_office (claimant uuid door)) → last_place (λ (e : DoorEntry). is_claim_of uuid e.act) door ≡ Some place → IsTrue (holds the_office uuid door) × (claim_place uuid door ≡ Some place)
    told uuid place stands last =
        (up_held_by door (claimant uuid door) (office_up door legal) stands, ap (λ (b : Bool). if b then last_place (λ (e : DoorEntry). is_claim_of uuid e.act) door else None) (held_some door (claimant uuid door) (office_up door legal) stands) ∙ last)

    cases : LiesAtDesk door desk held.uuid → IsTrue (holds the_office held.uuid door) × (claim_place held.uuid door ≡ Some held.place)
    cases (IsNotHeld none free) = absurd (true≢false (sym had ∙ none by))
    cases (IsHeldBy one other at its stands place only) = elim (cases_Bool (same_line one by)) [
      | inl it ↦
          let both : Some other ≡ Some held = sym at ∙ (ap desk (same_by one by it) ∙ is) in
          let same : other ≡ held = cc in
          told held.uuid held.place stands (place ∙ ap (λ (h : AtDesk). Some h.place) same)
      | inr differs ↦ absurd (true≢false (sym had ∙ only by differs))
    ]
