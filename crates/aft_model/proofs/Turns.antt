-- Whoever claims a UUID, is up and has not released it holds it, and nobody else claims it meanwhile.
use Rattle.std.proofs.Common.{◌≡◌, ℕ, Bool, true, false, ◌&&◌, ◌||◌, not, List, [], ◌∷◌, ◌++◌, refl, sym, ap, subst, ◌∙◌, ◌⊎◌, inl, inr, eqb, ltb, arith}
use Rattle.std.specs.Prelude.{IsTrue, IsFalse, Option, Some, None, is_some, filter, if◌then◌else◌}
use Rattle.std.specs.List.{list_any, list_all}
use Rattle.std.specs.Str.{bytes_eq}
use Rattle.std.proofs.lemmas.Bool.{and_parts, and_from, or_cases, or_left, or_right, or_from, not-true, true≢false, false≢true, false_from_ne_true, eq-eqb, le-ltb}
use Rattle.std.proofs.lemmas.List.Concat.{flat_map-append}
use Rattle.std.proofs.lemmas.List.Sums.{fold-append}
use Rattle.std.proofs.lemmas.List.Folds.{list_any-append}
use Rattle.aft_model.specs.declared.door.DoorAct.{DoorAct}
use Rattle.aft_model.specs.declared.door.DoorAct.TheVariants.{Up, Fence, Claim, Release}
use Rattle.aft_model.specs.declared.door.DoorEntry.{DoorEntry}
use Rattle.aft_model.specs.Claims.{is_held_by, claimant_after, claimant, if_up, holder}
use Rattle.aft_model.specs.Course.{releases, puts_record, none_is, is_due}
use Rattle.aft_model.specs.DoorKnowledge.{is_open, claims, finds_absent}
use Rattle.aft_model.specs.History.{followed}
use Rattle.aft_model.specs.LegalDoor.{is_answered, may_come, may_follow}
use Rattle.aft_model.specs.Membership.{Incarnation, the_office, same_incarnation, up_after, ups, is_up, fenced_in, fenced}
use Rattle.aft_model.specs.Opening.{may_open, may_read}
use Rattle.aft_model.specs.Readings.{record_name}
use Rattle.aft_model.proofs.Growth.{given_grows}
use Rattle.aft_model.proofs.Histories.{in_front, in_back, any_found, any_from, all_at, all_append, followed_snoc}
use Rattle.aft_model.proofs.OneCommit.{same_who, same_itself, held_same, claimant-snoc, claimed_in, is_clear}
use Rattle.aft_model.proofs.Sights.{same_bytes}

-- ---- lists

-- some entry passes, where some passes with a rest behind it
followed_some : {A : Type 0} (first : A → Bool) (rest : List A → Bool) (xs : List A) → IsTrue (followed first rest xs) → IsTrue (list_any first xs)
followed_some first rest [] passed = passed
followed_some first rest (x ∷ xs) passed =
    elim (or_cases (first x && rest xs) (followed first rest xs) passed) [
      | inl here ↦ or_left _ _ (and_parts (first x) (rest xs) here).0
      | inr later ↦ or_right _ _ (followed_some first rest xs later)
    ]

pub followed_implied : {A : Type 0} (first : A → Bool) (p q : List A → Bool) → ((ys : List A) → IsTrue (p ys) → IsTrue (q ys)) → (xs : List A) → IsTrue (followed first p xs) → IsTrue (followed first q xs)
followed_implied first p q more [] passed = passed
followed_implied first p q more (x ∷ xs) passed =
    elim (or_cases (first x && p xs) (followed first p xs) passed) [
      | inl here ↦ (let parts = and_parts (first x) (p xs) here in or_left _ _ (and_from _ _ parts.0 (more xs parts.1)))
      | inr later ↦ or_right _ _ (followed_implied first p q more xs later)
    ]

pub all_snoc : {A : Type 0} (test : A → Bool) (xs : List A) (x : A) → IsTrue (list_all test xs) → IsTrue (test x) → IsTrue (list_all test (xs ++ x ∷ []))
all_snoc test [] x all last = and_from _ _ last refl
all_snoc test (y ∷ ys) x all last = let parts = and_parts (test y) (list_all test ys) all in and_from _ _ parts.0 (all_snoc test ys x parts.1 last)

pub followed_more : {A : Type 0} (first good : A → Bool) (xs : List A) (x : A) → IsTrue (followed first (list_all good) xs) → IsTrue (good x) → IsTrue (followed first (list_all good) (xs ++ x ∷ []))
followed_more first good [] x passed last = absurd (false≢true passed)
followed_more first good (y ∷ ys) x passed last =
    elim (or_cases (first y && list_all good ys) (followed first (list_all good) ys) passed) [
      | inl here ↦ (let parts = and_parts (first y) (list_all good ys) here in or_left _ _ (and_from _ _ parts.0 (all_snoc good ys x parts.1 last)))
      | inr later ↦ or_right _ _ (followed_more first good ys x later last)
    ]

pub followed_last : {A : Type 0} (first good : A → Bool) (xs : List A) (x : A) → IsTrue (first x) → IsTrue (followed first (list_all good) (xs ++ x ∷ []))
followed_last first good [] x last = or_left _ _ (and_from _ _ last refl)
followed_last first good (y ∷ ys) x last = or_right _ _ (followed_last first good ys x last)

any_filter : {A : Type 0} (p q : A → Bool) (xs : List A) → IsTrue (list_any p (filter q xs)) → IsTrue (list_any p xs)
any_filter p q [] passed = passed
any_filter {A} p q (x ∷ xs) passed = cases (any_filter p q xs) (q x) passed
  where
    cases : (IsTrue (list_any p (filter q xs)) → IsTrue (list_any p xs)) → (t : Bool) → IsTrue (list_any p (if t then x ∷ filter q xs else filter q xs)) → IsTrue (list_any p (x ∷ xs))
    cases rest true passed = elim (or_cases (p x) (list_any p (filter q xs)) passed) [ inl here ↦ or_left _ _ here | inr later ↦ or_right _ _ (rest later) ]
    cases rest false passed = or_right _ _ (rest passed)

any_filtered : {A : Type 0} (p q : A → Bool) (xs : List A) → ((x : A) → IsTrue (p x) → IsTrue (q x)) → IsTrue (list_any p xs) → IsTrue (list_any p (filter q xs))
any_filtered p q [] more passed = passed
any_filtered {A} p q (x ∷ xs) more passed = cases (any_filtered p q xs more) (q x) refl
  where
    cases : (IsTrue (list_any p xs) → IsTrue (list_any p (filter q xs))) → (t : Bool) → q x ≡ t → IsTrue (list_any p (if t then x ∷ filter q xs else filter q xs))
    cases rest true is = elim (or_cases (p x) (list_any p xs) passed) [ inl here ↦ or_left _ _ here | inr later ↦ or_right _ _ (rest later) ]
    cases rest false is = elim (or_cases (p x) (list_any p xs) passed) [
      | inl here ↦ absurd (true≢false (sym (more x here) ∙ is))
      | inr later ↦ rest later
    ]

-- ---- the rules

-- an entry comes by a rule of the open door, or by that of the opening
pub by_rule : (history : List DoorEntry) (entry : DoorEntry) → IsTrue (may_follow history entry)
    → IsTrue (is_answered entry.act) × (IsTrue (may_come history entry.act) ⊎ IsTrue (may_read history entry.act))
by_rule history entry legal =
    let parts = and_parts _ _ legal in
    (parts.0, cases (is_open history) parts.1)
  where
    cases : (t : Bool) → IsTrue (if t then may_come history entry.act else may_open history entry) → IsTrue (may_come history entry.act) ⊎ IsTrue (may_read history entry.act)
    cases true come = inl come
    cases false opening = inr (and_parts _ _ opening).1

ups-snoc : (history : List DoorEntry) (entry : DoorEntry) → ups (history ++ entry ∷ []) ≡ up_after (ups history) entry.act
ups-snoc history entry = fold-append (λ (before : List Incarnation) (e : DoorEntry). up_after before e.act) (the_office ∷ []) history (entry ∷ [])

-- who holds a UUID has the claim that stands, and is up
pub held_up : (who : Incarnation) (history : List DoorEntry) (c : Option Incarnation) → IsTrue (is_held_by who (if_up history c)) → IsTrue (is_held_by who c) × IsTrue (is_up who history)
held_up who history None held = absurd (false≢true held)
held_up who history (Some other) held = cases (is_up other history) refl held
  where
    cases : (t : Bool) → is_up other history ≡ t → IsTrue (is_held_by who (if t then Some other else None)) → IsTrue (same_incarnation who other) × IsTrue (is_up who history)
    cases true up held = (held, subst (λ (i : Incarnation). IsTrue (is_up i history)) (sym (same_who who other held)) up)
    cases false up held = absurd (false≢true held)

up_held : (who : Incarnation) (history : List DoorEntry) (c : Option Incarnation) → IsTrue (is_held_by who c) → IsTrue (is_up who history) → IsTrue (is_some (if_up history c))
up_held who history None held up = absurd (false≢true held)
up_held who history (Some other) held up =
    let there : is_up other history ≡ true = subst (λ (i : Incarnation). IsTrue (is_up i history)) (same_who who other held) up in
    subst (λ t. IsTrue (is_some (if t then Some other else None))) (sym there) refl

-- ---- one incarnation and one UUID

module _ (who : Incarnation) (uuid : List ℕ) where
  -- it has claimed the UUID
  abbrev pub has_claimed : List DoorEntry → Bool
  has_claimed history = list_any (λ entry. claims who uuid entry.act) history

  -- it has claimed the UUID, and not released it since
  abbrev pub has_kept : List DoorEntry → Bool
  has_kept history = followed (λ entry. claims who uuid entry.act) (list_all (λ entry. not (releases who uuid entry.act))) history

  abbrev Fenced : List DoorEntry → Type 0
  Fenced history = IsTrue (list_any (same_incarnation who) (fenced history))

  -- what holds after each entry
  pub record Turn (history : List DoorEntry) : Type 0 where
    pub known : IsTrue (has_claimed history) → IsTrue (is_up who history) ⊎ Fenced history
    pub held : IsTrue (has_kept history) → IsTrue (is_up who history) → IsTrue (is_held_by who (claimant uuid history))
    pub clear : IsTrue (is_due who uuid history) → IsTrue (is_up who history) → IsTrue (is_clear uuid who history)

  pub turn_at_first : Turn []
  turn_at_first = record { known = λ claimed. absurd (false≢true claimed); held = λ kept up. absurd (false≢true kept); clear = λ due up. absurd (false≢true due) }

  due_kept : (history : List DoorEntry) → IsTrue (is_due who uuid history) → IsTrue (has_kept history)
  due_kept history due =
      followed_implied (λ (e : DoorEntry). claims who uuid e.act)
      (λ (since : List DoorEntry). none_is (releases who uuid) since && followed (λ (e : DoorEntry). finds_absent who (record_name uuid) e.act) (none_is (puts_record who uuid)) since)
      (none_is (releases who uuid))
      (λ ys both. (and_parts (none_is (releases who uuid) ys) (followed (λ (e : DoorEntry). finds_absent who (record_name uuid) e.act) (none_is (puts_record who uuid)) ys) both).0) history due

  -- its turn with one more entry is its turn before, or begins with this one
  due_snoc : (history : List DoorEntry) (entry : DoorEntry) → IsTrue (is_due who uuid (history ++ entry ∷ []))
      → (IsTrue (is_due who uuid history) × IsFalse (puts_record who uuid entry.act)) ⊎ IsTrue (finds_absent who (record_name uuid) entry.act)
  due_snoc [] entry due =
      elim (or_cases (claims who uuid entry.act && false) false due) [
        | inl here ↦ absurd (false≢true (and_parts (claims who uuid entry.act) false here).1)
        | inr nothing ↦ absurd (false≢true nothing)
      ]
  due_snoc (y ∷ ys) entry due =
      elim (or_cases _ (is_due who uuid (ys ++ entry ∷ [])) due) [
        | inl here ↦ (let parts = and_parts _ _ here in
            let since = and_parts (none_is (releases who uuid) (ys ++ entry ∷ [])) _ parts.1 in
            let none = all_append (λ (e : DoorEntry). not (releases who uuid e.act)) ys (entry ∷ []) since.0 in
            elim (followed_snoc (λ (e : DoorEntry). finds_absent who (record_name uuid) e.act) (λ (e : DoorEntry). puts_record who uuid e.act) ys entry since.1) [
              | inl still ↦ inl (or_left _ _ (and_from _ _ parts.0 (and_from _ _ none.0 still.0)), still.1)
              | inr finds ↦ inr finds
            ])
        | inr later ↦ elim (due_snoc ys entry later) [ inl still ↦ inl (or_right _ _ still.0, still.1) | inr finds ↦ inr finds ]
      ]

  module _ (history : List DoorEntry) (before : Turn history) where
    -- it comes up once: whoever claimed and is up after an act was up before it
    up_then : (act : DoorAct) → IsTrue (may_come history act) ⊎ IsTrue (may_read history act) → IsTrue (has_claimed history)
        → IsTrue (list_any (same_incarnation who) (up_after (ups history) act)) → IsTrue (is_up who history)
    up_then (Up node inc) (inr read) claimed up = absurd (false≢true read)
    up_then (Up node inc) (inl come) claimed up =
        elim (or_cases (same_incarnation who (record { node = node; inc = inc })) (is_up who history) up) [
          | inl it ↦ elim (before.known claimed) [ inl was ↦ was | inr gone ↦ absurd (again it gone) ]
          | inr was ↦ was
        ]
      where
        again : IsTrue (same_incarnation who (record { node = node; inc = inc })) → Fenced history → ⊥
        again it gone =
            let found = any_found (same_incarnation who) (fenced history) gone in
            let other : found.0 ≡ record { node = node; inc = inc } = sym (same_who who found.0 found.2) ∙ same_who who (record { node = node; inc = inc }) it in
            let newer = all_at (λ (i : Incarnation). not (eqb i.node node) || ltb i.inc inc) found.0 (fenced history) found.1
            (and_parts (list_all (λ (i : Incarnation). not (eqb i.node node)) (ups history)) (list_all (λ (i : Incarnation). not (eqb i.node node) || ltb i.inc inc) (fenced history)) come).1 in
            let here : IsTrue (not (eqb node node) || ltb inc inc) = subst (λ (i : Incarnation). IsTrue (not (eqb i.node node) || ltb i.inc inc)) other newer in
            elim (or_cases (not (eqb node node)) (ltb inc inc) here) [
              | inl differs ↦ true≢false (sym (eq-eqb node node refl) ∙ not-true (eqb node node) differs)
              | inr less ↦ true≢false (sym less ∙ le-ltb inc inc (omega arith))
            ]
    up_then (Fence node inc) rule claimed up = any_filter (same_incarnation who) _ (ups history) up
    up_then act rule claimed up = up

    known_after : (act : DoorAct) → IsTrue (may_come history act) ⊎ IsTrue (may_read history act) → IsTrue (is_up who history) ⊎ IsTrue (claims who uuid act)
        → IsTrue (list_any (same_incarnation who) (up_after (ups history) act)) ⊎ IsTrue (list_any (same_incarnation who) (fenced_in act))
    known_after (Up node inc) rule (inl was) = inl (or_right _ _ was)
    known_after (Fence node inc) rule (inl was) = cases (same_incarnation (record { node = node; inc = inc }) who) refl
      where
        cases : (t : Bool) → same_incarnation (record { node = node; inc = inc }) who ≡ t
            → IsTrue (list_any (same_incarnation who) (up_after (ups history) (Fence node inc))) ⊎ IsTrue (list_any (same_incarnation who) (fenced_in (Fence node inc)))
        cases true it = inr (or_left _ _ (subst (λ (i : Incarnation). IsTrue (same_incarnation who i)) (sym (same_who (record { node = node; inc = inc }) who it)) (same_itself who)))
        cases false other = inl (any_filtered (same_incarnation who) _ (ups history)
            (λ (i : Incarnation) same. subst (λ (j : Incarnation). IsTrue (not (same_incarnation (record { node = node; inc = inc }) j))) (same_who who i same) (ap not other)) was)
    known_after (Claim claimed node inc) (inr read) (inr it) = absurd (false≢true read)
    known_after (Claim claimed node inc) (inl come) (inr it) =
        let me : who ≡ record { node = node; inc = inc } = same_who who (record { node = node; inc = inc }) (and_parts _ (bytes_eq uuid claimed) it).0 in
        inl (subst (λ (i : Incarnation). IsTrue (is_up i history)) (sym me) (and_parts _ _ come).0)
    known_after act rule (inl was) = inl was
    known_after act rule (inr it) = absurd (false≢true it)

    -- nobody claims what an incarnation holds that is up
    unclaimed : (act : DoorAct) → IsTrue (may_come history act) ⊎ IsTrue (may_read history act)
        → IsTrue (is_held_by who (claimant uuid history)) → IsTrue (is_up who history) → IsFalse (claimed_in uuid act)
    unclaimed (Claim claimed node inc) (inr read) held up = absurd (false≢true read)
    unclaimed (Claim claimed node inc) (inl come) held up = false_from_ne_true (bytes_eq uuid claimed) (λ same.
        let free : is_some (holder claimed history) ≡ false = not-true _ (and_parts _ _ (and_parts _ _ come).1).0 in
        let mine : is_some (holder claimed history) ≡ true = subst (λ u. IsTrue (is_some (holder u history))) (same_bytes uuid claimed same) (up_held who history (claimant uuid history) held up) in
        true≢false (sym mine ∙ free))
    unclaimed act rule held up = refl

    held_after : (act : DoorAct) → IsFalse (claimed_in uuid act) → IsFalse (releases who uuid act)
        → IsTrue (is_held_by who (claimant uuid history)) → IsTrue (is_held_by who (claimant_after uuid (claimant uuid history) act))
    held_after (Claim claimed node inc) unclaimed unreleased held =
        subst (λ t. IsTrue (is_held_by who (if t then Some (record { node = node; inc = inc }) else claimant uuid history))) (sym unclaimed) held
    held_after (Release released node inc) unclaimed unreleased held = cases (bytes_eq uuid released && is_held_by (record { node = node; inc = inc }) (claimant uuid history)) refl
      where
        cases : (t : Bool) → (bytes_eq uuid released && is_held_by (record { node = node; inc = inc }) (claimant uuid history)) ≡ t
            → IsTrue (is_held_by who (if t then None else claimant uuid history))
        cases false other = held
        cases true it =
            let parts = and_parts (bytes_eq uuid released) _ it in
            let me : record { node = node; inc = inc } ≡ who = held_same (record { node = node; inc = inc }) who (claimant uuid history) parts.1 held in
            let released_by : IsTrue (releases who uuid (Release released node inc)) = and_from _ _ (subst (λ (i : Incarnation). IsTrue (same_incarnation who i)) (sym me) (same_itself who)) parts.0 in
            absurd (true≢false (sym released_by ∙ unreleased))
    held_after act unclaimed unreleased held = held

    claims_hold : (act : DoorAct) (h : Option Incarnation) → IsTrue (claims who uuid act) → IsTrue (is_held_by who (claimant_after uuid h act))
    claims_hold (Claim claimed node inc) h it =
        let parts = and_parts _ (bytes_eq uuid claimed) it in
        subst (λ t. IsTrue (is_held_by who (if t then Some (record { node = node; inc = inc }) else h))) (sym parts.1) parts.0
    claims_hold act h it = absurd (false≢true it)

    module _ (entry : DoorEntry) (rule : IsTrue (may_come history entry.act) ⊎ IsTrue (may_read history entry.act)) where
      was_up : IsTrue (has_claimed history) → IsTrue (is_up who (history ++ entry ∷ [])) → IsTrue (is_up who history)
      was_up claimed up = up_then entry.act rule claimed (subst (λ l. IsTrue (list_any (same_incarnation who) l)) (ups-snoc history entry) up)

      known_snoc : IsTrue (has_claimed (history ++ entry ∷ [])) → IsTrue (is_up who (history ++ entry ∷ [])) ⊎ Fenced (history ++ entry ∷ [])
      known_snoc claimed =
          elim (or_cases (has_claimed history) (claims who uuid entry.act || false) (subst IsTrue (list_any-append (λ (e : DoorEntry). claims who uuid e.act) history (entry ∷ [])) claimed)) [
            | inl old ↦ elim (before.known old) [
              | inl up ↦ after (known_after entry.act rule (inl up))
              | inr gone ↦ inr (given_grows (λ (e : DoorEntry). fenced_in e.act) (same_incarnation who) history (entry ∷ []) gone)
            ]
            | inr new ↦ elim (or_cases (claims who uuid entry.act) false new) [
              | inl it ↦ after (known_after entry.act rule (inr it))
              | inr nothing ↦ absurd (false≢true nothing)
            ]
          ]
        where
          after : IsTrue (list_any (same_incarnation who) (up_after (ups history) entry.act)) ⊎ IsTrue (list_any (same_incarnation who) (fenced_in entry.act))
              → IsTrue (is_up who (history ++ entry ∷ [])) ⊎ Fenced (history ++ entry ∷ [])
          after (inl up) = inl (subst (λ l. IsTrue (list_any (same_incarnation who) l)) (sym (ups-snoc history entry)) up)
          after (inr gone) =
              let both = flat_map-append (λ (e : DoorEntry). fenced_in e.act) history (entry ∷ []) in
              let found = any_found (same_incarnation who) (fenced_in entry.act) gone in
              inr (subst (λ l. IsTrue (list_any (same_incarnation who) l)) (sym both)
              (any_from (same_incarnation who) found.0 (fenced history ++ (fenced_in entry.act ++ [])) (in_back found.0 (fenced history) _ (in_front found.0 (fenced_in entry.act) [] found.1)) found.2))

      held_snoc : IsTrue (has_kept (history ++ entry ∷ [])) → IsTrue (is_up who (history ++ entry ∷ [])) → IsTrue (is_held_by who (claimant uuid (history ++ entry ∷ [])))
      held_snoc kept up =
          subst (λ h. IsTrue (is_held_by who h)) (sym (claimant-snoc uuid history entry))
          (elim (followed_snoc (λ (e : DoorEntry). claims who uuid e.act) (λ (e : DoorEntry). releases who uuid e.act) history entry kept) [
            | inl still ↦ (let was = was_up (followed_some _ _ history still.0) up in
                let held = before.held still.0 was in
                held_after entry.act (unclaimed entry.act rule held was) still.1 held)
            | inr it ↦ claims_hold entry.act (claimant uuid history) it
          ])

      clear_snoc : IsTrue (is_due who uuid (history ++ entry ∷ [])) → IsTrue (is_up who (history ++ entry ∷ [])) → IsTrue (is_clear uuid who (history ++ entry ∷ []))
      clear_snoc due up =
          elim (due_snoc history entry due) [
            | inl still ↦ (let kept = due_kept history still.0 in
                let was = was_up (followed_some _ _ history kept) up in
                let held = before.held kept was in
                let free = unclaimed entry.act rule held was in
                followed_more _ _ history entry (before.clear still.0 was) (ap not (or_from _ _ free still.1)))
            | inr finds ↦ followed_last _ _ history entry finds
          ]

      pub turn_after : Turn (history ++ entry ∷ [])
      turn_after = record { known = known_snoc; held = held_snoc; clear = clear_snoc }
