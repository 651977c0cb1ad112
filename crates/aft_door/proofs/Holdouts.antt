-- Who has not given an id up.
use Rattle.std.proofs.Common.{◌≡◌, ℕ, ◌<◌, ◌≤◌, Bool, true, false, not, ◌||◌, ◌&&◌, List, [], ◌∷◌, ◌++◌, refl, sym, ap, subst, ◌∙◌, ◌⊎◌, inl, inr, eqb, ltb, arith}
use Rattle.std.specs.Prelude.{IsFalse, IsTrue, None, Option, Some, ◌==◌, filter, fold, if◌then◌else◌}
use Rattle.std.specs.List.{list_all}
use Rattle.std.specs.Map.{lookup}
use Rattle.std.specs.Option.{option_map}
use Rattle.std.proofs.lemmas.Bool.{and_parts, cases_lt, eqb-true, lt-ltb, ltb-true, not-true, true≢false}
use Rattle.aft_id.specs.declared.txn_id.TxnId.{TxnId}
use Rattle.aft_model.specs.declared.door.DoorEntry.{DoorEntry}
use Rattle.aft_model.specs.Claims.{given_up, has_kept, holdout, lesser_node}
use Rattle.aft_model.specs.DoorRules.{all_gave_up}
use Rattle.aft_model.specs.Membership.{Incarnation, incarnation, same_incarnation, ups}
use Rattle.aft_model.proofs.Histories.{In, any_found, any_from, in_append}
use Rattle.aft_model.proofs.Lists.{filter_in, in_filter}
use Rattle.aft_model.proofs.OneCommit.{same_itself, same_who}
use Rattle.aft_door.specs.Entries.{numbers}
use Rattle.aft_door.specs.Index.{UpsAgree, up_in}
use Rattle.aft_door.specs.Ledger.{OneUp}
use Rattle.aft_door.specs.Least.{LeastKept, lesser_pair}
use Rattle.aft_door.proofs.Found.{first_in}

ge-of : (a b : ℕ) → ltb a b ≡ false → b ≤ a
ge-of a b above = elim (cases_lt a b) [ inl lt ↦ absurd (true≢false (sym (lt-ltb a b lt) ∙ above)) | inr le ↦ le ]

-- some least node stands, once one has been met
some_stays : (w : Incarnation) (xs : List Incarnation) → (v : Incarnation) × (fold lesser_node (Some w) xs ≡ Some v)
some_stays w [] = (w, refl)
some_stays w (x ∷ xs) = cases (ltb x.node w.node) (some_stays x xs) (some_stays w xs)
  where
    cases : (t : Bool) → (v : Incarnation) × (fold lesser_node (Some x) xs ≡ Some v) → (v : Incarnation) × (fold lesser_node (Some w) xs ≡ Some v)
        → (v : Incarnation) × (fold lesser_node (if t then Some x else Some w) xs ≡ Some v)
    cases true first other = first
    cases false first other = other

nobody : (xs : List Incarnation) → fold lesser_node None xs ≡ None → xs ≡ []
nobody [] none = refl
nobody (x ∷ xs) none = let found = some_stays x xs in let no_one : Some found.0 ≡ None = sym found.1 ∙ none in absurd (cc)

all_or : (id : TxnId) (history : List DoorEntry) (xs : List Incarnation) → filter (has_kept id history) xs ≡ [] → IsTrue (list_all (λ (who : Incarnation). who.node == 0 || given_up who id history) xs)
all_or id history [] none = refl
all_or id history (x ∷ xs) none = cases (x.node == 0) (given_up x id history) none (all_or id history xs)
  where
    cases : (t u : Bool) → (if not t && not u then x ∷ filter (has_kept id history) xs else filter (has_kept id history) xs) ≡ []
        → (filter (has_kept id history) xs ≡ [] → IsTrue (list_all (λ (who : Incarnation). who.node == 0 || given_up who id history) xs))
        → IsTrue ((t || u) && list_all (λ (who : Incarnation). who.node == 0 || given_up who id history) xs)
    cases true u none rest = rest none
    cases false true none rest = rest none
    cases false false none rest = absurd (cc)

-- where nobody holds out, all have given it up
pub none_holds_out : (id : TxnId) (history : List DoorEntry) → holdout id history ≡ None → IsTrue (all_gave_up history id)
none_holds_out id history none = all_or id history (ups history) (nobody (filter (has_kept id history) (ups history)) none)

-- ---- the least, by what is kept of who is up

-- the least node stands in the list, or was met before, and none is less
least_from : (v : Incarnation) (xs : List Incarnation) (w : Incarnation) → fold lesser_node (Some v) xs ≡ Some w → ((w ≡ v) ⊎ In w xs) × (w.node ≤ v.node) × ((x : Incarnation) → In x xs → w.node ≤ x.node)
least_from v [] w e = (inl (let is : v ≡ w = cc in sym is), (let is : v ≡ w = cc in subst (λ (u : Incarnation). u.node ≤ v.node) is (omega arith)), λ x among. absurd among)
least_from v (x ∷ xs) w e = cases (ltb x.node v.node) refl (least_from x xs w) (least_from v xs w) e
  where
    Least : Incarnation → Type 0
    Least u = ((w ≡ u) ⊎ In w xs) × (w.node ≤ u.node) × ((y : Incarnation) → In y xs → w.node ≤ y.node)

    All : Type 0
    All = ((w ≡ v) ⊎ In w (x ∷ xs)) × (w.node ≤ v.node) × ((y : Incarnation) → In y (x ∷ xs) → w.node ≤ y.node)

    cases : (t : Bool) → ltb x.node v.node ≡ t → (fold lesser_node (Some x) xs ≡ Some w → Least x) → (fold lesser_node (Some v) xs ≡ Some w → Least v)
        → fold lesser_node (if t then Some x else Some v) xs ≡ Some w → All
    cases true below first other e =
        let found = first e in
        let lt : x.node < v.node = ltb-true x.node v.node below in
        let low : w.node ≤ x.node = found.1 in (
          inr (elim found.0 [ inl is ↦ inl is | inr later ↦ inr later ]),
          omega arith,
          λ y among. elim among [ inl is ↦ subst (λ (u : Incarnation). w.node ≤ u.node) (sym is) low | inr later ↦ found.2 y later ],
        )
    cases false above first other e =
        let found = other e in
        let low : w.node ≤ v.node = found.1 in
        let le : v.node ≤ x.node = ge-of x.node v.node above in (
          elim found.0 [ inl is ↦ inl is | inr later ↦ inr (inr later) ],
          low,
          λ y among. elim among [ inl is ↦ subst (λ (u : Incarnation). w.node ≤ u.node) (sym is) (omega arith) | inr later ↦ found.2 y later ],
        )

least_in : (xs : List Incarnation) (w : Incarnation) → fold lesser_node None xs ≡ Some w → In w xs × ((x : Incarnation) → In x xs → w.node ≤ x.node)
least_in [] w e = absurd (cc)
least_in (x ∷ xs) w e =
    let found = least_from x xs w e in
    (elim found.0 [ inl is ↦ inl is | inr later ↦ inr later ], λ y among. elim among [ inl is ↦ subst (λ (u : Incarnation). w.node ≤ u.node) (sym is) found.1 | inr later ↦ found.2 y later ])

-- one more entry of the map
pub least_step : (kept : Incarnation → Bool) (entries done : List (ℕ × ℕ)) (least : Option (ℕ × ℕ)) (e : ℕ × ℕ) → lookup (λ key. e.0 == key) entries ≡ Some e.1 → LeastKept kept entries done least
    → LeastKept kept entries (done ++ e ∷ []) (if kept (incarnation e.0 e.1) then lesser_pair least e else least)
least_step kept entries done least e at so_far = cases (kept (incarnation e.0 e.1)) refl least so_far
  where
    split : (x : ℕ × ℕ) → In x (done ++ e ∷ []) → In x done ⊎ (x ≡ e)
    split x among = elim (in_append x done (e ∷ []) among) [ inl before ↦ inl before | inr last ↦ elim last [ inl is ↦ inr is | inr nowhere ↦ absurd nowhere ] ]

    cases : (t : Bool) → kept (incarnation e.0 e.1) ≡ t → (o : Option (ℕ × ℕ)) → LeastKept kept entries done o → LeastKept kept entries (done ++ e ∷ []) (if t then lesser_pair o e else o)
    cases false other None so_far = λ x among. elim (split x among) [
      | inl before ↦ so_far x before
      | inr is ↦ subst (λ (y : ℕ × ℕ). IsFalse (kept (incarnation y.0 y.1))) (sym is) other
    ]
    cases false other (Some l) so_far = (
      so_far.0,
      so_far.1,
      λ x among stays. elim (split x among) [
        | inl before ↦ so_far.2 x before stays
        | inr is ↦ absurd (true≢false (sym stays ∙ ap (λ (y : ℕ × ℕ). kept (incarnation y.0 y.1)) is ∙ other))
      ],
    )
    cases true it None so_far = (
      at,
      it,
      λ x among stays. elim (split x among) [
        | inl before ↦ absurd (true≢false (sym stays ∙ so_far x before))
        | inr is ↦ subst (λ (y : ℕ × ℕ). e.0 ≤ y.0) (sym is) (omega arith)
      ],
    )
    cases true it (Some l) so_far = lesser (ltb e.0 l.0) refl
      where
        lesser : (u : Bool) → ltb e.0 l.0 ≡ u → LeastKept kept entries (done ++ e ∷ []) (if u then Some e else Some l)
        lesser true below = let lt : e.0 < l.0 = ltb-true e.0 l.0 below in (
          at,
          it,
          λ x among stays. elim (split x among) [
            | inl before ↦ (let le : l.0 ≤ x.0 = so_far.2 x before stays in omega arith)
            | inr is ↦ subst (λ (y : ℕ × ℕ). e.0 ≤ y.0) (sym is) (omega arith)
          ],
        )
        lesser false above = let le : l.0 ≤ e.0 = ge-of e.0 l.0 above in (
          so_far.0,
          so_far.1,
          λ x among stays. elim (split x among) [
            | inl before ↦ so_far.2 x before stays
            | inr is ↦ subst (λ (y : ℕ × ℕ). l.0 ≤ y.0) (sym is) le
          ],
        )

lookup_in : (n a : ℕ) (es : List (ℕ × ℕ)) → lookup (λ key. n == key) es ≡ Some a → In (n, a) es
lookup_in n a [] e = absurd (cc)
lookup_in n a (x ∷ es) e = cases (eqb n x.0) refl e (lookup_in n a es)
  where
    cases : (t : Bool) → eqb n x.0 ≡ t → (if t then Some x.1 else lookup (λ key. n == key) es) ≡ Some a → (lookup (λ key. n == key) es ≡ Some a → In (n, a) es) → In (n, a) (x ∷ es)
    cases true same e rest = inl (let inc : x.1 ≡ a = cc in ap (λ m. (m, a)) (eqb-true n x.0 same) ∙ ap (λ b. (x.0, b)) (sym inc))
    cases false other e rest = inr (rest e)

module _ (id : TxnId) (history : List DoorEntry) (entries : List (ℕ × ℕ)) (agree : UpsAgree history entries) (one : OneUp history) where
  -- who is up and kept the id is in the map
  in_map : (w : Incarnation) → In w (filter (has_kept id history) (ups history)) → (lookup (λ key. w.node == key) entries ≡ Some w.inc) × IsTrue (has_kept id history w)
  in_map w among =
      let both = in_filter (has_kept id history) w (ups history) among in
      let real = not-true (w.node == 0) (and_parts (not (w.node == 0)) _ both.1).0 in
      (by (lookup (λ key. w.node == key) entries) (agree w.node ∙ one w (any_from (same_incarnation w) w (ups history) both.0 (same_itself w))) real, both.1)
    where
      by : (o : Option ℕ) → up_in w.node o ≡ Some w.inc → IsFalse (w.node == 0) → o ≡ Some w.inc
      by None e real = let no_inc : None ≡ Some w.inc = sym (ap (λ t. if t then Some 1 else None) real) ∙ e in absurd (cc)
      by (Some a) e real = e

  -- who is in the map and kept the id is up
  in_ups : (l : ℕ × ℕ) → lookup (λ key. l.0 == key) entries ≡ Some l.1 → IsTrue (has_kept id history (incarnation l.0 l.1)) → In (incarnation l.0 l.1) (filter (has_kept id history) (ups history))
  in_ups l at stays =
      let up = first_in l.0 l.1 (ups history) (sym (agree l.0) ∙ ap (up_in l.0) at) in
      let found = any_found (same_incarnation (incarnation l.0 l.1)) (ups history) up in
      filter_in (has_kept id history) (incarnation l.0 l.1) (ups history) (subst (λ (w : Incarnation). In w (ups history)) (sym (same_who (incarnation l.0 l.1) found.0 found.2)) found.1) stays

  pub least_is : (least : Option (ℕ × ℕ)) → LeastKept (has_kept id history) entries entries least → least ≡ option_map numbers (holdout id history)
  least_is least is = cases least is (holdout id history) refl
    where
      cases : (o : Option (ℕ × ℕ)) → LeastKept (has_kept id history) entries entries o → (h : Option Incarnation) → holdout id history ≡ h → o ≡ option_map numbers h
      cases None is None e = refl
      cases None is (Some w) e =
          let at = in_map w (least_in (filter (has_kept id history) (ups history)) w e).0 in
          absurd (true≢false (sym at.1 ∙ is (w.node, w.inc) (lookup_in w.node w.inc entries at.0)))
      cases (Some l) is None e =
          absurd (subst (λ xs. In (incarnation l.0 l.1) xs) (nobody (filter (has_kept id history) (ups history)) e) (in_ups l is.0 is.1))
      cases (Some l) is (Some w) e =
          let found = least_in (filter (has_kept id history) (ups history)) w e in
          let at = in_map w found.0 in
          let low : w.node ≤ l.0 = found.1 (incarnation l.0 l.1) (in_ups l is.0 is.1) in
          let high : l.0 ≤ w.node = is.2 (w.node, w.inc) (lookup_in w.node w.inc entries at.0) at.1 in
          let node : l.0 ≡ w.node = omega arith in
          let inc : Some l.1 ≡ Some w.inc = sym is.0 ∙ ap (λ n. lookup (λ key. n == key) entries) node ∙ at.0 in
          let same : l.1 ≡ w.inc = cc in
          ap (λ n. Some (n, l.1)) node ∙ ap (λ a. Some (w.node, a)) same

-- the same, where another test passes the same
pub least_as : (p q : Incarnation → Bool) → ((w : Incarnation) → p w ≡ q w) → (entries done : List (ℕ × ℕ)) (least : Option (ℕ × ℕ)) → LeastKept p entries done least → LeastKept q entries done least
least_as p q same entries done None is = λ e among. sym (same (incarnation e.0 e.1)) ∙ is e among
least_as p q same entries done (Some l) is = (is.0, sym (same (incarnation l.0 l.1)) ∙ is.1, λ e among stays. is.2 e among (same (incarnation e.0 e.1) ∙ stays))
