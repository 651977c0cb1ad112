-- The greatest of ids, and which ids are listed.
use Rattle.std.proofs.Common.{◌≡◌, ℕ, eqb, Bool, true, false, cond, ◌&&◌, ◌||◌, not, List, [], ◌∷◌, refl, sym, ap, subst, ◌∙◌, ◌⊎◌, inl, inr}
use Rattle.std.specs.Prelude.{IsTrue, IsFalse, Option, Some, None, filter, if◌then◌else◌}
use Rattle.std.specs.List.{AllByRecursion, fold, list_all, list_any}
use Rattle.std.specs.Ordering.{is_eq, is_lt}
use Rattle.std.specs.List.Sorted.{IsStrictlySortedBy}
use Rattle.std.specs.declared.cmp.Ordering.{Ordering}
use Rattle.std.specs.declared.cmp.Ordering.TheVariants.{Less, Equal, Greater}
use Rattle.std.proofs.lemmas.Bool.{and_parts, and_from, or_cases, or_left, or_right, true≢false, false≢true, false_from_ne_true, eqb-true}
use Rattle.std.proofs.lemmas.Cmp.{tied_itself}
use Rattle.std.specs.Cmp.Lexicographic.{same_text}
use Rattle.std.specs.Str.{bytes_eq}
use Rattle.aft_id.specs.TxnId.{id_cmp, id_lt, same_id}
use Rattle.aft_id.specs.declared.txn_id.TxnId.{TxnId}
use Rattle.aft_id.proofs.IdOrder.{id_cmp-total, tied_ids}
use Rattle.aft_records.specs.Commits.{greatest, is_ascending, is_listed, later}
use Rattle.aft_meta.specs.Index.{exceeds}
use Rattle.aft_records.proofs.CommitOrder.{same_id-refl, id_lt-irrefl, id_lt-trans, id_lt-or, id_lt-le}

-- ---- ids that are the same

-- ids that are the same are one
pub same_ids : (a b : TxnId) → IsTrue (same_id a b) → a ≡ b
same_ids a b same =
    let parts = and_parts (eqb a.time b.time) (bytes_eq a.uuid b.uuid) same in
    let id : ℕ → List ℕ → TxnId = λ t u. record { time = t; uuid = u } in
    ap (λ t. id t a.uuid) (eqb-true a.time b.time parts.0) ∙ ap (λ u. id b.time u) (same_text a.uuid b.uuid (sym parts.1))

-- ids are the same where their order says so
pub same_id-tied : (a b : TxnId) → is_eq (id_cmp a b) ≡ same_id a b
same_id-tied a b = cases (same_id a b) refl
  where
    tied : (o : Ordering) → id_cmp a b ≡ o → IsFalse (same_id a b) → is_eq o ≡ false
    tied Less is other = refl
    tied Equal is other = absurd (true≢false (sym (subst (λ (i : TxnId). IsTrue (same_id a i)) (tied_ids a b is) (same_id-refl a)) ∙ other))
    tied Greater is other = refl

    cases : (t : Bool) → same_id a b ≡ t → is_eq (id_cmp a b) ≡ t
    cases true same = subst (λ (i : TxnId). is_eq (id_cmp a i) ≡ true) (same_ids a b same) (ap is_eq (tied_itself id_cmp-total a))
    cases false other = tied (id_cmp a b) refl other

pub any_same : {A : Type 0} (f g : A → Bool) → ((x : A) → f x ≡ g x) → (xs : List A) → list_any f xs ≡ list_any g xs
any_same f g same [] = refl
any_same f g same (x ∷ xs) = ap (λ b. b || list_any f xs) (same x) ∙ ap (λ b. g x || b) (any_same f g same xs)

-- an id is listed where the order finds it
pub listed-found : (id : TxnId) (ids : List TxnId) → list_any (λ k. is_eq (id_cmp id k)) ids ≡ is_listed id ids
listed-found id ids = any_same (λ k. is_eq (id_cmp id k)) (same_id id) (same_id-tied id) ids

-- ---- the greatest

later_above : (id : TxnId) (o : Option TxnId) (x : TxnId) → exceeds id (later o x) ≡ exceeds id o || id_lt id x
later_above id None x = refl
later_above id (Some g) x = picked (id_lt g x) ∙ either (id_lt g x) (id_lt id g) (id_lt id x) (λ up low. id_lt-trans id g x low up) (λ down low. id_lt-le id x g low down)
  where
    picked : (s : Bool) → exceeds id (if s then Some x else Some g) ≡ (if s then id_lt id x else id_lt id g)
    picked true = refl
    picked false = refl

    either : (s t u : Bool) → (IsTrue s → IsTrue t → IsTrue u) → (IsFalse s → IsTrue u → IsTrue t) → (if s then u else t) ≡ t || u
    either true true true up down = refl
    either true true false up down = absurd (true≢false (sym (up refl refl)))
    either true false u up down = refl
    either false true u up down = refl
    either false false true up down = absurd (true≢false (sym (down refl refl)))
    either false false false up down = refl

or_assoc : (a b c : Bool) → (a || b) || c ≡ a || (b || c)
or_assoc true b c = refl
or_assoc false b c = refl

fold_above : (id : TxnId) (o : Option TxnId) (ids : List TxnId) → exceeds id o || list_any (id_lt id) ids ≡ exceeds id (fold later o ids)
fold_above id o [] = or_none (exceeds id o)
  where
    or_none : (b : Bool) → b || false ≡ b
    or_none true = refl
    or_none false = refl
fold_above id o (x ∷ ids) = sym (or_assoc (exceeds id o) (id_lt id x) (list_any (id_lt id) ids)) ∙ ap (λ b. b || list_any (id_lt id) ids) (sym (later_above id o x)) ∙ fold_above id (later o x) ids

-- an id of a list is above this one where the greatest is
pub above-greatest : (id : TxnId) (ids : List TxnId) → list_any (id_lt id) ids ≡ exceeds id (greatest ids)
above-greatest id ids = fold_above id None ids

later_some : (o : Option TxnId) (x : TxnId) → (g : TxnId) × (later o x ≡ Some g)
later_some None x = (x, refl)
later_some (Some h) x = cases (id_lt h x)
  where
    cases : (t : Bool) → (g : TxnId) × ((if t then Some x else Some h) ≡ Some g)
    cases true = (x, refl)
    cases false = (h, refl)

pub fold_some : (h : TxnId) (ids : List TxnId) → (g : TxnId) × (fold later (Some h) ids ≡ Some g)
fold_some h [] = (h, refl)
fold_some h (x ∷ ids) =
    let next = later_some (Some h) x in
    let rest = fold_some next.0 ids in
    (rest.0, ap (λ o. fold later o ids) next.1 ∙ rest.1)

fold_listed : (o : Option TxnId) (ids : List TxnId) (g : TxnId) → fold later o ids ≡ Some g → (o ≡ Some g) ⊎ IsTrue (is_listed g ids)
fold_listed o [] g is = inl is
fold_listed o (x ∷ ids) g is = elim (fold_listed (later o x) ids g is) [
  | inl sooner ↦ pick o sooner
  | inr after ↦ inr (or_right _ _ after)
]
  where
    here : x ≡ g → IsTrue (is_listed g (x ∷ ids))
    here same = or_left _ _ (subst (λ (i : TxnId). IsTrue (same_id g i)) (sym same) (same_id-refl g))

    pick : (o : Option TxnId) → later o x ≡ Some g → (o ≡ Some g) ⊎ IsTrue (is_listed g (x ∷ ids))
    pick None is = inr (here cc)
    pick (Some h) is = cases (id_lt h x) is
      where
        cases : (t : Bool) → (if t then Some x else Some h) ≡ Some g → (Some h ≡ Some g) ⊎ IsTrue (is_listed g (x ∷ ids))
        cases true is = inr (here cc)
        cases false is = inl is

-- the greatest is listed
pub greatest_listed : (ids : List TxnId) (g : TxnId) → greatest ids ≡ Some g → IsTrue (is_listed g ids)
greatest_listed ids g is = elim (fold_listed None ids g is) [ inl none ↦ absurd (nothing none) | inr there ↦ there ]
  where
    nothing : None ≡ Some g → ⊥
    nothing e = cc

-- what is listed isn't above the greatest
pub listed_within : (ids : List TxnId) (v g : TxnId) → IsTrue (is_listed v ids) → greatest ids ≡ Some g → IsFalse (id_lt g v)
listed_within ids v g among is = false_from_ne_true (id_lt g v) (λ above.
    true≢false (sym (found ids among above) ∙ above-greatest g ids ∙ ap (exceeds g) is ∙ id_lt-irrefl g))
  where
    found : (ids : List TxnId) → IsTrue (is_listed v ids) → IsTrue (id_lt g v) → IsTrue (list_any (id_lt g) ids)
    found [] among above = absurd (false≢true among)
    found (x ∷ ids) among above = elim (or_cases (same_id v x) (is_listed v ids) among) [
      | inl here ↦ or_left _ _ (subst (λ (i : TxnId). IsTrue (id_lt g i)) (same_ids v x here) above)
      | inr later ↦ or_right _ _ (found ids later above)
    ]

-- a listed id that none is above is the greatest
pub greatest_is : (ids : List TxnId) (g : TxnId) → IsTrue (is_listed g ids) → ((v : TxnId) → IsTrue (is_listed v ids) → IsFalse (id_lt g v)) → greatest ids ≡ Some g
greatest_is [] g among top = absurd (false≢true among)
greatest_is (x ∷ ids) g among top =
    let some = fold_some x ids in
    let is : greatest (x ∷ ids) ≡ Some some.0 = some.1 in
    elim (id_lt-or g some.0 (listed_within (x ∷ ids) g some.0 among is)) [
      | inl less ↦ absurd (true≢false (sym less ∙ top some.0 (greatest_listed (x ∷ ids) some.0 is)))
      | inr same ↦ is ∙ ap (λ (i : TxnId). Some i) (sym same)
    ]

pub none_listed : (ids : List TxnId) → ((v : TxnId) → IsFalse (is_listed v ids)) → greatest ids ≡ None
none_listed [] none = refl
none_listed (x ∷ ids) none = absurd (true≢false (sym (or_left _ _ (same_id-refl x)) ∙ none x))

-- lists of the same ids have the same greatest
pub greatest_same : (xs ys : List TxnId) → ((v : TxnId) → is_listed v xs ≡ is_listed v ys) → greatest xs ≡ greatest ys
greatest_same [] ys same = sym (none_listed ys (λ v. sym (same v)))
greatest_same (x ∷ xs) ys same =
    let some = fold_some x xs in
    let is : greatest (x ∷ xs) ≡ Some some.0 = some.1 in
    is ∙ sym (greatest_is ys some.0 (sym (same some.0) ∙ greatest_listed (x ∷ xs) some.0 is) (λ v among. listed_within (x ∷ xs) v some.0 (same v ∙ among) is))

-- ---- changes of a set of ids

pub same_id-sym : (a b : TxnId) → same_id a b ≡ same_id b a
same_id-sym a b = cases (same_id a b) (same_id b a) (λ e. subst (λ (i : TxnId). IsTrue (same_id i a)) (same_ids a b e) (same_id-refl a)) (λ e. subst (λ (i : TxnId). IsTrue (same_id i b)) (same_ids b a e) (same_id-refl b))
  where
    cases : (s t : Bool) → (IsTrue s → IsTrue t) → (IsTrue t → IsTrue s) → s ≡ t
    cases true true to from = refl
    cases true false to from = sym (to refl)
    cases false true to from = from refl
    cases false false to from = refl

pub added : (id v : TxnId) (ids after : List TxnId) → list_any (λ k. is_eq (id_cmp v k)) after ≡ cond (is_eq (id_cmp id v)) true (list_any (λ k. is_eq (id_cmp v k)) ids) → is_listed v after ≡ is_listed v ids || same_id v id
added id v ids after is =
    sym (listed-found v after) ∙ is ∙ ap (λ b. cond b true (list_any (λ k. is_eq (id_cmp v k)) ids)) (same_id-tied id v ∙ same_id-sym id v) ∙ ap (cond (same_id v id) true) (listed-found v ids) ∙ turned (same_id v id) (is_listed v ids)
  where
    turned : (a b : Bool) → cond a true b ≡ b || a
    turned true true = refl
    turned true false = refl
    turned false true = refl
    turned false false = refl

pub taken_away : (id v : TxnId) (ids after : List TxnId) → list_any (λ k. is_eq (id_cmp v k)) after ≡ cond (is_eq (id_cmp id v)) false (list_any (λ k. is_eq (id_cmp v k)) ids) → is_listed v after ≡ is_listed v ids && not (same_id v id)
taken_away id v ids after is =
    sym (listed-found v after) ∙ is ∙ ap (λ b. cond b false (list_any (λ k. is_eq (id_cmp v k)) ids)) (same_id-tied id v ∙ same_id-sym id v) ∙ ap (cond (same_id v id) false) (listed-found v ids) ∙ turned (same_id v id) (is_listed v ids)
  where
    turned : (a b : Bool) → cond a false b ≡ b && not a
    turned true true = refl
    turned true false = refl
    turned false true = refl
    turned false false = refl

-- what is listed of a filter
pub listed_filter : (test : TxnId → Bool) (v : TxnId) (ids : List TxnId) → is_listed v (filter test ids) ≡ is_listed v ids && test v
listed_filter test v [] = refl
listed_filter test v (x ∷ ids) = cases (test x) refl (same_id v x) refl (listed_filter test v ids)
  where
    here : same_id v x ≡ true → test v ≡ test x
    here e = ap test (same_ids v x e)

    absorbed : (b c : Bool) → (true || b) && c ≡ c
    absorbed b c = refl

    drops : (b : Bool) → b && false ≡ false
    drops true = refl
    drops false = refl

    cases : (s : Bool) → test x ≡ s → (t : Bool) → same_id v x ≡ t → is_listed v (filter test ids) ≡ is_listed v ids && test v
        → is_listed v (if s then x ∷ filter test ids else filter test ids) ≡ (t || is_listed v ids) && test v
    cases true passed true same rest = ap (λ b. b || is_listed v (filter test ids)) same ∙ sym (here same ∙ passed)
    cases true passed false other rest = ap (λ b. b || is_listed v (filter test ids)) other ∙ rest
    cases false failed true same rest = rest ∙ ap (λ b. is_listed v ids && b) (here same ∙ failed) ∙ drops (is_listed v ids) ∙ sym (here same ∙ failed)
    cases false failed false other rest = rest

below_is : (o : Ordering) → IsTrue (is_lt o) → o ≡ Less
below_is Less below = refl
below_is Equal below = absurd (false≢true below)
below_is Greater below = absurd (false≢true below)

-- the greatest of the ids below one
pub greatest_below : (ids : List TxnId) (id g : TxnId) → IsTrue (is_listed g ids) → IsTrue (id_lt g id) → ((v : TxnId) → id_cmp v id ≡ Less → IsTrue (is_listed v ids) → IsFalse (id_lt g v)) → greatest (filter (λ v. id_lt v id) ids) ≡ Some g
greatest_below ids id g among less top =
    greatest_is (filter (λ v. id_lt v id) ids) g (listed_filter (λ v. id_lt v id) g ids ∙ and_from _ _ among less)
    (λ v there. let parts = and_parts (is_listed v ids) (id_lt v id) (sym (listed_filter (λ v. id_lt v id) v ids) ∙ there) in top v (below_is (id_cmp v id) parts.1) parts.0)

pub none_below : (ids : List TxnId) (id : TxnId) → ((v : TxnId) → id_cmp v id ≡ Less → IsFalse (is_listed v ids)) → greatest (filter (λ v. id_lt v id) ids) ≡ None
none_below ids id none = none_listed (filter (λ v. id_lt v id) ids) (λ v. false_from_ne_true _ (λ there.
    let parts = and_parts (is_listed v ids) (id_lt v id) (sym (listed_filter (λ v. id_lt v id) v ids) ∙ there) in
    true≢false (sym parts.0 ∙ none v (below_is (id_cmp v id) parts.1))))

-- what stands in strict order ascends
pub ascending_sorted : (ids : List TxnId) → IsStrictlySortedBy id_cmp ids → IsTrue (is_ascending ids)
unfolding IsStrictlySortedBy
ascending_sorted [] sorted = refl
ascending_sorted (x ∷ ids) sorted = and_from _ _ (each ids sorted.0) (ascending_sorted ids sorted.1)
  where
    each : (ys : List TxnId) → AllByRecursion (λ y. id_cmp x y ≡ Less) ys → IsTrue (list_all (id_lt x) ys)
    each [] all = refl
    each (y ∷ ys) all = and_from _ _ (ap is_lt all.0) (each ys all.1)
