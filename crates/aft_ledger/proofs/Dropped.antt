-- What is dropped, one id after the other.
use Rattle.std.proofs.Common.{◌≡◌, ℕ, ◌+◌, ◌<◌, Bool, true, false, ◌&&◌, ◌||◌, not, List, [], ◌∷◌, ◌++◌, refl, sym, ap, subst, ◌∙◌, inl, inr, length, get_or, take}
use Rattle.std.specs.Prelude.{IsTrue, IsFalse, filter, if◌then◌else◌}
use Rattle.std.specs.List.{list_all}
use Rattle.std.proofs.lemmas.Bool.{and_parts, and_from, cases_Bool, false_from_ne_true, true≢false}
use Rattle.std.proofs.lemmas.List.{take_more}
use Rattle.aft_id.specs.TxnId.{id_lt, same_id}
use Rattle.aft_id.specs.declared.txn_id.TxnId.{TxnId}
use Rattle.aft_records.specs.declared.stored.Commit.{Commit}
use Rattle.aft_records.specs.Commits.{ids_ascend, ids_of, is_listed, without_ids}
use Rattle.aft_records.specs.Superseded.{is_superseded}
use Rattle.aft_meta.specs.KnownCommits.{supersedes_id}
use Rattle.aft_meta.proofs.Under.{any_front}
use Rattle.aft_model.proofs.Histories.{In, all_at, any_found, any_from}
use Rattle.aft_model.proofs.Ids.{id_lt-irrefl, same_id-refl, same_ids}
use Rattle.aft_model.proofs.Knowledge.{OneEach, Risen, greatest_one, superseded_risen}
use Rattle.aft_model.proofs.Lists.{filter_in, map_in}

-- ---- commits in id order

apart_above : (x : Commit) (xs : List Commit) → IsTrue (ids_ascend (x ∷ xs)) → (d : Commit) → In d xs → x.id ≡ d.id → ⊥
apart_above x xs up d later same =
    let parts = and_parts (list_all (id_lt x.id) (ids_of xs)) (ids_ascend xs) up in
    let above = all_at (id_lt x.id) d.id (ids_of xs) (map_in (λ (e : Commit). e.id) d xs later) parts.0 in
    true≢false (sym (subst (λ (i : TxnId). IsTrue (id_lt x.id i)) (sym same) above) ∙ id_lt-irrefl x.id)

pub one_each : (commits : List Commit) → IsTrue (ids_ascend commits) → OneEach commits
one_each [] up c d of_c of_d same = absurd of_c
one_each (x ∷ xs) up c d (inl c_is) (inl d_is) same = c_is ∙ sym d_is
one_each (x ∷ xs) up c d (inl c_is) (inr d_later) same = absurd (apart_above x xs up d d_later (ap (λ (e : Commit). e.id) (sym c_is) ∙ same))
one_each (x ∷ xs) up c d (inr c_later) (inl d_is) same = absurd (apart_above x xs up c c_later (ap (λ (e : Commit). e.id) (sym d_is) ∙ sym same))
one_each (x ∷ xs) up c d (inr c_later) (inr d_later) same = one_each xs (and_parts (list_all (id_lt x.id) (ids_of xs)) (ids_ascend xs) up).1 c d c_later d_later same

filter-same : (f g : Commit → Bool) (xs : List Commit) → ((x : Commit) → f x ≡ g x) → filter f xs ≡ filter g xs
filter-same f g [] same = refl
filter-same f g (x ∷ xs) same = ap (λ t. if t then x ∷ filter f xs else filter f xs) (same x) ∙ ap (λ (rest : List Commit). if g x then x ∷ rest else rest) (filter-same f g xs same)

pub filter-twice : {A : Type 0} (f g : A → Bool) (xs : List A) → filter g (filter f xs) ≡ filter (λ x. f x && g x) xs
filter-twice f g [] = refl
filter-twice {A} f g (x ∷ xs) = cases (f x) (filter-twice f g xs)
  where
    cases : (t : Bool) → filter g (filter f xs) ≡ filter (λ y. f y && g y) xs → filter g (if t then x ∷ filter f xs else filter f xs) ≡ (if t && g x then x ∷ filter (λ y. f y && g y) xs else filter (λ y. f y && g y) xs)
    cases true rest = ap (λ (l : List A). if g x then x ∷ l else l) rest
    cases false rest = rest

listed-more : (id : TxnId) (ids : List TxnId) (last : TxnId) → is_listed id (ids ++ last ∷ []) ≡ (is_listed id ids || same_id id last)
listed-more id [] last = right (same_id id last)
  where
    right : (t : Bool) → (t || false) ≡ t
    right true = refl
    right false = refl
listed-more id (i ∷ ids) last = ap (λ t. same_id id i || t) (listed-more id ids last) ∙ either (same_id id i) (is_listed id ids) (same_id id last)
  where
    either : (a b c : Bool) → (a || (b || c)) ≡ (a || b || c)
    either true b c = refl
    either false b c = refl

-- one id more
without-more : (ids : List TxnId) (id : TxnId) (known : List Commit) → without_ids (id ∷ []) (without_ids ids known) ≡ without_ids (ids ++ id ∷ []) known
without-more ids id known =
    filter-twice (λ c. not (is_listed c.id ids)) (λ c. not (is_listed c.id (id ∷ []))) known
    ∙ filter-same (λ c. not (is_listed c.id ids) && not (is_listed c.id (id ∷ []))) (λ c. not (is_listed c.id (ids ++ id ∷ []))) known (λ c. neither (is_listed c.id ids) (same_id c.id id) ∙ sym (ap not (listed-more c.id ids id)))
  where
    neither : (a b : Bool) → (not a && not (b || false)) ≡ not (a || b)
    neither true b = refl
    neither false true = refl
    neither false false = refl

-- ---- superseded commits

-- a superseded id is that of a known commit that is superseded
pub superseded_one : (id : TxnId) (known : List Commit) → IsTrue (supersedes_id id known) → (d : Commit) × In d known × (id ≡ d.id) × IsTrue (is_superseded d known)
superseded_one id known sup =
    let found = any_found (λ (c : Commit). same_id id c.id && is_superseded c known) known sup in
    let parts = and_parts (same_id id found.0.id) (is_superseded found.0 known) found.2 in
    (found.0, found.1, same_ids id found.0.id parts.0, parts.1)

module _ (old : List Commit) (up : IsTrue (ids_ascend old)) (ids : List TxnId) (all : (i : TxnId) → IsTrue (is_listed i ids) → IsTrue (supersedes_id i old)) where
  -- what is left has reached what all had
  left_risen : Risen old (without_ids ids old)
  left_risen key id reached =
      let top = greatest_one key id old reached in (
        top.0,
        filter_in (λ (d : Commit). not (is_listed d.id ids)) top.0 old top.1 (ap not (false_from_ne_true (is_listed top.0.id ids) (λ listed.
            let d = superseded_one top.0.id old (all top.0.id listed) in
            true≢false (sym (subst (λ (e : Commit). IsTrue (is_superseded e old)) (sym (one_each old up top.0 d.0 top.1 d.1 d.2)) d.3) ∙ top.4)))),
        top.2,
        top.3,
      )

  -- another that is superseded still is, unless it is gone
  still : (id : TxnId) → IsTrue (supersedes_id id old) → IsFalse (is_listed id ids) → IsTrue (supersedes_id id (without_ids ids old))
  still id sup other =
      let d = superseded_one id old sup in
      any_from (λ (c : Commit). same_id id c.id && is_superseded c (without_ids ids old)) d.0 (without_ids ids old)
      (filter_in (λ (c : Commit). not (is_listed c.id ids)) d.0 old d.1 (ap not (subst (λ (i : TxnId). IsFalse (is_listed i ids)) d.2 other)))
      (and_from _ _ (subst (λ (i : TxnId). IsTrue (same_id id i)) d.2 (same_id-refl id)) (superseded_risen d.0 old (without_ids ids old) left_risen d.3))

  -- where it is superseded no more, it is gone
  gone : (id : TxnId) → IsTrue (supersedes_id id old) → IsFalse (supersedes_id id (without_ids ids old)) → without_ids (ids ++ id ∷ []) old ≡ without_ids ids old
  gone id sup not_now =
      let listed : IsTrue (is_listed id ids) = elim (cases_Bool (is_listed id ids)) [ inl is ↦ is | inr other ↦ absurd (true≢false (sym (still id sup other) ∙ not_now)) ] in
      filter-same (λ c. not (is_listed c.id (ids ++ id ∷ []))) (λ c. not (is_listed c.id ids)) old (λ c. ap not (listed-more c.id ids id ∙ absorbed c listed (same_id c.id id) refl))
    where
      absorbed : (c : Commit) → IsTrue (is_listed id ids) → (t : Bool) → same_id c.id id ≡ t → (is_listed c.id ids || t) ≡ is_listed c.id ids
      absorbed c listed true same = ap (λ t. t || true) now ∙ sym now
        where
          now : IsTrue (is_listed c.id ids)
          now = subst (λ (i : TxnId). IsTrue (is_listed i ids)) (sym (same_ids c.id id same)) listed
      absorbed c listed false same = right (is_listed c.id ids)
        where
          right : (t : Bool) → (t || false) ≡ t
          right true = refl
          right false = refl

-- ---- a loop's step

listed_front : (ids : List TxnId) (n : ℕ) (i : TxnId) → IsTrue (is_listed i (take n ids)) → IsTrue (is_listed i ids)
listed_front ids n i listed = any_front (same_id i) ids n listed

abbrev pub AllIn : List TxnId → List Commit → Type 0
AllIn ids old = (i : TxnId) → IsTrue (is_listed i ids) → IsTrue (supersedes_id i old)

listed_at : (ids : List TxnId) (n : ℕ) (id : TxnId) → n < length ids → id ≡ get_or ids n id → IsTrue (is_listed id ids)
listed_at ids n id within at = listed_front ids (n + 1) id (subst (λ (front : List TxnId). IsTrue (is_listed id front)) (sym (take_more ids n id within ∙ ap (λ i. take n ids ++ i ∷ []) (sym at)))
    (listed-more id (take n ids) id ∙ last (is_listed id (take n ids)) (same_id-refl id)))
  where
    last : (t : Bool) → IsTrue (same_id id id) → (t || same_id id id) ≡ true
    last true is = refl
    last false is = is

pub dropped_more : (old : List Commit) (ids : List TxnId) (n : ℕ) (id : TxnId) → n < length ids → id ≡ get_or ids n id → without_ids (id ∷ []) (without_ids (take n ids) old) ≡ without_ids (take (n + 1) ids) old
dropped_more old ids n id within at = without-more (take n ids) id old ∙ ap (λ front. without_ids front old) (sym (take_more ids n id within ∙ ap (λ i. take n ids ++ i ∷ []) (sym at)))

pub dropped_same : (old : List Commit) (ids : List TxnId) (n : ℕ) (id : TxnId) → IsTrue (ids_ascend old) → AllIn ids old → n < length ids → id ≡ get_or ids n id → IsFalse (supersedes_id id (without_ids (take n ids) old))
    → without_ids (take n ids) old ≡ without_ids (take (n + 1) ids) old
dropped_same old ids n id up all within at not_now =
    sym (ap (λ front. without_ids front old) (take_more ids n id within ∙ ap (λ i. take n ids ++ i ∷ []) (sym at))
    ∙ gone old up (take n ids) (λ i listed. all i (listed_front ids n i listed)) id (all id (listed_at ids n id within at)) not_now)

pub dropped_none : (known : List Commit) → known ≡ without_ids [] known
dropped_none [] = refl
dropped_none (c ∷ known) = ap (λ (rest : List Commit). c ∷ rest) (dropped_none known)
