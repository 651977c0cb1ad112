-- What is learned, one commit after the other.
use Rattle.std.proofs.Common.{◌≡◌, ℕ, ◌+◌, Bool, true, false, ◌&&◌, ◌||◌, not, List, [], ◌∷◌, ◌++◌, refl, sym, ap, subst, ◌∙◌, ◌⊎◌, inl, inr, suc, arith}
use Rattle.std.specs.Prelude.{IsTrue, IsFalse, filter, if◌then◌else◌}
use Rattle.std.specs.List.{fold, list_any}
use Rattle.std.proofs.lemmas.Bool.{and_parts, false_from_ne_true, not-true, true≢false}
use Rattle.std.proofs.lemmas.List.Sums.{fold-append}
use Rattle.aft_id.specs.TxnId.{id_lt, same_id}
use Rattle.aft_id.specs.declared.txn_id.TxnId.{TxnId}
use Rattle.aft_records.specs.declared.stored.Commit.{Commit}
use Rattle.aft_records.specs.Commits.{first_known, has_id, with_commit, with_id_order}
use Rattle.aft_records.specs.Superseded.{is_superseded, wrote}
use Rattle.aft_meta.specs.KnownCommits.{learnt}
use Rattle.aft_meta.specs.declared.commit_set.Learnt.{Learnt}
use Rattle.aft_meta.specs.declared.commit_set.Learnt.TheVariants.{Known, Superseded, Taken}
use Rattle.aft_model.specs.NodeRules.{Counts, counted}
use Rattle.aft_model.proofs.Histories.{In, all_at, any_found}
use Rattle.aft_model.proofs.Ids.{id_le-trans, id_lt-irrefl, id_lt-trans, same_ids}
use Rattle.aft_model.proofs.Knowledge.{Reached, Risen, has_there, placed_new, risen_more, stays_with, superseded_risen, with_cases}
use Rattle.aft_model.proofs.Lists.{fold_kept}
use Rattle.aft_model.proofs.Sights.{same_bytes}
use Rattle.std.specs.Str.{bytes_eq}
use Rattle.aft_ledger.specs.Knowing.{Tallied, tally, told_more}
use Rattle.aft_ledger.specs.Turns.{ids_differ}
use Rattle.aft_ledger.specs.declared.ledger.known.Told.{Told}

-- ---- commits of different ids

-- what is known after commits were learned was known, or is one of them
learned_from : (known commits : List Commit) (c : Commit) → In c (fold with_commit known commits) → In c known ⊎ In c commits
learned_from known [] c among = inl among
learned_from known (d ∷ commits) c among =
    elim (learned_from (with_commit known d) commits c among) [
      | inl before ↦ elim (joined c known d before) [ inl was ↦ inl was | inr is ↦ inr (inl is) ]
      | inr later ↦ inr (inr later)
    ]
  where
    joined : (e : Commit) (before : List Commit) (new : Commit) → In e (with_commit before new) → In e before ⊎ (e ≡ new)
    joined e before new = with_cases (λ (l : List Commit). In e l → In e before ⊎ (e ≡ new)) before new inl (λ fresh kept. placed_new e before new)

pub placed_itself : (known : List Commit) (c : Commit) → In c (with_id_order known c)
placed_itself [] c = inl refl
placed_itself (d ∷ known) c = cases (id_lt c.id d.id) (placed_itself known c)
  where
    cases : (t : Bool) → In c (with_id_order known c) → In c (if t then c ∷ d ∷ known else d ∷ with_id_order known c)
    cases true rest = inl refl
    cases false rest = inr rest

below : (a b : TxnId) → IsTrue (id_lt a b) → IsFalse (id_lt b a)
below a b less = false_from_ne_true (id_lt b a) (λ back. true≢false (sym (id_lt-trans a b a less back) ∙ id_lt-irrefl a))

-- where a commit was learned, its keys have reached its id
reached_self : (known : List Commit) (c : Commit) (key : List ℕ) → IsFalse (has_id c.id known) → IsTrue (wrote key c) → Reached key c.id (with_commit known c)
reached_self known c key new wrote_it = cases (has_id c.id known) refl (is_superseded c known) refl
  where
    cases : (h : Bool) → has_id c.id known ≡ h → (t : Bool) → is_superseded c known ≡ t → Reached key c.id (if h || t then known else with_id_order known c)
    cases true has t sup = absurd (true≢false (sym has ∙ new))
    cases false none true sup =
        let at_key = any_found (bytes_eq key) c.keys wrote_it in
        let above = any_found (λ (d : Commit). wrote at_key.0 d && id_lt c.id d.id) known (all_at (λ k. list_any (λ (d : Commit). wrote k d && id_lt c.id d.id) known) at_key.0 c.keys at_key.1 sup) in
        let parts = and_parts (wrote at_key.0 above.0) (id_lt c.id above.0.id) above.2 in
        (above.0, above.1, subst (λ k. IsTrue (wrote k above.0)) (sym (same_bytes key at_key.0 at_key.2)) parts.0, below c.id above.0.id parts.1)
    cases false none false sup = (c, placed_itself known c, wrote_it, id_lt-irrefl c.id)

-- what commits of different ids reach is reached where they were learned
learned_risen : (known commits : List Commit) → IsTrue (ids_differ commits) → ((c : Commit) → In c commits → IsFalse (has_id c.id known)) → Risen commits (fold with_commit known commits)
learned_risen known [] differ new key id (d, nowhere, wrote_it, least) = absurd nowhere
learned_risen known (c ∷ commits) differ new key id (d, inl is, wrote_it, least) =
    let r = reached_self known c key (new c (inl refl)) (subst (λ (e : Commit). IsTrue (wrote key e)) is wrote_it) in
    (r.0, fold_kept with_commit (In r.0) (stays_with r.0) (with_commit known c) commits r.1, r.2, id_le-trans id c.id r.0.id (subst (λ (e : Commit). IsFalse (id_lt e.id id)) is least) r.3)
learned_risen known (c ∷ commits) differ new key id (d, inr later, wrote_it, least) =
    learned_risen (with_commit known c) commits parts.1 fresh key id (d, later, wrote_it, least)
  where
    parts : IsTrue (not (has_id c.id commits)) × IsTrue (ids_differ commits)
    parts = and_parts (not (has_id c.id commits)) (ids_differ commits) differ

    joined : (e : Commit) → In e (with_commit known c) → In e known ⊎ (e ≡ c)
    joined e = with_cases (λ (l : List Commit). In e l → In e known ⊎ (e ≡ c)) known c inl (λ none kept. placed_new e known c)

    fresh : (e : Commit) → In e commits → IsFalse (has_id e.id (with_commit known c))
    fresh e among = false_from_ne_true (has_id e.id (with_commit known c)) (λ has.
        let found = any_found (λ (f : Commit). same_id e.id f.id) (with_commit known c) has in
        let same = same_ids e.id found.0.id found.2 in
        elim (joined found.0 found.1) [
          | inl was ↦ true≢false (sym (has_there e.id found.0 known was same) ∙ new e (inr among))
          | inr is ↦ true≢false (sym (has_there c.id e commits among (sym (same ∙ ap (λ (f : Commit). f.id) is))) ∙ not-true (has_id c.id commits) parts.0)
        ])

-- they supersede the same where they were learned
pub superseded-learned : (commits : List Commit) → IsTrue (ids_differ commits) → (c : Commit) → is_superseded c (fold with_commit [] commits) ≡ is_superseded c commits
superseded-learned commits differ c = both (is_superseded c (fold with_commit [] commits)) (is_superseded c commits)
    (superseded_risen c (fold with_commit [] commits) commits (risen_more (fold with_commit [] commits) commits (λ d among. elim (learned_from [] commits d among) [ inl nowhere ↦ absurd nowhere | inr there ↦ there ])))
    (superseded_risen c commits (fold with_commit [] commits) (learned_risen [] commits differ (λ d among. refl)))
  where
    both : (a b : Bool) → (IsTrue a → IsTrue b) → (IsTrue b → IsTrue a) → a ≡ b
    both true b there back = sym (there refl)
    both false true there back = back refl
    both false false there back = refl

filter-same : {A : Type 0} (f g : A → Bool) (xs : List A) → ((x : A) → f x ≡ g x) → filter f xs ≡ filter g xs
filter-same f g [] same = refl
filter-same f g (x ∷ xs) same = ap (λ t. if t then x ∷ filter f xs else filter f xs) (same x) ∙ ap (λ rest. if g x then x ∷ rest else rest) (filter-same f g xs same)

-- so what is known at first is what they leave of themselves
pub first-learned : (commits : List Commit) → IsTrue (ids_differ commits) → fold with_commit [] (filter (λ c. not (is_superseded c (fold with_commit [] commits))) commits) ≡ first_known commits
first-learned commits differ = ap (fold with_commit []) (filter-same (λ c. not (is_superseded c (fold with_commit [] commits))) (λ c. not (is_superseded c commits)) commits (λ c. ap not (superseded-learned commits differ c)))

-- ---- counts

abbrev pick : Counts → Commit → Bool → Bool → Counts
pick counts c h t =
    if h then record { known = counts.known; taken = counts.taken; superseded = counts.superseded; already = suc counts.already }
    else if t then record { known = counts.known; taken = counts.taken; superseded = suc counts.superseded; already = counts.already }
    else record { known = with_commit counts.known c; taken = suc counts.taken; superseded = counts.superseded; already = counts.already }

known-counted : (counts : Counts) (c : Commit) → (counted counts c).known ≡ with_commit counts.known c
known-counted counts c = cases (has_id c.id counts.known) refl (is_superseded c counts.known) refl
  where
    cases : (h : Bool) → has_id c.id counts.known ≡ h → (t : Bool) → is_superseded c counts.known ≡ t → (pick counts c h t).known ≡ with_commit counts.known c
    cases true has t sup = sym (ap (λ u. if u || is_superseded c counts.known then counts.known else with_id_order counts.known c) has)
    cases false none true sup =
        sym (ap (λ u. if u || is_superseded c counts.known then counts.known else with_id_order counts.known c) none ∙ ap (λ u. if u then counts.known else with_id_order counts.known c) sup)
    cases false none false sup = refl

known-counts : (counts : Counts) (commits : List Commit) → (fold counted counts commits).known ≡ fold with_commit counts.known commits
known-counts counts [] = refl
known-counts counts (c ∷ commits) = known-counts (counted counts c) commits ∙ ap (λ (k : List Commit). fold with_commit k commits) (known-counted counts c)

-- the counts with one commit more are what is told with it
pub told_step : (known commits : List Commit) (c : Commit) (told : Told) → Tallied known commits told → Tallied known (commits ++ c ∷ []) (told_more told (learnt c (fold with_commit known commits)))
told_step known commits c told so =
    subst (λ (k : List Commit). Tallied known (commits ++ c ∷ []) (told_more told (learnt c k))) (known-counts (record { known = known; taken = 0; superseded = 0; already = 0 }) commits)
    (cases (has_id c.id (tally known commits).known) refl (is_superseded c (tally known commits).known) refl)
  where
    more : tally known (commits ++ c ∷ []) ≡ counted (tally known commits) c
    more = fold-append counted (record { known = known; taken = 0; superseded = 0; already = 0 }) commits (c ∷ [])

    cases : (h : Bool) → has_id c.id (tally known commits).known ≡ h → (t : Bool) → is_superseded c (tally known commits).known ≡ t → Tallied known (commits ++ c ∷ []) (told_more told (learnt c (tally known commits).known))
    cases h has t sup =
        let now : tally known (commits ++ c ∷ []) ≡ pick (tally known commits) c h t = more ∙ (ap (λ u. pick (tally known commits) c u (is_superseded c (tally known commits).known)) has ∙ ap (pick (tally known commits) c h) sup) in
        let learns : learnt c (tally known commits).known ≡ (if h then Known else if t then Superseded else Taken) = ap (λ u. if u then Known else if is_superseded c (tally known commits).known then Superseded else Taken) has ∙ ap (λ u. if h then Known else if u then Superseded else Taken) sup in
        subst (λ (x : Learnt). Tallied known (commits ++ c ∷ []) (told_more told x)) (sym learns) (told_by h t now)
      where
        told_by : (h t : Bool) → tally known (commits ++ c ∷ []) ≡ pick (tally known commits) c h t → Tallied known (commits ++ c ∷ []) (told_more told (if h then Known else if t then Superseded else Taken))
        told_by true t now = let a = so.already in let e : suc (tally known commits).already ≡ told.known + 1 = omega arith in
            record { taken = so.taken ∙ sym (ap (λ (n : Counts). n.taken) now); superseded = so.superseded ∙ sym (ap (λ (n : Counts). n.superseded) now); already = sym (ap (λ (n : Counts). n.already) now ∙ e) }
        told_by false true now = let a = so.superseded in let e : suc (tally known commits).superseded ≡ told.superseded + 1 = omega arith in
            record { taken = so.taken ∙ sym (ap (λ (n : Counts). n.taken) now); superseded = sym (ap (λ (n : Counts). n.superseded) now ∙ e); already = so.already ∙ sym (ap (λ (n : Counts). n.already) now) }
        told_by false false now = let a = so.taken in let e : suc (tally known commits).taken ≡ told.taken + 1 = omega arith in
            record { taken = sym (ap (λ (n : Counts). n.taken) now ∙ e); superseded = so.superseded ∙ sym (ap (λ (n : Counts). n.superseded) now); already = so.already ∙ sym (ap (λ (n : Counts). n.already) now) }

-- one more is told of
pub told_count : (told : Told) (l : Learnt) → (told_more told l).taken + (told_more told l).superseded + (told_more told l).known ≡ told.taken + told.superseded + told.known + 1
told_count told Taken = omega arith
told_count told Superseded = omega arith
told_count told Known = omega arith
