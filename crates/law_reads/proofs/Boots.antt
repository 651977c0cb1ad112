-- What a boot leaves out, and what is given up, is never known.
use Rattle.std.proofs.Common.{◌≡◌, ℕ, Bool, true, false, ◌&&◌, ◌||◌, not, List, [], ◌∷◌, ◌++◌, refl, sym, ap, subst, ◌∙◌, ◌⊎◌, inl, inr, append_assoc}
use Rattle.std.specs.Prelude.{IsTrue, IsFalse, filter, if◌then◌else◌}
use Rattle.std.specs.List.{fold, list_any}
use Rattle.std.specs.Cmp.Lexicographic.{pointwise}
use Rattle.std.specs.Str.{bytes_eq}
use Rattle.std.proofs.lemmas.Bool.{and_from, and_parts, eq-eqb, false_from_ne_true, false≢true, not-true, or_parts, true≢false}
use Rattle.aft_id.specs.TxnId.{id_lt, same_id}
use Rattle.aft_id.specs.declared.txn_id.TxnId.{TxnId}
use Rattle.aft_records.specs.Commits.{first_known, has_id, is_among, same_commit, with_commit, with_id_order}
use Rattle.aft_records.specs.Superseded.{Superseded, is_superseded, wrote}
use Rattle.aft_records.specs.declared.stored.Commit.{Commit}
use Rattle.aft_model.specs.declared.node.NodeAct.{NodeAct}
use Rattle.aft_model.specs.declared.node.NodeAct.TheVariants.{Boot, GiveUp}
use Rattle.aft_model.specs.declared.node.NodeEntry.{NodeEntry}
use Rattle.aft_model.specs.Known.{holds_id, known, known_in, known_of}
use Rattle.aft_model.specs.LegalNode.{LegalNode, may_be_done, may_follow_at, may_serve}
use Rattle.aft_model.specs.NodeState.{IsBooting, IsDown, IsServing, NodeState, in_service, node_state, serves, service_in, state_after}
use Rattle.aft_model.proofs.Histories.{In, all_at, any_found, any_from, each_after_snoc, each_after_split}
use Rattle.aft_model.proofs.Ids.{id_lt-irrefl, id_lt-le, same_commits, same_id-refl, same_ids}
use Rattle.aft_model.proofs.Incarnations.{known-at, superseded_stays_unknown}
use Rattle.aft_model.proofs.Knowledge.{OneEach, greatest_one, placed_new, risen_more, stays_with, superseded_risen, with_cases}
use Rattle.aft_model.proofs.Lists.{all_from, filter_in, fold_kept, in_filter}
use Rattle.aft_model.proofs.Services.{node_state-snoc}
use Rattle.aft_model.proofs.Sights.{bytes_eq-refl}

-- ---- what joins the known ones

-- what is known after commits were learned was known, or is one of them
learned_from : (known commits : List Commit) (c : Commit) → In c (fold with_commit known commits) → In c known ⊎ In c commits
learned_from known [] c among = inl among
learned_from known (d ∷ commits) c among =
    elim (learned_from (with_commit known d) commits c among) [
      | inl before ↦ elim (joined c known d before) [ inl was ↦ inl was | inr is ↦ inr (inl is) ]
      | inr later ↦ inr (inr later)
    ]
  where
    joined : (e : Commit) (before : List Commit) (new : Commit) → In e (with_commit before new) → In e before ⊎ (e ≡ new)
    joined e before new = with_cases (λ (l : List Commit). In e l → In e before ⊎ (e ≡ new)) before new inl (λ fresh kept. placed_new e before new)

placed_itself : (known : List Commit) (c : Commit) → In c (with_id_order known c)
placed_itself [] c = inl refl
placed_itself (d ∷ known) c = cases (id_lt c.id d.id) (placed_itself known c)
  where
    cases : (t : Bool) → In c (with_id_order known c) → In c (if t then c ∷ d ∷ known else d ∷ with_id_order known c)
    cases true rest = inl refl
    cases false rest = inr rest

module _ (booted : List Commit) (one_each : OneEach booted) where
  -- a commit that the shown ones don't supersede joins those of them that are known
  joins : (known : List Commit) (c : Commit) → ((d : Commit) → In d known → In d booted) → In c booted → IsFalse (is_superseded c booted) → In c (with_commit known c)
  joins known c within among stands = cases (has_id c.id known) refl (is_superseded c known) refl
    where
      cases : (h : Bool) → has_id c.id known ≡ h → (t : Bool) → is_superseded c known ≡ t → In c (if h || t then known else with_id_order known c)
      cases true has t sup =
          let found = any_found (λ (d : Commit). same_id c.id d.id) known has in
          subst (λ (d : Commit). In d known) (one_each found.0 c (within found.0 found.1) among (sym (same_ids c.id found.0.id found.2))) found.1
      cases false new true sup = absurd (true≢false (sym (superseded_risen c known booted (risen_more known booted within) sup) ∙ stands))
      cases false new false sup = placed_itself known c

  within_with : (known : List Commit) (c : Commit) → ((d : Commit) → In d known → In d booted) → In c booted → (d : Commit) → In d (with_commit known c) → In d booted
  within_with known c within among d = with_cases (λ (l : List Commit). In d l → In d booted) known c (within d) (λ new kept there. elim (placed_new d known c there) [ inl was ↦ within d was | inr is ↦ subst (λ (e : Commit). In e booted) (sym is) among ])

  learns : (known commits : List Commit) (c : Commit) → ((d : Commit) → In d known → In d booted) → ((d : Commit) → In d commits → In d booted) → IsFalse (is_superseded c booted) → In c commits → In c (fold with_commit known commits)
  learns known [] c within shown stands among = absurd among
  learns known (d ∷ commits) c within shown stands (inl is) =
      fold_kept with_commit (In c) (λ before e was. stays_with c before e was) (with_commit known d) commits
      (subst (λ (e : Commit). In c (with_commit known e)) is (joins known c within (subst (λ (e : Commit). In e booted) (sym is) (shown d (inl refl))) stands))
  learns known (d ∷ commits) c within shown stands (inr later) =
      learns (with_commit known d) commits c (within_with known d within (shown d (inl refl))) (λ e among. shown e (inr among)) stands later

  -- what the shown ones don't supersede is known at first
  first_has : (c : Commit) → In c booted → IsFalse (is_superseded c booted) → In c (first_known booted)
  first_has c among stands =
      learns [] (filter (λ d. not (is_superseded d booted)) booted) c (λ d nowhere. absurd nowhere) (λ d there. (in_filter (λ e. not (is_superseded e booted)) d booted there).0) stands
      (filter_in (λ d. not (is_superseded d booted)) c booted among (ap not stands))

  -- what they supersede is superseded by what is known at first
  pub first_supersedes : (t : Commit) → IsTrue (is_superseded t booted) → IsTrue (is_superseded t (first_known booted))
  first_supersedes t superseded =
      all_from (λ k. list_any (λ (d : Commit). wrote k d && id_lt t.id d.id) (first_known booted)) t.keys (λ key among.
      let above = any_found (λ (d : Commit). wrote key d && id_lt t.id d.id) booted (all_at (λ k. list_any (λ (d : Commit). wrote k d && id_lt t.id d.id) booted) key t.keys among superseded) in
      let parts = and_parts (wrote key above.0) (id_lt t.id above.0.id) above.2 in
      let top = greatest_one key above.0.id booted (above.0, above.1, parts.0, id_lt-irrefl above.0.id) in
      any_from (λ (d : Commit). wrote key d && id_lt t.id d.id) top.0 (first_known booted) (first_has top.0 top.1 top.4)
      (and_from _ _ top.2 (id_lt-le t.id above.0.id top.0.id parts.1 top.3)))

-- a commit that the shown ones supersede isn't known at first
pub first_lacks : (t : Commit) (booted : List Commit) → IsTrue (is_superseded t booted) → IsFalse (is_among t (first_known booted))
first_lacks t booted superseded = false_from_ne_true (is_among t (first_known booted)) (λ known.
    let found = any_found (same_commit t) (first_known booted) known in
    let is : t ≡ found.0 = same_commits t found.0 found.2 in
    elim (learned_from [] (filter (λ d. not (is_superseded d booted)) booted) found.0 found.1) [
      | inl nowhere ↦ nowhere
      | inr there ↦ (let stands = (in_filter (λ d. not (is_superseded d booted)) found.0 booted there).1 in
          true≢false (sym (subst (λ (d : Commit). IsTrue (is_superseded d booted)) is superseded) ∙ not-true (is_superseded found.0 booted) stands))
    ])

keys_same : (keys : List (List ℕ)) → IsTrue (pointwise bytes_eq keys keys)
keys_same [] = refl
keys_same (key ∷ keys) = and_from _ _ (bytes_eq-refl key) (keys_same keys)

commit_same : (c : Commit) → IsTrue (same_commit c c)
commit_same c = and_from _ _ (same_id-refl c.id) (keys_same c.keys)

-- commits of which no two have one id
pub each_once : (commits : List Commit) → ((c d : Commit) → IsTrue (is_among c commits) → IsTrue (is_among d commits) → c.id ≡ d.id → c ≡ d) → OneEach commits
each_once commits differ c d of_c of_d same = differ c d (any_from (same_commit c) c commits of_c (commit_same c)) (any_from (same_commit d) d commits of_d (commit_same d)) same

-- ---- in a history

pub known_at_boot : (history : List NodeEntry) (entry : NodeEntry) (inc : ℕ) (commits : List Commit) → entry.act ≡ Boot inc commits → known (history ++ entry ∷ []) ≡ first_known commits
known_at_boot history entry inc commits is =
    known-at (history ++ entry ∷ []) (record { inc = inc; booted = commits; part = [] }) (node_state-snoc history entry ∙ ap (state_after (node_state history) entry) is)

serves_boot : (history : List NodeEntry) (entry : NodeEntry) (inc : ℕ) (commits : List Commit) → entry.act ≡ Boot inc commits → node_state (history ++ entry ∷ []) ≡ IsServing (record { inc = inc; booted = commits; part = [] })
serves_boot history entry inc commits is = node_state-snoc history entry ∙ ap (state_after (node_state history) entry) is

pub missed_from_boot : (node capacity inc : ℕ) (t : Commit) (commits : List Commit) (history more : List NodeEntry) (entry : NodeEntry) → LegalNode node capacity ((history ++ entry ∷ []) ++ more)
    → entry.act ≡ Boot inc commits → ((c d : Commit) → IsTrue (is_among c commits) → IsTrue (is_among d commits) → c.id ≡ d.id → c ≡ d) → Superseded t commits → IsTrue (serves inc (node_state ((history ++ entry ∷ []) ++ more)))
    → IsFalse (is_among t (known ((history ++ entry ∷ []) ++ more)))
missed_from_boot node capacity inc t commits history more entry legal is differ superseded still =
    superseded_stays_unknown node capacity inc (history ++ entry ∷ []) more legal
    (subst (λ (state : NodeState). IsTrue (serves inc state)) (sym (serves_boot history entry inc commits is)) (eq-eqb inc inc refl)) still t
    (subst (λ (l : List Commit). IsFalse (is_among t l)) (sym (known_at_boot history entry inc commits is)) (first_lacks t commits superseded))
    (subst (λ (l : List Commit). IsTrue (is_superseded t l)) (sym (known_at_boot history entry inc commits is)) (first_supersedes commits (each_once commits differ) t superseded))

-- what is given up isn't known
pub given_up_unknown : (node capacity : ℕ) (id : TxnId) (history : List NodeEntry) (entry : NodeEntry) → LegalNode node capacity (history ++ entry ∷ []) → entry.act ≡ GiveUp id → IsFalse (has_id id (known history))
given_up_unknown node capacity id history entry legal is =
    let split = each_after_snoc (may_follow_at node capacity) [] history entry legal in
    let done = subst (λ (y : NodeAct). IsTrue (may_be_done node capacity history y entry.answer)) is (and_parts _ (may_be_done node capacity history entry.act entry.answer) (and_parts _ _ split.1).0).1 in
    cases (node_state history) done
  where
    cases : (state : NodeState) → IsTrue (in_service (may_serve node capacity (GiveUp id) entry.answer) (service_in state)) → IsFalse (has_id id (known_of (service_in state)))
    cases (IsServing s) done = (or_parts (has_id id (known_in s)) _ (not-true (holds_id id s) (and_parts (not (holds_id id s)) _ done).0)).0
    cases IsDown done = absurd (false≢true done)
    cases (IsBooting inc running) done = absurd (false≢true done)

pub given_up_for_good : (node capacity inc : ℕ) (c : Commit) (history more : List NodeEntry) (entry : NodeEntry) → LegalNode node capacity ((history ++ entry ∷ []) ++ more)
    → IsTrue (serves inc (node_state history)) → IsTrue (serves inc (node_state ((history ++ entry ∷ []) ++ more))) → entry.act ≡ GiveUp c.id → Superseded c (known history)
    → IsFalse (is_among c (known ((history ++ entry ∷ []) ++ more)))
given_up_for_good node capacity inc c history more entry legal serve still is superseded =
    let whole : (history ++ entry ∷ []) ++ more ≡ history ++ (entry ∷ [] ++ more) = append_assoc history (entry ∷ []) more in
    let first = (each_after_split (may_follow_at node capacity) [] (history ++ entry ∷ []) more legal).0 in
    let unknown = given_up_unknown node capacity c.id history entry first is in
    subst (λ (h : List NodeEntry). IsFalse (is_among c (known h))) (sym whole)
    (superseded_stays_unknown node capacity inc history (entry ∷ [] ++ more) (subst (LegalNode node capacity) whole legal) serve (subst (λ (h : List NodeEntry). IsTrue (serves inc (node_state h))) whole still) c
    (false_from_ne_true (is_among c (known history)) (λ among.
    let found = any_found (same_commit c) (known history) among in
    true≢false (sym (any_from (λ (d : Commit). same_id c.id d.id) found.0 (known history) found.1 (and_parts (same_id c.id found.0.id) _ found.2).0) ∙ unknown)))
    superseded)
