-- What a node knows, from entry to entry of a service: a key's greatest id never falls, and what is pinned stays.
use Rattle.std.proofs.Common.{◌≡◌, ℕ, Bool, true, false, ◌||◌, ◌&&◌, not, List, [], ◌∷◌, length, refl, sym, ap, subst, ◌∙◌, ◌⊎◌, inl, inr, eqb}
use Rattle.std.specs.Prelude.{IsTrue, IsFalse, Option, Some, None, filter, if◌then◌else◌}
use Rattle.std.specs.List.{list_any, list_all}
use Rattle.std.specs.Str.{bytes_eq}
use Rattle.std.proofs.lemmas.Bool.{and_parts, and_from, or_parts, not-true, true≢false, false_from_ne_true}
use Rattle.std.proofs.lemmas.List.Sums.{fold-append}
use Rattle.aft_id.specs.TxnId.{id_lt, same_id}
use Rattle.aft_id.specs.declared.txn_id.TxnId.{TxnId}
use Rattle.aft_records.specs.Superseded.{wrote, is_superseded}
use Rattle.aft_records.specs.declared.stored.Commit.{Commit}
use Rattle.aft_model.specs.declared.node.NodeAct.{NodeAct}
use Rattle.aft_model.specs.declared.node.NodeAct.TheVariants.{Stored, Learn, Drop}
use Rattle.aft_model.specs.declared.node.NodeEntry.{NodeEntry}
use Rattle.aft_model.specs.declared.reply.Reply.{Reply}
use Rattle.aft_model.specs.Attempts.{is_pinned}
use Rattle.aft_records.specs.Commits.{is_among, has_id, is_listed, ids_of, ids_ascend, with_id_order, with_commit, first_known, versions, latest, latest_le, same_commit}
use Rattle.aft_model.specs.Known.{known_after, known_in, known_of, known, droppable}
use Rattle.aft_model.specs.LegalNode.{may_serve}
use Rattle.aft_model.specs.NodeRules.{are_ids_of}
use Rattle.aft_model.specs.NodeState.{Service, extended, service}
use Rattle.aft_records.proofs.CommitOrder.{with_ascends, learned_ascends, without_ascends, first_ascends}
use Rattle.aft_model.proofs.Greatest.{greatest_of_some, greatest_among}
use Rattle.aft_model.proofs.Growth.{all_implied}
use Rattle.aft_model.proofs.Histories.{In, any_found, any_from, all_at}
use Rattle.aft_model.proofs.Ids.{same_ids, same_commits, same_id-refl, id_lt-irrefl, id_lt-le, id_le-trans}
use Rattle.aft_model.proofs.Lists.{none_at, in_filter, filter_in, in_map, map_in, fold_kept}
use Rattle.aft_model.proofs.Sights.{same_bytes}

-- ---- lists of commits

-- commits of one id are the same
abbrev pub OneEach : List Commit → Type 0
OneEach commits = (c d : Commit) → In c commits → In d commits → c.id ≡ d.id → c ≡ d

-- a commit among some has its id there
pub has_there : (id : TxnId) (c : Commit) (commits : List Commit) → In c commits → id ≡ c.id → IsTrue (has_id id commits)
has_there id c commits among is = any_from (λ (d : Commit). same_id id d.id) c commits among (subst (λ (i : TxnId). IsTrue (same_id id i)) is (same_id-refl id))

-- a commit behind one in id order has another id
apart_above : (x : Commit) (xs : List Commit) → IsTrue (ids_ascend (x ∷ xs)) → (d : Commit) → In d xs → x.id ≡ d.id → ⊥
apart_above x xs up d later same =
    let parts = and_parts (list_all (id_lt x.id) (ids_of xs)) (ids_ascend xs) up in
    let above = all_at (id_lt x.id) d.id (ids_of xs) (map_in (λ (e : Commit). e.id) d xs later) parts.0 in
    true≢false (sym (subst (λ (i : TxnId). IsTrue (id_lt x.id i)) (sym same) above) ∙ id_lt-irrefl x.id)

-- commits that ascend by id have each id once
one_each_from : (commits : List Commit) → IsTrue (ids_ascend commits) → OneEach commits
one_each_from [] up c d of_c of_d same = absurd of_c
one_each_from (x ∷ xs) up c d (inl c_is) (inl d_is) same = c_is ∙ sym d_is
one_each_from (x ∷ xs) up c d (inl c_is) (inr d_later) same = absurd (apart_above x xs up d d_later (ap (λ (e : Commit). e.id) (sym c_is) ∙ same))
one_each_from (x ∷ xs) up c d (inr c_later) (inl d_is) same = absurd (apart_above x xs up c c_later (ap (λ (e : Commit). e.id) (sym d_is) ∙ sym same))
one_each_from (x ∷ xs) up c d (inr c_later) (inr d_later) same =
    one_each_from xs (and_parts (list_all (id_lt x.id) (ids_of xs)) (ids_ascend xs) up).1 c d c_later d_later same

-- what is known ascends by id
ascends_after : (known : List Commit) (act : NodeAct) → IsTrue (ids_ascend known) → IsTrue (ids_ascend (known_after known act))
ascends_after known (Learn commits) up = learned_ascends known commits up
ascends_after known (Stored a c) up = with_ascends known c up
ascends_after known (Drop ids) up = without_ascends ids known up
ascends_after known act up = up

known_in_ascends : (s : Service) → IsTrue (ids_ascend (known_in s))
known_in_ascends s =
    fold_kept (λ (before : List Commit) (e : NodeEntry). known_after before e.act) (λ commits. IsTrue (ids_ascend commits)) (λ before e up. ascends_after before e.act up)
    (first_known s.booted) s.part (first_ascends s.booted)

pub known_ascends : (history : List NodeEntry) → IsTrue (ids_ascend (known history))
known_ascends history = cases (service history)
  where
    cases : (o : Option Service) → IsTrue (ids_ascend (known_of o))
    cases None = refl
    cases (Some s) = known_in_ascends s

pub one_each_in : (s : Service) → OneEach (known_in s)
one_each_in s = one_each_from (known_in s) (known_in_ascends s)

-- ---- a commit more

-- a commit that joins the known ones, or doesn't
pub with_cases : (P : List Commit → Type 0) (known : List Commit) (c : Commit) → P known → (IsFalse (has_id c.id known) → IsFalse (is_superseded c known) → P (with_id_order known c)) → P (with_commit known c)
with_cases P known c stays joins = cases (has_id c.id known || is_superseded c known) refl
  where
    cases : (t : Bool) → (has_id c.id known || is_superseded c known) ≡ t → P (if t then known else with_id_order known c)
    cases true out = stays
    cases false new = let parts = or_parts (has_id c.id known) (is_superseded c known) new in joins parts.0 parts.1

-- a commit in its place leaves those that were there, and is the only new one
placed_stays : (d : Commit) (known : List Commit) (c : Commit) → In d known → In d (with_id_order known c)
placed_stays d [] c among = absurd among
placed_stays d (e ∷ known) c among = cases (placed_stays d known c) (id_lt c.id e.id)
  where
    cases : (In d known → In d (with_id_order known c)) → (t : Bool) → In d (if t then c ∷ e ∷ known else e ∷ with_id_order known c)
    cases rest true = inr among
    cases rest false = elim among [ inl here ↦ inl here | inr later ↦ inr (rest later) ]

pub placed_new : (d : Commit) (known : List Commit) (c : Commit) → In d (with_id_order known c) → In d known ⊎ (d ≡ c)
placed_new d [] c (inl here) = inr here
placed_new d [] c (inr nowhere) = absurd nowhere
placed_new d (e ∷ known) c among = cases (placed_new d known c) (id_lt c.id e.id) among
  where
    cases : (In d (with_id_order known c) → In d known ⊎ (d ≡ c)) → (t : Bool) → In d (if t then c ∷ e ∷ known else e ∷ with_id_order known c) → In d (e ∷ known) ⊎ (d ≡ c)
    cases rest true (inl here) = inr here
    cases rest true (inr later) = inl later
    cases rest false (inl here) = inl (inl here)
    cases rest false (inr later) = elim (rest later) [ inl was ↦ inl (inr was) | inr is ↦ inr is ]

-- what joins the known ones leaves those that were there
pub stays_with : (d : Commit) (known : List Commit) (c : Commit) → In d known → In d (with_commit known c)
stays_with d known c among = with_cases (In d) known c among (λ new kept. placed_stays d known c among)

-- ---- each act

pub known_in-extended : (s : Service) (entry : NodeEntry) → known_in (extended s entry) ≡ known_after (known_in s) entry.act
known_in-extended s entry = fold-append (λ (before : List Commit) (e : NodeEntry). known_after before e.act) (first_known s.booted) s.part (entry ∷ [])

-- a dropped id is that of a known commit that is superseded and not pinned
dropped : (s : Service) (ids : List TxnId) (id : TxnId) → IsTrue (are_ids_of (droppable s) ids) → IsTrue (is_listed id ids)
    → (d : Commit) × In d (known_in s) × (id ≡ d.id) × IsTrue (is_superseded d (known_in s)) × IsFalse (is_pinned d.id s.part)
dropped s ids id rule listed =
    let parts = and_parts (eqb (length ids) (length (droppable s)) && list_all (λ (i : TxnId). has_id i (droppable s)) ids) _ rule in
    let each = (and_parts (eqb (length ids) (length (droppable s))) (list_all (λ (i : TxnId). has_id i (droppable s)) ids) parts.0).1 in
    let found = any_found (same_id id) ids listed in
    let here = any_found (λ (c : Commit). same_id found.0 c.id) (droppable s) (all_at (λ (i : TxnId). has_id i (droppable s)) found.0 ids found.1 each) in
    let there = in_filter (λ (c : Commit). is_superseded c (known_in s) && not (is_pinned c.id s.part)) here.0 (known_in s) here.1 in
    let both = and_parts (is_superseded here.0 (known_in s)) (not (is_pinned here.0.id s.part)) there.1 in
    (here.0, there.0, same_ids id found.0 found.2 ∙ same_ids found.0 here.0.id here.2, both.0, not-true (is_pinned here.0.id s.part) both.1)

-- a known commit of a pinned id stays known
pub pinned_after : (node capacity : ℕ) (s : Service) (act : NodeAct) (answer : Option Reply) (c : Commit) → IsTrue (may_serve node capacity act answer s) → IsTrue (is_pinned c.id s.part)
    → In c (known_in s) → In c (known_after (known_in s) act)
pinned_after node capacity s (Learn commits) answer c rule pinned among = fold_kept with_commit (In c) (stays_with c) (known_in s) commits among
pinned_after node capacity s (Stored a d) answer c rule pinned among = stays_with c (known_in s) d among
pinned_after node capacity s (Drop ids) answer c rule pinned among =
    filter_in (λ (d : Commit). not (is_listed d.id ids)) c (known_in s) among (ap not (false_from_ne_true (is_listed c.id ids) (λ listed.
    let d = dropped s ids c.id (and_parts (are_ids_of (droppable s) ids) _ rule).0 listed in
    true≢false (sym (subst (λ (i : TxnId). IsTrue (is_pinned i s.part)) d.2 pinned) ∙ d.4))))
pinned_after node capacity s act answer c rule pinned among = among

pub pinned_extended : (node capacity : ℕ) (s : Service) (entry : NodeEntry) (id : TxnId) → IsTrue (may_serve node capacity entry.act entry.answer s) → IsTrue (is_pinned id s.part)
    → IsTrue (has_id id (known_in s)) → IsTrue (has_id id (known_in (extended s entry)))
pinned_extended node capacity s entry id rule pinned has =
    let found = any_found (λ (c : Commit). same_id id c.id) (known_in s) has in
    let is = same_ids id found.0.id found.2 in
    has_there id found.0 (known_in (extended s entry))
    (subst (In found.0) (sym (known_in-extended s entry)) (pinned_after node capacity s entry.act entry.answer found.0 rule (subst (λ (i : TxnId). IsTrue (is_pinned i s.part)) is pinned) found.1)) is

-- ---- a key's greatest id

-- some commit wrote a key at an id that isn't below this one
abbrev pub Reached : List ℕ → TxnId → List Commit → Type 0
Reached key id commits = (d : Commit) × In d commits × IsTrue (wrote key d) × IsFalse (id_lt d.id id)

-- what keys have reached they have reached in the second list too
abbrev pub Risen : List Commit → List Commit → Type 0
Risen before after = (key : List ℕ) (id : TxnId) → Reached key id before → Reached key id after

pub risen_itself : (known : List Commit) → Risen known known
risen_itself known key id reached = reached

pub risen_trans : (a b c : List Commit) → Risen a b → Risen b c → Risen a c
risen_trans a b c first second key id reached = second key id (first key id reached)

pub risen_more : (before after : List Commit) → ((c : Commit) → In c before → In c after) → Risen before after
risen_more before after more key id reached = (reached.0, more reached.0 reached.1, reached.2, reached.3)

-- the greatest commit of a key isn't superseded
greatest_kept : (key : List ℕ) (c : Commit) (known : List Commit) → IsTrue (wrote key c) → ((id : TxnId) → In id (versions key known) → IsFalse (id_lt c.id id)) → IsFalse (is_superseded c known)
greatest_kept key c known wrote_it top =
    false_from_ne_true (is_superseded c known) (λ superseded.
    let at_key = any_found (bytes_eq key) c.keys wrote_it in
    let above = any_found (λ (e : Commit). wrote at_key.0 e && id_lt c.id e.id) known (all_at (λ k. list_any (λ (e : Commit). wrote k e && id_lt c.id e.id) known) at_key.0 c.keys at_key.1 superseded) in
    let parts = and_parts (wrote at_key.0 above.0) (id_lt c.id above.0.id) above.2 in
    let too : IsTrue (wrote key above.0) = subst (λ k. IsTrue (wrote k above.0)) (sym (same_bytes key at_key.0 at_key.2)) parts.0 in
    true≢false (sym parts.1 ∙ top above.0.id (map_in (λ (e : Commit). e.id) above.0 (filter (wrote key) known) (filter_in (wrote key) above.0 known above.1 too))))

-- each key has a commit that isn't superseded where it has any, and at least as great
pub greatest_one : (key : List ℕ) (id : TxnId) (known : List Commit) → Reached key id known → (c : Commit) × In c known × IsTrue (wrote key c) × IsFalse (id_lt c.id id) × IsFalse (is_superseded c known)
greatest_one key id known (d, among, wrote_it, least) =
    let top = greatest_of_some (versions key known) d.id (map_in (λ (e : Commit). e.id) d (filter (wrote key) known) (filter_in (wrote key) d known among wrote_it)) in
    let found = in_map (λ (e : Commit). e.id) top.0 (filter (wrote key) known) top.2 in
    let there = in_filter (wrote key) found.0 known found.1 in
    let highest : (i : TxnId) → In i (versions key known) → IsFalse (id_lt found.0.id i) = subst (λ (g : TxnId). (i : TxnId) → In i (versions key known) → IsFalse (id_lt g i)) found.2 top.3 in (
      found.0,
      there.0,
      there.1,
      id_le-trans id d.id found.0.id least (highest d.id (map_in (λ (e : Commit). e.id) d (filter (wrote key) known) (filter_in (wrote key) d known among wrote_it))),
      greatest_kept key found.0 known there.1 highest,
    )

risen_after : (node capacity : ℕ) (s : Service) (act : NodeAct) (answer : Option Reply) → IsTrue (may_serve node capacity act answer s) → Risen (known_in s) (known_after (known_in s) act)
risen_after node capacity s (Learn commits) answer rule = risen_more _ _ (λ c among. fold_kept with_commit (In c) (stays_with c) (known_in s) commits among)
risen_after node capacity s (Stored a d) answer rule = risen_more _ _ (λ c among. stays_with c (known_in s) d among)
risen_after node capacity s (Drop ids) answer rule = λ key id reached.
    let top = greatest_one key id (known_in s) reached in (
      top.0,
      filter_in (λ (d : Commit). not (is_listed d.id ids)) top.0 (known_in s) top.1 (ap not (false_from_ne_true (is_listed top.0.id ids) (λ listed.
          let d = dropped s ids top.0.id (and_parts (are_ids_of (droppable s) ids) _ rule).0 listed in
          true≢false (sym (subst (λ (e : Commit). IsTrue (is_superseded e (known_in s))) (sym (one_each_in s top.0 d.0 top.1 d.1 d.2)) d.3) ∙ top.4)))),
      top.2,
      top.3,
    )
risen_after node capacity s act answer rule = risen_itself (known_in s)

pub risen_extended : (node capacity : ℕ) (s : Service) (entry : NodeEntry) → IsTrue (may_serve node capacity entry.act entry.answer s) → Risen (known_in s) (known_in (extended s entry))
risen_extended node capacity s entry rule =
    subst (Risen (known_in s)) (sym (known_in-extended s entry)) (risen_after node capacity s entry.act entry.answer rule)

-- greatest ids that rise
pub latest_risen : (key : List ℕ) (before after : List Commit) → Risen before after → IsTrue (latest_le (latest key before) (latest key after))
latest_risen key before after risen = cases (latest key before) refl
  where
    cases : (o : Option TxnId) → latest key before ≡ o → IsTrue (latest_le o (latest key after))
    cases None is = refl
    cases (Some g) is =
        let found = in_map (λ (e : Commit). e.id) g (filter (wrote key) before) (greatest_among (versions key before) g is) in
        let there = in_filter (wrote key) found.0 before found.1 in
        let reached = risen key g (found.0, there.0, there.1, subst (λ (i : TxnId). IsFalse (id_lt i g)) found.2 (id_lt-irrefl g)) in
        let top = greatest_of_some (versions key after) reached.0.id (map_in (λ (e : Commit). e.id) reached.0 (filter (wrote key) after) (filter_in (wrote key) reached.0 after reached.1 reached.2)) in
        let not_below : IsFalse (id_lt top.0 g) = id_le-trans g reached.0.id top.0 reached.3 (top.3 reached.0.id (map_in (λ (e : Commit). e.id) reached.0 (filter (wrote key) after) (filter_in (wrote key) reached.0 after reached.1 reached.2))) in
        subst (λ (o : Option TxnId). IsTrue (latest_le (Some g) o)) (sym top.1) (ap not not_below)

-- ---- superseded commits

-- a commit that was superseded stays so, where keys rise
pub superseded_risen : (c : Commit) (before after : List Commit) → Risen before after → IsTrue (is_superseded c before) → IsTrue (is_superseded c after)
superseded_risen c before after risen superseded =
    all_implied (λ key. list_any (λ (d : Commit). wrote key d && id_lt c.id d.id) before) (λ key. list_any (λ (d : Commit). wrote key d && id_lt c.id d.id) after)
    (λ key above.
    let found = any_found (λ (d : Commit). wrote key d && id_lt c.id d.id) before above in
    let parts = and_parts (wrote key found.0) (id_lt c.id found.0.id) found.2 in
    let reached = risen key found.0.id (found.0, found.1, parts.0, id_lt-irrefl found.0.id) in
    any_from (λ (d : Commit). wrote key d && id_lt c.id d.id) reached.0 after reached.1 (and_from _ _ reached.2 (id_lt-le c.id found.0.id reached.0.id parts.1 reached.3)))
    c.keys superseded

-- a superseded commit that isn't known isn't learned
abbrev pub Missed : Commit → List Commit → Type 0
Missed c known = IsFalse (is_among c known) × IsTrue (is_superseded c known)

missed_with : (c : Commit) (known : List Commit) (d : Commit) → Missed c known → Missed c (with_commit known d)
missed_with c known d missed = (
  with_cases (λ commits. IsFalse (is_among c commits)) known d missed.0 (λ new kept.
      false_from_ne_true (is_among c (with_id_order known d)) (λ there.
      let found = any_found (same_commit c) (with_id_order known d) there in
      elim (placed_new found.0 known d found.1) [
        | inl was ↦ none_at (same_commit c) found.0 known was missed.0 found.2
        | inr is ↦ true≢false (sym (subst (λ (e : Commit). IsTrue (is_superseded e known)) (same_commits c found.0 found.2 ∙ is) missed.1) ∙ kept)
      ])),
  superseded_risen c known (with_commit known d) (risen_more known (with_commit known d) (λ e among. stays_with e known d among)) missed.1,
)

unknown_after : (node capacity : ℕ) (s : Service) (act : NodeAct) (answer : Option Reply) (c : Commit) → Missed c (known_in s) → IsFalse (is_among c (known_after (known_in s) act))
unknown_after node capacity s (Learn commits) answer c missed = (fold_kept with_commit (Missed c) (missed_with c) (known_in s) commits missed).0
unknown_after node capacity s (Stored a d) answer c missed = (missed_with c (known_in s) d missed).0
unknown_after node capacity s (Drop ids) answer c missed =
    false_from_ne_true _ (λ there.
    let found = any_found (same_commit c) (filter (λ (d : Commit). not (is_listed d.id ids)) (known_in s)) there in
    none_at (same_commit c) found.0 (known_in s) (in_filter (λ (d : Commit). not (is_listed d.id ids)) found.0 (known_in s) found.1).0 missed.0 found.2)
unknown_after node capacity s act answer c missed = missed.0

pub missed_extended : (node capacity : ℕ) (s : Service) (entry : NodeEntry) (c : Commit) → IsTrue (may_serve node capacity entry.act entry.answer s) → Missed c (known_in s) → Missed c (known_in (extended s entry))
missed_extended node capacity s entry c rule missed = (
  subst (λ commits. IsFalse (is_among c commits)) (sym (known_in-extended s entry)) (unknown_after node capacity s entry.act entry.answer c missed),
  superseded_risen c (known_in s) (known_in (extended s entry)) (risen_extended node capacity s entry rule) missed.1,
)
