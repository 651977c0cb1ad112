-- What a node knows, as long as it serves as one incarnation.
use Rattle.std.proofs.Common.{◌≡◌, ◌∙◌, ℕ, List, [], ◌∷◌, ◌++◌, inl, inr, sym, ap, subst}
use Rattle.std.specs.Prelude.{IsTrue, IsFalse}
use Rattle.std.proofs.lemmas.Bool.{true≢false, false≢true}
use Rattle.aft_id.specs.TxnId.{zero_id, same_id}
use Rattle.aft_id.specs.declared.txn_id.TxnId.{TxnId}
use Rattle.aft_records.specs.Superseded.{Superseded}
use Rattle.aft_records.specs.declared.stored.Commit.{Commit}
use Rattle.aft_model.specs.declared.node.NodeEntry.{NodeEntry}
use Rattle.aft_model.specs.Attempts.{is_pinned}
use Rattle.aft_records.specs.Commits.{is_among, has_id, latest, latest_le}
use Rattle.aft_model.specs.Known.{known_in, known_of, known}
use Rattle.aft_model.specs.LegalNode.{may_serve, may_follow_at, LegalNode}
use Rattle.aft_model.specs.NodeState.{Service, NodeState, IsDown, IsBooting, IsServing, extended, node_state, newest, service_in, part_in, part, serves}
use Rattle.aft_model.proofs.Histories.{each_after_snoc, each_after_kept}
use Rattle.aft_model.proofs.Knowledge.{pinned_extended, Risen, risen_itself, risen_trans, risen_extended, latest_risen, Missed, missed_extended}
use Rattle.aft_model.proofs.Ids.{same_id-refl}
use Rattle.aft_model.proofs.Pins.{Tracked, tracked_at_first, tracked_extended, pinned_known}
use Rattle.aft_model.proofs.Services.{Moved, Serves, GoesDown, Begins, Waits, Boots, moved_by, served_on, serving, kept_within}

-- ---- what a service knows

-- a node's attempts and reads are tracked
abbrev TracksReads : NodeState → Type 0
TracksReads (IsServing s) = Tracked s
TracksReads state = Unit {0}

tracked_moved : (node capacity n : ℕ) (before : NodeState) (entry : NodeEntry) (after : NodeState) → Moved node capacity n before entry entry.act entry.answer after → TracksReads before → TracksReads after
tracked_moved node capacity n before entry after (Serves s was rule is) tracked = subst TracksReads (sym is) (tracked_extended node capacity s entry rule (subst TracksReads was tracked))
tracked_moved node capacity n before entry after (GoesDown is) tracked = subst TracksReads (sym is) tt
tracked_moved node capacity n before entry after (Begins inc by rule is) tracked = subst TracksReads (sym is) tt
tracked_moved node capacity n before entry after (Waits inc running still was is) tracked = subst TracksReads (sym is) tt
tracked_moved node capacity n before entry after (Boots inc commits boot is) tracked = subst TracksReads (sym is) (tracked_at_first inc commits)

tracked_reads : (node capacity : ℕ) (history : List NodeEntry) → LegalNode node capacity history → TracksReads (node_state history)
tracked_reads node capacity history legal =
    each_after_kept (may_follow_at node capacity) (λ (h : List NodeEntry). TracksReads (node_state h))
    (λ h entry sofar rule tracked. tracked_moved node capacity (newest h) (node_state h) entry (node_state (h ++ entry ∷ [])) (moved_by node capacity h entry rule) tracked) [] history legal tt

pub known-at : (history : List NodeEntry) (s : Service) → node_state history ≡ IsServing s → known history ≡ known_in s
known-at history s is = ap (λ (state : NodeState). known_of (service_in state)) is

pub part-at : (history : List NodeEntry) (s : Service) → node_state history ≡ IsServing s → part history ≡ s.part
part-at history s is = ap (λ (state : NodeState). part_in (service_in state)) is

-- ---- the laws

module _ (node capacity inc : ℕ) (history more : List NodeEntry) (legal : LegalNode node capacity (history ++ more))
    (serve : IsTrue (serves inc (node_state history))) (still : IsTrue (serves inc (node_state (history ++ more)))) where
  -- what each entry keeps stays as long as the incarnation serves
  known_within : (P : List Commit → Type 0)
      → ((s : Service) (entry : NodeEntry) → IsTrue (may_serve node capacity entry.act entry.answer s) → P (known_in s) → P (known_in (extended s entry)))
      → P (known history) → P (known (history ++ more))
  known_within P step holds =
      let began = serving inc (node_state history) serve in
      let kept = kept_within node capacity inc (λ (s : Service). P (known_in s)) (λ h s entry sofar is rule holds. step s entry rule holds)
      history more began.0 legal began.1 began.2 (subst P (known-at history began.0 began.1) holds) still in
      subst P (sym (known-at (history ++ more) kept.0 kept.1)) kept.2

  pub greatest_stays : (key : List ℕ) → IsTrue (latest_le (latest key (known history)) (latest key (known (history ++ more))))
  greatest_stays key =
      latest_risen key (known history) (known (history ++ more))
      (known_within (Risen (known history)) (λ s entry rule risen. risen_trans (known history) (known_in s) (known_in (extended s entry)) risen (risen_extended node capacity s entry rule))
      (risen_itself (known history)))

  pub superseded_stays_unknown : (c : Commit) → IsFalse (is_among c (known history)) → Superseded c (known history) → IsFalse (is_among c (known (history ++ more)))
  superseded_stays_unknown c unknown superseded =
      (known_within (Missed c) (λ s entry rule missed. missed_extended node capacity s entry c rule missed) (unknown, superseded)).0

pub pinned_stays : (node capacity inc : ℕ) (id : TxnId) (history : List NodeEntry) (entry : NodeEntry) → LegalNode node capacity (history ++ entry ∷ [])
    → IsTrue (serves inc (node_state history)) → IsTrue (serves inc (node_state (history ++ entry ∷ []))) → IsTrue (is_pinned id (part history)) → IsTrue (has_id id (known history))
    → IsTrue (has_id id (known (history ++ entry ∷ [])))
pinned_stays node capacity inc id history entry legal serve still pinned has =
    let began = serving inc (node_state history) serve in
    let ends = serving inc (node_state (history ++ entry ∷ [])) still in
    let how = moved_by node capacity history entry (each_after_snoc (may_follow_at node capacity) [] history entry legal).1 in
    let on = served_on node capacity (newest history) (node_state history) entry entry.act entry.answer (node_state (history ++ entry ∷ [])) began.0 ends.0 how began.1 ends.1 in
    subst (λ commits. IsTrue (has_id id commits)) (sym (known-at (history ++ entry ∷ []) (extended began.0 entry) on.1))
    (pinned_extended node capacity began.0 entry id on.0
    (subst (λ entries. IsTrue (is_pinned id entries)) (part-at history began.0 began.1) pinned)
    (subst (λ commits. IsTrue (has_id id commits)) (known-at history began.0 began.1) has))

pub pinned_is_known : (node capacity : ℕ) (id : TxnId) (history : List NodeEntry) → LegalNode node capacity history → IsTrue (is_pinned id (part history)) → IsFalse (same_id id zero_id) → IsTrue (has_id id (known history))
pinned_is_known node capacity id history legal pinned other = cases (node_state history) (tracked_reads node capacity history legal) pinned
  where
    cases : (state : NodeState) → TracksReads state → IsTrue (is_pinned id (part_in (service_in state))) → IsTrue (has_id id (known_of (service_in state)))
    cases (IsServing s) tracked pinned =
        elim (pinned_known s id tracked pinned) [
          | inl zero ↦ absurd (true≢false (sym (subst (λ (i : TxnId). IsTrue (same_id id i)) zero (same_id-refl id)) ∙ other))
          | inr has ↦ has
        ]
    cases IsDown tracked pinned = absurd (false≢true pinned)
    cases (IsBooting inc running) tracked pinned = absurd (false≢true pinned)
