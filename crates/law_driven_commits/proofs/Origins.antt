-- The incarnation that a record names as its origin counts from 1, and what its attempt had read was committed, so that its ids keep the limits.
use Rattle.std.proofs.Common.{◌≡◌, ◌≤◌, ℕ, Bool, true, not, suc, List, [], ◌∷◌, ◌++◌, refl, sym, ap, subst, ◌∙◌, inl, inr, eqb, arith}
use Rattle.std.specs.Prelude.{IsFalse, IsTrue, None, Option, Some, if◌then◌else◌}
use Rattle.std.specs.List.{list_any}
use Rattle.std.proofs.lemmas.Bool.{and_parts, eqb-true, false≢true}
use Rattle.aft_id.specs.declared.txn_id.TxnId.{TxnId}
use Rattle.aft_id.specs.TxnId.{IsUuid, same_id, zero_id}
use Rattle.aft_records.specs.declared.stored.Commit.{Commit}
use Rattle.aft_records.specs.Limits.{IsTime}
use Rattle.aft_model.specs.declared.caller.Attempt.{Attempt}
use Rattle.aft_model.specs.declared.door.DoorEntry.{DoorEntry}
use Rattle.aft_model.specs.declared.node.NodeAct.{NodeAct}
use Rattle.aft_model.specs.declared.node.NodeAct.TheVariants as acts
use Rattle.aft_model.specs.declared.node.NodeEntry.{NodeEntry}
use Rattle.aft_model.specs.declared.read_set.ReadPair.{ReadPair}
use Rattle.aft_model.specs.declared.reply.Reply.{Reply}
use Rattle.aft_model.specs.Attempts.{IsOpening, admitted_by, attempt_after, attempt_state, attempts, fixed_commit, is_gone, present, reads, same_attempt}
use Rattle.aft_model.specs.Bytes.{HasBytes}
use Rattle.aft_model.specs.Known.{known}
use Rattle.aft_model.specs.LegalNode.{LegalNode, may_follow_at}
use Rattle.aft_model.specs.NodeRules.{may_begin_boot}
use Rattle.aft_model.specs.NodeState.{IsBooting, IsDown, IsServing, NodeState, Service, boots, extended, newest, node_state, part, part_in, serves, service_in}
use Rattle.aft_model.proofs.Histories.{In, any_found, any_from, each_after_kept, each_after_snoc}
use Rattle.aft_model.proofs.Ids.{same_id-refl, same_ids}
use Rattle.aft_model.proofs.Incarnations.{part-at, pinned_is_known}
use Rattle.aft_model.proofs.Lists.{filter_in}
use Rattle.aft_model.proofs.Pins.{attempt_state-snoc, there_before}
use Rattle.aft_model.proofs.Services.{Begins, Boots, GoesDown, Moved, Serves, Waits, moved_by, serving}
use Rattle.law_attempts.proofs.Lives.{lives}
use Rattle.law_attempts.proofs.Standing.{same_itself}
use Rattle.law_boots.specs.Beside.{Beside}
use Rattle.law_boots.proofs.Nodes.{before}
use Rattle.law_boots.proofs.Real.{is_committed, known_committed}
use Rattle.law_names.proofs.Proven.{committed_limits}
use Rattle.law_driven_commits.proofs.Stays.{fixed_there}

-- ---- incarnations

-- what a node boots or serves counts from 1
abbrev Counted : NodeState → Type 0
Counted IsDown = Unit {0}
Counted (IsBooting inc running) = 1 ≤ inc
Counted (IsServing s) = 1 ≤ s.inc

begins_counted : (n inc : ℕ) (state : NodeState) → IsTrue (may_begin_boot inc n state) → Counted state → 1 ≤ inc
begins_counted n inc IsDown begin counted = let is = eqb-true inc (suc n) begin in omega arith
begins_counted n inc (IsBooting booting running) begin counted = let is = eqb-true inc booting (and_parts (eqb inc booting) (not running) begin).0 in omega arith
begins_counted n inc (IsServing s) begin counted = absurd (false≢true begin)

boots_counted : (inc : ℕ) (state : NodeState) → IsTrue (boots inc state) → Counted state → 1 ≤ inc
boots_counted inc IsDown boot counted = absurd (false≢true boot)
boots_counted inc (IsBooting booting running) boot counted = let is = eqb-true inc booting boot in omega arith
boots_counted inc (IsServing s) boot counted = absurd (false≢true boot)

counted_after : (node capacity n : ℕ) (state : NodeState) (entry : NodeEntry) (act : NodeAct) (answer : Option Reply) (after : NodeState) → Moved node capacity n state entry act answer after → Counted state → Counted after
counted_after node capacity n state entry act answer after (Serves s was may is) counted = subst Counted (sym is) (subst Counted was counted)
counted_after node capacity n state entry act answer after (GoesDown is) counted = subst Counted (sym is) tt
counted_after node capacity n state entry act answer after (Begins inc by may is) counted = subst Counted (sym is) (begins_counted n inc state may counted)
counted_after node capacity n state entry act answer after (Waits inc running still was is) counted = subst Counted (sym is) (subst Counted was counted)
counted_after node capacity n state entry act answer after (Boots inc commits boot is) counted = subst Counted (sym is) (boots_counted inc state boot counted)

pub from_one : (node capacity inc : ℕ) (history : List NodeEntry) → LegalNode node capacity history → IsTrue (serves inc (node_state history)) → 1 ≤ inc
from_one node capacity inc history legal serve =
    let at = serving inc (node_state history) serve in
    let counted = each_after_kept (may_follow_at node capacity) (λ (h : List NodeEntry). Counted (node_state h))
    (λ h entry sofar rule counted. counted_after node capacity (newest h) (node_state h) entry entry.act entry.answer (node_state (h ++ entry ∷ [])) (moved_by node capacity h entry rule) counted) [] history legal tt in
    subst (λ (n : ℕ). 1 ≤ n) at.2 (subst Counted at.1 counted)

-- ---- what was read

-- behind this entry an attempt has fixed a commit
module _ (node capacity : ℕ) (door : List DoorEntry) (found : List NodeEntry) (entry : NodeEntry) (beside : Beside node capacity door (found ++ entry ∷ [])) (a : Attempt) (c : Commit) (fixed : fixed_commit (attempt_state a (part (found ++ entry ∷ []))) ≡ Some c) where
  earlier : Beside node capacity door found
  earlier = before node capacity door found entry beside

  -- it was there before that
  present_then : In a (present (part found))
  present_then = by_how (moved_by node capacity found entry (each_after_snoc (may_follow_at node capacity) [] found entry beside.legal).1)
    where
      nothing : (state : NodeState) → part_in (service_in state) ≡ [] → node_state (found ++ entry ∷ []) ≡ state → ⊥
      nothing state none is = (let no : None ≡ Some c = sym (ap (λ (s : NodeState). fixed_commit (attempt_state a (part_in (service_in s)))) is ∙ ap (λ (p : List NodeEntry). fixed_commit (attempt_state a p)) none) ∙ fixed in cc)

      opens : (act : NodeAct) (s : Service) → In a (admitted_by act) → fixed_commit (attempt_after a (attempt_state a s.part) act) ≡ Some c → ⊥
      opens (acts.Admit b uuid) s (inl is) now =
          absurd (let no : None ≡ Some c = sym (ap (λ (own : Bool). fixed_commit (if own then IsOpening else attempt_state a s.part)) (subst (λ (x : Attempt). IsTrue (same_attempt a x)) is (same_itself a))) ∙ now in cc)
      opens (acts.Admit b uuid) s (inr none) now = absurd none
      opens act s among now = absurd among

      by_how : Moved node capacity (newest found) (node_state found) entry entry.act entry.answer (node_state (found ++ entry ∷ [])) → In a (present (part found))
      by_how (Serves s was may is) =
          let now : fixed_commit (attempt_after a (attempt_state a s.part) entry.act) ≡ Some c =
          ap fixed_commit (sym (ap (attempt_state a) (part-at (found ++ entry ∷ []) (extended s entry) is) ∙ attempt_state-snoc a s.part entry)) ∙ fixed in
          elim (there_before node capacity s entry.act entry.answer a may (fixed_there (attempt_after a (attempt_state a s.part) entry.act) c now)) [
            | inl there ↦
                subst (λ (p : List NodeEntry). In a (present p)) (sym (part-at found s was))
                (filter_in (λ (x : Attempt). not (is_gone (attempt_state x s.part))) a (attempts s.part) ((lives node capacity found s earlier.legal was).stands.listed a there) (ap not there))
            | inr new ↦ absurd (opens entry.act s new now)
          ]
      by_how (GoesDown is) = absurd (nothing IsDown refl is)
      by_how (Begins i by may is) = absurd (nothing (IsBooting i true) refl is)
      by_how (Waits i running still was is) = absurd (nothing (IsBooting i still) refl is)
      by_how (Boots i commits boot is) = absurd (nothing (IsServing (record { inc = i; booted = commits; part = [] })) refl is)

  -- so what it had read was known, and was committed at the door
  pub read_limits : HasBytes door → (pair : ReadPair) → In pair (reads a (part found)) → IsFalse (same_id pair.id zero_id) → IsTime pair.id.time × IsUuid pair.id.uuid
  read_limits made pair among real =
      let pinned = any_from (λ (x : Attempt). list_any (λ (p : ReadPair). same_id pair.id p.id) (reads x (part found))) a (present (part found)) present_then
      (any_from (λ (p : ReadPair). same_id pair.id p.id) pair (reads a (part found)) among (same_id-refl pair.id)) in
      let of = any_found (λ (d : Commit). same_id pair.id d.id) (known found) (pinned_is_known node capacity pair.id found earlier.legal pinned real) in
      let limits = committed_limits of.0 door made (is_committed of.0 door (known_committed node capacity door found earlier of.0 of.1)) in
      subst (λ (i : TxnId). IsTime i.time × IsUuid i.uuid) (sym (same_ids pair.id of.0.id of.2)) (limits.1, limits.0.id.uuid)
