-- Which versions fit, as a walk from the newest on finds it: a version that was read ends it.
use Rattle.std.proofs.Common.{◌≡◌, ℕ, ◌&&◌, ◌||◌, not, List, sym, ap, subst, ◌∙◌, inl, inr}
use Rattle.std.specs.Prelude.{IsTrue, IsFalse, Some, filter}
use Rattle.std.proofs.lemmas.Bool.{and_from, and_parts, or_cases, or_left, or_right, not-true, true≢false, false_from_ne_true, cases_Bool}
use Rattle.aft_id.specs.TxnId.{id_lt, same_id}
use Rattle.aft_id.specs.declared.txn_id.TxnId.{TxnId}
use Rattle.aft_records.specs.Commits.{versions}
use Rattle.aft_records.specs.Superseded.{wrote}
use Rattle.aft_records.specs.declared.stored.Commit.{Commit}
use Rattle.aft_model.proofs.Choices.{version_there}
use Rattle.aft_model.proofs.Histories.{In, any_found, any_from, all_at}
use Rattle.aft_model.proofs.Ids.{id_lt-or, same_id-refl, same_ids}
use Rattle.aft_model.proofs.Lists.{all_from, in_filter, in_map}
use Rattle.aft_model.specs.Choice.{fits, id_le, is_late_enough, is_not_blocked, wrote_at}
use Rattle.aft_model.specs.ReadSet.{has_read}
use Rattle.aft_model.specs.declared.read_set.ReadPair.{ReadPair}
use Rattle.aft_select.proofs.Walks.{Walked}

-- the commit of a version wrote the key
pub version_wrote : (key : List ℕ) (id : TxnId) (known : List Commit) → In id (versions key known) → IsTrue (wrote_at key id known)
version_wrote key id known among =
    let found = in_map (λ (c : Commit). c.id) id (filter (wrote key) known) among in
    let there = in_filter (wrote key) found.0 known found.1 in
    any_from (λ (c : Commit). same_id id c.id && wrote key c) found.0 known there.0 (and_from _ _ (subst (λ (i : TxnId). IsTrue (same_id id i)) found.2 (same_id-refl id)) there.1)

module _ (key : List ℕ) (reads : List ReadPair) (known : List Commit) where
  -- a version that isn't blocked fits, where each version that was read is at most it
  pub version_fits : (id : TxnId) → Walked (λ i. has_read i reads) (versions key known) (Some id) → IsTrue (is_not_blocked id reads known) → IsTrue (fits key id reads known)
  version_fits id walked free = and_from _ _ (and_from _ _ (version_wrote key id known walked.one) late) free
    where
      late : IsTrue (is_late_enough key id reads known)
      late = all_from (λ (p : ReadPair). not (wrote_at key p.id known) || id_le p.id id) reads (λ p there.
          elim (cases_Bool (wrote_at key p.id known)) [
            | inl written ↦ or_right _ _ (ap not (walked.within p.id (version_there key p.id known written) (any_from (λ (q : ReadPair). same_id p.id q.id) p reads there (same_id-refl p.id))))
            | inr never ↦ or_left _ _ (ap not never)
          ])

  -- what is below a version that was read isn't late enough
  pub early_fails : (id other : TxnId) → In id (versions key known) → IsTrue (has_read id reads) → IsTrue (id_lt other id) → IsTrue (fits key other reads known) → ⊥
  early_fails id other among read less fit =
      let found = any_found (λ (p : ReadPair). same_id id p.id) reads read in
      let is : id ≡ found.0.id = same_ids id found.0.id found.2 in
      let late = (and_parts (wrote_at key other known) (is_late_enough key other reads known) (and_parts (wrote_at key other known && is_late_enough key other reads known) (is_not_blocked other reads known) fit).0).1 in
      elim (or_cases (not (wrote_at key found.0.id known)) (id_le found.0.id other) (all_at (λ (p : ReadPair). not (wrote_at key p.id known) || id_le p.id other) found.0 reads found.1 late)) [
        | inl never ↦ true≢false (sym (subst (λ (i : TxnId). IsTrue (wrote_at key i known)) is (version_wrote key id known among)) ∙ not-true (wrote_at key found.0.id known) never)
        | inr at_least ↦ true≢false (sym (subst (λ (i : TxnId). IsTrue (id_lt other i)) is less) ∙ not-true (id_lt other found.0.id) at_least)
      ]

  -- a blocked version doesn't fit
  pub blocked_fails : (id : TxnId) → IsFalse (is_not_blocked id reads known) → IsFalse (fits key id reads known)
  blocked_fails id blocked = false_from_ne_true (fits key id reads known) (λ fit.
      true≢false (sym (and_parts (wrote_at key id known && is_late_enough key id reads known) (is_not_blocked id reads known) fit).1 ∙ blocked))

  -- where a version is blocked and was read, and each that fits is at most it, none fits
  pub read_stops : (id : TxnId) → Walked (λ i. fits key i reads known) (versions key known) (Some id) → IsTrue (has_read id reads) → IsFalse (is_not_blocked id reads known)
      → (other : TxnId) → In other (versions key known) → IsTrue (fits key other reads known) → ⊥
  read_stops id walked read blocked other among fit =
      elim (id_lt-or other id (walked.within other among fit)) [
        | inl less ↦ early_fails id other walked.one read less fit
        | inr same ↦ true≢false (sym (subst (λ (i : TxnId). IsTrue (fits key i reads known)) same fit) ∙ blocked_fails id blocked)
      ]
