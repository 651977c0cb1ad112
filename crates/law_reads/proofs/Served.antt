-- What attempts have read in a legal history.
use Rattle.std.proofs.Common.{◌≡◌, ℕ, List, sym, subst, ◌∙◌, inl, inr}
use Rattle.std.specs.Prelude.{IsTrue, IsFalse, Some}
use Rattle.std.proofs.lemmas.Bool.{cases_Bool, true≢false}
use Rattle.aft_id.specs.TxnId.{same_id, zero_id}
use Rattle.aft_id.specs.declared.txn_id.TxnId.{TxnId}
use Rattle.aft_records.specs.Commits.{has_id}
use Rattle.aft_records.specs.declared.stored.Commit.{Commit}
use Rattle.aft_model.specs.declared.caller.Attempt.{Attempt}
use Rattle.aft_model.specs.declared.choice.Choice.TheVariants.{Absent, Version}
use Rattle.aft_model.specs.declared.node.NodeEntry.{NodeEntry}
use Rattle.aft_model.specs.Attempts.{attempt_state, is_read, reads}
use Rattle.aft_model.specs.AtomicReads.{Atomic}
use Rattle.aft_model.specs.Choice.{choice, wrote_at}
use Rattle.aft_model.specs.Known.{known, known_in}
use Rattle.aft_model.specs.LegalNode.{LegalNode}
use Rattle.aft_model.specs.NodeState.{IsServing, Service, node_state, part, serves}
use Rattle.aft_model.specs.ReadSet.{HasEachKeyOnce, read_at}
use Rattle.aft_model.proofs.Ids.{same_id-refl}
use Rattle.aft_model.proofs.Incarnations.{known-at, part-at}
use Rattle.aft_model.proofs.Pins.{There}
use Rattle.aft_model.proofs.Services.{serving}
use Rattle.law_reads.specs.Brings.{are_real}
use Rattle.law_reads.proofs.Gets.{Written, keeps_absent, keeps_version, none_zero}
use Rattle.law_reads.proofs.Reading.{Reading, reading}
use Rattle.law_reads.proofs.Repeats.{in_read_at, pair_read, read_at_in, repeats}

module _ (node capacity inc : ℕ) (history : List NodeEntry) (legal : LegalNode node capacity history) (real : IsTrue (are_real history)) (serve : IsTrue (serves inc (node_state history))) where
  its : (s : Service) × (node_state history ≡ IsServing s) × (s.inc ≡ inc)
  its = serving inc (node_state history) serve

  at_part : its.0.part ≡ part history
  at_part = sym (part-at history its.0 its.1)

  at_known : known_in its.0 ≡ known history
  at_known = sym (known-at history its.0 its.1)

  of_it : Reading node its.0
  of_it = reading node capacity history its.0 legal real its.1

  pub none_known_zero : IsFalse (has_id zero_id (known history))
  none_known_zero = subst (λ (commits : List Commit). IsFalse (has_id zero_id commits)) at_known (none_zero (known_in its.0) of_it.real)

  module _ (a : Attempt) where
    pub once : HasEachKeyOnce (reads a (part history))
    once = subst (λ (p : List NodeEntry). HasEachKeyOnce (reads a p)) at_part (of_it.once a)

    module _ (there : There (attempt_state a (part history))) where
      there_in : There (attempt_state a its.0.part)
      there_in = subst (λ (p : List NodeEntry). There (attempt_state a p)) (sym at_part) there

      written : Written (reads a (part history)) (known history)
      written = subst (λ (p : List NodeEntry). Written (reads a p) (known history)) at_part (subst (Written (reads a its.0.part)) at_known (of_it.written a there_in))

      pub atomic : Atomic (reads a (part history)) (known history)
      atomic = subst (λ (p : List NodeEntry). Atomic (reads a p) (known history)) at_part (subst (Atomic (reads a its.0.part)) at_known (of_it.atomic a there_in))

      module _ (key : List ℕ) (id : TxnId) where
        pub read_written : IsTrue (is_read (record { key = key; id = id }) (reads a (part history))) → IsFalse (same_id id zero_id) → IsTrue (wrote_at key id (known history))
        read_written read other =
            elim (written (record { key = key; id = id }) (pair_read key id (reads a (part history)) read)) [
              | inl zero ↦ absurd (true≢false (sym (subst (λ (i : TxnId). IsTrue (same_id id i)) zero (same_id-refl id)) ∙ other))
              | inr wrote_it ↦ wrote_it
            ]

        pub version_kept : (other : TxnId) → choice key (reads a (part history)) (known history) ≡ Version id → read_at key (reads a (part history)) ≡ Some other → other ≡ id
        version_kept other = keeps_version key (reads a (part history)) (known history) atomic written once id other

        pub absent_kept : choice key (reads a (part history)) (known history) ≡ Absent → read_at key (reads a (part history)) ≡ Some id → id ≡ zero_id
        absent_kept = keeps_absent key (reads a (part history)) (known history) atomic written once id

        pub gets_again : read_at key (reads a (part history)) ≡ Some id → IsFalse (same_id id zero_id) → choice key (reads a (part history)) (known history) ≡ Version id
        gets_again at other =
            let among = in_read_at key id (reads a (part history)) at in
            elim (written (record { key = key; id = id }) among) [
              | inl zero ↦ absurd (true≢false (sym (subst (λ (i : TxnId). IsTrue (same_id id i)) zero (same_id-refl id)) ∙ other))
              | inr wrote_it ↦ repeats key id (reads a (part history)) (known history) atomic among wrote_it absent
            ]
          where
            absent : IsFalse (is_read (record { key = key; id = zero_id }) (reads a (part history)))
            absent = elim (cases_Bool (is_read (record { key = key; id = zero_id }) (reads a (part history)))) [
              | inr unread ↦ unread
              | inl read ↦ (let first = read_at_in (record { key = key; id = zero_id }) (reads a (part history)) once (pair_read key zero_id (reads a (part history)) read) in
                  let both : Some zero_id ≡ Some id = sym first ∙ at in
                  let same : id ≡ zero_id = cc in
                  absurd (true≢false (sym (subst (λ (i : TxnId). IsTrue (same_id id i)) same (same_id-refl id)) ∙ other)))
            ]
