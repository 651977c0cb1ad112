-- The reads of each attempt are atomic beside all that is committed at the door.
use Rattle.std.proofs.Common.{◌≡◌, ℕ, Bool, true, false, ◌&&◌, ◌||◌, not, List, [], ◌∷◌, ◌++◌, refl, sym, ap, subst, ◌∙◌, inl, inr}
use Rattle.std.specs.Prelude.{IsTrue, Option, if◌then◌else◌}
use Rattle.std.specs.List.{flat_map, fold, list_all}
use Rattle.std.proofs.lemmas.Bool.{and_parts, cases_Bool, not-true, or_left, or_right, true≢false}
use Rattle.aft_id.specs.TxnId.{same_id, zero_id}
use Rattle.aft_id.specs.declared.txn_id.TxnId.{TxnId}
use Rattle.aft_records.specs.Superseded.{wrote}
use Rattle.aft_records.specs.declared.stored.Commit.{Commit}
use Rattle.aft_model.specs.declared.caller.Attempt.{Attempt}
use Rattle.aft_model.specs.declared.door.DoorEntry.{DoorEntry}
use Rattle.aft_model.specs.declared.node.NodeAct.{NodeAct}
use Rattle.aft_model.specs.declared.node.NodeAct.TheVariants.{Select}
use Rattle.aft_model.specs.declared.node.NodeEntry.{NodeEntry}
use Rattle.aft_model.specs.declared.read_set.ReadPair.{ReadPair}
use Rattle.aft_model.specs.declared.reply.Reply.{Reply}
use Rattle.aft_model.specs.Attempts.{attempt_after, attempt_state, is_gone, is_running, read_by, reads, reads_after, same_attempt, with_read}
use Rattle.aft_model.specs.AtomicReads.{Atomic, is_atomic, is_read_whole}
use Rattle.aft_model.specs.Committed.{committed}
use Rattle.aft_model.specs.Known.{known_in, known_of}
use Rattle.aft_model.specs.LegalNode.{may_serve}
use Rattle.aft_model.specs.NodeRules.{pick, same_picked}
use Rattle.aft_model.specs.NodeState.{IsServing, NodeState, Service, extended, newest, node_state, part, part_in, service_in}
use Rattle.aft_model.proofs.Choices.{whole_at}
use Rattle.aft_model.proofs.Histories.{In, any_found}
use Rattle.aft_model.proofs.Ids.{same_id-refl, same_ids}
use Rattle.aft_model.proofs.Lists.{all_from}
use Rattle.aft_model.proofs.Pins.{There, attempt_state-snoc, reads-snoc, running_there, same_attempts}
use Rattle.aft_model.proofs.Services.{Begins, Boots, GoesDown, Moved, Serves, Waits, moved_by}
use Rattle.aft_lines.specs.Headline.{all_read_whole, reader_in}
use Rattle.law_kept.specs.Kept.{Lawful}
use Rattle.law_reads.specs.Brings.{is_real}
use Rattle.law_reads.proofs.Gets.{Written}
use Rattle.law_reads.proofs.Reading.{reading}
use Rattle.law_whole.proofs.Throughout.{one_each}
use Rattle.law_boots.specs.Beside.{Beside}
use Rattle.law_boots.proofs.Nodes.{kept, rule}
use Rattle.law_boots.proofs.Real.{each_real, known_committed, real_commit}

-- ---- from the known commits to all

module _ (pairs : List ReadPair) (known all : List Commit) (written : Written pairs known) (atomic : Atomic pairs known)
    (within : (c : Commit) → In c known → In c all) (one : (c d : Commit) → In c all → In d all → c.id ≡ d.id → c ≡ d) (real : (c : Commit) → In c all → IsTrue (is_real c)) where
  whole_of : (p : ReadPair) (c : Commit) → In p pairs → In c all → p.id ≡ c.id → IsTrue (is_read_whole pairs c)
  whole_of p c read among is =
      elim (written p read) [
        | inl zero ↦ absurd (true≢false (sym (subst (λ (i : TxnId). IsTrue (same_id zero_id i)) (sym zero ∙ is) (same_id-refl zero_id)) ∙ not-true (same_id zero_id c.id) (real c among)))
        | inr wrote_it ↦ (let found = any_found (λ (d : Commit). same_id p.id d.id && wrote p.key d) known wrote_it in
            let of : p.id ≡ found.0.id = same_ids p.id found.0.id (and_parts (same_id p.id found.0.id) (wrote p.key found.0) found.2).0 in
            subst (λ (d : Commit). IsTrue (is_read_whole pairs d)) (one found.0 c (within found.0 found.1) among (sym of ∙ is)) (whole_at pairs known atomic p found.0 read found.1 of))
      ]

  atomic_beside : Atomic pairs all
  atomic_beside =
      all_from (λ (p : ReadPair). list_all (λ (c : Commit). not (same_id p.id c.id) || is_read_whole pairs c) all) pairs (λ p read.
      all_from (λ (c : Commit). not (same_id p.id c.id) || is_read_whole pairs c) all (λ c among.
      elim (cases_Bool (same_id p.id c.id)) [
        | inl same ↦ or_right _ _ (whole_of p c read among (same_ids p.id c.id same))
        | inr differs ↦ or_left _ _ (ap not differs)
      ]))

-- ---- an attempt that is gone reads nothing

module _ (node capacity : ℕ) (s : Service) (a : Attempt) where
  idle : (act : NodeAct) (answer : Option Reply) → IsTrue (may_serve node capacity act answer s) → IsTrue (is_gone (attempt_after a (attempt_state a s.part) act)) → reads_after a (reads a s.part) act ≡ reads a s.part
  idle (Select b key p) answer may gone = cases (same_attempt a b) refl
    where
      runs : There (attempt_state b s.part)
      runs = running_there (attempt_state b s.part) (and_parts (is_running (attempt_state b s.part)) (same_picked (pick capacity s b key) p) (and_parts (is_running (attempt_state b s.part) && same_picked (pick capacity s b key) p) _ may).0).0

      cases : (t : Bool) → same_attempt a b ≡ t → (if t then fold (λ (pairs : List ReadPair) (id : TxnId). with_read (record { key = key; id = id }) pairs) (reads a s.part) (read_by p) else reads a s.part) ≡ reads a s.part
      cases true same = absurd (true≢false (sym gone ∙ subst (λ (x : Attempt). There (attempt_state x s.part)) (sym (same_attempts a b same)) runs))
      cases false other = refl
  idle act answer may gone = refl

-- ---- over a history

module _ (node capacity : ℕ) (door : List DoorEntry) (lawful : Lawful door) where
  abbrev AllAtomic : NodeState → Type 0
  AllAtomic state = (a : Attempt) → Atomic (reads a (part_in (service_in state))) (committed door)

  module _ (history : List NodeEntry) (entry : NodeEntry) (beside : Beside node capacity door (history ++ entry ∷ [])) where
    abbrev longer : List NodeEntry
    longer = history ++ entry ∷ []

    -- of a service that goes on
    served : (s : Service) → IsTrue (may_serve node capacity entry.act entry.answer s) → node_state longer ≡ IsServing (extended s entry) → AllAtomic (IsServing s) → AllAtomic (IsServing (extended s entry))
    served s may is was a =
        elim (cases_Bool (is_gone (attempt_state a (s.part ++ entry ∷ [])))) [
          | inl gone ↦ subst (λ (r : List ReadPair). Atomic r (committed door))
              (sym (reads-snoc a s.part entry ∙ idle node capacity s a entry.act entry.answer may (subst (λ st. IsTrue (is_gone st)) (attempt_state-snoc a s.part entry) gone))) (was a)
          | inr there ↦ (let its = reading node capacity longer (extended s entry) beside.legal (each_real node capacity door lawful.made longer beside) is in
              atomic_beside (reads a (s.part ++ entry ∷ [])) (known_in (extended s entry)) (committed door) (its.written a there) (its.atomic a there)
              (λ c knows. known_committed node capacity door longer beside c (subst (λ (state : NodeState). In c (known_of (service_in state))) (sym is) knows))
              (λ c d of_c of_d same. one_each door lawful c d of_c of_d (ap (λ (i : TxnId). i.uuid) same))
              (λ c among. real_commit c door lawful.made among))
        ]

    none_read : (state : NodeState) → part_in (service_in state) ≡ [] → node_state longer ≡ state → AllAtomic (node_state longer)
    none_read state nothing is a = subst (λ (p : List NodeEntry). Atomic (reads a p) (committed door)) (sym (ap (λ (st : NodeState). part_in (service_in st)) is ∙ nothing)) refl

    moves : Moved node capacity (newest history) (node_state history) entry entry.act entry.answer (node_state longer) → AllAtomic (node_state history) → AllAtomic (node_state longer)
    moves (Serves s was may is) holds = subst AllAtomic (sym is) (served s may is (subst AllAtomic was holds))
    moves (GoesDown is) holds = none_read _ refl is
    moves (Begins inc by begins is) holds = none_read _ refl is
    moves (Waits inc running still was is) holds = none_read _ refl is
    moves (Boots inc commits boot is) holds = none_read _ refl is

    next : AllAtomic (node_state history) → AllAtomic (node_state longer)
    next = moves (moved_by node capacity history entry (rule node capacity door history entry beside))

  pub all_atomic : (history : List NodeEntry) → Beside node capacity door history → (a : Attempt) → Atomic (reads a (part history)) (committed door)
  all_atomic history beside = kept node capacity door (λ (h : List NodeEntry). AllAtomic (node_state h)) (λ a. refl) next history beside

  pub read_whole : (history : List NodeEntry) (entry : NodeEntry) → Beside node capacity door (history ++ entry ∷ []) → IsTrue (all_read_whole (committed door) (history ++ entry ∷ []))
  read_whole history entry beside =
      all_from (λ (a : Attempt). is_atomic (reads a (part (history ++ entry ∷ []))) (committed door)) (flat_map (λ (e : NodeEntry). reader_in e.act) (part (history ++ entry ∷ []))) (λ a among.
      all_atomic (history ++ entry ∷ []) beside a)
