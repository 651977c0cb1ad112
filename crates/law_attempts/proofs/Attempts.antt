-- The attempts of a legal history, and how they go on.
use Rattle.std.proofs.Common.{◌≡◌, ℕ, ◌≤◌, List, [], ◌∷◌, ◌++◌, length, refl, sym, ap, subst, ◌∙◌, inl}
use Rattle.std.specs.Prelude.{IsTrue, IsFalse, Some, is_some, nat_le, nat_lt, suc}
use Rattle.std.specs.List.{list_any}
use Rattle.std.proofs.lemmas.Bool.{false_from_ne_true, false≢true, le-leb, true≢false}
use Rattle.aft_records.specs.declared.stored.Commit.{Commit}
use Rattle.aft_model.specs.declared.caller.Attempt.{Attempt}
use Rattle.aft_model.specs.declared.node.NodeAct.{NodeAct}
use Rattle.aft_model.specs.declared.node.NodeAct.TheVariants.{Admit}
use Rattle.aft_model.specs.declared.node.NodeEntry.{NodeEntry}
use Rattle.aft_model.specs.Attempts.{AttemptState, IsCommitting, IsGone, IsInDoubt, IsLeaving, IsOpening, IsRunning, admitted_by, attempt_state, attempts, buffer, fixed_commit, is_gone, is_of, is_opening, is_running, open_reads, rows, same_attempt, uuid_of, written_keys}
use Rattle.aft_model.specs.LegalNode.{LegalNode, may_follow_at, may_serve}
use Rattle.aft_model.specs.NodeState.{IsServing, Service, extended, newest, node_state, part, serves}
use Rattle.aft_model.proofs.Histories.{In, any_found, any_from, each_after_snoc, in_front}
use Rattle.aft_model.proofs.Incarnations.{part-at}
use Rattle.aft_model.proofs.Pins.{There, attempt_state-snoc, attempts-snoc, same_attempts}
use Rattle.aft_model.proofs.Services.{kept_within, moved_by, served_on, serving}
use Rattle.law_attempts.specs.Acts.{first_attempts, times_begun, times_started}
use Rattle.law_attempts.specs.Rows.{rows_after}
use Rattle.law_attempts.proofs.Acts.{buffer-snoc, uuid-snoc}
use Rattle.law_attempts.proofs.Buffers.{buffer_kept}
use Rattle.law_attempts.proofs.Lives.{Fixed, Lives, lives}
use Rattle.law_attempts.proofs.RowsFollow.{rows_follow}
use Rattle.law_attempts.proofs.Standing.{Standing, admitted_next, not_again, same_itself, uuid_kept}
use Rattle.law_attempts.proofs.States.{Becomes, Counted, at_most_once, becomes_after, becomes_itself, goes, never_opens, never_runs, stays_fixed}

-- an attempt that was admitted
abbrev pub IsAdmitted : Attempt → List NodeEntry → Type 0
IsAdmitted a part = IsTrue (list_any (same_attempt a) (attempts part))

pub admitted_in : (a : Attempt) (part : List NodeEntry) → IsAdmitted a part → In a (attempts part)
admitted_in a part admitted =
    let found = any_found (same_attempt a) (attempts part) admitted in
    subst (λ (x : Attempt). In x (attempts part)) (sym (same_attempts a found.0 found.2)) found.1

pub in_admitted : (a : Attempt) (part : List NodeEntry) → In a (attempts part) → IsAdmitted a part
in_admitted a part among = any_from (same_attempt a) a (attempts part) among (same_itself a)

-- ---- one history

module _ (node capacity inc : ℕ) (history : List NodeEntry) (legal : LegalNode node capacity history) (serve : IsTrue (serves inc (node_state history))) where
  its : (s : Service) × (node_state history ≡ IsServing s) × (s.inc ≡ inc)
  its = serving inc (node_state history) serve

  at_part : its.0.part ≡ part history
  at_part = sym (part-at history its.0 its.1)

  of_it : Lives node its.0
  of_it = lives node capacity history its.0 legal its.1

  pub numbered : attempts (part history) ≡ first_attempts node inc (length (attempts (part history)))
  numbered =
      subst (λ (p : List NodeEntry). attempts p ≡ first_attempts node inc (length (attempts p))) at_part
      (subst (λ (i : ℕ). attempts its.0.part ≡ first_attempts node i (length (attempts its.0.part))) its.2 of_it.stands.numbered)

  pub there_admitted : (a : Attempt) → There (attempt_state a (part history)) → IsAdmitted a (part history)
  there_admitted a = subst (λ (p : List NodeEntry). There (attempt_state a p) → IsAdmitted a p) at_part (λ there. in_admitted a its.0.part (of_it.stands.listed a there))

  pub named : (a : Attempt) (uuid : List ℕ) → IsTrue (is_of uuid (part history) a) → uuid_of a (part history) ≡ uuid
  named a uuid = subst (λ (p : List NodeEntry). IsTrue (is_of uuid p a) → uuid_of a p ≡ uuid) at_part (of_it.stands.named a uuid)

  pub has_name : (a : Attempt) → IsAdmitted a (part history) → IsTrue (is_of (uuid_of a (part history)) (part history) a)
  has_name a = subst (λ (p : List NodeEntry). IsAdmitted a p → IsTrue (is_of (uuid_of a p) p a)) at_part (λ admitted. of_it.stands.has_name a (admitted_in a its.0.part admitted))

  pub alone : (a b : Attempt) → There (attempt_state a (part history)) → There (attempt_state b (part history)) → uuid_of a (part history) ≡ uuid_of b (part history) → a ≡ b
  alone a b = subst (λ (p : List NodeEntry). There (attempt_state a p) → There (attempt_state b p) → uuid_of a p ≡ uuid_of b p → a ≡ b) at_part (of_it.stands.alone a b)

  counted : (a : Attempt) → Counted (attempt_state a (part history)) (times_begun a (part history)) (times_started a (part history))
  counted a = subst (λ (p : List NodeEntry). Counted (attempt_state a p) (times_begun a p) (times_started a p)) at_part (of_it.counts a)

  pub begun_once : (a : Attempt) → IsTrue (nat_le (times_begun a (part history)) 1)
  begun_once a = le-leb (times_begun a (part history)) 1 (at_most_once (attempt_state a (part history)) (times_begun a (part history)) (times_started a (part history)) (counted a)).0

  pub started_once : (a : Attempt) → IsTrue (nat_le (times_started a (part history)) 1)
  started_once a = le-leb (times_started a (part history)) 1 (at_most_once (attempt_state a (part history)) (times_begun a (part history)) (times_started a (part history)) (counted a)).1

  pub has_begun : (a : Attempt) → There (attempt_state a (part history)) → IsFalse (is_opening (attempt_state a (part history))) → times_begun a (part history) ≡ 1
  has_begun a = cases (attempt_state a (part history)) (counted a)
    where
      cases : (state : AttemptState) → Counted state (times_begun a (part history)) (times_started a (part history)) → There state → IsFalse (is_opening state) → times_begun a (part history) ≡ 1
      cases IsGone counts there past = absurd (true≢false there)
      cases IsOpening counts there past = absurd (true≢false past)
      cases IsRunning counts there past = counts.0
      cases (IsCommitting c) counts there past = counts.0
      cases (IsInDoubt c) counts there past = counts.0
      cases IsLeaving counts there past = counts.0

  pub has_started : (a : Attempt) → IsTrue (is_some (fixed_commit (attempt_state a (part history)))) → times_started a (part history) ≡ 1
  has_started a = cases (attempt_state a (part history)) (counted a)
    where
      cases : (state : AttemptState) → Counted state (times_begun a (part history)) (times_started a (part history)) → IsTrue (is_some (fixed_commit state)) → times_started a (part history) ≡ 1
      cases IsGone counts fixed = absurd (false≢true fixed)
      cases IsOpening counts fixed = absurd (false≢true fixed)
      cases IsRunning counts fixed = absurd (false≢true fixed)
      cases (IsCommitting c) counts fixed = counts.1
      cases (IsInDoubt c) counts fixed = counts.1
      cases IsLeaving counts fixed = absurd (false≢true fixed)

  pub fetching_runs : (a : Attempt) → IsTrue (nat_lt 0 (open_reads a (part history))) → IsTrue (is_running (attempt_state a (part history)))
  fetching_runs a = subst (λ (p : List NodeEntry). IsTrue (nat_lt 0 (open_reads a p)) → IsTrue (is_running (attempt_state a p))) at_part (λ some. ap is_running (of_it.runs a some))

  pub few_keys : (a : Attempt) → IsTrue (nat_le (length (buffer a (part history))) 32)
  few_keys a = le-leb (length (buffer a (part history))) 32 (subst (λ (p : List NodeEntry). length (buffer a p) ≤ 32) at_part (of_it.few a))

  fixed_of : (a : Attempt) (c : Commit) → fixed_commit (attempt_state a (part history)) ≡ Some c → Fixed c a (part history)
  fixed_of a c = subst (λ (p : List NodeEntry). fixed_commit (attempt_state a p) ≡ Some c → Fixed c a p) at_part (of_it.fixes a c)

  pub fixed_keys : (a : Attempt) (c : Commit) → fixed_commit (attempt_state a (part history)) ≡ Some c → c.keys ≡ written_keys (buffer a (part history))
  fixed_keys a c fixed = (fixed_of a c fixed).keys

  pub fixed_uuid : (a : Attempt) (c : Commit) → fixed_commit (attempt_state a (part history)) ≡ Some c → c.id.uuid ≡ uuid_of a (part history)
  fixed_uuid a c fixed = (fixed_of a c fixed).uuid

-- ---- one entry more

module _ (node capacity inc : ℕ) (history : List NodeEntry) (entry : NodeEntry) (legal : LegalNode node capacity (history ++ entry ∷ []))
    (serve : IsTrue (serves inc (node_state history))) (still : IsTrue (serves inc (node_state (history ++ entry ∷ [])))) where
  -- the entry is one of the service, and joins its part
  pub in_part : (s : Service) × LegalNode node capacity history × (node_state history ≡ IsServing s) × (s.inc ≡ inc) × IsTrue (may_serve node capacity entry.act entry.answer s) × (node_state (history ++ entry ∷ []) ≡ IsServing (extended s entry))
  in_part =
      let at = serving inc (node_state history) serve in
      let ends = serving inc (node_state (history ++ entry ∷ [])) still in
      let split = each_after_snoc (may_follow_at node capacity) [] history entry legal in
      let on = served_on node capacity (newest history) (node_state history) entry entry.act entry.answer (node_state (history ++ entry ∷ [])) at.0 ends.0 (moved_by node capacity history entry split.1) at.1 ends.1 in
      (at.0, split.0, at.1, at.2, on.0, on.1)

  pub part_more : part (history ++ entry ∷ []) ≡ part history ++ entry ∷ []
  part_more = part-at (history ++ entry ∷ []) (extended in_part.0 entry) in_part.5 ∙ ap (λ (p : List NodeEntry). p ++ entry ∷ []) (sym (part-at history in_part.0 in_part.2))

  pub rows_more : rows (part (history ++ entry ∷ [])) ≡ rows_after entry.act (rows (part history))
  rows_more =
      let of = lives node capacity history in_part.0 in_part.1 in_part.2 in
      ap rows (part-at (history ++ entry ∷ []) (extended in_part.0 entry) in_part.5)
      ∙ (rows_follow node capacity in_part.0 entry in_part.4 of.stands of.runs ∙ ap (λ (p : List NodeEntry). rows_after entry.act (rows p)) (sym (part-at history in_part.0 in_part.2)))

  pub attempts_more : attempts (part (history ++ entry ∷ [])) ≡ attempts (part history) ++ admitted_by entry.act
  attempts_more = ap attempts part_more ∙ attempts-snoc (part history) entry

  pub next_number : (a : Attempt) (uuid : List ℕ) → entry.act ≡ Admit a uuid → a ≡ record { node = node; inc = inc; number = suc (length (attempts (part history))) }
  next_number a uuid is =
      let next = (admitted_next node capacity in_part.0 entry.act entry.answer a in_part.4 (subst (λ (act : NodeAct). In a (admitted_by act)) (sym is) (inl refl))).0 in
      next ∙ (ap (λ (i : ℕ). numbered_as i (suc (length (attempts in_part.0.part)))) in_part.3 ∙ ap (λ (p : List NodeEntry). numbered_as inc (suc (length (attempts p)))) (sym (part-at history in_part.0 in_part.2)))
    where
      numbered_as : ℕ → ℕ → Attempt
      numbered_as i number = record { node = node; inc = i; number = number }

  pub not_admitted_before : (a : Attempt) (uuid : List ℕ) → entry.act ≡ Admit a uuid → IsFalse (list_any (same_attempt a) (attempts (part history)))
  not_admitted_before a uuid is =
      false_from_ne_true (list_any (same_attempt a) (attempts (part history))) (λ admitted.
      not_again node capacity in_part.0 entry in_part.4 (lives node capacity history in_part.0 in_part.1 in_part.2).stands a
      (subst (λ (p : List NodeEntry). In a (attempts p)) (part-at history in_part.0 in_part.2) (admitted_in a (part history) admitted))
      (subst (λ (act : NodeAct). In a (admitted_by act)) (sym is) (inl refl)))

-- ---- many entries more

-- how an attempt that was admitted goes on from one part to a later one
record GoesOn (a : Attempt) (part after : List NodeEntry) : Type 0 where
  pub admitted : In a (attempts after)
  pub state : Becomes (attempt_state a part) (attempt_state a after)
  pub uuid : uuid_of a after ≡ uuid_of a part
  pub writes : IsFalse (is_opening (attempt_state a part)) → IsFalse (is_running (attempt_state a part)) → buffer a after ≡ buffer a part

goes_on_itself : (a : Attempt) (part : List NodeEntry) → In a (attempts part) → GoesOn a part part
goes_on_itself a part among = record { admitted = among; state = becomes_itself (attempt_state a part); uuid = refl; writes = λ opens runs. refl }

goes_on_extended : (node capacity : ℕ) (a : Attempt) (part : List NodeEntry) (s : Service) (entry : NodeEntry) → IsTrue (may_serve node capacity entry.act entry.answer s) → Standing node s → GoesOn a part s.part → GoesOn a part (s.part ++ entry ∷ [])
goes_on_extended node capacity a part s entry rule stands goes_on =
    let out = not_again node capacity s entry rule stands a goes_on.admitted in record {
      admitted = subst (In a) (sym (attempts-snoc s.part entry)) (in_front a (attempts s.part) (admitted_by entry.act) goes_on.admitted);
      state = subst (Becomes (attempt_state a part)) (sym (attempt_state-snoc a s.part entry)) (becomes_after (attempt_state a part) a entry.act (attempt_state a s.part) _ (goes node capacity s a entry.act entry.answer rule) out goes_on.state);
      uuid = uuid-snoc a s.part entry ∙ (uuid_kept a (uuid_of a s.part) entry.act out ∙ goes_on.uuid);
      writes = λ opens runs. buffer-snoc a s.part entry ∙ (buffer_kept node capacity s a entry.act entry.answer rule (never_runs (attempt_state a part) (attempt_state a s.part) goes_on.state opens runs) ∙ goes_on.writes opens runs);
    }

module _ (node capacity inc : ℕ) (a : Attempt) (history more : List NodeEntry) (legal : LegalNode node capacity (history ++ more))
    (serve : IsTrue (serves inc (node_state history))) (still : IsTrue (serves inc (node_state (history ++ more)))) (admitted : IsAdmitted a (part history)) where
  on : GoesOn a (part history) (part (history ++ more))
  on =
      let at = serving inc (node_state history) serve in
      let began : GoesOn a (part history) at.0.part = subst (GoesOn a (part history)) (part-at history at.0 at.1) (goes_on_itself a (part history) (admitted_in a (part history) admitted)) in
      let kept = kept_within node capacity inc (λ (s : Service). GoesOn a (part history) s.part)
      (λ h s entry sofar is rule holds. goes_on_extended node capacity a (part history) s entry rule (lives node capacity h s sofar is).stands holds)
      history more at.0 legal at.1 at.2 began still in
      subst (GoesOn a (part history)) (sym (part-at (history ++ more) kept.0 kept.1)) kept.2

  pub gone_for_good : IsTrue (is_gone (attempt_state a (part history))) → IsTrue (is_gone (attempt_state a (part (history ++ more))))
  gone_for_good = cases (attempt_state a (part history)) on.state
    where
      cases : (from : AttemptState) → Becomes from (attempt_state a (part (history ++ more))) → IsTrue (is_gone from) → IsTrue (is_gone (attempt_state a (part (history ++ more))))
      cases IsGone became gone = ap is_gone became
      cases from became gone = absurd (false≢true gone)

  pub opens_once : IsFalse (is_opening (attempt_state a (part history))) → IsFalse (is_opening (attempt_state a (part (history ++ more))))
  opens_once = never_opens (attempt_state a (part history)) (attempt_state a (part (history ++ more))) on.state

  pub runs_once : IsFalse (is_opening (attempt_state a (part history))) → IsFalse (is_running (attempt_state a (part history))) → IsFalse (is_running (attempt_state a (part (history ++ more))))
  runs_once = never_runs (attempt_state a (part history)) (attempt_state a (part (history ++ more))) on.state

  pub fixed_for_good : (c : Commit) → fixed_commit (attempt_state a (part history)) ≡ Some c → IsFalse (is_gone (attempt_state a (part (history ++ more)))) → fixed_commit (attempt_state a (part (history ++ more))) ≡ Some c
  fixed_for_good c = stays_fixed (attempt_state a (part history)) (attempt_state a (part (history ++ more))) c on.state

  pub still_admitted : IsAdmitted a (part (history ++ more))
  still_admitted = in_admitted a (part (history ++ more)) on.admitted

  pub same_uuid : uuid_of a (part (history ++ more)) ≡ uuid_of a (part history)
  same_uuid = on.uuid

  pub same_buffer : IsFalse (is_opening (attempt_state a (part history))) → IsFalse (is_running (attempt_state a (part history))) → buffer a (part (history ++ more)) ≡ buffer a (part history)
  same_buffer = on.writes
