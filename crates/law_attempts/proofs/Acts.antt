-- What an act leaves of an attempt that it isn't one of.
use Rattle.std.proofs.Common.{◌≡◌, ℕ, Bool, true, false, ◌&&◌, List, [], ◌∷◌, ◌++◌, refl, sym, subst, ◌⊎◌, inl, inr}
use Rattle.std.specs.Prelude.{IsTrue, IsFalse, Option, Some, if◌then◌else◌, nat_lt, suc, ◌-◌}
use Rattle.std.proofs.lemmas.Bool.{and_parts, true≢false, false≢true}
use Rattle.std.proofs.lemmas.List.Sums.{fold-append}
use Rattle.aft_records.specs.declared.stored.Commit.{Commit}
use Rattle.aft_model.specs.declared.caller.Attempt.{Attempt}
use Rattle.aft_model.specs.declared.choice.Picked.TheVariants as picked
use Rattle.aft_model.specs.declared.node.NodeAct.{NodeAct}
use Rattle.aft_model.specs.declared.node.NodeAct.TheVariants.{Admit, Begin, Doubt, End, Leave, Lost, Put, Select, Settle, Start, Stored, Unadmit, Value}
use Rattle.aft_model.specs.declared.node.NodeEntry.{NodeEntry}
use Rattle.aft_model.specs.declared.read_set.ReadPair.{ReadPair}
use Rattle.aft_model.specs.declared.reply.Reply.{Reply}
use Rattle.aft_model.specs.declared.reply.Reply.TheVariants as replies
use Rattle.aft_model.specs.Attempts.{AttemptState, IsCommitting, IsGone, IsLeaving, IsOpening, IsRunning, Write, admitted_by, attempt_after, attempt_state, buffer, buffer_after, doubted, is_committing, is_in_doubt, is_opening, is_running, open_after, open_reads, reads_after, same_attempt, tried_again, uuid_after, uuid_of, with_write}
use Rattle.aft_model.specs.LegalNode.{may_serve}
use Rattle.aft_model.specs.NodeRules.{is_end, is_storing, may_leave, may_put_key, may_start, pick, same_picked}
use Rattle.aft_model.specs.NodeState.{Service}
use Rattle.aft_model.proofs.Histories.{In}
use Rattle.aft_model.proofs.Pins.{There, committing_there, doubt_there, opening_there, running_there, same_attempts, start_runs}
use Rattle.law_attempts.specs.Acts.{acts_on, begins, starts, times_begun, times_started}

-- ---- folds with one entry more

pub buffer-snoc : (a : Attempt) (part : List NodeEntry) (entry : NodeEntry) → buffer a (part ++ entry ∷ []) ≡ buffer_after a (buffer a part) entry.act
buffer-snoc a part entry = fold-append (λ (before : List Write) (e : NodeEntry). buffer_after a before e.act) [] part (entry ∷ [])

pub uuid-snoc : (a : Attempt) (part : List NodeEntry) (entry : NodeEntry) → uuid_of a (part ++ entry ∷ []) ≡ uuid_after a (uuid_of a part) entry.act
uuid-snoc a part entry = fold-append (λ (before : List ℕ) (e : NodeEntry). uuid_after a before e.act) [] part (entry ∷ [])

pub open-snoc : (a : Attempt) (part : List NodeEntry) (entry : NodeEntry) → open_reads a (part ++ entry ∷ []) ≡ open_after a (open_reads a part) entry.act
open-snoc a part entry = fold-append (λ (before : ℕ) (e : NodeEntry). open_after a before e.act) 0 part (entry ∷ [])

pub begun-snoc : (a : Attempt) (part : List NodeEntry) (entry : NodeEntry) → times_begun a (part ++ entry ∷ []) ≡ (if begins a entry.act then suc (times_begun a part) else times_begun a part)
begun-snoc a part entry = fold-append (λ (count : ℕ) (e : NodeEntry). if begins a e.act then suc count else count) 0 part (entry ∷ [])

pub started-snoc : (a : Attempt) (part : List NodeEntry) (entry : NodeEntry) → times_started a (part ++ entry ∷ []) ≡ (if starts a entry.act then suc (times_started a part) else times_started a part)
started-snoc a part entry = fold-append (λ (count : ℕ) (e : NodeEntry). if starts a e.act then suc count else count) 0 part (entry ∷ [])

-- ---- what an act of another attempt leaves

skip : {A : Type 0} (t : Bool) (x y : A) → IsFalse t → (if t then x else y) ≡ y
skip true x y other = absurd (true≢false other)
skip false x y other = refl

pub state_left : (a : Attempt) (before : AttemptState) (act : NodeAct) → IsFalse (acts_on a act) → attempt_after a before act ≡ before
state_left a before (Admit b uuid) other = skip (same_attempt a b) IsOpening before other
state_left a before (Begin b) other = skip (same_attempt a b) IsRunning before other
state_left a before (Unadmit b) other = skip (same_attempt a b) IsGone before other
state_left a before (Start b now c) other = skip (same_attempt a b) (IsCommitting c) before other
state_left a before (Settle b) other = skip (same_attempt a b) (tried_again before) before other
state_left a before (Leave b) other = skip (same_attempt a b) IsLeaving before other
state_left a before (Doubt b) other = skip (same_attempt a b) (doubted before) before other
state_left a before (End b) other = skip (same_attempt a b) IsGone before other
state_left a before act other = refl

pub uuid_left : (a : Attempt) (before : List ℕ) (act : NodeAct) → IsFalse (acts_on a act) → uuid_after a before act ≡ before
uuid_left a before (Admit b uuid) other = skip (same_attempt a b) uuid before other
uuid_left a before act other = refl

pub buffer_left : (a : Attempt) (before : List Write) (act : NodeAct) → IsFalse (acts_on a act) → buffer_after a before act ≡ before
buffer_left a before (Put b key value) other = skip (same_attempt a b) (with_write (record { key = key; value = value }) before) before other
buffer_left a before act other = refl

pub reads_left : (a : Attempt) (before : List ReadPair) (act : NodeAct) → IsFalse (acts_on a act) → reads_after a before act ≡ before
reads_left a before (Select b key pick) other = skip (same_attempt a b) _ before other
reads_left a before act other = refl

pub open_left : (a : Attempt) (before : ℕ) (act : NodeAct) → IsFalse (acts_on a act) → open_after a before act ≡ before
open_left a before (Select b key (picked.Fetch id)) other = skip (same_attempt a b) (suc before) before other
open_left a before (Value b key id place kept) other = skip (same_attempt a b) (before - 1) before other
open_left a before (Lost b key id) other = skip (same_attempt a b) (before - 1) before other
open_left a before act other = refl

pub begun_left : (a : Attempt) (act : NodeAct) → IsFalse (acts_on a act) → IsFalse (begins a act)
begun_left a (Begin b) other = other
begun_left a act other = refl

pub started_left : (a : Attempt) (act : NodeAct) → IsFalse (acts_on a act) → IsFalse (starts a act)
started_left a (Start b now c) other = other
started_left a act other = refl

-- ---- whom an act is of

gone_end : (answer : Option Reply) → IsTrue (is_end IsGone answer) → ⊥
gone_end (Some replies.Ended) rule = false≢true rule
gone_end (Some replies.Aborted) rule = false≢true rule
gone_end answer rule = false≢true rule

pub end_there : (state : AttemptState) (answer : Option Reply) → IsTrue (is_end state answer) → There state
end_there IsGone answer rule = absurd (gone_end answer rule)
end_there state answer rule = refl

running_end : (answer : Option Reply) → IsTrue (is_end IsRunning answer) → ⊥
running_end (Some replies.Ended) rule = false≢true rule
running_end (Some replies.Aborted) rule = false≢true rule
running_end answer rule = false≢true rule

-- an attempt that ends doesn't run
pub end_idle : (state : AttemptState) (answer : Option Reply) → IsTrue (is_end state answer) → IsFalse (is_running state)
end_idle IsRunning answer rule = absurd (running_end answer rule)
end_idle state answer rule = refl

pub storing_there : (c : Commit) (state : AttemptState) → IsTrue (is_storing c state) → There state
storing_there c (IsCommitting fixed) rule = refl
storing_there c state rule = absurd (false≢true rule)

module _ (node capacity : ℕ) (s : Service) (a : Attempt) where
  of_same : (b : Attempt) → IsTrue (same_attempt a b) → There (attempt_state b s.part) → There (attempt_state a s.part)
  of_same b same there = subst (λ (x : Attempt). There (attempt_state x s.part)) (sym (same_attempts a b same)) there

  of_fetch : (b : Attempt) → IsTrue (same_attempt a b) → IsTrue (nat_lt 0 (open_reads b s.part)) → IsTrue (nat_lt 0 (open_reads a s.part))
  of_fetch b same some = subst (λ (x : Attempt). IsTrue (nat_lt 0 (open_reads x s.part))) (sym (same_attempts a b same)) some

  -- an act is one of an attempt that is there, that it admits, or that has a fetch which isn't over
  abbrev pub Acting : NodeAct → Type 0
  Acting act = There (attempt_state a s.part) ⊎ (In a (admitted_by act) ⊎ IsTrue (nat_lt 0 (open_reads a s.part)))

  pub acting : (act : NodeAct) (answer : Option Reply) → IsTrue (may_serve node capacity act answer s) → IsTrue (acts_on a act) → Acting act
  acting (Admit b uuid) answer rule same = inr (inl (inl (same_attempts a b same)))
  acting (Begin b) answer rule same = inl (of_same b same (opening_there (attempt_state b s.part) (and_parts (is_opening (attempt_state b s.part)) _ rule).0))
  acting (Unadmit b) answer rule same = inl (of_same b same (opening_there (attempt_state b s.part) (and_parts (is_opening (attempt_state b s.part)) _ rule).0))
  acting (Put b key value) answer rule same =
      let parts = and_parts (is_running (attempt_state b s.part) && may_put_key s b key) _ rule in
      inl (of_same b same (running_there (attempt_state b s.part) (and_parts (is_running (attempt_state b s.part)) (may_put_key s b key) parts.0).0))
  acting (Select b key p) answer rule same =
      let parts = and_parts (is_running (attempt_state b s.part) && same_picked (pick capacity s b key) p) _ rule in
      inl (of_same b same (running_there (attempt_state b s.part) (and_parts (is_running (attempt_state b s.part)) (same_picked (pick capacity s b key) p) parts.0).0))
  acting (Value b key id place kept) answer rule same = inr (inr (of_fetch b same (and_parts (nat_lt 0 (open_reads b s.part)) _ rule).0))
  acting (Lost b key id) answer rule same = inr (inr (of_fetch b same (and_parts (nat_lt 0 (open_reads b s.part)) _ rule).0))
  acting (Start b now c) answer rule same = inl (of_same b same (running_there (attempt_state b s.part) (start_runs s b now c (and_parts (may_start s b now c) _ rule).0)))
  acting (Settle b) answer rule same = inl (of_same b same (doubt_there (attempt_state b s.part) (and_parts (is_in_doubt (attempt_state b s.part)) _ rule).0))
  acting (Leave b) answer rule same = inl (of_same b same (running_there (attempt_state b s.part) (and_parts (is_running (attempt_state b s.part)) _ (and_parts (may_leave s b) _ rule).0).0))
  acting (Stored b c) answer rule same = inl (of_same b same (storing_there c (attempt_state b s.part) (and_parts (is_storing c (attempt_state b s.part)) _ rule).0))
  acting (Doubt b) answer rule same = inl (of_same b same (committing_there (attempt_state b s.part) (and_parts (is_committing (attempt_state b s.part)) _ rule).0))
  acting (End b) answer rule same = inl (of_same b same (end_there (attempt_state b s.part) answer rule))
  acting act answer rule same = absurd (false≢true same)
