-- What becomes of an attempt: it opens, runs, fixes a commit or leaves, and is gone, and never goes back.
use Rattle.std.proofs.Common.{◌≡◌, ℕ, ◌≤◌, Bool, true, false, [], ◌∷◌, ◌++◌, refl, sym, ap, subst, ◌∙◌, ◌⊎◌, inl, inr, arith}
use Rattle.std.specs.Prelude.{IsTrue, IsFalse, Option, Some, if◌then◌else◌, suc}
use Rattle.std.proofs.lemmas.Bool.{and_parts, false≢true, true≢false}
use Rattle.aft_records.specs.declared.stored.Commit.{Commit}
use Rattle.aft_model.specs.declared.caller.Attempt.{Attempt}
use Rattle.aft_model.specs.declared.node.NodeAct.{NodeAct}
use Rattle.aft_model.specs.declared.node.NodeAct.TheVariants.{Admit, Begin, Doubt, End, Leave, Settle, Start, Unadmit}
use Rattle.aft_model.specs.declared.node.NodeEntry.{NodeEntry}
use Rattle.aft_model.specs.declared.reply.Reply.{Reply}
use Rattle.aft_model.specs.Attempts.{AttemptState, IsCommitting, IsGone, IsInDoubt, IsLeaving, IsOpening, IsRunning, admitted_by, attempt_after, attempt_state, doubted, fixed_commit, is_committing, is_gone, is_in_doubt, is_opening, is_running, same_attempt, tried_again}
use Rattle.aft_model.specs.LegalNode.{may_serve}
use Rattle.aft_model.specs.NodeRules.{may_leave, may_start}
use Rattle.aft_model.specs.NodeState.{Service}
use Rattle.aft_model.proofs.Histories.{In}
use Rattle.aft_model.proofs.Pins.{attempt_state-snoc, same_attempts, start_runs}
use Rattle.law_attempts.specs.Acts.{begins, starts, times_begun, times_started}
use Rattle.law_attempts.proofs.Acts.{begun-snoc, end_idle, started-snoc}
use Rattle.law_attempts.proofs.Standing.{Standing, not_again}

-- ---- one entry

opening_is : (state : AttemptState) → IsTrue (is_opening state) → state ≡ IsOpening
opening_is IsOpening is = refl
opening_is state is = absurd (false≢true is)

pub running_is : (state : AttemptState) → IsTrue (is_running state) → state ≡ IsRunning
running_is IsRunning is = refl
running_is state is = absurd (false≢true is)

committing_is : (state : AttemptState) → IsTrue (is_committing state) → (c : Commit) × (state ≡ IsCommitting c)
committing_is (IsCommitting c) is = (c, refl)
committing_is state is = absurd (false≢true is)

doubt_is : (state : AttemptState) → IsTrue (is_in_doubt state) → (c : Commit) × (state ≡ IsInDoubt c)
doubt_is (IsInDoubt c) is = (c, refl)
doubt_is state is = absurd (false≢true is)

-- whether an act begins an attempt and starts it
abbrev Counts : Attempt → NodeAct → Bool → Bool → Type 0
Counts a act begun started = (begins a act ≡ begun) × (starts a act ≡ started)

-- how an act that may come moves an attempt from one state to the next
pub data Goes (a : Attempt) (act : NodeAct) (before after : AttemptState) : Type 0 where
  Stays : after ≡ before → Counts a act false false → Goes a act before after
  Opens : In a (admitted_by act) → after ≡ IsOpening → Counts a act false false → Goes a act before after
  Runs : before ≡ IsOpening → after ≡ IsRunning → Counts a act true false → Goes a act before after
  Withdraws : before ≡ IsOpening → after ≡ IsGone → Counts a act false false → Goes a act before after
  Fixes : (now : ℕ) (c : Commit) → act ≡ Start a now c → before ≡ IsRunning → after ≡ IsCommitting c → Counts a act false true → Goes a act before after
  Settles : (c : Commit) → before ≡ IsInDoubt c → after ≡ IsCommitting c → Counts a act false false → Goes a act before after
  Leaves : act ≡ Leave a → before ≡ IsRunning → after ≡ IsLeaving → Counts a act false false → Goes a act before after
  Doubts : (c : Commit) → before ≡ IsCommitting c → after ≡ IsInDoubt c → Counts a act false false → Goes a act before after
  Ends : IsFalse (is_running before) → after ≡ IsGone → Counts a act false false → Goes a act before after

module _ (node capacity : ℕ) (s : Service) (a : Attempt) where
  abbrev now_is : AttemptState
  now_is = attempt_state a s.part

  at_own : (b : Attempt) → IsTrue (same_attempt a b) → attempt_state b s.part ≡ attempt_state a s.part
  at_own b same = ap (λ (x : Attempt). attempt_state x s.part) (sym (same_attempts a b same))

  pub goes : (act : NodeAct) (answer : Option Reply) → IsTrue (may_serve node capacity act answer s) → Goes a act (attempt_state a s.part) (attempt_after a (attempt_state a s.part) act)
  goes (Admit b uuid) answer rule = cases (same_attempt a b) refl
    where
      cases : (t : Bool) → same_attempt a b ≡ t → Goes a (Admit b uuid) now_is (if t then IsOpening else now_is)
      cases true same = Opens (inl (same_attempts a b same)) refl (refl, refl)
      cases false other = Stays refl (refl, refl)
  goes (Begin b) answer rule = cases (same_attempt a b) refl
    where
      cases : (t : Bool) → same_attempt a b ≡ t → Goes a (Begin b) now_is (if t then IsRunning else now_is)
      cases true same = Runs (sym (at_own b same) ∙ opening_is (attempt_state b s.part) (and_parts (is_opening (attempt_state b s.part)) _ rule).0) refl (same, refl)
      cases false other = Stays refl (other, refl)
  goes (Unadmit b) answer rule = cases (same_attempt a b) refl
    where
      cases : (t : Bool) → same_attempt a b ≡ t → Goes a (Unadmit b) now_is (if t then IsGone else now_is)
      cases true same = Withdraws (sym (at_own b same) ∙ opening_is (attempt_state b s.part) (and_parts (is_opening (attempt_state b s.part)) _ rule).0) refl (refl, refl)
      cases false other = Stays refl (refl, refl)
  goes (Start b now c) answer rule = cases (same_attempt a b) refl
    where
      cases : (t : Bool) → same_attempt a b ≡ t → Goes a (Start b now c) now_is (if t then IsCommitting c else now_is)
      cases true same =
          Fixes now c (ap (λ (x : Attempt). Start x now c) (sym (same_attempts a b same)))
          (sym (at_own b same) ∙ running_is (attempt_state b s.part) (start_runs s b now c (and_parts (may_start s b now c) _ rule).0)) refl (refl, same)
      cases false other = Stays refl (refl, other)
  goes (Settle b) answer rule = cases (same_attempt a b) refl
    where
      cases : (t : Bool) → same_attempt a b ≡ t → Goes a (Settle b) now_is (if t then tried_again now_is else now_is)
      cases true same =
          let doubt = doubt_is (attempt_state b s.part) (and_parts (is_in_doubt (attempt_state b s.part)) _ rule).0 in
          let was : now_is ≡ IsInDoubt doubt.0 = sym (at_own b same) ∙ doubt.1 in
          Settles doubt.0 was (ap tried_again was) (refl, refl)
      cases false other = Stays refl (refl, refl)
  goes (Leave b) answer rule = cases (same_attempt a b) refl
    where
      cases : (t : Bool) → same_attempt a b ≡ t → Goes a (Leave b) now_is (if t then IsLeaving else now_is)
      cases true same = Leaves (ap Leave (sym (same_attempts a b same))) (sym (at_own b same) ∙ running_is (attempt_state b s.part) (and_parts (is_running (attempt_state b s.part)) _ (and_parts (may_leave s b) _ rule).0).0) refl (refl, refl)
      cases false other = Stays refl (refl, refl)
  goes (Doubt b) answer rule = cases (same_attempt a b) refl
    where
      cases : (t : Bool) → same_attempt a b ≡ t → Goes a (Doubt b) now_is (if t then doubted now_is else now_is)
      cases true same =
          let storing = committing_is (attempt_state b s.part) (and_parts (is_committing (attempt_state b s.part)) _ rule).0 in
          let was : now_is ≡ IsCommitting storing.0 = sym (at_own b same) ∙ storing.1 in
          Doubts storing.0 was (ap doubted was) (refl, refl)
      cases false other = Stays refl (refl, refl)
  goes (End b) answer rule = cases (same_attempt a b) refl
    where
      cases : (t : Bool) → same_attempt a b ≡ t → Goes a (End b) now_is (if t then IsGone else now_is)
      cases true same = Ends (subst (λ (x : AttemptState). IsFalse (is_running x)) (at_own b same) (end_idle (attempt_state b s.part) answer rule)) refl (refl, refl)
      cases false other = Stays refl (refl, refl)
  goes act answer rule = Stays refl (refl, refl)

-- ---- how often it begins and starts

-- how often an attempt in a state has begun and started
abbrev pub Counted : AttemptState → ℕ → ℕ → Type 0
Counted IsGone begun started = (begun ≤ 1) × (started ≤ 1)
Counted IsOpening begun started = (begun ≡ 0) × (started ≡ 0)
Counted IsRunning begun started = (begun ≡ 1) × (started ≡ 0)
Counted (IsCommitting c) begun started = (begun ≡ 1) × (started ≡ 1)
Counted (IsInDoubt c) begun started = (begun ≡ 1) × (started ≡ 1)
Counted IsLeaving begun started = (begun ≡ 1) × (started ≡ 0)

pub at_most_once : (state : AttemptState) (begun started : ℕ) → Counted state begun started → (begun ≤ 1) × (started ≤ 1)
at_most_once IsGone begun started counted = counted
at_most_once IsOpening begun started (b, t) = (omega arith, omega arith)
at_most_once IsRunning begun started (b, t) = (omega arith, omega arith)
at_most_once (IsCommitting c) begun started (b, t) = (omega arith, omega arith)
at_most_once (IsInDoubt c) begun started (b, t) = (omega arith, omega arith)
at_most_once IsLeaving begun started (b, t) = (omega arith, omega arith)

abbrev more_if : Bool → ℕ → ℕ
more_if t count = if t then suc count else count

counted_after : (a : Attempt) (act : NodeAct) (before after : AttemptState) (begun started : ℕ) → Goes a act before after → (In a (admitted_by act) → (begun ≡ 0) × (started ≡ 0)) → Counted before begun started
    → Counted after (more_if (begins a act) begun) (more_if (starts a act) started)
counted_after a act before after begun started how unused counted =
    subst (λ (t : Bool). Counted after (more_if t begun) (more_if (starts a act) started)) (sym (tests how).0)
    (subst (λ (t : Bool). Counted after (more_if (begun_by how) begun) (more_if t started)) (sym (tests how).1)
    (subst (λ (x : AttemptState). Counted x (more_if (begun_by how) begun) (more_if (started_by how) started)) (sym (after_is how)) (cases how)))
  where
    begun_by : Goes a act before after → Bool
    begun_by (Runs was is counts) = true
    begun_by how = false

    started_by : Goes a act before after → Bool
    started_by (Fixes now c by was is counts) = true
    started_by how = false

    tests : (how : Goes a act before after) → Counts a act (begun_by how) (started_by how)
    tests (Stays is counts) = counts
    tests (Opens new is counts) = counts
    tests (Runs was is counts) = counts
    tests (Withdraws was is counts) = counts
    tests (Fixes now c by was is counts) = counts
    tests (Settles c was is counts) = counts
    tests (Leaves by was is counts) = counts
    tests (Doubts c was is counts) = counts
    tests (Ends idle is counts) = counts

    next : Goes a act before after → AttemptState
    next (Stays is counts) = before
    next (Opens new is counts) = IsOpening
    next (Runs was is counts) = IsRunning
    next (Withdraws was is counts) = IsGone
    next (Fixes now c by was is counts) = IsCommitting c
    next (Settles c was is counts) = IsCommitting c
    next (Leaves by was is counts) = IsLeaving
    next (Doubts c was is counts) = IsInDoubt c
    next (Ends idle is counts) = IsGone

    after_is : (how : Goes a act before after) → after ≡ next how
    after_is (Stays is counts) = is
    after_is (Opens new is counts) = is
    after_is (Runs was is counts) = is
    after_is (Withdraws was is counts) = is
    after_is (Fixes now c by was is counts) = is
    after_is (Settles c was is counts) = is
    after_is (Leaves by was is counts) = is
    after_is (Doubts c was is counts) = is
    after_is (Ends idle is counts) = is

    at : (state : AttemptState) → before ≡ state → Counted state begun started
    at state was = subst (λ (x : AttemptState). Counted x begun started) was counted

    cases : (how : Goes a act before after) → Counted (next how) (more_if (begun_by how) begun) (more_if (started_by how) started)
    cases (Stays is counts) = counted
    cases (Opens new is counts) = unused new
    cases (Runs was is counts) = (let c = at IsOpening was in (ap suc c.0, c.1))
    cases (Withdraws was is counts) = at_most_once IsOpening begun started (at IsOpening was)
    cases (Fixes now c by was is counts) = (let d = at IsRunning was in (d.0, ap suc d.1))
    cases (Settles c was is counts) = at (IsInDoubt c) was
    cases (Leaves by was is counts) = at IsRunning was
    cases (Doubts c was is counts) = at (IsCommitting c) was
    cases (Ends idle is counts) = at_most_once before begun started counted

pub counts_extended : (node capacity : ℕ) (s : Service) (entry : NodeEntry) → IsTrue (may_serve node capacity entry.act entry.answer s) → Standing node s
    → ((a : Attempt) → Counted (attempt_state a s.part) (times_begun a s.part) (times_started a s.part))
    → (a : Attempt) → Counted (attempt_state a (s.part ++ entry ∷ [])) (times_begun a (s.part ++ entry ∷ [])) (times_started a (s.part ++ entry ∷ []))
counts_extended node capacity s entry rule stands counts a =
    subst (λ (x : AttemptState). Counted x (times_begun a (s.part ++ entry ∷ [])) (times_started a (s.part ++ entry ∷ []))) (sym (attempt_state-snoc a s.part entry))
    (subst (λ (n : ℕ). Counted (attempt_after a (attempt_state a s.part) entry.act) n (times_started a (s.part ++ entry ∷ []))) (sym (begun-snoc a s.part entry))
    (subst (λ (n : ℕ). Counted (attempt_after a (attempt_state a s.part) entry.act) (more_if (begins a entry.act) (times_begun a s.part)) n) (sym (started-snoc a s.part entry))
    (counted_after a entry.act (attempt_state a s.part) (attempt_after a (attempt_state a s.part) entry.act) (times_begun a s.part) (times_started a s.part)
    (goes node capacity s a entry.act entry.answer rule)
    (λ new. let fresh = stands.fresh a (λ was. not_again node capacity s entry rule stands a was new) in (fresh.unbegun, fresh.unstarted)) (counts a))))

-- ---- what it may become

-- what an attempt in one state may be in later: it is gone for good, it never opens or runs again, and what it has fixed it keeps
abbrev pub Becomes : AttemptState → AttemptState → Type 0
Becomes IsGone after = after ≡ IsGone
Becomes IsOpening after = Unit {0}
Becomes IsRunning after = IsFalse (is_opening after)
Becomes (IsCommitting c) after = (after ≡ IsGone) ⊎ ((after ≡ IsCommitting c) ⊎ (after ≡ IsInDoubt c))
Becomes (IsInDoubt c) after = (after ≡ IsGone) ⊎ ((after ≡ IsCommitting c) ⊎ (after ≡ IsInDoubt c))
Becomes IsLeaving after = (after ≡ IsGone) ⊎ (after ≡ IsLeaving)

pub becomes_itself : (state : AttemptState) → Becomes state state
becomes_itself IsGone = refl
becomes_itself IsOpening = tt
becomes_itself IsRunning = refl
becomes_itself (IsCommitting c) = inr (inl refl)
becomes_itself (IsInDoubt c) = inr (inr refl)
becomes_itself IsLeaving = inr refl

from_opening : (from after : AttemptState) → Becomes from IsOpening → Becomes from after
from_opening IsGone after was = absurd cc
from_opening IsOpening after was = tt
from_opening IsRunning after was = absurd (true≢false was)
from_opening (IsCommitting c) after was = absurd (elim was [ inl gone ↦ cc | inr held ↦ elim held [ inl storing ↦ cc | inr doubted ↦ cc ] ])
from_opening (IsInDoubt c) after was = absurd (elim was [ inl gone ↦ cc | inr held ↦ elim held [ inl storing ↦ cc | inr doubted ↦ cc ] ])
from_opening IsLeaving after was = absurd (elim was [ inl gone ↦ cc | inr leaving ↦ cc ])

from_running : (from after : AttemptState) → IsFalse (is_opening after) → Becomes from IsRunning → Becomes from after
from_running IsGone after other was = absurd cc
from_running IsOpening after other was = tt
from_running IsRunning after other was = other
from_running (IsCommitting c) after other was = absurd (elim was [ inl gone ↦ cc | inr held ↦ elim held [ inl storing ↦ cc | inr doubted ↦ cc ] ])
from_running (IsInDoubt c) after other was = absurd (elim was [ inl gone ↦ cc | inr held ↦ elim held [ inl storing ↦ cc | inr doubted ↦ cc ] ])
from_running IsLeaving after other was = absurd (elim was [ inl gone ↦ cc | inr leaving ↦ cc ])

-- it is stored and in doubt by turns
swapped : (d c : Commit) → (IsInDoubt c ≡ IsGone) ⊎ ((IsInDoubt c ≡ IsCommitting d) ⊎ (IsInDoubt c ≡ IsInDoubt d)) → c ≡ d
swapped d c was = elim was [ inl gone ↦ absurd cc | inr held ↦ elim held [ inl storing ↦ absurd cc | inr doubted ↦ cc ] ]

swapped_back : (d c : Commit) → (IsCommitting c ≡ IsGone) ⊎ ((IsCommitting c ≡ IsCommitting d) ⊎ (IsCommitting c ≡ IsInDoubt d)) → c ≡ d
swapped_back d c was = elim was [ inl gone ↦ absurd cc | inr held ↦ elim held [ inl storing ↦ cc | inr doubted ↦ absurd cc ] ]

tried : (from : AttemptState) (c : Commit) → Becomes from (IsInDoubt c) → Becomes from (IsCommitting c)
tried IsGone c was = absurd cc
tried IsOpening c was = tt
tried IsRunning c was = refl
tried (IsCommitting d) c was = inr (inl (ap IsCommitting (swapped d c was)))
tried (IsInDoubt d) c was = inr (inl (ap IsCommitting (swapped d c was)))
tried IsLeaving c was = absurd (elim was [ inl gone ↦ cc | inr leaving ↦ cc ])

doubting : (from : AttemptState) (c : Commit) → Becomes from (IsCommitting c) → Becomes from (IsInDoubt c)
doubting IsGone c was = absurd cc
doubting IsOpening c was = tt
doubting IsRunning c was = refl
doubting (IsCommitting d) c was = inr (inr (ap IsInDoubt (swapped_back d c was)))
doubting (IsInDoubt d) c was = inr (inr (ap IsInDoubt (swapped_back d c was)))
doubting IsLeaving c was = absurd (elim was [ inl gone ↦ cc | inr leaving ↦ cc ])

ended : (from : AttemptState) → Becomes from IsGone
ended IsGone = refl
ended IsOpening = tt
ended IsRunning = refl
ended (IsCommitting c) = inl refl
ended (IsInDoubt c) = inl refl
ended IsLeaving = inl refl

pub becomes_after : (from : AttemptState) (a : Attempt) (act : NodeAct) (before after : AttemptState) → Goes a act before after → (In a (admitted_by act) → ⊥) → Becomes from before → Becomes from after
becomes_after from a act before after how out was = cases how
  where
    at : (state : AttemptState) → before ≡ state → Becomes from state
    at state is = subst (Becomes from) is was

    cases : Goes a act before after → Becomes from after
    cases (Stays is counts) = subst (Becomes from) (sym is) was
    cases (Opens new is counts) = absurd (out new)
    cases (Runs before_is is counts) = from_opening from after (at IsOpening before_is)
    cases (Withdraws before_is is counts) = from_opening from after (at IsOpening before_is)
    cases (Fixes now c by before_is is counts) = from_running from after (ap is_opening is) (at IsRunning before_is)
    cases (Settles c before_is is counts) = subst (Becomes from) (sym is) (tried from c (at (IsInDoubt c) before_is))
    cases (Leaves by before_is is counts) = from_running from after (ap is_opening is) (at IsRunning before_is)
    cases (Doubts c before_is is counts) = subst (Becomes from) (sym is) (doubting from c (at (IsCommitting c) before_is))
    cases (Ends idle is counts) = subst (Becomes from) (sym is) (ended from)

-- ---- what that says

pub never_opens : (from after : AttemptState) → Becomes from after → IsFalse (is_opening from) → IsFalse (is_opening after)
never_opens IsGone after was other = ap is_opening was
never_opens IsOpening after was other = absurd (true≢false other)
never_opens IsRunning after was other = was
never_opens (IsCommitting c) after was other = elim was [ inl gone ↦ ap is_opening gone | inr held ↦ elim held [ inl storing ↦ ap is_opening storing | inr doubted ↦ ap is_opening doubted ] ]
never_opens (IsInDoubt c) after was other = elim was [ inl gone ↦ ap is_opening gone | inr held ↦ elim held [ inl storing ↦ ap is_opening storing | inr doubted ↦ ap is_opening doubted ] ]
never_opens IsLeaving after was other = elim was [ inl gone ↦ ap is_opening gone | inr leaving ↦ ap is_opening leaving ]

pub never_runs : (from after : AttemptState) → Becomes from after → IsFalse (is_opening from) → IsFalse (is_running from) → IsFalse (is_running after)
never_runs IsGone after was opens runs = ap is_running was
never_runs IsOpening after was opens runs = absurd (true≢false opens)
never_runs IsRunning after was opens runs = absurd (true≢false runs)
never_runs (IsCommitting c) after was opens runs = elim was [ inl gone ↦ ap is_running gone | inr held ↦ elim held [ inl storing ↦ ap is_running storing | inr doubted ↦ ap is_running doubted ] ]
never_runs (IsInDoubt c) after was opens runs = elim was [ inl gone ↦ ap is_running gone | inr held ↦ elim held [ inl storing ↦ ap is_running storing | inr doubted ↦ ap is_running doubted ] ]
never_runs IsLeaving after was opens runs = elim was [ inl gone ↦ ap is_running gone | inr leaving ↦ ap is_running leaving ]

held_or_gone : (c : Commit) (after : AttemptState) → (after ≡ IsGone) ⊎ ((after ≡ IsCommitting c) ⊎ (after ≡ IsInDoubt c)) → IsFalse (is_gone after) → fixed_commit after ≡ Some c
held_or_gone c after was there =
    elim was [ inl gone ↦ absurd (true≢false (sym (ap is_gone gone) ∙ there)) | inr held ↦ elim held [ inl storing ↦ ap fixed_commit storing | inr doubted ↦ ap fixed_commit doubted ] ]

pub stays_fixed : (from after : AttemptState) (c : Commit) → Becomes from after → fixed_commit from ≡ Some c → IsFalse (is_gone after) → fixed_commit after ≡ Some c
stays_fixed IsGone after c was fixed there = absurd cc
stays_fixed IsOpening after c was fixed there = absurd cc
stays_fixed IsRunning after c was fixed there = absurd cc
stays_fixed (IsCommitting d) after c was fixed there = held_or_gone d after was there ∙ fixed
stays_fixed (IsInDoubt d) after c was fixed there = held_or_gone d after was there ∙ fixed
stays_fixed IsLeaving after c was fixed there = absurd cc
