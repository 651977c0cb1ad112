-- What an entry of a node makes of who owns an attempt that commits or leaves behind it.
use Rattle.std.proofs.Common.{◌≡◌, ℕ, Bool, true, false, ◌&&◌, List, [], ◌∷◌, ◌++◌, refl, sym, ap, subst, ◌∙◌, inl, inr, eqb}
use Rattle.std.specs.Prelude.{IsTrue, IsFalse, None, Option, Some, if◌then◌else◌, nat_le}
use Rattle.std.proofs.lemmas.Bool.{and_parts, cases_Bool, eq-eqb, eqb-true, false≢true, true≢false}
use Rattle.std.proofs.lemmas.List.Sums.{fold-append}
use Rattle.aft_model.specs.declared.caller.Attempt.{Attempt}
use Rattle.aft_model.specs.declared.caller.By.{By}
use Rattle.aft_model.specs.declared.node.NodeAct.{NodeAct}
use Rattle.aft_model.specs.declared.node.NodeAct.TheVariants as acts
use Rattle.aft_model.specs.declared.node.NodeEntry.{NodeEntry}
use Rattle.aft_model.specs.declared.reply.Reply.{Reply}
use Rattle.aft_model.specs.Attempts.{AttemptState, IsCommitting, IsGone, IsInDoubt, IsLeaving, IsOpening, IsRunning, attempt_after, attempt_state, doubted, is_committing, is_in_doubt, is_running, owner, owner_after, same_attempt, tried_again, uuid_after, uuid_of}
use Rattle.aft_model.specs.LegalNode.{LegalNode, front, may_be_done, may_follow_at, may_serve}
use Rattle.aft_model.specs.NodeRules.{is_doubt, may_leave, may_start}
use Rattle.aft_model.specs.NodeState.{IsBooting, IsServing, NodeState, Service, extended, goes_on, in_service, node_state, part, service_in, state_after, stopped}
use Rattle.aft_model.specs.Replies.{is_silent}
use Rattle.aft_model.proofs.Histories.{each_after_snoc}
use Rattle.aft_model.proofs.Pins.{attempt_state-snoc, same_attempts, start_runs}
use Rattle.aft_model.proofs.Services.{node_state-snoc}
use Rattle.law_attempts.proofs.Acts.{uuid-snoc}
use Rattle.law_claims.specs.Scenes.{NodeStep, Scene, doing, doing_in, named, named_in}
use Rattle.law_claims.proofs.Scenes.{in_service_of}
use Rattle.law_held.specs.Owning.{is_finishing, owned, owner_in}

-- ---- states

running_not : (state : AttemptState) → IsTrue (is_running state) → IsTrue (is_finishing state) → ⊥
running_not IsRunning runs is = false≢true is
running_not state runs is = false≢true runs

doubt_not : (state : AttemptState) → IsTrue (is_in_doubt state) → IsTrue (is_finishing state) → ⊥
doubt_not (IsInDoubt c) doubts is = false≢true is
doubt_not state doubts is = false≢true doubts

committing_doubts : (state : AttemptState) → IsTrue (is_committing state) → IsFalse (is_finishing (doubted state))
committing_doubts (IsCommitting c) is = refl
committing_doubts state is = absurd (false≢true is)

doubted_not : (state : AttemptState) → IsFalse (is_finishing state) → IsFalse (is_finishing (doubted state))
doubted_not (IsCommitting c) was = refl
doubted_not state was = was

-- ---- an act

owner-snoc : (a : Attempt) (part : List NodeEntry) (entry : NodeEntry) → owner a (part ++ entry ∷ []) ≡ owner_after a entry.by (owner a part) entry.act
owner-snoc a part entry = fold-append (λ (before : Option By) (e : NodeEntry). owner_after a e.by before e.act) None part (entry ∷ [])

-- of the two sides of a test
refused : {A : Type 0} (t : Bool) (x y : A) → (IsTrue t → ⊥) → (if t then x else y) ≡ y
refused true x y never = absurd (never refl)
refused false x y never = refl

chosen : (t : Bool) (x y : AttemptState) (p q : Option By) → IsTrue (is_finishing (if t then x else y)) → IsFalse (is_finishing y) → (if t then p else q) ≡ p
chosen true x y p q now was = refl
chosen false x y p q now was = absurd (true≢false (sym now ∙ was))

neither : (t : Bool) (x y : AttemptState) → IsTrue (is_finishing (if t then x else y)) → IsFalse (is_finishing x) → IsFalse (is_finishing y) → ⊥
neither true x y now first second = true≢false (sym now ∙ first)
neither false x y now first second = true≢false (sym now ∙ second)

-- who commits or leaves behind an act and didn't before was taken by the act's line
owner_new : (a : Attempt) (by : By) (o : Option By) (state : AttemptState) (act : NodeAct) → IsFalse (is_finishing state) → IsTrue (is_finishing (attempt_after a state act)) → owner_after a by o act ≡ Some by
owner_new a by o state (acts.Admit b uuid) was now = absurd (neither (same_attempt a b) IsOpening state now refl was)
owner_new a by o state (acts.Begin b) was now = absurd (neither (same_attempt a b) IsRunning state now refl was)
owner_new a by o state (acts.Unadmit b) was now = absurd (neither (same_attempt a b) IsGone state now refl was)
owner_new a by o state (acts.Start b time c) was now = chosen (same_attempt a b) (IsCommitting c) state (Some by) o now was
owner_new a by o state (acts.Settle b) was now = chosen (same_attempt a b) (tried_again state) state (Some by) o now was
owner_new a by o state (acts.Leave b) was now = chosen (same_attempt a b) IsLeaving state (Some by) o now was
owner_new a by o state (acts.Doubt b) was now = absurd (neither (same_attempt a b) (doubted state) state now (doubted_not state was) was)
owner_new a by o state (acts.End b) was now = absurd (neither (same_attempt a b) IsGone state now refl was)
owner_new a by o state act was now = absurd (true≢false (sym now ∙ was))

-- its UUID stays
named_same : (a : Attempt) (uuid : List ℕ) (state : AttemptState) (act : NodeAct) → IsTrue (is_finishing (attempt_after a state act)) → uuid_after a uuid act ≡ uuid
named_same a uuid state (acts.Admit b admitted) now = refused (same_attempt a b) admitted uuid (λ same. true≢false (sym now ∙ ap (λ (t : Bool). is_finishing (if t then IsOpening else state)) same))
named_same a uuid state act now = refl

module _ (node capacity : ℕ) (history : List NodeEntry) (s : Service) (state : node_state history ≡ IsServing s) (answer : Option Reply) (a : Attempt) (by : By) (o : Option By) where
  abbrev does : AttemptState
  does = attempt_state a s.part

  served : (test : Service → Bool) → IsTrue (in_service test (service_in (node_state history))) → IsTrue (test s)
  served test rule = subst (λ (n : NodeState). IsTrue (in_service test (service_in n))) state rule

  its_own : (b : Attempt) (test : AttemptState → Bool) → IsTrue (same_attempt a b) → IsTrue (test (attempt_state b s.part)) → IsTrue (test does)
  its_own b test same is = subst (λ (x : Attempt). IsTrue (test (attempt_state x s.part))) (sym (same_attempts a b same)) is

  -- whoever commits or leaves before and behind an act that its rule allows keeps its line
  owner_same : (act : NodeAct) → IsTrue (may_be_done node capacity history act answer) → IsTrue (is_finishing does) → IsTrue (is_finishing (attempt_after a does act)) → owner_after a by o act ≡ o
  owner_same (acts.Start b time c) rule was now = refused (same_attempt a b) (Some by) o (λ same.
      running_not does (its_own b is_running same (start_runs s b time c (and_parts (may_start s b time c) (is_silent answer) (served (may_serve node capacity (acts.Start b time c) answer) rule)).0)) was)
  owner_same (acts.Settle b) rule was now = refused (same_attempt a b) (Some by) o (λ same.
      doubt_not does (its_own b is_in_doubt same (and_parts (is_in_doubt (attempt_state b s.part)) (is_silent answer) (served (may_serve node capacity (acts.Settle b) answer) rule)).0) was)
  owner_same (acts.Leave b) rule was now = refused (same_attempt a b) (Some by) o (λ same.
      running_not does (its_own b is_running same (and_parts (is_running (attempt_state b s.part)) _ (and_parts (may_leave s b) (is_silent answer) (served (may_serve node capacity (acts.Leave b) answer) rule)).0).0) was)
  owner_same (acts.Doubt b) rule was now = refused (same_attempt a b) None o (λ same.
      true≢false (sym now ∙ (ap (λ (t : Bool). is_finishing (if t then doubted does else does)) same
      ∙ committing_doubts does (its_own b is_committing same (and_parts (is_committing (attempt_state b s.part)) (is_doubt answer) (served (may_serve node capacity (acts.Doubt b) answer) rule)).0))))
  owner_same (acts.End b) rule was now = refused (same_attempt a b) None o (λ same. true≢false (sym now ∙ ap (λ (t : Bool). is_finishing (if t then IsGone else does)) same))
  owner_same act rule was now = refl

-- ---- a service

pub in_its_own : (a : Attempt) (s : Service) → a.inc ≡ s.inc → owner_in a (IsServing s) ≡ owner a s.part
in_its_own a s same = ap (λ (b : Bool). if b then owner a s.part else None) (eq-eqb a.inc s.inc same)

-- where an attempt commits or leaves behind an entry, the node served its incarnation before, and the entry joins that service
abbrev Served : Attempt → NodeState → NodeEntry → NodeState → Type 0
Served a state entry after = (s : Service) × (state ≡ IsServing s) × (a.inc ≡ s.inc) × (after ≡ IsServing (extended s entry))

if_its : (t : Bool) (state : AttemptState) → IsTrue (is_finishing (if t then state else IsGone)) → IsTrue t
if_its true state is = refl
if_its false state is = absurd (false≢true is)

goes_served : (a : Attempt) (state : NodeState) (entry : NodeEntry) → IsTrue (is_finishing (doing_in a (goes_on state entry))) → Served a state entry (goes_on state entry)
goes_served a (IsServing s) entry is = (s, refl, eqb-true a.inc s.inc (if_its (eqb a.inc s.inc) (attempt_state a (s.part ++ entry ∷ [])) is), refl)
goes_served a state entry is = absurd (false≢true is)

stops_served : (a : Attempt) (state : NodeState) (entry : NodeEntry) → IsTrue (is_finishing (doing_in a (stopped state entry))) → Served a state entry (stopped state entry)
stops_served a (IsBooting inc running) entry is = absurd (false≢true is)
stops_served a state entry is = goes_served a state entry is

same_sides : (t : Bool) → (if t then IsGone else IsGone) ≡ IsGone
same_sides true = refl
same_sides false = refl

served_so : (a : Attempt) (state : NodeState) (entry : NodeEntry) (act : NodeAct) → IsTrue (is_finishing (doing_in a (state_after state entry act))) → Served a state entry (state_after state entry act)
served_so a state entry (acts.Booting inc) is = absurd (false≢true is)
served_so a state entry (acts.Boot inc commits) is = absurd (true≢false (sym is ∙ ap is_finishing (same_sides (eqb a.inc inc))))
served_so a state entry (acts.BootStopped inc) is = stops_served a state entry is
served_so a state entry (acts.Down inc) is = absurd (false≢true is)
served_so a state entry act is = goes_served a state entry is

-- ---- a step

-- what an entry at a node makes of the owner of an attempt, and of its UUID
pub record Passes (entry : NodeEntry) (before after : Scene) (a : Attempt) : Type 0 where
  pub kept : IsTrue (is_finishing (doing before a)) → owned after a ≡ owned before a
  pub taken : IsFalse (is_finishing (doing before a)) → owned after a ≡ Some entry.by
  pub name : named after a ≡ named before a

module _ (node capacity : ℕ) (entry : NodeEntry) (before after : Scene) (step : NodeStep node entry before after) (legal : LegalNode node capacity (before.node node ++ entry ∷ [])) (a : Attempt) where
  abbrev history : List NodeEntry
  history = before.node node

  rule : IsTrue (may_be_done node capacity history entry.act entry.answer)
  rule =
      let follows = (each_after_snoc (may_follow_at node capacity) [] history entry legal).1 in
      (and_parts (nat_le (front history) entry.front) _ (and_parts (nat_le (front history) entry.front && may_be_done node capacity history entry.act entry.answer) _ follows).0).1

  module _ (at : a.node ≡ node) (s : Service) (state : node_state history ≡ IsServing s) (inc : a.inc ≡ s.inc) (behind : node_state (after.node node) ≡ IsServing (extended s entry)) where
    was : node_state (before.node a.node) ≡ IsServing s
    was = ap (λ (n : ℕ). node_state (before.node n)) at ∙ state

    now : node_state (after.node a.node) ≡ IsServing (extended s entry)
    now = ap (λ (n : ℕ). node_state (after.node n)) at ∙ behind

    did : doing before a ≡ attempt_state a s.part
    did = ap (doing_in a) was ∙ (in_service_of a s inc).0

    does_now : doing after a ≡ attempt_after a (attempt_state a s.part) entry.act
    does_now = ap (doing_in a) now ∙ ((in_service_of a (extended s entry) inc).0 ∙ attempt_state-snoc a s.part entry)

    owner_was : owned before a ≡ owner a s.part
    owner_was = ap (owner_in a) was ∙ in_its_own a s inc

    owner_now : owned after a ≡ owner_after a entry.by (owner a s.part) entry.act
    owner_now = ap (owner_in a) now ∙ (in_its_own a (extended s entry) inc ∙ owner-snoc a s.part entry)

    passes_here : IsTrue (is_finishing (doing after a)) → Passes entry before after a
    passes_here is =
        let ends : IsTrue (is_finishing (attempt_after a (attempt_state a s.part) entry.act)) = subst (λ (t : AttemptState). IsTrue (is_finishing t)) does_now is in record {
          kept = λ w. owner_now ∙ (owner_same node capacity history s state entry.answer a entry.by (owner a s.part) entry.act rule (subst (λ (t : AttemptState). IsTrue (is_finishing t)) did w) ends ∙ sym owner_was);
          taken = λ w. owner_now ∙ owner_new a entry.by (owner a s.part) (attempt_state a s.part) entry.act (subst (λ (t : AttemptState). IsFalse (is_finishing t)) did w) ends;
          name = ap (named_in a) now ∙ ((in_service_of a (extended s entry) inc).1 ∙ (uuid-snoc a s.part entry ∙ (named_same a (uuid_of a s.part) (attempt_state a s.part) entry.act ends ∙ sym (ap (named_in a) was ∙ (in_service_of a s inc).1))));
        }

  pub passes : IsTrue (is_finishing (doing after a)) → Passes entry before after a
  passes is = elim (cases_Bool (eqb node a.node)) [
    | inr other ↦
        let same = step.elsewhere a.node other in record {
          kept = λ w. ap (λ (h : List NodeEntry). owner_in a (node_state h)) same;
          taken = λ w. absurd (true≢false (sym is ∙ (ap (λ (h : List NodeEntry). is_finishing (doing_in a (node_state h))) same ∙ w)));
          name = ap (λ (h : List NodeEntry). named_in a (node_state h)) same;
        }
    | inl here ↦
        let at : a.node ≡ node = sym (eqb-true node a.node here) in
        let state : node_state (after.node node) ≡ state_after (node_state history) entry entry.act = ap node_state step.here ∙ node_state-snoc history entry in
        let its = served_so a (node_state history) entry entry.act (subst (λ (n : NodeState). IsTrue (is_finishing (doing_in a n))) (ap (λ (n : ℕ). node_state (after.node n)) at ∙ state) is) in
        passes_here at its.0 its.1 its.2 (state ∙ its.3) is
  ]
