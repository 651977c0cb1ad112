-- Words on moments: an attempt that is there is one of its node's service, and lines that are the same.
use Rattle.std.proofs.Common.{◌≡◌, ℕ, Bool, true, false, ◌&&◌, List, [], refl, sym, ap, subst, ◌∙◌, eqb}
use Rattle.std.specs.Prelude.{IsTrue, IsFalse, Option, Some, None, if◌then◌else◌}
use Rattle.std.proofs.lemmas.Bool.{and_from, and_parts, eq-eqb, eqb-true, false≢true, true≢false}
use Rattle.aft_records.specs.declared.stored.Commit.{Commit}
use Rattle.aft_model.specs.declared.caller.Attempt.{Attempt}
use Rattle.aft_model.specs.declared.caller.By.{By}
use Rattle.aft_model.specs.Attempts.{AttemptState, IsGone, IsInDoubt, IsRunning, attempt_state, is_gone, uuid_of}
use Rattle.aft_model.specs.NodeState.{IsServing, NodeState, Service, node_state}
use Rattle.aft_model.specs.ScanRun.{same_line}
use Rattle.aft_lines.specs.Progress.{EndsAborted, EndsCommitted, EndsLeft, MustEnd, Progress}
use Rattle.aft_model.proofs.Pins.{same_attempts}
use Rattle.law_attempts.proofs.Lives.{lives}
use Rattle.law_attempts.proofs.Standing.{same_itself}
use Rattle.law_claims.specs.Doing.{attempt_at, is_doing, is_the, moves, names_uuid}
use Rattle.law_claims.specs.Scenes.{AreLegal, Scene, doing, doing_in, named, named_in}

-- ---- lines and attempts

pub same_by : (a b : By) → IsTrue (same_line a b) → a ≡ b
same_by a b same =
    let parts = and_parts (eqb a.client b.client) (eqb a.line b.line) same in
    let by : ℕ → ℕ → By = λ c l. record { client = c; line = l } in
    ap (λ c. by c a.line) (eqb-true a.client b.client parts.0) ∙ ap (λ l. by b.client l) (eqb-true a.line b.line parts.1)

pub by_itself : (by : By) → same_line by by ≡ true
by_itself by = and_from _ _ (eq-eqb by.client by.client refl) (eq-eqb by.line by.line refl)

pub the_is : (a : Attempt) (x : Option Attempt) → IsTrue (is_the a x) → x ≡ Some a
the_is a None is = absurd (false≢true is)
the_is a (Some b) is = ap (λ (c : Attempt). Some c) (sym (same_attempts a b is))

pub is_itself : (a : Attempt) (x : Option Attempt) → x ≡ Some a → IsTrue (is_the a x)
is_itself a x is = subst (λ (y : Option Attempt). IsTrue (is_the a y)) (sym is) (same_itself a)

pub moves_it : (position : Progress) (a : Attempt) (state : AttemptState) (uuid : List ℕ) → IsTrue (moves position a state uuid) → IsTrue (is_the a (attempt_at position)) × IsTrue (is_doing position state) × IsTrue (names_uuid position uuid)
moves_it position a state uuid so =
    let parts = and_parts (is_the a (attempt_at position) && is_doing position state) (names_uuid position uuid) so in
    let first = and_parts (is_the a (attempt_at position)) (is_doing position state) parts.0 in
    (first.0, first.1, parts.1)

-- whoever does something is there
none_gone : (position : Progress) → is_doing position IsGone ≡ false
none_gone (MustEnd a EndsCommitted) = refl
none_gone (MustEnd a EndsAborted) = refl
none_gone (MustEnd a (EndsLeft aborts)) = refl
none_gone position = refl

pub doing_there : (position : Progress) (state : AttemptState) → IsTrue (is_doing position state) → IsFalse (is_gone state)
doing_there position IsGone so = absurd (true≢false (sym so ∙ none_gone position))
doing_there position state so = refl

-- whoever is moved doesn't rest
pub none_runs : (position : Progress) → is_doing position IsRunning ≡ false
none_runs (MustEnd a EndsCommitted) = refl
none_runs (MustEnd a EndsAborted) = refl
none_runs (MustEnd a (EndsLeft aborts)) = refl
none_runs position = refl

pub none_doubts : (position : Progress) (c : Commit) → is_doing position (IsInDoubt c) ≡ false
none_doubts (MustEnd a EndsCommitted) c = refl
none_doubts (MustEnd a EndsAborted) c = refl
none_doubts (MustEnd a (EndsLeft aborts)) c = refl
none_doubts position c = refl

-- ---- who is there is in the service

abbrev Serves : Attempt → NodeState → Type 0
Serves a state = (s : Service) × (state ≡ IsServing s) × (a.inc ≡ s.inc) × (doing_in a state ≡ attempt_state a s.part) × (named_in a state ≡ uuid_of a s.part)

pub served : (a : Attempt) (state : NodeState) → IsFalse (is_gone (doing_in a state)) → Serves a state
served a (IsServing s) there = cases (eqb a.inc s.inc) refl there
  where
    cases : (t : Bool) → eqb a.inc s.inc ≡ t → IsFalse (is_gone (if t then attempt_state a s.part else IsGone)) → Serves a (IsServing s)
    cases true same there_now = (s, refl, eqb-true a.inc s.inc same, ap (λ (b : Bool). if b then attempt_state a s.part else IsGone) same, ap (λ (b : Bool). if b then uuid_of a s.part else []) same)
    cases false other there_now = absurd (true≢false there_now)
served a state there = absurd (true≢false there)

-- what a node serves as the attempt's incarnation
pub in_service_of : (a : Attempt) (s : Service) → a.inc ≡ s.inc → (doing_in a (IsServing s) ≡ attempt_state a s.part) × (named_in a (IsServing s) ≡ uuid_of a s.part)
in_service_of a s same =
    let is = eq-eqb a.inc s.inc same in
    (ap (λ (b : Bool). if b then attempt_state a s.part else IsGone) is, ap (λ (b : Bool). if b then uuid_of a s.part else []) is)

-- and of the attempts that are there each has another UUID
pub alone : (capacity : ℕ) (scene : Scene) → AreLegal capacity scene → (a b : Attempt) → a.node ≡ b.node → a.inc ≡ b.inc → IsFalse (is_gone (doing scene a)) → IsFalse (is_gone (doing scene b)) → named scene a ≡ named scene b → a ≡ b
alone capacity scene legal a b node inc a_there b_there same =
    let sa = served a (node_state (scene.node a.node)) a_there in
    let at_b : IsFalse (is_gone (doing_in b (node_state (scene.node a.node)))) = subst (λ (n : ℕ). IsFalse (is_gone (doing_in b (node_state (scene.node n))))) (sym node) b_there in
    let its : IsFalse (is_gone (doing_in b (IsServing sa.0))) = subst (λ (t : NodeState). IsFalse (is_gone (doing_in b t))) sa.1 at_b in
    let ins = in_service_of b sa.0 (sym inc ∙ sa.2) in
    let b_named : named scene b ≡ uuid_of b sa.0.part = ap (λ (n : ℕ). named_in b (node_state (scene.node n))) (sym node) ∙ (ap (named_in b) sa.1 ∙ ins.1) in
    (lives a.node capacity (scene.node a.node) sa.0 (legal a.node) sa.1).stands.alone a b
    (subst (λ (t : AttemptState). IsFalse (is_gone t)) sa.3 a_there) (subst (λ (t : AttemptState). IsFalse (is_gone t)) ins.0 its) (sym sa.4 ∙ (same ∙ b_named))
