-- In a run so far whoever needs its claim holds it.
use Rattle.std.proofs.Common.{◌≡◌, ℕ, suc, Bool, ◌&&◌, ◌||◌, not, List, [], ◌∷◌, ◌++◌, ◌≤◌, refl, sym, ap, subst, ◌∙◌, inl, inr, append-nil, append_assoc, length, arith}
use Rattle.std.specs.Prelude.{IsTrue, IsFalse, Option, Some, if◌then◌else◌}
use Rattle.std.specs.List.{list_all}
use Rattle.std.proofs.lemmas.Bool.{and_from, and_parts, cases_Bool, eq-eqb, ne_eqb, not-true, or_cases, or_left, or_right, true≢false}
use Rattle.aft_model.specs.declared.caller.Attempt.{Attempt}
use Rattle.aft_model.specs.declared.caller.By.{By}
use Rattle.aft_model.specs.declared.door.DoorEntry.{DoorEntry}
use Rattle.aft_model.specs.declared.node.NodeEntry.{NodeEntry}
use Rattle.aft_model.specs.Attempts.{AttemptState, attempt_state, attempts, is_committing, is_gone, is_in_doubt, is_leaving, is_running, owner, present, uuid_of}
use Rattle.aft_model.specs.Claims.{holds}
use Rattle.aft_model.specs.History.{each_after}
use Rattle.aft_model.specs.LegalDoor.{Legal, may_follow}
use Rattle.aft_model.specs.LegalNode.{LegalNode}
use Rattle.aft_model.specs.Membership.{Incarnation, incarnation, is_up}
use Rattle.aft_model.specs.NodeSights.{is_fenced}
use Rattle.aft_model.specs.NodeState.{IsServing, NodeState, Service, node_state, part, part_in, service_in}
use Rattle.aft_model.proofs.Histories.{In, each_after_split}
use Rattle.aft_model.proofs.Lists.{all_from, in_filter}
use Rattle.aft_lines.specs.Asked.{Asked, Ran}
use Rattle.aft_lines.specs.CourseWords.{caller_of}
use Rattle.aft_lines.specs.Headline.{seen_at}
use Rattle.aft_lines.specs.Holding.{ClaimsHeld, all_hold, holds_after, is_held_for, is_released_by, needs_claim}
use Rattle.aft_lines.specs.Steps.{Made, door_steps, made_at_node}
use Rattle.aft_lines.specs.Turns.{AtNode}
use Rattle.law_attempts.proofs.Lives.{lives}
use Rattle.law_attempts.proofs.Standing.{first_within}
use Rattle.law_holders.specs.Rows.{is_of_node}
use Rattle.law_claims.specs.Doing.{attempt_at, has_claim_at, is_doing}
use Rattle.law_claims.specs.Moments.{node_steps, scene_of}
use Rattle.law_claims.specs.Scenes.{Keeps, Scene, doing, doing_in, named, named_in}
use Rattle.law_claims.proofs.Fenced.{fenced_down}
use Rattle.law_claims.proofs.Holds.{moved_holds, resting_holds}
use Rattle.law_claims.proofs.Moments.{door-snoc, node-snoc}
use Rattle.law_claims.proofs.Scenes.{in_service_of, the_is}
use Rattle.law_runs.specs.Runs.{Goes, asking_of, run_steps, without_office}
use Rattle.law_runs.proofs.Come.{door_parts, it_comes, rise, seen_is}
use Rattle.law_runs.proofs.InStages.{kept_behind}
use Rattle.law_runs.proofs.Retires.{each_from, split_at}
use Rattle.law_steps.proofs.Histories.{node_is}
use Rattle.law_steps.specs.Histories.{history_in}
use Rattle.law_turns.specs.Order.{is_at_node}
use Rattle.law_held.specs.Owning.{Owns, is_finishing, owned, owner_in}
use Rattle.law_held.proofs.Owners.{in_its_own}
use Rattle.law_held.proofs.OwnSteps.{MovedBy, finishing_moved, unclaimed_ends}
use Rattle.law_held.proofs.Runs.{owned_behind}

-- ---- at a moment

module _ (scene : Scene) (legal : Legal scene.door) (keeps : Keeps scene) (owns : Owns scene) (a : Attempt) (of : IsTrue (is_of_node (caller_of a))) (up : IsTrue (is_up (caller_of a) scene.door)) where
  not_fenced : IsTrue (is_fenced (caller_of a) scene.door) → ⊥
  not_fenced gone = true≢false (sym up ∙ fenced_down (caller_of a) scene.door legal gone)

  -- the line that moves it has let its claim go only where its own entries tell
  claim_left : IsTrue (is_finishing (doing scene a)) → IsFalse (is_released_by (caller_of a) (named scene a) scene.door (owned scene a)) → (by : By) → attempt_at (scene.at by) ≡ Some a → IsTrue (is_doing (scene.at by) (doing scene a)) → IsFalse (has_claim_at (scene.at by)) → ⊥
  claim_left is kept by at does free =
      let ends = unclaimed_ends (scene.at by) (doing scene a) a at does is free in
      elim (owns.owners by a at is) [
        | inl gone ↦ not_fenced gone
        | inr owner ↦ elim (owns.releases by a ends.0 ends.1) [
          | inl gone ↦ not_fenced gone
          | inr released ↦ true≢false (sym released ∙ subst (λ (o : Option By). IsFalse (is_released_by (caller_of a) (named scene a) scene.door o)) owner kept)
        ]
      ]

  finishing_holds : IsTrue (is_finishing (doing scene a)) → IsFalse (is_released_by (caller_of a) (named scene a) scene.door (owned scene a)) → IsTrue (holds (caller_of a) (named scene a) scene.door)
  finishing_holds is kept = elim (finishing_moved scene a is (keeps.attempts a of)) [
    | inl gone ↦ absurd (not_fenced gone)
    | inr moved ↦ by_line moved.0 moved.1
  ]
    where
      by_line : (by : By) → MovedBy scene a by → IsTrue (holds (caller_of a) (named scene a) scene.door)
      by_line by moved =
          let at = the_is a (attempt_at (scene.at by)) moved.0 in
          let held = moved_holds scene legal keeps by a at up in
          elim (cases_Bool (has_claim_at (scene.at by))) [
            | inl claimed ↦ held.1 ∙ claimed
            | inr free ↦ absurd (claim_left is kept by at moved.1 free)
          ]

  -- whoever needs its claim holds it
  needed_holds : IsTrue (is_running (doing scene a) || is_in_doubt (doing scene a) || (is_committing (doing scene a) || is_leaving (doing scene a)) && not (is_released_by (caller_of a) (named scene a) scene.door (owned scene a))) → IsTrue (holds (caller_of a) (named scene a) scene.door)
  needed_holds needs = elim (or_cases (is_running (doing scene a) || is_in_doubt (doing scene a)) _ needs) [
    | inl rests ↦ resting_holds scene legal keeps a of up rests
    | inr moved ↦
        let parts = and_parts (is_finishing (doing scene a)) (not (is_released_by (caller_of a) (named scene a) scene.door (owned scene a))) moved in
        finishing_holds parts.0 (not-true (is_released_by (caller_of a) (named scene a) scene.door (owned scene a)) parts.1)
  ]

-- ---- who is there

-- an attempt that is there behind a history of a node is one of the incarnation that it serves
record Present (node : ℕ) (history : List NodeEntry) (a : Attempt) : Type 0 where
  pub s : Service
  pub state : node_state history ≡ IsServing s
  pub node_is : a.node ≡ node
  pub inc : a.inc ≡ s.inc

present_so : (node capacity : ℕ) (history : List NodeEntry) (a : Attempt) → LegalNode node capacity history → In a (present (part history)) → Present node history a
present_so node capacity history a legal among = at_state (node_state history) refl among
  where
    at_state : (state : NodeState) → node_state history ≡ state → In a (present (part_in (service_in state))) → Present node history a
    at_state (IsServing s) is there =
        let listed = (in_filter (λ (x : Attempt). not (is_gone (attempt_state x s.part))) a (attempts s.part) there).0 in
        let its = first_within node s.inc (length (attempts s.part)) a (subst (λ (l : List Attempt). In a l) (lives node capacity history s legal is).stands.numbered listed) in
        record { s = s; state = is; node_is = its.0; inc = its.1 }
    at_state state is none = absurd none

-- ---- at an entry of a node

module _ (node capacity : ℕ) (scene : Scene) (legal : Legal scene.door) (keeps : Keeps scene) (owns : Owns scene) (node_legal : LegalNode node capacity (scene.node node)) (of_node : (inc : ℕ) → IsTrue (is_of_node (incarnation node inc))) where
  module _ (a : Attempt) (among : In a (present (part (scene.node node)))) where
    abbrev who : Incarnation
    who = incarnation node a.inc

    abbrev here : List NodeEntry
    here = part (scene.node node)

    its : Present node (scene.node node) a
    its = present_so node capacity (scene.node node) a node_legal among

    who_is : who ≡ caller_of a
    who_is = ap (λ (n : ℕ). incarnation n a.inc) (sym its.node_is)

    part_is : here ≡ its.s.part
    part_is = ap (λ (t : NodeState). part_in (service_in t)) its.state

    at_its : node_state (scene.node a.node) ≡ IsServing its.s
    at_its = ap (λ (n : ℕ). node_state (scene.node n)) its.node_is ∙ its.state

    doing_is : doing scene a ≡ attempt_state a here
    doing_is = ap (doing_in a) at_its ∙ ((in_service_of a its.s its.inc).0 ∙ ap (attempt_state a) (sym part_is))

    named_is : named scene a ≡ uuid_of a here
    named_is = ap (named_in a) at_its ∙ ((in_service_of a its.s its.inc).1 ∙ ap (uuid_of a) (sym part_is))

    owned_is : owned scene a ≡ owner a here
    owned_is = ap (owner_in a) at_its ∙ (in_its_own a its.s its.inc ∙ ap (owner a) (sym part_is))

    abbrev Needs : Incarnation → AttemptState → List ℕ → Option By → Type 0
    Needs w state uuid own = IsTrue (is_running state || is_in_doubt state || (is_committing state || is_leaving state) && not (is_released_by w uuid scene.door own))

    needs_now : IsTrue (needs_claim who scene.door here a) → Needs (caller_of a) (doing scene a) (named scene a) (owned scene a)
    needs_now needs =
        subst (λ (w : Incarnation). Needs w (doing scene a) (named scene a) (owned scene a)) who_is
        (subst (λ (t : AttemptState). Needs who t (named scene a) (owned scene a)) (sym doing_is)
        (subst (λ (u : List ℕ). Needs who (attempt_state a here) u (owned scene a)) (sym named_is)
        (subst (λ (o : Option By). Needs who (attempt_state a here) (uuid_of a here) o) (sym owned_is) needs)))

    holds_it : IsTrue (needs_claim who scene.door here a) × IsTrue (is_up who scene.door) → IsTrue (holds who (uuid_of a here) scene.door)
    holds_it both =
        subst (λ (w : Incarnation). IsTrue (holds w (uuid_of a here) scene.door)) (sym who_is)
        (subst (λ (u : List ℕ). IsTrue (holds (caller_of a) u scene.door)) named_is
        (needed_holds scene legal keeps owns a (subst (λ (w : Incarnation). IsTrue (is_of_node w)) who_is (of_node a.inc)) (subst (λ (w : Incarnation). IsTrue (is_up w scene.door)) who_is both.1) (needs_now both.0)))

    held_so : IsTrue (is_held_for who scene.door here a)
    held_so = elim (cases_Bool (needs_claim who scene.door here a && is_up who scene.door)) [
      | inl needs ↦ or_right (not (needs_claim who scene.door here a && is_up who scene.door)) (holds who (uuid_of a here) scene.door) (holds_it (and_parts (needs_claim who scene.door here a) (is_up who scene.door) needs))
      | inr free ↦ or_left (not (needs_claim who scene.door here a && is_up who scene.door)) (holds who (uuid_of a here) scene.door) (ap not free)
    ]

-- ---- in a run

-- an entry of a node's history is a step of it
made_at : (node : ℕ) (pre xs : List NodeEntry) (e : NodeEntry) (more : List NodeEntry) → In (record { by = e.by; turn = AtNode node (pre ++ xs) e }) (made_at_node node pre (xs ++ e ∷ more))
made_at node pre [] e more = inl (ap (λ (h : List NodeEntry). record { by = e.by; turn = AtNode node h e }) (append-nil pre))
made_at node pre (x ∷ xs) e more =
    inr (subst (λ (h : List NodeEntry). In (record { by = e.by; turn = AtNode node h e }) (made_at_node node (pre ++ x ∷ []) (xs ++ e ∷ more))) (append_assoc pre (x ∷ []) xs) (made_at node (pre ++ x ∷ []) xs e more))

module _ (asked : Asked) (ran : Ran) (so : Goes asked ran) where
  -- where an entry of a node stands among the steps
  pub stands_at : (number : ℕ) (before : List NodeEntry) (entry : NodeEntry) (more : List NodeEntry) → history_in number 1 ran.trace.nodes ≡ before ++ entry ∷ more
      → (pre : List Made) × (rest : List Made) × (run_steps ran ≡ pre ++ record { by = entry.by; turn = AtNode number before entry } ∷ rest)
  stands_at number before entry more is =
      let step : Made = record { by = entry.by; turn = AtNode number before entry } in
      let there : In step (made_at_node number [] (history_in number 1 ran.trace.nodes)) = subst (λ (h : List NodeEntry). In step (made_at_node number [] h)) (sym is) (made_at number [] before entry more) in
      let among = (in_filter (λ (m : Made). is_at_node number m.turn) step (run_steps ran) (subst (λ (l : List Made). In step l) (sym (node_is number (without_office ran.trace) (rise asked ran so))) there)).0 in
      split_at step (run_steps ran) among

  module _ (number : ℕ) (before : List NodeEntry) (entry : NodeEntry) (pre rest : List Made) (is : run_steps ran ≡ pre ++ record { by = entry.by; turn = AtNode number before entry } ∷ rest) where
    abbrev step : Made
    step = record { by = entry.by; turn = AtNode number before entry }

    abbrev scene : Scene
    scene = scene_of (asking_of asked ran) (pre ++ step ∷ [])

    whole : run_steps ran ≡ (pre ++ step ∷ []) ++ rest
    whole = is ∙ sym (append_assoc pre (step ∷ []) rest)

    door_same : scene.door ≡ seen_at ran.trace entry
    door_same = door-snoc pre step ∙ (append-nil (door_steps pre) ∙ sym (seen_is asked ran so pre rest step is refl))

    door_legal : Legal scene.door
    door_legal = subst Legal (sym (door-snoc pre step ∙ append-nil (door_steps pre)))
        (each_after_split may_follow [] (door_steps pre) (door_steps rest) (subst (λ (d : List DoorEntry). IsTrue (each_after may_follow [] d)) (door_parts asked ran so pre rest step is) so.door)).0

    abbrev held_by_all : List NodeEntry → List DoorEntry → Bool
    held_by_all h d = list_all (λ a. is_held_for (incarnation number a.inc) d (part h) a) (present (part h))

    held_there : IsTrue (holds_after number ran.trace before entry)
    held_there =
        let kept = kept_behind asked ran so (pre ++ step ∷ []) rest whole in
        let comes = it_comes asked ran so pre rest step is (kept_behind asked ran so pre (step ∷ rest) is).0 in
        let owns = owned_behind asked ran so (pre ++ step ∷ []) rest whole in
        let here : scene.node number ≡ before ++ entry ∷ [] = node-snoc number pre step ∙ (ap (λ (b : Bool). node_steps number pre ++ (if b then entry ∷ [] else [])) (eq-eqb number number refl) ∙ ap (λ (h : List NodeEntry). h ++ entry ∷ []) (sym comes.1)) in
        subst (λ (h : List NodeEntry). IsTrue (held_by_all h (seen_at ran.trace entry))) here
        (subst (λ (d : List DoorEntry). IsTrue (held_by_all (scene.node number) d)) door_same
        (all_from (λ (a : Attempt). is_held_for (incarnation number a.inc) scene.door (part (scene.node number)) a) (present (part (scene.node number))) (λ a among. held_so number asked.settings.cache scene door_legal kept.0 owns (kept.1 number) comes.2 a among)))

  all_held : (first : ℕ) (histories : List (List NodeEntry)) → ((number : ℕ) → first ≤ number → (before : List NodeEntry) (entry : NodeEntry) (more : List NodeEntry) → history_in number first histories ≡ before ++ entry ∷ more → IsTrue (holds_after number ran.trace before entry)) → IsTrue (all_hold first ran.trace histories)
  all_held first [] each = refl
  all_held first (history ∷ histories) each =
      and_from (each_after (holds_after first ran.trace) [] history) (all_hold (suc first) ran.trace histories)
      (each_from (holds_after first ran.trace) history [] history refl (λ b e m is. each first (omega arith) b e m (ap (λ (t : Bool). if t then history else history_in first (suc first) histories) (eq-eqb first first refl) ∙ is)))
      (all_held (suc first) histories (λ number later b e m is. each number (let l : suc first ≤ number = later in omega arith) b e m (ap (λ (t : Bool). if t then history else history_in number (suc first) histories) (ne_eqb number first (λ same. (let l : suc first ≤ number = later in let s : number ≡ first = same in omega arith))) ∙ is)))

  pub claims_are_held : ClaimsHeld ran.trace
  claims_are_held = all_held 1 ran.trace.nodes (λ number le before entry more is. (let at = stands_at number before entry more is in held_there number before entry at.0 at.1 at.2))
