-- At each moment of a run whoever needs its claim holds it.
use Rattle.std.proofs.Common.{◌≡◌, ℕ, List, [], ◌∷◌, ◌++◌, sym, ap, subst, ◌∙◌, append-nil, append_assoc}
use Rattle.std.specs.Prelude.{None, Some}
use Rattle.std.proofs.lemmas.Bool.{false≢true}
use Rattle.aft_model.specs.declared.caller.Attempt.{Attempt}
use Rattle.aft_model.specs.declared.caller.By.{By}
use Rattle.aft_model.specs.declared.door.DoorAct.{DoorAct}
use Rattle.aft_model.specs.declared.node.NodeEntry.{NodeEntry}
use Rattle.aft_model.specs.LegalNode.{LegalNode}
use Rattle.aft_lines.specs.Progress.{MustEnd, Outcome, Progress}
use Rattle.aft_lines.specs.Steps.{Made, own_steps}
use Rattle.aft_lines.specs.Turns.{AtDoor, AtNode, AtOffice, Turn}
use Rattle.law_claims.specs.Doing.{attempt_at}
use Rattle.law_claims.specs.Moments.{Asking, ByCommand, ByCourse, ByNobody, Comes, IsMade, MayCome, scene_of}
use Rattle.law_claims.specs.Scenes.{AreLegal, Keeps, Scene}
use Rattle.law_claims.proofs.Moments.{at_bystander, at_first, at_nobody, door_step, goes_along, node_step, step_keeps}
use Rattle.law_claims.proofs.Movers.{door_mover}
use Rattle.law_runs.proofs.Walks.{door_ahead}
use Rattle.law_held.specs.Owning.{Owns}
use Rattle.law_held.proofs.OwnSteps.{door_owns, node_owns}
use Rattle.law_held.proofs.Releases.{must_end}

-- ---- the first moment

pub owns_at_first : (asking : Asking) → Owns (scene_of asking [])
owns_at_first asking = record {
  owners = λ by a is does. absurd (let e : None ≡ Some a = sym (at_first asking by (asking.command by)) ∙ is in cc);
  releases = λ by a outcome is. absurd (let e : None ≡ Some a = sym (at_first asking by (asking.command by)) ∙ ap attempt_at is in cc);
}

-- ---- a step

-- whoever moves no attempt has none to end
none_ends : (a : Attempt) (outcome : Outcome) (position : Progress) → attempt_at position ≡ None → position ≡ MustEnd a outcome → ⊥
none_ends a outcome position none is = (let e : None ≡ Some a = sym none ∙ ap attempt_at is in cc)

none_moves : {A : Type 0} (a : Attempt) (position : Progress) → attempt_at position ≡ None → attempt_at position ≡ Some a → A
none_moves a position none is = absurd (let e : None ≡ Some a = sym none ∙ is in cc)

abbrev Both : Asking → ℕ → List Made → Type 0
Both asking capacity made = Keeps (scene_of asking made) × AreLegal capacity (scene_of asking made)

module _ (asking : Asking) (capacity : ℕ) (made : List Made) (both : Both asking capacity made) (owns : Owns (scene_of asking made)) where
  abbrev was : Scene
  was = scene_of asking made

  module _ (by : By) (place : ℕ) (act : DoorAct) where
    abbrev at_door : Made
    at_door = record { by = by; turn = AtDoor place act }

    abbrev behind_door : Scene
    behind_door = scene_of asking (made ++ at_door ∷ [])

    door_own : IsMade asking made by (AtDoor place act) → Owns behind_door
    door_own (ByCourse command next is of leads) =
        let goes = goes_along asking capacity made at_door command next is of leads in
        let mover = door_mover command asking.nodes (asking.ends by) (was.at by) (behind_door.at by) place act of goes in
        door_owns (record { by = by; act = act }) was behind_door (door_step asking capacity made both by place act) both.0 owns
        (λ a at. mover.1 ∙ (sym (door_ahead command asking.nodes (asking.ends by) (was.at by) (behind_door.at by) place act mover.0 of mover.1 goes) ∙ at))
        (λ a outcome at. (must_end command asking.nodes (asking.ends by) (was.at by) (AtDoor place act) a outcome of (goes ∙ ap (λ (p : Progress). Some p) at), mover.3))
    door_own (ByCommand command is other makes_it) =
        let none = at_bystander asking by (own_steps by (made ++ at_door ∷ [])) command is other in
        door_owns (record { by = by; act = act }) was behind_door (door_step asking capacity made both by place act) both.0 owns
        (λ a at. none_moves a (behind_door.at by) none at) (λ a outcome at. absurd (none_ends a outcome (behind_door.at by) none at))
    door_own (ByNobody is quiet) =
        let none = at_nobody asking by (own_steps by (made ++ at_door ∷ [])) is in
        door_owns (record { by = by; act = act }) was behind_door (door_step asking capacity made both by place act) both.0 owns
        (λ a at. none_moves a (behind_door.at by) none at) (λ a outcome at. absurd (none_ends a outcome (behind_door.at by) none at))

  module _ (node : ℕ) (history : List NodeEntry) (entry : NodeEntry) where
    abbrev at_node : Made
    at_node = record { by = entry.by; turn = AtNode node history entry }

    abbrev behind_node : Scene
    behind_node = scene_of asking (made ++ at_node ∷ [])

    -- its turn is no release
    ends_none : IsMade asking made entry.by (AtNode node history entry) → (a : Attempt) (outcome : Outcome) → behind_node.at entry.by ≡ MustEnd a outcome → ⊥
    ends_none (ByCourse command next is of leads) a outcome at =
        false≢true (must_end command asking.nodes (asking.ends entry.by) (was.at entry.by) (AtNode node history entry) a outcome of (goes_along asking capacity made at_node command next is of leads ∙ ap (λ (p : Progress). Some p) at))
    ends_none (ByCommand command is other makes_it) a outcome at = none_ends a outcome (behind_node.at entry.by) (at_bystander asking entry.by (own_steps entry.by (made ++ at_node ∷ [])) command is other) at
    ends_none (ByNobody is quiet) a outcome at = none_ends a outcome (behind_node.at entry.by) (at_nobody asking entry.by (own_steps entry.by (made ++ at_node ∷ [])) is) at

    node_own : Keeps behind_node → IsMade asking made entry.by (AtNode node history entry) → Comes asking capacity made entry.by (AtNode node history entry) → Owns behind_node
    node_own keeps how comes =
        node_owns node capacity entry was behind_node (node_step asking capacity made both node history entry) (subst (λ (h : List NodeEntry). LegalNode node capacity (h ++ entry ∷ [])) comes.1 comes.3) both.0 keeps owns (ends_none how)

  -- any step
  step_owns : (by : By) (turn : Turn) → IsMade asking made by turn → Comes asking capacity made by turn → Keeps (scene_of asking (made ++ record { by = by; turn = turn } ∷ [])) → Owns (scene_of asking (made ++ record { by = by; turn = turn } ∷ []))
  step_owns by (AtDoor place act) how comes keeps = door_own by place act how
  step_owns by (AtNode node history entry) how comes keeps =
      subst (λ (b : By). IsMade asking made b (AtNode node history entry) → Comes asking capacity made b (AtNode node history entry) → Keeps (scene_of asking (made ++ record { by = b; turn = AtNode node history entry } ∷ [])) → Owns (scene_of asking (made ++ record { by = b; turn = AtNode node history entry } ∷ []))) comes.0
      (λ h c k. node_own node history entry k h c) how comes keeps
  step_owns by (AtOffice history entry) how comes keeps = absurd comes

pub steps_own : (asking : Asking) (capacity : ℕ) (made more rest : List Made) → MayCome asking capacity made (more ++ rest) → Both asking capacity made → Owns (scene_of asking made) → Owns (scene_of asking (made ++ more))
steps_own asking capacity made [] rest may both owns = subst (λ (m : List Made). Owns (scene_of asking m)) (sym (append-nil made)) owns
steps_own asking capacity made (one ∷ more) rest may both owns =
    let next = step_keeps asking capacity made both one.by one.turn may.0 may.1 in
    subst (λ (m : List Made). Owns (scene_of asking m)) (append_assoc made (one ∷ []) more)
    (steps_own asking capacity (made ++ one ∷ []) more rest may.2 next (step_owns asking capacity made both owns one.by one.turn may.0 may.1 next.0))
