-- Which line owns an attempt at a moment, and whether a line has let the claim of its UUID go.
use Rattle.std.specs.Prelude.{Bool, IsTrue, None, Option, Some, if◌then◌else◌, ◌==◌, ◌||◌, ◌≡◌, ◌⊎◌}
use Rattle.aft_model.specs.declared.caller.Attempt.{Attempt}
use Rattle.aft_model.specs.declared.caller.By.{By}
use Rattle.aft_model.specs.Attempts.{AttemptState, is_committing, is_leaving, owner}
use Rattle.aft_model.specs.NodeSights.{is_fenced}
use Rattle.aft_model.specs.NodeState.{IsServing, NodeState, node_state}
use Rattle.aft_lines.specs.CourseWords.{caller_of}
use Rattle.aft_lines.specs.Holding.{is_released_by}
use Rattle.aft_lines.specs.Progress.{MustEnd, Outcome}
use Rattle.law_claims.specs.Doing.{attempt_at}
use Rattle.law_claims.specs.Scenes.{Scene, doing, named}

-- whether an attempt commits or leaves
abbrev pub is_finishing : AttemptState → Bool
is_finishing state = is_committing state || is_leaving state

-- the line that moves an attempt on, at a node in a state: none unless the node serves as its incarnation
abbrev pub owner_in : Attempt → NodeState → Option By
owner_in a (IsServing serving) = if a.inc == serving.inc then owner a serving.part else None
owner_in a state = None

-- the same at a moment
abbrev pub owned : Scene → Attempt → Option By
owned scene a = owner_in a (node_state (scene.node a.node))

-- whether a line has released the UUID of an attempt by its own entries of the door
abbrev pub has_let_go : Scene → By → Attempt → Bool
has_let_go scene by a = is_released_by (caller_of a) (named scene a) scene.door (Some by)

-- what each moment keeps besides, unless the attempt's incarnation was fenced: the line that moves an attempt which commits or leaves owns it; and a line that has only to end its attempt has let its claim go
pub record Owns (scene : Scene) : Type 0 where
  pub owners : (by : By) (a : Attempt) → attempt_at (scene.at by) ≡ Some a → IsTrue (is_finishing (doing scene a)) → IsTrue (is_fenced (caller_of a) scene.door) ⊎ (owned scene a ≡ Some by)
  pub releases : (by : By) (a : Attempt) (outcome : Outcome) → scene.at by ≡ MustEnd a outcome → IsTrue (is_fenced (caller_of a) scene.door) ⊎ IsTrue (has_let_go scene by a)
