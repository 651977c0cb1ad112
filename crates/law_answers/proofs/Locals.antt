-- What a local collection is answered: how many commits may be dropped in the service of its node.
use Rattle.std.proofs.Common.{◌≡◌, ℕ, eqb, List, [], ◌∷◌, refl, ap, inl, inr}
use Rattle.std.specs.Prelude.{IsTrue, Option, Some, None, length}
use Rattle.std.proofs.lemmas.Bool.{eqb-true, false≢true}
use Rattle.aft_model.specs.declared.node.NodeEntry.{NodeEntry}
use Rattle.aft_model.specs.declared.reply.Reply.{Reply}
use Rattle.aft_model.specs.declared.reply.Reply.TheVariants.{Committing, Dropped, NoMemory, NodeDown}
use Rattle.aft_model.specs.declared.script.Command.TheVariants.{Local}
use Rattle.aft_model.specs.Known.{droppable}
use Rattle.aft_model.specs.NodeState.{Service, in_service, service}
use Rattle.aft_lines.specs.Causes.{ExactlyCaused, cause}
use Rattle.aft_lines.specs.LineCourse.{drops_or_answers, single_course}
use Rattle.aft_lines.specs.LineView.{LineView}
use Rattle.aft_lines.specs.Turns.{AtDoor, AtNode, AtOffice, Turn}
use Rattle.law_answers.specs.Courses.{keeps_its_course}
use Rattle.law_answers.proofs.Served.{never_served}
use Rattle.law_answers.proofs.Settled.{Settles, by_turns, with_turns}

abbrev told_to_local : Option Service → Option Reply
told_to_local None = None
told_to_local (Some serving) = Some (Dropped (length (droppable serving)))

dropped_so : (count : ℕ) (found : Option Service) → IsTrue (in_service (λ serving. eqb count (length (droppable serving))) found) → Some (Dropped count) ≡ told_to_local found
dropped_so count None is = absurd (false≢true is)
dropped_so count (Some serving) is = ap (λ (n : ℕ). Some (Dropped n)) (eqb-true count (length (droppable serving)) is)

module _ (view : LineView) (at node : ℕ) (before : List NodeEntry) (entry : NodeEntry) where
  local_settles : Settles (with_turns view (Local at) (AtNode node before entry ∷ [])) (told_to_local (service before))
  local_settles (Dropped count) caused = inr (dropped_so count (service before) caused)
  local_settles (NodeDown down inc) caused = inl refl
  local_settles Committing caused = absurd (never_served view.hold.attempt (service before) caused)
  local_settles NoMemory caused = inl refl
  local_settles reply caused = absurd (false≢true caused)

locals_settle : (view : LineView) (at : ℕ) (turns : List Turn) → IsTrue (single_course drops_or_answers turns) → (answer : Option Reply) × Settles (with_turns view (Local at) turns) answer
locals_settle view at (AtNode node before entry ∷ []) follows = (told_to_local (service before), local_settles view at node before entry)
locals_settle view at (AtNode node before entry ∷ turn ∷ line) follows = absurd (false≢true follows)
locals_settle view at (AtDoor place act ∷ line) follows = absurd (false≢true follows)
locals_settle view at (AtOffice before entry ∷ line) follows = absurd (false≢true follows)
locals_settle view at [] follows = absurd (false≢true follows)

pub locals_exact : (at : ℕ) (view : LineView) (reply : Reply) → view.command ≡ Local at → IsTrue (keeps_its_course view) → IsTrue (cause view reply) → ExactlyCaused view reply
locals_exact at view reply e keeps caused = by_turns view (Local at) reply e keeps caused (locals_settle view at)
