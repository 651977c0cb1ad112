-- What a crash is answered: the incarnation that it fenced, or that none was up.
use Rattle.std.proofs.Common.{◌≡◌, ℕ, Bool, true, false, eqb, ◌&&◌, ◌||◌, List, [], ◌∷◌, refl, ap, inl, inr}
use Rattle.std.specs.Prelude.{IsTrue, Option, Some}
use Rattle.std.proofs.lemmas.Bool.{and_parts, eqb-true, false≢true, or_cases}
use Rattle.aft_model.specs.declared.door.DoorAct.TheVariants as doors
use Rattle.aft_model.specs.declared.node.NodeEntry.{NodeEntry}
use Rattle.aft_model.specs.declared.reply.Reply.{Reply}
use Rattle.aft_model.specs.declared.reply.Reply.TheVariants.{Committing, Crashed, NoMemory, NotUp}
use Rattle.aft_model.specs.declared.script.Command.TheVariants.{Crash}
use Rattle.aft_model.specs.Membership.{incarnation, same_incarnation}
use Rattle.aft_model.specs.NodeState.{service}
use Rattle.aft_lines.specs.Causes.{ExactlyCaused, cause}
use Rattle.aft_lines.specs.LineCourse.{crash_course}
use Rattle.aft_lines.specs.LineView.{LineView}
use Rattle.aft_lines.specs.Turns.{AtDoor, AtNode, AtOffice, Turn}
use Rattle.law_answers.specs.Courses.{keeps_its_course}
use Rattle.law_answers.proofs.Served.{never_served}
use Rattle.law_answers.proofs.Settled.{Settles, by_turns, with_turns}

crashed_so : (node inc at its : ℕ) → IsTrue (same_incarnation (incarnation node inc) (incarnation at its)) → Some (Crashed node inc) ≡ Some (Crashed at its)
crashed_so node inc at its is =
    let parts = and_parts (eqb node at) (eqb inc its) is in
    let n : node ≡ at = eqb-true node at parts.0 in
    let i : inc ≡ its = eqb-true inc its parts.1 in
    cc

middle_false : (a b : Bool) → IsTrue ((a && false) && b) → ⊥
middle_false true b is = false≢true is
middle_false false b is = false≢true is

module _ (view : LineView) (asked : ℕ) where
  module _ (place at its node : ℕ) (before : List NodeEntry) (entry : NodeEntry) where
    fence_settles : Settles (with_turns view (Crash asked) (AtDoor place (doors.Fence at its) ∷ AtNode node before entry ∷ [])) (Some (Crashed at its))
    fence_settles (Crashed which inc) caused =
        let parts = and_parts (eqb which asked) (same_incarnation (incarnation which inc) (incarnation at its) || false) caused in
        inr (elim (or_cases (same_incarnation (incarnation which inc) (incarnation at its)) false parts.1) [
          | inl same ↦ crashed_so which inc at its same
          | inr none ↦ absurd (false≢true none)
        ])
    fence_settles (NotUp which) caused = absurd (middle_false (eqb which asked) _ caused)
    fence_settles Committing caused = absurd (never_served view.hold.attempt (service before) caused)
    fence_settles NoMemory caused = inl refl
    fence_settles reply caused = absurd (false≢true caused)

  module _ (node : ℕ) (before : List NodeEntry) (entry : NodeEntry) where
    alone_settles : Settles (with_turns view (Crash asked) (AtNode node before entry ∷ [])) (Some (NotUp asked))
    alone_settles (Crashed which inc) caused = absurd (false≢true (and_parts (eqb which asked) false caused).1)
    alone_settles (NotUp which) caused =
        let parts = and_parts (eqb which asked && true) _ caused in
        inr (ap (λ (n : ℕ). Some (NotUp n)) (eqb-true which asked (and_parts (eqb which asked) true parts.0).0))
    alone_settles Committing caused = absurd (never_served view.hold.attempt (service before) caused)
    alone_settles NoMemory caused = inl refl
    alone_settles reply caused = absurd (false≢true caused)

crashes_settle : (view : LineView) (asked : ℕ) (turns : List Turn) → IsTrue (crash_course asked turns) → (answer : Option Reply) × Settles (with_turns view (Crash asked) turns) answer
crashes_settle view asked (AtNode node before entry ∷ []) follows = (Some (NotUp asked), alone_settles view asked node before entry)
crashes_settle view asked (AtDoor place (doors.Fence at its) ∷ AtNode node before entry ∷ []) follows = (Some (Crashed at its), fence_settles view asked place at its node before entry)
crashes_settle view asked (AtDoor place (doors.Fence at its) ∷ AtNode node before entry ∷ turn ∷ line) follows = absurd (false≢true (and_parts (eqb asked at) false follows).1)
crashes_settle view asked (AtDoor place (doors.Fence at its) ∷ AtDoor other act ∷ line) follows = absurd (false≢true (and_parts (eqb asked at) false follows).1)
crashes_settle view asked (AtDoor place (doors.Fence at its) ∷ AtOffice before entry ∷ line) follows = absurd (false≢true (and_parts (eqb asked at) false follows).1)
crashes_settle view asked (AtDoor place (doors.Fence at its) ∷ []) follows = absurd (false≢true (and_parts (eqb asked at) false follows).1)
crashes_settle view asked (AtNode node before entry ∷ turn ∷ line) follows = absurd (false≢true follows)
crashes_settle view asked (AtDoor place act ∷ line) follows = absurd (false≢true follows)
crashes_settle view asked (AtOffice before entry ∷ line) follows = absurd (false≢true follows)
crashes_settle view asked [] follows = absurd (false≢true follows)

pub crashes_exact : (asked : ℕ) (view : LineView) (reply : Reply) → view.command ≡ Crash asked → IsTrue (keeps_its_course view) → IsTrue (cause view reply) → ExactlyCaused view reply
crashes_exact asked view reply e keeps caused = by_turns view (Crash asked) reply e keeps caused (crashes_settle view asked)
