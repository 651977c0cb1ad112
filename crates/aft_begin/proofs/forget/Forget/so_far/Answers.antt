use Rattle.std.proofs.Common.{◌≡◌, ◌≤◌, List, subst, ℕ}
use Rattle.std.specs.Prelude.{IsTrue, ◌≢◌}
use Rattle.aft_lines.specs.LineCourse.{answers_last}
use Rattle.aft_lines.specs.LineView.{LineView}
use Rattle.aft_model.specs.declared.caller.Hold.{Hold}
use Rattle.aft_model.specs.declared.door.DoorEntry.{DoorEntry}
use Rattle.aft_model.specs.declared.script.Command.{Command}
use Rattle.aft_begin.specs.declared.aim.Aim.TheVariants.{Forget}
use Rattle.aft_begin.specs.Made.{Made, Knows}
use Rattle.aft_begin.specs.View.{ClaimView, left_of, next_of}
use Rattle.aft_begin.proofs.OwnTurns.{asked_so}
use Rattle.aft_turns.specs.Stands.{EndsRightly, GoesRightly, HasLooked, IsUnanswered, RanSo, SeesOwn, last_sees}
use Rattle.aft_turns.specs.Trail.{Trail}
use Rattle.aft_turns.specs.declared.turn.Where.TheVariants as places
use Rattle.aft_begin.proofs.forget.Forget.so_far.Goals as goal

pub returns-clause-goes : goal.returns-clause-goes
returns-clause-goes c =
    asked_so c.self.inside.line c.args.self.now Forget c.self.view_is c.self.invariant
    (λ (line : ClaimView) (command : Command). (hold : Hold) (capacity : ℕ) (trail : Trail) (view : LineView) → Made line trail → RanSo command hold capacity trail view → (next_of line ≡ places.Done → HasLooked trail view) → GoesRightly view)
    c.so_far.ensures.goes

pub returns-clause-unanswered : goal.returns-clause-unanswered
returns-clause-unanswered c =
    asked_so c.self.inside.line c.args.self.now Forget c.self.view_is c.self.invariant
    (λ (line : ClaimView) (command : Command). (hold : Hold) (capacity : ℕ) (trail : Trail) (view : LineView) → Made line trail → RanSo command hold capacity trail view → 1 ≤ left_of line → IsUnanswered view)
    c.so_far.ensures.unanswered

pub returns-clause-ends : goal.returns-clause-ends
returns-clause-ends c =
    asked_so c.self.inside.line c.args.self.now Forget c.self.view_is c.self.invariant
    (λ (line : ClaimView) (command : Command). (hold : Hold) (capacity : ℕ) (trail : Trail) (view : LineView) → Made line trail → RanSo command hold capacity trail view → next_of line ≡ places.Done → HasLooked trail view → EndsRightly view)
    c.so_far.ensures.ends

pub returns-clause-answers : goal.returns-clause-answers
returns-clause-answers c = subst (λ (line : ClaimView). (trail : Trail) → Made line trail → next_of line ≡ places.Done → IsTrue (answers_last trail.turns)) c.self.view_is c.so_far.ensures.answers

pub returns-clause-going : goal.returns-clause-going
returns-clause-going c = subst (λ (line : ClaimView). next_of line ≢ places.Done → 1 ≤ left_of line) c.self.view_is c.so_far.ensures.going

pub returns-clause-sees : goal.returns-clause-sees
returns-clause-sees c = subst (λ (line : ClaimView). (trail : Trail) (seen : List DoorEntry) → Made line trail → SeesOwn line.by trail.turns seen → IsTrue (last_sees seen trail.turns)) c.self.view_is c.so_far.ensures.sees

pub returns-clause-knows : goal.returns-clause-knows
returns-clause-knows c = subst (λ (line : ClaimView). (trail : Trail) (seen : List DoorEntry) → Made line trail → SeesOwn line.by trail.turns seen → Knows line seen) c.self.view_is c.so_far.ensures.knows
