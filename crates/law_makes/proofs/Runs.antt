-- The lines of a legal trace.
use Rattle.std.proofs.Common.{◌≡◌, Bool, true, false, ◌&&◌, ◌||◌, not, List, [], ◌∷◌, refl, ap}
use Rattle.std.specs.Prelude.{IsTrue, Option, Some, None, is_some}
use Rattle.std.specs.List.{list_all}
use Rattle.std.proofs.lemmas.Bool.{and_from, and_parts, or_right}
use Rattle.aft_model.specs.declared.script.Line.{Line}
use Rattle.aft_lines.specs.Asked.{Asked, Ran}
use Rattle.aft_lines.specs.LegalTrace.{LegalTrace}
use Rattle.aft_lines.specs.LineCourse.{answers_last, follows_course}
use Rattle.aft_lines.specs.LineView.{LineView, ends_of}
use Rattle.aft_lines.specs.Lines.{lines, node_numbers}
use Rattle.aft_lines.specs.RunsSoFar.{all_make}
use Rattle.aft_lines.specs.Views.{each_view, view_of}
use Rattle.aft_lines.specs.Makes.{makes}
use Rattle.law_makes.proofs.Whole.{courses_make}

-- a test of each view that passes where another does
each_too : (one other : LineView → Bool) → ((view : LineView) → IsTrue (one view) → IsTrue (other view)) → (asked : Asked) (ran : Ran) → IsTrue (each_view one asked ran) → IsTrue (each_view other asked ran)
each_too one other so asked ran is = all (lines asked) is
  where
    all : (some : List Line) → IsTrue (list_all (λ line. one (view_of asked ran line)) some) → IsTrue (list_all (λ line. other (view_of asked ran line)) some)
    all [] ok = refl
    all (line ∷ some) ok = (let parts = and_parts (one (view_of asked ran line)) (list_all (λ l. one (view_of asked ran l)) some) ok in and_from _ _ (so (view_of asked ran line) parts.0) (all some parts.1))

pub legal_make : (asked : Asked) (ran : Ran) → LegalTrace asked ran → IsTrue (all_make asked ran)
legal_make asked ran legal =
    each_too (λ view. answers_last view.turns && follows_course view.command (node_numbers view.settings) (ends_of view) view.turns) (λ view. list_all (makes view.command) view.turns)
    (λ view is. courses_make view.command (node_numbers view.settings) (ends_of view) view.turns refl (and_parts (answers_last view.turns) (follows_course view.command (node_numbers view.settings) (ends_of view) view.turns) is).1) asked ran legal.courses
