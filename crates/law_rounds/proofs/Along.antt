-- A line whose positions aren't told apart.
use Rattle.std.proofs.Common.{◌≡◌, ◌++◌, ℕ, Bool, true, false, not, List, [], ◌∷◌, refl, sym, ap, ◌∙◌, append_assoc}
use Rattle.std.specs.Prelude.{IsTrue, Option, Some, None, if◌then◌else◌, is_some}
use Rattle.std.proofs.lemmas.Bool.{and_parts}
use Rattle.aft_model.specs.declared.script.Command.{Command}
use Rattle.aft_model.specs.declared.script.Command.TheVariants as commands
use Rattle.aft_lines.specs.Advance.{advance, goes_along}
use Rattle.aft_lines.specs.CourseWords.{Ends}
use Rattle.aft_lines.specs.LineCourse.{answers_last, follows_course}
use Rattle.aft_lines.specs.Progress.{Along, IsOver, NotBegun, Progress}
use Rattle.aft_lines.specs.Turns.{Turn, answer_in}
use Rattle.law_courses.specs.Led.{leads_on}
use Rattle.law_rounds.specs.Along.{is_along}

-- its steps: each is one turn more, and the last is judged
pub record GoesAlong (command : Command) (nodes : List ℕ) (ends : Ends) : Type 0 where
  pub begins : (turn : Turn) → advance command nodes ends NotBegun turn ≡ goes_along command nodes ends [] turn
  pub goes_on : (made : List Turn) (turn : Turn) → advance command nodes ends (Along made) turn ≡ goes_along command nodes ends made turn

pub goes : (command : Command) (nodes : List ℕ) (ends : Ends) → IsTrue (is_along command) → GoesAlong command nodes ends
goes (commands.Begin uuid node) nodes ends is = absurd (cc)
goes (commands.Forget uuid node) nodes ends is = absurd (cc)
goes (commands.Get key) nodes ends is = absurd (cc)
goes commands.Commit nodes ends is = absurd (cc)
goes commands.Abort nodes ends is = absurd (cc)
goes (commands.Start node) nodes ends is = absurd (cc)
goes (commands.Orphans key) nodes ends is = absurd (cc)
goes commands.Backup nodes ends is = absurd (cc)
goes command nodes ends is = record { begins = λ turn. refl; goes_on = λ made turn. refl }

module _ (command : Command) (nodes : List ℕ) (ends : Ends) (steps : GoesAlong command nodes ends) where
  abbrev on : Option Progress → List Turn → Bool
  on position line = leads_on command nodes ends position line

  -- a turn that answers is the last one
  judged : (answers : Bool) (made : List Turn) (turn : Turn) → IsTrue answers
      → on (if not answers then Some (Along (made ++ turn ∷ [])) else if follows_course command nodes ends (made ++ turn ∷ []) then Some IsOver else None) [] ≡ follows_course command nodes ends (made ++ turn ∷ [])
  judged true made turn is = passed (follows_course command nodes ends (made ++ turn ∷ []))
    where
      passed : (b : Bool) → on (if b then Some IsOver else None) [] ≡ b
      passed true = refl
      passed false = refl
  judged false made turn is = absurd (cc)

  -- and behind another one the line goes on
  waits : (answers : Bool) (made : List Turn) (turn : Turn) (line : List Turn) → IsTrue (not answers)
      → on (if not answers then Some (Along (made ++ turn ∷ [])) else if follows_course command nodes ends (made ++ turn ∷ []) then Some IsOver else None) line ≡ on (Some (Along (made ++ turn ∷ []))) line
  waits false made turn line is = refl
  waits true made turn line is = absurd (cc)

  pub along : (made line : List Turn) → IsTrue (answers_last line) → on (Some (Along made)) line ≡ follows_course command nodes ends (made ++ line)
  along made [] is = absurd (cc)
  along made (turn ∷ []) is = ap (λ (p : Option Progress). on p []) (steps.goes_on made turn) ∙ judged (is_some (answer_in turn)) made turn is
  along made (turn ∷ next ∷ line) is =
      let parts = and_parts (not (is_some (answer_in turn))) (answers_last (next ∷ line)) is in
      ap (λ (p : Option Progress). on p (next ∷ line)) (steps.goes_on made turn)
      ∙ waits (is_some (answer_in turn)) made turn (next ∷ line) parts.0
      ∙ along (made ++ turn ∷ []) (next ∷ line) parts.1
      ∙ ap (λ (l : List Turn). follows_course command nodes ends l) (append_assoc made (turn ∷ []) (next ∷ line))

  pub along_led : (line : List Turn) → IsTrue (answers_last line) → on (Some NotBegun) line ≡ follows_course command nodes ends line
  along_led [] is = absurd (cc)
  along_led (turn ∷ line) is = ap (λ (p : Option Progress). on p line) (steps.begins turn ∙ sym (steps.goes_on [] turn)) ∙ along [] (turn ∷ line) is
