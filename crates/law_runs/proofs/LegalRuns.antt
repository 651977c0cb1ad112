-- What runs so far and legal traces have in common.
use Rattle.std.proofs.Common.{Bool, List, false, not, refl, sym, true, ℕ, ◌&&◌, ◌∙◌, ◌≡◌}
use Rattle.aft_lines.specs.Advance.{is_led_to_end, leads_to}
use Rattle.aft_lines.specs.Asked.{Asked, Ran}
use Rattle.aft_lines.specs.CourseWords.{Ends}
use Rattle.aft_lines.specs.FinishedText.{line_of}
use Rattle.aft_lines.specs.LegalTrace.{LegalTrace, begin_behind_opening, is_of_lines, makers, opens_first}
use Rattle.aft_lines.specs.LineCourse.{answers_last, follows_course}
use Rattle.aft_lines.specs.LineView.{ends_of}
use Rattle.aft_lines.specs.Lines.{lines, node_numbers}
use Rattle.aft_lines.specs.OpeningCourse.{opening_begins, opening_course}
use Rattle.aft_lines.specs.Progress.{Progress}
use Rattle.aft_lines.specs.RunsSoFar.{RunsSoFar, all_lead_somewhere, opens_so, position_of}
use Rattle.aft_lines.specs.Turns.{Turn, turns}
use Rattle.aft_lines.specs.Views.{view_of}
use Rattle.aft_model.proofs.Histories.{all_at}
use Rattle.aft_model.proofs.Lists.{all_from}
use Rattle.aft_model.specs.Membership.{the_office}
use Rattle.aft_model.specs.Opening.{opening}
use Rattle.aft_model.specs.ScanRun.{same_line}
use Rattle.aft_model.specs.declared.script.Command.{Command}
use Rattle.aft_model.specs.declared.script.Line.{Line}
use Rattle.law_courses.proofs.Begins.{begin_led, forget_led}
use Rattle.law_courses.proofs.Gets.{get_led}
use Rattle.law_finish.proofs.Finish.{finish_led}
use Rattle.law_makes.proofs.Runs.{legal_make}
use Rattle.law_rounds.proofs.Along.{along_led, goes}
use Rattle.law_rounds.proofs.Copies.{backup_led}
use Rattle.law_rounds.proofs.Openings.{whole_opening}
use Rattle.law_rounds.proofs.Orphans.{orphans_led}
use Rattle.law_rounds.proofs.Starts.{start_led}
use Rattle.law_runs.specs.Runs.{Goes}
use Rattle.std.proofs.lemmas.Bool.{and_from, and_parts, false≢true}
use Rattle.std.specs.List.{list_all}
use Rattle.std.specs.Prelude.{IsTrue, None, Option, Some, is_some}
use Rattle.aft_model.specs.declared.script.Command.TheVariants as commands

pub course_led : (command : Command) (nodes : List ℕ) (ends : Ends) (line : List Turn) → ends.is_shut_out the_office 0 ≡ false → IsTrue (answers_last line) → IsTrue (follows_course command nodes ends line) → IsTrue (is_led_to_end (leads_to command nodes ends line))
course_led (commands.Begin uuid node) nodes ends line up last is = sym (begin_led uuid node nodes ends line) ∙ is
course_led (commands.Forget uuid node) nodes ends line up last is = sym (forget_led uuid node nodes ends line) ∙ is
course_led (commands.Get key) nodes ends line up last is = sym (get_led key nodes ends line) ∙ is
course_led commands.Commit nodes ends line up last is = sym (finish_led nodes ends false line) ∙ is
course_led commands.Abort nodes ends line up last is = sym (finish_led nodes ends true line) ∙ is
course_led (commands.Start node) nodes ends line up last is = sym (start_led node nodes ends line) ∙ is
course_led (commands.Orphans key) nodes ends line up last is = sym (orphans_led key nodes ends up line) ∙ is
course_led commands.Backup nodes ends line up last is = sym (backup_led nodes ends line) ∙ is
course_led command nodes ends line up last is = along_led command nodes ends (goes command nodes ends refl) line last ∙ is

led_somewhere : (o : Option Progress) → IsTrue (is_led_to_end o) → IsTrue (is_some o)
led_somewhere None is = absurd (false≢true is)
led_somewhere (Some p) is = refl

pub so_far_goes : (asked : Asked) (ran : Ran) → RunsSoFar asked ran → Goes asked ran
so_far_goes asked ran so = record {
  settings = so.settings;
  bytes = so.bytes;
  door = so.door;
  nodes = so.nodes;
  opening = so.opening;
  lines = so.lines;
  makes = so.makes;
  give_ups = so.give_ups;
}

pub legal_goes : (asked : Asked) (ran : Ran) → LegalTrace asked ran → Goes asked ran
legal_goes asked ran legal = record {
  settings = legal.settings;
  bytes = legal.bytes;
  door = legal.door;
  nodes = legal.nodes;
  opening = opens;
  lines = leads;
  makes = legal_make asked ran legal;
  give_ups = legal.give_ups;
}
  where
    first_two : (a b c d e : Bool) → IsTrue (a && b && c && d && e) → IsTrue a × IsTrue b
    first_two true true c d e is = (refl, refl)
    first_two true false c d e is = absurd (false≢true is)
    first_two false b c d e is = absurd (false≢true is)

    opens : IsTrue (opens_so asked ran)
    opens =
        let parts = first_two (list_all (list_all (is_of_lines (lines asked))) (makers ran)) (opening_course (node_numbers asked.settings) (turns opening ran.trace)) (list_all opens_first (makers ran)) (begin_behind_opening ran.trace) (list_all (list_all (λ entry. not (same_line opening entry.by))) ran.mail) legal.opening in
        and_from (list_all (list_all (is_of_lines (lines asked))) (makers ran)) (opening_begins (node_numbers asked.settings) (turns opening ran.trace)) parts.0 (whole_opening (node_numbers asked.settings) (turns opening ran.trace) parts.1)

    leads : IsTrue (all_lead_somewhere asked ran)
    leads = all_from (λ (l : Line). is_some (position_of (view_of asked ran l))) (lines asked) (λ l among.
        let keeps = all_at (λ (k : Line). answers_last (turns (line_of k) ran.trace) && follows_course k.order (node_numbers asked.settings) (ends_of (view_of asked ran k)) (turns (line_of k) ran.trace)) l (lines asked) among legal.courses in
        let parts = and_parts (answers_last (turns (line_of l) ran.trace)) (follows_course l.order (node_numbers asked.settings) (ends_of (view_of asked ran l)) (turns (line_of l) ran.trace)) keeps in
        led_somewhere (position_of (view_of asked ran l)) (course_led l.order (node_numbers asked.settings) (ends_of (view_of asked ran l)) (turns (line_of l) ran.trace) refl parts.0 parts.1))
