-- An account in which each line is over is a legal trace.
use Rattle.std.proofs.Common.{List, ap, false, refl, sym, true, ℕ, ◌∙◌, ◌≡◌}
use Rattle.std.specs.Prelude.{IsTrue, length, ◌==◌}
use Rattle.std.specs.List.{list_all}
use Rattle.std.proofs.lemmas.Bool.{and_from}
use Rattle.aft_model.proofs.Histories.{In}
use Rattle.aft_model.proofs.Lists.{all_from}
use Rattle.aft_model.specs.Membership.{the_office}
use Rattle.aft_model.specs.declared.reply.Reply.{Reply}
use Rattle.aft_model.specs.declared.script.Command.{Command}
use Rattle.aft_model.specs.declared.script.Line.{Line}
use Rattle.aft_lines.specs.Advance.{is_led_to_end, leads_to}
use Rattle.aft_lines.specs.Asked.{Asked, Ran}
use Rattle.aft_lines.specs.Causes.{cause}
use Rattle.aft_lines.specs.CourseWords.{Ends}
use Rattle.aft_lines.specs.FinishedText.{answers_of, line_of}
use Rattle.aft_lines.specs.LegalTrace.{LegalTrace, answered_once, named_node, stands_at, turn_words}
use Rattle.aft_lines.specs.LineCourse.{answers_last, follows_course, keeps_course}
use Rattle.aft_lines.specs.LinePosts.{keeps_mail}
use Rattle.aft_lines.specs.LineView.{LineView, ends_of}
use Rattle.aft_lines.specs.Lines.{lines, node_numbers}
use Rattle.aft_lines.specs.Turns.{Turn, turns}
use Rattle.aft_lines.specs.Views.{have_causes, view_of}
use Rattle.law_courses.proofs.Begins.{begin_led, forget_led}
use Rattle.law_courses.proofs.Gets.{get_led}
use Rattle.law_finish.proofs.Finish.{finish_led}
use Rattle.law_rounds.proofs.Along.{along_led, goes}
use Rattle.law_rounds.proofs.Copies.{backup_led}
use Rattle.law_rounds.proofs.Orphans.{orphans_led}
use Rattle.law_rounds.proofs.Starts.{start_led}
use Rattle.law_accounts.proofs.OneAnswer.{OneAnswer, one_answer}
use Rattle.law_accounts.proofs.Runs.{account_runs, each_line}
use Rattle.law_accounts.specs.Account.{Account, ComesToEnd, GoesAlong, IsDone, Stand, last_answer}
use Rattle.aft_model.specs.declared.script.Command.TheVariants as commands

-- turns that answer last and whose positions end are the course of their command
led_course : (command : Command) (nodes : List ℕ) (ends : Ends) (line : List Turn) → ends.is_shut_out the_office 0 ≡ false → IsTrue (answers_last line) → IsTrue (is_led_to_end (leads_to command nodes ends line)) → IsTrue (follows_course command nodes ends line)
led_course (commands.Begin uuid node) nodes ends line up last led = begin_led uuid node nodes ends line ∙ led
led_course (commands.Forget uuid node) nodes ends line up last led = forget_led uuid node nodes ends line ∙ led
led_course (commands.Get key) nodes ends line up last led = get_led key nodes ends line ∙ led
led_course commands.Commit nodes ends line up last led = finish_led nodes ends false line ∙ led
led_course commands.Abort nodes ends line up last led = finish_led nodes ends true line ∙ led
led_course (commands.Start node) nodes ends line up last led = start_led node nodes ends line ∙ led
led_course (commands.Orphans key) nodes ends line up last led = orphans_led key nodes ends up line ∙ led
led_course commands.Backup nodes ends line up last led = backup_led nodes ends line ∙ led
led_course command nodes ends line up last led = sym (along_led command nodes ends (goes command nodes ends refl) line last) ∙ led

keeps : (view : LineView) → ComesToEnd view → IsTrue (keeps_course view.command (node_numbers view.settings) (ends_of view) view.turns)
keeps view ended =
    and_from (answers_last view.turns) (follows_course view.command (node_numbers view.settings) (ends_of view) view.turns) ended.answers
    (led_course view.command (node_numbers view.settings) (ends_of view) view.turns refl ended.answers ended.leads)

pub account_ends : (asked : Asked) (ran : Ran) (stand : Line → Stand) → Account asked ran stand → ((line : Line) → In line (lines asked) → stand line ≡ IsDone) → LegalTrace asked ran
account_ends asked ran stand account done = record {
  settings = account.settings;
  bytes = account.bytes;
  door = account.door;
  nodes = account.nodes;
  office = account.office;
  boxes = account.boxes;
  opening = account.opens;
  courses = each_line asked ran ComesToEnd ended (λ view. keeps_course view.command (node_numbers view.settings) (ends_of view) view.turns) keeps;
  posts = each_line asked ran ComesToEnd ended (λ view. keeps_mail view.command (node_numbers view.settings) view.turns view.posts) (λ view it. it.posts);
  answers = answers;
  words = each_line asked ran GoesAlong account.going (λ view. list_all (turn_words view.command) view.turns) (λ view along. along.words);
  places = each_line asked ran GoesAlong account.going (λ view. list_all (stands_at (named_node view.command view.hold)) view.turns) (λ view along. along.places);
  attempts = (account_runs asked ran stand account).attempts;
  clock = account.clock;
  clients = account.clients;
  whole_lines = account.whole_lines;
  asks_last = account.asks_last;
  give_ups = account.give_ups;
  causes = causes;
}
  where
    ended : (line : Line) → In line (lines asked) → ComesToEnd (view_of asked ran line)
    ended line among = account.over line among (done line among)

    one : (line : Line) → In line (lines asked) → OneAnswer (answers_of (line_of line) ran) (last_answer (turns (line_of line) ran.trace))
    one line among = one_answer (line_of line) ran (ended line among).answers

    answers : IsTrue (answered_once asked ran)
    answers = all_from (λ (line : Line). length (answers_of (line_of line) ran) == 1) (lines asked) (λ line among. ap (λ (replies : List Reply). length replies == 1) (one line among).alone)

    causes : IsTrue (have_causes asked ran)
    causes =
        all_from (λ (line : Line). list_all (cause (view_of asked ran line)) (answers_of (line_of line) ran)) (lines asked) (λ line among.
        let answer = one line among in
        ap (list_all (cause (view_of asked ran line))) answer.alone ∙ and_from (cause (view_of asked ran line) answer.reply) true ((ended line among).caused ran.trace.nodes answer.reply (λ collects. refl) answer.is_last) refl)
