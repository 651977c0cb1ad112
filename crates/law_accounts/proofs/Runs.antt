-- An account is a run so far.
use Rattle.std.proofs.Common.{Bool}
use Rattle.std.specs.Prelude.{IsTrue, is_some, not, ◌&&◌, ◌||◌}
use Rattle.std.specs.List.{list_all}
use Rattle.std.proofs.lemmas.Bool.{and_from, and_parts}
use Rattle.aft_model.proofs.Histories.{In}
use Rattle.aft_model.proofs.Lists.{all_from}
use Rattle.aft_model.specs.Opening.{opening}
use Rattle.aft_model.specs.ScanRun.{same_line}
use Rattle.aft_model.specs.declared.script.Line.{Line}
use Rattle.aft_lines.specs.Asked.{Asked, Ran}
use Rattle.aft_lines.specs.CausesAttempts.{speaks_of_attempt}
use Rattle.aft_lines.specs.LegalTrace.{begin_behind_opening, is_of_lines, makers, opens_first, turn_of}
use Rattle.aft_lines.specs.LineView.{LineView}
use Rattle.aft_lines.specs.Lines.{lines, node_numbers}
use Rattle.aft_lines.specs.Makes.{makes}
use Rattle.aft_lines.specs.OpeningCourse.{opening_begins, opening_course}
use Rattle.aft_lines.specs.RunsSoFar.{RunsSoFar, is_stopped_rightly, opens_so, position_of}
use Rattle.aft_lines.specs.Turns.{turns}
use Rattle.aft_lines.specs.Views.{each_view, view_of}
use Rattle.law_rounds.proofs.Openings.{whole_opening}
use Rattle.law_accounts.specs.Account.{Account, GoesAlong, Stand}

-- a test that the view of each line passes
pub each_line : (asked : Asked) (ran : Ran) (Holds : LineView → Type 0) → ((line : Line) → In line (lines asked) → Holds (view_of asked ran line))
    → (test : LineView → Bool) → ((view : LineView) → Holds view → IsTrue (test view)) → IsTrue (each_view test asked ran)
each_line asked ran Holds holds test passes = all_from (λ (line : Line). test (view_of asked ran line)) (lines asked) (λ line among. passes (view_of asked ran line) (holds line among))

pub account_runs : (asked : Asked) (ran : Ran) (stand : Line → Stand) → Account asked ran stand → RunsSoFar asked ran
account_runs asked ran stand account = record {
  settings = account.settings;
  bytes = account.bytes;
  door = account.door;
  nodes = account.nodes;
  opening = opens;
  lines = each_line asked ran GoesAlong account.going (λ view. is_some (position_of view)) (λ view goes. goes.leads);
  makes = each_line asked ran GoesAlong account.going (λ view. list_all (makes view.command) view.turns) (λ view goes. goes.makes);
  stopped = each_line asked ran GoesAlong account.going (λ view. is_stopped_rightly view.seen view.turns (position_of view)) (λ view goes. goes.stopped);
  attempts = each_line asked ran GoesAlong account.going (λ view. not (speaks_of_attempt view.command) || list_all (turn_of view.hold.attempt) view.turns) (λ view goes. goes.speaks);
  give_ups = account.give_ups;
}
  where
    first_two : (a b c d e : Bool) → IsTrue (a && b && c && d && e) → IsTrue a × IsTrue b
    first_two a b c d e is = and_parts a b (and_parts (a && b) c (and_parts (a && b && c) d (and_parts (a && b && c && d) e is).0).0).0

    opens : IsTrue (opens_so asked ran)
    opens =
        let of_lines = list_all (list_all (is_of_lines (lines asked))) (makers ran) in
        let parts = first_two of_lines (opening_course (node_numbers asked.settings) (turns opening ran.trace)) (list_all opens_first (makers ran)) (begin_behind_opening ran.trace) (list_all (list_all (λ entry. not (same_line opening entry.by))) ran.mail) account.opens in
        and_from of_lines (opening_begins (node_numbers asked.settings) (turns opening ran.trace)) parts.0 (whole_opening (node_numbers asked.settings) (turns opening ran.trace) parts.1)
