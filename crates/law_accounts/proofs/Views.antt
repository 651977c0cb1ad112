-- The view of a line when another adds an entry: it stays, but for the histories of the nodes.
use Rattle.std.proofs.Common.{◌≡◌, ◌≤◌, ◌<◌, ℕ, Bool, ◌&&◌, List, [], ◌∷◌, take, refl, ap, ◌∙◌, eqb}
use Rattle.std.specs.Prelude.{IsFalse, IsTrue, Option, None, Some, filter, length, nat_lt}
use Rattle.std.proofs.lemmas.Bool.{and_parts, eqb-true, ltb-true}
use Rattle.std.proofs.lemmas.List.{take-append-le}
use Rattle.aft_model.specs.declared.caller.Hold.{Hold}
use Rattle.aft_model.specs.declared.door.DoorEntry.{DoorEntry}
use Rattle.aft_model.specs.declared.script.Line.{Line}
use Rattle.aft_model.specs.Opening.{opening}
use Rattle.aft_model.specs.ScanRun.{same_line}
use Rattle.aft_lines.specs.Asked.{Asked, Ran}
use Rattle.aft_lines.specs.FinishedText.{line_of}
use Rattle.aft_lines.specs.LinePosts.{AtBox, posts_of}
use Rattle.aft_lines.specs.LineView.{LineView}
use Rattle.aft_lines.specs.Lines.{attempt_of, begins, begun_at, earlier_lines, hold_after, hold_before, last_begin, lines, whole_order}
use Rattle.aft_lines.specs.Turns.{Turn, end_front, turns}
use Rattle.aft_lines.specs.Views.{answered_front, line_before, ran_earlier, view_of}
use Rattle.law_accounts.proofs.Others.{posts_same, turns_same}
use Rattle.law_accounts.specs.Account.{beside}
use Rattle.law_accounts.specs.Adding.{AddsAtBox, AddsAtDoor, AddsAtNode, AddsAtOffice, Added, maker_of, with_added}
use Rattle.law_grows.proofs.Views.{if_there, kept_by, kept_so, last_so}

-- what had been seen of the door's history stays
seen_same : (ran : Ran) (added : Added) (front : ℕ) → front ≤ length ran.trace.door → take front (with_added added ran).trace.door ≡ take front ran.trace.door
seen_same ran (AddsAtDoor entry) front low = take-append-le front ran.trace.door (entry ∷ []) low
seen_same ran (AddsAtNode node entry) front low = refl
seen_same ran (AddsAtOffice entry) front low = refl
seen_same ran (AddsAtBox box entry) front low = refl

-- a line, and what is added by none that is an earlier line of its client, or the opening
module _ (asked : Asked) (ran : Ran) (added : Added) (line : Line) (none_before : (other : Line) → other.client ≡ line.client → other.number < line.number → IsFalse (same_line (line_of other) (maker_of added)))
    (not_opening : IsFalse (same_line opening (maker_of added))) where
  abbrev new : Ran
  new = with_added added ran

  abbrev is_earlier : Line → Bool
  is_earlier other = eqb other.client line.client && nat_lt other.number line.number

  earlier_same : (other : Line) → IsTrue (is_earlier other) → turns (line_of other) new.trace ≡ turns (line_of other) ran.trace
  earlier_same other so =
      let parts = and_parts (eqb other.client line.client) (nat_lt other.number line.number) so in
      turns_same (line_of other) ran added (none_before other (eqb-true other.client line.client parts.0) (ltb-true other.number line.number parts.1))

  begin_same : (begin : Option Line) → IsTrue (if_there is_earlier begin) → hold_after new.trace begin ≡ hold_after ran.trace begin
  begin_same None so = refl
  begin_same (Some begin) so = ap (λ (l : List Turn). record { node = begun_at begin.order; attempt = attempt_of l }) (earlier_same begin so)

  front_same : (before : Option Line) → IsTrue (if_there is_earlier before) → answered_front new.trace before ≡ answered_front ran.trace before
  front_same None so = ap (λ (l : List Turn). end_front l) (turns_same opening ran added not_opening)
  front_same (Some before) so = ap (λ (l : List Turn). end_front l) (earlier_same before so)

  -- its client holds what it held, and its answer before had seen what it had
  pub hold_same : hold_before (lines asked) new.trace line ≡ hold_before (lines asked) ran.trace line
  hold_same = begin_same (last_begin (lines asked) line) (last_so is_earlier (filter (λ other. begins other.order) (earlier_lines (lines asked) line)) None refl (kept_by (λ other. begins other.order) is_earlier (earlier_lines (lines asked) line) (kept_so is_earlier (lines asked))))

  pub since_same : answered_front new.trace (line_before (lines asked) line) ≡ answered_front ran.trace (line_before (lines asked) line)
  since_same = front_same (line_before (lines asked) line) (last_so is_earlier (earlier_lines (lines asked) line) None refl (kept_so is_earlier (lines asked)))

  -- a view by what it reads of the run
  abbrev built : Hold → List Turn → List AtBox → ℕ → List DoorEntry → LineView
  built hold its posts since seen = record {
    by = line_of line;
    command = line.order;
    hold = hold;
    settings = asked.settings;
    clock = asked.clock;
    turns = its;
    posts = posts;
    since = since;
    seen = seen;
    nodes = new.trace.nodes;
    before = ran_earlier line (whole_order asked);
  }

  -- where the line adds nothing itself
  pub view_same : IsFalse (same_line (line_of line) (maker_of added)) → end_front (turns (line_of line) ran.trace) ≤ length ran.trace.door → view_of asked new line ≡ beside new.trace.nodes (view_of asked ran line)
  view_same not_own low =
      ap (λ (h : Hold). built h (turns (line_of line) new.trace) (posts_of (line_of line) line.order new.mail) (answered_front new.trace (line_before (lines asked) line)) (take (end_front (turns (line_of line) new.trace)) new.trace.door)) hold_same
      ∙ ap (λ (l : List Turn). built (hold_before (lines asked) ran.trace line) l (posts_of (line_of line) line.order new.mail) (answered_front new.trace (line_before (lines asked) line)) (take (end_front l) new.trace.door)) (turns_same (line_of line) ran added not_own)
      ∙ ap (λ (p : List AtBox). built (hold_before (lines asked) ran.trace line) (turns (line_of line) ran.trace) p (answered_front new.trace (line_before (lines asked) line)) (take (end_front (turns (line_of line) ran.trace)) new.trace.door))
      (posts_same (line_of line) line.order ran added not_own)
      ∙ ap (λ (n : ℕ). built (hold_before (lines asked) ran.trace line) (turns (line_of line) ran.trace) (posts_of (line_of line) line.order ran.mail) n (take (end_front (turns (line_of line) ran.trace)) new.trace.door)) since_same
      ∙ ap (λ (h : List DoorEntry). built (hold_before (lines asked) ran.trace line) (turns (line_of line) ran.trace) (posts_of (line_of line) line.order ran.mail) (answered_front ran.trace (line_before (lines asked) line)) h)
      (seen_same ran added (end_front (turns (line_of line) ran.trace)) low)
