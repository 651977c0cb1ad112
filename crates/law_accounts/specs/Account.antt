-- The account of a run on its way: what its histories are, and how each of its lines stands.
use Rattle.std.specs.Prelude.{Bool, IsFalse, IsTrue, List, None, Option, Some, is_some, not, ◌<◌, ◌||◌, ◌≡◌, ◌⊎◌}
use Rattle.std.specs.List.{fold, list_all}
use Rattle.aft_model.proofs.Histories.{In}
use Rattle.aft_model.specs.declared.node.NodeEntry.{NodeEntry}
use Rattle.aft_model.specs.declared.reply.Reply.{Reply}
use Rattle.aft_model.specs.declared.script.Line.{Line}
use Rattle.aft_model.specs.Boxes.{is_legal_box}
use Rattle.aft_model.specs.Bytes.{HasBytes}
use Rattle.aft_model.specs.DoorKnowledge.{is_open}
use Rattle.aft_model.specs.LegalDoor.{Legal}
use Rattle.aft_model.specs.Office.{is_legal_office}
use Rattle.aft_model.specs.Opening.{opening}
use Rattle.aft_model.specs.ScanRun.{same_line}
use Rattle.aft_lines.specs.Advance.{is_led_to_end}
use Rattle.aft_lines.specs.Asked.{Asked, Ran}
use Rattle.aft_lines.specs.Causes.{Caused}
use Rattle.aft_lines.specs.CausesAttempts.{speaks_of_attempt}
use Rattle.aft_lines.specs.CausesRounds.{is_collect}
use Rattle.aft_lines.specs.FinishedText.{line_of}
use Rattle.aft_lines.specs.LegalTrace.{are_legal_nodes, asked_last, clients_in_order, fits_settings, give_ups_backed, makers, named_node, opens_as_asked, ran_as_ordered, read_clock, stands_at, turn_of, turn_words}
use Rattle.aft_lines.specs.LineCourse.{answers_last}
use Rattle.aft_lines.specs.LinePosts.{keeps_mail}
use Rattle.aft_lines.specs.LineView.{LineView}
use Rattle.aft_lines.specs.Lines.{lines, node_numbers, whole_order}
use Rattle.aft_lines.specs.Makes.{makes}
use Rattle.aft_lines.specs.RunsSoFar.{is_stopped_rightly, position_of}
use Rattle.aft_lines.specs.Turns.{Turn, answer_in}
use Rattle.aft_lines.specs.Views.{view_of}
use Rattle.law_held.specs.Desk.{LinesDiffer}
use Rattle.law_accounts.specs.Adding.{AddsAtNode, Added}

-- how a line stands: it has yet to begin, it runs, or it is over
pub data Stand : Type 0 where
  Waits : Stand
  Runs : Stand
  IsDone : Stand

-- ---- a line

-- a line as it has run so far: its turns lead somewhere in its course, and where they stop in the middle of it have seen why; they are such as lines of its command make, carry its words, stand at its node, and speak of the attempt that its client holds
pub record GoesAlong (view : LineView) : Type 0 where
  pub leads : IsTrue (is_some (position_of view))
  pub stopped : IsTrue (is_stopped_rightly view.seen view.turns (position_of view))
  pub makes : IsTrue (list_all (makes view.command) view.turns)
  pub words : IsTrue (list_all (turn_words view.command) view.turns)
  pub places : IsTrue (list_all (stands_at (named_node view.command view.hold)) view.turns)
  pub speaks : IsTrue (not (speaks_of_attempt view.command) || list_all (turn_of view.hold.attempt) view.turns)

-- what the last of some turns answered
abbrev pub last_answer : List Turn → Option Reply
last_answer line = fold (λ before turn. answer_in turn) None line

-- a line as it ran beside nodes with these histories
abbrev pub beside : List (List NodeEntry) → LineView → LineView
beside nodes view = record view { nodes = nodes }

-- histories of the nodes beside which a line has the cause of what it answered: any, but those of the run itself for a collection, which alone reads them
abbrev pub MayBeside : LineView → List (List NodeEntry) → Type 0
MayBeside view nodes = IsTrue (is_collect view.command) → nodes ≡ view.nodes

-- a line that is over: its turns are its course, the last answers and no other, the boxes have what it is to do there, and what it answered has its cause
pub record ComesToEnd (view : LineView) : Type 0 where
  pub leads : IsTrue (is_led_to_end (position_of view))
  pub answers : IsTrue (answers_last view.turns)
  pub posts : IsTrue (keeps_mail view.command (node_numbers view.settings) view.turns view.posts)
  pub caused : (nodes : List (List NodeEntry)) (reply : Reply) → MayBeside view nodes → last_answer view.turns ≡ Some reply → Caused (beside nodes view) reply

-- ---- all lines

-- whether a line has made no entry in any history
abbrev pub has_made_nothing : Line → Ran → Bool
has_made_nothing line ran = list_all (list_all (λ by. not (same_line (line_of line) by))) (makers ran)

-- the account of a run by how its lines stand: what has come of it is legal as far as it goes; its lines differ, and none is the opening's; who waits has made nothing; who has begun goes along; who is over has come to its end; and no client's line begins before its earlier ones are over
pub record Account (asked : Asked) (ran : Ran) (stand : Line → Stand) : Type 0 where
  pub settings : IsTrue (fits_settings asked.settings ran)
  pub bytes : HasBytes ran.trace.door
  pub door : Legal ran.trace.door
  pub opened : IsTrue (is_open ran.trace.door)
  pub nodes : IsTrue (are_legal_nodes 1 asked.settings.cache ran.trace.door ran.trace.nodes)
  pub office : IsTrue (is_legal_office ran.trace.door ran.trace.office)
  pub boxes : IsTrue (list_all (is_legal_box asked.settings.mailbox) ran.mail)
  pub opens : IsTrue (opens_as_asked asked ran)
  pub clock : IsTrue (read_clock asked ran)
  pub clients : IsTrue (clients_in_order ran)
  pub whole_lines : IsTrue (ran_as_ordered ran (whole_order asked))
  pub asks_last : IsTrue (asked_last asked ran)
  pub give_ups : IsTrue (give_ups_backed ran.trace)
  pub differ : LinesDiffer asked
  pub strangers : (line : Line) → In line (lines asked) → IsFalse (same_line opening (line_of line))
  pub waiting : (line : Line) → In line (lines asked) → stand line ≡ Waits → IsTrue (has_made_nothing line ran)
  pub going : (line : Line) → In line (lines asked) → GoesAlong (view_of asked ran line)
  pub over : (line : Line) → In line (lines asked) → stand line ≡ IsDone → ComesToEnd (view_of asked ran line)
  pub in_turn : (line other : Line) → In line (lines asked) → In other (lines asked) → other.client ≡ line.client → line.number < other.number → (stand other ≡ Waits) ⊎ (stand line ≡ IsDone)

-- ---- one turn more

-- a line may go on: it isn't over, and the earlier lines of its client are
pub record MayGoOn (asked : Asked) (stand : Line → Stand) (line : Line) : Type 0 where
  pub among : In line (lines asked)
  pub unless_over : (stand line ≡ Waits) ⊎ (stand line ≡ Runs)
  pub earlier : (other : Line) → In other (lines asked) → other.client ≡ line.client → other.number < line.number → stand other ≡ IsDone

-- how the lines stand behind a turn of one: the others as before; and it goes along, and runs or is over
pub record StandsBehind (asked : Asked) (stand later : Line → Stand) (line : Line) (view : LineView) : Type 0 where
  pub others : (other : Line) → In other (lines asked) → IsFalse (same_line (line_of other) (line_of line)) → later other ≡ stand other
  pub goes : GoesAlong view
  pub now : (later line ≡ Runs) ⊎ (later line ≡ IsDone) × ComesToEnd view

-- no collection has begun where a node makes an entry
abbrev pub NoneCollects : Asked → (Line → Stand) → Added → Type 0
NoneCollects asked stand (AddsAtNode node entry) = (line : Line) → In line (lines asked) → IsTrue (is_collect line.order) → stand line ≡ Waits
NoneCollects asked stand added = Unit {0}
