-- Which histories may come of a run that asks this.
use Rattle.std.specs.Prelude.{Bool, IsTrue, List, None, Option, Some, [], drop, false, if◌then◌else◌, is_some, length, map, nat_le, nat_lt, not, suc, true, ℕ, ◌&&◌, ◌++◌, ◌==◌, ◌||◌, ◌∷◌}
use Rattle.std.specs.List.{list_all, list_any}
use Rattle.std.specs.Str.{bytes_eq}
use Rattle.aft_id.specs.declared.txn_id.TxnId.{TxnId}
use Rattle.aft_model.specs.declared.caller.Attempt.{Attempt}
use Rattle.aft_model.specs.declared.caller.By.{By}
use Rattle.aft_model.specs.declared.caller.Hold.{Hold}
use Rattle.aft_model.specs.declared.door.DoorAct.{DoorAct}
use Rattle.aft_model.specs.declared.door.DoorEntry.{DoorEntry}
use Rattle.aft_model.specs.declared.node.NodeAct.{NodeAct}
use Rattle.aft_model.specs.declared.node.NodeEntry.{NodeEntry}
use Rattle.aft_model.specs.declared.script.Command.{Command}
use Rattle.aft_model.specs.declared.script.Line.{Line}
use Rattle.aft_model.specs.declared.trace.Trace.{Trace}
use Rattle.aft_model.specs.Attempts.{same_attempt}
use Rattle.aft_model.specs.Boxes.{is_legal_box}
use Rattle.aft_model.specs.Bytes.{HasBytes}
use Rattle.aft_model.specs.History.{each_after}
use Rattle.aft_model.specs.LegalDoor.{Legal}
use Rattle.aft_model.specs.LegalNode.{is_legal_node}
use Rattle.aft_model.specs.NodeSights.{is_seen_node}
use Rattle.aft_model.specs.NodeState.{node_state, serves}
use Rattle.aft_model.specs.Office.{is_legal_office}
use Rattle.aft_model.specs.Opening.{opening}
use Rattle.aft_model.specs.ScanRun.{same_line}
use Rattle.aft_lines.specs.Asked.{Asked, Ran, Settings, are_settings}
use Rattle.aft_lines.specs.CausesAttempts.{speaks_of_attempt}
use Rattle.aft_lines.specs.CollectCourse.{is_give_up}
use Rattle.aft_lines.specs.FinishedText.{answers_of, line_of}
use Rattle.aft_lines.specs.LineCourse.{keeps_course}
use Rattle.aft_lines.specs.LinePosts.{keeps_mail}
use Rattle.aft_lines.specs.LineView.{ends_of, history_at}
use Rattle.aft_lines.specs.Lines.{begins, lines, node_numbers, whole_order}
use Rattle.aft_lines.specs.OpeningCourse.{opening_course}
use Rattle.aft_lines.specs.Turns.{AtDoor, AtNode, AtOffice, Turn, end_front, turns}
use Rattle.aft_lines.specs.Views.{each_view, have_causes}
use Rattle.aft_model.specs.declared.script.Command.TheVariants as commands
use Rattle.aft_model.specs.declared.door.DoorAct.TheVariants as door_acts
use Rattle.aft_model.specs.declared.node.NodeAct.TheVariants as node_acts

-- ---- histories

-- whether each node's history is legal, from this number on, with so large a cache, and has seen at the door what it asks
abbrev pub are_legal_nodes : ℕ → ℕ → List DoorEntry → List (List NodeEntry) → Bool
are_legal_nodes node capacity door [] = true
are_legal_nodes node capacity door (history ∷ histories) =
    is_legal_node node capacity history && is_seen_node node door history && are_legal_nodes (suc node) capacity door histories

-- whether settings are within their limits, and there is a history of each node, and one of each of their boxes and of the office's
abbrev pub fits_settings : Settings → Ran → Bool
fits_settings settings ran = are_settings settings && length ran.trace.nodes == settings.nodes && length ran.mail == suc settings.nodes

-- ---- lines

-- whether each line keeps its course
abbrev pub keep_courses : Asked → Ran → Bool
keep_courses asked ran = each_view (λ view. keeps_course view.command (node_numbers view.settings) (ends_of view) view.turns) asked ran

-- whether each line did at the boxes what it is to do
abbrev pub keep_mail : Asked → Ran → Bool
keep_mail asked ran = each_view (λ view. keeps_mail view.command (node_numbers view.settings) view.turns view.posts) asked ran

-- whether each line has exactly one answer
abbrev pub answered_once : Asked → Ran → Bool
answered_once asked ran = list_all (λ line. length (answers_of (line_of line) ran) == 1) (lines asked)

-- whether an act carries the words of its line, where it has them
abbrev pub node_words : Command → NodeAct → Bool
node_words (commands.Begin uuid node) (node_acts.Admit a admitted) = bytes_eq uuid admitted
node_words (commands.Forget uuid node) (node_acts.Admit a admitted) = bytes_eq uuid admitted
node_words (commands.Put key value) (node_acts.Put a put buffered) = bytes_eq key put && bytes_eq value buffered
node_words (commands.Get key) (node_acts.Select a got picked) = bytes_eq key got
node_words command act = true

abbrev pub door_words : Command → DoorAct → Bool
door_words (commands.Begin uuid node) (door_acts.Claim claimed at inc) = bytes_eq uuid claimed
door_words (commands.Forget uuid node) (door_acts.Claim claimed at inc) = bytes_eq uuid claimed
door_words command act = true

abbrev pub turn_words : Command → Turn → Bool
turn_words command (AtDoor place act) = door_words command act
turn_words command (AtNode node before entry) = node_words command entry.act
turn_words command (AtOffice before entry) = true

-- whether each line's acts carry its words
abbrev pub carry_words : Asked → Ran → Bool
carry_words asked ran = each_view (λ view. list_all (turn_words view.command) view.turns) asked ran

-- ---- nodes and attempts

-- the node that a line names, or else that of what its client holds; the lines of the office have none, and a collection asks them all
abbrev pub named_node : Command → Hold → Option ℕ
named_node (commands.Begin uuid node) hold = Some node
named_node (commands.Crash node) hold = Some node
named_node (commands.Start node) hold = Some node
named_node (commands.Announce node) hold = Some node
named_node (commands.Deliver node) hold = Some node
named_node (commands.Local node) hold = Some node
named_node commands.Manager hold = None
named_node commands.Collect hold = None
named_node (commands.Forget uuid node) hold = Some node
named_node (commands.Orphans key) hold = None
named_node commands.Backup hold = None
named_node command hold = Some hold.node

-- whether a node is the named one, if one is named
abbrev pub is_named : Option ℕ → ℕ → Bool
is_named None node = true
is_named (Some named) node = named == node

-- whether a turn stands at the named node, and an incarnation that comes up or is fenced is of it
abbrev pub stands_at : Option ℕ → Turn → Bool
stands_at named (AtDoor place (door_acts.Up node inc)) = is_named named node
stands_at named (AtDoor place (door_acts.Fence node inc)) = is_named named node
stands_at named (AtDoor place act) = true
stands_at named (AtNode node before entry) = is_named named node
stands_at named (AtOffice before entry) = true

-- whether each line's turns stand at its node
abbrev pub stand_at_nodes : Asked → Ran → Bool
stand_at_nodes asked ran = each_view (λ view. list_all (stands_at (named_node view.command view.hold)) view.turns) asked ran

-- whether an attempt is the one that a client holds
abbrev pub is_held_attempt : Option Attempt → Attempt → Bool
is_held_attempt None a = false
is_held_attempt (Some held) a = same_attempt held a

-- whether an act is of the attempt that a client holds, or of none
abbrev pub act_of : Option Attempt → NodeAct → Bool
act_of held (node_acts.Put a key value) = is_held_attempt held a
act_of held (node_acts.Select a key picked) = is_held_attempt held a
act_of held (node_acts.Value a key id place kept) = is_held_attempt held a
act_of held (node_acts.Lost a key id) = is_held_attempt held a
act_of held (node_acts.Start a now c) = is_held_attempt held a
act_of held (node_acts.Settle a) = is_held_attempt held a
act_of held (node_acts.Leave a) = is_held_attempt held a
act_of held (node_acts.Stored a c) = is_held_attempt held a
act_of held (node_acts.Doubt a) = is_held_attempt held a
act_of held (node_acts.End a) = is_held_attempt held a
act_of held act = true

abbrev pub turn_of : Option Attempt → Turn → Bool
turn_of held (AtDoor place act) = true
turn_of held (AtNode node before entry) = act_of held entry.act
turn_of held (AtOffice before entry) = true

-- whether each put, get, commit and abort speaks of the attempt that its client's last begin gave
abbrev pub speak_of_held : Asked → Ran → Bool
speak_of_held asked ran = each_view (λ view. not (speaks_of_attempt view.command) || list_all (turn_of view.hold.attempt) view.turns) asked ran

-- ---- clock

-- whether a time is that of the clock, if it tells one
abbrev pub is_clock_time : Option ℕ → ℕ → Bool
is_clock_time None now = true
is_clock_time (Some time) now = time == now

-- whether an act that reads the clock has its time
abbrev pub act_at : Option ℕ → NodeAct → Bool
act_at clock (node_acts.Start a now c) = is_clock_time clock now
act_at clock act = true

-- whether each commit read the run's clock
abbrev pub read_clock : Asked → Ran → Bool
read_clock asked ran = list_all (λ history. list_all (λ entry. act_at asked.clock entry.act) history) ran.trace.nodes

-- ---- order

-- the lines that made the entries of each history, in order
abbrev pub makers : Ran → List (List By)
makers ran =
    map (λ entry. entry.by) ran.trace.door ∷ map (λ entry. entry.by) ran.trace.office
    ∷ map (map (λ entry. entry.by)) ran.trace.nodes ++ map (map (λ entry. entry.by)) ran.mail

-- whether an entry of a client's line comes after those of its earlier lines, and before those of its later ones
abbrev pub is_after_own : List By → By → Bool
is_after_own before by = by.client == 0 || list_all (λ other. not (other.client == by.client) || nat_le other.line by.line) before

-- whether in each history each client's lines come one after the other
abbrev pub clients_in_order : Ran → Bool
clients_in_order ran = list_all (each_after is_after_own []) (makers ran)

-- the rank of a line among lines that run whole: 0 for the opening, and then as they run
abbrev pub rank_from : ℕ → By → List Line → ℕ
rank_from rank by [] = 0
rank_from rank by (line ∷ lines) = if same_line by (line_of line) then rank else rank_from (suc rank) by lines

abbrev pub rank : List Line → By → ℕ
rank order by = rank_from 1 by order

-- whether lines stand in the order in which they run
abbrev pub in_rank_order : List Line → List By → Bool
in_rank_order order bys = each_after (λ before by. list_all (λ other. nat_le (rank order other) (rank order by)) before) [] bys

-- whether a turn with this front, of this line, has seen all that earlier lines did at the door
abbrev pub has_seen_earlier : List Line → List DoorEntry → ℕ → By → Bool
has_seen_earlier order door front by = list_all (λ entry. nat_le (rank order by) (rank order entry.by)) (drop front door)

-- whether lines ran whole in this order: in each history their entries stand in it, and each has seen all that earlier ones did at the door
abbrev pub ran_whole : Ran → List Line → Bool
ran_whole ran order =
    list_all (in_rank_order order) (makers ran)
    && list_all (list_all (λ entry. has_seen_earlier order ran.trace.door entry.front entry.by)) ran.trace.nodes
    && list_all (λ entry. has_seen_earlier order ran.trace.door entry.front entry.by) ran.trace.office

-- whether a run's lines ran whole where they were asked to
abbrev pub ran_as_ordered : Ran → Option (List Line) → Bool
ran_as_ordered ran None = true
ran_as_ordered ran (Some order) = ran_whole ran order

-- ---- give-ups

-- whether an entry of a node, after its history, is this line's give-up of this id by this incarnation, with a front of at most this place
abbrev pub backs_give_up : By → ℕ → TxnId → ℕ → List NodeEntry → NodeEntry → Bool
backs_give_up by inc id place before entry = same_line by entry.by && is_give_up id entry.act && serves inc (node_state before) && nat_le entry.front place

-- whether some entry of a history passes a test of it and of what stands before it
abbrev pub some_after : (List NodeEntry → NodeEntry → Bool) → List NodeEntry → List NodeEntry → Bool
some_after test before [] = false
some_after test before (entry ∷ entries) = test before entry || some_after test (before ++ entry ∷ []) entries

-- whether a give-up at the door, at this place, has one of its own at its node
abbrev pub is_backed_at : List (List NodeEntry) → By → ℕ → DoorAct → Bool
is_backed_at nodes by place (door_acts.GiveUp node inc id) = list_any (some_after (backs_give_up by inc id place) []) (history_at node nodes)
is_backed_at nodes by place act = true

-- whether each give-up at the door has one of its own at its node
abbrev pub give_ups_backed : Trace → Bool
give_ups_backed trace = each_after (λ before entry. is_backed_at trace.nodes entry.by (length before) entry.act) [] trace.door

-- ---- opening

-- whether an entry is of one of these lines, or of the opening
abbrev pub is_of_lines : List Line → By → Bool
is_of_lines lines by = same_line opening by || list_any (λ line. same_line (line_of line) by) lines

-- whether the opening's entries come before all others
abbrev pub opens_first : List By → Bool
opens_first bys = each_after (λ before by. not (same_line opening by) || list_all (same_line opening) before) [] bys

-- whether a turn of a line had seen all that the opening did at the door; what the opening itself does is free
abbrev pub has_seen_opening : Trace → ℕ → By → Bool
has_seen_opening trace front by = same_line opening by || nat_le (end_front (turns opening trace)) front

-- whether each turn of a line had seen all of the opening
abbrev pub begin_behind_opening : Trace → Bool
begin_behind_opening trace =
    list_all (list_all (λ entry. has_seen_opening trace entry.front entry.by)) trace.nodes && list_all (λ entry. has_seen_opening trace entry.front entry.by) trace.office

-- whether each entry is of a line or of the opening, and the opening's are what it reads and one boot of each node, and come before all that lines do
abbrev pub opens_as_asked : Asked → Ran → Bool
opens_as_asked asked ran =
    list_all (list_all (is_of_lines (lines asked))) (makers ran)
    && opening_course (node_numbers asked.settings) (turns opening ran.trace)
    && list_all opens_first (makers ran)
    && begin_behind_opening ran.trace
    && list_all (list_all (λ entry. not (same_line opening entry.by))) ran.mail

-- ---- a session

-- the client of the lines that a session asks
abbrev pub session_client : ℕ
session_client = 65

-- whether a line comes behind some others: its number is greater than theirs
abbrev pub is_numbered_behind : List Line → Line → Bool
is_numbered_behind before line = list_all (λ other. nat_lt other.number line.number) before

-- whether a session may ask a line: it is of its client, and begins, puts, gets, commits or aborts
abbrev pub may_be_asked : Line → Bool
may_be_asked line = line.client == session_client && (begins line.order || speaks_of_attempt line.order)

-- whether the lines that a session asks are such ones, numbered behind those of the script; with threads there are none
abbrev pub are_asks : Asked → Bool
are_asks asked =
    list_all may_be_asked asked.asks
    && each_after is_numbered_behind asked.script.lines asked.asks
    && (is_some asked.order || length asked.asks == 0)

-- whether they ran whole, one after the other, behind all lines of the script
abbrev pub asked_last : Asked → Ran → Bool
asked_last asked ran = are_asks asked && ran_whole ran asked.asks

-- ---- the whole

-- what may come of a run whose opening was accepted
pub record LegalTrace (asked : Asked) (ran : Ran) : Type 0 where
  pub settings : IsTrue (fits_settings asked.settings ran)
  pub bytes : HasBytes ran.trace.door
  pub door : Legal ran.trace.door
  pub nodes : IsTrue (are_legal_nodes 1 asked.settings.cache ran.trace.door ran.trace.nodes)
  pub office : IsTrue (is_legal_office ran.trace.door ran.trace.office)
  pub boxes : IsTrue (list_all (is_legal_box asked.settings.mailbox) ran.mail)
  pub opening : IsTrue (opens_as_asked asked ran)
  pub courses : IsTrue (keep_courses asked ran)
  pub posts : IsTrue (keep_mail asked ran)
  pub answers : IsTrue (answered_once asked ran)
  pub words : IsTrue (carry_words asked ran)
  pub places : IsTrue (stand_at_nodes asked ran)
  pub attempts : IsTrue (speak_of_held asked ran)
  pub clock : IsTrue (read_clock asked ran)
  pub clients : IsTrue (clients_in_order ran)
  pub whole_lines : IsTrue (ran_as_ordered ran (whole_order asked))
  pub asks_last : IsTrue (asked_last asked ran)
  pub give_ups : IsTrue (give_ups_backed ran.trace)
  pub causes : IsTrue (have_causes asked ran)
