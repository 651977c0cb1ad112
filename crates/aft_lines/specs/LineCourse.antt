-- The course of a line: the turns that each kind of line makes, in order, and where it stops.
use Rattle.std.specs.Prelude.{Bool, List, None, Option, [], false, is_some, not, true, ℕ, ◌&&◌, ◌==◌, ◌||◌, ◌∷◌}
use Rattle.aft_model.specs.declared.node.NodeAct.{NodeAct}
use Rattle.aft_model.specs.declared.node.NodeEntry.{NodeEntry}
use Rattle.aft_model.specs.declared.office.OfficeAct.{OfficeAct}
use Rattle.aft_model.specs.declared.reply.Reply.{Reply}
use Rattle.aft_model.specs.declared.script.Command.{Command}
use Rattle.aft_model.specs.Membership.{Incarnation, incarnation, same_incarnation}
use Rattle.aft_model.specs.NodeState.{NodeState, boots, node_state, serves}
use Rattle.aft_model.specs.Replies.{is_answer}
use Rattle.aft_model.specs.Sound.{records_prefix}
use Rattle.aft_lines.specs.BackupCourse.{backup_course}
use Rattle.aft_lines.specs.BeginCourse.{begin_course}
use Rattle.aft_lines.specs.CollectCourse.{collect_course, records_scan}
use Rattle.aft_lines.specs.CommitCourse.{finish_course}
use Rattle.aft_lines.specs.CourseWords.{Ends, closes, ends_at_node, ends_at_office, is_over, office_answers, only_answers}
use Rattle.aft_lines.specs.ForgetCourse.{forget_course}
use Rattle.aft_lines.specs.GetCourse.{get_course}
use Rattle.aft_lines.specs.OrphanCourse.{orphan_course}
use Rattle.aft_lines.specs.ScanCourse.{Scanned, names_limit, scanned}
use Rattle.aft_lines.specs.Turns.{AtDoor, AtNode, AtOffice, Turn, answer_in}
use Rattle.aft_model.specs.declared.script.Command.TheVariants as commands
use Rattle.aft_model.specs.declared.door.DoorAct.TheVariants as door_acts
use Rattle.aft_model.specs.declared.node.NodeAct.TheVariants as node_acts
use Rattle.aft_model.specs.declared.office.OfficeAct.TheVariants as office_acts
use Rattle.aft_model.specs.declared.reply.Reply.TheVariants as replies

-- ---- crash and start

-- a node that boots or serves as this incarnation goes down; one that doesn't any more answers alone that the incarnation was shut out
abbrev pub goes_down : ℕ → ℕ → NodeState → NodeAct → Option Reply → Bool
goes_down node inc state (node_acts.Down other) answer = inc == other
goes_down node inc state node_acts.Nothing answer = not (boots inc state || serves inc state) && is_answer (replies.Crashed node inc) answer
goes_down node inc state act answer = false

-- the end of a crash that fenced this incarnation
abbrev pub ends_down : ℕ → ℕ → List Turn → Bool
ends_down node inc (AtNode at before entry ∷ []) = node == at && goes_down node inc (node_state before) entry.act entry.answer
ends_down node inc line = false

-- an answer alone that no incarnation is up
abbrev pub tells_not_up : ℕ → NodeState → NodeEntry → Bool
tells_not_up node state entry = only_answers entry.act entry.answer && is_answer (replies.NotUp node) entry.answer

-- the course of a crash of a node: the fence, and then the node goes down; where none is up it is answered so
abbrev pub crash_course : ℕ → List Turn → Bool
crash_course node (AtDoor place (door_acts.Fence at inc) ∷ line) = node == at && ends_down node inc line
crash_course node line = ends_at_node node (tells_not_up node) line

-- a boot serves, where its scan run was whole, or is stopped
abbrev pub ends_boot : ℕ → Bool → NodeAct → Option Reply → Bool
ends_boot inc whole (node_acts.Boot other commits) answer = whole && inc == other
ends_boot inc whole (node_acts.BootStopped other) answer = inc == other
ends_boot inc whole act answer = false

-- behind the coming up: the scan run of records, and the end
abbrev pub scan_course : Ends → Incarnation → Scanned → Bool
scan_course ends who pages = ends_at_node who.node (closes ends who.inc (ends_boot who.inc pages.is_whole)) pages.behind

-- an incarnation comes up, unless it is up, and then scans
abbrev pub up_course : Ends → Incarnation → List Turn → Bool
up_course ends who (AtDoor place (door_acts.Up node inc) ∷ line) = same_incarnation who (incarnation node inc) && scan_course ends who (scanned names_limit who records_prefix line)
up_course ends who line = scan_course ends who (scanned names_limit who records_prefix line)

-- after the first turn of a start: it answered, or a boot begins
abbrev pub start_after : Ends → ℕ → NodeAct → List Turn → Bool
start_after ends node node_acts.Nothing line = is_over line
start_after ends node (node_acts.Booting inc) line = up_course ends (incarnation node inc) line
start_after ends node act line = false

-- the course of a start
abbrev pub start_course : Ends → List Turn → Bool
start_course ends (AtNode node before entry ∷ line) = start_after ends node entry.act line
start_course ends line = false

-- ---- lines of one turn at a node, and announcements

-- whether an act is a put, a learning, or a drop, or an answer alone
abbrev pub puts_or_answers : NodeAct → Option Reply → Bool
puts_or_answers (node_acts.Put a key value) answer = true
puts_or_answers act answer = only_answers act answer

abbrev pub learns_or_answers : NodeAct → Option Reply → Bool
learns_or_answers (node_acts.Learn commits) answer = true
learns_or_answers act answer = only_answers act answer

abbrev pub drops_or_answers : NodeAct → Option Reply → Bool
drops_or_answers (node_acts.Drop ids) answer = true
drops_or_answers act answer = only_answers act answer

-- the course of a line of one turn at a node
abbrev pub single_course : (NodeAct → Option Reply → Bool) → List Turn → Bool
single_course test (AtNode node before entry ∷ line) = is_over line && test entry.act entry.answer
single_course test line = false

-- after the first turn of an announcement: it answered, or the node answers behind the posts
abbrev pub announce_after : ℕ → NodeAct → List Turn → Bool
announce_after node node_acts.Nothing line = is_over line
announce_after node (node_acts.Announce kept pruned) line = ends_at_node node (λ state entry. only_answers entry.act entry.answer) line
announce_after node act line = false

-- the course of an announcement
abbrev pub announce_course : List Turn → Bool
announce_course (AtNode node before entry ∷ line) = announce_after node entry.act line
announce_course line = false

-- ---- the manager

-- the end of a round: the posted commits are noted, or an answer comes alone
abbrev pub ends_round : OfficeAct → Option Reply → Bool
ends_round (office_acts.Posted ids) answer = true
ends_round office_acts.Nothing answer = true
ends_round act answer = false

-- behind a scan run: the round, where it was whole, and its end
abbrev pub round_after : Bool → OfficeAct → List Turn → Bool
round_after whole (office_acts.Round heard missed) line = whole && ends_at_office ends_round line
round_after whole act line = is_over line && office_answers act None

-- the course of a manager's round behind its scan run
abbrev pub round_course : Bool → List Turn → Bool
round_course whole (AtOffice before entry ∷ line) = round_after whole entry.act line
round_course whole line = false

-- the course of a manager's round
abbrev pub manager_course : List Turn → Bool
manager_course line = round_course (records_scan line).is_whole (records_scan line).behind

-- ---- any line

-- whether the last turn answers, and no other
abbrev pub answers_last : List Turn → Bool
answers_last [] = false
answers_last (turn ∷ []) = is_some (answer_in turn)
answers_last (turn ∷ line) = not (is_some (answer_in turn)) && answers_last line

-- whether the turns of a line are the course of its command, among these nodes
abbrev pub follows_course : Command → List ℕ → Ends → List Turn → Bool
follows_course (commands.Begin uuid node) nodes ends line = begin_course ends line
follows_course (commands.Put key value) nodes ends line = single_course puts_or_answers line
follows_course (commands.Get key) nodes ends line = get_course ends line
follows_course commands.Commit nodes ends line = finish_course false ends line
follows_course commands.Abort nodes ends line = finish_course true ends line
follows_course (commands.Crash node) nodes ends line = crash_course node line
follows_course (commands.Start node) nodes ends line = start_course ends line
follows_course (commands.Announce node) nodes ends line = announce_course line
follows_course (commands.Deliver node) nodes ends line = single_course learns_or_answers line
follows_course (commands.Local node) nodes ends line = single_course drops_or_answers line
follows_course commands.Manager nodes ends line = manager_course line
follows_course commands.Collect nodes ends line = collect_course nodes ends line
follows_course (commands.Forget uuid node) nodes ends line = forget_course ends line
follows_course (commands.Orphans key) nodes ends line = orphan_course key ends line
follows_course commands.Backup nodes ends line = backup_course ends line

-- whether a line keeps its course: it ends with its answer, and its turns are those of its command, in order
abbrev pub keeps_course : Command → List ℕ → Ends → List Turn → Bool
keeps_course command nodes ends line = answers_last line && follows_course command nodes ends line
