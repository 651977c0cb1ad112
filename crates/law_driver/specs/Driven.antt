-- A line that its machine runs on one thread, and what the machine promises.
use Rattle.std.specs.Prelude.{Bool, IsTrue, List, None, Option, Some, [], drop, false, length, nat_le, true, ℕ, ◌&&◌, ◌++◌, ◌≡◌, ◌≤◌}
use Rattle.std.specs.List.{fold, list_all}
use Rattle.aft_model.proofs.Histories.{In}
use Rattle.aft_model.specs.declared.caller.By.{By}
use Rattle.aft_model.specs.declared.caller.Hold.{Hold}
use Rattle.aft_model.specs.declared.door.DoorEntry.{DoorEntry}
use Rattle.aft_model.specs.declared.node.NodeAct.{NodeAct}
use Rattle.aft_model.specs.declared.script.Command.{Command}
use Rattle.aft_model.specs.declared.script.Command.TheVariants as commands
use Rattle.aft_model.specs.declared.script.Line.{Line}
use Rattle.aft_model.specs.ScanRun.{same_line}
use Rattle.aft_ledger.specs.View.{NodeView}
use Rattle.aft_lines.specs.Asked.{Asked, Ran}
use Rattle.aft_lines.specs.FinishedText.{line_of}
use Rattle.aft_lines.specs.LegalTrace.{act_at, named_node}
use Rattle.aft_lines.specs.LinePosts.{from_office}
use Rattle.aft_lines.specs.LineView.{LineView}
use Rattle.aft_lines.specs.Lines.{hold_before, lines, whole_order}
use Rattle.aft_lines.specs.Turns.{AtNode, Turn, turns}
use Rattle.aft_lines.specs.Views.{answered_front, line_before}
use Rattle.aft_node.specs.Closing.{last_own}
use Rattle.aft_turns.specs.Stands.{EndsRightly, GoesRightly, HasLooked, LooksLate, RanSo, SeesOwn, last_sees}
use Rattle.aft_turns.specs.Trail.{Trail}
use Rattle.law_accounts.specs.Account.{Account, MayGoOn, Runs, Stand}
use Rattle.law_accounts.specs.Adding.{numbered_in, ranks_last}

-- ---- a machine

-- whether a command is one of those whose machines keep to one node and the door
abbrev pub is_at_one_node : Command → Bool
is_at_one_node (commands.Begin uuid node) = true
is_at_one_node (commands.Put key value) = true
is_at_one_node (commands.Get key) = true
is_at_one_node commands.Commit = true
is_at_one_node commands.Abort = true
is_at_one_node (commands.Crash node) = true
is_at_one_node (commands.Start node) = true
is_at_one_node (commands.Forget uuid node) = true
is_at_one_node command = false

-- whether a turn reads the clock, if it tells a time and the turn reads it
abbrev pub reads_clock : Option ℕ → Turn → Bool
reads_clock clock (AtNode node before entry) = act_at clock entry.act
reads_clock clock turn = true

-- what a machine promises of a trail that it has: of a line of this name, which asks this, of a client that holds this, over nodes that keep so many values and a clock that tells this; where the machine is done or isn't
pub record Promises (by : By) (command : Command) (hold : Hold) (capacity : ℕ) (clock : Option ℕ) (done : Bool) (trail : Trail) : Type 0 where
  pub goes : (view : LineView) → RanSo command hold capacity trail view → (IsTrue done → HasLooked trail view) → GoesRightly view
  pub ends : (view : LineView) → RanSo command hold capacity trail view → view.clock ≡ clock → IsTrue done → HasLooked trail view → LooksLate trail view → EndsRightly view
  pub sees : (seen rest : List DoorEntry) → SeesOwn by trail.turns seen → seen ≡ trail.look ++ rest → IsTrue (last_sees seen trail.turns)
  pub reads : IsTrue (list_all (reads_clock clock) trail.turns)

-- ---- a line that it runs

-- where lines run whole, a line comes behind all that have made an entry
abbrev pub ranks_in : Ran → By → Option (List Line) → Type 0
ranks_in ran by None = Unit {0}
ranks_in ran by (Some order) = IsTrue (ranks_last order by ran)

abbrev pub RanksLast : Asked → Ran → By → Type 0
RanksLast asked ran by = ranks_in ran by (whole_order asked) × IsTrue (ranks_last asked.asks by ran)

-- the node of a line
abbrev pub number_in : Option ℕ → ℕ
number_in (Some node) = node
number_in None = 0

abbrev pub node_of : Command → Hold → ℕ
node_of command hold = number_in (named_node command hold)

-- what the last of some turns at a node did
abbrev pub act_behind : Option NodeAct → Turn → Option NodeAct
act_behind before (AtNode node history entry) = Some entry.act
act_behind before turn = before

abbrev pub last_act : List Turn → Option NodeAct
last_act line = fold act_behind None line

-- how late a line looked, when the door had so many entries: by then it had all that the client's answer before had seen; and where lines run whole, all that has come since is the line's own
abbrev pub LookedBy : Asked → Ran → Line → ℕ → Option (List Line) → Type 0
LookedBy asked ran line looked None = answered_front ran.trace (line_before (lines asked) line) ≤ looked
LookedBy asked ran line looked (Some order) = IsTrue (list_all (λ entry. same_line (line_of line) entry.by) (drop looked ran.trace.door))

-- a line that runs, in a run that has an account: its turns are those of this trail, which has looked at the door as it was, and late enough, if it looked; and what it did at the door and last at its node is what they did; its client holds this; and it did nothing at the boxes
pub record Driven (asked : Asked) (ran : Ran) (stand : Line → Stand) (line : Line) (hold : Hold) (trail : Trail) : Type 0 where
  pub account : Account asked ran stand
  pub may : MayGoOn asked stand line
  pub runs : stand line ≡ Runs
  pub kind : IsTrue (is_at_one_node line.order)
  pub own : turns (line_of line) ran.trace ≡ trail.turns
  pub sees : SeesOwn (line_of line) trail.turns ran.trace.door
  pub closing : last_own (line_of line) (numbered_in (node_of line.order hold) 1 ran.trace.nodes) ≡ last_act trail.turns
  pub looked : (rest : List DoorEntry) × (ran.trace.door ≡ trail.look ++ rest)
  pub late : 1 ≤ length trail.look → LookedBy asked ran line (length trail.look) (whole_order asked)
  pub held : hold_before (lines asked) ran.trace line ≡ hold
  pub quiet : from_office (line_of line) ran.mail ≡ []
  pub ranked : RanksLast asked ran (line_of line)

-- no line of a run is a round, a delivery, a collection or a copy
abbrev pub AllAtOneNode : Asked → Type 0
AllAtOneNode asked = (line : Line) → In line (lines asked) → IsTrue (is_at_one_node line.order)

-- a node of a run, by what it shows
pub record IsNode (asked : Asked) (ran : Ran) (node : NodeView) : Type 0 where
  pub there : IsTrue (nat_le 1 node.number && nat_le node.number (length ran.trace.nodes))
  pub history : node.history ≡ numbered_in node.number 1 ran.trace.nodes
  pub capacity : node.capacity ≡ asked.settings.cache
  pub front : node.front ≤ length ran.trace.door
