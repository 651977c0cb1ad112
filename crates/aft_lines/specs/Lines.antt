-- The lines of a run: those of its script, and with threads those of the background rounds; in which order they run, and what their clients hold.
use Rattle.std.specs.Prelude.{Bool, List, None, Option, Some, [], false, filter, if◌then◌else◌, map, nat_lt, not, suc, true, ℕ, ◌&&◌, ◌++◌, ◌==◌, ◌∷◌}
use Rattle.std.specs.List.{flat_map, last_or, list_all, range_with_len}
use Rattle.aft_model.specs.declared.caller.Attempt.{Attempt}
use Rattle.aft_model.specs.declared.caller.Hold.{Hold}
use Rattle.aft_model.specs.declared.node.NodeAct.{NodeAct}
use Rattle.aft_model.specs.declared.node.NodeAct.TheVariants.{Begin}
use Rattle.aft_model.specs.declared.node.NodeEntry.{NodeEntry}
use Rattle.aft_model.specs.declared.reply.Reply.{Reply}
use Rattle.aft_model.specs.declared.reply.Reply.TheVariants.{Joined}
use Rattle.aft_model.specs.declared.script.Command.{Command}
use Rattle.aft_model.specs.declared.script.Line.{Line}
use Rattle.aft_model.specs.declared.script.Order.{Order}
use Rattle.aft_model.specs.declared.script.Step.{Step}
use Rattle.aft_model.specs.declared.trace.Trace.{Trace}
use Rattle.aft_model.specs.Attempts.{present_of}
use Rattle.aft_model.specs.History.{first_of}
use Rattle.aft_model.specs.NodeState.{part}
use Rattle.aft_lines.specs.Asked.{Asked, Settings}
use Rattle.aft_lines.specs.FinishedText.{line_of}
use Rattle.aft_lines.specs.Turns.{AtNode, Turn, turns}
use Rattle.aft_model.specs.declared.script.Command.TheVariants as commands

-- the numbers of the nodes
abbrev pub node_numbers : Settings → List ℕ
node_numbers settings = range_with_len 1 settings.nodes

-- ---- background lines

-- what one round of a node asks: to announce, to deliver, and to collect locally
abbrev pub node_round : ℕ → List Command
node_round node = commands.Announce node ∷ commands.Deliver node ∷ commands.Local node ∷ []

-- what the background asks: the rounds of each node, then those of the manager, then the collections
abbrev pub background : Settings → List Command
background settings =
    flat_map (λ node. flat_map (λ round. node_round node) (range_with_len 1 settings.rounds)) (node_numbers settings)
    ++ map (λ round. commands.Manager) (range_with_len 1 settings.rounds)
    ++ map (λ round. commands.Collect) (range_with_len 1 settings.rounds)

-- commands as lines of client 0, numbered from here on
abbrev pub numbered : ℕ → List Command → List Line
numbered number [] = []
numbered number (command ∷ commands) = record { number = number; client = 0; order = command } ∷ numbered (suc number) commands

-- the background lines that go with the script: those of the rounds where it runs with threads, and else none
abbrev pub background_lines : Option Order → Settings → List Line
background_lines None settings = numbered 1 (background settings)
background_lines (Some order) settings = []

-- the lines of a run: those of the script, those that a session asks behind it, and the background lines
abbrev pub lines : Asked → List Line
lines asked = asked.script.lines ++ asked.asks ++ background_lines asked.order asked.settings

-- ---- what a client holds

-- whether a command begins a transaction
abbrev pub begins : Command → Bool
begins (commands.Begin uuid node) = true
begins command = false

-- the lines of a line's client before the line
abbrev pub earlier_lines : List Line → Line → List Line
earlier_lines lines line = filter (λ other. other.client == line.client && nat_lt other.number line.number) lines

-- the last begin among them
abbrev pub last_begin : List Line → Line → Option Line
last_begin lines line = last_or None (filter (λ other. begins other.order) (earlier_lines lines line))

-- the attempt that a begin's answer gives: the one that runs, or the one that was joined
abbrev pub attempt_by : List NodeEntry → NodeAct → Option Reply → Option Attempt
attempt_by before (Begin a) answer = Some a
attempt_by before act (Some (Joined uuid)) = first_of (present_of uuid (part before))
attempt_by before act answer = None

-- the attempt that a begin's turns give, by the last of them
abbrev pub attempt_of : List Turn → Option Attempt
attempt_of (AtNode node before entry ∷ []) = attempt_by before entry.act entry.answer
attempt_of (turn ∷ turns) = attempt_of turns
attempt_of [] = None

-- the node that a begin names
abbrev pub begun_at : Command → ℕ
begun_at (commands.Begin uuid node) = node
begun_at command = 1

-- what a client holds after its last begin: at first node 1 and no attempt
abbrev pub hold_after : Trace → Option Line → Hold
hold_after trace None = record { node = 1; attempt = None }
hold_after trace (Some begin) = record { node = begun_at begin.order; attempt = attempt_of (turns (line_of begin) trace) }

-- what a line's client holds before it
abbrev pub hold_before : List Line → Trace → Line → Hold
hold_before lines trace line = hold_after trace (last_begin lines line)

-- ---- lines that run whole

-- the other lines
abbrev pub others : Line → List Line → List Line
others line lines = filter (λ other. not (other.number == line.number)) lines

-- a word of an order runs its client's next line, if there is one
abbrev pub after_word : Option Line → (List Line → List Line) → List Line → List Line
after_word None go_on lines = go_on lines
after_word (Some line) go_on lines = line ∷ go_on (others line lines)

-- the order in which lines run whole: by the words, and the rest by number
abbrev pub by_words : List Step → List Line → List Line
by_words [] lines = lines
by_words (word ∷ words) lines = after_word (first_of (filter (λ line. line.client == word.client) lines)) (by_words words) lines

-- the same by the order of a run; with threads there is none
abbrev pub order_by : Asked → Option Order → Option (List Line)
order_by asked None = None
order_by asked (Some order) = if list_all (λ word. word.whole) order.words then Some (by_words order.words asked.script.lines ++ asked.asks) else None

-- the order in which a run's lines run, if all of them run whole: those of the script by the order's words, and then those that a session asks. Where a word doesn't run its line whole, this isn't known
abbrev pub whole_order : Asked → Option (List Line)
whole_order asked = order_by asked asked.order
