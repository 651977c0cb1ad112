use Rattle.std.proofs.Common.{take, ◌≡◌}
use Rattle.std.specs.List.{flat_map}
use Rattle.indexmap.specs.IndexMap.{get}
use Rattle.aft_lines.specs.FinishedText.{line_of, printed_line}
use Rattle.aft_reply.specs.Heard.{asker_of, only, same_asker}
use Rattle.aft_reply.proofs.finished.print_lines.Given as goal

-- what is printed for the lines so far
abbrev pub invariant-loop-line : goal.invariant-loop-line
invariant-loop-line l = l.text.items ≡ flat_map (λ line. printed_line line (only (get same_asker l.answers (asker_of (line_of line))))) (take l.line-index l.lines)
