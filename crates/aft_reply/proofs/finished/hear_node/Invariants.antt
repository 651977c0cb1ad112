use Rattle.std.proofs.Common.{take, ◌++◌}
use Rattle.indexmap.specs.IndexMap.{get}
use Rattle.aft_reply.specs.Heard.{Answers, Heard, node_answers, same_asker}
use Rattle.aft_reply.proofs.finished.hear_node.Given as goal

-- the answers of the entries so far are heard behind those before
abbrev pub invariant-loop-entry : goal.invariant-loop-entry
invariant-loop-entry l = (before : Answers) → Heard (get same_asker l.initial.answers) before → Heard (get same_asker l.answers) (λ line. before line ++ node_answers line (take l.entry-index l.entries))
