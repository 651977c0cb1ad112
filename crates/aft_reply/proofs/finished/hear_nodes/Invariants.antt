use Rattle.std.proofs.Common.{take, ◌++◌}
use Rattle.std.specs.List.{flat_map}
use Rattle.indexmap.specs.IndexMap.{get}
use Rattle.aft_reply.specs.Heard.{Answers, Heard, node_answers, same_asker}
use Rattle.aft_reply.proofs.finished.hear_nodes.Given as goal

-- the answers of the nodes so far are heard behind those before
abbrev pub invariant-loop-entries : goal.invariant-loop-entries
invariant-loop-entries l = (before : Answers) → Heard (get same_asker l.initial.answers) before → Heard (get same_asker l.answers) (λ line. before line ++ flat_map (node_answers line) (take l.entries-index l.nodes))
