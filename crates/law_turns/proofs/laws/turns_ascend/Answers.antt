use Rattle.std.proofs.Common.{[], ◌++◌, refl}
use Rattle.aft_lines.specs.Turns.{door_turns, nodes_turns, office_turns}
use Rattle.law_turns.proofs.Sorting.{sorted_ascends}
use Rattle.law_turns.proofs.laws.turns_ascend.Goals as goal

pub returns : goal.returns
returns c by trace = sorted_ascends [] (nodes_turns by 1 trace.nodes ++ door_turns by 0 trace.door ++ office_turns by [] trace.office) refl
