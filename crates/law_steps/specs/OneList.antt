-- What is asked of a line's entries, so that the steps of a run have them in the order of its turns.
use Rattle.std.specs.Prelude.{Bool, IsTrue, List, [], ◌++◌, ◌&&◌, length, nat_le, ℕ}
use Rattle.std.specs.List.{list_all}
use Rattle.aft_model.specs.declared.caller.By.{By}
use Rattle.aft_model.specs.declared.trace.Trace.{Trace}
use Rattle.aft_lines.specs.Turns.{Turn, door_turns, nodes_turns, office_turns}
use Rattle.law_places.specs.Fronts.{never_fall, node_fronts, office_fronts}
use Rattle.law_turns.specs.Order.{give_nothing_up, tie_in_one_list}

-- the entries of a line, list by list
abbrev pub entries_of : By → Trace → List Turn
entries_of by trace = nodes_turns by 1 trace.nodes ++ door_turns by 0 trace.door ++ office_turns by [] trace.office

-- whether numbers never fall, and none is past a last one
abbrev pub rise_to : ℕ → List ℕ → Bool
rise_to last numbers = never_fall numbers && list_all (λ n. nat_le n last) numbers

-- whether in each list the fronts never fall, and none is past the end of the door's history
abbrev pub fronts_rise : Trace → Bool
fronts_rise trace = list_all (λ history. rise_to (length trace.door) (node_fronts history)) trace.nodes && rise_to (length trace.door) (office_fronts trace.office)

-- a line that gives nothing up, and whose entries of one moment stand in one list: all but a collection's
pub record IsOrdinary (by : By) (trace : Trace) : Type 0 where
  pub quiet : IsTrue (give_nothing_up (entries_of by trace))
  pub ties : IsTrue (tie_in_one_list (entries_of by trace))
