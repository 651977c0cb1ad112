-- The turns of a line have seen no more of the door's history than there is.
use Rattle.std.proofs.Common.{◌≤◌, ◌+◌, ℕ, suc, Bool, true, false, List, [], ◌∷◌, ◌++◌, refl, arith, ◌∙◌}
use Rattle.std.specs.Prelude.{IsTrue, if◌then◌else◌, length, nat_le, ◌&&◌}
use Rattle.std.specs.List.{list_all}
use Rattle.std.proofs.lemmas.Bool.{and_from, and_parts, lt-ltb}
use Rattle.std.proofs.lemmas.List.Folds.{list_all-append}
use Rattle.aft_model.specs.declared.caller.By.{By}
use Rattle.aft_model.specs.declared.door.DoorEntry.{DoorEntry}
use Rattle.aft_model.specs.declared.node.NodeEntry.{NodeEntry}
use Rattle.aft_model.specs.declared.office.OfficeEntry.{OfficeEntry}
use Rattle.aft_model.specs.declared.trace.Trace.{Trace}
use Rattle.aft_model.proofs.Histories.{all_at}
use Rattle.aft_model.proofs.Lists.{all_from}
use Rattle.aft_model.specs.History.{each_after}
use Rattle.aft_model.specs.LegalNode.{is_legal_node}
use Rattle.aft_model.specs.NodeSights.{is_seen_node, may_come_at}
use Rattle.aft_model.specs.Office.{is_legal_alone, is_legal_beside, is_legal_office, may_come_beside}
use Rattle.aft_model.specs.ScanRun.{same_line}
use Rattle.aft_lines.specs.LegalTrace.{are_legal_nodes}
use Rattle.aft_lines.specs.Turns.{AtDoor, AtNode, AtOffice, Turn, door_turns, node_turns, nodes_turns, office_turns, turns}
use Rattle.law_grows.specs.Reach.{is_within}
use Rattle.law_runs.proofs.Members.{turns_in}
use Rattle.law_steps.specs.OneList.{entries_of}

module _ (by : By) (door : List DoorEntry) where
  abbrev within : Turn → Bool
  within turn = is_within (length door) turn

  -- a turn in front of others, if it is the line's
  in_front : (t : Bool) (turn : Turn) (rest : List Turn) → IsTrue (within turn) → IsTrue (list_all within rest) → IsTrue (list_all within ((if t then turn ∷ [] else []) ++ rest))
  in_front true turn rest one all = and_from _ _ one all
  in_front false turn rest one all = all

  node_within : (node : ℕ) (before history : List NodeEntry) → IsTrue (each_after (may_come_at node door) before history) → IsTrue (list_all within (node_turns by node before history))
  node_within node before [] so = refl
  node_within node before (entry ∷ history) so =
      let parts = and_parts (may_come_at node door before entry) (each_after (may_come_at node door) (before ++ entry ∷ []) history) so in
      in_front (same_line by entry.by) (AtNode node before entry) (node_turns by node (before ++ entry ∷ []) history) (and_parts (nat_le entry.front (length door)) _ parts.0).0
      (node_within node (before ++ entry ∷ []) history parts.1)

  nodes_within : (first capacity : ℕ) (histories : List (List NodeEntry)) → IsTrue (are_legal_nodes first capacity door histories) → IsTrue (list_all within (nodes_turns by first histories))
  nodes_within first capacity [] so = refl
  nodes_within first capacity (history ∷ histories) so =
      let parts = and_parts (is_legal_node first capacity history && is_seen_node first door history) (are_legal_nodes (suc first) capacity door histories) so in
      let its = and_parts (is_legal_node first capacity history) (is_seen_node first door history) parts.0 in
      list_all-append within (node_turns by first [] history) (nodes_turns by (suc first) histories) ∙ and_from _ _ (node_within first [] history its.1) (nodes_within (suc first) capacity histories parts.1)

  office_within : (before office : List OfficeEntry) → IsTrue (each_after (may_come_beside door) before office) → IsTrue (list_all within (office_turns by before office))
  office_within before [] so = refl
  office_within before (entry ∷ office) so =
      let parts = and_parts (may_come_beside door before entry) (each_after (may_come_beside door) (before ++ entry ∷ []) office) so in
      in_front (same_line by entry.by) (AtOffice before entry) (office_turns by (before ++ entry ∷ []) office) (and_parts (nat_le entry.front (length door)) _ parts.0).0
      (office_within (before ++ entry ∷ []) office parts.1)

  door_within : (place : ℕ) (entries : List DoorEntry) → place + length entries ≤ length door → IsTrue (list_all within (door_turns by place entries))
  door_within place [] fits = refl
  door_within place (entry ∷ entries) fits =
      in_front (same_line by entry.by) (AtDoor place entry.act) (door_turns by (suc place) entries) (lt-ltb place (length door) (omega arith)) (door_within (suc place) entries (omega arith))

-- each turn of a line
pub turns_within : (by : By) (capacity : ℕ) (trace : Trace) → IsTrue (are_legal_nodes 1 capacity trace.door trace.nodes) → IsTrue (is_legal_office trace.door trace.office) → IsTrue (list_all (is_within (length trace.door)) (turns by trace))
turns_within by capacity trace nodes office =
    let beside = (and_parts (is_legal_alone trace.office) (is_legal_beside trace.door trace.office) office).1 in
    let all : IsTrue (list_all (is_within (length trace.door)) (entries_of by trace)) =
    list_all-append (is_within (length trace.door)) (nodes_turns by 1 trace.nodes ++ door_turns by 0 trace.door) (office_turns by [] trace.office)
    ∙ and_from _ _
    (list_all-append (is_within (length trace.door)) (nodes_turns by 1 trace.nodes) (door_turns by 0 trace.door) ∙ and_from _ _ (nodes_within by trace.door 1 capacity trace.nodes nodes) (door_within by trace.door 0 trace.door (omega arith)))
    (office_within by trace.door [] trace.office beside) in
    all_from (is_within (length trace.door)) (turns by trace) (λ turn among. all_at (is_within (length trace.door)) turn (entries_of by trace) (turns_in by trace turn among) all)
