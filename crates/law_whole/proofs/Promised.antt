-- The two parts of the promise that the door's history decides, of a trace.
use Rattle.std.proofs.Common.{◌&&◌, ℕ, List, [], ◌∷◌, suc, refl}
use Rattle.std.specs.Prelude.{IsTrue, take}
use Rattle.std.specs.List.{list_all}
use Rattle.std.proofs.lemmas.Bool.{and_from, and_parts}
use Rattle.aft_model.specs.declared.door.DoorEntry.{DoorEntry}
use Rattle.aft_model.specs.declared.node.NodeEntry.{NodeEntry}
use Rattle.aft_model.specs.declared.trace.Trace.{Trace}
use Rattle.aft_model.specs.History.{each_after}
use Rattle.aft_model.specs.LegalNode.{LegalNode, is_legal_node, may_follow_at}
use Rattle.aft_model.specs.NodeSights.{is_seen_node, may_come_at}
use Rattle.aft_lines.specs.Headline.{commits_once, is_acknowledged_in, whole_until_superseded}
use Rattle.aft_lines.specs.LegalTrace.{are_legal_nodes}
use Rattle.law_kept.specs.Kept.{Lawful}
use Rattle.law_whole.proofs.Acknowledged.{acknowledged_from, seen_at_first}
use Rattle.law_whole.proofs.Lists.{each_both}
use Rattle.law_whole.proofs.Throughout.{each_unused, each_whole, has_one}

pub acknowledged_node : (node capacity : ℕ) (door : List DoorEntry) (history : List NodeEntry) → LegalNode node capacity history → IsTrue (is_seen_node node door history)
    → IsTrue (each_after (λ before entry. is_acknowledged_in (take entry.front door) entry.act entry.answer) [] history)
acknowledged_node node capacity door history legal seen =
    acknowledged_from node capacity door [] history (each_both (may_follow_at node capacity) (may_come_at node door) [] history legal seen) (seen_at_first node capacity door)

pub acknowledged_nodes : (node capacity : ℕ) (door : List DoorEntry) (histories : List (List NodeEntry)) → IsTrue (are_legal_nodes node capacity door histories)
    → IsTrue (list_all (each_after (λ before entry. is_acknowledged_in (take entry.front door) entry.act entry.answer) []) histories)
acknowledged_nodes node capacity door [] legal = refl
acknowledged_nodes node capacity door (history ∷ histories) legal =
    let parts = and_parts (is_legal_node node capacity history && is_seen_node node door history) (are_legal_nodes (suc node) capacity door histories) legal in
    let its = and_parts (is_legal_node node capacity history) (is_seen_node node door history) parts.0 in
    and_from _ _ (acknowledged_node node capacity door history its.0 its.1) (acknowledged_nodes (suc node) capacity door histories parts.1)

pub once : (trace : Trace) → Lawful trace.door → IsTrue (commits_once trace)
once trace lawful = and_from _ _ (has_one trace.door lawful) (each_unused trace.door lawful)

pub whole : (first capacity : ℕ) (trace : Trace) → Lawful trace.door → IsTrue (are_legal_nodes first capacity trace.door trace.nodes) → IsTrue (whole_until_superseded trace)
whole first capacity trace lawful legal = and_from _ _ (each_whole trace.door lawful) (acknowledged_nodes first capacity trace.door trace.nodes legal)
