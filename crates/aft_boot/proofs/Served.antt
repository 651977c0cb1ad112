-- First boots one behind the other.
use Rattle.std.proofs.Common.{◌≡◌, ◌+◌, ◌≤◌, ◌<◌, ℕ, zero, suc, List, [], ◌∷◌, ◌++◌, length, length-append, refl, sym, ap, subst, ◌∙◌, inl, inr, append-nil, append_assoc, arith}
use Rattle.std.specs.Prelude.{IsTrue, Some, map}
use Rattle.std.specs.List.{flat_map, range_with_len}
use Rattle.std.proofs.lemmas.Bool.{and_from, lt-ltb, or_left}
use Rattle.std.proofs.lemmas.List.{map-append}
use Rattle.std.proofs.lemmas.List.Concat.{flat_map-append}
use Rattle.std.proofs.lemmas.List.Folds.{list_all-append, list_any-append}
use Rattle.aft_audit.specs.declared.fault.AuditFault.{AuditFault}
use Rattle.aft_audit.specs.declared.fault.AuditFault.TheVariants as faults
use Rattle.aft_model.specs.declared.door.DoorEntry.{DoorEntry}
use Rattle.aft_model.specs.DoorKnowledge.{is_open, opens}
use Rattle.aft_model.specs.LegalNode.{is_legal_node}
use Rattle.aft_model.specs.Opening.{opening}
use Rattle.aft_ledger.specs.View.{NodeView}
use Rattle.aft_lines.specs.Turns.{AtNode}
use Rattle.aft_boot.specs.FirstBoots.{FirstBoot, FollowFrom, HasServed, HaveServed, HaveStopped, IsReadyFor, Stops, boot_entries, first_entry, last_entry, node_behind}
use Rattle.aft_boot.proofs.Below.{AllBelow, both_below, below_least, pages_below}
use Rattle.aft_boot.proofs.Entries.{entries_of, page_entry, up_entries}

-- what a first boot did at the door
pub boot_at_door : (boot : FirstBoot) → boot_entries boot ≡ up_entries opening boot.node 1 (Some boot.front) ++ (map (page_entry opening boot.node 1) boot.pages ++ [])
boot_at_door boot = entries_of opening boot.node 1 opening [] boot.front (Some boot.front) boot.pages (AtNode boot.node (first_entry boot ∷ []) (last_entry boot) ∷ [])

-- ---- who has come up

boot_below : (least : ℕ) (boot : FirstBoot) → boot.node < least → AllBelow least (boot_entries boot)
boot_below least boot lt =
    subst (AllBelow least) (sym (boot_at_door boot))
    (and_from _ _ (lt-ltb boot.node least lt) (both_below least (map (page_entry opening boot.node 1) boot.pages) [] (pages_below least opening boot.node 1 boot.pages) refl))

boots_below : (least from count : ℕ) (boots : List FirstBoot) → map (λ (boot : FirstBoot). boot.node) boots ≡ range_with_len from count → from + count ≤ least → AllBelow least (flat_map boot_entries boots)
boots_below least from count [] numbers within = refl
boots_below least from zero (boot ∷ boots) numbers within = absurd (cc)
boots_below least from (suc count) (boot ∷ boots) numbers within =
    both_below least (boot_entries boot) (flat_map boot_entries boots) (boot_below least boot (let here : boot.node ≡ from = cc in omega arith))
    (boots_below least (from + 1) count boots (cc) (omega arith))

-- a door that was ready for node 1 is ready for the next node
pub ready_next : (capacity lines count : ℕ) (nodes : List NodeView) (old new : List DoorEntry) → IsReadyFor 1 old → HaveServed capacity lines count nodes old new → IsReadyFor (count + 1) new
ready_next capacity lines count nodes old new ready served = record {
  opened =
      subst (λ (h : List DoorEntry). IsTrue (is_open h)) (sym served.door)
      (list_any-append (λ (e : DoorEntry). opens e.act) old (flat_map boot_entries served.boots) ∙ or_left _ _ ready.opened);
  below =
      subst (AllBelow (count + 1)) (sym served.door)
      (both_below (count + 1) old (flat_map boot_entries served.boots) (below_least 1 (count + 1) old (omega arith) ready.below) (boots_below (count + 1) 1 count served.boots served.numbers (omega arith)));
}

-- ---- with one more

numbers_more : (from count : ℕ) → range_with_len from (suc count) ≡ range_with_len from count ++ (from + count) ∷ []
numbers_more from zero = ap (λ (n : ℕ). n ∷ []) (let it : from ≡ from + 0 = omega arith in it)
numbers_more from (suc count) = ap (λ (ns : List ℕ). from ∷ ns) (numbers_more (from + 1) count ∙ ap (λ (n : ℕ). range_with_len (from + 1) count ++ n ∷ []) (let it : from + 1 + count ≡ from + suc count = omega arith in it))

follow_more : (place : ℕ) (boots : List FirstBoot) (boot : FirstBoot) → FollowFrom place boots → FollowFrom (place + length (flat_map boot_entries boots)) (boot ∷ []) → FollowFrom place (boots ++ boot ∷ [])
follow_more place [] boot old more = let here : place + 0 ≡ place = omega arith in subst (λ (p : ℕ). FollowFrom p (boot ∷ [])) here more
follow_more place (first ∷ boots) boot (begins, stands, old) more = (
  begins,
  stands,
  follow_more (place + length (boot_entries first)) boots boot old
      (let l = length-append (boot_entries first) (flat_map boot_entries boots) in
      let along : place + length (boot_entries first ++ flat_map boot_entries boots) ≡ place + length (boot_entries first) + length (flat_map boot_entries boots) = omega arith in
      subst (λ (p : ℕ). FollowFrom p (boot ∷ [])) along more),
)

-- none has been made yet
pub none_served : (capacity lines : ℕ) (door : List DoorEntry) → HaveServed capacity lines 0 [] door door
none_served capacity lines door = record { boots = []; numbers = refl; follow = tt; nodes_are = refl; legal = refl; door = sym (append-nil door) }

pub one_more : (capacity lines count : ℕ) (nodes : List NodeView) (node : NodeView) (old between new : List DoorEntry) → HaveServed capacity lines count nodes old between → HasServed capacity lines (count + 1) node between new → HaveServed capacity lines (count + 1) (nodes ++ node ∷ []) old new
one_more capacity lines count nodes node old between new served has = record {
  boots = served.boots ++ has.boot ∷ [];
  numbers =
      map-append (λ (b : FirstBoot). b.node) served.boots (has.boot ∷ [])
      ∙ ap (λ (ns : List ℕ). ns ++ has.boot.node ∷ []) served.numbers
      ∙ ap (λ (n : ℕ). range_with_len 1 count ++ n ∷ []) (has.number_is ∙ (let it : count + 1 ≡ 1 + count = omega arith in it))
      ∙ sym (numbers_more 1 count)
      ∙ ap (range_with_len 1) (let it : suc count ≡ count + 1 = omega arith in it);
  follow = follow_more (length old) served.boots has.boot served.follow (has.begins ∙ count_so, has.stands, tt);
  nodes_are =
      ap (λ (ns : List NodeView). ns ++ node ∷ []) served.nodes_are
      ∙ ap (λ (n : NodeView). map (node_behind capacity lines) served.boots ++ n ∷ []) has.node_is
      ∙ sym (map-append (node_behind capacity lines) served.boots (has.boot ∷ []));
  legal =
      list_all-append (λ (n : NodeView). is_legal_node n.number capacity n.history) nodes (node ∷ [])
      ∙ and_from _ _ served.legal (and_from _ _ (subst (λ (n : ℕ). IsTrue (is_legal_node n capacity node.history)) (sym number_so) has.legal) refl);
  door =
      has.door
      ∙ ap (λ (h : List DoorEntry). h ++ boot_entries has.boot) served.door
      ∙ append_assoc old (flat_map boot_entries served.boots) (boot_entries has.boot)
      ∙ ap (λ (es : List DoorEntry). old ++ (flat_map boot_entries served.boots ++ es)) (sym (append-nil (boot_entries has.boot)))
      ∙ ap (λ (es : List DoorEntry). old ++ es) (sym (flat_map-append boot_entries served.boots (has.boot ∷ [])));
}
  where
    count_so : length between ≡ length old + length (flat_map boot_entries served.boots)
    count_so = ap (λ (h : List DoorEntry). length h) served.door ∙ length-append old (flat_map boot_entries served.boots)

    number_so : node.number ≡ count + 1
    number_so = ap (λ (n : NodeView). n.number) has.node_is ∙ has.number_is

-- ---- one that stopped

pub stops_next : (capacity lines count most : ℕ) (nodes : List NodeView) (fault : AuditFault) (old between new : List DoorEntry) → count < most → HaveServed capacity lines count nodes old between → Stops (count + 1) fault between new → HaveStopped most fault old new
stops_next capacity lines count most nodes fault old between new lt served stops = record {
  capacity = capacity;
  lines = lines;
  count = count;
  nodes = nodes;
  between = between;
  served = served;
  few = omega arith;
  stops = inr (lt, let it : count + 1 ≡ suc count = omega arith in subst (λ (n : ℕ). Stops n fault between new) it stops);
}

pub lacks_memory : (capacity lines count most : ℕ) (nodes : List NodeView) (old new : List DoorEntry) → count ≤ most → HaveServed capacity lines count nodes old new → HaveStopped most faults.Memory old new
lacks_memory capacity lines count most nodes old new few served = record {
  capacity = capacity;
  lines = lines;
  count = count;
  nodes = nodes;
  between = new;
  served = served;
  few = few;
  stops = inl (refl, refl);
}

-- memory was wanting before any boot
pub none_booted : (capacity lines most : ℕ) (door : List DoorEntry) → HaveStopped most faults.Memory door door
none_booted capacity lines most door = lacks_memory capacity lines 0 most [] door door (omega arith) (none_served capacity lines door)
