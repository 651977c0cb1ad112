-- The turns of a first boot, one behind the other.
use Rattle.std.proofs.Common.{◌≡◌, ◌+◌, ◌-◌, ℕ, suc, true, List, [], ◌∷◌, ◌++◌, length, length-append, max, refl, sym, ap, subst, ◌∙◌, inl, inr, append-nil, append_assoc, arith}
use Rattle.std.specs.Prelude.{Option, if◌then◌else◌}
use Rattle.std.specs.List.{flat_map, list_all}
use Rattle.std.proofs.lemmas.Bool.{and_parts, false≢true}
use Rattle.std.proofs.lemmas.List.Concat.{flat_map-append}
use Rattle.std.proofs.lemmas.List.Sums.{fold-append}
use Rattle.aft_model.specs.declared.caller.By.{By}
use Rattle.aft_model.specs.declared.door.DoorAct.{DoorAct}
use Rattle.aft_model.specs.declared.door.DoorEntry.{DoorEntry}
use Rattle.aft_model.specs.declared.node.NodeAct.{NodeAct}
use Rattle.aft_model.specs.declared.node.NodeEntry.{NodeEntry}
use Rattle.aft_model.specs.declared.reply.Reply.{Reply}
use Rattle.aft_model.specs.Opening.{opening}
use Rattle.aft_model.specs.Replies.{is_silent}
use Rattle.aft_ledger.specs.View.{NodeView, after_entry}
use Rattle.aft_lines.specs.LineView.{door_entry_in}
use Rattle.aft_lines.specs.Turns.{AtDoor, AtNode, AtOffice, Turn}
use Rattle.aft_boot.specs.Booted.{Made}
use Rattle.aft_boot.specs.BootView.{BootView}
use Rattle.aft_boot.specs.Driving.{Drives, Placed, node_entry_in}
use Rattle.aft_boot.proofs.Entries.{AreDoor, is_door}
use Rattle.aft_turns.specs.Steps.{StepsAtDoor, StepsAtNode, entry_of}
use Rattle.aft_turns.specs.Trail.{Trail, behind, looking}

abbrev pub done_at_door : List Turn → List DoorEntry
done_at_door turns = flat_map (door_entry_in opening) turns

abbrev done_at_node : List Turn → List NodeEntry
done_at_node turns = flat_map node_entry_in turns

-- ---- placed turns

-- with one more
placed_more : (number place : ℕ) (before : List NodeEntry) (turns : List Turn) (turn : Turn) → Placed number place before turns → Placed number (place + length (done_at_door turns)) (before ++ done_at_node turns) (turn ∷ []) → Placed number place before (turns ++ turn ∷ [])
placed_more number place before [] turn old more =
    let here : place + 0 ≡ place = omega arith in
    subst (λ (p : ℕ). Placed number p before (turn ∷ [])) here (subst (λ (b : List NodeEntry). Placed number (place + 0) b (turn ∷ [])) (append-nil before) more)
placed_more number place before (AtDoor at act ∷ turns) turn (is, old) more = (
  is,
  placed_more number (suc place) before turns turn old
      (let along : place + length (done_at_door (AtDoor at act ∷ turns)) ≡ suc place + length (done_at_door turns) = omega arith in
      subst (λ (p : ℕ). Placed number p (before ++ done_at_node turns) (turn ∷ [])) along more),
)
placed_more number place before (AtNode node history entry ∷ turns) turn (here, its, seen, old) more = (
  here,
  its,
  seen,
  placed_more number place (before ++ entry ∷ []) turns turn old
      (subst (λ (b : List NodeEntry). Placed number (place + length (done_at_door turns)) b (turn ∷ [])) (sym (append_assoc before (entry ∷ []) (done_at_node turns))) more),
)
placed_more number place before (AtOffice history entry ∷ turns) turn old more = absurd old

-- those behind some others
pub placed_behind : (number place : ℕ) (before : List NodeEntry) (turns more : List Turn) → Placed number place before (turns ++ more) → Placed number (place + length (done_at_door turns)) (before ++ done_at_node turns) more
placed_behind number place before [] more all =
    let here : place ≡ place + 0 = omega arith in
    subst (λ (p : ℕ). Placed number p (before ++ []) more) here (subst (λ (b : List NodeEntry). Placed number place b more) (sym (append-nil before)) all)
placed_behind number place before (AtDoor at act ∷ turns) more (is, all) =
    let along : suc place + length (done_at_door turns) ≡ place + length (done_at_door (AtDoor at act ∷ turns)) = omega arith in
    subst (λ (p : ℕ). Placed number p (before ++ done_at_node turns) more) along (placed_behind number (suc place) before turns more all)
placed_behind number place before (AtNode node history entry ∷ turns) more (here, its, seen, all) =
    subst (λ (b : List NodeEntry). Placed number (place + length (done_at_door turns)) b more) (append_assoc before (entry ∷ []) (done_at_node turns))
    (placed_behind number place (before ++ entry ∷ []) turns more all)
placed_behind number place before (AtOffice history entry ∷ turns) more all = absurd all

-- ---- what turns did

pub none_at_node : (turns : List Turn) → AreDoor turns → done_at_node turns ≡ []
none_at_node [] door = refl
none_at_node (AtDoor place act ∷ turns) door = none_at_node turns (and_parts true (list_all is_door turns) door).1
none_at_node (AtNode node before entry ∷ turns) door = absurd (false≢true door)
none_at_node (AtOffice before entry ∷ turns) door = absurd (false≢true door)

-- one more at the node, and one more at the door
more_at_node : (turns : List Turn) (number : ℕ) (before : List NodeEntry) (entry : NodeEntry) → (done_at_door (turns ++ AtNode number before entry ∷ []) ≡ done_at_door turns) × (done_at_node (turns ++ AtNode number before entry ∷ []) ≡ done_at_node turns ++ entry ∷ [])
more_at_node turns number before entry = (
  flat_map-append (door_entry_in opening) turns (AtNode number before entry ∷ []) ∙ append-nil (done_at_door turns),
  flat_map-append node_entry_in turns (AtNode number before entry ∷ []),
)

more_at_door : (turns : List Turn) (place : ℕ) (act : DoorAct) → (done_at_door (turns ++ AtDoor place act ∷ []) ≡ done_at_door turns ++ record { by = opening; act = act } ∷ []) × (done_at_node (turns ++ AtDoor place act ∷ []) ≡ done_at_node turns)
more_at_door turns place act = (
  flat_map-append (door_entry_in opening) turns (AtDoor place act ∷ []),
  flat_map-append node_entry_in turns (AtDoor place act ∷ []) ∙ append-nil (done_at_node turns),
)

-- ---- one turn more

module _ (start : List DoorEntry) (capacity lines : ℕ) (boot later : BootView) (node : NodeView) (door : List DoorEntry) (by_same : later.by ≡ boot.by) (node_same : later.node ≡ boot.node) (drives : Drives start capacity lines boot node door) where
  abbrev trail : Trail
  trail = drives.trail

  -- so much is at the door
  reaches : length start + length (done_at_door trail.turns) ≡ length door
  reaches = sym (ap (λ (h : List DoorEntry). length h) drives.door_is ∙ length-append start (done_at_door trail.turns))

  module _ (act : NodeAct) (answer : Option Reply) (leads : (t : Trail) → Made boot t → Made later (behind t (AtNode node.number node.history (entry_of boot.by (length door) node act answer)))) where
    abbrev entry : NodeEntry
    entry = entry_of boot.by (length door) node act answer

    sees_all : max node.front (length door) ≡ length door
    sees_all = let seen = drives.seen in omega arith

    turns_behind : Placed node.number (length start) [] (trail.turns ++ AtNode node.number node.history entry ∷ [])
    turns_behind = placed_more node.number (length start) [] trail.turns (AtNode node.number node.history entry) drives.placed (refl, drives.history_is, sees_all ∙ sym reaches, tt)

    at_node : Drives start capacity lines later (after_entry (length door) boot.by act answer node) door
    at_node = record {
      ready = drives.ready;
      trail = behind trail (AtNode node.number node.history entry);
      made = leads trail drives.made;
      by = by_same ∙ drives.by;
      number = node_same ∙ drives.number;
      some = drives.some;
      capacity_is = drives.capacity_is;
      front_is = sym (fold-append (λ (before : ℕ) (e : NodeEntry). e.front) 0 node.history (entry ∷ []));
      seen = let it = sees_all in omega arith;
      room = ap (λ (r : ℕ). if is_silent answer then r else r - 1) drives.room ∙ sym (fold-append (λ (r : ℕ) (e : NodeEntry). if is_silent e.answer then r else r - 1) (suc lines) node.history (entry ∷ []));
      door_is = drives.door_is ∙ ap (λ (es : List DoorEntry). start ++ es) (sym (more_at_node trail.turns node.number node.history entry).0);
      history_is = ap (λ (es : List NodeEntry). es ++ entry ∷ []) drives.history_is ∙ sym (more_at_node trail.turns node.number node.history entry).1;
      placed = turns_behind;
      looked = drives.looked;
    }

  pub steps_at_node : (new : NodeView) → StepsAtNode boot.by (length door) (Made boot) (Made later) node new → Drives start capacity lines later new door
  steps_at_node new (act, answer, is, leads) = subst (λ (n : NodeView). Drives start capacity lines later n door) (sym is) (at_node act answer leads)

  module _ (act : DoorAct) (leads : (t : Trail) → Made boot t → Made later (behind t (AtDoor (length door) act))) where
    abbrev added : List DoorEntry
    added = record { by = boot.by; act = act } ∷ []

    acts_at_door : Drives start capacity lines later node (door ++ added)
    acts_at_door = record {
      ready = drives.ready;
      trail = behind trail (AtDoor (length door) act);
      made = leads trail drives.made;
      by = by_same ∙ drives.by;
      number = node_same ∙ drives.number;
      some = drives.some;
      capacity_is = drives.capacity_is;
      front_is = drives.front_is;
      seen = let seen = drives.seen in let l = length-append door added in omega arith;
      room = drives.room;
      door_is =
          ap (λ (h : List DoorEntry). h ++ added) drives.door_is
          ∙ append_assoc start (done_at_door trail.turns) added
          ∙ ap (λ (b : By). start ++ (done_at_door trail.turns ++ record { by = b; act = act } ∷ [])) drives.by
          ∙ ap (λ (es : List DoorEntry). start ++ es) (sym (more_at_door trail.turns (length door) act).0);
      history_is = drives.history_is ∙ sym (more_at_door trail.turns (length door) act).1;
      placed = placed_more node.number (length start) [] trail.turns (AtDoor (length door) act) drives.placed (sym reaches, tt);
      looked = (drives.looked.0 ++ added, ap (λ (h : List DoorEntry). h ++ added) drives.looked.1 ∙ append_assoc trail.look drives.looked.0 added);
    }

  looks_at_door : ((t : Trail) → Made boot t → Made later (looking t door)) → Drives start capacity lines later node door
  looks_at_door leads = record {
    ready = drives.ready;
    trail = looking trail door;
    made = leads trail drives.made;
    by = by_same ∙ drives.by;
    number = node_same ∙ drives.number;
    some = drives.some;
    capacity_is = drives.capacity_is;
    front_is = drives.front_is;
    seen = drives.seen;
    room = drives.room;
    door_is = drives.door_is;
    history_is = drives.history_is;
    placed = drives.placed;
    looked = ([], sym (append-nil door));
  }

  pub steps_at_door : (new : List DoorEntry) → StepsAtDoor boot.by (Made boot) (Made later) door new → Drives start capacity lines later node new
  steps_at_door new (inl (act, is, leads)) = subst (λ (h : List DoorEntry). Drives start capacity lines later node h) (sym is) (acts_at_door act leads)
  steps_at_door new (inr (is, leads)) = subst (λ (h : List DoorEntry). Drives start capacity lines later node h) (sym is) (looks_at_door leads)
