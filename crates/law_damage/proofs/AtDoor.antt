-- What a line's turns at the door are in the door's history, and that no line of a run is the opening.
use Rattle.std.proofs.Common.{◌≡◌, ℕ, Bool, true, false, suc, List, [], ◌∷◌, ◌++◌, ◌+◌, ◌∙◌, refl, sym, subst, inl, inr, arith, length, append_assoc, length-append}
use Rattle.std.specs.Prelude.{IsTrue, if◌then◌else◌}
use Rattle.std.specs.List.{list_all}
use Rattle.std.proofs.lemmas.Bool.{and_parts, false≢true}
use Rattle.aft_model.specs.declared.caller.By.{By}
use Rattle.aft_model.specs.declared.door.DoorAct.{DoorAct}
use Rattle.aft_model.specs.declared.door.DoorAct.TheVariants.{Opened}
use Rattle.aft_model.specs.declared.door.DoorEntry.{DoorEntry}
use Rattle.aft_model.specs.declared.node.NodeEntry.{NodeEntry}
use Rattle.aft_model.specs.declared.office.OfficeEntry.{OfficeEntry}
use Rattle.aft_model.specs.declared.script.Command.{Command}
use Rattle.aft_model.specs.declared.script.Command.TheVariants as commands
use Rattle.aft_model.specs.declared.trace.Trace.{Trace}
use Rattle.aft_model.specs.DoorKnowledge.{opens}
use Rattle.aft_model.specs.ScanRun.{same_line}
use Rattle.aft_model.proofs.Histories.{In, in_append}
use Rattle.aft_lines.specs.Makes.{makes, makes_at_door}
use Rattle.aft_lines.specs.OpeningCourse.{boots_course, opening_course}
use Rattle.aft_lines.specs.Turns.{AtDoor, AtNode, AtOffice, Turn, door_turns, node_turns, nodes_turns, office_turns, turns}
use Rattle.law_runs.proofs.Members.{turns_in}

-- ---- a turn at the door is an entry of the line there

-- an entry of a line at a place of the door's history, with what stands before it and behind it
pub record Placed (door : List DoorEntry) (by : By) (place : ℕ) (act : DoorAct) : Type 0 where
  pub before : List DoorEntry
  pub entry : DoorEntry
  pub after : List DoorEntry
  pub parts : door ≡ before ++ entry ∷ after
  pub is_at : length before ≡ place
  pub does : act ≡ entry.act
  pub its : IsTrue (same_line by entry.by)

-- where a turn is at the door, an entry of the line stands there and has its act; of others nothing
abbrev pub Entered : List DoorEntry → By → Turn → Type 0
Entered door by (AtDoor place act) = Placed door by place act
Entered door by turn = true ≡ true

module _ (door : List DoorEntry) (by : By) (x : Turn) where
  if_own : (turn : Turn) (own : Bool) → (IsTrue own → Entered door by turn) → In x (if own then turn ∷ [] else []) → Entered door by x
  if_own turn true so (inl is) = subst (λ t. Entered door by t) (sym is) (so refl)
  if_own turn true so (inr nowhere) = absurd nowhere
  if_own turn false so nowhere = absurd nowhere

  at_node : (node : ℕ) (before history : List NodeEntry) → In x (node_turns by node before history) → Entered door by x
  at_node node before [] among = absurd among
  at_node node before (entry ∷ entries) among = elim (in_append x (if same_line by entry.by then AtNode node before entry ∷ [] else []) (node_turns by node (before ++ entry ∷ []) entries) among) [
    | inl here ↦ if_own (AtNode node before entry) (same_line by entry.by) (λ own. refl) here
    | inr later ↦ at_node node (before ++ entry ∷ []) entries later
  ]

  at_nodes : (node : ℕ) (histories : List (List NodeEntry)) → In x (nodes_turns by node histories) → Entered door by x
  at_nodes node [] among = absurd among
  at_nodes node (history ∷ histories) among = elim (in_append x (node_turns by node [] history) (nodes_turns by (suc node) histories) among) [
    | inl here ↦ at_node node [] history here
    | inr later ↦ at_nodes (suc node) histories later
  ]

  at_office : (before office : List OfficeEntry) → In x (office_turns by before office) → Entered door by x
  at_office before [] among = absurd among
  at_office before (entry ∷ entries) among = elim (in_append x (if same_line by entry.by then AtOffice before entry ∷ [] else []) (office_turns by (before ++ entry ∷ []) entries) among) [
    | inl here ↦ if_own (AtOffice before entry) (same_line by entry.by) (λ own. refl) here
    | inr later ↦ at_office (before ++ entry ∷ []) entries later
  ]

  at_door : (before rest : List DoorEntry) → door ≡ before ++ rest → In x (door_turns by (length before) rest) → Entered door by x
  at_door before [] is among = absurd among
  at_door before (entry ∷ entries) is among = elim (in_append x (if same_line by entry.by then AtDoor (length before) entry.act ∷ [] else []) (door_turns by (suc (length before)) entries) among) [
    | inl here ↦ if_own (AtDoor (length before) entry.act) (same_line by entry.by) (λ own. record { before = before; entry = entry; after = entries; parts = is; is_at = refl; does = refl; its = own }) here
    | inr later ↦ at_door (before ++ entry ∷ []) entries (is ∙ sym (append_assoc before (entry ∷ []) entries)) (subst (λ (n : ℕ). In x (door_turns by n entries)) (let one : length (before ++ entry ∷ []) ≡ length before + 1 = length-append before (entry ∷ []) in omega arith) later)
  ]

pub entered : (by : By) (trace : Trace) (x : Turn) → In x (turns by trace) → Entered trace.door by x
entered by trace x among =
    elim (in_append x (nodes_turns by 1 trace.nodes ++ door_turns by 0 trace.door) (office_turns by [] trace.office) (turns_in by trace x among)) [
      | inl first ↦ elim (in_append x (nodes_turns by 1 trace.nodes) (door_turns by 0 trace.door) first) [
        | inl node ↦ at_nodes trace.door by x 1 trace.nodes node
        | inr door ↦ at_door trace.door by x [] trace.door refl door
      ]
      | inr office ↦ at_office trace.door by x [] trace.office office
    ]

-- ---- no line opens the door

makes_no_opening : (command : Command) (act : DoorAct) → IsTrue (opens act) → IsTrue (makes_at_door command act) → ⊥
makes_no_opening (commands.Begin uuid node) Opened opened made = false≢true made
makes_no_opening (commands.Forget uuid node) Opened opened made = false≢true made
makes_no_opening command Opened opened made = false≢true made
makes_no_opening command act opened made = false≢true opened

pub never_opens : (nodes : List ℕ) (command : Command) (line : List Turn) → IsTrue (opening_course nodes line) → IsTrue (list_all (makes command) line) → ⊥
never_opens nodes command (AtDoor place act ∷ line) course made = by_act (never_opens nodes command line) (opens act) refl course
  where
    parts : IsTrue (makes_at_door command act) × IsTrue (list_all (makes command) line)
    parts = and_parts (makes_at_door command act) (list_all (makes command) line) made

    by_act : (IsTrue (opening_course nodes line) → IsTrue (list_all (makes command) line) → ⊥) → (t : Bool) → opens act ≡ t → IsTrue (if t then boots_course nodes line else opening_course nodes line) → ⊥
    by_act rest true opened is = makes_no_opening command act opened parts.0
    by_act rest false other is = rest is parts.1
never_opens nodes command line course made = false≢true course
