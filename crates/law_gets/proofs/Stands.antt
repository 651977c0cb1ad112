-- Where the turns of a line stand in the histories, and what holds of a node's history.
use Rattle.std.proofs.Common.{◌≡◌, ◌≤◌, ℕ, Bool, true, false, suc, ◌&&◌, List, [], ◌∷◌, ◌++◌, refl, sym, ap, subst, ◌∙◌, inl, inr, append_assoc, length, length-append, eqb, arith}
use Rattle.std.specs.Prelude.{IsTrue, IsFalse, if◌then◌else◌}
use Rattle.std.specs.List.{list_all}
use Rattle.std.proofs.lemmas.Bool.{and_parts, cases_Bool, eq-eqb, eqb-true, ne_eqb}
use Rattle.aft_model.specs.declared.caller.By.{By}
use Rattle.aft_model.specs.declared.door.DoorEntry.{DoorEntry}
use Rattle.aft_model.specs.declared.node.NodeEntry.{NodeEntry}
use Rattle.aft_model.specs.declared.office.OfficeEntry.{OfficeEntry}
use Rattle.aft_model.specs.declared.trace.Trace.{Trace}
use Rattle.aft_model.specs.History.{each_after}
use Rattle.aft_model.specs.LegalNode.{is_legal_node}
use Rattle.aft_model.specs.NodeSights.{is_seen_node}
use Rattle.aft_model.specs.ScanRun.{same_line}
use Rattle.aft_model.proofs.Histories.{In, in_append}
use Rattle.aft_lines.specs.LegalTrace.{are_legal_nodes}
use Rattle.aft_lines.specs.Turns.{AtDoor, AtNode, AtOffice, Turn, door_turns, node_turns, nodes_turns, office_turns, turns}
use Rattle.law_boots.specs.Beside.{Beside}
use Rattle.law_boots.proofs.Again.{Opens, open_rule}
use Rattle.law_runs.proofs.Members.{turns_in}
use Rattle.law_steps.specs.Histories.{history_in}

-- a turn at a node stands in its history, and one at the door in that of the door, at its place
abbrev pub Stands : Trace → By → Turn → Type 0
Stands trace by (AtNode number before entry) = (more : List NodeEntry) × (history_in number 1 trace.nodes ≡ before ++ entry ∷ more) × IsTrue (same_line by entry.by)
Stands trace by (AtDoor place act) = (seen : List DoorEntry) × (got : DoorEntry) × (after : List DoorEntry) × (trace.door ≡ seen ++ got ∷ after) × (length seen ≡ place) × (got.act ≡ act)
Stands trace by (AtOffice before entry) = Unit {0}

module _ (trace : Trace) (by : By) (x : Turn) where
  if_own : (turn : Turn) (own : Bool) → (IsTrue own → Stands trace by turn) → In x (if own then turn ∷ [] else []) → Stands trace by x
  if_own turn true so (inl is) = subst (λ t. Stands trace by t) (sym is) (so refl)
  if_own turn true so (inr nowhere) = absurd nowhere
  if_own turn false so nowhere = absurd nowhere

  at_node : (node : ℕ) (before history : List NodeEntry) → history_in node 1 trace.nodes ≡ before ++ history → In x (node_turns by node before history) → Stands trace by x
  at_node node before [] is among = absurd among
  at_node node before (entry ∷ entries) is among = elim (in_append x (if same_line by entry.by then AtNode node before entry ∷ [] else []) (node_turns by node (before ++ entry ∷ []) entries) among) [
    | inl here ↦ if_own (AtNode node before entry) (same_line by entry.by) (λ own. (entries, is, own)) here
    | inr later ↦ at_node node (before ++ entry ∷ []) entries (is ∙ sym (append_assoc before (entry ∷ []) entries)) later
  ]

  at_nodes : (first : ℕ) (histories : List (List NodeEntry)) → ((number : ℕ) → first ≤ number → history_in number first histories ≡ history_in number 1 trace.nodes) → In x (nodes_turns by first histories) → Stands trace by x
  at_nodes first [] same among = absurd among
  at_nodes first (history ∷ histories) same among = elim (in_append x (node_turns by first [] history) (nodes_turns by (suc first) histories) among) [
    | inl here ↦ at_node first [] history (sym (same first (omega arith)) ∙ ap (λ (t : Bool). if t then history else history_in first (suc first) histories) (eq-eqb first first refl)) here
    | inr later ↦ at_nodes (suc first) histories (λ number past.
        sym (ap (λ (t : Bool). if t then history else history_in number (suc first) histories) (ne_eqb number first (λ is. (let l : suc first ≤ number = past in let s : number ≡ first = is in omega arith)))) ∙ same number (let l : suc first ≤ number = past in omega arith)) later
  ]

  at_office : (before office : List OfficeEntry) → In x (office_turns by before office) → Stands trace by x
  at_office before [] among = absurd among
  at_office before (entry ∷ entries) among = elim (in_append x (if same_line by entry.by then AtOffice before entry ∷ [] else []) (office_turns by (before ++ entry ∷ []) entries) among) [
    | inl here ↦ if_own (AtOffice before entry) (same_line by entry.by) (λ own. tt) here
    | inr later ↦ at_office (before ++ entry ∷ []) entries later
  ]

  at_door : (place : ℕ) (seen rest : List DoorEntry) → trace.door ≡ seen ++ rest → length seen ≡ place → In x (door_turns by place rest) → Stands trace by x
  at_door place seen [] is long among = absurd among
  at_door place seen (entry ∷ entries) is long among = elim (in_append x (if same_line by entry.by then AtDoor place entry.act ∷ [] else []) (door_turns by (suc place) entries) among) [
    | inl here ↦ if_own (AtDoor place entry.act) (same_line by entry.by) (λ own. (seen, entry, entries, is, long, refl)) here
    | inr later ↦ at_door (suc place) (seen ++ entry ∷ []) entries (is ∙ sym (append_assoc seen (entry ∷ []) entries)) (length-append seen (entry ∷ []) ∙ (let now = long in omega arith)) later
  ]

pub stands : (trace : Trace) (by : By) (x : Turn) → In x (turns by trace) → Stands trace by x
stands trace by x among =
    elim (in_append x (nodes_turns by 1 trace.nodes ++ door_turns by 0 trace.door) (office_turns by [] trace.office) (turns_in by trace x among)) [
      | inl first ↦ elim (in_append x (nodes_turns by 1 trace.nodes) (door_turns by 0 trace.door) first) [
        | inl node ↦ at_nodes trace by x 1 trace.nodes (λ number past. refl) node
        | inr door ↦ at_door trace by x 0 [] trace.door refl refl door
      ]
      | inr office ↦ at_office trace by x [] trace.office office
    ]

-- ---- the history of a node

not_empty : {A : Type 0} (xs : List A) (x : A) (ys : List A) → [] ≡ xs ++ x ∷ ys → ⊥
not_empty [] x ys is = cc
not_empty (a ∷ xs) x ys is = cc

-- a history with an entry is that of a node, legal, and has seen what it asks; and each fetch that ended there stood open
pub history_of : (capacity : ℕ) (door : List DoorEntry) (number first : ℕ) (histories : List (List NodeEntry)) (before : List NodeEntry) (entry : NodeEntry) (more : List NodeEntry) → 1 ≤ first → IsTrue (are_legal_nodes first capacity door histories)
    → IsTrue (list_all (each_after open_rule []) histories) → history_in number first histories ≡ before ++ entry ∷ more → IsFalse (eqb number 0) × Beside number capacity door (before ++ entry ∷ more) × Opens (before ++ entry ∷ more)
history_of capacity door number first [] before entry more some legal opens is = absurd (not_empty before entry more is)
history_of capacity door number first (h ∷ histories) before entry more some legal opens is =
    let parts = and_parts (is_legal_node first capacity h && is_seen_node first door h) (are_legal_nodes (suc first) capacity door histories) legal in
    let beside = and_parts (is_legal_node first capacity h) (is_seen_node first door h) parts.0 in
    let fetches = and_parts (each_after open_rule [] h) (list_all (each_after open_rule []) histories) opens in
    elim (cases_Bool (eqb number first)) [
      | inl same ↦ (let its : number ≡ first = eqb-true number first same in
          let here : h ≡ before ++ entry ∷ more = sym (ap (λ (t : Bool). if t then h else history_in number (suc first) histories) same) ∙ is in
          (ne_eqb number 0 (λ zero. (let z : number ≡ 0 = zero in omega arith)), subst (λ (n : ℕ). Beside n capacity door (before ++ entry ∷ more)) (sym its) (subst (Beside first capacity door) here (record { legal = beside.0; seen = beside.1 })), subst Opens here fetches.0))
      | inr other ↦ history_of capacity door number (suc first) histories before entry more (omega arith) parts.1 fetches.1 (sym (ap (λ (t : Bool). if t then h else history_in number (suc first) histories) other) ∙ is)
    ]
