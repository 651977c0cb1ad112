-- The own steps of a line that moves an attempt are its turns, in the steps of a run so far.
use Rattle.std.proofs.Common.{Bool, List, [], ap, append_assoc, arith, eqb, false, inl, inr, not, refl, subst, suc, sym, true, ℕ, ◌&&◌, ◌++◌, ◌+◌, ◌||◌, ◌∙◌, ◌∷◌, ◌≡◌}
use Rattle.aft_id.specs.declared.txn_id.TxnId.{TxnId}
use Rattle.aft_lines.specs.Advance.{leads_to}
use Rattle.aft_lines.specs.Asked.{Asked, Ran}
use Rattle.aft_lines.specs.FinishedText.{line_of}
use Rattle.aft_lines.specs.LegalTrace.{are_legal_nodes}
use Rattle.aft_lines.specs.LineView.{ends_of}
use Rattle.aft_lines.specs.Lines.{lines, node_numbers}
use Rattle.aft_lines.specs.Makes.{makes, makes_at_node}
use Rattle.aft_lines.specs.Progress.{Progress}
use Rattle.aft_lines.specs.RunsSoFar.{position_of}
use Rattle.aft_lines.specs.Steps.{own_steps}
use Rattle.aft_lines.specs.Turns.{AtDoor, AtNode, AtOffice, Turn, door_turns, given_by, given_in, moment, node_turns, nodes_turns, office_turns, turns, with_turn}
use Rattle.aft_lines.specs.Views.{view_of}
use Rattle.aft_model.proofs.Histories.{In, all_at, each_after_split, in_append, in_back}
use Rattle.aft_model.proofs.Lists.{all_from}
use Rattle.aft_model.specs.History.{each_after}
use Rattle.aft_model.specs.LegalNode.{LegalNode, is_legal_node, may_follow_at}
use Rattle.aft_model.specs.NodeSights.{is_seen_node}
use Rattle.aft_model.specs.ScanRun.{same_line}
use Rattle.aft_model.specs.declared.caller.By.{By}
use Rattle.aft_model.specs.declared.door.DoorEntry.{DoorEntry}
use Rattle.aft_model.specs.declared.node.NodeAct.{NodeAct}
use Rattle.aft_model.specs.declared.node.NodeEntry.{NodeEntry}
use Rattle.aft_model.specs.declared.office.OfficeEntry.{OfficeEntry}
use Rattle.aft_model.specs.declared.script.Command.{Command}
use Rattle.aft_model.specs.declared.script.Line.{Line}
use Rattle.aft_model.specs.declared.trace.Trace.{Trace}
use Rattle.law_holders.specs.Rows.{is_of_attempt}
use Rattle.law_runs.proofs.Members.{in_turns, turns_in}
use Rattle.law_runs.proofs.Nodes.{rises_without}
use Rattle.law_runs.proofs.Walks.{IsLegalTurn, one_place, stands_in}
use Rattle.law_runs.specs.Runs.{Goes, run_steps, without_office}
use Rattle.law_steps.proofs.Own.{own_turns}
use Rattle.law_steps.specs.OneList.{IsOrdinary, entries_of}
use Rattle.law_turns.specs.Order.{give_nothing_up, same_list, tie_in_one_list}
use Rattle.std.proofs.lemmas.Bool.{and_parts, eq-eqb, eqb-true, false≢true, ne_eqb, or_left, or_right}
use Rattle.std.specs.List.{fold, list_all}
use Rattle.std.specs.Prelude.{IsTrue, None, Option, Some, if◌then◌else◌, is_none, is_some}
use Rattle.aft_model.specs.declared.node.NodeAct.TheVariants as acts
use Rattle.aft_model.specs.declared.script.Command.TheVariants as commands

-- ---- each entry of a node is legal behind what that did before it

module _ (capacity : ℕ) where
  node_turns_legal : (by : By) (node : ℕ) (before history : List NodeEntry) → IsTrue (each_after (may_follow_at node capacity) [] (before ++ history)) → (x : Turn) → In x (node_turns by node before history) → IsLegalTurn capacity x
  node_turns_legal by node before [] legal x among = absurd among
  node_turns_legal by node before (entry ∷ history) legal x among =
      elim (in_append x (if same_line by entry.by then AtNode node before entry ∷ [] else []) (node_turns by node (before ++ entry ∷ []) history) among) [
        | inl here ↦ at_here (same_line by entry.by) here
        | inr later ↦ node_turns_legal by node (before ++ entry ∷ []) history (subst (λ (h : List NodeEntry). IsTrue (each_after (may_follow_at node capacity) [] h)) (sym (append_assoc before (entry ∷ []) history)) legal) x later
      ]
    where
      this : LegalNode node capacity (before ++ entry ∷ [])
      this = (each_after_split (may_follow_at node capacity) [] (before ++ entry ∷ []) history (subst (λ (h : List NodeEntry). IsTrue (each_after (may_follow_at node capacity) [] h)) (sym (append_assoc before (entry ∷ []) history)) legal)).0

      at_here : (b : Bool) → In x (if b then AtNode node before entry ∷ [] else []) → IsLegalTurn capacity x
      at_here true (inl is) = subst (IsLegalTurn capacity) (sym is) this
      at_here true (inr none) = absurd none
      at_here false none = absurd none

  nodes_turns_legal : (by : By) (door : List DoorEntry) (node : ℕ) (histories : List (List NodeEntry)) → IsTrue (are_legal_nodes node capacity door histories) → (x : Turn) → In x (nodes_turns by node histories) → IsLegalTurn capacity x
  nodes_turns_legal by door node [] legal x among = absurd among
  nodes_turns_legal by door node (history ∷ histories) legal x among =
      let parts = and_parts (is_legal_node node capacity history && is_seen_node node door history) (are_legal_nodes (suc node) capacity door histories) legal in
      elim (in_append x (node_turns by node [] history) (nodes_turns by (suc node) histories) among) [
        | inl here ↦ node_turns_legal by node [] history (and_parts (is_legal_node node capacity history) (is_seen_node node door history) parts.0).0 x here
        | inr later ↦ nodes_turns_legal by door (suc node) histories parts.1 x later
      ]

  door_turns_legal : (by : By) (place : ℕ) (door : List DoorEntry) (x : Turn) → In x (door_turns by place door) → IsLegalTurn capacity x
  door_turns_legal by place [] x among = absurd among
  door_turns_legal by place (entry ∷ door) x among =
      elim (in_append x (if same_line by entry.by then AtDoor place entry.act ∷ [] else []) (door_turns by (suc place) door) among) [
        | inl here ↦ at_here (same_line by entry.by) here
        | inr later ↦ door_turns_legal by (suc place) door x later
      ]
    where
      at_here : (b : Bool) → In x (if b then AtDoor place entry.act ∷ [] else []) → IsLegalTurn capacity x
      at_here true (inl is) = subst (IsLegalTurn capacity) (sym is) tt
      at_here true (inr none) = absurd none
      at_here false none = absurd none

  office_turns_legal : (by : By) (before office : List OfficeEntry) (x : Turn) → In x (office_turns by before office) → IsLegalTurn capacity x
  office_turns_legal by before [] x among = absurd among
  office_turns_legal by before (entry ∷ office) x among =
      elim (in_append x (if same_line by entry.by then AtOffice before entry ∷ [] else []) (office_turns by (before ++ entry ∷ []) office) among) [
        | inl here ↦ at_here (same_line by entry.by) here
        | inr later ↦ office_turns_legal by (before ++ entry ∷ []) office x later
      ]
    where
      at_here : (b : Bool) → In x (if b then AtOffice before entry ∷ [] else []) → IsLegalTurn capacity x
      at_here true (inl is) = subst (IsLegalTurn capacity) (sym is) tt
      at_here true (inr none) = absurd none
      at_here false none = absurd none

  pub turns_legal : (by : By) (trace : Trace) → IsTrue (are_legal_nodes 1 capacity trace.door trace.nodes) → (x : Turn) → In x (turns by trace) → IsLegalTurn capacity x
  turns_legal by trace legal x among =
      elim (in_append x (nodes_turns by 1 trace.nodes ++ door_turns by 0 trace.door) (office_turns by [] trace.office) (turns_in by trace x among)) [
        | inl front ↦ elim (in_append x (nodes_turns by 1 trace.nodes) (door_turns by 0 trace.door) front) [
          | inl node ↦ nodes_turns_legal by trace.door 1 trace.nodes legal x node
          | inr door ↦ door_turns_legal by 0 trace.door x door
        ]
        | inr office ↦ office_turns_legal by [] trace.office x office
      ]

-- ---- one list at a moment

-- turns of one moment that stand at the door or at one node stand in one list
pub tied : (node : ℕ) (turn other : Turn) → IsTrue (stands_in node turn) → IsTrue (stands_in node other) → IsTrue (not (eqb (moment turn) (moment other)) || same_list turn other)
tied node (AtDoor place act) (AtDoor q act') is also = or_right (not (eqb (place + place + 1) (q + q + 1))) true refl
tied node (AtDoor place act) (AtNode at history entry) is also = or_left (not (eqb (place + place + 1) (entry.front + entry.front))) false (ap not (ne_eqb (place + place + 1) (entry.front + entry.front) (λ e. odd place entry.front e)))
  where
    odd : (p f : ℕ) → p + p + 1 ≡ f + f → ⊥
    odd p f e = omega arith
tied node (AtNode at history entry) (AtDoor place act) is also = or_left (not (eqb (entry.front + entry.front) (place + place + 1))) false (ap not (ne_eqb (entry.front + entry.front) (place + place + 1) (λ e. odd place entry.front (sym e))))
  where
    odd : (p f : ℕ) → p + p + 1 ≡ f + f → ⊥
    odd p f e = omega arith
tied node (AtNode at history entry) (AtNode at' history' entry') is also = or_right (not (eqb (entry.front + entry.front) (entry'.front + entry'.front))) (eqb at' at) (eq-eqb at' at (eqb-true at' node also ∙ sym (eqb-true at node is)))
tied node (AtOffice history entry) other is also = absurd (false≢true is)
tied node turn (AtOffice history entry) is also = absurd (false≢true also)

-- a line that moves an attempt gives nothing up
gives_none : (command : Command) → IsTrue (is_of_attempt command) → (turn : Turn) → IsTrue (makes command turn) → IsTrue (is_none (given_in turn))
gives_none command of (AtDoor place act) made = refl
gives_none command of (AtOffice history entry) made = refl
gives_none command of (AtNode at history entry) made = by_act entry.act made
  where
    never : (c : Command) → IsTrue (is_of_attempt c) → (id : TxnId) → IsTrue (makes_at_node c (acts.GiveUp id)) → ⊥
    never (commands.Begin u home) of' id is = false≢true is
    never (commands.Forget u home) of' id is = false≢true is
    never commands.Commit of' id is = false≢true is
    never commands.Abort of' id is = false≢true is
    never c of' id is = false≢true of'

    by_act : (act : NodeAct) → IsTrue (makes_at_node command act) → IsTrue (is_none (given_by act))
    by_act (acts.GiveUp id) is = absurd (never command of id is)
    by_act act is = refl

-- where a line's turns at the office would stand at the door or a node, there are none
pub office_none : (by : By) (node : ℕ) (before office : List OfficeEntry) → ((x : Turn) → In x (office_turns by before office) → IsTrue (stands_in node x)) → office_turns by before office ≡ []
office_none by node before [] each = refl
office_none by node before (entry ∷ office) each =
    cases (λ each'. office_none by node (before ++ entry ∷ []) office each') (same_line by entry.by) each
  where
    cases : (((x : Turn) → In x (office_turns by (before ++ entry ∷ []) office) → IsTrue (stands_in node x)) → office_turns by (before ++ entry ∷ []) office ≡ []) → (b : Bool)
        → ((x : Turn) → In x ((if b then AtOffice before entry ∷ [] else []) ++ office_turns by (before ++ entry ∷ []) office) → IsTrue (stands_in node x))
        → (if b then AtOffice before entry ∷ [] else []) ++ office_turns by (before ++ entry ∷ []) office ≡ []
    cases rest true each' = absurd (false≢true (each' (AtOffice before entry) (inl refl)))
    cases rest false each' = rest each'

-- ---- the line

-- where a line has come
pub come_somewhere : (o : Option Progress) → IsTrue (is_some o) → (p : Progress) × (o ≡ Some p)
come_somewhere None is = absurd (false≢true is)
come_somewhere (Some p) is = (p, refl)

module _ (asked : Asked) (ran : Ran) (so : Goes asked ran) (line : Line) (among : In line (lines asked)) where
  abbrev pub by_line : By
  by_line = line_of line

  pub makes_all : IsTrue (list_all (makes line.order) (turns by_line ran.trace))
  makes_all = all_at (λ (l : Line). list_all (makes l.order) (turns (line_of l) ran.trace)) line (lines asked) among so.makes

  pub has_come : (p : Progress) × (leads_to line.order (node_numbers asked.settings) (ends_of (view_of asked ran line)) (turns by_line ran.trace) ≡ Some p)
  has_come = come_somewhere (position_of (view_of asked ran line)) (all_at (λ (l : Line). is_some (position_of (view_of asked ran l))) line (lines asked) among so.lines)

  module _ (of : IsTrue (is_of_attempt line.order)) where
    place : (node : ℕ) × IsTrue (list_all (stands_in node) (turns by_line ran.trace))
    place = one_place asked.settings.cache line.order (node_numbers asked.settings) (ends_of (view_of asked ran line)) of (turns by_line ran.trace) has_come.0 has_come.1 makes_all (turns_legal asked.settings.cache by_line ran.trace so.nodes)

    stands : (x : Turn) → In x (entries_of by_line ran.trace) → IsTrue (stands_in place.0 x)
    stands x there = all_at (stands_in place.0) x (turns by_line ran.trace) (in_turns by_line ran.trace x there) place.1

    no_office_turns : office_turns by_line [] ran.trace.office ≡ []
    no_office_turns = office_none by_line place.0 [] ran.trace.office (λ x there. stands x (in_back x (nodes_turns by_line 1 ran.trace.nodes ++ door_turns by_line 0 ran.trace.door) (office_turns by_line [] ran.trace.office) there))

    entries_same : entries_of by_line (without_office ran.trace) ≡ entries_of by_line ran.trace
    entries_same = ap (λ (l : List Turn). nodes_turns by_line 1 ran.trace.nodes ++ door_turns by_line 0 ran.trace.door ++ l) (sym no_office_turns)

    turns_same : turns by_line (without_office ran.trace) ≡ turns by_line ran.trace
    turns_same = ap (λ (l : List Turn). fold with_turn [] l) entries_same

    ordinary : IsOrdinary by_line (without_office ran.trace)
    ordinary = record {
      quiet = subst (λ (l : List Turn). IsTrue (give_nothing_up l)) (sym entries_same)
          (all_from (λ (t : Turn). is_none (given_in t)) (entries_of by_line ran.trace) (λ t there. gives_none line.order of t (all_at (makes line.order) t (turns by_line ran.trace) (in_turns by_line ran.trace t there) makes_all)));
      ties = subst (λ (l : List Turn). IsTrue (tie_in_one_list l)) (sym entries_same)
          (all_from (λ (t : Turn). list_all (λ (o : Turn). not (eqb (moment t) (moment o)) || same_list t o) (entries_of by_line ran.trace)) (entries_of by_line ran.trace)
          (λ t there. all_from (λ (o : Turn). not (eqb (moment t) (moment o)) || same_list t o) (entries_of by_line ran.trace) (λ o also. tied place.0 t o (stands t there) (stands o also))));
    }

    pub own_are : own_steps by_line (run_steps ran) ≡ turns by_line ran.trace
    own_are = own_turns by_line (without_office ran.trace) (rises_without asked.settings.cache ran.trace so.nodes) ordinary ∙ turns_same
