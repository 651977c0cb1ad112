-- In a run that did nothing but at the door, the turns of a line are its entries there, in their order.
use Rattle.std.proofs.Common.{Bool, List, [], ap, append-nil, append_assoc, arith, eqb, false, inl, inr, length, ltb, refl, subst, suc, sym, true, ℕ, ◌&&◌, ◌++◌, ◌+◌, ◌∙◌, ◌∷◌, ◌≡◌, ◌≤◌}
use Rattle.std.specs.Prelude.{IsTrue, if◌then◌else◌}
use Rattle.std.specs.List.{fold}
use Rattle.std.proofs.lemmas.Bool.{and_parts, false_from_ne_true, false≢true, ltb-true, or_cases}
use Rattle.aft_model.specs.declared.caller.By.{By}
use Rattle.aft_model.specs.declared.door.DoorAct.{DoorAct}
use Rattle.aft_model.specs.declared.door.DoorEntry.{DoorEntry}
use Rattle.aft_model.specs.declared.node.NodeEntry.{NodeEntry}
use Rattle.aft_model.specs.declared.office.OfficeEntry.{OfficeEntry}
use Rattle.aft_model.specs.declared.trace.Trace.{Trace}
use Rattle.aft_model.specs.ScanRun.{same_line}
use Rattle.aft_model.proofs.Histories.{In, in_append}
use Rattle.aft_lines.specs.RefusedTrace.{are_empty}
use Rattle.law_refused.proofs.Each.{none_empty, not_empty}
use Rattle.aft_lines.specs.Turns.{AtDoor, Turn, door_turns, moment, nodes_turns, office_turns, precedes, turns, with_turn}

abbrev Until : ℕ → List Turn → Type 0
Until place line = (x : Turn) → In x line → moment x ≤ place + place

not_before : (place : ℕ) (act : DoorAct) (other : Turn) → moment other ≤ place + place → precedes (AtDoor place act) other ≡ false
not_before place act other low = false_from_ne_true (precedes (AtDoor place act) other) (λ before.
    elim (or_cases (ltb (place + place + 1) (moment other)) (eqb (place + place + 1) (moment other) && false) before) [
      | inl earlier ↦ (let lt = ltb-true (place + place + 1) (moment other) earlier in omega arith)
      | inr same ↦ absurd (false≢true (and_parts (eqb (place + place + 1) (moment other)) false same).1)
    ])

behind_each : (place : ℕ) (act : DoorAct) (line : List Turn) → Until place line → with_turn line (AtDoor place act) ≡ line ++ AtDoor place act ∷ []
behind_each place act [] low = refl
behind_each place act (other ∷ line) low =
    ap (λ (b : Bool). if b then AtDoor place act ∷ other ∷ line else other ∷ with_turn line (AtDoor place act)) (not_before place act other (low other (inl refl)))
    ∙ ap (λ (l : List Turn). other ∷ l) (behind_each place act line (λ x among. low x (inr among)))

further : (place : ℕ) (act : DoorAct) (line : List Turn) → Until place line → Until (suc place) (line ++ AtDoor place act ∷ [])
further place act line low x among = elim (in_append x line (AtDoor place act ∷ []) among) [
  | inl before ↦ (let at = low x before in omega arith)
  | inr (inl is) ↦ subst (λ (t : Turn). moment t ≤ suc place + suc place) (sym is) (let up : place + place + 1 ≤ suc place + suc place = omega arith in up)
  | inr (inr none) ↦ absurd none
]

longer : (place : ℕ) (line : List Turn) → Until place line → Until (suc place) line
longer place line low x among = (let at = low x among in omega arith)

sorted_door : (by : By) (place : ℕ) (line : List Turn) (door : List DoorEntry) → Until place line → fold with_turn line (door_turns by place door) ≡ line ++ door_turns by place door
sorted_door by place line [] low = sym (append-nil line)
sorted_door by place line (entry ∷ door) low =
    cases (sorted_door by (suc place) (line ++ AtDoor place entry.act ∷ []) door (further place entry.act line low)) (sorted_door by (suc place) line door (longer place line low)) (same_line by entry.by)
  where
    turn : Turn
    turn = AtDoor place entry.act

    rest : List Turn
    rest = door_turns by (suc place) door

    cases : fold with_turn (line ++ turn ∷ []) rest ≡ (line ++ turn ∷ []) ++ rest → fold with_turn line rest ≡ line ++ rest → (own : Bool) → fold with_turn line ((if own then turn ∷ [] else []) ++ rest) ≡ line ++ ((if own then turn ∷ [] else []) ++ rest)
    cases added same true = ap (λ (l : List Turn). fold with_turn l rest) (behind_each place entry.act line low) ∙ added ∙ append_assoc line (turn ∷ []) rest
    cases added same false = same

no_nodes : (by : By) (node : ℕ) (histories : List (List NodeEntry)) → IsTrue (are_empty histories) → nodes_turns by node histories ≡ []
no_nodes by node [] empty = refl
no_nodes by node ([] ∷ histories) empty = no_nodes by (suc node) histories empty
no_nodes by node ((entry ∷ history) ∷ histories) empty = absurd (none_empty entry history histories empty)

no_office : (by : By) (office : List OfficeEntry) → IsTrue (eqb (length office) 0) → office_turns by [] office ≡ []
no_office by [] empty = refl
no_office by (entry ∷ office) empty = absurd (not_empty entry office empty)

pub door_alone : (by : By) (trace : Trace) → IsTrue (are_empty trace.nodes) → IsTrue (eqb (length trace.office) 0) → turns by trace ≡ door_turns by 0 trace.door
door_alone by trace nodes office =
    ap (λ (l : List Turn). fold with_turn [] (l ++ door_turns by 0 trace.door ++ office_turns by [] trace.office)) (no_nodes by 1 trace.nodes nodes)
    ∙ ap (λ (l : List Turn). fold with_turn [] (door_turns by 0 trace.door ++ l)) (no_office by trace.office office)
    ∙ ap (λ (l : List Turn). fold with_turn [] l) (append-nil (door_turns by 0 trace.door))
    ∙ sorted_door by 0 [] trace.door (λ x none. absurd none)
