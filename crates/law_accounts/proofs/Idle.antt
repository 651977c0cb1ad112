-- A line that has made no entry: it has no turn, and did nothing at the door or at the boxes.
use Rattle.std.proofs.Common.{◌≡◌, ℕ, suc, Bool, not, List, [], ◌∷◌, ◌++◌, refl, sym, ap, ◌∙◌}
use Rattle.std.specs.Prelude.{IsTrue, filter, if◌then◌else◌, map}
use Rattle.std.specs.List.{fold, list_all}
use Rattle.std.proofs.lemmas.Bool.{and_parts, not-true}
use Rattle.std.proofs.lemmas.List.Folds.{list_all-append}
use Rattle.aft_model.specs.declared.caller.By.{By}
use Rattle.aft_model.specs.declared.door.DoorEntry.{DoorEntry}
use Rattle.aft_model.specs.declared.mail.MailEntry.{MailEntry}
use Rattle.aft_model.specs.declared.node.NodeEntry.{NodeEntry}
use Rattle.aft_model.specs.declared.office.OfficeEntry.{OfficeEntry}
use Rattle.aft_model.specs.NodeSights.{own_entries}
use Rattle.aft_model.specs.ScanRun.{same_line}
use Rattle.aft_lines.specs.Asked.{Ran}
use Rattle.aft_lines.specs.LegalTrace.{makers}
use Rattle.aft_lines.specs.LinePosts.{at_boxes, from_office}
use Rattle.aft_lines.specs.Turns.{Turn, door_turns, node_turns, nodes_turns, office_turns, turns, with_turn}
use Rattle.law_accounts.proofs.Others.{none_taken}

module _ (by : By) where
  abbrev strange : By → Bool
  strange other = not (same_line by other)

  door_none : (place : ℕ) (door : List DoorEntry) → IsTrue (list_all strange (map (λ (e : DoorEntry). e.by) door)) → door_turns by place door ≡ []
  door_none place [] none = refl
  door_none place (entry ∷ door) none =
      let parts = and_parts (strange entry.by) (list_all strange (map (λ (e : DoorEntry). e.by) door)) none in
      none_taken (same_line by entry.by) _ (door_turns by (suc place) door) (not-true (same_line by entry.by) parts.0) ∙ door_none (suc place) door parts.1

  node_none : (node : ℕ) (before history : List NodeEntry) → IsTrue (list_all strange (map (λ (e : NodeEntry). e.by) history)) → node_turns by node before history ≡ []
  node_none node before [] none = refl
  node_none node before (entry ∷ history) none =
      let parts = and_parts (strange entry.by) (list_all strange (map (λ (e : NodeEntry). e.by) history)) none in
      none_taken (same_line by entry.by) _ (node_turns by node (before ++ entry ∷ []) history) (not-true (same_line by entry.by) parts.0) ∙ node_none node (before ++ entry ∷ []) history parts.1

  nodes_none : (first : ℕ) (nodes : List (List NodeEntry)) → IsTrue (list_all (list_all strange) (map (map (λ (e : NodeEntry). e.by)) nodes)) → nodes_turns by first nodes ≡ []
  nodes_none first [] none = refl
  nodes_none first (history ∷ nodes) none =
      let parts = and_parts (list_all strange (map (λ (e : NodeEntry). e.by) history)) (list_all (list_all strange) (map (map (λ (e : NodeEntry). e.by)) nodes)) none in
      ap (λ (l : List Turn). l ++ nodes_turns by (suc first) nodes) (node_none first [] history parts.0) ∙ nodes_none (suc first) nodes parts.1

  office_none : (before office : List OfficeEntry) → IsTrue (list_all strange (map (λ (e : OfficeEntry). e.by) office)) → office_turns by before office ≡ []
  office_none before [] none = refl
  office_none before (entry ∷ office) none =
      let parts = and_parts (strange entry.by) (list_all strange (map (λ (e : OfficeEntry). e.by) office)) none in
      none_taken (same_line by entry.by) _ (office_turns by (before ++ entry ∷ []) office) (not-true (same_line by entry.by) parts.0) ∙ office_none (before ++ entry ∷ []) office parts.1

  -- nor in the history of a node
  pub nodes_strange : (ran : Ran) → IsTrue (list_all (list_all strange) (makers ran)) → IsTrue (list_all (list_all strange) (map (map (λ (e : NodeEntry). e.by)) ran.trace.nodes))
  nodes_strange ran none =
      let first = and_parts (list_all strange (map (λ (e : DoorEntry). e.by) ran.trace.door)) _ none in
      let second = and_parts (list_all strange (map (λ (e : OfficeEntry). e.by) ran.trace.office)) _ first.1 in
      (and_parts (list_all (list_all strange) (map (map (λ (e : NodeEntry). e.by)) ran.trace.nodes)) (list_all (list_all strange) (map (map (λ (e : MailEntry). e.by)) ran.mail)) (sym (list_all-append (list_all strange) (map (map (λ (e : NodeEntry). e.by)) ran.trace.nodes) (map (map (λ (e : MailEntry). e.by)) ran.mail)) ∙ second.1)).0

  pub turns_none : (ran : Ran) → IsTrue (list_all (list_all strange) (makers ran)) → turns by ran.trace ≡ []
  turns_none ran none =
      let first = and_parts (list_all strange (map (λ (e : DoorEntry). e.by) ran.trace.door)) _ none in
      let second = and_parts (list_all strange (map (λ (e : OfficeEntry). e.by) ran.trace.office)) _ first.1 in
      let third = and_parts (list_all (list_all strange) (map (map (λ (e : NodeEntry). e.by)) ran.trace.nodes)) (list_all (list_all strange) (map (map (λ (e : MailEntry). e.by)) ran.mail)) (sym (list_all-append (list_all strange) (map (map (λ (e : NodeEntry). e.by)) ran.trace.nodes) (map (map (λ (e : MailEntry). e.by)) ran.mail)) ∙ second.1) in
      ap (λ (l : List Turn). fold with_turn [] (l ++ door_turns by 0 ran.trace.door ++ office_turns by [] ran.trace.office)) (nodes_none 1 ran.trace.nodes third.0)
      ∙ ap (λ (l : List Turn). fold with_turn [] (l ++ office_turns by [] ran.trace.office)) (door_none 0 ran.trace.door first.0)
      ∙ ap (λ (l : List Turn). fold with_turn [] l) (office_none [] ran.trace.office second.0)

  -- who made no element of a list has none there
  own_none : {A : Type 0} (maker : A → By) (xs : List A) → IsTrue (list_all strange (map maker xs)) → filter (λ x. same_line by (maker x)) xs ≡ []
  own_none maker [] none = refl
  own_none {A} maker (x ∷ xs) none =
      let parts = and_parts (strange (maker x)) (list_all strange (map maker xs)) none in
      ap (λ (t : Bool). if t then x ∷ filter (λ (y : A). same_line by (maker y)) xs else filter (λ (y : A). same_line by (maker y)) xs) (not-true (same_line by (maker x)) parts.0) ∙ own_none maker xs parts.1

  pub entries_none : (ran : Ran) → IsTrue (list_all (list_all strange) (makers ran)) → own_entries by ran.trace.door ≡ []
  entries_none ran none = own_none (λ (e : DoorEntry). e.by) ran.trace.door (and_parts (list_all strange (map (λ (e : DoorEntry). e.by) ran.trace.door)) _ none).0

  boxes_none : (first : ℕ) (mail : List (List MailEntry)) → IsTrue (list_all (list_all strange) (map (map (λ (e : MailEntry). e.by)) mail)) → at_boxes by first mail ≡ []
  boxes_none first [] none = refl
  boxes_none first (history ∷ mail) none =
      let parts = and_parts (list_all strange (map (λ (e : MailEntry). e.by) history)) (list_all (list_all strange) (map (map (λ (e : MailEntry). e.by)) mail)) none in
      ap (λ (l : List MailEntry). map (λ (e : MailEntry). record { box = first; act = e.act }) l ++ at_boxes by (suc first) mail) (own_none (λ (e : MailEntry). e.by) history parts.0) ∙ boxes_none (suc first) mail parts.1

  pub mail_none : (ran : Ran) → IsTrue (list_all (list_all strange) (makers ran)) → from_office by ran.mail ≡ []
  mail_none ran none =
      let first = and_parts (list_all strange (map (λ (e : DoorEntry). e.by) ran.trace.door)) _ none in
      let second = and_parts (list_all strange (map (λ (e : OfficeEntry). e.by) ran.trace.office)) _ first.1 in
      boxes_none 0 ran.mail (and_parts (list_all (list_all strange) (map (map (λ (e : NodeEntry). e.by)) ran.trace.nodes)) (list_all (list_all strange) (map (map (λ (e : MailEntry). e.by)) ran.mail)) (sym (list_all-append (list_all strange) (map (map (λ (e : NodeEntry). e.by)) ran.trace.nodes) (map (map (λ (e : MailEntry). e.by)) ran.mail)) ∙ second.1)).1
