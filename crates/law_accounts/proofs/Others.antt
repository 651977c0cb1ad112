-- What is added by one line leaves the turns of other lines, and what they did at the boxes, as they were.
use Rattle.std.proofs.Common.{◌≡◌, ℕ, suc, Bool, true, false, not, List, [], ◌∷◌, ◌++◌, refl, ap, ◌∙◌, eqb, append-nil}
use Rattle.std.specs.Prelude.{IsFalse, filter, if◌then◌else◌, map}
use Rattle.std.specs.List.{fold}
use Rattle.std.proofs.lemmas.List.Elements.{filter-append}
use Rattle.aft_model.specs.declared.caller.By.{By}
use Rattle.aft_model.specs.declared.door.DoorEntry.{DoorEntry}
use Rattle.aft_model.specs.declared.mail.MailEntry.{MailEntry}
use Rattle.aft_model.specs.declared.node.NodeEntry.{NodeEntry}
use Rattle.aft_model.specs.declared.office.OfficeEntry.{OfficeEntry}
use Rattle.aft_model.specs.declared.script.Command.{Command}
use Rattle.aft_model.specs.declared.script.Command.TheVariants as commands
use Rattle.aft_model.specs.ScanRun.{same_line}
use Rattle.aft_lines.specs.Asked.{Ran}
use Rattle.aft_lines.specs.LinePosts.{AtBox, at_boxes, from_office, is_at_office, posts_of}
use Rattle.aft_lines.specs.Turns.{AtDoor, AtNode, AtOffice, Turn, door_turns, node_turns, nodes_turns, office_turns, turns, with_turn}
use Rattle.law_accounts.specs.Adding.{AddsAtBox, AddsAtDoor, AddsAtNode, AddsAtOffice, Added, maker_of, with_added, with_entry_in}

-- of an entry of another line nothing is taken
pub none_taken : {A : Type 0} (t : Bool) (xs rest : List A) → t ≡ false → (if t then xs else []) ++ rest ≡ rest
none_taken true xs rest is = (cc)
none_taken false xs rest is = refl

module _ (by : By) where
  door_same : (place : ℕ) (door : List DoorEntry) (entry : DoorEntry) → same_line by entry.by ≡ false → door_turns by place (door ++ entry ∷ []) ≡ door_turns by place door
  door_same place [] entry strange = none_taken (same_line by entry.by) (AtDoor place entry.act ∷ []) [] strange
  door_same place (first ∷ door) entry strange = ap (λ (l : List Turn). (if same_line by first.by then AtDoor place first.act ∷ [] else []) ++ l) (door_same (suc place) door entry strange)

  node_same : (node : ℕ) (before history : List NodeEntry) (entry : NodeEntry) → same_line by entry.by ≡ false → node_turns by node before (history ++ entry ∷ []) ≡ node_turns by node before history
  node_same node before [] entry strange = none_taken (same_line by entry.by) (AtNode node before entry ∷ []) [] strange
  node_same node before (first ∷ history) entry strange =
      ap (λ (l : List Turn). (if same_line by first.by then AtNode node before first ∷ [] else []) ++ l) (node_same node (before ++ first ∷ []) history entry strange)

  nodes_same : (number first : ℕ) (histories : List (List NodeEntry)) (entry : NodeEntry) → same_line by entry.by ≡ false → nodes_turns by first (with_entry_in number entry first histories) ≡ nodes_turns by first histories
  nodes_same number first [] entry strange = refl
  nodes_same number first (history ∷ histories) entry strange = cases (eqb first number) (nodes_same number (suc first) histories entry strange)
    where
      cases : (t : Bool) → nodes_turns by (suc first) (with_entry_in number entry (suc first) histories) ≡ nodes_turns by (suc first) histories
          → nodes_turns by first (if t then (history ++ entry ∷ []) ∷ histories else history ∷ with_entry_in number entry (suc first) histories) ≡ node_turns by first [] history ++ nodes_turns by (suc first) histories
      cases true rest = ap (λ (l : List Turn). l ++ nodes_turns by (suc first) histories) (node_same first [] history entry strange)
      cases false rest = ap (λ (l : List Turn). node_turns by first [] history ++ l) rest

  office_same : (before office : List OfficeEntry) (entry : OfficeEntry) → same_line by entry.by ≡ false → office_turns by before (office ++ entry ∷ []) ≡ office_turns by before office
  office_same before [] entry strange = none_taken (same_line by entry.by) (AtOffice before entry ∷ []) [] strange
  office_same before (first ∷ office) entry strange =
      ap (λ (l : List Turn). (if same_line by first.by then AtOffice before first ∷ [] else []) ++ l) (office_same (before ++ first ∷ []) office entry strange)

  boxes_same : (number first : ℕ) (histories : List (List MailEntry)) (entry : MailEntry) → same_line by entry.by ≡ false → at_boxes by first (with_entry_in number entry first histories) ≡ at_boxes by first histories
  boxes_same number first [] entry strange = refl
  boxes_same number first (history ∷ histories) entry strange = cases (eqb first number) (boxes_same number (suc first) histories entry strange)
    where
      own : MailEntry → Bool
      own e = same_line by e.by

      none_more : (t : Bool) (xs : List MailEntry) → t ≡ false → (xs ++ (if t then entry ∷ [] else [])) ≡ xs
      none_more true xs is = (cc)
      none_more false xs is = append-nil xs

      at : List MailEntry → List AtBox
      at entries = map (λ (e : MailEntry). record { box = first; act = e.act }) entries

      cases : (t : Bool) → at_boxes by (suc first) (with_entry_in number entry (suc first) histories) ≡ at_boxes by (suc first) histories
          → at_boxes by first (if t then (history ++ entry ∷ []) ∷ histories else history ∷ with_entry_in number entry (suc first) histories) ≡ at (filter own history) ++ at_boxes by (suc first) histories
      cases true rest =
          ap (λ (l : List MailEntry). at l ++ at_boxes by (suc first) histories) (filter-append own history (entry ∷ []) ∙ none_more (same_line by entry.by) (filter own history) strange)
      cases false rest = ap (λ (l : List AtBox). at (filter own history) ++ l) rest

  pub turns_same : (ran : Ran) (added : Added) → IsFalse (same_line by (maker_of added)) → turns by (with_added added ran).trace ≡ turns by ran.trace
  turns_same ran (AddsAtDoor entry) strange =
      ap (λ (l : List Turn). fold with_turn [] (nodes_turns by 1 ran.trace.nodes ++ l ++ office_turns by [] ran.trace.office)) (door_same 0 ran.trace.door entry strange)
  turns_same ran (AddsAtNode node entry) strange =
      ap (λ (l : List Turn). fold with_turn [] (l ++ door_turns by 0 ran.trace.door ++ office_turns by [] ran.trace.office)) (nodes_same node 1 ran.trace.nodes entry strange)
  turns_same ran (AddsAtOffice entry) strange =
      ap (λ (l : List Turn). fold with_turn [] (nodes_turns by 1 ran.trace.nodes ++ door_turns by 0 ran.trace.door ++ l)) (office_same [] ran.trace.office entry strange)
  turns_same ran (AddsAtBox box entry) strange = refl

  pub office_first : (ran : Ran) (added : Added) → IsFalse (same_line by (maker_of added)) → from_office by (with_added added ran).mail ≡ from_office by ran.mail
  office_first ran (AddsAtDoor entry) strange = refl
  office_first ran (AddsAtNode node entry) strange = refl
  office_first ran (AddsAtOffice entry) strange = refl
  office_first ran (AddsAtBox box entry) strange = boxes_same box 0 ran.mail entry strange

  pub posts_same : (command : Command) (ran : Ran) (added : Added) → IsFalse (same_line by (maker_of added)) → posts_of by command (with_added added ran).mail ≡ posts_of by command ran.mail
  posts_same (commands.Announce node) ran added strange =
      ap (λ (l : List AtBox). filter (λ done. not (is_at_office done)) l ++ filter is_at_office l) (office_first ran added strange)
  posts_same command ran added strange = office_first ran added strange
