-- The histories of a run with one entry more are legal as far as they go.
use Rattle.std.proofs.Common.{◌≡◌, ◌-◌, ℕ, zero, suc, Bool, true, false, ◌&&◌, ◌||◌, List, [], ◌∷◌, ◌++◌, take, drop, refl, sym, subst, ◌∙◌, inl, inr, eqb}
use Rattle.std.specs.Prelude.{IsTrue, if◌then◌else◌, length}
use Rattle.std.specs.List.{list_all, list_any}
use Rattle.std.proofs.lemmas.Bool.{and_from, and_parts, eqb-true, false≢true, or_cases, or_left, or_right}
use Rattle.std.proofs.lemmas.List.Folds.{list_any-append}
use Rattle.aft_model.specs.declared.caller.By.{By}
use Rattle.aft_model.specs.declared.door.DoorAct.{DoorAct}
use Rattle.aft_model.specs.declared.door.DoorAct.TheVariants as door_acts
use Rattle.aft_model.specs.declared.door.DoorEntry.{DoorEntry}
use Rattle.aft_model.specs.declared.node.NodeEntry.{NodeEntry}
use Rattle.aft_model.specs.Boxes.{is_legal_box}
use Rattle.aft_model.specs.Bytes.{HasBytes}
use Rattle.aft_model.specs.DoorKnowledge.{is_open, opens}
use Rattle.aft_model.specs.LegalDoor.{Legal}
use Rattle.aft_model.specs.LegalNode.{is_legal_node}
use Rattle.aft_model.specs.NodeSights.{is_seen_node, may_come_at}
use Rattle.aft_model.specs.Office.{is_legal_alone, is_legal_beside, is_legal_office}
use Rattle.aft_lines.specs.Asked.{Asked, Ran, are_settings}
use Rattle.aft_lines.specs.LegalTrace.{act_at, are_legal_nodes, backs_give_up, fits_settings, give_ups_backed, is_backed_at, read_clock, some_after}
use Rattle.aft_lines.specs.LineView.{history_at}
use Rattle.law_places.proofs.Seen.{node_stays, office_stays}
use Rattle.law_accounts.proofs.Lists.{all_more, each_more, each_so, each_with, each_with_more, numbers_stay}
use Rattle.law_accounts.specs.Adding.{AddsAtBox, AddsAtDoor, AddsAtNode, AddsAtOffice, Added, Follows, numbered_in, with_added, with_entry_in}

-- ---- settings and the door

pub settings_stay : (asked : Asked) (ran : Ran) (added : Added) → IsTrue (fits_settings asked.settings ran) → IsTrue (fits_settings asked.settings (with_added added ran))
settings_stay asked ran (AddsAtDoor entry) so = so
settings_stay asked ran (AddsAtNode node entry) so =
    subst (λ n. IsTrue (are_settings asked.settings && eqb n asked.settings.nodes && eqb (length ran.mail) (suc asked.settings.nodes))) (sym (numbers_stay node entry 1 ran.trace.nodes)) so
settings_stay asked ran (AddsAtOffice entry) so = so
settings_stay asked ran (AddsAtBox box entry) so =
    subst (λ n. IsTrue (are_settings asked.settings && eqb (length ran.trace.nodes) asked.settings.nodes && eqb n (suc asked.settings.nodes))) (sym (numbers_stay box entry 0 ran.mail)) so

pub bytes_stay : (asked : Asked) (ran : Ran) (added : Added) → HasBytes ran.trace.door → Follows asked ran added → HasBytes (with_added added ran).trace.door
bytes_stay asked ran (AddsAtDoor entry) so follows = follows.1
bytes_stay asked ran (AddsAtNode node entry) so follows = so
bytes_stay asked ran (AddsAtOffice entry) so follows = so
bytes_stay asked ran (AddsAtBox box entry) so follows = so

pub door_stays : (asked : Asked) (ran : Ran) (added : Added) → Legal ran.trace.door → Follows asked ran added → Legal (with_added added ran).trace.door
door_stays asked ran (AddsAtDoor entry) so follows = follows.0
door_stays asked ran (AddsAtNode node entry) so follows = so
door_stays asked ran (AddsAtOffice entry) so follows = so
door_stays asked ran (AddsAtBox box entry) so follows = so

pub stays_open : (ran : Ran) (added : Added) → IsTrue (is_open ran.trace.door) → IsTrue (is_open (with_added added ran).trace.door)
stays_open ran (AddsAtDoor entry) so = list_any-append (λ (e : DoorEntry). opens e.act) ran.trace.door (entry ∷ []) ∙ or_left (is_open ran.trace.door) (opens entry.act || false) so
stays_open ran (AddsAtNode node entry) so = so
stays_open ran (AddsAtOffice entry) so = so
stays_open ran (AddsAtBox box entry) so = so

-- ---- nodes

nodes_see : (capacity first : ℕ) (door more : List DoorEntry) (nodes : List (List NodeEntry)) → IsTrue (are_legal_nodes first capacity door nodes) → IsTrue (are_legal_nodes first capacity (door ++ more) nodes)
nodes_see capacity first door more [] so = refl
nodes_see capacity first door more (history ∷ nodes) so =
    let parts = and_parts (is_legal_node first capacity history && is_seen_node first door history) (are_legal_nodes (suc first) capacity door nodes) so in
    let its = and_parts (is_legal_node first capacity history) (is_seen_node first door history) parts.0 in
    and_from _ _ (and_from _ _ its.0 (node_stays door more first history its.1)) (nodes_see capacity (suc first) door more nodes parts.1)

node_more : (capacity number first : ℕ) (door : List DoorEntry) (entry : NodeEntry) (nodes : List (List NodeEntry)) → IsTrue (are_legal_nodes first capacity door nodes)
    → IsTrue (is_legal_node number capacity (numbered_in number first nodes ++ entry ∷ [])) → IsTrue (may_come_at number door (numbered_in number first nodes) entry)
    → IsTrue (are_legal_nodes first capacity door (with_entry_in number entry first nodes))
node_more capacity number first door entry [] so legal seen = refl
node_more capacity number first door entry (history ∷ nodes) so legal seen =
    let parts = and_parts (is_legal_node first capacity history && is_seen_node first door history) (are_legal_nodes (suc first) capacity door nodes) so in
    let its = and_parts (is_legal_node first capacity history) (is_seen_node first door history) parts.0 in
    cases (eqb first number) refl its.0 its.1 parts.1 legal seen (node_more capacity number (suc first) door entry nodes parts.1)
  where
    cases : (t : Bool) → eqb first number ≡ t → IsTrue (is_legal_node first capacity history) → IsTrue (is_seen_node first door history) → IsTrue (are_legal_nodes (suc first) capacity door nodes)
        → IsTrue (is_legal_node number capacity ((if t then history else numbered_in number (suc first) nodes) ++ entry ∷ [])) → IsTrue (may_come_at number door (if t then history else numbered_in number (suc first) nodes) entry)
        → (IsTrue (is_legal_node number capacity (numbered_in number (suc first) nodes ++ entry ∷ [])) → IsTrue (may_come_at number door (numbered_in number (suc first) nodes) entry)
        → IsTrue (are_legal_nodes (suc first) capacity door (with_entry_in number entry (suc first) nodes)))
        → IsTrue (are_legal_nodes first capacity door (if t then (history ++ entry ∷ []) ∷ nodes else history ∷ with_entry_in number entry (suc first) nodes))
    cases true its own see others legal seen rest =
        and_from _ _ (and_from _ _ (subst (λ n. IsTrue (is_legal_node n capacity (history ++ entry ∷ []))) (sym (eqb-true first number its)) legal)
        (each_more (may_come_at first door) history entry see (subst (λ n. IsTrue (may_come_at n door history entry)) (sym (eqb-true first number its)) seen))) others
    cases false its own see others legal seen rest = and_from _ _ (and_from _ _ own see) (rest legal seen)

pub nodes_stay : (asked : Asked) (ran : Ran) (added : Added) → IsTrue (are_legal_nodes 1 asked.settings.cache ran.trace.door ran.trace.nodes) → Follows asked ran added
    → IsTrue (are_legal_nodes 1 asked.settings.cache (with_added added ran).trace.door (with_added added ran).trace.nodes)
nodes_stay asked ran (AddsAtDoor entry) so follows = nodes_see asked.settings.cache 1 ran.trace.door (entry ∷ []) ran.trace.nodes so
nodes_stay asked ran (AddsAtNode node entry) so follows = node_more asked.settings.cache node 1 ran.trace.door entry ran.trace.nodes so follows.0 follows.1
nodes_stay asked ran (AddsAtOffice entry) so follows = so
nodes_stay asked ran (AddsAtBox box entry) so follows = so

-- ---- the office and the boxes

pub office_stays_legal : (asked : Asked) (ran : Ran) (added : Added) → IsTrue (is_open ran.trace.door) → IsTrue (is_legal_office ran.trace.door ran.trace.office) → Follows asked ran added
    → IsTrue (is_legal_office (with_added added ran).trace.door (with_added added ran).trace.office)
office_stays_legal asked ran (AddsAtDoor entry) opened so follows =
    let parts = and_parts (is_legal_alone ran.trace.office) (is_legal_beside ran.trace.door ran.trace.office) so in
    and_from _ _ parts.0 (office_stays ran.trace.door (entry ∷ []) ran.trace.office opened parts.1)
office_stays_legal asked ran (AddsAtNode node entry) opened so follows = so
office_stays_legal asked ran (AddsAtOffice entry) opened so follows = follows.0
office_stays_legal asked ran (AddsAtBox box entry) opened so follows = so

pub boxes_stay : (asked : Asked) (ran : Ran) (added : Added) → IsTrue (list_all (is_legal_box asked.settings.mailbox) ran.mail) → Follows asked ran added → IsTrue (list_all (is_legal_box asked.settings.mailbox) (with_added added ran).mail)
boxes_stay asked ran (AddsAtDoor entry) so follows = so
boxes_stay asked ran (AddsAtNode node entry) so follows = so
boxes_stay asked ran (AddsAtOffice entry) so follows = so
boxes_stay asked ran (AddsAtBox box entry) so follows = each_with (is_legal_box asked.settings.mailbox) box entry 0 ran.mail so follows

-- ---- the clock

pub clock_stays : (asked : Asked) (ran : Ran) (added : Added) → IsTrue (read_clock asked ran) → Follows asked ran added → IsTrue (read_clock asked (with_added added ran))
clock_stays asked ran (AddsAtDoor entry) so follows = so
clock_stays asked ran (AddsAtNode node entry) so follows =
    each_with_more (list_all (λ (e : NodeEntry). act_at asked.clock e.act)) node entry 1 ran.trace.nodes so (λ history among is. all_more (λ (e : NodeEntry). act_at asked.clock e.act) history entry is follows.2)
clock_stays asked ran (AddsAtOffice entry) so follows = so
clock_stays asked ran (AddsAtBox box entry) so follows = so

-- ---- give-ups

module _ (test : List NodeEntry → NodeEntry → Bool) where
  some_more : (before history : List NodeEntry) (entry : NodeEntry) → IsTrue (some_after test before history) → IsTrue (some_after test before (history ++ entry ∷ []))
  some_more before [] entry so = absurd (false≢true so)
  some_more before (first ∷ history) entry so = elim (or_cases (test before first) (some_after test (before ++ first ∷ []) history) so) [
    | inl here ↦ or_left _ _ here
    | inr later ↦ or_right _ _ (some_more (before ++ first ∷ []) history entry later)
  ]

  -- in the one history at a place
  at_place_more : (number first place : ℕ) (entry : NodeEntry) (nodes : List (List NodeEntry)) → IsTrue (list_any (some_after test []) (take 1 (drop place nodes))) → IsTrue (list_any (some_after test []) (take 1 (drop place (with_entry_in number entry first nodes))))
  at_place_more number first place entry [] so = so
  at_place_more number first zero entry (history ∷ nodes) so = cases (eqb first number)
    where
      here : IsTrue (some_after test [] history)
      here = elim (or_cases (some_after test [] history) false so) [ inl is ↦ is | inr none ↦ absurd (false≢true none) ]

      cases : (t : Bool) → IsTrue (list_any (some_after test []) (take 1 (if t then (history ++ entry ∷ []) ∷ nodes else history ∷ with_entry_in number entry (suc first) nodes)))
      cases true = or_left _ _ (some_more [] history entry here)
      cases false = or_left _ _ here
  at_place_more number first (suc place) entry (history ∷ nodes) so = cases (eqb first number) (at_place_more number (suc first) place entry nodes so)
    where
      cases : (t : Bool) → IsTrue (list_any (some_after test []) (take 1 (drop place (with_entry_in number entry (suc first) nodes))))
          → IsTrue (list_any (some_after test []) (take 1 (drop (suc place) (if t then (history ++ entry ∷ []) ∷ nodes else history ∷ with_entry_in number entry (suc first) nodes))))
      cases true rest = so
      cases false rest = rest

  at_number_more : (number node : ℕ) (entry : NodeEntry) (nodes : List (List NodeEntry)) → IsTrue (list_any (some_after test []) (history_at node nodes)) → IsTrue (list_any (some_after test []) (history_at node (with_entry_in number entry 1 nodes)))
  at_number_more number node entry nodes so = cases (eqb node 0) so
    where
      cases : (t : Bool) → IsTrue (list_any (some_after test []) (if t then [] else take 1 (drop (node - 1) nodes))) → IsTrue (list_any (some_after test []) (if t then [] else take 1 (drop (node - 1) (with_entry_in number entry 1 nodes))))
      cases true so = so
      cases false so = at_place_more number 1 (node - 1) entry nodes so

backed_more : (number : ℕ) (entry : NodeEntry) (nodes : List (List NodeEntry)) (by : By) (place : ℕ) (act : DoorAct) → IsTrue (is_backed_at nodes by place act) → IsTrue (is_backed_at (with_entry_in number entry 1 nodes) by place act)
backed_more number entry nodes by place (door_acts.GiveUp node inc id) so = at_number_more (backs_give_up by inc id place) number node entry nodes so
backed_more number entry nodes by place act so = refl

pub give_ups_stay : (asked : Asked) (ran : Ran) (added : Added) → IsTrue (give_ups_backed ran.trace) → Follows asked ran added → IsTrue (give_ups_backed (with_added added ran).trace)
give_ups_stay asked ran (AddsAtDoor entry) so follows = each_more (λ (before : List DoorEntry) (e : DoorEntry). is_backed_at ran.trace.nodes e.by (length before) e.act) ran.trace.door entry so follows.2
give_ups_stay asked ran (AddsAtNode node entry) so follows =
    each_so (λ (before : List DoorEntry) (e : DoorEntry). is_backed_at ran.trace.nodes e.by (length before) e.act) (λ (before : List DoorEntry) (e : DoorEntry). is_backed_at (with_entry_in node entry 1 ran.trace.nodes) e.by (length before) e.act)
    (λ before e is. backed_more node entry ran.trace.nodes e.by (length before) e.act is) [] ran.trace.door so
give_ups_stay asked ran (AddsAtOffice entry) so follows = so
give_ups_stay asked ran (AddsAtBox box entry) so follows = so
