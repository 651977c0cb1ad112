-- The turn that a line makes by an entry stands behind its earlier ones.
use Rattle.std.proofs.Common.{◌≡◌, ◌≤◌, ◌<◌, ℕ, suc, ◌+◌, Bool, true, false, ◌||◌, not, List, [], ◌∷◌, ◌++◌, refl, sym, ap, subst, ◌∙◌, inl, inr, eqb, leb, ltb, arith, append-nil, append_assoc, length}
use Rattle.std.specs.Prelude.{IsTrue, IsFalse, if◌then◌else◌, is_none}
use Rattle.std.specs.List.{fold, list_all}
use Rattle.std.proofs.lemmas.Bool.{and_from, and_parts, cases_Bool, eqb-false, eqb-true, false≢true, leb-true, le-leb, ltb-true, ne_eqb, or_cases, not-true, true≢false}
use Rattle.std.proofs.lemmas.List.Elements.{filter-append}
use Rattle.aft_id.specs.declared.txn_id.TxnId.{TxnId}
use Rattle.aft_model.specs.declared.caller.By.{By}
use Rattle.aft_model.specs.declared.door.DoorEntry.{DoorEntry}
use Rattle.aft_model.specs.declared.node.NodeAct.{NodeAct}
use Rattle.aft_model.specs.declared.node.NodeAct.TheVariants as node_acts
use Rattle.aft_model.specs.declared.node.NodeEntry.{NodeEntry}
use Rattle.aft_model.specs.declared.office.OfficeEntry.{OfficeEntry}
use Rattle.aft_model.specs.declared.script.Command.{Command}
use Rattle.aft_model.specs.declared.script.Command.TheVariants as commands
use Rattle.aft_model.specs.declared.trace.Trace.{Trace}
use Rattle.aft_model.proofs.Histories.{In, all_at, in_append, in_back, in_front}
use Rattle.aft_model.proofs.Lists.{all_from}
use Rattle.aft_model.specs.ScanRun.{same_line}
use Rattle.aft_lines.specs.Asked.{Ran}
use Rattle.aft_lines.specs.CausesRounds.{is_collect}
use Rattle.aft_lines.specs.Makes.{makes, makes_at_node}
use Rattle.aft_lines.specs.Turns.{AtDoor, AtNode, AtOffice, Turn, door_turns, front_in, given_by, given_in, moment, node_turns, nodes_turns, office_turns, turns, with_turn}
use Rattle.law_claims.proofs.Scenes.{by_itself}
use Rattle.law_runs.proofs.Members.{in_turns, turns_in}
use Rattle.law_runs.proofs.Own.{tied}
use Rattle.law_runs.proofs.Walks.{stands_in}
use Rattle.law_steps.specs.OneList.{entries_of}
use Rattle.law_turns.proofs.Lists.{filter_none}
use Rattle.law_turns.proofs.Sorting.{alike, at_moment, elsewhere, here, sorted_ascends, sorted_stable}
use Rattle.law_turns.specs.Order.{give_nothing_up, is_at_door, is_at_node, moments_ascend, same_list, tie_in_one_list}
use Rattle.law_accounts.proofs.Lists.{all_so}
use Rattle.law_accounts.specs.Adding.{AddsAtBox, AddsAtDoor, AddsAtNode, AddsAtOffice, Added, maker_of, numbered_in, with_added, with_entry_in}
use Rattle.law_accounts.specs.Turned.{comes_after, has_node, is_at_node_or_door, is_past, turned_by}

-- ---- one more in its list

-- a list with one turn more, behind which none stands in its list
record Placed (was now : List Turn) (turn : Turn) : Type 0 where
  front : List Turn
  back : List Turn
  before : was ≡ front ++ back
  behind : now ≡ front ++ turn ∷ back
  apart : (other : Turn) → In other back → same_list turn other ≡ false

last_placed : (was : List Turn) (turn : Turn) → Placed was (was ++ turn ∷ []) turn
last_placed was turn = record { front = was; back = []; before = sym (append-nil was); behind = refl; apart = λ other none. absurd none }

placed_behind : (xs was now : List Turn) (turn : Turn) → Placed was now turn → Placed (xs ++ was) (xs ++ now) turn
placed_behind xs was now turn at = record {
  front = xs ++ at.front;
  back = at.back;
  before = ap (λ (l : List Turn). xs ++ l) at.before ∙ sym (append_assoc xs at.front at.back);
  behind = ap (λ (l : List Turn). xs ++ l) at.behind ∙ sym (append_assoc xs at.front (turn ∷ at.back));
  apart = at.apart;
}

placed_before : (ys was now : List Turn) (turn : Turn) → ((other : Turn) → In other ys → same_list turn other ≡ false) → Placed was now turn → Placed (was ++ ys) (now ++ ys) turn
placed_before ys was now turn apart at = record {
  front = at.front;
  back = at.back ++ ys;
  before = ap (λ (l : List Turn). l ++ ys) at.before ∙ append_assoc at.front at.back ys;
  behind = ap (λ (l : List Turn). l ++ ys) at.behind ∙ append_assoc at.front (turn ∷ at.back) ys;
  apart = λ other among. elim (in_append other at.back ys among) [ inl old ↦ at.apart other old | inr more ↦ apart other more ];
}

-- ---- where the turns of a list stand

module _ (Holds : Turn → Type 0) where
  -- an own turn in front of others
  own_holds : (t : Bool) (turn : Turn) (rest : List Turn) → Holds turn → ((x : Turn) → In x rest → Holds x) → (x : Turn) → In x ((if t then turn ∷ [] else []) ++ rest) → Holds x
  own_holds true turn rest one all x (inl is) = subst Holds (sym is) one
  own_holds true turn rest one all x (inr later) = all x later
  own_holds false turn rest one all x among = all x among

  door_holds : (by : By) (last place : ℕ) (door : List DoorEntry) → place + length door ≤ last → ((p : ℕ) (entry : DoorEntry) → p < last → Holds (AtDoor p entry.act)) → (x : Turn) → In x (door_turns by place door) → Holds x
  door_holds by last place [] fits each x among = absurd among
  door_holds by last place (entry ∷ door) fits each x among =
      own_holds (same_line by entry.by) (AtDoor place entry.act) (door_turns by (suc place) door) (each place entry (omega arith)) (door_holds by last (suc place) door (omega arith) each) x among

  node_holds : (by : By) (node : ℕ) (before history : List NodeEntry) → ((h : List NodeEntry) (entry : NodeEntry) → Holds (AtNode node h entry)) → (x : Turn) → In x (node_turns by node before history) → Holds x
  node_holds by node before [] each x among = absurd among
  node_holds by node before (entry ∷ history) each x among =
      own_holds (same_line by entry.by) (AtNode node before entry) (node_turns by node (before ++ entry ∷ []) history) (each before entry) (node_holds by node (before ++ entry ∷ []) history each) x among

  nodes_hold : (by : By) (least first : ℕ) (nodes : List (List NodeEntry)) → least ≤ first → ((n : ℕ) (h : List NodeEntry) (entry : NodeEntry) → least ≤ n → Holds (AtNode n h entry)) → (x : Turn) → In x (nodes_turns by first nodes) → Holds x
  nodes_hold by least first [] le each x among = absurd among
  nodes_hold by least first (history ∷ nodes) le each x among = elim (in_append x (node_turns by first [] history) (nodes_turns by (suc first) nodes) among) [
    | inl own ↦ node_holds by first [] history (λ h entry. each first h entry le) x own
    | inr later ↦ nodes_hold by least (suc first) nodes (omega arith) each x later
  ]

  office_holds : (by : By) (before office : List OfficeEntry) → ((h : List OfficeEntry) (entry : OfficeEntry) → Holds (AtOffice h entry)) → (x : Turn) → In x (office_turns by before office) → Holds x
  office_holds by before [] each x among = absurd among
  office_holds by before (entry ∷ office) each x among =
      own_holds (same_line by entry.by) (AtOffice before entry) (office_turns by (before ++ entry ∷ []) office) (each before entry) (office_holds by (before ++ entry ∷ []) office each) x among

-- ---- the lists with one entry more

door_more : (by : By) (place : ℕ) (door : List DoorEntry) (entry : DoorEntry) → IsTrue (same_line by entry.by) → door_turns by place (door ++ entry ∷ []) ≡ door_turns by place door ++ AtDoor (place + length door) entry.act ∷ []
door_more by place [] entry own =
    ap (λ (t : Bool). (if t then AtDoor place entry.act ∷ [] else []) ++ []) own ∙ ap (λ n. AtDoor n entry.act ∷ []) (let e : place ≡ place + 0 = omega arith in e)
door_more by place (first ∷ door) entry own =
    let mine : List Turn = if same_line by first.by then AtDoor place first.act ∷ [] else [] in
    ap (λ (l : List Turn). mine ++ l) (door_more by (suc place) door entry own)
    ∙ sym (append_assoc mine (door_turns by (suc place) door) (AtDoor (suc place + length door) entry.act ∷ []))
    ∙ ap (λ n. (mine ++ door_turns by (suc place) door) ++ AtDoor n entry.act ∷ []) (let e : suc place + length door ≡ place + suc (length door) = omega arith in e)

node_more : (by : By) (node : ℕ) (before history : List NodeEntry) (entry : NodeEntry) → IsTrue (same_line by entry.by) → node_turns by node before (history ++ entry ∷ []) ≡ node_turns by node before history ++ AtNode node (before ++ history) entry ∷ []
node_more by node before [] entry own =
    ap (λ (t : Bool). (if t then AtNode node before entry ∷ [] else []) ++ []) own ∙ ap (λ (h : List NodeEntry). AtNode node h entry ∷ []) (sym (append-nil before))
node_more by node before (first ∷ history) entry own =
    let mine : List Turn = if same_line by first.by then AtNode node before first ∷ [] else [] in
    ap (λ (l : List Turn). mine ++ l) (node_more by node (before ++ first ∷ []) history entry own)
    ∙ sym (append_assoc mine (node_turns by node (before ++ first ∷ []) history) (AtNode node ((before ++ first ∷ []) ++ history) entry ∷ []))
    ∙ ap (λ (h : List NodeEntry). (mine ++ node_turns by node (before ++ first ∷ []) history) ++ AtNode node h entry ∷ []) (append_assoc before (first ∷ []) history)

office_more : (by : By) (before office : List OfficeEntry) (entry : OfficeEntry) → IsTrue (same_line by entry.by) → office_turns by before (office ++ entry ∷ []) ≡ office_turns by before office ++ AtOffice (before ++ office) entry ∷ []
office_more by before [] entry own =
    ap (λ (t : Bool). (if t then AtOffice before entry ∷ [] else []) ++ []) own ∙ ap (λ (h : List OfficeEntry). AtOffice h entry ∷ []) (sym (append-nil before))
office_more by before (first ∷ office) entry own =
    let mine : List Turn = if same_line by first.by then AtOffice before first ∷ [] else [] in
    ap (λ (l : List Turn). mine ++ l) (office_more by (before ++ first ∷ []) office entry own)
    ∙ sym (append_assoc mine (office_turns by (before ++ first ∷ []) office) (AtOffice ((before ++ first ∷ []) ++ office) entry ∷ []))
    ∙ ap (λ (h : List OfficeEntry). (mine ++ office_turns by (before ++ first ∷ []) office) ++ AtOffice h entry ∷ []) (append_assoc before (first ∷ []) office)

nodes_placed : (by : By) (number first : ℕ) (nodes : List (List NodeEntry)) (entry : NodeEntry) → IsTrue (same_line by entry.by) → first ≤ number → number < first + length nodes
    → Placed (nodes_turns by first nodes) (nodes_turns by first (with_entry_in number entry first nodes)) (AtNode number (numbered_in number first nodes) entry)
nodes_placed by number first [] entry own le lt = absurd (omega arith)
nodes_placed by number first (history ∷ nodes) entry own le lt = cases (eqb first number) refl (λ above. nodes_placed by number (suc first) nodes entry own above (omega arith))
  where
    cases : (t : Bool) → eqb first number ≡ t
        → (suc first ≤ number → Placed (nodes_turns by (suc first) nodes) (nodes_turns by (suc first) (with_entry_in number entry (suc first) nodes)) (AtNode number (numbered_in number (suc first) nodes) entry))
        → Placed (nodes_turns by first (history ∷ nodes)) (nodes_turns by first (if t then (history ++ entry ∷ []) ∷ nodes else history ∷ with_entry_in number entry (suc first) nodes)) (AtNode number (if t then history else numbered_in number (suc first) nodes) entry)
    cases true is rest =
        let same = eqb-true first number is in
        let one : Placed (node_turns by first [] history) (node_turns by first [] (history ++ entry ∷ [])) (AtNode number history entry) =
        subst (λ (l : List Turn). Placed (node_turns by first [] history) l (AtNode number history entry)) (ap (λ n. node_turns by first [] history ++ AtNode n history entry ∷ []) (sym same) ∙ sym (node_more by first [] history entry own))
        (last_placed (node_turns by first [] history) (AtNode number history entry)) in
        placed_before (nodes_turns by (suc first) nodes) (node_turns by first [] history) (node_turns by first [] (history ++ entry ∷ [])) (AtNode number history entry)
        (nodes_hold (λ (x : Turn). is_at_node number x ≡ false) by (suc first) (suc first) nodes (omega arith) (λ n h e above. ne_eqb n number (λ it. omega arith))) one
    cases false other rest =
        let differ = eqb-false first number other in
        placed_behind (node_turns by first [] history) (nodes_turns by (suc first) nodes) (nodes_turns by (suc first) (with_entry_in number entry (suc first) nodes)) (AtNode number (numbered_in number (suc first) nodes) entry)
        (rest (past first number le differ))
      where
        past : (a b : ℕ) → a ≤ b → ((a ≡ b) → ⊥) → suc a ≤ b
        past a b le' differ' = elim (cases_Bool (leb (suc a) b)) [
          | inl yonder ↦ leb-true (suc a) b yonder
          | inr short ↦ absurd (differ' (grind arith))
        ]

-- ---- put in order

-- a turn that stands behind those of its list, whose moment none falls short of
module _ (by : By) (trace : Trace) (now : List Turn) (turn : Turn) (placed : Placed (entries_of by trace) now turn) where
  abbrev line : List Turn
  line = turns by trace

  is_old : (x : Turn) → In x (placed.front ++ placed.back) → In x line
  is_old x among = in_turns by trace x (subst (λ (l : List Turn). In x l) (sym placed.before) among)

  is_known : (x : Turn) → In x now → In x (line ++ turn ∷ [])
  is_known x among = elim (in_append x placed.front (turn ∷ placed.back) (subst (λ (l : List Turn). In x l) placed.behind among)) [
    | inl before ↦ in_front x line (turn ∷ []) (is_old x (in_front x placed.front placed.back before))
    | inr (inl is) ↦ in_back x line (turn ∷ []) (inl is)
    | inr (inr behind) ↦ in_front x line (turn ∷ []) (is_old x (in_back x placed.front placed.back behind))
  ]

  -- none that stands behind it has its moment
  apart : IsTrue (tie_in_one_list (line ++ turn ∷ [])) → (m : ℕ) → moment turn ≡ m → at_moment m placed.back ≡ []
  apart ties m is = filter_none (λ (x : Turn). eqb (moment x) m) placed.back (λ x among.
      let known = in_front x line (turn ∷ []) (is_old x (in_back x placed.front placed.back among)) in
      let tie = all_at (λ (o : Turn). not (eqb (moment turn) (moment o)) || same_list turn o) x (line ++ turn ∷ []) known (all_at (λ (t : Turn). list_all (λ (o : Turn). not (eqb (moment t) (moment o)) || same_list t o) (line ++ turn ∷ [])) turn (line ++ turn ∷ []) (in_back turn line (turn ∷ []) (inl refl)) ties) in
      elim (or_cases (not (eqb (moment turn) (moment x))) (same_list turn x) tie) [
        | inl differ ↦ ne_eqb (moment x) m (λ same. eqb-false (moment turn) (moment x) (not-true (eqb (moment turn) (moment x)) differ) (is ∙ sym same))
        | inr one ↦ absurd (true≢false (sym one ∙ placed.apart x among))
      ])

  -- it may as well stand last
  swap : IsTrue (tie_in_one_list (line ++ turn ∷ [])) → (m : ℕ) → at_moment m (turn ∷ placed.back) ≡ at_moment m placed.back ++ at_moment m (turn ∷ [])
  swap ties m = elim (cases_Bool (eqb (moment turn) m)) [
    | inl this ↦
        (let is = eqb-true (moment turn) m this in
        let none = apart ties m is in
        here m turn placed.back is ∙ ap (λ (l : List Turn). turn ∷ l) none ∙ sym (ap (λ (l : List Turn). l ++ at_moment m (turn ∷ [])) none ∙ here m turn [] is))
    | inr not_this ↦
        (let differs = eqb-false (moment turn) m not_this in
        elsewhere m turn placed.back differs ∙ sym (append-nil (at_moment m placed.back)) ∙ ap (λ (l : List Turn). at_moment m placed.back ++ l) (sym (elsewhere m turn [] differs)))
  ]

  was_same : IsTrue (give_nothing_up (entries_of by trace)) → (m : ℕ) → at_moment m line ≡ at_moment m placed.front ++ at_moment m placed.back
  was_same quiet m = sorted_stable m [] (entries_of by trace) refl quiet ∙ ap (at_moment m) placed.before ∙ filter-append (λ (x : Turn). eqb (moment x) m) placed.front placed.back

  now_same : IsTrue (tie_in_one_list (line ++ turn ∷ [])) → IsTrue (give_nothing_up (entries_of by trace)) → (m : ℕ) → at_moment m now ≡ at_moment m (line ++ turn ∷ [])
  now_same ties quiet m =
      ap (at_moment m) placed.behind
      ∙ filter-append (λ (x : Turn). eqb (moment x) m) placed.front (turn ∷ placed.back)
      ∙ ap (λ (l : List Turn). at_moment m placed.front ++ l) (swap ties m)
      ∙ sym (append_assoc (at_moment m placed.front) (at_moment m placed.back) (at_moment m (turn ∷ [])))
      ∙ ap (λ (l : List Turn). l ++ at_moment m (turn ∷ [])) (sym (was_same quiet m))
      ∙ sym (filter-append (λ (x : Turn). eqb (moment x) m) line (turn ∷ []))

  turned_last : IsTrue (moments_ascend (line ++ turn ∷ [])) → IsTrue (tie_in_one_list (line ++ turn ∷ [])) → IsTrue (give_nothing_up (line ++ turn ∷ [])) → fold with_turn [] now ≡ line ++ turn ∷ []
  turned_last up ties quiet =
      let now_quiet : IsTrue (give_nothing_up now) = all_from (λ (x : Turn). is_none (given_in x)) now (λ x among. all_at (λ (t : Turn). is_none (given_in t)) x (line ++ turn ∷ []) (is_known x among) quiet) in
      let was_quiet : IsTrue (give_nothing_up (entries_of by trace)) = all_from (λ (x : Turn). is_none (given_in x)) (entries_of by trace) (λ x among. all_at (λ (t : Turn). is_none (given_in t)) x (line ++ turn ∷ []) (in_front x line (turn ∷ []) (in_turns by trace x among)) quiet) in
      alike (fold with_turn [] now) (line ++ turn ∷ []) (sorted_ascends [] now refl) up (λ m. sorted_stable m [] now refl now_quiet ∙ now_same ties was_quiet m)

-- ---- the turn of an entry

pub turns_turned : (ran : Ran) (added : Added) → IsTrue (has_node ran added) → IsTrue (moments_ascend (turned_by ran added)) → IsTrue (tie_in_one_list (turned_by ran added)) → IsTrue (give_nothing_up (turned_by ran added))
    → turns (maker_of added) (with_added added ran).trace ≡ turned_by ran added
turns_turned ran (AddsAtDoor entry) has up ties quiet =
    let by = entry.by in
    let turn : Turn = AtDoor (length ran.trace.door) entry.act in
    let nodes = nodes_turns by 1 ran.trace.nodes in
    let door = door_turns by 0 ran.trace.door in
    let one : Placed door (door_turns by 0 (ran.trace.door ++ entry ∷ [])) turn =
    subst (λ (l : List Turn). Placed door l turn) (ap (λ n. door ++ AtDoor n entry.act ∷ []) (let e : length ran.trace.door ≡ 0 + length ran.trace.door = omega arith in e) ∙ sym (door_more by 0 ran.trace.door entry (by_itself by))) (last_placed door turn) in
    turned_last by ran.trace ((nodes ++ door_turns by 0 (ran.trace.door ++ entry ∷ [])) ++ office_turns by [] ran.trace.office) turn
    (placed_before (office_turns by [] ran.trace.office) (nodes ++ door) (nodes ++ door_turns by 0 (ran.trace.door ++ entry ∷ [])) turn
    (office_holds (λ (x : Turn). is_at_door x ≡ false) by [] ran.trace.office (λ h e. refl))
    (placed_behind nodes door (door_turns by 0 (ran.trace.door ++ entry ∷ [])) turn one))
    up ties quiet
turns_turned ran (AddsAtNode node entry) has up ties quiet =
    let by = entry.by in
    let turn : Turn = AtNode node (numbered_in node 1 ran.trace.nodes) entry in
    let now = nodes_turns by 1 (with_entry_in node entry 1 ran.trace.nodes) in
    let door = door_turns by 0 ran.trace.door in
    let number = and_parts (leb 1 node) (leb node (length ran.trace.nodes)) has in
    let least = leb-true 1 node number.0 in
    let most = leb-true node (length ran.trace.nodes) number.1 in
    turned_last by ran.trace ((now ++ door) ++ office_turns by [] ran.trace.office) turn
    (placed_before (office_turns by [] ran.trace.office) (nodes_turns by 1 ran.trace.nodes ++ door) (now ++ door) turn
    (office_holds (λ (x : Turn). is_at_node node x ≡ false) by [] ran.trace.office (λ h e. refl))
    (placed_before door (nodes_turns by 1 ran.trace.nodes) now turn
    (door_holds (λ (x : Turn). is_at_node node x ≡ false) by (length ran.trace.door) 0 ran.trace.door (omega arith) (λ p e less. refl))
    (nodes_placed by node 1 ran.trace.nodes entry (by_itself by) least (omega arith))))
    up ties quiet
turns_turned ran (AddsAtOffice entry) has up ties quiet =
    let by = entry.by in
    let turn : Turn = AtOffice ran.trace.office entry in
    let office = office_turns by [] ran.trace.office in
    let rest = nodes_turns by 1 ran.trace.nodes ++ door_turns by 0 ran.trace.door in
    turned_last by ran.trace (rest ++ office_turns by [] (ran.trace.office ++ entry ∷ [])) turn
    (placed_behind rest office (office_turns by [] (ran.trace.office ++ entry ∷ [])) turn
    (subst (λ (l : List Turn). Placed office l turn) (sym (office_more by [] ran.trace.office entry (by_itself by))) (last_placed office turn)))
    up ties quiet
turns_turned ran (AddsAtBox box entry) has up ties quiet = sym (append-nil (turns entry.by ran.trace))

-- ---- at one node and the door

stands : (node : ℕ) (turn : Turn) → IsTrue (is_at_node_or_door node turn) → IsTrue (stands_in node turn)
stands node (AtDoor place act) is = is
stands node (AtNode at before entry) is = is
stands node (AtOffice before entry) is = is

-- turns of one moment stand in one list there
ties_there : (node : ℕ) (line : List Turn) → IsTrue (list_all (is_at_node_or_door node) line) → IsTrue (tie_in_one_list line)
ties_there node line all =
    all_from (λ (turn : Turn). list_all (λ (other : Turn). not (eqb (moment turn) (moment other)) || same_list turn other) line) line (λ turn among.
    all_from (λ (other : Turn). not (eqb (moment turn) (moment other)) || same_list turn other) line (λ other among'.
    tied node turn other (stands node turn (all_at (is_at_node_or_door node) turn line among all)) (stands node other (all_at (is_at_node_or_door node) other line among' all))))

-- a line that isn't a collection gives nothing up
gives_none : (command : Command) → IsFalse (is_collect command) → (turn : Turn) → IsTrue (makes command turn) → IsTrue (is_none (given_in turn))
gives_none command other (AtDoor place act) made = refl
gives_none command other (AtOffice before entry) made = refl
gives_none command other (AtNode node before entry) made = by_act entry.act made
  where
    never : (c : Command) → IsFalse (is_collect c) → (id : TxnId) → IsTrue (makes_at_node c (node_acts.GiveUp id)) → ⊥
    never commands.Collect other' id is = true≢false other'
    never c other' id is = false≢true is

    by_act : (act : NodeAct) → IsTrue (makes_at_node command act) → IsTrue (is_none (given_by act))
    by_act (node_acts.GiveUp id) is = absurd (never command other id is)
    by_act act is = refl

-- a turn behind others none of which is of a later moment
ascends_more : (line : List Turn) (turn : Turn) → IsTrue (moments_ascend line) → ((x : Turn) → In x line → moment x ≤ moment turn) → IsTrue (moments_ascend (line ++ turn ∷ []))
ascends_more [] turn up past = refl
ascends_more (x ∷ []) turn up past = and_from _ _ (le-leb (moment x) (moment turn) (past x (inl refl))) refl
ascends_more (x ∷ y ∷ line) turn up past =
    let parts = and_parts (leb (moment x) (moment y)) (moments_ascend (y ∷ line)) up in
    and_from _ _ parts.0 (ascends_more (y ∷ line) turn parts.1 (λ z among. past z (inr among)))

-- a line's turns at the door stand below its end
abbrev is_low : ℕ → Turn → Bool
is_low last (AtDoor place act) = ltb place last
is_low last turn = true

low_turns : (by : By) (trace : Trace) (x : Turn) → In x (turns by trace) → IsTrue (is_low (length trace.door) x)
low_turns by trace x among =
    elim (in_append x (nodes_turns by 1 trace.nodes ++ door_turns by 0 trace.door) (office_turns by [] trace.office) (turns_in by trace x among)) [
      | inl more ↦ elim (in_append x (nodes_turns by 1 trace.nodes) (door_turns by 0 trace.door) more) [
        | inl node ↦ nodes_hold Low by 1 1 trace.nodes (omega arith) (λ n h e le. refl) x node
        | inr door ↦ door_holds Low by (length trace.door) 0 trace.door (omega arith) (λ p e less. lt-ltb' p (length trace.door) less) x door
      ]
      | inr office ↦ office_holds Low by [] trace.office (λ h e. refl) x office
    ]
  where
    Low : Turn → Type 0
    Low t = IsTrue (is_low (length trace.door) t)

    lt-ltb' : (a b : ℕ) → a < b → ltb a b ≡ true
    lt-ltb' a b less = grind arith

past_moment : (front : ℕ) (turn x : Turn) → moment turn ≡ front + front → IsTrue (is_past front x) → moment x ≤ moment turn
past_moment front turn (AtDoor place act) is past = (let lt = ltb-true place front past in omega arith)
past_moment front turn (AtNode node before entry) is past = (let le = leb-true entry.front front past in omega arith)
past_moment front turn (AtOffice before entry) is past = (let le = leb-true entry.front front past in omega arith)

low_moment : (last : ℕ) (x : Turn) → IsTrue (is_low last x) → IsTrue (leb (front_in x) last) → moment x ≤ last + last + 1
low_moment last (AtDoor place act) low front = (let lt = ltb-true place last low in omega arith)
low_moment last (AtNode node before entry) low front = (let le = leb-true entry.front last front in omega arith)
low_moment last (AtOffice before entry) low front = (let le = leb-true entry.front last front in omega arith)

-- no moment falls
climbs : (ran : Ran) (added : Added) → IsTrue (comes_after ran added (turns (maker_of added) ran.trace)) → IsTrue (moments_ascend (turned_by ran added))
climbs ran (AddsAtDoor entry) behind =
    ascends_more (turns entry.by ran.trace) (AtDoor (length ran.trace.door) entry.act) (sorted_ascends [] (entries_of entry.by ran.trace) refl)
    (λ x among. low_moment (length ran.trace.door) x (low_turns entry.by ran.trace x among) (all_at (λ (t : Turn). leb (front_in t) (length ran.trace.door)) x (turns entry.by ran.trace) among behind))
climbs ran (AddsAtNode node entry) behind =
    ascends_more (turns entry.by ran.trace) (AtNode node (numbered_in node 1 ran.trace.nodes) entry) (sorted_ascends [] (entries_of entry.by ran.trace) refl)
    (λ x among. past_moment entry.front (AtNode node (numbered_in node 1 ran.trace.nodes) entry) x refl (all_at (is_past entry.front) x (turns entry.by ran.trace) among behind))
climbs ran (AddsAtOffice entry) behind =
    ascends_more (turns entry.by ran.trace) (AtOffice ran.trace.office entry) (sorted_ascends [] (entries_of entry.by ran.trace) refl)
    (λ x among. past_moment entry.front (AtOffice ran.trace.office entry) x refl (all_at (is_past entry.front) x (turns entry.by ran.trace) among behind))
climbs ran (AddsAtBox box entry) behind =
    subst (λ (l : List Turn). IsTrue (moments_ascend l)) (sym (append-nil (turns entry.by ran.trace))) (sorted_ascends [] (entries_of entry.by ran.trace) refl)

pub turned_there : (command : Command) (ran : Ran) (added : Added) (node : ℕ) → IsFalse (is_collect command) → IsTrue (has_node ran added) → IsTrue (list_all (makes command) (turned_by ran added)) → IsTrue (list_all (is_at_node_or_door node) (turned_by ran added))
    → IsTrue (comes_after ran added (turns (maker_of added) ran.trace)) → turns (maker_of added) (with_added added ran).trace ≡ turned_by ran added
turned_there command ran added node other has made at behind =
    turns_turned ran added has (climbs ran added behind) (ties_there node (turned_by ran added) at) (all_so (makes command) (λ (turn : Turn). is_none (given_in turn)) (gives_none command other) (turned_by ran added) made)
