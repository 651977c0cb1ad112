-- A line's own steps are its turns.
use Rattle.std.proofs.Common.{◌≡◌, ℕ, zero, suc, ◌+◌, ◌≤◌, Bool, true, false, ◌||◌, not, List, [], ◌∷◌, ◌++◌, refl, sym, ap, subst, ◌∙◌, inl, inr, eqb, leb, arith, append-nil}
use Rattle.std.proofs.lemmas.List.Elements.{filter-append}
use Rattle.std.specs.Prelude.{IsTrue, filter, is_none, map, if◌then◌else◌}
use Rattle.std.specs.List.{list_all}
use Rattle.std.proofs.lemmas.Bool.{and_from, cases_Bool, eqb-true, eqb-false, leb-true, le-leb, false≢true}
use Rattle.aft_model.specs.declared.caller.By.{By}
use Rattle.aft_model.specs.declared.door.DoorEntry.{DoorEntry}
use Rattle.aft_model.specs.declared.node.NodeEntry.{NodeEntry}
use Rattle.aft_model.specs.declared.trace.Trace.{Trace}
use Rattle.aft_model.specs.ScanRun.{same_line}
use Rattle.aft_model.proofs.Histories.{In, all_at, in_append, in_back, in_front}
use Rattle.aft_model.proofs.Lists.{all_from, filter_in, in_filter, in_map, none_at}
use Rattle.aft_lines.specs.LineView.{door_entry_in}
use Rattle.aft_lines.specs.Steps.{Made, made_at_front, own_steps, steps_from}
use Rattle.aft_lines.specs.Turns.{AtDoor, AtNode, AtOffice, Turn, door_turns, front_in, given_in, moment, node_turns, nodes_turns, office_turns, turns}
use Rattle.law_turns.specs.Order.{AreEntries, AtNodes, give_nothing_up, is_at_door, is_at_node, is_at_office, is_at_or_above, moments_ascend, same_list, tie_in_one_list}
use Rattle.law_turns.proofs.Lists as order
use Rattle.law_steps.specs.OneList.{IsOrdinary, entries_of, fronts_rise}
use Rattle.law_steps.proofs.Exact.{all_others, others_of}
use Rattle.law_steps.proofs.Parts.{mine, line, no_node_part, nodes_part, office_part, own-append}

-- each of some turns is at least at this moment
abbrev From : ℕ → List Turn → Type 0
From least line' = (turn : Turn) → In turn line' → least ≤ moment turn

-- turns of one moment, and behind them others that ascend from it on
ascend_behind : (m : ℕ) (xs ys : List Turn) → ((turn : Turn) → In turn xs → moment turn ≡ m) → From m ys → IsTrue (moments_ascend ys) → IsTrue (moments_ascend (xs ++ ys))
ascend_behind m [] ys same above up = up
ascend_behind m (x ∷ []) [] same above up = refl
ascend_behind m (x ∷ []) (y ∷ ys) same above up = and_from _ _ (le-leb (moment x) (moment y) (let is = same x (inl refl) in let le = above y (inl refl) in omega arith)) up
ascend_behind m (x ∷ z ∷ xs) ys same above up =
    and_from _ _ (le-leb (moment x) (moment z) (let a = same x (inl refl) in let b = same z (inr (inl refl)) in omega arith))
    (ascend_behind m (z ∷ xs) ys (λ turn among. same turn (inr among)) above up)

from_append : (m : ℕ) (xs ys : List Turn) → From m xs → From m ys → From m (xs ++ ys)
from_append m xs ys front back turn among = elim (in_append turn xs ys among) [ inl before ↦ front turn before | inr behind ↦ back turn behind ]

-- the moment of a turn that isn't at the door
other_moment : (one : Made) → door_entry_in one.by one.turn ≡ [] → moment one.turn ≡ front_in one.turn + front_in one.turn
other_moment one none = by_turn one.turn none
  where
    by_turn : (turn : Turn) → door_entry_in one.by turn ≡ [] → moment turn ≡ front_in turn + front_in turn
    by_turn (AtDoor place act) none' = cc
    by_turn (AtNode node before entry) none' = refl
    by_turn (AtOffice before entry) none' = refl

other_no_door : (one : Made) → door_entry_in one.by one.turn ≡ [] → is_at_door one.turn ≡ false
other_no_door one none = by_turn one.turn none
  where
    by_turn : (turn : Turn) → door_entry_in one.by turn ≡ [] → is_at_door turn ≡ false
    by_turn (AtDoor place act) none' = cc
    by_turn (AtNode node before entry) none' = refl
    by_turn (AtOffice before entry) none' = refl

module _ (by : By) (trace : Trace) where
  abbrev others : List Made
  others = others_of trace

  -- an own turn of one front
  own_one : (place : ℕ) (turn : Turn) → In turn (own_steps by (made_at_front place others)) → (moment turn ≡ place + place) × (is_at_door turn ≡ false)
  own_one place turn among =
      let made = in_map (λ (one : Made). one.turn) turn (filter (mine by) (made_at_front place others)) among in
      let its = in_filter (mine by) made.0 (made_at_front place others) made.1 in
      let found = in_filter (λ (one : Made). eqb (front_in one.turn) place) made.0 others its.0 in
      let other = all_others trace made.0 found.0 in
      let front = eqb-true (front_in made.0.turn) place found.1 in
      (ap moment made.2 ∙ other_moment made.0 other ∙ ap (λ n. n + n) front, ap is_at_door made.2 ∙ other_no_door made.0 other)

  -- an own turn at the door
  unfold_one : (place : ℕ) (entry : DoorEntry) → own_steps by (record { by = entry.by; turn = AtDoor place entry.act } ∷ []) ≡ (if same_line by entry.by then AtDoor place entry.act ∷ [] else [])
  unfold_one place entry = cases (same_line by entry.by)
    where
      cases : (t : Bool) → map (λ (one : Made). one.turn) (if t then record { by = entry.by; turn = AtDoor place entry.act } ∷ [] else []) ≡ (if t then AtDoor place entry.act ∷ [] else [])
      cases true = refl
      cases false = refl

  -- the own steps from a place on: those of its front, the door's, and the rest
  split : (place : ℕ) (entry : DoorEntry) (entries : List DoorEntry)
      → own_steps by (steps_from others place (entry ∷ entries)) ≡ own_steps by (made_at_front place others) ++ ((if same_line by entry.by then AtDoor place entry.act ∷ [] else []) ++ own_steps by (steps_from others (suc place) entries))
  split place entry entries =
      own-append by (made_at_front place others) (record { by = entry.by; turn = AtDoor place entry.act } ∷ steps_from others (suc place) entries)
      ∙ ap (λ (l : List Turn). own_steps by (made_at_front place others) ++ l)
      (own-append by (record { by = entry.by; turn = AtDoor place entry.act } ∷ []) (steps_from others (suc place) entries) ∙ ap (λ (l : List Turn). l ++ own_steps by (steps_from others (suc place) entries)) (unfold_one place entry))

  -- ---- the door's

  door_part_from : (place : ℕ) (door : List DoorEntry) → filter is_at_door (own_steps by (steps_from others place door)) ≡ door_turns by place door
  door_part_from place [] = order.filter_none is_at_door (own_steps by (made_at_front place others)) (λ turn among. (own_one place turn among).1)
  door_part_from place (entry ∷ entries) =
      ap (filter is_at_door) (split place entry entries)
      ∙ filter-append is_at_door (own_steps by (made_at_front place others)) ((if same_line by entry.by then AtDoor place entry.act ∷ [] else []) ++ own_steps by (steps_from others (suc place) entries))
      ∙ ap (λ (l : List Turn). l ++ filter is_at_door ((if same_line by entry.by then AtDoor place entry.act ∷ [] else []) ++ own_steps by (steps_from others (suc place) entries)))
      (order.filter_none is_at_door (own_steps by (made_at_front place others)) (λ turn among. (own_one place turn among).1))
      ∙ filter-append is_at_door (if same_line by entry.by then AtDoor place entry.act ∷ [] else []) (own_steps by (steps_from others (suc place) entries))
      ∙ cases (same_line by entry.by) (door_part_from (suc place) entries)
    where
      cases : (t : Bool) → filter is_at_door (own_steps by (steps_from others (suc place) entries)) ≡ door_turns by (suc place) entries → filter is_at_door (if t then AtDoor place entry.act ∷ [] else []) ++ filter is_at_door (own_steps by (steps_from others (suc place) entries))
          ≡ (if t then AtDoor place entry.act ∷ [] else []) ++ door_turns by (suc place) entries
      cases true rest = ap (λ (l : List Turn). AtDoor place entry.act ∷ l) rest
      cases false rest = rest

  -- ---- their moments

  record Climbs (least : ℕ) (line' : List Turn) : Type 0 where
    from : From least line'
    up : IsTrue (moments_ascend line')

  climbs_from : (place : ℕ) (door : List DoorEntry) → Climbs (place + place) (own_steps by (steps_from others place door))
  climbs_from place [] = record {
    from = λ turn among. (let is = (own_one place turn among).0 in omega arith);
    up = subst (λ (l : List Turn). IsTrue (moments_ascend l)) (append-nil (own_steps by (made_at_front place others)))
        (ascend_behind (place + place) (own_steps by (made_at_front place others)) [] (λ turn among. (own_one place turn among).0) (λ turn among. absurd among) refl);
  }
  climbs_from place (entry ∷ entries) =
      subst (λ (l : List Turn). Climbs (place + place) l) (sym (split place entry entries)) (whole (same_line by entry.by) (climbs_from (suc place) entries))
    where
      behind : (t : Bool) → Climbs (suc place + suc place) (own_steps by (steps_from others (suc place) entries)) → Climbs (place + place) ((if t then AtDoor place entry.act ∷ [] else []) ++ own_steps by (steps_from others (suc place) entries))
      behind false rest = record { from = λ turn among. (let le = rest.from turn among in omega arith); up = rest.up }
      behind true rest = record {
        from = λ turn among. elim among [
          | inl is ↦ subst (λ (t : Turn). place + place ≤ moment t) (sym is) (omega arith)
          | inr later ↦ (let le = rest.from turn later in omega arith)
        ];
        up = ascend_behind (place + place + 1) (AtDoor place entry.act ∷ []) (own_steps by (steps_from others (suc place) entries)) (λ turn among. elim among [ inl is ↦ ap moment is | inr nowhere ↦ absurd nowhere ])
            (λ turn among. (let le = rest.from turn among in omega arith)) rest.up;
      }

      whole : (t : Bool) → Climbs (suc place + suc place) (own_steps by (steps_from others (suc place) entries))
          → Climbs (place + place) (own_steps by (made_at_front place others) ++ ((if t then AtDoor place entry.act ∷ [] else []) ++ own_steps by (steps_from others (suc place) entries)))
      whole t rest =
          let more = behind t rest in
          record {
            from = from_append (place + place) (own_steps by (made_at_front place others)) ((if t then AtDoor place entry.act ∷ [] else []) ++ own_steps by (steps_from others (suc place) entries))
                (λ turn among. (let is = (own_one place turn among).0 in omega arith)) more.from;
            up = ascend_behind (place + place) (own_steps by (made_at_front place others)) ((if t then AtDoor place entry.act ∷ [] else []) ++ own_steps by (steps_from others (suc place) entries))
                (λ turn among. (own_one place turn among).0) more.from more.up;
          }

  -- ---- the whole

  module _ (rise : IsTrue (fronts_rise trace)) (ordinary : IsOrdinary by trace) where
    abbrev own : List Turn
    own = line by trace rise

    entries_are : AreEntries by trace own
    entries_are = record { door = door_part_from 0 trace.door; no_node = no_node_part by trace rise; nodes = nodes_part by trace rise; office = office_part by trace rise }

    -- an own step at some node from one on is an entry there
    node_entry : (node : ℕ) (histories : List (List NodeEntry)) (turn : Turn) → AtNodes by node histories own → In turn own → IsTrue (is_at_or_above node turn) → In turn (nodes_turns by node histories)
    node_entry node [] turn of among above = absurd (none_at (is_at_or_above node) turn own among of above)
    node_entry node (history ∷ histories) (AtDoor place act) of among above = absurd (false≢true above)
    node_entry node (history ∷ histories) (AtOffice before entry) of among above = absurd (false≢true above)
    node_entry node (history ∷ histories) (AtNode number before entry) of among above =
        cases (eqb number node) refl (node_entry (suc node) histories (AtNode number before entry) of.1 among)
      where
        cases : (t : Bool) → eqb number node ≡ t → (IsTrue (leb (suc node) number) → In (AtNode number before entry) (nodes_turns by (suc node) histories)) → In (AtNode number before entry) (nodes_turns by node (history ∷ histories))
        cases true here rest =
            in_front (AtNode number before entry) (node_turns by node [] history) (nodes_turns by (suc node) histories)
            (subst (λ (l : List Turn). In (AtNode number before entry) l) of.0 (filter_in (is_at_node node) (AtNode number before entry) own among here))
        cases false other rest =
            in_back (AtNode number before entry) (node_turns by node [] history) (nodes_turns by (suc node) histories)
            (rest (le-leb (suc node) number (past node number (leb-true node number above) (eqb-false number node other))))
          where
            past : (a b : ℕ) → a ≤ b → ((b ≡ a) → ⊥) → suc a ≤ b
            past a b le differ = elim (cases_Bool (leb (suc a) b)) [
              | inl yonder ↦ leb-true (suc a) b yonder
              | inr short ↦ absurd (differ (grind arith))
            ]

    -- an own step is an entry of the line
    is_entry : (turn : Turn) → In turn own → In turn (entries_of by trace)
    is_entry (AtDoor place act) among =
        in_front (AtDoor place act) (nodes_turns by 1 trace.nodes ++ door_turns by 0 trace.door) (office_turns by [] trace.office)
        (in_back (AtDoor place act) (nodes_turns by 1 trace.nodes) (door_turns by 0 trace.door)
        (subst (λ (l : List Turn). In (AtDoor place act) l) entries_are.door (filter_in is_at_door (AtDoor place act) own among refl)))
    is_entry (AtOffice before entry) among =
        in_back (AtOffice before entry) (nodes_turns by 1 trace.nodes ++ door_turns by 0 trace.door) (office_turns by [] trace.office)
        (subst (λ (l : List Turn). In (AtOffice before entry) l) entries_are.office (filter_in is_at_office (AtOffice before entry) own among refl))
    is_entry (AtNode number before entry) among =
        in_front (AtNode number before entry) (nodes_turns by 1 trace.nodes ++ door_turns by 0 trace.door) (office_turns by [] trace.office)
        (in_front (AtNode number before entry) (nodes_turns by 1 trace.nodes) (door_turns by 0 trace.door)
        (node_entry 1 trace.nodes (AtNode number before entry) entries_are.nodes among (from_one number among)))
      where
        from_one : (n : ℕ) → In (AtNode n before entry) own → IsTrue (leb 1 n)
        from_one zero among' = absurd (none_at (is_at_node 0) (AtNode 0 before entry) own among' entries_are.no_node refl)
        from_one (suc n) among' = le-leb 1 (suc n) (omega arith)

    pub own_turns : own ≡ turns by trace
    own_turns =
        let quiet : IsTrue (give_nothing_up own) = all_from (λ (turn : Turn). is_none (given_in turn)) own (λ turn among. all_at (λ (t : Turn). is_none (given_in t)) turn (entries_of by trace) (is_entry turn among) ordinary.quiet) in
        let ties : IsTrue (tie_in_one_list own) =
        all_from (λ (turn : Turn). list_all (λ (other : Turn). not (eqb (moment turn) (moment other)) || same_list turn other) own) own (λ turn among.
        all_from (λ (other : Turn). not (eqb (moment turn) (moment other)) || same_list turn other) own (λ other among'.
        all_at (λ (o : Turn). not (eqb (moment turn) (moment o)) || same_list turn o) other (entries_of by trace) (is_entry other among')
        (all_at (λ (t : Turn). list_all (λ (o : Turn). not (eqb (moment t) (moment o)) || same_list t o) (entries_of by trace)) turn (entries_of by trace) (is_entry turn among) ordinary.ties))) in
        sym (order.in_order by trace own entries_are ties (climbs_from 0 trace.door).up quiet)
