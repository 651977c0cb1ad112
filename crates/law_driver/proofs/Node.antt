-- A machine's turn at its node keeps the account.
use Rattle.std.proofs.Common.{◌≡◌, ◌≤◌, ℕ, Bool, true, false, List, [], ◌∷◌, ◌++◌, take, drop, refl, sym, subst, ap, ◌∙◌, inl, inr, arith}
use Rattle.std.specs.Prelude.{IsFalse, IsTrue, None, Option, Some, if◌then◌else◌, length, max, nat_le, nat_lt}
use Rattle.std.specs.List.{flat_map, fold, last_or, list_all}
use Rattle.std.proofs.lemmas.Bool.{and_from, and_parts, eqb-true, le-leb, leb-true, true≢false}
use Rattle.std.proofs.lemmas.List.Concat.{flat_map-append}
use Rattle.std.proofs.lemmas.List.Folds.{list_all-append}
use Rattle.aft_model.specs.declared.caller.By.{By}
use Rattle.aft_model.specs.declared.caller.Hold.{Hold}
use Rattle.aft_model.specs.declared.door.DoorEntry.{DoorEntry}
use Rattle.aft_model.specs.declared.node.NodeAct.{NodeAct}
use Rattle.aft_model.specs.declared.node.NodeEntry.{NodeEntry}
use Rattle.aft_model.specs.declared.reply.Reply.{Reply}
use Rattle.aft_model.specs.declared.script.Line.{Line}
use Rattle.aft_model.proofs.Histories.{all_at, in_back}
use Rattle.aft_model.specs.LegalNode.{LegalNode, is_legal_node}
use Rattle.aft_model.specs.NodeSights.{has_seen}
use Rattle.aft_model.specs.Opening.{opening}
use Rattle.aft_model.specs.ScanRun.{same_line}
use Rattle.aft_ledger.specs.View.{NodeView}
use Rattle.aft_lines.specs.Asked.{Asked, Ran}
use Rattle.aft_lines.specs.FinishedText.{line_of}
use Rattle.aft_lines.specs.LegalTrace.{act_at, has_seen_earlier, rank}
use Rattle.aft_lines.specs.LineView.{LineView, NodeTurn, door_entry_in, front_of, last_front, node_turn_in}
use Rattle.aft_lines.specs.Lines.{hold_before, lines, node_numbers, whole_order}
use Rattle.aft_lines.specs.Makes.{makes}
use Rattle.aft_lines.specs.Turns.{AtDoor, AtNode, AtOffice, Turn, end_front, front_in, turns}
use Rattle.aft_lines.specs.Views.{view_of}
use Rattle.aft_node.specs.Closing.{last_own}
use Rattle.aft_turns.specs.Stands.{EndsRightly, GoesRightly, HasLooked, LooksLate, RanSo, SeesOwn, is_right, sees}
use Rattle.aft_turns.specs.Steps.{entry_of}
use Rattle.aft_turns.specs.Trail.{Trail}
use Rattle.law_accounts.proofs.GoesOn.{goes_on}
use Rattle.law_accounts.proofs.Lists.{all_so}
use Rattle.law_accounts.proofs.Orders.{makers_so}
use Rattle.law_accounts.proofs.StopsSeen.{stops_seen}
use Rattle.law_accounts.proofs.Turned.{turned_there}
use Rattle.law_accounts.proofs.Within.{turns_within}
use Rattle.law_accounts.specs.Account.{Account, ComesToEnd, GoesAlong, IsDone, NoneCollects, Stand, beside}
use Rattle.law_accounts.specs.Adding.{AddsAtNode, Added, ComesAsOrdered, Follows, comes_in, maker_of, numbered_in, ranks_last, with_added}
use Rattle.law_accounts.specs.Turned.{is_at_node_or_door, is_past, turned_by}
use Rattle.law_claims.proofs.Scenes.{by_itself}
use Rattle.law_grows.proofs.Positions.{end_within}
use Rattle.law_grows.specs.Reach.{is_within}
use Rattle.law_driver.specs.Driven.{AllAtOneNode, Driven, IsNode, LookedBy, Promises, RanksLast, last_act, node_of, ranks_in, reads_clock}
use Rattle.law_driver.specs.Kept.{StandsNow, behind_node, with_stand}
use Rattle.law_driver.proofs.Along.{goes_along, own_hold_same}
use Rattle.law_driver.proofs.Closing.{act_at_node, last_with_own, numbered_more}
use Rattle.law_driver.proofs.Late.{drop_all, looked_own, looks_late}
use Rattle.law_driver.proofs.Rights.{no_collection, quiet_mail, right_parts, right_place}
use Rattle.law_driver.proofs.Seeing.{fold_last, last_is, sees_node}

-- ---- orders

-- who comes last still does with an entry of its own
pub ranks_so : (order : List Line) (ran : Ran) (added : Added) → IsTrue (ranks_last order (maker_of added) ran) → IsTrue (ranks_last order (maker_of added) (with_added added ran))
ranks_so order ran added so =
    makers_so (list_all (λ other. nat_le (rank order other) (rank order (maker_of added)))) ran added so
    (λ xs inside is. list_all-append (λ other. nat_le (rank order other) (rank order (maker_of added))) xs (maker_of added ∷ []) ∙ and_from _ _ is (and_from _ _ (le-leb (rank order (maker_of added)) (rank order (maker_of added)) (omega arith)) refl))

pub ranked_so : (asked : Asked) (ran : Ran) (added : Added) → RanksLast asked ran (maker_of added) → RanksLast asked (with_added added ran) (maker_of added)
ranked_so asked ran added so = (by_order (whole_order asked) so.0, ranks_so asked.asks ran added so.1)
  where
    by_order : (order : Option (List Line)) → ranks_in ran (maker_of added) order → ranks_in (with_added added ran) (maker_of added) order
    by_order None so = tt
    by_order (Some order) so = ranks_so order ran added so

-- who has seen the whole door has seen all that earlier lines did
take_all : {A : Type 0} (xs : List A) → take (length xs) xs ≡ xs
take_all [] = refl
take_all {A} (x ∷ xs) = ap (λ (l : List A). x ∷ l) (take_all xs)

pub has_seen_all : (order : List Line) (door : List DoorEntry) (front : ℕ) (by : By) → front ≡ length door → IsTrue (has_seen_earlier order door front by)
has_seen_all order door front by whole = subst (λ (l : List DoorEntry). IsTrue (list_all (λ (e : DoorEntry). nat_le (rank order by) (rank order e.by)) l)) (sym (ap (λ n. drop n door) whole ∙ drop_all door)) refl

-- ---- a trail with a turn at a node more

module _ (line : List Turn) (node : ℕ) (before : List NodeEntry) (entry : NodeEntry) where
  abbrev more : List Turn
  more = line ++ AtNode node before entry ∷ []

  front_last : end_front more ≡ entry.front
  front_last = fold_last front_in 0 line (AtNode node before entry)

  sees_last : (seen : List DoorEntry) → fold (λ past turn. sees seen turn) true more ≡ has_seen node seen entry.by before entry.act entry.answer
  sees_last seen = fold_last (sees seen) true line (AtNode node before entry)

  node_last : (view : LineView) → view.turns ≡ more → last_front view ≡ entry.front
  node_last view is =
      ap (λ (l : List Turn). front_of (last_or None (flat_map node_turn_in l))) is
      ∙ ap (λ (l : List NodeTurn). front_of (last_or None l)) (flat_map-append node_turn_in line (AtNode node before entry ∷ []))
      ∙ ap front_of (last_is None (flat_map node_turn_in line) (record { before = before; entry = entry }))

-- ---- the turn

module _ (asked : Asked) (ran : Ran) (stand : Line → Stand) (line : Line) (hold : Hold) (trail : Trail) (node : NodeView) (act : NodeAct) (answer : Option Reply) (done : Bool) (all : AllAtOneNode asked) (driven : Driven asked ran stand line hold trail) (is_node : IsNode asked ran node)
    (legal : LegalNode node.number node.capacity (node.history ++ entry_of (line_of line) (length ran.trace.door) node act answer ∷ []))
    (promises : Promises (line_of line) line.order hold asked.settings.cache asked.clock done (behind_node ran line node act answer trail)) where
  abbrev door : List DoorEntry
  door = ran.trace.door

  abbrev entry : NodeEntry
  entry = entry_of (line_of line) (length door) node act answer

  abbrev added : Added
  added = AddsAtNode node.number entry

  abbrev new : Ran
  new = with_added added ran

  abbrev next : Trail
  next = behind_node ran line node act answer trail

  front_is : entry.front ≡ length door
  front_is = greater node.front (length door) is_node.front
    where
      greater : (a b : ℕ) → a ≤ b → max a b ≡ b
      greater a b le = grind arith

  -- what had been seen of the door by the line's end is all of it
  seen_all : take (end_front next.turns) door ≡ door
  seen_all = ap (λ n. take n door) (front_last trail.turns node.number node.history entry ∙ front_is) ∙ take_all door

  looked_at : (view : LineView) → view.turns ≡ next.turns → view.seen ≡ door → HasLooked next view
  looked_at view its seen =
      (driven.looked.0, ap (λ n. take n view.seen) (node_last trail.turns node.number node.history entry view its ∙ front_is) ∙ ap (take (length door)) seen ∙ take_all door ∙ driven.looked.1)

  -- a view of the line by its trail
  abbrev by_trail : LineView
  by_trail = record (view_of asked ran line) { turns = next.turns; seen = door }

  right_turns : IsTrue (list_all (is_right line.order hold) next.turns)
  right_turns =
      subst (λ (h : Hold). IsTrue (list_all (is_right line.order h) next.turns)) driven.held
      (promises.goes by_trail (record { asked = refl; held = driven.held; cache = refl; turns = refl }) (λ over. looked_at by_trail refl refl)).right

  its_turns : turned_by ran added ≡ next.turns
  its_turns = ap (λ (l : List Turn). l ++ AtNode node.number (numbered_in node.number 1 ran.trace.nodes) entry ∷ []) driven.own ∙ ap (λ (h : List NodeEntry). trail.turns ++ AtNode node.number h entry ∷ []) (sym is_node.history)

  within : IsTrue (list_all (is_within (length door)) (turns (line_of line) ran.trace))
  within = turns_within (line_of line) asked.settings.cache ran.trace driven.account.nodes driven.account.office

  past : (turn : Turn) → IsTrue (is_within (length door) turn) → IsTrue (is_past entry.front turn)
  past (AtDoor place did) is = subst (λ n. IsTrue (nat_lt place n)) (sym front_is) is
  past (AtNode at before other) is = subst (λ n. IsTrue (nat_le other.front n)) (sym front_is) is
  past (AtOffice before other) is = subst (λ n. IsTrue (nat_le other.front n)) (sym front_is) is

  turned : turns (line_of line) new.trace ≡ next.turns
  turned =
      turned_there line.order ran added (node_of line.order hold) (no_collection line.order driven.kind) is_node.there
      (subst (λ (l : List Turn). IsTrue (list_all (makes line.order) l)) (sym its_turns) (all_so (is_right line.order hold) (makes line.order) (λ turn is. (right_parts line.order hold turn is).0) next.turns right_turns))
      (subst (λ (l : List Turn). IsTrue (list_all (is_at_node_or_door (node_of line.order hold)) l)) (sym its_turns) (all_so (is_right line.order hold) (is_at_node_or_door (node_of line.order hold)) (λ turn is. right_place line.order hold turn driven.kind is) next.turns right_turns))
      (all_so (is_within (length door)) (is_past entry.front) past (turns (line_of line) ran.trace) within)
      ∙ its_turns

  -- ---- the line's view

  stranger : IsFalse (same_line opening (line_of line))
  stranger = driven.account.strangers line driven.may.among

  held_same : hold_before (lines asked) new.trace line ≡ hold_before (lines asked) ran.trace line
  held_same = own_hold_same asked ran line added refl stranger

  abbrev view : LineView
  view = view_of asked new line

  abbrev view_beside : List (List NodeEntry) → LineView
  view_beside nodes = beside nodes view

  ran_so : (nodes : List (List NodeEntry)) → RanSo line.order hold asked.settings.cache next (view_beside nodes)
  ran_so nodes = record { asked = refl; held = held_same ∙ driven.held; cache = refl; turns = turned }

  seen_is : view.seen ≡ door
  seen_is = ap (λ (l : List Turn). take (end_front l) door) turned ∙ seen_all

  has_looked : (nodes : List (List NodeEntry)) → HasLooked next (view_beside nodes)
  has_looked nodes = looked_at (view_beside nodes) turned seen_is

  goes : GoesRightly view
  goes = promises.goes view (ran_so new.trace.nodes) (λ over. has_looked new.trace.nodes)

  sees_now : SeesOwn (line_of line) next.turns door
  sees_now = sees_node (line_of line) trail.turns node.number node.history entry door driven.sees

  follows : Follows asked ran added
  follows = (
    subst (λ (h : List NodeEntry). IsTrue (is_legal_node node.number asked.settings.cache (h ++ entry ∷ []))) is_node.history
        (subst (λ c. IsTrue (is_legal_node node.number c (node.history ++ entry ∷ []))) is_node.capacity legal),
    and_from _ _ (le-leb entry.front (length door) (let e = front_is in omega arith))
        (subst (λ (h : List NodeEntry). IsTrue (has_seen node.number (take entry.front door) entry.by h entry.act entry.answer)) is_node.history
        (subst (λ (seen : List DoorEntry). IsTrue (has_seen node.number seen entry.by node.history entry.act entry.answer)) (sym (ap (λ n. take n door) front_is ∙ take_all door))
        (sym (sees_last trail.turns node.number node.history entry door) ∙ promises.sees door driven.looked.0 sees_now driven.looked.1))),
    last_reads,
    (let low = end_within (length door) (turns opening ran.trace) (turns_within opening asked.settings.cache ran.trace driven.account.nodes driven.account.office) in let e = front_is in omega arith),
  )
    where
      last_reads : IsTrue (act_at asked.clock act)
      last_reads = all_at (reads_clock asked.clock) (AtNode node.number node.history entry) next.turns (in_back (AtNode node.number node.history entry) trail.turns (AtNode node.number node.history entry ∷ []) (inl refl)) promises.reads

  ordered : ComesAsOrdered asked ran added
  ordered = (by_order (whole_order asked) driven.ranked.0, (driven.ranked.1, has_seen_all asked.asks door entry.front (line_of line) front_is))
    where
      by_order : (order : Option (List Line)) → ranks_in ran (line_of line) order → comes_in ran added order
      by_order None so = tt
      by_order (Some order) so = (so, has_seen_all order door entry.front (line_of line) front_is)

  along : GoesAlong view
  along = goes_along view goes (stops_seen asked ran stand line node.number entry driven.account driven.may.among front_is (turned ∙ sym its_turns))

  none_collects : NoneCollects asked stand added
  none_collects other listed collects = absurd (true≢false (sym collects ∙ no_collection other.order (all other listed)))

  -- its last act at its node is this
  closes_now : last_own (line_of line) (numbered_in (node_of line.order hold) 1 new.trace.nodes) ≡ last_act next.turns
  closes_now =
      ap (λ n. last_own (line_of line) (numbered_in n 1 new.trace.nodes)) (sym here)
      ∙ ap (last_own (line_of line)) (numbered_more node.number 1 entry ran.trace.nodes (leb-true 1 node.number there.0) (let high = leb-true node.number (length ran.trace.nodes) there.1 in omega arith))
      ∙ last_with_own (line_of line) (numbered_in node.number 1 ran.trace.nodes) entry (by_itself (line_of line)) ∙ sym (act_at_node trail.turns node.number node.history entry)
    where
      there : IsTrue (nat_le 1 node.number) × IsTrue (nat_le node.number (length ran.trace.nodes))
      there = and_parts (nat_le 1 node.number) (nat_le node.number (length ran.trace.nodes)) is_node.there

      here : node.number ≡ node_of line.order hold
      here =
          eqb-true node.number (node_of line.order hold)
          (right_place line.order hold (AtNode node.number node.history entry) driven.kind (all_at (is_right line.order hold) (AtNode node.number node.history entry) next.turns (in_back (AtNode node.number node.history entry) trail.turns (AtNode node.number node.history entry ∷ []) (inl refl)) right_turns))

  -- ---- how it stands

  late_now : 1 ≤ length trail.look → LookedBy asked new line (length trail.look) (whole_order asked)
  late_now made = looked_own asked ran line added refl stranger (length trail.look) (whole_order asked) (driven.late made)

  late_so : (nodes : List (List NodeEntry)) → LooksLate next (view_beside nodes)
  late_so nodes none made =
      looks_late asked new line (view_beside nodes) (length trail.look) (whole_order asked) refl (node_last trail.turns node.number node.history entry view turned ∙ front_is)
      (sees_now.own ∙ ap (flat_map (door_entry_in (line_of line))) (sym turned) ∙ none) (late_now made)

  runs_still : done ≡ false → Driven asked new stand line hold next
  runs_still on = record {
    account = goes_on asked ran stand stand line added driven.account driven.may refl follows ordered none_collects (record { others = λ other listed differs. refl; goes = along; now = inl driven.runs });
    may = driven.may;
    runs = driven.runs;
    kind = driven.kind;
    own = turned;
    sees = sees_now;
    closing = closes_now;
    looked = driven.looked;
    late = late_now;
    held = held_same ∙ driven.held;
    quiet = driven.quiet;
    ranked = ranked_so asked ran added driven.ranked;
  }

  is_over : done ≡ true → Account asked new (with_stand line IsDone stand) × (turns (line_of line) new.trace ≡ next.turns)
  is_over over = (
    goes_on asked ran stand (with_stand line IsDone stand) line added driven.account driven.may refl follows ordered none_collects
        (record {
          others = λ other listed differs. ap (λ (b : Bool). if b then IsDone else stand other) differs;
          goes = along;
          now = inr (ap (λ (b : Bool). if b then IsDone else stand line) (by_itself (line_of line)), ended);
        }),
    turned,
  )
    where
      ends : (nodes : List (List NodeEntry)) → EndsRightly (view_beside nodes)
      ends nodes = promises.ends (view_beside nodes) (ran_so nodes) refl over (has_looked nodes) (late_so nodes)

      ended : ComesToEnd view
      ended = record {
        leads = (ends new.trace.nodes).leads;
        answers = (ends new.trace.nodes).answers;
        posts = quiet_mail line.order (line_of line) (node_numbers asked.settings) view.turns new.mail driven.kind driven.quiet;
        caused = λ nodes reply may last. (ends nodes).caused reply last;
      }

  pub node_keeps : StandsNow done asked new stand line hold next
  node_keeps = by_end done refl
    where
      by_end : (b : Bool) → done ≡ b → StandsNow b asked new stand line hold next
      by_end false on = runs_still on
      by_end true over = is_over over
