-- A machine's turn at the door keeps the account.
use Rattle.std.proofs.Common.{◌≡◌, false, List, [], ◌∷◌, ◌++◌, refl, sym, subst, ap, ◌∙◌, inl, arith, append_assoc, append-nil}
use Rattle.std.specs.Prelude.{IsFalse, IsTrue, None, Option, Some, length, nat_le}
use Rattle.std.specs.List.{list_all}
use Rattle.std.proofs.lemmas.Bool.{false≢true, le-leb}
use Rattle.aft_model.specs.declared.caller.Hold.{Hold}
use Rattle.aft_model.specs.declared.door.DoorAct.{DoorAct}
use Rattle.aft_model.specs.declared.door.DoorEntry.{DoorEntry}
use Rattle.aft_model.specs.declared.script.Line.{Line}
use Rattle.aft_model.proofs.Histories.{all_at, in_back}
use Rattle.aft_model.specs.Bytes.{HasBytes}
use Rattle.aft_model.specs.LegalDoor.{Legal}
use Rattle.aft_model.specs.Opening.{opening}
use Rattle.aft_model.specs.ScanRun.{same_line}
use Rattle.aft_lines.specs.Asked.{Asked, Ran}
use Rattle.aft_lines.specs.FinishedText.{line_of}
use Rattle.aft_lines.specs.LineView.{LineView, ends_of}
use Rattle.aft_lines.specs.Lines.{hold_before, lines, node_numbers, whole_order}
use Rattle.aft_lines.specs.Makes.{makes}
use Rattle.aft_lines.specs.Turns.{AtDoor, AtNode, AtOffice, Turn, front_in, turns}
use Rattle.aft_lines.specs.Views.{view_of}
use Rattle.aft_turns.specs.Stands.{GoesRightly, RanSo, is_right}
use Rattle.aft_turns.specs.Steps.{FrontsWithin, is_front_within}
use Rattle.aft_turns.specs.Trail.{Trail, behind, looking}
use Rattle.law_accounts.proofs.GoesOn.{goes_on}
use Rattle.law_accounts.proofs.Lists.{all_so}
use Rattle.law_accounts.proofs.Turned.{turned_there}
use Rattle.law_accounts.proofs.Within.{turns_within}
use Rattle.law_accounts.specs.Account.{GoesAlong, Stand}
use Rattle.law_accounts.specs.Adding.{AddsAtDoor, Added, ComesAsOrdered, Follows, comes_in, with_added}
use Rattle.law_accounts.specs.Turned.{is_at_node_or_door, turned_by}
use Rattle.law_grows.specs.Reach.{is_within}
use Rattle.law_driver.specs.Driven.{Driven, Promises, node_of, ranks_in}
use Rattle.law_driver.specs.Kept.{door_entry}
use Rattle.law_driver.proofs.Along.{goes_along, own_hold_same}
use Rattle.law_driver.proofs.Closing.{act_at_door}
use Rattle.law_driver.proofs.Late.{looked_now, looked_own}
use Rattle.law_driver.proofs.NeverStops.{stops_not}
use Rattle.law_driver.proofs.Node.{ranked_so}
use Rattle.law_driver.proofs.Rights.{no_collection, right_backed, right_parts, right_place}
use Rattle.law_driver.proofs.Seeing.{sees_door}

-- what a line has looked at is a beginning of a history with more
pub looked_more : (look door : List DoorEntry) (entry : DoorEntry) → (rest : List DoorEntry) × (door ≡ look ++ rest) → (rest : List DoorEntry) × ((door ++ entry ∷ []) ≡ look ++ rest)
looked_more look door entry (rest, is) = (rest ++ entry ∷ [], ap (λ (l : List DoorEntry). l ++ entry ∷ []) is ∙ append_assoc look rest (entry ∷ []))

module _ (asked : Asked) (ran : Ran) (stand : Line → Stand) (line : Line) (hold : Hold) (trail : Trail) (driven : Driven asked ran stand line hold trail) where
  abbrev door : List DoorEntry
  door = ran.trace.door

  within : IsTrue (list_all (is_within (length door)) (turns (line_of line) ran.trace))
  within = turns_within (line_of line) asked.settings.cache ran.trace driven.account.nodes driven.account.office

  -- its turns have seen no more of the door than there is
  pub fronts_within : FrontsWithin door trail.turns
  fronts_within = subst (λ (l : List Turn). IsTrue (list_all (is_front_within door) l)) driven.own (all_so (is_within (length door)) (is_front_within door) seen (turns (line_of line) ran.trace) within)
    where
      seen : (turn : Turn) → IsTrue (is_within (length door) turn) → IsTrue (is_front_within door turn)
      seen (AtDoor place act) is = refl
      seen (AtNode node before entry) is = is
      seen (AtOffice before entry) is = refl

  pub looks : Driven asked ran stand line hold (looking trail door)
  looks = record {
    account = driven.account;
    may = driven.may;
    runs = driven.runs;
    kind = driven.kind;
    own = driven.own;
    sees = driven.sees;
    closing = driven.closing;
    looked = ([], sym (append-nil door));
    late = λ made. looked_now asked ran line stand driven.account (whole_order asked);
    held = driven.held;
    quiet = driven.quiet;
    ranked = driven.ranked;
  }

  module _ (act : DoorAct) (legal : Legal (door ++ door_entry line act ∷ [])) (bytes : HasBytes (door ++ door_entry line act ∷ [])) (promises : Promises (line_of line) line.order hold asked.settings.cache asked.clock false (behind trail (AtDoor (length door) act))) where
    abbrev added : Added
    added = AddsAtDoor (door_entry line act)

    abbrev new : Ran
    new = with_added added ran

    abbrev next : Trail
    next = behind trail (AtDoor (length door) act)

    by_view : (view : LineView) → RanSo line.order hold asked.settings.cache next view → GoesRightly view
    by_view view ran_so = promises.goes view ran_so (λ over. absurd (false≢true over))

    right_turns : IsTrue (list_all (is_right line.order hold) next.turns)
    right_turns = subst (λ (h : Hold). IsTrue (list_all (is_right line.order h) next.turns)) driven.held (by_view (record (view_of asked ran line) { turns = next.turns }) (record { asked = refl; held = driven.held; cache = refl; turns = refl })).right

    last_made : IsTrue (makes line.order (AtDoor (length door) act))
    last_made = (right_parts line.order hold (AtDoor (length door) act) (all_at (is_right line.order hold) (AtDoor (length door) act) next.turns (in_back (AtDoor (length door) act) trail.turns (AtDoor (length door) act ∷ []) (inl refl)) right_turns)).0

    its_turns : turned_by ran added ≡ next.turns
    its_turns = ap (λ (l : List Turn). l ++ AtDoor (length door) act ∷ []) driven.own

    low : (turn : Turn) → IsTrue (is_within (length door) turn) → IsTrue (nat_le (front_in turn) (length door))
    low (AtDoor place did) is = le-leb 0 (length door) (omega arith)
    low (AtNode node before entry) is = is
    low (AtOffice before entry) is = is

    turned : turns (line_of line) new.trace ≡ next.turns
    turned =
        turned_there line.order ran added (node_of line.order hold) (no_collection line.order driven.kind) refl
        (subst (λ (l : List Turn). IsTrue (list_all (makes line.order) l)) (sym its_turns) (all_so (is_right line.order hold) (makes line.order) (λ turn is. (right_parts line.order hold turn is).0) next.turns right_turns))
        (subst (λ (l : List Turn). IsTrue (list_all (is_at_node_or_door (node_of line.order hold)) l)) (sym its_turns) (all_so (is_right line.order hold) (is_at_node_or_door (node_of line.order hold)) (λ turn is. right_place line.order hold turn driven.kind is) next.turns right_turns))
        (all_so (is_within (length door)) (λ (t : Turn). nat_le (front_in t) (length door)) low (turns (line_of line) ran.trace) within)
        ∙ its_turns

    stranger : IsFalse (same_line opening (line_of line))
    stranger = driven.account.strangers line driven.may.among

    held_same : hold_before (lines asked) new.trace line ≡ hold_before (lines asked) ran.trace line
    held_same = own_hold_same asked ran line added refl stranger

    abbrev view : LineView
    view = view_of asked new line

    along : GoesAlong view
    along = goes_along view (by_view view (record { asked = refl; held = held_same ∙ driven.held; cache = refl; turns = turned })) (stops_not line.order (node_numbers asked.settings) (ends_of view) trail.turns (length door) act view.seen view.turns driven.kind turned)

    follows : Follows asked ran added
    follows = (legal, bytes, right_backed line.order (line_of line) (length door) ran.trace.nodes act driven.kind last_made)

    ordered : ComesAsOrdered asked ran added
    ordered = (by_order (whole_order asked) driven.ranked.0, (driven.ranked.1, refl))
      where
        by_order : (order : Option (List Line)) → ranks_in ran (line_of line) order → comes_in ran added order
        by_order None so = tt
        by_order (Some order) so = (so, refl)

    pub acts : Driven asked new stand line hold next
    acts = record {
      account = goes_on asked ran stand stand line added driven.account driven.may refl follows ordered tt (record { others = λ other listed differs. refl; goes = along; now = inl driven.runs });
      may = driven.may;
      runs = driven.runs;
      kind = driven.kind;
      own = turned;
      sees = sees_door (line_of line) trail.turns act door driven.sees;
      closing = driven.closing ∙ sym (act_at_door trail.turns (length door) act);
      looked = looked_more trail.look door (door_entry line act) driven.looked;
      late = λ made. looked_own asked ran line added refl stranger (length trail.look) (whole_order asked) (driven.late made);
      held = held_same ∙ driven.held;
      quiet = driven.quiet;
      ranked = ranked_so asked ran added driven.ranked;
    }
