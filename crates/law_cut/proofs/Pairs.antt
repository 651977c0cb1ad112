-- What a copy was shown of the commits that it takes is the cut of what the store held when its copier came up.
use Rattle.std.proofs.Common.{Bool, ◌||◌, List, refl}
use Rattle.std.specs.Prelude.{IsTrue}
use Rattle.std.specs.List.{flat_map, list_any}
use Rattle.aft_keeper.specs.declared.keeper.Pair.{Pair}
use Rattle.aft_records.specs.declared.stored.Commit.{Commit}
use Rattle.aft_model.specs.declared.door.DoorAct.TheVariants.{Call}
use Rattle.aft_model.specs.declared.script.Line.{Line}
use Rattle.aft_model.specs.Cut.{cut, is_part_of, unmarked}
use Rattle.aft_model.specs.Readings.{is_record_of, is_version_at}
use Rattle.aft_model.proofs.Histories.{In, any_found, any_from, in_flat_map}
use Rattle.aft_model.proofs.Lists.{filter_in, in_filter}
use Rattle.aft_lines.specs.Asked.{Asked, Ran}
use Rattle.aft_lines.specs.BackupCourse.{Copier, shown_in_turn}
use Rattle.aft_lines.specs.Turns.{AtDoor, AtNode, AtOffice, Turn}
use Rattle.law_cut.specs.Copying.{CopiesFrom, shown_of_taken, taken_by}
use Rattle.law_cut.proofs.Takes.{held_is_shown, shown_is_held, stood_taken, stood_unmarked}

module _ (asked : Asked) (ran : Ran) (line : Line) (copying : Copier) (behind : List Turn) (held : List Pair) (copied : CopiesFrom asked ran line copying behind held) (pair : Pair) where
  -- whether it is the record or a version of a commit
  abbrev is_part : Commit → Bool
  is_part c = is_record_of c pair || list_any (λ key. is_version_at key c.id pair) c.keys

  shows_of : (c : Commit) → In c (unmarked held) → IsTrue (is_part c) → (turn : Turn) → In turn behind → In pair (shown_in_turn turn) → In pair held
  shows_of c stood part (AtDoor place (Call node inc call answer)) among shown =
      shown_is_held asked ran copied.legal line copied.listed copied.order copied.at_first held copied.at_last copied.contents copying.place copying.who.node copying.who.inc behind copied.came.came_up copied.along copied.rest copied.came.whole c stood pair part place (Call node inc call answer) among refl shown
  shows_of c stood part (AtDoor place act) among shown = absurd shown
  shows_of c stood part (AtNode node before entry) among shown = absurd shown
  shows_of c stood part (AtOffice before entry) among shown = absurd shown

  pub shown_in_cut : In pair (shown_of_taken asked ran line copying behind) → In pair (cut held)
  shown_in_cut among =
      let so = in_filter (is_part_of (taken_by asked ran line copying behind)) pair (flat_map shown_in_turn behind) among in
      let c = any_found is_part (taken_by asked ran line copying behind) so.1 in
      let turn = in_flat_map shown_in_turn pair behind so.0 in
      let stood = stood_unmarked asked ran copied.legal line copied.listed copied.order copied.at_first held copied.at_last copied.contents copying.place copying.who.node copying.who.inc behind copied.came.came_up copied.along copied.rest copied.came.whole c.0 c.1 in
      filter_in (is_part_of (unmarked held)) pair held (shows_of c.0 stood c.2 turn.0 turn.1 turn.2) (any_from is_part c.0 (unmarked held) stood c.2)

  pub cut_is_shown : In pair (cut held) → In pair (shown_of_taken asked ran line copying behind)
  cut_is_shown among =
      let so = in_filter (is_part_of (unmarked held)) pair held among in
      let c = any_found is_part (unmarked held) so.1 in
      let taken = stood_taken asked ran copied.legal line copied.listed copied.order copied.at_first held copied.at_last copied.contents copying.place copying.who.node copying.who.inc behind copied.came.came_up copied.along copied.rest copied.came.whole c.0 c.1 in
      filter_in (is_part_of (taken_by asked ran line copying behind)) pair (flat_map shown_in_turn behind)
      (held_is_shown asked ran copied.legal line copied.listed copied.order copied.at_first held copied.at_last copied.contents copying.place copying.who.node copying.who.inc behind copied.came.came_up copied.along copied.rest copied.came.whole c.0 c.1 pair c.2 so.0)
      (any_from is_part c.0 (taken_by asked ran line copying behind) taken c.2)
