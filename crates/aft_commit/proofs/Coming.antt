-- How a line comes from a position to the next.
use Rattle.std.proofs.Common.{◌≡◌, ℕ, Bool, true, false, List, [], ◌∷◌, ◌++◌, refl, ap, ◌∙◌, append-nil}
use Rattle.std.specs.Prelude.{IsTrue, Option, Some}
use Rattle.std.proofs.lemmas.Bool.{and_from}
use Rattle.std.proofs.lemmas.List.Concat.{flat_map-append}
use Rattle.std.proofs.lemmas.List.Folds.{list_all-append}
use Rattle.std.proofs.lemmas.List.Sums.{fold-append}
use Rattle.aft_model.specs.declared.caller.Attempt.{Attempt}
use Rattle.aft_model.specs.declared.caller.By.{By}
use Rattle.aft_model.specs.declared.caller.Hold.{Hold}
use Rattle.aft_model.specs.declared.door.DoorAct.{DoorAct}
use Rattle.aft_model.specs.declared.door.DoorEntry.{DoorEntry}
use Rattle.aft_model.specs.declared.node.NodeEntry.{NodeEntry}
use Rattle.aft_model.specs.NodeSights.{has_seen, own_entries}
use Rattle.aft_model.specs.declared.script.Command.TheVariants as commands
use Rattle.aft_lines.specs.Advance.{advance, advanced}
use Rattle.aft_lines.specs.CourseWords.{Ends}
use Rattle.aft_lines.specs.LineView.{door_entry_in}
use Rattle.aft_lines.specs.Progress.{NotBegun, Progress}
use Rattle.aft_lines.specs.Turns.{AtDoor, AtNode, Turn}
use Rattle.aft_commit.specs.Made.{HasCome, LastSees, command_of, is_own_silent}
use Rattle.aft_commit.specs.Told.{entries_by}
use Rattle.aft_turns.specs.Stands.{sees}
use Rattle.aft_turns.specs.Trail.{Trail, behind, looking}

-- a turn at the door asks nothing of it
pub door_sees : (by : By) (made : List Turn) (place : ℕ) (act : DoorAct) → LastSees by (made ++ AtDoor place act ∷ [])
door_sees by made place act seen own = fold-append (λ (before : Bool) (turn : Turn). sees seen turn) true made (AtDoor place act ∷ [])

-- one at the node asks what its act does
pub node_sees : (by : By) (made : List Turn) (node : ℕ) (before : List NodeEntry) (entry : NodeEntry) → ((seen : List DoorEntry) → own_entries by seen ≡ entries_by by made → IsTrue (has_seen node seen entry.by before entry.act entry.answer)) → LastSees by (made ++ AtNode node before entry ∷ [])
node_sees by made node before entry has seen own =
    fold-append (λ (before : Bool) (turn : Turn). sees seen turn) true made (AtNode node before entry ∷ [])
    ∙ has seen (own ∙ flat_map-append (door_entry_in by) made (AtNode node before entry ∷ []) ∙ append-nil (entries_by by made))

module _ (clock : ℕ) (by : By) (hold : Hold) (a : Attempt) where
  -- a turn leads from one position to another, of a commit and of an abort
  abbrev pub Leads : Progress → Turn → Progress → Type 0
  Leads position turn further = (nodes : List ℕ) (ends : Ends) → (advance commands.Commit nodes ends position turn ≡ Some further) × (advance commands.Abort nodes ends position turn ≡ Some further)

  led : (aborts : Bool) (position further : Progress) (turn : Turn) → Leads position turn further → (nodes : List ℕ) (ends : Ends) → advance (command_of aborts) nodes ends position turn ≡ Some further
  led true position further turn leads nodes ends = (leads nodes ends).1
  led false position further turn leads nodes ends = (leads nodes ends).0

  -- by a turn of its own command
  pub come_so : (aborts : Bool) (position further : Progress) (trail : Trail) (turn : Turn) → HasCome clock by hold aborts a position trail → IsTrue (is_own_silent clock hold aborts turn) → LastSees by (trail.turns ++ turn ∷ []) → ((nodes : List ℕ) (ends : Ends) → advance (command_of aborts) nodes ends position turn ≡ Some further) → HasCome clock by hold aborts a further (behind trail turn)
  come_so aborts position further trail turn come own sees_so leads = record {
    held = come.held;
    place = come.place;
    own = list_all-append (is_own_silent clock hold aborts) trail.turns (turn ∷ []) ∙ and_from _ _ come.own (and_from _ _ own refl);
    leads = λ nodes ends.
        fold-append (advanced (advance (command_of aborts) nodes ends)) (Some NotBegun) trail.turns (turn ∷ [])
        ∙ (ap (λ (o : Option Progress). advanced (advance (command_of aborts) nodes ends) o turn) (come.leads nodes ends) ∙ leads nodes ends);
    sees = sees_so;
  }

  pub come_on : (aborts : Bool) (position further : Progress) (trail : Trail) (turn : Turn) → HasCome clock by hold aborts a position trail → IsTrue (is_own_silent clock hold aborts turn) → LastSees by (trail.turns ++ turn ∷ []) → Leads position turn further → HasCome clock by hold aborts a further (behind trail turn)
  come_on aborts position further trail turn come own sees_so leads = come_so aborts position further trail turn come own sees_so (led aborts position further turn leads)

  -- a look leaves it where it is
  pub come_still : (aborts : Bool) (position : Progress) (trail : Trail) (old : List DoorEntry) → HasCome clock by hold aborts a position trail → HasCome clock by hold aborts a position (looking trail old)
  come_still aborts position trail old come = record { held = come.held; place = come.place; own = come.own; leads = come.leads; sees = come.sees }
