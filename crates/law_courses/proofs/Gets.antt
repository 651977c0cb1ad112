-- What is left of a get.
use Rattle.std.proofs.Common.{◌≡◌, ℕ, Bool, ◌&&◌, List, [], ◌∷◌, refl, sym, ap, ◌∙◌}
use Rattle.std.specs.Prelude.{Option, Some}
use Rattle.std.specs.Str.{bytes_eq}
use Rattle.aft_id.specs.declared.txn_id.TxnId.{TxnId}
use Rattle.aft_keeper.specs.declared.keeper.KeeperCall.TheVariants as calls
use Rattle.aft_model.specs.declared.caller.Attempt.{Attempt}
use Rattle.aft_model.specs.declared.choice.Picked.TheVariants as picked
use Rattle.aft_model.specs.declared.door.DoorAct.TheVariants.{Call}
use Rattle.aft_model.specs.declared.node.NodeAct.{NodeAct}
use Rattle.aft_model.specs.declared.node.NodeAct.TheVariants.{Nothing, Select}
use Rattle.aft_model.specs.declared.script.Command.TheVariants.{Get}
use Rattle.aft_model.specs.Membership.{incarnation, same_incarnation}
use Rattle.aft_model.specs.Readings.{version_name}
use Rattle.aft_lines.specs.Advance.{advance, fetched_by, got_with, is_led_to_end, leads_to}
use Rattle.aft_lines.specs.CourseWords.{Ends, caller_of, closes, ends_at_node}
use Rattle.aft_lines.specs.GetCourse.{ends_get, fetch_course, get_after, get_course, loses}
use Rattle.aft_lines.specs.Progress.{Fetching, HasFetched, Progress}
use Rattle.aft_lines.specs.Turns.{AtDoor, AtNode, AtOffice, Turn}
use Rattle.law_courses.proofs.Ends.{led, led-closed, led-if, led-none, led-over}

module _ (key nodes : List ℕ) (ends : Ends) where
  abbrev step : Progress → Turn → Option Progress
  step = advance (Get key) nodes ends

  module _ (a : Attempt) (its : List ℕ) (id : TxnId) where
    pub fetched : (place : ℕ) (line : List Turn) → led step (λ turn. refl) (λ b turn. refl) (Some (HasFetched a its id place)) line ≡ ends_at_node a.node (closes ends a.inc (ends_get a its id place)) line
    fetched place [] = refl
    fetched place (turn ∷ line) = led-closed step (λ turn. refl) (λ b turn. refl) ends a (ends_get a its id place) turn line

    fetch_on : (turn : Turn) (line : List Turn) → led step (λ turn. refl) (λ b turn. refl) (fetched_by ends a its id turn) line ≡ fetch_course ends a its id (turn ∷ line)
    fetch_on (AtDoor place (Call node inc (calls.Get name) answer)) line =
        led-if step (λ turn. refl) (λ b turn. refl) (same_incarnation (caller_of a) (incarnation node inc) && bytes_eq (version_name its id) name) (HasFetched a its id place) line
        ∙ ap (λ (b : Bool). same_incarnation (caller_of a) (incarnation node inc) && bytes_eq (version_name its id) name && b) (fetched place line)
    fetch_on turn line = led-closed step (λ turn. refl) (λ b turn. refl) ends a (loses a its id) turn line

    pub fetching : (line : List Turn) → led step (λ turn. refl) (λ b turn. refl) (Some (Fetching a its id)) line ≡ fetch_course ends a its id line
    fetching [] = refl
    fetching (turn ∷ line) = fetch_on turn line

  by_act : (act : NodeAct) (line : List Turn) → led step (λ turn. refl) (λ b turn. refl) (got_with act) line ≡ get_after ends act line
  by_act Nothing line = led-over step (λ turn. refl) (λ b turn. refl) line
  by_act (Select a its (picked.Fetch id)) line = fetching a its id line
  by_act (Select a its pick) line = led-over step (λ turn. refl) (λ b turn. refl) line
  by_act act line = led-none step (λ turn. refl) (λ b turn. refl) line

  pub get_led : (line : List Turn) → get_course ends line ≡ is_led_to_end (leads_to (Get key) nodes ends line)
  get_led [] = refl
  get_led (AtNode node before entry ∷ line) = sym (by_act entry.act line)
  get_led (AtDoor place act ∷ line) = sym (led-none step (λ turn. refl) (λ b turn. refl) line)
  get_led (AtOffice before entry ∷ line) = sym (led-none step (λ turn. refl) (λ b turn. refl) line)
