-- What is left of a start.
use Rattle.std.proofs.Common.{◌≡◌, ℕ, Bool, true, false, ◌&&◌, List, [], ◌∷◌, refl, sym, ap, ◌∙◌}
use Rattle.std.specs.Prelude.{Option, Some}
use Rattle.aft_keeper.specs.declared.keeper.Pair.{Pair}
use Rattle.aft_model.specs.declared.door.DoorAct.TheVariants as doors
use Rattle.aft_model.specs.declared.node.NodeAct.{NodeAct}
use Rattle.aft_model.specs.declared.node.NodeAct.TheVariants as acts
use Rattle.aft_model.specs.declared.script.Command.TheVariants.{Start}
use Rattle.aft_model.specs.Membership.{Incarnation, incarnation, same_incarnation}
use Rattle.aft_model.specs.Sound.{records_prefix}
use Rattle.aft_lines.specs.Advance.{advance, behind_boot_page, booted_by, if_so, is_led_to_end, leads_to, scan_of, started_with}
use Rattle.aft_lines.specs.CourseWords.{Ends, closes, ends_at_node}
use Rattle.aft_lines.specs.LineCourse.{ends_boot, scan_course, start_after, start_course, up_course}
use Rattle.aft_lines.specs.Progress.{BootScan, BootScanned, IsOver, MustComeUp, Progress}
use Rattle.aft_lines.specs.ScanCourse.{names_limit, scanned_from}
use Rattle.aft_lines.specs.Turns.{AtDoor, AtNode, AtOffice, Turn}
use Rattle.law_courses.proofs.Ends.{led, led-if, led-none, led-over}
use Rattle.law_courses.proofs.Tests.{and_true}
use Rattle.law_rounds.specs.Left.{scan_at}
use Rattle.law_rounds.proofs.Scans.{IsScanning, scanning}

module _ (node : ℕ) (nodes : List ℕ) (ends : Ends) where
  abbrev step : Progress → Turn → Option Progress
  step = advance (Start node) nodes ends

  abbrev at : Option Progress → List Turn → Bool
  at position line = led step (λ turn. refl) (λ a turn. refl) position line

  -- a boot's last turn
  booted_on : (who : Incarnation) (whole : Bool) (turn : Turn) (line : List Turn) → at (booted_by ends who whole turn) line ≡ ends_at_node who.node (closes ends who.inc (ends_boot who.inc whole)) (turn ∷ line)
  booted_on who whole turn [] = led-if step (λ t. refl) (λ a t. refl) (ends_at_node who.node (closes ends who.inc (ends_boot who.inc whole)) (turn ∷ [])) IsOver [] ∙ and_true _
  booted_on who whole turn (next ∷ line) = none (ends_at_node who.node (closes ends who.inc (ends_boot who.inc whole)) (turn ∷ [])) ∙ sym (no_more turn)
    where
      none : (b : Bool) → at (if_so b IsOver) (next ∷ line) ≡ false
      none true = led-over step (λ t. refl) (λ a t. refl) (next ∷ line)
      none false = led-none step (λ t. refl) (λ a t. refl) (next ∷ line)

      no_more : (first : Turn) → ends_at_node who.node (closes ends who.inc (ends_boot who.inc whole)) (first ∷ next ∷ line) ≡ false
      no_more (AtDoor place act) = refl
      no_more (AtNode at before entry) = refl
      no_more (AtOffice before entry) = refl

  pub booting : (who : Incarnation) (whole : Bool) (line : List Turn) → at (Some (BootScanned who whole)) line ≡ ends_at_node who.node (closes ends who.inc (ends_boot who.inc whole)) line
  booting who whole [] = refl
  booting who whole (turn ∷ line) = booted_on who whole turn line

  module _ (who : Incarnation) where
    is_scanning : IsScanning step (λ turn. refl) (λ a turn. refl) names_limit who records_prefix (λ place. behind_boot_page) (booted_by ends who false) (λ place. scan_course ends who)
    is_scanning = record {
      pages = λ place after listed turn. refl;
      goes_on = λ place after listed. refl;
      ended = λ place after listed whole line. booting who whole line;
      no_turn = λ place listed. refl;
      other = λ place listed turn line. booted_on who false turn line;
    }

    pub scans : (after : List ℕ) (listed : List Pair) (line : List Turn) → at (Some (BootScan (scan_at names_limit who records_prefix after listed))) line ≡ scan_course ends who (scanned_from names_limit who records_prefix after listed line)
    scans after listed line = scanning step (λ turn. refl) (λ a turn. refl) names_limit who records_prefix (λ place. behind_boot_page) (booted_by ends who false) (λ place. scan_course ends who) is_scanning 0 after listed line

    pub coming_up : (line : List Turn) → at (Some (MustComeUp who)) line ≡ up_course ends who line
    coming_up [] = refl
    coming_up (AtDoor place (doors.Up at_node inc) ∷ line) =
        led-if step (λ turn. refl) (λ a turn. refl) (same_incarnation who (incarnation at_node inc)) (BootScan (scan_of names_limit who records_prefix)) line
        ∙ ap (λ (b : Bool). same_incarnation who (incarnation at_node inc) && b) (scans [] [] line)
    coming_up (turn ∷ line) = scans [] [] (turn ∷ line)

  by_act : (here : ℕ) (act : NodeAct) (line : List Turn) → at (started_with here act) line ≡ start_after ends here act line
  by_act here acts.Nothing line = led-over step (λ turn. refl) (λ a turn. refl) line
  by_act here (acts.Booting inc) line = coming_up (incarnation here inc) line
  by_act here act line = led-none step (λ turn. refl) (λ a turn. refl) line

  pub start_led : (line : List Turn) → start_course ends line ≡ is_led_to_end (leads_to (Start node) nodes ends line)
  start_led [] = refl
  start_led (AtNode here before entry ∷ line) = sym (by_act here entry.act line)
  start_led (AtDoor place act ∷ line) = sym (led-none step (λ turn. refl) (λ a turn. refl) line)
  start_led (AtOffice before entry ∷ line) = sym (led-none step (λ turn. refl) (λ a turn. refl) line)
