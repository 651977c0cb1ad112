-- The course of the opening: what the office reads until the door is open, and then one boot of each node, in order.
use Rattle.std.specs.Prelude.{Bool, List, [], false, if◌then◌else◌, true, ℕ, ◌&&◌, ◌==◌, ◌||◌, ◌∷◌}
use Rattle.aft_model.specs.declared.node.NodeAct.{NodeAct}
use Rattle.aft_model.specs.declared.node.NodeAct.TheVariants.{Boot, Booting}
use Rattle.aft_model.specs.DoorKnowledge.{opens}
use Rattle.aft_model.specs.Membership.{Incarnation, incarnation, same_incarnation}
use Rattle.aft_model.specs.Sound.{records_prefix}
use Rattle.aft_lines.specs.CourseWords.{is_over}
use Rattle.aft_lines.specs.ScanCourse.{Scanned, names_limit, scanned}
use Rattle.aft_lines.specs.Turns.{AtDoor, AtNode, Turn}
use Rattle.aft_model.specs.declared.door.DoorAct.TheVariants as door_acts

-- whether an act is the boot of this incarnation
abbrev pub is_boot : ℕ → NodeAct → Bool
is_boot inc (Boot other commits) = inc == other
is_boot inc act = false

-- whether the boot of an incarnation serves, and the rest of the opening follows
abbrev pub boot_end_course : Incarnation → (List Turn → Bool) → List Turn → Bool
boot_end_course who go_on (AtNode node before entry ∷ line) = node == who.node && is_boot who.inc entry.act && go_on line
boot_end_course who go_on line = false

-- behind a whole scan run: the boot serves
abbrev pub boot_scan_course : Incarnation → (List Turn → Bool) → Scanned → Bool
boot_scan_course who go_on pages = pages.is_whole && boot_end_course who go_on pages.behind

-- an incarnation comes up and scans the records
abbrev pub boot_up_course : Incarnation → (List Turn → Bool) → List Turn → Bool
boot_up_course who go_on (AtDoor place (door_acts.Up node inc) ∷ line) = same_incarnation who (incarnation node inc) && boot_scan_course who go_on (scanned names_limit who records_prefix line)
boot_up_course who go_on line = false

-- the first turn of a boot, by its act
abbrev pub boot_course : ℕ → (List Turn → Bool) → NodeAct → List Turn → Bool
boot_course node go_on (Booting inc) line = boot_up_course (incarnation node inc) go_on line
boot_course node go_on act line = false

-- one boot of each of these nodes, in order, and nothing else
abbrev pub boots_course : List ℕ → List Turn → Bool
boots_course [] line = is_over line
boots_course (node ∷ nodes) (AtNode at before entry ∷ line) = node == at && boot_course node (boots_course nodes) entry.act line
boots_course (node ∷ nodes) line = false

-- what the office reads until the door is open, and then the boots
abbrev pub opening_course : List ℕ → List Turn → Bool
opening_course nodes (AtDoor place act ∷ line) = if opens act then boots_course nodes line else opening_course nodes line
opening_course nodes line = false

-- ---- an opening that was refused

-- whether the turns behind a scan run of a boot are over, or it was whole and the rest of the opening follows
abbrev pub boot_scan_so_far : (List Turn → Bool) → Scanned → Bool
boot_scan_so_far go_on pages = is_over pages.behind || pages.is_whole && go_on pages.behind

-- the beginning of one boot of each of these nodes, in order, at the door alone: each comes up and scans the records. It may end after any turn
abbrev pub boots_so_far : List ℕ → List Turn → Bool
boots_so_far nodes [] = true
boots_so_far (node ∷ nodes) (AtDoor place (door_acts.Up at inc) ∷ line) =
    node == at && inc == 1 && boot_scan_so_far (boots_so_far nodes) (scanned names_limit (incarnation node inc) records_prefix line)
boots_so_far nodes line = false

-- the beginning of an opening, at the door alone: what the office reads until the door is open, and the beginning of the boots. It may end after any turn
abbrev pub opens_so_far : List ℕ → List Turn → Bool
opens_so_far nodes [] = true
opens_so_far nodes (AtDoor place act ∷ line) = if opens act then boots_so_far nodes line else opens_so_far nodes line
opens_so_far nodes line = false

-- ---- an opening on its way

-- behind the turns of a boot so far: the boot serves, and the rest of the opening follows
abbrev pub boot_end_begins : Incarnation → (List Turn → Bool) → List Turn → Bool
boot_end_begins who go_on line = is_over line || boot_end_course who go_on line

-- a scan run of a boot on its way; where it was whole the boot serves
abbrev pub boot_scan_begins : Incarnation → (List Turn → Bool) → Scanned → Bool
boot_scan_begins who go_on pages = if pages.is_whole then boot_end_begins who go_on pages.behind else is_over pages.behind

-- an incarnation is to come up, and scans the records
abbrev pub boot_up_begins : Incarnation → (List Turn → Bool) → List Turn → Bool
boot_up_begins who go_on [] = true
boot_up_begins who go_on (AtDoor place (door_acts.Up node inc) ∷ line) = same_incarnation who (incarnation node inc) && boot_scan_begins who go_on (scanned names_limit who records_prefix line)
boot_up_begins who go_on line = false

-- the beginning of a boot, by the act of its first turn
abbrev pub boot_begins : ℕ → (List Turn → Bool) → NodeAct → List Turn → Bool
boot_begins node go_on (Booting inc) line = boot_up_begins (incarnation node inc) go_on line
boot_begins node go_on act line = false

-- the beginning of one boot of each of these nodes, in order. It may end after any turn
abbrev pub boots_begin : List ℕ → List Turn → Bool
boots_begin nodes [] = true
boots_begin (node ∷ nodes) (AtNode at before entry ∷ line) = node == at && boot_begins node (boots_begin nodes) entry.act line
boots_begin nodes line = false

-- the beginning of an opening, or the whole of it
abbrev pub opening_begins : List ℕ → List Turn → Bool
opening_begins nodes [] = true
opening_begins nodes (AtDoor place act ∷ line) = if opens act then boots_begin nodes line else opening_begins nodes line
opening_begins nodes line = false
