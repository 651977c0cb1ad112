-- The desk of the office: what a round of orphans holds at each of its positions.
use Rattle.std.specs.Prelude.{Bool, IsFalse, IsTrue, List, None, Option, Some, false, is_none, true, ℕ, ◌&&◌, ◌≡◌}
use Rattle.std.specs.List.{list_all}
use Rattle.std.specs.Str.{bytes_eq}
use Rattle.aft_model.specs.declared.caller.By.{By}
use Rattle.aft_model.specs.declared.door.DoorAct.{DoorAct}
use Rattle.aft_model.specs.declared.door.DoorAct.TheVariants as doors
use Rattle.aft_model.specs.declared.door.DoorEntry.{DoorEntry}
use Rattle.aft_model.specs.Claims.{claimant, is_claim_of, is_held_by}
use Rattle.aft_model.specs.History.{last_place}
use Rattle.aft_model.specs.Membership.{incarnation, same_incarnation, the_office}
use Rattle.aft_model.specs.ScanRun.{same_line}
use Rattle.aft_lines.specs.Progress.{AtDesk, HasLeft, Holds, InRound, LookedOnce, LookedTwice, MustFree, MustTell, Progress, Standing}
use Rattle.aft_lines.specs.Turns.{AtDoor, Turn}

-- whether a round that holds this, or nothing, may stand so: with versions left it holds nothing, and behind a claim the UUID of the version that it is at
abbrev pub stands_so : Option AtDesk → Standing → Bool
stands_so None (HasLeft left) = true
stands_so None MustTell = true
stands_so (Some desk) (Holds held) = bytes_eq held.one.id.uuid desk.uuid
stands_so (Some desk) (LookedOnce held) = bytes_eq held.one.id.uuid desk.uuid
stands_so (Some desk) (LookedTwice held) = bytes_eq held.one.id.uuid desk.uuid
stands_so (Some desk) (MustFree goes_on held) = bytes_eq held.one.id.uuid desk.uuid
stands_so desk standing = false

-- whether each way in which a round may stand goes with what it holds
abbrev pub is_desk_row : Progress → Bool
is_desk_row (InRound desk standings) = list_all (stands_so desk) standings
is_desk_row position = true

-- whether a round holds this UUID
abbrev pub has_at_desk : Option AtDesk → List ℕ → Bool
has_at_desk None uuid = false
has_at_desk (Some desk) uuid = bytes_eq desk.uuid uuid

-- whether a turn goes with what a round holds: as the office it claims only while it holds nothing, and lets go only what it holds
abbrev pub is_at_desk : Option AtDesk → Turn → Bool
is_at_desk desk (AtDoor place (doors.Claim uuid node inc)) = is_none desk && same_incarnation the_office (incarnation node inc)
is_at_desk desk (AtDoor place (doors.Release uuid node inc)) = has_at_desk desk uuid && same_incarnation the_office (incarnation node inc)
is_at_desk desk turn = true

-- ---- at a moment

-- how a UUID lies at the desk, by the door's history and by what each line holds: no line holds it, and the office has no claim of it that stands; or just one line does, and its place is that of the last claim, the office's, which stands
pub data LiesAtDesk (door : List DoorEntry) (desk : By → Option AtDesk) (uuid : List ℕ) : Type 0 where
  IsNotHeld : ((by : By) → IsFalse (has_at_desk (desk by) uuid)) → IsFalse (is_held_by the_office (claimant uuid door)) → LiesAtDesk door desk uuid
  IsHeldBy : (by : By) (held : AtDesk) → desk by ≡ Some held → held.uuid ≡ uuid → IsTrue (is_held_by the_office (claimant uuid door)) → last_place (λ entry. is_claim_of uuid entry.act) door ≡ Some held.place → ((other : By) → IsFalse (same_line by other) → IsFalse (has_at_desk (desk other) uuid)) → LiesAtDesk door desk uuid

-- whether an act is a claim or a release by the office
abbrev pub is_of_desk : DoorAct → Bool
is_of_desk (doors.Claim uuid node inc) = same_incarnation the_office (incarnation node inc)
is_of_desk (doors.Release uuid node inc) = same_incarnation the_office (incarnation node inc)
is_of_desk act = false
