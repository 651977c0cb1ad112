-- Lines that neither move an attempt nor read for one never stop in the middle of their course.
use Rattle.std.proofs.Common.{Bool, true, false, ◌&&◌, not, List, [], ◌∷◌, ◌++◌, ℕ}
use Rattle.std.specs.Prelude.{IsFalse, None, Option, Some, if◌then◌else◌, is_some}
use Rattle.std.specs.List.{flat_map, list_any}
use Rattle.std.specs.Str.{bytes_eq}
use Rattle.std.proofs.lemmas.Bool.{true≢false}
use Rattle.aft_keeper.specs.declared.keeper.KeeperCall.TheVariants as calls
use Rattle.aft_records.specs.declared.stored.Commit.{Commit}
use Rattle.aft_model.specs.declared.door.DoorAct.TheVariants as doors
use Rattle.aft_model.specs.declared.node.NodeAct.{NodeAct}
use Rattle.aft_model.specs.declared.node.NodeAct.TheVariants as acts
use Rattle.aft_model.specs.declared.office.OfficeAct.{OfficeAct}
use Rattle.aft_model.specs.declared.reply.Reply.{Reply}
use Rattle.aft_model.specs.declared.script.Command.{Command}
use Rattle.aft_model.specs.declared.script.Command.TheVariants as commands
use Rattle.aft_model.specs.Membership.{Incarnation, incarnation, same_incarnation, the_office}
use Rattle.aft_model.specs.Readings.{version_name}
use Rattle.aft_model.specs.Sound.{records_prefix}
use Rattle.aft_lines.specs.Advance.{GoesOn, HasEnded, Scan, advance, advance_copy, advance_orphans, advance_start, behind_boot_page, behind_copied_markers, behind_copied_records, behind_orphan_page, boot_paged, booted_by, copied_by, copies_on, desk_behind, fenced_by, goes_along, if_so, in_round, made_along, moved_at_desk, paged_by, place_of, scan_of, scanned_by, started_with, to_copy, told_at_desk, told_by_office}
use Rattle.aft_lines.specs.BackupCourse.{Copier, finds_copy, is_next_copier, tells_copy, tells_not_begun}
use Rattle.aft_lines.specs.CourseWords.{Ends, closes, ends_at_node, ends_at_office}
use Rattle.aft_lines.specs.LineCourse.{ends_boot, follows_course}
use Rattle.aft_lines.specs.OrphanCourse.{VersionAt, tells_round, versions_prefix}
use Rattle.aft_lines.specs.Progress.{Along, AtDesk, BootScan, BootScanned, CopyMarkers, CopyRecords, Copying, HasFenced, InRound, IsOver, MustComeUp, MustFence, NotBegun, OrphanScan, Progress, Scanning, Standing, Stopped}
use Rattle.aft_lines.specs.ScanCourse.{copy_limit, names_limit, versions_limit}
use Rattle.aft_lines.specs.Turns.{AtDoor, AtNode, Turn, answer_in}
use Rattle.law_claims.proofs.Parting.{either_way}
use Rattle.law_accounts.proofs.Stopping.{of_one}

-- a position is none at which a line has stopped in the middle of its course
abbrev pub GoesOrEnds : Option Progress → Type 0
GoesOrEnds None = Unit {0}
GoesOrEnds (Some (Stopped a)) = ⊥
GoesOrEnds (Some next) = Unit {0}

if_goes : (passed : Bool) (next : Progress) → GoesOrEnds (Some next) → GoesOrEnds (if_so passed next)
if_goes true next so = so
if_goes false next so = tt

told_goes : (test : OfficeAct → Option Reply → Bool) (turn : Turn) → GoesOrEnds (told_by_office test turn)
told_goes test turn = either_way GoesOrEnds (ends_at_office test (turn ∷ [])) (Some IsOver) None (λ is. tt) (λ unlike. tt)

paged_goes : (then_at : Scan → Progress) (scans : List Scan) (otherwise : Option Progress) → ((scan : Scan) → GoesOrEnds (Some (then_at scan))) → GoesOrEnds otherwise → GoesOrEnds (paged_by then_at scans otherwise)
paged_goes then_at [] otherwise each so = so
paged_goes then_at (scan ∷ scans) otherwise each so = each scan

module _ (ends : Ends) where
  -- ---- starts

  booted_goes : (who : Incarnation) (whole : Bool) (turn : Turn) → GoesOrEnds (booted_by ends who whole turn)
  booted_goes who whole turn = if_goes (ends_at_node who.node (closes ends who.inc (ends_boot who.inc whole)) (turn ∷ [])) IsOver tt

  page_goes : (scan : Scan) → GoesOrEnds (Some (behind_boot_page scan))
  page_goes (GoesOn scan) = tt
  page_goes (HasEnded whole scan) = tt

  boot_goes : (scan : Scanning) (turn : Turn) → GoesOrEnds (boot_paged ends scan turn)
  boot_goes scan turn = paged_goes behind_boot_page (scanned_by scan turn) (booted_by ends scan.who false turn) page_goes (booted_goes scan.who false turn)

  come_up_goes : (who : Incarnation) (turn : Turn) → GoesOrEnds (advance_start ends (MustComeUp who) turn)
  come_up_goes who (AtDoor place (doors.Up node inc)) = if_goes (same_incarnation who (incarnation node inc)) (BootScan (scan_of names_limit who records_prefix)) tt
  come_up_goes who turn = boot_goes (scan_of names_limit who records_prefix) turn

  start_goes : (position : Progress) (turn : Turn) → GoesOrEnds (advance_start ends position turn)
  start_goes (MustComeUp who) turn = come_up_goes who turn
  start_goes (BootScan scan) turn = boot_goes scan turn
  start_goes (BootScanned who whole) turn = booted_goes who whole turn
  start_goes position turn = tt

  started_goes : (node : ℕ) (act : NodeAct) → GoesOrEnds (started_with node act)
  started_goes node acts.Nothing = tt
  started_goes node (acts.Booting inc) = tt
  started_goes node act = tt

  first_start_goes : (home : ℕ) (nodes : List ℕ) (turn : Turn) → GoesOrEnds (advance (commands.Start home) nodes ends NotBegun turn)
  first_start_goes home nodes (AtNode node before entry) = started_goes node entry.act
  first_start_goes home nodes turn = tt

  -- ---- copies

  copies_go : (by : Copier) (left : List VersionAt) → GoesOrEnds (Some (copies_on by left))
  copies_go by [] = tt
  copies_go by (one ∷ more) = tt

  records_go : (by : Copier) (scan : Scan) → GoesOrEnds (Some (behind_copied_records by scan))
  records_go by (GoesOn scan) = tt
  records_go by (HasEnded true scan) = tt
  records_go by (HasEnded false scan) = tt

  markers_go : (by : Copier) (records : List Commit) (place : ℕ) (scan : Scan) → GoesOrEnds (Some (behind_copied_markers ends by records place scan))
  markers_go by records place (GoesOn scan) = tt
  markers_go by records place (HasEnded true scan) = copies_go by (to_copy ends by records scan.listed place)
  markers_go by records place (HasEnded false scan) = tt

  fenced_goes : (by : Copier) (whole : Bool) (turn : Turn) → GoesOrEnds (fenced_by by whole turn)
  fenced_goes by whole (AtDoor place (doors.Fence node inc)) = if_goes (same_incarnation by.who (incarnation node inc)) (HasFenced whole) tt
  fenced_goes by whole turn = tt

  copied_goes : (by : Copier) (one : VersionAt) (more : List VersionAt) (turn : Turn) → GoesOrEnds (copied_by by one more turn)
  copied_goes by one more (AtDoor place (doors.Call node inc (calls.Get name) answer)) =
      if_goes (same_incarnation by.who (incarnation node inc) && bytes_eq (version_name one.key one.id) name) (if finds_copy one answer then copies_on by more else MustFence by false)
      (either_way (λ (next : Progress). GoesOrEnds (Some next)) (finds_copy one answer) (copies_on by more) (MustFence by false) (λ is. copies_go by more) (λ unlike. tt))
  copied_goes by one more turn = fenced_goes by false turn

  first_copy_goes : (turn : Turn) → GoesOrEnds (advance_copy ends NotBegun turn)
  first_copy_goes (AtDoor place (doors.Up node inc)) =
      if_goes (is_next_copier ends place (incarnation node inc)) (CopyRecords (record { who = incarnation node inc; place = place }) (scan_of copy_limit (incarnation node inc) records_prefix)) tt
  first_copy_goes turn = told_goes tells_not_begun turn

  copy_goes : (position : Progress) (turn : Turn) → GoesOrEnds (advance_copy ends position turn)
  copy_goes NotBegun turn = first_copy_goes turn
  copy_goes (CopyRecords by scan) turn = paged_goes (behind_copied_records by) (scanned_by scan turn) (fenced_by by false turn) (records_go by) (fenced_goes by false turn)
  copy_goes (CopyMarkers by records scan) turn =
      paged_goes (behind_copied_markers ends by records (place_of turn)) (scanned_by scan turn) (fenced_by by false turn) (markers_go by records (place_of turn)) (fenced_goes by false turn)
  copy_goes (Copying by []) turn = tt
  copy_goes (Copying by (one ∷ more)) turn = copied_goes by one more turn
  copy_goes (MustFence by whole) turn = fenced_goes by whole turn
  copy_goes (HasFenced whole) turn = told_goes (tells_copy whole) turn
  copy_goes position turn = tt

  -- ---- rounds of orphans

  found_goes : (scan : Scan) → GoesOrEnds (Some (behind_orphan_page scan))
  found_goes (GoesOn scan) = tt
  found_goes (HasEnded true scan) = tt
  found_goes (HasEnded false scan) = tt

  round_goes : (desk : Option AtDesk) (standings : List Standing) → GoesOrEnds (in_round desk standings)
  round_goes desk [] = tt
  round_goes desk (standing ∷ standings) = tt

  orphans_go : (key : List ℕ) (position : Progress) (turn : Turn) → GoesOrEnds (advance_orphans key position turn)
  orphans_go key NotBegun turn =
      paged_goes behind_orphan_page (scanned_by (scan_of versions_limit the_office (versions_prefix key)) turn) (told_by_office (tells_round false) turn) found_goes (told_goes (tells_round false) turn)
  orphans_go key (OrphanScan scan) turn = paged_goes behind_orphan_page (scanned_by scan turn) (told_by_office (tells_round false) turn) found_goes (told_goes (tells_round false) turn)
  orphans_go key (InRound desk standings) turn =
      either_way GoesOrEnds (list_any (told_at_desk turn) standings) (Some IsOver) (in_round (desk_behind desk turn) (flat_map (moved_at_desk turn) standings)) (λ is. tt) (λ unlike. round_goes (desk_behind desk turn) (flat_map (moved_at_desk turn) standings))
  orphans_go key position turn = tt

  -- ---- any of these lines

  along_goes : (command : Command) (nodes : List ℕ) (made : List Turn) (turn : Turn) → GoesOrEnds (goes_along command nodes ends made turn)
  along_goes command nodes made turn =
      either_way GoesOrEnds (not (is_some (answer_in turn))) (Some (Along (made ++ turn ∷ []))) (if_so (follows_course command nodes ends (made ++ turn ∷ [])) IsOver) (λ is. tt)
      (λ answers. if_goes (follows_course command nodes ends (made ++ turn ∷ [])) IsOver tt)

  pub never_stops : (command : Command) (nodes : List ℕ) (position : Progress) (turn : Turn) → IsFalse (of_one command) → GoesOrEnds (advance command nodes ends position turn)
  never_stops (commands.Start home) nodes NotBegun turn other = first_start_goes home nodes turn
  never_stops (commands.Start home) nodes position turn other = start_goes position turn
  never_stops (commands.Orphans key) nodes NotBegun turn other = orphans_go key NotBegun turn
  never_stops (commands.Orphans key) nodes position turn other = orphans_go key position turn
  never_stops commands.Backup nodes NotBegun turn other = copy_goes NotBegun turn
  never_stops commands.Backup nodes position turn other = copy_goes position turn
  never_stops (commands.Put key value) nodes NotBegun turn other = along_goes (commands.Put key value) nodes [] turn
  never_stops (commands.Put key value) nodes position turn other = along_goes (commands.Put key value) nodes (made_along position) turn
  never_stops (commands.Crash node) nodes NotBegun turn other = along_goes (commands.Crash node) nodes [] turn
  never_stops (commands.Crash node) nodes position turn other = along_goes (commands.Crash node) nodes (made_along position) turn
  never_stops (commands.Announce node) nodes NotBegun turn other = along_goes (commands.Announce node) nodes [] turn
  never_stops (commands.Announce node) nodes position turn other = along_goes (commands.Announce node) nodes (made_along position) turn
  never_stops (commands.Deliver node) nodes NotBegun turn other = along_goes (commands.Deliver node) nodes [] turn
  never_stops (commands.Deliver node) nodes position turn other = along_goes (commands.Deliver node) nodes (made_along position) turn
  never_stops (commands.Local node) nodes NotBegun turn other = along_goes (commands.Local node) nodes [] turn
  never_stops (commands.Local node) nodes position turn other = along_goes (commands.Local node) nodes (made_along position) turn
  never_stops commands.Manager nodes NotBegun turn other = along_goes commands.Manager nodes [] turn
  never_stops commands.Manager nodes position turn other = along_goes commands.Manager nodes (made_along position) turn
  never_stops commands.Collect nodes NotBegun turn other = along_goes commands.Collect nodes [] turn
  never_stops commands.Collect nodes position turn other = along_goes commands.Collect nodes (made_along position) turn
  never_stops command nodes position turn other = absurd (true≢false other)
