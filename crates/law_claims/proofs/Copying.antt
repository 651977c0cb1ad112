-- What a turn of a copy makes of the incarnation that it has up.
use Rattle.std.proofs.Common.{◌≡◌, ℕ, Bool, true, false, ◌&&◌, List, [], ◌∷◌, refl, sym, subst, ◌∙◌, eqb}
use Rattle.std.specs.Prelude.{IsTrue, None, Option, Some, if◌then◌else◌}
use Rattle.std.specs.Str.{bytes_eq}
use Rattle.std.proofs.lemmas.Bool.{and_parts}
use Rattle.aft_keeper.specs.declared.keeper.KeeperAnswer.{KeeperAnswer}
use Rattle.aft_keeper.specs.declared.keeper.KeeperCall.{KeeperCall}
use Rattle.aft_keeper.specs.declared.keeper.KeeperCall.TheVariants as calls
use Rattle.aft_records.specs.declared.stored.Commit.{Commit}
use Rattle.aft_model.specs.declared.door.DoorAct.TheVariants as doors
use Rattle.aft_model.specs.declared.office.OfficeAct.{OfficeAct}
use Rattle.aft_model.specs.declared.reply.Reply.{Reply}
use Rattle.aft_model.specs.declared.script.Command.TheVariants as commands
use Rattle.aft_model.specs.Membership.{Incarnation, incarnation, same_incarnation}
use Rattle.aft_model.specs.Readings.{version_name}
use Rattle.aft_model.specs.Sound.{records_prefix}
use Rattle.aft_lines.specs.Advance.{Scan, GoesOn, HasEnded, advance, advance_copy, behind_copied_markers, behind_copied_records, copied_by, copies_on, fenced_by, paged_by, place_of, scan_of, scanned_by, to_copy, told_by_office}
use Rattle.aft_lines.specs.BackupCourse.{Copier, copier, finds_copy, is_next_copier, tells_copy, tells_not_begun}
use Rattle.aft_lines.specs.CourseWords.{Ends, ends_at_office}
use Rattle.aft_lines.specs.OrphanCourse.{VersionAt}
use Rattle.aft_lines.specs.Progress.{CopyMarkers, CopyRecords, Copying, HasFenced, IsOver, MustFence, NotBegun, Progress, Scanning}
use Rattle.aft_lines.specs.ScanCourse.{copy_limit}
use Rattle.aft_lines.specs.Turns.{AtDoor, AtOffice, Turn}
use Rattle.law_claims.specs.Copying.{copier_at, copier_behind, is_of_copier, is_the_copier}
use Rattle.law_claims.proofs.Parting.{either_way}

-- what a turn makes of a position's copier, if it leads somewhere
record Copies (position : Progress) (turn : Turn) (next : Progress) : Type 0 where
  pub who : copier_at next ≡ copier_behind (copier_at position) turn
  pub turns : IsTrue (is_of_copier (copier_at position) turn)

abbrev CopiesIf : Progress → Turn → Option Progress → Type 0
CopiesIf position turn None = Unit {0}
CopiesIf position turn (Some next) = Copies position turn next

module _ (ends : Ends) where
  -- a fence of the copier
  fence_copies : (by : Copier) (whole : Bool) (position : Progress) → copier_at position ≡ Some by.who → (turn : Turn) → CopiesIf position turn (fenced_by by whole turn)
  fence_copies by whole position is (AtDoor place (doors.Fence node inc)) =
      either_way (CopiesIf position (AtDoor place (doors.Fence node inc))) (same_incarnation by.who (incarnation node inc)) (Some (HasFenced whole)) None
      (λ same. record { who = refl; turns = subst (λ (w : Option Incarnation). IsTrue (is_the_copier w (incarnation node inc))) (sym is) same }) (λ unlike. tt)
  fence_copies by whole position is turn = tt

  -- the end at the office, where none is up
  office_copies : (position : Progress) → copier_at position ≡ None → (test : OfficeAct → Option Reply → Bool) (turn : Turn) → CopiesIf position turn (told_by_office test turn)
  office_copies position none test (AtOffice before entry) = either_way (CopiesIf position (AtOffice before entry)) (ends_at_office test (AtOffice before entry ∷ [])) (Some IsOver) None (λ so. record { who = sym none; turns = refl }) (λ unlike. tt)
  office_copies position none test turn = tt

  -- a page, and what follows
  page_copies : (by : Copier) (position : Progress) → copier_at position ≡ Some by.who → (behind : Scan → Progress) → ((scan : Scan) → copier_at (behind scan) ≡ Some by.who) → (place node inc : ℕ) (asked : KeeperCall) (answer : KeeperAnswer) (scans : List Scan)
      → CopiesIf position (AtDoor place (doors.Call node inc asked answer)) (paged_by behind scans None)
  page_copies by position is behind keeps place node inc asked answer [] = tt
  page_copies by position is behind keeps place node inc asked answer (scan ∷ scans) = record { who = keeps scan ∙ sym is; turns = refl }

  scan_copies : (by : Copier) (position : Progress) → copier_at position ≡ Some by.who → (behind : Scan → Progress) → ((scan : Scan) → copier_at (behind scan) ≡ Some by.who) → (scan : Scanning) (turn : Turn) → CopiesIf position turn (paged_by behind (scanned_by scan turn) (fenced_by by false turn))
  scan_copies by position is behind keeps scan (AtDoor place (doors.Call node inc (calls.Scan prefix after limit) answer)) =
      page_copies by position is behind keeps place node inc (calls.Scan prefix after limit) answer (scanned_by scan (AtDoor place (doors.Call node inc (calls.Scan prefix after limit) answer)))
  scan_copies by position is behind keeps scan (AtDoor place (doors.Fence node inc)) = fence_copies by false position is (AtDoor place (doors.Fence node inc))
  scan_copies by position is behind keeps scan turn = tt

  records_keep : (by : Copier) (scan : Scan) → copier_at (behind_copied_records by scan) ≡ Some by.who
  records_keep by (GoesOn scan) = refl
  records_keep by (HasEnded true scan) = refl
  records_keep by (HasEnded false scan) = refl

  on_keeps : (by : Copier) (left : List VersionAt) → copier_at (copies_on by left) ≡ Some by.who
  on_keeps by [] = refl
  on_keeps by (one ∷ left) = refl

  markers_keep : (by : Copier) (records : List Commit) (place : ℕ) (scan : Scan) → copier_at (behind_copied_markers ends by records place scan) ≡ Some by.who
  markers_keep by records place (GoesOn scan) = refl
  markers_keep by records place (HasEnded true scan) = on_keeps by (to_copy ends by records scan.listed place)
  markers_keep by records place (HasEnded false scan) = refl

  -- a version that is copied
  version_copies : (by : Copier) (one : VersionAt) (more : List VersionAt) (turn : Turn) → CopiesIf (Copying by (one ∷ more)) turn (copied_by by one more turn)
  version_copies by one more (AtDoor place (doors.Call node inc (calls.Get name) answer)) =
      either_way (CopiesIf (Copying by (one ∷ more)) (AtDoor place (doors.Call node inc (calls.Get name) answer))) (same_incarnation by.who (incarnation node inc) && bytes_eq (version_name one.key one.id) name) (Some (if finds_copy one answer then copies_on by more else MustFence by false)) None
      (λ so. record { who = cases (finds_copy one answer); turns = refl }) (λ unlike. tt)
    where
      cases : (found : Bool) → copier_at (if found then copies_on by more else MustFence by false) ≡ Some by.who
      cases true = on_keeps by more
      cases false = refl
  version_copies by one more (AtDoor place (doors.Fence node inc)) = fence_copies by false (Copying by (one ∷ more)) refl (AtDoor place (doors.Fence node inc))
  version_copies by one more turn = tt

  up_copies : (turn : Turn) → CopiesIf NotBegun turn (advance_copy ends NotBegun turn)
  up_copies (AtDoor place (doors.Up node inc)) =
      either_way (CopiesIf NotBegun (AtDoor place (doors.Up node inc))) (is_next_copier ends place (incarnation node inc)) (Some (CopyRecords (record { who = incarnation node inc; place = place }) (scan_of copy_limit (incarnation node inc) records_prefix))) None
      (λ so. record { who = refl; turns = (and_parts (eqb node copier) _ so).0 }) (λ unlike. tt)
  up_copies turn = office_copies NotBegun refl tells_not_begun turn

  copy_copies : (position : Progress) (turn : Turn) → CopiesIf position turn (advance_copy ends position turn)
  copy_copies NotBegun turn = up_copies turn
  copy_copies (CopyRecords by scan) turn = scan_copies by (CopyRecords by scan) refl (behind_copied_records by) (records_keep by) scan turn
  copy_copies (CopyMarkers by records scan) turn = scan_copies by (CopyMarkers by records scan) refl (behind_copied_markers ends by records (place_of turn)) (markers_keep by records (place_of turn)) scan turn
  copy_copies (Copying by (one ∷ more)) turn = version_copies by one more turn
  copy_copies (MustFence by whole) turn = fence_copies by whole (MustFence by whole) refl turn
  copy_copies (HasFenced whole) turn = office_copies (HasFenced whole) refl (tells_copy whole) turn
  copy_copies position turn = tt

line_copies : (nodes : List ℕ) (ends : Ends) (position : Progress) (turn : Turn) → CopiesIf position turn (advance commands.Backup nodes ends position turn)
line_copies nodes ends NotBegun turn = copy_copies ends NotBegun turn
line_copies nodes ends position turn = copy_copies ends position turn

pub copier_follows : (nodes : List ℕ) (ends : Ends) (position next : Progress) (turn : Turn) → advance commands.Backup nodes ends position turn ≡ Some next → (copier_at next ≡ copier_behind (copier_at position) turn) × IsTrue (is_of_copier (copier_at position) turn)
copier_follows nodes ends position next turn e = (let it = subst (CopiesIf position turn) e (line_copies nodes ends position turn) in (it.who, it.turns))
