-- What is left of a copy.
use Rattle.std.proofs.Common.{◌≡◌, ◌++◌, ℕ, Bool, true, false, ◌&&◌, not, List, [], ◌∷◌, refl, sym, ap, ◌∙◌, append_assoc}
use Rattle.std.specs.Prelude.{Option, Some, None, if◌then◌else◌}
use Rattle.std.specs.Str.{bytes_eq}
use Rattle.aft_keeper.specs.declared.keeper.KeeperCall.TheVariants.{Get}
use Rattle.aft_keeper.specs.declared.keeper.Pair.{Pair}
use Rattle.aft_records.specs.declared.stored.Commit.{Commit}
use Rattle.aft_model.specs.declared.door.DoorAct.TheVariants as doors
use Rattle.aft_model.specs.declared.office.OfficeAct.{OfficeAct}
use Rattle.aft_model.specs.declared.reply.Reply.{Reply}
use Rattle.aft_model.specs.declared.script.Command.TheVariants.{Backup}
use Rattle.aft_model.specs.Membership.{incarnation, same_incarnation}
use Rattle.aft_model.specs.Readings.{version_name}
use Rattle.aft_model.specs.Sound.{markers_prefix, recorded, records_prefix}
use Rattle.aft_lines.specs.Advance.{HasEnded, advance, behind_copied_markers, behind_copied_records, copies_on, fenced_by, if_so, is_led_to_end, leads_to, scan_of, to_copy, told_by_office}
use Rattle.aft_lines.specs.BackupCourse.{Copier, backup_course, behind_markers, copied_markers, copied_records, copies, copy_course, fence_course, finds_copy, is_next_copier, last_door_place, stopped_copy, tells_copy, tells_not_begun}
use Rattle.aft_lines.specs.CourseWords.{Ends, ends_at_office}
use Rattle.aft_lines.specs.OrphanCourse.{VersionAt}
use Rattle.aft_lines.specs.Progress.{CopyMarkers, CopyRecords, HasFenced, IsOver, MustFence, Progress}
use Rattle.aft_lines.specs.ScanCourse.{copy_limit, names_limit}
use Rattle.aft_lines.specs.Turns.{AtDoor, AtNode, AtOffice, Turn}
use Rattle.law_courses.proofs.Ends.{led, led-if, led-none, led-over}
use Rattle.law_courses.proofs.Tests.{and_true}
use Rattle.law_rounds.specs.Left.{behind_markers_scan, behind_records_scan, left_of_markers, left_of_records, left_of_versions, place_before, scan_at}
use Rattle.law_rounds.proofs.Scans.{IsScanning, before_rest, scanning, suffix}

-- ---- places

place_along : (place : ℕ) (one more : List Turn) → last_door_place place (one ++ more) ≡ last_door_place (last_door_place place one) more
place_along place [] more = refl
place_along place (AtDoor here act ∷ one) more = place_along here one more
place_along place (AtNode node before entry ∷ one) more = place_along place one more
place_along place (AtOffice before entry ∷ one) more = place_along place one more

-- the last place before a rest of a rest
place_through : (place : ℕ) (first second rest : List Turn) → place_before place rest (first ++ (second ++ rest)) ≡ place_before (place_before place (second ++ rest) (first ++ (second ++ rest))) rest (second ++ rest)
place_through place first second rest =
    ap (λ (l : List Turn). place_before place rest l) (sym (append_assoc first second rest))
    ∙ ap (λ (l : List Turn). last_door_place place l) (before_rest (first ++ second) rest)
    ∙ place_along place first second
    ∙ sym (ap (λ (l : List Turn). last_door_place (place_before place (second ++ rest) (first ++ (second ++ rest))) l) (before_rest second rest)
    ∙ ap (λ (l : List Turn). last_door_place (last_door_place place l) second) (before_rest first (second ++ rest)))

module _ (nodes : List ℕ) (ends : Ends) where
  abbrev step : Progress → Turn → Option Progress
  step = advance Backup nodes ends

  abbrev at : Option Progress → List Turn → Bool
  at position line = led step (λ turn. refl) (λ a turn. refl) position line

  -- ---- the answer, and the fence

  told_on : (test : OfficeAct → Option Reply → Bool) (turn : Turn) (line : List Turn) → at (told_by_office test turn) line ≡ ends_at_office test (turn ∷ line)
  told_on test turn [] = led-if step (λ t. refl) (λ a t. refl) (ends_at_office test (turn ∷ [])) IsOver [] ∙ and_true _
  told_on test turn (next ∷ line) = none (ends_at_office test (turn ∷ [])) ∙ sym (no_more turn)
    where
      none : (b : Bool) → at (if_so b IsOver) (next ∷ line) ≡ false
      none true = led-over step (λ t. refl) (λ a t. refl) (next ∷ line)
      none false = led-none step (λ t. refl) (λ a t. refl) (next ∷ line)

      no_more : (first : Turn) → ends_at_office test (first ∷ next ∷ line) ≡ false
      no_more (AtDoor place act) = refl
      no_more (AtNode node before entry) = refl
      no_more (AtOffice before entry) = refl

  pub fenced : (whole : Bool) (line : List Turn) → at (Some (HasFenced whole)) line ≡ ends_at_office (tells_copy whole) line
  fenced whole [] = refl
  fenced whole (turn ∷ line) = told_on (tells_copy whole) turn line

  module _ (by : Copier) where
    fence_on : (whole : Bool) (turn : Turn) (line : List Turn) → at (fenced_by by whole turn) line ≡ fence_course by.who whole (turn ∷ line)
    fence_on whole (AtDoor place (doors.Fence node inc)) line =
        led-if step (λ t. refl) (λ a t. refl) (same_incarnation by.who (incarnation node inc)) (HasFenced whole) line
        ∙ ap (λ (b : Bool). same_incarnation by.who (incarnation node inc) && b) (fenced whole line)
    fence_on whole turn line = led-none step (λ t. refl) (λ a t. refl) line

    pub fencing : (whole : Bool) (line : List Turn) → at (Some (MustFence by whole)) line ≡ fence_course by.who whole line
    fencing whole [] = refl
    fencing whole (turn ∷ line) = fence_on whole turn line

    -- ---- the versions

    pub copying : (names : List VersionAt) (line : List Turn) → at (Some (copies_on by names)) line ≡ left_of_versions by names line
    copying [] line = fencing true line
    copying (one ∷ more) [] = refl
    copying (one ∷ more) (AtDoor place (doors.Call node inc (Get name) answer) ∷ line) = parts (same_incarnation by.who (incarnation node inc) && bytes_eq (version_name one.key one.id) name) (finds_copy one answer) (copying more line)
      where
        parts : (own found : Bool) → at (Some (copies_on by more)) line ≡ left_of_versions by more line
            → at (if own then Some (if found then copies_on by more else MustFence by false) else None) line
            ≡ fence_course by.who
            (if own then (if found then copies by.who more line else record { is_whole = false; behind = line }) else record { is_whole = false; behind = AtDoor place (doors.Call node inc (Get name) answer) ∷ line }).is_whole
            (if own then (if found then copies by.who more line else record { is_whole = false; behind = line }) else record { is_whole = false; behind = AtDoor place (doors.Call node inc (Get name) answer) ∷ line }).behind
        parts true true go_on = go_on
        parts true false go_on = fencing false line
        parts false found go_on = led-none step (λ t. refl) (λ a t. refl) line
    copying (one ∷ more) (turn ∷ line) = fence_on false turn line

    -- ---- the scans

    module _ (records : List Commit) where
      is_marker_scan : IsScanning step (λ turn. refl) (λ a turn. refl) names_limit by.who markers_prefix (behind_copied_markers ends by records) (fenced_by by false) (behind_markers_scan ends by records)
      is_marker_scan = record {
        pages = λ place after listed turn. refl;
        goes_on = λ place after listed. refl;
        ended = λ place after listed whole line. marker_end place after listed whole line;
        no_turn = λ place listed. refl;
        other = λ place listed turn line. fence_on false turn line;
      }
        where
          marker_end : (place : ℕ) (after : List ℕ) (listed : List Pair) (whole : Bool) (line : List Turn)
              → at (Some (behind_copied_markers ends by records place (HasEnded whole (scan_at names_limit by.who markers_prefix after listed)))) line
              ≡ behind_markers_scan ends by records place (record { listed = listed; is_whole = whole; behind = line })
          marker_end place after listed true line = copying (to_copy ends by records listed place) line
          marker_end place after listed false line = fencing false line

      pub marker_scan : (place : ℕ) (after : List ℕ) (listed : List Pair) (line : List Turn) → at (Some (CopyMarkers by records (scan_at names_limit by.who markers_prefix after listed))) line ≡ left_of_markers ends by records place after listed line
      marker_scan place after listed line =
          scanning step (λ turn. refl) (λ a turn. refl) names_limit by.who markers_prefix (behind_copied_markers ends by records) (fenced_by by false) (behind_markers_scan ends by records) is_marker_scan place after listed line

    is_record_scan : IsScanning step (λ turn. refl) (λ a turn. refl) copy_limit by.who records_prefix (λ place. behind_copied_records by) (fenced_by by false) (behind_records_scan ends by)
    is_record_scan = record {
      pages = λ place after listed turn. refl;
      goes_on = λ place after listed. refl;
      ended = λ place after listed whole line. record_end place after listed whole line;
      no_turn = λ place listed. refl;
      other = λ place listed turn line. fence_on false turn line;
    }
      where
        record_end : (place : ℕ) (after : List ℕ) (listed : List Pair) (whole : Bool) (line : List Turn)
            → at (Some (behind_copied_records by (HasEnded whole (scan_at copy_limit by.who records_prefix after listed)))) line
            ≡ behind_records_scan ends by place (record { listed = listed; is_whole = whole; behind = line })
        record_end place after listed true line = marker_scan (recorded listed) place [] [] line
        record_end place after listed false line = fencing false line

    pub record_scan : (place : ℕ) (after : List ℕ) (listed : List Pair) (line : List Turn) → at (Some (CopyRecords by (scan_at copy_limit by.who records_prefix after listed))) line ≡ left_of_records ends by place after listed line
    record_scan place after listed line =
        scanning step (λ turn. refl) (λ a turn. refl) copy_limit by.who records_prefix (λ place. behind_copied_records by) (fenced_by by false) (behind_records_scan ends by) is_record_scan place after listed line

    -- ---- the whole

    -- the last place before what is behind both scans
    both_places : (line : List Turn) → place_before by.place (copied_markers by line).behind line
        ≡ place_before (place_before by.place (copied_records by line).behind line) (copied_markers by line).behind (copied_records by line).behind
    both_places line =
        through (copied_records by line).behind (copied_markers by line).behind (suffix copy_limit by.who records_prefix [] [] line) (suffix names_limit by.who markers_prefix [] [] (copied_records by line).behind)
      where
        through : (middle rest : List Turn) → (one : (before : List Turn) × (line ≡ before ++ middle)) → (two : (before : List Turn) × (middle ≡ before ++ rest))
            → place_before by.place rest line ≡ place_before (place_before by.place middle line) rest middle
        through middle rest one two =
            let whole : line ≡ one.0 ++ (two.0 ++ rest) = one.1 ∙ ap (λ (l : List Turn). one.0 ++ l) two.1 in
            ap (λ (l : List Turn). place_before by.place rest l) whole
            ∙ place_through by.place one.0 two.0 rest
            ∙ ap (λ (l : List Turn). place_before (place_before by.place l (one.0 ++ (two.0 ++ rest))) rest l) (sym two.1)
            ∙ ap (λ (l : List Turn). place_before (place_before by.place middle l) rest middle) (sym whole)

    -- the versions that a copy gets, once its last page of markers stands at a place
    abbrev names : List Turn → ℕ → List VersionAt
    names line place = to_copy ends by (recorded (copied_records by line).listed) (copied_markers by line).listed place

    whole_copy : (line : List Turn) → left_of_records ends by by.place [] [] line ≡ copy_course ends by line
    whole_copy line = parts (copied_records by line).is_whole (copied_markers by line).is_whole (place_before (place_before by.place (copied_records by line).behind line) (copied_markers by line).behind (copied_records by line).behind) (sym (both_places line))
      where
        parts : (records markers : Bool) (place : ℕ) → place ≡ place_before by.place (copied_markers by line).behind line
            → (if records then (if markers then left_of_versions by (names line place) (copied_markers by line).behind else fence_course by.who false (copied_markers by line).behind) else fence_course by.who false (copied_records by line).behind)
            ≡ fence_course by.who
            (if not records then stopped_copy (copied_records by line).behind else if not markers then stopped_copy (copied_markers by line).behind else behind_markers ends by line).is_whole
            (if not records then stopped_copy (copied_records by line).behind else if not markers then stopped_copy (copied_markers by line).behind else behind_markers ends by line).behind
        parts true true place e = ap (λ (p : ℕ). left_of_versions by (names line p) (copied_markers by line).behind) e
        parts true false place e = refl
        parts false markers place e = refl

  pub backup_led : (line : List Turn) → backup_course ends line ≡ is_led_to_end (leads_to Backup nodes ends line)
  backup_led [] = refl
  backup_led (AtDoor place (doors.Up node inc) ∷ line) =
      sym (led-if step (λ t. refl) (λ a t. refl) (is_next_copier ends place (incarnation node inc)) (CopyRecords (record { who = incarnation node inc; place = place }) (scan_of copy_limit (incarnation node inc) records_prefix)) line
      ∙ ap (λ (b : Bool). is_next_copier ends place (incarnation node inc) && b)
      (record_scan (record { who = incarnation node inc; place = place }) place [] [] line ∙ whole_copy (record { who = incarnation node inc; place = place }) line))
  backup_led (turn ∷ line) = sym (told_on tells_not_begun turn line)
