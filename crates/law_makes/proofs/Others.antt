-- The steps of starts, copies and rounds of orphans.
use Rattle.std.proofs.Common.{◌≡◌, ◌++◌, ℕ, Bool, true, false, ◌&&◌, ◌||◌, eqb, List, [], ◌∷◌, refl, sym, inl, inr, ◌⊎◌, ◌∙◌, arith}
use Rattle.std.specs.Prelude.{IsTrue, Option, Some, None, if◌then◌else◌}
use Rattle.std.specs.List.{flat_map, list_any}
use Rattle.std.specs.Str.{bytes_eq}
use Rattle.std.proofs.lemmas.Bool.{and_from, and_parts, eq-eqb, eqb-true, or_cases, or_left, or_right}
use Rattle.aft_keeper.specs.declared.keeper.KeeperAnswer.{KeeperAnswer}
use Rattle.aft_keeper.specs.declared.keeper.KeeperAnswer.TheVariants.{Page}
use Rattle.aft_keeper.specs.declared.keeper.KeeperCall.TheVariants as calls
use Rattle.aft_keeper.specs.declared.keeper.Pair.{Pair}
use Rattle.aft_records.specs.declared.stored.Commit.{Commit}
use Rattle.aft_model.specs.declared.door.DoorAct.TheVariants as doors
use Rattle.aft_model.specs.declared.node.NodeAct.{NodeAct}
use Rattle.aft_model.specs.declared.node.NodeAct.TheVariants as acts
use Rattle.aft_model.specs.declared.node.NodeEntry.{NodeEntry}
use Rattle.aft_model.specs.declared.office.OfficeAct.{OfficeAct}
use Rattle.aft_model.specs.declared.office.OfficeAct.TheVariants as office_acts
use Rattle.aft_model.specs.declared.office.OfficeEntry.{OfficeEntry}
use Rattle.aft_model.specs.declared.reply.Reply.{Reply}
use Rattle.aft_model.specs.declared.reply.Reply.TheVariants as replies
use Rattle.aft_model.specs.declared.script.Command.TheVariants as commands
use Rattle.aft_model.specs.Membership.{Incarnation, incarnation, same_incarnation, the_office}
use Rattle.aft_model.specs.NodeState.{NodeState, node_state}
use Rattle.aft_model.specs.Readings.{marker_name, record_name, version_name}
use Rattle.aft_model.specs.ScanRun.{next_after, page_limit}
use Rattle.aft_model.specs.Sound.{markers_prefix, records_prefix}
use Rattle.aft_lines.specs.Advance.{GoesOn, HasEnded, Scan, advance_copy, advance_orphans, advance_start, at_first_node, behind_answer, behind_boot_page, behind_copied_markers, behind_copied_records, behind_name, behind_orphan_page, boot_paged, booted_by, claimed_at_desk, copied_by, copies_on, deleted_at_desk, desk_behind, fenced_by, freed_at_desk, held_for, in_round, looked_at_desk, moved_at_desk, paged_by, place_of, scan_of, scanned_by, stands_if, started_with, to_copy, told_at_desk, told_by_office}
use Rattle.aft_lines.specs.BackupCourse.{Copier, copier, finds_copy, is_next_copier, tells_copy, tells_not_begun}
use Rattle.aft_lines.specs.CourseWords.{Ends, answers_down, closes, ends_at_node, ends_at_office, office_answers}
use Rattle.aft_lines.specs.LineCourse.{ends_boot}
use Rattle.aft_lines.specs.OrphanCourse.{VersionAt, tells_round, versions_prefix}
use Rattle.aft_lines.specs.Progress.{AtDesk, BootScan, BootScanned, CopyMarkers, CopyRecords, Copying, HasFenced, HasLeft, Holding, Holds, InRound, IsOver, LookedOnce, LookedTwice, MustComeUp, MustFence, MustFree, MustTell, NotBegun, OrphanScan, Progress, Scanning, Standing}
use Rattle.aft_lines.specs.ScanCourse.{copy_limit, names_limit, stops_at, versions_limit}
use Rattle.aft_lines.specs.Turns.{AtDoor, AtNode, AtOffice, Turn}
use Rattle.law_rounds.specs.Left.{scan_at}
use Rattle.aft_lines.specs.Makes.{all_versions, answers_at_office, is_of_uuid, makes, starts_at_node}
use Rattle.law_makes.proofs.Reached.{comes_to}
use Rattle.law_makes.proofs.Well.{is_well, under_same, well_if}

-- ---- pages

-- what holds of a scan's pages, whatever they list
behind_page : (scan : Scanning) (so : Scan → Bool) → ((after : List ℕ) (listed : List Pair) → IsTrue (so (GoesOn (scan_at scan.limit scan.who scan.prefix after listed)))) → ((whole : Bool) (after : List ℕ) (listed : List Pair) → IsTrue (so (HasEnded whole (scan_at scan.limit scan.who scan.prefix after listed))))
    → (answer : KeeperAnswer) → IsTrue (so (behind_answer scan answer))
behind_page scan so goes ended (Page pairs) = cases (stops_at scan.limit scan.listed pairs) (next_after (record { after = scan.after; listed = pairs }))
  where
    cases : (stops : Bool) (next : Option (List ℕ)) → IsTrue (so (if stops then HasEnded false (scan_at scan.limit scan.who scan.prefix [] (scan.listed ++ pairs)) else behind_name scan pairs next))
    cases true next = ended false [] (scan.listed ++ pairs)
    cases false None = ended true [] (scan.listed ++ pairs)
    cases false (Some name) = goes name (scan.listed ++ pairs)
behind_page scan so goes ended answer = ended false scan.after scan.listed

module _ (made : Turn → Bool) (comes : Progress → Bool) where
  well_paged : (scan : Scanning) (then_at : Scan → Progress) (otherwise : Option Progress)
      → ((place node inc : ℕ) (prefix after : List ℕ) (limit : ℕ) (answer : KeeperAnswer) → IsTrue (same_incarnation scan.who (incarnation node inc)) → IsTrue (made (AtDoor place (doors.Call node inc (calls.Scan prefix after limit) answer))))
      → ((answer : KeeperAnswer) → IsTrue (comes (then_at (behind_answer scan answer)))) → (turn : Turn) → IsTrue (is_well made comes turn otherwise) → IsTrue (is_well made comes turn (paged_by then_at (scanned_by scan turn) otherwise))
  well_paged scan then_at otherwise made_so comes_so (AtDoor place (doors.Call node inc (calls.Scan prefix after limit) answer)) other = cases (same_incarnation scan.who (incarnation node inc)) (bytes_eq scan.prefix prefix) (bytes_eq scan.after after) (eqb limit page_limit) (made_so place node inc prefix after limit answer)
    where
      cases : (own same from full : Bool) → (IsTrue own → IsTrue (made (AtDoor place (doors.Call node inc (calls.Scan prefix after limit) answer))))
          → IsTrue (is_well made comes (AtDoor place (doors.Call node inc (calls.Scan prefix after limit) answer)) (paged_by then_at (if own && same && from && full then behind_answer scan answer ∷ [] else []) otherwise))
      cases true true true true so = and_from _ _ (so refl) (comes_so answer)
      cases true true true false so = other
      cases true true false full so = other
      cases true false from full so = other
      cases false same from full so = other
  well_paged scan then_at otherwise made_so comes_so turn other = other

-- ---- answers of the office

alone : (test : OfficeAct → Option Reply → Bool) → ((act : OfficeAct) (answer : Option Reply) → IsTrue (test act answer) → IsTrue (answers_at_office act)) → (made : Turn → Bool) → ((before : List OfficeEntry) (entry : OfficeEntry) → IsTrue (answers_at_office entry.act) → IsTrue (made (AtOffice before entry)))
    → (turn : Turn) → IsTrue (ends_at_office test (turn ∷ [])) → IsTrue (made turn)
alone test passes made so (AtDoor place act) is = absurd (cc)
alone test passes made so (AtNode node before entry) is = absurd (cc)
alone test passes made so (AtOffice before entry) is = so before entry (passes entry.act entry.answer is)

answers_alone : (act : OfficeAct) (answer : Option Reply) → IsTrue (office_answers act answer) → IsTrue (answers_at_office act)
answers_alone office_acts.Nothing answer so = refl
answers_alone act answer so = absurd (cc)

copy_alone : (whole : Bool) (act : OfficeAct) (answer : Option Reply) → IsTrue (tells_copy whole act answer) → IsTrue (answers_at_office act)
copy_alone whole act answer so = answers_alone act answer (and_parts (office_answers act answer) _ so).0

round_alone : (whole : Bool) (act : OfficeAct) (answer : Option Reply) → IsTrue (tells_round whole act answer) → IsTrue (answers_at_office act)
round_alone whole act answer so = answers_alone act answer (and_parts (office_answers act answer) _ so).0

not_begun_alone : (act : OfficeAct) (answer : Option Reply) → IsTrue (tells_not_begun act answer) → IsTrue (answers_at_office act)
not_begun_alone act (Some replies.Copying) so = answers_alone act (Some replies.Copying) so
not_begun_alone act answer so = answers_alone act answer (and_parts (office_answers act answer) _ so).0

-- ---- a start

module _ (home : ℕ) where
  abbrev start_made : Turn → Bool
  start_made = makes (commands.Start home)

  abbrev start_comes : Progress → Bool
  start_comes = comes_to (commands.Start home)

  boot_made : (ends : Ends) (who : Incarnation) (whole : Bool) (state : NodeState) (entry : NodeEntry) (act : NodeAct) → entry.act ≡ act → IsTrue (ends_boot who.inc whole act entry.answer || answers_down act entry.answer && ends.is_left who.inc state) → IsTrue (starts_at_node act)
  boot_made ends who whole state entry acts.Nothing e so = refl
  boot_made ends who whole state entry (acts.Boot inc commits) e so = refl
  boot_made ends who whole state entry (acts.BootStopped inc) e so = refl
  boot_made ends who whole state entry act e so = absurd (cc)

  booted_made : (ends : Ends) (who : Incarnation) (whole : Bool) (turn : Turn) → IsTrue (ends_at_node who.node (closes ends who.inc (ends_boot who.inc whole)) (turn ∷ [])) → IsTrue (start_made turn)
  booted_made ends who whole (AtDoor place act) so = absurd (cc)
  booted_made ends who whole (AtOffice before entry) so = absurd (cc)
  booted_made ends who whole (AtNode node before entry) so = boot_made ends who whole (node_state before) entry entry.act refl (and_parts (eqb who.node node) (closes ends who.inc (ends_boot who.inc whole) (node_state before) entry) so).1

  booted_well : (ends : Ends) (who : Incarnation) (whole : Bool) (turn : Turn) → IsTrue (is_well start_made start_comes turn (booted_by ends who whole turn))
  booted_well ends who whole turn = well_if start_made start_comes turn IsOver (ends_at_node who.node (closes ends who.inc (ends_boot who.inc whole)) (turn ∷ [])) (booted_made ends who whole turn) refl

  paged_well : (ends : Ends) (scan : Scanning) (turn : Turn) → IsTrue (is_well start_made start_comes turn (boot_paged ends scan turn))
  paged_well ends scan turn =
      well_paged start_made start_comes scan behind_boot_page (booted_by ends scan.who false turn) (λ place node inc prefix after limit answer so. refl) (λ answer. refl) turn (booted_well ends scan.who false turn)

  pub start_step : (ends : Ends) (position : Progress) (turn : Turn) → IsTrue (start_comes position) → IsTrue (is_well start_made start_comes turn (advance_start ends position turn))
  start_step ends (MustComeUp who) (AtDoor place (doors.Up node inc)) so = well_if start_made start_comes (AtDoor place (doors.Up node inc)) (BootScan (scan_of names_limit who records_prefix)) (same_incarnation who (incarnation node inc)) (λ is. refl) refl
  start_step ends (MustComeUp who) turn so = paged_well ends (scan_of names_limit who records_prefix) turn
  start_step ends (BootScan scan) turn so = paged_well ends scan turn
  start_step ends (BootScanned who whole) turn so = booted_well ends who whole turn
  start_step ends position turn so = refl

  start_act : (node : ℕ) (before : List NodeEntry) (entry : NodeEntry) (act : NodeAct) → entry.act ≡ act → IsTrue (is_well start_made start_comes (AtNode node before entry) (started_with node act))
  start_act node before entry acts.Nothing e = rw e refl
  start_act node before entry (acts.Booting inc) e = rw e refl
  start_act node before entry act e = refl

  pub start_first : (turn : Turn) → IsTrue (is_well start_made start_comes turn (at_first_node (λ at before act. started_with at act) turn))
  start_first (AtDoor place act) = refl
  start_first (AtOffice before entry) = refl
  start_first (AtNode node before entry) = start_act node before entry entry.act refl

-- ---- a copy

abbrev copy_made : Turn → Bool
copy_made = makes commands.Backup

abbrev copy_comes : Progress → Bool
copy_comes = comes_to commands.Backup

-- an incarnation of the copier's number is the copier's
same_node : (who : Incarnation) (node inc : ℕ) → IsTrue (eqb who.node copier) → IsTrue (same_incarnation who (incarnation node inc)) → IsTrue (eqb node copier)
same_node who node inc its same =
    let one = eqb-true who.node node (and_parts (eqb who.node node) (eqb who.inc inc) same).0 in
    let other = eqb-true who.node copier its in
    eq-eqb node copier (sym one ∙ other)

told_well : (test : OfficeAct → Option Reply → Bool) → ((act : OfficeAct) (answer : Option Reply) → IsTrue (test act answer) → IsTrue (answers_at_office act)) → (turn : Turn) → IsTrue (is_well copy_made copy_comes turn (told_by_office test turn))
told_well test passes turn = well_if copy_made copy_comes turn IsOver (ends_at_office test (turn ∷ [])) (alone test passes copy_made (λ before entry so. so) turn) refl

fenced_well : (by : Copier) (whole : Bool) (turn : Turn) → IsTrue (eqb by.who.node copier) → IsTrue (is_well copy_made copy_comes turn (fenced_by by whole turn))
fenced_well by whole (AtDoor place (doors.Fence node inc)) so = well_if copy_made copy_comes (AtDoor place (doors.Fence node inc)) (HasFenced whole) (same_incarnation by.who (incarnation node inc)) (same_node by.who node inc so) refl
fenced_well by whole turn so = refl

copies_come : (by : Copier) (names : List VersionAt) → IsTrue (eqb by.who.node copier) → IsTrue (copy_comes (copies_on by names))
copies_come by [] so = so
copies_come by (one ∷ more) so = so

copied_well : (by : Copier) (one : VersionAt) (more : List VersionAt) (turn : Turn) → IsTrue (eqb by.who.node copier) → IsTrue (is_well copy_made copy_comes turn (copied_by by one more turn))
copied_well by one more (AtDoor place (doors.Call node inc (calls.Get name) answer)) so =
    well_if copy_made copy_comes (AtDoor place (doors.Call node inc (calls.Get name) answer)) (if finds_copy one answer then copies_on by more else MustFence by false)
    (same_incarnation by.who (incarnation node inc) && bytes_eq (version_name one.key one.id) name)
    (λ is. let parts = and_parts (same_incarnation by.who (incarnation node inc)) (bytes_eq (version_name one.key one.id) name) is in and_from _ _ (same_node by.who node inc so parts.0) (under_same all_versions (version_name one.key one.id) name parts.1 refl))
    (found (finds_copy one answer))
  where
    found : (b : Bool) → IsTrue (copy_comes (if b then copies_on by more else MustFence by false))
    found true = copies_come by more so
    found false = so
copied_well by one more turn so = fenced_well by false turn so

page_made : (who : Incarnation) → IsTrue (eqb who.node copier) → (place node inc : ℕ) (prefix after : List ℕ) (limit : ℕ) (answer : KeeperAnswer) → IsTrue (same_incarnation who (incarnation node inc)) → IsTrue (copy_made (AtDoor place (doors.Call node inc (calls.Scan prefix after limit) answer)))
page_made who so place node inc prefix after limit answer same = and_from _ _ (same_node who node inc so same) refl

records_come : (by : Copier) (scan : Scanning) → IsTrue (eqb by.who.node copier) → IsTrue (eqb scan.who.node copier) → (answer : KeeperAnswer) → IsTrue (copy_comes (behind_copied_records by (behind_answer scan answer)))
records_come by scan so own = behind_page scan (λ s. copy_comes (behind_copied_records by s)) (λ after listed. and_from _ _ so own) ended
  where
    ended : (whole : Bool) (after : List ℕ) (listed : List Pair) → IsTrue (copy_comes (behind_copied_records by (HasEnded whole (scan_at scan.limit scan.who scan.prefix after listed))))
    ended true after listed = and_from _ _ so so
    ended false after listed = so

markers_come : (ends : Ends) (by : Copier) (records : List Commit) (place : ℕ) (scan : Scanning) → IsTrue (eqb by.who.node copier) → IsTrue (eqb scan.who.node copier) → (answer : KeeperAnswer) → IsTrue (copy_comes (behind_copied_markers ends by records place (behind_answer scan answer)))
markers_come ends by records place scan so own = behind_page scan (λ s. copy_comes (behind_copied_markers ends by records place s)) (λ after listed. and_from _ _ so own) ended
  where
    ended : (whole : Bool) (after : List ℕ) (listed : List Pair) → IsTrue (copy_comes (behind_copied_markers ends by records place (HasEnded whole (scan_at scan.limit scan.who scan.prefix after listed))))
    ended true after listed = copies_come by (to_copy ends by records listed place) so
    ended false after listed = so

pub copy_step : (ends : Ends) (position : Progress) (turn : Turn) → IsTrue (copy_comes position) → IsTrue (is_well copy_made copy_comes turn (advance_copy ends position turn))
copy_step ends NotBegun (AtDoor place (doors.Up node inc)) so =
    let made_so = (λ (is : IsTrue (is_next_copier ends place (incarnation node inc))). (and_parts (eqb node copier) _ is).0) in
    first (is_next_copier ends place (incarnation node inc)) made_so
  where
    first : (next : Bool) → (IsTrue next → IsTrue (eqb node copier))
        → IsTrue (is_well copy_made copy_comes (AtDoor place (doors.Up node inc)) (if next then Some (CopyRecords (record { who = incarnation node inc; place = place }) (scan_of copy_limit (incarnation node inc) records_prefix)) else None))
    first true is = and_from _ _ (is refl) (and_from _ _ (is refl) (is refl))
    first false is = refl
copy_step ends NotBegun turn so = told_well tells_not_begun not_begun_alone turn
copy_step ends (CopyRecords by scan) turn so =
    let parts = and_parts (eqb by.who.node copier) (eqb scan.who.node copier) so in
    well_paged copy_made copy_comes scan (behind_copied_records by) (fenced_by by false turn) (page_made scan.who parts.1) (records_come by scan parts.0 parts.1) turn (fenced_well by false turn parts.0)
copy_step ends (CopyMarkers by records scan) turn so =
    let parts = and_parts (eqb by.who.node copier) (eqb scan.who.node copier) so in
    well_paged copy_made copy_comes scan (behind_copied_markers ends by records (place_of turn)) (fenced_by by false turn) (page_made scan.who parts.1) (markers_come ends by records (place_of turn) scan parts.0 parts.1) turn (fenced_well by false turn parts.0)
copy_step ends (Copying by []) turn so = refl
copy_step ends (Copying by (one ∷ more)) turn so = copied_well by one more turn so
copy_step ends (MustFence by whole) turn so = fenced_well by whole turn so
copy_step ends (HasFenced whole) turn so = told_well (tells_copy whole) (copy_alone whole) turn
copy_step ends position turn so = refl

-- ---- a round of orphans

module _ (wanted : List ℕ) where
  abbrev round_made : Turn → Bool
  round_made = makes (commands.Orphans wanted)

  abbrev round_comes : Progress → Bool
  round_comes = comes_to (commands.Orphans wanted)

  -- whether there is one
  abbrev some_way : List Standing → Bool
  some_way [] = false
  some_way (standing ∷ standings) = true

  either_way : (one more : List Standing) → IsTrue (some_way (one ++ more)) → IsTrue (some_way one) ⊎ IsTrue (some_way more)
  either_way [] more is = inr is
  either_way (standing ∷ one) more is = inl refl

  stands_made : (turn : Turn) (passed : Bool) (standing : Standing) → (IsTrue passed → IsTrue (round_made turn)) → IsTrue (some_way (stands_if passed standing)) → IsTrue (round_made turn)
  stands_made turn true standing so is = so refl
  stands_made turn false standing so is = absurd (cc)

  freed_made : (goes_on : Bool) (held : Holding) (turn : Turn) → IsTrue (some_way (freed_at_desk goes_on held turn)) → IsTrue (round_made turn)
  freed_made goes_on held (AtDoor place (doors.Release uuid node inc)) is =
      stands_made (AtDoor place (doors.Release uuid node inc)) (same_incarnation the_office (incarnation node inc) && bytes_eq held.one.id.uuid uuid) (if goes_on then HasLeft held.rest else MustTell) (λ so. (and_parts (same_incarnation the_office (incarnation node inc)) (bytes_eq held.one.id.uuid uuid) so).0) is
  freed_made goes_on held turn is = absurd (cc)

  looked_made : (held : Holding) (name : List ℕ) (next : Standing) → ((got : List ℕ) → IsTrue (bytes_eq name got) → IsTrue (is_of_uuid got)) → (turn : Turn) → IsTrue (some_way (looked_at_desk held name next turn)) → IsTrue (round_made turn)
  looked_made held name next of_uuid (AtDoor place (doors.Call node inc (calls.Get got) answer)) is =
      stands_made (AtDoor place (doors.Call node inc (calls.Get got) answer)) (same_incarnation the_office (incarnation node inc) && bytes_eq name got) _
      (λ so. let parts = and_parts (same_incarnation the_office (incarnation node inc)) (bytes_eq name got) so in and_from _ _ parts.0 (of_uuid got parts.1)) is
  looked_made held name next of_uuid turn is = freed_made false held turn is

  deleted_made : (held : Holding) (turn : Turn) → IsTrue (some_way (deleted_at_desk held turn)) → IsTrue (round_made turn)
  deleted_made held (AtDoor place (doors.Call node inc (calls.Delete name) answer)) is =
      stands_made (AtDoor place (doors.Call node inc (calls.Delete name) answer)) (same_incarnation the_office (incarnation node inc) && bytes_eq (version_name held.one.key held.one.id) name) (MustFree true held)
      (λ so. let parts = and_parts (same_incarnation the_office (incarnation node inc)) (bytes_eq (version_name held.one.key held.one.id) name) so in and_from _ _ parts.0 (under_same all_versions (version_name held.one.key held.one.id) name parts.1 refl)) is
  deleted_made held turn is = freed_made false held turn is

  claimed_made : (left : List VersionAt) (turn : Turn) → IsTrue (some_way (claimed_at_desk left turn)) → IsTrue (round_made turn)
  claimed_made left (AtDoor place (doors.Claim uuid node inc)) is = cases (same_incarnation the_office (incarnation node inc)) is
    where
      cases : (own : Bool) → IsTrue (some_way (if own then held_for uuid left else [])) → IsTrue own
      cases true so = refl
      cases false so = absurd (cc)
  claimed_made left turn is = absurd (cc)

  moved_made : (turn : Turn) (standing : Standing) → IsTrue (some_way (moved_at_desk turn standing)) → IsTrue (round_made turn)
  moved_made turn (HasLeft left) is = claimed_made left turn is
  moved_made turn (Holds held) is = looked_made held (record_name held.one.id.uuid) (LookedOnce held) (λ got same. or_left _ _ (under_same records_prefix (record_name held.one.id.uuid) got same refl)) turn is
  moved_made turn (LookedOnce held) is = looked_made held (marker_name held.one.id.uuid) (LookedTwice held) (λ got same. or_right _ _ (under_same markers_prefix (marker_name held.one.id.uuid) got same refl)) turn is
  moved_made turn (LookedTwice held) is = deleted_made held turn is
  moved_made turn (MustFree goes_on held) is = freed_made goes_on held turn is
  moved_made turn MustTell is = absurd (cc)

  any_moved : (turn : Turn) (standings : List Standing) → IsTrue (some_way (flat_map (moved_at_desk turn) standings)) → IsTrue (round_made turn)
  any_moved turn [] is = absurd (cc)
  any_moved turn (standing ∷ standings) is = elim (either_way (moved_at_desk turn standing) (flat_map (moved_at_desk turn) standings) is) [
    | inl one ↦ moved_made turn standing one
    | inr more ↦ any_moved turn standings more
  ]

  told_made : (turn : Turn) (standing : Standing) → IsTrue (told_at_desk turn standing) → IsTrue (round_made turn)
  told_made turn (HasLeft []) is = alone (tells_round true) (round_alone true) round_made (λ before entry so. so) turn is
  told_made turn (HasLeft (one ∷ more)) is = alone office_answers answers_alone round_made (λ before entry so. so) turn is
  told_made turn MustTell is = alone (tells_round false) (round_alone false) round_made (λ before entry so. so) turn is
  told_made turn standing is = absurd (cc)

  any_told : (turn : Turn) (standings : List Standing) → IsTrue (list_any (told_at_desk turn) standings) → IsTrue (round_made turn)
  any_told turn [] is = absurd (cc)
  any_told turn (standing ∷ standings) is = elim (or_cases (told_at_desk turn standing) (list_any (told_at_desk turn) standings) is) [
    | inl one ↦ told_made turn standing one
    | inr more ↦ any_told turn standings more
  ]

  round_well : (turn : Turn) (told : Bool) (desk : Option AtDesk) (standings : List Standing) → (IsTrue told → IsTrue (round_made turn)) → (IsTrue (some_way standings) → IsTrue (round_made turn)) → IsTrue (is_well round_made round_comes turn (if told then Some IsOver else in_round desk standings))
  round_well turn true desk standings by_answer by_move = and_from _ _ (by_answer refl) refl
  round_well turn false desk [] by_answer by_move = refl
  round_well turn false desk (standing ∷ standings) by_answer by_move = and_from _ _ (by_move refl) refl

  page_comes : (scan : Scanning) → IsTrue (same_incarnation scan.who the_office) → (answer : KeeperAnswer) → IsTrue (round_comes (behind_orphan_page (behind_answer scan answer)))
  page_comes scan own = behind_page scan (λ s. round_comes (behind_orphan_page s)) (λ after listed. own) ended
    where
      ended : (whole : Bool) (after : List ℕ) (listed : List Pair) → IsTrue (round_comes (behind_orphan_page (HasEnded whole (scan_at scan.limit scan.who scan.prefix after listed))))
      ended true after listed = refl
      ended false after listed = refl

  orphan_page : (scan : Scanning) → IsTrue (same_incarnation scan.who the_office) → (turn : Turn) → IsTrue (is_well round_made round_comes turn (paged_by behind_orphan_page (scanned_by scan turn) (told_by_office (tells_round false) turn)))
  orphan_page scan own turn =
      well_paged round_made round_comes scan behind_orphan_page (told_by_office (tells_round false) turn) (λ place node inc prefix after limit answer same. and_from _ _ (scans_as scan.who node inc own same) refl) (page_comes scan own) turn
      (well_if round_made round_comes turn IsOver (ends_at_office (tells_round false) (turn ∷ [])) (alone (tells_round false) (round_alone false) round_made (λ before entry so. so) turn) refl)
    where
      scans_as : (who : Incarnation) (node inc : ℕ) → IsTrue (same_incarnation who the_office) → IsTrue (same_incarnation who (incarnation node inc)) → IsTrue (same_incarnation the_office (incarnation node inc))
      scans_as who node inc its same =
          let a = and_parts (eqb who.node 0) (eqb who.inc 1) its in
          let b = and_parts (eqb who.node node) (eqb who.inc inc) same in
          let an = eqb-true who.node 0 a.0 in
          let ai = eqb-true who.inc 1 a.1 in
          let bn = eqb-true who.node node b.0 in
          let bi = eqb-true who.inc inc b.1 in
          and_from _ _ (eq-eqb 0 node (omega arith)) (eq-eqb 1 inc (omega arith))

  pub round_step : (position : Progress) (turn : Turn) → IsTrue (round_comes position) → IsTrue (is_well round_made round_comes turn (advance_orphans wanted position turn))
  round_step NotBegun turn so = orphan_page (scan_of versions_limit the_office (versions_prefix wanted)) refl turn
  round_step (OrphanScan scan) turn so = orphan_page scan so turn
  round_step (InRound desk standings) turn so = round_well turn (list_any (told_at_desk turn) standings) (desk_behind desk turn) (flat_map (moved_at_desk turn) standings) (any_told turn standings) (any_moved turn standings)
  round_step position turn so = refl
