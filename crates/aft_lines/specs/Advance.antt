-- What one turn more makes of a line's position.
use Rattle.std.specs.Prelude.{Bool, List, None, Option, Some, [], false, filter, if◌then◌else◌, is_some, not, suc, take, true, ℕ, ◌&&◌, ◌++◌, ◌==◌, ◌∷◌}
use Rattle.std.specs.List.{flat_map, fold, list_any}
use Rattle.std.specs.Str.{bytes_eq}
use Rattle.aft_id.specs.declared.txn_id.TxnId.{TxnId}
use Rattle.aft_keeper.specs.declared.keeper.KeeperAnswer.{KeeperAnswer}
use Rattle.aft_keeper.specs.declared.keeper.KeeperAnswer.TheVariants.{Failed, Page}
use Rattle.aft_keeper.specs.declared.keeper.Pair.{Pair}
use Rattle.aft_records.specs.declared.stored.Commit.{Commit}
use Rattle.aft_records.specs.Commits.{is_listed, same_commit}
use Rattle.aft_model.specs.declared.caller.Attempt.{Attempt}
use Rattle.aft_model.specs.declared.node.NodeAct.{NodeAct}
use Rattle.aft_model.specs.declared.node.NodeEntry.{NodeEntry}
use Rattle.aft_model.specs.declared.office.OfficeAct.{OfficeAct}
use Rattle.aft_model.specs.declared.reply.Reply.{Reply}
use Rattle.aft_model.specs.declared.script.Command.{Command}
use Rattle.aft_model.specs.Attempts.{Write, attempt_state, buffer, fixed_commit, same_attempt, uuid_of}
use Rattle.aft_model.specs.Cut.{is_taken}
use Rattle.aft_model.specs.DoorKnowledge.{ids_in}
use Rattle.aft_model.specs.Membership.{Incarnation, incarnation, same_incarnation, the_office}
use Rattle.aft_model.specs.NodeState.{node_state, part}
use Rattle.aft_model.specs.Readings.{has_reading, marker_name, record_name, version_name}
use Rattle.aft_model.specs.ScanRun.{next_after, page_limit}
use Rattle.aft_model.specs.Sound.{markers_prefix, recorded, records_prefix}
use Rattle.aft_model.specs.Stages.{is_acknowledged}
use Rattle.aft_lines.specs.BackupCourse.{Copier, finds_copy, is_next_copier, names_to_copy, tells_copy, tells_not_begun, with_uuid_order}
use Rattle.aft_lines.specs.BeginCourse.{Beginning, begins_running, gets_own, gives_back}
use Rattle.aft_lines.specs.CommitCourse.{Storing, doubts, gets_record, is_release_of, is_version_of, is_written_as, leaves, puts_own, storing_of, takes_away, tells_aborted, tells_committed, tells_left}
use Rattle.aft_lines.specs.CourseWords.{Ends, answers_down, any_answer, caller_of, closes, ends_at_node, ends_at_office, ends_shut_out, finds_nothing, finds_record, found_pair, office_answers, tells_down, tells_no_memory, tells_refused, tells_unclaimed}
use Rattle.aft_lines.specs.ForgetCourse.{finds_short}
use Rattle.aft_lines.specs.GetCourse.{ends_get, loses}
use Rattle.aft_lines.specs.LineCourse.{ends_boot, follows_course}
use Rattle.aft_lines.specs.OrphanCourse.{VersionAt, found_on, tells_round, versions_prefix}
use Rattle.aft_lines.specs.Progress.{Admitted, Along, AnyReason, AtDesk, BootScan, BootScanned, CopyMarkers, CopyRecords, Copying, EndsAborted, EndsCommitted, EndsLeft, Fetching, FoundAborted, FoundNoRecord, FoundShort, FoundUnused, HasClaim, HasFailed, HasFenced, HasFetched, HasForgotten, HasLeft, HasReleased, Holding, Holds, InRound, IsNodeStored, IsOver, IsRecorded, IsStoring, LookedOnce, LookedTwice, MustComeUp, MustDoubt, MustEnd, MustFence, MustFree, MustLeave, MustRelease, MustTell, NoRoom, NotBegun, OrphanScan, Outcome, Progress, Reason, Refusal, Scanning, Settling, Standing, Stopped, has_ended}
use Rattle.aft_lines.specs.ScanCourse.{ScanLimit, copy_limit, names_limit, stops_at, versions_limit}
use Rattle.aft_lines.specs.Turns.{AtDoor, AtNode, Turn, answer_in}
use Rattle.aft_model.specs.declared.node.NodeAct.TheVariants as acts
use Rattle.aft_keeper.specs.declared.keeper.KeeperCall.TheVariants as calls
use Rattle.aft_model.specs.declared.script.Command.TheVariants as commands
use Rattle.aft_model.specs.declared.door.DoorAct.TheVariants as doors
use Rattle.aft_model.specs.declared.choice.Picked.TheVariants as picked

-- ---- the last turn

-- the end of a line by a turn at its attempt's node: by what that did and answered, or alone that the node is down
abbrev pub closed_by : Ends → Attempt → (NodeAct → Option Reply → Bool) → Turn → Option Progress
closed_by ends a test (AtNode at before entry) =
    if not (a.node == at) then None
    else if test entry.act entry.answer then Some IsOver
    else if answers_down entry.act entry.answer && ends.is_left a.inc (node_state before) then Some (Stopped a)
    else None
closed_by ends a test turn = None

-- the same where it has seen that the attempt's incarnation was shut out
abbrev pub shut_out_by : Ends → Attempt → (NodeAct → Option Reply → Bool) → Turn → Option Progress
shut_out_by ends a test turn = if ends_shut_out ends (caller_of a) (turn ∷ []) then closed_by ends a test turn else None

-- the end of a line by a turn at the office
abbrev pub told_by_office : (OfficeAct → Option Reply → Bool) → Turn → Option Progress
told_by_office test turn = if ends_at_office test (turn ∷ []) then Some IsOver else None

-- the one position, or else the other
abbrev pub or_at : Option Progress → Option Progress → Option Progress
or_at (Some position) otherwise = Some position
or_at None otherwise = otherwise

-- a position, if a test is passed
abbrev pub if_so : Bool → Progress → Option Progress
if_so passed position = if passed then Some position else None

-- ---- begins and forgets

-- what a reason lets a line answer
abbrev pub allows : Reason → Option Reply → Bool
allows AnyReason answer = any_answer answer
allows Refusal answer = tells_refused answer
allows NoRoom answer = tells_no_memory answer

-- the release of a claim, or where the incarnation was shut out the end without it
abbrev pub released_by : Ends → Beginning → Reason → Turn → Option Progress
released_by ends begun reason (AtDoor place (doors.Release uuid node inc)) =
    if_so (same_incarnation (caller_of begun.attempt) (incarnation node inc) && bytes_eq begun.uuid uuid) (HasReleased begun reason)
released_by ends begun reason turn = shut_out_by ends begun.attempt (gives_back begun.attempt tells_down) turn

-- a get of a name by the attempt's incarnation, and what it makes of the answer; or the release
abbrev pub got_by : Ends → Beginning → List ℕ → (KeeperAnswer → Progress) → Turn → Option Progress
got_by ends begun name then_at (AtDoor place (doors.Call node inc (calls.Get got) answer)) = if_so (gets_own begun name node inc got) (then_at answer)
got_by ends begun name then_at turn = released_by ends begun Refusal turn

-- behind a get: nothing was found, or the claim must go
abbrev pub if_nothing : Progress → Beginning → KeeperAnswer → Progress
if_nothing next begun answer = if finds_nothing answer then next else MustRelease begun

-- behind the get of the marker, of a begin and of a forget
abbrev pub behind_marker : Bool → Beginning → KeeperAnswer → Progress
behind_marker false begun answer = if_nothing (FoundUnused begun) begun answer
behind_marker true begun answer = if finds_short begun.uuid answer then FoundShort begun else if finds_nothing answer then FoundUnused begun else MustRelease begun

-- the delete of the marker, or the release
abbrev pub forgotten_by : Ends → Beginning → Turn → Option Progress
forgotten_by ends begun (AtDoor place (doors.Call node inc (calls.Delete name) answer)) = if_so (gets_own begun (marker_name begun.uuid) node inc name) (HasForgotten begun)
forgotten_by ends begun turn = released_by ends begun Refusal turn

-- the claim, or the end without it
abbrev pub claimed_by : Ends → Beginning → Turn → Option Progress
claimed_by ends begun (AtDoor place (doors.Claim uuid node inc)) = if_so (same_incarnation (caller_of begun.attempt) (incarnation node inc) && bytes_eq begun.uuid uuid) (HasClaim begun)
claimed_by ends begun turn = closed_by ends begun.attempt (gives_back begun.attempt tells_unclaimed) turn

-- behind both gets that found nothing: a begin runs, or where memory was wanting lets its claim go; a forget lets it go
abbrev pub behind_unused : Ends → Bool → Beginning → Turn → Option Progress
behind_unused ends false begun turn = or_at (closed_by ends begun.attempt (begins_running begun.attempt) turn) (released_by ends begun NoRoom turn)
behind_unused ends true begun turn = released_by ends begun AnyReason turn

-- the next position of a begin or a forget
abbrev pub advance_claim : Ends → Bool → Progress → Turn → Option Progress
advance_claim ends forgets (Admitted begun) turn = claimed_by ends begun turn
advance_claim ends forgets (HasClaim begun) turn = got_by ends begun (record_name begun.uuid) (if_nothing (FoundNoRecord begun) begun) turn
advance_claim ends forgets (FoundNoRecord begun) turn = got_by ends begun (marker_name begun.uuid) (behind_marker forgets begun) turn
advance_claim ends forgets (FoundUnused begun) turn = behind_unused ends forgets begun turn
advance_claim ends forgets (FoundShort begun) turn = forgotten_by ends begun turn
advance_claim ends forgets (HasForgotten begun) turn = released_by ends begun AnyReason turn
advance_claim ends forgets (MustRelease begun) turn = released_by ends begun AnyReason turn
advance_claim ends forgets (HasReleased begun reason) turn = closed_by ends begun.attempt (gives_back begun.attempt (allows reason)) turn
advance_claim ends forgets position turn = None

-- ---- gets

-- the get of a version, or the end without it
abbrev pub fetched_by : Ends → Attempt → List ℕ → TxnId → Turn → Option Progress
fetched_by ends a key id (AtDoor place (doors.Call node inc (calls.Get name) answer)) =
    if_so (same_incarnation (caller_of a) (incarnation node inc) && bytes_eq (version_name key id) name) (HasFetched a key id place)
fetched_by ends a key id turn = closed_by ends a (loses a key id) turn

-- the next position of a get
abbrev pub advance_get : Ends → Progress → Turn → Option Progress
advance_get ends (Fetching a key id) turn = fetched_by ends a key id turn
advance_get ends (HasFetched a key id place) turn = closed_by ends a (ends_get a key id place) turn
advance_get ends position turn = None

-- ---- commits and aborts

-- the attempt is left in doubt with an answer that passes a test
abbrev pub doubted_by : Ends → Storing → (Option Reply → Bool) → Turn → Option Progress
doubted_by ends storing test turn = closed_by ends storing.attempt (doubts storing.attempt test) turn

-- behind the get that settles a doubt
abbrev pub behind_settling : Bool → Storing → KeeperAnswer → Progress
behind_settling aborts storing answer =
    if finds_record storing.written.commit answer then IsRecorded storing
    else if not (finds_nothing answer) then MustDoubt storing
    else if aborts then FoundAborted storing
    else IsStoring storing storing.writes

-- behind the get of a record whose put failed
abbrev pub behind_failure : Storing → KeeperAnswer → Progress
behind_failure storing answer = if finds_record storing.written.commit answer then IsRecorded storing else MustDoubt storing

-- a get of the record, and what it makes of the answer; or the doubt
abbrev pub looked_by : Ends → Storing → (KeeperAnswer → Progress) → Turn → Option Progress
looked_by ends storing then_at (AtDoor place (doors.Call node inc (calls.Get name) answer)) = if_so (gets_record storing node inc name) (then_at answer)
looked_by ends storing then_at turn = doubted_by ends storing tells_refused turn

-- a put, and what it makes of its acknowledgement; or the doubt
abbrev pub put_by : Ends → Storing → (Pair → Bool) → Progress → Progress → Turn → Option Progress
put_by ends storing test done failed (AtDoor place (doors.Call node inc (calls.Put name bytes) answer)) =
    if_so (puts_own storing test node inc name bytes) (if is_acknowledged answer then done else failed)
put_by ends storing test done failed turn = doubted_by ends storing tells_refused turn

-- the next put of a commit
abbrev pub stored_by : Ends → Storing → List Write → Turn → Option Progress
stored_by ends storing [] turn = put_by ends storing (is_written_as storing.written) (IsRecorded storing) (HasFailed storing) turn
stored_by ends storing (write ∷ writes) turn = put_by ends storing (is_version_of storing.written.commit write) (IsStoring storing writes) (MustDoubt storing) turn

-- whether an act is the storing of an attempt's commit
abbrev pub is_stored_in : Storing → NodeAct → Bool
is_stored_in storing (acts.Stored b c) = same_attempt storing.attempt b && same_commit storing.written.commit c
is_stored_in storing act = false

-- the node's storing of a commit, or the doubt for want of memory
abbrev pub noted_at_node : Ends → Storing → Turn → Option Progress
noted_at_node ends storing (AtNode at before entry) =
    if storing.attempt.node == at && is_stored_in storing entry.act then Some (IsNodeStored storing) else doubted_by ends storing tells_no_memory (AtNode at before entry)
noted_at_node ends storing turn = None

-- the release of an attempt's claim, or what comes without it
abbrev pub freed_by : Attempt → List ℕ → Outcome → (Turn → Option Progress) → Turn → Option Progress
freed_by a uuid outcome without (AtDoor place (doors.Release released node inc)) = if_so (is_release_of a uuid released node inc) (MustEnd a outcome)
freed_by a uuid outcome without turn = without turn

-- an attempt that leaves answers alone where its incarnation was shut out
abbrev pub left_alone : Ends → Attempt → Turn → Option Progress
left_alone ends a (AtNode at before entry) = if_so (a.node == at && answers_down entry.act entry.answer && ends.is_shut_out (caller_of a) entry.front) (Stopped a)
left_alone ends a turn = None

-- what an outcome answers
abbrev pub tells_outcome : Outcome → Option Reply → Bool
tells_outcome EndsCommitted answer = tells_committed answer
tells_outcome EndsAborted answer = tells_aborted answer
tells_outcome (EndsLeft aborts) answer = tells_left aborts answer

-- the next position of a commit or an abort
abbrev pub advance_finish : Ends → Progress → Turn → Option Progress
advance_finish ends (Settling aborts storing) turn = looked_by ends storing (behind_settling aborts storing) turn
advance_finish ends (IsStoring storing writes) turn = stored_by ends storing writes turn
advance_finish ends (HasFailed storing) turn = looked_by ends storing (behind_failure storing) turn
advance_finish ends (IsRecorded storing) turn = noted_at_node ends storing turn
advance_finish ends (IsNodeStored storing) turn =
    freed_by storing.attempt storing.written.commit.id.uuid EndsCommitted (shut_out_by ends storing.attempt (doubts storing.attempt tells_down)) turn
advance_finish ends (FoundAborted storing) turn =
    freed_by storing.attempt storing.written.commit.id.uuid EndsAborted
    (λ last. or_at (shut_out_by ends storing.attempt (doubts storing.attempt tells_down) last) (doubted_by ends storing tells_no_memory last)) turn
advance_finish ends (MustDoubt storing) turn = doubted_by ends storing any_answer turn
advance_finish ends (MustLeave aborts a uuid) turn = freed_by a uuid (EndsLeft aborts) (left_alone ends a) turn
advance_finish ends (MustEnd a outcome) turn = closed_by ends a (takes_away a (tells_outcome outcome)) turn
advance_finish ends position turn = None

-- ---- scans

-- what a page makes of a scan: it goes on, or has ended, whole or not
pub data Scan : Type 0 where
  GoesOn : Scanning → Scan
  HasEnded : Bool → Scanning → Scan

-- a scan with what a page listed
abbrev pub with_page : Scanning → List ℕ → List Pair → Scanning
with_page scan after pairs = record { limit = scan.limit; who = scan.who; prefix = scan.prefix; after = after; listed = scan.listed ++ pairs }

-- behind a good page: on from its last name, or the end
abbrev pub behind_name : Scanning → List Pair → Option (List ℕ) → Scan
behind_name scan pairs None = HasEnded true (with_page scan [] pairs)
behind_name scan pairs (Some next) = GoesOn (with_page scan next pairs)

-- behind an answer to a page's call
abbrev pub behind_answer : Scanning → KeeperAnswer → Scan
behind_answer scan (Page pairs) =
    if stops_at scan.limit scan.listed pairs then HasEnded false (with_page scan [] pairs)
    else behind_name scan pairs (next_after (record { after = scan.after; listed = pairs }))
behind_answer scan answer = HasEnded false scan

-- the next page of a scan, if a turn is its call
abbrev pub scanned_by : Scanning → Turn → List Scan
scanned_by scan (AtDoor place (doors.Call node inc (calls.Scan prefix after limit) answer)) =
    if same_incarnation scan.who (incarnation node inc) && bytes_eq scan.prefix prefix && bytes_eq scan.after after && limit == page_limit then behind_answer scan answer ∷ [] else []
scanned_by scan turn = []

-- the position behind a scan's page, by what that makes of the scan; or what comes where the turn is none
abbrev pub paged_by : (Scan → Progress) → List Scan → Option Progress → Option Progress
paged_by then_at [] otherwise = otherwise
paged_by then_at (scan ∷ scans) otherwise = Some (then_at scan)

-- the beginning of a scan
abbrev pub scan_of : ScanLimit → Incarnation → List ℕ → Scanning
scan_of limit who prefix = record { limit = limit; who = who; prefix = prefix; after = []; listed = [] }

-- ---- starts

abbrev pub behind_boot_page : Scan → Progress
behind_boot_page (GoesOn scan) = BootScan scan
behind_boot_page (HasEnded whole scan) = BootScanned scan.who whole

-- the end of a boot at its node
abbrev pub booted_by : Ends → Incarnation → Bool → Turn → Option Progress
booted_by ends who whole turn = if_so (ends_at_node who.node (closes ends who.inc (ends_boot who.inc whole)) (turn ∷ [])) IsOver

-- a page of a boot's scan, or the end of the boot without it
abbrev pub boot_paged : Ends → Scanning → Turn → Option Progress
boot_paged ends scan turn = paged_by behind_boot_page (scanned_by scan turn) (booted_by ends scan.who false turn)

-- the next position of a start
abbrev pub advance_start : Ends → Progress → Turn → Option Progress
advance_start ends (MustComeUp who) (AtDoor place (doors.Up node inc)) = if_so (same_incarnation who (incarnation node inc)) (BootScan (scan_of names_limit who records_prefix))
advance_start ends (MustComeUp who) turn = boot_paged ends (scan_of names_limit who records_prefix) turn
advance_start ends (BootScan scan) turn = boot_paged ends scan turn
advance_start ends (BootScanned who whole) turn = booted_by ends who whole turn
advance_start ends position turn = None

-- ---- copies

abbrev pub behind_copied_records : Copier → Scan → Progress
behind_copied_records by (GoesOn scan) = CopyRecords by scan
behind_copied_records by (HasEnded true scan) = CopyMarkers by (recorded scan.listed) (scan_of names_limit by.who markers_prefix)
behind_copied_records by (HasEnded false scan) = MustFence by false

-- the versions that a copier is to get, once its scan of markers, whose last page stands at this place, has ended
abbrev pub to_copy : Ends → Copier → List Commit → List Pair → ℕ → List VersionAt
to_copy ends by records markers place = names_to_copy (fold with_uuid_order [] (filter (is_taken by.place markers (take (suc place) ends.seen)) records))

-- behind the versions that are left: the next one, or the fence
abbrev pub copies_on : Copier → List VersionAt → Progress
copies_on by [] = MustFence by true
copies_on by (one ∷ more) = Copying by (one ∷ more)

abbrev pub behind_copied_markers : Ends → Copier → List Commit → ℕ → Scan → Progress
behind_copied_markers ends by records place (GoesOn scan) = CopyMarkers by records scan
behind_copied_markers ends by records place (HasEnded true scan) = copies_on by (to_copy ends by records scan.listed place)
behind_copied_markers ends by records place (HasEnded false scan) = MustFence by false

-- the fence of a copier
abbrev pub fenced_by : Copier → Bool → Turn → Option Progress
fenced_by by whole (AtDoor place (doors.Fence node inc)) = if_so (same_incarnation by.who (incarnation node inc)) (HasFenced whole)
fenced_by by whole turn = None

-- the get of a version by a copier, or the fence without it
abbrev pub copied_by : Copier → VersionAt → List VersionAt → Turn → Option Progress
copied_by by one more (AtDoor place (doors.Call node inc (calls.Get name) answer)) =
    if_so (same_incarnation by.who (incarnation node inc) && bytes_eq (version_name one.key one.id) name) (if finds_copy one answer then copies_on by more else MustFence by false)
copied_by by one more turn = fenced_by by false turn

-- where a turn stands at the door
abbrev pub place_of : Turn → ℕ
place_of (AtDoor place act) = place
place_of turn = 0

-- the next position of a copy
abbrev pub advance_copy : Ends → Progress → Turn → Option Progress
advance_copy ends NotBegun (AtDoor place (doors.Up node inc)) =
    if_so (is_next_copier ends place (incarnation node inc))
    (CopyRecords (record { who = incarnation node inc; place = place }) (scan_of copy_limit (incarnation node inc) records_prefix))
advance_copy ends NotBegun turn = told_by_office tells_not_begun turn
advance_copy ends (CopyRecords by scan) turn = paged_by (behind_copied_records by) (scanned_by scan turn) (fenced_by by false turn)
advance_copy ends (CopyMarkers by records scan) turn = paged_by (behind_copied_markers ends by records (place_of turn)) (scanned_by scan turn) (fenced_by by false turn)
advance_copy ends (Copying by (one ∷ more)) turn = copied_by by one more turn
advance_copy ends (MustFence by whole) turn = fenced_by by whole turn
advance_copy ends (HasFenced whole) turn = told_by_office (tells_copy whole) turn
advance_copy ends position turn = None

-- ---- rounds of orphans

-- the one way to stand, if a test is passed
abbrev pub stands_if : Bool → Standing → List Standing
stands_if passed standing = if passed then standing ∷ [] else []

-- behind a claim of a UUID: it may be for each version of it that is left, and those before that one were passed over
abbrev pub held_for : List ℕ → List VersionAt → List Standing
held_for uuid [] = []
held_for uuid (one ∷ rest) = if bytes_eq uuid one.id.uuid then Holds (record { one = one; rest = rest }) ∷ held_for uuid rest else held_for uuid rest

abbrev pub claimed_at_desk : List VersionAt → Turn → List Standing
claimed_at_desk left (AtDoor place (doors.Claim uuid node inc)) = if same_incarnation the_office (incarnation node inc) then held_for uuid left else []
claimed_at_desk left turn = []

-- the release of a round's claim: it goes on with what is left, or must answer
abbrev pub freed_at_desk : Bool → Holding → Turn → List Standing
freed_at_desk goes_on held (AtDoor place (doors.Release uuid node inc)) =
    stands_if (same_incarnation the_office (incarnation node inc) && bytes_eq held.one.id.uuid uuid) (if goes_on then HasLeft held.rest else MustTell)
freed_at_desk goes_on held turn = []

-- behind a look at a name
abbrev pub behind_desk_look : Holding → List ℕ → Standing → KeeperAnswer → Standing
behind_desk_look held name next Failed = MustFree true held
behind_desk_look held name next answer =
    if list_any (λ pair. is_listed held.one.id (ids_in pair)) (found_pair name answer) then MustFree true held
    else if list_any (λ pair. not (has_reading pair)) (found_pair name answer) then MustFree false held
    else next

-- a look of a round at a name, or its release for want of memory
abbrev pub looked_at_desk : Holding → List ℕ → Standing → Turn → List Standing
looked_at_desk held name next (AtDoor place (doors.Call node inc (calls.Get got) answer)) =
    stands_if (same_incarnation the_office (incarnation node inc) && bytes_eq name got) (behind_desk_look held name next answer)
looked_at_desk held name next turn = freed_at_desk false held turn

-- the delete of a version, or the release for want of memory
abbrev pub deleted_at_desk : Holding → Turn → List Standing
deleted_at_desk held (AtDoor place (doors.Call node inc (calls.Delete name) answer)) =
    stands_if (same_incarnation the_office (incarnation node inc) && bytes_eq (version_name held.one.key held.one.id) name) (MustFree true held)
deleted_at_desk held turn = freed_at_desk false held turn

-- the ways to stand behind one turn more
abbrev pub moved_at_desk : Turn → Standing → List Standing
moved_at_desk turn (HasLeft left) = claimed_at_desk left turn
moved_at_desk turn (Holds held) = looked_at_desk held (record_name held.one.id.uuid) (LookedOnce held) turn
moved_at_desk turn (LookedOnce held) = looked_at_desk held (marker_name held.one.id.uuid) (LookedTwice held) turn
moved_at_desk turn (LookedTwice held) = deleted_at_desk held turn
moved_at_desk turn (MustFree goes_on held) = freed_at_desk goes_on held turn
moved_at_desk turn MustTell = []

-- whether a turn is the answer of a round that may stand so: with its counts where nothing is left, and else with them or, since it went no further, without
abbrev pub told_at_desk : Turn → Standing → Bool
told_at_desk turn (HasLeft []) = ends_at_office (tells_round true) (turn ∷ [])
told_at_desk turn (HasLeft left) = ends_at_office office_answers (turn ∷ [])
told_at_desk turn MustTell = ends_at_office (tells_round false) (turn ∷ [])
told_at_desk turn standing = false

-- what a round holds behind one turn more
abbrev pub desk_behind : Option AtDesk → Turn → Option AtDesk
desk_behind desk (AtDoor place (doors.Claim uuid node inc)) = Some (record { uuid = uuid; place = place })
desk_behind desk (AtDoor place (doors.Release uuid node inc)) = None
desk_behind desk turn = desk

-- a round that may stand in some way, if there is one
abbrev pub in_round : Option AtDesk → List Standing → Option Progress
in_round desk [] = None
in_round desk (standing ∷ standings) = Some (InRound desk (standing ∷ standings))

abbrev pub behind_orphan_page : Scan → Progress
behind_orphan_page (GoesOn scan) = OrphanScan scan
behind_orphan_page (HasEnded true scan) = InRound None (HasLeft (found_on scan.listed) ∷ [])
behind_orphan_page (HasEnded false scan) = InRound None (MustTell ∷ [])

-- the next position of a round of orphans. Where several versions have one UUID, which of them a claim is for may not show before the delete, so each way is kept
abbrev pub advance_orphans : List ℕ → Progress → Turn → Option Progress
advance_orphans key NotBegun turn = paged_by behind_orphan_page (scanned_by (scan_of versions_limit the_office (versions_prefix key)) turn) (told_by_office (tells_round false) turn)
advance_orphans key (OrphanScan scan) turn = paged_by behind_orphan_page (scanned_by scan turn) (told_by_office (tells_round false) turn)
advance_orphans key (InRound desk standings) turn =
    if list_any (told_at_desk turn) standings then Some IsOver else in_round (desk_behind desk turn) (flat_map (moved_at_desk turn) standings)
advance_orphans key position turn = None

-- ---- first turns

-- the first turn of a begin or a forget
abbrev pub begun_with : NodeAct → Option Progress
begun_with acts.Nothing = Some IsOver
begun_with (acts.Admit a uuid) = Some (Admitted (record { attempt = a; uuid = uuid }))
begun_with act = None

-- the first turn of a get
abbrev pub got_with : NodeAct → Option Progress
got_with acts.Nothing = Some IsOver
got_with (acts.Select a key (picked.Fetch id)) = Some (Fetching a key id)
got_with (acts.Select a key pick) = Some IsOver
got_with act = None

-- the first turn of a commit or an abort, after the part of its node
abbrev pub settled_with : Bool → Attempt → List NodeEntry → Option Commit → Option Progress
settled_with aborts a part None = None
settled_with aborts a part (Some c) = Some (Settling aborts (storing_of a part c))

abbrev pub finished_with : Bool → List NodeEntry → NodeAct → Option Progress
finished_with aborts part acts.Nothing = Some IsOver
finished_with aborts part (acts.Leave a) = if_so (leaves aborts (buffer a part)) (MustLeave aborts a (uuid_of a part))
finished_with false part (acts.Start a now c) = Some (IsStoring (storing_of a part c) (buffer a part))
finished_with aborts part (acts.Settle a) = settled_with aborts a part (fixed_commit (attempt_state a part))
finished_with aborts part act = None

-- the first turn of a start
abbrev pub started_with : ℕ → NodeAct → Option Progress
started_with node acts.Nothing = Some IsOver
started_with node (acts.Booting inc) = Some (MustComeUp (incarnation node inc))
started_with node act = None

-- a first turn at a node, by what it does there
abbrev pub at_first_node : (ℕ → List NodeEntry → NodeAct → Option Progress) → Turn → Option Progress
at_first_node then_at (AtNode node before entry) = then_at node before entry.act
at_first_node then_at turn = None

-- ---- any line

-- the turns of a line whose positions aren't told apart: the last one answers, and then they are its course
abbrev pub goes_along : Command → List ℕ → Ends → List Turn → Turn → Option Progress
goes_along command nodes ends made turn =
    if not (is_some (answer_in turn)) then Some (Along (made ++ turn ∷ [])) else if_so (follows_course command nodes ends (made ++ turn ∷ [])) IsOver

-- the turns that a line whose positions aren't told apart has made
abbrev pub made_along : Progress → List Turn
made_along (Along made) = made
made_along position = []

-- the position of a line of a command behind one turn more, if the turn may come
abbrev pub begins_at : Command → List ℕ → Ends → Turn → Option Progress
begins_at (commands.Begin uuid node) nodes ends turn = at_first_node (λ at before act. begun_with act) turn
begins_at (commands.Forget uuid node) nodes ends turn = at_first_node (λ at before act. begun_with act) turn
begins_at (commands.Get key) nodes ends turn = at_first_node (λ at before act. got_with act) turn
begins_at commands.Commit nodes ends turn = at_first_node (λ at before act. finished_with false (part before) act) turn
begins_at commands.Abort nodes ends turn = at_first_node (λ at before act. finished_with true (part before) act) turn
begins_at (commands.Start node) nodes ends turn = at_first_node (λ at before act. started_with at act) turn
begins_at (commands.Orphans key) nodes ends turn = advance_orphans key NotBegun turn
begins_at commands.Backup nodes ends turn = advance_copy ends NotBegun turn
begins_at command nodes ends turn = goes_along command nodes ends [] turn

abbrev pub goes_on_at : Command → List ℕ → Ends → Progress → Turn → Option Progress
goes_on_at (commands.Begin uuid node) nodes ends position turn = advance_claim ends false position turn
goes_on_at (commands.Forget uuid node) nodes ends position turn = advance_claim ends true position turn
goes_on_at (commands.Get key) nodes ends position turn = advance_get ends position turn
goes_on_at commands.Commit nodes ends position turn = advance_finish ends position turn
goes_on_at commands.Abort nodes ends position turn = advance_finish ends position turn
goes_on_at (commands.Start node) nodes ends position turn = advance_start ends position turn
goes_on_at (commands.Orphans key) nodes ends position turn = advance_orphans key position turn
goes_on_at commands.Backup nodes ends position turn = advance_copy ends position turn
goes_on_at command nodes ends position turn = goes_along command nodes ends (made_along position) turn

abbrev pub advance : Command → List ℕ → Ends → Progress → Turn → Option Progress
advance command nodes ends NotBegun turn = begins_at command nodes ends turn
advance command nodes ends position turn = goes_on_at command nodes ends position turn

-- the next position, if there is one
abbrev pub advanced : (Progress → Turn → Option Progress) → Option Progress → Turn → Option Progress
advanced step None turn = None
advanced step (Some position) turn = step position turn

-- where the turns of a line lead, if they lead somewhere
abbrev pub leads_to : Command → List ℕ → Ends → List Turn → Option Progress
leads_to command nodes ends line = fold (advanced (advance command nodes ends)) (Some NotBegun) line

-- whether a position, if there is one, is behind a line's last turn
abbrev pub is_led_to_end : Option Progress → Bool
is_led_to_end None = false
is_led_to_end (Some position) = has_ended position
