-- The course of a collection: what it scans, its work list, and for each commit of it the turns that retire it.
use Rattle.std.specs.Prelude.{Bool, List, None, Option, Some, [], false, filter, if◌then◌else◌, map, true, ℕ, ◌&&◌, ◌++◌, ◌==◌, ◌∷◌}
use Rattle.std.specs.List.{flat_map, fold, list_all, list_any}
use Rattle.std.specs.Str.{bytes_eq}
use Rattle.aft_id.specs.declared.txn_id.TxnId.{TxnId}
use Rattle.aft_id.specs.TxnId.{id_lt, same_id}
use Rattle.aft_keeper.specs.declared.keeper.KeeperAnswer.{KeeperAnswer}
use Rattle.aft_keeper.specs.declared.keeper.KeeperCall.TheVariants.{Delete, Put}
use Rattle.aft_keeper.specs.declared.keeper.Pair.{Pair}
use Rattle.aft_records.specs.declared.stored.Commit.{Commit}
use Rattle.aft_records.specs.declared.stored.Marker.{Marker}
use Rattle.aft_records.specs.declared.stored.Marker.TheVariants.{Done, Full}
use Rattle.aft_records.specs.Commits.{is_among, same_commit}
use Rattle.aft_records.specs.Superseded.{is_superseded}
use Rattle.aft_model.specs.declared.node.NodeAct.{NodeAct}
use Rattle.aft_model.specs.declared.office.OfficeAct.{OfficeAct}
use Rattle.aft_model.specs.declared.reply.Reply.{Reply}
use Rattle.aft_model.specs.Committed.{marks_in}
use Rattle.aft_model.specs.Membership.{Incarnation, incarnation, same_incarnation, the_office}
use Rattle.aft_model.specs.NodeState.{Service, service}
use Rattle.aft_model.specs.Readings.{markers_in, record_name, version_name}
use Rattle.aft_model.specs.Sound.{markers_prefix, recorded, records_prefix}
use Rattle.aft_model.specs.Stages.{is_acknowledged}
use Rattle.aft_lines.specs.CourseWords.{Ends, ends_at_office, is_over, tells_no_memory}
use Rattle.aft_lines.specs.ScanCourse.{Scanned, names_limit, scanned}
use Rattle.aft_lines.specs.Turns.{AtDoor, AtNode, AtOffice, Turn, end_front}
use Rattle.aft_model.specs.declared.door.DoorAct.TheVariants as door_acts
use Rattle.aft_model.specs.declared.node.NodeAct.TheVariants as node_acts
use Rattle.aft_model.specs.declared.office.OfficeAct.TheVariants as office_acts
use Rattle.aft_model.specs.declared.reply.Reply.TheVariants as replies

-- ---- the work list

-- a commit to retire, and whether its full marker was shown
pub record Work : Type 0 where
  pub commit : Commit
  pub is_marked : Bool

-- the commits of the full markers among pairs
abbrev pub marked_on : List Pair → List Commit
marked_on pairs = flat_map marks_in pairs

-- the records that the records shown beside them supersede
abbrev pub superseded_on : List Pair → List Commit
superseded_on pairs = filter (λ c. is_superseded c (recorded pairs)) (recorded pairs)

-- works in id order with one more, unless its commit is there
abbrev pub with_work : List Work → Work → List Work
with_work [] work = work ∷ []
with_work (other ∷ works) work =
    if same_commit work.commit other.commit then other ∷ works
    else if id_lt work.commit.id other.commit.id then work ∷ other ∷ works
    else other ∷ with_work works work

-- the work list: each commit of a full marker that was shown, and each record that was shown and that the shown records supersede, once each, in id order
abbrev pub work_list : List Pair → List Pair → List Work
work_list records markers =
    fold with_work [] (map (λ c. record { commit = c; is_marked = true }) (marked_on markers) ++ map (λ c. record { commit = c; is_marked = false }) (superseded_on records))

-- ---- the turns for one commit

-- how the turns for a commit ended: its short marker was acknowledged, a call failed, its full marker was refused since an incarnation had not given it up, or memory was wanting
pub data WorkEnd : Type 0 where
  IsRetired : WorkEnd
  IsFaulted : WorkEnd
  IsHeld : WorkEnd
  IsCut : WorkEnd

-- how the turns for a commit ended, and the turns behind them
pub record Worked : Type 0 where
  pub end : WorkEnd
  pub behind : List Turn

abbrev pub worked : WorkEnd → List Turn → Worked
worked end behind = record { end = end; behind = behind }

-- whether a marker is the short one of this id
abbrev pub is_done : TxnId → Marker → Bool
is_done id (Done other) = same_id id other
is_done id (Full c) = false

-- whether a put is of this marker
abbrev pub is_marker : Marker → Pair → Bool
is_marker (Full c) pair = is_among c (marks_in pair)
is_marker (Done id) pair = list_any (is_done id) (markers_in pair)

-- behind a call of the office: it goes on where it was acknowledged, and the commit is at fault where it failed
abbrev pub if_acknowledged : KeeperAnswer → (List Turn → Worked) → List Turn → Worked
if_acknowledged answer go_on line = if is_acknowledged answer then go_on line else worked IsFaulted line

-- a put of a marker by the office, and what follows; where it makes no entry it was refused
abbrev pub marks : Marker → WorkEnd → (List Turn → Worked) → List Turn → Worked
marks marker refused go_on (AtDoor place (door_acts.Call node inc (Put name bytes) answer) ∷ line) =
    if same_incarnation the_office (incarnation node inc) && is_marker marker (record { name = name; bytes = bytes }) then if_acknowledged answer go_on line
    else worked refused (AtDoor place (door_acts.Call node inc (Put name bytes) answer) ∷ line)
marks marker refused go_on line = worked refused line

-- a delete of a name by the office, and what follows; where it makes no entry memory was wanting
abbrev pub removes : List ℕ → (List Turn → Worked) → List Turn → Worked
removes name go_on (AtDoor place (door_acts.Call node inc (Delete deleted) answer) ∷ line) =
    if same_incarnation the_office (incarnation node inc) && bytes_eq name deleted then if_acknowledged answer go_on line
    else worked IsCut (AtDoor place (door_acts.Call node inc (Delete deleted) answer) ∷ line)
removes name go_on line = worked IsCut line

-- the deletes of a commit's versions, in key order, and then its short marker
abbrev pub removes_versions : TxnId → List (List ℕ) → List Turn → Worked
removes_versions id [] line = marks (Done id) IsCut (worked IsRetired) line
removes_versions id (key ∷ keys) line = removes (version_name key id) (removes_versions id keys) line

-- the second part: the delete of the record, those of the versions, and the short marker
abbrev pub removes_all : Commit → List Turn → Worked
removes_all c line = removes (record_name c.id.uuid) (removes_versions c.id c.keys) line

-- whether an act is the give-up of this id
abbrev pub is_give_up : TxnId → NodeAct → Bool
is_give_up id (node_acts.GiveUp given) = same_id id given
is_give_up id act = false

-- behind a node's give-up: that of the door, by the incarnation that serves there. It makes no entry where that was shut out by the front of the line's end; else memory was wanting
abbrev pub at_door_too : Ends → ℕ → Incarnation → TxnId → (List Turn → Worked) → List Turn → Worked
at_door_too ends front who id go_on (AtDoor place (door_acts.GiveUp node inc given) ∷ line) =
    if same_incarnation who (incarnation node inc) && same_id id given then go_on line else worked IsCut (AtDoor place (door_acts.GiveUp node inc given) ∷ line)
at_door_too ends front who id go_on line = if ends.is_shut_out who front then go_on line else worked IsCut line

-- the incarnation of a node in this service
abbrev pub served_by : ℕ → Option Service → Incarnation
served_by node None = incarnation node 0
served_by node (Some serving) = incarnation node serving.inc

-- a collection on its way: what its ends rest on, and the front at which it ends
pub record Collecting : Type 0 where
  pub ends : Ends
  pub front : ℕ

-- the first part: these nodes give the commit up, in order, each at the node and then at the door, and then its full marker is put. A node that makes no give-up need not have given it up when it was asked, between the rest of the line where this part began and the one where all were asked. Where the marker makes no entry an incarnation had not given the commit up, or memory was wanting
abbrev pub marks_commit : Collecting → Commit → List Turn → List ℕ → List ℕ → List Turn → Worked
marks_commit way c begun silent [] line =
    if list_all (λ node. way.ends.is_kept node c begun line) silent then marks (Full c) IsHeld (removes_all c) line else worked IsCut line
marks_commit way c begun silent (node ∷ nodes) (AtNode at before entry ∷ line) =
    if node == at && is_give_up c.id entry.act
    then at_door_too way.ends way.front (served_by node (service before)) c.id (marks_commit way c begun silent nodes) line
    else marks_commit way c begun (node ∷ silent) nodes (AtNode at before entry ∷ line)
marks_commit way c begun silent (node ∷ nodes) line = marks_commit way c begun (node ∷ silent) nodes line

-- the turns for a commit of the work list; where its full marker was shown, the first part is left out
abbrev pub works_on : Collecting → List ℕ → Work → List Turn → Worked
works_on way nodes work line = if work.is_marked then removes_all work.commit line else marks_commit way work.commit line [] nodes line

-- ---- the whole collection

-- a commit that was worked on, and how that ended
pub record Ended : Type 0 where
  pub commit : Commit
  pub end : WorkEnd

-- how a work list was worked on: each commit whose turns came to an end, and the turns behind them
pub record Collection : Type 0 where
  pub ended : List Ended
  pub behind : List Turn

-- whether the turns for a commit were cut short
abbrev pub is_cut : WorkEnd → Bool
is_cut IsCut = true
is_cut end = false

-- a collection with one commit more in front
abbrev pub with_ended : Ended → Collection → Collection
with_ended ended collection = record { ended = ended ∷ collection.ended; behind = collection.behind }

-- the turns for a work list, in order, up to the first that was cut short
abbrev pub works_through : Collecting → List ℕ → List Work → List Turn → Collection
works_through way nodes [] line = record { ended = []; behind = line }
works_through way nodes (work ∷ works) line =
    with_ended (record { commit = work.commit; end = (works_on way nodes work line).end })
    (if is_cut (works_on way nodes work line).end then record { ended = []; behind = (works_on way nodes work line).behind }
    else works_through way nodes works (works_on way nodes work line).behind)

-- behind both scan runs, if they were whole: the work list's turns
abbrev pub behind_scans : Collecting → List ℕ → Scanned → Scanned → Collection
behind_scans way nodes records markers =
    if markers.is_whole then works_through way nodes (work_list records.listed markers.listed) markers.behind else record { ended = []; behind = markers.behind }

-- the scan runs of a collection: that of records, and that of markers behind it
abbrev pub records_scan : List Turn → Scanned
records_scan line = scanned names_limit the_office records_prefix line

abbrev pub markers_scan : List Turn → Scanned
markers_scan line = scanned names_limit the_office markers_prefix (records_scan line).behind

-- whether both scan runs of a collection, whose turns behind its first are these, were whole
abbrev pub is_scanned_whole : List Turn → Bool
is_scanned_whole line = (records_scan line).is_whole && (markers_scan line).is_whole

-- the collection of a line, behind its first turn: the scan run of records, that of markers, and the work
abbrev pub collection : Ends → List ℕ → List Turn → Collection
collection ends nodes line =
    if (records_scan line).is_whole
    then behind_scans (record { ends = ends; front = end_front line }) nodes (records_scan line) (markers_scan line)
    else record { ended = []; behind = (records_scan line).behind }

-- what a collection that came through its scan runs answers: its verdicts, or where it was cut short that memory was wanting; and before that why it stopped
abbrev pub tells_collected : Bool → Bool → Option Reply → Bool
tells_collected false cut (Some (replies.Collected judged)) = false
tells_collected false cut answer = true
tells_collected true false (Some (replies.Collected judged)) = true
tells_collected true cut answer = tells_no_memory answer

-- a collection ends at the office
abbrev pub is_collected : Bool → Bool → OfficeAct → Option Reply → Bool
is_collected whole cut office_acts.Collected answer = tells_collected whole cut answer
is_collected whole cut act answer = false

-- whether the last commit that was worked on was cut short
abbrev pub was_cut : List Ended → Bool
was_cut ended = list_any (λ one. is_cut one.end) ended

-- whether a reply tells that another collection runs
abbrev pub tells_collecting : Option Reply → Bool
tells_collecting (Some replies.Collecting) = true
tells_collecting answer = false

-- after the first turn of a collection: another one runs, or the collection runs to its end
abbrev pub collect_after : Ends → List ℕ → OfficeAct → Option Reply → List Turn → Bool
collect_after ends nodes office_acts.Nothing answer line = is_over line && tells_collecting answer
collect_after ends nodes office_acts.Collecting answer line =
    ends_at_office (is_collected (is_scanned_whole line) (was_cut (collection ends nodes line).ended)) (collection ends nodes line).behind
collect_after ends nodes act answer line = false

-- the course of a collection over these nodes
abbrev pub collect_course : List ℕ → Ends → List Turn → Bool
collect_course nodes ends (AtOffice before entry ∷ line) = collect_after ends nodes entry.act entry.answer line
collect_course nodes ends line = false
