-- The turns of the lines whose positions aren't told apart.
use Rattle.std.proofs.Common.{◌≡◌, ◌++◌, ℕ, Bool, true, false, ◌&&◌, ◌||◌, eqb, List, [], ◌∷◌, refl, subst}
use Rattle.std.specs.Prelude.{IsTrue, Option, Some, None, if◌then◌else◌}
use Rattle.std.specs.List.{flat_map, list_all, list_any}
use Rattle.std.specs.Str.{bytes_eq}
use Rattle.std.proofs.lemmas.Bool.{and_from, and_parts, or_left, or_right}
use Rattle.aft_id.specs.declared.txn_id.TxnId.{TxnId}
use Rattle.aft_id.specs.TxnId.{same_id}
use Rattle.aft_keeper.specs.declared.keeper.KeeperAnswer.{KeeperAnswer}
use Rattle.aft_keeper.specs.declared.keeper.KeeperAnswer.TheVariants.{Page}
use Rattle.aft_keeper.specs.declared.keeper.KeeperCall.TheVariants as calls
use Rattle.aft_keeper.specs.declared.keeper.Pair.{Pair}
use Rattle.aft_records.specs.declared.stored.Commit.{Commit}
use Rattle.aft_records.specs.declared.stored.Marker.{Marker}
use Rattle.aft_records.specs.declared.stored.Marker.TheVariants.{Done, Full}
use Rattle.aft_records.specs.Commits.{is_among}
use Rattle.aft_records.specs.Reading.{marker_of}
use Rattle.aft_model.specs.declared.door.DoorAct.TheVariants as doors
use Rattle.aft_model.specs.declared.node.NodeAct.{NodeAct}
use Rattle.aft_model.specs.declared.node.NodeAct.TheVariants as acts
use Rattle.aft_model.specs.declared.node.NodeEntry.{NodeEntry}
use Rattle.aft_model.specs.declared.office.OfficeAct.{OfficeAct}
use Rattle.aft_model.specs.declared.office.OfficeAct.TheVariants as office_acts
use Rattle.aft_model.specs.declared.office.OfficeEntry.{OfficeEntry}
use Rattle.aft_model.specs.declared.reply.Reply.{Reply}
use Rattle.aft_model.specs.declared.script.Command.TheVariants as commands
use Rattle.aft_model.specs.Committed.{retired_by}
use Rattle.aft_model.specs.Membership.{Incarnation, incarnation, same_incarnation, the_office}
use Rattle.aft_model.specs.NodeState.{NodeState, node_state, service}
use Rattle.aft_model.specs.Readings.{id_of_marker, marker_name, record_name, version_name}
use Rattle.aft_model.specs.ScanRun.{next_after, page_limit}
use Rattle.aft_model.specs.Sound.{markers_prefix, records_prefix}
use Rattle.aft_model.specs.Stages.{is_acknowledged}
use Rattle.aft_model.proofs.Sights.{same_bytes}
use Rattle.aft_lines.specs.CollectCourse.{Collecting, IsCut, IsFaulted, IsHeld, IsRetired, Work, WorkEnd, Worked, at_door_too, behind_scans, collect_after, collect_course, collection, if_acknowledged, is_collected, is_cut, is_done, is_give_up, is_marker, is_scanned_whole, marks, marks_commit, markers_scan, records_scan, removes, removes_all, removes_versions, served_by, was_cut, work_list, worked, works_on, works_through}
use Rattle.aft_lines.specs.CourseWords.{Ends, ends_at_node, ends_at_office, is_over, only_answers}
use Rattle.aft_lines.specs.LineCourse.{announce_after, announce_course, crash_course, drops_or_answers, ends_down, ends_round, goes_down, learns_or_answers, manager_course, puts_or_answers, round_after, round_course, single_course, tells_not_up}
use Rattle.aft_lines.specs.ScanCourse.{ScanLimit, names_limit, scanned_from, stopped_at, stops_at}
use Rattle.aft_lines.specs.Turns.{AtDoor, AtNode, AtOffice, Turn, end_front}
use Rattle.law_rounds.proofs.Scans.{is_own, page_left}
use Rattle.aft_lines.specs.Makes.{all_versions, collects_at_node, collects_at_office, crashes_at_node, delivers_at_node, drops_at_node, is_under, makes, manages_at_office, puts_at_node}
use Rattle.law_makes.proofs.Well.{reads_under}

first_part : (a b c d : Bool) → IsTrue (a && b && c && d) → IsTrue a
first_part true b c d is = refl
first_part false b c d is = absurd (cc)

-- ---- ends, and scans

module _ (made : Turn → Bool) where
  abbrev pub all_made : List Turn → Bool
  all_made line = list_all made line

  node_end : (node : ℕ) (test : NodeState → NodeEntry → Bool) → ((at : ℕ) (before : List NodeEntry) (entry : NodeEntry) → IsTrue (test (node_state before) entry) → IsTrue (made (AtNode at before entry))) → (line : List Turn) → IsTrue (ends_at_node node test line) → IsTrue (all_made line)
  node_end node test so [] is = refl
  node_end node test so (AtDoor place act ∷ line) is = absurd (cc)
  node_end node test so (AtOffice before entry ∷ line) is = absurd (cc)
  node_end node test so (AtNode at before entry ∷ turn ∷ line) is = absurd (cc)
  node_end node test so (AtNode at before entry ∷ []) is = and_from _ _ (so at before entry (and_parts (eqb node at) (test (node_state before) entry) is).1) refl

  office_end : (test : OfficeAct → Option Reply → Bool) → ((before : List OfficeEntry) (entry : OfficeEntry) → IsTrue (test entry.act entry.answer) → IsTrue (made (AtOffice before entry))) → (line : List Turn) → IsTrue (ends_at_office test line) → IsTrue (all_made line)
  office_end test so [] is = refl
  office_end test so (AtDoor place act ∷ line) is = absurd (cc)
  office_end test so (AtNode at before entry ∷ line) is = absurd (cc)
  office_end test so (AtOffice before entry ∷ turn ∷ line) is = absurd (cc)
  office_end test so (AtOffice before entry ∷ []) is = and_from _ _ (so before entry is) refl

  module _ (limit : ScanLimit) (who : Incarnation) (prefix : List ℕ)
      (page : (place node inc : ℕ) (begins after : List ℕ) (most : ℕ) (answer : KeeperAnswer) → IsTrue (same_incarnation who (incarnation node inc)) → IsTrue (made (AtDoor place (doors.Call node inc (calls.Scan begins after most) answer)))) where
    -- a scan's turns are made where those behind it are
    scan_made : (after : List ℕ) (listed : List Pair) (line : List Turn) → IsTrue (all_made (scanned_from limit who prefix after listed line).behind) → IsTrue (all_made line)
    scan_made after listed [] is = refl
    scan_made after listed (AtDoor place (doors.Call node inc (calls.Scan begins from most) (Page pairs)) ∷ line) is =
        parts (is_own limit who prefix after node inc begins from most) (stops_at limit listed pairs) (next_after (record { after = after; listed = pairs }))
        (λ so. page place node inc begins from most (Page pairs) (first_part (same_incarnation who (incarnation node inc)) (bytes_eq prefix begins) (bytes_eq after from) (eqb most page_limit) so)) (λ name so. scan_made name (listed ++ pairs) line so) is
      where
        parts : (own stops : Bool) (next : Option (List ℕ)) → (IsTrue own → IsTrue (made (AtDoor place (doors.Call node inc (calls.Scan begins from most) (Page pairs)))))
            → ((name : List ℕ) → IsTrue (all_made (scanned_from limit who prefix name (listed ++ pairs) line).behind) → IsTrue (all_made line))
            → IsTrue (all_made (page_left limit who prefix own stops next listed (listed ++ pairs) (AtDoor place (doors.Call node inc (calls.Scan begins from most) (Page pairs))) line).behind)
            → IsTrue (all_made (AtDoor place (doors.Call node inc (calls.Scan begins from most) (Page pairs)) ∷ line))
        parts true true next own_so go_on so = and_from _ _ (own_so refl) so
        parts true false None own_so go_on so = and_from _ _ (own_so refl) so
        parts true false (Some name) own_so go_on so = and_from _ _ (own_so refl) (go_on name so)
        parts false stops next own_so go_on so = so
    scan_made after listed (AtDoor place (doors.Call node inc (calls.Scan begins from most) answer) ∷ line) is =
        parts (is_own limit who prefix after node inc begins from most) (λ so. page place node inc begins from most answer (first_part (same_incarnation who (incarnation node inc)) (bytes_eq prefix begins) (bytes_eq after from) (eqb most page_limit) so)) is
      where
        parts : (own : Bool) → (IsTrue own → IsTrue (made (AtDoor place (doors.Call node inc (calls.Scan begins from most) answer))))
            → IsTrue (all_made (if own then stopped_at listed line else stopped_at listed (AtDoor place (doors.Call node inc (calls.Scan begins from most) answer) ∷ line)).behind)
            → IsTrue (all_made (AtDoor place (doors.Call node inc (calls.Scan begins from most) answer) ∷ line))
        parts true own_so so = and_from _ _ (own_so refl) so
        parts false own_so so = so
    scan_made after listed line is = is

-- ---- lines of one turn at a node, announcements and crashes

pub single_made : (made : Turn → Bool) (test : NodeAct → Option Reply → Bool) → ((node : ℕ) (before : List NodeEntry) (entry : NodeEntry) → IsTrue (test entry.act entry.answer) → IsTrue (made (AtNode node before entry))) → (line : List Turn) → IsTrue (single_course test line) → IsTrue (all_made made line)
single_made made test so [] is = refl
single_made made test so (AtDoor place act ∷ line) is = absurd (cc)
single_made made test so (AtOffice before entry ∷ line) is = absurd (cc)
single_made made test so (AtNode node before entry ∷ turn ∷ line) is = absurd (cc)
single_made made test so (AtNode node before entry ∷ []) is = and_from _ _ (so node before entry is) refl

pub put_act : (act : NodeAct) (answer : Option Reply) → IsTrue (puts_or_answers act answer) → IsTrue (puts_at_node act)
put_act acts.Nothing answer so = refl
put_act (acts.Put a key value) answer so = refl
put_act act answer so = absurd (cc)

pub learn_act : (act : NodeAct) (answer : Option Reply) → IsTrue (learns_or_answers act answer) → IsTrue (delivers_at_node act)
learn_act acts.Nothing answer so = refl
learn_act (acts.Learn commits) answer so = refl
learn_act act answer so = absurd (cc)

pub drop_act : (act : NodeAct) (answer : Option Reply) → IsTrue (drops_or_answers act answer) → IsTrue (drops_at_node act)
drop_act acts.Nothing answer so = refl
drop_act (acts.Drop ids) answer so = refl
drop_act act answer so = absurd (cc)

-- an answer alone at a node
alone_act : (act : NodeAct) (answer : Option Reply) → IsTrue (only_answers act answer) → act ≡ acts.Nothing
alone_act acts.Nothing answer so = refl
alone_act act answer so = absurd (cc)

module _ (home : ℕ) where
  abbrev announce_made : Turn → Bool
  announce_made = makes (commands.Announce home)

  announce_alone : (at : ℕ) (before : List NodeEntry) (entry : NodeEntry) → IsTrue (only_answers entry.act entry.answer) → IsTrue (announce_made (AtNode at before entry))
  announce_alone at before entry so = (let e = alone_act entry.act entry.answer so in rw e refl)

  pub announce_all : (line : List Turn) → IsTrue (announce_course line) → IsTrue (all_made announce_made line)
  announce_all [] is = refl
  announce_all (AtDoor place act ∷ line) is = absurd (cc)
  announce_all (AtOffice before entry ∷ line) is = absurd (cc)
  announce_all (AtNode node before entry ∷ line) is = by_act entry.act refl is
    where
      by_act : (act : NodeAct) → entry.act ≡ act → IsTrue (announce_after node act line) → IsTrue (all_made announce_made (AtNode node before entry ∷ line))
      by_act acts.Nothing e so = and_from _ _ (rw e refl) (none line so)
        where
          none : (l : List Turn) → IsTrue (is_over l) → IsTrue (all_made announce_made l)
          none [] over = refl
          none (turn ∷ l) over = absurd (cc)
      by_act (acts.Announce kept pruned) e so = and_from _ _ (rw e refl) (node_end announce_made node (λ state ended. only_answers ended.act ended.answer) announce_alone line so)
      by_act act e so = absurd (cc)

  abbrev crash_made : Turn → Bool
  crash_made = makes (commands.Crash home)

  down_act : (node inc : ℕ) (state : NodeState) (act : NodeAct) (answer : Option Reply) → IsTrue (goes_down node inc state act answer) → IsTrue (crashes_at_node act)
  down_act node inc state acts.Nothing answer so = refl
  down_act node inc state (acts.Down other) answer so = refl
  down_act node inc state act answer so = absurd (cc)

  down_made : (node inc : ℕ) (line : List Turn) → IsTrue (ends_down node inc line) → IsTrue (all_made crash_made line)
  down_made node inc [] is = refl
  down_made node inc (AtDoor place act ∷ line) is = absurd (cc)
  down_made node inc (AtOffice before entry ∷ line) is = absurd (cc)
  down_made node inc (AtNode at before entry ∷ turn ∷ line) is = absurd (cc)
  down_made node inc (AtNode at before entry ∷ []) is = and_from _ _ (down_act node inc (node_state before) entry.act entry.answer (and_parts (eqb node at) (goes_down node inc (node_state before) entry.act entry.answer) is).1) refl

  crash_alone : (node : ℕ) (at : ℕ) (before : List NodeEntry) (entry : NodeEntry) → IsTrue (tells_not_up node (node_state before) entry) → IsTrue (crash_made (AtNode at before entry))
  crash_alone node at before entry so = (let e = alone_act entry.act entry.answer (and_parts (only_answers entry.act entry.answer) _ so).0 in rw e refl)

  pub crash_all : (node : ℕ) (line : List Turn) → IsTrue (crash_course node line) → IsTrue (all_made crash_made line)
  crash_all node (AtDoor place (doors.Fence at inc) ∷ line) is = and_from _ _ refl (down_made node inc line (and_parts (eqb node at) (ends_down node inc line) is).1)
  crash_all node line is = node_end crash_made node (tells_not_up node) (crash_alone node) line is

-- ---- the manager

round_end : (act : OfficeAct) (answer : Option Reply) → IsTrue (ends_round act answer) → IsTrue (manages_at_office act)
round_end office_acts.Nothing answer so = refl
round_end (office_acts.Posted ids) answer so = refl
round_end act answer so = absurd (cc)

round_all : (whole : Bool) (line : List Turn) → IsTrue (round_course whole line) → IsTrue (all_made (makes commands.Manager) line)
round_all whole [] is = refl
round_all whole (AtDoor place act ∷ line) is = absurd (cc)
round_all whole (AtNode node before entry ∷ line) is = absurd (cc)
round_all whole (AtOffice before entry ∷ line) is = by_act entry.act refl is
  where
    none : (l : List Turn) → IsTrue (is_over l) → IsTrue (all_made (makes commands.Manager) l)
    none [] over = refl
    none (turn ∷ l) over = absurd (cc)

    never : (b : Bool) → IsTrue (b && false) → ⊥
    never true x = (cc)
    never false x = (cc)

    by_act : (act : OfficeAct) → entry.act ≡ act → IsTrue (round_after whole act line) → IsTrue (all_made (makes commands.Manager) (AtOffice before entry ∷ line))
    by_act (office_acts.Round heard missed) e so = and_from _ _ (rw e refl) (office_end (makes commands.Manager) ends_round (λ b en ok. round_end en.act en.answer ok) line (and_parts whole (ends_at_office ends_round line) so).1)
    by_act office_acts.Nothing e so = and_from _ _ (rw e refl) (none line (and_parts (is_over line) true so).0)
    by_act act e so = absurd (never (is_over line) so)

pub manager_all : (line : List Turn) → IsTrue (manager_course line) → IsTrue (all_made (makes commands.Manager) line)
manager_all line is = scan_made (makes commands.Manager) names_limit the_office records_prefix (λ place node inc begins after most answer so. so) [] [] line (round_all (records_scan line).is_whole (records_scan line).behind is)

-- ---- a collection

abbrev collect_made : Turn → Bool
collect_made = makes commands.Collect

abbrev all_collected : List Turn → Bool
all_collected line = all_made collect_made line

-- turns that are worked through leave such as were made, where what is behind them were
record Works (go_on : List Turn → Worked) : Type 0 where
  made : (line : List Turn) → IsTrue (all_collected (go_on line).behind) → IsTrue (all_collected line)

marker_under : (marker : Marker) (pair : Pair) → IsTrue (is_marker marker pair) → IsTrue (is_under markers_prefix pair.name)
marker_under (Full c) pair is = reads_under markers_prefix pair.name (λ m. marker_name (id_of_marker m).uuid) (marker_of pair.bytes) (λ ms. is_among c (flat_map retired_by ms)) refl (λ m. refl) is
marker_under (Done id) pair is = reads_under markers_prefix pair.name (λ m. marker_name (id_of_marker m).uuid) (marker_of pair.bytes) (λ ms. list_any (is_done id) ms) refl (λ m. refl) is

acknowledged : (acknowledges : Bool) (go_on : List Turn → Worked) → Works go_on → (line : List Turn) → IsTrue (all_collected (if acknowledges then go_on line else worked IsFaulted line).behind) → IsTrue (all_collected line)
acknowledged true go_on works line is = works.made line is
acknowledged false go_on works line is = is

marks_work : (marker : Marker) (refused : WorkEnd) (go_on : List Turn → Worked) → Works go_on → Works (marks marker refused go_on)
marks_work marker refused go_on works = record { made = so }
  where
    so : (line : List Turn) → IsTrue (all_collected (marks marker refused go_on line).behind) → IsTrue (all_collected line)
    so (AtDoor place (doors.Call node inc (calls.Put name bytes) answer) ∷ line) is =
        cases (same_incarnation the_office (incarnation node inc)) (is_marker marker (record { name = name; bytes = bytes })) (λ own its. and_from _ _ own (marker_under marker (record { name = name; bytes = bytes }) its)) (acknowledged (is_acknowledged answer) go_on works line) is
      where
        cases : (own its : Bool) → (IsTrue own → IsTrue its → IsTrue (collect_made (AtDoor place (doors.Call node inc (calls.Put name bytes) answer)))) → (IsTrue (all_collected (if_acknowledged answer go_on line).behind) → IsTrue (all_collected line))
            → IsTrue (all_collected (if own && its then if_acknowledged answer go_on line else worked refused (AtDoor place (doors.Call node inc (calls.Put name bytes) answer) ∷ line)).behind)
            → IsTrue (all_collected (AtDoor place (doors.Call node inc (calls.Put name bytes) answer) ∷ line))
        cases true true made_so behind is_so = and_from _ _ (made_so refl refl) (behind is_so)
        cases true false made_so behind is_so = is_so
        cases false its made_so behind is_so = is_so
    so line is = is

removes_work : (name : List ℕ) → IsTrue (is_under records_prefix name || is_under all_versions name) → (go_on : List Turn → Worked) → Works go_on → Works (removes name go_on)
removes_work name under go_on works = record { made = so }
  where
    so : (line : List Turn) → IsTrue (all_collected (removes name go_on line).behind) → IsTrue (all_collected line)
    so (AtDoor place (doors.Call node inc (calls.Delete deleted) answer) ∷ line) is =
        cases (same_incarnation the_office (incarnation node inc)) (bytes_eq name deleted) (λ own same. and_from _ _ own (both same)) (acknowledged (is_acknowledged answer) go_on works line) is
      where
        both : IsTrue (bytes_eq name deleted) → IsTrue (is_under records_prefix deleted || is_under all_versions deleted)
        both same = subst (λ (n : List ℕ). IsTrue (is_under records_prefix n || is_under all_versions n)) (same_bytes name deleted same) under

        cases : (own its : Bool) → (IsTrue own → IsTrue its → IsTrue (collect_made (AtDoor place (doors.Call node inc (calls.Delete deleted) answer)))) → (IsTrue (all_collected (if_acknowledged answer go_on line).behind) → IsTrue (all_collected line))
            → IsTrue (all_collected (if own && its then if_acknowledged answer go_on line else worked IsCut (AtDoor place (doors.Call node inc (calls.Delete deleted) answer) ∷ line)).behind)
            → IsTrue (all_collected (AtDoor place (doors.Call node inc (calls.Delete deleted) answer) ∷ line))
        cases true true made_so behind is_so = and_from _ _ (made_so refl refl) (behind is_so)
        cases true false made_so behind is_so = is_so
        cases false its made_so behind is_so = is_so
    so line is = is

retired : Works (worked IsRetired)
retired = record { made = λ line is. is }

versions_work : (id : TxnId) (keys : List (List ℕ)) → Works (removes_versions id keys)
versions_work id [] = record { made = (marks_work (Done id) IsCut (worked IsRetired) retired).made }
versions_work id (key ∷ keys) = record { made = (removes_work (version_name key id) (or_right (is_under records_prefix (version_name key id)) (is_under all_versions (version_name key id)) refl) (removes_versions id keys) (versions_work id keys)).made }

all_work : (c : Commit) → Works (removes_all c)
all_work c = record { made = (removes_work (record_name c.id.uuid) (or_left (is_under records_prefix (record_name c.id.uuid)) (is_under all_versions (record_name c.id.uuid)) refl) (removes_versions c.id c.keys) (versions_work c.id c.keys)).made }

door_too : (ends : Ends) (front : ℕ) (who : Incarnation) (id : TxnId) (go_on : List Turn → Worked) → Works go_on → Works (at_door_too ends front who id go_on)
door_too ends front who id go_on works = record { made = so }
  where
    otherwise : (shut : Bool) (line : List Turn) → IsTrue (all_collected (if shut then go_on line else worked IsCut line).behind) → IsTrue (all_collected line)
    otherwise true line is = works.made line is
    otherwise false line is = is

    so : (line : List Turn) → IsTrue (all_collected (at_door_too ends front who id go_on line).behind) → IsTrue (all_collected line)
    so (AtDoor place (doors.GiveUp node inc given) ∷ line) is = cases (same_incarnation who (incarnation node inc) && same_id id given) is
      where
        cases : (own : Bool) → IsTrue (all_collected (if own then go_on line else worked IsCut (AtDoor place (doors.GiveUp node inc given) ∷ line)).behind) → IsTrue (all_collected line)
        cases true is_so = works.made line is_so
        cases false is_so = is_so
    so line is = otherwise (ends.is_shut_out who front) line is

give_act : (id : TxnId) (act : NodeAct) → IsTrue (is_give_up id act) → IsTrue (collects_at_node act)
give_act id (acts.GiveUp given) so = refl
give_act id act so = absurd (cc)

commit_works : (way : Collecting) (c : Commit) (begun : List Turn) (nodes silent : List ℕ) → Works (marks_commit way c begun silent nodes)
commit_works way c begun [] silent = record { made = so }
  where
    cases : (kept : Bool) (line : List Turn) → IsTrue (all_collected (if kept then marks (Full c) IsHeld (removes_all c) line else worked IsCut line).behind) → IsTrue (all_collected line)
    cases true line is = (marks_work (Full c) IsHeld (removes_all c) (all_work c)).made line is
    cases false line is = is

    so : (line : List Turn) → IsTrue (all_collected (marks_commit way c begun silent [] line).behind) → IsTrue (all_collected line)
    so line is = cases (list_all (λ node. way.ends.is_kept node c begun line) silent) line is
commit_works way c begun (node ∷ nodes) silent = record { made = so (commit_works way c begun nodes silent) (commit_works way c begun nodes (node ∷ silent)) }
  where
    so : Works (marks_commit way c begun silent nodes) → Works (marks_commit way c begun (node ∷ silent) nodes) → (line : List Turn) → IsTrue (all_collected (marks_commit way c begun silent (node ∷ nodes) line).behind) → IsTrue (all_collected line)
    so gives passes (AtNode at before entry ∷ line) is = cases (eqb node at) (is_give_up c.id entry.act) (give_act c.id entry.act) is
      where
        cases : (here its : Bool) → (IsTrue its → IsTrue (collects_at_node entry.act))
            → IsTrue (all_collected (if here && its then at_door_too way.ends way.front (served_by node (service before)) c.id (marks_commit way c begun silent nodes) line else marks_commit way c begun (node ∷ silent) nodes (AtNode at before entry ∷ line)).behind)
            → IsTrue (all_collected (AtNode at before entry ∷ line))
        cases true true made_so is_so = and_from _ _ (made_so refl) ((door_too way.ends way.front (served_by node (service before)) c.id (marks_commit way c begun silent nodes) gives).made line is_so)
        cases true false made_so is_so = passes.made (AtNode at before entry ∷ line) is_so
        cases false its made_so is_so = passes.made (AtNode at before entry ∷ line) is_so
    so gives passes line is = passes.made line is

work_made : (way : Collecting) (nodes : List ℕ) (work : Work) (line : List Turn) → IsTrue (all_collected (works_on way nodes work line).behind) → IsTrue (all_collected line)
work_made way nodes work line is = cases work.is_marked is
  where
    cases : (marked : Bool) → IsTrue (all_collected (if marked then removes_all work.commit line else marks_commit way work.commit line [] nodes line).behind) → IsTrue (all_collected line)
    cases true so = (all_work work.commit).made line so
    cases false so = (commit_works way work.commit line nodes []).made line so

through_made : (way : Collecting) (nodes : List ℕ) (works : List Work) (line : List Turn) → IsTrue (all_collected (works_through way nodes works line).behind) → IsTrue (all_collected line)
through_made way nodes [] line is = is
through_made way nodes (work ∷ works) line is = cases (is_cut (works_on way nodes work line).end) (through_made way nodes works (works_on way nodes work line).behind) is
  where
    cases : (cut : Bool) → (IsTrue (all_collected (works_through way nodes works (works_on way nodes work line).behind).behind) → IsTrue (all_collected (works_on way nodes work line).behind))
        → IsTrue (all_collected (if cut then record { ended = []; behind = (works_on way nodes work line).behind } else works_through way nodes works (works_on way nodes work line).behind).behind) → IsTrue (all_collected line)
    cases true behind so = work_made way nodes work line so
    cases false behind so = work_made way nodes work line (behind so)

pages_made : (prefix : List ℕ) (line : List Turn) → IsTrue (all_collected (scanned_from names_limit the_office prefix [] [] line).behind) → IsTrue (all_collected line)
pages_made prefix line is = scan_made collect_made names_limit the_office prefix (λ place node inc begins after most answer so. and_from _ _ so refl) [] [] line is

collection_made : (ends : Ends) (nodes : List ℕ) (line : List Turn) → IsTrue (all_collected (collection ends nodes line).behind) → IsTrue (all_collected line)
collection_made ends nodes line is = pages_made records_prefix line (records (records_scan line).is_whole is)
  where
    markers : (whole : Bool) → IsTrue (all_collected (if whole then works_through (record { ends = ends; front = end_front line }) nodes (work_list (records_scan line).listed (markers_scan line).listed) (markers_scan line).behind else record { ended = []; behind = (markers_scan line).behind }).behind)
        → IsTrue (all_collected (markers_scan line).behind)
    markers true so = through_made (record { ends = ends; front = end_front line }) nodes (work_list (records_scan line).listed (markers_scan line).listed) (markers_scan line).behind so
    markers false so = so

    records : (whole : Bool) → IsTrue (all_collected (if whole then behind_scans (record { ends = ends; front = end_front line }) nodes (records_scan line) (markers_scan line) else record { ended = []; behind = (records_scan line).behind }).behind)
        → IsTrue (all_collected (records_scan line).behind)
    records true so = pages_made markers_prefix (records_scan line).behind (markers (markers_scan line).is_whole so)
    records false so = so

collected_end : (whole cut : Bool) (act : OfficeAct) (answer : Option Reply) → IsTrue (is_collected whole cut act answer) → IsTrue (collects_at_office act)
collected_end whole cut office_acts.Collected answer so = refl
collected_end whole cut act answer so = absurd (cc)

pub collect_all : (nodes : List ℕ) (ends : Ends) (line : List Turn) → IsTrue (collect_course nodes ends line) → IsTrue (all_collected line)
collect_all nodes ends [] is = refl
collect_all nodes ends (AtDoor place act ∷ line) is = absurd (cc)
collect_all nodes ends (AtNode node before entry ∷ line) is = absurd (cc)
collect_all nodes ends (AtOffice before entry ∷ line) is = by_act entry.act refl is
  where
    none : (l : List Turn) → IsTrue (is_over l) → IsTrue (all_collected l)
    none [] over = refl
    none (turn ∷ l) over = absurd (cc)

    by_act : (act : OfficeAct) → entry.act ≡ act → IsTrue (collect_after ends nodes act entry.answer line) → IsTrue (all_collected (AtOffice before entry ∷ line))
    by_act office_acts.Nothing e so = and_from _ _ (rw e refl) (none line (and_parts (is_over line) _ so).0)
    by_act office_acts.Collecting e so =
        and_from _ _ (rw e refl)
        (collection_made ends nodes line
        (office_end collect_made (is_collected (is_scanned_whole line) (was_cut (collection ends nodes line).ended)) (λ b en ok. collected_end (is_scanned_whole line) (was_cut (collection ends nodes line).ended) en.act en.answer ok) (collection ends nodes line).behind so))
    by_act act e so = absurd (cc)
