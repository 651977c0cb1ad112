-- The steps of begins, forgets and gets.
use Rattle.std.proofs.Common.{◌≡◌, ℕ, Bool, true, false, ◌&&◌, List, refl}
use Rattle.std.specs.Prelude.{IsTrue, Option, if◌then◌else◌}
use Rattle.std.specs.Str.{bytes_eq}
use Rattle.std.proofs.lemmas.Bool.{and_parts, or_left, or_right}
use Rattle.aft_id.specs.declared.txn_id.TxnId.{TxnId}
use Rattle.aft_keeper.specs.declared.keeper.KeeperAnswer.{KeeperAnswer}
use Rattle.aft_keeper.specs.declared.keeper.KeeperCall.TheVariants as calls
use Rattle.aft_model.specs.declared.caller.Attempt.{Attempt}
use Rattle.aft_model.specs.declared.choice.Picked.TheVariants as picked
use Rattle.aft_model.specs.declared.door.DoorAct.TheVariants as doors
use Rattle.aft_model.specs.declared.node.NodeAct.{NodeAct}
use Rattle.aft_model.specs.declared.node.NodeAct.TheVariants as acts
use Rattle.aft_model.specs.declared.node.NodeEntry.{NodeEntry}
use Rattle.aft_model.specs.declared.reply.Reply.{Reply}
use Rattle.aft_model.specs.declared.script.Command.TheVariants as commands
use Rattle.aft_model.specs.Membership.{incarnation, same_incarnation}
use Rattle.aft_model.specs.Readings.{marker_name, record_name, version_name}
use Rattle.aft_model.specs.Sound.{markers_prefix, records_prefix}
use Rattle.aft_lines.specs.Advance.{advance_claim, advance_get, allows, at_first_node, begun_with, behind_marker, behind_unused, claimed_by, closed_by, fetched_by, forgotten_by, got_by, got_with, if_nothing, released_by}
use Rattle.aft_lines.specs.BeginCourse.{Beginning, begins_running, gets_own, gives_back}
use Rattle.aft_lines.specs.CourseWords.{Ends, answers_down, caller_of, finds_nothing, tells_down, tells_unclaimed}
use Rattle.aft_lines.specs.GetCourse.{ends_get, loses}
use Rattle.aft_lines.specs.Progress.{Admitted, AnyReason, Fetching, FoundNoRecord, FoundShort, FoundUnused, HasClaim, HasFetched, HasForgotten, HasReleased, IsOver, MustRelease, NoRoom, Progress, Reason, Refusal, Stopped}
use Rattle.aft_lines.specs.Turns.{AtDoor, AtNode, AtOffice, Turn}
use Rattle.aft_lines.specs.Makes.{all_versions, begins_at_node, forgets_at_node, gets_at_node, is_of_uuid, makes}
use Rattle.law_makes.proofs.Reached.{comes_to}
use Rattle.law_makes.proofs.Well.{is_well, under_same, well_closed, well_if, well_or, well_shut}

-- ---- what node acts are

-- names of records and of markers
record_of_uuid : (uuid name : List ℕ) → IsTrue (bytes_eq (record_name uuid) name) → IsTrue (is_of_uuid name)
record_of_uuid uuid name same = or_left _ _ (under_same records_prefix (record_name uuid) name same refl)

marker_of_uuid : (uuid name : List ℕ) → IsTrue (bytes_eq (marker_name uuid) name) → IsTrue (is_of_uuid name)
marker_of_uuid uuid name same = or_right _ _ (under_same markers_prefix (marker_name uuid) name same refl)

-- what steps of begins and forgets share
pub record MakesClaims (made : Turn → Bool) (comes : Progress → Bool) : Type 0 where
  pub claim : (place : ℕ) (uuid : List ℕ) (node inc : ℕ) → IsTrue (made (AtDoor place (doors.Claim uuid node inc)))
  pub release : (place : ℕ) (uuid : List ℕ) (node inc : ℕ) → IsTrue (made (AtDoor place (doors.Release uuid node inc)))
  pub look : (place node inc : ℕ) (name : List ℕ) (answer : KeeperAnswer) → IsTrue (is_of_uuid name) → IsTrue (made (AtDoor place (doors.Call node inc (calls.Get name) answer)))
  pub down : (node : ℕ) (before : List NodeEntry) (entry : NodeEntry) → IsTrue (answers_down entry.act entry.answer) → IsTrue (made (AtNode node before entry))
  pub back : (a : Attempt) (test : Option Reply → Bool) (node : ℕ) (before : List NodeEntry) (entry : NodeEntry) → IsTrue (gives_back a test entry.act entry.answer) → IsTrue (made (AtNode node before entry))
  pub over : IsTrue (comes IsOver)
  pub stopped : (a : Attempt) → IsTrue (comes (Stopped a))
  pub claimed : (begun : Beginning) → IsTrue (comes (HasClaim begun))
  pub no_record : (begun : Beginning) → IsTrue (comes (FoundNoRecord begun))
  pub unused : (begun : Beginning) → IsTrue (comes (FoundUnused begun))
  pub must : (begun : Beginning) → IsTrue (comes (MustRelease begun))
  pub released : (begun : Beginning) (reason : Reason) → IsTrue (comes (HasReleased begun reason))

module _ (made : Turn → Bool) (comes : Progress → Bool) (is : MakesClaims made comes) (ends : Ends) (begun : Beginning) where
  pub released_well : (reason : Reason) (turn : Turn) → IsTrue (is_well made comes turn (released_by ends begun reason turn))
  released_well reason (AtDoor place (doors.Release uuid node inc)) =
      well_if made comes (AtDoor place (doors.Release uuid node inc)) (HasReleased begun reason) (same_incarnation (caller_of begun.attempt) (incarnation node inc) && bytes_eq begun.uuid uuid) (λ so. is.release place uuid node inc) (is.released begun reason)
  released_well reason turn = well_shut made comes is.over is.stopped is.down ends begun.attempt (gives_back begun.attempt tells_down) (is.back begun.attempt tells_down) turn

  got_well : (name : List ℕ) (then_at : KeeperAnswer → Progress) → ((got : List ℕ) → IsTrue (bytes_eq name got) → IsTrue (is_of_uuid got)) → ((answer : KeeperAnswer) → IsTrue (comes (then_at answer))) → (turn : Turn)
      → IsTrue (is_well made comes turn (got_by ends begun name then_at turn))
  got_well name then_at of_uuid comes_so (AtDoor place (doors.Call node inc (calls.Get got) answer)) =
      well_if made comes (AtDoor place (doors.Call node inc (calls.Get got) answer)) (then_at answer) (gets_own begun name node inc got)
      (λ so. is.look place node inc got answer (of_uuid got (and_parts (same_incarnation (caller_of begun.attempt) (incarnation node inc)) (bytes_eq name got) so).1)) (comes_so answer)
  got_well name then_at of_uuid comes_so turn = released_well Refusal turn

  pub nothing_comes : (next : Progress) → IsTrue (comes next) → (answer : KeeperAnswer) → IsTrue (comes (if_nothing next begun answer))
  nothing_comes next so answer = cases (finds_nothing answer)
    where
      cases : (nothing : Bool) → IsTrue (comes (if nothing then next else MustRelease begun))
      cases true = so
      cases false = is.must begun

  pub claimed_well : (turn : Turn) → IsTrue (is_well made comes turn (claimed_by ends begun turn))
  claimed_well (AtDoor place (doors.Claim uuid node inc)) =
      well_if made comes (AtDoor place (doors.Claim uuid node inc)) (HasClaim begun) (same_incarnation (caller_of begun.attempt) (incarnation node inc) && bytes_eq begun.uuid uuid) (λ so. is.claim place uuid node inc) (is.claimed begun)
  claimed_well turn = well_closed made comes is.over is.stopped is.down ends begun.attempt (gives_back begun.attempt tells_unclaimed) (is.back begun.attempt tells_unclaimed) turn

  pub record_well : (turn : Turn) → IsTrue (is_well made comes turn (got_by ends begun (record_name begun.uuid) (if_nothing (FoundNoRecord begun) begun) turn))
  record_well turn = got_well (record_name begun.uuid) (if_nothing (FoundNoRecord begun) begun) (record_of_uuid begun.uuid) (nothing_comes (FoundNoRecord begun) (is.no_record begun)) turn

  pub marker_well : (then_at : KeeperAnswer → Progress) → ((answer : KeeperAnswer) → IsTrue (comes (then_at answer))) → (turn : Turn) → IsTrue (is_well made comes turn (got_by ends begun (marker_name begun.uuid) then_at turn))
  marker_well then_at comes_so turn = got_well (marker_name begun.uuid) then_at (marker_of_uuid begun.uuid) comes_so turn

  pub back_well : (reason : Reason) (turn : Turn) → IsTrue (is_well made comes turn (closed_by ends begun.attempt (gives_back begun.attempt (allows reason)) turn))
  back_well reason turn = well_closed made comes is.over is.stopped is.down ends begun.attempt (gives_back begun.attempt (allows reason)) (is.back begun.attempt (allows reason)) turn

-- ---- a begin

module _ (uuid : List ℕ) (home : ℕ) where
  abbrev begin_made : Turn → Bool
  begin_made = makes (commands.Begin uuid home)

  abbrev begin_comes : Progress → Bool
  begin_comes = comes_to (commands.Begin uuid home)

  begin_down : (act : NodeAct) (answer : Option Reply) → IsTrue (answers_down act answer) → IsTrue (begins_at_node act)
  begin_down acts.Nothing answer so = refl
  begin_down act answer so = absurd (cc)

  begin_back : (a : Attempt) (test : Option Reply → Bool) (act : NodeAct) (answer : Option Reply) → IsTrue (gives_back a test act answer) → IsTrue (begins_at_node act)
  begin_back a test (acts.Unadmit b) answer so = refl
  begin_back a test act answer so = absurd (cc)

  begin_runs : (a : Attempt) (act : NodeAct) (answer : Option Reply) → IsTrue (begins_running a act answer) → IsTrue (begins_at_node act)
  begin_runs a (acts.Begin b) answer so = refl
  begin_runs a act answer so = absurd (cc)

  begin_makes : MakesClaims begin_made begin_comes
  begin_makes = record {
    claim = λ place u node inc. refl;
    release = λ place u node inc. refl;
    look = λ place node inc name answer so. so;
    down = λ node before entry so. begin_down entry.act entry.answer so;
    back = λ a test node before entry so. begin_back a test entry.act entry.answer so;
    over = refl;
    stopped = λ a. refl;
    claimed = λ begun. refl;
    no_record = λ begun. refl;
    unused = λ begun. refl;
    must = λ begun. refl;
    released = λ begun reason. refl;
  }

  unused_well : (ends : Ends) (begun : Beginning) (turn : Turn) → IsTrue (is_well begin_made begin_comes turn (behind_unused ends false begun turn))
  unused_well ends begun turn =
      well_or begin_made begin_comes turn (closed_by ends begun.attempt (begins_running begun.attempt) turn) (released_by ends begun NoRoom turn)
      (well_closed begin_made begin_comes refl (λ a. refl) begin_makes.down ends begun.attempt (begins_running begun.attempt) (λ node before entry so. begin_runs begun.attempt entry.act entry.answer so) turn)
      (released_well begin_made begin_comes begin_makes ends begun NoRoom turn)

  pub begin_step : (ends : Ends) (position : Progress) (turn : Turn) → IsTrue (begin_comes position) → IsTrue (is_well begin_made begin_comes turn (advance_claim ends false position turn))
  begin_step ends (Admitted begun) turn so = claimed_well begin_made begin_comes begin_makes ends begun turn
  begin_step ends (HasClaim begun) turn so = record_well begin_made begin_comes begin_makes ends begun turn
  begin_step ends (FoundNoRecord begun) turn so = marker_well begin_made begin_comes begin_makes ends begun (behind_marker false begun) (nothing_comes begin_made begin_comes begin_makes ends begun (FoundUnused begun) refl) turn
  begin_step ends (FoundUnused begun) turn so = unused_well ends begun turn
  begin_step ends (FoundShort begun) turn so = absurd (cc)
  begin_step ends (HasForgotten begun) turn so = released_well begin_made begin_comes begin_makes ends begun AnyReason turn
  begin_step ends (MustRelease begun) turn so = released_well begin_made begin_comes begin_makes ends begun AnyReason turn
  begin_step ends (HasReleased begun reason) turn so = back_well begin_made begin_comes begin_makes ends begun reason turn
  begin_step ends position turn so = refl

  begin_act : (node : ℕ) (before : List NodeEntry) (entry : NodeEntry) (act : NodeAct) → entry.act ≡ act → IsTrue (is_well begin_made begin_comes (AtNode node before entry) (begun_with act))
  begin_act node before entry acts.Nothing e = rw e refl
  begin_act node before entry (acts.Admit a u) e = rw e refl
  begin_act node before entry act e = refl

  pub begin_first : (turn : Turn) → IsTrue (is_well begin_made begin_comes turn (at_first_node (λ at before act. begun_with act) turn))
  begin_first (AtDoor place act) = refl
  begin_first (AtOffice before entry) = refl
  begin_first (AtNode node before entry) = begin_act node before entry entry.act refl

  -- ---- a forget

  abbrev forget_made : Turn → Bool
  forget_made = makes (commands.Forget uuid home)

  abbrev forget_comes : Progress → Bool
  forget_comes = comes_to (commands.Forget uuid home)

  forget_down : (act : NodeAct) (answer : Option Reply) → IsTrue (answers_down act answer) → IsTrue (forgets_at_node act)
  forget_down acts.Nothing answer so = refl
  forget_down act answer so = absurd (cc)

  forget_back : (a : Attempt) (test : Option Reply → Bool) (act : NodeAct) (answer : Option Reply) → IsTrue (gives_back a test act answer) → IsTrue (forgets_at_node act)
  forget_back a test (acts.Unadmit b) answer so = refl
  forget_back a test act answer so = absurd (cc)

  forget_makes : MakesClaims forget_made forget_comes
  forget_makes = record {
    claim = λ place u node inc. refl;
    release = λ place u node inc. refl;
    look = λ place node inc name answer so. so;
    down = λ node before entry so. forget_down entry.act entry.answer so;
    back = λ a test node before entry so. forget_back a test entry.act entry.answer so;
    over = refl;
    stopped = λ a. refl;
    claimed = λ begun. refl;
    no_record = λ begun. refl;
    unused = λ begun. refl;
    must = λ begun. refl;
    released = λ begun reason. refl;
  }

  deleted_well : (ends : Ends) (begun : Beginning) (turn : Turn) → IsTrue (is_well forget_made forget_comes turn (forgotten_by ends begun turn))
  deleted_well ends begun (AtDoor place (doors.Call node inc (calls.Delete name) answer)) =
      well_if forget_made forget_comes (AtDoor place (doors.Call node inc (calls.Delete name) answer)) (HasForgotten begun) (gets_own begun (marker_name begun.uuid) node inc name)
      (λ so. under_same markers_prefix (marker_name begun.uuid) name (and_parts (same_incarnation (caller_of begun.attempt) (incarnation node inc)) (bytes_eq (marker_name begun.uuid) name) so).1 refl) refl
  deleted_well ends begun turn = released_well forget_made forget_comes forget_makes ends begun Refusal turn

  short_comes : (begun : Beginning) (answer : KeeperAnswer) → IsTrue (forget_comes (behind_marker true begun answer))
  short_comes begun answer = refl

  pub forget_step : (ends : Ends) (position : Progress) (turn : Turn) → IsTrue (forget_comes position) → IsTrue (is_well forget_made forget_comes turn (advance_claim ends true position turn))
  forget_step ends (Admitted begun) turn so = claimed_well forget_made forget_comes forget_makes ends begun turn
  forget_step ends (HasClaim begun) turn so = record_well forget_made forget_comes forget_makes ends begun turn
  forget_step ends (FoundNoRecord begun) turn so = marker_well forget_made forget_comes forget_makes ends begun (behind_marker true begun) (short_comes begun) turn
  forget_step ends (FoundUnused begun) turn so = released_well forget_made forget_comes forget_makes ends begun AnyReason turn
  forget_step ends (FoundShort begun) turn so = deleted_well ends begun turn
  forget_step ends (HasForgotten begun) turn so = released_well forget_made forget_comes forget_makes ends begun AnyReason turn
  forget_step ends (MustRelease begun) turn so = released_well forget_made forget_comes forget_makes ends begun AnyReason turn
  forget_step ends (HasReleased begun reason) turn so = back_well forget_made forget_comes forget_makes ends begun reason turn
  forget_step ends position turn so = refl

  forget_act : (node : ℕ) (before : List NodeEntry) (entry : NodeEntry) (act : NodeAct) → entry.act ≡ act → IsTrue (is_well forget_made forget_comes (AtNode node before entry) (begun_with act))
  forget_act node before entry acts.Nothing e = rw e refl
  forget_act node before entry (acts.Admit a u) e = rw e refl
  forget_act node before entry act e = refl

  pub forget_first : (turn : Turn) → IsTrue (is_well forget_made forget_comes turn (at_first_node (λ at before act. begun_with act) turn))
  forget_first (AtDoor place act) = refl
  forget_first (AtOffice before entry) = refl
  forget_first (AtNode node before entry) = forget_act node before entry entry.act refl

-- ---- a get

module _ (wanted : List ℕ) where
  abbrev get_made : Turn → Bool
  get_made = makes (commands.Get wanted)

  abbrev get_comes : Progress → Bool
  get_comes = comes_to (commands.Get wanted)

  get_down : (act : NodeAct) (answer : Option Reply) → IsTrue (answers_down act answer) → IsTrue (gets_at_node act)
  get_down acts.Nothing answer so = refl
  get_down act answer so = absurd (cc)

  get_ends : (a : Attempt) (key : List ℕ) (id : TxnId) (place : ℕ) (act : NodeAct) (answer : Option Reply) → IsTrue (ends_get a key id place act answer) → IsTrue (gets_at_node act)
  get_ends a key id place (acts.Value b got at found kept) answer so = refl
  get_ends a key id place (acts.Lost b got at) answer so = refl
  get_ends a key id place act answer so = absurd (cc)

  get_loses : (a : Attempt) (key : List ℕ) (id : TxnId) (act : NodeAct) (answer : Option Reply) → IsTrue (loses a key id act answer) → IsTrue (gets_at_node act)
  get_loses a key id (acts.Lost b got at) answer so = refl
  get_loses a key id act answer so = absurd (cc)

  get_closed : (ends : Ends) (a : Attempt) (test : NodeAct → Option Reply → Bool) → ((act : NodeAct) (answer : Option Reply) → IsTrue (test act answer) → IsTrue (gets_at_node act)) → (turn : Turn)
      → IsTrue (is_well get_made get_comes turn (closed_by ends a test turn))
  get_closed ends a test passes turn = well_closed get_made get_comes refl (λ b. refl) (λ node before entry so. get_down entry.act entry.answer so) ends a test (λ node before entry so. passes entry.act entry.answer so) turn

  fetched_well : (ends : Ends) (a : Attempt) (key : List ℕ) (id : TxnId) (turn : Turn) → IsTrue (is_well get_made get_comes turn (fetched_by ends a key id turn))
  fetched_well ends a key id (AtDoor place (doors.Call node inc (calls.Get name) answer)) =
      well_if get_made get_comes (AtDoor place (doors.Call node inc (calls.Get name) answer)) (HasFetched a key id place) (same_incarnation (caller_of a) (incarnation node inc) && bytes_eq (version_name key id) name)
      (λ so. under_same all_versions (version_name key id) name (and_parts (same_incarnation (caller_of a) (incarnation node inc)) (bytes_eq (version_name key id) name) so).1 refl) refl
  fetched_well ends a key id turn = get_closed ends a (loses a key id) (get_loses a key id) turn

  pub get_step : (ends : Ends) (position : Progress) (turn : Turn) → IsTrue (get_comes position) → IsTrue (is_well get_made get_comes turn (advance_get ends position turn))
  get_step ends (Fetching a key id) turn so = fetched_well ends a key id turn
  get_step ends (HasFetched a key id place) turn so = get_closed ends a (ends_get a key id place) (get_ends a key id place) turn
  get_step ends position turn so = refl

  get_act : (node : ℕ) (before : List NodeEntry) (entry : NodeEntry) (act : NodeAct) → entry.act ≡ act → IsTrue (is_well get_made get_comes (AtNode node before entry) (got_with act))
  get_act node before entry acts.Nothing e = rw e refl
  get_act node before entry (acts.Select a key (picked.Fetch id)) e = rw e refl
  get_act node before entry (acts.Select a key pick) e = rw e refl
  get_act node before entry act e = refl

  pub get_first : (turn : Turn) → IsTrue (is_well get_made get_comes turn (at_first_node (λ at before act. got_with act) turn))
  get_first (AtDoor place act) = refl
  get_first (AtOffice before entry) = refl
  get_first (AtNode node before entry) = get_act node before entry entry.act refl
