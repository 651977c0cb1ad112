-- Lines of other commands than rounds of orphans hold nothing for the office.
use Rattle.std.proofs.Common.{◌≡◌, ℕ, Bool, true, false, ◌&&◌, not, List, [], ◌∷◌, ◌++◌, refl, sym, ap, subst, ◌∙◌, inl, inr, eqb}
use Rattle.std.specs.Prelude.{IsTrue, None, Option, Some, if◌then◌else◌, is_some}
use Rattle.std.specs.List.{fold, list_all}
use Rattle.std.specs.Str.{bytes_eq}
use Rattle.std.proofs.lemmas.Bool.{and_parts, true≢false}
use Rattle.aft_id.specs.declared.txn_id.TxnId.{TxnId}
use Rattle.aft_keeper.specs.declared.keeper.KeeperCall.TheVariants as calls
use Rattle.aft_records.specs.declared.stored.Commit.{Commit}
use Rattle.aft_model.specs.declared.caller.Attempt.{Attempt}
use Rattle.aft_model.specs.declared.choice.Picked.TheVariants as picked
use Rattle.aft_model.specs.declared.door.DoorAct.TheVariants as doors
use Rattle.aft_model.specs.declared.node.NodeAct.{NodeAct}
use Rattle.aft_model.specs.declared.node.NodeAct.TheVariants as acts
use Rattle.aft_model.specs.declared.office.OfficeAct.{OfficeAct}
use Rattle.aft_model.specs.declared.reply.Reply.{Reply}
use Rattle.aft_model.specs.declared.script.Command.{Command}
use Rattle.aft_model.specs.declared.script.Command.TheVariants as commands
use Rattle.aft_model.specs.Membership.{Incarnation, incarnation, same_incarnation}
use Rattle.aft_model.specs.NodeState.{node_state}
use Rattle.aft_model.specs.Readings.{version_name}
use Rattle.aft_lines.specs.Advance.{GoesOn, HasEnded, Scan, advance, advanced, behind_boot_page, behind_copied_markers, behind_copied_records, booted_by, closed_by, copied_by, copies_on, fenced_by, fetched_by, goes_along, got_with, if_so, leads_to, made_along, paged_by, place_of, scan_of, scanned_by, started_with, to_copy, told_by_office}
use Rattle.aft_lines.specs.BackupCourse.{Copier, finds_copy, is_next_copier, tells_copy, tells_not_begun}
use Rattle.aft_lines.specs.CourseWords.{Ends, answers_down, caller_of, closes, ends_at_node, ends_at_office}
use Rattle.aft_lines.specs.GetCourse.{ends_get, loses}
use Rattle.aft_lines.specs.Holding.{held_at}
use Rattle.aft_lines.specs.LineCourse.{ends_boot, follows_course}
use Rattle.aft_lines.specs.Makes.{makes}
use Rattle.aft_lines.specs.OrphanCourse.{VersionAt}
use Rattle.aft_lines.specs.Progress.{Along, BootScan, BootScanned, CopyMarkers, CopyRecords, Copying, Fetching, HasFenced, HasFetched, InRound, IsOver, MustComeUp, MustFence, NotBegun, Progress, Stopped}
use Rattle.aft_lines.specs.ScanCourse.{copy_limit, names_limit}
use Rattle.aft_lines.specs.Turns.{AtDoor, AtNode, AtOffice, Turn, answer_in}
use Rattle.aft_model.specs.Sound.{records_prefix}
use Rattle.law_holders.specs.Rows.{is_of_attempt}
use Rattle.law_claims.specs.Doing.{attempt_at}
use Rattle.law_claims.proofs.Movers.{begun_before, door_mover}
use Rattle.law_runs.proofs.Walks.{FirstIf, ThereIf, door_ahead, from_nowhere, line_first, line_there, no_office}

abbrev HeldIf : Option Progress → Type 0
HeldIf None = Unit {0}
HeldIf (Some q) = held_at q ≡ None

so_free : (passed : Bool) (q : Progress) → held_at q ≡ None → HeldIf (if_so passed q)
so_free true q is = is
so_free false q is = tt

-- ---- lines that move attempts

attempt_free : (q : Progress) (a : Attempt) → attempt_at q ≡ Some a → held_at q ≡ None
attempt_free (InRound desk standings) a is = absurd (let e : None ≡ Some a = is in cc)
attempt_free q a is = refl

mover_free : (command : Command) (nodes : List ℕ) (ends : Ends) (position : Progress) (turn : Turn) (q : Progress) → IsTrue (is_of_attempt command) → IsTrue (makes command turn) → advance command nodes ends position turn ≡ Some q → held_at q ≡ None
mover_free command nodes ends position (AtDoor place act) q of made goes =
    let mover = door_mover command nodes ends position q place act of goes in
    attempt_free q mover.0 (door_ahead command nodes ends position q place act mover.0 of mover.1 goes)
mover_free command nodes ends position (AtNode at history entry) q of made goes = elim (begun_before command nodes ends position q (AtNode at history entry) of goes) [
  | inl first ↦ by_first (subst (FirstIf entry.act) (ap (λ (p : Progress). advance command nodes ends p (AtNode at history entry)) (sym first) ∙ goes) (line_first command nodes ends of at history entry))
  | inr later ↦ by_later later.0 (subst (ThereIf ends history entry later.0 at) goes (line_there ends at history entry command nodes of position later.0 later.1))
]
  where
    by_first : FirstIf entry.act (Some q) → held_at q ≡ None
    by_first (inl over) = ap held_at over
    by_first (inr one) = attempt_free q one.0 one.1

    by_later : (a : Attempt) → ThereIf ends history entry a at (Some q) → held_at q ≡ None
    by_later a there = elim there.1 [
      | inl with_it ↦ attempt_free q a with_it
      | inr other ↦ elim other [ inl over ↦ ap held_at over | inr stop ↦ ap held_at stop.0 ]
    ]
mover_free command nodes ends position (AtOffice history entry) q of made goes = absurd (no_office command of history entry made)

-- ---- gets

module _ (ends : Ends) where
  closed_free : (a : Attempt) (test : NodeAct → Option Reply → Bool) (turn : Turn) → HeldIf (closed_by ends a test turn)
  closed_free a test (AtNode at history entry) = cases (not (eqb a.node at)) (test entry.act entry.answer) (answers_down entry.act entry.answer && ends.is_left a.inc (node_state history))
    where
      cases : (away passed left : Bool) → HeldIf (if away then None else if passed then Some IsOver else if left then Some (Stopped a) else None)
      cases true passed left = tt
      cases false true left = refl
      cases false false true = refl
      cases false false false = tt
  closed_free a test turn = tt

  got_free : (act : NodeAct) → HeldIf (got_with act)
  got_free acts.Nothing = refl
  got_free (acts.Select a key (picked.Fetch id)) = refl
  got_free (acts.Select a key pick) = refl
  got_free act = tt

  fetched_free : (a : Attempt) (key : List ℕ) (id : TxnId) (turn : Turn) → HeldIf (fetched_by ends a key id turn)
  fetched_free a key id (AtDoor place (doors.Call node inc (calls.Get name) answer)) = so_free (same_incarnation (caller_of a) (incarnation node inc) && bytes_eq (version_name key id) name) (HasFetched a key id place) refl
  fetched_free a key id turn = closed_free a (loses a key id) turn

  first_get : (key nodes : List ℕ) (turn : Turn) → HeldIf (advance (commands.Get key) nodes ends NotBegun turn)
  first_get key nodes (AtNode at history entry) = got_free entry.act
  first_get key nodes turn = tt

  get_free : (key nodes : List ℕ) (position : Progress) (turn : Turn) → HeldIf (advance (commands.Get key) nodes ends position turn)
  get_free key nodes NotBegun turn = first_get key nodes turn
  get_free key nodes (Fetching a its id) turn = fetched_free a its id turn
  get_free key nodes (HasFetched a its id place) turn = closed_free a (ends_get a its id place) turn
  get_free key nodes position turn = tt

  -- ---- starts

  paged_free : (then_at : Scan → Progress) → ((scan : Scan) → held_at (then_at scan) ≡ None) → (scans : List Scan) (otherwise : Option Progress) → HeldIf otherwise → HeldIf (paged_by then_at scans otherwise)
  paged_free then_at each [] otherwise free = free
  paged_free then_at each (scan ∷ scans) otherwise free = each scan

  booted_free : (who : Incarnation) (whole : Bool) (turn : Turn) → HeldIf (booted_by ends who whole turn)
  booted_free who whole turn = so_free (ends_at_node who.node (closes ends who.inc (ends_boot who.inc whole)) (turn ∷ [])) IsOver refl

  boot_page_free : (scan : Scan) → held_at (behind_boot_page scan) ≡ None
  boot_page_free (GoesOn scan) = refl
  boot_page_free (HasEnded whole scan) = refl

  first_start : (node : ℕ) (nodes : List ℕ) (turn : Turn) → HeldIf (advance (commands.Start node) nodes ends NotBegun turn)
  first_start node nodes (AtNode at history entry) = by_act entry.act
    where
      by_act : (act : NodeAct) → HeldIf (started_with at act)
      by_act acts.Nothing = refl
      by_act (acts.Booting inc) = refl
      by_act act = tt
  first_start node nodes turn = tt

  come_up_free : (node : ℕ) (nodes : List ℕ) (who : Incarnation) (turn : Turn) → HeldIf (advance (commands.Start node) nodes ends (MustComeUp who) turn)
  come_up_free node nodes who (AtDoor place (doors.Up at inc)) = so_free (same_incarnation who (incarnation at inc)) (BootScan (scan_of names_limit who records_prefix)) refl
  come_up_free node nodes who turn = paged_free behind_boot_page boot_page_free (scanned_by (scan_of names_limit who records_prefix) turn) (booted_by ends who false turn) (booted_free who false turn)

  start_free : (node : ℕ) (nodes : List ℕ) (position : Progress) (turn : Turn) → HeldIf (advance (commands.Start node) nodes ends position turn)
  start_free node nodes NotBegun turn = first_start node nodes turn
  start_free node nodes (MustComeUp who) turn = come_up_free node nodes who turn
  start_free node nodes (BootScan scan) turn = paged_free behind_boot_page boot_page_free (scanned_by scan turn) (booted_by ends scan.who false turn) (booted_free scan.who false turn)
  start_free node nodes (BootScanned who whole) turn = booted_free who whole turn
  start_free node nodes position turn = tt

  -- ---- copies

  told_free : (test : OfficeAct → Option Reply → Bool) (turn : Turn) → HeldIf (told_by_office test turn)
  told_free test turn = so_free (ends_at_office test (turn ∷ [])) IsOver refl

  fenced_free : (by : Copier) (whole : Bool) (turn : Turn) → HeldIf (fenced_by by whole turn)
  fenced_free by whole (AtDoor place (doors.Fence node inc)) = so_free (same_incarnation by.who (incarnation node inc)) (HasFenced whole) refl
  fenced_free by whole turn = tt

  on_free : (by : Copier) (left : List VersionAt) → held_at (copies_on by left) ≡ None
  on_free by [] = refl
  on_free by (one ∷ more) = refl

  records_free : (by : Copier) (scan : Scan) → held_at (behind_copied_records by scan) ≡ None
  records_free by (GoesOn scan) = refl
  records_free by (HasEnded true scan) = refl
  records_free by (HasEnded false scan) = refl

  markers_free : (by : Copier) (records : List Commit) (place : ℕ) (scan : Scan) → held_at (behind_copied_markers ends by records place scan) ≡ None
  markers_free by records place (GoesOn scan) = refl
  markers_free by records place (HasEnded true scan) = on_free by (to_copy ends by records scan.listed place)
  markers_free by records place (HasEnded false scan) = refl

  copied_free : (by : Copier) (one : VersionAt) (more : List VersionAt) (turn : Turn) → HeldIf (copied_by by one more turn)
  copied_free by one more (AtDoor place (doors.Call node inc (calls.Get name) answer)) = so_free (same_incarnation by.who (incarnation node inc) && bytes_eq (version_name one.key one.id) name) (if finds_copy one answer then copies_on by more else MustFence by false) (cases (finds_copy one answer))
    where
      cases : (b : Bool) → held_at (if b then copies_on by more else MustFence by false) ≡ None
      cases true = on_free by more
      cases false = refl
  copied_free by one more turn = fenced_free by false turn

  first_copy : (nodes : List ℕ) (turn : Turn) → HeldIf (advance commands.Backup nodes ends NotBegun turn)
  first_copy nodes (AtDoor place (doors.Up node inc)) = so_free (is_next_copier ends place (incarnation node inc)) (CopyRecords (record { who = incarnation node inc; place = place }) (scan_of copy_limit (incarnation node inc) records_prefix)) refl
  first_copy nodes turn = told_free tells_not_begun turn

  copy_free : (nodes : List ℕ) (position : Progress) (turn : Turn) → HeldIf (advance commands.Backup nodes ends position turn)
  copy_free nodes NotBegun turn = first_copy nodes turn
  copy_free nodes (CopyRecords by scan) turn = paged_free (behind_copied_records by) (records_free by) (scanned_by scan turn) (fenced_by by false turn) (fenced_free by false turn)
  copy_free nodes (CopyMarkers by records scan) turn = paged_free (behind_copied_markers ends by records (place_of turn)) (markers_free by records (place_of turn)) (scanned_by scan turn) (fenced_by by false turn) (fenced_free by false turn)
  copy_free nodes (Copying by []) turn = tt
  copy_free nodes (Copying by (one ∷ more)) turn = copied_free by one more turn
  copy_free nodes (MustFence by whole) turn = fenced_free by whole turn
  copy_free nodes (HasFenced whole) turn = told_free (tells_copy whole) turn
  copy_free nodes position turn = tt

  -- ---- other lines

  along_free : (command : Command) (nodes : List ℕ) (made : List Turn) (turn : Turn) → HeldIf (goes_along command nodes ends made turn)
  along_free command nodes made turn = cases (not (is_some (answer_in turn)))
    where
      cases : (b : Bool) → HeldIf (if b then Some (Along (made ++ turn ∷ [])) else if_so (follows_course command nodes ends (made ++ turn ∷ [])) IsOver)
      cases true = refl
      cases false = so_free (follows_course command nodes ends (made ++ turn ∷ [])) IsOver refl

-- whether a command is a round of orphans
abbrev pub is_round : Command → Bool
is_round (commands.Orphans key) = true
is_round command = false

step_free : (command : Command) (nodes : List ℕ) (ends : Ends) (position : Progress) (turn : Turn) (q : Progress) → is_round command ≡ false → IsTrue (makes command turn) → advance command nodes ends position turn ≡ Some q → held_at q ≡ None
step_free (commands.Orphans key) nodes ends position turn q other made goes = absurd (true≢false other)
step_free (commands.Begin uuid node) nodes ends position turn q other made goes = mover_free (commands.Begin uuid node) nodes ends position turn q refl made goes
step_free (commands.Forget uuid node) nodes ends position turn q other made goes = mover_free (commands.Forget uuid node) nodes ends position turn q refl made goes
step_free commands.Commit nodes ends position turn q other made goes = mover_free commands.Commit nodes ends position turn q refl made goes
step_free commands.Abort nodes ends position turn q other made goes = mover_free commands.Abort nodes ends position turn q refl made goes
step_free (commands.Get key) nodes ends position turn q other made goes = subst HeldIf goes (get_free ends key nodes position turn)
step_free (commands.Start node) nodes ends position turn q other made goes = subst HeldIf goes (start_free ends node nodes position turn)
step_free commands.Backup nodes ends position turn q other made goes = subst HeldIf goes (copy_free ends nodes position turn)
step_free command nodes ends NotBegun turn q other made goes = subst HeldIf goes (along_free ends command nodes [] turn)
step_free command nodes ends position turn q other made goes = subst HeldIf goes (along_free ends command nodes (made_along position) turn)

line_free : (command : Command) (nodes : List ℕ) (ends : Ends) (line : List Turn) (position p : Progress) → is_round command ≡ false → IsTrue (list_all (makes command) line) → held_at position ≡ None → fold (advanced (advance command nodes ends)) (Some position) line ≡ Some p → held_at p ≡ None
line_free command nodes ends [] position p other made free is = sym (ap held_at (same_inside position p is)) ∙ free
  where
    same_inside : (x y : Progress) → Some x ≡ Some y → x ≡ y
    same_inside x y e = cc
line_free command nodes ends (turn ∷ line) position p other made free is =
    let parts = and_parts (makes command turn) (list_all (makes command) line) made in
    next (advance command nodes ends position turn) refl (λ q so e. line_free command nodes ends line q p other parts.1 so e) parts.0 is
  where
    next : (o : Option Progress) → advance command nodes ends position turn ≡ o → ((q : Progress) → held_at q ≡ None → fold (advanced (advance command nodes ends)) (Some q) line ≡ Some p → held_at p ≡ None) → IsTrue (makes command turn) → fold (advanced (advance command nodes ends)) o line ≡ Some p → held_at p ≡ None
    next None at rest it e = absurd (from_nowhere (advance command nodes ends) line p e)
    next (Some q) at rest it e = rest q (step_free command nodes ends position turn q other it at) e

-- a line of another command holds nothing wherever it comes
pub holds_nothing : (command : Command) (nodes : List ℕ) (ends : Ends) (line : List Turn) (p : Progress) → is_round command ≡ false → IsTrue (list_all (makes command) line) → leads_to command nodes ends line ≡ Some p → held_at p ≡ None
holds_nothing command nodes ends line p other made is = line_free command nodes ends line NotBegun p other made refl is
