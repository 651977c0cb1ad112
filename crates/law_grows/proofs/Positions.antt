-- Courses and positions over two ends that say the same of what a line has seen.
use Rattle.std.proofs.Common.{◌≡◌, ◌≤◌, ◌++◌, ℕ, suc, Bool, true, false, ◌&&◌, not, eqb, List, [], ◌∷◌, take, refl, sym, ap, ◌∙◌, arith}
use Rattle.std.specs.Prelude.{IsTrue, Option, Some, None, if◌then◌else◌, is_some, nat_le, filter}
use Rattle.std.specs.List.{fold, list_all}
use Rattle.std.proofs.lemmas.Bool.{and_from, and_parts, leb-true, ltb-true}
use Rattle.std.proofs.lemmas.List.Folds.{list_all-append}
use Rattle.aft_keeper.specs.declared.keeper.KeeperAnswer.{KeeperAnswer}
use Rattle.aft_keeper.specs.declared.keeper.KeeperCall.TheVariants as calls
use Rattle.aft_records.specs.declared.stored.Commit.{Commit}
use Rattle.aft_model.specs.declared.caller.Attempt.{Attempt}
use Rattle.aft_model.specs.declared.door.DoorAct.TheVariants as doors
use Rattle.aft_model.specs.declared.door.DoorEntry.{DoorEntry}
use Rattle.aft_model.specs.declared.node.NodeAct.{NodeAct}
use Rattle.aft_model.specs.declared.office.OfficeAct.{OfficeAct}
use Rattle.aft_model.specs.declared.office.OfficeAct.TheVariants as office_acts
use Rattle.aft_model.specs.declared.reply.Reply.{Reply}
use Rattle.aft_model.specs.declared.script.Command.{Command}
use Rattle.aft_model.specs.declared.script.Command.TheVariants as commands
use Rattle.aft_model.specs.Cut.{is_taken}
use Rattle.aft_model.specs.Membership.{Incarnation, incarnation, next_inc, the_office}
use Rattle.aft_model.specs.NodeState.{NodeState}
use Rattle.aft_model.specs.Readings.{marker_name, record_name}
use Rattle.aft_model.specs.Sound.{records_prefix}
use Rattle.aft_lines.specs.Advance.{GoesOn, HasEnded, Scan, advance, advance_claim, advance_copy, advance_finish, advanced, behind_copied_markers, behind_marker, behind_unused, closed_by, copies_on, doubted_by, fenced_by, forgotten_by, freed_by, goes_along, got_by, if_nothing, if_so, is_led_to_end, leads_to, left_alone, made_along, or_at, paged_by, released_by, scan_of, scanned_by, shut_out_by}
use Rattle.aft_lines.specs.BackupCourse.{Copier, copier, names_to_copy, with_uuid_order}
use Rattle.aft_lines.specs.BeginCourse.{Beginning, begins_running, gives_back}
use Rattle.aft_lines.specs.CausesRounds.{is_collect}
use Rattle.aft_lines.specs.CollectCourse.{Collection, collect_after, collection, collect_course, is_collected, is_scanned_whole, was_cut}
use Rattle.aft_lines.specs.CommitCourse.{doubts}
use Rattle.aft_lines.specs.CourseWords.{Ends, answers_down, caller_of, ends_at_office, tells_down, tells_no_memory}
use Rattle.aft_lines.specs.LineCourse.{follows_course}
use Rattle.aft_lines.specs.Progress.{Admitted, Along, AnyReason, CopyMarkers, CopyRecords, EndsAborted, EndsCommitted, EndsLeft, FoundAborted, FoundNoRecord, FoundShort, FoundUnused, HasClaim, HasForgotten, IsNodeStored, IsOver, MustLeave, MustRelease, NoRoom, NotBegun, Outcome, Progress, Reason, Refusal, Stopped}
use Rattle.aft_lines.specs.ScanCourse.{copy_limit}
use Rattle.aft_lines.specs.Turns.{AtDoor, AtNode, AtOffice, Turn, answer_in, end_front, front_in}
use Rattle.law_courses.proofs.Begins.{begin_led, forget_led}
use Rattle.law_courses.proofs.Gets.{get_led}
use Rattle.law_finish.proofs.Finish.{finish_led}
use Rattle.law_rounds.specs.Along.{is_along}
use Rattle.law_rounds.proofs.Copies.{backup_led}
use Rattle.law_rounds.proofs.Orphans.{orphans_led}
use Rattle.law_rounds.proofs.Starts.{start_led}
use Rattle.law_grows.specs.Reach.{SameKept, SameWithin, is_within}
use Rattle.law_grows.proofs.Collecting.{collection_same}

-- the front at which a line ends is within
pub end_within : (reach : ℕ) (line : List Turn) → IsTrue (list_all (is_within reach) line) → end_front line ≤ reach
end_within reach line so = last line so 0 (omega arith)
  where
    turn_within : (turn : Turn) → IsTrue (is_within reach turn) → front_in turn ≤ reach
    turn_within (AtDoor place act) is = omega arith
    turn_within (AtNode node before entry) is = leb-true entry.front reach is
    turn_within (AtOffice before entry) is = leb-true entry.front reach is

    last : (turns : List Turn) → IsTrue (list_all (is_within reach) turns) → (from : ℕ) → from ≤ reach → fold (λ before turn. front_in turn) from turns ≤ reach
    last [] is from low = low
    last (turn ∷ turns) is from low = (let parts = and_parts (is_within reach turn) (list_all (is_within reach) turns) is in last turns parts.1 (front_in turn) (turn_within turn parts.0))

module _ (reach : ℕ) (left : ℕ → NodeState → Bool) (kept kept' : ℕ → Commit → List Turn → List Turn → Bool) (seen seen' : List DoorEntry) (shut shut' : Incarnation → ℕ → Bool)
    (same_seen : (place : ℕ) → place ≤ reach → take place seen ≡ take place seen') (same_shut : (who : Incarnation) (front : ℕ) → front ≤ reach → shut who front ≡ shut' who front) where
  abbrev one : Ends
  one = record { seen = seen; is_shut_out = shut; is_left = left; is_kept = kept }

  abbrev two : Ends
  two = record { seen = seen'; is_shut_out = shut'; is_left = left; is_kept = kept' }

  abbrev within : List Turn → Bool
  within line = list_all (is_within reach) line

  -- ---- ends where an incarnation was shut out

  shut_same : (a : Attempt) (test : NodeAct → Option Reply → Bool) (turn : Turn) → IsTrue (is_within reach turn) → shut_out_by one a test turn ≡ shut_out_by two a test turn
  shut_same a test (AtDoor place act) so = refl
  shut_same a test (AtOffice before entry) so = refl
  shut_same a test (AtNode node before entry) so = ap (λ (b : Bool). if b then closed_by one a test (AtNode node before entry) else None) (same_shut (caller_of a) entry.front (leb-true entry.front reach so))

  module _ (begun : Beginning) where
    released_same : (reason : Reason) (turn : Turn) → IsTrue (is_within reach turn) → released_by one begun reason turn ≡ released_by two begun reason turn
    released_same reason (AtDoor place (doors.Release uuid node inc)) so = refl
    released_same reason turn so = shut_same begun.attempt (gives_back begun.attempt tells_down) turn so

    got_same : (name : List ℕ) (then_at : KeeperAnswer → Progress) (turn : Turn) → IsTrue (is_within reach turn) → got_by one begun name then_at turn ≡ got_by two begun name then_at turn
    got_same name then_at (AtDoor place (doors.Call node inc (calls.Get got) answer)) so = refl
    got_same name then_at turn so = released_same Refusal turn so

    forgotten_same : (turn : Turn) → IsTrue (is_within reach turn) → forgotten_by one begun turn ≡ forgotten_by two begun turn
    forgotten_same (AtDoor place (doors.Call node inc (calls.Delete name) answer)) so = refl
    forgotten_same turn so = released_same Refusal turn so

    unused_same : (forgets : Bool) (turn : Turn) → IsTrue (is_within reach turn) → behind_unused one forgets begun turn ≡ behind_unused two forgets begun turn
    unused_same true turn so = released_same AnyReason turn so
    unused_same false turn so = ap (λ (p : Option Progress). or_at (closed_by one begun.attempt (begins_running begun.attempt) turn) p) (released_same NoRoom turn so)

  claim_same : (forgets : Bool) (position : Progress) (turn : Turn) → IsTrue (is_within reach turn) → advance_claim one forgets position turn ≡ advance_claim two forgets position turn
  claim_same forgets (Admitted begun) (AtDoor place (doors.Claim uuid node inc)) so = refl
  claim_same forgets (Admitted begun) turn so = refl
  claim_same forgets (HasClaim begun) turn so = got_same begun (record_name begun.uuid) (if_nothing (FoundNoRecord begun) begun) turn so
  claim_same forgets (FoundNoRecord begun) turn so = got_same begun (marker_name begun.uuid) (behind_marker forgets begun) turn so
  claim_same forgets (FoundUnused begun) turn so = unused_same begun forgets turn so
  claim_same forgets (FoundShort begun) turn so = forgotten_same begun turn so
  claim_same forgets (HasForgotten begun) turn so = released_same begun AnyReason turn so
  claim_same forgets (MustRelease begun) turn so = released_same begun AnyReason turn so
  claim_same forgets position turn so = refl

  -- ---- commits and aborts

  freed_same : (a : Attempt) (uuid : List ℕ) (outcome : Outcome) (without without' : Turn → Option Progress) (turn : Turn) → without turn ≡ without' turn → freed_by a uuid outcome without turn ≡ freed_by a uuid outcome without' turn
  freed_same a uuid outcome without without' (AtDoor place (doors.Release released node inc)) e = refl
  freed_same a uuid outcome without without' turn e = e

  alone_same : (a : Attempt) (turn : Turn) → IsTrue (is_within reach turn) → left_alone one a turn ≡ left_alone two a turn
  alone_same a (AtDoor place act) so = refl
  alone_same a (AtOffice before entry) so = refl
  alone_same a (AtNode node before entry) so = ap (λ (b : Bool). if_so (eqb a.node node && answers_down entry.act entry.answer && b) (Stopped a)) (same_shut (caller_of a) entry.front (leb-true entry.front reach so))

  finish_same : (position : Progress) (turn : Turn) → IsTrue (is_within reach turn) → advance_finish one position turn ≡ advance_finish two position turn
  finish_same (IsNodeStored storing) turn so =
      freed_same storing.attempt storing.written.commit.id.uuid EndsCommitted (shut_out_by one storing.attempt (doubts storing.attempt tells_down)) (shut_out_by two storing.attempt (doubts storing.attempt tells_down)) turn
      (shut_same storing.attempt (doubts storing.attempt tells_down) turn so)
  finish_same (FoundAborted storing) turn so =
      freed_same storing.attempt storing.written.commit.id.uuid EndsAborted (λ last. or_at (shut_out_by one storing.attempt (doubts storing.attempt tells_down) last) (doubted_by one storing tells_no_memory last))
      (λ last. or_at (shut_out_by two storing.attempt (doubts storing.attempt tells_down) last) (doubted_by two storing tells_no_memory last)) turn
      (ap (λ (p : Option Progress). or_at p (doubted_by one storing tells_no_memory turn)) (shut_same storing.attempt (doubts storing.attempt tells_down) turn so))
  finish_same (MustLeave aborts a uuid) turn so = freed_same a uuid (EndsLeft aborts) (left_alone one a) (left_alone two a) turn (alone_same a turn so)
  finish_same position turn so = refl

  -- ---- copies

  taken_same : (by : Copier) (records : List Commit) (place : ℕ) → suc place ≤ reach → (scan : Scan) → behind_copied_markers one by records place scan ≡ behind_copied_markers two by records place scan
  taken_same by records place so (GoesOn scan) = refl
  taken_same by records place so (HasEnded true scan) = ap (λ (h : List DoorEntry). copies_on by (names_to_copy (fold with_uuid_order [] (filter (is_taken by.place scan.listed h) records)))) (same_seen (suc place) so)
  taken_same by records place so (HasEnded false scan) = refl

  paged_same : (then_at then_at' : Scan → Progress) → ((scan : Scan) → then_at scan ≡ then_at' scan) → (scans : List Scan) (otherwise : Option Progress) → paged_by then_at scans otherwise ≡ paged_by then_at' scans otherwise
  paged_same then_at then_at' same [] otherwise = refl
  paged_same then_at then_at' same (scan ∷ scans) otherwise = ap (λ (p : Progress). Some p) (same scan)

  copy_same : (position : Progress) (turn : Turn) → IsTrue (is_within reach turn) → advance_copy one position turn ≡ advance_copy two position turn
  copy_same NotBegun (AtDoor place (doors.Up node inc)) so =
      let low = ltb-true place reach so in
      ap (λ (h : List DoorEntry). if_so (eqb node copier && eqb inc (next_inc copier h)) (CopyRecords (record { who = incarnation node inc; place = place }) (scan_of copy_limit (incarnation node inc) records_prefix))) (same_seen place (omega arith))
  copy_same (CopyMarkers by records scan) (AtDoor place act) so =
      let low = ltb-true place reach so in
      paged_same (behind_copied_markers one by records place) (behind_copied_markers two by records place) (taken_same by records place (omega arith)) (scanned_by scan (AtDoor place act)) (fenced_by by false (AtDoor place act))
  copy_same position turn so = refl

  -- ---- the steps

  step_same : (command : Command) (nodes : List ℕ) → IsTrue (not (is_along command)) → (position : Progress) (turn : Turn) → IsTrue (is_within reach turn) → advance command nodes one position turn ≡ advance command nodes two position turn
  step_same (commands.Begin uuid node) nodes is NotBegun turn so = refl
  step_same (commands.Begin uuid node) nodes is position turn so = claim_same false position turn so
  step_same (commands.Forget uuid node) nodes is NotBegun turn so = refl
  step_same (commands.Forget uuid node) nodes is position turn so = claim_same true position turn so
  step_same commands.Commit nodes is NotBegun turn so = refl
  step_same commands.Commit nodes is position turn so = finish_same position turn so
  step_same commands.Abort nodes is NotBegun turn so = refl
  step_same commands.Abort nodes is position turn so = finish_same position turn so
  step_same commands.Backup nodes is NotBegun turn so = copy_same NotBegun turn so
  step_same commands.Backup nodes is position turn so = copy_same position turn so
  step_same (commands.Get key) nodes is NotBegun turn so = refl
  step_same (commands.Get key) nodes is position turn so = refl
  step_same (commands.Start node) nodes is NotBegun turn so = refl
  step_same (commands.Start node) nodes is position turn so = refl
  step_same (commands.Orphans key) nodes is NotBegun turn so = refl
  step_same (commands.Orphans key) nodes is position turn so = refl
  step_same command nodes is position turn so = absurd (never command is)
    where
      never : (other : Command) → IsTrue (not true) → ⊥
      never other x = (cc)

  lead_same : (command : Command) (nodes : List ℕ) → IsTrue (not (is_along command)) → (line : List Turn) → IsTrue (within line) → (position : Option Progress) → fold (advanced (advance command nodes one)) position line ≡ fold (advanced (advance command nodes two)) position line
  lead_same command nodes is [] so position = refl
  lead_same command nodes is (turn ∷ line) so None = lead_same command nodes is line (and_parts (is_within reach turn) (within line) so).1 None
  lead_same command nodes is (turn ∷ line) so (Some position) =
      let parts = and_parts (is_within reach turn) (within line) so in
      ap (λ (p : Option Progress). fold (advanced (advance command nodes one)) p line) (step_same command nodes is position turn parts.0)
      ∙ lead_same command nodes is line parts.1 (advance command nodes two position turn)

  -- ---- the courses

  -- the second ends with the other's test of what was kept
  abbrev between : Ends
  between = record { seen = seen'; is_shut_out = shut'; is_left = left; is_kept = kept }

  collect_same : (nodes : List ℕ) (line : List Turn) → kept ≡ kept' → IsTrue (within line) → collect_course nodes one line ≡ collect_course nodes two line
  collect_same nodes line same so = by_turns line so ∙ ap (λ (k : ℕ → Commit → List Turn → List Turn → Bool). collect_course nodes (record { seen = seen'; is_shut_out = shut'; is_left = left; is_kept = k }) line) same
    where
      by_act : (act : OfficeAct) (answer : Option Reply) (line : List Turn) → collection one nodes line ≡ collection between nodes line → collect_after one nodes act answer line ≡ collect_after between nodes act answer line
      by_act office_acts.Collecting answer line e = ap (λ (c : Collection). ends_at_office (is_collected (is_scanned_whole line) (was_cut c.ended)) c.behind) e
      by_act act answer line e = refl

      by_turns : (line : List Turn) → IsTrue (within line) → collect_course nodes one line ≡ collect_course nodes between line
      by_turns [] so = refl
      by_turns (AtDoor place act ∷ line) so = refl
      by_turns (AtNode node before entry ∷ line) so = refl
      by_turns (AtOffice before entry ∷ line) so = by_act entry.act entry.answer line (collection_same left kept seen seen' shut shut' (end_front line) (λ who. same_shut who (end_front line) (end_within reach line (and_parts (nat_le entry.front reach) (within line) so).1)) nodes line refl)

  pub course_same : (command : Command) (nodes : List ℕ) (line : List Turn) → (IsTrue (is_collect command) → kept ≡ kept') → shut the_office 0 ≡ false → IsTrue (within line) → follows_course command nodes one line ≡ follows_course command nodes two line
  course_same (commands.Begin uuid node) nodes line same up so = begin_led uuid node nodes one line ∙ ap is_led_to_end (lead_same (commands.Begin uuid node) nodes refl line so (Some NotBegun)) ∙ sym (begin_led uuid node nodes two line)
  course_same (commands.Forget uuid node) nodes line same up so = forget_led uuid node nodes one line ∙ ap is_led_to_end (lead_same (commands.Forget uuid node) nodes refl line so (Some NotBegun)) ∙ sym (forget_led uuid node nodes two line)
  course_same (commands.Get key) nodes line same up so = get_led key nodes one line ∙ ap is_led_to_end (lead_same (commands.Get key) nodes refl line so (Some NotBegun)) ∙ sym (get_led key nodes two line)
  course_same commands.Commit nodes line same up so = finish_led nodes one false line ∙ ap is_led_to_end (lead_same commands.Commit nodes refl line so (Some NotBegun)) ∙ sym (finish_led nodes two false line)
  course_same commands.Abort nodes line same up so = finish_led nodes one true line ∙ ap is_led_to_end (lead_same commands.Abort nodes refl line so (Some NotBegun)) ∙ sym (finish_led nodes two true line)
  course_same (commands.Start node) nodes line same up so = start_led node nodes one line ∙ ap is_led_to_end (lead_same (commands.Start node) nodes refl line so (Some NotBegun)) ∙ sym (start_led node nodes two line)
  course_same commands.Backup nodes line same up so = backup_led nodes one line ∙ ap is_led_to_end (lead_same commands.Backup nodes refl line so (Some NotBegun)) ∙ sym (backup_led nodes two line)
  course_same (commands.Orphans key) nodes line same up so =
      orphans_led key nodes one up line ∙ ap is_led_to_end (lead_same (commands.Orphans key) nodes refl line so (Some NotBegun)) ∙ sym (orphans_led key nodes two (sym (same_shut the_office 0 (omega arith)) ∙ up) line)
  course_same commands.Collect nodes line same up so = collect_same nodes line (same refl) so
  course_same command nodes line same up so = refl

  -- ---- the positions

  -- one turn more of a line whose positions aren't told apart
  judged_same : (command : Command) (nodes : List ℕ) (made : List Turn) (turn : Turn) → (IsTrue (is_collect command) → kept ≡ kept') → shut the_office 0 ≡ false → IsTrue (within (made ++ turn ∷ [])) → goes_along command nodes one made turn ≡ goes_along command nodes two made turn
  judged_same command nodes made turn same up so = ap (λ (b : Bool). if not (is_some (answer_in turn)) then Some (Along (made ++ turn ∷ [])) else if_so b IsOver) (course_same command nodes (made ++ turn ∷ []) same up so)

  along_step : (command : Command) (nodes : List ℕ) (ends : Ends) → IsTrue (is_along command) → (position : Progress) (turn : Turn) → advance command nodes ends position turn ≡ goes_along command nodes ends (made_along position) turn
  along_step (commands.Put key value) nodes ends is NotBegun turn = refl
  along_step (commands.Put key value) nodes ends is position turn = refl
  along_step (commands.Crash node) nodes ends is NotBegun turn = refl
  along_step (commands.Crash node) nodes ends is position turn = refl
  along_step (commands.Announce node) nodes ends is NotBegun turn = refl
  along_step (commands.Announce node) nodes ends is position turn = refl
  along_step (commands.Deliver node) nodes ends is NotBegun turn = refl
  along_step (commands.Deliver node) nodes ends is position turn = refl
  along_step (commands.Local node) nodes ends is NotBegun turn = refl
  along_step (commands.Local node) nodes ends is position turn = refl
  along_step commands.Manager nodes ends is NotBegun turn = refl
  along_step commands.Manager nodes ends is position turn = refl
  along_step commands.Collect nodes ends is NotBegun turn = refl
  along_step commands.Collect nodes ends is position turn = refl
  along_step command nodes ends is position turn = absurd (never command is)
    where
      never : (other : Command) → IsTrue false → ⊥
      never other x = (cc)

  joined : (made : List Turn) (turn : Turn) → IsTrue (within made) → IsTrue (is_within reach turn) → IsTrue (within (made ++ turn ∷ []))
  joined made turn so is = list_all-append (is_within reach) made (turn ∷ []) ∙ and_from _ _ so (and_from _ _ is refl)

  along_same : (command : Command) (nodes : List ℕ) → (IsTrue (is_collect command) → kept ≡ kept') → IsTrue (is_along command) → shut the_office 0 ≡ false → (line : List Turn) → IsTrue (within line) → (position : Progress) → IsTrue (within (made_along position))
      → fold (advanced (advance command nodes one)) (Some position) line ≡ fold (advanced (advance command nodes two)) (Some position) line
  along_same command nodes same is up [] so position made = refl
  along_same command nodes same is up (turn ∷ line) so position made =
      let parts = and_parts (is_within reach turn) (within line) so in
      let together = joined (made_along position) turn made parts.0 in
      ap (λ (p : Option Progress). fold (advanced (advance command nodes one)) p line) (along_step command nodes one is position turn ∙ judged_same command nodes (made_along position) turn same up together)
      ∙ behind (is_some (answer_in turn)) (follows_course command nodes two (made_along position ++ turn ∷ [])) (along_same command nodes same is up line parts.1 (Along (made_along position ++ turn ∷ [])) together) (along_same command nodes same is up line parts.1 IsOver refl)
      ∙ sym (ap (λ (p : Option Progress). fold (advanced (advance command nodes two)) p line) (along_step command nodes two is position turn))
    where
      nowhere : (step : Progress → Turn → Option Progress) (rest : List Turn) → fold (advanced step) None rest ≡ None
      nowhere step [] = refl
      nowhere step (next ∷ rest) = nowhere step rest

      behind : (answers passed : Bool) → fold (advanced (advance command nodes one)) (Some (Along (made_along position ++ turn ∷ []))) line ≡ fold (advanced (advance command nodes two)) (Some (Along (made_along position ++ turn ∷ []))) line
          → fold (advanced (advance command nodes one)) (Some IsOver) line ≡ fold (advanced (advance command nodes two)) (Some IsOver) line
          → fold (advanced (advance command nodes one)) (if not answers then Some (Along (made_along position ++ turn ∷ [])) else if_so passed IsOver) line
          ≡ fold (advanced (advance command nodes two)) (if not answers then Some (Along (made_along position ++ turn ∷ [])) else if_so passed IsOver) line
      behind false passed on over = on
      behind true true on over = over
      behind true false on over = nowhere (advance command nodes one) line ∙ sym (nowhere (advance command nodes two) line)

  pub position_same : (command : Command) (nodes : List ℕ) (line : List Turn) → (IsTrue (is_collect command) → kept ≡ kept') → shut the_office 0 ≡ false → IsTrue (within line) → leads_to command nodes one line ≡ leads_to command nodes two line
  position_same command nodes line same up so = by_kind (is_along command) refl
    where
      by_kind : (kind : Bool) → is_along command ≡ kind → leads_to command nodes one line ≡ leads_to command nodes two line
      by_kind true is = along_same command nodes same is up line so NotBegun refl
      by_kind false is = lead_same command nodes (ap (λ (b : Bool). not b) is) line so (Some NotBegun)

-- ---- any two ends that say the same

-- ends with the test of others for what a node has left in place of their own
abbrev with_left : Ends → (ℕ → NodeState → Bool) → Ends
with_left ends left = record { seen = ends.seen; is_shut_out = ends.is_shut_out; is_left = left; is_kept = ends.is_kept }

pub positions_over : (command : Command) (nodes : List ℕ) (reach : ℕ) (ends other : Ends) (line : List Turn) → SameWithin reach ends other → SameKept command ends other → ends.is_shut_out the_office 0 ≡ false → IsTrue (list_all (is_within reach) line) → leads_to command nodes ends line ≡ leads_to command nodes other line
positions_over command nodes reach ends other line same kept up so =
    ap (λ (l : ℕ → NodeState → Bool). leads_to command nodes (with_left ends l) line) same.left
    ∙ position_same reach other.is_left ends.is_kept other.is_kept ends.seen other.seen ends.is_shut_out other.is_shut_out same.seen same.shut_out command nodes line kept up so

pub courses_over : (command : Command) (nodes : List ℕ) (reach : ℕ) (ends other : Ends) (line : List Turn) → SameWithin reach ends other → SameKept command ends other → ends.is_shut_out the_office 0 ≡ false → IsTrue (list_all (is_within reach) line) → follows_course command nodes ends line ≡ follows_course command nodes other line
courses_over command nodes reach ends other line same kept up so =
    ap (λ (l : ℕ → NodeState → Bool). follows_course command nodes (with_left ends l) line) same.left
    ∙ course_same reach other.is_left ends.is_kept other.is_kept ends.seen other.seen ends.is_shut_out other.is_shut_out same.seen same.shut_out command nodes line kept up so
