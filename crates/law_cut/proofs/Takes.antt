-- What a copy that came to its end takes: the commits whose records stood in the store without a marker when its copier came up.
use Rattle.std.proofs.Common.{◌≡◌, ◌<◌, ◌≤◌, ◌+◌, ℕ, Bool, true, false, suc, ◌&&◌, ◌||◌, not, List, [], ◌∷◌, ◌++◌, refl, sym, ap, subst, ◌∙◌, ◌⊎◌, inl, inr, arith, length, length-append, append_assoc, take, drop, eqb, map}
use Rattle.std.specs.Prelude.{IsFalse, IsTrue, None, Option, Some, filter, if◌then◌else◌}
use Rattle.std.specs.List.{flat_map, list_any}
use Rattle.std.specs.Str.{bytes_eq}
use Rattle.std.proofs.lemmas.Bool.{and_from, and_parts, eq-eqb, eqb-true, false_from_ne_true, false≢true, not-true, or_left, true≢false}
use Rattle.std.proofs.lemmas.List.{append_cancel_left, take-append-drop, take-append-le}
use Rattle.std.proofs.Math.Seq.{drop-append_seam, take-append_seam}
use Rattle.aft_id.specs.TxnId.{IsUuid}
use Rattle.aft_keeper.specs.declared.keeper.KeeperAnswer.TheVariants as answers
use Rattle.aft_keeper.specs.declared.keeper.KeeperCall.TheVariants.{Scan, Get}
use Rattle.aft_keeper.specs.declared.keeper.Pair.{Pair}
use Rattle.aft_keeper.specs.Contents.{IsContents, bytes_at}
use Rattle.aft_records.specs.declared.stored.Commit.{Commit}
use Rattle.aft_records.specs.declared.stored.Marker.{Marker}
use Rattle.aft_records.specs.declared.stored.Marker.TheVariants.{Full}
use Rattle.aft_records.specs.Reading.{commit_of, marker_of}
use Rattle.aft_model.specs.declared.caller.By.{By}
use Rattle.aft_model.specs.declared.door.DoorAct.{DoorAct}
use Rattle.aft_model.specs.declared.door.DoorAct.TheVariants.{Call, Fence, Up}
use Rattle.aft_model.specs.declared.door.DoorEntry.{DoorEntry}
use Rattle.aft_model.specs.declared.script.Command.TheVariants.{Backup}
use Rattle.aft_model.specs.declared.script.Line.{Line}
use Rattle.aft_model.specs.Claims.{forgotten, tries_delete}
use Rattle.aft_model.specs.Contents.{GoesAlong, held_after}
use Rattle.aft_model.specs.Cut.{has_marker, is_taken, put_since, tries_put, unmarked}
use Rattle.aft_model.specs.DoorKnowledge.{is_delete, is_open, is_up_act, opens}
use Rattle.aft_model.specs.Evidence.{pairs_in, stored_in}
use Rattle.aft_model.specs.Honest.{Honest}
use Rattle.aft_model.specs.LegalDoor.{is_answered, may_come, may_follow}
use Rattle.aft_model.specs.Membership.{Incarnation, incarnation, is_up}
use Rattle.aft_model.specs.NodeSights.{comes_up}
use Rattle.aft_model.specs.Readings.{id_of_marker, marker_name, markers_in, record_name, records_in, is_record_of, is_version_at, version_name}
use Rattle.aft_model.specs.ScanRun.{page_limit}
use Rattle.aft_model.specs.Sound.{markers_prefix, recorded, records_prefix}
use Rattle.aft_model.proofs.Followed.{joined, parted}
use Rattle.aft_model.proofs.Growth.{any_grows}
use Rattle.aft_model.proofs.Histories.{In, any_found, any_from, each_after_snoc, in_append, in_back, in_flat_map, in_front}
use Rattle.aft_model.proofs.Lists.{filter_in, in_filter, map_in}
use Rattle.aft_model.proofs.Sights.{bytes_eq-refl, read-name, same_bytes}
use Rattle.aft_model.proofs.Told.{told_honest}
use Rattle.aft_lines.specs.Asked.{Asked, Ran}
use Rattle.aft_lines.specs.BackupCourse.{Copier, backup_course, behind_markers, copied_markers, copied_records, copier, copies, copy_of_line, fence_course, is_next_copier, last_door_place, names_to_copy, stopped_copy, taken_commits, shown_in_turn}
use Rattle.aft_lines.specs.CourseWords.{Ends}
use Rattle.aft_lines.specs.FinishedText.{line_of}
use Rattle.aft_lines.specs.LegalTrace.{LegalTrace}
use Rattle.aft_lines.specs.LineView.{ends_of}
use Rattle.aft_lines.specs.Lines.{lines}
use Rattle.aft_lines.specs.OrphanCourse.{VersionAt}
use Rattle.aft_lines.specs.Partings.{turns_before}
use Rattle.aft_lines.specs.ScanCourse.{Scanned, copy_limit, names_limit}
use Rattle.aft_lines.specs.Turns.{AtDoor, AtOffice, Turn, end_front, turns}
use Rattle.aft_lines.specs.Views.{view_of}
use Rattle.law_effects.specs.Effects.{effect_of}
use Rattle.law_effects.proofs.Pairs.{pair_proves}
use Rattle.law_kept.specs.Kept.{Kept, Lawful}
use Rattle.law_kept.specs.Outcomes.{MayBe, records_at}
use Rattle.law_kept.specs.Tried.{markers_put}
use Rattle.law_kept.proofs.Always.{lawful_begins}
use Rattle.law_kept.proofs.Fates.{Leaving, NewAt, marker_of_uuid, marker_read, under}
use Rattle.law_kept.proofs.Gone.{flat_map_in}
use Rattle.law_kept.proofs.Steps.{absent_effect, come, new_delete, new_put}
use Rattle.law_opened.proofs.Acts.{answered_each, proven_effect}
use Rattle.law_runs.proofs.LegalRuns.{legal_goes}
use Rattle.law_runs.proofs.Opening.{head_least}
use Rattle.law_turns.specs.Order.{moments_ascend}
use Rattle.law_whole.proofs.Throughout.{kept_open}
use Rattle.law_contents.proofs.Held.{may_stand, stands, stands_in}
use Rattle.law_contents.proofs.Ids.{RecordThere, record_there}
use Rattle.law_damage.proofs.AtDoor.{Placed, entered}
use Rattle.law_copies.proofs.Between.{unretired}
use Rattle.law_copies.proofs.Runs.{CoveredOn, ListedOn, Went}
use Rattle.law_copies.proofs.Taken.{Fenced, Gets, before_rest, comes_first, fenced_end, gets_of, parted_at, taken_in}
use Rattle.law_copies.proofs.Undamaged.{OfficeEnd, bytes_listed, page_tells}
use Rattle.law_copies.proofs.Undamaged as copying_line
use Rattle.law_cut.specs.Served.{is_served}
use Rattle.law_cut.proofs.Bytes.{after_one, shown_stands, stands_still, stood_before}
use Rattle.law_cut.proofs.Found.{all_found}
use Rattle.law_cut.proofs.Stands.{Left, Stands, leaves, stands_of}
use Rattle.law_cut.proofs.Words.{call_before_end, delete_is_new, in_drop_take, in_drop_take_take, in_longer, in_take, in_take_take, is_call, last_below, named_as_part, put_is_new, run_calls, tail_of, turn_calls}

module _ (asked : Asked) (ran : Ran) (legal : LegalTrace asked ran) (line : Line) (listed : In line (lines asked)) (order : line.order ≡ Backup) (at_first held now : List Pair) (contents : IsContents at_first) (x node inc : ℕ) (behind : List Turn)
    (is : turns (line_of line) ran.trace ≡ AtDoor x (Up node inc) ∷ behind) (along : GoesAlong at_first (take x ran.trace.door) held) (rest : GoesAlong held (drop x ran.trace.door) now)
    (whole : IsTrue (copy_of_line (ends_of (view_of asked ran line)) (record { who = incarnation node inc; place = x }) behind).is_whole) where
  abbrev by : By
  by = line_of line

  abbrev door : List DoorEntry
  door = ran.trace.door

  abbrev ends : Ends
  ends = ends_of (view_of asked ran line)

  abbrev who : Incarnation
  who = incarnation node inc

  abbrev copying : Copier
  copying = record { who = who; place = x }

  abbrev recs : Scanned
  recs = copied_records copying behind

  abbrev marks : Scanned
  marks = copied_markers copying behind

  honest : Honest door
  honest = told_honest at_first door now contents (subst (λ (d : List DoorEntry). GoesAlong at_first d now) (take-append-drop x door) (joined at_first held now (take x door) (drop x door) along rest))

  course : IsTrue (is_next_copier ends x who) × IsTrue (fence_course who (copy_of_line ends copying behind).is_whole (copy_of_line ends copying behind).behind)
  course =
      and_parts (is_next_copier ends x who) (fence_course who (copy_of_line ends copying behind).is_whole (copy_of_line ends copying behind).behind)
      (subst (λ (l : List Turn). IsTrue (backup_course ends l)) is (copying_line.follows asked ran legal honest line listed order))

  nine : node ≡ copier
  nine = eqb-true node copier (and_parts (eqb node copier) _ course.0).0

  abbrev versions : List VersionAt
  versions = names_to_copy (taken_commits ends copying behind)

  abbrev first : Went copy_limit who records_prefix [] [] behind recs
  first = copying_line.first asked ran legal honest line listed order x node inc behind is nine course.1

  abbrev second : Went names_limit who markers_prefix [] [] recs.behind marks
  second = copying_line.second asked ran legal honest line listed order x node inc behind is nine course.1

  third : Gets who versions marks.behind (copies who versions marks.behind)
  third = gets_of who versions marks.behind

  -- the line came through its scans, and then was fenced
  record Shape : Type 0 where
    records_whole : IsTrue recs.is_whole
    markers_whole : IsTrue marks.is_whole
    all_got : IsTrue (copies who versions marks.behind).is_whole
    fence : Fenced who (copies who versions marks.behind).behind

  shape_by : (r : Bool) → recs.is_whole ≡ r → (m : Bool) → marks.is_whole ≡ m → IsTrue (if not r then stopped_copy recs.behind else if not m then stopped_copy marks.behind else behind_markers ends copying behind).is_whole
      → IsTrue (fence_course who (if not r then stopped_copy recs.behind else if not m then stopped_copy marks.behind else behind_markers ends copying behind).is_whole (if not r then stopped_copy recs.behind else if not m then stopped_copy marks.behind else behind_markers ends copying behind).behind) → Shape
  shape_by false e m f all fences = absurd (false≢true all)
  shape_by true e false f all fences = absurd (false≢true all)
  shape_by true e true f all fences = record { records_whole = e; markers_whole = f; all_got = all; fence = fenced_end who (copies who versions marks.behind).is_whole (copies who versions marks.behind).behind fences }

  shape : Shape
  shape = shape_by recs.is_whole refl marks.is_whole refl whole course.1

  abbrev front : List Turn
  front = (first.made ++ second.made) ++ third.made

  abbrev fence_turn : Turn
  fence_turn = AtDoor shape.fence.place (Fence shape.fence.node shape.fence.inc)

  abbrev last_turns : List Turn
  last_turns = fence_turn ∷ AtOffice shape.fence.before shape.fence.entry ∷ []

  parts : behind ≡ front ++ last_turns
  parts =
      copying_line.scanned asked ran legal honest line listed order x node inc behind is nine course.1
      ∙ (ap (λ (l : List Turn). (first.made ++ second.made) ++ l) (third.splits ∙ ap (λ (l : List Turn). third.made ++ l) shape.fence.is) ∙ sym (append_assoc (first.made ++ second.made) third.made last_turns))

  last : OfficeEnd (turns by ran.trace)
  last = copying_line.ended asked ran legal honest line listed order x node inc behind is nine course.1 front (copies who versions marks.behind).behind (parts ∙ ap (λ (l : List Turn). front ++ l) (sym shape.fence.is)) shape.fence

  up_turns : IsTrue (moments_ascend (AtDoor x (Up node inc) ∷ behind))
  up_turns = subst (λ (l : List Turn). IsTrue (moments_ascend l)) is (copying_line.up asked ran legal honest line listed order)

  up_behind : IsTrue (moments_ascend (front ++ last_turns))
  up_behind = subst (λ (l : List Turn). IsTrue (moments_ascend l)) parts (copying_line.up_behind asked ran legal honest line listed order x node inc behind is nine course.1)

  in_turns : (turn : Turn) → In turn behind → In turn (turns by ran.trace)
  in_turns turn among = subst (In turn) (sym is) (inr among)

  fence_in : In fence_turn behind
  fence_in = subst (In fence_turn) (sym parts) (in_back fence_turn front last_turns (inl refl))

  -- ---- the places

  X : Placed door by x (Up node inc)
  X = entered by ran.trace (AtDoor x (Up node inc)) (subst (In (AtDoor x (Up node inc))) (sym is) (inl refl))

  F : Placed door by shape.fence.place (Fence shape.fence.node shape.fence.inc)
  F = entered by ran.trace fence_turn (in_turns fence_turn fence_in)

  abbrev start : List DoorEntry
  start = X.before ++ X.entry ∷ []

  between : (more : List DoorEntry) × (F.before ≡ X.before ++ X.entry ∷ more)
  between =
      parted_at door by by x shape.fence.place (Up node inc) (Fence shape.fence.node shape.fence.inc) X F (λ e. absurd (cc))
      (head_least (AtDoor x (Up node inc)) behind up_turns fence_turn fence_in)

  to_fence : F.before ≡ start ++ between.0
  to_fence = between.1 ∙ sym (append_assoc X.before (X.entry ∷ []) between.0)

  lawful_start : Lawful start
  lawful_start = copying_line.lawful_now asked ran legal honest line listed order x (Up node inc) X

  opened_start : IsTrue (is_open start)
  opened_start = any_grows (λ (e : DoorEntry). opens e.act) X.before (X.entry ∷ []) (copying_line.opened asked ran legal honest line listed order x (Up node inc) X)

  served_start : IsTrue (is_served start)
  served_start = any_from (λ (e : DoorEntry). is_up_act e.act || is_delete e.act) X.entry start (in_back X.entry X.before (X.entry ∷ []) (inl refl)) (or_left (is_up_act X.entry.act) (is_delete X.entry.act) (subst (λ (a : DoorAct). IsTrue (is_up_act a)) X.does refl))

  came_start : IsTrue (list_any (λ (e : DoorEntry). comes_up who e.act) start)
  came_start =
      any_from (λ (e : DoorEntry). comes_up who e.act) X.entry start (in_back X.entry X.before (X.entry ∷ []) (inl refl)) (subst (λ (a : DoorAct). IsTrue (comes_up who a)) X.does (and_from (eqb node node) (eqb inc inc) (eq-eqb node node refl) (eq-eqb inc inc refl)))

  up_fence : IsTrue (is_up who F.before)
  up_fence =
      let rule = subst (λ (a : DoorAct). IsTrue (may_come F.before a)) (sym F.does) (come F.before F.entry (copying_line.comes asked ran legal honest line listed order shape.fence.place (Fence shape.fence.node shape.fence.inc) F)) in
      subst (λ (w : Incarnation). IsTrue (is_up w F.before)) (sym shape.fence.by) (and_parts (is_up (incarnation shape.fence.node shape.fence.inc) F.before) _ rule).0

  unmarking : (uuid : List ℕ) → IsUuid uuid → (e : DoorEntry) → In e between.0 → (d : Commit) → In (Full d) (markers_put e.act) → d.id.uuid ≡ uuid → ⊥
  unmarking uuid its =
      unretired asked ran (legal_goes asked ran legal) honest who nine start between.0 (F.entry ∷ F.after) (F.parts ∙ ap (λ (l : List DoorEntry). l ++ F.entry ∷ F.after) to_fence) came_start (subst (λ (h : List DoorEntry). IsTrue (is_up who h)) to_fence up_fence) uuid its

  -- ---- the contents

  at_x : take x door ≡ X.before
  at_x = ap (λ (d : List DoorEntry). take x d) X.parts ∙ (ap (λ (n : ℕ). take n (X.before ++ X.entry ∷ X.after)) (sym X.is_at) ∙ take-append_seam X.before (X.entry ∷ X.after))

  from_x : drop x door ≡ X.entry ∷ X.after
  from_x = ap (λ (d : List DoorEntry). drop x d) X.parts ∙ (ap (λ (n : ℕ). drop n (X.before ++ X.entry ∷ X.after)) (sym X.is_at) ∙ drop-append_seam X.before (X.entry ∷ X.after))

  coming : (same : List Pair) × (GoesAlong held (X.entry ∷ []) same) × (GoesAlong same X.after now)
  coming = parted held now (X.entry ∷ []) X.after (subst (λ (d : List DoorEntry). GoesAlong held d now) from_x rest)

  unmoved : coming.0 ≡ held
  unmoved = elim (subst (λ (a : DoorAct). In coming.0 (held_after a held)) (sym X.does) (after_one held coming.0 X.entry coming.1)) [ inl same ↦ same | inr none ↦ absurd none ]

  along_start : GoesAlong at_first start held
  along_start = joined at_first held held X.before (X.entry ∷ []) (subst (λ (d : List DoorEntry). GoesAlong at_first d held) at_x along) (subst (λ (h : List Pair). GoesAlong held (X.entry ∷ []) h) unmoved coming.1)

  after_x : X.after ≡ between.0 ++ F.entry ∷ F.after
  after_x =
      tail_of X.entry X.entry X.after (between.0 ++ F.entry ∷ F.after)
      (append_cancel_left X.before (X.entry ∷ X.after) (X.entry ∷ (between.0 ++ F.entry ∷ F.after))
      (sym X.parts ∙ (F.parts ∙ (ap (λ (l : List DoorEntry). l ++ F.entry ∷ F.after) between.1 ∙ append_assoc X.before (X.entry ∷ between.0) (F.entry ∷ F.after)))))

  till_fence : (then_held : List Pair) × (GoesAlong held between.0 then_held) × (GoesAlong then_held (F.entry ∷ F.after) now)
  till_fence = parted held now between.0 (F.entry ∷ F.after) (subst (λ (d : List DoorEntry). GoesAlong held d now) after_x (subst (λ (h : List Pair). GoesAlong h X.after now) unmoved coming.2))

  -- what is held behind a call of the line
  record Reached (place : ℕ) (act : DoorAct) (at : Placed door by place act) : Type 0 where
    more : List DoorEntry
    later : List DoorEntry
    starts : at.before ≡ start ++ more
    splits : between.0 ≡ (more ++ at.entry ∷ []) ++ later
    held_then : List Pair
    goes_there : GoesAlong held (more ++ at.entry ∷ []) held_then
    below : place < shape.fence.place

  reach : (place : ℕ) (act : DoorAct) (at : Placed door by place act) → In (AtDoor place act) front → IsTrue (is_call act) → Reached place act at
  reach place act at among calls =
      let before_it = parted_at door by by x place (Up node inc) act X at (λ e. false≢true (ap is_call e ∙ calls)) (head_least (AtDoor x (Up node inc)) behind up_turns (AtDoor place act) (subst (In (AtDoor place act)) (sym parts) (in_front (AtDoor place act) front last_turns among))) in
      let behind_it = parted_at door by by place shape.fence.place act (Fence shape.fence.node shape.fence.inc) at F (λ e. false≢true (sym (ap is_call e) ∙ calls)) (comes_first front last_turns up_behind (AtDoor place act) fence_turn among (inl refl)) in
      let apart : between.0 ≡ before_it.0 ++ at.entry ∷ behind_it.0 =
      tail_of X.entry X.entry between.0 (before_it.0 ++ at.entry ∷ behind_it.0)
      (append_cancel_left X.before (X.entry ∷ between.0) (X.entry ∷ (before_it.0 ++ at.entry ∷ behind_it.0))
      (sym between.1 ∙ (behind_it.1 ∙ (ap (λ (l : List DoorEntry). l ++ at.entry ∷ behind_it.0) before_it.1 ∙ append_assoc X.before (X.entry ∷ before_it.0) (at.entry ∷ behind_it.0))))) in
      let splits : between.0 ≡ (before_it.0 ++ at.entry ∷ []) ++ behind_it.0 = apart ∙ sym (append_assoc before_it.0 (at.entry ∷ []) behind_it.0) in
      let cut = parted held till_fence.0 (before_it.0 ++ at.entry ∷ []) behind_it.0 (subst (λ (d : List DoorEntry). GoesAlong held d till_fence.0) splits till_fence.1) in
      record {
        more = before_it.0;
        later = behind_it.0;
        starts = before_it.1 ∙ sym (append_assoc X.before (X.entry ∷ []) before_it.0);
        splits = splits;
        held_then = cut.0;
        goes_there = cut.1;
        below = (let l : length F.before ≡ length at.before + length (at.entry ∷ behind_it.0) = ap length behind_it.1 ∙ length-append at.before (at.entry ∷ behind_it.0) in
            let a = at.is_at in let f = F.is_at in let s : length (at.entry ∷ behind_it.0) ≡ suc (length behind_it.0) = refl in omega arith);
      }

  module _ (place : ℕ) (act : DoorAct) (at : Placed door by place act) (there : Reached place act at) where
    ends_there : start ++ (there.more ++ at.entry ∷ []) ≡ at.before ++ at.entry ∷ []
    ends_there = sym (append_assoc start there.more (at.entry ∷ [])) ∙ ap (λ (l : List DoorEntry). l ++ at.entry ∷ []) (sym there.starts)

    -- what it shows of a name stands there
    shows_it : (name : List ℕ) (o : Option (List ℕ)) → Leaving (effect_of name act) o → bytes_at name there.held_then ≡ o
    shows_it name o leaving =
        shown_stands name at_first there.held_then at.before at.entry o contents
        (subst (λ (h : List DoorEntry). GoesAlong at_first h there.held_then) ends_there (joined at_first held there.held_then start (there.more ++ at.entry ∷ []) along_start there.goes_there))
        (subst (λ (a : DoorAct). Leaving (effect_of name a) o) at.does leaving)

    answered : IsTrue (is_answered act)
    answered = subst (λ (a : DoorAct). IsTrue (is_answered a)) (sym at.does) (and_parts (is_answered at.entry.act) _ (each_after_snoc may_follow [] at.before at.entry (copying_line.lawful_now asked ran legal honest line listed order place act at).legal).1).0

    shows_pair : (pair : Pair) → In pair (pairs_in act) → bytes_at pair.name there.held_then ≡ Some pair.bytes
    shows_pair pair among = shows_it pair.name (Some pair.bytes) (proven_effect (effect_of pair.name act) pair.bytes (pair_proves act answered pair (in_back pair (stored_in act) (pairs_in act) among)))

    -- it leaves what stood there without a marker
    left_there : (c : Commit) → IsUuid c.id.uuid → Stands c held → Left c (there.more ++ at.entry ∷ []) held there.held_then
    left_there c its stood =
        leaves c at_first contents start (there.more ++ at.entry ∷ []) held there.held_then along_start there.goes_there opened_start (subst Lawful (sym ends_there) (copying_line.lawful_now asked ran legal honest line listed order place act at)) served_start
        (λ e among. unmarking c.id.uuid its e (subst (In e) (sym there.splits) (in_front e (there.more ++ at.entry ∷ []) there.later among))) stood

  long_start : length start ≡ suc x
  long_start = (let l : length start ≡ length X.before + 1 = length-append X.before (X.entry ∷ []) in let a = X.is_at in omega arith)

  in_scans : (turn : Turn) → In turn (first.made ++ second.made) → In turn front
  in_scans turn among = in_front turn (first.made ++ second.made) third.made among

  call_in_front : (turn : Turn) → In turn behind → IsTrue (turn_calls turn) → In turn front
  call_in_front turn among calls = call_before_end turn front shape.fence.place shape.fence.node shape.fence.inc shape.fence.before shape.fence.entry (subst (In turn) parts among) calls

  in_behind : (turn : Turn) → In turn front → In turn behind
  in_behind turn among = subst (In turn) (sym parts) (in_front turn front last_turns among)

  -- ---- what is taken stood there, without a marker

  module _ (c : Commit) (taken : In c (taken_commits ends copying behind)) where
    abbrev uuid : List ℕ
    uuid = c.id.uuid

    abbrev judged_by : List DoorEntry
    judged_by = take (suc (last_door_place x (turns_before marks.behind behind))) ends.seen

    -- the pages that showed its record, and that its marker is absent
    abbrev its_pair : (pair : Pair) × In pair recs.listed × In c (records_in pair)
    its_pair = copying_line.its_pair asked ran legal honest line listed order x node inc behind is nine course.1 shape.markers_whole c taken last

    abbrev on : ListedOn copy_limit who records_prefix first.made its_pair.0
    on = copying_line.on asked ran legal honest line listed order x node inc behind is nine course.1 shape.markers_whole c taken last

    abbrev over : CoveredOn names_limit who markers_prefix second.made marks.listed (marker_name uuid)
    over = copying_line.over asked ran legal honest line listed order x node inc behind is nine course.1 shape.markers_whole c taken last

    abbrev recorded_by : DoorAct
    recorded_by = Call on.page.node on.page.inc (Scan records_prefix on.page.after page_limit) (answers.Page on.page.pairs)

    abbrev covered_by : DoorAct
    covered_by = Call over.page.node over.page.inc (Scan markers_prefix over.page.after page_limit) (answers.Page over.page.pairs)

    abbrev R : Placed door by on.page.place recorded_by
    R = copying_line.R asked ran legal honest line listed order x node inc behind is nine course.1 shape.markers_whole c taken last

    abbrev Q : Placed door by over.page.place covered_by
    Q = copying_line.Q asked ran legal honest line listed order x node inc behind is nine course.1 shape.markers_whole c taken last

    at_record : Reached on.page.place recorded_by R
    at_record = reach on.page.place recorded_by R (in_scans (AtDoor on.page.place recorded_by) (in_front (AtDoor on.page.place recorded_by) first.made second.made (copying_line.record_turn asked ran legal honest line listed order x node inc behind is nine course.1 shape.markers_whole c taken last))) refl

    at_marker : Reached over.page.place covered_by Q
    at_marker = reach over.page.place covered_by Q (in_scans (AtDoor over.page.place covered_by) (in_back (AtDoor over.page.place covered_by) first.made second.made (copying_line.marker_turn asked ran legal honest line listed order x node inc behind is nine course.1 shape.markers_whole c taken last))) refl

    named : its_pair.0.name ≡ record_name uuid
    named = read-name its_pair.0.name (λ (d : Commit). record_name d.id.uuid) (commit_of its_pair.0.bytes) c its_pair.2

    shown_then : bytes_at (record_name uuid) at_record.held_then ≡ Some its_pair.0.bytes
    shown_then = subst (λ n. bytes_at n at_record.held_then ≡ Some its_pair.0.bytes) named (shows_pair on.page.place recorded_by R at_record its_pair.0 on.lists)

    record_first : at_marker.more ≡ at_record.more ++ R.entry ∷ (copying_line.shown_before_it asked ran legal honest line listed order x node inc behind is nine course.1 shape.markers_whole c taken last).0
    record_first =
        append_cancel_left start at_marker.more (at_record.more ++ R.entry ∷ (copying_line.shown_before_it asked ran legal honest line listed order x node inc behind is nine course.1 shape.markers_whole c taken last).0)
        (sym at_marker.starts ∙ ((copying_line.shown_before_it asked ran legal honest line listed order x node inc behind is nine course.1 shape.markers_whole c taken last).1 ∙ (ap (λ (l : List DoorEntry). l ++ R.entry ∷ (copying_line.shown_before_it asked ran legal honest line listed order x node inc behind is nine course.1 shape.markers_whole c taken last).0) at_record.starts ∙ append_assoc start at_record.more (R.entry ∷ (copying_line.shown_before_it asked ran legal honest line listed order x node inc behind is nine course.1 shape.markers_whole c taken last).0))))

    judged : judged_by ≡ start ++ (at_marker.more ++ Q.entry ∷ (copying_line.judged_parts asked ran legal honest line listed order x node inc behind is nine course.1 shape.markers_whole c taken last).0)
    judged =
        (copying_line.judged_parts asked ran legal honest line listed order x node inc behind is nine course.1 shape.markers_whole c taken last).1
        ∙ (ap (λ (l : List DoorEntry). (l ++ Q.entry ∷ []) ++ (copying_line.judged_parts asked ran legal honest line listed order x node inc behind is nine course.1 shape.markers_whole c taken last).0) at_marker.starts
        ∙ (append_assoc (start ++ at_marker.more) (Q.entry ∷ []) (copying_line.judged_parts asked ran legal honest line listed order x node inc behind is nine course.1 shape.markers_whole c taken last).0 ∙ append_assoc start at_marker.more (Q.entry ∷ (copying_line.judged_parts asked ran legal honest line listed order x node inc behind is nine course.1 shape.markers_whole c taken last).0)))

    judged_since : drop (suc x) judged_by ≡ at_marker.more ++ Q.entry ∷ (copying_line.judged_parts asked ran legal honest line listed order x node inc behind is nine course.1 shape.markers_whole c taken last).0
    judged_since =
        ap (drop (suc x)) judged
        ∙ (ap (λ (n : ℕ). drop n (start ++ (at_marker.more ++ Q.entry ∷ (copying_line.judged_parts asked ran legal honest line listed order x node inc behind is nine course.1 shape.markers_whole c taken last).0))) (sym long_start) ∙ drop-append_seam start (at_marker.more ++ Q.entry ∷ (copying_line.judged_parts asked ran legal honest line listed order x node inc behind is nine course.1 shape.markers_whole c taken last).0))

    unput : (e : DoorEntry) → In e (at_record.more ++ R.entry ∷ []) → (b : List ℕ) → NewAt (record_name uuid) e.act (Some b) → ⊥
    unput e among b new =
        let put = new_put (record_name uuid) e.act b new in
        let tries : IsTrue (tries_put (record_name uuid) e.act) = subst (λ (a : DoorAct). IsTrue (tries_put (record_name uuid) a)) (sym put.3) (bytes_eq-refl (record_name uuid)) in
        let there : In e at_marker.more = subst (In e) (sym record_first) (in_longer e at_record.more R.entry (copying_line.shown_before_it asked ran legal honest line listed order x node inc behind is nine course.1 shape.markers_whole c taken last).0 among) in
        true≢false (sym (any_from (λ (entry : DoorEntry). tries_put (record_name uuid) entry.act) e (drop (suc x) judged_by) (subst (In e) (sym judged_since) (in_front e at_marker.more (Q.entry ∷ (copying_line.judged_parts asked ran legal honest line listed order x node inc behind is nine course.1 shape.markers_whole c taken last).0) there)) tries)
        ∙ not-true (put_since uuid x judged_by) (and_parts (not (put_since uuid x judged_by)) (not (has_marker uuid marks.listed)) (copying_line.passed asked ran legal honest line listed order x node inc behind is nine course.1 shape.markers_whole c taken last).0).0)

    stood : bytes_at (record_name uuid) held ≡ Some its_pair.0.bytes
    stood = stood_before (record_name uuid) (at_record.more ++ R.entry ∷ []) held at_record.held_then its_pair.0.bytes at_record.goes_there unput shown_then

    in_recorded : In c (recorded held)
    in_recorded =
        flat_map_in records_in c (under (record_name uuid) its_pair.0.bytes) held (stands_in at_first held start contents along_start (record_name uuid) its_pair.0.bytes stood)
        (subst (λ n. In c (records_in (under n its_pair.0.bytes))) named its_pair.2)

    undeleted : (e : DoorEntry) → In e (at_marker.more ++ Q.entry ∷ []) → NewAt (marker_name uuid) e.act None → ⊥
    undeleted e among new =
        let deleted = new_delete (marker_name uuid) e.act new in
        let tries : IsTrue (tries_delete (marker_name uuid) e.act) = subst (λ (a : DoorAct). IsTrue (tries_delete (marker_name uuid) a)) (sym deleted.3) (bytes_eq-refl (marker_name uuid)) in
        true≢false (sym (any_from (λ (entry : DoorEntry). tries_delete (marker_name uuid) entry.act) e (Q.before ++ Q.entry ∷ []) (subst (In e) (ends_there over.page.place covered_by Q at_marker) (in_back e start (at_marker.more ++ Q.entry ∷ []) among)) tries)
        ∙ copying_line.unforgotten_then asked ran legal honest line listed order x node inc behind is nine course.1 shape.markers_whole c taken last)

    marker_gone : bytes_at (marker_name uuid) at_marker.held_then ≡ None
    marker_gone = shows_it over.page.place covered_by Q at_marker (marker_name uuid) None (subst (λ (a : DoorAct). Leaving (effect_of (marker_name uuid) a) None) (sym Q.does) (inl (absent_effect (marker_name uuid) Q.entry.act (copying_line.absent_then asked ran legal honest line listed order x node inc behind is nine course.1 shape.markers_whole c taken last))))

    no_marker : IsFalse (has_marker uuid held)
    no_marker = false_from_ne_true (has_marker uuid held) (λ has.
        let m = any_found (λ (marker : Marker). bytes_eq uuid (id_of_marker marker).uuid) (flat_map markers_in held) has in
        let pair = in_flat_map markers_in m.0 held m.1 in
        let its_name : pair.0.name ≡ marker_name uuid = read-name pair.0.name (λ (n : Marker). marker_name (id_of_marker n).uuid) (marker_of pair.0.bytes) m.0 pair.2 ∙ ap marker_name (sym (same_bytes uuid (id_of_marker m.0).uuid m.2)) in
        let there : bytes_at (marker_name uuid) held ≡ Some pair.0.bytes = subst (λ n. bytes_at n held ≡ Some pair.0.bytes) its_name (stands at_first held start contents along_start pair.0 pair.1) in
        let still = stands_still (marker_name uuid) (at_marker.more ++ Q.entry ∷ []) held at_marker.held_then pair.0.bytes at_marker.goes_there undeleted there in
        absurd (let e = sym still.1 ∙ marker_gone in cc))

    pub stood_unmarked : In c (unmarked held)
    stood_unmarked = filter_in (λ (d : Commit). not (has_marker d.id.uuid held)) c (recorded held) in_recorded (ap not no_marker)

  -- ---- what stood there without a marker is taken

  module _ (c : Commit) (stood : In c (unmarked held)) where
    abbrev its_uuid : List ℕ
    its_uuid = c.id.uuid

    held_so : In c (recorded held) × IsTrue (not (has_marker its_uuid held))
    held_so = in_filter (λ (d : Commit). not (has_marker d.id.uuid held)) c (recorded held) stood

    its : RecordThere at_first held start contents along_start lawful_start opened_start c
    its = record_there at_first held start contents along_start lawful_start opened_start c held_so.0

    kept : Kept its_uuid start
    kept = kept_open its_uuid its.its start opened_start lawful_start

    record_pair : (pair : Pair) × In pair held × In c (records_in pair)
    record_pair = in_flat_map records_in c held held_so.0

    record_named : record_pair.0.name ≡ record_name its_uuid
    record_named = read-name record_pair.0.name (λ (d : Commit). record_name d.id.uuid) (commit_of record_pair.0.bytes) c record_pair.2

    record_there_now : bytes_at (record_name its_uuid) held ≡ Some record_pair.0.bytes
    record_there_now = subst (λ n. bytes_at n held ≡ Some record_pair.0.bytes) record_named (stands at_first held start contents along_start record_pair.0 record_pair.1)

    record_reads : In c (records_in (under (record_name its_uuid) record_pair.0.bytes))
    record_reads = subst (λ n. In c (records_in (under n record_pair.0.bytes))) record_named record_pair.2

    none_under : bytes_at (marker_name its_uuid) held ≡ None
    none_under = by_bytes (bytes_at (marker_name its_uuid) held) refl
      where
        by_bytes : (o : Option (List ℕ)) → bytes_at (marker_name its_uuid) held ≡ o → bytes_at (marker_name its_uuid) held ≡ None
        by_bytes None e = e
        by_bytes (Some b) e =
            let m = kept.markers_known.each b (subst (MayBe (marker_name its_uuid) start) e (may_stand at_first held start contents along_start (marker_name its_uuid) kept.markers_known.some)) in
            absurd (true≢false (sym (any_from (λ (marker : Marker). bytes_eq its_uuid (id_of_marker marker).uuid) m.1 (flat_map markers_in held)
            (flat_map_in markers_in m.1 (under (marker_name its_uuid) b) held (stands_in at_first held start contents along_start (marker_name its_uuid) b e) (marker_read its_uuid b m.1 m.2))
            (subst (λ u. IsTrue (bytes_eq its_uuid u)) (sym (marker_of_uuid its_uuid (Some b) m.1 m.2)) (bytes_eq-refl its_uuid))) ∙ not-true (has_marker its_uuid held) held_so.1))

    standing : Stands c held
    standing = stands_of c held record_pair.0.bytes record_there_now record_reads none_under

    -- a page shows its record
    covering : CoveredOn copy_limit who records_prefix first.made recs.listed (record_name its_uuid)
    covering = first.covers_all shape.records_whole (record_name its_uuid) refl

    abbrev shown_by_page : DoorAct
    shown_by_page = Call covering.page.node covering.page.inc (Scan records_prefix covering.page.after page_limit) (answers.Page covering.page.pairs)

    page_in_front : In (AtDoor covering.page.place shown_by_page) front
    page_in_front = in_scans (AtDoor covering.page.place shown_by_page) (in_front (AtDoor covering.page.place shown_by_page) first.made second.made (subst (λ (t : Turn). In t first.made) covering.page.is covering.among))

    page_at : Placed door by covering.page.place shown_by_page
    page_at = entered by ran.trace (AtDoor covering.page.place shown_by_page) (in_turns (AtDoor covering.page.place shown_by_page) (in_behind (AtDoor covering.page.place shown_by_page) page_in_front))

    at_page : Reached covering.page.place shown_by_page page_at
    at_page = reach covering.page.place shown_by_page page_at page_in_front refl

    page_lists : bytes_at (record_name its_uuid) covering.page.pairs ≡ Some record_pair.0.bytes
    page_lists =
        sym (shows_it covering.page.place shown_by_page page_at at_page (record_name its_uuid) (bytes_at (record_name its_uuid) covering.page.pairs)
        (inl (page_tells (record_name its_uuid) records_prefix covering.page.after covering.page.node covering.page.inc covering.page.pairs (bytes_at (record_name its_uuid) covering.page.pairs) refl covering.covered)))
        ∙ ((left_there covering.page.place shown_by_page page_at at_page c its.its standing).record_same ∙ record_there_now)

    -- nothing was put or deleted meanwhile
    all_left : Left c between.0 held till_fence.0
    all_left =
        leaves c at_first contents start between.0 held till_fence.0 along_start till_fence.1 opened_start
        (subst Lawful to_fence (lawful_begins F.before (F.entry ∷ []) (copying_line.lawful_now asked ran legal honest line listed order shape.fence.place (Fence shape.fence.node shape.fence.inc) F))) served_start (unmarking its_uuid its.its) standing

    abbrev last_place : ℕ
    last_place = last_door_place x (turns_before marks.behind behind)

    abbrev judging : List DoorEntry
    judging = take (suc last_place) (take (end_front (turns by ran.trace)) door)

    first_below : x < shape.fence.place
    first_below =
        (let l : length F.before ≡ length X.before + length (X.entry ∷ between.0) = ap length between.1 ∙ length-append X.before (X.entry ∷ between.0) in
        let a = X.is_at in let f = F.is_at in let s : length (X.entry ∷ between.0) ≡ suc (length between.0) = refl in omega arith)

    scan_calls : (turn : Turn) → In turn (first.made ++ second.made) → IsTrue (turn_calls turn)
    scan_calls turn among = elim (in_append turn first.made second.made among) [
      | inl records ↦ run_calls copy_limit who records_prefix turn (first.each turn records)
      | inr markers ↦ run_calls names_limit who markers_prefix turn (second.each turn markers)
    ]

    place_below : (p : ℕ) (act : DoorAct) → In (AtDoor p act) (first.made ++ second.made) → p < shape.fence.place
    place_below p act among =
        (reach p act (entered by ran.trace (AtDoor p act) (in_turns (AtDoor p act) (in_behind (AtDoor p act) (in_scans (AtDoor p act) among)))) (in_scans (AtDoor p act) among) (scan_calls (AtDoor p act) among)).below

    last_is_below : suc last_place ≤ length F.before
    last_is_below =
        let before_it : turns_before marks.behind behind ≡ first.made ++ second.made =
        ap (turns_before marks.behind) (copying_line.scanned asked ran legal honest line listed order x node inc behind is nine course.1) ∙ before_rest (first.made ++ second.made) marks.behind in
        let below : last_place < shape.fence.place = subst (λ (l : List Turn). last_door_place x l < shape.fence.place) (sym before_it) (last_below x shape.fence.place (first.made ++ second.made) first_below place_below) in
        let f = F.is_at in omega arith

    till_last : take (suc last_place) door ≡ take (suc last_place) F.before
    till_last = ap (take (suc last_place)) F.parts ∙ take-append-le (suc last_place) F.before (F.entry ∷ F.after) last_is_below

    judged_within : (e : DoorEntry) → In e judging → In e start ⊎ In e between.0
    judged_within e among =
        in_append e start between.0 (subst (In e) to_fence (in_take e (suc last_place) F.before (subst (In e) till_last (in_take_take e (suc last_place) (end_front (turns by ran.trace)) door among))))

    judged_behind : (e : DoorEntry) → In e (drop (suc x) judging) → In e between.0
    judged_behind e among =
        let within = in_drop_take e (suc x) (suc last_place) F.before (subst (λ (l : List DoorEntry). In e (drop (suc x) l)) till_last (in_drop_take_take e (suc x) (suc last_place) (end_front (turns by ran.trace)) door among)) in
        subst (In e) (ap (drop (suc x)) to_fence ∙ (ap (λ (n : ℕ). drop n (start ++ between.0)) (sym long_start) ∙ drop-append_seam start between.0)) within

    answered_then : (e : DoorEntry) → In e between.0 → IsTrue (is_answered e.act)
    answered_then e among =
        answered_each [] door legal.door e
        (subst (In e) (sym F.parts) (in_front e F.before (F.entry ∷ F.after) (subst (In e) (sym to_fence) (in_back e start between.0 among))))

    unput_since : IsFalse (put_since its_uuid x judging)
    unput_since = false_from_ne_true (put_since its_uuid x judging) (λ has.
        let e = any_found (λ (entry : DoorEntry). tries_put (record_name its_uuid) entry.act) (drop (suc x) judging) has in
        let there = judged_behind e.0 e.1 in
        let new = put_is_new (record_name its_uuid) e.0.act (answered_then e.0 there) e.2 in
        all_left.record_unwritten e.0 there (Some new.0) new.1)

    unforgotten_since : IsFalse (forgotten its_uuid judging)
    unforgotten_since = false_from_ne_true (forgotten its_uuid judging) (λ has.
        let e = any_found (λ (entry : DoorEntry). tries_delete (marker_name its_uuid) entry.act) judging has in
        elim (judged_within e.0 e.1) [
          | inl before ↦ subst (λ o. In c (records_at its_uuid o)) (kept.forgotten_gone (any_from (λ (entry : DoorEntry). tries_delete (marker_name its_uuid) entry.act) e.0 start before e.2) its.may.outcome its.may.may) its.may.among
          | inr there ↦ all_left.marker_unwritten e.0 there None (delete_is_new (marker_name its_uuid) e.0.act (answered_then e.0 there) e.2)
        ])

    -- and no page shows a marker of it
    unlisted : IsFalse (has_marker its_uuid marks.listed)
    unlisted = false_from_ne_true (has_marker its_uuid marks.listed) (λ has.
        let m = any_found (λ (marker : Marker). bytes_eq its_uuid (id_of_marker marker).uuid) (flat_map markers_in marks.listed) has in
        let pair = in_flat_map markers_in m.0 marks.listed m.1 in
        let its_name : pair.0.name ≡ marker_name its_uuid = read-name pair.0.name (λ (n : Marker). marker_name (id_of_marker n).uuid) (marker_of pair.0.bytes) m.0 pair.2 ∙ ap marker_name (sym (same_bytes its_uuid (id_of_marker m.0).uuid m.2)) in
        on_page pair.0 its_name (elim (second.lists pair.0 pair.1) [ inl none ↦ absurd none | inr page ↦ page ]))
      where
        on_page : (pair : Pair) → pair.name ≡ marker_name its_uuid → ListedOn names_limit who markers_prefix second.made pair → ⊥
        on_page pair its_name page =
            let act : DoorAct = Call page.page.node page.page.inc (Scan markers_prefix page.page.after page_limit) (answers.Page page.page.pairs) in
            let turn : Turn = AtDoor page.page.place act in
            let among : In turn front = in_scans turn (in_back turn first.made second.made (subst (λ (t : Turn). In t second.made) page.page.is page.among)) in
            let at : Placed door by page.page.place act = entered by ran.trace turn (in_turns turn (in_behind turn among)) in
            let there : Reached page.page.place act at = reach page.page.place act at among refl in
            let shown : bytes_at (marker_name its_uuid) there.held_then ≡ Some pair.bytes = subst (λ n. bytes_at n there.held_then ≡ Some pair.bytes) its_name (shows_pair page.page.place act at there pair page.lists) in
            absurd (let e = sym shown ∙ ((left_there page.page.place act at there c its.its standing).marker_same ∙ none_under) in cc)

    pub stood_taken : In c (taken_commits ends copying behind)
    stood_taken =
        taken_in c [] (filter (is_taken x marks.listed judging) (recorded recs.listed))
        (inr (filter_in (is_taken x marks.listed judging) c (recorded recs.listed)
        (flat_map_in records_in c (under (record_name its_uuid) record_pair.0.bytes) recs.listed (covering.within (under (record_name its_uuid) record_pair.0.bytes) (bytes_listed (record_name its_uuid) record_pair.0.bytes covering.page.pairs page_lists)) record_reads)
        (and_from (not (put_since its_uuid x judging) && not (has_marker its_uuid marks.listed)) (not (forgotten its_uuid judging)) (and_from (not (put_since its_uuid x judging)) (not (has_marker its_uuid marks.listed)) (ap not unput_since) (ap not unlisted)) (ap not unforgotten_since))))

    -- ---- and what is shown of it is what stood there

    module _ (pair : Pair) (part : IsTrue (is_record_of c pair || list_any (λ key. is_version_at key c.id pair) c.keys)) where
      module _ (place : ℕ) (act : DoorAct) (among : In (AtDoor place act) behind) (calls : IsTrue (is_call act)) where
        its_place : Placed door by place act
        its_place = entered by ran.trace (AtDoor place act) (in_turns (AtDoor place act) among)

        its_reach : Reached place act its_place
        its_reach = reach place act its_place (call_in_front (AtDoor place act) among calls) calls

        its_left : Left c (its_reach.more ++ its_place.entry ∷ []) held its_reach.held_then
        its_left = left_there place act its_place its_reach c its.its standing

        name_same : bytes_at pair.name its_reach.held_then ≡ bytes_at pair.name held
        name_same = elim (named_as_part c pair part) [
          | inl record_of ↦ subst (λ n. bytes_at n its_reach.held_then ≡ bytes_at n held) (sym record_of) its_left.record_same
          | inr version_of_it ↦ subst (λ n. bytes_at n its_reach.held_then ≡ bytes_at n held) (sym version_of_it.2) (its_left.version_same version_of_it.0 version_of_it.1)
        ]

        -- what is shown stood there
        pub shown_is_held : In pair (pairs_in act) → In pair held
        shown_is_held shown = stands_in at_first held start contents along_start pair.name pair.bytes (sym name_same ∙ shows_pair place act its_place its_reach pair shown)

      -- and what stood there is shown
      pub held_is_shown : In pair held → In pair (flat_map shown_in_turn behind)
      held_is_shown within = elim (named_as_part c pair part) [
        | inl record_of ↦
            (let same : Some record_pair.0.bytes ≡ Some pair.bytes = sym record_there_now ∙ subst (λ n. bytes_at n held ≡ Some pair.bytes) record_of (stands at_first held start contents along_start pair within) in
            flat_map_in shown_in_turn pair (AtDoor covering.page.place shown_by_page) behind (in_behind (AtDoor covering.page.place shown_by_page) page_in_front)
            (subst (λ n. In (under n pair.bytes) covering.page.pairs) (sym record_of) (bytes_listed (record_name its_uuid) pair.bytes covering.page.pairs (page_lists ∙ same))))
        | inr version_of_it ↦
            (let one : VersionAt = record { key = version_of_it.0; id = c.id } in
            let got = all_found who versions marks.behind shape.all_got one
            (flat_map_in (λ (d : Commit). map (λ (key : List ℕ). record { key = key; id = d.id }) d.keys) one c (taken_commits ends copying behind) stood_taken (map_in (λ (key : List ℕ). record { key = key; id = c.id }) version_of_it.0 c.keys version_of_it.1)) in
            let act : DoorAct = Call got.node got.inc (Get (version_name version_of_it.0 c.id)) (answers.Found got.bytes) in
            let among : In (AtDoor got.place act) behind = copying_line.in_rest asked ran legal honest line listed order x node inc behind is nine course.1 (AtDoor got.place act) got.among in
            let shown = shows_pair got.place act (its_place got.place act among refl) (its_reach got.place act among refl) (under (version_name version_of_it.0 c.id) got.bytes) (inl refl) in
            let same : Some got.bytes ≡ Some pair.bytes =
            sym shown ∙ subst (λ n. bytes_at n (its_reach got.place act among refl).held_then ≡ Some pair.bytes) version_of_it.2 (name_same got.place act among refl ∙ stands at_first held start contents along_start pair within) in
            flat_map_in shown_in_turn pair (AtDoor got.place act) behind among (inl (ap (λ n. under n pair.bytes) version_of_it.2 ∙ ap (λ b. under (version_name version_of_it.0 c.id) b) (let b : pair.bytes ≡ got.bytes = cc in b))))
      ]
