-- Copies are shown no damage, and find each version that they ask for.
use Rattle.std.proofs.Common.{◌≡◌, ◌≤◌, ◌+◌, ℕ, Bool, true, false, suc, ◌&&◌, not, List, [], ◌∷◌, ◌++◌, refl, sym, ap, subst, ◌∙◌, ◌⊎◌, inl, inr, arith, length, length-append, append_assoc, map, take, eqb, ◌||◌}
use Rattle.std.specs.Prelude.{IsFalse, IsTrue, None, Option, Some, filter, if◌then◌else◌}
use Rattle.std.specs.List.{flat_map, list_any}
use Rattle.std.specs.Str.{bytes_eq}
use Rattle.std.proofs.lemmas.Bool.{and_from, and_parts, eq-eqb, eqb-true, false_from_ne_true, false≢true, ne_eqb, not-true, true≢false}
use Rattle.std.proofs.lemmas.List.Sums.{fold-append}
use Rattle.aft_id.specs.TxnId.{IsUuid}
use Rattle.aft_keeper.specs.declared.keeper.KeeperAnswer.{KeeperAnswer}
use Rattle.aft_keeper.specs.declared.keeper.KeeperAnswer.TheVariants as answers
use Rattle.aft_keeper.specs.declared.keeper.KeeperCall.TheVariants.{Get, Scan}
use Rattle.aft_keeper.specs.declared.keeper.Pair.{Pair}
use Rattle.aft_keeper.specs.Contents.{bytes_at}
use Rattle.aft_records.specs.declared.stored.Commit.{Commit}
use Rattle.aft_records.specs.declared.stored.Marker.{Marker}
use Rattle.aft_records.specs.declared.stored.Version.{Version}
use Rattle.aft_model.specs.declared.caller.By.{By}
use Rattle.aft_model.specs.declared.door.DoorAct.{DoorAct}
use Rattle.aft_model.specs.declared.door.DoorAct.TheVariants.{Call, Fence, Up}
use Rattle.aft_model.specs.declared.door.DoorEntry.{DoorEntry}
use Rattle.aft_model.specs.declared.office.OfficeEntry.{OfficeEntry}
use Rattle.aft_model.specs.declared.reply.Reply.TheVariants as replies
use Rattle.aft_model.specs.declared.script.Command.TheVariants.{Backup}
use Rattle.aft_model.specs.declared.script.Line.{Line}
use Rattle.aft_model.specs.Claims.{forgotten}
use Rattle.aft_model.specs.Committed.{committed, committed_by}
use Rattle.aft_model.specs.Cut.{has_marker, is_taken, put_since}
use Rattle.aft_model.specs.DoorKnowledge.{is_open, knows_marked}
use Rattle.aft_model.specs.DoorRules.{may_call}
use Rattle.aft_model.specs.Evidence.{covers, is_absence, pairs_in, shown_in, shown_on_page, shows_absent, stored_in}
use Rattle.aft_model.specs.Honest.{Honest}
use Rattle.aft_model.specs.LegalDoor.{may_come, may_follow}
use Rattle.aft_model.specs.Membership.{Incarnation, incarnation, is_up}
use Rattle.aft_model.specs.NodeSights.{comes_up}
use Rattle.aft_model.specs.Readings.{has_reading, id_of_marker, marker_name, markers_in, records_in, version_name, versions_in}
use Rattle.aft_model.specs.ScanRun.{page_limit}
use Rattle.aft_model.specs.Sound.{markers_prefix, recorded, records_prefix}
use Rattle.aft_model.proofs.Growth.{forgotten_grows}
use Rattle.aft_model.proofs.Histories.{In, all_at, any_from, each_after_snoc, in_append, in_back, in_flat_map, in_front}
use Rattle.aft_model.proofs.Lists.{in_filter}
use Rattle.aft_model.proofs.Sights.{bytes_eq-refl, same_bytes}
use Rattle.aft_lines.specs.Asked.{Asked, Ran}
use Rattle.aft_lines.specs.BackupCourse.{Copier, backup_course, behind_markers, copied_markers, copied_records, copier, copies, copy_of_line, fence_course, is_next_copier, last_door_place, names_to_copy, stopped_copy, taken_commits}
use Rattle.aft_lines.specs.CausesScans.{damage_for, damage_in, damaged_names, is_damage, unfound_in}
use Rattle.aft_lines.specs.CourseWords.{Ends}
use Rattle.aft_lines.specs.FinishedText.{answers_of, line_of}
use Rattle.aft_lines.specs.LegalTrace.{LegalTrace}
use Rattle.aft_lines.specs.LineCourse.{answers_last, follows_course}
use Rattle.aft_lines.specs.LineView.{LineView, door_entries, door_entry_in, ends_of, fixed_for}
use Rattle.aft_lines.specs.Lines.{lines, node_numbers}
use Rattle.aft_lines.specs.OrphanCourse.{VersionAt}
use Rattle.aft_lines.specs.Partings.{turns_before}
use Rattle.aft_lines.specs.ScanCourse.{ScanLimit, Scanned, copy_limit, names_limit}
use Rattle.aft_lines.specs.Turns.{AtDoor, AtNode, AtOffice, Turn, end_front, front_in, turns}
use Rattle.aft_lines.specs.Views.{view_of}
use Rattle.law_effects.specs.Effects.{Shows, effect_of, sight_effect}
use Rattle.law_kept.specs.Kept.{Comes, Kept, Lawful}
use Rattle.law_kept.specs.Outcomes.{MayBe}
use Rattle.law_kept.proofs.Always.{lawful_begins}
use Rattle.law_kept.proofs.Fates.{marker_of_uuid, marker_read, shown_before, under}
use Rattle.law_kept.proofs.Gone.{flat_map_in}
use Rattle.law_kept.proofs.Steps.{come}
use Rattle.law_kept.proofs.Written.{empty_if}
use Rattle.law_names.proofs.Differ.{first_differs}
use Rattle.law_runs.specs.Runs.{Goes}
use Rattle.law_runs.proofs.LegalRuns.{legal_goes}
use Rattle.law_runs.proofs.Opening.{head_least}
use Rattle.law_steps.specs.OneList.{entries_of}
use Rattle.law_turns.specs.Order.{moments_ascend}
use Rattle.law_turns.proofs.Sorting.{sorted_ascends}
use Rattle.law_whole.proofs.Throughout.{its_uuid, is_committed, kept_open}
use Rattle.law_whole.proofs.Values.{comes_next, shows_version}
use Rattle.law_promise.proofs.Doors.{lawful_door}
use Rattle.law_damage.proofs.AtDoor.{Placed, entered}
use Rattle.law_damage.proofs.Pages.{is_ids_prefix}
use Rattle.law_damage.proofs.Undamaged.{comes_at_open, page_reads, tells_none_of}
use Rattle.law_copies.proofs.Between.{begins_with, unretired}
use Rattle.law_copies.proofs.Runs.{CoveredOn, ListedOn, OwnPage, Unshown, Went, went}
use Rattle.law_copies.proofs.Stays.{absent_stays, committed_more}
use Rattle.law_copies.proofs.Taken.{Fenced, Gets, GetsOne, before_rest, comes_first, fenced_end, first_ascends, gets_of, in_taken, last_behind, of_taken, parted_at, second_ascends}

-- the prefix that a scan asks for
abbrev pub prefix_in : DoorAct → List ℕ
prefix_in (Call node inc (Scan prefix after limit) answer) = prefix
prefix_in act = []

-- whether an act is a scan
abbrev pub scans : DoorAct → Bool
scans (Call node inc (Scan prefix after limit) answer) = true
scans act = false

is_no_scan : false ≡ true → ⊥
is_no_scan e = false≢true e

-- what a list of pairs has under a name is one of them
pub bytes_listed : (name bytes : List ℕ) (pairs : List Pair) → bytes_at name pairs ≡ Some bytes → In (under name bytes) pairs
bytes_listed name bytes [] e = absurd (cc)
bytes_listed name bytes (p ∷ pairs) e = cases (bytes_listed name bytes pairs) (bytes_eq name p.name) refl e
  where
    cases : (bytes_at name pairs ≡ Some bytes → In (under name bytes) pairs) → (t : Bool) → bytes_eq name p.name ≡ t → (if t then Some p.bytes else bytes_at name pairs) ≡ Some bytes → In (under name bytes) (p ∷ pairs)
    cases rest true same is = inl (ap (λ (n : List ℕ). under n bytes) (same_bytes name p.name same) ∙ ap (λ (b : List ℕ). under p.name b) (let b : bytes ≡ p.bytes = cc in b))
    cases rest false other is = inr (rest is)

-- a pair that has a reading is no damage
undamaged_pair : (pair : Pair) → IsTrue (has_reading pair) → (name : List ℕ) → In name (map (λ (p : Pair). p.name) (filter (is_damage None) (pair ∷ []))) → ⊥
undamaged_pair pair reads name among = subst (λ (has : Bool). In name (map (λ (p : Pair). p.name) (if not has || false then pair ∷ [] else []))) reads among

-- turns that end at the office
pub record OfficeEnd (line : List Turn) : Type 0 where
  pub front : List Turn
  pub before : List OfficeEntry
  pub entry : OfficeEntry
  pub is : line ≡ front ++ AtOffice before entry ∷ []

end-snoc : (line : List Turn) (turn : Turn) → end_front (line ++ turn ∷ []) ≡ front_in turn
end-snoc line turn = fold-append (λ (before : ℕ) (t : Turn). front_in t) 0 line (turn ∷ [])

-- such have seen all that was done before at the door
pub seen_by_end : (line : List Turn) (end : OfficeEnd line) → IsTrue (moments_ascend line) → (place : ℕ) (act : DoorAct) → In (AtDoor place act) line → suc place ≤ end_front line
seen_by_end line end up place act among = elim (in_append (AtDoor place act) end.front (AtOffice end.before end.entry ∷ []) (subst (In (AtDoor place act)) end.is among)) [
  | inl before ↦
      (let le : place + place + 1 ≤ end.entry.front + end.entry.front = comes_first end.front (AtOffice end.before end.entry ∷ []) (subst (λ (l : List Turn). IsTrue (moments_ascend l)) end.is up) (AtDoor place act) (AtOffice end.before end.entry) before (inl refl) in
      let last : end_front line ≡ end.entry.front = ap end_front end.is ∙ end-snoc end.front (AtOffice end.before end.entry) in
      omega arith)
  | inr it ↦ elim it [ inl same ↦ absurd (cc) | inr none ↦ absurd none ]
]

-- turns that spoil nothing for a copy
abbrev Fine : By → Turn → Type 0
Fine by (AtDoor place act) = (name : List ℕ) → In name (damage_in None (record { by = by; act = act }) ++ unfound_in act) → ⊥
Fine by turn = true ≡ true

-- a pair that reads as a version has a reading
reads_version : (pair : Pair) (v : Version) → In v (versions_in pair) → IsTrue (has_reading pair)
reads_version pair v among = some (length (records_in pair)) (length (markers_in pair)) (versions_in pair) among
  where
    some : (a b : ℕ) (xs : List Version) → In v xs → IsTrue (not (eqb (a + b + length xs) 0))
    some a b [] none = absurd none
    some a b (x ∷ xs) there = ap not (ne_eqb (a + b + suc (length xs)) 0 (λ e. let z : a + b + suc (length xs) ≡ 0 = e in absurd (omega arith)))

-- a page shows of a name that it covers what it lists of it, or that it is absent
pub page_tells : (name prefix after : List ℕ) (node inc : ℕ) (pairs : List Pair) (listed : Option (List ℕ)) → bytes_at name pairs ≡ listed → IsTrue (covers prefix after page_limit pairs name)
    → effect_of name (Call node inc (Scan prefix after page_limit) (answers.Page pairs)) ≡ Shows listed
page_tells name prefix after node inc pairs None is covered = ap (λ (o : Option (List ℕ)). sight_effect (shown_on_page o (covers prefix after page_limit pairs name))) is ∙ ap (λ (b : Bool). sight_effect (shown_on_page None b)) covered
page_tells name prefix after node inc pairs (Some bytes) is covered = ap (λ (o : Option (List ℕ)). sight_effect (shown_on_page o (covers prefix after page_limit pairs name))) is

page_lacks : (name prefix after : List ℕ) (node inc : ℕ) (pairs : List Pair) → bytes_at name pairs ≡ None → IsTrue (covers prefix after page_limit pairs name) → IsTrue (is_absence (shown_in name (Call node inc (Scan prefix after page_limit) (answers.Page pairs))))
page_lacks name prefix after node inc pairs is covered = ap (λ (o : Option (List ℕ)). is_absence (shown_on_page o (covers prefix after page_limit pairs name))) is ∙ ap (λ (b : Bool). is_absence (shown_on_page None b)) covered

module _ (asked : Asked) (ran : Ran) (legal : LegalTrace asked ran) (honest : Honest ran.trace.door) (line : Line) (listed : In line (lines asked)) (order : line.order ≡ Backup) where
  abbrev pub view : LineView
  view = view_of asked ran line

  abbrev pub by : By
  by = line_of line

  abbrev pub door : List DoorEntry
  door = ran.trace.door

  abbrev pub ends : Ends
  ends = ends_of view

  abbrev pub its_turns : List Turn
  its_turns = turns by ran.trace

  abbrev pub goes : Goes asked ran
  goes = legal_goes asked ran legal

  pub lawful : Lawful door
  lawful = lawful_door asked ran goes honest

  pub up : IsTrue (moments_ascend its_turns)
  up = sorted_ascends [] (entries_of by ran.trace) refl

  pub follows : IsTrue (backup_course ends its_turns)
  follows =
      let keeps = all_at (λ (k : Line). answers_last (turns (line_of k) ran.trace) && follows_course k.order (node_numbers asked.settings) (ends_of (view_of asked ran k)) (turns (line_of k) ran.trace)) line (lines asked) listed legal.courses in
      subst (λ c. IsTrue (follows_course c (node_numbers asked.settings) ends its_turns)) order (and_parts (answers_last its_turns) (follows_course line.order (node_numbers asked.settings) ends its_turns) keeps).1

  -- at an entry of the line the door is open, and the entry comes by its rule
  module _ (place : ℕ) (act : DoorAct) (at : Placed door by place act) where
    pub lawful_with : Lawful ((at.before ++ at.entry ∷ []) ++ at.after)
    lawful_with = subst Lawful (at.parts ∙ sym (append_assoc at.before (at.entry ∷ []) at.after)) lawful

    pub lawful_now : Lawful (at.before ++ at.entry ∷ [])
    lawful_now = lawful_begins (at.before ++ at.entry ∷ []) at.after lawful_with

    pub opened : IsTrue (is_open at.before)
    opened = comes_at_open asked ran legal honest line listed at.before at.entry (each_after_snoc may_follow [] at.before at.entry lawful_now.legal).1 at.its

    pub comes : Comes at.before at.entry
    comes = comes_next at.before at.after at.entry opened lawful_with

  -- behind a copier's coming up
  module _ (x node inc : ℕ) (behind : List Turn) (is : its_turns ≡ AtDoor x (Up node inc) ∷ behind) (nine : node ≡ copier) (ends_so : IsTrue (fence_course (incarnation node inc) (copy_of_line ends (record { who = incarnation node inc; place = x }) behind).is_whole (copy_of_line ends (record { who = incarnation node inc; place = x }) behind).behind)) where
    abbrev pub who : Incarnation
    who = incarnation node inc

    abbrev pub copying : Copier
    copying = record { who = who; place = x }

    abbrev pub recs : Scanned
    recs = copied_records copying behind

    abbrev pub marks : Scanned
    marks = copied_markers copying behind

    pub first : Went copy_limit who records_prefix [] [] behind recs
    first = went copy_limit who records_prefix [] [] behind

    pub second : Went names_limit who markers_prefix [] [] recs.behind marks
    second = went names_limit who markers_prefix [] [] recs.behind

    pub parts : behind ≡ first.made ++ (second.made ++ marks.behind)
    parts = first.splits ∙ ap (λ (l : List Turn). first.made ++ l) second.splits

    pub up_behind : IsTrue (moments_ascend behind)
    up_behind = second_ascends (AtDoor x (Up node inc) ∷ []) behind (subst (λ (l : List Turn). IsTrue (moments_ascend l)) is up)

    pub in_turns : (turn : Turn) → In turn behind → In turn its_turns
    in_turns turn among = subst (In turn) (sym is) (inr among)

    pub placed : (place : ℕ) (act : DoorAct) → In (AtDoor place act) behind → Placed door by place act
    placed place act among = entered by ran.trace (AtDoor place act) (in_turns (AtDoor place act) among)

    pub in_first : (turn : Turn) → In turn first.made → In turn behind
    in_first turn among = subst (In turn) (sym parts) (in_front turn first.made (second.made ++ marks.behind) among)

    pub in_second : (turn : Turn) → In turn second.made → In turn behind
    in_second turn among = subst (In turn) (sym parts) (in_back turn first.made (second.made ++ marks.behind) (in_front turn second.made marks.behind among))

    pub in_rest : (turn : Turn) → In turn marks.behind → In turn behind
    in_rest turn among = subst (In turn) (sym parts) (in_back turn first.made (second.made ++ marks.behind) (in_back turn second.made marks.behind among))

    pub up_parts : IsTrue (moments_ascend (first.made ++ (second.made ++ marks.behind)))
    up_parts = subst (λ (l : List Turn). IsTrue (moments_ascend l)) parts up_behind

    pub scanned : behind ≡ (first.made ++ second.made) ++ marks.behind
    scanned = parts ∙ sym (append_assoc first.made second.made marks.behind)

    -- ---- a commit that is taken

    module _ (whole : IsTrue marks.is_whole) (c : Commit) (taken : In c (taken_commits ends copying behind)) (last : OfficeEnd its_turns) where
      abbrev pub uuid : List ℕ
      uuid = c.id.uuid

      abbrev pub the_marker : List ℕ
      the_marker = marker_name uuid

      abbrev pub judged_by : List DoorEntry
      judged_by = take (suc (last_door_place x (turns_before marks.behind behind))) ends.seen

      pub chosen : In c (recorded recs.listed) × IsTrue (is_taken x marks.listed judged_by c)
      chosen = in_filter (is_taken x marks.listed judged_by) c (recorded recs.listed) (elim (in_taken c [] (filter (is_taken x marks.listed judged_by) (recorded recs.listed)) taken) [ inl none ↦ absurd none | inr some ↦ some ])

      pub passed : IsTrue (not (put_since uuid x judged_by) && not (has_marker uuid marks.listed)) × IsTrue (not (forgotten uuid judged_by))
      passed = and_parts (not (put_since uuid x judged_by) && not (has_marker uuid marks.listed)) (not (forgotten uuid judged_by)) chosen.1

      pub its_pair : (pair : Pair) × In pair recs.listed × In c (records_in pair)
      its_pair = in_flat_map records_in c recs.listed chosen.0

      -- the page that showed its record, and the one that covers its marker's name
      pub on : ListedOn copy_limit who records_prefix first.made its_pair.0
      on = elim (first.lists its_pair.0 its_pair.1) [ inl none ↦ absurd none | inr listed_on ↦ listed_on ]

      pub over : CoveredOn names_limit who markers_prefix second.made marks.listed the_marker
      over = second.covers_all whole the_marker refl

      abbrev pub recorded_by : DoorAct
      recorded_by = Call on.page.node on.page.inc (Scan records_prefix on.page.after page_limit) (answers.Page on.page.pairs)

      abbrev pub covered_by : DoorAct
      covered_by = Call over.page.node over.page.inc (Scan markers_prefix over.page.after page_limit) (answers.Page over.page.pairs)

      pub record_turn : In (AtDoor on.page.place recorded_by) first.made
      record_turn = subst (λ (t : Turn). In t first.made) on.page.is on.among

      pub marker_turn : In (AtDoor over.page.place covered_by) second.made
      marker_turn = subst (λ (t : Turn). In t second.made) over.page.is over.among

      pub X : Placed door by x (Up node inc)
      X = entered by ran.trace (AtDoor x (Up node inc)) (subst (In (AtDoor x (Up node inc))) (sym is) (inl refl))

      pub R : Placed door by on.page.place recorded_by
      R = placed on.page.place recorded_by (in_first (AtDoor on.page.place recorded_by) record_turn)

      pub Q : Placed door by over.page.place covered_by
      Q = placed over.page.place covered_by (in_second (AtDoor over.page.place covered_by) marker_turn)

      pub came_before : (more : List DoorEntry) × (Q.before ≡ X.before ++ X.entry ∷ more)
      came_before =
          parted_at door by by x over.page.place (Up node inc) covered_by X Q (λ e. is_no_scan (ap scans e))
          (head_least (AtDoor x (Up node inc)) behind (subst (λ (l : List Turn). IsTrue (moments_ascend l)) is up) (AtDoor over.page.place covered_by) (in_second (AtDoor over.page.place covered_by) marker_turn))

      pub shown_before_it : (more : List DoorEntry) × (Q.before ≡ R.before ++ R.entry ∷ more)
      shown_before_it =
          parted_at door by by on.page.place over.page.place recorded_by covered_by R Q (λ e. first_differs 99 114 (47 ∷ []) (47 ∷ []) refl (ap prefix_in e))
          (comes_first first.made (second.made ++ marks.behind) up_parts (AtDoor on.page.place recorded_by) (AtDoor over.page.place covered_by) record_turn (in_front (AtDoor over.page.place covered_by) second.made marks.behind marker_turn))

      -- its record was shown
      committed_then : In c (committed Q.before)
      committed_then =
          flat_map_in (λ (e : DoorEntry). committed_by e) c R.entry Q.before (subst (In R.entry) (sym shown_before_it.1) (in_back R.entry R.before (R.entry ∷ shown_before_it.0) (inl refl)))
          (flat_map_in records_in c its_pair.0 (stored_in R.entry.act ++ pairs_in R.entry.act) (in_back its_pair.0 (stored_in R.entry.act) (pairs_in R.entry.act) (subst (λ (a : DoorAct). In its_pair.0 (pairs_in a)) R.does on.lists)) its_pair.2)

      lawful_then : Lawful Q.before
      lawful_then = lawful_begins Q.before (Q.entry ∷ []) (lawful_now over.page.place covered_by Q)

      opened_then : IsTrue (is_open Q.before)
      opened_then = opened over.page.place covered_by Q

      its : IsUuid uuid
      its = its_uuid Q.before lawful_then c committed_then

      -- what it is judged by goes on behind that page
      pub judged_parts : (more : List DoorEntry) × (judged_by ≡ (Q.before ++ Q.entry ∷ []) ++ more)
      judged_parts =
          let front : List DoorEntry = Q.before ++ Q.entry ∷ [] in
          let long : length front ≡ suc over.page.place = (let l : length front ≡ length Q.before + 1 = length-append Q.before (Q.entry ∷ []) in let at = Q.is_at in omega arith) in
          let behind_all : suc over.page.place ≤ end_front its_turns = seen_by_end its_turns last up over.page.place covered_by (in_turns (AtDoor over.page.place covered_by) (in_second (AtDoor over.page.place covered_by) marker_turn)) in
          let before_it : turns_before marks.behind behind ≡ first.made ++ second.made = ap (turns_before marks.behind) scanned ∙ before_rest (first.made ++ second.made) marks.behind in
          let reached : over.page.place ≤ last_door_place x (turns_before marks.behind behind) =
          subst (λ (l : List Turn). over.page.place ≤ last_door_place x l) (sym before_it)
          (last_behind x (first.made ++ second.made) (first_ascends (first.made ++ second.made) marks.behind (subst (λ (l : List Turn). IsTrue (moments_ascend l)) scanned up_behind)) over.page.place covered_by (in_back (AtDoor over.page.place covered_by) first.made second.made marker_turn)) in
          let one = begins_with front Q.after (end_front its_turns) (omega arith) in
          let two = begins_with front one.0 (suc (last_door_place x (turns_before marks.behind behind))) (omega arith) in
          (two.0, ap (take (suc (last_door_place x (turns_before marks.behind behind)))) (ap (take (end_front its_turns)) (Q.parts ∙ sym (append_assoc Q.before (Q.entry ∷ []) Q.after)) ∙ one.1) ∙ two.1)

      -- it isn't forgotten by then
      pub unforgotten_then : IsFalse (forgotten uuid (Q.before ++ Q.entry ∷ []))
      unforgotten_then = false_from_ne_true (forgotten uuid (Q.before ++ Q.entry ∷ [])) (λ was.
          true≢false (sym (forgotten_grows uuid (Q.before ++ Q.entry ∷ []) judged_parts.0 was) ∙ subst (λ (h : List DoorEntry). IsFalse (forgotten uuid h)) judged_parts.1 (not-true (forgotten uuid judged_by) passed.1)))

      -- its marker was shown absent
      no_marker : (b : List ℕ) → bytes_at the_marker over.page.pairs ≡ Some b → ⊥
      no_marker b shows =
          let effect : effect_of the_marker Q.entry.act ≡ Shows (Some b) = subst (λ (a : DoorAct). effect_of the_marker a ≡ Shows (Some b)) Q.does (page_tells the_marker markers_prefix over.page.after over.page.node over.page.inc over.page.pairs (Some b) shows over.covered) in
          let kept : Kept uuid Q.before = kept_open uuid its Q.before opened_then lawful_then in
          let may : MayBe the_marker Q.before (Some b) = shown_before Q.before Q.entry the_marker (lawful_now over.page.place covered_by Q).honest kept.markers_known.some (Some b) effect in
          let m = kept.markers_known.each b may in
          let listed_it = over.within (under the_marker b) (bytes_listed the_marker b over.page.pairs shows) in
          true≢false (sym (any_from (λ (marker : Marker). bytes_eq uuid (id_of_marker marker).uuid) m.1 (flat_map markers_in marks.listed) (flat_map_in markers_in m.1 (under the_marker b) marks.listed listed_it (marker_read uuid b m.1 m.2))
          (subst (λ (u : List ℕ). IsTrue (bytes_eq uuid u)) (sym (marker_of_uuid uuid (Some b) m.1 m.2)) (bytes_eq-refl uuid))) ∙ not-true (has_marker uuid marks.listed) (and_parts (not (put_since uuid x judged_by)) (not (has_marker uuid marks.listed)) passed.0).1)

      pub absent_then : IsTrue (shows_absent the_marker Q.entry)
      absent_then = by_listed (bytes_at the_marker over.page.pairs) refl
        where
          by_listed : (o : Option (List ℕ)) → bytes_at the_marker over.page.pairs ≡ o → IsTrue (shows_absent the_marker Q.entry)
          by_listed None e = subst (λ (a : DoorAct). IsTrue (is_absence (shown_in the_marker a))) Q.does (page_lacks the_marker markers_prefix over.page.after over.page.node over.page.inc over.page.pairs e over.covered)
          by_listed (Some b) e = absurd (no_marker b e)

      came_then : IsTrue (list_any (λ (e : DoorEntry). comes_up who e.act) (Q.before ++ Q.entry ∷ []))
      came_then =
          any_from (λ (e : DoorEntry). comes_up who e.act) X.entry (Q.before ++ Q.entry ∷ [])
          (in_front X.entry Q.before (Q.entry ∷ []) (subst (In X.entry) (sym came_before.1) (in_back X.entry X.before (X.entry ∷ came_before.0) (inl refl))))
          (subst (λ (a : DoorAct). IsTrue (comes_up who a)) X.does (and_from (eqb node node) (eqb inc inc) (eq-eqb node node refl) (eq-eqb inc inc refl)))

      -- ---- a get of a version of it

      module _ (key : List ℕ) (among : In key c.keys) (p n i : ℕ) (answer : KeeperAnswer) (there : In (AtDoor p (Call n i (Get (version_name key c.id)) answer)) marks.behind) (mine : who ≡ incarnation n i) where
        abbrev got_by : DoorAct
        got_by = Call n i (Get (version_name key c.id)) answer

        P : Placed door by p got_by
        P = placed p got_by (in_rest (AtDoor p got_by) there)

        covered_before : (more : List DoorEntry) × (P.before ≡ Q.before ++ Q.entry ∷ more)
        covered_before =
            parted_at door by by over.page.place p covered_by got_by Q P (λ e. is_no_scan (sym (ap scans e)))
            (comes_first second.made marks.behind (second_ascends first.made (second.made ++ marks.behind) up_parts) (AtDoor over.page.place covered_by) (AtDoor p got_by) marker_turn there)

        joined : (Q.before ++ Q.entry ∷ []) ++ covered_before.0 ≡ P.before
        joined = append_assoc Q.before (Q.entry ∷ []) covered_before.0 ∙ sym covered_before.1

        up_now : IsTrue (is_up who P.before)
        up_now =
            subst (λ (w : Incarnation). IsTrue (is_up w P.before)) (sym mine)
            (and_parts (is_up (incarnation n i) P.before) (may_call P.before (incarnation n i) (Get (version_name key c.id))) (subst (λ (a : DoorAct). IsTrue (may_come P.before a)) (sym P.does) (come P.before P.entry (comes p got_by P)))).0

        -- so it isn't marked
        unmarked_now : IsFalse (knows_marked uuid P.before)
        unmarked_now =
            subst (λ (h : List DoorEntry). IsFalse (knows_marked uuid h)) (sym covered_before.1)
            (absent_stays c its Q.before Q.entry covered_before.0 opened_then (subst Lawful covered_before.1 (lawful_begins P.before (P.entry ∷ []) (lawful_now p got_by P))) committed_then absent_then unforgotten_then
            (unretired asked ran goes honest who nine (Q.before ++ Q.entry ∷ []) covered_before.0 (P.entry ∷ P.after) (P.parts ∙ ap (λ (l : List DoorEntry). l ++ P.entry ∷ P.after) (sym joined)) came_then (subst (λ (h : List DoorEntry). IsTrue (is_up who h)) (sym joined) up_now) uuid its)).1

        -- and its version is what is shown
        version_shown : (outcome : Option (List ℕ)) → effect_of (version_name key c.id) got_by ≡ Shows outcome → (bytes : List ℕ) × (v : Version) × In v (versions_in (under (version_name key c.id) bytes)) × (outcome ≡ Some bytes)
        version_shown outcome shows =
            let lawful_p : Lawful P.before = lawful_begins P.before (P.entry ∷ []) (lawful_now p got_by P) in
            let among_now : In c (committed P.before) = subst (λ (h : List DoorEntry). In c (committed h)) (sym covered_before.1) (committed_more c Q.before (Q.entry ∷ covered_before.0) committed_then) in
            let found = shows_version c P.before lawful_p (opened p got_by P) (is_committed P.before lawful_p c among_now) P.entry (lawful_now p got_by P).honest outcome unmarked_now key among (subst (λ (a : DoorAct). effect_of (version_name key c.id) a ≡ Shows outcome) P.does shows) in
            (found.1.bytes, found.1.version, found.1.reads, found.2)

        get_fine : Fine by (AtDoor p got_by)
        get_fine = by_answer answer refl
          where
            by_answer : (a : KeeperAnswer) → answer ≡ a → Fine by (AtDoor p (Call n i (Get (version_name key c.id)) a))
            by_answer (answers.Found bytes) e name damage =
                let found = version_shown (Some bytes) (ap (λ (a : KeeperAnswer). effect_of (version_name key c.id) (Call n i (Get (version_name key c.id)) a)) e ∙ ap (λ (t : Bool). sight_effect (if t then Some (Some bytes) else None)) (bytes_eq-refl (version_name key c.id))) in
                let same : bytes ≡ found.0 = (let f = found.3 in cc) in
                let pair : Pair = under (version_name key c.id) bytes in
                let reads : IsTrue (has_reading pair) = subst (λ (b : List ℕ). IsTrue (has_reading (under (version_name key c.id) b))) (sym same) (reads_version (under (version_name key c.id) found.0) found.1 found.2) in
                elim (in_append name (damage_in None (record { by = by; act = Call n i (Get (version_name key c.id)) (answers.Found bytes) })) [] damage) [
                  | inl bad ↦ undamaged_pair pair reads name bad
                  | inr none ↦ none
                ]
            by_answer answers.Absent e name damage =
                let found = version_shown None (ap (λ (a : KeeperAnswer). effect_of (version_name key c.id) (Call n i (Get (version_name key c.id)) a)) e ∙ ap (λ (t : Bool). sight_effect (if t then Some None else None)) (bytes_eq-refl (version_name key c.id))) in
                absurd (let f = found.3 in cc)
            by_answer a e name damage = damage

    -- ---- all of its turns

    page_fine : (most : ScanLimit) (prefix : List ℕ) → IsTrue (is_ids_prefix prefix) → (turn : Turn) → In turn behind → OwnPage most who prefix turn ⊎ Unshown most who prefix turn → Fine by turn
    page_fine most prefix of turn among (inl page) = subst (Fine by) (sym page.is) (λ name damage.
        elim (in_append name (damage_in None (record { by = by; act = Call page.node page.inc (Scan prefix page.after page_limit) (answers.Page page.pairs) })) [] damage) [
          | inl bad ↦ page_reads asked ran legal honest line listed name (record {
            place = page.place;
            act = Call page.node page.inc (Scan prefix page.after page_limit) (answers.Page page.pairs);
            among = subst (λ (t : Turn). In t its_turns) page.is (in_turns turn among);
            its = of;
            damage = bad;
          })
          | inr none ↦ none
        ])
    page_fine most prefix of turn among (inr unshown) = subst (Fine by) (sym unshown.is) (λ name damage.
        subst (λ (pairs : List Pair). In name (map (λ (pair : Pair). pair.name) (filter (is_damage None) pairs) ++ [])) unshown.nothing damage)

    end_fine : (turn : Turn) (place n i : ℕ) (before : List OfficeEntry) (entry : OfficeEntry) → In turn (AtDoor place (Fence n i) ∷ AtOffice before entry ∷ []) → Fine by turn
    end_fine turn place n i before entry (inl fence) = subst (Fine by) (sym fence) (λ name none. none)
    end_fine turn place n i before entry (inr (inl office)) = subst (Fine by) (sym office) refl
    end_fine turn place n i before entry (inr (inr none)) = absurd none

    -- a line that was fenced ends at the office
    pub ended : (front line : List Turn) → behind ≡ front ++ line → Fenced who line → OfficeEnd its_turns
    ended front line splits end = record {
      front = AtDoor x (Up node inc) ∷ (front ++ AtDoor end.place (Fence end.node end.inc) ∷ []);
      before = end.before;
      entry = end.entry;
      is = is ∙ ap (λ (l : List Turn). AtDoor x (Up node inc) ∷ l) (splits ∙ (ap (λ (l : List Turn). front ++ l) end.is ∙ sym (append_assoc front (AtDoor end.place (Fence end.node end.inc) ∷ []) (AtOffice end.before end.entry ∷ []))));
    }

    abbrev fenced_at : Bool → List Turn → Type 0
    fenced_at so rest = IsTrue (fence_course who so rest)

    first_fine : (turn : Turn) → In turn first.made → Fine by turn
    first_fine turn among = page_fine copy_limit records_prefix refl turn (in_first turn among) (first.each turn among)

    second_fine : (turn : Turn) → In turn second.made → Fine by turn
    second_fine turn among = page_fine names_limit markers_prefix refl turn (in_second turn among) (second.each turn among)

    rest_fine : (line : List Turn) → Fenced who line → (turn : Turn) → In turn line → Fine by turn
    rest_fine line end turn among = end_fine turn end.place end.node end.inc end.before end.entry (subst (In turn) end.is among)

    abbrev pub versions : List VersionAt
    versions = names_to_copy (taken_commits ends copying behind)

    gets_fine : IsTrue marks.is_whole → OfficeEnd its_turns → (turn : Turn) → In turn marks.behind → GetsOne who versions turn → Fine by turn
    gets_fine whole last turn among gets =
        let of = of_taken (taken_commits ends copying behind) gets.one gets.among in
        let its_get : turn ≡ AtDoor gets.place (Call gets.node gets.inc (Get (version_name of.key of.commit.id)) gets.answer) =
        gets.is ∙ ap (λ (o : VersionAt). AtDoor gets.place (Call gets.node gets.inc (Get (version_name o.key o.id)) gets.answer)) of.is in
        subst (Fine by) (sym its_get) (get_fine whole of.commit of.taken last of.key of.among gets.place gets.node gets.inc gets.answer (subst (λ (t : Turn). In t marks.behind) its_get among) gets.by)

    by_scans : (r : Bool) → recs.is_whole ≡ r → (m : Bool) → marks.is_whole ≡ m → IsTrue (fence_course who (if not r then stopped_copy recs.behind else if not m then stopped_copy marks.behind else behind_markers ends copying behind).is_whole (if not r then stopped_copy recs.behind else if not m then stopped_copy marks.behind else behind_markers ends copying behind).behind)
        → (turn : Turn) → In turn behind → Fine by turn
    by_scans false e m f fences turn among = elim (in_append turn first.made recs.behind (subst (In turn) first.splits among)) [
      | inl page ↦ first_fine turn page
      | inr rest ↦ rest_fine recs.behind (fenced_end who false recs.behind fences) turn rest
    ]
    by_scans true e false f fences turn among = elim (in_append turn first.made (second.made ++ marks.behind) (subst (In turn) parts among)) [
      | inl page ↦ first_fine turn page
      | inr later ↦ elim (in_append turn second.made marks.behind later) [
        | inl page ↦ second_fine turn page
        | inr rest ↦ rest_fine marks.behind (fenced_end who false marks.behind fences) turn rest
      ]
    ]
    by_scans true e true f fences turn among =
        let got = copies who versions marks.behind in
        let third : Gets who versions marks.behind got = gets_of who versions marks.behind in
        let end : Fenced who got.behind = fenced_end who got.is_whole got.behind fences in
        let last : OfficeEnd its_turns = ended ((first.made ++ second.made) ++ third.made) got.behind (scanned ∙ (ap (λ (l : List Turn). (first.made ++ second.made) ++ l) third.splits ∙ sym (append_assoc (first.made ++ second.made) third.made got.behind))) end in
        elim (in_append turn first.made (second.made ++ marks.behind) (subst (In turn) parts among)) [
          | inl page ↦ first_fine turn page
          | inr later ↦ elim (in_append turn second.made marks.behind later) [
            | inl page ↦ second_fine turn page
            | inr more ↦ elim (in_append turn third.made got.behind (subst (In turn) third.splits more)) [
              | inl get ↦ gets_fine f last turn more (third.each turn get)
              | inr rest ↦ rest_fine got.behind end turn rest
            ]
          ]
        ]

    all_fine : (turn : Turn) → In turn behind → Fine by turn
    all_fine = by_scans recs.is_whole refl marks.is_whole refl ends_so

  -- ---- the line

  each_fine : (line' : List Turn) → its_turns ≡ line' → IsTrue (backup_course ends line') → (turn : Turn) → In turn line' → Fine by turn
  each_fine (AtDoor x (Up node inc) ∷ behind) is course turn (inl first) = subst (Fine by) (sym first) (λ name none. none)
  each_fine (AtDoor x (Up node inc) ∷ behind) is course turn (inr later) =
      let parts = and_parts (is_next_copier ends x (incarnation node inc)) _ course in
      all_fine x node inc behind is (eqb-true node copier (and_parts (eqb node copier) _ parts.0).0) parts.1 turn later
  each_fine (AtOffice before entry ∷ []) is course turn (inl office) = subst (Fine by) (sym office) refl
  each_fine (AtOffice before entry ∷ []) is course turn (inr none) = absurd none
  each_fine line' is course turn among = absurd (false≢true course)

  pub undamaged : damaged_names view ≡ []
  undamaged = empty_if (damaged_names view) (λ name damage.
      let entry = in_flat_map (λ (e : DoorEntry). damage_in None e ++ unfound_in e.act) name (flat_map (door_entry_in by) its_turns)
      (subst (λ c. In name (flat_map (damage_for c (fixed_for c view)) (door_entries view))) order damage) in
      let turn = in_flat_map (door_entry_in by) entry.0 its_turns entry.1 in
      at_turn turn.0 entry.0 name (each_fine its_turns refl follows turn.0 turn.1) turn.2 entry.2)
    where
      at_turn : (turn : Turn) (e : DoorEntry) (name : List ℕ) → Fine by turn → In e (door_entry_in by turn) → In name (damage_in None e ++ unfound_in e.act) → ⊥
      at_turn (AtDoor place act) e name fine (inl is) damage = fine name (subst (λ (d : DoorEntry). In name (damage_in None d ++ unfound_in d.act)) is damage)
      at_turn (AtDoor place act) e name fine (inr none) damage = none
      at_turn (AtNode node before entry) e name fine none damage = none
      at_turn (AtOffice before entry) e name fine none damage = none

  pub tells_none : (name : List ℕ) → In (replies.Damaged name) (answers_of by ran) → ⊥
  tells_none name among = tells_none_of asked ran legal honest line listed undamaged name among
