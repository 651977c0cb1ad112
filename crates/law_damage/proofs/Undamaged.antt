-- Lines that are shown pages of the records and the markers alone are shown no damage.
use Rattle.std.proofs.Common.{◌≡◌, ℕ, Bool, true, false, ◌&&◌, not, List, [], ◌∷◌, ◌++◌, refl, sym, subst, ◌∙◌, inl, inr, append_assoc, length}
use Rattle.std.specs.Prelude.{IsTrue, None, filter, if◌then◌else◌, nat_eq, nat_le}
use Rattle.std.specs.List.{flat_map, list_all, starts_with}
use Rattle.std.specs.Str.{bytes_eq}
use Rattle.std.proofs.lemmas.Bool.{and_parts, false≢true, not-true, or_cases, or_left, or_right, true≢false}
use Rattle.aft_keeper.specs.declared.keeper.KeeperAnswer.TheVariants.{Page}
use Rattle.aft_keeper.specs.declared.keeper.KeeperCall.TheVariants.{Scan}
use Rattle.aft_keeper.specs.declared.keeper.Pair.{Pair}
use Rattle.aft_keeper.specs.Contents.{is_scanned, name_lt}
use Rattle.aft_model.specs.declared.caller.By.{By}
use Rattle.aft_model.specs.declared.door.DoorAct.{DoorAct}
use Rattle.aft_model.specs.declared.door.DoorAct.TheVariants.{Call}
use Rattle.aft_model.specs.declared.door.DoorEntry.{DoorEntry}
use Rattle.aft_model.specs.declared.script.Command.{Command}
use Rattle.aft_model.specs.declared.script.Command.TheVariants as commands
use Rattle.aft_model.specs.declared.script.Line.{Line}
use Rattle.aft_model.specs.declared.reply.Reply.TheVariants as replies
use Rattle.aft_model.specs.DoorKnowledge.{is_open}
use Rattle.aft_model.specs.Evidence.{pairs_in}
use Rattle.aft_model.specs.History.{first_of}
use Rattle.aft_model.specs.Honest.{Honest}
use Rattle.aft_model.specs.LegalDoor.{ascends, is_answered, may_come, may_follow}
use Rattle.aft_model.specs.Opening.{may_open, may_read, opening}
use Rattle.aft_model.specs.Readings.{has_reading}
use Rattle.aft_model.specs.ScanRun.{same_line}
use Rattle.aft_model.specs.Sound.{markers_prefix, records_prefix}
use Rattle.aft_model.proofs.Histories.{In, all_at, each_after_snoc}
use Rattle.aft_model.proofs.Lists.{in_filter, in_map}
use Rattle.aft_model.proofs.Sights.{same_bytes}
use Rattle.aft_lines.specs.Asked.{Asked, Ran}
use Rattle.aft_lines.specs.Causes.{cause}
use Rattle.aft_lines.specs.CausesScans.{damage_for, damaged_names, is_damage, is_of_another, is_too_many_records_caused, is_written_name}
use Rattle.aft_lines.specs.CourseWords.{Ends}
use Rattle.aft_lines.specs.FinishedText.{answers_of, line_of}
use Rattle.aft_lines.specs.LegalTrace.{LegalTrace, begin_behind_opening, is_of_lines, makers, opens_first}
use Rattle.aft_lines.specs.LineCourse.{answers_last, follows_course}
use Rattle.aft_lines.specs.LineView.{LineView, door_entries, ends_of, fixed_for}
use Rattle.aft_lines.specs.Lines.{lines, node_numbers}
use Rattle.aft_lines.specs.Makes.{makes}
use Rattle.aft_lines.specs.OpeningCourse.{opening_course}
use Rattle.aft_lines.specs.Turns.{AtDoor, Turn, turns}
use Rattle.aft_lines.specs.Views.{view_of}
use Rattle.law_kept.specs.Kept.{Lawful}
use Rattle.law_kept.proofs.Always.{lawful_begins}
use Rattle.law_kept.proofs.Written.{empty_if}
use Rattle.law_claims.proofs.Scenes.{same_by}
use Rattle.law_runs.specs.Runs.{Goes}
use Rattle.law_runs.proofs.LegalRuns.{legal_goes}
use Rattle.law_whole.specs.Readable.{is_of_ids}
use Rattle.law_whole.proofs.Readable.{shown_reads}
use Rattle.law_answers.proofs.Scans.{damaged}
use Rattle.law_promise.proofs.Doors.{lawful_door}
use Rattle.law_damage.specs.Paging.{looks_at_pages}
use Rattle.law_damage.proofs.AtDoor.{entered, never_opens}
use Rattle.law_damage.proofs.Pages.{AllOnPages, OnPage, collect_pages, is_ids_page, manager_pages, start_pages}

-- what an answered page of the records or of the markers lists is named as one of them
page_named : (act : DoorAct) → IsTrue (is_ids_page act) → IsTrue (is_answered act) → (pair : Pair) → In pair (pairs_in act) → IsTrue (is_of_ids pair.name)
page_named (Call node inc (Scan prefix after limit) (Page pairs)) its answered pair among =
    let fits = and_parts (list_all (λ p. is_scanned prefix after p.name) pairs && ascends pairs) (nat_le (length pairs) limit) answered in
    let all = (and_parts (list_all (λ p. is_scanned prefix after p.name) pairs) (ascends pairs) fits.0).0 in
    let begins = (and_parts (starts_with nat_eq pair.name prefix) (name_lt after pair.name) (all_at (λ (p : Pair). is_scanned prefix after p.name) pair pairs among all)).0 in
    elim (or_cases (bytes_eq records_prefix prefix) (bytes_eq markers_prefix prefix) its) [
      | inl records ↦ or_left _ _ (subst (λ (p : List ℕ). IsTrue (starts_with nat_eq pair.name p)) (sym (same_bytes records_prefix prefix records)) begins)
      | inr markers ↦ or_right _ _ (subst (λ (p : List ℕ). IsTrue (starts_with nat_eq pair.name p)) (sym (same_bytes markers_prefix prefix markers)) begins)
    ]
page_named act its answered pair among = absurd (false≢true its)

-- by its course such a line is shown damage on such pages alone
all_on_pages : (command : Command) (by : By) (nodes : List ℕ) (ends : Ends) (line : List Turn) → IsTrue (looks_at_pages command) → IsTrue (follows_course command nodes ends line) → AllOnPages by line
all_on_pages (commands.Start node) by nodes ends line looks follows = start_pages by ends line follows
all_on_pages commands.Manager by nodes ends line looks follows = manager_pages by line follows
all_on_pages commands.Collect by nodes ends line looks follows = collect_pages by nodes ends line follows
all_on_pages command by nodes ends line looks follows = absurd (false≢true looks)

-- it settles no commit, and judges whatever it is shown
judges_all : (command : Command) (view : LineView) (name : List ℕ) → IsTrue (looks_at_pages command) → In name (flat_map (damage_for command (fixed_for command view)) (door_entries view)) → In name (damaged view.by view.turns)
judges_all (commands.Start node) view name looks among = among
judges_all commands.Manager view name looks among = among
judges_all commands.Collect view name looks among = among
judges_all command view name looks among = absurd (false≢true looks)

fifth : (a b c d e : Bool) → IsTrue (a && b && c && d && e) → IsTrue b
fifth true true c d e is = refl
fifth true false c d e is = absurd (false≢true is)
fifth false b c d e is = absurd (false≢true is)

module _ (asked : Asked) (ran : Ran) (legal : LegalTrace asked ran) (honest : Honest ran.trace.door) (line : Line) (listed : In line (lines asked)) where
  abbrev view : LineView
  view = view_of asked ran line

  abbrev door : List DoorEntry
  door = ran.trace.door

  abbrev goes : Goes asked ran
  goes = legal_goes asked ran legal

  -- no line is the opening
  not_the_opening : line_of line ≡ opening → ⊥
  not_the_opening is =
      let course = fifth (list_all (list_all (is_of_lines (lines asked))) (makers ran)) (opening_course (node_numbers asked.settings) (turns opening ran.trace)) (list_all opens_first (makers ran)) (begin_behind_opening ran.trace) (list_all (list_all (λ entry. not (same_line opening entry.by))) ran.mail) legal.opening in
      let made = all_at (λ (l : Line). list_all (makes (view_of asked ran l).command) (view_of asked ran l).turns) line (lines asked) listed goes.makes in
      never_opens (node_numbers asked.settings) line.order (turns opening ran.trace) course (subst (λ by. IsTrue (list_all (makes line.order) (turns by ran.trace))) is made)

  -- so its calls come at the open door
  pub comes_at_open : (before : List DoorEntry) (entry : DoorEntry) → IsTrue (may_follow before entry) → IsTrue (same_line (line_of line) entry.by) → IsTrue (is_open before)
  comes_at_open before entry follows own = by_test (is_open before) refl (and_parts (is_answered entry.act) (if is_open before then may_come before entry.act else may_open before entry) follows).1
    where
      by_test : (t : Bool) → is_open before ≡ t → IsTrue (if t then may_come before entry.act else may_open before entry) → IsTrue (is_open before)
      by_test true opened rule = opened
      by_test false shut rule = absurd (not_the_opening (same_by (line_of line) entry.by own ∙ sym (same_by opening entry.by (and_parts (same_line opening entry.by) (may_read before entry.act) rule).0)))

  -- what it is shown of the records and the markers has a reading
  pub reads_there : (place : ℕ) (act : DoorAct) → In (AtDoor place act) (turns (line_of line) ran.trace) → (pair : Pair) → In pair (pairs_in act) → (IsTrue (is_answered act) → IsTrue (is_of_ids pair.name)) → IsTrue (has_reading pair)
  reads_there place act among pair shown named =
      let e = entered (line_of line) ran.trace (AtDoor place act) among in
      let now : Lawful (e.before ++ e.entry ∷ []) = lawful_begins (e.before ++ e.entry ∷ []) e.after (subst Lawful (e.parts ∙ sym (append_assoc e.before (e.entry ∷ []) e.after)) (lawful_door asked ran goes honest)) in
      let follows = (each_after_snoc may_follow [] e.before e.entry now.legal).1 in
      let answered : IsTrue (is_answered e.entry.act) = (and_parts (is_answered e.entry.act) _ follows).0 in
      shown_reads e.before e.entry now (comes_at_open e.before e.entry follows e.its) pair (subst (λ act. In pair (pairs_in act)) e.does shown) (named (subst (λ act. IsTrue (is_answered act)) (sym e.does) answered))

  -- a page of the records or of the markers shows no damage
  pub page_reads : (name : List ℕ) → OnPage (line_of line) (turns (line_of line) ran.trace) name → ⊥
  page_reads name on =
      let pair = in_map (λ (p : Pair). p.name) name (filter (is_damage None) (pairs_in on.act)) on.damage in
      let shown = in_filter (is_damage None) pair.0 (pairs_in on.act) pair.1 in
      let reads = reads_there on.place on.act on.among pair.0 shown.0 (λ answered. page_named on.act on.its answered pair.0 shown.0) in
      elim (or_cases (not (has_reading pair.0)) (is_of_another None pair.0) shown.1) [
        | inl unread ↦ true≢false (sym reads ∙ not-true (has_reading pair.0) unread)
        | inr other ↦ false≢true other
      ]

  module _ (looks : IsTrue (looks_at_pages line.order)) where
    pub undamaged : damaged_names view ≡ []
    undamaged = empty_if (damaged_names view) (λ name among.
        let keeps = all_at (λ (k : Line). answers_last (turns (line_of k) ran.trace) && follows_course k.order (node_numbers asked.settings) (ends_of (view_of asked ran k)) (turns (line_of k) ran.trace)) line (lines asked) listed legal.courses in
        let follows = (and_parts (answers_last (turns (line_of line) ran.trace)) (follows_course line.order (node_numbers asked.settings) (ends_of view) (turns (line_of line) ran.trace)) keeps).1 in
        page_reads name (all_on_pages line.order (line_of line) (node_numbers asked.settings) (ends_of view) (turns (line_of line) ran.trace) looks follows name (judges_all line.order view name looks among)))

  -- a line that is shown no damage doesn't answer that something is damaged
  pub tells_none_of : damaged_names view ≡ [] → (name : List ℕ) → In (replies.Damaged name) (answers_of (line_of line) ran) → ⊥
  tells_none_of none name among =
      let caused = all_at (cause view) (replies.Damaged name) (answers_of (line_of line) ran) among
      (all_at (λ (l : Line). list_all (cause (view_of asked ran l)) (answers_of (line_of l) ran)) line (lines asked) listed legal.causes) in
      let first = (and_parts (is_written_name name (first_of (damaged_names view))) (not (is_too_many_records_caused view)) caused).0 in
      false≢true (subst (λ names. IsTrue (is_written_name name (first_of names))) none first)

  pub tells_none : IsTrue (looks_at_pages line.order) → (name : List ℕ) → In (replies.Damaged name) (answers_of (line_of line) ran) → ⊥
  tells_none looks name among = tells_none_of (undamaged looks) name among
