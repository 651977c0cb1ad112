-- What a collection is answered: that another runs; its verdicts, which are the same but for who holds; or why its scan runs weren't whole.
use Rattle.std.proofs.Common.{◌≡◌, ◌≤◌, ◌++◌, ℕ, Bool, true, false, ◌&&◌, ◌||◌, not, List, [], ◌∷◌, length, refl, sym, ap, subst, ◌∙◌, inl, inr, ◌⊎◌, arith, append_assoc, append-nil}
use Rattle.std.specs.Prelude.{IsTrue, Option, Some, None, if◌then◌else◌, is_none, is_some}
use Rattle.std.specs.Cmp.Lexicographic.{pointwise}
use Rattle.std.specs.List.{flat_map}
use Rattle.std.proofs.lemmas.List.Concat.{flat_map-append}
use Rattle.std.proofs.lemmas.Bool.{and_from, and_parts, false≢true, le-ltb, or_from, or_left, or_right}
use Rattle.aft_id.specs.TxnId.{same_id}
use Rattle.aft_keeper.specs.declared.keeper.Pair.{Pair}
use Rattle.aft_records.specs.declared.stored.Commit.{Commit}
use Rattle.aft_model.specs.declared.caller.By.{By}
use Rattle.aft_model.specs.declared.door.DoorEntry.{DoorEntry}
use Rattle.aft_model.specs.declared.office.OfficeAct.{OfficeAct}
use Rattle.aft_model.specs.declared.office.OfficeAct.TheVariants as office_acts
use Rattle.aft_model.specs.declared.office.OfficeEntry.{OfficeEntry}
use Rattle.aft_model.specs.declared.reply.Judged.{Judged}
use Rattle.aft_model.specs.declared.reply.Reply.{Reply}
use Rattle.aft_model.specs.declared.reply.Reply.TheVariants as replies
use Rattle.aft_model.specs.declared.reply.Verdict.{Verdict}
use Rattle.aft_model.specs.declared.reply.Verdict.TheVariants.{Fault, Held, Retired}
use Rattle.aft_model.specs.declared.script.Command.TheVariants.{Collect}
use Rattle.aft_model.specs.History.{first_of}
use Rattle.aft_model.specs.Membership.{the_office}
use Rattle.aft_model.specs.Office.{may_act, may_be_next, runs}
use Rattle.aft_model.specs.Replies.{is_silent}
use Rattle.aft_model.specs.Sound.{markers_prefix, records_prefix}
use Rattle.aft_model.proofs.Ids.{same_id-refl, same_ids}
use Rattle.aft_lines.specs.Causes.{ExactlyCaused, cause, comes_exactly, same_but_holder, same_but_holders, yields_to}
use Rattle.aft_lines.specs.CausesScans.{damage_in, is_written_name, listed_in}
use Rattle.aft_lines.specs.CausesVerdicts.{begins_collection, is_judged, is_verdict_of, is_worked_through}
use Rattle.aft_lines.specs.CollectCourse.{Collecting, Collection, Ended, IsFaulted, IsHeld, IsRetired, Work, WorkEnd, collect_after, collect_course, collection, is_collected, is_scanned_whole, markers_scan, records_scan, was_cut, work_list, works_through}
use Rattle.aft_lines.specs.CourseWords.{Ends, ends_at_office}
use Rattle.aft_lines.specs.LineView.{LineView, ends_of, found_service}
use Rattle.aft_lines.specs.Lines.{node_numbers}
use Rattle.aft_lines.specs.ScanCourse.{Scanned, names_limit}
use Rattle.aft_lines.specs.Turns.{AtDoor, AtNode, AtOffice, Turn, end_front}
use Rattle.law_answers.specs.Courses.{keeps_its_course, keeps_rules}
use Rattle.law_answers.proofs.Backups.{Clean, before_whole, behind_whole, entries_of, loosened, markers_clean, no_parts, records_clean, shown_of, spoiled}
use Rattle.law_answers.proofs.Faults.{damage_told, failed_so, many_told, told_faults}
use Rattle.law_answers.proofs.Scans.{Fair, Run, damaged, entries, entries_same, fails, many, run_of}
use Rattle.law_answers.proofs.Served.{never_served}
use Rattle.law_answers.proofs.Settled.{Settles, by_turns_so, exact_yields_not, settled_exactly, with_turns}
use Rattle.law_answers.proofs.Works.{Does, works_go}

-- ---- verdicts

-- two verdicts of one end are the same but for who holds
verdicts_same : (end : WorkEnd) (a b : Verdict) (c : Commit) (view : LineView) → IsTrue (is_verdict_of end a c view) → IsTrue (is_verdict_of end b c view) → IsTrue (same_but_holder a b)
verdicts_same IsRetired Retired Retired c view x y = refl
verdicts_same IsFaulted Fault Fault c view x y = refl
verdicts_same IsHeld (Held node inc) (Held node' inc') c view x y = refl
verdicts_same IsRetired Retired (Held node inc) c view x y = absurd (false≢true y)
verdicts_same IsRetired Retired Fault c view x y = absurd (false≢true y)
verdicts_same IsFaulted Fault Retired c view x y = absurd (false≢true y)
verdicts_same IsFaulted Fault (Held node inc) c view x y = absurd (false≢true y)
verdicts_same IsHeld (Held node inc) Retired c view x y = absurd (false≢true y)
verdicts_same IsHeld (Held node inc) Fault c view x y = absurd (false≢true y)
verdicts_same end a b c view x y = absurd (false≢true x)

one_same : (view : LineView) (a b : Judged) (one : Ended) → IsTrue (is_judged view a one) → IsTrue (is_judged view b one) → IsTrue (same_id a.id b.id && same_but_holder a.verdict b.verdict)
one_same view a b one x y =
    let p = and_parts (same_id a.id one.commit.id) (is_verdict_of one.end a.verdict one.commit view) x in
    let q = and_parts (same_id b.id one.commit.id) (is_verdict_of one.end b.verdict one.commit view) y in
    and_from _ _ (subst (λ i. IsTrue (same_id a.id i)) (same_ids a.id one.commit.id p.0 ∙ sym (same_ids b.id one.commit.id q.0)) (same_id-refl a.id)) (verdicts_same one.end a.verdict b.verdict one.commit view p.1 q.1)

all_same : (view : LineView) (ended : List Ended) (some others : List Judged) → IsTrue (pointwise (is_judged view) some ended) → IsTrue (pointwise (is_judged view) others ended) → IsTrue (pointwise (λ a b. same_id a.id b.id && same_but_holder a.verdict b.verdict) some others)
all_same view [] [] [] x y = refl
all_same view [] [] (b ∷ others) x y = absurd (false≢true y)
all_same view [] (a ∷ some) others x y = absurd (false≢true x)
all_same view (one ∷ ended) (a ∷ some) (b ∷ others) x y =
    let p = and_parts (is_judged view a one) (pointwise (is_judged view) some ended) x in
    let q = and_parts (is_judged view b one) (pointwise (is_judged view) others ended) y in
    and_from _ _ (one_same view a b one p.0 q.0) (all_same view ended some others p.1 q.1)
all_same view (one ∷ ended) (a ∷ some) [] x y = absurd (false≢true y)
all_same view (one ∷ ended) [] others x y = absurd (false≢true x)

-- ---- entries

undamaged_so : (done : List DoorEntry) → spoiled done ≡ [] → flat_map (damage_in None) done ≡ []
undamaged_so [] none = refl
undamaged_so (e ∷ done) none =
    let x = no_parts (damage_in None e ++ _) (spoiled done) none in
    ap (λ (ns : List (List ℕ)). ns ++ flat_map (damage_in None) done) (no_parts (damage_in None e) _ x.0).0 ∙ undamaged_so done x.1

-- a line that ends at the office does nothing more at the door
ended : (by : By) (test : OfficeAct → Option Reply → Bool) (line : List Turn) → IsTrue (ends_at_office test line) → entries by line ≡ []
ended by test (AtOffice before entry ∷ []) follows = refl
ended by test (AtOffice before entry ∷ turn ∷ line) follows = absurd (false≢true follows)
ended by test (AtDoor place act ∷ line) follows = absurd (false≢true follows)
ended by test (AtNode node before entry ∷ line) follows = absurd (false≢true follows)
ended by test [] follows = absurd (false≢true follows)

nothing_clean : (done : List DoorEntry) → done ≡ [] → Clean true done 0 0
nothing_clean done none = subst (λ (es : List DoorEntry). Clean true es 0 0) (sym none) (record { unspoiled = λ is. refl; few_records = λ is. omega arith; few_markers = λ is. omega arith; unfailed = λ is. refl })

-- what a line showed whose scan runs weren't whole, and one that came through them
record Stopped (by : By) (line : List Turn) : Type 0 where
  clean : Clean false (entries by line) 20000 20000

record Through (by : By) (line : List Turn) : Type 0 where
  undamaged : flat_map (damage_in None) (entries by line) ≡ []
  few : many by line ≡ false

fair_stopped : (by : By) (line : List Turn) → Stopped by line → Fair (fails by line) false (many by line) (damaged by line)
fair_stopped by line stopped = record {
  unspoiled = λ is. undamaged_so (entries by line) (stopped.clean.unspoiled is);
  few = λ is. or_from _ _ (le-ltb 20000 (length (shown_of records_prefix (entries by line))) (stopped.clean.few_records is)) (le-ltb 20000 (length (shown_of markers_prefix (entries by line))) (stopped.clean.few_markers is));
  unfailed = λ is. absurd (false≢true is);
}

module _ (by : By) (ends : Ends) (nodes : List ℕ) (line : List Turn) where
  abbrev shown : Scanned
  shown = records_scan line

  abbrev marked : Scanned
  marked = markers_scan line

  abbrev way : Collecting
  way = record { ends = ends; front = end_front line }

  abbrev works : List Work
  works = work_list shown.listed marked.listed

  abbrev made_by : Bool → Bool → Collection
  made_by r m = if r then (if m then works_through way nodes works marked.behind else record { ended = []; behind = marked.behind }) else record { ended = []; behind = shown.behind }

  first : Run names_limit by the_office records_prefix [] [] line shown
  first = run_of names_limit by the_office records_prefix [] [] line (omega arith)

  second : Run names_limit by the_office markers_prefix [] [] shown.behind marked
  second = run_of names_limit by the_office markers_prefix [] [] shown.behind (omega arith)

  first_clean : (w : Bool) → shown.is_whole ≡ w → Clean w (entries by first.made) 20000 0
  first_clean w e = subst (λ (b : Bool). Clean b (entries by first.made) 20000 0) e (records_clean by the_office line shown 20000 first)

  second_clean : (w : Bool) → marked.is_whole ≡ w → Clean w (entries by second.made) 0 20000
  second_clean w e = subst (λ (b : Bool). Clean b (entries by second.made) 0 20000) e (markers_clean by the_office shown.behind marked second)

  by_scans : (r : Bool) → shown.is_whole ≡ r → (m : Bool) → marked.is_whole ≡ m → (test : OfficeAct → Option Reply → Bool) → IsTrue (ends_at_office test (made_by r m).behind) → ((r && m) ≡ false × Stopped by line) ⊎ ((r && m) ≡ true × Through by line)
  by_scans false e m f test follows =
      inl (
        refl,
        record {
          clean = subst (λ (es : List DoorEntry). Clean false es 20000 20000) (sym (entries_of by line first.made shown.behind first.splits))
              (loosened false (entries by first.made ++ entries by shown.behind) 20000 0 20000 20000 (omega arith) (omega arith)
              (before_whole (entries by first.made) (entries by shown.behind) 20000 0 0 0 false (first_clean false e) (nothing_clean (entries by shown.behind) (ended by test shown.behind follows))));
        },
      )
  by_scans true e false f test follows =
      inl (
        refl,
        record {
          clean = subst (λ (es : List DoorEntry). Clean false es 20000 20000) (sym (entries_of by line first.made shown.behind first.splits))
              (behind_whole (entries by first.made) (entries by shown.behind) 20000 0 0 20000 false (first_clean true e)
              (subst (λ (es : List DoorEntry). Clean false es 0 20000) (sym (entries_of by shown.behind second.made marked.behind second.splits))
              (before_whole (entries by second.made) (entries by marked.behind) 0 20000 0 0 false (second_clean false f) (nothing_clean (entries by marked.behind) (ended by test marked.behind follows)))));
        },
      )
  by_scans true e true f test follows =
      let work : Does by marked.behind (works_through way nodes works marked.behind).behind = works_go by way nodes works marked.behind in
      let none = ended by test (works_through way nodes works marked.behind).behind follows in
      let all : entries by line ≡ entries by first.made ++ (entries by second.made ++ entries by work.made) =
      entries_of by line first.made shown.behind first.splits ∙ ap (λ (es : List DoorEntry). entries by first.made ++ es) (entries_of by shown.behind second.made marked.behind second.splits
      ∙ ap (λ (es : List DoorEntry). entries by second.made ++ es) (entries_same by marked.behind work.made (works_through way nodes works marked.behind).behind work.splits none)) in
      let scans : Clean true (entries by first.made ++ entries by second.made) 20000 20000 = behind_whole (entries by first.made) (entries by second.made) 20000 0 0 20000 true (first_clean true e) (second_clean true f) in
      let both : entries by line ≡ (entries by first.made ++ entries by second.made) ++ entries by work.made = all ∙ sym (append_assoc (entries by first.made) (entries by second.made) (entries by work.made)) in
      inr (
        refl,
        record {
          undamaged = ap (λ (es : List DoorEntry). flat_map (damage_in None) es) both ∙ flat_map-append (damage_in None) (entries by first.made ++ entries by second.made) (entries by work.made)
              ∙ ap (λ (ns : List (List ℕ)). ns ++ flat_map (damage_in None) (entries by work.made)) (undamaged_so (entries by first.made ++ entries by second.made) (scans.unspoiled refl)) ∙ work.damage;
          few = or_from _ _ (le-ltb 20000 (length (shown_of records_prefix (entries by line))) (shown_few records_prefix (entries by first.made ++ entries by second.made) (entries by work.made) (entries by line) both (work.listed records_prefix) (scans.few_records refl)))
              (le-ltb 20000 (length (shown_of markers_prefix (entries by line))) (shown_few markers_prefix (entries by first.made ++ entries by second.made) (entries by work.made) (entries by line) both (work.listed markers_prefix) (scans.few_markers refl)));
        },
      )
    where
      shown_few : (prefix : List ℕ) (some more all : List DoorEntry) → all ≡ some ++ more → shown_of prefix more ≡ [] → length (shown_of prefix some) ≤ 20000 → length (shown_of prefix all) ≤ 20000
      shown_few prefix some more all e none few =
          let same : shown_of prefix all ≡ shown_of prefix some = ap (λ (es : List DoorEntry). shown_of prefix es) e ∙ flat_map-append (λ (entry : DoorEntry). listed_in prefix entry.act) some more ∙ ap (λ (ps : List Pair). shown_of prefix some ++ ps) none ∙ append-nil (shown_of prefix some) in
          let l : length (shown_of prefix all) ≡ length (shown_of prefix some) = ap length same in
          omega arith

-- ---- any collection

module _ (view : LineView) (before : List OfficeEntry) (entry : OfficeEntry) where
  alone_settles : begins_collection entry.act ≡ false → Settles (with_turns view Collect (AtOffice before entry ∷ [])) (Some replies.Collecting)
  alone_settles none (replies.Collected judged) caused = absurd (false≢true (sym none ∙ (and_parts (begins_collection entry.act) _ (and_parts _ _ caused).0).0))
  alone_settles none replies.Collecting caused = inr refl
  alone_settles none (replies.NodeDown which its) caused = inl refl
  alone_settles none replies.Committing caused = absurd (never_served view.hold.attempt None caused)
  alone_settles none replies.NoMemory caused = inl refl
  alone_settles none reply caused = absurd (false≢true caused)

  module _ (line : List Turn) (free : is_some (runs before) ≡ false) where
    abbrev here : LineView
    here = with_turns view Collect (AtOffice before entry ∷ line)

    stopped_settles : is_scanned_whole line ≡ false → Stopped view.by line → Settles here (told_faults (fails view.by line) (many view.by line) (first_of (damaged view.by line)) None)
    stopped_settles unwhole stopped (replies.Collected judged) caused = absurd (false≢true (sym unwhole ∙ (and_parts (begins_collection entry.act) (is_scanned_whole line) (and_parts (begins_collection entry.act && is_scanned_whole line) _ caused).0).1))
    stopped_settles unwhole stopped replies.Collecting caused = absurd (false≢true (sym free ∙ caused))
    stopped_settles unwhole stopped replies.StoreFault caused = inr (failed_so (fails view.by line) (many view.by line) (first_of (damaged view.by line)) None (and_parts (fails view.by line) _ caused).0)
    stopped_settles unwhole stopped replies.TooManyRecords caused = inr (many_told (fails view.by line) false (many view.by line) (damaged view.by line) (fair_stopped view.by line stopped) None caused)
    stopped_settles unwhole stopped (replies.Damaged name) caused = inr (damage_told (fails view.by line) false (many view.by line) (damaged view.by line) (fair_stopped view.by line stopped) None name caused)
    stopped_settles unwhole stopped (replies.NodeDown which its) caused = inl refl
    stopped_settles unwhole stopped replies.Committing caused = absurd (never_served view.hold.attempt (found_service here) caused)
    stopped_settles unwhole stopped replies.NoMemory caused = inl refl
    stopped_settles unwhole stopped reply caused = absurd (false≢true caused)

    -- one that came through its scan runs has the cause of verdicts alone
    abbrev Judges : Reply → Type 0
    Judges reply = (judged : List Judged) × (reply ≡ replies.Collected judged)

    through_judges : is_scanned_whole line ≡ true → Through view.by line → (reply : Reply) → IsTrue (cause here reply) → IsTrue (yields_to reply) ⊎ Judges reply
    through_judges whole through (replies.Collected judged) caused = inr (judged, refl)
    through_judges whole through replies.Collecting caused = absurd (false≢true (sym free ∙ caused))
    through_judges whole through replies.StoreFault caused = absurd (false≢true (sym (ap not whole) ∙ (and_parts (fails view.by line) (not (is_scanned_whole line)) caused).1))
    through_judges whole through replies.TooManyRecords caused = absurd (false≢true (sym through.few ∙ caused))
    through_judges whole through (replies.Damaged name) caused = absurd (false≢true (subst (λ (ns : List (List ℕ)). IsTrue (is_written_name name (first_of ns))) through.undamaged (and_parts (is_written_name name (first_of (damaged view.by line))) _ caused).0))
    through_judges whole through (replies.NodeDown which its) caused = inl refl
    through_judges whole through replies.Committing caused = absurd (never_served view.hold.attempt (found_service here) caused)
    through_judges whole through replies.NoMemory caused = inl refl
    through_judges whole through reply caused = absurd (false≢true caused)

    judged_same : (some others : List Judged) → IsTrue (cause here (replies.Collected some)) → IsTrue (cause here (replies.Collected others)) → IsTrue (same_but_holders (replies.Collected some) (replies.Collected others))
    judged_same some others x y = all_same here (collection (ends_of here) (node_numbers view.settings) line).ended some others (judges some x) (judges others y)
      where
        judges : (judged : List Judged) → IsTrue (cause here (replies.Collected judged)) → IsTrue (pointwise (is_judged here) judged (collection (ends_of here) (node_numbers view.settings) line).ended)
        judges judged is =
            let a = and_parts (begins_collection entry.act && is_scanned_whole line) (is_worked_through judged here (collection (ends_of here) (node_numbers view.settings) line)) is in
            let b = and_parts (not (was_cut (collection (ends_of here) (node_numbers view.settings) line).ended) && pointwise (is_judged here) judged (collection (ends_of here) (node_numbers view.settings) line).ended) _ a.1 in
            (and_parts (not (was_cut (collection (ends_of here) (node_numbers view.settings) line).ended)) _ b.0).1

    through_exactly : is_scanned_whole line ≡ true → Through view.by line → (reply : Reply) → IsTrue (cause here reply) → ExactlyCaused here reply
    through_exactly whole through reply caused other = elim (through_judges whole through reply caused) [
      | inl yields ↦ or_right _ _ yields
      | inr its ↦ or_left _ _ (leaves (comes_exactly other && cause here other) refl its)
    ]
      where
        both : (judged : List Judged) → reply ≡ replies.Collected judged → IsTrue (comes_exactly other) → IsTrue (cause here other) → IsTrue (same_but_holders reply other)
        both judged e exact is = elim (through_judges whole through other is) [
          | inl yields ↦ absurd (false≢true (sym (exact_yields_not other exact) ∙ yields))
          | inr its ↦ subst (λ (r : Reply). IsTrue (same_but_holders r other)) (sym e) (subst (λ (o : Reply). IsTrue (same_but_holders (replies.Collected judged) o)) (sym its.1)
              (judged_same judged its.0 (subst (λ (r : Reply). IsTrue (cause here r)) e caused) (subst (λ (o : Reply). IsTrue (cause here o)) its.1 is)))
        ]

        leaves : (x : Bool) → (comes_exactly other && cause here other) ≡ x → Judges reply → IsTrue (not x || same_but_holders reply other)
        leaves false e its = refl
        leaves true e its = (let parts = and_parts (comes_exactly other) (cause here other) e in both its.0 its.1 parts.0 parts.1)

  free_so : (running : Option By) → IsTrue (is_none running) → is_some running ≡ false
  free_so None is = refl
  free_so (Some by) is = absurd (false≢true is)

  by_act : (act : OfficeAct) → entry.act ≡ act → (line : List Turn) → IsTrue (collect_after (ends_of (with_turns view Collect (AtOffice before entry ∷ line))) (node_numbers view.settings) act entry.answer line) → IsTrue (may_act before entry.by act entry.answer) → (reply : Reply)
      → IsTrue (cause (with_turns view Collect (AtOffice before entry ∷ line)) reply) → ExactlyCaused (with_turns view Collect (AtOffice before entry ∷ line)) reply
  by_act office_acts.Nothing acts [] follows may reply caused = settled_exactly (with_turns view Collect (AtOffice before entry ∷ [])) (Some replies.Collecting) (alone_settles (ap begins_collection acts)) reply caused
  by_act office_acts.Nothing acts (turn ∷ line) follows may reply caused = absurd (false≢true follows)
  by_act office_acts.Collecting acts line follows may reply caused =
      let ends : Ends = ends_of (with_turns view Collect (AtOffice before entry ∷ line)) in
      let free = free_so (runs before) (and_parts (is_none (runs before)) (is_silent entry.answer) may).0 in
      elim (by_scans view.by ends (node_numbers view.settings) line (records_scan line).is_whole refl (markers_scan line).is_whole refl (is_collected (is_scanned_whole line) (was_cut (collection ends (node_numbers view.settings) line).ended)) follows) [
        | inl stopped ↦ settled_exactly (with_turns view Collect (AtOffice before entry ∷ line)) (told_faults (fails view.by line) (many view.by line) (first_of (damaged view.by line)) None) (stopped_settles line free stopped.0 stopped.1) reply caused
        | inr through ↦ through_exactly line free through.0 through.1 reply caused
      ]
  by_act act acts line follows may reply caused = absurd (false≢true follows)

collects_by : (view : LineView) (turns : List Turn) → IsTrue (collect_course (node_numbers view.settings) (ends_of (with_turns view Collect turns)) turns) → IsTrue (keeps_rules (with_turns view Collect turns)) → (reply : Reply) → IsTrue (cause (with_turns view Collect turns) reply) → ExactlyCaused (with_turns view Collect turns) reply
collects_by view (AtOffice before entry ∷ line) follows rules reply caused =
    by_act view before entry entry.act refl line follows (and_parts _ (may_act before entry.by entry.act entry.answer) (and_parts (may_be_next before entry) _ rules).0).1 reply caused
collects_by view (AtDoor place act ∷ line) follows rules reply caused = absurd (false≢true follows)
collects_by view (AtNode node before entry ∷ line) follows rules reply caused = absurd (false≢true follows)
collects_by view [] follows rules reply caused = absurd (false≢true follows)

pub collects_exact : (view : LineView) (reply : Reply) → view.command ≡ Collect → IsTrue (keeps_its_course view) → IsTrue (keeps_rules view) → IsTrue (cause view reply) → ExactlyCaused view reply
collects_exact view reply e keeps rules caused = by_turns_so keeps_rules view Collect reply e keeps rules caused (λ turns follows so is. collects_by view turns follows so reply is)
