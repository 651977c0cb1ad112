-- Where crashes spare copiers, as those of a legal trace do, the copier of each copy is up; and in the end of a legal trace none is.
use Rattle.std.proofs.Common.{◌≡◌, ℕ, ◌&&◌, ◌||◌, not, List, [], ◌∷◌, refl, sym, ap, subst, ◌∙◌, inl, inr, eqb, append-nil}
use Rattle.std.specs.Prelude.{IsTrue, IsFalse, None, Option, Some}
use Rattle.std.specs.List.{list_all}
use Rattle.std.proofs.lemmas.Bool.{and_from, and_parts, cases_Bool, eqb-true, false≢true, or_left, or_right}
use Rattle.aft_model.specs.declared.caller.By.{By}
use Rattle.aft_model.specs.declared.door.DoorAct.TheVariants as doors
use Rattle.aft_model.specs.declared.door.DoorEntry.{DoorEntry}
use Rattle.aft_model.specs.declared.node.NodeEntry.{NodeEntry}
use Rattle.aft_model.specs.declared.script.Command.{Command}
use Rattle.aft_model.specs.declared.script.Command.TheVariants as commands
use Rattle.aft_model.specs.declared.script.Line.{Line}
use Rattle.aft_model.specs.Membership.{Incarnation, is_up}
use Rattle.aft_model.specs.NodeState.{node_state}
use Rattle.aft_model.specs.ScanRun.{same_line}
use Rattle.aft_model.proofs.Histories.{In, all_at}
use Rattle.aft_model.proofs.Lists.{all_from}
use Rattle.aft_lines.specs.Advance.{is_led_to_end}
use Rattle.aft_lines.specs.Asked.{Asked, Ran}
use Rattle.aft_lines.specs.BackupCourse.{copier}
use Rattle.aft_lines.specs.CourseWords.{Ends, ends_at_node}
use Rattle.aft_lines.specs.FinishedText.{line_of}
use Rattle.aft_lines.specs.LegalTrace.{LegalTrace}
use Rattle.aft_lines.specs.LineCourse.{answers_last, crash_course, ends_down, follows_course, goes_down, tells_not_up}
use Rattle.aft_lines.specs.LineView.{ends_of}
use Rattle.aft_lines.specs.Lines.{lines, node_numbers}
use Rattle.aft_lines.specs.Progress.{IsOver, Progress, Stopped}
use Rattle.aft_lines.specs.RunsSoFar.{position_of}
use Rattle.aft_lines.specs.Steps.{own_steps}
use Rattle.aft_lines.specs.Turns.{AtDoor, AtNode, Turn, turns}
use Rattle.aft_lines.specs.Views.{view_of}
use Rattle.law_claims.specs.Copying.{copier_at}
use Rattle.law_claims.specs.Moments.{or_not_begun}
use Rattle.law_claims.proofs.Scenes.{same_by}
use Rattle.law_runs.specs.Runs.{Goes, asking_of, command_in, ends_in, line_among, run_steps, without_office}
use Rattle.law_runs.proofs.Come.{Named, named_line}
use Rattle.law_runs.proofs.LegalRuns.{course_led, legal_goes}
use Rattle.law_runs.proofs.Own.{has_come}
use Rattle.law_steps.proofs.Histories.{door_is}
use Rattle.law_held.specs.Copies.{CopiersLie, CopiesStand, CrashesSpare, NoneUp, OneUp, copier_in, copier_of, copier_of_turns, copier_stands, has_copier, is_copy, is_crash, spares_copiers}
use Rattle.law_held.specs.Desk.{LinesDiffer}
use Rattle.law_held.proofs.ComesUp.{node_low}
use Rattle.law_held.proofs.Copiers.{copiers_behind, copy_or_not}
use Rattle.law_held.proofs.CopyLines.{copy_led}
use Rattle.law_held.proofs.DeskHeld.{among_itself}

-- ---- crashes

abbrev Nodes : List Turn → Type 0
Nodes line = (at : ℕ) (history : List NodeEntry) (entry : NodeEntry) → In (AtNode at history entry) line → IsFalse (eqb at copier)

alone_spares : (home : ℕ) (line : List Turn) → IsTrue (ends_at_node home (tells_not_up home) line) → IsTrue (list_all spares_copiers line)
alone_spares home (AtNode at history entry ∷ []) is = refl
alone_spares home line is = absurd (false≢true is)

down_spares : (home inc : ℕ) (line : List Turn) → Nodes line → IsTrue (ends_down home inc line) → IsFalse (eqb home copier) × IsTrue (list_all spares_copiers line)
down_spares home inc (AtNode at history entry ∷ []) low is =
    let same = eqb-true home at (and_parts (eqb home at) (goes_down home inc (node_state history) entry.act entry.answer) is).0 in
    (subst (λ (n : ℕ). IsFalse (eqb n copier)) (sym same) (low at history entry (inl refl)), refl)
down_spares home inc line low is = absurd (false≢true is)

crash_spares : (home : ℕ) (line : List Turn) → Nodes line → IsTrue (crash_course home line) → IsTrue (list_all spares_copiers line)
crash_spares home (AtDoor place (doors.Fence at inc) ∷ line) low is =
    let parts = and_parts (eqb home at) (ends_down home inc line) is in
    let down = down_spares home inc line (λ a h e there. low a h e (inr there)) parts.1 in
    and_from (not (eqb at copier)) (list_all spares_copiers line) (ap not (subst (λ (n : ℕ). IsFalse (eqb n copier)) (eqb-true home at parts.0) down.0)) down.1
crash_spares home line low is = alone_spares home line is

crash_so : (command : Command) (nodes : List ℕ) (ends : Ends) (line : List Turn) → Nodes line → IsTrue (follows_course command nodes ends line) → IsTrue (not (is_crash command) || list_all spares_copiers line)
crash_so (commands.Crash home) nodes ends line low is = crash_spares home line low is
crash_so command nodes ends line low is = refl

pub legal_spares : (asked : Asked) (ran : Ran) → LegalTrace asked ran → CrashesSpare asked ran
legal_spares asked ran legal = all_from (λ (l : Line). not (is_crash l.order) || list_all spares_copiers (turns (line_of l) ran.trace)) (lines asked) (λ l listed.
    let keeps = all_at (λ (k : Line). answers_last (turns (line_of k) ran.trace) && follows_course k.order (node_numbers asked.settings) (ends_of (view_of asked ran k)) (turns (line_of k) ran.trace)) l (lines asked) listed legal.courses in
    crash_so l.order (node_numbers asked.settings) (ends_of (view_of asked ran l)) (turns (line_of l) ran.trace) (λ at h e there. node_low asked ran (legal_goes asked ran legal) (line_of l) at h e there)
    (and_parts (answers_last (turns (line_of l) ran.trace)) (follows_course l.order (node_numbers asked.settings) (ends_of (view_of asked ran l)) (turns (line_of l) ran.trace)) keeps).1)

-- ---- in the end

module _ (asked : Asked) (ran : Ran) (so : Goes asked ran) (spare : CrashesSpare asked ran) where
  abbrev nodes : List ℕ
  nodes = node_numbers asked.settings

  abbrev copies : By → Option Incarnation
  copies by = copier_of (asking_of asked ran) (run_steps ran) by

  lie : CopiersLie ran.trace.door copies
  lie = subst (λ (d : List DoorEntry). CopiersLie d copies) (door_is (without_office ran.trace)) (copiers_behind asked ran so spare (run_steps ran) [] (sym (append-nil (run_steps ran))))

  -- a copy has up what its turns lead to
  copy_has : (line : Line) (listed : In line (lines asked)) → line_among (line_of line) (lines asked) ≡ Some line → line.order ≡ commands.Backup → copies (line_of line) ≡ copier_at (has_come asked ran so line listed).0
  copy_has line listed found copy =
      let led = copy_led asked ran so line listed copy in
      ap (λ (o : Option Line). copier_of_turns nodes (ends_in asked ran o) (own_steps (line_of line) (run_steps ran)) (command_in o)) found
      ∙ (ap (λ (c : Command). copier_of_turns nodes (ends_of (view_of asked ran line)) (own_steps (line_of line) (run_steps ran)) (Some c)) copy
      ∙ (ap (λ (o : Option Progress). copier_at (or_not_begun o)) led.1 ∙ led.2))

  up_so : (by : By) (who : Incarnation) → copies by ≡ Some who → CopiersLie ran.trace.door copies → IsTrue (is_up who ran.trace.door)
  up_so by who is (NoneUp none free) = absurd (let e : None ≡ Some who = sym (none by) ∙ is in cc)
  up_so by who is (OneUp one it at of up only alone) = elim (cases_Bool (same_line one by)) [
    | inl same ↦ subst (λ (w : Incarnation). IsTrue (is_up w ran.trace.door)) (inside it who (sym at ∙ (ap copies (same_by one by same) ∙ is))) up
    | inr differs ↦ absurd (let e : None ≡ Some who = sym (alone by differs) ∙ is in cc)
  ]
    where
      inside : (x y : Incarnation) → Some x ≡ Some y → x ≡ y
      inside x y e = cc

  module _ (differ : LinesDiffer asked) where
    stands_in : (line : Line) (listed : In line (lines asked)) → line.order ≡ commands.Backup → (o : Option Incarnation) → copier_at (has_come asked ran so line listed).0 ≡ o → IsTrue (copier_stands ran.trace.door o)
    stands_in line listed copy None is = refl
    stands_in line listed copy (Some who) is = up_so (line_of line) who (copy_has line listed (among_itself [] (lines asked) differ line listed) copy ∙ is) lie

    copy_so : (command : Command) → IsTrue (is_copy command) → command ≡ commands.Backup
    copy_so commands.Backup is = refl
    copy_so command is = absurd (false≢true is)

    copy_stands : (line : Line) (listed : In line (lines asked)) → IsTrue (not (is_copy line.order) || copier_stands ran.trace.door (copier_in (position_of (view_of asked ran line))))
    copy_stands line listed = elim (cases_Bool (is_copy line.order)) [
      | inl copy ↦
          or_right (not (is_copy line.order)) (copier_stands ran.trace.door (copier_in (position_of (view_of asked ran line))))
          (subst (λ (o : Option Progress). IsTrue (copier_stands ran.trace.door (copier_in o))) (sym (has_come asked ran so line listed).1) (stands_in line listed (copy_so line.order copy) (copier_at (has_come asked ran so line listed).0) refl))
      | inr other ↦ or_left (not (is_copy line.order)) (copier_stands ran.trace.door (copier_in (position_of (view_of asked ran line)))) (ap not other)
    ]

    pub copies_stand : CopiesStand asked ran
    copies_stand = all_from (λ (l : Line). not (is_copy l.order) || copier_stands ran.trace.door (copier_in (position_of (view_of asked ran l)))) (lines asked) copy_stands

  -- where each line is over, no copier is up
  module _ (over : (line : Line) (listed : In line (lines asked)) → copier_at (has_come asked ran so line listed).0 ≡ None) where
    none_has : (by : By) (who : Incarnation) → copies by ≡ Some who → ⊥
    none_has by who is = cases (named_line by (lines asked))
      where
        cases : Named by (lines asked) → ⊥
        cases (inr n) = (let e : None ≡ Some who = sym (ap (λ (o : Option Line). copier_of_turns nodes (ends_in asked ran o) (own_steps by (run_steps ran)) (command_in o)) n.0) ∙ is in cc)
        cases (inl n) = elim (copy_or_not n.0.order) [
          | inl copy ↦ (let e : None ≡ Some who = sym (copy_has n.0 n.1 (ap (λ (b : By). line_among b (lines asked)) n.2 ∙ n.3) copy ∙ over n.0 n.1) ∙ (ap copies n.2 ∙ is) in cc)
          | inr other ↦ (let e : None ≡ Some who = sym (ap (λ (o : Option Line). copier_of_turns nodes (ends_in asked ran o) (own_steps by (run_steps ran)) (command_in o)) n.3 ∙ other.0 nodes (ends_of (view_of asked ran n.0)) (own_steps by (run_steps ran))) ∙ is in cc)
        ]

    none_left : CopiersLie ran.trace.door copies → IsFalse (has_copier ran.trace.door)
    none_left (NoneUp none free) = free
    none_left (OneUp by who is of up only alone) = absurd (none_has by who is)

    pub no_copier_left : IsFalse (has_copier ran.trace.door)
    no_copier_left = none_left lie

-- ---- a legal trace

ended_none : (p : Progress) → IsTrue (is_led_to_end (Some p)) → copier_at p ≡ None
ended_none IsOver is = refl
ended_none (Stopped a) is = refl
ended_none p is = absurd (false≢true is)

pub legal_none : (asked : Asked) (ran : Ran) → LegalTrace asked ran → IsFalse (has_copier ran.trace.door)
legal_none asked ran legal = no_copier_left asked ran (legal_goes asked ran legal) (legal_spares asked ran legal) over
  where
    over : (line : Line) (listed : In line (lines asked)) → copier_at (has_come asked ran (legal_goes asked ran legal) line listed).0 ≡ None
    over line listed =
        let come = has_come asked ran (legal_goes asked ran legal) line listed in
        let keeps = all_at (λ (k : Line). answers_last (turns (line_of k) ran.trace) && follows_course k.order (node_numbers asked.settings) (ends_of (view_of asked ran k)) (turns (line_of k) ran.trace)) line (lines asked) listed legal.courses in
        let parts = and_parts (answers_last (turns (line_of line) ran.trace)) (follows_course line.order (node_numbers asked.settings) (ends_of (view_of asked ran line)) (turns (line_of line) ran.trace)) keeps in
        ended_none come.0 (subst (λ (o : Option Progress). IsTrue (is_led_to_end o)) come.1 (course_led line.order (node_numbers asked.settings) (ends_of (view_of asked ran line)) (turns (line_of line) ran.trace) refl parts.0 parts.1))
