-- At each moment of a run whose crashes spare copiers, copiers lie as the copies have them.
use Rattle.std.proofs.Common.{◌≡◌, ℕ, false, ◌||◌, not, List, [], ◌∷◌, ◌++◌, refl, sym, ap, subst, ◌∙◌, ◌⊎◌, inl, inr, eqb, append-nil, append_assoc}
use Rattle.std.specs.Prelude.{IsTrue, IsFalse, None, Option, Some, is_none}
use Rattle.std.specs.List.{list_all}
use Rattle.std.proofs.lemmas.Bool.{and_parts, cases_Bool, false≢true, false_from_ne_true, not-true, or_cases, true≢false}
use Rattle.aft_model.specs.declared.caller.By.{By}
use Rattle.aft_model.specs.declared.door.DoorAct.{DoorAct}
use Rattle.aft_model.specs.declared.door.DoorAct.TheVariants as doors
use Rattle.aft_model.specs.declared.door.DoorEntry.{DoorEntry}
use Rattle.aft_model.specs.declared.node.NodeEntry.{NodeEntry}
use Rattle.aft_model.specs.declared.script.Command.{Command}
use Rattle.aft_model.specs.declared.script.Command.TheVariants as commands
use Rattle.aft_model.specs.declared.script.Line.{Line}
use Rattle.aft_model.specs.LegalDoor.{Legal}
use Rattle.aft_model.specs.Membership.{Incarnation, incarnation, same_incarnation}
use Rattle.aft_model.specs.ScanRun.{same_line}
use Rattle.aft_model.proofs.Histories.{In, all_at, in_back}
use Rattle.aft_lines.specs.Advance.{advance, leads_to}
use Rattle.aft_lines.specs.Asked.{Asked, Ran}
use Rattle.aft_lines.specs.BackupCourse.{copier}
use Rattle.aft_lines.specs.CourseWords.{Ends}
use Rattle.aft_lines.specs.FinishedText.{line_of}
use Rattle.aft_lines.specs.LineView.{door_entry_in, ends_of}
use Rattle.aft_lines.specs.Lines.{lines, node_numbers}
use Rattle.aft_lines.specs.Makes.{makes, makes_at_door}
use Rattle.aft_lines.specs.Progress.{Progress}
use Rattle.aft_lines.specs.Steps.{Made, door_steps, own_steps}
use Rattle.aft_lines.specs.Turns.{AtDoor, AtNode, AtOffice, Turn, turns}
use Rattle.aft_lines.specs.Views.{view_of}
use Rattle.law_claims.specs.Copying.{copier_at, copier_behind, is_of_copier, is_the_copier}
use Rattle.law_claims.specs.Moments.{Asking, Comes, or_not_begun}
use Rattle.law_claims.proofs.Copying.{copier_follows}
use Rattle.law_claims.proofs.Moments.{door-snoc, own_other}
use Rattle.law_claims.proofs.Scenes.{by_itself, same_by}
use Rattle.law_runs.specs.Runs.{Goes, asking_of, command_in, ends_in, line_among, run_steps}
use Rattle.law_runs.proofs.Come.{Named, it_comes, named_line, turn_made, unasked_reads}
use Rattle.law_runs.proofs.InStages.{kept_behind}
use Rattle.law_runs.proofs.Members.{in_turns, no_office_step, step_in}
use Rattle.law_runs.proofs.Reading.{reads_alone}
use Rattle.law_turns.specs.Order.{is_at_office}
use Rattle.law_held.specs.Copies.{CopiersLie, CrashesSpare, NoneUp, OneUp, copier_of, copier_of_turns, is_crash, spares_copiers}
use Rattle.law_held.proofs.ComesUp.{low_or_copy}
use Rattle.law_held.proofs.CopierSteps.{comes, fences, is_of_copiers, others_lie}
use Rattle.law_held.proofs.CopyLines.{copy_led}
use Rattle.law_held.proofs.Lines.{leads}

-- ---- commands

-- a copy, or a line of another command, which has none up
abbrev CopyOrNot : Command → Type 0
CopyOrNot command = (command ≡ commands.Backup) ⊎ ((nodes : List ℕ) (ends : Ends) (line : List Turn) → copier_of_turns nodes ends line (Some command) ≡ None) × ((command ≡ commands.Backup) → ⊥)

pub copy_or_not : (command : Command) → CopyOrNot command
copy_or_not commands.Backup = inl refl
copy_or_not command = inr (λ nodes ends line. refl, λ is. absurd (cc))

-- which commands fence
fence_by : (command : Command) (node inc : ℕ) → IsTrue (makes_at_door command (doors.Fence node inc)) → IsTrue (is_crash command) ⊎ (command ≡ commands.Backup)
fence_by (commands.Crash home) node inc made = inl refl
fence_by commands.Backup node inc made = inr refl
fence_by command node inc made = absurd (false≢true made)

-- ---- a run

module _ (asked : Asked) (ran : Ran) (so : Goes asked ran) (spare : CrashesSpare asked ran) where
  abbrev asking : Asking
  asking = asking_of asked ran

  abbrev nodes : List ℕ
  nodes = node_numbers asked.settings

  abbrev Lie : List Made → Type 0
  Lie made = CopiersLie (door_steps made) (copier_of asking made)

  others_same : (made : List Made) (one : Made) (other : By) → IsFalse (same_line one.by other) → copier_of asking (made ++ one ∷ []) other ≡ copier_of asking made other
  others_same made one other differs = ap (λ (line : List Turn). copier_of_turns nodes (asking.ends other) line (asking.command other)) (own_other other made one (turned other differs))
    where
      turned : (o : By) → same_line one.by o ≡ false → same_line o one.by ≡ false
      turned o d = false_from_ne_true (same_line o one.by) (λ is. true≢false (sym (by_itself one.by) ∙ subst (λ (x : By). same_line one.by x ≡ false) (same_by o one.by is) d))

  module _ (before rest : List Made) (one : Made) (is : run_steps ran ≡ before ++ one ∷ rest) where
    abbrev after : List Made
    after = before ++ one ∷ []

    abbrev was : Option Incarnation
    was = copier_of asking before one.by

    abbrev now : Option Incarnation
    now = copier_of asking after one.by

    -- a step of a copy leads it on; one of another line brings no copier up, and fences none
    record ByCopy : Type 0 where
      pub ends : Ends
      pub from : Progress
      pub to : Progress
      pub goes : advance commands.Backup nodes ends from one.turn ≡ Some to
      pub held : was ≡ copier_at from
      pub holds : now ≡ copier_at to

    record NoCopy : Type 0 where
      pub nothing : was ≡ None
      pub none : now ≡ None
      pub other : (place : ℕ) (act : DoorAct) → one.turn ≡ AtDoor place act → is_of_copiers act ≡ false

    abbrev IsCopy : Type 0
    IsCopy = (line : Line) × In line (lines asked) × (line_of line ≡ one.by) × (line_among one.by (lines asked) ≡ Some line) × (line.order ≡ commands.Backup)

    -- the turn of whoever is no copy
    not_of_copiers : (IsCopy → ⊥) → ((place node inc : ℕ) → one.turn ≡ AtDoor place (doors.Fence node inc) → IsFalse (eqb node copier)) → (place : ℕ) (act : DoorAct) → one.turn ≡ AtDoor place act → is_of_copiers act ≡ false
    not_of_copiers no_copy fenced place (doors.Up node inc) turned = elim (low_or_copy asked ran so before rest one is place node inc turned) [ inl copy ↦ absurd (no_copy copy) | inr low ↦ low ]
    not_of_copiers no_copy fenced place (doors.Fence node inc) turned = fenced place node inc turned
    not_of_copiers no_copy fenced place act turned = refl

    its_turn : In one.turn (turns one.by ran.trace)
    its_turn = in_turns one.by ran.trace one.turn (step_in ran.trace one (subst (λ (l : List Made). In one l) (sym is) (in_back one before (one ∷ rest) (inl refl))))

    module _ (line : Line) (listed : In line (lines asked)) (its : line_of line ≡ one.by) (found : line_among one.by (lines asked) ≡ Some line) where
      abbrev its_ends : Ends
      its_ends = ends_of (view_of asked ran line)

      held_so : (made : List Made) → copier_of asking made one.by ≡ copier_of_turns nodes its_ends (own_steps one.by made) (Some line.order)
      held_so made = ap (λ (o : Option Line). copier_of_turns nodes (ends_in asked ran o) (own_steps one.by made) (command_in o)) found

      by_copy : line.order ≡ commands.Backup → ByCopy
      by_copy copy =
          let come = copy_led asked ran so line listed copy in
          let steps : own_steps one.by (before ++ one ∷ rest) ≡ own_steps (line_of line) (run_steps ran) = ap (own_steps one.by) (sym is) ∙ ap (λ (b : By). own_steps b (run_steps ran)) (sym its) in
          let led = leads commands.Backup nodes its_ends before rest one come.0 (ap (leads_to commands.Backup nodes its_ends) steps ∙ come.1) in
          let at : (made : List Made) → copier_of asking made one.by ≡ copier_at (or_not_begun (leads_to commands.Backup nodes its_ends (own_steps one.by made))) = λ made. held_so made ∙ ap (λ (c : Command). copier_of_turns nodes its_ends (own_steps one.by made) (Some c)) copy in
          record {
            ends = its_ends;
            from = led.from;
            to = led.to;
            goes = led.goes;
            held = at before ∙ ap (λ (o : Option Progress). copier_at (or_not_begun o)) led.was;
            holds = at after ∙ ap (λ (o : Option Progress). copier_at (or_not_begun o)) led.now;
          }

      spared : ((line.order ≡ commands.Backup) → ⊥) → (place node inc : ℕ) → one.turn ≡ AtDoor place (doors.Fence node inc) → IsFalse (eqb node copier)
      spared no_copy place node inc turned = elim (fence_by line.order node inc (subst (λ (t : Turn). IsTrue (makes line.order t)) turned (turn_made asked ran so before rest one is line listed its))) [
        | inr copy ↦ absurd (no_copy copy)
        | inl crash ↦
            let rule = all_at (λ (l : Line). not (is_crash l.order) || list_all spares_copiers (turns (line_of l) ran.trace)) line (lines asked) listed spare in
            elim (or_cases (not (is_crash line.order)) (list_all spares_copiers (turns (line_of line) ran.trace)) rule) [
              | inl other ↦ absurd (true≢false (sym crash ∙ not-true (is_crash line.order) other))
              | inr all ↦ not-true (eqb node copier) (all_at spares_copiers (AtDoor place (doors.Fence node inc)) (turns (line_of line) ran.trace) (subst (λ (t : Turn). In t (turns (line_of line) ran.trace)) turned (subst (λ (b : By). In one.turn (turns b ran.trace)) (sym its) its_turn)) all)
            ]
      ]

      by_other : ((numbers : List ℕ) (ends : Ends) (l : List Turn) → copier_of_turns numbers ends l (Some line.order) ≡ None) × ((line.order ≡ commands.Backup) → ⊥) → NoCopy
      by_other none = record {
        nothing = held_so before ∙ none.0 nodes its_ends (own_steps one.by before);
        none = held_so after ∙ none.0 nodes its_ends (own_steps one.by after);
        other = not_of_copiers (λ copy. none.1 (subst (λ (l : Line). l.order ≡ commands.Backup) (same_found copy.0 (sym copy.3 ∙ found)) copy.4)) (spared none.1);
      }
        where
          same_found : (l : Line) → Some l ≡ Some line → l ≡ line
          same_found l e = cc

      by_line : ByCopy ⊎ NoCopy
      by_line = elim (copy_or_not line.order) [ inl copy ↦ inl (by_copy copy) | inr other ↦ inr (by_other other) ]

    by_nobody : line_among one.by (lines asked) ≡ None → NoCopy
    by_nobody none = record {
      nothing = ap (λ (o : Option Line). copier_of_turns nodes (ends_in asked ran o) (own_steps one.by before) (command_in o)) none;
      none = ap (λ (o : Option Line). copier_of_turns nodes (ends_in asked ran o) (own_steps one.by after) (command_in o)) none;
      other = not_of_copiers (λ copy. none_found copy.0 (sym none ∙ copy.3)) (λ place node inc turned. absurd (false≢true (subst (λ (t : Turn). IsTrue (reads_alone t)) turned (unasked_reads asked ran so before rest one is (ap command_in none)))));
    }
      where
        none_found : (l : Line) → None ≡ Some l → ⊥
        none_found l e = cc

    who_copies : ByCopy ⊎ NoCopy
    who_copies = cases (named_line one.by (lines asked))
      where
        cases : Named one.by (lines asked) → ByCopy ⊎ NoCopy
        cases (inl n) = by_line n.0 n.1 n.2 n.3
        cases (inr n) = inr (by_nobody n.0)

    all_same : now ≡ was → (by : By) → copier_of asking after by ≡ copier_of asking before by
    all_same own by = elim (cases_Bool (same_line one.by by)) [
      | inl same ↦ subst (λ (b : By). copier_of asking after b ≡ copier_of asking before b) (same_by one.by by same) own
      | inr differs ↦ others_same before one by differs
    ]

    -- ---- its turn

    module _ (place : ℕ) (act : DoorAct) (turned : one.turn ≡ AtDoor place act) where
      abbrev entry_now : DoorEntry
      entry_now = record { by = one.by; act = act }

      door_now : door_steps after ≡ door_steps before ++ entry_now ∷ []
      door_now = door-snoc before one ∙ ap (λ (t : Turn). door_steps before ++ door_entry_in one.by t) turned

      legal_now : Legal (door_steps before ++ entry_now ∷ [])
      legal_now = (subst (Comes asking asked.settings.cache before one.by) turned (it_comes asked ran so before rest one is (kept_behind asked ran so before (one ∷ rest) is).0)).0

      lies_other : is_of_copiers act ≡ false → now ≡ was → Lie before → CopiersLie (door_steps before ++ entry_now ∷ []) (copier_of asking after)
      lies_other other same lies = others_lie (door_steps before) entry_now (copier_of asking before) (copier_of asking after) other (all_same same) lies

      lies_copy : (copy : ByCopy) (a : DoorAct) → act ≡ a → (now ≡ copier_behind was (AtDoor place a)) → IsTrue (is_of_copier was (AtDoor place a)) → Lie before → CopiersLie (door_steps before ++ entry_now ∷ []) (copier_of asking after)
      lies_copy copy (doors.Up node inc) e behind turn lies =
          let parts = and_parts (is_none was) (eqb node copier) turn in
          comes (door_steps before) entry_now legal_now one.by (copier_of asking before) (copier_of asking after) (others_same before one) node inc e parts.1 behind (none_is was parts.0) lies
        where
          none_is : (o : Option Incarnation) → IsTrue (is_none o) → o ≡ None
          none_is None so' = refl
          none_is (Some w) so' = absurd (false≢true so')
      lies_copy copy (doors.Fence node inc) e behind turn lies =
          let some = some_is was turn in
          fences (door_steps before) entry_now legal_now one.by (copier_of asking before) (copier_of asking after) (others_same before one) node inc e some.0 some.1 some.2 behind lies
        where
          some_is : (o : Option Incarnation) → IsTrue (is_the_copier o (incarnation node inc)) → (w : Incarnation) × (o ≡ Some w) × IsTrue (same_incarnation w (incarnation node inc))
          some_is None so' = absurd (false≢true so')
          some_is (Some w) so' = (w, refl, so')
      lies_copy copy a e behind turn lies = lies_other (ap is_of_copiers e) behind lies

      lies_at_door : ByCopy ⊎ NoCopy → Lie before → Lie after
      lies_at_door (inr other) lies = subst (λ (d : List DoorEntry). CopiersLie d (copier_of asking after)) (sym door_now) (lies_other (other.other place act turned) (other.none ∙ sym other.nothing) lies)
      lies_at_door (inl copy) lies =
          let goes : advance commands.Backup nodes copy.ends copy.from (AtDoor place act) ≡ Some copy.to = ap (advance commands.Backup nodes copy.ends copy.from) (sym turned) ∙ copy.goes in
          let follows = copier_follows nodes copy.ends copy.from copy.to (AtDoor place act) goes in
          subst (λ (d : List DoorEntry). CopiersLie d (copier_of asking after)) (sym door_now)
          (lies_copy copy act refl (copy.holds ∙ (follows.0 ∙ ap (λ (o : Option Incarnation). copier_behind o (AtDoor place act)) (sym copy.held))) (subst (λ (o : Option Incarnation). IsTrue (is_of_copier o (AtDoor place act))) (sym copy.held) follows.1) lies)

    -- where the door's history is the same
    lies_still : door_steps after ≡ door_steps before → now ≡ was → Lie before → Lie after
    lies_still same own lies = subst (λ (d : List DoorEntry). CopiersLie d (copier_of asking after)) (sym same) (still lies)
      where
        still : Lie before → CopiersLie (door_steps before) (copier_of asking after)
        still (NoneUp none free) = NoneUp (λ by. all_same own by ∙ none by) free
        still (OneUp by who is' of up only alone) = OneUp by who (all_same own by ∙ is') of up only (λ other differs. all_same own other ∙ alone other differs)

    kept_at_node : (node : ℕ) (history : List NodeEntry) (e : NodeEntry) → one.turn ≡ AtNode node history e → ByCopy ⊎ NoCopy → now ≡ was
    kept_at_node node history e turned (inr other) = other.none ∙ sym other.nothing
    kept_at_node node history e turned (inl copy) =
        let goes : advance commands.Backup nodes copy.ends copy.from (AtNode node history e) ≡ Some copy.to = ap (advance commands.Backup nodes copy.ends copy.from) (sym turned) ∙ copy.goes in
        copy.holds ∙ ((copier_follows nodes copy.ends copy.from copy.to (AtNode node history e) goes).0 ∙ sym copy.held)

    lies_step : Lie before → Lie after
    lies_step lies = by_turn one.turn refl
      where
        by_turn : (turn : Turn) → one.turn ≡ turn → Lie after
        by_turn (AtDoor place act) turned = lies_at_door place act turned who_copies lies
        by_turn (AtNode node history e) turned = lies_still (door-snoc before one ∙ (ap (λ (t : Turn). door_steps before ++ door_entry_in one.by t) turned ∙ append-nil (door_steps before))) (kept_at_node node history e turned who_copies) lies
        by_turn (AtOffice history e) turned =
            absurd (true≢false (sym (ap is_at_office turned) ∙ no_office_step ran.trace one (subst (λ (l : List Made). In one l) (sym is) (in_back one before (one ∷ rest) (inl refl)))))

  lies_from : (more before rest : List Made) → run_steps ran ≡ before ++ (more ++ rest) → Lie before → Lie (before ++ more)
  lies_from [] before rest is lies = subst Lie (sym (append-nil before)) lies
  lies_from (one ∷ more) before rest is lies =
      subst Lie (append_assoc before (one ∷ []) more)
      (lies_from more (before ++ one ∷ []) rest (is ∙ sym (append_assoc before (one ∷ []) (more ++ rest))) (lies_step before (more ++ rest) one is lies))

  lies_at_first : Lie []
  lies_at_first = NoneUp (λ by. none by (asking.command by)) refl
    where
      none : (by : By) (command : Option Command) → copier_of_turns nodes (asking.ends by) [] command ≡ None
      none by None = refl
      none by (Some commands.Backup) = refl
      none by (Some command) = refl

  pub copiers_behind : (before rest : List Made) → run_steps ran ≡ before ++ rest → Lie before
  copiers_behind before rest is = lies_from before [] rest is lies_at_first
