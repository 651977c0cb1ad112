-- Who is fenced, but for copiers, is fenced by a crash.
use Rattle.std.proofs.Common.{◌≡◌, ℕ, Bool, suc, List, [], ◌∷◌, ◌++◌, refl, sym, subst, ◌∙◌, inl, inr, map, eqb}
use Rattle.std.specs.Prelude.{IsFalse, IsTrue, if◌then◌else◌}
use Rattle.std.specs.List.{list_all, list_any}
use Rattle.std.proofs.lemmas.Bool.{and_parts, false≢true, or_cases, true≢false}
use Rattle.aft_model.specs.declared.caller.By.{By}
use Rattle.aft_model.specs.declared.door.DoorAct.{DoorAct}
use Rattle.aft_model.specs.declared.door.DoorAct.TheVariants.{Fence}
use Rattle.aft_model.specs.declared.door.DoorEntry.{DoorEntry}
use Rattle.aft_model.specs.declared.script.Command.{Command}
use Rattle.aft_model.specs.declared.script.Command.TheVariants as commands
use Rattle.aft_model.specs.declared.script.Line.{Line}
use Rattle.aft_model.specs.Opening.{opening}
use Rattle.aft_model.specs.ScanRun.{same_line}
use Rattle.aft_model.proofs.Histories.{In, all_at, in_back, in_front}
use Rattle.aft_model.proofs.Lists.{map_in}
use Rattle.aft_lines.specs.Asked.{Asked, Ran}
use Rattle.aft_lines.specs.BackupCourse.{copier}
use Rattle.aft_lines.specs.FinishedText.{line_of}
use Rattle.aft_lines.specs.LegalTrace.{is_of_lines, makers}
use Rattle.aft_lines.specs.Lines.{lines, node_numbers}
use Rattle.aft_lines.specs.Makes.{makes, makes_at_door}
use Rattle.aft_lines.specs.OpeningCourse.{opening_begins}
use Rattle.aft_lines.specs.Turns.{AtDoor, door_turns, nodes_turns, office_turns, turns}
use Rattle.aft_lines.specs.Views.{view_of}
use Rattle.law_claims.proofs.Scenes.{by_itself, same_by}
use Rattle.law_runs.specs.Runs.{Goes}
use Rattle.law_runs.proofs.Come.{named_line}
use Rattle.law_runs.proofs.Members.{in_turns}
use Rattle.law_runs.proofs.Opening.{opening_reads}
use Rattle.law_runs.proofs.Reading.{reads_alone}
use Rattle.law_held.specs.Copies.{is_crash}

-- an entry at the door is a turn of its line
pub turn_of_entry : (e : DoorEntry) (from : ℕ) (rest : List DoorEntry) → In e rest → (place : ℕ) × In (AtDoor place e.act) (door_turns e.by from rest)
turn_of_entry e from [] among = absurd among
turn_of_entry e from (x ∷ rest) (inl is) = (
  from,
  in_front (AtDoor from e.act) (if same_line e.by x.by then AtDoor from x.act ∷ [] else []) (door_turns e.by (suc from) rest)
      (subst (λ (y : DoorEntry). In (AtDoor from e.act) (if same_line e.by y.by then AtDoor from y.act ∷ [] else [])) is
      (subst (λ (b : Bool). In (AtDoor from e.act) (if b then AtDoor from e.act ∷ [] else [])) (sym (by_itself e.by)) (inl refl))),
)
turn_of_entry e from (x ∷ rest) (inr later) =
    let found = turn_of_entry e (suc from) rest later in
    (found.0, in_back (AtDoor found.0 e.act) (if same_line e.by x.by then AtDoor from x.act ∷ [] else []) (door_turns e.by (suc from) rest) found.1)

-- a line that fences is a crash, or fences a copier
crashes_or_copies : (command : Command) (node inc : ℕ) → IsTrue (makes_at_door command (Fence node inc)) → IsFalse (eqb node copier) → IsTrue (is_crash command)
crashes_or_copies (commands.Crash home) node inc made other = refl
crashes_or_copies commands.Backup node inc made other = absurd (true≢false (sym made ∙ other))
crashes_or_copies (commands.Begin uuid home) node inc made other = absurd (false≢true made)
crashes_or_copies (commands.Forget uuid home) node inc made other = absurd (false≢true made)
crashes_or_copies command node inc made other = absurd (false≢true made)

module _ (asked : Asked) (ran : Ran) (goes : Goes asked ran) where
  pub fenced_by_crash : (e : DoorEntry) (node inc : ℕ) → In e ran.trace.door → e.act ≡ Fence node inc → IsFalse (eqb node copier) → (crash : Line) × In crash (lines asked) × (line_of crash ≡ e.by) × IsTrue (is_crash crash.order)
  fenced_by_crash e node inc among fences other =
      elim (or_cases (same_line opening e.by) (list_any (λ (l : Line). same_line (line_of l) e.by) (lines asked)) maker) [
        | inl opens ↦ absurd (false≢true (subst (λ (a : DoorAct). IsTrue (reads_alone (AtDoor place a))) fences
            (all_at reads_alone (AtDoor place e.act) (turns opening ran.trace) (subst (λ (b : By). In (AtDoor place e.act) (turns b ran.trace)) (sym (same_by opening e.by opens)) there)
            (opening_reads (node_numbers asked.settings) ran.trace goes.door so.1))))
        | inr line ↦ elim (named_line e.by (lines asked)) [
          | inl named ↦ (
            named.0,
            named.1,
            named.2,
            crashes_or_copies named.0.order node inc
                (subst (λ (a : DoorAct). IsTrue (makes_at_door named.0.order a)) fences
                (all_at (makes named.0.order) (AtDoor place e.act) (turns (line_of named.0) ran.trace) (subst (λ (b : By). In (AtDoor place e.act) (turns b ran.trace)) (sym named.2) there)
                (all_at (λ (l : Line). list_all (makes (view_of asked ran l).command) (view_of asked ran l).turns) named.0 (lines asked) named.1 goes.makes))) other,
          )
          | inr none ↦ absurd (true≢false (sym line ∙ none.1))
        ]
      ]
    where
      so : IsTrue (list_all (list_all (is_of_lines (lines asked))) (makers ran)) × IsTrue (opening_begins (node_numbers asked.settings) (turns opening ran.trace))
      so = and_parts (list_all (list_all (is_of_lines (lines asked))) (makers ran)) (opening_begins (node_numbers asked.settings) (turns opening ran.trace)) goes.opening

      maker : IsTrue (is_of_lines (lines asked) e.by)
      maker =
          all_at (is_of_lines (lines asked)) e.by (map (λ (x : DoorEntry). x.by) ran.trace.door) (map_in (λ (x : DoorEntry). x.by) e ran.trace.door among)
          (all_at (list_all (is_of_lines (lines asked))) (map (λ (x : DoorEntry). x.by) ran.trace.door) (makers ran) (inl refl) so.0)

      found : (place : ℕ) × In (AtDoor place e.act) (door_turns e.by 0 ran.trace.door)
      found = turn_of_entry e 0 ran.trace.door among

      place : ℕ
      place = found.0

      there : In (AtDoor place e.act) (turns e.by ran.trace)
      there =
          in_turns e.by ran.trace (AtDoor place e.act)
          (in_front (AtDoor place e.act) (nodes_turns e.by 1 ran.trace.nodes ++ door_turns e.by 0 ran.trace.door) (office_turns e.by [] ran.trace.office) (in_back (AtDoor place e.act) (nodes_turns e.by 1 ran.trace.nodes) (door_turns e.by 0 ran.trace.door) found.1))
