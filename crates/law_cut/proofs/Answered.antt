-- A copy that answers what it copied came up, and copied all that it was to.
use Rattle.std.proofs.Common.{◌≡◌, ℕ, ◌&&◌, List, ◌∷◌, refl, length, eqb}
use Rattle.std.specs.Prelude.{IsTrue}
use Rattle.std.specs.List.{list_all}
use Rattle.std.proofs.lemmas.Bool.{and_parts, false≢true}
use Rattle.aft_model.specs.declared.door.DoorAct.TheVariants.{Up}
use Rattle.aft_model.specs.declared.reply.Reply.TheVariants.{Copied}
use Rattle.aft_model.specs.declared.script.Command.{Command}
use Rattle.aft_model.specs.declared.script.Command.TheVariants.{Backup}
use Rattle.aft_model.specs.declared.script.Line.{Line}
use Rattle.aft_model.specs.Membership.{incarnation}
use Rattle.aft_model.proofs.Histories.{In, all_at}
use Rattle.aft_lines.specs.Asked.{Asked, Ran}
use Rattle.aft_lines.specs.BackupCourse.{Copier, Copy, copy_of_line}
use Rattle.aft_lines.specs.Causes.{cause}
use Rattle.aft_lines.specs.CausesRounds.{is_backup, is_copied_by}
use Rattle.aft_lines.specs.CourseWords.{Ends}
use Rattle.aft_lines.specs.FinishedText.{answers_of, line_of}
use Rattle.aft_lines.specs.LegalTrace.{LegalTrace}
use Rattle.aft_lines.specs.LineView.{ends_of}
use Rattle.aft_lines.specs.Lines.{lines}
use Rattle.aft_lines.specs.Turns.{AtDoor, Turn, turns}
use Rattle.aft_lines.specs.Views.{view_of}
use Rattle.law_cut.specs.Copying.{CameThrough}

backs_up : (command : Command) → IsTrue (is_backup command) → command ≡ Backup
backs_up Backup is = refl
backs_up command is = absurd (false≢true is)

module _ (asked : Asked) (ran : Ran) (line : Line) where
  abbrev ends : Ends
  ends = ends_of (view_of asked ran line)

  by_turns : (taken marked : ℕ) (its : List Turn) → turns (line_of line) ran.trace ≡ its → IsTrue (is_copied_by taken marked ends its) → (copying : Copier) × (behind : List Turn) × CameThrough asked ran line copying behind
  by_turns taken marked (AtDoor place (Up node inc) ∷ behind) e is =
      let copying : Copier = record { who = incarnation node inc; place = place } in
      let copy : Copy = copy_of_line ends copying behind in
      (copying, behind, record { came_up = e; whole = (and_parts copy.is_whole (eqb taken (length copy.taken)) (and_parts (copy.is_whole && eqb taken (length copy.taken)) (eqb marked copy.marked) is).0).0 })
  by_turns taken marked its e is = absurd (false≢true is)

  pub came_through : (taken marked : ℕ) → LegalTrace asked ran → In line (lines asked) → In (Copied taken marked) (answers_of (line_of line) ran) → (line.order ≡ Backup) × (copying : Copier) × (behind : List Turn) × CameThrough asked ran line copying behind
  came_through taken marked legal listed among =
      let caused = all_at (cause (view_of asked ran line)) (Copied taken marked) (answers_of (line_of line) ran) among (all_at (λ (l : Line). list_all (cause (view_of asked ran l)) (answers_of (line_of l) ran)) line (lines asked) listed legal.causes) in
      let parts = and_parts (is_backup line.order) (is_copied_by taken marked ends (turns (line_of line) ran.trace)) caused in
      let came = by_turns taken marked (turns (line_of line) ran.trace) refl parts.1 in
      (backs_up line.order parts.0, came.0, came.1, came.2)
