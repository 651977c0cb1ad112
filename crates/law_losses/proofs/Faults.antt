-- Where no call at the door failed, no line answers a store fault, or that it is in doubt, and no commit of a collection is at fault.
use Rattle.std.proofs.Common.{◌≡◌, ℕ, Bool, ◌&&◌, ◌||◌, not, List, [], ◌∷◌, refl, sym, subst, ◌∙◌, inl, inr}
use Rattle.std.specs.Prelude.{IsFalse, IsTrue, None, Option, Some}
use Rattle.std.specs.List.{list_all, list_any}
use Rattle.std.proofs.lemmas.Bool.{and_parts, false≢true, or_cases, true≢false}
use Rattle.aft_keeper.specs.declared.keeper.KeeperAnswer.{KeeperAnswer}
use Rattle.aft_keeper.specs.declared.keeper.KeeperAnswer.TheVariants.{Failed}
use Rattle.aft_keeper.specs.declared.keeper.KeeperCall.{KeeperCall}
use Rattle.aft_keeper.specs.declared.keeper.KeeperCall.TheVariants as calls
use Rattle.aft_records.specs.declared.stored.Commit.{Commit}
use Rattle.aft_model.specs.declared.caller.By.{By}
use Rattle.aft_model.specs.declared.door.DoorAct.{DoorAct}
use Rattle.aft_model.specs.declared.door.DoorAct.TheVariants.{Call}
use Rattle.aft_model.specs.declared.door.DoorEntry.{DoorEntry}
use Rattle.aft_model.specs.declared.reply.Judged.{Judged}
use Rattle.aft_model.specs.declared.reply.Reply.{Reply}
use Rattle.aft_model.specs.declared.reply.Reply.TheVariants as replies
use Rattle.aft_model.specs.declared.reply.Verdict.TheVariants.{Fault}
use Rattle.aft_model.specs.declared.script.Command.{Command}
use Rattle.aft_model.specs.declared.script.Command.TheVariants as commands
use Rattle.aft_model.specs.declared.script.Line.{Line}
use Rattle.aft_model.specs.History.{each_after, followed}
use Rattle.aft_model.specs.LegalDoor.{is_answered, may_answer, may_follow}
use Rattle.aft_model.specs.Opening.{has_failed, is_failure}
use Rattle.aft_model.specs.Readings.{record_name}
use Rattle.aft_model.proofs.Histories.{In, all_at, any_found, any_from, each_after_split, in_back, in_flat_map}
use Rattle.aft_lines.specs.Asked.{Asked, Ran}
use Rattle.aft_lines.specs.Causes.{cause}
use Rattle.aft_lines.specs.CausesCommits.{fails_both, fails_get, fails_put, is_in_doubt_caused}
use Rattle.aft_lines.specs.CausesScans.{is_damaged_at_all, is_failed_page, tells_fault, came_through}
use Rattle.aft_lines.specs.FinishedText.{answers_of, line_of}
use Rattle.aft_lines.specs.LegalTrace.{LegalTrace}
use Rattle.aft_lines.specs.LineView.{LineView, door_entries, door_entry_in, fixed_for, is_fixed}
use Rattle.aft_lines.specs.Lines.{lines}
use Rattle.aft_lines.specs.Turns.{AtDoor, AtNode, AtOffice, Turn}
use Rattle.aft_lines.specs.Views.{view_of}
use Rattle.law_damage.proofs.AtDoor.{Placed, entered}
use Rattle.law_losses.proofs.Rounds.{no_faults}
use Rattle.law_losses.proofs.Verdicts.{Unanswered, faulted}

failed_page : (act : DoorAct) → IsTrue (is_failed_page act) → IsTrue (is_failure act)
failed_page (Call node inc (calls.Scan prefix after limit) Failed) is = refl
failed_page act is = absurd (false≢true is)

failed_put : (name : List ℕ) (act : DoorAct) → IsTrue (fails_put name act) → IsTrue (is_failure act)
failed_put name (Call node inc (calls.Put put bytes) Failed) is = refl
failed_put name act is = absurd (false≢true is)

some_first : (first second : DoorEntry → Bool) (xs : List DoorEntry) → IsTrue (followed first (list_any second) xs) → (x : DoorEntry) × In x xs × IsTrue (first x)
some_first first second [] is = absurd (false≢true is)
some_first first second (x ∷ xs) is = elim (or_cases (first x && list_any second xs) (followed first (list_any second) xs) is) [
  | inl here ↦ (x, inl refl, (and_parts (first x) (list_any second xs) here).0)
  | inr later ↦ (let rest = some_first first second xs later in (rest.0, inr rest.1, rest.2))
]

module _ (asked : Asked) (ran : Ran) (legal : LegalTrace asked ran) (unfailed : IsFalse (has_failed ran.trace.door)) (line : Line) (listed : In line (lines asked)) where
  abbrev view : LineView
  view = view_of asked ran line

  abbrev by : By
  by = line_of line

  abbrev door : List DoorEntry
  door = ran.trace.door

  caused : (reply : Reply) → In reply (answers_of by ran) → IsTrue (cause view reply)
  caused reply among = all_at (cause view) reply (answers_of by ran) among (all_at (λ (l : Line). list_all (cause (view_of asked ran l)) (answers_of (line_of l) ran)) line (lines asked) listed legal.causes)

  -- none of its calls failed
  none_failed : (place : ℕ) (act : DoorAct) → In (AtDoor place act) view.turns → IsTrue (is_failure act) → ⊥
  none_failed place act among fails =
      let at : Placed door by place act = entered by ran.trace (AtDoor place act) among in
      true≢false (sym (any_from (λ (e : DoorEntry). is_failure e.act) at.entry door (subst (In at.entry) (sym at.parts) (in_back at.entry at.before (at.entry ∷ at.after) (inl refl))) (subst (λ (a : DoorAct). IsTrue (is_failure a)) at.does fails)) ∙ unfailed)

  entry_unfailed : (entry : DoorEntry) → In entry (door_entries view) → IsTrue (is_failure entry.act) → ⊥
  entry_unfailed entry among fails =
      let turn = in_flat_map (door_entry_in by) entry view.turns among in at_turn turn.0 turn.1 turn.2
    where
      at_turn : (turn : Turn) → In turn view.turns → In entry (door_entry_in by turn) → ⊥
      at_turn (AtDoor place act) there (inl is) = none_failed place act there (subst (λ (e : DoorEntry). IsTrue (is_failure e.act)) is fails)
      at_turn (AtDoor place act) there (inr none) = none
      at_turn (AtNode node before e) there none = none
      at_turn (AtOffice before e) there none = none

  view_unfailed : IsTrue (has_failed (door_entries view)) → ⊥
  view_unfailed fails = (let found = any_found (λ (e : DoorEntry). is_failure e.act) (door_entries view) fails in entry_unfailed found.0 found.1 found.2)

  no_fault : (command : Command) → IsTrue (tells_fault command view) → ⊥
  no_fault commands.Commit tells = view_unfailed (and_parts (has_failed (door_entries view)) (not (is_in_doubt_caused view || is_damaged_at_all view)) tells).0
  no_fault commands.Collect tells = view_unfailed (and_parts (has_failed (door_entries view)) (not (came_through view.turns)) tells).0
  no_fault (commands.Orphans key) tells = (let found = any_found (λ (e : DoorEntry). is_failed_page e.act) (door_entries view) tells in entry_unfailed found.0 found.1 (failed_page found.0.act found.2))
  no_fault command tells = view_unfailed tells

  pub no_store_fault : In replies.StoreFault (answers_of by ran) → ⊥
  no_store_fault among = no_fault line.order (caused replies.StoreFault among)

  pub never_in_doubt : In replies.InDoubt (answers_of by ran) → ⊥
  never_in_doubt among = by_fixed (fixed_for line.order view) (and_parts _ _ (caused replies.InDoubt among)).1
    where
      by_fixed : (fixed : Option Commit) → IsTrue (is_fixed (λ c. fails_both c (door_entries view)) fixed) → ⊥
      by_fixed None is = false≢true is
      by_fixed (Some c) is =
          let found = some_first (λ (e : DoorEntry). fails_put (record_name c.id.uuid) e.act) (λ (e : DoorEntry). fails_get (record_name c.id.uuid) e.act) (door_entries view) is in
          entry_unfailed found.0 found.1 (failed_put (record_name c.id.uuid) found.0.act found.2)

  -- what isn't acknowledged failed
  answered_or_failed : (place node inc : ℕ) (call : KeeperCall) (answer : KeeperAnswer) → In (AtDoor place (Call node inc call answer)) view.turns → IsTrue (may_answer call answer)
  answered_or_failed place node inc call answer among =
      let at : Placed door by place (Call node inc call answer) = entered by ran.trace (AtDoor place (Call node inc call answer)) among in
      let rule = (and_parts (may_follow at.before at.entry) _ (each_after_split may_follow [] at.before (at.entry ∷ at.after) (subst (λ (d : List DoorEntry). IsTrue (each_after may_follow [] d)) at.parts legal.door)).1).0 in
      subst (λ (a : DoorAct). IsTrue (is_answered a)) (sym at.does) (and_parts (is_answered at.entry.act) _ rule).0

  no_unanswered : Unanswered view.turns → ⊥
  no_unanswered un = none_failed un.place (Call un.node un.inc un.call un.answer) un.among (un.fails (answered_or_failed un.place un.node un.inc un.call un.answer un.among))

  pub none_at_fault : (judged : List Judged) (one : Judged) → In (replies.Collected judged) (answers_of by ran) → In one judged → one.verdict ≡ Fault → ⊥
  none_at_fault judged one among there is = no_unanswered (faulted view view.turns judged one there is (and_parts _ _ (caused (replies.Collected judged) among)).1)

  pub counts_no_fault : (deleted kept held fault : ℕ) → In (replies.Orphans deleted kept held fault) (answers_of by ran) → fault ≡ 0
  counts_no_fault deleted kept held fault among = no_faults view line.order deleted kept held fault no_unanswered (caused (replies.Orphans deleted kept held fault) among)
