-- A line that runs stands as it did behind the turns of others.
use Rattle.std.proofs.Common.{◌≡◌, ◌≤◌, ◌<◌, List, ◌++◌, sym, subst, ap, ◌∙◌, ◌⊎◌, inl, inr, eqb}
use Rattle.std.specs.Prelude.{IsFalse, None, Option, length}
use Rattle.std.proofs.lemmas.Bool.{and_parts, cases_Bool, eqb-true}
use Rattle.aft_model.specs.declared.caller.By.{By}
use Rattle.aft_model.specs.declared.caller.Hold.{Hold}
use Rattle.aft_model.specs.declared.door.DoorEntry.{DoorEntry}
use Rattle.aft_model.specs.declared.script.Line.{Line}
use Rattle.aft_model.specs.Opening.{opening}
use Rattle.aft_model.specs.ScanRun.{same_line}
use Rattle.aft_lines.specs.Asked.{Asked, Ran}
use Rattle.aft_lines.specs.FinishedText.{line_of}
use Rattle.aft_lines.specs.Lines.{whole_order}
use Rattle.aft_node.specs.Closing.{last_own}
use Rattle.aft_turns.specs.Stands.{SeesOwn}
use Rattle.aft_turns.specs.Trail.{Trail}
use Rattle.law_accounts.proofs.Others.{office_first, turns_same}
use Rattle.law_accounts.proofs.Views.{hold_same, since_same}
use Rattle.law_accounts.specs.Account.{Account, IsDone, MayGoOn, Runs, Stand, Waits}
use Rattle.law_accounts.specs.Adding.{AddsAtBox, AddsAtDoor, AddsAtNode, AddsAtOffice, Added, maker_of, numbered_in, with_added}
use Rattle.law_driver.specs.Driven.{Driven, LookedBy, RanksLast, last_act, node_of}
use Rattle.law_driver.proofs.Closing.{last_with_other, numbered_either}
use Rattle.law_driver.proofs.Door.{looked_more}
use Rattle.law_driver.proofs.Seeing.{sees_other}

module _ (asked : Asked) (ran : Ran) (stand later : Line → Stand) (line other : Line) (hold : Hold) (trail : Trail) (added : Added) (driven : Driven asked ran stand line hold trail) (may : MayGoOn asked stand other) (by : maker_of added ≡ line_of other) (differs : IsFalse (same_line (line_of line) (line_of other))) where
  strange : IsFalse (same_line (line_of line) (maker_of added))
  strange = subst (λ (b : By). IsFalse (same_line (line_of line) b)) (sym by) differs

  stranger : IsFalse (same_line opening (maker_of added))
  stranger = subst (λ (b : By). IsFalse (same_line opening b)) (sym by) (driven.account.strangers other may.among)

  -- who goes on isn't an earlier line of the client, which are over
  none_before : (one : Line) → one.client ≡ line.client → one.number < line.number → IsFalse (same_line (line_of one) (maker_of added))
  none_before one client below = elim (cases_Bool (same_line (line_of one) (line_of other))) [
    | inl same ↦
        let parts = and_parts (eqb one.client other.client) (eqb one.number other.number) same in
        absurd (unless_over may.unless_over (driven.may.earlier other may.among (sym (eqb-true one.client other.client parts.0) ∙ client) (subst (λ n. n < line.number) (eqb-true one.number other.number parts.1) below)))
    | inr apart ↦ subst (λ (b : By). IsFalse (same_line (line_of one) b)) (sym by) apart
  ]
    where
      unless_over : (stand other ≡ Waits) ⊎ (stand other ≡ Runs) → stand other ≡ IsDone → ⊥
      unless_over (inl waits) done = cc
      unless_over (inr runs) done = cc

  sees_still : (one : Added) → IsFalse (same_line (line_of line) (maker_of one)) → SeesOwn (line_of line) trail.turns (with_added one ran).trace.door
  sees_still (AddsAtDoor entry) apart = sees_other (line_of line) trail.turns entry ran.trace.door apart driven.sees
  sees_still (AddsAtNode node entry) apart = driven.sees
  sees_still (AddsAtOffice entry) apart = driven.sees
  sees_still (AddsAtBox box entry) apart = driven.sees

  looked_still : (one : Added) → (rest : List DoorEntry) × ((with_added one ran).trace.door ≡ trail.look ++ rest)
  looked_still (AddsAtDoor entry) = looked_more trail.look ran.trace.door entry driven.looked
  looked_still (AddsAtNode node entry) = driven.looked
  looked_still (AddsAtOffice entry) = driven.looked
  looked_still (AddsAtBox box entry) = driven.looked

  closes_still : (one : Added) → IsFalse (same_line (line_of line) (maker_of one)) → last_own (line_of line) (numbered_in (node_of line.order hold) 1 (with_added one ran).trace.nodes) ≡ last_act trail.turns
  closes_still (AddsAtDoor entry) apart = driven.closing
  closes_still (AddsAtNode node entry) apart = elim (numbered_either (node_of line.order hold) node 1 entry ran.trace.nodes) [
    | inl more ↦ ap (last_own (line_of line)) more ∙ last_with_other (line_of line) (numbered_in (node_of line.order hold) 1 ran.trace.nodes) entry apart ∙ driven.closing
    | inr same ↦ ap (last_own (line_of line)) same ∙ driven.closing
  ]
  closes_still (AddsAtOffice entry) apart = driven.closing
  closes_still (AddsAtBox box entry) apart = driven.closing

  -- where lines don't run whole
  late_still : whole_order asked ≡ None → 1 ≤ length trail.look → LookedBy asked (with_added added ran) line (length trail.look) (whole_order asked)
  late_still apart made =
      subst (λ (order : Option (List Line)). LookedBy asked (with_added added ran) line (length trail.look) order) (sym apart)
      (subst (λ n. n ≤ length trail.look) (sym (since_same asked ran added line none_before stranger))
      (subst (λ (order : Option (List Line)). LookedBy asked ran line (length trail.look) order) apart (driven.late made)))

  pub stays : whole_order asked ≡ None → Account asked (with_added added ran) later → MayGoOn asked later line → later line ≡ Runs → RanksLast asked (with_added added ran) (line_of line) → Driven asked (with_added added ran) later line hold trail
  stays apart account may_still runs ranked = record {
    account = account;
    may = may_still;
    runs = runs;
    kind = driven.kind;
    own = turns_same (line_of line) ran added strange ∙ driven.own;
    sees = sees_still added strange;
    closing = closes_still added strange;
    looked = looked_still added;
    late = late_still apart;
    held = hold_same asked ran added line none_before stranger ∙ driven.held;
    quiet = office_first (line_of line) ran added strange ∙ driven.quiet;
    ranked = ranked;
  }
