-- In each history of the office a line's collection runs until the line ends it.
use Rattle.std.proofs.Common.{◌≡◌, Bool, false, true, List, [], ◌∷◌, ◌++◌, refl, ap, sym, subst, ◌∙◌}
use Rattle.std.specs.Prelude.{IsFalse, IsTrue, None, Option, Some, if◌then◌else◌, is_none}
use Rattle.std.specs.List.{fold}
use Rattle.std.proofs.lemmas.Bool.{and_parts, false≢true}
use Rattle.std.proofs.lemmas.List.Sums.{fold-append}
use Rattle.aft_model.specs.declared.caller.By.{By}
use Rattle.aft_model.specs.declared.office.OfficeAct.{OfficeAct}
use Rattle.aft_model.specs.declared.office.OfficeAct.TheVariants.{Collected, Collecting, Nothing, Posted, Round}
use Rattle.aft_model.specs.declared.office.OfficeEntry.{OfficeEntry}
use Rattle.aft_model.specs.declared.reply.Reply.{Reply}
use Rattle.aft_model.specs.History.{each_after}
use Rattle.aft_model.specs.Office.{is_legal_alone, is_run_by, may_act, may_be_next, may_end_with, runs, runs_after}
use Rattle.aft_model.specs.Replies.{is_silent}
use Rattle.aft_model.specs.ScanRun.{same_line}
use Rattle.aft_lines.specs.RunsSoFar.{same_answer}
use Rattle.law_claims.proofs.Scenes.{same_by}
use Rattle.law_held.specs.Collecting.{RunsUntilEnded, collects, collects_after}

-- ---- on plain truths

same_either : (b before : Bool) → (if b then before else before) ≡ before
same_either true before = refl
same_either false before = refl

begun_now : (b before : Bool) → IsFalse before → (if b then true else before) ≡ b
begun_now true before none = refl
begun_now false before none = none

ended_now : (b before : Bool) → before ≡ b → (if b then false else before) ≡ false
ended_now true before is = refl
ended_now false before is = is

same_itself : (b : Bool) → IsTrue (same_answer b b)
same_itself true = refl
same_itself false = refl

module _ (by : By) where
  -- none runs, so the line that begins has its own
  begins : (maker : By) (before : Bool) (running : Option By) → IsTrue (is_none running) → before ≡ is_run_by by running → (if same_line by maker then true else before) ≡ same_line by maker
  begins maker before None none was = begun_now (same_line by maker) before was
  begins maker before (Some other) none was = absurd (false≢true none)

  -- the line that ends is the one whose collection runs
  ends : (maker : By) (before : Bool) (running : Option By) → IsTrue (is_run_by maker running) → before ≡ is_run_by by running → (if same_line by maker then false else before) ≡ false
  ends maker before None its was = absurd (false≢true its)
  ends maker before (Some other) its was = ended_now (same_line by maker) before (was ∙ ap (λ (b : By). same_line by b) (sym (same_by maker other its)))

  step : (maker : By) (act : OfficeAct) (answer : Option Reply) (before : Bool) (office : List OfficeEntry) → before ≡ is_run_by by (runs office) → IsTrue (may_act office maker act answer)
      → (if same_line by maker then collects_after before act else before) ≡ is_run_by by (runs_after (runs office) maker act)
  step maker Nothing answer before office was may = same_either (same_line by maker) before ∙ was
  step maker (Round heard missed) answer before office was may = same_either (same_line by maker) before ∙ was
  step maker (Posted ids) answer before office was may = same_either (same_line by maker) before ∙ was
  step maker Collecting answer before office was may = begins maker before (runs office) (and_parts (is_none (runs office)) (is_silent answer) may).0 was
  step maker Collected answer before office was may = ends maker before (runs office) (and_parts (is_run_by maker (runs office)) (may_end_with answer) may).0 was

  abbrev next : Option By → OfficeEntry → Option By
  next running entry = runs_after running entry.by entry.act

  abbrev after : Bool → OfficeEntry → Bool
  after before entry = if same_line by entry.by then collects_after before entry.act else before

  from_here : (before : List OfficeEntry) (office : List OfficeEntry) (begun : Bool) → begun ≡ is_run_by by (runs before) → IsTrue (each_after may_be_next before office) → fold after begun office ≡ is_run_by by (fold next (runs before) office)
  from_here before [] begun was each = was
  from_here before (entry ∷ office) begun was each =
      let parts = and_parts (may_be_next before entry) (each_after may_be_next (before ++ entry ∷ []) office) each in
      let may = (and_parts _ (may_act before entry.by entry.act entry.answer) parts.0).1 in
      let now : runs (before ++ entry ∷ []) ≡ next (runs before) entry = fold-append next None before (entry ∷ []) in
      from_here (before ++ entry ∷ []) office (after begun entry) (step entry.by entry.act entry.answer begun before was may ∙ sym (ap (is_run_by by) now)) parts.1
      ∙ ap (λ (running : Option By). is_run_by by (fold next running office)) now

  pub runs_until_ended : (office : List OfficeEntry) → IsTrue (is_legal_alone office) → RunsUntilEnded by office
  runs_until_ended office legal = subst (λ (b : Bool). IsTrue (same_answer (collects by office) b)) (from_here [] office false refl legal) (same_itself (collects by office))
