-- Whose collection runs at the office.
use Rattle.std.specs.Prelude.{Bool, IsTrue, List, false, if◌then◌else◌, true}
use Rattle.std.specs.List.{fold}
use Rattle.aft_model.specs.declared.caller.By.{By}
use Rattle.aft_model.specs.declared.office.OfficeAct.{OfficeAct}
use Rattle.aft_model.specs.declared.office.OfficeAct.TheVariants.{Collected, Collecting}
use Rattle.aft_model.specs.declared.office.OfficeEntry.{OfficeEntry}
use Rattle.aft_model.specs.Office.{is_run_by, runs}
use Rattle.aft_model.specs.ScanRun.{same_line}
use Rattle.aft_lines.specs.RunsSoFar.{same_answer}

-- whether a line is in its collection after an act of its own
abbrev pub collects_after : Bool → OfficeAct → Bool
collects_after before Collecting = true
collects_after before Collected = false
collects_after before act = before

-- whether a line has begun a collection and not ended it, by its own entries of the office
abbrev pub collects : By → List OfficeEntry → Bool
collects by office = fold (λ before entry. if same_line by entry.by then collects_after before entry.act else before) false office

-- whether a line's collection runs just while the line has begun it and not ended it
abbrev pub RunsUntilEnded : By → List OfficeEntry → Type 0
RunsUntilEnded by office = IsTrue (same_answer (collects by office) (is_run_by by (runs office)))
