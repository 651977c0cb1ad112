-- A run behind its opening, in which no line has begun.
use Rattle.std.specs.Prelude.{IsTrue, length, ◌==◌}
use Rattle.std.specs.List.{list_all}
use Rattle.aft_model.specs.Bytes.{HasBytes}
use Rattle.aft_model.specs.DoorKnowledge.{is_open}
use Rattle.aft_model.specs.LegalDoor.{Legal}
use Rattle.aft_model.specs.Opening.{opening}
use Rattle.aft_model.specs.ScanRun.{same_line}
use Rattle.aft_lines.specs.Asked.{Asked, Ran}
use Rattle.aft_lines.specs.LegalTrace.{are_legal_nodes, fits_settings, makers}
use Rattle.aft_lines.specs.Lines.{node_numbers}
use Rattle.aft_lines.specs.OpeningCourse.{opening_course}
use Rattle.aft_lines.specs.Turns.{turns}

-- what has come of a run that was opened: its door is legal and open, and its nodes' histories are legal; each entry is the opening's, there is none at the boxes, and its turns are the opening's whole course
pub record Opened (asked : Asked) (ran : Ran) : Type 0 where
  pub settings : IsTrue (fits_settings asked.settings ran)
  pub bytes : HasBytes ran.trace.door
  pub door : Legal ran.trace.door
  pub opened : IsTrue (is_open ran.trace.door)
  pub nodes : IsTrue (are_legal_nodes 1 asked.settings.cache ran.trace.door ran.trace.nodes)
  pub alone : IsTrue (list_all (list_all (same_line opening)) (makers ran))
  pub no_mail : IsTrue (list_all (λ entries. length entries == 0) ran.mail)
  pub course : IsTrue (opening_course (node_numbers asked.settings) (turns opening ran.trace))
