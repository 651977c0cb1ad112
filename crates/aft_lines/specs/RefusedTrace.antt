-- What may come of a run in which no line runs, since its opening was refused, or memory was wanting for its threads.
use Rattle.std.specs.Prelude.{List, Bool, IsTrue, is_none, length, ◌&&◌, ◌==◌, ◌||◌}
use Rattle.std.specs.List.{list_all}
use Rattle.aft_model.specs.Bytes.{HasBytes}
use Rattle.aft_model.specs.LegalDoor.{Legal}
use Rattle.aft_model.specs.Opening.{opening}
use Rattle.aft_model.specs.ScanRun.{same_line}
use Rattle.aft_lines.specs.Asked.{Asked, Ran, are_settings}
use Rattle.aft_lines.specs.LegalTrace.{are_legal_nodes, fits_settings, makers}
use Rattle.aft_lines.specs.Lines.{node_numbers}
use Rattle.aft_lines.specs.OpeningCourse.{opening_course, opens_so_far}
use Rattle.aft_lines.specs.Turns.{turns}

-- whether only the opening made entries
abbrev pub only_opens : Ran → Bool
only_opens ran = list_all (list_all (same_line opening)) (makers ran)

-- whether some histories are empty
abbrev pub are_empty : {A : Type 0} → List (List A) → Bool
are_empty histories = list_all (λ history. length history == 0) histories

-- whether the opening was refused on its way: at the door it did the beginning of its course, and nothing else was done; each node has its empty history, and there are no boxes
abbrev pub was_refused : Asked → Ran → Bool
was_refused asked ran =
    are_empty ran.trace.nodes
    && length ran.trace.nodes == asked.settings.nodes
    && length ran.trace.office == 0
    && length ran.mail == 0
    && opens_so_far (node_numbers asked.settings) (turns opening ran.trace)

-- whether the opening of a run with threads came to its end, and nothing else was done
abbrev pub opened_only : Asked → Ran → Bool
opened_only asked ran =
    is_none asked.order
    && fits_settings asked.settings ran
    && are_legal_nodes 1 asked.settings.cache ran.trace.door ran.trace.nodes
    && opening_course (node_numbers asked.settings) (turns opening ran.trace)
    && length ran.trace.office == 0
    && are_empty ran.mail

-- what may come of a run in which no line runs
pub record RefusedTrace (asked : Asked) (ran : Ran) : Type 0 where
  pub settings : IsTrue (are_settings asked.settings)
  pub bytes : HasBytes ran.trace.door
  pub door : Legal ran.trace.door
  pub no_line : IsTrue (only_opens ran)
  pub others : IsTrue (was_refused asked ran || opened_only asked ran)
