-- A run so far as steps: what its lines ask, and the steps that are not the office's.
use Rattle.std.specs.Prelude.{IsTrue, List, None, Option, Some, [], false, if◌then◌else◌, ◌∷◌}
use Rattle.aft_model.specs.declared.caller.By.{By}
use Rattle.aft_model.specs.declared.script.Command.{Command}
use Rattle.aft_model.specs.declared.script.Line.{Line}
use Rattle.aft_model.specs.declared.trace.Trace.{Trace}
use Rattle.aft_model.specs.Bytes.{HasBytes}
use Rattle.aft_model.specs.LegalDoor.{Legal}
use Rattle.aft_model.specs.ScanRun.{same_line}
use Rattle.aft_lines.specs.Asked.{Asked, Ran}
use Rattle.aft_lines.specs.CourseWords.{Ends}
use Rattle.aft_lines.specs.FinishedText.{line_of}
use Rattle.aft_lines.specs.LegalTrace.{are_legal_nodes, fits_settings, give_ups_backed}
use Rattle.aft_lines.specs.LineView.{ends_of}
use Rattle.aft_lines.specs.Lines.{lines, node_numbers}
use Rattle.aft_lines.specs.RunsSoFar.{all_lead_somewhere, all_make, opens_so}
use Rattle.aft_lines.specs.Steps.{Made, steps}
use Rattle.aft_lines.specs.Views.{view_of}
use Rattle.law_claims.specs.Moments.{Asking}

-- the first of some lines that is this one
abbrev pub line_among : By → List Line → Option Line
line_among by [] = None
line_among by (line ∷ lines) = if same_line (line_of line) by then Some line else line_among by lines

-- what it asks, if there is one
abbrev pub command_in : Option Line → Option Command
command_in None = None
command_in (Some line) = Some line.order

-- what its ends rest on; where there is none, on nothing
abbrev pub ends_in : Asked → Ran → Option Line → Ends
ends_in asked ran None = record { seen = []; is_shut_out = λ who front. false; is_left = λ inc state. false; is_kept = λ node c begun asked. false }
ends_in asked ran (Some line) = ends_of (view_of asked ran line)

-- what the lines of a run ask
abbrev pub asking_of : Asked → Ran → Asking
asking_of asked ran = record {
  command = λ by. command_in (line_among by (lines asked));
  ends = λ by. ends_in asked ran (line_among by (lines asked));
  nodes = node_numbers asked.settings;
}

-- a trace without what the office did
abbrev pub without_office : Trace → Trace
without_office trace = record trace { office = [] }

-- the steps of a run at the door and at the nodes
abbrev pub run_steps : Ran → List Made
run_steps ran = steps (without_office ran.trace)

-- what runs so far and legal traces have in common, and all that their steps rest on
pub record Goes (asked : Asked) (ran : Ran) : Type 0 where
  pub settings : IsTrue (fits_settings asked.settings ran)
  pub bytes : HasBytes ran.trace.door
  pub door : Legal ran.trace.door
  pub nodes : IsTrue (are_legal_nodes 1 asked.settings.cache ran.trace.door ran.trace.nodes)
  pub opening : IsTrue (opens_so asked ran)
  pub lines : IsTrue (all_lead_somewhere asked ran)
  pub makes : IsTrue (all_make asked ran)
  pub give_ups : IsTrue (give_ups_backed ran.trace)
