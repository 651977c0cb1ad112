-- A run as the list of what is done in it: each piece of work is a line of the script with all that it adds to the histories.
use Rattle.std.specs.Prelude.{ℕ, ◌==◌, ◌+◌, true, false, List, [], ◌∷◌, map, Some, None, if◌then◌else◌}
use Rattle.std.specs.List.{flat_map, range_with_len}
use Rattle.aft_lines.specs.Asked.{Asked, Ran, Settings}
use Rattle.aft_model.specs.declared.caller.By.{By}
use Rattle.aft_model.specs.declared.door.DoorEntry.{DoorEntry}
use Rattle.aft_model.specs.declared.mail.MailEntry.{MailEntry}
use Rattle.aft_model.specs.declared.node.NodeEntry.{NodeEntry}
use Rattle.aft_model.specs.declared.office.OfficeEntry.{OfficeEntry}
use Rattle.aft_model.specs.declared.script.Command.{Command}
use Rattle.aft_model.specs.declared.script.Line.{Line}
use Rattle.aft_model.specs.declared.script.Step.{Step}

-- a piece of work: its line, if it is the first of its line, and what it adds to the history of the door, of each node, of the office and of each box
pub record Work : Type 0 where
  pub lines : List Line
  pub door : List DoorEntry
  pub nodes : ℕ → List NodeEntry
  pub office : List OfficeEntry
  pub boxes : ℕ → List MailEntry

-- a run: what it is asked, and what comes of it
pub record Run : Type 0 where
  pub asked : Asked
  pub ran : Ran

-- a line of a client, by their numbers
abbrev pub by : ℕ → ℕ → By
by client line = record { client = client; line = line }

-- these entries in the history of the node or box of a number, and none in the others
abbrev pub at : {A : Type 0} → ℕ → List A → ℕ → List A
at number entries other = if number == other then entries else []

-- no entry in any of them
abbrev pub nowhere : {A : Type 0} → ℕ → List A
nowhere number = []

-- work that adds nothing, and is for no line of the script
abbrev pub nothing : Work
nothing = record { lines = []; door = []; nodes = nowhere; office = []; boxes = nowhere }

-- a line that adds nothing so far
abbrev pub asks : By → Command → Work
asks who command = record nothing { lines = record { number = who.line; client = who.client; order = command } ∷ [] }

-- the settings of so many nodes
abbrev pub nodes : ℕ → Settings
nodes count = record { nodes = count; cache = 256; mailbox = 256; rounds = 4 }

-- the script of the works, whose lines run whole one after the other, at the time 1000, and behind which no session asks anything
abbrev pub asked : Settings → List Work → Asked
asked settings works = record {
  script = record { lines = flat_map (λ work. work.lines) works };
  order = Some (record { words = [] });
  asks = [];
  settings = settings;
  clock = Some 1000;
}

-- the histories that they make
abbrev pub ran : Settings → List Work → Ran
ran settings works = record {
  trace = record {
    door = flat_map (λ work. work.door) works;
    nodes = map (λ node. flat_map (λ work. work.nodes node) works) (range_with_len 1 settings.nodes);
    office = flat_map (λ work. work.office) works;
  };
  mail = map (λ box. flat_map (λ work. work.boxes box) works) (range_with_len 0 (settings.nodes + 1));
}

-- the run of these works
abbrev pub run : Settings → List Work → Run
run settings works = record { asked = asked settings works; ran = ran settings works }

-- ---- in which order lines run

-- a word that runs a line of a client whole, and one that runs it by one turn
abbrev pub whole : ℕ → Step
whole client = record { client = client; whole = true }

abbrev pub step : ℕ → Step
step client = record { client = client; whole = false }

-- a run whose words are these
abbrev pub ordered : List Step → Run → Run
ordered words told = record told { asked = record told.asked { order = Some (record { words = words }) } }

-- a run with threads, which has no order
abbrev pub threaded : Run → Run
threaded told = record told { asked = record told.asked { order = None } }

-- a run without boxes: those of a refused opening aren't there
abbrev pub without_boxes : Run → Run
without_boxes told = record told { ran = record told.ran { mail = [] } }

-- a run behind whose script a session asks these lines
abbrev pub asking : List Line → Run → Run
asking lines told = record told { asked = record told.asked { asks = lines } }
