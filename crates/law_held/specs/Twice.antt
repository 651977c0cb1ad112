-- A run so far whose script has one line twice, a round of orphans that holds a UUID: both lines hold it, and the office by one place alone.
use Rattle.std.specs.Prelude.{List, None, Some, [], codes, ℕ, ◌∷◌}
use Rattle.aft_id.specs.declared.txn_id.TxnId.{TxnId}
use Rattle.aft_keeper.specs.declared.keeper.KeeperAnswer.TheVariants as answers
use Rattle.aft_keeper.specs.declared.keeper.KeeperCall.TheVariants as calls
use Rattle.aft_keeper.specs.declared.keeper.Pair.{Pair}
use Rattle.aft_model.specs.declared.caller.By.{By}
use Rattle.aft_model.specs.declared.door.DoorAct.TheVariants as doors
use Rattle.aft_model.specs.declared.door.DoorEntry.{DoorEntry}
use Rattle.aft_model.specs.declared.script.Command.TheVariants as commands
use Rattle.aft_model.specs.declared.script.Line.{Line}
use Rattle.aft_model.specs.Membership.{the_office}
use Rattle.aft_model.specs.Opening.{opening}
use Rattle.aft_model.specs.Readings.{version_name}
use Rattle.aft_model.specs.ScanRun.{page_limit}
use Rattle.aft_model.specs.Sound.{markers_prefix, records_prefix}
use Rattle.aft_lines.specs.Asked.{Asked, Ran}
use Rattle.aft_lines.specs.FinishedText.{line_of}
use Rattle.aft_lines.specs.OrphanCourse.{versions_prefix}

-- the key, and the version that is found under it
abbrev pub its_key : List ℕ
its_key = codes "x"

abbrev pub its_id : TxnId
its_id = record { time = 1; uuid = 0 ∷ 0 ∷ 0 ∷ 0 ∷ 0 ∷ 0 ∷ 0 ∷ 0 ∷ 0 ∷ 0 ∷ 0 ∷ 0 ∷ 0 ∷ 0 ∷ 0 ∷ 1 ∷ [] }

-- the line, and what its run is asked: it, twice
abbrev pub its_line : Line
its_line = record { number = 1; client = 1; order = commands.Orphans its_key }

abbrev pub twice : Asked
twice = record {
  script = record { lines = its_line ∷ its_line ∷ [] };
  order = Some (record { words = [] });
  asks = [];
  settings = record { nodes = 1; cache = 1; mailbox = 1; rounds = 0 };
  clock = None;
}

-- a page that the office scans
abbrev pub page : By → List ℕ → List Pair → DoorEntry
page by prefix pairs = record { by = by; act = doors.Call the_office.node the_office.inc (calls.Scan prefix [] page_limit) (answers.Page pairs) }

-- the office finds nothing, and opens the door; then the line finds the version, and claims its UUID
abbrev pub twice_ran : Ran
twice_ran = record {
  trace = record {
    door =
        page opening records_prefix []
        ∷ page opening markers_prefix []
        ∷ record { by = opening; act = doors.Opened }
        ∷ page (line_of its_line) (versions_prefix its_key) (record { name = version_name its_key its_id; bytes = [] } ∷ [])
        ∷ record { by = line_of its_line; act = doors.Claim its_id.uuid the_office.node the_office.inc }
        ∷ [];
    nodes = [] ∷ [];
    office = [];
  };
  mail = [] ∷ [] ∷ [];
}
