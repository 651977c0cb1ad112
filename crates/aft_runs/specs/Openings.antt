-- Runs in which no line runs: their opening was refused, or memory was wanting for their threads.
use Rattle.std.specs.Prelude.{Bool, List, [], ◌∷◌, codes, ◌||◌}
use Rattle.aft_keeper.specs.declared.keeper.KeeperCall.TheVariants as calls
use Rattle.aft_lines.specs.RefusedTrace.{was_refused, opened_only}
use Rattle.aft_model.specs.declared.door.DoorAct.TheVariants as acts
use Rattle.aft_model.specs.declared.door.DoorEntry.{DoorEntry}
use Rattle.aft_model.specs.Membership.{incarnation, the_office}
use Rattle.aft_runs.specs.Entries.{does, fails, lists}
use Rattle.aft_runs.specs.Lines.{opening, opens, boots, attempt, begins}
use Rattle.aft_runs.specs.Works.{Run, Work, run, without_boxes, threaded, by, nodes, nothing}

-- the scan of the markers fails
abbrev pub failed_scan : DoorEntry
failed_scan = fails opening the_office (calls.Scan (codes "r/") [] 64)

-- what is done at the door alone
abbrev pub at_door : List DoorEntry → Work
at_door entries = record nothing { door = entries }

-- a refused opening, which did this
abbrev pub refused_by : List Work → Run
refused_by works = without_boxes (run (nodes 1) works)

-- the store fails when the office asks for the markers
abbrev pub fault_at_check : Run
fault_at_check = refused_by (at_door (lists opening the_office (codes "c/") [] ∷ failed_scan ∷ []) ∷ [])

-- the same, but the door is opened all the same
abbrev pub opened_after_fault : Run
opened_after_fault = refused_by (at_door (lists opening the_office (codes "c/") [] ∷ failed_scan ∷ does opening acts.Opened ∷ []) ∷ [])

-- the store fails when the node that comes up asks for the records
abbrev pub failed_boot : List DoorEntry
failed_boot = does opening (acts.Up 1 1) ∷ fails opening (incarnation 1 1) (calls.Scan (codes "c/") [] 64) ∷ []

abbrev pub fault_at_boot : Run
fault_at_boot = refused_by (opens ∷ at_door failed_boot ∷ [])

-- the same, and there are boxes
abbrev pub fault_with_boxes : Run
fault_with_boxes = run (nodes 1) (opens ∷ at_door failed_boot ∷ [])

-- the same, and the node has no history
abbrev pub fault_without_nodes : Run
fault_without_nodes = record fault_at_boot { ran = record fault_at_boot.ran { trace = record fault_at_boot.ran.trace { nodes = [] } } }

-- the opening ends, and nothing follows: without threads, and with them
abbrev pub nothing_follows_in_turns : Run
nothing_follows_in_turns = run (nodes 1) (opens ∷ boots 3 opening 1 1 [] ∷ [])

abbrev pub nothing_follows : Run
nothing_follows = threaded nothing_follows_in_turns

-- the opening ends for one of two nodes alone
abbrev pub one_boot_of_two : Run
one_boot_of_two = threaded (run (nodes 2) (opens ∷ boots 3 opening 1 1 [] ∷ []))

-- the opening ends, and a line follows
abbrev pub line_follows : Run
line_follows = threaded (run (nodes 1) (opens ∷ boots 3 opening 1 1 [] ∷ begins 5 (by 1 1) (attempt 1 1 1) 1 ∷ []))

-- whether no line ran in a run, since its opening was refused or memory was wanting for its threads
abbrev pub no_line_runs : Run → Bool
no_line_runs told = was_refused told.asked told.ran || opened_only told.asked told.ran
