-- A run in which only the opening's line did something, and that at the door alone; and what the result of an upgrade tells of its end.
use Rattle.std.specs.Prelude.{Err, List, Ok, Option, Result, Some, [], ℕ, ◌≡◌}
use Rattle.aft_model.specs.declared.door.DoorEntry.{DoorEntry}
use Rattle.aft_lines.specs.Asked.{Ran}
use Rattle.aft_lines.specs.UpgradeTrace.{CallFailed, HasUpgraded, ShowsNoRecord, UpgradeEnd}
use Rattle.aft_audit.specs.declared.fault.AuditFault.{AuditFault}
use Rattle.aft_audit.specs.declared.fault.AuditFault.TheVariants.{Damaged, Memory, Store, TooMany}

-- the run whose door has this history, without nodes and boxes, and with an office that has none
abbrev pub run_at_door : List DoorEntry → Ran
run_at_door history = record { trace = record { door = history; nodes = []; office = [] }; mail = [] }

-- what the result of an upgrade tells of how it ended: so many puts, a failed call, or a get that showed no record; where memory was wanting, no call failed
abbrev pub TellsEnd : Result ℕ AuditFault → Option UpgradeEnd → Type 0
TellsEnd (Ok puts) how = how ≡ Some (HasUpgraded puts)
TellsEnd (Err Store) how = how ≡ Some CallFailed
TellsEnd (Err TooMany) how = ⊥
TellsEnd (Err (Damaged name)) how = how ≡ Some (ShowsNoRecord name)
TellsEnd (Err Memory) how = how ≡ Some CallFailed → ⊥
