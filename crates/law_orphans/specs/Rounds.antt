-- What a round of orphans deletes in a run.
use Rattle.std.specs.Prelude.{IsTrue, List, Some, ℕ, ◌++◌, ◌∷◌, ◌≡◌}
use Rattle.aft_keeper.specs.declared.keeper.KeeperAnswer.{KeeperAnswer}
use Rattle.aft_keeper.specs.declared.keeper.KeeperCall.TheVariants.{Delete}
use Rattle.aft_records.specs.declared.name.Name.TheVariants.{VersionOf}
use Rattle.aft_records.specs.NameReading.{name_of}
use Rattle.aft_model.specs.declared.door.DoorAct.TheVariants.{Call}
use Rattle.aft_model.specs.declared.door.DoorEntry.{DoorEntry}
use Rattle.aft_model.specs.declared.script.Command.TheVariants.{Orphans}
use Rattle.aft_model.specs.DoorRules.{may_delete_orphan}
use Rattle.aft_model.specs.Orphans.{is_orphan}
use Rattle.aft_lines.specs.Asked.{Asked, Ran}
use Rattle.aft_lines.specs.OrphanCourse.{VersionAt}
use Rattle.aft_lines.specs.Steps.{Made, door_steps}
use Rattle.aft_lines.specs.Turns.{AtDoor}
use Rattle.law_runs.specs.Runs.{asking_of, run_steps}

-- a name is that of a version that the rule on orphan versions lets the office delete, and that is an orphan
abbrev pub IsOrphanName : List DoorEntry → List ℕ → Type 0
IsOrphanName history name =
    (version : VersionAt) × (name_of name ≡ Some (VersionOf version.key version.id)) × IsTrue (may_delete_orphan history version.id) × IsTrue (is_orphan version.key version.id history)

-- each delete by a line that asks for a round of orphans is of such a name
abbrev pub RoundsDeleteOrphans : Asked → Ran → Type 0
RoundsDeleteOrphans asked ran =
    (before rest : List Made) (one : Made) (key name : List ℕ) (place node inc : ℕ) (answer : KeeperAnswer) → run_steps ran ≡ before ++ one ∷ rest → (asking_of asked ran).command one.by ≡ Some (Orphans key)
    → one.turn ≡ AtDoor place (Call node inc (Delete name) answer) → IsOrphanName (door_steps before) name
