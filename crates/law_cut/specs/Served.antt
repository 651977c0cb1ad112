-- Whether the door serves: the office upgrades no record any more.
use Rattle.std.specs.Prelude.{Bool, List, ◌||◌}
use Rattle.std.specs.List.{list_any}
use Rattle.aft_model.specs.declared.door.DoorEntry.{DoorEntry}
use Rattle.aft_model.specs.DoorKnowledge.{is_delete, is_up_act}

-- whether somebody came up, or something was deleted
abbrev pub is_served : List DoorEntry → Bool
is_served history = list_any (λ entry. is_up_act entry.act || is_delete entry.act) history
