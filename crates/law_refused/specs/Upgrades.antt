-- What is done in a run of an upgrade: the door is only looked through, and records are put in the second format.
use Rattle.std.specs.Prelude.{Bool, List, true, ◌&&◌}
use Rattle.std.specs.List.{list_all, list_any}
use Rattle.aft_keeper.specs.declared.keeper.KeeperCall.TheVariants.{Put}
use Rattle.aft_keeper.specs.declared.keeper.Pair.{Pair}
use Rattle.aft_model.specs.declared.door.DoorAct.{DoorAct}
use Rattle.aft_model.specs.declared.door.DoorAct.TheVariants.{Call}
use Rattle.aft_model.specs.declared.door.DoorEntry.{DoorEntry}
use Rattle.aft_model.specs.Membership.{incarnation, same_incarnation, the_office}
use Rattle.aft_model.specs.Readings.{written_in}
use Rattle.law_refused.specs.Looks.{is_look}

-- whether a pair is a record of the second format, under its name
abbrev pub is_second_format : Pair → Bool
is_second_format pair = list_any (λ written. true) (written_in pair)

-- whether an act at the door looks, or is the office's put of a record in the second format
abbrev pub is_look_or_upgrade : DoorAct → Bool
is_look_or_upgrade (Call node inc (Put name bytes) answer) = same_incarnation the_office (incarnation node inc) && is_second_format (record { name = name; bytes = bytes })
is_look_or_upgrade act = is_look act

-- whether a history of the door has nothing else
abbrev pub only_upgrades : List DoorEntry → Bool
only_upgrades history = list_all (λ entry. is_look_or_upgrade entry.act) history
