-- What is done in a run in which no line runs: the door is only looked through, and nodes boot.
use Rattle.std.specs.Prelude.{Bool, List, None, Option, Some, false, true, ◌&&◌}
use Rattle.std.specs.List.{list_all}
use Rattle.aft_keeper.specs.declared.keeper.KeeperCall.TheVariants.{Get, Scan}
use Rattle.aft_model.specs.declared.door.DoorAct.{DoorAct}
use Rattle.aft_model.specs.declared.door.DoorAct.TheVariants.{Call, Opened, Up}
use Rattle.aft_model.specs.declared.door.DoorEntry.{DoorEntry}
use Rattle.aft_model.specs.declared.node.NodeAct.{NodeAct}
use Rattle.aft_model.specs.declared.node.NodeAct.TheVariants.{Boot, Booting}
use Rattle.aft_model.specs.declared.node.NodeEntry.{NodeEntry}
use Rattle.aft_model.specs.declared.reply.Reply.{Reply}
use Rattle.aft_model.specs.declared.reply.Reply.TheVariants.{Started}

-- whether an act at the door gets or scans, opens the door, or comes up
abbrev pub is_look : DoorAct → Bool
is_look Opened = true
is_look (Up node inc) = true
is_look (Call node inc (Get name) answer) = true
is_look (Call node inc (Scan prefix after limit) answer) = true
is_look act = false

-- whether a history of the door has nothing else
abbrev pub only_looks : List DoorEntry → Bool
only_looks history = list_all (λ entry. is_look entry.act) history

-- whether an act of a node begins or ends a boot
abbrev pub is_of_boot : NodeAct → Bool
is_of_boot (Booting inc) = true
is_of_boot (Boot inc commits) = true
is_of_boot act = false

-- whether an entry answers nothing, or that an incarnation has started
abbrev pub only_starts : Option Reply → Bool
only_starts None = true
only_starts (Some (Started node inc)) = true
only_starts answer = false

-- whether nodes do nothing but boot
abbrev pub only_boots : List (List NodeEntry) → Bool
only_boots histories = list_all (list_all (λ entry. is_of_boot entry.act && only_starts entry.answer)) histories
