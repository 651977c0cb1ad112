-- What the lines of each command make at the door, at nodes and at the office.
use Rattle.std.specs.Prelude.{Bool, List, codes, false, nat_eq, true, ℕ, ◌&&◌, ◌==◌, ◌||◌}
use Rattle.std.specs.List.{starts_with}
use Rattle.aft_keeper.specs.declared.keeper.KeeperCall.{KeeperCall}
use Rattle.aft_keeper.specs.declared.keeper.KeeperCall.TheVariants.{Delete, Get, Put, Scan}
use Rattle.aft_model.specs.declared.door.DoorAct.{DoorAct}
use Rattle.aft_model.specs.declared.node.NodeAct.{NodeAct}
use Rattle.aft_model.specs.declared.office.OfficeAct.{OfficeAct}
use Rattle.aft_model.specs.declared.script.Command.{Command}
use Rattle.aft_model.specs.Membership.{incarnation, same_incarnation, the_office}
use Rattle.aft_model.specs.Sound.{markers_prefix, records_prefix}
use Rattle.aft_lines.specs.BackupCourse.{copier}
use Rattle.aft_lines.specs.Turns.{AtDoor, AtNode, AtOffice, Turn}
use Rattle.aft_model.specs.declared.door.DoorAct.TheVariants as doors
use Rattle.aft_model.specs.declared.node.NodeAct.TheVariants as acts
use Rattle.aft_model.specs.declared.office.OfficeAct.TheVariants as office_acts
use Rattle.aft_model.specs.declared.script.Command.TheVariants as commands

-- ---- names

-- whether a name begins with a prefix
abbrev pub is_under : List ℕ → List ℕ → Bool
is_under prefix name = starts_with nat_eq name prefix

-- the prefix of the names of versions
abbrev pub all_versions : List ℕ
all_versions = codes "v/"

-- whether a name is that of a record or of a marker
abbrev pub is_of_uuid : List ℕ → Bool
is_of_uuid name = is_under records_prefix name || is_under markers_prefix name

-- ---- at the door

-- of a begin: a claim, its release, and gets of a record and of a marker
abbrev pub begins_at_door : DoorAct → Bool
begins_at_door (doors.Claim uuid node inc) = true
begins_at_door (doors.Release uuid node inc) = true
begins_at_door (doors.Call node inc (Get name) answer) = is_of_uuid name
begins_at_door act = false

-- of a forget: the same, and the delete of a marker
abbrev pub forgets_at_door : DoorAct → Bool
forgets_at_door (doors.Call node inc (Delete name) answer) = is_under markers_prefix name
forgets_at_door act = begins_at_door act

-- of a get: the get of a version
abbrev pub gets_at_door : DoorAct → Bool
gets_at_door (doors.Call node inc (Get name) answer) = is_under all_versions name
gets_at_door act = false

-- of an abort: the get of a record, and a release
abbrev pub aborts_at_door : DoorAct → Bool
aborts_at_door (doors.Release uuid node inc) = true
aborts_at_door (doors.Call node inc (Get name) answer) = is_under records_prefix name
aborts_at_door act = false

-- of a commit: the same, and puts of versions and of a record
abbrev pub commits_at_door : DoorAct → Bool
commits_at_door (doors.Call node inc (Put name bytes) answer) = is_under records_prefix name || is_under all_versions name
commits_at_door act = aborts_at_door act

-- of a crash: a fence
abbrev pub crashes_at_door : DoorAct → Bool
crashes_at_door (doors.Fence node inc) = true
crashes_at_door act = false

-- of a start: a coming up, and scans
abbrev pub starts_at_door : DoorAct → Bool
starts_at_door (doors.Up node inc) = true
starts_at_door (doors.Call node inc (Scan prefix after limit) answer) = true
starts_at_door act = false

-- of a manager's round: scans by the office
abbrev pub manages_at_door : DoorAct → Bool
manages_at_door (doors.Call node inc (Scan prefix after limit) answer) = same_incarnation the_office (incarnation node inc)
manages_at_door act = false

-- of a collection: scans, puts of markers, and deletes of records and versions, all by the office; and give-ups
abbrev pub collects_by_office : KeeperCall → Bool
collects_by_office (Scan prefix after limit) = true
collects_by_office (Put name bytes) = is_under markers_prefix name
collects_by_office (Delete name) = is_under records_prefix name || is_under all_versions name
collects_by_office call = false

abbrev pub collects_at_door : DoorAct → Bool
collects_at_door (doors.Call node inc call answer) = same_incarnation the_office (incarnation node inc) && collects_by_office call
collects_at_door (doors.GiveUp node inc id) = true
collects_at_door act = false

-- of a copy: the coming up and the fence of a copier, its scans, and its gets of versions
abbrev pub copies_by_copier : KeeperCall → Bool
copies_by_copier (Scan prefix after limit) = true
copies_by_copier (Get name) = is_under all_versions name
copies_by_copier call = false

abbrev pub copies_at_door : DoorAct → Bool
copies_at_door (doors.Up node inc) = node == copier
copies_at_door (doors.Fence node inc) = node == copier
copies_at_door (doors.Call node inc call answer) = node == copier && copies_by_copier call
copies_at_door act = false

-- of a round of orphans: claims and releases, scans, gets of records and markers, and deletes of versions, all by the office
abbrev pub tidies_by_office : KeeperCall → Bool
tidies_by_office (Scan prefix after limit) = true
tidies_by_office (Get name) = is_of_uuid name
tidies_by_office (Delete name) = is_under all_versions name
tidies_by_office call = false

abbrev pub tidies_at_door : DoorAct → Bool
tidies_at_door (doors.Claim uuid node inc) = same_incarnation the_office (incarnation node inc)
tidies_at_door (doors.Release uuid node inc) = same_incarnation the_office (incarnation node inc)
tidies_at_door (doors.Call node inc call answer) = same_incarnation the_office (incarnation node inc) && tidies_by_office call
tidies_at_door act = false

abbrev pub makes_at_door : Command → DoorAct → Bool
makes_at_door (commands.Begin uuid node) act = begins_at_door act
makes_at_door (commands.Forget uuid node) act = forgets_at_door act
makes_at_door (commands.Get key) act = gets_at_door act
makes_at_door commands.Commit act = commits_at_door act
makes_at_door commands.Abort act = aborts_at_door act
makes_at_door (commands.Crash node) act = crashes_at_door act
makes_at_door (commands.Start node) act = starts_at_door act
makes_at_door commands.Manager act = manages_at_door act
makes_at_door commands.Collect act = collects_at_door act
makes_at_door (commands.Orphans key) act = tidies_at_door act
makes_at_door commands.Backup act = copies_at_door act
makes_at_door command act = false

-- ---- at nodes

-- of a forget: an attempt is made and taken away
abbrev pub forgets_at_node : NodeAct → Bool
forgets_at_node acts.Nothing = true
forgets_at_node (acts.Admit a uuid) = true
forgets_at_node (acts.Unadmit a) = true
forgets_at_node act = false

-- of a begin: it may run
abbrev pub begins_at_node : NodeAct → Bool
begins_at_node (acts.Begin a) = true
begins_at_node act = forgets_at_node act

-- of a get: a version is picked, and comes or doesn't
abbrev pub gets_at_node : NodeAct → Bool
gets_at_node acts.Nothing = true
gets_at_node (acts.Select a key pick) = true
gets_at_node (acts.Value a key id place kept) = true
gets_at_node (acts.Lost a key id) = true
gets_at_node act = false

-- of an abort: an attempt leaves, or its doubt is settled
abbrev pub aborts_at_node : NodeAct → Bool
aborts_at_node acts.Nothing = true
aborts_at_node (acts.Settle a) = true
aborts_at_node (acts.Leave a) = true
aborts_at_node (acts.Stored a c) = true
aborts_at_node (acts.Doubt a) = true
aborts_at_node (acts.End a) = true
aborts_at_node act = false

-- of a commit: it may start
abbrev pub commits_at_node : NodeAct → Bool
commits_at_node (acts.Start a now c) = true
commits_at_node act = aborts_at_node act

-- of a crash: the node goes down
abbrev pub crashes_at_node : NodeAct → Bool
crashes_at_node acts.Nothing = true
crashes_at_node (acts.Down inc) = true
crashes_at_node act = false

-- of a start: a boot begins, and ends
abbrev pub starts_at_node : NodeAct → Bool
starts_at_node acts.Nothing = true
starts_at_node (acts.Booting inc) = true
starts_at_node (acts.Boot inc commits) = true
starts_at_node (acts.BootStopped inc) = true
starts_at_node act = false

-- of a put, an announcement, a delivery, a local round, and a collection, which speaks to no node but of give-ups
abbrev pub puts_at_node : NodeAct → Bool
puts_at_node acts.Nothing = true
puts_at_node (acts.Put a key value) = true
puts_at_node act = false

abbrev pub announces_at_node : NodeAct → Bool
announces_at_node acts.Nothing = true
announces_at_node (acts.Announce kept pruned) = true
announces_at_node act = false

abbrev pub delivers_at_node : NodeAct → Bool
delivers_at_node acts.Nothing = true
delivers_at_node (acts.Learn commits) = true
delivers_at_node act = false

abbrev pub drops_at_node : NodeAct → Bool
drops_at_node acts.Nothing = true
drops_at_node (acts.Drop ids) = true
drops_at_node act = false

abbrev pub collects_at_node : NodeAct → Bool
collects_at_node (acts.GiveUp id) = true
collects_at_node act = false

abbrev pub makes_at_node : Command → NodeAct → Bool
makes_at_node (commands.Begin uuid node) act = begins_at_node act
makes_at_node (commands.Forget uuid node) act = forgets_at_node act
makes_at_node (commands.Put key value) act = puts_at_node act
makes_at_node (commands.Get key) act = gets_at_node act
makes_at_node commands.Commit act = commits_at_node act
makes_at_node commands.Abort act = aborts_at_node act
makes_at_node (commands.Crash node) act = crashes_at_node act
makes_at_node (commands.Start node) act = starts_at_node act
makes_at_node (commands.Announce node) act = announces_at_node act
makes_at_node (commands.Deliver node) act = delivers_at_node act
makes_at_node (commands.Local node) act = drops_at_node act
makes_at_node commands.Collect act = collects_at_node act
makes_at_node command act = false

-- ---- at the office

abbrev pub manages_at_office : OfficeAct → Bool
manages_at_office office_acts.Nothing = true
manages_at_office (office_acts.Round heard missed) = true
manages_at_office (office_acts.Posted ids) = true
manages_at_office act = false

abbrev pub collects_at_office : OfficeAct → Bool
collects_at_office office_acts.Nothing = true
collects_at_office office_acts.Collecting = true
collects_at_office office_acts.Collected = true
collects_at_office act = false

abbrev pub answers_at_office : OfficeAct → Bool
answers_at_office office_acts.Nothing = true
answers_at_office act = false

abbrev pub makes_at_office : Command → OfficeAct → Bool
makes_at_office commands.Manager act = manages_at_office act
makes_at_office commands.Collect act = collects_at_office act
makes_at_office (commands.Orphans key) act = answers_at_office act
makes_at_office commands.Backup act = answers_at_office act
makes_at_office command act = false

-- whether lines of a command make such a turn
abbrev pub makes : Command → Turn → Bool
makes command (AtDoor place act) = makes_at_door command act
makes command (AtNode node before entry) = makes_at_node command entry.act
makes command (AtOffice before entry) = makes_at_office command entry.act
