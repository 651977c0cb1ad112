-- Runs of an upgrade over a store with one commit, and others, which do it otherwise.
use Rattle.std.specs.Prelude.{◌≡◌, Bool, false, not, List, [], ◌∷◌, ◌++◌, filter, map}
use Rattle.aft_keeper.specs.declared.keeper.KeeperCall.TheVariants as calls
use Rattle.aft_keeper.specs.declared.keeper.Pair.{Pair}
use Rattle.aft_lines.specs.Asked.{Ran}
use Rattle.aft_lines.specs.RefusedTrace.{only_opens}
use Rattle.aft_lines.specs.UpgradeTrace.{only_at_door, upgrades_in_order}
use Rattle.aft_model.specs.Bytes.{has_bytes}
use Rattle.aft_model.specs.LegalDoor.{is_legal}
use Rattle.aft_model.specs.Membership.{the_office}
use Rattle.aft_model.specs.declared.caller.By.{By}
use Rattle.aft_model.specs.declared.door.DoorAct.TheVariants as acts
use Rattle.aft_model.specs.declared.door.DoorEntry.{DoorEntry}
use Rattle.aft_histories.specs.Entries.{old_record, upgraded_pair}
use Rattle.aft_runs.specs.Entries.{does, fails, finds, misses, stores}
use Rattle.aft_runs.specs.Lines.{opening, opens_on}
use Rattle.aft_runs.specs.Pinned.{older, newer}
use Rattle.aft_runs.specs.Reads.{x_hi}
use Rattle.aft_runs.specs.Words.{Writes, commit_of, version_pairs}
use Rattle.aft_runs.specs.Works.{by}

-- the parts of a run of an upgrade, named as it names them
pub data UpgradePart : Type 0 where
  Bytes : UpgradePart
  Door : UpgradePart
  NoLine : UpgradePart
  Others : UpgradePart
  Course : UpgradePart

-- whether a part holds of what came of a run
abbrev pub holds : UpgradePart → Ran → Bool
holds Bytes ran = has_bytes ran.trace.door
holds Door ran = is_legal ran.trace.door
holds NoLine ran = only_opens ran
holds Others ran = only_at_door ran
holds Course ran = upgrades_in_order false ran

-- those that a run breaks, in this order
abbrev pub broken : Ran → List UpgradePart
broken ran = filter (λ part. not (holds part ran)) (Bytes ∷ Door ∷ NoLine ∷ Others ∷ Course ∷ [])

-- a run that these parts of an upgrade refuse, and no others
abbrev pub NoUpgradeBy : List UpgradePart → Ran → Type 0
NoUpgradeBy refusing ran = broken ran ≡ refusing

-- a store whose record is this is opened, and this is done at the door
abbrev pub upgrades : Pair → List DoorEntry → Ran
upgrades shown done = record {
  trace = record { door = (opens_on (shown ∷ []) [] (version_pairs x_hi)).door ++ done; nodes = []; office = [] };
  mail = [];
}

-- the record in the first format, and in the second as the office writes it
abbrev pub old : Pair
old = old_record (commit_of x_hi)

abbrev pub new : Pair
new = upgraded_pair (commit_of x_hi)

-- the office gets a record, and puts one
abbrev pub gets : Pair → DoorEntry
gets pair = finds opening the_office pair

abbrev pub puts : Pair → DoorEntry
puts pair = stores opening the_office pair

-- an old record is put in the second format
abbrev pub upgraded : Ran
upgraded = upgrades old (gets old ∷ puts new ∷ [])

-- it is got, and the run ends
abbrev pub cut_short : Ran
cut_short = upgrades old (gets old ∷ [])

-- a record of the second format is left
abbrev pub nothing_old : Ran
nothing_old = upgrades new (gets new ∷ [])

-- it is put again
abbrev pub upgraded_again : Ran
upgraded_again = upgrades new (gets new ∷ puts new ∷ [])

-- an old record is put in the first format
abbrev pub put_as_it_was : Ran
put_as_it_was = upgrades old (gets old ∷ puts old ∷ [])

-- behind the upgrade a node comes up, for the opening or for a line
abbrev pub node_up_by : By → Ran
node_up_by who = upgrades old (gets old ∷ puts new ∷ does who (acts.Up 1 1) ∷ [])

abbrev pub a_line : By
a_line = by 1 1

-- ---- an upgrade that stops

-- the get of the record fails, or shows none; or the put of it fails
abbrev pub fails_get : Ran
fails_get = upgrades old (fails opening the_office (calls.Get old.name) ∷ [])

abbrev pub finds_no_record : Ran
finds_no_record = upgrades old (misses opening the_office old.name ∷ [])

abbrev pub fails_put : Pair → DoorEntry
fails_put pair = fails opening the_office (calls.Put pair.name pair.bytes)

abbrev pub put_failed : Ran
put_failed = upgrades old (gets old ∷ fails_put new ∷ [])

-- ---- two records

-- a store with two old records is opened, and this is done
abbrev pub upgrades_two : List DoorEntry → Ran
upgrades_two done = record {
  trace = record { door = (opens_on (map old_record (commit_of older ∷ commit_of newer ∷ [])) [] (version_pairs older ++ version_pairs newer)).door ++ done; nodes = []; office = [] };
  mail = [];
}

-- the record of a commit is upgraded
abbrev pub upgrades_one : Writes → List DoorEntry
upgrades_one wrote = gets (old_record (commit_of wrote)) ∷ puts (upgraded_pair (commit_of wrote)) ∷ []

-- the put of the first one fails, and the office goes on
abbrev pub goes_on : Ran
goes_on = upgrades_two (gets (old_record (commit_of older)) ∷ fails_put (upgraded_pair (commit_of older)) ∷ upgrades_one newer)
