-- Lines of rounds as they ran: collections, announcements and rounds of the manager.
use Rattle.std.specs.Prelude.{ℕ, List, [], ◌∷◌, ◌++◌, codes, Some, None}
use Rattle.aft_keeper.specs.declared.keeper.KeeperAnswer.TheVariants.{Failed, Done, Page}
use Rattle.aft_keeper.specs.declared.keeper.KeeperCall.TheVariants.{Delete, Scan}
use Rattle.aft_model.specs.declared.choice.Picked.TheVariants as picked
use Rattle.aft_model.specs.declared.door.DoorAct.TheVariants as door
use Rattle.aft_model.specs.declared.door.DoorEntry.{DoorEntry}
use Rattle.aft_model.specs.declared.mail.MailAct.TheVariants.{Post}
use Rattle.aft_model.specs.declared.mail.MailEntry.{MailEntry}
use Rattle.aft_model.specs.declared.node.NodeAct.TheVariants as node
use Rattle.aft_model.specs.declared.node.NodeEntry.{NodeEntry}
use Rattle.aft_model.specs.declared.office.OfficeAct.TheVariants as office
use Rattle.aft_model.specs.declared.office.OfficeEntry.{OfficeEntry}
use Rattle.aft_model.specs.declared.reply.Reply.{Reply}
use Rattle.aft_model.specs.declared.reply.Reply.TheVariants as reply
use Rattle.aft_model.specs.declared.reply.Verdict.{Verdict}
use Rattle.aft_model.specs.declared.script.Command.TheVariants as ask
use Rattle.aft_model.specs.declared.caller.By.{By}
use Rattle.aft_lines.specs.Asked.{Ran}
use Rattle.aft_lines.specs.LineView.{LineView}
use Rattle.aft_model.specs.Opening.{opening}
use Rattle.aft_histories.specs.Entries.{u, x, y, first, second, record_of, version_of, record_pair, full_pair, done_pair}
use Rattle.aft_runs.specs.RunLines.{did, put, called, went, told, opened, booted_2, ran, line, holds_nothing, attempt_at, begins, then, last, other, begun_door, put_node, only_x}

-- ---- collections of a store that has the first commit and the second, which supersedes it

-- what a collection is shown: both records, and no marker
abbrev pub scans : List DoorEntry
scans = called last 0 (Scan (codes "c/") [] 64) (Page (record_pair first ∷ record_pair second ∷ [])) ∷ called last 0 (Scan (codes "r/") [] 64) (Page []) ∷ []

-- a node that its boot showed both, so that it knows the second alone
abbrev pub knows_second : ℕ → List NodeEntry
knows_second number = went opening 3 (node.Booting 1) ∷ told opening 5 (node.Boot 1 (first ∷ second ∷ [])) (reply.Started number 1) ∷ []

-- node 1 knows both, and an attempt of it has read the first
abbrev pub reads_first : List NodeEntry
reads_first = went opening 3 (node.Booting 1) ∷ told opening 5 (node.Boot 1 (first ∷ [])) (reply.Started 1 1)
    ∷ went begins 7 (node.Admit (attempt_at 1) (u 9)) ∷ told begins 7 (node.Begin (attempt_at 1)) (reply.Begun (u 9))
    ∷ went then 7 (node.Select (attempt_at 1) x (picked.Fetch first.id)) ∷ told other 7 (node.Learn (second ∷ [])) (reply.Learned 1 0 0) ∷ []

-- the give-up of the first at a node, and at the door
abbrev pub node_gives_up : By → ℕ → NodeEntry
node_gives_up by front = went by front (node.GiveUp first.id)

abbrev pub gives_up : By → ℕ → DoorEntry
gives_up by number = did by (door.GiveUp number 1 first.id)

-- the office's turns of a collection, with how much it had seen at the door at first and at last, and its answer
abbrev pub at_office : ℕ → ℕ → Reply → List OfficeEntry
at_office from to answer = record { front = from; by = last; act = office.Collecting; answer = None } ∷ record { front = to; by = last; act = office.Collected; answer = Some answer } ∷ []

-- what is answered of the first commit
abbrev pub judges : Verdict → Reply
judges verdict = reply.Collected (record { id = first.id; verdict = verdict } ∷ [])

-- a collection
abbrev pub collects : Ran → LineView
collects what = line last ask.Collect (holds_nothing 1) what

-- node 1 may not give the first up, since an attempt has read it; node 2 does
abbrev pub held_by_reader : LineView
held_by_reader = collects (ran (opened ++ scans ++ gives_up last 2 ∷ []) reads_first (knows_second 2 ++ node_gives_up last 9 ∷ []) (at_office 7 10 (reply.Collected [])))

-- both nodes have given it up before the collection begins
abbrev pub given_up_before : LineView
given_up_before = collects (ran (opened ++ gives_up other 1 ∷ gives_up other 2 ∷ scans)
    (knows_second 1 ++ node_gives_up other 7 ∷ []) (knows_second 2 ++ node_gives_up other 8 ∷ []) (at_office 9 11 (reply.Collected [])))

-- no node is asked, though each would give it up
abbrev pub nobody_asked : LineView
nobody_asked = collects (ran (opened ++ scans) (knows_second 1) (knows_second 2) (at_office 7 9 (reply.Collected [])))

-- both nodes give it up, it is marked, and its data is deleted, the record with this answer
abbrev pub retires : List DoorEntry → LineView
retires deleted = collects (ran (opened ++ scans ++ gives_up last 1 ∷ gives_up last 2 ∷ called_mark ∷ deleted)
    (knows_second 1 ++ node_gives_up last 9 ∷ []) (knows_second 2 ++ node_gives_up last 10 ∷ []) (at_office 7 20 (reply.Collected [])))
  where
    called_mark : DoorEntry
    called_mark = put last 0 (full_pair first) Done

-- all of it is deleted, or the delete of its record fails
abbrev pub deleted_all : List DoorEntry
deleted_all = called last 0 (Delete (record_of 1)) Done ∷ called last 0 (Delete (version_of x first.id)) Done ∷ called last 0 (Delete (version_of y first.id)) Done ∷ put last 0 (done_pair first.id) Done ∷ []

abbrev pub delete_failed : List DoorEntry
delete_failed = called last 0 (Delete (record_of 1)) Failed ∷ []

-- a collection beside another
abbrev pub beside_another : LineView
beside_another = collects (ran opened (knows_second 1) (knows_second 2)
    (record { front = 7; by = other; act = office.Collecting; answer = None } ∷ record { front = 7; by = last; act = office.Nothing; answer = Some reply.Collecting } ∷ []))

-- ---- announcements and the manager

-- what a run did at the boxes besides
abbrev pub with_mail : List (List MailEntry) → Ran → Ran
with_mail mail what = record { trace = what.trace; mail = mail }

-- a post of an announcement, of which the box took so many
abbrev pub posts : ℕ → MailEntry
posts taken = record { by = other; act = Post (only_x.id ∷ []) taken }

-- node 1 announces a commit, and the box of node 2 is full
abbrev pub announces : LineView
announces = line other (ask.Announce 1) (holds_nothing 1)
    (with_mail ((posts 1 ∷ []) ∷ [] ∷ (posts 0 ∷ []) ∷ [])
    (ran begun_door (put_node ++ went other 10 (node.Announce (only_x ∷ []) []) ∷ told other 10 node.Nothing (reply.Announced 1 0 1) ∷ []) booted_2 []))

-- a round of the manager, that heard of the first commit and missed the second
abbrev pub manages : LineView
manages = line last ask.Manager (holds_nothing 1) (ran opened (knows_second 1) (knows_second 2)
    (record { front = 7; by = last; act = office.Round (first ∷ []) (second ∷ []); answer = None } ∷ record { front = 7; by = last; act = office.Posted (second.id ∷ []); answer = Some (reply.Managed 1 1) } ∷ []))
