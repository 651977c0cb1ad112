-- Lines as they ran, each with the cause of its reply, and lines that lack it.
use Rattle.std.specs.Prelude.{ℕ, List, [], ◌∷◌, ◌++◌, map, codes, Some}
use Rattle.std.specs.List.{range_with_len}
use Rattle.aft_id.specs.TxnId.{zero_id}
use Rattle.aft_keeper.specs.declared.keeper.KeeperAnswer.{KeeperAnswer}
use Rattle.aft_keeper.specs.declared.keeper.KeeperAnswer.TheVariants.{Failed, Absent, Done}
use Rattle.aft_keeper.specs.declared.keeper.KeeperCall.TheVariants.{Scan}
use Rattle.aft_records.specs.declared.stored.Commit.{Commit}
use Rattle.aft_model.specs.declared.choice.Blocked.{Blocked}
use Rattle.aft_model.specs.declared.choice.Picked.TheVariants as picked
use Rattle.aft_model.specs.declared.door.DoorAct.TheVariants as door
use Rattle.aft_model.specs.declared.door.DoorEntry.{DoorEntry}
use Rattle.aft_model.specs.declared.node.NodeAct.TheVariants as node
use Rattle.aft_model.specs.declared.node.NodeEntry.{NodeEntry}
use Rattle.aft_model.specs.declared.reply.Reply.TheVariants as reply
use Rattle.aft_model.specs.declared.script.Command.TheVariants as ask
use Rattle.aft_lines.specs.Asked.{Ran}
use Rattle.aft_lines.specs.LineView.{LineView}
use Rattle.aft_histories.specs.Entries.{u, id_of, x, y, record_of, version_of, record_pair, version_pair}
use Rattle.aft_runs.specs.RunLines.{did, got, put, went, told, opened, booted_1, booted_2, ran, line, holds_nothing, holds_first, attempt_at, begins, then, last, other, third, begun_door, opening_node, begun_node, put_node, only_x, started_node, version_door}

-- ---- begin

-- a begin that claimed its UUID and found neither record nor marker, and one that didn't ask for the marker
abbrev pub begun : LineView
begun = line begins (ask.Begin (u 1) 1) (holds_nothing 1) (ran begun_door begun_node booted_2 [])

abbrev pub begun_unread : LineView
begun_unread = line begins (ask.Begin (u 1) 1) (holds_nothing 1)
    (ran (opened ++ did begins (door.Claim (u 1) 1 1) ∷ got begins 1 (record_of 1) Absent ∷ []) (opening_node ++ told begins 9 (node.Begin (attempt_at 1)) (reply.Begun (u 1)) ∷ []) booted_2 [])

-- a second client begins what runs at the node
abbrev pub joined : LineView
joined = line other (ask.Begin (u 1) 1) (holds_nothing 1) (ran begun_door (begun_node ++ told other 10 node.Nothing (reply.Joined (u 1)) ∷ []) booted_2 [])

-- a begin at node 2 that went to claim a UUID at this door, and was told that node 1 holds it
abbrev pub told_busy : List DoorEntry → LineView
told_busy history = line other (ask.Begin (u 1) 2) (holds_nothing 1)
    (ran history begun_node (booted_2 ++ went other 10 (node.Admit (attempt_at 2) (u 1)) ∷ told other 11 (node.Unadmit (attempt_at 2)) (reply.Busy 1 1) ∷ []) [])

-- node 1 holds it, or has let it go before
abbrev pub busy : LineView
busy = told_busy begun_door

abbrev pub busy_with_none : LineView
busy_with_none = told_busy (opened ++ did begins (door.Claim (u 1) 1 1) ∷ did begins (door.Release (u 1) 1 1) ∷ got other 1 (record_of 2) Absent ∷ [])

-- ---- put and get

-- a put of a client that holds an attempt of node 1, and of one that holds none, with what came of it
abbrev pub putting : Ran → LineView
putting what = line last (ask.Put x (codes "hi")) holds_first what

abbrev pub putting_nothing : Ran → LineView
putting_nothing what = line last (ask.Put x (codes "hi")) (holds_nothing 1) what

-- a put that is buffered
abbrev pub ok : LineView
ok = line then (ask.Put x (codes "hi")) holds_first (ran begun_door put_node booted_2 [])

-- a put of an attempt that commits
abbrev pub committing : LineView
committing = line other (ask.Put x (codes "hi")) holds_first (ran begun_door (started_node ++ told other 10 node.Nothing reply.Committing ∷ []) booted_2 [])

-- an attempt that has put as many keys as it may, and puts one more, or one of them again
abbrev pub full_node : List NodeEntry
full_node = begun_node ++ map (λ byte. told then 10 (node.Put (attempt_at 1) (byte ∷ []) (codes "hi")) reply.Stored) (range_with_len 33 32)

abbrev pub putting_more : List ℕ → LineView
putting_more key = line last (ask.Put key (codes "hi")) holds_first (ran begun_door (full_node ++ told last 10 node.Nothing reply.TooManyKeys ∷ []) booted_2 [])

-- a key that nobody puts
abbrev pub z : List ℕ
z = codes "z"

-- a commit of y and z, which node 1 takes in
abbrev pub both : Commit
both = record { id = id_of 2000 2; keys = y ∷ z ∷ [] }

abbrev pub takes_in : Commit → NodeEntry
takes_in c = told other 10 (node.Learn (c ∷ [])) (reply.Learned 1 0 0)

-- a get of a key at node 1, after what is done there, with what it was shown and its own turns
abbrev pub getting : List ℕ → List DoorEntry → List NodeEntry → LineView
getting key shown history = line last (ask.Get key) holds_first (ran (begun_door ++ shown) history booted_2 [])

-- a get of a key that nobody wrote, and of one that the attempt put
abbrev pub absent : LineView
absent = getting y [] (begun_node ++ told last 10 (node.Select (attempt_at 1) y picked.Absent) reply.Absent ∷ [])

abbrev pub own : LineView
own = getting x [] (put_node ++ told last 10 (node.Select (attempt_at 1) x (picked.Own (codes "hi"))) (reply.Own (codes "hi")) ∷ [])

-- the bytes of its version of y
abbrev pub version_bytes : List ℕ
version_bytes = (version_pair y both.id).bytes

-- a get of y that fetches the version of that commit, and what its fetch was answered
abbrev pub fetching : KeeperAnswer → LineView
fetching answer = getting y (got last 1 (version_of y both.id) answer ∷ [])
    (begun_node ++ takes_in both ∷ went last 10 (node.Select (attempt_at 1) y (picked.Fetch both.id)) ∷ told last 11 (node.Lost (attempt_at 1) y both.id) reply.StoreFault ∷ [])

-- why that version doesn't fit where z was read as absent
abbrev pub blockers : List Blocked
blockers = record { id = both.id; key = z; read = zero_id } ∷ []

-- a commit while that fetch isn't over
abbrev pub open_read : LineView
open_read = line third ask.Commit holds_first (ran begun_door (begun_node ++ takes_in both ∷ went last 10 (node.Select (attempt_at 1) y (picked.Fetch both.id)) ∷ told third 10 node.Nothing (reply.OpenReads 1) ∷ []) booted_2 [])

-- a get of y after z was read as absent: that version doesn't fit
abbrev pub blocked : LineView
blocked = getting y [] (begun_node ++ told then 10 (node.Select (attempt_at 1) z picked.Absent) reply.Absent ∷ takes_in both ∷ told last 10 (node.Select (attempt_at 1) y (picked.NoneFits blockers)) (reply.NoValidVersion blockers) ∷ [])

-- ---- commit and abort

-- a commit at node 1, with what it did at the door after its version was stored, and its turns at the node after its first
abbrev pub storing : List DoorEntry → List NodeEntry → LineView
storing did_there turns = line last ask.Commit holds_first (ran (version_door ++ did_there) (started_node ++ turns) booted_2 [])

-- its turns where the record was stored
abbrev pub learned_of : List NodeEntry
learned_of = went last 12 (node.Stored (attempt_at 1) only_x) ∷ told last 13 (node.End (attempt_at 1)) (reply.Committed only_x.id) ∷ []

-- its record is put, or nothing is
abbrev pub committed : LineView
committed = storing (put last 1 (record_pair only_x) Done ∷ did last (door.Release (u 1) 1 1) ∷ []) learned_of

abbrev pub unrecorded : LineView
unrecorded = storing (did last (door.Release (u 1) 1 1) ∷ []) learned_of

-- the put of its record fails, and a get settles it
abbrev pub settling : KeeperAnswer → LineView
settling answer = storing (put last 1 (record_pair only_x) Failed ∷ got last 1 (record_of 1) answer ∷ []) (told last 13 (node.Doubt (attempt_at 1)) reply.InDoubt ∷ [])

-- another commit of that transaction
abbrev pub another_x : Commit
another_x = record { id = id_of 1001 1; keys = x ∷ [] }

-- a commit of an attempt that has put nothing, and an abort
abbrev pub leaving : LineView
leaving = line last ask.Commit holds_first (ran begun_door (begun_node ++ went last 10 (node.Leave (attempt_at 1)) ∷ told last 10 (node.End (attempt_at 1)) reply.Ended ∷ []) booted_2 [])

abbrev pub aborting : LineView
aborting = line last ask.Abort holds_first (ran begun_door (put_node ++ went last 10 (node.Leave (attempt_at 1)) ∷ told last 10 (node.End (attempt_at 1)) reply.Aborted ∷ []) booted_2 [])

-- a commit of x where the node knows a commit of x of this time
abbrev pub over_time : ℕ → LineView
over_time time = line last ask.Commit holds_first
    (ran begun_door (put_node ++ takes_in (record { id = id_of time 2; keys = x ∷ [] }) ∷ told last 10 node.Nothing reply.ClockEnd ∷ []) booted_2 [])

-- ---- crash and start

-- node 1 is fenced by the second client's line
abbrev pub fenced_door : List DoorEntry
fenced_door = opened ++ did other (door.Fence 1 1) ∷ []

abbrev pub down_1 : List NodeEntry
down_1 = booted_1 ++ told other 8 (node.Down 1) (reply.Crashed 1 1) ∷ []

-- the second client's crash of node 1
abbrev pub crashed : LineView
crashed = line other (ask.Crash 1) (holds_nothing 1) (ran fenced_door down_1 booted_2 [])

-- a crash of node 1 that fences nothing
abbrev pub crashing_again : List DoorEntry → List NodeEntry → ℕ → LineView
crashing_again history before front = line last (ask.Crash 1) (holds_nothing 1) (ran history (before ++ told last front node.Nothing (reply.NotUp 1) ∷ []) booted_2 [])

-- after the crash, and where the node is up all the time
abbrev pub not_up : LineView
not_up = crashing_again fenced_door down_1 8

abbrev pub not_up_while_up : LineView
not_up_while_up = crashing_again opened booted_1 7

-- after the crash and a start, where the client's answer before came behind the start, and where it came before the crash
abbrev pub restarted_door : List DoorEntry
restarted_door = fenced_door ++ did then (door.Up 1 2) ∷ []

abbrev pub not_up_since : ℕ → LineView
not_up_since front = record (crashing_again restarted_door down_1 9) { since = front }

-- where lines run whole, what the crash has seen decides
abbrev pub not_up_whole : LineView
not_up_whole = record (not_up_since 7) { before = Some (other ∷ then ∷ []) }

-- a start of node 1 after the crash, with what its scan showed
abbrev pub starting : KeeperAnswer → LineView
starting answer = line last (ask.Start 1) (holds_nothing 1)
    (ran (fenced_door ++ did last (door.Up 1 2) ∷ did last (door.Call 1 2 (Scan (codes "c/") [] 64) answer) ∷ [])
    (down_1 ++ went last 8 (node.Booting 2) ∷ told last 10 (node.Boot 2 []) (reply.Started 1 2) ∷ []) booted_2 [])

-- a start of node 1, which serves
abbrev pub starting_again : LineView
starting_again = line last (ask.Start 1) (holds_nothing 1) (ran opened (booted_1 ++ told last 7 node.Nothing (reply.IsUp 1 1) ∷ []) booted_2 [])

-- a start of node 1 while it boots, where a boot runs and where it was stopped
abbrev pub starting_beside : List NodeEntry → LineView
starting_beside stopped = line last (ask.Start 1) (holds_nothing 1) (ran fenced_door (down_1 ++ went other 8 (node.Booting 2) ∷ stopped ++ told last 8 node.Nothing (reply.IsBooting 1 2) ∷ []) booted_2 [])

abbrev pub stopped_boot : List NodeEntry
stopped_boot = told other 8 (node.BootStopped 2) reply.StoreFault ∷ []

-- a get whose fetch was refused, since the incarnation was fenced before; the node has not gone down
abbrev pub shut_out : LineView
shut_out = getting y (did other (door.Fence 1 1) ∷ [])
    (begun_node ++ takes_in both ∷ went last 10 (node.Select (attempt_at 1) y (picked.Fetch both.id)) ∷ told last 11 (node.Lost (attempt_at 1) y both.id) (reply.NodeDown 1 1) ∷ [])

-- what came of a put, which makes no calls, at the same time
abbrev pub fenced_only : Ran
fenced_only = ran fenced_door (booted_1 ++ told last 8 node.Nothing (reply.NodeDown 1 1) ∷ []) booted_2 []

-- what came of a line that tells that node 1 is down: after the crash, and where it serves
abbrev pub told_down : Ran
told_down = ran fenced_door (down_1 ++ told last 8 node.Nothing (reply.NodeDown 1 1) ∷ []) booted_2 []

abbrev pub told_down_while_up : Ran
told_down_while_up = ran opened (booted_1 ++ told last 7 node.Nothing (reply.NodeDown 1 1) ∷ []) booted_2 []
