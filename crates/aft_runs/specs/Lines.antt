-- What the opening and each line of a client add to the histories, where lines run whole: the first number is how many entries the door's history has before it.
use Rattle.std.specs.Prelude.{ℕ, ◌+◌, true, List, [], ◌∷◌, ◌++◌, map, length, codes}
use Rattle.aft_id.specs.declared.txn_id.TxnId.{TxnId}
use Rattle.aft_keeper.specs.declared.keeper.KeeperCall.TheVariants as calls
use Rattle.aft_records.specs.declared.stored.Commit.{Commit}
use Rattle.aft_keeper.specs.declared.keeper.Pair.{Pair}
use Rattle.aft_model.specs.Attempts.{Write}
use Rattle.aft_model.specs.Membership.{Incarnation, incarnation, the_office}
use Rattle.aft_model.specs.declared.caller.Attempt.{Attempt}
use Rattle.aft_model.specs.declared.caller.By.{By}
use Rattle.aft_model.specs.declared.choice.Blocked.{Blocked}
use Rattle.aft_model.specs.declared.choice.Picked.TheVariants as picks
use Rattle.aft_model.specs.declared.door.DoorAct.TheVariants as acts
use Rattle.aft_model.specs.declared.door.DoorEntry.{DoorEntry}
use Rattle.aft_model.specs.declared.node.NodeAct.TheVariants as turns
use Rattle.aft_model.specs.declared.reply.Reply.{Reply}
use Rattle.aft_model.specs.declared.reply.Reply.TheVariants as replies
use Rattle.aft_model.specs.declared.script.Command.{Command}
use Rattle.aft_model.specs.declared.script.Command.TheVariants as commands
use Rattle.aft_histories.specs.Entries.{u, record_of, marker_of, record_pair}
use Rattle.aft_runs.specs.Words.{Writes, commit_of, record_at, version_pair, version_pairs}
use Rattle.aft_runs.specs.Works.{Work, by, at, nothing, asks}
use Rattle.aft_runs.specs.Entries.{does, stores, misses, finds, fails, lists, turn, answering}

-- ---- the opening

-- the opening's line
abbrev pub opening : By
opening = by 0 0

-- the check of a store that has these records, markers and versions
abbrev pub opens_on : List Pair → List Pair → List Pair → Work
opens_on records markers versions = record nothing {
  door = lists opening the_office (codes "c/") records ∷ lists opening the_office (codes "r/") markers ∷ map (finds opening the_office) versions ++ does opening acts.Opened ∷ [];
}

-- the check of an empty store
abbrev pub opens : Work
opens = opens_on [] [] []

-- the boot of an incarnation, which is shown these records, and serves with these commits
abbrev pub boots_on : ℕ → By → ℕ → ℕ → List Pair → List Commit → Work
boots_on front who node inc records commits = record nothing {
  door = does who (acts.Up node inc) ∷ lists who (incarnation node inc) (codes "c/") records ∷ [];
  nodes = at node (turn front who (turns.Booting inc) ∷ answering (front + 2) who (turns.Boot inc commits) (replies.Started node inc) ∷ []);
}

-- the same where it is shown the records of these commits, which the first incarnation of node 1 wrote
abbrev pub boots : ℕ → By → ℕ → ℕ → List Commit → Work
boots front who node inc commits = boots_on front who node inc (map record_pair commits) commits

-- ---- the lines of a transaction

-- an attempt, by its numbers, and the incarnation that it is of
abbrev pub attempt : ℕ → ℕ → ℕ → Attempt
attempt node inc number = record { node = node; inc = inc; number = number }

abbrev pub caller_of : Attempt → Incarnation
caller_of own = incarnation own.node own.inc

-- its release of a UUID
abbrev pub releases : By → Attempt → List ℕ → DoorEntry
releases who own uuid = does who (acts.Release uuid own.node own.inc)

-- an attempt begins the transaction of a UUID that is unused
abbrev pub begins : ℕ → By → Attempt → ℕ → Work
begins front who own n = record (asks who (commands.Begin (u n) own.node)) {
  door = does who (acts.Claim (u n) own.node own.inc) ∷ misses who (caller_of own) (record_of n) ∷ misses who (caller_of own) (marker_of n) ∷ [];
  nodes = at own.node (turn front who (turns.Admit own (u n)) ∷ answering (front + 3) who (turns.Begin own) (replies.Begun (u n)) ∷ []);
}

-- it puts a value
abbrev pub puts : ℕ → By → Attempt → Write → Work
puts front who own w = record (asks who (commands.Put w.key w.value)) {
  nodes = at own.node (answering front who (turns.Put own w.key w.value) replies.Stored ∷ []);
}

-- it gets a key that is absent
abbrev pub gets_absent : ℕ → By → Attempt → List ℕ → Work
gets_absent front who own key = record (asks who (commands.Get key)) {
  nodes = at own.node (answering front who (turns.Select own key picks.Absent) replies.Absent ∷ []);
}

-- it gets a key of which each version is blocked
abbrev pub gets_blocked : ℕ → By → Attempt → List ℕ → List Blocked → Work
gets_blocked front who own key blocked = record (asks who (commands.Get key)) {
  nodes = at own.node (answering front who (turns.Select own key (picks.NoneFits blocked)) (replies.NoValidVersion blocked) ∷ []);
}

-- it gets a key, and fetches the version that was picked
abbrev pub fetches : ℕ → By → Attempt → TxnId → Write → Work
fetches front who own id w = record (asks who (commands.Get w.key)) {
  door = finds who (caller_of own) (version_pair id w) ∷ [];
  nodes = at own.node (turn front who (turns.Select own w.key (picks.Fetch id)) ∷ answering (front + 1) who (turns.Value own w.key id front true) (replies.Value id w.value) ∷ []);
}

-- it gets a key of which the node has kept the version that was picked
abbrev pub gets_kept : ℕ → By → Attempt → TxnId → Write → Work
gets_kept front who own id w = record (asks who (commands.Get w.key)) {
  nodes = at own.node (answering front who (turns.Select own w.key (picks.Cached id w.value)) (replies.Value id w.value) ∷ []);
}

-- the record of what it wrote
abbrev pub own_record : Attempt → Writes → Pair
own_record own wrote = record_at own.node own.inc wrote

-- it commits what it wrote
abbrev pub commits : ℕ → By → Attempt → Writes → Work
commits front who own wrote = record (asks who commands.Commit) {
  door = map (stores who (caller_of own)) (version_pairs wrote ++ own_record own wrote ∷ []) ++ releases who own wrote.id.uuid ∷ [];
  nodes = at own.node (turn front who (turns.Start own 1000 (commit_of wrote))
      ∷ turn (front + length wrote.each + 1) who (turns.Stored own (commit_of wrote))
      ∷ answering (front + length wrote.each + 2) who (turns.End own) (replies.Committed wrote.id) ∷ []);
}

-- its versions are stored, and then the put of the record fails, and the get of it too
abbrev pub doubts : ℕ → By → Attempt → Writes → Work
doubts front who own wrote = record (asks who commands.Commit) {
  door = map (stores who (caller_of own)) (version_pairs wrote)
      ++ fails who (caller_of own) (calls.Put (own_record own wrote).name (own_record own wrote).bytes)
      ∷ fails who (caller_of own) (calls.Get (own_record own wrote).name) ∷ [];
  nodes = at own.node (turn front who (turns.Start own 1000 (commit_of wrote))
      ∷ answering (front + length wrote.each + 2) who (turns.Doubt own) replies.InDoubt ∷ []);
}

-- the commit in doubt is tried again, and its record is found
abbrev pub settles : ℕ → By → Attempt → Writes → Work
settles front who own wrote = record (asks who commands.Commit) {
  door = finds who (caller_of own) (own_record own wrote) ∷ releases who own wrote.id.uuid ∷ [];
  nodes = at own.node (turn front who (turns.Settle own)
      ∷ turn (front + 1) who (turns.Stored own (commit_of wrote))
      ∷ answering (front + 2) who (turns.End own) (replies.Committed wrote.id) ∷ []);
}

-- it commits, and has written nothing
abbrev pub leaves : ℕ → By → Attempt → ℕ → Work
leaves front who own n = record (asks who commands.Commit) {
  door = releases who own (u n) ∷ [];
  nodes = at own.node (turn front who (turns.Leave own) ∷ answering (front + 1) who (turns.End own) replies.Ended ∷ []);
}

-- it is aborted
abbrev pub aborts : ℕ → By → Attempt → ℕ → Work
aborts front who own n = record (asks who commands.Abort) {
  door = releases who own (u n) ∷ [];
  nodes = at own.node (turn front who (turns.Leave own) ∷ answering (front + 1) who (turns.End own) replies.Aborted ∷ []);
}

-- ---- any line

-- a line does nothing at a node, and answers this
abbrev pub only_answers : ℕ → By → ℕ → Command → Reply → Work
only_answers front who node command reply = record (asks who command) { nodes = at node (answering front who turns.Nothing reply ∷ []) }

-- ---- crashes

-- an incarnation crashes
abbrev pub crashes : ℕ → By → ℕ → ℕ → Work
crashes front who node inc = record (asks who (commands.Crash node)) {
  door = does who (acts.Fence node inc) ∷ [];
  nodes = at node (answering (front + 1) who (turns.Down inc) (replies.Crashed node inc) ∷ []);
}

-- an incarnation starts, and is shown these records, and serves with these commits
abbrev pub starts_on : ℕ → By → ℕ → ℕ → List Pair → List Commit → Work
starts_on front who node inc records commits = record (boots_on front who node inc records commits) { lines = (asks who (commands.Start node)).lines }

-- the same where it is shown the records of these commits, which the first incarnation of node 1 wrote
abbrev pub starts : ℕ → By → ℕ → ℕ → List Commit → Work
starts front who node inc shown = starts_on front who node inc (map record_pair shown) shown
