-- Runs in which a node crashes between the puts of a commit, which is begun again at another node, or in a get; and such runs in which what is done behind the crash is left open.
use Rattle.std.specs.Prelude.{◌+◌, List, [], ◌∷◌, codes, length}
use Rattle.aft_model.specs.Membership.{incarnation}
use Rattle.aft_model.specs.declared.door.DoorEntry.{DoorEntry}
use Rattle.aft_model.specs.declared.choice.Picked.TheVariants as picks
use Rattle.aft_model.specs.declared.node.NodeAct.{NodeAct}
use Rattle.aft_model.specs.declared.node.NodeAct.TheVariants as turns
use Rattle.aft_model.specs.declared.reply.Reply.{Reply}
use Rattle.aft_model.specs.declared.reply.Reply.TheVariants as replies
use Rattle.aft_model.specs.declared.script.Command.TheVariants as commands
use Rattle.aft_histories.specs.Entries.{x, y}
use Rattle.aft_runs.specs.Entries.{stores, finds, turn, answering}
use Rattle.aft_runs.specs.Lines.{opening, opens, boots, attempt, begins, puts, gets_absent, fetches, commits, crashes}
use Rattle.aft_runs.specs.Reads.{x_hi, both}
use Rattle.aft_runs.specs.Words.{Writes, write, writes, hi, a, b, commit_of, version_pair}
use Rattle.aft_runs.specs.Works.{Work, Run, run, ordered, whole, step, by, at, nodes, nothing, asks}

-- a commit of x and y is fixed, and the version of x is stored
abbrev pub stores_one : Work
stores_one = record (asks (by 1 4) commands.Commit) {
  door = stores (by 1 4) (incarnation 1 1) (version_pair both.id (write x a)) ∷ [];
  nodes = at 1 (turn 10 (by 1 4) (turns.Start (attempt 1 1 1) 1000 (commit_of both)) ∷ []);
}

-- it does this at the door, and answers that the node is down
abbrev pub finds_down : List DoorEntry → Work
finds_down last = record nothing { door = last; nodes = at 1 (answering (12 + length last) (by 1 4) turns.Nothing (replies.NodeDown 1 1) ∷ []) }

-- the version of y is stored
abbrev pub stores_other : List DoorEntry
stores_other = stores (by 1 4) (incarnation 1 1) (version_pair both.id (write y b)) ∷ []

-- the node crashes between the puts of a commit, which does this then; and this is done besides
abbrev pub crashes_between : List DoorEntry → List Work → Run
crashes_between last later = ordered (whole 1 ∷ whole 1 ∷ whole 1 ∷ step 1 ∷ step 1 ∷ whole 2 ∷ []) (run (nodes 2) (
    opens
    ∷ boots 3 opening 1 1 []
    ∷ boots 5 opening 2 1 []
    ∷ begins 7 (by 1 1) (attempt 1 1 1) 1
    ∷ puts 10 (by 1 2) (attempt 1 1 1) (write x a)
    ∷ puts 10 (by 1 3) (attempt 1 1 1) (write y b)
    ∷ stores_one
    ∷ crashes 11 (by 2 5) 1 1
    ∷ finds_down last
    ∷ later))

-- what is written under the same UUID at the other node: x alone
abbrev pub x_nine : Writes
x_nine = writes 1000 1 (write x (codes "9") ∷ [])

-- the transaction is begun again at the other node, and writes x alone; another reads that, and finds y absent
abbrev pub crash_between_versions : Run
crash_between_versions = crashes_between [] (
    begins 12 (by 1 6) (attempt 2 1 1) 1
    ∷ puts 15 (by 1 7) (attempt 2 1 1) (write x (codes "9"))
    ∷ commits 15 (by 1 8) (attempt 2 1 1) x_nine
    ∷ begins 18 (by 2 9) (attempt 2 1 2) 2
    ∷ fetches 21 (by 2 10) (attempt 2 1 2) x_nine.id (write x (codes "9"))
    ∷ gets_absent 22 (by 2 11) (attempt 2 1 2) y ∷ [])

-- ---- a crash while a version is fetched

-- while a transaction's get of x is under way, which has done this at the door, its node crashes; and the get does that and ends so
abbrev pub crashes_in_get : List DoorEntry → List DoorEntry → NodeAct → Reply → Run
crashes_in_get earlier later act reply = ordered (whole 1 ∷ whole 1 ∷ whole 1 ∷ whole 1 ∷ step 1 ∷ whole 2 ∷ whole 1 ∷ []) (run (nodes 1) (
    opens
    ∷ boots 3 opening 1 1 []
    ∷ begins 5 (by 1 1) (attempt 1 1 1) 1
    ∷ puts 8 (by 1 2) (attempt 1 1 1) (write x hi)
    ∷ commits 8 (by 1 3) (attempt 1 1 1) x_hi
    ∷ begins 11 (by 1 4) (attempt 1 1 2) 2
    ∷ record (asks (by 1 5) (commands.Get x)) { door = earlier; nodes = at 1 (turn 14 (by 1 5) (turns.Select (attempt 1 1 2) x (picks.Fetch x_hi.id)) ∷ []) }
    ∷ crashes (14 + length earlier) (by 2 6) 1 1
    ∷ record nothing { door = later; nodes = at 1 (answering (15 + length earlier + length later) (by 1 5) act reply ∷ []) } ∷ []))

-- its call of the store
abbrev pub fetches_it : List DoorEntry
fetches_it = finds (by 1 5) (incarnation 1 1) (version_pair x_hi.id (write x hi)) ∷ []

-- its call is made before the crash, or not at all; it finds the node down
abbrev pub crash_behind_fetch : Run
crash_behind_fetch = crashes_in_get fetches_it [] turns.Nothing (replies.NodeDown 1 1)

abbrev pub crash_before_fetch : Run
crash_before_fetch = crashes_in_get [] [] turns.Nothing (replies.NodeDown 1 1)
