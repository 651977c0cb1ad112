-- Runs in which one commit is left open: with one by the rules they are legal, and with another they are refused.
use Rattle.std.specs.Prelude.{ℕ, ◌+◌, List, [], ◌∷◌, ◌++◌, map, length}
use Rattle.aft_id.specs.declared.txn_id.TxnId.{TxnId}
use Rattle.aft_id.specs.TxnId.{zero_id}
use Rattle.aft_keeper.specs.declared.keeper.KeeperCall.TheVariants as calls
use Rattle.aft_keeper.specs.declared.keeper.Pair.{Pair}
use Rattle.aft_model.specs.Membership.{incarnation}
use Rattle.aft_model.specs.declared.door.DoorEntry.{DoorEntry}
use Rattle.aft_model.specs.declared.node.NodeAct.TheVariants as turns
use Rattle.aft_model.specs.declared.read_set.ReadPair.{ReadPair}
use Rattle.aft_model.specs.declared.reply.Reply.TheVariants as replies
use Rattle.aft_model.specs.declared.script.Command.TheVariants as commands
use Rattle.aft_histories.specs.Entries.{u, id_of, x, y, record_of, record_pair, old_record}
use Rattle.aft_runs.specs.Entries.{stores, misses, finds, fails, turn, answering}
use Rattle.aft_runs.specs.Lines.{opening, opens, boots, attempt, begins, puts, fetches, commits, releases}
use Rattle.aft_runs.specs.Reads.{x_hi}
use Rattle.aft_runs.specs.Words.{Writes, write, writes, having_read, hi, a, commit_of, record_at, version_pairs}
use Rattle.aft_runs.specs.Works.{Work, Run, run, by, at, nodes, asks}

-- a transaction has put a value of x, and commits so
abbrev pub finishes : Work → Run
finishes commit = run (nodes 1) (opens ∷ boots 3 opening 1 1 [] ∷ begins 5 (by 1 1) (attempt 1 1 1) 1 ∷ puts 8 (by 1 2) (attempt 1 1 1) (write x hi) ∷ commit ∷ [])

-- the entries of its commit at the door
abbrev pub stores_version : List DoorEntry
stores_version = map (stores (by 1 3) (incarnation 1 1)) (version_pairs x_hi)

abbrev pub stores_record : DoorEntry
stores_record = stores (by 1 3) (incarnation 1 1) (record_pair (commit_of x_hi))

abbrev pub lets_go : List DoorEntry
lets_go = releases (by 1 3) (attempt 1 1 1) (u 1) ∷ []

-- ---- what makes it committed

-- the put of the record fails, this get settles it, and the commit is answered
abbrev pub answers_behind : DoorEntry → Work
answers_behind get = record (asks (by 1 3) commands.Commit) {
  door = stores_version ++ fails (by 1 3) (incarnation 1 1) (calls.Put (record_pair (commit_of x_hi)).name (record_pair (commit_of x_hi)).bytes) ∷ get ∷ lets_go;
  nodes = at 1 (turn 8 (by 1 3) (turns.Start (attempt 1 1 1) 1000 (commit_of x_hi))
      ∷ turn 11 (by 1 3) (turns.Stored (attempt 1 1 1) (commit_of x_hi))
      ∷ answering 12 (by 1 3) (turns.End (attempt 1 1 1)) (replies.Committed x_hi.id) ∷ []);
}

-- the record is found, or nothing
abbrev pub finds_it : DoorEntry
finds_it = finds (by 1 3) (incarnation 1 1) (record_pair (commit_of x_hi))

abbrev pub finds_nothing : DoorEntry
finds_nothing = misses (by 1 3) (incarnation 1 1) (record_of 1)

-- the commit makes these puts, and is answered
abbrev pub stores_by : List DoorEntry → Work
stores_by made = record (commits 8 (by 1 3) (attempt 1 1 1) x_hi) { door = made ++ lets_go }

-- the version and then the record, or the record first
abbrev pub version_first : List DoorEntry
version_first = stores_version ++ stores_record ∷ []

abbrev pub record_first : List DoorEntry
record_first = stores_record ∷ stores_version

-- ---- the claim is let go

-- the record is stored, then this is done at the door, and the commit is answered
abbrev pub answers_after : List DoorEntry → Work
answers_after last = record (asks (by 1 3) commands.Commit) {
  door = stores_version ++ stores_record ∷ last;
  nodes = at 1 (turn 8 (by 1 3) (turns.Start (attempt 1 1 1) 1000 (commit_of x_hi))
      ∷ turn 10 (by 1 3) (turns.Stored (attempt 1 1 1) (commit_of x_hi))
      ∷ answering (10 + length last) (by 1 3) (turns.End (attempt 1 1 1)) (replies.Committed x_hi.id) ∷ []);
}

-- ---- its time

-- the commit reads this time of the clock, and commits at it
abbrev pub reads_clock : ℕ → Work
reads_clock now = record (commits 8 (by 1 3) (attempt 1 1 1) (writes now 1 (write x hi ∷ []))) {
  nodes = at 1 (turn 8 (by 1 3) (turns.Start (attempt 1 1 1) now (commit_of (writes now 1 (write x hi ∷ []))))
      ∷ turn 10 (by 1 3) (turns.Stored (attempt 1 1 1) (commit_of (writes now 1 (write x hi ∷ []))))
      ∷ answering 11 (by 1 3) (turns.End (attempt 1 1 1)) (replies.Committed (writes now 1 []).id) ∷ []);
}

-- another transaction reads what was committed at the time 1000, puts a value of y, and commits so
abbrev pub reads_and : Work → Run
reads_and commit = run (nodes 1) (
    opens
    ∷ boots 3 opening 1 1 []
    ∷ begins 5 (by 1 1) (attempt 1 1 1) 1
    ∷ puts 8 (by 1 2) (attempt 1 1 1) (write x hi)
    ∷ commits 8 (by 1 3) (attempt 1 1 1) x_hi
    ∷ begins 11 (by 1 4) (attempt 1 1 2) 2
    ∷ fetches 14 (by 1 5) (attempt 1 1 2) x_hi.id (write x hi)
    ∷ puts 15 (by 1 6) (attempt 1 1 2) (write y a)
    ∷ commit ∷ [])

-- what it writes, at a time
abbrev pub y_at : ℕ → Writes
y_at time = having_read (x_hi.id ∷ []) (writes time 2 (write y a ∷ []))

-- it commits at this time
abbrev pub commits_at : ℕ → Run
commits_at time = reads_and (commits 15 (by 1 7) (attempt 1 1 2) (y_at time))

-- ---- its record

-- what it writes, above what it has read
abbrev pub y_later : Writes
y_later = y_at 1001

-- it stores this as its record
abbrev pub records_as : Pair → Run
records_as pair = reads_and (record (commits 15 (by 1 7) (attempt 1 1 2) y_later) {
  door = map (stores (by 1 7) (incarnation 1 1)) (version_pairs y_later ++ pair ∷ []) ++ releases (by 1 7) (attempt 1 1 2) (u 2) ∷ [];
})

-- that its incarnation wrote it and it had read at these ids
abbrev pub of_reads : List TxnId → Pair
of_reads ids = record_at 1 1 (having_read ids y_later)

-- that another incarnation wrote it
abbrev pub of_another : Pair
of_another = record_at 1 2 y_later

-- it is in the first format
abbrev pub of_old : Pair
of_old = old_record (commit_of y_later)

-- reads at the ids of nine times, one of them twice, and of an absent key
abbrev pub nine_reads : List ReadPair
nine_reads =
    record { key = y; id = zero_id } ∷ record { key = y; id = id_of 7 1 }
    ∷ map (λ time. record { key = x; id = id_of time 1 }) (9 ∷ 3 ∷ 5 ∷ 1 ∷ 7 ∷ 2 ∷ 8 ∷ 4 ∷ 6 ∷ [])

-- the eight that a record names
abbrev pub eight_ids : List TxnId
eight_ids = map (λ time. id_of time 1) (2 ∷ 3 ∷ 4 ∷ 5 ∷ 6 ∷ 7 ∷ 8 ∷ 9 ∷ [])
