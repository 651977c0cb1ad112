-- Runs that forget what an earlier run has collected, and others, which do it otherwise.
use Rattle.std.specs.Prelude.{ℕ, ◌+◌, List, [], ◌∷◌, ◌++◌, length}
use Rattle.aft_keeper.specs.declared.keeper.KeeperAnswer.TheVariants as answers
use Rattle.aft_keeper.specs.declared.keeper.KeeperCall.TheVariants as calls
use Rattle.aft_keeper.specs.declared.keeper.Pair.{Pair}
use Rattle.aft_model.specs.declared.caller.Attempt.{Attempt}
use Rattle.aft_model.specs.declared.caller.By.{By}
use Rattle.aft_model.specs.declared.door.DoorAct.TheVariants as acts
use Rattle.aft_model.specs.declared.door.DoorEntry.{DoorEntry}
use Rattle.aft_model.specs.declared.node.NodeAct.TheVariants as turns
use Rattle.aft_model.specs.declared.reply.Reply.{Reply}
use Rattle.aft_model.specs.declared.reply.Reply.TheVariants as replies
use Rattle.aft_model.specs.declared.script.Command.{Command}
use Rattle.aft_model.specs.declared.script.Command.TheVariants as commands
use Rattle.aft_histories.specs.Entries.{u, y, record_of, marker_of, record_pair, full_pair, done_pair}
use Rattle.aft_runs.specs.Entries.{does, calls_for, deletes, fails, finds, misses, turn, answering}
use Rattle.aft_runs.specs.Lines.{opening, boots, attempt, begins, puts, commits, only_answers, caller_of, releases}
use Rattle.aft_runs.specs.Pinned.{older, newer}
use Rattle.aft_runs.specs.Stores.{opens_marked}
use Rattle.aft_runs.specs.Words.{write, writes, a, commit_of, version_pairs}
use Rattle.aft_runs.specs.Works.{Work, Run, run, by, at, nodes, asks}

-- a begin or a forget of a UUID is admitted, does this at the door, and gives its attempt back with this answer
abbrev pub does_and : ℕ → By → Attempt → Command → ℕ → List DoorEntry → Reply → Work
does_and front who own command n done reply = record (asks who command) {
  door = done;
  nodes = at own.node (turn front who (turns.Admit own (u n)) ∷ answering (front + length done) who (turns.Unadmit own) reply ∷ []);
}

-- its claim of the UUID
abbrev pub claims : By → Attempt → ℕ → DoorEntry
claims who own n = does who (acts.Claim (u n) own.node own.inc)

-- the same where it claims the UUID first, and lets it go in the end
abbrev pub claims_and : ℕ → By → Attempt → Command → ℕ → List DoorEntry → Reply → Work
claims_and front who own command n done reply = does_and front who own command n (claims who own n ∷ done ++ releases who own (u n) ∷ []) reply

-- its delete of the marker of the UUID
abbrev pub deletes_marker : By → Attempt → ℕ → DoorEntry
deletes_marker who own n = calls_for who (caller_of own) (calls.Delete (marker_of n)) answers.Done

-- the works behind the opening of a node over a store in which the first commit has this marker
abbrev pub over_marker : Pair → List Work → Run
over_marker marker works = run (nodes 1) (opens_marked marker ∷ boots 4 opening 1 1 (commit_of newer ∷ []) ∷ works)

-- the short marker, and the full one
abbrev pub short : Pair
short = done_pair older.id

abbrev pub full : Pair
full = full_pair (commit_of older)

-- ---- the run

-- the looks of a forget at the record, which is absent, and at this marker
abbrev pub looks : By → Attempt → Pair → List DoorEntry
looks who own marker = misses who (caller_of own) (record_of 1) ∷ finds who (caller_of own) marker ∷ []

-- a transaction is committed to whoever begins it, until it is forgotten; and then it is answered as forgotten. One that has a record is kept, and of one that nobody has begun nothing is known
abbrev pub forgets : Run
forgets = over_marker short (
    claims_and 6 (by 1 1) (attempt 1 1 1) (commands.Begin (u 1) 1) 1 (looks (by 1 1) (attempt 1 1 1) short) (replies.Committed older.id)
    ∷ claims_and 10 (by 1 2) (attempt 1 1 2) (commands.Forget (u 1) 1) 1 (looks (by 1 2) (attempt 1 1 2) short ++ deletes_marker (by 1 2) (attempt 1 1 2) 1 ∷ []) (replies.Forgot older.id)
    ∷ does_and 15 (by 1 3) (attempt 1 1 3) (commands.Begin (u 1) 1) 1 [] (replies.Forgotten (u 1))
    ∷ claims_and 15 (by 1 4) (attempt 1 1 4) (commands.Forget (u 3) 1) 3 (finds (by 1 4) (caller_of (attempt 1 1 4)) (record_pair (commit_of newer)) ∷ []) (replies.Kept newer.id)
    ∷ claims_and 18 (by 1 5) (attempt 1 1 5) (commands.Forget (u 9) 1) 9 (misses (by 1 5) (caller_of (attempt 1 1 5)) (record_of 9) ∷ misses (by 1 5) (caller_of (attempt 1 1 5)) (marker_of 9) ∷ []) (replies.Unknown (u 9)) ∷ [])

-- ---- one forget

-- a forget over a store with this marker does this at the door, and answers so
abbrev pub forget : Pair → List DoorEntry → Reply → Run
forget marker done reply = over_marker marker (does_and 6 (by 1 1) (attempt 1 1 1) (commands.Forget (u 1) 1) 1 done reply ∷ [])

-- its entries
abbrev pub claim : DoorEntry
claim = claims (by 1 1) (attempt 1 1 1) 1

abbrev pub looks_at : Pair → List DoorEntry
looks_at marker = looks (by 1 1) (attempt 1 1 1) marker

abbrev pub fails_look : DoorEntry
fails_look = fails (by 1 1) (caller_of (attempt 1 1 1)) (calls.Get (record_of 1))

abbrev pub delete : DoorEntry
delete = deletes_marker (by 1 1) (attempt 1 1 1) 1

abbrev pub release : DoorEntry
release = releases (by 1 1) (attempt 1 1 1) (u 1)

abbrev pub fails_delete : DoorEntry
fails_delete = fails (by 1 1) (caller_of (attempt 1 1 1)) (calls.Delete (marker_of 1))

-- all of it where its delete of the marker fails
abbrev pub failed_forget : List DoorEntry
failed_forget = claim ∷ looks_at short ++ fails_delete ∷ release ∷ []

-- all of it where it finds this marker and deletes it, and where it leaves it
abbrev pub whole_forget : Pair → List DoorEntry
whole_forget marker = claim ∷ looks_at marker ++ delete ∷ release ∷ []

abbrev pub leaves : Pair → List DoorEntry
leaves marker = claim ∷ looks_at marker ++ release ∷ []

-- it forgot the transaction, and it keeps it
abbrev pub forgot : Reply
forgot = replies.Forgot older.id

abbrev pub kept : Reply
kept = replies.Kept older.id

-- ---- a begin behind it

-- the transaction is forgotten, and then this is done
abbrev pub forgets_then : Work → Run
forgets_then next = over_marker short (does_and 6 (by 1 1) (attempt 1 1 1) (commands.Forget (u 1) 1) 1 (whole_forget short) forgot ∷ next ∷ [])

-- another is begun, and answered that it is forgotten
abbrev pub tells_forgotten : Work
tells_forgotten = does_and 11 (by 1 2) (attempt 1 1 2) (commands.Begin (u 2) 1) 2 [] (replies.Forgotten (u 2))

-- this one is begun as if it were new
abbrev pub begins_anew : Work
begins_anew = begins 11 (by 1 2) (attempt 1 1 2) 1

-- and commits a value of another key
abbrev pub commits_anew : Run
commits_anew = over_marker short (
    does_and 6 (by 1 1) (attempt 1 1 1) (commands.Forget (u 1) 1) 1 (whole_forget short) forgot
    ∷ begins_anew
    ∷ puts 14 (by 1 3) (attempt 1 1 2) (write y a)
    ∷ commits 14 (by 1 4) (attempt 1 1 2) (writes 1000 1 (write y a ∷ [])) ∷ [])

-- ---- a forget beside an attempt

-- a forget of a transaction that runs at its node is answered so at once
abbrev pub forgets_running : Reply → Run
forgets_running reply = over_marker short (begins 6 (by 1 1) (attempt 1 1 1) 2 ∷ only_answers 9 (by 2 2) 1 (commands.Forget (u 2) 1) reply ∷ [])

-- a forget of a transaction that nobody has begun here is answered so at once
abbrev pub forgets_idle : Reply → Run
forgets_idle reply = over_marker short (only_answers 6 (by 1 1) 1 (commands.Forget (u 1) 1) reply ∷ [])

-- ---- what the store holds

-- what the store holds of the second commit
abbrev pub of_newer : List Pair
of_newer = record_pair (commit_of newer) ∷ version_pairs newer

-- nothing is done behind the opening
abbrev pub forgets_nothing : Run
forgets_nothing = over_marker short []

-- what it held at first besides is the short marker
abbrev pub held_at_first : List Pair
held_at_first = record_pair (commit_of newer) ∷ short ∷ version_pairs newer

-- the record of the second commit is deleted, which isn't forgotten
abbrev pub loses_record : List DoorEntry
loses_record = forgets_nothing.ran.trace.door ++ deletes (by 1 1) (record_of 3) ∷ []
