-- Runs in which the store is copied, beside a collection and beside a commit.
use Rattle.std.specs.Prelude.{ℕ, Bool, ◌+◌, true, List, [], ◌∷◌, ◌++◌, map, length, codes}
use Rattle.std.specs.List.{flat_map}
use Rattle.aft_keeper.specs.declared.keeper.KeeperCall.TheVariants as calls
use Rattle.aft_keeper.specs.declared.keeper.Pair.{Pair}
use Rattle.aft_records.specs.declared.stored.Commit.{Commit}
use Rattle.aft_lines.specs.BackupCourse.{copy_of}
use Rattle.aft_lines.specs.CausesScans.{shows_too_many}
use Rattle.aft_lines.specs.FinishedText.{line_of}
use Rattle.aft_lines.specs.LineView.{ends_of}
use Rattle.aft_lines.specs.Lines.{lines}
use Rattle.aft_lines.specs.Turns.{turns}
use Rattle.aft_lines.specs.Views.{view_of}
use Rattle.aft_model.specs.Membership.{Incarnation, incarnation}
use Rattle.aft_model.specs.Sound.{records_prefix}
use Rattle.aft_model.specs.declared.caller.By.{By}
use Rattle.aft_model.specs.declared.door.DoorAct.TheVariants as acts
use Rattle.aft_model.specs.declared.door.DoorEntry.{DoorEntry}
use Rattle.aft_model.specs.declared.office.OfficeAct.TheVariants as desk
use Rattle.aft_model.specs.declared.reply.Reply.{Reply}
use Rattle.aft_model.specs.declared.reply.Reply.TheVariants as replies
use Rattle.aft_model.specs.declared.script.Command.TheVariants as commands
use Rattle.aft_histories.specs.Entries.{x, done_pair, full_pair, record_pair, version_of}
use Rattle.aft_runs.specs.Entries.{does, fails, finds, lists, misses, closes}
use Rattle.aft_runs.specs.Lines.{opening, opens, opens_on, boots, attempt, begins, puts, commits}
use Rattle.aft_runs.specs.Pinned.{older, newer}
use Rattle.aft_runs.specs.Reads.{x_hi}
use Rattle.aft_runs.specs.Rounds.{collects, gives_up, retires, collected, held, retired}
use Rattle.aft_runs.specs.RunLines as views
use Rattle.aft_runs.specs.Stores.{opens_both}
use Rattle.aft_runs.specs.Words.{write, hi, commit_of, version_pairs}
use Rattle.aft_runs.specs.Works.{Work, Run, run, by, nodes, nothing, asks, ordered, step, whole}

-- a copier comes up
abbrev pub comes_up : By → Incarnation → Work
comes_up who copier = record (asks who commands.Backup) { door = does who (acts.Up copier.node copier.inc) ∷ [] }

-- it is shown these records and markers, makes these calls, and the line answers
abbrev pub copies_on : ℕ → By → Incarnation → List Pair → List Pair → List DoorEntry → Reply → Work
copies_on front who copier records markers calls reply = record nothing {
  door = lists who copier (codes "c/") records ∷ lists who copier (codes "r/") markers ∷ calls;
  office = closes (front + 2 + length calls) who desk.Nothing reply ∷ [];
}

-- the same where it is shown the records of these commits and no marker, and it is told how many commits were copied
abbrev pub copies : ℕ → By → Incarnation → List Commit → List DoorEntry → ℕ → Work
copies front who copier shown calls taken = copies_on front who copier (map record_pair shown) [] calls (replies.Copied taken 0)

-- it is fenced
abbrev pub is_fenced : By → Incarnation → DoorEntry
is_fenced who copier = does who (acts.Fence copier.node copier.inc)

-- ---- beside a collection

-- the two commits that the store has
abbrev pub both : List Commit
both = commit_of older ∷ commit_of newer ∷ []

-- the collection that comes first: the node gives the older commit up
abbrev pub collects_first : Work
collects_first = collects 8 (by 1 2) both

abbrev pub node_gives_up : Work
node_gives_up = gives_up 10 (by 1 2) 1 1 older.id

-- a copier comes up, and this is done before it goes on
abbrev pub copier_up_then : List Work → Run
copier_up_then works = ordered (step 3 ∷ whole 1 ∷ whole 3 ∷ whole 1 ∷ []) (run (nodes 1) (
    opens_both
    ∷ boots 5 opening 1 1 both
    ∷ comes_up (by 3 1) (incarnation 9 1)
    ∷ works))

-- while it is up the commit is held for it, and retired when it was fenced
abbrev pub beside_collection : Run
beside_collection = copier_up_then (
    collects_first
    ∷ node_gives_up
    ∷ collected 11 (by 1 2) (held older.id 9 1 ∷ [])
    ∷ copies 11 (by 3 1) (incarnation 9 1) both (map (finds (by 3 1) (incarnation 9 1)) (version_pairs older ++ version_pairs newer) ++ is_fenced (by 3 1) (incarnation 9 1) ∷ []) 2
    ∷ collects 16 (by 1 3) both
    ∷ gives_up 18 (by 1 3) 1 1 older.id
    ∷ retires (by 1 3) (commit_of older)
    ∷ collected 23 (by 1 3) (retired older.id ∷ []) ∷ [])

-- it is retired while the copier is up, which finds it no more
abbrev pub retired_beside : Run
retired_beside = copier_up_then (
    collects_first
    ∷ node_gives_up
    ∷ retires (by 1 2) (commit_of older)
    ∷ collected 15 (by 1 2) (retired older.id ∷ [])
    ∷ copies 15 (by 3 1) (incarnation 9 1) (commit_of newer ∷ []) (map (finds (by 3 1) (incarnation 9 1)) (version_pairs newer) ++ is_fenced (by 3 1) (incarnation 9 1) ∷ []) 1 ∷ [])

-- ---- beside a commit

-- this copier comes up, a transaction commits a value of x, and the copier is shown that, makes these calls and tells what it took
abbrev pub commits_beside : Incarnation → List DoorEntry → ℕ → Run
commits_beside copier calls taken = ordered (whole 1 ∷ whole 1 ∷ step 2 ∷ whole 1 ∷ []) (run (nodes 1) (
    opens
    ∷ boots 3 opening 1 1 []
    ∷ begins 5 (by 1 1) (attempt 1 1 1) 1
    ∷ puts 8 (by 1 2) (attempt 1 1 1) (write x hi)
    ∷ comes_up (by 2 3) copier
    ∷ commits 9 (by 1 4) (attempt 1 1 1) x_hi
    ∷ copies 12 (by 2 3) copier (commit_of x_hi ∷ []) calls taken ∷ []))

-- what it does behind its scans: it gets the versions of the commit, and is fenced
abbrev pub gets_versions : Incarnation → List DoorEntry
gets_versions copier = map (finds (by 2 3) copier) (version_pairs x_hi)

abbrev pub fences : Incarnation → List DoorEntry
fences copier = is_fenced (by 2 3) copier ∷ []

-- the copier, and one of a later incarnation
abbrev pub first_copier : Incarnation
first_copier = incarnation 9 1

abbrev pub second_copier : Incarnation
second_copier = incarnation 9 2

-- ---- beside a copy

-- another copy asked for while no copier is up, and while one is
abbrev pub tells_copying : ℕ → By → Work
tells_copying front who = record (asks who commands.Backup) { office = closes front who desk.Nothing replies.Copying ∷ [] }

abbrev pub copying_alone : Run
copying_alone = run (nodes 1) (opens ∷ boots 3 opening 1 1 [] ∷ tells_copying 5 (by 1 1) ∷ [])

abbrev pub copying_beside : Run
copying_beside = ordered (step 1 ∷ []) (run (nodes 1) (
    opens
    ∷ boots 3 opening 1 1 []
    ∷ comes_up (by 1 1) first_copier
    ∷ tells_copying 6 (by 2 2)
    ∷ copies 6 (by 1 1) first_copier [] (is_fenced (by 1 1) first_copier ∷ []) 0 ∷ []))

-- ---- what it takes

-- a store with both commits and these markers is copied: the copier makes these calls, and this is answered
abbrev pub copies_store : List Pair → List DoorEntry → Reply → Run
copies_store markers calls reply = run (nodes 1) (
    opens_on (map record_pair both) markers (version_pairs older ++ version_pairs newer)
    ∷ boots 5 opening 1 1 both
    ∷ comes_up (by 1 1) first_copier
    ∷ copies_on 8 (by 1 1) first_copier (map record_pair both) markers calls reply ∷ [])

-- the full marker of the older one
abbrev pub older_marked : List Pair
older_marked = full_pair (commit_of older) ∷ []

-- the copier gets these versions, and is fenced
abbrev pub gets : List Pair → List DoorEntry
gets versions = map (finds (by 1 1) first_copier) versions ++ is_fenced (by 1 1) first_copier ∷ []

-- it finds the version of the older one missing, and is fenced or not
abbrev pub misses_older : DoorEntry
misses_older = misses (by 1 1) first_copier (version_of x older.id)

abbrev pub misses_and_ends : List DoorEntry
misses_and_ends = misses_older ∷ is_fenced (by 1 1) first_copier ∷ []

abbrev pub misses_and_stays : List DoorEntry
misses_and_stays = misses_older ∷ []

-- so many commits and markers were copied; the version of the older one is damage
abbrev pub copied : ℕ → ℕ → Reply
copied taken marked = replies.Copied taken marked

abbrev pub tells_missing : Reply
tells_missing = replies.Damaged (version_of x older.id)

-- what was copied in a run
abbrev pub copied_in : Run → List Pair
copied_in told = flat_map (λ line. copy_of (ends_of (view_of told.asked told.ran line)) (turns (line_of line) told.ran.trace)) (lines told.asked)

-- the newer commit, and the short marker of the older one
abbrev pub newer_and_marker : List Pair
newer_and_marker = record_pair (commit_of newer) ∷ done_pair older.id ∷ version_pairs newer

-- ---- scans that stop

-- the copier can't list the records, does this, and the line tells the fault
abbrev pub page_fails_and : List DoorEntry → Run
page_fails_and done = run (nodes 1) (opens ∷ boots 3 opening 1 1 [] ∷ comes_up (by 1 1) first_copier ∷ record nothing {
  door = fails (by 1 1) first_copier (calls.Scan (codes "c/") [] 64) ∷ done;
  office = closes (7 + length done) (by 1 1) desk.Nothing replies.StoreFault ∷ [];
} ∷ [])

-- it is fenced
abbrev pub is_gone : List DoorEntry
is_gone = is_fenced (by 1 1) first_copier ∷ []

-- whether the copy of the store with both records shows too many, where so many are allowed
abbrev pub shows_more_than : ℕ → Bool
shows_more_than most =
    shows_too_many (record { most = most; judges = true }) records_prefix (views.line (by 1 1) commands.Backup (views.holds_nothing 1) (copies_store [] is_gone replies.NoMemory).ran)
