-- Replies that a run may have left out, and runs that leave one out.
use Rattle.std.specs.Prelude.{ℕ, ◌-◌, ◌^◌, Bool, List, [], ◌∷◌, ◌++◌, codes, map, IsTrue, IsFalse}
use Rattle.std.specs.List.{list_all, flat_map}
use Rattle.aft_id.specs.declared.txn_id.TxnId.{TxnId}
use Rattle.aft_keeper.specs.declared.keeper.KeeperCall.TheVariants as calls
use Rattle.aft_lines.specs.Views.{is_left_out_rightly}
use Rattle.aft_model.specs.declared.node.NodeAct.TheVariants as turns
use Rattle.aft_model.specs.declared.reply.Reply.{Reply}
use Rattle.aft_model.specs.declared.reply.Reply.TheVariants as replies
use Rattle.aft_model.specs.declared.reply.Verdict.TheVariants as verdicts
use Rattle.aft_model.specs.declared.script.Command.TheVariants as commands
use Rattle.aft_histories.specs.Entries.{u, id_of, record_pair, x}
use Rattle.aft_runs.specs.Entries.{turn, answering, fails, stores}
use Rattle.aft_runs.specs.Lines.{opening, opens, boots, attempt, caller_of, begins, puts}
use Rattle.aft_runs.specs.Reads.{x_hi, x_was_absent, both}
use Rattle.aft_runs.specs.Words.{write, hi, a, b, commit_of, version_pairs}
use Rattle.aft_runs.specs.Works.{Run, run, by, at, nodes, asks}

-- the ids of the small runs
abbrev pub ids : List TxnId
ids = id_of 1000 1 ∷ id_of 1000 2 ∷ id_of 1000 3 ∷ id_of 1001 1 ∷ id_of 1001 2 ∷ id_of 1001 3 ∷ []

-- their values
abbrev pub values : List (List ℕ)
values = hi ∷ a ∷ b ∷ codes "old" ∷ codes "9" ∷ []

-- replies without parameters
abbrev pub plain : List Reply
plain =
    replies.Stored ∷ replies.Absent ∷ replies.Ended ∷ replies.Aborted ∷ replies.StoreFault ∷ replies.InDoubt ∷ replies.NoTransaction
    ∷ replies.Committing ∷ replies.TooManyKeys ∷ replies.ClockEnd ∷ replies.TooManyRecords ∷ replies.TooManyVersions ∷ replies.Collecting ∷ replies.Copying ∷ replies.NoMemory ∷ []

-- replies that name a UUID, an id or a value
abbrev pub named : List Reply
named =
    map (λ n. replies.Begun (u n)) (1 ∷ 2 ∷ 3 ∷ 9 ∷ []) ++ map (λ n. replies.Joined (u n)) (1 ∷ 2 ∷ 3 ∷ 9 ∷ [])
    ++ map (λ n. replies.Unknown (u n)) (1 ∷ 2 ∷ []) ++ map (λ n. replies.Forgotten (u n)) (1 ∷ 2 ∷ [])
    ++ map replies.Committed (id_of 1 1 ∷ id_of (2 ^ 48 - 1) 1 ∷ ids) ++ map replies.Missing ids ++ map replies.Forgot ids ++ map replies.Kept ids ++ map replies.Own values
    ++ flat_map (λ id. map (replies.Value id) values) ids ++ replies.NoValidVersion (x_was_absent both ∷ []) ∷ replies.NoValidVersion [] ∷ []

-- replies that name an incarnation
abbrev pub of_nodes : List Reply
of_nodes =
    flat_map (λ node. replies.NotUp node ∷ flat_map (λ inc.
    replies.Busy node inc ∷ replies.NodeDown node inc ∷ replies.Crashed node inc ∷ replies.Started node inc ∷ replies.IsUp node inc
    ∷ replies.IsBooting node inc ∷ []) (1 ∷ 2 ∷ 3 ∷ [])) (1 ∷ 2 ∷ [])

-- replies that count
abbrev pub counts : List Reply
counts =
    flat_map (λ n. replies.OpenReads n ∷ replies.Dropped n ∷ flat_map (λ m.
    replies.Announced n m 0 ∷ replies.Learned n m 0 ∷ replies.Learned n 0 m ∷ replies.Managed n m ∷ []) (0 ∷ 1 ∷ [])) (0 ∷ 1 ∷ [])
    ++ replies.Announced 2 0 0 ∷ replies.Announced 2 0 1 ∷ replies.Announced 1 0 1 ∷ replies.Learned 2 0 0 ∷ replies.Managed 1 2 ∷ replies.Managed 0 2 ∷ replies.Managed 2 0 ∷ replies.Dropped 2
    ∷ replies.Orphans 0 0 0 0 ∷ replies.Orphans 1 0 0 0 ∷ replies.Copied 0 0 ∷ replies.Copied 1 0 ∷ replies.Copied 1 1
    ∷ replies.Collected [] ∷ replies.Collected (record { id = id_of 1000 1; verdict = verdicts.Retired } ∷ [])
    ∷ replies.Collected (record { id = id_of 1000 1; verdict = verdicts.Held 1 1 } ∷ []) ∷ replies.Collected (record { id = id_of 1000 1; verdict = verdicts.Fault } ∷ []) ∷ []

-- whether a run leaves out none of these replies where it should have answered it
abbrev pub answers_all : List Reply → Run → Bool
answers_all replies run = list_all (is_left_out_rightly run.asked run.ran) replies

-- a run that leaves none of them out
abbrev pub AnswersAll : Run → Type 0
AnswersAll run = IsTrue (answers_all (plain ++ named ++ of_nodes ++ counts) run)

-- a run that leaves this reply out
abbrev pub LeavesOut : Reply → Run → Type 0
LeavesOut reply run = IsFalse (is_left_out_rightly run.asked run.ran reply)

-- a transaction's record can't be put, and the get that should settle it fails too, and this is answered
abbrev pub doubted : Reply → Run
doubted reply = run (nodes 1) (
    opens
    ∷ boots 3 opening 1 1 []
    ∷ begins 5 (by 1 1) (attempt 1 1 1) 1
    ∷ puts 8 (by 1 2) (attempt 1 1 1) (write x hi)
    ∷ record (asks (by 1 3) commands.Commit) {
      door = map (stores (by 1 3) (caller_of (attempt 1 1 1))) (version_pairs x_hi)
          ++ fails (by 1 3) (caller_of (attempt 1 1 1)) (calls.Put (record_pair (commit_of x_hi)).name (record_pair (commit_of x_hi)).bytes)
          ∷ fails (by 1 3) (caller_of (attempt 1 1 1)) (calls.Get (record_pair (commit_of x_hi)).name) ∷ [];
      nodes = at 1 (turn 8 (by 1 3) (turns.Start (attempt 1 1 1) 1000 (commit_of x_hi)) ∷ answering 11 (by 1 3) (turns.Doubt (attempt 1 1 1)) reply ∷ []);
    } ∷ [])
