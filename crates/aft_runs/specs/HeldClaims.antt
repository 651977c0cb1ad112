-- Runs in which a begin is refused, since another node holds the UUID or it is committed; and such runs in which that is left open.
use Rattle.std.specs.Prelude.{◌+◌, List, [], ◌∷◌, ◌++◌, length}
use Rattle.aft_model.specs.Membership.{incarnation}
use Rattle.aft_model.specs.declared.door.DoorAct.TheVariants as acts
use Rattle.aft_model.specs.declared.door.DoorEntry.{DoorEntry}
use Rattle.aft_model.specs.declared.node.NodeAct.TheVariants as turns
use Rattle.aft_model.specs.declared.reply.Reply.{Reply}
use Rattle.aft_model.specs.declared.reply.Reply.TheVariants as replies
use Rattle.aft_model.specs.declared.script.Command.TheVariants as commands
use Rattle.aft_histories.specs.Entries.{u, x, record_of, record_pair, done_pair}
use Rattle.aft_runs.specs.Collections.{collects_dropped, gives_up_with, node_gives_up}
use Rattle.aft_runs.specs.Entries.{does, misses, finds, turn, answering}
use Rattle.aft_runs.specs.Lines.{opening, opens, boots, attempt, begins, puts, commits, releases, aborts, only_answers}
use Rattle.aft_runs.specs.Pinned.{older}
use Rattle.aft_runs.specs.Reads.{x_hi}
use Rattle.aft_runs.specs.Words.{write, hi, commit_of}
use Rattle.aft_runs.specs.Works.{Work, Run, run, ordered, whole, step, by, at, nodes, nothing, asks}

-- ---- a UUID that is held

-- a begin at the second node is refused its claim, and answers this
abbrev pub is_refused : Reply → Work
is_refused reply = record (asks (by 2 2) (commands.Begin (u 1) 2)) {
  nodes = at 2 (turn 10 (by 2 2) (turns.Admit (attempt 2 1 1) (u 1)) ∷ answering 10 (by 2 2) (turns.Unadmit (attempt 2 1 1)) reply ∷ []);
}

-- a transaction runs at the first node, and the second refuses to begin it with this; a client joins it at the first node and aborts it, so the other client finds none
abbrev pub refuses_with : Reply → Run
refuses_with reply = run (nodes 2) (
    opens
    ∷ boots 3 opening 1 1 []
    ∷ boots 5 opening 2 1 []
    ∷ begins 7 (by 1 1) (attempt 1 1 1) 1
    ∷ is_refused reply
    ∷ only_answers 10 (by 2 3) 1 (commands.Begin (u 1) 1) (replies.Joined (u 1))
    ∷ aborts 10 (by 2 4) (attempt 1 1 1) 1
    ∷ only_answers 11 (by 1 5) 1 (commands.Get x) replies.NoTransaction ∷ [])

-- the first node holds its UUID
abbrev pub held_claim : Run
held_claim = refuses_with (replies.Busy 1 1)

-- ---- a UUID that is committed

-- a begin at the second node claims the UUID, is shown its record, then does this at the door, and answers that it is committed
abbrev pub finds_committed : List DoorEntry → Work
finds_committed last = record (asks (by 1 4) (commands.Begin (u 1) 2)) {
  door = does (by 1 4) (acts.Claim (u 1) 2 1) ∷ finds (by 1 4) (incarnation 2 1) (record_pair (commit_of x_hi)) ∷ last;
  nodes = at 2 (turn 13 (by 1 4) (turns.Admit (attempt 2 1 1) (u 1)) ∷ answering (15 + length last) (by 1 4) (turns.Unadmit (attempt 2 1 1)) (replies.Committed x_hi.id) ∷ []);
}

-- the claim is let go
abbrev pub lets_go : List DoorEntry
lets_go = releases (by 1 4) (attempt 2 1 1) (u 1) ∷ []

-- a transaction is committed at the first node, and its client begins it again at the second, which does this behind the record that it is shown; then it holds no transaction there
abbrev pub begins_again : List DoorEntry → Run
begins_again last = run (nodes 2) (
    opens
    ∷ boots 3 opening 1 1 []
    ∷ boots 5 opening 2 1 []
    ∷ begins 7 (by 1 1) (attempt 1 1 1) 1
    ∷ puts 10 (by 1 2) (attempt 1 1 1) (write x hi)
    ∷ commits 10 (by 1 3) (attempt 1 1 1) x_hi
    ∷ finds_committed last
    ∷ only_answers (15 + length last) (by 1 5) 2 (commands.Get x) replies.NoTransaction ∷ [])

abbrev pub begun_again : Run
begun_again = begins_again lets_go

-- the same where its version and its record are deleted, since another transaction has superseded it: its marker is found, and the claim let go
abbrev pub finds_retired : Work
finds_retired = record (asks (by 1 9) (commands.Begin (u 1) 1)) {
  door = does (by 1 9) (acts.Claim (u 1) 1 1) ∷ misses (by 1 9) (incarnation 1 1) (record_of 1) ∷ finds (by 1 9) (incarnation 1 1) (done_pair older.id) ∷ releases (by 1 9) (attempt 1 1 3) (u 1) ∷ [];
  nodes = at 1 (turn 24 (by 1 9) (turns.Admit (attempt 1 1 3) (u 1)) ∷ answering 28 (by 1 9) (turns.Unadmit (attempt 1 1 3)) (replies.Committed older.id) ∷ []);
}

abbrev pub begun_retired : Run
begun_retired = collects_dropped (gives_up_with (node_gives_up ∷ []) ++ finds_retired ∷ [])

-- ---- a UUID whose attempt opens

-- while a begin opens an attempt, another begin of its UUID at the node answers this; then the first one goes on
abbrev pub begins_within : Reply → Run
begins_within reply = ordered (step 1 ∷ whole 2 ∷ whole 1 ∷ []) (run (nodes 1) (
    opens
    ∷ boots 3 opening 1 1 []
    ∷ record (begins 5 (by 1 1) (attempt 1 1 1) 1) { nodes = at 1 (turn 5 (by 1 1) (turns.Admit (attempt 1 1 1) (u 1)) ∷ []) }
    ∷ only_answers 5 (by 2 2) 1 (commands.Begin (u 1) 1) reply
    ∷ record nothing { nodes = at 1 (answering 8 (by 1 1) (turns.Begin (attempt 1 1 1)) (replies.Begun (u 1)) ∷ []) }
    ∷ only_answers 8 (by 2 3) 1 (commands.Begin (u 1) 1) (replies.Joined (u 1)) ∷ []))

abbrev pub begun_within : Run
begun_within = begins_within (replies.Busy 1 1)
