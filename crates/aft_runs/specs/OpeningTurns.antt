-- Runs in which the opening and the lines stand otherwise than one behind the other, and refused openings that do more.
use Rattle.std.specs.Prelude.{ℕ, ◌+◌, List, [], ◌∷◌, map}
use Rattle.std.specs.List.{range_with_len}
use Rattle.aft_records.specs.declared.stored.Commit.{Commit}
use Rattle.aft_model.specs.declared.door.DoorAct.TheVariants as acts
use Rattle.aft_model.specs.declared.door.DoorEntry.{DoorEntry}
use Rattle.aft_model.specs.declared.node.NodeAct.TheVariants as turns
use Rattle.aft_model.specs.declared.reply.Reply.TheVariants as replies
use Rattle.aft_model.specs.declared.script.Command.TheVariants as commands
use Rattle.aft_histories.specs.Entries.{u, record_of, marker_of, record_pair}
use Rattle.aft_runs.specs.Entries.{does, misses, stores, turn, answering}
use Rattle.aft_runs.specs.Lines.{opening, opens, boots, boots_on, attempt, caller_of}
use Rattle.aft_runs.specs.Openings.{at_door, refused_by}
use Rattle.aft_runs.specs.Pinned.{older, newer}
use Rattle.aft_runs.specs.Reads.{x_hi}
use Rattle.aft_runs.specs.Rounds.{drops}
use Rattle.aft_runs.specs.Stores.{opens_both}
use Rattle.aft_runs.specs.Words.{commit_of, version_pairs}
use Rattle.aft_runs.specs.Works.{Work, Run, run, ordered, step, by, at, nodes, asks, nothing}

-- ---- refused openings

-- a node comes up and is shown the records, as the opening says, and then this is done at the door
abbrev pub refused_behind : List DoorEntry → Run
refused_behind done = refused_by (opens ∷ at_door (boots 3 opening 1 1 []).door ∷ at_door done ∷ [])

-- the opening claims a UUID, finds nothing of it, and stores a version
abbrev pub claims_and_stores : List DoorEntry
claims_and_stores =
    does opening (acts.Claim (u 1) 1 1)
    ∷ misses opening (caller_of (attempt 1 1 1)) (record_of 1)
    ∷ misses opening (caller_of (attempt 1 1 1)) (marker_of 1)
    ∷ map (stores opening (caller_of (attempt 1 1 1))) (version_pairs x_hi)

-- ---- where lines begin

-- two nodes boot, and this is done where no order is known
abbrev pub boots_two_and : List Work → Run
boots_two_and works = ordered (step 1 ∷ []) (run (nodes 2) (opens ∷ boots 3 opening 1 1 [] ∷ works))

-- a line at the first node has seen so much of the door's history
abbrev pub round_at : ℕ → Run
round_at front = boots_two_and (boots 5 opening 2 1 [] ∷ drops front (by 1 1) 1 [] ∷ [])

-- a line at the second node is answered while that boots
abbrev pub answers_down : Work
answers_down = record (asks (by 1 1) (commands.Local 2)) { nodes = at 2 (answering 7 (by 1 1) turns.Nothing (replies.NodeDown 2 1) ∷ []) }

abbrev pub begins_boot : Work
begins_boot = record (boots 5 opening 2 1 []) { nodes = at 2 (turn 5 opening (turns.Booting 1) ∷ []) }

abbrev pub ends_boot : Work
ends_boot = record nothing { nodes = at 2 (answering 7 opening (turns.Boot 1 []) (replies.Started 2 1) ∷ []) }

abbrev pub round_within_boot : Run
round_within_boot = boots_two_and (begins_boot ∷ answers_down ∷ ends_boot ∷ [])

-- ---- boots

-- two commits that a store has
abbrev pub c_older : Commit
c_older = commit_of older

abbrev pub c_newer : Commit
c_newer = commit_of newer

-- over it a node boots with these, in this order
abbrev pub boots_with : List Commit → Run
boots_with served = run (nodes 1) (opens_both ∷ boots_on 5 opening 1 1 (map record_pair (c_older ∷ c_newer ∷ [])) served ∷ [])

-- ---- settings

-- so many nodes boot, and no line runs
abbrev pub boots_all : ℕ → Run
boots_all count = run (nodes count) (opens ∷ map (λ node. boots (node + node + 1) opening node 1 []) (range_with_len 1 count))

-- one node boots with so large a cache, so large boxes, and so many rounds beside the script
abbrev pub boots_by : ℕ → ℕ → ℕ → Run
boots_by cache mailbox rounds = run (record { nodes = 1; cache = cache; mailbox = mailbox; rounds = rounds }) (opens ∷ boots 3 opening 1 1 [] ∷ [])
