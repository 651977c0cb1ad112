-- Runs in which what is claimed is left open: UUIDs of bytes or of other numbers, or nothing at all.
use Rattle.std.specs.Prelude.{ℕ, ◌+◌, List, [], ◌∷◌, ◌++◌, length, take}
use Rattle.aft_model.specs.Readings.{marker_name, record_name}
use Rattle.aft_model.specs.declared.caller.Attempt.{Attempt}
use Rattle.aft_model.specs.declared.caller.By.{By}
use Rattle.aft_model.specs.declared.door.DoorAct.TheVariants as acts
use Rattle.aft_model.specs.declared.door.DoorEntry.{DoorEntry}
use Rattle.aft_model.specs.declared.node.NodeAct.TheVariants as turns
use Rattle.aft_model.specs.declared.reply.Reply.TheVariants as replies
use Rattle.aft_model.specs.declared.script.Command.TheVariants as commands
use Rattle.aft_histories.specs.Entries.{u}
use Rattle.aft_runs.specs.Entries.{does, misses, turn, answering}
use Rattle.aft_runs.specs.Lines.{opening, opens, boots, attempt, caller_of}
use Rattle.aft_runs.specs.Works.{Work, Run, run, by, at, nodes, asks}

-- the UUID whose last number is this
abbrev pub ending : ℕ → List ℕ
ending last = take 15 (u 0) ++ last ∷ []

-- what a begin finds of a UUID: no record, and then no marker
abbrev pub looks : By → Attempt → List ℕ → List DoorEntry
looks who own uuid = misses who (caller_of own) (record_name uuid) ∷ misses who (caller_of own) (marker_name uuid) ∷ []

-- a transaction of a UUID begins behind this
abbrev pub begins_behind : ℕ → By → Attempt → List ℕ → List DoorEntry → Work
begins_behind front who own uuid done = record (asks who (commands.Begin uuid own.node)) {
  door = done;
  nodes = at own.node (turn front who (turns.Admit own uuid) ∷ answering (front + length done) who (turns.Begin own) (replies.Begun uuid) ∷ []);
}

-- behind its claim, as it should
abbrev pub begins_uuid : ℕ → By → Attempt → List ℕ → Work
begins_uuid front who own uuid = begins_behind front who own uuid (does who (acts.Claim uuid own.node own.inc) ∷ looks who own uuid)

-- two transactions begin, whose UUIDs end with these numbers
abbrev pub begins_two : ℕ → ℕ → Run
begins_two one other = run (nodes 1) (
    opens
    ∷ boots 3 opening 1 1 []
    ∷ begins_uuid 5 (by 1 1) (attempt 1 1 1) (ending one)
    ∷ begins_uuid 8 (by 2 2) (attempt 1 1 2) (ending other) ∷ [])

-- a transaction begins that has claimed nothing
abbrev pub begins_unclaimed : Run
begins_unclaimed = run (nodes 1) (opens ∷ boots 3 opening 1 1 [] ∷ begins_behind 5 (by 1 1) (attempt 1 1 1) (u 1) (looks (by 1 1) (attempt 1 1 1) (u 1)) ∷ [])
