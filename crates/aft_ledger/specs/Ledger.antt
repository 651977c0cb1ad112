-- What is true of a node's history and of what is kept beside it.
use Rattle.std.specs.Prelude.{Bool, IsTrue, List, length, nat_le, ℕ, ◌+◌, ◌^◌, ◌≡◌, ◌≤◌}
use Rattle.std.specs.List.{list_all}
use Rattle.aft_records.specs.declared.stored.Commit.{Commit}
use Rattle.aft_records.specs.Kept.{Kept}
use Rattle.aft_model.specs.declared.node.NodeEntry.{NodeEntry}
use Rattle.aft_model.specs.Attempts.{attempts, rows}
use Rattle.aft_model.specs.Cache.{cache}
use Rattle.aft_model.specs.Known.{known, unannounced}
use Rattle.aft_model.specs.LegalNode.{LegalNode}
use Rattle.aft_model.specs.NodeState.{IsBooting, IsDown, IsServing, NodeState, newest, node_state, part}
use Rattle.aft_ledger.specs.declared.stage.Stage.{Stage}
use Rattle.aft_ledger.specs.declared.stage.Stage.TheVariants as stages
use Rattle.aft_ledger.specs.View.{NodeView}
use Rattle.aft_txn.specs.Rows.{Table}

-- what callers of the ledger see: beside what a node shows, whether one more entry has its room
pub record LedgerView : Type 0 where
  pub number : ℕ
  pub capacity : ℕ
  pub history : List NodeEntry
  pub front : ℕ
  pub room : ℕ
  pub has_room : Bool

-- what a node shows of it
abbrev pub shown : LedgerView → NodeView
shown ledger = record { number = ledger.number; capacity = ledger.capacity; history = ledger.history; front = ledger.front; room = ledger.room }

-- no front is above this one
abbrev pub FrontsWithin : ℕ → List NodeEntry → Type 0
FrontsWithin most history = IsTrue (list_all (λ entry. nat_le entry.front most) history)

-- ---- what the node is doing

-- the stage is what the node is doing
abbrev pub stage_of : NodeState → Stage
stage_of IsDown = stages.Down
stage_of (IsBooting inc running) = stages.Booting inc running
stage_of (IsServing s) = stages.Serving s.inc

-- how many of the incarnations so far are down
abbrev pub ended_by : Stage → ℕ
ended_by stages.Down = 0
ended_by (stages.Booting inc running) = 1
ended_by (stages.Serving inc) = 1

-- ---- all

-- the table of attempts that the history says
abbrev pub table_of : List NodeEntry → Table
table_of history = record { begun = length (attempts (part history)); rows = rows (part history) }

-- what a ledger holds: beside what it shows, the stage, the newest incarnation, the known commits, the table of attempts, the kept values, the commits to announce, and for how many entries there is space
pub record Held : Type 0 where
  pub number : ℕ
  pub capacity : ℕ
  pub history : List NodeEntry
  pub front : ℕ
  pub room : ℕ
  pub stage : Stage
  pub newest : ℕ
  pub commits : List Commit
  pub table : Table
  pub kept : List Kept
  pub fresh : List Commit
  pub space : ℕ

-- the history is legal, and what is kept beside it is what it says; there is room for each answer that is to come, and incarnations stay small, since each but the first follows an answer
pub record IsLedger (held : Held) : Type 0 where
  pub legal : LegalNode held.number held.capacity held.history
  pub fronts : FrontsWithin held.front held.history
  pub staged : held.stage ≡ stage_of (node_state held.history)
  pub incs : held.newest ≡ newest held.history
  pub knows : held.commits ≡ known held.history
  pub tabled : held.table ≡ table_of held.history
  pub keeps : held.kept ≡ cache held.capacity (part held.history)
  pub told : held.fresh ≡ unannounced (part held.history)
  pub fits : length held.history + held.room ≤ held.space
  pub few : held.newest + held.room ≤ 2 ^ 31 + ended_by held.stage
