-- The fetches of gets: which lines fetch for an attempt, and at which fetch a line is.
use Rattle.std.specs.Prelude.{Bool, IsTrue, List, None, Option, Some, [], false, if◌then◌else◌, length, ℕ, ◌&&◌, ◌≡◌, ◌∷◌}
use Rattle.std.specs.List.{fold, list_any}
use Rattle.std.specs.Str.{bytes_eq}
use Rattle.aft_id.specs.declared.txn_id.TxnId.{TxnId}
use Rattle.aft_id.specs.TxnId.{same_id}
use Rattle.aft_model.specs.declared.caller.Attempt.{Attempt}
use Rattle.aft_model.specs.declared.caller.By.{By}
use Rattle.aft_model.specs.declared.node.NodeAct.{NodeAct}
use Rattle.aft_model.specs.declared.node.NodeAct.TheVariants.{Lost, Value}
use Rattle.aft_model.specs.declared.node.NodeEntry.{NodeEntry}
use Rattle.aft_model.specs.declared.script.Command.{Command}
use Rattle.aft_model.specs.declared.script.Command.TheVariants.{Get}
use Rattle.aft_model.specs.Attempts.{ends_fetch, fetches, open_reads, same_attempt}
use Rattle.aft_model.specs.NodeState.{IsServing, Service, node_state}
use Rattle.aft_model.specs.ScanRun.{same_line}
use Rattle.aft_lines.specs.Advance.{leads_to}
use Rattle.aft_lines.specs.CourseWords.{Ends}
use Rattle.aft_lines.specs.Holding.{is_open_since, picks_fetch}
use Rattle.aft_lines.specs.Progress.{Fetching, HasFetched, Progress}
use Rattle.aft_lines.specs.Steps.{Made, own_steps}
use Rattle.aft_lines.specs.Turns.{Turn}
use Rattle.law_claims.specs.Moments.{Asking, or_not_begun}

-- a fetch: of a version, for an attempt
pub record Fetch : Type 0 where
  pub attempt : Attempt
  pub key : List ℕ
  pub id : TxnId

-- the fetch that a line is at in a position, if it is at one
abbrev pub fetch_at : Progress → Option Fetch
fetch_at (Fetching a key id) = Some (record { attempt = a; key = key; id = id })
fetch_at (HasFetched a key id place) = Some (record { attempt = a; key = key; id = id })
fetch_at position = None

-- whether an act ends this fetch
abbrev pub ends_this : Fetch → NodeAct → Bool
ends_this fetch (Value b key id place kept) = same_attempt fetch.attempt b && bytes_eq fetch.key key && same_id fetch.id id
ends_this fetch (Lost b key id) = same_attempt fetch.attempt b && bytes_eq fetch.key key && same_id fetch.id id
ends_this fetch act = false

-- ---- the lines that fetch for an attempt

-- lines without the last that is this one
abbrev pub without_line : By → List By → List By
without_line by [] = []
without_line by (other ∷ lines) = if same_line by other then lines else other ∷ without_line by lines

-- the lines that fetch after an act of a line: the last one first
abbrev pub fetching_after : Attempt → By → List By → NodeAct → List By
fetching_after a by before act = if fetches a act then by ∷ before else if ends_fetch a act then without_line by before else before

-- the lines that fetch for an attempt after a part
abbrev pub fetching : Attempt → List NodeEntry → List By
fetching a part = fold (λ before entry. fetching_after a entry.by before entry.act) [] part

-- ---- at a moment

-- the fetch that a line of a get is at, behind its turns
abbrev pub fetch_behind : List ℕ → Ends → List Turn → Option Command → Option Fetch
fetch_behind nodes ends line (Some (Get key)) = fetch_at (or_not_begun (leads_to (Get key) nodes ends line))
fetch_behind nodes ends line command = None

-- the same behind some steps
abbrev pub fetch_of : Asking → List Made → By → Option Fetch
fetch_of asking made by = fetch_behind asking.nodes (asking.ends by) (own_steps by made) (asking.command by)

-- what each moment keeps of fetches: an attempt has as many that aren't over as lines that fetch for it; each line that is at a fetch has picked its version; and while the node serves the attempt's incarnation, the line is among those, and the fetch stood open since the pick
pub record KeepsFetches (node : ℕ → List NodeEntry) (fetch : By → Option Fetch) : Type 0 where
  pub counted : (number : ℕ) (s : Service) (a : Attempt) → node_state (node number) ≡ IsServing s → length (fetching a s.part) ≡ open_reads a s.part
  pub picked : (by : By) (f : Fetch) → fetch by ≡ Some f → IsTrue (list_any (λ entry. picks_fetch f.attempt f.key f.id entry.act) (node f.attempt.node))
  pub stands : (by : By) (f : Fetch) (s : Service) → fetch by ≡ Some f → node_state (node f.attempt.node) ≡ IsServing s → f.attempt.inc ≡ s.inc → IsTrue (list_any (same_line by) (fetching f.attempt s.part)) × IsTrue (is_open_since by f.attempt f.key f.id [] s.part)
