-- How a line's fetch of a version ends, and where it stood.
use Rattle.std.specs.Prelude.{Bool, List, [], nat_le, not, true, ℕ, ◌&&◌, ◌||◌, ◌≡◌, ◌⊎◌}
use Rattle.std.specs.List.{list_all}
use Rattle.aft_id.specs.declared.txn_id.TxnId.{TxnId}
use Rattle.aft_model.specs.declared.caller.Attempt.{Attempt}
use Rattle.aft_model.specs.declared.caller.By.{By}
use Rattle.aft_model.specs.declared.node.NodeAct.{NodeAct}
use Rattle.aft_model.specs.declared.node.NodeAct.TheVariants.{Lost, Value}
use Rattle.aft_model.specs.declared.node.NodeEntry.{NodeEntry}
use Rattle.aft_model.specs.History.{each_after}
use Rattle.aft_model.specs.ScanRun.{same_line}
use Rattle.aft_lines.specs.Holding.{picks_fetch}

-- an act ends the fetch of a version of a key for an attempt: its value came, or it is lost
abbrev pub EndsFetch : Attempt → List ℕ → TxnId → NodeAct → Type 0
EndsFetch a key id act = ((place : ℕ) × (kept : Bool) × (act ≡ Value a key id place kept)) ⊎ (act ≡ Lost a key id)

-- whether a line's pick of this version, if an entry is one, stands at a front of at most this place
abbrev pub is_picked_by : By → Attempt → List ℕ → TxnId → ℕ → NodeEntry → Bool
is_picked_by by a key id place entry = not (same_line by entry.by && picks_fetch a key id entry.act) || nat_le entry.front place

-- whether a value came from a place that none of its line's picks of the version stands behind
abbrev pub is_behind_picks : List NodeEntry → By → NodeAct → Bool
is_behind_picks before by (Value a key id place kept) = list_all (is_picked_by by a key id place) before
is_behind_picks before by act = true

-- whether each value of a history did
abbrev pub come_behind_picks : List NodeEntry → Bool
come_behind_picks history = each_after (λ before entry. is_behind_picks before entry.by entry.act) [] history
