-- Who may close what it opened: a line whose last entry at the node is the opening.
use Rattle.std.specs.Prelude.{Bool, IsTrue, List, None, Option, Some, false, if◌then◌else◌, ℕ, ◌&&◌, ◌==◌}
use Rattle.std.specs.List.{fold}
use Rattle.std.specs.Str.{bytes_eq}
use Rattle.aft_id.specs.declared.txn_id.TxnId.{TxnId}
use Rattle.aft_id.specs.TxnId.{same_id}
use Rattle.aft_model.specs.declared.caller.Attempt.{Attempt}
use Rattle.aft_model.specs.declared.caller.By.{By}
use Rattle.aft_model.specs.declared.choice.Picked.TheVariants as picked
use Rattle.aft_model.specs.declared.node.NodeAct.{NodeAct}
use Rattle.aft_model.specs.declared.node.NodeAct.TheVariants as acts
use Rattle.aft_model.specs.declared.node.NodeEntry.{NodeEntry}
use Rattle.aft_model.specs.Attempts.{same_attempt}
use Rattle.aft_model.specs.ScanRun.{same_line}

-- the act of a line's last entry
abbrev pub last_own : By → List NodeEntry → Option NodeAct
last_own by history = fold (λ before entry. if same_line by entry.by then Some entry.act else before) None history

-- whether an act that there is passes a test
abbrev pub act_passes : (NodeAct → Bool) → Option NodeAct → Bool
act_passes test None = false
act_passes test (Some act) = test act

-- whether an act opens a begin or a forget of this attempt
abbrev pub opens_begin : Attempt → NodeAct → Bool
opens_begin a (acts.Admit b uuid) = same_attempt a b
opens_begin a act = false

-- whether an act opens the fetch of a version, for this attempt
abbrev pub opens_fetch : Attempt → List ℕ → TxnId → NodeAct → Bool
opens_fetch a key id (acts.Select b got (picked.Fetch at)) = same_attempt a b && bytes_eq key got && same_id id at
opens_fetch a key id act = false

-- whether an act opens a commit or an abort of this attempt, or stores its commit
abbrev pub opens_finish : Attempt → NodeAct → Bool
opens_finish a (acts.Start b now c) = same_attempt a b
opens_finish a (acts.Settle b) = same_attempt a b
opens_finish a (acts.Leave b) = same_attempt a b
opens_finish a (acts.Stored b c) = same_attempt a b
opens_finish a act = false

-- whether an act opens the boot of an incarnation
abbrev pub opens_boot : ℕ → NodeAct → Bool
opens_boot inc (acts.Booting booting) = inc == booting
opens_boot inc act = false

-- the last entry of a line is the opening of what it may close
abbrev pub MayClose : (NodeAct → Bool) → By → List NodeEntry → Type 0
MayClose opens by history = IsTrue (act_passes opens (last_own by history))
