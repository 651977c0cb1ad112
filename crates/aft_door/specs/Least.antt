-- The least node of those that are up and have kept an id, as far as a map was gone through.
use Rattle.std.specs.Prelude.{Bool, IsFalse, IsTrue, List, None, Option, Some, if◌then◌else◌, nat_lt, not, ℕ, ◌&&◌, ◌==◌, ◌≡◌, ◌≤◌}
use Rattle.std.specs.List.{list_any}
use Rattle.std.specs.Map.{lookup}
use Rattle.aft_id.specs.declared.txn_id.TxnId.{TxnId}
use Rattle.aft_door.specs.declared.index.GivenUp.{GivenUp}
use Rattle.aft_door.specs.Index.{same_given}
use Rattle.aft_model.specs.Membership.{Incarnation, incarnation}
use Rattle.aft_model.proofs.Histories.{In}

-- the entry of the lesser node
abbrev pub lesser_pair : Option (ℕ × ℕ) → ℕ × ℕ → Option (ℕ × ℕ)
lesser_pair None e = Some e
lesser_pair (Some least) e = if nat_lt e.0 least.0 then Some e else Some least

-- the least entry that passes a test, of those that were gone through, if one does
abbrev pub LeastKept : (Incarnation → Bool) → List (ℕ × ℕ) → List (ℕ × ℕ) → Option (ℕ × ℕ) → Type 0
LeastKept kept entries done None = (e : ℕ × ℕ) → In e done → IsFalse (kept (incarnation e.0 e.1))
LeastKept kept entries done (Some least) =
    (lookup (λ key. least.0 == key) entries ≡ Some least.1) × IsTrue (kept (incarnation least.0 least.1)) × ((e : ℕ × ℕ) → In e done → IsTrue (kept (incarnation e.0 e.1)) → least.0 ≤ e.0)

-- whether an incarnation is one of a node, and its give-up of an id isn't among some
abbrev pub keeps : TxnId → List GivenUp → Incarnation → Bool
keeps id given who = not (who.node == 0) && not (list_any (same_given (record { node = who.node; inc = who.inc; id = id })) given)
