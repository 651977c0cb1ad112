use Rattle.std.proofs.Common.{◌≡◌, ℕ, ◌&&◌, ◌||◌, List, take}
use Rattle.std.specs.List.{list_any}
use Rattle.std.specs.Str.{bytes_eq}
use Rattle.aft_id.specs.TxnId.{id_lt}
use Rattle.aft_id.specs.declared.txn_id.TxnId.{TxnId}
use Rattle.aft_audit.specs.Newest.{is_newer}
use Rattle.aft_audit.proofs.newest.raise_each.Given as goal

-- the id is noted of the keys so far
abbrev pub invariant-loop-key : goal.invariant-loop-key
invariant-loop-key l = (k : List ℕ) (v : TxnId) → is_newer k v l.newest.entries ≡ (is_newer k v l.initial.newest.entries || (list_any (bytes_eq k) (take l.key-index l.keys) && id_lt v l.commit.id))
