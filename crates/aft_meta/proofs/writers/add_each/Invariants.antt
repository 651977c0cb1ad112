use Rattle.std.proofs.Common.{◌≡◌, ℕ, ◌&&◌, ◌||◌, List, take}
use Rattle.std.specs.List.{list_any}
use Rattle.std.specs.Str.{bytes_eq}
use Rattle.aft_id.specs.TxnId.{same_id}
use Rattle.aft_id.specs.declared.txn_id.TxnId.{TxnId}
use Rattle.aft_meta.specs.Index.{stands_under}
use Rattle.aft_meta.proofs.writers.add_each.Given as goal

-- the id stands under the keys so far
abbrev pub invariant-loop-key : goal.invariant-loop-key
invariant-loop-key l = (k : List ℕ) (v : TxnId) → stands_under k v l.writers.entries ≡ (stands_under k v l.initial.writers.entries || (list_any (bytes_eq k) (take l.key-index l.keys) && same_id v l.id))
