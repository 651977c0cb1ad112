use Rattle.std.proofs.Common.{◌≡◌, ◌+◌, ap, refl, ◌∙◌, arith}
use Rattle.std.specs.Prelude.{None, Option, Some}
use Rattle.std.specs.Option.{option_map_or}
use Rattle.aft_id.specs.declared.txn_id.TxnId.{TxnId}
use Rattle.aft_ledger.proofs.Floors.{behind, floor_at, floor_none}
use Rattle.aft_ledger.proofs.ledger.asked.floor_of.Goals as goal

pub loop-key-init : goal.loop-key-init
loop-key-init c = let none = floor_none c.args.known.now in omega arith

one_behind : (o : Option TxnId) → option_map_or (λ (id : TxnId). id.time + 1) o 0 ≡ behind o
one_behind None = refl
one_behind (Some id) = omega arith

pub loop-key-preserved : goal.loop-key-preserved
loop-key-preserved c =
    let more = floor_at c.args.keys.now c.loop-key.key-index c.key-item.result c.args.known.now c.loop-key-test.true c.key-item.is in
    let before = c.loop-key.invariant in
    let newest = one_behind c.latest.result ∙ ap behind c.latest.ensures in
    let is = c.higher-floor.ensures in
    omega arith
