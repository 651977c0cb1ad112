use Rattle.std.proofs.Common.{sym, ◌∙◌}
use Rattle.aft_txn.proofs.Buffers.{buffered-drop}
use Rattle.aft_txn.proofs.buffer.value_of.Goals as goal

pub returns-then-eq : goal.returns-then-eq
returns-then-eq c =
    let step = buffered-drop c.args.key.now c.args.writes.now c.loop-write.write-index c.write-item.result c.loop-write-test.true c.write-item.is in
    let same = sym c.eq.ensures ∙ c.if-eq.true in
    let met = rw same at step in
    sym met ∙ c.loop-write.invariant

pub loop-write-preserved : goal.loop-write-preserved
loop-write-preserved c =
    let step = buffered-drop c.args.key.now c.args.writes.now c.loop-write.write-index c.write-item.result c.loop-write-test.true c.write-item.is in
    let other = sym c.eq.ensures ∙ c.if-eq.false in
    let met = rw other at step in
    sym met ∙ c.loop-write.invariant
