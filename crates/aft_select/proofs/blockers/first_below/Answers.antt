use Rattle.std.proofs.Common.{◌+◌, drop, sym, ap, ◌∙◌}
use Rattle.aft_model.specs.Choice.{first_below}
use Rattle.aft_select.proofs.Keys.{blocked_or, first_below-drop}
use Rattle.aft_select.proofs.blockers.first_below.Goals as goal

pub returns-in-Some : goal.returns-in-Some
returns-in-Some c =
    let step = first_below-drop c.args.id.now c.args.reads.now c.args.keys.now c.loop-key.key-index c.key-item.result c.loop-key-test.true c.key-item.is in
    let rest = first_below c.args.id.now c.args.reads.now (drop (c.loop-key.key-index + 1) c.args.keys.now) in
    rw c.in_ok-key.ensures.cases (ap (λ o. blocked_or c.args.id.now c.key-item.result o rest) (sym c.in-Some.is ∙ c.read_below.ensures) ∙ sym step ∙ c.loop-key.invariant)

pub loop-key-preserved : goal.loop-key-preserved
loop-key-preserved c =
    let step = first_below-drop c.args.id.now c.args.reads.now c.args.keys.now c.loop-key.key-index c.key-item.result c.loop-key-test.true c.key-item.is in
    let rest = first_below c.args.id.now c.args.reads.now (drop (c.loop-key.key-index + 1) c.args.keys.now) in
    ap (λ o. blocked_or c.args.id.now c.key-item.result o rest) (sym c.in_default.is ∙ c.read_below.ensures) ∙ sym step ∙ c.loop-key.invariant
