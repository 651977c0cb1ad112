use Rattle.std.proofs.Common.{◌+◌, ◌-◌, ◌/◌, arith}
use Rattle.std.specs.declared.cmp.Ordering.TheVariants.{Greater, Less}
use Rattle.aft_keeper.proofs.Contents.{IsRising-from_Ascends}
use Rattle.aft_audit.proofs.Search.{compared, found_nowhere, goes_down, goes_up}
use Rattle.aft_audit.proofs.pairs.place_of.Goals as goal

pub loop-low-preserved-in-Less : goal.loop-low-preserved-in-Less
loop-low-preserved-in-Less c =
    let middle = c.loop-low.low + (c.loop-low.high - c.loop-low.low) / 2 in
    let within = c.loop-low.invariant.within in
    let test = c.loop-low-test.true in
    goes_up c.args.name.now c.args.pairs.now c.loop-low.low c.loop-low.high middle (IsRising-from_Ascends c.args.pairs.now c.requires) (omega arith)
    (compared c.args.name.now c.args.pairs.now middle c.index-pairs-middle.result c.compare.result Less (omega arith) c.index-pairs-middle.is c.compare.ensures c.in-Less.is) c.loop-low.invariant

pub loop-low-preserved : goal.loop-low-preserved
loop-low-preserved c =
    let middle = c.loop-low.low + (c.loop-low.high - c.loop-low.low) / 2 in
    let within = c.loop-low.invariant.within in
    let test = c.loop-low-test.true in
    goes_down c.args.name.now c.args.pairs.now c.loop-low.low c.loop-low.high middle (IsRising-from_Ascends c.args.pairs.now c.requires) (omega arith) (omega arith)
    (compared c.args.name.now c.args.pairs.now middle c.index-pairs-middle.result c.compare.result Greater (omega arith) c.index-pairs-middle.is c.compare.ensures c.in-Greater.is) c.loop-low.invariant

pub returns-clause-none : goal.returns-clause-none
returns-clause-none c = found_nowhere c.args.name.now c.args.pairs.now c.loop-low.low c.loop-low.high c.loop-low-test.false c.loop-low.invariant
