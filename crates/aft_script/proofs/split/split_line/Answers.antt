use Rattle.std.proofs.Common.{None, Some, arith, length, position, ◌<◌, ◌==◌, ◌≡◌}
use Rattle.std.proofs.lemmas.Grind.{common_steps}
use Rattle.aft_script.proofs.Splits.{last_line, line_and_rest}
use Rattle.aft_script.proofs.split.split_line.Goals as goal

pub returns-in-Some : goal.returns-in-Some
returns-in-Some c =
    let at : position (λ b. b == 10) c.args.text.now ≡ Some c.in-Some.end = cc in
    line_and_rest c.args.text.now _ _ c.in-Some.end at c.in-Some.ensures.within c.without_return.ensures c.behind.ensures

pub returns-in-None : goal.returns-in-None
returns-in-None c =
    let at : position (λ b. b == 10) c.args.text.now ≡ None = cc in
    let some : 0 < length c.args.text.now = grind (arith, common_steps) in
    last_line c.args.text.now _ some at c.behind-in-None.ensures
