use Rattle.std.proofs.Common.{Some, None, sym, ap, ◌∙◌}
use Rattle.std.specs.Prelude.{if◌then◌else◌}
use Rattle.aft_select.proofs.Keys.{read_below-at}
use Rattle.aft_select.specs.Choosing.{below}
use Rattle.aft_select.proofs.reads.read_below.Goals as goal

pub returns-in_err-read : goal.returns-in_err-read
returns-in_err-read c = let none = c.from_residual.ensures in none ∙ ap (below c.args.id.now) c.in_err-read.ensures.value ∙ sym (read_below-at c.args.key.now c.args.id.now c.args.reads.now c.at.ensures.each_once)

pub returns-then-is_before : goal.returns-then-is_before
returns-then-is_before c =
    ap (λ t. if t then Some c.in_ok-read.read else None) (sym c.if-is_before.true ∙ c.is_before.ensures) ∙ ap (below c.args.id.now) c.in_ok-read.ensures.value
    ∙ sym (read_below-at c.args.key.now c.args.id.now c.args.reads.now c.at.ensures.each_once)

pub returns-else-is_before : goal.returns-else-is_before
returns-else-is_before c =
    ap (λ t. if t then Some c.in_ok-read.read else None) (sym c.if-is_before.false ∙ c.is_before.ensures) ∙ ap (below c.args.id.now) c.in_ok-read.ensures.value
    ∙ sym (read_below-at c.args.key.now c.args.id.now c.args.reads.now c.at.ensures.each_once)
