use Rattle.std.proofs.Common.{ap, arith, suc, sym, ◌+◌, ◌++◌, ◌≡◌, ◌∙◌}
use Rattle.aft_script.specs.Generator.{times}
use Rattle.aft_script.proofs.generator.times.Goals as goal

pub loop-done-init : goal.loop-done-init
unfolding times
loop-done-init c = c.new-all.ensures.items

pub loop-done-preserved : goal.loop-done-preserved
unfolding times
loop-done-preserved c =
    let one : c.loop-done._done + 1 ≡ suc c.loop-done._done = omega arith in
    c.in_ok-extend_from_slice.ensures.items ∙ ap (λ all. all ++ c.args.steps.now) c.loop-done.invariant ∙ sym (ap (λ n. times n c.args.steps.now) one)
