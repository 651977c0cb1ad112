use Rattle.std.proofs.Common.{ap, arith, ◌≡◌, ◌∙◌}
use Rattle.aft_script.specs.Generator.{Made, generated_steps, made_after}
use Rattle.aft_script.proofs.Made.{generated_few, generated_runnable}
use Rattle.aft_script.proofs.Generating.{made_after-next}
use Rattle.aft_script.proofs.generator.generate.Goals as goal

pub loop-before-init : goal.loop-before-init
unfolding made_after
loop-before-init c = record {
  made = ap (λ lines. let made : Made = record { state = c.args.first; lines = lines } in made) c.new.ensures.items;
  few = rw c.new.ensures.items (omega arith);
}

pub loop-before-preserved : goal.loop-before-preserved
loop-before-preserved c = record {
  made = made_after-next c.args.first c.loop-before.before _ _ _ _ c.loop-before.invariant.made c.in_ok-transaction.ensures.made c.in_ok-keep_nodes.ensures.made c.in_ok-keep_store.ensures.made;
  few = omega (arith, c.in_ok-transaction.ensures.few, c.in_ok-keep_nodes.ensures.few, c.in_ok-keep_store.ensures.few);
}

pub returns-clause-script : goal.returns-clause-script
returns-clause-script c =
    let all : c.loop-before.before ≡ c.args.count = omega arith in
    c.from_vec-lines.ensures ∙ ap (λ made. made.lines) (c.loop-before.invariant.made ∙ ap (made_after c.args.first) all)

pub returns-clause-order : goal.returns-clause-order
returns-clause-order c =
    let all : c.loop-before.before ≡ c.args.count = omega arith in
    c.from_vec.ensures ∙ c.in_ok-words.ensures
    ∙ ap generated_steps (c.as_slice.ensures.value ∙ ap (λ made. made.lines) (c.loop-before.invariant.made ∙ ap (made_after c.args.first) all))

pub returns-clause-runnable : goal.returns-clause-runnable
returns-clause-runnable c = rw (returns-clause-script c) (generated_runnable c.args.count c.args.first c.requires.few)

pub returns-clause-few : goal.returns-clause-few
returns-clause-few c = rw (returns-clause-script c) (generated_few c.args.count c.args.first c.requires.few)
