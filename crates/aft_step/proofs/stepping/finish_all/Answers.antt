use Rattle.std.proofs.Common.{arith, ℕ, [], length, refl, subst, ◌∙◌, ◌≡◌}
use Rattle.aft_step.specs.Crowding.{ComesTo}
use Rattle.aft_step.specs.Worlds.{shown}
use Rattle.aft_step.proofs.stepping.finish_all.Goals as goal

pub loop-index-init : goal.loop-index-init
loop-index-init g c = ((λ asked is clock come. come), record { contents = refl; log = refl })

pub finish-requires-clause-stands : goal.finish-requires-clause-stands
finish-requires-clause-stands g c = let it = c.requires.stands in (it.0, it.1, it.2, c.loop-index.invariant.0 it.0 it.1 it.2 it.3)

pub loop-index-preserved : goal.loop-index-preserved
loop-index-preserved g c = (
  λ asked is clock come. c.finish.ensures.goes asked is clock (c.loop-index.invariant.0 asked is clock come),
  record { contents = c.finish.ensures.store.contents ∙ c.loop-index.invariant.1.contents; log = c.finish.ensures.store.log ∙ c.loop-index.invariant.1.log },
)

pub returns-clause-goes : goal.returns-clause-goes
returns-clause-goes g c asked is clock come =
    let all : c.loop-index.index ≡ length c.args.lines.now = omega arith in
    subst (λ (past : ℕ). ComesTo asked [] past (shown c.loop-index.world.door c.loop-index.world.nodes c.loop-index.world.boxes c.loop-index.world.office) c.loop-index.clients) all (c.loop-index.invariant.0 asked is clock come)

pub returns-clause-store : goal.returns-clause-store
returns-clause-store g c = c.loop-index.invariant.1
