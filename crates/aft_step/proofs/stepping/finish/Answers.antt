use Rattle.aft_step.proofs.Finishing.{finishes, is_done, may_finish}
use Rattle.std.proofs.Common.{refl, sym, ◌∙◌}
use Rattle.std.proofs.lemmas.Bool.{true≢false}
use Rattle.aft_step.proofs.stepping.finish.Goals as goal

pub go_on-requires-clause-stands : goal.go_on-requires-clause-stands
go_on-requires-clause-stands g c =
    let it = c.requires.stands in
    let may = may_finish it.0 c.args.lines.now it.1 c.args.index c.requires.within _ c.args.clients.now it.3 c.index-lines-index.result c.index-clients-lines.result (c.is_at.ensures.0 c.if-is_at.true) in
    (it.0, it.3.stand, it.3.seats, it.1, it.2, may.0, may.1)

pub returns-then-is_at-clause-goes : goal.returns-then-is_at-clause-goes
returns-then-is_at-clause-goes g c asked is clock come =
    finishes asked c.args.lines.now is c.args.index c.requires.within _ c.args.clients.now come c.index-lines-index.result c.index-clients-lines.result (c.is_at.ensures.0 c.if-is_at.true) _ c.go_on.new.self
    c.go_on.ensures.number c.go_on.ensures.within (c.go_on.ensures.whole refl) (λ i one at its up none. c.go_on.ensures.past i one refl at its up none) (c.go_on.ensures.goes asked come.stand come.seats is clock)

pub returns-else-is_at-clause-goes : goal.returns-else-is_at-clause-goes
returns-else-is_at-clause-goes g c asked is clock come =
    is_done asked c.args.lines.now is c.args.index c.requires.within _ c.args.clients.now come c.index-lines-index.result c.index-clients-lines.result (λ low. true≢false (sym (c.is_at.ensures.1 low) ∙ c.if-is_at.false))
