use Rattle.std.proofs.Common.{arith, length, subst, ◌≤◌, ◌<◌, List, sym}
use Rattle.aft_model.specs.declared.script.Line.{Line}
use Rattle.aft_step.proofs.Words.{follows, may_follow, nobody, within_so}
use Rattle.aft_step.proofs.stepping.follow.Goals as goal

pub go_on-requires-clause-at : goal.go_on-requires-clause-at
go_on-requires-clause-at g c =
    let it = c.requires.stands in
    let small : c.args.word.client < 4294967296 = omega arith in
    within_so it.0 c.args.word it.1 _ c.args.clients.now it.5 small c.index-clients-index.result c.if-index-clients.true c.args.lines.now it.2

pub go_on-requires-clause-stands : goal.go_on-requires-clause-stands
go_on-requires-clause-stands g c =
    let it = c.requires.stands in
    let small : c.args.word.client < 4294967296 = omega arith in
    let may = may_follow it.0 c.args.word it.1 _ c.args.clients.now it.5 small c.index-clients-index.result c.if-index-clients.true in
    (it.0, it.5.stand, it.5.seats, it.2, it.3, may.0, may.1)

pub returns-then-index-clients-clause-goes : goal.returns-then-index-clients-clause-goes
returns-then-index-clients-clause-goes g c asked rest is clock its come =
    let small : c.args.word.client < 4294967296 = omega arith in
    follows asked c.args.word rest _ c.args.clients.now come small c.index-clients-index.result c.if-index-clients.true its _ c.go_on.new.self
    c.go_on.ensures.number (subst (λ (l : List Line). c.go_on.new.self.at ≤ length l) (sym is) c.go_on.ensures.within) c.go_on.ensures.whole (c.go_on.ensures.goes asked come.stand come.seats is clock)

pub returns-else-index-clients-clause-goes : goal.returns-else-index-clients-clause-goes
returns-else-index-clients-clause-goes g c asked rest is clock its come = nobody asked c.args.word rest _ c.args.clients.now come c.if-index-clients.false
