use Rattle.std.proofs.Common.{◌≡◌, ◌∙◌, ◌++◌, ◌∷◌, [], sym}
use Rattle.std.specs.Option.{option_copied}
use Rattle.std.proofs.lemmas.Result.{err_from_is_err_and}
use Rattle.aft_fields.proofs.Texts.{goes_on, stops, ends, is_done}
use Rattle.aft_fields.proofs.reading.so_many_texts.Goals as goal

pub returns-in_err-text : goal.returns-in_err-text
returns-in_err-text c =
    let p = err_from_is_err_and c.from_residual.result c.from_residual.ensures.1 in
    rw (p.1, p.2) (ends c.args.field c.loop.texts.items c.args.count c.loop.counter (option_copied c.loop.before) c.loop.rest _ c.in_err-text.field-0.0 c.loop-test.true c.in_err-text.ensures c.loop.invariant)

pub returns-then-not-follows : goal.returns-then-not-follows
returns-then-not-follows c = stops c.args.field c.loop.texts.items c.args.count c.loop.counter (option_copied c.loop.before) c.loop.rest _ c.in_ok-text.text.now c.in_ok-text.after c.loop-test.true c.in_ok-text.ensures (sym c.follows.ensures ∙ c.if-not-follows.true) c.loop.invariant

pub loop-preserved : goal.loop-preserved
loop-preserved c =
    let text = c.in_ok-text.text.now in
    let pushed : c.push.new.self.items ≡ c.loop.texts.items ++ text ∷ [] = rw (c.in_ok-push.ensures.items, c.in_ok-copied.ensures) in
    rw pushed (goes_on c.args.field c.loop.texts.items c.args.count c.loop.counter (option_copied c.loop.before) c.loop.rest _ text c.in_ok-text.after c.loop-test.true c.in_ok-text.ensures (sym c.follows.ensures ∙ c.if-not-follows.false) c.loop.invariant)

pub returns : goal.returns
returns c = is_done c.args.field c.loop.texts.items c.args.count c.loop.counter (option_copied c.loop.before) c.loop.rest _ c.loop-test.false c.loop.invariant
