use Rattle.std.proofs.Common.{◌≡◌, ◌+◌, ◌++◌, ◌∷◌, [], ap, arith, subst, sym, take, ◌∙◌}
use Rattle.std.proofs.lemmas.List.{take_more}
use Rattle.std.proofs.lemmas.Option.{get_or_from_slice_get}
use Rattle.aft_door.specs.Least.{LeastKept, keeps}
use Rattle.aft_door.proofs.Holdouts.{least_step}
use Rattle.aft_door.proofs.ledger.least_kept.Goals as goal

pub loop-place-preserved : goal.loop-place-preserved
loop-place-preserved c =
    let es = c.args.ups.now.entries in
    let e = c.entry_at.result in
    let k = keeps c.args.id.now c.args.given.now.keys in
    let len = c.len-place-end.ensures.len in
    let below = c.loop-place-test.true in
    let at : take (c.loop-place.place + 1) es ≡ take c.loop-place.place es ++ e ∷ [] = take_more es c.loop-place.place e (omega arith) ∙ ap (λ x. take c.loop-place.place es ++ x ∷ []) (get_or_from_slice_get es c.loop-place.place e e c.entry_at.ensures.entry) in
    subst (λ xs. LeastKept k es xs c.next_least-least.result) (sym at)
    (subst (λ o. LeastKept k es (take c.loop-place.place es ++ e ∷ []) o) (sym c.next_least-least.ensures) (least_step k es (take c.loop-place.place es) c.loop-place.least e c.entry_at.ensures.found c.loop-place.invariant))
