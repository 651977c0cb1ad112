use Rattle.std.proofs.Common.{rules, sym, ap, ◌∙◌, subst, length}
use Rattle.std.specs.Prelude.{IsSome}
use mathlib.Core.List.{IsPrefix}
use Rattle.aft_chron.specs.Standing.{Standing, IsEach}
use Rattle.aft_chron.proofs.Parts.{found, returned}
use Rattle.aft_chron.proofs.chron.Chron.close.Goals as goal

pub value_of-value-requires : goal.value_of-value-requires
value_of-value-requires g c =
    let f = found g.V.Storied.history g.V.Storied.count _ _ _ c.into_seat-seat.result.0.me.0 _ _ c.take.result (search rules) (search rules) (search rules) c.close_with-closed.ensures.values.2 c.take.ensures.value in
    subst IsSome (sym f.1) (search rules)

pub returns-clause-history : goal.returns-clause-history
returns-clause-history g c =
    let r = returned g.V.Storied.history g.V.Storied.count _ _ _ c.into_seat-seat.result.0.me.0 _ _ c.take.result c.value_of-value.result (search rules) (search rules) (search rules) c.close_with-closed.ensures.values.2 c.take.ensures.value c.value_of-value.ensures in
    r.history_is ∙ ap (λ (z : Standing g.row.V-Entry.Denot). z.seen) (sym c.into_seat-seat.ensures.pass)

pub returns-clause-opening : goal.returns-clause-opening
returns-clause-opening g c =
    let r = returned g.V.Storied.history g.V.Storied.count _ _ _ c.into_seat-seat.result.0.me.0 _ _ c.take.result c.value_of-value.result (search rules) (search rules) (search rules) c.close_with-closed.ensures.values.2 c.take.ensures.value c.value_of-value.ensures in
    subst (λ (z : Standing g.row.V-Entry.Denot). IsPrefix z.opening z.seen) (sym c.into_seat-seat.ensures.pass) r.begun

pub returns-clause-made : goal.returns-clause-made
returns-clause-made g c =
    let r = returned g.V.Storied.history g.V.Storied.count _ _ _ c.into_seat-seat.result.0.me.0 _ _ c.take.result c.value_of-value.result (search rules) (search rules) (search rules) c.close_with-closed.ensures.values.2 c.take.ensures.value c.value_of-value.ensures in
    subst (λ (z : Standing g.row.V-Entry.Denot). IsEach z.made (length z.opening) (length z.seen)) (sym c.into_seat-seat.ensures.pass) r.made

pub returns-clause-counts : goal.returns-clause-counts
returns-clause-counts g c =
    let r = returned g.V.Storied.history g.V.Storied.count _ _ _ c.into_seat-seat.result.0.me.0 _ _ c.take.result c.value_of-value.result (search rules) (search rules) (search rules) c.close_with-closed.ensures.values.2 c.take.ensures.value c.value_of-value.ensures in
    r.count_is ∙ ap (λ (z : Standing g.row.V-Entry.Denot). z.counted) (sym c.into_seat-seat.ensures.pass)
