use Rattle.std.proofs.Common.{[], refl, ap, subst, sym, not, ◌∙◌, ◌&&◌, Some, None}
use Rattle.std.specs.Prelude.{IsSome}
use Rattle.std.specs.Option.{unwrap_or}
use Rattle.aft_id.specs.TxnId.{same_id}
use Rattle.aft_records.specs.Commits.{is_listed}
use Rattle.aft_meta.proofs.Under.{one_less_under, twice, writers_at}
use Rattle.aft_meta.proofs.writers.take.Goals as goal

pub returns-then-is_empty : goal.returns-then-is_empty
returns-then-is_empty c =
    let ids = c.take.new.self in
    let first = ((c.get_mut.follows.holds ids).3 (subst (λ o. IsSome o) c.in-Some.ensures.value refl)).0 in
    one_less_under c.args.key.now c.args.id.now None c.args.writers.now.entries c.remove.new.self.entries
    (λ k. twice c.args.key.now k (Some ids) (writers_at k c.args.writers.now.entries) (writers_at k (c.get_mut.follows.lender ids).entries) (writers_at k c.remove.new.self.entries) (c.remove.ensures.updates.0 k) (first k))
    (λ v. ap (is_listed v) (sym (c.if-is_empty.ensures refl)) ∙ c.take.ensures v ∙ ap (λ z. is_listed v z && not (same_id v c.args.id.now)) (ap (λ o. unwrap_or o []) c.in-Some.ensures.value))

pub returns-else-is_empty : goal.returns-else-is_empty
returns-else-is_empty c =
    let ids = c.take.new.self in
    one_less_under c.args.key.now c.args.id.now (Some ids) c.args.writers.now.entries (c.get_mut.follows.lender ids).entries
    (((c.get_mut.follows.holds ids).3 (subst (λ o. IsSome o) c.in-Some.ensures.value refl)).0)
    (λ v. c.take.ensures v ∙ ap (λ z. is_listed v z && not (same_id v c.args.id.now)) (ap (λ o. unwrap_or o []) c.in-Some.ensures.value))
