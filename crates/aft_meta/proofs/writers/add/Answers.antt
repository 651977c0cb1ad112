use Rattle.std.proofs.Common.{[], ap, refl, subst, ◌∙◌, ◌||◌, Some}
use Rattle.std.specs.Prelude.{IsSome}
use Rattle.std.specs.Option.{unwrap_or}
use Rattle.aft_id.specs.TxnId.{same_id}
use Rattle.aft_records.specs.Commits.{is_listed}
use Rattle.aft_meta.proofs.Under.{one_more, same_under}
use Rattle.aft_meta.proofs.writers.add.Goals as goal

pub returns-in-Ok-clause-ok : goal.returns-in-Ok-clause-ok
returns-in-Ok-clause-ok c =
    one_more c.args.key.now c.args.id.now (Some c.add.new.self) c.args.writers.now.entries (c.get_mut.follows.lender c.add.new.self).entries
    (((c.get_mut.follows.holds c.add.new.self).3 (subst (λ o. IsSome o) c.in-Some.ensures.value refl)).0)
    (λ v. c.in-Ok.ensures.ok v ∙ ap (λ ids. is_listed v ids || same_id v c.args.id.now) (ap (λ o. unwrap_or o []) c.in-Some.ensures.value))

pub returns-in-Err-clause-err : goal.returns-in-Err-clause-err
returns-in-Err-clause-err c =
    same_under c.args.key.now c.args.id.now (Some c.add.new.self) c.args.writers.now.entries (c.get_mut.follows.lender c.add.new.self).entries
    (((c.get_mut.follows.holds c.add.new.self).3 (subst (λ o. IsSome o) c.in-Some.ensures.value refl)).0)
    (c.in-Err.ensures.err ∙ ap (λ o. unwrap_or o []) c.in-Some.ensures.value)
