use Rattle.std.proofs.Common.{rules, arith, ap, sym, ◌∙◌, ◌∷◌, Some}
use Rattle.atomic_table.specs.Table.{rest}
use Rattle.aft_chron.proofs.Turns.{knows}
use Rattle.aft_chron.proofs.chron.steps.take.Goals as goal

pub load-entries-requires : goal.load-entries-requires
load-entries-requires g c = (search rules, omega arith, knows _ _ _ _ _ _ _ c.args.number (search rules) (search rules))

pub exchange-requires : goal.exchange-requires
exchange-requires g c = let told = c.load-entries.ensures.2 in let carried = ap (λ m. m.1) told.1 in
    (search rules, (Some told.0, carried ∙ ap (λ cs. (0, Some told.0) ∷ rest cs) (sym carried)))
