use Rattle.std.proofs.Common.{ap, ◌∙◌}
use Rattle.aft_ledger.specs.Holding.{fixed_in}
use Rattle.aft_ledger.proofs.Asked.{told_fixes}
use Rattle.aft_ledger.proofs.ledger.asked.is_fixed.Goals as goal

pub returns : goal.returns
returns c = c.fixes.ensures ∙ (ap (fixed_in c.args.id.now) c.find.ensures.found ∙ told_fixes c.args.id.now c.args.id.now.uuid c.args.table.now.rows)
