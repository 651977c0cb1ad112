use Rattle.std.proofs.Common.{◌∙◌}
use Rattle.aft_ledger.proofs.Told.{told_or}
use Rattle.aft_ledger.proofs.ledger.known.learn_told.Goals as goal

pub returns-clause-told : goal.returns-clause-told
returns-clause-told c =
    c.told_reply.ensures ∙ (told_or c.args.known.now c.args.commits.now c.learn_all-learned.result.0 c.learn_all-learned.result.1 c.learn_all-learned.ensures.some c.learn_all-learned.ensures.told)
