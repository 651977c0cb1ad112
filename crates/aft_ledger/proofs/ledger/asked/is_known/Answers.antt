use Rattle.std.proofs.Common.{ap, sym, ◌∙◌}
use Rattle.std.specs.Prelude.{is_some}
use Rattle.aft_ledger.proofs.Asked.{known_has, some-copied}
use Rattle.aft_ledger.proofs.ledger.asked.is_known.Goals as goal

pub returns : goal.returns
returns c = c.is_some.ensures ∙ (sym (some-copied c.keys_of.result) ∙ (ap is_some c.keys_of.ensures.keys ∙ known_has c.args.id c.args.known.now))
