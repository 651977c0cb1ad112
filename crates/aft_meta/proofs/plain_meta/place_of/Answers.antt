use Rattle.std.proofs.Common.{not, sym, ◌∙◌}
use Rattle.aft_id.specs.TxnId.{id_lt}
use Rattle.aft_meta.proofs.Places.{found_at, found_nowhere, prefix_len-le}
use Rattle.aft_meta.proofs.plain_meta.place_of.Goals as goal

pub returns-in-Some : goal.returns-in-Some
returns-in-Some c = found_at _ _ _ (sym c.first_above.ensures ∙ c.in-Some.is)

pub returns-in-None : goal.returns-in-None
returns-in-None c =
    found_nowhere _ _ (prefix_len-le (λ other. not (id_lt c.args.id.now other.id)) c.args.commits.now) (sym c.first_above.ensures ∙ c.in-None.is)
