use Rattle.std.proofs.Common.{ap, sym, ◌∙◌}
use Rattle.std.specs.Prelude.{if◌then◌else◌}
use Rattle.aft_id.specs.TxnId.{same_id}
use Rattle.aft_model.specs.Origins.{with_id}
use Rattle.aft_ledger.proofs.ReadIds.{id_placed}
use Rattle.aft_ledger.proofs.origin.note_id.Goals as goal

pub returns : goal.returns
returns c =
    c.in_ok-insert.ensures.keys ∙ (id_placed c.args.ids.now.keys c.args.id.now
    ∙ sym (ap (λ t. if t then c.args.ids.now.keys else with_id c.args.ids.now.keys c.args.id.now) (ap (same_id c.args.id.now) (sym c.zero.ensures) ∙ (sym c.eq.ensures ∙ c.if-eq.false))))
