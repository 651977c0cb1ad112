use Rattle.std.proofs.Common.{sym, ap, ◌∙◌}
use Rattle.aft_id.specs.TxnId.{same_id, zero_id}
use Rattle.aft_select.proofs.Keys.{is_read-at}
use Rattle.aft_select.specs.Choosing.{is_at}
use Rattle.aft_select.proofs.choose.is_read_absent.Goals as goal

pub returns-in-Some : goal.returns-in-Some
returns-in-Some c =
    c.eq.ensures ∙ ap (λ zero. same_id zero c.in-Some.id) c.zero.ensures ∙ ap (is_at zero_id) c.in-Some.ensures.value
    ∙ sym (is_read-at c.args.key.now zero_id c.args.reads.now c.at.ensures.each_once)

pub returns-in-None : goal.returns-in-None
returns-in-None c = ap (is_at zero_id) c.in-None.ensures.value ∙ sym (is_read-at c.args.key.now zero_id c.args.reads.now c.at.ensures.each_once)
