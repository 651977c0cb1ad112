use Rattle.std.proofs.Common.{sym, ap, ◌∙◌}
use Rattle.std.specs.Prelude.{is_some}
use Rattle.aft_select.proofs.Keys.{is_read_below-read}
use Rattle.aft_select.proofs.reads.is_read_below.Goals as goal

pub returns : goal.returns
returns c = c.is_some.ensures ∙ ap is_some c.read_below.ensures ∙ sym (is_read_below-read c.args.key.now c.args.id.now c.args.reads.now)
