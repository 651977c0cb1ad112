use Rattle.std.proofs.Common.{◌∙◌}
use Rattle.aft_model.specs.Sound.{recorded}
use Rattle.aft_audit.proofs.Among.{has_record}
use Rattle.aft_audit.proofs.sound.has_record.Goals as goal

pub returns : goal.returns
returns c = c.is_some.ensures ∙ has_record c.args.uuid (recorded c.args.pairs.now) c.in_ok-record_of.field-0 c.in_ok-record_of.ensures
