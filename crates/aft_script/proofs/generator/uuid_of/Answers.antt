use Rattle.std.proofs.Common.{ap, ◌∙◌}
use Rattle.std.specs.Int.{to_be_bytes, w128}
use Rattle.aft_script.specs.Generator.{uuid_of_number}
use Rattle.aft_script.proofs.generator.uuid_of.Goals as goal

pub returns : goal.returns
unfolding uuid_of_number
returns c = c.from_u128.ensures ∙ ap (to_be_bytes w128) c.from.ensures
