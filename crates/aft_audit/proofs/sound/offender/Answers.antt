use Rattle.std.proofs.Common.{arith, rules}
use Rattle.std.proofs.lemmas.Grind.{common_steps}
use Rattle.aft_audit.proofs.Offending.{sound_too}
use Rattle.aft_audit.proofs.sound.offender.Goals as goal

pub returns-clause-sound : goal.returns-clause-sound
returns-clause-sound c = sound_too c.least_version.result c.args.pairs.now (first_of (search rules, grind (arith, common_steps)))
