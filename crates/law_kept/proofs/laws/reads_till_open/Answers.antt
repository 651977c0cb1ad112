use Rattle.std.specs.Prelude.{[]}
use Rattle.law_kept.proofs.Shown.{reads_alone}
use Rattle.law_kept.proofs.laws.reads_till_open.Goals as goal

pub returns : goal.returns
returns c history entry legal shut among = reads_alone [] history legal shut entry among
