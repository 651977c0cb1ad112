use Rattle.law_reads.proofs.Repeats.{pair_read, repeats}
use Rattle.law_reads.proofs.laws.choice_repeats.Goals as goal

pub returns : goal.returns
returns c key id reads known atomic read = repeats key id reads known atomic (pair_read key id reads read)
