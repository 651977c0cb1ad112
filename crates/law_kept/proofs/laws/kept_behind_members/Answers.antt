use Rattle.law_kept.proofs.Unmoved.{kept_behind_member}
use Rattle.law_kept.proofs.laws.kept_behind_members.Goals as goal

pub returns : goal.returns
returns c uuid history entry comes kept kind = kept_behind_member uuid history entry comes kept kind
