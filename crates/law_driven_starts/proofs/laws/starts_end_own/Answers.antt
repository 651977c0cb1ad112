use Rattle.law_driven_starts.proofs.Courses.{start_ends}
use Rattle.law_driven_starts.proofs.laws.starts_end_own.Goals as goal

pub returns : goal.returns
returns c ends home number at nodes line first entry start before p leads = start_ends ends home nodes line first number at start before entry p leads
