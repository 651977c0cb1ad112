use Rattle.law_cut.proofs.Pairs.{cut_is_shown, shown_in_cut}
use Rattle.law_cut.proofs.laws.copies_are_the_cut.Goals as goal

pub returns-clause-shown : goal.returns-clause-shown
returns-clause-shown x asked ran line copying behind held pair copied among = shown_in_cut asked ran line copying behind held copied pair among

pub returns-clause-cut : goal.returns-clause-cut
returns-clause-cut x asked ran line copying behind held pair copied among = cut_is_shown asked ran line copying behind held copied pair among
