use Rattle.law_cut.proofs.Takes.{stood_taken, stood_unmarked}
use Rattle.law_cut.proofs.laws.copies_take_the_unmarked.Goals as goal

pub returns-clause-unmarked : goal.returns-clause-unmarked
returns-clause-unmarked x asked ran line copying behind held c copied taken =
    stood_unmarked asked ran copied.legal line copied.listed copied.order copied.at_first held copied.at_last copied.contents copying.place copying.who.node copying.who.inc behind copied.came.came_up copied.along copied.rest copied.came.whole c taken

pub returns-clause-taken : goal.returns-clause-taken
returns-clause-taken x asked ran line copying behind held c copied stood =
    stood_taken asked ran copied.legal line copied.listed copied.order copied.at_first held copied.at_last copied.contents copying.place copying.who.node copying.who.inc behind copied.came.came_up copied.along copied.rest copied.came.whole c stood
