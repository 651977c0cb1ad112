use Rattle.law_rounds.proofs.Openings.{opening_before, refused_before, whole_opening}
use Rattle.law_rounds.proofs.laws.openings_begin.Goals as goal

pub returns-clause-whole : goal.returns-clause-whole
returns-clause-whole c nodes line is = whole_opening nodes line is

pub returns-clause-before : goal.returns-clause-before
returns-clause-before c nodes made rest is = opening_before rest nodes made is

pub returns-clause-refused : goal.returns-clause-refused
returns-clause-refused c nodes made rest is = refused_before rest nodes made is
