use Rattle.law_boots.proofs.Boot.{sees_greatest}
use Rattle.law_boots.proofs.laws.boots_see_the_greatest.Goals as goal

pub returns : goal.returns
returns c node capacity inc commits door history more entry lawful beside backs of_node is = sees_greatest node capacity inc commits door lawful history more entry beside is backs of_node
