use Rattle.law_fetches.proofs.Fetched.{no_give_up}
use Rattle.law_fetches.proofs.laws.fetched_is_not_given_up.Goals as goal

pub returns : goal.returns
returns c node capacity a key id door history more earlier later entry one lawful beside opens ends parts gives serve less =
    no_give_up node capacity door lawful history more entry beside opens a key id ends earlier later one parts gives serve less
