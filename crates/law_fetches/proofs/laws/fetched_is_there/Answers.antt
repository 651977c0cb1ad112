use Rattle.law_fetches.proofs.There.{shown_there}
use Rattle.law_fetches.proofs.laws.fetched_is_there.Goals as goal

pub returns : goal.returns
returns c node capacity a key id door history more seen after entry got answer outcome of_node lawful beside backs opens ends parts late short gets shows =
    shown_there node capacity of_node door lawful history more entry beside backs opens a key id ends seen after got parts late short answer gets outcome shows
