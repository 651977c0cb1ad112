use Rattle.law_kept.proofs.Shown.{held_as_shown}
use Rattle.law_kept.proofs.laws.holds_what_was_shown.Goals as goal

pub returns : goal.returns
returns c name history entry outcome honest quiet among shows = held_as_shown name history honest quiet outcome (record { entry = entry; among = among; shows = shows })
