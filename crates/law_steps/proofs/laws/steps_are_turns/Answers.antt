use Rattle.law_steps.proofs.Own.{own_turns}
use Rattle.law_steps.proofs.laws.steps_are_turns.Goals as goal

pub returns : goal.returns
returns c by trace rise ordinary = own_turns by trace rise ordinary
