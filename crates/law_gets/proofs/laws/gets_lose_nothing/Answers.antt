use Rattle.law_gets.proofs.Losses.{loses_none}
use Rattle.law_gets.proofs.laws.gets_lose_nothing.Goals as goal

pub returns : goal.returns
returns c asked ran line key legal honest listed gets = loses_none asked ran legal honest line listed key gets
