use Rattle.aft_lines.proofs.Exactness.{exact_replies}
use Rattle.aft_lines.proofs.laws.replies_are_exact.Goals as goal

pub returns : goal.returns
returns c asked ran line reply = exact_replies asked ran line reply
