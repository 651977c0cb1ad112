use Rattle.std.proofs.Common.{ap}
use Rattle.std.specs.Prelude.{Option, Some}
use Rattle.std.proofs.lemmas.List.Sums.{fold-append}
use Rattle.aft_lines.specs.Advance.{advance, advanced, is_led_to_end}
use Rattle.aft_lines.specs.Progress.{NotBegun, Progress}
use Rattle.law_courses.proofs.laws.left_behind_turns.Goals as goal

pub returns : goal.returns
returns c command nodes ends made rest = ap (λ (p : Option Progress). is_led_to_end p) (fold-append (advanced (advance command nodes ends)) (Some NotBegun) made rest)
