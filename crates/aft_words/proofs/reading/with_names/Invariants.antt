use Rattle.std.proofs.Common.{◌≡◌, length, map}
use Rattle.std.specs.String.{string_bytes}
use Rattle.aft_words.specs.Parts.{name}
use Rattle.aft_words.specs.Reading.{with_parts}
use Rattle.aft_words.specs.Views.{given_said}
use Rattle.aft_words.proofs.reading.with_names.Given as goal

abbrev pub invariant-words : goal.invariant-words
invariant-words l =
    with_parts (map name (map string_bytes l.rest)) (given_said l.given)
    ≡ with_parts (map name (map string_bytes l.fn.words)) (given_said l.fn.given)

abbrev pub decreases-words : goal.decreases-words
decreases-words l = length l.rest
