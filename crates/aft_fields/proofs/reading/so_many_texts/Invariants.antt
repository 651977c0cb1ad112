use Rattle.std.proofs.Common.{◌≡◌, ◌-◌, None}
use Rattle.std.specs.Option.{option_copied}
use Rattle.aft_fields.specs.Reading.{texts_after}
use Rattle.aft_fields.proofs.Texts.{with_front}
use Rattle.aft_fields.proofs.reading.so_many_texts.Given as goal

abbrev pub invariant-loop : goal.invariant-loop
invariant-loop l = with_front l.texts.items (texts_after l.field (l.count - l.counter) (option_copied l.before) l.rest) ≡ texts_after l.field l.count None l.fn.walk
