use Rattle.std.proofs.Common.{codes, false, map, refl, rules, sym, ◌≡◌}
use Rattle.std.proofs.lemmas.List.{drop-map}
use Rattle.std.specs.Str.{bytes_eq}
use Rattle.std.specs.String.{string_bytes}
use Rattle.aft_words.proofs.Cuts.{parts_of-alone, parts_of-value}
use Rattle.aft_words.proofs.reading.with_first.Goals as goal

pub returns-in_err-with_option-in-Some-clause-value : goal.returns-in_err-with_option-in-Some-clause-value
returns-in_err-with_option-in-Some-clause-value c =
    let other : bytes_eq c.args.word.now (codes "--") ≡ false = search rules in
    let cut = parts_of-value c.args.word.now c.in-Some.value.now (map string_bytes c.args.behind.now) other (sym c.in-Some.ensures.value) in
    rw (cut, ← c.in_err-with_option-in-Some.ensures, c.from_residual-in_err-with_option-in-Some.ensures) refl

pub returns-in_ok-with_option-in-Some-clause-value : goal.returns-in_ok-with_option-in-Some-clause-value
returns-in_ok-with_option-in-Some-clause-value c =
    let other : bytes_eq c.args.word.now (codes "--") ≡ false = search rules in
    let cut = parts_of-value c.args.word.now c.in-Some.value.now (map string_bytes c.args.behind.now) other (sym c.in-Some.ensures.value) in
    rw (cut, c.in-Some.ensures.others, ← c.in_ok-with_option-in-Some.ensures, drop-map) refl

pub returns-in_ok-with_word-in-None-clause-value : goal.returns-in_ok-with_word-in-None-clause-value
returns-in_ok-with_word-in-None-clause-value c =
    let other : bytes_eq c.args.word.now (codes "--") ≡ false = search rules in
    let cut = parts_of-alone c.args.word.now (map string_bytes c.args.behind.now) other (sym c.in-None.ensures.value) in
    rw (cut, ← c.in_ok-with_word-in-None.ensures) refl
