use Rattle.std.proofs.Common.{get_or, ◌≢◌, ◌∙◌}
use Rattle.aft_words.proofs.Numbers.{number_of-parsed}
use Rattle.aft_words.proofs.spelling.number_of.Goals as goal

pub returns : goal.returns
returns c =
    let unsigned : get_or c.args.word.now 0 0 ≢ 43 = rw (← c.as_bytes.ensures.value) c.if-as_bytes-eq43.false in
    c.ok.ensures.value ∙ number_of-parsed c.args.word.now c.parse.result c.parse.ensures.value.0 unsigned
