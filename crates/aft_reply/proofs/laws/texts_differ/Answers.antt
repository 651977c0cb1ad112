use Rattle.std.proofs.Common.{Ok, ap, sym, ◌≡◌, ◌∙◌}
use Rattle.aft_reply.specs.Reading.{reply_of_words, words_of}
use Rattle.aft_reply.proofs.ReadBack.{text_read_back}
use Rattle.aft_reply.proofs.laws.texts_differ.Goals as goal

pub returns : goal.returns
returns c a b is_a is_b same =
    let one : Ok a ≡ Ok b = sym (text_read_back a is_a) ∙ ap (λ text. reply_of_words (words_of text)) same ∙ text_read_back b is_b in
    cc
