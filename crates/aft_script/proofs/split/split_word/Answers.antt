use Rattle.std.proofs.Common.{None, Some, not, position, sym, ◌≡◌, ◌∙◌}
use Rattle.aft_script.specs.Words.{is_gap}
use Rattle.aft_script.proofs.Splits.{last_word, parts_are_ascii, word_and_rest, words_of-none}
use Rattle.aft_script.proofs.split.split_word.Goals as goal

pub returns-in_err-start-clause-cut : goal.returns-in_err-start-clause-cut
returns-in_err-start-clause-cut c =
    let at : position (λ b. not (is_gap b)) c.args.text.now ≡ None = sym c.word_start.ensures.value ∙ c.in_err-start.was in
    rw c.from_residual.ensures (words_of-none c.args.text.now at)

pub returns-in-Some-clause-cut : goal.returns-in-Some-clause-cut
returns-in-Some-clause-cut c =
    let start : position (λ b. not (is_gap b)) c.args.text.now ≡ Some c.in_ok-start.start = sym c.word_start.ensures.value ∙ c.in_ok-start.was in
    let end : position is_gap c.behind-text.result.now ≡ Some c.in-Some.end = cc in
    word_and_rest c.args.text.now c.behind-text.result.now _ _ c.in_ok-start.start c.in-Some.end start c.behind-text.ensures end c.split_at.ensures.front c.split_at.ensures.back

pub returns-in-Some-clause-ascii : goal.returns-in-Some-clause-ascii
returns-in-Some-clause-ascii c =
    parts_are_ascii c.args.text.now c.behind-text.result.now _ _ c.in_ok-start.start c.in-Some.end c.behind-text.ensures c.split_at.ensures.front c.split_at.ensures.back

pub returns-in-None-clause-cut : goal.returns-in-None-clause-cut
returns-in-None-clause-cut c =
    let start : position (λ b. not (is_gap b)) c.args.text.now ≡ Some c.in_ok-start.start = sym c.word_start.ensures.value ∙ c.in_ok-start.was in
    let end : position is_gap c.behind-text.result.now ≡ None = cc in
    last_word c.args.text.now c.behind-text.result.now _ c.in_ok-start.start start c.behind-text.ensures end c.behind.ensures
