use Rattle.std.proofs.Common.{Ok, Result, ap, sym, ◌≡◌, ◌∙◌}
use Rattle.aft_model.specs.declared.reply.Reply.{Reply}
use Rattle.aft_model.specs.ReplyText.{reply_text}
use Rattle.aft_reply.specs.Reading.{reply_of_words, words_of}
use Rattle.aft_reply.specs.declared.fault.ReplyFault.{ReplyFault}
use Rattle.aft_reply.proofs.ReadBack.{no_reply, text_read_back}
use Rattle.aft_reply.proofs.reading.read_reply.Goals as goal

pub returns-in-Ok-clause-bad : goal.returns-in-Ok-clause-bad
returns-in-Ok-clause-bad c refused r is written =
    let read : ◌≡◌ {A = Result Reply ReplyFault} (Ok c.in-Ok.reply) (Ok r) =
    sym c.in-Ok.ensures.value ∙ ap (λ text. reply_of_words (words_of text)) (sym written) ∙ text_read_back r is in
    let same : c.in-Ok.reply ≡ r = cc in
    c.as_written.ensures.bad refused (ap reply_text same ∙ written)

pub returns-in-Err-clause-bad : goal.returns-in-Err-clause-bad
returns-in-Err-clause-bad c refused r is written = no_reply c.in-Err.fault r c.args.text.now c.in-Err.ensures.value refused is written
