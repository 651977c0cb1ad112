use Rattle.indexmap.specs.IndexMap.{get}
use Rattle.std.proofs.Common.{Some, ap, ◌++◌, ◌∙◌}
use Rattle.std.specs.Option.{option_to_list}
use Rattle.aft_lines.specs.FinishedText.{answer_to}
use Rattle.aft_reply.specs.Heard.{same_asker, with_reply}
use Rattle.aft_reply.proofs.Hearing.{heard-same, with_reply-entry}
use Rattle.aft_reply.proofs.finished.hear.Goals as goal

pub returns-in_ok-hear_reply-in-Some : goal.returns-in_ok-hear_reply-in-Some
returns-in_ok-hear_reply-in-Some c before heard =
    rw c.in-Some.is
    (heard-same (get same_asker c.hear_reply.new.answers) (with_reply before c.asker_of.result c.in-Some.reply) (λ line. before line ++ option_to_list (answer_to line c.args.by (Some c.in-Some.reply)))
    (λ line. ap (λ asker. with_reply before asker c.in-Some.reply line) c.asker_of.ensures ∙ with_reply-entry before c.args.by c.in-Some.reply line)
    (c.in_ok-hear_reply-in-Some.ensures before heard))
