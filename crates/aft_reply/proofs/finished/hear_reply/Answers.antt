use Rattle.std.proofs.Common.{None, Option, Some, ap, cond, ◌∙◌}
use Rattle.indexmap.specs.IndexMap.{get}
use Rattle.aft_model.specs.declared.reply.Reply.{Reply}
use Rattle.aft_reply.specs.Heard.{same_asker}
use Rattle.aft_reply.proofs.Hearing.{heard-reply}
use Rattle.aft_reply.proofs.finished.hear_reply.Goals as goal

pub returns : goal.returns
returns c before heard =
    heard-reply (get same_asker c.args.answers.now) (get same_asker c.insert.new.self) before c.args.asker c.args.reply.now c.seen_now-seen.result heard
    (λ q. c.in_ok-insert.ensures.updates.0 q)
    (c.seen_now-seen.ensures ∙ ap (λ b. cond {A = Option (Option Reply)} b (Some None) (Some (Some c.args.reply.now))) c.contains_key.ensures)
