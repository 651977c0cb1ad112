use Rattle.aft_words.proofs.Verbs.{asked_of-none}
use Rattle.aft_words.proofs.reading.asked.Goals as goal

pub returns-in_default : goal.returns-in_default
returns-in_default c =
    let h = c.in_default in
    asked_of-none c.args.command.now _ h.not-run h.not-step h.not-make h.not-upgrade h.not-session h.not-backup h.not-restore h.not-check
