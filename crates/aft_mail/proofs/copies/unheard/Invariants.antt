use Rattle.std.proofs.Common.{◌≡◌, take}
use Rattle.aft_model.specs.Office.{unheard}
use Rattle.aft_mail.proofs.copies.unheard.Given as goal

abbrev pub invariant-loop-commit : goal.invariant-loop-commit
invariant-loop-commit l = l.missed.items ≡ unheard l.fn.known (take l.commit-index l.commits)
