-- What is answered only where something failed.
use Rattle.std.specs.Prelude.{Bool, false, not, true, ◌==◌}
use Rattle.std.specs.List.{list_any}
use Rattle.aft_model.specs.declared.reply.Reply.{Reply}
use Rattle.aft_model.specs.declared.reply.Reply.TheVariants.{Collected, Damaged, InDoubt, Missing, Orphans, StoreFault}
use Rattle.aft_model.specs.declared.reply.Verdict.{Verdict}
use Rattle.aft_model.specs.declared.reply.Verdict.TheVariants.{Fault}

-- whether a commit is judged to be at fault
abbrev pub is_at_fault : Verdict → Bool
is_at_fault Fault = true
is_at_fault verdict = false

-- whether a reply tells of a fault of the store or of a doubt, that something is missing or damaged, or counts or judges a fault
abbrev pub tells_failure : Reply → Bool
tells_failure StoreFault = true
tells_failure InDoubt = true
tells_failure (Missing id) = true
tells_failure (Damaged name) = true
tells_failure (Collected judged) = list_any (λ one. is_at_fault one.verdict) judged
tells_failure (Orphans deleted kept held fault) = not (fault == 0)
tells_failure reply = false
