-- What a stage tells.
use Rattle.std.specs.Prelude.{Bool, Err, None, Ok, Option, Result, Some, false, true, ℕ, ◌+◌, ◌==◌}
use Rattle.aft_model.specs.declared.reply.Reply.{Reply}
use Rattle.aft_model.specs.declared.reply.Reply.TheVariants as replies
use Rattle.aft_ledger.specs.declared.stage.Stage.{Stage}
use Rattle.aft_ledger.specs.declared.stage.Stage.TheVariants as stages

-- the incarnation that serves
abbrev pub serving_of : Stage → Option ℕ
serving_of (stages.Serving inc) = Some inc
serving_of stage = None

-- whether an incarnation serves
abbrev pub serves_of : ℕ → Stage → Bool
serves_of inc (stages.Serving serving) = inc == serving
serves_of inc stage = false

-- whether an incarnation boots
abbrev pub boots_of : ℕ → Stage → Bool
boots_of inc (stages.Booting booting running) = inc == booting
boots_of inc stage = false

-- the incarnation that boots next after the newest one, or why none does
abbrev pub next_of : ℕ → ℕ → Stage → Result ℕ Reply
next_of node newest (stages.Serving inc) = Err (replies.IsUp node inc)
next_of node newest (stages.Booting inc true) = Err (replies.IsBooting node inc)
next_of node newest (stages.Booting inc false) = Ok inc
next_of node newest stages.Down = Ok (newest + 1)
