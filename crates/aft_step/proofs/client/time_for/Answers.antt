use Rattle.std.proofs.Common.{◌≡◌, ℕ, Option, None, Some, refl}
use Rattle.std.specs.Prelude.{IsTrue}
use Rattle.std.proofs.lemmas.Bool.{eq-eqb}
use Rattle.aft_lines.specs.LegalTrace.{is_clock_time}
use Rattle.aft_model.specs.declared.script.Command.{Command}
use Rattle.aft_model.specs.declared.script.Command.TheVariants as commands
use Rattle.aft_step.proofs.client.time_for.Goals as goal
use Rattle.aft_step.specs.Going.{HasRead}

-- some time is the clock's
some_time : (clock : Option ℕ) → (time : ℕ) × IsTrue (is_clock_time clock time)
some_time None = (0, refl)
some_time (Some time) = (time, eq-eqb time time refl)

-- any other line reads none
reads_none : (order : Command) → (order ≡ commands.Commit → ⊥) → (order ≡ commands.Abort → ⊥) → (time : ℕ) → HasRead order 0 time
reads_none commands.Commit commits aborts time = absurd (commits refl)
reads_none commands.Abort commits aborts time = absurd (aborts refl)
reads_none order commits aborts time = tt

pub returns-in_default : goal.returns-in_default
returns-in_default g c =
    let its = some_time (g.C.Clock.time c.args.clock.now) in
    (its.0, its.1, reads_none c.args.order.now c.in_default.not-Commit c.in_default.not-Abort its.0)
