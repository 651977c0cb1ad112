use Rattle.std.proofs.Common.{ℕ, Option, sym, subst}
use Rattle.std.specs.Prelude.{IsTrue}
use Rattle.aft_lines.specs.LegalTrace.{is_clock_time}
use Rattle.aft_step.proofs.Starts.{not_over}
use Rattle.aft_step.proofs.client.Course.new.Goals as goal
use Rattle.aft_turns.specs.Trail.{no_trail}

pub returns-clause-goes : goal.returns-clause-goes
returns-clause-goes g c asked clock = record {
  by = c.new-machine.ensures.by;
  command = c.new-machine.ensures.command;
  held = c.new-machine.ensures.held;
  time = c.time_for-now.ensures.0;
  told = subst (λ (k : Option ℕ). IsTrue (is_clock_time k c.time_for-now.ensures.0)) (sym clock) c.time_for-now.ensures.1;
  read = c.time_for-now.ensures.2;
  made = c.new-machine.ensures.made asked.settings.cache c.time_for-now.ensures.0;
}

pub returns-clause-on : goal.returns-clause-on
returns-clause-on g c = not_over c.new-machine.result (λ done. c.promises.ensures.answers 0 0 no_trail (c.new-machine.ensures.made 0 0) done)
