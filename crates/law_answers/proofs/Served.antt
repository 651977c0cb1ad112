-- An attempt that was found passes the test in the service that was found.
use Rattle.std.proofs.Common.{Bool, false, eqb}
use Rattle.std.specs.Prelude.{IsTrue, Option, Some, None}
use Rattle.std.proofs.lemmas.Bool.{and_parts, false≢true}
use Rattle.aft_model.specs.declared.caller.Attempt.{Attempt}
use Rattle.aft_model.specs.NodeState.{Service}
use Rattle.aft_lines.specs.LineView.{is_served}

pub served_so : (so : Option Attempt → Option Service → Type 0) (test : Attempt → Service → Bool) → ((a : Attempt) (serving : Service) → IsTrue (test a serving) → so (Some a) (Some serving))
    → (held : Option Attempt) (found : Option Service) → IsTrue (is_served test held found) → so held found
served_so so test here None found is = absurd (false≢true is)
served_so so test here (Some a) None is = absurd (false≢true is)
served_so so test here (Some a) (Some serving) is = here a serving (and_parts (eqb a.inc serving.inc) (test a serving) is).1

-- no attempt passes a test that none passes, as where a command is for no attempt
pub never_served : (held : Option Attempt) (found : Option Service) → IsTrue (is_served (λ a serving. false) held found) → ⊥
never_served held found is = served_so (λ its service. ⊥) (λ a serving. false) (λ a serving none. false≢true none) held found is
