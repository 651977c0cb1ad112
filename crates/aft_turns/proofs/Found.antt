-- A test of an attempt, in the service that its node is in.
use Rattle.std.proofs.Common.{◌≡◌, Bool, List, sym, ap, subst}
use Rattle.std.specs.Prelude.{IsTrue, Option, Some, ◌==◌}
use Rattle.std.proofs.lemmas.Bool.{and_from, and_parts}
use Rattle.aft_model.specs.declared.caller.Attempt.{Attempt}
use Rattle.aft_model.specs.declared.node.NodeEntry.{NodeEntry}
use Rattle.aft_model.specs.Attempts.{AttemptState, attempt_state}
use Rattle.aft_model.specs.NodeState.{NodeState, Service, node_state, part, part_in, serves, service, service_in}
use Rattle.aft_model.proofs.Services.{serving}
use Rattle.aft_ledger.specs.Turns.{is_doing}
use Rattle.aft_lines.specs.LineView.{is_served}

-- of one whose incarnation the node serves
pub found_so : (a : Attempt) (before : List NodeEntry) → IsTrue (serves a.inc (node_state before)) → (test : Attempt → Service → Bool) → ((s : Service) → service before ≡ Some s → IsTrue (test a s)) → IsTrue (is_served test (Some a) (service before))
found_so a before serve test passes =
    let is = serving a.inc (node_state before) serve in
    let of : service before ≡ Some is.0 = ap service_in is.1 in
    subst (λ (o : Option Service). IsTrue (is_served test (Some a) o)) (sym of)
    (and_from (a.inc == is.0.inc) (test a is.0) (subst (λ (q : NodeState). IsTrue (serves a.inc q)) is.1 serve) (passes is.0 of))

-- of one that is doing something there
pub found_doing : (test : Attempt → Service → Bool) (does : AttemptState → Bool) (a : Attempt) (before : List NodeEntry) → IsTrue (is_doing does a before) → ((s : Service) → service before ≡ Some s → IsTrue (does (attempt_state a s.part)) → IsTrue (test a s)) → IsTrue (is_served test (Some a) (service before))
found_doing test does a before is passes =
    let parts = and_parts (serves a.inc (node_state before)) (does (attempt_state a (part before))) is in
    found_so a before parts.0 test (λ s of. passes s of (subst (λ (o : Option Service). IsTrue (does (attempt_state a (part_in o)))) of parts.1))
