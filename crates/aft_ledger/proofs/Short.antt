-- How many attempts a history has at most.
use Rattle.std.proofs.Common.{ℕ, ◌+◌, ◌≤◌, List, [], ◌∷◌, length, length-append, arith}
use Rattle.std.specs.List.{fold}
use Rattle.aft_model.specs.declared.node.NodeAct.{NodeAct}
use Rattle.aft_model.specs.declared.node.NodeAct.TheVariants.{Admit, Boot, BootStopped, Booting, Down}
use Rattle.aft_model.specs.declared.node.NodeEntry.{NodeEntry}
use Rattle.aft_model.specs.Attempts.{admitted_by, attempts}
use Rattle.aft_model.specs.NodeState.{IsBooting, IsDown, IsServing, NodeState, goes_on, part, part_in, service_in, state_after, stopped}

at_most_one : (act : NodeAct) → length (admitted_by act) ≤ 1
at_most_one (Admit a uuid) = omega arith
at_most_one act = omega arith

few_attempts : (entries : List NodeEntry) → length (attempts entries) ≤ length entries
few_attempts [] = omega arith
few_attempts (e ∷ entries) = omega (arith, length-append (admitted_by e.act) (attempts entries), at_most_one e.act, few_attempts entries)

on_step : (state : NodeState) (e : NodeEntry) (n : ℕ) → length (part_in (service_in state)) ≤ n → length (part_in (service_in (goes_on state e))) ≤ n + 1
on_step IsDown e n h = omega arith
on_step (IsBooting inc running) e n h = omega arith
on_step (IsServing s) e n h = omega (arith, length-append s.part (e ∷ []), h)

stop_step : (state : NodeState) (e : NodeEntry) (n : ℕ) → length (part_in (service_in state)) ≤ n → length (part_in (service_in (stopped state e))) ≤ n + 1
stop_step IsDown e n h = omega arith
stop_step (IsBooting inc running) e n h = omega arith
stop_step (IsServing s) e n h = omega (arith, length-append s.part (e ∷ []), h)

step : (state : NodeState) (e : NodeEntry) (act : NodeAct) (n : ℕ) → length (part_in (service_in state)) ≤ n → length (part_in (service_in (state_after state e act))) ≤ n + 1
step state e (Booting inc) n h = omega arith
step state e (Boot inc commits) n h = omega arith
step state e (Down inc) n h = omega arith
step state e (BootStopped inc) n h = stop_step state e n h
step state e act n h = on_step state e n h

folded : (state : NodeState) (entries : List NodeEntry) (n : ℕ) → length (part_in (service_in state)) ≤ n → length (part_in (service_in (fold (λ before (x : NodeEntry). state_after before x x.act) state entries))) ≤ n + length entries
folded state [] n h = omega arith
folded state (e ∷ entries) n h = let rest = folded (state_after state e e.act) entries (n + 1) (step state e e.act n h) in omega arith

pub few_of : (history : List NodeEntry) → length (attempts (part history)) ≤ length history
few_of history = let a = few_attempts (part history) in let b = folded IsDown history 0 (omega arith) in omega arith
