-- What a stage tells of the history.
use Rattle.std.proofs.Common.{◌≡◌, ℕ, ◌+◌, ◌<◌, ◌^◌, true, false, List, refl, eq-eqb, arith}
use Rattle.std.specs.Prelude.{IfErr, IfOk, IsTrue, MatchResult, None, Some, option_map, suc}
use Rattle.std.proofs.lemmas.Bool.{and_from}
use Rattle.aft_model.specs.declared.node.NodeEntry.{NodeEntry}
use Rattle.aft_model.specs.declared.reply.Reply.{Reply}
use Rattle.aft_model.specs.NodeRules.{may_answer_alone, may_begin_boot}
use Rattle.aft_model.specs.NodeState.{IsBooting, IsDown, IsServing, NodeState, Service, boots, newest, serves, service_in}
use Rattle.aft_ledger.specs.Ledger.{Held, IsLedger, ended_by, stage_of}
use Rattle.aft_ledger.specs.Stages.{boots_of, next_of, serves_of, serving_of}
use Rattle.aft_ledger.specs.Turns.{boot_refusal, next_boot}
use Rattle.aft_ledger.specs.declared.stage.Stage.{Stage}
use Rattle.aft_ledger.specs.declared.stage.Stage.TheVariants as stages

pub serving-stage : (state : NodeState) → serving_of (stage_of state) ≡ option_map (λ (s : Service). s.inc) (service_in state)
serving-stage IsDown = refl
serving-stage (IsBooting inc running) = refl
serving-stage (IsServing s) = refl

pub serves-stage : (inc : ℕ) (state : NodeState) → serves_of inc (stage_of state) ≡ serves inc state
serves-stage inc IsDown = refl
serves-stage inc (IsBooting other running) = refl
serves-stage inc (IsServing s) = refl

pub boots-stage : (inc : ℕ) (state : NodeState) → boots_of inc (stage_of state) ≡ boots inc state
boots-stage inc IsDown = refl
boots-stage inc (IsBooting other running) = refl
boots-stage inc (IsServing s) = refl

-- ---- the next boot

module _ (node : ℕ) (history : List NodeEntry) where
  pub which_next : (state : NodeState) → MatchResult (next_of node (newest history) (stage_of state)) (λ inc. (boot_refusal node state ≡ None) × (inc ≡ next_boot history state)) (λ (reply : Reply). boot_refusal node state ≡ Some reply)
  which_next IsDown = (refl, omega arith)
  which_next (IsBooting inc true) = refl
  which_next (IsBooting inc false) = (refl, refl)
  which_next (IsServing s) = refl

  pub may_boot : (state : NodeState) → IfOk (next_of node (newest history) (stage_of state)) (λ inc. IsTrue (may_begin_boot inc (newest history) state))
  may_boot IsDown = eq-eqb (newest history + 1) (suc (newest history)) (omega arith)
  may_boot (IsBooting inc true) = tt
  may_boot (IsBooting inc false) = and_from _ _ (eq-eqb inc inc refl) refl
  may_boot (IsServing s) = tt

  pub may_tell : (state : NodeState) → IfErr (next_of node (newest history) (stage_of state)) (λ (reply : Reply). IsTrue (may_answer_alone (Some reply)))
  may_tell IsDown = tt
  may_tell (IsBooting inc true) = refl
  may_tell (IsBooting inc false) = tt
  may_tell (IsServing s) = refl

one_ended : (stage : Stage) → ended_by stage < 2
one_ended stages.Down = omega arith
one_ended (stages.Booting inc running) = omega arith
one_ended (stages.Serving inc) = omega arith

-- incarnations are few
pub few_incs : (h : Held) → IsLedger h → h.newest < 2 ^ 31 + 2
few_incs h l = omega (arith, l.few, one_ended h.stage)
