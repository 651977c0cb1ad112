-- In a run so far each put and each delete of a marker is made in its stage.
use Rattle.std.proofs.Common.{List, [], ap, append-nil, append_assoc, refl, subst, sym, ℕ, ◌++◌, ◌∙◌, ◌∷◌, ◌≡◌}
use Rattle.aft_lines.specs.Asked.{Asked, Ran}
use Rattle.aft_lines.specs.LineView.{door_entry_in}
use Rattle.aft_lines.specs.Steps.{Made, door_steps}
use Rattle.aft_lines.specs.Turns.{AtDoor, AtNode, AtOffice, Turn}
use Rattle.aft_model.specs.History.{each_after}
use Rattle.aft_model.specs.Stages.{KeepsStages, is_in_stage}
use Rattle.aft_model.specs.declared.door.DoorAct.{DoorAct}
use Rattle.aft_model.specs.declared.door.DoorEntry.{DoorEntry}
use Rattle.law_claims.proofs.DoorSteps.{mover_in_stage}
use Rattle.law_claims.proofs.InStage.{bystander_in_stage}
use Rattle.law_claims.proofs.Moments.{door-snoc, door_step, goes_along, moments_keep}
use Rattle.law_claims.specs.Moments.{Asking, ByCommand, ByCourse, ByNobody, Comes, IsMade, MayCome, scene_of}
use Rattle.law_claims.specs.Scenes.{AreLegal, Keeps}
use Rattle.law_runs.proofs.Come.{come, is_made, it_comes, unasked_reads}
use Rattle.law_runs.proofs.Reading.{reads_alone, reads_in_stage}
use Rattle.law_runs.specs.Runs.{Goes, asking_of, run_steps, without_office}
use Rattle.law_steps.proofs.Histories.{door_is}
use Rattle.std.proofs.lemmas.Bool.{and_from}
use Rattle.std.specs.Prelude.{IsTrue}

module _ (asked : Asked) (ran : Ran) (so : Goes asked ran) where
  abbrev asking : Asking
  asking = asking_of asked ran

  abbrev capacity : ℕ
  capacity = asked.settings.cache

  -- what stands behind a beginning of the steps
  pub kept_behind : (before rest : List Made) → run_steps ran ≡ before ++ rest → Keeps (scene_of asking before) × AreLegal capacity (scene_of asking before)
  kept_behind before rest is = moments_keep asking capacity before rest (subst (MayCome asking capacity []) is (come asked ran so))

  module _ (before rest : List Made) (one : Made) (is : run_steps ran ≡ before ++ one ∷ rest) (place : ℕ) (act : DoorAct) (e : one ≡ record { by = one.by; turn = AtDoor place act }) where
    abbrev both : Keeps (scene_of asking before) × AreLegal capacity (scene_of asking before)
    both = kept_behind before (one ∷ rest) is

    in_stage : IsMade asking before one.by (AtDoor place act) → Comes asking capacity before one.by (AtDoor place act) → IsTrue (is_in_stage (door_steps before) act)
    in_stage (ByCourse command next is' of leads) comes =
        let made : Made = record { by = one.by; turn = AtDoor place act } in
        mover_in_stage capacity command asking.nodes (asking.ends one.by) place (record { by = one.by; act = act }) (scene_of asking before) (scene_of asking (before ++ made ∷ [])) comes.0 comes.1 both.1
        (door_step asking capacity before both one.by place act) of (goes_along asking capacity before made command next is' of leads) both.0
    in_stage (ByCommand command is' other makes_it) comes = bystander_in_stage command (door_steps before) act other makes_it
    in_stage (ByNobody is' quiet) comes = reads_in_stage (door_steps before) place act (subst (λ (m : Made). IsTrue (reads_alone m.turn)) e (unasked_reads asked ran so before rest one is is'))

  stages_from : (made before : List Made) → run_steps ran ≡ before ++ made → IsTrue (each_after (λ (h : List DoorEntry) (x : DoorEntry). is_in_stage h x.act) (door_steps before) (door_steps made))
  stages_from [] before is = refl
  stages_from (one ∷ made) before is =
      by_turn one.turn refl (subst (λ (h : List DoorEntry). IsTrue (each_after (λ (d : List DoorEntry) (x : DoorEntry). is_in_stage d x.act) h (door_steps made))) (door-snoc before one) (stages_from made (before ++ one ∷ []) (is ∙ sym (append_assoc before (one ∷ []) made))))
    where
      by_turn : (turn : Turn) → one.turn ≡ turn → IsTrue (each_after (λ (d : List DoorEntry) (x : DoorEntry). is_in_stage d x.act) (door_steps before ++ door_entry_in one.by one.turn) (door_steps made))
          → IsTrue (each_after (λ (d : List DoorEntry) (x : DoorEntry). is_in_stage d x.act) (door_steps before) (door_entry_in one.by one.turn ++ door_steps made))
      by_turn (AtDoor place act) e rest =
          subst (λ (t : Turn). IsTrue (each_after (λ (d : List DoorEntry) (x : DoorEntry). is_in_stage d x.act) (door_steps before) (door_entry_in one.by t ++ door_steps made))) (sym e)
          (and_from (is_in_stage (door_steps before) act) (each_after (λ (d : List DoorEntry) (x : DoorEntry). is_in_stage d x.act) (door_steps before ++ record { by = one.by; act = act } ∷ []) (door_steps made))
          (in_stage before made one is place act (ap (λ (t : Turn). record { by = one.by; turn = t }) e) (subst (IsMade asking before one.by) e (is_made asked ran so before made one is)) (subst (Comes asking capacity before one.by) e (it_comes asked ran so before made one is (kept_behind before (one ∷ made) is).0)))
          (subst (λ (t : Turn). IsTrue (each_after (λ (d : List DoorEntry) (x : DoorEntry). is_in_stage d x.act) (door_steps before ++ door_entry_in one.by t) (door_steps made))) e rest))
      by_turn (AtNode node history entry) e rest =
          subst (λ (t : Turn). IsTrue (each_after (λ (d : List DoorEntry) (x : DoorEntry). is_in_stage d x.act) (door_steps before) (door_entry_in one.by t ++ door_steps made))) (sym e)
          (subst (λ (h : List DoorEntry). IsTrue (each_after (λ (d : List DoorEntry) (x : DoorEntry). is_in_stage d x.act) h (door_steps made))) (ap (λ (t : Turn). door_steps before ++ door_entry_in one.by t) e ∙ append-nil (door_steps before)) rest)
      by_turn (AtOffice history entry) e rest =
          subst (λ (t : Turn). IsTrue (each_after (λ (d : List DoorEntry) (x : DoorEntry). is_in_stage d x.act) (door_steps before) (door_entry_in one.by t ++ door_steps made))) (sym e)
          (subst (λ (h : List DoorEntry). IsTrue (each_after (λ (d : List DoorEntry) (x : DoorEntry). is_in_stage d x.act) h (door_steps made))) (ap (λ (t : Turn). door_steps before ++ door_entry_in one.by t) e ∙ append-nil (door_steps before)) rest)

  pub stages_kept : KeepsStages ran.trace.door
  stages_kept = subst (λ (h : List DoorEntry). IsTrue (each_after (λ (d : List DoorEntry) (x : DoorEntry). is_in_stage d x.act) [] h)) (door_is (without_office ran.trace)) (stages_from (run_steps ran) [] refl)
