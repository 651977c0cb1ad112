-- Who only looks keeps the stages, and retires nothing.
use Rattle.std.proofs.Common.{List, [], refl}
use Rattle.std.specs.Prelude.{IsTrue}
use Rattle.std.proofs.lemmas.Bool.{false≢true}
use Rattle.aft_keeper.specs.declared.keeper.KeeperCall.TheVariants.{Delete, Get, Put, Scan}
use Rattle.aft_model.specs.declared.door.DoorAct.{DoorAct}
use Rattle.aft_model.specs.declared.door.DoorAct.TheVariants.{Call}
use Rattle.aft_model.specs.declared.door.DoorEntry.{DoorEntry}
use Rattle.aft_model.specs.Bytes.{HasBytes}
use Rattle.aft_model.specs.Honest.{Honest}
use Rattle.aft_model.specs.LegalDoor.{Legal}
use Rattle.aft_model.specs.Stages.{is_in_stage, retires_unheld_in}
use Rattle.law_kept.specs.Kept.{Lawful}
use Rattle.law_refused.specs.Looks.{is_look, only_looks}
use Rattle.law_refused.proofs.Each.{each_of}

looks_in_stage : (history : List DoorEntry) (act : DoorAct) → IsTrue (is_look act) → IsTrue (is_in_stage history act)
looks_in_stage history (Call node inc (Scan prefix after limit) answer) looks = refl
looks_in_stage history (Call node inc (Get name) answer) looks = refl
looks_in_stage history (Call node inc (Put name bytes) answer) looks = absurd (false≢true looks)
looks_in_stage history (Call node inc (Delete name) answer) looks = absurd (false≢true looks)
looks_in_stage history act looks = refl

looks_retire_none : (history : List DoorEntry) (act : DoorAct) → IsTrue (is_look act) → IsTrue (retires_unheld_in history act)
looks_retire_none history (Call node inc (Scan prefix after limit) answer) looks = refl
looks_retire_none history (Call node inc (Get name) answer) looks = refl
looks_retire_none history (Call node inc (Put name bytes) answer) looks = absurd (false≢true looks)
looks_retire_none history (Call node inc (Delete name) answer) looks = refl
looks_retire_none history act looks = refl

pub lawful_looks : (history : List DoorEntry) → Legal history → HasBytes history → Honest history → IsTrue (only_looks history) → Lawful history
lawful_looks history legal made honest looks = record {
  legal = legal;
  honest = honest;
  made = made;
  stages = each_of (λ (e : DoorEntry). is_look e.act) (λ (h : List DoorEntry) (e : DoorEntry). is_in_stage h e.act) (λ h e its. looks_in_stage h e.act its) [] history looks;
  retires = each_of (λ (e : DoorEntry). is_look e.act) (λ (h : List DoorEntry) (e : DoorEntry). retires_unheld_in h e.act) (λ h e its. looks_retire_none h e.act its) [] history looks;
}
