-- A turn behind which its line runs on.
use Rattle.std.proofs.Common.{◌≡◌, ℕ, Bool, false, [], ◌∷◌, ◌++◌, length, refl, sym, ap, subst, eqb, inl, inr}
use Rattle.std.specs.Prelude.{Option, if◌then◌else◌}
use Rattle.std.proofs.lemmas.Bool.{cases_Bool, eq-eqb, eqb-true}
use Rattle.aft_model.specs.declared.caller.Hold.{Hold}
use Rattle.aft_model.specs.declared.door.DoorAct.{DoorAct}
use Rattle.aft_model.specs.declared.node.NodeAct.{NodeAct}
use Rattle.aft_model.specs.declared.reply.Reply.{Reply}
use Rattle.aft_model.specs.declared.script.Line.{Line}
use Rattle.aft_model.specs.Bytes.{HasBytes}
use Rattle.aft_model.specs.LegalDoor.{Legal}
use Rattle.aft_model.specs.LegalNode.{LegalNode}
use Rattle.aft_ledger.specs.View.{NodeView}
use Rattle.aft_lines.specs.Asked.{Asked, Ran}
use Rattle.aft_lines.specs.FinishedText.{line_of}
use Rattle.aft_lines.specs.Turns.{AtDoor}
use Rattle.aft_turns.specs.Steps.{entry_of}
use Rattle.aft_turns.specs.Trail.{Trail, behind, looking}
use Rattle.law_accounts.specs.Account.{Stand}
use Rattle.law_accounts.specs.Adding.{AddsAtDoor, AddsAtNode, Added, with_added}
use Rattle.law_clients.proofs.Seats.{all_seated}
use Rattle.law_clients.specs.Clients.{Busy, Crowd, Seat, Seated, with_seat}
use Rattle.law_driver.proofs.Door.{acts, looks}
use Rattle.law_driver.proofs.Node.{node_keeps}
use Rattle.law_driver.specs.Driven.{AllAtOneNode, Driven, IsNode, Promises}
use Rattle.law_driver.specs.Kept.{behind_node, door_entry, with_node}

module _ (asked : Asked) (ran : Ran) (stand : Line → Stand) (seats : ℕ → Seat) (line : Line) (hold : Hold) (trail : Trail) (crowd : Crowd asked ran stand seats) (busy : seats line.client ≡ Busy hold line trail) where
  its_driven : Driven asked ran stand line hold trail
  its_driven = (subst (Seated asked ran stand line.client) busy (crowd.seated line.client)).1

  module _ (none : asked.asks ≡ []) where
    pub steps_on : AllAtOneNode asked → (node : NodeView) (act : NodeAct) (answer : Option Reply) → IsNode asked ran node → LegalNode node.number node.capacity (node.history ++ entry_of (line_of line) (length ran.trace.door) node act answer ∷ [])
        → Promises (line_of line) line.order hold asked.settings.cache asked.clock false (behind_node ran line node act answer trail)
        → Crowd asked (with_node ran line node act answer) stand (with_seat line.client (Busy hold line (behind_node ran line node act answer trail)) seats)
    steps_on all node act answer is_node legal promises =
        let added : Added = AddsAtNode node.number (entry_of (line_of line) (length ran.trace.door) node act answer) in
        let next : Driven asked (with_added added ran) stand line hold (behind_node ran line node act answer trail) = node_keeps asked ran stand line hold trail node act answer false all its_driven is_node legal promises in
        record {
          account = next.account;
          seated = all_seated asked ran stand stand seats line hold trail added none crowd busy refl (λ other listed differs. refl) next.account (Busy hold line (behind_node ran line node act answer trail)) (refl, next);
          alone = crowd.alone;
        }

    pub acts_on : (act : DoorAct) → Legal (ran.trace.door ++ door_entry line act ∷ []) → HasBytes (ran.trace.door ++ door_entry line act ∷ []) → Promises (line_of line) line.order hold asked.settings.cache asked.clock false (behind trail (AtDoor (length ran.trace.door) act))
        → Crowd asked (with_added (AddsAtDoor (door_entry line act)) ran) stand (with_seat line.client (Busy hold line (behind trail (AtDoor (length ran.trace.door) act))) seats)
    acts_on act legal bytes promises =
        let added : Added = AddsAtDoor (door_entry line act) in
        let next : Driven asked (with_added added ran) stand line hold (behind trail (AtDoor (length ran.trace.door) act)) = acts asked ran stand line hold trail its_driven act legal bytes promises in
        record {
          account = next.account;
          seated = all_seated asked ran stand stand seats line hold trail added none crowd busy refl (λ other listed differs. refl) next.account (Busy hold line (behind trail (AtDoor (length ran.trace.door) act))) (refl, next);
          alone = crowd.alone;
        }

  -- a look changes nothing but the line's own trail
  pub looks_on : Crowd asked ran stand (with_seat line.client (Busy hold line (looking trail ran.trace.door)) seats)
  looks_on = record { account = crowd.account; seated = seated; alone = crowd.alone }
    where
      seated : (client : ℕ) → Seated asked ran stand client (with_seat line.client (Busy hold line (looking trail ran.trace.door)) seats client)
      seated client = elim (cases_Bool (eqb client line.client)) [
        | inl same ↦
            subst (λ (c : ℕ). Seated asked ran stand c (with_seat line.client (Busy hold line (looking trail ran.trace.door)) seats c)) (sym (eqb-true client line.client same))
            (subst (Seated asked ran stand line.client) (sym (ap (λ (b : Bool). if b then Busy hold line (looking trail ran.trace.door) else seats line.client) (eq-eqb line.client line.client refl))) (refl, looks asked ran stand line hold trail its_driven))
        | inr differs ↦ subst (Seated asked ran stand client) (sym (ap (λ (b : Bool). if b then Busy hold line (looking trail ran.trace.door) else seats client) differs)) (crowd.seated client)
      ]
