-- The turns of a crash, by what the door and the node do.
use Rattle.std.proofs.Common.{◌≡◌, ℕ, Bool, true, false, ◌||◌, not, [], ◌∷◌, ◌++◌, length, max, refl, sym, ap, inl, inr, ◌≤◌, List, arith}
use Rattle.std.specs.Prelude.{IfNone, IfSome, IsTrue, None, Option, Some, if◌then◌else◌}
use Rattle.std.proofs.lemmas.Bool.{false≢true}
use Rattle.aft_model.specs.declared.caller.By.{By}
use Rattle.aft_model.specs.declared.door.DoorAct.TheVariants.{Fence}
use Rattle.aft_model.specs.declared.door.DoorEntry.{DoorEntry}
use Rattle.aft_model.specs.declared.node.NodeAct.{NodeAct}
use Rattle.aft_model.specs.declared.node.NodeAct.TheVariants as acts
use Rattle.aft_model.specs.declared.reply.Reply.{Reply}
use Rattle.aft_model.specs.declared.reply.Reply.TheVariants as replies
use Rattle.aft_model.specs.DoorKnowledge.{is_open}
use Rattle.aft_model.specs.Membership.{up_now}
use Rattle.aft_model.specs.NodeState.{boots, node_state, serves}
use Rattle.aft_door.specs.Calls.{DoorView, with_entry}
use Rattle.aft_door.specs.Entries.{was_fenced}
use Rattle.aft_ledger.specs.View.{NodeView, after_entry, answered}
use Rattle.aft_lines.specs.Turns.{AtDoor, Turn}
use Rattle.aft_node.specs.Booting.{down_done}
use Rattle.aft_boot.specs.CrashView.{next_at}
use Rattle.aft_boot.specs.Crashed.{GoesDown, made_at}
use Rattle.aft_boot.specs.declared.fencing.Fencing.{Fencing}
use Rattle.aft_boot.specs.declared.fencing.Fencing.TheVariants.{Begins, Ended, Tells}
use Rattle.aft_turns.specs.Steps.{StepsAtDoor, StepsAtNode}
use Rattle.aft_turns.specs.Trail.{Trail}
use Rattle.aft_turns.specs.declared.turn.Where.TheVariants as places

-- ---- at the door

-- an open door has an entry
open_is_some : (history : List DoorEntry) → IsTrue (is_open history) → 1 ≤ length history
open_is_some [] is = absurd (false≢true is)
open_is_some (entry ∷ history) is = omega arith

module _ (by : By) (node : ℕ) (old new : DoorView) (opened : IsTrue (is_open old.history)) where
  pub fences : (fenced : Option ℕ) → fenced ≡ up_now node old.history → IfSome fenced (λ inc. new ≡ with_entry old (was_fenced by node inc)) → IfNone fenced (new ≡ old) → StepsAtDoor by (made_at by node Begins) (made_at by node (Tells fenced)) old.history new.history
  fences (Some inc) is some none =
      inl (Fence node inc, ap (λ (d : DoorView). d.history) some, λ trail made. (length_of, ap (λ (t : Trail). t.turns ++ turn ∷ []) made))
    where
      length_of : ℕ
      length_of = length old.history

      turn : Turn
      turn = AtDoor (length old.history) (Fence node inc)
  fences None is some none = inr (ap (λ (d : DoorView). d.history) none, λ trail made. (ap (λ (t : Trail). t.turns) made, sym is, open_is_some old.history opened))

-- ---- at the node

module _ (by : By) (handed : ℕ) (old new : NodeView) where
  over : (fenced : Option ℕ) (act : NodeAct) (reply : Reply) → GoesDown old.number fenced old.history act reply → new ≡ after_entry handed by act (Some reply) old
      → StepsAtNode by handed (made_at by old.number (Tells fenced)) (made_at by old.number Ended) old new
  over fenced act reply down is = (
    act,
    Some reply,
    is,
    λ trail made. record {
      incarnation = fenced;
      since = trail;
      before = old.history;
      front = max old.front handed;
      act = act;
      reply = reply;
      fenced = made;
      turns = refl;
      look = refl;
      down = down;
    },
  )

  pub goes_down : (fenced : Option ℕ) → new ≡ down_done handed by fenced old → StepsAtNode by handed (made_at by old.number (Tells fenced)) (made_at by old.number Ended) old new
  goes_down None is = over None acts.Nothing (replies.NotUp old.number) (refl, refl) is
  goes_down (Some inc) is = by_state (boots inc (node_state old.history) || serves inc (node_state old.history)) refl is
    where
      by_state : (here : Bool) → (boots inc (node_state old.history) || serves inc (node_state old.history)) ≡ here
          → new ≡ (if here then after_entry handed by (acts.Down inc) (Some (replies.Crashed old.number inc)) old else answered handed by (replies.Crashed old.number inc) old)
          → StepsAtNode by handed (made_at by old.number (Tells (Some inc))) (made_at by old.number Ended) old new
      by_state true here is = over (Some inc) (acts.Down inc) (replies.Crashed old.number inc) (inl refl, refl) is
      by_state false here is = over (Some inc) acts.Nothing (replies.Crashed old.number inc) (inr (refl, ap not here), refl) is

-- whose next turn is at the door has done nothing
pub door_begins : (n : ℕ) (stage : Fencing) → next_at n stage ≡ places.Door → stage ≡ Begins
door_begins n Begins next = refl
door_begins n (Tells fenced) next = absurd (not_node next)
  where
    not_node : places.Node n ≡ places.Door → ⊥
    not_node e = cc
door_begins n Ended next = absurd (not_done next)
  where
    not_done : places.Done ≡ places.Door → ⊥
    not_done e = cc
