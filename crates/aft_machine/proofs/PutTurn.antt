-- The turn of a put, by what the node does.
use Rattle.std.proofs.Common.{◌≡◌, ℕ, Bool, true, false, ◌&&◌, List, [], ◌∷◌, ◌++◌, max, refl, sym, ap, subst, ◌∙◌, inl, inr}
use Rattle.std.specs.Prelude.{IsTrue, None, Option, Some, if◌then◌else◌}
use Rattle.std.specs.Option.{ForSome}
use Rattle.aft_model.specs.declared.caller.Attempt.{Attempt}
use Rattle.aft_model.specs.declared.caller.By.{By}
use Rattle.aft_model.specs.declared.caller.Hold.{Hold}
use Rattle.aft_model.specs.declared.node.NodeAct.{NodeAct}
use Rattle.aft_model.specs.declared.node.NodeAct.TheVariants as acts
use Rattle.aft_model.specs.declared.reply.Reply.{Reply}
use Rattle.aft_model.specs.declared.reply.Reply.TheVariants as replies
use Rattle.aft_model.specs.Attempts.{AttemptState, IsRunning, attempt_state, is_running}
use Rattle.aft_model.specs.NodeState.{node_state, part, serves}
use Rattle.aft_ledger.specs.Turns.{is_doing, may_put}
use Rattle.aft_ledger.specs.View.{NodeView, after_entry, answered}
use Rattle.aft_lines.specs.Turns.{AtNode, Turn}
use Rattle.aft_node.specs.Getting.{put_done}
use Rattle.aft_node.specs.Held.{get_refusal, running_refusal}
use Rattle.aft_node.specs.Outcomes.{Does}
use Rattle.aft_read.specs.Made.{refusal_at, turn_at}
use Rattle.aft_turns.specs.Steps.{StepsAtNode, entry_of}
use Rattle.aft_turns.specs.Trail.{Trail, behind}
use Rattle.aft_machine.specs.PutMade.{Puts, made_at}
use Rattle.aft_machine.specs.declared.buffering.Stage.TheVariants.{Begins, Ended}

-- an attempt of which nothing is refused runs
runs_so : (serving : Bool) (state : AttemptState) (down : Reply) → (if serving then running_refusal state else Some down) ≡ None → IsTrue (serving && is_running state)
runs_so true IsRunning down e = refl
runs_so true state down e = absurd cc
runs_so false state down e = absurd cc

module _ (by : By) (handed : ℕ) (hold : Hold) (key value asked given : List ℕ) (old new : NodeView) (here : hold.node ≡ old.number) (ours : ForSome hold.attempt (λ a. a.node ≡ hold.node)) where
  abbrev stood : Trail → Type 0
  stood trail = made_at by hold asked given (Begins key value) trail

  abbrev stands : Trail → Type 0
  stands trail = made_at by hold asked given Ended trail

  -- the turn as an entry at the node that is held
  same_turn : (act : NodeAct) (answer : Option Reply) → AtNode old.number old.history (entry_of by handed old act answer) ≡ turn_at by hold old.history (max old.front handed) act answer
  same_turn act answer = ap (λ (n : ℕ). AtNode n old.history (entry_of by handed old act answer)) (sym here)

  ends : (act : NodeAct) (answer : Option Reply) → Puts hold key value old.history act answer → (trail : Trail) → stood trail → stands (behind trail (AtNode old.number old.history (entry_of by handed old act answer)))
  ends act answer puts trail (same_key, same_value, none) = record {
    before = old.history;
    front = max old.front handed;
    act = act;
    answer = answer;
    turns = ap (λ (t : Trail). t.turns ++ AtNode old.number old.history (entry_of by handed old act answer) ∷ []) none ∙ ap (λ (t : Turn). t ∷ []) (same_turn act answer);
    puts = subst (λ (k : List ℕ). Puts hold k given old.history act answer) same_key (subst (λ (v : List ℕ). Puts hold key v old.history act answer) same_value puts);
  }

  -- a refusal tells the number of the node that is held
  abbrev held_node : NodeView
  held_node = record { number = hold.node; capacity = 0; history = old.history; front = 0; room = 0 }

  same_refusal : (h : Option Attempt) → get_refusal h old ≡ get_refusal h held_node
  same_refusal None = refl
  same_refusal (Some a) = ap (λ (n : ℕ). if serves a.inc (node_state old.history) then running_refusal (attempt_state a (part old.history)) else Some (replies.NodeDown n a.inc)) (sym here)

  running_so : (a : Attempt) → get_refusal (Some a) old ≡ None → IsTrue (is_doing is_running a old.history)
  running_so a is = runs_so (serves a.inc (node_state old.history)) (attempt_state a (part old.history)) (replies.NodeDown old.number a.inc) is

  -- an attempt that runs, by the room in its buffer
  by_room : (a : Attempt) → hold.attempt ≡ Some a → IsTrue (is_doing is_running a old.history) → (room : Bool) → may_put a key old.history ≡ room
      → new ≡ (if room then after_entry handed by (acts.Put a key value) (Some replies.Stored) old else answered handed by replies.TooManyKeys old) → StepsAtNode by handed stood stands old new
  by_room a held runs true room grown =
      (acts.Put a key value, Some replies.Stored, grown, ends (acts.Put a key value) (Some replies.Stored) (inr (inr (inl (a, record { held = held; running = runs }, room, refl, refl)))))
  by_room a held runs false room grown =
      (acts.Nothing, Some replies.TooManyKeys, grown, ends acts.Nothing (Some replies.TooManyKeys) (inr (inr (inr (a, record { held = held; running = runs }, room, refl, refl)))))

  by_refusal : (h : Option Attempt) (why : Option Reply) → hold.attempt ≡ h → get_refusal h old ≡ why → Does handed by why (put_done handed by key value h old) old new → StepsAtNode by handed stood stands old new
  by_refusal h (Some reply) held is grown = (acts.Nothing, Some reply, grown, ends acts.Nothing (Some reply) (inr (inl (refl, refl, told, ours))))
    where
      told : Some reply ≡ refusal_at hold old.history
      told = sym is ∙ same_refusal h ∙ ap (λ (o : Option Attempt). get_refusal o held_node) (sym held)
  by_refusal h None held is (inr grown) = (acts.Nothing, Some replies.NoMemory, grown, ends acts.Nothing (Some replies.NoMemory) (inl (refl, refl)))
  by_refusal None None held is (inl grown) = absurd cc
  by_refusal (Some a) None held is (inl grown) = by_room a held (running_so a is) (may_put a key old.history) refl grown

  pub steps : Does handed by (get_refusal hold.attempt old) (put_done handed by key value hold.attempt old) old new → StepsAtNode by handed stood stands old new
  steps does = by_refusal hold.attempt (get_refusal hold.attempt old) refl refl does
