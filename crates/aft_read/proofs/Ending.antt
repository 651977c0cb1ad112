-- The last turn of a get, by what the node does.
use Rattle.std.proofs.Common.{◌≡◌, ℕ, Bool, true, false, ◌||◌, List, [], ◌∷◌, ◌++◌, max, refl, sym, ap, subst, ◌∙◌, inl, inr}
use Rattle.std.specs.Prelude.{IsFalse, IsTrue, Option, Some}
use Rattle.std.proofs.lemmas.Bool.{false≢true}
use Rattle.aft_id.specs.declared.txn_id.TxnId.{TxnId}
use Rattle.aft_model.specs.declared.caller.Attempt.{Attempt}
use Rattle.aft_model.specs.declared.caller.By.{By}
use Rattle.aft_model.specs.declared.caller.Hold.{Hold}
use Rattle.aft_model.specs.declared.node.NodeAct.{NodeAct}
use Rattle.aft_model.specs.declared.node.NodeAct.TheVariants as acts
use Rattle.aft_model.specs.declared.reply.Reply.{Reply}
use Rattle.aft_model.specs.declared.reply.Reply.TheVariants as replies
use Rattle.aft_model.specs.NodeState.{node_state}
use Rattle.aft_ledger.specs.Turns.{is_fetching}
use Rattle.aft_ledger.specs.View.{NodeView, answered}
use Rattle.aft_lines.specs.LineView.{has_left}
use Rattle.aft_lines.specs.Turns.{AtNode, Turn}
use Rattle.aft_node.specs.declared.goes.Got.{Got}
use Rattle.aft_node.specs.declared.goes.Got.TheVariants.{Refused, Version}
use Rattle.aft_node.specs.Getting.{Came}
use Rattle.aft_node.specs.Outcomes.{down_reply}
use Rattle.aft_turns.specs.Steps.{StepsAtNode, entry_of}
use Rattle.aft_turns.specs.Trail.{Trail, behind}
use Rattle.aft_turns.specs.declared.turn.Where.TheVariants as places
use Rattle.aft_read.specs.Made.{Closes, TellsOf, made_at, turn_at}
use Rattle.aft_read.specs.declared.stage.Stage.{Stage}
use Rattle.aft_read.specs.declared.stage.Stage.TheVariants.{Begins, Comes, Ended}

module _ (by : By) (handed : ℕ) (hold : Hold) (asked key : List ℕ) (a : Attempt) (id : TxnId) (got : Got) (place : ℕ) (old new : NodeView) (here : hold.node ≡ old.number) (ours : a.node ≡ old.number) where
  abbrev stood : Trail → Type 0
  stood trail = made_at old.capacity by hold asked (Comes a key id got place) trail

  abbrev stands : Trail → Type 0
  stands trail = made_at old.capacity by hold asked Ended trail

  -- the turn as an entry at the node that is held
  same_turn : (act : NodeAct) (answer : Option Reply) → AtNode old.number old.history (entry_of by handed old act answer) ≡ turn_at by hold old.history (max old.front handed) act answer
  same_turn act answer = ap (λ (n : ℕ). AtNode n old.history (entry_of by handed old act answer)) (sym here)

  ends : (act : NodeAct) (answer : Option Reply) → Closes a key id place got old.history act answer → (trail : Trail) → stood trail → stands (behind trail (AtNode old.number old.history (entry_of by handed old act answer)))
  ends act answer closes trail (same, came) = inr (record {
    attempt = a;
    id = id;
    got = got;
    place = place;
    since = trail;
    before = old.history;
    front = max old.front handed;
    act = act;
    answer = answer;
    came = came;
    turns = ap (λ (t : Turn). trail.turns ++ t ∷ []) (same_turn act answer);
    look = refl;
    closes = subst (λ (k : List ℕ). Closes a k id place got old.history act answer) same closes;
  })

  left_so : (left going : Bool) → IsTrue (left || going) → going ≡ false → IsTrue left
  left_so true going is none = refl
  left_so false going is none = absurd (false≢true (sym none ∙ is))

  pub steps : IsTrue (has_left a.inc (node_state old.history) || is_fetching a old.history) → (IsTrue (is_fetching a old.history) → Came handed by a key id place got old new) → (IsFalse (is_fetching a old.history) → new ≡ answered handed by (down_reply old a.inc) old) → StepsAtNode by handed stood stands old new
  steps may comes over = by_open (is_fetching a old.history) refl
    where
      by_got : (g : Got) → got ≡ g → Came handed by a key id place g old new → StepsAtNode by handed stood stands old new
      by_got (Version value) is (kept, grown) =
          (acts.Value a key id place kept, Some (replies.Value id value), grown, ends (acts.Value a key id place kept) (Some (replies.Value id value)) (inl (subst (λ (g : Got). TellsOf a key id place g (acts.Value a key id place kept) (Some (replies.Value id value))) (sym is) (kept, refl, refl))))
      by_got (Refused reply) is grown =
          (acts.Lost a key id, Some reply, grown, ends (acts.Lost a key id) (Some reply) (inl (subst (λ (g : Got). TellsOf a key id place g (acts.Lost a key id) (Some reply)) (sym is) (refl, refl))))

      by_open : (going : Bool) → is_fetching a old.history ≡ going → StepsAtNode by handed stood stands old new
      by_open true is = by_got got refl (comes is)
      by_open false is =
          (acts.Nothing, Some (replies.NodeDown old.number a.inc), over is, ends acts.Nothing (Some (replies.NodeDown old.number a.inc)) (inr (left_so (has_left a.inc (node_state old.history)) (is_fetching a old.history) may is, refl, ap (λ (n : ℕ). Some (replies.NodeDown n a.inc)) (sym ours))))

-- a pick for the key that was asked
pub picks_asked : (capacity : ℕ) (by : By) (handed : ℕ) (hold : Hold) (key : List ℕ) (stage : Stage) (old new : NodeView) → StepsAtNode by handed (made_at capacity by hold key (Begins key)) (made_at capacity by hold key stage) old new → (asked : List ℕ) → StepsAtNode by handed (made_at capacity by hold asked (Begins key)) (made_at capacity by hold asked stage) old new
picks_asked capacity by handed hold key stage old new (act, answer, grown, leads) asked =
    (act, answer, grown, λ trail made. subst (λ (k : List ℕ). made_at capacity by hold k stage (behind trail (AtNode old.number old.history (entry_of by handed old act answer)))) made.0 (leads trail (refl, made.1)))

-- one node is next where the other is
pub one_node : (n m : ℕ) → places.Node n ≡ places.Node m → n ≡ m
one_node n m e = cc
