-- What stands of a get whose first turn answered.
use Rattle.std.proofs.Common.{◌≡◌, ℕ, Bool, true, false, ◌&&◌, ◌||◌, not, List, [], ◌∷◌, refl, sym, ap, subst, ◌∙◌, inl, inr}
use Rattle.std.specs.Option.{ForSome}
use Rattle.std.specs.Prelude.{IsTrue, None, Option, Some, is_none, is_some, if◌then◌else◌}
use Rattle.std.proofs.lemmas.Bool.{and_from, false≢true, or_left, or_right, eq-eqb}
use Rattle.aft_model.specs.declared.caller.Attempt.{Attempt}
use Rattle.aft_model.specs.declared.caller.By.{By}
use Rattle.aft_model.specs.declared.caller.Hold.{Hold}
use Rattle.aft_model.specs.declared.choice.Picked.{Picked}
use Rattle.aft_model.specs.declared.choice.Picked.TheVariants as picked
use Rattle.aft_model.specs.declared.door.DoorEntry.{DoorEntry}
use Rattle.aft_model.specs.declared.node.NodeAct.{NodeAct}
use Rattle.aft_model.specs.declared.node.NodeAct.TheVariants as acts
use Rattle.aft_model.specs.declared.node.NodeEntry.{NodeEntry}
use Rattle.aft_model.specs.declared.reply.Reply.{Reply}
use Rattle.aft_model.specs.declared.reply.Reply.TheVariants as replies
use Rattle.aft_model.specs.declared.script.Command.TheVariants as commands
use Rattle.aft_model.proofs.Sights.{bytes_eq-refl}
use Rattle.aft_model.specs.Attempts.{AttemptState, IsGone, IsRunning, attempt_state, is_gone, is_running}
use Rattle.aft_model.specs.Membership.{incarnation}
use Rattle.aft_model.specs.NodeRules.{pick, same_picked}
use Rattle.aft_model.specs.NodeSights.{has_seen}
use Rattle.aft_model.specs.NodeState.{node_state, part, serves, service}
use Rattle.aft_ledger.specs.Turns.{answer_of}
use Rattle.aft_lines.specs.Advance.{got_with, is_led_to_end}
use Rattle.aft_lines.specs.Causes.{Caused}
use Rattle.aft_lines.specs.CausesAttempts.{is_refused_by, state_in}
use Rattle.aft_lines.specs.CausesNodes.{is_lost, is_of_held}
use Rattle.aft_lines.specs.LegalTrace.{act_of, node_words}
use Rattle.aft_lines.specs.LineView.{LineView, is_served}
use Rattle.aft_lines.specs.Makes.{gets_at_node}
use Rattle.law_attempts.proofs.Standing.{same_itself}
use Rattle.aft_node.specs.Held.{get_refusal, running_refusal}
use Rattle.aft_turns.specs.Stands.{EndsRightly, GoesRightly, is_right, last_sees}
use Rattle.aft_turns.proofs.Closed.{led_is_some}
use Rattle.aft_turns.proofs.Found.{found_doing}
use Rattle.aft_turns.proofs.Views.{with_words}
use Rattle.aft_read.specs.Made.{AnswersAtOnce, Picks, turn_at}
use Rattle.aft_read.proofs.Picked.{picked_so}

-- a turn at the get's node that a get makes, of this key and of the attempt that is held
pub right_at : (by : By) (hold : Hold) (key : List ℕ) (before : List NodeEntry) (front : ℕ) (act : NodeAct) (answer : Option Reply) → IsTrue (gets_at_node act) → IsTrue (node_words (commands.Get key) act) → IsTrue (act_of hold.attempt act)
    → IsTrue (is_right (commands.Get key) hold (turn_at by hold before front act answer))
right_at by hold key before front act answer made carries speaks = and_from _ _ (and_from _ _ (and_from _ _ made carries) (eq-eqb hold.node hold.node refl)) speaks

-- its one turn answers
pub some_answer : (capacity : ℕ) (hold : Hold) (key : List ℕ) (before : List NodeEntry) (act : NodeAct) (answer : Option Reply) → AnswersAtOnce capacity hold key before act answer → IsTrue (is_some answer)
some_answer capacity hold key before act answer (inl (did, told)) = subst (λ (o : Option Reply). IsTrue (is_some o)) (sym told) refl
some_answer capacity hold key before act answer (inr (inl (did, some, told, ours))) = some
some_answer capacity hold key before act answer (inr (inr (a, what, picks, some, did, told))) = some

module _ (capacity : ℕ) (by : By) (hold : Hold) (key : List ℕ) (before : List NodeEntry) (front : ℕ) (view : LineView) (cache : view.settings.cache ≡ capacity) where
  -- the line whose one turn did this
  abbrev ran : NodeAct → Option Reply → LineView
  ran act answer = with_words (commands.Get key) hold (turn_at by hold before front act answer ∷ []) view

  -- ---- what is no fetch

  no_fetch : (a : Attempt) (what : Picked) → IsTrue (is_some (answer_of what)) → IsTrue (is_led_to_end (got_with (acts.Select a key what)))
  no_fetch a (picked.Fetch id) told = absurd (false≢true told)
  no_fetch a what told = refl

  leads : (act : NodeAct) (answer : Option Reply) → AnswersAtOnce capacity hold key before act answer → IsTrue (is_led_to_end (got_with act))
  leads act answer (inl (did, told)) = subst (λ (x : NodeAct). IsTrue (is_led_to_end (got_with x))) (sym did) refl
  leads act answer (inr (inl (did, some, told, ours))) = subst (λ (x : NodeAct). IsTrue (is_led_to_end (got_with x))) (sym did) refl
  leads act answer (inr (inr (a, what, picks, some, did, told))) =
      subst (λ (x : NodeAct). IsTrue (is_led_to_end (got_with x))) (sym did) (no_fetch a what (subst (λ (o : Option Reply). IsTrue (is_some o)) told some))

  right_so : (act : NodeAct) (answer : Option Reply) → AnswersAtOnce capacity hold key before act answer → IsTrue (is_right (commands.Get key) hold (turn_at by hold before front act answer))
  right_so act answer (inl (did, told)) = subst (λ (x : NodeAct). IsTrue (is_right (commands.Get key) hold (turn_at by hold before front x answer))) (sym did) (right_at by hold key before front acts.Nothing answer refl refl refl)
  right_so act answer (inr (inl (did, some, told, ours))) = subst (λ (x : NodeAct). IsTrue (is_right (commands.Get key) hold (turn_at by hold before front x answer))) (sym did) (right_at by hold key before front acts.Nothing answer refl refl refl)
  right_so act answer (inr (inr (a, what, picks, some, did, told))) =
      subst (λ (x : NodeAct). IsTrue (is_right (commands.Get key) hold (turn_at by hold before front x answer))) (sym did)
      (right_at by hold key before front (acts.Select a key what) answer refl (bytes_eq-refl key)
      (subst (λ (o : Option Attempt). IsTrue (act_of o (acts.Select a key what))) (sym picks.held) (same_itself a)))

  -- ---- its cause

  -- the pick, where the settings say how many values a node keeps
  in_cache : (what : Picked) → IsTrue (is_served (λ b serving. is_running (attempt_state b serving.part) && same_picked (pick capacity serving b key) what) hold.attempt (service before)) → IsTrue (is_served (λ b serving. is_running (attempt_state b serving.part) && same_picked (pick view.settings.cache serving b key) what) hold.attempt (service before))
  in_cache what is = subst (λ (kept : ℕ). IsTrue (is_served (λ b serving. is_running (attempt_state b serving.part) && same_picked (pick kept serving b key) what) hold.attempt (service before))) (sym cache) is

  -- why a get of who holds this is refused
  abbrev refusal_of_held : Option Attempt → Option Reply
  refusal_of_held h = get_refusal h (record { number = hold.node; capacity = 0; history = before; front = 0; room = 0 })

  one_reply : (r q : Reply) → Some r ≡ Some q → r ≡ q
  one_reply r q e = cc

  module _ (act : NodeAct) (answer : Option Reply) where
    abbrev is_caused : Reply → Type 0
    is_caused reply = Caused (ran act answer) reply

    refused_in : (a : Attempt) (reply : Reply) (state : AttemptState) → hold.attempt ≡ Some a → IsTrue (serves a.inc (node_state before)) → attempt_state a (part before) ≡ state → running_refusal state ≡ Some reply → is_caused reply
    refused_in a reply IsRunning held serving at is = absurd (none_is is)
      where
        none_is : None ≡ Some reply → ⊥
        none_is e = cc
    refused_in a reply IsGone held serving at is =
        subst is_caused (one_reply replies.NoTransaction reply is)
        (subst (λ (o : Option Attempt). IsTrue (is_none o || is_served (λ b s. is_gone (state_in b s)) o (service before))) (sym held)
        (or_right false _ (found_doing (λ b s. is_gone (state_in b s)) is_gone a before (and_from _ _ serving (subst (λ (q : AttemptState). IsTrue (is_gone q)) (sym at) refl)) (λ s of gone. gone))))
    refused_in a reply state held serving at is =
        subst is_caused (one_reply replies.Committing reply is)
        (subst (λ (o : Option Attempt). IsTrue (is_served (λ b s. is_refused_by (state_in b s) (commands.Get key)) o (service before))) (sym held)
        (found_doing (λ b s. is_refused_by (state_in b s) (commands.Get key)) (λ q. not (is_gone q || is_running q)) a before (and_from _ _ serving (subst (λ (q : AttemptState). IsTrue (not (is_gone q || is_running q))) (sym at) refl)) (λ s of refuses. refuses)))

    refused_down : (a : Attempt) (reply : Reply) → hold.attempt ≡ Some a → a.node ≡ hold.node → serves a.inc (node_state before) ≡ false → Some (replies.NodeDown hold.node a.inc) ≡ Some reply → is_caused reply
    refused_down a reply held here down is =
        subst is_caused (one_reply (replies.NodeDown hold.node a.inc) reply is)
        (subst (λ (o : Option Attempt). IsTrue (is_of_held (incarnation hold.node a.inc) o && is_lost (incarnation hold.node a.inc) (ran act answer))) (sym held)
        (and_from _ _ (and_from _ _ (eq-eqb hold.node a.node (sym here)) (eq-eqb a.inc a.inc refl)) (or_left _ _ (or_left _ _ (ap not down)))))

    refused : (h : Option Attempt) (reply : Reply) → hold.attempt ≡ h → ForSome h (λ a. a.node ≡ hold.node) → refusal_of_held h ≡ Some reply → is_caused reply
    refused None reply held ours is =
        subst is_caused (one_reply replies.NoTransaction reply is)
        (subst (λ (o : Option Attempt). IsTrue (is_none o || is_served (λ b s. is_gone (state_in b s)) o (service before))) (sym held) refl)
    refused (Some a) reply held ours is = by_service (serves a.inc (node_state before)) refl is
      where
        by_service : (it : Bool) → serves a.inc (node_state before) ≡ it → (if it then running_refusal (attempt_state a (part before)) else Some (replies.NodeDown hold.node a.inc)) ≡ Some reply → is_caused reply
        by_service true runs is = refused_in a reply (attempt_state a (part before)) held runs refl is
        by_service false down is = refused_down a reply held (ours a refl) down is

    picked_caused : (a : Attempt) (what : Picked) (reply : Reply) → Picks capacity hold key a what before → answer_of what ≡ Some reply → is_caused reply
    picked_caused a (picked.Own value) reply picks is = subst is_caused (one_reply (replies.Own value) reply is) (in_cache (picked.Own value) (picked_so capacity hold key a (picked.Own value) before picks))
    picked_caused a (picked.Cached id value) reply picks is = subst is_caused (one_reply (replies.Value id value) reply is) (or_left _ _ (in_cache (picked.Cached id value) (picked_so capacity hold key a (picked.Cached id value) before picks)))
    picked_caused a (picked.Fetch id) reply picks is = absurd (none_is is)
      where
        none_is : None ≡ Some reply → ⊥
        none_is e = cc
    picked_caused a picked.Absent reply picks is = subst is_caused (one_reply replies.Absent reply is) (in_cache picked.Absent (picked_so capacity hold key a picked.Absent before picks))
    picked_caused a (picked.NoneFits blocked) reply picks is = subst is_caused (one_reply (replies.NoValidVersion blocked) reply is) (in_cache (picked.NoneFits blocked) (picked_so capacity hold key a (picked.NoneFits blocked) before picks))

    caused_so : (reply : Reply) → AnswersAtOnce capacity hold key before act answer → answer ≡ Some reply → is_caused reply
    caused_so reply (inl (did, told)) is = subst is_caused (one_reply replies.NoMemory reply (sym told ∙ is)) refl
    caused_so reply (inr (inl (did, some, told, ours))) is = refused hold.attempt reply refl ours (sym told ∙ is)
    caused_so reply (inr (inr (a, what, picks, some, did, told))) is = picked_caused a what reply picks (sym told ∙ is)

  -- ---- all of it

  pub goes : (act : NodeAct) (answer : Option Reply) → AnswersAtOnce capacity hold key before act answer → GoesRightly (ran act answer)
  goes act answer at_once = record {
    leads = led_is_some (got_with act) (leads act answer at_once);
    right = and_from _ _ (right_so act answer at_once) refl;
  }

  pub ends : (act : NodeAct) (answer : Option Reply) → AnswersAtOnce capacity hold key before act answer → EndsRightly (ran act answer)
  ends act answer at_once = record {
    leads = leads act answer at_once;
    answers = some_answer capacity hold key before act answer at_once;
    caused = λ reply is. caused_so act answer reply at_once is;
  }

-- its one turn asks nothing of the door
pub sees : (capacity : ℕ) (by : By) (hold : Hold) (key : List ℕ) (before : List NodeEntry) (front : ℕ) (seen : List DoorEntry) (act : NodeAct) (answer : Option Reply) → AnswersAtOnce capacity hold key before act answer → IsTrue (last_sees seen (turn_at by hold before front act answer ∷ []))
sees capacity by hold key before front seen act answer (inl (did, told)) = subst (λ (x : NodeAct). IsTrue (has_seen hold.node seen by before x answer)) (sym did) refl
sees capacity by hold key before front seen act answer (inr (inl (did, some, told, ours))) = subst (λ (x : NodeAct). IsTrue (has_seen hold.node seen by before x answer)) (sym did) refl
sees capacity by hold key before front seen act answer (inr (inr (a, what, picks, some, did, told))) = subst (λ (x : NodeAct). IsTrue (has_seen hold.node seen by before x answer)) (sym did) refl
