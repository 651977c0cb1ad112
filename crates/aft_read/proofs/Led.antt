-- Where the turns of a get that fetches lead.
use Rattle.std.proofs.Common.{◌≡◌, ℕ, Bool, ◌&&◌, ◌⊎◌, List, [], ◌∷◌, ◌++◌, refl, sym, subst, inl, inr}
use Rattle.std.specs.Prelude.{IsTrue, None, Option, Some, is_some}
use Rattle.std.specs.Str.{bytes_eq}
use Rattle.std.proofs.lemmas.Bool.{and_from, or_left, or_right, eq-eqb}
use Rattle.aft_id.specs.declared.txn_id.TxnId.{TxnId}
use Rattle.aft_id.specs.TxnId.{same_id}
use Rattle.aft_keeper.specs.declared.keeper.KeeperAnswer.{KeeperAnswer}
use Rattle.aft_model.specs.declared.caller.Attempt.{Attempt}
use Rattle.aft_model.specs.declared.caller.By.{By}
use Rattle.aft_model.specs.declared.caller.Hold.{Hold}
use Rattle.aft_model.specs.declared.choice.Picked.TheVariants as picked
use Rattle.aft_model.specs.declared.door.DoorEntry.{DoorEntry}
use Rattle.aft_model.specs.declared.node.NodeAct.{NodeAct}
use Rattle.aft_model.specs.declared.node.NodeAct.TheVariants as acts
use Rattle.aft_model.specs.declared.node.NodeEntry.{NodeEntry}
use Rattle.aft_model.specs.declared.reply.Reply.{Reply}
use Rattle.aft_model.specs.declared.reply.Reply.TheVariants as replies
use Rattle.aft_model.specs.declared.script.Command.TheVariants as commands
use Rattle.aft_model.specs.Attempts.{same_attempt}
use Rattle.aft_model.specs.Membership.{incarnation, same_incarnation}
use Rattle.aft_model.specs.NodeState.{node_state}
use Rattle.aft_model.specs.Readings.{version_name}
use Rattle.aft_model.proofs.Ids.{same_id-refl}
use Rattle.aft_model.proofs.OneCommit.{same_itself as caller_itself}
use Rattle.aft_model.proofs.Sights.{bytes_eq-refl}
use Rattle.aft_lines.specs.Advance.{advance, advanced, closed_by, fetched_by, is_led_to_end, leads_to}
use Rattle.aft_lines.specs.CourseWords.{Ends, answers_down, caller_of, tells_refused}
use Rattle.aft_lines.specs.GetCourse.{ends_get, loses}
use Rattle.aft_lines.specs.LineView.{has_left}
use Rattle.aft_lines.specs.Progress.{HasFetched, Progress}
use Rattle.aft_lines.specs.Turns.{AtDoor, Turn}
use Rattle.law_attempts.proofs.Standing.{same_itself}
use Rattle.aft_node.specs.declared.goes.Got.{Got}
use Rattle.aft_node.specs.declared.goes.Got.TheVariants.{Refused, Version as Came}
use Rattle.aft_turns.proofs.Closed.{closes_line}
use Rattle.aft_read.specs.Fetched.{fetch_act}
use Rattle.aft_read.specs.Made.{Closes, Fetched, IsRefused, TellsOf, turn_at}

module _ (nodes key : List ℕ) (ends : Ends) (left_so : (inc : ℕ) (before : List NodeEntry) → IsTrue (has_left inc (node_state before)) → IsTrue (ends.is_left inc (node_state before))) (by : By) (hold : Hold) (a : Attempt) (here : a.node ≡ hold.node) (id : TxnId) where
  -- the store was asked at this place
  pub asked : (place : ℕ) (answer : KeeperAnswer) → fetched_by ends a key id (AtDoor place (fetch_act a key id answer)) ≡ Some (HasFetched a key id place)
  asked place answer = rw (and_from (same_incarnation (caller_of a) (incarnation a.node a.inc)) (bytes_eq (version_name key id) (version_name key id)) (caller_itself (caller_of a)) (bytes_eq-refl (version_name key id))) refl

  -- a closing turn that this test passes, or that tells that the node has left the incarnation
  module _ (test : NodeAct → Option Reply → Bool) (before : List NodeEntry) (front : ℕ) where
    closed : (act : NodeAct) (answer : Option Reply) → IsTrue (test act answer) ⊎ (IsTrue (has_left a.inc (node_state before)) × (act ≡ acts.Nothing) × (answer ≡ Some (replies.NodeDown a.node a.inc))) → IsTrue (is_led_to_end (closed_by ends a test (turn_at by hold before front act answer)))
    closed act answer (inl passed) = closes_line ends a test hold.node before (record { front = front; by = by; act = act; answer = answer }) here (or_left _ _ passed)
    closed act answer (inr (left, did, told)) =
        closes_line ends a test hold.node before (record { front = front; by = by; act = act; answer = answer }) here
        (or_right _ _ (and_from _ _ (subst (λ (x : NodeAct). IsTrue (answers_down x answer)) (sym did) (subst (λ (o : Option Reply). IsTrue (answers_down acts.Nothing o)) (sym told) refl)) (left_so a.inc before left)))

  it : IsTrue (same_attempt a a && bytes_eq key key && same_id id id)
  it = and_from _ _ (and_from _ _ (same_itself a) (bytes_eq-refl key)) (same_id-refl id)

  lost : (reply : Reply) → IsTrue (tells_refused (Some reply)) → (act : NodeAct) (answer : Option Reply) → (act ≡ acts.Lost a key id) × (answer ≡ Some reply) → IsTrue (loses a key id act answer)
  lost reply refusal act answer (did, told) =
      subst (λ (x : NodeAct). IsTrue (loses a key id x answer)) (sym did)
      (subst (λ (o : Option Reply). IsTrue (loses a key id (acts.Lost a key id) o)) (sym told) (and_from _ _ it refusal))

  -- what was refused is lost
  refused : (got : Got) (look : List DoorEntry) (place : ℕ) (act : NodeAct) (answer : Option Reply) → IsRefused a look got → TellsOf a key id place got act answer → IsTrue (loses a key id act answer)
  refused got look place act answer (inl (is, shut)) tells = lost (replies.NodeDown a.node a.inc) refl act answer (subst (λ (g : Got). TellsOf a key id place g act answer) is tells)
  refused got look place act answer (inr is) tells = lost replies.NoMemory refl act answer (subst (λ (g : Got). TellsOf a key id place g act answer) is tells)

  -- what came, and is told, ends the line
  came : (place : ℕ) (got : Got) (act : NodeAct) (answer : Option Reply) → TellsOf a key id place got act answer → IsTrue (ends_get a key id place act answer)
  came place (Came value) act answer (kept, did, told) =
      subst (λ (x : NodeAct). IsTrue (ends_get a key id place x answer)) (sym did) (and_from _ _ it (eq-eqb place place refl))
  came place (Refused reply) act answer (did, told) = subst (λ (x : NodeAct). IsTrue (ends_get a key id place x answer)) (sym did) it

  module _ (before_first : List NodeEntry) (front_first : ℕ) where
    -- the pick
    abbrev pub first : Turn
    first = turn_at by hold before_first front_first (acts.Select a key (picked.Fetch id)) None

    abbrev step : Progress → Turn → Option Progress
    step = advance (commands.Get key) nodes ends

    -- a fetch that isn't over has come somewhere
    pub goes_on : (more : List Turn) (got : Got) (place : ℕ) (look : List DoorEntry) → Fetched a key id got place look more → IsTrue (is_some (leads_to (commands.Get key) nodes ends (first ∷ more)))
    goes_on more got place look (inl (none, refused)) = subst (λ (ts : List Turn). IsTrue (is_some (leads_to (commands.Get key) nodes ends (first ∷ ts)))) (sym none) refl
    goes_on more got place look (inr (answer, words, one, came)) =
        subst (λ (ts : List Turn). IsTrue (is_some (leads_to (commands.Get key) nodes ends (first ∷ ts)))) (sym one)
        (subst (λ (o : Option Progress). IsTrue (is_some o)) (sym (asked place answer)) refl)

    -- the last turn leads to the end
    pub led_to_end : (more : List Turn) (got : Got) (place : ℕ) (look : List DoorEntry) (before : List NodeEntry) (front : ℕ) (act : NodeAct) (told : Option Reply) → Fetched a key id got place look more → Closes a key id place got before act told → IsTrue (is_led_to_end (leads_to (commands.Get key) nodes ends (first ∷ more ++ turn_at by hold before front act told ∷ [])))
    led_to_end more got place look before front act told (inl (none, was)) closes =
        subst (λ (ts : List Turn). IsTrue (is_led_to_end (leads_to (commands.Get key) nodes ends (first ∷ ts ++ turn_at by hold before front act told ∷ [])))) (sym none)
        (closed (loses a key id) before front act told (by_closes closes))
      where
        by_closes : Closes a key id place got before act told → IsTrue (loses a key id act told) ⊎ (IsTrue (has_left a.inc (node_state before)) × (act ≡ acts.Nothing) × (told ≡ Some (replies.NodeDown a.node a.inc)))
        by_closes (inl tells) = inl (refused got look place act told was tells)
        by_closes (inr left) = inr left
    led_to_end more got place look before front act told (inr (answer, words, one, answered)) closes =
        subst (λ (ts : List Turn). IsTrue (is_led_to_end (leads_to (commands.Get key) nodes ends (first ∷ ts ++ turn_at by hold before front act told ∷ [])))) (sym one)
        (subst (λ (o : Option Progress). IsTrue (is_led_to_end (advanced step o (turn_at by hold before front act told)))) (sym (asked place answer))
        (closed (ends_get a key id place) before front act told (by_closes closes)))
      where
        by_closes : Closes a key id place got before act told → IsTrue (ends_get a key id place act told) ⊎ (IsTrue (has_left a.inc (node_state before)) × (act ≡ acts.Nothing) × (told ≡ Some (replies.NodeDown a.node a.inc)))
        by_closes (inl tells) = inl (came place got act told tells)
        by_closes (inr left) = inr left
