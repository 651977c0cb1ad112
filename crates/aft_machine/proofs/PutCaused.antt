-- What a put answers has its cause.
use Rattle.std.proofs.Common.{◌≡◌, ℕ, Bool, true, false, ◌&&◌, ◌||◌, not, List, [], ◌∷◌, ◌++◌, length, refl, sym, ap, subst, ◌∙◌, inl, inr}
use Rattle.std.specs.Option.{ForSome, option_eq}
use Rattle.std.specs.Prelude.{IsFalse, IsTrue, None, Option, Some, if◌then◌else◌, is_none, is_some, nat_lt}
use Rattle.std.specs.Str.{bytes_eq}
use Rattle.std.proofs.lemmas.Bool.{and_from, eq-eqb, or_left, or_right}
use Rattle.aft_model.specs.declared.caller.Attempt.{Attempt}
use Rattle.aft_model.specs.declared.caller.By.{By}
use Rattle.aft_model.specs.declared.caller.Hold.{Hold}
use Rattle.aft_model.specs.declared.node.NodeAct.{NodeAct}
use Rattle.aft_model.specs.declared.node.NodeAct.TheVariants as acts
use Rattle.aft_model.specs.declared.node.NodeEntry.{NodeEntry}
use Rattle.aft_model.specs.declared.reply.Reply.{Reply}
use Rattle.aft_model.specs.declared.reply.Reply.TheVariants as replies
use Rattle.aft_model.specs.declared.script.Command.TheVariants as commands
use Rattle.aft_model.specs.Attempts.{AttemptState, IsGone, IsRunning, Write, attempt_state, buffer, buffered, is_gone, is_running, same_attempt, with_write}
use Rattle.aft_model.specs.Membership.{incarnation}
use Rattle.aft_model.specs.NodeRules.{may_put_key, most_keys}
use Rattle.aft_model.specs.NodeState.{IsBooting, IsDown, IsServing, NodeState, Service, goes_on, node_state, part, part_in, serves, service, service_in}
use Rattle.aft_model.proofs.Services.{node_state-snoc}
use Rattle.aft_model.proofs.Sights.{bytes_eq-refl}
use Rattle.aft_ledger.specs.Turns.{may_put}
use Rattle.aft_lines.specs.Causes.{Caused}
use Rattle.aft_lines.specs.CausesAttempts.{holds_value, is_refused_by, state_in}
use Rattle.aft_lines.specs.CausesNodes.{is_of_held, is_unserved}
use Rattle.aft_lines.specs.LineView.{LineView, is_served, node_turns}
use Rattle.law_attempts.proofs.Acts.{buffer-snoc}
use Rattle.law_attempts.proofs.Buffers.{buffered_with}
use Rattle.law_attempts.proofs.Standing.{same_itself}
use Rattle.aft_node.specs.Held.{get_refusal, running_refusal}
use Rattle.aft_turns.proofs.Found.{found_doing}
use Rattle.aft_turns.proofs.Views.{with_words}
use Rattle.aft_read.specs.Made.{turn_at}
use Rattle.aft_machine.specs.PutMade.{Puts, Runs}

-- a service has an entry more behind one that leaves it as it is
part_more : (state : NodeState) (entry : NodeEntry) (s : Service) → service_in state ≡ Some s → part_in (service_in (goes_on state entry)) ≡ s.part ++ entry ∷ []
part_more (IsServing t) entry s e = ap (λ (x : Service). x.part ++ entry ∷ []) (one t s e)
  where
    one : (x y : Service) → Some x ≡ Some y → x ≡ y
    one x y e = cc
part_more IsDown entry s e = absurd cc
part_more (IsBooting inc running) entry s e = absurd cc

-- behind a put the attempt has buffered its value
value_put : (a : Attempt) (key value : List ℕ) (writes : List Write) → buffered key (if same_attempt a a then with_write (record { key = key; value = value }) writes else writes) ≡ Some value
value_put a key value writes =
    ap (λ (t : Bool). buffered key (if t then with_write (record { key = key; value = value }) writes else writes)) (same_itself a)
    ∙ (buffered_with key (record { key = key; value = value }) writes ∙ ap (λ (t : Bool). if t then Some value else buffered key writes) (bytes_eq-refl key))

module _ (by : By) (hold : Hold) (key value : List ℕ) (before : List NodeEntry) (front : ℕ) (view : LineView) (act : NodeAct) (answer : Option Reply) where
  -- the line whose one turn did this
  abbrev ran : LineView
  ran = with_words (commands.Put key value) hold (turn_at by hold before front act answer ∷ []) view

  abbrev is_caused : Reply → Type 0
  is_caused reply = Caused ran reply

  one_reply : (r q : Reply) → Some r ≡ Some q → r ≡ q
  one_reply r q e = cc

  -- ---- a refusal

  refused_in : (a : Attempt) (reply : Reply) (state : AttemptState) → hold.attempt ≡ Some a → IsTrue (serves a.inc (node_state before)) → attempt_state a (part before) ≡ state → running_refusal state ≡ Some reply → is_caused reply
  refused_in a reply IsRunning held serving at is = absurd (none_is is)
    where
      none_is : None ≡ Some reply → ⊥
      none_is e = cc
  refused_in a reply IsGone held serving at is =
      subst is_caused (one_reply replies.NoTransaction reply is)
      (subst (λ (o : Option Attempt). IsTrue (is_none o || is_served (λ b s. is_gone (state_in b s)) o (service before))) (sym held)
      (or_right false _ (found_doing (λ b s. is_gone (state_in b s)) is_gone a before (and_from _ _ serving (subst (λ (q : AttemptState). IsTrue (is_gone q)) (sym at) refl)) (λ s of gone. gone))))
  refused_in a reply state held serving at is =
      subst is_caused (one_reply replies.Committing reply is)
      (subst (λ (o : Option Attempt). IsTrue (is_served (λ b s. is_refused_by (state_in b s) (commands.Put key value)) o (service before))) (sym held)
      (found_doing (λ b s. is_refused_by (state_in b s) (commands.Put key value)) (λ q. not (is_gone q || is_running q)) a before (and_from _ _ serving (subst (λ (q : AttemptState). IsTrue (not (is_gone q || is_running q))) (sym at) refl)) (λ s of refuses. refuses)))

  refused_down : (a : Attempt) (reply : Reply) → hold.attempt ≡ Some a → a.node ≡ hold.node → serves a.inc (node_state before) ≡ false → Some (replies.NodeDown hold.node a.inc) ≡ Some reply → is_caused reply
  refused_down a reply held here down is =
      subst is_caused (one_reply (replies.NodeDown hold.node a.inc) reply is)
      (subst (λ (o : Option Attempt). IsTrue (is_of_held (incarnation hold.node a.inc) o && is_unserved a.inc (node_turns ran))) (sym held)
      (and_from _ _ (and_from _ _ (eq-eqb hold.node a.node (sym here)) (eq-eqb a.inc a.inc refl)) (or_left _ _ (ap not down))))

  refused : (h : Option Attempt) (reply : Reply) → hold.attempt ≡ h → ForSome h (λ a. a.node ≡ hold.node) → get_refusal h (record { number = hold.node; capacity = 0; history = before; front = 0; room = 0 }) ≡ Some reply → is_caused reply
  refused None reply held ours is =
      subst is_caused (one_reply replies.NoTransaction reply is)
      (subst (λ (o : Option Attempt). IsTrue (is_none o || is_served (λ b s. is_gone (state_in b s)) o (service before))) (sym held) refl)
  refused (Some a) reply held ours is = by_service (serves a.inc (node_state before)) refl is
    where
      by_service : (it : Bool) → serves a.inc (node_state before) ≡ it → (if it then running_refusal (attempt_state a (part before)) else Some (replies.NodeDown hold.node a.inc)) ≡ Some reply → is_caused reply
      by_service true runs is = refused_in a reply (attempt_state a (part before)) held runs refl is
      by_service false down is = refused_down a reply held (ours a refl) down is

  -- ---- an attempt that runs

  -- the room in its buffer, in the service that the line found
  room_in : (a : Attempt) (s : Service) → service before ≡ Some s → may_put a key before ≡ may_put_key s a key
  room_in a s of = ap (λ (o : Option Service). is_some (buffered key (buffer a (part_in o))) || nat_lt (length (buffer a (part_in o))) most_keys) of

  -- the tests of the two causes
  abbrev is_full_for : Attempt → Service → Bool
  is_full_for b s = is_running (state_in b s) && not (may_put_key s b key)

  abbrev has_put_it : Attempt → Service → Bool
  has_put_it b s = is_running (state_in b s) && may_put_key s b key && holds_value key value b ran

  too_many : (a : Attempt) → Runs hold a before → IsFalse (may_put a key before) → is_caused replies.TooManyKeys
  too_many a runs full =
      subst (λ (o : Option Attempt). IsTrue (is_served is_full_for o (service before))) (sym runs.held)
      (found_doing is_full_for is_running a before runs.running (λ s of running. and_from _ _ running (ap not (sym (room_in a s of) ∙ full))))

  -- the line's entry, had it done this
  abbrev entry_did : NodeAct → NodeEntry
  entry_did did = record { front = front; by = by; act = did; answer = answer }

  behind_put : (a : Attempt) (s : Service) → service before ≡ Some s → part (before ++ entry_did (acts.Put a key value) ∷ []) ≡ s.part ++ entry_did (acts.Put a key value) ∷ []
  behind_put a s of = ap (λ (q : NodeState). part_in (service_in q)) (node_state-snoc before (entry_did (acts.Put a key value))) ∙ part_more (node_state before) (entry_did (acts.Put a key value)) s of

  has_value : (a : Attempt) (s : Service) → service before ≡ Some s → buffered key (buffer a (part (before ++ entry_did (acts.Put a key value) ∷ []))) ≡ Some value
  has_value a s of =
      ap (λ (p : List NodeEntry). buffered key (buffer a p)) (behind_put a s of)
      ∙ (ap (buffered key) (buffer-snoc a s.part (entry_did (acts.Put a key value))) ∙ value_put a key value (buffer a s.part))

  kept : (a : Attempt) (s : Service) → act ≡ acts.Put a key value → service before ≡ Some s → IsTrue (holds_value key value a ran)
  kept a s did of =
      subst (λ (x : NodeAct). IsTrue (option_eq bytes_eq (buffered key (buffer a (part (before ++ entry_did x ∷ [])))) (Some value))) (sym did)
      (subst (λ (o : Option (List ℕ)). IsTrue (option_eq bytes_eq o (Some value))) (sym (has_value a s of)) (bytes_eq-refl value))

  stored : (a : Attempt) → Runs hold a before → IsTrue (may_put a key before) → act ≡ acts.Put a key value → is_caused replies.Stored
  stored a runs room did =
      subst (λ (o : Option Attempt). IsTrue (is_served has_put_it o (service before))) (sym runs.held)
      (found_doing has_put_it is_running a before runs.running (λ s of running. and_from _ _ (and_from _ _ running (sym (room_in a s of) ∙ room)) (kept a s did of)))

  pub caused_so : (reply : Reply) → Puts hold key value before act answer → answer ≡ Some reply → is_caused reply
  caused_so reply (inl (did, told)) is = subst is_caused (one_reply replies.NoMemory reply (sym told ∙ is)) refl
  caused_so reply (inr (inl (did, some, told, ours))) is = refused hold.attempt reply refl ours (sym told ∙ is)
  caused_so reply (inr (inr (inl (a, runs, room, did, told)))) is = subst is_caused (one_reply replies.Stored reply (sym told ∙ is)) (stored a runs room did)
  caused_so reply (inr (inr (inr (a, runs, full, did, told)))) is = subst is_caused (one_reply replies.TooManyKeys reply (sym told ∙ is)) (too_many a runs full)
