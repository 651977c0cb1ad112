-- What a fetch does at the door, by what the door tells.
use Rattle.std.proofs.Common.{◌≡◌, ℕ, Bool, true, false, true≢false, ◌||◌, ◌⊎◌, append-nil, length, List, [], ◌∷◌, ◌++◌, refl, sym, ap, subst, ◌∙◌, inl, inr}
use Rattle.std.specs.Prelude.{Err, IsTrue, None, Ok, Option, Result, Some, if◌then◌else◌}
use Rattle.std.proofs.lemmas.Bool.{and_parts}
use Rattle.aft_id.specs.declared.txn_id.TxnId.{TxnId}
use Rattle.aft_keeper.specs.declared.keeper.KeeperAnswer.{KeeperAnswer}
use Rattle.aft_keeper.specs.declared.keeper.KeeperAnswer.TheVariants as answers
use Rattle.aft_keeper.specs.declared.keeper.KeeperCall.TheVariants.{Get}
use Rattle.aft_records.specs.Limits.{IsKey}
use Rattle.aft_records.specs.Reading.{version_of}
use Rattle.aft_records.specs.Stored.{IsWritableId}
use Rattle.aft_model.specs.declared.caller.Attempt.{Attempt}
use Rattle.aft_model.specs.declared.caller.By.{By}
use Rattle.aft_model.specs.declared.caller.Caller.{Caller}
use Rattle.aft_model.specs.declared.caller.Hold.{Hold}
use Rattle.aft_model.specs.declared.door.DoorEntry.{DoorEntry}
use Rattle.aft_model.specs.declared.reply.Reply.TheVariants as replies
use Rattle.aft_model.specs.Bytes.{HasBytes, answers_bytes, acts_bytes}
use Rattle.aft_model.specs.Membership.{incarnation, is_up}
use Rattle.aft_model.specs.Readings.{version_name}
use Rattle.aft_model.specs.NodeSights.{is_fenced}
use Rattle.aft_lines.specs.Turns.{AtDoor, Turn}
use Rattle.aft_door.specs.declared.fault.DoorFault.{DoorFault}
use Rattle.aft_door.specs.declared.fault.DoorFault.TheVariants as faults
use Rattle.aft_door.specs.Calls.{Asks, DoorView, Shows, told_found}
use Rattle.aft_door.specs.Entries.{called}
use Rattle.aft_door.specs.Refusals.{RefusedOrFailed, if_fenced}
use Rattle.aft_node.specs.declared.goes.Got.{Got}
use Rattle.aft_node.specs.declared.goes.Got.TheVariants.{Refused}
use Rattle.aft_turns.specs.Refusals.{refusal_of}
use Rattle.aft_turns.specs.Steps.{SameStore, StepsAtDoor}
use Rattle.aft_turns.specs.Trail.{Trail}
use Rattle.aft_read.specs.Fetched.{Answers, Asked, Fetches, Tells, Unasked, fetch_act, no_memory, read_as}
use Rattle.aft_read.specs.Made.{Fetched, IsRefused, made_at}
use Rattle.aft_read.specs.declared.stage.Stage.{Stage}
use Rattle.aft_read.specs.declared.stage.Stage.TheVariants.{Comes, Fetches as Fetching}

-- a refusal of a get
abbrev refused_by : DoorFault → Result (Option (List ℕ)) DoorFault
refused_by fault = Err fault

module _ (by : By) (a : Attempt) (key : List ℕ) (id : TxnId) (is : IsKey key) (fits : IsWritableId id) (name : List ℕ) (named : name ≡ version_name key id) (old new : DoorView) (made : HasBytes new.history) where
  -- who asks
  abbrev who : Caller
  who = record { node = a.node; inc = a.inc; by = by }

  -- an answer in a history that is made of bytes is so too
  answer_bytes : (answer : KeeperAnswer) → new.history ≡ old.history ++ called who (Get name) answer ∷ [] → IsTrue (answers_bytes answer)
  answer_bytes answer grown = last_bytes (last_of old.history (called who (Get name) answer) (subst HasBytes grown made))
    where
      last_bytes : IsTrue (acts_bytes (called who (Get name) answer).act) → IsTrue (answers_bytes answer)
      last_bytes bytes = (and_parts _ (answers_bytes answer) bytes).1

      last_of : (history : List DoorEntry) (entry : DoorEntry) → HasBytes (history ++ entry ∷ []) → IsTrue (acts_bytes entry.act)
      last_of [] entry bytes = (and_parts (acts_bytes entry.act) true bytes).0
      last_of (e ∷ history) entry bytes = last_of history entry (and_parts (acts_bytes e.act) _ bytes).1

  asked_so : (answer : KeeperAnswer) (got : Got) → Asks old who (Get name) (Some answer) new → Answers key id answer got ⊎ (got ≡ no_memory) → Asked by a key id old.history new.history got
  asked_so answer got asks came = (answer, (is, fits, answer_bytes answer asks.history), asks.history ∙ ap (λ (n : List ℕ). old.history ++ called who (Get n) answer ∷ []) named, came)

  -- a get is refused by a fence alone, and else fails or lacks memory
  other : (fault : DoorFault) → (RefusedOrFailed {T = Option (List ℕ)} None (Err fault) → ⊥) → (refused_by fault ≡ refused_by (faults.Fenced a.node a.inc) → ⊥) → RefusedOrFailed {T = Option (List ℕ)} (if_fenced who old.history) (Err fault) → ⊥
  other fault no_reason no_fence why = by_up (is_up (incarnation a.node a.inc) old.history) refl
    where
      by_up : (up : Bool) → is_up (incarnation a.node a.inc) old.history ≡ up → ⊥
      by_up true up = no_reason (subst (λ (t : Bool). RefusedOrFailed {T = Option (List ℕ)} (if t then None else Some (faults.Fenced a.node a.inc)) (Err fault)) up why)
      by_up false down = no_fence (subst (λ (t : Bool). RefusedOrFailed {T = Option (List ℕ)} (if t then None else Some (faults.Fenced a.node a.inc)) (Err fault)) down why)

  absent : Shows told_found old who (Get name) (Ok None) new → Fetches by a key id old.history new.history (Refused (replies.Missing id))
  absent shows = inl (asked_so answers.Absent (Refused (replies.Missing id)) shows (inl refl))

  found : (bytes : List ℕ) (got : Got) → Shows told_found old who (Get name) (Ok (Some bytes)) new → (got ≡ read_as key id (version_of bytes)) ⊎ (got ≡ no_memory) → Fetches by a key id old.history new.history got
  found bytes got shows came = inl (asked_so (answers.Found bytes) got shows came)

  refused : (fault : DoorFault) → RefusedOrFailed {T = Option (List ℕ)} (if_fenced who old.history) (Err fault) → Shows told_found old who (Get name) (Err fault) new → Fetches by a key id old.history new.history (Refused (refusal_of a fault))
  refused faults.Failed why shows = inl (asked_so answers.Failed (Refused replies.StoreFault) shows (inl refl))
  refused faults.Memory why (None, untold, asks) = inr (asks.history, inr refl)
  refused faults.Memory why (Some answer, untold, asks) = inl (asked_so answer no_memory asks (inr refl))
  refused (faults.Fenced node inc) why shows = inr (shows.history, inl (refl, by_up (is_up (incarnation a.node a.inc) old.history) refl))
    where
      by_up : (up : Bool) → is_up (incarnation a.node a.inc) old.history ≡ up → is_up (incarnation a.node a.inc) old.history ≡ false
      by_up false down = down
      by_up true up = absurd (subst (λ (t : Bool). RefusedOrFailed {T = Option (List ℕ)} (if t then None else Some (faults.Fenced a.node a.inc)) (Err (faults.Fenced node inc))) up why)
  refused (faults.Busy node inc) why shows = absurd (other (faults.Busy node inc) (λ x. x) (λ e. cc) why)
  refused faults.Forgotten why shows = absurd (other faults.Forgotten (λ x. x) (λ e. cc) why)
  refused faults.NotHolder why shows = absurd (other faults.NotHolder (λ x. x) (λ e. cc) why)
  refused (faults.Holdout node inc) why shows = absurd (other (faults.Holdout node inc) (λ x. x) (λ e. cc) why)

  -- what was told
  pub fetches : (told : Result (Option (List ℕ)) DoorFault) (got : Got) → RefusedOrFailed {T = Option (List ℕ)} (if_fenced who old.history) told → Shows told_found old who (Get name) told new → Tells a key id told got → Fetches by a key id old.history new.history got
  fetches (Ok None) got why shows tells = subst (λ (g : Got). Fetches by a key id old.history new.history g) (sym tells) (absent shows)
  fetches (Ok (Some bytes)) got why shows tells = found bytes got shows tells
  fetches (Err fault) got why shows tells = subst (λ (g : Got). Fetches by a key id old.history new.history g) (sym tells) (refused fault why shows)

  -- what the store told at first stays
  pub same_store : (told : Result (Option (List ℕ)) DoorFault) → Shows told_found old who (Get name) told new → SameStore old new
  same_store (Ok it) shows = record { contents = shows.first_contents; log = shows.first_log }
  same_store (Err faults.Memory) (answer, untold, asks) = record { contents = asks.first_contents; log = asks.first_log }
  same_store (Err faults.Failed) shows = record { contents = shows.first_contents; log = shows.first_log }
  same_store (Err (faults.Fenced node inc)) shows = record { contents = shows.first_contents; log = shows.first_log }
  same_store (Err (faults.Busy node inc)) shows = record { contents = shows.first_contents; log = shows.first_log }
  same_store (Err faults.Forgotten) shows = record { contents = shows.first_contents; log = shows.first_log }
  same_store (Err faults.NotHolder) shows = record { contents = shows.first_contents; log = shows.first_log }
  same_store (Err (faults.Holdout node inc)) shows = record { contents = shows.first_contents; log = shows.first_log }

-- ---- where it leads

module _ (by : By) (a : Attempt) (key : List ℕ) (id : TxnId) (old new : List DoorEntry) (got : Got) (capacity : ℕ) (hold : Hold) (asked : List ℕ) where
  refused_so : IsTrue (is_up (incarnation a.node a.inc) old || is_fenced (incarnation a.node a.inc) old) → Unasked a old got → IsRefused a old got
  refused_so up (inl (is, down)) = inl (is, fenced (is_up (incarnation a.node a.inc) old) (is_fenced (incarnation a.node a.inc) old) up down)
    where
      fenced : (up shut : Bool) → IsTrue (up || shut) → up ≡ false → IsTrue shut
      fenced true shut is down = absurd (true≢false down)
      fenced false shut is down = is
  refused_so up (inr is) = inr is

  -- a fetch has come back, with these turns at the door
  back : (look : List DoorEntry) (more : List Turn) → ((k : List ℕ) → key ≡ k → Fetched a k id got (length old) look more) → (trail : Trail) → made_at capacity by hold asked (Fetching a key id) trail → made_at capacity by hold asked (Comes a key id got (length old)) (record { turns = trail.turns ++ more; look = look })
  back look more fetched trail (same, begun) = (
    same,
    record {
      first = begun.first;
      more = more;
      picked = begun.picked;
      turns = ap (λ (ts : List Turn). ts ++ more) begun.turns;
      fetched = fetched asked same;
    },
  )

  steps : IsTrue (is_up (incarnation a.node a.inc) old || is_fenced (incarnation a.node a.inc) old) → Fetches by a key id old new got → StepsAtDoor by (made_at capacity by hold asked (Fetching a key id)) (made_at capacity by hold asked (Comes a key id got (length old))) old new
  steps up (inl (answer, words, grown, came)) =
      inl (fetch_act a key id answer, grown, λ trail made. back trail.look (AtDoor (length old) (fetch_act a key id answer) ∷ []) (λ k same. subst (λ (n : List ℕ). Fetched a n id got (length old) trail.look (AtDoor (length old) (fetch_act a key id answer) ∷ [])) same (inr (answer, words, refl, came))) trail made)
  steps up (inr (same, unasked)) =
      inr (same, λ trail made. subst (λ (ts : List Turn). made_at capacity by hold asked (Comes a key id got (length old)) (record { turns = ts; look = old })) (append-nil trail.turns) (back old [] (λ k e. inl (refl, refused_so up unasked)) trail made))

  -- the same of a stage that it has come to
  pub steps_to : (place : ℕ) (stage : Stage) → place ≡ length old → stage ≡ Comes a key id got place → IsTrue (is_up (incarnation a.node a.inc) old || is_fenced (incarnation a.node a.inc) old) → Fetches by a key id old new got → StepsAtDoor by (made_at capacity by hold asked (Fetching a key id)) (made_at capacity by hold asked stage) old new
  steps_to place stage at is up fetches =
      subst (λ (s : Stage). StepsAtDoor by (made_at capacity by hold asked (Fetching a key id)) (made_at capacity by hold asked s) old new) (sym (is ∙ ap (λ (n : ℕ). Comes a key id got n) at)) (steps up fetches)
