-- What a look at the store does at the door, by what the door tells.
use Rattle.std.proofs.Common.{◌≡◌, ℕ, Bool, true, false, ◌||◌, ◌⊎◌, List, [], ◌∷◌, ◌++◌, refl, ap, subst, ◌∙◌, inl, inr}
use Rattle.std.specs.Prelude.{Err, IsTrue, None, Ok, Option, Some, if◌then◌else◌}
use Rattle.std.proofs.lemmas.Bool.{and_parts, false≢true, or_cases}
use Rattle.std.specs.Str.{bytes_eq}
use Rattle.aft_id.specs.TxnId.{IsUuid}
use Rattle.aft_id.specs.declared.txn_id.TxnId.{TxnId}
use Rattle.aft_keeper.specs.declared.keeper.KeeperAnswer.{KeeperAnswer}
use Rattle.aft_keeper.specs.declared.keeper.KeeperAnswer.TheVariants as answers
use Rattle.aft_keeper.specs.declared.keeper.KeeperCall.TheVariants.{Get}
use Rattle.aft_model.specs.declared.caller.Attempt.{Attempt}
use Rattle.aft_model.specs.declared.caller.By.{By}
use Rattle.aft_model.specs.declared.caller.Caller.{Caller}
use Rattle.aft_model.specs.declared.door.DoorEntry.{DoorEntry}
use Rattle.aft_model.specs.declared.reply.Reply.{Reply}
use Rattle.aft_model.specs.declared.reply.Reply.TheVariants as replies
use Rattle.aft_model.specs.Bytes.{HasBytes, acts_bytes, answers_bytes, are_bytes}
use Rattle.aft_model.specs.Membership.{is_up}
use Rattle.aft_model.specs.NodeSights.{is_fenced}
use Rattle.aft_door.specs.declared.fault.DoorFault.{DoorFault}
use Rattle.aft_door.specs.declared.fault.DoorFault.TheVariants as faults
use Rattle.aft_door.specs.Calls.{Asks, DoorView, Shows, told_found}
use Rattle.aft_door.specs.Entries.{called}
use Rattle.aft_door.specs.Refusals.{RefusedOrFailed, if_fenced}
use Rattle.aft_lines.specs.CourseWords.{caller_of}
use Rattle.aft_turns.specs.Refusals.{refusal_of}
use Rattle.aft_begin.specs.declared.looked.Looked.{Looked}
use Rattle.aft_begin.specs.declared.looked.Looked.TheVariants.{Nothing, Shows as Shown, Stops}
use Rattle.aft_begin.specs.declared.sought.Sought.{Sought}
use Rattle.aft_begin.specs.Calls.{LooksSo, with_act}
use Rattle.aft_begin.specs.Seen.{ShownBy, is_short, name_of, read_id, told, told_of}
use Rattle.aft_begin.specs.Way.{IsRefused, look_act}

module _ (by : By) (a : Attempt) (uuid : List ℕ) (sought : Sought) (name : List ℕ) (named : name ≡ name_of sought uuid) (old new : DoorView) where
  -- who asks
  abbrev who : Caller
  who = record { node = a.node; inc = a.inc; by = by }

  grown : (answer : KeeperAnswer) → Asks old who (Get name) (Some answer) new → new.history ≡ with_act by (look_act a uuid sought answer) old.history
  grown answer asks = asks.history ∙ ap (λ (n : List ℕ). old.history ++ called who (Get n) answer ∷ []) named

  -- an answer in a history that is made of bytes is so too
  found_bytes : (bytes : List ℕ) → HasBytes new.history → Asks old who (Get name) (Some (answers.Found bytes)) new → IsTrue (are_bytes bytes)
  found_bytes bytes made asks = (and_parts _ (answers_bytes (answers.Found bytes)) (last_of old.history (called who (Get name) (answers.Found bytes)) (subst HasBytes asks.history made))).1
    where
      last_of : (history : List DoorEntry) (entry : DoorEntry) → HasBytes (history ++ entry ∷ []) → IsTrue (acts_bytes entry.act)
      last_of [] entry bytes = (and_parts (acts_bytes entry.act) true bytes).0
      last_of (e ∷ history) entry bytes = last_of history entry (and_parts (acts_bytes e.act) _ bytes).1

  pub absent : Shows told_found old who (Get name) (Ok None) new → LooksSo by a uuid sought old.history new.history Nothing
  absent shows = grown answers.Absent shows

  pub shown : (bytes : List ℕ) (looked : Looked) → IsUuid uuid → HasBytes new.history → Shows told_found old who (Get name) (Ok (Some bytes)) new → (looked ≡ told sought uuid bytes) ⊎ (looked ≡ Stops replies.NoMemory) → LooksSo by a uuid sought old.history new.history looked
  shown bytes looked is made shows tells = by_looked looked tells
    where
      by_tells : (l : Looked) → (l ≡ told sought uuid bytes) ⊎ (l ≡ Stops replies.NoMemory) → ShownBy sought uuid (answers.Found bytes) l
      by_tells l (inl tells) = inl ((is, found_bytes bytes made shows), tells)
      by_tells l (inr lacks) = inr lacks

      by_looked : (l : Looked) → (l ≡ told sought uuid bytes) ⊎ (l ≡ Stops replies.NoMemory) → LooksSo by a uuid sought old.history new.history l
      by_looked (Shown id short) tells = (answers.Found bytes, grown (answers.Found bytes) shows, by_tells (Shown id short) tells)
      by_looked (Stops reply) tells = inr (answers.Found bytes, grown (answers.Found bytes) shows, by_tells (Stops reply) tells)
      by_looked Nothing tells = absurd (never tells)
        where
          by_read : (read : Option TxnId) → Nothing ≡ told_of (name_of sought uuid) uuid (is_short sought bytes) read → ⊥
          by_read None e = cc
          by_read (Some id) e = by_test (bytes_eq uuid id.uuid) e
            where
              by_test : (same : Bool) → Nothing ≡ (if same then Shown id (is_short sought bytes) else Stops (replies.Damaged (name_of sought uuid))) → ⊥
              by_test true e = cc
              by_test false e = cc

          never : (Nothing ≡ told sought uuid bytes) ⊎ (Nothing ≡ Stops replies.NoMemory) → ⊥
          never (inl e) = by_read (read_id sought bytes) e
          never (inr e) = cc

  -- a look is refused by a fence alone, and else fails or lacks memory
  abbrev Why : DoorFault → Type 0
  Why fault = RefusedOrFailed {T = Option (List ℕ)} (if_fenced who old.history) (Err fault)

  by_up : (fault : DoorFault) → Why fault → (up : Bool) → is_up (caller_of a) old.history ≡ up → RefusedOrFailed {T = Option (List ℕ)} (if up then None else Some (faults.Fenced a.node a.inc)) (Err fault)
  by_up fault why up is = subst (λ (t : Bool). RefusedOrFailed {T = Option (List ℕ)} (if t then None else Some (faults.Fenced a.node a.inc)) (Err fault)) is why

  never : (fault : DoorFault) → Why fault → (RefusedOrFailed {T = Option (List ℕ)} None (Err fault) → ⊥) → (RefusedOrFailed {T = Option (List ℕ)} (Some (faults.Fenced a.node a.inc)) (Err fault) → ⊥) → ⊥
  never fault why if_up if_down = by_cases (is_up (caller_of a) old.history) refl
    where
      by_cases : (up : Bool) → is_up (caller_of a) old.history ≡ up → ⊥
      by_cases true is = if_up (by_up fault why true is)
      by_cases false is = if_down (by_up fault why false is)

  unasked : (reply : Reply) → new.history ≡ old.history → IsRefused a old.history reply → LooksSo by a uuid sought old.history new.history (Stops reply)
  unasked reply same refused = inl (same, refused)

  pub refused : (fault : DoorFault) → IsTrue (is_fenced (caller_of a) old.history || is_up (caller_of a) old.history) → Why fault → Shows told_found old who (Get name) (Err fault) new → LooksSo by a uuid sought old.history new.history (Stops (refusal_of a fault))
  refused faults.Failed may why shows = inr (answers.Failed, grown answers.Failed shows, refl)
  refused faults.Memory may why (None, untold, asks) = unasked replies.NoMemory asks.history (inr refl)
  refused faults.Memory may why (Some (answers.Found bytes), untold, asks) = inr (answers.Found bytes, grown (answers.Found bytes) asks, inr refl)
  refused faults.Memory may why (Some answers.Absent, untold, asks) = absurd (false≢true untold)
  refused faults.Memory may why (Some answers.Failed, untold, asks) = absurd (false≢true untold)
  refused faults.Memory may why (Some answers.Done, untold, asks) = absurd (false≢true untold)
  refused faults.Memory may why (Some (answers.Page pairs), untold, asks) = inr (answers.Page pairs, grown (answers.Page pairs) asks, refl)
  refused (faults.Fenced node inc) may why shows = unasked (replies.NodeDown a.node a.inc) shows.history (inl (refl, by_cases (or_cases (is_fenced (caller_of a) old.history) (is_up (caller_of a) old.history) may)))
    where
      by_cases : IsTrue (is_fenced (caller_of a) old.history) ⊎ IsTrue (is_up (caller_of a) old.history) → IsTrue (is_fenced (caller_of a) old.history)
      by_cases (inl fenced) = fenced
      by_cases (inr up) = absurd (by_up (faults.Fenced node inc) why true up)
  refused (faults.Busy node inc) may why shows = absurd (never (faults.Busy node inc) why (λ x. x) (λ e. cc))
  refused faults.Forgotten may why shows = absurd (never faults.Forgotten why (λ x. x) (λ e. cc))
  refused faults.NotHolder may why shows = absurd (never faults.NotHolder why (λ x. x) (λ e. cc))
  refused (faults.Holdout node inc) may why shows = absurd (never (faults.Holdout node inc) why (λ x. x) (λ e. cc))
