-- A get that has picked a version to fetch is at that fetch, and did that last at its node.
use Rattle.std.proofs.Common.{◌≡◌, ℕ, ◌&&◌, List, [], ◌∷◌, refl, ap, ◌∙◌, ◌⊎◌, inl, inr}
use Rattle.std.specs.Prelude.{IsTrue, None, Some}
use Rattle.std.specs.Str.{bytes_eq}
use Rattle.std.proofs.lemmas.Bool.{and_from}
use Rattle.aft_id.specs.declared.txn_id.TxnId.{TxnId}
use Rattle.aft_id.specs.TxnId.{same_id}
use Rattle.aft_keeper.specs.declared.keeper.KeeperAnswer.{KeeperAnswer}
use Rattle.aft_model.specs.declared.caller.Attempt.{Attempt}
use Rattle.aft_model.specs.declared.caller.By.{By}
use Rattle.aft_model.specs.declared.caller.Hold.{Hold}
use Rattle.aft_model.specs.declared.choice.Picked.TheVariants as picked
use Rattle.aft_model.specs.declared.door.DoorEntry.{DoorEntry}
use Rattle.aft_model.specs.declared.node.NodeAct.{NodeAct}
use Rattle.aft_model.specs.declared.node.NodeAct.TheVariants as acts
use Rattle.aft_model.specs.declared.script.Command.TheVariants as commands
use Rattle.aft_model.specs.Attempts.{same_attempt}
use Rattle.aft_model.specs.Membership.{incarnation, same_incarnation}
use Rattle.aft_model.specs.Readings.{version_name}
use Rattle.aft_model.proofs.Ids.{same_id-refl}
use Rattle.aft_model.proofs.OneCommit.{same_itself as caller_itself}
use Rattle.aft_model.proofs.Sights.{bytes_eq-refl}
use Rattle.aft_lines.specs.Advance.{fetched_by, leads_to}
use Rattle.aft_lines.specs.CourseWords.{Ends, caller_of}
use Rattle.aft_lines.specs.Progress.{HasFetched}
use Rattle.aft_lines.specs.Turns.{AtDoor, Turn}
use Rattle.law_attempts.proofs.Standing.{same_itself}
use Rattle.aft_node.specs.declared.goes.Got.{Got}
use Rattle.aft_node.specs.Closing.{act_passes, opens_fetch}
use Rattle.aft_read.specs.Fetched.{fetch_act}
use Rattle.aft_read.specs.Made.{Fetched, HasPicked, turn_at}
use Rattle.law_held.specs.Fetching.{Fetch}
use Rattle.law_held.specs.Standing.{fetch_in}
use Rattle.law_driver.specs.Driven.{last_act}

-- the turns behind a pick: none, or one that asked the store
abbrev pub AsksThen : Attempt → List ℕ → TxnId → List Turn → Type 0
AsksThen a key id more = (more ≡ []) ⊎ ((place : ℕ) × (answer : KeeperAnswer) × (more ≡ AtDoor place (fetch_act a key id answer) ∷ []))

pub asks_then : (a : Attempt) (key : List ℕ) (id : TxnId) (got : Got) (place : ℕ) (look : List DoorEntry) (more : List Turn) → Fetched a key id got place look more → AsksThen a key id more
asks_then a key id got place look more (inl (none, refused)) = inl none
asks_then a key id got place look more (inr (answer, words, one, came)) = inr (place, answer, one)

module _ (capacity : ℕ) (by : By) (hold : Hold) (key : List ℕ) (a : Attempt) (id : TxnId) (first : Turn) (more : List Turn) (its : HasPicked capacity by hold key a id first) where
  -- the fetch
  abbrev pub its_fetch : Fetch
  its_fetch = record { attempt = a; key = key; id = id }

  -- what was picked
  abbrev pub pick_act : NodeAct
  pick_act = acts.Select a key (picked.Fetch id)

  abbrev pick : Turn
  pick = turn_at by hold its.before its.front pick_act None

  -- the turns
  turns_so : (rest : List Turn) → more ≡ rest → first ∷ more ≡ pick ∷ rest
  turns_so rest is = ap (λ (t : Turn). t ∷ more) its.turn ∙ ap (λ (ts : List Turn). pick ∷ ts) is

  asked_for : (ends : Ends) (place : ℕ) (answer : KeeperAnswer) → fetched_by ends a key id (AtDoor place (fetch_act a key id answer)) ≡ Some (HasFetched a key id place)
  asked_for ends place answer = rw (and_from (same_incarnation (caller_of a) (incarnation a.node a.inc)) (bytes_eq (version_name key id) (version_name key id)) (caller_itself (caller_of a)) (bytes_eq-refl (version_name key id))) refl

  pub is_at_fetch : (nodes : List ℕ) (ends : Ends) → AsksThen a key id more → fetch_in (leads_to (commands.Get key) nodes ends (first ∷ more)) ≡ Some its_fetch
  is_at_fetch nodes ends (inl none) = ap (λ (ts : List Turn). fetch_in (leads_to (commands.Get key) nodes ends ts)) (turns_so [] none)
  is_at_fetch nodes ends (inr (place, answer, one)) =
      ap (λ (ts : List Turn). fetch_in (leads_to (commands.Get key) nodes ends ts)) (turns_so (AtDoor place (fetch_act a key id answer) ∷ []) one) ∙ ap fetch_in (asked_for ends place answer)

  pub last_picked : AsksThen a key id more → last_act (first ∷ more) ≡ Some pick_act
  last_picked (inl none) = ap last_act (turns_so [] none)
  last_picked (inr (place, answer, one)) = ap last_act (turns_so (AtDoor place (fetch_act a key id answer) ∷ []) one)

  pub pick_opens : IsTrue (act_passes (opens_fetch a key id) (Some pick_act))
  pick_opens = and_from (same_attempt a a && bytes_eq key key) (same_id id id) (and_from (same_attempt a a) (bytes_eq key key) (same_itself a) (bytes_eq-refl key)) (same_id-refl id)
