-- What a name may hold goes by effects.
use Rattle.std.proofs.Common.{◌≡◌, ℕ, Bool, true, false, List, [], ◌∷◌, ◌++◌, refl, ap, subst, ◌∙◌}
use Rattle.std.specs.Prelude.{IsTrue, Option, Some, None, if◌then◌else◌}
use Rattle.std.specs.Str.{bytes_eq}
use Rattle.std.proofs.lemmas.Bool.{and_parts}
use Rattle.aft_keeper.specs.declared.keeper.KeeperAnswer.{KeeperAnswer}
use Rattle.aft_keeper.specs.declared.keeper.KeeperAnswer.TheVariants.{Done, Failed}
use Rattle.aft_keeper.specs.declared.keeper.KeeperCall.{KeeperCall}
use Rattle.aft_keeper.specs.declared.keeper.KeeperCall.TheVariants.{Delete, Put}
use Rattle.aft_model.specs.declared.door.DoorAct.{DoorAct}
use Rattle.aft_model.specs.declared.door.DoorAct.TheVariants.{Call}
use Rattle.aft_model.specs.declared.door.DoorEntry.{DoorEntry}
use Rattle.aft_model.specs.Evidence.{shown, shown_by, shown_in}
use Rattle.aft_model.specs.Honest.{Honest, agrees, may_be}
use Rattle.aft_model.specs.MayHold.{MayHold, OneOf, or_else, seen, after_act, after_call, may_hold}
use Rattle.aft_model.proofs.Histories.{each_after_split}
use Rattle.aft_model.proofs.Honesty.{honest_about}
use Rattle.aft_model.proofs.OneCommit.{may_hold-snoc}
use Rattle.law_effects.specs.Effects.{Effect, Leaves, Shows, Writes, Tries, sight_effect, call_effect, effect_of, after_effect}

writes_after : (t : Bool) (outcome : Option (List ℕ)) (before : MayHold) → (if t then OneOf (outcome ∷ []) else before) ≡ after_effect (if t then Writes outcome else Leaves) before
writes_after true outcome before = refl
writes_after false outcome before = refl

tries_after : (t : Bool) (outcome : Option (List ℕ)) (before : MayHold) → (if t then or_else before outcome else before) ≡ after_effect (if t then Tries outcome else Leaves) before
tries_after true outcome before = refl
tries_after false outcome before = refl

shows_after : (sight : Option (Option (List ℕ))) (before : MayHold) → seen sight before ≡ after_effect (sight_effect sight) before
shows_after (Some outcome) before = refl
shows_after None before = refl

module _ (name : List ℕ) (before : MayHold) where
  call_after : (call : KeeperCall) (answer : KeeperAnswer) → after_call name before call answer ≡ after_effect (call_effect name call answer) before
  call_after (Put put bytes) Done = writes_after (bytes_eq name put) (Some bytes) before
  call_after (Put put bytes) Failed = tries_after (bytes_eq name put) (Some bytes) before
  call_after (Delete deleted) Done = writes_after (bytes_eq name deleted) None before
  call_after (Delete deleted) Failed = tries_after (bytes_eq name deleted) None before
  call_after call answer = shows_after (shown_by name call answer) before

  act_after : (act : DoorAct) → after_act name before act ≡ after_effect (effect_of name act) before
  act_after (Call node inc call answer) = call_after call answer
  act_after act = refl

pub follows : (name : List ℕ) (history : List DoorEntry) (entry : DoorEntry) → may_hold name (history ++ entry ∷ []) ≡ after_effect (effect_of name entry.act) (may_hold name history)
follows name history entry = may_hold-snoc name history entry ∙ act_after name (may_hold name history) entry.act

-- ---- what is shown

-- an effect that shows an outcome is that of a sight of it
sight_is : (sight : Option (Option (List ℕ))) (outcome : Option (List ℕ)) → sight_effect sight ≡ Shows outcome → sight ≡ Some outcome
sight_is (Some found) outcome is = (let same : found ≡ outcome = cc in ap (λ o. Some o) same)
sight_is None outcome is = absurd (cc)

no_sight : (t : Bool) (effect : Effect) (outcome : Option (List ℕ)) → ((effect ≡ Shows outcome) → ⊥) → (if t then effect else Leaves) ≡ Shows outcome → ⊥
no_sight true effect outcome other is = other is
no_sight false effect outcome other is = absurd (cc)

writes_none : (written outcome : Option (List ℕ)) → Writes written ≡ Shows outcome → ⊥
writes_none written outcome is = cc

tries_none : (tried outcome : Option (List ℕ)) → Tries tried ≡ Shows outcome → ⊥
tries_none tried outcome is = cc

module _ (name : List ℕ) (outcome : Option (List ℕ)) where
  call_shows : (call : KeeperCall) (answer : KeeperAnswer) → call_effect name call answer ≡ Shows outcome → shown_by name call answer ≡ Some outcome
  call_shows (Put put bytes) Done is = absurd (no_sight (bytes_eq name put) (Writes (Some bytes)) outcome (writes_none (Some bytes) outcome) is)
  call_shows (Put put bytes) Failed is = absurd (no_sight (bytes_eq name put) (Tries (Some bytes)) outcome (tries_none (Some bytes) outcome) is)
  call_shows (Delete deleted) Done is = absurd (no_sight (bytes_eq name deleted) (Writes None) outcome (writes_none None outcome) is)
  call_shows (Delete deleted) Failed is = absurd (no_sight (bytes_eq name deleted) (Tries None) outcome (tries_none None outcome) is)
  call_shows call answer is = sight_is (shown_by name call answer) outcome is

  act_shows : (act : DoorAct) → effect_of name act ≡ Shows outcome → shown_in name act ≡ Some outcome
  act_shows (Call node inc call answer) is = call_shows call answer is
  act_shows act is = absurd (cc)

  pub honest_sight : (history more : List DoorEntry) (entry : DoorEntry) → Honest (history ++ entry ∷ more) → effect_of name entry.act ≡ Shows outcome → IsTrue (may_be (may_hold name history) outcome)
  honest_sight history more entry honest is =
      let each = each_after_split (λ before e. agrees (may_hold name before) (shown name e)) [] history (entry ∷ more) (honest_about name (history ++ entry ∷ more) honest) in
      let here = and_parts (agrees (may_hold name history) (shown name entry)) _ each.1 in
      subst (λ sight. IsTrue (agrees (may_hold name history) sight)) (act_shows entry.act is) here.0
