-- What an answered act does to one name of the store.
use Rattle.std.specs.Prelude.{List, None, Option, Some, [], if◌then◌else◌, ℕ, ◌∷◌}
use Rattle.std.specs.Str.{bytes_eq}
use Rattle.aft_keeper.specs.declared.keeper.KeeperAnswer.{KeeperAnswer}
use Rattle.aft_keeper.specs.declared.keeper.KeeperAnswer.TheVariants.{Done, Failed}
use Rattle.aft_keeper.specs.declared.keeper.KeeperCall.{KeeperCall}
use Rattle.aft_keeper.specs.declared.keeper.KeeperCall.TheVariants.{Delete, Put}
use Rattle.aft_model.specs.declared.door.DoorAct.{DoorAct}
use Rattle.aft_model.specs.declared.door.DoorAct.TheVariants.{Call}
use Rattle.aft_model.specs.Evidence.{shown_by}
use Rattle.aft_model.specs.MayHold.{MayHold, OneOf, or_else}

-- it leaves the name alone; it shows an outcome of it; it writes one, which was acknowledged; or it tries to write one, and that failed. An outcome is bytes, or absent
pub data Effect : Type 0 where
  Leaves : Effect
  Shows : Option (List ℕ) → Effect
  Writes : Option (List ℕ) → Effect
  Tries : Option (List ℕ) → Effect

-- the effect of what is shown, if something is
abbrev pub sight_effect : Option (Option (List ℕ)) → Effect
sight_effect (Some outcome) = Shows outcome
sight_effect None = Leaves

-- the effect of an answered call on a name
abbrev pub call_effect : List ℕ → KeeperCall → KeeperAnswer → Effect
call_effect name (Put put bytes) Done = if bytes_eq name put then Writes (Some bytes) else Leaves
call_effect name (Put put bytes) Failed = if bytes_eq name put then Tries (Some bytes) else Leaves
call_effect name (Delete deleted) Done = if bytes_eq name deleted then Writes None else Leaves
call_effect name (Delete deleted) Failed = if bytes_eq name deleted then Tries None else Leaves
call_effect name call answer = sight_effect (shown_by name call answer)

-- the same of an act; no other act touches the store
abbrev pub effect_of : List ℕ → DoorAct → Effect
effect_of name (Call node inc call answer) = call_effect name call answer
effect_of name act = Leaves

-- what a name may hold after an effect
abbrev pub after_effect : Effect → MayHold → MayHold
after_effect Leaves before = before
after_effect (Shows outcome) before = OneOf (outcome ∷ [])
after_effect (Writes outcome) before = OneOf (outcome ∷ [])
after_effect (Tries outcome) before = or_else before outcome

-- the bytes that an effect proves to stand under the name: those that it shows, or wrote
abbrev pub proven_by : Effect → Option (List ℕ)
proven_by (Shows outcome) = outcome
proven_by (Writes outcome) = outcome
proven_by effect = None
