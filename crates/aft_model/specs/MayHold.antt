-- What a name in the store may hold after a history, by the history alone.
use Rattle.std.specs.Prelude.{List, None, Option, Some, [], if◌then◌else◌, ℕ, ◌++◌, ◌∷◌}
use Rattle.std.specs.List.{fold}
use Rattle.std.specs.Str.{bytes_eq}
use Rattle.aft_keeper.specs.declared.keeper.KeeperAnswer.{KeeperAnswer}
use Rattle.aft_keeper.specs.declared.keeper.KeeperAnswer.TheVariants.{Done, Failed}
use Rattle.aft_keeper.specs.declared.keeper.KeeperCall.{KeeperCall}
use Rattle.aft_keeper.specs.declared.keeper.KeeperCall.TheVariants.{Delete, Put}
use Rattle.aft_model.specs.declared.door.DoorAct.{DoorAct}
use Rattle.aft_model.specs.declared.door.DoorAct.TheVariants.{Call}
use Rattle.aft_model.specs.declared.door.DoorEntry.{DoorEntry}
use Rattle.aft_model.specs.Evidence.{shown_by}

-- what a name may hold: nothing is known of it, or it is one of these, bytes or absent
pub data MayHold : Type 0 where
  Unknown : MayHold
  OneOf : List (Option (List ℕ)) → MayHold

-- after a write that failed: its outcome is possible too, where what was possible is known
abbrev pub or_else : MayHold → Option (List ℕ) → MayHold
or_else Unknown outcome = Unknown
or_else (OneOf outcomes) outcome = OneOf (outcomes ++ outcome ∷ [])

-- after something was shown, if it was: it is that alone
abbrev pub seen : Option (Option (List ℕ)) → MayHold → MayHold
seen (Some outcome) before = OneOf (outcome ∷ [])
seen None before = before

-- after an answered call: an acknowledged write or a sight leaves one outcome, and a failed write adds its own
abbrev pub after_call : List ℕ → MayHold → KeeperCall → KeeperAnswer → MayHold
after_call name before (Put put bytes) Done = if bytes_eq name put then OneOf (Some bytes ∷ []) else before
after_call name before (Put put bytes) Failed = if bytes_eq name put then or_else before (Some bytes) else before
after_call name before (Delete deleted) Done = if bytes_eq name deleted then OneOf (None ∷ []) else before
after_call name before (Delete deleted) Failed = if bytes_eq name deleted then or_else before None else before
after_call name before call answer = seen (shown_by name call answer) before

-- the same of an act; no other act touches the store
abbrev pub after_act : List ℕ → MayHold → DoorAct → MayHold
after_act name before (Call node inc call answer) = after_call name before call answer
after_act name before act = before

-- what a name may hold after a history
abbrev pub may_hold : List ℕ → List DoorEntry → MayHold
may_hold name history = fold (λ before entry. after_act name before entry.act) Unknown history
