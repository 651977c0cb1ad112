-- A store that keeps what it acknowledged: what it shows is always something that the name may hold.
use Rattle.std.specs.Prelude.{Bool, IsTrue, List, None, Option, Some, [], map, true, ℕ, ◌++◌, ◌∷◌}
use Rattle.std.specs.List.{flat_map, list_all, list_any}
use Rattle.std.specs.Option.{option_eq}
use Rattle.std.specs.Str.{bytes_eq}
use Rattle.aft_keeper.specs.declared.keeper.KeeperCall.{KeeperCall}
use Rattle.aft_keeper.specs.declared.keeper.KeeperCall.TheVariants.{Delete, Get, Put, Scan}
use Rattle.aft_model.specs.declared.door.DoorAct.{DoorAct}
use Rattle.aft_model.specs.declared.door.DoorAct.TheVariants.{Call}
use Rattle.aft_model.specs.declared.door.DoorEntry.{DoorEntry}
use Rattle.aft_model.specs.Evidence.{shown, shown_pairs}
use Rattle.aft_model.specs.History.{each_after}
use Rattle.aft_model.specs.MayHold.{MayHold, OneOf, Unknown, may_hold}

-- whether a name may hold this
abbrev pub may_be : MayHold → Option (List ℕ) → Bool
may_be Unknown outcome = true
may_be (OneOf outcomes) outcome = list_any (option_eq bytes_eq outcome) outcomes

-- whether what is shown of a name, if something is, is something that it may hold
abbrev pub agrees : MayHold → Option (Option (List ℕ)) → Bool
agrees may None = true
agrees may (Some outcome) = may_be may outcome

-- whether each entry that shows this name shows something that it may hold before the entry
abbrev pub is_honest_about : List ℕ → List DoorEntry → Bool
is_honest_about name history = each_after (λ before entry. agrees (may_hold name before) (shown name entry)) [] history

-- the name that a call speaks of alone
abbrev pub called_name : KeeperCall → List (List ℕ)
called_name (Get name) = name ∷ []
called_name (Put name bytes) = name ∷ []
called_name (Delete name) = name ∷ []
called_name (Scan prefix after limit) = []

-- the name that an act calls, if it does
abbrev pub name_in : DoorAct → List (List ℕ)
name_in (Call node inc call answer) = called_name call
name_in act = []

-- the names that an entry calls or lists
abbrev pub names_of : DoorEntry → List (List ℕ)
names_of entry = name_in entry.act ++ map (λ p. p.name) (shown_pairs entry)

-- the names that a history calls or lists
abbrev pub names : List DoorEntry → List (List ℕ)
names history = flat_map (λ entry. names_of entry) history

-- whether each name that the history calls or lists was shown as it may be; any other can only be shown absent, again and again
abbrev pub is_honest : List DoorEntry → Bool
is_honest history = list_all (λ name. is_honest_about name history) (names history)

-- a history in which the store showed only what it may hold
abbrev pub Honest : List DoorEntry → Type 0
Honest history = IsTrue (is_honest history)
