-- What a store may hold along a history of the door, where it tells its contents; and which of its calls the history has.
use Rattle.std.specs.Prelude.{Bool, Contains, List, Some, [], if◌then◌else◌, is_none, ◌&&◌, ◌∷◌}
use Rattle.std.specs.Cmp.Lexicographic.{pointwise}
use Rattle.std.specs.List.{flat_map, fold}
use Rattle.std.specs.Option.{option_eq}
use Rattle.std.specs.Str.{bytes_eq}
use Rattle.aft_keeper.specs.declared.keeper.KeeperAnswer.{KeeperAnswer}
use Rattle.aft_keeper.specs.declared.keeper.KeeperAnswer.TheVariants.{Absent, Done, Failed, Found, Page}
use Rattle.aft_keeper.specs.declared.keeper.KeeperCall.{KeeperCall}
use Rattle.aft_keeper.specs.declared.keeper.KeeperCall.TheVariants.{Delete, Get, Put, Scan}
use Rattle.aft_keeper.specs.declared.keeper.KeeperEntry.{KeeperEntry}
use Rattle.aft_keeper.specs.declared.keeper.Pair.{Pair}
use Rattle.aft_keeper.specs.Contents.{bytes_at, page_of, with_pair, without}
use Rattle.aft_model.specs.declared.door.DoorAct.{DoorAct}
use Rattle.aft_model.specs.declared.door.DoorAct.TheVariants.{Call}
use Rattle.aft_model.specs.declared.door.DoorEntry.{DoorEntry}

-- a write that was answered: it has its effect, and one that failed has it or not
abbrev pub written : KeeperAnswer → List Pair → List Pair → List (List Pair)
written Done after before = after ∷ []
written Failed after before = after ∷ before ∷ []
written answer after before = []

-- contents that were read, where what was shown agrees with them
abbrev pub if_shown : Bool → List Pair → List (List Pair)
if_shown agrees contents = if agrees then contents ∷ [] else []

-- whether two pairs are the same
abbrev pub same_pair : Pair → Pair → Bool
same_pair a b = bytes_eq a.name b.name && bytes_eq a.bytes b.bytes

-- what a store that held these contents may hold after a call
abbrev pub held_after_call : KeeperCall → KeeperAnswer → List Pair → List (List Pair)
held_after_call (Put name bytes) answer contents = written answer (with_pair name bytes contents) contents
held_after_call (Delete name) answer contents = written answer (without name contents) contents
held_after_call (Get name) Failed contents = contents ∷ []
held_after_call (Get name) Absent contents = if_shown (is_none (bytes_at name contents)) contents
held_after_call (Get name) (Found bytes) contents = if_shown (option_eq bytes_eq (bytes_at name contents) (Some bytes)) contents
held_after_call (Scan prefix after limit) Failed contents = contents ∷ []
held_after_call (Scan prefix after limit) (Page page) contents = if_shown (pointwise same_pair (page_of prefix after limit contents) page) contents
held_after_call asked answer contents = []

-- the same of an act; no other act touches the store
abbrev pub held_after : DoorAct → List Pair → List (List Pair)
held_after (Call node inc asked answer) contents = held_after_call asked answer contents
held_after act contents = contents ∷ []

-- what a store that held these contents at first may hold after a history
abbrev pub may_be_held : List Pair → List DoorEntry → List (List Pair)
may_be_held contents history = fold (λ before entry. flat_map (held_after entry.act) before) (contents ∷ []) history

-- contents that go along with a history, from what was held at first to what is held after it
abbrev pub GoesAlong : List Pair → List DoorEntry → List Pair → Type 0
GoesAlong contents history after = Contains (may_be_held contents history) after

-- the call of the store that an act is, if it is one
abbrev pub keeper_entry_in : DoorAct → List KeeperEntry
keeper_entry_in (Call node inc asked answer) = record { call = asked; answer = answer } ∷ []
keeper_entry_in act = []

-- the calls of the store that a history has, in order
abbrev pub keeper_entries : List DoorEntry → List KeeperEntry
keeper_entries history = flat_map (λ entry. keeper_entry_in entry.act) history
