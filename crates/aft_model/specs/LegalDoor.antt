-- Which histories the door may have.
use Rattle.std.specs.Prelude.{Bool, IsTrue, List, [], false, if◌then◌else◌, length, nat_le, true, ℕ, ◌&&◌, ◌∷◌}
use Rattle.std.specs.List.{list_all}
use Rattle.aft_keeper.specs.declared.keeper.KeeperAnswer.{KeeperAnswer}
use Rattle.aft_keeper.specs.declared.keeper.KeeperAnswer.TheVariants.{Absent, Done, Failed, Found, Page}
use Rattle.aft_keeper.specs.declared.keeper.KeeperCall.{KeeperCall}
use Rattle.aft_keeper.specs.declared.keeper.KeeperCall.TheVariants.{Delete, Get, Put, Scan}
use Rattle.aft_keeper.specs.declared.keeper.Pair.{Pair}
use Rattle.aft_keeper.specs.Contents.{is_scanned, name_lt}
use Rattle.aft_model.specs.declared.door.DoorAct.{DoorAct}
use Rattle.aft_model.specs.declared.door.DoorAct.TheVariants.{Call, Claim, Fence, GiveUp, Opened, Release, Up}
use Rattle.aft_model.specs.declared.door.DoorEntry.{DoorEntry}
use Rattle.aft_model.specs.DoorKnowledge.{is_open}
use Rattle.aft_model.specs.DoorRules.{may_be_fenced, may_call, may_claim, may_come_up, may_release}
use Rattle.aft_model.specs.History.{each_after}
use Rattle.aft_model.specs.Membership.{incarnation, is_up}
use Rattle.aft_model.specs.Opening.{may_open}

-- whether names ascend strictly
abbrev pub ascends : List Pair → Bool
ascends [] = true
ascends (p ∷ []) = true
ascends (p ∷ q ∷ pairs) = name_lt p.name q.name && ascends (q ∷ pairs)

-- whether pairs are a page that a store may answer: some names of the prefix that are greater than `after`, in order, at most limit of them
abbrev pub is_page : List ℕ → List ℕ → ℕ → List Pair → Bool
is_page prefix after limit pairs = list_all (λ p. is_scanned prefix after p.name) pairs && ascends pairs && nat_le (length pairs) limit

-- whether a store may answer a call so
abbrev pub may_answer : KeeperCall → KeeperAnswer → Bool
may_answer asked Failed = true
may_answer (Get name) Absent = true
may_answer (Get name) (Found bytes) = true
may_answer (Put name bytes) Done = true
may_answer (Delete name) Done = true
may_answer (Scan prefix after limit) (Page pairs) = is_page prefix after limit pairs
may_answer asked answer = false

-- whether an act may come after a history at the open door: each by its rule, and by a caller that is up
abbrev pub may_come : List DoorEntry → DoorAct → Bool
may_come history (Call node inc asked answer) = is_up (incarnation node inc) history && may_call history (incarnation node inc) asked
may_come history Opened = false
may_come history (Up node inc) = may_come_up history (incarnation node inc)
may_come history (Fence node inc) = may_be_fenced history (incarnation node inc)
may_come history (Claim uuid node inc) = is_up (incarnation node inc) history && may_claim history uuid
may_come history (Release uuid node inc) = is_up (incarnation node inc) history && may_release history (incarnation node inc) uuid
may_come history (GiveUp node inc id) = is_up (incarnation node inc) history

-- whether a call in an act was answered as a store may
abbrev pub is_answered : DoorAct → Bool
is_answered (Call node inc asked answer) = may_answer asked answer
is_answered act = true

-- whether an entry may come after a history: before the door is open by the rule of the opening, and then by those of the open door
abbrev pub may_follow : List DoorEntry → DoorEntry → Bool
may_follow history entry = is_answered entry.act && (if is_open history then may_come history entry.act else may_open history entry)

-- whether each entry may come after those before it
abbrev pub is_legal : List DoorEntry → Bool
is_legal history = each_after may_follow [] history

-- a history that the door may have
abbrev pub Legal : List DoorEntry → Type 0
Legal history = IsTrue (is_legal history)
