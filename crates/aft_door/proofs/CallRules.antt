-- When a call of the store may follow.
use Rattle.std.proofs.Common.{◌≡◌, Bool, true, false, ◌||◌, List, refl, sym, subst}
use Rattle.std.specs.Prelude.{IsTrue, if◌then◌else◌}
use Rattle.std.proofs.lemmas.Bool.{and_from}
use Rattle.aft_keeper.specs.declared.keeper.KeeperAnswer.{KeeperAnswer}
use Rattle.aft_keeper.specs.declared.keeper.KeeperCall.{KeeperCall}
use Rattle.aft_model.specs.declared.caller.Caller.{Caller}
use Rattle.aft_model.specs.declared.door.DoorEntry.{DoorEntry}
use Rattle.aft_model.specs.DoorKnowledge.{is_open}
use Rattle.aft_model.specs.DoorRules.{may_call}
use Rattle.aft_model.specs.LegalDoor.{may_answer, may_come, may_follow}
use Rattle.aft_model.specs.Membership.{is_up}
use Rattle.aft_model.specs.Opening.{may_open}
use Rattle.aft_door.specs.Calls.{may_ask}
use Rattle.aft_door.specs.Entries.{called, who_calls}
use Rattle.aft_door.proofs.Opens.{follows}

-- a call that may be asked now
pub asked_follows : (history : List DoorEntry) (who : Caller) (asked : KeeperCall) (answer : KeeperAnswer) → IsTrue (may_ask who asked history) → IsTrue (is_up (who_calls who) history)
    → IsTrue (may_call history (who_calls who) asked) → IsTrue (may_answer asked answer) → IsTrue (may_follow history (called who asked answer))
asked_follows history who asked answer ask up call answered = cases (is_open history) refl ask
  where
    cases : (t : Bool) → is_open history ≡ t → IsTrue (t || may_open history (called who asked answer)) → IsTrue (may_follow history (called who asked answer))
    cases true is next = follows history (called who asked answer) is answered (and_from _ _ up call)
    cases false is next =
        and_from _ _ answered (subst (λ t. IsTrue (if t then may_come history (called who asked answer).act else may_open history (called who asked answer))) (sym is) next)

-- a call at the open door
pub call_follows : (history : List DoorEntry) (who : Caller) (asked : KeeperCall) (answer : KeeperAnswer) → IsTrue (is_open history) → IsTrue (is_up (who_calls who) history)
    → IsTrue (may_call history (who_calls who) asked) → IsTrue (may_answer asked answer) → IsTrue (may_follow history (called who asked answer))
call_follows history who asked answer at_open up call answered = follows history (called who asked answer) at_open answered (and_from _ _ up call)
