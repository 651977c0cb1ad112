-- What the store tells goes along with the door's history, call by call.
use Rattle.std.proofs.Common.{◌≡◌, ℕ, List, [], ◌∷◌, ◌++◌, refl, sym, ap, subst, ◌∙◌, append-nil, append_assoc, arith}
use Rattle.std.specs.Prelude.{Contains, IfSome, None, Option, Some}
use Rattle.std.proofs.lemmas.List.Concat.{flat_map-append}
use Rattle.aft_keeper.specs.Calls.{logged}
use Rattle.aft_keeper.specs.Contents.{IsContents}
use Rattle.aft_keeper.specs.declared.keeper.KeeperAnswer.{KeeperAnswer}
use Rattle.aft_keeper.specs.declared.keeper.KeeperCall.{KeeperCall}
use Rattle.aft_keeper.specs.declared.keeper.KeeperEntry.{KeeperEntry}
use Rattle.aft_keeper.specs.declared.keeper.Pair.{Pair}
use Rattle.aft_model.specs.declared.caller.Caller.{Caller}
use Rattle.aft_model.specs.declared.door.DoorEntry.{DoorEntry}
use Rattle.aft_model.specs.Honest.{Honest}
use Rattle.aft_model.specs.Contents.{held_after, keeper_entries, keeper_entry_in}
use Rattle.aft_model.proofs.Followed.{joined}
use Rattle.aft_model.proofs.Told.{told_honest}
use Rattle.aft_door.specs.Calls.{Asks, ContentsAlong, ContentsGo, DoorView, GoesOn, logged_along, with_call, with_entry}
use Rattle.aft_door.specs.Entries.{called}

contents_joined : (first now after : Option (List Pair)) (history more : List DoorEntry) → ContentsAlong first history now → ContentsAlong now more after → ContentsAlong first (history ++ more) after
contents_joined None None after history more along on = on
contents_joined None (Some now) after history more along on = absurd (cc)
contents_joined (Some first) None after history more along on = absurd along
contents_joined (Some first) (Some now) None history more along on = absurd on
contents_joined (Some first) (Some now) (Some after) history more along on = joined first now after history more along on

log_joined : (first now : Option (List KeeperEntry)) (history : List DoorEntry) (who : Caller) (asked : KeeperCall) (answer : KeeperAnswer) → now ≡ logged_along first history
    → logged now asked (Some answer) ≡ logged_along first (history ++ called who asked answer ∷ [])
log_joined None now history who asked answer is = ap (λ l. logged l asked (Some answer)) is
log_joined (Some first) now history who asked answer is =
    ap (λ l. logged l asked (Some answer)) is
    ∙ ap (λ l. Some l) (append_assoc first (keeper_entries history) _ ∙ ap (λ l. first ++ l) (sym (flat_map-append (λ (x : DoorEntry). keeper_entry_in x.act) history (called who asked answer ∷ []))))

-- a call that was asked
pub asked_on : (old new : DoorView) (who : Caller) (asked : KeeperCall) (answer : Option KeeperAnswer) → Asks old who asked answer new → GoesOn old → GoesOn new
asked_on old new who asked answer asks on = record {
  contents = subst (λ f. ContentsAlong f new.history new.contents) (sym asks.first_contents) (subst (λ h. ContentsAlong old.first_contents h new.contents) (sym asks.history) (contents answer asks.contents));
  log = asks.log ∙ log answer ∙ ap (λ h. logged_along old.first_log h) (sym asks.history) ∙ ap (λ f. logged_along f new.history) (sym asks.first_log);
}
  where
    contents : (a : Option KeeperAnswer) → ContentsGo old.contents who asked a new.contents → ContentsAlong old.first_contents (with_call old.history who asked a) new.contents
    contents None goes = subst (ContentsAlong old.first_contents old.history) (sym goes) on.contents
    contents (Some answer) goes = contents_joined old.first_contents old.contents new.contents old.history (called who asked answer ∷ []) on.contents goes

    unlogged : (l : Option (List KeeperEntry)) → logged l asked None ≡ l
    unlogged None = refl
    unlogged (Some l) = refl

    log : (a : Option KeeperAnswer) → logged old.log asked a ≡ logged_along old.first_log (with_call old.history who asked a)
    log None = unlogged old.log ∙ on.log
    log (Some answer) = log_joined old.first_log old.log old.history who asked answer on.log

-- an entry that makes no call of the store
pub quiet_on : (old : DoorView) (e : DoorEntry) → keeper_entry_in e.act ≡ [] → ((pairs : List Pair) → held_after e.act pairs ≡ pairs ∷ []) → GoesOn old → GoesOn (with_entry old e)
quiet_on old e none same on = record {
  contents = contents_joined old.first_contents old.contents old.contents old.history (e ∷ []) on.contents (stays old.contents);
  log = on.log ∙ log old.first_log;
}
  where
    stays : (o : Option (List Pair)) → ContentsAlong o (e ∷ []) o
    stays None = refl
    stays (Some pairs) = subst (λ xs. Contains (xs ++ []) pairs) (sym (same pairs)) (0, omega arith, refl)

    log : (first : Option (List KeeperEntry)) → logged_along first old.history ≡ logged_along first (old.history ++ e ∷ [])
    log None = refl
    log (Some l) =
        ap (λ m. Some (l ++ m)) (sym (append-nil (keeper_entries old.history)) ∙ ap (λ m. keeper_entries old.history ++ m) (sym (ap (λ m. m ++ []) none))
        ∙ sym (flat_map-append (λ (x : DoorEntry). keeper_entry_in x.act) old.history (e ∷ [])))

-- at first
pub first_on : (contents : Option (List Pair)) (log : Option (List KeeperEntry)) (faults : ℕ) → GoesOn (record { history = []; contents = contents; log = log; first_contents = contents; first_log = log; faults = faults })
first_on contents log faults = record { contents = stays contents; log = same log }
  where
    stays : (o : Option (List Pair)) → ContentsAlong o [] o
    stays None = refl
    stays (Some pairs) = (0, omega arith, refl)

    same : (l : Option (List KeeperEntry)) → l ≡ logged_along l []
    same None = refl
    same (Some l) = ap (λ m. Some m) (sym (append-nil l))

-- a history that told contents go along with is honest
pub honest_if : (first now : Option (List Pair)) (history : List DoorEntry) → IfSome first IsContents → ContentsAlong first history now → IfSome now (λ pairs. Honest history)
honest_if None None history within along = tt
honest_if None (Some now) history within along = absurd (cc)
honest_if (Some first) None history within along = tt
honest_if (Some first) (Some now) history within along = told_honest first history now within along
