-- What comes of one commit of an upgrade, by what the door answered.
use Rattle.std.proofs.Common.{◌≡◌, ℕ, zero, suc, ◌+◌, ◌<◌, Bool, true, false, not, ◌&&◌, ◌||◌, List, [], ◌∷◌, ◌++◌, length, get_or, drop, drop-cons, arith, refl, sym, ap, subst, ◌∙◌}
use Rattle.std.specs.Prelude.{Err, IsFalse, IsTrue, None, Ok, Option, Some}
use Rattle.std.specs.List.{list_any}
use Rattle.std.proofs.lemmas.Bool.{or_right}
use Rattle.aft_keeper.specs.declared.keeper.KeeperAnswer.{KeeperAnswer}
use Rattle.aft_keeper.specs.declared.keeper.KeeperAnswer.TheVariants.{Absent, Done, Failed, Found, Page}
use Rattle.aft_keeper.specs.declared.keeper.KeeperCall.{KeeperCall}
use Rattle.aft_keeper.specs.declared.keeper.KeeperCall.TheVariants.{Get, Put}
use Rattle.aft_records.specs.declared.stored.Commit.{Commit}
use Rattle.aft_records.specs.Commits.{same_commit}
use Rattle.aft_records.specs.Rows.{record_row}
use Rattle.aft_records.specs.Stored.{IsCommit}
use Rattle.aft_model.specs.declared.caller.Caller.{Caller}
use Rattle.aft_model.specs.declared.door.DoorAct.{DoorAct}
use Rattle.aft_model.specs.declared.door.DoorAct.TheVariants.{Call}
use Rattle.aft_model.specs.declared.door.DoorEntry.{DoorEntry}
use Rattle.aft_model.specs.DoorKnowledge.{is_delete, is_untouched, is_up_act, opens}
use Rattle.aft_model.specs.Opening.{has_failed}
use Rattle.aft_model.specs.Readings.{record_name}
use Rattle.aft_door.specs.declared.fault.DoorFault.{DoorFault}
use Rattle.aft_door.specs.declared.fault.DoorFault.TheVariants as door_faults
use Rattle.aft_door.specs.Calls.{Asks, DoorView, Shows, may_be_untold, told_done, told_found, upgraded, with_call}
use Rattle.aft_door.specs.Entries.{called}
use Rattle.aft_door.proofs.Snocs.{any_act}
use Rattle.aft_audit.specs.Audit.{fault_of, opener}
use Rattle.aft_audit.specs.Upgrading.{HasPassed, HasStopped, format_found}
use Rattle.aft_audit.specs.Versions.{found_answer, with_get}
use Rattle.aft_audit.specs.declared.fault.AuditFault.{AuditFault}
use Rattle.aft_audit.specs.declared.fault.AuditFault.TheVariants.{Memory}
use Rattle.aft_audit.proofs.UpgradeEnds.{get_failed, get_untold, got_only, put_failed, unasked}
use Rattle.aft_audit.proofs.Upgrades.{passed_on, stopped_on}

-- nobody comes up by a call of the store, and nothing is deleted by one that is no delete
call_untouched : (old : List DoorEntry) (who : Caller) (asked : KeeperCall) (answer : Option KeeperAnswer) → ((told : KeeperAnswer) → IsFalse (is_delete (Call who.node who.inc asked told)))
    → IsTrue (is_untouched old) → IsTrue (is_untouched (with_call old who asked answer))
call_untouched old who asked None keeps is = is
call_untouched old who asked (Some answer) keeps is =
    ap (λ (a : Bool). a && not (list_any (λ (x : DoorEntry). is_up_act x.act || is_delete x.act) (old ++ called who asked answer ∷ []))) (any_act opens old (called who asked answer))
    ∙ (ap (λ (b : Bool). (list_any (λ (x : DoorEntry). opens x.act) old || false) && not b) (any_act (λ (act : DoorAct). is_up_act act || is_delete act) old (called who asked answer))
    ∙ still _ _ _ (keeps answer) is)
  where
    still : (a b t : Bool) → IsFalse t → IsTrue (a && not b) → IsTrue ((a || false) && not (b || t))
    still true false t unset is' = ap not unset
    still true true t unset is' = absurd (cc)
    still false b t unset is' = absurd (cc)

-- so a get and a put leave the door as upgrades want it
pub still_untouched : (found : Option (List ℕ)) (who : Caller) (name bytes : List ℕ) (answer : Option KeeperAnswer) (old now new : List DoorEntry) → now ≡ with_get old name found → new ≡ with_call now who (Put name bytes) answer → IsTrue (is_untouched old) → IsTrue (is_untouched new)
still_untouched found who name bytes answer old now new got put is =
    subst (λ (h : List DoorEntry). IsTrue (is_untouched h)) (sym put)
    (call_untouched now who (Put name bytes) answer (λ _. refl) (subst (λ (h : List DoorEntry). IsTrue (is_untouched h)) (sym got) (call_untouched old opener (Get name) (Some (found_answer found)) (λ _. refl) is)))

-- what a get showed
pub got : (found : Option (List ℕ)) (name : List ℕ) (old new : DoorView) → Shows told_found old opener (Get name) (Ok found) new → new.history ≡ with_get old.history name found
got None name old new shows = shows.history
got (Some bytes) name old new shows = shows.history

module _ (c : Commit) (others : List Commit) where
  abbrev Name : List ℕ
  Name = record_name c.id.uuid

  -- a call that wasn't made leaves all
  not_asked : (old new : List DoorEntry) → new ≡ old → HasStopped Memory (c ∷ others) old new
  not_asked old new is = subst (λ (h : List DoorEntry). HasStopped Memory (c ∷ others) old h) (sym is) (unasked c others old)

  untold : (answer : Option KeeperAnswer) (old new : DoorView) → IsTrue (may_be_untold answer) → Asks old opener (Get Name) answer new → HasStopped Memory (c ∷ others) old.history new.history
  untold None old new may asks = not_asked old.history new.history asks.history
  untold (Some answer) old new may asks = get_untold c others old.history answer new.history (fine answer may) asks.history
    where
      fine : (answer : KeeperAnswer) → IsTrue (may_be_untold (Some answer)) → IsFalse (has_failed (called opener (Get Name) answer ∷ []))
      fine (Found bytes) may' = refl
      fine (Page pairs) may' = refl
      fine Absent may' = refl
      fine Done may' = refl
      fine Failed may' = absurd (cc)

  refused : (fault : DoorFault) (old new : DoorView) → Shows told_found old opener (Get Name) (Err fault) new → HasStopped (fault_of fault) (c ∷ others) old.history new.history
  refused door_faults.Memory old new shows = untold shows.0 old new shows.1 shows.2
  refused door_faults.Failed old new shows = get_failed c others old.history new.history shows.history
  refused fault old new shows = not_asked old.history new.history shows.history

  -- the get was refused, or its answer isn't told
  pub get_refused : (fault : DoorFault) (old new : DoorView) (who : Caller) → who ≡ opener → Shows told_found old who (Get Name) (Err fault) new → HasStopped (fault_of fault) (c ∷ others) old.history new.history
  get_refused fault old new who office shows = refused fault old new (subst (λ (w : Caller). Shows told_found old w (Get Name) (Err fault) new) office shows)

  -- the put was refused
  pub put_refused : (fault : DoorFault) (found : Option (List ℕ)) (old : List DoorEntry) (now new : DoorView) → now.history ≡ with_get old Name found → IsCommit c → format_found c found ≡ Some true
      → Asks now opener (Put Name (record_row (upgraded c))) (told_done {T = Unit} (Err fault)) new → HasStopped (fault_of fault) (c ∷ others) old new.history
  put_refused door_faults.Failed found old now new is limits format asks = put_failed c others old found now.history is limits format new.history asks.history
  put_refused fault found old now new is limits format asks = got_only c others old found new.history (asks.history ∙ is)

-- what passes a test behind some first elements passes it in all
any_drop : {A : Type 0} (test : A → Bool) (k : ℕ) (xs : List A) → IsTrue (list_any test (drop k xs)) → IsTrue (list_any test xs)
any_drop test zero xs is = is
any_drop test (suc k) [] is = is
any_drop test (suc k) (x ∷ xs) is = or_right _ _ (any_drop test k xs is)

-- the next of the commits of an upgrade
module _ (commits : List Commit) (i : ℕ) (d item : Commit) (inside : i < length commits) (is : item ≡ get_or commits i d) where
  begins_with : item ∷ drop (i + 1) commits ≡ drop i commits
  begins_with = ap (λ (c : Commit). c ∷ drop (i + 1) commits) is ∙ (ap (λ (k : ℕ). get_or commits i d ∷ drop k commits) (let e : i + 1 ≡ suc i = omega arith in e) ∙ sym (drop-cons commits i d inside))

  pub next_passed : (n m : ℕ) (old now new : List DoorEntry) → HasPassed commits (drop i commits) n old now → ((others : List Commit) → HasPassed (item ∷ others) others m now new) → HasPassed commits (drop (i + 1) commits) (n + m) old new
  next_passed n m old now new first more =
      passed_on commits (drop i commits) (drop (i + 1) commits) n m old now new first (subst (λ (cs : List Commit). HasPassed cs (drop (i + 1) commits) m now new) begins_with (more (drop (i + 1) commits)))

  pub next_stopped : (n : ℕ) (fault : AuditFault) (old now new : List DoorEntry) → HasPassed commits (drop i commits) n old now → ((others : List Commit) → HasStopped fault (item ∷ others) now new) → HasStopped fault commits old new
  next_stopped n fault old now new first more =
      stopped_on commits (drop i commits) n fault old now new (λ c is'. any_drop (same_commit c) i commits is') first (subst (λ (cs : List Commit). HasStopped fault cs now new) begins_with (more (drop (i + 1) commits)))
