-- Which puts and deletes may be asked, by what they put and delete.
use Rattle.std.proofs.Common.{◌≡◌, ℕ, Bool, true, false, ◌||◌, ◌&&◌, List, [], ◌∷◌, refl, sym, ap, subst, ◌∙◌, inl, inr, arith}
use Rattle.std.specs.Prelude.{IsTrue, None, Ok, Option, Result, Some, ◌==◌, if◌then◌else◌}
use Rattle.std.specs.List.{list_any}
use Rattle.std.specs.Str.{bytes_eq}
use Rattle.std.specs.Option.{option_eq}
use Rattle.std.specs.Prelude.{nat_eq}
use Rattle.std.proofs.lemmas.Bool.{and_from, and_parts, eqb-true, false≢true, or_cases, or_left, or_right}
use Rattle.aft_id.specs.TxnId.{same_id}
use Rattle.aft_keeper.specs.declared.keeper.KeeperAnswer.TheVariants.{Found}
use Rattle.aft_keeper.specs.declared.keeper.Pair.{Pair}
use Rattle.aft_records.specs.declared.stored.Commit.{Commit}
use Rattle.aft_records.specs.Commits.{is_listed}
use Rattle.aft_model.specs.declared.door.DoorAct.{DoorAct}
use Rattle.aft_model.specs.declared.door.DoorAct.TheVariants.{Call}
use Rattle.aft_model.specs.Committed.{shorts_in}
use Rattle.aft_model.specs.DoorKnowledge.{finds, is_short_of, knows_short, knows_short_of}
use Rattle.aft_model.specs.History.{followed}
use Rattle.aft_model.proofs.Growth.{any_implied}
use Rattle.aft_model.proofs.OneCommit.{same_who}
use Rattle.aft_id.specs.declared.txn_id.TxnId.{TxnId}
use Rattle.aft_keeper.specs.declared.keeper.KeeperCall.TheVariants.{Delete, Get, Put}
use Rattle.aft_keeper.specs.declared.keeper.KeeperAnswer.{KeeperAnswer}
use Rattle.aft_door.specs.declared.fault.DoorFault.{DoorFault}
use Rattle.aft_door.specs.declared.fault.DoorFault.TheVariants.{Fenced, NotHolder}
use Rattle.aft_door.specs.Calls.{Asks, DoorView, upgraded}
use Rattle.aft_door.specs.Entries.{who_calls}
use Rattle.aft_door.specs.Refusals.{RefusedOrFailed, as_result, held_out_by, if_fenced, if_held_out, if_not_by_claim, if_not_holder, or_then}
use Rattle.aft_model.specs.declared.caller.Caller.{Caller}
use Rattle.aft_model.specs.Claims.{claim_place, claimant, holdout, holds, if_up, is_held_by}
use Rattle.aft_records.specs.declared.fault.RecordFault.{RecordFault}
use Rattle.aft_records.specs.declared.name.Name.{Name}
use Rattle.aft_records.specs.declared.stored.Marker.{Marker}
use Rattle.aft_records.specs.declared.stored.Record.{Record}
use Rattle.aft_records.specs.declared.stored.Version.{Version}
use Rattle.aft_records.specs.Names.{name_text}
use Rattle.aft_records.specs.NameReading.{name_of}
use Rattle.aft_records.specs.Reading.{marker_of, record_of, version_of}
use Rattle.aft_records.specs.Rows.{marker_row, record_row, version_row}
use Rattle.aft_records.specs.Stored.{IsCommit, IsMarker, IsName, IsRecord, IsVersion, marker_time}
use Rattle.aft_records.proofs.NameWritten.{name_written}
use Rattle.aft_records.proofs.Written.{marker_written, record_written, timely_is, version_written}
use Rattle.aft_model.specs.declared.door.DoorEntry.{DoorEntry}
use Rattle.aft_model.specs.DoorRules.{may_call, may_delete, may_put, may_put_marker, may_put_record, may_put_version, may_upgrade}
use Rattle.aft_model.specs.Membership.{Incarnation, incarnation, is_up, same_incarnation, the_office}
use Rattle.aft_model.specs.Readings.{id_of_marker, marker_name, markers_in, read_under, record_name, version_name, versions_in, written_in}
use Rattle.aft_model.proofs.Sights.{bytes_eq-refl}

-- what is read under its own name is there alone
pub read_own : {A : Type 0} (name : List ℕ) (its_name : A → List ℕ) (r : Result A RecordFault) (x : A) → r ≡ Ok x → name ≡ its_name x → read_under name its_name r ≡ x ∷ []
read_own name its_name r x read named =
    ap (read_under name its_name) read ∙ ap (λ n. if bytes_eq n (its_name x) then x ∷ [] else []) named ∙ ap (λ t. if t then x ∷ [] else []) (bytes_eq-refl (its_name x))

any_one : {A : Type 0} (test : A → Bool) (xs : List A) (x : A) → xs ≡ x ∷ [] → IsTrue (test x) → IsTrue (list_any test xs)
any_one test xs x is passed = subst (λ ys. IsTrue (list_any test ys)) (sym is) (or_left _ _ passed)

module _ (history : List DoorEntry) (who : Incarnation) (name bytes : List ℕ) where
  pub version_may : (v : Version) → name ≡ version_name v.key v.id → bytes ≡ version_row v → IsVersion v → IsTrue (may_put_version history who v) → IsTrue (may_put history who (record { name = name; bytes = bytes }))
  version_may v named spelled is may =
      or_left _ _ (or_left _ _ (any_one (may_put_version history who) (versions_in (record { name = name; bytes = bytes })) v
      (read_own name (λ w. version_name w.key w.id) (version_of bytes) v (ap version_of spelled ∙ version_written v is.0 ∙ timely_is v.id.time v is.1) named) may))

  pub record_may : (r : Record) → name ≡ record_name r.commit.id.uuid → bytes ≡ record_row r → IsRecord r → IsTrue (may_put_record history who r || may_upgrade history who r)
      → IsTrue (may_put history who (record { name = name; bytes = bytes }))
  record_may r named spelled is may =
      or_left _ _ (or_right _ _ (any_one (λ s. may_put_record history who s || may_upgrade history who s) (written_in (record { name = name; bytes = bytes })) r
      (read_own name (λ s. record_name s.commit.id.uuid) (record_of bytes) r (ap record_of spelled ∙ record_written r is.0 ∙ timely_is r.commit.id.time r is.1) named) may))

  pub marker_may : (m : Marker) → name ≡ marker_name (id_of_marker m).uuid → bytes ≡ marker_row m → IsMarker m → IsTrue (may_put_marker history who m)
      → IsTrue (may_put history who (record { name = name; bytes = bytes }))
  marker_may m named spelled is may =
      or_right _ _ (any_one (may_put_marker history who) (markers_in (record { name = name; bytes = bytes })) m
      (read_own name (λ n. marker_name (id_of_marker n).uuid) (marker_of bytes) m (ap marker_of spelled ∙ marker_written m is.0 ∙ timely_is (marker_time m) m is.1) named) may)

pub delete_may : (history : List DoorEntry) (who : Incarnation) (name : List ℕ) (n : Name) → name ≡ name_text n → IsName n → IsTrue (may_delete history who (Some n)) → IsTrue (may_call history who (Delete name))
delete_may history who name n named is may = subst (λ o. IsTrue (may_delete history who o)) (sym (ap name_of named ∙ name_written n is)) may

-- ---- what a test that passed tells

pub passed : (u : Unit {0}) (o : Option DoorFault) → Ok u ≡ as_result o → o ≡ None
passed u None e = refl
passed u (Some fault) e = absurd (cc)

pub holds_if : (who : Caller) (uuid : List ℕ) (history : List DoorEntry) → if_not_holder who uuid history ≡ None → IsTrue (holds (who_calls who) uuid history)
holds_if who uuid history e = cases (holds (who_calls who) uuid history) e
  where
    cases : (t : Bool) → (if t then None else Some NotHolder) ≡ None → t ≡ true
    cases true e = refl
    cases false e = absurd (cc)

pub up_if : (who : Caller) (history : List DoorEntry) → if_fenced who history ≡ None → IsTrue (is_up (who_calls who) history)
up_if who history e = cases (is_up (who_calls who) history) e
  where
    cases : (t : Bool) → (if t then None else Some (Fenced who.node who.inc)) ≡ None → t ≡ true
    cases true e = refl
    cases false e = absurd (cc)

pub holdout_if : (id : TxnId) (history : List DoorEntry) → if_held_out id history ≡ None → holdout id history ≡ None
holdout_if id history e = cases (holdout id history) e
  where
    cases : (o : Option Incarnation) → held_out_by o ≡ None → o ≡ None
    cases None e = refl
    cases (Some w) e = absurd (cc)

-- what comes behind tests that passed
pub behind : (o : Option DoorFault) (r : Result (Unit {0}) DoorFault) → o ≡ None → RefusedOrFailed None r → RefusedOrFailed o r
behind o r none refused = subst (λ p. RefusedOrFailed p r) (sym none) refused

pub both_none : (a b : Option DoorFault) → a ≡ None → b ≡ None → or_then a b ≡ None
both_none a b first second = ap (λ o. or_then o b) first ∙ second

pub asks_put : (old new : DoorView) (who : Caller) (n m b d : List ℕ) (answer : Option KeeperAnswer) → n ≡ m → b ≡ d → Asks old who (Put n b) answer new → Asks old who (Put m d) answer new
asks_put old new who n m b d answer named spelled asks = subst (λ x. Asks old who (Put x d) answer new) named (subst (λ y. Asks old who (Put n y) answer new) spelled asks)

pub asks_delete : (old new : DoorView) (who : Caller) (n m : List ℕ) (answer : Option KeeperAnswer) → n ≡ m → Asks old who (Delete n) answer new → Asks old who (Delete m) answer new
asks_delete old new who n m answer named asks = subst (λ x. Asks old who (Delete x) answer new) named asks

-- ---- who holds is up, and by which claim

pub up_holds : (who : Incarnation) (uuid : List ℕ) (history : List DoorEntry) → IsTrue (holds who uuid history) → IsTrue (is_up who history)
up_holds who uuid history held = by (claimant uuid history) held
  where
    by : (o : Option Incarnation) → IsTrue (is_held_by who (if_up history o)) → IsTrue (is_up who history)
    by None held = absurd (false≢true held)
    by (Some other) held = cases (is_up other history) refl held
      where
        cases : (t : Bool) → is_up other history ≡ t → IsTrue (is_held_by who (if t then Some other else None)) → IsTrue (is_up who history)
        cases true up held = subst (λ (w : Incarnation). IsTrue (is_up w history)) (sym (same_who who other held)) up
        cases false up held = absurd (false≢true held)

pub record ByClaim (who : Caller) (uuid : List ℕ) (place : ℕ) (history : List DoorEntry) : Type 0 where
  pub at : claim_place uuid history ≡ Some place
  pub held : IsTrue (holds (who_calls who) uuid history)

pub claim_if : (who : Caller) (uuid : List ℕ) (place : ℕ) (history : List DoorEntry) → if_not_by_claim who uuid place history ≡ None → ByClaim who uuid place history
claim_if who uuid place history e = cases (claim_place uuid history) refl e
  where
    cases : (o : Option ℕ) → claim_place uuid history ≡ o → (if option_eq nat_eq o (Some place) then if_not_holder who uuid history else Some NotHolder) ≡ None → ByClaim who uuid place history
    cases None is e = absurd (cc)
    cases (Some p) is e = same (nat_eq p place) refl e
      where
        same : (t : Bool) → nat_eq p place ≡ t → (if t then if_not_holder who uuid history else Some NotHolder) ≡ None → ByClaim who uuid place history
        same true it e = record { at = is ∙ ap (λ n. Some n) (eqb-true p place it); held = holds_if who uuid history e }
        same false other e = absurd (cc)

-- ---- a short marker of an id is one of its UUID

finds_more : (who : Incarnation) (name : List ℕ) (p q : Pair → Bool) → ((pair : Pair) → IsTrue (p pair) → IsTrue (q pair)) → (act : DoorAct) → IsTrue (finds who name p act) → IsTrue (finds who name q act)
finds_more who name p q more (Call node inc (Get got) (Found bytes)) found =
    let parts = and_parts (same_incarnation who (incarnation node inc) && bytes_eq name got) (p (record { name = got; bytes = bytes })) found in
    and_from _ _ parts.0 (more (record { name = got; bytes = bytes }) parts.1)
finds_more who name p q more act found = absurd (false≢true found)

followed_more : (first : DoorEntry → Bool) (p q : List DoorEntry → Bool) → ((xs : List DoorEntry) → IsTrue (p xs) → IsTrue (q xs)) → (xs : List DoorEntry) → IsTrue (followed first p xs) → IsTrue (followed first q xs)
followed_more first p q more [] passed = passed
followed_more first p q more (x ∷ xs) passed = elim (or_cases (first x && p xs) (followed first p xs) passed) [
  | inl here ↦ (let parts = and_parts (first x) (p xs) here in or_left _ _ (and_from _ _ parts.0 (more xs parts.1)))
  | inr later ↦ or_right _ _ (followed_more first p q more xs later)
]

pub short_of : (who : Incarnation) (id : TxnId) (history : List DoorEntry) → IsTrue (knows_short_of who id history) → IsTrue (knows_short who id.uuid history)
short_of who id history knows =
    followed_more _ _ _ (λ xs found. any_implied _ _ (λ (e : DoorEntry) finds. finds_more who (marker_name id.uuid) (λ pair. is_listed id (shorts_in pair)) (is_short_of id.uuid)
    (λ pair listed. any_implied (same_id id) (λ (i : TxnId). bytes_eq id.uuid i.uuid) (λ i same. (and_parts (id.time == i.time) (bytes_eq id.uuid i.uuid) same).1) (shorts_in pair) listed) e.act finds) xs found) history knows

-- ---- the office

pub is_office : (who : Incarnation) → who ≡ the_office → IsTrue (same_incarnation the_office who)
is_office who is = subst (λ w. IsTrue (same_incarnation the_office w)) (sym is) refl

pub upgraded_is : (c : Commit) → IsCommit c → IsRecord (upgraded c)
upgraded_is c is = (
  record {
    commit = is.0;
    origin = record {
      limits = refl;
      reads = record { few = omega arith; timely = λ k d lt. absurd (omega arith); ascending = refl };
      uuids = λ k d lt. absurd (omega arith);
    };
  },
  is.1,
)
