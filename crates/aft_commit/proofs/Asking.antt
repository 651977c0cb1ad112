-- What calls of the door do, by what it tells.
use Rattle.std.proofs.Common.{◌≡◌, ◌⊎◌, ℕ, Bool, ◌&&◌, ◌||◌, List, [], ◌∷◌, refl, sym, subst, inl, inr}
use Rattle.std.specs.Prelude.{Err, IsTrue, None, Ok, Option, Result, Some, if◌then◌else◌}
use Rattle.std.specs.List.{list_any}
use Rattle.std.specs.Str.{bytes_eq}
use Rattle.std.proofs.lemmas.Bool.{and_parts, or_cases, or_left}
use Rattle.aft_id.specs.TxnId.{IsUuid}
use Rattle.aft_keeper.specs.declared.keeper.KeeperAnswer.TheVariants as answers
use Rattle.aft_keeper.specs.declared.keeper.KeeperCall.{KeeperCall}
use Rattle.aft_keeper.specs.declared.keeper.KeeperCall.TheVariants.{Get}
use Rattle.aft_records.specs.declared.fault.RecordFault.{RecordFault}
use Rattle.aft_records.specs.declared.stored.Commit.{Commit}
use Rattle.aft_records.specs.Commits.{same_commit}
use Rattle.aft_records.specs.Reading.{commit_of}
use Rattle.aft_model.specs.declared.caller.Attempt.{Attempt}
use Rattle.aft_model.specs.declared.caller.By.{By}
use Rattle.aft_model.specs.declared.caller.Caller.{Caller}
use Rattle.aft_model.specs.declared.door.DoorAct.TheVariants.{Call}
use Rattle.aft_model.specs.Claims.{holds}
use Rattle.aft_model.specs.Membership.{is_up}
use Rattle.aft_model.specs.NodeSights.{is_fenced}
use Rattle.aft_model.specs.Readings.{read_under, record_name}
use Rattle.aft_model.proofs.Ids.{same_commits}
use Rattle.aft_model.proofs.Sights.{bytes_eq-refl}
use Rattle.aft_lines.specs.CourseWords.{caller_of, finds_record}
use Rattle.aft_door.specs.declared.fault.DoorFault.{DoorFault}
use Rattle.aft_door.specs.declared.fault.DoorFault.TheVariants as faults
use Rattle.aft_door.specs.Calls.{Asks, DoorView, Shows, told_done, told_found}
use Rattle.aft_door.specs.Refusals.{RefusedOrFailed, if_fenced, if_not_holder, or_then}
use Rattle.aft_commit.specs.declared.sight.Sight.{Sight}
use Rattle.aft_commit.specs.declared.sight.Sight.TheVariants as sights
use Rattle.aft_commit.specs.Calls.{LooksSo, PutSo, Shown, Tells, refused_sight}
use Rattle.aft_turns.specs.Steps.{SameStore}

-- what is read as this commit is its record
pub finds_it : (c d : Commit) (bytes : List ℕ) → commit_of bytes ≡ Ok d → IsTrue (same_commit c d) → IsTrue (finds_record c (answers.Found bytes))
finds_it c d bytes read same =
    subst (λ (r : Result Commit RecordFault). IsTrue (list_any (same_commit c) (read_under (record_name c.id.uuid) (λ x. record_name x.id.uuid) r))) (sym read)
    (subst (λ (t : Bool). IsTrue (list_any (same_commit c) (if t then d ∷ [] else []))) (sym (subst (λ (x : Commit). IsTrue (bytes_eq (record_name c.id.uuid) (record_name x.id.uuid))) (same_commits c d same) (bytes_eq-refl (record_name c.id.uuid))))
    (or_left _ _ same))

module _ (by : By) (a : Attempt) (old new : DoorView) where
  -- who asks
  abbrev pub who : Caller
  who = record { node = a.node; inc = a.inc; by = by }

  -- ---- looks

  module _ (c : Commit) (is_uuid : IsUuid c.id.uuid) where
    fenced_look : (fault : DoorFault) → (RefusedOrFailed {T = Option (List ℕ)} None (Err fault) → ⊥) → IsTrue (is_fenced (caller_of a) old.history || is_up (caller_of a) old.history) → RefusedOrFailed {T = Option (List ℕ)} (if_fenced who old.history) (Err fault) → IsTrue (is_fenced (caller_of a) old.history)
    fenced_look fault never may why = by_cases (or_cases (is_fenced (caller_of a) old.history) (is_up (caller_of a) old.history) may)
      where
        by_cases : IsTrue (is_fenced (caller_of a) old.history) ⊎ IsTrue (is_up (caller_of a) old.history) → IsTrue (is_fenced (caller_of a) old.history)
        by_cases (inl fenced) = fenced
        by_cases (inr up) = absurd (never (subst (λ (t : Bool). RefusedOrFailed {T = Option (List ℕ)} (if t then None else Some (faults.Fenced a.node a.inc)) (Err fault)) up why))

    by_fault : (fault : DoorFault) → IsTrue (is_fenced (caller_of a) old.history || is_up (caller_of a) old.history) → RefusedOrFailed {T = Option (List ℕ)} (if_fenced who old.history) (Err fault) → Shows told_found old who (Get (record_name c.id.uuid)) (Err fault) new → LooksSo by a c old.history new.history (refused_sight a fault)
    by_fault faults.Failed may why shows = shows.history
    by_fault faults.Memory may why (None, untold, asks) = inl (asks.history, inr refl)
    by_fault faults.Memory may why (Some answer, untold, asks) = inr (inl (answer, asks.history, refl))
    by_fault (faults.Fenced node inc) may why shows = inl (shows.history, inl (refl, fenced_look (faults.Fenced node inc) (λ x. x) may why))
    by_fault (faults.Busy node inc) may why shows = inl (shows.history, inl (refl, fenced_look (faults.Busy node inc) (λ x. x) may why))
    by_fault faults.Forgotten may why shows = inl (shows.history, inl (refl, fenced_look faults.Forgotten (λ x. x) may why))
    by_fault faults.NotHolder may why shows = inl (shows.history, inl (refl, fenced_look faults.NotHolder (λ x. x) may why))
    by_fault (faults.Holdout node inc) may why shows = inl (shows.history, inl (refl, fenced_look (faults.Holdout node inc) (λ x. x) may why))

    by_bytes : (bytes : List ℕ) (sight : Sight) → Shows told_found old who (Get (record_name c.id.uuid)) (Ok (Some bytes)) new → Shown c bytes sight → LooksSo by a c old.history new.history sight
    by_bytes bytes sights.Recorded shows finds = (bytes, shows.history, finds)
    by_bytes bytes (sights.Refused reply) shows (inl lacks) = inr (inl (answers.Found bytes, shows.history, lacks))
    by_bytes bytes (sights.Refused reply) shows (inr (other, is)) = inr (inr (bytes, shows.history, is_uuid, other, is))
    by_bytes bytes sights.Absent shows never = absurd never
    by_bytes bytes sights.Failed shows never = absurd never

    pub looks_so : (told : Result (Option (List ℕ)) DoorFault) (sight : Sight) → IsTrue (is_fenced (caller_of a) old.history || is_up (caller_of a) old.history) → RefusedOrFailed (if_fenced who old.history) told → Shows told_found old who (Get (record_name c.id.uuid)) told new → Tells a c told sight → LooksSo by a c old.history new.history sight
    looks_so (Ok None) sight may why shows is = subst (LooksSo by a c old.history new.history) (sym is) shows.history
    looks_so (Ok (Some bytes)) sight may why shows is = by_bytes bytes sight shows is
    looks_so (Err fault) sight may why shows is = subst (LooksSo by a c old.history new.history) (sym is) (by_fault fault may why shows)

    -- what the store told at first stays
    pub same_store : (told : Result (Option (List ℕ)) DoorFault) → Shows told_found old who (Get (record_name c.id.uuid)) told new → SameStore old new
    same_store (Ok it) shows = record { contents = shows.first_contents; log = shows.first_log }
    same_store (Err faults.Memory) (answer, untold, asks) = record { contents = asks.first_contents; log = asks.first_log }
    same_store (Err faults.Failed) shows = record { contents = shows.first_contents; log = shows.first_log }
    same_store (Err (faults.Fenced node inc)) shows = record { contents = shows.first_contents; log = shows.first_log }
    same_store (Err (faults.Busy node inc)) shows = record { contents = shows.first_contents; log = shows.first_log }
    same_store (Err faults.Forgotten) shows = record { contents = shows.first_contents; log = shows.first_log }
    same_store (Err faults.NotHolder) shows = record { contents = shows.first_contents; log = shows.first_log }
    same_store (Err (faults.Holdout node inc)) shows = record { contents = shows.first_contents; log = shows.first_log }

  -- ---- puts

  module _ (uuid : List ℕ) (asked : KeeperCall) where
    abbrev Why : Result Unit DoorFault → Type 0
    Why result = RefusedOrFailed (or_then (if_fenced who old.history) (if_not_holder who uuid old.history)) result

    abbrev May : Type 0
    May = IsTrue (is_fenced (caller_of a) old.history || is_up (caller_of a) old.history && holds (caller_of a) uuid old.history)

    fenced_put : (fault : DoorFault) → (RefusedOrFailed {T = Unit} None (Err fault) → ⊥) → May → Why (Err fault) → IsTrue (is_fenced (caller_of a) old.history)
    fenced_put fault never may why = by_cases (or_cases (is_fenced (caller_of a) old.history) (is_up (caller_of a) old.history && holds (caller_of a) uuid old.history) may)
      where
        by_cases : IsTrue (is_fenced (caller_of a) old.history) ⊎ IsTrue (is_up (caller_of a) old.history && holds (caller_of a) uuid old.history) → IsTrue (is_fenced (caller_of a) old.history)
        by_cases (inl fenced) = fenced
        by_cases (inr both) =
            let parts = and_parts (is_up (caller_of a) old.history) (holds (caller_of a) uuid old.history) both in
            absurd (never
            (subst (λ (t : Bool). RefusedOrFailed {T = Unit} (if t then None else Some faults.NotHolder) (Err fault)) parts.1
            (subst (λ (t : Bool). RefusedOrFailed {T = Unit} (or_then (if t then None else Some (faults.Fenced a.node a.inc)) (if_not_holder who uuid old.history)) (Err fault)) parts.0 why)))

    pub put_so : (result : Result Unit DoorFault) → May → Why result → Asks old who asked (told_done result) new → PutSo by a (λ answer. Call a.node a.inc asked answer) old.history new.history result
    put_so (Ok x) may why asks = asks.history
    put_so (Err faults.Failed) may why asks = asks.history
    put_so (Err faults.Memory) may why asks = (asks.history, inr refl)
    put_so (Err (faults.Fenced node inc)) may why asks = (asks.history, inl (refl, fenced_put (faults.Fenced node inc) (λ x. x) may why))
    put_so (Err (faults.Busy node inc)) may why asks = (asks.history, inl (refl, fenced_put (faults.Busy node inc) (λ x. x) may why))
    put_so (Err faults.Forgotten) may why asks = (asks.history, inl (refl, fenced_put faults.Forgotten (λ x. x) may why))
    put_so (Err faults.NotHolder) may why asks = (asks.history, inl (refl, fenced_put faults.NotHolder (λ x. x) may why))
    put_so (Err (faults.Holdout node inc)) may why asks = (asks.history, inl (refl, fenced_put (faults.Holdout node inc) (λ x. x) may why))
