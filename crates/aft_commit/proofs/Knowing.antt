-- What a commit or an abort knows at the door by its own puts.
use Rattle.std.proofs.Common.{◌≡◌, ◌≤◌, ℕ, Bool, true, false, ◌&&◌, ◌||◌, List, [], ◌∷◌, ◌++◌, length, refl, sym, subst, ◌∙◌, ◌⊎◌, inl, inr, arith}
use Rattle.std.specs.Prelude.{IsTrue, if◌then◌else◌, nat_lt}
use Rattle.std.specs.List.{list_all, list_any}
use Rattle.std.proofs.lemmas.Bool.{and_from, and_parts, false≢true, or_cases, or_left, or_right}
use Rattle.std.proofs.lemmas.Bool.Decides.{nat_tests}
use Rattle.std.proofs.lemmas.List.Folds.{list_any-append}
use Rattle.aft_records.specs.declared.stored.Commit.{Commit}
use Rattle.aft_model.specs.declared.caller.By.{By}
use Rattle.aft_model.specs.declared.caller.Hold.{Hold}
use Rattle.aft_model.specs.declared.door.DoorEntry.{DoorEntry}
use Rattle.aft_model.specs.DoorKnowledge.{claims, finds_absent, has_stored, knows_stored, knows_unused, stores_version}
use Rattle.aft_model.specs.History.{followed}
use Rattle.aft_model.specs.Membership.{Incarnation}
use Rattle.aft_model.specs.NodeSights.{own_entries}
use Rattle.aft_model.specs.Readings.{marker_name, record_name}
use Rattle.aft_model.specs.ScanRun.{same_line}
use Rattle.aft_model.proofs.Growth.{all_implied, unused_grows}
use Rattle.aft_lines.specs.CourseWords.{caller_of}
use Rattle.aft_commit.specs.Asks.{knew_unused_at, may_put_at}
use Rattle.aft_commit.specs.Made.{made_at}
use Rattle.aft_commit.specs.Told.{entries_by}
use Rattle.aft_commit.specs.declared.stage.Stage.{Stage}
use Rattle.aft_commit.specs.declared.stage.Stage.TheVariants.{Begins, Doubts, Ended, Ends, Failed, Recorded, Releases, Settles, ShutOut, Stores}
use Rattle.aft_commit.proofs.Stored.{take_all}
use Rattle.aft_turns.specs.Trail.{Trail}

-- what followed a first entry may be asked more of, once more has come
followed_more : {A : Type 0} (first : A → Bool) (rest further : List A → Bool) (more : List A) → ((xs : List A) → IsTrue (rest xs) → IsTrue (further (xs ++ more))) → (xs : List A) → IsTrue (followed first rest xs) → IsTrue (followed first further (xs ++ more))
followed_more first rest further more goes [] is = absurd (false≢true is)
followed_more first rest further more goes (x ∷ xs) is = by_cases (followed_more first rest further more goes xs) (or_cases (first x && rest xs) (followed first rest xs) is)
  where
    by_cases : (IsTrue (followed first rest xs) → IsTrue (followed first further (xs ++ more))) → IsTrue (first x && rest xs) ⊎ IsTrue (followed first rest xs) → IsTrue (first x && further (xs ++ more) || followed first further (xs ++ more))
    by_cases later (inl here) =
        let parts = and_parts (first x) (rest xs) here in
        or_left _ _ (and_from _ _ parts.0 (goes xs parts.1))
    by_cases later (inr there) = or_right _ _ (later there)

-- what a line's own entries show all do
any_own : (test : DoorEntry → Bool) (by : By) (entries : List DoorEntry) → IsTrue (list_any test (own_entries by entries)) → IsTrue (list_any test entries)
any_own test by [] is = absurd (false≢true is)
any_own test by (e ∷ entries) is = by_line (any_own test by entries) (same_line by e.by) is
  where
    by_line : (IsTrue (list_any test (own_entries by entries)) → IsTrue (list_any test entries)) → (own : Bool) → IsTrue (list_any test (if own then e ∷ own_entries by entries else own_entries by entries)) → IsTrue (test e || list_any test entries)
    by_line later true some = by_cases (or_cases (test e) (list_any test (own_entries by entries)) some)
      where
        by_cases : IsTrue (test e) ⊎ IsTrue (list_any test (own_entries by entries)) → IsTrue (test e || list_any test entries)
        by_cases (inl here) = or_left _ _ here
        by_cases (inr there) = or_right _ _ (later there)
    by_line later false some = or_right _ _ (later some)

module _ (who : Incarnation) (c : Commit) (before since : List DoorEntry) where
  -- each version was put since
  stored_since : IsTrue (has_stored who c since) → (xs : List DoorEntry) → IsTrue (has_stored who c (xs ++ since))
  stored_since stored xs =
      all_implied (λ key. list_any (λ e. stores_version who key c.id e.act) since) (λ key. list_any (λ e. stores_version who key c.id e.act) (xs ++ since))
      (λ key there. list_any-append (λ e. stores_version who key c.id e.act) xs since ∙ or_right (list_any (λ e. stores_version who key c.id e.act) xs) _ there) c.keys stored

  -- so of a UUID that it had found unused it knows that
  stored_so : IsTrue (knows_unused who c.id.uuid before) → IsTrue (has_stored who c since) → IsTrue (knows_stored who c (before ++ since))
  stored_so unused stored =
      followed_more (λ e. claims who c.id.uuid e.act) (followed (λ e. finds_absent who (record_name c.id.uuid) e.act) (followed (λ e. finds_absent who (marker_name c.id.uuid) e.act) (λ rest. true)))
      (followed (λ e. finds_absent who (record_name c.id.uuid) e.act) (followed (λ e. finds_absent who (marker_name c.id.uuid) e.act) (has_stored who c))) since
      (followed_more (λ e. finds_absent who (record_name c.id.uuid) e.act) (followed (λ e. finds_absent who (marker_name c.id.uuid) e.act) (λ rest. true)) (followed (λ e. finds_absent who (marker_name c.id.uuid) e.act) (has_stored who c)) since
      (followed_more (λ e. finds_absent who (marker_name c.id.uuid) e.act) (λ rest. true) (has_stored who c) since (λ xs is. stored_since stored xs))) before unused

few : (count most : ℕ) → nat_lt count most ≡ false → most ≤ count
few count most is = grind (arith, nat_tests)

pub knows_so : (clock : ℕ) (by : By) (hold : Hold) (aborts : Bool) (stage : Stage) (trail : Trail) (before since : List DoorEntry) → made_at clock by hold aborts stage trail → knew_unused_at stage before → own_entries by since ≡ entries_by by trail.turns → may_put_at stage (before ++ since)
knows_so clock by hold aborts (Stores a r values count) trail before since made unused own = by_count (nat_lt count (length r.commit.keys)) refl
  where
    -- each version was put by the line
    all_put : length r.commit.keys ≤ count → IsTrue (has_stored (caller_of a) r.commit since)
    all_put most =
        all_implied (λ key. list_any (λ e. stores_version (caller_of a) key r.commit.id e.act) (entries_by by trail.turns)) (λ key. list_any (λ e. stores_version (caller_of a) key r.commit.id e.act) since)
        (λ key there. any_own (λ e. stores_version (caller_of a) key r.commit.id e.act) by since (subst (λ (es : List DoorEntry). IsTrue (list_any (λ e. stores_version (caller_of a) key r.commit.id e.act) es)) (sym own) there)) r.commit.keys
        (subst (λ (keys : List (List ℕ)). IsTrue (list_all (λ key. list_any (λ e. stores_version (caller_of a) key r.commit.id e.act) (entries_by by trail.turns)) keys)) (take_all r.commit.keys count most) (made.1.2 by))

    by_count : (more : Bool) → nat_lt count (length r.commit.keys) ≡ more → IsTrue (if more then knows_unused (caller_of a) r.commit.id.uuid (before ++ since) else knows_stored (caller_of a) r.commit (before ++ since))
    by_count true is = unused_grows (caller_of a) r.commit.id.uuid before since unused
    by_count false is = stored_so (caller_of a) r.commit before since unused (all_put (few count (length r.commit.keys) is))
knows_so clock by hold aborts Begins trail before since made unused own = tt
knows_so clock by hold aborts (Settles a r values) trail before since made unused own = tt
knows_so clock by hold aborts (Failed a r) trail before since made unused own = tt
knows_so clock by hold aborts (Recorded a r) trail before since made unused own = tt
knows_so clock by hold aborts (Releases a uuid outcome) trail before since made unused own = tt
knows_so clock by hold aborts (Doubts a reply) trail before since made unused own = tt
knows_so clock by hold aborts (Ends a uuid outcome) trail before since made unused own = tt
knows_so clock by hold aborts (ShutOut a) trail before since made unused own = tt
knows_so clock by hold aborts Ended trail before since made unused own = tt
