-- What comes of one commit of an upgrade.
use Rattle.std.proofs.Common.{◌≡◌, ℕ, Bool, true, false, List, [], ◌∷◌, ◌++◌, refl, sym, ap, ◌∙◌, append_assoc, append-nil}
use Rattle.std.specs.Prelude.{IsFalse, IsTrue, None, Option, Some, if◌then◌else◌}
use Rattle.std.specs.List.{list_any}
use Rattle.std.proofs.lemmas.Bool.{or_left}
use Rattle.aft_keeper.specs.declared.keeper.KeeperAnswer.{KeeperAnswer}
use Rattle.aft_keeper.specs.declared.keeper.KeeperAnswer.TheVariants.{Done, Failed}
use Rattle.aft_keeper.specs.declared.keeper.KeeperCall.TheVariants.{Get}
use Rattle.aft_keeper.specs.declared.keeper.Pair.{Pair}
use Rattle.aft_records.specs.declared.stored.Commit.{Commit}
use Rattle.aft_records.specs.Commits.{is_among}
use Rattle.aft_records.specs.Stored.{IsCommit}
use Rattle.aft_model.specs.declared.door.DoorEntry.{DoorEntry}
use Rattle.aft_model.specs.Opening.{has_failed}
use Rattle.aft_model.specs.Readings.{first_format_in, record_name}
use Rattle.aft_door.specs.Entries.{called}
use Rattle.aft_lines.specs.CourseWords.{finds_record, found_pair}
use Rattle.aft_audit.specs.Audit.{opener}
use Rattle.aft_audit.specs.Upgrading.{HasPassed, HasStopped, format_found}
use Rattle.aft_audit.specs.Versions.{found_answer, with_get}
use Rattle.aft_audit.specs.declared.fault.AuditFault.TheVariants.{Damaged, Memory, Store}
use Rattle.aft_audit.proofs.Upgrades.{commit_itself, first_passes, first_stops, get_stops, nothing_begins, put_of, second_passes}

module _ (c : Commit) (others : List Commit) (old : List DoorEntry) where
  abbrev Name : List ℕ
  Name = record_name c.id.uuid

  -- nothing was asked
  pub unasked : HasStopped Memory (c ∷ others) old old
  unasked = record { made = []; ends = sym (append-nil old); ours = refl; begins = λ place. nothing_begins (c ∷ others); why = refl }

  -- the get failed
  pub get_failed : (new : List DoorEntry) → new ≡ old ++ called opener (Get Name) Failed ∷ [] → HasStopped Store (c ∷ others) old new
  get_failed new is = record { made = called opener (Get Name) Failed ∷ []; ends = is; ours = refl; begins = λ place. get_stops c others place Failed; why = refl }

  -- its answer wasn't told
  pub get_untold : (answer : KeeperAnswer) (new : List DoorEntry) → IsFalse (has_failed (called opener (Get Name) answer ∷ [])) → new ≡ old ++ called opener (Get Name) answer ∷ [] → HasStopped Memory (c ∷ others) old new
  get_untold answer new works is = record { made = called opener (Get Name) answer ∷ []; ends = is; ours = refl; begins = λ place. get_stops c others place answer; why = works }

  module _ (found : Option (List ℕ)) (now : List DoorEntry) (is : now ≡ with_get old Name found) where
    got_works : (found : Option (List ℕ)) → IsFalse (has_failed (called opener (Get Name) (found_answer found) ∷ []))
    got_works None = refl
    got_works (Some bytes) = refl

    -- memory was wanting behind the get
    pub got_only : HasStopped Memory (c ∷ others) old now
    got_only = record { made = called opener (Get Name) (found_answer found) ∷ []; ends = is; ours = refl; begins = λ place. get_stops c others place (found_answer found); why = got_works found }

    -- it found the second format
    pub found_second : format_found c found ≡ Some false → HasPassed (c ∷ others) others 0 old now
    found_second format = record {
      made = called opener (Get Name) (found_answer found) ∷ [];
      ends = is;
      ours = refl;
      works = got_works found;
      passes = λ place whole line. second_passes c others place whole found line format;
      puts_made = refl;
    }

    -- it found no record of the commit
    pub found_none : format_found c found ≡ None → HasStopped (Damaged Name) (c ∷ others) old now
    found_none format = record {
      made = called opener (Get Name) (found_answer found) ∷ [];
      ends = is;
      ours = refl;
      begins = λ place. get_stops c others place (found_answer found);
      why = record { commit = c; among = or_left _ _ (commit_itself c); answer = found_answer found; named = refl; last = refl; none = cases (list_any (λ (pair : Pair). is_among c (first_format_in pair)) (found_pair Name (found_answer found))) (finds_record c (found_answer found)) format; works = got_works found };
    }
      where
        cases : (first second : Bool) → (if first then Some true else if second then Some false else None) ≡ None → second ≡ false
        cases true second is' = absurd (cc)
        cases false true is' = absurd (cc)
        cases false false is' = refl

    -- it found the first format, and the put of the second was acknowledged, or failed
    module _ (limits : IsCommit c) (format : format_found c found ≡ Some true) (new : List DoorEntry) where
      pub put_done : new ≡ now ++ put_of c others Done ∷ [] → HasPassed (c ∷ others) others 1 old new
      put_done put = record {
        made = called opener (Get Name) (found_answer found) ∷ put_of c others Done ∷ [];
        ends = put ∙ (ap (λ (h : List DoorEntry). h ++ put_of c others Done ∷ []) is ∙ append_assoc old (called opener (Get Name) (found_answer found) ∷ []) (put_of c others Done ∷ []));
        ours = refl;
        works = both_work found;
        passes = λ place whole line. first_passes c others place whole found line limits format;
        puts_made = refl;
      }
        where
          both_work : (found : Option (List ℕ)) → IsFalse (has_failed (called opener (Get Name) (found_answer found) ∷ put_of c others Done ∷ []))
          both_work None = refl
          both_work (Some bytes) = refl

      pub put_failed : new ≡ now ++ put_of c others Failed ∷ [] → HasStopped Store (c ∷ others) old new
      put_failed put = record {
        made = called opener (Get Name) (found_answer found) ∷ put_of c others Failed ∷ [];
        ends = put ∙ (ap (λ (h : List DoorEntry). h ++ put_of c others Failed ∷ []) is ∙ append_assoc old (called opener (Get Name) (found_answer found) ∷ []) (put_of c others Failed ∷ []));
        ours = refl;
        begins = λ place. first_stops c others place found limits format;
        why = one_failed found;
      }
        where
          one_failed : (found : Option (List ℕ)) → IsTrue (has_failed (called opener (Get Name) (found_answer found) ∷ put_of c others Failed ∷ []))
          one_failed None = refl
          one_failed (Some bytes) = refl
