-- The turns of each way of a round of orphans show no page; and where the round wasn't cut short, they show no damage, and settle how many versions came to each end.
use Rattle.std.proofs.Common.{◌≡◌, ◌++◌, ◌+◌, ℕ, Bool, true, false, ◌&&◌, ◌||◌, not, List, [], ◌∷◌, length, map, filter, refl, sym, ap, subst, ◌∙◌, arith, length-append}
use Rattle.std.specs.Prelude.{IsTrue, None, if◌then◌else◌, suc}
use Rattle.std.specs.List.{All, flat_map, list_any}
use Rattle.std.specs.Str.{bytes_eq}
use Rattle.std.proofs.lemmas.Bool.{and_parts, eqb-true, false≢true, not-false, or_parts}
use Rattle.std.proofs.lemmas.List.Elements.{All-append, All-cons, All-map, All-nil, All-weaker, filter-append}
use Rattle.aft_id.specs.declared.txn_id.TxnId.{TxnId}
use Rattle.aft_keeper.specs.declared.keeper.KeeperAnswer.{KeeperAnswer}
use Rattle.aft_keeper.specs.declared.keeper.KeeperAnswer.TheVariants as answers
use Rattle.aft_keeper.specs.declared.keeper.KeeperCall.TheVariants as calls
use Rattle.aft_keeper.specs.declared.keeper.Pair.{Pair}
use Rattle.aft_records.specs.declared.stored.Commit.{Commit}
use Rattle.aft_records.specs.declared.stored.Marker.{Marker}
use Rattle.aft_records.specs.Commits.{is_listed}
use Rattle.aft_model.specs.declared.caller.By.{By}
use Rattle.aft_model.specs.declared.door.DoorAct.{DoorAct}
use Rattle.aft_model.specs.declared.door.DoorAct.TheVariants.{Call, Claim, Release}
use Rattle.aft_model.specs.declared.door.DoorEntry.{DoorEntry}
use Rattle.aft_model.specs.DoorKnowledge.{ids_in}
use Rattle.aft_model.specs.Membership.{incarnation, same_incarnation, the_office}
use Rattle.aft_model.specs.Readings.{has_reading, id_of_marker, marker_name, markers_in, record_name, records_in, version_name, versions_in}
use Rattle.aft_model.proofs.Sights.{same_bytes}
use Rattle.aft_lines.specs.CausesRounds.{is_end_deleted, is_end_faulty, is_end_held, is_end_kept}
use Rattle.aft_lines.specs.CausesScans.{damage_in, is_failed_page, is_page_act, listed_in}
use Rattle.aft_lines.specs.CourseWords.{Ends, found_pair}
use Rattle.aft_lines.specs.OrphanCourse.{FoundEnd, IsDeleted, IsFaulty, IsHeldBack, IsKept, IsLast, VersionAt, Way, behind_look, claims_found, deleted_as, deletes_found, frees, is_cut_short, is_last, looks, ways, ways_behind, with_end, works_on_found}
use Rattle.aft_lines.specs.Turns.{AtDoor, Turn}
use Rattle.law_answers.proofs.Scans.{entries, names}

-- ---- counts

-- how many of some things pass a test, and what one of them adds
abbrev pub tally : {A : Type 0} → (A → Bool) → List A → ℕ
tally test xs = length (filter test xs)

abbrev pub weight : {A : Type 0} → (A → Bool) → A → ℕ
weight test x = if test x then 1 else 0

tally_first : {A : Type 0} (test : A → Bool) (x : A) (xs : List A) → tally test (x ∷ xs) ≡ weight test x + tally test xs
tally_first {A} test x xs = cases (test x)
  where
    cases : (passes : Bool) → length (if passes then x ∷ filter test xs else filter test xs) ≡ (if passes then 1 else 0) + tally test xs
    cases true = omega arith
    cases false = omega arith

pub tally_both : {A : Type 0} (test : A → Bool) (xs ys : List A) → tally test (xs ++ ys) ≡ tally test xs + tally test ys
tally_both test xs ys = ap length (filter-append test xs ys) ∙ length-append (filter test xs) (filter test ys)

-- a claim, a delete that was acknowledged, and a get or a delete that failed
abbrev pub is_claiming : Turn → Bool
is_claiming (AtDoor place (Claim uuid node inc)) = true
is_claiming turn = false

abbrev pub is_deleting : Turn → Bool
is_deleting (AtDoor place (Call node inc (calls.Delete name) answers.Done)) = true
is_deleting turn = false

abbrev pub is_failing : Turn → Bool
is_failing (AtDoor place (Call node inc (calls.Delete name) answers.Done)) = false
is_failing (AtDoor place (Call node inc (calls.Delete name) answer)) = true
is_failing (AtDoor place (Call node inc (calls.Get name) answers.Failed)) = true
is_failing turn = false

-- the names of the damage that an act shows a round, and that turns do
abbrev pub spoilt_by : By → DoorAct → List (List ℕ)
spoilt_by by act = if is_page_act act then [] else damage_in None (record { by = by; act = act })

abbrev pub spoilt : List DoorEntry → List (List ℕ)
spoilt done = flat_map (λ (entry : DoorEntry). if is_page_act entry.act then [] else damage_in None entry) done

-- what the turns of a way show and count, where so many deletes, failed calls and claims were made just before them, and so many versions are to come
pub record Went (by : By) (deleted faulty claimed more : ℕ) (line : List Turn) (way : Way) : Type 0 where
  pub made : List Turn
  pub splits : line ≡ made ++ way.behind
  pub unlisted : (prefix : List ℕ) → names by prefix made ≡ []
  pub unfailed : list_any (λ (entry : DoorEntry). is_failed_page entry.act) (entries by made) ≡ false
  pub undamaged : is_cut_short way ≡ false → spoilt (entries by made) ≡ []
  pub deletes : tally is_end_deleted way.ends ≡ deleted + tally is_deleting made
  pub faults : tally is_end_faulty way.ends ≡ faulty + tally is_failing made
  pub claims : is_cut_short way ≡ false → tally is_end_deleted way.ends + tally is_end_kept way.ends + tally is_end_faulty way.ends ≡ claimed + tally is_claiming made
  pub whole : is_cut_short way ≡ false → tally is_end_deleted way.ends + tally is_end_kept way.ends + tally is_end_held way.ends + tally is_end_faulty way.ends ≡ more

-- ---- what a look shows

nil_so : {A : Type 0} (xs : List A) → length xs ≡ 0 → xs ≡ []
nil_so [] none = refl
nil_so (x ∷ xs) none = absurd (omega arith)

-- a pair without a reading shows no id
ids_none : (pair : Pair) → has_reading pair ≡ false → ids_in pair ≡ []
ids_none pair unread =
    let none : length (records_in pair) + length (markers_in pair) + length (versions_in pair) ≡ 0 = eqb-true (length (records_in pair) + length (markers_in pair) + length (versions_in pair)) 0 (not-false _ unread) in
    let r : records_in pair ≡ [] = nil_so (records_in pair) (omega arith) in
    let m : markers_in pair ≡ [] = nil_so (markers_in pair) (omega arith) in
    ap (λ (cs : List Commit). map (λ (c : Commit). c.id) cs ++ map id_of_marker (markers_in pair)) r ∙ ap (λ (ms : List Marker). map id_of_marker ms) m

-- what shows an id has a reading
listed_reads : (id : TxnId) (name : List ℕ) (answer : KeeperAnswer) → IsTrue (list_any (λ (pair : Pair). is_listed id (ids_in pair)) (found_pair name answer)) → list_any (λ (pair : Pair). not (has_reading pair)) (found_pair name answer) ≡ false
listed_reads id name (answers.Found bytes) listed = cases (has_reading (record { name = name; bytes = bytes })) refl
  where
    cases : (read : Bool) → has_reading (record { name = name; bytes = bytes }) ≡ read → (not read || false) ≡ false
    cases true e = refl
    cases false e = absurd (false≢true (subst (λ (ids : List TxnId). IsTrue (is_listed id ids || false)) (ids_none (record { name = name; bytes = bytes }) e) listed))
listed_reads id name answer listed = refl

-- a look at a name that found nothing without a reading shows no damage
look_unspoilt : (by : By) (node inc : ℕ) (name got : List ℕ) (answer : KeeperAnswer) → name ≡ got → list_any (λ (pair : Pair). not (has_reading pair)) (found_pair name answer) ≡ false → spoilt_by by (Call node inc (calls.Get got) answer) ≡ []
look_unspoilt by node inc name got (answers.Found bytes) same read =
    subst (λ (unread : Bool). map (λ (p : Pair). p.name) (if unread then record { name = got; bytes = bytes } ∷ [] else []) ≡ []) (sym (subst (λ (n : List ℕ). (not (has_reading (record { name = n; bytes = bytes })) || false) ≡ false) same read)) refl
look_unspoilt by node inc name got answer same read = refl

-- ---- ends

-- how many claims an end comes of
abbrev claims_of : FoundEnd → ℕ
claims_of IsDeleted = 1
claims_of IsKept = 1
claims_of IsFaulty = 1
claims_of end = 0

claims_same : (end : FoundEnd) → weight is_end_deleted end + weight is_end_kept end + weight is_end_faulty end ≡ claims_of end
claims_same IsDeleted = refl
claims_same IsKept = refl
claims_same IsFaulty = refl
claims_same IsHeldBack = refl
claims_same IsLast = refl

counted_once : (end : FoundEnd) → is_last end ≡ false → weight is_end_deleted end + weight is_end_kept end + weight is_end_held end + weight is_end_faulty end ≡ 1
counted_once IsLast last = absurd (false≢true (sym last))
counted_once IsDeleted last = refl
counted_once IsKept last = refl
counted_once IsFaulty last = refl
counted_once IsHeldBack last = refl

module _ (by : By) where
  with_first : (end : FoundEnd) (n : ℕ) (line : List Turn) (way : Way) → is_last end ≡ false → Went by 0 0 0 n line way → Went by (weight is_end_deleted end) (weight is_end_faulty end) (claims_of end) (suc n) line (with_end end way)
  with_first end n line way last rest = record {
    made = rest.made;
    splits = rest.splits;
    unlisted = rest.unlisted;
    unfailed = rest.unfailed;
    undamaged = λ so. rest.undamaged (or_parts (is_last end) (is_cut_short way) so).1;
    deletes = (let a = tally_first is_end_deleted end way.ends in let b = rest.deletes in omega arith);
    faults = (let a = tally_first is_end_faulty end way.ends in let b = rest.faults in omega arith);
    claims = λ so. (let a = tally_first is_end_deleted end way.ends in let b = tally_first is_end_kept end way.ends in let c = tally_first is_end_faulty end way.ends in let e = claims_same end in let r = rest.claims (or_parts (is_last end) (is_cut_short way) so).1 in omega arith);
    whole = λ so. (let a = tally_first is_end_deleted end way.ends in let b = tally_first is_end_kept end way.ends in let c = tally_first is_end_held end way.ends in let d = tally_first is_end_faulty end way.ends in let e = counted_once end last in let r = rest.whole (or_parts (is_last end) (is_cut_short way) so).1 in omega arith);
  }

  -- the round ends there
  cut_here : (end : FoundEnd) (d f c n : ℕ) (line : List Turn) → is_last end ≡ true → weight is_end_deleted end ≡ d → weight is_end_faulty end ≡ f → Went by d f c n line (record { ends = end ∷ []; behind = line })
  cut_here end d f c n line last deleted faulty = record {
    made = [];
    splits = refl;
    unlisted = λ prefix. refl;
    unfailed = refl;
    undamaged = λ so. refl;
    deletes = (let a = tally_first is_end_deleted end [] in omega arith);
    faults = (let a = tally_first is_end_faulty end [] in omega arith);
    claims = λ so. absurd (false≢true (sym (or_parts (is_last end) false so).0 ∙ last));
    whole = λ so. absurd (false≢true (sym (or_parts (is_last end) false so).0 ∙ last));
  }

  -- one turn at the door before a way
  act_first : (place : ℕ) (act : DoorAct) (d f c d' f' c' n : ℕ) (line : List Turn) {way : Way} → ((prefix : List ℕ) → listed_in prefix act ≡ []) → is_failed_page act ≡ false → (is_cut_short way ≡ false → spoilt_by by act ≡ [])
      → d ≡ d' + weight is_deleting (AtDoor place act) → f ≡ f' + weight is_failing (AtDoor place act) → c ≡ c' + weight is_claiming (AtDoor place act) → Went by d f c n line way → Went by d' f' c' n (AtDoor place act ∷ line) way
  act_first place act d f c d' f' c' n line {way} unlisted unfailed unspoilt deleted faulty claimed rest = record {
    made = AtDoor place act ∷ rest.made;
    splits = ap (λ (l : List Turn). AtDoor place act ∷ l) rest.splits;
    unlisted = λ prefix. ap (λ (ps : List Pair). ps ++ names by prefix rest.made) (unlisted prefix) ∙ rest.unlisted prefix;
    unfailed = ap (λ (b : Bool). b || list_any (λ (entry : DoorEntry). is_failed_page entry.act) (entries by rest.made)) unfailed ∙ rest.unfailed;
    undamaged = λ so. ap (λ (ns : List (List ℕ)). ns ++ spoilt (entries by rest.made)) (unspoilt so) ∙ rest.undamaged so;
    deletes = (let a = tally_first is_deleting (AtDoor place act) rest.made in let r = rest.deletes in omega arith);
    faults = (let a = tally_first is_failing (AtDoor place act) rest.made in let r = rest.faults in omega arith);
    claims = λ so. (let a = tally_first is_claiming (AtDoor place act) rest.made in let r = rest.claims so in omega arith);
    whole = rest.whole;
  }

  -- what follows of all ways if a test passes
  if_all : (P : Way → Type 0) (passes : Bool) (some : List Way) → (IsTrue passes → All P some) → All P (if passes then some else [])
  if_all P true some all = all refl
  if_all P false some all = All-nil P

  -- ---- an end, and what follows

  abbrev Goes : ℕ → (List Turn → List Way) → Type 0
  Goes n go_on = (line : List Turn) → All (Went by 0 0 0 n line) (go_on line)

  module _ (end : FoundEnd) (c n : ℕ) (go_on : List Turn → List Way) (goes : Goes n go_on) (claimed : is_last end ≡ false → claims_of end ≡ c) (line : List Turn) where
    abbrev Ended : Way → Type 0
    Ended way = Went by (weight is_end_deleted end) (weight is_end_faulty end) c (suc n) line way

    end_so : (last : Bool) → is_last end ≡ last → All Ended (if last then record { ends = end ∷ []; behind = line } ∷ [] else map (with_end end) (go_on line))
    end_so true e = All-cons Ended (record { ends = end ∷ []; behind = line }) [] (cut_here end (weight is_end_deleted end) (weight is_end_faulty end) c (suc n) line e refl refl) (All-nil Ended)
    end_so false e = All-map Ended (with_end end) (go_on line) (All-weaker (Went by 0 0 0 n line) (λ way. Ended (with_end end way))
        (λ way went. subst (λ (k : ℕ). Went by (weight is_end_deleted end) (weight is_end_faulty end) k (suc n) line (with_end end way)) (claimed e) (with_first end n line way e went)) (go_on line) (goes line))

    end_goes : All Ended (ways_behind end go_on line)
    end_goes = end_so (is_last end) refl

  module _ (ends : Ends) (held : ends.is_shut_out the_office 0 ≡ false) (one : VersionAt) (n : ℕ) (go_on : List Turn → List Way) (goes : Goes n go_on) where
    -- where the office holds, what would follow if it didn't comes to nothing
    none_out : (P : Way → Type 0) (some : List Way) → All P (if ends.is_shut_out the_office 0 then some else [])
    none_out P some = subst (λ (out : Bool). All P (if out then some else [])) (sym held) (All-nil P)

    frees_goes : (end : FoundEnd) → (is_last end ≡ false → claims_of end ≡ 1) → (line : List Turn) → All (Went by (weight is_end_deleted end) (weight is_end_faulty end) 1 (suc n) line) (frees ends one end go_on line)
    frees_goes end claimed (AtDoor place (Release uuid node inc) ∷ line) =
        if_all (Went by (weight is_end_deleted end) (weight is_end_faulty end) 1 (suc n) (AtDoor place (Release uuid node inc) ∷ line)) (same_incarnation the_office (incarnation node inc) && bytes_eq one.id.uuid uuid) (ways_behind end go_on line)
        (λ own k other within. act_first place (Release uuid node inc) (weight is_end_deleted end) (weight is_end_faulty end) 1 (weight is_end_deleted end) (weight is_end_faulty end) 1 (suc n) line (λ prefix. refl) refl (λ so. refl) (omega arith) (omega arith) refl
        (end_goes end 1 n go_on goes claimed line k other within))
    frees_goes end claimed line = none_out (Went by (weight is_end_deleted end) (weight is_end_faulty end) 1 (suc n) line) (ways_behind end go_on line)

    -- each way that ends the round is cut short
    last_cut : (line : List Turn) → All (λ (way : Way). is_cut_short way ≡ true) (frees ends one IsLast go_on line)
    last_cut (AtDoor place (Release uuid node inc) ∷ line) =
        if_all (λ (way : Way). is_cut_short way ≡ true) (same_incarnation the_office (incarnation node inc) && bytes_eq one.id.uuid uuid) (record { ends = IsLast ∷ []; behind = line } ∷ [])
        (λ own. All-cons (λ (way : Way). is_cut_short way ≡ true) (record { ends = IsLast ∷ []; behind = line }) [] refl (All-nil (λ (way : Way). is_cut_short way ≡ true)))
    last_cut line = none_out (λ (way : Way). is_cut_short way ≡ true) (record { ends = IsLast ∷ []; behind = line } ∷ [])

    last_goes : (line : List Turn) → All (Went by 0 0 1 (suc n) line) (frees ends one IsLast go_on line)
    last_goes line = frees_goes IsLast (λ last. absurd (false≢true (sym last))) line

    -- ---- the delete

    deleted_weight : (place node inc : ℕ) (name : List ℕ) (answer : KeeperAnswer) → weight is_end_deleted (deleted_as answer) ≡ 0 + weight is_deleting (AtDoor place (Call node inc (calls.Delete name) answer))
    deleted_weight place node inc name answers.Done = refl
    deleted_weight place node inc name answer = refl

    failed_weight : (place node inc : ℕ) (name : List ℕ) (answer : KeeperAnswer) → weight is_end_faulty (deleted_as answer) ≡ 0 + weight is_failing (AtDoor place (Call node inc (calls.Delete name) answer))
    failed_weight place node inc name answers.Done = refl
    failed_weight place node inc name answer = refl

    deleted_claim : (answer : KeeperAnswer) → claims_of (deleted_as answer) ≡ 1
    deleted_claim answers.Done = refl
    deleted_claim answer = refl

    deletes_goes : (line : List Turn) → All (Went by 0 0 1 (suc n) line) (deletes_found ends one go_on line)
    deletes_goes (AtDoor place (Call node inc (calls.Delete name) answer) ∷ line) =
        if_all (Went by 0 0 1 (suc n) (AtDoor place (Call node inc (calls.Delete name) answer) ∷ line)) (same_incarnation the_office (incarnation node inc) && bytes_eq (version_name one.key one.id) name) (frees ends one (deleted_as answer) go_on line)
        (λ own k other within. act_first place (Call node inc (calls.Delete name) answer) (weight is_end_deleted (deleted_as answer)) (weight is_end_faulty (deleted_as answer)) 1 0 0 1 (suc n) line (λ prefix. refl) refl (λ so. refl)
        (deleted_weight place node inc name answer) (failed_weight place node inc name answer) refl (frees_goes (deleted_as answer) (λ last. deleted_claim answer) line k other within))
    deletes_goes line = All-append (Went by 0 0 1 (suc n) line) (frees ends one IsLast go_on line) (if ends.is_shut_out the_office 0 then frees ends one IsHeldBack go_on line else []) (last_goes line) (none_out (Went by 0 0 1 (suc n) line) (frees ends one IsHeldBack go_on line))

    -- ---- a look at a name

    module _ (name : List ℕ) (next : List Turn → List Way) (nexts : (line : List Turn) → All (Went by 0 0 1 (suc n) line) (next line)) where
      module _ (place node inc : ℕ) (got : List ℕ) (same : name ≡ got) (line : List Turn) where
        abbrev Looked : KeeperAnswer → Way → Type 0
        Looked answer way = Went by 0 0 1 (suc n) (AtDoor place (Call node inc (calls.Get got) answer) ∷ line) way

        -- a look that didn't fail
        shown_goes : (answer : KeeperAnswer) → 0 ≡ 0 + weight is_failing (AtDoor place (Call node inc (calls.Get got) answer)) → (listed : Bool) → list_any (λ (pair : Pair). is_listed one.id (ids_in pair)) (found_pair name answer) ≡ listed
            → (unread : Bool) → list_any (λ (pair : Pair). not (has_reading pair)) (found_pair name answer) ≡ unread
            → All (Looked answer) (if listed then frees ends one IsKept go_on line else if unread then frees ends one IsLast go_on line else next line ++ frees ends one IsLast go_on line)
        shown_goes answer none true l unread u = λ k other within. act_first place (Call node inc (calls.Get got) answer) 0 0 1 0 0 1 (suc n) line (λ prefix. refl) refl (λ so. look_unspoilt by node inc name got answer same (listed_reads one.id name answer l))
            refl none refl (frees_goes IsKept (λ last. refl) line k other within)
        shown_goes answer none false l true u = λ k other within. act_first place (Call node inc (calls.Get got) answer) 0 0 1 0 0 1 (suc n) line (λ prefix. refl) refl (λ so. absurd (false≢true (sym so ∙ last_cut line k other within)))
            refl none refl (last_goes line k other within)
        shown_goes answer none false l false u = λ k other within. act_first place (Call node inc (calls.Get got) answer) 0 0 1 0 0 1 (suc n) line (λ prefix. refl) refl (λ so. look_unspoilt by node inc name got answer same u)
            refl none refl (All-append (Went by 0 0 1 (suc n) line) (next line) (frees ends one IsLast go_on line) (nexts line) (last_goes line) k other within)

        look_goes : (answer : KeeperAnswer) → All (Looked answer) (behind_look ends one name answer next go_on line)
        look_goes answers.Failed = λ k other within. act_first place (Call node inc (calls.Get got) answers.Failed) 0 1 1 0 0 1 (suc n) line (λ prefix. refl) refl (λ so. refl) refl refl refl (frees_goes IsFaulty (λ last. refl) line k other within)
        look_goes answer = shown_goes answer refl (list_any (λ (pair : Pair). is_listed one.id (ids_in pair)) (found_pair name answer)) refl (list_any (λ (pair : Pair). not (has_reading pair)) (found_pair name answer)) refl

      looks_goes : (line : List Turn) → All (Went by 0 0 1 (suc n) line) (looks ends one name next go_on line)
      looks_goes (AtDoor place (Call node inc (calls.Get got) answer) ∷ line) =
          if_all (Went by 0 0 1 (suc n) (AtDoor place (Call node inc (calls.Get got) answer) ∷ line)) (same_incarnation the_office (incarnation node inc) && bytes_eq name got) (behind_look ends one name answer next go_on line)
          (λ own. look_goes place node inc got (same_bytes name got (and_parts (same_incarnation the_office (incarnation node inc)) (bytes_eq name got) own).1) line answer)
      looks_goes line = last_goes line

    -- ---- a version that was claimed

    works_goes : (line : List Turn) → All (Went by 0 0 1 (suc n) line) (works_on_found ends one go_on line)
    works_goes line = looks_goes (record_name one.id.uuid) (looks ends one (marker_name one.id.uuid) (deletes_found ends one go_on) go_on) (looks_goes (marker_name one.id.uuid) (deletes_found ends one go_on) deletes_goes) line

    claims_goes : (line : List Turn) → All (Went by 0 0 0 (suc n) line) (claims_found ends one go_on line)
    claims_goes (AtDoor place (Claim uuid node inc) ∷ line) =
        if_all (Went by 0 0 0 (suc n) (AtDoor place (Claim uuid node inc) ∷ line)) (same_incarnation the_office (incarnation node inc) && bytes_eq one.id.uuid uuid) (works_on_found ends one go_on line)
        (λ own k other within. act_first place (Claim uuid node inc) 0 0 1 0 0 0 (suc n) line (λ prefix. refl) refl (λ so. refl) refl refl refl (works_goes line k other within))
    claims_goes line = All-nil (Went by 0 0 0 (suc n) line)

  -- the ways for these versions
  pub ways_go : (ends : Ends) → ends.is_shut_out the_office 0 ≡ false → (found : List VersionAt) (line : List Turn) → All (Went by 0 0 0 (length found) line) (ways ends found line)
  ways_go ends held [] line = All-cons (Went by 0 0 0 0 line) (record { ends = []; behind = line }) [] (record {
    made = [];
    splits = refl;
    unlisted = λ prefix. refl;
    unfailed = refl;
    undamaged = λ so. refl;
    deletes = refl;
    faults = refl;
    claims = λ so. refl;
    whole = λ so. refl;
  }) (All-nil (Went by 0 0 0 0 line))
  ways_go ends held (one ∷ more) line =
      All-append (Went by 0 0 0 (suc (length more)) line) (claims_found ends one (ways ends more) line ++ ways_behind IsHeldBack (ways ends more) line) (ways_behind IsLast (ways ends more) line)
      (All-append (Went by 0 0 0 (suc (length more)) line) (claims_found ends one (ways ends more) line) (ways_behind IsHeldBack (ways ends more) line)
      (claims_goes ends held one (length more) (ways ends more) (ways_go ends held more) line) (end_goes IsHeldBack 0 (length more) (ways ends more) (ways_go ends held more) (λ last. refl) line))
      (end_goes IsLast 0 (length more) (ways ends more) (ways_go ends held more) (λ last. refl) line)
