-- What a forget is answered: by what the gets of the UUID's record and marker showed its line, and by its delete of the marker.
use Rattle.std.proofs.Common.{◌≡◌, ◌≤◌, ◌++◌, ◌+◌, ℕ, Bool, true, false, eqb, ◌&&◌, ◌||◌, not, List, [], ◌∷◌, length, map, filter, refl, sym, ap, subst, ◌∙◌, inl, inr, ◌⊎◌, arith, length-append}
use Rattle.std.specs.Prelude.{IsTrue, Option, Some, None, Result, Ok, Err, if◌then◌else◌, nat_lt}
use Rattle.std.specs.List.{flat_map, list_any}
use Rattle.std.specs.Str.{bytes_eq}
use Rattle.std.proofs.lemmas.List.{length-map}
use Rattle.std.proofs.lemmas.Bool.{and_from, and_parts, eqb-true, false≢true, or_cases, or_left, or_right, true_from_ne_false}
use Rattle.aft_id.specs.declared.txn_id.TxnId.{TxnId}
use Rattle.aft_id.specs.TxnId.{same_id}
use Rattle.aft_keeper.specs.declared.keeper.KeeperAnswer.{KeeperAnswer}
use Rattle.aft_keeper.specs.declared.keeper.KeeperAnswer.TheVariants as answers
use Rattle.aft_keeper.specs.declared.keeper.KeeperCall.TheVariants as calls
use Rattle.aft_keeper.specs.declared.keeper.Pair.{Pair}
use Rattle.aft_records.specs.declared.fault.RecordFault.{RecordFault}
use Rattle.aft_records.specs.declared.stored.Commit.{Commit}
use Rattle.aft_records.specs.declared.stored.Marker.{Marker}
use Rattle.aft_records.specs.declared.stored.Marker.TheVariants.{Done, Full}
use Rattle.aft_records.specs.Commits.{ids_of, is_listed}
use Rattle.aft_records.specs.Reading.{commit_of, marker_of}
use Rattle.aft_model.specs.declared.caller.Attempt.{Attempt}
use Rattle.aft_model.specs.declared.caller.By.{By}
use Rattle.aft_model.specs.declared.door.DoorAct.{DoorAct}
use Rattle.aft_model.specs.declared.door.DoorAct.TheVariants.{Call, Claim, Release}
use Rattle.aft_model.specs.declared.door.DoorEntry.{DoorEntry}
use Rattle.aft_model.specs.declared.node.NodeAct.{NodeAct}
use Rattle.aft_model.specs.declared.node.NodeAct.TheVariants.{Admit, Nothing}
use Rattle.aft_model.specs.declared.node.NodeEntry.{NodeEntry}
use Rattle.aft_model.specs.declared.reply.Reply.{Reply}
use Rattle.aft_model.specs.declared.reply.Reply.TheVariants as replies
use Rattle.aft_model.specs.declared.script.Command.TheVariants.{Forget}
use Rattle.aft_model.specs.Attempts.{present_of}
use Rattle.aft_model.specs.Committed.{done_by, marks_in, retired_by, shorts_in}
use Rattle.aft_model.specs.DoorKnowledge.{claims, deletes, finds_absent, knows_unused}
use Rattle.aft_model.specs.Evidence.{pairs_by, shown_pairs}
use Rattle.aft_model.specs.History.{first_of, followed}
use Rattle.aft_model.specs.LegalNode.{may_be_done, may_follow_at}
use Rattle.aft_model.specs.Membership.{Incarnation, incarnation, same_incarnation}
use Rattle.aft_model.specs.NodeRules.{may_admit}
use Rattle.aft_model.specs.NodeState.{Service, in_service, service}
use Rattle.aft_model.specs.Opening.{has_failed, is_failure}
use Rattle.aft_model.specs.Readings.{has_reading, id_of_marker, marker_name, markers_in, read_under, record_name, records_in, versions_in}
use Rattle.aft_model.specs.Replies.{is_silent}
use Rattle.aft_model.specs.Sound.{markers_prefix, records_prefix}
use Rattle.aft_model.proofs.Ids.{same_ids}
use Rattle.aft_model.proofs.Sights.{same_bytes}
use Rattle.aft_lines.specs.BeginCourse.{Beginning, admitted_course, after_get, claim_course, ends_given_back, gets_own, gives_back, record_course, release_begun}
use Rattle.aft_lines.specs.Causes.{ExactlyCaused, cause}
use Rattle.aft_lines.specs.CausesBegins.{deletes_marker, has_attempt, is_busy_here, is_held_elsewhere, kept_ids}
use Rattle.aft_lines.specs.CausesScans.{damage_in, is_damage, is_written_name, listed_in, written_name}
use Rattle.aft_lines.specs.CourseWords.{Ends, any_answer, caller_of, closes, ends_shut_out, tells_down, tells_no_memory, tells_refused, tells_unclaimed}
use Rattle.aft_lines.specs.ForgetCourse.{after_marker, delete_course, finds_short, forget_course, short_course}
use Rattle.aft_lines.specs.LegalTrace.{node_words, turn_words}
use Rattle.aft_lines.specs.LineView.{LineView, ends_of, newest_here, went_on}
use Rattle.aft_lines.specs.Turns.{AtDoor, AtNode, AtOffice, Turn}
use Rattle.law_answers.specs.Courses.{carries_its_words, keeps_its_course, keeps_rules}
use Rattle.law_answers.proofs.Gets.{read_few}
use Rattle.law_answers.proofs.Scans.{damaged, entries, many}
use Rattle.law_answers.proofs.Served.{never_served}
use Rattle.law_answers.proofs.Starts.{quiet}
use Rattle.law_answers.proofs.Settled.{Settles, by_turns_and, with_turns}

-- ---- what entries tell a forget

-- what a forget of a UUID is told by what it did at the door
record Tells (asked : List ℕ) (done : List DoorEntry) (answer : Option Reply) : Type 0 where
  failed : IsTrue (has_failed done) → None ≡ answer
  damage : (written : List ℕ) → IsTrue (is_written_name written (first_of (flat_map (damage_in None) done))) → Some (replies.Damaged written) ≡ answer
  kept : (id : TxnId) → IsTrue (list_any (λ pair. is_listed id (kept_ids pair)) (flat_map shown_pairs done)) → Some (replies.Kept id) ≡ answer
  forgot : (id : TxnId) → IsTrue (followed (λ entry. list_any (λ pair. is_listed id (shorts_in pair)) (shown_pairs entry)) (list_any (deletes_marker id)) done) → Some (replies.Forgot id) ≡ answer
  unused : (who : Incarnation) → IsTrue (knows_unused who asked done) → Some (replies.Unknown asked) ≡ answer
  few : (nat_lt 20000 (length (flat_map (λ (entry : DoorEntry). listed_in records_prefix entry.act) done)) || nat_lt 20000 (length (flat_map (λ (entry : DoorEntry). listed_in markers_prefix entry.act) done))) ≡ false

nothing_tells : (asked : List ℕ) → Tells asked [] None
nothing_tells asked = record {
  failed = λ is. absurd (false≢true is);
  damage = λ written is. absurd (false≢true is);
  kept = λ id is. absurd (false≢true is);
  forgot = λ id is. absurd (false≢true is);
  unused = λ who is. absurd (false≢true is);
  few = refl;
}

module _ (view : LineView) (asked : List ℕ) (at node : ℕ) (before : List NodeEntry) (entry : NodeEntry) (rest : List Turn) (answer : Option Reply) where
  abbrev here : LineView
  here = with_turns view (Forget asked at) (AtNode node before entry ∷ rest)

  -- a forget that is told so, where none of its UUID's being held or forgotten tells it anything else
  forget_settles : Tells asked (entries view.by rest) answer → ((which inc : ℕ) → IsTrue (cause here (replies.Busy which inc)) → None ≡ answer) → ((uuid : List ℕ) → IsTrue (cause here (replies.Forgotten uuid)) → None ≡ answer) → Settles here answer
  forget_settles tells busy forgotten (replies.Forgot id) caused = inr (tells.forgot id caused)
  forget_settles tells busy forgotten (replies.Kept id) caused = inr (tells.kept id caused)
  forget_settles tells busy forgotten (replies.Unknown uuid) caused =
      let parts = and_parts (bytes_eq uuid asked) (knows_unused (incarnation at (newest_here here)) asked (entries view.by rest)) caused in
      inr (ap (λ (u : List ℕ). Some (replies.Unknown u)) (same_bytes uuid asked parts.0) ∙ tells.unused (incarnation at (newest_here here)) parts.1)
  forget_settles tells busy forgotten (replies.Damaged written) caused = inr (tells.damage written (and_parts (is_written_name written (first_of (damaged view.by rest))) (not (many view.by rest)) caused).0)
  forget_settles tells busy forgotten replies.StoreFault caused = inr (tells.failed caused)
  forget_settles tells busy forgotten replies.TooManyRecords caused = absurd (false≢true (sym tells.few ∙ caused))
  forget_settles tells busy forgotten (replies.Busy which inc) caused = inr (busy which inc caused)
  forget_settles tells busy forgotten (replies.Forgotten uuid) caused = inr (forgotten uuid caused)
  forget_settles tells busy forgotten (replies.NodeDown which inc) caused = inl refl
  forget_settles tells busy forgotten replies.Committing caused = absurd (never_served view.hold.attempt (service before) caused)
  forget_settles tells busy forgotten replies.NoMemory caused = inl refl
  forget_settles tells busy forgotten reply caused = absurd (false≢true caused)

-- ---- what is shown

-- under the name of a record no marker is read, and under that of a marker no record
pub no_marker : (uuid : List ℕ) (result : Result Marker RecordFault) → read_under (record_name uuid) (λ (m : Marker). marker_name (id_of_marker m).uuid) result ≡ []
no_marker uuid (Ok m) = refl
no_marker uuid (Err e) = refl

pub no_record : (uuid : List ℕ) (result : Result Commit RecordFault) → read_under (marker_name uuid) (λ (c : Commit). record_name c.id.uuid) result ≡ []
no_record uuid (Ok c) = refl
no_record uuid (Err e) = refl

-- what the pair of a get tells, by the ids that it keeps and whether it has a reading
abbrev told_pair : List ℕ → List TxnId → Bool → Option Reply
told_pair name (id ∷ ids) has = Some (replies.Kept id)
told_pair name [] true = None
told_pair name [] false = Some (replies.Damaged (written_name name))

abbrev told_by_pair : Pair → Option Reply
told_by_pair pair = told_pair pair.name (kept_ids pair) (has_reading pair)

-- the ids that are kept: at most one under each name
few_kept : (pair : Pair) → length (records_in pair) + length (marks_in pair) ≤ 1 → length (kept_ids pair) ≤ 1
few_kept pair few = omega (arith, length-map (records_in pair ++ marks_in pair) (λ (c : Commit). c.id), length-append (records_in pair) (marks_in pair))

kept_told : (name : List ℕ) (ids : List TxnId) (has : Bool) (id : TxnId) → length ids ≤ 1 → IsTrue (is_listed id ids) → Some (replies.Kept id) ≡ told_pair name ids has
kept_told name [] has id few is = absurd (false≢true is)
kept_told name (its ∷ []) has id few is = elim (or_cases (same_id id its) false is) [
  | inl same ↦ ap (λ (i : TxnId). Some (replies.Kept i)) (same_ids id its same)
  | inr none ↦ absurd (false≢true none)
]
kept_told name (its ∷ other ∷ ids) has id few is = absurd (omega arith)

damage_told : (name : List ℕ) (ids : List TxnId) (has : Bool) (written : List ℕ) → (has ≡ false → ids ≡ []) → IsTrue (is_written_name written (first_of ((map (λ (p : List ℕ). p) (if not has || false then name ∷ [] else [])) ++ []))) → Some (replies.Damaged written) ≡ told_pair name ids has
damage_told name ids true written none is = absurd (false≢true is)
damage_told name ids false written none is = ap (λ (n : List ℕ). Some (replies.Damaged n)) (same_bytes written (written_name name) is) ∙ sym (ap (λ (i : List TxnId). told_pair name i false) (none refl))

pair_keeps : (pair : Pair) → length (records_in pair) + length (marks_in pair) ≤ 1 → (id : TxnId) → IsTrue (list_any (λ (p : Pair). is_listed id (kept_ids p)) (pair ∷ [])) → Some (replies.Kept id) ≡ told_by_pair pair
pair_keeps pair few id is = elim (or_cases (is_listed id (kept_ids pair)) false is) [
  | inl there ↦ kept_told pair.name (kept_ids pair) (has_reading pair) id (few_kept pair few) there
  | inr none ↦ absurd (false≢true none)
]

-- what has no reading keeps nothing
unread_keeps : (pair : Pair) → has_reading pair ≡ false → kept_ids pair ≡ []
unread_keeps pair e =
    let sum : length (records_in pair) + length (markers_in pair) + length (versions_in pair) ≡ 0 = eqb-true (length (records_in pair) + length (markers_in pair) + length (versions_in pair)) 0 (true_from_ne_false _ (λ f. false≢true (sym e ∙ ap not f))) in
    let r : records_in pair ≡ [] = no_length (records_in pair) (omega arith) in
    let m : markers_in pair ≡ [] = no_length (markers_in pair) (omega arith) in
    ap (λ (cs : List Commit). ids_of (cs ++ marks_in pair)) r ∙ ap (λ (ms : List Marker). ids_of (flat_map retired_by ms)) m
  where
    no_length : {A : Type 0} (xs : List A) → length xs ≡ 0 → xs ≡ []
    no_length [] none = refl
    no_length (x ∷ xs) none = absurd (omega arith)

pair_damages : (pair : Pair) (written : List ℕ) → IsTrue (is_written_name written (first_of (map (λ (p : Pair). p.name) (filter (is_damage None) (pair ∷ [])) ++ []))) → Some (replies.Damaged written) ≡ told_by_pair pair
pair_damages pair written is = cases (has_reading pair) refl is
  where
    cases : (has : Bool) → has_reading pair ≡ has → IsTrue (is_written_name written (first_of (map (λ (p : Pair). p.name) (if not has || false then pair ∷ [] else []) ++ []))) → Some (replies.Damaged written) ≡ told_pair pair.name (kept_ids pair) (has_reading pair)
    cases true e is = absurd (false≢true is)
    cases false e is = ap (λ (n : List ℕ). Some (replies.Damaged n)) (same_bytes written (written_name pair.name) is) ∙ sym (ap (λ (i : List TxnId). told_pair pair.name i (has_reading pair)) (unread_keeps pair e) ∙ ap (λ (b : Bool). told_pair pair.name [] b) e)

few_marks : (markers : List Marker) → length markers ≤ 1 → length (flat_map retired_by markers) ≤ 1
few_marks [] few = omega arith
few_marks (Full c ∷ []) few = omega arith
few_marks (Done id ∷ []) few = omega arith
few_marks (m ∷ n ∷ markers) few = absurd (omega arith)

record_few : (uuid bytes : List ℕ) → length (records_in (record { name = record_name uuid; bytes = bytes })) + length (marks_in (record { name = record_name uuid; bytes = bytes })) ≤ 1
record_few uuid bytes =
    let r = read_few (record_name uuid) (λ (c : Commit). record_name c.id.uuid) (commit_of bytes) in
    let m : length (marks_in (record { name = record_name uuid; bytes = bytes })) ≡ 0 = ap (λ (ms : List Marker). length (flat_map retired_by ms)) (no_marker uuid (marker_of bytes)) in
    omega arith

marker_few : (uuid bytes : List ℕ) → length (records_in (record { name = marker_name uuid; bytes = bytes })) + length (marks_in (record { name = marker_name uuid; bytes = bytes })) ≤ 1
marker_few uuid bytes =
    let r : length (records_in (record { name = marker_name uuid; bytes = bytes })) ≡ 0 = ap (λ (cs : List Commit). length cs) (no_record uuid (commit_of bytes)) in
    let m = few_marks (markers_in (record { name = marker_name uuid; bytes = bytes })) (read_few (marker_name uuid) (λ (k : Marker). marker_name (id_of_marker k).uuid) (marker_of bytes)) in
    omega arith

-- ---- deletes and absences

-- what follows something is there
follows_any : (first : DoorEntry → Bool) (test : DoorEntry → Bool) (done : List DoorEntry) → IsTrue (followed first (list_any test) done) → IsTrue (list_any test done)
follows_any first test [] is = is
follows_any first test (e ∷ done) is = elim (or_cases (first e && list_any test done) (followed first (list_any test) done) is) [
  | inl here ↦ or_right _ _ (and_parts (first e) (list_any test done) here).1
  | inr later ↦ or_right _ _ (follows_any first test done later)
]

-- a get that found nothing, whatever its name
abbrev pub is_absence : DoorAct → Bool
is_absence (Call node inc (calls.Get name) answers.Absent) = true
is_absence act = false

absence_so : (who : Incarnation) (name : List ℕ) (act : DoorAct) → IsTrue (finds_absent who name act) → IsTrue (is_absence act)
absence_so who name (Call node inc (calls.Get got) answers.Absent) is = refl
absence_so who name act is = absurd (false≢true is)

-- two of them, one behind the other
abbrev pub two_absences : List DoorEntry → Bool
two_absences done = followed (λ entry. is_absence entry.act) (λ later. list_any (λ entry. is_absence entry.act) later) done

one_absence : (who : Incarnation) (name : List ℕ) (done : List DoorEntry) → IsTrue (followed (λ entry. finds_absent who name entry.act) (λ rest. true) done) → IsTrue (list_any (λ entry. is_absence entry.act) done)
one_absence who name [] is = is
one_absence who name (e ∷ done) is = elim (or_cases (finds_absent who name e.act && true) (followed (λ entry. finds_absent who name entry.act) (λ rest. true) done) is) [
  | inl here ↦ or_left _ _ (absence_so who name e.act (and_parts (finds_absent who name e.act) true here).0)
  | inr later ↦ or_right _ _ (one_absence who name done later)
]

both_absent : (who : Incarnation) (uuid : List ℕ) (done : List DoorEntry) → IsTrue (followed (λ entry. finds_absent who (record_name uuid) entry.act) (followed (λ entry. finds_absent who (marker_name uuid) entry.act) (λ rest. true)) done) → IsTrue (two_absences done)
both_absent who uuid [] is = is
both_absent who uuid (e ∷ done) is = elim (or_cases (finds_absent who (record_name uuid) e.act && followed (λ entry. finds_absent who (marker_name uuid) entry.act) (λ rest. true) done) (followed (λ entry. finds_absent who (record_name uuid) entry.act) (followed (λ entry. finds_absent who (marker_name uuid) entry.act) (λ rest. true)) done) is) [
  | inl here ↦ (let parts = and_parts (finds_absent who (record_name uuid) e.act) (followed (λ entry. finds_absent who (marker_name uuid) entry.act) (λ rest. true) done) here in
      or_left _ _ (and_from _ _ (absence_so who (record_name uuid) e.act parts.0) (one_absence who (marker_name uuid) done parts.1)))
  | inr later ↦ or_right _ _ (both_absent who uuid done later)
]

pub unused_absences : (who : Incarnation) (uuid : List ℕ) (done : List DoorEntry) → IsTrue (knows_unused who uuid done) → IsTrue (two_absences done)
unused_absences who uuid [] is = is
unused_absences who uuid (e ∷ done) is = elim (or_cases (claims who uuid e.act && followed (λ entry. finds_absent who (record_name uuid) entry.act) (followed (λ entry. finds_absent who (marker_name uuid) entry.act) (λ rest. true)) done) (followed (λ entry. claims who uuid entry.act) (followed (λ entry. finds_absent who (record_name uuid) entry.act) (followed (λ entry. finds_absent who (marker_name uuid) entry.act) (λ rest. true))) done) is) [
  | inl here ↦ or_right _ _ (both_absent who uuid done (and_parts (claims who uuid e.act) _ here).1)
  | inr later ↦ or_right _ _ (unused_absences who uuid done later)
]

-- ---- what each line of a forget that claimed did at the door

pub last_false : (x : Bool) → IsTrue ((x && false) || false) → ⊥
last_false true is = false≢true is
last_false false is = false≢true is

abbrev told_get : List ℕ → KeeperAnswer → Option Reply
told_get name (answers.Found bytes) = told_by_pair (record { name = name; bytes = bytes })
told_get name answer = None

abbrev told_marker : List ℕ → List ℕ → KeeperAnswer → Option Reply
told_marker asked name answers.Absent = Some (replies.Unknown asked)
told_marker asked name answer = told_get name answer

abbrev told_short : List TxnId → Option Reply
told_short (id ∷ ids) = Some (replies.Forgot id)
told_short [] = None

abbrev told_delete : List TxnId → KeeperAnswer → Option Reply
told_delete ids answers.Done = told_short ids
told_delete ids answer = None

pub get_fails : (node inc : ℕ) (name : List ℕ) (answer : KeeperAnswer) → IsTrue (is_failure (Call node inc (calls.Get name) answer) || false) → None ≡ told_get name answer
get_fails node inc name answers.Failed is = refl
get_fails node inc name answer is = absurd (false≢true is)

get_keeps : (name : List ℕ) → ((bytes : List ℕ) → length (records_in (record { name = name; bytes = bytes })) + length (marks_in (record { name = name; bytes = bytes })) ≤ 1) → (answer : KeeperAnswer) (id : TxnId) → IsTrue (list_any (λ (p : Pair). is_listed id (kept_ids p)) (pairs_by (calls.Get name) answer ++ [])) → Some (replies.Kept id) ≡ told_get name answer
get_keeps name few (answers.Found bytes) id is = pair_keeps (record { name = name; bytes = bytes }) (few bytes) id is
get_keeps name few answer id is = absurd (false≢true is)

get_damages : (name : List ℕ) (answer : KeeperAnswer) (written : List ℕ) → IsTrue (is_written_name written (first_of (map (λ (p : Pair). p.name) (filter (is_damage None) (pairs_by (calls.Get name) answer)) ++ []))) → Some (replies.Damaged written) ≡ told_get name answer
get_damages name (answers.Found bytes) written is = pair_damages (record { name = name; bytes = bytes }) written is
get_damages name answer written is = absurd (false≢true is)

module _ (asked : List ℕ) (by : By) (claimed : List ℕ) (claimer its : ℕ) where
  abbrev did : DoorAct → DoorEntry
  did act = record { by = by; act = act }

  abbrev claim : DoorEntry
  claim = did (Claim claimed claimer its)

  claim_tells : Tells asked (claim ∷ []) None
  claim_tells = record {
    failed = λ is. refl;
    damage = λ written is. absurd (false≢true is);
    kept = λ id is. absurd (false≢true is);
    forgot = λ id is. absurd (false≢true is);
    unused = λ who is. absurd (false≢true (unused_absences who asked (claim ∷ []) is));
    few = refl;
  }

  module _ (node inc : ℕ) (name : List ℕ) (few_there : (bytes : List ℕ) → length (records_in (record { name = name; bytes = bytes })) + length (marks_in (record { name = name; bytes = bytes })) ≤ 1) (answer : KeeperAnswer) where
    abbrev got : DoorEntry
    got = did (Call node inc (calls.Get name) answer)

    get_tells : Tells asked (claim ∷ got ∷ []) (told_get name answer)
    get_tells = record {
      failed = get_fails node inc name answer;
      damage = get_damages name answer;
      kept = get_keeps name few_there answer;
      forgot = λ id is. absurd (false≢true (follows_any (λ entry. list_any (λ pair. is_listed id (shorts_in pair)) (shown_pairs entry)) (deletes_marker id) (claim ∷ got ∷ []) is));
      unused = λ who is. absurd (last_false (is_absence (Call node inc (calls.Get name) answer)) (unused_absences who asked (claim ∷ got ∷ []) is));
      few = refl;
    }

  module _ (first_node first_inc : ℕ) (first : List ℕ) (node inc : ℕ) (name : List ℕ) (few_there : (bytes : List ℕ) → length (records_in (record { name = name; bytes = bytes })) + length (marks_in (record { name = name; bytes = bytes })) ≤ 1) where
    abbrev absent : DoorEntry
    absent = did (Call first_node first_inc (calls.Get first) answers.Absent)

    marker_fails : (answer : KeeperAnswer) → IsTrue (is_failure (Call node inc (calls.Get name) answer) || false) → None ≡ told_marker asked name answer
    marker_fails answers.Absent is = absurd (false≢true is)
    marker_fails answer is = get_fails node inc name answer is

    marker_keeps : (answer : KeeperAnswer) (id : TxnId) → IsTrue (list_any (λ (p : Pair). is_listed id (kept_ids p)) (pairs_by (calls.Get name) answer ++ [])) → Some (replies.Kept id) ≡ told_marker asked name answer
    marker_keeps answers.Absent id is = absurd (false≢true is)
    marker_keeps answer id is = get_keeps name few_there answer id is

    marker_damages : (answer : KeeperAnswer) (written : List ℕ) → IsTrue (is_written_name written (first_of (map (λ (p : Pair). p.name) (filter (is_damage None) (pairs_by (calls.Get name) answer)) ++ []))) → Some (replies.Damaged written) ≡ told_marker asked name answer
    marker_damages answers.Absent written is = absurd (false≢true is)
    marker_damages answer written is = get_damages name answer written is

    marker_unused : (answer : KeeperAnswer) → IsTrue (two_absences (claim ∷ absent ∷ did (Call node inc (calls.Get name) answer) ∷ [])) → Some (replies.Unknown asked) ≡ told_marker asked name answer
    marker_unused answers.Absent is = refl
    marker_unused answer is = absurd (false≢true is)

    marker_tells : (answer : KeeperAnswer) → Tells asked (claim ∷ absent ∷ did (Call node inc (calls.Get name) answer) ∷ []) (told_marker asked name answer)
    marker_tells answer = record {
      failed = marker_fails answer;
      damage = marker_damages answer;
      kept = marker_keeps answer;
      forgot = λ id is. absurd (false≢true (follows_any (λ entry. list_any (λ pair. is_listed id (shorts_in pair)) (shown_pairs entry)) (deletes_marker id) (claim ∷ absent ∷ did (Call node inc (calls.Get name) answer) ∷ []) is));
      unused = λ who is. marker_unused answer (unused_absences who asked (claim ∷ absent ∷ did (Call node inc (calls.Get name) answer) ∷ []) is);
      few = refl;
    }

-- ---- a short marker and its delete

few_shorts : (markers : List Marker) → length markers ≤ 1 → length (flat_map done_by markers) ≤ 1
few_shorts [] few = omega arith
few_shorts (Full c ∷ []) few = omega arith
few_shorts (Done id ∷ []) few = omega arith
few_shorts (m ∷ n ∷ markers) few = absurd (omega arith)

short_marks_not : (test : TxnId → Bool) (markers : List Marker) → length markers ≤ 1 → IsTrue (list_any test (flat_map done_by markers)) → flat_map retired_by markers ≡ []
short_marks_not test [] few is = refl
short_marks_not test (Full c ∷ []) few is = absurd (false≢true is)
short_marks_not test (Done id ∷ []) few is = refl
short_marks_not test (m ∷ n ∷ markers) few is = absurd (omega arith)

short_there : (test : TxnId → Bool) (markers : List Marker) → IsTrue (list_any test (flat_map done_by markers)) → length markers ≡ 0 → ⊥
short_there test [] is none = false≢true is
short_there test (m ∷ markers) is none = absurd (omega arith)

short_told : (id : TxnId) (ids : List TxnId) → length ids ≤ 1 → IsTrue (is_listed id ids) → Some (replies.Forgot id) ≡ told_short ids
short_told id [] few is = absurd (false≢true is)
short_told id (its ∷ []) few is = elim (or_cases (same_id id its) false is) [
  | inl same ↦ ap (λ (i : TxnId). Some (replies.Forgot i)) (same_ids id its same)
  | inr none ↦ absurd (false≢true none)
]
short_told id (its ∷ other ∷ ids) few is = absurd (omega arith)

forgot_so : (id : TxnId) (ids : List TxnId) (name deleted : List ℕ) (node inc : ℕ) (answer : KeeperAnswer) → length ids ≤ 1 → IsTrue (is_listed id ids) → IsTrue (deletes name (Call node inc (calls.Delete deleted) answer)) → Some (replies.Forgot id) ≡ told_delete ids answer
forgot_so id ids name deleted node inc answers.Done few is done = short_told id ids few is
forgot_so id ids name deleted node inc answer few is done = absurd (false≢true done)

delete_fails : (ids : List TxnId) (node inc : ℕ) (deleted : List ℕ) (answer : KeeperAnswer) → IsTrue (is_failure (Call node inc (calls.Delete deleted) answer) || false) → None ≡ told_delete ids answer
delete_fails ids node inc deleted answers.Failed is = refl
delete_fails ids node inc deleted answer is = absurd (false≢true is)

module _ (asked : List ℕ) (by : By) (claimed : List ℕ) (claimer its : ℕ) (first_node first_inc : ℕ) (first : List ℕ) (node inc : ℕ) (uuid bytes : List ℕ) (short : IsTrue (finds_short uuid (answers.Found bytes))) (at_node at_inc : ℕ) (deleted : List ℕ) (answer : KeeperAnswer) where
  abbrev pair : Pair
  pair = record { name = marker_name uuid; bytes = bytes }

  few_markers : length (markers_in pair) ≤ 1
  few_markers = read_few (marker_name uuid) (λ (k : Marker). marker_name (id_of_marker k).uuid) (marker_of bytes)

  its_short : IsTrue (list_any (λ id. bytes_eq uuid id.uuid) (shorts_in pair))
  its_short = elim (or_cases (list_any (λ id. bytes_eq uuid id.uuid) (shorts_in pair)) false short) [
    | inl there ↦ there
    | inr none ↦ absurd (false≢true none)
  ]

  keeps_none : kept_ids pair ≡ []
  keeps_none = ap (λ (cs : List Commit). ids_of (cs ++ marks_in pair)) (no_record uuid (commit_of bytes)) ∙ ap ids_of (short_marks_not (λ id. bytes_eq uuid id.uuid) (markers_in pair) few_markers its_short)

  is_read : has_reading pair ≡ false → ⊥
  is_read e =
      let sum : length (records_in pair) + length (markers_in pair) + length (versions_in pair) ≡ 0 = eqb-true (length (records_in pair) + length (markers_in pair) + length (versions_in pair)) 0 (true_from_ne_false _ (λ f. false≢true (sym e ∙ ap not f))) in
      short_there (λ id. bytes_eq uuid id.uuid) (markers_in pair) its_short (omega arith)

  undamaged : (written : List ℕ) (has : Bool) → has_reading pair ≡ has → IsTrue (is_written_name written (first_of (map (λ (p : Pair). p.name) (if not has || false then pair ∷ [] else []) ++ []))) → ⊥
  undamaged written true e is = false≢true is
  undamaged written false e is = is_read e

  abbrev deleting : List DoorEntry
  deleting = record { by = by; act = Claim claimed claimer its } ∷ record { by = by; act = Call first_node first_inc (calls.Get first) answers.Absent } ∷ record { by = by; act = Call node inc (calls.Get (marker_name uuid)) (answers.Found bytes) } ∷ record { by = by; act = Call at_node at_inc (calls.Delete deleted) answer } ∷ []

  forgot_told : (id : TxnId) → IsTrue (((list_any (λ (p : Pair). is_listed id (shorts_in p)) (pair ∷ [])) && (deletes (marker_name id.uuid) (Call at_node at_inc (calls.Delete deleted) answer) || false)) || false) → Some (replies.Forgot id) ≡ told_delete (shorts_in pair) answer
  forgot_told id is = elim (or_cases ((is_listed id (shorts_in pair) || false) && (deletes (marker_name id.uuid) (Call at_node at_inc (calls.Delete deleted) answer) || false)) false is) [
    | inl both ↦ (let parts = and_parts (is_listed id (shorts_in pair) || false) (deletes (marker_name id.uuid) (Call at_node at_inc (calls.Delete deleted) answer) || false) both in
        forgot_so id (shorts_in pair) (marker_name id.uuid) deleted at_node at_inc answer (few_shorts (markers_in pair) few_markers) (only (is_listed id (shorts_in pair)) parts.0) (only (deletes (marker_name id.uuid) (Call at_node at_inc (calls.Delete deleted) answer)) parts.1))
    | inr none ↦ absurd (false≢true none)
  ]
    where
      only : (b : Bool) → IsTrue (b || false) → IsTrue b
      only true is = refl
      only false is = is

  delete_tells : Tells asked deleting (told_delete (shorts_in pair) answer)
  delete_tells = record {
    failed = delete_fails (shorts_in pair) at_node at_inc deleted answer;
    damage = λ written is. absurd (undamaged written (has_reading pair) refl is);
    kept = λ id is. absurd (false≢true (subst (λ (ids : List TxnId). IsTrue (is_listed id ids || false)) keeps_none is));
    forgot = forgot_told;
    unused = λ who is. absurd (false≢true (unused_absences who asked deleting is));
    few = refl;
  }

-- ---- any forget

-- the turns behind a line's calls: nothing more at the door, or a release
abbrev pub Tail : By → List Turn → Type 0
Tail by line = (entries by line ≡ []) ⊎ ((uuid : List ℕ) × (node : ℕ) × (inc : ℕ) × (entries by line ≡ record { by = by; act = Release uuid node inc } ∷ []))

pub released_tail : (by : By) (ends : Ends) (begun : Beginning) (test : Option Reply → Bool) (line : List Turn) → IsTrue (release_begun ends begun test line) → Tail by line
released_tail by ends begun test (AtDoor place (Release uuid node inc) ∷ line) follows =
    inr (uuid, node, inc, ap (λ (es : List DoorEntry). record { by = by; act = Release uuid node inc } ∷ es) (quiet by begun.attempt.node (closes ends begun.attempt.inc (gives_back begun.attempt test)) line (and_parts (same_incarnation (caller_of begun.attempt) (incarnation node inc) && bytes_eq begun.uuid uuid) (ends_given_back ends begun test line) follows).1))
released_tail by ends begun test line follows = inl (quiet by begun.attempt.node (closes ends begun.attempt.inc (gives_back begun.attempt tells_down)) line (and_parts (ends_given_back ends begun tells_down line) (ends_shut_out ends (caller_of begun.attempt) line) follows).0)

with_tail : (asked : List ℕ) (by : By) (front : List DoorEntry → List DoorEntry) (answer : Option Reply) → Tells asked (front []) answer → ((uuid : List ℕ) (node inc : ℕ) → Tells asked (front (record { by = by; act = Release uuid node inc } ∷ [])) answer) → (line : List Turn) → Tail by line → Tells asked (front (entries by line)) answer
with_tail asked by front answer bare released line tail = elim tail [
  | inl none ↦ subst (λ (es : List DoorEntry). Tells asked (front es) answer) (sym none) bare
  | inr one ↦ subst (λ (es : List DoorEntry). Tells asked (front es) answer) (sym one.3) (released one.0 one.1 one.2)
]

-- where no attempt of a UUID is there, none makes a forget busy
no_attempt : (uuid : List ℕ) (inc : ℕ) (found : Option Service) → IsTrue (in_service (λ serving. eqb (length (present_of uuid serving.part)) 0) found) → IsTrue (in_service (λ serving. eqb inc serving.inc && has_attempt uuid serving) found) → ⊥
no_attempt uuid inc None none is = false≢true is
no_attempt uuid inc (Some serving) none is = false≢true (ap not (sym none) ∙ (and_parts (eqb inc serving.inc) (has_attempt uuid serving) is).1)

pub claimed_not : (went : Bool) → IsTrue (went && false) → ⊥
claimed_not true is = false≢true is
claimed_not false is = false≢true is

module _ (view : LineView) (asked : List ℕ) (at node : ℕ) (before : List NodeEntry) (entry : NodeEntry) where
  abbrev by : By
  by = view.by

  abbrev Settled : List Turn → Type 0
  Settled line = (answer : Option Reply) × Settles (with_turns view (Forget asked at) (AtNode node before entry ∷ line)) answer

  -- a forget that did nothing at the door
  quietly : (line : List Turn) → entries by line ≡ [] → Settled line
  quietly line none = (None, forget_settles view asked at node before entry line None (subst (λ (es : List DoorEntry). Tells asked es None) (sym none) (nothing_tells asked)) (λ which inc caused. refl) (λ uuid caused. refl))

  module _ (none_there : IsTrue (in_service (λ serving. eqb (length (present_of asked serving.part)) 0) (service before))) where
    -- a forget that claimed
    claimed : (place : ℕ) (uuid : List ℕ) (who inc : ℕ) (line : List Turn) (answer : Option Reply) → Tells asked (record { by = by; act = Claim uuid who inc } ∷ entries by line) answer → Settled (AtDoor place (Claim uuid who inc) ∷ line)
    claimed place uuid who inc line answer tells = (answer, forget_settles view asked at node before entry (AtDoor place (Claim uuid who inc) ∷ line) answer tells busy forgotten)
      where
        its : LineView
        its = with_turns view (Forget asked at) (AtNode node before entry ∷ AtDoor place (Claim uuid who inc) ∷ line)

        busy : (which number : ℕ) → IsTrue (cause its (replies.Busy which number)) → None ≡ answer
        busy which number caused = elim (or_cases (is_busy_here (incarnation which number) (has_attempt asked) at its) (is_held_elsewhere (incarnation which number) asked at its) caused) [
          | inl here ↦ absurd (no_attempt asked number (service before) none_there (and_parts (eqb which at) _ here).1)
          | inr elsewhere ↦ absurd (claimed_not (went_on its) (and_parts (went_on its && false) _ (and_parts _ _ elsewhere).0).0)
        ]

        forgotten : (u : List ℕ) → IsTrue (cause its (replies.Forgotten u)) → None ≡ answer
        forgotten u caused = absurd (claimed_not (went_on its) (and_parts (bytes_eq u asked) (went_on its && false) (and_parts (bytes_eq u asked && (went_on its && false)) _ caused).0).1)

    module _ (ends : Ends) (begun : Beginning) (place : ℕ) (uuid : List ℕ) (who inc : ℕ) where
      abbrev Behind : List Turn → Type 0
      Behind line = Settled (AtDoor place (Claim uuid who inc) ∷ line)

      unlooked : (line : List Turn) → Tail by line → Behind line
      unlooked line tail =
          let t = claim_tells asked by uuid who inc in
          claimed place uuid who inc line None (with_tail asked by (λ more. record { by = by; act = Claim uuid who inc } ∷ more) None t (λ u n i. record { failed = t.failed; damage = t.damage; kept = t.kept; forgot = t.forgot; unused = t.unused; few = t.few }) line tail)

      module _ (first_place first_node first_inc : ℕ) (first : List ℕ) (its_record : record_name begun.uuid ≡ first) where
        few_first : (bytes : List ℕ) → length (records_in (record { name = first; bytes = bytes })) + length (marks_in (record { name = first; bytes = bytes })) ≤ 1
        few_first bytes = subst (λ (n : List ℕ). length (records_in (record { name = n; bytes = bytes })) + length (marks_in (record { name = n; bytes = bytes })) ≤ 1) its_record (record_few begun.uuid bytes)

        looked : (answer : KeeperAnswer) (line : List Turn) → Tail by line → Behind (AtDoor first_place (Call first_node first_inc (calls.Get first) answer) ∷ line)
        looked answer line tail =
            let t = get_tells asked by uuid who inc first_node first_inc first few_first answer in
            claimed place uuid who inc (AtDoor first_place (Call first_node first_inc (calls.Get first) answer) ∷ line) (told_get first answer)
            (with_tail asked by (λ more. record { by = by; act = Claim uuid who inc } ∷ record { by = by; act = Call first_node first_inc (calls.Get first) answer } ∷ more) (told_get first answer) t (λ u n i. record { failed = t.failed; damage = t.damage; kept = t.kept; forgot = t.forgot; unused = t.unused; few = t.few }) line tail)

        module _ (second_place second_node second_inc : ℕ) (second : List ℕ) (its_marker : marker_name begun.uuid ≡ second) where
          few_second : (bytes : List ℕ) → length (records_in (record { name = second; bytes = bytes })) + length (marks_in (record { name = second; bytes = bytes })) ≤ 1
          few_second bytes = subst (λ (n : List ℕ). length (records_in (record { name = n; bytes = bytes })) + length (marks_in (record { name = n; bytes = bytes })) ≤ 1) its_marker (marker_few begun.uuid bytes)

          abbrev Second : KeeperAnswer → List Turn → Type 0
          Second answer line = Behind (AtDoor first_place (Call first_node first_inc (calls.Get first) answers.Absent) ∷ AtDoor second_place (Call second_node second_inc (calls.Get second) answer) ∷ line)

          marked : (answer : KeeperAnswer) (line : List Turn) → Tail by line → Second answer line
          marked answer line tail =
              let t = marker_tells asked by uuid who inc first_node first_inc first second_node second_inc second few_second answer in
              claimed place uuid who inc (AtDoor first_place (Call first_node first_inc (calls.Get first) answers.Absent) ∷ AtDoor second_place (Call second_node second_inc (calls.Get second) answer) ∷ line) (told_marker asked second answer)
              (with_tail asked by (λ more. record { by = by; act = Claim uuid who inc } ∷ record { by = by; act = Call first_node first_inc (calls.Get first) answers.Absent } ∷ record { by = by; act = Call second_node second_inc (calls.Get second) answer } ∷ more) (told_marker asked second answer) t (λ u n i. record { failed = t.failed; damage = t.damage; kept = t.kept; forgot = t.forgot; unused = t.unused; few = t.few }) line tail)

          deleted : (bytes : List ℕ) → IsTrue (finds_short begun.uuid (answers.Found bytes)) → (third_place third_node third_inc : ℕ) (third : List ℕ) (answer : KeeperAnswer) (line : List Turn) → Tail by line → Second (answers.Found bytes) (AtDoor third_place (Call third_node third_inc (calls.Delete third) answer) ∷ line)
          deleted bytes short third_place third_node third_inc third answer line tail =
              subst (λ (n : List ℕ). Behind (AtDoor first_place (Call first_node first_inc (calls.Get first) answers.Absent) ∷ AtDoor second_place (Call second_node second_inc (calls.Get n) (answers.Found bytes)) ∷ AtDoor third_place (Call third_node third_inc (calls.Delete third) answer) ∷ line)) its_marker
              (let t = delete_tells asked by uuid who inc first_node first_inc first second_node second_inc begun.uuid bytes short third_node third_inc third answer in
              claimed place uuid who inc (AtDoor first_place (Call first_node first_inc (calls.Get first) answers.Absent) ∷ AtDoor second_place (Call second_node second_inc (calls.Get (marker_name begun.uuid)) (answers.Found bytes)) ∷ AtDoor third_place (Call third_node third_inc (calls.Delete third) answer) ∷ line) (told_delete (shorts_in (record { name = marker_name begun.uuid; bytes = bytes })) answer)
              (with_tail asked by (λ more. record { by = by; act = Claim uuid who inc } ∷ record { by = by; act = Call first_node first_inc (calls.Get first) answers.Absent } ∷ record { by = by; act = Call second_node second_inc (calls.Get (marker_name begun.uuid)) (answers.Found bytes) } ∷ record { by = by; act = Call third_node third_inc (calls.Delete third) answer } ∷ more) (told_delete (shorts_in (record { name = marker_name begun.uuid; bytes = bytes })) answer) t (λ u n i. record { failed = t.failed; damage = t.damage; kept = t.kept; forgot = t.forgot; unused = t.unused; few = t.few }) line tail))

          by_delete : (bytes : List ℕ) → IsTrue (finds_short begun.uuid (answers.Found bytes)) → (line : List Turn) → IsTrue (delete_course ends begun line) → Second (answers.Found bytes) line
          by_delete bytes short (AtDoor third_place (Call third_node third_inc (calls.Delete third) answer) ∷ line) follows =
              deleted bytes short third_place third_node third_inc third answer line (released_tail by ends begun any_answer line (and_parts (gets_own begun (marker_name begun.uuid) third_node third_inc third) (release_begun ends begun any_answer line) follows).1)
          by_delete bytes short line follows = marked (answers.Found bytes) line (released_tail by ends begun tells_refused line follows)

          by_marker : (answer : KeeperAnswer) (line : List Turn) (short : Bool) → finds_short begun.uuid answer ≡ short → IsTrue (if short then delete_course ends begun line || release_begun ends begun tells_no_memory line else release_begun ends begun any_answer line) → Second answer line
          by_marker answer line false e follows = marked answer line (released_tail by ends begun any_answer line follows)
          by_marker (answers.Found bytes) line true e follows = elim (or_cases (delete_course ends begun line) (release_begun ends begun tells_no_memory line) follows) [
            | inl goes ↦ by_delete bytes e line goes
            | inr wants ↦ marked (answers.Found bytes) line (released_tail by ends begun tells_no_memory line wants)
          ]
          by_marker answer line true e follows = absurd (false≢true e)

        by_short : (line : List Turn) → IsTrue (short_course ends begun line) → Behind (AtDoor first_place (Call first_node first_inc (calls.Get first) answers.Absent) ∷ line)
        by_short (AtDoor second_place (Call second_node second_inc (calls.Get second) answer) ∷ line) follows =
            let parts = and_parts (gets_own begun (marker_name begun.uuid) second_node second_inc second) (after_marker ends begun answer line) follows in
            by_marker second_place second_node second_inc second (same_bytes (marker_name begun.uuid) second (and_parts (same_incarnation (caller_of begun.attempt) (incarnation second_node second_inc)) (bytes_eq (marker_name begun.uuid) second) parts.0).1) answer line (finds_short begun.uuid answer) refl parts.1
        by_short line follows = looked answers.Absent line (released_tail by ends begun tells_refused line follows)

        by_look : (answer : KeeperAnswer) (line : List Turn) → IsTrue (after_get ends begun answer (short_course ends begun line) line) → Behind (AtDoor first_place (Call first_node first_inc (calls.Get first) answer) ∷ line)
        by_look answers.Absent line follows = elim (or_cases (short_course ends begun line) (release_begun ends begun tells_no_memory line) follows) [
          | inl goes ↦ by_short line goes
          | inr wants ↦ looked answers.Absent line (released_tail by ends begun tells_no_memory line wants)
        ]
        by_look answer line follows = looked answer line (released_tail by ends begun any_answer line follows)

      by_record : (line : List Turn) → IsTrue (record_course (short_course ends begun) ends begun line) → Behind line
      by_record (AtDoor first_place (Call first_node first_inc (calls.Get first) answer) ∷ line) follows =
          let parts = and_parts (gets_own begun (record_name begun.uuid) first_node first_inc first) (after_get ends begun answer (short_course ends begun line) line) follows in
          by_look first_place first_node first_inc first (same_bytes (record_name begun.uuid) first (and_parts (same_incarnation (caller_of begun.attempt) (incarnation first_node first_inc)) (bytes_eq (record_name begun.uuid) first) parts.0).1) answer line parts.1
      by_record line follows = unlooked line (released_tail by ends begun tells_refused line follows)

    by_claim : (ends : Ends) (begun : Beginning) (line : List Turn) → IsTrue (claim_course (short_course ends begun) ends begun line) → Settled line
    by_claim ends begun (AtDoor place (Claim uuid who inc) ∷ line) follows = by_record ends begun place uuid who inc line (and_parts (same_incarnation (caller_of begun.attempt) (incarnation who inc) && bytes_eq begun.uuid uuid) (record_course (short_course ends begun) ends begun line) follows).1
    by_claim ends begun line follows = quietly line (quiet by begun.attempt.node (closes ends begun.attempt.inc (gives_back begun.attempt tells_unclaimed)) line follows)

  none_admitted : (found : Option Service) (a : Attempt) (uuid : List ℕ) (answer : Option Reply) → asked ≡ uuid → IsTrue (in_service (λ serving. may_admit node serving a uuid && is_silent answer) found) → IsTrue (in_service (λ serving. eqb (length (present_of asked serving.part)) 0) found)
  none_admitted None a uuid answer same is = is
  none_admitted (Some serving) a uuid answer same is =
      subst (λ (u : List ℕ). IsTrue (eqb (length (present_of u serving.part)) 0)) (sym same) (and_parts _ (eqb (length (present_of uuid serving.part)) 0) (and_parts (may_admit node serving a uuid) (is_silent answer) is).0).1

  by_act : (act : NodeAct) → entry.act ≡ act → (ends : Ends) (line : List Turn) → IsTrue (admitted_course (short_course ends) ends act line) → IsTrue (may_follow_at node view.settings.cache before entry) → IsTrue (turn_words (Forget asked at) (AtNode node before entry)) → Settled line
  by_act Nothing admits ends [] follows legal words = quietly [] refl
  by_act Nothing admits ends (turn ∷ line) follows legal words = absurd (false≢true follows)
  by_act (Admit a uuid) admits ends line follows legal words =
      let x = and_parts _ _ legal in
      let y = and_parts _ (may_be_done node view.settings.cache before entry.act entry.answer) x.0 in
      by_claim (none_admitted (service before) a uuid entry.answer (same_bytes asked uuid (subst (λ (done : NodeAct). IsTrue (node_words (Forget asked at) done)) admits words))
      (subst (λ (done : NodeAct). IsTrue (may_be_done node view.settings.cache before done entry.answer)) admits y.1)) ends (record { attempt = a; uuid = uuid }) line follows
  by_act act admits ends line follows legal words = absurd (false≢true follows)

-- what a forget's line needs beside its course
abbrev needs : LineView → Bool
needs view = keeps_rules view && carries_its_words view

forgets_settle : (view : LineView) (asked : List ℕ) (at : ℕ) (turns : List Turn) (ends : Ends) → IsTrue (forget_course ends turns) → IsTrue (needs (with_turns view (Forget asked at) turns)) → (answer : Option Reply) × Settles (with_turns view (Forget asked at) turns) answer
forgets_settle view asked at (AtNode node before entry ∷ line) ends follows so =
    let here : LineView = with_turns view (Forget asked at) (AtNode node before entry ∷ line) in
    let x = and_parts (keeps_rules here) (carries_its_words here) so in
    by_act view asked at node before entry entry.act refl ends line follows (and_parts (may_follow_at node view.settings.cache before entry) _ x.0).0 (and_parts (turn_words (Forget asked at) (AtNode node before entry)) _ x.1).0
forgets_settle view asked at (AtDoor place act ∷ line) ends follows so = absurd (false≢true follows)
forgets_settle view asked at (AtOffice before entry ∷ line) ends follows so = absurd (false≢true follows)
forgets_settle view asked at [] ends follows so = absurd (false≢true follows)

pub forgets_exact : (asked : List ℕ) (at : ℕ) (view : LineView) (reply : Reply) → view.command ≡ Forget asked at → IsTrue (keeps_its_course view) → IsTrue (keeps_rules view) → IsTrue (carries_its_words view) → IsTrue (cause view reply) → ExactlyCaused view reply
forgets_exact asked at view reply e keeps rules words caused =
    by_turns_and needs view (Forget asked at) reply e keeps (and_from _ _ rules words) caused (λ turns follows so. forgets_settle view asked at turns (ends_of (with_turns view (Forget asked at) turns)) follows so)
