-- What a begin is answered: by what the gets of the UUID's record and marker showed its line, or where it answered at once, by the attempts of the UUID that are there.
use Rattle.std.proofs.Common.{◌≡◌, ◌≤◌, ◌++◌, ◌+◌, ℕ, Bool, true, false, eqb, ◌&&◌, ◌||◌, not, List, [], ◌∷◌, length, map, filter, refl, sym, ap, subst, ◌∙◌, inl, inr, arith, length-append}
use Rattle.std.specs.Prelude.{IsTrue, Option, Some, None, if◌then◌else◌, nat_lt}
use Rattle.std.specs.List.{flat_map, list_any}
use Rattle.std.specs.Str.{bytes_eq}
use Rattle.std.proofs.lemmas.List.{length-map}
use Rattle.std.proofs.lemmas.Bool.{and_from, and_parts, eq-eqb, eqb-true, false≢true, not-true, or_cases, true_from_ne_false}
use Rattle.aft_id.specs.declared.txn_id.TxnId.{TxnId}
use Rattle.aft_id.specs.TxnId.{same_id}
use Rattle.aft_keeper.specs.declared.keeper.KeeperAnswer.{KeeperAnswer}
use Rattle.aft_keeper.specs.declared.keeper.KeeperAnswer.TheVariants as answers
use Rattle.aft_keeper.specs.declared.keeper.KeeperCall.TheVariants as calls
use Rattle.aft_keeper.specs.declared.keeper.Pair.{Pair}
use Rattle.aft_records.specs.declared.stored.Commit.{Commit}
use Rattle.aft_records.specs.declared.stored.Marker.{Marker}
use Rattle.aft_records.specs.Commits.{is_listed}
use Rattle.aft_records.specs.Reading.{commit_of, marker_of}
use Rattle.aft_model.specs.declared.caller.Attempt.{Attempt}
use Rattle.aft_model.specs.declared.caller.By.{By}
use Rattle.aft_model.specs.declared.door.DoorAct.{DoorAct}
use Rattle.aft_model.specs.declared.door.DoorAct.TheVariants.{Call, Claim, Release}
use Rattle.aft_model.specs.declared.door.DoorEntry.{DoorEntry}
use Rattle.aft_model.specs.declared.node.NodeAct.{NodeAct}
use Rattle.aft_model.specs.declared.node.NodeAct.TheVariants.{Admit, Nothing}
use Rattle.aft_model.specs.declared.node.NodeEntry.{NodeEntry}
use Rattle.aft_model.specs.declared.reply.Reply.{Reply}
use Rattle.aft_model.specs.declared.reply.Reply.TheVariants as replies
use Rattle.aft_model.specs.declared.script.Command.TheVariants.{Begin}
use Rattle.aft_model.specs.Attempts.{attempt_state, attempts, is_gone, is_of, is_opening, present_of, uuid_of}
use Rattle.aft_model.specs.DoorKnowledge.{ids_in, knows_unused}
use Rattle.aft_model.specs.Evidence.{pairs_by, shown_pairs}
use Rattle.aft_model.specs.History.{first_of}
use Rattle.aft_model.specs.LegalNode.{LegalNode, is_legal_node, may_be_done, may_follow_at}
use Rattle.aft_model.specs.Membership.{Incarnation, incarnation, same_incarnation}
use Rattle.aft_model.specs.NodeRules.{may_admit, may_answer_alone}
use Rattle.aft_model.specs.NodeState.{IsBooting, IsDown, IsServing, NodeState, Service, in_service, node_state, part, part_in, serves, service, service_in}
use Rattle.aft_model.specs.Opening.{has_failed, is_failure}
use Rattle.aft_model.specs.Readings.{has_reading, id_of_marker, marker_name, markers_in, record_name, records_in, versions_in}
use Rattle.aft_model.specs.Replies.{is_silent}
use Rattle.aft_model.specs.Sound.{markers_prefix, records_prefix}
use Rattle.aft_model.proofs.Ids.{same_ids}
use Rattle.aft_model.proofs.Sights.{same_bytes}
use Rattle.aft_lines.specs.BeginCourse.{Beginning, admitted_course, after_get, begin_course, begins_running, claim_course, gets_own, gives_back, marker_course, record_course, release_begun}
use Rattle.aft_lines.specs.Causes.{ExactlyCaused, cause}
use Rattle.aft_lines.specs.CausesBegins.{claimed_nothing, has_opened, has_opening, is_busy_here, is_held_elsewhere}
use Rattle.aft_lines.specs.CausesScans.{damage_in, is_damage, is_written_name, listed_in, written_name}
use Rattle.aft_lines.specs.CourseWords.{Ends, any_answer, caller_of, closes, ends_at_node, tells_no_memory, tells_refused, tells_unclaimed}
use Rattle.aft_lines.specs.LegalTrace.{node_words, turn_words}
use Rattle.aft_lines.specs.LineView.{LineView, ends_of, newest_here, went_on}
use Rattle.aft_lines.specs.Turns.{AtDoor, AtNode, AtOffice, Turn}
use Rattle.law_attempts.proofs.Attempts.{alone, named}
use Rattle.law_answers.specs.Courses.{carries_its_words, comes_behind_legal, keeps_its_course, keeps_rules}
use Rattle.law_answers.proofs.Forgets.{Tail, claimed_not, no_marker, no_record, released_tail, unused_absences, two_absences}
use Rattle.law_answers.proofs.Gets.{read_few}
use Rattle.law_answers.proofs.Scans.{damaged, entries, many}
use Rattle.law_answers.proofs.Served.{never_served}
use Rattle.law_answers.proofs.Starts.{quiet}
use Rattle.law_answers.proofs.Settled.{Settles, by_turns_and, with_turns}

-- ---- what entries tell a begin

-- what a begin of a UUID is told by what it did at the door
record Tells (asked : List ℕ) (done : List DoorEntry) (answer : Option Reply) : Type 0 where
  failed : IsTrue (has_failed done) → None ≡ answer
  damage : (written : List ℕ) → IsTrue (is_written_name written (first_of (flat_map (damage_in None) done))) → Some (replies.Damaged written) ≡ answer
  committed : (id : TxnId) → IsTrue (list_any (is_listed id) (map ids_in (flat_map shown_pairs done))) → Some (replies.Committed id) ≡ answer
  unused : (who : Incarnation) → IsTrue (knows_unused who asked done) → Some (replies.Begun asked) ≡ answer
  few : (nat_lt 20000 (length (flat_map (λ (entry : DoorEntry). listed_in records_prefix entry.act) done)) || nat_lt 20000 (length (flat_map (λ (entry : DoorEntry). listed_in markers_prefix entry.act) done))) ≡ false

nothing_tells : (asked : List ℕ) (answer : Option Reply) → Tells asked [] answer
nothing_tells asked answer = record {
  failed = λ is. absurd (false≢true is);
  damage = λ written is. absurd (false≢true is);
  committed = λ id is. absurd (false≢true is);
  unused = λ who is. absurd (false≢true is);
  few = refl;
}

only_this : (x : Bool) → IsTrue (x || false) → IsTrue x
only_this true is = refl
only_this false is = is

module _ (view : LineView) (asked : List ℕ) (at node : ℕ) (before : List NodeEntry) (entry : NodeEntry) (rest : List Turn) (answer : Option Reply) where
  abbrev here : LineView
  here = with_turns view (Begin asked at) (AtNode node before entry ∷ rest)

  -- a begin that is told so, where what its node has of the UUID, and who else holds it, and its being forgotten, tell it nothing else
  begin_settles : Tells asked (entries view.by rest) answer → (IsTrue (in_service (has_opened asked) (service before)) → Some (replies.Joined asked) ≡ answer) → ((which inc : ℕ) → IsTrue (cause here (replies.Busy which inc)) → None ≡ answer)
      → ((uuid : List ℕ) → IsTrue (cause here (replies.Forgotten uuid)) → None ≡ answer) → Settles here answer
  begin_settles tells joined busy forgotten (replies.Begun uuid) caused =
      let parts = and_parts (bytes_eq uuid asked) (knows_unused (incarnation at (newest_here here)) asked (entries view.by rest)) caused in
      inr (ap (λ (u : List ℕ). Some (replies.Begun u)) (same_bytes uuid asked parts.0) ∙ tells.unused (incarnation at (newest_here here)) parts.1)
  begin_settles tells joined busy forgotten (replies.Joined uuid) caused =
      let parts = and_parts (bytes_eq uuid asked) (in_service (has_opened asked) (service before)) caused in
      inr (ap (λ (u : List ℕ). Some (replies.Joined u)) (same_bytes uuid asked parts.0) ∙ joined parts.1)
  begin_settles tells joined busy forgotten (replies.Committed id) caused = inr (tells.committed id (only_this _ caused))
  begin_settles tells joined busy forgotten (replies.Damaged written) caused = inr (tells.damage written (and_parts (is_written_name written (first_of (damaged view.by rest))) (not (many view.by rest)) caused).0)
  begin_settles tells joined busy forgotten replies.StoreFault caused = inr (tells.failed caused)
  begin_settles tells joined busy forgotten replies.TooManyRecords caused = absurd (false≢true (sym tells.few ∙ caused))
  begin_settles tells joined busy forgotten (replies.Busy which inc) caused = inr (busy which inc caused)
  begin_settles tells joined busy forgotten (replies.Forgotten uuid) caused = inr (forgotten uuid caused)
  begin_settles tells joined busy forgotten (replies.NodeDown which inc) caused = inl refl
  begin_settles tells joined busy forgotten replies.Committing caused = absurd (never_served view.hold.attempt (service before) caused)
  begin_settles tells joined busy forgotten replies.NoMemory caused = inl refl
  begin_settles tells joined busy forgotten reply caused = absurd (false≢true caused)

-- ---- what is shown

-- what the pair of a get tells, by the ids that it shows and whether it has a reading
abbrev told_pair : List ℕ → List TxnId → Bool → Option Reply
told_pair name (id ∷ ids) has = Some (replies.Committed id)
told_pair name [] true = None
told_pair name [] false = Some (replies.Damaged (written_name name))

abbrev told_by_pair : Pair → Option Reply
told_by_pair pair = told_pair pair.name (ids_in pair) (has_reading pair)

-- the ids that are shown: at most one under each name
few_shown : (pair : Pair) → length (records_in pair) + length (markers_in pair) ≤ 1 → length (ids_in pair) ≤ 1
few_shown pair few = omega (arith, length-map (records_in pair) (λ (c : Commit). c.id), length-map (markers_in pair) id_of_marker, length-append (map (λ (c : Commit). c.id) (records_in pair)) (map id_of_marker (markers_in pair)))

shown_told : (name : List ℕ) (ids : List TxnId) (has : Bool) (id : TxnId) → length ids ≤ 1 → IsTrue (is_listed id ids) → Some (replies.Committed id) ≡ told_pair name ids has
shown_told name [] has id few is = absurd (false≢true is)
shown_told name (its ∷ []) has id few is = ap (λ (i : TxnId). Some (replies.Committed i)) (same_ids id its (only_this (same_id id its) is))
shown_told name (its ∷ other ∷ ids) has id few is = absurd (omega arith)

pair_shows : (pair : Pair) → length (records_in pair) + length (markers_in pair) ≤ 1 → (id : TxnId) → IsTrue (list_any (is_listed id) (map ids_in (pair ∷ []))) → Some (replies.Committed id) ≡ told_by_pair pair
pair_shows pair few id is = shown_told pair.name (ids_in pair) (has_reading pair) id (few_shown pair few) (only_this (is_listed id (ids_in pair)) is)

-- what has no reading shows no id
unread_shows : (pair : Pair) → has_reading pair ≡ false → ids_in pair ≡ []
unread_shows pair e =
    let sum : length (records_in pair) + length (markers_in pair) + length (versions_in pair) ≡ 0 = eqb-true (length (records_in pair) + length (markers_in pair) + length (versions_in pair)) 0 (true_from_ne_false _ (λ f. false≢true (sym e ∙ ap not f))) in
    let r : records_in pair ≡ [] = no_length (records_in pair) (omega arith) in
    let m : markers_in pair ≡ [] = no_length (markers_in pair) (omega arith) in
    ap (λ (cs : List Commit). map (λ (c : Commit). c.id) cs ++ map id_of_marker (markers_in pair)) r ∙ ap (λ (ms : List Marker). map id_of_marker ms) m
  where
    no_length : {A : Type 0} (xs : List A) → length xs ≡ 0 → xs ≡ []
    no_length [] none = refl
    no_length (x ∷ xs) none = absurd (omega arith)

pair_damages : (pair : Pair) (written : List ℕ) → IsTrue (is_written_name written (first_of (map (λ (p : Pair). p.name) (filter (is_damage None) (pair ∷ [])) ++ []))) → Some (replies.Damaged written) ≡ told_by_pair pair
pair_damages pair written is = cases (has_reading pair) refl is
  where
    cases : (has : Bool) → has_reading pair ≡ has → IsTrue (is_written_name written (first_of (map (λ (p : Pair). p.name) (if not has || false then pair ∷ [] else []) ++ []))) → Some (replies.Damaged written) ≡ told_pair pair.name (ids_in pair) (has_reading pair)
    cases true e is = absurd (false≢true is)
    cases false e is = ap (λ (n : List ℕ). Some (replies.Damaged n)) (same_bytes written (written_name pair.name) is) ∙ sym (ap (λ (i : List TxnId). told_pair pair.name i (has_reading pair)) (unread_shows pair e) ∙ ap (λ (b : Bool). told_pair pair.name [] b) e)

record_few : (uuid bytes : List ℕ) → length (records_in (record { name = record_name uuid; bytes = bytes })) + length (markers_in (record { name = record_name uuid; bytes = bytes })) ≤ 1
record_few uuid bytes =
    let r = read_few (record_name uuid) (λ (c : Commit). record_name c.id.uuid) (commit_of bytes) in
    let m : length (markers_in (record { name = record_name uuid; bytes = bytes })) ≡ 0 = ap (λ (ms : List Marker). length ms) (no_marker uuid (marker_of bytes)) in
    omega arith

marker_few : (uuid bytes : List ℕ) → length (records_in (record { name = marker_name uuid; bytes = bytes })) + length (markers_in (record { name = marker_name uuid; bytes = bytes })) ≤ 1
marker_few uuid bytes =
    let r : length (records_in (record { name = marker_name uuid; bytes = bytes })) ≡ 0 = ap (λ (cs : List Commit). length cs) (no_record uuid (commit_of bytes)) in
    let m = read_few (marker_name uuid) (λ (k : Marker). marker_name (id_of_marker k).uuid) (marker_of bytes) in
    omega arith

-- ---- what each line of a begin that claimed did at the door

abbrev told_get : List ℕ → KeeperAnswer → Option Reply
told_get name (answers.Found bytes) = told_by_pair (record { name = name; bytes = bytes })
told_get name answer = None

abbrev told_marker : List ℕ → List ℕ → KeeperAnswer → Option Reply
told_marker asked name answers.Absent = Some (replies.Begun asked)
told_marker asked name answer = told_get name answer

begin_get_fails : (node inc : ℕ) (name : List ℕ) (answer : KeeperAnswer) → IsTrue (is_failure (Call node inc (calls.Get name) answer) || false) → None ≡ told_get name answer
begin_get_fails node inc name answers.Failed is = refl
begin_get_fails node inc name answer is = absurd (false≢true is)

get_shows : (name : List ℕ) → ((bytes : List ℕ) → length (records_in (record { name = name; bytes = bytes })) + length (markers_in (record { name = name; bytes = bytes })) ≤ 1) → (answer : KeeperAnswer) (id : TxnId) → IsTrue (list_any (is_listed id) (map ids_in (pairs_by (calls.Get name) answer ++ []))) → Some (replies.Committed id) ≡ told_get name answer
get_shows name few (answers.Found bytes) id is = pair_shows (record { name = name; bytes = bytes }) (few bytes) id is
get_shows name few answer id is = absurd (false≢true is)

get_damages : (name : List ℕ) (answer : KeeperAnswer) (written : List ℕ) → IsTrue (is_written_name written (first_of (map (λ (p : Pair). p.name) (filter (is_damage None) (pairs_by (calls.Get name) answer)) ++ []))) → Some (replies.Damaged written) ≡ told_get name answer
get_damages name (answers.Found bytes) written is = pair_damages (record { name = name; bytes = bytes }) written is
get_damages name answer written is = absurd (false≢true is)

module _ (asked : List ℕ) (by : By) (claimed : List ℕ) (claimer its : ℕ) where
  abbrev did : DoorAct → DoorEntry
  did act = record { by = by; act = act }

  abbrev claim : DoorEntry
  claim = did (Claim claimed claimer its)

  claim_tells : Tells asked (claim ∷ []) None
  claim_tells = record {
    failed = λ is. refl;
    damage = λ written is. absurd (false≢true is);
    committed = λ id is. absurd (false≢true is);
    unused = λ who is. absurd (false≢true (unused_absences who asked (claim ∷ []) is));
    few = refl;
  }

  module _ (node inc : ℕ) (name : List ℕ) (few_there : (bytes : List ℕ) → length (records_in (record { name = name; bytes = bytes })) + length (markers_in (record { name = name; bytes = bytes })) ≤ 1) (answer : KeeperAnswer) where
    abbrev got : DoorEntry
    got = did (Call node inc (calls.Get name) answer)

    get_tells : Tells asked (claim ∷ got ∷ []) (told_get name answer)
    get_tells = record {
      failed = begin_get_fails node inc name answer;
      damage = get_damages name answer;
      committed = get_shows name few_there answer;
      unused = λ who is. absurd (got_none answer (unused_absences who asked (claim ∷ got ∷ []) is));
      few = refl;
    }
      where
        got_none : (a : KeeperAnswer) → IsTrue (two_absences (claim ∷ did (Call node inc (calls.Get name) a) ∷ [])) → ⊥
        got_none answers.Absent is = false≢true is
        got_none a is = false≢true is

  module _ (first_node first_inc : ℕ) (first : List ℕ) (node inc : ℕ) (name : List ℕ) (few_there : (bytes : List ℕ) → length (records_in (record { name = name; bytes = bytes })) + length (markers_in (record { name = name; bytes = bytes })) ≤ 1) where
    abbrev absent : DoorEntry
    absent = did (Call first_node first_inc (calls.Get first) answers.Absent)

    marker_fails : (answer : KeeperAnswer) → IsTrue (is_failure (Call node inc (calls.Get name) answer) || false) → None ≡ told_marker asked name answer
    marker_fails answers.Absent is = absurd (false≢true is)
    marker_fails answer is = begin_get_fails node inc name answer is

    marker_shows : (answer : KeeperAnswer) (id : TxnId) → IsTrue (list_any (is_listed id) (map ids_in (pairs_by (calls.Get name) answer ++ []))) → Some (replies.Committed id) ≡ told_marker asked name answer
    marker_shows answers.Absent id is = absurd (false≢true is)
    marker_shows answer id is = get_shows name few_there answer id is

    marker_damages : (answer : KeeperAnswer) (written : List ℕ) → IsTrue (is_written_name written (first_of (map (λ (p : Pair). p.name) (filter (is_damage None) (pairs_by (calls.Get name) answer)) ++ []))) → Some (replies.Damaged written) ≡ told_marker asked name answer
    marker_damages answers.Absent written is = absurd (false≢true is)
    marker_damages answer written is = get_damages name answer written is

    marker_unused : (answer : KeeperAnswer) → IsTrue (two_absences (claim ∷ absent ∷ did (Call node inc (calls.Get name) answer) ∷ [])) → Some (replies.Begun asked) ≡ told_marker asked name answer
    marker_unused answers.Absent is = refl
    marker_unused answer is = absurd (false≢true is)

    marker_tells : (answer : KeeperAnswer) → Tells asked (claim ∷ absent ∷ did (Call node inc (calls.Get name) answer) ∷ []) (told_marker asked name answer)
    marker_tells answer = record {
      failed = marker_fails answer;
      damage = marker_damages answer;
      committed = marker_shows answer;
      unused = λ who is. marker_unused answer (unused_absences who asked (claim ∷ absent ∷ did (Call node inc (calls.Get name) answer) ∷ []) is);
      few = refl;
    }

with_tail : (asked : List ℕ) (by : By) (front : List DoorEntry → List DoorEntry) (answer : Option Reply) → Tells asked (front []) answer → ((uuid : List ℕ) (node inc : ℕ) → Tells asked (front (record { by = by; act = Release uuid node inc } ∷ [])) answer) → (line : List Turn) → Tail by line → Tells asked (front (entries by line)) answer
with_tail asked by front answer bare released line tail = elim tail [
  | inl none ↦ subst (λ (es : List DoorEntry). Tells asked (front es) answer) (sym none) bare
  | inr one ↦ subst (λ (es : List DoorEntry). Tells asked (front es) answer) (sym one.3) (released one.0 one.1 one.2)
]

-- ---- the attempts of a UUID

-- one of a list that passes three tests
witness : {A : Type 0} (test some more : A → Bool) (xs : List A) → IsTrue (list_any test (filter some (filter more xs))) → (x : A) × IsTrue (test x) × IsTrue (some x) × IsTrue (more x)
witness test some more [] is = absurd (false≢true is)
witness {A} test some more (x ∷ xs) is = cases (more x) refl is (λ later. witness test some more xs later)
  where
    inner : (b : Bool) → some x ≡ b → IsTrue (more x) → IsTrue (list_any test (if b then x ∷ filter some (filter more xs) else filter some (filter more xs))) → (IsTrue (list_any test (filter some (filter more xs))) → ((y : A) × IsTrue (test y) × IsTrue (some y) × IsTrue (more y))) → ((y : A) × IsTrue (test y) × IsTrue (some y) × IsTrue (more y))
    inner true e there is rest = elim (or_cases (test x) (list_any test (filter some (filter more xs))) is) [
      | inl here ↦ (x, here, e, there)
      | inr later ↦ rest later
    ]
    inner false e there is rest = rest is

    cases : (b : Bool) → more x ≡ b → IsTrue (list_any test (filter some (if b then x ∷ filter more xs else filter more xs))) → (IsTrue (list_any test (filter some (filter more xs))) → ((y : A) × IsTrue (test y) × IsTrue (some y) × IsTrue (more y))) → ((y : A) × IsTrue (test y) × IsTrue (some y) × IsTrue (more y))
    cases true e is rest = inner (some x) refl e is rest
    cases false e is rest = rest is

-- of a UUID no attempt opens where another doesn't open any more
module _ (node capacity : ℕ) (before : List NodeEntry) (legal : LegalNode node capacity before) (uuid : List ℕ) where
  same_both : (s : Service) → node_state before ≡ IsServing s → part before ≡ s.part → IsTrue (has_opening uuid s) → IsTrue (has_opened uuid s) → ⊥
  same_both s e its opening opened =
      let serve : IsTrue (serves s.inc (node_state before)) = subst (λ (state : NodeState). IsTrue (serves s.inc state)) (sym e) (eq-eqb s.inc s.inc refl) in
      let a = witness (λ (x : Attempt). is_opening (attempt_state x s.part)) (is_of uuid s.part) (λ (x : Attempt). not (is_gone (attempt_state x s.part))) (attempts s.part) opening in
      let b = witness (λ (x : Attempt). not (is_opening (attempt_state x s.part))) (is_of uuid s.part) (λ (x : Attempt). not (is_gone (attempt_state x s.part))) (attempts s.part) opened in
      let name : (x : Attempt) → IsTrue (is_of uuid s.part x) → uuid_of x s.part ≡ uuid = λ x. subst (λ (p : List NodeEntry). IsTrue (is_of uuid p x) → uuid_of x p ≡ uuid) its (named node capacity s.inc before legal serve x uuid) in
      let one : a.0 ≡ b.0 =
      subst (λ (p : List NodeEntry). is_gone (attempt_state a.0 p) ≡ false → is_gone (attempt_state b.0 p) ≡ false → uuid_of a.0 p ≡ uuid_of b.0 p → a.0 ≡ b.0) its (alone node capacity s.inc before legal serve a.0 b.0)
      (not-true _ a.3) (not-true _ b.3) (name a.0 a.2 ∙ sym (name b.0 b.2)) in
      false≢true (sym (not-true _ b.1) ∙ subst (λ (x : Attempt). IsTrue (is_opening (attempt_state x s.part))) one a.1)

  both_not : (state : NodeState) → node_state before ≡ state → IsTrue (in_service (has_opening uuid) (service_in state)) → IsTrue (in_service (has_opened uuid) (service_in state)) → ⊥
  both_not (IsServing s) e opening opened = same_both s e (ap (λ (state : NodeState). part_in (service_in state)) e) opening opened
  both_not IsDown e opening opened = false≢true opening
  both_not (IsBooting inc running) e opening opened = false≢true opening

any_nowhere : {A : Type 0} (test : A → Bool) (xs : List A) → IsTrue (eqb (length xs) 0) → IsTrue (list_any test xs) → ⊥
any_nowhere test [] none is = false≢true is
any_nowhere test (x ∷ xs) none is = omega (arith, eqb-true (length (x ∷ xs)) 0 none)

-- where no attempt of a UUID is there, none opens and none has opened
no_opening : (uuid : List ℕ) (found : Option Service) → IsTrue (in_service (λ serving. eqb (length (present_of uuid serving.part)) 0) found) → IsTrue (in_service (has_opening uuid) found) → ⊥
no_opening uuid None none is = false≢true is
no_opening uuid (Some s) none is = any_nowhere (λ (a : Attempt). is_opening (attempt_state a s.part)) (present_of uuid s.part) none is

no_opened : (uuid : List ℕ) (found : Option Service) → IsTrue (in_service (λ serving. eqb (length (present_of uuid serving.part)) 0) found) → IsTrue (in_service (has_opened uuid) found) → ⊥
no_opened uuid None none is = false≢true is
no_opened uuid (Some s) none is = any_nowhere (λ (a : Attempt). not (is_opening (attempt_state a s.part))) (present_of uuid s.part) none is

opening_here : (uuid : List ℕ) (inc : ℕ) (found : Option Service) → IsTrue (in_service (λ serving. eqb inc serving.inc && has_opening uuid serving) found) → IsTrue (in_service (has_opening uuid) found)
opening_here uuid inc None is = is
opening_here uuid inc (Some s) is = (and_parts (eqb inc s.inc) (has_opening uuid s) is).1

alone_speaks : (answer : Option Reply) → IsTrue (may_answer_alone answer) → IsTrue (is_silent answer) → ⊥
alone_speaks None may silent = false≢true may
alone_speaks (Some reply) may silent = false≢true silent

-- ---- any begin

module _ (view : LineView) (asked : List ℕ) (at node : ℕ) (before : List NodeEntry) (entry : NodeEntry) where
  abbrev by : By
  by = view.by

  abbrev Settled : List Turn → Type 0
  Settled line = (answer : Option Reply) × Settles (with_turns view (Begin asked at) (AtNode node before entry ∷ line)) answer

  abbrev its : List Turn → LineView
  its line = with_turns view (Begin asked at) (AtNode node before entry ∷ line)

  -- a busy begin found an attempt that opens, or claimed nothing
  busy_by : (Answer : Type 0) (line : List Turn) (which inc : ℕ) → IsTrue (cause (its line) (replies.Busy which inc)) → (IsTrue (in_service (has_opening asked) (service before)) → Answer) → (IsTrue (claimed_nothing (its line)) → Answer) → Answer
  busy_by Answer line which inc caused here elsewhere =
      elim (or_cases (is_busy_here (incarnation which inc) (has_opening asked) at (its line) || false) (is_held_elsewhere (incarnation which inc) asked at (its line) || false) caused) [
        | inl busy ↦ here (opening_here asked inc (service before) (and_parts (eqb which at) _ (only_this _ busy)).1)
        | inr held ↦ elsewhere (and_parts (claimed_nothing (its line)) _ (and_parts _ _ (only_this _ held)).0).0
      ]

  forgotten_by : (line : List Turn) (uuid : List ℕ) → IsTrue (cause (its line) (replies.Forgotten uuid)) → IsTrue (claimed_nothing (its line))
  forgotten_by line uuid caused = (and_parts (bytes_eq uuid asked) (claimed_nothing (its line)) (and_parts (bytes_eq uuid asked && claimed_nothing (its line)) _ (only_this _ caused)).0).1

  -- ---- a begin that answers at once

  abbrev told_opened : Bool → Option Reply
  told_opened true = Some (replies.Joined asked)
  told_opened false = None

  joined_so : (opened : Bool) → IsTrue opened → Some (replies.Joined asked) ≡ told_opened opened
  joined_so true is = refl
  joined_so false is = absurd (false≢true is)

  unjoined_so : (opened : Bool) → (IsTrue opened → ⊥) → None ≡ told_opened opened
  unjoined_so true none = absurd (none refl)
  unjoined_so false none = refl

  alone_settles : IsTrue (may_answer_alone entry.answer) → LegalNode node view.settings.cache before → Settled []
  alone_settles may legal = (told_opened (in_service (has_opened asked) (service before)), begin_settles view asked at node before entry [] (told_opened (in_service (has_opened asked) (service before))) (nothing_tells asked _) (joined_so _) busy forgotten)
    where
      goes_not : IsTrue (claimed_nothing (its [])) → ⊥
      goes_not claims = alone_speaks entry.answer may (and_parts (is_silent entry.answer) _ claims).0

      busy : (which inc : ℕ) → IsTrue (cause (its []) (replies.Busy which inc)) → None ≡ told_opened (in_service (has_opened asked) (service before))
      busy which inc caused = busy_by (None ≡ told_opened (in_service (has_opened asked) (service before))) [] which inc caused
          (λ opening. unjoined_so _ (both_not node view.settings.cache before legal asked (node_state before) refl opening)) (λ claims. absurd (goes_not claims))

      forgotten : (uuid : List ℕ) → IsTrue (cause (its []) (replies.Forgotten uuid)) → None ≡ told_opened (in_service (has_opened asked) (service before))
      forgotten uuid caused = absurd (goes_not (forgotten_by [] uuid caused))

  -- ---- a begin that admitted an attempt

  module _ (none_there : IsTrue (in_service (λ serving. eqb (length (present_of asked serving.part)) 0) (service before))) where
    -- one that did nothing at the door
    quietly : (line : List Turn) → entries by line ≡ [] → Settled line
    quietly line none =
        (None, begin_settles view asked at node before entry line None (subst (λ (es : List DoorEntry). Tells asked es None) (sym none) (nothing_tells asked None)) (λ opened. absurd (no_opened asked (service before) none_there opened)) (λ which inc caused. refl) (λ uuid caused. refl))

    -- one that claimed
    claimed : (place : ℕ) (uuid : List ℕ) (who inc : ℕ) (line : List Turn) (answer : Option Reply) → Tells asked (record { by = by; act = Claim uuid who inc } ∷ entries by line) answer → Settled (AtDoor place (Claim uuid who inc) ∷ line)
    claimed place uuid who inc line answer tells =
        (answer, begin_settles view asked at node before entry (AtDoor place (Claim uuid who inc) ∷ line) answer tells (λ opened. absurd (no_opened asked (service before) none_there opened)) busy forgotten)
      where
        busy : (which number : ℕ) → IsTrue (cause (its (AtDoor place (Claim uuid who inc) ∷ line)) (replies.Busy which number)) → None ≡ answer
        busy which number caused = busy_by (None ≡ answer) (AtDoor place (Claim uuid who inc) ∷ line) which number caused (λ opening. absurd (no_opening asked (service before) none_there opening)) (λ claims. absurd (claimed_not (went_on (its (AtDoor place (Claim uuid who inc) ∷ line))) claims))

        forgotten : (u : List ℕ) → IsTrue (cause (its (AtDoor place (Claim uuid who inc) ∷ line)) (replies.Forgotten u)) → None ≡ answer
        forgotten u caused = absurd (claimed_not (went_on (its (AtDoor place (Claim uuid who inc) ∷ line))) (forgotten_by (AtDoor place (Claim uuid who inc) ∷ line) u caused))

    module _ (ends : Ends) (begun : Beginning) (place : ℕ) (uuid : List ℕ) (who inc : ℕ) where
      abbrev Behind : List Turn → Type 0
      Behind line = Settled (AtDoor place (Claim uuid who inc) ∷ line)

      unlooked : (line : List Turn) → Tail by line → Behind line
      unlooked line tail =
          let t = claim_tells asked by uuid who inc in
          claimed place uuid who inc line None (with_tail asked by (λ more. record { by = by; act = Claim uuid who inc } ∷ more) None t (λ u n i. record { failed = t.failed; damage = t.damage; committed = t.committed; unused = t.unused; few = t.few }) line tail)

      module _ (first_place first_node first_inc : ℕ) (first : List ℕ) (its_record : record_name begun.uuid ≡ first) where
        few_first : (bytes : List ℕ) → length (records_in (record { name = first; bytes = bytes })) + length (markers_in (record { name = first; bytes = bytes })) ≤ 1
        few_first bytes = subst (λ (n : List ℕ). length (records_in (record { name = n; bytes = bytes })) + length (markers_in (record { name = n; bytes = bytes })) ≤ 1) its_record (record_few begun.uuid bytes)

        looked : (answer : KeeperAnswer) (line : List Turn) → Tail by line → Behind (AtDoor first_place (Call first_node first_inc (calls.Get first) answer) ∷ line)
        looked answer line tail =
            let t = get_tells asked by uuid who inc first_node first_inc first few_first answer in
            claimed place uuid who inc (AtDoor first_place (Call first_node first_inc (calls.Get first) answer) ∷ line) (told_get first answer)
            (with_tail asked by (λ more. record { by = by; act = Claim uuid who inc } ∷ record { by = by; act = Call first_node first_inc (calls.Get first) answer } ∷ more) (told_get first answer) t (λ u n i. record { failed = t.failed; damage = t.damage; committed = t.committed; unused = t.unused; few = t.few }) line tail)

        module _ (second_place second_node second_inc : ℕ) (second : List ℕ) (its_marker : marker_name begun.uuid ≡ second) where
          few_second : (bytes : List ℕ) → length (records_in (record { name = second; bytes = bytes })) + length (markers_in (record { name = second; bytes = bytes })) ≤ 1
          few_second bytes = subst (λ (n : List ℕ). length (records_in (record { name = n; bytes = bytes })) + length (markers_in (record { name = n; bytes = bytes })) ≤ 1) its_marker (marker_few begun.uuid bytes)

          abbrev Second : KeeperAnswer → List Turn → Type 0
          Second answer line = Behind (AtDoor first_place (Call first_node first_inc (calls.Get first) answers.Absent) ∷ AtDoor second_place (Call second_node second_inc (calls.Get second) answer) ∷ line)

          marked : (answer : KeeperAnswer) (line : List Turn) → Tail by line → Second answer line
          marked answer line tail =
              let t = marker_tells asked by uuid who inc first_node first_inc first second_node second_inc second few_second answer in
              claimed place uuid who inc (AtDoor first_place (Call first_node first_inc (calls.Get first) answers.Absent) ∷ AtDoor second_place (Call second_node second_inc (calls.Get second) answer) ∷ line) (told_marker asked second answer)
              (with_tail asked by (λ more. record { by = by; act = Claim uuid who inc } ∷ record { by = by; act = Call first_node first_inc (calls.Get first) answers.Absent } ∷ record { by = by; act = Call second_node second_inc (calls.Get second) answer } ∷ more) (told_marker asked second answer) t (λ u n i. record { failed = t.failed; damage = t.damage; committed = t.committed; unused = t.unused; few = t.few }) line tail)

          by_marker : (answer : KeeperAnswer) (line : List Turn) → IsTrue (after_get ends begun answer (ends_at_node begun.attempt.node (closes ends begun.attempt.inc (begins_running begun.attempt)) line) line) → Second answer line
          by_marker answers.Absent line follows = elim (or_cases (ends_at_node begun.attempt.node (closes ends begun.attempt.inc (begins_running begun.attempt)) line) (release_begun ends begun tells_no_memory line) follows) [
            | inl runs ↦ marked answers.Absent line (inl (quiet by begun.attempt.node (closes ends begun.attempt.inc (begins_running begun.attempt)) line runs))
            | inr wants ↦ marked answers.Absent line (released_tail by ends begun tells_no_memory line wants)
          ]
          by_marker answer line follows = marked answer line (released_tail by ends begun any_answer line follows)

        by_second : (line : List Turn) → IsTrue (marker_course ends begun line) → Behind (AtDoor first_place (Call first_node first_inc (calls.Get first) answers.Absent) ∷ line)
        by_second (AtDoor second_place (Call second_node second_inc (calls.Get second) answer) ∷ line) follows =
            let parts = and_parts (gets_own begun (marker_name begun.uuid) second_node second_inc second) (after_get ends begun answer (ends_at_node begun.attempt.node (closes ends begun.attempt.inc (begins_running begun.attempt)) line) line) follows in
            by_marker second_place second_node second_inc second (same_bytes (marker_name begun.uuid) second (and_parts (same_incarnation (caller_of begun.attempt) (incarnation second_node second_inc)) (bytes_eq (marker_name begun.uuid) second) parts.0).1) answer line parts.1
        by_second line follows = looked answers.Absent line (released_tail by ends begun tells_refused line follows)

        by_look : (answer : KeeperAnswer) (line : List Turn) → IsTrue (after_get ends begun answer (marker_course ends begun line) line) → Behind (AtDoor first_place (Call first_node first_inc (calls.Get first) answer) ∷ line)
        by_look answers.Absent line follows = elim (or_cases (marker_course ends begun line) (release_begun ends begun tells_no_memory line) follows) [
          | inl goes ↦ by_second line goes
          | inr wants ↦ looked answers.Absent line (released_tail by ends begun tells_no_memory line wants)
        ]
        by_look answer line follows = looked answer line (released_tail by ends begun any_answer line follows)

      by_record : (line : List Turn) → IsTrue (record_course (marker_course ends begun) ends begun line) → Behind line
      by_record (AtDoor first_place (Call first_node first_inc (calls.Get first) answer) ∷ line) follows =
          let parts = and_parts (gets_own begun (record_name begun.uuid) first_node first_inc first) (after_get ends begun answer (marker_course ends begun line) line) follows in
          by_look first_place first_node first_inc first (same_bytes (record_name begun.uuid) first (and_parts (same_incarnation (caller_of begun.attempt) (incarnation first_node first_inc)) (bytes_eq (record_name begun.uuid) first) parts.0).1) answer line parts.1
      by_record line follows = unlooked line (released_tail by ends begun tells_refused line follows)

    by_claim : (ends : Ends) (begun : Beginning) (line : List Turn) → IsTrue (claim_course (marker_course ends begun) ends begun line) → Settled line
    by_claim ends begun (AtDoor place (Claim uuid who inc) ∷ line) follows = by_record ends begun place uuid who inc line (and_parts (same_incarnation (caller_of begun.attempt) (incarnation who inc) && bytes_eq begun.uuid uuid) (record_course (marker_course ends begun) ends begun line) follows).1
    by_claim ends begun line follows = quietly line (quiet by begun.attempt.node (closes ends begun.attempt.inc (gives_back begun.attempt tells_unclaimed)) line follows)

  none_admitted : (found : Option Service) (a : Attempt) (uuid : List ℕ) (answer : Option Reply) → asked ≡ uuid → IsTrue (in_service (λ serving. may_admit node serving a uuid && is_silent answer) found) → IsTrue (in_service (λ serving. eqb (length (present_of asked serving.part)) 0) found)
  none_admitted None a uuid answer same is = is
  none_admitted (Some serving) a uuid answer same is =
      subst (λ (u : List ℕ). IsTrue (eqb (length (present_of u serving.part)) 0)) (sym same) (and_parts _ (eqb (length (present_of uuid serving.part)) 0) (and_parts (may_admit node serving a uuid) (is_silent answer) is).0).1

  abbrev May : NodeAct → Type 0
  May act = IsTrue (may_be_done node view.settings.cache before act entry.answer)

  by_act : (act : NodeAct) → entry.act ≡ act → (ends : Ends) (line : List Turn) → IsTrue (admitted_course (marker_course ends) ends act line) → May act → IsTrue (turn_words (Begin asked at) (AtNode node before entry)) → LegalNode node view.settings.cache before → Settled line
  by_act Nothing acts ends [] follows may words legal = alone_settles may legal
  by_act Nothing acts ends (turn ∷ line) follows may words legal = absurd (false≢true follows)
  by_act (Admit a uuid) acts ends line follows may words legal =
      by_claim (none_admitted (service before) a uuid entry.answer (same_bytes asked uuid (subst (λ (done : NodeAct). IsTrue (node_words (Begin asked at) done)) acts words)) may) ends (record { attempt = a; uuid = uuid }) line follows
  by_act act acts ends line follows may words legal = absurd (false≢true follows)

-- what a begin's line needs beside its course
abbrev needs : LineView → Bool
needs view = keeps_rules view && carries_its_words view && comes_behind_legal view

begins_settle : (view : LineView) (asked : List ℕ) (at : ℕ) (turns : List Turn) (ends : Ends) → IsTrue (begin_course ends turns) → IsTrue (needs (with_turns view (Begin asked at) turns)) → (answer : Option Reply) × Settles (with_turns view (Begin asked at) turns) answer
begins_settle view asked at (AtNode node before entry ∷ line) ends follows so =
    let here : LineView = with_turns view (Begin asked at) (AtNode node before entry ∷ line) in
    let x = and_parts (keeps_rules here && carries_its_words here) (comes_behind_legal here) so in
    let y = and_parts (keeps_rules here) (carries_its_words here) x.0 in
    let rule = and_parts _ _ (and_parts (may_follow_at node view.settings.cache before entry) _ y.0).0 in
    let done = and_parts _ (may_be_done node view.settings.cache before entry.act entry.answer) rule.0 in
    by_act view asked at node before entry entry.act refl ends line follows done.1 (and_parts (turn_words (Begin asked at) (AtNode node before entry)) _ y.1).0 (and_parts (is_legal_node node view.settings.cache before) _ x.1).0
begins_settle view asked at (AtDoor place act ∷ line) ends follows so = absurd (false≢true follows)
begins_settle view asked at (AtOffice before entry ∷ line) ends follows so = absurd (false≢true follows)
begins_settle view asked at [] ends follows so = absurd (false≢true follows)

pub begins_exact : (asked : List ℕ) (at : ℕ) (view : LineView) (reply : Reply) → view.command ≡ Begin asked at → IsTrue (keeps_its_course view) → IsTrue (keeps_rules view) → IsTrue (carries_its_words view) → IsTrue (comes_behind_legal view) → IsTrue (cause view reply) → ExactlyCaused view reply
begins_exact asked at view reply e keeps rules words legal caused =
    by_turns_and needs view (Begin asked at) reply e keeps (and_from _ _ (and_from _ _ rules words) legal) caused (λ turns follows so. begins_settle view asked at turns (ends_of (with_turns view (Begin asked at) turns)) follows so)
