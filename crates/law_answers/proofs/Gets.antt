-- What a get is answered: by the attempt that its client holds, its pick, and what its fetch showed.
use Rattle.std.proofs.Common.{◌≡◌, ◌≤◌, ◌++◌, ◌+◌, ℕ, Bool, true, false, eqb, ◌&&◌, ◌||◌, not, List, [], ◌∷◌, length, map, filter, refl, sym, ap, subst, ◌∙◌, inl, inr, arith}
use Rattle.std.specs.Prelude.{IsTrue, Option, Some, None, Result, Ok, Err, if◌then◌else◌, is_none, nat_lt}
use Rattle.std.specs.List.{flat_map, list_any}
use Rattle.std.specs.Str.{bytes_eq}
use Rattle.std.proofs.lemmas.Bool.{and_from, and_parts, eqb-true, false≢true, or_cases, or_left, or_right, true_from_ne_false}
use Rattle.aft_id.specs.declared.txn_id.TxnId.{TxnId}
use Rattle.aft_id.specs.TxnId.{same_id}
use Rattle.aft_keeper.specs.declared.keeper.KeeperAnswer.{KeeperAnswer}
use Rattle.aft_keeper.specs.declared.keeper.KeeperAnswer.TheVariants as answers
use Rattle.aft_keeper.specs.declared.keeper.KeeperCall.TheVariants as calls
use Rattle.aft_keeper.specs.declared.keeper.Pair.{Pair}
use Rattle.aft_records.specs.declared.fault.RecordFault.{RecordFault}
use Rattle.aft_records.specs.declared.stored.Version.{Version}
use Rattle.aft_records.specs.Reading.{version_of}
use Rattle.aft_model.specs.declared.caller.Attempt.{Attempt}
use Rattle.aft_model.specs.declared.choice.Picked.{Picked}
use Rattle.aft_model.specs.declared.choice.Picked.TheVariants as picked
use Rattle.aft_model.specs.declared.door.DoorAct.TheVariants.{Call}
use Rattle.aft_model.specs.declared.door.DoorEntry.{DoorEntry}
use Rattle.aft_model.specs.declared.node.NodeAct.{NodeAct}
use Rattle.aft_model.specs.declared.node.NodeAct.TheVariants.{Nothing, Select}
use Rattle.aft_model.specs.declared.node.NodeEntry.{NodeEntry}
use Rattle.aft_model.specs.declared.reply.Reply.{Reply}
use Rattle.aft_model.specs.declared.reply.Reply.TheVariants as replies
use Rattle.aft_model.specs.declared.script.Command.TheVariants.{Get}
use Rattle.aft_model.specs.Attempts.{AttemptState, IsGone, IsRunning, attempt_state, is_gone, is_running}
use Rattle.aft_model.specs.Evidence.{pairs_by}
use Rattle.aft_model.specs.History.{first_of}
use Rattle.aft_model.specs.LegalNode.{may_be_done, may_follow_at, may_serve}
use Rattle.aft_model.specs.Membership.{incarnation, same_incarnation}
use Rattle.aft_model.specs.NodeRules.{answers_pick, pick, same_picked}
use Rattle.aft_model.specs.NodeState.{Service, in_service, service}
use Rattle.aft_model.specs.Opening.{has_failed, is_failure}
use Rattle.aft_model.specs.Readings.{has_reading, markers_in, read_under, records_in, version_name, versions_in}
use Rattle.aft_model.specs.Sound.{markers_prefix, records_prefix}
use Rattle.aft_model.specs.DoorKnowledge.{finds_absent}
use Rattle.aft_model.specs.NodeSights.{finds_version}
use Rattle.aft_model.proofs.Sights.{same_bytes}
use Rattle.aft_lines.specs.Causes.{ExactlyCaused, cause}
use Rattle.aft_lines.specs.CausesAttempts.{state_in}
use Rattle.aft_lines.specs.CausesReads.{found_nothing, found_value, of_get, picks}
use Rattle.aft_lines.specs.CausesScans.{damage_in, is_damage, is_written_name, listed_in, written_name}
use Rattle.aft_lines.specs.CourseWords.{Ends, caller_of, is_over}
use Rattle.aft_lines.specs.GetCourse.{fetch_course, get_after, get_course}
use Rattle.aft_lines.specs.LegalTrace.{act_of, is_held_attempt, node_words, turn_of, turn_words}
use Rattle.aft_lines.specs.LineView.{LineView, ends_of, is_served}
use Rattle.aft_lines.specs.Turns.{AtDoor, AtNode, AtOffice, Turn}
use Rattle.law_answers.specs.Courses.{carries_its_words, keeps_its_course, keeps_rules, speaks_of_its_attempt}
use Rattle.law_answers.proofs.Picks.{attempt_is, picked_is}
use Rattle.law_answers.proofs.Scans.{damaged, entries, many}
use Rattle.law_answers.proofs.Served.{served_so}
use Rattle.law_answers.proofs.Settled.{Settles, by_turns_and, with_turns}

-- ---- by the pick alone

abbrev told_pick : Picked → Option Reply
told_pick (picked.Own value) = Some (replies.Own value)
told_pick (picked.Cached id value) = Some (replies.Value id value)
told_pick (picked.Fetch id) = None
told_pick picked.Absent = Some replies.Absent
told_pick (picked.NoneFits blocked) = Some (replies.NoValidVersion blocked)

abbrev by_state : AttemptState → Picked → Option Reply
by_state IsGone what = Some replies.NoTransaction
by_state IsRunning what = told_pick what
by_state state what = Some replies.Committing

abbrev told_to_get : ℕ → List ℕ → Option Attempt → Option Service → Option Reply
told_to_get capacity key None found = Some replies.NoTransaction
told_to_get capacity key (Some a) None = None
told_to_get capacity key (Some a) (Some serving) = by_state (state_in a serving) (pick capacity serving a key)

picked_so : (state : AttemptState) (its what : Picked) → IsTrue (is_running state && same_picked its what) → told_pick what ≡ by_state state its
picked_so IsRunning its what is = sym (ap told_pick (picked_is its what is))
picked_so state its what is = absurd (false≢true is)

gone_so : (state : AttemptState) (what : Picked) → IsTrue (is_gone state) → Some replies.NoTransaction ≡ by_state state what
gone_so IsGone what is = refl
gone_so state what is = absurd (false≢true is)

refused_so : (state : AttemptState) (what : Picked) → IsTrue (not (is_gone state || is_running state)) → Some replies.Committing ≡ by_state state what
refused_so IsGone what is = absurd (false≢true is)
refused_so IsRunning what is = absurd (false≢true is)
refused_so state what is = refl

none_so : (capacity : ℕ) (key : List ℕ) (held : Option Attempt) (found : Option Service) → IsTrue (is_none held) → Some replies.NoTransaction ≡ told_to_get capacity key held found
none_so capacity key None found is = refl
none_so capacity key (Some a) found is = absurd (false≢true is)

-- whether a held attempt runs in the service that was found, and picks this
abbrev picks_of : ℕ → List ℕ → Picked → Option Attempt → Option Service → Bool
picks_of capacity key what held found = is_served (λ a serving. is_running (state_in a serving) && same_picked (pick capacity serving a key) what) held found

abbrev is_lost_of : Option Attempt → Option Service → Bool
is_lost_of held found = is_none held || is_served (λ a serving. is_gone (state_in a serving)) held found

abbrev is_refused_of : Option Attempt → Option Service → Bool
is_refused_of held found = is_served (λ a serving. not (is_gone (state_in a serving) || is_running (state_in a serving))) held found

pick_told : (capacity : ℕ) (key : List ℕ) (what : Picked) (held : Option Attempt) (found : Option Service) → IsTrue (picks_of capacity key what held found) → told_pick what ≡ told_to_get capacity key held found
pick_told capacity key what held found is =
    served_so (λ its service. told_pick what ≡ told_to_get capacity key its service) (λ a serving. is_running (state_in a serving) && same_picked (pick capacity serving a key) what) (λ a serving so. picked_so (state_in a serving) (pick capacity serving a key) what so) held found is

lost_told : (capacity : ℕ) (key : List ℕ) (held : Option Attempt) (found : Option Service) → IsTrue (is_lost_of held found) → Some replies.NoTransaction ≡ told_to_get capacity key held found
lost_told capacity key held found is = elim (or_cases (is_none held) (is_served (λ a serving. is_gone (state_in a serving)) held found) is) [
  | inl none ↦ none_so capacity key held found none
  | inr gone ↦ served_so (λ its service. Some replies.NoTransaction ≡ told_to_get capacity key its service) (λ a serving. is_gone (state_in a serving)) (λ a serving so. gone_so (state_in a serving) (pick capacity serving a key) so) held found gone
]

refused_told : (capacity : ℕ) (key : List ℕ) (held : Option Attempt) (found : Option Service) → IsTrue (is_refused_of held found) → Some replies.Committing ≡ told_to_get capacity key held found
refused_told capacity key held found is =
    served_so (λ its service. Some replies.Committing ≡ told_to_get capacity key its service) (λ a serving. not (is_gone (state_in a serving) || is_running (state_in a serving))) (λ a serving so. refused_so (state_in a serving) (pick capacity serving a key) so) held found is

-- what is asked of no entry is found in none
of_none : (test : Attempt → List ℕ → DoorEntry → Bool) (key : List ℕ) (held : Option Attempt) (done : List DoorEntry) → done ≡ [] → IsTrue (of_get (λ a its. list_any (test a its) done) (Get key) held) → ⊥
of_none test key None done none is = false≢true is
of_none test key (Some a) done none is = false≢true (subst (λ (es : List DoorEntry). IsTrue (list_any (test a key) es)) none is)

-- a get that does nothing at the door
module _ (view : LineView) (key : List ℕ) (node : ℕ) (before : List NodeEntry) (entry : NodeEntry) (rest : List Turn) (quiet : entries view.by rest ≡ []) where
  abbrev quiet_line : LineView
  quiet_line = with_turns view (Get key) (AtNode node before entry ∷ rest)

  abbrev quiet_told : Option Reply
  quiet_told = told_to_get view.settings.cache key view.hold.attempt (service before)

  quiet_settles : Settles quiet_line quiet_told
  quiet_settles (replies.Own value) caused = inr (pick_told view.settings.cache key (picked.Own value) view.hold.attempt (service before) caused)
  quiet_settles replies.Absent caused = inr (pick_told view.settings.cache key picked.Absent view.hold.attempt (service before) caused)
  quiet_settles (replies.NoValidVersion blocked) caused = inr (pick_told view.settings.cache key (picked.NoneFits blocked) view.hold.attempt (service before) caused)
  quiet_settles (replies.Value id value) caused = inr (elim (or_cases (picks (picked.Cached id value) quiet_line) (picks (picked.Fetch id) quiet_line && found_value id value quiet_line) caused) [
    | inl kept ↦ pick_told view.settings.cache key (picked.Cached id value) view.hold.attempt (service before) kept
    | inr fetched ↦ absurd (of_none (λ a its done. finds_version (caller_of a) its id value done.act) key view.hold.attempt (entries view.by rest) quiet (and_parts (picks (picked.Fetch id) quiet_line) (found_value id value quiet_line) fetched).1)
  ])
  quiet_settles (replies.Missing id) caused =
      absurd (of_none (λ a its done. finds_absent (caller_of a) (version_name its id) done.act) key view.hold.attempt (entries view.by rest) quiet (and_parts (picks (picked.Fetch id) quiet_line) (found_nothing id quiet_line) caused).1)
  quiet_settles replies.NoTransaction caused = inr (lost_told view.settings.cache key view.hold.attempt (service before) caused)
  quiet_settles replies.Committing caused = inr (refused_told view.settings.cache key view.hold.attempt (service before) caused)
  quiet_settles replies.StoreFault caused = absurd (false≢true (subst (λ (es : List DoorEntry). IsTrue (has_failed es)) quiet caused))
  quiet_settles replies.TooManyRecords caused = absurd (false≢true (sym (many_none quiet) ∙ caused))
    where
      many_none : entries view.by rest ≡ [] → many view.by rest ≡ false
      many_none none = ap (λ (es : List DoorEntry). nat_lt 20000 (length (flat_map (λ (done : DoorEntry). listed_in records_prefix done.act) es)) || nat_lt 20000 (length (flat_map (λ (done : DoorEntry). listed_in markers_prefix done.act) es))) none
  quiet_settles (replies.Damaged name) caused = absurd (false≢true (subst (λ (es : List DoorEntry). IsTrue (is_written_name name (first_of (flat_map (damage_in None) es)))) quiet (and_parts (is_written_name name (first_of (damaged view.by rest))) (not (many view.by rest)) caused).0))
  quiet_settles (replies.NodeDown which inc) caused = inl refl
  quiet_settles replies.NoMemory caused = inl refl
  quiet_settles reply caused = absurd (false≢true caused)

-- ---- by the fetch

-- what the version of a pair is answered as, or its damage
abbrev told_found : TxnId → List ℕ → List Version → Option Reply
told_found id name [] = Some (replies.Damaged (written_name name))
told_found id name (v ∷ versions) = Some (replies.Value id v.value)

abbrev told_fetch : TxnId → List ℕ → KeeperAnswer → Option Reply
told_fetch id name (answers.Found bytes) = told_found id name (versions_in (record { name = name; bytes = bytes }))
told_fetch id name answers.Absent = Some (replies.Missing id)
told_fetch id name answer = None

-- what is read under a name is one thing at most
pub read_few : {A : Type 0} (name : List ℕ) (its_name : A → List ℕ) (result : Result A RecordFault) → length (read_under name its_name result) ≤ 1
read_few name its_name (Ok x) = few (bytes_eq name (its_name x))
  where
    few : (its : Bool) → length (if its then x ∷ [] else []) ≤ 1
    few true = omega arith
    few false = omega arith
read_few name its_name (Err e) = omega arith

one_version : (pair : Pair) → length (versions_in pair) ≤ 1
one_version pair = read_few pair.name (λ (v : Version). version_name v.key v.id) (version_of pair.bytes)

value_so : (key value : List ℕ) (id its : TxnId) (name : List ℕ) (versions : List Version) → length versions ≤ 1 → id ≡ its → IsTrue (list_any (λ v. (bytes_eq key v.key && same_id id v.id) && bytes_eq value v.value) versions) → Some (replies.Value id value) ≡ told_found its name versions
value_so key value id its name [] few same is = absurd (false≢true is)
value_so key value id its name (v ∷ []) few same is = elim (or_cases ((bytes_eq key v.key && same_id id v.id) && bytes_eq value v.value) false is) [
  | inl here ↦ (let e : value ≡ v.value = same_bytes value v.value (and_parts (bytes_eq key v.key && same_id id v.id) (bytes_eq value v.value) here).1 in cc)
  | inr none ↦ absurd (false≢true none)
]
value_so key value id its name (v ∷ w ∷ versions) few same is = absurd (omega arith)

missing_so : (id its : TxnId) (node inc : ℕ) (who : Attempt) (wanted name : List ℕ) (answer : KeeperAnswer) → id ≡ its → IsTrue (finds_absent (caller_of who) wanted (Call node inc (calls.Get name) answer) || false) → Some (replies.Missing id) ≡ told_fetch its name answer
missing_so id its node inc who wanted name answers.Absent same is = ap (λ (i : TxnId). Some (replies.Missing i)) same
missing_so id its node inc who wanted name answer same is = absurd (false≢true is)

found_so : (key value : List ℕ) (id its : TxnId) (node inc : ℕ) (who : Attempt) (name : List ℕ) (answer : KeeperAnswer) → id ≡ its → IsTrue (finds_version (caller_of who) key id value (Call node inc (calls.Get name) answer) || false) → Some (replies.Value id value) ≡ told_fetch its name answer
found_so key value id its node inc who name (answers.Found bytes) same is = elim (or_cases (finds_version (caller_of who) key id value (Call node inc (calls.Get name) (answers.Found bytes))) false is) [
  | inl here ↦ value_so key value id its name (versions_in (record { name = name; bytes = bytes })) (one_version (record { name = name; bytes = bytes })) same (and_parts (same_incarnation (caller_of who) (incarnation node inc)) _ here).1
  | inr none ↦ absurd (false≢true none)
]
found_so key value id its node inc who name answer same is = absurd (false≢true is)

failed_so : (its : TxnId) (node inc : ℕ) (name : List ℕ) (answer : KeeperAnswer) → IsTrue (is_failure (Call node inc (calls.Get name) answer) || false) → None ≡ told_fetch its name answer
failed_so its node inc name answers.Failed is = refl
failed_so its node inc name answer is = absurd (false≢true is)

no_versions : (id : TxnId) (name : List ℕ) (versions : List Version) → length versions ≡ 0 → Some (replies.Damaged (written_name name)) ≡ told_found id name versions
no_versions id name [] none = refl
no_versions id name (v ∷ versions) none = absurd (omega arith)

pair_damage : (id : TxnId) (pair : Pair) (written : List ℕ) → IsTrue (is_written_name written (first_of (map (λ (p : Pair). p.name) (filter (is_damage None) (pair ∷ [])) ++ []))) → Some (replies.Damaged written) ≡ told_found id pair.name (versions_in pair)
pair_damage id pair written is = cases (has_reading pair) refl is
  where
    cases : (has : Bool) → has_reading pair ≡ has → IsTrue (is_written_name written (first_of (map (λ (p : Pair). p.name) (if not has || false then pair ∷ [] else []) ++ []))) → Some (replies.Damaged written) ≡ told_found id pair.name (versions_in pair)
    cases true e is = absurd (false≢true is)
    cases false e is =
        let sum : length (records_in pair) + length (markers_in pair) + length (versions_in pair) ≡ 0 = eqb-true (length (records_in pair) + length (markers_in pair) + length (versions_in pair)) 0 (true_from_ne_false _ (λ f. false≢true (sym e ∙ ap not f))) in
        let none : length (versions_in pair) ≡ 0 = omega arith in
        ap (λ (n : List ℕ). Some (replies.Damaged n)) (same_bytes written (written_name pair.name) is) ∙ no_versions id pair.name (versions_in pair) none

damage_so : (id : TxnId) (name : List ℕ) (answer : KeeperAnswer) (written : List ℕ) → IsTrue (is_written_name written (first_of (map (λ (p : Pair). p.name) (filter (is_damage None) (pairs_by (calls.Get name) answer)) ++ []))) → Some (replies.Damaged written) ≡ told_fetch id name answer
damage_so id name (answers.Found bytes) written is = pair_damage id (record { name = name; bytes = bytes }) written is
damage_so id name answer written is = absurd (false≢true is)

-- ---- an attempt that fetches

running_stays : (state : AttemptState) → IsTrue (is_running state) → IsTrue (is_gone state || not (is_gone state || is_running state)) → ⊥
running_stays IsRunning runs is = false≢true is
running_stays state runs is = false≢true runs

module _ (capacity node : ℕ) (key : List ℕ) (a : Attempt) (id : TxnId) (answer : Option Reply) where
  -- whether the fetch may begin in this service
  abbrev may_fetch : Service → Bool
  may_fetch serving = may_serve node capacity (Select a key (picked.Fetch id)) answer serving

  runs_so : (serving : Service) → IsTrue (may_fetch serving) → IsTrue (is_running (attempt_state a serving.part))
  runs_so serving may = (and_parts (is_running (attempt_state a serving.part)) (same_picked (pick capacity serving a key) (picked.Fetch id)) (and_parts (is_running (attempt_state a serving.part) && same_picked (pick capacity serving a key) (picked.Fetch id)) (answers_pick (picked.Fetch id) answer) may).0).0

  picks_so : (serving : Service) → IsTrue (may_fetch serving) → pick capacity serving a key ≡ picked.Fetch id
  picks_so serving may = picked_is (pick capacity serving a key) (picked.Fetch id) (and_parts (is_running (attempt_state a serving.part)) (same_picked (pick capacity serving a key) (picked.Fetch id)) (and_parts (is_running (attempt_state a serving.part) && same_picked (pick capacity serving a key) (picked.Fetch id)) (answers_pick (picked.Fetch id) answer) may).0).1

  what_fetched : (what : Picked) (held : Option Attempt) (found : Option Service) → IsTrue (is_held_attempt held a) → IsTrue (in_service may_fetch found) → IsTrue (picks_of capacity key what held found) → what ≡ picked.Fetch id
  what_fetched what None found own may is = absurd (false≢true own)
  what_fetched what (Some b) None own may is = absurd (false≢true may)
  what_fetched what (Some b) (Some serving) own may is =
      let parts = and_parts (is_running (state_in b serving)) (same_picked (pick capacity serving b key) what) (and_parts (eqb b.inc serving.inc) _ is).1 in
      sym (picked_is (pick capacity serving b key) what parts.1) ∙ ap (λ (c : Attempt). pick capacity serving c key) (attempt_is b a own) ∙ picks_so serving may

  lost_not : (held : Option Attempt) (found : Option Service) → IsTrue (is_held_attempt held a) → IsTrue (in_service may_fetch found) → IsTrue (is_lost_of held found) → ⊥
  lost_not None found own may is = false≢true own
  lost_not (Some b) None own may is = false≢true may
  lost_not (Some b) (Some serving) own may is =
      running_stays (attempt_state a serving.part) (runs_so serving may) (or_left _ _ (subst (λ (c : Attempt). IsTrue (is_gone (attempt_state c serving.part))) (attempt_is b a own) (and_parts (eqb b.inc serving.inc) (is_gone (state_in b serving)) is).1))

  refused_not : (held : Option Attempt) (found : Option Service) → IsTrue (is_held_attempt held a) → IsTrue (in_service may_fetch found) → IsTrue (is_refused_of held found) → ⊥
  refused_not None found own may is = false≢true own
  refused_not (Some b) None own may is = false≢true may
  refused_not (Some b) (Some serving) own may is =
      running_stays (attempt_state a serving.part) (runs_so serving may) (or_right _ _ (subst (λ (c : Attempt). IsTrue (not (is_gone (attempt_state c serving.part) || is_running (attempt_state c serving.part)))) (attempt_is b a own) (and_parts (eqb b.inc serving.inc) _ is).1))

fetch_is : (id its : TxnId) → picked.Fetch id ≡ picked.Fetch its → id ≡ its
fetch_is id its e = cc

-- a find among the one entry
of_one : (test : Attempt → List ℕ → Bool) (so : Type 0) (key : List ℕ) (held : Option Attempt) → ((a : Attempt) → IsTrue (test a key) → so) → IsTrue (of_get test (Get key) held) → so
of_one test so key None here is = absurd (false≢true is)
of_one test so key (Some a) here is = here a is

module _ (view : LineView) (key : List ℕ) (node : ℕ) (before : List NodeEntry) (entry : NodeEntry) (a : Attempt) (id : TxnId) (answered : Option Reply)
    (own : IsTrue (is_held_attempt view.hold.attempt a)) (may : IsTrue (in_service (may_fetch view.settings.cache node key a id answered) (service before)))
    (place its inc : ℕ) (name : List ℕ) (answer : KeeperAnswer) (at : ℕ) (later : List NodeEntry) (last : NodeEntry) where
  abbrev fetch_line : LineView
  fetch_line = with_turns view (Get key) (AtNode node before entry ∷ AtDoor place (Call its inc (calls.Get name) answer) ∷ AtNode at later last ∷ [])

  fetched : (what : Picked) → IsTrue (picks what fetch_line) → what ≡ picked.Fetch id
  fetched what is = what_fetched view.settings.cache node key a id answered what view.hold.attempt (service before) own may is

  fetch_settles : Settles fetch_line (told_fetch id name answer)
  fetch_settles (replies.Own value) caused = absurd (cc (fetched (picked.Own value) caused))
  fetch_settles replies.Absent caused = absurd (cc (fetched picked.Absent caused))
  fetch_settles (replies.NoValidVersion blocked) caused = absurd (cc (fetched (picked.NoneFits blocked) caused))
  fetch_settles (replies.Value found value) caused = inr (elim (or_cases (picks (picked.Cached found value) fetch_line) (picks (picked.Fetch found) fetch_line && found_value found value fetch_line) caused) [
    | inl kept ↦ absurd (cc (fetched (picked.Cached found value) kept))
    | inr shown ↦ (let parts = and_parts (picks (picked.Fetch found) fetch_line) (found_value found value fetch_line) shown in
        of_one (λ who wanted. finds_version (caller_of who) wanted found value (Call its inc (calls.Get name) answer) || false) (Some (replies.Value found value) ≡ told_fetch id name answer) key view.hold.attempt
        (λ who here. found_so key value found id its inc who name answer (fetch_is found id (fetched (picked.Fetch found) parts.0)) here) parts.1)
  ])
  fetch_settles (replies.Missing found) caused = inr (let parts = and_parts (picks (picked.Fetch found) fetch_line) (found_nothing found fetch_line) caused in
      of_one (λ who wanted. finds_absent (caller_of who) (version_name wanted found) (Call its inc (calls.Get name) answer) || false) (Some (replies.Missing found) ≡ told_fetch id name answer) key view.hold.attempt
      (λ who here. missing_so found id its inc who (version_name key found) name answer (fetch_is found id (fetched (picked.Fetch found) parts.0)) here) parts.1)
  fetch_settles replies.NoTransaction caused = absurd (lost_not view.settings.cache node key a id answered view.hold.attempt (service before) own may caused)
  fetch_settles replies.Committing caused = absurd (refused_not view.settings.cache node key a id answered view.hold.attempt (service before) own may caused)
  fetch_settles replies.StoreFault caused = inr (failed_so id its inc name answer caused)
  fetch_settles (replies.Damaged written) caused = inr (damage_so id name answer written (and_parts _ true caused).0)
  fetch_settles (replies.NodeDown which down) caused = inl refl
  fetch_settles replies.NoMemory caused = inl refl
  fetch_settles reply caused = absurd (false≢true caused)

-- ---- any get

module _ (view : LineView) (key : List ℕ) (node : ℕ) (before : List NodeEntry) (entry : NodeEntry) where
  abbrev Settled : List Turn → Type 0
  Settled line = (answer : Option Reply) × Settles (with_turns view (Get key) (AtNode node before entry ∷ line)) answer

  quietly : (line : List Turn) → entries view.by line ≡ [] → Settled line
  quietly line none = (quiet_told view key node before entry line none, quiet_settles view key node before entry line none)

  overly : (line : List Turn) → IsTrue (is_over line) → Settled line
  overly [] follows = quietly [] refl
  overly (turn ∷ line) follows = absurd (false≢true follows)

  -- the held attempt fetches its key, and may do so
  module _ (a : Attempt) (its : List ℕ) (id : TxnId) (selects : entry.act ≡ Select a its (picked.Fetch id)) (legal : IsTrue (may_follow_at node view.settings.cache before entry)) (words : IsTrue (turn_words (Get key) (AtNode node before entry))) (held : IsTrue (turn_of view.hold.attempt (AtNode node before entry))) where
    own : IsTrue (is_held_attempt view.hold.attempt a)
    own = subst (λ (act : NodeAct). IsTrue (act_of view.hold.attempt act)) selects held

    its_key : key ≡ its
    its_key = same_bytes key its (subst (λ (act : NodeAct). IsTrue (node_words (Get key) act)) selects words)

    may : IsTrue (in_service (may_fetch view.settings.cache node key a id entry.answer) (service before))
    may =
        let x = and_parts _ _ legal in
        let y = and_parts _ (may_be_done node view.settings.cache before entry.act entry.answer) x.0 in
        subst (λ (k : List ℕ). IsTrue (in_service (may_serve node view.settings.cache (Select a k (picked.Fetch id)) entry.answer) (service before))) (sym its_key)
        (subst (λ (act : NodeAct). IsTrue (may_be_done node view.settings.cache before act entry.answer)) selects y.1)

    fetching : (ends : Ends) (line : List Turn) → IsTrue (fetch_course ends a its id line) → Settled line
    fetching ends (AtDoor place (Call who inc (calls.Get name) answer) ∷ AtNode at later last ∷ []) follows = (told_fetch id name answer, fetch_settles view key node before entry a id entry.answer own may place who inc name answer at later last)
    fetching ends (AtDoor place (Call who inc (calls.Get name) answer) ∷ AtNode at later last ∷ turn ∷ line) follows = absurd (false≢true (and_parts _ false follows).1)
    fetching ends (AtDoor place (Call who inc (calls.Get name) answer) ∷ AtDoor other act ∷ line) follows = absurd (false≢true (and_parts _ false follows).1)
    fetching ends (AtDoor place (Call who inc (calls.Get name) answer) ∷ AtOffice earlier done ∷ line) follows = absurd (false≢true (and_parts _ false follows).1)
    fetching ends (AtDoor place (Call who inc (calls.Get name) answer) ∷ []) follows = absurd (false≢true (and_parts _ false follows).1)
    fetching ends (AtNode at later last ∷ []) follows = quietly (AtNode at later last ∷ []) refl
    fetching ends (AtNode at later last ∷ turn ∷ line) follows = absurd (false≢true follows)
    fetching ends (AtDoor place act ∷ line) follows = absurd (false≢true follows)
    fetching ends (AtOffice earlier done ∷ line) follows = absurd (false≢true follows)
    fetching ends [] follows = absurd (false≢true follows)

  by_act : (act : NodeAct) → entry.act ≡ act → (ends : Ends) (line : List Turn) → IsTrue (get_after ends act line) → IsTrue (may_follow_at node view.settings.cache before entry) → IsTrue (turn_words (Get key) (AtNode node before entry)) → IsTrue (turn_of view.hold.attempt (AtNode node before entry)) → Settled line
  by_act (Select a its (picked.Fetch id)) selects ends line follows legal words held = fetching a its id selects legal words held ends line follows
  by_act (Select a its what) selects ends line follows legal words held = overly line follows
  by_act Nothing selects ends line follows legal words held = overly line follows
  by_act act selects ends line follows legal words held = absurd (false≢true follows)

-- what a get's line needs beside its course
abbrev needs : LineView → Bool
needs view = keeps_rules view && (carries_its_words view && speaks_of_its_attempt view)

gets_settle : (view : LineView) (key : List ℕ) (turns : List Turn) (ends : Ends) → IsTrue (get_course ends turns) → IsTrue (needs (with_turns view (Get key) turns)) → (answer : Option Reply) × Settles (with_turns view (Get key) turns) answer
gets_settle view key (AtNode node before entry ∷ line) ends follows so =
    let here : LineView = with_turns view (Get key) (AtNode node before entry ∷ line) in
    let x = and_parts (keeps_rules here) (carries_its_words here && speaks_of_its_attempt here) so in
    let y = and_parts (carries_its_words here) (speaks_of_its_attempt here) x.1 in
    by_act view key node before entry entry.act refl ends line follows (and_parts (may_follow_at node view.settings.cache before entry) _ x.0).0 (and_parts (turn_words (Get key) (AtNode node before entry)) _ y.0).0 (and_parts (turn_of view.hold.attempt (AtNode node before entry)) _ y.1).0
gets_settle view key (AtDoor place act ∷ line) ends follows so = absurd (false≢true follows)
gets_settle view key (AtOffice before entry ∷ line) ends follows so = absurd (false≢true follows)
gets_settle view key [] ends follows so = absurd (false≢true follows)

pub gets_exact : (key : List ℕ) (view : LineView) (reply : Reply) → view.command ≡ Get key → IsTrue (keeps_its_course view) → IsTrue (keeps_rules view) → IsTrue (carries_its_words view) → IsTrue (speaks_of_its_attempt view) → IsTrue (cause view reply) → ExactlyCaused view reply
gets_exact key view reply e keeps rules words speaks caused =
    by_turns_and needs view (Get key) reply e keeps (and_from _ _ rules (and_from _ _ words speaks)) caused (λ turns follows so. gets_settle view key turns (ends_of (with_turns view (Get key) turns)) follows so)
