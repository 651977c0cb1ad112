-- What an abort is answered: by the attempt that its client holds, and where that is in doubt, by what its get of the record showed.
use Rattle.std.proofs.Common.{◌≡◌, ◌≤◌, ◌++◌, ◌+◌, ℕ, zero, suc, Bool, true, false, eqb, ◌&&◌, ◌||◌, not, List, [], ◌∷◌, length, map, refl, sym, ap, subst, ◌∙◌, inl, inr, arith}
use Rattle.std.specs.Prelude.{IsTrue, Option, Some, None, if◌then◌else◌, is_none, nat_lt}
use Rattle.std.specs.List.{flat_map, list_any}
use Rattle.std.specs.Str.{bytes_eq}
use Rattle.std.proofs.lemmas.Bool.{and_from, and_parts, eqb-true, false≢true, or_cases, true_from_ne_false}
use Rattle.aft_id.specs.declared.txn_id.TxnId.{TxnId}
use Rattle.aft_id.specs.TxnId.{same_id}
use Rattle.aft_keeper.specs.declared.keeper.KeeperAnswer.{KeeperAnswer}
use Rattle.aft_keeper.specs.declared.keeper.KeeperAnswer.TheVariants as answers
use Rattle.aft_keeper.specs.declared.keeper.KeeperCall.TheVariants as calls
use Rattle.aft_keeper.specs.declared.keeper.Pair.{Pair}
use Rattle.aft_records.specs.declared.stored.Commit.{Commit}
use Rattle.aft_records.specs.Commits.{is_among, same_commit}
use Rattle.aft_records.specs.Reading.{commit_of}
use Rattle.aft_model.specs.declared.caller.Attempt.{Attempt}
use Rattle.aft_model.specs.declared.caller.By.{By}
use Rattle.aft_model.specs.declared.door.DoorAct.TheVariants.{Call, Release}
use Rattle.aft_model.specs.declared.door.DoorEntry.{DoorEntry}
use Rattle.aft_model.specs.declared.node.NodeAct.{NodeAct}
use Rattle.aft_model.specs.declared.node.NodeAct.TheVariants.{Leave, Nothing, Settle, Stored}
use Rattle.aft_model.specs.declared.node.NodeEntry.{NodeEntry}
use Rattle.aft_model.specs.declared.reply.Reply.{Reply}
use Rattle.aft_model.specs.declared.reply.Reply.TheVariants as replies
use Rattle.aft_model.specs.declared.script.Command.TheVariants.{Abort}
use Rattle.aft_model.specs.Attempts.{AttemptState, IsGone, IsInDoubt, IsRunning, attempt_state, buffer, fixed_commit, is_committing, is_gone, is_in_doubt, is_leaving, is_opening, is_running, open_reads, same_attempt, uuid_of}
use Rattle.aft_model.specs.Evidence.{is_absence, shows_absent}
use Rattle.aft_model.specs.History.{first_of}
use Rattle.aft_model.specs.LegalNode.{may_be_done, may_follow_at}
use Rattle.aft_model.specs.NodeSights.{is_stored_by}
use Rattle.aft_model.specs.NodeState.{Service, in_service, part, service}
use Rattle.aft_model.specs.Opening.{has_failed, is_failure}
use Rattle.aft_model.specs.Readings.{has_reading, markers_in, record_name, records_in, versions_in}
use Rattle.aft_model.specs.Replies.{is_silent}
use Rattle.aft_model.specs.Sound.{markers_prefix, records_prefix}
use Rattle.aft_model.proofs.Ids.{same_ids}
use Rattle.aft_model.proofs.Pins.{same_attempts}
use Rattle.aft_model.proofs.Sights.{same_bytes}
use Rattle.aft_lines.specs.Causes.{ExactlyCaused, cause}
use Rattle.aft_lines.specs.CausesAttempts.{state_in}
use Rattle.aft_lines.specs.CausesCommits.{is_found_absent}
use Rattle.aft_lines.specs.CausesScans.{damage_in, is_damage, is_written_name, listed_in, written_name}
use Rattle.aft_lines.specs.CommitCourse.{Storing, doubts, ends_in_doubt, ends_with, finish_after, finish_course, gets_record, is_release_of, leave_course, leaves, release_aborted, release_stored, settle_course, settled, settles, stored_after, stored_course, storing_of, takes_away, tells_aborted, tells_committed, tells_left}
use Rattle.aft_lines.specs.CourseWords.{Ends, answers_down, any_answer, caller_of, closes, ends_at_node, ends_shut_out, finds_record, is_over, tells_down, tells_no_memory, tells_refused}
use Rattle.aft_lines.specs.LegalTrace.{act_of, is_held_attempt, turn_of}
use Rattle.aft_lines.specs.LineView.{LineView, ends_of, fixed_by, is_fixed, is_served}
use Rattle.aft_lines.specs.Turns.{AtDoor, AtNode, AtOffice, Turn}
use Rattle.law_answers.specs.Courses.{keeps_its_course, keeps_rules, speaks_of_its_attempt}
use Rattle.law_answers.proofs.Forgets.{Tail}
use Rattle.law_answers.proofs.Gets.{read_few}
use Rattle.law_answers.proofs.Scans.{entries}
use Rattle.law_answers.proofs.Served.{served_so}
use Rattle.law_answers.proofs.Starts.{quiet}
use Rattle.law_answers.proofs.Settled.{Settles, by_turns_and, with_turns}

-- ---- what entries tell an abort

-- what an abort whose attempt has fixed this commit, if it has, is told by what it did at the door
record Tells (fixed : Option Commit) (done : List DoorEntry) (answer : Option Reply) : Type 0 where
  failed : IsTrue (has_failed done) → None ≡ answer
  damage : (written : List ℕ) → IsTrue (is_written_name written (first_of (flat_map (damage_in fixed) done))) → Some (replies.Damaged written) ≡ answer
  committed : (id : TxnId) → IsTrue (is_fixed (λ c. same_id id c.id && is_stored_by c done) fixed) → Some (replies.Committed id) ≡ answer
  absent : IsTrue (is_fixed (λ c. list_any (shows_absent (record_name c.id.uuid)) done) fixed) → Some replies.Aborted ≡ answer
  few : (nat_lt 20000 (length (flat_map (λ (entry : DoorEntry). listed_in records_prefix entry.act) done)) || nat_lt 20000 (length (flat_map (λ (entry : DoorEntry). listed_in markers_prefix entry.act) done))) ≡ false

-- a commit that is stored by none is none
stored_nowhere : (id : TxnId) (fixed : Option Commit) (done : List DoorEntry) → ((c : Commit) → is_stored_by c done ≡ false) → IsTrue (is_fixed (λ c. same_id id c.id && is_stored_by c done) fixed) → ⊥
stored_nowhere id None done none is = false≢true is
stored_nowhere id (Some c) done none is = false≢true (sym (none c) ∙ (and_parts (same_id id c.id) (is_stored_by c done) is).1)

absent_nowhere : (fixed : Option Commit) (done : List DoorEntry) → ((c : Commit) → list_any (shows_absent (record_name c.id.uuid)) done ≡ false) → IsTrue (is_fixed (λ c. list_any (shows_absent (record_name c.id.uuid)) done) fixed) → ⊥
absent_nowhere None done none is = false≢true is
absent_nowhere (Some c) done none is = false≢true (sym (none c) ∙ is)

nothing_tells : (fixed : Option Commit) (answer : Option Reply) → Tells fixed [] answer
nothing_tells fixed answer = record {
  failed = λ is. absurd (false≢true is);
  damage = λ written is. absurd (false≢true is);
  committed = λ id is. absurd (stored_nowhere id fixed [] (λ c. refl) is);
  absent = λ is. absurd (absent_nowhere fixed [] (λ c. refl) is);
  few = refl;
}

-- ---- what its attempt tells

-- what it is told by the attempt that its client holds
record Finds (held : Option Attempt) (found : Option Service) (answer : Option Reply) : Type 0 where
  lost : IsTrue (is_none held || is_served (λ a serving. is_gone (state_in a serving)) held found) → Some replies.NoTransaction ≡ answer
  refused : IsTrue (is_served (λ a serving. (is_opening (state_in a serving) || is_committing (state_in a serving)) || is_leaving (state_in a serving)) held found) → Some replies.Committing ≡ answer
  reading : (count : ℕ) → IsTrue (not (eqb count 0)) → IsTrue (is_served (λ a serving. is_running (state_in a serving) && eqb (open_reads a serving.part) count) held found) → Some (replies.OpenReads count) ≡ answer
  ready : IsTrue (is_served (λ a serving. (is_running (state_in a serving) && eqb (open_reads a serving.part) 0) && true) held found) → Some replies.Aborted ≡ answer

abbrev by_state : AttemptState → ℕ → Option Reply
by_state IsGone count = Some replies.NoTransaction
by_state IsRunning zero = Some replies.Aborted
by_state IsRunning (suc count) = Some (replies.OpenReads (suc count))
by_state (IsInDoubt c) count = None
by_state state count = Some replies.Committing

abbrev told_to_abort : Option Attempt → Option Service → Option Reply
told_to_abort None found = Some replies.NoTransaction
told_to_abort (Some a) None = None
told_to_abort (Some a) (Some serving) = by_state (state_in a serving) (open_reads a serving.part)

gone_so : (state : AttemptState) (count : ℕ) → IsTrue (is_gone state) → Some replies.NoTransaction ≡ by_state state count
gone_so IsGone count is = refl
gone_so state count is = absurd (false≢true is)

refused_so : (state : AttemptState) (count : ℕ) → IsTrue ((is_opening state || is_committing state) || is_leaving state) → Some replies.Committing ≡ by_state state count
refused_so IsGone count is = absurd (false≢true is)
refused_so IsRunning count is = absurd (false≢true is)
refused_so (IsInDoubt c) count is = absurd (false≢true is)
refused_so state count is = refl

reading_so : (state : AttemptState) (its count : ℕ) → IsTrue (not (eqb count 0)) → IsTrue (is_running state && eqb its count) → Some (replies.OpenReads count) ≡ by_state state its
reading_so IsRunning zero count some is = (let e : zero ≡ count = eqb-true zero count is in absurd (false≢true (subst (λ (n : ℕ). IsTrue (not (eqb n 0))) (sym e) some)))
reading_so IsRunning (suc its) count some is = ap (λ (n : ℕ). Some (replies.OpenReads n)) (sym (eqb-true (suc its) count is))
reading_so state its count some is = absurd (false≢true is)

ready_so : (state : AttemptState) (its : ℕ) → IsTrue ((is_running state && eqb its 0) && true) → Some replies.Aborted ≡ by_state state its
ready_so IsRunning zero is = refl
ready_so IsRunning (suc its) is = absurd (cc (eqb-true (suc its) 0 (and_parts (eqb (suc its) 0) true is).0))
ready_so state its is = absurd (false≢true is)

none_so : (held : Option Attempt) (found : Option Service) → IsTrue (is_none held) → Some replies.NoTransaction ≡ told_to_abort held found
none_so None found is = refl
none_so (Some a) found is = absurd (false≢true is)

finds_told : (held : Option Attempt) (found : Option Service) → Finds held found (told_to_abort held found)
finds_told held found = record {
  lost = λ is. elim (or_cases (is_none held) (is_served (λ a serving. is_gone (state_in a serving)) held found) is) [
    | inl none ↦ none_so held found none
    | inr gone ↦ served_so (λ its service. Some replies.NoTransaction ≡ told_to_abort its service) (λ a serving. is_gone (state_in a serving)) (λ a serving so. gone_so (state_in a serving) (open_reads a serving.part) so) held found gone
  ];
  refused = λ is. served_so (λ its service. Some replies.Committing ≡ told_to_abort its service) (λ a serving. (is_opening (state_in a serving) || is_committing (state_in a serving)) || is_leaving (state_in a serving)) (λ a serving so. refused_so (state_in a serving) (open_reads a serving.part) so) held found is;
  reading = λ count some is. served_so (λ its service. Some (replies.OpenReads count) ≡ told_to_abort its service) (λ a serving. is_running (state_in a serving) && eqb (open_reads a serving.part) count) (λ a serving so. reading_so (state_in a serving) (open_reads a serving.part) count some so) held found is;
  ready = λ is. served_so (λ its service. Some replies.Aborted ≡ told_to_abort its service) (λ a serving. (is_running (state_in a serving) && eqb (open_reads a serving.part) 0) && true) (λ a serving so. ready_so (state_in a serving) (open_reads a serving.part) so) held found is;
}

-- an attempt in doubt tells nothing
pub doubt_not_gone : (state : AttemptState) → IsTrue (is_in_doubt state) → IsTrue (is_gone state) → ⊥
doubt_not_gone IsGone doubt is = false≢true doubt
doubt_not_gone state doubt is = false≢true is

pub doubt_not_running : (state : AttemptState) → IsTrue (is_in_doubt state) → IsTrue (is_running state) → ⊥
doubt_not_running IsRunning doubt is = false≢true doubt
doubt_not_running state doubt is = false≢true is

pub doubt_not_refused : (state : AttemptState) → IsTrue (is_in_doubt state) → IsTrue ((is_opening state || is_committing state) || is_leaving state) → ⊥
doubt_not_refused (IsInDoubt c) doubt is = false≢true is
doubt_not_refused state doubt is = false≢true doubt

module _ (a : Attempt) where
  abbrev pub in_doubt : Option Service → Bool
  in_doubt found = in_service (λ serving. is_in_doubt (attempt_state a serving.part)) found

  -- what a held attempt passes in a service that it is in doubt in
  pub doubted : (test : AttemptState → ℕ → Bool) → ((state : AttemptState) (count : ℕ) → IsTrue (is_in_doubt state) → IsTrue (test state count) → ⊥) → (held : Option Attempt) (found : Option Service) → IsTrue (is_held_attempt held a) → IsTrue (in_doubt found)
      → IsTrue (is_served (λ b serving. test (state_in b serving) (open_reads b serving.part)) held found) → ⊥
  doubted test never None found own doubt is = false≢true own
  doubted test never (Some b) None own doubt is = false≢true doubt
  doubted test never (Some b) (Some serving) own doubt is =
      never (attempt_state b serving.part) (open_reads b serving.part) (subst (λ (c : Attempt). IsTrue (is_in_doubt (attempt_state c serving.part))) (sym (same_attempts b a own)) doubt) (and_parts (eqb b.inc serving.inc) _ is).1

  pub held_some : (held : Option Attempt) → IsTrue (is_held_attempt held a) → IsTrue (is_none held) → ⊥
  held_some None own none = false≢true own
  held_some (Some b) own none = false≢true none

  finds_doubt : (held : Option Attempt) (found : Option Service) (answer : Option Reply) → IsTrue (is_held_attempt held a) → IsTrue (in_doubt found) → Finds held found answer
  finds_doubt held found answer own doubt = record {
    lost = λ is. absurd (elim (or_cases (is_none held) (is_served (λ b serving. is_gone (state_in b serving)) held found) is) [
      | inl none ↦ held_some held own none
      | inr gone ↦ doubted (λ state count. is_gone state) (λ state count its so. doubt_not_gone state its so) held found own doubt gone
    ]);
    refused = λ is. absurd (doubted (λ state count. (is_opening state || is_committing state) || is_leaving state) (λ state count its so. doubt_not_refused state its so) held found own doubt is);
    reading = λ count some is. absurd (doubted (λ state its. is_running state && eqb its count) (λ state its in_it so. doubt_not_running state in_it (and_parts (is_running state) (eqb its count) so).0) held found own doubt is);
    ready = λ is. absurd (doubted (λ state its. (is_running state && eqb its 0) && true) (λ state its in_it so. doubt_not_running state in_it (and_parts (is_running state) (eqb its 0) (and_parts (is_running state && eqb its 0) true so).0).0) held found own doubt is);
  }

module _ (view : LineView) (node : ℕ) (before : List NodeEntry) (entry : NodeEntry) (rest : List Turn) (answer : Option Reply) where
  abbrev here : LineView
  here = with_turns view Abort (AtNode node before entry ∷ rest)

  abbrev its_fixed : Option Commit
  its_fixed = fixed_by view.hold.attempt (part (before ++ entry ∷ []))

  abort_settles : Tells its_fixed (entries view.by rest) answer → Finds view.hold.attempt (service before) answer → Settles here answer
  abort_settles tells finds replies.NoTransaction caused = inr (finds.lost caused)
  abort_settles tells finds replies.Committing caused = inr (finds.refused caused)
  abort_settles tells finds (replies.OpenReads count) caused = (let parts = and_parts (not (eqb count 0)) _ caused in inr (finds.reading count parts.0 parts.1))
  abort_settles tells finds replies.Aborted caused = inr (elim (or_cases (is_served (λ a serving. (is_running (state_in a serving) && eqb (open_reads a serving.part) 0) && true) view.hold.attempt (service before)) (is_found_absent here) caused) [
    | inl ready ↦ finds.ready ready
    | inr absent ↦ tells.absent (and_parts (is_served (λ a serving. is_in_doubt (state_in a serving)) view.hold.attempt (service before)) _ absent).1
  ])
  abort_settles tells finds (replies.Committed id) caused = inr (tells.committed id caused)
  abort_settles tells finds (replies.Damaged written) caused = inr (tells.damage written (and_parts (is_written_name written (first_of (flat_map (damage_in its_fixed) (entries view.by rest)))) _ caused).0)
  abort_settles tells finds replies.StoreFault caused = inr (tells.failed caused)
  abort_settles tells finds replies.TooManyRecords caused = absurd (false≢true (sym tells.few ∙ caused))
  abort_settles tells finds (replies.NodeDown which inc) caused = inl refl
  abort_settles tells finds replies.NoMemory caused = inl refl
  abort_settles tells finds reply caused = absurd (false≢true caused)

-- ---- the get of the record

-- by the commits of the records that a pair is
abbrev told_read : Option Commit → List ℕ → List Commit → Bool → Option Reply
told_read None name commits true = None
told_read None name commits false = Some (replies.Damaged (written_name name))
told_read (Some c) name [] true = None
told_read (Some c) name [] false = Some (replies.Damaged (written_name name))
told_read (Some c) name (d ∷ commits) has = if same_commit c d then Some (replies.Committed c.id) else Some (replies.Damaged (written_name name))

abbrev told_get : Option Commit → List ℕ → KeeperAnswer → Option Reply
told_get fixed name (answers.Found bytes) = told_read fixed name (records_in (record { name = name; bytes = bytes })) (has_reading (record { name = name; bytes = bytes }))
told_get fixed name answers.Absent = Some replies.Aborted
told_get fixed name answer = None

only_this : (x : Bool) → IsTrue (x || false) → IsTrue x
only_this true is = refl
only_this false is = is

pub unread_records : (pair : Pair) → has_reading pair ≡ false → records_in pair ≡ []
unread_records pair e =
    let sum : length (records_in pair) + length (markers_in pair) + length (versions_in pair) ≡ 0 = eqb-true (length (records_in pair) + length (markers_in pair) + length (versions_in pair)) 0 (true_from_ne_false _ (λ f. false≢true (sym e ∙ ap not f))) in
    no_length (records_in pair) (omega arith)
  where
    no_length : {A : Type 0} (xs : List A) → length xs ≡ 0 → xs ≡ []
    no_length [] none = refl
    no_length (x ∷ xs) none = absurd (omega arith)

-- whether some commits have another than the fixed one
abbrev is_other : Option Commit → List Commit → Bool
is_other None commits = false
is_other (Some c) commits = list_any (λ d. not (same_commit c d)) commits

as_other : (fixed : Option Commit) (pair : Pair) → IsTrue (is_damage fixed pair) → IsTrue (not (has_reading pair) || is_other fixed (records_in pair))
as_other None pair is = is
as_other (Some c) pair is = is

damage_read : (fixed : Option Commit) (name : List ℕ) (commits : List Commit) (has : Bool) → (has ≡ false → commits ≡ []) → length commits ≤ 1 → IsTrue (not has || is_other fixed commits) → Some (replies.Damaged (written_name name)) ≡ told_read fixed name commits has
damage_read None name commits true unread few is = absurd (false≢true is)
damage_read None name commits false unread few is = refl
damage_read (Some c) name [] true unread few is = absurd (false≢true is)
damage_read (Some c) name [] false unread few is = refl
damage_read (Some c) name (d ∷ []) true unread few is = cases (same_commit c d) is
  where
    cases : (same : Bool) → IsTrue (not same || false) → Some (replies.Damaged (written_name name)) ≡ (if same then Some (replies.Committed c.id) else Some (replies.Damaged (written_name name)))
    cases true none = absurd (false≢true none)
    cases false none = refl
damage_read (Some c) name (d ∷ []) false unread few is = absurd (cc (unread refl))
damage_read (Some c) name (d ∷ e ∷ commits) has unread few is = absurd (omega arith)

committed_read : (id : TxnId) (c : Commit) (name : List ℕ) (commits : List Commit) (has : Bool) → length commits ≤ 1 → IsTrue (same_id id c.id) → IsTrue (is_among c (commits ++ [])) → Some (replies.Committed id) ≡ told_read (Some c) name commits has
committed_read id c name [] has few same is = absurd (false≢true is)
committed_read id c name (d ∷ []) has few same is = cases (same_commit c d) (only_this (same_commit c d) is)
  where
    cases : (its : Bool) → IsTrue its → Some (replies.Committed id) ≡ (if its then Some (replies.Committed c.id) else Some (replies.Damaged (written_name name)))
    cases true so = ap (λ (i : TxnId). Some (replies.Committed i)) (same_ids id c.id same)
    cases false so = absurd (false≢true so)
committed_read id c name (d ∷ e ∷ commits) has few same is = absurd (omega arith)

few_records : (name bytes : List ℕ) → length (records_in (record { name = name; bytes = bytes })) ≤ 1
few_records name bytes = read_few name (λ (c : Commit). record_name c.id.uuid) (commit_of bytes)

found_shows : (b : Bool) (bytes : List ℕ) → is_absence (if b then Some (Some bytes) else None) ≡ false
found_shows true bytes = refl
found_shows false bytes = refl

module _ (fixed : Option Commit) (by : By) (node inc : ℕ) (name : List ℕ) where
  abbrev got : KeeperAnswer → DoorEntry
  got answer = record { by = by; act = Call node inc (calls.Get name) answer }

  get_fails : (answer : KeeperAnswer) → IsTrue (is_failure (Call node inc (calls.Get name) answer) || false) → None ≡ told_get fixed name answer
  get_fails answers.Failed is = refl
  get_fails answer is = absurd (false≢true is)

  pair_damages : (pair : Pair) (damage : Bool) → is_damage fixed pair ≡ damage → (written : List ℕ) → IsTrue (is_written_name written (first_of (map (λ (p : Pair). p.name) (if damage then pair ∷ [] else []) ++ []))) → Some (replies.Damaged written) ≡ told_read fixed pair.name (records_in pair) (has_reading pair)
  pair_damages pair true e written is =
      ap (λ (n : List ℕ). Some (replies.Damaged n)) (same_bytes written (written_name pair.name) is) ∙ damage_read fixed pair.name (records_in pair) (has_reading pair) (unread_records pair) (few_records pair.name pair.bytes) (as_other fixed pair e)
  pair_damages pair false e written is = absurd (false≢true is)

  get_damages : (answer : KeeperAnswer) (written : List ℕ) → IsTrue (is_written_name written (first_of (flat_map (damage_in fixed) (got answer ∷ [])))) → Some (replies.Damaged written) ≡ told_get fixed name answer
  get_damages (answers.Found bytes) written is = pair_damages (record { name = name; bytes = bytes }) (is_damage fixed (record { name = name; bytes = bytes })) refl written is
  get_damages answer written is = absurd (false≢true is)

  get_commits : (its : Option Commit) (answer : KeeperAnswer) (id : TxnId) → IsTrue (is_fixed (λ c. same_id id c.id && is_stored_by c (got answer ∷ [])) its) → Some (replies.Committed id) ≡ told_get its name answer
  get_commits None answer id is = absurd (false≢true is)
  get_commits (Some c) (answers.Found bytes) id is =
      let parts = and_parts (same_id id c.id) (is_stored_by c (got (answers.Found bytes) ∷ [])) is in
      committed_read id c name (records_in (record { name = name; bytes = bytes })) (has_reading (record { name = name; bytes = bytes })) (few_records name bytes) parts.0 (only_this _ parts.1)
  get_commits (Some c) answer id is = absurd (false≢true (and_parts (same_id id c.id) false is).1)

  get_absent : (its : Option Commit) (answer : KeeperAnswer) → IsTrue (is_fixed (λ c. list_any (shows_absent (record_name c.id.uuid)) (got answer ∷ [])) its) → Some replies.Aborted ≡ told_get its name answer
  get_absent None answer is = absurd (false≢true is)
  get_absent (Some c) answers.Absent is = refl
  get_absent (Some c) (answers.Found bytes) is = absurd (false≢true (sym (found_shows (bytes_eq (record_name c.id.uuid) name) bytes) ∙ only_this _ is))
  get_absent (Some c) answer is = absurd (false≢true is)

  get_tells : (answer : KeeperAnswer) → Tells fixed (got answer ∷ []) (told_get fixed name answer)
  get_tells answer = record {
    failed = get_fails answer;
    damage = get_damages answer;
    committed = get_commits fixed answer;
    absent = get_absent fixed answer;
    few = refl;
  }

released_tells : (fixed : Option Commit) (by : By) (uuid : List ℕ) (node inc : ℕ) (answer : Option Reply) → Tells fixed (record { by = by; act = Release uuid node inc } ∷ []) answer
released_tells fixed by uuid node inc answer = record {
  failed = λ is. absurd (false≢true is);
  damage = λ written is. absurd (false≢true is);
  committed = λ id is. absurd (stored_nowhere id fixed (record { by = by; act = Release uuid node inc } ∷ []) (λ c. refl) is);
  absent = λ is. absurd (absent_nowhere fixed (record { by = by; act = Release uuid node inc } ∷ []) (λ c. refl) is);
  few = refl;
}

with_tail : (fixed : Option Commit) (by : By) (front : List DoorEntry → List DoorEntry) (answer : Option Reply) → Tells fixed (front []) answer → ((uuid : List ℕ) (node inc : ℕ) → Tells fixed (front (record { by = by; act = Release uuid node inc } ∷ [])) answer) → (line : List Turn) → Tail by line → Tells fixed (front (entries by line)) answer
with_tail fixed by front answer bare released line tail = elim tail [
  | inl none ↦ subst (λ (es : List DoorEntry). Tells fixed (front es) answer) (sym none) bare
  | inr one ↦ subst (λ (es : List DoorEntry). Tells fixed (front es) answer) (sym one.3) (released one.0 one.1 one.2)
]

-- ---- the turns behind

module _ (by : By) (ends : Ends) where
  tail_doubt : (storing : Storing) (test : Option Reply → Bool) (line : List Turn) → IsTrue (ends_in_doubt ends storing test line) → Tail by line
  tail_doubt storing test line follows = inl (quiet by storing.attempt.node (closes ends storing.attempt.inc (doubts storing.attempt test)) line follows)

  tail_end : (a : Attempt) (test : Option Reply → Bool) (uuid : List ℕ) (place node inc : ℕ) (line : List Turn) → IsTrue (ends_with ends a (takes_away a test) line) → Tail by (AtDoor place (Release uuid node inc) ∷ line)
  tail_end a test uuid place node inc line follows = inr (uuid, node, inc, ap (λ (es : List DoorEntry). record { by = by; act = Release uuid node inc } ∷ es) (quiet by a.node (closes ends a.inc (takes_away a test)) line follows))

  tail_stored : (storing : Storing) (line : List Turn) → IsTrue (release_stored ends storing line) → Tail by line
  tail_stored storing (AtDoor place (Release uuid node inc) ∷ line) follows = tail_end storing.attempt tells_committed uuid place node inc line (and_parts (is_release_of storing.attempt storing.written.commit.id.uuid uuid node inc) _ follows).1
  tail_stored storing line follows = tail_doubt storing tells_down line (and_parts (ends_in_doubt ends storing tells_down line) (ends_shut_out ends (caller_of storing.attempt) line) follows).0

  tail_aborted : (storing : Storing) (line : List Turn) → IsTrue (release_aborted ends storing line) → Tail by line
  tail_aborted storing (AtDoor place (Release uuid node inc) ∷ line) follows = tail_end storing.attempt tells_aborted uuid place node inc line (and_parts (is_release_of storing.attempt storing.written.commit.id.uuid uuid node inc) _ follows).1
  tail_aborted storing line follows = tail_doubt storing tells_down line (and_parts (ends_in_doubt ends storing tells_down line) (ends_shut_out ends (caller_of storing.attempt) line) follows).0

  tail_after : (storing : Storing) (act : NodeAct) (line : List Turn) → IsTrue (stored_after ends storing act line) → Tail by line
  tail_after storing (Stored b c) line follows = tail_stored storing line (and_parts (same_attempt storing.attempt b && same_commit storing.written.commit c) (release_stored ends storing line) follows).1
  tail_after storing act line follows = absurd (false≢true follows)

  pub tail_of_stored : (storing : Storing) (line : List Turn) → IsTrue (stored_course ends storing line) → Tail by line
  tail_of_stored storing (AtNode node before entry ∷ line) follows = elim (or_cases (eqb node storing.attempt.node && stored_after ends storing entry.act line) (ends_in_doubt ends storing tells_no_memory (AtNode node before entry ∷ line)) follows) [
    | inl goes ↦ tail_after storing entry.act line (and_parts (eqb node storing.attempt.node) (stored_after ends storing entry.act line) goes).1
    | inr wants ↦ tail_doubt storing tells_no_memory (AtNode node before entry ∷ line) wants
  ]
  tail_of_stored storing (AtDoor place act ∷ line) follows = absurd (false≢true follows)
  tail_of_stored storing (AtOffice before entry ∷ line) follows = absurd (false≢true follows)
  tail_of_stored storing [] follows = absurd (false≢true follows)

  pub tail_left : (aborts : Bool) (a : Attempt) (uuid : List ℕ) (line : List Turn) → IsTrue (leave_course aborts ends a uuid line) → Tail by line
  tail_left aborts a uuid (AtDoor place (Release released node inc) ∷ line) follows = tail_end a (tells_left aborts) released place node inc line (and_parts (is_release_of a uuid released node inc) _ follows).1
  tail_left aborts a uuid line follows = inl (quiet by a.node (λ state entry. answers_down entry.act entry.answer) line (and_parts (ends_at_node a.node (λ state entry. answers_down entry.act entry.answer) line) (ends_shut_out ends (caller_of a) line) follows).0)

  tail_found : (storing : Storing) (bytes : List ℕ) (its : Bool) (line : List Turn) → IsTrue (if its then stored_course ends storing line else ends_in_doubt ends storing any_answer line) → Tail by line
  tail_found storing bytes true line follows = tail_of_stored storing line follows
  tail_found storing bytes false line follows = tail_doubt storing any_answer line follows

  tail_settled : (storing : Storing) (answer : KeeperAnswer) (line : List Turn) → IsTrue (settled true ends storing answer line) → Tail by line
  tail_settled storing answers.Absent line follows = elim (or_cases (release_aborted ends storing line) (ends_in_doubt ends storing tells_no_memory line) follows) [
    | inl goes ↦ tail_aborted storing line goes
    | inr wants ↦ tail_doubt storing tells_no_memory line wants
  ]
  tail_settled storing (answers.Found bytes) line follows = tail_found storing bytes (finds_record storing.written.commit (answers.Found bytes)) line follows
  tail_settled storing answer line follows = tail_doubt storing any_answer line follows

-- ---- any abort

pub doubt_in : (a : Attempt) (answer : Option Reply) (found : Option Service) → IsTrue (in_service (λ serving. is_in_doubt (attempt_state a serving.part) && is_silent answer) found) → IsTrue (in_doubt a found)
doubt_in a answer None is = is
doubt_in a answer (Some serving) is = (and_parts (is_in_doubt (attempt_state a serving.part)) (is_silent answer) is).0

module _ (view : LineView) (node : ℕ) (before : List NodeEntry) (entry : NodeEntry) where
  abbrev by : By
  by = view.by

  abbrev Settled : List Turn → Type 0
  Settled line = (answer : Option Reply) × Settles (with_turns view Abort (AtNode node before entry ∷ line)) answer

  abbrev fixed : Option Commit
  fixed = fixed_by view.hold.attempt (part (before ++ entry ∷ []))

  -- an abort that makes no call
  no_call : (line : List Turn) → Tail by line → Settled line
  no_call line tail =
      let told : Option Reply = told_to_abort view.hold.attempt (service before) in
      (told, abort_settles view node before entry line told (with_tail fixed by (λ more. more) told (nothing_tells fixed told) (λ uuid at inc. released_tells fixed by uuid at inc told) line tail) (finds_told view.hold.attempt (service before)))

  module _ (a : Attempt) (own : IsTrue (is_held_attempt view.hold.attempt a)) (doubt : IsTrue (in_doubt a (service before))) where
    one_call : (place its inc : ℕ) (name : List ℕ) (answer : KeeperAnswer) (line : List Turn) → Tail by line → Settled (AtDoor place (Call its inc (calls.Get name) answer) ∷ line)
    one_call place its inc name answer line tail =
        let t = get_tells fixed by its inc name answer in (
          told_get fixed name answer,
          abort_settles view node before entry (AtDoor place (Call its inc (calls.Get name) answer) ∷ line) (told_get fixed name answer)
              (with_tail fixed by (λ more. record { by = by; act = Call its inc (calls.Get name) answer } ∷ more) (told_get fixed name answer) t (λ u n i. released its inc name answer u n i) line tail)
              (finds_doubt a view.hold.attempt (service before) (told_get fixed name answer) own doubt),
        )
      where
        released : (its inc : ℕ) (name : List ℕ) (answer : KeeperAnswer) (u : List ℕ) (n i : ℕ) → Tells fixed (record { by = by; act = Call its inc (calls.Get name) answer } ∷ record { by = by; act = Release u n i } ∷ []) (told_get fixed name answer)
        released its inc name answer u n i = (let t = get_tells fixed by its inc name answer in record { failed = t.failed; damage = t.damage; committed = t.committed; absent = t.absent; few = t.few })

    settling : (ends : Ends) (storing : Storing) (line : List Turn) → IsTrue (settle_course true ends storing line) → Settled line
    settling ends storing (AtDoor place (Call its inc (calls.Get name) answer) ∷ line) follows =
        one_call place its inc name answer line (tail_settled by ends storing answer line (and_parts (gets_record storing its inc name) (settled true ends storing answer line) follows).1)
    settling ends storing line follows = no_call line (tail_doubt by ends storing tells_refused line follows)

    settling_fixed : (ends : Ends) (its : Option Commit) (line : List Turn) → IsTrue (settles true ends a (part before) its line) → Settled line
    settling_fixed ends None line follows = absurd (false≢true follows)
    settling_fixed ends (Some c) line follows = settling ends (storing_of a (part before) c) line follows

  overly : (line : List Turn) → IsTrue (is_over line) → Settled line
  overly [] follows = no_call [] (inl refl)
  overly (turn ∷ line) follows = absurd (false≢true follows)

  by_act : (act : NodeAct) → entry.act ≡ act → (ends : Ends) (line : List Turn) → IsTrue (finish_after true ends (part before) act line) → IsTrue (may_be_done node view.settings.cache before act entry.answer) → IsTrue (turn_of view.hold.attempt (AtNode node before entry)) → Settled line
  by_act Nothing acts ends line follows may held = overly line follows
  by_act (Leave a) acts ends line follows may held = no_call line (tail_left by ends true a (uuid_of a (part before)) line (and_parts (leaves true (buffer a (part before))) _ follows).1)
  by_act (Settle a) acts ends line follows may held =
      settling_fixed a (subst (λ (act : NodeAct). IsTrue (act_of view.hold.attempt act)) acts held) (doubt_in a entry.answer (service before) may) ends (fixed_commit (attempt_state a (part before))) line follows
  by_act act acts ends line follows may held = absurd (false≢true follows)

-- what an abort's line needs beside its course
abbrev needs : LineView → Bool
needs view = keeps_rules view && speaks_of_its_attempt view

aborts_settle : (view : LineView) (turns : List Turn) (ends : Ends) → IsTrue (finish_course true ends turns) → IsTrue (needs (with_turns view Abort turns)) → (answer : Option Reply) × Settles (with_turns view Abort turns) answer
aborts_settle view (AtNode node before entry ∷ line) ends follows so =
    let here : LineView = with_turns view Abort (AtNode node before entry ∷ line) in
    let x = and_parts (keeps_rules here) (speaks_of_its_attempt here) so in
    let rule = and_parts _ _ (and_parts (may_follow_at node view.settings.cache before entry) _ x.0).0 in
    let done = and_parts _ (may_be_done node view.settings.cache before entry.act entry.answer) rule.0 in
    by_act view node before entry entry.act refl ends line follows done.1 (and_parts (turn_of view.hold.attempt (AtNode node before entry)) _ x.1).0
aborts_settle view (AtDoor place act ∷ line) ends follows so = absurd (false≢true follows)
aborts_settle view (AtOffice before entry ∷ line) ends follows so = absurd (false≢true follows)
aborts_settle view [] ends follows so = absurd (false≢true follows)

pub aborts_exact : (view : LineView) (reply : Reply) → view.command ≡ Abort → IsTrue (keeps_its_course view) → IsTrue (keeps_rules view) → IsTrue (speaks_of_its_attempt view) → IsTrue (cause view reply) → ExactlyCaused view reply
aborts_exact view reply e keeps rules speaks caused =
    by_turns_and needs view Abort reply e keeps (and_from _ _ rules speaks) caused (λ turns follows so. aborts_settle view turns (ends_of (with_turns view Abort turns)) follows so)
