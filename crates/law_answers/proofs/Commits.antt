-- What a line's turns that store a commit show of it, by what its last turn answers: its id where it is stored, and else why it isn't.
use Rattle.std.proofs.Common.{◌≡◌, ℕ, Bool, true, false, eqb, ◌&&◌, List, [], ◌∷◌, refl, sym, subst, ◌∙◌, inl, inr}
use Rattle.std.specs.Prelude.{IsTrue, Option, Some, if◌then◌else◌}
use Rattle.std.specs.Str.{bytes_eq}
use Rattle.std.proofs.lemmas.Bool.{and_parts, false≢true, or_cases}
use Rattle.aft_id.specs.declared.txn_id.TxnId.{TxnId}
use Rattle.aft_id.specs.TxnId.{same_id}
use Rattle.aft_keeper.specs.declared.keeper.KeeperAnswer.{KeeperAnswer}
use Rattle.aft_keeper.specs.declared.keeper.KeeperAnswer.TheVariants as answers
use Rattle.aft_keeper.specs.declared.keeper.KeeperCall.TheVariants as calls
use Rattle.aft_records.specs.declared.stored.Commit.{Commit}
use Rattle.aft_records.specs.Commits.{same_commit}
use Rattle.aft_records.specs.Reading.{version_of}
use Rattle.aft_model.specs.declared.caller.Attempt.{Attempt}
use Rattle.aft_model.specs.declared.caller.By.{By}
use Rattle.aft_model.specs.declared.door.DoorAct.{DoorAct}
use Rattle.aft_model.specs.declared.door.DoorAct.TheVariants.{Call, Release}
use Rattle.aft_model.specs.declared.node.NodeAct.{NodeAct}
use Rattle.aft_model.specs.declared.node.NodeAct.TheVariants.{Doubt, End, Nothing, Stored}
use Rattle.aft_model.specs.declared.reply.Reply.{Reply}
use Rattle.aft_model.specs.declared.reply.Reply.TheVariants as replies
use Rattle.aft_model.specs.Attempts.{Write, same_attempt}
use Rattle.aft_model.specs.Membership.{incarnation, same_incarnation}
use Rattle.aft_model.specs.Readings.{is_record_of, record_name}
use Rattle.aft_model.specs.Stages.{is_acknowledged}
use Rattle.aft_model.proofs.Sights.{same_bytes}
use Rattle.aft_lines.specs.Causes.{yields_to}
use Rattle.aft_lines.specs.CommitCourse.{Storing, doubts, ends_in_doubt, gets_record, is_release_of, is_version_of, is_written_as, puts_course, puts_own, record_put_course, release_stored, settle_course, settled, settling_course, stored_after, stored_course, takes_away, tells_committed}
use Rattle.aft_lines.specs.CourseWords.{Ends, answers_down, any_answer, caller_of, closes, ends_at_node, ends_shut_out, finds_record, tells_down, tells_no_memory, tells_refused}
use Rattle.aft_lines.specs.Turns.{AtDoor, AtNode, AtOffice, Turn}
use Rattle.law_answers.specs.Courses.{last_answer}
use Rattle.law_answers.proofs.Aborts.{tail_of_stored}
use Rattle.law_answers.proofs.Scans.{entries}
use Rattle.law_answers.proofs.Storings.{Facts, Storedly, Unstored, absent_idle, facts_behind, found_stored, get_stored, get_unstored, nothing_unstored, put_stored, unfound_unstored, version_idle, version_named}

-- ---- replies to which others yield

down_yields : (reply : Reply) → IsTrue (tells_down (Some reply)) → IsTrue (yields_to reply)
down_yields (replies.NodeDown node inc) is = refl
down_yields reply is = absurd (false≢true is)

memory_yields : (reply : Reply) → IsTrue (tells_no_memory (Some reply)) → IsTrue (yields_to reply)
memory_yields replies.NoMemory is = refl
memory_yields reply is = absurd (false≢true is)

refused_yields : (reply : Reply) → IsTrue (tells_refused (Some reply)) → IsTrue (yields_to reply)
refused_yields reply is = elim (or_cases (tells_down (Some reply)) (tells_no_memory (Some reply)) is) [
  | inl down ↦ down_yields reply down
  | inr wants ↦ memory_yields reply wants
]

committed_is : (reply : Reply) → IsTrue (tells_committed (Some reply)) → (id : TxnId) × (reply ≡ replies.Committed id)
committed_is (replies.Committed id) is = (id, refl)
committed_is reply is = absurd (false≢true is)

down_act : (act : NodeAct) (reply : Reply) → IsTrue (answers_down act (Some reply)) → IsTrue (yields_to reply)
down_act Nothing reply is = down_yields reply is
down_act act reply is = absurd (false≢true is)

doubt_test : (a : Attempt) (test : Option Reply → Bool) (act : NodeAct) (answer : Option Reply) → IsTrue (doubts a test act answer) → IsTrue (test answer)
doubt_test a test (Doubt b) answer is = (and_parts (same_attempt a b) (test answer) is).1
doubt_test a test act answer is = absurd (false≢true is)

end_test : (a : Attempt) (test : Option Reply → Bool) (act : NodeAct) (answer : Option Reply) → IsTrue (takes_away a test act answer) → IsTrue (test answer)
end_test a test (End b) answer is = (and_parts (same_attempt a b) (test answer) is).1
end_test a test act answer is = absurd (false≢true is)

-- behind a turn at the door the same turn is the last
door_last : (reply : Reply) (place : ℕ) (act : DoorAct) (line : List Turn) → last_answer (AtDoor place act ∷ line) ≡ Some reply → last_answer line ≡ Some reply
door_last reply place act [] e = absurd (cc e)
door_last reply place act (turn ∷ line) e = e

module _ (by : By) (ends : Ends) (reply : Reply) (stays : yields_to reply ≡ false) where
  unyielding : {A : Type 0} → IsTrue (yields_to reply) → A
  unyielding is = absurd (false≢true (sym stays ∙ is))

  -- a line that ends at a node with this answer
  at_end : (node inc : ℕ) (test : NodeAct → Option Reply → Bool) (line : List Turn) → IsTrue (ends_at_node node (closes ends inc test) line) → last_answer line ≡ Some reply → (entries by line ≡ []) × ((act : NodeAct) × IsTrue (test act (Some reply)))
  at_end node inc test (AtNode at before entry ∷ []) follows last =
      elim (or_cases (test entry.act entry.answer) (answers_down entry.act entry.answer && _) (and_parts (eqb node at) _ follows).1) [
        | inl is ↦ (refl, (entry.act, subst (λ (o : Option Reply). IsTrue (test entry.act o)) last is))
        | inr down ↦ unyielding (down_act entry.act reply (subst (λ (o : Option Reply). IsTrue (answers_down entry.act o)) last (and_parts (answers_down entry.act entry.answer) _ down).0))
      ]
  at_end node inc test (AtNode at before entry ∷ turn ∷ line) follows last = absurd (false≢true follows)
  at_end node inc test (AtDoor place act ∷ line) follows last = absurd (false≢true follows)
  at_end node inc test (AtOffice before entry ∷ line) follows last = absurd (false≢true follows)
  at_end node inc test [] follows last = absurd (false≢true follows)

  doubted : (storing : Storing) (test : Option Reply → Bool) (line : List Turn) → IsTrue (ends_in_doubt ends storing test line) → last_answer line ≡ Some reply → (entries by line ≡ []) × IsTrue (test (Some reply))
  doubted storing test line follows last = (let at = at_end storing.attempt.node storing.attempt.inc (doubts storing.attempt test) line follows last in (at.0, doubt_test storing.attempt test at.1.0 (Some reply) at.1.1))

  -- what is stored is answered as committed
  abbrev Commits : Type 0
  Commits = (id : TxnId) × (reply ≡ replies.Committed id)

  released : (storing : Storing) (line : List Turn) → IsTrue (release_stored ends storing line) → last_answer line ≡ Some reply → Commits
  released storing (AtDoor place (Release uuid node inc) ∷ line) follows last =
      let at = at_end storing.attempt.node storing.attempt.inc (takes_away storing.attempt tells_committed) line (and_parts (is_release_of storing.attempt storing.written.commit.id.uuid uuid node inc) _ follows).1 (door_last reply place (Release uuid node inc) line last) in
      committed_is reply (end_test storing.attempt tells_committed at.1.0 (Some reply) at.1.1)
  released storing line follows last = unyielding (down_yields reply (doubted storing tells_down line (and_parts (ends_in_doubt ends storing tells_down line) (ends_shut_out ends (caller_of storing.attempt) line) follows).0 last).1)

  after_stored : (storing : Storing) (act : NodeAct) (line : List Turn) → IsTrue (stored_after ends storing act line) → last_answer line ≡ Some reply → Commits
  after_stored storing (Stored b c) line follows last = released storing line (and_parts (same_attempt storing.attempt b && same_commit storing.written.commit c) (release_stored ends storing line) follows).1 last
  after_stored storing act line follows last = absurd (false≢true follows)

  after_none : (storing : Storing) (act : NodeAct) → IsTrue (stored_after ends storing act []) → ⊥
  after_none storing (Stored b c) follows = false≢true (and_parts (same_attempt storing.attempt b && same_commit storing.written.commit c) (release_stored ends storing []) follows).1
  after_none storing act follows = false≢true follows

  commits : (storing : Storing) (line : List Turn) → IsTrue (stored_course ends storing line) → last_answer line ≡ Some reply → Commits
  commits storing (AtNode node before entry ∷ line) follows last = elim (or_cases (eqb node storing.attempt.node && stored_after ends storing entry.act line) (ends_in_doubt ends storing tells_no_memory (AtNode node before entry ∷ line)) follows) [
    | inl goes ↦ behind line (and_parts (eqb node storing.attempt.node) (stored_after ends storing entry.act line) goes).1 last
    | inr wants ↦ unyielding (memory_yields reply (doubted storing tells_no_memory (AtNode node before entry ∷ line) wants last).1)
  ]
    where
      behind : (line : List Turn) → IsTrue (stored_after ends storing entry.act line) → last_answer (AtNode node before entry ∷ line) ≡ Some reply → Commits
      behind [] goes last = absurd (after_none storing entry.act goes)
      behind (turn ∷ line) goes last = after_stored storing entry.act (turn ∷ line) goes last
  commits storing (AtDoor place act ∷ line) follows last = absurd (false≢true follows)
  commits storing (AtOffice before entry ∷ line) follows last = absurd (false≢true follows)
  commits storing [] follows last = absurd (false≢true follows)

  module _ (storing : Storing) where
    abbrev c : Commit
    c = storing.written.commit

    its_name : (node inc : ℕ) (name : List ℕ) → IsTrue (gets_record storing node inc name) → record_name c.id.uuid ≡ name
    its_name node inc name own = same_bytes (record_name c.id.uuid) name (and_parts (same_incarnation (caller_of storing.attempt) (incarnation node inc)) (bytes_eq (record_name c.id.uuid) name) own).1

    its_record : (name found : List ℕ) (b : Bool) → record_name c.id.uuid ≡ name → finds_record c (answers.Found found) ≡ b → is_record_of c (record { name = name; bytes = found }) ≡ b
    its_record name found b named = subst (λ (n : List ℕ). is_record_of c (record { name = n; bytes = found }) ≡ b) named

    stored_only : (line : List Turn) → Storedly c (entries by line) → Commits → Facts c (entries by line) reply
    stored_only line stored is = inl (is.0, is.1, stored)

    -- behind a put of the record that wasn't acknowledged
    settling : (at at_node at_inc : ℕ) (put bytes : List ℕ) (answer : KeeperAnswer) → is_acknowledged answer ≡ false → (line : List Turn) → IsTrue (settling_course ends storing line) → last_answer line ≡ Some reply
        → Facts c (record { by = by; act = Call at_node at_inc (calls.Put put bytes) answer } ∷ entries by line) reply
    settling at at_node at_inc put bytes answer bad (AtDoor place (Call node inc (calls.Get name) got) ∷ line) follows last =
        let parts = and_parts (gets_record storing node inc name) (if finds_record c got then stored_course ends storing line else ends_in_doubt ends storing any_answer line) follows in
        by_got got (finds_record c got) refl (its_name node inc name parts.0) parts.1
      where
        by_got : (got : KeeperAnswer) (finds : Bool) → finds_record c got ≡ finds → record_name c.id.uuid ≡ name → IsTrue (if finds then stored_course ends storing line else ends_in_doubt ends storing any_answer line)
            → Facts c (record { by = by; act = Call at_node at_inc (calls.Put put bytes) answer } ∷ record { by = by; act = Call node inc (calls.Get name) got } ∷ entries by line) reply
        by_got (answers.Found found) true e named goes =
            let is = commits storing line goes (door_last reply place (Call node inc (calls.Get name) got) line last) in
            inl (is.0, is.1, found_stored c by at_node at_inc put bytes answer bad node inc name found (entries by line) (its_record name found true named e) (tail_of_stored by ends storing line goes))
        by_got it false e named goes =
            let at = doubted storing any_answer line goes (door_last reply place (Call node inc (calls.Get name) got) line last) in
            inr (subst (λ es. Unstored c (record { by = by; act = Call at_node at_inc (calls.Put put bytes) answer } ∷ record { by = by; act = Call node inc (calls.Get name) it } ∷ es)) (sym at.0)
            (unfound_unstored c by at_node at_inc put bytes answer bad node inc name it (λ found is. its_record name found false named (subst (λ (k : KeeperAnswer). finds_record c k ≡ false) is e))))
        by_got it true e named goes = absurd (false≢true e)
    settling at at_node at_inc put bytes answer bad line follows last = unyielding (refused_yields reply (doubted storing tells_refused line follows last).1)

    by_put : (place node inc : ℕ) (name bytes : List ℕ) (answer : KeeperAnswer) (line : List Turn) (acknowledged : Bool) → is_acknowledged answer ≡ acknowledged → IsTrue (if acknowledged then stored_course ends storing line else settling_course ends storing line) → last_answer line ≡ Some reply
        → Facts c (record { by = by; act = Call node inc (calls.Put name bytes) answer } ∷ entries by line) reply
    by_put place node inc name bytes answer line true e goes last =
        (let is = commits storing line goes last in inl (is.0, is.1, put_stored c by node inc name bytes answer (entries by line) e (tail_of_stored by ends storing line goes)))
    by_put place node inc name bytes answer line false e goes last = settling place node inc name bytes answer e line goes last

    recording : (line : List Turn) → IsTrue (record_put_course ends storing line) → last_answer line ≡ Some reply → Facts c (entries by line) reply
    recording (AtDoor place (Call node inc (calls.Put name bytes) answer) ∷ line) follows last =
        by_put place node inc name bytes answer line (is_acknowledged answer) refl (and_parts (puts_own storing (is_written_as storing.written) node inc name bytes) _ follows).1 (door_last reply place (Call node inc (calls.Put name bytes) answer) line last)
    recording line follows last = unyielding (refused_yields reply (doubted storing tells_refused line follows last).1)

    -- the puts, from the first write that is left
    pub putting : (writes : List Write) (line : List Turn) → IsTrue (puts_course ends storing writes line) → last_answer line ≡ Some reply → Facts c (entries by line) reply
    putting [] line follows last = recording line follows last
    putting (write ∷ writes) (AtDoor place (Call node inc (calls.Put name bytes) answer) ∷ line) follows last =
        let parts = and_parts (puts_own storing (is_version_of c write) node inc name bytes) (if is_acknowledged answer then puts_course ends storing writes line else ends_in_doubt ends storing any_answer line) follows in
        let v = version_named name (version_of bytes) (λ v. (bytes_eq write.key v.key && same_id c.id v.id) && bytes_eq write.value v.value) (and_parts (same_incarnation (caller_of storing.attempt) (incarnation node inc)) _ parts.0).1 in
        let idle = version_idle by node inc name bytes answer v.0 v.1 in
        let rest = door_last reply place (Call node inc (calls.Put name bytes) answer) line last in
        facts_behind c (record { by = by; act = Call node inc (calls.Put name bytes) answer }) (entries by line) idle reply (cases (is_acknowledged answer) parts.1 (λ goes. putting writes line goes rest) (λ goes. doubted storing any_answer line goes rest))
      where
        cases : (acknowledged : Bool) → IsTrue (if acknowledged then puts_course ends storing writes line else ends_in_doubt ends storing any_answer line) → (IsTrue (puts_course ends storing writes line) → Facts c (entries by line) reply)
            → (IsTrue (ends_in_doubt ends storing any_answer line) → (entries by line ≡ []) × IsTrue (any_answer (Some reply))) → Facts c (entries by line) reply
        cases true goes more stops = more goes
        cases false goes more stops = inr (subst (λ es. Unstored c es) (sym (stops goes).0) (nothing_unstored c))
    putting (write ∷ writes) line follows last = unyielding (refused_yields reply (doubted storing tells_refused line follows last).1)

    -- a commit in doubt is settled
    pub settles_commit : (line : List Turn) → IsTrue (settle_course false ends storing line) → last_answer line ≡ Some reply → Facts c (entries by line) reply
    settles_commit (AtDoor place (Call node inc (calls.Get name) got) ∷ line) follows last =
        let parts = and_parts (gets_record storing node inc name) (settled false ends storing got line) follows in
        by_got got (its_name node inc name parts.0) parts.1 (door_last reply place (Call node inc (calls.Get name) got) line last)
      where
        found_goes : (found : List ℕ) (finds : Bool) → finds_record c (answers.Found found) ≡ finds → record_name c.id.uuid ≡ name → IsTrue (if finds then stored_course ends storing line else ends_in_doubt ends storing any_answer line) → last_answer line ≡ Some reply → Facts c (record { by = by; act = Call node inc (calls.Get name) (answers.Found found) } ∷ entries by line) reply
        found_goes found true e named goes rest = (let is = commits storing line goes rest in inl (is.0, is.1, get_stored c by node inc name found (entries by line) (its_record name found true named e) (tail_of_stored by ends storing line goes)))
        found_goes found false e named goes rest =
            inr (subst (λ es. Unstored c (record { by = by; act = Call node inc (calls.Get name) (answers.Found found) } ∷ es)) (sym (doubted storing any_answer line goes rest).0)
            (get_unstored c by node inc name (answers.Found found) (λ other is. its_record name other false named (subst (λ (k : KeeperAnswer). finds_record c k ≡ false) is e))))

        by_got : (got : KeeperAnswer) → record_name c.id.uuid ≡ name → IsTrue (settled false ends storing got line) → last_answer line ≡ Some reply → Facts c (record { by = by; act = Call node inc (calls.Get name) got } ∷ entries by line) reply
        by_got (answers.Found found) named goes rest = found_goes found (finds_record c (answers.Found found)) refl named goes rest
        by_got answers.Absent named goes rest = elim (or_cases (puts_course ends storing storing.writes line) (ends_in_doubt ends storing tells_no_memory line) goes) [
          | inl puts ↦ facts_behind c (record { by = by; act = Call node inc (calls.Get name) answers.Absent }) (entries by line) (absent_idle by node inc name) reply (putting storing.writes line puts rest)
          | inr wants ↦ unyielding (memory_yields reply (doubted storing tells_no_memory line wants rest).1)
        ]
        by_got it named goes rest =
            inr (subst (λ es. Unstored c (record { by = by; act = Call node inc (calls.Get name) it } ∷ es)) (sym (doubted storing any_answer line goes rest).0) (get_unstored c by node inc name it (λ found is. absurd (cc is))))
    settles_commit line follows last = unyielding (refused_yields reply (doubted storing tells_refused line follows last).1)
