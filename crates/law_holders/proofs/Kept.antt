-- What records a line has put under its claim.
use Rattle.std.proofs.Common.{◌≡◌, ◌++◌, ℕ, Bool, true, false, not, List, [], ◌∷◌, refl, sym, subst, ◌∙◌}
use Rattle.std.specs.Prelude.{IsTrue, Option, Some, None, if◌then◌else◌}
use Rattle.std.specs.List.{list_all, list_any}
use Rattle.std.proofs.lemmas.Bool.{and_from, and_parts}
use Rattle.std.proofs.lemmas.List.Folds.{list_all-append}
use Rattle.aft_keeper.specs.declared.keeper.KeeperAnswer.{KeeperAnswer}
use Rattle.aft_keeper.specs.declared.keeper.KeeperCall.{KeeperCall}
use Rattle.aft_keeper.specs.declared.keeper.KeeperCall.TheVariants as calls
use Rattle.aft_keeper.specs.declared.keeper.Pair.{Pair}
use Rattle.aft_records.specs.declared.stored.Commit.{Commit}
use Rattle.aft_records.specs.Commits.{same_commit}
use Rattle.aft_model.specs.declared.door.DoorAct.{DoorAct}
use Rattle.aft_model.specs.declared.door.DoorAct.TheVariants as doors
use Rattle.aft_model.specs.declared.script.Command.{Command}
use Rattle.aft_model.specs.declared.script.Command.TheVariants as commands
use Rattle.aft_model.specs.Membership.{incarnation, same_incarnation}
use Rattle.aft_model.specs.Readings.{marker_name, record_name}
use Rattle.aft_model.specs.Stages.{commits_of, is_acknowledged, put_after, put_by_call}
use Rattle.aft_lines.specs.Advance.{advance, advance_claim, advance_finish, behind_failure, behind_marker, behind_settling, if_nothing}
use Rattle.aft_lines.specs.BeginCourse.{Beginning, gets_own}
use Rattle.aft_lines.specs.CommitCourse.{Storing, gets_record, is_version_of, is_written_as, puts_own}
use Rattle.aft_lines.specs.CourseWords.{Ends, finds_nothing, finds_record}
use Rattle.aft_lines.specs.ForgetCourse.{finds_short}
use Rattle.aft_lines.specs.Progress.{FoundAborted, FoundNoRecord, FoundShort, FoundUnused, HasClaim, HasFailed, HasForgotten, IsRecorded, IsStoring, MustDoubt, MustRelease, NotBegun, Progress, Settling}
use Rattle.aft_lines.specs.Turns.{AtDoor}
use Rattle.law_holders.specs.Rows.{are_row_puts, caller_at, is_next_put, is_of_attempt, is_own_call, stored_at, uuid_at}
use Rattle.law_holders.proofs.Own.{acts_own}
use Rattle.law_holders.proofs.Puts.{record_commit, version_commits}

-- a step to a position of the same commit, if it leads somewhere
abbrev Keeps : Progress → Option Progress → Type 0
Keeps position None = Unit {0}
Keeps position (Some next) = stored_at next ≡ stored_at position

keeps_if : (position next : Progress) (passed : Bool) → stored_at next ≡ stored_at position → Keeps position (if passed then Some next else None)
keeps_if position next true e = e
keeps_if position next false e = tt

-- ---- begins and forgets

nothing_stored : (next : Progress) (begun : Beginning) (answer : KeeperAnswer) → stored_at next ≡ [] → stored_at (if_nothing next begun answer) ≡ []
nothing_stored next begun answer e = cases (finds_nothing answer)
  where
    cases : (nothing : Bool) → stored_at (if nothing then next else MustRelease begun) ≡ []
    cases true = e
    cases false = refl

marker_stored : (forgets : Bool) (begun : Beginning) (answer : KeeperAnswer) → stored_at (behind_marker forgets begun answer) ≡ []
marker_stored false begun answer = nothing_stored (FoundUnused begun) begun answer refl
marker_stored true begun answer = cases (finds_short begun.uuid answer) (finds_nothing answer)
  where
    cases : (short nothing : Bool) → stored_at (if short then FoundShort begun else if nothing then FoundUnused begun else MustRelease begun) ≡ []
    cases true nothing = refl
    cases false true = refl
    cases false false = refl

claim_keeps : (ends : Ends) (forgets : Bool) (position : Progress) (place node inc : ℕ) (asked : KeeperCall) (answer : KeeperAnswer) → Keeps position (advance_claim ends forgets position (AtDoor place (doors.Call node inc asked answer)))
claim_keeps ends forgets (HasClaim begun) place node inc (calls.Get got) answer = keeps_if (HasClaim begun) (if_nothing (FoundNoRecord begun) begun answer) (gets_own begun (record_name begun.uuid) node inc got) (nothing_stored (FoundNoRecord begun) begun answer refl)
claim_keeps ends forgets (FoundNoRecord begun) place node inc (calls.Get got) answer = keeps_if (FoundNoRecord begun) (behind_marker forgets begun answer) (gets_own begun (marker_name begun.uuid) node inc got) (marker_stored forgets begun answer)
claim_keeps ends forgets (FoundShort begun) place node inc (calls.Delete name) answer = keeps_if (FoundShort begun) (HasForgotten begun) (gets_own begun (marker_name begun.uuid) node inc name) refl
claim_keeps ends false (FoundUnused begun) place node inc asked answer = tt
claim_keeps ends true (FoundUnused begun) place node inc asked answer = tt
claim_keeps ends forgets position place node inc asked answer = tt

-- ---- commits and aborts

settled_stored : (aborts : Bool) (storing : Storing) (answer : KeeperAnswer) → stored_at (behind_settling aborts storing answer) ≡ storing.written.commit ∷ []
settled_stored aborts storing answer = cases aborts (finds_record storing.written.commit answer) (finds_nothing answer)
  where
    cases : (a found nothing : Bool) → stored_at (if found then IsRecorded storing else if not nothing then MustDoubt storing else if a then FoundAborted storing else IsStoring storing storing.writes) ≡ storing.written.commit ∷ []
    cases a true nothing = refl
    cases a false false = refl
    cases true false true = refl
    cases false false true = refl

either_stored : (storing : Storing) (first : Bool) (one other : Progress) → stored_at one ≡ storing.written.commit ∷ [] → stored_at other ≡ storing.written.commit ∷ [] → stored_at (if first then one else other) ≡ storing.written.commit ∷ []
either_stored storing true one other e f = e
either_stored storing false one other e f = f

finish_keeps : (ends : Ends) (position : Progress) (place node inc : ℕ) (asked : KeeperCall) (answer : KeeperAnswer) → Keeps position (advance_finish ends position (AtDoor place (doors.Call node inc asked answer)))
finish_keeps ends (Settling aborts storing) place node inc (calls.Get got) answer = keeps_if (Settling aborts storing) (behind_settling aborts storing answer) (gets_record storing node inc got) (settled_stored aborts storing answer)
finish_keeps ends (HasFailed storing) place node inc (calls.Get got) answer =
    keeps_if (HasFailed storing) (behind_failure storing answer) (gets_record storing node inc got) (either_stored storing (finds_record storing.written.commit answer) (IsRecorded storing) (MustDoubt storing) refl refl)
finish_keeps ends (IsStoring storing []) place node inc (calls.Put name bytes) answer =
    keeps_if (IsStoring storing []) (if is_acknowledged answer then IsRecorded storing else HasFailed storing) (puts_own storing (is_written_as storing.written) node inc name bytes) (either_stored storing (is_acknowledged answer) (IsRecorded storing) (HasFailed storing) refl refl)
finish_keeps ends (IsStoring storing (write ∷ left)) place node inc (calls.Put name bytes) answer =
    keeps_if (IsStoring storing (write ∷ left)) (if is_acknowledged answer then IsStoring storing left else MustDoubt storing) (puts_own storing (is_version_of storing.written.commit write) node inc name bytes) (either_stored storing (is_acknowledged answer) (IsStoring storing left) (MustDoubt storing) refl refl)
finish_keeps ends (IsStoring storing []) place node inc asked answer = tt
finish_keeps ends (IsStoring storing (write ∷ left)) place node inc asked answer = tt
finish_keeps ends position place node inc asked answer = tt

line_keeps : (command : Command) (nodes : List ℕ) (ends : Ends) (position : Progress) (place node inc : ℕ) (asked : KeeperCall) (answer : KeeperAnswer) → IsTrue (is_of_attempt command) → Keeps position (advance command nodes ends position (AtDoor place (doors.Call node inc asked answer)))
line_keeps (commands.Begin uuid home) nodes ends NotBegun place node inc asked answer is = tt
line_keeps (commands.Begin uuid home) nodes ends position place node inc asked answer is = claim_keeps ends false position place node inc asked answer
line_keeps (commands.Forget uuid home) nodes ends NotBegun place node inc asked answer is = tt
line_keeps (commands.Forget uuid home) nodes ends position place node inc asked answer is = claim_keeps ends true position place node inc asked answer
line_keeps commands.Commit nodes ends NotBegun place node inc asked answer is = tt
line_keeps commands.Commit nodes ends position place node inc asked answer is = finish_keeps ends position place node inc asked answer
line_keeps commands.Abort nodes ends NotBegun place node inc asked answer is = tt
line_keeps commands.Abort nodes ends position place node inc asked answer is = finish_keeps ends position place node inc asked answer
line_keeps command nodes ends position place node inc asked answer is = absurd (never command is)
  where
    never : (other : Command) → IsTrue false → ⊥
    never other x = (cc)

-- ---- what was put

put_rows : (position : Progress) (pair : Pair) → IsTrue (is_next_put position pair) → IsTrue (are_row_puts position (commits_of (uuid_at position) pair))
put_rows (IsStoring storing []) pair so = record_commit storing.written pair so
put_rows (IsStoring storing (write ∷ left)) pair so = subst (λ (puts : List Commit). IsTrue (are_row_puts (IsStoring storing (write ∷ left)) puts)) (sym (version_commits storing.written.commit write pair so storing.written.commit.id.uuid)) refl
put_rows position pair so = absurd (cc)

call_rows : (position : Progress) (asked : KeeperCall) → IsTrue (is_own_call position asked) → IsTrue (are_row_puts position (put_by_call (uuid_at position) asked))
call_rows position (calls.Put name bytes) so = put_rows position (record { name = name; bytes = bytes }) so
call_rows position asked so = refl

joined : (position : Progress) (puts more : List Commit) → IsTrue (are_row_puts position puts) → IsTrue (are_row_puts position more) → IsTrue (are_row_puts position (puts ++ more))
joined position puts more one two = list_all-append (λ d. list_any (λ c. same_commit c d) (stored_at position)) puts more ∙ and_from _ _ one two

pub puts_move : (command : Command) (nodes : List ℕ) (ends : Ends) (position next : Progress) (place : ℕ) (act : DoorAct) (puts : List Commit) → IsTrue (is_of_attempt command) → IsTrue (are_row_puts position puts) → advance command nodes ends position (AtDoor place act) ≡ Some next
    → IsTrue (are_row_puts next (put_after (caller_at position) (uuid_at position) puts act))
puts_move command nodes ends position next place (doors.Claim uuid node inc) puts is row e =
    subst (λ (b : Bool). IsTrue (are_row_puts next (if b then [] else puts))) (sym (acts_own command nodes ends position next place (doors.Claim uuid node inc) is e)) refl
puts_move command nodes ends position next place (doors.Release uuid node inc) puts is row e =
    subst (λ (b : Bool). IsTrue (are_row_puts next (if b then [] else puts))) (sym (acts_own command nodes ends position next place (doors.Release uuid node inc) is e)) refl
puts_move command nodes ends position next place (doors.Call node inc asked answer) puts is row e =
    let own = and_parts (same_incarnation (caller_at position) (incarnation node inc)) (is_own_call position asked) (acts_own command nodes ends position next place (doors.Call node inc asked answer) is e) in
    let keeps = subst (λ (p : Option Progress). Keeps position p) e (line_keeps command nodes ends position place node inc asked answer is) in
    subst (λ (b : Bool). IsTrue (are_row_puts next (if b then puts ++ put_by_call (uuid_at position) asked else puts))) (sym own.0)
    (subst (λ (cs : List Commit). IsTrue (list_all (λ d. list_any (λ c. same_commit c d) cs) (puts ++ put_by_call (uuid_at position) asked))) (sym keeps) (joined position puts (put_by_call (uuid_at position) asked) row (call_rows position asked own.1)))
puts_move command nodes ends position next place act puts is row e = absurd (never (acts_own command nodes ends position next place act is e))
  where
    never : IsTrue false → ⊥
    never x = (cc)
