-- A commit leaves out no reply: what its last turn answers is what its calls and its attempt tell.
use Rattle.std.proofs.Common.{◌≡◌, ◌++◌, ℕ, Bool, true, false, eqb, ◌&&◌, ◌||◌, not, List, [], ◌∷◌, length, refl, sym, ap, subst, ◌∙◌, inl, inr, ◌⊎◌, arith}
use Rattle.std.specs.Prelude.{IsTrue, Option, Some, None, if◌then◌else◌}
use Rattle.std.specs.List.{flat_map}
use Rattle.std.specs.Option.{option_or}
use Rattle.std.specs.Str.{bytes_eq}
use Rattle.std.specs.Cmp.Lexicographic.{pointwise}
use Rattle.std.proofs.lemmas.Bool.{and_from, and_parts, eq-eqb, eqb-true, false≢true, or_right}
use Rattle.std.proofs.lemmas.List.Sums.{fold-append}
use Rattle.aft_id.specs.TxnId.{same_id}
use Rattle.aft_records.specs.declared.stored.Commit.{Commit}
use Rattle.aft_records.specs.Limits.{is_time}
use Rattle.aft_model.specs.declared.caller.Attempt.{Attempt}
use Rattle.aft_model.specs.declared.caller.By.{By}
use Rattle.aft_model.specs.declared.door.DoorAct.TheVariants.{Release}
use Rattle.aft_model.specs.declared.door.DoorEntry.{DoorEntry}
use Rattle.aft_model.specs.declared.node.NodeAct.{NodeAct}
use Rattle.aft_model.specs.declared.node.NodeAct.TheVariants.{Leave, Nothing, Settle, Start}
use Rattle.aft_model.specs.declared.node.NodeEntry.{NodeEntry}
use Rattle.aft_model.specs.declared.reply.Reply.{Reply}
use Rattle.aft_model.specs.declared.reply.Reply.TheVariants as replies
use Rattle.aft_model.specs.declared.script.Command.{Command}
use Rattle.aft_model.specs.declared.script.Command.TheVariants as commands
use Rattle.aft_model.specs.Attempts.{AttemptState, IsCommitting, IsGone, IsInDoubt, IsRunning, Write, attempt_after, attempt_state, buffer, fixed_commit, is_committing, is_gone, is_in_doubt, is_leaving, is_opening, is_running, open_reads, reads, same_attempt, tried_again, uuid_of, written_keys}
use Rattle.aft_model.specs.History.{first_of}
use Rattle.aft_model.specs.Known.{known_in}
use Rattle.aft_model.specs.LegalNode.{may_be_done, may_follow_at}
use Rattle.aft_model.specs.NodeRules.{commit_time, may_start}
use Rattle.aft_model.specs.NodeSights.{is_stored_by}
use Rattle.aft_model.specs.NodeState.{IsBooting, IsDown, IsServing, NodeState, Service, extended, in_service, node_state, part, part_in, service, service_in, state_after}
use Rattle.aft_model.specs.Replies.{is_silent}
use Rattle.aft_model.proofs.Incarnations.{part-at}
use Rattle.aft_model.proofs.Pins.{attempt_state-snoc, same_attempts}
use Rattle.aft_model.proofs.Sights.{same_bytes}
use Rattle.aft_lines.specs.Causes.{ExactlyCaused, cause, comes_exactly, yields_to}
use Rattle.aft_lines.specs.CausesAttempts.{passes_end, read_in, reading}
use Rattle.aft_lines.specs.CausesCommits.{fails_both}
use Rattle.aft_lines.specs.CausesScans.{damage_in, is_written_name}
use Rattle.aft_lines.specs.CommitCourse.{Storing, finish_after, finish_course, leaves, puts_course, settles, storing_of}
use Rattle.aft_lines.specs.CourseWords.{Ends, is_over}
use Rattle.aft_lines.specs.LegalTrace.{act_at, act_of, is_clock_time, is_held_attempt, turn_of}
use Rattle.aft_lines.specs.LineCourse.{answers_last, follows_course}
use Rattle.aft_lines.specs.LineView.{LineView, NodeTurn, ends_of, fixed_by, is_fixed, node_turn_in}
use Rattle.aft_lines.specs.Lines.{node_numbers}
use Rattle.aft_lines.specs.Turns.{AtDoor, AtNode, AtOffice, Turn}
use Rattle.law_answers.specs.Courses.{keeps_its_course, keeps_rules, last_answer, reads_clock_in, reads_its_clock, speaks_of_its_attempt}
use Rattle.law_answers.proofs.Aborts.{doubt_not_gone, doubt_not_refused, doubt_not_running, tail_left}
use Rattle.law_answers.proofs.Commits.{putting, settles_commit}
use Rattle.law_answers.proofs.Finishes.{Finds, Tells, commit_settles, commit_told, faults, finds_told, here, its_fixed, lists_too_many, only_exactly, stored_tells, told_to_commit, told_unstored, unstored_faults, unstored_tells}
use Rattle.law_answers.proofs.Forgets.{Tail}
use Rattle.law_answers.proofs.Scans.{entries}
use Rattle.law_answers.proofs.Settled.{exact_yields_not, settled_exactly, told, with_turns}
use Rattle.law_answers.proofs.Storings.{Facts, Storedly, Unstored, names_of}

-- ---- the attempt that is held, and the service that was found

held_is : (held : Option Attempt) (a : Attempt) → IsTrue (is_held_attempt held a) → held ≡ Some a
held_is None a own = absurd (false≢true own)
held_is (Some b) a own = ap (λ (x : Attempt). Some x) (same_attempts b a own)

same_itself : (a : Attempt) → same_attempt a a ≡ true
same_itself a = and_from _ _ (and_from _ _ (eq-eqb a.node a.node refl) (eq-eqb a.inc a.inc refl)) (eq-eqb a.number a.number refl)

serving_of : (test : Service → Bool) (found : Option Service) → IsTrue (in_service test found) → (s : Service) × (found ≡ Some s) × IsTrue (test s)
serving_of test None is = absurd (false≢true is)
serving_of test (Some s) is = (s, refl, is)

some_is : {A : Type 0} (x y : A) → Some x ≡ Some y → x ≡ y
some_is x y e = cc

state_serving : (state : NodeState) (s : Service) → service_in state ≡ Some s → state ≡ IsServing s
state_serving (IsServing t) s e = ap (λ (x : Service). IsServing x) (some_is t s e)
state_serving IsDown s e = absurd (cc e)
state_serving (IsBooting inc running) s e = absurd (cc e)

-- what an attempt is doing behind an entry of the service
behind_state : (before : List NodeEntry) (entry : NodeEntry) (a : Attempt) (s : Service) → service before ≡ Some s → state_after (IsServing s) entry entry.act ≡ IsServing (extended s entry)
    → attempt_state a (part (before ++ entry ∷ [])) ≡ attempt_after a (attempt_state a s.part) entry.act
behind_state before entry a s e on =
    let after : node_state (before ++ entry ∷ []) ≡ IsServing (extended s entry) =
    fold-append (λ (state : NodeState) (e : NodeEntry). state_after state e e.act) IsDown before (entry ∷ []) ∙ ap (λ (state : NodeState). state_after state entry entry.act) (state_serving (node_state before) s e) ∙ on in
    ap (λ (p : List NodeEntry). attempt_state a p) (part-at (before ++ entry ∷ []) (extended s entry) after) ∙ attempt_state-snoc a s.part entry

fixed_started : (before : List NodeEntry) (entry : NodeEntry) (a : Attempt) (now : ℕ) (c : Commit) (s : Service) → service before ≡ Some s → entry.act ≡ Start a now c → fixed_commit (attempt_state a (part (before ++ entry ∷ []))) ≡ Some c
fixed_started before entry a now c s e acts =
    ap fixed_commit (behind_state before entry a s e (subst (λ (act : NodeAct). state_after (IsServing s) entry act ≡ IsServing (extended s entry)) (sym acts) refl))
    ∙ ap (λ (act : NodeAct). fixed_commit (attempt_after a (attempt_state a s.part) act)) acts
    ∙ ap (λ (b : Bool). fixed_commit (if b then IsCommitting c else attempt_state a s.part)) (same_itself a)

tried_fixed : (state : AttemptState) → fixed_commit (tried_again state) ≡ fixed_commit state
tried_fixed (IsInDoubt c) = refl
tried_fixed state = refl

fixed_settled : (before : List NodeEntry) (entry : NodeEntry) (a : Attempt) (s : Service) → service before ≡ Some s → entry.act ≡ Settle a → fixed_commit (attempt_state a (part (before ++ entry ∷ []))) ≡ fixed_commit (attempt_state a s.part)
fixed_settled before entry a s e acts =
    ap fixed_commit (behind_state before entry a s e (subst (λ (act : NodeAct). state_after (IsServing s) entry act ≡ IsServing (extended s entry)) (sym acts) refl))
    ∙ ap (λ (act : NodeAct). fixed_commit (attempt_after a (attempt_state a s.part) act)) acts
    ∙ ap (λ (b : Bool). fixed_commit (if b then tried_again (attempt_state a s.part) else attempt_state a s.part)) (same_itself a)
    ∙ tried_fixed (attempt_state a s.part)

-- ---- no state tells where a commit goes on

running_not_gone : (state : AttemptState) → IsTrue (is_running state) → IsTrue (is_gone state) → ⊥
running_not_gone IsGone runs is = false≢true runs
running_not_gone state runs is = false≢true is

running_not_refused : (state : AttemptState) → IsTrue (is_running state) → IsTrue ((is_opening state || is_committing state) || is_leaving state) → ⊥
running_not_refused IsRunning runs is = false≢true is
running_not_refused state runs is = false≢true runs

keys_same : (xs ys : List (List ℕ)) → IsTrue (pointwise bytes_eq xs ys) → xs ≡ ys
keys_same [] [] is = refl
keys_same [] (y ∷ ys) is = absurd (false≢true is)
keys_same (x ∷ xs) [] is = absurd (false≢true is)
keys_same (x ∷ xs) (y ∷ ys) is = (let parts = and_parts (bytes_eq x y) (pointwise bytes_eq xs ys) is in ap (λ (z : List ℕ). z ∷ xs) (same_bytes x y parts.0) ∙ ap (λ (zs : List (List ℕ)). y ∷ zs) (keys_same xs ys parts.1))

no_keys : (writes : List Write) → length writes ≡ 0 → length (written_keys writes) ≡ 0
no_keys [] e = refl
no_keys (write ∷ writes) e = absurd (omega arith)

both_not : (b : Bool) → IsTrue b → IsTrue (not b) → ⊥
both_not true is isnt = false≢true isnt
both_not false is isnt = false≢true is

start_finds : (s : Service) (a : Attempt) (now : ℕ) (c : Commit) (read : Option ℕ) (answer : Option Reply) → IsTrue (may_start s a now c) → read ≡ Some now → Finds (Some a) (Some s) read answer
start_finds s a now c read answer rule reads_now =
    let timely = and_parts _ _ rule in
    let timed = and_parts _ _ timely.0 in
    let named = and_parts _ _ timed.0 in
    let keyed = and_parts _ _ named.0 in
    let over = and_parts _ _ keyed.0 in
    let some = and_parts _ _ over.0 in
    let keys : c.keys ≡ written_keys (buffer a s.part) = keys_same c.keys (written_keys (buffer a s.part)) keyed.1 in
    record {
      lost = λ is. absurd (running_not_gone (attempt_state a s.part) some.0 (and_parts (eqb a.inc s.inc) _ is).1);
      refused = λ is. absurd (running_not_refused (attempt_state a s.part) some.0 (and_parts (eqb a.inc s.inc) _ is).1);
      reading = λ count is_some is. absurd (none_open count is_some over.1 (and_parts (is_running (attempt_state a s.part)) (eqb (open_reads a s.part) count) (and_parts (eqb a.inc s.inc) _ is).1).1);
      ended = λ is. absurd (both_not (eqb (length c.keys) 0) (empty keys (and_parts _ (eqb (length (buffer a s.part)) 0) (and_parts (eqb a.inc s.inc) _ is).1).1) some.1);
      clock = λ is. absurd (late keys timed.1 timely.1 (and_parts _ (passes_end read a s) (and_parts (eqb a.inc s.inc) _ is).1).1);
    }
  where
    none_open : (count : ℕ) → IsTrue (not (eqb count 0)) → IsTrue (eqb (open_reads a s.part) 0) → IsTrue (eqb (open_reads a s.part) count) → ⊥
    none_open count is_some none is = both_not (eqb count 0) (eq-eqb count 0 (sym (eqb-true (open_reads a s.part) count is) ∙ eqb-true (open_reads a s.part) 0 none)) is_some

    empty : c.keys ≡ written_keys (buffer a s.part) → IsTrue (eqb (length (buffer a s.part)) 0) → IsTrue (eqb (length c.keys) 0)
    empty keys is = eq-eqb (length c.keys) 0 (ap (λ (ks : List (List ℕ)). length ks) keys ∙ no_keys (buffer a s.part) (eqb-true (length (buffer a s.part)) 0 is))

    late : c.keys ≡ written_keys (buffer a s.part) → IsTrue (eqb c.id.time (commit_time now (reads a s.part) c.keys (known_in s))) → IsTrue (is_time c.id.time) → IsTrue (passes_end read a s) → ⊥
    late keys time in_time passes =
        both_not (is_time (commit_time now (reads a s.part) (written_keys (buffer a s.part)) (known_in s)))
        (subst (λ (ks : List (List ℕ)). IsTrue (is_time (commit_time now (reads a s.part) ks (known_in s)))) keys (subst (λ (t : ℕ). IsTrue (is_time t)) (eqb-true c.id.time (commit_time now (reads a s.part) c.keys (known_in s)) time) in_time))
        (subst (λ (r : Option ℕ). IsTrue (passes_end r a s)) reads_now passes)

settle_finds : (s : Service) (a : Attempt) (read : Option ℕ) (answer : Option Reply) → IsTrue (is_in_doubt (attempt_state a s.part)) → Finds (Some a) (Some s) read answer
settle_finds s a read answer doubt = record {
  lost = λ is. absurd (doubt_not_gone (attempt_state a s.part) doubt (and_parts (eqb a.inc s.inc) _ is).1);
  refused = λ is. absurd (doubt_not_refused (attempt_state a s.part) doubt (and_parts (eqb a.inc s.inc) _ is).1);
  reading = λ count is_some is. absurd (doubt_not_running (attempt_state a s.part) doubt (and_parts (is_running (attempt_state a s.part)) (eqb (open_reads a s.part) count) (and_parts (eqb a.inc s.inc) _ is).1).0);
  ended = λ is. absurd (ready (eqb (length (buffer a s.part)) 0) (and_parts (eqb a.inc s.inc) _ is).1);
  clock = λ is. absurd (ready (not (eqb (length (buffer a s.part)) 0)) (and_parts _ (passes_end read a s) (and_parts (eqb a.inc s.inc) _ is).1).0);
}
  where
    ready : (test : Bool) → IsTrue ((is_running (attempt_state a s.part) && eqb (open_reads a s.part) 0) && test) → ⊥
    ready test is = doubt_not_running (attempt_state a s.part) doubt (and_parts (is_running (attempt_state a s.part)) (eqb (open_reads a s.part) 0) (and_parts _ test is).0).0

reads_this : (clock : Option ℕ) (now : ℕ) → IsTrue (is_clock_time clock now) → option_or clock (Some now) ≡ Some now
reads_this None now is = refl
reads_this (Some time) now is = ap (λ (t : ℕ). Some t) (eqb-true time now is)

first_read : (clock : Option ℕ) (a : Attempt) (now : ℕ) (c : Commit) (act : NodeAct) (more : List ℕ) → act ≡ Start a now c → IsTrue (is_clock_time clock now) → option_or clock (first_of (read_in act ++ more)) ≡ Some now
first_read clock a now c act more acts is = ap (λ (a : NodeAct). option_or clock (first_of (read_in a ++ more))) acts ∙ reads_this clock now is

-- ---- a commit that makes no call but a release

never_fixed : (test : Commit → Bool) (fixed : Option Commit) → ((c : Commit) → IsTrue (test c) → ⊥) → IsTrue (is_fixed test fixed) → ⊥
never_fixed test None none is = false≢true is
never_fixed test (Some c) none is = none c is

quiet_tells : (fixed : Option Commit) (done : List DoorEntry) (answer : Option Reply) → ((c : Commit) → is_stored_by c done ≡ false) → ((c : Commit) → fails_both c done ≡ false) → flat_map (damage_in fixed) done ≡ [] → lists_too_many done ≡ false → Tells fixed done answer
quiet_tells fixed done answer stored both names few = record {
  damage = λ written is. absurd (false≢true (subst (λ (ns : List (List ℕ)). IsTrue (is_written_name written (first_of ns))) names is));
  committed = λ id is. absurd (never_fixed (λ c. same_id id c.id && is_stored_by c done) fixed (λ c so. false≢true (sym (stored c) ∙ (and_parts (same_id id c.id) (is_stored_by c done) so).1)) is);
  doubt = λ is. absurd (never_fixed (λ c. fails_both c done) fixed (λ c so. false≢true (sym (both c) ∙ so)) is);
  few = few;
}

abbrev Quietly : Option Commit → List DoorEntry → Option Reply → Type 0
Quietly fixed done answer = Tells fixed done answer × (IsTrue (faults fixed done) → None ≡ answer)

quietly : (fixed : Option Commit) (by : By) (line : List Turn) (answer : Option Reply) → Tail by line → Quietly fixed (entries by line) answer
quietly fixed by line answer tail = elim tail [
  | inl none ↦ subst (λ (es : List DoorEntry). Quietly fixed es answer) (sym none) (quiet_tells fixed [] answer (λ c. refl) (λ c. refl) refl refl, λ is. absurd (false≢true is))
  | inr one ↦ subst (λ (es : List DoorEntry). Quietly fixed es answer) (sym one.3) (released one.0 one.1 one.2)
]
  where
    released : (uuid : List ℕ) (node inc : ℕ) → Quietly fixed (record { by = by; act = Release uuid node inc } ∷ []) answer
    released uuid node inc = (quiet_tells fixed (record { by = by; act = Release uuid node inc } ∷ []) answer (λ c. refl) (λ c. refl) refl refl, λ is. absurd (false≢true is))

-- ---- any commit

told_is : (exact : Bool) (reply other : Reply) → (if exact then Some reply else None) ≡ Some other → reply ≡ other
told_is true reply other e = some_is reply other e
told_is false reply other e = absurd (cc e)

puts_none : (ends : Ends) (storing : Storing) (writes : List Write) → IsTrue (puts_course ends storing writes []) → ⊥
puts_none ends storing [] follows = false≢true follows
puts_none ends storing (write ∷ writes) follows = false≢true follows

module _ (view : LineView) (node : ℕ) (before : List NodeEntry) (entry : NodeEntry) (reply : Reply) where
  abbrev Exact : List Turn → Type 0
  Exact line = IsTrue (cause (here view node before entry line) reply) → ExactlyCaused (here view node before entry line) reply

  quiet_exact : (line : List Turn) → Tail view.by line → Exact line
  quiet_exact line tail caused =
      let answer : Option Reply = told_to_commit view.hold.attempt (service before) in
      let says = quietly (its_fixed view node before entry line) view.by line answer tail in
      settled_exactly (here view node before entry line) answer (commit_settles view node before entry line answer says.0 (finds_told view.hold.attempt (service before) (reading (here view node before entry line))) says.1) reply caused

  module _ (line : List Turn) where
    abbrev its : LineView
    its = here view node before entry line

    abbrev done : List DoorEntry
    done = entries view.by line

    module _ (c : Commit) (fixed : its_fixed view node before entry line ≡ Some c) (finds : (answer : Option Reply) → Finds view.hold.attempt (service before) (reading its) answer) where
      told_only : (other : Reply) → IsTrue (comes_exactly other) → IsTrue (yields_to other) ⊎ (told other ≡ Some (replies.Committed c.id)) → other ≡ replies.Committed c.id
      told_only other exact (inl yields) = absurd (false≢true (sym (exact_yields_not other exact) ∙ yields))
      told_only other exact (inr so) = told_is (comes_exactly other) other (replies.Committed c.id) so

      -- where it is stored, only its id comes exactly
      only : Storedly c done → (other : Reply) → IsTrue (comes_exactly other) → IsTrue (cause its other) → other ≡ replies.Committed c.id
      only stored other exact is =
          elim (commit_told view node before entry line (Some (replies.Committed c.id)) (subst (λ (f : Option Commit). Tells f done (Some (replies.Committed c.id))) (sym fixed) (stored_tells c done stored)) (finds (Some (replies.Committed c.id))) other is) [
            | inl so ↦ told_only other exact so
            | inr fault ↦ absurd (false≢true (subst (λ (r : Reply). IsTrue (comes_exactly r)) fault exact))
          ]

      unstored_exact : Unstored c done → Exact line
      unstored_exact un caused =
          let answer : Option Reply = told_unstored (fails_both c done) (names_of c done) in
          settled_exactly its answer
          (commit_settles view node before entry line answer (subst (λ (f : Option Commit). Tells f done answer) (sym fixed) (unstored_tells c done un)) (finds answer) (subst (λ (f : Option Commit). IsTrue (faults f done) → None ≡ answer) (sym fixed) (unstored_faults c done un)))
          reply caused

      facts_exact : Facts c done reply → Exact line
      facts_exact facts caused = elim facts [
        | inl stored ↦ only_exactly its reply (λ other exact is. only stored.2 other exact is ∙ sym (only stored.2 reply (subst (λ (r : Reply). IsTrue (comes_exactly r)) (sym stored.1) refl) caused))
        | inr un ↦ unstored_exact un caused
      ]

  module _ (stays : yields_to reply ≡ false) (ends : Ends) where
    started : (a : Attempt) (now : ℕ) (c : Commit) → entry.act ≡ Start a now c → IsTrue (is_held_attempt view.hold.attempt a) → IsTrue (is_clock_time view.clock now) → IsTrue (in_service (λ serving. may_start serving a now c && is_silent entry.answer) (service before))
        → (line : List Turn) → IsTrue (puts_course ends (storing_of a (part before) c) (buffer a (part before)) line) → last_answer (AtNode node before entry ∷ line) ≡ Some reply → Exact line
    started a now c acts own timed may [] follows last = absurd (puts_none ends (storing_of a (part before) c) (buffer a (part before)) follows)
    started a now c acts own timed may (turn ∷ line) follows last =
        let s = serving_of (λ serving. may_start serving a now c && is_silent entry.answer) (service before) may in
        let held = held_is view.hold.attempt a own in
        facts_exact (turn ∷ line) c (ap (λ (h : Option Attempt). fixed_by h (part (before ++ entry ∷ []))) held ∙ fixed_started before entry a now c s.0 s.1 acts)
        (λ answer. subst (λ (h : Option Attempt). Finds h (service before) (reading (here view node before entry (turn ∷ line))) answer) (sym held)
        (subst (λ (f : Option Service). Finds (Some a) f (reading (here view node before entry (turn ∷ line))) answer) (sym s.1)
        (start_finds s.0 a now c (reading (here view node before entry (turn ∷ line))) answer (and_parts (may_start s.0 a now c) (is_silent entry.answer) s.2).0 (its_reading turn line))))
        (putting view.by ends reply stays (storing_of a (part before) c) (buffer a (part before)) (turn ∷ line) follows last)
      where
        its_reading : (turn : Turn) (line : List Turn) → reading (here view node before entry (turn ∷ line)) ≡ Some now
        its_reading turn line = first_read view.clock a now c entry.act (flat_map (λ (t : NodeTurn). read_in t.entry.act) (flat_map node_turn_in (turn ∷ line))) acts timed

    settling : (a : Attempt) → entry.act ≡ Settle a → IsTrue (is_held_attempt view.hold.attempt a) → IsTrue (in_service (λ serving. is_in_doubt (attempt_state a serving.part) && is_silent entry.answer) (service before))
        → (fixed : Option Commit) → fixed_commit (attempt_state a (part before)) ≡ fixed → (line : List Turn) → IsTrue (settles false ends a (part before) fixed line) → last_answer (AtNode node before entry ∷ line) ≡ Some reply → Exact line
    settling a acts own may None is line follows last = absurd (false≢true follows)
    settling a acts own may (Some c) is [] follows last = absurd (false≢true follows)
    settling a acts own may (Some c) is (turn ∷ line) follows last =
        let s = serving_of (λ serving. is_in_doubt (attempt_state a serving.part) && is_silent entry.answer) (service before) may in
        let held = held_is view.hold.attempt a own in
        facts_exact (turn ∷ line) c (ap (λ (h : Option Attempt). fixed_by h (part (before ++ entry ∷ []))) held ∙ fixed_settled before entry a s.0 s.1 acts ∙ ap (λ (f : Option Service). fixed_commit (attempt_state a (part_in f))) (sym s.1) ∙ is)
        (λ answer. subst (λ (h : Option Attempt). Finds h (service before) (reading (here view node before entry (turn ∷ line))) answer) (sym held)
        (subst (λ (f : Option Service). Finds (Some a) f (reading (here view node before entry (turn ∷ line))) answer) (sym s.1)
        (settle_finds s.0 a (reading (here view node before entry (turn ∷ line))) answer (and_parts (is_in_doubt (attempt_state a s.0.part)) (is_silent entry.answer) s.2).0)))
        (settles_commit view.by ends reply stays (storing_of a (part before) c) (turn ∷ line) follows last)

    overly : (line : List Turn) → IsTrue (is_over line) → Exact line
    overly [] follows = quiet_exact [] (inl refl)
    overly (turn ∷ line) follows = absurd (false≢true follows)

    by_act : (act : NodeAct) → entry.act ≡ act → (line : List Turn) → IsTrue (finish_after false ends (part before) act line) → IsTrue (may_be_done node view.settings.cache before act entry.answer) → IsTrue (act_of view.hold.attempt act) → IsTrue (act_at view.clock act)
        → last_answer (AtNode node before entry ∷ line) ≡ Some reply → Exact line
    by_act Nothing acts line follows may held timed last = overly line follows
    by_act (Leave a) acts line follows may held timed last = quiet_exact line (tail_left view.by ends false a (uuid_of a (part before)) line (and_parts (leaves false (buffer a (part before))) _ follows).1)
    by_act (Start a now c) acts line follows may held timed last = started a now c acts held timed may line follows last
    by_act (Settle a) acts line follows may held timed last = settling a acts held may (fixed_commit (attempt_state a (part before))) refl line follows last
    by_act act acts line follows may held timed last = absurd (false≢true follows)

-- what a commit's line needs beside its course
abbrev needs : LineView → Bool
needs view = (keeps_rules view && speaks_of_its_attempt view) && reads_its_clock view

commits_last : (view : LineView) (reply : Reply) (turns : List Turn) (ends : Ends) → yields_to reply ≡ false → IsTrue (finish_course false ends turns) → IsTrue (needs (with_turns view commands.Commit turns)) → last_answer turns ≡ Some reply
    → IsTrue (cause (with_turns view commands.Commit turns) reply) → ExactlyCaused (with_turns view commands.Commit turns) reply
commits_last view reply (AtNode node before entry ∷ line) ends stays follows so last caused =
    let its : LineView = here view node before entry line in
    let y = and_parts (keeps_rules its && speaks_of_its_attempt its) (reads_its_clock its) so in
    let x = and_parts (keeps_rules its) (speaks_of_its_attempt its) y.0 in
    let rule = and_parts _ _ (and_parts (may_follow_at node view.settings.cache before entry) _ x.0).0 in
    let done = and_parts _ (may_be_done node view.settings.cache before entry.act entry.answer) rule.0 in
    by_act view node before entry reply stays ends entry.act refl line follows done.1 (and_parts (turn_of view.hold.attempt (AtNode node before entry)) _ x.1).0 (and_parts (reads_clock_in view.clock (AtNode node before entry)) _ y.1).0 last caused
commits_last view reply (AtDoor place act ∷ line) ends stays follows so last caused = absurd (false≢true follows)
commits_last view reply (AtOffice before entry ∷ line) ends stays follows so last caused = absurd (false≢true follows)
commits_last view reply [] ends stays follows so last caused = absurd (false≢true follows)

commits_with : (view : LineView) (reply : Reply) (turns : List Turn) (ends : Ends) (yields : Bool) → yields_to reply ≡ yields → IsTrue (finish_course false ends turns) → IsTrue (needs (with_turns view commands.Commit turns)) → last_answer turns ≡ Some reply
    → IsTrue (cause (with_turns view commands.Commit turns) reply) → ExactlyCaused (with_turns view commands.Commit turns) reply
commits_with view reply turns ends true yields follows so last caused other = or_right _ _ yields
commits_with view reply turns ends false stays follows so last caused other = commits_last view reply turns ends stays follows so last caused other

pub commits_exact : (view : LineView) (reply : Reply) → view.command ≡ commands.Commit → IsTrue (keeps_its_course view) → IsTrue (keeps_rules view) → IsTrue (speaks_of_its_attempt view) → IsTrue (reads_its_clock view) → last_answer view.turns ≡ Some reply → IsTrue (cause view reply) → ExactlyCaused view reply
commits_exact view reply e keeps rules speaks clock last caused =
    subst (λ (c : Command). ((turns : List Turn) → IsTrue (follows_course c (node_numbers view.settings) (ends_of (with_turns view c turns)) turns) → IsTrue (needs (with_turns view c turns)) → last_answer turns ≡ Some reply → IsTrue (cause (with_turns view c turns) reply) → ExactlyCaused (with_turns view c turns) reply) → ExactlyCaused view reply) e
    (λ its. its view.turns (and_parts (answers_last view.turns) (follows_course view.command (node_numbers view.settings) (ends_of view) view.turns) keeps).1 (and_from _ _ (and_from _ _ rules speaks) clock) last caused)
    (λ turns follows so its_last its_cause. commits_with view reply turns (ends_of (with_turns view commands.Commit turns)) (yields_to reply) refl follows so its_last its_cause)
