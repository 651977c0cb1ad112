-- A commit or an abort puts and settles the commit that its attempt has fixed behind the line's first turn.
use Rattle.std.proofs.Common.{◌≡◌, ℕ, Bool, true, false, eqb, ◌&&◌, not, List, [], ◌∷◌, ◌++◌, refl, sym, ap, subst, ◌∙◌}
use Rattle.std.specs.Prelude.{IsTrue, Option, Some, None, if◌then◌else◌}
use Rattle.std.specs.List.{fold}
use Rattle.std.proofs.lemmas.Bool.{false≢true}
use Rattle.std.proofs.lemmas.List.Sums.{fold-append}
use Rattle.aft_keeper.specs.declared.keeper.KeeperAnswer.{KeeperAnswer}
use Rattle.aft_keeper.specs.declared.keeper.KeeperCall.TheVariants.{Get, Put}
use Rattle.aft_keeper.specs.declared.keeper.Pair.{Pair}
use Rattle.aft_records.specs.declared.stored.Commit.{Commit}
use Rattle.aft_model.specs.declared.caller.Attempt.{Attempt}
use Rattle.aft_model.specs.declared.door.DoorAct.TheVariants.{Call, Release}
use Rattle.aft_model.specs.declared.node.NodeAct.{NodeAct}
use Rattle.aft_model.specs.declared.node.NodeAct.TheVariants as acts
use Rattle.aft_model.specs.declared.node.NodeEntry.{NodeEntry}
use Rattle.aft_model.specs.declared.reply.Reply.{Reply}
use Rattle.aft_model.specs.Attempts.{AttemptState, IsCommitting, IsInDoubt, attempt_after, attempt_state, buffer, fixed_commit, tried_again, uuid_of}
use Rattle.aft_model.specs.NodeState.{IsBooting, IsDown, IsServing, NodeState, goes_on, node_state, part, part_in, service_in, state_after}
use Rattle.aft_model.specs.Stages.{is_acknowledged}
use Rattle.aft_model.proofs.Pins.{same_attempts}
use Rattle.aft_lines.specs.Advance.{advance, advance_finish, advanced, behind_failure, behind_settling, closed_by, finished_with, freed_by, if_so, is_stored_in, leads_to, left_alone, looked_by, noted_at_node, or_at, put_by, settled_with, shut_out_by, tells_outcome}
use Rattle.aft_lines.specs.CommitCourse.{Storing, doubts, gets_record, is_release_of, is_version_of, is_written_as, leaves, puts_own, storing_of, takes_away}
use Rattle.aft_lines.specs.CourseWords.{Ends, answers_down, any_answer, caller_of, ends_shut_out, finds_nothing, finds_record, tells_down, tells_no_memory, tells_refused}
use Rattle.aft_lines.specs.LegalTrace.{act_of, is_held_attempt}
use Rattle.aft_lines.specs.LineView.{fixed_by}
use Rattle.aft_lines.specs.Progress.{EndsAborted, EndsCommitted, EndsLeft, FoundAborted, HasFailed, IsNodeStored, IsOver, IsRecorded, IsStoring, MustDoubt, MustEnd, MustLeave, NotBegun, Outcome, Progress, Settling, Stopped}
use Rattle.aft_lines.specs.Turns.{AtDoor, AtNode, Turn}
use Rattle.law_attempts.proofs.Standing.{same_itself}
use Rattle.law_finish.specs.Finishing.{finishing}
use Rattle.law_damage.specs.Settling.{settling_at}
use Rattle.law_runs.proofs.Walks.{from_nowhere}

-- what a line in a position puts or settles: one commit, or none; before its first turn that isn't told
abbrev pub stores : Progress → Option (List Commit)
stores NotBegun = Some []
stores (Settling aborts storing) = Some (storing.written.commit ∷ [])
stores (IsStoring storing left) = Some (storing.written.commit ∷ [])
stores (HasFailed storing) = Some (storing.written.commit ∷ [])
stores position = None

abbrev stored_in : Option Progress → Option (List Commit)
stored_in None = None
stored_in (Some position) = stores position

-- if it is told, it is this commit
abbrev pub Only : Commit → Option (List Commit) → Type 0
Only c stored = (d : List Commit) → stored ≡ Some d → d ≡ c ∷ []

only_none : (c : Commit) → Only c None
only_none c d e = absurd (cc)

only_it : (c : Commit) → Only c (Some (c ∷ []))
only_it c d e = cc

module _ (c : Commit) (ends : Ends) where
  if_only : (so : Bool) (next : Progress) → Only c (stores next) → Only c (stored_in (if_so so next))
  if_only true next only = only
  if_only false next only = only_none c

  closed : (a : Attempt) (test : NodeAct → Option Reply → Bool) (turn : Turn) → Only c (stored_in (closed_by ends a test turn))
  closed a test (AtNode at before entry) = cases (not (eqb a.node at)) (test entry.act entry.answer) (answers_down entry.act entry.answer && ends.is_left a.inc (node_state before))
    where
      cases : (other passed left : Bool) → Only c (stored_in (if other then None else if passed then Some IsOver else if left then Some (Stopped a) else None))
      cases true passed left = only_none c
      cases false true left = only_none c
      cases false false true = only_none c
      cases false false false = only_none c
  closed a test turn = only_none c

  shut : (a : Attempt) (test : NodeAct → Option Reply → Bool) (turn : Turn) → Only c (stored_in (shut_out_by ends a test turn))
  shut a test turn = cases (ends_shut_out ends (caller_of a) (turn ∷ []))
    where
      cases : (out : Bool) → Only c (stored_in (if out then closed_by ends a test turn else None))
      cases true = closed a test turn
      cases false = only_none c

  looked : (storing : Storing) (then_at : KeeperAnswer → Progress) → ((answer : KeeperAnswer) → Only c (stores (then_at answer))) → (turn : Turn) → Only c (stored_in (looked_by ends storing then_at turn))
  looked storing then_at only (AtDoor place (Call node inc (Get name) answer)) = if_only (gets_record storing node inc name) (then_at answer) (only answer)
  looked storing then_at only turn = closed storing.attempt (doubts storing.attempt tells_refused) turn

  put : (storing : Storing) (test : Pair → Bool) (done failed : Progress) → Only c (stores done) → Only c (stores failed) → (turn : Turn) → Only c (stored_in (put_by ends storing test done failed turn))
  put storing test done failed one other (AtDoor place (Call node inc (Put name bytes) answer)) = if_only (puts_own storing test node inc name bytes) (if is_acknowledged answer then done else failed) (cases (is_acknowledged answer))
    where
      cases : (acknowledged : Bool) → Only c (stores (if acknowledged then done else failed))
      cases true = one
      cases false = other
  put storing test done failed one other turn = closed storing.attempt (doubts storing.attempt tells_refused) turn

  freed : (a : Attempt) (uuid : List ℕ) (outcome : Outcome) (without : Turn → Option Progress) → ((turn : Turn) → Only c (stored_in (without turn))) → (turn : Turn) → Only c (stored_in (freed_by a uuid outcome without turn))
  freed a uuid outcome without only (AtDoor place (Release released node inc)) = if_only (is_release_of a uuid released node inc) (MustEnd a outcome) (only_none c)
  freed a uuid outcome without only turn = only turn

  alone : (a : Attempt) (turn : Turn) → Only c (stored_in (left_alone ends a turn))
  alone a (AtNode at before entry) = if_only (eqb a.node at && answers_down entry.act entry.answer && ends.is_shut_out (caller_of a) entry.front) (Stopped a) (only_none c)
  alone a turn = only_none c

  noted : (storing : Storing) (turn : Turn) → Only c (stored_in (noted_at_node ends storing turn))
  noted storing (AtNode at before entry) = cases (eqb storing.attempt.node at && is_stored_in storing entry.act)
    where
      cases : (so : Bool) → Only c (stored_in (if so then Some (IsNodeStored storing) else closed_by ends storing.attempt (doubts storing.attempt tells_no_memory) (AtNode at before entry)))
      cases true = only_none c
      cases false = closed storing.attempt (doubts storing.attempt tells_no_memory) (AtNode at before entry)
  noted storing turn = only_none c

  either : (one other : Option Progress) → Only c (stored_in one) → Only c (stored_in other) → Only c (stored_in (or_at one other))
  either None other first second = second
  either (Some position) other first second = first

  step : (position : Progress) (turn : Turn) → Only c (stores position) → Only c (stored_in (advance_finish ends position turn))
  step (Settling aborts storing) turn only = looked storing (behind_settling aborts storing) (λ answer. cases (finds_record storing.written.commit answer) (finds_nothing answer) aborts) turn
    where
      cases : (found nothing gives_up : Bool) → Only c (stores (if found then IsRecorded storing else if not nothing then MustDoubt storing else if gives_up then FoundAborted storing else IsStoring storing storing.writes))
      cases true nothing gives_up = only_none c
      cases false false gives_up = only_none c
      cases false true true = only_none c
      cases false true false = only
  step (IsStoring storing []) turn only = put storing (is_written_as storing.written) (IsRecorded storing) (HasFailed storing) (only_none c) only turn
  step (IsStoring storing (write ∷ left)) turn only = put storing (is_version_of storing.written.commit write) (IsStoring storing left) (MustDoubt storing) only (only_none c) turn
  step (HasFailed storing) turn only = looked storing (behind_failure storing) (λ answer. cases (finds_record storing.written.commit answer)) turn
    where
      cases : (found : Bool) → Only c (stores (if found then IsRecorded storing else MustDoubt storing))
      cases true = only_none c
      cases false = only_none c
  step (IsRecorded storing) turn only = noted storing turn
  step (IsNodeStored storing) turn only = freed storing.attempt storing.written.commit.id.uuid EndsCommitted (shut_out_by ends storing.attempt (doubts storing.attempt tells_down)) (shut storing.attempt (doubts storing.attempt tells_down)) turn
  step (FoundAborted storing) turn only =
      freed storing.attempt storing.written.commit.id.uuid EndsAborted
      (λ last. or_at (shut_out_by ends storing.attempt (doubts storing.attempt tells_down) last) (closed_by ends storing.attempt (doubts storing.attempt tells_no_memory) last))
      (λ last. either (shut_out_by ends storing.attempt (doubts storing.attempt tells_down) last) (closed_by ends storing.attempt (doubts storing.attempt tells_no_memory) last) (shut storing.attempt (doubts storing.attempt tells_down) last) (closed storing.attempt (doubts storing.attempt tells_no_memory) last)) turn
  step (MustDoubt storing) turn only = closed storing.attempt (doubts storing.attempt any_answer) turn
  step (MustLeave aborts a uuid) turn only = freed a uuid (EndsLeft aborts) (left_alone ends a) (alone a) turn
  step (MustEnd a outcome) turn only = closed a (takes_away a (tells_outcome outcome)) turn
  step position turn only = only_none c

  module _ (aborts : Bool) (nodes : List ℕ) where
    any_step : (position : Progress) (turn : Turn) → Only c (stores position) → Only c (stored_in (advance (finishing aborts) nodes ends position turn))
    any_step position turn only = by_command aborts
      where
        unbegun : position ≡ NotBegun → ⊥
        unbegun is = absurd (let none : [] ≡ c ∷ [] = only [] (ap stores is) in cc)

        by_command : (abort : Bool) → Only c (stored_in (advance (finishing abort) nodes ends position turn))
        by_command true = by_position position refl
          where
            by_position : (p : Progress) → position ≡ p → Only c (stored_in (advance (finishing true) nodes ends p turn))
            by_position NotBegun is = absurd (unbegun is)
            by_position p is = step p turn (subst (λ q. Only c (stores q)) is only)
        by_command false = by_position position refl
          where
            by_position : (p : Progress) → position ≡ p → Only c (stored_in (advance (finishing false) nodes ends p turn))
            by_position NotBegun is = absurd (unbegun is)
            by_position p is = step p turn (subst (λ q. Only c (stores q)) is only)

    all_steps : (line : List Turn) (position last : Progress) → Only c (stores position) → fold (advanced (advance (finishing aborts) nodes ends)) (Some position) line ≡ Some last → Only c (stores last)
    all_steps [] position last only e = subst (λ o. Only c (stored_in o)) e only
    all_steps (turn ∷ line) position last only e = by_next (advance (finishing aborts) nodes ends position turn) (any_step position turn only) (λ next so. all_steps line next last so) e
      where
        by_next : (next : Option Progress) → Only c (stored_in next) → ((position : Progress) → Only c (stores position) → fold (advanced (advance (finishing aborts) nodes ends)) (Some position) line ≡ Some last → Only c (stores last)) → fold (advanced (advance (finishing aborts) nodes ends)) next line ≡ Some last → Only c (stores last)
        by_next None so rest led = absurd (from_nowhere (advance (finishing aborts) nodes ends) line last led)
        by_next (Some next) so rest led = rest next so led

-- ---- what the attempt has fixed behind the first turn

-- behind an act that lets its node serve on, an attempt that has fixed something does what it did in the same service
served_on : (a : Attempt) (entry : NodeEntry) (f : Commit) (state : NodeState) → fixed_commit (attempt_state a (part_in (service_in (goes_on state entry)))) ≡ Some f → fixed_commit (attempt_after a (attempt_state a (part_in (service_in state))) entry.act) ≡ Some f
served_on a entry f (IsServing serving) e = sym (ap fixed_commit (fold-append (λ (state : AttemptState) (done : NodeEntry). attempt_after a state done.act) (attempt_state a []) serving.part (entry ∷ []))) ∙ e
served_on a entry f (IsBooting inc runs) e = absurd (cc)
served_on a entry f IsDown e = absurd (cc)

fixed_again : (state : AttemptState) → fixed_commit (tried_again state) ≡ fixed_commit state
fixed_again (IsInDoubt c) = refl
fixed_again state = refl

held_is : (held : Option Attempt) (a : Attempt) → IsTrue (is_held_attempt held a) → held ≡ Some a
held_is None a is = absurd (false≢true is)
held_is (Some b) a is = ap (λ (x : Attempt). Some x) (same_attempts b a is)

module _ (nodes : List ℕ) (ends : Ends) (held : Option Attempt) (before : List NodeEntry) (entry : NodeEntry) (f : Commit) (fixed : fixed_by held (part (before ++ entry ∷ [])) ≡ Some f) where
  -- what the attempt has fixed behind the act, which lets its node serve on
  fixed_behind : (act : NodeAct) → entry.act ≡ act → ((state : NodeState) → state_after state entry act ≡ goes_on state entry) → (a : Attempt) → IsTrue (is_held_attempt held a) → fixed_commit (attempt_after a (attempt_state a (part before)) act) ≡ Some f
  fixed_behind act is serves a own =
      let of_a : fixed_commit (attempt_state a (part (before ++ entry ∷ []))) ≡ Some f = sym (ap (λ h. fixed_by h (part (before ++ entry ∷ []))) (held_is held a own)) ∙ fixed in
      let behind : node_state (before ++ entry ∷ []) ≡ goes_on (node_state before) entry =
      fold-append (λ (state : NodeState) (done : NodeEntry). state_after state done done.act) IsDown before (entry ∷ []) ∙ ap (state_after (node_state before) entry) is ∙ serves (node_state before) in
      subst (λ done. fixed_commit (attempt_after a (attempt_state a (part before)) done) ≡ Some f) is
      (served_on a entry f (node_state before) (sym (ap (λ s. fixed_commit (attempt_state a (part_in (service_in s)))) behind) ∙ of_a))

  settled : (abort : Bool) (a : Attempt) (was : Option Commit) → was ≡ Some f → Only f (stored_in (settled_with abort a (part before) was))
  settled abort a None e = absurd (cc)
  settled abort a (Some c) e = λ d told. (let it : Some (c ∷ []) ≡ Some d = told in cc)

  started : (a : Attempt) (c : Commit) → Some c ≡ Some f → Only f (stores (IsStoring (storing_of a (part before) c) (buffer a (part before))))
  started a c e = λ d told. (let it : Some (c ∷ []) ≡ Some d = told in cc)

  left : (so : Bool) (next : Progress) → stores next ≡ None → Only f (stored_in (if_so so next))
  left true next none = subst (Only f) (sym none) (only_none f)
  left false next none = only_none f

  begun : (abort : Bool) (act : NodeAct) → entry.act ≡ act → IsTrue (act_of held act) → Only f (stored_in (finished_with abort (part before) act))
  begun abort acts.Nothing is own = only_none f
  begun abort (acts.Leave a) is own = left (leaves abort (buffer a (part before))) (MustLeave abort a (uuid_of a (part before))) refl
  begun true (acts.Start a now c) is own = only_none f
  begun false (acts.Start a now c) is own =
      started a c (subst (λ (b : Bool). fixed_commit (if b then IsCommitting c else attempt_state a (part before)) ≡ Some f) (same_itself a) (fixed_behind (acts.Start a now c) is (λ state. refl) a own))
  begun abort (acts.Settle a) is own =
      settled abort a (fixed_commit (attempt_state a (part before)))
      (sym (fixed_again (attempt_state a (part before))) ∙ subst (λ (b : Bool). fixed_commit (if b then tried_again (attempt_state a (part before)) else attempt_state a (part before)) ≡ Some f) (same_itself a) (fixed_behind (acts.Settle a) is (λ state. refl) a own))
  begun abort act is own = only_none f

  -- wherever the line comes, it puts or settles nothing else
  pub stores_fixed : (aborts : Bool) (node : ℕ) (line : List Turn) (last : Progress) → IsTrue (act_of held entry.act) → leads_to (finishing aborts) nodes ends (AtNode node before entry ∷ line) ≡ Some last → Only f (stores last)
  stores_fixed aborts node line last own = by_command aborts
    where
      rest : (abort : Bool) (next : Option Progress) → Only f (stored_in next) → fold (advanced (advance (finishing abort) nodes ends)) next line ≡ Some last → Only f (stores last)
      rest abort None so led = absurd (from_nowhere (advance (finishing abort) nodes ends) line last led)
      rest abort (Some next) so led = all_steps f ends abort nodes line next last so led

      by_command : (abort : Bool) → leads_to (finishing abort) nodes ends (AtNode node before entry ∷ line) ≡ Some last → Only f (stores last)
      by_command true led = rest true (finished_with true (part before) entry.act) (begun true entry.act refl own) led
      by_command false led = rest false (finished_with false (part before) entry.act) (begun false entry.act refl own) led

-- so what it settles is that
pub settles_fixed : (aborts : Bool) (nodes : List ℕ) (ends : Ends) (held : Option Attempt) (node : ℕ) (before : List NodeEntry) (entry : NodeEntry) (line : List Turn) (position : Progress) (storing : Storing) (c : Commit) → IsTrue (act_of held entry.act) → fixed_by held (part (before ++ entry ∷ [])) ≡ Some c → leads_to (finishing aborts) nodes ends (AtNode node before entry ∷ line) ≡ Some position → settling_at position ≡ Some storing → storing.written.commit ≡ c
settles_fixed aborts nodes ends held node before entry line position storing c own fixed led settles = by_position position settles (stores_fixed nodes ends held before entry c fixed aborts node line position own led)
  where
    one : (storing other : Storing) → Some storing ≡ Some other → Only c (Some (storing.written.commit ∷ [])) → other.written.commit ≡ c
    one it other e only = (let same : it ≡ other = cc in let found : it.written.commit ∷ [] ≡ c ∷ [] = only (it.written.commit ∷ []) refl in cc)

    by_position : (p : Progress) → settling_at p ≡ Some storing → Only c (stores p) → storing.written.commit ≡ c
    by_position (Settling abort it) e only = one it storing e only
    by_position (HasFailed it) e only = one it storing e only
    by_position p e only = absurd (cc)
