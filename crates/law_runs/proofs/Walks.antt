-- Where a line that moves an attempt goes: its turns stand at the door and at the node of its attempt, until it is over.
use Rattle.std.proofs.Common.{Bool, List, [], ap, eqb, false, inl, inr, not, refl, subst, sym, true, ℕ, ◌&&◌, ◌++◌, ◌∙◌, ◌∷◌, ◌≡◌, ◌⊎◌}
use Rattle.aft_id.specs.TxnId.{zero_id}
use Rattle.aft_lines.specs.Advance.{advance, advance_claim, advance_finish, advanced, allows, begun_with, behind_unused, closed_by, doubted_by, finished_with, is_stored_in, leads_to, left_alone, noted_at_node, or_at, released_by, settled_with, shut_out_by, tells_outcome}
use Rattle.aft_lines.specs.BeginCourse.{Beginning, begins_running, gives_back}
use Rattle.aft_lines.specs.CommitCourse.{Storing, doubts, leaves, takes_away}
use Rattle.aft_lines.specs.CourseWords.{Ends, answers_down, any_answer, caller_of, ends_shut_out, tells_down, tells_no_memory, tells_refused, tells_unclaimed}
use Rattle.aft_lines.specs.Makes.{makes}
use Rattle.aft_lines.specs.Progress.{Admitted, AnyReason, EndsAborted, EndsCommitted, EndsLeft, FoundAborted, FoundNoRecord, FoundShort, FoundUnused, HasClaim, HasFailed, HasForgotten, HasReleased, IsNodeStored, IsOver, IsRecorded, IsStoring, MustDoubt, MustEnd, MustLeave, MustRelease, NoRoom, NotBegun, Progress, Reason, Refusal, Settling, Stopped}
use Rattle.aft_lines.specs.Turns.{AtDoor, AtNode, AtOffice, Turn}
use Rattle.aft_model.proofs.Histories.{In}
use Rattle.aft_model.proofs.Sights.{bytes_eq-refl}
use Rattle.aft_model.specs.Attempts.{AttemptState, IsCommitting, IsLeaving, IsOpening, attempt_state, buffer, fixed_commit, uuid_of}
use Rattle.aft_model.specs.LegalNode.{LegalNode}
use Rattle.aft_model.specs.NodeState.{node_state, part}
use Rattle.aft_model.specs.declared.caller.Attempt.{Attempt}
use Rattle.aft_model.specs.declared.door.DoorAct.{DoorAct}
use Rattle.aft_model.specs.declared.node.NodeAct.{NodeAct}
use Rattle.aft_model.specs.declared.node.NodeEntry.{NodeEntry}
use Rattle.aft_model.specs.declared.office.OfficeEntry.{OfficeEntry}
use Rattle.aft_model.specs.declared.reply.Reply.{Reply}
use Rattle.aft_model.specs.declared.script.Command.{Command}
use Rattle.aft_records.specs.declared.stored.Commit.{Commit}
use Rattle.law_attempts.proofs.Newest.{acts_of_own}
use Rattle.law_attempts.proofs.Standing.{same_itself}
use Rattle.law_attempts.specs.Acts.{acts_on}
use Rattle.law_claims.proofs.Doors.{attempts_stay}
use Rattle.law_claims.proofs.Movers.{begun_before}
use Rattle.law_claims.proofs.Scenes.{is_itself, moves_it, the_is}
use Rattle.law_claims.proofs.Taking.{same_commit-refl}
use Rattle.law_claims.specs.Doing.{attempt_at, is_doing, is_the, moves, names_uuid}
use Rattle.law_holders.specs.Rows.{is_of_attempt}
use Rattle.std.proofs.lemmas.Bool.{and_from, and_parts, eq-eqb, eqb-true, false≢true, true≢false}
use Rattle.std.specs.List.{fold, list_all}
use Rattle.std.specs.Prelude.{IsTrue, None, Option, Some, if◌then◌else◌}
use Rattle.aft_model.specs.declared.node.NodeAct.TheVariants as acts
use Rattle.aft_model.specs.declared.script.Command.TheVariants as commands

-- with its attempt, or over
abbrev Ahead : Attempt → Progress → Type 0
Ahead a next = (attempt_at next ≡ Some a) ⊎ (next ≡ IsOver) ⊎ (next ≡ Stopped a)

-- ---- a later turn at a node

-- why a line may stop there: the node has left its attempt's incarnation, or that was shut out
abbrev pub Why : Ends → List NodeEntry → NodeEntry → Attempt → Type 0
Why ends history entry a = IsTrue (ends.is_left a.inc (node_state history)) ⊎ IsTrue (ends.is_shut_out (caller_of a) entry.front)

abbrev pub ThereIf : Ends → List NodeEntry → NodeEntry → Attempt → ℕ → Option Progress → Type 0
ThereIf ends history entry a at None = Unit {0}
ThereIf ends history entry a at (Some next) = IsTrue (eqb a.node at) × ((attempt_at next ≡ Some a) ⊎ (next ≡ IsOver) ⊎ ((next ≡ Stopped a) × Why ends history entry a))

inside : (x y : Attempt) → Some x ≡ Some y → x ≡ y
inside x y is = cc

module _ (ends : Ends) (at : ℕ) (history : List NodeEntry) (entry : NodeEntry) where
  abbrev this : Turn
  this = AtNode at history entry

  abbrev There : Attempt → Option Progress → Type 0
  There a o = ThereIf ends history entry a at o

  as_its : (position : Progress) (b : Attempt) → attempt_at position ≡ Some b → (o : Option Progress) → There b o → (a : Attempt) → attempt_at position ≡ Some a → There a o
  as_its position b is o there a same = subst (λ (x : Attempt). There x o) (inside b a (sym is ∙ same)) there

  closed_there : (a : Attempt) (test : NodeAct → Option Reply → Bool) → There a (closed_by ends a test this)
  closed_there a test = cases (eqb a.node at) refl (test entry.act entry.answer) (answers_down entry.act entry.answer && ends.is_left a.inc (node_state history)) refl
    where
      cases : (here : Bool) → eqb a.node at ≡ here → (passed left : Bool) → (answers_down entry.act entry.answer && ends.is_left a.inc (node_state history)) ≡ left → There a (if not here then None else if passed then Some IsOver else if left then Some (Stopped a) else None)
      cases false is passed left why = tt
      cases true is true left why = (is, inr (inl refl))
      cases true is false true why = (is, inr (inr (refl, inl (and_parts (answers_down entry.act entry.answer) (ends.is_left a.inc (node_state history)) why).1)))
      cases true is false false why = tt

  either_there : (a : Attempt) (passed : Bool) (next : Option Progress) → There a next → There a (if passed then next else None)
  either_there a true next there = there
  either_there a false next there = tt

  shut_there : (a : Attempt) (test : NodeAct → Option Reply → Bool) → There a (shut_out_by ends a test this)
  shut_there a test = either_there a (ends_shut_out ends (caller_of a) (this ∷ [])) (closed_by ends a test this) (closed_there a test)

  or_there : (a : Attempt) (one other : Option Progress) → There a one → There a other → There a (or_at one other)
  or_there a None other x y = y
  or_there a (Some p) other x y = x

  released_there : (begun : Beginning) (reason : Reason) → There begun.attempt (released_by ends begun reason this)
  released_there begun reason = shut_there begun.attempt (gives_back begun.attempt tells_down)

  noted_there : (storing : Storing) → There storing.attempt (noted_at_node ends storing this)
  noted_there storing = cases (eqb storing.attempt.node at && is_stored_in storing entry.act) refl
    where
      cases : (b : Bool) → (eqb storing.attempt.node at && is_stored_in storing entry.act) ≡ b → There storing.attempt (if b then Some (IsNodeStored storing) else doubted_by ends storing tells_no_memory this)
      cases true is = ((and_parts (eqb storing.attempt.node at) (is_stored_in storing entry.act) is).0, inl refl)
      cases false is = closed_there storing.attempt (doubts storing.attempt tells_no_memory)

  alone_there : (a : Attempt) → There a (left_alone ends a this)
  alone_there a = cases (eqb a.node at && answers_down entry.act entry.answer && ends.is_shut_out (caller_of a) entry.front) refl
    where
      cases : (b : Bool) → (eqb a.node at && answers_down entry.act entry.answer && ends.is_shut_out (caller_of a) entry.front) ≡ b → There a (if b then Some (Stopped a) else None)
      cases true is =
          let parts = and_parts (eqb a.node at && answers_down entry.act entry.answer) (ends.is_shut_out (caller_of a) entry.front) is in
          ((and_parts (eqb a.node at) (answers_down entry.act entry.answer) parts.0).0, inr (inr (refl, inr parts.1)))
      cases false is = tt

  unused_there : (forgets : Bool) (begun : Beginning) → There begun.attempt (behind_unused ends forgets begun this)
  unused_there false begun =
      or_there begun.attempt (closed_by ends begun.attempt (begins_running begun.attempt) this) (released_by ends begun NoRoom this) (closed_there begun.attempt (begins_running begun.attempt)) (released_there begun NoRoom)
  unused_there true begun = released_there begun AnyReason

  claim_there : (forgets : Bool) (position : Progress) (a : Attempt) → attempt_at position ≡ Some a → There a (advance_claim ends forgets position this)
  claim_there forgets (Admitted begun) = as_its (Admitted begun) begun.attempt refl (advance_claim ends forgets (Admitted begun) this) (closed_there begun.attempt (gives_back begun.attempt tells_unclaimed))
  claim_there forgets (HasClaim begun) = as_its (HasClaim begun) begun.attempt refl (advance_claim ends forgets (HasClaim begun) this) (released_there begun Refusal)
  claim_there forgets (FoundNoRecord begun) = as_its (FoundNoRecord begun) begun.attempt refl (advance_claim ends forgets (FoundNoRecord begun) this) (released_there begun Refusal)
  claim_there forgets (FoundUnused begun) = as_its (FoundUnused begun) begun.attempt refl (advance_claim ends forgets (FoundUnused begun) this) (unused_there forgets begun)
  claim_there forgets (FoundShort begun) = as_its (FoundShort begun) begun.attempt refl (advance_claim ends forgets (FoundShort begun) this) (released_there begun Refusal)
  claim_there forgets (HasForgotten begun) = as_its (HasForgotten begun) begun.attempt refl (advance_claim ends forgets (HasForgotten begun) this) (released_there begun AnyReason)
  claim_there forgets (MustRelease begun) = as_its (MustRelease begun) begun.attempt refl (advance_claim ends forgets (MustRelease begun) this) (released_there begun AnyReason)
  claim_there forgets (HasReleased begun reason) = as_its (HasReleased begun reason) begun.attempt refl (advance_claim ends forgets (HasReleased begun reason) this) (closed_there begun.attempt (gives_back begun.attempt (allows reason)))
  claim_there forgets position = λ a is. tt

  finish_there : (position : Progress) (a : Attempt) → attempt_at position ≡ Some a → There a (advance_finish ends position this)
  finish_there (Settling aborts storing) = as_its (Settling aborts storing) storing.attempt refl (advance_finish ends (Settling aborts storing) this) (closed_there storing.attempt (doubts storing.attempt tells_refused))
  finish_there (IsStoring storing []) = as_its (IsStoring storing []) storing.attempt refl (advance_finish ends (IsStoring storing []) this) (closed_there storing.attempt (doubts storing.attempt tells_refused))
  finish_there (IsStoring storing (write ∷ writes)) = as_its (IsStoring storing (write ∷ writes)) storing.attempt refl (advance_finish ends (IsStoring storing (write ∷ writes)) this) (closed_there storing.attempt (doubts storing.attempt tells_refused))
  finish_there (HasFailed storing) = as_its (HasFailed storing) storing.attempt refl (advance_finish ends (HasFailed storing) this) (closed_there storing.attempt (doubts storing.attempt tells_refused))
  finish_there (IsRecorded storing) = as_its (IsRecorded storing) storing.attempt refl (advance_finish ends (IsRecorded storing) this) (noted_there storing)
  finish_there (IsNodeStored storing) = as_its (IsNodeStored storing) storing.attempt refl (advance_finish ends (IsNodeStored storing) this) (shut_there storing.attempt (doubts storing.attempt tells_down))
  finish_there (FoundAborted storing) =
      as_its (FoundAborted storing) storing.attempt refl (advance_finish ends (FoundAborted storing) this)
      (or_there storing.attempt (shut_out_by ends storing.attempt (doubts storing.attempt tells_down) this) (doubted_by ends storing tells_no_memory this) (shut_there storing.attempt (doubts storing.attempt tells_down)) (closed_there storing.attempt (doubts storing.attempt tells_no_memory)))
  finish_there (MustDoubt storing) = as_its (MustDoubt storing) storing.attempt refl (advance_finish ends (MustDoubt storing) this) (closed_there storing.attempt (doubts storing.attempt any_answer))
  finish_there (MustLeave aborts b uuid) = as_its (MustLeave aborts b uuid) b refl (advance_finish ends (MustLeave aborts b uuid) this) (alone_there b)
  finish_there (MustEnd b outcome) = as_its (MustEnd b outcome) b refl (advance_finish ends (MustEnd b outcome) this) (closed_there b (takes_away b (tells_outcome outcome)))
  finish_there position = λ a is. tt

  none_at_first : (next : Option Progress) (a : Attempt) → None ≡ Some a → There a next
  none_at_first next a is = absurd (cc)

  pub line_there : (command : Command) (nodes : List ℕ) → IsTrue (is_of_attempt command) → (position : Progress) (a : Attempt) → attempt_at position ≡ Some a → There a (advance command nodes ends position this)
  line_there (commands.Begin u home) nodes of NotBegun a is = none_at_first (advance (commands.Begin u home) nodes ends NotBegun this) a is
  line_there (commands.Begin u home) nodes of position a is = claim_there false position a is
  line_there (commands.Forget u home) nodes of NotBegun a is = none_at_first (advance (commands.Forget u home) nodes ends NotBegun this) a is
  line_there (commands.Forget u home) nodes of position a is = claim_there true position a is
  line_there commands.Commit nodes of NotBegun a is = none_at_first (advance commands.Commit nodes ends NotBegun this) a is
  line_there commands.Commit nodes of position a is = finish_there position a is
  line_there commands.Abort nodes of NotBegun a is = none_at_first (advance commands.Abort nodes ends NotBegun this) a is
  line_there commands.Abort nodes of position a is = finish_there position a is
  line_there command nodes of position a is = absurd (false≢true of)

-- ---- a later turn at the door

abbrev Moved : Progress → Attempt → Type 0
Moved position a = (state : AttemptState) × (uuid : List ℕ) × IsTrue (moves position a state uuid)

moved_so : (position : Progress) (a : Attempt) → attempt_at position ≡ Some a → (state : AttemptState) (uuid : List ℕ) → IsTrue (is_doing position state) → IsTrue (names_uuid position uuid) → Moved position a
moved_so position a is state uuid does named = (state, uuid, and_from (is_the a (attempt_at position) && is_doing position state) (names_uuid position uuid) (and_from (is_the a (attempt_at position)) (is_doing position state) (is_itself a (attempt_at position) is) does) named)

none_moved : (position : Progress) (a : Attempt) → None ≡ Some a → Moved position a
none_moved position a is = absurd (cc)

moved_at : (position : Progress) (a : Attempt) → attempt_at position ≡ Some a → Moved position a
moved_at (Admitted begun) a is = moved_so (Admitted begun) a is IsOpening begun.uuid refl (bytes_eq-refl begun.uuid)
moved_at (HasClaim begun) a is = moved_so (HasClaim begun) a is IsOpening begun.uuid refl (bytes_eq-refl begun.uuid)
moved_at (FoundNoRecord begun) a is = moved_so (FoundNoRecord begun) a is IsOpening begun.uuid refl (bytes_eq-refl begun.uuid)
moved_at (FoundUnused begun) a is = moved_so (FoundUnused begun) a is IsOpening begun.uuid refl (bytes_eq-refl begun.uuid)
moved_at (FoundShort begun) a is = moved_so (FoundShort begun) a is IsOpening begun.uuid refl (bytes_eq-refl begun.uuid)
moved_at (HasForgotten begun) a is = moved_so (HasForgotten begun) a is IsOpening begun.uuid refl (bytes_eq-refl begun.uuid)
moved_at (MustRelease begun) a is = moved_so (MustRelease begun) a is IsOpening begun.uuid refl (bytes_eq-refl begun.uuid)
moved_at (HasReleased begun reason) a is = moved_so (HasReleased begun reason) a is IsOpening begun.uuid refl (bytes_eq-refl begun.uuid)
moved_at (Settling aborts storing) a is = moved_so (Settling aborts storing) a is (IsCommitting storing.written.commit) storing.written.commit.id.uuid (same_commit-refl storing.written.commit) (bytes_eq-refl storing.written.commit.id.uuid)
moved_at (IsStoring storing left) a is = moved_so (IsStoring storing left) a is (IsCommitting storing.written.commit) storing.written.commit.id.uuid (same_commit-refl storing.written.commit) (bytes_eq-refl storing.written.commit.id.uuid)
moved_at (HasFailed storing) a is = moved_so (HasFailed storing) a is (IsCommitting storing.written.commit) storing.written.commit.id.uuid (same_commit-refl storing.written.commit) (bytes_eq-refl storing.written.commit.id.uuid)
moved_at (IsRecorded storing) a is = moved_so (IsRecorded storing) a is (IsCommitting storing.written.commit) storing.written.commit.id.uuid (same_commit-refl storing.written.commit) (bytes_eq-refl storing.written.commit.id.uuid)
moved_at (IsNodeStored storing) a is = moved_so (IsNodeStored storing) a is (IsCommitting storing.written.commit) storing.written.commit.id.uuid (same_commit-refl storing.written.commit) (bytes_eq-refl storing.written.commit.id.uuid)
moved_at (FoundAborted storing) a is = moved_so (FoundAborted storing) a is (IsCommitting storing.written.commit) storing.written.commit.id.uuid (same_commit-refl storing.written.commit) (bytes_eq-refl storing.written.commit.id.uuid)
moved_at (MustDoubt storing) a is = moved_so (MustDoubt storing) a is (IsCommitting storing.written.commit) storing.written.commit.id.uuid (same_commit-refl storing.written.commit) (bytes_eq-refl storing.written.commit.id.uuid)
moved_at (MustLeave aborts b uuid) a is = moved_so (MustLeave aborts b uuid) a is IsLeaving uuid refl (bytes_eq-refl uuid)
moved_at (MustEnd b EndsCommitted) a is = moved_so (MustEnd b EndsCommitted) a is (IsCommitting (record { id = zero_id; keys = [] })) [] refl refl
moved_at (MustEnd b EndsAborted) a is = moved_so (MustEnd b EndsAborted) a is (IsCommitting (record { id = zero_id; keys = [] })) [] refl refl
moved_at (MustEnd b (EndsLeft aborts)) a is = moved_so (MustEnd b (EndsLeft aborts)) a is IsLeaving [] refl refl
moved_at position a is = none_moved position a is

pub door_ahead : (command : Command) (nodes : List ℕ) (ends : Ends) (position next : Progress) (place : ℕ) (act : DoorAct) (a : Attempt) → IsTrue (is_of_attempt command) → attempt_at position ≡ Some a → advance command nodes ends position (AtDoor place act) ≡ Some next → attempt_at next ≡ Some a
door_ahead command nodes ends position next place act a of is e =
    let now = moved_at position a is in
    the_is a (attempt_at next) (moves_it next a now.0 now.1 (attempts_stay command nodes now.1 ends position next place act a now.0 of now.2 e)).0

-- ---- all later turns

-- a position from which a line goes on
abbrev Begun : Progress → Type 0
Begun position = (position ≡ NotBegun) ⊎ ((b : Attempt) × (attempt_at position ≡ Some b))

-- whether a turn stands at the door or at this node
abbrev pub stands_in : ℕ → Turn → Bool
stands_in node (AtDoor place act) = true
stands_in node (AtNode at history entry) = eqb at node
stands_in node (AtOffice history entry) = false

over_begun : (position : Progress) → position ≡ IsOver → Begun position → ⊥
over_begun position is (inl first) = absurd (let e : IsOver ≡ NotBegun = sym is ∙ first in not_first e)
  where
    over_first : Progress → Bool
    over_first NotBegun = true
    over_first p = false

    not_first : IsOver ≡ NotBegun → ⊥
    not_first e = true≢false (sym (ap over_first e))
over_begun position is (inr (b, at)) = absurd (let e : None ≡ Some b = sym (ap attempt_at is) ∙ at in cc)

pub stopped_begun : (a : Attempt) (position : Progress) → position ≡ Stopped a → Begun position → ⊥
stopped_begun a position is (inl first) = absurd (let e : Stopped a ≡ NotBegun = sym is ∙ first in not_first e)
  where
    over_first : Progress → Bool
    over_first NotBegun = true
    over_first p = false

    not_first : Stopped a ≡ NotBegun → ⊥
    not_first e = true≢false (sym (ap over_first e))
stopped_begun a position is (inr (b, at)) = absurd (let e : None ≡ Some b = sym (ap attempt_at is) ∙ at in cc)

-- from nowhere a line comes nowhere
pub from_nowhere : (step : Progress → Turn → Option Progress) (line : List Turn) (position : Progress) → fold (advanced step) None line ≡ Some position → ⊥
from_nowhere step [] position e = (cc)
from_nowhere step (turn ∷ line) position e = from_nowhere step line position e

pub no_office : (command : Command) → IsTrue (is_of_attempt command) → (history : List OfficeEntry) (entry : OfficeEntry) → IsTrue (makes command (AtOffice history entry)) → ⊥
no_office (commands.Begin u home) of history entry is = false≢true is
no_office (commands.Forget u home) of history entry is = false≢true is
no_office commands.Commit of history entry is = false≢true is
no_office commands.Abort of history entry is = false≢true is
no_office command of history entry is = false≢true of

module _ (command : Command) (nodes : List ℕ) (ends : Ends) (of : IsTrue (is_of_attempt command)) where
  abbrev go : Progress → Turn → Option Progress
  go = advance command nodes ends

  one_step : (position : Progress) (a : Attempt) → Ahead a position → (turn : Turn) (q : Progress) → go position turn ≡ Some q → IsTrue (makes command turn) → IsTrue (stands_in a.node turn) × Ahead a q
  one_step position a (inr (inl is)) turn q e made = absurd (over_begun position is (begun_before command nodes ends position q turn of e))
  one_step position a (inr (inr is)) turn q e made = absurd (stopped_begun a position is (begun_before command nodes ends position q turn of e))
  one_step position a (inl is) (AtDoor place act) q e made = (refl, inl (door_ahead command nodes ends position q place act a of is e))
  one_step position a (inl is) (AtNode at history entry) q e made =
      let there : ThereIf ends history entry a at (Some q) = subst (ThereIf ends history entry a at) e (line_there ends at history entry command nodes of position a is) in
      (eq-eqb at a.node (sym (eqb-true a.node at there.0)), ahead there.1)
    where
      ahead : (attempt_at q ≡ Some a) ⊎ (q ≡ IsOver) ⊎ ((q ≡ Stopped a) × Why ends history entry a) → Ahead a q
      ahead (inl with_it) = inl with_it
      ahead (inr (inl over)) = inr (inl over)
      ahead (inr (inr stop)) = inr (inr stop.0)
  one_step position a (inl is) (AtOffice history entry) q e made = absurd (no_office command of history entry made)

  pub walk : (position : Progress) (a : Attempt) → Ahead a position → (line : List Turn) (p : Progress) → fold (advanced go) (Some position) line ≡ Some p → IsTrue (list_all (makes command) line) → IsTrue (list_all (stands_in a.node) line)
  walk position a ahead [] p e made = refl
  walk position a ahead (turn ∷ line) p e made = next (λ q ahead' e'. walk q a ahead' line p e' (and_parts (makes command turn) (list_all (makes command) line) made).1) (go position turn) refl e
    where
      next : ((q : Progress) → Ahead a q → fold (advanced go) (Some q) line ≡ Some p → IsTrue (list_all (stands_in a.node) line)) → (o : Option Progress) → go position turn ≡ o → fold (advanced go) o line ≡ Some p → IsTrue (list_all (stands_in a.node) (turn ∷ line))
      next rest None is e' = absurd (from_nowhere go line p e')
      next rest (Some q) is e' =
          let step = one_step position a ahead turn q is (and_parts (makes command turn) (list_all (makes command) line) made).0 in
          and_from (stands_in a.node turn) (list_all (stands_in a.node) line) step.0 (rest q step.1 e')

-- ---- the first turn

abbrev pub FirstIf : NodeAct → Option Progress → Type 0
FirstIf act None = Unit {0}
FirstIf act (Some q) = (q ≡ IsOver) ⊎ ((a : Attempt) × (attempt_at q ≡ Some a) × IsTrue (acts_on a act))

begun_first : (act : NodeAct) → FirstIf act (begun_with act)
begun_first acts.Nothing = inl refl
begun_first (acts.Admit a uuid) = inr (a, refl, same_itself a)
begun_first act = tt

finished_first : (aborts : Bool) (part : List NodeEntry) (act : NodeAct) → FirstIf act (finished_with aborts part act)
finished_first aborts part acts.Nothing = inl refl
finished_first aborts part (acts.Leave a) = cases (leaves aborts (buffer a part))
  where
    cases : (b : Bool) → FirstIf (acts.Leave a) (if b then Some (MustLeave aborts a (uuid_of a part)) else None)
    cases true = inr (a, refl, same_itself a)
    cases false = tt
finished_first false part (acts.Start a now c) = inr (a, refl, same_itself a)
finished_first true part (acts.Start a now c) = tt
finished_first aborts part (acts.Settle a) = cases (fixed_commit (attempt_state a part))
  where
    cases : (o : Option Commit) → FirstIf (acts.Settle a) (settled_with aborts a part o)
    cases None = tt
    cases (Some c) = inr (a, refl, same_itself a)
finished_first aborts part act = tt

pub line_first : (command : Command) (nodes : List ℕ) (ends : Ends) → IsTrue (is_of_attempt command) → (at : ℕ) (history : List NodeEntry) (entry : NodeEntry) → FirstIf entry.act (advance command nodes ends NotBegun (AtNode at history entry))
line_first (commands.Begin u home) nodes ends of at history entry = begun_first entry.act
line_first (commands.Forget u home) nodes ends of at history entry = begun_first entry.act
line_first commands.Commit nodes ends of at history entry = finished_first false (part history) entry.act
line_first commands.Abort nodes ends of at history entry = finished_first true (part history) entry.act
line_first command nodes ends of at history entry = absurd (false≢true of)

not_first_at_door : (command : Command) (nodes : List ℕ) (ends : Ends) → IsTrue (is_of_attempt command) → (place : ℕ) (act : DoorAct) → advance command nodes ends NotBegun (AtDoor place act) ≡ None
not_first_at_door (commands.Begin u home) nodes ends of place act = refl
not_first_at_door (commands.Forget u home) nodes ends of place act = refl
not_first_at_door commands.Commit nodes ends of place act = refl
not_first_at_door commands.Abort nodes ends of place act = refl
not_first_at_door command nodes ends of place act = absurd (false≢true of)

-- where a line stops by a turn at a node, and why
pub stops_why : (command : Command) (nodes : List ℕ) (ends : Ends) → IsTrue (is_of_attempt command) → (position : Progress) (at : ℕ) (history : List NodeEntry) (entry : NodeEntry) (a : Attempt) → advance command nodes ends position (AtNode at history entry) ≡ Some (Stopped a)
    → (attempt_at position ≡ Some a) × (a.node ≡ at) × Why ends history entry a
stops_why command nodes ends of position at history entry a e = by_begun (begun_before command nodes ends position (Stopped a) (AtNode at history entry) of e)
  where
    named_in : Progress → Option Attempt
    named_in (Stopped b) = Some b
    named_in p = None

    is_over_too : Progress → Bool
    is_over_too IsOver = true
    is_over_too p = false

    not_over : Stopped a ≡ IsOver → ⊥
    not_over is = true≢false (sym (ap is_over_too is))

    no_attempt : (b : Attempt) → None ≡ Some b → ⊥
    no_attempt b is = cc

    first_stops : FirstIf entry.act (Some (Stopped a)) → ⊥
    first_stops (inl over) = not_over over
    first_stops (inr (b, is, acts')) = no_attempt b is

    later_stops : (b : Attempt) → attempt_at position ≡ Some b → (attempt_at (Stopped a) ≡ Some b) ⊎ (Stopped a ≡ IsOver) ⊎ ((Stopped a ≡ Stopped b) × Why ends history entry b) → IsTrue (eqb b.node at) → (attempt_at position ≡ Some a) × (a.node ≡ at) × Why ends history entry a
    later_stops b is (inl with_it) here = absurd (no_attempt b with_it)
    later_stops b is (inr (inl over)) here = absurd (not_over over)
    later_stops b is (inr (inr stop)) here =
        let same : b ≡ a = sym (inside a b (ap named_in stop.0)) in
        subst (λ (x : Attempt). (attempt_at position ≡ Some x) × (x.node ≡ at) × Why ends history entry x) same (is, eqb-true b.node at here, stop.1)

    by_begun : Begun position → (attempt_at position ≡ Some a) × (a.node ≡ at) × Why ends history entry a
    by_begun (inl first) =
        absurd (first_stops (subst (FirstIf entry.act) (ap (λ (p : Progress). advance command nodes ends p (AtNode at history entry)) (sym first) ∙ e) (line_first command nodes ends of at history entry)))
    by_begun (inr (b, is)) =
        let there : ThereIf ends history entry b at (Some (Stopped a)) = subst (ThereIf ends history entry b at) e (line_there ends at history entry command nodes of position b is) in
        later_stops b is there.1 there.0

-- an entry is legal behind what its node did before it
abbrev pub IsLegalTurn : ℕ → Turn → Type 0
IsLegalTurn capacity (AtNode at history entry) = LegalNode at capacity (history ++ entry ∷ [])
IsLegalTurn capacity turn = Unit {0}

pub one_place : (capacity : ℕ) (command : Command) (nodes : List ℕ) (ends : Ends) → IsTrue (is_of_attempt command) → (line : List Turn) (p : Progress) → leads_to command nodes ends line ≡ Some p → IsTrue (list_all (makes command) line) → ((x : Turn) → In x line → IsLegalTurn capacity x)
    → (node : ℕ) × IsTrue (list_all (stands_in node) line)
one_place capacity command nodes ends of [] p e made legal = (0, refl)
one_place capacity command nodes ends of (AtDoor place act ∷ line) p e made legal =
    absurd (from_nowhere (advance command nodes ends) line p (subst (λ (o : Option Progress). fold (advanced (advance command nodes ends)) o line ≡ Some p) (not_first_at_door command nodes ends of place act) e))
one_place capacity command nodes ends of (AtOffice history entry ∷ line) p e made legal = absurd (no_office command of history entry (and_parts (makes command (AtOffice history entry)) (list_all (makes command) line) made).0)
one_place capacity command nodes ends of (AtNode at history entry ∷ line) p e made legal =
    (at, and_from (eqb at at) (list_all (stands_in at) line) (eq-eqb at at refl) (next (advance command nodes ends NotBegun (AtNode at history entry)) (line_first command nodes ends of at history entry) e))
  where
    rest_made : IsTrue (list_all (makes command) line)
    rest_made = (and_parts (makes command (AtNode at history entry)) (list_all (makes command) line) made).1

    next : (o : Option Progress) → FirstIf entry.act o → fold (advanced (advance command nodes ends)) o line ≡ Some p → IsTrue (list_all (stands_in at) line)
    next None first e' = absurd (from_nowhere (advance command nodes ends) line p e')
    next (Some q) (inl over) e' = walk command nodes ends of q (record { node = at; inc = 0; number = 0 }) (inr (inl over)) line p e' rest_made
    next (Some q) (inr (a, is, acts')) e' =
        let its : a.node ≡ at = (acts_of_own at capacity a history entry (legal (AtNode at history entry) (inl refl)) acts').0 in
        subst (λ (n : ℕ). IsTrue (list_all (stands_in n) line)) its (walk command nodes ends of q a (inl is) line p e' rest_made)
