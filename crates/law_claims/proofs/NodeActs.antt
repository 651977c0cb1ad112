-- Which attempts a turn at a node leaves as they are.
use Rattle.std.proofs.Common.{◌≡◌, ℕ, Bool, true, false, ◌&&◌, ◌||◌, not, List, [], ◌∷◌, refl, sym, ap, subst, ◌∙◌, ◌⊎◌, inl, inr, eqb}
use Rattle.std.specs.Prelude.{IsTrue, IsFalse, Option, Some, None, if◌then◌else◌}
use Rattle.std.proofs.lemmas.Bool.{and_parts, cases_Bool, eqb-true, false≢true, or_cases, true≢false}
use Rattle.aft_records.specs.declared.stored.Commit.{Commit}
use Rattle.aft_model.specs.declared.caller.Attempt.{Attempt}
use Rattle.aft_model.specs.declared.door.DoorEntry.{DoorEntry}
use Rattle.aft_model.specs.declared.node.NodeAct.{NodeAct}
use Rattle.aft_model.specs.declared.node.NodeAct.TheVariants as acts
use Rattle.aft_model.specs.declared.node.NodeEntry.{NodeEntry}
use Rattle.aft_model.specs.declared.reply.Reply.{Reply}
use Rattle.aft_model.specs.declared.script.Command.{Command}
use Rattle.aft_model.specs.declared.script.Command.TheVariants as commands
use Rattle.aft_model.specs.Attempts.{AttemptState, IsGone, IsInDoubt, IsRunning, Write, attempt_after, attempt_state, buffer, fixed_commit, is_gone, is_in_doubt, is_running, same_attempt, uuid_after, uuid_of}
use Rattle.aft_model.specs.LegalNode.{may_be_done, may_serve}
use Rattle.aft_model.specs.Membership.{Incarnation, incarnation}
use Rattle.aft_model.specs.NodeRules.{may_begin_boot, may_leave, may_start}
use Rattle.aft_model.specs.NodeSights.{has_seen, is_fenced}
use Rattle.aft_model.specs.NodeState.{IsBooting, IsDown, IsServing, NodeState, Service, boots, extended, goes_on, in_service, newest, node_state, part, serves, service_in, state_after, stopped}
use Rattle.aft_model.proofs.Pins.{attempt_state-snoc, same_attempts, start_runs}
use Rattle.aft_lines.specs.Advance.{advance, advance_claim, advance_finish, allows, begun_with, behind_unused, closed_by, doubted_by, finished_with, is_stored_in, noted_at_node, or_at, released_by, settled_with, shut_out_by, stored_by, tells_outcome}
use Rattle.aft_lines.specs.BeginCourse.{Beginning, begins_running, gives_back}
use Rattle.aft_lines.specs.CommitCourse.{Storing, doubts, leaves, takes_away}
use Rattle.aft_lines.specs.CourseWords.{Ends, answers_down, any_answer, caller_of, ends_shut_out, tells_down, tells_no_memory, tells_refused, tells_unclaimed}
use Rattle.aft_lines.specs.Makes.{makes_at_node}
use Rattle.aft_lines.specs.Progress.{Admitted, AnyReason, FoundAborted, FoundNoRecord, FoundShort, FoundUnused, HasClaim, HasFailed, HasForgotten, HasReleased, IsNodeStored, IsOver, IsRecorded, IsStoring, MustDoubt, MustEnd, MustLeave, MustRelease, NoRoom, NotBegun, Progress, Reason, Refusal, Settling, Stopped}
use Rattle.aft_lines.specs.Turns.{AtNode, Turn}
use Rattle.law_attempts.specs.Acts.{acts_on}
use Rattle.law_attempts.proofs.Acts.{state_left, uuid-snoc, uuid_left}
use Rattle.law_attempts.proofs.Standing.{same_itself}
use Rattle.law_holders.specs.Rows.{is_of_attempt}
use Rattle.law_claims.specs.Doing.{attempt_at, is_the}
use Rattle.law_claims.specs.Scenes.{doing_in, named_in}
use Rattle.law_claims.proofs.Parting.{either_way}

-- ---- an act that isn't of an attempt

-- it leaves what the attempt does, and its UUID
abbrev pub Leaves : Attempt → NodeAct → Type 0
Leaves a act = ((state : AttemptState) → attempt_after a state act ≡ state) × ((uuid : List ℕ) → uuid_after a uuid act ≡ uuid)

pub off_leaves : (a : Attempt) (act : NodeAct) → IsFalse (acts_on a act) → Leaves a act
off_leaves a act off = (λ state. state_left a state act off, λ uuid. uuid_left a uuid act off)

-- lines that move no attempt make no other acts
pub bystander_leaves : (command : Command) (act : NodeAct) (a : Attempt) → is_of_attempt command ≡ false → IsTrue (makes_at_node command act) → Leaves a act
bystander_leaves (commands.Begin u node) act a other made = absurd (true≢false other)
bystander_leaves (commands.Forget u node) act a other made = absurd (true≢false other)
bystander_leaves commands.Commit act a other made = absurd (true≢false other)
bystander_leaves commands.Abort act a other made = absurd (true≢false other)
bystander_leaves (commands.Put key value) acts.Nothing a other made = (λ s. refl, λ u. refl)
bystander_leaves (commands.Put key value) (acts.Put b k v) a other made = (λ s. refl, λ u. refl)
bystander_leaves (commands.Put key value) act a other made = absurd (false≢true made)
bystander_leaves (commands.Get key) acts.Nothing a other made = (λ s. refl, λ u. refl)
bystander_leaves (commands.Get key) (acts.Select b k pick) a other made = (λ s. refl, λ u. refl)
bystander_leaves (commands.Get key) (acts.Value b k id place kept) a other made = (λ s. refl, λ u. refl)
bystander_leaves (commands.Get key) (acts.Lost b k id) a other made = (λ s. refl, λ u. refl)
bystander_leaves (commands.Get key) act a other made = absurd (false≢true made)
bystander_leaves (commands.Crash node) acts.Nothing a other made = (λ s. refl, λ u. refl)
bystander_leaves (commands.Crash node) (acts.Down inc) a other made = (λ s. refl, λ u. refl)
bystander_leaves (commands.Crash node) act a other made = absurd (false≢true made)
bystander_leaves (commands.Start node) acts.Nothing a other made = (λ s. refl, λ u. refl)
bystander_leaves (commands.Start node) (acts.Booting inc) a other made = (λ s. refl, λ u. refl)
bystander_leaves (commands.Start node) (acts.Boot inc commits) a other made = (λ s. refl, λ u. refl)
bystander_leaves (commands.Start node) (acts.BootStopped inc) a other made = (λ s. refl, λ u. refl)
bystander_leaves (commands.Start node) act a other made = absurd (false≢true made)
bystander_leaves (commands.Announce node) acts.Nothing a other made = (λ s. refl, λ u. refl)
bystander_leaves (commands.Announce node) (acts.Announce kept pruned) a other made = (λ s. refl, λ u. refl)
bystander_leaves (commands.Announce node) act a other made = absurd (false≢true made)
bystander_leaves (commands.Deliver node) acts.Nothing a other made = (λ s. refl, λ u. refl)
bystander_leaves (commands.Deliver node) (acts.Learn commits) a other made = (λ s. refl, λ u. refl)
bystander_leaves (commands.Deliver node) act a other made = absurd (false≢true made)
bystander_leaves (commands.Local node) acts.Nothing a other made = (λ s. refl, λ u. refl)
bystander_leaves (commands.Local node) (acts.Drop ids) a other made = (λ s. refl, λ u. refl)
bystander_leaves (commands.Local node) act a other made = absurd (false≢true made)
bystander_leaves commands.Collect (acts.GiveUp id) a other made = (λ s. refl, λ u. refl)
bystander_leaves commands.Collect act a other made = absurd (false≢true made)
bystander_leaves command act a other made = absurd (false≢true made)

-- ---- what such an act makes of the attempt at its node

same_either : {A : Type 0} (b : Bool) (x : A) → (if b then x else x) ≡ x
same_either true x = refl
same_either false x = refl

module _ (node capacity : ℕ) (history : List NodeEntry) (entry : NodeEntry) (seen : List DoorEntry) (a : Attempt) (at : a.node ≡ node) where
  -- it does as before, and has its UUID as before if it is there; or its incarnation was fenced
  abbrev StaysAt : NodeState → NodeState → Type 0
  StaysAt before after = IsTrue (is_fenced (caller_of a) seen) ⊎ ((doing_in a after ≡ doing_in a before) × (IsFalse (is_gone (doing_in a before)) → named_in a after ≡ named_in a before))

  served_stays : (act : NodeAct) → entry.act ≡ act → Leaves a act → (s : Service) → StaysAt (IsServing s) (IsServing (extended s entry))
  served_stays act is leaves_it s =
      inr (
        ap (λ (x : AttemptState). if eqb a.inc s.inc then x else IsGone) (attempt_state-snoc a s.part entry ∙ (ap (attempt_after a (attempt_state a s.part)) is ∙ leaves_it.0 (attempt_state a s.part))),
        λ there. ap (λ (u : List ℕ). if eqb a.inc s.inc then u else []) (uuid-snoc a s.part entry ∙ (ap (uuid_after a (uuid_of a s.part)) is ∙ leaves_it.1 (uuid_of a s.part))),
      )

  stays_on : (act : NodeAct) → entry.act ≡ act → Leaves a act → (state : NodeState) → StaysAt state (goes_on state entry)
  stays_on act is leaves_it (IsServing s) = served_stays act is leaves_it s
  stays_on act is leaves_it state = inr (refl, λ there. refl)

  stays_down : (inc : ℕ) → IsTrue (is_fenced (incarnation node inc) seen) → (state : NodeState) → IsTrue (boots inc state || serves inc state) → StaysAt state IsDown
  stays_down inc fenced (IsServing s) rule = elim (or_cases false (eqb inc s.inc) rule) [
    | inl none ↦ absurd (false≢true none)
    | inr same ↦ elim (cases_Bool (eqb a.inc s.inc)) [
      | inl its ↦ inl (subst (λ (who : Incarnation). IsTrue (is_fenced who seen)) (ap (λ (n : ℕ). incarnation n inc) (sym at) ∙ ap (λ (i : ℕ). incarnation a.node i) (eqb-true inc s.inc same ∙ sym (eqb-true a.inc s.inc its))) fenced)
      | inr other ↦ inr (sym (ap (λ (b : Bool). if b then attempt_state a s.part else IsGone) other), λ there. sym (ap (λ (b : Bool). if b then uuid_of a s.part else []) other))
    ]
  ]
  stays_down inc fenced state rule = inr (refl, λ there. refl)

  stays_booting : (inc : ℕ) (state : NodeState) → IsTrue (may_begin_boot inc (newest history) state) → StaysAt state (IsBooting inc true)
  stays_booting inc (IsServing s) rule = absurd (false≢true rule)
  stays_booting inc state rule = inr (refl, λ there. refl)

  stays_booted : (inc : ℕ) (commits : List Commit) (state : NodeState) → IsTrue (boots inc state) → StaysAt state (IsServing (record { inc = inc; booted = commits; part = [] }))
  stays_booted inc commits (IsBooting booting running) rule = inr (same_either (eqb a.inc inc) IsGone, λ there. absurd (true≢false there))
  stays_booted inc commits state rule = absurd (false≢true rule)

  stays_stopped : (inc : ℕ) (state : NodeState) → IsTrue (boots inc state) → StaysAt state (stopped state entry)
  stays_stopped inc (IsBooting booting running) rule = inr (refl, λ there. refl)
  stays_stopped inc state rule = absurd (false≢true rule)

  pub stays_at : (act : NodeAct) (answer : Option Reply) → entry.act ≡ act → Leaves a act → IsTrue (may_be_done node capacity history act answer) → IsTrue (has_seen node seen entry.by history act answer) → StaysAt (node_state history) (state_after (node_state history) entry act)
  stays_at (acts.Booting inc) answer is leaves_it rule sight = stays_booting inc (node_state history) (and_parts (may_begin_boot inc (newest history) (node_state history)) _ rule).0
  stays_at (acts.Boot inc commits) answer is leaves_it rule sight = stays_booted inc commits (node_state history) (and_parts (boots inc (node_state history)) _ rule).0
  stays_at (acts.BootStopped inc) answer is leaves_it rule sight = stays_stopped inc (node_state history) (and_parts (boots inc (node_state history)) _ rule).0
  stays_at (acts.Down inc) answer is leaves_it rule sight = stays_down inc sight (node_state history) (and_parts (boots inc (node_state history) || serves inc (node_state history)) _ rule).0
  stays_at act answer is leaves_it rule sight = stays_on act is leaves_it (node_state history)

-- ---- an act of an attempt comes in a service

at_service : (test : Service → Bool) (state : NodeState) → IsTrue (in_service test (service_in state)) → (s : Service) × (state ≡ IsServing s) × IsTrue (test s)
at_service test (IsServing s) rule = (s, refl, rule)
at_service test state rule = absurd (false≢true rule)

pub in_its_service : (node capacity : ℕ) (history : List NodeEntry) (entry : NodeEntry) (b : Attempt) (act : NodeAct) (answer : Option Reply) → IsTrue (acts_on b act) → IsTrue (may_be_done node capacity history act answer)
    → (s : Service) × (node_state history ≡ IsServing s) × IsTrue (may_serve node capacity act answer s) × ((t : Service) → state_after (IsServing t) entry act ≡ IsServing (extended t entry))
in_its_service node capacity history entry b acts.Nothing answer on rule = absurd (false≢true on)
in_its_service node capacity history entry b (acts.Booting inc) answer on rule = absurd (false≢true on)
in_its_service node capacity history entry b (acts.Boot inc commits) answer on rule = absurd (false≢true on)
in_its_service node capacity history entry b (acts.BootStopped inc) answer on rule = absurd (false≢true on)
in_its_service node capacity history entry b (acts.Down inc) answer on rule = absurd (false≢true on)
in_its_service node capacity history entry b act answer on rule = (let at = at_service (may_serve node capacity act answer) (node_state history) rule in (at.0, at.1, at.2, λ t. refl))

-- ---- a later turn is of its line's attempt

module _ (ends : Ends) (node : ℕ) (before : List NodeEntry) (entry : NodeEntry) (b : Attempt) where
  abbrev turn : Turn
  turn = AtNode node before entry

  -- another attempt isn't acted on, nor moved by the line
  abbrev Else : Option Progress → Type 0
  Else None = Unit {0}
  Else (Some next) = (a : Attempt) → same_attempt a b ≡ false → IsFalse (acts_on a entry.act) × IsFalse (is_the a (attempt_at next))

  abbrev Off : (NodeAct → Option Reply → Bool) → Type 0
  Off test = (act : NodeAct) (answer : Option Reply) → IsTrue (test act answer) → (a : Attempt) → same_attempt a b ≡ false → IsFalse (acts_on a act)

  off_same : (a x : Attempt) → IsTrue (same_attempt b x) → same_attempt a b ≡ false → same_attempt a x ≡ false
  off_same a x same other = ap (same_attempt a) (sym (same_attempts b x same)) ∙ other

  off_back : (tell : Option Reply → Bool) → Off (gives_back b tell)
  off_back tell (acts.Unadmit x) answer is a other = off_same a x (and_parts (same_attempt b x) (tell answer) is).0 other
  off_back tell act answer is a other = absurd (false≢true is)

  off_begun : Off (begins_running b)
  off_begun (acts.Begin x) answer is a other = off_same a x is other
  off_begun act answer is a other = absurd (false≢true is)

  off_doubt : (tell : Option Reply → Bool) → Off (doubts b tell)
  off_doubt tell (acts.Doubt x) answer is a other = off_same a x (and_parts (same_attempt b x) (tell answer) is).0 other
  off_doubt tell act answer is a other = absurd (false≢true is)

  off_end : (tell : Option Reply → Bool) → Off (takes_away b tell)
  off_end tell (acts.End x) answer is a other = off_same a x (and_parts (same_attempt b x) (tell answer) is).0 other
  off_end tell act answer is a other = absurd (false≢true is)

  off_down : (act : NodeAct) (answer : Option Reply) → IsTrue (answers_down act answer) → (a : Attempt) → IsFalse (acts_on a act)
  off_down acts.Nothing answer is a = refl
  off_down act answer is a = absurd (false≢true is)

  off_stored : (storing : Storing) → storing.attempt ≡ b → (act : NodeAct) → IsTrue (is_stored_in storing act) → (a : Attempt) → same_attempt a b ≡ false → IsFalse (acts_on a act)
  off_stored storing its (acts.Stored x c) is a other = off_same a x (subst (λ (y : Attempt). IsTrue (same_attempt y x)) its (and_parts (same_attempt storing.attempt x) _ is).0) other
  off_stored storing its act is a other = absurd (false≢true is)

  closed_else : (c : Attempt) → c ≡ b → (test : NodeAct → Option Reply → Bool) → Off test → Else (closed_by ends c test turn)
  closed_else c its test off =
      either_way Else (not (eqb c.node node)) None _ (λ other. tt) (λ here.
      either_way Else (test entry.act entry.answer) (Some IsOver) _ (λ is a differs. (off entry.act entry.answer is a differs, refl)) (λ unlike.
      either_way Else (answers_down entry.act entry.answer && ends.is_left c.inc (node_state before)) (Some (Stopped c)) None (λ down a differs. (off_down entry.act entry.answer (and_parts (answers_down entry.act entry.answer) _ down).0 a, refl)) (λ not_down. tt)))

  shut_else : (c : Attempt) → c ≡ b → (test : NodeAct → Option Reply → Bool) → Off test → Else (shut_out_by ends c test turn)
  shut_else c its test off = either_way Else (ends_shut_out ends (caller_of c) (turn ∷ [])) (closed_by ends c test turn) None (λ is. closed_else c its test off) (λ unlike. tt)

  else_or : (one other : Option Progress) → Else one → Else other → Else (or_at one other)
  else_or None other first second = second
  else_or (Some next) other first second = first

  -- tests of the position's attempt
  as_b : (c : Attempt) → c ≡ b → (test : Attempt → NodeAct → Option Reply → Bool) → Off (test b) → Off (test c)
  as_b c its test off = subst (λ (x : Attempt). Off (test x)) (sym its) off

  module _ (begun : Beginning) (its : begun.attempt ≡ b) where
    back_off : (tell : Option Reply → Bool) → Off (gives_back begun.attempt tell)
    back_off tell = as_b begun.attempt its (λ x. gives_back x tell) (off_back tell)

    released_else : (reason : Reason) → Else (released_by ends begun reason turn)
    released_else reason = shut_else begun.attempt its (gives_back begun.attempt tells_down) (back_off tells_down)

    unused_else : (forgets : Bool) → Else (behind_unused ends forgets begun turn)
    unused_else false = else_or (closed_by ends begun.attempt (begins_running begun.attempt) turn) (released_by ends begun NoRoom turn) (closed_else begun.attempt its (begins_running begun.attempt) (as_b begun.attempt its begins_running off_begun)) (released_else NoRoom)
    unused_else true = released_else AnyReason

  same_some : (c : Attempt) → Some c ≡ Some b → c ≡ b
  same_some c is = cc

  claim_else : (forgets : Bool) (position : Progress) → attempt_at position ≡ Some b → Else (advance_claim ends forgets position turn)
  claim_else forgets (Admitted begun) is = closed_else begun.attempt (same_some begun.attempt is) (gives_back begun.attempt tells_unclaimed) (back_off begun (same_some begun.attempt is) tells_unclaimed)
  claim_else forgets (HasClaim begun) is = released_else begun (same_some begun.attempt is) Refusal
  claim_else forgets (FoundNoRecord begun) is = released_else begun (same_some begun.attempt is) Refusal
  claim_else forgets (FoundUnused begun) is = unused_else begun (same_some begun.attempt is) forgets
  claim_else forgets (FoundShort begun) is = released_else begun (same_some begun.attempt is) Refusal
  claim_else forgets (HasForgotten begun) is = released_else begun (same_some begun.attempt is) AnyReason
  claim_else forgets (MustRelease begun) is = released_else begun (same_some begun.attempt is) AnyReason
  claim_else forgets (HasReleased begun reason) is = closed_else begun.attempt (same_some begun.attempt is) (gives_back begun.attempt (allows reason)) (back_off begun (same_some begun.attempt is) (allows reason))
  claim_else forgets position is = tt

  module _ (storing : Storing) (its : storing.attempt ≡ b) where
    doubt_off : (tell : Option Reply → Bool) → Off (doubts storing.attempt tell)
    doubt_off tell = as_b storing.attempt its (λ x. doubts x tell) (off_doubt tell)

    doubted_else : (tell : Option Reply → Bool) → Else (doubted_by ends storing tell turn)
    doubted_else tell = closed_else storing.attempt its (doubts storing.attempt tell) (doubt_off tell)

    store_else : (left : List Write) → Else (stored_by ends storing left turn)
    store_else [] = doubted_else tells_refused
    store_else (write ∷ left) = doubted_else tells_refused

    noted_else : Else (noted_at_node ends storing turn)
    noted_else =
        either_way Else (eqb storing.attempt.node node && is_stored_in storing entry.act) (Some (IsNodeStored storing)) (doubted_by ends storing tells_no_memory turn)
        (λ is a differs. (off_stored storing its entry.act (and_parts (eqb storing.attempt.node node) (is_stored_in storing entry.act) is).1 a differs, ap (same_attempt a) its ∙ differs)) (λ unlike. doubted_else tells_no_memory)

    aborted_else : Else (or_at (shut_out_by ends storing.attempt (doubts storing.attempt tells_down) turn) (doubted_by ends storing tells_no_memory turn))
    aborted_else = else_or (shut_out_by ends storing.attempt (doubts storing.attempt tells_down) turn) (doubted_by ends storing tells_no_memory turn) (shut_else storing.attempt its (doubts storing.attempt tells_down) (doubt_off tells_down)) (doubted_else tells_no_memory)

  finish_else : (position : Progress) → attempt_at position ≡ Some b → Else (advance_finish ends position turn)
  finish_else (Settling aborts storing) is = doubted_else storing (same_some storing.attempt is) tells_refused
  finish_else (IsStoring storing left) is = store_else storing (same_some storing.attempt is) left
  finish_else (HasFailed storing) is = doubted_else storing (same_some storing.attempt is) tells_refused
  finish_else (IsRecorded storing) is = noted_else storing (same_some storing.attempt is)
  finish_else (IsNodeStored storing) is = shut_else storing.attempt (same_some storing.attempt is) (doubts storing.attempt tells_down) (doubt_off storing (same_some storing.attempt is) tells_down)
  finish_else (FoundAborted storing) is = aborted_else storing (same_some storing.attempt is)
  finish_else (MustDoubt storing) is = doubted_else storing (same_some storing.attempt is) any_answer
  finish_else (MustLeave aborts c uuid) is =
      either_way Else (eqb c.node node && answers_down entry.act entry.answer && ends.is_shut_out (caller_of c) entry.front) (Some (Stopped c)) None
      (λ so a differs. (off_down entry.act entry.answer (and_parts (eqb c.node node) (answers_down entry.act entry.answer) (and_parts (eqb c.node node && answers_down entry.act entry.answer) _ so).0).1 a, refl)) (λ unlike. tt)
  finish_else (MustEnd c outcome) is = closed_else c (same_some c is) (takes_away c (tells_outcome outcome)) (as_b c (same_some c is) (λ x. takes_away x (tells_outcome outcome)) (off_end (tells_outcome outcome)))
  finish_else position is = tt

  line_else : (command : Command) (nodes : List ℕ) (position : Progress) → IsTrue (is_of_attempt command) → attempt_at position ≡ Some b → Else (advance command nodes ends position turn)
  line_else (commands.Begin u home) nodes NotBegun of is = absurd (let no : None ≡ Some b = is in cc)
  line_else (commands.Begin u home) nodes position of is = claim_else false position is
  line_else (commands.Forget u home) nodes NotBegun of is = absurd (let no : None ≡ Some b = is in cc)
  line_else (commands.Forget u home) nodes position of is = claim_else true position is
  line_else commands.Commit nodes NotBegun of is = absurd (let no : None ≡ Some b = is in cc)
  line_else commands.Commit nodes position of is = finish_else position is
  line_else commands.Abort nodes NotBegun of is = absurd (let no : None ≡ Some b = is in cc)
  line_else commands.Abort nodes position of is = finish_else position is
  line_else command nodes position of is = absurd (false≢true of)

  pub later_else : (command : Command) (nodes : List ℕ) (position next : Progress) → IsTrue (is_of_attempt command) → attempt_at position ≡ Some b → advance command nodes ends position turn ≡ Some next → (a : Attempt) → same_attempt a b ≡ false → IsFalse (acts_on a entry.act) × IsFalse (is_the a (attempt_at next))
  later_else command nodes position next of is e = subst Else e (line_else command nodes position of is)

-- ---- a first turn takes one attempt, or none

-- whether an attempt in this state is there and rests
abbrev pub is_old : AttemptState → Bool
is_old IsRunning = true
is_old (IsInDoubt c) = true
is_old state = false

-- an act asks that its attempt is so
abbrev pub AsksOld : Attempt → NodeAct → Type 0
AsksOld b act = (node capacity : ℕ) (answer : Option Reply) (s : Service) → IsTrue (may_serve node capacity act answer s) → IsTrue (is_old (attempt_state b s.part))

running_old : (state : AttemptState) → IsTrue (is_running state) → IsTrue (is_old state)
running_old IsRunning so = refl
running_old state so = absurd (false≢true so)

doubt_old : (state : AttemptState) → IsTrue (is_in_doubt state) → IsTrue (is_old state)
doubt_old (IsInDoubt c) so = refl
doubt_old state so = absurd (false≢true so)

start_old : (b : Attempt) (now : ℕ) (c : Commit) → AsksOld b (acts.Start b now c)
start_old b now c node capacity answer s rule = running_old (attempt_state b s.part) (start_runs s b now c (and_parts (may_start s b now c) _ rule).0)

settle_old : (b : Attempt) → AsksOld b (acts.Settle b)
settle_old b node capacity answer s rule = doubt_old (attempt_state b s.part) (and_parts (is_in_doubt (attempt_state b s.part)) _ rule).0

leave_old : (b : Attempt) → AsksOld b (acts.Leave b)
leave_old b node capacity answer s rule = running_old (attempt_state b s.part) (and_parts (is_running (attempt_state b s.part)) _ (and_parts (may_leave s b) _ rule).0).0

-- which attempt a first turn takes, or that it takes none
pub data First (act : NodeAct) (next : Progress) : Type 0 where
  TakesNone : attempt_at next ≡ None → ((a : Attempt) → IsFalse (acts_on a act)) → First act next
  TakesNew : (b : Attempt) (uuid : List ℕ) → act ≡ acts.Admit b uuid → attempt_at next ≡ Some b → First act next
  TakesOld : (b : Attempt) → attempt_at next ≡ Some b → IsTrue (acts_on b act) → ((a : Attempt) → same_attempt a b ≡ false → IsFalse (acts_on a act)) → ((uuid : List ℕ) → uuid_after b uuid act ≡ uuid) → AsksOld b act → First act next

abbrev FirstIf : NodeAct → Option Progress → Type 0
FirstIf act None = Unit {0}
FirstIf act (Some next) = First act next

begun_first : (act : NodeAct) → FirstIf act (begun_with act)
begun_first acts.Nothing = TakesNone refl (λ a. refl)
begun_first (acts.Admit b uuid) = TakesNew b uuid refl refl
begun_first act = tt

settled_first : (aborts : Bool) (b : Attempt) (p : List NodeEntry) (fixed : Option Commit) → FirstIf (acts.Settle b) (settled_with aborts b p fixed)
settled_first aborts b p None = tt
settled_first aborts b p (Some c) = TakesOld b refl (same_itself b) (λ a differs. differs) (λ uuid. refl) (settle_old b)

finished_first : (aborts : Bool) (p : List NodeEntry) (act : NodeAct) → FirstIf act (finished_with aborts p act)
finished_first aborts p acts.Nothing = TakesNone refl (λ a. refl)
finished_first aborts p (acts.Leave b) = either_way (FirstIf (acts.Leave b)) (leaves aborts (buffer b p)) (Some (MustLeave aborts b (uuid_of b p))) None (λ so. TakesOld b refl (same_itself b) (λ a differs. differs) (λ uuid. refl) (leave_old b)) (λ unlike. tt)
finished_first false p (acts.Start b now c) = TakesOld b refl (same_itself b) (λ a differs. differs) (λ uuid. refl) (start_old b now c)
finished_first true p (acts.Start b now c) = tt
finished_first aborts p (acts.Settle b) = settled_first aborts b p (fixed_commit (attempt_state b p))
finished_first aborts p act = tt

line_first : (command : Command) (nodes : List ℕ) (ends : Ends) (node : ℕ) (before : List NodeEntry) (entry : NodeEntry) → IsTrue (is_of_attempt command) → FirstIf entry.act (advance command nodes ends NotBegun (AtNode node before entry))
line_first (commands.Begin u home) nodes ends node before entry of = begun_first entry.act
line_first (commands.Forget u home) nodes ends node before entry of = begun_first entry.act
line_first commands.Commit nodes ends node before entry of = finished_first false (part before) entry.act
line_first commands.Abort nodes ends node before entry of = finished_first true (part before) entry.act
line_first command nodes ends node before entry of = absurd (false≢true of)

pub first_takes : (command : Command) (nodes : List ℕ) (ends : Ends) (node : ℕ) (before : List NodeEntry) (entry : NodeEntry) (next : Progress) → IsTrue (is_of_attempt command) → advance command nodes ends NotBegun (AtNode node before entry) ≡ Some next → First entry.act next
first_takes command nodes ends node before entry next of e = subst (FirstIf entry.act) e (line_first command nodes ends node before entry of)
