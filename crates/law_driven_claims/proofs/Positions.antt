-- Where the turns of a begin or a forget lead, whose attempt was admitted: its position moves the attempt, and behind the claim has the claim.
use Rattle.std.proofs.Common.{◌≡◌, ℕ, Bool, true, false, ◌&&◌, List, [], ◌∷◌, ◌++◌, refl, sym, ap, subst, ◌∙◌}
use Rattle.std.specs.Prelude.{IsTrue, None, Option, Some, if◌then◌else◌}
use Rattle.std.specs.List.{fold}
use Rattle.std.specs.Str.{bytes_eq}
use Rattle.std.proofs.lemmas.Bool.{and_from, false≢true}
use Rattle.aft_keeper.specs.declared.keeper.KeeperAnswer.{KeeperAnswer}
use Rattle.aft_keeper.specs.declared.keeper.KeeperAnswer.TheVariants as answers
use Rattle.aft_keeper.specs.declared.keeper.KeeperCall.{KeeperCall}
use Rattle.aft_keeper.specs.declared.keeper.KeeperCall.TheVariants as calls
use Rattle.aft_model.specs.declared.caller.Attempt.{Attempt}
use Rattle.aft_model.specs.declared.caller.By.{By}
use Rattle.aft_model.specs.declared.door.DoorAct.{DoorAct}
use Rattle.aft_model.specs.declared.door.DoorAct.TheVariants as doors
use Rattle.aft_model.specs.declared.node.NodeAct.TheVariants as acts
use Rattle.aft_model.specs.declared.node.NodeEntry.{NodeEntry}
use Rattle.aft_model.specs.Attempts.{AttemptState, IsOpening, is_opening}
use Rattle.aft_model.specs.Membership.{incarnation, same_incarnation}
use Rattle.aft_model.specs.Readings.{marker_name, record_name}
use Rattle.aft_model.proofs.Sights.{bytes_eq-refl, same_bytes}
use Rattle.aft_lines.specs.Advance.{advance, advance_claim, advanced, behind_marker, got_by, if_nothing, if_so, leads_to}
use Rattle.aft_lines.specs.BeginCourse.{Beginning, gets_own}
use Rattle.aft_lines.specs.CourseWords.{Ends, caller_of, finds_nothing}
use Rattle.aft_lines.specs.ForgetCourse.{finds_short}
use Rattle.aft_lines.specs.Progress.{Admitted, EndsAborted, EndsCommitted, EndsLeft, FoundNoRecord, FoundShort, FoundUnused, HasClaim, HasForgotten, HasReleased, MustEnd, MustRelease, NotBegun, Progress}
use Rattle.aft_lines.specs.Turns.{AtDoor, AtNode, AtOffice, Turn}
use Rattle.law_attempts.proofs.Standing.{same_itself}
use Rattle.law_holders.specs.Rows.{is_of_attempt, uuid_at}
use Rattle.law_claims.specs.Doing.{has_claim_at, is_doing, moves, names_uuid}
use Rattle.law_claims.proofs.Doors.{attempts_stay}
use Rattle.law_runs.proofs.Walks.{from_nowhere}
use Rattle.aft_begin.specs.declared.aim.Aim.{Aim}
use Rattle.aft_begin.specs.declared.aim.Aim.TheVariants.{Begin, Forget}
use Rattle.aft_begin.specs.declared.sought.Sought.TheVariants.{Marker, Record}
use Rattle.aft_begin.specs.Made.{begun_turns, turn_at}
use Rattle.aft_begin.specs.View.{asks}
use Rattle.aft_begin.specs.Way.{Claimed, Deleted, LookedForMarker, LookedForRecord, Unclaimed, Way, claim_act, delete_act, look_act, release_turns, way_turns}
use Rattle.law_driver.specs.Driven.{last_act, node_of}
use Rattle.aft_model.specs.declared.caller.Hold.{Hold}

-- ---- an attempt that opens

-- a position that moves one asks that it opens, and has one UUID
pub opens_there : (position : Progress) (state : AttemptState) → IsTrue (is_doing position IsOpening) → IsTrue (is_doing position state) → IsTrue (is_opening state)
opens_there (Admitted begun) state opens does = does
opens_there (HasClaim begun) state opens does = does
opens_there (FoundNoRecord begun) state opens does = does
opens_there (FoundUnused begun) state opens does = does
opens_there (FoundShort begun) state opens does = does
opens_there (HasForgotten begun) state opens does = does
opens_there (MustRelease begun) state opens does = does
opens_there (HasReleased begun reason) state opens does = does
opens_there (MustEnd a EndsCommitted) state opens does = absurd (false≢true opens)
opens_there (MustEnd a EndsAborted) state opens does = absurd (false≢true opens)
opens_there (MustEnd a (EndsLeft aborts)) state opens does = absurd (false≢true opens)
opens_there position state opens does = absurd (false≢true opens)

pub one_uuid : (position : Progress) (u v : List ℕ) → IsTrue (is_doing position IsOpening) → IsTrue (names_uuid position u) → IsTrue (names_uuid position v) → u ≡ v
one_uuid (MustEnd a EndsCommitted) u v opens one other = absurd (false≢true opens)
one_uuid (MustEnd a EndsAborted) u v opens one other = absurd (false≢true opens)
one_uuid (MustEnd a (EndsLeft aborts)) u v opens one other = absurd (false≢true opens)
one_uuid position u v opens one other = sym (same_bytes (uuid_at position) u one) ∙ same_bytes (uuid_at position) v other

-- ---- turns at the door

-- all of some turns are at the door
abbrev AreDoors : List Turn → Type 0
AreDoors [] = Unit {0}
AreDoors (AtDoor place act ∷ line) = AreDoors line
AreDoors (turn ∷ line) = ⊥

-- or calls of the store
abbrev AreCalls : List Turn → Type 0
AreCalls [] = Unit {0}
AreCalls (AtDoor place (doors.Call node inc call answer) ∷ line) = AreCalls line
AreCalls (turn ∷ line) = ⊥

-- a position, if there is one, has a claim
abbrev Holding : Option Progress → Type 0
Holding None = Unit {0}
Holding (Some next) = IsTrue (has_claim_at next)

if_holding : (b : Bool) (next : Progress) → IsTrue (has_claim_at next) → Holding (if_so b next)
if_holding true next so = so
if_holding false next so = tt

either_holding : (b : Bool) (one other : Progress) → IsTrue (has_claim_at one) → IsTrue (has_claim_at other) → IsTrue (has_claim_at (if b then one else other))
either_holding true one other so also = so
either_holding false one other so also = also

marker_holding : (forgets : Bool) (begun : Beginning) (answer : KeeperAnswer) → IsTrue (has_claim_at (behind_marker forgets begun answer))
marker_holding false begun answer = either_holding (finds_nothing answer) (FoundUnused begun) (MustRelease begun) refl refl
marker_holding true begun answer =
    either_holding (finds_short begun.uuid answer) (FoundShort begun) (if finds_nothing answer then FoundUnused begun else MustRelease begun) refl (either_holding (finds_nothing answer) (FoundUnused begun) (MustRelease begun) refl refl)

module _ (ends : Ends) (place node inc : ℕ) (answer : KeeperAnswer) where
  abbrev called : KeeperCall → Turn
  called call = AtDoor place (doors.Call node inc call answer)

  got_holding : (begun : Beginning) (name : List ℕ) (then_at : KeeperAnswer → Progress) → IsTrue (has_claim_at (then_at answer)) → (call : KeeperCall) → Holding (got_by ends begun name then_at (called call))
  got_holding begun name then_at so (calls.Get got) = if_holding (gets_own begun name node inc got) (then_at answer) so
  got_holding begun name then_at so call = tt

  call_holding : (forgets : Bool) (position : Progress) (call : KeeperCall) → IsTrue (has_claim_at position) → Holding (advance_claim ends forgets position (called call))
  call_holding forgets (HasClaim begun) call so = got_holding begun (record_name begun.uuid) (if_nothing (FoundNoRecord begun) begun) (either_holding (finds_nothing answer) (FoundNoRecord begun) (MustRelease begun) refl refl) call
  call_holding forgets (FoundNoRecord begun) call so = got_holding begun (marker_name begun.uuid) (behind_marker forgets begun) (marker_holding forgets begun answer) call
  call_holding true (FoundUnused begun) call so = tt
  call_holding false (FoundUnused begun) call so = tt
  call_holding forgets (FoundShort begun) (calls.Delete name) so = if_holding _ (HasForgotten begun) refl
  call_holding forgets (FoundShort begun) call so = tt
  call_holding forgets (HasForgotten begun) call so = tt
  call_holding forgets (MustRelease begun) call so = tt
  call_holding forgets position call so = tt

  calls_holding : (aim : Aim) (uuid nodes : List ℕ) (home : ℕ) (position : Progress) (call : KeeperCall) → IsTrue (has_claim_at position) → Holding (advance (asks aim uuid home) nodes ends position (called call))
  calls_holding Begin uuid nodes home NotBegun call so = tt
  calls_holding Begin uuid nodes home position call so = call_holding false position call so
  calls_holding Forget uuid nodes home NotBegun call so = tt
  calls_holding Forget uuid nodes home position call so = call_holding true position call so

module _ (aim : Aim) (node : ℕ) (uuid nodes : List ℕ) (ends : Ends) where
  abbrev step : Progress → Turn → Option Progress
  step = advance (asks aim uuid node) nodes ends

  of_attempt : (which : Aim) → IsTrue (is_of_attempt (asks which uuid node))
  of_attempt Begin = refl
  of_attempt Forget = refl

  same_some : (p q : Progress) → Some p ≡ Some q → p ≡ q
  same_some p q e = cc

  -- a position, if there is one, moves the attempt
  abbrev Moving : Attempt → Option Progress → Type 0
  Moving a None = Unit {0}
  Moving a (Some p) = IsTrue (moves p a IsOpening uuid)

  stays : (a : Attempt) (p : Progress) (place : ℕ) (act : DoorAct) (o : Option Progress) → step p (AtDoor place act) ≡ o → IsTrue (moves p a IsOpening uuid) → Moving a o
  stays a p place act None e so = tt
  stays a p place act (Some r) e so = attempts_stay (asks aim uuid node) nodes uuid ends p r place act a IsOpening (of_attempt aim) so e

  -- turns at the door leave the attempt with the line
  doors_move : (a : Attempt) (line : List Turn) → AreDoors line → (o : Option Progress) (q : Progress) → Moving a o → fold (advanced step) o line ≡ Some q → IsTrue (moves q a IsOpening uuid)
  doors_move a line are None q so is = absurd (from_nowhere step line q is)
  doors_move a [] are (Some p) q so is = subst (λ (x : Progress). IsTrue (moves x a IsOpening uuid)) (same_some p q is) so
  doors_move a (AtDoor place act ∷ line) are (Some p) q so is = doors_move a line are (step p (AtDoor place act)) q (stays a p place act (step p (AtDoor place act)) refl so) is
  doors_move a (AtNode at before entry ∷ line) are (Some p) q so is = absurd are
  doors_move a (AtOffice before entry ∷ line) are (Some p) q so is = absurd are

  -- calls leave it its claim
  calls_hold : (line : List Turn) → AreCalls line → (o : Option Progress) (q : Progress) → Holding o → fold (advanced step) o line ≡ Some q → IsTrue (has_claim_at q)
  calls_hold line are None q so is = absurd (from_nowhere step line q is)
  calls_hold [] are (Some p) q so is = subst (λ (x : Progress). IsTrue (has_claim_at x)) (same_some p q is) so
  calls_hold (AtDoor place (doors.Call at inc call answer) ∷ line) are (Some p) q so is = calls_hold line are (step p (AtDoor place (doors.Call at inc call answer))) q (calls_holding ends place at inc answer aim uuid nodes node p call so) is
  calls_hold (AtDoor place act ∷ line) are (Some p) q so is = absurd are
  calls_hold (AtNode at before entry ∷ line) are (Some p) q so is = absurd are
  calls_hold (AtOffice before entry ∷ line) are (Some p) q so is = absurd are

  -- ---- a line that has come so far

  module _ (by : By) (a : Attempt) (before : List NodeEntry) (front : ℕ) where
    abbrev begun : Beginning
    begun = record { attempt = a; uuid = uuid }

    abbrev first : Turn
    first = turn_at by node before front (acts.Admit a uuid) None

    first_leads : (which : Aim) → advance (asks which uuid node) nodes ends NotBegun first ≡ Some (Admitted begun)
    first_leads Begin = refl
    first_leads Forget = refl

    abbrev come_turns : Way → Option ℕ → List Turn
    come_turns way release = begun_turns by node uuid a before front way release

    behind_first : (line : List Turn) (q : Progress) → leads_to (asks aim uuid node) nodes ends (first ∷ line) ≡ Some q → fold (advanced step) (Some (Admitted begun)) line ≡ Some q
    behind_first line q is = ap (λ (o : Option Progress). fold (advanced step) o line) (sym (first_leads aim)) ∙ is

    are_doors : (way : Way) (release : Option ℕ) → AreDoors (way_turns a uuid way ++ release_turns a uuid release)
    are_doors Unclaimed None = tt
    are_doors Unclaimed (Some place) = tt
    are_doors (Claimed p) None = tt
    are_doors (Claimed p) (Some place) = tt
    are_doors (LookedForRecord p q answer) None = tt
    are_doors (LookedForRecord p q answer) (Some place) = tt
    are_doors (LookedForMarker p q r answer) None = tt
    are_doors (LookedForMarker p q r answer) (Some place) = tt
    are_doors (Deleted p q r bytes id at answer) None = tt
    are_doors (Deleted p q r bytes id at answer) (Some place) = tt

    -- its position moves the attempt
    pub come_moves : (way : Way) (release : Option ℕ) (q : Progress) → leads_to (asks aim uuid node) nodes ends (come_turns way release) ≡ Some q → IsTrue (moves q a IsOpening uuid)
    come_moves way release q is =
        doors_move a (way_turns a uuid way ++ release_turns a uuid release) (are_doors way release) (Some (Admitted begun)) q (and_from _ _ (and_from _ _ (same_itself a) refl) (bytes_eq-refl uuid))
        (behind_first (way_turns a uuid way ++ release_turns a uuid release) q is)

    -- it has no claim before it claims
    pub unclaimed_free : (q : Progress) → leads_to (asks aim uuid node) nodes ends (come_turns Unclaimed None) ≡ Some q → has_claim_at q ≡ false
    unclaimed_free q is = ap has_claim_at (sym (same_some (Admitted begun) q (behind_first [] q is)))

    claimed_step : (which : Aim) (p : ℕ) → Holding (advance (asks which uuid node) nodes ends (Admitted begun) (AtDoor p (claim_act a uuid)))
    claimed_step Begin p = if_holding (same_incarnation (caller_of a) (incarnation a.node a.inc) && bytes_eq uuid uuid) (HasClaim begun) refl
    claimed_step Forget p = if_holding (same_incarnation (caller_of a) (incarnation a.node a.inc) && bytes_eq uuid uuid) (HasClaim begun) refl

    claims_then : (p : ℕ) (line : List Turn) → AreCalls line → (q : Progress) → leads_to (asks aim uuid node) nodes ends (first ∷ AtDoor p (claim_act a uuid) ∷ line) ≡ Some q → IsTrue (has_claim_at q)
    claims_then p line are q is = calls_hold line are (step (Admitted begun) (AtDoor p (claim_act a uuid))) q (claimed_step aim p) (behind_first (AtDoor p (claim_act a uuid) ∷ line) q is)

    -- and has it behind that, until it lets go
    pub claimed_holds : (way : Way) → (way ≡ Unclaimed → ⊥) → (q : Progress) → leads_to (asks aim uuid node) nodes ends (come_turns way None) ≡ Some q → IsTrue (has_claim_at q)
    claimed_holds Unclaimed claimed q is = absurd (claimed refl)
    claimed_holds (Claimed p) claimed q is = claims_then p [] tt q is
    claimed_holds (LookedForRecord p s answer) claimed q is = claims_then p (AtDoor s (look_act a uuid Record answer) ∷ []) tt q is
    claimed_holds (LookedForMarker p s r answer) claimed q is = claims_then p (AtDoor s (look_act a uuid Record answers.Absent) ∷ AtDoor r (look_act a uuid Marker answer) ∷ []) tt q is
    claimed_holds (Deleted p s r bytes id at answer) claimed q is =
        claims_then p (AtDoor s (look_act a uuid Record answers.Absent) ∷ AtDoor r (look_act a uuid Marker (answers.Found bytes)) ∷ AtDoor at (delete_act a uuid answer) ∷ []) tt q is

    -- ---- what it did last at its node

    pub come_last : (way : Way) (release : Option ℕ) → last_act (come_turns way release) ≡ Some (acts.Admit a uuid)
    come_last Unclaimed None = refl
    come_last Unclaimed (Some place) = refl
    come_last (Claimed p) None = refl
    come_last (Claimed p) (Some place) = refl
    come_last (LookedForRecord p q answer) None = refl
    come_last (LookedForRecord p q answer) (Some place) = refl
    come_last (LookedForMarker p q r answer) None = refl
    come_last (LookedForMarker p q r answer) (Some place) = refl
    come_last (Deleted p q r bytes id at answer) None = refl
    come_last (Deleted p q r bytes id at answer) (Some place) = refl

-- ---- its command

pub asks_of : (aim : Aim) (uuid : List ℕ) (node : ℕ) → IsTrue (is_of_attempt (asks aim uuid node))
asks_of Begin uuid node = refl
asks_of Forget uuid node = refl

pub asks_at : (aim : Aim) (uuid : List ℕ) (node : ℕ) (hold : Hold) → node_of (asks aim uuid node) hold ≡ node
asks_at Begin uuid node hold = refl
asks_at Forget uuid node hold = refl
