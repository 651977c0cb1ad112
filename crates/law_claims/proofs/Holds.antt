-- Who holds a UUID at a moment.
use Rattle.std.proofs.Common.{◌≡◌, ℕ, true, ◌||◌, not, List, refl, sym, ap, subst, ◌∙◌, inl, inr}
use Rattle.std.specs.Prelude.{IsTrue, IsFalse, Some}
use Rattle.std.proofs.lemmas.Bool.{and_parts, cases_Bool, false≢true, false_from_ne_true, not-true, true≢false}
use Rattle.aft_model.specs.declared.caller.Attempt.{Attempt}
use Rattle.aft_model.specs.declared.caller.By.{By}
use Rattle.aft_model.specs.Attempts.{AttemptState, IsGone, IsInDoubt, IsRunning, is_gone, is_in_doubt, is_running}
use Rattle.aft_model.specs.Claims.{claimant, holds}
use Rattle.aft_model.specs.LegalDoor.{Legal}
use Rattle.aft_model.specs.Membership.{Incarnation, is_up}
use Rattle.aft_model.specs.NodeSights.{is_fenced}
use Rattle.aft_model.specs.ScanRun.{same_line}
use Rattle.aft_model.specs.Stages.{Stage, put_under_claim, stage}
use Rattle.aft_model.proofs.Turns.{held_up}
use Rattle.aft_lines.specs.CourseWords.{caller_of}
use Rattle.aft_lines.specs.Progress.{Admitted, FoundAborted, FoundNoRecord, FoundShort, FoundUnused, HasClaim, HasFailed, HasForgotten, HasReleased, IsNodeStored, IsRecorded, IsStoring, MustDoubt, MustEnd, MustLeave, MustRelease, Progress, Settling}
use Rattle.law_holders.specs.Rows.{are_put_but, are_row_puts, has_writes, is_idle, is_of_node, is_row, may_have_put}
use Rattle.law_claims.specs.Doing.{are_rest_puts, attempt_at, has_claim_at, is_rest, is_the, keeps_row, moves}
use Rattle.law_claims.specs.Scenes.{HasOne, IsAtRest, IsFenced, IsFree, IsMoved, IsShut, Keeps, Lies, Scene, Stands, doing, named, puts_of, stage_of}
use Rattle.law_claims.proofs.Fenced.{fenced_down}
use Rattle.law_claims.proofs.Idle.{Busy, busy_holds, claimed_busy}
use Rattle.law_claims.proofs.Movers.{claimed_stage_busy, clear_busy, closed_busy, may_busy, put_busy, unrecorded_busy}
use Rattle.law_claims.proofs.Scenes.{is_itself, moves_it, none_doubts, none_runs, same_by}

-- ---- rows

-- the stage of a position that has a claim is busy, and that of any other that moves an attempt is idle
row_busy : (position : Progress) (a : Attempt) (s : Stage) → attempt_at position ≡ Some a → IsTrue (is_row position s) → is_idle s ≡ not (has_claim_at position)
row_busy (Admitted begun) a s is row = row
row_busy (HasClaim begun) a s is row = claimed_stage_busy s row
row_busy (FoundNoRecord begun) a s is row = unrecorded_busy s row
row_busy (FoundUnused begun) a s is row = clear_busy (λ names. true) s row
row_busy (FoundShort begun) a s is row = unrecorded_busy s row
row_busy (HasForgotten begun) a s is row = closed_busy s row
row_busy (MustRelease begun) a s is row = not-true (is_idle s) row
row_busy (HasReleased begun reason) a s is row = row
row_busy (Settling aborts storing) a s is row = may_busy storing.written.commit s (and_parts (may_have_put storing.written.commit s) (has_writes storing) row).0
row_busy (IsStoring storing left) a s is row = clear_busy (are_put_but left storing.written.commit) s row
row_busy (HasFailed storing) a s is row = put_busy storing.written.commit s row
row_busy (IsRecorded storing) a s is row = may_busy storing.written.commit s row
row_busy (IsNodeStored storing) a s is row = may_busy storing.written.commit s row
row_busy (FoundAborted storing) a s is row = clear_busy (λ names. true) s row
row_busy (MustDoubt storing) a s is row = may_busy storing.written.commit s row
row_busy (MustLeave aborts b uuid) a s is row = clear_busy (λ names. true) s row
row_busy (MustEnd b outcome) a s is row = row
row_busy position a s is row = absurd (cc)

rest_busy : (state : AttemptState) (s : Stage) → IsTrue (is_running state || is_in_doubt state) → IsTrue (is_rest state s) → Busy s
rest_busy IsRunning s is rest = clear_busy (λ names. true) s rest
rest_busy (IsInDoubt c) s is rest = may_busy c s rest
rest_busy state s is rest = absurd (false≢true is)

rests_there : (state : AttemptState) → IsTrue (is_running state || is_in_doubt state) → IsFalse (is_gone state)
rests_there IsGone is = absurd (false≢true is)
rests_there state is = refl

-- who is moved neither runs nor is in doubt
moved_not : (position : Progress) (state : AttemptState) (a : Attempt) (uuid : List ℕ) → IsTrue (moves position a state uuid) → IsTrue (is_running state || is_in_doubt state) → ⊥
moved_not position IsRunning a uuid moved is = true≢false (sym (moves_it position a IsRunning uuid moved).1 ∙ none_runs position)
moved_not position (IsInDoubt c) a uuid moved is = true≢false (sym (moves_it position a (IsInDoubt c) uuid moved).1 ∙ none_doubts position c)
moved_not position state a uuid moved is = false≢true is

module _ (scene : Scene) (legal : Legal scene.door) (keeps : Keeps scene) where
  up_not_shut : (who : Incarnation) → IsTrue (is_up who scene.door) → is_fenced who scene.door ≡ true → ⊥
  up_not_shut who up gone = true≢false (sym up ∙ fenced_down who scene.door legal gone)

  -- an idle stage isn't held
  idle_free : (who : Incarnation) (uuid : List ℕ) → IsTrue (is_idle (stage who uuid scene.door)) → IsFalse (holds who uuid scene.door)
  idle_free who uuid idle = false_from_ne_true (holds who uuid scene.door) (λ held. true≢false (sym idle ∙ claimed_busy who uuid scene.door (held_up who scene.door (claimant uuid scene.door) held).0))

  pub resting_holds : (a : Attempt) → IsTrue (is_of_node (caller_of a)) → IsTrue (is_up (caller_of a) scene.door) → IsTrue (is_running (doing scene a) || is_in_doubt (doing scene a)) → IsTrue (holds (caller_of a) (named scene a) scene.door)
  resting_holds a of up is = cases (keeps.attempts a of)
    where
      cases : Stands scene a → IsTrue (holds (caller_of a) (named scene a) scene.door)
      cases (IsShut gone) = absurd (up_not_shut (caller_of a) up gone)
      cases (IsAtRest none rest) = busy_holds (caller_of a) (named scene a) scene.door legal up (rest_busy (doing scene a) (stage_of scene a) is (and_parts (is_rest (doing scene a) (stage_of scene a)) (are_rest_puts (doing scene a) (puts_of scene a)) (rest (rests_there (doing scene a) is))).0)
      cases (IsMoved by moved row only) = absurd (moved_not (scene.at by) (doing scene a) a (named scene a) moved is)

  pub moved_holds : (by : By) (a : Attempt) → attempt_at (scene.at by) ≡ Some a → IsTrue (is_up (caller_of a) scene.door)
      → IsTrue (moves (scene.at by) a (doing scene a) (named scene a)) × (holds (caller_of a) (named scene a) scene.door ≡ has_claim_at (scene.at by)) × ((other : By) → IsFalse (same_line by other) → IsFalse (is_the a (attempt_at (scene.at other))))
  moved_holds by a is up = cases (keeps.attempts a (keeps.movers by a is))
    where
      held : (position : Progress) → attempt_at position ≡ Some a → IsTrue (keeps_row position (stage_of scene a) (puts_of scene a)) → holds (caller_of a) (named scene a) scene.door ≡ has_claim_at position
      held position at row =
          let idle = row_busy position a (stage_of scene a) at (and_parts (is_row position (stage_of scene a)) (are_row_puts position (puts_of scene a)) row).0 in
          elim (cases_Bool (has_claim_at position)) [
            | inl claimed ↦ busy_holds (caller_of a) (named scene a) scene.door legal up (idle ∙ ap not claimed) ∙ sym claimed
            | inr free ↦ idle_free (caller_of a) (named scene a) (idle ∙ ap not free) ∙ sym free
          ]

      cases : Stands scene a → IsTrue (moves (scene.at by) a (doing scene a) (named scene a)) × (holds (caller_of a) (named scene a) scene.door ≡ has_claim_at (scene.at by)) × ((other : By) → IsFalse (same_line by other) → IsFalse (is_the a (attempt_at (scene.at other))))
      cases (IsShut gone) = absurd (up_not_shut (caller_of a) up gone)
      cases (IsAtRest none rest) = absurd (true≢false (sym (is_itself a (attempt_at (scene.at by)) is) ∙ none by))
      cases (IsMoved its moved row only) = elim (cases_Bool (same_line its by)) [
        | inl same ↦ (let e = same_by its by same in (
          subst (λ (x : By). IsTrue (moves (scene.at x) a (doing scene a) (named scene a))) e moved,
          held (scene.at by) is (subst (λ (x : By). IsTrue (keeps_row (scene.at x) (stage_of scene a) (puts_of scene a))) e row),
          subst (λ (x : By). (other : By) → IsFalse (same_line x other) → IsFalse (is_the a (attempt_at (scene.at other)))) e only,
        ))
        | inr differs ↦ absurd (true≢false (sym (is_itself a (attempt_at (scene.at by)) is) ∙ only by differs))
      ]

  pub none_holds : (who : Incarnation) (uuid : List ℕ) → IsTrue (is_of_node who) → IsTrue (is_up who scene.door) → ((a : Attempt) → caller_of a ≡ who → named scene a ≡ uuid → IsTrue (is_gone (doing scene a))) → IsFalse (holds who uuid scene.door)
  none_holds who uuid of up none = cases (keeps.uuids who uuid of)
    where
      cases : Lies scene who uuid → IsFalse (holds who uuid scene.door)
      cases (IsFenced gone) = absurd (up_not_shut who up gone)
      cases (HasOne a its there is) = absurd (true≢false (sym (none a its is) ∙ there))
      cases (IsFree free) = idle_free who uuid (and_parts (is_idle (stage who uuid scene.door)) (are_rest_puts IsGone (put_under_claim who uuid scene.door)) free).0
