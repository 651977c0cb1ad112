-- A node that gives an id up has put no record of it under a claim that it has not let go.
use Rattle.std.proofs.Common.{◌≡◌, ℕ, not, List, [], ◌∷◌, sym, ap, subst, ◌∙◌, inl, inr}
use Rattle.std.specs.Prelude.{IsTrue, IsFalse, Option, Some}
use Rattle.std.specs.List.{list_all, list_any}
use Rattle.std.proofs.lemmas.Bool.{and_parts, false≢true, false_from_ne_true, or_right, true≢false}
use Rattle.aft_id.specs.declared.txn_id.TxnId.{TxnId}
use Rattle.aft_id.specs.TxnId.{same_id}
use Rattle.aft_records.specs.declared.stored.Commit.{Commit}
use Rattle.aft_records.specs.Commits.{has_id, same_commit}
use Rattle.aft_model.specs.declared.caller.Attempt.{Attempt}
use Rattle.aft_model.specs.Attempts.{AttemptState, IsCommitting, IsGone, IsInDoubt, attempt_state, attempts, fixed_commit, is_gone, present}
use Rattle.aft_model.specs.Known.{holds_id, is_fixed_at, known_in}
use Rattle.aft_model.specs.LegalNode.{LegalNode}
use Rattle.aft_model.specs.Membership.{Incarnation, incarnation}
use Rattle.aft_model.specs.NodeRules.{is_storing}
use Rattle.aft_model.specs.NodeSights.{is_fenced}
use Rattle.aft_model.specs.NodeState.{IsServing, Service, node_state}
use Rattle.aft_model.specs.Stages.{put_under_claim, stage}
use Rattle.aft_model.proofs.Histories.{In, all_at, any_found, any_from}
use Rattle.aft_model.proofs.Ids.{same_commits}
use Rattle.aft_model.proofs.Lists.{filter_in}
use Rattle.aft_lines.specs.CourseWords.{caller_of}
use Rattle.aft_lines.specs.Progress.{FoundAborted, HasFailed, IsNodeStored, IsRecorded, IsStoring, MustDoubt, Progress, Settling}
use Rattle.law_attempts.proofs.Lives.{lives}
use Rattle.law_holders.specs.Rows.{are_row_puts, is_idle, is_of_node, is_row, stored_at}
use Rattle.law_claims.specs.Doing.{are_rest_puts, doubted_in, is_doing, is_rest}
use Rattle.law_claims.specs.Scenes.{HasOne, IsAtRest, IsFenced, IsFree, IsMoved, IsShut, Keeps, Lies, Scene, Stands, doing, doing_in, named, puts_of, stage_of}
use Rattle.law_claims.proofs.Scenes.{in_service_of, moves_it}

-- what is stored at a position is the commit that the attempt has fixed
storing_fixed : (c d : Commit) (state : AttemptState) → IsTrue (is_storing c state) → In d (c ∷ []) → fixed_commit state ≡ Some d
storing_fixed c d (IsCommitting fixed) is (inl same) = ap (λ (e : Commit). Some e) (sym (same ∙ same_commits c fixed is))
storing_fixed c d (IsCommitting fixed) is (inr none) = absurd none
storing_fixed c d state is among = absurd (false≢true is)

stored_fixed : (position : Progress) (state : AttemptState) → IsTrue (is_doing position state) → (d : Commit) → In d (stored_at position) → fixed_commit state ≡ Some d
stored_fixed (Settling aborts storing) state does d among = storing_fixed storing.written.commit d state does among
stored_fixed (IsStoring storing left) state does d among = storing_fixed storing.written.commit d state does among
stored_fixed (HasFailed storing) state does d among = storing_fixed storing.written.commit d state does among
stored_fixed (IsRecorded storing) state does d among = storing_fixed storing.written.commit d state does among
stored_fixed (IsNodeStored storing) state does d among = storing_fixed storing.written.commit d state does among
stored_fixed (FoundAborted storing) state does d among = storing_fixed storing.written.commit d state does among
stored_fixed (MustDoubt storing) state does d among = storing_fixed storing.written.commit d state does among
stored_fixed position state does d among = absurd among

doubted_fixed : (state : AttemptState) (d : Commit) → In d (doubted_in state) → fixed_commit state ≡ Some d
doubted_fixed (IsInDoubt c) d (inl same) = ap (λ (e : Commit). Some e) (sym same)
doubted_fixed (IsInDoubt c) d (inr none) = absurd none
doubted_fixed state d among = absurd among

-- records that are of these commits
module _ (id : TxnId) (commits puts : List Commit) (of : IsTrue (list_all (λ d. list_any (λ c. same_commit c d) commits) puts)) where
  its_commit : IsTrue (has_id id puts) → (c : Commit) × In c commits × IsTrue (same_id id c.id)
  its_commit has =
      let found = any_found (λ (d : Commit). same_id id d.id) puts has in
      let one = any_found (λ (c : Commit). same_commit c found.0) commits (all_at (λ (d : Commit). list_any (λ c. same_commit c d) commits) found.0 puts found.1 of) in
      (one.0, one.1, subst (λ (c : Commit). IsTrue (same_id id c.id)) (sym (same_commits one.0 found.0 one.2)) found.2)

module _ (node capacity : ℕ) (scene : Scene) (s : Service) (legal : LegalNode node capacity (scene.node node)) (serves : node_state (scene.node node) ≡ IsServing s) (id : TxnId) (free : IsFalse (holds_id id s)) (keeps : Keeps scene) where
  abbrev who : Incarnation
  who = incarnation node s.inc

  -- an attempt that is there has fixed no commit of the id
  none_fixed : (a : Attempt) → caller_of a ≡ who → IsFalse (is_gone (doing scene a)) → (c : Commit) → fixed_commit (doing scene a) ≡ Some c → IsTrue (same_id id c.id) → ⊥
  none_fixed a its there c fixed same =
      let state : node_state (scene.node a.node) ≡ IsServing s = ap (λ (n : ℕ). node_state (scene.node n)) (ap (λ (w : Incarnation). w.node) its) ∙ serves in
      let does : doing scene a ≡ attempt_state a s.part = ap (doing_in a) state ∙ (in_service_of a s (ap (λ (w : Incarnation). w.inc) its)).0 in
      let there_then : IsFalse (is_gone (attempt_state a s.part)) = subst (λ (t : AttemptState). IsFalse (is_gone t)) does there in
      let listed = (lives node capacity (scene.node node) s legal serves).stands.listed a there_then in
      let here : In a (present s.part) = filter_in (λ (x : Attempt). not (is_gone (attempt_state x s.part))) a (attempts s.part) listed (ap not there_then) in
      let holds : IsTrue (list_any (λ (x : Attempt). is_fixed_at id (fixed_commit (attempt_state x s.part))) (present s.part)) = any_from (λ (x : Attempt). is_fixed_at id (fixed_commit (attempt_state x s.part))) a (present s.part) here
      (subst (λ (t : AttemptState). IsTrue (is_fixed_at id (fixed_commit t))) does (subst (λ (o : Option Commit). IsTrue (is_fixed_at id o)) (sym fixed) same)) in
      true≢false (sym (or_right (has_id id (known_in s)) _ holds) ∙ free)

  put_none : (a : Attempt) → caller_of a ≡ who → IsFalse (is_gone (doing scene a)) → (commits : List Commit) → ((d : Commit) → In d commits → fixed_commit (doing scene a) ≡ Some d) → IsTrue (list_all (λ d. list_any (λ c. same_commit c d) commits) (puts_of scene a)) → IsFalse (has_id id (puts_of scene a))
  put_none a its there commits fixed of = false_from_ne_true (has_id id (puts_of scene a)) (λ has. let one = its_commit id commits (puts_of scene a) of has in none_fixed a its there one.0 (fixed one.0 one.1) one.2)

  of_attempt : (a : Attempt) → caller_of a ≡ who → IsFalse (is_gone (doing scene a)) → Stands scene a → IsFalse (is_fenced who scene.door) → IsFalse (has_id id (puts_of scene a))
  of_attempt a its there (IsShut gone) up = absurd (true≢false (sym (subst (λ (w : Incarnation). IsTrue (is_fenced w scene.door)) its gone) ∙ up))
  of_attempt a its there (IsAtRest none rest) up =
      put_none a its there (doubted_in (doing scene a)) (doubted_fixed (doing scene a)) (and_parts (is_rest (doing scene a) (stage_of scene a)) (are_rest_puts (doing scene a) (puts_of scene a)) (rest there)).1
  of_attempt a its there (IsMoved by moved row only) up =
      put_none a its there (stored_at (scene.at by)) (stored_fixed (scene.at by) (doing scene a) (moves_it (scene.at by) a (doing scene a) (named scene a) moved).1) (and_parts (is_row (scene.at by) (stage_of scene a)) (are_row_puts (scene.at by) (puts_of scene a)) row).1

  pub gives_up_unheld : IsTrue (is_of_node who) → IsFalse (is_fenced who scene.door) → IsFalse (has_id id (put_under_claim who id.uuid scene.door))
  gives_up_unheld of up = cases (keeps.uuids who id.uuid of)
    where
      cases : Lies scene who id.uuid → IsFalse (has_id id (put_under_claim who id.uuid scene.door))
      cases (IsFenced gone) = absurd (true≢false (sym gone ∙ up))
      cases (HasOne a its there is) =
          subst (λ (u : List ℕ). IsFalse (has_id id (put_under_claim who u scene.door))) is
          (subst (λ (w : Incarnation). IsFalse (has_id id (put_under_claim w (named scene a) scene.door))) its
          (of_attempt a its there (keeps.attempts a (subst (λ (w : Incarnation). IsTrue (is_of_node w)) (sym its) of)) up))
      cases (IsFree free_it) = false_from_ne_true (has_id id (put_under_claim who id.uuid scene.door)) (λ has.
          let one = its_commit id [] (put_under_claim who id.uuid scene.door) (and_parts (is_idle (stage who id.uuid scene.door)) (are_rest_puts IsGone (put_under_claim who id.uuid scene.door)) free_it).1 has in one.1)
