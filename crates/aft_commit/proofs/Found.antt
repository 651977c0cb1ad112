-- What the first turn of a commit or an abort finds at its node.
use Rattle.std.proofs.Common.{◌≡◌, ℕ, Bool, false, ◌&&◌, List, [], ◌∷◌, ◌++◌, length, not, sym, ap, subst, ◌∙◌}
use Rattle.std.specs.Prelude.{IsTrue, Option, Some, if◌then◌else◌, ◌==◌}
use Rattle.std.proofs.lemmas.Bool.{and_from}
use Rattle.std.proofs.lemmas.List.Sums.{fold-append}
use Rattle.aft_records.specs.declared.stored.Commit.{Commit}
use Rattle.aft_records.specs.Limits.{is_time}
use Rattle.aft_model.specs.declared.caller.Attempt.{Attempt}
use Rattle.aft_model.specs.declared.node.NodeAct.TheVariants as acts
use Rattle.aft_model.specs.declared.node.NodeEntry.{NodeEntry}
use Rattle.aft_model.specs.Attempts.{AttemptState, IsCommitting, IsGone, IsInDoubt, attempt_after, attempt_state, buffer, fixed_commit, is_in_doubt, is_running, open_reads, reads, tried_again, written_keys}
use Rattle.aft_model.specs.Known.{known_of}
use Rattle.aft_model.specs.NodeRules.{commit_time}
use Rattle.aft_model.specs.NodeState.{IsServing, NodeState, Service, extended, node_state, part, part_in, serves, service, service_in, state_after}
use Rattle.aft_model.proofs.Services.{node_state-snoc, serving}
use Rattle.aft_ledger.specs.Turns.{commit_of}
use Rattle.aft_lines.specs.CausesAttempts.{is_ready, passes_end, state_in}
use Rattle.aft_lines.specs.LineView.{is_served}
use Rattle.law_attempts.proofs.Standing.{same_itself}
use Rattle.aft_turns.proofs.Found.{found_so}

module _ (a : Attempt) (before : List NodeEntry) (serve : IsTrue (serves a.inc (node_state before))) where
  -- it is in doubt
  pub doubted_so : IsTrue (is_in_doubt (attempt_state a (part before))) → IsTrue (is_served (λ b s. is_in_doubt (state_in b s)) (Some a) (service before))
  doubted_so is = found_so a before serve (λ b s. is_in_doubt (state_in b s)) (λ s of. subst (λ (o : Option Service). IsTrue (is_in_doubt (attempt_state a (part_in o)))) of is)

  module _ (runs : IsTrue (is_running (attempt_state a (part before)))) (read : IsTrue (open_reads a (part before) == 0)) where
    -- it is ready
    pub ready_so : (test : ℕ → Bool) → IsTrue (test (length (buffer a (part before)))) → IsTrue (is_served (is_ready test) (Some a) (service before))
    ready_so test passes =
        found_so a before serve (is_ready test) (λ s of.
        subst (λ (o : Option Service). IsTrue (is_running (attempt_state a (part_in o)) && open_reads a (part_in o) == 0 && test (length (buffer a (part_in o))))) of (and_from _ _ (and_from _ _ runs read) passes))

    -- but its commit would pass the last time
    pub passed_so : (now : ℕ) → IsTrue (not (length (buffer a (part before)) == 0)) → is_time (commit_of now a before).id.time ≡ false → IsTrue (is_served (λ b s. is_ready (λ count. not (count == 0)) b s && passes_end (Some now) b s) (Some a) (service before))
    passed_so now some late =
        found_so a before serve (λ b s. is_ready (λ count. not (count == 0)) b s && passes_end (Some now) b s) (λ s of.
        subst (λ (o : Option Service). IsTrue ((is_running (attempt_state a (part_in o)) && open_reads a (part_in o) == 0 && not (length (buffer a (part_in o)) == 0)) && not (is_time (commit_time now (reads a (part_in o)) (written_keys (buffer a (part_in o))) (known_of o))))) of
        (and_from _ _ (and_from _ _ (and_from _ _ runs read) some) (ap not late)))

  -- ---- behind it

  -- an entry of its service joins the part
  part_on : (entry : NodeEntry) → ((s : Service) → state_after (IsServing s) entry entry.act ≡ IsServing (extended s entry)) → part (before ++ entry ∷ []) ≡ part before ++ entry ∷ []
  part_on entry stays =
      let is = serving a.inc (node_state before) serve in
      ap (λ (q : NodeState). part_in (service_in q)) (node_state-snoc before entry ∙ ap (λ (q : NodeState). state_after q entry entry.act) is.1 ∙ stays is.0)
      ∙ ap (λ (q : NodeState). part_in (service_in q) ++ entry ∷ []) (sym is.1)

  fixed_behind : (entry : NodeEntry) → ((s : Service) → state_after (IsServing s) entry entry.act ≡ IsServing (extended s entry)) → fixed_commit (attempt_state a (part (before ++ entry ∷ []))) ≡ fixed_commit (attempt_after a (attempt_state a (part before)) entry.act)
  fixed_behind entry stays =
      ap (λ (p : List NodeEntry). fixed_commit (attempt_state a p)) (part_on entry stays)
      ∙ ap fixed_commit (fold-append (λ (state : AttemptState) (e : NodeEntry). attempt_after a state e.act) IsGone (part before) (entry ∷ []))

  -- the commit is fixed
  pub fixed_started : (entry : NodeEntry) (now : ℕ) (c : Commit) → entry.act ≡ acts.Start a now c → fixed_commit (attempt_state a (part (before ++ entry ∷ []))) ≡ Some c
  fixed_started entry now c did =
      fixed_behind entry (λ s. ap (state_after (IsServing s) entry) did)
      ∙ ap (λ act. fixed_commit (attempt_after a (attempt_state a (part before)) act)) did
      ∙ ap (λ (t : Bool). fixed_commit (if t then IsCommitting c else attempt_state a (part before))) (same_itself a)

  -- or it is the one that was in doubt
  pub fixed_settled : (entry : NodeEntry) (c : Commit) → entry.act ≡ acts.Settle a → attempt_state a (part before) ≡ IsInDoubt c → fixed_commit (attempt_state a (part (before ++ entry ∷ []))) ≡ Some c
  fixed_settled entry c did doubt =
      fixed_behind entry (λ s. ap (state_after (IsServing s) entry) did)
      ∙ ap (λ act. fixed_commit (attempt_after a (attempt_state a (part before)) act)) did
      ∙ ap (λ (t : Bool). fixed_commit (if t then tried_again (attempt_state a (part before)) else attempt_state a (part before))) (same_itself a)
      ∙ ap (λ (state : AttemptState). fixed_commit (tried_again state)) doubt
