-- What a line's turn found at a node is a beginning of the node's history, and a commit that an attempt had fixed there stays while the attempt is there.
use Rattle.std.proofs.Common.{◌≡◌, ℕ, List, [], ◌∷◌, ◌++◌, refl, inl, inr}
use Rattle.std.specs.Prelude.{IsFalse, None, Some}
use Rattle.aft_records.specs.declared.stored.Commit.{Commit}
use Rattle.aft_model.specs.declared.caller.Attempt.{Attempt}
use Rattle.aft_model.specs.declared.caller.By.{By}
use Rattle.aft_model.specs.declared.node.NodeEntry.{NodeEntry}
use Rattle.aft_model.specs.declared.trace.Trace.{Trace}
use Rattle.aft_model.specs.Attempts.{AttemptState, IsCommitting, IsInDoubt, attempt_state, fixed_commit, is_gone}
use Rattle.aft_model.specs.LegalNode.{LegalNode, may_follow_at}
use Rattle.aft_model.specs.NodeState.{part}
use Rattle.aft_model.proofs.Histories.{In, each_after_split, in_append}
use Rattle.aft_lines.specs.Turns.{AtNode, door_turns, nodes_turns, office_turns, turns}
use Rattle.law_attempts.proofs.Attempts.{fixed_for_good, there_admitted}
use Rattle.law_runs.proofs.Members.{turns_in}
use Rattle.law_steps.specs.Histories.{history_in}
use Rattle.law_accounts.proofs.StopsSeen.{there_serves}
use Rattle.law_held.proofs.ComesUp.{door_none, office_none}
use Rattle.law_held.proofs.Starts.{nodes_split}

-- ---- where a turn at a node stands

pub turn_stands : (by : By) (node : ℕ) (before : List NodeEntry) (entry : NodeEntry) (trace : Trace) → In (AtNode node before entry) (turns by trace) → (more : List NodeEntry) × (history_in node 1 trace.nodes ≡ before ++ entry ∷ more)
turn_stands by node before entry trace among =
    elim (in_append (AtNode node before entry) (nodes_turns by 1 trace.nodes ++ door_turns by 0 trace.door) (office_turns by [] trace.office) (turns_in by trace (AtNode node before entry) among)) [
      | inl front ↦ elim (in_append (AtNode node before entry) (nodes_turns by 1 trace.nodes) (door_turns by 0 trace.door) front) [
        | inl here ↦ (nodes_split by 1 trace.nodes node before entry here).1
        | inr door ↦ absurd (door_none by 0 trace.door node before entry door)
      ]
      | inr office ↦ absurd (office_none by [] trace.office node before entry office)
    ]

-- ---- what was fixed

pub fixed_there : (state : AttemptState) (c : Commit) → fixed_commit state ≡ Some c → IsFalse (is_gone state)
fixed_there (IsCommitting d) c is = refl
fixed_there (IsInDoubt d) c is = refl
fixed_there state c is = absurd (let e : None ≡ Some c = is in cc)

-- it stays while the attempt is there
pub stays_fixed : (node capacity : ℕ) (a : Attempt) (c : Commit) (history more : List NodeEntry) → LegalNode node capacity (history ++ more) → fixed_commit (attempt_state a (part history)) ≡ Some c → IsFalse (is_gone (attempt_state a (part (history ++ more))))
    → fixed_commit (attempt_state a (part (history ++ more))) ≡ Some c
stays_fixed node capacity a c history more legal fixed still =
    let legal_then = (each_after_split (may_follow_at node capacity) [] history more legal).0 in
    let there = fixed_there (attempt_state a (part history)) c fixed in
    let serve = there_serves node capacity history a legal_then there in
    fixed_for_good node capacity a.inc a history more legal serve (there_serves node capacity (history ++ more) a legal still) (there_admitted node capacity a.inc history legal_then serve a there) c fixed still
