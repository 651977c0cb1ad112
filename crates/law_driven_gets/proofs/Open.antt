-- Where a get is at a fetch, that is still open, or the node has left the incarnation.
use Rattle.std.proofs.Common.{◌≡◌, ℕ, Bool, false, true, ◌&&◌, ◌||◌, not, List, [], ◌∷◌, ◌++◌, refl, sym, ap, subst, ◌∙◌, inl, inr, append-nil, append_assoc, length, arith}
use Rattle.std.specs.Prelude.{IsFalse, IsTrue, None, Option, Some, nat_lt}
use Rattle.std.specs.List.{list_any}
use Rattle.std.proofs.lemmas.Bool.{and_from, and_parts, cases_Bool, false≢true, lt-ltb, or_left, or_right}
use Rattle.aft_model.specs.declared.caller.By.{By}
use Rattle.aft_model.specs.declared.node.NodeEntry.{NodeEntry}
use Rattle.aft_model.specs.declared.script.Command.TheVariants as commands
use Rattle.aft_model.specs.declared.script.Line.{Line}
use Rattle.aft_model.specs.Attempts.{AttemptState, IsRunning, attempt_state, is_gone, is_running, open_reads}
use Rattle.aft_model.specs.LegalNode.{LegalNode, may_follow_at}
use Rattle.aft_model.specs.NodeState.{boots, node_state, part, serves}
use Rattle.aft_model.specs.ScanRun.{same_line}
use Rattle.aft_model.proofs.Histories.{In, any_found, each_after_split}
use Rattle.aft_model.proofs.Incarnations.{part-at}
use Rattle.aft_model.proofs.Services.{serving}
use Rattle.aft_ledger.specs.Turns.{is_fetching}
use Rattle.aft_lines.specs.Asked.{Asked, Ran}
use Rattle.aft_lines.specs.FinishedText.{line_of}
use Rattle.aft_lines.specs.Holding.{picks_fetch}
use Rattle.aft_lines.specs.LineView.{has_left}
use Rattle.aft_lines.specs.Lines.{lines}
use Rattle.aft_lines.specs.Progress.{Progress}
use Rattle.aft_lines.specs.RunsSoFar.{position_of}
use Rattle.aft_lines.specs.Views.{view_of}
use Rattle.law_attempts.proofs.Newest.{acts_of_own}
use Rattle.law_claims.specs.Moments.{node_steps}
use Rattle.law_runs.specs.Runs.{Goes, asking_of, run_steps}
use Rattle.law_runs.proofs.LegalRuns.{so_far_goes}
use Rattle.law_runs.proofs.Nodes.{nodes_rules}
use Rattle.law_runs.proofs.Retires.{split_at}
use Rattle.law_steps.specs.Histories.{history_in}
use Rattle.law_held.specs.Fetching.{Fetch, KeepsFetches, fetch_of, fetching}
use Rattle.law_held.specs.Standing.{fetch_in}
use Rattle.law_held.proofs.BootsOnce.{boots_once}
use Rattle.law_held.proofs.Fetches.{open_now}
use Rattle.law_held.proofs.OpenFetches.{fetches_behind}
use Rattle.law_held.proofs.Stand.{node_all}
use Rattle.law_accounts.specs.Account.{Account, Stand}
use Rattle.law_accounts.proofs.ComingUp.{fetch_there, picks_acts}
use Rattle.law_accounts.proofs.Runs.{account_runs}

-- who runs is there
runs_there : (state : AttemptState) → IsTrue (is_running state) → IsTrue (not (is_gone state))
runs_there IsRunning running = refl
runs_there state running = absurd (false≢true running)

-- a list with some element isn't empty
some_there : (by : By) (others : List By) → IsTrue (list_any (same_line by) others) → IsTrue (nat_lt 0 (length others))
some_there by [] is = absurd (false≢true is)
some_there by (other ∷ others) is = lt-ltb 0 (length (other ∷ others)) (omega arith)

neither : (one other : Bool) → IsFalse one → IsFalse other → IsTrue (not (one || other))
neither true other is also = absurd (false≢true (sym is))
neither false true is also = absurd (false≢true (sym also))
neither false false is also = refl

module _ (asked : Asked) (ran : Ran) (stand : Line → Stand) (account : Account asked ran stand) (line : Line) (listed : In line (lines asked)) (key : List ℕ) (gets : line.order ≡ commands.Get key) (f : Fetch) where
  abbrev history : List NodeEntry
  history = history_in f.attempt.node 1 ran.trace.nodes

  goes : Goes asked ran
  goes = so_far_goes asked ran (account_runs asked ran stand account)

  abbrev at_end : ℕ → List NodeEntry
  at_end node = node_steps node (run_steps ran)

  same : at_end f.attempt.node ≡ history
  same = node_all asked ran goes account.differ f.attempt.node

  keeps : KeepsFetches at_end (fetch_of (asking_of asked ran) (run_steps ran))
  keeps = fetches_behind asked ran goes (run_steps ran) [] (sym (append-nil (run_steps ran)))

  abbrev Legal : List NodeEntry → Type 0
  Legal h = LegalNode f.attempt.node asked.settings.cache h

  legal : Legal history
  legal = (nodes_rules f.attempt.node 1 asked.settings.cache ran.trace.door ran.trace.nodes account.nodes).0

  abbrev its_pick : NodeEntry → Bool
  its_pick entry = picks_fetch f.attempt f.key f.id entry.act

  module _ (is : fetch_of (asking_of asked ran) (run_steps ran) (line_of line) ≡ Some f) where
    -- it picked in a service of the incarnation, which the node doesn't boot again
    picked_so : (before more : List NodeEntry) (entry : NodeEntry) → history ≡ before ++ entry ∷ more → IsTrue (its_pick entry) → IsFalse (boots f.attempt.inc (node_state history))
    picked_so before more entry parts picks =
        let first = (each_after_split (may_follow_at f.attempt.node asked.settings.cache) [] (before ++ entry ∷ []) more (subst Legal (parts ∙ sym (append_assoc before (entry ∷ []) more)) legal)).0 in
        let own = acts_of_own f.attempt.node asked.settings.cache f.attempt before entry first (picks_acts f.attempt f.key f.id entry.act picks) in
        subst (λ (h : List NodeEntry). IsFalse (boots f.attempt.inc (node_state h))) (sym parts) (boots_once f.attempt.node asked.settings.cache f.attempt.inc before (entry ∷ more) (subst Legal parts legal) own.1)

    not_booting : IsFalse (boots f.attempt.inc (node_state history))
    not_booting =
        let found = any_found its_pick history (subst (λ (h : List NodeEntry). IsTrue (list_any its_pick h)) same (keeps.picked (line_of line) f is)) in
        let cut = split_at found.0 history found.1 in
        picked_so cut.0 cut.1 found.0 cut.2 found.2

    is_open : IsTrue (serves f.attempt.inc (node_state history)) → IsTrue (is_fetching f.attempt history)
    is_open serve =
        let at = serving f.attempt.inc (node_state history) serve in
        let now = ap node_state same ∙ at.1 in
        let stood = keeps.stands (line_of line) f at.0 is now (sym at.2) in
        let runs = (and_parts (is_running (attempt_state f.attempt at.0.part)) _ (open_now (line_of line) f.attempt f.key f.id [] at.0.part stood.1)).0 in
        let some = subst (λ (n : ℕ). IsTrue (nat_lt 0 n)) (keeps.counted f.attempt.node at.0 f.attempt now) (some_there (line_of line) (fetching f.attempt at.0.part) stood.0) in
        and_from (serves f.attempt.inc (node_state history)) (not (is_gone (attempt_state f.attempt (part history))) && nat_lt 0 (open_reads f.attempt (part history))) serve
        (subst (λ (p : List NodeEntry). IsTrue (not (is_gone (attempt_state f.attempt p)) && nat_lt 0 (open_reads f.attempt p))) (sym (part-at history at.0 at.1))
        (and_from (not (is_gone (attempt_state f.attempt at.0.part))) (nat_lt 0 (open_reads f.attempt at.0.part)) (runs_there (attempt_state f.attempt at.0.part) runs) some))

    left_or_open : IsTrue (has_left f.attempt.inc (node_state history) || is_fetching f.attempt history)
    left_or_open = elim (cases_Bool (serves f.attempt.inc (node_state history))) [
      | inl serve ↦ or_right (has_left f.attempt.inc (node_state history)) (is_fetching f.attempt history) (is_open serve)
      | inr gone ↦ or_left (has_left f.attempt.inc (node_state history)) (is_fetching f.attempt history) (neither (serves f.attempt.inc (node_state history)) (boots f.attempt.inc (node_state history)) gone not_booting)
    ]

  pub may_end : fetch_in (position_of (view_of asked ran line)) ≡ Some f → IsTrue (has_left f.attempt.inc (node_state history) || is_fetching f.attempt history)
  may_end at = by_position (position_of (view_of asked ran line)) refl at
    where
      by_position : (o : Option Progress) → position_of (view_of asked ran line) ≡ o → fetch_in o ≡ Some f → IsTrue (has_left f.attempt.inc (node_state history) || is_fetching f.attempt history)
      by_position None is fetch = absurd (cc)
      by_position (Some p) is fetch = left_or_open (fetch_there asked ran goes account.differ line listed key gets p is ∙ fetch)
