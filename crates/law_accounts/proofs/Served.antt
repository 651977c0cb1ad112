-- At the end of a run so far an attempt that a line moves does what the line's position asks, while its node serves its incarnation.
use Rattle.std.proofs.Common.{◌≡◌, Bool, List, [], sym, ap, subst, ◌∙◌, append-nil}
use Rattle.std.specs.Prelude.{IsFalse, IsTrue, Option, Some, if◌then◌else◌}
use Rattle.aft_model.specs.declared.caller.Attempt.{Attempt}
use Rattle.aft_model.specs.declared.node.NodeEntry.{NodeEntry}
use Rattle.aft_model.specs.declared.script.Line.{Line}
use Rattle.aft_model.specs.Attempts.{attempt_state, uuid_of}
use Rattle.aft_model.specs.NodeState.{boots, node_state, serves}
use Rattle.aft_model.proofs.Histories.{In}
use Rattle.aft_model.proofs.Incarnations.{part-at}
use Rattle.aft_model.proofs.Services.{serving}
use Rattle.aft_lines.specs.Advance.{leads_to}
use Rattle.aft_lines.specs.Asked.{Asked, Ran}
use Rattle.aft_lines.specs.FinishedText.{line_of}
use Rattle.aft_lines.specs.LineView.{ends_of}
use Rattle.aft_lines.specs.Lines.{lines, node_numbers}
use Rattle.aft_lines.specs.Progress.{NotBegun, Progress}
use Rattle.aft_lines.specs.RunsSoFar.{position_of}
use Rattle.aft_lines.specs.Steps.{own_steps}
use Rattle.aft_lines.specs.Views.{view_of}
use Rattle.law_holders.specs.Rows.{is_of_attempt}
use Rattle.law_claims.specs.Doing.{attempt_at, moves}
use Rattle.law_claims.specs.Moments.{MayCome, come_to, or_not_begun, scene_of}
use Rattle.law_claims.proofs.Moments.{moments_keep}
use Rattle.law_runs.specs.Runs.{Goes, asking_of, command_in, ends_in, run_steps}
use Rattle.law_runs.proofs.Come.{come}
use Rattle.law_runs.proofs.LegalRuns.{so_far_goes}
use Rattle.law_runs.proofs.Own.{own_are}
use Rattle.law_steps.specs.Histories.{history_in}
use Rattle.law_held.specs.Standing.{part_of_node}
use Rattle.law_held.proofs.DeskHeld.{among_itself}
use Rattle.law_held.proofs.Stand.{node_all}
use Rattle.law_accounts.specs.Account.{Account, Stand}
use Rattle.law_accounts.proofs.Runs.{account_runs}
use Rattle.law_accounts.proofs.Moves.{MovesOn, moves_at_first, steps_move}

module _ (asked : Asked) (ran : Ran) (stand : Line → Stand) (account : Account asked ran stand) (line : Line) (listed : In line (lines asked)) (of : IsTrue (is_of_attempt line.order)) where
  goes : Goes asked ran
  goes = so_far_goes asked ran (account_runs asked ran stand account)

  keeps : MovesOn (asking_of asked ran) (scene_of (asking_of asked ran) (run_steps ran))
  keeps =
      steps_move (asking_of asked ran) asked.settings.cache [] (run_steps ran) [] (subst (MayCome (asking_of asked ran) asked.settings.cache []) (sym (append-nil (run_steps ran))) (come asked ran goes))
      (moments_keep (asking_of asked ran) asked.settings.cache [] [] tt) (moves_at_first (asking_of asked ran))

  at_last : (position : Progress) → position_of (view_of asked ran line) ≡ Some position → (scene_of (asking_of asked ran) (run_steps ran)).at (line_of line) ≡ position
  at_last position is =
      ap (λ (o : Option Line). come_to (node_numbers asked.settings) (ends_in asked ran o) (own_steps (line_of line) (run_steps ran)) (command_in o)) (among_itself [] (lines asked) account.differ line listed)
      ∙ (ap (λ (b : Bool). if b then or_not_begun (leads_to line.order (node_numbers asked.settings) (ends_of (view_of asked ran line)) (own_steps (line_of line) (run_steps ran))) else NotBegun) of
      ∙ ap or_not_begun (ap (leads_to line.order (node_numbers asked.settings) (ends_of (view_of asked ran line))) (own_are asked ran goes line listed of) ∙ is))

  pub moved_while_served : (position : Progress) (a : Attempt) → position_of (view_of asked ran line) ≡ Some position → attempt_at position ≡ Some a → IsTrue (serves a.inc (node_state (history_in a.node 1 ran.trace.nodes))) → IsTrue (moves position a (attempt_state a (part_of_node a.node ran)) (uuid_of a (part_of_node a.node ran)))
  moved_while_served position a is at serve =
      let s = serving a.inc (node_state (history_in a.node 1 ran.trace.nodes)) serve in
      let here = at_last position is in
      subst (λ (p : List NodeEntry). IsTrue (moves position a (attempt_state a p) (uuid_of a p))) (sym (part-at (history_in a.node 1 ran.trace.nodes) s.0 s.1))
      (subst (λ (p : Progress). IsTrue (moves p a (attempt_state a s.0.part) (uuid_of a s.0.part))) here
      (keeps.moved (line_of line) a (ap attempt_at here ∙ at) s.0 (ap node_state (node_all asked ran goes account.differ a.node) ∙ s.1) (sym s.2)))

  -- and its incarnation boots no more
  pub unbooted_since : (position : Progress) (a : Attempt) → position_of (view_of asked ran line) ≡ Some position → attempt_at position ≡ Some a → IsFalse (boots a.inc (node_state (history_in a.node 1 ran.trace.nodes)))
  unbooted_since position a is at =
      subst (λ (h : List NodeEntry). IsFalse (boots a.inc (node_state h))) (node_all asked ran goes account.differ a.node)
      (keeps.known (line_of line) a (ap attempt_at (at_last position is) ∙ at)).unbooted
