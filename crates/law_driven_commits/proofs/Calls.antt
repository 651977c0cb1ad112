-- A commit or an abort that a driver runs, at the door: its attempt's incarnation is up, and holds the UUID, unless it was fenced.
use Rattle.std.proofs.Common.{◌≡◌, ℕ, Bool, true, false, ◌&&◌, ◌||◌, not, List, [], refl, sym, ap, subst, ◌∙◌, inl, inr, append-nil}
use Rattle.std.specs.Prelude.{IsTrue, Option, Some}
use Rattle.std.proofs.lemmas.Bool.{and_from, and_parts, not-true, or_cases, or_left, or_right, true≢false}
use Rattle.aft_records.specs.declared.stored.Record.{Record}
use Rattle.aft_model.specs.declared.caller.Attempt.{Attempt}
use Rattle.aft_model.specs.declared.caller.Hold.{Hold}
use Rattle.aft_model.specs.declared.door.DoorEntry.{DoorEntry}
use Rattle.aft_model.specs.declared.node.NodeEntry.{NodeEntry}
use Rattle.aft_model.specs.declared.script.Command.{Command}
use Rattle.aft_model.specs.declared.script.Line.{Line}
use Rattle.aft_model.specs.Attempts.{attempt_state, uuid_of}
use Rattle.aft_model.specs.Claims.{holds}
use Rattle.aft_model.specs.Membership.{is_up}
use Rattle.aft_model.specs.NodeSights.{is_fenced}
use Rattle.aft_model.specs.NodeState.{node_state, serves}
use Rattle.aft_model.proofs.Histories.{all_at}
use Rattle.aft_model.proofs.Sights.{same_bytes}
use Rattle.aft_lines.specs.Advance.{leads_to}
use Rattle.aft_lines.specs.Asked.{Asked, Ran}
use Rattle.aft_lines.specs.CourseWords.{caller_of}
use Rattle.aft_lines.specs.FinishedText.{line_of}
use Rattle.aft_lines.specs.LineView.{ends_of}
use Rattle.aft_lines.specs.Lines.{lines, node_numbers}
use Rattle.aft_lines.specs.Progress.{FoundAborted, HasFailed, IsNodeStored, MustLeave, Progress, Settling}
use Rattle.aft_lines.specs.RunsSoFar.{position_of, same_answer}
use Rattle.aft_lines.specs.Turns.{Turn, turns}
use Rattle.aft_lines.specs.Views.{view_of}
use Rattle.aft_commit.specs.Asks.{may_call_at}
use Rattle.aft_commit.specs.Made.{HasCome, IsToRelease, LeadTo, Made, command_of, led_at, storing_with}
use Rattle.aft_commit.specs.View.{FinishView}
use Rattle.aft_commit.specs.declared.outcome.Outcome.{Outcome}
use Rattle.aft_commit.specs.declared.outcome.Outcome.TheVariants.{Absent, Left, Stored}
use Rattle.aft_commit.specs.declared.stage.Stage.{Stage}
use Rattle.aft_commit.specs.declared.stage.Stage.TheVariants as stages
use Rattle.aft_turns.specs.Trail.{Trail}
use Rattle.law_holders.specs.Rows.{is_of_attempt}
use Rattle.law_claims.specs.Doing.{attempt_at, has_claim_at, moves, names_uuid}
use Rattle.law_claims.proofs.Scenes.{doing_there, moves_it}
use Rattle.law_runs.specs.Runs.{Goes, run_steps, without_office}
use Rattle.law_runs.proofs.LegalRuns.{so_far_goes}
use Rattle.law_runs.proofs.Nodes.{nodes_rules}
use Rattle.law_steps.proofs.Histories.{door_is}
use Rattle.law_steps.specs.Histories.{history_in}
use Rattle.law_held.specs.Standing.{part_of_node, stands_rightly, stands_with}
use Rattle.law_held.proofs.Serving.{serves_up}
use Rattle.law_held.proofs.Stand.{lines_stand, node_all}
use Rattle.law_accounts.specs.Account.{Stand}
use Rattle.law_accounts.proofs.Runs.{account_runs}
use Rattle.law_accounts.proofs.StopsSeen.{there_serves}
use Rattle.law_driver.specs.Driven.{Driven}
use Rattle.law_driven_commits.specs.Finishes.{IsFinishOf, MayCallAtDoor}

same_is : (one other : Bool) → IsTrue (same_answer one other) → other ≡ true → IsTrue one
same_is true other is so = refl
same_is false other is so = absurd (true≢false (sym so ∙ not-true other is))

of_finish : (aborts : Bool) → IsTrue (is_of_attempt (command_of aborts))
of_finish true = refl
of_finish false = refl

module _ (asked : Asked) (ran : Ran) (stand : Line → Stand) (line : Line) (hold : Hold) (trail : Trail) (finish : FinishView) (driven : Driven asked ran stand line hold trail) (of : IsFinishOf line hold finish) where
  pub goes : Goes asked ran
  goes = so_far_goes asked ran (account_runs asked ran stand driven.account)

  abbrev door : List DoorEntry
  door = ran.trace.door

  abbrev at_node : Attempt → List NodeEntry
  at_node a = history_in a.node 1 ran.trace.nodes

  pub its_kind : IsTrue (is_of_attempt line.order)
  its_kind = subst (λ (c : Command). IsTrue (is_of_attempt c)) (sym of.asks) (of_finish finish.aborts)

  -- where its turns lead
  pub stands_at : (position : Progress) → LeadTo finish.aborts trail.turns position → position_of (view_of asked ran line) ≡ Some position
  stands_at position leads =
      ap (λ (c : Command). leads_to c (node_numbers asked.settings) (ends_of (view_of asked ran line)) (turns (line_of line) ran.trace)) of.asks
      ∙ (ap (λ (ts : List Turn). leads_to (command_of finish.aborts) (node_numbers asked.settings) (ends_of (view_of asked ran line)) ts) driven.own
      ∙ leads (node_numbers asked.settings) (ends_of (view_of asked ran line)))

  -- whether its attempt's incarnation is up, and holds this, unless it was fenced
  abbrev Holds : Attempt → List ℕ → Type 0
  Holds a uuid = IsTrue (is_fenced (caller_of a) door || is_up (caller_of a) door && holds (caller_of a) uuid door)

  module _ (position : Progress) (a : Attempt) (uuid : List ℕ) (leads : LeadTo finish.aborts trail.turns position) (at : attempt_at position ≡ Some a) (claimed : has_claim_at position ≡ true) (names : (u : List ℕ) → IsTrue (names_uuid position u) → uuid ≡ u) where
    abbrev does : Bool
    does = moves position a (attempt_state a (part_of_node a.node ran)) (uuid_of a (part_of_node a.node ran))

    stands : IsTrue (not (is_of_attempt line.order) || stands_rightly ran (position_of (view_of asked ran line)))
    stands = all_at (λ (l : Line). not (is_of_attempt l.order) || stands_rightly ran (position_of (view_of asked ran l))) line (lines asked) driven.may.among (lines_stand asked ran goes driven.account.differ)

    stands_so : IsTrue (stands_with ran position (Some a))
    stands_so = elim (or_cases (not (is_of_attempt line.order)) (stands_rightly ran (position_of (view_of asked ran line))) stands) [
      | inl other ↦ absurd (true≢false (sym its_kind ∙ not-true (is_of_attempt line.order) other))
      | inr so ↦ subst (λ (o : Option Attempt). IsTrue (stands_with ran position o)) at (subst (λ (o : Option Progress). IsTrue (stands_rightly ran o)) (stands_at position leads) so)
    ]

    serve : IsTrue does → IsTrue (serves a.inc (node_state (at_node a)))
    serve so =
        there_serves a.node asked.settings.cache (at_node a) a (nodes_rules a.node 1 asked.settings.cache ran.trace.door ran.trace.nodes driven.account.nodes).0
        (doing_there position (attempt_state a (part_of_node a.node ran)) (moves_it position a (attempt_state a (part_of_node a.node ran)) (uuid_of a (part_of_node a.node ran)) so).1)

    up_or_fenced : IsTrue does → IsTrue (is_up (caller_of a) door || is_fenced (caller_of a) door)
    up_or_fenced so =
        subst (λ (d : List DoorEntry). IsTrue (is_up (caller_of a) d || is_fenced (caller_of a) d)) (door_is (without_office ran.trace))
        (serves_up asked ran goes (run_steps ran) [] (sym (append-nil (run_steps ran))) a.node a.inc
        (subst (λ (h : List NodeEntry). IsTrue (serves a.inc (node_state h))) (sym (node_all asked ran goes driven.account.differ a.node)) (serve so)))

    holds_it : IsTrue does → IsTrue (same_answer (holds (caller_of a) (uuid_of a (part_of_node a.node ran)) door) (has_claim_at position)) → IsTrue (holds (caller_of a) uuid door)
    holds_it so same =
        subst (λ (u : List ℕ). IsTrue (holds (caller_of a) u door)) (sym (names (uuid_of a (part_of_node a.node ran)) (moves_it position a (attempt_state a (part_of_node a.node ran)) (uuid_of a (part_of_node a.node ran)) so).2))
        (same_is (holds (caller_of a) (uuid_of a (part_of_node a.node ran)) door) (has_claim_at position) same claimed)

    holds_there : Holds a uuid
    holds_there = elim (or_cases (is_fenced (caller_of a) door) (does && same_answer (holds (caller_of a) (uuid_of a (part_of_node a.node ran)) door) (has_claim_at position)) stands_so) [
      | inl gone ↦ or_left (is_fenced (caller_of a) door) _ gone
      | inr moved ↦
          let parts = and_parts does _ moved in
          elim (or_cases (is_up (caller_of a) door) (is_fenced (caller_of a) door) (up_or_fenced parts.0)) [
            | inl up ↦ or_right (is_fenced (caller_of a) door) _ (and_from (is_up (caller_of a) door) (holds (caller_of a) uuid door) up (holds_it parts.0 parts.1))
            | inr gone ↦ or_left (is_fenced (caller_of a) door) _ gone
          ]
    ]

  -- who holds it is up
  up_of : (a : Attempt) (uuid : List ℕ) → Holds a uuid → IsTrue (is_fenced (caller_of a) door || is_up (caller_of a) door)
  up_of a uuid so = elim (or_cases (is_fenced (caller_of a) door) (is_up (caller_of a) door && holds (caller_of a) uuid door) so) [
    | inl gone ↦ or_left (is_fenced (caller_of a) door) (is_up (caller_of a) door) gone
    | inr both ↦ or_right (is_fenced (caller_of a) door) (is_up (caller_of a) door) (and_parts (is_up (caller_of a) door) _ both).0
  ]

  -- the UUID of what is stored
  abbrev its_uuid : Record → List ℕ
  its_uuid r = r.commit.id.uuid

  released : (clock : ℕ) (a : Attempt) (uuid : List ℕ) (outcome : Outcome) (position : Progress) → IsToRelease a uuid outcome position → HasCome clock finish.by finish.hold finish.aborts a position trail → Holds a uuid
  released clock a uuid (Stored id) position (r, writes, is, named, stored) come =
      subst (λ (u : List ℕ). Holds a u) (sym named)
      (holds_there (IsNodeStored (storing_with a r writes)) a (its_uuid r) (subst (LeadTo finish.aborts trail.turns) is come.leads) refl refl (λ u same. same_bytes (its_uuid r) u same))
  released clock a uuid Absent position (r, writes, is, named) come =
      subst (λ (u : List ℕ). Holds a u) (sym named)
      (holds_there (FoundAborted (storing_with a r writes)) a (its_uuid r) (subst (LeadTo finish.aborts trail.turns) is come.leads) refl refl (λ u same. same_bytes (its_uuid r) u same))
  released clock a uuid (Left leaves) position is come =
      holds_there (MustLeave leaves a uuid) a uuid (subst (LeadTo finish.aborts trail.turns) is come.leads) refl refl (λ u same. same_bytes uuid u same)

  by_stage : (clock : ℕ) (stage : Stage) → led_at clock finish.by finish.hold finish.aborts stage trail → may_call_at stage door
  by_stage clock (stages.Settles a r values) (writes, keys, are, come) =
      up_of a (its_uuid r) (holds_there (Settling finish.aborts (storing_with a r writes)) a (its_uuid r) come.leads refl refl (λ u same. same_bytes (its_uuid r) u same))
  by_stage clock (stages.Stores a r values count) (writes, keys, are, commits, come) =
      holds_there _ a (its_uuid r) come.leads refl refl (λ u same. same_bytes (its_uuid r) u same)
  by_stage clock (stages.Failed a r) (writes, come) =
      up_of a (its_uuid r) (holds_there (HasFailed (storing_with a r writes)) a (its_uuid r) come.leads refl refl (λ u same. same_bytes (its_uuid r) u same))
  by_stage clock (stages.Releases a uuid outcome) (position, is, come) = released clock a uuid outcome position is come
  by_stage clock stages.Begins led = tt
  by_stage clock (stages.Recorded a r) led = tt
  by_stage clock (stages.Doubts a reply) led = tt
  by_stage clock (stages.Ends a uuid outcome) led = tt
  by_stage clock (stages.ShutOut a) led = tt
  by_stage clock stages.Ended led = tt

  pub may_call : (clock : ℕ) → Made clock finish trail → MayCallAtDoor finish door
  may_call clock made next = (by_stage clock finish.stage made.0, driven.account.opened)
