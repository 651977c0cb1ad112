-- How a driven begin or forget stands whose attempt was admitted.
use Rattle.std.proofs.Common.{◌≡◌, ℕ, Bool, false, ◌||◌, not, List, [], ◌++◌, sym, ap, subst, ◌∙◌, ◌⊎◌, inl, inr, append-nil}
use Rattle.std.specs.Prelude.{IsFalse, IsTrue, None, Option, Some, if◌then◌else◌}
use Rattle.std.specs.Str.{bytes_eq}
use Rattle.std.proofs.lemmas.Bool.{and_from, cases_Bool, eq-eqb, or_cases}
use Rattle.aft_model.specs.declared.caller.Attempt.{Attempt}
use Rattle.aft_model.specs.declared.caller.By.{By}
use Rattle.aft_model.specs.declared.caller.Hold.{Hold}
use Rattle.aft_model.specs.declared.door.DoorEntry.{DoorEntry}
use Rattle.aft_model.specs.declared.node.NodeAct.{NodeAct}
use Rattle.aft_model.specs.declared.node.NodeAct.TheVariants as acts
use Rattle.aft_model.specs.declared.node.NodeEntry.{NodeEntry}
use Rattle.aft_model.specs.declared.script.Command.{Command}
use Rattle.aft_model.specs.declared.script.Line.{Line}
use Rattle.aft_model.specs.Attempts.{AttemptState, IsOpening, attempt_state, is_opening, uuid_of}
use Rattle.aft_model.specs.Claims.{holds}
use Rattle.aft_model.specs.LegalDoor.{Legal}
use Rattle.aft_model.specs.Membership.{is_up}
use Rattle.aft_model.specs.NodeSights.{is_fenced}
use Rattle.aft_model.specs.NodeState.{NodeState, boots, node_state, part, serves}
use Rattle.aft_model.proofs.Sights.{bytes_eq-refl}
use Rattle.aft_ledger.specs.Turns.{is_doing as is_doing_there}
use Rattle.aft_ledger.specs.View.{NodeView}
use Rattle.aft_lines.specs.Advance.{leads_to}
use Rattle.aft_lines.specs.Asked.{Asked, Ran}
use Rattle.aft_lines.specs.CourseWords.{Ends, caller_of}
use Rattle.aft_lines.specs.FinishedText.{line_of}
use Rattle.aft_lines.specs.LineView.{ends_of, has_left}
use Rattle.aft_lines.specs.Lines.{lines, node_numbers}
use Rattle.aft_lines.specs.Progress.{NotBegun, Progress}
use Rattle.aft_lines.specs.RunsSoFar.{position_of}
use Rattle.aft_lines.specs.Steps.{Made, own_steps}
use Rattle.aft_lines.specs.Turns.{turns}
use Rattle.aft_lines.specs.Views.{view_of}
use Rattle.aft_node.specs.Closing.{MayClose, act_passes, last_own, opens_begin}
use Rattle.aft_turns.specs.Trail.{Trail}
use Rattle.law_attempts.proofs.Standing.{same_itself}
use Rattle.law_holders.specs.Rows.{is_of_attempt}
use Rattle.law_claims.specs.Doing.{attempt_at, has_claim_at, is_doing, moves, names_uuid}
use Rattle.law_claims.specs.Moments.{Asking, come_to, or_not_begun, scene_of}
use Rattle.law_claims.specs.Scenes.{Keeps, Scene, doing, named}
use Rattle.law_claims.proofs.Holds.{moved_holds}
use Rattle.law_claims.proofs.Scenes.{doing_there, moves_it, served, the_is}
use Rattle.law_runs.specs.Runs.{Goes, asking_of, command_in, ends_in, line_among, run_steps, without_office}
use Rattle.law_runs.proofs.InStages.{kept_behind}
use Rattle.law_runs.proofs.LegalRuns.{so_far_goes}
use Rattle.law_runs.proofs.Own.{come_somewhere, own_are}
use Rattle.law_steps.proofs.Histories.{door_is}
use Rattle.law_steps.specs.Histories.{history_in}
use Rattle.law_held.proofs.DeskHeld.{among_itself}
use Rattle.law_held.proofs.OwnSteps.{moved_by}
use Rattle.law_held.proofs.Serving.{serves_up}
use Rattle.law_accounts.specs.Account.{Stand}
use Rattle.law_accounts.specs.Adding.{numbered_in}
use Rattle.law_accounts.proofs.Runs.{account_runs}
use Rattle.law_accounts.proofs.Served.{moved_while_served, unbooted_since}
use Rattle.law_accounts.proofs.StopsSeen.{same_history}
use Rattle.law_driver.specs.Driven.{Driven, IsNode, last_act, node_of}
use Rattle.aft_begin.specs.declared.aim.Aim.{Aim}
use Rattle.aft_begin.specs.Made.{HasCome, begun_turns}
use Rattle.aft_begin.specs.View.{ClaimView, asks}
use Rattle.aft_begin.specs.Way.{Unclaimed, Way}
use Rattle.law_driven_claims.specs.Claims.{IsClaimOf}
use Rattle.law_driven_claims.proofs.Positions.{asks_at, asks_of, claimed_holds, come_last, come_moves, one_uuid, opens_there, unclaimed_free}

module _ (aim : Aim) (asked : Asked) (ran : Ran) (stand : Line → Stand) (line : Line) (hold : Hold) (trail : Trail) (claim : ClaimView) (driven : Driven asked ran stand line hold trail) (its : IsClaimOf aim line claim) where
  goes : Goes asked ran
  goes = so_far_goes asked ran (account_runs asked ran stand driven.account)

  abbrev asking : Asking
  asking = asking_of asked ran

  abbrev steps : List Made
  steps = run_steps ran

  abbrev last : Scene
  last = scene_of asking steps

  abbrev by : By
  by = line_of line

  abbrev nodes : List ℕ
  nodes = node_numbers asked.settings

  abbrev its_ends : Ends
  its_ends = ends_of (view_of asked ran line)

  of : IsTrue (is_of_attempt line.order)
  of = subst (λ (c : Command). IsTrue (is_of_attempt c)) (sym its.order) (asks_of aim claim.uuid claim.node)

  found : line_among by (lines asked) ≡ Some line
  found = among_itself [] (lines asked) driven.account.differ line driven.may.among

  at_end : steps ≡ steps ++ []
  at_end = sym (append-nil steps)

  keeps_last : Keeps last
  keeps_last = (kept_behind asked ran goes steps [] at_end).0

  door_last : last.door ≡ ran.trace.door
  door_last = door_is (without_office ran.trace)

  -- where it has come
  pub position : (q : Progress) × (position_of (view_of asked ran line) ≡ Some q)
  position = come_somewhere (position_of (view_of asked ran line)) (driven.account.going line driven.may.among).leads

  abbrev here : Progress
  here = position.0

  at_last : last.at by ≡ here
  at_last =
      ap (λ (o : Option Line). come_to nodes (ends_in asked ran o) (own_steps by steps) (command_in o)) found
      ∙ ap (λ (b : Bool). if b then or_not_begun (leads_to line.order nodes its_ends (own_steps by steps)) else NotBegun) of
      ∙ ap or_not_begun (ap (leads_to line.order nodes its_ends) (own_are asked ran goes line driven.may.among of) ∙ position.1)

  module _ (a : Attempt) (front : ℕ) (way : Way) (release : Option ℕ) (its_turns : HasCome aim claim.by claim.node claim.uuid a front way release trail) where
    led : leads_to (asks aim claim.uuid claim.node) nodes its_ends (begun_turns claim.by claim.node claim.uuid a its_turns.before front way release) ≡ Some here
    led = sym (ap (λ (c : Command). leads_to c nodes its_ends (turns by ran.trace)) its.order ∙ ap (leads_to (asks aim claim.uuid claim.node) nodes its_ends) (driven.own ∙ its_turns.turns)) ∙ position.1

    still : IsTrue (moves here a IsOpening claim.uuid)
    still = come_moves aim claim.node claim.uuid nodes its_ends claim.by a its_turns.before front way release here led

    moved : IsTrue (is_doing here IsOpening)
    moved = (moves_it here a IsOpening claim.uuid still).1

    at_here : attempt_at here ≡ Some a
    at_here = the_is a (attempt_at here) (moves_it here a IsOpening claim.uuid still).0

    mine : attempt_at (last.at by) ≡ Some a
    mine = ap attempt_at at_last ∙ at_here

    -- what moves it as its position asks opens, and is of its UUID
    opens_so : (state : AttemptState) (uuid : List ℕ) → IsTrue (is_doing here state) → IsTrue (names_uuid here uuid) → IsTrue (is_opening state) × (uuid ≡ claim.uuid)
    opens_so state uuid does names = (opens_there here state moved does, one_uuid here uuid claim.uuid moved names (moves_it here a IsOpening claim.uuid still).2)

    -- ---- at the door

    -- unless its incarnation was fenced, that is up, and holds the UUID just where the line has claimed it and not let it go
    abbrev IsUpSo : Type 0
    IsUpSo = IsTrue (is_up (caller_of a) ran.trace.door) × (holds (caller_of a) claim.uuid ran.trace.door ≡ has_claim_at here)

    pub up_so : IsTrue (is_fenced (caller_of a) ran.trace.door) ⊎ IsUpSo
    up_so = elim (moved_by last a by mine (keeps_last.attempts a (keeps_last.movers by a mine))) [
      | inl gone ↦ inl (subst (λ (d : List DoorEntry). IsTrue (is_fenced (caller_of a) d)) door_last gone)
      | inr moving ↦
          let s = served a (node_state (last.node a.node)) (doing_there (last.at by) (doing last a) moving.1) in
          let serve : IsTrue (serves a.inc (node_state (last.node a.node))) = subst (λ (t : NodeState). IsTrue (serves a.inc t)) (sym s.1) (eq-eqb a.inc s.0.inc s.2) in
          elim (or_cases (is_up (caller_of a) last.door) (is_fenced (caller_of a) last.door) (serves_up asked ran goes steps [] at_end a.node a.inc serve)) [
            | inr gone ↦ inl (subst (λ (d : List DoorEntry). IsTrue (is_fenced (caller_of a) d)) door_last gone)
            | inl up ↦
                let held = moved_holds last (subst Legal (sym door_last) goes.door) keeps_last by a mine up in
                let does = subst (λ (p : Progress). IsTrue (is_doing p (doing last a))) at_last moving.1 in
                let names = subst (λ (p : Progress). IsTrue (names_uuid p (named last a))) at_last moving.2 in
                let same : named last a ≡ claim.uuid = (opens_so (doing last a) (named last a) does names).1 in
                inr (
                  subst (λ (d : List DoorEntry). IsTrue (is_up (caller_of a) d)) door_last up,
                  ap (holds (caller_of a) claim.uuid) (sym door_last) ∙ (ap (λ (u : List ℕ). holds (caller_of a) u last.door) (sym same) ∙ (held.1 ∙ ap has_claim_at at_last)),
                )
          ]
    ]

    pub free_so : way ≡ Unclaimed → release ≡ None → has_claim_at here ≡ false
    free_so none unreleased = unclaimed_free aim claim.node claim.uuid nodes its_ends claim.by a its_turns.before front here (subst (λ (w : Way). leads_to (asks aim claim.uuid claim.node) nodes its_ends (begun_turns claim.by claim.node claim.uuid a its_turns.before front w None) ≡ Some here) none (subst (λ (r : Option ℕ). leads_to (asks aim claim.uuid claim.node) nodes its_ends (begun_turns claim.by claim.node claim.uuid a its_turns.before front way r) ≡ Some here) unreleased led))

    pub holds_so : (way ≡ Unclaimed → ⊥) → release ≡ None → IsTrue (has_claim_at here)
    holds_so claimed unreleased = claimed_holds aim claim.node claim.uuid nodes its_ends claim.by a its_turns.before front way claimed here (subst (λ (r : Option ℕ). leads_to (asks aim claim.uuid claim.node) nodes its_ends (begun_turns claim.by claim.node claim.uuid a its_turns.before front way r) ≡ Some here) unreleased led)

    -- ---- at its node

    module _ (node : NodeView) (is_node : IsNode asked ran node) (own : claim.node ≡ node.number) where
      abbrev history : List NodeEntry
      history = node.history

      history_is : history_in a.node 1 ran.trace.nodes ≡ history
      history_is = ap (λ (n : ℕ). history_in n 1 ran.trace.nodes) (its_turns.admits.place ∙ own) ∙ (sym (same_history node.number 1 ran.trace.nodes) ∙ sym is_node.history)

      pub closes_so : MayClose (opens_begin a) claim.by history
      closes_so =
          subst (λ (o : Option NodeAct). IsTrue (act_passes (opens_begin a) o)) (sym last_is) (same_itself a)
        where
          number : node_of line.order hold ≡ node.number
          number = ap (λ (c : Command). node_of c hold) its.order ∙ (asks_at aim claim.uuid claim.node hold ∙ own)

          last_is : last_own claim.by history ≡ Some (acts.Admit a claim.uuid)
          last_is =
              ap (λ (b : By). last_own b history) its.by
              ∙ (ap (last_own by) (is_node.history ∙ ap (λ (n : ℕ). numbered_in n 1 ran.trace.nodes) (sym number))
              ∙ (driven.closing ∙ (ap last_act its_turns.turns ∙ come_last aim claim.node claim.uuid nodes its_ends claim.by a its_turns.before front way release)))

      -- the node has left its incarnation, or it opens, and is of the UUID
      pub ends_so : IsTrue (has_left a.inc (node_state history)) ⊎ (IsTrue (is_doing_there is_opening a history) × IsTrue (bytes_eq (uuid_of a (part history)) claim.uuid))
      ends_so = elim (cases_Bool (serves a.inc (node_state history))) [
        | inr gone ↦ inl (left_so gone (subst (λ (h : List NodeEntry). IsFalse (boots a.inc (node_state h))) history_is (unbooted_since asked ran stand driven.account line driven.may.among of here a position.1 at_here)))
        | inl serve ↦
            let there = moved_while_served asked ran stand driven.account line driven.may.among of here a position.1 at_here (subst (λ (h : List NodeEntry). IsTrue (serves a.inc (node_state h))) (sym history_is) serve) in
            let so = moves_it here a (attempt_state a (part history)) (uuid_of a (part history)) (subst (λ (h : List NodeEntry). IsTrue (moves here a (attempt_state a (part h)) (uuid_of a (part h)))) history_is there) in
            let opening = opens_so (attempt_state a (part history)) (uuid_of a (part history)) so.1 so.2 in
            inr (
              and_from (serves a.inc (node_state history)) (is_opening (attempt_state a (part history))) serve opening.0,
              subst (λ (u : List ℕ). IsTrue (bytes_eq u claim.uuid)) (sym opening.1) (bytes_eq-refl claim.uuid),
            )
      ]
        where
          left_so : IsFalse (serves a.inc (node_state history)) → IsFalse (boots a.inc (node_state history)) → IsTrue (has_left a.inc (node_state history))
          left_so unserved unbooted = ap (λ (b : Bool). not (b || boots a.inc (node_state history))) unserved ∙ ap not unbooted
