-- Where a line stops in the middle of its course by a turn that has seen the whole door, it has seen its incarnation fenced.
use Rattle.std.proofs.Common.{◌≡◌, ℕ, suc, Bool, true, false, ◌&&◌, ◌||◌, not, List, [], ◌∷◌, ◌++◌, take, length, refl, sym, ap, subst, ◌∙◌, ◌⊎◌, inl, inr, eqb, append-nil, arith}
use Rattle.std.specs.Prelude.{IsFalse, IsTrue, None, Option, Some, if◌then◌else◌}
use Rattle.std.specs.List.{list_any}
use Rattle.std.proofs.lemmas.Bool.{and_parts, cases_Bool, eq-eqb, eqb-true, not-true, or_cases, or_left, or_right, true≢false}
use Rattle.std.proofs.lemmas.List.{take_all}
use Rattle.std.proofs.lemmas.List.Sums.{fold-append}
use Rattle.aft_model.specs.declared.caller.Attempt.{Attempt}
use Rattle.aft_model.specs.declared.choice.Picked.TheVariants as picked
use Rattle.aft_model.specs.declared.door.DoorEntry.{DoorEntry}
use Rattle.aft_model.specs.declared.node.NodeAct.{NodeAct}
use Rattle.aft_model.specs.declared.node.NodeAct.TheVariants as acts
use Rattle.aft_model.specs.declared.node.NodeEntry.{NodeEntry}
use Rattle.aft_model.specs.declared.reply.Reply.{Reply}
use Rattle.aft_model.specs.declared.script.Command.{Command}
use Rattle.aft_model.specs.declared.script.Command.TheVariants as commands
use Rattle.aft_model.specs.declared.script.Line.{Line}
use Rattle.aft_model.specs.Attempts.{attempt_state, attempts, is_gone, uuid_of}
use Rattle.aft_model.specs.Claims.{holds}
use Rattle.aft_model.specs.LegalNode.{LegalNode}
use Rattle.aft_model.specs.Membership.{Incarnation, is_up}
use Rattle.aft_model.specs.NodeSights.{is_fenced}
use Rattle.aft_model.specs.NodeState.{IsServing, NodeState, boots, node_state, part, part_in, serves, service_in}
use Rattle.aft_model.proofs.Histories.{In, all_at, any_from, in_back}
use Rattle.aft_lines.specs.Advance.{advance, advanced, closed_by, got_with, leads_to}
use Rattle.aft_lines.specs.Asked.{Asked, Ran}
use Rattle.aft_lines.specs.CourseWords.{Ends, answers_down, caller_of}
use Rattle.aft_lines.specs.FinishedText.{line_of}
use Rattle.aft_lines.specs.GetCourse.{ends_get, loses}
use Rattle.aft_lines.specs.LineView.{LineView, ends_of, has_left}
use Rattle.aft_lines.specs.Lines.{lines, node_numbers}
use Rattle.aft_lines.specs.Progress.{Fetching, HasFetched, IsOver, NotBegun, Progress, Stopped, has_ended}
use Rattle.aft_lines.specs.RunsSoFar.{has_seen_fence, is_stopped_rightly, position_of, same_answer}
use Rattle.aft_lines.specs.Turns.{AtNode, Turn, end_front, front_in, turns}
use Rattle.aft_lines.specs.Views.{view_of}
use Rattle.law_attempts.proofs.Lives.{lives}
use Rattle.law_attempts.proofs.Standing.{first_within}
use Rattle.law_holders.specs.Rows.{is_of_attempt, is_of_node}
use Rattle.law_claims.specs.Doing.{attempt_at, has_claim_at, moves}
use Rattle.law_claims.proofs.Scenes.{doing_there, moves_it}
use Rattle.law_runs.specs.Runs.{Goes, run_steps, without_office}
use Rattle.law_runs.proofs.LegalRuns.{so_far_goes}
use Rattle.law_runs.proofs.Nodes.{nodes_rules}
use Rattle.law_runs.proofs.Walks.{stops_why}
use Rattle.law_steps.proofs.Histories.{door_is}
use Rattle.law_steps.specs.Histories.{history_in}
use Rattle.law_held.specs.Fetching.{Fetch, fetch_at}
use Rattle.law_held.specs.Standing.{is_get, part_of_node, stands_rightly, stands_with}
use Rattle.law_held.proofs.Stand.{lines_stand, node_all}
use Rattle.law_held.proofs.Starts.{ups_boot}
use Rattle.law_accounts.specs.Account.{Account, Stand}
use Rattle.law_accounts.specs.Adding.{AddsAtNode, numbered_in, with_added}
use Rattle.law_accounts.proofs.ComingUp.{UpOrFenced, comes_up}
use Rattle.law_accounts.proofs.NeverStops.{GoesOrEnds, never_stops}
use Rattle.law_accounts.proofs.Runs.{account_runs}
use Rattle.law_accounts.proofs.Stopping.{leads_same, of_one}

-- ---- a get that stops

-- why it stops, if it does: its attempt is that of its fetch, and its node has left the incarnation
abbrev StopsIf : Ends → Progress → ℕ → List NodeEntry → Option Progress → Type 0
StopsIf ends position at history None = Unit {0}
StopsIf ends position at history (Some (Stopped a)) = (f : Fetch) × (fetch_at position ≡ Some f) × (f.attempt ≡ a) × (a.node ≡ at) × IsTrue (ends.is_left a.inc (node_state history))
StopsIf ends position at history (Some next) = Unit {0}

module _ (ends : Ends) (at : ℕ) (history : List NodeEntry) (entry : NodeEntry) where
  abbrev this_turn : Turn
  this_turn = AtNode at history entry

  closed_stops : (position : Progress) (f : Fetch) → fetch_at position ≡ Some f → (test : NodeAct → Option Reply → Bool) → StopsIf ends position at history (closed_by ends f.attempt test this_turn)
  closed_stops position f is test = cases (eqb f.attempt.node at) refl (test entry.act entry.answer) (answers_down entry.act entry.answer && ends.is_left f.attempt.inc (node_state history)) refl
    where
      cases : (here : Bool) → eqb f.attempt.node at ≡ here → (passed left : Bool) → (answers_down entry.act entry.answer && ends.is_left f.attempt.inc (node_state history)) ≡ left
          → StopsIf ends position at history (if not here then None else if passed then Some IsOver else if left then Some (Stopped f.attempt) else None)
      cases false there passed left why = tt
      cases true there true left why = tt
      cases true there false true why = (f, is, refl, eqb-true f.attempt.node at there, (and_parts (answers_down entry.act entry.answer) (ends.is_left f.attempt.inc (node_state history)) why).1)
      cases true there false false why = tt

  picked_stops : (act : NodeAct) → StopsIf ends NotBegun at history (got_with act)
  picked_stops acts.Nothing = tt
  picked_stops (acts.Select a key (picked.Fetch id)) = tt
  picked_stops (acts.Select a key pick) = tt
  picked_stops act = tt

  get_stops : (key nodes : List ℕ) (position : Progress) → StopsIf ends position at history (advance (commands.Get key) nodes ends position this_turn)
  get_stops key nodes NotBegun = picked_stops entry.act
  get_stops key nodes (Fetching a its id) = closed_stops (Fetching a its id) (record { attempt = a; key = its; id = id }) refl (loses a its id)
  get_stops key nodes (HasFetched a its id place) = closed_stops (HasFetched a its id place) (record { attempt = a; key = its; id = id }) refl (ends_get a its id place)
  get_stops key nodes position = tt

get_so : (command : Command) → ((key : List ℕ) × (command ≡ commands.Get key)) ⊎ IsFalse (is_get command)
get_so (commands.Get key) = inl (key, refl)
get_so command = inr refl

-- a line that moves an attempt, or fetches for one, isn't over
moves_open : (position : Progress) (a : Attempt) → attempt_at position ≡ Some a → IsFalse (has_ended position)
moves_open IsOver a is = absurd (cc)
moves_open (Stopped b) a is = absurd (cc)
moves_open position a is = refl

fetches_open : (position : Progress) (f : Fetch) → fetch_at position ≡ Some f → IsFalse (has_ended position)
fetches_open IsOver f is = absurd (cc)
fetches_open (Stopped b) f is = absurd (cc)
fetches_open position f is = refl

-- ---- an attempt that is there

-- its node serves its incarnation
pub there_serves : (node capacity : ℕ) (history : List NodeEntry) (a : Attempt) → LegalNode node capacity history → IsFalse (is_gone (attempt_state a (part history))) → IsTrue (serves a.inc (node_state history))
there_serves node capacity history a legal there = by_state (node_state history) refl
  where
    nothing_there : part history ≡ [] → ⊥
    nothing_there none = true≢false (subst (λ (p : List NodeEntry). IsFalse (is_gone (attempt_state a p))) none there)

    by_state : (state : NodeState) → node_state history ≡ state → IsTrue (serves a.inc state)
    by_state (IsServing s) is =
        let stands = (lives node capacity history s legal is).stands in
        let listed = stands.listed a (subst (λ (p : List NodeEntry). IsFalse (is_gone (attempt_state a p))) (ap (λ (state : NodeState). part_in (service_in state)) is) there) in
        eq-eqb a.inc s.inc (first_within node s.inc (length (attempts s.part)) a (subst (λ (l : List Attempt). In a l) stands.numbered listed)).1
    by_state state is = absurd (nothing_there (ap (λ (state : NodeState). part_in (service_in state)) is))

-- the history of a number is that of the node
pub same_history : (number first : ℕ) (histories : List (List NodeEntry)) → numbered_in number first histories ≡ history_in number first histories
same_history number first [] = refl
same_history number first (history ∷ histories) = cases (eqb first number) refl (eqb number first) refl (same_history number (suc first) histories)
  where
    cases : (one : Bool) → eqb first number ≡ one → (other : Bool) → eqb number first ≡ other → numbered_in number (suc first) histories ≡ history_in number (suc first) histories
        → (if one then history else numbered_in number (suc first) histories) ≡ (if other then history else history_in number (suc first) histories)
    cases true is true also rest = refl
    cases false is false also rest = rest
    cases true is false also rest = absurd (true≢false (sym (eq-eqb number first (sym (eqb-true first number is))) ∙ also))
    cases false is true also rest = absurd (true≢false (sym (eq-eqb first number (sym (eqb-true number first also))) ∙ is))

-- ---- a turn that has seen the whole door

module _ (asked : Asked) (ran : Ran) (stand : Line → Stand) (line : Line) (node : ℕ) (entry : NodeEntry) (account : Account asked ran stand) (listed : In line (lines asked)) (front : entry.front ≡ length ran.trace.door) where
  abbrev new : Ran
  new = with_added (AddsAtNode node entry) ran

  abbrev history : List NodeEntry
  history = numbered_in node 1 ran.trace.nodes

  abbrev this : Turn
  this = AtNode node history entry

  abbrev before : List Turn
  before = turns (line_of line) ran.trace

  abbrev old : LineView
  old = view_of asked ran line

  abbrev view : LineView
  view = view_of asked new line

  abbrev nodes : List ℕ
  nodes = node_numbers asked.settings

  goes : Goes asked ran
  goes = so_far_goes asked ran (account_runs asked ran stand account)

  -- the state of an attempt's node
  abbrev there : Attempt → NodeState
  there a = node_state (history_in a.node 1 ran.trace.nodes)

  -- a node that has left an incarnation doesn't boot or serve it
  not_there : (a : Attempt) → a.node ≡ node → IsTrue (has_left a.inc (node_state history)) → IsFalse (boots a.inc (there a) || serves a.inc (there a))
  not_there a its left =
      cases (serves a.inc (there a)) (boots a.inc (there a)) (not-true (serves a.inc (there a) || boots a.inc (there a)) (subst (λ (h : List NodeEntry). IsTrue (has_left a.inc (node_state h))) (same_history node 1 ran.trace.nodes ∙ ap (λ (n : ℕ). history_in n 1 ran.trace.nodes) (sym its)) left))
    where
      cases : (one other : Bool) → (one || other) ≡ false → (other || one) ≡ false
      cases true other is = absurd (true≢false is)
      cases false true is = is
      cases false false is = is

  -- so who came up was fenced
  left_fenced : (a : Attempt) → a.node ≡ node → IsTrue (has_left a.inc (node_state history)) → IsTrue (is_of_node (caller_of a)) → UpOrFenced (caller_of a) ran.trace.door → IsTrue (is_fenced (caller_of a) ran.trace.door)
  left_fenced a its left of came = elim (or_cases (is_up (caller_of a) ran.trace.door) (is_fenced (caller_of a) ran.trace.door) came) [
    | inr gone ↦ gone
    | inl up ↦ absurd (true≢false (sym (still up) ∙ not_there a its left))
  ]
    where
      still : IsTrue (is_up (caller_of a) ran.trace.door) → IsTrue (boots a.inc (there a) || serves a.inc (there a))
      still up =
          subst (λ (h : List NodeEntry). IsTrue (boots a.inc (node_state h) || serves a.inc (node_state h))) (node_all asked ran goes account.differ a.node)
          (ups_boot asked ran goes (run_steps ran) [] (sym (append-nil (run_steps ran))) a.node a.inc of
          (subst (λ (d : List DoorEntry). IsTrue (is_up (caller_of a) d)) (sym (door_is (without_office ran.trace))) up))

  -- ---- a line that moves its attempt

  -- whether its attempt does what a position asks
  abbrev does : Progress → Attempt → Bool
  does position a = moves position a (attempt_state a (part_of_node a.node ran)) (uuid_of a (part_of_node a.node ran))

  mover_fenced : (position : Progress) (a : Attempt) → IsTrue (is_of_attempt line.order) → position_of old ≡ Some position → attempt_at position ≡ Some a → a.node ≡ node → IsTrue (has_left a.inc (node_state history)) → IsTrue (is_fenced (caller_of a) ran.trace.door)
  mover_fenced position a of is at its left = elim (or_cases (not (is_of_attempt line.order)) (stands_rightly ran (position_of old)) stands) [
    | inl other ↦ absurd (true≢false (sym of ∙ not-true (is_of_attempt line.order) other))
    | inr so ↦ by_stand (subst (λ (o : Option Attempt). IsTrue (stands_with ran position o)) at (subst (λ (o : Option Progress). IsTrue (stands_rightly ran o)) is so))
  ]
    where
      stands : IsTrue (not (is_of_attempt line.order) || stands_rightly ran (position_of old))
      stands = all_at (λ (l : Line). not (is_of_attempt l.order) || stands_rightly ran (position_of (view_of asked ran l))) line (lines asked) listed (lines_stand asked ran goes account.differ)

      serve : IsTrue (does position a) → IsTrue (serves a.inc (there a))
      serve so =
          there_serves a.node asked.settings.cache (history_in a.node 1 ran.trace.nodes) a (nodes_rules a.node 1 asked.settings.cache ran.trace.door ran.trace.nodes account.nodes).0
          (doing_there position (attempt_state a (part_of_node a.node ran)) (moves_it position a (attempt_state a (part_of_node a.node ran)) (uuid_of a (part_of_node a.node ran)) so).1)

      by_stand : IsTrue (stands_with ran position (Some a)) → IsTrue (is_fenced (caller_of a) ran.trace.door)
      by_stand so = elim (or_cases (is_fenced (caller_of a) ran.trace.door) (does position a && same_answer (holds (caller_of a) (uuid_of a (part_of_node a.node ran)) ran.trace.door) (has_claim_at position)) so) [
        | inl gone ↦ gone
        | inr moved ↦
            absurd (true≢false (sym (or_right (boots a.inc (there a)) (serves a.inc (there a)) (serve (and_parts (does position a) _ moved).0)) ∙ not_there a its left))
      ]

  -- ---- behind the turn

  module _ (turned : turns (line_of line) new.trace ≡ before ++ this ∷ []) where
    seen_front : end_front view.turns ≡ length ran.trace.door
    seen_front = ap (λ (l : List Turn). end_front l) turned ∙ (fold-append (λ (n : ℕ) (turn : Turn). front_in turn) 0 before (this ∷ []) ∙ front)

    all_door : take (length ran.trace.door) ran.trace.door ≡ ran.trace.door
    all_door = take_all (length ran.trace.door) ran.trace.door (omega arith)

    sees_door : take entry.front view.seen ≡ ran.trace.door
    sees_door = ap (λ (n : ℕ). take n view.seen) front ∙ (ap (λ (n : ℕ). take (length ran.trace.door) (take n ran.trace.door)) seen_front ∙ (ap (take (length ran.trace.door)) all_door ∙ all_door))

    fence_seen : (who : Incarnation) → IsTrue (is_fenced who ran.trace.door) → IsTrue (list_any (has_seen_fence who view.seen) view.turns)
    fence_seen who gone =
        any_from (has_seen_fence who view.seen) this view.turns (subst (λ (l : List Turn). In this l) (sym turned) (in_back this before (this ∷ []) (inl refl)))
        (subst (λ (d : List DoorEntry). IsTrue (is_fenced who d)) (sym sees_door) gone)

    -- where it was before
    was_at : (position : Progress) → IsTrue (of_one line.order) → leads_to line.order nodes (ends_of view) before ≡ Some position → IsFalse (has_ended position) → position_of old ≡ Some position
    was_at position of is ongoing = leads_same line.order nodes (ends_of view) (ends_of old) of before NotBegun position is ongoing

    module _ (position : Progress) (is : leads_to line.order nodes (ends_of view) before ≡ Some position) (a : Attempt) (stops : advance line.order nodes (ends_of view) position this ≡ Some (Stopped a)) where
      mover_stops : IsTrue (is_of_attempt line.order) → IsTrue (is_fenced (caller_of a) ran.trace.door)
      mover_stops of =
          let why = stops_why line.order nodes (ends_of view) of position node history entry a stops in
          elim why.2 [
            | inl left ↦ mover_fenced position a of (was_at position (or_left (is_of_attempt line.order) (is_get line.order) of) is (moves_open position a why.0)) why.0 why.1 left
            | inr shut ↦ subst (λ (d : List DoorEntry). IsTrue (is_fenced (caller_of a) d)) sees_door shut
          ]

      get_fenced : (key : List ℕ) → line.order ≡ commands.Get key → IsTrue (is_fenced (caller_of a) ran.trace.door)
      get_fenced key gets =
          let why : StopsIf (ends_of view) position node history (Some (Stopped a)) =
          subst (StopsIf (ends_of view) position node history) (ap (λ (c : Command). advance c nodes (ends_of view) position this) (sym gets) ∙ stops) (get_stops (ends_of view) node history entry key nodes position) in
          let of : IsTrue (of_one line.order) = subst (λ (c : Command). IsTrue (of_one c)) (sym gets) refl in
          let came = comes_up asked ran goes account.differ line listed key gets position (was_at position of is (fetches_open position why.0 why.1)) why.0 why.1 in
          left_fenced a why.3 why.4 (subst (λ (b : Attempt). IsTrue (is_of_node (caller_of b))) why.2 came.0) (subst (λ (b : Attempt). UpOrFenced (caller_of b) ran.trace.door) why.2 came.1)

      by_kind : IsFalse (is_of_attempt line.order) → ((key : List ℕ) × (line.order ≡ commands.Get key)) ⊎ IsFalse (is_get line.order) → IsTrue (is_fenced (caller_of a) ran.trace.door)
      by_kind other (inl get) = get_fenced get.0 get.1
      by_kind other (inr neither) = absurd (subst GoesOrEnds stops (never_stops (ends_of view) line.order nodes position this (ap (λ (b : Bool). b || is_get line.order) other ∙ neither)))

      stop_fenced : IsTrue (is_fenced (caller_of a) ran.trace.door)
      stop_fenced = elim (cases_Bool (is_of_attempt line.order)) [ inl of ↦ mover_stops of | inr other ↦ by_kind other (get_so line.order) ]

    abbrev Rightly : Option Progress → Type 0
    Rightly o = IsTrue (is_stopped_rightly view.seen view.turns o)

    by_next : (position : Progress) → leads_to line.order nodes (ends_of view) before ≡ Some position → (o : Option Progress) → advance line.order nodes (ends_of view) position this ≡ o → Rightly o
    by_next position is None goes_to = refl
    by_next position is (Some (Stopped a)) goes_to = fence_seen (caller_of a) (stop_fenced position is a goes_to)
    by_next position is (Some next) goes_to = refl

    by_position : (o : Option Progress) → leads_to line.order nodes (ends_of view) before ≡ o → Rightly (advanced (advance line.order nodes (ends_of view)) o this)
    by_position None is = refl
    by_position (Some position) is = by_next position is (advance line.order nodes (ends_of view) position this) refl

    pub stops_seen : Rightly (position_of view)
    stops_seen =
        subst Rightly (sym (ap (leads_to line.order nodes (ends_of view)) turned ∙ fold-append (advanced (advance line.order nodes (ends_of view))) (Some NotBegun) before (this ∷ [])))
        (by_position (leads_to line.order nodes (ends_of view) before) refl)
