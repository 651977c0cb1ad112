-- A line that answers that a node is down comes behind a crash of the node.
use Rattle.std.proofs.Common.{◌≡◌, ℕ, zero, suc, ◌+◌, ◌<◌, ◌≤◌, Bool, true, ◌&&◌, ◌||◌, not, List, [], ◌∷◌, ◌++◌, length, refl, sym, ap, subst, ◌∙◌, ◌⊎◌, inl, inr, eqb, ltb, arith}
use Rattle.std.specs.Prelude.{IsFalse, IsTrue, None, Option, Some, drop, filter, is_some, take}
use Rattle.std.specs.List.{flat_map, last_or, list_all}
use Rattle.std.proofs.lemmas.Bool.{and_parts, eq-eqb, eqb-true, false≢true, leb-true, ltb-true, or_cases}
use Rattle.std.proofs.lemmas.List.Sums.{fold-append}
use Rattle.aft_model.specs.declared.caller.Attempt.{Attempt}
use Rattle.aft_model.specs.declared.caller.By.{By}
use Rattle.aft_model.specs.declared.caller.Hold.{Hold}
use Rattle.aft_model.specs.declared.door.DoorAct.{DoorAct}
use Rattle.aft_model.specs.declared.door.DoorAct.TheVariants.{Fence}
use Rattle.aft_model.specs.declared.door.DoorEntry.{DoorEntry}
use Rattle.aft_model.specs.declared.node.NodeAct.{NodeAct}
use Rattle.aft_model.specs.declared.node.NodeAct.TheVariants as acts
use Rattle.aft_model.specs.declared.node.NodeEntry.{NodeEntry}
use Rattle.aft_model.specs.declared.reply.Reply.{Reply}
use Rattle.aft_model.specs.declared.reply.Reply.TheVariants.{Joined, NodeDown}
use Rattle.aft_model.specs.declared.script.Command.{Command}
use Rattle.aft_model.specs.declared.script.Command.TheVariants as commands
use Rattle.aft_model.specs.declared.script.Line.{Line}
use Rattle.aft_model.specs.Attempts.{attempts, is_gone, attempt_state, is_of, present, present_of, same_attempt}
use Rattle.aft_model.specs.History.{first_of}
use Rattle.aft_model.specs.LegalNode.{LegalNode, front}
use Rattle.aft_model.specs.Membership.{Incarnation, fenced, fenced_in, incarnation, same_incarnation}
use Rattle.aft_model.specs.NodeSights.{is_fenced}
use Rattle.aft_model.specs.NodeState.{IsBooting, IsDown, IsServing, NodeState, boots, newest, node_state, part, part_in, serves, service_in}
use Rattle.aft_model.proofs.Histories.{In, all_at, any_found, in_append, in_back, in_flat_map, in_front}
use Rattle.aft_model.proofs.Lists.{in_filter}
use Rattle.aft_model.proofs.OneCommit.{same_who}
use Rattle.aft_lines.specs.Asked.{Asked, Ran}
use Rattle.aft_lines.specs.BackupCourse.{copier}
use Rattle.aft_lines.specs.Causes.{cause}
use Rattle.aft_lines.specs.CausesAttempts.{speaks_of_attempt}
use Rattle.aft_lines.specs.CausesNodes.{crashes, is_down_by, is_lost, is_newest_at, is_of_held, is_shut_out, is_unbooted, is_unserved}
use Rattle.aft_lines.specs.CourseWords.{Ends}
use Rattle.aft_lines.specs.FinishedText.{answers_of, line_of}
use Rattle.aft_lines.specs.LegalTrace.{LegalTrace, named_node, stands_at}
use Rattle.aft_lines.specs.LineCourse.{answers_last, follows_course, keeps_course, start_course}
use Rattle.aft_lines.specs.LineView.{LineView, NodeTurn, behind_turn, ends_of, is_silent_turn, last_front, newest_here, node_turn_in, node_turns, went_on}
use Rattle.aft_lines.specs.Lines.{attempt_by, attempt_of, begins, begun_at, earlier_lines, hold_after, last_begin, lines, node_numbers}
use Rattle.aft_lines.specs.Turns.{AtDoor, AtNode, AtOffice, Turn, answer_in, door_turns, end_front, front_in, moment, nodes_turns, office_turns, turns}
use Rattle.aft_lines.specs.Views.{view_of}
use Rattle.law_attempts.proofs.Lives.{lives}
use Rattle.law_attempts.proofs.Newest.{acts_of_own}
use Rattle.law_attempts.proofs.Standing.{first_within, same_itself}
use Rattle.law_attempts.specs.Acts.{acts_on}
use Rattle.law_runs.proofs.Come.{fenced_later}
use Rattle.law_runs.proofs.LegalRuns.{legal_goes}
use Rattle.law_runs.proofs.Members.{in_turns}
use Rattle.law_runs.specs.Runs.{Goes}
use Rattle.law_held.specs.Copies.{is_crash}
use Rattle.law_held.proofs.ComesUp.{node_low}
use Rattle.law_held.proofs.Fetches.{any_more}
use Rattle.law_turns.proofs.Sorting.{sorted_ascends}
use Rattle.law_turns.specs.Order.{moments_ascend}
use Rattle.law_steps.specs.OneList.{entries_of}
use Rattle.law_copies.proofs.Taken.{comes_first}
use Rattle.law_losses.specs.Crashed.{CrashedIn}
use Rattle.law_losses.proofs.Downs.{done_of, fence_seen, is_down, never_boots, newest_behind, went_down}
use Rattle.law_losses.proofs.Fences.{fenced_by_crash, turn_of_entry}
use Rattle.law_losses.proofs.Standing.{Stands, behind_earlier, booted, lawful_behind, served, stands}

-- ---- lists

in_take : {A : Type 0} (x : A) (n : ℕ) (xs : List A) → In x (take n xs) → In x xs
in_take x zero xs among = absurd among
in_take x (suc n) [] among = absurd among
in_take x (suc n) (y ∷ xs) (inl is) = inl is
in_take x (suc n) (y ∷ xs) (inr later) = inr (in_take x n xs later)

first_some : {A : Type 0} (xs : List A) (x : A) → In x xs → (f : A) × (first_of xs ≡ Some f) × In f xs
first_some [] x none = absurd none
first_some (y ∷ xs) x among = (y, refl, inl refl)

first_in : {A : Type 0} (xs : List A) (x : A) → first_of xs ≡ Some x → In x xs
first_in [] x is = absurd (cc)
first_in (y ∷ xs) x is = inl (let e : x ≡ y = cc in e)

last_in : {A : Type 0} (xs : List A) (before : Option A) (x : A) → last_or before xs ≡ Some x → In x xs ⊎ (before ≡ Some x)
last_in [] before x is = inr is
last_in (y ∷ xs) before x is = elim (last_in xs (Some y) x is) [
  | inl later ↦ inl (inr later)
  | inr here ↦ inl (inl (let e : x ≡ y = cc in e))
]

-- ---- turns

went_first : (ts : List NodeTurn) → IsTrue (is_silent_turn (first_of ts)) → (f : NodeTurn) × In f ts
went_first [] is = absurd (false≢true is)
went_first (t ∷ ts) is = (t, inl refl)

-- the last turn answers, and has seen what all others have
record Ending (line : List Turn) : Type 0 where
  pub first : List Turn
  pub last : Turn
  pub is : line ≡ first ++ last ∷ []
  pub sees : moment last ≡ front_in last + front_in last

ends : (line : List Turn) → IsTrue (answers_last line) → Ending line
ends [] is = absurd (false≢true is)
ends (turn ∷ []) is = record { first = []; last = turn; is = refl; sees = by_turn turn is }
  where
    by_turn : (t : Turn) → IsTrue (is_some (answer_in t)) → moment t ≡ front_in t + front_in t
    by_turn (AtDoor place act) none = absurd (false≢true none)
    by_turn (AtNode at before entry) some = refl
    by_turn (AtOffice before entry) some = refl
ends (turn ∷ next ∷ line) is =
    let rest = ends (next ∷ line) (and_parts (not (is_some (answer_in turn))) (answers_last (next ∷ line)) is).1 in
    record { first = turn ∷ rest.first; last = rest.last; is = ap (λ (l : List Turn). turn ∷ l) rest.is; sees = rest.sees }

front_within : (line : List Turn) → IsTrue (answers_last line) → IsTrue (moments_ascend line) → (at : ℕ) (before : List NodeEntry) (entry : NodeEntry) → In (AtNode at before entry) line → entry.front ≤ end_front line
front_within line answers up at before entry among =
    let end = ends line answers in
    let last : end_front line ≡ front_in end.last = ap end_front end.is ∙ fold-append (λ (b : ℕ) (t : Turn). front_in t) 0 end.first (end.last ∷ []) in
    let sees : moment end.last ≡ front_in end.last + front_in end.last = end.sees in
    elim (in_append (AtNode at before entry) end.first (end.last ∷ []) (subst (In (AtNode at before entry)) end.is among)) [
      | inl early ↦ (let le : entry.front + entry.front ≤ moment end.last = comes_first end.first (end.last ∷ []) (subst (λ (l : List Turn). IsTrue (moments_ascend l)) end.is up) (AtNode at before entry) end.last early (inl refl) in omega arith)
      | inr it ↦ elim it [ inl same ↦ (let e : entry.front ≡ front_in end.last = ap front_in same in omega arith) | inr none ↦ absurd none ]
    ]

-- a start whose turns at its node go on behind the first began a boot there
start_began : (rest : Ends) (line : List Turn) (t : NodeTurn) → IsTrue (start_course rest line) → In t (drop 1 (flat_map node_turn_in line)) → (at : ℕ) × (before : List NodeEntry) × (entry : NodeEntry) × (inc : ℕ) × In (AtNode at before entry) line × (entry.act ≡ acts.Booting inc)
start_began rest (AtNode at before entry ∷ line) t course more = by_act entry.act refl line course more
  where
    by_act : (act : NodeAct) → entry.act ≡ act → (l : List Turn) → IsTrue (start_course rest (AtNode at before (record entry { act = act }) ∷ l)) → In t (flat_map node_turn_in l) → (n : ℕ) × (b : List NodeEntry) × (e : NodeEntry) × (inc : ℕ) × In (AtNode n b e) (AtNode at before entry ∷ l) × (e.act ≡ acts.Booting inc)
    by_act (acts.Booting inc) is l so there = (at, before, entry, inc, inl refl, is)
    by_act acts.Nothing is [] so there = absurd there
    by_act acts.Nothing is (x ∷ l) so there = absurd (false≢true so)
    by_act act is l so there = absurd (false≢true so)
start_began rest line t course more = absurd (false≢true course)

-- ---- the attempt that a begin gives

attempt_there : (line : List Turn) (a : Attempt) → attempt_of line ≡ Some a → (at : ℕ) × (before : List NodeEntry) × (entry : NodeEntry) × In (AtNode at before entry) line × (attempt_by before entry.act entry.answer ≡ Some a)
attempt_there [] a is = absurd (let no : None ≡ Some a = is in cc)
attempt_there (AtNode at before entry ∷ []) a is = (at, before, entry, inl refl, is)
attempt_there (AtNode at before entry ∷ turn ∷ line) a is = (let rest = attempt_there (turn ∷ line) a is in (rest.0, rest.1, rest.2, inr rest.3, rest.4))
attempt_there (AtDoor place act ∷ line) a is = (let rest = attempt_there line a is in (rest.0, rest.1, rest.2, inr rest.3, rest.4))
attempt_there (AtOffice before entry ∷ line) a is = (let rest = attempt_there line a is in (rest.0, rest.1, rest.2, inr rest.3, rest.4))

module _ (node capacity : ℕ) (a : Attempt) (before : List NodeEntry) (entry : NodeEntry) (legal : LegalNode node capacity before) (behind : LegalNode node capacity (before ++ entry ∷ [])) where
  present_own : (uuid : List ℕ) (state : NodeState) → node_state before ≡ state → In a (present_of uuid (part_in (service_in state))) → (a.node ≡ node) × IsTrue (serves a.inc state)
  present_own uuid IsDown is none = absurd none
  present_own uuid (IsBooting inc running) is none = absurd none
  present_own uuid (IsServing s) is among =
      let there = (in_filter (is_of uuid s.part) a (present s.part) among).0 in
      let admitted = (in_filter (λ (b : Attempt). not (is_gone (attempt_state b s.part))) a (attempts s.part) there).0 in
      let its = first_within node s.inc (length (attempts s.part)) a (subst (In a) (lives node capacity before s legal is).stands.numbered admitted) in
      (its.0, eq-eqb a.inc s.inc its.1)

  attempt_own : (act : NodeAct) (answer : Option Reply) → entry.act ≡ act → attempt_by before act answer ≡ Some a → (a.node ≡ node) × IsTrue (serves a.inc (node_state before))
  attempt_own (acts.Begin b) answer does is = acts_of_own node capacity a before entry behind (subst (λ (act : NodeAct). IsTrue (acts_on a act)) (sym does) (let e : b ≡ a = cc in subst (λ (c : Attempt). IsTrue (same_attempt a c)) (sym e) (same_itself a)))
  attempt_own act (Some (Joined uuid)) does is = present_own uuid (node_state before) refl (first_in (present_of uuid (part before)) a is)
  attempt_own act answer does is = absurd (let no : None ≡ Some a = is in cc)

-- a node serves one incarnation
one_serves : (state : NodeState) (i j : ℕ) → IsTrue (serves i state) → IsTrue (serves j state) → i ≡ j
one_serves (IsServing s) i j one other = eqb-true i s.inc one ∙ sym (eqb-true j s.inc other)
one_serves IsDown i j one other = absurd (false≢true one)
one_serves (IsBooting inc running) i j one other = absurd (false≢true one)

-- a begin names its node
names : (command : Command) (hold : Hold) → IsTrue (begins command) → named_node command hold ≡ Some (begun_at command)
names (commands.Begin uuid node) hold is = refl
names command hold is = absurd (false≢true is)

-- ---- a legal trace

its_fence : (act : DoorAct) (who : Incarnation) → In who (fenced_in act) → act ≡ Fence who.node who.inc
its_fence (Fence node inc) who (inl is) = ap (λ (w : Incarnation). Fence w.node w.inc) (sym is)
its_fence (Fence node inc) who (inr none) = absurd none
its_fence act who none = absurd none

asks_for : (command : Command) (hold : Hold) (place node inc : ℕ) → IsTrue (is_crash command) → IsTrue (stands_at (named_node command hold) (AtDoor place (Fence node inc))) → IsTrue (crashes node command)
asks_for (commands.Crash home) hold place node inc crash at = eq-eqb node home (sym (eqb-true home node at))
asks_for command hold place node inc crash at = absurd (false≢true crash)

module _ (asked : Asked) (ran : Ran) (legal : LegalTrace asked ran) where
  abbrev goes : Goes asked ran
  goes = legal_goes asked ran legal

  at_its_node : (line : Line) → In line (lines asked) → (turn : Turn) → In turn (turns (line_of line) ran.trace) → IsTrue (stands_at (named_node line.order (view_of asked ran line).hold) turn)
  at_its_node line listed turn among = all_at (stands_at (named_node line.order (view_of asked ran line).hold)) turn (turns (line_of line) ran.trace) among (all_at (λ (l : Line). list_all (stands_at (named_node l.order (view_of asked ran l).hold)) (turns (line_of l) ran.trace)) line (lines asked) listed legal.places)

  home_is : (line : Line) → In line (lines asked) → (home : ℕ) → named_node line.order (view_of asked ran line).hold ≡ Some home → (at : ℕ) (before : List NodeEntry) (entry : NodeEntry) → In (AtNode at before entry) (turns (line_of line) ran.trace) → at ≡ home
  home_is line listed home named at before entry among = sym (eqb-true home at (subst (λ (o : Option ℕ). IsTrue (stands_at o (AtNode at before entry))) named (at_its_node line listed (AtNode at before entry) among)))

  -- whoever is fenced was crashed
  crashed : (who : Incarnation) (seen more : List DoorEntry) → ((e : DoorEntry) → In e seen → In e more) → ((e : DoorEntry) → In e seen → In e ran.trace.door) → IsTrue (is_fenced who seen) → IsFalse (eqb who.node copier) → CrashedIn asked who.node more
  crashed who seen more within stands_there gone other =
      let found = any_found (same_incarnation who) (fenced seen) gone in
      let at = in_flat_map (λ (e : DoorEntry). fenced_in e.act) found.0 seen found.1 in
      by_entry at.0 at.1 (subst (λ (w : Incarnation). at.0.act ≡ Fence w.node w.inc) (sym (same_who who found.0 found.2)) (its_fence at.0.act found.0 at.2))
    where
      by_entry : (e : DoorEntry) → In e seen → e.act ≡ Fence who.node who.inc → CrashedIn asked who.node more
      by_entry e there does =
          let its = fenced_by_crash asked ran goes e who.node who.inc (stands_there e there) does other in
          let turn = turn_of_entry e 0 ran.trace.door (stands_there e there) in
          let among : In (AtDoor turn.0 e.act) (turns e.by ran.trace) =
          in_turns e.by ran.trace (AtDoor turn.0 e.act)
          (in_front (AtDoor turn.0 e.act) (nodes_turns e.by 1 ran.trace.nodes ++ door_turns e.by 0 ran.trace.door) (office_turns e.by [] ran.trace.office) (in_back (AtDoor turn.0 e.act) (nodes_turns e.by 1 ran.trace.nodes) (door_turns e.by 0 ran.trace.door) turn.1)) in
          record {
            crash = its.0;
            listed = its.1;
            asks = asks_for its.0.order (view_of asked ran its.0).hold turn.0 who.node who.inc its.3
                (subst (λ (act : DoorAct). IsTrue (stands_at (named_node its.0.order (view_of asked ran its.0).hold) (AtDoor turn.0 act))) does
                (at_its_node its.0 its.1 (AtDoor turn.0 e.act) (subst (λ (by : By). In (AtDoor turn.0 e.act) (turns by ran.trace)) (sym its.2) among)));
            inc = who.inc;
            fence = e;
            among = within e there;
            does = does;
            by = its.2;
          }

  module _ (line : Line) (listed : In line (lines asked)) where
    abbrev view : LineView
    view = view_of asked ran line

    course : IsTrue (answers_last view.turns) × IsTrue (follows_course line.order (node_numbers asked.settings) (ends_of view) view.turns)
    course = and_parts (answers_last view.turns) (follows_course line.order (node_numbers asked.settings) (ends_of view) view.turns) (all_at (λ (l : Line). keeps_course l.order (node_numbers asked.settings) (ends_of (view_of asked ran l)) (turns (line_of l) ran.trace)) line (lines asked) listed legal.courses)

    in_door : (e : DoorEntry) → In e view.seen → In e ran.trace.door
    in_door e there = in_take e (end_front view.turns) ran.trace.door there

    -- a turn whose node had gone down comes behind a crash
    fallen : (at : ℕ) (history : List NodeEntry) (entry : NodeEntry) → In (AtNode at history entry) view.turns → Stands asked ran legal (line_of line) at history entry → IsTrue (went_down history) → CrashedIn asked at view.seen
    fallen at history entry among its down =
        let it = fence_seen at asked.settings.cache ran.trace.door history its.lawful its.seen down in
        let low : it.front ≤ front history = it.low in
        let rule : front history ≤ entry.front = leb-true (front history) entry.front (done_of at asked.settings.cache history entry its.rule).0 in
        let end : entry.front ≤ end_front view.turns = front_within view.turns course.0 (sorted_ascends [] (entries_of (line_of line) ran.trace) refl) at history entry among in
        crashed (incarnation at it.inc) view.seen view.seen (λ e there. there) in_door (fenced_later (incarnation at it.inc) it.front (end_front view.turns) ran.trace.door (omega arith) it.fenced) (node_low asked ran goes (line_of line) at history entry among)

    module _ (home : ℕ) (named : named_node line.order view.hold ≡ Some home) where
      there : (t : NodeTurn) → In t (node_turns view) → In (AtNode home t.before t.entry) view.turns
      there t among =
          let x = in_flat_map node_turn_in t view.turns among in
          by_turn x.0 x.1 x.2
        where
          by_turn : (x : Turn) → In x view.turns → In t (node_turn_in x) → In (AtNode home t.before t.entry) view.turns
          by_turn (AtNode at before entry) its (inl is) =
              let here : In (AtNode at t.before t.entry) view.turns = subst (λ (u : NodeTurn). In (AtNode at u.before u.entry) view.turns) (sym is) its in
              subst (λ (n : ℕ). In (AtNode n t.before t.entry) view.turns) (home_is line listed home named at t.before t.entry here) here
          by_turn (AtNode at before entry) its (inr none) = absurd none
          by_turn (AtDoor place act) its none = absurd none
          by_turn (AtOffice before entry) its none = absurd none

      its_stand : (t : NodeTurn) → In t (node_turns view) → Stands asked ran legal (line_of line) home t.before t.entry
      its_stand t among = stands asked ran legal (line_of line) home t.before t.entry (there t among)

      module _ (numbered : In home (node_numbers asked.settings)) where
        abbrev first_inc : ℕ
        first_inc = booted asked ran legal home numbered

        serves_or : (t : NodeTurn) → In t (node_turns view) → CrashedIn asked home view.seen ⊎ IsTrue (serves first_inc (node_state t.before))
        serves_or t among = elim (served asked ran legal home numbered line listed t.before t.entry (its_stand t among)) [
          | inl down ↦ inl (fallen home t.before t.entry (there t among) (its_stand t among) down)
          | inr serve ↦ inr serve
        ]

        unserved : (inc : ℕ) (t : NodeTurn) → In t (node_turns view) → IsTrue (not (serves inc (node_state t.before))) → CrashedIn asked home view.seen ⊎ ((inc ≡ first_inc) → ⊥)
        unserved inc t among un = elim (serves_or t among) [
          | inl crash ↦ inl crash
          | inr serve ↦ inr (λ is. false≢true (subst (λ (b : Bool). IsTrue (not b)) (subst (λ (i : ℕ). serves i (node_state t.before) ≡ true) (sym is) serve) un))
        ]

        newest_or : (t : NodeTurn) → In t (node_turns view) → CrashedIn asked home view.seen ⊎ (newest_here view ≡ first_inc)
        newest_or t among = (let f = first_some (node_turns view) t among in elim (serves_or f.0 f.2) [
          | inl crash ↦ inl crash
          | inr serve ↦ inr (ap (λ (o : Option NodeTurn). newest (behind_turn o)) f.1 ∙ newest_behind home asked.settings.cache first_inc f.0.before f.0.entry (its_stand f.0 f.2).lawful (its_stand f.0 f.2).rule serve)
        ])

      -- a line that finds its newest incarnation unserved
      down_newest : (who : Incarnation) → IsTrue (is_newest_at who home view) → (t : NodeTurn) → In t (node_turns view) → IsTrue (not (serves who.inc (node_state t.before))) → CrashedIn asked home view.seen
      down_newest who of t among un =
          let numbered = (its_stand t among).numbered in
          elim (unserved numbered who.inc t among un) [
            | inl crash ↦ crash
            | inr other ↦ elim (newest_or numbered t among) [
              | inl crash ↦ crash
              | inr is ↦ absurd (other (eqb-true who.inc (newest_here view) (and_parts (eqb who.node home) (eqb who.inc (newest_here view)) of).1 ∙ is))
            ]
          ]

      shut_out : (who : Incarnation) → who.node ≡ home → IsTrue (is_shut_out who view) → CrashedIn asked home view.seen
      shut_out who at is =
          let parts = and_parts (went_on view) (is_fenced who (take (last_front view) view.seen)) is in
          let f = went_first (node_turns view) parts.0 in
          subst (λ (n : ℕ). CrashedIn asked n view.seen) at
          (crashed who (take (last_front view) view.seen) view.seen (λ e among. in_take e (last_front view) view.seen among) (λ e among. in_door e (in_take e (last_front view) view.seen among)) parts.1
          (subst (λ (n : ℕ). IsFalse (eqb n copier)) (sym at) (node_low asked ran goes (line_of line) home f.0.before f.0.entry (there f.0 f.1))))

      lost_newest : (who : Incarnation) → IsTrue (is_newest_at who home view && is_lost who view) → CrashedIn asked home view.seen
      lost_newest who is =
          let parts = and_parts (is_newest_at who home view) (is_lost who view) is in
          elim (or_cases (is_unserved who.inc (node_turns view)) (is_shut_out who view) parts.1) [
            | inl un ↦ (let t = any_found (λ (x : NodeTurn). not (serves who.inc (node_state x.before))) (node_turns view) un in down_newest who parts.0 t.0 t.1 t.2)
            | inr shut ↦ shut_out who (eqb-true who.node home (and_parts (eqb who.node home) (eqb who.inc (newest_here view)) parts.0).0) shut
          ]

    -- a start that finds its boot gone
    start_down : (node : ℕ) → line.order ≡ commands.Start node → (who : Incarnation) → IsTrue (is_unbooted who.inc (drop 1 (node_turns view))) → CrashedIn asked node view.seen
    start_down node order who un =
        let t = any_found (λ (x : NodeTurn). not (boots who.inc (node_state x.before))) (drop 1 (node_turns view)) un in
        let began = start_began (ends_of view) view.turns t.0 (subst (λ (c : Command). IsTrue (follows_course c (node_numbers asked.settings) (ends_of view) view.turns)) order course.1) t.1 in
        let its = stands asked ran legal (line_of line) began.0 began.1 began.2 began.4 in
        subst (λ (n : ℕ). CrashedIn asked n view.seen) (home_is line listed node (ap (λ (c : Command). named_node c view.hold) order) began.0 began.1 began.2 began.4)
        (elim (served asked ran legal began.0 its.numbered line listed began.1 began.2 its) [
          | inl down ↦ fallen began.0 began.1 began.2 began.4 its down
          | inr serve ↦ absurd (never_boots began.0 asked.settings.cache (booted asked ran legal began.0 its.numbered) began.1 began.2 began.3 its.rule serve began.5)
        ])

    -- the begin that gave the attempt that the line's client holds
    record HeldBy (a : Attempt) : Type 0 where
      pub begin : Line
      pub begin_listed : In begin (lines asked)
      pub client : line.client ≡ begin.client
      pub less : begin.number < line.number
      pub before : List NodeEntry
      pub entry : NodeEntry
      pub among : In (AtNode view.hold.node before entry) (turns (line_of begin) ran.trace)
      pub gives : attempt_by before entry.act entry.answer ≡ Some a

    held_by : (a : Attempt) → view.hold.attempt ≡ Some a → HeldBy a
    held_by a gives = by_begin (last_begin (lines asked) line) refl gives
      where
        by_begin : (o : Option Line) → last_begin (lines asked) line ≡ o → (hold_after ran.trace o).attempt ≡ Some a → HeldBy a
        by_begin None e none = absurd (let no : None ≡ Some a = none in cc)
        by_begin (Some begin) e some =
            let among : In begin (filter (λ (other : Line). begins other.order) (earlier_lines (lines asked) line)) =
            elim (last_in (filter (λ (other : Line). begins other.order) (earlier_lines (lines asked) line)) None begin e) [
              | inl there ↦ there
              | inr none ↦ absurd (let no : None ≡ Some begin = none in cc)
            ] in
            let one = in_filter (λ (other : Line). begins other.order) begin (earlier_lines (lines asked) line) among in
            let two = in_filter (λ (other : Line). eqb other.client line.client && ltb other.number line.number) begin (lines asked) one.0 in
            let parts = and_parts (eqb begin.client line.client) (ltb begin.number line.number) two.1 in
            let turn = attempt_there (turns (line_of begin) ran.trace) a some in
            let home : turn.0 ≡ view.hold.node = home_is begin two.0 (begun_at begin.order) (names begin.order (view_of asked ran begin).hold one.1) turn.0 turn.1 turn.2 turn.3 ∙ sym (ap (λ (x : Option Line). (hold_after ran.trace x).node) e) in
            record {
              begin = begin;
              begin_listed = two.0;
              client = sym (eqb-true begin.client line.client parts.0);
              less = ltb-true begin.number line.number parts.1;
              before = turn.1;
              entry = turn.2;
              among = subst (λ (n : ℕ). In (AtNode n turn.1 turn.2) (turns (line_of begin) ran.trace)) home turn.3;
              gives = turn.4;
            }

    of_held : (who : Incarnation) → IsTrue (is_of_held who view.hold.attempt) → (a : Attempt) × HeldBy a × (who.node ≡ a.node) × (who.inc ≡ a.inc)
    of_held who is = by_attempt view.hold.attempt refl is
      where
        by_attempt : (o : Option Attempt) → view.hold.attempt ≡ o → IsTrue (is_of_held who o) → (a : Attempt) × HeldBy a × (who.node ≡ a.node) × (who.inc ≡ a.inc)
        by_attempt None e none = absurd (false≢true none)
        by_attempt (Some a) e its = (let parts = and_parts (eqb who.node a.node) (eqb who.inc a.inc) its in (a, held_by a e, eqb-true who.node a.node parts.0, eqb-true who.inc a.inc parts.1))

    module _ (real : IsFalse (eqb line.client 0)) (named : named_node line.order view.hold ≡ Some view.hold.node) where
      begun : (a : Attempt) (h : HeldBy a) → Stands asked ran legal (line_of h.begin) view.hold.node h.before h.entry
      begun a h = stands asked ran legal (line_of h.begin) view.hold.node h.before h.entry h.among

      own_of : (a : Attempt) (h : HeldBy a) → (a.node ≡ view.hold.node) × IsTrue (serves a.inc (node_state h.before))
      own_of a h = attempt_own view.hold.node asked.settings.cache a h.before h.entry (begun a h).lawful (lawful_behind asked ran legal (line_of h.begin) view.hold.node h.before h.entry (begun a h)) h.entry.act h.entry.answer refl h.gives

      held_or : (a : Attempt) (h : HeldBy a) (numbered : In view.hold.node (node_numbers asked.settings)) (t : NodeTurn) → In t (node_turns view) → CrashedIn asked view.hold.node view.seen ⊎ (a.inc ≡ booted asked ran legal view.hold.node numbered)
      held_or a h numbered t among =
          let its = its_stand view.hold.node named t among in
          elim (served asked ran legal view.hold.node numbered h.begin h.begin_listed h.before h.entry (begun a h)) [
            | inl down ↦
                inl (fallen view.hold.node t.before t.entry (there view.hold.node named t among) its
                (let later = behind_earlier asked ran legal line h.begin h.client h.less real view.hold.node t.before h.before t.entry h.entry its (begun a h) in
                subst (λ (l : List NodeEntry). IsTrue (went_down l)) (sym later.1) (any_more (λ (e : NodeEntry). is_down e.act) h.before (h.entry ∷ later.0) down)))
            | inr serve ↦ inr (one_serves (node_state h.before) a.inc (booted asked ran legal view.hold.node numbered) (own_of a h).1 serve)
          ]

      -- a line that finds the incarnation of its attempt unserved
      down_held : (who : Incarnation) → IsTrue (is_of_held who view.hold.attempt) → IsTrue (is_unserved who.inc (node_turns view)) → CrashedIn asked view.hold.node view.seen
      down_held who of un =
          let t = any_found (λ (x : NodeTurn). not (serves who.inc (node_state x.before))) (node_turns view) un in
          let numbered = (its_stand view.hold.node named t.0 t.1).numbered in
          let held = of_held who of in
          elim (unserved view.hold.node named numbered who.inc t.0 t.1 t.2) [
            | inl crash ↦ crash
            | inr other ↦ elim (held_or held.0 held.1 numbered t.0 t.1) [ inl crash ↦ crash | inr is ↦ absurd (other (held.3 ∙ is)) ]
          ]

      at_home : (who : Incarnation) → IsTrue (is_of_held who view.hold.attempt) → who.node ≡ view.hold.node
      at_home who of = (let held = of_held who of in held.2 ∙ (own_of held.0 held.1).0)

      put_held : (who : Incarnation) → IsTrue (is_of_held who view.hold.attempt && is_unserved who.inc (node_turns view)) → CrashedIn asked who.node view.seen
      put_held who is =
          let parts = and_parts (is_of_held who view.hold.attempt) (is_unserved who.inc (node_turns view)) is in
          subst (λ (n : ℕ). CrashedIn asked n view.seen) (sym (at_home who parts.0)) (down_held who parts.0 parts.1)

      lost_held : (who : Incarnation) → IsTrue (is_of_held who view.hold.attempt && is_lost who view) → CrashedIn asked who.node view.seen
      lost_held who is =
          let parts = and_parts (is_of_held who view.hold.attempt) (is_lost who view) is in
          subst (λ (n : ℕ). CrashedIn asked n view.seen) (sym (at_home who parts.0))
          (elim (or_cases (is_unserved who.inc (node_turns view)) (is_shut_out who view) parts.1) [
            | inl un ↦ down_held who parts.0 un
            | inr shut ↦ shut_out view.hold.node named who (at_home who parts.0) shut
          ])

    -- ---- by the command

    module _ (real : IsFalse (speaks_of_attempt line.order && eqb line.client 0)) (who : Incarnation) where
      at_node : (node : ℕ) (rest : Bool) → IsTrue (is_newest_at who node view && rest) → CrashedIn asked node view.seen → CrashedIn asked who.node view.seen
      at_node node rest is crash = subst (λ (n : ℕ). CrashedIn asked n view.seen) (sym (eqb-true who.node node (and_parts (eqb who.node node) (eqb who.inc (newest_here view)) (and_parts (is_newest_at who node view) rest is).0).0)) crash

      some_unserved : (node : ℕ) (ts : List NodeTurn) → named_node line.order view.hold ≡ Some node → ((t : NodeTurn) → In t ts → In t (node_turns view)) → IsTrue (is_newest_at who node view && is_unserved who.inc ts) → CrashedIn asked who.node view.seen
      some_unserved node ts named within is =
          let parts = and_parts (is_newest_at who node view) (is_unserved who.inc ts) is in
          let t = any_found (λ (x : NodeTurn). not (serves who.inc (node_state x.before))) ts parts.1 in
          at_node node (is_unserved who.inc ts) is (down_newest node named who parts.0 t.0 (within t.0 t.1) t.2)

      speaking : (command : Command) → line.order ≡ command → IsTrue (speaks_of_attempt command) → IsFalse (eqb line.client 0)
      speaking command order speaks = subst (λ (b : Bool). IsFalse (b && eqb line.client 0)) (ap speaks_of_attempt order ∙ speaks) real

      named_by : (command : Command) → line.order ≡ command → named_node line.order view.hold ≡ named_node command view.hold
      named_by command order = ap (λ (c : Command). named_node c view.hold) order

      by_command : (command : Command) → line.order ≡ command → IsTrue (is_down_by who command view) → CrashedIn asked who.node view.seen
      by_command (commands.Begin uuid node) order is = at_node node (is_lost who view) is (lost_newest node (named_by (commands.Begin uuid node) order) who is)
      by_command (commands.Put key value) order is = put_held (speaking (commands.Put key value) order refl) (named_by (commands.Put key value) order) who is
      by_command (commands.Get key) order is = lost_held (speaking (commands.Get key) order refl) (named_by (commands.Get key) order) who is
      by_command commands.Commit order is = lost_held (speaking commands.Commit order refl) (named_by commands.Commit order) who is
      by_command commands.Abort order is = lost_held (speaking commands.Abort order refl) (named_by commands.Abort order) who is
      by_command (commands.Start node) order is =
          at_node node (is_unbooted who.inc (drop 1 (node_turns view)) || is_shut_out who view) is
          (elim (or_cases (is_unbooted who.inc (drop 1 (node_turns view))) (is_shut_out who view) (and_parts (is_newest_at who node view) (is_unbooted who.inc (drop 1 (node_turns view)) || is_shut_out who view) is).1) [
            | inl un ↦ start_down node order who un
            | inr shut ↦ shut_out node (named_by (commands.Start node) order) who (eqb-true who.node node (and_parts (eqb who.node node) (eqb who.inc (newest_here view)) (and_parts (is_newest_at who node view) (is_unbooted who.inc (drop 1 (node_turns view)) || is_shut_out who view) is).0).0) shut
          ])
      by_command (commands.Announce node) order is = some_unserved node (take 1 (node_turns view)) (named_by (commands.Announce node) order) (λ t among. in_take t 1 (node_turns view) among) is
      by_command (commands.Deliver node) order is = some_unserved node (node_turns view) (named_by (commands.Deliver node) order) (λ t among. among) is
      by_command (commands.Local node) order is = some_unserved node (node_turns view) (named_by (commands.Local node) order) (λ t among. among) is
      by_command (commands.Forget uuid node) order is = at_node node (is_lost who view) is (lost_newest node (named_by (commands.Forget uuid node) order) who is)
      by_command command order is = absurd (false≢true is)

    pub down_by_crash : (node inc : ℕ) → IsFalse (speaks_of_attempt line.order && eqb line.client 0) → In (NodeDown node inc) (answers_of (line_of line) ran) → CrashedIn asked node view.seen
    down_by_crash node inc real among =
        by_command real (incarnation node inc) line.order refl
        (all_at (cause view) (NodeDown node inc) (answers_of (line_of line) ran) among (all_at (λ (l : Line). list_all (cause (view_of asked ran l)) (answers_of (line_of l) ran)) line (lines asked) listed legal.causes))
