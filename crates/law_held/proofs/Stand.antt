-- Lines that move attempts stand as their positions ask, and each of their turns at a node finds its attempt so.
use Rattle.std.proofs.Common.{◌≡◌, ℕ, Bool, true, false, ◌&&◌, ◌||◌, not, List, [], ◌∷◌, ◌++◌, refl, sym, ap, subst, ◌∙◌, ◌⊎◌, inl, inr, append-nil, take}
use Rattle.std.specs.Prelude.{IsFalse, IsTrue, None, Option, Some, filter, if◌then◌else◌, is_some, map}
use Rattle.std.proofs.lemmas.Bool.{and_from, and_parts, cases_Bool, eq-eqb, eqb-true, false≢true, not-true, or_cases, or_left, or_right, true≢false}
use Rattle.aft_model.specs.declared.caller.Attempt.{Attempt}
use Rattle.aft_model.specs.declared.caller.By.{By}
use Rattle.aft_model.specs.declared.door.DoorAct.{DoorAct}
use Rattle.aft_model.specs.declared.door.DoorAct.TheVariants as doors
use Rattle.aft_model.specs.declared.door.DoorEntry.{DoorEntry}
use Rattle.aft_model.specs.declared.node.NodeEntry.{NodeEntry}
use Rattle.aft_model.specs.declared.script.Line.{Line}
use Rattle.aft_model.specs.Attempts.{AttemptState, attempt_state, uuid_of}
use Rattle.aft_model.specs.Claims.{holder, holds, is_held_by}
use Rattle.aft_model.specs.History.{each_after}
use Rattle.aft_model.specs.LegalDoor.{Legal, may_come, may_follow}
use Rattle.aft_model.specs.Membership.{Incarnation, incarnation, is_up}
use Rattle.aft_model.specs.NodeSights.{is_fenced}
use Rattle.aft_model.specs.NodeState.{NodeState, node_state, part, serves}
use Rattle.aft_model.specs.Opening.{may_read}
use Rattle.aft_model.specs.ScanRun.{same_line}
use Rattle.aft_model.proofs.Histories.{In, each_after_split}
use Rattle.aft_model.proofs.Incarnations.{part-at}
use Rattle.aft_model.proofs.Lists.{all_from}
use Rattle.aft_model.proofs.Turns.{by_rule}
use Rattle.aft_lines.specs.Advance.{advance, leads_to}
use Rattle.aft_lines.specs.Asked.{Asked, Ran}
use Rattle.aft_lines.specs.CourseWords.{Ends, caller_of}
use Rattle.aft_lines.specs.FinishedText.{line_of}
use Rattle.aft_lines.specs.LineView.{ends_of}
use Rattle.aft_lines.specs.Lines.{lines, node_numbers}
use Rattle.aft_lines.specs.Progress.{NotBegun, Progress}
use Rattle.aft_lines.specs.RunsSoFar.{position_of, same_answer}
use Rattle.aft_lines.specs.Steps.{Made, made_at_node, own_steps}
use Rattle.aft_lines.specs.Turns.{AtDoor, AtNode, AtOffice, Turn, turns}
use Rattle.aft_lines.specs.Views.{view_of}
use Rattle.law_holders.specs.Rows.{is_of_attempt}
use Rattle.law_claims.specs.Doing.{attempt_at, has_claim_at, is_doing, is_the, moves, names_uuid}
use Rattle.law_claims.specs.Moments.{Asking, come_to, node_steps, or_not_begun, scene_of}
use Rattle.law_claims.specs.Scenes.{Keeps, Scene, doing, named}
use Rattle.law_claims.proofs.Holds.{moved_holds}
use Rattle.law_claims.proofs.Scenes.{doing_there, same_by, served}
use Rattle.law_runs.specs.Runs.{Goes, asking_of, command_in, ends_in, line_among, run_steps, without_office}
use Rattle.law_runs.proofs.Come.{it_comes, rise, seen_is}
use Rattle.law_runs.proofs.InStages.{kept_behind}
use Rattle.law_runs.proofs.Nodes.{filtered_steps}
use Rattle.law_runs.proofs.Own.{has_come, own_are}
use Rattle.law_runs.proofs.Retires.{each_from}
use Rattle.law_runs.proofs.Walks.{ThereIf, line_there}
use Rattle.law_steps.proofs.Histories.{door_is, node_is}
use Rattle.law_steps.specs.Histories.{history_in}
use Rattle.law_held.specs.Desk.{LinesDiffer}
use Rattle.law_held.specs.Standing.{ClaimsAreNew, LinesStand, TurnsFind, finds_all, finds_at, finds_attempt, is_new_claim, part_of_node, stands_rightly, stands_with}
use Rattle.law_held.proofs.DeskHeld.{among_itself}
use Rattle.law_held.proofs.Lines.{leads}
use Rattle.law_held.proofs.OwnSteps.{MovedBy, moved_by}
use Rattle.law_held.proofs.Serving.{serves_up}

-- ---- claims

new_claim : (h : List DoorEntry) (act : DoorAct) → IsTrue (may_come h act) ⊎ IsTrue (may_read h act) → IsTrue (is_new_claim h act)
new_claim h (doors.Claim uuid node inc) (inr read) = absurd (false≢true read)
new_claim h (doors.Claim uuid node inc) (inl come) =
    let free = not-true (is_some (holder uuid h)) (and_parts (not (is_some (holder uuid h))) _ (and_parts (is_up (incarnation node inc) h) _ come).1).0 in
    ap not (none_holds (holder uuid h) free)
  where
    none_holds : (o : Option Incarnation) → is_some o ≡ false → is_held_by (incarnation node inc) o ≡ false
    none_holds None is = refl
    none_holds (Some who) is = absurd (true≢false is)
new_claim h act rule = refl

pub claims_new : (door : List DoorEntry) → Legal door → ClaimsAreNew door
claims_new door legal = each_from (λ (h : List DoorEntry) (x : DoorEntry). is_new_claim h x.act) door [] door refl (λ h x more whole.
    new_claim h x.act (by_rule h x (and_parts (may_follow h x) (each_after may_follow (h ++ x ∷ []) more) (each_after_split may_follow [] h (x ∷ more) (subst (λ (d : List DoorEntry). IsTrue (each_after may_follow [] d)) whole legal)).1).0).1)

-- ---- the history of a node is all of its steps

made_all : (node : ℕ) (pre h : List NodeEntry) → node_steps node (made_at_node node pre h) ≡ h
made_all node pre [] = refl
made_all node pre (entry ∷ h) = ap (λ (b : Bool). (if b then entry ∷ [] else []) ++ node_steps node (made_at_node node (pre ++ entry ∷ []) h)) (eq-eqb node node refl) ∙ ap (λ (l : List NodeEntry). entry ∷ l) (made_all node (pre ++ entry ∷ []) h)

-- ---- where a line's turns stand among the steps

record Split (by : By) (steps : List Made) (xs : List Turn) (t : Turn) : Type 0 where
  pub pre : List Made
  pub one : Made
  pub rest : List Made
  pub whole : steps ≡ pre ++ one ∷ rest
  pub its : IsTrue (same_line by one.by)
  pub turn : one.turn ≡ t
  pub own : own_steps by pre ≡ xs

none_first : (xs : List Turn) (t : Turn) (ys : List Turn) → [] ≡ xs ++ t ∷ ys → ⊥
none_first [] t ys is = cc
none_first (x ∷ xs) t ys is = cc

-- the own steps of a line, with one step in front
own_first : (by : By) (m : Made) (b : Bool) → same_line by m.by ≡ b → (made : List Made) → own_steps by (m ∷ made) ≡ (if b then m.turn ∷ own_steps by made else own_steps by made)
own_first by m true e made = ap (λ (b : Bool). map (λ (o : Made). o.turn) (if b then m ∷ filter (λ (o : Made). same_line by o.by) made else filter (λ (o : Made). same_line by o.by) made)) e
own_first by m false e made = ap (λ (b : Bool). map (λ (o : Made). o.turn) (if b then m ∷ filter (λ (o : Made). same_line by o.by) made else filter (λ (o : Made). same_line by o.by) made)) e

-- one more step of the line in front
split_behind : (by : By) (m : Made) (steps : List Made) (x : Turn) (xs : List Turn) (t : Turn) → same_line by m.by ≡ true → m.turn ≡ x → Split by steps xs t → Split by (m ∷ steps) (x ∷ xs) t
split_behind by m steps x xs t e first s = record {
  pre = m ∷ s.pre;
  one = s.one;
  rest = s.rest;
  whole = ap (λ (l : List Made). m ∷ l) s.whole;
  its = s.its;
  turn = s.turn;
  own = own_first by m true e s.pre ∙ (ap (λ (y : Turn). y ∷ own_steps by s.pre) first ∙ ap (λ (l : List Turn). x ∷ l) s.own);
}

split_first : (by : By) (m : Made) (steps : List Made) (t : Turn) (ys : List Turn) (b : Bool) → same_line by m.by ≡ b → (xs : List Turn) → (if b then m.turn ∷ own_steps by steps else own_steps by steps) ≡ xs ++ t ∷ ys
    → ((zs : List Turn) → own_steps by steps ≡ zs ++ t ∷ ys → Split by steps zs t) → Split by (m ∷ steps) xs t
split_first by m steps t ys true e [] at more = record { pre = []; one = m; rest = steps; whole = refl; its = e; turn = cc; own = refl }
split_first by m steps t ys true e (x ∷ xs) at more =
    let first : m.turn ≡ x = cc in
    let later : own_steps by steps ≡ xs ++ t ∷ ys = cc in
    split_behind by m steps x xs t e first (more xs later)
split_first by m steps t ys false e xs at more =
    let s = more xs at in
    record {
      pre = m ∷ s.pre;
      one = s.one;
      rest = s.rest;
      whole = ap (λ (l : List Made). m ∷ l) s.whole;
      its = s.its;
      turn = s.turn;
      own = own_first by m false e s.pre ∙ s.own;
    }

own_split : (by : By) (steps : List Made) (xs : List Turn) (t : Turn) (ys : List Turn) → own_steps by steps ≡ xs ++ t ∷ ys → Split by steps xs t
own_split by [] xs t ys is = absurd (none_first xs t ys is)
own_split by (m ∷ steps) xs t ys is = split_first by m steps t ys (same_line by m.by) refl xs (sym (own_first by m (same_line by m.by) refl steps) ∙ is) (λ zs e. own_split by steps zs t ys e)

-- ---- what a node's part tells of an attempt that is there

its_part : (node : ℕ) (history : List NodeEntry) (scene : Scene) (a : Attempt) → a.node ≡ node → history ≡ scene.node node → (position : Progress) → IsTrue (is_doing position (doing scene a)) → (doing scene a ≡ attempt_state a (part history)) × (named scene a ≡ uuid_of a (part history))
its_part node history scene a at is position does =
    let s = served a (node_state (scene.node a.node)) (doing_there position (doing scene a) does) in
    let here : part history ≡ s.0.part = ap part (is ∙ ap scene.node (sym at)) ∙ part-at (scene.node a.node) s.0 s.1 in
    (s.3 ∙ ap (attempt_state a) (sym here), s.4 ∙ ap (uuid_of a) (sym here))

moves_so : (position : Progress) (a : Attempt) (state : AttemptState) (uuid : List ℕ) → IsTrue (is_the a (attempt_at position)) → IsTrue (is_doing position state) → IsTrue (names_uuid position uuid) → IsTrue (moves position a state uuid)
moves_so position a state uuid the does names = and_from (is_the a (attempt_at position) && is_doing position state) (names_uuid position uuid) (and_from (is_the a (attempt_at position)) (is_doing position state) the does) names

same_bools : (x y : Bool) → x ≡ y → IsTrue (same_answer x y)
same_bools true y is = sym is
same_bools false y is = ap not (sym is)

-- ---- a run

module _ (asked : Asked) (ran : Ran) (so : Goes asked ran) (differ : LinesDiffer asked) where
  abbrev asking : Asking
  asking = asking_of asked ran

  abbrev nodes : List ℕ
  nodes = node_numbers asked.settings

  pub node_all : (node : ℕ) → node_steps node (run_steps ran) ≡ history_in node 1 ran.trace.nodes
  node_all node = sym (filtered_steps node (run_steps ran)) ∙ (ap (node_steps node) (node_is node (without_office ran.trace) (rise asked ran so)) ∙ made_all node [] (history_in node 1 ran.trace.nodes))

  module _ (line : Line) (listed : In line (lines asked)) (of : IsTrue (is_of_attempt line.order)) where
    abbrev its_ends : Ends
    its_ends = ends_of (view_of asked ran line)

    abbrev by : By
    by = line_of line

    found : line_among by (lines asked) ≡ Some line
    found = among_itself [] (lines asked) differ line listed

    -- where it has come, behind some steps
    at_line : (made : List Made) → (scene_of asking made).at by ≡ or_not_begun (leads_to line.order nodes its_ends (own_steps by made))
    at_line made =
        ap (λ (o : Option Line). come_to nodes (ends_in asked ran o) (own_steps by made) (command_in o)) found
        ∙ ap (λ (b : Bool). if b then or_not_begun (leads_to line.order nodes its_ends (own_steps by made)) else NotBegun) of

    -- ---- at the end

    abbrev last : Scene
    last = scene_of asking (run_steps ran)

    door_last : last.door ≡ ran.trace.door
    door_last = door_is (without_office ran.trace)

    keeps_last : Keeps last
    keeps_last = (kept_behind asked ran so (run_steps ran) [] (sym (append-nil (run_steps ran)))).0

    at_last : (position : Progress) → position_of (view_of asked ran line) ≡ Some position → last.at by ≡ position
    at_last position is = at_line (run_steps ran) ∙ ap or_not_begun (ap (leads_to line.order nodes its_ends) (own_are asked ran so line listed of) ∙ is)

    -- unless its incarnation was fenced, it is served, and so up
    up_there : (a : Attempt) → attempt_at (last.at by) ≡ Some a → IsFalse (is_fenced (caller_of a) ran.trace.door) → IsTrue (is_up (caller_of a) last.door)
    up_there a mine unfenced = elim (moved_by last a by mine (keeps_last.attempts a (keeps_last.movers by a mine))) [
      | inl gone ↦ absurd (not_gone gone)
      | inr moved ↦
          let s = served a (node_state (last.node a.node)) (doing_there (last.at by) (doing last a) moved.1) in
          let serve : IsTrue (serves a.inc (node_state (last.node a.node))) = subst (λ (t : NodeState). IsTrue (serves a.inc t)) (sym s.1) (eq-eqb a.inc s.0.inc s.2) in
          elim (or_cases (is_up (caller_of a) last.door) (is_fenced (caller_of a) last.door) (serves_up asked ran so (run_steps ran) [] (sym (append-nil (run_steps ran))) a.node a.inc serve)) [
            | inl up ↦ up
            | inr gone ↦ absurd (not_gone gone)
          ]
    ]
      where
        not_gone : IsTrue (is_fenced (caller_of a) last.door) → ⊥
        not_gone gone = true≢false (sym (subst (λ (d : List DoorEntry). IsTrue (is_fenced (caller_of a) d)) door_last gone) ∙ unfenced)

    stands_there : (position : Progress) (a : Attempt) → last.at by ≡ position → attempt_at position ≡ Some a → IsFalse (is_fenced (caller_of a) ran.trace.door)
        → IsTrue (moves position a (attempt_state a (part_of_node a.node ran)) (uuid_of a (part_of_node a.node ran)) && same_answer (holds (caller_of a) (uuid_of a (part_of_node a.node ran)) ran.trace.door) (has_claim_at position))
    stands_there position a at is unfenced =
        let held = moved_holds last (subst Legal (sym door_last) so.door) keeps_last by a (ap attempt_at at ∙ is) (up_there a (ap attempt_at at ∙ is) unfenced) in
        let moved : IsTrue (moves position a (doing last a) (named last a)) = subst (λ (p : Progress). IsTrue (moves p a (doing last a) (named last a))) at held.0 in
        let does = (and_parts (is_the a (attempt_at position)) (is_doing position (doing last a)) (and_parts (is_the a (attempt_at position) && is_doing position (doing last a)) (names_uuid position (named last a)) moved).0).1 in
        let its = its_part a.node (history_in a.node 1 ran.trace.nodes) last a refl (sym (node_all a.node)) position does in
        and_from (moves position a (attempt_state a (part_of_node a.node ran)) (uuid_of a (part_of_node a.node ran))) (same_answer (holds (caller_of a) (uuid_of a (part_of_node a.node ran)) ran.trace.door) (has_claim_at position))
        (subst (λ (t : AttemptState). IsTrue (moves position a t (uuid_of a (part_of_node a.node ran)))) its.0 (subst (λ (u : List ℕ). IsTrue (moves position a (doing last a) u)) its.1 moved))
        (same_bools (holds (caller_of a) (uuid_of a (part_of_node a.node ran)) ran.trace.door) (has_claim_at position)
        (ap (λ (u : List ℕ). holds (caller_of a) u ran.trace.door) (sym its.1) ∙ (ap (holds (caller_of a) (named last a)) (sym door_last) ∙ (held.1 ∙ ap has_claim_at at))))

    stands_as : (position : Progress) → last.at by ≡ position → (o : Option Attempt) → attempt_at position ≡ o → IsTrue (stands_with ran position o)
    stands_as position at None is = refl
    stands_as position at (Some a) is = elim (cases_Bool (is_fenced (caller_of a) ran.trace.door)) [
      | inl gone ↦
          or_left (is_fenced (caller_of a) ran.trace.door)
          (moves position a (attempt_state a (part_of_node a.node ran)) (uuid_of a (part_of_node a.node ran)) && same_answer (holds (caller_of a) (uuid_of a (part_of_node a.node ran)) ran.trace.door) (has_claim_at position)) gone
      | inr unfenced ↦ or_right (is_fenced (caller_of a) ran.trace.door) _ (stands_there position a at is unfenced)
    ]

    stands_so : (o : Option Progress) → position_of (view_of asked ran line) ≡ o → IsTrue (stands_rightly ran o)
    stands_so None is = refl
    stands_so (Some position) is = stands_as position (at_last position is) (attempt_at position) refl

    -- ---- at a turn

    module _ (xs : List Turn) (node : ℕ) (history : List NodeEntry) (entry : NodeEntry) (ys : List Turn) (are : turns by ran.trace ≡ xs ++ AtNode node history entry ∷ ys) where
      abbrev this : Turn
      this = AtNode node history entry

      split : Split by (run_steps ran) xs this
      split = own_split by (run_steps ran) xs this ys (own_are asked ran so line listed of ∙ are)

      its_by : by ≡ split.one.by
      its_by = same_by by split.one.by split.its

      abbrev pre : List Made
      pre = split.pre

      abbrev scene : Scene
      scene = scene_of asking pre

      -- the step is this turn
      one_is : split.one ≡ record { by = split.one.by; turn = this }
      one_is = ap (λ (t : Turn). record { by = split.one.by; turn = t }) split.turn

      there : run_steps ran ≡ pre ++ record { by = split.one.by; turn = this } ∷ split.rest
      there = split.whole ∙ ap (λ (m : Made). pre ++ m ∷ split.rest) one_is

      keeps_there : Keeps scene
      keeps_there = (kept_behind asked ran so pre (split.one ∷ split.rest) split.whole).0

      at_there : (position : Progress) → leads_to line.order nodes its_ends xs ≡ Some position → scene.at by ≡ position
      at_there position is = at_line pre ∙ ap or_not_begun (ap (leads_to line.order nodes its_ends) split.own ∙ is)

      -- a later turn at a node is at its attempt's
      at_its_node : (position : Progress) (a : Attempt) → leads_to line.order nodes its_ends xs ≡ Some position → attempt_at position ≡ Some a → a.node ≡ node
      at_its_node position a is at =
          let whole : own_steps split.one.by (pre ++ split.one ∷ split.rest) ≡ turns by ran.trace = ap (own_steps split.one.by) (sym split.whole) ∙ (ap (λ (b : By). own_steps b (run_steps ran)) (sym its_by) ∙ own_are asked ran so line listed of) in
          let led = leads line.order nodes its_ends pre split.rest split.one (has_come asked ran so line listed).0 (ap (leads_to line.order nodes its_ends) whole ∙ (has_come asked ran so line listed).1) in
          let from : Some led.from ≡ Some position = sym led.was ∙ (ap (λ (b : By). leads_to line.order nodes its_ends (own_steps b pre)) (sym its_by) ∙ (ap (leads_to line.order nodes its_ends) split.own ∙ is)) in
          let goes : advance line.order nodes its_ends position this ≡ Some led.to = ap (λ (p : Progress). advance line.order nodes its_ends p this) (sym (same_inside led.from position from)) ∙ (ap (advance line.order nodes its_ends led.from) (sym split.turn) ∙ led.goes) in
          eqb-true a.node node (subst (ThereIf its_ends history entry a node) goes (line_there its_ends node history entry line.order nodes of position a at)).0
        where
          same_inside : (p q : Progress) → Some p ≡ Some q → p ≡ q
          same_inside p q e = cc

      finds_there : (position : Progress) (a : Attempt) → leads_to line.order nodes its_ends xs ≡ Some position → attempt_at position ≡ Some a → IsTrue (is_fenced (caller_of a) (take entry.front ran.trace.door) || moves position a (attempt_state a (part history)) (uuid_of a (part history)))
      finds_there position a is at =
          let here = at_there position is in
          let mine : attempt_at (scene.at by) ≡ Some a = ap attempt_at here ∙ at in
          let comes = it_comes asked ran so pre split.rest (record { by = split.one.by; turn = this }) there keeps_there in
          let seen = seen_is asked ran so pre split.rest (record { by = split.one.by; turn = this }) there refl in
          elim (moved_by scene a by mine (keeps_there.attempts a (keeps_there.movers by a mine))) [
            | inl gone ↦ or_left (is_fenced (caller_of a) (take entry.front ran.trace.door)) (moves position a (attempt_state a (part history)) (uuid_of a (part history))) (subst (λ (d : List DoorEntry). IsTrue (is_fenced (caller_of a) d)) (sym seen) gone)
            | inr moved ↦ or_right (is_fenced (caller_of a) (take entry.front ran.trace.door)) (moves position a (attempt_state a (part history)) (uuid_of a (part history))) (moves_there position a here (at_its_node position a is at) comes.1 moved)
          ]
        where
          moves_there : (p : Progress) (b : Attempt) → scene.at by ≡ p → b.node ≡ node → history ≡ node_steps node pre → MovedBy scene b by → IsTrue (moves p b (attempt_state b (part history)) (uuid_of b (part history)))
          moves_there p b here its_node are_steps moved =
              let its = its_part node history scene b its_node are_steps (scene.at by) moved.1 in
              subst (λ (q : Progress). IsTrue (moves q b (attempt_state b (part history)) (uuid_of b (part history)))) here
              (subst (λ (t : AttemptState). IsTrue (moves (scene.at by) b t (uuid_of b (part history)))) its.0
              (subst (λ (u : List ℕ). IsTrue (moves (scene.at by) b (doing scene b) u)) its.1
              (moves_so (scene.at by) b (doing scene b) (named scene b) moved.0 moved.1 moved.2)))

      finds_one : (position : Progress) → leads_to line.order nodes its_ends xs ≡ Some position → (o : Option Attempt) → attempt_at position ≡ o → IsTrue (finds_attempt ran.trace.door position o history entry)
      finds_one position is None at = refl
      finds_one position is (Some a) at = finds_there position a is at

    finds_turn : (xs : List Turn) (t : Turn) (ys : List Turn) → turns by ran.trace ≡ xs ++ t ∷ ys → (o : Option Progress) → leads_to line.order nodes its_ends xs ≡ o → IsTrue (finds_at ran.trace.door o t)
    finds_turn xs (AtNode node history entry) ys are None is = refl
    finds_turn xs (AtNode node history entry) ys are (Some position) is = finds_one xs node history entry ys are position is (attempt_at position) refl
    finds_turn xs (AtDoor place act) ys are None is = refl
    finds_turn xs (AtDoor place act) ys are (Some position) is = refl
    finds_turn xs (AtOffice history entry) ys are None is = refl
    finds_turn xs (AtOffice history entry) ys are (Some position) is = refl

    finds_each : IsTrue (finds_all ran (view_of asked ran line))
    finds_each = each_from (λ before turn. finds_at ran.trace.door (leads_to line.order nodes its_ends before) turn) (turns by ran.trace) [] (turns by ran.trace) refl (λ xs t ys are. finds_turn xs t ys are (leads_to line.order nodes its_ends xs) refl)

  pub lines_stand : LinesStand asked ran
  lines_stand = all_from (λ (l : Line). not (is_of_attempt l.order) || stands_rightly ran (position_of (view_of asked ran l))) (lines asked) (λ l listed. elim (cases_Bool (is_of_attempt l.order)) [
    | inl of ↦ or_right (not (is_of_attempt l.order)) (stands_rightly ran (position_of (view_of asked ran l))) (stands_so l listed of (position_of (view_of asked ran l)) refl)
    | inr other ↦ or_left (not (is_of_attempt l.order)) (stands_rightly ran (position_of (view_of asked ran l))) (ap not other)
  ])

  pub turns_find : TurnsFind asked ran
  turns_find = all_from (λ (l : Line). not (is_of_attempt l.order) || finds_all ran (view_of asked ran l)) (lines asked) (λ l listed. elim (cases_Bool (is_of_attempt l.order)) [
    | inl of ↦ or_right (not (is_of_attempt l.order)) (finds_all ran (view_of asked ran l)) (finds_each l listed of)
    | inr other ↦ or_left (not (is_of_attempt l.order)) (finds_all ran (view_of asked ran l)) (ap not other)
  ])
