-- What stands of a crash by the turns that it has made.
use Rattle.std.proofs.Common.{◌≡◌, ◌≤◌, ℕ, zero, suc, Bool, true, false, ◌&&◌, not, List, [], ◌∷◌, ◌++◌, eqb, length, refl, sym, ap, subst, ◌∙◌, inl, inr, arith}
use Rattle.std.specs.Prelude.{IsTrue, None, Option, Some, take, if◌then◌else◌}
use Rattle.std.specs.List.{flat_map, list_all, list_any}
use Rattle.std.proofs.lemmas.Bool.{and_from, eq-eqb, false≢true, or_left, or_right}
use Rattle.aft_model.specs.declared.caller.By.{By}
use Rattle.aft_model.specs.declared.caller.Hold.{Hold}
use Rattle.aft_model.specs.declared.door.DoorAct.TheVariants.{Fence}
use Rattle.aft_model.specs.declared.door.DoorEntry.{DoorEntry}
use Rattle.aft_model.specs.declared.node.NodeAct.{NodeAct}
use Rattle.aft_model.specs.declared.node.NodeAct.TheVariants as acts
use Rattle.aft_model.specs.declared.node.NodeEntry.{NodeEntry}
use Rattle.aft_model.specs.declared.reply.Reply.{Reply}
use Rattle.aft_model.specs.declared.reply.Reply.TheVariants as replies
use Rattle.aft_model.specs.declared.script.Command.TheVariants as commands
use Rattle.aft_model.specs.History.{at_place, first_of}
use Rattle.aft_model.specs.Membership.{Incarnation, fenced, fenced_in, inc_at, incarnation, same_incarnation, up_now, ups}
use Rattle.aft_model.specs.NodeSights.{has_seen, is_fenced}
use Rattle.aft_model.specs.NodeState.{node_state}
use Rattle.aft_model.proofs.OneCommit.{same_itself}
use Rattle.aft_lines.specs.Advance.{if_so, is_led_to_end}
use Rattle.aft_lines.specs.Causes.{Caused}
use Rattle.aft_lines.specs.CausesNodes.{earliest, is_none_up}
use Rattle.aft_lines.specs.LineCourse.{answers_last, goes_down}
use Rattle.aft_lines.specs.LineView.{LineView, last_front}
use Rattle.aft_lines.specs.Makes.{crashes_at_node}
use Rattle.aft_lines.specs.Progress.{IsOver}
use Rattle.aft_lines.specs.RunsSoFar.{position_of}
use Rattle.aft_lines.specs.Turns.{AtDoor, Turn}
use Rattle.aft_turns.specs.Stands.{EndsRightly, GoesRightly, HasLooked, IsUnanswered, LooksLate, RanSo, SeesOwn, is_right, last_sees}
use Rattle.aft_turns.specs.Trail.{Trail}
use Rattle.aft_turns.specs.declared.turn.Where.TheVariants as places
use Rattle.aft_turns.proofs.Closed.{led_is_some}
use Rattle.aft_turns.proofs.Looked.{looked_at}
use Rattle.aft_turns.proofs.Views.{by_words, with_words}
use Rattle.aft_boot.specs.CrashView.{left_at, next_at}
use Rattle.aft_boot.specs.Crashed.{GoesDown, HasFenced, made_at, turn_at}
use Rattle.aft_boot.specs.declared.fencing.Fencing.{Fencing}
use Rattle.aft_boot.specs.declared.fencing.Fencing.TheVariants.{Begins, Ended, Tells}

-- ---- who is up, and who was fenced

-- where no incarnation of a node is first among some, none is among them
none_of : (node : ℕ) (among : List Incarnation) → first_of (flat_map (inc_at node) among) ≡ None → IsTrue (list_all (λ who. not (eqb who.node node)) among)
none_of node [] none = refl
none_of node (who ∷ among) none = by_node (eqb who.node node) refl none (none_of node among)
  where
    some_not : (n : ℕ) → Some n ≡ None → ⊥
    some_not n e = cc

    by_node : (here : Bool) → eqb who.node node ≡ here → first_of ((if here then who.inc ∷ [] else []) ++ flat_map (inc_at node) among) ≡ None → (first_of (flat_map (inc_at node) among) ≡ None → IsTrue (list_all (λ other. not (eqb other.node node)) among)) → IsTrue (not (eqb who.node node) && list_all (λ other. not (eqb other.node node)) among)
    by_node true is none rest = absurd (some_not who.inc none)
    by_node false is none rest = and_from _ _ (ap not is) (rest none)

-- the fence of an incarnation for a line
abbrev fence_entry : By → ℕ → ℕ → DoorEntry
fence_entry by node inc = record { by = by; act = Fence node inc }

none_entry : (e : DoorEntry) → None ≡ Some e → ⊥
none_entry e x = cc

some_entry : (x y : DoorEntry) → Some x ≡ Some y → x ≡ y
some_entry x y e = cc

-- what stands at a place of a history was fenced by it
fenced_at : (node inc place : ℕ) (by : By) (seen : List DoorEntry) → at_place place seen ≡ Some (fence_entry by node inc) → IsTrue (is_fenced (incarnation node inc) seen)
fenced_at node inc zero by [] at = absurd (none_entry (fence_entry by node inc) at)
fenced_at node inc (suc place) by [] at = absurd (none_entry (fence_entry by node inc) at)
fenced_at node inc zero by (entry ∷ seen) at =
    subst (λ (e : DoorEntry). IsTrue (is_fenced (incarnation node inc) (e ∷ seen))) (sym (some_entry entry (fence_entry by node inc) at)) (or_left _ _ (same_itself (incarnation node inc)))
fenced_at node inc (suc place) by (entry ∷ seen) at = any_behind (fenced_in entry.act) (fenced_at node inc place by seen at)
  where
    any_behind : (xs : List Incarnation) → IsTrue (is_fenced (incarnation node inc) seen) → IsTrue (list_any (same_incarnation (incarnation node inc)) (xs ++ fenced seen))
    any_behind [] is = is
    any_behind (x ∷ xs) is = or_right _ _ (any_behind xs is)

-- the node's turn has seen the fence
crashed_sees : (by : By) (node inc place : ℕ) (before : List NodeEntry) (front : ℕ) (seen : List DoorEntry) (act : NodeAct) → GoesDown node (Some inc) before act (replies.Crashed node inc) → SeesOwn by (AtDoor place (Fence node inc) ∷ turn_at by node before front act (Some (replies.Crashed node inc)) ∷ []) seen → IsTrue (last_sees seen (AtDoor place (Fence node inc) ∷ turn_at by node before front act (Some (replies.Crashed node inc)) ∷ []))
crashed_sees by node inc place before front seen act (inl is, told) sees =
    subst (λ (x : NodeAct). IsTrue (has_seen node seen by before x (Some (replies.Crashed node inc)))) (sym is) (fenced_at node inc place by seen sees.places.0)
crashed_sees by node inc place before front seen act (inr (is, left), told) sees =
    subst (λ (x : NodeAct). IsTrue (has_seen node seen by before x (Some (replies.Crashed node inc)))) (sym is) refl

-- ---- one crash

module _ (by : By) (node : ℕ) (hold : Hold) (view : LineView) where
  -- the line that did these turns
  abbrev ran : List Turn → LineView
  ran turns = with_words (commands.Crash node) hold turns view

  nothing_yet : GoesRightly (ran [])
  nothing_yet = record { leads = refl; right = refl }

  -- a turn at the node that a crash makes
  right_at : (before : List NodeEntry) (front : ℕ) (act : NodeAct) (answer : Option Reply) → IsTrue (crashes_at_node act) → IsTrue (is_right (commands.Crash node) hold (turn_at by node before front act answer))
  right_at before front act answer made = and_from _ _ (and_from _ _ (and_from _ _ made refl) (eq-eqb node node refl)) refl

  -- ---- it fenced one

  module _ (inc place : ℕ) where
    abbrev fence : Turn
    fence = AtDoor place (Fence node inc)

    fence_right : IsTrue (is_right (commands.Crash node) hold fence)
    fence_right = and_from _ _ (eq-eqb node node refl) refl

    has_fenced : GoesRightly (ran (fence ∷ []))
    has_fenced = record { leads = refl; right = and_from _ _ fence_right refl }

    module _ (before : List NodeEntry) (front : ℕ) where
      abbrev turns_of : NodeAct → List Turn
      turns_of act = fence ∷ turn_at by node before front act (Some (replies.Crashed node inc)) ∷ []

      went : (act : NodeAct) → GoesDown node (Some inc) before act (replies.Crashed node inc) → IsTrue (goes_down node inc (node_state before) act (Some (replies.Crashed node inc)))
      went act (inl is, told) = subst (λ (x : NodeAct). IsTrue (goes_down node inc (node_state before) x (Some (replies.Crashed node inc)))) (sym is) (eq-eqb inc inc refl)
      went act (inr (is, left), told) =
          subst (λ (x : NodeAct). IsTrue (goes_down node inc (node_state before) x (Some (replies.Crashed node inc)))) (sym is) (and_from _ _ left (and_from _ _ (eq-eqb node node refl) (eq-eqb inc inc refl)))

      makes_so : (act : NodeAct) → GoesDown node (Some inc) before act (replies.Crashed node inc) → IsTrue (crashes_at_node act)
      makes_so act (inl is, told) = subst (λ (x : NodeAct). IsTrue (crashes_at_node x)) (sym is) refl
      makes_so act (inr (is, left), told) = subst (λ (x : NodeAct). IsTrue (crashes_at_node x)) (sym is) refl

      leads_so : (act : NodeAct) → GoesDown node (Some inc) before act (replies.Crashed node inc) → IsTrue (is_led_to_end (position_of (ran (turns_of act))))
      leads_so act down = by_test _ (and_from _ _ (eq-eqb node node refl) (and_from _ _ (eq-eqb node node refl) (went act down)))
        where
          by_test : (t : Bool) → IsTrue t → IsTrue (is_led_to_end (if_so t IsOver))
          by_test true is = refl
          by_test false is = absurd (false≢true is)

      crashed_goes : (act : NodeAct) → GoesDown node (Some inc) before act (replies.Crashed node inc) → GoesRightly (ran (turns_of act))
      crashed_goes act down = record {
        leads = led_is_some _ (leads_so act down);
        right = and_from _ _ fence_right (and_from _ _ (right_at before front act (Some (replies.Crashed node inc)) (makes_so act down)) refl);
      }

      crashed_ends : (act : NodeAct) → GoesDown node (Some inc) before act (replies.Crashed node inc) → EndsRightly (ran (turns_of act))
      crashed_ends act down = record {
        leads = leads_so act down;
        answers = refl;
        caused = λ reply is. subst (Caused (ran (turns_of act))) (one_reply (replies.Crashed node inc) reply is)
            (and_from _ _ (eq-eqb node node refl) (or_left _ _ (same_itself (incarnation node inc))));
      }
        where
          one_reply : (r q : Reply) → Some r ≡ Some q → r ≡ q
          one_reply r q e = cc

  -- ---- it fenced none

  module _ (before : List NodeEntry) (front : ℕ) where
    abbrev alone : Turn
    alone = turn_at by node before front acts.Nothing (Some (replies.NotUp node))

    leads_alone : IsTrue (is_led_to_end (position_of (ran (alone ∷ []))))
    leads_alone = by_test _ (and_from _ _ (eq-eqb node node refl) (eq-eqb node node refl))
      where
        by_test : (t : Bool) → IsTrue t → IsTrue (is_led_to_end (if_so t IsOver))
        by_test true is = refl
        by_test false is = absurd (false≢true is)

    not_up_goes : GoesRightly (ran (alone ∷ []))
    not_up_goes = record { leads = led_is_some _ leads_alone; right = and_from _ _ (right_at before front acts.Nothing (Some (replies.NotUp node)) refl) refl }

    not_up_ends : (look rest : List DoorEntry) → up_now node look ≡ None → take front view.seen ≡ look ++ rest → earliest view.before (ran (alone ∷ [])) ≤ length look → EndsRightly (ran (alone ∷ []))
    not_up_ends look rest none begins late = record {
      leads = leads_alone;
      answers = refl;
      caused = λ reply is. subst (Caused (ran (alone ∷ []))) (one_reply (replies.NotUp node) reply is)
          (and_from _ _ (and_from _ _ (eq-eqb node node refl) refl) (looked_at (is_none_up node) look rest view.seen (earliest view.before (ran (alone ∷ []))) front late begins (none_of node (ups look) none)));
    }
      where
        one_reply : (r q : Reply) → Some r ≡ Some q → r ≡ q
        one_reply r q e = cc

-- ---- by how far it has come

pub nothing_left : (node : ℕ) (stage : Fencing) → next_at node stage ≡ places.Done → left_at stage ≡ 0
nothing_left node Begins e = absurd (door_not e)
  where
    door_not : places.Door ≡ places.Done → ⊥
    door_not e = cc
nothing_left node (Tells fenced) e = absurd (node_not e)
  where
    node_not : places.Node node ≡ places.Done → ⊥
    node_not e = cc
nothing_left node Ended e = refl

-- and any other has a turn left
pub going_so : (node : ℕ) (stage : Fencing) → (next_at node stage ≡ places.Done → ⊥) → 1 ≤ left_at stage
going_so node Begins going = omega arith
going_so node (Tells fenced) going = omega arith
going_so node Ended going = absurd (going refl)

module _ (by : By) (node : ℕ) (hold : Hold) (capacity : ℕ) where
  -- a line as it ran stands so, where one of these turns does
  so : (P : LineView → Type 0) (trail : Trail) (view : LineView) (turns : List Turn) → RanSo (commands.Crash node) hold capacity trail view → trail.turns ≡ turns → P (ran by node hold view turns) → P view
  so P trail view turns is same holds = by_words P (commands.Crash node) hold capacity trail view turns is same holds

  pub goes_so : (stage : Fencing) (trail : Trail) (view : LineView) → made_at by node stage trail → RanSo (commands.Crash node) hold capacity trail view → GoesRightly view
  goes_so Begins trail view none is = so GoesRightly trail view [] is (ap (λ (t : Trail). t.turns) none) (nothing_yet by node hold view)
  goes_so (Tells (Some inc)) trail view (place, turns) is = so GoesRightly trail view _ is turns (has_fenced by node hold view inc place)
  goes_so (Tells None) trail view (turns, none, made) is = so GoesRightly trail view [] is turns (nothing_yet by node hold view)
  goes_so Ended trail view ended is = by_fence ended.incarnation ended.act ended.reply ended.fenced ended.down ended.turns
    where
      by_fence : (shut : Option ℕ) (act : NodeAct) (reply : Reply) → HasFenced node shut ended.since → GoesDown node shut ended.before act reply → trail.turns ≡ ended.since.turns ++ turn_at by node ended.before ended.front act (Some reply) ∷ [] → GoesRightly view
      by_fence (Some inc) act reply (place, begun) (down, told) turns =
          so GoesRightly trail view _ is (turns ∙ ap (λ (ts : List Turn). ts ++ turn_at by node ended.before ended.front act (Some reply) ∷ []) begun ∙ ap (λ (r : Reply). AtDoor place (Fence node inc) ∷ turn_at by node ended.before ended.front act (Some r) ∷ []) told)
          (crashed_goes by node hold view inc place ended.before ended.front act (down, refl))
      by_fence None act reply (begun, none, made) (is_nothing, told) turns =
          so GoesRightly trail view _ is
          (turns ∙ ap (λ (ts : List Turn). ts ++ turn_at by node ended.before ended.front act (Some reply) ∷ []) begun ∙ ap (λ (r : Reply). turn_at by node ended.before ended.front act (Some r) ∷ []) told
          ∙ ap (λ (x : NodeAct). turn_at by node ended.before ended.front x (Some (replies.NotUp node)) ∷ []) is_nothing)
          (not_up_goes by node hold view ended.before ended.front)

  pub unanswered_so : (stage : Fencing) (trail : Trail) (view : LineView) → made_at by node stage trail → RanSo (commands.Crash node) hold capacity trail view → 1 ≤ left_at stage → IsUnanswered view
  unanswered_so Begins trail view none is left = so IsUnanswered trail view [] is (ap (λ (t : Trail). t.turns) none) refl
  unanswered_so (Tells (Some inc)) trail view (place, turns) is left = so IsUnanswered trail view _ is turns refl
  unanswered_so (Tells None) trail view (turns, none, made) is left = so IsUnanswered trail view [] is turns refl
  unanswered_so Ended trail view ended is left = absurd (omega arith)

  -- what is known of a crash that is over: what its last turn has seen begins with the look, and the look was late enough
  abbrev EndsBy : Trail → LineView → Type 0
  EndsBy trail v = (rest : List DoorEntry) → take (last_front v) v.seen ≡ trail.look ++ rest → LooksLate trail v → EndsRightly v

  pub ends_so : (stage : Fencing) (trail : Trail) (view : LineView) → made_at by node stage trail → RanSo (commands.Crash node) hold capacity trail view → left_at stage ≡ 0 → HasLooked trail view → LooksLate trail view → EndsRightly view
  ends_so Begins trail view made is over looked late = absurd (omega arith)
  ends_so (Tells fenced) trail view made is over looked late = absurd (omega arith)
  ends_so Ended trail view ended is over looked late = by_fence ended.incarnation ended.act ended.reply ended.fenced ended.down ended.turns looked.0 looked.1 late
    where
      by_fence : (shut : Option ℕ) (act : NodeAct) (reply : Reply) → HasFenced node shut ended.since → GoesDown node shut ended.before act reply → trail.turns ≡ ended.since.turns ++ turn_at by node ended.before ended.front act (Some reply) ∷ [] → EndsBy trail view
      by_fence (Some inc) act reply (place, begun) (down, told) turns =
          so (EndsBy trail) trail view _ is (turns ∙ ap (λ (ts : List Turn). ts ++ turn_at by node ended.before ended.front act (Some reply) ∷ []) begun ∙ ap (λ (r : Reply). AtDoor place (Fence node inc) ∷ turn_at by node ended.before ended.front act (Some r) ∷ []) told)
          (λ rest begins late. crashed_ends by node hold view inc place ended.before ended.front act (down, refl))
      by_fence None act reply (begun, none, made) (is_nothing, told) turns =
          so (EndsBy trail) trail view _ is
          (turns ∙ ap (λ (ts : List Turn). ts ++ turn_at by node ended.before ended.front act (Some reply) ∷ []) begun ∙ ap (λ (r : Reply). turn_at by node ended.before ended.front act (Some r) ∷ []) told
          ∙ ap (λ (x : NodeAct). turn_at by node ended.before ended.front x (Some (replies.NotUp node)) ∷ []) is_nothing)
          (λ rest begins late. not_up_ends by node hold view ended.before ended.front trail.look rest (subst (λ (look : List DoorEntry). up_now node look ≡ None) (sym ended.look) none) begins (late refl (subst (λ (look : List DoorEntry). 1 ≤ length look) (sym ended.look) made)))

-- of one that is over the last turn alone answers, whatever it has seen
pub answers_so : (by : By) (node : ℕ) (stage : Fencing) (trail : Trail) → made_at by node stage trail → left_at stage ≡ 0 → IsTrue (answers_last trail.turns)
answers_so by node Begins trail made over = absurd (omega arith)
answers_so by node (Tells fenced) trail made over = absurd (omega arith)
answers_so by node Ended trail ended over = by_fence ended.incarnation ended.fenced
  where
    by_fence : (shut : Option ℕ) → HasFenced node shut ended.since → IsTrue (answers_last trail.turns)
    by_fence (Some inc) (place, begun) = subst (λ (ts : List Turn). IsTrue (answers_last ts)) (sym (ended.turns ∙ ap (λ (ts : List Turn). ts ++ turn_at by node ended.before ended.front ended.act (Some ended.reply) ∷ []) begun)) refl
    by_fence None (begun, none, made) = subst (λ (ts : List Turn). IsTrue (answers_last ts)) (sym (ended.turns ∙ ap (λ (ts : List Turn). ts ++ turn_at by node ended.before ended.front ended.act (Some ended.reply) ∷ []) begun)) refl

pub sees_so : (by : By) (node : ℕ) (stage : Fencing) (trail : Trail) (seen : List DoorEntry) → made_at by node stage trail → SeesOwn by trail.turns seen → IsTrue (last_sees seen trail.turns)
sees_so by node Begins trail seen none sees = subst (λ (ts : List Turn). IsTrue (last_sees seen ts)) (sym (ap (λ (t : Trail). t.turns) none)) refl
sees_so by node (Tells (Some inc)) trail seen (place, turns) sees = subst (λ (ts : List Turn). IsTrue (last_sees seen ts)) (sym turns) refl
sees_so by node (Tells None) trail seen (turns, none, made) sees = subst (λ (ts : List Turn). IsTrue (last_sees seen ts)) (sym turns) refl
sees_so by node Ended trail seen ended sees = by_fence ended.incarnation ended.act ended.reply ended.fenced ended.down ended.turns
  where
    by_fence : (shut : Option ℕ) (act : NodeAct) (reply : Reply) → HasFenced node shut ended.since → GoesDown node shut ended.before act reply → trail.turns ≡ ended.since.turns ++ turn_at by node ended.before ended.front act (Some reply) ∷ [] → IsTrue (last_sees seen trail.turns)
    by_fence (Some inc) act reply (place, begun) (down, told) turns =
        let its : trail.turns ≡ AtDoor place (Fence node inc) ∷ turn_at by node ended.before ended.front act (Some (replies.Crashed node inc)) ∷ [] = turns ∙ ap (λ (ts : List Turn). ts ++ turn_at by node ended.before ended.front act (Some reply) ∷ []) begun ∙ ap (λ (r : Reply). AtDoor place (Fence node inc) ∷ turn_at by node ended.before ended.front act (Some r) ∷ []) told in
        subst (λ (ts : List Turn). IsTrue (last_sees seen ts)) (sym its)
        (crashed_sees by node inc place ended.before ended.front seen act (down, refl) (subst (λ (ts : List Turn). SeesOwn by ts seen) its sees))
    by_fence None act reply (begun, none, made) (is_nothing, told) turns =
        subst (λ (ts : List Turn). IsTrue (last_sees seen ts))
        (sym (turns ∙ ap (λ (ts : List Turn). ts ++ turn_at by node ended.before ended.front act (Some reply) ∷ []) begun ∙ ap (λ (x : NodeAct). turn_at by node ended.before ended.front x (Some reply) ∷ []) is_nothing)) refl
