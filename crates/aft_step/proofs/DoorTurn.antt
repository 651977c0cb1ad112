-- A turn of a line's machine at the door.
use Rattle.std.proofs.Common.{arith, ◌≡◌, ◌≢◌, ℕ, ◌≤◌, Bool, true, false, ◌&&◌, not, List, [], ◌∷◌, ◌++◌, length, refl, sym, ap, subst, ◌∙◌, inl, inr, length-append}
use Rattle.std.specs.Prelude.{IsTrue, None, Option, Some, if◌then◌else◌, is_some, nat_le, ◌==◌}
use Rattle.std.specs.List.{list_all}
use Rattle.std.proofs.lemmas.Bool.{and_from, and_parts, cases_Bool, eq-eqb, le-leb, leb-true, true≢false}
use Rattle.aft_ledger.specs.View.{NodeView}
use Rattle.aft_lines.specs.Asked.{Asked}
use Rattle.aft_lines.specs.FinishedText.{line_of}
use Rattle.aft_lines.specs.LegalTrace.{is_clock_time}
use Rattle.aft_lines.specs.LineCourse.{answers_last}
use Rattle.aft_lines.specs.LineView.{LineView}
use Rattle.aft_lines.specs.Turns.{AtDoor, Turn, answer_in}
use Rattle.aft_lines.specs.Views.{view_of}
use Rattle.aft_machine.specs.Asks.{IsStorable, Knows, MayCall}
use Rattle.aft_machine.specs.OneNode.{AimsSo, Holds, by_of, command_of, is_over, left_of, made_of, next_of}
use Rattle.aft_machine.specs.declared.machine.Machine.{Machine}
use Rattle.aft_model.specs.declared.caller.By.{By}
use Rattle.aft_model.specs.declared.caller.Hold.{Hold}
use Rattle.aft_model.specs.declared.door.DoorAct.{DoorAct}
use Rattle.aft_model.specs.declared.door.DoorEntry.{DoorEntry}
use Rattle.aft_model.specs.declared.reply.Reply.{Reply}
use Rattle.aft_model.specs.declared.script.Command.{Command}
use Rattle.aft_model.specs.declared.script.Line.{Line}
use Rattle.aft_model.specs.Bytes.{HasBytes}
use Rattle.aft_model.specs.DoorKnowledge.{is_open}
use Rattle.aft_model.specs.LegalDoor.{Legal}
use Rattle.aft_model.specs.Replies.{is_silent}
use Rattle.aft_step.proofs.Lists.{all_weaker}
use Rattle.aft_step.proofs.MayGo as may
use Rattle.aft_step.proofs.NodeAfter.{not_done, over_done}
use Rattle.aft_step.proofs.NodeTurn.{driven}
use Rattle.aft_step.specs.Going.{Goes, Running, Turned}
use Rattle.aft_step.specs.Worlds.{NodesFit, WorldView, is_fit, left_of as lines_left, ran_of}
use Rattle.aft_turns.specs.Stands.{IsUnanswered, RanSo}
use Rattle.aft_turns.specs.Steps.{FrontsWithin, StepsAtDoor}
use Rattle.aft_turns.specs.Trail.{Trail, behind, looking}
use Rattle.aft_turns.specs.declared.turn.Where.TheVariants as places
use Rattle.law_accounts.specs.Account.{Stand}
use Rattle.law_clients.proofs.Goes.{acts_on, looks_on}
use Rattle.law_clients.specs.Clients.{Busy, Crowd, Seat, with_seat}
use Rattle.law_driver.proofs.Door.{fronts_within}
use Rattle.law_driver.specs.Driven.{Driven, Promises}
use Rattle.law_driver.specs.Kept.{door_entry}

-- turns that end at the door end with no answer
door_last : (line : List Turn) (place : ℕ) (act : DoorAct) → answers_last (line ++ AtDoor place act ∷ []) ≡ false
door_last [] place act = refl
door_last (turn ∷ []) place act = never (not (is_some (answer_in turn)))
  where
    never : (b : Bool) → (b && false) ≡ false
    never true = refl
    never false = refl
door_last (turn ∷ other ∷ line) place act = ap (λ (b : Bool). not (is_some (answer_in turn)) && b) (door_last (other ∷ line) place act) ∙ never (not (is_some (answer_in turn)))
  where
    never : (b : Bool) → (b && false) ≡ false
    never true = refl
    never false = refl

-- of turns that answer nothing the last doesn't either
silent_last : (line : List Turn) → IsTrue (list_all (λ (t : Turn). is_silent (answer_in t)) line) → answers_last line ≡ false
silent_last [] all = refl
silent_last (turn ∷ []) all = no_answer (answer_in turn) (and_parts (is_silent (answer_in turn)) true all).0
  where
    no_answer : (o : Option Reply) → IsTrue (is_silent o) → is_some o ≡ false
    no_answer None is = refl
    no_answer (Some reply) is = absurd cc
silent_last (turn ∷ other ∷ line) all =
    ap (λ (b : Bool). not (is_some (answer_in turn)) && b) (silent_last (other ∷ line) (and_parts (is_silent (answer_in turn)) (list_all (λ (t : Turn). is_silent (answer_in t)) (other ∷ line)) all).1) ∙ never (not (is_some (answer_in turn)))
  where
    never : (b : Bool) → (b && false) ≡ false
    never true = refl
    never false = refl

module _ (asked : Asked) (stand : Line → Stand) (seats : ℕ → Seat) (world : WorldView) (line : Line) (hold : Hold) (machine : Machine) (now : ℕ) (trail : Trail) (r : Running asked stand seats world line hold machine now trail) (aims : AimsSo machine) (next : next_of machine ≡ places.Door) where
  its : Driven asked (ran_of world) stand line hold trail
  its = driven asked stand seats world line hold machine now trail r

  -- what `at_door` asks
  pub may_call : IsStorable machine × Knows machine world.door × MayCall machine world.door × IsTrue (is_open world.door)
  may_call = may.at_door asked (ran_of world) stand line hold now trail its machine aims r.goes r.asks.short next

  module _ (door : List DoorEntry) (legal : Legal door) (bytes : HasBytes door) (later : Machine) (by : by_of later ≡ by_of machine) (command : command_of later ≡ command_of machine) (held : Holds machine hold → Holds later hold)
      (steps : (capacity time : ℕ) → MayCall machine world.door → StepsAtDoor (by_of machine) (λ trail. made_of capacity time machine trail × FrontsWithin world.door trail.turns) (made_of capacity time later) world.door door)
      (promises : (time : ℕ) (path : Trail) → IsTrue (is_clock_time asked.clock time) → made_of asked.settings.cache time later path → Promises (by_of later) (command_of later) hold asked.settings.cache asked.clock (is_over later) path)
      (answers : (time : ℕ) (path : Trail) → made_of asked.settings.cache time later path → next_of later ≡ places.Done → IsTrue (answers_last path.turns))
      (unanswered : (time : ℕ) (path : Trail) (view : LineView) → made_of asked.settings.cache time machine path → RanSo (command_of machine) hold asked.settings.cache path view → 1 ≤ left_of machine → IsUnanswered view) (going : next_of machine ≢ places.Done → 1 ≤ left_of machine) where
    abbrev changed : WorldView
    changed = record { door = door; nodes = world.nodes; office = world.office; mail = world.mail }

    -- behind the turn the line goes with this trail
    goes_on : (path : Trail) → made_of asked.settings.cache r.goes.time later path → Goes asked line hold later now path
    goes_on path made = record { by = by ∙ r.goes.by; command = command ∙ r.goes.command; held = held r.goes.held; time = r.goes.time; told = r.goes.told; read = r.goes.read; made = made }

    -- nodes fit as they did, where the door's history is no shorter
    fit_on : length world.door ≤ length door → NodesFit asked stand changed
    fit_on longer = record { numbers = r.fit.numbers; each = all_weaker (is_fit asked.settings (length world.door) (lines_left stand asked.script.lines)) (is_fit asked.settings (length door) (lines_left stand asked.script.lines)) so world.nodes r.fit.each }
      where
        so : (x : NodeView) → IsTrue (is_fit asked.settings (length world.door) (lines_left stand asked.script.lines) x) → IsTrue (is_fit asked.settings (length door) (lines_left stand asked.script.lines) x)
        so x it =
            let two = and_parts (x.capacity == asked.settings.cache && nat_le x.front (length world.door)) (nat_le (lines_left stand asked.script.lines) x.room) it in
            let one = and_parts (x.capacity == asked.settings.cache) (nat_le x.front (length world.door)) two.0 in
            and_from _ _ (and_from _ _ one.0 (le-leb x.front (length door) (let a = leb-true x.front (length world.door) one.1 in let b = longer in omega arith))) two.1

    -- a machine that made its turn at the door isn't over
    still_on : (path : Trail) → made_of asked.settings.cache r.goes.time later path → answers_last path.turns ≡ false → is_over later ≡ false
    still_on path made none = elim (cases_Bool (is_over later)) [
      | inl over ↦ absurd (true≢false (sym (answers r.goes.time path made (over_done (next_of later) over)) ∙ none))
      | inr on ↦ on
    ]

    acted : (act : DoorAct) → door ≡ world.door ++ door_entry line act ∷ [] → made_of asked.settings.cache r.goes.time later (behind trail (AtDoor (length world.door) act)) → Turned asked stand seats changed line hold later now
    acted act grown made = inl (
      path,
      record {
        asks = r.asks;
        crowd =
            subst (λ (d : List DoorEntry). Crowd asked (ran_of (record changed { door = d })) stand (with_seat line.client (Busy hold line path) seats)) (sym grown)
            (acts_on asked (ran_of world) stand seats line hold trail r.crowd r.busy r.asks.asks act (subst Legal grown legal) (subst HasBytes grown bytes) promise);
        fit = fit_on (subst (λ (d : List DoorEntry). length world.door ≤ length d) (sym grown) (longer world.door (door_entry line act)));
        busy = ap (λ (b : Bool). if b then Busy hold line path else seats line.client) (eq-eqb line.client line.client refl);
        goes = goes_on path made;
        on = on;
        placed = r.placed;
      },
    )
      where
        path : Trail
        path = behind trail (AtDoor (length world.door) act)

        longer : (d : List DoorEntry) (e : DoorEntry) → length d ≤ length (d ++ e ∷ [])
        longer d e = subst (λ (k : ℕ). length d ≤ k) (sym (length-append d (e ∷ []))) (omega arith)

        on : is_over later ≡ false
        on = still_on (behind trail (AtDoor (length world.door) act)) made (door_last trail.turns (length world.door) act)

        promise : Promises (line_of line) line.order hold asked.settings.cache asked.clock false (behind trail (AtDoor (length world.door) act))
        promise =
            subst (λ (b : By). Promises b line.order hold asked.settings.cache asked.clock false (behind trail (AtDoor (length world.door) act))) (by ∙ r.goes.by)
            (subst (λ (c : Command). Promises (by_of later) c hold asked.settings.cache asked.clock false (behind trail (AtDoor (length world.door) act))) (command ∙ r.goes.command)
            (subst (λ (o : Bool). Promises (by_of later) (command_of later) hold asked.settings.cache asked.clock o (behind trail (AtDoor (length world.door) act))) on
            (promises r.goes.time (behind trail (AtDoor (length world.door) act)) r.goes.told made)))

    looked : door ≡ world.door → made_of asked.settings.cache r.goes.time later (looking trail world.door) → Turned asked stand seats changed line hold later now
    looked same made = inl (
      looking trail world.door,
      record {
        asks = r.asks;
        crowd =
            subst (λ (d : List DoorEntry). Crowd asked (ran_of (record changed { door = d })) stand (with_seat line.client (Busy hold line (looking trail world.door)) seats)) (sym same)
            (looks_on asked (ran_of world) stand seats line hold trail r.crowd r.busy);
        fit = fit_on (subst (λ (d : List DoorEntry). length world.door ≤ length d) (sym same) (omega arith));
        busy = ap (λ (b : Bool). if b then Busy hold line (looking trail world.door) else seats line.client) (eq-eqb line.client line.client refl);
        goes = goes_on (looking trail world.door) made;
        on = still_on (looking trail world.door) made none;
        placed = r.placed;
      },
    )
      where
        none : answers_last trail.turns ≡ false
        none =
            silent_last trail.turns
            (unanswered r.goes.time trail (record (view_of asked (ran_of world) line) { command = command_of machine; hold = hold; turns = trail.turns }) r.goes.made (record { asked = refl; held = refl; cache = refl; turns = refl }) (going (not_done (next_of machine) r.on)))

    pub turned : Turned asked stand seats changed line hold later now
    turned = by_step (steps asked.settings.cache r.goes.time may_call.2)
      where
        by_step : StepsAtDoor (by_of machine) (λ trail. made_of asked.settings.cache r.goes.time machine trail × FrontsWithin world.door trail.turns) (made_of asked.settings.cache r.goes.time later) world.door door → Turned asked stand seats changed line hold later now
        by_step (inl (act, grown, leads)) =
            acted act (subst (λ (b : By). door ≡ world.door ++ record { by = b; act = act } ∷ []) r.goes.by grown) (leads trail (r.goes.made, fronts_within asked (ran_of world) stand line hold trail its))
        by_step (inr (same, leads)) = looked same (leads trail (r.goes.made, fronts_within asked (ran_of world) stand line hold trail its))
