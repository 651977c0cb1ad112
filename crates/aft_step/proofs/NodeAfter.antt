-- What a turn of a line's machine at its node leaves.
use Rattle.std.proofs.Common.{arith, ◌≡◌, ◌≢◌, ℕ, ◌+◌, ◌-◌, ◌≤◌, Bool, true, false, ◌&&◌, List, [], ◌∷◌, ◌++◌, length, max, refl, sym, ap, subst, ◌∙◌, inl, inr, slice_get, slice_set}
use Rattle.std.specs.Prelude.{IsTrue, Option, Some, if◌then◌else◌, map, nat_le, ◌==◌}
use Rattle.std.specs.List.{list_all}
use Rattle.std.proofs.lemmas.Bool.{and_from, and_parts, cases_Bool, eq-eqb, le-leb, leb-true}
use Rattle.aft_commit.specs.Made as finishes
use Rattle.aft_ledger.specs.View.{NodeView, after_entry}
use Rattle.aft_lines.specs.Asked.{Asked, Ran}
use Rattle.aft_lines.specs.FinishedText.{line_of}
use Rattle.aft_lines.specs.LegalTrace.{is_clock_time}
use Rattle.aft_lines.specs.LineView.{LineView}
use Rattle.aft_lines.specs.Turns.{AtNode, Turn, answer_in}
use Rattle.aft_lines.specs.Views.{view_of}
use Rattle.aft_machine.specs.Asks.{MayEnd}
use Rattle.aft_machine.specs.OneNode.{AimsSo, GivesSo, Holds, by_of, command_of, hold_behind, is_nowhere, is_over, left_of, made_of, next_of}
use Rattle.aft_machine.specs.Starved.{is_copied}
use Rattle.aft_machine.specs.declared.machine.Machine.{Machine}
use Rattle.aft_machine.specs.declared.machine.Machine.TheVariants.{Begin, Crash, Finish, Forget, Put, Read, Start, Starve}
use Rattle.aft_model.proofs.Histories.{all_at, in_back}
use Rattle.aft_model.specs.declared.caller.By.{By}
use Rattle.aft_model.specs.declared.caller.Hold.{Hold}
use Rattle.aft_model.specs.declared.node.NodeAct.{NodeAct}
use Rattle.aft_model.specs.declared.node.NodeEntry.{NodeEntry}
use Rattle.aft_model.specs.declared.reply.Reply.{Reply}
use Rattle.aft_model.specs.declared.script.Command.{Command}
use Rattle.aft_model.specs.declared.script.Command.TheVariants as commands
use Rattle.aft_model.specs.declared.script.Line.{Line}
use Rattle.aft_model.specs.LegalNode.{LegalNode}
use Rattle.aft_model.specs.Replies.{is_silent}
use Rattle.aft_model.specs.ScanRun.{same_line}
use Rattle.aft_step.proofs.Lists.{all_set, counts_less, map_set_same, numbered_with}
use Rattle.aft_step.proofs.NodeTurn.{among, driven, is_node, may_go, number, place, room_for}
use Rattle.aft_step.specs.Going.{Running, Turned}
use Rattle.aft_step.specs.Worlds.{NodesFit, WorldView, is_fit, is_left, left_of as lines_left, ran_of}
use Rattle.aft_turns.specs.Stands.{IsUnanswered, RanSo}
use Rattle.aft_turns.specs.Steps.{StepsAtNode, entry_of}
use Rattle.aft_turns.specs.Trail.{Trail}
use Rattle.aft_turns.specs.declared.turn.Where.{Where}
use Rattle.aft_turns.specs.declared.turn.Where.TheVariants as places
use Rattle.law_accounts.specs.Account.{IsDone, Stand}
use Rattle.law_claims.proofs.Scenes.{by_itself}
use Rattle.law_clients.proofs.Goes.{steps_on}
use Rattle.law_clients.proofs.Over.{crowd_over}
use Rattle.law_clients.specs.Clients.{Busy, Crowd, Idle, Seat, held_behind, with_seat}
use Rattle.law_driver.specs.Driven.{IsNode, Promises}
use Rattle.law_driver.specs.Kept.{behind_node, with_node, with_stand}

pub over_done : (place : Where) → is_nowhere place ≡ true → place ≡ places.Done
over_done places.Done is = refl
over_done (places.Node n) is = absurd cc
over_done places.Door is = absurd cc
over_done (places.Mail n) is = absurd cc
over_done places.Office is = absurd cc

pub not_done : (place : Where) → is_nowhere place ≡ false → place ≢ places.Done
not_done places.Done is done = cc
not_done (places.Node n) is done = cc
not_done places.Door is done = cc
not_done (places.Mail n) is done = cc
not_done places.Office is done = cc

-- what a line that is over gives its client
gives_so : (machine : Machine) (line : Line) (hold : Hold) (turns : List Turn) → command_of machine ≡ line.order → AimsSo machine → Holds machine hold → GivesSo machine turns → hold_behind machine ≡ held_behind hold line turns
gives_so machine line hold turns command aims held gives = by_order line.order command
  where
    by_order : (order : Command) → command_of machine ≡ order → hold_behind machine ≡ held_behind hold (record line { order = order }) turns
    by_order order is = subst (λ (c : Command). hold_behind machine ≡ held_behind hold (record line { order = c }) turns) is (by_kind machine aims held gives)
      where
        starved_so : (c : Command) → IsTrue (is_copied c) → hold ≡ held_behind hold (record line { order = c }) turns
        starved_so (commands.Put key value) copied = refl
        starved_so (commands.Get key) copied = refl
        starved_so c copied = absurd cc

        finish_so : (aborts : Bool) → hold ≡ held_behind hold (record line { order = finishes.command_of aborts }) turns
        finish_so true = refl
        finish_so false = refl

        by_kind : (m : Machine) → AimsSo m → Holds m hold → GivesSo m turns → hold_behind m ≡ held_behind hold (record line { order = command_of m }) turns
        by_kind (Begin m) aims held gives = ap (λ o. record { node = m.node; attempt = o }) (sym gives)
        by_kind (Forget m it) aims held gives = held
        by_kind (Read m) aims held gives = held
        by_kind (Finish m) aims held gives = held ∙ finish_so m.aborts
        by_kind (Put m) aims held gives = held
        by_kind (Starve m) aims held gives = held ∙ starved_so m.command aims
        by_kind (Crash m it) aims held gives = held
        by_kind (Start m it) aims held gives = held

module _ (asked : Asked) (stand : Line → Stand) (seats : ℕ → Seat) (world : WorldView) (line : Line) (hold : Hold) (machine : Machine) (now : ℕ) (trail : Trail) (r : Running asked stand seats world line hold machine now trail) (aims : AimsSo machine)
    (n : ℕ) (next : next_of machine ≡ places.Node n) (node : NodeView) (there : slice_get world.nodes (n - 1) ≡ Some node) (after : NodeView) (nodes : List NodeView) (set : nodes ≡ slice_set world.nodes (n - 1) after) (legal : LegalNode after.number after.capacity after.history)
    (later : Machine) (by : by_of later ≡ by_of machine) (command : command_of later ≡ command_of machine) (held : Holds machine hold → Holds later hold) (front : ℕ) (whole : front ≡ length world.door)
    (steps : (time : ℕ) → MayEnd now time machine node.history → StepsAtNode (by_of machine) front (made_of node.capacity time machine) (made_of node.capacity time later) node after) where
  abbrev ran : Ran
  ran = ran_of world

  abbrev changed : WorldView
  changed = record { door = world.door; nodes = nodes; office = world.office; mail = world.mail }

  its_node : IsNode asked ran node
  its_node = is_node asked stand seats world line hold machine now trail r n next node there

  pub stepped : StepsAtNode (line_of line) (length world.door) (made_of asked.settings.cache r.goes.time machine) (made_of asked.settings.cache r.goes.time later) node after
  stepped =
      subst (λ (b : By). StepsAtNode b (length world.door) (made_of asked.settings.cache r.goes.time machine) (made_of asked.settings.cache r.goes.time later) node after) r.goes.by
      (subst (λ (f : ℕ). StepsAtNode (by_of machine) f (made_of asked.settings.cache r.goes.time machine) (made_of asked.settings.cache r.goes.time later) node after) whole
      (subst (λ (k : ℕ). StepsAtNode (by_of machine) front (made_of k r.goes.time machine) (made_of k r.goes.time later) node after) its_node.capacity
      (steps r.goes.time (may_go asked stand seats world line hold machine now trail r n next node there aims).1)))

  abbrev act : NodeAct
  act = stepped.0

  abbrev answer : Option Reply
  answer = stepped.1

  abbrev next_trail : Trail
  next_trail = behind_node ran line node act answer trail

  grown : after ≡ after_entry (length world.door) (line_of line) act answer node
  grown = stepped.2

  made_now : made_of asked.settings.cache r.goes.time later next_trail
  made_now = stepped.3 trail r.goes.made

  legal_entry : LegalNode node.number node.capacity (node.history ++ entry_of (line_of line) (length world.door) node act answer ∷ [])
  legal_entry = subst (λ (x : NodeView). LegalNode x.number x.capacity x.history) grown legal

  held_now : Holds later hold
  held_now = held r.goes.held

  ran_is : with_node ran line node act answer ≡ ran_of changed
  ran_is =
      ap (λ (l : List (List NodeEntry)). record { trace = record { door = world.door; nodes = l; office = world.office }; mail = world.mail })
      (sym (ap (map (λ (x : NodeView). x.history)) set
      ∙ numbered_with (λ (x : NodeView). x.history) world.nodes 1 (n - 1) node.number node after (entry_of (line_of line) (length world.door) node act answer) there
      (past_one n (place asked stand seats world line hold machine now trail r n next) ∙ sym (number asked stand seats world line hold machine now trail r n next node there)) (ap (λ (x : NodeView). x.history) grown)))
    where
      past_one : (k : ℕ) → 1 ≤ k → 1 + (k - 1) ≡ k
      past_one k l = omega arith

  numbers_now : map (λ (x : NodeView). x.number) nodes ≡ map (λ (x : NodeView). x.number) world.nodes
  numbers_now = ap (map (λ (x : NodeView). x.number)) set ∙ map_set_same (λ (x : NodeView). x.number) world.nodes (n - 1) node after there (ap (λ (x : NodeView). x.number) grown)

  front_fits : IsTrue (nat_le (max node.front (length world.door)) (length world.door))
  front_fits = le-leb _ _ (at_most node.front (length world.door) its_node.front)
    where
      at_most : (a b : ℕ) → a ≤ b → max a b ≤ b
      at_most a b l = omega arith

  -- the node fits with as many lines left as it has room for
  fits_with : (left : ℕ) → left ≤ after.room → IsTrue (is_fit asked.settings (length world.door) left after)
  fits_with left low =
      and_from _ _
      (and_from _ _ (subst (λ (x : NodeView). IsTrue (x.capacity == asked.settings.cache)) (sym grown) (eq-eqb node.capacity asked.settings.cache its_node.capacity)) (subst (λ (x : NodeView). IsTrue (nat_le x.front (length world.door))) (sym grown) front_fits))
      (le-leb left after.room low)

  old_room : lines_left stand asked.script.lines ≤ node.room
  old_room = room_for asked stand seats world line hold machine now trail r n next node there

  module _ (promises : (time : ℕ) (next : Trail) → IsTrue (is_clock_time asked.clock time) → made_of asked.settings.cache time later next → Promises (by_of later) (command_of later) hold asked.settings.cache asked.clock (is_over later) next) where
    promise : Promises (line_of line) line.order hold asked.settings.cache asked.clock (is_over later) next_trail
    promise =
        subst (λ (b : By). Promises b line.order hold asked.settings.cache asked.clock (is_over later) next_trail) (by ∙ r.goes.by)
        (subst (λ (c : Command). Promises (by_of later) c hold asked.settings.cache asked.clock (is_over later) next_trail) (command ∙ r.goes.command)
        (promises r.goes.time next_trail r.goes.told made_now))

    -- ---- it runs on

    module _ (on : is_over later ≡ false) (unanswered : (time : ℕ) (next : Trail) (view : LineView) → made_of asked.settings.cache time later next → RanSo (command_of later) hold asked.settings.cache next view → 1 ≤ left_of later → IsUnanswered view) (going : next_of later ≢ places.Done → 1 ≤ left_of later) where
      abbrev its_view : LineView
      its_view = record (view_of asked ran line) { command = command_of later; hold = hold; turns = next_trail.turns }

      silent : is_silent answer ≡ true
      silent =
          all_at (λ (t : Turn). is_silent (answer_in t)) (AtNode node.number node.history (entry_of (line_of line) (length world.door) node act answer)) next_trail.turns
          (in_back (AtNode node.number node.history (entry_of (line_of line) (length world.door) node act answer)) trail.turns (AtNode node.number node.history (entry_of (line_of line) (length world.door) node act answer) ∷ []) (inl refl))
          (unanswered r.goes.time next_trail its_view made_now (record { asked = refl; held = refl; cache = refl; turns = refl }) (going (not_done (next_of later) on)))

      room_same : after.room ≡ node.room
      room_same = ap (λ (x : NodeView). x.room) grown ∙ ap (λ (b : Bool). if b then node.room else node.room - 1) silent

      pub runs_on : Running asked stand (with_seat line.client (Busy hold line next_trail) seats) changed line hold later now next_trail
      runs_on = record {
        asks = r.asks;
        crowd =
            subst (λ (x : Ran). Crowd asked x stand (with_seat line.client (Busy hold line next_trail) seats)) ran_is
            (steps_on asked ran stand seats line hold trail r.crowd r.busy r.asks.asks r.asks.one_node node act answer its_node legal_entry (subst (λ (b : Bool). Promises (line_of line) line.order hold asked.settings.cache asked.clock b next_trail) on promise));
        fit = record {
          numbers = numbers_now ∙ r.fit.numbers;
          each =
              subst (λ (l : List NodeView). IsTrue (list_all (is_fit asked.settings (length world.door) (lines_left stand asked.script.lines)) l)) (sym set)
              (all_set (is_fit asked.settings (length world.door) (lines_left stand asked.script.lines)) (is_fit asked.settings (length world.door) (lines_left stand asked.script.lines)) (λ x it. it) world.nodes (n - 1) after r.fit.each (fits_with (lines_left stand asked.script.lines) (let a = old_room in let b = room_same in omega arith)));
        };
        busy = ap (λ (b : Bool). if b then Busy hold line next_trail else seats line.client) (eq-eqb line.client line.client refl);
        goes = record { by = by ∙ r.goes.by; command = command ∙ r.goes.command; held = held_now; time = r.goes.time; told = r.goes.told; read = r.goes.read; made = made_now };
        on = on;
        placed = r.placed;
      }

    -- ---- it is over

    module _ (over : is_over later ≡ true) (aims_now : AimsSo later) (gives : (time : ℕ) (next : Trail) → made_of asked.settings.cache time later next → next_of later ≡ places.Done → GivesSo later next.turns) where
      abbrev done : Line → Stand
      done = with_stand line IsDone stand

      fewer : lines_left done asked.script.lines + 1 ≤ lines_left stand asked.script.lines
      fewer =
          counts_less (λ (l : Line). is_left (stand l)) (λ (l : Line). is_left (done l)) (λ x it. by_same x (same_line (line_of x) (line_of line)) it) line asked.script.lines (among asked stand seats world line hold machine now trail r)
          (ap is_left (driven asked stand seats world line hold machine now trail r).runs) (ap (λ (b : Bool). is_left (if b then IsDone else stand line)) (by_itself (line_of line)))
        where
          by_same : (x : Line) (same : Bool) → IsTrue (is_left (if same then IsDone else stand x)) → IsTrue (is_left (stand x))
          by_same x true it = absurd cc
          by_same x false it = it

      room_left : lines_left done asked.script.lines ≤ after.room
      room_left = at_least (is_silent answer) (ap (λ (x : NodeView). x.room) grown)
        where
          at_least : (s : Bool) → after.room ≡ (if s then node.room else node.room - 1) → lines_left done asked.script.lines ≤ after.room
          at_least true is = let a = fewer in let b = old_room in omega arith
          at_least false is = let a = fewer in let b = old_room in omega arith

      weaker : (x : NodeView) → IsTrue (is_fit asked.settings (length world.door) (lines_left stand asked.script.lines) x) → IsTrue (is_fit asked.settings (length world.door) (lines_left done asked.script.lines) x)
      weaker x it =
          let two = and_parts (x.capacity == asked.settings.cache && nat_le x.front (length world.door)) (nat_le (lines_left stand asked.script.lines) x.room) it in
          and_from _ _ two.0 (le-leb (lines_left done asked.script.lines) x.room (let a = fewer in let b = leb-true (lines_left stand asked.script.lines) x.room two.1 in omega arith))

      pub crowd_now : Crowd asked (ran_of changed) done (with_seat line.client (Idle (hold_behind later)) seats)
      crowd_now =
          subst (λ (h : Hold). Crowd asked (ran_of changed) done (with_seat line.client (Idle h) seats)) (sym (gives_so later line hold next_trail.turns (command ∙ r.goes.command) aims_now held_now (gives r.goes.time next_trail made_now (over_done (next_of later) over))))
          (subst (λ (x : Ran). Crowd asked x done (with_seat line.client (Idle (held_behind hold line next_trail.turns)) seats)) ran_is
          (crowd_over asked ran stand seats line hold trail node act answer r.asks.script r.asks.words r.asks.ordered r.asks.asks r.asks.one_node r.crowd r.busy its_node legal_entry (subst (λ (b : Bool). Promises (line_of line) line.order hold asked.settings.cache asked.clock b next_trail) over promise)))

      pub fit_now : NodesFit asked done changed
      fit_now = record {
        numbers = numbers_now ∙ r.fit.numbers;
        each =
            subst (λ (l : List NodeView). IsTrue (list_all (is_fit asked.settings (length world.door) (lines_left done asked.script.lines)) l)) (sym set)
            (all_set (is_fit asked.settings (length world.door) (lines_left stand asked.script.lines)) (is_fit asked.settings (length world.door) (lines_left done asked.script.lines)) weaker world.nodes (n - 1) after r.fit.each (fits_with (lines_left done asked.script.lines) room_left));
      }

    pub turned : ((time : ℕ) (next : Trail) (view : LineView) → made_of asked.settings.cache time later next → RanSo (command_of later) hold asked.settings.cache next view → 1 ≤ left_of later → IsUnanswered view) → (next_of later ≢ places.Done → 1 ≤ left_of later) → AimsSo later
        → ((time : ℕ) (next : Trail) → made_of asked.settings.cache time later next → next_of later ≡ places.Done → GivesSo later next.turns) → Turned asked stand seats changed line hold later now
    turned unanswered going aims_now gives = elim (cases_Bool (is_over later)) [
      | inl over ↦ inr (record { over = over; command = command ∙ r.goes.command; held = held_now; crowd = crowd_now over aims_now gives; fit = fit_now over aims_now gives })
      | inr on ↦ inl (next_trail, runs_on on unanswered going)
    ]
