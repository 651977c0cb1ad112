-- What stands of a start by the turns that it has made.
use Rattle.std.proofs.Common.{◌≡◌, ◌≤◌, ℕ, Bool, true, false, List, [], ◌∷◌, ◌++◌, eqb, length, max, refl, sym, ap, subst, ◌∙◌, ◌⊎◌, inl, inr, arith}
use Rattle.std.specs.Prelude.{IsTrue, None, Option, Some, is_some, map, take}
use Rattle.std.specs.List.{fold, list_all}
use Rattle.std.proofs.lemmas.Bool.{and_from, eq-eqb, or_left}
use Rattle.std.proofs.lemmas.List.Folds.{list_all-append}
use Rattle.std.proofs.lemmas.List.Sums.{fold-append}
use Rattle.aft_keeper.specs.declared.keeper.KeeperAnswer.{KeeperAnswer}
use Rattle.aft_records.specs.declared.stored.Commit.{Commit}
use Rattle.aft_model.specs.declared.caller.By.{By}
use Rattle.aft_model.specs.declared.caller.Hold.{Hold}
use Rattle.aft_model.specs.declared.door.DoorEntry.{DoorEntry}
use Rattle.aft_model.specs.declared.node.NodeAct.{NodeAct}
use Rattle.aft_model.specs.declared.node.NodeAct.TheVariants as acts
use Rattle.aft_model.specs.declared.node.NodeEntry.{NodeEntry}
use Rattle.aft_model.specs.declared.reply.Reply.{Reply}
use Rattle.aft_model.specs.declared.reply.Reply.TheVariants as replies
use Rattle.aft_model.specs.declared.script.Command.TheVariants as commands
use Rattle.aft_model.specs.Membership.{incarnation}
use Rattle.aft_model.specs.NodeState.{IsBooting, IsDown, IsServing, NodeState, Service, in_service, newest, node_state, service_in}
use Rattle.aft_model.specs.Replies.{is_silent}
use Rattle.aft_model.specs.ScanRun.{goes_on, is_scan_run}
use Rattle.aft_ledger.specs.Turns.{boot_refusal}
use Rattle.aft_lines.specs.Advance.{is_led_to_end}
use Rattle.aft_lines.specs.Causes.{Caused}
use Rattle.aft_lines.specs.CausesNodes.{is_boot_running}
use Rattle.aft_lines.specs.CourseWords.{Ends, closes}
use Rattle.aft_lines.specs.LineCourse.{answers_last}
use Rattle.aft_lines.specs.LineView.{LineView, ends_of, has_left, last_front}
use Rattle.aft_lines.specs.Lines.{node_numbers}
use Rattle.aft_lines.specs.Makes.{starts_at_node}
use Rattle.aft_lines.specs.Progress.{MustComeUp, NotBegun, Progress}
use Rattle.aft_lines.specs.RunsSoFar.{position_of}
use Rattle.aft_lines.specs.Turns.{AtDoor, Turn, answer_in}
use Rattle.aft_node.specs.declared.goes.BootEnd.{BootEnd}
use Rattle.aft_node.specs.declared.goes.BootEnd.TheVariants.{Refused, Shown}
use Rattle.aft_turns.specs.Stands.{EndsRightly, GoesRightly, HasLooked, IsUnanswered, RanSo, is_right}
use Rattle.aft_turns.specs.Trail.{Trail}
use Rattle.aft_turns.specs.declared.turn.Where.TheVariants as places
use Rattle.aft_turns.proofs.Closed.{led_is_some}
use Rattle.aft_turns.proofs.Views.{by_words, with_words}
use Rattle.aft_boot.specs.Booted.{AreRead, Closes, EndedLater, HasBegun, HasRead, HasStopped, IsShutOut, IsToEnd, PageAt, StopsAt, begun_turns, listed_on, made_at, page_act, page_turn, scan_page, up_turns}
use Rattle.aft_boot.specs.BootView.{Fits, left_at, next_at}
use Rattle.aft_boot.specs.Crashed.{turn_at}
use Rattle.aft_boot.specs.declared.stage.Stage.{Stage}
use Rattle.aft_boot.specs.declared.stage.Stage.TheVariants.{Begins, ComesUp, Ended, Ends as ToEnd, Scans}
use Rattle.aft_boot.proofs.BootCauses.{left, shut_out, started, stopped}
use Rattle.aft_boot.proofs.Entries.{AreDoor, are_silent, both_door, ends_with, last_answers, pages_door, up_door}
use Rattle.aft_boot.proofs.Led.{Closes as ClosesLine, InBoot, any_call, at_in_boot, behind_pages, ends_any, ends_whole, goes_so, step, through, whole_so}

-- ---- its turns are those of a start of this node

-- each of some turns is one of such a start
abbrev AreRight : ℕ → Hold → List Turn → Type 0
AreRight node hold turns = IsTrue (list_all (is_right (commands.Start node) hold) turns)

-- a turn at the node that a start makes
right_at : (by : By) (node : ℕ) (hold : Hold) (before : List NodeEntry) (front : ℕ) (act : NodeAct) (answer : Option Reply) → IsTrue (starts_at_node act) → IsTrue (is_right (commands.Start node) hold (turn_at by node before front act answer))
right_at by node hold before front act answer made = and_from _ _ (and_from _ _ (and_from _ _ made refl) (eq-eqb node node refl)) refl

ups_right : (node inc : ℕ) (hold : Hold) (up : Option ℕ) → AreRight node hold (up_turns node inc up)
ups_right node inc hold None = refl
ups_right node inc hold (Some place) = and_from _ _ (and_from _ _ (eq-eqb node node refl) refl) refl

pages_right : (node inc : ℕ) (hold : Hold) (pages : List PageAt) → AreRight node hold (map (page_turn node inc) pages)
pages_right node inc hold [] = refl
pages_right node inc hold (page ∷ pages) = and_from _ _ refl (pages_right node inc hold pages)

all_right : (by : By) (node inc : ℕ) (hold : Hold) (before : List NodeEntry) (front : ℕ) (up : Option ℕ) (pages : List PageAt) (more : List Turn) → AreRight node hold more → AreRight node hold (begun_turns by node inc before front up pages ++ more)
all_right by node inc hold before front up pages more its =
    list_all-append (is_right (commands.Start node) hold) (begun_turns by node inc before front up pages) more
    ∙ and_from _ _ (and_from _ _ (right_at by node hold before front (acts.Booting inc) None refl) (list_all-append (is_right (commands.Start node) hold) (up_turns node inc up) (map (page_turn node inc) pages) ∙ and_from _ _ (ups_right node inc hold up) (pages_right node inc hold pages))) its

-- behind its first turn it is at the door
begun_door : (node inc : ℕ) (up : Option ℕ) (pages : List PageAt) (more : List Turn) → AreDoor more → AreDoor ((up_turns node inc up ++ map (page_turn node inc) pages) ++ more)
begun_door node inc up pages more door =
    both_door (up_turns node inc up ++ map (page_turn node inc) pages) more (both_door (up_turns node inc up) (map (page_turn node inc) pages) (up_door node inc up) (pages_door node inc pages)) door

one_reply : (r q : Reply) → Some r ≡ Some q → r ≡ q
one_reply r q e = cc

some_position : (node inc : ℕ) (nodes : List ℕ) (ends_so : Ends) (position : Option Progress) → InBoot node inc nodes ends_so position → IsTrue (is_some position)
some_position node inc nodes ends_so position (inl (scan, its, is)) = subst (λ (p : Option Progress). IsTrue (is_some p)) (sym is) refl
some_position node inc nodes ends_so position (inr (inl is)) = subst (λ (p : Option Progress). IsTrue (is_some p)) (sym is) refl
some_position node inc nodes ends_so position (inr (inr (whole, is))) = subst (λ (p : Option Progress). IsTrue (is_some p)) (sym is) refl

-- ---- one start that began a boot

module _ (by : By) (node : ℕ) (hold : Hold) (view : LineView) (inc : ℕ) (before : List NodeEntry) (front : ℕ) (newest_is : max (newest before) inc ≡ inc) (up : Option ℕ) (pages : List PageAt) (read : AreRead pages) where
  abbrev ran : List Turn → LineView
  ran turns = with_words (commands.Start node) hold turns view

  abbrev begun : List Turn → List Turn
  begun more = begun_turns by node inc before front up pages ++ more

  -- where its turns lead, by this view
  abbrev behind : List Turn → Option Progress
  behind turns = behind_pages node inc (node_numbers view.settings) (ends_of (ran turns)) (fold (step node inc (node_numbers view.settings) (ends_of (ran turns))) (Some (MustComeUp (incarnation node inc))) (up_turns node inc up)) pages

  abbrev Boots : List Turn → List Turn → Type 0
  Boots turns more = InBoot node inc (node_numbers view.settings) (ends_of (ran turns)) (fold (step node inc (node_numbers view.settings) (ends_of (ran turns))) (behind turns) more)

  goes_right : (more : List Turn) → ((turns : List Turn) → Boots turns more) → AreRight node hold more → GoesRightly (ran (begun more))
  goes_right more boots its = record {
    leads = subst (λ (p : Option Progress). IsTrue (is_some p)) (sym (through node inc (node_numbers view.settings) (ends_of (ran (begun more))) by before front up pages more)) (some_position node inc (node_numbers view.settings) (ends_of (ran (begun more))) _ (boots (begun more)));
    right = all_right by node inc hold before front up pages more its;
  }

  silent_so : (more : List Turn) → AreDoor more → IsTrue (list_all (λ turn. is_silent (answer_in turn)) (begun more))
  silent_so more door =
      and_from _ _ refl (are_silent ((up_turns node inc up ++ map (page_turn node inc) pages) ++ more) (begun_door node inc up pages more door))

  -- ---- what its scan is at

  pub boots_on : (turns : List Turn) (after : List ℕ) → goes_on (Some []) (map scan_page pages) ≡ Some after → Boots turns []
  boots_on turns after goes = at_in_boot node inc (node_numbers view.settings) (ends_of (ran turns)) after (listed_on pages) (behind turns) (goes_so node inc (node_numbers view.settings) (ends_of (ran turns)) by before front up pages after goes read)

  pub boots_behind : (turns : List Turn) (after : List ℕ) (place : ℕ) (answer : KeeperAnswer) → goes_on (Some []) (map scan_page pages) ≡ Some after → Boots turns (AtDoor place (page_act node inc after answer) ∷ [])
  boots_behind turns after place answer goes = any_call node inc (node_numbers view.settings) (ends_of (ran turns)) place after (listed_on pages) answer (behind turns) (goes_so node inc (node_numbers view.settings) (ends_of (ran turns)) by before front up pages after goes read)

  pub boots_whole : (turns : List Turn) → IsTrue (is_scan_run (map scan_page pages)) → Boots turns []
  boots_whole turns whole = inr (inr (true, whole_so node inc (node_numbers view.settings) (ends_of (ran turns)) by before front up pages whole read))

  -- ---- one that is over

  module _ (last_before : List NodeEntry) (last_at : ℕ) where
    abbrev last : NodeAct → Reply → Turn
    last act reply = turn_at by node last_before last_at act (Some reply)

    abbrev all_turns : List Turn → NodeAct → Reply → List Turn
    all_turns more act reply = begun more ++ last act reply ∷ []

    -- the last turn passes, whatever its scan was
    abbrev Passes : List Turn → NodeAct → Reply → Bool → Type 0
    Passes turns act reply whole = ClosesLine node inc (node_numbers view.settings) (ends_of (ran turns)) by before front last_before last_at act reply whole

    leads_last : (more : List Turn) (act : NodeAct) (reply : Reply) → position_of (ran (all_turns more act reply)) ≡ step node inc (node_numbers view.settings) (ends_of (ran (all_turns more act reply))) (fold (step node inc (node_numbers view.settings) (ends_of (ran (all_turns more act reply)))) (behind (all_turns more act reply)) more) (last act reply)
    leads_last more act reply =
        fold-append (step node inc (node_numbers view.settings) (ends_of (ran (all_turns more act reply)))) (Some NotBegun) (begun more) (last act reply ∷ [])
        ∙ ap (λ (p : Option Progress). step node inc (node_numbers view.settings) (ends_of (ran (all_turns more act reply))) p (last act reply)) (through node inc (node_numbers view.settings) (ends_of (ran (all_turns more act reply))) by before front up pages more)

    led_any : (more : List Turn) (act : NodeAct) (reply : Reply) → Boots (all_turns more act reply) more → ((whole : Bool) → Passes (all_turns more act reply) act reply whole) → IsTrue (is_led_to_end (position_of (ran (all_turns more act reply))))
    led_any more act reply boots passes =
        subst (λ (p : Option Progress). IsTrue (is_led_to_end p)) (sym (leads_last more act reply))
        (ends_any node inc (node_numbers view.settings) (ends_of (ran (all_turns more act reply))) by before front last_before last_at act reply _ boots passes)

    over : (more : List Turn) (act : NodeAct) (reply : Reply) → AreDoor more → AreRight node hold more → IsTrue (starts_at_node act) → IsTrue (is_led_to_end (position_of (ran (all_turns more act reply)))) → Caused (ran (all_turns more act reply)) reply → GoesRightly (ran (all_turns more act reply)) × EndsRightly (ran (all_turns more act reply))
    over more act reply door its made led caused = (
      record {
        leads = led_is_some _ led;
        right = list_all-append (is_right (commands.Start node) hold) (begun more) (last act reply ∷ []) ∙ and_from _ _ (all_right by node inc hold before front up pages more its) (and_from _ _ (right_at by node hold last_before last_at act (Some reply) made) refl);
      },
      record {
        leads = led;
        answers = last_answers ((up_turns node inc up ++ map (page_turn node inc) pages) ++ more) (turn_at by node before front (acts.Booting inc) None) (last act reply) (begun_door node inc up pages more door) refl refl;
        caused = λ told is. subst (Caused (ran (all_turns more act reply))) (one_reply reply told (sym (ends_with (begun more) (last act reply)) ∙ is)) caused;
      },
    )

    -- what goes rightly and, where the look stands at its beginning, ends rightly
    abbrev Rightly : List DoorEntry → List Turn → Type 0
    Rightly look turns = GoesRightly (ran turns) × ((rest : List DoorEntry) → take (last_front (ran turns)) view.seen ≡ look ++ rest → EndsRightly (ran turns))

    -- it is stopped
    stops_line : (turns : List Turn) (reply : Reply) (whole : Bool) → Passes turns (acts.BootStopped inc) reply whole
    stops_line turns reply whole = or_left _ _ (eq-eqb inc inc refl)

    -- the node has left the incarnation
    leaves_line : (turns : List Turn) → IsTrue (has_left inc (node_state last_before)) → (whole : Bool) → Passes turns acts.Nothing (replies.NodeDown node inc) whole
    leaves_line turns gone whole = gone

    pub left_rightly : (look : List DoorEntry) (more : List Turn) → AreDoor more → AreRight node hold more → ((turns : List Turn) → Boots turns more) → IsTrue (has_left inc (node_state last_before)) → Rightly look (all_turns more acts.Nothing (replies.NodeDown node inc))
    left_rightly look more door its boots gone =
        let both = over more acts.Nothing (replies.NodeDown node inc) door its refl (led_any more acts.Nothing (replies.NodeDown node inc) (boots (all_turns more acts.Nothing (replies.NodeDown node inc))) (leaves_line (all_turns more acts.Nothing (replies.NodeDown node inc)) gone)) (left by node hold view inc before front newest_is up pages read last_before last_at more door acts.Nothing (replies.NodeDown node inc) gone) in
        (both.0, λ rest begins. both.1)

    pub stopped_rightly : (look : List DoorEntry) (more : List Turn) (reply : Reply) → AreDoor more → AreRight node hold more → ((turns : List Turn) → Boots turns more)
        → ((rest : List DoorEntry) → take (last_front (ran (all_turns more (acts.BootStopped inc) reply))) view.seen ≡ look ++ rest → Caused (ran (all_turns more (acts.BootStopped inc) reply)) reply) → Rightly look (all_turns more (acts.BootStopped inc) reply)
    stopped_rightly look more reply door its boots caused = (
      (record {
        leads = led_is_some _ led;
        right = list_all-append (is_right (commands.Start node) hold) (begun more) (last (acts.BootStopped inc) reply ∷ []) ∙ and_from _ _ (all_right by node inc hold before front up pages more its) (and_from _ _ (right_at by node hold last_before last_at (acts.BootStopped inc) (Some reply) refl) refl);
      }),
      λ rest begins. (over more (acts.BootStopped inc) reply door its refl led (caused rest begins)).1,
    )
      where
        led : IsTrue (is_led_to_end (position_of (ran (all_turns more (acts.BootStopped inc) reply))))
        led = led_any more (acts.BootStopped inc) reply (boots (all_turns more (acts.BootStopped inc) reply)) (stops_line (all_turns more (acts.BootStopped inc) reply) reply)

    pub started_rightly : (look : List DoorEntry) (commits : List Commit) → IsTrue (is_scan_run (map scan_page pages)) → Rightly look (all_turns [] (acts.Boot inc commits) (replies.Started node inc))
    started_rightly look commits whole =
        let both = over [] (acts.Boot inc commits) (replies.Started node inc) refl refl refl led (started by node hold view inc before front newest_is up pages read last_before last_at commits whole) in
        (both.0, λ rest begins. both.1)
      where
        led : IsTrue (is_led_to_end (position_of (ran (all_turns [] (acts.Boot inc commits) (replies.Started node inc)))))
        led =
            subst (λ (p : Option Progress). IsTrue (is_led_to_end p)) (sym (leads_last [] (acts.Boot inc commits) (replies.Started node inc)))
            (ends_whole node inc (node_numbers view.settings) (ends_of (ran (all_turns [] (acts.Boot inc commits) (replies.Started node inc)))) by before front last_before last_at (acts.Boot inc commits) (replies.Started node inc) (behind (all_turns [] (acts.Boot inc commits) (replies.Started node inc)))
            (whole_so node inc (node_numbers view.settings) (ends_of (ran (all_turns [] (acts.Boot inc commits) (replies.Started node inc)))) by before front up pages whole read) (or_left _ _ (eq-eqb inc inc refl)))

-- ---- one whose first turn answered

module _ (by : By) (node : ℕ) (hold : Hold) (view : LineView) (before : List NodeEntry) (front : ℕ) (reply : Reply) where
  abbrev ran_once : LineView
  ran_once = with_words (commands.Start node) hold (turn_at by node before front acts.Nothing (Some reply) ∷ []) view

  goes_once : GoesRightly ran_once
  goes_once = record { leads = refl; right = and_from _ _ (right_at by node hold before front acts.Nothing (Some reply) refl) refl }

  refused_caused : boot_refusal node (node_state before) ≡ Some reply → Caused ran_once reply
  refused_caused is = by_state (node_state before) refl is
    where
      none_is : None ≡ Some reply → ⊥
      none_is e = cc

      by_state : (state : NodeState) → node_state before ≡ state → boot_refusal node state ≡ Some reply → Caused ran_once reply
      by_state IsDown at is = absurd (none_is is)
      by_state (IsBooting inc false) at is = absurd (none_is is)
      by_state (IsBooting inc true) at is =
          subst (Caused ran_once) (one_reply (replies.IsBooting node inc) reply is)
          (and_from _ _ (eq-eqb node node refl) (subst (λ (s : NodeState). IsTrue (is_boot_running inc s)) (sym at) (and_from _ _ (eq-eqb inc inc refl) refl)))
      by_state (IsServing s) at is =
          subst (Caused ran_once) (one_reply (replies.IsUp node s.inc) reply is)
          (and_from _ _ (eq-eqb node node refl) (subst (λ (state : NodeState). IsTrue (in_service (λ (serving : Service). eqb s.inc serving.inc) (service_in state))) (sym at) (eq-eqb s.inc s.inc refl)))

  ends_once : (reply ≡ replies.NoMemory) ⊎ (boot_refusal node (node_state before) ≡ Some reply) → EndsRightly ran_once
  ends_once why = record { leads = refl; answers = refl; caused = λ told is. subst (Caused ran_once) (one_reply reply told is) (by_why why) }
    where
      by_why : (reply ≡ replies.NoMemory) ⊎ (boot_refusal node (node_state before) ≡ Some reply) → Caused ran_once reply
      by_why (inl is) = subst (Caused ran_once) (sym is) refl
      by_why (inr is) = refused_caused is

-- ---- by how far it has come

pub nothing_left : (node : ℕ) (stage : Stage) → next_at node stage ≡ places.Done → stage ≡ Ended
nothing_left node Begins e = absurd (not_node e)
  where
    not_node : places.Node node ≡ places.Done → ⊥
    not_node e = cc
nothing_left node (ComesUp inc) e = absurd (not_door e)
  where
    not_door : places.Door ≡ places.Done → ⊥
    not_door e = cc
nothing_left node (Scans inc after listed commits) e = absurd (not_door e)
  where
    not_door : places.Door ≡ places.Done → ⊥
    not_door e = cc
nothing_left node (ToEnd inc end) e = absurd (not_node e)
  where
    not_node : places.Node node ≡ places.Done → ⊥
    not_node e = cc
nothing_left node Ended e = refl

-- and any other has a turn left
pub going_so : (node : ℕ) (stage : Stage) → Fits stage → (next_at node stage ≡ places.Done → ⊥) → 1 ≤ left_at stage
going_so node Begins fits going = omega arith
going_so node (ComesUp inc) fits going = omega arith
going_so node (Scans inc after listed commits) fits going = let few = fits.few in omega arith
going_so node (ToEnd inc end) fits going = omega arith
going_so node Ended fits going = absurd (going refl)

-- ---- the last turn alone answers, whatever it has seen

stops_door : (node inc : ℕ) (look : List DoorEntry) (after : List ℕ) (listed : ℕ) (more : List Turn) (reply : Reply) → StopsAt node inc look after listed more reply → AreDoor more
stops_door node inc look after listed more reply (inl (none, shut)) = subst AreDoor (sym none) refl
stops_door node inc look after listed more reply (inr (place, answer, one, stops)) = subst AreDoor (sym one) refl

module _ (by : By) (node : ℕ) where
  begun_answers : (inc : ℕ) (up : Option ℕ) (pages : List PageAt) (more : List Turn) (since : Trail) (begun : HasBegun by node inc up pages more since) (last : Turn) (turns : List Turn) → turns ≡ since.turns ++ last ∷ [] → AreDoor more → IsTrue (is_some (answer_in last)) → IsTrue (answers_last turns)
  begun_answers inc up pages more since begun last turns are door told =
      subst (λ (ts : List Turn). IsTrue (answers_last ts)) (sym (are ∙ ap (λ (ts : List Turn). ts ++ last ∷ []) begun.turns))
      (last_answers ((up_turns node inc up ++ map (page_turn node inc) pages) ++ more) (turn_at by node begun.before begun.front (acts.Booting inc) None) last (begun_door node inc up pages more door) refl told)

  later_answers : (trail : Trail) (ended : EndedLater by node trail) (end : BootEnd) → IsToEnd by node ended.inc end ended.since → IsTrue (answers_last trail.turns)
  later_answers trail ended (Shown commits) has =
      begun_answers ended.inc has.up has.pages [] ended.since has.begun (turn_at by node ended.before ended.front ended.act (Some ended.reply)) trail.turns ended.turns refl refl
  later_answers trail ended (Refused why) has =
      begun_answers ended.inc has.up has.pages has.more ended.since has.begun (turn_at by node ended.before ended.front ended.act (Some ended.reply)) trail.turns ended.turns (stops_door node ended.inc ended.since.look has.after (length (listed_on has.pages)) has.more why has.stops) refl

  pub answers_so_far : (trail : Trail) (stage : Stage) → stage ≡ Ended → made_at by node stage trail → IsTrue (answers_last trail.turns)
  answers_so_far trail stage over made = by_end (subst (λ (s : Stage). made_at by node s trail) over made)
    where
      by_end : made_at by node Ended trail → IsTrue (answers_last trail.turns)
      by_end (inl once) = subst (λ (ts : List Turn). IsTrue (answers_last ts)) (sym once.turns) refl
      by_end (inr later) = later_answers trail later later.end later.is_to

none_read : AreRead []
none_read = record { few = omega arith; readable = refl }

module _ (by : By) (node : ℕ) (hold : Hold) (capacity : ℕ) (trail : Trail) (view : LineView) (is : RanSo (commands.Start node) hold capacity trail view) where
  -- the line stands so, where one of these turns does
  so : (P : LineView → Type 0) (turns : List Turn) → trail.turns ≡ turns → P (with_words (commands.Start node) hold turns view) → P view
  so P turns same holds = by_words P (commands.Start node) hold capacity trail view turns is same holds

  -- a start that stopped
  stopped_goes : (inc : ℕ) (reply : Reply) (has : HasStopped by node inc reply trail) (more : List Turn) → trail.turns ≡ begun_turns by node inc has.begun.before has.begun.front has.up has.pages ++ more → StopsAt node inc trail.look has.after (length (listed_on has.pages)) more reply → GoesRightly view
  stopped_goes inc reply has more turns (inl (none, shut)) =
      so GoesRightly _ (turns ∙ ap (λ (ts : List Turn). begun_turns by node inc has.begun.before has.begun.front has.up has.pages ++ ts) none)
      (goes_right by node hold view inc has.begun.before has.begun.front has.begun.newest has.up has.pages has.read [] (λ ts. boots_on by node hold view inc has.begun.before has.begun.front has.begun.newest has.up has.pages has.read ts has.after has.goes) refl)
  stopped_goes inc reply has more turns (inr (place, answer, one, stops)) =
      so GoesRightly _ (turns ∙ ap (λ (ts : List Turn). begun_turns by node inc has.begun.before has.begun.front has.up has.pages ++ ts) one)
      (goes_right by node hold view inc has.begun.before has.begun.front has.begun.newest has.up has.pages has.read (AtDoor place (page_act node inc has.after answer) ∷ []) (λ ts. boots_behind by node hold view inc has.begun.before has.begun.front has.begun.newest has.up has.pages has.read ts has.after place answer has.goes) refl)

  stopped_silent : (inc : ℕ) (reply : Reply) (has : HasStopped by node inc reply trail) (more : List Turn) → trail.turns ≡ begun_turns by node inc has.begun.before has.begun.front has.up has.pages ++ more → StopsAt node inc trail.look has.after (length (listed_on has.pages)) more reply → IsUnanswered view
  stopped_silent inc reply has more turns (inl (none, shut)) =
      so IsUnanswered _ (turns ∙ ap (λ (ts : List Turn). begun_turns by node inc has.begun.before has.begun.front has.up has.pages ++ ts) none)
      (silent_so by node hold view inc has.begun.before has.begun.front has.begun.newest has.up has.pages has.read [] refl)
  stopped_silent inc reply has more turns (inr (place, answer, one, stops)) =
      so IsUnanswered _ (turns ∙ ap (λ (ts : List Turn). begun_turns by node inc has.begun.before has.begun.front has.up has.pages ++ ts) one)
      (silent_so by node hold view inc has.begun.before has.begun.front has.begun.newest has.up has.pages has.read (AtDoor place (page_act node inc has.after answer) ∷ []) refl)

  -- ---- one that is over

  -- it goes rightly, and where what its last turn has seen begins with the look, it ends rightly
  abbrev IsRight : LineView → Type 0
  IsRight v = GoesRightly v × ((rest : List DoorEntry) → take (last_front v) v.seen ≡ trail.look ++ rest → EndsRightly v)

  -- by a boot that came so far, and these turns more
  by_closing : (inc : ℕ) (before : List NodeEntry) (front : ℕ) (up : Option ℕ) (pages : List PageAt) (more : List Turn) (last_before : List NodeEntry) (last_at : ℕ) (act act' : NodeAct) (reply reply' : Reply) (since : List Turn) → trail.turns ≡ since ++ turn_at by node last_before last_at act (Some reply) ∷ [] → since ≡ begun_turns by node inc before front up pages ++ more → act ≡ act' → reply ≡ reply'
      → IsRight (with_words (commands.Start node) hold ((begun_turns by node inc before front up pages ++ more) ++ turn_at by node last_before last_at act' (Some reply') ∷ []) view) → IsRight view
  by_closing inc before front up pages more last_before last_at act act' reply reply' since turns was act_is reply_is right =
      so IsRight _
      (turns ∙ (ap (λ (ts : List Turn). ts ++ turn_at by node last_before last_at act (Some reply) ∷ []) was
      ∙ (ap (λ (x : NodeAct). (begun_turns by node inc before front up pages ++ more) ++ turn_at by node last_before last_at x (Some reply) ∷ []) act_is
      ∙ ap (λ (r : Reply). (begun_turns by node inc before front up pages ++ more) ++ turn_at by node last_before last_at act' (Some r) ∷ []) reply_is))) right

  read_right : (ended : EndedLater by node trail) (commits : List Commit) → HasRead by node ended.inc commits ended.since → Closes node ended.inc (Shown commits) ended.before ended.act ended.reply → IsRight view
  read_right ended commits has (inl (inl (act_is, reply_is))) =
      by_closing ended.inc has.begun.before has.begun.front has.up has.pages [] ended.before ended.front ended.act _ ended.reply _ ended.since.turns ended.turns has.begun.turns act_is reply_is
      (started_rightly by node hold view ended.inc has.begun.before has.begun.front has.begun.newest has.up has.pages has.read ended.before ended.front trail.look commits has.whole)
  read_right ended commits has (inl (inr (act_is, reply_is))) =
      by_closing ended.inc has.begun.before has.begun.front has.up has.pages [] ended.before ended.front ended.act _ ended.reply _ ended.since.turns ended.turns has.begun.turns act_is reply_is
      (stopped_rightly by node hold view ended.inc has.begun.before has.begun.front has.begun.newest has.up has.pages has.read ended.before ended.front trail.look [] replies.NoMemory refl refl (λ ts. boots_whole by node hold view ended.inc has.begun.before has.begun.front has.begun.newest has.up has.pages has.read ts has.whole) (λ rest begins. refl))
  read_right ended commits has (inr (gone, act_is, reply_is)) =
      by_closing ended.inc has.begun.before has.begun.front has.up has.pages [] ended.before ended.front ended.act _ ended.reply _ ended.since.turns ended.turns has.begun.turns act_is reply_is
      (left_rightly by node hold view ended.inc has.begun.before has.begun.front has.begun.newest has.up has.pages has.read ended.before ended.front trail.look [] refl refl (λ ts. boots_whole by node hold view ended.inc has.begun.before has.begun.front has.begun.newest has.up has.pages has.read ts has.whole) gone)

  stopped_right : (ended : EndedLater by node trail) (why : Reply) (has : HasStopped by node ended.inc why ended.since) (more : List Turn) → has.more ≡ more → StopsAt node ended.inc ended.since.look has.after (length (listed_on has.pages)) more why → Closes node ended.inc (Refused why) ended.before ended.act ended.reply → IsRight view
  stopped_right ended why has more its (inl (none, shut)) (inl (act_is, reply_is)) =
      by_closing ended.inc has.begun.before has.begun.front has.up has.pages [] ended.before ended.front ended.act _ ended.reply _ ended.since.turns ended.turns (has.begun.turns ∙ ap (λ (ts : List Turn). begun_turns by node ended.inc has.begun.before has.begun.front has.up has.pages ++ ts) (its ∙ none)) act_is reply_is
      (stopped_rightly by node hold view ended.inc has.begun.before has.begun.front has.begun.newest has.up has.pages has.read ended.before ended.front trail.look [] why refl refl (λ ts. boots_on by node hold view ended.inc has.begun.before has.begun.front has.begun.newest has.up has.pages has.read ts has.after has.goes) (by_shut shut))
    where
      by_shut : IsShutOut node ended.inc ended.since.look why → (rest : List DoorEntry) → take (last_front (with_words (commands.Start node) hold ((begun_turns by node ended.inc has.begun.before has.begun.front has.up has.pages ++ []) ++ turn_at by node ended.before ended.front (acts.BootStopped ended.inc) (Some why) ∷ []) view)) view.seen ≡ trail.look ++ rest → Caused (with_words (commands.Start node) hold ((begun_turns by node ended.inc has.begun.before has.begun.front has.up has.pages ++ []) ++ turn_at by node ended.before ended.front (acts.BootStopped ended.inc) (Some why) ∷ []) view) why
      by_shut (inl (down, fenced)) rest begins =
          subst (Caused (with_words (commands.Start node) hold ((begun_turns by node ended.inc has.begun.before has.begun.front has.up has.pages ++ []) ++ turn_at by node ended.before ended.front (acts.BootStopped ended.inc) (Some why) ∷ []) view)) (sym down)
          (shut_out by node hold view ended.inc has.begun.before has.begun.front has.begun.newest has.up has.pages has.read ended.before ended.front [] (acts.BootStopped ended.inc) why ended.since.look rest (begins ∙ ap (λ (l : List DoorEntry). l ++ rest) ended.look) fenced)
      by_shut (inr none_left) rest begins = subst (Caused (with_words (commands.Start node) hold ((begun_turns by node ended.inc has.begun.before has.begun.front has.up has.pages ++ []) ++ turn_at by node ended.before ended.front (acts.BootStopped ended.inc) (Some why) ∷ []) view)) (sym none_left) refl
  stopped_right ended why has more its (inr (place, answer, one, stops)) (inl (act_is, reply_is)) =
      by_closing ended.inc has.begun.before has.begun.front has.up has.pages (AtDoor place (page_act node ended.inc has.after answer) ∷ []) ended.before ended.front ended.act _ ended.reply _ ended.since.turns ended.turns (has.begun.turns ∙ ap (λ (ts : List Turn). begun_turns by node ended.inc has.begun.before has.begun.front has.up has.pages ++ ts) (its ∙ one)) act_is reply_is
      (stopped_rightly by node hold view ended.inc has.begun.before has.begun.front has.begun.newest has.up has.pages has.read ended.before ended.front trail.look (AtDoor place (page_act node ended.inc has.after answer) ∷ []) why refl refl (λ ts. boots_behind by node hold view ended.inc has.begun.before has.begun.front has.begun.newest has.up has.pages has.read ts has.after place answer has.goes)
      (λ rest begins. stopped by node hold view ended.inc has.begun.before has.begun.front has.begun.newest has.up has.pages has.read ended.before ended.front place has.after (acts.BootStopped ended.inc) answer why stops))
  stopped_right ended why has more its (inl (none, shut)) (inr (gone, act_is, reply_is)) =
      by_closing ended.inc has.begun.before has.begun.front has.up has.pages [] ended.before ended.front ended.act _ ended.reply _ ended.since.turns ended.turns (has.begun.turns ∙ ap (λ (ts : List Turn). begun_turns by node ended.inc has.begun.before has.begun.front has.up has.pages ++ ts) (its ∙ none)) act_is reply_is
      (left_rightly by node hold view ended.inc has.begun.before has.begun.front has.begun.newest has.up has.pages has.read ended.before ended.front trail.look [] refl refl (λ ts. boots_on by node hold view ended.inc has.begun.before has.begun.front has.begun.newest has.up has.pages has.read ts has.after has.goes) gone)
  stopped_right ended why has more its (inr (place, answer, one, stops)) (inr (gone, act_is, reply_is)) =
      by_closing ended.inc has.begun.before has.begun.front has.up has.pages (AtDoor place (page_act node ended.inc has.after answer) ∷ []) ended.before ended.front ended.act _ ended.reply _ ended.since.turns ended.turns (has.begun.turns ∙ ap (λ (ts : List Turn). begun_turns by node ended.inc has.begun.before has.begun.front has.up has.pages ++ ts) (its ∙ one)) act_is reply_is
      (left_rightly by node hold view ended.inc has.begun.before has.begun.front has.begun.newest has.up has.pages has.read ended.before ended.front trail.look (AtDoor place (page_act node ended.inc has.after answer) ∷ []) refl refl (λ ts. boots_behind by node hold view ended.inc has.begun.before has.begun.front has.begun.newest has.up has.pages has.read ts has.after place answer has.goes) gone)

  later_right : (ended : EndedLater by node trail) (end : BootEnd) → IsToEnd by node ended.inc end ended.since → Closes node ended.inc end ended.before ended.act ended.reply → IsRight view
  later_right ended (Shown commits) has closes = read_right ended commits has closes
  later_right ended (Refused why) has closes = stopped_right ended why has has.more refl has.stops closes

  over_right : made_at by node Ended trail → IsRight view
  over_right (inl once) = so IsRight _ once.turns (goes_once by node hold view once.before once.front once.reply, λ rest begins. ends_once by node hold view once.before once.front once.reply once.answers)
  over_right (inr later) = later_right later later.end later.is_to later.closes

  pub goes_so_far : (stage : Stage) → made_at by node stage trail → GoesRightly view
  goes_so_far Begins none = so GoesRightly [] (ap (λ (t : Trail). t.turns) none) (record { leads = refl; right = refl })
  goes_so_far (ComesUp inc) begun = so GoesRightly _ begun.turns (goes_right by node hold view inc begun.before begun.front begun.newest None [] none_read [] (λ ts. inr (inl refl)) refl)
  goes_so_far (Scans inc after listed commits) its = so GoesRightly _ its.begun.turns (goes_right by node hold view inc its.begun.before its.begun.front its.begun.newest its.up its.pages its.read [] (λ ts. boots_on by node hold view inc its.begun.before its.begun.front its.begun.newest its.up its.pages its.read ts after its.goes) refl)
  goes_so_far (ToEnd inc (Shown commits)) has = so GoesRightly _ has.begun.turns (goes_right by node hold view inc has.begun.before has.begun.front has.begun.newest has.up has.pages has.read [] (λ ts. boots_whole by node hold view inc has.begun.before has.begun.front has.begun.newest has.up has.pages has.read ts has.whole) refl)
  goes_so_far (ToEnd inc (Refused reply)) has = stopped_goes inc reply has has.more has.begun.turns has.stops
  goes_so_far Ended made = (over_right made).0

  pub unanswered_so_far : (stage : Stage) → made_at by node stage trail → 1 ≤ left_at stage → IsUnanswered view
  unanswered_so_far Begins none left = so IsUnanswered [] (ap (λ (t : Trail). t.turns) none) refl
  unanswered_so_far (ComesUp inc) begun left = so IsUnanswered _ begun.turns refl
  unanswered_so_far (Scans inc after listed commits) its left = so IsUnanswered _ its.begun.turns (silent_so by node hold view inc its.begun.before its.begun.front its.begun.newest its.up its.pages its.read [] refl)
  unanswered_so_far (ToEnd inc (Shown commits)) has left = so IsUnanswered _ has.begun.turns (silent_so by node hold view inc has.begun.before has.begun.front has.begun.newest has.up has.pages has.read [] refl)
  unanswered_so_far (ToEnd inc (Refused reply)) has left = stopped_silent inc reply has has.more has.begun.turns has.stops
  unanswered_so_far Ended made left = absurd (omega arith)

  pub ends_so_far : (stage : Stage) → stage ≡ Ended → made_at by node stage trail → HasLooked trail view → EndsRightly view
  ends_so_far stage over made looked = (over_right (subst (λ (s : Stage). made_at by node s trail) over made)).1 looked.0 looked.1
