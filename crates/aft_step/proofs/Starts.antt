-- A client's next line begins.
use Rattle.std.proofs.Common.{arith, ◌≡◌, ◌≢◌, ℕ, ◌+◌, ◌<◌, ◌≤◌, Bool, false, not, List, [], ◌∷◌, ◌++◌, length, eqb, ltb, refl, sym, ap, subst, ◌∙◌, inl, inr, slice_get}
use Rattle.std.specs.Prelude.{IsFalse, IsTrue, None, Some, filter, if◌then◌else◌, nat_le, ◌&&◌}
use Rattle.std.specs.List.{list_all}
use Rattle.std.proofs.lemmas.Bool.{and_parts, cases_Bool, eq-eqb, eqb-true, false_from_ne_true, false≢true, leb-true, ltb-true}
use Rattle.aft_lines.specs.Asked.{Asked, Settings}
use Rattle.aft_lines.specs.FinishedText.{line_of}
use Rattle.aft_lines.specs.LegalTrace.{is_numbered_behind}
use Rattle.aft_lines.specs.LineCourse.{answers_last}
use Rattle.aft_lines.specs.Lines.{background_lines, lines}
use Rattle.aft_machine.specs.OneNode.{HasMachine, is_nowhere, is_over, next_of}
use Rattle.aft_machine.specs.declared.machine.Machine.{Machine}
use Rattle.aft_model.proofs.Histories.{In, all_at, in_front}
use Rattle.aft_model.specs.declared.script.Command.{Command}
use Rattle.aft_model.specs.declared.script.Command.TheVariants as commands
use Rattle.aft_model.specs.declared.script.Line.{Line}
use Rattle.aft_model.specs.History.{each_after, first_of}
use Rattle.aft_model.specs.ScanRun.{same_line}
use Rattle.aft_step.proofs.Homes.{in_script}
use Rattle.aft_step.proofs.Lines.{apart_at, first_waits, get_in, in_get, index_below, none_waits}
use Rattle.aft_step.specs.declared.client.Client.{Client}
use Rattle.aft_step.specs.declared.client.Course.{Course}
use Rattle.aft_step.specs.Going.{Goes, IsAsked, names_node}
use Rattle.aft_step.specs.Moving.{Begun}
use Rattle.aft_step.specs.Sitting.{Driven, LeavesOthers, NextInTurn, StandsAt}
use Rattle.aft_step.specs.Worlds.{NodesFit, WorldView, is_fit, is_left, ran_of}
use Rattle.aft_turns.specs.Trail.{no_trail}
use Rattle.aft_turns.specs.declared.turn.Where.{Where}
use Rattle.aft_turns.specs.declared.turn.Where.TheVariants as places
use Rattle.law_accounts.proofs.GoesOn.{same_is}
use Rattle.law_accounts.specs.Account.{IsDone, Runs, Stand, Waits}
use Rattle.law_clients.proofs.Begins.{crowd_begins}
use Rattle.law_clients.proofs.Seats.{client_differs}
use Rattle.law_clients.specs.Clients.{Busy, Crowd, IsNext, Seat, with_seat}
use Rattle.law_clients.specs.Words.{waiting_of}
use Rattle.law_driven_commits.specs.Finishes.{puts_short}
use Rattle.law_driver.specs.Driven.{is_at_one_node}
use Rattle.law_driver.specs.Kept.{with_stand}

-- a node that is there isn't the office
no_office : (node nodes : ℕ) → IsTrue (nat_le 1 node && nat_le node nodes) → node ≢ 0
no_office node nodes there zero = let low = leb-true 1 node (and_parts (nat_le 1 node) (nat_le node nodes) there).0 in omega arith

-- each line that one thread may run has a machine
has_machine : (settings : Settings) (order : Command) → IsTrue (is_at_one_node order) → IsTrue (puts_short order) → IsTrue (names_node settings order) → HasMachine order
has_machine settings (commands.Begin uuid node) one short named = tt
has_machine settings (commands.Put key value) one short named = leb-true (length value) 4096 short
has_machine settings (commands.Get key) one short named = tt
has_machine settings commands.Commit one short named = tt
has_machine settings commands.Abort one short named = tt
has_machine settings (commands.Crash node) one short named = no_office node settings.nodes named
has_machine settings (commands.Start node) one short named = no_office node settings.nodes named
has_machine settings (commands.Forget uuid node) one short named = tt
has_machine settings order one short named = absurd (let never : IsTrue false = one in cc)

-- and so has each line of a script that it may run
pub may_begin : (asked : Asked) → IsAsked asked → (at : ℕ) (line : Line) → slice_get asked.script.lines at ≡ Some line → HasMachine line.order
may_begin asked asks at line there =
    let among = get_in asked.script.lines at line there in
    let listed = in_front line (asked.script.lines ++ asked.asks) (background_lines asked.order asked.settings) (in_front line asked.script.lines asked.asks among) in
    has_machine asked.settings line.order (asks.one_node line listed) (all_at (λ (l : Line). puts_short l.order) line (lines asked) listed asks.short) (all_at (λ (l : Line). names_node asked.settings l.order) line asked.script.lines among asks.named)

-- a machine that has made no turn isn't over
pub not_over : (machine : Machine) → (next_of machine ≡ places.Done → IsTrue (answers_last [])) → is_over machine ≡ false
not_over machine answers = by (next_of machine) refl
  where
    by : (place : Where) → next_of machine ≡ place → is_nowhere place ≡ false
    by places.Done is = absurd (false≢true (answers is))
    by place is = refl

filter_same : (one other : Line → Bool) (xs : List Line) → ((x : Line) → In x xs → one x ≡ other x) → filter one xs ≡ filter other xs
filter_same one other [] same = refl
filter_same one other (x ∷ xs) same =
    ap (λ (b : Bool). if b then x ∷ filter one xs else filter one xs) (same x (inl refl))
    ∙ ap (λ (l : List Line). if other x then x ∷ l else l) (filter_same one other xs (λ y among. same y (inr among)))

less : (i j : ℕ) → i < j → i ≡ j → ⊥
less i j lt e = omega arith

past : (i j : ℕ) → j + 1 ≤ i → i ≡ j → ⊥
past i j up e = omega arith

past_from : (from at i : ℕ) → from ≤ at → at ≤ i → from ≤ i
past_from from at i low up = omega arith

beyond : (from at i : ℕ) → from ≤ at → at + 1 ≤ i → from ≤ i
beyond from at i low up = omega arith

module _ (asked : Asked) (stand : Line → Stand) (seats : ℕ → Seat) (world : WorldView) (client : Client) (driven : Driven asked stand seats world client) (none : client.running ≡ None) (at : ℕ)
    (before : (i : ℕ) (one : Line) → slice_get asked.script.lines i ≡ Some one → client.at ≤ i → i < at → one.client ≢ client.number) where
  idle : StandsAt asked stand seats client.number client.at client.hold None
  idle = subst (StandsAt asked stand seats client.number client.at client.hold) none driven.sits.stands

  over : (i : ℕ) (one : Line) → slice_get asked.script.lines i ≡ Some one → one.client ≡ client.number → i < at → stand one ≡ IsDone
  over i one is own lt = elim (cases_Bool (ltb i client.at)) [
    | inl below ↦ driven.sits.behind i one is own (ltb-true i client.at below)
    | inr not_below ↦ absurd (before i one is (grind (arith, not_below)) lt own)
  ]

  -- where it has none, none of its lines waits
  none_left : ((i : ℕ) (one : Line) → slice_get asked.script.lines i ≡ Some one → i < at) → first_of (waiting_of client.number stand asked.script.lines) ≡ None
  none_left all = none_waits client.number stand asked.script.lines (λ i one is own. over i one is own (all i one is))

  -- and none begins
  pub none_begins : client.at ≤ at → ((i : ℕ) (one : Line) → slice_get asked.script.lines i ≡ Some one → i < at) → Begun asked stand seats client world (record { number = client.number; hold = client.hold; at = at; running = None })
  none_begins from all = record {
    later = stand;
    now = seats;
    driven = record {
      asks = driven.asks;
      crowd = driven.crowd;
      fit = driven.fit;
      sits = record { placed = driven.sits.placed; own = driven.sits.own; behind = over; stands = (idle.0, λ i one is own up. idle.1 i one is own (past_from client.at at i from up)) };
    };
    leaves = record { lines = λ line among apart. refl; seats = λ other apart. refl };
    came = λ no. inl (none_left all, λ line. refl);
  }

  module _ (next : NextInTurn asked stand client) (line : Line) (there : slice_get asked.script.lines at ≡ Some line) (its : line.client ≡ client.number) (from : client.at ≤ at) where
    abbrev later : Line → Stand
    later = with_stand line Runs stand

    abbrev now : ℕ → Seat
    now = with_seat line.client (Busy client.hold line no_trail) seats

    ascend : IsTrue (each_after is_numbered_behind [] asked.script.lines)
    ascend = (and_parts (each_after is_numbered_behind [] asked.script.lines) (list_all (λ (l : Line). not (eqb l.client 0)) asked.script.lines) driven.asks.script).0

    waits : stand line ≡ Waits
    waits = idle.1 at line there its from

    listed : In line (lines asked)
    listed = in_front line (asked.script.lines ++ asked.asks) (background_lines asked.order asked.settings) (in_front line asked.script.lines asked.asks (get_in asked.script.lines at line there))

    is_next : IsNext asked stand line
    is_next = record {
      among = listed;
      waits = waits;
      earlier = λ other among same below.
          let found = in_get asked.script.lines other (in_script asked driven.asks other among) in
          over found.0 other found.1 (same ∙ its) (index_below asked.script.lines ascend found.0 at other line found.1 there below);
    }

    first : first_of (waiting_of client.number stand asked.script.lines) ≡ Some line
    first = first_waits client.number stand asked.script.lines at line there its waits over

    others : (other : Line) → IsFalse (same_line (line_of other) (line_of line)) → later other ≡ stand other
    others other differs = ap (λ (b : Bool). if b then Runs else stand other) differs

    crowd : Crowd asked (ran_of world) later now
    crowd = crowd_begins asked (ran_of world) stand seats line client.hold driven.asks.asks driven.asks.one_node driven.crowd (ap seats its ∙ idle.0) is_next (next none line first)

    same_left : (x : Line) → In x asked.script.lines → is_left (later x) ≡ is_left (stand x)
    same_left x among = elim (cases_Bool (same_line (line_of x) (line_of line))) [
      | inl same ↦
          let it : x ≡ line = same_is asked driven.crowd.account.differ x line (in_front x (asked.script.lines ++ asked.asks) (background_lines asked.order asked.settings) (in_front x asked.script.lines asked.asks among)) listed same in
          ap (λ (b : Bool). is_left (if b then Runs else stand x)) same ∙ sym (ap is_left (ap stand it ∙ waits))
      | inr differs ↦ ap is_left (others x differs)
    ]

    fit : NodesFit asked later world
    fit = record {
      numbers = driven.fit.numbers;
      each = subst (λ (n : ℕ). IsTrue (list_all (is_fit asked.settings (length world.door) n) world.nodes)) (sym (ap length (filter_same (λ (l : Line). is_left (later l)) (λ (l : Line). is_left (stand l)) asked.script.lines same_left))) driven.fit.each;
    }

    stays : (i : ℕ) (one : Line) → slice_get asked.script.lines i ≡ Some one → i ≢ at → later one ≡ stand one
    stays i one is apart = others one (apart_at asked.script.lines ascend i at one line is there apart)

    started : (course : Course) → Goes asked line client.hold course.machine course.now no_trail → is_over course.machine ≡ false → Driven asked later now world (record { number = client.number; hold = client.hold; at = at; running = Some course })
    started course goes on = record {
      asks = driven.asks;
      crowd = crowd;
      fit = fit;
      sits = record {
        placed = driven.sits.placed;
        own = driven.sits.own;
        behind = λ i one is own lt. stays i one is (λ e. less i at lt e) ∙ over i one is own lt;
        stands = record {
          line = line;
          trail = no_trail;
          there = there;
          its = its;
          busy = ap (λ (b : Bool). if b then Busy client.hold line no_trail else seats client.number) (eq-eqb client.number line.client (sym its));
          goes = goes;
          on = on;
          later = λ i one is own up. stays i one is (λ e. past i at up e) ∙ idle.1 i one is own (beyond client.at at i from up);
        };
      };
    }

    leaves : LeavesOthers asked client.number stand later seats now
    leaves = record {
      lines = λ other among apart. others other (client_differs other line (λ e. apart (e ∙ its)));
      seats = λ other apart. ap (λ (b : Bool). if b then Busy client.hold line no_trail else seats other) (false_from_ne_true _ (λ e. apart (eqb-true other line.client e ∙ its)));
    }

    pub begins : (course : Course) → Goes asked line client.hold course.machine course.now no_trail → is_over course.machine ≡ false → Begun asked stand seats client world (record { number = client.number; hold = client.hold; at = at; running = Some course })
    begins course goes on = record { later = later; now = now; driven = started course goes on; leaves = leaves; came = λ no. (line, there, first, λ other. refl) }
