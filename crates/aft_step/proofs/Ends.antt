-- What a turn of a client's line leaves.
use Rattle.std.proofs.Common.{arith, ◌≡◌, ◌≢◌, ℕ, ◌+◌, ◌<◌, ◌≤◌, Bool, true, false, not, [], eqb, refl, sym, ap, subst, ◌∙◌, inl, inr, slice_get}
use Rattle.std.specs.Prelude.{IsFalse, IsTrue, None, Some, if◌then◌else◌}
use Rattle.std.specs.List.{list_all}
use Rattle.std.specs.Option.{ForSome}
use Rattle.std.proofs.lemmas.Bool.{and_parts, cases_Bool, eq-eqb, eqb-true, false_from_ne_true, true≢false}
use Rattle.aft_lines.specs.Asked.{Asked}
use Rattle.aft_lines.specs.FinishedText.{line_of}
use Rattle.aft_lines.specs.LegalTrace.{is_numbered_behind}
use Rattle.aft_machine.specs.OneNode.{Holds, hold_behind, is_nowhere, is_over}
use Rattle.aft_machine.specs.declared.machine.Machine.{Machine}
use Rattle.aft_model.specs.declared.caller.Hold.{Hold}
use Rattle.aft_model.specs.declared.script.Line.{Line}
use Rattle.aft_model.specs.History.{each_after}
use Rattle.aft_model.specs.ScanRun.{same_line}
use Rattle.aft_step.proofs.Homes.{placed_behind}
use Rattle.aft_step.proofs.Lines.{apart_at, one_there}
use Rattle.aft_step.proofs.NodeTurn.{named}
use Rattle.aft_step.specs.declared.client.Client.{Client}
use Rattle.aft_step.specs.declared.client.Course.{Course}
use Rattle.aft_step.specs.Going.{Running, Turned}
use Rattle.aft_step.specs.Moving.{Came, Moves}
use Rattle.aft_step.specs.Sitting.{Driven, LeavesOthers, RanWhole, RunsAt, StandsAt}
use Rattle.aft_step.specs.Worlds.{WorldView}
use Rattle.aft_turns.specs.declared.turn.Where.{Where}
use Rattle.aft_turns.specs.declared.turn.Where.TheVariants as places
use Rattle.law_accounts.specs.Account.{IsDone, Runs, Stand}
use Rattle.law_claims.proofs.Scenes.{by_itself}
use Rattle.law_clients.proofs.Seats.{client_differs}
use Rattle.law_clients.specs.Clients.{Busy, Idle, Seat, with_seat}
use Rattle.law_driver.specs.Kept.{with_stand}

less : (i j : ℕ) → i < j → i ≡ j → ⊥
less i j lt e = omega arith

past : (i j : ℕ) → j + 1 ≤ i → i ≡ j → ⊥
past i j up e = omega arith

-- a turn that is somewhere isn't the end
pub somewhere : (place : Where) → (place ≡ places.Done → ⊥) → is_nowhere place ≡ false
somewhere places.Done never = absurd (never refl)
somewhere place never = refl

module _ (asked : Asked) (stand : Line → Stand) (seats : ℕ → Seat) (world : WorldView) (client : Client) (course : Course) (driven : Driven asked stand seats world client) (running : client.running ≡ Some course) where
  pub its : RunsAt asked stand seats client.number client.at client.hold course
  its = subst (StandsAt asked stand seats client.number client.at client.hold) running driven.sits.stands

  pub runs : Running asked stand seats world its.line client.hold course.machine course.now its.trail
  runs = record {
    asks = driven.asks;
    crowd = driven.crowd;
    fit = driven.fit;
    busy = ap seats its.its ∙ its.busy;
    goes = its.goes;
    on = its.on;
    placed = driven.sits.placed;
  }

  seat_leaves : (seat : Seat) (other : ℕ) → other ≢ client.number → with_seat its.line.client seat seats other ≡ seats other
  seat_leaves seat other apart = ap (λ (b : Bool). if b then seat else seats other) (false_from_ne_true _ (λ e. apart (eqb-true other its.line.client e ∙ its.its)))

  own_seat : (seat : Seat) → with_seat its.line.client seat seats client.number ≡ seat
  own_seat seat = ap (λ (b : Bool). if b then seat else seats client.number) (eq-eqb client.number its.line.client (sym its.its))

  module _ (after : WorldView) (machine : Machine) (turned : Turned asked stand seats after its.line client.hold machine course.now) where
    -- the line runs on
    runs_on : is_over machine ≡ false
        → (now : ℕ → Seat) × Driven asked stand now after (record { number = client.number; hold = client.hold; at = client.at; running = Some (record { machine = machine; now = course.now }) }) × LeavesOthers asked client.number stand stand seats now
    runs_on not_over = elim turned [
      | inl on ↦
          let more = on.1 in (
            with_seat its.line.client (Busy client.hold its.line on.0) seats,
            record {
              asks = more.asks;
              crowd = more.crowd;
              fit = more.fit;
              sits = record {
                placed = driven.sits.placed;
                own = driven.sits.own;
                behind = driven.sits.behind;
                stands = record {
                  line = its.line;
                  trail = on.0;
                  there = its.there;
                  its = its.its;
                  busy = own_seat (Busy client.hold its.line on.0);
                  goes = more.goes;
                  on = more.on;
                  later = its.later;
                };
              };
            },
            record { lines = λ line among apart. refl; seats = seat_leaves (Busy client.hold its.line on.0) },
          )
      | inr done ↦ absurd (true≢false (sym done.over ∙ not_over))
    ]

    abbrev later : Line → Stand
    later = with_stand its.line IsDone stand

    ascend : IsTrue (each_after is_numbered_behind [] asked.script.lines)
    ascend = (and_parts (each_after is_numbered_behind [] asked.script.lines) (list_all (λ (l : Line). not (eqb l.client 0)) asked.script.lines) driven.asks.script).0

    others : (other : Line) → IsFalse (same_line (line_of other) (line_of its.line)) → later other ≡ stand other
    others other differs = ap (λ (b : Bool). if b then IsDone else stand other) differs

    stays : (i : ℕ) (one : Line) → slice_get asked.script.lines i ≡ Some one → i ≢ client.at → later one ≡ stand one
    stays i one is apart = others one (apart_at asked.script.lines ascend i client.at one its.line is its.there apart)

    done_at : (one : Line) → slice_get asked.script.lines client.at ≡ Some one → later one ≡ IsDone
    done_at one is = ap later (one_there asked.script.lines client.at one its.line is its.there) ∙ ap (λ (b : Bool). if b then IsDone else stand its.line) (by_itself (line_of its.line))

    -- the line is over
    is_done : is_over machine ≡ true → ((before : Hold) → Holds machine before → ForSome before.attempt (λ a. a.node ≡ before.node) → ForSome (hold_behind machine).attempt (λ a. a.node ≡ (hold_behind machine).node))
        → Driven asked later (with_seat its.line.client (Idle (hold_behind machine)) seats) after (record { number = client.number; hold = hold_behind machine; at = client.at + 1; running = None })
    is_done ended own = elim turned [
      | inl on ↦ absurd (true≢false (sym ended ∙ on.1.on))
      | inr done ↦ record {
        asks = driven.asks;
        crowd = done.crowd;
        fit = done.fit;
        sits = record {
          placed = placed_behind asked its.line.order client.hold (named asked stand seats world its.line client.hold course.machine course.now its.trail runs) driven.sits.placed machine done.command done.held;
          own = own client.hold done.held driven.sits.own;
          behind = λ i one is own lt. elim (cases_Bool (eqb i client.at)) [
            | inl same ↦ done_at one (subst (λ (n : ℕ). slice_get asked.script.lines n ≡ Some one) (eqb-true i client.at same) is)
            | inr differs ↦
                let apart : i ≢ client.at = λ e. true≢false (sym (eq-eqb i client.at e) ∙ differs) in
                stays i one is apart ∙ driven.sits.behind i one is own (omega arith)
          ];
          stands = (own_seat (Idle (hold_behind machine)), λ i one is own up. stays i one is (λ e. past i client.at up e) ∙ its.later i one is own up);
        };
      }
    ]

    leaves : LeavesOthers asked client.number stand later seats (with_seat its.line.client (Idle (hold_behind machine)) seats)
    leaves = record { lines = λ other among apart. others other (client_differs other its.line (λ e. apart (e ∙ its.its))); seats = seat_leaves (Idle (hold_behind machine)) }

    -- since none ran, it was the first that waited, and is over
    came : (first : Line → Stand) → Came asked client.number first stand client.at (Some course) → RanWhole asked client.number first later
    came first (line, there, is_first, so) =
        let same : its.line ≡ line = one_there asked.script.lines client.at its.line line its.there there in
        inr (
          line,
          is_first,
          λ other.
              subst (λ (l : Line). with_stand l IsDone stand other ≡ with_stand line IsDone first other) (sym same)
              (elim (cases_Bool (same_line (line_of other) (line_of line))) [
                | inl own ↦ ap (λ (b : Bool). if b then IsDone else stand other) own ∙ sym (ap (λ (b : Bool). if b then IsDone else first other) own)
                | inr differs ↦
                    ap (λ (b : Bool). if b then IsDone else stand other) differs ∙ so other ∙ ap (λ (b : Bool). if b then Runs else first other) differs
                    ∙ sym (ap (λ (b : Bool). if b then IsDone else first other) differs)
              ]),
        )

    -- all that a turn leaves behind which the line is over,
    pub after_end : (hold : Hold) → hold ≡ hold_behind machine → ((before : Hold) → Holds machine before → ForSome before.attempt (λ a. a.node ≡ before.node) → ForSome hold.attempt (λ a. a.node ≡ hold.node)) → is_over machine ≡ true
        → Moves asked stand seats client after (record { number = client.number; hold = hold; at = client.at + 1; running = None })
    after_end hold held own ended = record {
      later = later;
      now = with_seat its.line.client (Idle (hold_behind machine)) seats;
      driven =
          subst (λ (h : Hold). Driven asked later (with_seat its.line.client (Idle (hold_behind machine)) seats) after (record { number = client.number; hold = h; at = client.at + 1; running = None })) (sym held)
          (is_done ended (λ before it so. subst (λ (h : Hold). ForSome h.attempt (λ a. a.node ≡ h.node)) held (own before it so)));
      leaves = leaves;
      came = λ first so. came first (subst (Came asked client.number first stand client.at) running so);
    }

    -- and behind which it runs on
    pub after_turn : is_over machine ≡ false → Moves asked stand seats client after (record { number = client.number; hold = client.hold; at = client.at; running = Some (record { machine = machine; now = course.now }) })
    after_turn not_over = (
        let on = runs_on not_over in
        record { later = stand; now = on.0; driven = on.1; leaves = on.2; came = λ first so. subst (Came asked client.number first stand client.at) running so }
        )
