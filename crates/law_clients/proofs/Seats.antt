-- What a line's turn leaves of the seats of other clients, and of which lines run.
use Rattle.std.proofs.Common.{◌≡◌, ◌≢◌, ℕ, Bool, List, [], refl, sym, ap, subst, ◌∙◌, inl, inr, eqb}
use Rattle.std.specs.Prelude.{IsFalse, None, Option, Some, if◌then◌else◌}
use Rattle.std.proofs.lemmas.Bool.{and_parts, cases_Bool, eq-eqb, eqb-true, true≢false}
use Rattle.aft_model.proofs.Histories.{In}
use Rattle.aft_model.specs.declared.caller.By.{By}
use Rattle.aft_model.specs.declared.caller.Hold.{Hold}
use Rattle.aft_model.specs.declared.script.Line.{Line}
use Rattle.aft_model.specs.Opening.{opening}
use Rattle.aft_model.specs.ScanRun.{same_line}
use Rattle.aft_lines.specs.Asked.{Asked, Ran}
use Rattle.aft_lines.specs.FinishedText.{line_of}
use Rattle.aft_lines.specs.Lines.{lines, whole_order}
use Rattle.aft_turns.specs.Trail.{Trail}
use Rattle.law_accounts.proofs.GoesOn.{same_is}
use Rattle.law_accounts.proofs.Views.{hold_same}
use Rattle.law_accounts.specs.Account.{Account, IsDone, MayGoOn, Runs, Stand, Waits}
use Rattle.law_accounts.specs.Adding.{Added, maker_of, with_added}
use Rattle.law_clients.proofs.Orders.{ranks_alone}
use Rattle.law_clients.specs.Clients.{Busy, Crowd, Idle, IsNext, Seat, Seated, with_seat}
use Rattle.law_driver.proofs.Others.{stays}
use Rattle.law_driver.specs.Driven.{Driven}

pub waits_not_done : (s : Stand) → s ≡ Waits → s ≡ IsDone → ⊥
waits_not_done s waits done = cc

pub runs_not_done : (s : Stand) → s ≡ Runs → s ≡ IsDone → ⊥
runs_not_done s runs done = cc

pub runs_not_waits : (s : Stand) → s ≡ Runs → s ≡ Waits → ⊥
runs_not_waits s runs waits = cc

-- lines of different clients are others
pub client_differs : (line other : Line) → line.client ≢ other.client → IsFalse (same_line (line_of line) (line_of other))
client_differs line other apart = elim (cases_Bool (same_line (line_of line) (line_of other))) [
  | inl same ↦ absurd (apart (eqb-true line.client other.client (and_parts (eqb line.client other.client) (eqb line.number other.number) same).0))
  | inr differs ↦ differs
]

-- ---- lines that stand as they did, but one

module _ (asked : Asked) (stand later : Line → Stand) (line : Line) (others : (other : Line) → In other (lines asked) → IsFalse (same_line (line_of other) (line_of line)) → later other ≡ stand other) where
  abbrev of_another : Line → Type 0
  of_another other = other.client ≢ line.client

  pub same_stand : (other : Line) → In other (lines asked) → of_another other → later other ≡ stand other
  same_stand other listed apart = others other listed (client_differs other line apart)

  -- what is next of another client is so still
  pub next_before : (next : Line) → of_another next → IsNext asked later next → IsNext asked stand next
  next_before next apart is = record {
    among = is.among;
    waits = sym (same_stand next is.among apart) ∙ is.waits;
    earlier = λ other listed client below. sym (same_stand other listed (λ e. apart (sym client ∙ e))) ∙ is.earlier other listed client below;
  }

  -- a line of another client that runs may go on
  pub goes_still : (other : Line) → of_another other → MayGoOn asked stand other → stand other ≡ Runs → MayGoOn asked later other
  goes_still other apart may runs = record {
    among = may.among;
    unless_over = inr (same_stand other may.among apart ∙ runs);
    earlier = λ one listed client below. same_stand one listed (λ e. apart (sym client ∙ e)) ∙ may.earlier one listed client below;
  }

  pub idle_still : (client : ℕ) → client ≢ line.client → ((one : Line) → In one (lines asked) → one.client ≡ client → stand one ≢ Runs) → (one : Line) → In one (lines asked) → one.client ≡ client → later one ≢ Runs
  idle_still client apart none one listed its runs = none one listed its (sym (same_stand one listed (λ e. apart (sym its ∙ e))) ∙ runs)

-- ---- behind what one line adds

module _ (asked : Asked) (ran : Ran) (stand later : Line → Stand) (seats : ℕ → Seat) (line : Line) (hold : Hold) (trail : Trail) (added : Added) (none : asked.asks ≡ []) (crowd : Crowd asked ran stand seats) (busy : seats line.client ≡ Busy hold line trail)
    (by : maker_of added ≡ line_of line) (others : (other : Line) → In other (lines asked) → IsFalse (same_line (line_of other) (line_of line)) → later other ≡ stand other) (account : Account asked (with_added added ran) later) where
  abbrev new : Ran
  new = with_added added ran

  pub driven : Driven asked ran stand line hold trail
  driven = (subst (Seated asked ran stand line.client) busy (crowd.seated line.client)).1

  stranger : IsFalse (same_line opening (maker_of added))
  stranger = subst (λ (b : By). IsFalse (same_line opening b)) (sym by) (driven.account.strangers line driven.may.among)

  apart_made : (other : Line) → other.client ≢ line.client → IsFalse (same_line (line_of other) (maker_of added))
  apart_made other apart = subst (λ (b : By). IsFalse (same_line (line_of other) b)) (sym by) (client_differs other line apart)

  -- where another client's line runs too, lines don't run whole
  unordered : (other : Line) → other.client ≢ line.client → In other (lines asked) → stand other ≡ Runs → whole_order asked ≡ None
  unordered other apart listed runs = by_order (whole_order asked) refl
    where
      by_order : (order : Option (List Line)) → whole_order asked ≡ order → order ≡ None
      by_order None is = refl
      by_order (Some order) is = absurd (apart (ap (λ (b : By). b.client) (crowd.alone order is other line listed driven.may.among runs driven.runs)))

  pub stays_seated : (client : ℕ) → client ≢ line.client → (seat : Seat) → Seated asked ran stand client seat → Seated asked new later client seat
  stays_seated client apart (Idle held) (idle, next) = (
    idle_still asked stand later line others client apart idle,
    λ one its is.
        let other : one.client ≢ line.client = λ e. apart (sym its ∙ e) in
        hold_same asked ran added one (λ earlier same below. apart_made earlier (λ e. other (sym same ∙ e))) stranger ∙ next one its (next_before asked stand later line others one other is),
  )
  stays_seated client apart (Busy held one path) (its, runs) =
      let other : one.client ≢ line.client = λ e. apart (sym its ∙ e) in (
        its,
        stays asked ran stand later one line held path added runs driven.may by (client_differs one line other) (unordered one other runs.may.among runs.runs) account
            (goes_still asked stand later line others one other runs.may runs.runs)
            (same_stand asked stand later line others one runs.may.among other ∙ runs.runs)
            (ranks_alone asked new (line_of one) none (unordered one other runs.may.among runs.runs)),
      )

  -- with the seat of the line's own client as it is now
  pub all_seated : (seat : Seat) → Seated asked new later line.client seat → (client : ℕ) → Seated asked new later client (with_seat line.client seat seats client)
  all_seated seat own client = elim (cases_Bool (eqb client line.client)) [
    | inl same ↦
        subst (λ (c : ℕ). Seated asked new later c (with_seat line.client seat seats c)) (sym (eqb-true client line.client same))
        (subst (Seated asked new later line.client) (sym (ap (λ (b : Bool). if b then seat else seats line.client) (eq-eqb line.client line.client refl))) own)
    | inr differs ↦
        subst (Seated asked new later client) (sym (ap (λ (b : Bool). if b then seat else seats client) differs))
        (stays_seated client (λ e. true≢false (sym (eq-eqb client line.client e) ∙ differs)) (seats client) (crowd.seated client))
  ]

  -- who runs now ran before
  pub still_alone : (order : List Line) → whole_order asked ≡ Some order → (one other : Line) → In one (lines asked) → In other (lines asked) → later one ≡ Runs → later other ≡ Runs → line_of one ≡ line_of other
  still_alone order is one other listed listed' runs runs' = crowd.alone order is one other listed listed' (ran_before one listed runs) (ran_before other listed' runs')
    where
      ran_before : (x : Line) → In x (lines asked) → later x ≡ Runs → stand x ≡ Runs
      ran_before x among it = elim (cases_Bool (same_line (line_of x) (line_of line))) [
        | inl same ↦ ap stand (same_is asked driven.account.differ x line among driven.may.among same) ∙ driven.runs
        | inr differs ↦ sym (others x among differs) ∙ it
      ]
