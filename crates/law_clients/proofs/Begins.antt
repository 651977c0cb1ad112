-- A client's next line begins.
use Rattle.std.proofs.Common.{◌≡◌, ◌≢◌, ℕ, Bool, List, [], refl, sym, ap, subst, ◌∙◌, inl, inr, eqb}
use Rattle.std.specs.Prelude.{IsFalse, Some, if◌then◌else◌}
use Rattle.std.proofs.lemmas.Bool.{cases_Bool, eq-eqb, eqb-true, true≢false}
use Rattle.aft_model.proofs.Histories.{In}
use Rattle.aft_model.specs.declared.caller.Hold.{Hold}
use Rattle.aft_model.specs.declared.script.Line.{Line}
use Rattle.aft_model.specs.ScanRun.{same_line}
use Rattle.aft_lines.specs.Asked.{Asked, Ran}
use Rattle.aft_lines.specs.FinishedText.{line_of}
use Rattle.aft_lines.specs.Lines.{lines, whole_order}
use Rattle.aft_turns.specs.Trail.{Trail, no_trail}
use Rattle.law_accounts.specs.Account.{MayGoOn, Runs, Stand}
use Rattle.law_claims.proofs.Scenes.{same_by}
use Rattle.law_clients.proofs.Orders.{ranks_so}
use Rattle.law_clients.proofs.Seats.{goes_still, idle_still, next_before, runs_not_done, runs_not_waits, same_stand}
use Rattle.law_clients.specs.Clients.{Busy, ComesInTurn, Crowd, Idle, IsNext, Seat, Seated, with_seat}
use Rattle.law_driver.proofs.Begin.{begins}
use Rattle.law_driver.specs.Driven.{AllAtOneNode, Driven}
use Rattle.law_driver.specs.Kept.{with_stand}

module _ (asked : Asked) (ran : Ran) (stand : Line → Stand) (seats : ℕ → Seat) (line : Line) (hold : Hold) (none : asked.asks ≡ []) (all : AllAtOneNode asked) (crowd : Crowd asked ran stand seats) (idle : seats line.client ≡ Idle hold) (next : IsNext asked stand line) (comes : ComesInTurn asked stand line) where
  abbrev later : Line → Stand
  later = with_stand line Runs stand

  abbrev now : ℕ → Seat
  now = with_seat line.client (Busy hold line no_trail) seats

  others : (other : Line) → In other (lines asked) → IsFalse (same_line (line_of other) (line_of line)) → later other ≡ stand other
  others other listed differs = ap (λ (b : Bool). if b then Runs else stand other) differs

  may : MayGoOn asked stand line
  may = record { among = next.among; unless_over = inl next.waits; earlier = next.earlier }

  begun : Driven asked ran later line hold no_trail
  begun =
      begins asked ran stand line crowd.account may next.waits hold (all line next.among)
      ((subst (Seated asked ran stand line.client) idle (crowd.seated line.client)).1 line refl next)
      (ranks_so asked ran stand line crowd.account none comes)

  -- another line that runs does so as it did, and its account is the one behind this
  restood : (other : Line) (held : Hold) (path : Trail) → other.client ≢ line.client → Driven asked ran stand other held path → Driven asked ran later other held path
  restood other held path apart runs = record {
    account = begun.account;
    may = goes_still asked stand later line others other apart runs.may runs.runs;
    runs = same_stand asked stand later line others other runs.may.among apart ∙ runs.runs;
    kind = runs.kind;
    own = runs.own;
    sees = runs.sees;
    closing = runs.closing;
    looked = runs.looked;
    late = runs.late;
    held = runs.held;
    quiet = runs.quiet;
    ranked = runs.ranked;
  }

  stays_seated : (client : ℕ) → client ≢ line.client → (seat : Seat) → Seated asked ran stand client seat → Seated asked ran later client seat
  stays_seated client apart (Idle held) (sits, holds) = (
    idle_still asked stand later line others client apart sits,
    λ one its is. holds one its (next_before asked stand later line others one (λ e. apart (sym its ∙ e)) is),
  )
  stays_seated client apart (Busy held one path) (its, runs) = (its, restood one held path (λ e. apart (sym its ∙ e)) runs)

  seated : (client : ℕ) → Seated asked ran later client (now client)
  seated client = elim (cases_Bool (eqb client line.client)) [
    | inl same ↦
        subst (λ (c : ℕ). Seated asked ran later c (now c)) (sym (eqb-true client line.client same))
        (subst (Seated asked ran later line.client) (sym (ap (λ (b : Bool). if b then Busy hold line no_trail else seats line.client) (eq-eqb line.client line.client refl))) (refl, begun))
    | inr differs ↦
        subst (Seated asked ran later client) (sym (ap (λ (b : Bool). if b then Busy hold line no_trail else seats client) differs))
        (stays_seated client (λ e. true≢false (sym (eq-eqb client line.client e) ∙ differs)) (seats client) (crowd.seated client))
  ]

  -- where lines run whole each other one is over or waits
  alone : (order : List Line) → whole_order asked ≡ Some order → (one other : Line) → In one (lines asked) → In other (lines asked) → later one ≡ Runs → later other ≡ Runs → line_of one ≡ line_of other
  alone order is one other listed listed' runs runs' = its one listed runs ∙ sym (its other listed' runs')
    where
      its : (x : Line) → In x (lines asked) → later x ≡ Runs → line_of x ≡ line_of line
      its x among it = elim (cases_Bool (same_line (line_of x) (line_of line))) [
        | inl same ↦ same_by (line_of x) (line_of line) same
        | inr differs ↦
            let was : stand x ≡ Runs = sym (others x among differs) ∙ it in
            absurd (runs_not_done (stand x) was (comes order is x among (λ waits. runs_not_waits (stand x) was waits)).0)
      ]

  pub crowd_begins : Crowd asked ran later now
  crowd_begins = record { account = begun.account; seated = seated; alone = alone }
