-- What several turns of one client leave.
use Rattle.std.proofs.Common.{arith, ◌≡◌, ℕ, ◌+◌, ◌≤◌, Bool, true, List, length, ltb, refl, sym, subst, ◌∙◌, inl, inr, slice_get}
use Rattle.std.specs.Prelude.{IsTrue, None, Option, Some, is_some}
use Rattle.std.proofs.lemmas.Bool.{cases_Bool, ltb-true}
use Rattle.std.proofs.lemmas.Option.{slice_get_within}
use Rattle.aft_lines.specs.Asked.{Asked}
use Rattle.aft_model.specs.declared.script.Line.{Line}
use Rattle.aft_step.specs.declared.client.Client.{Client}
use Rattle.aft_step.specs.declared.client.Course.{Course}
use Rattle.aft_step.specs.Moving.{Begun, Came, Moves, ReachesFirst, reach}
use Rattle.aft_step.specs.Sitting.{Driven, LeavesOthers, RanWhole, RunsAt, StandsAt}
use Rattle.aft_step.specs.Worlds.{WorldView}
use Rattle.law_accounts.specs.Account.{Stand}
use Rattle.law_clients.specs.Clients.{Seat}

-- ---- how far it comes

pub at_reach : (running : Option Course) (at : ℕ) → at ≤ reach running at
at_reach None at = omega arith
at_reach (Some course) at = omega arith

-- its first line from an index on stands before the next of it
pub reaches_first : (lines : List Line) (number from at : ℕ) (line : Line) → slice_get lines at ≡ Some line → line.client ≡ number → from ≤ at → ReachesFirst lines number from (at + 1)
reaches_first lines number from at line there its low i one is own up none = elim (cases_Bool (ltb at i)) [
  | inl before ↦ absurd (none at line there its low (ltb-true at i before))
  | inr not_before ↦ grind (arith, not_before)
]

-- where it has none, all stand before the end
pub reaches_end : (lines : List Line) (number from at : ℕ) → length lines ≤ at → ReachesFirst lines number from at
reaches_end lines number from at all i one is own up none = let low = slice_get_within lines i one is in omega arith

-- of a client whose line runs, that one is the first
module _ (asked : Asked) (stand : Line → Stand) (seats : ℕ → Seat) (world : WorldView) (client : Client) (driven : Driven asked stand seats world client) (course : Course) (runs : client.running ≡ Some course) (lines : List Line) (same : asked.script.lines ≡ lines) where
  its : RunsAt asked stand seats client.number client.at client.hold course
  its = subst (StandsAt asked stand seats client.number client.at client.hold) runs driven.sits.stands

  pub reaches_own : ReachesFirst lines client.number client.at (reach client.running client.at)
  reaches_own =
      subst (λ (running : Option Course). ReachesFirst lines client.number client.at (reach running client.at)) (sym runs)
      (reaches_first lines client.number client.at client.at its.line (subst (λ (l : List Line). slice_get l client.at ≡ Some its.line) same its.there) its.its (omega arith))

-- the line that runs
pub that_runs : (running : Option Course) → is_some running ≡ true → (course : Course) × (running ≡ Some course)
that_runs None never = absurd cc
that_runs (Some course) some = (course, refl)

-- ---- one after the other

leaves_on : (asked : Asked) (number : ℕ) (stand middle later : Line → Stand) (seats between now : ℕ → Seat) → LeavesOthers asked number stand middle seats between → LeavesOthers asked number middle later between now → LeavesOthers asked number stand later seats now
leaves_on asked number stand middle later seats between now one other = record {
  lines = λ line among apart. other.lines line among apart ∙ one.lines line among apart;
  seats = λ client apart. other.seats client apart ∙ one.seats client apart;
}

module _ (asked : Asked) (stand : Line → Stand) (seats : ℕ → Seat) (before : Client) (world : WorldView) (between : Client) where
  pub moves_on : (moves : Moves asked stand seats before world between) → between.number ≡ before.number → (after : WorldView) (behind : Client) → Moves asked moves.later moves.now between after behind → Moves asked stand seats before after behind
  moves_on moves same after behind more = record {
    later = more.later;
    now = more.now;
    driven = more.driven;
    leaves = leaves_on asked before.number stand moves.later more.later seats moves.now more.now moves.leaves (subst (λ (n : ℕ). LeavesOthers asked n moves.later more.later moves.now more.now) same more.leaves);
    came = λ first so.
        subst (λ (n : ℕ). Came asked n first more.later behind.at behind.running) same (more.came first (subst (λ (n : ℕ). Came asked n first moves.later between.at between.running) (sym same) (moves.came first so)));
  }

  -- a line that begins, and turns behind that, which where they are to its end run it whole
  pub goes_on : (begun : Begun asked stand seats before world between) → between.number ≡ before.number → (whole : Bool) (after : WorldView) (behind : Client) → Moves asked begun.later begun.now between after behind → (IsTrue whole → behind.running ≡ None)
      → (later : Line → Stand) × (now : ℕ → Seat) × Driven asked later now after behind × LeavesOthers asked before.number stand later seats now × (IsTrue whole → before.running ≡ None → RanWhole asked before.number stand later)
  goes_on begun same whole after behind more over = (
    more.later,
    more.now,
    more.driven,
    leaves_on asked before.number stand begun.later more.later seats begun.now more.now begun.leaves (subst (λ (n : ℕ). LeavesOthers asked n begun.later more.later begun.now more.now) same more.leaves),
    λ is none.
        subst (λ (running : Option Course). Came asked before.number stand more.later behind.at running) (over is)
        (subst (λ (n : ℕ). Came asked n stand more.later behind.at behind.running) same
        (more.came stand (subst (λ (n : ℕ). Came asked n stand begun.later between.at between.running) (sym same) (begun.came none)))),
  )
