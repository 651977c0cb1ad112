-- A line is run to its end, where those before it are over.
use Rattle.std.proofs.Common.{arith, ◌≡◌, ◌≢◌, ℕ, ◌+◌, ◌-◌, ◌≤◌, ◌<◌, Bool, true, not, List, [], length, get_or, slice_get, slice_set, refl, sym, ap, subst, ◌∙◌}
use Rattle.std.specs.Prelude.{IsTrue, None, Some, nat_le, ◌==◌}
use Rattle.std.proofs.lemmas.Bool.{eq-eqb, leb-true, true≢false, and_parts}
use Rattle.std.proofs.lemmas.List.{set-get_or}
use Rattle.std.proofs.lemmas.Option.{slice_get-get_or}
use Rattle.aft_model.proofs.Histories.{In, all_at}
use Rattle.aft_model.specs.declared.script.Line.{Line}
use Rattle.aft_model.specs.History.{each_after}
use Rattle.aft_lines.specs.Asked.{Asked}
use Rattle.aft_lines.specs.LegalTrace.{is_numbered_behind}
use Rattle.aft_step.proofs.Crowding.{in_script}
use Rattle.aft_step.proofs.Following.{done_so, driven_so, goes_on, next_so, none_between, one_more_over, runs_by_number}
use Rattle.aft_step.specs.Crowding.{ComesTo}
use Rattle.aft_step.specs.declared.client.Client.{Client}
use Rattle.aft_step.specs.Going.{IsAsked}
use Rattle.aft_step.specs.Sitting.{Driven, LeavesOthers, NextInTurn, RanWhole}
use Rattle.aft_step.specs.Worlds.{WorldView}
use Rattle.law_accounts.specs.Account.{Stand}
use Rattle.law_clients.specs.Clients.{Seat}

-- a line of a script is of a client from 1 to 64
pub client_within : (asked : Asked) → IsAsked asked → (line : Line) → In line asked.script.lines → (1 ≤ line.client) × (line.client ≤ 64)
client_within asked asks line among = (
  positive line.client (λ e. true≢false (sym (all_at (λ (l : Line). not (l.client == 0)) line asked.script.lines among (and_parts (each_after is_numbered_behind [] asked.script.lines) _ asks.script).1) ∙ ap not (eq-eqb line.client 0 e))),
  leb-true line.client 64 (all_at (λ (l : Line). nat_le l.client 64) line asked.script.lines among asks.clients),
)
  where
    positive : (n : ℕ) → n ≢ 0 → 1 ≤ n
    positive n apart = omega arith

-- what a client's turns are known to do, where they may be made
abbrev pub GoesOn : Asked → (Line → Stand) → (ℕ → Seat) → WorldView → WorldView → Client → Client → Bool → Type 0
GoesOn asked stand seats world behind client new whole =
    Driven asked stand seats world client → NextInTurn asked stand client
    → (later : Line → Stand) × (now : ℕ → Seat) × Driven asked later now behind new × LeavesOthers asked client.number stand later seats now × (IsTrue whole → client.running ≡ None → RanWhole asked client.number stand later)

module _ (asked : Asked) (lines : List Line) (is : asked.script.lines ≡ lines) (index : ℕ) (within : index < length lines) (world : WorldView) (clients : List Client) (come : ComesTo asked [] index world clients) (d : Line) (e : Client) where
  abbrev line : Line
  line = get_or lines index d

  abbrev place : ℕ
  place = line.client - 1

  abbrev client : Client
  client = get_or clients place e

  at : slice_get asked.script.lines index ≡ Some line
  at = ap (λ (l : List Line). slice_get l index) is ∙ slice_get-get_or lines index d within

  bounds : (1 ≤ line.client) × (line.client ≤ 64)
  bounds = client_within asked come.sit.asks line (in_script asked.script.lines index line at)

  below : (n m : ℕ) → 1 ≤ n → n ≤ 64 → m ≡ 64 → n - 1 < m
  below n m low high many = omega arith

  pub there : slice_get clients place ≡ Some client
  there = slice_get-get_or clients place e (below line.client (length clients) bounds.0 bounds.1 come.sit.many)

  its : line.client ≡ client.number
  its = back line.client client.number bounds.0 (come.sit.each place client there).number
    where
      back : (n m : ℕ) → 1 ≤ n → m ≡ n - 1 + 1 → n ≡ m
      back n m low same = omega arith

  pub may_finish : client.at ≤ index → Driven asked come.stand come.seats world client × NextInTurn asked come.stand client
  may_finish low =
      let runs = runs_by_number asked index world clients come place client there line at its low in
      (driven_so asked [] [] index world clients come place client there runs, next_so asked [] [] index world clients come place client there runs)

  pub is_done : (client.at ≤ index → ⊥) → ComesTo asked [] (index + 1) world (slice_set clients place client)
  is_done past = subst (λ (cs : List Client). ComesTo asked [] (index + 1) world cs) (sym (set-get_or clients place e)) (done_so asked index world clients come place client there line at its past)

  pub finishes : client.at ≤ index → (behind : WorldView) (new : Client) → new.number ≡ client.number → new.at ≤ length lines → new.running ≡ None
      → ((i : ℕ) (one : Line) → slice_get lines i ≡ Some one → one.client ≡ client.number → client.at ≤ i → ((k : ℕ) (other : Line) → slice_get lines k ≡ Some other → other.client ≡ client.number → client.at ≤ k → k < i → ⊥) → i < new.at)
      → GoesOn asked come.stand come.seats world behind client new true → ComesTo asked [] (index + 1) behind (slice_set clients place new)
  finishes low behind new number near idle past goes =
      let runs = runs_by_number asked index world clients come place client there line at its low in
      let may = may_finish low in
      let passed : index < new.at = past index line (slice_get-get_or lines index d within) its low (λ k other at_k own up before. none_between asked index world clients come place client there line at its low k other (ap (λ (l : List Line). slice_get l k) is ∙ at_k) own up before) in
      goes_on asked [] [] index world clients come place client there runs (λ none. come.left) true (λ order whole. refl) behind new (index + 1) number (subst (λ (l : List Line). new.at ≤ length l) (sym is) near) (λ whole. idle) (goes may.0 may.1)
      (one_more_over asked index world clients come place client there line at its low behind new number passed)
