-- Clients side by side: what the turns of one leave of all.
use Rattle.std.proofs.Common.{arith, ◌≡◌, ◌≢◌, ℕ, ◌+◌, ◌≤◌, ◌<◌, zero, suc, List, [], ◌∷◌, ◌++◌, length, slice_get, slice_set, refl, sym, ap, subst, ◌∙◌, ◌⊎◌, inl, inr}
use Rattle.std.specs.Prelude.{None, Option, Some}
use Rattle.std.proofs.lemmas.List.{length-set}
use Rattle.aft_model.proofs.Histories.{In, in_front}
use Rattle.aft_model.specs.declared.caller.Hold.{Hold}
use Rattle.aft_model.specs.declared.script.Line.{Line}
use Rattle.aft_lines.specs.Asked.{Asked}
use Rattle.aft_lines.specs.Lines.{background_lines, lines, whole_order}
use Rattle.aft_step.specs.Crowding.{AllSit, NoneRuns, SitsAt}
use Rattle.aft_step.specs.declared.client.Client.{Client}
use Rattle.aft_step.specs.declared.client.Course.{Course}
use Rattle.aft_step.specs.Sitting.{Driven, LeavesOthers, Sits, StandsAt}
use Rattle.aft_step.specs.Worlds.{WorldView}
use Rattle.law_accounts.specs.Account.{Stand}
use Rattle.law_clients.specs.Clients.{Seat}

-- ---- lists by index

pub in_script : (xs : List Line) (i : ℕ) (x : Line) → slice_get xs i ≡ Some x → In x xs
in_script [] i x is = absurd cc
in_script (y ∷ ys) zero x is = inl (one y x is)
  where
    one : (a b : Line) → Some a ≡ Some b → b ≡ a
    one a b e = cc
in_script (y ∷ ys) (suc i) x is = inr (in_script ys i x is)

pub index_of : (xs : List Line) (x : Line) → In x xs → (i : ℕ) × (i < length xs) × (slice_get xs i ≡ Some x)
index_of [] x none = absurd none
index_of (y ∷ ys) x (inl here) = (0, omega arith, ap (λ (l : Line). Some l) (sym here))
index_of (y ∷ ys) x (inr later) = let more = index_of ys x later in (suc more.0, (let low = more.1 in omega arith), more.2)

-- what stands in a list behind a write
pub set_cases : (xs : List Client) (i j : ℕ) (new c : Client) → slice_get (slice_set xs i new) j ≡ Some c → ((j ≡ i) × (c ≡ new)) ⊎ ((j ≢ i) × (slice_get xs j ≡ Some c))
set_cases [] i j new c is = absurd (nothing i j is)
  where
    nothing : (i j : ℕ) → slice_get (slice_set [] i new) j ≡ Some c → ⊥
    nothing zero j e = cc
    nothing (suc i) j e = cc
set_cases (x ∷ xs) zero zero new c is = inl (refl, one new c is)
  where
    one : (a b : Client) → Some a ≡ Some b → b ≡ a
    one a b e = cc
set_cases (x ∷ xs) zero (suc j) new c is = inr ((λ e. apart j e), is)
  where
    apart : (j : ℕ) → suc j ≡ 0 → ⊥
    apart j e = omega arith
set_cases (x ∷ xs) (suc i) zero new c is = inr ((λ e. apart i e), is)
  where
    apart : (i : ℕ) → 0 ≡ suc i → ⊥
    apart i e = omega arith
set_cases (x ∷ xs) (suc i) (suc j) new c is = elim (set_cases xs i j new c is) [
  | inl same ↦ inl (ap suc same.0, same.1)
  | inr other ↦ inr ((λ e. other.0 (less i j e)), other.1)
]
  where
    less : (i j : ℕ) → suc j ≡ suc i → j ≡ i
    less i j e = omega arith

-- ---- the others sit on

module _ (asked : Asked) where
  pub listed : (i : ℕ) (line : Line) → slice_get asked.script.lines i ≡ Some line → In line (lines asked)
  listed i line at = in_front line (asked.script.lines ++ asked.asks) (background_lines asked.order asked.settings) (in_front line asked.script.lines asked.asks (in_script asked.script.lines i line at))

  module _ (stand later : Line → Stand) (seats now : ℕ → Seat) (number : ℕ) (leaves : LeavesOthers asked number stand later seats now) where
    same_line : (c : ℕ) → c ≢ number → (i : ℕ) (line : Line) → slice_get asked.script.lines i ≡ Some line → line.client ≡ c → later line ≡ stand line
    same_line c apart i line at its = leaves.lines line (listed i line at) (λ e. apart (sym its ∙ e))

    stands_still : (c at : ℕ) (hold : Hold) (running : Option Course) → c ≢ number → StandsAt asked stand seats c at hold running → StandsAt asked later now c at hold running
    stands_still c at hold None apart stands = (leaves.seats c apart ∙ stands.0, λ i line there its up. same_line c apart i line there its ∙ stands.1 i line there its up)
    stands_still c at hold (Some course) apart runs = record {
      line = runs.line;
      trail = runs.trail;
      there = runs.there;
      its = runs.its;
      busy = leaves.seats c apart ∙ runs.busy;
      goes = runs.goes;
      on = runs.on;
      later = λ i line there its up. same_line c apart i line there its ∙ runs.later i line there its up;
    }

    sits_still : (client : Client) → client.number ≢ number → Sits asked stand seats client → Sits asked later now client
    sits_still client apart sits = record {
      placed = sits.placed;
      own = sits.own;
      behind = λ i line there its low. same_line client.number apart i line there its ∙ sits.behind i line there its low;
      stands = stands_still client.number client.at client.hold client.running apart sits.stands;
    }

  -- all sit behind the turns of one
  pub all_sit : (stand later : Line → Stand) (seats now : ℕ → Seat) (world behind : WorldView) (clients : List Client) (i : ℕ) (client new : Client) → AllSit asked stand seats world clients → slice_get clients i ≡ Some client
      → new.number ≡ client.number → new.at ≤ length asked.script.lines → Driven asked later now behind new → LeavesOthers asked client.number stand later seats now → AllSit asked later now behind (slice_set clients i new)
  all_sit stand later seats now world behind clients i client new all there number within driven leaves = record {
    asks = driven.asks;
    crowd = driven.crowd;
    fit = driven.fit;
    many = length-set clients i new ∙ all.many;
    each = each;
  }
    where
      different : (a b n m : ℕ) → n ≡ a + 1 → m ≡ b + 1 → a ≢ b → n ≢ m
      different a b n m is its apart same = apart (omega arith)

      each : (j : ℕ) (c : Client) → slice_get (slice_set clients i new) j ≡ Some c → SitsAt asked later now j c
      each j c at = elim (set_cases clients i j new c at) [
        | inl same ↦
            subst (λ (one : Client). SitsAt asked later now j one) (sym same.1)
            (record { number = number ∙ (all.each i client there).number ∙ ap (λ (n : ℕ). n + 1) (sym same.0); sits = driven.sits; within = within })
        | inr other ↦
            let was = all.each j c other.1 in
            record {
              number = was.number;
              sits = sits_still stand later seats now client.number leaves c (different j i c.number client.number was.number (all.each i client there).number other.0) was.sits;
              within = was.within;
            }
      ]

  pub none_runs_still : (clients : List Client) (i : ℕ) (new : Client) → NoneRuns asked clients → ((order : List Line) → whole_order asked ≡ Some order → new.running ≡ None) → NoneRuns asked (slice_set clients i new)
  none_runs_still clients i new none its order is j c at = elim (set_cases clients i j new c at) [
    | inl same ↦ ap (λ (one : Client). one.running) same.1 ∙ its order is
    | inr other ↦ none order is j c other.1
  ]
