-- A word of an order is followed.
use Rattle.std.proofs.Common.{arith, ◌≡◌, ℕ, ◌+◌, ◌%◌, ◌≤◌, ◌<◌, Bool, false, List, [], ◌∷◌, length, get_or, slice_get, slice_set, refl, ap, subst, ◌∙◌, inl, inr}
use Rattle.std.specs.Prelude.{IsTrue, None, Some, filter, if◌then◌else◌, ◌==◌}
use Rattle.std.proofs.lemmas.Bool.{eqb-true, false_from_ne_true}
use Rattle.std.proofs.lemmas.Option.{slice_get-get_or}
use Rattle.aft_model.proofs.Histories.{In}
use Rattle.aft_model.proofs.Lists.{in_filter}
use Rattle.aft_model.specs.declared.script.Line.{Line}
use Rattle.aft_model.specs.declared.script.Step.{Step}
use Rattle.aft_model.specs.History.{first_of}
use Rattle.aft_lines.specs.Asked.{Asked}
use Rattle.aft_lines.specs.Lines.{by_words, others}
use Rattle.aft_step.proofs.Finishing.{GoesOn, client_within}
use Rattle.aft_step.proofs.Following.{driven_so, goes_on, next_so}
use Rattle.aft_step.specs.Crowding.{ComesTo, IsWordOf}
use Rattle.aft_step.specs.declared.client.Client.{Client}
use Rattle.aft_step.specs.Sitting.{Driven, NextInTurn}
use Rattle.aft_step.specs.Worlds.{WorldView}
use Rattle.law_clients.proofs.Words.{by_word, words_skip}
use Rattle.law_clients.specs.Words.{is_waiting, waiting, waiting_of}

first_none : (test : Line → Bool) (xs : List Line) → ((x : Line) → In x xs → test x ≡ false) → first_of (filter test xs) ≡ None
first_none test [] none = refl
first_none test (x ∷ xs) none = ap (λ (b : Bool). first_of (if b then x ∷ filter test xs else filter test xs)) (none x (inl refl)) ∙ first_none test xs (λ y among. none y (inr among))

-- the place of a client, by its number, among numbers below 2 ^ 32
abbrev pub place_of : ℕ → ℕ
place_of number = (number + 4294967295) % 4294967296

place_is : (number : ℕ) → number < 4294967296 → place_of number < 64 → place_of number + 1 ≡ number
place_is number small low = omega arith

place_low : (number : ℕ) → 1 ≤ number → number ≤ 64 → place_of number < 64
place_low number low high = omega arith

module _ (asked : Asked) (word : Step) (rest : List Step) (world : WorldView) (clients : List Client) (come : ComesTo asked (word ∷ rest) 0 world clients) where
  pub nobody : length clients ≤ place_of word.client → ComesTo asked rest 0 world clients
  nobody far = record {
    stand = come.stand;
    seats = come.seats;
    sit = come.sit;
    left = words_skip asked come.sit.asks.script come.sit.crowd.account.differ come.stand word rest come.left (first_none (λ (l : Line). l.client == word.client) (waiting come.stand asked.script.lines) none);
    none_runs = come.none_runs;
    over = come.over;
  }
    where
      apart : (n m : ℕ) → m ≡ 64 → m ≤ n → n < 64 → ⊥
      apart n m many far near = omega arith

      none : (x : Line) → In x (waiting come.stand asked.script.lines) → (x.client == word.client) ≡ false
      none x among = false_from_ne_true _ (λ same.
          let bound = client_within asked come.sit.asks x (in_filter (λ (l : Line). is_waiting (come.stand l)) x asked.script.lines among).0 in
          let is : x.client ≡ word.client = eqb-true x.client word.client same in
          apart (place_of word.client) (length clients) come.sit.many far (place_low word.client (subst (λ (n : ℕ). 1 ≤ n) is bound.0) (subst (λ (n : ℕ). n ≤ 64) is bound.1)))

  module _ (small : word.client < 4294967296) (e : Client) (near : place_of word.client < length clients) where
    abbrev place : ℕ
    place = place_of word.client

    abbrev client : Client
    client = get_or clients place e

    there : slice_get clients place ≡ Some client
    there = slice_get-get_or clients place e near

    number : client.number ≡ word.client
    number = (come.sit.each place client there).number ∙ place_is word.client small (subst (λ (n : ℕ). place < n) come.sit.many near)

    runs : (line : Line) → client.running ≡ None → first_of (waiting_of client.number come.stand asked.script.lines) ≡ Some line → by_words (word ∷ rest) (waiting come.stand asked.script.lines) ≡ line ∷ by_words rest (others line (waiting come.stand asked.script.lines))
    runs line none first = by_word asked come.sit.asks.script come.sit.crowd.account.differ come.stand line word rest (subst (λ (n : ℕ). first_of (waiting_of n come.stand asked.script.lines) ≡ Some line) number first)

    pub within_so : (lines : List Line) → asked.script.lines ≡ lines → client.at ≤ length lines
    within_so lines is = subst (λ (l : List Line). client.at ≤ length l) is (come.sit.each place client there).within

    pub may_follow : Driven asked come.stand come.seats world client × NextInTurn asked come.stand client
    may_follow = (driven_so asked (word ∷ rest) rest 0 world clients come place client there runs, next_so asked (word ∷ rest) rest 0 world clients come place client there runs)

    pub follows : IsWordOf asked word → (behind : WorldView) (new : Client) → new.number ≡ client.number → new.at ≤ length asked.script.lines → (IsTrue word.whole → new.running ≡ None) → GoesOn asked come.stand come.seats world behind client new word.whole → ComesTo asked rest 0 behind (slice_set clients place new)
    follows its behind new same near_end idle goes =
        goes_on asked (word ∷ rest) rest 0 world clients come place client there runs
        (λ none. words_skip asked come.sit.asks.script come.sit.crowd.account.differ come.stand word rest come.left (subst (λ (n : ℕ). first_of (waiting_of n come.stand asked.script.lines) ≡ None) number none))
        word.whole its behind new 0 same near_end idle (goes may_follow.0 may_follow.1) (λ later now driven leaves k other at_k low. absurd (never k low))
      where
        never : (k : ℕ) → k < 0 → ⊥
        never k low = omega arith
