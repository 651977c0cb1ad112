-- Ranks: who has made an entry is the opening, or a line that doesn't wait.
use Rattle.std.proofs.Common.{arith, ◌≡◌, ◌≢◌, ℕ, ◌≤◌, Bool, true, false, not, List, [], ◌∷◌, ◌++◌, suc, refl, sym, ap, subst, ◌∙◌, inl, inr}
use Rattle.std.specs.Prelude.{IsFalse, IsTrue, None, Option, Some, filter, if◌then◌else◌, nat_le, ◌==◌}
use Rattle.std.specs.List.{list_all, list_any}
use Rattle.std.proofs.lemmas.Bool.{le-leb, not-true, or_cases, true≢false}
use Rattle.aft_model.proofs.Histories.{In, all_at, any_found, in_append, in_back, in_front}
use Rattle.aft_model.proofs.Lists.{all_from, in_filter}
use Rattle.aft_model.specs.declared.caller.By.{By}
use Rattle.aft_model.specs.declared.script.Line.{Line}
use Rattle.aft_model.specs.declared.script.Order.{Order}
use Rattle.aft_model.specs.declared.script.Step.{Step}
use Rattle.aft_model.specs.History.{first_of}
use Rattle.aft_model.specs.Opening.{opening}
use Rattle.aft_model.specs.ScanRun.{same_line}
use Rattle.aft_lines.specs.Asked.{Asked, Ran}
use Rattle.aft_lines.specs.FinishedText.{line_of}
use Rattle.aft_lines.specs.LegalTrace.{is_of_lines, makers, rank, rank_from}
use Rattle.aft_lines.specs.Lines.{after_word, by_words, lines, order_by, others, whole_order}
use Rattle.law_accounts.proofs.Orders.{opening_parts}
use Rattle.law_accounts.specs.Account.{Account, Stand, Waits}
use Rattle.law_accounts.specs.Adding.{ranks_last}
use Rattle.law_claims.proofs.Scenes.{same_by}
use Rattle.law_clients.specs.Clients.{ComesInTurn}
use Rattle.law_driver.specs.Driven.{RanksLast, ranks_in}

-- ---- where nothing is ordered, nobody comes before another

none_before : (by : By) (ran : Ran) → IsTrue (ranks_last [] by ran)
none_before by ran = all_from (list_all (λ (other : By). nat_le (rank [] other) (rank [] by))) (makers ran) (λ xs among. all_from (λ (other : By). nat_le (rank [] other) (rank [] by)) xs (λ other it. refl))

-- ---- the opening has no rank

first_in : (xs : List Line) (x : Line) → first_of xs ≡ Some x → In x xs
first_in [] x is = absurd cc
first_in (y ∷ ys) x is = inl (one y x is)
  where
    one : (a b : Line) → Some a ≡ Some b → b ≡ a
    one a b e = cc

pub in_words : (words : List Step) (all : List Line) (line : Line) → In line (by_words words all) → In line all
in_words [] all line among = among
in_words (word ∷ words) all line among = cases (λ rest it. in_words words rest line it) (first_of (filter (λ (l : Line). l.client == word.client) all)) refl among
  where
    cases : ((rest : List Line) → In line (by_words words rest) → In line rest) → (next : Option Line) → first_of (filter (λ (l : Line). l.client == word.client) all) ≡ next → In line (after_word next (by_words words) all) → In line all
    cases more None is it = more all it
    cases more (Some next) is (inl here) = subst (λ (l : Line). In l all) (sym here) (in_filter (λ (l : Line). l.client == word.client) next all (first_in (filter (λ (l : Line). l.client == word.client) all) next is)).0
    cases more (Some next) is (inr later) = (in_filter (λ (l : Line). not (l.number == next.number)) line all (more (others next all) later)).0

-- who is none of some lines has no rank among them
no_rank : (by : By) (from : ℕ) (order : List Line) → ((line : Line) → In line order → IsFalse (same_line by (line_of line))) → rank_from from by order ≡ 0
no_rank by from [] strange = refl
no_rank by from (line ∷ rest) strange = ap (λ (b : Bool). if b then from else rank_from (suc from) by rest) (strange line (inl refl)) ∙ no_rank by (suc from) rest (λ other among. strange other (inr among))

-- ---- a line that comes in its order comes behind all that have made an entry

module _ (asked : Asked) (ran : Ran) (stand : Line → Stand) (line : Line) (account : Account asked ran stand) (none : asked.asks ≡ []) where
  -- lines that run whole are those of the run
  in_order : (order : List Line) → whole_order asked ≡ Some order → (other : Line) → In other order → In other (lines asked)
  in_order order is other among = by_order asked.order refl is
    where
      some_is : (xs ys : List Line) → Some xs ≡ Some ys → xs ≡ ys
      some_is xs ys e = cc

      in_lines : In other (asked.script.lines ++ asked.asks) → In other (lines asked)
      in_lines it = in_front other (asked.script.lines ++ asked.asks) _ it

      by_order : (given : Option Order) → asked.order ≡ given → order_by asked given ≡ Some order → In other (lines asked)
      by_order None given_is ordered = absurd cc
      by_order (Some words) given_is ordered = by_whole (list_all (λ (word : Step). word.whole) words.words) ordered
        where
          by_whole : (whole : Bool) → (if whole then Some (by_words words.words asked.script.lines ++ asked.asks) else None) ≡ Some order → In other (lines asked)
          by_whole false e = absurd cc
          by_whole true e = in_lines (elim (in_append other (by_words words.words asked.script.lines) asked.asks (subst (λ (xs : List Line). In other xs) (sym (some_is _ _ e)) among)) [
            | inl script ↦ in_front other asked.script.lines asked.asks (in_words words.words asked.script.lines other script)
            | inr later ↦ in_back other asked.script.lines asked.asks later
          ])

  makers_known : (xs : List By) (by : By) → In xs (makers ran) → In by xs → IsTrue (is_of_lines (lines asked) by)
  makers_known xs by inside it = all_at (is_of_lines (lines asked)) by xs it (all_at (list_all (is_of_lines (lines asked))) xs (makers ran) inside (opening_parts asked ran account.opens).0)

  -- a line of which an entry is there doesn't wait
  has_begun : (other : Line) (xs : List By) (by : By) → In other (lines asked) → In xs (makers ran) → In by xs → IsTrue (same_line (line_of other) by) → stand other ≢ Waits
  has_begun other xs by listed inside it same waits =
      true≢false (sym same ∙ not-true (same_line (line_of other) by) (all_at (λ (b : By). not (same_line (line_of other) b)) by xs it (all_at (list_all (λ (b : By). not (same_line (line_of other) b))) xs (makers ran) inside (account.waiting other listed waits))))

  low : (order : List Line) → whole_order asked ≡ Some order → ComesInTurn asked stand line → (xs : List By) (by : By) → In xs (makers ran) → In by xs → IsTrue (nat_le (rank order by) (rank order (line_of line)))
  low order is comes xs by inside it =
      elim (or_cases (same_line opening by) (list_any (λ (l : Line). same_line (line_of l) by) (lines asked)) (makers_known xs by inside it)) [
        | inl opens ↦
            le-leb (rank order by) (rank order (line_of line)) (subst (λ (n : ℕ). n ≤ rank order (line_of line)) (sym (ap (rank order) (sym (same_by opening by opens)) ∙ no_rank opening 1 order (λ other among. account.strangers other (in_order order is other among)))) (omega arith))
        | inr lists ↦
            let found = any_found (λ (l : Line). same_line (line_of l) by) (lines asked) lists in
            let behind = comes order is found.0 found.1 (has_begun found.0 xs by found.1 inside it found.2) in
            subst (λ (b : By). IsTrue (nat_le (rank order b) (rank order (line_of line)))) (same_by (line_of found.0) by found.2) (le-leb (rank order (line_of found.0)) (rank order (line_of line)) behind.1)
      ]

  pub ranks_so : ComesInTurn asked stand line → RanksLast asked ran (line_of line)
  ranks_so comes = (by_order (whole_order asked) refl, subst (λ (asks : List Line). IsTrue (ranks_last asks (line_of line) ran)) (sym none) (none_before (line_of line) ran))
    where
      by_order : (order : Option (List Line)) → whole_order asked ≡ order → ranks_in ran (line_of line) order
      by_order None is = tt
      by_order (Some order) is = all_from (list_all (λ (other : By). nat_le (rank order other) (rank order (line_of line)))) (makers ran) (λ xs inside. all_from (λ (other : By). nat_le (rank order other) (rank order (line_of line))) xs (λ by it. low order is comes xs by inside it))

-- behind what another line adds, where none of a run is ordered
pub ranks_alone : (asked : Asked) (ran : Ran) (by : By) → asked.asks ≡ [] → whole_order asked ≡ None → RanksLast asked ran by
ranks_alone asked ran by none is = (subst (ranks_in ran by) (sym is) tt, subst (λ (asks : List Line). IsTrue (ranks_last asks by ran)) (sym none) (none_before by ran))
