-- Behind an opening each client sits idle.
use Rattle.std.proofs.Common.{arith, ◌≡◌, ◌||◌, List, [], length, eqb, refl, sym, subst, inl, inr}
use Rattle.std.specs.Prelude.{IsTrue, Option, Some, is_some}
use Rattle.std.specs.List.{list_all}
use Rattle.std.proofs.lemmas.Bool.{and_from}
use Rattle.aft_model.specs.declared.script.Line.{Line}
use Rattle.aft_model.specs.declared.script.Order.{Order}
use Rattle.aft_model.specs.History.{each_after}
use Rattle.aft_lines.specs.Asked.{Asked, Ran}
use Rattle.aft_lines.specs.LegalTrace.{are_asks, is_numbered_behind, may_be_asked}
use Rattle.law_accounts.proofs.Begun.{account_begins}
use Rattle.law_accounts.proofs.Holds.{first_holds}
use Rattle.law_accounts.specs.Account.{IsDone, Runs, Stand, Waits}
use Rattle.law_accounts.specs.Next.{IsFirst}
use Rattle.aft_lines.specs.Opened.{Opened}
use Rattle.law_clients.proofs.Over.{apart_or_same}
use Rattle.law_clients.specs.Clients.{Crowd, IsNext, first_seat}
use Rattle.law_held.specs.Desk.{is_script}

module _ (asked : Asked) (ran : Ran) (script : IsTrue (is_script asked.script.lines)) (order : Order) (none : asked.asks ≡ []) (ordered : asked.order ≡ Some order) (opened : Opened asked ran) where
  asks : IsTrue (are_asks asked)
  asks =
      and_from _ _
      (and_from _ _ (subst (λ (xs : List Line). IsTrue (list_all may_be_asked xs)) (sym none) refl) (subst (λ (xs : List Line). IsTrue (each_after is_numbered_behind asked.script.lines xs)) (sym none) refl))
      (subst (λ (o : Option Order). IsTrue (is_some o || eqb (length asked.asks) 0)) (sym ordered) refl)

  abbrev waiting : Line → Stand
  waiting line = Waits

  -- a line that is next is the first of its client
  is_first : (line : Line) → IsNext asked waiting line → IsFirst asked line
  is_first line next other listed client = elim (apart_or_same other.number line.number) [
    | inl below ↦ absurd (never (next.earlier other listed client below))
    | inr (inl same) ↦ (let e = same in omega arith)
    | inr (inr above) ↦ (let a = above in omega arith)
  ]
    where
      never : Waits ≡ IsDone → ⊥
      never e = cc

  pub crowd_sits : Crowd asked ran waiting first_seat
  crowd_sits = record {
    account = account_begins asked ran script asks opened;
    seated = λ client. ((λ line listed its runs. never runs), λ line its next. (first_holds asked ran.trace line (is_first line next)).0);
    alone = λ order is line other listed listed' runs runs'. absurd (never runs);
  }
    where
      never : Waits ≡ Runs → ⊥
      never e = cc
