-- The office stays legal with each entry.
use Rattle.std.proofs.Common.{◌≡◌, ℕ, ◌+◌, ◌-◌, ◌*◌, ◌≤◌, Bool, true, false, Ok, Err, Result, List, [], ◌∷◌, ◌++◌, length, max, refl, sym, ap, ◌∙◌, subst, arith, length-append}
use Rattle.std.specs.Prelude.{IsTrue, IfOk, MatchResult, Option, Some, None, is_none, is_some, if◌then◌else◌, nat_le}
use Rattle.std.specs.List.{list_all}
use Rattle.std.proofs.lemmas.Bool.{and_parts, and_from}
use Rattle.std.proofs.lemmas.List.Sums.{fold-append}
use Rattle.aft_model.specs.declared.caller.By.{By}
use Rattle.aft_model.specs.declared.office.OfficeAct.{OfficeAct}
use Rattle.aft_model.specs.declared.office.OfficeAct.TheVariants.{Collected, Collecting, Nothing, Posted}
use Rattle.aft_model.specs.declared.office.OfficeEntry.{OfficeEntry}
use Rattle.aft_model.specs.declared.reply.Reply.{Reply}
use Rattle.aft_model.specs.declared.reply.Reply.TheVariants.{NoMemory}
use Rattle.std.specs.declared.alloc.AllocError.{AllocError}
use Rattle.aft_model.specs.Office.{is_run_by, last_round, may_act, may_be_next, may_end_with, may_post, runs, runs_after}
use Rattle.aft_id.specs.declared.txn_id.TxnId.{TxnId}
use Rattle.aft_mail.specs.Desk.{IsDesk, IsLegal}
use Rattle.aft_mail.proofs.Histories.{each_after-more, all-more}

-- fronts that aren't above one aren't above a greater one
raised : (history : List OfficeEntry) (front more : ℕ) → front ≤ more → IsTrue (list_all (λ e. nat_le e.front front) history) → IsTrue (list_all (λ e. nat_le e.front more) history)
raised [] front more below passed = refl
raised (e ∷ history) front more below passed =
    let parts = and_parts (nat_le e.front front) (list_all (λ (other : OfficeEntry). nat_le other.front front) history) passed in
    and_from _ _ (grind (arith, below, parts.0)) (raised history front more below parts.1)

-- the office keeps what it keeps with one more entry that may come, where its fields follow
pub desk-more : (history : List OfficeEntry) (front room room' capacity capacity' : ℕ) (running running' : Option By) (by : By) (act : OfficeAct) (answer : Option Reply) (handed : ℕ)
    → IsDesk history front room running capacity
    → IsTrue (may_act history by act answer)
    → runs_after running by act ≡ running'
    → length history + 1 + 2 * room' ≤ capacity' + (if is_some running' then 1 else 0)
    → IsDesk (history ++ record { front = max front handed; by = by; act = act; answer = answer } ∷ []) (max front handed) room' running' capacity'
desk-more history front room room' capacity capacity' running running' by act answer handed desk may follows space =
    let entry : OfficeEntry = record { front = max front handed; by = by; act = act; answer = answer } in
    let fronts = raised history front (max front handed) (omega arith) desk.fronts in
    record {
      legal = each_after-more may_be_next history entry desk.legal (and_from _ _ fronts may);
      fronts = all-more (λ e. nat_le e.front (max front handed)) history entry fronts (grind arith);
      collecting = fold-append (λ (before : Option By) (e : OfficeEntry). runs_after before e.by e.act) None history (entry ∷ []) ∙ ap (λ before. runs_after before by act) desk.collecting ∙ follows;
      space = omega (arith, length-append history (entry ∷ []), space);
    }

-- so it is legal
pub legal-desk : {heard : List TxnId} {history : List OfficeEntry} {front room capacity : ℕ} {running : Option By} → IsDesk history front room running capacity → IsLegal (record { heard = heard; history = history; front = front; room = room })
legal-desk desk = record { legal = desk.legal; fronts = desk.fronts }

no_one : (running : Option By) → is_some running ≡ false → running ≡ None
no_one None none = refl
no_one (Some by) none = cc

-- with the beginning of a collection, where none runs
pub desk-begins : (history : List OfficeEntry) (front room capacity : ℕ) (running : Option By) (by : By) (handed : ℕ) → IsDesk history front room running capacity → is_some running ≡ false
    → IsDesk (history ++ record { front = max front handed; by = by; act = Collecting; answer = None } ∷ []) (max front handed) room (Some by) capacity
desk-begins history front room capacity running by handed desk none =
    let space : length history + 2 * room ≤ capacity + 0 = subst (λ r. length history + 2 * room ≤ capacity + (if is_some r then 1 else 0)) (no_one running none) desk.space in
    desk-more history front room room capacity capacity running (Some by) by Collecting None handed desk (and_from _ _ (ap is_none (desk.collecting ∙ no_one running none)) refl) refl (omega (arith, space))

-- with the end of a collection, where this line's is the one that runs, and with want of memory where it isn't
pub desk-ends : (history : List OfficeEntry) (front room capacity : ℕ) (running running' : Option By) (by : By) (reply : Reply) (handed : ℕ) (ours : Bool) (end : OfficeAct × Reply)
    → IsDesk history front room running capacity → 1 ≤ room → IsTrue (may_end_with (Some reply)) → ours ≡ is_run_by by running
    → end ≡ (if ours then (Collected, reply) else (Nothing, NoMemory)) → running' ≡ (if ours then None else running)
    → IsDesk (history ++ record { front = max front handed; by = by; act = end.0; answer = Some end.1 } ∷ []) (max front handed) (room - 1) running' capacity
desk-ends history front room capacity running running' by reply handed true end desk left may is how follows =
    rw (how, follows)
    (desk-more history front room (room - 1) capacity capacity running None by Collected (Some reply) handed desk
    (and_from _ _ (ap (is_run_by by) desk.collecting ∙ sym is) may) refl (ended running (sym is) desk.space))
  where
    ended : (r : Option By) → is_run_by by r ≡ true → length history + 2 * room ≤ capacity + (if is_some r then 1 else 0) → length history + 1 + 2 * (room - 1) ≤ capacity + 0
    ended None runs space = cc
    ended (Some other) runs space = omega arith
desk-ends history front room capacity running running' by reply handed false end desk left may is how follows =
    rw (how, follows)
    (desk-more history front room (room - 1) capacity capacity running running by Nothing (Some NoMemory) handed desk refl refl (omega (arith, desk.space, left)))

-- with the end of a round: what was posted, or want of memory
pub desk-posted : (history : List OfficeEntry) (front room capacity : ℕ) (running : Option By) (by : By) (ids : List TxnId) (reply : Reply) (handed : ℕ) (heard : Result (List TxnId) AllocError) (end : OfficeAct × Reply)
    → IsDesk history front room running capacity → 1 ≤ room → IsTrue (may_post (last_round by history) ids (Some reply)) → IfOk heard (λ is. is ≡ ids)
    → MatchResult heard (λ is. end ≡ (Posted is, reply)) (λ _. end ≡ (Nothing, NoMemory))
    → IsDesk (history ++ record { front = max front handed; by = by; act = end.0; answer = Some end.1 } ∷ []) (max front handed) (room - 1) running capacity
desk-posted history front room capacity running by ids reply handed (Ok is) end desk left may same how =
    rw (how, same)
    (desk-more history front room (room - 1) capacity capacity running running by (Posted ids) (Some reply) handed desk may refl (omega (arith, desk.space, left)))
desk-posted history front room capacity running by ids reply handed (Err e) end desk left may same how =
    rw how
    (desk-more history front room (room - 1) capacity capacity running running by Nothing (Some NoMemory) handed desk refl refl (omega (arith, desk.space, left)))
