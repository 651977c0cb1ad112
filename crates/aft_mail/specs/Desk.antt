-- What the office shows, and what an entry makes of it.
use Rattle.std.specs.Prelude.{IsTrue, List, Option, [], if◌then◌else◌, is_some, length, max, nat_le, ℕ, ◌*◌, ◌++◌, ◌+◌, ◌-◌, ◌≡◌, ◌≤◌, ◌∷◌}
use Rattle.std.specs.List.{list_all}
use Rattle.aft_id.specs.declared.txn_id.TxnId.{TxnId}
use Rattle.aft_model.specs.declared.caller.By.{By}
use Rattle.aft_model.specs.declared.office.OfficeAct.{OfficeAct}
use Rattle.aft_model.specs.declared.office.OfficeEntry.{OfficeEntry}
use Rattle.aft_model.specs.declared.reply.Reply.{Reply}
use Rattle.aft_model.specs.Office.{heard_after, is_legal_alone, runs}
use Rattle.aft_model.specs.Replies.{is_silent}

-- the ids that the office has heard of, in the order of hearing, its history, the greatest front so far, and for how many answers it has room
pub record Desk : Type 0 where
  pub heard : List TxnId
  pub history : List OfficeEntry
  pub front : ℕ
  pub room : ℕ

-- the office after an entry: its front is the greater of the office's own and the one handed in, and an answer takes its room
abbrev pub after_entry : ℕ → By → OfficeAct → Option Reply → Desk → Desk
after_entry front by act answer desk = record {
  heard = heard_after desk.heard act;
  history = desk.history ++ record { front = max desk.front front; by = by; act = act; answer = answer } ∷ [];
  front = max desk.front front;
  room = if is_silent answer then desk.room else desk.room - 1;
}

-- the office's history is a legal one, as far as it speaks of its list alone, and no front is above the greatest
pub record IsLegal (desk : Desk) : Type 0 where
  pub legal : IsTrue (is_legal_alone desk.history)
  pub fronts : IsTrue (list_all (λ entry. nat_le entry.front desk.front) desk.history)

-- what the office keeps of its fields: its history is a legal one, it knows whose collection runs, and there is room for each answer and for the beginning of a collection before it
pub record IsDesk (history : List OfficeEntry) (front room : ℕ) (running : Option By) (capacity : ℕ) : Type 0 where
  pub legal : IsTrue (is_legal_alone history)
  pub fronts : IsTrue (list_all (λ entry. nat_le entry.front front) history)
  pub collecting : runs history ≡ running
  pub space : length history + 2 * room ≤ capacity + (if is_some running then 1 else 0)
