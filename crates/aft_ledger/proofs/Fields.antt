-- The fields of a ledger, and what they show.
use Rattle.std.proofs.Common.{◌≡◌, ℕ, ◌+◌, ◌-◌, ◌≤◌, Bool, true, List, length, vec_capacity, arith, subst, sym}
use Rattle.std.specs.Prelude.{IsTrue, nat_lt}
use Rattle.std.proofs.lemmas.Bool.Decides.{nat_tests}
use Rattle.aft_ledger.specs.declared.ledger.Ledger.TheInside.{Inside}
use Rattle.aft_ledger.specs.Fresh.{once_each}
use Rattle.aft_ledger.specs.Ledger.{Held, IsLedger, LedgerView}
use Rattle.aft_ledger.specs.Turns.{is_doing}
use Rattle.aft_model.specs.declared.caller.Attempt.{Attempt}
use Rattle.aft_model.specs.declared.node.NodeEntry.{NodeEntry}
use Rattle.aft_model.specs.Attempts.{AttemptState}

-- what the fields hold
abbrev pub held : Inside → Held
held i = record {
  number = i.number;
  capacity = i.cache.capacity;
  history = i.history.items;
  front = i.front;
  room = i.room;
  stage = i.stage;
  newest = i.newest;
  commits = i.known;
  table = i.table;
  kept = i.cache.kept;
  fresh = once_each i.fresh.items;
  space = vec_capacity i.history;
}

-- what the fields show
abbrev pub view_of : Inside → LedgerView
view_of i = record {
  number = i.number;
  capacity = i.cache.capacity;
  history = i.history.items;
  front = i.front;
  room = i.room;
  has_room = nat_lt (length i.history.items + i.room) (vec_capacity i.history);
}

module _ (i : Inside) (v : LedgerView) (is : view_of i ≡ v) where
  -- where there is room for an answer, there is space for it
  pub answer_space : IsLedger (held i) → 1 ≤ v.room → length i.history.items + 1 + (i.room - 1) ≤ vec_capacity i.history
  answer_space l some = let here : 1 ≤ i.room = subst (λ (w : LedgerView). 1 ≤ w.room) (sym is) some in omega (arith, l.fits)

  -- where there is room for one more entry, there is space for it
  pub entry_space : v.has_room ≡ true → length i.history.items + 1 + i.room ≤ vec_capacity i.history
  entry_space roomy = let here : nat_lt (length i.history.items + i.room) (vec_capacity i.history) ≡ true = subst (λ (w : LedgerView). w.has_room ≡ true) (sym is) roomy in grind (arith, nat_tests)

  -- what is said of the view is true of the fields
  pub at_node : (n : ℕ) → n ≡ v.number → n ≡ i.number
  at_node n same = subst (λ (w : LedgerView). n ≡ w.number) (sym is) same

  pub does : (test : AttemptState → Bool) (b : Attempt) → IsTrue (is_doing test b v.history) → IsTrue (is_doing test b i.history.items)
  does test b doing = subst (λ (w : LedgerView). IsTrue (is_doing test b w.history)) (sym is) doing

  pub of_history : (P : List NodeEntry → Type 0) → P v.history → P i.history.items
  of_history P holds = subst (λ (w : LedgerView). P w.history) (sym is) holds
