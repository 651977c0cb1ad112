-- A turn of a line's machine at its node.
use Rattle.std.proofs.Common.{arith, ◌≡◌, ℕ, ◌+◌, ◌-◌, ◌≤◌, suc, ◌&&◌, length, refl, sym, ap, subst, ◌∙◌, slice_get, zero}
use Rattle.std.specs.Prelude.{IsTrue, Some, map, nat_le, ◌==◌}
use Rattle.std.specs.List.{range_with_len}
use Rattle.std.proofs.lemmas.Bool.{and_from, and_parts, eqb-true, leb-true}
use Rattle.std.proofs.lemmas.List.{length-map}
use Rattle.aft_ledger.specs.View.{NodeView}
use Rattle.aft_lines.specs.Asked.{Asked}
use Rattle.aft_machine.specs.Asks.{MayEnd, may_close}
use Rattle.aft_machine.specs.OneNode.{AimsSo, next_of}
use Rattle.aft_machine.specs.declared.machine.Machine.{Machine}
use Rattle.aft_model.proofs.Histories.{In, all_at}
use Rattle.aft_model.specs.declared.caller.Hold.{Hold}
use Rattle.aft_model.specs.declared.script.Line.{Line}
use Rattle.aft_step.proofs.Homes.{home, in_script}
use Rattle.aft_step.proofs.Lists.{counts_one, get_passes, numbered_at, numbered_from}
use Rattle.aft_step.proofs.MayGo as may
use Rattle.aft_step.specs.Going.{Running, names_node}
use Rattle.aft_step.specs.Worlds.{WorldView, is_fit, is_left, left_of as lines_left, ran_of}
use Rattle.aft_turns.specs.Trail.{Trail}
use Rattle.aft_turns.specs.declared.turn.Where.TheVariants as places
use Rattle.law_accounts.specs.Account.{Stand}
use Rattle.law_accounts.specs.Adding.{numbered_in}
use Rattle.law_clients.specs.Clients.{Seat, Seated}
use Rattle.law_driver.specs.Driven.{Driven, IsNode}

-- ---- where it may be made

module _ (asked : Asked) (stand : Line → Stand) (seats : ℕ → Seat) (world : WorldView) (line : Line) (hold : Hold) (machine : Machine) (now : ℕ) (trail : Trail) (r : Running asked stand seats world line hold machine now trail) where
  pub driven : Driven asked (ran_of world) stand line hold trail
  driven = (subst (Seated asked (ran_of world) stand line.client) r.busy (r.crowd.seated line.client)).1

  pub among : In line asked.script.lines
  among = in_script asked r.asks line driven.may.among

  pub named : IsTrue (names_node asked.settings line.order)
  named = all_at (λ (l : Line). names_node asked.settings l.order) line asked.script.lines among r.asks.named

  -- at least this line is left
  some_left : 1 ≤ lines_left stand asked.script.lines
  some_left = counts_one (λ (l : Line). is_left (stand l)) line asked.script.lines among (ap is_left driven.runs)

  module _ (n : ℕ) (next : next_of machine ≡ places.Node n) where
    parts : IsTrue (nat_le 1 n) × IsTrue (nat_le n asked.settings.nodes)
    parts = and_parts (nat_le 1 n) (nat_le n asked.settings.nodes) (home asked line hold now trail named r.placed machine n r.goes next)

    low : 1 ≤ n
    low = leb-true 1 n parts.0

    found : (node : NodeView) × (slice_get world.nodes (n - 1) ≡ Some node) × (node.number ≡ 1 + (n - 1))
    found = numbered_from (λ (x : NodeView). x.number) world.nodes 1 asked.settings.nodes (n - 1) r.fit.numbers (let a = low in let b = leb-true n asked.settings.nodes parts.1 in omega arith)

    same_number : (m k : ℕ) → 1 ≤ k → m ≡ 1 + (k - 1) → m ≡ k
    same_number m k l e = omega arith

    pub place : 1 ≤ n
    place = low

    module _ (node : NodeView) (there : slice_get world.nodes (n - 1) ≡ Some node) where
      fit : IsTrue (node.capacity == asked.settings.cache) × IsTrue (nat_le node.front (length world.door)) × IsTrue (nat_le (lines_left stand asked.script.lines) node.room)
      fit =
          let its = get_passes (is_fit asked.settings (length world.door) (lines_left stand asked.script.lines)) world.nodes (n - 1) node there r.fit.each in
          let two = and_parts (node.capacity == asked.settings.cache && nat_le node.front (length world.door)) (nat_le (lines_left stand asked.script.lines) node.room) its in
          let one = and_parts (node.capacity == asked.settings.cache) (nat_le node.front (length world.door)) two.0 in
          (one.0, one.1, two.1)

      pub number : node.number ≡ n
      number = ap (λ (x : NodeView). x.number) (some_is node found.0 (sym there ∙ found.1)) ∙ same_number found.0.number n low found.2
        where
          some_is : (a b : NodeView) → Some a ≡ Some b → a ≡ b
          some_is a b e = cc

      past_one : (k : ℕ) → 1 ≤ k → 1 + (k - 1) ≡ k
      past_one k l = omega arith

      history : numbered_in node.number 1 (map (λ (x : NodeView). x.history) world.nodes) ≡ node.history
      history = numbered_at (λ (x : NodeView). x.history) world.nodes 1 (n - 1) node.number node there (past_one n low ∙ sym number)

      how_many : length (map (λ (x : NodeView). x.history) world.nodes) ≡ asked.settings.nodes
      how_many =
          length-map world.nodes (λ (x : NodeView). x.history) ∙ sym (length-map world.nodes (λ (x : NodeView). x.number)) ∙ ap length r.fit.numbers ∙ counted 1 asked.settings.nodes
        where
          counted : (from count : ℕ) → length (range_with_len from count) ≡ count
          counted from zero = refl
          counted from (suc count) = ap suc (counted (from + 1) count)

      pub is_node : IsNode asked (ran_of world) node
      is_node = record {
        there = subst (λ (k : ℕ). IsTrue (nat_le 1 k && nat_le k (length (map (λ (x : NodeView). x.history) world.nodes)))) (sym number) (and_from _ _ parts.0 (subst (λ (k : ℕ). IsTrue (nat_le n k)) (sym how_many) parts.1));
        history = sym history;
        capacity = eqb-true node.capacity asked.settings.cache fit.0;
        front = leb-true node.front (length world.door) fit.1;
      }

      pub room : 1 ≤ node.room
      room = let a = some_left in let b = leb-true (lines_left stand asked.script.lines) node.room fit.2 in omega arith

      pub room_for : lines_left stand asked.script.lines ≤ node.room
      room_for = leb-true (lines_left stand asked.script.lines) node.room fit.2

      pub may_go : AimsSo machine → may_close machine node.history × MayEnd now r.goes.time machine node.history
      may_go aims = may.at_node asked (ran_of world) stand line hold now trail driven machine aims r.goes node is_node (next ∙ ap places.Node (sym number))

    -- what `at_node` asks
    pub asks_node : AimsSo machine → (node : NodeView) × (slice_get world.nodes (n - 1) ≡ Some node) × (next_of machine ≡ places.Node node.number) × (1 ≤ node.room) × may_close machine node.history
    asks_node aims = (found.0, found.1, next ∙ ap places.Node (sym (number found.0 found.1)), room found.0 found.1, (may_go found.0 found.1 aims).0)
