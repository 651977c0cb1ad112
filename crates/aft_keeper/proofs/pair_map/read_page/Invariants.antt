use Rattle.std.proofs.Common.{◌≡◌, ◌≤◌, ◌-◌, ◌++◌, take, length, nat_eq}
use Rattle.std.specs.Prelude.{All, take_while}
use Rattle.std.specs.String.{string_bytes}
use Rattle.std.specs.List.{starts_with}
use Rattle.aft_keeper.specs.PairMap.{Stands, indexed}
use Rattle.aft_keeper.proofs.pair_map.read_page.Given as goal

abbrev pub invariant-loop-name : goal.invariant-loop-name
invariant-loop-name l = record {
  read : l.page.items ++ take (l.limit - length l.page.items) (take_while (λ p. starts_with nat_eq p.name l.prefix) (indexed l.pairs l.name-iterator))
      ≡ take l.limit (take_while (λ p. starts_with nat_eq p.name l.prefix) (indexed l.pairs l.fn.range));
  few : length l.page.items ≤ l.limit;
  stand : All (λ e. Stands l.pairs (string_bytes e.0) e.1) l.name-iterator;
}
