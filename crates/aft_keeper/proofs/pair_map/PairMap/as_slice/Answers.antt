use Rattle.aft_keeper.proofs.Indexed.{All-contained, All-shown}
use Rattle.aft_keeper.proofs.pair_map.PairMap.as_slice.Goals as goal

pub returns-clause-each : goal.returns-clause-each
returns-clause-each c = rw (c.as_slice.ensures.value, ← c.self.view_is) (All-contained c.self.inside.pairs.items c.self.inside.places c.self.invariant)

pub returns-clause-no_others : goal.returns-clause-no_others
returns-clause-no_others c = rw (c.as_slice.ensures.value, ← c.self.view_is) (All-shown c.self.inside.pairs.items c.self.inside.places.entries c.self.invariant)
