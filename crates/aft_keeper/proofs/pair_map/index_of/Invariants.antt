use Rattle.std.proofs.Common.{take}
use Rattle.aft_keeper.proofs.Indexed.{Shows}
use Rattle.aft_keeper.proofs.pair_map.index_of.Given as goal

abbrev pub invariant-loop-place : goal.invariant-loop-place
invariant-loop-place l = Shows (take l.place l.pairs) l.places.entries (take l.place l.pairs)
