use Rattle.std.proofs.Common.{rules, Some}
use Rattle.std.proofs.lemmas.Map.Text.{btree_map_updates_text}
use Rattle.aft_keeper.proofs.pair_map.set_place.Goals as goal

pub returns-in-Some-clause-set : goal.returns-in-Some-clause-set
returns-in-Some-clause-set c = λ q.
    btree_map_updates_text c.args.name.now c.args.places.now (c.get_mut.follows.lender c.args.place) (Some c.args.place) ((c.get_mut.follows.holds c.args.place).3 (search rules)) q
