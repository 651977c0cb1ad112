use Rattle.std.proofs.Common.{◌≡◌, ◌∙◌, sym, ap, arith, Some}
use Rattle.aft_keeper.specs.PairMap.{place_of, pair_at, indexed}
use Rattle.aft_keeper.specs.declared.keeper.Pair.{Pair}
use Rattle.aft_keeper.specs.Contents.{with_pair}
use Rattle.std.specs.Prelude.{slice_set}
use Rattle.aft_keeper.proofs.Indexed.{Shows, Shows-replaced, pair_at-read}
use Rattle.aft_keeper.proofs.pair_map.PairMap.set.Goals as goal

pub index_mut-requires : goal.index_mut-requires
index_mut-requires c =
    let there : place_of c.args.name.now c.self.inside.places.entries ≡ Some c.in-Some.place.now = sym c.in-Some.ensures.value in
    let within = (c.self.invariant.found c.args.name.now c.in-Some.place.now there).within in
    grind arith

-- the index shows the changed pair
shows : (c : goal.After-drop-index_mut) → Shows (slice_set c.self.inside.pairs.items c.in-Some.place.now (record { name = c.index_mut.result.now.name; bytes = c.in_ok-copy.copy }))
    c.self.inside.places.entries (with_pair c.args.name.now c.in_ok-copy.copy (indexed c.self.inside.pairs.items c.self.inside.places.entries))
shows c =
    let there : place_of c.args.name.now c.self.inside.places.entries ≡ Some c.in-Some.place.now = sym c.in-Some.ensures.value in
    let within = (c.self.invariant.found c.args.name.now c.in-Some.place.now there).within in
    let read : pair_at c.self.inside.pairs.items c.in-Some.place.now ≡ c.index_mut.result.now = pair_at-read c.self.inside.pairs.items c.in-Some.place.now c.index_mut.result.now within c.index_mut.ensures.value in
    Shows-replaced c.self.inside.pairs.items _ c.self.inside.places.entries c.args.name.now c.in_ok-copy.copy c.in-Some.place.now c.self.invariant there c.requires
    (ap (λ (p : Pair). slice_set c.self.inside.pairs.items c.in-Some.place.now (record { name = p.name; bytes = c.in_ok-copy.copy })) (sym read))

pub invariant_of-self : goal.invariant_of-self
invariant_of-self c = (shows c).indexed_well

pub returns-in-Some-clause-ok : goal.returns-in-Some-clause-ok
returns-in-Some-clause-ok c = (shows c).shows ∙ ap (λ b. with_pair c.args.name.now b (indexed c.self.inside.pairs.items c.self.inside.places.entries)) c.in_ok-copy.ensures ∙ ap (with_pair c.args.name.now c.args.bytes.now) c.self.view_is

pub returns-in-Some-clause-in_order : goal.returns-in-Some-clause-in_order
returns-in-Some-clause-in_order c = (shows c).indexed_well.in_order
