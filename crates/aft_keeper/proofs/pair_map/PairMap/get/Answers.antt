use Rattle.std.proofs.Common.{◌≡◌, sym, arith, Some, None}
use Rattle.aft_keeper.specs.PairMap.{place_of, pair_at}
use Rattle.aft_keeper.proofs.Indexed.{bytes_at-indexed, pair_at-read}
use Rattle.aft_keeper.proofs.pair_map.PairMap.get.Goals as goal

pub returns-in_err-place : goal.returns-in_err-place
returns-in_err-place c =
    let shown = bytes_at-indexed c.args.name.now c.self.inside.pairs.items c.self.inside.places.entries in
    let absent : place_of c.args.name.now c.self.inside.places.entries ≡ None = sym c.in_err-place.ensures.value in
    rw (← c.self.view_is, shown, absent, c.from_residual.ensures)

pub index-requires : goal.index-requires
index-requires c =
    let there : place_of c.args.name.now c.self.inside.places.entries ≡ Some c.in_ok-place.field-0.now = sym c.in_ok-place.ensures.value in
    let within = (c.self.invariant.found c.args.name.now c.in_ok-place.field-0.now there).within in
    grind arith

pub returns : goal.returns
returns c =
    let shown = bytes_at-indexed c.args.name.now c.self.inside.pairs.items c.self.inside.places.entries in
    let there : place_of c.args.name.now c.self.inside.places.entries ≡ Some c.in_ok-place.field-0.now = sym c.in_ok-place.ensures.value in
    let within = (c.self.invariant.found c.args.name.now c.in_ok-place.field-0.now there).within in
    let read : pair_at c.self.inside.pairs.items c.in_ok-place.field-0.now ≡ c.index.result.now = pair_at-read c.self.inside.pairs.items c.in_ok-place.field-0.now c.index.result.now within c.index.ensures in
    rw (← c.self.view_is, shown, there, read)
