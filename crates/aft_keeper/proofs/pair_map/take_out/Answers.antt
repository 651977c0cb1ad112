use Rattle.std.proofs.Common.{ℕ, ◌≡◌, ◌<◌, ◌≤◌, ◌+◌, ◌-◌, ◌∙◌, sym, ap, arith, Some, None, List, length, cond, get_or}
use Rattle.std.specs.Vec.{vec_len}
use Rattle.std.specs.Str.{bytes_eq}
use Rattle.std.proofs.lemmas.Map.Text.{btree_map_updates_text}
use Rattle.aft_keeper.specs.PairMap.{place_of, pair_at, indexed}
use Rattle.aft_keeper.specs.Contents.{without}
use Rattle.aft_keeper.specs.declared.keeper.Pair.{Pair}
use Rattle.aft_keeper.proofs.Contents.{without-absent}
use Rattle.aft_keeper.proofs.Indexed.{Shows, Shows-moved, Shows-cut, moved-placed, pair_at-read, bytes_at-indexed}
use Rattle.aft_keeper.proofs.pair_map.take_out.Goals as goal

pub returns-in_default-clause-gone : goal.returns-in_default-clause-gone
returns-in_default-clause-gone c =
    let same = c.in_default.ensures.unchanged in
    let absent : place_of c.args.name.now c.args.places.now.entries ≡ None = sym c.in_default.ensures.value in
    let nothing = bytes_at-indexed c.args.name.now c.args.pairs.now.items c.args.places.now.entries in
    rw same (sym (without-absent c.args.name.now (indexed c.args.pairs.now.items c.args.places.now.entries) (rw (nothing, absent))))

pub swap_remove-requires : goal.swap_remove-requires
swap_remove-requires c =
    let there : place_of c.args.name.now c.args.places.now.entries ≡ Some c.in-Some.place = sym c.in-Some.ensures.value in
    let within = (c.requires.found c.args.name.now c.in-Some.place there).within in
    grind arith

-- what swap_remove leaves at the place, by the lengths of the lists
moved_from : (pairs pairs' : List Pair) (place last : ℕ) → last ≡ length pairs' → ((d : Pair) → place + 1 < length pairs → get_or pairs' place d ≡ get_or pairs last d)
    → place + 1 < length pairs → pair_at pairs' place ≡ pair_at pairs (length pairs')
moved_from pairs pairs' place last same by_index below = by_index _ below ∙ ap (pair_at pairs) same

pub set_place-requires : goal.set_place-requires
set_place-requires c =
    let there : place_of c.args.name.now c.args.places.now.entries ≡ Some c.in-Some.place = sym c.in-Some.ensures.value in
    let long : vec_len c.args.pairs.now ≡ length c.args.pairs.now.items = grind arith in
    let shorter : length c.swap_remove.new.self.items + 1 ≡ length c.args.pairs.now.items = grind arith in
    let below : c.in-Some.place < length c.swap_remove.new.self.items = grind arith in
    let read : pair_at c.swap_remove.new.self.items c.in-Some.place ≡ c.index.result.now = pair_at-read c.swap_remove.new.self.items c.in-Some.place c.index.result.now below c.index.ensures in
    let placed = moved-placed c.args.pairs.now.items c.swap_remove.new.self.items c.args.places.now.entries c.remove.new.self.entries c.args.name.now c.in-Some.place c.requires there shorter
    (moved_from c.args.pairs.now.items c.swap_remove.new.self.items c.in-Some.place (vec_len c.args.pairs.now - 1) (omega arith) (λ d h. c.swap_remove.ensures.by_index.0 d (omega arith)))
    (λ k other h. c.swap_remove.ensures.by_index.1 k _ other (omega arith))
    (btree_map_updates_text c.args.name.now c.args.places.now c.remove.new.self None c.in-Some.ensures.updates) below in
    let named : c.as_str.result.now ≡ (pair_at c.swap_remove.new.self.items c.in-Some.place).name = c.as_str.ensures ∙ ap (λ (p : Pair). p.name) (sym read) in
    rw (named, placed)

-- the index without the name, after the last pair moved
moved : (c : goal.After-set_place) → Shows c.swap_remove.new.self.items c.set_place.new.places.entries (without c.args.name.now (indexed c.args.pairs.now.items c.args.places.now.entries))
moved c =
    let there : place_of c.args.name.now c.args.places.now.entries ≡ Some c.in-Some.place = sym c.in-Some.ensures.value in
    let long : vec_len c.args.pairs.now ≡ length c.args.pairs.now.items = grind arith in
    let shorter : length c.swap_remove.new.self.items + 1 ≡ length c.args.pairs.now.items = grind arith in
    let below : c.in-Some.place < length c.swap_remove.new.self.items = grind arith in
    let read : pair_at c.swap_remove.new.self.items c.in-Some.place ≡ c.index.result.now = pair_at-read c.swap_remove.new.self.items c.in-Some.place c.index.result.now below c.index.ensures in
    let named : c.as_str.result.now ≡ (pair_at c.swap_remove.new.self.items c.in-Some.place).name = c.as_str.ensures ∙ ap (λ (p : Pair). p.name) (sym read) in
    let fewer : length c.remove.new.self.entries + 1 ≡ length c.args.places.now.entries = c.in-Some.ensures.len in
    Shows-moved c.args.pairs.now.items c.swap_remove.new.self.items c.args.places.now.entries c.remove.new.self.entries c.args.name.now c.in-Some.place c.requires there shorter
    (moved_from c.args.pairs.now.items c.swap_remove.new.self.items c.in-Some.place (vec_len c.args.pairs.now - 1) (omega arith) (λ d h. c.swap_remove.ensures.by_index.0 d (omega arith)))
    (λ k other h. c.swap_remove.ensures.by_index.1 k _ other (omega arith))
    (btree_map_updates_text c.args.name.now c.args.places.now c.remove.new.self None c.in-Some.ensures.updates)
    c.set_place.new.places.entries below c.set_place.ensures.ordered (ap (λ n. n + 1) c.set_place.ensures.as_many ∙ fewer)
    (λ q. c.set_place.ensures.set q ∙ ap (λ n. cond (bytes_eq n q) (Some c.in-Some.place) (place_of q c.remove.new.self.entries)) named)

pub returns-then-place-len-clause-indexed : goal.returns-then-place-len-clause-indexed
returns-then-place-len-clause-indexed c = (moved c).indexed_well

pub returns-then-place-len-clause-gone : goal.returns-then-place-len-clause-gone
returns-then-place-len-clause-gone c = (moved c).shows

-- the index without the name, where its pair was the last
cut : (c : goal.Else-place-len) → Shows c.swap_remove.new.self.items c.remove.new.self.entries (without c.args.name.now (indexed c.args.pairs.now.items c.args.places.now.entries))
cut c =
    let there : place_of c.args.name.now c.args.places.now.entries ≡ Some c.in-Some.place = sym c.in-Some.ensures.value in
    let long : vec_len c.args.pairs.now ≡ length c.args.pairs.now.items = grind arith in
    let shorter : length c.swap_remove.new.self.items + 1 ≡ length c.args.pairs.now.items = grind arith in
    let above : length c.swap_remove.new.self.items ≤ c.in-Some.place = grind arith in
    Shows-cut c.args.pairs.now.items c.swap_remove.new.self.items c.args.places.now.entries c.remove.new.self.entries c.args.name.now c.in-Some.place c.requires there shorter
    (moved_from c.args.pairs.now.items c.swap_remove.new.self.items c.in-Some.place (vec_len c.args.pairs.now - 1) (omega arith) (λ d h. c.swap_remove.ensures.by_index.0 d (omega arith)))
    (λ k other h. c.swap_remove.ensures.by_index.1 k _ other (omega arith))
    (btree_map_updates_text c.args.name.now c.args.places.now c.remove.new.self None c.in-Some.ensures.updates)
    above c.in-Some.ensures.ordered c.in-Some.ensures.len

pub returns-else-place-len-clause-indexed : goal.returns-else-place-len-clause-indexed
returns-else-place-len-clause-indexed c = (cut c).indexed_well

pub returns-else-place-len-clause-gone : goal.returns-else-place-len-clause-gone
returns-else-place-len-clause-gone c = (cut c).shows
