use Rattle.std.proofs.Common.{◌≡◌, ◌<◌, ◌∙◌, sym, ap, arith, Some, None, length, cond}
use Rattle.std.specs.Str.{bytes_eq}
use Rattle.std.specs.String.{string_bytes}
use Rattle.std.proofs.lemmas.Map.Text.{btree_map_updates_text}
use Rattle.aft_keeper.specs.PairMap.{place_of, pair_at}
use Rattle.aft_keeper.specs.declared.keeper.Pair.{Pair}
use Rattle.aft_keeper.proofs.Indexed.{Shows-more, pair_at-read}
use Rattle.aft_keeper.proofs.pair_map.index_of.Goals as goal

pub loop-place-preserved : goal.loop-place-preserved
loop-place-preserved c =
    let within : c.loop-place.place < length c.args.pairs.now = omega arith in
    let read : pair_at c.args.pairs.now c.loop-place.place ≡ c.index-pairs-place.result = pair_at-read c.args.pairs.now c.loop-place.place c.index-pairs-place.result within c.index-pairs-place.is in
    let named : string_bytes c.in_ok-from_str.field-0 ≡ (pair_at c.args.pairs.now c.loop-place.place).name = c.in_ok-from_str.ensures.ok ∙ c.as_str.ensures ∙ ap (λ (p : Pair). p.name) (sym read) in
    Shows-more c.args.pairs.now c.loop-place.place c.loop-place.places.entries c.insert.new.self.entries c.requires within c.loop-place.invariant c.in_ok-insert.ensures.ordered
    (λ absent. let absent' : place_of (string_bytes c.in_ok-from_str.field-0) c.loop-place.places.entries ≡ None = ap (λ n. place_of n c.loop-place.places.entries) named ∙ absent in grind arith)
    (λ q. btree_map_updates_text (string_bytes c.in_ok-from_str.field-0) c.loop-place.places c.insert.new.self (Some c.loop-place.place) c.in_ok-insert.ensures.updates q
    ∙ ap (λ n. cond (bytes_eq n q) (Some c.loop-place.place) (place_of q c.loop-place.places.entries)) named)
