use Rattle.std.proofs.Common.{◌≡◌, ◌∙◌, ap, Some, None, cond, arith}
use Rattle.std.specs.Str.{bytes_eq}
use Rattle.std.specs.String.{string_bytes}
use Rattle.std.proofs.lemmas.Map.Text.{btree_map_updates_text}
use Rattle.aft_keeper.specs.Contents.{with_pair}
use Rattle.aft_keeper.specs.PairMap.{indexed, place_of}
use Rattle.aft_keeper.proofs.Indexed.{Shows, Shows-added}
use Rattle.aft_keeper.proofs.pair_map.add.Goals as goal

-- the index shows the new pair
shows : (c : goal.After-push_within) → Shows c.push_within.new.items.items c.insert.new.self.entries (with_pair c.args.name.now c.args.bytes (indexed c.args.pairs.now.items c.args.places.now.entries))
shows c =
    let named : string_bytes c.in_ok-key.key ≡ c.args.name.now = c.in_ok-key.ensures.ok in
    let absent : place_of (string_bytes c.in_ok-key.key) c.args.places.now.entries ≡ None = ap (λ k. place_of k c.args.places.now.entries) named ∙ c.requires.new in
    Shows-added c.args.pairs.now.items c.push_within.new.items.items c.args.places.now.entries c.insert.new.self.entries c.args.name.now c.args.bytes c.requires.indexed c.requires.new c.requires.named
    (grind arith)
    c.in_ok-insert.ensures.ordered
    (grind arith)
    (λ q. btree_map_updates_text (string_bytes c.in_ok-key.key) c.args.places.now c.insert.new.self (Some c.len.result) c.in_ok-insert.ensures.updates q
    ∙ ap (λ k. cond (bytes_eq k q) (Some c.len.result) (place_of q c.args.places.now.entries)) named
    ∙ ap (λ n. cond (bytes_eq c.args.name.now q) (Some n) (place_of q c.args.places.now.entries)) (grind arith))

pub returns-clause-indexed : goal.returns-clause-indexed
returns-clause-indexed c = (shows c).indexed_well

pub returns-clause-ok : goal.returns-clause-ok
returns-clause-ok c = (shows c).shows
