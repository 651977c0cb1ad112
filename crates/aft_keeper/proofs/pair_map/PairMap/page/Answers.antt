use Rattle.std.proofs.Common.{◌≡◌, ◌∙◌, sym, ap, true, false, take}
use Rattle.std.specs.Prelude.{take_while}
use Rattle.std.specs.Ordering.{is_le}
use Rattle.std.specs.String.{string_bytes}
use Rattle.std.proofs.lemmas.Result.{IfOk-weaker}
use Rattle.std.proofs.lemmas.List.Elements.{All-filter, All-same}
use Rattle.aft_keeper.specs.Contents.{page_of}
use Rattle.aft_keeper.specs.PairMap.{Stands, indexed}
use Rattle.aft_keeper.specs.declared.keeper.Pair.{Pair}
use Rattle.aft_keeper.proofs.Names.{name_cmp, begins}
use Rattle.aft_keeper.proofs.Indexed.{All-stands, page-past-indexed, page-from-indexed}
use Rattle.aft_keeper.proofs.pair_map.PairMap.page.Goals as goal

pub read_page-requires : goal.read_page-requires
read_page-requires c = rw c.deref.ensures.value
    (All-same (λ e. Stands c.self.inside.pairs.items (string_bytes e.0) e.1) c.range-range.result _ (c.range-range.ensures.between tt)
    (All-filter _ (λ e. Stands c.self.inside.pairs.items (string_bytes e.0) e.1) c.self.inside.places.entries (All-stands c.self.inside.pairs.items c.self.inside.places c.self.invariant)))

pub read_page-requires-else-le : goal.read_page-requires-else-le
read_page-requires-else-le c = rw c.deref-else-le.ensures.value
    (All-same (λ e. Stands c.self.inside.pairs.items (string_bytes e.0) e.1) c.range-range-else-le.result _ (c.range-range-else-le.ensures.between tt)
    (All-filter _ (λ e. Stands c.self.inside.pairs.items (string_bytes e.0) e.1) c.self.inside.places.entries (All-stands c.self.inside.pairs.items c.self.inside.places c.self.invariant)))

pub returns-in_ok-start : goal.returns-in_ok-start
returns-in_ok-start c =
    let above : is_le (name_cmp c.args.prefix.now c.args.after.now) ≡ true = sym c.if-le.ensures in
    IfOk-weaker c.read_page.result _ _ (λ page is. is
    ∙ ap (λ ps. take c.args.limit (take_while (λ (p : Pair). begins c.args.prefix.now p.name) (indexed ps c.range-range.result))) c.deref.ensures.value
    ∙ page-past-indexed c.args.prefix.now c.args.after.now c.args.limit c.self.inside.pairs.items c.self.inside.places.entries c.range-range.result c.in_ok-start.start
    above c.self.invariant.ordered c.in_ok-start.ensures.ok (c.range-range.ensures.between tt)
    ∙ ap (page_of c.args.prefix.now c.args.after.now c.args.limit) c.self.view_is) c.read_page.ensures

pub returns-in_ok-start-2 : goal.returns-in_ok-start-2
returns-in_ok-start-2 c =
    let below : is_le (name_cmp c.args.prefix.now c.args.after.now) ≡ false = sym c.if-le.ensures in
    IfOk-weaker c.read_page-else-le.result _ _ (λ page is. is
    ∙ ap (λ ps. take c.args.limit (take_while (λ (p : Pair). begins c.args.prefix.now p.name) (indexed ps c.range-range-else-le.result))) c.deref-else-le.ensures.value
    ∙ page-from-indexed c.args.prefix.now c.args.after.now c.args.limit c.self.inside.pairs.items c.self.inside.places.entries c.range-range-else-le.result c.in_ok-start-2.start
    below c.self.invariant.ordered c.in_ok-start-2.ensures.ok (c.range-range-else-le.ensures.between tt)
    ∙ ap (page_of c.args.prefix.now c.args.after.now c.args.limit) c.self.view_is) c.read_page-else-le.ensures
