use Rattle.std.proofs.Common.{ℕ, ◌≡◌, ◌<◌, ◌∙◌, sym, ap, arith, rules, true, List, [], ◌∷◌, ◌++◌, length, String}
use Rattle.std.specs.Prelude.{All}
use Rattle.std.specs.String.{string_bytes}
use Rattle.std.specs.Map.Iter.{deref_pair}
use Rattle.std.proofs.lemmas.Map.Iter.{rest_more}
use Rattle.std.proofs.lemmas.List.Elements.{All-head, All-same, All-rest}
use Rattle.std.proofs.lemmas.List.{length-append}
use Rattle.aft_keeper.proofs.Names.{begins}
use Rattle.aft_keeper.specs.PairMap.{Stands, pair_at}
use Rattle.aft_keeper.proofs.Indexed.{page-more, pair_at-read}
use Rattle.aft_keeper.specs.declared.keeper.Pair.{Pair}
use Rattle.aft_keeper.proofs.pair_map.read_page.Goals as goal

-- the first entry that is left has its name at its place
first_stands : {Z : Type 0} (pairs : List Pair) (entry : String Z × ℕ) (rest entries : List (String Z × ℕ)) → entries ≡ entry ∷ rest
    → All (λ e. Stands pairs (string_bytes e.0) e.1) entries → Stands pairs (string_bytes entry.0) entry.1
first_stands pairs entry rest entries split all =
    All-head (λ e. Stands pairs (string_bytes e.0) e.1) entry rest (All-same (λ e. Stands pairs (string_bytes e.0) e.1) (entry ∷ rest) entries (sym split) all)

pub bounds-pairs-place : goal.bounds-pairs-place
bounds-pairs-place c =
    let split = rest_more deref_pair c.loop-name.name-iterator c.next.new.self c.next.result (c.in-Some.name, c.in-Some.place) c.in-Some.is c.next.ensures.steps in
    (first_stands c.args.pairs.now _ c.next.new.self c.loop-name.name-iterator split c.loop-name.invariant.stand).within

pub offset_bounds-pairs-place : goal.offset_bounds-pairs-place
offset_bounds-pairs-place c =
    let split = rest_more deref_pair c.loop-name.name-iterator c.next.new.self c.next.result (c.in-Some.name, c.in-Some.place) c.in-Some.is c.next.ensures.steps in
    let below : c.in-Some.place.now < length c.args.pairs.now = (first_stands c.args.pairs.now _ c.next.new.self c.loop-name.name-iterator split c.loop-name.invariant.stand).within in
    search rules

pub loop-name-preserved : goal.loop-name-preserved
loop-name-preserved c =
    let split = rest_more deref_pair c.loop-name.name-iterator c.next.new.self c.next.result (c.in-Some.name, c.in-Some.place) c.in-Some.is c.next.ensures.steps in
    let stood = first_stands c.args.pairs.now _ c.next.new.self c.loop-name.name-iterator split c.loop-name.invariant.stand in
    let pushed : c.push.new.self.items ≡ c.loop-name.page.items ++ c.in_ok-copy_pair.field-0 ∷ [] = grind arith in
    let room : length c.loop-name.page.items < c.args.limit = omega (arith, c.loop-name.invariant.few) in
    let read : pair_at c.args.pairs.now c.in-Some.place.now ≡ c.index-pairs-place.result = pair_at-read c.args.pairs.now c.in-Some.place.now c.index-pairs-place.result stood.within c.index-pairs-place.is in
    let copied : c.in_ok-copy_pair.field-0 ≡ pair_at c.args.pairs.now c.in-Some.place.now = c.in_ok-copy_pair.ensures ∙ sym read in
    let begun : begins c.args.prefix.now (string_bytes c.in-Some.name.now) ≡ true = ap (begins c.args.prefix.now) (sym c.as_str.ensures.value) ∙ sym c.if-not-begins_with.ensures in
    record {
      read = rw pushed (page-more c.args.prefix.now c.args.pairs.now c.loop-name.page.items c.args.limit (deref_pair (c.in-Some.name, c.in-Some.place)) c.next.new.self c.loop-name.name-iterator
          c.in_ok-copy_pair.field-0 _ split stood copied begun room c.loop-name.invariant.read);
      few = rw pushed (omega (arith, length-append c.loop-name.page.items (c.in_ok-copy_pair.field-0 ∷ [])));
      stand = All-rest (λ e. Stands c.args.pairs.now (string_bytes e.0) e.1) _ c.next.new.self c.loop-name.name-iterator split c.loop-name.invariant.stand;
    }
