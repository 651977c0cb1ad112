-- Pairs as an index shows them.
use Rattle.std.proofs.Common.{ℕ, ◌≡◌, ◌≢◌, ◌+◌, ◌-◌, ◌<◌, ◌≤◌, refl, sym, ◌∙◌, ap, subst, List, [], ◌∷◌, ◌++◌, length, suc, take, append_assoc, Bool, true, false, cond, arith, inl, inr, Option, None, Some}
use Rattle.std.specs.Prelude.{option_map, slice_set, take_while, filter, ◌&&◌, All, Contains}
use Rattle.std.specs.BTreeMap.{BTreeMap}
use Rattle.std.specs.String.{string_cmp_total}
use Rattle.std.proofs.Common.{get_or}
use Rattle.std.proofs.lemmas.Map.Views.{All-found}
use Rattle.std.proofs.lemmas.List.Elements.{All-map, All-from_get_or, Contains-get_or}
use Rattle.std.specs.Str.{bytes_eq}
use Rattle.std.specs.Ordering.{is_lt, is_le}
use Rattle.std.specs.List.{AllByRecursion}
use Rattle.std.specs.List.Sorted.{IsStrictlySortedBy}
use Rattle.std.specs.Map.{keys_of}
use Rattle.std.specs.declared.cmp.Ordering.TheVariants.{Less}
use Rattle.std.specs.declared.string.String.{String}
use Rattle.std.specs.String.{string_bytes, string_cmp}
use Rattle.std.proofs.lemmas.List.{get_or_default, get_or_push, get_or_append_left, get_or-set_same, get_or-set_other, length-append, length-set, length-take, take_more}
use Rattle.std.proofs.lemmas.Bool.{cases_Bool, cases_lt, cases_eq, false_from_ne_true}
use Rattle.std.proofs.lemmas.Cmp.{nat_list_eq_equiv}
use Rattle.std.proofs.lemmas.Map.Keys.{sorted_head, sorted_tail}
use Rattle.std.proofs.lemmas.Map.Text.{is_eq-slice_cmp}
use Rattle.std.proofs.lemmas.Slice.Eq.{bytes_eq-Decides}
use Rattle.aft_keeper.proofs.Names.{name_cmp, begins, bytes_eq-refl}
use Rattle.aft_keeper.proofs.Contents.{AllAbove, IsRising, IsRising-from_Ascends, same_from_bytes_at, Contains-from_bytes_at, take_while-more, IsRising-take, bytes_at-last_absent, with_pair-last, page-past, page-from, bytes_at-with_pair, bytes_at-without, IsContents-with_pair, IsContents-without}
use Rattle.aft_keeper.specs.Contents.{IsContents, name_lt, page_of, bytes_at, with_pair, without}
use Rattle.aft_keeper.specs.PairMap.{pair_at, Stands, place_of, indexed_pair, indexed, IsIndexed}
use Rattle.aft_keeper.specs.declared.keeper.Pair.{Pair}

-- the pair that was read at a place
pub pair_at-read : (pairs : List Pair) (place : ℕ) (p : Pair) → place < length pairs → p ≡ get_or pairs place p → pair_at pairs place ≡ p
pair_at-read pairs place p within read = get_or_default pairs place _ p within ∙ sym read

-- each place that a look-up gives has the name, and each place is given for its name
pub record Fits (pairs : List Pair) (look_up : List ℕ → Option ℕ) : Type 0 where
  pub found : (name : List ℕ) (place : ℕ) → look_up name ≡ Some place → Stands pairs name place
  pub placed : (place : ℕ) → place < length pairs → look_up (pair_at pairs place).name ≡ Some place

-- the bytes that a look-up gives
abbrev pub bytes_by : List Pair → (List ℕ → Option ℕ) → List ℕ → Option (List ℕ)
bytes_by pairs look_up name = option_map (λ i. (pair_at pairs i).bytes) (look_up name)

-- the same place, with the same bytes there, gives the same bytes
bytes_by-kept : (pairs pairs' : List Pair) (f g : List ℕ → Option ℕ) (q : List ℕ) → g q ≡ f q
    → ((k : ℕ) → f q ≡ Some k → pair_at pairs' k ≡ pair_at pairs k) → bytes_by pairs' g q ≡ bytes_by pairs f q
bytes_by-kept pairs pairs' f g q same kept = ap (option_map (λ i. (pair_at pairs' i).bytes)) same ∙ go (f q) refl
  where
    go : (o : Option ℕ) → f q ≡ o → option_map (λ i. (pair_at pairs' i).bytes) o ≡ option_map (λ i. (pair_at pairs i).bytes) o
    go None is = refl
    go (Some k) is = ap (λ (p : Pair). Some p.bytes) (kept k is)

-- bytes found at a place
bytes_by-at : (pairs : List Pair) (f : List ℕ → Option ℕ) (q : List ℕ) (place : ℕ) (p : Pair) → f q ≡ Some place → pair_at pairs place ≡ p → bytes_by pairs f q ≡ Some p.bytes
bytes_by-at pairs f q place p is stands = ap (option_map (λ i. (pair_at pairs i).bytes)) is ∙ ap (λ (p : Pair). Some p.bytes) stands

-- a pair with a new name at the end
module _ (pairs pairs' : List Pair) (f g : List ℕ → Option ℕ) (name bytes : List ℕ) (was : Fits pairs f) (absent : f name ≡ None)
    (more : pairs' ≡ pairs ++ record { name = name; bytes = bytes } ∷ []) (now : (q : List ℕ) → g q ≡ cond (bytes_eq name q) (Some (length pairs)) (f q)) where
  added-length : length pairs' ≡ length pairs + 1
  added-length = rw more (omega (arith, length-append pairs (record { name = name; bytes = bytes } ∷ [])))

  added-kept : (k : ℕ) → k < length pairs → pair_at pairs' k ≡ pair_at pairs k
  added-kept k within = rw more (get_or_append_left pairs _ _ k within)

  added-last : pair_at pairs' (length pairs) ≡ record { name = name; bytes = bytes }
  added-last = rw more (get_or_push pairs _ _ (length pairs) refl)

  added-here : (q : List ℕ) → bytes_eq name q ≡ true → g q ≡ Some (length pairs)
  added-here q here = now q ∙ ap (λ b. cond b (Some (length pairs)) (f q)) here

  added-apart : (q : List ℕ) → bytes_eq name q ≡ false → g q ≡ f q
  added-apart q apart = now q ∙ ap (λ b. cond b (Some (length pairs)) (f q)) apart

  pub Fits-added : Fits pairs' g
  Fits-added = record {
    found = λ q place is. elim (cases_Bool (bytes_eq name q)) [
      | inl here ↦
          let same : name ≡ q = (bytes_eq-Decides name q).0 here in
          let given = added-here q here in
          let at_end : place ≡ length pairs = grind arith in
          let longer = added-length in
          record { within = omega arith; named = ap (λ k. (pair_at pairs' k).name) at_end ∙ ap (λ (p : Pair). p.name) added-last ∙ same }
      | inr apart ↦
          let before : f q ≡ Some place = sym (added-apart q apart) ∙ is in
          let stood = was.found q place before in
          let longer = added-length in
          record { within = omega (arith, stood.within); named = ap (λ (p : Pair). p.name) (added-kept place stood.within) ∙ stood.named }
    ];
    placed = λ place within. elim (cases_lt place (length pairs)) [
      | inl below ↦
          let same : (pair_at pairs' place).name ≡ (pair_at pairs place).name = ap (λ (p : Pair). p.name) (added-kept place below) in
          let before = was.placed place below in
          rw same (elim (cases_Bool (bytes_eq name (pair_at pairs place).name)) [
            | inl here ↦ let e = (bytes_eq-Decides name (pair_at pairs place).name).0 here in let other : f name ≡ Some place = ap f e ∙ before in absurd (grind arith)
            | inr apart ↦ added-apart (pair_at pairs place).name apart ∙ before
          ])
      | inr above ↦
          let longer = added-length in
          let at_end : place ≡ length pairs = omega arith in
          let same : (pair_at pairs' place).name ≡ name = ap (λ k. (pair_at pairs' k).name) at_end ∙ ap (λ (p : Pair). p.name) added-last in
          rw same (added-here name (bytes_eq-refl name) ∙ ap Some (sym at_end))
    ];
  }

  pub bytes_by-added : (q : List ℕ) → bytes_by pairs' g q ≡ cond (bytes_eq name q) (Some bytes) (bytes_by pairs f q)
  bytes_by-added q = elim (cases_Bool (bytes_eq name q)) [
    | inl here ↦ rw here (bytes_by-at pairs' g q (length pairs) (record { name = name; bytes = bytes }) (added-here q here) added-last)
    | inr apart ↦ rw apart (bytes_by-kept pairs pairs' f g q (added-apart q apart) (λ k is. added-kept k (was.found q k is).within))
  ]

-- other bytes at a place
module _ (pairs pairs' : List Pair) (f : List ℕ → Option ℕ) (name bytes : List ℕ) (place : ℕ) (was : Fits pairs f) (there : f name ≡ Some place)
    (changed : pairs' ≡ slice_set pairs place (record { name = (pair_at pairs place).name; bytes = bytes })) where
  replaced-length : length pairs' ≡ length pairs
  replaced-length = rw changed (length-set pairs place (record { name = (pair_at pairs place).name; bytes = bytes }))

  replaced-here : pair_at pairs' place ≡ record { name = (pair_at pairs place).name; bytes = bytes }
  replaced-here = rw changed (get_or-set_same pairs place _ _ (was.found name place there).within)

  replaced-apart : (k : ℕ) → k ≢ place → pair_at pairs' k ≡ pair_at pairs k
  replaced-apart k apart = rw changed (get_or-set_other pairs place k _ _ apart)

  replaced-name : (k : ℕ) → (pair_at pairs' k).name ≡ (pair_at pairs k).name
  replaced-name k = elim (cases_eq k place) [
    | inl same ↦ ap (λ i. (pair_at pairs' i).name) same ∙ ap (λ (p : Pair). p.name) replaced-here ∙ ap (λ i. (pair_at pairs i).name) (sym same)
    | inr apart ↦ ap (λ (p : Pair). p.name) (replaced-apart k apart)
  ]

  pub Fits-replaced : Fits pairs' f
  Fits-replaced = record {
    found = λ q k is.
        let stood = was.found q k is in
        let same = replaced-length in
        record { within = omega (arith, stood.within); named = replaced-name k ∙ stood.named };
    placed = λ k within. let same = replaced-length in rw (replaced-name k) (was.placed k (omega arith));
  }

  pub bytes_by-replaced : (q : List ℕ) → bytes_by pairs' f q ≡ cond (bytes_eq name q) (Some bytes) (bytes_by pairs f q)
  bytes_by-replaced q = elim (cases_Bool (bytes_eq name q)) [
    | inl here ↦ rw here (bytes_by-at pairs' f q place _ (ap f (sym ((bytes_eq-Decides name q).0 here)) ∙ there) replaced-here)
    | inr apart ↦ rw apart (bytes_by-kept pairs pairs' f f q refl (λ k is. replaced-apart k (λ same.
        let e : name ≡ q = sym (was.found name place there).named ∙ ap (λ i. (pair_at pairs i).name) (sym same) ∙ (was.found q k is).named in
        let no : bytes_eq name q ≡ true = (bytes_eq-Decides name q).1 e in
        grind arith)))
  ]

-- a pair less, with the last pair at its place
module _ (pairs pairs' : List Pair) (f g : List ℕ → Option ℕ) (name : List ℕ) (place : ℕ) (was : Fits pairs f) (there : f name ≡ Some place)
    (shorter : length pairs' + 1 ≡ length pairs)
    (moved : place + 1 < length pairs → pair_at pairs' place ≡ pair_at pairs (length pairs'))
    (stayed : (k : ℕ) → k ≢ place → k + 1 < length pairs → pair_at pairs' k ≡ pair_at pairs k)
    (now : (q : List ℕ) → g q ≡ cond (bytes_eq name q) None (cond (bytes_eq (pair_at pairs (length pairs')).name q) (Some place) (f q))) where
  abbrev last_name : List ℕ
  last_name = (pair_at pairs (length pairs')).name

  last-found : f last_name ≡ Some (length pairs')
  last-found = was.placed (length pairs') (omega arith)

  removed-moved : (q : List ℕ) → bytes_eq name q ≡ false → bytes_eq last_name q ≡ true → (g q ≡ Some place) × (f q ≡ Some (length pairs')) × (place + 1 < length pairs)
  removed-moved q apart here =
      let given = now q in
      let same : last_name ≡ q = (bytes_eq-Decides last_name q).0 here in
      let at_last : f q ≡ Some (length pairs') = ap f (sym same) ∙ last-found in
      let within = (was.found name place there).within in
      let other : place ≡ length pairs' → ⊥ = λ e. let is_last : name ≡ q = sym (was.found name place there).named ∙ ap (λ i. (pair_at pairs i).name) e ∙ same in let no = (bytes_eq-Decides name q).1 is_last in grind arith in
      (grind arith, at_last, omega arith)

  removed-apart : (q : List ℕ) → bytes_eq name q ≡ false → bytes_eq last_name q ≡ false → g q ≡ f q
  removed-apart q apart apart' = let given = now q in grind arith

  removed-stayed : (q : List ℕ) (k : ℕ) → bytes_eq name q ≡ false → bytes_eq last_name q ≡ false → f q ≡ Some k → (k ≢ place) × (k + 1 < length pairs)
  removed-stayed q k apart apart' is =
      let stood = was.found q k is in
      let not_place : k ≢ place = λ e. let same : name ≡ q = sym (was.found name place there).named ∙ ap (λ i. (pair_at pairs i).name) (sym e) ∙ stood.named in let no = (bytes_eq-Decides name q).1 same in grind arith in
      let not_last : k ≡ length pairs' → ⊥ = λ e. let same : last_name ≡ q = ap (λ i. (pair_at pairs i).name) (sym e) ∙ stood.named in let no = (bytes_eq-Decides last_name q).1 same in grind arith in
      (not_place, omega (arith, stood.within))

  pub Fits-removed : Fits pairs' g
  Fits-removed = record { found = found; placed = placed }
    where
      found : (q : List ℕ) (k : ℕ) → g q ≡ Some k → Stands pairs' q k
      found q k is = elim (cases_Bool (bytes_eq name q)) [
        | inl here ↦ let given = now q in absurd (grind arith)
        | inr apart ↦ elim (cases_Bool (bytes_eq last_name q)) [
          | inl here ↦
              let facts = removed-moved q apart here in
              let same : k ≡ place = let e = sym is ∙ facts.0 in grind arith in
              let named : (pair_at pairs' k).name ≡ q = ap (λ i. (pair_at pairs' i).name) same ∙ ap (λ (p : Pair). p.name) (moved facts.2) ∙ (bytes_eq-Decides last_name q).0 here in
              record { within = omega (arith, facts.2); named = named }
          | inr apart' ↦
              let before : f q ≡ Some k = sym (removed-apart q apart apart') ∙ is in
              let facts = removed-stayed q k apart apart' before in
              record { within = omega (arith, facts.1); named = ap (λ (p : Pair). p.name) (stayed k facts.0 facts.1) ∙ (was.found q k before).named }
        ]
      ]

      place_apart : (q : List ℕ) (k : ℕ) → f q ≡ Some k → k ≢ place → bytes_eq name q ≡ false
      place_apart q k is other = false_from_ne_true (bytes_eq name q) (λ here.
          let e : Some place ≡ Some k = sym there ∙ ap f ((bytes_eq-Decides name q).0 here) ∙ is in
          let e' : k ≡ place = cc in other e')

      placed : (k : ℕ) → k < length pairs' → g (pair_at pairs' k).name ≡ Some k
      placed k within = elim (cases_eq k place) [
        | inl same ↦
            let named : (pair_at pairs' k).name ≡ last_name = ap (λ i. (pair_at pairs' i).name) same ∙ ap (λ (p : Pair). p.name) (moved (omega arith)) in
            let given = now last_name in
            let here = bytes_eq-refl last_name in
            let apart : bytes_eq name last_name ≡ false = place_apart last_name (length pairs') last-found (λ e. omega arith) in
            rw named (grind arith)
        | inr apart ↦
            let named : (pair_at pairs' k).name ≡ (pair_at pairs k).name = ap (λ (p : Pair). p.name) (stayed k apart (omega arith)) in
            let before : f (pair_at pairs k).name ≡ Some k = was.placed k (omega arith) in
            let apart' : bytes_eq name (pair_at pairs k).name ≡ false = place_apart (pair_at pairs k).name k before apart in
            let apart'' : bytes_eq last_name (pair_at pairs k).name ≡ false = false_from_ne_true _ (λ here.
            let e : Some (length pairs') ≡ Some k = sym last-found ∙ ap f ((bytes_eq-Decides last_name (pair_at pairs k).name).0 here) ∙ before in
            let e' : length pairs' ≡ k = cc in omega arith) in
            rw named (removed-apart (pair_at pairs k).name apart' apart'' ∙ before)
      ]

  pub bytes_by-removed : (q : List ℕ) → bytes_by pairs' g q ≡ cond (bytes_eq name q) None (bytes_by pairs f q)
  bytes_by-removed q = elim (cases_Bool (bytes_eq name q)) [
    | inl here ↦ let given : g q ≡ None = now q ∙ grind arith in rw (here, given) refl
    | inr apart ↦ elim (cases_Bool (bytes_eq last_name q)) [
      | inl here ↦
          let facts = removed-moved q apart here in
          rw apart (bytes_by-at pairs' g q place _ facts.0 (moved facts.2) ∙ sym (bytes_by-at pairs f q (length pairs') _ facts.1 refl))
      | inr apart' ↦ rw apart (bytes_by-kept pairs pairs' f g q (removed-apart q apart apart') (λ k is. let facts = removed-stayed q k apart apart' is in stayed k facts.0 facts.1))
    ]
  ]

and-true : (b : Bool) → (b && true) ≡ b
and-true true = refl
and-true false = refl

module _ {Z : Type 0} where
  pub bytes_at-indexed : (name : List ℕ) (pairs : List Pair) (places : List (String Z × ℕ)) → bytes_at name (indexed pairs places) ≡ option_map (λ i. (pair_at pairs i).bytes) (place_of name places)
  bytes_at-indexed name pairs [] = refl
  bytes_at-indexed name pairs (e ∷ places) = let same = is_eq-slice_cmp name (string_bytes e.0) in grind (arith, bytes_at-indexed name pairs places)

  AllAbove-indexed : (name : String Z) (pairs : List Pair) (places : List (String Z × ℕ)) → AllByRecursion (λ k. string_cmp name k ≡ Less) (keys_of places) → AllAbove (string_bytes name) (indexed pairs places)
  AllAbove-indexed name pairs [] above = tt
  AllAbove-indexed name pairs (e ∷ places) above = (above.0, AllAbove-indexed name pairs places above.1)

  pub IsRising-indexed : (pairs : List Pair) (places : List (String Z × ℕ)) → IsStrictlySortedBy string_cmp (keys_of places) → IsRising (indexed pairs places)
  IsRising-indexed pairs [] up = tt
  IsRising-indexed pairs (e ∷ places) up =
      (AllAbove-indexed e.0 pairs places (sorted_head string_cmp e.0 (keys_of places) up), IsRising-indexed pairs places (sorted_tail string_cmp e.0 (keys_of places) up))

  -- the index shows these pairs where it finds the same bytes under each name
  pub indexed_from_bytes_at : (pairs : List Pair) (places : List (String Z × ℕ)) (shown : List Pair) → IsStrictlySortedBy string_cmp (keys_of places) → IsRising shown
      → ((name : List ℕ) → option_map (λ i. (pair_at pairs i).bytes) (place_of name places) ≡ bytes_at name shown) → indexed pairs places ≡ shown
  indexed_from_bytes_at pairs places shown ordered up same =
      same_from_bytes_at (indexed pairs places) shown (IsRising-indexed pairs places ordered) up (λ name. bytes_at-indexed name pairs places ∙ same name)

  -- an index that shows these pairs
  pub record Shows (pairs : List Pair) (places : List (String Z × ℕ)) (shown : List Pair) : Type 0 where
    pub indexed_well : IsIndexed pairs places
    pub shows : indexed pairs places ≡ shown

  Shows-from : (pairs : List Pair) (places : List (String Z × ℕ)) (shown : List Pair) → IsStrictlySortedBy string_cmp (keys_of places)
      → ((name : List ℕ) (place : ℕ) → place_of name places ≡ Some place → Stands pairs name place)
      → ((place : ℕ) → place < length pairs → place_of (pair_at pairs place).name places ≡ Some place)
      → length pairs ≡ length places → IsContents shown
      → ((name : List ℕ) → option_map (λ i. (pair_at pairs i).bytes) (place_of name places) ≡ bytes_at name shown) → Shows pairs places shown
  Shows-from pairs places shown ordered found placed as_many contents same =
      let shows : indexed pairs places ≡ shown = indexed_from_bytes_at pairs places shown ordered (IsRising-from_Ascends shown contents.0) same in
      record {
        indexed_well = record { ordered = ordered; found = found; placed = placed; as_many = as_many; in_order = let P : List Pair → Type 0 = IsContents in subst P (sym shows) contents };
        shows = shows;
      }

  Fits-from : (pairs : List Pair) (places : List (String Z × ℕ)) → IsIndexed pairs places → Fits pairs (λ name. place_of name places)
  Fits-from pairs places was = record { found = was.found; placed = was.placed }

  Shows-fits : (pairs : List Pair) (places : List (String Z × ℕ)) (shown : List Pair) → IsStrictlySortedBy string_cmp (keys_of places) → Fits pairs (λ name. place_of name places)
      → length pairs ≡ length places → IsContents shown → ((name : List ℕ) → bytes_by pairs (λ q. place_of q places) name ≡ bytes_at name shown) → Shows pairs places shown
  Shows-fits pairs places shown ordered fits as_many contents same = Shows-from pairs places shown ordered fits.found fits.placed as_many contents same

  shown_with_pair : (pairs : List Pair) (places : List (String Z × ℕ)) (name bytes q : List ℕ)
      → cond (bytes_eq name q) (Some bytes) (bytes_by pairs (λ q. place_of q places) q) ≡ bytes_at q (with_pair name bytes (indexed pairs places))
  shown_with_pair pairs places name bytes q = sym (bytes_at-with_pair q name bytes (indexed pairs places) ∙ ap (cond (bytes_eq q name) (Some bytes)) (bytes_at-indexed q pairs places)
      ∙ ap (λ b. cond b (Some bytes) (bytes_by pairs (λ q. place_of q places) q)) (nat_list_eq_equiv.symm q name))

  shown_without : (pairs : List Pair) (places : List (String Z × ℕ)) (name q : List ℕ)
      → cond (bytes_eq name q) None (bytes_by pairs (λ q. place_of q places) q) ≡ bytes_at q (without name (indexed pairs places))
  shown_without pairs places name q = sym (bytes_at-without q name (indexed pairs places) ∙ ap (cond (bytes_eq name q) None) (bytes_at-indexed q pairs places))

  -- an index with the place of a new pair at the end
  pub Shows-added : (pairs pairs' : List Pair) (places places' : List (String Z × ℕ)) (name bytes : List ℕ) → IsIndexed pairs places → place_of name places ≡ None → name ≢ []
      → pairs' ≡ pairs ++ record { name = name; bytes = bytes } ∷ []
      → IsStrictlySortedBy string_cmp (keys_of places') → length places' ≡ length places + 1
      → ((q : List ℕ) → place_of q places' ≡ cond (bytes_eq name q) (Some (length pairs)) (place_of q places))
      → Shows pairs' places' (with_pair name bytes (indexed pairs places))
  Shows-added pairs pairs' places places' name bytes was absent named more ordered longer now =
      let f : List ℕ → Option ℕ = λ q. place_of q places in
      let g : List ℕ → Option ℕ = λ q. place_of q places' in
      let fits = Fits-from pairs places was in
      let long : length pairs' ≡ length places' = rw more (omega (arith, length-append pairs (record { name = name; bytes = bytes } ∷ []), longer, was.as_many)) in
      Shows-fits pairs' places' (with_pair name bytes (indexed pairs places)) ordered (Fits-added pairs pairs' f g name bytes fits absent more now) long
      (IsContents-with_pair name bytes (indexed pairs places) named was.in_order)
      (λ q. bytes_by-added pairs pairs' f g name bytes fits absent more now q ∙ shown_with_pair pairs places name bytes q)

  -- an index where the bytes at a place changed
  pub Shows-replaced : (pairs pairs' : List Pair) (places : List (String Z × ℕ)) (name bytes : List ℕ) (place : ℕ) → IsIndexed pairs places → place_of name places ≡ Some place → name ≢ []
      → pairs' ≡ slice_set pairs place (record { name = (pair_at pairs place).name; bytes = bytes })
      → Shows pairs' places (with_pair name bytes (indexed pairs places))
  Shows-replaced pairs pairs' places name bytes place was there named changed =
      let f : List ℕ → Option ℕ = λ q. place_of q places in
      let fits = Fits-from pairs places was in
      let long : length pairs' ≡ length places = rw changed (length-set pairs place _ ∙ was.as_many) in
      Shows-fits pairs' places (with_pair name bytes (indexed pairs places)) was.ordered (Fits-replaced pairs pairs' f name bytes place fits there changed) long
      (IsContents-with_pair name bytes (indexed pairs places) named was.in_order)
      (λ q. bytes_by-replaced pairs pairs' f name bytes place fits there changed q ∙ shown_with_pair pairs places name bytes q)

  -- an index without a name, where the last pair moved to its place
  pub Shows-removed : (pairs pairs' : List Pair) (places places' : List (String Z × ℕ)) (name : List ℕ) (place : ℕ) → IsIndexed pairs places → place_of name places ≡ Some place
      → length pairs' + 1 ≡ length pairs
      → (place + 1 < length pairs → pair_at pairs' place ≡ pair_at pairs (length pairs'))
      → ((k : ℕ) → k ≢ place → k + 1 < length pairs → pair_at pairs' k ≡ pair_at pairs k)
      → IsStrictlySortedBy string_cmp (keys_of places') → length places' + 1 ≡ length places
      → ((q : List ℕ) → place_of q places' ≡ cond (bytes_eq name q) None (cond (bytes_eq (pair_at pairs (length pairs')).name q) (Some place) (place_of q places)))
      → Shows pairs' places' (without name (indexed pairs places))
  Shows-removed pairs pairs' places places' name place was there shorter moved stayed ordered fewer now =
      let f : List ℕ → Option ℕ = λ q. place_of q places in
      let g : List ℕ → Option ℕ = λ q. place_of q places' in
      let fits = Fits-from pairs places was in
      let many = was.as_many in
      let long : length pairs' ≡ length places' = omega arith in
      Shows-fits pairs' places' (without name (indexed pairs places)) ordered (Fits-removed pairs pairs' f g name place fits there shorter moved stayed now) long
      (IsContents-without name (indexed pairs places) was.in_order)
      (λ q. bytes_by-removed pairs pairs' f g name place fits there shorter moved stayed now q ∙ shown_without pairs places name q)

  -- an entry of the index shows the pair at its place
  pub indexed_pair-stands : (pairs : List Pair) (entry : String Z × ℕ) → Stands pairs (string_bytes entry.0) entry.1 → indexed_pair pairs entry ≡ pair_at pairs entry.1
  indexed_pair-stands pairs entry stood = let named = stood.named in grind arith

  -- the pairs that an index shows are those at its places
  pub All-contained : (pairs : List Pair) (places : BTreeMap (String Z) ℕ) → IsIndexed pairs places.entries → All (Contains pairs) (indexed pairs places.entries)
  All-contained pairs places was = All-map (Contains pairs) (indexed_pair pairs) places.entries (λ k d within.
      let e = get_or places.entries k d in
      let found : place_of (string_bytes e.0) places.entries ≡ Some e.1 = All-found string_cmp_total places was.ordered k d within in
      let stood = was.found (string_bytes e.0) e.1 found in
      let same : indexed_pair pairs e ≡ pair_at pairs e.1 = indexed_pair-stands pairs e stood in
      let P : Pair → Type 0 = Contains pairs in subst P (sym same) (Contains-get_or pairs e.1 _ stood.within))

  pub All-shown : (pairs : List Pair) (places : List (String Z × ℕ)) → IsIndexed pairs places → All (Contains (indexed pairs places)) pairs
  All-shown pairs places was = All-from_get_or (Contains (indexed pairs places)) pairs (record { name = []; bytes = [] }) (λ k within.
      Contains-from_bytes_at (pair_at pairs k).name (pair_at pairs k).bytes (indexed pairs places)
      (bytes_at-indexed (pair_at pairs k).name pairs places ∙ ap (option_map (λ i. (pair_at pairs i).bytes)) (was.placed k within)))

  -- a name was taken from the index, and its pair from the pairs, where the last one moved to its place
  module _ (pairs pairs' : List Pair) (places cut : List (String Z × ℕ)) (name : List ℕ) (place : ℕ) (was : IsIndexed pairs places)
      (there : place_of name places ≡ Some place) (shorter : length pairs' + 1 ≡ length pairs)
      (moved : place + 1 < length pairs → pair_at pairs' place ≡ pair_at pairs (length pairs'))
      (stayed : (k : ℕ) → k ≢ place → k + 1 < length pairs → pair_at pairs' k ≡ pair_at pairs k)
      (now : (q : List ℕ) → place_of q cut ≡ cond (bytes_eq name q) None (place_of q places)) where
    last_placed : place_of (pair_at pairs (length pairs')).name places ≡ Some (length pairs')
    last_placed = was.placed (length pairs') (omega arith)

    last_apart : place < length pairs' → bytes_eq name (pair_at pairs (length pairs')).name ≡ false
    last_apart below = false_from_ne_true (bytes_eq name (pair_at pairs (length pairs')).name) (λ here.
        let e : Some place ≡ Some (length pairs') = sym there ∙ ap (λ n. place_of n places) ((bytes_eq-Decides name (pair_at pairs (length pairs')).name).0 here) ∙ last_placed in
        let e' : place ≡ length pairs' = cc in omega arith)

    -- the pair that moved has the name of the last one, which the index still has
    pub moved-name : place < length pairs' → (pair_at pairs' place).name ≡ (pair_at pairs (length pairs')).name
    moved-name below = ap (λ (p : Pair). p.name) (moved (omega arith))

    pub moved-placed : place < length pairs' → place_of (pair_at pairs' place).name cut ≡ Some (length pairs')
    moved-placed below =
        let at_last = now (pair_at pairs (length pairs')).name in
        let apart = last_apart below in
        let placed = last_placed in
        rw (moved-name below) (grind arith)

    -- where its place is set, the index is right
    pub Shows-moved : (places' : List (String Z × ℕ)) → place < length pairs' → IsStrictlySortedBy string_cmp (keys_of places') → length places' + 1 ≡ length places
        → ((q : List ℕ) → place_of q places' ≡ cond (bytes_eq (pair_at pairs' place).name q) (Some place) (place_of q cut)) → Shows pairs' places' (without name (indexed pairs places))
    Shows-moved places' below ordered fewer set =
        Shows-removed pairs pairs' places places' name place was there shorter moved stayed ordered fewer (λ q.
        set q ∙ ap (λ n. cond (bytes_eq n q) (Some place) (place_of q cut)) (moved-name below) ∙ ap (cond (bytes_eq (pair_at pairs (length pairs')).name q) (Some place)) (now q) ∙ swapped q (place_of q places) (last_apart below))
      where
        swapped : (q : List ℕ) (before : Option ℕ) → bytes_eq name (pair_at pairs (length pairs')).name ≡ false
            → cond (bytes_eq (pair_at pairs (length pairs')).name q) (Some place) (cond (bytes_eq name q) None before)
            ≡ cond (bytes_eq name q) None (cond (bytes_eq (pair_at pairs (length pairs')).name q) (Some place) before)
        swapped q before apart = elim (cases_Bool (bytes_eq name q)) [
          | inl here ↦
              let same : name ≡ q = (bytes_eq-Decides name q).0 here in
              let other : bytes_eq (pair_at pairs (length pairs')).name q ≡ false = ap (bytes_eq (pair_at pairs (length pairs')).name) (sym same) ∙ nat_list_eq_equiv.symm (pair_at pairs (length pairs')).name name ∙ apart in
              grind arith
          | inr away ↦ grind arith
        ]

    -- so it is where the last one itself was taken
    pub Shows-cut : length pairs' ≤ place → IsStrictlySortedBy string_cmp (keys_of cut) → length cut + 1 ≡ length places → Shows pairs' cut (without name (indexed pairs places))
    Shows-cut above ordered fewer =
        let stood = was.found name place there in
        let at_last : length pairs' ≡ place = omega (arith, stood.within) in
        let same : (pair_at pairs (length pairs')).name ≡ name = ap (λ i. (pair_at pairs i).name) at_last ∙ stood.named in
        Shows-removed pairs pairs' places cut name place was there shorter moved stayed ordered fewer (λ q. now q ∙ rw same (doubled (bytes_eq name q) (place_of q places)))
      where
        doubled : (b : Bool) (before : Option ℕ) → cond b None before ≡ cond b None (cond b (Some place) before)
        doubled true before = refl
        doubled false before = refl

  -- one more pair of a page
  pub page-more : (prefix : List ℕ) (pairs taken : List Pair) (limit : ℕ) (entry : String Z × ℕ) (rest entries : List (String Z × ℕ)) (copy : Pair) (target : List Pair)
      → entries ≡ entry ∷ rest → Stands pairs (string_bytes entry.0) entry.1 → copy ≡ pair_at pairs entry.1 → begins prefix (string_bytes entry.0) ≡ true
      → length taken < limit
      → taken ++ take (limit - length taken) (take_while (λ (p : Pair). begins prefix p.name) (indexed pairs entries)) ≡ target
      → (taken ++ copy ∷ []) ++ take (limit - length (taken ++ copy ∷ [])) (take_while (λ (p : Pair). begins prefix p.name) (indexed pairs rest)) ≡ target
  page-more prefix pairs taken limit entry rest entries copy target split stood copied begun room before =
      let test : Pair → Bool = λ (p : Pair). begins prefix p.name in
      let shown : indexed_pair pairs entry ≡ copy = indexed_pair-stands pairs entry stood ∙ sym copied in
      let front : take_while test (indexed pairs entries) ≡ copy ∷ take_while test (indexed pairs rest) =
      ap (λ es. take_while test (indexed pairs es)) split ∙ take_while-more test (indexed_pair pairs entry) (indexed pairs rest) begun ∙ ap (λ p. p ∷ take_while test (indexed pairs rest)) shown in
      let fewer : limit - length taken ≡ suc (limit - length (taken ++ copy ∷ [])) = omega (arith, length-append taken (copy ∷ [])) in
      let step : take (limit - length taken) (take_while test (indexed pairs entries)) ≡ copy ∷ take (limit - length (taken ++ copy ∷ [])) (take_while test (indexed pairs rest)) =
      ap (take (limit - length taken)) front ∙ ap (λ n. take n (copy ∷ take_while test (indexed pairs rest))) fewer in
      append_assoc taken (copy ∷ []) _ ∙ ap (λ xs. taken ++ xs) (sym step) ∙ before

  -- each entry's name stands at its place
  pub All-stands : (pairs : List Pair) (places : BTreeMap (String Z) ℕ) → IsIndexed pairs places.entries → All (λ e. Stands pairs (string_bytes e.0) e.1) places.entries
  All-stands pairs places was k d within =
      let e = get_or places.entries k d in
      let found : place_of (string_bytes e.0) places.entries ≡ Some e.1 = All-found string_cmp_total places was.ordered k d within in
      was.found (string_bytes e.0) e.1 found

  -- a part of the index shows that part of the pairs
  indexed-filter : (test : List ℕ → Bool) (passes : String Z × ℕ → Bool) (pairs : List Pair) → ((e : String Z × ℕ) → passes e ≡ test (string_bytes e.0))
      → (places : List (String Z × ℕ)) → indexed pairs (filter passes places) ≡ filter (λ (p : Pair). test p.name) (indexed pairs places)
  indexed-filter test passes pairs same [] = refl
  indexed-filter test passes pairs same (e ∷ places) =
      let here = same e in
      let tail = indexed-filter test passes pairs same places in
      elim (cases_Bool (test (string_bytes e.0))) [
        | inl yes' ↦ let e' : passes e ≡ true = here ∙ yes' in rw (e', yes') (ap (λ xs. indexed_pair pairs e ∷ xs) tail)
        | inr no' ↦ let e' : passes e ≡ false = here ∙ no' in rw (e', no') tail
      ]

  -- a page is read from the entries past a key
  pub page-past-indexed : (prefix after : List ℕ) (limit : ℕ) (pairs : List Pair) (places range : List (String Z × ℕ)) (key : String Z) → is_le (name_cmp prefix after) ≡ true
      → IsStrictlySortedBy string_cmp (keys_of places) → string_bytes key ≡ after → range ≡ filter (λ e. is_lt (string_cmp key e.0) && true) places
      → take limit (take_while (λ (p : Pair). begins prefix p.name) (indexed pairs range)) ≡ page_of prefix after limit (indexed pairs places)
  page-past-indexed prefix after limit pairs places range key le ordered keyed ranged =
      ap (λ es. take limit (take_while (λ (p : Pair). begins prefix p.name) (indexed pairs es))) ranged
      ∙ ap (λ xs. take limit (take_while (λ (p : Pair). begins prefix p.name) xs))
      (indexed-filter (name_lt after) _ pairs (λ e. and-true (is_lt (string_cmp key e.0)) ∙ ap (λ n. name_lt n (string_bytes e.0)) keyed) places)
      ∙ page-past prefix after limit (indexed pairs places) le (IsRising-indexed pairs places ordered)

  -- or from a key on
  pub page-from-indexed : (prefix after : List ℕ) (limit : ℕ) (pairs : List Pair) (places range : List (String Z × ℕ)) (key : String Z) → is_le (name_cmp prefix after) ≡ false
      → IsStrictlySortedBy string_cmp (keys_of places) → string_bytes key ≡ prefix → range ≡ filter (λ e. is_le (string_cmp key e.0) && true) places
      → take limit (take_while (λ (p : Pair). begins prefix p.name) (indexed pairs range)) ≡ page_of prefix after limit (indexed pairs places)
  page-from-indexed prefix after limit pairs places range key le ordered keyed ranged =
      ap (λ es. take limit (take_while (λ (p : Pair). begins prefix p.name) (indexed pairs es))) ranged
      ∙ ap (λ xs. take limit (take_while (λ (p : Pair). begins prefix p.name) xs))
      (indexed-filter (λ n. is_le (name_cmp prefix n)) _ pairs (λ e. and-true (is_le (string_cmp key e.0)) ∙ ap (λ n. is_le (name_cmp n (string_bytes e.0))) keyed) places)
      ∙ page-from prefix after limit (indexed pairs places) le (IsRising-indexed pairs places ordered)

  -- the index of the first pairs of a list in order, with one more
  pub Shows-more : (all : List Pair) (i : ℕ) (places places' : List (String Z × ℕ)) → IsContents all → i < length all → Shows (take i all) places (take i all)
      → IsStrictlySortedBy string_cmp (keys_of places') → (place_of (pair_at all i).name places ≡ None → length places' ≡ length places + 1)
      → ((q : List ℕ) → place_of q places' ≡ cond (bytes_eq (pair_at all i).name q) (Some i) (place_of q places))
      → Shows (take (i + 1) all) places' (take (i + 1) all)
  Shows-more all i places places' contents within was ordered longer now =
      let p = pair_at all i in
      let next : take (i + 1) all ≡ take i all ++ p ∷ [] = take_more all i _ within in
      let up : IsRising (take i all ++ p ∷ []) = let P : List Pair → Type 0 = IsRising in subst P next (IsRising-take (i + 1) all (IsRising-from_Ascends all contents.0)) in
      let nothing : bytes_at p.name (indexed (take i all) places) ≡ None = rw was.shows (bytes_at-last_absent (take i all) p up) in
      let absent : place_of p.name places ≡ None = none_from_map (take i all) (place_of p.name places) (sym (bytes_at-indexed p.name (take i all) places) ∙ nothing) in
      let many : length (take i all) ≡ i = omega (arith, length-take i all) in
      let shown : with_pair p.name p.bytes (indexed (take i all) places) ≡ take (i + 1) all = ap (with_pair p.name p.bytes) was.shows ∙ with_pair-last (take i all) p up ∙ sym next in
      let P : List Pair → Type 0 = Shows (take (i + 1) all) places' in
      subst P shown (Shows-added (take i all) (take (i + 1) all) places places' p.name p.bytes was.indexed_well absent (contents.1 i _ within) next ordered (longer absent)
      (λ q. now q ∙ ap (λ n. cond (bytes_eq p.name q) (Some n) (place_of q places)) (sym many)))
    where
      none_from_map : (pairs : List Pair) (o : Option ℕ) → option_map (λ i. (pair_at pairs i).bytes) o ≡ None → o ≡ None
      none_from_map pairs None is = refl
      none_from_map pairs (Some k) is = absurd (grind arith)
