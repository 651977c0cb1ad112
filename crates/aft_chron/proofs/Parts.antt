-- Passes that are split, that meet, and the last one keep the rule.
use Rattle.std.proofs.Common.{◌≡◌, ◌≢◌, ◌⊎◌, ℕ, ◌+◌, ◌<◌, ◌≤◌, List, [], ◌∷◌, ◌++◌, length, set, sym, refl, ap, ◌∙◌, subst, inl, inr, ⊎_elim, arith, Option, Some}
use mathlib.Core.Logic.{dite}
use mathlib.Core.Option.{some, some-injective}
use mathlib.Core.List.{IsPrefix}
use native.Mathlib.Decide.{ℕ_discrete, dec_le}
use lib.ListN.{get_elem?}
use Rattle.atomic_table.specs.Table.{State, Splits, Joins, Final, Seen}
use Rattle.atomic_table.proofs.Lists.{set_else, at_longer}
use Rattle.aft_chron.specs.declared.view.View.{View}
use Rattle.aft_chron.specs.declared.view.Stage.TheVariants.{Out}
use Rattle.aft_chron.specs.Standing.{within, times, IsEach}
use Rattle.aft_chron.specs.Rule.{is_busy, has, IsOutside, Stands, Fits, AtHome, Lent, Kept, parts_of, counted_of, busy, numbered, made_at, spent_view}
use Rattle.aft_chron.specs.Steps.{keeping, given, united}
use Rattle.aft_chron.proofs.Sums.{total_set, total_same, total_two, total_end, total_sole, times_append, within_here}
use Rattle.aft_chron.proofs.Prefixes.{longer_begins, begins_both, both_begin, longer_least, begins_length, begins_whole}
use Rattle.aft_chron.proofs.Seats.{each_set, each_end, home_stays}

module _ {V E : Type 0} (history : V → List E) (count : V → ℕ) (opening : List E) (whole : ℕ) where
  abbrev S : Type 0
  S = State (Option V) (View E)

  abbrev Rule : S → Type 0
  Rule = Kept history count opening whole

  abbrev Home : List E → ℕ → ℕ → S → List (View E) → Type 0
  Home log turn tally s views = AtHome history count log tally s.homes views ⊎ Lent history count turn s.homes views

  -- a new seat that is outside leaves the value where it is
  home_end : (log : List E) (turn tally : ℕ) (s : S) (views : List (View E)) (w : View E) → IsOutside w.stage → Home log turn tally s views → Home log turn tally s (views ++ w ∷ [])
  home_end log turn tally s views w outside = ⊎_elim
      (λ (h : AtHome history count log tally s.homes views). inl (h.0, h.1, h.2, h.3, each_end (λ d. IsOutside d.stage) views w outside h.4))
      (λ (l : Lent history count turn s.homes views). inr (l.0, (l.1.0, l.1.1, at_longer views (w ∷ []) l.1.0 l.1.1 l.1.2, l.1.3)))

  -- a seat gives so many of its parts to a new one
  pub splits : (id : ℕ) (v : View E) (n : ℕ) → v.stage ≡ Out → n + v.counted ≤ v.parts → (v.made ≡ []) ⊎ (n < v.parts) → Splits Rule id v (keeping n v) (given n v)
  splits id v n out enough keeps s k at =
      let w : View E = keeping n v in let o : View E = given n v in let f = k.each id v at in
      let vs : List (View E) = set s.views id w in
      let busy_none : is_busy v.stage ≡ 0 = ap is_busy out in record {
        log = k.log;
        ticket = k.ticket;
        turn = k.turn;
        tally = k.tally;
        words = k.words;
        few = k.few;
        last = k.last;
        begun = k.begun;
        shared = omega (arith, total_end parts_of vs o, total_set parts_of s.views id v w at, k.shared);
        line = omega (arith, total_end busy vs o, total_same busy s.views id v w at refl, k.line);
        numbers = λ p. omega (arith, total_end (numbered p) vs o, total_same (numbered p) s.views id v w at refl, k.numbers p);
        places = λ p. omega (arith, total_end (made_at p) vs o, total_same (made_at p) s.views id v w at refl, k.places p);
        tallied = omega (arith, total_end counted_of vs o, total_same counted_of s.views id v w at refl, k.tallied);
        each = each_end (Fits opening whole k.log k.turn k.tally) vs o
            (record { told = f.told; seen = f.seen; met = f.met; begun = f.begun; below = λ p _. refl; idle = λ z. (refl, refl); counted = omega arith; stands = tt })
            (each_set (Fits opening whole k.log k.turn k.tally) s.views id w
            (record {
              told = f.told;
              seen = f.seen;
              met = f.met;
              begun = f.begun;
              below = f.below;
              idle = λ z. (⊎_elim (λ (e : v.made ≡ []). e) (λ (less : n < v.parts). absurd (omega arith)) keeps, out);
              counted = omega arith;
              stands = f.stands;
            }) (λ j d _ e. k.each j d e));
        home = home_end k.log k.turn k.tally s vs o tt (home_stays history count opening whole k.log k.turn k.tally s.homes s.views id v w at (subst IsOutside (sym out) tt) (subst IsOutside (sym out) tt) k.home);
      }

  -- a seat takes in all that another has
  pub joins : (id : ℕ) (v : View E) (other : ℕ) (u : View E) → v.stage ≡ Out → u.stage ≡ Out → 0 < v.whole → 0 < u.whole → Joins Rule id v other u (united v u) spent_view
  joins id v other u out out' live live' s k at ne at' =
      let w : View E = united v u in let o : View E = spent_view in let f = k.each id v at in
      let vs : List (View E) = set s.views id w in
      let was : get_elem? s.views other ≡ some u = sym (set_else s.views id other w ne) ∙ at' in
      let g = k.each other u was in
      let idle : is_busy v.stage ≡ 0 = ap is_busy out in let idle' : is_busy u.stage ≡ 0 = ap is_busy out' in
      let least = longer_least v.seen u.seen in record {
        log = k.log;
        ticket = k.ticket;
        turn = k.turn;
        tally = k.tally;
        words = k.words;
        few = k.few;
        last = k.last;
        begun = k.begun;
        shared = omega (arith, total_set parts_of vs other u o at', total_set parts_of s.views id v w at, k.shared);
        line = omega (arith, total_set busy vs other u o at', total_same busy s.views id v w at refl, k.line, idle');
        numbers = λ p. let none_there : has p u.stage ≡ 0 = ap (has p) out' in omega (arith, total_set (numbered p) vs other u o at', total_same (numbered p) s.views id v w at refl, k.numbers p, none_there);
        places = λ p. omega (arith, total_set (made_at p) vs other u o at', total_set (made_at p) s.views id v w at, k.places p, times_append p v.made u.made);
        tallied = omega (arith, total_set counted_of vs other u o at', total_set counted_of s.views id v w at, k.tallied);
        each = each_set (Fits opening whole k.log k.turn k.tally) vs other o
            (record { told = λ z. absurd (omega arith); seen = (k.log, refl); met = (([], refl), ([], refl)); begun = λ z. absurd (omega arith); below = λ p _. refl; idle = λ z. (refl, refl); counted = omega arith; stands = tt })
            (λ j d _ e. each_set (Fits opening whole k.log k.turn k.tally) s.views id w
            (record {
              told = f.told;
              seen = longer_begins v.seen u.seen k.log f.seen g.seen;
              met = both_begin v.seen u.seen k.log f.seen g.seen;
              begun = λ _. begins_both opening v.seen u.seen (f.begun live) (g.begun live');
              below = λ p le. omega (arith, times_append p v.made u.made, f.below p (omega (arith, least.0)), g.below p (omega (arith, least.1)));
              idle = λ z. let mine : v.made ≡ [] = (f.idle (omega arith)).0 in let theirs : u.made ≡ [] = (g.idle (omega arith)).0 in (ap (λ l. l ++ u.made) mine ∙ theirs, out);
              counted = omega (arith, f.counted, g.counted);
              stands = subst (Stands k.log k.turn k.tally w) (sym out) tt;
            }) (λ i x _ h. k.each i x h) j d e);
        home = home_stays history count opening whole k.log k.turn k.tally s.homes vs other u o at' (subst IsOutside (sym out') tt) tt
            (home_stays history count opening whole k.log k.turn k.tally s.homes s.views id v w at (subst IsOutside (sym out) tt) (subst IsOutside (sym out) tt) k.home);
      }

  -- what a pass with all parts finds when the lock is closed
  pub record Closes (v : View E) (x : V) : Type 0 where
    pub history_is : history x ≡ v.seen
    pub count_is : count x ≡ v.counted
    pub begun : IsPrefix v.opening v.seen
    pub made : IsEach v.made (length v.opening) (length v.seen)

  pub closes : (s : S) (k : Rule s) (id : ℕ) (v : View E) → get_elem? s.views id ≡ some v → v.stage ≡ Out → 0 < v.whole → v.parts ≡ v.whole
      → (x : V) × (get_elem? s.homes 0 ≡ some (some (Some x))) × Closes v x
  closes s k id v at out live all = ⊎_elim
      (λ (h : AtHome history count k.log k.tally s.homes s.views). (
        h.0,
        ap (λ l. get_elem? l 0) h.1,
        record {
          history_is = h.2 ∙ sym whole_seen;
          count_is = h.3 ∙ (sym k.tallied ∙ total_sole counted_of s.views id v at (λ j d ne e. omega (arith, (k.each j d e).counted, no_parts j d ne e)));
          begun = subst (λ l. IsPrefix l v.seen) (sym told.1) (f.begun live);
          made = λ p. places p ∙ (λ i. within (length (sym told.1 i)) (length (sym whole_seen i)) p);
        },
      ))
      (λ (l : Lent history count k.turn s.homes s.views). absurd (lent_out l))
      k.home
    where
      f : Fits opening whole k.log k.turn k.tally v
      f = k.each id v at

      told : (v.whole ≡ whole) × (v.opening ≡ opening)
      told = f.told live

      no_parts : (j : ℕ) (d : View E) → j ≢ id → get_elem? s.views j ≡ some d → d.parts ≡ 0
      no_parts j d ne e = omega (arith, total_two parts_of s.views j id d v ne e at, k.shared, told.0, all)

      lent_out : Lent history count k.turn s.homes s.views → ⊥
      lent_out l = dite (ℕ_discrete l.1.0 id)
          (λ (e : l.1.0 ≡ id). let same : v ≡ l.1.1 = some-injective v l.1.1 (sym at ∙ (ap (get_elem? s.views) (sym e) ∙ l.1.2)) in cc (out, ap (λ (d : View E). d.stage) same, l.1.3))
          (λ (ne : l.1.0 ≢ id). cc (((k.each l.1.0 l.1.1 l.1.2).idle (no_parts l.1.0 l.1.1 ne l.1.2)).1, l.1.3))

      places : (p : ℕ) → times p v.made ≡ within (length opening) (length k.log) p
      places p = sym (total_sole (made_at p) s.views id v at (λ j d ne e. ap (times p) ((k.each j d e).idle (no_parts j d ne e)).0)) ∙ k.places p

      -- a pass that had not seen the last entry would have made it nowhere
      whole_seen : v.seen ≡ k.log
      whole_seen = dite (dec_le (length k.log) (length v.seen))
          (λ (le : length k.log ≤ length v.seen). begins_whole v.seen k.log f.seen le)
          (λ (more : ¬ (length k.log ≤ length v.seen)).
          let p : ℕ = length v.seen in
          absurd (omega (arith, places p, f.below p (omega arith), within_here (length opening) (length k.log) p (begins_length opening v.seen (f.begun live)) (omega arith))))

  -- what the table's one slot has when the lock is closed
  pub found : (id : ℕ) (v : View E) (ws : List ℕ) (xs : List (Option V)) (slot : Option V) → v.stage ≡ Out → 0 < v.whole → v.parts ≡ v.whole → Final (Seen Rule id v) ws xs → get_elem? xs 0 ≡ some slot
      → (x : V) × (slot ≡ Some x) × Closes v x
  found id v ws xs slot out live all final taken =
      let got = closes final.0 final.1.0 id v final.1.1 out live all in
      (got.0, some-injective slot (Some got.0) (sym taken ∙ final.4 0 (Some got.0) got.1), got.2)

  pub returned : (id : ℕ) (v : View E) (ws : List ℕ) (xs : List (Option V)) (slot : Option V) (result : V) → v.stage ≡ Out → 0 < v.whole → v.parts ≡ v.whole → Final (Seen Rule id v) ws xs
      → get_elem? xs 0 ≡ some slot → slot ≡ Some result → Closes v result
  returned id v ws xs slot result out live all final taken is =
      let f = found id v ws xs slot out live all final taken in
      let held : Some f.0 ≡ Some result = sym f.1 ∙ is in let same : f.0 ≡ result = cc in subst (Closes v) same f.2
