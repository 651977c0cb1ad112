-- The steps of a turn keep the rule.
use Rattle.std.proofs.Common.{◌≡◌, ◌≢◌, ◌⊎◌, ℕ, ◌+◌, ◌-◌, ◌%◌, ◌^◌, ◌<◌, ◌≤◌, List, [], ◌∷◌, ◌++◌, length, set, sym, refl, ap, ◌∙◌, subst, inl, inr, ⊎_elim, arith, Option, Some, None, length-append, mod-eq_of_lt}
use Rattle.std.specs.Prelude.{slice_index, slice_set, ◌==◌}
use mathlib.Core.Logic.{dite}
use mathlib.Core.Option.{some, none, some-injective}
use mathlib.Core.List.{IsPrefix}
use native.Mathlib.Decide.{ℕ_discrete, dec_le}
use lib.ListN.{get_elem?}
use Rattle.atomic_table.specs.Table.{State, Me, Act, keeps, takes, gives, Valid, homes_after, carried_after, Allows}
use Rattle.atomic_table.proofs.Lists.{set_again}
use Rattle.aft_chron.specs.declared.view.View.{View}
use Rattle.aft_chron.specs.declared.view.Stage.TheVariants.{Out, Waits, Called, Inside}
use Rattle.aft_chron.specs.Standing.{once, within}
use Rattle.aft_chron.specs.Rule.{is_busy, has, total, IsOutside, Stands, Fits, AtHome, Lent, Kept, parts_of, counted_of, busy, numbered, made_at}
use Rattle.aft_chron.specs.Steps.{number_of, at_stage, knowing, having_made, drawn, looked, known, recorded, passed_on, told}
use Rattle.aft_chron.specs.Places.{IsLonger}
use Rattle.aft_chron.proofs.Sums.{total_set, total_same, total_gap, times_end, within_end, within_start}
use Rattle.aft_chron.proofs.Prefixes.{begins_itself, begins_longer, begins_length}
use Rattle.aft_chron.proofs.Seats.{IsQuiet, quiet_outside, quiet_stands, once_same, once_else, each_set, now_at, others_quiet, busy_parts, home_stays}

abbrev in_hand : {V : Type 0} → List (ℕ × Option V) → Option V
in_hand [] = None
in_hand (c ∷ cs) = c.1

module _ {V E : Type 0} (history : V → List E) (count : V → ℕ) (opening : List E) (whole : ℕ) where
  abbrev S : Type 0
  S = State (Option V) (View E)

  abbrev M : Type 0
  M = Me (Option V) (View E)

  abbrev Rule : S → Type 0
  Rule = Kept history count opening whole

  -- what a step has to show where the words are ws
  abbrev Goes : S → ℕ → M → ℕ → (ℕ → ℕ) → (ℕ → M → Type 0) → List ℕ → Type 0
  Goes s id m i f then ws = (w : View E) × (a : Act (Option V)) × Valid s.homes m.1 a
      × Rule record { words = slice_set ws i (f (slice_index ws i)); homes = homes_after s.homes m.1 a; views = slice_set s.views id w } × then (slice_index ws i) (w, carried_after m.1 a)

  -- a seat draws the next number
  pub draws : (slots id : ℕ) (m : M) → m.0.stage ≡ Out → 0 < m.0.parts → Allows Rule slots id m 1 (λ n. (n + 1) % 2 ^ 64) (drawn history count m)
  draws slots id m out part s k len at fit =
      let v : View E = m.0 in let w : View E = at_stage v (Waits k.ticket) in let f = k.each id v at in
      let idle : is_busy v.stage ≡ 0 = ap is_busy out in
      let fits : k.ticket + 1 < 2 ^ 64 = omega (arith, k.line, k.last, k.few, busy_parts history count opening whole s k) in
      let next : (k.ticket + 1) % 2 ^ 64 ≡ k.ticket + 1 = mod-eq_of_lt fits in
      subst (Goes s id m 1 (λ n. (n + 1) % 2 ^ 64) (drawn history count m)) (sym k.words) (
        w,
        keeps,
        tt,
        record {
          log = k.log;
          ticket = k.ticket + 1;
          turn = k.turn;
          tally = k.tally;
          words = ap (λ n. length k.log ∷ n ∷ k.turn ∷ []) next;
          few = k.few;
          last = k.last;
          begun = k.begun;
          shared = total_same parts_of s.views id v w at refl ∙ k.shared;
          line = omega (arith, total_set busy s.views id v w at, k.line, idle);
          numbers = λ n. let none_yet : has n v.stage ≡ 0 = ap (has n) out in omega (arith, total_set (numbered n) s.views id v w at, k.numbers n, within_end k.turn k.ticket n (omega (arith, k.line)), none_yet);
          places = λ p. total_same (made_at p) s.views id v w at refl ∙ k.places p;
          tallied = total_same counted_of s.views id v w at refl ∙ k.tallied;
          each = each_set (Fits opening whole k.log k.turn k.tally) s.views id w
              (record { told = f.told; seen = f.seen; met = f.met; begun = f.begun; below = f.below; idle = λ z. absurd (omega arith); counted = f.counted; stands = tt }) (λ j d _ e. k.each j d e);
          home = home_stays history count opening whole k.log k.turn k.tally s.homes s.views id v w at (subst IsOutside (sym out) tt) tt k.home;
        },
        refl,
      )

  same_seat : (s : S) (k : Rule s) (id : ℕ) (v : View E) → get_elem? s.views id ≡ some v → Rule record { words = length k.log ∷ k.ticket ∷ k.turn ∷ []; homes = s.homes; views = set s.views id v }
  same_seat s k id v at = subst Rule (λ i. record { words = k.words i; homes = s.homes; views = sym (set_again s.views id v at) i }) k

  -- a seat looks whether its number is up
  pub looks : (slots id : ℕ) (m : M) (number : ℕ) → m.0.stage ≡ Waits number → Allows Rule slots id m 2 (λ n. n) (looked history count m)
  looks slots id m number waits s k len at fit =
      let v : View E = m.0 in let f = k.each id v at in let n_is : number_of v.stage ≡ number = ap number_of waits in
      subst (Goes s id m 2 (λ n. n) (looked history count m)) (sym k.words)
      (dite (ℕ_discrete k.turn number)
      (λ (e : k.turn ≡ number). dite (dec_le (2 ^ 63) k.turn)
      (λ (far : 2 ^ 63 ≤ k.turn). (v, keeps, tt, same_seat s k id v at, ((λ _ near. absurd (omega arith)), (λ _. refl), λ _. refl)))
      (λ (near : ¬ (2 ^ 63 ≤ k.turn)). let w : View E = at_stage v (Called k.turn) in (
        w,
        keeps,
        tt,
        record {
          log = k.log;
          ticket = k.ticket;
          turn = k.turn;
          tally = k.tally;
          words = refl;
          few = k.few;
          last = k.last;
          begun = k.begun;
          shared = total_same parts_of s.views id v w at refl ∙ k.shared;
          line = let b : is_busy v.stage ≡ 1 = ap is_busy waits in omega (arith, total_same busy s.views id v w at (sym b), k.line);
          numbers = λ n. total_same (numbered n) s.views id v w at (ap (λ (t : ℕ). once (t == n)) e ∙ sym (ap (has n) waits)) ∙ k.numbers n;
          places = λ p. total_same (made_at p) s.views id v w at refl ∙ k.places p;
          tallied = total_same counted_of s.views id v w at refl ∙ k.tallied;
          each = each_set (Fits opening whole k.log k.turn k.tally) s.views id w
              (record { told = f.told; seen = f.seen; met = f.met; begun = f.begun; below = f.below; idle = λ z. absurd (cc (waits, (f.idle z).1)); counted = f.counted; stands = refl }) (λ j d _ h. k.each j d h);
          home = home_stays history count opening whole k.log k.turn k.tally s.homes s.views id v w at (subst IsOutside (sym waits) tt) tt k.home;
        },
        ((λ _ _. refl), (λ ne. absurd (ne (e ∙ sym n_is))), λ far. absurd (near far)),
      )))
      (λ (ne : k.turn ≢ number). (v, keeps, tt, same_seat s k id v at, ((λ e _. absurd (ne (e ∙ n_is))), (λ _. refl), λ _. refl))))

  -- a seat is told that what met in it begins what it has seen
  pub tells : (slots id : ℕ) (m : M) → Allows Rule slots id m 0 (λ n. n) (told history count m)
  tells slots id m s k len at fit =
      let v : View E = m.0 in let f = k.each id v at in
      subst (Goes s id m 0 (λ n. n) (told history count m)) (sym k.words) (v, keeps, tt, same_seat s k id v at, (refl, f.met.0, f.met.1))

  -- a seat whose number is up sees the whole history, and takes the slot
  pub knows : (slots id : ℕ) (m : M) (number : ℕ) → m.0.stage ≡ Called number → 0 < m.0.whole → Allows Rule slots id m 0 (λ n. n) (known history count m)
  knows slots id m number called live s k len at fit =
      let v : View E = m.0 in let f = k.each id v at in
      let mine : has k.turn v.stage ≡ 1 = ap (has k.turn) called ∙ once_same number k.turn (subst (Stands k.log k.turn k.tally v) called f.stands) in
      let up : number ≡ k.turn = subst (Stands k.log k.turn k.tally v) called f.stands in
      let quiet = others_quiet history count opening whole s k id v at mine in
      subst (Goes s id m 0 (λ n. n) (known history count m)) (sym k.words)
      (⊎_elim
      (λ (h : AtHome history count k.log k.tally s.homes s.views).
      let x : V = h.0 in let w : View E = knowing v (history x) (count x) (number_of v.stage) in
      let gone : slice_set s.homes 0 none ≡ none ∷ [] = ap (λ l. slice_set l 0 none) h.1 in
      let is : number_of v.stage ≡ number = ap number_of called in (
        w,
        takes 0 (Some x),
        ap (λ l. get_elem? l 0) h.1,
        record {
          log = k.log;
          ticket = k.ticket;
          turn = k.turn;
          tally = k.tally;
          words = refl;
          few = k.few;
          last = k.last;
          begun = k.begun;
          shared = total_same parts_of s.views id v w at refl ∙ k.shared;
          line = let b : is_busy v.stage ≡ 1 = ap is_busy called in omega (arith, total_same busy s.views id v w at (sym b), k.line);
          numbers = λ n. total_same (numbered n) s.views id v w at (ap (λ (t : ℕ). once (t == n)) is ∙ sym (ap (has n) called)) ∙ k.numbers n;
          places = λ p. total_same (made_at p) s.views id v w at refl ∙ k.places p;
          tallied = total_same counted_of s.views id v w at refl ∙ k.tallied;
          each = each_set (Fits opening whole k.log k.turn k.tally) s.views id w
              (record {
                told = f.told;
                seen = subst (λ l. IsPrefix l k.log) (sym h.2) (begins_itself k.log);
                met = (begins_itself (history x), begins_itself (history x));
                begun = λ _. subst (IsPrefix opening) (sym h.2) k.begun;
                below = λ p le. f.below p (omega (arith, begins_length v.seen k.log f.seen, ap length h.2));
                idle = λ z. absurd (cc (called, (f.idle z).1));
                counted = f.counted;
                stands = (is ∙ up, h.2, h.3);
              }) (λ j d _ e. k.each j d e);
          home = inr (gone, (id, w, now_at s.views id v w at, ap (λ n. Inside n) (is ∙ up)));
        },
        (
          x,
          refl,
          subst (IsPrefix v.seen) (sym h.2) f.seen,
          ap length (sym h.2),
          omega (arith, total_gap counted_of parts_of s.views id v (λ j d e. (k.each j d e).counted) at, k.shared, k.tallied, h.3, (f.told live).0, f.counted),
        ),
      ))
      (λ (l : Lent history count k.turn s.homes s.views). absurd (lent_out l quiet))
      k.home)
    where
      lent_out : (l : Lent history count k.turn s.homes s.views) → ((j : ℕ) (d : View E) → j ≢ id → get_elem? s.views j ≡ some d → IsQuiet d.stage) → ⊥
      lent_out l quiet = dite (ℕ_discrete l.1.0 id)
          (λ (e : l.1.0 ≡ id). let same : m.0 ≡ l.1.1 = some-injective m.0 l.1.1 (sym at ∙ (ap (get_elem? s.views) (sym e) ∙ l.1.2)) in cc (called, ap (λ (d : View E). d.stage) same, l.1.3))
          (λ (ne : l.1.0 ≢ id). subst IsQuiet l.1.3 (quiet l.1.0 l.1.1 ne l.1.2))

  -- a seat inside has the slot
  lent_in : (s : S) (k : Rule s) (id : ℕ) (v : View E) (number : ℕ) → get_elem? s.views id ≡ some v → v.stage ≡ Inside number → s.homes ≡ none ∷ []
  lent_in s k id v number at inside = ⊎_elim
      (λ (h : AtHome history count k.log k.tally s.homes s.views). absurd (subst IsOutside inside (h.4 id v at)))
      (λ (l : Lent history count k.turn s.homes s.views). l.0)
      k.home

  -- a seat inside makes the entry that the value in its hand has beyond what it has seen
  pub records : (slots id : ℕ) (m : M) (number : ℕ) (x : V) → m.0.stage ≡ Inside number → m.1 ≡ (0, Some x) ∷ [] → IsLonger m.0 (history x) (count x)
      → Allows Rule slots id m 0 (λ n. (n + 1) % 2 ^ 64) (recorded history count m)
  records slots id m number x inside hand longer s k len at fit =
      let v : View E = m.0 in let w : View E = having_made v (history x) (count x) in let f = k.each id v at in
      let on : (number ≡ k.turn) × (v.seen ≡ k.log) × (v.count ≡ k.tally) = subst (Stands k.log k.turn k.tally v) inside f.stands in
      let mine : has k.turn v.stage ≡ 1 = ap (has k.turn) inside ∙ once_same number k.turn on.0 in
      let quiet = others_quiet history count opening whole s k id v at mine in
      let e : E = longer.0 in
      let grown : history x ≡ k.log ++ e ∷ [] = longer.1 ∙ ap (λ l. l ++ e ∷ []) on.1 in
      let size : length (history x) ≡ length k.log + 1 = omega (arith, ap length grown, length-append k.log (e ∷ [])) in
      let size_seen : length v.seen ≡ length k.log = ap length on.1 in
      let next : (length k.log + 1) % 2 ^ 64 ≡ length (history x) = mod-eq_of_lt (omega (arith, size, longer.2)) ∙ sym size in
      let further : (l : List E) → IsPrefix l k.log → IsPrefix l (history x) = λ l p. subst (IsPrefix l) (sym grown) (begins_longer l k.log (e ∷ []) p) in
      let new : (count x ≡ v.count) ⊎ ((count x ≡ v.count + 1) × (v.counted < v.parts)) = longer.3 in
      let tally : v.counted + (count x - v.count) + k.tally ≡ v.counted + count x = ⊎_elim (λ (t : count x ≡ v.count). omega (arith, on.2)) (λ (t : (count x ≡ v.count + 1) × (v.counted < v.parts)). omega (arith, on.2)) new in
      subst (Goes s id m 0 (λ n. (n + 1) % 2 ^ 64) (recorded history count m)) (sym k.words) (
        w,
        keeps,
        tt,
        record {
          log = history x;
          ticket = k.ticket;
          turn = k.turn;
          tally = count x;
          words = ap (λ n. n ∷ k.ticket ∷ k.turn ∷ []) next;
          few = k.few;
          last = k.last;
          begun = further opening k.begun;
          shared = total_same parts_of s.views id v w at refl ∙ k.shared;
          line = omega (arith, total_same busy s.views id v w at refl, k.line);
          numbers = λ n. total_same (numbered n) s.views id v w at refl ∙ k.numbers n;
          places = λ p. let more : within (length opening) (length (history x)) p ≡ within (length opening) (length k.log) p + once (length v.seen == p) =
              ap (λ n. within (length opening) n p) size ∙ (within_end (length opening) (length k.log) p (begins_length opening k.log k.begun) ∙ ap (λ (n : ℕ). within (length opening) (length k.log) p + once (n == p)) (sym size_seen)) in
              omega (arith, total_set (made_at p) s.views id v w at, times_end p v.made (length v.seen), k.places p, more);
          tallied = omega (arith, total_set counted_of s.views id v w at, k.tallied, tally);
          each = each_set (Fits opening whole (history x) k.turn (count x)) s.views id w
              (record {
                told = f.told;
                seen = begins_itself (history x);
                met = (begins_itself (history x), begins_itself (history x));
                begun = λ _. further opening k.begun;
                below = λ p le. omega (arith, times_end p v.made (length v.seen), f.below p (omega arith), once_else (length v.seen) p (λ same. omega arith));
                idle = λ z. absurd (cc (inside, (f.idle z).1));
                counted = ⊎_elim (λ (t : count x ≡ v.count). omega (arith, f.counted)) (λ (t : (count x ≡ v.count + 1) × (v.counted < v.parts)). omega arith) new;
                stands = subst (Stands (history x) k.turn (count x) w) (sym inside) (on.0, refl, refl);
              })
              (λ j d ne h. let g = k.each j d h in record {
                told = g.told;
                seen = further d.seen g.seen;
                met = g.met;
                begun = g.begun;
                below = g.below;
                idle = g.idle;
                counted = g.counted;
                stands = quiet_stands k.log (history x) k.turn k.turn k.tally (count x) d d.stage (quiet j d ne h);
              });
          home = inr (lent_in s k id v number at inside, (id, w, now_at s.views id v w at, inside ∙ ap (λ n. Inside n) on.0));
        },
        (λ y same. let held : Some x ≡ Some y = ap in_hand (sym hand ∙ same) in let is : x ≡ y = cc in ap (λ (z : V). (having_made v (history z) (count z), m.1)) is),
      )

  -- a seat inside lays the slot back, and passes the turn on
  pub passes : (slots id : ℕ) (m : M) (number : ℕ) (x : V) → m.0.stage ≡ Inside number → number < 2 ^ 63 → m.1 ≡ (0, Some x) ∷ [] → history x ≡ m.0.seen → count x ≡ m.0.count
      → Allows Rule slots id m 2 (λ _. number + 1) (λ _. passed_on history count m (number + 1))
  passes slots id m number x inside small hand seen counts s k len at fit =
      let v : View E = m.0 in let w : View E = at_stage v Out in let f = k.each id v at in
      let on : (number ≡ k.turn) × (v.seen ≡ k.log) × (v.count ≡ k.tally) = subst (Stands k.log k.turn k.tally v) inside f.stands in
      let mine : has k.turn v.stage ≡ 1 = ap (has k.turn) inside ∙ once_same number k.turn on.0 in
      let quiet = others_quiet history count opening whole s k id v at mine in
      let b : is_busy v.stage ≡ 1 = ap is_busy inside in
      let one : total busy (set s.views id w) + 1 ≡ total busy s.views = omega (arith, total_set busy s.views id v w at) in
      let laid : homes_after s.homes m.1 gives ≡ some (Some x) ∷ [] = ap (λ c. homes_after s.homes c gives) hand ∙ ap (λ l. slice_set l 0 (some (Some x))) (lent_in s k id v number at inside) in
      subst (Goes s id m 2 (λ _. number + 1) (λ _. passed_on history count m (number + 1))) (sym k.words) (
        w,
        gives,
        tt,
        record {
          log = k.log;
          ticket = k.ticket;
          turn = number + 1;
          tally = k.tally;
          words = refl;
          few = k.few;
          last = omega arith;
          begun = k.begun;
          shared = total_same parts_of s.views id v w at refl ∙ k.shared;
          line = omega (arith, one, k.line, on.0);
          numbers = λ n. let had : has n v.stage ≡ once (k.turn == n) = ap (has n) inside ∙ ap (λ (t : ℕ). once (t == n)) on.0 in
              let less : within (k.turn + 1) k.ticket n ≡ within (number + 1) k.ticket n = ap (λ t. within (t + 1) k.ticket n) (sym on.0) in
              omega (arith, total_set (numbered n) s.views id v w at, k.numbers n, within_start k.turn k.ticket n (omega (arith, one, k.line)), had, less);
          places = λ p. total_same (made_at p) s.views id v w at refl ∙ k.places p;
          tallied = total_same counted_of s.views id v w at refl ∙ k.tallied;
          each = each_set (Fits opening whole k.log (number + 1) k.tally) s.views id w
              (record { told = f.told; seen = f.seen; met = f.met; begun = f.begun; below = f.below; idle = λ z. ((f.idle z).0, refl); counted = f.counted; stands = tt })
              (λ j d ne h. let g = k.each j d h in record {
                told = g.told;
                seen = g.seen;
                met = g.met;
                begun = g.begun;
                below = g.below;
                idle = g.idle;
                counted = g.counted;
                stands = quiet_stands k.log k.log k.turn (number + 1) k.tally k.tally d d.stage (quiet j d ne h);
              });
          home = inl (x, laid, seen ∙ on.1, counts ∙ on.2, each_set (λ d. IsOutside d.stage) s.views id w tt (λ j d ne h. quiet_outside d.stage (quiet j d ne h)));
        },
        ap (λ c. (w, carried_after c gives)) hand,
      )
