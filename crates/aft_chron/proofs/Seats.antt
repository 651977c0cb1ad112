-- What is known of the seats beside the one that makes a step.
use Rattle.std.proofs.Common.{◌≡◌, ◌≢◌, ◌⊎◌, ℕ, zero, suc, ◌<◌, ◌≤◌, List, [], ◌∷◌, ◌++◌, length, set, sym, ap, ◌∙◌, subst, inl, inr, ⊎_elim, arith, Option, ◌==◌, eq-eqb, ne_eqb}
use mathlib.Core.Logic.{dite}
use mathlib.Core.Option.{some, none, some-injective, some-ne-none}
use mathlib.Core.Option as maybe
use native.Mathlib.Decide.{ℕ_discrete}
use lib.ListN.{get_elem?}
use Rattle.atomic_table.specs.Table.{State}
use Rattle.atomic_table.proofs.Lists.{at_set, set_here, set_else, at_snoc}
use Rattle.aft_chron.specs.declared.view.View.{View}
use Rattle.aft_chron.specs.declared.view.Stage.{Stage}
use Rattle.aft_chron.specs.declared.view.Stage.TheVariants.{Out, Waits, Called, Inside}
use Rattle.aft_chron.specs.Standing.{once}
use Rattle.aft_chron.specs.Rule.{is_busy, has, total, IsOutside, Stands, Fits, AtHome, Lent, Kept, parts_of, busy, numbered}
use Rattle.aft_chron.proofs.Sums.{total_two, total_le, within_most}

-- a seat that is in no turn, or waits for its number
abbrev pub IsQuiet : Stage → Type 0
IsQuiet Out = Unit {0}
IsQuiet (Waits n) = Unit {0}
IsQuiet (Called n) = ⊥
IsQuiet (Inside n) = ⊥

pub quiet_outside : (stage : Stage) → IsQuiet stage → IsOutside stage
quiet_outside Out q = tt
quiet_outside (Waits n) q = tt
quiet_outside (Called n) q = absurd q
quiet_outside (Inside n) q = absurd q

pub busy_most : (stage : Stage) → is_busy stage ≤ 1
busy_most Out = omega arith
busy_most (Waits n) = omega arith
busy_most (Called n) = omega arith
busy_most (Inside n) = omega arith

pub once_same : (n m : ℕ) → n ≡ m → once (n == m) ≡ 1
once_same n m e = ap once (eq-eqb n m e)

pub once_else : (n m : ℕ) → n ≢ m → once (n == m) ≡ 0
once_else n m ne = ap once (ne_eqb n m ne)

module _ {A : Type 0} (P : A → Type 0) where
  -- what holds of the new view and of all others holds of each
  pub each_set : (l : List A) (id : ℕ) (w : A) → P w → ((j : ℕ) (d : A) → j ≢ id → get_elem? l j ≡ some d → P d) → (j : ℕ) (d : A) → get_elem? (set l id w) j ≡ some d → P d
  each_set l id w mine others j d e = ⊎_elim (λ (t : (j ≡ id) × (w ≡ d)). subst P t.1 mine) (λ (t : (j ≢ id) × (get_elem? l j ≡ some d)). others j d t.0 t.1) (at_set l id j w d e)

  pub each_end : (l : List A) (w : A) → P w → ((j : ℕ) (d : A) → get_elem? l j ≡ some d → P d) → (j : ℕ) (d : A) → get_elem? (l ++ w ∷ []) j ≡ some d → P d
  each_end l w mine others j d e = ⊎_elim (λ (t : get_elem? l j ≡ some d). others j d t) (λ (t : w ≡ d). subst P t mine) (at_snoc l w d j e)

pub there : {A : Type 0} (l : List A) (i : ℕ) (v : A) → get_elem? l i ≡ some v → i < length l
there [] i v e = absurd (some-ne-none v (sym e))
there (x ∷ xs) zero v e = omega arith
there (x ∷ xs) (suc i) v e = omega (arith, there xs i v e)

-- a new view stands at its place
pub now_at : {A : Type 0} (l : List A) (i : ℕ) (v w : A) → get_elem? l i ≡ some v → get_elem? (set l i w) i ≡ some w
now_at l i v w e = set_here l i w (there l i v e)

module _ {E : Type 0} (log log' : List E) (turn turn' tally tally' : ℕ) (v : View E) where
  pub quiet_stands : (stage : Stage) → IsQuiet stage → Stands log' turn' tally' v stage
  quiet_stands Out q = tt
  quiet_stands (Waits n) q = tt
  quiet_stands (Called n) q = absurd q
  quiet_stands (Inside n) q = absurd q

  -- a seat that doesn't have the number that is up is quiet
  pub quiet_else : (stage : Stage) → Stands log turn tally v stage → has turn stage ≡ 0 → IsQuiet stage
  quiet_else Out s other = tt
  quiet_else (Waits n) s other = tt
  quiet_else (Called n) s other = absurd (omega (arith, once_same n turn s))
  quiet_else (Inside n) s other = absurd (omega (arith, once_same n turn s.0))

module _ {V E : Type 0} (history : V → List E) (count : V → ℕ) (opening : List E) (whole : ℕ) where
  abbrev pub St : Type 0
  St = State (Option V) (View E)

  abbrev pub Rule : St → Type 0
  Rule = Kept history count opening whole

  -- where a seat has the number that is up, each other is quiet
  pub others_quiet : (s : St) (k : Rule s) (id : ℕ) (v : View E) → get_elem? s.views id ≡ some v → has k.turn v.stage ≡ 1 → (j : ℕ) (d : View E) → j ≢ id → get_elem? s.views j ≡ some d → IsQuiet d.stage
  others_quiet s k id v at mine j d ne here = quiet_else k.log k.log k.turn k.turn k.tally k.tally d d.stage (k.each j d here).stands
      (omega (arith, total_two (numbered k.turn) s.views j id d v ne here at, k.numbers k.turn, within_most k.turn k.ticket k.turn))

  -- no more seats are busy than there are parts
  pub busy_parts : (s : St) (k : Rule s) → total busy s.views ≤ whole
  busy_parts s k = omega (arith, k.shared, total_le busy parts_of s.views (λ i v e. one v (k.each i v e)))
    where
      one : (v : View E) → Fits opening whole k.log k.turn k.tally v → is_busy v.stage ≤ v.parts
      one v f = dite (ℕ_discrete v.parts 0) (λ (e : v.parts ≡ 0). omega (arith, ap is_busy (f.idle e).1)) (λ (ne : v.parts ≢ 0). omega (arith, busy_most v.stage))

  -- a step of a seat that stays outside leaves the value where it is
  pub home_stays : (log : List E) (turn tally : ℕ) (homes : List (maybe.Option (Option V))) (views : List (View E)) (id : ℕ) (v w : View E) → get_elem? views id ≡ some v → IsOutside v.stage → IsOutside w.stage
      → AtHome history count log tally homes views ⊎ Lent history count turn homes views → AtHome history count log tally homes (set views id w) ⊎ Lent history count turn homes (set views id w)
  home_stays log turn tally homes views id v w at before after = ⊎_elim
      (λ (h : AtHome history count log tally homes views). inl (h.0, h.1, h.2, h.3, each_set (λ d. IsOutside d.stage) views id w after (λ j d ne e. h.4 j d e)))
      (λ (l : Lent history count turn homes views). inr (l.0, (l.1.0, l.1.1, set_else views id l.1.0 w (apart l) ∙ l.1.2, l.1.3)))
    where
      apart : (l : Lent history count turn homes views) → l.1.0 ≢ id
      apart l e = subst IsOutside (ap (λ (d : View E). d.stage) (some-injective v l.1.1 (sym at ∙ (ap (get_elem? views) (sym e) ∙ l.1.2))) ∙ l.1.3) before
