-- Of how many of its keys a commit is the newest writer.
use Rattle.std.proofs.Common.{◌≡◌, ℕ, ◌+◌, ◌-◌, suc, Bool, true, false, cond, ◌&&◌, ◌||◌, List, [], ◌∷◌, arith, refl, sym, ap, subst, ◌∙◌}
use Rattle.std.specs.Prelude.{IsTrue, IsFalse, Option, Some, None, count_by, if◌then◌else◌}
use Rattle.std.specs.List.{list_any}
use Rattle.std.specs.Option.{option_map}
use Rattle.std.specs.Ordering.{is_eq, is_lt, nat_cmp}
use Rattle.std.specs.declared.cmp.Ordering.{Ordering}
use Rattle.std.specs.declared.cmp.Ordering.TheVariants.{Less, Equal, Greater}
use Rattle.std.specs.Cmp.Lexicographic.{bytes_decides, nat_list_cmp_total, nat_list_eq_equiv, same_text, slice_cmp}
use Rattle.std.specs.Str.{bytes_eq}
use Rattle.std.proofs.lemmas.Bool.{and_parts, or_left, or_right, true≢false, false≢true, false_from_ne_true}
use Rattle.std.proofs.lemmas.Cmp.{tied_itself}
use Rattle.std.proofs.lemmas.List.Sums.{sum_by-cons}
use Rattle.aft_fields.specs.Order.{ascend, ascend_after}
use Rattle.aft_id.specs.TxnId.{id_cmp, same_id}
use Rattle.aft_id.specs.declared.txn_id.TxnId.{TxnId}
use Rattle.aft_meta.specs.Index.{ids_under, is_some_id, lowered, lowered_by, one_less, overtaken_by}
use Rattle.aft_meta.specs.declared.known.KnownCommit.{KnownCommit}
use Rattle.aft_meta.proofs.KeysOf.{or_no}
use Rattle.aft_meta.proofs.Order.{same_id-sym, same_id-tied}

-- ---- counts

-- the count of a first key and the others
count_first : (f : List ℕ → Bool) (x : List ℕ) (keys : List (List ℕ)) → count_by f (x ∷ keys) ≡ cond (f x) 1 0 + count_by f keys
count_first f x keys = sum_by-cons (λ k. cond (f k) 1 0) x keys

pub count_same : (f g : List ℕ → Bool) (keys : List (List ℕ)) → ((k : List ℕ) → IsTrue (list_any (bytes_eq k) keys) → f k ≡ g k) → count_by f keys ≡ count_by g keys
count_same f g [] same = refl
count_same f g (x ∷ keys) same =
    let first : f x ≡ g x = same x (or_left _ _ ((bytes_decides x x).1 refl)) in
    let rest = count_same f g keys (λ k among. same k (or_right _ _ among)) in
    count_first f x keys ∙ ap (λ b. cond b 1 0 + count_by f keys) first ∙ ap (λ n. cond (g x) 1 0 + n) rest ∙ sym (count_first g x keys)

-- keys above a key aren't it
below_keys : (x : List ℕ) (keys : List (List ℕ)) → IsTrue (ascend_after (Some x) keys) → IsFalse (list_any (bytes_eq x) keys)
below_keys x [] up = refl
below_keys x (y ∷ keys) up = false_from_ne_true (bytes_eq x y || list_any (bytes_eq x) keys) (λ some. cases (bytes_eq x y) refl some (below_keys x keys (start keys parts.1)))
  where
    parts : IsTrue (is_lt (slice_cmp nat_cmp x y)) × IsTrue (ascend_after (Some y) keys)
    parts = and_parts (is_lt (slice_cmp nat_cmp x y)) (ascend_after (Some y) keys) up

    less_is : (o : Ordering) → IsTrue (is_lt o) → o ≡ Less
    less_is Less h = refl
    less_is Equal h = absurd (false≢true h)
    less_is Greater h = absurd (false≢true h)

    start : (rest : List (List ℕ)) → IsTrue (ascend_after (Some y) rest) → IsTrue (ascend_after (Some x) rest)
    start [] h = refl
    start (z ∷ rest) h =
        let more = and_parts (is_lt (slice_cmp nat_cmp y z)) (ascend_after (Some z) rest) h in
        let low = nat_list_cmp_total.trans x y z (less_is (slice_cmp nat_cmp x y) parts.0) (less_is (slice_cmp nat_cmp y z) more.0) in
        ap (λ o. is_lt o && ascend_after (Some z) rest) low ∙ more.1

    apart : IsTrue (bytes_eq x y) → ⊥
    apart same = true≢false (sym parts.0 ∙ ap (λ (z : List ℕ). is_lt (slice_cmp nat_cmp x z)) (sym (same_text x y (sym same))) ∙ ap is_lt (tied_itself nat_list_cmp_total x))

    cases : (t : Bool) → bytes_eq x y ≡ t → IsTrue (t || list_any (bytes_eq x) keys) → IsFalse (list_any (bytes_eq x) keys) → ⊥
    cases true same some none = apart same
    cases false other some none = true≢false (sym some ∙ none)

ascend_rest : (x : List ℕ) (keys : List (List ℕ)) → IsTrue (ascend_after (Some x) keys) → IsTrue (ascend keys)
ascend_rest x [] up = refl
ascend_rest x (y ∷ keys) up = (and_parts (is_lt (slice_cmp nat_cmp x y)) (ascend_after (Some y) keys) up).1

-- where one of some keys stops counting, the count falls by one
count_falls : (f g : List ℕ → Bool) (key : List ℕ) (keys : List (List ℕ)) → IsTrue (ascend keys) → IsTrue (list_any (bytes_eq key) keys) → f key ≡ true → g key ≡ false
    → ((k : List ℕ) → IsFalse (bytes_eq k key) → f k ≡ g k) → count_by f keys ≡ suc (count_by g keys)
count_falls f g key [] up among counted gone same = absurd (false≢true among)
count_falls f g key (x ∷ keys) up among counted gone same =
    count_first f x keys ∙ cases (bytes_eq key x) refl among (λ later. count_falls f g key keys (ascend_rest x keys up) later counted gone same) ∙ ap (λ n. suc n) (sym (count_first g x keys))
  where
    other_keys : IsTrue (bytes_eq key x) → (k : List ℕ) → IsTrue (list_any (bytes_eq k) keys) → f k ≡ g k
    other_keys here k later = same k (false_from_ne_true (bytes_eq k key) (λ again.
        true≢false (sym later ∙ subst (λ (z : List ℕ). IsFalse (list_any (bytes_eq z) keys)) (sym (same_text k key (sym again) ∙ same_text key x (sym here))) (below_keys x keys up))))

    cases : (t : Bool) → bytes_eq key x ≡ t → IsTrue (t || list_any (bytes_eq key) keys) → (IsTrue (list_any (bytes_eq key) keys) → count_by f keys ≡ suc (count_by g keys))
        → cond (f x) 1 0 + count_by f keys ≡ suc (cond (g x) 1 0 + count_by g keys)
    cases true here among rest =
        let is : key ≡ x = same_text key x (sym here) in
        let yes : f x ≡ true = ap f (sym is) ∙ counted in
        let no : g x ≡ false = ap g (sym is) ∙ gone in
        rw (yes, no) (omega (arith, count_same f g keys (other_keys here)))
    cases false other among rest =
        let first : f x ≡ g x = same x (nat_list_eq_equiv.symm x key ∙ other) in
        rw first (omega (arith, rest among))

-- ---- lowered counts

-- what is known of an id that nothing overtook stays
pub lowered_apart : (keys : List (List ℕ)) (new : TxnId) (writers : List (List ℕ × List TxnId)) (id : TxnId) (known : Option KnownCommit)
    → ((k : List ℕ) → IsFalse (is_some_id id (overtaken_by new (ids_under k writers)))) → lowered keys new writers id known ≡ known
lowered_apart [] new writers id known never = refl
lowered_apart (key ∷ keys) new writers id known never = ap (lowered keys new writers id) (stays (overtaken_by new (ids_under key writers)) (never key)) ∙ lowered_apart keys new writers id known never
  where
    stays : (o : Option TxnId) → IsFalse (is_some_id id o) → lowered_by o id known ≡ known
    stays None other = refl
    stays (Some g) other = ap (λ t. if t then option_map one_less known else known) (same_id-tied g id ∙ same_id-sym g id ∙ other)

pub lowered_none : (keys : List (List ℕ)) (new : TxnId) (writers : List (List ℕ × List TxnId)) (id : TxnId) → lowered keys new writers id None ≡ None
lowered_none [] new writers id = refl
lowered_none (key ∷ keys) new writers id = ap (lowered keys new writers id) (stays (overtaken_by new (ids_under key writers))) ∙ lowered_none keys new writers id
  where
    stays : (o : Option TxnId) → lowered_by o id None ≡ None
    stays None = refl
    stays (Some g) = cases (is_eq (id_cmp g id))
      where
        cases : (t : Bool) → (if t then option_map one_less None else None) ≡ None
        cases true = refl
        cases false = refl

module _ (new : TxnId) (writers : List (List ℕ × List TxnId)) (id : TxnId) (base : List ℕ → Bool) where
  abbrev over : List ℕ → Bool
  over key = is_some_id id (overtaken_by new (ids_under key writers))

  -- whether a key counts while these keys are still to be lowered
  abbrev pub still : List (List ℕ) → List ℕ → Bool
  still keys key = base key || (list_any (bytes_eq key) keys && over key)

  -- a count that is right while keys are to be lowered is right when they are
  pub lowered_counts : (keys own : List (List ℕ)) (newest : ℕ) → IsTrue (ascend keys) → IsTrue (ascend own) → ((k : List ℕ) → IsTrue (over k) → IsTrue (list_any (bytes_eq k) own)) → ((k : List ℕ) → IsTrue (over k) → IsFalse (base k))
      → newest ≡ count_by (still keys) own → lowered keys new writers id (Some (record { keys = own; newest = newest })) ≡ Some (record { keys = own; newest = count_by base own })
  lowered_counts [] own newest up own_up wrote apart is = ap (λ n. Some (record { keys = own; newest = n })) (is ∙ count_same (still []) base own (λ k among. or_no (base k)))
  lowered_counts (key ∷ keys) own newest up own_up wrote apart is =
      cases (overtaken_by new (ids_under key writers)) refl (λ n now. lowered_counts keys own n (ascend_rest key keys up) own_up wrote apart now)
    where
      none_of : (b : Bool) → b && false ≡ false
      none_of true = refl
      none_of false = refl

      -- the same counts without a key that is no more to be lowered
      same_at : (k : List ℕ) → IsFalse (bytes_eq k key) → still (key ∷ keys) k ≡ still keys k
      same_at k other = ap (λ b. base k || ((b || list_any (bytes_eq k) keys) && over k)) other

      without : IsFalse (over key) → (k : List ℕ) → still (key ∷ keys) k ≡ still keys k
      without never k = at (bytes_eq k key) refl
        where
          at : (t : Bool) → bytes_eq k key ≡ t → still (key ∷ keys) k ≡ still keys k
          at false other = same_at k other
          at true same =
              let not_over : over k ≡ false = ap over (same_text k key (sym same)) ∙ never in
              ap (λ b. base k || ((bytes_eq k key || list_any (bytes_eq k) keys) && b)) not_over ∙ ap (λ b. base k || b) (none_of (bytes_eq k key || list_any (bytes_eq k) keys) ∙ sym (none_of (list_any (bytes_eq k) keys))) ∙ ap (λ b. base k || (list_any (bytes_eq k) keys && b)) (sym not_over)

      counts : IsTrue (over key) → IsTrue (still (key ∷ keys) key)
      counts is_over = or_right (base key) _ (ap (λ b. (b || list_any (bytes_eq key) keys) && over key) ((bytes_decides key key).1 refl) ∙ is_over)

      stops : IsTrue (over key) → IsFalse (still keys key)
      stops is_over = ap (λ b. b || (list_any (bytes_eq key) keys && over key)) (apart key is_over) ∙ ap (λ b. b && over key) (below_keys key keys up)

      cases : (o : Option TxnId) → overtaken_by new (ids_under key writers) ≡ o → ((n : ℕ) → n ≡ count_by (still keys) own → lowered keys new writers id (Some (record { keys = own; newest = n })) ≡ Some (record { keys = own; newest = count_by base own }))
          → lowered keys new writers id (lowered_by o id (Some (record { keys = own; newest = newest }))) ≡ Some (record { keys = own; newest = count_by base own })
      cases None none rest = rest newest (is ∙ count_same (still (key ∷ keys)) (still keys) own (λ k among. without (ap (is_some_id id) none) k))
      cases (Some g) some rest = pick (same_id id g) refl
        where
          tied : (t : Bool) → same_id id g ≡ t → is_eq (id_cmp g id) ≡ t
          tied t e = same_id-tied g id ∙ same_id-sym g id ∙ e

          pick : (t : Bool) → same_id id g ≡ t → lowered keys new writers id (lowered_by (Some g) id (Some (record { keys = own; newest = newest }))) ≡ Some (record { keys = own; newest = count_by base own })
          pick true same =
              let is_over : IsTrue (over key) = ap (is_some_id id) some ∙ same in
              let fell : newest - 1 ≡ count_by (still keys) own = omega (arith, is, count_falls (still (key ∷ keys)) (still keys) key own own_up (wrote key is_over) (counts is_over) (stops is_over) same_at) in
              ap (λ t. lowered keys new writers id (if t then option_map one_less (Some (record { keys = own; newest = newest })) else Some (record { keys = own; newest = newest }))) (tied true same) ∙ rest (newest - 1) fell
          pick false other =
              ap (λ t. lowered keys new writers id (if t then option_map one_less (Some (record { keys = own; newest = newest })) else Some (record { keys = own; newest = newest }))) (tied false other)
              ∙ rest newest (is ∙ count_same (still (key ∷ keys)) (still keys) own (λ k among. without (ap (is_some_id id) some ∙ other) k))
