-- What a table keeps of its rows, as they change.
use Rattle.std.proofs.Common.{◌≡◌, ℕ, ◌+◌, ◌<◌, Bool, true, false, cond, not, ◌&&◌, ◌||◌, List, [], ◌∷◌, ◌++◌, Option, Some, None, refl, sym, ap, subst, ◌∙◌, arith, nat_eq, nat_lt, eqb}
use Rattle.std.specs.Prelude.{IsTrue, IsFalse, if◌then◌else◌, nat_le, option_map, unwrap_or}
use Rattle.std.specs.List.{list_all, list_any}
use Rattle.std.specs.Str.{bytes_eq}
use Rattle.std.specs.Cmp.{nat_eq_equiv}
use Rattle.std.specs.Cmp.Lexicographic.{bytes_decides, nat_list_eq_equiv}
use Rattle.std.proofs.lemmas.Bool.{and_from, and_parts, not-true, or_parts, true≢false, false_from_ne_true}
use Rattle.std.proofs.lemmas.Bool.Decides.{nat_tests}
use Rattle.std.proofs.lemmas.List.Folds.{list_all-append, list_any-append}
use Rattle.aft_model.specs.Attempts.{Row}
use Rattle.aft_txn.specs.Rows.{IsLegal, is_sound, numbers_ascend, opened, row_at, row_of_uuid, uuids_differ, without_row}

-- ---- rows of the same numbers and UUIDs

-- a row has the number and the UUID of another one, and is sound where that is
pub record Follows (row new : Row) : Type 0 where
  pub number : new.number ≡ row.number
  pub uuid : new.uuid ≡ row.uuid
  pub sound : IsTrue (is_sound row) → IsTrue (is_sound new)

-- rows follow others, one by one
abbrev pub AreLike : List Row → List Row → Type 0
AreLike [] [] = Unit {0}
AreLike [] (new ∷ news) = ⊥
AreLike (row ∷ rows) [] = ⊥
AreLike (row ∷ rows) (new ∷ news) = Follows row new × AreLike rows news

all_numbers : (test : ℕ → Bool) (rows news : List Row) → AreLike rows news → list_all (λ (r : Row). test r.number) news ≡ list_all (λ (r : Row). test r.number) rows
all_numbers test [] [] like = refl
all_numbers test [] (new ∷ news) like = absurd like
all_numbers test (row ∷ rows) [] like = absurd like
all_numbers test (row ∷ rows) (new ∷ news) like = ap (λ n. test n && list_all (λ (r : Row). test r.number) news) like.0.number ∙ ap (λ b. test row.number && b) (all_numbers test rows news like.1)

any_uuids : (test : List ℕ → Bool) (rows news : List Row) → AreLike rows news → list_any (λ (r : Row). test r.uuid) news ≡ list_any (λ (r : Row). test r.uuid) rows
any_uuids test [] [] like = refl
any_uuids test [] (new ∷ news) like = absurd like
any_uuids test (row ∷ rows) [] like = absurd like
any_uuids test (row ∷ rows) (new ∷ news) like = ap (λ u. test u || list_any (λ (r : Row). test r.uuid) news) like.0.uuid ∙ ap (λ b. test row.uuid || b) (any_uuids test rows news like.1)

ascend_like : (rows news : List Row) → AreLike rows news → numbers_ascend news ≡ numbers_ascend rows
ascend_like [] [] like = refl
ascend_like [] (new ∷ news) like = absurd like
ascend_like (row ∷ rows) [] like = absurd like
ascend_like (row ∷ rows) (new ∷ news) like =
    ap (λ n. list_all (λ (r : Row). nat_lt n r.number) news && numbers_ascend news) like.0.number
    ∙ ap (λ b. b && numbers_ascend news) (all_numbers (nat_lt row.number) rows news like.1) ∙ ap (λ b. list_all (λ (r : Row). nat_lt row.number r.number) rows && b) (ascend_like rows news like.1)

differ_like : (rows news : List Row) → AreLike rows news → uuids_differ news ≡ uuids_differ rows
differ_like [] [] like = refl
differ_like [] (new ∷ news) like = absurd like
differ_like (row ∷ rows) [] like = absurd like
differ_like (row ∷ rows) (new ∷ news) like =
    ap (λ u. not (list_any (λ (r : Row). bytes_eq u r.uuid) news) && uuids_differ news) like.0.uuid
    ∙ ap (λ b. not b && uuids_differ news) (any_uuids (bytes_eq row.uuid) rows news like.1) ∙ ap (λ b. not (list_any (λ (r : Row). bytes_eq row.uuid r.uuid) rows) && b) (differ_like rows news like.1)

sound_like : (rows news : List Row) → AreLike rows news → IsTrue (list_all is_sound rows) → IsTrue (list_all is_sound news)
sound_like [] [] like sound = refl
sound_like [] (new ∷ news) like sound = absurd like
sound_like (row ∷ rows) [] like sound = absurd like
sound_like (row ∷ rows) (new ∷ news) like sound =
    let parts = and_parts (is_sound row) (list_all is_sound rows) sound in
    and_from _ _ (like.0.sound parts.0) (sound_like rows news like.1 parts.1)

pub legal_like : (begun : ℕ) (rows news : List Row) → AreLike rows news → IsLegal (record { begun = begun; rows = rows }) → IsLegal (record { begun = begun; rows = news })
legal_like begun rows news like legal = record {
  in_order = ascend_like rows news like ∙ legal.in_order;
  begun = all_numbers (λ n. nat_le n begun) rows news like ∙ legal.begun;
  apart = differ_like rows news like ∙ legal.apart;
  sound = sound_like rows news like legal.sound;
}

-- the number of the row of a UUID
abbrev pub number_of : List ℕ → List Row → Option ℕ
number_of uuid rows = option_map (λ (row : Row). row.number) (row_of_uuid uuid rows)

picked : (uuid : List ℕ) (row : Row) (rows : List Row) → number_of uuid (row ∷ rows) ≡ cond (bytes_eq uuid row.uuid) (Some row.number) (number_of uuid rows)
picked uuid row rows = cases (bytes_eq uuid row.uuid)
  where
    cases : (b : Bool) → option_map (λ (r : Row). r.number) (cond b (Some row) (row_of_uuid uuid rows)) ≡ cond b (Some row.number) (number_of uuid rows)
    cases true = refl
    cases false = refl

pub number_like : (uuid : List ℕ) (rows news : List Row) → AreLike rows news → number_of uuid news ≡ number_of uuid rows
number_like uuid [] [] like = refl
number_like uuid [] (new ∷ news) like = absurd like
number_like uuid (row ∷ rows) [] like = absurd like
number_like uuid (row ∷ rows) (new ∷ news) like =
    picked uuid new news ∙ ap (λ u. cond (bytes_eq uuid u) (Some new.number) (number_of uuid news)) like.0.uuid ∙ ap (λ n. cond (bytes_eq uuid row.uuid) (Some n) (number_of uuid news)) like.0.number
    ∙ ap (cond (bytes_eq uuid row.uuid) (Some row.number)) (number_like uuid rows news like.1) ∙ sym (picked uuid row rows)

-- ---- a row less

all_without : (test : Row → Bool) (number : ℕ) (rows : List Row) → IsTrue (list_all test rows) → IsTrue (list_all test (without_row number rows))
all_without test number [] all = refl
all_without test number (row ∷ rows) all =
    let parts = and_parts (test row) (list_all test rows) all in
    cases (nat_eq number row.number) parts.1 (and_from _ _ parts.0 (all_without test number rows parts.1))
  where
    cases : (b : Bool) → IsTrue (list_all test rows) → IsTrue (list_all test (row ∷ without_row number rows)) → IsTrue (list_all test (if b then rows else row ∷ without_row number rows))
    cases true here later = here
    cases false here later = later

none_without : (test : Row → Bool) (number : ℕ) (rows : List Row) → IsFalse (list_any test rows) → IsFalse (list_any test (without_row number rows))
none_without test number [] none = refl
none_without test number (row ∷ rows) none =
    let parts = or_parts (test row) (list_any test rows) none in
    cases (nat_eq number row.number) parts.1 (ap (λ b. b || list_any test (without_row number rows)) parts.0 ∙ none_without test number rows parts.1)
  where
    cases : (b : Bool) → IsFalse (list_any test rows) → IsFalse (list_any test (row ∷ without_row number rows)) → IsFalse (list_any test (if b then rows else row ∷ without_row number rows))
    cases true here later = here
    cases false here later = later

ascend_without : (number : ℕ) (rows : List Row) → IsTrue (numbers_ascend rows) → IsTrue (numbers_ascend (without_row number rows))
ascend_without number [] up = refl
ascend_without number (row ∷ rows) up =
    let parts = and_parts (list_all (λ (r : Row). nat_lt row.number r.number) rows) (numbers_ascend rows) up in
    cases (nat_eq number row.number) parts.1 (and_from _ _ (all_without (λ (r : Row). nat_lt row.number r.number) number rows parts.0) (ascend_without number rows parts.1))
  where
    cases : (b : Bool) → IsTrue (numbers_ascend rows) → IsTrue (numbers_ascend (row ∷ without_row number rows)) → IsTrue (numbers_ascend (if b then rows else row ∷ without_row number rows))
    cases true here later = here
    cases false here later = later

differ_without : (number : ℕ) (rows : List Row) → IsTrue (uuids_differ rows) → IsTrue (uuids_differ (without_row number rows))
differ_without number [] apart = refl
differ_without number (row ∷ rows) apart =
    let parts = and_parts (not (list_any (λ (r : Row). bytes_eq row.uuid r.uuid) rows)) (uuids_differ rows) apart in
    cases (nat_eq number row.number) parts.1 (and_from _ _ (ap not (none_without (λ (r : Row). bytes_eq row.uuid r.uuid) number rows (not-true _ parts.0))) (differ_without number rows parts.1))
  where
    cases : (b : Bool) → IsTrue (uuids_differ rows) → IsTrue (uuids_differ (row ∷ without_row number rows)) → IsTrue (uuids_differ (if b then rows else row ∷ without_row number rows))
    cases true here later = here
    cases false here later = later

pub legal_without : (begun number : ℕ) (rows : List Row) → IsLegal (record { begun = begun; rows = rows }) → IsLegal (record { begun = begun; rows = without_row number rows })
legal_without begun number rows legal = record {
  in_order = ascend_without number rows legal.in_order;
  begun = all_without (λ (r : Row). nat_le r.number begun) number rows legal.begun;
  apart = differ_without number rows legal.apart;
  sound = all_without is_sound number rows legal.sound;
}

nobody : (uuid : List ℕ) (rows : List Row) → IsFalse (list_any (λ (r : Row). bytes_eq uuid r.uuid) rows) → number_of uuid rows ≡ None
nobody uuid [] none = refl
nobody uuid (row ∷ rows) none =
    let parts = or_parts (bytes_eq uuid row.uuid) (list_any (λ (r : Row). bytes_eq uuid r.uuid) rows) none in
    picked uuid row rows ∙ ap (λ b. cond b (Some row.number) (number_of uuid rows)) parts.0 ∙ nobody uuid rows parts.1

none_there : (test : Row → Bool) (number : ℕ) (gone : Row) (rows : List Row) → row_at number rows ≡ Some gone → IsFalse (list_any test rows) → IsFalse (test gone)
none_there test number gone [] there none = cc
none_there test number gone (row ∷ rows) there none = cases (nat_eq number row.number) there (none_there test number gone rows)
  where
    cases : (b : Bool) → (if b then Some row else row_at number rows) ≡ Some gone → (row_at number rows ≡ Some gone → IsFalse (list_any test rows) → IsFalse (test gone)) → IsFalse (test gone)
    cases true there rest = ap (λ o. test (unwrap_or o gone)) (sym there) ∙ (or_parts (test row) (list_any test rows) none).0
    cases false there rest = rest there (or_parts (test row) (list_any test rows) none).1

same_uuid : (a b : List ℕ) → bytes_eq a b ≡ true → a ≡ b
same_uuid a b = (bytes_decides a b).0

pub number_without : (uuid : List ℕ) (number : ℕ) (gone : Row) (rows : List Row) → IsTrue (uuids_differ rows) → row_at number rows ≡ Some gone
    → number_of uuid (without_row number rows) ≡ cond (bytes_eq gone.uuid uuid) None (number_of uuid rows)
number_without uuid number gone [] apart there = absurd cc
number_without uuid number gone (row ∷ rows) apart there = cases (nat_eq number row.number) there (number_without uuid number gone rows (and_parts (not (list_any (λ (r : Row). bytes_eq row.uuid r.uuid) rows)) (uuids_differ rows) apart).1)
  where
    others : IsFalse (list_any (λ (r : Row). bytes_eq row.uuid r.uuid) rows)
    others = not-true _ (and_parts (not (list_any (λ (r : Row). bytes_eq row.uuid r.uuid) rows)) (uuids_differ rows) apart).0

    here : (b : Bool) → bytes_eq row.uuid uuid ≡ b → number_of uuid rows ≡ cond b None (cond b (Some row.number) (number_of uuid rows))
    here true same = nobody uuid rows (subst (λ (u : List ℕ). IsFalse (list_any (λ (r : Row). bytes_eq u r.uuid) rows)) (same_uuid row.uuid uuid same) others)
    here false other = refl

    behind : (b : Bool) → bytes_eq uuid row.uuid ≡ b → IsFalse (bytes_eq row.uuid gone.uuid) → cond b (Some row.number) (cond (bytes_eq gone.uuid uuid) None (number_of uuid rows)) ≡ cond (bytes_eq gone.uuid uuid) None (cond b (Some row.number) (number_of uuid rows))
    behind true same differs =
        let is : bytes_eq gone.uuid uuid ≡ false = nat_list_eq_equiv.symm gone.uuid uuid ∙ ap (λ u. bytes_eq u gone.uuid) (same_uuid uuid row.uuid same) ∙ differs in
        sym (ap (λ b. cond b None (Some row.number)) is)
    behind false other differs = refl

    cases : (b : Bool) → (if b then Some row else row_at number rows) ≡ Some gone → (row_at number rows ≡ Some gone → number_of uuid (without_row number rows) ≡ cond (bytes_eq gone.uuid uuid) None (number_of uuid rows))
        → number_of uuid (if b then rows else row ∷ without_row number rows) ≡ cond (bytes_eq gone.uuid uuid) None (number_of uuid (row ∷ rows))
    cases true there rest =
        let is : row ≡ gone = ap (λ o. unwrap_or o row) there in
        here (bytes_eq row.uuid uuid) refl ∙ ap (λ b. cond (bytes_eq row.uuid uuid) None (cond b (Some row.number) (number_of uuid rows))) (nat_list_eq_equiv.symm row.uuid uuid)
        ∙ ap (cond (bytes_eq row.uuid uuid) None) (sym (picked uuid row rows)) ∙ ap (λ (r : Row). cond (bytes_eq r.uuid uuid) None (number_of uuid (row ∷ rows))) is
    cases false there rest =
        picked uuid row (without_row number rows) ∙ ap (cond (bytes_eq uuid row.uuid) (Some row.number)) (rest there)
        ∙ behind (bytes_eq uuid row.uuid) refl (none_there (λ (r : Row). bytes_eq row.uuid r.uuid) number gone rows there others)
        ∙ ap (cond (bytes_eq gone.uuid uuid) None) (sym (picked uuid row rows))

-- ---- a row more

unnamed : (uuid : List ℕ) (row : Row) (rows : List Row) → row_of_uuid uuid (row ∷ rows) ≡ None → IsFalse (bytes_eq uuid row.uuid) × (row_of_uuid uuid rows ≡ None)
unnamed uuid row rows none = cases (bytes_eq uuid row.uuid) none
  where
    cases : (b : Bool) → cond b (Some row) (row_of_uuid uuid rows) ≡ None → IsFalse b × (row_of_uuid uuid rows ≡ None)
    cases true none = absurd cc
    cases false none = (refl, none)

ascend_more : (begun : ℕ) (rows : List Row) (new : Row) → new.number ≡ begun + 1 → IsTrue (list_all (λ (r : Row). nat_le r.number begun) rows) → IsTrue (numbers_ascend rows) → IsTrue (numbers_ascend (rows ++ new ∷ []))
ascend_more begun [] new is within up = refl
ascend_more begun (row ∷ rows) new is within up =
    let parts = and_parts (list_all (λ (r : Row). nat_lt row.number r.number) rows) (numbers_ascend rows) up in
    let low = and_parts (nat_le row.number begun) (list_all (λ (r : Row). nat_le r.number begun) rows) within in
    and_from _ _ (list_all-append (λ (r : Row). nat_lt row.number r.number) rows (new ∷ []) ∙ and_from _ _ parts.0 (and_from _ _ (above row.number new.number is low.0) refl)) (ascend_more begun rows new is low.1 parts.1)
  where
    above : (a b : ℕ) → b ≡ begun + 1 → IsTrue (nat_le a begun) → IsTrue (nat_lt a b)
    above a b is low = grind (arith, nat_tests, is, low)

begun_more : (begun : ℕ) (rows : List Row) → IsTrue (list_all (λ (r : Row). nat_le r.number begun) rows) → IsTrue (list_all (λ (r : Row). nat_le r.number (begun + 1)) rows)
begun_more begun [] within = refl
begun_more begun (row ∷ rows) within =
    let parts = and_parts (nat_le row.number begun) (list_all (λ (r : Row). nat_le r.number begun) rows) within in
    and_from _ _ (above row.number parts.0) (begun_more begun rows parts.1)
  where
    above : (a : ℕ) → IsTrue (nat_le a begun) → IsTrue (nat_le a (begun + 1))
    above a low = grind (arith, nat_tests, low)

differ_more : (rows : List Row) (new : Row) → row_of_uuid new.uuid rows ≡ None → IsTrue (uuids_differ rows) → IsTrue (uuids_differ (rows ++ new ∷ []))
differ_more [] new none apart = refl
differ_more (row ∷ rows) new none apart =
    let parts = and_parts (not (list_any (λ (r : Row). bytes_eq row.uuid r.uuid) rows)) (uuids_differ rows) apart in
    let free = unnamed new.uuid row rows none in
    let last : bytes_eq row.uuid new.uuid ≡ false = nat_list_eq_equiv.symm row.uuid new.uuid ∙ free.0 in
    and_from _ _
    (ap not (list_any-append (λ (r : Row). bytes_eq row.uuid r.uuid) rows (new ∷ []) ∙ ap (λ b. b || (bytes_eq row.uuid new.uuid || false)) (not-true _ parts.0) ∙ ap (λ b. b || false) last))
    (differ_more rows new free.1 parts.1)

pub legal_more : (begun : ℕ) (rows : List Row) (uuid : List ℕ) → row_of_uuid uuid rows ≡ None → IsLegal (record { begun = begun; rows = rows }) → IsLegal (record { begun = begun + 1; rows = rows ++ opened (begun + 1) uuid ∷ [] })
legal_more begun rows uuid none legal = record {
  in_order = ascend_more begun rows (opened (begun + 1) uuid) refl legal.begun legal.in_order;
  begun = list_all-append (λ (r : Row). nat_le r.number (begun + 1)) rows (opened (begun + 1) uuid ∷ []) ∙ and_from _ _ (begun_more begun rows legal.begun) (and_from _ _ (last begun) refl);
  apart = differ_more rows (opened (begun + 1) uuid) none legal.apart;
  sound = list_all-append is_sound rows (opened (begun + 1) uuid ∷ []) ∙ and_from _ _ legal.sound refl;
}
  where
    last : (a : ℕ) → IsTrue (nat_le (a + 1) (a + 1))
    last a = grind (arith, nat_tests)

pub number_more : (uuid : List ℕ) (rows : List Row) (new : Row) → row_of_uuid new.uuid rows ≡ None → number_of uuid (rows ++ new ∷ []) ≡ cond (bytes_eq new.uuid uuid) (Some new.number) (number_of uuid rows)
number_more uuid [] new none = picked uuid new [] ∙ ap (λ b. cond b (Some new.number) None) (nat_list_eq_equiv.symm uuid new.uuid)
number_more uuid (row ∷ rows) new none =
    let free = unnamed new.uuid row rows none in
    picked uuid row (rows ++ new ∷ []) ∙ ap (cond (bytes_eq uuid row.uuid) (Some row.number)) (number_more uuid rows new free.1) ∙ cases (bytes_eq uuid row.uuid) refl free.0 ∙ ap (cond (bytes_eq new.uuid uuid) (Some new.number)) (sym (picked uuid row rows))
  where
    cases : (b : Bool) → bytes_eq uuid row.uuid ≡ b → IsFalse (bytes_eq new.uuid row.uuid) → cond b (Some row.number) (cond (bytes_eq new.uuid uuid) (Some new.number) (number_of uuid rows)) ≡ cond (bytes_eq new.uuid uuid) (Some new.number) (cond b (Some row.number) (number_of uuid rows))
    cases true same other =
        let is : bytes_eq new.uuid uuid ≡ false = ap (bytes_eq new.uuid) (same_uuid uuid row.uuid same) ∙ other in
        sym (ap (λ b. cond b (Some new.number) (Some row.number)) is)
    cases false differs other = refl

-- ---- the row of a UUID

-- the row of a UUID is that of its number
pub row_found : (uuid : List ℕ) (row : Row) (rows : List Row) → IsTrue (numbers_ascend rows) → row_of_uuid uuid rows ≡ Some row → row_at row.number rows ≡ Some row
row_found uuid row [] up is = absurd cc
row_found uuid row (other ∷ rows) up is = cases (bytes_eq uuid other.uuid) is (row_found uuid row rows (and_parts (list_all (λ (r : Row). nat_lt other.number r.number) rows) (numbers_ascend rows) up).1)
  where
    above : (row : Row) (rest : List Row) → IsTrue (list_all (λ (r : Row). nat_lt other.number r.number) rest) → row_of_uuid uuid rest ≡ Some row → IsTrue (nat_lt other.number row.number)
    above row [] all is = absurd cc
    above row (r ∷ rest) all is =
        let parts = and_parts (nat_lt other.number r.number) (list_all (λ (s : Row). nat_lt other.number s.number) rest) all in
        one (bytes_eq uuid r.uuid) is (above row rest parts.1) parts.0
      where
        one : (b : Bool) → cond b (Some r) (row_of_uuid uuid rest) ≡ Some row → (row_of_uuid uuid rest ≡ Some row → IsTrue (nat_lt other.number row.number)) → IsTrue (nat_lt other.number r.number) → IsTrue (nat_lt other.number row.number)
        one true here later low = ap (λ o. nat_lt other.number (unwrap_or o row).number) (sym here) ∙ low
        one false there later low = later there

    unequal : (a b : ℕ) → IsTrue (nat_lt a b) → nat_eq b a ≡ false
    unequal a b low = grind (arith, nat_tests, low)

    cases : (b : Bool) → cond b (Some other) (row_of_uuid uuid rows) ≡ Some row → (row_of_uuid uuid rows ≡ Some row → row_at row.number rows ≡ Some row) → (if nat_eq row.number other.number then Some other else row_at row.number rows) ≡ Some row
    cases true here rest =
        let is : other ≡ row = ap (λ o. unwrap_or o other) here in
        ap (λ b. if b then Some other else row_at row.number rows) (ap (λ (r : Row). nat_eq row.number r.number) is ∙ nat_eq_equiv.refl row.number) ∙ ap Some is
    cases false there rest =
        let low = above row rows (and_parts (list_all (λ (r : Row). nat_lt other.number r.number) rows) (numbers_ascend rows) up).0 there in
        ap (λ b. if b then Some other else row_at row.number rows) (unequal other.number row.number low) ∙ rest there
