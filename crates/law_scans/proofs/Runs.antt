-- A whole run covers its prefix, and lists names that ascend.
use Rattle.std.proofs.Common.{◌≡◌, ℕ, Bool, true, false, ◌&&◌, not, List, [], ◌∷◌, ◌++◌, refl, sym, ap, subst, ◌∙◌, inl, inr, append-nil}
use Rattle.std.specs.Prelude.{IsTrue, Option, Some, None, length, nat_lt, nat_eq, if◌then◌else◌}
use Rattle.std.specs.List.{last_or, list_all, starts_with}
use Rattle.std.specs.Option.{option_map}
use Rattle.std.specs.Str.{bytes_eq}
use Rattle.std.proofs.lemmas.Bool.{and_parts, and_from, or_left, or_right, cases_Bool, true≢false, false≢true}
use Rattle.aft_keeper.specs.declared.keeper.Pair.{Pair}
use Rattle.aft_keeper.specs.Contents.{is_scanned, name_lt}
use Rattle.aft_keeper.proofs.Names.{Less-from_name_lt, name_lt-from_Less, Less-trans}
use Rattle.aft_model.specs.Evidence.{is_up_to}
use Rattle.aft_model.specs.LegalDoor.{ascends, is_page}
use Rattle.aft_model.specs.ScanRun.{ScanPage, page_limit, next_after, ends}
use Rattle.aft_model.proofs.Histories.{In, all_at, in_append}
use Rattle.aft_model.proofs.Sights.{same_bytes}
use Rattle.law_scans.specs.Pages.{are_pages, is_covered, listed_on}

name_lt-trans : (a b c : List ℕ) → IsTrue (name_lt a b) → IsTrue (name_lt b c) → IsTrue (name_lt a c)
name_lt-trans a b c ab bc = name_lt-from_Less a c (Less-trans a b c (Less-from_name_lt a b ab) (Less-from_name_lt b c bc))

-- the last of some elements that is none is that of no elements
no_last : {A : Type 0} (x : A) (xs : List A) → last_or (Some x) xs ≡ None → ⊥
no_last x [] none = absurd (cc)
no_last x (y ∷ ys) none = no_last y ys none

-- a list that isn't shorter than a page has a last element
has_last : (pairs : List Pair) → nat_lt (length pairs) page_limit ≡ false → last_or None pairs ≡ None → ⊥
has_last [] full none = true≢false full
has_last (p ∷ pairs) full none = no_last p pairs none

module _ (prefix name : List ℕ) where
  -- a page covers the name, or the run goes on below it
  abbrev Goes : List ScanPage → Type 0
  Goes pages = (after : List ℕ) → IsTrue (ends (Some after) pages) → IsTrue (is_scanned prefix after name) → IsTrue (is_covered prefix name pages)

  covered_on : (page : ScanPage) (pages : List ScanPage) → Goes pages → (short : Bool) → nat_lt (length page.listed) page_limit ≡ short → (last : Option Pair) → last_or None page.listed ≡ last
      → IsTrue (is_scanned prefix page.after name) → IsTrue (ends (next_after page) pages) → IsTrue (is_covered prefix name (page ∷ pages))
  covered_on page pages goes true short last ends_here here more = or_left _ _ (and_from _ _ here (or_left _ _ short))
  covered_on page pages goes false full None nothing here more = absurd (has_last page.listed full nothing)
  covered_on page pages goes false full (Some p) last here more =
      elim (cases_Bool (name_lt p.name name)) [
        | inl beyond ↦
            (let next : next_after page ≡ Some p.name = ap (λ t. if t then None else option_map (λ (q : Pair). q.name) (last_or None page.listed)) full ∙ ap (λ o. option_map (λ (q : Pair). q.name) o) last in
            let on : IsTrue (ends (Some p.name) pages) = subst (λ n. IsTrue (ends n pages)) next more in
            or_right _ _ (goes p.name on (and_from _ _ (and_parts (starts_with nat_eq name prefix) (name_lt page.after name) here).0 beyond)))
        | inr within ↦ or_left _ _ (and_from _ _ here (or_right _ _ (subst (λ o. IsTrue (is_up_to o name)) (sym last) (ap not within))))
      ]

  pub covered_from : (pages : List ScanPage) → IsTrue (are_pages prefix pages) → Goes pages
  covered_from [] answered after whole scanned = absurd (false≢true whole)
  covered_from (page ∷ pages) answered after whole scanned =
      let begun = and_parts (bytes_eq page.after after) (ends (next_after page) pages) whole in
      let here : IsTrue (is_scanned prefix page.after name) = subst (λ from. IsTrue (is_scanned prefix from name)) (sym (same_bytes page.after after begun.0)) scanned in
      let rest = and_parts (is_page prefix page.after page_limit page.listed) (are_pages prefix pages) answered in
      covered_on page pages (covered_from pages rest.1) (nat_lt (length page.listed) page_limit) refl (last_or None page.listed) refl here begun.1

-- ---- what a run lists

-- each of these pairs stands behind a name
abbrev pub Behind : List ℕ → List Pair → Type 0
Behind after pairs = (p : Pair) → In p pairs → IsTrue (name_lt after p.name)

-- pairs that ascend, with others that ascend behind the last of them
ascends_append : (xs ys : List Pair) → IsTrue (ascends xs) → IsTrue (ascends ys) → ((last : Pair) → last_or None xs ≡ Some last → Behind last.name ys) → IsTrue (ascends (xs ++ ys))
ascends_append [] ys up up' over = up'
ascends_append (p ∷ []) [] up up' over = refl
ascends_append (p ∷ []) (q ∷ ys) up up' over = and_from _ _ (over p refl q (inl refl)) up'
ascends_append (p ∷ q ∷ xs) ys up up' over =
    let parts = and_parts (name_lt p.name q.name) (ascends (q ∷ xs)) up in
    and_from _ _ parts.0 (ascends_append (q ∷ xs) ys parts.1 up' over)

-- what stands behind a name stands behind those before it
behind_before : (a b : List ℕ) (pairs : List Pair) → IsTrue (name_lt a b) → Behind b pairs → Behind a pairs
behind_before a b pairs ab behind = λ p among. name_lt-trans a b p.name ab (behind p among)

-- the last element is one of them
last_in : {A : Type 0} (x last : A) (xs : List A) → last_or (Some x) xs ≡ Some last → In last (x ∷ xs)
last_in x last [] is = inl (cc)
last_in x last (y ∷ ys) is = inr (last_in y last ys is)

last_among : (last : Pair) (pairs : List Pair) → last_or None pairs ≡ Some last → In last pairs
last_among last [] is = absurd (cc)
last_among last (p ∷ pairs) is = last_in p last pairs is

-- what pages list from a name on stands behind it and ascends
pub record Lists (after : List ℕ) (pairs : List Pair) : Type 0 where
  pub behind : Behind after pairs
  pub up : IsTrue (ascends pairs)

-- behind the end of a run nothing is listed
nothing_more : (pages : List ScanPage) → IsTrue (ends None pages) → listed_on pages ≡ []
nothing_more [] whole = refl
nothing_more (page ∷ pages) whole = absurd (false≢true whole)

behind_append : (after : List ℕ) (xs ys : List Pair) → Behind after xs → Behind after ys → Behind after (xs ++ ys)
behind_append after xs ys front back = λ p among. elim (in_append p xs ys among) [ inl before ↦ front p before | inr behind ↦ back p behind ]

module _ (prefix : List ℕ) where
  -- what stands on a page stands behind its beginning
  page_behind : (after : List ℕ) (pairs : List Pair) → IsTrue (list_all (λ (p : Pair). is_scanned prefix after p.name) pairs) → Behind after pairs
  page_behind after pairs scanned = λ p among. (and_parts (starts_with nat_eq p.name prefix) (name_lt after p.name) (all_at (λ (q : Pair). is_scanned prefix after q.name) p pairs among scanned)).1

  -- what the pages list that follow one
  abbrev Follow : List ScanPage → Type 0
  Follow pages = (after : List ℕ) → IsTrue (ends (Some after) pages) → Lists after (listed_on pages)

  -- a page, and what follows it
  lists_on : (page : ScanPage) (pages : List ScanPage) → Follow pages → (next : Option (List ℕ)) → next_after page ≡ next → IsTrue (is_page prefix page.after page_limit page.listed)
      → IsTrue (ends next pages) → Lists page.after (page.listed ++ listed_on pages)
  lists_on page pages follow None over shape more =
      let parts = and_parts (list_all (λ (p : Pair). is_scanned prefix page.after p.name) page.listed && ascends page.listed) _ shape in
      let both = and_parts (list_all (λ (p : Pair). is_scanned prefix page.after p.name) page.listed) (ascends page.listed) parts.0 in
      let alone : page.listed ++ listed_on pages ≡ page.listed = ap (λ (more : List Pair). page.listed ++ more) (nothing_more pages more) ∙ append-nil page.listed in
      subst (λ (pairs : List Pair). Lists page.after pairs) (sym alone) (record { behind = page_behind page.after page.listed both.0; up = both.1 })
  lists_on page pages follow (Some name) over shape more =
      let parts = and_parts (list_all (λ (p : Pair). is_scanned prefix page.after p.name) page.listed && ascends page.listed) _ shape in
      let both = and_parts (list_all (λ (p : Pair). is_scanned prefix page.after p.name) page.listed) (ascends page.listed) parts.0 in
      let front = page_behind page.after page.listed both.0 in
      let rest = follow name more in
      let named = last_name (nat_lt (length page.listed) page_limit) (last_or None page.listed) name over in
      record {
        behind = behind_append page.after page.listed (listed_on pages) front (behind_before page.after name (listed_on pages) (subst (λ n. IsTrue (name_lt page.after n)) named.2 (front named.0 (last_among named.0 page.listed named.1))) rest.behind);
        up = ascends_append page.listed (listed_on pages) both.1 rest.up (λ last is. subst (λ n. Behind n (listed_on pages)) (sym named.2 ∙ ap (λ (p : Pair). p.name) (some_is named.0 last (sym named.1 ∙ is))) rest.behind);
      }
    where
      some_is : (p q : Pair) → (let o : Option Pair = Some p in o) ≡ Some q → p ≡ q
      some_is p q e = cc

      last_name : (short : Bool) (last : Option Pair) (name : List ℕ) → (if short then None else option_map (λ (p : Pair). p.name) last) ≡ Some name → (p : Pair) × (last ≡ Some p) × (p.name ≡ name)
      last_name true last name is = absurd (cc)
      last_name false None name is = absurd (cc)
      last_name false (Some p) name is = (p, refl, cc)

  pub lists_from : (pages : List ScanPage) → IsTrue (are_pages prefix pages) → Follow pages
  lists_from [] answered after whole = absurd (false≢true whole)
  lists_from (page ∷ pages) answered after whole =
      let begun = and_parts (bytes_eq page.after after) (ends (next_after page) pages) whole in
      let rest = and_parts (is_page prefix page.after page_limit page.listed) (are_pages prefix pages) answered in
      subst (λ from. Lists from (page.listed ++ listed_on pages)) (same_bytes page.after after begun.0)
      (lists_on page pages (lists_from pages rest.1) (next_after page) refl rest.0 begun.1)
