-- Steps whose fronts never fall, taken front by front, come in their order.
use Rattle.std.proofs.Common.{◌≡◌, ℕ, suc, ◌+◌, ◌≤◌, ◌<◌, Bool, true, false, List, [], ◌∷◌, ◌++◌, refl, sym, ap, subst, ◌∙◌, inl, inr, eqb, leb, arith, length, append-nil}
use Rattle.std.specs.Prelude.{IsTrue, filter, map, if◌then◌else◌}
use Rattle.std.specs.List.{list_all}
use Rattle.std.proofs.lemmas.Bool.{and_parts, and_from, cases_Bool, eqb-true, eqb-false, ne_eqb, leb-true, le-leb}
use Rattle.std.proofs.lemmas.List.Elements.{filter-append}
use Rattle.aft_model.specs.declared.door.DoorEntry.{DoorEntry}
use Rattle.aft_lines.specs.Steps.{Made, made_at_front, steps_from}
use Rattle.aft_lines.specs.Turns.{AtDoor, front_in}
use Rattle.law_places.specs.Fronts.{never_fall}
use Rattle.law_turns.proofs.Lists.{filter_swap}

-- the fronts of steps
abbrev pub fronts_of : List Made → List ℕ
fronts_of made = map (λ one. front_in one.turn) made

-- steps front by front, from a place on
abbrev pub by_front : List Made → ℕ → List DoorEntry → List Made
by_front made place [] = made_at_front place made
by_front made place (entry ∷ entries) = made_at_front place made ++ by_front made (suc place) entries

-- steps with these fronts: they never fall, and are from the first to the last
pub record Rise (first last : ℕ) (made : List Made) : Type 0 where
  pub up : IsTrue (never_fall (fronts_of made))
  pub from : IsTrue (list_all (λ n. leb first n) (fronts_of made))
  pub to : IsTrue (list_all (λ n. leb n last) (fronts_of made))

module _ (one : Made) (made : List Made) where
  tail_rises : (first last : ℕ) → Rise first last (one ∷ made) → Rise first last made
  tail_rises first last rise = record { up = tail_up made rise.up; from = (and_parts (leb first (front_in one.turn)) _ rise.from).1; to = (and_parts (leb (front_in one.turn) last) _ rise.to).1 }
    where
      tail_up : (more : List Made) → IsTrue (never_fall (front_in one.turn ∷ fronts_of more)) → IsTrue (never_fall (fronts_of more))
      tail_up [] up = refl
      tail_up (next ∷ more) up = (and_parts (leb (front_in one.turn) (front_in next.turn)) (never_fall (front_in next.turn ∷ fronts_of more)) up).1

-- behind a front that is past the first, none is at the first
all_past : (place : ℕ) (one : Made) (made : List Made) → IsTrue (never_fall (front_in one.turn ∷ fronts_of made)) → place < front_in one.turn → IsTrue (list_all (λ n. leb (suc place) n) (front_in one.turn ∷ fronts_of made))
all_past place one [] up past = and_from _ _ (le-leb (suc place) (front_in one.turn) past) refl
all_past place one (next ∷ made) up past =
    let parts = and_parts (leb (front_in one.turn) (front_in next.turn)) (never_fall (front_in next.turn ∷ fronts_of made)) up in
    let le = leb-true (front_in one.turn) (front_in next.turn) parts.0 in
    and_from _ _ (le-leb (suc place) (front_in one.turn) past) (all_past place next made parts.1 (omega arith))

-- steps that all are past a place have none there
none_here : (place : ℕ) (made : List Made) → IsTrue (list_all (λ n. leb (suc place) n) (fronts_of made)) → made_at_front place made ≡ []
none_here place [] past = refl
none_here place (one ∷ made) past =
    let parts = and_parts (leb (suc place) (front_in one.turn)) (list_all (λ n. leb (suc place) n) (fronts_of made)) past in
    let above = leb-true (suc place) (front_in one.turn) parts.0 in
    ap (λ t. if t then one ∷ made_at_front place made else made_at_front place made) (ne_eqb (front_in one.turn) place (λ same. let now = same in omega arith)) ∙ none_here place made parts.1

-- those at the first front, and then the rest
record Parted (place last : ℕ) (made : List Made) : Type 0 where
  rest : List Made
  is : made_at_front place made ++ rest ≡ made
  rises : Rise (suc place) last rest
  later : (front : ℕ) → suc place ≤ front → made_at_front front made ≡ made_at_front front rest

parted : (place last : ℕ) (made : List Made) → Rise place last made → Parted place last made
parted place last [] rise = record { rest = []; is = refl; rises = record { up = refl; from = refl; to = refl }; later = λ front above. refl }
parted place last (one ∷ made) rise = cases (eqb (front_in one.turn) place) refl (parted place last made (tail_rises one made place last rise))
  where
    cases : (t : Bool) → eqb (front_in one.turn) place ≡ t → Parted place last made → Parted place last (one ∷ made)
    cases true here tail =
        record {
          rest = tail.rest;
          is = ap (λ t. (if t then one ∷ made_at_front place made else made_at_front place made) ++ tail.rest) here ∙ ap (λ (l : List Made). one ∷ l) tail.is;
          rises = tail.rises;
          later = λ front above. ap (λ t. if t then one ∷ made_at_front front made else made_at_front front made) (ne_eqb (front_in one.turn) front (λ same. let at = eqb-true (front_in one.turn) place here in omega arith)) ∙ tail.later front above;
        }
    cases false other tail =
        (let at_least = leb-true place (front_in one.turn) (and_parts (leb place (front_in one.turn)) _ rise.from).0 in
        let past : place < front_in one.turn = beyond place (front_in one.turn) at_least (eqb-false (front_in one.turn) place other) in
        let all = all_past place one made rise.up past in
        let nothing : made_at_front place (one ∷ made) ≡ [] = none_here place (one ∷ made) all in
        record {
          rest = one ∷ made;
          is = ap (λ (l : List Made). l ++ one ∷ made) nothing;
          rises = record { up = rise.up; from = all; to = rise.to };
          later = λ front above. refl;
        })
      where
        beyond : (a b : ℕ) → a ≤ b → ((b ≡ a) → ⊥) → a < b
        beyond a b le differ = elim (cases_Bool (leb (suc a) b)) [
          | inl past ↦ leb-true (suc a) b past
          | inr short ↦ absurd (differ (grind arith))
        ]

-- steps behind the last place
by_front-same : (made rest : List Made) (place : ℕ) (door : List DoorEntry) → ((front : ℕ) → place ≤ front → made_at_front front made ≡ made_at_front front rest) → by_front made place door ≡ by_front rest place door
by_front-same made rest place [] same = same place (omega arith)
by_front-same made rest place (entry ∷ entries) same =
    ap (λ (l : List Made). l ++ by_front made (suc place) entries) (same place (omega arith))
    ∙ ap (λ (l : List Made). made_at_front place rest ++ l) (by_front-same made rest (suc place) entries (λ front above. same front (omega arith)))

nothing_past : (last : ℕ) (made : List Made) → Rise (suc last) last made → made ≡ []
nothing_past last [] rise = refl
nothing_past last (one ∷ made) rise =
    let low = leb-true (suc last) (front_in one.turn) (and_parts (leb (suc last) (front_in one.turn)) _ rise.from).0 in
    let high = leb-true (front_in one.turn) last (and_parts (leb (front_in one.turn) last) _ rise.to).0 in
    absurd (omega arith)

pub in_order : (made : List Made) (place : ℕ) (door : List DoorEntry) → Rise place (place + length door) made → by_front made place door ≡ made
in_order made place [] rise =
    let p = parted place (place + 0) made rise in
    sym (append-nil (made_at_front place made))
    ∙ ap (λ (l : List Made). made_at_front place made ++ l) (sym (nothing_past (place + 0) p.rest (subst (λ n. Rise (suc n) (place + 0) p.rest) (let e : place ≡ place + 0 = omega arith in e) p.rises))) ∙ p.is
in_order made place (entry ∷ entries) rise =
    let p = parted place (place + suc (length entries)) made rise in
    ap (λ (l : List Made). made_at_front place made ++ l)
    (by_front-same made p.rest (suc place) entries p.later ∙ in_order p.rest (suc place) entries (subst (λ n. Rise (suc place) n p.rest) (let e : place + suc (length entries) ≡ suc place + length entries = omega arith in e) p.rises))
    ∙ p.is

-- ---- the steps that pass a test

module _ (test : Made → Bool) where
  filter_front : (place : ℕ) (made : List Made) → filter test (made_at_front place made) ≡ made_at_front place (filter test made)
  filter_front place made = filter_swap test (λ (one : Made). eqb (front_in one.turn) place) made

  -- where no step of the door passes
  pub but_the_door : (others : List Made) (place : ℕ) (door : List DoorEntry) → ((one : Made) (p : ℕ) (entry : DoorEntry) → one ≡ record { by = entry.by; turn = AtDoor p entry.act } → test one ≡ false)
      → filter test (steps_from others place door) ≡ by_front (filter test others) place door
  but_the_door others place [] none = filter_front place others
  but_the_door others place (entry ∷ entries) none =
      filter-append test (made_at_front place others) (record { by = entry.by; turn = AtDoor place entry.act } ∷ steps_from others (suc place) entries)
      ∙ ap (λ (l : List Made). l ++ filter test (record { by = entry.by; turn = AtDoor place entry.act } ∷ steps_from others (suc place) entries)) (filter_front place others)
      ∙ ap (λ (l : List Made). made_at_front place (filter test others) ++ l)
      (ap (λ t. if t then record { by = entry.by; turn = AtDoor place entry.act } ∷ filter test (steps_from others (suc place) entries) else filter test (steps_from others (suc place) entries)) (none (record { by = entry.by; turn = AtDoor place entry.act }) place entry refl)
      ∙ but_the_door others (suc place) entries none)
