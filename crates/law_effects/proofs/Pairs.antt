-- The pairs that an act proves are those that its effects on their names prove.
use Rattle.std.proofs.Common.{◌≡◌, ℕ, Bool, true, false, List, [], ◌∷◌, ◌++◌, refl, sym, ap, subst, ◌∙◌, inl, inr}
use Rattle.std.specs.Prelude.{IsTrue, Option, Some, None, if◌then◌else◌}
use Rattle.std.specs.Str.{bytes_eq}
use Rattle.std.proofs.lemmas.Bool.{and_parts, false≢true}
use Rattle.aft_keeper.specs.declared.keeper.Pair.{Pair}
use Rattle.aft_keeper.specs.declared.keeper.KeeperAnswer.{KeeperAnswer}
use Rattle.aft_keeper.specs.declared.keeper.KeeperAnswer.TheVariants.{Absent, Done, Failed, Found, Page}
use Rattle.aft_keeper.specs.declared.keeper.KeeperCall.{KeeperCall}
use Rattle.aft_keeper.specs.declared.keeper.KeeperCall.TheVariants.{Delete, Get, Put, Scan}
use Rattle.aft_keeper.specs.Contents.{bytes_at}
use Rattle.aft_model.specs.declared.door.DoorAct.{DoorAct}
use Rattle.aft_model.specs.declared.door.DoorAct.TheVariants.{Call}
use Rattle.aft_model.specs.Evidence.{covers, shown_on_page, pairs_in, stored_in}
use Rattle.aft_model.specs.LegalDoor.{is_answered}
use Rattle.aft_model.proofs.Histories.{In, in_append}
use Rattle.aft_model.proofs.Sights.{bytes_eq-refl, listed_once, same_bytes}
use Rattle.law_effects.specs.Effects.{Leaves, Writes, Tries, sight_effect, call_effect, effect_of, proven_by}

abbrev pub pair_of : List ℕ → List ℕ → Pair
pair_of name bytes = record { name = name; bytes = bytes }

-- ---- what a pair of an act proves of its name

put_proves : (name bytes : List ℕ) (t : Bool) → bytes_eq name name ≡ t → proven_by (if t then Writes (Some bytes) else Leaves) ≡ Some bytes
put_proves name bytes true same = refl
put_proves name bytes false other = absurd (false≢true (sym other ∙ bytes_eq-refl name))

get_proves : (name bytes : List ℕ) (t : Bool) → bytes_eq name name ≡ t → proven_by (sight_effect (if t then Some (Some bytes) else None)) ≡ Some bytes
get_proves name bytes true same = refl
get_proves name bytes false other = absurd (false≢true (sym other ∙ bytes_eq-refl name))

stored_proves : (act : DoorAct) (pair : Pair) → In pair (stored_in act) → proven_by (effect_of pair.name act) ≡ Some pair.bytes
stored_proves (Call node inc (Put put bytes) Done) pair (inl is) =
    subst (λ (p : Pair). proven_by (call_effect p.name (Put put bytes) Done) ≡ Some p.bytes) (sym is) (put_proves put bytes (bytes_eq put put) refl)
stored_proves (Call node inc (Put put bytes) Done) pair (inr nowhere) = absurd nowhere
stored_proves act pair among = absurd among

shown_proves : (act : DoorAct) → IsTrue (is_answered act) → (pair : Pair) → In pair (pairs_in act) → proven_by (effect_of pair.name act) ≡ Some pair.bytes
shown_proves (Call node inc (Get got) (Found bytes)) answered pair (inl is) =
    subst (λ (p : Pair). proven_by (call_effect p.name (Get got) (Found bytes)) ≡ Some p.bytes) (sym is) (get_proves got bytes (bytes_eq got got) refl)
shown_proves (Call node inc (Get got) (Found bytes)) answered pair (inr nowhere) = absurd nowhere
shown_proves (Call node inc (Scan prefix after limit) (Page pairs)) answered pair among =
    let page = and_parts _ _ answered in
    let listed = listed_once pair pairs (and_parts _ _ page.0).1 among in
    ap (λ o. proven_by (sight_effect (shown_on_page o (covers prefix after limit pairs pair.name)))) listed
shown_proves act answered pair among = absurd among

pub pair_proves : (act : DoorAct) → IsTrue (is_answered act) → (pair : Pair) → In pair (stored_in act ++ pairs_in act) → proven_by (effect_of pair.name act) ≡ Some pair.bytes
pair_proves act answered pair among =
    elim (in_append pair (stored_in act) (pairs_in act) among) [ inl stored ↦ stored_proves act pair stored | inr shown ↦ shown_proves act answered pair shown ]

-- ---- what is proved of a name is a pair of the act

-- the bytes that are written or shown where the name is the one that is called
if_written : (t : Bool) (outcome : Option (List ℕ)) (bytes : List ℕ) → proven_by (if t then Writes outcome else Leaves) ≡ Some bytes → (t ≡ true) × (outcome ≡ Some bytes)
if_written true outcome bytes is = (refl, is)
if_written false outcome bytes is = absurd (cc)

if_shown : (t : Bool) (outcome : Option (List ℕ)) (bytes : List ℕ) → proven_by (sight_effect (if t then Some outcome else None)) ≡ Some bytes → (t ≡ true) × (outcome ≡ Some bytes)
if_shown true outcome bytes is = (refl, is)
if_shown false outcome bytes is = absurd (cc)

if_tried : (t : Bool) (outcome : Option (List ℕ)) (bytes : List ℕ) → proven_by (if t then Tries outcome else Leaves) ≡ Some bytes → ⊥
if_tried true outcome bytes is = absurd (cc)
if_tried false outcome bytes is = absurd (cc)

bytes_are : (a b : List ℕ) → Some a ≡ Some b → a ≡ b
bytes_are a b e = cc

on_page : (listed : Option (List ℕ)) (covered : Bool) (bytes : List ℕ) → proven_by (sight_effect (shown_on_page listed covered)) ≡ Some bytes → listed ≡ Some bytes
on_page (Some found) covered bytes is = is
on_page None true bytes is = absurd (cc)
on_page None false bytes is = absurd (cc)

-- a pair that a page lists
listed_there : (name bytes : List ℕ) (pairs : List Pair) → bytes_at name pairs ≡ Some bytes → In (pair_of name bytes) pairs
listed_there name bytes [] is = absurd (cc)
listed_there name bytes (p ∷ pairs) is = cases (listed_there name bytes pairs) (bytes_eq name p.name) refl is
  where
    cases : (bytes_at name pairs ≡ Some bytes → In (pair_of name bytes) pairs) → (t : Bool) → bytes_eq name p.name ≡ t → (if t then Some p.bytes else bytes_at name pairs) ≡ Some bytes → In (pair_of name bytes) (p ∷ pairs)
    cases later true same is = inl (ap (λ n. pair_of n bytes) (same_bytes name p.name same) ∙ ap (λ b. pair_of p.name b) (sym (bytes_are p.bytes bytes is)))
    cases later false other is = inr (later is)

module _ (name bytes : List ℕ) where
  call_pair : (call : KeeperCall) (answer : KeeperAnswer) (node inc : ℕ) → proven_by (call_effect name call answer) ≡ Some bytes
      → In (pair_of name bytes) (stored_in (Call node inc call answer) ++ pairs_in (Call node inc call answer))
  call_pair (Put put written) Done node inc is =
      let found = if_written (bytes_eq name put) (Some written) bytes is in
      inl (ap (λ n. pair_of n bytes) (same_bytes name put found.0) ∙ ap (λ b. pair_of put b) (sym (bytes_are written bytes found.1)))
  call_pair (Put put written) Failed node inc is = absurd (if_tried (bytes_eq name put) (Some written) bytes is)
  call_pair (Delete deleted) Done node inc is = (let found = if_written (bytes_eq name deleted) None bytes is in absurd (let no = found.1 in cc))
  call_pair (Delete deleted) Failed node inc is = absurd (if_tried (bytes_eq name deleted) None bytes is)
  call_pair (Get got) (Found shown) node inc is =
      let found = if_shown (bytes_eq name got) (Some shown) bytes is in
      inl (ap (λ n. pair_of n bytes) (same_bytes name got found.0) ∙ ap (λ b. pair_of got b) (sym (bytes_are shown bytes found.1)))
  call_pair (Get got) Absent node inc is = (let found = if_shown (bytes_eq name got) None bytes is in absurd (let no = found.1 in cc))
  call_pair (Scan prefix after limit) (Page pairs) node inc is = listed_there name bytes pairs (on_page (bytes_at name pairs) (covers prefix after limit pairs name) bytes is)
  call_pair call answer node inc is = absurd (cc)

  pub act_pair : (act : DoorAct) → proven_by (effect_of name act) ≡ Some bytes → In (pair_of name bytes) (stored_in act ++ pairs_in act)
  act_pair (Call node inc call answer) is = call_pair call answer node inc is
  act_pair act is = absurd (cc)
