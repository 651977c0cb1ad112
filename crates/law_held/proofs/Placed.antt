-- Each step at the door names the place at which it stands.
use Rattle.std.proofs.Common.{◌≡◌, ℕ, suc, Bool, true, List, [], ◌∷◌, ◌++◌, refl, sym, ap, subst, ◌∙◌, inl, inr, eqb, arith, length, append-nil, append_assoc, length-append}
use Rattle.std.specs.Prelude.{IsTrue}
use Rattle.std.specs.List.{flat_map}
use Rattle.std.proofs.lemmas.Bool.{and_from, and_parts, eq-eqb, eqb-true}
use Rattle.std.proofs.lemmas.List.Concat.{flat_map-append}
use Rattle.aft_model.specs.declared.door.DoorAct.{DoorAct}
use Rattle.aft_model.specs.declared.door.DoorEntry.{DoorEntry}
use Rattle.aft_model.specs.declared.trace.Trace.{Trace}
use Rattle.aft_model.specs.History.{each_after}
use Rattle.aft_model.proofs.Histories.{In, each_after_split}
use Rattle.aft_model.proofs.Lists.{in_filter}
use Rattle.aft_lines.specs.LineView.{door_entry_in}
use Rattle.aft_lines.specs.Steps.{Made, door_steps, made_at_front, steps, steps_from}
use Rattle.aft_lines.specs.Turns.{AtDoor, AtNode, AtOffice, Turn, front_in}
use Rattle.law_steps.proofs.Exact.{AreOthers, all_others, others_of}

-- ---- lists

each_in : {A : Type 0} (rule : List A → A → Bool) (before xs : List A) → ((h : List A) (x : A) → In x xs → IsTrue (rule h x)) → IsTrue (each_after rule before xs)
each_in rule before [] each = refl
each_in rule before (x ∷ xs) each = and_from (rule before x) (each_after rule (before ++ x ∷ []) xs) (each before x (inl refl)) (each_in rule (before ++ x ∷ []) xs (λ h y there. each h y (inr there)))

pub each_joined : {A : Type 0} (rule : List A → A → Bool) (before xs ys : List A) → IsTrue (each_after rule before xs) → IsTrue (each_after rule (before ++ xs) ys) → IsTrue (each_after rule before (xs ++ ys))
each_joined rule before [] ys first second = subst (λ l. IsTrue (each_after rule l ys)) (append-nil before) second
each_joined rule before (x ∷ xs) ys first second =
    let parts = and_parts (rule before x) (each_after rule (before ++ x ∷ []) xs) first in
    and_from (rule before x) (each_after rule (before ++ x ∷ []) (xs ++ ys)) parts.0 (each_joined rule (before ++ x ∷ []) xs ys parts.1 (subst (λ l. IsTrue (each_after rule l ys)) (sym (append_assoc before (x ∷ []) xs)) second))

none_of : {A B : Type 0} (f : A → List B) (xs : List A) → ((x : A) → In x xs → f x ≡ []) → flat_map f xs ≡ []
none_of f [] none = refl
none_of {A} {B} f (x ∷ xs) none = ap (λ (l : List B). l ++ flat_map f xs) (none x (inl refl)) ∙ none_of f xs (λ y there. none y (inr there))

-- ---- steps

-- whether a turn at the door names this place
abbrev placed_at : ℕ → Turn → Bool
placed_at place (AtDoor named act) = eqb named place
placed_at place turn = true

abbrev is_placed : List Made → Made → Bool
is_placed before one = placed_at (length (door_steps before)) one.turn

-- a step that is not the door's names none
other_placed : (place : ℕ) (one : Made) → door_entry_in one.by one.turn ≡ [] → IsTrue (placed_at place one.turn)
other_placed place one is = by_turn one.turn is
  where
    by_turn : (turn : Turn) → door_entry_in one.by turn ≡ [] → IsTrue (placed_at place turn)
    by_turn (AtDoor named act) none = absurd (cc)
    by_turn (AtNode node history entry) none = refl
    by_turn (AtOffice history entry) none = refl

module _ (others : List Made) (are : AreOthers others) where
  none_there : (place : ℕ) (one : Made) → In one (made_at_front place others) → door_entry_in one.by one.turn ≡ []
  none_there place one among = are one (in_filter (λ (m : Made). eqb (front_in m.turn) place) one others among).0

  long : (before : List Made) (place : ℕ) → length (door_steps (before ++ made_at_front place others)) ≡ length (door_steps before)
  long before place =
      ap length (flat_map-append (λ (m : Made). door_entry_in m.by m.turn) before (made_at_front place others)
      ∙ (ap (λ (l : List DoorEntry). door_steps before ++ l) (none_of (λ (m : Made). door_entry_in m.by m.turn) (made_at_front place others) (none_there place)) ∙ append-nil (door_steps before)))

  placed_from : (before : List Made) (place : ℕ) (door : List DoorEntry) → length (door_steps before) ≡ place → IsTrue (each_after is_placed before (steps_from others place door))
  placed_from before place [] is = each_in is_placed before (made_at_front place others) (λ h one among. other_placed (length (door_steps h)) one (none_there place one among))
  placed_from before place (entry ∷ entries) is =
      let these = made_at_front place others in
      let one : Made = record { by = entry.by; turn = AtDoor place entry.act } in
      let so : length (door_steps (before ++ these)) ≡ place = long before place ∙ is in
      let next : length (door_steps ((before ++ these) ++ one ∷ [])) ≡ suc place =
      ap length (flat_map-append (λ (m : Made). door_entry_in m.by m.turn) (before ++ these) (one ∷ [])) ∙ (length-append (door_steps (before ++ these)) (record { by = entry.by; act = entry.act } ∷ []) ∙ (let now = so in omega arith)) in
      each_joined is_placed before these (one ∷ steps_from others (suc place) entries) (each_in is_placed before these (λ h m among. other_placed (length (door_steps h)) m (none_there place m among)))
      (and_from (eqb place (length (door_steps (before ++ these)))) (each_after is_placed ((before ++ these) ++ one ∷ []) (steps_from others (suc place) entries)) (eq-eqb place (length (door_steps (before ++ these))) (sym so)) (placed_from ((before ++ these) ++ one ∷ []) (suc place) entries next))

-- the place of a step at the door is the number of the door's entries before it
pub placed : (trace : Trace) (before rest : List Made) (one : Made) (place : ℕ) (act : DoorAct) → steps trace ≡ before ++ one ∷ rest → one.turn ≡ AtDoor place act → place ≡ length (door_steps before)
placed trace before rest one place act is turned =
    let split = each_after_split is_placed [] before (one ∷ rest) (subst (λ (l : List Made). IsTrue (each_after is_placed [] l)) is (placed_from (others_of trace) (all_others trace) [] 0 trace.door refl)) in
    let here = (and_parts (is_placed before one) (each_after is_placed (before ++ one ∷ []) rest) split.1).0 in
    eqb-true place (length (door_steps before)) (subst (λ (t : Turn). IsTrue (placed_at (length (door_steps before)) t)) turned here)
