-- The last of some turns; and what a line did at the door, as others and it do more.
use Rattle.std.proofs.Common.{◌≡◌, ℕ, zero, suc, Bool, List, [], ◌∷◌, ◌++◌, drop, refl, sym, ap, ◌∙◌, append-nil}
use Rattle.std.specs.Prelude.{IsFalse, Option, Some, if◌then◌else◌, length}
use Rattle.std.specs.List.{flat_map, fold, last_or}
use Rattle.std.proofs.lemmas.List.Concat.{flat_map-append}
use Rattle.std.proofs.lemmas.List.Elements.{filter-append}
use Rattle.aft_model.specs.declared.caller.By.{By}
use Rattle.aft_model.specs.declared.door.DoorAct.{DoorAct}
use Rattle.aft_model.specs.declared.door.DoorEntry.{DoorEntry}
use Rattle.aft_model.specs.declared.node.NodeEntry.{NodeEntry}
use Rattle.aft_model.specs.History.{at_place, first_of}
use Rattle.aft_model.specs.NodeSights.{own_entries}
use Rattle.aft_model.specs.ScanRun.{same_line}
use Rattle.aft_lines.specs.LineView.{door_entry_in}
use Rattle.aft_lines.specs.Turns.{AtDoor, AtNode, AtOffice, Turn}
use Rattle.aft_turns.specs.Stands.{SeesOwn, StandIn}
use Rattle.law_claims.proofs.Scenes.{by_itself}

-- ---- the last

pub fold_last : {A B : Type 0} (f : A → B) (b : B) (xs : List A) (x : A) → fold (λ before y. f y) b (xs ++ x ∷ []) ≡ f x
fold_last f b [] x = refl
fold_last f b (y ∷ xs) x = fold_last f (f y) xs x

pub last_is : {A : Type 0} (before : Option A) (xs : List A) (x : A) → last_or before (xs ++ x ∷ []) ≡ Some x
last_is before [] x = refl
last_is before (y ∷ xs) x = last_is (Some y) xs x

-- ---- places

place_stays : {A : Type 0} (place : ℕ) (xs more : List A) (x : A) → at_place place xs ≡ Some x → at_place place (xs ++ more) ≡ Some x
place_stays place [] more x is = absurd (none place is)
  where
    none : {A : Type 0} {x : A} (place : ℕ) → first_of (drop place []) ≡ Some x → ⊥
    none zero e = cc
    none (suc place) e = cc
place_stays zero (y ∷ xs) more x is = is
place_stays (suc place) (y ∷ xs) more x is = place_stays place xs more x is

last_place : {A : Type 0} (xs : List A) (x : A) → at_place (length xs) (xs ++ x ∷ []) ≡ Some x
last_place [] x = refl
last_place (y ∷ xs) x = last_place xs x

stand_more : (by : By) (turns : List Turn) (seen more : List DoorEntry) → StandIn by turns seen → StandIn by turns (seen ++ more)
stand_more by [] seen more stand = tt
stand_more by (AtDoor place act ∷ turns) seen more stand = (place_stays place seen more (record { by = by; act = act }) stand.0, stand_more by turns seen more stand.1)
stand_more by (AtNode node before entry ∷ turns) seen more stand = stand_more by turns seen more stand
stand_more by (AtOffice before entry ∷ turns) seen more stand = stand_more by turns seen more stand

stand_behind : (by : By) (turns : List Turn) (turn : Turn) (seen : List DoorEntry) → StandIn by turns seen → StandIn by (turn ∷ []) seen → StandIn by (turns ++ turn ∷ []) seen
stand_behind by [] turn seen stand last = last
stand_behind by (AtDoor place act ∷ turns) turn seen stand last = (stand.0, stand_behind by turns turn seen stand.1 last)
stand_behind by (AtNode node before entry ∷ turns) turn seen stand last = stand_behind by turns turn seen stand last
stand_behind by (AtOffice before entry ∷ turns) turn seen stand last = stand_behind by turns turn seen stand last

-- ---- what a line did

pub sees_node : (by : By) (turns : List Turn) (node : ℕ) (before : List NodeEntry) (entry : NodeEntry) (seen : List DoorEntry) → SeesOwn by turns seen → SeesOwn by (turns ++ AtNode node before entry ∷ []) seen
sees_node by turns node before entry seen sees = record {
  own = sees.own ∙ sym (flat_map-append (door_entry_in by) turns (AtNode node before entry ∷ []) ∙ append-nil (flat_map (door_entry_in by) turns));
  places = stand_behind by turns (AtNode node before entry) seen sees.places tt;
}

pub sees_door : (by : By) (turns : List Turn) (act : DoorAct) (seen : List DoorEntry) → SeesOwn by turns seen → SeesOwn by (turns ++ AtDoor (length seen) act ∷ []) (seen ++ record { by = by; act = act } ∷ [])
sees_door by turns act seen sees = record {
  own =
      filter-append (λ (e : DoorEntry). same_line by e.by) seen (record { by = by; act = act } ∷ [])
      ∙ ap (λ (b : Bool). own_entries by seen ++ (if b then record { by = by; act = act } ∷ [] else [])) (by_itself by)
      ∙ ap (λ (l : List DoorEntry). l ++ record { by = by; act = act } ∷ []) sees.own
      ∙ sym (flat_map-append (door_entry_in by) turns (AtDoor (length seen) act ∷ []));
  places = stand_behind by turns (AtDoor (length seen) act) (seen ++ record { by = by; act = act } ∷ []) (stand_more by turns seen (record { by = by; act = act } ∷ []) sees.places) (last_place seen (record { by = by; act = act }), tt);
}

pub sees_other : (by : By) (turns : List Turn) (entry : DoorEntry) (seen : List DoorEntry) → IsFalse (same_line by entry.by) → SeesOwn by turns seen → SeesOwn by turns (seen ++ entry ∷ [])
sees_other by turns entry seen strange sees = record {
  own =
      filter-append (λ (e : DoorEntry). same_line by e.by) seen (entry ∷ [])
      ∙ ap (λ (b : Bool). own_entries by seen ++ (if b then entry ∷ [] else [])) strange ∙ append-nil (own_entries by seen) ∙ sees.own;
  places = stand_more by turns seen (entry ∷ []) sees.places;
}
