-- What stands under a name along a history: an entry writes it, or leaves it as it is.
use Rattle.std.proofs.Common.{◌≡◌, ℕ, Bool, true, false, List, [], ◌∷◌, ◌++◌, refl, sym, ap, subst, ◌∙◌, ◌⊎◌, inl, inr, cond}
use Rattle.std.specs.Prelude.{None, Option, Some, if◌then◌else◌, is_none}
use Rattle.std.specs.Cmp.Lexicographic.{pointwise}
use Rattle.std.specs.Option.{option_eq}
use Rattle.std.specs.Str.{bytes_eq}
use Rattle.aft_keeper.specs.declared.keeper.KeeperAnswer.TheVariants.{Absent, Done, Failed, Found, Page}
use Rattle.aft_keeper.specs.declared.keeper.KeeperCall.TheVariants.{Delete, Get, Put, Scan}
use Rattle.aft_keeper.specs.declared.keeper.Pair.{Pair}
use Rattle.aft_keeper.specs.Contents.{IsContents, bytes_at, page_of, with_pair, without}
use Rattle.aft_keeper.proofs.Contents.{bytes_at-with_pair, bytes_at-without}
use Rattle.aft_model.specs.declared.door.DoorAct.{DoorAct}
use Rattle.aft_model.specs.declared.door.DoorAct.TheVariants.{Call}
use Rattle.aft_model.specs.declared.door.DoorEntry.{DoorEntry}
use Rattle.aft_model.specs.Contents.{GoesAlong, held_after, if_shown, same_pair}
use Rattle.aft_model.proofs.Followed.{in_from_Contains, parted}
use Rattle.aft_model.proofs.Histories.{In, in_append}
use Rattle.aft_model.proofs.Sights.{bytes_eq-refl, same_bytes}
use Rattle.law_effects.specs.Effects.{Leaves, Tries, Writes, effect_of}
use Rattle.law_kept.proofs.Fates.{Leaving, NewAt, left_there, only_one}
use Rattle.law_contents.proofs.Held.{may_stand}

same_if_shown : (t : Bool) (now held : List Pair) → In now (if_shown t held) → now ≡ held
same_if_shown true now held (inl is) = is
same_if_shown true now held (inr none) = absurd none
same_if_shown false now held none = absurd none

-- what may be held after one entry
pub after_one : (held now : List Pair) (entry : DoorEntry) → GoesAlong held (entry ∷ []) now → In now (held_after entry.act held)
after_one held now entry along = elim (in_append now (held_after entry.act held) [] (in_from_Contains now _ along)) [ inl here ↦ here | inr none ↦ absurd none ]

pub after_none : (held now : List Pair) → GoesAlong held [] now → now ≡ held
after_none held now along = elim (in_from_Contains now (held ∷ []) along) [ inl is ↦ is | inr none ↦ absurd none ]

module _ (name : List ℕ) where
  abbrev Fate : DoorAct → List Pair → List Pair → Type 0
  Fate act held now = (bytes_at name now ≡ bytes_at name held) ⊎ NewAt name act (bytes_at name now)

  put_done : (node inc : ℕ) (put bytes : List ℕ) (held now : List Pair) → now ≡ with_pair put bytes held → (t : Bool) → bytes_eq name put ≡ t → Fate (Call node inc (Put put bytes) Done) held now
  put_done node inc put bytes held now is true e =
      inr (inl (ap (λ t. if t then Writes (Some bytes) else Leaves) e ∙ ap (λ o. Writes o) (sym (ap (bytes_at name) is ∙ (bytes_at-with_pair name put bytes held ∙ ap (λ t. cond t (Some bytes) (bytes_at name held)) e)))))
  put_done node inc put bytes held now is false e = inl (ap (bytes_at name) is ∙ (bytes_at-with_pair name put bytes held ∙ ap (λ t. cond t (Some bytes) (bytes_at name held)) e))

  put_tried : (node inc : ℕ) (put bytes : List ℕ) (held now : List Pair) → now ≡ with_pair put bytes held → (t : Bool) → bytes_eq name put ≡ t → Fate (Call node inc (Put put bytes) Failed) held now
  put_tried node inc put bytes held now is true e =
      inr (inr (ap (λ t. if t then Tries (Some bytes) else Leaves) e ∙ ap (λ o. Tries o) (sym (ap (bytes_at name) is ∙ (bytes_at-with_pair name put bytes held ∙ ap (λ t. cond t (Some bytes) (bytes_at name held)) e)))))
  put_tried node inc put bytes held now is false e = inl (ap (bytes_at name) is ∙ (bytes_at-with_pair name put bytes held ∙ ap (λ t. cond t (Some bytes) (bytes_at name held)) e))

  is_name : (deleted : List ℕ) → bytes_eq deleted name ≡ true → bytes_eq name deleted ≡ true
  is_name deleted e = subst (λ n. bytes_eq name n ≡ true) (sym (same_bytes deleted name e)) (bytes_eq-refl name)

  delete_done : (node inc : ℕ) (deleted : List ℕ) (held now : List Pair) → now ≡ without deleted held → (t : Bool) → bytes_eq deleted name ≡ t → Fate (Call node inc (Delete deleted) Done) held now
  delete_done node inc deleted held now is true e =
      inr (inl (ap (λ t. if t then Writes None else Leaves) (is_name deleted e) ∙ ap (λ o. Writes o) (sym (ap (bytes_at name) is ∙ (bytes_at-without name deleted held ∙ ap (λ t. cond t None (bytes_at name held)) e)))))
  delete_done node inc deleted held now is false e = inl (ap (bytes_at name) is ∙ (bytes_at-without name deleted held ∙ ap (λ t. cond t None (bytes_at name held)) e))

  delete_tried : (node inc : ℕ) (deleted : List ℕ) (held now : List Pair) → now ≡ without deleted held → (t : Bool) → bytes_eq deleted name ≡ t → Fate (Call node inc (Delete deleted) Failed) held now
  delete_tried node inc deleted held now is true e =
      inr (inr (ap (λ t. if t then Tries None else Leaves) (is_name deleted e) ∙ ap (λ o. Tries o) (sym (ap (bytes_at name) is ∙ (bytes_at-without name deleted held ∙ ap (λ t. cond t None (bytes_at name held)) e)))))
  delete_tried node inc deleted held now is false e = inl (ap (bytes_at name) is ∙ (bytes_at-without name deleted held ∙ ap (λ t. cond t None (bytes_at name held)) e))

  as_before : (held now : List Pair) (act : DoorAct) → now ≡ held → Fate act held now
  as_before held now act is = inl (ap (bytes_at name) is)

  pub held_fate : (held now : List Pair) (act : DoorAct) → In now (held_after act held) → Fate act held now
  held_fate held now (Call node inc (Put put bytes) Done) (inl is) = put_done node inc put bytes held now is (bytes_eq name put) refl
  held_fate held now (Call node inc (Put put bytes) Failed) (inl is) = put_tried node inc put bytes held now is (bytes_eq name put) refl
  held_fate held now (Call node inc (Put put bytes) Failed) (inr (inl is)) = as_before held now (Call node inc (Put put bytes) Failed) is
  held_fate held now (Call node inc (Delete deleted) Done) (inl is) = delete_done node inc deleted held now is (bytes_eq deleted name) refl
  held_fate held now (Call node inc (Delete deleted) Failed) (inl is) = delete_tried node inc deleted held now is (bytes_eq deleted name) refl
  held_fate held now (Call node inc (Delete deleted) Failed) (inr (inl is)) = as_before held now (Call node inc (Delete deleted) Failed) is
  held_fate held now (Call node inc (Get got) Absent) among = as_before held now (Call node inc (Get got) Absent) (same_if_shown (is_none (bytes_at got held)) now held among)
  held_fate held now (Call node inc (Get got) (Found bytes)) among = as_before held now (Call node inc (Get got) (Found bytes)) (same_if_shown (option_eq bytes_eq (bytes_at got held) (Some bytes)) now held among)
  held_fate held now (Call node inc (Get got) Failed) (inl is) = as_before held now (Call node inc (Get got) Failed) is
  held_fate held now (Call node inc (Scan prefix from limit) (Page page)) among = as_before held now (Call node inc (Scan prefix from limit) (Page page)) (same_if_shown (pointwise same_pair (page_of prefix from limit held) page) now held among)
  held_fate held now (Call node inc (Scan prefix from limit) Failed) (inl is) = as_before held now (Call node inc (Scan prefix from limit) Failed) is
  held_fate held now (Call node inc (Put put bytes) Done) (inr none) = absurd none
  held_fate held now (Call node inc (Put put bytes) Failed) (inr (inr none)) = absurd none
  held_fate held now (Call node inc (Delete deleted) Done) (inr none) = absurd none
  held_fate held now (Call node inc (Delete deleted) Failed) (inr (inr none)) = absurd none
  held_fate held now (Call node inc (Get got) Failed) (inr none) = absurd none
  held_fate held now (Call node inc (Scan prefix from limit) Failed) (inr none) = absurd none
  held_fate held now (Call node inc asked answer) none = absurd none
  held_fate held now act (inl is) = as_before held now act is
  held_fate held now act (inr none) = absurd none

  -- where nothing is put under a name, what stands there in the end stood there at first
  pub stood_before : (more : List DoorEntry) (held now : List Pair) (bytes : List ℕ) → GoesAlong held more now → ((e : DoorEntry) → In e more → (b : List ℕ) → NewAt name e.act (Some b) → ⊥) → bytes_at name now ≡ Some bytes → bytes_at name held ≡ Some bytes
  stood_before [] held now bytes along unput there = subst (λ h. bytes_at name h ≡ Some bytes) (after_none held now along) there
  stood_before (entry ∷ more) held now bytes along unput there =
      let cut = parted held now (entry ∷ []) more along in
      let next = stood_before more cut.0 now bytes cut.2 (λ e among. unput e (inr among)) there in
      elim (held_fate held cut.0 entry.act (after_one held cut.0 entry cut.1)) [
        | inl same ↦ sym same ∙ next
        | inr new ↦ absurd (unput entry (inl refl) bytes (subst (NewAt name entry.act) next new))
      ]

  -- where nothing is deleted there, something stands there still
  pub stands_still : (more : List DoorEntry) (held now : List Pair) (bytes : List ℕ) → GoesAlong held more now → ((e : DoorEntry) → In e more → NewAt name e.act None → ⊥) → bytes_at name held ≡ Some bytes → (b : List ℕ) × (bytes_at name now ≡ Some b)
  stands_still [] held now bytes along undeleted there = (bytes, ap (bytes_at name) (after_none held now along) ∙ there)
  stands_still (entry ∷ more) held now bytes along undeleted there =
      let cut = parted held now (entry ∷ []) more along in
      let next = by_bytes cut.0 (bytes_at name cut.0) refl (held_fate held cut.0 entry.act (after_one held cut.0 entry cut.1)) in
      stands_still more cut.0 now next.0 cut.2 (λ e among. undeleted e (inr among)) next.1
    where
      by_bytes : (next : List Pair) (o : Option (List ℕ)) → bytes_at name next ≡ o → (bytes_at name next ≡ bytes_at name held) ⊎ NewAt name entry.act (bytes_at name next) → (b : List ℕ) × (bytes_at name next ≡ Some b)
      by_bytes next (Some b) is fate = (b, is)
      by_bytes next None is (inl same) = absurd (let e = sym is ∙ (same ∙ there) in cc)
      by_bytes next None is (inr new) = absurd (undeleted entry (inl refl) (subst (NewAt name entry.act) is new))

  -- what an entry shows or writes of the name stands there behind it
  pub shown_stands : (at_first now : List Pair) (history : List DoorEntry) (entry : DoorEntry) (o : Option (List ℕ)) → IsContents at_first → GoesAlong at_first (history ++ entry ∷ []) now → Leaving (effect_of name entry.act) o → bytes_at name now ≡ o
  shown_stands at_first now history entry o contents along leaving =
      only_one history entry name o leaving (bytes_at name now) (may_stand at_first now (history ++ entry ∷ []) contents along name (o, left_there history entry name o leaving))
